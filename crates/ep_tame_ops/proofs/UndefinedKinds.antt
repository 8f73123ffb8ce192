-- The faults of expressions are of undefined behaviour.
use Rattle.std.proofs.Common.{◌≡◌, ℕ, Bool, true, false, ◌&&◌, ◌||◌, not, List, [], ◌∷◌, ◌++◌, ⊎_elim, refl, sym, ap, ◌∙◌}
use Rattle.std.specs.Prelude.{nat_lt}
use Rattle.std.proofs.lemmas.Bool.{eqb-true, or_cases}
use Rattle.ep_int.specs.declared.types.BinOp.{BinOp}
use Rattle.ep_int.specs.declared.types.BinOp.TheVariants.{Add, Sub, Mul, Div, Rem, And, Or, Xor, Shl, Shr}
use Rattle.ep_int.specs.declared.types.Cmp.{Cmp}
use Rattle.ep_int.specs.declared.types.Cmp.TheVariants.{Eq, Ne, Lt, Le, Gt, Ge}
use Rattle.ep_int.specs.declared.types.IntType.{IntType}
use Rattle.ep_int.specs.Types.{is_signed}
use Rattle.ep_alarms.specs.declared.types.AlarmKind.{AlarmKind}
use Rattle.ep_alarms.specs.declared.types.AlarmKind.TheVariants.{U1, U2, U3, U4, U5, U6, U7, U8, U9, U10, E1, E2, E3}
use Rattle.ep_alarms.specs.declared.types.AlarmKind.TheVariants.{E4}
use Rattle.ep_alarms.specs.Alarm.{place_of}
use Rattle.ep_core.specs.Program.{Place, block, deref, member, element, Expr, const, null_value, load, addr_of, binary}
use Rattle.ep_core.specs.Program.{convert, compare, ptr_compare, logical_and, logical_or, logical_not, conditional}
use Rattle.ep_core.specs.Program.{ptr_add, cast}
use Rattle.ep_core.proofs.Sorts.{never}
use Rattle.ep_pass.specs.Honest.{AreOf}
use Rattle.ep_pass.specs.Places.{is_kind, is_one_of, operator_kinds, overflow_of, order_kinds, kinds_if, address_kinds}
use Rattle.ep_pass.specs.Places.{read_kinds, access_kinds, is_through, is_indexed, expr_may, place_may}
use Rattle.ep_pass.specs.States.{Fault}
use Rattle.ep_tame_laws.specs.Tamely.{is_undefined}

-- ---- kinds

undefined_is : (k : AlarmKind) → is_undefined k ≡ nat_lt (place_of k) 10
undefined_is U1 = refl
undefined_is U2 = refl
undefined_is U3 = refl
undefined_is U4 = refl
undefined_is U5 = refl
undefined_is U6 = refl
undefined_is U7 = refl
undefined_is U8 = refl
undefined_is U9 = refl
undefined_is U10 = refl
undefined_is E1 = refl
undefined_is E2 = refl
undefined_is E3 = refl
undefined_is E4 = refl

same_kind : (a k : AlarmKind) → is_undefined a ≡ true → is_kind a k ≡ true → is_undefined k ≡ true
same_kind a k h e =
    undefined_is k ∙ ap (λ n. nat_lt n 10) (sym (eqb-true (place_of a) (place_of k) e)) ∙ sym (undefined_is a) ∙ h

abbrev pub AreUndefined : List AlarmKind → Type 0
AreUndefined [] = Unit {0}
AreUndefined (a ∷ kinds) = (is_undefined a ≡ true) × AreUndefined kinds

pub one_of : (kinds : List AlarmKind) → AreUndefined kinds → (k : AlarmKind) → is_one_of kinds k ≡ true
    → is_undefined k ≡ true
one_of [] h k e = never e
one_of (a ∷ kinds) h k e =
    ⊎_elim (λ s. same_kind a k h.0 s) (λ s. one_of kinds h.1 k s) (or_cases (is_kind a k) (is_one_of kinds k) e)

signed_kinds : (t : IntType) → AreUndefined (overflow_of t)
signed_kinds t = at (is_signed t) refl
  where
    some : AreUndefined (U1 ∷ [])
    some = (refl, tt)

    at : (b : Bool) → is_signed t ≡ b → AreUndefined (overflow_of t)
    at true e = rw e some
    at false e = rw e tt

operators : (o : BinOp) (t : IntType) → AreUndefined (operator_kinds o t)
operators Add t = signed_kinds t
operators Sub t = signed_kinds t
operators Mul t = signed_kinds t
operators Div t = (refl, tt)
operators Rem t = (refl, tt)
operators And t = tt
operators Or t = tt
operators Xor t = tt
operators Shl t = (refl, tt)
operators Shr t = (refl, tt)

orders : (c : Cmp) → AreUndefined (order_kinds c)
orders Eq = tt
orders Ne = tt
orders Lt = (refl, tt)
orders Le = (refl, tt)
orders Gt = (refl, tt)
orders Ge = (refl, tt)

kinds_where : (b : Bool) (kinds : List AlarmKind) → AreUndefined kinds → AreUndefined (kinds_if b kinds)
kinds_where true kinds h = h
kinds_where false kinds h = tt

both_kinds : (xs ys : List AlarmKind) → AreUndefined xs → AreUndefined ys → AreUndefined (xs ++ ys)
both_kinds [] ys h i = i
both_kinds (x ∷ xs) ys h i = (h.0, both_kinds xs ys h.1 i)

address : AreUndefined address_kinds
address = (refl, (refl, tt))

pub reads : AreUndefined read_kinds
reads = (refl, (refl, tt))

-- ---- expressions

module _ (strides : Bool) (k : AlarmKind) where
  pub accesses : (a : Place) → AreUndefined (access_kinds strides k a)
  accesses a =
      both_kinds (kinds_if (is_through a) (U5 ∷ U6 ∷ U7 ∷ [])) (kinds_if (not strides && is_indexed a) (U7 ∷ []))
      (kinds_where (is_through a) (U5 ∷ U6 ∷ U7 ∷ []) (refl, (refl, (refl, tt))))
      (kinds_where (not strides && is_indexed a) (U7 ∷ []) (refl, tt))

  pub either : (a b : Bool) → (a ≡ true → is_undefined k ≡ true) → (b ≡ true → is_undefined k ≡ true) → (a || b) ≡ true
      → is_undefined k ≡ true
  either a b f g h = ⊎_elim f g (or_cases a b h)

  mutual
    pub expr_undefined : (e : Expr) → expr_may strides k e ≡ true → is_undefined k ≡ true
    expr_undefined (const t v) h = never h
    expr_undefined null_value h = never h
    expr_undefined (load w a) h =
        either (is_one_of read_kinds k) (is_one_of (access_kinds strides k a) k || place_may strides k a)
        (one_of read_kinds reads k)
        (either (is_one_of (access_kinds strides k a) k) (place_may strides k a)
        (one_of (access_kinds strides k a) (accesses a) k) (place_undefined a)) h
    expr_undefined (addr_of a) h = place_undefined a h
    expr_undefined (binary op t a b) h =
        either (is_one_of (operator_kinds op t) k) (expr_may strides k a || expr_may strides k b)
        (one_of (operator_kinds op t) (operators op t) k)
        (either (expr_may strides k a) (expr_may strides k b) (expr_undefined a) (expr_undefined b)) h
    expr_undefined (convert t e) h = expr_undefined e h
    expr_undefined (compare c t a b) h =
        either (expr_may strides k a) (expr_may strides k b) (expr_undefined a) (expr_undefined b) h
    expr_undefined (ptr_compare c a b) h =
        either (is_one_of (order_kinds c) k) (expr_may strides k a || expr_may strides k b)
        (one_of (order_kinds c) (orders c) k)
        (either (expr_may strides k a) (expr_may strides k b) (expr_undefined a) (expr_undefined b)) h
    expr_undefined (logical_and a b) h =
        either (expr_may strides k a) (expr_may strides k b) (expr_undefined a) (expr_undefined b) h
    expr_undefined (logical_or a b) h =
        either (expr_may strides k a) (expr_may strides k b) (expr_undefined a) (expr_undefined b) h
    expr_undefined (logical_not e) h = expr_undefined e h
    expr_undefined (conditional e a b) h =
        either (expr_may strides k e) (expr_may strides k a || expr_may strides k b) (expr_undefined e)
        (either (expr_may strides k a) (expr_may strides k b) (expr_undefined a) (expr_undefined b)) h
    expr_undefined (ptr_add e unit n back) h =
        either (is_one_of address_kinds k) (expr_may strides k e || expr_may strides k n)
        (one_of address_kinds address k)
        (either (expr_may strides k e) (expr_may strides k n) (expr_undefined e) (expr_undefined n)) h
    expr_undefined (cast e) h = expr_undefined e h

    pub place_undefined : (a : Place) → place_may strides k a ≡ true → is_undefined k ≡ true
    place_undefined (block b) h = never h
    place_undefined (deref e) h = expr_undefined e h
    place_undefined (member a q) h =
        either (is_one_of (kinds_if (is_through a) address_kinds) k) (place_may strides k a)
        (one_of (kinds_if (is_through a) address_kinds) (kinds_where (is_through a) address_kinds address) k)
        (place_undefined a) h
    place_undefined (element a bound unit i) h =
        either (is_one_of address_kinds k) (place_may strides k a || expr_may strides k i)
        (one_of address_kinds address k)
        (either (place_may strides k a) (expr_may strides k i) (place_undefined a) (expr_undefined i)) h

pub faults_undefined : (strides : Bool) (e : Expr) (fs : List Fault) → AreOf (λ k. expr_may strides k e) fs
    → AreOf is_undefined fs
faults_undefined strides e [] h = tt
faults_undefined strides e (f ∷ fs) h =
    (expr_undefined strides f.kind e h.0, faults_undefined strides e fs h.1)
