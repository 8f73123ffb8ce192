-- Values as operands of operators: numbers, addresses, conversions.
use Rattle.std.proofs.Common.{◌≡◌, ℕ, zero, suc, ◌+◌, ◌-◌, ◌<◌, nat_lt, Bool, true, false, ◌&&◌, not}
use Rattle.ep_operands.proofs.Sound.{not_pointer}
use Rattle.ep_typing.specs.SameTypes.{int_itself}
use Rattle.ep_typing.specs.SameTypes.{same_types}
use Rattle.std.proofs.lemmas.Bool.{not-false}
use Rattle.std.proofs.lemmas.Bool.{and_from}
use Rattle.std.proofs.lemmas.Option.{slice_get_within}
use Rattle.std.proofs.Common.{if◌then◌else◌, List, length, option_and_then, Option, Some, None, Ok, refl, sym, ap}
use Rattle.std.proofs.Common.{subst, ◌⊎◌, inl, inr, arith}
use Rattle.std.proofs.lemmas.Bool.Decides.{nat_tests}
use Rattle.std.proofs.lemmas.Bool.{and_parts, eqb-true}
use Rattle.ep_int.specs.declared.types.IntType.{IntType}
use Rattle.ep_layout.specs.declared.types.Ty.TheVariants as rows
use Rattle.ep_layout.specs.Table.{Table, number_of}
use Rattle.ep_core.specs.Program as core
use Rattle.ep_core.specs.Program.{Block, Expr}
use Rattle.ep_core.specs.WellFormed as formed
use Rattle.ep_core.specs.WellFormed.{has_sort, integer, is_same_type, pointer_to as pointing, int_type_of, is_test}
use Rattle.ep_core.proofs.Sorts.{same_type}
use Rattle.ep_typing.specs.declared.types.Base.TheVariants as bases
use Rattle.ep_typing.specs.declared.types.CType.{CType}
use Rattle.ep_typing.specs.Types.{int_of, int_type, is_int_base, is_integer, is_pointer, is_same}
use Rattle.ep_typing.specs.Types.{is_scalar, pointer_to, target, void_pointer}
use Rattle.ep_typing.specs.Operand.{Value, as_pointer, as_type, are_scalars, converted, fitted, is_foreign, is_mixed}
use Rattle.ep_typing.specs.Operand.{tested}
use Rattle.ep_typing.specs.Operators.{bare}
use Rattle.ep_well_formed_laws.specs.Numbers.{HasNumber, IsMade, may_be, number_behind, number_of_base, type_number}
use Rattle.ep_well_formed_laws.specs.Operands.{Computes, ValueFits}
use Rattle.ep_well_formed_laws.proofs.Tables.{row_at, target_number}
use Rattle.ep_well_formed_laws.proofs.Additions.{base_below}
use Rattle.ep_well_formed_laws.proofs.Tests.{both_not, given, int_is, number_tested}
use Rattle.ep_well_formed_laws.proofs.Tests.{pointer_is, pointer_tested, unless}

-- ---- types

pub scalar_is : (c : CType) → is_scalar c ≡ true → (is_pointer c ≡ true) ⊎ ((is_pointer c ≡ false) × (is_integer c ≡ true))
scalar_is c h = by (is_pointer c) refl
  where
    by : (p : Bool) → is_pointer c ≡ p → (is_pointer c ≡ true) ⊎ ((is_pointer c ≡ false) × (is_integer c ≡ true))
    by true q = inl q
    by false q = inr (q, let k : is_int_base c.base ≡ true = (rw q at h) in rw q k)

pub more_stars : (k : ℕ) → nat_lt 0 (k + 1) ≡ true
more_stars k = grind (arith, nat_tests)

pub target_is : (c : CType) → target (pointer_to c) ≡ c
target_is c = let e : c.stars + 1 - 1 ≡ c.stars = omega arith in ap (λ (k : ℕ). record { base = c.base; stars = k }) e

-- ---- numbers of types

pub number_below : (t : Table) (c : CType) (n : ℕ) → type_number t c ≡ Some n → n < length t.types
number_below t c n h = by c.stars h
  where
    by : (k : ℕ) → number_behind t (number_of_base t c.base) k ≡ Some n → n < length t.types
    by zero e = base_below t c.base n e
    by (suc k) e = by_target (number_behind t (number_of_base t c.base) k) e
      where
        by_target : (o : Option ℕ) → option_and_then (λ m. number_of t (rows.Ptr m)) o ≡ Some n → n < length t.types
        by_target None q = absurd cc
        by_target (Some m) q = slice_get_within t.types n (rows.Ptr m) (row_at t (rows.Ptr m) n q)

pub same_number : (n ty : ℕ) → may_be (Some n) ty ≡ true → n ≡ ty
same_number n ty h = eqb-true n ty h

pub self_may_be : (n : ℕ) → may_be (Some n) n ≡ true
self_may_be n = grind (arith, nat_tests)

-- what holds of the numbers that a type may have holds of one of the table
pub some_number : (t : Table) → 0 < length t.types → (c : CType)
    → (ty : ℕ) × (may_be (type_number t c) ty ≡ true) × (ty < length t.types)
some_number t l c = by (type_number t c) refl
  where
    by : (o : Option ℕ) → type_number t c ≡ o → (ty : ℕ) × (may_be (type_number t c) ty ≡ true) × (ty < length t.types)
    by None q = (0, rw q refl, l)
    by (Some n) q = (n, rw q (self_may_be n), number_below t c n q)

pub target_made : (t : Table) (c : CType) → HasNumber t c → is_pointer c ≡ true → IsMade t (target c)
target_made t c h p = let s = target_number t c h.0 p h.1 in inr (s.0, s.1)

-- ---- among these types and blocks

module _ (t : Table) (bs : List Block) (seen : List ℕ) (some : 0 < length t.types) where
  abbrev S : Expr → formed.Sort → Bool
  S = has_sort t bs seen

  pub number_fits : (e : Expr) (c : CType) → is_integer c ≡ true → S e (integer (int_of c)) ≡ true
      → Computes t bs seen e c
  number_fits e c p h = record {
    number = λ q. h;
    made = λ q. both_not (is_pointer c) q (not_pointer c p);
    points = λ q ty m. both_not (is_pointer c) q (not_pointer c p);
  }

  pub int_fits : (e : Expr) (i : IntType) → S e (integer i) ≡ true → Computes t bs seen e (int_type i)
  int_fits e i h = number_fits e (int_type i) refl h

  pub pointer_fits : (e : Expr) (c : CType) → is_pointer c ≡ true → IsMade t (target c)
      → ((ty : ℕ) → may_be (type_number t (target c)) ty ≡ true → S e (pointing ty) ≡ true) → Computes t bs seen e c
  pointer_fits e c p m h = record {
    number = λ q. both_not (is_pointer c) p (not_pointer c q);
    made = λ q. m;
    points = λ q. h;
  }

  -- a pointer to a type
  pub to_type_fits : (e : Expr) (c : CType) → IsMade t c
      → ((ty : ℕ) → may_be (type_number t c) ty ≡ true → S e (pointing ty) ≡ true) → Computes t bs seen e (pointer_to c)
  to_type_fits e c m h =
      pointer_fits e (pointer_to c) (more_stars c.stars) (subst (IsMade t) (sym (target_is c)) m)
      (subst (λ (d : CType). (ty : ℕ) → may_be (type_number t d) ty ≡ true → S e (pointing ty) ≡ true)
      (sym (target_is c)) h)

  pub null_fits : Computes t bs seen core.null_value void_pointer
  null_fits = pointer_fits core.null_value void_pointer refl (inl refl) (λ ty m. refl)

  -- ---- addresses

  pub address_is : (e : Expr) (c : CType) → Computes t bs seen e c → is_pointer c ≡ true
      → formed.is_pointer t bs seen (S e) ≡ true
  address_is e c h p =
      let n = some_number t some (target c) in pointer_is t bs seen (S e) n.0 n.2 (h.points p n.0 n.1)

  pub null_is : formed.is_pointer t bs seen (S core.null_value) ≡ true
  null_is = pointer_is t bs seen (S core.null_value) 0 some refl

  -- a pointer, or a null constant
  abbrev pub IsAddress : Value → Type 0
  IsAddress v = (is_pointer v.ty ≡ true) ⊎ (v.is_null ≡ true)

  pub bare_is : (v : Value) → ValueFits t bs seen v → IsAddress v → formed.is_pointer t bs seen (S (bare v)) ≡ true
  bare_is v h a = by v.is_null refl
    where
      by : (b : Bool) → v.is_null ≡ b → formed.is_pointer t bs seen (S (bare v)) ≡ true
      by true q = rw q null_is
      by false q = rw q (elim a [
        | inl p ↦ address_is v.expr v.ty h p
        | inr p ↦ both_not v.is_null p q
      ])

  pub as_pointer_is : (c : CType) (v : Value) → ValueFits t bs seen v → is_pointer c ≡ true → IsAddress v → (ty : ℕ)
      → may_be (type_number t (target c)) ty ≡ true → S (as_pointer c v) (pointing ty) ≡ true
  as_pointer_is c v h p a ty m = by v.is_null refl
    where
      by_type : (b : Bool) → is_same c v.ty ≡ b → is_pointer v.ty ≡ true
          → S (if b then v.expr else core.cast v.expr) (pointing ty) ≡ true
      by_type true q r = h.points r ty (subst (λ (d : CType). may_be (type_number t (target d)) ty ≡ true) (same_types c v.ty q) m)
      by_type false q r = address_is v.expr v.ty h r

      by : (b : Bool) → v.is_null ≡ b → S (as_pointer c v) (pointing ty) ≡ true
      by true q = rw q refl
      by false q = rw q (elim a [
        | inl r ↦ by_type (is_same c v.ty) refl r
        | inr r ↦ both_not v.is_null r q
      ])

  -- ---- numbers

  pub converted_is : (i : IntType) (v : Value) → ValueFits t bs seen v → is_integer v.ty ≡ true
      → S (converted i v) (integer i) ≡ true
  converted_is i v h p = by (is_same_type i (int_of v.ty)) refl
    where
      by : (b : Bool) → is_same_type i (int_of v.ty) ≡ b
          → S (if b then v.expr else core.convert i v.expr) (integer i) ≡ true
      by true q = subst (λ (j : IntType). S v.expr (integer j) ≡ true) (sym (same_type i (int_of v.ty) q)) (h.number p)
      by false q = and_from _ _ (int_itself i) (int_is t bs seen v.expr (int_of v.ty) (h.number p))

  pub scalar_tested : (v : Value) → ValueFits t bs seen v → is_scalar v.ty ≡ true
      → is_test t bs seen (int_type_of v.expr) (S v.expr) ≡ true
  scalar_tested v h s = elim (scalar_is v.ty s) [
    | inl p ↦ pointer_tested t bs seen v.expr (address_is v.expr v.ty h p)
    | inr p ↦ number_tested t bs seen v.expr (int_of v.ty) (h.number p.1)
  ]

  pub tested_is : (v : Value) (e : Expr) → ValueFits t bs seen v → tested v ≡ Ok e
      → is_test t bs seen (int_type_of e) (S e) ≡ true
  unfolding tested
  tested_is v e h q =
      let g = given (is_scalar v.ty) v.expr e 32 q in
      subst (λ (x : Expr). is_test t bs seen (int_type_of x) (S x) ≡ true) g.1 (scalar_tested v h g.0)

  -- ---- conversions

  -- a scalar that isn't mixed with a pointer type is an address
  pub unmixed_address : (c : CType) (v : Value) → is_pointer c ≡ true → is_scalar v.ty ≡ true → is_mixed c v ≡ false
      → IsAddress v
  unmixed_address c v p s m = elim (scalar_is v.ty s) [
    | inl q ↦ inl q
    | inr q ↦ inr (not-false v.is_null (let k : (is_integer v.ty && not v.is_null) ≡ false = (rw p at m) in rw q.1 at k))
  ]

  pub as_type_fits : (c : CType) (v : Value) → ValueFits t bs seen v → is_scalar c ≡ true → is_scalar v.ty ≡ true
      → is_mixed c v ≡ false → (is_pointer c ≡ true → IsMade t (target c)) → Computes t bs seen (as_type c v) c
  as_type_fits c v h s u m made = elim (scalar_is c s) [
    | inl p ↦ pointer_fits (as_type c v) c p (made p)
        (λ ty k. rw p (as_pointer_is c v h p (unmixed_address c v p u m) ty k))
    | inr p ↦ number_fits (as_type c v) c p.1 (rw p.0 (converted_is (int_of c) v h (number_too p.0)))
  ]
    where
      number_too : is_pointer c ≡ false → is_integer v.ty ≡ true
      number_too p = elim (scalar_is v.ty u) [
        | inl q ↦ both_not (is_pointer v.ty) q (rw p at m)
        | inr q ↦ q.1
      ]

  pub fitted_fits : (c : CType) (v : Value) (e : Expr) → ValueFits t bs seen v → (is_pointer c ≡ true → IsMade t (target c))
      → fitted c v ≡ Ok e → (is_scalar c ≡ true) × Computes t bs seen e c
  unfolding fitted
  fitted_fits c v e h made q =
      let a = unless (not (are_scalars c v.ty)) 32 _ e q in
      let b = unless (is_mixed c v) 34 _ e a.1 in
      let d = unless (is_foreign c v) 44 _ e b.1 in
      let s = and_parts (is_scalar c) (is_scalar v.ty) (not-false (are_scalars c v.ty) a.0) in
      let same : as_type c v ≡ e = cc in
      (s.0, subst (λ (x : Expr). Computes t bs seen x c) same (as_type_fits c v h s.0 s.1 b.0 made))
