-- Lists of faults whose kinds pass a test.
use Rattle.std.proofs.Common.{◌≡◌, ℤ, Bool, true, false, ◌&&◌, ◌||◌, List, [], ◌∷◌, ◌++◌, map, Option, Some, None}
use Rattle.std.proofs.Common.{refl, sym, ap, ◌∙◌, subst}
use Rattle.std.proofs.lemmas.Bool.{false_from_ne_true}
use Rattle.ep_int.specs.declared.types.BinOp.{BinOp}
use Rattle.ep_int.specs.declared.types.BinOp.TheVariants.{Add, Sub, Mul, Div, Rem, And, Or, Xor, Shl, Shr}
use Rattle.ep_int.specs.declared.types.Cmp.{Cmp}
use Rattle.ep_int.specs.declared.types.Cmp.TheVariants.{Eq, Ne, Lt, Le, Gt, Ge}
use Rattle.ep_int.specs.declared.types.IntType.{IntType}
use Rattle.ep_int.specs.Types.{is_signed}
use Rattle.ep_int.specs.Arith.{arith_of}
use Rattle.std.specs.Prelude.{is_err}
use Rattle.ep_alarms.specs.declared.types.AlarmKind.{AlarmKind}
use Rattle.ep_alarms.specs.declared.types.AlarmKind.TheVariants.{U8}
use Rattle.ep_domain.specs.Domain.{Ops, Lawful}
use Rattle.ep_pointers.specs.Value.{Pointers}
use Rattle.ep_pointers.specs.Compare.{may_be_alike, may_be_apart, elsewhere}
use Rattle.ep_core.specs.Runs.{Side, left, right}
use Rattle.ep_pass.specs.Honest.{AreOf}
use Rattle.ep_pass.specs.Places.{is_one_of, operator_kinds, order_kinds}
use Rattle.ep_equalities.specs.declared.pair.Mode.{Mode}
use Rattle.ep_equalities.specs.declared.pair.Mode.TheVariants.{Both, Left, Right}
use Rattle.ep_equalities.specs.declared.pair.Fault.{Fault}
use Rattle.ep_equalities.specs.declared.pair.PairValue.{PairValue}
use Rattle.ep_evaluation.specs.Given.{on, Shown, fault_of, faults_on, shown_if, shows_if}
use Rattle.ep_evaluation.specs.Operators.{kind_of, outcome_of, truths_of}
use Rattle.ep_evaluation.specs.Evaluation.{told, pointer, number, outcome, binary_shown, truths}
use Rattle.ep_alarm_laws.proofs.Named.{AreKinds}

pub both_kinds : (t : AlarmKind → Bool) (xs ys : List Fault) → AreKinds t xs → AreKinds t ys → AreKinds t (xs ++ ys)
both_kinds t [] ys h i = i
both_kinds t (x ∷ xs) ys h i = (h.0, both_kinds t xs ys h.1 i)

pub first_kinds : (t : AlarmKind → Bool) (xs ys : List Fault) → AreKinds t (xs ++ ys) → AreKinds t xs
first_kinds t [] ys h = tt
first_kinds t (x ∷ xs) ys h = (h.0, first_kinds t xs ys h.1)

pub second_kinds : (t : AlarmKind → Bool) (xs ys : List Fault) → AreKinds t (xs ++ ys) → AreKinds t ys
second_kinds t [] ys h = h
second_kinds t (x ∷ xs) ys h = second_kinds t xs ys h.1

pub wider_kinds : (t u : AlarmKind → Bool) (xs : List Fault) → ((k : AlarmKind) → t k ≡ true → u k ≡ true)
    → AreKinds t xs → AreKinds u xs
wider_kinds t u [] f h = tt
wider_kinds t u (x ∷ xs) f h = (f x.kind h.0, wider_kinds t u xs f h.1)

pub told_kinds : {N : Type 0} (D : Ops N) (t : AlarmKind → Bool) (xs : List Fault) → AreKinds t xs
    → AreOf t (map (told D) xs)
told_kinds D t [] h = tt
told_kinds D t (x ∷ xs) h = (h.0, told_kinds D t xs h.1)

pub no_kinds : (t : AlarmKind → Bool) (xs : List Fault) → xs ≡ [] → AreKinds t xs
no_kinds t xs e = subst (AreKinds t) (sym e) tt

-- faults of one kind that may come
fault_kind : (t : AlarmKind → Bool) (k : AlarmKind) (a b : Shown) → t k ≡ true → AreKinds t (fault_of k a b)
fault_kind t k None None h = tt
fault_kind t k (Some a) None h = (h, tt)
fault_kind t k None (Some b) h = (h, tt)
fault_kind t k (Some a) (Some b) h = (h, tt)

pub one_kind : (t : AlarmKind → Bool) (m : Mode) (k : AlarmKind) (f : Side → Shown) → t k ≡ true
    → AreKinds t (faults_on m k f)
one_kind t Both k f h = fault_kind t k (f left) (f right) h
one_kind t Left k f h = fault_kind t k (f left) None h
one_kind t Right k f h = fault_kind t k None (f right) h

-- and of one that never does
fault_silent : (t : AlarmKind → Bool) (k : AlarmKind) (a b : Shown) → a ≡ None → b ≡ None → AreKinds t (fault_of k a b)
fault_silent t k None None e f = tt
fault_silent t k (Some a) b e f = absurd (cc)
fault_silent t k None (Some b) e f = absurd (cc)

pub silent_kind : (t : AlarmKind → Bool) (m : Mode) (k : AlarmKind) (f : Side → Shown) → ((s : Side) → f s ≡ None)
    → AreKinds t (faults_on m k f)
silent_kind t Both k f h = fault_silent t k (f left) (f right) (h left) (h right)
silent_kind t Left k f h = fault_silent t k (f left) None (h left) refl
silent_kind t Right k f h = fault_silent t k None (f right) refl (h right)

-- ---- operators

module _ {N : Type 0} (D : Ops N) (law : Lawful D) where
  never_shown : (o : BinOp) (t : IntType) → ((x y : ℤ) → is_err (arith_of o t x y) ≡ false) → (a b : Option N)
      → (outcome_of D o t a b).fault ≡ false
  never_shown o t h None b = refl
  never_shown o t h (Some a) None = refl
  never_shown o t h (Some a) (Some b) =
      false_from_ne_true (outcome_of D o t (Some a) (Some b)).fault
      (λ e. absurd (let m = law.op_faults o t a b e in
      let f : true ≡ false = sym m.undefined ∙ h m.x m.y in cc))

  silent_operator : (test : AlarmKind → Bool) (o : BinOp) (t : IntType) (m : Mode) (x y : PairValue N)
      → ((x y : ℤ) → is_err (arith_of o t x y) ≡ false)
      → AreKinds test (faults_on m (kind_of o) (λ s. binary_shown D o t (on x s) (on y s)))
  silent_operator test o t m x y h =
      silent_kind test m (kind_of o) (λ s. binary_shown D o t (on x s) (on y s))
      (λ s. ap (λ b. shows_if b (outcome D o t (on x s) (on y s)).shown)
      (never_shown o t h (number D (on x s)) (number D (on y s))))

  -- `+ - *` of an unsigned type never overflow
  overflow_by : (test : AlarmKind → Bool) (o : BinOp) (t : IntType) (m : Mode) (x y : PairValue N) → (b : Bool)
      → is_signed t ≡ b → (b ≡ true → test (kind_of o) ≡ true)
      → (b ≡ false → (x y : ℤ) → is_err (arith_of o t x y) ≡ false)
      → AreKinds test (faults_on m (kind_of o) (λ s. binary_shown D o t (on x s) (on y s)))
  overflow_by test o t m x y true e f g = one_kind test m (kind_of o) _ (f refl)
  overflow_by test o t m x y false e f g = silent_operator test o t m x y (g refl)

  pub operator_kind : (rest : AlarmKind → Bool) (o : BinOp) (t : IntType) (m : Mode) (x y : PairValue N)
      → AreKinds (λ k. is_one_of (operator_kinds o t) k || rest k)
      (faults_on m (kind_of o) (λ s. binary_shown D o t (on x s) (on y s)))
  operator_kind rest Add t m x y =
      overflow_by _ Add t m x y (is_signed t) refl (λ e. rw e refl) (λ e a b. rw e refl)
  operator_kind rest Sub t m x y =
      overflow_by _ Sub t m x y (is_signed t) refl (λ e. rw e refl) (λ e a b. rw e refl)
  operator_kind rest Mul t m x y =
      overflow_by _ Mul t m x y (is_signed t) refl (λ e. rw e refl) (λ e a b. rw e refl)
  operator_kind rest Div t m x y = one_kind _ m (kind_of Div) _ refl
  operator_kind rest Rem t m x y = one_kind _ m (kind_of Rem) _ refl
  operator_kind rest And t m x y = silent_operator _ And t m x y (λ a b. refl)
  operator_kind rest Or t m x y = silent_operator _ Or t m x y (λ a b. refl)
  operator_kind rest Xor t m x y = silent_operator _ Xor t m x y (λ a b. refl)
  operator_kind rest Shl t m x y = one_kind _ m (kind_of Shl) _ refl
  operator_kind rest Shr t m x y = one_kind _ m (kind_of Shr) _ refl

  -- ---- pointers that are compared for equality always have an answer

  never_both : (a b : Bool) → (a && false || b && false) ≡ false
  never_both true true = refl
  never_both true false = refl
  never_both false true = refl
  never_both false false = refl

  never_mixed : (c : Cmp) → ((p q : Pointers N) → elsewhere c None p q ≡ false) → (p q : Option (Pointers N))
      → (truths_of D c p q).mixed ≡ false
  never_mixed c h None q = refl
  never_mixed c h (Some p) None = refl
  never_mixed c h (Some p) (Some q) = h p q

  silent_order : (test : AlarmKind → Bool) (c : Cmp) (m : Mode) (x y : PairValue N)
      → ((p q : Pointers N) → elsewhere c None p q ≡ false)
      → AreKinds test (faults_on m U8 (λ s. shown_if (truths D c (on x s) (on y s)).mixed))
  silent_order test c m x y h =
      silent_kind test m U8 (λ s. shown_if (truths D c (on x s) (on y s)).mixed)
      (λ s. ap shown_if (never_mixed c h (pointer D (on x s)) (pointer D (on y s))))

  pub order_kind : (rest : AlarmKind → Bool) (c : Cmp) (m : Mode) (x y : PairValue N)
      → AreKinds (λ k. is_one_of (order_kinds c) k || rest k)
      (faults_on m U8 (λ s. shown_if (truths D c (on x s) (on y s)).mixed))
  order_kind rest Eq m x y = silent_order _ Eq m x y (λ p q. never_both (may_be_alike p q) (may_be_apart p q))
  order_kind rest Ne m x y = silent_order _ Ne m x y (λ p q. never_both (may_be_alike p q) (may_be_apart p q))
  order_kind rest Lt m x y = one_kind _ m U8 _ refl
  order_kind rest Le m x y = one_kind _ m U8 _ refl
  order_kind rest Gt m x y = one_kind _ m U8 _ refl
  order_kind rest Ge m x y = one_kind _ m U8 _ refl
