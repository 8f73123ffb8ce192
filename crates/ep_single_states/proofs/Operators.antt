-- Operators on single numbers give the machine's number alone.
use Rattle.std.proofs.Common.{◌≡◌, ℤ, pos, Bool, true, false, not, IsTrue, Option, Some, None}
use Rattle.ep_pointers.proofs.Answering.{not_le, not_lt, opposite_is}
use Rattle.std.proofs.Common.{IsSomeAnd, MatchResult, Ok, is_some, refl, sym, ◌∙◌, ap, subst, arith}
use Rattle.std.specs.Result.{is_err}
use Rattle.std.proofs.lemmas.Int.{ints}
use Rattle.ep_int.specs.declared.types.IntType.{IntType}
use Rattle.ep_int.specs.declared.types.BinOp.{BinOp}
use Rattle.ep_int.specs.declared.types.Cmp.{Cmp}
use Rattle.ep_int.specs.Arith.{arith_of, compares}
use Rattle.ep_range_laws.specs.Ranges.{LiesIn}
use Rattle.ep_range_laws.specs.Faults.{Takes, MayFault}
use Rattle.ep_domain.specs.Domain.{Ops, IsSingle, Lawful}
use Rattle.ep_pointers.specs.Compare.{opposite}
use Rattle.ep_cells.specs.declared.cell.Value.TheVariants.{Num}
use Rattle.ep_evaluation.specs.Operators.{truth_value, compared, test_of}
use Rattle.ep_reads.proofs.Numbers.{small_number}
use Rattle.ep_single_states.specs.OperatorLaws.{truth_number, OperatorsKeepOne}

lies_single : (r : ℤ × ℤ) (v z : ℤ) → r ≡ (v, v) → LiesIn r z → z ≡ v
lies_single r v z e h =
    let a : r.0 ≡ v = ap (λ (y : ℤ × ℤ). y.0) e in
    let b : r.1 ≡ v = ap (λ (y : ℤ × ℤ). y.1) e in omega (arith, ints, a, b, h.low, h.high)

module _ {N : Type 0} (D : Ops N) (law : Lawful D) where
  no_fault : (o : BinOp) (t : IntType) (a b : N) (x y z : ℤ) → arith_of o t x y ≡ Ok z → IsSingle D a x
      → IsSingle D b y → MayFault o t (D.range a) (D.range b) → ⊥
  no_fault o t a b x y z e h i f =
      let p = lies_single (D.range a) x f.x h f.left in
      let q = lies_single (D.range b) y f.y i f.right in
      let same : arith_of o t f.x f.y ≡ Ok z = ap (λ u. arith_of o t u f.y) p ∙ (ap (arith_of o t x) q ∙ e) in
      let g : false ≡ true = ap is_err (sym same) ∙ f.undefined in absurd cc

  false_by : (t : Bool) → (IsTrue t → ⊥) → t ≡ false
  false_by true h = absurd (h refl)
  false_by false h = refl

  operator_one : (o : BinOp) (t : IntType) (a b : N) (x y z : ℤ) → Takes o t x y → arith_of o t x y ≡ Ok z
      → IsSingle D a x → IsSingle D b y
      → ((D.op o t a b).fault ≡ false) × IsSomeAnd (D.op o t a b).value (λ c. IsSingle D c z)
  operator_one o t a b x y z takes e h i = (
    false_by (D.op o t a b).fault (λ f. no_fault o t a b x y z e h i (law.op_faults o t a b f)),
    subst
        (λ r. MatchResult r (λ v. IsSomeAnd (D.op o t a b).value (λ c. IsSingle D c v))
        (λ _. (D.op o t a b).value ≡ None))
        e (law.op_single o t a b x y takes h i),
  )

  some_and : {A : Type 0} (o : Option A) (P : A → Type 0) → IsSomeAnd o P → is_some o ≡ true
  some_and None P h = absurd h
  some_and (Some a) P h = refl

  filter_one : (c : Cmp) (a b : N) (x y : ℤ) → IsSingle D a x → IsSingle D b y
      → is_some (D.filter c a b) ≡ compares c x y
  filter_one c a b x y h i = by_test (compares c x y) refl
    where
      by_test : (t : Bool) → compares c x y ≡ t → is_some (D.filter c a b) ≡ compares c x y
      by_test true e =
          some_and (D.filter c a b) _ (law.filter_holds c a b x y e (law.range_single a x h) (law.range_single b y i))
          ∙ sym e
      by_test false e = ap is_some (law.filter_single c a b x y e h i) ∙ sym e

module _ {N : Type 0} (D : Ops N) (law : Lawful D) where
  truth_one : (t : Bool) → truth_value D t (not t) ≡ Some (Num (D.single (truth_number t)))
  truth_one true = refl
  truth_one false = refl

  compare_one : (c : Cmp) (a b : N) (x y : ℤ) → IsSingle D a x → IsSingle D b y
      → compared D c (Some a) (Some b) ≡ Some (Num (D.single (truth_number (compares c x y))))
  compare_one c a b x y h i =
      ap (λ t. truth_value D t (is_some (D.filter (opposite c) a b))) (filter_one D law c a b x y h i)
      ∙ (ap (truth_value D (compares c x y)) (filter_one D law (opposite c) a b x y h i ∙ opposite_is c x y)
      ∙ truth_one (compares c x y))

  pub operators_keep_one : OperatorsKeepOne D
  operators_keep_one = record {
    operator = operator_one D law;
    filter = filter_one D law;
    compare = compare_one;
    test = λ n z t h.
        filter_one D law (test_of t) n (D.single (pos 0)) z (pos 0) h
        (law.single_range (pos 0) (small_number 0 (omega arith)));
  }
