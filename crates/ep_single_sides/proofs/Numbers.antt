-- Arithmetic, conversions and comparisons of single numbers, on one side.
use Rattle.std.proofs.Common.{◌≡◌, ℤ, Bool, true, false, Option, Some, None, IsSomeAnd, Ok, refl, sym, ap, ◌∙◌, subst}
use Rattle.std.proofs.Common.{arith}
use Rattle.std.specs.Option.{option_map}
use Rattle.std.proofs.lemmas.Int.{ints}
use Rattle.ep_int.specs.declared.types.IntType.{IntType}
use Rattle.ep_int.specs.declared.types.BinOp.{BinOp}
use Rattle.ep_int.specs.declared.types.Cmp.{Cmp}
use Rattle.ep_int.specs.declared.types.Scalar.TheVariants.{Int}
use Rattle.ep_int.specs.Arith.{arith_of, compares, IsOfSomeType, IsRightOperand}
use Rattle.ep_int.specs.Types.{InRange, wrapped}
use Rattle.ep_int.specs.Memory.{int}
use Rattle.ep_domain.specs.Domain.{Ops, Lawful, IsSingle}
use Rattle.ep_cells.specs.declared.cell.Value.{Value}
use Rattle.ep_cells.specs.declared.cell.Value.TheVariants.{Num, Ptr}
use Rattle.ep_cells.specs.Meaning.{Allows}
use Rattle.ep_equalities.specs.declared.pair.SideValue.{SideValue}
use Rattle.ep_evaluation.specs.Given.{shows_if}
use Rattle.ep_evaluation.specs.Operators.{number_in, outcome_of, compared}
use Rattle.ep_evaluation.specs.Evaluation.{binary_side, binary_shown, compare_side, convert_side}
use Rattle.ep_singles.specs.Cells.{IsOneValue, one_number}
use Rattle.ep_singles.proofs.Bytes.{held_single}
use Rattle.ep_single_states.specs.OperatorLaws.{truth_number, OperatorsKeepOne}
use Rattle.ep_single_sides.specs.Laws.{IsOneAs}

small_truth : (b : Bool) → IsOfSomeType (truth_number b)
small_truth true = record { low = omega (arith, ints); high = omega (arith, ints) }
small_truth false = record { low = omega (arith, ints); high = omega (arith, ints) }

module _ {N : Type 0} (D : Ops N) (law : Lawful D) where
  -- a number alone
  pub record IsOneNumber (t : IntType) (o : Option (Value N)) (z : ℤ) : Type 0 where
    pub n : N
    pub is : o ≡ Some (Num n)
    pub range : InRange t z
    pub single : IsSingle D n z

  pub number_of : (t : IntType) (o : Option (Value N)) (z : ℤ) → IsOneValue D o
      → Allows D (Int t) o false (Some (int z)) → IsOneNumber t o z
  number_of t None z i a = elim i [ ]
  number_of t (Some (Num n)) z (one_number _ y e) a = record {
    n = n;
    is = refl;
    range = a.0;
    single = subst (IsSingle D n) (sym (held_single D law n y z e a.1)) e;
  }
  number_of t (Some (Ptr p)) z i a = absurd a

  -- the value of a truth
  pub one_truth : (b : Bool) → IsOneValue D (Some (Num (D.single (truth_number b))))
  one_truth b =
      one_number (D.single (truth_number b)) (truth_number b) (law.single_range (truth_number b) (small_truth b))

  some_one : (o : Option N) (z : ℤ) → IsSomeAnd o (λ c. IsSingle D c z) → IsOneValue D (option_map Num o)
  some_one None z h = absurd h
  some_one (Some c) z h = one_number c z h

  module _ (keep : OperatorsKeepOne D) where
    pub binary_one : (o : BinOp) (t r : IntType) → ((y : ℤ) → InRange r y → IsRightOperand o t y) → (x y : SideValue N)
        (a b c : ℤ) → IsOneAs D (Int t) x (int a) → IsOneAs D (Int r) y (int b) → arith_of o t a b ≡ Ok c
        → (binary_shown D o t x y ≡ None) × IsOneValue D (binary_side D o t x y).value
    binary_one o t r takes x y a b c ax ay e =
        let i = number_of t x.value a ax.one ax.allowed in
        let j = number_of r y.value b ay.one ay.allowed in
        let k = keep.operator o t i.n j.n a b c (record { left = i.range; right = takes b j.range }) e i.single j.single
        in (
          ap (λ (v : Option (Value N)). shows_if (outcome_of D o t (number_in v) (number_in y.value)).fault
              (outcome_of D o t (number_in v) (number_in y.value)).shown) i.is
              ∙ ap (λ (v : Option (Value N)). shows_if (outcome_of D o t (Some i.n) (number_in v)).fault
              (outcome_of D o t (Some i.n) (number_in v)).shown) j.is
              ∙ ap (λ f. shows_if f (D.op o t i.n j.n).shown) k.0,
          subst (λ (v : Option (Value N)). IsOneValue D (option_map Num (outcome_of D o t (number_in v)
              (number_in y.value)).value)) (sym i.is)
              (subst (λ (v : Option (Value N)). IsOneValue D (option_map Num (outcome_of D o t (Some i.n)
              (number_in v)).value)) (sym j.is)
              (some_one (D.op o t i.n j.n).value c k.1)),
        )

    pub compare_one : (c : Cmp) (t : IntType) (x y : SideValue N) (a b : ℤ) → IsOneAs D (Int t) x (int a)
        → IsOneAs D (Int t) y (int b) → IsOneValue D (compare_side D c x y).value
    compare_one c t x y a b ax ay =
        let i = number_of t x.value a ax.one ax.allowed in
        let j = number_of t y.value b ay.one ay.allowed in
        subst (λ v. IsOneValue D (compared D c (number_in v) (number_in y.value))) (sym i.is)
        (subst (λ v. IsOneValue D (compared D c (Some i.n) (number_in v))) (sym j.is)
        (subst (IsOneValue D) (sym (keep.compare c i.n j.n a b i.single j.single)) (one_truth (compares c a b))))

  pub convert_one : (r t : IntType) (x : SideValue N) (a : ℤ) → IsOneAs D (Int r) x (int a)
      → IsOneValue D (convert_side D (Some r) t x).value
  convert_one r t x a ax =
      let i = number_of r x.value a ax.one ax.allowed in
      subst (λ (v : Option (Value N)). IsOneValue D (option_map (λ n. Num (D.convert n t)) (number_in v))) (sym i.is)
      (one_number (D.convert i.n t) (wrapped t a) (law.convert_single i.n t a i.single))
