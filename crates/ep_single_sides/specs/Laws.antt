-- Operators on values that can be one alone, on one side (C11 6.3.1.3, 6.5; the values are this project's rules).
use Rattle.std.specs.Prelude.{◌≡◌, ℤ, Bool, false, not, None, Ok, Some}
use Rattle.ep_int.specs.declared.types.IntType.{IntType}
use Rattle.ep_int.specs.declared.types.BinOp.{BinOp}
use Rattle.ep_int.specs.declared.types.Cmp.{Cmp}
use Rattle.ep_int.specs.declared.types.Scalar.{Scalar}
use Rattle.ep_int.specs.declared.types.Scalar.TheVariants.{Int, Pointer}
use Rattle.ep_int.specs.Arith.{arith_of, IsRightOperand}
use Rattle.ep_int.specs.Types.{InRange}
use Rattle.ep_int.specs.Memory.{Value as Datum, int, has}
use Rattle.ep_domain.specs.Domain.{Ops}
use Rattle.ep_cells.specs.Meaning.{Allows}
use Rattle.ep_core.specs.Exec.{is_true, pointers_compare}
use Rattle.ep_equalities.specs.declared.pair.SideValue.{SideValue}
use Rattle.ep_evaluation.specs.Given.{nothing, shown_if}
use Rattle.ep_evaluation.specs.Evaluation.{binary_side, binary_shown, compare_side, convert_side, not_side, truths}
use Rattle.ep_evaluation.specs.Evaluation.{pointers_side, short_side, chosen_side}
use Rattle.ep_singles.specs.Cells.{IsOneValue}

module _ {N : Type 0} (D : Ops N) where
  -- what is known of a side can be one value of a type alone, the machine's one v
  pub record IsOneAs (w : Scalar) (x : SideValue N) (v : Datum) : Type 0 where
    pub one : IsOneValue D x.value
    pub allowed : Allows D w x.value false (Some v)

  pub record SidesAreOne : Type 0 where
    -- arithmetic that has a number doesn't fault
    pub binary : (o : BinOp) (t r : IntType) → ((y : ℤ) → InRange r y → IsRightOperand o t y) → (x y : SideValue N)
        (a b c : ℤ) → IsOneAs (Int t) x (int a) → IsOneAs (Int r) y (int b) → arith_of o t a b ≡ Ok c
        → (binary_shown D o t x y ≡ None) × IsOneValue D (binary_side D o t x y).value
    pub convert : (r t : IntType) (x : SideValue N) (a : ℤ) → IsOneAs (Int r) x (int a)
        → IsOneValue D (convert_side D (Some r) t x).value
    pub compare : (c : Cmp) (t : IntType) (x y : SideValue N) (a b : ℤ) → IsOneAs (Int t) x (int a)
        → IsOneAs (Int t) y (int b) → IsOneValue D (compare_side D c x y).value
    -- pointers that the machine can compare
    pub pointers : (c : Cmp) (x y : SideValue N) (u v d : Datum) → IsOneAs Pointer x u → IsOneAs Pointer y v
        → pointers_compare c u v ≡ has d
        → (shown_if (truths D c x y).mixed ≡ None) × IsOneValue D (pointers_side D c x y).value
    pub negation : (w : Scalar) (x : SideValue N) (u : Datum) → IsOneAs w x u → IsOneValue D (not_side D x).value
    -- `&&` and `||`: the first asks for the second, or doesn't
    pub short_second : (t : Bool) (a b : Scalar) (x y : SideValue N) (u v : Datum) → IsOneAs a x u → IsOneAs b y v
        → is_true u ≡ t → IsOneValue D (short_side D t x y).value
    pub short_first : (t : Bool) (a : Scalar) (x : SideValue N) (u : Datum) → IsOneAs a x u → is_true u ≡ not t
        → IsOneValue D (short_side D t x nothing).value
    -- `? :`: one of both is evaluated
    pub chosen_second : (y : SideValue N) → IsOneValue D y.value → IsOneValue D (chosen_side D y nothing).value
    pub chosen_third : (z : SideValue N) → IsOneValue D z.value → IsOneValue D (chosen_side D nothing z).value
