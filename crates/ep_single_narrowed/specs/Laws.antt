-- What assuming a truth leaves of a state that stands for one pair of memories alone (C11 6.5.8p6, 6.5.9p6, 6.8.4.1p2;
-- this project's rules).
use Rattle.std.specs.Prelude.{◌≡◌, ℤ, Bool, true, false, not, Option, Some, None, IfSome}
use Rattle.ep_int.specs.declared.types.Order.{Order}
use Rattle.ep_int.specs.declared.types.Cmp.{Cmp}
use Rattle.ep_int.specs.declared.types.Scalar.{Scalar}
use Rattle.ep_int.specs.declared.types.Scalar.TheVariants.{Pointer}
use Rattle.ep_int.specs.Arith.{compares}
use Rattle.ep_int.specs.Memory.{Value as Datum, int}
use Rattle.ep_domain.specs.Domain.{Ops, IsSingle}
use Rattle.ep_cells.specs.declared.cell.Cell.{Cell}
use Rattle.ep_cells.specs.declared.cell.Value.{Value}
use Rattle.ep_cells.specs.States.{Known}
use Rattle.ep_cells.specs.Meaning.{Memories, Allows}
use Rattle.ep_core.specs.Program.{Program}
use Rattle.ep_core.specs.Exec.{is_true, truth, pointers_compare}
use Rattle.ep_core.specs.Runs.{Side}
use Rattle.ep_evaluation.specs.Operators.{pointer_in}
use Rattle.ep_evaluation.specs.Narrowed.{numbers_narrowed, pointers_narrowed}
use Rattle.ep_evaluation.specs.Evaluation.{value_narrowed}
use Rattle.ep_evaluation.specs.Laws.{IsKept, IsOfCell}
use Rattle.ep_singles.specs.Numbers.{KeepsSingles}
use Rattle.ep_singles.specs.Cells.{IsOneValue, IsOne}

module _ {N : Type 0} (D : Ops N) (p : Program) (ord : Side → Order) where
  -- where an operand's cell is looked up, it has the operand's value
  abbrev pub HasCell : Memories → (Known N → Option (Cell N)) → Datum → Type 0
  HasCell m f v = (j : Known N) → IsKept D p ord j m → IfSome (f j) (λ c. IsOfCell D p ord j m c v)

  -- a state that stands for these memories alone
  pub record IsKeptOne (k : Known N) (m : Memories) : Type 0 where
    pub kept : IsKept D p ord k m
    pub one : IsOne D k m

  -- there is one
  abbrev pub IfKeptOne : Option (Known N) → Memories → Type 0
  IfKeptOne None m = ⊥
  IfKeptOne (Some k) m = IsKeptOne k m

module _ {N : Type 0} (D : Ops N) where
  -- two numbers compare so
  abbrev pub NumbersStayOne : Type 0
  NumbersStayOne =
      KeepsSingles D → (p : Program) (ord : Side → Order) (k : Known N) (m : Memories) → IsKeptOne D p ord k m
      → (c : Cmp) (x y : N) (u v : ℤ) → IsSingle D x u → IsSingle D y v → compares c u v ≡ true
      → (f g : Known N → Option (Cell N)) → HasCell D p ord m f (int u) → HasCell D p ord m g (int v)
      → IfKeptOne D p ord (numbers_narrowed D c (Some x) (Some y) f g k) m

  -- two pointers do
  abbrev pub PointersStayOne : Type 0
  PointersStayOne =
      (p : Program) (ord : Side → Order) (k : Known N) (m : Memories) → IsKeptOne D p ord k m
      → (c : Cmp) (t : Bool) (x y : Option (Value N)) (u v : Datum) → Allows D Pointer x false (Some u)
      → Allows D Pointer y false (Some v) → pointers_compare c u v ≡ truth t → (f g : Known N → Option (Cell N))
      → HasCell D p ord m f u → HasCell D p ord m g v
      → IfKeptOne D p ord (pointers_narrowed D c t (pointer_in x) (pointer_in y) f g k) m

  -- a value is of this truth
  abbrev pub TestsStayOne : Type 0
  TestsStayOne =
      KeepsSingles D → (p : Program) (ord : Side → Order) (k : Known N) (m : Memories) → IsKeptOne D p ord k m
      → (w : Scalar) (o : Option (Value N)) (u : Datum) → IsOneValue D o → Allows D w o false (Some u) → (t : Bool)
      → is_true u ≡ t → (f : Known N → Option (Cell N)) → HasCell D p ord m f u
      → IfKeptOne D p ord (value_narrowed D t o f k) m

  -- what is not so can't be assumed
  abbrev pub NumbersAreRefused : Type 0
  NumbersAreRefused =
      (c : Cmp) (x y : N) (u v : ℤ) → IsSingle D x u → IsSingle D y v → compares c u v ≡ false
      → (f g : Known N → Option (Cell N)) (k : Known N) → numbers_narrowed D c (Some x) (Some y) f g k ≡ None

  abbrev pub PointersAreRefused : Type 0
  PointersAreRefused =
      (c : Cmp) (t : Bool) (x y : Option (Value N)) (u v : Datum) → IsOneValue D x → IsOneValue D y
      → Allows D Pointer x false (Some u) → Allows D Pointer y false (Some v) → pointers_compare c u v ≡ truth (not t)
      → (f g : Known N → Option (Cell N)) (k : Known N)
      → pointers_narrowed D c t (pointer_in x) (pointer_in y) f g k ≡ None

  abbrev pub TestsAreRefused : Type 0
  TestsAreRefused =
      (w : Scalar) (o : Option (Value N)) (u : Datum) → IsOneValue D o → Allows D w o false (Some u) → (t : Bool)
      → is_true u ≡ not t → (f : Known N → Option (Cell N)) (k : Known N) → value_narrowed D t o f k ≡ None
