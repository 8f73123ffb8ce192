-- What expressions give over worked states, with intervals.
use Rattle.std.proofs.Common.{◌≡◌, ℕ, ℤ, true, false, List, [], ◌∷◌, map, Option, Some, None, refl, pos}
use Rattle.ep_int.specs.declared.types.IntType.TheVariants.{U8, I32, U32}
use Rattle.ep_int.specs.declared.types.BinOp.TheVariants.{Div, Shr}
use Rattle.ep_int.specs.declared.types.Cmp.TheVariants.{Ne, Lt, Gt}
use Rattle.ep_int.specs.declared.types.Model.TheVariants.{Ilp32}
use Rattle.ep_int.specs.declared.types.Order.TheVariants.{Little, Big}
use Rattle.ep_int.specs.declared.types.Scalar.{Scalar}
use Rattle.ep_int.specs.declared.types.Scalar.TheVariants.{Int, Pointer}
use Rattle.ep_alarms.specs.declared.types.AlarmKind.TheVariants.{U2, U5, U6, U7}
use Rattle.ep_bitslice.specs.declared.cell.Side.{Side as CellSide}
use Rattle.ep_bitslice.specs.declared.cell.Side.TheVariants as side
use Rattle.ep_bitslice.specs.declared.segment.Segment.TheVariants.{Bits}
use Rattle.ep_interval_laws.specs.Domain.{interval_ops}
use Rattle.ep_interval_laws.specs.Interval.{Interval}
use Rattle.ep_pointers.specs.Value.{pointers}
use Rattle.ep_cells.specs.declared.cell.Cell.{Cell}
use Rattle.ep_cells.specs.declared.cell.Value.{Value}
use Rattle.ep_cells.specs.declared.cell.Value.TheVariants.{Num, Ptr}
use Rattle.ep_cells.specs.States.{Known}
use Rattle.ep_core.specs.Program.{block, deref, element, Expr, const, load, binary, convert, compare, logical_and}
use Rattle.ep_core.specs.Runs.{left, right}
use Rattle.ep_equalities.specs.declared.pair.Mode.{Mode}
use Rattle.ep_equalities.specs.declared.pair.Mode.TheVariants.{Both, Left, Right}
use Rattle.ep_equalities.specs.declared.pair.Fault.{Fault}
use Rattle.ep_evaluation.specs.Given.{Given, fault}
use Rattle.ep_evaluation.specs.Evaluation.{expression}

abbrev pub number : ℤ → ℤ → Interval
number a b = interval_ops.join (interval_ops.single a) (interval_ops.single b)

abbrev pub cell : CellSide → (block offset : ℕ) → Scalar → Interval → Cell Interval
cell s b q w n = record { side = s; block = b; offset = q; what = w; value = Some (Num n); maybe = false; form = None }

abbrev pub known : List (Cell Interval) → Known Interval
known cs = record { orders = (Little, Big); model = Ilp32; cells = cs }

-- block 0 is a u32, block 1 an array of two u8, block 2 an index; blocks 3 and 4 are pointers and block 5 is two, of
-- the size of either model
abbrev pub sizes : List ℕ
sizes = 4 ∷ 2 ∷ 4 ∷ 8 ∷ 8 ∷ 16 ∷ []

abbrev pub given : Expr → Mode → Known Interval → Given Interval
given e m k = (expression interval_ops sizes e).gives m k

abbrev pub x : Expr
x = load (Int U32) (block 0)

abbrev pub u32 : ℤ → Expr
u32 v = const U32 v

-- ---- (uint8_t)(x >> 8) of a Shared x: the bits 8 to 15 of it, the same on both sides, without a fault
abbrev pub shared_x : Known Interval
shared_x = known (cell side.Shared 0 0 (Int U32) (number (pos 0) (pos 4294967295)) ∷ [])

abbrev second_byte : Given Interval
second_byte = given (convert U8 (binary Shr U32 x (const I32 (pos 8)))) Both shared_x

second_byte_form : second_byte.pair.right.form ≡ Some
    (Bits (record { side = side.Shared; block = 0; offset = 0; t = U32 }) 8 16 ∷ [])
second_byte_form = refl

second_byte_same : second_byte.pair.equal ≡ true
second_byte_same = refl

second_byte_faults : second_byte.faults ≡ []
second_byte_faults = refl

-- ---- x != 0 && 10 / x > 1: where x is one of both sides, the division is of an x that isn't 0
abbrev guarded : Expr
guarded = logical_and (compare Ne U32 x (u32 (pos 0))) (compare Gt U32 (binary Div U32 (u32 (pos 10)) x) (u32 (pos 1)))

abbrev pub small_x : Known Interval
small_x = known (cell side.Shared 0 0 (Int U32) (number (pos 0) (pos 9)) ∷ [])

guarded_shared : (given guarded Both small_x).faults ≡ []
guarded_shared = refl

-- where x is one of each side, the test may differ, and the division is looked at in the state as it is
abbrev pub parted_x : Known Interval
parted_x = known (cell side.Left 0 0 (Int U32) (number (pos 0) (pos 9)) ∷ cell side.Right 0 0 (Int U32)
    (number (pos 0) (pos 9)) ∷ [])

guarded_parted : (given guarded Both parted_x).faults ≡ fault U2 (pos 0, pos 9) (pos 0, pos 9)
guarded_parted = refl

-- and where one side runs, without it
guarded_alone : (given guarded Left parted_x).faults ≡ []
guarded_alone = refl

-- ---- x < 5 is assumed on the left: a Shared x is below 5 on both
abbrev pub first_range : Option (Known Interval) → Option (ℤ × ℤ)
first_range None = None
first_range (Some k) = range_of k.cells
  where
    range_in : Option (Value Interval) → Option (ℤ × ℤ)
    range_in None = None
    range_in (Some (Num n)) = Some (interval_ops.range n)
    range_in (Some (Ptr p)) = None

    range_of : List (Cell Interval) → Option (ℤ × ℤ)
    range_of [] = None
    range_of (c ∷ cs) = range_in c.value

below_five : first_range
    ((expression interval_ops sizes (compare Lt U32 x (u32 (pos 5)))).assumes left true small_x) ≡ Some (pos 0, pos 4)
below_five = refl

not_below_ten : (expression interval_ops sizes (compare Lt U32 x (u32 (pos 10)))).assumes left false small_x ≡ None
not_below_ten = refl

-- ---- b[i] with i from 0 to 2: the index may leave the array, and what is read is that at 0 and 1
abbrev pub array : Known Interval
array =
    known (cell side.Shared 1 0 (Int U8) (number (pos 3) (pos 3)) ∷ cell side.Shared 1 1 (Int U8)
    (number (pos 7) (pos 7))
    ∷ cell side.Shared 2 0 (Int U32) (number (pos 0) (pos 2)) ∷ [])

abbrev at_index : Given Interval
at_index = given (load (Int U8) (element (block 1) 2 1 (load (Int U32) (block 2)))) Both array

abbrev pub range_on_left : Given Interval → Option (ℤ × ℤ)
range_on_left g = range_in g.pair.left.value
  where
    range_in : Option (Value Interval) → Option (ℤ × ℤ)
    range_in None = None
    range_in (Some (Num n)) = Some (interval_ops.range n)
    range_in (Some (Ptr p)) = None

at_index_faults : at_index.faults ≡ fault U5 (pos 0, pos 2) (pos 0, pos 2)
at_index_faults = refl

at_index_range : range_on_left at_index ≡ Some (pos 3, pos 7)
at_index_range = refl

-- ---- a pointer that may be null, or one byte behind the start of x: null, and no multiple of 4
abbrev pointing : Known Interval
pointing = known (cell side.Shared 0 0 (Int U32) (number (pos 1) (pos 1)) ∷ record {
  side = side.Shared;
  block = 3;
  offset = 0;
  what = Pointer;
  value = Some (Ptr (pointers true ((0, number (pos 0) (pos 1)) ∷ [])));
  maybe = false;
  form = None;
} ∷ [])

through_pointer : map (λ (f : Fault). f.kind)
    (given (load (Int U32) (deref (load Pointer (block 3)))) Both pointing).faults ≡ U6 ∷ U5 ∷ U7 ∷ []
through_pointer = refl
