-- What values, forms and unions give over worked states, with intervals.
use Rattle.std.proofs.Common.{◌≡◌, ℕ, ℤ, pos, true, false, List, [], ◌∷◌, map, Option, Some, None, refl}
use Rattle.ep_int.specs.declared.types.IntType.TheVariants.{U8, U16, I32, U32}
use Rattle.ep_int.specs.declared.types.BinOp.TheVariants.{Add, And, Div, Shl}
use Rattle.ep_int.specs.declared.types.Cmp.TheVariants.{Ne}
use Rattle.ep_int.specs.declared.types.Model.TheVariants.{Ilp32}
use Rattle.ep_int.specs.declared.types.Order.TheVariants.{Big, SwappedWords}
use Rattle.ep_int.specs.declared.types.Scalar.TheVariants.{Int, Pointer}
use Rattle.ep_alarms.specs.declared.types.AlarmKind.{AlarmKind}
use Rattle.ep_alarms.specs.declared.types.AlarmKind.TheVariants.{U2, U4, U10}
use Rattle.ep_bitslice.specs.declared.cell.Side.TheVariants as side
use Rattle.ep_bitslice.specs.declared.segment.Segment.TheVariants.{Bits, Fixed}
use Rattle.ep_interval_laws.specs.Domain.{interval_ops}
use Rattle.ep_interval_laws.specs.Interval.{Interval}
use Rattle.ep_cells.specs.declared.cell.Cell.{Cell}
use Rattle.ep_cells.specs.declared.cell.Value.{Value}
use Rattle.ep_cells.specs.declared.cell.Value.TheVariants.{Num, Ptr}
use Rattle.ep_cells.specs.States.{Known}
use Rattle.ep_core.specs.Program.{block, element, Expr, const, load, binary, convert, compare, logical_and, conditional}
use Rattle.ep_equalities.specs.declared.pair.Fault.{Fault}
use Rattle.ep_equalities.specs.declared.pair.Mode.TheVariants.{Both, Left, Right}
use Rattle.ep_equalities.specs.declared.pair.SideValue.{SideValue}
use Rattle.ep_evaluation.specs.Given.{Given, fault}
use Rattle.ep_evaluation.proofs.Rows.{number, cell, known, given, x, u32, small_x}

abbrev pub range_of : SideValue Interval → Option (ℤ × ℤ)
range_of v = range_in v.value
  where
    range_in : Option (Value Interval) → Option (ℤ × ℤ)
    range_in None = None
    range_in (Some (Num n)) = Some (interval_ops.range n)
    range_in (Some (Ptr p)) = None

abbrev pub kinds : Given Interval → List AlarmKind
kinds g = map (λ (f : Fault). f.kind) g.faults

-- ---- union { uint16_t w; uint8_t b[2]; } with 1 and 2 in b: w is 513 on little and 258 on big
abbrev two_bytes : Known Interval
two_bytes = known (cell side.Shared 0 0 (Int U8) (number (pos 1) (pos 1)) ∷ cell side.Shared 0 1 (Int U8)
    (number (pos 2) (pos 2)) ∷ [])

abbrev word : Given Interval
word = given (load (Int U16) (block 0)) Both two_bytes

word_on_little : range_of word.pair.left ≡ Some (pos 513, pos 513)
word_on_little = refl

word_on_big : range_of word.pair.right ≡ Some (pos 258, pos 258)
word_on_big = refl

word_differs : word.pair.equal ≡ false
word_differs = refl

-- ---- the bytes 1, 2, 3, 4 as uint32_t: the highest unit of 16 bits first, and the lower byte of each first
abbrev four_bytes : Known Interval
four_bytes = record {
  orders = (SwappedWords, Big);
  model = Ilp32;
  cells = cell side.Shared 0 0 (Int U8) (number (pos 1) (pos 1)) ∷ cell side.Shared 0 1 (Int U8)
      (number (pos 2) (pos 2))
      ∷ cell side.Shared 0 2 (Int U8) (number (pos 3) (pos 3)) ∷ cell side.Shared 0 3 (Int U8)
      (number (pos 4) (pos 4)) ∷ [];
}

whole_on_swapped_words : range_of (given x Both four_bytes).pair.left ≡ Some (pos 33620995, pos 33620995)
whole_on_swapped_words = refl

whole_on_big : range_of (given x Both four_bytes).pair.right ≡ Some (pos 16909060, pos 16909060)
whole_on_big = refl

-- ---- b[1] + ((uint32_t) b[0] << 8), from any two bytes: 8 bits of each, and zeros
abbrev any_bytes : Known Interval
any_bytes =
    known (cell side.Shared 1 0 (Int U8) (number (pos 0) (pos 255)) ∷ cell side.Shared 1 1 (Int U8)
    (number (pos 0) (pos 255)) ∷ [])

abbrev byte_at : ℕ → Expr
byte_at i = convert U32 (load (Int U8) (element (block 1) 2 1 (u32 (pos i))))

abbrev put_together : Given Interval
put_together = given (binary Add U32 (byte_at 1) (binary Shl U32 (byte_at 0) (const I32 (pos 8)))) Both any_bytes

put_together_form : put_together.pair.left.form
    ≡ Some (Bits (record { side = side.Shared; block = 1; offset = 1; t = U8 }) 0 8
    ∷ Bits (record { side = side.Shared; block = 1; offset = 0; t = U8 }) 0 8 ∷ Fixed 0 16 ∷ [])
put_together_form = refl

-- where both have bits at one place, the sum has no form: b[0] + b[1]
sum_without_form : (given (binary Add U32 (byte_at 0) (byte_at 1)) Both any_bytes).pair.left.form ≡ None
sum_without_form = refl

-- ---- 255 & x where x is 300: the right operand is the mask, and the constant has known bits
masked_constant : (given (binary And U32 (u32 (pos 255)) x) Both
    (known (cell side.Shared 0 0 (Int U32) (number (pos 300) (pos 300)) ∷ []))).pair.left.form ≡ Some (Fixed 44 32 ∷ [])
masked_constant = refl

-- where x is any number, the constant is the mask
masked_cell : (given (binary And U32 (u32 (pos 255)) x) Both small_x).pair.left.form
    ≡ Some (Bits (record { side = side.Shared; block = 0; offset = 0; t = U32 }) 0 8 ∷ Fixed 0 24 ∷ [])
masked_cell = refl

-- ---- b[i] with i 0 or 1: it may be read at two places, so it has no form, and is the same where both cells are Shared
abbrev index : Cell Interval
index = cell side.Shared 2 0 (Int U32) (number (pos 0) (pos 1))

abbrev at_index : Expr
at_index = load (Int U8) (element (block 1) 2 1 (load (Int U32) (block 2)))

abbrev shared_bytes : Given Interval
shared_bytes =
    given at_index Both (known (cell side.Shared 1 0 (Int U8) (number (pos 0) (pos 9))
    ∷ cell side.Shared 1 1 (Int U8) (number (pos 0) (pos 9)) ∷ index ∷ []))

shared_bytes_form : shared_bytes.pair.left.form ≡ None
shared_bytes_form = refl

shared_bytes_same : shared_bytes.pair.equal ≡ true
shared_bytes_same = refl

-- and where one of them is one of each side, it may differ
parted_byte : (given at_index Both (known (cell side.Shared 1 0 (Int U8) (number (pos 0) (pos 9))
    ∷ cell side.Left 1 1 (Int U8) (number (pos 0) (pos 9)) ∷ cell side.Right 1 1 (Int U8)
    (number (pos 0) (pos 9)) ∷ index ∷ []))).pair.equal ≡ false
parted_byte = refl

-- ---- x ? 1 : 10 / 0 where x is 1: the division isn't evaluated
abbrev chosen_one : Given Interval
chosen_one =
    given (conditional x (u32 (pos 1)) (binary Div U32 (u32 (pos 10)) (u32 (pos 0)))) Both
    (known (cell side.Shared 0 0 (Int U32) (number (pos 1) (pos 1)) ∷ []))

chosen_one_faults : chosen_one.faults ≡ []
chosen_one_faults = refl

-- where x may be 0, it is, and what is known is the join of what each gives
abbrev either_one : Given Interval
either_one = given (conditional x (u32 (pos 3)) (u32 (pos 7))) Both small_x

either_one_range : range_of either_one.pair.right ≡ Some (pos 3, pos 7)
either_one_range = refl

-- ---- x != 0 && 10 / x > .., where x is 0 on the right: the division is evaluated on the left alone
left_divides : (given (logical_and (compare Ne U32 x (u32 (pos 0))) (binary Div U32 (u32 (pos 10)) x)) Both
    (known (cell side.Left 0 0 (Int U32) (number (pos 0) (pos 9)) ∷ cell side.Right 0 0 (Int U32)
    (number (pos 0) (pos 0)) ∷ []))).faults
    ≡ fault U2 (pos 0, pos 9) (pos 0, pos 0)
left_divides = refl

-- ---- a byte that may be undefined is U4 alone, also where it may be part of a pointer
unset_byte : kinds (given (load (Int U8) (element (block 1) 2 1 (u32 (pos 0)))) Both
    (known (record {
      side = side.Shared;
      block = 1;
      offset = 0;
      what = Int U8;
      value = Some (Num (number (pos 0) (pos 255)));
      maybe = true;
      form = None;
    } ∷ []))) ≡ U4 ∷ []
unset_byte = refl

-- ---- a pointer of which nothing is known any more: it may be undefined, or no whole pointer
abbrev lost : Given Interval
lost = given (load Pointer (block 3)) Both (known [])

lost_kinds : kinds lost ≡ U4 ∷ U10 ∷ []
lost_kinds = refl

lost_value : lost.pair.left.value ≡ None
lost_value = refl
