-- What assuming a truth leaves of worked states, with intervals.
use Rattle.std.proofs.Common.{◌≡◌, ℤ, pos, Bool, true, false, List, [], ◌∷◌, map, Option, Some, None, is_some, refl}
use Rattle.ep_int.specs.declared.types.IntType.TheVariants.{U8, I64, U32}
use Rattle.ep_int.specs.declared.types.Cmp.TheVariants.{Lt, Le}
use Rattle.ep_int.specs.declared.types.Scalar.TheVariants.{Int, Pointer}
use Rattle.ep_bitslice.specs.declared.cell.Side.TheVariants as side
use Rattle.ep_interval_laws.specs.Domain.{interval_ops}
use Rattle.ep_interval_laws.specs.Interval.{Interval}
use Rattle.ep_pointers.specs.Value.{Pointers}
use Rattle.ep_cells.specs.declared.cell.Cell.{Cell}
use Rattle.ep_cells.specs.declared.cell.Value.{Value}
use Rattle.ep_cells.specs.declared.cell.Value.TheVariants.{Num, Ptr}
use Rattle.ep_cells.specs.States.{Known}
use Rattle.ep_core.specs.Program.{block, element, Expr, const, null_value, load, convert, compare, ptr_compare}
use Rattle.ep_core.specs.Program.{logical_or, logical_not, cast}
use Rattle.ep_core.specs.Runs.{left}
use Rattle.ep_evaluation.specs.Evaluation.{expression, test_taken, test_taken_by}
use Rattle.ep_int.specs.declared.types.Cmp.TheVariants as order
use Rattle.ep_evaluation.proofs.Rows.{number, cell, known, sizes, x, u32, first_range, small_x}
use Rattle.ep_evaluation.proofs.Pointing.{pointing, may_be_null}

abbrev assumed : Expr → Bool → Known Interval → Option (Known Interval)
assumed e t k = (expression interval_ops sizes e).assumes left t k

-- ---- x <= 5 is false: x is above 5
above_five : first_range (assumed (compare Le U32 x (u32 (pos 5))) false small_x) ≡ Some (pos 6, pos 9)
above_five = refl

-- ---- (int64_t) x < 5 has every number of x, (uint8_t) x < 5 has not
wider : first_range (assumed (compare Lt I64 (convert I64 x) (const I64 (pos 5))) true small_x) ≡ Some (pos 0, pos 4)
wider = refl

narrower : first_range (assumed (compare Lt U8 (convert U8 x) (const U8 (pos 5))) true small_x) ≡ Some (pos 0, pos 9)
narrower = refl

-- ---- x < x, left side first: what the left leaves is what the right is asked of
abbrev any_byte : Known Interval
any_byte = known (cell side.Shared 0 0 (Int U32) (number (pos 0) (pos 255)) ∷ [])

below_itself : first_range
    (test_taken interval_ops (expression interval_ops sizes (compare Lt U32 x x)) true true any_byte)
    ≡ Some (pos 2, pos 253)
below_itself = refl

-- ---- i < a[i] where i, a[0] and a[1] are 0 or 1: i is 0; a[i] is of no single cell before that, so a[0] stays
abbrev index : Expr
index = load (Int U8) (block 2)

abbrev bit : Interval
bit = number (pos 0) (pos 1)

abbrev any_bits : Known Interval
any_bits =
    known (cell side.Shared 1 0 (Int U8) bit ∷ cell side.Shared 1 1 (Int U8) bit ∷ cell side.Shared 2 0 (Int U8) bit ∷ [])

abbrev ranges : Option (Known Interval) → List (Option (ℤ × ℤ))
ranges None = []
ranges (Some k) = map (λ (c : Cell Interval). range_in c.value) k.cells
  where
    range_in : Option (Value Interval) → Option (ℤ × ℤ)
    range_in None = None
    range_in (Some (Num n)) = Some (interval_ops.range n)
    range_in (Some (Ptr q)) = None

below_its_element : ranges
    (assumed (compare Lt U8 index (load (Int U8) (element (block 1) 2 1 index))) true any_bits)
    ≡ Some (pos 0, pos 1) ∷ Some (pos 0, pos 1) ∷ Some (pos 0, pos 0) ∷ []
below_its_element = refl

-- ---- !(x < 3 || x > 5), and that it is false
abbrev outside : Expr
outside = logical_or (compare Lt U32 x (u32 (pos 3))) (compare Lt U32 (u32 (pos 5)) x)

inside_kept : first_range (assumed (logical_not outside) true small_x) ≡ Some (pos 3, pos 5)
inside_kept = refl

outside_kept : first_range (assumed (logical_not outside) false small_x) ≡ Some (pos 0, pos 9)
outside_kept = refl

-- ---- an x that may be undefined isn't narrowed, and its test may have either truth, but where it is one number
abbrev unset : ℤ → ℤ → Known Interval
unset a b = known (record {
  side = side.Shared;
  block = 0;
  offset = 0;
  what = Int U32;
  value = Some
      (Num (number a b));
  maybe = true;
  form = None;
} ∷ [])

unset_stays : first_range (assumed (compare Lt U32 x (u32 (pos 5))) true (unset (pos 0) (pos 9))) ≡ Some (pos 0, pos 9)
unset_stays = refl

abbrev taken : Known Interval → Option (Known Interval)
taken k = test_taken_by interval_ops left (expression interval_ops sizes x) false k

unset_may_be_false : is_some (taken (unset (pos 1) (pos 5))) ≡ true
unset_may_be_false = refl

unset_one_number : is_some (taken (unset (pos 1) (pos 1))) ≡ false
unset_one_number = refl

-- where it can't be undefined it isn't false
set_may_not_be : is_some (taken (known (cell side.Shared 0 0 (Int U32) (number (pos 1) (pos 5)) ∷ []))) ≡ false
set_may_not_be = refl

-- ---- p != 0 and p == 0 where p is null or the start of x
abbrev first_pointer : Option (Known Interval) → Option (Pointers Interval)
first_pointer None = None
first_pointer (Some k) = pointer_of k.cells
  where
    pointer_in : Option (Value Interval) → Option (Pointers Interval)
    pointer_in None = None
    pointer_in (Some (Num n)) = None
    pointer_in (Some (Ptr q)) = Some q

    pointer_of : List (Cell Interval) → Option (Pointers Interval)
    pointer_of [] = None
    pointer_of (c ∷ cs) = pointer_in c.value

abbrev null_left : Option (Pointers Interval) → Option Bool
null_left None = None
null_left (Some q) = Some q.null

abbrev p : Expr
p = load Pointer (block 3)

abbrev null_or_x : Known Interval
null_or_x = known (pointing 3 may_be_null ∷ [])

null_goes : null_left (first_pointer (assumed (ptr_compare order.Ne p null_value) true null_or_x)) ≡ Some false
null_goes = refl

-- the pointer alone is a test too
null_goes_by_test : null_left (first_pointer (assumed p true null_or_x)) ≡ Some false
null_goes_by_test = refl

null_stays : first_pointer (assumed (ptr_compare order.Eq p null_value) true null_or_x) ≡ Some
    (record { null = true; targets = [] })
null_stays = refl

-- a pointer of another type isn't bare: (void *) p != 0 leaves null
null_under_a_cast : null_left
    (first_pointer (assumed (ptr_compare order.Ne (cast p) null_value) true null_or_x)) ≡ Some true
null_under_a_cast = refl
