-- What pointers give over worked states, with intervals.
use Rattle.std.proofs.Common.{◌≡◌, ℕ, pos, true, false, [], ◌∷◌, ◌++◌, Some, None, refl}
use Rattle.ep_int.specs.declared.types.IntType.TheVariants.{U32}
use Rattle.ep_int.specs.declared.types.Cmp.TheVariants.{Eq, Lt}
use Rattle.ep_int.specs.declared.types.Model.TheVariants.{Ilp32, Lp64}
use Rattle.ep_int.specs.declared.types.Model.{Model}
use Rattle.ep_int.specs.declared.types.Order.TheVariants.{Little, Big}
use Rattle.ep_int.specs.declared.types.Scalar.TheVariants.{Int, Pointer}
use Rattle.ep_alarms.specs.declared.types.AlarmKind.TheVariants.{U5, U6, U7, U8}
use Rattle.ep_bitslice.specs.declared.cell.Side.TheVariants as side
use Rattle.ep_interval_laws.specs.Domain.{interval_ops}
use Rattle.ep_interval_laws.specs.Interval.{Interval}
use Rattle.ep_pointers.specs.Value.{Pointers, pointers}
use Rattle.ep_cells.specs.declared.cell.Cell.{Cell}
use Rattle.ep_cells.specs.declared.cell.Value.TheVariants.{Ptr}
use Rattle.ep_cells.specs.States.{Known}
use Rattle.ep_core.specs.Program.{block, deref, element, Expr, load, addr_of, ptr_add, ptr_compare, logical_and}
use Rattle.ep_equalities.specs.declared.pair.Mode.TheVariants.{Both, Left}
use Rattle.ep_evaluation.specs.Given.{Given, fault}
use Rattle.ep_evaluation.specs.Evaluation.{place}
use Rattle.ep_evaluation.proofs.Rows.{number, cell, known, sizes, given, u32}
use Rattle.ep_evaluation.proofs.Values.{kinds}

abbrev pub pointing : (block : ℕ) → Pointers Interval → Cell Interval
pointing b p = record
    { side = side.Shared; block = b; offset = 0; what = Pointer; value = Some (Ptr p); maybe = false; form = None }

-- null, or the start of x
abbrev pub may_be_null : Pointers Interval
may_be_null = pointers true ((0, number (pos 0) (pos 0)) ∷ [])

abbrev p : Expr
p = load Pointer (block 3)

abbrev pub some_x : Cell Interval
some_x = cell side.Shared 0 0 (Int U32) (number (pos 1) (pos 9))

-- ---- p && *p where p may be null: it is read where it isn't
guarded : kinds (given (logical_and p (load (Int U32) (deref p))) Both
    (known (some_x ∷ pointing 3 may_be_null ∷ []))) ≡ []
guarded = refl

unguarded : kinds (given (load (Int U32) (deref p)) Both (known (some_x ∷ pointing 3 may_be_null ∷ []))) ≡ U6 ∷ []
unguarded = refl

-- null alone has no place
null_read : (given (load (Int U32) (deref p)) Both
    (known (some_x ∷ pointing 3 (pointers true []) ∷ []))).pair.left.value ≡ None
null_read = refl

-- ---- p < q into two blocks is U8, and has no truth; p == q is false
abbrev two_pointers : Known Interval
two_pointers =
    known (pointing 3 (pointers false ((0, number (pos 0) (pos 0)) ∷ [])) ∷ pointing 4
    (pointers false ((1, number (pos 0) (pos 0)) ∷ [])) ∷ [])

abbrev q : Expr
q = load Pointer (block 4)

abbrev two_blocks : Expr → Given Interval
two_blocks e = given e Both two_pointers

mixed_order : kinds (two_blocks (ptr_compare Lt p q)) ≡ U8 ∷ []
mixed_order = refl

mixed_value : (two_blocks (ptr_compare Lt p q)).pair.left.value ≡ None
mixed_value = refl

equality_is_no_fault : kinds (two_blocks (ptr_compare Eq p q)) ≡ []
equality_is_no_fault = refl

-- ---- &x + 2 leaves the block of 4 bytes: the byte offset is shown
past_the_end : (given (ptr_add (addr_of (block 0)) 4 (u32 (pos 2)) false) Both (known [])).faults
    ≡ fault U5 (pos 8, pos 8) (pos 8, pos 8)
past_the_end = refl

-- right behind the block it may point
at_the_end : (given (ptr_add (addr_of (block 0)) 4 (u32 (pos 1)) false) Both (known [])).faults ≡ []
at_the_end = refl

-- ---- (*p)[1] of rows of 32768 bytes, near the greatest offset: the sum has more than 32 bits
abbrev far : Pointers Interval
far = pointers false ((0, number (pos 4294934528) (pos 4294934528)) ∷ [])

abbrev second_row : Given Interval
second_row = place interval_ops sizes (element (deref p) 2 32768 (u32 (pos 1))) Both (known (pointing 3 far ∷ []))

second_row_faults : second_row.faults ≡ fault U5 (pos 4294967296, pos 4294967296) (pos 4294967296, pos 4294967296)
second_row_faults = refl

-- the first one has not, though it lies far behind its block
first_row : (place interval_ops sizes (element (deref p) 2 32768 (u32 (pos 0))) Both
    (known (pointing 3 far ∷ []))).faults ≡ []
first_row = refl

-- an index that leaves its bound is shown first, and then the sums of those that don't
both_leave : (place interval_ops sizes (element (deref p) 2 32768 (load (Int U32) (block 2))) Left
    (known (cell side.Shared 2 0 (Int U32) (number (pos 1) (pos 5)) ∷ pointing 3 far ∷ []))).faults
    ≡ fault U5 (pos 1, pos 5) (pos 0, pos 0) ++ fault U5 (pos 4294967296, pos 4294967296) (pos 0, pos 0)
both_leave = refl

-- ---- a pointer at offset 4: a multiple of its 4 bytes, but not of 8
abbrev of_model : Model → Given Interval
of_model d =
    given (load Pointer (deref p)) Left (record {
      orders = (Little, Big);
      model = d;
      cells = pointing 3 (pointers false ((5, number (pos 4) (pos 4)) ∷ []))
          ∷ record {
            side = side.Shared;
            block = 5;
            offset = 4;
            what = Pointer;
            value = Some
                (Ptr may_be_null);
            maybe = false;
            form = None;
          } ∷ [];
    })

aligned_to_four : kinds (of_model Ilp32) ≡ []
aligned_to_four = refl

aligned_to_eight : kinds (of_model Lp64) ≡ U7 ∷ []
aligned_to_eight = refl
