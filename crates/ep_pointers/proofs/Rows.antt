-- Worked rows: lists that are put together, and pairs of pointers.
use Rattle.std.proofs.Common.{◌≡◌, ℕ, ◌+◌, true, [], ◌∷◌, Some, None, refl}
use Rattle.ep_int.specs.declared.types.Cmp.TheVariants.{Eq, Ne, Lt, Ge}
use Rattle.ep_pointers.specs.Value.{together, offset_at, null_pointer, into}
use Rattle.ep_pointers.specs.Compare.{pointers_compare}

-- sums stand for the offsets of a block that is in both
both_lists : together (λ a b. a + b) ((1, 10) ∷ (3, 30) ∷ []) ((0, 7) ∷ (3, 5) ∷ (9, 1) ∷ []) ≡
    ((0, 7) ∷ (1, 10) ∷ (3, 35) ∷ (9, 1) ∷ [])
both_lists = refl

at_three : offset_at {N = ℕ} ((1, 10) ∷ (3, 30) ∷ []) 3 ≡ Some 30
at_three = refl

at_two : offset_at {N = ℕ} ((1, 10) ∷ (3, 30) ∷ []) 2 ≡ None
at_two = refl

two_nulls : pointers_compare Eq null_pointer null_pointer ≡ Some true
two_nulls = refl

ordered_nulls : pointers_compare Lt null_pointer null_pointer ≡ None
ordered_nulls = refl

two_blocks : pointers_compare Ne (into 1 4) (into 2 4) ≡ Some true
two_blocks = refl

ordered_blocks : pointers_compare Ge (into 1 4) (into 2 4) ≡ None
ordered_blocks = refl

one_block : pointers_compare Lt (into 1 4) (into 1 8) ≡ Some true
one_block = refl
