-- A place is filled with one byte: by writes of each byte in turn where a machine has one place, and where it has
-- several, each may have been written.
use Rattle.std.proofs.Common.{◌≡◌, ℕ, zero, suc, ◌+◌, ◌/◌, ◌%◌, ◌<◌, ◌≤◌, ℤ, true, List, [], ◌∷◌, Option, Some, inl}
use Rattle.ep_transfers.proofs.Basics.{none_inside, room_for_one, fewer}
use Rattle.std.proofs.Common.{inr, ⊎_elim, refl, sym, ap, ◌∙◌, subst, arith}
use Rattle.std.proofs.lemmas.Bool.{cases_lt}
use Rattle.ep_int.specs.declared.types.IntType.TheVariants.{U8}
use Rattle.ep_int.specs.declared.types.Model.{Model}
use Rattle.ep_int.specs.declared.types.Order.{Order}
use Rattle.ep_int.specs.declared.types.Order.TheVariants.{Little, Big, SwappedWords}
use Rattle.ep_int.specs.declared.types.Scalar.TheVariants.{Int}
use Rattle.ep_int.specs.Encoding.{encoded}
use Rattle.ep_int.specs.Types.{representation}
use Rattle.ep_int.specs.Memory.{number, Memory, Value as Datum, int, filled, bytes_of_value}
use Rattle.ep_int.proofs.Wrapping.{representation_below}
use Rattle.ep_cells.specs.Meaning.{Memories}
use Rattle.ep_cells.specs.Memories.{is_byte_of, IsBroken}
use Rattle.ep_core.specs.Runs.{Side, left, right}
use Rattle.ep_equalities.specs.declared.pair.Mode.{Mode}
use Rattle.ep_equalities.specs.declared.pair.Mode.TheVariants.{Both, Left, Right}
use Rattle.ep_evaluation.specs.Given.{cells_of}
use Rattle.ep_cell_ranges.specs.Spots.{Spot}
use Rattle.ep_cell_ranges.specs.Moves.{place_at}
use Rattle.ep_cell_ranges.specs.Sound.{AreBytes}
use Rattle.ep_transfers.proofs.Alike.{IsAlike, AreAlike, alike_itself}
use Rattle.ep_transfers.proofs.Patches.{Patch, patched, ArePatches, Covers, eased_memory, patched_alike}
use Rattle.ep_transfers.proofs.Eased.{eased_on}
use Rattle.ep_transfers.proofs.RunSteps.{at_with, Changed, moved_at}

-- ---- one memory

abbrev pub byte_patches : Order → Datum → (from count : ℕ) → List Patch
byte_patches o v i zero = []
byte_patches o v i (suc n) =
    record { offset = i; bytes = 1; new = bytes_of_value o (Int U8) v } ∷ byte_patches o v (i + 1) n

one_byte : (r : ℕ) → r < 256 → r / 1 % 256 ≡ r
one_byte r h = omega (arith, h)

byte_first : (o : Order) (z : ℤ) → encoded o U8 z 0 ≡ representation U8 z
byte_first Little z = one_byte (representation U8 z) (representation_below U8 z)
byte_first Big z = one_byte (representation U8 z) (representation_below U8 z)
byte_first SwappedWords z = one_byte (representation U8 z) (representation_below U8 z)

pub first_alone : (p : ℕ) → p < 1 → 0 ≡ p
first_alone p h = omega (arith, h)

pub byte_encoded : (o : Order) (z : ℤ) (p : ℕ) → p < 1 → encoded o U8 z p ≡ representation U8 z
byte_encoded o z p l = subst (λ q. encoded o U8 z q ≡ representation U8 z) (first_alone p l) (byte_first o z)

byte_patch : (o : Order) (z : ℤ) (n i c : ℕ) → i + c ≤ n
    → ArePatches n (λ k. number (representation U8 z)) (byte_patches o (int z) i c)
byte_patch o z n i zero h = tt
byte_patch o z n i (suc c) h = (
  record {
    some = omega arith;
    inside = room_for_one i c n h;
    gives = λ t l. ap number (byte_encoded o z t l);
  },
  byte_patch o z n (i + 1) c (fewer i c n h),
)

next_low : (i j : ℕ) → i < j → i + 1 ≤ j
next_low i j h = omega (arith, h)

next_high : (i c j : ℕ) → j < i + suc c → j < i + 1 + c
next_high i c j h = omega (arith, h)

one_high : (i j : ℕ) → j ≤ i → j < i + 1
one_high i j h = omega (arith, h)

byte_covers : (o : Order) (v : Datum) (i c j : ℕ) → i ≤ j → j < i + c → Covers j (byte_patches o v i c)
byte_covers o v i zero j h e = none_inside i j h e
byte_covers o v i (suc c) j h e =
    ⊎_elim (λ l. inr (byte_covers o v (i + 1) c j (next_low i j l) (next_high i c j e)))
    (λ l. inl (h, one_high i j l)) (cases_lt i j)

pub all_bytes : (n : ℕ) → 0 + n ≤ n
all_bytes n = omega arith

from_zero : (j : ℕ) → 0 ≤ j
from_zero j = omega arith

to_end : (j n : ℕ) → j < n → j < 0 + n
to_end j n h = omega (arith, h)

abbrev pub fill_of : Model → Spot → (n : ℕ) → ℤ → Memory → Memory
fill_of d q n z m = filled d m q.0 q.1 n (representation U8 z)

abbrev pub run_of : Order → Model → Spot → ℤ → (from count : ℕ) → Memory → Memory
run_of o d q z i c m = patched d q.0 q.1 (byte_patches o (int z) i c) m

fill_alike : (o : Order) (d : Model) (q : Spot) (n : ℕ) (z : ℤ) (m : Memory) → 0 < n
    → IsAlike d (run_of o d q z 0 n (eased_memory d q.0 q.1 n m)) (fill_of d q n z m)
fill_alike o d q n z m some =
    patched_alike d q.0 q.1 n (λ k. number (representation U8 z)) (byte_patches o (int z) 0 n)
    (byte_patch o z n 0 n (all_bytes n)) some
    (λ j l. byte_covers o (int z) 0 n j (from_zero j) (to_end j n l)) (λ i l. tt) m

byte_below : (z : ℤ) (v : ℕ) → representation U8 z ≡ v → v < 256
byte_below z v e = subst (λ r. r < 256) e (representation_below U8 z)

one_number : (a b : ℕ) → number a ≡ number b → a ≡ b
one_number a b e = cc

pub fill_broken : (s : Side) (d : Model) (q : Spot) (n : ℕ) (z : ℤ) (m : Memory)
    → IsBroken d (place_at (cells_of s) q n) m (fill_of d q n z m)
fill_broken left d q n z m = record { beside = λ b j e. rw e refl }
fill_broken right d q n z m = record { beside = λ b j e. rw e refl }

pub fill_bytes : (s : Side) (d : Model) (q : Spot) (n : ℕ) (z : ℤ) (m : Memory)
    → AreBytes (place_at (cells_of s) q n) (fill_of d q n z m)
fill_bytes s d q n z m = record {
  below = λ b j v e f. byte_below z v (one_number (representation U8 z) v (sym (there b j e) ∙ f));
}
  where
    there : (b j : ℕ) → is_byte_of (place_at (cells_of s) q n) b j ≡ true
        → fill_of d q n z m b j ≡ number (representation U8 z)
    there b j e = rw e refl

-- ---- both memories

module _ (os : Order × Order) (d : Model) (at : Side → Spot) (n : ℕ) (z : Side → ℤ) where
  abbrev pub filled_on : Mode → Memories → Memories
  filled_on Both m = record {
    left = fill_of d (at left) n (z left) m.left;
    right = fill_of d (at right) n (z right) m.right;
  }
  filled_on Left m = record { left = fill_of d (at left) n (z left) m.left; right = m.right }
  filled_on Right m = record { left = m.left; right = fill_of d (at right) n (z right) m.right }

  abbrev pub run_on : Mode → (from count : ℕ) → Memories → Memories
  run_on Both i c m = record {
    left = run_of os.0 d (at left) (z left) i c m.left;
    right = run_of os.1 d (at right) (z right) i c m.right;
  }
  run_on Left i c m = record { left = run_of os.0 d (at left) (z left) i c m.left; right = m.right }
  run_on Right i c m = record { left = m.left; right = run_of os.1 d (at right) (z right) i c m.right }

  pub filled_last : (mode : Mode) (m : Memories) → 0 < n
      → AreAlike d (run_on mode 0 n (eased_on d at n mode m)) (filled_on mode m)
  filled_last Both m some = record {
    left = fill_alike os.0 d (at left) n (z left) m.left some;
    right = fill_alike os.1 d (at right) n (z right) m.right some;
  }
  filled_last Left m some = record {
    left = fill_alike os.0 d (at left) n (z left) m.left some;
    right = alike_itself d m.right;
  }
  filled_last Right m some = record {
    left = alike_itself d m.left;
    right = fill_alike os.1 d (at right) n (z right) m.right some;
  }

  abbrev pub fill_datum : Side → Option Datum
  fill_datum s = Some (int (z s))

  pub one_changed : (mode : Mode) (i : ℕ) (m : Memories)
      → Changed mode os d (Int U8) (moved_at i at) fill_datum m (run_on mode i 1 m)
  one_changed Both i m = (
    at_with os.0 d (Int U8) (moved_at i at left) (int (z left)) m.left (run_on Both i 1 m).left (λ b j. refl),
    at_with os.1 d (Int U8) (moved_at i at right) (int (z right)) m.right (run_on Both i 1 m).right (λ b j. refl),
  )
  one_changed Left i m = (
    at_with os.0 d (Int U8) (moved_at i at left) (int (z left)) m.left (run_on Left i 1 m).left (λ b j. refl),
    λ b j. refl,
  )
  one_changed Right i m = (
    at_with os.1 d (Int U8) (moved_at i at right) (int (z right)) m.right (run_on Right i 1 m).right (λ b j. refl),
    λ b j. refl,
  )
