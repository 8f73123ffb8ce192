-- Tests on whole numbers, and what they say.
use Rattle.std.proofs.Common.{◌≡◌, ℤ, ◌≤ℤ◌, ◌<ℤ◌, Bool, true, false, ◌&&◌, ◌||◌, ◌⊎◌, inl, inr, refl, arith}
use Rattle.ep_int.proofs.Arithmetic.{le_fact, le_test}
use Rattle.std.specs.Prelude.{int_le, int_lt}
use Rattle.std.specs.Int.{int_min, int_max}
use Rattle.std.proofs.lemmas.Int.{ints}

pub le_false : (a b : ℤ) → b <ℤ a → int_le a b ≡ false
le_false a b h = grind (arith, ints)

pub from_le_false : (a b : ℤ) → int_le a b ≡ false → b <ℤ a
from_le_false a b h = grind (arith, ints)

pub lt_true : (a b : ℤ) → a <ℤ b → int_lt a b ≡ true
lt_true a b h = grind (arith, ints)

pub lt_false : (a b : ℤ) → b ≤ℤ a → int_lt a b ≡ false
lt_false a b h = grind (arith, ints)

pub from_lt_true : (a b : ℤ) → int_lt a b ≡ true → a <ℤ b
from_lt_true a b h = grind (arith, ints)

pub from_lt_false : (a b : ℤ) → int_lt a b ≡ false → b ≤ℤ a
from_lt_false a b h = grind (arith, ints)

pub between_true : (a b c d : ℤ) → a ≤ℤ b → c ≤ℤ d → (int_le a b && int_le c d) ≡ true
between_true a b c d p q = grind (arith, ints)

pub from_between : (a b c d : ℤ) → (int_le a b && int_le c d) ≡ true → (a ≤ℤ b) × (c ≤ℤ d)
from_between a b c d h = (grind (arith, ints), grind (arith, ints))

pub between_false : (a b c d : ℤ) → (b <ℤ a) ⊎ (d <ℤ c) → (int_le a b && int_le c d) ≡ false
between_false a b c d (inl h) = grind (arith, ints)
between_false a b c d (inr h) = grind (arith, ints)

pub from_between_false : (a b c d : ℤ) → (int_le a b && int_le c d) ≡ false → (b <ℤ a) ⊎ (d <ℤ c)
from_between_false a b c d h = by_first (int_le a b) refl
  where
    by_first : (t : Bool) → int_le a b ≡ t → (b <ℤ a) ⊎ (d <ℤ c)
    by_first true e = let f = rw e at h in inr (from_le_false c d f)
    by_first false e = inl (from_le_false a b e)

pub outside_true : (a b c d : ℤ) → (a <ℤ b) ⊎ (c <ℤ d) → (int_lt a b || int_lt c d) ≡ true
outside_true a b c d (inl h) = grind (arith, ints)
outside_true a b c d (inr h) = grind (arith, ints)

pub from_outside : (a b c d : ℤ) → (int_lt a b || int_lt c d) ≡ true → (a <ℤ b) ⊎ (c <ℤ d)
from_outside a b c d h = by_first (int_lt a b) refl
  where
    by_first : (t : Bool) → int_lt a b ≡ t → (a <ℤ b) ⊎ (c <ℤ d)
    by_first true e = inl (from_lt_true a b e)
    by_first false e = let f = rw e at h in inr (from_lt_true c d f)

pub le_self : (a : ℤ) → a ≤ℤ a
le_self a = omega (arith, ints)

pub le_trans : (a b c : ℤ) → a ≤ℤ b → b ≤ℤ c → a ≤ℤ c
le_trans a b c p q = omega (arith, ints)

pub le_antisym : (a b : ℤ) → a ≤ℤ b → b ≤ℤ a → a ≡ b
le_antisym a b p q = omega (arith, ints)

pub min_is : (a b : ℤ) → (int_min a b ≡ a) ⊎ (int_min a b ≡ b)
min_is a b = grind (arith, ints)

pub max_is : (a b : ℤ) → (int_max a b ≡ a) ⊎ (int_max a b ≡ b)
max_is a b = grind (arith, ints)
