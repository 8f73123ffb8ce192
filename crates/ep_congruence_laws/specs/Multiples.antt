-- Multiples and greatest common divisors.
use Rattle.std.specs.Prelude.{◌≡◌, ℕ, zero, suc, ◌%◌, ℤ, pos, ◌*ℤ◌, Bool, nat_eq, if◌then◌else◌, unsigned_abs}

-- a whole number is a multiple of a natural one
abbrev pub IsMultiple : ℕ → ℤ → Type 0
IsMultiple m z = (k : ℤ) × (z ≡ k *ℤ pos m)

-- the test for it. Of 0 only 0 is a multiple.
abbrev pub is_multiple : ℕ → ℤ → Bool
is_multiple m z = nat_eq (unsigned_abs z % m) 0

-- Euclid's algorithm, in so many steps at most (Elements VII.2)
unfoldable pub gcd_steps : ℕ → ℕ → ℕ → ℕ
gcd_steps zero a b = a
gcd_steps (suc n) a b = if nat_eq b 0 then a else gcd_steps n b (a % b)

-- the greatest common divisor of two numbers; that of 0 and a number is the number
abbrev pub gcd : ℕ → ℕ → ℕ
gcd a b = gcd_steps (suc b) a b
