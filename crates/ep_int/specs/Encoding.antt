-- Numbers as bytes: C11 6.2.6.1, with this project's byte orders.
use Rattle.std.specs.Prelude.{ℕ, zero, suc, ◌+◌, ◌-◌, ◌*◌, ◌/◌, ◌%◌, ◌^◌, ℤ, Bool, ◌||◌, nat_eq, if◌then◌else◌}
use Rattle.ep_int.specs.declared.types.IntType.{IntType}
use Rattle.ep_int.specs.declared.types.Order.{Order}
use Rattle.ep_int.specs.declared.types.Order.TheVariants.{Little, Big, SwappedWords}
use Rattle.ep_int.specs.Types.{bytes_of, representation, represented}

-- a number has so many bytes
abbrev pub is_width : ℕ → Bool
is_width w = nat_eq w 1 || nat_eq w 2 || nat_eq w 4 || nat_eq w 8

-- The place of byte k of a number of w bytes. Swapped words are units of two bytes, the highest first, and in each the
-- lower byte first. Placing twice leads back, so at place p stands byte `place o w p`.
abbrev pub place : Order → ℕ → ℕ → ℕ
place Little w k = k
place Big w k = w - 1 - k
place SwappedWords w k = if nat_eq w 1 then 0 else w - 2 - 2 * (k / 2) + k % 2

-- bits 8k to 8k + 7
abbrev pub byte_of : ℕ → ℕ → ℕ
byte_of k n = n / 256 ^ k % 256

-- the byte that a number of the type has at a place
abbrev pub encoded : Order → IntType → ℤ → ℕ → ℕ
encoded o t v p = byte_of (place o (bytes_of t) p) (representation t v)

-- the sum of w bytes, the lowest first
abbrev pub sum_of_bytes : (ℕ → ℕ) → ℕ → ℕ
sum_of_bytes b zero = 0
sum_of_bytes b (suc k) = sum_of_bytes b k + b k * 256 ^ k

-- the number of the type that has these bytes at its places
abbrev pub decoded : Order → IntType → (ℕ → ℕ) → ℤ
decoded o t b = represented t (sum_of_bytes (λ k. b (place o (bytes_of t) k)) (bytes_of t))
