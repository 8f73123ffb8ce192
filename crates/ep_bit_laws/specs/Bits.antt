-- The bits of whole numbers in two's complement (C11 6.2.6.2), of however many bits.
use Rattle.std.specs.Prelude.{ℕ, ◌^◌, ℤ, pos, negsuc, Bool, not, nat_eq}
use Rattle.std.specs.Int.{bit_at}
use Rattle.ep_int.specs.Types.{residue}

-- bit k of a natural number
abbrev pub bit : ℕ → ℕ → Bool
bit n k = nat_eq (bit_at n k) 1

-- bit k of a whole number: -1 - n has the bits that n has not
abbrev pub bit_of : ℤ → ℕ → Bool
bit_of (pos n) k = bit n k
bit_of (negsuc n) k = not (bit n k)

-- bits 0 to 64. Of a number from -2^63 to 2^64 - 1 the bits above are as bit 64.
abbrev pub low_bits : ℤ → ℕ
low_bits z = residue (2 ^ 65) z
