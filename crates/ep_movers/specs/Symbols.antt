-- What the bytes of numbers are by the text alone. A number is the list of its bytes, the lowest first (C11 6.2.6.1).
-- The rules are this project's.
use Rattle.std.specs.Prelude.{ℕ, zero, suc, ◌/◌, ◌^◌, ℤ, pos, Bool, true, false, ◌&&◌, ◌||◌, nat_eq, if◌then◌else◌}
use Rattle.std.specs.Prelude.{List, [], ◌∷◌, ◌++◌, length, take, drop, Option, Some, None, Result, Ok, Err}
use Rattle.ep_int.specs.declared.types.IntType.{IntType}
use Rattle.ep_int.specs.declared.types.BinOp.{BinOp}
use Rattle.ep_int.specs.declared.types.BinOp.TheVariants.{Add, Sub, Mul, Div, Rem, And, Or, Xor, Shl, Shr}
use Rattle.ep_int.specs.Types.{bytes_of, residue}
use Rattle.ep_int.specs.Encoding.{byte_of}
use Rattle.ep_movers.specs.declared.Stop.{Stop}
use Rattle.ep_movers.specs.declared.Stop.TheVariants.{Foreign}

-- A byte is undefined, a number, or one byte of the input before which so many were taken.
pub data Symbol : Type 0 where
  unset : Symbol
  fixed_byte : ℕ → Symbol
  input_byte : (input byte : ℕ) → Symbol

abbrev pub goes_on : {A B : Type 0} → Result A Stop → (A → Result B Stop) → Result B Stop
goes_on (Ok x) f = f x
goes_on (Err s) f = Err s

-- ---- fixed bytes

-- byte k of a number, in two's complement (C11 6.2.6.2)
abbrev pub number_byte : ℤ → (byte : ℕ) → ℕ
number_byte v k = byte_of k (residue (2 ^ 64) v)

-- so many bytes, from byte k on
abbrev pub fixed_bytes : ℤ → (byte count : ℕ) → List Symbol
fixed_bytes v k zero = []
fixed_bytes v k (suc n) = fixed_byte (number_byte v k) ∷ fixed_bytes v (suc k) n

abbrev pub zeros : ℕ → List Symbol
zeros n = fixed_bytes (pos 0) 0 n

abbrev pub is_zero : Symbol → Bool
is_zero unset = false
is_zero (fixed_byte v) = nat_eq v 0
is_zero (input_byte i k) = false

abbrev pub is_set : Symbol → Bool
is_set unset = false
is_set (fixed_byte v) = true
is_set (input_byte i k) = true

-- ---- operators (C11 6.5.6, 6.5.7 and 6.5.10 to 6.5.12)

-- a sum, or a bitwise or, of two bytes of which one is 0
abbrev pub merged_byte : Symbol → Symbol → Result Symbol Stop
merged_byte x y = if is_zero x then Ok y else if is_zero y then Ok x else Err Foreign

abbrev pub merged : List Symbol → List Symbol → Result (List Symbol) Stop
merged [] ys = Ok []
merged (x ∷ xs) [] = Ok []
merged (x ∷ xs) (y ∷ ys) = goes_on (merged_byte x y) (λ z. goes_on (merged xs ys) (λ zs. Ok (z ∷ zs)))

-- the bytes, from byte k on, where the mask has 255, and 0 where it doesn't
abbrev pub masked : ℤ → (byte : ℕ) → List Symbol → List Symbol
masked v k [] = []
masked v k (x ∷ xs) = (if nat_eq (number_byte v k) 255 then x else fixed_byte 0) ∷ masked v (suc k) xs

abbrev pub moved_up : (bytes : ℕ) → List Symbol → List Symbol
moved_up n xs = take (length xs) (zeros n ++ xs)

abbrev pub moved_down : (bytes : ℕ) → List Symbol → List Symbol
moved_down n xs = take (length xs) (drop n xs ++ zeros n)

-- the whole bytes that an amount of bits is
abbrev pub bytes_moved : ℤ → ℕ
bytes_moved v = residue 256 v / 8

-- cut to a type, or filled up with zeros (C11 6.3.1.3, to an unsigned type or of what fits)
abbrev pub resized : IntType → List Symbol → List Symbol
resized t xs = take (bytes_of t) (xs ++ zeros 8)

-- what a shift by a constant gives
abbrev pub shifted : (ℕ → List Symbol → List Symbol) → (amount : Option ℤ) → List Symbol → Result (List Symbol) Stop
shifted move None xs = Err Foreign
shifted move (Some v) xs = Ok (move (bytes_moved v) xs)

-- so many bytes of a number, from byte k on, are 0 or 255
abbrev pub are_whole : ℤ → (byte count : ℕ) → Bool
are_whole v k zero = true
are_whole v k (suc n) = (nat_eq (number_byte v k) 0 || nat_eq (number_byte v k) 255) && are_whole v (suc k) n

-- a mask: a constant that keeps whole bytes
abbrev pub is_mask : Option ℤ → Bool
is_mask None = false
is_mask (Some v) = are_whole v 0 8

abbrev pub masked_by : Option ℤ → List Symbol → Result (List Symbol) Stop
masked_by None xs = Err Foreign
masked_by (Some v) xs = Ok (masked v 0 xs)

-- What an operator gives, of operands with these bytes. As constants, the left is `u`, as a mask alone, and the right
-- is `v`.
abbrev pub operated : BinOp → (u v : Option ℤ) → (xs ys : List Symbol) → Result (List Symbol) Stop
operated Add u v xs ys = merged xs ys
operated Or u v xs ys = merged xs ys
operated Xor u v xs ys = merged xs ys
operated And u v xs ys = if is_mask v then masked_by v xs else masked_by u ys
operated Shl u v xs ys = shifted moved_up v xs
operated Shr u v xs ys = shifted moved_down v xs
operated Sub u v xs ys = Err Foreign
operated Mul u v xs ys = Err Foreign
operated Div u v xs ys = Err Foreign
operated Rem u v xs ys = Err Foreign
