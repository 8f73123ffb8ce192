-- The definitions on worked values.
use Rattle.std.proofs.Common.{◌≡◌, pos, negsuc, true, false, Ok, Err, refl}
use Rattle.ep_int.specs.declared.types.IntType.TheVariants.{I8, U8, I16, U16, I32, U32, I64, U64}
use Rattle.ep_int.specs.declared.types.Order.TheVariants.{Little, Big, SwappedWords}
use Rattle.ep_int.specs.declared.types.BinOp.TheVariants.{Add, Sub, Mul, Div, Rem, And, Or, Xor, Shl, Shr}
use Rattle.ep_int.specs.declared.types.Cmp.TheVariants.{Eq, Ne, Lt, Le, Gt, Ge}
use Rattle.ep_int.specs.declared.types.Undef.TheVariants.{Overflow, Division, Shift}
use Rattle.ep_int.specs.Types.{wrapped}
use Rattle.ep_int.specs.Encoding.{place, encoded, decoded}
use Rattle.ep_int.specs.Arith.{common_of, arith_of, compares}

-- the bytes of 0x12345678, highest first on a big-endian machine
big_bytes : (encoded Big U32 (pos 305419896) 0 ≡ 18) × (encoded Big U32 (pos 305419896) 1 ≡ 52) × (encoded Big U32 (pos 305419896) 2 ≡ 86) × (encoded Big U32 (pos 305419896) 3 ≡ 120)
big_bytes = (refl, refl, refl, refl)

little_bytes : (encoded Little U32 (pos 305419896) 0 ≡ 120) × (encoded Little U32 (pos 305419896) 1 ≡ 86) × (encoded Little U32 (pos 305419896) 2 ≡ 52) × (encoded Little U32 (pos 305419896) 3 ≡ 18)
little_bytes = (refl, refl, refl, refl)

-- units of two bytes, the highest first, and in each the lower byte first
swapped_bytes : (encoded SwappedWords U32 (pos 305419896) 0 ≡ 52) × (encoded SwappedWords U32 (pos 305419896) 1 ≡ 18) × (encoded SwappedWords U32 (pos 305419896) 2 ≡ 120) × (encoded SwappedWords U32 (pos 305419896) 3 ≡ 86)
swapped_bytes = (refl, refl, refl, refl)

swapped_eight : (place SwappedWords 8 0 ≡ 6) × (place SwappedWords 8 1 ≡ 7) × (place SwappedWords 8 6 ≡ 0) × (place SwappedWords 8 7 ≡ 1) × (place SwappedWords 2 0 ≡ 0) × (place SwappedWords 1 0 ≡ 0)
swapped_eight = (refl, refl, refl, refl, refl, refl)

-- and back, also of a negative number
decoded_big : decoded Big U32 (encoded Big U32 (pos 305419896)) ≡ pos 305419896
decoded_big = refl

decoded_little : decoded Little I64 (encoded Little I64 (negsuc 305419895)) ≡ negsuc 305419895
decoded_little = refl

decoded_swapped : decoded SwappedWords I64 (encoded SwappedWords I64 (negsuc 305419895)) ≡ negsuc 305419895
decoded_swapped = refl

-- bytes of one order, read in the other
swapped : decoded Little U16 (encoded Big U16 (pos 513)) ≡ pos 258
swapped = refl

-- -2 as a short
negative_bytes : (encoded Big I16 (negsuc 1) 0 ≡ 255) × (encoded Big I16 (negsuc 1) 1 ≡ 254)
negative_bytes = (refl, refl)

-- 200 as a signed char is -56, and -1 as an unsigned char is 255
conversions : (wrapped I8 (pos 200) ≡ negsuc 55) × (wrapped U8 (negsuc 0) ≡ pos 255) × (wrapped I16 (pos 32768) ≡ negsuc 32767) × (wrapped U64 (negsuc 0) ≡ pos 18446744073709551615)
conversions = (refl, refl, refl, refl)

common_types : (common_of I8 U16 ≡ I32) × (common_of I32 U32 ≡ U32) × (common_of U32 I64 ≡ I64) × (common_of I64 U64 ≡ U64)
common_types = (refl, refl, refl, refl)

sums : (arith_of Add I32 (pos 2147483647) (pos 1) ≡ Err Overflow) × (arith_of Add U32 (pos 4294967295) (pos 1) ≡ Ok (pos 0)) × (arith_of Sub U8 (pos 0) (pos 1) ≡ Ok (pos 255)) × (arith_of Mul I16 (negsuc 255) (pos 128) ≡ Ok (negsuc 32767))
sums = (refl, refl, refl, refl)

-- -7 / 2 is -3 and -7 % 2 is -1
quotients : (arith_of Div I32 (negsuc 6) (pos 2) ≡ Ok (negsuc 2)) × (arith_of Rem I32 (negsuc 6) (pos 2) ≡ Ok (negsuc 0)) × (arith_of Rem I32 (pos 7) (negsuc 1) ≡ Ok (pos 1)) × (arith_of Div I32 (pos 1) (pos 0) ≡ Err Division) × (arith_of Rem I32 (negsuc 2147483647) (negsuc 0) ≡ Err Division)
quotients = (refl, refl, refl, refl, refl)

-- -1 & 255, -2 | 1 and -1 ^ 1
bitwise : (arith_of And I32 (negsuc 0) (pos 255) ≡ Ok (pos 255)) × (arith_of Or I32 (negsuc 1) (pos 1) ≡ Ok (negsuc 0)) × (arith_of Xor I64 (negsuc 0) (pos 1) ≡ Ok (negsuc 1))
bitwise = (refl, refl, refl)

shifts : (arith_of Shl I32 (pos 1) (pos 30) ≡ Ok (pos 1073741824)) × (arith_of Shl I32 (pos 1) (pos 31) ≡ Err Shift) × (arith_of Shl U32 (pos 3) (pos 31) ≡ Ok (pos 2147483648)) × (arith_of Shl U32 (pos 1) (pos 32) ≡ Err Shift) × (arith_of Shl I32 (negsuc 0) (pos 1) ≡ Err Shift) × (arith_of Shr I32 (negsuc 6) (pos 1) ≡ Ok (negsuc 3)) × (arith_of Shr U32 (pos 1) (negsuc 0) ≡ Err Shift)
shifts = (refl, refl, refl, refl, refl, refl, refl)

orders : (compares Eq (negsuc 4) (negsuc 4) ≡ true) × (compares Ne (pos 4) (negsuc 4) ≡ true) × (compares Lt (negsuc 4) (negsuc 3) ≡ true) × (compares Le (pos 0) (negsuc 0) ≡ false) × (compares Gt (pos 0) (negsuc 0) ≡ true) × (compares Ge (pos 3) (pos 4) ≡ false)
orders = (refl, refl, refl, refl, refl, refl)
