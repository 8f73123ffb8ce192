-- Worked rows of the definitions.
use Rattle.std.proofs.Common.{◌≡◌, pos, negsuc, true, false, Some, None, refl}
use Rattle.ep_int.specs.declared.types.IntType.TheVariants.{I8, U8, I32}
use Rattle.ep_int.specs.declared.types.BinOp.TheVariants.{Add, Sub, Mul, Div, Shl}
use Rattle.ep_congruence_laws.specs.Multiples.{gcd_steps}
use Rattle.ep_congruence_laws.specs.Classes.{class, everything, one, has, is_class, is_within, join_of, rank_of}
use Rattle.ep_congruence_laws.specs.Classes.{edges_of, cut_of, conversion_of, meet_of, has_stride}
use Rattle.ep_congruence_laws.specs.Results.{value_of}

-- ---- which classes are values: at the greatest modulus, with a number of some type or none

greatest_modulus_kept : is_class (pos 18446744073709551615) 36893488147419103231 ≡ true
greatest_modulus_kept = refl

modulus_too_great : is_class (pos 0) 36893488147419103232 ≡ false
modulus_too_great = refl

no_number : is_class (pos 18446744073709551616) 36893488147419103231 ≡ false
no_number = refl

least_number : is_class (pos 18446744073709551616) 27670116110564327424 ≡ true
least_number = refl

remainder_too_great : is_class (pos 4) 4 ≡ false
remainder_too_great = refl

-- ---- members

negative_member : has (class (pos 1) 4) (negsuc 2) ≡ true
negative_member = refl

no_member : has (class (pos 1) 4) (negsuc 3) ≡ false
no_member = refl

edges_inside : edges_of (class (pos 1) 4) (pos 0) (pos 10) ≡ Some (pos 1, pos 9)
edges_inside = refl

edges_below_zero : edges_of (class (pos 1) 4) (negsuc 9) (negsuc 0) ≡ Some (negsuc 6, negsuc 2)
edges_below_zero = refl

no_edges : edges_of (class (pos 1) 4) (pos 2) (pos 4) ≡ None
no_edges = refl

cut_to_one_member : cut_of (class (pos 1) 4) (pos 2) (pos 5) ≡ Some (one (pos 5))
cut_to_one_member = refl

cut_to_more : cut_of (class (pos 1) 4) (pos 1) (pos 5) ≡ Some (class (pos 1) 4)
cut_to_more = refl

-- ---- joins, meets, inclusion

joined : join_of (class (pos 1) 4) (class (pos 3) 6) ≡ class (pos 1) 2
unfolding gcd_steps
joined = refl

joined_numbers : join_of (one (negsuc 2)) (one (pos 5)) ≡ class (pos 5) 8
unfolding gcd_steps
joined_numbers = refl

met : meet_of (class (pos 1) 4) (class (pos 3) 6) ≡ Some (class (pos 3) 6)
unfolding gcd_steps
met = refl

met_with_one : meet_of (class (pos 1) 4) (one (pos 9)) ≡ Some (one (pos 9))
unfolding gcd_steps
met_with_one = refl

not_met : meet_of (class (pos 0) 4) (class (pos 1) 2) ≡ None
unfolding gcd_steps
not_met = refl

within_divisor : is_within (class (pos 3) 6) (class (pos 1) 2) ≡ true
within_divisor = refl

not_within : is_within (class (pos 1) 2) (class (pos 3) 6) ≡ false
not_within = refl

-- ---- ranks

rank_of_one : rank_of (one (pos 9)) ≡ 65
rank_of_one = refl

-- ---- sums: a signed one keeps its modulus, an unsigned one that may leave the range only what divides 2 to the width

signed_sum : value_of Add I32 (class (pos 1) 6) (class (pos 3) 4) ≡ Some (class (pos 0) 2)
unfolding gcd_steps
signed_sum = refl

unsigned_sum_inside : value_of Add U8 (class (pos 0) 100) (one (pos 55)) ≡ Some (class (pos 55) 100)
unfolding gcd_steps
unsigned_sum_inside = refl

unsigned_sum_past : value_of Add U8 (class (pos 0) 100) (one (pos 56)) ≡ Some (class (pos 0) 4)
unfolding gcd_steps
unsigned_sum_past = refl

unsigned_difference : value_of Sub U8 (class (pos 5) 100) (one (pos 5)) ≡ Some (class (pos 0) 100)
unfolding gcd_steps
unsigned_difference = refl

unsigned_difference_past : value_of Sub U8 (class (pos 5) 100) (one (pos 6)) ≡ Some (class (pos 3) 4)
unfolding gcd_steps
unsigned_difference_past = refl

sum_of_numbers : value_of Add I8 (one (pos 100)) (one (pos 28)) ≡ None
sum_of_numbers = refl

-- an operand with one member of the type is that number
one_member_of_the_type : value_of Add I8 (class (pos 5) 300) (class (pos 7) 400) ≡ Some (one (pos 12))
one_member_of_the_type = refl

nothing_of_the_type : value_of Add U8 (one (pos 256)) (one (pos 1)) ≡ None
nothing_of_the_type = refl

-- ---- products

product : value_of Mul I32 (class (pos 1) 4) (one (pos 6)) ≡ Some (class (pos 6) 24)
unfolding gcd_steps
product = refl

product_of_classes : value_of Mul I32 (class (pos 2) 4) (class (pos 3) 6) ≡ Some (class (pos 6) 12)
unfolding gcd_steps
product_of_classes = refl

product_by_zero : value_of Mul I32 (class (pos 1) 4) (one (pos 0)) ≡ Some (one (pos 0))
unfolding gcd_steps
product_by_zero = refl

-- ---- shifts, other operators, conversion

shifted : value_of Shl I32 (class (pos 1) 4) (one (pos 3)) ≡ Some (class (pos 8) 32)
unfolding gcd_steps
shifted = refl

shifted_by_class : value_of Shl I32 (class (pos 1) 4) (class (pos 0) 2) ≡ Some everything
shifted_by_class = refl

divided : value_of Div I32 (class (pos 0) 4) (one (pos 2)) ≡ Some everything
divided = refl

converted : conversion_of (class (pos 5) 12) U8 ≡ class (pos 1) 4
unfolding gcd_steps
converted = refl

converted_number : conversion_of (one (pos 200)) I8 ≡ one (negsuc 55)
converted_number = refl

-- ---- strides

stride_of_divisor : has_stride (class (pos 5) 12) 1 4 ≡ true
stride_of_divisor = refl

no_stride : has_stride (class (pos 5) 12) 0 5 ≡ false
no_stride = refl
