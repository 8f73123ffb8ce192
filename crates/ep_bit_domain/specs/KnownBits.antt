-- Known bits as values: patterns of which every unknown bit takes both values (this project's rules).
use Rattle.std.specs.Prelude.{◌≡◌, ℕ, ℤ, pos, Bool, true, false, ◌&&◌, ◌||◌, if◌then◌else◌, Option, Some, None}
use Rattle.std.specs.Prelude.{Result, Ok, Err, is_some, IsTrue, int_le, int_lt, unsigned_abs, refl}
use Rattle.std.specs.Option.{option_map, option_and_then, unwrap_or}
use Rattle.ep_int.specs.declared.types.IntType.{IntType}
use Rattle.ep_int.specs.declared.types.IntType.TheVariants.{I64, U64}
use Rattle.ep_int.specs.declared.types.BinOp.{BinOp}
use Rattle.ep_int.specs.declared.types.BinOp.TheVariants.{Add, Sub, Mul, Div, Rem, And, Or, Xor, Shl, Shr}
use Rattle.ep_int.specs.declared.types.Cmp.{Cmp}
use Rattle.ep_int.specs.declared.types.Cmp.TheVariants.{Eq, Ne, Lt, Le, Gt, Ge}
use Rattle.ep_int.specs.declared.types.Undef.{Undef}
use Rattle.ep_int.specs.Types.{is_signed, least_of, greatest_of, wrapped}
use Rattle.ep_int.specs.Arith.{arith_of, int_eq, is_amount}
use Rattle.ep_range_laws.specs.Ranges.{nearest_number}
use Rattle.ep_range_laws.specs.Faults.{is_shift, range_fault_of}
use Rattle.ep_domain.specs.declared.outcome.Outcome.{Outcome}
use Rattle.ep_domain.specs.Laws.Shared.{nearest_of_some_type}
use Rattle.ep_bit_laws.specs.Patterns as patterns
use Rattle.ep_bit_laws.specs.Patterns.{Pattern, pattern, is_pattern, closed, exactly, common, joint, type_pattern}
use Rattle.ep_bit_laws.specs.Patterns.{in_type, low_part}
use Rattle.ep_bit_laws.specs.Edges as edges
use Rattle.ep_bit_laws.specs.Results.{both_of, either_of, one_of, right_by, left_by, by_low_bits}
use Rattle.ep_bit_laws.proofs.Patterns.{pattern_from, pattern_test, exact_pattern, common_pattern}
use Rattle.ep_bit_laws.proofs.Types.{type_is_pattern}

pub record KnownBits : Type 0 where
  pub zeros : ℕ
  pub ones : ℕ
  pub valid : IsTrue (is_pattern zeros ones)

abbrev pub pattern_of : KnownBits → Pattern
pattern_of c = pattern c.zeros c.ones

-- a pattern that a value may be
abbrev pub IsValid : Pattern → Type 0
IsValid p = is_pattern p.zeros p.ones ≡ true

abbrev pub made : (p : Pattern) → IsValid p → KnownBits
made p e = record { zeros = p.zeros; ones = p.ones; valid = e }

abbrev pub made_if : (p : Pattern) (b : Bool) → is_pattern p.zeros p.ones ≡ b → Option KnownBits
made_if p true e = Some (made p e)
made_if p false e = None

-- what is known of the numbers that have these bits, or none where a bit contradicts
abbrev pub formed : Pattern → Option KnownBits
formed p = made_if (closed p) (is_pattern (closed p).zeros (closed p).ones) refl

abbrev pub holds_of : KnownBits → ℤ → Bool
holds_of c z = patterns.has (pattern_of c) z

-- what is known of each number of a type
abbrev pub top_of : IntType → KnownBits
top_of t = made (type_pattern t) (pattern_test (type_pattern t) (type_is_pattern t))

abbrev pub single_of : ℤ → KnownBits
single_of v = made (exactly (nearest_number v)) (pattern_test _
    (exact_pattern (nearest_number v) (nearest_of_some_type v)))

-- the least and the greatest member from lo to hi
abbrev pub edges_of : KnownBits → ℤ → ℤ → Option (ℤ × ℤ)
edges_of c lo hi = edges.edges_of (pattern_of c) lo hi

-- the least and the greatest member
abbrev pub range_of : KnownBits → ℤ × ℤ
range_of c = unwrap_or (edges_of c (least_of I64) (greatest_of U64)) (pos 0, pos 0)

-- itself, or a single number where one member is there
abbrev pub cut_at : KnownBits → Option (ℤ × ℤ) → Option KnownBits
cut_at c None = None
cut_at c (Some e) = Some (if int_eq e.0 e.1 then single_of e.0 else c)

abbrev pub cut_of : KnownBits → ℤ → ℤ → Option KnownBits
cut_of c lo hi = cut_at c (edges_of c lo hi)

abbrev pub is_within : KnownBits → KnownBits → Bool
is_within a b = patterns.is_within (pattern_of a) (pattern_of b)

-- the bits that agree
abbrev pub join_of : KnownBits → KnownBits → KnownBits
join_of a b =
    made (common (pattern_of a) (pattern_of b))
    (pattern_test _ (common_pattern _ _ (pattern_from (pattern_of a) a.valid) (pattern_from (pattern_of b) b.valid)))

-- the knowledge of both
abbrev pub meet_of : KnownBits → KnownBits → Option KnownBits
meet_of a b = formed (joint (pattern_of a) (pattern_of b))

abbrev pub rank_of : KnownBits → ℕ
rank_of c = patterns.rank_of (pattern_of c)

-- ---- operators

abbrev pub is_one : KnownBits → Bool
is_one c = int_eq (range_of c).0 (range_of c).1

-- the one number, of a value that is one number
abbrev pub number_of : KnownBits → ℤ
number_of c = (range_of c).0

-- the operands that arithmetic takes
abbrev pub left_operand : IntType → KnownBits → Option KnownBits
left_operand t c = formed (in_type t (pattern_of c))

abbrev pub right_operand : BinOp → IntType → KnownBits → Option KnownBits
right_operand o t c = if is_shift o then Some c else left_operand t c

-- the amount of a shift, where the number is allowed
abbrev pub amount_of : IntType → ℤ → Option ℕ
amount_of t y = if is_amount t y then Some (unsigned_abs y) else None

-- by one amount that is allowed; of more than one amount the type's bits are left
abbrev pub shifted_by : IntType → KnownBits → (ℕ → Option KnownBits) → Option KnownBits
shifted_by t b shift = if is_one b then option_and_then shift (amount_of t (number_of b)) else Some (top_of t)

abbrev pub shifted_left : IntType → KnownBits → ℕ → Option KnownBits
shifted_left t a n = if is_signed t then Some (top_of t) else formed (left_by t n (pattern_of a))

abbrev pub shifted_right : KnownBits → ℕ → Option KnownBits
shifted_right a n = formed (right_by n (pattern_of a))

-- of operands that are not both one number
abbrev pub results_of : BinOp → IntType → KnownBits → KnownBits → Option KnownBits
results_of Add t a b = formed (by_low_bits Add t (pattern_of a) (pattern_of b))
results_of Sub t a b = formed (by_low_bits Sub t (pattern_of a) (pattern_of b))
results_of Mul t a b = formed (by_low_bits Mul t (pattern_of a) (pattern_of b))
results_of Div t a b = Some (top_of t)
results_of Rem t a b = Some (top_of t)
results_of And t a b = formed (both_of (pattern_of a) (pattern_of b))
results_of Or t a b = formed (either_of (pattern_of a) (pattern_of b))
results_of Xor t a b = formed (one_of (pattern_of a) (pattern_of b))
results_of Shl t a b = shifted_by t b (shifted_left t a)
results_of Shr t a b = shifted_by t b (shifted_right a)

abbrev pub single_result : Result ℤ Undef → Option KnownBits
single_result (Ok v) = Some (single_of v)
single_result (Err u) = None

abbrev pub results_between : BinOp → IntType → KnownBits → KnownBits → Option KnownBits
results_between o t a b =
    if is_one a && is_one b then single_result (arith_of o t (number_of a) (number_of b)) else results_of o t a b

abbrev pub value_of : BinOp → IntType → KnownBits → KnownBits → Option KnownBits
value_of o t a b =
    option_and_then (λ x. option_and_then (results_between o t x) (right_operand o t b)) (left_operand t a)

abbrev pub outcome_of : BinOp → IntType → KnownBits → KnownBits → Outcome KnownBits
outcome_of o t a b = record {
  value = value_of o t a b;
  fault = is_some (range_fault_of o t (range_of a) (range_of b));
  shown = unwrap_or (range_fault_of o t (range_of a) (range_of b)) (pos 0, pos 0);
}

-- ---- conversion, comparison

abbrev pub conversion_of_more : KnownBits → IntType → KnownBits
conversion_of_more c t = if is_signed t then top_of t else unwrap_or (formed (low_part t (pattern_of c))) (top_of t)

abbrev pub conversion_of : KnownBits → IntType → KnownBits
conversion_of c t = if is_one c then single_of (wrapped t (number_of c)) else conversion_of_more c t

-- some numbers of two ranges compare so
abbrev pub may_compare : Cmp → ℤ × ℤ → ℤ × ℤ → Bool
may_compare Eq r s = int_le r.0 s.1 && int_le s.0 r.1
may_compare Ne r s = int_lt r.0 s.1 || int_lt s.0 r.1
may_compare Lt r s = int_lt r.0 s.1
may_compare Le r s = int_le r.0 s.1
may_compare Gt r s = int_lt s.0 r.1
may_compare Ge r s = int_le s.0 r.1

abbrev pub twice : KnownBits → KnownBits × KnownBits
twice c = (c, c)

abbrev pub kept_if_compare : Cmp → KnownBits → KnownBits → Option (KnownBits × KnownBits)
kept_if_compare c a b = if may_compare c (range_of a) (range_of b) then Some (a, b) else None

abbrev pub filter_of : Cmp → KnownBits → KnownBits → Option (KnownBits × KnownBits)
filter_of Eq a b = option_map twice (meet_of a b)
filter_of Ne a b = kept_if_compare Ne a b
filter_of Lt a b = kept_if_compare Lt a b
filter_of Le a b = kept_if_compare Le a b
filter_of Gt a b = kept_if_compare Gt a b
filter_of Ge a b = kept_if_compare Ge a b
