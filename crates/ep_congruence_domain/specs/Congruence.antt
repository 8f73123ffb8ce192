-- Congruences as values: classes that have a number of some integer type.
use Rattle.std.specs.Prelude.{◌≡◌, ℕ, ℤ, pos, ◌-ℤ◌, ◌≤ℤ◌, ◌<ℤ◌, Bool, true, false, ◌&&◌, not, if◌then◌else◌, Option}
use Rattle.std.specs.Prelude.{Some, None, is_some, IsTrue, unsigned_abs, refl}
use Rattle.std.specs.Option.{option_map, option_and_then, unwrap_or}
use Rattle.ep_int.specs.declared.types.IntType.{IntType}
use Rattle.ep_int.specs.declared.types.BinOp.{BinOp}
use Rattle.ep_int.specs.declared.types.Cmp.{Cmp}
use Rattle.ep_int.specs.declared.types.Cmp.TheVariants.{Eq, Ne, Lt, Le, Gt, Ge}
use Rattle.ep_int.specs.Arith.{compares, is_amount, IsOfSomeType}
use Rattle.ep_domain.specs.declared.outcome.Outcome.{Outcome}
use Rattle.ep_range_laws.specs.Ranges.{nearest_number}
use Rattle.ep_range_laws.specs.Faults.{range_fault_of}
use Rattle.ep_domain.specs.Laws.Shared.{nearest_of_some_type}
use Rattle.ep_congruence_laws.specs.Classes as classes
use Rattle.ep_congruence_laws.specs.Classes.{Class, class, everything, one, is_one, is_class, greatest_modulus}
use Rattle.ep_congruence_laws.specs.Results.{value_of, left_operand, right_operand, are_small}
use Rattle.ep_congruence_laws.specs.Multiples.{IsMultiple, gcd}
use Rattle.ep_congruence_laws.proofs.Operations.{join_class}
use Rattle.ep_congruence_laws.proofs.Cuts.{one_class, conversion_class}

-- the remainder and the modulus of a class that has a number of some integer type
pub record Congruence : Type 0 where
  pub remainder : ℤ
  pub modulus : ℕ
  pub valid : IsTrue (is_class remainder modulus)

abbrev pub class_of : Congruence → Class
class_of c = class c.remainder c.modulus

-- a class that a value may be
abbrev pub IsValid : Class → Type 0
IsValid k = is_class k.remainder k.modulus ≡ true

abbrev pub made : (k : Class) → is_class k.remainder k.modulus ≡ true → Congruence
made k p = record { remainder = k.remainder; modulus = k.modulus; valid = p }

abbrev pub formed_at : (k : Class) (b : Bool) → is_class k.remainder k.modulus ≡ b → Option Congruence
formed_at k true e = Some (made k e)
formed_at k false e = None

-- the congruence of a class, where it can be one
abbrev pub formed : Class → Option Congruence
formed k = formed_at k (is_class k.remainder k.modulus) refl

-- a modulus within the limit, a remainder below a modulus that isn't 0, and some number of an integer type that is
-- the remainder modulo the modulus
pub record AreOfClass (r m : ℤ) : Type 0 where
  pub low : pos 0 ≤ℤ m
  pub high : m ≤ℤ pos greatest_modulus
  pub below : pos 0 <ℤ m → (pos 0 ≤ℤ r) × (r <ℤ m)
  pub number : (z : ℤ) × IsOfSomeType z × IsMultiple (unsigned_abs m) (z -ℤ r)

abbrev pub holds_of : Congruence → ℤ → Bool
holds_of c z = classes.has (class_of c) z

-- of each type every number
abbrev pub top_of : IntType → Congruence
top_of t = made everything refl

abbrev pub single_of : ℤ → Congruence
single_of v = made (one (nearest_number v)) (one_class (nearest_number v) (nearest_of_some_type v))

abbrev pub range_of : Congruence → ℤ × ℤ
range_of c = classes.range_of (class_of c)

abbrev pub is_within : Congruence → Congruence → Bool
is_within a b = classes.is_within (class_of a) (class_of b)

abbrev pub join_of : Congruence → Congruence → Congruence
join_of a b = made (classes.join_of (class_of a) (class_of b)) (join_class (class_of a) (class_of b) a.valid b.valid)

abbrev pub meet_of : Congruence → Congruence → Option Congruence
meet_of a b = option_and_then formed (classes.meet_of (class_of a) (class_of b))

abbrev pub conversion_of : Congruence → IntType → Congruence
conversion_of c t = made (classes.conversion_of (class_of c) t) (conversion_class (class_of c) t c.valid)

abbrev pub rank_of : Congruence → ℕ
rank_of c = classes.rank_of (class_of c)

abbrev pub edges_of : Congruence → ℤ → ℤ → Option (ℤ × ℤ)
edges_of c lo hi = classes.edges_of (class_of c) lo hi

abbrev pub cut_of : Congruence → ℤ → ℤ → Option Congruence
cut_of c lo hi = option_and_then formed (classes.cut_of (class_of c) lo hi)

-- ---- operators

-- the greatest common divisor of three products, where none is past the limit
abbrev pub common_divisor : ℕ × ℕ × ℕ → Option ℕ
common_divisor p = if are_small p then Some (gcd (gcd p.0 p.1) p.2) else None

-- the amount of a shift, where it is one number that is allowed
abbrev pub amount_of : IntType → Class → Option ℕ
amount_of t k = if is_one k && is_amount t k.remainder then Some (unsigned_abs k.remainder) else None

-- the range that a fault shows, of the operands that arithmetic takes
abbrev pub fault_between : BinOp → IntType → Option Class → Option Class → Option (ℤ × ℤ)
fault_between o t (Some x) (Some y) = range_fault_of o t (classes.range_of x) (classes.range_of y)
fault_between o t (Some x) None = None
fault_between o t None y = None

abbrev pub fault_of : BinOp → IntType → Congruence → Congruence → Option (ℤ × ℤ)
fault_of o t a b = fault_between o t (left_operand t (class_of a)) (right_operand o t (class_of b))

abbrev pub outcome_of : BinOp → IntType → Congruence → Congruence → Outcome Congruence
outcome_of o t a b = record {
  value = option_and_then formed (value_of o t (class_of a) (class_of b));
  fault = is_some (fault_of o t a b);
  shown = unwrap_or (fault_of o t a b) (pos 0, pos 0);
}

-- ---- comparisons

abbrev pub twice : Congruence → Congruence × Congruence
twice c = (c, c)

-- two numbers that do not compare so
abbrev pub are_apart : Cmp → Congruence → Congruence → Bool
are_apart c a b = (is_one (class_of a) && is_one (class_of b)) && not (compares c a.remainder b.remainder)

abbrev pub kept_unless : Bool → Congruence → Congruence → Option (Congruence × Congruence)
kept_unless t a b = if t then None else Some (a, b)

abbrev pub filter_of : Cmp → Congruence → Congruence → Option (Congruence × Congruence)
filter_of Eq a b = option_map twice (meet_of a b)
filter_of Ne a b = kept_unless (are_apart Ne a b) a b
filter_of Lt a b = kept_unless (are_apart Lt a b) a b
filter_of Le a b = kept_unless (are_apart Le a b) a b
filter_of Gt a b = kept_unless (are_apart Gt a b) a b
filter_of Ge a b = kept_unless (are_apart Ge a b) a b
