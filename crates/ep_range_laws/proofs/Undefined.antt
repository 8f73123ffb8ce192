-- Where arithmetic is undefined of two numbers.
use Rattle.std.proofs.Common.{◌≡◌, ℕ, zero, suc, ◌*◌, ◌/◌, ◌-◌, ◌≤◌, ℤ, pos, negsuc, ◌≤ℤ◌, ◌<ℤ◌, neg_ℤ, Bool, true}
use Rattle.ep_int.proofs.Arithmetic.{le_fact, le_test, up_to_in_range}
use Rattle.std.proofs.Common.{false, cond, not, ◌&&◌, ◌⊎◌, inl, inr, Ok, Err, is_err, refl, ap, ◌∙◌, arith}
use Rattle.std.specs.Prelude.{int_le, int_lt, int_div, unsigned_abs}
use Rattle.std.specs.Int.{int_min, int_max}
use Rattle.std.proofs.Math.Nat.{div-le_self}
use Rattle.std.proofs.lemmas.Int.{ints, clamps}
use Rattle.ep_int.specs.declared.types.IntType.{IntType}
use Rattle.ep_int.specs.declared.types.IntType.TheVariants.{I8, U8, I16, U16, I32, U32, I64, U64}
use Rattle.ep_int.specs.declared.types.Undef.{Undef}
use Rattle.ep_int.specs.Types.{bits_of, is_signed, least_of, greatest_of, InRange, wrapped}
use Rattle.ep_int.specs.Arith.{is_in_range, settled, is_divisible, is_amount}
use Rattle.ep_range_laws.specs.Faults.{nearest_amount}
use Rattle.ep_range_laws.proofs.Comparisons.{le_false, lt_true, lt_false, from_le_false}
use Rattle.ep_range_laws.proofs.Comparisons.{from_lt_true, from_lt_false, between_false, from_between_false}
use Rattle.ep_range_laws.proofs.Types.{least_negative, greatest_positive, least_signed, least_unsigned, reach}
use Rattle.ep_range_laws.proofs.Types.{in_range_true}

-- ---- exact results

-- the result is out of the range of a signed type
pub record IsOut (t : IntType) (v : ℤ) : Type 0 where
  pub signed : is_signed t ≡ true
  pub out : (v <ℤ least_of t) ⊎ (greatest_of t <ℤ v)

error_at : {X : Type 0} (s i : Bool) (v w : X) (u : Undef) → is_err (cond s (cond i (Ok v) (Err u)) (Ok w)) ≡ true → (s ≡ true) × (i ≡ false)
error_at true true v w u e = cc
error_at true false v w u e = (refl, refl)
error_at false i v w u e = cc

error_from : {X : Type 0} (s i : Bool) (v w : X) (u : Undef) → s ≡ true → i ≡ false → is_err (cond s (cond i (Ok v) (Err u)) (Ok w)) ≡ true
error_from true true v w u e f = cc
error_from true false v w u e f = refl
error_from false i v w u e f = cc

pub settled_out : (u : Undef) (t : IntType) (v : ℤ) → is_err (settled u t v) ≡ true → IsOut t v
settled_out u t v e =
    let p = error_at (is_signed t) (is_in_range t v) v (wrapped t v) u e in
    record { signed = p.0; out = from_between_false _ _ _ _ p.1 }

pub out_settled : (u : Undef) (t : IntType) (v : ℤ) → IsOut t v → is_err (settled u t v) ≡ true
out_settled u t v h = error_from (is_signed t) (is_in_range t v) v (wrapped t v) u h.signed (between_false _ _ _ _ h.out)

-- ---- division

pub error_if : {X : Type 0} (b : Bool) (v : X) (u : Undef) → is_err (cond b (Ok v) (Err u)) ≡ true → b ≡ false
error_if true v u e = cc
error_if false v u e = refl

pub if_error : {X : Type 0} (b : Bool) (v : X) (u : Undef) → b ≡ false → is_err (cond b (Ok v) (Err u)) ≡ true
if_error true v u e = cc
if_error false v u e = refl

-- the divisor is 0, or the quotient that of the least number of a signed type by -1
pub record IsLeastByMinusOne (t : IntType) (x y : ℤ) : Type 0 where
  pub signed : is_signed t ≡ true
  pub least : x ≡ least_of t
  pub minus_one : y ≡ negsuc 0

half_below : (a b : ℕ) → (a / suc (suc b)) * 2 ≤ a
half_below a b = let e : (a / suc (suc b)) * suc (suc b) ≤ a = omega arith in grind arith

negative_signed : (t : IntType) (n : ℕ) → InRange t (negsuc n) → is_signed t ≡ true
negative_signed t n h = by_test (is_signed t) refl
  where
    by_test : (b : Bool) → is_signed t ≡ b → is_signed t ≡ true
    by_test true e = e
    by_test false e = let f = least_unsigned t e in let p = h.low in absurd (omega (arith, ints))

in_mirrored : (t : IntType) (a q : ℕ) → is_signed t ≡ true → InRange t (pos a) → q ≤ a → InRange t (neg_ℤ (pos q))
in_mirrored t a q s h k = let p = h.high in let e = least_signed t s in let g = greatest_positive t in record { low = omega (arith, ints); high = omega (arith, ints) }

in_negative : (t : IntType) (a q : ℕ) → InRange t (negsuc a) → q ≤ suc a → InRange t (neg_ℤ (pos q))
in_negative t a q h k = let p = h.low in let g = greatest_positive t in record { low = omega (arith, ints); high = omega (arith, ints) }

in_half : (t : IntType) (a q : ℕ) → InRange t (negsuc a) → q * 2 ≤ suc a → InRange t (pos q)
in_half t a q h k = let p = h.low in let l = least_negative t in let g = greatest_positive t in let r = reach t in record { low = omega (arith, ints); high = omega (arith, ints) }

by_minus_one : (t : IntType) (a : ℕ) → InRange t (negsuc a) → (InRange t (pos (suc a / 1))) ⊎ IsLeastByMinusOne t (negsuc a) (negsuc 0)
by_minus_one t a h = by_test (int_le (pos (suc a)) (greatest_of t)) refl
  where
    by_test : (b : Bool) → int_le (pos (suc a)) (greatest_of t) ≡ b → (InRange t (pos (suc a / 1))) ⊎ IsLeastByMinusOne t (negsuc a) (negsuc 0)
    by_test true e = let k = le_fact (pos (suc a)) (greatest_of t) e in let l = least_negative t in inl (record { low = omega (arith, ints); high = omega (arith, ints) })
    by_test false e = let k = from_le_false (pos (suc a)) (greatest_of t) e in let s = negative_signed t a h in let m = least_signed t s in let p = h.low in inr (record { signed = s; least = omega (arith, ints); minus_one = refl })

-- A quotient of two numbers of a type is of the type, but for these.
pub quotient_cases : (t : IntType) (x y : ℤ) → InRange t x → InRange t y → (y ≡ pos 0) ⊎ (InRange t (int_div x y) ⊎ IsLeastByMinusOne t x y)
quotient_cases t x (pos zero) h k = inl refl
quotient_cases t (pos a) (pos (suc b)) h k = inr (inl (up_to_in_range t a (a / suc b) h (div-le_self a (suc b))))
quotient_cases t (pos a) (negsuc b) h k = inr (inl (in_mirrored t a (a / suc b) (negative_signed t b k) h (div-le_self a (suc b))))
quotient_cases t (negsuc a) (pos (suc b)) h k = inr (inl (in_negative t a (suc a / suc b) h (div-le_self (suc a) (suc b))))
quotient_cases t (negsuc a) (negsuc zero) h k = inr (by_minus_one t a h)
quotient_cases t (negsuc a) (negsuc (suc b)) h k = inr (inl (in_half t a (suc a / suc (suc b)) h (half_below (suc a) b)))

divides : (t : IntType) (x y : ℤ) → (y ≡ pos 0 → ⊥) → InRange t (int_div x y) → is_divisible t x y ≡ true
divides t x y n h = both (not (int_le y (pos 0) && int_le (pos 0) y)) (is_in_range t (int_div x y)) (not_zero y n) (in_range_true t _ h)
  where
    both : (p q : Bool) → p ≡ true → q ≡ true → (p && q) ≡ true
    both true q e f = f
    both false q e f = e

    not_zero : (y : ℤ) → (y ≡ pos 0 → ⊥) → not (int_le y (pos 0) && int_le (pos 0) y) ≡ true
    not_zero (pos zero) n = absurd (n refl)
    not_zero (pos (suc b)) n = ap not (between_false (pos (suc b)) (pos 0) (pos 0) (pos (suc b)) (inl (omega (arith, ints))))
    not_zero (negsuc b) n = refl

pub undivided : (t : IntType) (x y : ℤ) → InRange t x → InRange t y → is_divisible t x y ≡ false → (y ≡ pos 0) ⊎ IsLeastByMinusOne t x y
undivided t x y h k e = by_zero y k e
  where
    true_false : (b : Bool) {P : Type 0} → b ≡ true → b ≡ false → P
    true_false b e f = absurd cc

    by_case : (y : ℤ) → (y ≡ pos 0 → ⊥) → is_divisible t x y ≡ false → (y ≡ pos 0) ⊎ (InRange t (int_div x y) ⊎ IsLeastByMinusOne t x y) → (y ≡ pos 0) ⊎ IsLeastByMinusOne t x y
    by_case y n e (inl z) = inl z
    by_case y n e (inr (inl i)) = true_false (is_divisible t x y) (divides t x y n i) e
    by_case y n e (inr (inr l)) = inr l

    by_zero : (y : ℤ) → InRange t y → is_divisible t x y ≡ false → (y ≡ pos 0) ⊎ IsLeastByMinusOne t x y
    by_zero (pos zero) k e = inl refl
    by_zero (pos (suc b)) k e = by_case (pos (suc b)) (λ z. cc) e (quotient_cases t x (pos (suc b)) h k)
    by_zero (negsuc b) k e = by_case (negsuc b) (λ z. cc) e (quotient_cases t x (negsuc b) h k)

pub not_by_zero : (t : IntType) (x : ℤ) → is_divisible t x (pos 0) ≡ false
not_by_zero t x = refl

pub not_by_minus_one : (t : IntType) → is_signed t ≡ true → is_divisible t (least_of t) (negsuc 0) ≡ false
not_by_minus_one I8 e = refl
not_by_minus_one U8 e = cc
not_by_minus_one I16 e = refl
not_by_minus_one U16 e = cc
not_by_minus_one I32 e = refl
not_by_minus_one U32 e = cc
not_by_minus_one I64 e = refl
not_by_minus_one U64 e = cc

-- ---- shifts

pub amount_from : (t : IntType) (y : ℤ) → is_amount t y ≡ true → (pos 0 ≤ℤ y) × (y <ℤ pos (bits_of t))
amount_from t y e = parts (int_le (pos 0) y) (int_lt y (pos (bits_of t))) refl refl e
  where
    parts : (p q : Bool) → int_le (pos 0) y ≡ p → int_lt y (pos (bits_of t)) ≡ q → (p && q) ≡ true → (pos 0 ≤ℤ y) × (y <ℤ pos (bits_of t))
    parts true q e f g = (le_fact _ _ e, from_lt_true _ _ (f ∙ g))
    parts false q e f g = cc

pub amount_true : (t : IntType) (y : ℤ) → pos 0 ≤ℤ y → y <ℤ pos (bits_of t) → is_amount t y ≡ true
amount_true t y p q = both (int_le (pos 0) y) (int_lt y (pos (bits_of t))) (le_test _ _ p) (lt_true _ _ q)
  where
    both : (p q : Bool) → p ≡ true → q ≡ true → (p && q) ≡ true
    both true q e f = f
    both false q e f = e

pub no_amount : (t : IntType) (y : ℤ) → is_amount t y ≡ false → (y <ℤ pos 0) ⊎ (pos (bits_of t) ≤ℤ y)
no_amount t y e = parts (int_le (pos 0) y) (int_lt y (pos (bits_of t))) refl refl e
  where
    parts : (p q : Bool) → int_le (pos 0) y ≡ p → int_lt y (pos (bits_of t)) ≡ q → (p && q) ≡ false → (y <ℤ pos 0) ⊎ (pos (bits_of t) ≤ℤ y)
    parts true q e f g = inr (from_lt_false _ _ (f ∙ g))
    parts false q e f g = inl (from_le_false _ _ e)

pub amount_false : (t : IntType) (y : ℤ) → (y <ℤ pos 0) ⊎ (pos (bits_of t) ≤ℤ y) → is_amount t y ≡ false
amount_false t y (inl h) = first (int_le (pos 0) y) (int_lt y (pos (bits_of t))) (le_false _ _ h)
  where
    first : (p q : Bool) → p ≡ false → (p && q) ≡ false
    first true q e = cc
    first false q e = refl
amount_false t y (inr h) = second (int_le (pos 0) y) (int_lt y (pos (bits_of t))) (lt_false _ _ h)
  where
    second : (p q : Bool) → q ≡ false → (p && q) ≡ false
    second true q e = e
    second false q e = refl

pub bits_positive : (t : IntType) → 1 ≤ bits_of t
bits_positive I8 = omega arith
bits_positive U8 = omega arith
bits_positive I16 = omega arith
bits_positive U16 = omega arith
bits_positive I32 = omega arith
bits_positive U32 = omega arith
bits_positive I64 = omega arith
bits_positive U64 = omega arith

-- an amount is its own nearest one, and no nearest amount is below that of a smaller number
pub nearest_same : (t : IntType) (y : ℤ) → is_amount t y ≡ true → nearest_amount t y ≡ unsigned_abs y
nearest_same t y e = let p = amount_from t y e in let q = p.0 in let r = p.1 in ap unsigned_abs (clamped y (bits_of t) q r)
  where
    clamped : (y : ℤ) (w : ℕ) → pos 0 ≤ℤ y → y <ℤ pos w → int_max (pos 0) (int_min y (pos (w - 1))) ≡ y
    clamped y w p q = omega (arith, ints, clamps)

abs_le : (a b : ℤ) → pos 0 ≤ℤ a → a ≤ℤ b → unsigned_abs a ≤ unsigned_abs b
abs_le (pos a) (pos b) p q = omega (arith, ints)
abs_le (pos a) (negsuc b) p q = absurd (omega (arith, ints))
abs_le (negsuc a) b p q = absurd (omega (arith, ints))

pub nearest_above : (t : IntType) (y d : ℤ) → is_amount t y ≡ true → y ≤ℤ d → unsigned_abs y ≤ nearest_amount t d
nearest_above t y d e h =
    let p = amount_from t y e in let q = p.0 in let r = p.1 in
    let w = bits_positive t in
    abs_le y (int_max (pos 0) (int_min d (pos (bits_of t - 1)))) q (clamped y d (bits_of t) r h)
  where
    clamped : (y d : ℤ) (w : ℕ) → y <ℤ pos w → y ≤ℤ d → y ≤ℤ int_max (pos 0) (int_min d (pos (w - 1)))
    clamped y d w p q = omega (arith, ints, clamps)
