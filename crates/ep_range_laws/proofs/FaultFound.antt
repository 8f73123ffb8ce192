-- The test for a pair of which arithmetic is undefined is true exactly where there is one.
use Rattle.std.proofs.Common.{◌≡◌, ℕ, ◌^◌, ◌≤◌, ℤ, pos, negsuc, ◌+ℤ◌, ◌-ℤ◌, ◌*ℤ◌, ◌≤ℤ◌, ◌<ℤ◌, Bool, true, false, cond}
use Rattle.ep_int.proofs.Arithmetic.{le_fact, le_test}
use Rattle.std.proofs.Common.{◌&&◌, ◌⊎◌, inl, inr, Err, is_err, refl, arith, subst}
use Rattle.std.specs.Prelude.{int_le, int_lt, unsigned_abs}
use Rattle.std.proofs.Math.Nat.{pow-le-pow_right, mul-le-mul_left}
use Rattle.std.proofs.lemmas.Bool.{and_parts, and_from, or_cases, or_left, or_right}
use Rattle.std.proofs.lemmas.Int.{ints}
use Rattle.ep_int.specs.declared.types.IntType.{IntType}
use Rattle.ep_int.specs.declared.types.BinOp.{BinOp}
use Rattle.ep_int.specs.declared.types.BinOp.TheVariants.{Add, Sub, Mul, Div, Rem, And, Or, Xor, Shl, Shr}
use Rattle.ep_int.specs.declared.types.Undef.{Undef}
use Rattle.ep_int.specs.declared.types.Undef.TheVariants.{Overflow, Division, Shift}
use Rattle.ep_int.specs.Types.{bits_of, is_signed, least_of, greatest_of, InRange}
use Rattle.ep_int.specs.Arith.{arith_of, settled, is_divisible, is_amount}
use Rattle.ep_range_laws.specs.Ranges.{LiesIn}
use Rattle.ep_range_laws.specs.Faults.{shown_range, lies_in, may_overflow, may_not_divide, may_pass_width}
use Rattle.ep_range_laws.specs.Faults.{may_not_shift, may_fault, nearest_amount}
use Rattle.ep_range_laws.proofs.Comparisons.{le_false, lt_true, from_le_false, from_lt_true}
use Rattle.ep_range_laws.proofs.Comparisons.{between_true, from_between, outside_true, from_outside}
use Rattle.ep_range_laws.proofs.Corners.{product_up}
use Rattle.ep_range_laws.proofs.Types.{least_negative, least_unsigned}
use Rattle.ep_range_laws.proofs.Undefined.{IsOut, settled_out, out_settled, error_if, if_error, IsLeastByMinusOne}
use Rattle.ep_range_laws.proofs.Undefined.{undivided, not_by_zero, not_by_minus_one, no_amount, amount_false}
use Rattle.ep_range_laws.proofs.Undefined.{nearest_same, nearest_above}
use Rattle.ep_range_laws.proofs.FaultAt.{FaultAt, ShownAt, low_lies, high_lies, low_shown, high_shown, each_shown}

-- ---- exact results

overflows : (u : Undef) (t : IntType) (e : ℤ × ℤ) → may_overflow t e ≡ true → (IsOut t e.0) ⊎ (IsOut t e.1)
overflows u t e h = by_end (from_outside _ _ _ _ (and_parts (is_signed t) _ h).1)
  where
    by_end : (e.0 <ℤ least_of t) ⊎ (greatest_of t <ℤ e.1) → (IsOut t e.0) ⊎ (IsOut t e.1)
    by_end (inl k) = inl (record { signed = (and_parts (is_signed t) _ h).0; out = inl k })
    by_end (inr k) = inr (record { signed = (and_parts (is_signed t) _ h).0; out = inr k })

out_overflows : (t : IntType) (e : ℤ × ℤ) (v : ℤ) → LiesIn e v → IsOut t v → may_overflow t e ≡ true
out_overflows t e v h k = and_from (is_signed t) _ k.signed (outside_true _ _ _ _ (by_end k.out))
  where
    by_end : (v <ℤ least_of t) ⊎ (greatest_of t <ℤ v) → (e.0 <ℤ least_of t) ⊎ (greatest_of t <ℤ e.1)
    by_end (inl p) = let q = h.low in inl (omega (arith, ints))
    by_end (inr p) = let q = h.high in inr (omega (arith, ints))

at_add : (t : IntType) (r s : ℤ × ℤ) (v : ℤ) → ShownAt Add r s v → IsOut t v → FaultAt Add t r s
at_add t r s v h k = record { x = h.x; y = h.y; left = h.left; right = h.right; undefined = out_settled Overflow t _ (subst (IsOut t) h.shown k) }

at_sub : (t : IntType) (r s : ℤ × ℤ) (v : ℤ) → ShownAt Sub r s v → IsOut t v → FaultAt Sub t r s
at_sub t r s v h k = record { x = h.x; y = h.y; left = h.left; right = h.right; undefined = out_settled Overflow t _ (subst (IsOut t) h.shown k) }

at_mul : (t : IntType) (r s : ℤ × ℤ) (v : ℤ) → ShownAt Mul r s v → IsOut t v → FaultAt Mul t r s
at_mul t r s v h k = record { x = h.x; y = h.y; left = h.left; right = h.right; undefined = out_settled Overflow t _ (subst (IsOut t) h.shown k) }

-- ---- division

pub record Divisor (t : IntType) (r s : ℤ × ℤ) : Type 0 where
  pub x : ℤ
  pub y : ℤ
  pub left : LiesIn r x
  pub right : LiesIn s y
  pub undefined : is_divisible t x y ≡ false

lies_from : (r : ℤ × ℤ) (v : ℤ) → lies_in r v ≡ true → LiesIn r v
lies_from r v h = let p = from_between _ _ _ _ h in record { low = p.0; high = p.1 }

lies_true : (r : ℤ × ℤ) (v : ℤ) → LiesIn r v → lies_in r v ≡ true
lies_true r v h = between_true _ _ _ _ h.low h.high

signed_where : (t : IntType) (s : ℤ × ℤ) → InRange t s.0 → LiesIn s (negsuc 0) → is_signed t ≡ true
signed_where t s i h = by_test (is_signed t) refl
  where
    by_test : (b : Bool) → is_signed t ≡ b → is_signed t ≡ true
    by_test true e = e
    by_test false e = let f = least_unsigned t e in let p = i.low in let q = h.low in absurd (omega (arith, ints))

undivided_at : (t : IntType) (r s : ℤ × ℤ) → r.0 ≤ℤ r.1 → InRange t s.0 → may_not_divide t r s ≡ true → Divisor t r s
undivided_at t r s h i e = by_case (or_cases (lies_in s (pos 0)) (lies_in r (least_of t) && lies_in s (negsuc 0)) e)
  where
    by_case : (lies_in s (pos 0) ≡ true) ⊎ ((lies_in r (least_of t) && lies_in s (negsuc 0)) ≡ true) → Divisor t r s
    by_case (inl z) = record { x = r.0; y = pos 0; left = low_lies r h; right = lies_from s (pos 0) z; undefined = not_by_zero t r.0 }
    by_case (inr m) = let p = and_parts (lies_in r (least_of t)) (lies_in s (negsuc 0)) m in let k = lies_from s (negsuc 0) p.1 in
        record { x = least_of t; y = negsuc 0; left = lies_from r (least_of t) p.0; right = k; undefined = not_by_minus_one t (signed_where t s i k) }

at_undivided : (t : IntType) (r s : ℤ × ℤ) (x y : ℤ) → LiesIn r x → LiesIn s y → InRange t x → InRange t y → is_divisible t x y ≡ false → may_not_divide t r s ≡ true
at_undivided t r s x y h k i j e = by_case (undivided t x y i j e)
  where
    by_case : (y ≡ pos 0) ⊎ IsLeastByMinusOne t x y → may_not_divide t r s ≡ true
    by_case (inl z) = or_left (lies_in s (pos 0)) _ (lies_true s (pos 0) (subst (LiesIn s) z k))
    by_case (inr l) = or_right (lies_in s (pos 0)) _ (and_from _ _ (lies_true r (least_of t) (subst (LiesIn r) l.least h)) (lies_true s (negsuc 0) (subst (LiesIn s) l.minus_one k)))

-- ---- shifts

pub record Amount (t : IntType) (s : ℤ × ℤ) : Type 0 where
  pub y : ℤ
  pub right : LiesIn s y
  pub undefined : is_amount t y ≡ false

passes_at : (t : IntType) (s : ℤ × ℤ) → s.0 ≤ℤ s.1 → may_pass_width t s ≡ true → Amount t s
passes_at t s h e = by_case (or_cases (int_lt s.0 (pos 0)) (int_le (pos (bits_of t)) s.1) e)
  where
    by_case : (int_lt s.0 (pos 0) ≡ true) ⊎ (int_le (pos (bits_of t)) s.1 ≡ true) → Amount t s
    by_case (inl p) = record { y = s.0; right = low_lies s h; undefined = amount_false t s.0 (inl (from_lt_true s.0 (pos 0) p)) }
    by_case (inr p) = record { y = s.1; right = high_lies s h; undefined = amount_false t s.1 (inr (le_fact (pos (bits_of t)) s.1 p)) }

at_passes : (t : IntType) (s : ℤ × ℤ) (y : ℤ) → LiesIn s y → is_amount t y ≡ false → may_pass_width t s ≡ true
at_passes t s y h e = by_case (no_amount t y e)
  where
    by_case : (y <ℤ pos 0) ⊎ (pos (bits_of t) ≤ℤ y) → may_pass_width t s ≡ true
    by_case (inl p) = let q = h.low in or_left _ _ (lt_true s.0 (pos 0) (omega (arith, ints)))
    by_case (inr p) = let q = h.high in or_right (int_lt s.0 (pos 0)) _ (le_test (pos (bits_of t)) s.1 (omega (arith, ints)))

shl_no_amount : (t : IntType) (x y : ℤ) → is_amount t y ≡ false → is_err (arith_of Shl t x y) ≡ true
shl_no_amount t x y e = by_test (is_amount t y) (int_le (pos 0) x) e
  where
    by_test : (p q : Bool) → p ≡ false → is_err (cond (p && q) (settled Shift t (x *ℤ pos (2 ^ unsigned_abs y))) (Err Shift)) ≡ true
    by_test true q e = cc
    by_test false q e = refl

shl_negative : (t : IntType) (x y : ℤ) → int_le (pos 0) x ≡ false → is_err (arith_of Shl t x y) ≡ true
shl_negative t x y e = by_test (is_amount t y) (int_le (pos 0) x) e
  where
    by_test : (p q : Bool) → q ≡ false → is_err (cond (p && q) (settled Shift t (x *ℤ pos (2 ^ unsigned_abs y))) (Err Shift)) ≡ true
    by_test true true e = cc
    by_test true false e = refl
    by_test false q e = refl

shl_out : (t : IntType) (x y : ℤ) → IsOut t (x *ℤ pos (2 ^ unsigned_abs y)) → is_err (arith_of Shl t x y) ≡ true
shl_out t x y h = by_test (is_amount t y && int_le (pos 0) x)
  where
    by_test : (p : Bool) → is_err (cond p (settled Shift t (x *ℤ pos (2 ^ unsigned_abs y))) (Err Shift)) ≡ true
    by_test true = out_settled Shift t _ h
    by_test false = refl

-- a product by a power is above a limit that is not negative only where the factor is not negative
out_above : (t : IntType) (x y : ℤ) (n : ℕ) → is_signed t ≡ true → greatest_of t <ℤ (x *ℤ pos (2 ^ n)) → n ≡ unsigned_abs y → IsOut t (x *ℤ pos (2 ^ unsigned_abs y))
out_above t x y n s h e = record { signed = s; out = inr (subst (λ k. greatest_of t <ℤ (x *ℤ pos (2 ^ k))) e h) }

not_shifted_at : (t : IntType) (r s : ℤ × ℤ) → r.0 ≤ℤ r.1 → s.0 ≤ℤ s.1 → may_not_shift t r s ≡ true → FaultAt Shl t r s
not_shifted_at t r s h k e = by_case (or_cases _ _ (and_parts (is_signed t) _ e).1)
  where
    by_amount : (b : Bool) → is_amount t s.1 ≡ b → greatest_of t <ℤ (r.1 *ℤ pos (2 ^ nearest_amount t s.1)) → is_err (arith_of Shl t r.1 s.1) ≡ true
    by_amount true f g = shl_out t r.1 s.1 (out_above t r.1 s.1 _ (and_parts (is_signed t) _ e).0 g (nearest_same t s.1 f))
    by_amount false f g = shl_no_amount t r.1 s.1 f

    by_case : (int_lt r.0 (pos 0) ≡ true) ⊎ (int_lt (greatest_of t) (r.1 *ℤ pos (2 ^ nearest_amount t s.1)) ≡ true) → FaultAt Shl t r s
    by_case (inl p) = record { x = r.0; y = s.0; left = low_lies r h; right = low_lies s k; undefined = shl_negative t r.0 s.0 (le_false (pos 0) r.0 (from_lt_true r.0 (pos 0) p)) }
    by_case (inr p) = record { x = r.1; y = s.1; left = high_lies r h; right = high_lies s k; undefined = by_amount (is_amount t s.1) refl (from_lt_true _ _ p) }

power_up : (x : ℤ) (m n : ℕ) → pos 0 ≤ℤ x → m ≤ n → (x *ℤ pos (2 ^ m)) ≤ℤ (x *ℤ pos (2 ^ n))
power_up (pos x) m n p h = let q = pow-le-pow_right {n = 2} (omega arith) h in let e = mul-le-mul_left x q in omega (arith, ints)
power_up (negsuc x) m n p h = absurd (omega (arith, ints))

product_positive : (x : ℤ) (m : ℕ) → pos 0 ≤ℤ x → pos 0 ≤ℤ (x *ℤ pos m)
product_positive (pos x) m p = omega (arith, ints)
product_positive (negsuc x) m p = absurd (omega (arith, ints))

above_least : (t : IntType) (v : ℤ) → pos 0 ≤ℤ v → (v <ℤ least_of t) ⊎ (greatest_of t <ℤ v) → greatest_of t <ℤ v
above_least t v p (inl h) = let q = least_negative t in absurd (omega (arith, ints))
above_least t v p (inr h) = h

at_not_shifted : (t : IntType) (r s : ℤ × ℤ) (x y : ℤ) → LiesIn r x → LiesIn s y → is_amount t y ≡ true → pos 0 ≤ℤ x → IsOut t (x *ℤ pos (2 ^ unsigned_abs y)) → may_not_shift t r s ≡ true
at_not_shifted t r s x y h k a p o =
    let g = above_least t _ (product_positive x (2 ^ unsigned_abs y) p) o.out in
    let u = power_up x (unsigned_abs y) (nearest_amount t s.1) p (nearest_above t y s.1 a k.high) in
    let v = product_up x r.1 (2 ^ nearest_amount t s.1) h.high in
    let w : greatest_of t <ℤ (r.1 *ℤ pos (2 ^ nearest_amount t s.1)) = below_trans (greatest_of t) _ _ _ g u v in
    and_from (is_signed t) _ o.signed (or_right (int_lt r.0 (pos 0)) _ (lt_true _ _ w))
  where
    below_trans : (a b c d : ℤ) → a <ℤ b → b ≤ℤ c → c ≤ℤ d → a <ℤ d
    below_trans a b c d p q r = omega (arith, ints)

at_negative : (t : IntType) (r s : ℤ × ℤ) (x : ℤ) → LiesIn r x → InRange t x → x <ℤ pos 0 → may_not_shift t r s ≡ true
at_negative t r s x h i p = by_test (is_signed t) refl
  where
    by_test : (b : Bool) → is_signed t ≡ b → may_not_shift t r s ≡ true
    by_test true e = let q = h.low in and_from (is_signed t) _ e (or_left (int_lt r.0 (pos 0)) _ (lt_true r.0 (pos 0) (omega (arith, ints))))
    by_test false e = let f = least_unsigned t e in let q = i.low in absurd (omega (arith, ints))

at_shift_left : (t : IntType) (r s : ℤ × ℤ) (x y : ℤ) → LiesIn r x → LiesIn s y → InRange t x → is_err (arith_of Shl t x y) ≡ true → may_fault Shl t r s ≡ true
at_shift_left t r s x y h k i e = by_tests (is_amount t y) (int_le (pos 0) x) refl refl e
  where
    by_tests : (p q : Bool) → is_amount t y ≡ p → int_le (pos 0) x ≡ q → is_err (cond (p && q) (settled Shift t (x *ℤ pos (2 ^ unsigned_abs y))) (Err Shift)) ≡ true → may_fault Shl t r s ≡ true
    by_tests true true f g e = or_right (may_pass_width t s) _ (at_not_shifted t r s x y h k f (le_fact (pos 0) x g) (settled_out Shift t _ e))
    by_tests true false f g e = or_right (may_pass_width t s) _ (at_negative t r s x h i (from_le_false (pos 0) x g))
    by_tests false q f g e = or_left (may_pass_width t s) _ (at_passes t s y k f)

-- ---- each operator

pub fault_found : (o : BinOp) (t : IntType) (r s : ℤ × ℤ) → r.0 ≤ℤ r.1 → s.0 ≤ℤ s.1 → (o ≡ Div → InRange t s.0) → (o ≡ Rem → InRange t s.0) → may_fault o t r s ≡ true → FaultAt o t r s
fault_found Add t r s h k i j e = by_end (overflows Overflow t (shown_range Add r s) e)
  where
    by_end : (IsOut t (shown_range Add r s).0) ⊎ (IsOut t (shown_range Add r s).1) → FaultAt Add t r s
    by_end (inl o) = at_add t r s _ (low_shown Add r s h k) o
    by_end (inr o) = at_add t r s _ (high_shown Add r s h k) o
fault_found Sub t r s h k i j e = by_end (overflows Overflow t (shown_range Sub r s) e)
  where
    by_end : (IsOut t (shown_range Sub r s).0) ⊎ (IsOut t (shown_range Sub r s).1) → FaultAt Sub t r s
    by_end (inl o) = at_sub t r s _ (low_shown Sub r s h k) o
    by_end (inr o) = at_sub t r s _ (high_shown Sub r s h k) o
fault_found Mul t r s h k i j e = by_end (overflows Overflow t (shown_range Mul r s) e)
  where
    by_end : (IsOut t (shown_range Mul r s).0) ⊎ (IsOut t (shown_range Mul r s).1) → FaultAt Mul t r s
    by_end (inl o) = at_mul t r s _ (low_shown Mul r s h k) o
    by_end (inr o) = at_mul t r s _ (high_shown Mul r s h k) o
fault_found Div t r s h k i j e = let d = undivided_at t r s h (i refl) e in record { x = d.x; y = d.y; left = d.left; right = d.right; undefined = if_error (is_divisible t d.x d.y) _ Division d.undefined }
fault_found Rem t r s h k i j e = let d = undivided_at t r s h (j refl) e in record { x = d.x; y = d.y; left = d.left; right = d.right; undefined = if_error (is_divisible t d.x d.y) _ Division d.undefined }
fault_found And t r s h k i j e = cc
fault_found Or t r s h k i j e = cc
fault_found Xor t r s h k i j e = cc
fault_found Shl t r s h k i j e = by_case (or_cases (may_pass_width t s) (may_not_shift t r s) e)
  where
    by_case : (may_pass_width t s ≡ true) ⊎ (may_not_shift t r s ≡ true) → FaultAt Shl t r s
    by_case (inl p) = let a = passes_at t s k p in record { x = r.0; y = a.y; left = low_lies r h; right = a.right; undefined = shl_no_amount t r.0 a.y a.undefined }
    by_case (inr p) = not_shifted_at t r s h k p
fault_found Shr t r s h k i j e = let a = passes_at t s k e in record { x = r.0; y = a.y; left = low_lies r h; right = a.right; undefined = if_error (is_amount t a.y) _ Shift a.undefined }

pub found_fault : (o : BinOp) (t : IntType) (r s : ℤ × ℤ) (x y : ℤ) → LiesIn r x → LiesIn s y → InRange t x → (o ≡ Div → InRange t y) → (o ≡ Rem → InRange t y) → is_err (arith_of o t x y) ≡ true → may_fault o t r s ≡ true
found_fault Add t r s x y h k i j l e = out_overflows t (shown_range Add r s) (x +ℤ y) (each_shown Add r s x y h k) (settled_out Overflow t _ e)
found_fault Sub t r s x y h k i j l e = out_overflows t (shown_range Sub r s) (x -ℤ y) (each_shown Sub r s x y h k) (settled_out Overflow t _ e)
found_fault Mul t r s x y h k i j l e = out_overflows t (shown_range Mul r s) (x *ℤ y) (each_shown Mul r s x y h k) (settled_out Overflow t _ e)
found_fault Div t r s x y h k i j l e = at_undivided t r s x y h k i (j refl) (error_if (is_divisible t x y) _ Division e)
found_fault Rem t r s x y h k i j l e = at_undivided t r s x y h k i (l refl) (error_if (is_divisible t x y) _ Division e)
found_fault And t r s x y h k i j l e = cc
found_fault Or t r s x y h k i j l e = cc
found_fault Xor t r s x y h k i j l e = cc
found_fault Shl t r s x y h k i j l e = at_shift_left t r s x y h k i e
found_fault Shr t r s x y h k i j l e = at_passes t s y k (error_if (is_amount t y) _ Shift e)
