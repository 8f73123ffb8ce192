-- Quotients, remainders and shifts to the right of numbers between two ends.
use Rattle.std.specs.Prelude.{◌≡◌, ℕ, zero, suc, ◌/◌, ◌%◌, ◌^◌, ◌<◌, ◌≤◌, ℤ, pos, negsuc, neg_ℤ, ◌-ℤ◌, ◌≤ℤ◌, int_div}
use Rattle.ep_int.proofs.Basics.{power-le}
use Rattle.ep_range_laws.proofs.Corners.{le_pos, neg_le_pos}
use Rattle.std.specs.Prelude.{int_rem, unsigned_abs, refl}
use Rattle.std.specs.Int.{int_min, int_max, int_shr}
use Rattle.std.proofs.Common.{arith, sym, subst}
use Rattle.std.proofs.Math.Nat.{div-le_self, div-mul-le_self, mul-le-mul_left, mod-lt, mod-le}
use Rattle.std.proofs.Math.IntN.{neg_ℤ-neg_ℤ}
use Rattle.std.proofs.lemmas.Nat.{le-div, pow_pos}
use Rattle.std.proofs.lemmas.Int.{ints, clamps}
use Rattle.ep_range_laws.specs.Ranges.{LiesIn}
use Rattle.ep_range_laws.specs.Faults.{least_of_four, greatest_of_four}
use Rattle.ep_interval_laws.specs.Results.{quotients, greatest_size}

-- ---- natural numbers

quotient_up : (a b m : ℕ) → 0 < m → a ≤ b → a / m ≤ b / m
quotient_up a b m p h = le-div (a / m) b m p (let e = div-mul-le_self a m in omega arith)

quotient_down : (a m n : ℕ) → 0 < m → m ≤ n → a / n ≤ a / m
quotient_down a m n p h = le-div (a / n) a m p (let e = div-mul-le_self a n in let f = mul-le-mul_left (a / n) h in omega arith)

-- ---- whole numbers, by a positive divisor

neg_down : (m n : ℕ) → m ≤ n → neg_ℤ (pos n) ≤ℤ neg_ℤ (pos m)
neg_down m n h = omega (arith, ints)

div_up : (x z : ℤ) (n : ℕ) → x ≤ℤ z → int_div x (pos (suc n)) ≤ℤ int_div z (pos (suc n))
div_up (pos x) (pos z) n h = le_pos _ _ (quotient_up x z (suc n) (omega arith) (omega (arith, ints)))
div_up (pos x) (negsuc z) n h = absurd (omega (arith, ints))
div_up (negsuc x) (pos z) n h = neg_le_pos _ _
div_up (negsuc x) (negsuc z) n h = neg_down _ _ (quotient_up (suc z) (suc x) (suc n) (omega arith) (omega (arith, ints)))

-- by a divisor between two
div_high : (x : ℤ) (c y d : ℕ) → c ≤ y → y ≤ d → int_div x (pos (suc y)) ≤ℤ int_max (int_div x (pos (suc c))) (int_div x (pos (suc d)))
div_high (pos x) c y d p q = let e = le_pos _ _ (quotient_down x (suc c) (suc y) (omega arith) (omega arith)) in omega (arith, ints, clamps)
div_high (negsuc x) c y d p q = let e = neg_down _ _ (quotient_down (suc x) (suc y) (suc d) (omega arith) (omega arith)) in omega (arith, ints, clamps)

div_low : (x : ℤ) (c y d : ℕ) → c ≤ y → y ≤ d → int_min (int_div x (pos (suc c))) (int_div x (pos (suc d))) ≤ℤ int_div x (pos (suc y))
div_low (pos x) c y d p q = let e = le_pos _ _ (quotient_down x (suc y) (suc d) (omega arith) (omega arith)) in omega (arith, ints, clamps)
div_low (negsuc x) c y d p q = let e = neg_down _ _ (quotient_down (suc x) (suc c) (suc y) (omega arith) (omega arith)) in omega (arith, ints, clamps)

four_high : (v m a b c d : ℤ) → v ≤ℤ m → m ≤ℤ int_max c d → v ≤ℤ greatest_of_four a b c d
four_high v m a b c d p q = omega (arith, ints, clamps)

four_low : (v m a b c d : ℤ) → m ≤ℤ v → int_min a b ≤ℤ m → least_of_four a b c d ≤ℤ v
four_low v m a b c d p q = omega (arith, ints, clamps)

by_positive : (a x b : ℤ) (c y d : ℕ) → a ≤ℤ x → x ≤ℤ b → c ≤ y → y ≤ d → LiesIn (quotients (a, b) (pos (suc c), pos (suc d))) (int_div x (pos (suc y)))
by_positive a x b c y d p q r s = record {
  low = four_low (int_div x (pos (suc y))) (int_div a (pos (suc y))) (int_div a (pos (suc c))) (int_div a (pos (suc d))) (int_div b (pos (suc c))) (int_div b (pos (suc d))) (div_up a x y p) (div_low a c y d r s);
  high = four_high (int_div x (pos (suc y))) (int_div b (pos (suc y))) (int_div a (pos (suc c))) (int_div a (pos (suc d))) (int_div b (pos (suc c))) (int_div b (pos (suc d))) (div_up x b y q) (div_high b c y d r s);
}

-- ---- by a negative divisor

turned : (x : ℤ) (n : ℕ) → int_div x (negsuc n) ≡ neg_ℤ (int_div x (pos (suc n)))
turned (pos x) n = refl
turned (negsuc x) n = sym (neg_ℤ-neg_ℤ (pos (suc x / suc n)))

turned_high : (v a b c d : ℤ) → least_of_four a b c d ≤ℤ v → neg_ℤ v ≤ℤ greatest_of_four (neg_ℤ b) (neg_ℤ a) (neg_ℤ d) (neg_ℤ c)
turned_high v a b c d p = omega (arith, ints, clamps)

turned_low : (v a b c d : ℤ) → v ≤ℤ greatest_of_four a b c d → least_of_four (neg_ℤ b) (neg_ℤ a) (neg_ℤ d) (neg_ℤ c) ≤ℤ neg_ℤ v
turned_low v a b c d p = omega (arith, ints, clamps)

by_negative : (a x b : ℤ) (c y d : ℕ) → a ≤ℤ x → x ≤ℤ b → d ≤ y → y ≤ c → LiesIn (quotients (a, b) (negsuc c, negsuc d)) (int_div x (negsuc y))
by_negative a x b c y d p q r s =
    let h = by_positive a x b d y c p q r s in
    rw (turned a c, turned a d, turned b c, turned b d, turned x y) (record {
      low = turned_low (int_div x (pos (suc y))) (int_div a (pos (suc d))) (int_div a (pos (suc c))) (int_div b (pos (suc d))) (int_div b (pos (suc c))) h.high;
      high = turned_high (int_div x (pos (suc y))) (int_div a (pos (suc d))) (int_div a (pos (suc c))) (int_div b (pos (suc d))) (int_div b (pos (suc c))) h.low;
    })

-- by divisors of one sign
pub quotient_of_positive : (r s : ℤ × ℤ) (x y : ℤ) → LiesIn r x → LiesIn s y → pos 1 ≤ℤ s.0 → LiesIn (quotients r s) (int_div x y)
quotient_of_positive r s x y h k p = by_ends s.0 y s.1 k.low k.high p
  where
    by_ends : (c y d : ℤ) → c ≤ℤ y → y ≤ℤ d → pos 1 ≤ℤ c → LiesIn (quotients r (c, d)) (int_div x y)
    by_ends (pos (suc c)) (pos (suc y)) (pos (suc d)) p q o = by_positive r.0 x r.1 c y d h.low h.high (omega (arith, ints)) (omega (arith, ints))
    by_ends (pos zero) y d p q o = absurd (omega (arith, ints))
    by_ends (negsuc c) y d p q o = absurd (omega (arith, ints))
    by_ends (pos (suc c)) (pos zero) d p q o = absurd (omega (arith, ints))
    by_ends (pos (suc c)) (negsuc y) d p q o = absurd (omega (arith, ints))
    by_ends (pos (suc c)) (pos (suc y)) (pos zero) p q o = absurd (omega (arith, ints))
    by_ends (pos (suc c)) (pos (suc y)) (negsuc d) p q o = absurd (omega (arith, ints))

pub quotient_of_negative : (r s : ℤ × ℤ) (x y : ℤ) → LiesIn r x → LiesIn s y → s.1 ≤ℤ negsuc 0 → LiesIn (quotients r s) (int_div x y)
quotient_of_negative r s x y h k p = by_ends s.0 y s.1 k.low k.high p
  where
    by_ends : (c y d : ℤ) → c ≤ℤ y → y ≤ℤ d → d ≤ℤ negsuc 0 → LiesIn (quotients r (c, d)) (int_div x y)
    by_ends (negsuc c) (negsuc y) (negsuc d) p q o = by_negative r.0 x r.1 c y d h.low h.high (omega (arith, ints)) (omega (arith, ints))
    by_ends c y (pos d) p q o = absurd (omega (arith, ints))
    by_ends c (pos y) (negsuc d) p q o = absurd (omega (arith, ints))
    by_ends (pos c) (negsuc y) (negsuc d) p q o = absurd (omega (arith, ints))

-- ---- remainders

size_of : (s : ℤ × ℤ) (y : ℤ) → LiesIn s y → pos (unsigned_abs y) ≤ℤ greatest_size s
size_of s (pos y) h = let p = h.high in omega (arith, ints, clamps)
size_of s (negsuc y) h = let p = h.low in omega (arith, ints, clamps)

rem_bounds : (x y : ℤ) (n : ℕ) → unsigned_abs y ≡ suc n → (int_min x (pos 0) ≤ℤ int_rem x y) × ((int_rem x y ≤ℤ int_max x (pos 0)) × ((neg_ℤ (pos n) ≤ℤ int_rem x y) × (int_rem x y ≤ℤ pos n)))
rem_bounds (pos x) y n e =
    let p : x % unsigned_abs y ≤ x = mod-le x (unsigned_abs y) in
    let q : x % unsigned_abs y < unsigned_abs y = mod-lt x (omega arith) in
    (omega (arith, ints, clamps), (omega (arith, ints, clamps), (omega (arith, ints), omega (arith, ints))))
rem_bounds (negsuc x) y n e =
    let p : suc x % unsigned_abs y ≤ suc x = mod-le (suc x) (unsigned_abs y) in
    let q : suc x % unsigned_abs y < unsigned_abs y = mod-lt (suc x) (omega arith) in
    (omega (arith, ints, clamps), (omega (arith, ints, clamps), (omega (arith, ints), omega (arith, ints))))

pub remainder_between : (r s : ℤ × ℤ) (x y : ℤ) → LiesIn r x → LiesIn s y → 0 < unsigned_abs y → LiesIn (int_max (pos 1 -ℤ greatest_size s) (int_min r.0 (pos 0)), int_min (greatest_size s -ℤ pos 1) (int_max r.1 (pos 0))) (int_rem x y)
remainder_between r s x y h k p = by_size (unsigned_abs y) refl p
  where
    by_size : (n : ℕ) → unsigned_abs y ≡ n → 0 < n → LiesIn (int_max (pos 1 -ℤ greatest_size s) (int_min r.0 (pos 0)), int_min (greatest_size s -ℤ pos 1) (int_max r.1 (pos 0))) (int_rem x y)
    by_size zero e p = absurd (omega arith)
    by_size (suc n) e p =
        let b = rem_bounds x y n e in
        let g : pos (suc n) ≤ℤ greatest_size s = subst (λ m. pos m ≤ℤ greatest_size s) e (size_of s y k) in
        record { low = low_of (greatest_size s) r.0 x (int_rem x y) n g h.low b.0 b.1.1.0; high = high_of (greatest_size s) r.1 x (int_rem x y) n g h.high b.1.0 b.1.1.1 }
      where
        low_of : (m l x v : ℤ) (n : ℕ) → pos (suc n) ≤ℤ m → l ≤ℤ x → int_min x (pos 0) ≤ℤ v → neg_ℤ (pos n) ≤ℤ v → int_max (pos 1 -ℤ m) (int_min l (pos 0)) ≤ℤ v
        low_of m l x v n p q r s = omega (arith, ints, clamps)

        high_of : (m u x v : ℤ) (n : ℕ) → pos (suc n) ≤ℤ m → x ≤ℤ u → v ≤ℤ int_max x (pos 0) → v ≤ℤ pos n → v ≤ℤ int_min (m -ℤ pos 1) (int_max u (pos 0))
        high_of m u x v n p q r s = omega (arith, ints, clamps)

-- ---- shifts to the right

negsuc_down : (m n : ℕ) → m ≤ n → negsuc n ≤ℤ negsuc m
negsuc_down m n h = omega (arith, ints)

shr_up : (x z : ℤ) (k : ℕ) → x ≤ℤ z → int_shr x k ≤ℤ int_shr z k
shr_up (pos x) (pos z) k h = le_pos _ _ (quotient_up x z (2 ^ k) (pow_pos k) (omega (arith, ints)))
shr_up (pos x) (negsuc z) k h = absurd (omega (arith, ints))
shr_up (negsuc x) (pos z) k h = omega (arith, ints)
shr_up (negsuc x) (negsuc z) k h = negsuc_down _ _ (quotient_up z x (2 ^ k) (pow_pos k) (omega (arith, ints)))

shr_high : (x : ℤ) (i k j : ℕ) → i ≤ k → k ≤ j → int_shr x k ≤ℤ int_max (int_shr x i) (int_shr x j)
shr_high (pos x) i k j p q = let e = le_pos _ _ (quotient_down x (2 ^ i) (2 ^ k) (pow_pos i) (power-le i k p)) in omega (arith, ints, clamps)
shr_high (negsuc x) i k j p q = let e = negsuc_down _ _ (quotient_down x (2 ^ k) (2 ^ j) (pow_pos k) (power-le k j q)) in omega (arith, ints, clamps)

shr_low : (x : ℤ) (i k j : ℕ) → i ≤ k → k ≤ j → int_min (int_shr x i) (int_shr x j) ≤ℤ int_shr x k
shr_low (pos x) i k j p q = let e = le_pos _ _ (quotient_down x (2 ^ k) (2 ^ j) (pow_pos k) (power-le k j q)) in omega (arith, ints, clamps)
shr_low (negsuc x) i k j p q = let e = negsuc_down _ _ (quotient_down x (2 ^ i) (2 ^ k) (pow_pos i) (power-le i k p)) in omega (arith, ints, clamps)

pub shift_between : (r : ℤ × ℤ) (x : ℤ) (i k j : ℕ) → LiesIn r x → i ≤ k → k ≤ j →
    LiesIn (least_of_four (int_shr r.0 i) (int_shr r.0 j) (int_shr r.1 i) (int_shr r.1 j), greatest_of_four (int_shr r.0 i) (int_shr r.0 j) (int_shr r.1 i) (int_shr r.1 j)) (int_shr x k)
shift_between r x i k j h p q = record {
  low = four_low (int_shr x k) (int_shr r.0 k) (int_shr r.0 i) (int_shr r.0 j) (int_shr r.1 i) (int_shr r.1 j) (shr_up r.0 x k h.low) (shr_low r.0 i k j p q);
  high = four_high (int_shr x k) (int_shr r.1 k) (int_shr r.0 i) (int_shr r.0 j) (int_shr r.1 i) (int_shr r.1 j) (shr_up x r.1 k h.high) (shr_high r.1 i k j p q);
}

-- a shift to the right leaves no limit on either side of zero
pub shift_above : (x : ℤ) (k : ℕ) (l : ℕ) → negsuc l ≤ℤ x → negsuc l ≤ℤ int_shr x k
shift_above (pos x) k l h = omega (arith, ints)
shift_above (negsuc x) k l h = let e = div-le_self x (2 ^ k) in omega (arith, ints)

pub shift_below : (x : ℤ) (k : ℕ) (u : ℕ) → x ≤ℤ pos u → int_shr x k ≤ℤ pos u
shift_below (pos x) k u h = let e = div-le_self x (2 ^ k) in omega (arith, ints)
shift_below (negsuc x) k u h = omega (arith, ints)
