-- Products of unsigned numbers, as the code makes them of 128 bits.
use Rattle.std.proofs.Common.{◌≡◌, ℕ, ◌-◌, ◌*◌, ◌/◌, ◌%◌, ◌^◌, ◌<◌, ◌≤◌, ℤ, pos, negsuc, ◌-ℤ◌, ◌≤ℤ◌, Bool, true}
use Rattle.ep_domain.proofs.FaultCode.{pair_same}
use Rattle.ep_range_laws.proofs.Corners.{le_pos}
use Rattle.std.proofs.Common.{false, cond, ◌&&◌, Option, refl, sym, ap, ◌∙◌, subst, arith, to_z}
use mir.Syntax.{w128}
use Rattle.std.specs.Prelude.{nat_le, unsigned_abs}
use Rattle.std.proofs.Math.Nat.{mul-le-mul_right, mul-le-mul_left, mul-div_cancel, pow-le-pow_right}
use Rattle.std.proofs.lemmas.Nat.{mul-lt, div-add-mod', one_shl, pow_pos, mod_below}
use Rattle.std.proofs.lemmas.Int.{ints, clamps, to_z_pos}
use Rattle.ep_int.specs.declared.types.IntType.{IntType}
use Rattle.ep_int.specs.declared.types.BinOp.TheVariants.{Mul}
use Rattle.ep_int.specs.Types.{bits_of, is_signed, least_of, greatest_of, InRange, wrapped}
use Rattle.ep_int.specs.Arith.{int_eq}
use Rattle.ep_range_laws.specs.Faults.{shown_range, least_of_four, greatest_of_four}
use Rattle.ep_range_laws.proofs.Comparisons.{between_true, from_between, le_self, le_antisym}
use Rattle.ep_range_laws.proofs.Types.{least_unsigned, number_high}
use Rattle.ep_interval_laws.specs.Ends.{in_one_stretch, wrapped_low}
use Rattle.ep_interval_laws.specs.Interval.{Interval, between}
use Rattle.ep_interval_laws.specs.Results.{settled_between, whole}
use Rattle.ep_intervals.proofs.Machine.{reduced_is}

-- unsigned numbers are natural
pub positive : (t : IntType) (x : ℤ) → is_signed t ≡ false → InRange t x → (x ≡ pos (unsigned_abs x)) × (unsigned_abs x < 2 ^ 64)
positive t x s i = let z = least_unsigned t s in let l = i.low in let h = i.high in let g = number_high t in by_sign x (omega (arith, ints)) (omega (arith, ints))
  where
    by_sign : (x : ℤ) → pos 0 ≤ℤ x → x ≤ℤ pos 18446744073709551615 → (x ≡ pos (unsigned_abs x)) × (unsigned_abs x < 2 ^ 64)
    by_sign (pos n) p q = (refl, omega (arith, ints))
    by_sign (negsuc n) p q = absurd (omega (arith, ints))

pub product_fits : (t : IntType) (x y : ℤ) → is_signed t ≡ false → InRange t x → InRange t y → unsigned_abs x * unsigned_abs y < 2 ^ 128
product_fits t x y s i j = mul-lt (unsigned_abs x) (unsigned_abs y) (2 ^ 64) (2 ^ 64) (positive t x s i).1 (positive t y s j).1

least_corner : (ac ad bc bd : ℤ) → ac ≤ℤ ad → ac ≤ℤ bc → ac ≤ℤ bd → least_of_four ac ad bc bd ≡ ac
least_corner ac ad bc bd p q r = omega (arith, ints, clamps)

greatest_corner : (ac ad bc bd : ℤ) → ac ≤ℤ bd → ad ≤ℤ bd → bc ≤ℤ bd → greatest_of_four ac ad bc bd ≡ bd
greatest_corner ac ad bc bd p q r = omega (arith, ints, clamps)

natural_products : (a b c d : ℕ) → a ≤ b → c ≤ d → shown_range Mul (pos a, pos b) (pos c, pos d) ≡ (pos (a * c), pos (b * d))
natural_products a b c d p q =
    let ad = mul-le-mul_left a q in let bc = mul-le-mul_right c p in let bd = mul-le-mul_left b q in let ae = mul-le-mul_right d p in
    pair_same _ _ _ _
    (least_corner (pos (a * c)) (pos (a * d)) (pos (b * c)) (pos (b * d)) (le_pos _ _ ad) (le_pos _ _ bc) (omega (arith, ints)))
    (greatest_corner (pos (a * c)) (pos (a * d)) (pos (b * c)) (pos (b * d)) (omega (arith, ints)) (le_pos _ _ ae) (le_pos _ _ bd))

-- the ends of the products are those of the least and of the greatest numbers
pub products_are : (t : IntType) (x y : ℤ × ℤ) → is_signed t ≡ false → InRange t x.0 → InRange t x.1 → x.0 ≤ℤ x.1 → InRange t y.0 → InRange t y.1 → y.0 ≤ℤ y.1 →
    shown_range Mul x y ≡ (pos (unsigned_abs x.0 * unsigned_abs y.0), pos (unsigned_abs x.1 * unsigned_abs y.1))
products_are t x y s a b p c d q =
    let e = (positive t x.0 s a).0 in let f = (positive t x.1 s b).0 in let g = (positive t y.0 s c).0 in let h = (positive t y.1 s d).0 in
    ap (λ z. shown_range Mul z y) (pair_same x.0 x.1 (pos (unsigned_abs x.0)) (pos (unsigned_abs x.1)) e f)
    ∙ ap (shown_range Mul (pos (unsigned_abs x.0), pos (unsigned_abs x.1))) (pair_same y.0 y.1 (pos (unsigned_abs y.0)) (pos (unsigned_abs y.1)) g h)
    ∙ natural_products (unsigned_abs x.0) (unsigned_abs x.1) (unsigned_abs y.0) (unsigned_abs y.1) (order x.0 x.1 e f p) (order y.0 y.1 g h q)
  where
    order : (l h : ℤ) → l ≡ pos (unsigned_abs l) → h ≡ pos (unsigned_abs h) → l ≤ℤ h → unsigned_abs l ≤ unsigned_abs h
    order l h e f p = omega (arith, ints)

-- ---- conversion to an unsigned type

wrapped_natural : (t : IntType) (n : ℕ) → is_signed t ≡ false → wrapped t (pos n) ≡ pos (n % 2 ^ bits_of t)
wrapped_natural t n s = ap (λ b. cond (b && nat_le (2 ^ (bits_of t - 1)) (n % 2 ^ bits_of t)) (negsuc (2 ^ bits_of t - 1 - n % 2 ^ bits_of t)) (pos (n % 2 ^ bits_of t))) s

start : (n m : ℕ) → (pos n -ℤ pos (n % m)) ≡ pos (n / m * m)
start n m = let e = div-add-mod' n m in omega (arith, ints)

start_of : (t : IntType) (n : ℕ) → is_signed t ≡ false → (pos n -ℤ wrapped t (pos n)) ≡ pos (n / 2 ^ bits_of t * 2 ^ bits_of t)
start_of t n s = ap (λ z. pos n -ℤ z) (wrapped_natural t n s) ∙ start n (2 ^ bits_of t)

pub one_stretch : (t : IntType) (m n : ℕ) → is_signed t ≡ false → m / 2 ^ bits_of t ≡ n / 2 ^ bits_of t → in_one_stretch t (pos m) (pos n) ≡ true
one_stretch t m n s e =
    let f : (pos m -ℤ wrapped t (pos m)) ≡ (pos n -ℤ wrapped t (pos n)) = start_of t m s ∙ ap (λ k. pos (k * 2 ^ bits_of t)) e ∙ sym (start_of t n s) in
    equal_true (pos m -ℤ wrapped t (pos m)) (pos n -ℤ wrapped t (pos n)) f
  where
    equal_true : (x y : ℤ) → x ≡ y → int_eq x y ≡ true
    equal_true x y e = subst (λ z. int_eq x z ≡ true) e (between_true x x x x (le_self x) (le_self x))

same_factor : (a b m : ℕ) → 0 < m → a * m ≡ b * m → a ≡ b
same_factor a b m p e = sym (mul-div_cancel a p) ∙ ap (λ k. k / m) e ∙ mul-div_cancel b p

pub two_stretches : (t : IntType) (m n : ℕ) → is_signed t ≡ false → ((m / 2 ^ bits_of t ≡ n / 2 ^ bits_of t) → ⊥) → in_one_stretch t (pos m) (pos n) ≡ false
two_stretches t m n s e = by_test (in_one_stretch t (pos m) (pos n)) refl
  where
    by_test : (b : Bool) → in_one_stretch t (pos m) (pos n) ≡ b → b ≡ false
    by_test false g = refl
    by_test true g =
        let r = from_between (pos m -ℤ wrapped t (pos m)) (pos n -ℤ wrapped t (pos n)) (pos n -ℤ wrapped t (pos n)) (pos m -ℤ wrapped t (pos m)) g in
        let d : (pos m -ℤ wrapped t (pos m)) ≡ (pos n -ℤ wrapped t (pos n)) = le_antisym _ _ r.0 r.1 in
        let f : pos (m / 2 ^ bits_of t * 2 ^ bits_of t) ≡ pos (n / 2 ^ bits_of t * 2 ^ bits_of t) = sym (start_of t m s) ∙ d ∙ start_of t n s in
        absurd (e (same_factor (m / 2 ^ bits_of t) (n / 2 ^ bits_of t) (2 ^ bits_of t) (pow_pos (bits_of t)) (ap unsigned_abs f)))

pub reduced_products : (t : IntType) (e : ℤ × ℤ) (m n : ℕ) (r : Option Interval) → is_signed t ≡ false → e ≡ (pos m, pos n) → m / 2 ^ bits_of t ≡ n / 2 ^ bits_of t →
    r ≡ between (pos (m % 2 ^ bits_of t)) (pos (n % 2 ^ bits_of t)) → r ≡ settled_between t e
reduced_products t e m n r s f g h =
    let o = one_stretch t m n s g in
    let i : r ≡ settled_between t (pos m, pos n) =
    reduced_is t (pos m, pos n) r s (h ∙ ap (λ z. between z (pos (n % 2 ^ bits_of t))) (sym (wrapped_natural t m s) ∙ sym (ap (λ b. cond b (wrapped t (pos m)) (least_of t)) o))
    ∙ ap (between (wrapped_low t (pos m) (pos n))) (sym (wrapped_natural t n s) ∙ sym (ap (λ b. cond b (wrapped t (pos n)) (greatest_of t)) o))) in
    i ∙ ap (settled_between t) (sym f)

pub whole_products : (t : IntType) (e : ℤ × ℤ) (m n : ℕ) (r : Option Interval) → is_signed t ≡ false → e ≡ (pos m, pos n) → ((m / 2 ^ bits_of t ≡ n / 2 ^ bits_of t) → ⊥) → r ≡ whole t → r ≡ settled_between t e
whole_products t e m n r s f g h =
    let o = two_stretches t m n s g in
    let i : r ≡ settled_between t (pos m, pos n) =
    reduced_is t (pos m, pos n) r s (h ∙ ap (λ z. between z (greatest_of t)) (sym (ap (λ b. cond b (wrapped t (pos m)) (least_of t)) o)) ∙ ap (between (wrapped_low t (pos m) (pos n))) (sym (ap (λ b. cond b (wrapped t (pos n)) (greatest_of t)) o))) in
    i ∙ ap (settled_between t) (sym f)

pub size_is : (t : IntType) (k : ℕ) → k ≡ bits_of t → k ≤ 64 → (1 * 2 ^ k) % 2 ^ 128 ≡ 2 ^ bits_of t
size_is t k e h = one_shl k 128 (omega arith) ∙ ap (λ n. 2 ^ n) e

pub cast_is : (t : IntType) (n k : ℕ) → k ≡ bits_of t → k ≤ 64 → to_z w128 (n % 2 ^ bits_of t) ≡ pos (n % 2 ^ bits_of t)
cast_is t n k e h =
    let m = mod_below n (2 ^ bits_of t) (pow_pos (bits_of t)) in
    let p : bits_of t ≤ 64 = omega arith in
    let q : 2 ^ bits_of t ≤ 2 ^ 64 = pow-le-pow_right {n = 2} (omega arith) p in
    to_z_pos w128 (n % 2 ^ bits_of t) (omega arith)
