-- The number of a form, by its bits.
use Rattle.std.proofs.Common.{◌≡◌, ℕ, zero, suc, ◌+◌, ◌-◌, ◌*◌, ◌/◌, ◌%◌, ◌^◌, ◌<◌, ℤ, pos, negsuc, true, false}
use Rattle.std.proofs.Common.{nat_eq, cond, List, [], ◌∷◌, ◌++◌, length, sym, refl, ap, ◌∙◌, subst, arith, add-zero}
use Rattle.std.proofs.lemmas.Nat.{pow_pos, pow-add, mod_low, mod_below, field_of, shr-shr, shr_below}
use Rattle.std.proofs.Math.Nat.{pow-suc}
use Rattle.std.proofs.Math.Pow.{mod-mod-pow}
use Rattle.ep_int.specs.Types.{residue}
use Rattle.ep_int.proofs.Wrapping.{residue_below}
use Rattle.ep_bitslice.specs.declared.cell.CellName.{CellName}
use Rattle.ep_bitslice.specs.declared.segment.Segment.{Segment}
use Rattle.ep_bitslice.specs.declared.segment.Segment.TheVariants.{Bits, Fixed}
use Rattle.ep_bitslice.specs.Bits.{Bit, fixed, cell_bit, Numbers, bit_of, digit, number_of_bits, is_odd}
use Rattle.ep_bitslice.specs.Segments.{fixed_bits, run_bits, segment_bits, bits, segment_number, number, IsSegment}
use Rattle.ep_bitslice.specs.Segments.{AreSegments}
use Rattle.ep_bitslice.proofs.Joining.{length-segment_bits}

-- ---- bits of a whole number

-- The low bits of the low bits are the low bits.
complement_mod : (j k r : ℕ) → r < 2 ^ (j + k) → (2 ^ (j + k) - 1 - r) % 2 ^ k ≡ 2 ^ k - 1 - r % 2 ^ k
complement_mod j k r h =
    let q : ℕ = r / 2 ^ k in
    let l : ℕ = r % 2 ^ k in
    let lb : r % 2 ^ k < 2 ^ k = mod_below r (2 ^ k) (pow_pos k) in
    let qb : r / 2 ^ k < 2 ^ j = shr_below r j k h in
    let s : r ≡ r / 2 ^ k * 2 ^ k + r % 2 ^ k = omega arith in
    let e : 2 ^ (j + k) - 1 - r ≡ (2 ^ j - 1 - r / 2 ^ k) * 2 ^ k + (2 ^ k - 1 - r % 2 ^ k) =
    parts (2 ^ j) (2 ^ k) (2 ^ (j + k)) r (r / 2 ^ k) (r % 2 ^ k) (pow-add 2 j k) qb lb s in
    rw e (mod_low (2 ^ j - 1 - r / 2 ^ k) k (2 ^ k - 1 - r % 2 ^ k) (omega (arith, lb)))
  where
    parts : (J K P r q l : ℕ) → P ≡ J * K → q < J → l < K → r ≡ q * K + l → P - 1 - r ≡ (J - 1 - q) * K + (K - 1 - l)
    parts J K P r q l e a b s =
        let d : J ≡ J - 1 - q + q + 1 = omega arith in
        let f : J * K ≡ (J - 1 - q) * K + q * K + K = ap (λ n. n * K) d ∙ omega arith in
        omega (arith, e, f, s, b)

pub residue-split : (j k : ℕ) (v : ℤ) → residue (2 ^ (j + k)) v % 2 ^ k ≡ residue (2 ^ k) v
residue-split j k (pos n) = mod-mod-pow n j k
residue-split j k (negsuc n) =
    complement_mod j k (n % 2 ^ (j + k)) (mod_below n (2 ^ (j + k)) (pow_pos (j + k)))
    ∙ ap (λ r. 2 ^ k - 1 - r) (mod-mod-pow n j k)

bit_below : (v : ℤ) (k : ℕ) → bit_of v k < 2
bit_below v k = shr_below (residue (2 ^ (k + 1)) v) 1 k (below (residue (2 ^ (k + 1)) v) (residue_below (2 ^ (k + 1)) v (pow_pos (k + 1))))
  where
    below : (r : ℕ) → r < 2 ^ (k + 1) → r < 2 ^ (1 + k)
    below r h = let e : k + 1 ≡ 1 + k = omega arith in subst (λ n. r < 2 ^ n) e h

-- Bit k and the bits above it.
step : (v : ℤ) (k m : ℕ) → bit_of v k + 2 * (residue (2 ^ (k + 1 + m)) v / 2 ^ (k + 1)) ≡ residue (2 ^ (k + suc m)) v / 2 ^ k
step v k m =
    let e : k + suc m ≡ m + (1 + k) = omega arith in
    let f : k + 1 + m ≡ m + (1 + k) = omega arith in
    let g : k + 1 ≡ 1 + k = omega arith in
    let r : residue (2 ^ (1 + k)) v ≡ residue (2 ^ (m + (1 + k))) v % 2 ^ (1 + k) = sym (residue-split m (1 + k) v) in
    rw (e, f, g, r) (whole (residue (2 ^ (m + (1 + k))) v))
  where
    whole : (R : ℕ) → R % 2 ^ (1 + k) / 2 ^ k + 2 * (R / 2 ^ (1 + k)) ≡ R / 2 ^ k
    whole R =
        let a : R % 2 ^ (1 + k) / 2 ^ k ≡ R / 2 ^ k % 2 = field_of R 1 k in
        let d : 1 + k ≡ k + 1 = omega arith in
        let b : R / 2 ^ (1 + k) ≡ R / 2 ^ k / 2 = ap (λ n. R / 2 ^ n) d ∙ sym (shr-shr R k 1) in
        rw (a, b) (omega arith)

number-run_bits : (n : Numbers) (c : CellName) (k m : ℕ) → number_of_bits n (run_bits c k m) ≡ residue (2 ^ (k + m)) (n c) / 2 ^ k
number-run_bits n c k zero = rw add-zero (sym (nothing (residue (2 ^ k) (n c)) (residue_below (2 ^ k) (n c) (pow_pos k))))
  where
    nothing : (r : ℕ) → r < 2 ^ k → r / 2 ^ k ≡ 0
    nothing r h = let b : r / 2 ^ k < 2 ^ 0 = shr_below r 0 k (subst (λ i. r < 2 ^ i) (omega arith) h) in omega (arith, b)
number-run_bits n c k (suc m) =
    ap (λ r. bit_of (n c) k + 2 * r) (number-run_bits n c (k + 1) m) ∙ step (n c) k m

pub digit_is : (v : ℕ) → cond (is_odd v) 1 0 ≡ v % 2
digit_is v = by (v % 2) (omega arith)
  where
    by : (r : ℕ) → r < 2 → cond (nat_eq r 1) 1 0 ≡ r
    by zero h = refl
    by (suc zero) h = refl
    by (suc (suc r)) h = absurd (omega arith)

pub number-fixed_bits : (n : Numbers) (w v : ℕ) → v < 2 ^ w → number_of_bits n (fixed_bits w v) ≡ v
number-fixed_bits n zero v h = omega (arith, h)
number-fixed_bits n (suc w) v h =
    let half : v / 2 < 2 ^ w = omega (arith, pow-suc 2 w) in
    omega (arith, digit_is v, number-fixed_bits n w (v / 2) half)

number-segment_bits : (n : Numbers) (s : Segment) → IsSegment s → number_of_bits n (segment_bits s) ≡ segment_number n s
number-segment_bits n (Bits c f t) h =
    let e : f + (t - f) ≡ t = omega arith in
    number-run_bits n c f (t - f) ∙ ap (λ i. residue (2 ^ i) (n c) / 2 ^ f) e
number-segment_bits n (Fixed v w) h = number-fixed_bits n w v h.2

-- ---- lists of bits

pub digit_below : (n : Numbers) (b : Bit) → digit n b < 2
digit_below n (fixed true) = omega arith
digit_below n (fixed false) = omega arith
digit_below n (cell_bit c k) = bit_below (n c) k

pub number_below : (n : Numbers) (bs : List Bit) → number_of_bits n bs < 2 ^ length bs
number_below n [] = omega arith
number_below n (b ∷ bs) = omega (arith, digit_below n b, number_below n bs, pow-suc 2 (length bs))

pub number-append : (n : Numbers) (xs ys : List Bit) → number_of_bits n (xs ++ ys) ≡ number_of_bits n xs + number_of_bits n ys * 2 ^ length xs
number-append n [] ys = omega arith
number-append n (x ∷ xs) ys = regroup (digit n x) (number_of_bits n xs) (number_of_bits n ys) (2 ^ length xs) _ _ (number-append n xs ys) (pow-suc 2 (length xs))
  where
    regroup : (d a b p q r : ℕ) → r ≡ a + b * p → q ≡ p * 2 → d + 2 * r ≡ d + 2 * a + b * q
    regroup d a b p q r e f = rw (e, f) (omega arith)

-- The number of a form is that of its bits.
pub number-bits : (n : Numbers) (ss : List Segment) → AreSegments ss → number n ss ≡ number_of_bits n (bits ss)
number-bits n [] h = refl
number-bits n (s ∷ ss) h =
    sym (number-append n (segment_bits s) (bits ss) ∙ rw (length-segment_bits s, number-segment_bits n s h.0, ← number-bits n ss h.1) (omega arith))
