-- Laws of single bits.
use Rattle.std.proofs.Common.{◌≡◌, ℕ, zero, suc, ◌+◌, ◌-◌, ◌*◌, ◌/◌, ◌%◌, ◌^◌, ◌<◌, ◌≤◌, Bool, true, false, ◌&&◌}
use Rattle.std.proofs.Common.{◌||◌, not, nat_eq, bit_and, bit_or, ◌⊎◌, inl, inr, arith, refl, sym, ap, ◌∙◌, subst}
use Rattle.std.specs.Prelude.{bit_xor, min, max, min}
use Rattle.std.specs.Int.{bit_at}
use Rattle.std.proofs.lemmas.Nat.{shr-shr, mod_below, pow_pos, pow-add, div-add-mod', div_below}
use Rattle.std.proofs.lemmas.Nat.Bits.{bit_at-lt, bit_at_and, bit_at_or, bit_at_xor, bit_at-zero, bit_at_above}
use Rattle.std.proofs.lemmas.Nat.Bits.{same_from_bits, same_from_bits_below, bit_at_cat_low, bit_at_cat_high}
use Rattle.std.proofs.lemmas.Nat.Bits.{bit_at-pow_same, bit_at-pow_other, bit_at_mask_inside, bit_at_mask_below}
use Rattle.std.proofs.lemmas.Nat.Bits.{bit_at_mask_above, bit_at_ones}
use Rattle.std.proofs.lemmas.Bool.Decides.{nat_tests}
use Rattle.std.proofs.lemmas.Bool.{cases_lt}
use Rattle.ep_bit_laws.specs.Bits.{bit}

-- ---- a bit as a number

pub one_bit : (n k : ℕ) → bit_at n k ≡ 1 → bit n k ≡ true
one_bit n k e = ap (λ d. nat_eq d 1) e

pub zero_bit : (n k : ℕ) → bit_at n k ≡ 0 → bit n k ≡ false
zero_bit n k e = ap (λ d. nat_eq d 1) e

digit_true : (d : ℕ) → nat_eq d 1 ≡ true → d ≡ 1
digit_true d e = grind (arith, nat_tests)

digit_false : (d : ℕ) → d < 2 → nat_eq d 1 ≡ false → d ≡ 0
digit_false d l e = grind (arith, nat_tests)

same_digit : (c d : ℕ) → c < 2 → d < 2 → nat_eq c 1 ≡ nat_eq d 1 → c ≡ d
same_digit c d p q e = at (nat_eq d 1) refl
  where
    at : (t : Bool) → nat_eq d 1 ≡ t → c ≡ d
    at true f = digit_true c (e ∙ f) ∙ sym (digit_true d f)
    at false f = digit_false c p (e ∙ f) ∙ sym (digit_false d q f)

pub same_numbers : (a b : ℕ) → ((k : ℕ) → bit a k ≡ bit b k) → a ≡ b
same_numbers a b h = same_from_bits a b (λ k. same_digit _ _ (bit_at-lt a k) (bit_at-lt b k) (h k))

pub same_below : (w a b : ℕ) → a < 2 ^ w → b < 2 ^ w → ((k : ℕ) → k < w → bit a k ≡ bit b k) → a ≡ b
same_below w a b p q h = same_from_bits_below w a b p q (λ k l. same_digit _ _ (bit_at-lt a k) (bit_at-lt b k) (h k l))

-- ---- of what is computed

and_digits : (x y : ℕ) → x < 2 → y < 2 → nat_eq (min x y) 1 ≡ (nat_eq x 1 && nat_eq y 1)
and_digits zero zero p q = refl
and_digits zero (suc zero) p q = refl
and_digits (suc zero) zero p q = refl
and_digits (suc zero) (suc zero) p q = refl
and_digits (suc (suc x)) y p q = absurd (omega arith)
and_digits x (suc (suc y)) p q = absurd (omega arith)

or_digits : (x y : ℕ) → x < 2 → y < 2 → nat_eq (max x y) 1 ≡ (nat_eq x 1 || nat_eq y 1)
or_digits zero zero p q = refl
or_digits zero (suc zero) p q = refl
or_digits (suc zero) zero p q = refl
or_digits (suc zero) (suc zero) p q = refl
or_digits (suc (suc x)) y p q = absurd (omega arith)
or_digits x (suc (suc y)) p q = absurd (omega arith)

-- one of two
abbrev pub differ : Bool → Bool → Bool
differ true b = not b
differ false b = b

xor_digits : (x y : ℕ) → x < 2 → y < 2 → nat_eq ((x + y) % 2) 1 ≡ differ (nat_eq x 1) (nat_eq y 1)
xor_digits zero zero p q = refl
xor_digits zero (suc zero) p q = refl
xor_digits (suc zero) zero p q = refl
xor_digits (suc zero) (suc zero) p q = refl
xor_digits (suc (suc x)) y p q = absurd (omega arith)
xor_digits x (suc (suc y)) p q = absurd (omega arith)

pub bit-and : (a b k : ℕ) → bit (bit_and a b) k ≡ (bit a k && bit b k)
bit-and a b k = ap (λ d. nat_eq d 1) (bit_at_and a b k) ∙ and_digits _ _ (bit_at-lt a k) (bit_at-lt b k)

pub bit-or : (a b k : ℕ) → bit (bit_or a b) k ≡ (bit a k || bit b k)
bit-or a b k = ap (λ d. nat_eq d 1) (bit_at_or a b k) ∙ or_digits _ _ (bit_at-lt a k) (bit_at-lt b k)

pub bit-xor : (a b k : ℕ) → bit (bit_xor a b) k ≡ differ (bit a k) (bit b k)
bit-xor a b k = ap (λ d. nat_eq d 1) (bit_at_xor a b k) ∙ xor_digits _ _ (bit_at-lt a k) (bit_at-lt b k)

pub bit_of_zero : (k : ℕ) → bit 0 k ≡ false
bit_of_zero k = zero_bit 0 k (bit_at-zero k)

pub bit_above : (n w k : ℕ) → n < 2 ^ w → w ≤ k → bit n k ≡ false
bit_above n w k h l = zero_bit n k (bit_at_above n w k h l)

-- a bit that is 1 is below the width
pub bit_within : (n w k : ℕ) → n < 2 ^ w → bit n k ≡ true → k < w
bit_within n w k h e = by (cases_lt k w)
  where
    by : (k < w) ⊎ (w ≤ k) → k < w
    by (inl l) = l
    by (inr l) = let f = bit_above n w k h l in absurd cc

pub bit_shifted : (n j k : ℕ) → bit (n / 2 ^ j) k ≡ bit n (j + k)
bit_shifted n j k = ap (λ m. nat_eq (m % 2) 1) (shr-shr n j k)

pub bit_low : (n w k : ℕ) → k < w → bit (n % 2 ^ w) k ≡ bit n k
bit_low n w k l =
    sym (ap (λ d. nat_eq d 1) (bit_at_cat_low (n / 2 ^ w) w (n % 2 ^ w) k l)) ∙ ap (λ m. bit m k)
    (div-add-mod' n (2 ^ w))

pub bit_low_above : (n w k : ℕ) → w ≤ k → bit (n % 2 ^ w) k ≡ false
bit_low_above n w k l = bit_above (n % 2 ^ w) w k (mod_below n (2 ^ w) (pow_pos w)) l

pub bit_power : (j : ℕ) → bit (2 ^ j) j ≡ true
bit_power j = one_bit _ _ (bit_at-pow_same j)

pub bit_power_other : (j k : ℕ) → (k ≡ j → ⊥) → bit (2 ^ j) k ≡ false
bit_power_other j k n = zero_bit _ _ (bit_at-pow_other j k n)

pub bit_ones : (w k : ℕ) → k < w → bit (2 ^ w - 1) k ≡ true
bit_ones w k l = one_bit _ _ (bit_at_ones w k l)

pub mask_inside : (lo hi k : ℕ) → lo ≤ k → k < hi → bit (2 ^ hi - 2 ^ lo) k ≡ true
mask_inside lo hi k p q = one_bit _ _ (bit_at_mask_inside lo hi k p q)

pub mask_below : (lo hi k : ℕ) → k < lo → bit (2 ^ hi - 2 ^ lo) k ≡ false
mask_below lo hi k p = zero_bit _ _ (bit_at_mask_below lo hi k p)

pub mask_above : (lo hi k : ℕ) → hi ≤ k → bit (2 ^ hi - 2 ^ lo) k ≡ false
mask_above lo hi k p = zero_bit _ _ (bit_at_mask_above lo hi k p)

-- all other bits
pub bit_turned : (w n k : ℕ) → n < 2 ^ w → k < w → bit (2 ^ w - 1 - n) k ≡ not (bit n k)
bit_turned w n k h l = by_sum w n k h l
  where
    two : (w j : ℕ) → suc j ≤ w → 2 ^ w ≡ 2 ^ (w - suc j) * (2 ^ j * 2)
    two w j l = ap (λ i. 2 ^ i) (let e : w ≡ w - suc j + suc j = omega arith in e) ∙ pow-add 2 (w - suc j) (suc j)
        ∙ ap (λ m. 2 ^ (w - suc j) * m) (let e = pow-add 2 j 1 in ap (λ i. 2 ^ i)
        (let f : suc j ≡ j + 1 = omega arith in f) ∙ e)

    parts : (A P W n q r : ℕ) → W ≡ A * (P * 2) → n ≡ q * P + r → r < P → q < A * 2 → W - 1 - n ≡
        (A * 2 - 1 - q) * P + (P - 1 - r)
    parts A P W n q r e f l m =
        let g : W ≡ (A * 2) * P = e ∙ regroup A P in
        let s : A * 2 ≡ A * 2 - 1 - q + q + 1 = omega arith in
        let d : (A * 2) * P ≡ (A * 2 - 1 - q) * P + q * P + P = ap (λ x. x * P) s ∙ spread (A * 2 - 1 - q) q P in
        omega arith
      where
        regroup : (A P : ℕ) → A * (P * 2) ≡ (A * 2) * P
        regroup A P = omega arith

        spread : (a q P : ℕ) → (a + q + 1) * P ≡ a * P + q * P + P
        spread a q P = omega arith

    odd : (A q : ℕ) → q < A * 2 → nat_eq ((A * 2 - 1 - q) % 2) 1 ≡ not (nat_eq (q % 2) 1)
    odd A q l = at (q % 2) (omega arith) refl
      where
        at : (r : ℕ) → r < 2 → q % 2 ≡ r → nat_eq ((A * 2 - 1 - q) % 2) 1 ≡ not (nat_eq r 1)
        at zero p e = let f : (A * 2 - 1 - q) % 2 ≡ 1 = omega arith in ap (λ d. nat_eq d 1) f
        at (suc zero) p e = let f : (A * 2 - 1 - q) % 2 ≡ 0 = omega arith in ap (λ d. nat_eq d 1) f
        at (suc (suc r)) p e = absurd (omega arith)

    by_sum : (w n k : ℕ) → n < 2 ^ w → k < w → bit (2 ^ w - 1 - n) k ≡ not (bit n k)
    by_sum w n k h l =
        let e = two w k l in
        let d = div-add-mod' n (2 ^ k) in
        let r = mod_below n (2 ^ k) (pow_pos k) in
        let q : n / 2 ^ k < 2 ^ (w - suc k) * 2 = quotient n (2 ^ k) (2 ^ (w - suc k)) (2 ^ w) (pow_pos k) h e in
        let s : 2 ^ w - 1 - n ≡ (2 ^ (w - suc k) * 2 - 1 - n / 2 ^ k) * 2 ^ k + (2 ^ k - 1 - n % 2 ^ k) = parts
        (2 ^ (w - suc k)) (2 ^ k) (2 ^ w) n (n / 2 ^ k) (n % 2 ^ k) e (sym d) r q in
        ap (λ m. bit m k) s ∙ ap (λ d. nat_eq d 1)
        (bit_at_cat_high (2 ^ (w - suc k) * 2 - 1 - n / 2 ^ k) k (2 ^ k - 1 - n % 2 ^ k) k (omega arith)
        (omega arith))
        ∙ lowest (2 ^ (w - suc k) * 2 - 1 - n / 2 ^ k) k ∙ odd (2 ^ (w - suc k)) (n / 2 ^ k) q
      where
        lowest : (m k : ℕ) → bit m (k - k) ≡ nat_eq (m % 2) 1
        lowest m k = ap (bit m) (let e : k - k ≡ 0 = omega arith in e) ∙ ap (λ d. nat_eq (d % 2) 1)
            (let e : m / 1 ≡ m = omega arith in e)

        grouped : (A P : ℕ) → A * (P * 2) ≡ (A * 2) * P
        grouped A P = omega arith

        quotient : (n P A W : ℕ) → 0 < P → n < W → W ≡ A * (P * 2) → n / P < A * 2
        quotient n P A W p h e = div_below n P (A * 2) p (subst (λ m. n < m) (e ∙ grouped A P) h)
