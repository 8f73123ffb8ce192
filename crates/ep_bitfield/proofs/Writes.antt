-- Bits of which a part is replaced, as the bits of one number.
use Rattle.std.proofs.Common.{◌≡◌, ℕ, zero, suc, ◌+◌, ◌-◌, ◌*◌, ◌/◌, ◌%◌, ◌^◌, ◌<◌, ◌≤◌, List, ◌∷◌, ◌++◌, length}
use Rattle.std.proofs.Common.{take, drop, reverse, sym, refl, ap, ap₂, ◌∙◌, subst, arith, append_assoc, take_at, drop_at}
use Rattle.std.proofs.Common.{shr-shr, pow-add, bit_and, bit_or, mod-eq_of_lt, mul-le-mul_right, add-mul}
use Rattle.std.proofs.Math.Pow.{mod-mod-pow}
use Rattle.std.proofs.lemmas.Nat.{pow_pos, mod_low, mod_below, shr_high, shl-shr, and_mod, and_mask, and_shr}
use Rattle.std.proofs.lemmas.Nat.Bits.{and_high}
use Rattle.std.specs.Int.Bits.{or_zero_r}
use Rattle.std.proofs.lemmas.Nat.{or_mod, or_shr, or_shifted}
use Rattle.std.proofs.lemmas.List.{reverse-append, reverse-reverse, length-reverse, drop-drop}
use Rattle.ep_bitfield.specs.Bits.{lowest_bits, number_with, with_part}
use Rattle.ep_bitfield.specs.Accesses.{ones_beside}
use Rattle.ep_bitfield.proofs.Numbers.{length_bits, number_bits, number_step, take_bits, drop_bits, split_bits}

-- bits are those of any number that is the same modulo 2 to their count
pub bits_same : (k n m : ℕ) → n % 2 ^ k ≡ m % 2 ^ k → lowest_bits k n ≡ lowest_bits k m
bits_same zero n m e = refl
bits_same (suc k) n m e =
    let p = number_step k n in
    let q = number_step k m in
    let a : n % 2 ≡ m % 2 = omega (arith, p, q, e) in
    let b : n / 2 % 2 ^ k ≡ m / 2 % 2 ^ k = omega (arith, p, q, e) in
    ap₂ (λ (d : ℕ) (ds : List ℕ). d ∷ ds) a (bits_same k (n / 2) (m / 2) b)

-- the lowest k bits of n, w bits of v, and r bits of n behind those
abbrev pub joined : (k w r n v : ℕ) → List ℕ
joined k w r n v = lowest_bits k n ++ (lowest_bits w v ++ lowest_bits r (n / 2 ^ k / 2 ^ w))

pub record IsJoined (k w r n v m : ℕ) : Type 0 where
  pub low : m % 2 ^ k ≡ n % 2 ^ k
  pub new : m / 2 ^ k % 2 ^ w ≡ v % 2 ^ w
  pub high : m / 2 ^ k / 2 ^ w % 2 ^ r ≡ n / 2 ^ k / 2 ^ w % 2 ^ r

pub joined_number : (k w r n v m : ℕ) → IsJoined k w r n v m → number_with (joined k w r n v) ≡ m % 2 ^ (k + w + r)
joined_number k w r n v m h =
    ap (λ bs. number_with (bs ++ (lowest_bits w v ++ lowest_bits r (n / 2 ^ k / 2 ^ w)))) (bits_same k n m (sym h.low))
    ∙ ap (λ bs. number_with (lowest_bits k m ++ (bs ++ lowest_bits r (n / 2 ^ k / 2 ^ w))))
    (bits_same w v (m / 2 ^ k) (sym h.new))
    ∙ ap (λ bs. number_with (lowest_bits k m ++ (lowest_bits w (m / 2 ^ k) ++ bs)))
    (bits_same r (n / 2 ^ k / 2 ^ w) (m / 2 ^ k / 2 ^ w) (sym h.high))
    ∙ ap number_with (split_bits k w r m) ∙ number_bits (k + w + r) m

-- replaced from the lowest bit on
pub part_low : (k w b n v : ℕ) → k + w ≤ b
    → with_part k w (lowest_bits w v) (lowest_bits b n) ≡ joined k w (b - k - w) n v
part_low k w b n v h =
    let e : b - (k + w) ≡ b - k - w = omega arith in
    ap (λ bs. bs ++ (lowest_bits w v ++ drop (k + w) (lowest_bits b n))) (take_bits k b n (omega arith))
    ∙ ap (λ bs. lowest_bits k n ++ (lowest_bits w v ++ bs))
    (drop_bits (k + w) b n h ∙ ap (λ c. lowest_bits c (n / 2 ^ (k + w))) e
    ∙ ap (lowest_bits (b - k - w)) (sym (shr-shr n k w)))

-- replaced in bits that stand the other way round, turned back
turned_part : (a b c new : List ℕ) (u w : ℕ) → length c ≡ u → length b ≡ w
    → reverse (with_part u w (reverse new) (reverse (a ++ (b ++ c)))) ≡ a ++ (new ++ c)
turned_part a b c new u w p q =
    let e : reverse (a ++ (b ++ c)) ≡ reverse c ++ (reverse b ++ reverse a) =
    reverse-append a (b ++ c) ∙ ap (λ r. r ++ reverse a) (reverse-append b c)
    ∙ append_assoc (reverse c) (reverse b) (reverse a) in
    let first : take u (reverse c ++ (reverse b ++ reverse a)) ≡ reverse c =
    take_at (reverse c) (reverse b ++ reverse a) u (length-reverse c ∙ p) in
    let last : drop (u + w) (reverse c ++ (reverse b ++ reverse a)) ≡ reverse a =
    sym (drop-drop w u (reverse c ++ (reverse b ++ reverse a)))
    ∙ ap (drop w) (drop_at (reverse c) (reverse b ++ reverse a) u (length-reverse c ∙ p))
    ∙ drop_at (reverse b) (reverse a) w (length-reverse b ∙ q) in
    ap (λ r. reverse (with_part u w (reverse new) r)) e
    ∙ ap₂ (λ (f g : List ℕ). reverse (f ++ (reverse new ++ g))) first last
    ∙ reverse-append (reverse c) (reverse new ++ reverse a)
    ∙ ap₂ (λ (f g : List ℕ). f ++ g) (reverse-append (reverse new) (reverse a)) (reverse-reverse c)
    ∙ ap₂ (λ (f g : List ℕ). (f ++ g) ++ c) (reverse-reverse a) (reverse-reverse new) ∙ append_assoc a new c

pub part_high : (u w b n v : ℕ) → u + w ≤ b
    → reverse (with_part u w (reverse (lowest_bits w v)) (reverse (lowest_bits b n))) ≡ joined (b - u - w) w u n v
part_high u w b n v h =
    let k : ℕ = b - u - w in
    let e : k + w + u ≡ b = omega arith in
    ap (λ c. reverse (with_part u w (reverse (lowest_bits w v)) (reverse (lowest_bits c n)))) (sym e)
    ∙ ap (λ bs. reverse (with_part u w (reverse (lowest_bits w v)) (reverse bs))) (sym (split_bits k w u n))
    ∙ turned_part (lowest_bits k n) (lowest_bits w (n / 2 ^ k)) (lowest_bits u (n / 2 ^ k / 2 ^ w)) (lowest_bits w v) u w
    (length_bits u (n / 2 ^ k / 2 ^ w)) (length_bits w (n / 2 ^ k))

-- ---- as a machine of 32 bits computes it

others_split : (s w : ℕ) → s + w ≤ 32 → ones_beside w s ≡ (2 ^ (32 - s - w + w) - 2 ^ w) * 2 ^ s + (2 ^ s - 1)
others_split s w h =
    let e : 32 - s - w + w + s ≡ 32 = omega arith in
    let whole : 2 ^ 32 ≡ 2 ^ (32 - s - w + w) * 2 ^ s = ap (λ m. 2 ^ m) (sym e) ∙ pow-add 2 (32 - s - w + w) s in
    parts (2 ^ 32) (2 ^ (32 - s - w + w)) (2 ^ w) (2 ^ s) whole
    (subst (λ m. 2 ^ w ≤ m) (sym (pow-add 2 (32 - s - w) w)) (le-mul_of_pos (2 ^ w) (2 ^ (32 - s - w)) (pow_pos (32 - s - w))))
    (pow_pos w) (pow_pos s)
  where
    le-mul_of_pos : (x y : ℕ) → 0 < y → x ≤ y * x
    le-mul_of_pos x y p = let m : 1 * x ≤ y * x = mul-le-mul_right x p in omega (arith, m)

    parts : (A B W S : ℕ) → A ≡ B * S → W ≤ B → 0 < W → 0 < S → A - 1 - (W - 1) * S ≡ (B - W) * S + (S - 1)
    parts A B W S e h p q =
        let b : (B - W + W) * S ≡ (B - W) * S + W * S = add-mul (B - W) W S in
        let c : B - W + W ≡ B = omega arith in
        let d : (W - 1 + 1) * S ≡ (W - 1) * S + 1 * S = add-mul (W - 1) 1 S in
        let f : W - 1 + 1 ≡ W = omega arith in
        let g : B * S ≡ (B - W) * S + W * S = ap (λ m. m * S) (sym c) ∙ b in
        let i : W * S ≡ (W - 1) * S + 1 * S = ap (λ m. m * S) (sym f) ∙ d in
        omega (arith, e, g, i)

-- what is left of a number there
record IsKept (n s w a : ℕ) : Type 0 where
  pub low : a % 2 ^ s ≡ n % 2 ^ s
  pub high : a / 2 ^ s ≡ (n / 2 ^ s / 2 ^ w % 2 ^ (32 - s - w)) * 2 ^ w

kept_is : (n s w : ℕ) → s + w ≤ 32 → IsKept n s w (bit_and n (ones_beside w s))
kept_is n s w h =
    let p : 2 ^ s - 1 < 2 ^ s = let q = pow_pos s in omega (arith, q) in
    let rest : ℕ = 2 ^ (32 - s - w + w) - 2 ^ w in
    record {
      low =
          and_mod n (ones_beside w s) s
          ∙ ap (λ m. bit_and (n % 2 ^ s) m)
          (ap (λ m. m % 2 ^ s) (others_split s w h) ∙ mod_low rest s (2 ^ s - 1) p)
          ∙ and_mask (n % 2 ^ s) s ∙ mod-eq_of_lt (mod_below n (2 ^ s) (pow_pos s));
      high =
          and_shr n (ones_beside w s) s
          ∙ ap (λ m. bit_and (n / 2 ^ s) m)
          (ap (λ m. m / 2 ^ s) (others_split s w h) ∙ shr_high rest s (2 ^ s - 1) p)
          ∙ and_high (n / 2 ^ s) (32 - s - w) w;
    }

-- with a value in their place
pub put_together : (n s w r v : ℕ) → s + w ≤ 32 → r ≤ 32 - s - w → v < 2 ^ w
    → IsJoined s w r n v (bit_or (bit_and n (ones_beside w s)) (v * 2 ^ s))
put_together n s w r v h k l =
    let kept = kept_is n s w h in
    let a : ℕ = bit_and n (ones_beside w s) in
    let q : ℕ = n / 2 ^ s / 2 ^ w % 2 ^ (32 - s - w) in
    let zero_added : v * 2 ^ s ≡ v * 2 ^ s + 0 = omega arith in
    let moved : bit_or (bit_and n (ones_beside w s)) (v * 2 ^ s) / 2 ^ s ≡ q * 2 ^ w + v =
    or_shr (bit_and n (ones_beside w s)) (v * 2 ^ s) s ∙ ap₂ (λ (x y : ℕ). bit_or x y) kept.high (shl-shr v s)
    ∙ or_shifted q w v l in
    record {
      low =
          or_mod (bit_and n (ones_beside w s)) (v * 2 ^ s) s
          ∙ ap₂ (λ (x y : ℕ). bit_or x y) kept.low (ap (λ m. m % 2 ^ s) zero_added ∙ mod_low v s 0 (pow_pos s)) ∙ or_zero_r (n % 2 ^ s);
      new = ap (λ m. m % 2 ^ w) moved ∙ mod_low q w v l ∙ sym (mod-eq_of_lt l);
      high =
          ap (λ m. m / 2 ^ w % 2 ^ r) moved ∙ ap (λ m. m % 2 ^ r) (shr_high q w v l)
          ∙ cut_again (n / 2 ^ s / 2 ^ w) (32 - s - w) r k;
    }
  where
    cut_again : (m j r : ℕ) → r ≤ j → m % 2 ^ j % 2 ^ r ≡ m % 2 ^ r
    cut_again m j r h =
        let e : j - r + r ≡ j = omega arith in
        ap (λ i. m % 2 ^ i % 2 ^ r) (sym e) ∙ mod-mod-pow m (j - r) r
