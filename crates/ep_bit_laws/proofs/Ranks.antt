-- How many bits are known.
use lib.Count.{ones, ones_step}
use Rattle.ep_int.proofs.Basics.{true_and_false}
use Rattle.std.proofs.lemmas.Bool.{eq-eqb}
use Rattle.std.proofs.Common.{◌≡◌, ℕ, zero, suc, ◌+◌, ◌/◌, ◌%◌, ◌^◌, ◌<◌, ◌≤◌, Bool, true, false, ◌&&◌, ◌||◌, nat_eq}
use Rattle.std.proofs.Common.{bit_and, bit_or, ◌⊎◌, inl, inr, arith, refl, sym, ap, ◌∙◌}
use Rattle.std.proofs.Math.Nat.{pow-suc}
use Rattle.std.proofs.lemmas.Nat.{ones-le, or_lt, and_comm}
use Rattle.std.proofs.lemmas.Nat.Bits.{bit_at_lowest}
use Rattle.std.proofs.lemmas.Bool.{cases_lt, and_from, and_parts, or_cases, or_left, or_right}
use Rattle.ep_bit_laws.specs.Bits.{bit}
use Rattle.ep_bit_laws.specs.Patterns.{Pattern, pattern, IsPattern, common, is_within, rank_of}
use Rattle.ep_bit_laws.proofs.Bits.{same_numbers, bit-and, bit-or, bit_shifted}

-- ---- numbers of which one has all bits of the other

Inside : ℕ → ℕ → Type 0
Inside a b = (k : ℕ) → bit a k ≡ true → bit b k ≡ true

lowest : (a : ℕ) → bit a 0 ≡ nat_eq (a % 2) 1
lowest a = ap (λ d. nat_eq d 1) (bit_at_lowest a)

low_le : (a b : ℕ) → (bit a 0 ≡ true → bit b 0 ≡ true) → a % 2 ≤ b % 2
low_le a b h = by (a % 2) (b % 2) (omega arith) (omega arith) (λ e. sym (lowest b) ∙ h (lowest a ∙ e))
  where
    by : (x y : ℕ) → x < 2 → y < 2 → (nat_eq x 1 ≡ true → nat_eq y 1 ≡ true) → x ≤ y
    by zero y p q f = omega arith
    by (suc zero) zero p q f = absurd (true_and_false false (f refl) refl)
    by (suc zero) (suc y) p q f = omega arith
    by (suc (suc x)) y p q f = absurd (omega arith)

halved : (a b : ℕ) → Inside a b → Inside (a / 2) (b / 2)
unfolding Inside
halved a b h k e = bit_shifted b 1 k ∙ h (1 + k) (sym (bit_shifted a 1 k) ∙ e)

ones_inside : (k a b : ℕ) → a < 2 ^ k → b < 2 ^ k → Inside a b → (ones a ≤ ones b) × (ones b ≤ ones a → a ≡ b)
unfolding Inside
ones_inside zero a b p q h =
    let e : a ≡ 0 = omega arith in let f : b ≡ 0 = omega arith in
    let i : ones a ≡ ones b = ap ones (e ∙ sym f) in (omega arith, λ l. e ∙ sym f)
ones_inside (suc k) a b p q h =
    let s = pow-suc 2 k in
    let i = ones_inside k (a / 2) (b / 2) (omega arith) (omega arith) (halved a b h) in
    let l = low_le a b (h 0) in
    let m = ones_step a in let n = ones_step b in
    let j = i.0 in
    (omega arith, λ u. let e = i.1 (omega arith) in omega arith)

-- ---- ranks

pub rank_bound : (p : Pattern) → IsPattern p → rank_of p ≤ 65
rank_bound p h = ones-le 65 (bit_or p.zeros p.ones) (or_lt 65 p.zeros p.ones h.zeros_below h.ones_below)

and_le : (a b c d : Bool) → ((a && b) || (c && d)) ≡ true → (a || c) ≡ true
and_le true b c d h = refl
and_le false b true d h = refl
and_le false b false d h = absurd (true_and_false false h refl)

known_inside : (p q : Pattern) → Inside (bit_or (common p q).zeros (common p q).ones) (bit_or p.zeros p.ones)
unfolding Inside
known_inside p q k e =
    bit-or p.zeros p.ones k
    ∙ and_le (bit p.zeros k) (bit q.zeros k) (bit p.ones k) (bit q.ones k) (sym (two k) ∙ e)
  where
    two : (k : ℕ) → bit (bit_or (common p q).zeros (common p q).ones) k ≡
        ((bit p.zeros k && bit q.zeros k) || (bit p.ones k && bit q.ones k))
    two k = bit-or (common p q).zeros (common p q).ones k ∙ ap (λ b. b || bit (bit_and p.ones q.ones) k)
        (bit-and p.zeros q.zeros k) ∙ ap (λ b. (bit p.zeros k && bit q.zeros k) || b) (bit-and p.ones q.ones k)

-- where as much is known, the same is
known_same : (p q : Pattern) → IsPattern p → IsPattern (common p q) → bit_or (common p q).zeros
    (common p q).ones ≡ bit_or p.zeros p.ones → common p q ≡ p
known_same p q h i e = ap (λ z. pattern z (common p q).ones)
    (same_numbers (common p q).zeros p.zeros (λ k. same _ _ (zero_in k) (zero_back k))) ∙ ap (λ o. pattern p.zeros o)
    (same_numbers (common p q).ones p.ones (λ k. same _ _ (one_in k) (one_back k)))
  where
    same : (x y : Bool) → (x ≡ true → y ≡ true) → (y ≡ true → x ≡ true) → x ≡ y
    same true y f g = sym (f refl)
    same false true f g = g refl
    same false false f g = refl

    zero_in : (k : ℕ) → bit (common p q).zeros k ≡ true → bit p.zeros k ≡ true
    zero_in k f = (and_parts (bit p.zeros k) (bit q.zeros k) (sym (bit-and p.zeros q.zeros k) ∙ f)).0

    one_in : (k : ℕ) → bit (common p q).ones k ≡ true → bit p.ones k ≡ true
    one_in k f = (and_parts (bit p.ones k) (bit q.ones k) (sym (bit-and p.ones q.ones k) ∙ f)).0

    known : (k : ℕ) → bit (bit_or p.zeros p.ones) k ≡ true → (bit (common p q).zeros k ≡ true) ⊎
        (bit (common p q).ones k ≡ true)
    known k f = or_cases _ _ (sym (bit-or (common p q).zeros (common p q).ones k) ∙ ap (λ n. bit n k) e ∙ f)

    zero_back : (k : ℕ) → bit p.zeros k ≡ true → bit (common p q).zeros k ≡ true
    zero_back k f = by (known k (bit-or p.zeros p.ones k ∙ or_left _ _ f))
      where
        by : (bit (common p q).zeros k ≡ true) ⊎ (bit (common p q).ones k ≡ true) → bit (common p q).zeros k ≡ true
        by (inl g) = g
        by (inr g) = absurd (true_and_false _ (one_in k g) (h.apart k f))

    one_back : (k : ℕ) → bit p.ones k ≡ true → bit (common p q).ones k ≡ true
    one_back k f = by (known k (bit-or p.zeros p.ones k ∙ or_right (bit p.zeros k) _ f))
      where
        by : (bit (common p q).zeros k ≡ true) ⊎ (bit (common p q).ones k ≡ true) → bit (common p q).ones k ≡ true
        by (inl g) = absurd (true_and_false _ f (h.apart k (zero_in k g)))
        by (inr g) = g

pub rank_changes : (p q : Pattern) → IsPattern p → IsPattern (common p q) → (common p q ≡ p → ⊥) → rank_of
    (common p q) < rank_of p
rank_changes p q h i n = by (cases_lt (rank_of (common p q)) (rank_of p))
  where
    by : (rank_of (common p q) < rank_of p) ⊎ (rank_of p ≤ rank_of (common p q)) → rank_of (common p q) < rank_of p
    by (inl l) = l
    by (inr l) =
        let s = ones_inside 65 (bit_or (common p q).zeros (common p q).ones) (bit_or p.zeros p.ones)
        (or_lt 65 _ _ i.zeros_below i.ones_below) (or_lt 65 _ _ h.zeros_below h.ones_below)
        (known_inside p q) in
        absurd (n (known_same p q h i (s.1 l)))

-- what changes nothing was within
pub within_from_same : (p q : Pattern) → common p q ≡ p → is_within q p ≡ true
within_from_same p q e =
    and_from _ _ (eq-eqb _ _ (and_comm q.zeros p.zeros ∙ ap (λ (r : Pattern). r.zeros) e))
    (eq-eqb _ _ (and_comm q.ones p.ones ∙ ap (λ (r : Pattern). r.ones) e))

pub rank_falls : (p q : Pattern) → IsPattern p → IsPattern (common p q) → is_within q p ≡ false → rank_of
    (common p q) < rank_of p
rank_falls p q h i f = rank_changes p q h i (λ e. true_and_false _ (within_from_same p q e) f)
