-- Where a bit of a result is not known, neither is that of the operand from which it comes.
use Rattle.std.proofs.Common.{◌≡◌, ℕ, ◌+◌, ◌-◌, ◌*◌, ◌/◌, ◌%◌, ◌^◌, ◌<◌, ◌≤◌, Bool, true, false, ◌&&◌, ◌||◌, cond}
use Rattle.ep_int.proofs.Basics.{true_and_false, and_false-not_both}
use Rattle.std.proofs.Common.{bit_and, bit_or, None, ◌⊎◌, inl, inr, arith, refl, sym, ap, ◌∙◌, subst}
use Rattle.std.specs.Option.{unwrap_or}
use Rattle.std.proofs.lemmas.Nat.{pow_pos}
use Rattle.std.proofs.lemmas.Bool.{cases_lt, or_parts}
use Rattle.ep_int.specs.declared.types.IntType.{IntType}
use Rattle.ep_int.specs.Types.{bits_of, is_signed}
use Rattle.ep_bit_laws.specs.Bits.{bit}
use Rattle.ep_bit_laws.specs.Patterns.{Pattern, pattern, known_bit, sign_bits, low_part}
use Rattle.ep_bit_laws.specs.Results.{both_of, either_of, one_of, shifted_down, right_by, left_by}
use Rattle.ep_bit_laws.proofs.Bits.{bit-and, bit-or, differ, bit_low, bit_shifted, bit_ones, mask_inside}
use Rattle.ep_bit_laws.proofs.Types.{in_sign, unsigned_place}
use Rattle.ep_bit_laws.proofs.Results.{bit_moved_low, bit_moved_high, product_high}
use Rattle.ep_bit_laws.proofs.Exact.{bit_or_else, known_one, known_zero, not_known, Ways, is_one, is_zero, is_open}
use Rattle.ep_bit_laws.proofs.Exact.{ways, open_bit}

-- ---- bit by bit

-- a bit, where it is a known one, a known zero or as wanted
given_one : (p : Pattern) (k : ℕ) (b : Bool) → bit p.ones k ≡ true → bit_or_else p k b ≡ true
given_one p k b e = ap (λ o. unwrap_or o b) (known_one p k e)

given_zero : (p : Pattern) (k : ℕ) (b : Bool) → bit p.ones k ≡ false → bit p.zeros k ≡ true → bit_or_else p k b ≡ false
given_zero p k b e f = ap (λ o. unwrap_or o b) (known_zero p k e f)

given_open : (p : Pattern) (k : ℕ) (b : Bool) → bit p.ones k ≡ false → bit p.zeros k ≡ false → bit_or_else p k b ≡ b
given_open p k b e f = ap (λ o. unwrap_or o b) (not_known p k e f)

-- bits of the operands with which a result has a wanted bit
pub record Chosen (f : Bool → Bool → Bool) (p q : Pattern) (k : ℕ) (b : Bool) : Type 0 where
  pub left : Bool
  pub right : Bool
  pub gives : f (bit_or_else p k left) (bit_or_else q k right) ≡ b

two : (f : Bool → Bool → Bool) (a b c d : Bool) → a ≡ c → b ≡ d → f a b ≡ f c d
two f a b c d e g = ap (λ x. f x b) e ∙ ap (f c) g

pub and_chosen : (p q : Pattern) (k : ℕ) (b : Bool) → known_bit (both_of p q) k ≡ None → Chosen (λ x y. x && y) p q k b
and_chosen p q k b e = by (ways p k) (ways q k)
  where
    h : (bit (bit_and p.ones q.ones) k ≡ false) × (bit (bit_or p.zeros q.zeros) k ≡ false)
    h = open_bit (both_of p q) k e

    o : (bit p.ones k && bit q.ones k) ≡ false
    o = sym (bit-and p.ones q.ones k) ∙ h.0

    z : (bit p.zeros k ≡ false) × (bit q.zeros k ≡ false)
    z = or_parts (bit p.zeros k) (bit q.zeros k) (sym (bit-or p.zeros q.zeros k) ∙ h.1)

    itself : (b : Bool) → (b && b) ≡ b
    itself true = refl
    itself false = refl

    right_true : (b : Bool) → (b && true) ≡ b
    right_true true = refl
    right_true false = refl

    by : Ways p k → Ways q k → Chosen (λ x y. x && y) p q k b
    by (is_zero f g) w = absurd (true_and_false _ g z.0)
    by w (is_zero f g) = absurd (true_and_false _ g z.1)
    by (is_one f) (is_one g) = absurd (and_false-not_both (bit p.ones k) (bit q.ones k) o f g)
    by (is_one f) (is_open g i) = record {
      left = b;
      right = b;
      gives = two (λ x y. x && y) _ _ true b
          (given_one p k b f) (given_open q k b g i);
    }
    by (is_open f g) (is_one i) = record {
      left = b;
      right = b;
      gives = two (λ x y. x && y) _ _ b true
          (given_open p k b f g) (given_one q k b i) ∙ right_true b;
    }
    by (is_open f g) (is_open i j) = record {
      left = b;
      right = b;
      gives = two (λ x y. x && y) _ _ b b
          (given_open p k b f g) (given_open q k b i j) ∙ itself b;
    }

pub or_chosen : (p q : Pattern) (k : ℕ) (b : Bool) → known_bit (either_of p q) k ≡ None → Chosen
    (λ x y. x || y) p q k b
or_chosen p q k b e = by (ways p k) (ways q k)
  where
    h : (bit (bit_or p.ones q.ones) k ≡ false) × (bit (bit_and p.zeros q.zeros) k ≡ false)
    h = open_bit (either_of p q) k e

    z : (bit p.zeros k && bit q.zeros k) ≡ false
    z = sym (bit-and p.zeros q.zeros k) ∙ h.1

    o : (bit p.ones k ≡ false) × (bit q.ones k ≡ false)
    o = or_parts (bit p.ones k) (bit q.ones k) (sym (bit-or p.ones q.ones k) ∙ h.0)

    itself : (b : Bool) → (b || b) ≡ b
    itself true = refl
    itself false = refl

    right_false : (b : Bool) → (b || false) ≡ b
    right_false true = refl
    right_false false = refl

    by : Ways p k → Ways q k → Chosen (λ x y. x || y) p q k b
    by (is_one f) w = absurd (true_and_false _ f o.0)
    by w (is_one f) = absurd (true_and_false _ f o.1)
    by (is_zero f g) (is_zero i j) = absurd (and_false-not_both (bit p.zeros k) (bit q.zeros k) z g j)
    by (is_zero f g) (is_open i j) = record {
      left = b;
      right = b;
      gives = two (λ x y. x || y) _ _ false b
          (given_zero p k b f g) (given_open q k b i j);
    }
    by (is_open f g) (is_zero i j) = record {
      left = b;
      right = b;
      gives = two (λ x y. x || y) _ _ b false
          (given_open p k b f g) (given_zero q k b i j) ∙ right_false b;
    }
    by (is_open f g) (is_open i j) = record {
      left = b;
      right = b;
      gives = two (λ x y. x || y) _ _ b b
          (given_open p k b f g) (given_open q k b i j) ∙ itself b;
    }

pub xor_chosen : (p q : Pattern) (k : ℕ) (b : Bool) → known_bit (one_of p q) k ≡ None → Chosen differ p q k b
xor_chosen p q k b e = by (ways p k) (ways q k)
  where
    h : (bit (bit_or (bit_and p.zeros q.ones) (bit_and p.ones q.zeros)) k ≡ false) ×
        (bit (bit_or (bit_and p.zeros q.zeros) (bit_and p.ones q.ones)) k ≡ false)
    h = open_bit (one_of p q) k e

    o : (bit (bit_and p.zeros q.ones) k ≡ false) × (bit (bit_and p.ones q.zeros) k ≡ false)
    o = or_parts _ _ (sym (bit-or (bit_and p.zeros q.ones) (bit_and p.ones q.zeros) k) ∙ h.0)

    z : (bit (bit_and p.zeros q.zeros) k ≡ false) × (bit (bit_and p.ones q.ones) k ≡ false)
    z = or_parts _ _ (sym (bit-or (bit_and p.zeros q.zeros) (bit_and p.ones q.ones) k) ∙ h.1)

    back : (c b : Bool) → differ (differ c b) c ≡ b
    back true true = refl
    back true false = refl
    back false true = refl
    back false false = refl

    there : (c b : Bool) → differ c (differ c b) ≡ b
    there true true = refl
    there true false = refl
    there false true = refl
    there false false = refl

    with_none : (b : Bool) → differ b false ≡ b
    with_none true = refl
    with_none false = refl

    left_open : (c : Bool) → bit p.ones k ≡ false → bit p.zeros k ≡ false → bit_or_else q k false ≡ c
        → Chosen differ p q k b
    left_open c f g i = record {
      left = differ c b;
      right = false;
      gives = two differ _ _ (differ c b) c
          (given_open p k (differ c b) f g) i ∙ back c b;
    }

    right_open : (c : Bool) → bit_or_else p k false ≡ c → bit q.ones k ≡ false → bit q.zeros k ≡ false
        → Chosen differ p q k b
    right_open c i f g = record {
      left = false;
      right = differ c b;
      gives = two differ _ _ c (differ c b) i
          (given_open q k (differ c b) f g) ∙ there c b;
    }

    by : Ways p k → Ways q k → Chosen differ p q k b
    by (is_one f) (is_one g) = absurd (and_false-not_both _ _ (sym (bit-and p.ones q.ones k) ∙ z.1) f g)
    by (is_one f) (is_zero g i) = absurd (and_false-not_both _ _ (sym (bit-and p.ones q.zeros k) ∙ o.1) f i)
    by (is_zero f g) (is_one i) = absurd (and_false-not_both _ _ (sym (bit-and p.zeros q.ones k) ∙ o.0) g i)
    by (is_zero f g) (is_zero i j) = absurd (and_false-not_both _ _ (sym (bit-and p.zeros q.zeros k) ∙ z.0) g j)
    by (is_open f g) (is_one i) = left_open true f g (given_one q k false i)
    by (is_open f g) (is_zero i j) = left_open false f g (given_zero q k false i j)
    by (is_one f) (is_open i j) = right_open true (given_one p k false f) i j
    by (is_zero f g) (is_open i j) = right_open false (given_zero p k false f g) i j
    by (is_open f g) (is_open i j) = record {
      left = b;
      right = false;
      gives = two differ _ _ b false
          (given_open p k b f g) (given_open q k false i j) ∙ with_none b;
    }

-- ---- shifts and conversion

shifted_open : (n m k : ℕ) → k < 65 → bit (shifted_down n m) k ≡ false → (bit m (n + k) ≡ false) ×
    (65 ≤ n + k → bit m 64 ≡ false)
shifted_open n m k l e = (sym (bit_shifted m n k) ∙ h.0, λ u. at (bit m 64) h.1 u)
  where
    h : (bit (m / 2 ^ n) k ≡ false) × (bit (cond (bit m 64) (2 ^ 65 - 2 ^ (65 - n)) 0) k ≡ false)
    h = or_parts _ _ (sym (bit-or (m / 2 ^ n) (cond (bit m 64) (2 ^ 65 - 2 ^ (65 - n)) 0) k) ∙ e)

    at : (b : Bool) → bit (cond b (2 ^ 65 - 2 ^ (65 - n)) 0) k ≡ false → 65 ≤ n + k → b ≡ false
    at false f u = refl
    at true f u = absurd (true_and_false _ (mask_inside (65 - n) 65 k (omega arith) l) f)

pub right_open : (n : ℕ) (p : Pattern) (k : ℕ) → k < 65 → known_bit (right_by n p) k ≡ None →
    ((n + k < 65) × (known_bit p (n + k) ≡ None)) ⊎ ((65 ≤ n + k) × (known_bit p 64 ≡ None))
right_open n p k l e = by (cases_lt (n + k) 65)
  where
    h : (bit (shifted_down n p.ones) k ≡ false) × (bit (shifted_down n p.zeros) k ≡ false)
    h = open_bit (right_by n p) k e

    by : (n + k < 65) ⊎ (65 ≤ n + k) → ((n + k < 65) × (known_bit p (n + k) ≡ None)) ⊎
        ((65 ≤ n + k) × (known_bit p 64 ≡ None))
    by (inl u) = inl (u, not_known p (n + k) (shifted_open n p.ones k l h.0).0 (shifted_open n p.zeros k l h.1).0)
    by (inr u) = inr (u, not_known p 64 ((shifted_open n p.ones k l h.0).1 u) ((shifted_open n p.zeros k l h.1).1 u))

pub low_open : (t : IntType) (p : Pattern) (k : ℕ) → is_signed t ≡ false → k < 65 → known_bit (low_part t p) k ≡ None
    → (k < bits_of t) × (bit p.ones k ≡ false) × (bit p.zeros k ≡ false)
low_open t p k s l e = by (cases_lt k (bits_of t))
  where
    h : (bit (p.ones % 2 ^ bits_of t) k ≡ false) × (bit (bit_or (p.zeros % 2 ^ bits_of t) (sign_bits t)) k ≡ false)
    h = open_bit (low_part t p) k e

    z : (bit (p.zeros % 2 ^ bits_of t) k ≡ false) × (bit (sign_bits t) k ≡ false)
    z = or_parts _ _ (sym (bit-or (p.zeros % 2 ^ bits_of t) (sign_bits t) k) ∙ h.1)

    by : (k < bits_of t) ⊎ (bits_of t ≤ k) → (k < bits_of t) × (bit p.ones k ≡ false) × (bit p.zeros k ≡ false)
    by (inl u) = (u, sym (bit_low p.ones (bits_of t) k u) ∙ h.0, sym (bit_low p.zeros (bits_of t) k u) ∙ z.0)
    by (inr u) = absurd (true_and_false _ (in_sign t k (subst (λ n. n ≤ k) (sym (unsigned_place t s)) u) l) z.1)

pub left_open : (t : IntType) (n : ℕ) (p : Pattern) (k : ℕ) → is_signed t ≡ false → k < 65 → known_bit
    (left_by t n p) k ≡ None → (k < bits_of t) × (n ≤ k) × (known_bit p (k - n) ≡ None)
left_open t n p k s l e = by (cases_lt k n)
  where
    ones_small : 2 ^ n - 1 < 2 ^ n
    ones_small = let l = pow_pos n in omega arith

    h : (k < bits_of t) × (bit (p.ones * 2 ^ n) k ≡ false) × (bit (p.zeros * 2 ^ n + (2 ^ n - 1)) k ≡ false)
    h = low_open t (pattern (p.zeros * 2 ^ n + (2 ^ n - 1)) (p.ones * 2 ^ n)) k s l e

    by : (k < n) ⊎ (n ≤ k) → (k < bits_of t) × (n ≤ k) × (known_bit p (k - n) ≡ None)
    by (inl u) = absurd (true_and_false _ (bit_moved_low p.zeros n (2 ^ n - 1) k u ∙ bit_ones n k u) h.2)
    by (inr u) = (
      h.0,
      u,
      not_known p (k - n) (sym (product_high p.ones n k u) ∙ h.1)
          (sym (bit_moved_high p.zeros n (2 ^ n - 1) k ones_small u) ∙ h.2),
    )
