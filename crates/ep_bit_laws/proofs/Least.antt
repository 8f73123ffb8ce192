-- The least natural number with given bits that is not below another.
use Rattle.std.proofs.Common.{◌≡◌, ℕ, zero, suc, ◌+◌, ◌-◌, ◌*◌, ◌%◌, ◌^◌, ◌<◌, ◌≤◌, Bool, true, false, cond, nat_eq}
use Rattle.ep_int.proofs.Basics.{true_and_false}
use Rattle.std.proofs.Common.{◌⊎◌, inl, inr, Option, Some, None, IsSomeAnd, IfSome, arith, refl, sym, ap, ◌∙◌, subst}
use Rattle.std.specs.Option.{option_map}
use Rattle.std.specs.Int.{bit_at}
use Rattle.std.proofs.lemmas.Nat.{mod_below, pow_pos, mod-pow-add, and_le_l}
use Rattle.std.proofs.Math.Nat.{mod-eq_of_lt, pow-suc}
use Rattle.std.proofs.lemmas.Bool.{cases_lt}
use Rattle.std.proofs.lemmas.Nat.Bits.{bit_at-lt, bit_at_cat_low, bit_at_cat_high}
use Rattle.ep_bit_laws.specs.Bits.{bit}
use Rattle.ep_bit_laws.specs.Edges.{with_bit, first_at}
use Rattle.ep_bit_laws.proofs.Bits.{bit_low, bit_low_above, bit_above}
use Rattle.ep_bit_laws.proofs.Patterns.{from_inside}

-- of k bits, those that have to be 0 or 1 are
pub record Fits (z o k m : ℕ) : Type 0 where
  pub below : m < 2 ^ k
  pub zeros : (j : ℕ) → j < k → bit z j ≡ true → bit m j ≡ false
  pub ones : (j : ℕ) → j < k → bit o j ≡ true → bit m j ≡ true

pub record IsLeast (z o n k : ℕ) (r : Option ℕ) : Type 0 where
  pub found : IfSome r (λ m. Fits z o k m × (n % 2 ^ k ≤ m))
  pub least : (m : ℕ) → Fits z o k m → n % 2 ^ k ≤ m → IsSomeAnd r (λ f. f ≤ m)

-- ---- one bit more

-- the number of one bit
abbrev pub weight : Bool → ℕ → ℕ
weight b w = cond b w 0

-- the lowest bits, and the bit above them
pub split : (n k : ℕ) → n % 2 ^ suc k ≡ weight (bit n k) (2 ^ k) + n % 2 ^ k
split n k =
    let e : suc k ≡ 1 + k = omega arith in
    ap (λ i. n % 2 ^ i) e ∙ mod-pow-add n 1 k ∙ ap (λ d. d + n % 2 ^ k) (of_digit (bit_at n k) (2 ^ k) (bit_at-lt n k))
  where
    of_digit : (d w : ℕ) → d < 2 → d * w ≡ weight (nat_eq d 1) w
    of_digit zero w l = omega arith
    of_digit (suc zero) w l = omega arith
    of_digit (suc (suc d)) w l = absurd (omega arith)

-- a number of one bit more, in parts
parts : (m k : ℕ) → m < 2 ^ suc k → m ≡ weight (bit m k) (2 ^ k) + m % 2 ^ k
parts m k h = sym (mod-eq_of_lt h) ∙ split m k

place : (j k : ℕ) → j < suc k → (j < k) ⊎ (j ≡ k)
place j k l = by (cases_lt j k)
  where
    by : (j < k) ⊎ (k ≤ j) → (j < k) ⊎ (j ≡ k)
    by (inl m) = inl m
    by (inr m) = inr (omega arith)

module _ (z o n k : ℕ) where
  lower : (m : ℕ) → Fits z o (suc k) m → Fits z o k (m % 2 ^ k)
  lower m h = record {
    below = mod_below m (2 ^ k) (pow_pos k);
    zeros = λ j l e. bit_low m k j l ∙ h.zeros j (omega arith) e;
    ones = λ j l e. bit_low m k j l ∙ h.ones j (omega arith) e;
  }

  bit_raised : (m j : ℕ) → j < k → bit (2 ^ k + m) j ≡ bit m j
  bit_raised m j l = ap (λ i. bit i j) (once (2 ^ k) m) ∙ ap (λ d. nat_eq d 1) (bit_at_cat_low 1 k m j l)
    where
      once : (w m : ℕ) → w + m ≡ 1 * w + m
      once w m = omega arith

  bit_raised_top : (m : ℕ) → m < 2 ^ k → bit (2 ^ k + m) k ≡ true
  bit_raised_top m h = ap (λ i. bit i k) (once (2 ^ k) m) ∙ ap (λ d. nat_eq d 1)
      (bit_at_cat_high 1 k m k h (omega arith)) ∙ ap (λ i. bit 1 i) (let e : k - k ≡ 0 = omega arith in e)
    where
      once : (w m : ℕ) → w + m ≡ 1 * w + m
      once w m = omega arith

  raised_one : (m : ℕ) → Fits z o k m → bit z k ≡ false → Fits z o (suc k) (2 ^ k + m)
  raised_one m h e = record {
    below = let l = h.below in let s = pow-suc 2 k in omega arith;
    zeros = λ j l f. zero j (place j k l) f;
    ones = λ j l f. one j (place j k l) f;
  }
    where
      zero : (j : ℕ) → (j < k) ⊎ (j ≡ k) → bit z j ≡ true → bit (2 ^ k + m) j ≡ false
      zero j (inl l) f = bit_raised m j l ∙ h.zeros j l f
      zero j (inr i) f = absurd (true_and_false (bit z k) (sym (ap (bit z) i) ∙ f) e)

      one : (j : ℕ) → (j < k) ⊎ (j ≡ k) → bit o j ≡ true → bit (2 ^ k + m) j ≡ true
      one j (inl l) f = bit_raised m j l ∙ h.ones j l f
      one j (inr i) f = ap (bit (2 ^ k + m)) i ∙ bit_raised_top m h.below

  raised_zero : (m : ℕ) → Fits z o k m → bit o k ≡ false → Fits z o (suc k) m
  raised_zero m h e = record {
    below = let l = h.below in let s = pow-suc 2 k in omega arith;
    zeros = λ j l f. zero j (place j k l) f;
    ones = λ j l f. one j (place j k l) f;
  }
    where
      zero : (j : ℕ) → (j < k) ⊎ (j ≡ k) → bit z j ≡ true → bit m j ≡ false
      zero j (inl l) f = h.zeros j l f
      zero j (inr i) f = bit_above m k j h.below (omega arith)

      one : (j : ℕ) → (j < k) ⊎ (j ≡ k) → bit o j ≡ true → bit m j ≡ true
      one j (inl l) f = h.ones j l f
      one j (inr i) f = absurd (true_and_false (bit o k) (sym (ap (bit o) i) ∙ f) e)

  -- the least number with these bits
  pub least_fits : ((j : ℕ) → bit z j ≡ true → bit o j ≡ false) → Fits z o k (o % 2 ^ k)
  least_fits a = record {
    below = mod_below o (2 ^ k) (pow_pos k);
    zeros = λ j l e. bit_low o k j l ∙ a j e;
    ones = λ j l e. bit_low o k j l ∙ e;
  }

  pub least_below : (m : ℕ) → Fits z o k m → o % 2 ^ k ≤ m
  least_below m h = subst (λ i. i ≤ m) (from_inside m (o % 2 ^ k) each) (and_le_l m (o % 2 ^ k))
    where
      each : (j : ℕ) → bit (o % 2 ^ k) j ≡ true → bit m j ≡ true
      each j e = by (cases_lt j k)
        where
          by : (j < k) ⊎ (k ≤ j) → bit m j ≡ true
          by (inl l) = h.ones j l (sym (bit_low o k j l) ∙ e)
          by (inr l) = absurd (true_and_false _ e (bit_low_above o k j l))

  -- the bit of a number above its low bits
  abbrev Top : ℕ → Bool → Type 0
  Top m b = m ≡ weight b (2 ^ k) + m % 2 ^ k

  top_of : (m : ℕ) → Fits z o (suc k) m → (P : Bool → Type 0) → (bit m k ≡ true → m ≡ 2 ^ k + m % 2 ^ k → P true) →
      (bit m k ≡ false → m ≡ m % 2 ^ k → P false) → P (bit m k)
  top_of m h P f g = at (bit m k) refl (parts m k h.below)
    where
      at : (b : Bool) → bit m k ≡ b → m ≡ weight b (2 ^ k) + m % 2 ^ k → P b
      at true e i = f e i
      at false e i = g e (i ∙ plus (m % 2 ^ k))
        where
          plus : (x : ℕ) → 0 + x ≡ x
          plus x = omega arith

  -- one of the two ways
  ways : (m : ℕ) → Fits z o (suc k) m → ((bit m k ≡ true) × (m ≡ 2 ^ k + m % 2 ^ k)) ⊎
      ((bit m k ≡ false) × (m ≡ m % 2 ^ k))
  ways m h = top_of m h (λ b. ((bit m k ≡ true) × (m ≡ 2 ^ k + m % 2 ^ k)) ⊎ ((bit m k ≡ false) × (m ≡ m % 2 ^ k)))
      (λ e i. inl (e, i)) (λ e i. inr (e, i))

  private_low : n % 2 ^ k < 2 ^ k
  private_low = mod_below n (2 ^ k) (pow_pos k)

  start_one : bit n k ≡ true → n % 2 ^ suc k ≡ 2 ^ k + n % 2 ^ k
  start_one e = split n k ∙ ap (λ b. weight b (2 ^ k) + n % 2 ^ k) e

  start_zero : bit n k ≡ false → n % 2 ^ suc k ≡ n % 2 ^ k
  start_zero e = split n k ∙ ap (λ b. weight b (2 ^ k) + n % 2 ^ k) e ∙ plus (n % 2 ^ k)
    where
      plus : (x : ℕ) → 0 + x ≡ x
      plus x = omega arith

  low_small : (m : ℕ) → m % 2 ^ k < 2 ^ k
  low_small m = mod_below m (2 ^ k) (pow_pos k)

  mapped : (r : Option ℕ) → IfSome r (λ m. Fits z o k m × (n % 2 ^ k ≤ m)) → bit n k ≡ true → bit z k ≡ false → IfSome
      (option_map (λ m. 2 ^ k + m) r) (λ m. Fits z o (suc k) m × (n % 2 ^ suc k ≤ m))
  mapped None h e f = tt
  mapped (Some m) h e f = (raised_one m h.0 f, let s = start_one e in let l = h.1 in omega arith)

  mapped_least : (r : Option ℕ) (m i : ℕ) → m ≡ 2 ^ k + i → IsSomeAnd r (λ f. f ≤ i) → IsSomeAnd
      (option_map (λ m. 2 ^ k + m) r) (λ f. f ≤ m)
  mapped_least None m i e h = h
  mapped_least (Some f) m i e h = omega arith

  some_low : ((j : ℕ) → bit z j ≡ true → bit o j ≡ false) → bit n k ≡ false → bit z k ≡ false → Fits z o (suc k)
      (2 ^ k + o % 2 ^ k) × (n % 2 ^ suc k ≤ 2 ^ k + o % 2 ^ k)
  some_low a e f = (
    raised_one (o % 2 ^ k)
        (least_fits a) f,
    let s = start_zero e in let l = private_low in omega arith,
  )

  pub step : ((j : ℕ) → bit z j ≡ true → bit o j ≡ false) → (c d b : Bool) → bit n k ≡ c → bit z k ≡ d → bit o k ≡ b →
      (r : Option ℕ) → IsLeast z o n k r → IsLeast z o n (suc k) (with_bit c d b (2 ^ k) (o % 2 ^ k) r)
  step a true true b e f g r h = record { found = tt; least = λ m i l. nothing m i l (ways m i) }
    where
      nothing : (m : ℕ) → Fits z o (suc k) m → n % 2 ^ suc k ≤ m → ((bit m k ≡ true) × (m ≡ 2 ^ k + m % 2 ^ k)) ⊎
          ((bit m k ≡ false) × (m ≡ m % 2 ^ k)) → ⊥
      nothing m i l (inl w) = true_and_false _ w.0 (i.zeros k (omega arith) f)
      nothing m i l (inr w) = let s = start_one e in let q = low_small m in let p = w.1 in absurd (omega arith)
  step a true false b e f g r h = record { found = mapped r h.found e f; least = λ m i l. at m i l (ways m i) }
    where
      at : (m : ℕ) → Fits z o (suc k) m → n % 2 ^ suc k ≤ m → ((bit m k ≡ true) × (m ≡ 2 ^ k + m % 2 ^ k)) ⊎
          ((bit m k ≡ false) × (m ≡ m % 2 ^ k)) → IsSomeAnd (option_map (λ m. 2 ^ k + m) r) (λ f. f ≤ m)
      at m i l (inl w) = mapped_least r m (m % 2 ^ k) w.1
          (h.least (m % 2 ^ k) (lower m i) (let s = start_one e in let p = w.1 in omega arith))
      at m i l (inr w) = let s = start_one e in let q = low_small m in let p = w.1 in absurd (omega arith)
  step a false d true e f g r h = record {
    found = some_low a e (not_zero (bit z k) refl);
    least = λ m i l. at m i
        (ways m i);
  }
    where
      not_zero : (x : Bool) → bit z k ≡ x → x ≡ false
      not_zero false p = refl
      not_zero true p = absurd (true_and_false (bit o k) g (a k p))

      at : (m : ℕ) → Fits z o (suc k) m → ((bit m k ≡ true) × (m ≡ 2 ^ k + m % 2 ^ k)) ⊎
          ((bit m k ≡ false) × (m ≡ m % 2 ^ k)) → 2 ^ k + o % 2 ^ k ≤ m
      at m i (inl w) = let q = least_below (m % 2 ^ k) (lower m i) in let p = w.1 in omega arith
      at m i (inr w) = absurd (true_and_false _ (i.ones k (omega arith) g) w.0)
  step a false d false e f g (Some x) h = record {
    found =
        (raised_zero x h.found.0 g, let s = start_zero e in let l = h.found.1 in omega arith);
    least = λ m i l. at m i l
        (ways m i);
  }
    where
      at : (m : ℕ) → Fits z o (suc k) m → n % 2 ^ suc k ≤ m → ((bit m k ≡ true) × (m ≡ 2 ^ k + m % 2 ^ k)) ⊎
          ((bit m k ≡ false) × (m ≡ m % 2 ^ k)) → x ≤ m
      at m i l (inl w) = let q = h.found.0.below in let p = w.1 in omega arith
      at m i l (inr w) = subst (λ y. x ≤ y) (sym w.1)
          (h.least (m % 2 ^ k) (lower m i) (let s = start_zero e in let p = w.1 in omega arith))
  step a false true false e f g None h = record { found = tt; least = λ m i l. at m i l (ways m i) }
    where
      at : (m : ℕ) → Fits z o (suc k) m → n % 2 ^ suc k ≤ m → ((bit m k ≡ true) × (m ≡ 2 ^ k + m % 2 ^ k)) ⊎
          ((bit m k ≡ false) × (m ≡ m % 2 ^ k)) → ⊥
      at m i l (inl w) = true_and_false _ w.0 (i.zeros k (omega arith) f)
      at m i l (inr w) = h.least (m % 2 ^ k) (lower m i) (let s = start_zero e in let p = w.1 in omega arith)
  step a false false false e f g None h = record { found = some_low a e f; least = λ m i l. at m i l (ways m i) }
    where
      at : (m : ℕ) → Fits z o (suc k) m → n % 2 ^ suc k ≤ m → ((bit m k ≡ true) × (m ≡ 2 ^ k + m % 2 ^ k)) ⊎
          ((bit m k ≡ false) × (m ≡ m % 2 ^ k)) → 2 ^ k + o % 2 ^ k ≤ m
      at m i l (inl w) = let q = least_below (m % 2 ^ k) (lower m i) in let p = w.1 in omega arith
      at m i l (inr w) = absurd (h.least (m % 2 ^ k) (lower m i) (let s = start_zero e in let p = w.1 in omega arith))

pub first_is_least : (z o n k : ℕ) → ((j : ℕ) → bit z j ≡ true → bit o j ≡ false) → IsLeast z o n k (first_at z o n k)
unfolding first_at
first_is_least z o n zero a = record {
  found = (
    record {
      below = omega arith;
      zeros = λ j l e. absurd (omega arith);
      ones = λ j l e. absurd
          (omega arith);
    },
    omega arith,
  );
  least = λ m h l. omega arith;
}
first_is_least z o n (suc k) a = step z o n k a (bit n k) (bit z k) (bit o k) refl refl refl (first_at z o n k)
    (first_is_least z o n k a)

-- what is found has no more than the k bits
pub first_below : (z o n k : ℕ) → IfSome (first_at z o n k) (λ m. m < 2 ^ k)
unfolding first_at
first_below z o n zero = omega arith
first_below z o n (suc k) = at (bit n k) (bit z k) (bit o k) (first_at z o n k) (first_below z o n k)
  where
    at : (c d b : Bool) (r : Option ℕ) → IfSome r (λ m. m < 2 ^ k) → IfSome (with_bit c d b (2 ^ k) (o % 2 ^ k) r)
        (λ m. m < 2 ^ suc k)
    at true true b r h = tt
    at true false b None h = tt
    at true false b (Some m) h = let s = pow-suc 2 k in omega arith
    at false d true r h = let s = pow-suc 2 k in let l = mod_below o (2 ^ k) (pow_pos k) in omega arith
    at false d false (Some m) h = let s = pow-suc 2 k in omega arith
    at false true false None h = tt
    at false false false None h = let s = pow-suc 2 k in let l = mod_below o (2 ^ k) (pow_pos k) in omega arith
