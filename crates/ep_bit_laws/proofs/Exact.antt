-- Every bit that a pattern does not know takes both values, also among the numbers of a type.
use Rattle.std.proofs.Common.{◌≡◌, ℕ, ◌-◌, ◌^◌, ◌<◌, ◌≤◌, ℤ, Bool, true, false, ◌&&◌, ◌||◌, not, cond, nat_eq}
use Rattle.ep_int.proofs.Arithmetic.{in_range_some_type}
use Rattle.ep_int.proofs.Basics.{true_and_false}
use Rattle.std.proofs.lemmas.Bool.{eqb-true}
use Rattle.std.proofs.Common.{bit_and, bit_or, Option, Some, None, ◌⊎◌, inl, inr, arith, refl, sym, ap, ◌∙◌}
use Rattle.std.specs.Option.{unwrap_or}
use Rattle.std.proofs.lemmas.Nat.{or_lt}
use Rattle.std.proofs.Math.Pow.{pow_mono}
use Rattle.std.proofs.lemmas.Bool.{cases_lt, cases_eq, and_parts, or_right, or_from}
use Rattle.ep_int.specs.declared.types.IntType.{IntType}
use Rattle.ep_int.specs.Types.{bits_of, is_signed, InRange}
use Rattle.ep_bit_laws.specs.Bits.{bit, bit_of}
use Rattle.ep_bit_laws.specs.Patterns.{Pattern, pattern, known_bit, Has, IsPattern, closed, sign_place, sign_bits}
use Rattle.ep_bit_laws.specs.Patterns.{in_type, exactly}
use Rattle.ep_bit_laws.proofs.Bits.{same_numbers, bit-or, bit_within, bit_power, bit_power_other, bit_turned}
use Rattle.ep_bit_laws.proofs.Numbers.{number_of_bits, bit_of_number, number_in_range, number_of_some_type}
use Rattle.ep_bit_laws.proofs.Numbers.{sign_place_small, width_small, low_bits_below}
use Rattle.ep_bit_laws.proofs.Patterns.{given_bit, keeps_bit, has_bit, apart_from, closed_zeros}
use Rattle.ep_bit_laws.proofs.Patterns.{closed_ones}
use Rattle.ep_bit_laws.proofs.Types.{sign_bits_below, in_sign, from_sign}

-- ---- what is known of a bit

-- the bit, where it is known, else another
abbrev pub bit_or_else : Pattern → ℕ → Bool → Bool
bit_or_else p k b = unwrap_or (known_bit p k) b

pub known_one : (p : Pattern) (k : ℕ) → bit p.ones k ≡ true → known_bit p k ≡ Some true
known_one p k e = ap (λ b. cond b (Some true) (cond (bit p.zeros k) (Some false) None)) e

pub known_zero : (p : Pattern) (k : ℕ) → bit p.ones k ≡ false → bit p.zeros k ≡ true → known_bit p k ≡ Some false
known_zero p k e f = ap (λ b. cond b (Some true) (cond (bit p.zeros k) (Some false) None)) e ∙ ap
    (λ b. cond b (Some false) None) f

pub not_known : (p : Pattern) (k : ℕ) → bit p.ones k ≡ false → bit p.zeros k ≡ false → known_bit p k ≡ None
not_known p k e f = ap (λ b. cond b (Some true) (cond (bit p.zeros k) (Some false) None)) e ∙ ap
    (λ b. cond b (Some false) None) f

-- the three ways
pub data Ways (p : Pattern) (k : ℕ) : Type 0 where
  is_one : bit p.ones k ≡ true → Ways p k
  is_zero : bit p.ones k ≡ false → bit p.zeros k ≡ true → Ways p k
  is_open : bit p.ones k ≡ false → bit p.zeros k ≡ false → Ways p k

pub ways : (p : Pattern) (k : ℕ) → Ways p k
ways p k = at (bit p.ones k) (bit p.zeros k) refl refl
  where
    at : (a b : Bool) → bit p.ones k ≡ a → bit p.zeros k ≡ b → Ways p k
    at true b e f = is_one e
    at false true e f = is_zero e f
    at false false e f = is_open e f

pub open_bit : (p : Pattern) (k : ℕ) → known_bit p k ≡ None → (bit p.ones k ≡ false) × (bit p.zeros k ≡ false)
open_bit p k e = by (ways p k)
  where
    by : Ways p k → (bit p.ones k ≡ false) × (bit p.zeros k ≡ false)
    by (is_one f) = absurd (some_none true (sym (known_one p k f) ∙ e))
      where
        some_none : (b : Bool) → ◌≡◌ {A = Option Bool} (Some b) None → ⊥
        some_none b e = absurd cc
    by (is_zero f g) = absurd (some_none false (sym (known_zero p k f g) ∙ e))
      where
        some_none : (b : Bool) → ◌≡◌ {A = Option Bool} (Some b) None → ⊥
        some_none b e = absurd cc
    by (is_open f g) = (f, g)

-- closing keeps what is known
pub closed_open : (p : Pattern) (k : ℕ) → known_bit (closed p) k ≡ None → known_bit p k ≡ None
closed_open p k e =
    let h = open_bit (closed p) k e in
    not_known p k (back _ _ (closed_ones p k) h.0) (back _ _ (closed_zeros p k) h.1)
  where
    back : (a b : Bool) → (a ≡ true → b ≡ true) → b ≡ false → a ≡ false
    back true b f e = absurd (true_and_false b (f refl) e)
    back false b f e = refl

-- a number has the known bits
pub known_holds : (p : Pattern) (z : ℤ) (k : ℕ) (b : Bool) → Has p z → known_bit p k ≡ Some b → bit_of z k ≡ b
known_holds p z k b h e = by (ways p k)
  where
    same : (c : Bool) → known_bit p k ≡ Some c → c ≡ b
    same c f = let g : ◌≡◌ {A = Option Bool} (Some c) (Some b) = sym f ∙ e in inner g
      where
        inner : ◌≡◌ {A = Option Bool} (Some c) (Some b) → c ≡ b
        inner g = cc

    by : Ways p k → bit_of z k ≡ b
    by (is_one f) = h.ones k f ∙ same true (known_one p k f)
    by (is_zero f g) = h.zeros k g ∙ same false (known_zero p k f g)
    by (is_open f g) = absurd (none_some (sym (not_known p k f g) ∙ e))
      where
        none_some : ◌≡◌ {A = Option Bool} None (Some b) → ⊥
        none_some e = absurd cc

-- all bits of one number are known
pub exact_known : (v : ℤ) (k : ℕ) → k < 65 → known_bit (exactly v) k ≡ None → ⊥
exact_known v k l e = let h = open_bit (exactly v) k e in true_and_false _
    (bit_turned 65 _ k (low_bits_below v) l ∙ ap not h.0) h.1

-- ---- among all numbers

module _ (p : Pattern) (i : IsPattern p) where
  pub least_has : Has p (number_of_bits p.ones)
  least_has = record {
    number = number_of_some_type p.ones i.ones_below i.negative;
    zeros = λ k e. bit_of_number p.ones k i.ones_below (bit_within p.zeros 65 k i.zeros_below e) ∙ i.apart k e;
    ones = λ k e. bit_of_number p.ones k i.ones_below (bit_within p.ones 65 k i.ones_below e) ∙ e;
  }

  -- with one open bit set, below the sign
  with_bit : (k : ℕ) → k < 64 → bit p.zeros k ≡ false → Has p (number_of_bits (bit_or p.ones (2 ^ k)))
  with_bit k l e = record {
    number = number_of_some_type (bit_or p.ones (2 ^ k)) small
        (λ f. keeps_bit p.ones (2 ^ k) 63 (i.negative (negative (given_bit p.ones k 64 f))));
    zeros = λ j f. bit_of_number (bit_or p.ones (2 ^ k)) j small (bit_within p.zeros 65 j i.zeros_below f) ∙ zero j f
        (bit (bit_or p.ones (2 ^ k)) j) refl;
    ones = λ j f. bit_of_number (bit_or p.ones (2 ^ k)) j small (bit_within p.ones 65 j i.ones_below f)
        ∙ keeps_bit p.ones (2 ^ k) j f;
  }
    where
      small : bit_or p.ones (2 ^ k) < 2 ^ 65
      small = or_lt 65 p.ones (2 ^ k) i.ones_below (let m = pow_mono {i = k} {j = 64} (omega arith) in omega arith)

      negative : (bit p.ones 64 ≡ true) ⊎ (64 ≡ k) → bit p.ones 64 ≡ true
      negative (inl f) = f
      negative (inr f) = absurd (omega arith)

      zero : (j : ℕ) → bit p.zeros j ≡ true → (b : Bool) → bit (bit_or p.ones (2 ^ k)) j ≡ b → b ≡ false
      zero j f false g = refl
      zero j f true g = by (given_bit p.ones k j g)
        where
          by : (bit p.ones j ≡ true) ⊎ (j ≡ k) → true ≡ false
          by (inl h) = absurd (true_and_false _ h (i.apart j f))
          by (inr h) = absurd (true_and_false _ (ap (bit p.zeros) (sym h) ∙ f) e)

  -- a number whose bit is as wanted, where it is not known
  pub pick_any : (k : ℕ) (b : Bool) → k < 64 → (x : ℤ) × Has p x × (bit_of x k ≡ bit_or_else p k b)
  pick_any k b l = by (ways p k) b
    where
      lowest : bit_of (number_of_bits p.ones) k ≡ bit p.ones k
      lowest = bit_of_number p.ones k i.ones_below (omega arith)

      by : Ways p k → (b : Bool) → (x : ℤ) × Has p x × (bit_of x k ≡ bit_or_else p k b)
      by (is_one e) b = (
        number_of_bits p.ones,
        least_has,
        lowest ∙ e ∙ sym
            (ap (λ o. unwrap_or o b) (known_one p k e)),
      )
      by (is_zero e f) b = (
        number_of_bits p.ones,
        least_has,
        lowest ∙ e ∙ sym
            (ap (λ o. unwrap_or o b) (known_zero p k e f)),
      )
      by (is_open e f) false = (
        number_of_bits p.ones,
        least_has,
        lowest ∙ e ∙ sym
            (ap (λ o. unwrap_or o false) (not_known p k e f)),
      )
      by (is_open e f) true = (
        number_of_bits (bit_or p.ones (2 ^ k)),
        with_bit k l f,
        bit_of_number (bit_or p.ones (2 ^ k)) k (or_lt 65 p.ones (2 ^ k) i.ones_below
            (let m = pow_mono {i = k} {j = 64} (omega arith) in omega arith)) (omega arith) ∙ has_bit p.ones k ∙ sym
            (ap (λ o. unwrap_or o true) (not_known p k e f)),
      )

-- ---- among the numbers of a type

-- all bits of the sign are known alike, and of an unsigned type they are 0
pub record IsOfType (t : IntType) (p : Pattern) : Type 0 where
  pub zeros : (k : ℕ) → sign_place t ≤ k → k < 65 → bit p.zeros k ≡ bit p.zeros 64
  pub ones : (k : ℕ) → sign_place t ≤ k → k < 65 → bit p.ones k ≡ bit p.ones 64
  pub unsigned : is_signed t ≡ false → bit p.zeros 64 ≡ true

-- ---- the pattern of the numbers of a type is of this kind

module _ (t : IntType) (p : Pattern) (a : (k : ℕ) → bit (in_type t p).zeros k ≡ true → bit
    (in_type t p).ones k ≡ false) where
  all_or_none : (m : ℕ) (b : Bool) → (b ≡ true → bit_and m (sign_bits t) ≡ 0) → (k : ℕ) → sign_place t ≤ k → k < 65
      → bit (cond b m (bit_or m (sign_bits t))) k ≡ not b
  all_or_none m true e k l u = at (bit m k) refl
    where
      at : (c : Bool) → bit m k ≡ c → c ≡ false
      at false f = refl
      at true f = absurd (true_and_false _ (in_sign t k l u) (apart_from m (sign_bits t) (e refl) k f))
  all_or_none m false e k l u = bit-or m (sign_bits t) k ∙ or_right (bit m k) _ (in_sign t k l u)

  zero_sign_bits : (k : ℕ) → sign_place t ≤ k → k < 65 → bit (in_type t p).zeros k ≡ not
      (is_signed t && nat_eq (bit_and p.zeros (sign_bits t)) 0)
  zero_sign_bits k l u = all_or_none p.zeros (is_signed t && nat_eq (bit_and p.zeros (sign_bits t)) 0)
      (λ e. eqb-true _ _ (and_parts (is_signed t) (nat_eq (bit_and p.zeros (sign_bits t)) 0) e).1) k l u

  unsigned_zeros : is_signed t ≡ false → (k : ℕ) → sign_place t ≤ k → k < 65 → bit (in_type t p).zeros k ≡ true
  unsigned_zeros e k l u = zero_sign_bits k l u ∙ ap (λ s. not (s && nat_eq (bit_and p.zeros (sign_bits t)) 0)) e

  one_sign_bits : is_signed t ≡ true → (k : ℕ) → sign_place t ≤ k → k < 65 → bit (in_type t p).ones k ≡ not
      (not (is_signed t) || nat_eq (bit_and p.ones (sign_bits t)) 0)
  one_sign_bits e k l u = all_or_none p.ones (not (is_signed t) || nat_eq (bit_and p.ones (sign_bits t)) 0)
      (λ f. eqb-true _ _ (sym (ap (λ s. not s || nat_eq (bit_and p.ones (sign_bits t)) 0) e) ∙ f)) k l u

  pub in_type_of : IsOfType t (in_type t p)
  in_type_of = record {
    zeros = λ k l u. zero_sign_bits k l u ∙ sym (zero_sign_bits 64 (sign_place_small t) (omega arith));
    ones = λ k l u. ones_alike (is_signed t) refl k l u;
    unsigned = λ e. unsigned_zeros e 64 (sign_place_small t) (omega arith);
  }
    where
      ones_alike : (s : Bool) → is_signed t ≡ s → (k : ℕ) → sign_place t ≤ k → k < 65 → bit (in_type t p).ones k ≡ bit
          (in_type t p).ones 64
      ones_alike true e k l u = one_sign_bits e k l u ∙ sym (one_sign_bits e 64 (sign_place_small t) (omega arith))
      ones_alike false e k l u = a k (unsigned_zeros e k l u) ∙ sym
          (a 64 (unsigned_zeros e 64 (sign_place_small t) (omega arith)))

-- closing changes nothing there
pub closed_same : (t : IntType) (p : Pattern) → IsOfType t p → ((k : ℕ) → bit p.zeros k ≡ true → bit p.ones k ≡ false)
    → closed p ≡ p
closed_same t p u a = ap (λ z. pattern z (closed p).ones) (zeros_same (bit p.zeros 63) refl) ∙ ap
    (λ o. pattern p.zeros o) (ones_same (bit p.ones 64) refl)
  where
    kept : (m j : ℕ) → bit m j ≡ true → bit_or m (2 ^ j) ≡ m
    kept m j e = same_numbers (bit_or m (2 ^ j)) m (λ k. at k (bit (bit_or m (2 ^ j)) k) refl)
      where
        at : (k : ℕ) (b : Bool) → bit (bit_or m (2 ^ j)) k ≡ b → b ≡ bit m k
        at k true f = by (given_bit m j k f)
          where
            by : (bit m k ≡ true) ⊎ (k ≡ j) → true ≡ bit m k
            by (inl g) = sym g
            by (inr g) = sym (ap (bit m) g ∙ e)
        at k false f = below (bit m k) (keeps_bit m (2 ^ j) k)
          where
            below : (c : Bool) → (c ≡ true → bit (bit_or m (2 ^ j)) k ≡ true) → false ≡ c
            below true g = absurd (true_and_false _ (g refl) f)
            below false g = refl

    signed_place : (s : Bool) → is_signed t ≡ s → bit p.zeros 63 ≡ true → bit p.zeros 64 ≡ true
    signed_place false e f = u.unsigned e
    signed_place true e f = sym (u.zeros 63 (small e) (omega arith)) ∙ f
      where
        small : is_signed t ≡ true → sign_place t ≤ 63
        small e = let i : sign_place t ≡ bits_of t - 1 = ap
            (λ s. cond s (bits_of t - 1) (bits_of t)) e in let w = width t in omega arith
          where
            width : (t : IntType) → bits_of t ≤ 64
            width t = (width_small t).1

    ones_place : (s : Bool) → is_signed t ≡ s → bit p.ones 64 ≡ true → bit p.ones 63 ≡ true
    ones_place false e f = absurd (true_and_false _ f (a 64 (u.unsigned e)))
    ones_place true e f = u.ones 63 (small e) (omega arith) ∙ f
      where
        small : is_signed t ≡ true → sign_place t ≤ 63
        small e = let i : sign_place t ≡ bits_of t - 1 = ap
            (λ s. cond s (bits_of t - 1) (bits_of t)) e in let w = width t in omega arith
          where
            width : (t : IntType) → bits_of t ≤ 64
            width t = (width_small t).1

    zeros_same : (b : Bool) → bit p.zeros 63 ≡ b → cond b (bit_or p.zeros (2 ^ 64)) p.zeros ≡ p.zeros
    zeros_same true e = kept p.zeros 64 (signed_place (is_signed t) refl e)
    zeros_same false e = refl

    ones_same : (b : Bool) → bit p.ones 64 ≡ b → cond b (bit_or p.ones (2 ^ 63)) p.ones ≡ p.ones
    ones_same true e = kept p.ones 63 (ones_place (is_signed t) refl e)
    ones_same false e = refl

module _ (t : IntType) (p : Pattern) (i : IsPattern p) (u : IsOfType t p) where
  unsigned_ones : is_signed t ≡ false → bit p.ones 64 ≡ false
  unsigned_ones e = i.apart 64 (u.unsigned e)

  pub least_in_range : InRange t (number_of_bits p.ones)
  least_in_range = number_in_range t p.ones i.ones_below u.ones unsigned_ones

  -- what is set with an open bit
  set_with : ℕ → Bool → ℕ
  set_with k true = 2 ^ k
  set_with k false = sign_bits t

  -- with one open bit set, and of the bits of the sign all
  module _ (k : ℕ) (l : k < 65) (e : bit p.ones k ≡ false) (f : bit p.zeros k ≡ false) where
    signed_alone : sign_place t ≤ k → (s : Bool) → is_signed t ≡ s → s ≡ true
    signed_alone m true g = refl
    signed_alone m false g = absurd (true_and_false _ (u.zeros k m l ∙ u.unsigned g) f)

    high_with : (m : ℕ) → m < 2 ^ 65 → ((j : ℕ) → bit m j ≡ true → bit p.zeros j ≡ false) →
        ((j : ℕ) → sign_place t ≤ j → j < 65 → bit (bit_or p.ones m) j ≡ bit (bit_or p.ones m) 64) →
        (is_signed t ≡ false → bit (bit_or p.ones m) 64 ≡ false) → bit m k ≡ true → (x : ℤ) × InRange t x × Has p x ×
        (bit_of x k ≡ true)
    high_with m s a g n o = (
      number_of_bits (bit_or p.ones m),
      range,
      record {
        number = in_range_some_type t _ range;
        zeros = λ j h. bit_of_number (bit_or p.ones m) j small (bit_within p.zeros 65 j i.zeros_below h)
            ∙ bit-or p.ones m j ∙ or_from _ _ (i.apart j h) (none j h (bit m j) refl);
        ones = λ j h. bit_of_number (bit_or p.ones m) j small (bit_within p.ones 65 j i.ones_below h)
            ∙ keeps_bit p.ones m j h;
      },
      bit_of_number (bit_or p.ones m) k small l ∙ bit-or p.ones m k ∙ or_right (bit p.ones k) _ o,
    )
      where
        small : bit_or p.ones m < 2 ^ 65
        small = or_lt 65 p.ones m i.ones_below s

        range : InRange t (number_of_bits (bit_or p.ones m))
        range = number_in_range t (bit_or p.ones m) small g n

        none : (j : ℕ) → bit p.zeros j ≡ true → (b : Bool) → bit m j ≡ b → b ≡ false
        none j h false q = refl
        none j h true q = absurd (true_and_false _ h (a j q))

    one_set : (x : ℤ) × InRange t x × Has p x × (bit_of x k ≡ true)
    one_set = by (cases_lt k (sign_place t))
      where
        by : (k < sign_place t) ⊎ (sign_place t ≤ k) → (x : ℤ) × InRange t x × Has p x × (bit_of x k ≡ true)
        by (inl m) =
            let w = sign_place_small t in
            high_with (2 ^ k) (let v = pow_mono {i = k} {j = 64} (omega arith) in omega arith)
            (λ j g. at j g (cases_eq j k))
            (λ j g h. same j (omega arith) ∙ u.ones j g h ∙ sym (same 64 (omega arith)))
            (λ g. same 64 (omega arith) ∙ unsigned_ones g)
            (bit_power k)
          where
            at : (j : ℕ) → bit (2 ^ k) j ≡ true → (j ≡ k) ⊎ (j ≡ k → ⊥) → bit p.zeros j ≡ false
            at j g (inl h) = ap (bit p.zeros) h ∙ f
            at j g (inr h) = absurd (true_and_false _ g (bit_power_other k j h))

            same : (j : ℕ) → k < j → bit (bit_or p.ones (2 ^ k)) j ≡ bit p.ones j
            same j g = bit-or p.ones (2 ^ k) j ∙ right (bit p.ones j) _
                (bit_power_other k j (λ h. absurd (omega arith)))
              where
                right : (a b : Bool) → b ≡ false → (a || b) ≡ a
                right true b e = refl
                right false b e = e
        by (inr m) =
            high_with (sign_bits t) (sign_bits_below t)
            (λ j g. let h = from_sign t j g in u.zeros j h.0 h.1 ∙ sym (u.zeros k m l) ∙ f)
            (λ j g h. set j g h ∙ sym (set 64 (sign_place_small t) (omega arith)))
            (λ g. absurd (true_and_false _ (signed_alone m (is_signed t) refl) g))
            (in_sign t k m l)
          where
            set : (j : ℕ) → sign_place t ≤ j → j < 65 → bit (bit_or p.ones (sign_bits t)) j ≡ true
            set j g h = bit-or p.ones (sign_bits t) j ∙ or_right (bit p.ones j) _ (in_sign t j g h)

  pub pick : (k : ℕ) (b : Bool) → k < 65 → (x : ℤ) × InRange t x × Has p x × (bit_of x k ≡ bit_or_else p k b)
  pick k b l = by (ways p k) b
    where
      lowest : bit_of (number_of_bits p.ones) k ≡ bit p.ones k
      lowest = bit_of_number p.ones k i.ones_below l

      by : Ways p k → (b : Bool) → (x : ℤ) × InRange t x × Has p x × (bit_of x k ≡ bit_or_else p k b)
      by (is_one e) b = (
        number_of_bits p.ones,
        least_in_range,
        least_has p i,
        lowest ∙ e ∙ sym
            (ap (λ o. unwrap_or o b) (known_one p k e)),
      )
      by (is_zero e f) b = (
        number_of_bits p.ones,
        least_in_range,
        least_has p i,
        lowest ∙ e ∙ sym
            (ap (λ o. unwrap_or o b) (known_zero p k e f)),
      )
      by (is_open e f) false = (
        number_of_bits p.ones,
        least_in_range,
        least_has p i,
        lowest ∙ e ∙ sym
            (ap (λ o. unwrap_or o false) (not_known p k e f)),
      )
      by (is_open e f) true = let w = one_set k l e f in
          (w.0, w.1, w.2, w.3 ∙ sym (ap (λ o. unwrap_or o true) (not_known p k e f)))
