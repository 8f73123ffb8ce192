-- Laws of the bits of whole numbers.
use Rattle.std.proofs.Common.{◌≡◌, ℕ, suc, ◌+◌, ◌-◌, ◌*◌, ◌%◌, ◌^◌, ◌<◌, ◌≤◌, ℤ, pos, negsuc, Bool, true, false, ◌&&◌}
use Rattle.ep_int.proofs.Basics.{not_not}
use Rattle.std.proofs.Common.{not, cond, nat_le, ◌⊎◌, inl, inr, arith, refl, sym, ap, ◌∙◌, subst}
use Rattle.std.specs.Int.{int_shr}
use Rattle.std.proofs.lemmas.Int.{ints}
use Rattle.std.proofs.lemmas.Nat.{mod_below, pow_pos}
use Rattle.std.proofs.Math.Nat.{pow-suc}
use Rattle.std.proofs.lemmas.Bool.{cases_lt}
use Rattle.std.proofs.lemmas.Bool.Decides.{nat_tests}
use Rattle.ep_int.specs.declared.types.IntType.{IntType}
use Rattle.ep_int.specs.declared.types.IntType.TheVariants.{I8, U8, I16, U16, I32, U32, I64, U64}
use Rattle.ep_int.specs.Types.{bits_of, is_signed, InRange, residue, representation, represented, wrapped}
use Rattle.ep_int.specs.Arith.{IsOfSomeType}
use Rattle.ep_int.proofs.Wrapping.{residue_below, representation_below}
use Rattle.ep_bit_laws.specs.Bits.{bit, bit_of, low_bits}
use Rattle.ep_bit_laws.specs.Patterns.{sign_place}
use Rattle.ep_bit_laws.proofs.Bits.{same_below, bit_above, bit_low, bit_low_above, bit_turned, bit_shifted}

-- the bits that are left at a power of 2
pub bit_residue : (w : ℕ) (z : ℤ) (k : ℕ) → k < w → bit (residue (2 ^ w) z) k ≡ bit_of z k
bit_residue w (pos n) k l = bit_low n w k l
bit_residue w (negsuc n) k l = bit_turned w (n % 2 ^ w) k (mod_below n (2 ^ w) (pow_pos w)) l ∙ ap not
    (bit_low n w k l)

pub low_bits_below : (z : ℤ) → low_bits z < 2 ^ 65
low_bits_below z = residue_below (2 ^ 65) z (omega arith)

pub bit_low_bits : (z : ℤ) (k : ℕ) → k < 65 → bit (low_bits z) k ≡ bit_of z k
bit_low_bits z k l = bit_residue 65 z k l

-- to the right
pub bit_of_shifted : (z : ℤ) (n k : ℕ) → bit_of (int_shr z n) k ≡ bit_of z (n + k)
bit_of_shifted (pos m) n k = bit_shifted m n k
bit_of_shifted (negsuc m) n k = ap not (bit_shifted m n k)

-- ---- numbers of the types

pub is_negative : ℤ → Bool
is_negative (pos n) = false
is_negative (negsuc n) = true

positive_small : (t : IntType) (n : ℕ) → InRange t (pos n) → n < 2 ^ sign_place t
positive_small I8 n h = let u = h.high in omega (arith, ints)
positive_small U8 n h = let u = h.high in omega (arith, ints)
positive_small I16 n h = let u = h.high in omega (arith, ints)
positive_small U16 n h = let u = h.high in omega (arith, ints)
positive_small I32 n h = let u = h.high in omega (arith, ints)
positive_small U32 n h = let u = h.high in omega (arith, ints)
positive_small I64 n h = let u = h.high in omega (arith, ints)
positive_small U64 n h = let u = h.high in omega (arith, ints)

negative_small : (t : IntType) (n : ℕ) → InRange t (negsuc n) → (is_signed t ≡ true) × (n < 2 ^ sign_place t)
negative_small I8 n h = let u = h.low in (refl, omega (arith, ints))
negative_small U8 n h = let u = h.low in absurd (omega (arith, ints))
negative_small I16 n h = let u = h.low in (refl, omega (arith, ints))
negative_small U16 n h = let u = h.low in absurd (omega (arith, ints))
negative_small I32 n h = let u = h.low in (refl, omega (arith, ints))
negative_small U32 n h = let u = h.low in absurd (omega (arith, ints))
negative_small I64 n h = let u = h.low in (refl, omega (arith, ints))
negative_small U64 n h = let u = h.low in absurd (omega (arith, ints))

small_positive : (t : IntType) (n : ℕ) → n < 2 ^ sign_place t → InRange t (pos n)
small_positive I8 n h = record { low = omega (arith, ints); high = omega (arith, ints) }
small_positive U8 n h = record { low = omega (arith, ints); high = omega (arith, ints) }
small_positive I16 n h = record { low = omega (arith, ints); high = omega (arith, ints) }
small_positive U16 n h = record { low = omega (arith, ints); high = omega (arith, ints) }
small_positive I32 n h = record { low = omega (arith, ints); high = omega (arith, ints) }
small_positive U32 n h = record { low = omega (arith, ints); high = omega (arith, ints) }
small_positive I64 n h = record { low = omega (arith, ints); high = omega (arith, ints) }
small_positive U64 n h = record { low = omega (arith, ints); high = omega (arith, ints) }

small_negative : (t : IntType) (n : ℕ) → is_signed t ≡ true → n < 2 ^ sign_place t → InRange t (negsuc n)
small_negative I8 n e h = record { low = omega (arith, ints); high = omega (arith, ints) }
small_negative U8 n e h = absurd cc
small_negative I16 n e h = record { low = omega (arith, ints); high = omega (arith, ints) }
small_negative U16 n e h = absurd cc
small_negative I32 n e h = record { low = omega (arith, ints); high = omega (arith, ints) }
small_negative U32 n e h = absurd cc
small_negative I64 n e h = record { low = omega (arith, ints); high = omega (arith, ints) }
small_negative U64 n e h = absurd cc

pub sign_place_small : (t : IntType) → sign_place t ≤ 64
sign_place_small I8 = omega arith
sign_place_small U8 = omega arith
sign_place_small I16 = omega arith
sign_place_small U16 = omega arith
sign_place_small I32 = omega arith
sign_place_small U32 = omega arith
sign_place_small I64 = omega arith
sign_place_small U64 = omega arith

pub width_small : (t : IntType) → (1 ≤ bits_of t) × (bits_of t ≤ 64)
width_small I8 = (omega arith, omega arith)
width_small U8 = (omega arith, omega arith)
width_small I16 = (omega arith, omega arith)
width_small U16 = (omega arith, omega arith)
width_small I32 = (omega arith, omega arith)
width_small U32 = (omega arith, omega arith)
width_small I64 = (omega arith, omega arith)
width_small U64 = (omega arith, omega arith)

-- from the place of the sign on, each bit is the sign
pub sign_bit : (t : IntType) (z : ℤ) (k : ℕ) → InRange t z → sign_place t ≤ k → bit_of z k ≡ is_negative z
unfolding is_negative
sign_bit t (pos n) k h l = bit_above n (sign_place t) k (positive_small t n h) l
sign_bit t (negsuc n) k h l = ap not (bit_above n (sign_place t) k (negative_small t n h).1 l)

pub unsigned_sign : (t : IntType) (z : ℤ) → InRange t z → is_signed t ≡ false → is_negative z ≡ false
unfolding is_negative
unsigned_sign t (pos n) h e = refl
unsigned_sign t (negsuc n) h e = let f = (negative_small t n h).0 in absurd cc

-- ---- numbers of some type

pub negative_below : (n : ℕ) → IsOfSomeType (negsuc n) → n < 2 ^ 63
negative_below n h = let l = h.low in omega (arith, ints)

pub positive_below : (n : ℕ) → IsOfSomeType (pos n) → n < 2 ^ 64
positive_below n h = let l = h.high in omega (arith, ints)

pub bit_above_all : (z : ℤ) (k : ℕ) → IsOfSomeType z → 64 ≤ k → bit_of z k ≡ bit_of z 64
bit_above_all (pos n) k h l = bit_above n 64 k (positive_below n h) l ∙ sym
    (bit_above n 64 64 (positive_below n h) (omega arith))
bit_above_all (negsuc n) k h l = ap not (bit_above n 63 k (negative_below n h) (omega arith) ∙ sym
    (bit_above n 63 64 (negative_below n h) (omega arith)))

pub negative_bits : (z : ℤ) → IsOfSomeType z → bit_of z 64 ≡ true → bit_of z 63 ≡ true
negative_bits (pos n) h e = let f = bit_above n 64 64 (positive_below n h) (omega arith) in absurd cc
negative_bits (negsuc n) h e = ap not (bit_above n 63 63 (negative_below n h) (omega arith))

-- numbers with the same bits are the same
pub same_integers : (x y : ℤ) → IsOfSomeType x → IsOfSomeType y → ((k : ℕ) → k < 65 → bit_of x k ≡ bit_of y k) → x ≡ y
same_integers (pos a) (pos b) h k e =
    let p = positive_below a h in let q = positive_below b k in
    ap pos (same_below 65 a b (omega arith) (omega arith) e)
same_integers (pos a) (negsuc b) h k e =
    let f = e 64 (omega arith) in
    let g = bit_above a 64 64 (positive_below a h) (omega arith) in
    let i = ap not (bit_above b 63 64 (negative_below b k) (omega arith)) in
    absurd (apart _ _ f g i)
  where
    apart : (x y : Bool) → x ≡ y → x ≡ false → y ≡ true → ⊥
    apart x y e f g = absurd cc
same_integers (negsuc a) (pos b) h k e =
    let f = e 64 (omega arith) in
    let g = bit_above b 64 64 (positive_below b k) (omega arith) in
    let i = ap not (bit_above a 63 64 (negative_below a h) (omega arith)) in
    absurd (apart _ _ f g i)
  where
    apart : (x y : Bool) → x ≡ y → y ≡ false → x ≡ true → ⊥
    apart x y e f g = absurd cc
same_integers (negsuc a) (negsuc b) h k e =
    let p = negative_below a h in let q = negative_below b k in
    ap negsuc (same_below 65 a b (omega arith) (omega arith) (λ j l. same_not _ _ (e j l)))
  where
    same_not : (x y : Bool) → not x ≡ not y → x ≡ y
    same_not true true e = refl
    same_not true false e = absurd cc
    same_not false true e = absurd cc
    same_not false false e = refl

-- ---- the number of 65 bits

abbrev pub number_with : Bool → ℕ → ℤ
number_with true n = negsuc (2 ^ 65 - 1 - n)
number_with false n = pos n

-- the number that has these bits, of which bit 64 is the sign
abbrev pub number_of_bits : ℕ → ℤ
number_of_bits n = number_with (bit n 64) n

pub bit_of_number : (n k : ℕ) → n < 2 ^ 65 → k < 65 → bit_of (number_of_bits n) k ≡ bit n k
bit_of_number n k h l = at (bit n 64)
  where
    at : (b : Bool) → bit_of (number_with b n) k ≡ bit n k
    at true = ap not (bit_turned 65 n k h l) ∙ not_not (bit n k)
    at false = refl

small_from_bits : (n w : ℕ) → n < 2 ^ 65 → ((k : ℕ) → w ≤ k → k < 65 → bit n k ≡ false) → n < 2 ^ w
small_from_bits n w h f =
    subst (λ m. m < 2 ^ w) (sym same) (mod_below n (2 ^ w) (pow_pos w))
  where
    lower : n % 2 ^ w < 2 ^ 65
    lower = smaller (n % 2 ^ w) n (2 ^ 65) (le n (2 ^ w)) h
      where
        smaller : (a b c : ℕ) → a ≤ b → b < c → a < c
        smaller a b c p q = omega arith

        le : (n m : ℕ) → n % m ≤ n
        le n m = omega arith

    at : (k : ℕ) → k < 65 → (k < w) ⊎ (w ≤ k) → bit n k ≡ bit (n % 2 ^ w) k
    at k l (inl m) = sym (bit_low n w k m)
    at k l (inr m) = f k m l ∙ sym (bit_low_above n w k m)

    same : n ≡ n % 2 ^ w
    same = same_below 65 n (n % 2 ^ w) h lower (λ k l. at k l (cases_lt k w))

-- a number of which all bits from the place of the sign on are the same is of the type
pub number_in_range : (t : IntType) (n : ℕ) → n < 2 ^ 65 → ((k : ℕ) → sign_place t ≤ k → k < 65 → bit n k ≡ bit n 64)
    → (is_signed t ≡ false → bit n 64 ≡ false) → InRange t (number_of_bits n)
number_in_range t n h f g = at (bit n 64) refl
  where
    at : (b : Bool) → bit n 64 ≡ b → InRange t (number_with b n)
    at false e = small_positive t n (small_from_bits n (sign_place t) h (λ k p q. f k p q ∙ e))
    at true e =
        small_negative t (2 ^ 65 - 1 - n) (signed (is_signed t) refl)
        (small_from_bits (2 ^ 65 - 1 - n) (sign_place t) (omega arith)
        (λ k p q. bit_turned 65 n k h q ∙ ap not (f k p q ∙ e)))
      where
        signed : (s : Bool) → is_signed t ≡ s → s ≡ true
        signed true i = refl
        signed false i = let j = g i in absurd cc

-- a number with bit 63 where it has bit 64 is of some type
pub number_of_some_type : (n : ℕ) → n < 2 ^ 65 → (bit n 64 ≡ true → bit n 63 ≡ true) → IsOfSomeType (number_of_bits n)
number_of_some_type n h f = at (bit n 64) refl
  where
    below : (m : ℕ) → m < 2 ^ 64 → IsOfSomeType (pos m)
    below m l = record { low = omega (arith, ints); high = omega (arith, ints) }

    below_too : (m : ℕ) → m < 2 ^ 63 → IsOfSomeType (negsuc m)
    below_too m l = record { low = omega (arith, ints); high = omega (arith, ints) }

    top_two : (k : ℕ) → 63 ≤ k → k < 65 → (k ≡ 63) ⊎ (k ≡ 64)
    top_two k p q = by (cases_lt k 64)
      where
        by : (k < 64) ⊎ (64 ≤ k) → (k ≡ 63) ⊎ (k ≡ 64)
        by (inl l) = inl (omega arith)
        by (inr l) = inr (omega arith)

    at : (b : Bool) → bit n 64 ≡ b → IsOfSomeType (number_with b n)
    at false e = below n (small_from_bits n 64 h (λ k p q. ap (bit n) (let i : k ≡ 64 = omega arith in i) ∙ e))
    at true e = below_too (2 ^ 65 - 1 - n) (small_from_bits (2 ^ 65 - 1 - n) 63 (omega arith)
        (λ k p q. bit_turned 65 n k h q ∙ ap not (one k (top_two k p q))))
      where
        one : (k : ℕ) → (k ≡ 63) ⊎ (k ≡ 64) → bit n k ≡ true
        one k (inl i) = ap (bit n) i ∙ f e
        one k (inr i) = ap (bit n) i ∙ e

-- ---- numbers that have the bits of a type

top_bit : (w n : ℕ) → 0 < w → n < 2 ^ w → nat_le (2 ^ (w - 1)) n ≡ bit n (w - 1)
top_bit w n h l = at (nat_le (2 ^ (w - 1)) n) refl
  where
    from_le : (a b : ℕ) → nat_le a b ≡ true → a ≤ b
    from_le a b e = grind (arith, nat_tests)

    from_gt : (a b : ℕ) → nat_le a b ≡ false → b < a
    from_gt a b e = grind (arith, nat_tests)

    whole : w ≡ suc (w - 1)
    whole = omega arith

    double : (v : ℕ) → 2 ^ suc v ≡ 2 ^ v * 2
    double v = pow-suc 2 v

    other : (a n : ℕ) → a ≤ n → n < a * 2 → a * 2 - 1 - n < a
    other a n p q = omega arith

    back : (b : Bool) → not b ≡ false → b ≡ true
    back true e = refl
    back false e = absurd cc

    at : (b : Bool) → nat_le (2 ^ (w - 1)) n ≡ b → b ≡ bit n (w - 1)
    at false e = sym (bit_above n (w - 1) (w - 1) (from_gt _ _ e) (omega arith))
    at true e =
        let s : 2 ^ w ≡ 2 ^ (w - 1) * 2 = ap (λ v. 2 ^ v) whole ∙ double (w - 1) in
        let small : 2 ^ w - 1 - n < 2 ^ (w - 1) = subst (λ m. m - 1 - n < 2 ^ (w - 1)) (sym s)
        (other (2 ^ (w - 1)) n (from_le _ _ e) (subst (λ m. n < m) s l)) in
        sym (back _ (sym (bit_turned w n (w - 1) l (omega arith)) ∙ bit_above (2 ^ w - 1 - n) (w - 1) (w - 1) small
        (omega arith)))

pub bit_represented : (t : IntType) (n k : ℕ) → n < 2 ^ bits_of t → k < bits_of t → bit_of
    (represented t n) k ≡ bit n k
bit_represented t n k h l = at (is_signed t && nat_le (2 ^ (bits_of t - 1)) n)
  where
    at : (b : Bool) → bit_of (cond b (negsuc (2 ^ bits_of t - 1 - n)) (pos n)) k ≡ bit n k
    at true = ap not (bit_turned (bits_of t) n k h l) ∙ not_not (bit n k)
    at false = refl

-- from the width on
pub bit_represented_above : (t : IntType) (n k : ℕ) → n < 2 ^ bits_of t → bits_of t ≤ k → bit_of (represented t n) k ≡
    (is_signed t && bit n (bits_of t - 1))
bit_represented_above t n k h l = subst (λ b. bit_of
    (cond (is_signed t && b) (negsuc (2 ^ bits_of t - 1 - n)) (pos n)) k ≡ (is_signed t && bit n (bits_of t - 1)))
    (sym (top_bit (bits_of t) n (let w = width_small t in omega arith) h)) (at (is_signed t && bit n (bits_of t - 1)))
  where
    at : (b : Bool) → bit_of (cond b (negsuc (2 ^ bits_of t - 1 - n)) (pos n)) k ≡ b
    at true = ap not (bit_above (2 ^ bits_of t - 1 - n) (bits_of t) k (less (2 ^ bits_of t) n h) l)
      where
        less : (m n : ℕ) → n < m → m - 1 - n < m
        less m n h = omega arith
    at false = bit_above n (bits_of t) k h l

pub bit_wrapped : (t : IntType) (z : ℤ) (k : ℕ) → k < bits_of t → bit_of (wrapped t z) k ≡ bit_of z k
bit_wrapped t z k l = bit_represented t (representation t z) k (representation_below t z) l ∙ bit_residue
    (bits_of t) z k l

pub bit_wrapped_above : (t : IntType) (z : ℤ) (k : ℕ) → is_signed t ≡ false → bits_of t ≤ k → bit_of
    (wrapped t z) k ≡ false
bit_wrapped_above t z k e l = bit_represented_above t (representation t z) k (representation_below t z) l ∙ ap
    (λ s. s && bit (representation t z) (bits_of t - 1)) e
