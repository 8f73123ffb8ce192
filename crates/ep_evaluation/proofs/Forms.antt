-- The forms of operators: they may be those of cells, and say what the result is.
use Rattle.std.proofs.Common.{◌≡◌, ℕ, ◌+◌, ◌-◌, ◌*◌, ◌/◌, ◌%◌, ◌^◌, ◌<◌, ◌≤◌, ℤ, pos, Bool, true, false, ◌&&◌, cond}
use Rattle.ep_int.proofs.Arithmetic.{le_fact, le_test}
use Rattle.ep_equalities.proofs.Equal.{in_single}
use Rattle.std.proofs.Common.{List, length, take, drop, Option, Some, None, Ok, IfSome, refl, sym, ap, ◌∙◌, subst}
use Rattle.std.proofs.Common.{arith, bit_and, bit_or, length-append, length-drop}
use Rattle.std.specs.Prelude.{int_le, int_lt, unsigned_abs}
use Rattle.std.proofs.lemmas.Nat.{and_comm}
use Rattle.std.proofs.lemmas.Bool.{and_parts}
use Rattle.std.proofs.Math.Nat.{mod-eq_of_lt, mod-mod}
use Rattle.ep_int.specs.declared.types.IntType.{IntType}
use Rattle.ep_int.specs.declared.types.BinOp.{BinOp}
use Rattle.ep_int.specs.declared.types.BinOp.TheVariants.{Add, Sub, Mul, Div, Rem, And, Or, Xor, Shl, Shr}
use Rattle.ep_int.specs.declared.types.Scalar.TheVariants.{Int}
use Rattle.ep_int.specs.Memory.{int}
use Rattle.ep_int.specs.Types.{bits_of, InRange, representation}
use Rattle.ep_int.specs.Arith.{arith_of}
use Rattle.ep_int.proofs.Wrapping.{representation_below}
use Rattle.ep_range_laws.specs.Ranges.{LiesIn}
use Rattle.ep_range_laws.proofs.Comparisons.{le_trans}
use Rattle.ep_bitslice.specs.declared.segment.Segment.{Segment}
use Rattle.ep_bitslice.specs.Bits.{Bit, Numbers, number_of_bits, zeros, shifted_left, shifted_right, masked}
use Rattle.ep_bitslice.specs.Bits.{are_disjoint, either_of}
use Rattle.ep_bitslice.specs.Segments.{bits, form_of}
use Rattle.ep_bitslice.proofs.Numbers.{number_below}
use Rattle.ep_bitslice.proofs.Operations.{length_take, length-zeros, number-shifted_left, number-shifted_right}
use Rattle.ep_bitslice.proofs.Operations.{number-masked, number-either_of, or-number}
use Rattle.ep_bitslice.proofs.Parts.{length-masked, length-either}
use Rattle.ep_cells.specs.declared.cell.Cell.{Cell}
use Rattle.ep_cells.specs.Reshare.{is_single}
use Rattle.ep_reads.specs.Laws.{IsFormRead}
use Rattle.ep_equalities.specs.Pairs.{HasFormNumber}
use Rattle.ep_evaluation.specs.Operators.{Form, amount_in, left_shift, right_shift, mask_of, and_form, disjoint_form}
use Rattle.ep_evaluation.specs.Operators.{form_by}
use Rattle.ep_evaluation.proofs.Bits.{AllGood, good_append, good_take, good_drop, good_zeros, good_masked}
use Rattle.ep_evaluation.proofs.Bits.{good_either, good_form, form_length, bits_fit_form, bits_say, form_number}
use Rattle.ep_evaluation.proofs.Bits.{form_below}
use Rattle.ep_evaluation.proofs.Residues.{add_bits, and_bits, or_bits, xor_bits, amount_below, left_bits}
use Rattle.ep_evaluation.proofs.Residues.{right_bits}

module _ {N : Type 0} (cs : List (Cell N)) (t : IntType) where
  -- as many good bits as the type has
  record AreBits (bs : List Bit) : Type 0 where
    pub good : AllGood cs bs
    pub long : length bs ≡ bits_of t

  abbrev Fits : Form → Type 0
  Fits f = IfSome f (IsFormRead cs (Int t) false)

  abbrev Says : Numbers → ℤ → Form → Type 0
  Says n z f = IfSome f (HasFormNumber n (Int t) (int z))

  own : (f : List Segment) → IsFormRead cs (Int t) false f → AreBits (bits f)
  own f h = record { good = good_form cs t f h; long = form_length cs t f h }

  fits_by : (bs : List Bit) → AreBits bs → Fits (form_of bs)
  fits_by bs b = bits_fit_form cs t bs b.good b.long

  says_by : (n : Numbers) (z : ℤ) (bs : List Bit) → AreBits bs
      → representation t z ≡ number_of_bits n bs % 2 ^ bits_of t → Says n z (form_of bs)
  says_by n z bs b e = bits_say cs n t z bs b.good b.long e

  -- the bits of a number are those of its form
  own_number : (n : Numbers) (u : ℤ) (f : List Segment) → IsFormRead cs (Int t) false f
      → HasFormNumber n (Int t) (int u) f
      → representation t u ≡ number_of_bits n (bits f)
  own_number n u f h e =
      e ∙ (ap (λ x. x % 2 ^ bits_of t) (form_number cs n t f h) ∙ mod-eq_of_lt (form_below cs n t f h))

  below : (n : Numbers) (bs : List Bit) → AreBits bs → number_of_bits n bs < 2 ^ bits_of t
  below n bs b = subst (λ l. number_of_bits n bs < 2 ^ l) b.long (number_below n bs)

  -- ---- shifts

  left_are : (f : List Segment) (k : ℕ) → IsFormRead cs (Int t) false f → k < bits_of t
      → AreBits (shifted_left k (bits f))
  left_are f k h l =
      let o = own f h in
      let w = o.long in
      let q : length (bits f) - k ≤ length (bits f) = omega arith in
      record {
        good = good_append cs (zeros k) (take (length (bits f) - k) (bits f)) (good_zeros cs k)
            (good_take cs (length (bits f) - k) (bits f) o.good);
        long = length-append (zeros k) (take (length (bits f) - k) (bits f))
            ∙ omega (arith, length-zeros k, length_take (length (bits f) - k) (bits f) q, w, l);
      }

  right_are : (f : List Segment) (k : ℕ) → IsFormRead cs (Int t) false f → k < bits_of t
      → AreBits (shifted_right k (bits f))
  right_are f k h l =
      let o = own f h in
      let w = o.long in
      record {
        good = good_append cs (drop k (bits f)) (zeros k) (good_drop cs k (bits f) o.good) (good_zeros cs k);
        long = length-append (drop k (bits f)) (zeros k) ∙ omega (arith, length-zeros k, length-drop k (bits f), w, l);
      }

  -- an amount, if there is one, is the one number of the range
  record IsAmount (s : ℤ × ℤ) (k : ℕ) : Type 0 where
    pub small : k < bits_of t
    pub only : (v : ℤ) → LiesIn s v → unsigned_abs v ≡ k

  amount_is : (s : ℤ × ℤ) → IfSome (amount_in t s) (IsAmount s)
  amount_is s = by (is_single s && (int_le (pos 0) s.0 && int_lt s.0 (pos (bits_of t)))) refl
    where
      by : (b : Bool) → (is_single s && (int_le (pos 0) s.0 && int_lt s.0 (pos (bits_of t)))) ≡ b
          → IfSome (cond b (Some (unsigned_abs s.0)) None) (IsAmount s)
      by false e = tt
      by true e =
          let q = and_parts (is_single s) (int_le (pos 0) s.0 && int_lt s.0 (pos (bits_of t))) e in
          record { small = amount_below t s.0 q.1; only = λ v l. ap unsigned_abs (in_single s v q.0 l) }

  left_fits : (f : Form) (a : Option ℕ) (s : ℤ × ℤ) → IfSome a (IsAmount s) → Fits f → Fits (left_shift f a)
  left_fits None a s i h = tt
  left_fits (Some f) None s i h = tt
  left_fits (Some f) (Some k) s i h = fits_by (shifted_left k (bits f)) (left_are f k h i.small)

  right_fits : (f : Form) (a : Option ℕ) (s : ℤ × ℤ) → IfSome a (IsAmount s) → Fits f → Fits (right_shift f a)
  right_fits None a s i h = tt
  right_fits (Some f) None s i h = tt
  right_fits (Some f) (Some k) s i h = fits_by (shifted_right k (bits f)) (right_are f k h i.small)

  left_says : (n : Numbers) (f : Form) (a : Option ℕ) (s : ℤ × ℤ) (u v z : ℤ) → IfSome a (IsAmount s) → Fits f
      → Says n u f
      → LiesIn s v → arith_of Shl t u v ≡ Ok z → Says n z (left_shift f a)
  left_says n None a s u v z i h g l e = tt
  left_says n (Some f) None s u v z i h g l e = tt
  left_says n (Some f) (Some k) s u v z i h g l e =
      let b = own_number n u f h g in
      let w = (own f h).long in
      let le : k ≤ length (bits f) = omega (arith, w, i.small) in
      let is : number_of_bits n (shifted_left k (bits f)) ≡ number_of_bits n (bits f) * 2 ^ k % 2 ^ bits_of t =
      number-shifted_left n k (bits f) le ∙ ap (λ x. number_of_bits n (bits f) * 2 ^ k % 2 ^ x) w in
      says_by n z (shifted_left k (bits f)) (left_are f k h i.small)
      (left_bits t u v z e
      ∙ (ap (λ x. representation t u * 2 ^ x % 2 ^ bits_of t) (i.only v l)
      ∙ (ap (λ x. x * 2 ^ k % 2 ^ bits_of t) b
      ∙ (sym (mod-mod (number_of_bits n (bits f) * 2 ^ k) (2 ^ bits_of t)) ∙ ap (λ x. x % 2 ^ bits_of t) (sym is)))))

  right_says : (n : Numbers) (f : Form) (a : Option ℕ) (s : ℤ × ℤ) (u v z : ℤ) → IfSome a (IsAmount s) → Fits f
      → Says n u f
      → LiesIn s v → InRange t u → int_le (pos 0) u ≡ true → arith_of Shr t u v ≡ Ok z → Says n z (right_shift f a)
  right_says n None a s u v z i h g l r p e = tt
  right_says n (Some f) None s u v z i h g l r p e = tt
  right_says n (Some f) (Some k) s u v z i h g l r p e =
      let b = own_number n u f h g in
      let w = (own f h).long in
      let le : k ≤ length (bits f) = omega (arith, w, i.small) in
      says_by n z (shifted_right k (bits f)) (right_are f k h i.small)
      (right_bits t u v z r p e
      ∙ (ap (λ x. representation t u / 2 ^ x % 2 ^ bits_of t) (i.only v l)
      ∙ (ap (λ x. x / 2 ^ k % 2 ^ bits_of t) b
      ∙ ap (λ x. x % 2 ^ bits_of t) (sym (number-shifted_right n k (bits f) le)))))

  -- ---- masks

  masked_are : (f : List Segment) (m : ℕ) → IsFormRead cs (Int t) false f → AreBits (masked m (bits f))
  masked_are f m h =
      let o = own f h in
      record { good = good_masked cs m (bits f) o.good; long = length-masked m (bits f) ∙ o.long }

  mask_fits : (f : Form) (s : ℤ × ℤ) → Fits f → Fits (mask_of t f s)
  mask_fits None s h = tt
  mask_fits (Some f) s h = by (is_single s)
    where
      by : (b : Bool) → Fits (cond b (form_of (masked (representation t s.0) (bits f))) None)
      by true = fits_by (masked (representation t s.0) (bits f)) (masked_are f (representation t s.0) h)
      by false = tt

  -- v is the mask, and u has the form
  mask_says : (n : Numbers) (f : Form) (s : ℤ × ℤ) (u v z : ℤ) → Fits f → Says n u f → LiesIn s v
      → representation t z ≡ bit_and (representation t u) (representation t v) → representation t z < 2 ^ bits_of t
      → Says n z (mask_of t f s)
  mask_says n None s u v z h g l e r = tt
  mask_says n (Some f) s u v z h g l e r = by (is_single s) refl
    where
      by : (b : Bool) → is_single s ≡ b → Says n z (cond b (form_of (masked (representation t s.0) (bits f))) None)
      by false i = tt
      by true i =
          let m : v ≡ s.0 = in_single s v i l in
          let q : representation t z ≡ number_of_bits n (masked (representation t s.0) (bits f)) =
          e ∙ (ap (λ x. bit_and x (representation t v)) (own_number n u f h g)
          ∙ (ap (λ x. bit_and (number_of_bits n (bits f)) (representation t x)) m
          ∙ sym (number-masked n (representation t s.0) (bits f)))) in
          says_by n z (masked (representation t s.0) (bits f)) (masked_are f (representation t s.0) h)
          (sym (mod-eq_of_lt r) ∙ ap (λ x. x % 2 ^ bits_of t) q)

  and_fits : (f g : Form) (r s : ℤ × ℤ) → Fits f → Fits g → Fits (and_form t f r g s)
  and_fits None g r s hf hg = mask_fits g r hg
  and_fits (Some f) g r s hf hg = by (is_single s)
    where
      by : (b : Bool) → Fits (cond b (mask_of t (Some f) s) (mask_of t g r))
      by true = mask_fits (Some f) s hf
      by false = mask_fits g r hg

  module _ (n : Numbers) (u v z : ℤ) (e : arith_of And t u v ≡ Ok z) where
    and_below : representation t z < 2 ^ bits_of t
    and_below = representation_below t z

    right_mask : (f : Form) (s : ℤ × ℤ) → Fits f → Says n u f → LiesIn s v → Says n z (mask_of t f s)
    right_mask f s h g l = mask_says n f s u v z h g l (and_bits t u v z e) and_below

    left_mask : (g : Form) (r : ℤ × ℤ) → Fits g → Says n v g → LiesIn r u → Says n z (mask_of t g r)
    left_mask g r h i l =
        mask_says n g r v u z h i l (and_bits t u v z e ∙ and_comm (representation t u) (representation t v)) and_below

    and_says : (f g : Form) (r s : ℤ × ℤ) → Fits f → Fits g → Says n u f → Says n v g → LiesIn r u → LiesIn s v
        → Says n z (and_form t f r g s)
    and_says None g r s hf hg i j k l = left_mask g r hg j k
    and_says (Some f) g r s hf hg i j k l = by (is_single s)
      where
        by : (b : Bool) → Says n z (cond b (mask_of t (Some f) s) (mask_of t g r))
        by true = right_mask (Some f) s hf i l
        by false = left_mask g r hg j k

  -- ---- disjoint bits

  either_are : (f g : List Segment) → IsFormRead cs (Int t) false f → IsFormRead cs (Int t) false g
      → AreBits (either_of (bits f) (bits g))
  either_are f g hf hg =
      let a = own f hf in
      let b = own g hg in
      record {
        good = good_either cs (bits f) (bits g) a.good b.good;
        long = length-either (bits f) (bits g) (a.long ∙ sym b.long) ∙ a.long;
      }

  disjoint_fits : (f g : Form) → Fits f → Fits g → Fits (disjoint_form f g)
  disjoint_fits None g hf hg = tt
  disjoint_fits (Some f) None hf hg = tt
  disjoint_fits (Some f) (Some g) hf hg = by (are_disjoint (bits f) (bits g))
    where
      by : (b : Bool) → Fits (cond b (form_of (either_of (bits f) (bits g))) None)
      by true = fits_by (either_of (bits f) (bits g)) (either_are f g hf hg)
      by false = tt

  -- what the bits of both are together, as a sum and as an or
  record AreTogether (n : Numbers) (u v : ℤ) (m : ℕ) : Type 0 where
    pub sum : m ≡ representation t u + representation t v
    pub either : bit_or (representation t u) (representation t v) ≡ m
    pub small : m < 2 ^ bits_of t

  together : (n : Numbers) (u v : ℤ) (f g : List Segment) → IsFormRead cs (Int t) false f
      → IsFormRead cs (Int t) false g
      → HasFormNumber n (Int t) (int u) f → HasFormNumber n (Int t) (int v) g → are_disjoint (bits f) (bits g) ≡ true
      → AreTogether n u v (number_of_bits n (either_of (bits f) (bits g)))
  together n u v f g hf hg i j d =
      let a = own_number n u f hf i in
      let b = own_number n v g hg j in record {
        sum = number-either_of n (bits f) (bits g) d
            ∙ (ap (λ x. x + number_of_bits n (bits g)) (sym a) ∙ ap (λ x. representation t u + x) (sym b));
        either = ap (λ x. bit_or x (representation t v)) a
            ∙ (ap (λ x. bit_or (number_of_bits n (bits f)) x) b ∙ sym (or-number n (bits f) (bits g) d));
        small = below n (either_of (bits f) (bits g)) (either_are f g hf hg);
      }

  disjoint_says : (n : Numbers) (u v z : ℤ) (f g : Form)
      → ((m : ℕ) → AreTogether n u v m → representation t z ≡ m % 2 ^ bits_of t)
      → Fits f → Fits g → Says n u f → Says n v g → Says n z (disjoint_form f g)
  disjoint_says n u v z None g c hf hg i j = tt
  disjoint_says n u v z (Some f) None c hf hg i j = tt
  disjoint_says n u v z (Some f) (Some g) c hf hg i j = by (are_disjoint (bits f) (bits g)) refl
    where
      by : (b : Bool) → are_disjoint (bits f) (bits g) ≡ b
          → Says n z (cond b (form_of (either_of (bits f) (bits g))) None)
      by true d =
          says_by n z (either_of (bits f) (bits g)) (either_are f g hf hg)
          (c (number_of_bits n (either_of (bits f) (bits g))) (together n u v f g hf hg i j d))
      by false d = tt

  add_together : (n : Numbers) (u v z : ℤ) → InRange t u → InRange t v → arith_of Add t u v ≡ Ok z → (m : ℕ)
      → AreTogether n u v m → representation t z ≡ m % 2 ^ bits_of t
  add_together n u v z h i e m k = add_bits t u v z h i e ∙ ap (λ x. x % 2 ^ bits_of t) (sym k.sum)

  or_together : (n : Numbers) (u v z : ℤ) → arith_of Or t u v ≡ Ok z → (m : ℕ) → AreTogether n u v m
      → representation t z ≡ m % 2 ^ bits_of t
  or_together n u v z e m k = or_bits t u v z m k.either k.small e ∙ sym (mod-eq_of_lt k.small)

  xor_together : (n : Numbers) (u v z : ℤ) → arith_of Xor t u v ≡ Ok z → (m : ℕ) → AreTogether n u v m
      → representation t z ≡ m % 2 ^ bits_of t
  xor_together n u v z e m k = xor_bits t u v z m k.either k.sum k.small e ∙ sym (mod-eq_of_lt k.small)

  -- ---- where it can't be negative

  never_negative : (r : ℤ × ℤ) (u : ℤ) → LiesIn r u → int_le (pos 0) r.0 ≡ true → int_le (pos 0) u ≡ true
  never_negative r u l e = le_test (pos 0) u (le_trans (pos 0) r.0 u (le_fact (pos 0) r.0 e) l.low)

  -- ---- operators

  pub shl_fits : (f g : Form) (r s : ℤ × ℤ) → Fits f → Fits (form_by Shl t f r g s)
  shl_fits f g r s h = left_fits f (amount_in t s) s (amount_is s) h

  pub shl_says : (n : Numbers) (f g : Form) (r s : ℤ × ℤ) (u v z : ℤ) → Fits f → Says n u f → LiesIn s v
      → arith_of Shl t u v ≡ Ok z → Says n z (form_by Shl t f r g s)
  shl_says n f g r s u v z h i l e = left_says n f (amount_in t s) s u v z (amount_is s) h i l e

  pub shr_fits : (f g : Form) (r s : ℤ × ℤ) → Fits f → Fits (form_by Shr t f r g s)
  shr_fits f g r s h = by (int_le (pos 0) r.0)
    where
      by : (b : Bool) → Fits (cond b (right_shift f (amount_in t s)) None)
      by true = right_fits f (amount_in t s) s (amount_is s) h
      by false = tt

  pub shr_says : (n : Numbers) (f g : Form) (r s : ℤ × ℤ) (u v z : ℤ) → Fits f → Says n u f → LiesIn r u → LiesIn s v
      → InRange t u → arith_of Shr t u v ≡ Ok z → Says n z (form_by Shr t f r g s)
  shr_says n f g r s u v z h i k l q e = by (int_le (pos 0) r.0) refl
    where
      by : (b : Bool) → int_le (pos 0) r.0 ≡ b → Says n z (cond b (right_shift f (amount_in t s)) None)
      by true p = right_says n f (amount_in t s) s u v z (amount_is s) h i l q (never_negative r u k p) e
      by false p = tt

  -- of two operands of the type
  pub both_fit : (o : BinOp) (f g : Form) (r s : ℤ × ℤ) → Fits f → Fits g → Fits (form_by o t f r g s)
  both_fit Add f g r s h i = disjoint_fits f g h i
  both_fit Sub f g r s h i = tt
  both_fit Mul f g r s h i = tt
  both_fit Div f g r s h i = tt
  both_fit Rem f g r s h i = tt
  both_fit And f g r s h i = and_fits f g r s h i
  both_fit Or f g r s h i = disjoint_fits f g h i
  both_fit Xor f g r s h i = disjoint_fits f g h i
  both_fit Shl f g r s h i = shl_fits f g r s h
  both_fit Shr f g r s h i = shr_fits f g r s h

  pub both_say : (o : BinOp) (n : Numbers) (f g : Form) (r s : ℤ × ℤ) (u v z : ℤ) → Fits f → Fits g → Says n u f
      → Says n v g
      → LiesIn r u → LiesIn s v → InRange t u → InRange t v → arith_of o t u v ≡ Ok z → Says n z (form_by o t f r g s)
  both_say Add n f g r s u v z hf hg i j k l p q e = disjoint_says n u v z f g (add_together n u v z p q e) hf hg i j
  both_say Sub n f g r s u v z hf hg i j k l p q e = tt
  both_say Mul n f g r s u v z hf hg i j k l p q e = tt
  both_say Div n f g r s u v z hf hg i j k l p q e = tt
  both_say Rem n f g r s u v z hf hg i j k l p q e = tt
  both_say And n f g r s u v z hf hg i j k l p q e = and_says n u v z e f g r s hf hg i j k l
  both_say Or n f g r s u v z hf hg i j k l p q e = disjoint_says n u v z f g (or_together n u v z e) hf hg i j
  both_say Xor n f g r s u v z hf hg i j k l p q e = disjoint_says n u v z f g (xor_together n u v z e) hf hg i j
  both_say Shl n f g r s u v z hf hg i j k l p q e = shl_says n f g r s u v z hf i l e
  both_say Shr n f g r s u v z hf hg i j k l p q e = shr_says n f g r s u v z hf i k l p e
