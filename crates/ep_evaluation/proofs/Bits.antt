-- Bits of which each is known or that of a sure cell, and the forms that they make.
use Rattle.std.proofs.Common.{◌≡◌, ℕ, zero, suc, ◌+◌, ◌-◌, ◌/◌, ◌%◌, ◌^◌, ◌<◌, ◌≤◌, ℤ, Bool, true, false, cond, List}
use Rattle.std.proofs.Common.{[], ◌∷◌, ◌++◌, length, take, drop, ⊎_elim, Some, None, IfSome, refl, sym, ap, ◌∙◌}
use Rattle.std.proofs.Common.{subst, arith}
use Rattle.std.specs.Prelude.{nat_le}
use Rattle.std.proofs.lemmas.Bool.{or_left, or_right, or_cases, leb-true}
use Rattle.ep_int.specs.declared.types.IntType.{IntType}
use Rattle.ep_int.specs.declared.types.Scalar.TheVariants.{Int}
use Rattle.ep_int.specs.Memory.{int}
use Rattle.ep_int.specs.Types.{bits_of, residue}
use Rattle.ep_bitslice.specs.declared.cell.CellName.{CellName}
use Rattle.ep_bitslice.specs.declared.segment.Segment.{Segment}
use Rattle.ep_bitslice.specs.Bits.{Bit, fixed, cell_bit, Numbers, number_of_bits, zeros, masked, is_zero, either_of}
use Rattle.ep_bitslice.specs.Bits.{is_same_cell, is_bit_of, mentions, is_odd}
use Rattle.ep_bitslice.specs.Segments.{bits, number, normal, form_of}
use Rattle.ep_bitslice.proofs.Appending.{length-bits, bits-normal}
use Rattle.ep_bitslice.proofs.Joining.{same_cell, cell_itself}
use Rattle.ep_bitslice.proofs.Numbers.{number-bits, number_below}
use Rattle.ep_cells.specs.declared.cell.Cell.{Cell}
use Rattle.ep_cells.specs.States.{IsThere}
use Rattle.ep_reads.specs.Laws.{IsFormRead}
use Rattle.ep_reads.proofs.Slices.{AllFit, bits_fit, normal_is_form, number-normal, width-normal}
use Rattle.ep_reads.proofs.Numbers.{at_most_eight}
use Rattle.ep_equalities.specs.Pairs.{HasFormNumber}

module _ {N : Type 0} (cs : List (Cell N)) where
  -- a known bit, or one of a sure cell among these
  abbrev pub IsGood : Bit → Type 0
  IsGood (fixed b) = Unit {0}
  IsGood (cell_bit c k) = (k < 64) × IsThere c cs

  abbrev pub AllGood : List Bit → Type 0
  AllGood [] = Unit {0}
  AllGood (b ∷ bs) = IsGood b × AllGood bs

  pub good_append : (xs ys : List Bit) → AllGood xs → AllGood ys → AllGood (xs ++ ys)
  good_append [] ys p q = q
  good_append (x ∷ xs) ys p q = (p.0, good_append xs ys p.1 q)

  pub good_take : (k : ℕ) (bs : List Bit) → AllGood bs → AllGood (take k bs)
  good_take zero bs h = tt
  good_take (suc k) [] h = tt
  good_take (suc k) (b ∷ bs) h = (h.0, good_take k bs h.1)

  pub good_drop : (k : ℕ) (bs : List Bit) → AllGood bs → AllGood (drop k bs)
  good_drop zero bs h = h
  good_drop (suc k) [] h = tt
  good_drop (suc k) (b ∷ bs) h = good_drop k bs h.1

  pub good_zeros : (k : ℕ) → AllGood (zeros k)
  good_zeros zero = tt
  good_zeros (suc k) = (tt, good_zeros k)

  pub good_masked : (m : ℕ) (bs : List Bit) → AllGood bs → AllGood (masked m bs)
  good_masked m [] h = tt
  good_masked m (b ∷ bs) h = (by (is_odd m), good_masked (m / 2) bs h.1)
    where
      by : (t : Bool) → IsGood (cond t b (fixed false))
      by true = h.0
      by false = tt

  pub good_either : (xs ys : List Bit) → AllGood xs → AllGood ys → AllGood (either_of xs ys)
  good_either [] ys p q = tt
  good_either (x ∷ xs) [] p q = tt
  good_either (x ∷ xs) (y ∷ ys) p q = (by (is_zero x), good_either xs ys p.1 q.1)
    where
      by : (t : Bool) → IsGood (cond t y x)
      by true = q.0
      by false = p.0

  -- ---- the bits of a form, and the form of bits

  good_bit : (b : Bit) (bs : List Bit) → AllFit (b ∷ bs) → ((c : CellName) → mentions c (b ∷ bs) ≡ true → IsThere c cs)
      → IsGood b
  good_bit (fixed v) bs f h = tt
  good_bit (cell_bit c k) bs f h = (f.0, h c (or_left (is_same_cell c c) (mentions c bs) (cell_itself c)))

  good_bits : (bs : List Bit) → AllFit bs → ((c : CellName) → mentions c bs ≡ true → IsThere c cs) → AllGood bs
  good_bits [] f h = tt
  good_bits (b ∷ bs) f h =
      (good_bit b bs f h, good_bits bs f.1 (λ c e. h c (or_right (is_bit_of c b) (mentions c bs) e)))

  pub good_form : (t : IntType) (f : List Segment) → IsFormRead cs (Int t) false f → AllGood (bits f)
  good_form t f h = good_bits (bits f) (bits_fit f h.form.segments) h.mentioned

  pub form_length : (t : IntType) (f : List Segment) → IsFormRead cs (Int t) false f → length (bits f) ≡ bits_of t
  form_length t f h = length-bits f ∙ sym h.wide

  pub good_fit : (bs : List Bit) → AllGood bs → AllFit bs
  good_fit [] h = tt
  good_fit (fixed v ∷ bs) h = (tt, good_fit bs h.1)
  good_fit (cell_bit c k ∷ bs) h = (h.0.0, good_fit bs h.1)

  there_bit : (c : CellName) (b : Bit) → IsGood b → is_bit_of c b ≡ true → IsThere c cs
  there_bit c (fixed v) h e = absurd (let q : false ≡ true = e in cc)
  there_bit c (cell_bit d k) h e = subst (λ n. IsThere n cs) (same_cell d c e) h.1

  good_there : (bs : List Bit) → AllGood bs → (c : CellName) → mentions c bs ≡ true → IsThere c cs
  good_there [] h c e = absurd (let q : false ≡ true = e in cc)
  good_there (b ∷ bs) h c e =
      ⊎_elim (λ here. there_bit c b h.0 here) (λ there. good_there bs h.1 c there)
      (or_cases (is_bit_of c b) (mentions c bs) e)

  -- so many bits of an integer
  pub few_bits : (t : IntType) (bs : List Bit) → length bs ≡ bits_of t → length bs ≤ 64
  few_bits t bs l = omega (arith, l, at_most_eight t)

  pub normal_fits : (t : IntType) (bs : List Bit) → AllGood bs → length bs ≡ bits_of t → length (normal bs) ≤ 8
      → IsFormRead cs (Int t) false (normal bs)
  normal_fits t bs g l few = record {
    sure = refl;
    wide = sym (width-normal bs ∙ l);
    form = normal_is_form bs (good_fit bs g) (few_bits t bs l) few;
    mentioned = λ c e. good_there bs g c (subst (λ x. mentions c x ≡ true) (bits-normal bs) e);
  }

  pub bits_fit_form : (t : IntType) (bs : List Bit) → AllGood bs → length bs ≡ bits_of t
      → IfSome (form_of bs) (IsFormRead cs (Int t) false)
  bits_fit_form t bs g l = by (nat_le (length (normal bs)) 8) refl
    where
      by : (b : Bool) → nat_le (length (normal bs)) 8 ≡ b
          → IfSome (cond b (Some (normal bs)) None) (IsFormRead cs (Int t) false)
      by true e = normal_fits t bs g l (leb-true (length (normal bs)) 8 e)
      by false e = tt

  pub bits_say : (n : Numbers) (t : IntType) (z : ℤ) (bs : List Bit) → AllGood bs → length bs ≡ bits_of t
      → residue (2 ^ bits_of t) z ≡ number_of_bits n bs % 2 ^ bits_of t
      → IfSome (form_of bs) (HasFormNumber n (Int t) (int z))
  bits_say n t z bs g l e = by (nat_le (length (normal bs)) 8)
    where
      by : (b : Bool) → IfSome (cond b (Some (normal bs)) None) (HasFormNumber n (Int t) (int z))
      by true = e ∙ ap (λ x. x % 2 ^ bits_of t) (sym (number-normal n bs (good_fit bs g) (few_bits t bs l)))
      by false = tt

  -- a form's number is that of its bits, below 2 to the power of their number
  pub form_number : (n : Numbers) (t : IntType) (f : List Segment) → IsFormRead cs (Int t) false f
      → number n f ≡ number_of_bits n (bits f)
  form_number n t f h = number-bits n f h.form.segments

  pub form_below : (n : Numbers) (t : IntType) (f : List Segment) → IsFormRead cs (Int t) false f
      → number_of_bits n (bits f) < 2 ^ bits_of t
  form_below n t f h = subst (λ l. number_of_bits n (bits f) < 2 ^ l) (form_length t f h) (number_below n (bits f))
