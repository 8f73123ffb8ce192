-- Bits that are few enough are those of a form: slices of forms, and forms one behind the other.
use Rattle.std.proofs.Common.{◌≡◌, ℕ, zero, suc, ◌+◌, ◌-◌, ◌/◌, ◌%◌, ◌^◌, ◌<◌, ◌≤◌, true, false, List, [], ◌∷◌, ◌++◌}
use Rattle.std.proofs.Common.{length, take, drop, ⊎_elim, Option, Some, None, refl, sym, ◌∙◌, ap, subst, arith}
use Rattle.std.specs.Option.{option_map_or}
use Rattle.std.proofs.lemmas.Bool.{or_cases, or_left, or_right}
use Rattle.ep_bitslice.specs.declared.cell.CellName.{CellName}
use Rattle.ep_bitslice.specs.declared.segment.Segment.{Segment}
use Rattle.ep_bitslice.specs.declared.segment.Segment.TheVariants.{Bits, Fixed}
use Rattle.ep_bitslice.specs.Bits.{Bit, fixed, cell_bit, Numbers, number_of_bits, part_of, is_bit_of, mentions}
use Rattle.ep_bitslice.specs.Segments.{fixed_bits, run_bits, segment_bits, bits, segment_width, width, number, joined}
use Rattle.ep_bitslice.specs.Segments.{put_before, bit_segment, normal, IsSegment, AreSegments, IsApart, AreApart}
use Rattle.ep_bitslice.specs.Segments.{IsForm}
use Rattle.ep_bitslice.proofs.Joining.{joined_below, segment-joined}
use Rattle.ep_bitslice.proofs.NormalForm.{form_is_normal, fewer_in_part}
use Rattle.ep_bitslice.proofs.Appending.{length-bits, bits-normal}
use Rattle.ep_bitslice.proofs.Parts.{part_length}
use Rattle.ep_bitslice.proofs.Operations.{number-part_of}
use Rattle.ep_bitslice.proofs.Numbers.{number-bits}

-- ---- bits that forms may have

-- each is one of the 64 lowest
abbrev pub FitsBit : Bit → Type 0
FitsBit (fixed b) = Unit {0}
FitsBit (cell_bit c k) = k < 64

abbrev pub AllFit : List Bit → Type 0
AllFit [] = Unit {0}
AllFit (b ∷ bs) = FitsBit b × AllFit bs

pub fit_append : (xs ys : List Bit) → AllFit xs → AllFit ys → AllFit (xs ++ ys)
fit_append [] ys p q = q
fit_append (x ∷ xs) ys p q = (p.0, fit_append xs ys p.1 q)

fit_take : (k : ℕ) (bs : List Bit) → AllFit bs → AllFit (take k bs)
fit_take zero bs h = tt
fit_take (suc k) [] h = tt
fit_take (suc k) (b ∷ bs) h = (h.0, fit_take k bs h.1)

fit_drop : (k : ℕ) (bs : List Bit) → AllFit bs → AllFit (drop k bs)
fit_drop zero bs h = h
fit_drop (suc k) [] h = tt
fit_drop (suc k) (b ∷ bs) h = fit_drop k bs h.1

fit_run : (c : CellName) (k n : ℕ) → k + n ≤ 64 → AllFit (run_bits c k n)
fit_run c k zero h = tt
fit_run c k (suc n) h = (omega arith, fit_run c (k + 1) n (omega arith))

fit_fixed : (w v : ℕ) → AllFit (fixed_bits w v)
fit_fixed zero v = tt
fit_fixed (suc w) v = (tt, fit_fixed w (v / 2))

fit_segment : (s : Segment) → IsSegment s → AllFit (segment_bits s)
fit_segment (Bits c from to) h = fit_run c from (to - from) (omega (arith, h.0, h.1))
fit_segment (Fixed v w) h = fit_fixed w v

pub bits_fit : (ss : List Segment) → AreSegments ss → AllFit (bits ss)
bits_fit [] h = tt
bits_fit (s ∷ ss) h = fit_append (segment_bits s) (bits ss) (fit_segment s h.0) (bits_fit ss h.1)

-- ---- their normal form

bit_is_segment : (b : Bit) → FitsBit b → IsSegment (bit_segment b)
bit_is_segment (fixed true) h = (omega arith, omega arith, omega arith)
bit_is_segment (fixed false) h = (omega arith, omega arith, omega arith)
bit_is_segment (cell_bit c k) h = (omega arith, omega arith)

bit_wide : (b : Bit) → segment_width (bit_segment b) ≡ 1
bit_wide (fixed b) = refl
bit_wide (cell_bit c k) = omega arith

segments_before : (s : Segment) (ss : List Segment) → IsSegment s → AreSegments ss → segment_width s + width ss ≤ 64
    → AreSegments (put_before s ss)
segments_before s [] p q h = (p, tt)
segments_before s (t ∷ ss) p q h = by (joined s t) refl
  where
    by : (o : Option Segment) → joined s t ≡ o → AreSegments (option_map_or (λ m. m ∷ ss) o (s ∷ t ∷ ss))
    by (Some m) e = (segment-joined s t m p q.0 (omega (arith, h)) e, q.1)
    by None e = (p, q)

apart_joined : (s t m : Segment) (ss : List Segment) → joined s t ≡ Some m → IsApart t ss → IsApart m ss
apart_joined s t m [] e h = tt
apart_joined s t m (u ∷ ss) e h = joined_below s t u m e h

apart_before : (s : Segment) (ss : List Segment) → AreApart ss → AreApart (put_before s ss)
apart_before s [] h = (tt, tt)
apart_before s (t ∷ ss) h = by (joined s t) refl
  where
    by : (o : Option Segment) → joined s t ≡ o → AreApart (option_map_or (λ m. m ∷ ss) o (s ∷ t ∷ ss))
    by (Some m) e = (apart_joined s t m ss e h.0, h.1)
    by None e = (e, h)

pub width-normal : (bs : List Bit) → width (normal bs) ≡ length bs
width-normal bs = sym (length-bits (normal bs)) ∙ ap length (bits-normal bs)

segments-normal : (bs : List Bit) → AllFit bs → length bs ≤ 64 → AreSegments (normal bs)
segments-normal [] f h = tt
segments-normal (b ∷ bs) f h =
    let short : suc (length bs) ≤ 64 = h in
    segments_before (bit_segment b) (normal bs) (bit_is_segment b f.0) (segments-normal bs f.1 (omega arith))
    (omega (arith, bit_wide b, width-normal bs))

apart-normal : (bs : List Bit) → AreApart (normal bs)
apart-normal [] = tt
apart-normal (b ∷ bs) = apart_before (bit_segment b) (normal bs) (apart-normal bs)

pub normal_is_form : (bs : List Bit) → AllFit bs → length bs ≤ 64 → length (normal bs) ≤ 8 → IsForm (normal bs)
normal_is_form bs f h few = record {
  segments = segments-normal bs f h;
  apart = apart-normal bs;
  few = few;
  short = omega (arith, width-normal bs);
}

pub number-normal : (n : Numbers) (bs : List Bit) → AllFit bs → length bs ≤ 64
    → number n (normal bs) ≡ number_of_bits n bs
number-normal n bs f h = number-bits n (normal bs) (segments-normal bs f h) ∙ ap (number_of_bits n) (bits-normal bs)

-- ---- slices

mentions_take : (c : CellName) (k : ℕ) (bs : List Bit) → mentions c (take k bs) ≡ true → mentions c bs ≡ true
mentions_take c zero bs h = absurd (let e : false ≡ true = h in cc)
mentions_take c (suc k) [] h = h
mentions_take c (suc k) (b ∷ bs) h =
    ⊎_elim
    (λ here. or_left (is_bit_of c b) (mentions c bs) here)
    (λ there. or_right (is_bit_of c b) (mentions c bs) (mentions_take c k bs there))
    (or_cases (is_bit_of c b) (mentions c (take k bs)) h)

mentions_drop : (c : CellName) (k : ℕ) (bs : List Bit) → mentions c (drop k bs) ≡ true → mentions c bs ≡ true
mentions_drop c zero bs h = h
mentions_drop c (suc k) [] h = h
mentions_drop c (suc k) (b ∷ bs) h = or_right (is_bit_of c b) (mentions c bs) (mentions_drop c k bs h)

mentions_part : (c : CellName) (i j : ℕ) (bs : List Bit) → mentions c (part_of i j bs) ≡ true
    → mentions c bs ≡ true
mentions_part c i j bs h = mentions_drop c i bs (mentions_take c (j - i) (drop i bs) h)

-- bits i to before j of a form, which has so many
pub record IsSlice (ss : List Segment) (i j : ℕ) : Type 0 where
  pub form : IsForm (normal (part_of i j (bits ss)))
  pub wide : width (normal (part_of i j (bits ss))) ≡ j - i
  pub numbers : (n : Numbers) → number n (normal (part_of i j (bits ss))) ≡ number n ss / 2 ^ i % 2 ^ (j - i)
  pub mentioned : (c : CellName) → mentions c (bits (normal (part_of i j (bits ss)))) ≡ true
      → mentions c (bits ss) ≡ true

pub slice_is : (ss : List Segment) (i j : ℕ) → IsForm ss → i ≤ j → j ≤ width ss → IsSlice ss i j
slice_is ss i j f p q =
    let bs = bits ss in
    let long : length (part_of i j bs) ≡ j - i = part_length i j bs p (omega (arith, q, length-bits ss)) in
    let fit : AllFit (part_of i j bs) = fit_take (j - i) (drop i bs) (fit_drop i bs (bits_fit ss f.segments)) in
    let short : length (part_of i j bs) ≤ 64 = omega (arith, long, q, f.short) in
    record {
      form = normal_is_form (part_of i j bs) fit short (omega (
        arith,
        fewer_in_part i j bs,
        ap length (form_is_normal ss f),
        f.few,
      ));
      wide = width-normal (part_of i j bs) ∙ long;
      numbers = λ n. number-normal n (part_of i j bs) fit short
          ∙ number-part_of n i j bs p (omega (arith, q, length-bits ss))
          ∙ ap (λ x. x / 2 ^ i % 2 ^ (j - i)) (sym (number-bits n ss f.segments));
      mentioned = λ c h. mentions_part c i j bs (subst (λ x. mentions c x ≡ true) (bits-normal (part_of i j bs)) h);
    }
