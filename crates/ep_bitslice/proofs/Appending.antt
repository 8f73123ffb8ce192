-- A form with one segment more.
use Rattle.std.proofs.Common.{◌≡◌, ℕ, zero, suc, ◌+◌, ◌-◌, ◌<◌, ◌≤◌, Bool, true, false, nat_le, cond, List, [], ◌∷◌}
use Rattle.ep_bitslice.proofs.NormalForm.{append_nothing}
use Rattle.std.proofs.Common.{◌++◌, length, Option, Some, None, sym, refl, ap, ◌∙◌, arith, append_assoc}
use Rattle.std.proofs.Common.{length-append}
use Rattle.std.specs.Option.{option_map_or}
use Rattle.ep_bitslice.specs.declared.segment.Segment.{Segment}
use Rattle.ep_bitslice.specs.Bits.{Bit, fixed, cell_bit}
use Rattle.ep_bitslice.specs.Segments.{segment_bits, bits, segment_width, width, joined, put_before, bit_segment}
use Rattle.ep_bitslice.specs.Segments.{normal, form_of, IsSegment, AreSegments, IsApart, AreApart, IsForm, IsAppended}
use Rattle.ep_bitslice.specs.Segments.{TooMany}
use Rattle.ep_bitslice.proofs.Joining.{joined_above, IsShape, shape, shape-joined, bits-joined, segment-joined}
use Rattle.ep_bitslice.proofs.Joining.{length-segment_bits}
use Rattle.ep_bitslice.proofs.NormalForm.{put_after, form_is_normal, normal-append, fewer_in_front}

-- ---- widths

pub length-bits : (ss : List Segment) → length (bits ss) ≡ width ss
length-bits [] = refl
length-bits (s ∷ ss) = length-append (segment_bits s) (bits ss) ∙ ap (λ n. n + length (bits ss)) (length-segment_bits s) ∙ ap (λ n. segment_width s + n) (length-bits ss)

-- ---- the bits of the last two, joined or not

abbrev last_by : Option Segment → Segment → Segment → List Segment
last_by o t s = option_map_or (λ m. m ∷ []) o (t ∷ s ∷ [])

last_bits : (t s : Segment) → IsSegment t → IsSegment s → bits (put_after (t ∷ []) s) ≡ segment_bits t ++ (segment_bits s ++ [])
last_bits t s p q = by (joined t s) refl
  where
    by : (o : Option Segment) → joined t s ≡ o → bits (last_by o t s) ≡ segment_bits t ++ (segment_bits s ++ [])
    by (Some m) h = ap (λ bs. bs ++ []) (bits-joined t s m (shape t p) (shape s q) h) ∙ append_assoc (segment_bits t) (segment_bits s) []
    by None h = refl

pub bits-put_after : (ss : List Segment) (s : Segment) → AreSegments ss → IsSegment s → bits (put_after ss s) ≡ bits ss ++ segment_bits s
bits-put_after [] s p q = append_nothing (segment_bits s)
bits-put_after (t ∷ []) s p q =
    last_bits t s p.0 q ∙ ap (λ bs. segment_bits t ++ bs) (append_nothing (segment_bits s))
    ∙ ap (λ bs. bs ++ segment_bits s) (sym (append_nothing (segment_bits t)))
bits-put_after (t ∷ u ∷ ss) s p q =
    ap (λ bs. segment_bits t ++ bs) (bits-put_after (u ∷ ss) s p.1 q) ∙ sym (append_assoc (segment_bits t) (bits (u ∷ ss)) (segment_bits s))

-- ---- still in normal form

segments-put_after : (ss : List Segment) (s : Segment) → AreSegments ss → IsSegment s → width ss + segment_width s ≤ 64 → AreSegments (put_after ss s)
segments-put_after [] s p q b = (q, tt)
segments-put_after (t ∷ []) s p q b = by (joined t s) refl
  where
    by : (o : Option Segment) → joined t s ≡ o → AreSegments (last_by o t s)
    by (Some m) h = (segment-joined t s m p.0 q (omega arith) h, tt)
    by None h = (p.0, (q, tt))
segments-put_after (t ∷ u ∷ ss) s p q b = (p.0, segments-put_after (u ∷ ss) s p.1 q (omega arith))

apart_before : (r t s : Segment) → joined r t ≡ None → IsApart r (put_after (t ∷ []) s)
apart_before r t s h = by (joined t s) refl
  where
    by : (o : Option Segment) → joined t s ≡ o → IsApart r (last_by o t s)
    by (Some m) k = joined_above r t s m h k
    by None k = h

apart-put_after : (ss : List Segment) (s : Segment) → AreApart ss → AreApart (put_after ss s)
apart-put_after [] s h = (tt, tt)
apart-put_after (t ∷ []) s h = by (joined t s) refl
  where
    by : (o : Option Segment) → joined t s ≡ o → AreApart (last_by o t s)
    by (Some m) k = (tt, tt)
    by None k = (k, (tt, tt))
apart-put_after (t ∷ u ∷ []) s h = (apart_before t u s h.0, apart-put_after (u ∷ []) s h.1)
apart-put_after (t ∷ u ∷ v ∷ ss) s h = (h.0, apart-put_after (u ∷ v ∷ ss) s h.1)

pub width-put_after : (ss : List Segment) (s : Segment) → AreSegments ss → IsSegment s → width (put_after ss s) ≡ width ss + segment_width s
width-put_after ss s p q =
    sym (length-bits (put_after ss s)) ∙ ap length (bits-put_after ss s p q) ∙ length-append (bits ss) (segment_bits s)
    ∙ ap (λ n. n + length (segment_bits s)) (length-bits ss) ∙ ap (λ n. width ss + n) (length-segment_bits s)

-- A segment more, where there is room.
pub appended : (ss : List Segment) (s : Segment) → IsForm ss → IsSegment s → width ss + segment_width s ≤ 64 → length (put_after ss s) ≤ 8 → IsAppended ss (segment_bits s) (put_after ss s)
appended ss s f q b room = record {
  form = record {
    segments = segments-put_after ss s f.segments q b;
    apart = apart-put_after ss s f.apart;
    few = room;
    short = omega (arith, width-put_after ss s f.segments q);
  };
  bits_are = bits-put_after ss s f.segments q;
}

-- No form has these bits, where there is no room.
pub full : (ss : List Segment) (s : Segment) → IsForm ss → IsSegment s → 8 < length (put_after ss s) → TooMany (bits ss ++ segment_bits s)
full ss s f q h =
    omega (arith, h, ap length (normal-append (bits ss) s q), ap (λ xs. length (put_after xs s)) (form_is_normal ss f))

-- ---- the results of a call

-- bits that need too many segments still do with others above them
pub full_with : (bs cs : List Bit) → TooMany bs → TooMany (bs ++ cs)
full_with bs cs h = omega (arith, fewer_in_front bs cs)

pub form_of-bits : (bs : List Bit) (f : List Segment) → IsForm f → bits f ≡ bs → form_of bs ≡ Some f
form_of-bits bs f p h =
    let e : normal bs ≡ f = ap normal (sym h) ∙ form_is_normal f p in
    let k : length f ≤ 8 = p.few in
    rw e (by (nat_le (length f) 8) (decided (length f) k))
  where
    decided : (n : ℕ) → n ≤ 8 → nat_le n 8 ≡ true
    decided n h = search arith

    by : (b : Bool) → b ≡ true → cond b (Some f) None ≡ Some f
    by true h = refl
    by false h = absurd (cc)

pub form_of-too_many : (bs : List Bit) → TooMany bs → form_of bs ≡ None
form_of-too_many bs h = by (nat_le (length (normal bs)) 8) (decided (length (normal bs)) h)
  where
    decided : (n : ℕ) → 8 < n → nat_le n 8 ≡ false
    decided n h = search arith

    by : (b : Bool) → b ≡ false → cond b (Some (normal bs)) None ≡ None
    by true h = absurd (cc)
    by false h = refl

-- ---- the normal form has the bits

abbrev AreShapes : List Segment → Type 0
AreShapes [] = Unit {0}
AreShapes (s ∷ ss) = IsShape s × AreShapes ss

shapes_before : (s : Segment) (ss : List Segment) → IsShape s → AreShapes ss → AreShapes (put_before s ss)
shapes_before s [] p q = (p, tt)
shapes_before s (t ∷ ss) p q = by (joined s t) refl
  where
    by : (o : Option Segment) → joined s t ≡ o → AreShapes (option_map_or (λ m. m ∷ ss) o (s ∷ t ∷ ss))
    by (Some m) h = (shape-joined s t m p q.0 h, q.1)
    by None h = (p, q)

bit_shape : (b : Bit) → IsShape (bit_segment b)
bit_shape (fixed true) = omega arith
bit_shape (fixed false) = omega arith
bit_shape (cell_bit c k) = omega arith

shapes_normal : (bs : List Bit) → AreShapes (normal bs)
shapes_normal [] = tt
shapes_normal (b ∷ bs) = shapes_before (bit_segment b) (normal bs) (bit_shape b) (shapes_normal bs)

bits_before : (s : Segment) (ss : List Segment) → IsShape s → AreShapes ss → bits (put_before s ss) ≡ segment_bits s ++ bits ss
bits_before s [] p q = refl
bits_before s (t ∷ ss) p q = by (joined s t) refl
  where
    by : (o : Option Segment) → joined s t ≡ o → bits (option_map_or (λ m. m ∷ ss) o (s ∷ t ∷ ss)) ≡ segment_bits s ++ bits (t ∷ ss)
    by (Some m) h = ap (λ bs. bs ++ bits ss) (bits-joined s t m p q.0 h) ∙ append_assoc (segment_bits s) (segment_bits t) (bits ss)
    by None h = refl

bits_of_bit : (b : Bit) → segment_bits (bit_segment b) ≡ b ∷ []
bits_of_bit (fixed true) = refl
bits_of_bit (fixed false) = refl
bits_of_bit (cell_bit c k) =
    let e : k + 1 - k ≡ suc zero = omega arith in
    rw e refl

-- The segments of bits have these bits.
pub bits-normal : (bs : List Bit) → bits (normal bs) ≡ bs
bits-normal [] = refl
bits-normal (b ∷ bs) =
    bits_before (bit_segment b) (normal bs) (bit_shape b) (shapes_normal bs)
    ∙ ap (λ xs. xs ++ bits (normal bs)) (bits_of_bit b) ∙ ap (λ xs. b ∷ xs) (bits-normal bs)
