-- The normal form of bits: made from either end, of no more segments than a longer one, and the only one.
use Rattle.std.proofs.Common.{◌≡◌, ℕ, zero, suc, ◌+◌, ◌-◌, ◌*◌, ◌/◌, ◌%◌, ◌^◌, ◌<◌, ◌≤◌, cond, List, [], ◌∷◌}
use Rattle.ep_int.proofs.Basics.{nat_eq-self}
use Rattle.ep_bitslice.proofs.Numbers.{digit_is}
use Rattle.std.proofs.Common.{◌++◌, length, take, drop, Option, Some, None, sym, refl, ap, ◌∙◌, arith, append_assoc}
use Rattle.std.proofs.lemmas.List.{take-append-drop}
use Rattle.std.proofs.Math.Nat.{pow-suc}
use Rattle.std.specs.Option.{option_map_or}
use Rattle.ep_bitslice.specs.declared.cell.CellName.{CellName}
use Rattle.ep_bitslice.specs.declared.segment.Segment.{Segment}
use Rattle.ep_bitslice.specs.declared.segment.Segment.TheVariants.{Bits, Fixed}
use Rattle.ep_bitslice.specs.Bits.{Bit, is_odd, part_of}
use Rattle.ep_bitslice.specs.Segments.{fixed_bits, run_bits, segment_bits, bits, joined, put_before, bit_segment}
use Rattle.ep_bitslice.specs.Segments.{normal, IsSegment, AreSegments, IsApart, AreApart, IsForm}
use Rattle.ep_bitslice.proofs.Joining.{joined_both, joined_below, joined_above, cell_itself}

-- one segment more, above
abbrev pub put_after : List Segment → Segment → List Segment
put_after [] s = s ∷ []
put_after (t ∷ []) s = option_map_or (λ m. m ∷ []) (joined t s) (t ∷ s ∷ [])
put_after (t ∷ u ∷ ss) s = t ∷ put_after (u ∷ ss) s

-- what becomes of the first segment where it joins the one before it, and where it doesn't
abbrev before_by : Option Segment → Segment → Segment → List Segment → List Segment
before_by o s t ss = option_map_or (λ m. m ∷ ss) o (s ∷ t ∷ ss)

before_some : (s t st : Segment) (ss : List Segment) → joined s t ≡ Some st → put_before s (t ∷ ss) ≡ st ∷ ss
before_some s t st ss h = ap (λ o. before_by o s t ss) h

before_none : (s t : Segment) (ss : List Segment) → joined s t ≡ None → put_before s (t ∷ ss) ≡ s ∷ t ∷ ss
before_none s t ss h = ap (λ o. before_by o s t ss) h

-- Two segments that join may be joined first.
pub put_before-joined : (s t st : Segment) (ss : List Segment) → joined s t ≡ Some st → put_before s (put_before t ss) ≡ put_before st ss
put_before-joined s t st [] h = before_some s t st [] h
put_before-joined s t st (u ∷ ss) h = by (joined t u) refl
  where
    by : (o : Option Segment) → joined t u ≡ o → put_before s (put_before t (u ∷ ss)) ≡ put_before st (u ∷ ss)
    by (Some tu) k =
        let b = joined_both s t u st tu h k in
        ap (put_before s) (before_some t u tu ss k) ∙ before_some s tu b.whole ss b.low ∙ sym (before_some st u b.whole ss b.high)
    by None k =
        ap (put_before s) (before_none t u ss k) ∙ before_some s t st (u ∷ ss) h ∙ sym (before_none st u ss (joined_below s t u st h k))

-- ---- the normal form of a segment's bits, with others above them

fixed_first : (w v : ℕ) (bs : List Bit) → v < 2 ^ suc w → normal (fixed_bits (suc w) v ++ bs) ≡ put_before (Fixed v (suc w)) (normal bs)
fixed_first zero v bs h =
    let e : cond (is_odd v) 1 0 ≡ v = digit_is v ∙ omega (arith, h) in
    ap (λ n. put_before (Fixed n 1) (normal bs)) e
fixed_first (suc w) v bs h =
    let half : v / 2 < 2 ^ suc w = omega (arith, pow-suc 2 (suc w)) in
    let e : cond (is_odd v) 1 0 + v / 2 * 2 ^ 1 ≡ v = omega (arith, digit_is v) in
    let f : 1 + suc w ≡ suc (suc w) = omega arith in
    ap (put_before (Fixed (cond (is_odd v) 1 0) 1)) (fixed_first w (v / 2) bs half)
    ∙ put_before-joined (Fixed (cond (is_odd v) 1 0) 1) (Fixed (v / 2) (suc w)) _ (normal bs) refl
    ∙ ap (λ n. put_before (Fixed n (1 + suc w)) (normal bs)) e
    ∙ ap (λ n. put_before (Fixed v n) (normal bs)) f

run_first : (c : CellName) (k n : ℕ) (bs : List Bit) → normal (run_bits c k (suc n) ++ bs) ≡ put_before (Bits c k (k + suc n)) (normal bs)
run_first c k zero bs = refl
run_first c k (suc n) bs =
    let e : k + 1 + suc n ≡ k + suc (suc n) = omega arith in
    ap (put_before (Bits c k (k + 1))) (run_first c (k + 1) n bs)
    ∙ put_before-joined (Bits c k (k + 1)) (Bits c (k + 1) (k + 1 + suc n)) (Bits c k (k + 1 + suc n)) (normal bs) (rw (cell_itself c, nat_eq-self (k + 1)) refl)
    ∙ ap (λ m. put_before (Bits c k m) (normal bs)) e

fixed_any : (w v : ℕ) (bs : List Bit) → 0 < w → v < 2 ^ w → normal (fixed_bits w v ++ bs) ≡ put_before (Fixed v w) (normal bs)
fixed_any zero v bs p h = absurd (omega arith)
fixed_any (suc w) v bs p h = fixed_first w v bs h

run_any : (c : CellName) (k n : ℕ) (bs : List Bit) → 0 < n → normal (run_bits c k n ++ bs) ≡ put_before (Bits c k (k + n)) (normal bs)
run_any c k zero bs p = absurd (omega arith)
run_any c k (suc n) bs p = run_first c k n bs

pub normal-segment : (s : Segment) (bs : List Bit) → IsSegment s → normal (segment_bits s ++ bs) ≡ put_before s (normal bs)
normal-segment (Bits c f t) bs h =
    let e : f + (t - f) ≡ t = omega arith in
    run_any c f (t - f) bs (omega arith) ∙ ap (λ n. put_before (Bits c f n) (normal bs)) e
normal-segment (Fixed v w) bs h = fixed_any w v bs h.0 h.2

-- ---- a list in normal form is the normal form of its bits

before_apart : (s : Segment) (ss : List Segment) → IsApart s ss → put_before s ss ≡ s ∷ ss
before_apart s [] h = refl
before_apart s (t ∷ ss) h = before_none s t ss h

pub normal-bits : (ss : List Segment) → AreSegments ss → AreApart ss → normal (bits ss) ≡ ss
normal-bits [] p h = refl
normal-bits (s ∷ ss) p h =
    normal-segment s (bits ss) p.0 ∙ ap (put_before s) (normal-bits ss p.1 h.1) ∙ before_apart s ss h.0

pub form_is_normal : (ss : List Segment) → IsForm ss → normal (bits ss) ≡ ss
form_is_normal ss h = normal-bits ss h.segments h.apart

-- Forms of the same bits are the same list.
pub same_form : (xs ys : List Segment) → IsForm xs → IsForm ys → bits xs ≡ bits ys → xs ≡ ys
same_form xs ys p q h = sym (form_is_normal xs p) ∙ ap normal h ∙ form_is_normal ys q

-- ---- one segment more, from above

put_before-after : (b s : Segment) (ss : List Segment) → put_before b (put_after ss s) ≡ put_after (put_before b ss) s
put_before-after b s [] = refl
put_before-after b s (t ∷ []) = by (joined b t) (joined t s) refl refl
  where
    after_some : (t s ts : Segment) → joined t s ≡ Some ts → put_after (t ∷ []) s ≡ ts ∷ []
    after_some t s ts h = ap (λ o. option_map_or (λ m. m ∷ []) o (t ∷ s ∷ [])) h

    after_none : (t s : Segment) → joined t s ≡ None → put_after (t ∷ []) s ≡ t ∷ s ∷ []
    after_none t s h = ap (λ o. option_map_or (λ m. m ∷ []) o (t ∷ s ∷ [])) h

    by : (o p : Option Segment) → joined b t ≡ o → joined t s ≡ p → put_before b (put_after (t ∷ []) s) ≡ put_after (put_before b (t ∷ [])) s
    by (Some bt) (Some ts) h k =
        let w = joined_both b t s bt ts h k in
        ap (put_before b) (after_some t s ts k) ∙ before_some b ts w.whole [] w.low
        ∙ sym (ap (λ xs. put_after xs s) (before_some b t bt [] h) ∙ after_some bt s w.whole w.high)
    by (Some bt) None h k =
        ap (put_before b) (after_none t s k) ∙ before_some b t bt (s ∷ []) h
        ∙ sym (ap (λ xs. put_after xs s) (before_some b t bt [] h) ∙ after_none bt s (joined_below b t s bt h k))
    by None (Some ts) h k =
        ap (put_before b) (after_some t s ts k) ∙ before_none b ts [] (joined_above b t s ts h k)
        ∙ sym (ap (λ xs. put_after xs s) (before_none b t [] h) ∙ ap (λ xs. b ∷ xs) (after_some t s ts k))
    by None None h k =
        ap (put_before b) (after_none t s k) ∙ before_none b t (s ∷ []) h
        ∙ sym (ap (λ xs. put_after xs s) (before_none b t [] h) ∙ ap (λ xs. b ∷ xs) (after_none t s k))
put_before-after b s (t ∷ u ∷ ss) = by (joined b t) refl
  where
    by : (o : Option Segment) → joined b t ≡ o → put_before b (put_after (t ∷ u ∷ ss) s) ≡ put_after (put_before b (t ∷ u ∷ ss)) s
    by (Some bt) h = before_some b t bt (put_after (u ∷ ss) s) h ∙ sym (ap (λ xs. put_after xs s) (before_some b t bt (u ∷ ss) h))
    by None h = before_none b t (put_after (u ∷ ss) s) h ∙ sym (ap (λ xs. put_after xs s) (before_none b t (u ∷ ss) h))

pub append_nothing : (bs : List Bit) → bs ++ [] ≡ bs
append_nothing [] = refl
append_nothing (b ∷ bs) = ap (λ xs. b ∷ xs) (append_nothing bs)

pub normal-append : (bs : List Bit) (s : Segment) → IsSegment s → normal (bs ++ segment_bits s) ≡ put_after (normal bs) s
normal-append [] s h = ap normal (sym (append_nothing (segment_bits s))) ∙ normal-segment s [] h
normal-append (b ∷ bs) s h =
    ap (put_before (bit_segment b)) (normal-append bs s h) ∙ put_before-after (bit_segment b) s (normal bs)

normal-push : (bs : List Bit) (b : Bit) → normal (bs ++ b ∷ []) ≡ put_after (normal bs) (bit_segment b)
normal-push [] b = refl
normal-push (c ∷ bs) b =
    ap (put_before (bit_segment c)) (normal-push bs b) ∙ put_before-after (bit_segment c) (bit_segment b) (normal bs)

-- ---- how many segments

le_before : (s : Segment) (ss : List Segment) → length ss ≤ length (put_before s ss)
le_before s [] = omega arith
le_before s (t ∷ ss) = by (joined s t)
  where
    by : (o : Option Segment) → length (t ∷ ss) ≤ length (before_by o s t ss)
    by (Some m) = omega arith
    by None = omega arith

le_after : (s : Segment) (ss : List Segment) → length ss ≤ length (put_after ss s)
le_after s [] = omega arith
le_after s (t ∷ []) = by (joined t s)
  where
    by : (o : Option Segment) → 1 ≤ length (option_map_or (λ m. m ∷ []) o (t ∷ s ∷ []))
    by (Some m) = omega arith
    by None = omega arith
le_after s (t ∷ u ∷ ss) = omega (arith, le_after s (u ∷ ss))

pub after_le : (s : Segment) (ss : List Segment) → length (put_after ss s) ≤ length ss + 1
after_le s [] = omega arith
after_le s (t ∷ []) = by (joined t s)
  where
    by : (o : Option Segment) → length (option_map_or (λ m. m ∷ []) o (t ∷ s ∷ [])) ≤ 2
    by (Some m) = omega arith
    by None = omega arith
after_le s (t ∷ u ∷ ss) = omega (arith, after_le s (u ∷ ss))

pub fewer_in_front : (bs cs : List Bit) → length (normal bs) ≤ length (normal (bs ++ cs))
fewer_in_front bs [] = rw (append_nothing bs) (omega arith)
fewer_in_front bs (c ∷ cs) =
    let one : length (normal bs) ≤ length (normal (bs ++ c ∷ [])) = rw (normal-push bs c) (le_after (bit_segment c) (normal bs)) in
    let more : length (normal (bs ++ c ∷ [])) ≤ length (normal ((bs ++ c ∷ []) ++ cs)) = fewer_in_front (bs ++ c ∷ []) cs in
    let e : (bs ++ c ∷ []) ++ cs ≡ bs ++ c ∷ cs = append_assoc bs (c ∷ []) cs in
    omega (arith, one, more, ap (λ xs. length (normal xs)) e)

pub fewer_behind : (bs cs : List Bit) → length (normal cs) ≤ length (normal (bs ++ cs))
fewer_behind [] cs = omega arith
fewer_behind (b ∷ bs) cs = omega (arith, fewer_behind bs cs, le_before (bit_segment b) (normal (bs ++ cs)))

-- A part needs no more segments than the whole.
pub fewer_in_part : (from to : ℕ) (bs : List Bit) → length (normal (part_of from to bs)) ≤ length (normal bs)
fewer_in_part from to bs =
    let rest = drop from bs in
    let a = fewer_in_front (take (to - from) rest) (drop (to - from) rest) in
    let b = fewer_behind (take from bs) rest in
    omega (arith, a, b, ap (λ xs. length (normal xs)) (take-append-drop (to - from) rest), ap (λ xs. length (normal xs)) (take-append-drop from bs))
