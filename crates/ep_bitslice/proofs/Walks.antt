-- A walk over the segments of a form, and its last segment.
use Rattle.std.proofs.Common.{◌≡◌, ℕ, zero, suc, ◌+◌, ◌-◌, ◌^◌, ◌<◌, ◌≤◌, ℤ, unsigned_abs, false, List, [], ◌∷◌, ◌++◌}
use Rattle.std.proofs.Common.{length, get_or, drop, drop-cons, add-one, Some, None, sym, refl, ap, ◌∙◌, subst, arith}
use Rattle.std.proofs.Common.{append_assoc, length-append}
use Rattle.std.specs.Option.{option_map_or}
use Rattle.ep_int.specs.declared.types.IntType.{IntType}
use Rattle.ep_int.specs.declared.types.IntType.TheVariants.{I8, U8, I16, U16, I32, U32, I64, U64}
use Rattle.ep_int.specs.Types.{bits_of, is_signed, residue, representation, wrapped}
use Rattle.ep_bitslice.specs.declared.segment.Segment.{Segment}
use Rattle.ep_bitslice.specs.Bits.{Bit}
use Rattle.ep_bitslice.specs.Segments.{segment_bits, bits, segment_width, width, joined, IsSegment, AreSegments}
use Rattle.ep_bitslice.specs.Segments.{IsForm, IsAppended, TooMany}
use Rattle.ep_bitslice.proofs.Joining.{length-segment_bits}
use Rattle.ep_bitslice.proofs.NormalForm.{put_after}
use Rattle.ep_bitslice.proofs.Appending.{appended, full}

-- ---- the segment at a place

pub segment_at : (ss : List Segment) (i : ℕ) (d : Segment) → AreSegments ss → i < length ss → IsSegment (get_or ss i d)
segment_at [] i d p h = absurd (omega arith)
segment_at (s ∷ ss) zero d p h = p.0
segment_at (s ∷ ss) (suc i) d p h = segment_at ss i d p.1 (omega arith)

pub drop_at : (ss : List Segment) (i : ℕ) (d : Segment) → i < length ss → drop i ss ≡ get_or ss i d ∷ drop (i + 1) ss
drop_at ss i d h = rw add-one (drop-cons ss i d h)

pub width_at : (ss : List Segment) (i : ℕ) (d : Segment) → i < length ss → width (drop i ss) ≡ segment_width (get_or ss i d) + width (drop (i + 1) ss)
width_at ss i d h = ap width (drop_at ss i d h)

pub bits_at : (ss : List Segment) (i : ℕ) (d : Segment) → i < length ss → bits (drop i ss) ≡ segment_bits (get_or ss i d) ++ bits (drop (i + 1) ss)
bits_at ss i d h = ap bits (drop_at ss i d h)

pub width_from : (ss : List Segment) (i : ℕ) → width (drop i ss) ≤ width ss
width_from [] zero = omega arith
width_from [] (suc i) = omega arith
width_from (s ∷ ss) zero = omega arith
width_from (s ∷ ss) (suc i) = omega (arith, width_from ss i)

pub width_there : (ss : List Segment) (i : ℕ) → 0 < width (drop i ss) → i < length ss
width_there [] zero h = absurd (omega arith)
width_there [] (suc i) h = absurd (omega arith)
width_there (s ∷ ss) zero h = omega arith
width_there (s ∷ ss) (suc i) h = omega (arith, width_there ss i h)

-- one segment more of a walk
pub width_step : (ss : List Segment) (i : ℕ) (d : Segment) (w done all : ℕ) → w ≡ segment_width (get_or ss i d) → i < length ss → done + width (drop i ss) ≡ all → done + w + width (drop (i + 1) ss) ≡ all
width_step ss i d w done all e h f = omega (arith, e, f, width_at ss i d h)

-- ---- lists of bits

pub drop-front : (xs ys : List Bit) (k : ℕ) → length xs ≤ k → drop k (xs ++ ys) ≡ drop (k - length xs) ys
drop-front [] ys k h = let e : k - 0 ≡ k = omega arith in rw e refl
drop-front (x ∷ xs) ys zero h = absurd (omega arith)
drop-front (x ∷ xs) ys (suc k) h =
    let e : suc k - suc (length xs) ≡ k - length xs = omega arith in
    rw e (drop-front xs ys k (omega arith))

pub drop-within : (xs ys : List Bit) (k : ℕ) → k ≤ length xs → drop k (xs ++ ys) ≡ drop k xs ++ ys
drop-within xs ys zero h = refl
drop-within [] ys (suc k) h = absurd (omega arith)
drop-within (x ∷ xs) ys (suc k) h = drop-within xs ys k (omega arith)

pub drop-drop : (bs : List Bit) (i k : ℕ) → drop k (drop i bs) ≡ drop (i + k) bs
drop-drop bs zero k = let e : 0 + k ≡ k = omega arith in rw e refl
drop-drop [] (suc i) zero = let e : suc i + 0 ≡ suc i = omega arith in rw e refl
drop-drop [] (suc i) (suc k) = let e : suc i + suc k ≡ suc (i + suc k) = omega arith in rw e refl
drop-drop (b ∷ bs) (suc i) k = let e : suc i + k ≡ suc (i + k) = omega arith in rw e (drop-drop bs i k)

-- what is left of a segment that has bit k, and the bits above it
pub rest_of : (s r : List Bit) (rest bs : List Bit) (k m : ℕ) → k ≤ length s → r ≡ drop k s → length r + k ≡ length s → drop k (s ++ rest) ≡ drop m bs → r ++ drop (m + length r) bs ≡ drop m bs
rest_of s r rest bs k m h e f g =
    let whole : r ++ rest ≡ drop m bs = ap (λ xs. xs ++ rest) e ∙ sym (drop-within s rest k h) ∙ g in
    let above : drop (m + length r) bs ≡ rest =
    sym (drop-drop bs m (length r)) ∙ ap (drop (length r)) (sym whole) ∙ drop-front r rest (length r) (omega arith) ∙ nothing r rest in
    ap (λ xs. r ++ xs) above ∙ whole
  where
    nothing : (r rest : List Bit) → drop (length r - length r) rest ≡ rest
    nothing r rest = let z : length r - length r ≡ 0 = omega arith in rw z refl

pub width_past : (ss : List Segment) (i : ℕ) (d : Segment) (w k : ℕ) → w ≡ segment_width (get_or ss i d) → i < length ss → w ≤ k → (k < width (drop i ss) → k - w < width (drop (i + 1) ss)) × (width (drop (i + 1) ss) + w ≡ width (drop i ss))
width_past ss i d w k e h f = let a = width_at ss i d h in (λ b. omega (arith, a, e, f, b), omega (arith, a, e))

pub bits_past : (ss : List Segment) (i : ℕ) (d : Segment) (w k m : ℕ) (bs : List Bit) → w ≡ segment_width (get_or ss i d) → i < length ss → w ≤ k → drop k (bits (drop i ss)) ≡ drop m bs → drop (k - w) (bits (drop (i + 1) ss)) ≡ drop m bs
bits_past ss i d w k m bs e h f g =
    let n : length (segment_bits (get_or ss i d)) ≡ w = length-segment_bits (get_or ss i d) ∙ sym e in
    ap (λ j. drop (k - j) (bits (drop (i + 1) ss))) (sym n) ∙ sym (drop-front (segment_bits (get_or ss i d)) (bits (drop (i + 1) ss)) k (omega (arith, n)))
    ∙ ap (drop k) (sym (bits_at ss i d h)) ∙ g

pub bits_rest : (ss : List Segment) (i : ℕ) (d r : Segment) (k m : ℕ) (bs : List Bit) → i < length ss → segment_bits r ≡ drop k (segment_bits (get_or ss i d)) → segment_width r + k ≡ segment_width (get_or ss i d) → drop k (bits (drop i ss)) ≡ drop m bs → segment_bits r ++ drop (m + segment_width r) bs ≡ drop m bs
bits_rest ss i d r k m bs h e w g =
    let s = get_or ss i d in
    let n : length (segment_bits (get_or ss i d)) ≡ segment_width (get_or ss i d) = length-segment_bits (get_or ss i d) in
    let l : length (segment_bits r) ≡ segment_width r = length-segment_bits r in
    ap (λ j. segment_bits r ++ drop (m + j) bs) (sym l)
    ∙ rest_of (segment_bits (get_or ss i d)) (segment_bits r) (bits (drop (i + 1) ss)) bs k m (omega (arith, n, w)) e (omega (arith, n, l, w)) (ap (drop k) (sym (bits_at ss i d h)) ∙ g)

-- ---- the last segment

pub last_put : (xs : List Segment) (t s : Segment) → put_after (xs ++ t ∷ []) s ≡ xs ++ option_map_or (λ m. m ∷ []) (joined t s) (t ∷ s ∷ [])
last_put [] t s = refl
last_put (x ∷ []) t s = refl
last_put (x ∷ y ∷ xs) t s = ap (λ zs. x ∷ zs) (last_put (y ∷ xs) t s)

last_some : (xs : List Segment) (t s m : Segment) → joined t s ≡ Some m → put_after (xs ++ t ∷ []) s ≡ xs ++ m ∷ []
last_some xs t s m h = last_put xs t s ∙ ap (λ o. xs ++ option_map_or (λ m. m ∷ []) o (t ∷ s ∷ [])) h

last_none : (xs : List Segment) (t s : Segment) → joined t s ≡ None → put_after (xs ++ t ∷ []) s ≡ (xs ++ t ∷ []) ++ s ∷ []
last_none xs t s h =
    last_put xs t s ∙ ap (λ o. xs ++ option_map_or (λ m. m ∷ []) o (t ∷ s ∷ [])) h
    ∙ sym (append_assoc xs (t ∷ []) (s ∷ []))

segments-append : (xs ys : List Segment) → AreSegments (xs ++ ys) → AreSegments ys
segments-append [] ys h = h
segments-append (x ∷ xs) ys h = segments-append xs ys h.1

width-append : (xs ys : List Segment) → width (xs ++ ys) ≡ width xs + width ys
width-append [] ys = omega arith
width-append (x ∷ xs) ys = omega (arith, width-append xs ys)

pub last_segment : (ss xs : List Segment) (t : Segment) → ss ≡ xs ++ t ∷ [] → IsForm ss → IsSegment t
last_segment ss xs t e f = (segments-append xs (t ∷ []) (subst AreSegments e f.segments)).0

pub last_width : (ss xs : List Segment) (t : Segment) → ss ≡ xs ++ t ∷ [] → segment_width t ≤ width ss
last_width ss xs t e = omega (arith, ap width e, width-append xs (t ∷ []))

pub pushed_first : (ss new : List Segment) (s : Segment) → ss ≡ [] → IsForm ss → IsSegment s → width ss + segment_width s ≤ 64 → new ≡ s ∷ [] → IsAppended ss (segment_bits s) new
pushed_first ss new s e f p b n =
    let h : put_after ss s ≡ s ∷ [] = ap (λ xs. put_after xs s) e in
    subst (IsAppended ss (segment_bits s)) (h ∙ sym n) (appended ss s f p b (omega (arith, ap length h)))

pub pushed_joined : (ss xs new : List Segment) (t s m : Segment) → ss ≡ xs ++ t ∷ [] → joined t s ≡ Some m → IsForm ss → IsSegment s → width ss + segment_width s ≤ 64 → new ≡ xs ++ m ∷ [] → IsAppended ss (segment_bits s) new
pushed_joined ss xs new t s m e j f p b n =
    let h : put_after ss s ≡ xs ++ m ∷ [] = ap (λ ys. put_after ys s) e ∙ last_some xs t s m j in
    let k : length (xs ++ m ∷ []) ≤ 8 = omega (arith, f.few, ap length e, length-append xs (t ∷ []), length-append xs (m ∷ [])) in
    subst (IsAppended ss (segment_bits s)) (h ∙ sym n) (appended ss s f p b (omega (arith, k, ap length h)))

pub pushed_apart : (ss xs new : List Segment) (t s : Segment) → ss ≡ xs ++ t ∷ [] → joined t s ≡ None → IsForm ss → IsSegment s → width ss + segment_width s ≤ 64 → new ≡ ss ++ s ∷ [] → length ss < 8 → IsAppended ss (segment_bits s) new
pushed_apart ss xs new t s e j f p b n r =
    let h : put_after ss s ≡ ss ++ s ∷ [] = ap (λ ys. put_after ys s) e ∙ last_none xs t s j ∙ ap (λ ys. ys ++ s ∷ []) (sym e) in
    subst (IsAppended ss (segment_bits s)) (h ∙ sym n) (appended ss s f p b (omega (arith, r, ap length h, length-append ss (s ∷ []))))

pub not_pushed : (ss xs : List Segment) (t s : Segment) → ss ≡ xs ++ t ∷ [] → joined t s ≡ None → IsForm ss → IsSegment s → length ss ≡ 8 → TooMany (bits ss ++ segment_bits s)
not_pushed ss xs t s e j f p r =
    let h : put_after ss s ≡ ss ++ s ∷ [] = ap (λ ys. put_after ys s) e ∙ last_none xs t s j ∙ ap (λ ys. ys ++ s ∷ []) (sym e) in
    full ss s f p (omega (arith, r, ap length h, length-append ss (s ∷ [])))

-- ---- representations

pub unsigned_value : (u t : IntType) (v z : ℤ) → is_signed u ≡ false → bits_of u ≡ bits_of t → z ≡ wrapped u v → unsigned_abs z ≡ representation t v
unsigned_value I8 t v z s w e = absurd (cc)
unsigned_value U8 t v z s w e = ap unsigned_abs e ∙ ap (λ n. residue (2 ^ n) v) w
unsigned_value I16 t v z s w e = absurd (cc)
unsigned_value U16 t v z s w e = ap unsigned_abs e ∙ ap (λ n. residue (2 ^ n) v) w
unsigned_value I32 t v z s w e = absurd (cc)
unsigned_value U32 t v z s w e = ap unsigned_abs e ∙ ap (λ n. residue (2 ^ n) v) w
unsigned_value I64 t v z s w e = absurd (cc)
unsigned_value U64 t v z s w e = ap unsigned_abs e ∙ ap (λ n. residue (2 ^ n) v) w
