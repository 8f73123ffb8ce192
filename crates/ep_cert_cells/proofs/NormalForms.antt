-- Forms of segments.
use Rattle.std.proofs.Common.{◌≡◌, ℕ, zero, suc, ◌+◌, ◌-◌, ◌/◌, ◌%◌, ◌^◌, ◌<◌, ◌≤◌, true, false, cond, List, [], ◌∷◌}
use Rattle.std.proofs.Common.{◌++◌, get_or, inl, inr, length, length-append, take, drop, refl, ap, sym, ◌∙◌, subst, arith, append_assoc, append-nil}
use Rattle.std.specs.Prelude.{ℤ, pos, nat_lt, nat_le, ◌&&◌, is_none, Option, Some, None}
use Rattle.std.proofs.lemmas.Bool.{and_parts, and_from, ltb-true, lt-ltb, leb-true, le-leb, cases_Bool}
use Rattle.ep_int.specs.declared.types.IntType.TheVariants.{U64}
use Rattle.ep_int.specs.Types.{representation}
use Rattle.ep_int.proofs.Basics.{true_and_false}
use Rattle.ep_bitslice.specs.declared.cell.CellName.{CellName}
use Rattle.ep_bitslice.specs.declared.segment.Segment.{Segment}
use Rattle.ep_bitslice.specs.declared.segment.Segment.TheVariants.{Bits, Fixed}
use Rattle.ep_bitslice.specs.Bits.{Bit, fixed, is_odd, part_of, renamed}
use Rattle.ep_bitslice.specs.Segments.{segment_bits, segment_width, run_bits, fixed_bits, bits, width, joined, normal}
use Rattle.ep_bitslice.specs.Segments.{form_of as kept, concat_of, IsSegment, AreSegments, IsApart, AreApart, IsForm}
use Rattle.ep_bitslice.proofs.Joining.{cell_itself}
use Rattle.ep_bitslice.proofs.Cuts.{after_run, first_run, run_renamed}
use Rattle.ep_bitslice.proofs.NormalForm.{form_is_normal, same_form, fewer_in_front}
use Rattle.ep_bitslice.proofs.Parts.{width_of_bits}
use Rattle.ep_bitslice.proofs.Walks.{segment_at, bits_at}
use Rattle.ep_cert_cells.specs.Reading.{is_segment, are_segments, is_apart, are_apart, is_form, form_of}

-- ---- the test

segment_test : (s : Segment) → IsSegment s → is_segment s ≡ true
segment_test (Bits c f t) h = and_from _ _ (lt-ltb f t h.0) (le-leb t 64 h.1)
segment_test (Fixed v w) h =
    and_from _ _ (lt-ltb 0 w h.0) (and_from _ _ (le-leb w 64 h.1) (lt-ltb v (2 ^ w) h.2))

segments_test : (ss : List Segment) → AreSegments ss → are_segments ss ≡ true
segments_test [] h = refl
segments_test (s ∷ ss) h = and_from _ _ (segment_test s h.0) (segments_test ss h.1)

apart_one : (s : Segment) (ss : List Segment) → IsApart s ss → is_apart s ss ≡ true
apart_one s [] h = refl
apart_one s (t ∷ ss) h = ap is_none h

apart_test : (ss : List Segment) → AreApart ss → are_apart ss ≡ true
apart_test [] h = refl
apart_test (s ∷ ss) h = and_from _ _ (apart_one s ss h.0) (apart_test ss h.1)

pub form_test : (ss : List Segment) → IsForm ss → is_form ss ≡ true
unfolding is_form
form_test ss h =
    and_from _ _ (segments_test ss h.segments)
    (and_from _ _ (apart_test ss h.apart) (and_from _ _ (le-leb (length ss) 8 h.few) (le-leb (width ss) 64 h.short)))

test_segment : (s : Segment) → is_segment s ≡ true → IsSegment s
test_segment (Bits c f t) e = let p = and_parts (nat_lt f t) (nat_le t 64) e in (ltb-true f t p.0, leb-true t 64 p.1)
test_segment (Fixed v w) e =
    let p = and_parts (nat_lt 0 w) (nat_le w 64 && nat_lt v (2 ^ w)) e in
    let q = and_parts (nat_le w 64) (nat_lt v (2 ^ w)) p.1 in
    (ltb-true 0 w p.0, leb-true w 64 q.0, ltb-true v (2 ^ w) q.1)

test_segments : (ss : List Segment) → are_segments ss ≡ true → AreSegments ss
test_segments [] e = tt
test_segments (s ∷ ss) e =
    let p = and_parts (is_segment s) (are_segments ss) e in (test_segment s p.0, test_segments ss p.1)

none_is : (o : Option Segment) → is_none o ≡ true → o ≡ None
none_is None e = refl
none_is (Some s) e = absurd (true_and_false false e refl)

one_apart : (s : Segment) (ss : List Segment) → is_apart s ss ≡ true → IsApart s ss
one_apart s [] e = tt
one_apart s (t ∷ ss) e = none_is (joined s t) e

test_apart : (ss : List Segment) → are_apart ss ≡ true → AreApart ss
test_apart [] e = tt
test_apart (s ∷ ss) e = let p = and_parts (is_apart s ss) (are_apart ss) e in (one_apart s ss p.0, test_apart ss p.1)

pub test_form : (ss : List Segment) → is_form ss ≡ true → IsForm ss
unfolding is_form
test_form ss e =
    let p = and_parts (are_segments ss) (are_apart ss && (nat_le (length ss) 8 && nat_le (width ss) 64)) e in
    let q = and_parts (are_apart ss) (nat_le (length ss) 8 && nat_le (width ss) 64) p.1 in
    let r = and_parts (nat_le (length ss) 8) (nat_le (width ss) 64) q.1 in
    record {
      segments = test_segments ss p.0;
      apart = test_apart ss q.0;
      few = leb-true (length ss) 8 r.0;
      short = leb-true (width ss) 64 r.1;
    }

pub form_is : (ss : List Segment) (f : List Segment) → f ≡ ss → IsForm f → Some f ≡ form_of ss
form_is ss f e h = ap Some e ∙ sym (ap (λ b. cond b (Some ss) None) (form_test ss (subst IsForm e h)))

pub no_form : (ss : List Segment) → (IsForm ss → ⊥) → None ≡ form_of ss
no_form ss h =
    elim (cases_Bool (is_form ss)) [
      | inl e ↦ absurd (h (test_form ss e))
      | inr e ↦ sym (ap (λ b. cond b (Some ss) None) e)
    ]

-- ---- the bits of a segment

pub run_made : (c w : CellName) (f t : ℕ) → f < t → t ≤ 64
    → renamed w c (part_of f t (bits (Bits w 0 64 ∷ []))) ≡ run_bits c f (t - f)
run_made c w f t l h =
    let s : Segment = Bits w 0 64 in
    let u : Segment = Bits w (0 + f) 64 in
    let k : t - f ≤ segment_width u = omega arith in
    let z : 0 + f ≡ f = omega arith in
    let n : 0 + f + (t - f) - (0 + f) ≡ t - f = omega arith in
    let e : drop f (bits (s ∷ [])) ≡ segment_bits u =
    ap (drop f) (append-nil (segment_bits s)) ∙ sym (after_run s w 0 64 f refl (omega arith)) in
    let g : part_of f t (bits (s ∷ [])) ≡ run_bits w f (t - f) =
    ap (take (t - f)) e ∙ sym (first_run u w (0 + f) 64 (t - f) refl k)
    ∙ ap (λ (i : ℕ). run_bits w (0 + f) i) n ∙ ap (λ (i : ℕ). run_bits w i (t - f)) z in
    let v : Segment = Bits w f t in
    ap (renamed w c) g ∙ sym (run_renamed v w f t w c refl)
    ∙ ap (λ (d : CellName). run_bits d f (t - f)) (ap (λ b. cond b c w) (cell_itself w))

take_fixed : (w n v : ℕ) → w ≤ n → take w (fixed_bits n v) ≡ fixed_bits w v
take_fixed zero n v h = refl
take_fixed (suc w) zero v h = absurd (omega arith)
take_fixed (suc w) (suc n) v h = ap (λ (bs : List Bit). fixed (is_odd v) ∷ bs) (take_fixed w n (v / 2) (omega arith))

pub fixed_made : (v w x : ℕ) → x ≡ v → w ≤ 64 → part_of 0 w (bits (Fixed x 64 ∷ [])) ≡ fixed_bits w v
fixed_made v w x e h =
    let z : w - 0 ≡ w = omega arith in
    ap (λ (i : ℕ). take i (fixed_bits 64 x ++ [])) z ∙ ap (take w) (append-nil (fixed_bits 64 x))
    ∙ take_fixed w 64 x h ∙ ap (fixed_bits w) e

-- what is made of them by calls
pub run_is : (c w : CellName) (f t i j : ℕ) (a p r : List Segment) → i ≡ f → j ≡ t → f < t → t ≤ 64
    → a ≡ Bits w 0 64 ∷ [] → bits p ≡ part_of i j (bits a) → bits r ≡ renamed w c (bits p)
    → bits r ≡ run_bits c f (t - f)
run_is c w f t i j a p r ei ej l h ea ep er =
    er ∙ ap (renamed w c) (ep ∙ ap (λ (s : List Segment). part_of i j (bits s)) ea
    ∙ ap (λ (k : ℕ). part_of k j (bits (Bits w 0 64 ∷ []))) ei ∙ ap (λ (k : ℕ). part_of f k (bits (Bits w 0 64 ∷ []))) ej)
    ∙ run_made c w f t l h

small_number : (v : ℕ) → v < 18446744073709551616 → representation U64 (pos v) ≡ v
small_number v l = let e : v % 18446744073709551616 ≡ v = omega arith in e

pub fixed_is : (v w k : ℕ) (z : ℤ) (a r : List Segment) → z ≡ pos v → v < 18446744073709551616 → k ≡ w → w ≤ 64
    → a ≡ Fixed (representation U64 z) 64 ∷ [] → bits r ≡ part_of 0 k (bits a) → bits r ≡ fixed_bits w v
fixed_is v w k z a r ez l ek h ea er =
    let e : representation U64 z ≡ v = ap (representation U64) ez ∙ small_number v l in
    er ∙ ap (λ (s : List Segment). part_of 0 k (bits s)) ea
    ∙ ap (λ (i : ℕ). part_of 0 i (bits (Fixed (representation U64 z) 64 ∷ []))) ek
    ∙ fixed_made v w (representation U64 z) e h

-- ---- segment by segment

-- the bits of the segments up to one are those of the form
pub begun : (s : Segment) (ss f : List Segment) → bits f ≡ segment_bits s → bits f ++ bits (drop 0 ss) ≡ bits (s ∷ ss)
begun s ss f e = ap (λ (bs : List Bit). bs ++ bits ss) e

pub more_bits : (f g n ss all : List Segment) (i : ℕ) (d : Segment) → i < length ss
    → bits g ≡ segment_bits (get_or ss i d) → bits n ≡ bits f ++ bits g → bits f ++ bits (drop i ss) ≡ bits all
    → bits n ++ bits (drop (i + 1) ss) ≡ bits all
more_bits f g n ss all i d l e k h =
    ap (λ (bs : List Bit). bs ++ bits (drop (i + 1) ss)) k
    ∙ append_assoc (bits f) (bits g) (bits (drop (i + 1) ss))
    ∙ ap (λ (bs : List Bit). bits f ++ bs) (ap (λ (bs : List Bit). bs ++ bits (drop (i + 1) ss)) e
    ∙ sym (bits_at ss i d l))
    ∙ h

pub all_bits : (f ss all : List Segment) (i : ℕ) → length ss ≤ i → bits f ++ bits (drop i ss) ≡ bits all
    → bits f ≡ bits all
all_bits f ss all i l h =
    sym (append-nil (bits f)) ∙ ap (λ (us : List Segment). bits f ++ bits us) (sym (drop_past i ss l)) ∙ h
  where
    drop_past : (i : ℕ) (ss : List Segment) → length ss ≤ i → drop i ss ≡ []
    drop_past zero [] l = refl
    drop_past zero (s ∷ ss) l = absurd (omega arith)
    drop_past (suc i) [] l = refl
    drop_past (suc i) (s ∷ ss) l = drop_past i ss (omega arith)

-- two forms of which the bits begin those of a third have few enough together
pub fits : (f g ss : List Segment) (more : List Bit) → IsForm ss → (bits f ++ bits g) ++ more ≡ bits ss
    → concat_of f g ≡ None → ⊥
fits f g ss more h e n =
    let all = ap length e ∙ sym (width_of_bits ss (bits ss) refl) in
    let sum = length-append (bits f ++ bits g) more in
    let two = length-append (bits f) (bits g) in
    let wide : width f + width g ≤ 64 =
    omega (arith, all, sum, two, width_of_bits f (bits f) refl, width_of_bits g (bits g) refl, h.short) in
    let few : length (normal (bits f ++ bits g)) ≤ 8 =
    let p = fewer_in_front (bits f ++ bits g) more in
    let q = ap (λ (bs : List Bit). length (normal bs)) e ∙ ap length (form_is_normal ss h) in
    omega (arith, p, q, h.few) in
    let made : concat_of f g ≡ Some (normal (bits f ++ bits g)) =
    ap (λ b. cond b (kept (bits f ++ bits g)) None) (le-leb (width f + width g) 64 wide)
    ∙ ap (λ b. cond b (Some (normal (bits f ++ bits g))) None) (le-leb (length (normal (bits f ++ bits g))) 8 few) in
    some_none (sym made ∙ n)
  where
    some_none : {x : List Segment} → Some x ≡ None → ⊥
    some_none e = cc

pub some_segment : (s : Segment) (ss : List Segment) (i : ℕ) (d : Segment) → IsForm (s ∷ ss) → i < length ss
    → IsSegment (get_or ss i d)
some_segment s ss i d h l = segment_at ss i d h.segments.1 l

-- ---- where a form isn't made

pub first_wrong : (all : List Segment) (s : Segment) (ss : List Segment) → all ≡ s ∷ ss → (IsSegment s → ⊥)
    → None ≡ form_of all
first_wrong all s ss e f = no_form all (λ h. f ((subst IsForm e h).segments.0))

pub one_wrong : (all : List Segment) (s : Segment) (ss : List Segment) (i : ℕ) (d : Segment) → all ≡ s ∷ ss
    → i < length ss → (IsSegment (get_or ss i d) → ⊥) → None ≡ form_of all
one_wrong all s ss i d e l f = no_form all (λ h. f (some_segment s ss i d (subst IsForm e h) l))

pub too_many : (all : List Segment) (s : Segment) (ss f g : List Segment) (i : ℕ) (d : Segment) → all ≡ s ∷ ss
    → i < length ss → bits g ≡ segment_bits (get_or ss i d) → bits f ++ bits (drop i ss) ≡ bits all
    → None ≡ concat_of f g → None ≡ form_of all
too_many all s ss f g i d e l k h n =
    let split : bits (drop i ss) ≡ bits g ++ bits (drop (i + 1) ss) =
    bits_at ss i d l ∙ ap (λ (bs : List Bit). bs ++ bits (drop (i + 1) ss)) (sym k) in
    no_form all (λ m.
    fits f g all (bits (drop (i + 1) ss)) m
    (append_assoc (bits f) (bits g) (bits (drop (i + 1) ss)) ∙ ap (λ (bs : List Bit). bits f ++ bs) (sym split) ∙ h)
    (sym n))

pub same_all : (all f : List Segment) → f ≡ all → IsForm f → Some f ≡ form_of all
same_all all f e h = form_is all f e h

pub other_all : (all f : List Segment) (s : Segment) (ss : List Segment) (i : ℕ) → all ≡ s ∷ ss → length ss ≤ i
    → bits f ++ bits (drop i ss) ≡ bits all → IsForm f → (f ≡ all → ⊥) → None ≡ form_of all
other_all all f s ss i e l h k n = no_form all (λ m. n (same_form f all k m (all_bits f ss all i l h)))

pub begun_at : (all : List Segment) (s : Segment) (ss f : List Segment) → all ≡ s ∷ ss → bits f ≡ segment_bits s
    → bits f ++ bits (drop 0 ss) ≡ bits all
begun_at all s ss f e k = begun s ss f k ∙ ap bits (sym e)
