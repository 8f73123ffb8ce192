-- What passes the tests of cells are cells, and cells pass them.
use Rattle.std.proofs.Common.{◌≡◌, ℕ, ◌+◌, ◌-◌, ◌^◌, Bool, true, false, ◌&&◌, ◌||◌, not, nat_eq, nat_le, nat_lt}
use Rattle.ep_bitslice.proofs.Joining.{side_back}
use Rattle.ep_reads.proofs.Members.{any_from, same_alike}
use Rattle.std.proofs.lemmas.Bool.{not-true}
use Rattle.std.proofs.Common.{⊎_elim, List, [], ◌∷◌, length, Option, Some, None, IfSome, is_some, refl, sym, ap, ◌∙◌}
use Rattle.std.proofs.Common.{subst, arith}
use Rattle.std.specs.Option.{option_map_or}
use Rattle.std.specs.List.{list_all, list_any}
use Rattle.std.proofs.lemmas.Bool.{and_parts, and_from, leb-true, ltb-true, eqb-true, le-leb, lt-ltb, eq-eqb}
use Rattle.std.proofs.lemmas.Bool.{or_cases, or_left, or_right, both_ways}
use Rattle.ep_int.specs.declared.types.Model.{Model}
use Rattle.ep_int.specs.declared.types.Scalar.{Scalar}
use Rattle.ep_int.specs.declared.types.Scalar.TheVariants.{Int, Pointer}
use Rattle.ep_int.specs.Types.{bits_of, size_of}
use Rattle.ep_bitslice.specs.declared.cell.CellName.{CellName}
use Rattle.ep_bitslice.specs.declared.segment.Segment.{Segment}
use Rattle.ep_bitslice.specs.declared.segment.Segment.TheVariants.{Bits, Fixed}
use Rattle.ep_bitslice.specs.Bits.{side_number, mentions}
use Rattle.ep_bitslice.specs.Segments.{run_bits, fixed_bits, bits, width, joined, most_bits, most_segments, IsSegment}
use Rattle.ep_bitslice.specs.Segments.{AreSegments, IsApart, AreApart as SegmentsApart, IsForm}
use Rattle.ep_bitslice.proofs.Joining.{same_cell, cell_itself}
use Rattle.ep_bitslice.proofs.Pieces.{mentions-fixed, mentions-run, mentions-append}
use Rattle.ep_pointers.specs.Value.{Target, AreAbove, IsRising}
use Rattle.ep_cells.specs.declared.cell.Cell.{Cell}
use Rattle.ep_cells.specs.declared.cell.Value.{Value}
use Rattle.ep_cells.specs.declared.cell.Value.TheVariants.{Num, Ptr}
use Rattle.ep_cells.specs.Cells.{place_of, meets, comes_before, scalar_number, is_same_side, is_same_scalar}
use Rattle.ep_cells.specs.Cells.{is_same_cell, IsNamed, IsIn, first, later}
use Rattle.ep_cells.specs.States.{IsOfSort, HasRisingBlocks, IsCell, HasWidth, IsFormOf, IsThere, Each, EachPair}
use Rattle.ep_cells.specs.States.{AreApart, AreCells, HaveCellsAlike}
use Rattle.ep_cells.proofs.Both.{alike_same, scalar_same}
use Rattle.ep_cell_ranges.specs.Tests.{is_of_sort, are_above, is_rising, has_rising_blocks, is_cell, has_width}
use Rattle.ep_cell_ranges.specs.Tests.{is_segment, is_apart, are_segments, is_form, is_sure_cell, is_mention_there}
use Rattle.ep_cell_ranges.specs.Tests.{is_form_of, has_form, are_apart, all_apart, are_cells, are_alike}
use Rattle.ep_cell_ranges.specs.Laws.{TestLaws}

-- ---- lists

each_by : {N : Type 0} (test : Cell N → Bool) (P : Cell N → Type 0) (cs : List (Cell N))
    → ((c : Cell N) → test c ≡ true → P c)
    → list_all test cs ≡ true → Each P cs
each_by test P [] f h = tt
each_by test P (c ∷ cs) f h = let q = and_parts (test c) (list_all test cs) h in (f c q.0, each_by test P cs f q.1)

in_by : {N : Type 0} (test : Cell N → Bool) (c : Cell N) (cs : List (Cell N)) → IsIn c cs → list_all test cs ≡ true
    → test c ≡ true
in_by test c [] i h = elim i [ ]
in_by test c (x ∷ cs) (first _) h = (and_parts (test c) (list_all test cs) h).0
in_by test c (x ∷ cs) (later _ _ i) h = in_by test c cs i (and_parts (test x) (list_all test cs) h).1

-- ---- one cell

sort_by : {N : Type 0} (w : Scalar) (v : Option (Value N)) → is_of_sort w v ≡ true → IsOfSort w v
sort_by w None h = tt
sort_by (Int t) (Some (Num n)) h = tt
sort_by (Int t) (Some (Ptr p)) h = absurd (cc)
sort_by Pointer (Some (Num n)) h = absurd (cc)
sort_by Pointer (Some (Ptr p)) h = tt

above_by : {N : Type 0} (b : ℕ) (ts : List (Target N)) → are_above b ts ≡ true → AreAbove b ts
above_by b [] h = tt
above_by b (t ∷ ts) h = let q = and_parts (nat_lt b t.0) (are_above b ts) h in (ltb-true b t.0 q.0, above_by b ts q.1)

rising_by : {N : Type 0} (ts : List (Target N)) → is_rising ts ≡ true → IsRising ts
rising_by [] h = tt
rising_by (t ∷ ts) h = let q = and_parts (are_above t.0 ts) (is_rising ts) h in (above_by t.0 ts q.0, rising_by ts q.1)

blocks_by : {N : Type 0} (v : Option (Value N)) → has_rising_blocks v ≡ true → HasRisingBlocks v
blocks_by None h = tt
blocks_by (Some (Num n)) h = tt
blocks_by (Some (Ptr p)) h = rising_by p.targets h

undefined_by : {N : Type 0} (v : Option (Value N)) (b : Bool) → (is_some v || b) ≡ true → v ≡ None → b ≡ true
undefined_by None b h e = h
undefined_by (Some v) b h e = absurd (let q : Some v ≡ None = e in cc)

cell_by : {N : Type 0} (d : Model) (c : Cell N) → is_cell d c ≡ true → IsCell d c
cell_by d c h =
    let q = and_parts (is_of_sort c.what c.value && has_rising_blocks c.value)
    ((is_some c.value || c.maybe) && nat_le (c.offset + size_of d c.what) (2 ^ 32)) h in
    let r = and_parts (is_of_sort c.what c.value) (has_rising_blocks c.value) q.0 in
    let s = and_parts (is_some c.value || c.maybe) (nat_le (c.offset + size_of d c.what) (2 ^ 32)) q.1 in
    record {
      fits = record {
        sort = sort_by c.what c.value r.0;
        undefined = undefined_by c.value c.maybe s.0;
        last = leb-true (c.offset + size_of d c.what) (2 ^ 32) s.1;
      };
      rising = blocks_by c.value r.1;
    }

-- ---- forms

width_by : (w : Scalar) (n : ℕ) → has_width w n ≡ true → HasWidth w n
width_by (Int t) n h = eqb-true (bits_of t) n h
width_by Pointer n h = absurd (cc)

segment_by : (s : Segment) → is_segment s ≡ true → IsSegment s
segment_by (Bits c from to) h = let q = and_parts (nat_lt from to) (nat_le to most_bits) h in
    (ltb-true from to q.0, leb-true to most_bits q.1)
segment_by (Fixed v w) h =
    let q = and_parts (nat_lt 0 w) (nat_le w most_bits && nat_lt v (2 ^ w)) h in
    let r = and_parts (nat_le w most_bits) (nat_lt v (2 ^ w)) q.1 in
    (ltb-true 0 w q.0, leb-true w most_bits r.0, ltb-true v (2 ^ w) r.1)

none_by : (o : Option Segment) → not (is_some o) ≡ true → o ≡ None
none_by None h = refl
none_by (Some s) h = absurd (cc)

apart_by : (s : Segment) (ss : List Segment) → is_apart s ss ≡ true → IsApart s ss
apart_by s [] h = tt
apart_by s (t ∷ ss) h = none_by (joined s t) h

segments_by : (ss : List Segment) → are_segments ss ≡ true → AreSegments ss × SegmentsApart ss
segments_by [] h = (tt, tt)
segments_by (s ∷ ss) h =
    let q = and_parts (is_segment s) (is_apart s ss && are_segments ss) h in
    let r = and_parts (is_apart s ss) (are_segments ss) q.1 in
    let t = segments_by ss r.1 in ((segment_by s q.0, t.0), (apart_by s ss r.0, t.1))

form_by : (ss : List Segment) → is_form ss ≡ true → IsForm ss
form_by ss h =
    let q = and_parts (are_segments ss) (nat_le (length ss) most_segments && nat_le (width ss) most_bits) h in
    let r = and_parts (nat_le (length ss) most_segments) (nat_le (width ss) most_bits) q.1 in
    let s = segments_by ss q.0 in record {
      segments = s.0;
      apart = s.1;
      few = leb-true (length ss) most_segments r.0;
      short = leb-true (width ss) most_bits r.1;
    }

named_from : {N : Type 0} (n : CellName) (c : Cell N) (cs : List (Cell N)) → IsIn c cs → is_sure_cell n c ≡ true
    → IsThere n cs
named_from n c cs i h =
    let p = and_parts (is_same_side c.side n.side && nat_eq c.block n.block)
    ((nat_eq c.offset n.offset && is_same_scalar c.what (Int n.t)) && not c.maybe) h in
    let q = and_parts (is_same_side c.side n.side) (nat_eq c.block n.block) p.0 in
    let r = and_parts (nat_eq c.offset n.offset && is_same_scalar c.what (Int n.t)) (not c.maybe) p.1 in
    let t = and_parts (nat_eq c.offset n.offset) (is_same_scalar c.what (Int n.t)) r.0 in
    record {
      cell = c;
      is_in = i;
      named = record {
        side = side_back c.side n.side (eqb-true (side_number c.side) (side_number n.side) q.0);
        block = eqb-true c.block n.block q.1;
        offset = eqb-true c.offset n.offset t.0;
        what = scalar_same c.what (Int n.t) t.1;
      };
      sure = not-true c.maybe r.1;
    }

later_there : {N : Type 0} (n : CellName) (x : Cell N) (cs : List (Cell N)) → IsThere n cs → IsThere n (x ∷ cs)
later_there n x cs t = record { cell = t.cell; is_in = later x cs t.is_in; named = t.named; sure = t.sure }

there_first : {N : Type 0} (n : CellName) (x : Cell N) (cs : List (Cell N)) (b : Bool) → is_sure_cell n x ≡ b
    → (b || list_any (is_sure_cell n) cs) ≡ true → (list_any (is_sure_cell n) cs ≡ true → IsThere n cs)
    → IsThere n (x ∷ cs)
there_first n x cs true e h f = named_from n x (x ∷ cs) (first cs) e
there_first n x cs false e h f = later_there n x cs (f h)

there_by : {N : Type 0} (n : CellName) (cs : List (Cell N)) → list_any (is_sure_cell n) cs ≡ true → IsThere n cs
there_by n [] h = absurd (cc)
there_by n (x ∷ cs) h = there_first n x cs (is_sure_cell n x) refl h (there_by n cs)

mentioned_by : {N : Type 0} (cs : List (Cell N)) (ss : List Segment) → AreSegments ss
    → list_all (is_mention_there cs) ss ≡ true → (n : CellName) → mentions n (bits ss) ≡ true → IsThere n cs
mentioned_by cs [] a h n e = absurd (cc)
mentioned_by cs (Bits c from to ∷ ss) a h n e =
    let q = and_parts (list_any (is_sure_cell c) cs) (list_all (is_mention_there cs) ss) h in
    ⊎_elim
    (λ i. subst (λ z. IsThere z cs) (same_cell c n (sym (mentions-run n c from (to - from) (omega (arith, a.0.0))) ∙ i))
    (there_by c cs q.0))
    (λ i. mentioned_by cs ss a.1 q.1 n i)
    (or_cases (mentions n (run_bits c from (to - from))) (mentions n (bits ss))
    (sym (mentions-append n (run_bits c from (to - from)) (bits ss)) ∙ e))
mentioned_by cs (Fixed v w ∷ ss) a h n e =
    ⊎_elim
    (λ i. absurd (both_ways (mentions n (fixed_bits w v)) (mentions-fixed n w v) i))
    (λ i. mentioned_by cs ss a.1 h n i)
    (or_cases (mentions n (fixed_bits w v)) (mentions n (bits ss))
    (sym (mentions-append n (fixed_bits w v) (bits ss)) ∙ e))

of_by : {N : Type 0} (cs : List (Cell N)) (c : Cell N) (ss : List Segment) → is_form_of cs c ss ≡ true
    → IsFormOf cs c ss
of_by cs c ss h =
    let q = and_parts (not c.maybe && has_width c.what (width ss)) (is_form ss && list_all (is_mention_there cs) ss) h
    in
    let r = and_parts (not c.maybe) (has_width c.what (width ss)) q.0 in
    let s = and_parts (is_form ss) (list_all (is_mention_there cs) ss) q.1 in
    let f = form_by ss s.0 in record {
      sure = not-true c.maybe r.0;
      wide = width_by c.what (width ss) r.1;
      form = f;
      mentioned = mentioned_by cs ss f.segments s.1;
    }

some_by : {N : Type 0} (cs : List (Cell N)) (c : Cell N) (o : Option (List Segment))
    → option_map_or (is_form_of cs c) o true ≡ true
    → IfSome o (IsFormOf cs c)
some_by cs c None h = tt
some_by cs c (Some ss) h = of_by cs c ss h

-- ---- all cells

pair_by : {N : Type 0} (d : Model) (x y : Cell N) → are_apart d x y ≡ true → AreApart d x y
pair_by d x y h =
    let q = and_parts (comes_before x y) (not (meets (place_of d x) (place_of d y))) h in
    record { ordered = q.0; apart = not-true (meets (place_of d x) (place_of d y)) q.1 }

pairs_by : {N : Type 0} (d : Model) (cs : List (Cell N)) → all_apart d cs ≡ true → EachPair (AreApart d) cs
pairs_by d [] h = tt
pairs_by d (c ∷ cs) h =
    let q = and_parts (list_all (are_apart d c) cs) (all_apart d cs) h in
    (each_by (are_apart d c) (AreApart d c) cs (pair_by d c) q.0, pairs_by d cs q.1)

pub cells_by : {N : Type 0} (d : Model) (cs : List (Cell N)) → are_cells d cs ≡ true → AreCells d cs
cells_by d cs h =
    let q = and_parts (list_all (is_cell d) cs) (all_apart d cs && list_all (has_form cs) cs) h in
    let r = and_parts (all_apart d cs) (list_all (has_form cs) cs) q.1 in record {
      each = λ c i. cell_by d c (in_by (is_cell d) c cs i q.0);
      pairs = pairs_by d cs r.0;
      forms = λ c i. some_by cs c c.form (in_by (has_form cs) c cs i r.1);
    }

pub alike_by : {N : Type 0} (xs ys : List (Cell N)) → are_alike xs ys ≡ true → HaveCellsAlike xs ys
alike_by [] [] h = tt
alike_by [] (y ∷ ys) h = absurd (cc)
alike_by (x ∷ xs) [] h = absurd (cc)
alike_by (x ∷ xs) (y ∷ ys) h =
    let q = and_parts (is_same_cell x y) (are_alike xs ys) h in (alike_same x y q.0, alike_by xs ys q.1)

-- ---- and the other way: cells pass

all_pass : {N : Type 0} (test : Cell N → Bool) (cs : List (Cell N)) → ((c : Cell N) → IsIn c cs → test c ≡ true)
    → list_all test cs ≡ true
all_pass test [] f = refl
all_pass test (c ∷ cs) f =
    and_from (test c) (list_all test cs) (f c (first cs)) (all_pass test cs (λ x i. f x (later c cs i)))

each_passes : {N : Type 0} (test : Cell N → Bool) (P : Cell N → Type 0) (cs : List (Cell N))
    → ((c : Cell N) → P c → test c ≡ true) → Each P cs → list_all test cs ≡ true
each_passes test P [] f h = refl
each_passes test P (c ∷ cs) f h =
    and_from (test c) (list_all test cs) (f c h.0) (each_passes test P cs f h.1)

sort_passes : {N : Type 0} (w : Scalar) (v : Option (Value N)) → IsOfSort w v → is_of_sort w v ≡ true
sort_passes w None h = refl
sort_passes (Int t) (Some (Num n)) h = refl
sort_passes (Int t) (Some (Ptr p)) h = absurd h
sort_passes Pointer (Some (Num n)) h = absurd h
sort_passes Pointer (Some (Ptr p)) h = refl

above_passes : {N : Type 0} (b : ℕ) (ts : List (Target N)) → AreAbove b ts → are_above b ts ≡ true
above_passes b [] h = refl
above_passes b (t ∷ ts) h = and_from (nat_lt b t.0) (are_above b ts) (lt-ltb b t.0 h.0) (above_passes b ts h.1)

rising_passes : {N : Type 0} (ts : List (Target N)) → IsRising ts → is_rising ts ≡ true
rising_passes [] h = refl
rising_passes (t ∷ ts) h =
    and_from (are_above t.0 ts) (is_rising ts) (above_passes t.0 ts h.0) (rising_passes ts h.1)

blocks_pass : {N : Type 0} (v : Option (Value N)) → HasRisingBlocks v → has_rising_blocks v ≡ true
blocks_pass None h = refl
blocks_pass (Some (Num n)) h = refl
blocks_pass (Some (Ptr p)) h = rising_passes p.targets h

undefined_passes : {N : Type 0} (v : Option (Value N)) (b : Bool) → (v ≡ None → b ≡ true) → (is_some v || b) ≡ true
undefined_passes None b h = h refl
undefined_passes (Some v) b h = refl

cell_passes : {N : Type 0} (d : Model) (c : Cell N) → IsCell d c → is_cell d c ≡ true
cell_passes d c h =
    and_from (is_of_sort c.what c.value && has_rising_blocks c.value)
    ((is_some c.value || c.maybe) && nat_le (c.offset + size_of d c.what) (2 ^ 32))
    (and_from (is_of_sort c.what c.value) (has_rising_blocks c.value) (sort_passes c.what c.value h.fits.sort)
    (blocks_pass c.value h.rising))
    (and_from (is_some c.value || c.maybe) (nat_le (c.offset + size_of d c.what) (2 ^ 32))
    (undefined_passes c.value c.maybe h.fits.undefined) (le-leb (c.offset + size_of d c.what) (2 ^ 32) h.fits.last))

width_passes : (w : Scalar) (n : ℕ) → HasWidth w n → has_width w n ≡ true
width_passes (Int t) n h = eq-eqb (bits_of t) n h
width_passes Pointer n h = absurd h

segment_passes : (s : Segment) → IsSegment s → is_segment s ≡ true
segment_passes (Bits c from to) h =
    and_from (nat_lt from to) (nat_le to most_bits) (lt-ltb from to h.0) (le-leb to most_bits h.1)
segment_passes (Fixed v w) h =
    and_from (nat_lt 0 w) (nat_le w most_bits && nat_lt v (2 ^ w)) (lt-ltb 0 w h.0)
    (and_from (nat_le w most_bits) (nat_lt v (2 ^ w)) (le-leb w most_bits h.1) (lt-ltb v (2 ^ w) h.2))

none_passes : (o : Option Segment) → o ≡ None → not (is_some o) ≡ true
none_passes None h = refl
none_passes (Some s) h = absurd (cc)

apart_passes : (s : Segment) (ss : List Segment) → IsApart s ss → is_apart s ss ≡ true
apart_passes s [] h = refl
apart_passes s (t ∷ ss) h = none_passes (joined s t) h

segments_pass : (ss : List Segment) → AreSegments ss → SegmentsApart ss → are_segments ss ≡ true
segments_pass [] h i = refl
segments_pass (s ∷ ss) h i =
    and_from (is_segment s) (is_apart s ss && are_segments ss) (segment_passes s h.0)
    (and_from (is_apart s ss) (are_segments ss) (apart_passes s ss i.0) (segments_pass ss h.1 i.1))

form_passes : (ss : List Segment) → IsForm ss → is_form ss ≡ true
form_passes ss h =
    and_from (are_segments ss) (nat_le (length ss) most_segments && nat_le (width ss) most_bits)
    (segments_pass ss h.segments h.apart)
    (and_from (nat_le (length ss) most_segments) (nat_le (width ss) most_bits) (le-leb (length ss) most_segments h.few)
    (le-leb (width ss) most_bits h.short))

sure_passes : {N : Type 0} (n : CellName) (c : Cell N) → IsNamed n c → c.maybe ≡ false → is_sure_cell n c ≡ true
sure_passes n c k m =
    and_from (is_same_side c.side n.side && nat_eq c.block n.block)
    ((nat_eq c.offset n.offset && is_same_scalar c.what (Int n.t)) && not c.maybe)
    (and_from (is_same_side c.side n.side) (nat_eq c.block n.block)
    (eq-eqb (side_number c.side) (side_number n.side) (ap side_number k.side)) (eq-eqb c.block n.block k.block))
    (and_from (nat_eq c.offset n.offset && is_same_scalar c.what (Int n.t)) (not c.maybe)
    (and_from (nat_eq c.offset n.offset) (is_same_scalar c.what (Int n.t)) (eq-eqb c.offset n.offset k.offset)
    (eq-eqb (scalar_number c.what) (scalar_number (Int n.t)) (ap scalar_number k.what)))
    (ap not m))

there_passes : {N : Type 0} (n : CellName) (cs : List (Cell N)) → IsThere n cs → list_any (is_sure_cell n) cs ≡ true
there_passes n cs t = any_from (is_sure_cell n) t.cell cs t.is_in (sure_passes n t.cell t.named t.sure)

mentions_pass : {N : Type 0} (cs : List (Cell N)) (ss : List Segment) → AreSegments ss
    → ((n : CellName) → mentions n (bits ss) ≡ true → IsThere n cs) → list_all (is_mention_there cs) ss ≡ true
mentions_pass cs [] a h = refl
mentions_pass cs (Bits c from to ∷ ss) a h =
    and_from (list_any (is_sure_cell c) cs) (list_all (is_mention_there cs) ss)
    (there_passes c cs (h c (mentions-append c (run_bits c from (to - from)) (bits ss)
    ∙ or_left (mentions c (run_bits c from (to - from))) (mentions c (bits ss))
    (mentions-run c c from (to - from) (omega (arith, a.0.0)) ∙ cell_itself c))))
    (mentions_pass cs ss a.1 (λ n e. h n (mentions-append n (run_bits c from (to - from)) (bits ss)
    ∙ or_right (mentions n (run_bits c from (to - from))) (mentions n (bits ss)) e)))
mentions_pass cs (Fixed v w ∷ ss) a h =
    mentions_pass cs ss a.1 (λ n e. h n (mentions-append n (fixed_bits w v) (bits ss)
    ∙ or_right (mentions n (fixed_bits w v)) (mentions n (bits ss)) e))

of_passes : {N : Type 0} (cs : List (Cell N)) (c : Cell N) (ss : List Segment) → IsFormOf cs c ss
    → is_form_of cs c ss ≡ true
of_passes cs c ss h =
    and_from (not c.maybe && has_width c.what (width ss)) (is_form ss && list_all (is_mention_there cs) ss)
    (and_from (not c.maybe) (has_width c.what (width ss)) (ap not h.sure) (width_passes c.what (width ss) h.wide))
    (and_from (is_form ss) (list_all (is_mention_there cs) ss) (form_passes ss h.form)
    (mentions_pass cs ss h.form.segments h.mentioned))

some_passes : {N : Type 0} (cs : List (Cell N)) (c : Cell N) (o : Option (List Segment)) → IfSome o (IsFormOf cs c)
    → option_map_or (is_form_of cs c) o true ≡ true
some_passes cs c None h = refl
some_passes cs c (Some ss) h = of_passes cs c ss h

pair_passes : {N : Type 0} (d : Model) (x y : Cell N) → AreApart d x y → are_apart d x y ≡ true
pair_passes d x y h =
    and_from (comes_before x y) (not (meets (place_of d x) (place_of d y))) h.ordered (ap not h.apart)

pairs_pass : {N : Type 0} (d : Model) (cs : List (Cell N)) → EachPair (AreApart d) cs → all_apart d cs ≡ true
pairs_pass d [] h = refl
pairs_pass d (c ∷ cs) h =
    and_from (list_all (are_apart d c) cs) (all_apart d cs)
    (each_passes (are_apart d c) (AreApart d c) cs (pair_passes d c) h.0) (pairs_pass d cs h.1)

pub cells_pass : {N : Type 0} (d : Model) (cs : List (Cell N)) → AreCells d cs → are_cells d cs ≡ true
cells_pass d cs a =
    and_from (list_all (is_cell d) cs) (all_apart d cs && list_all (has_form cs) cs)
    (all_pass (is_cell d) cs (λ c i. cell_passes d c (a.each c i)))
    (and_from (all_apart d cs) (list_all (has_form cs) cs) (pairs_pass d cs a.pairs)
    (all_pass (has_form cs) cs (λ c i. some_passes cs c c.form (a.forms c i))))

pub alike_pass : {N : Type 0} (xs ys : List (Cell N)) → HaveCellsAlike xs ys → are_alike xs ys ≡ true
alike_pass [] [] h = refl
alike_pass [] (y ∷ ys) h = absurd h
alike_pass (x ∷ xs) [] h = absurd h
alike_pass (x ∷ xs) (y ∷ ys) h =
    and_from (is_same_cell x y) (are_alike xs ys) (same_alike x y h.0) (alike_pass xs ys h.1)

pub of_tests : (N : Type 0) → TestLaws N
of_tests N = record {
  cells = λ d cs. (cells_by d cs, cells_pass d cs);
  alike = λ xs ys. (alike_by xs ys, alike_pass xs ys);
}
