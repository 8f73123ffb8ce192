-- Looks into the parts that a place may touch.
use Rattle.std.proofs.Common.{◌≡◌, ℕ, suc, ◌+◌, ◌-◌, ◌<◌, ◌≤◌, ◌^◌, Bool, true, false, cond, ◌&&◌, ◌||◌, not, nat_eq}
use Rattle.ep_int.proofs.Basics.{or-false}
use Rattle.std.proofs.Common.{nat_lt, nat_le, List, [], ◌∷◌, ◌++◌, map, Some, None, refl, sym, ◌∙◌, ap, subst, arith}
use Rattle.std.specs.List.{list_any}
use Rattle.std.proofs.lemmas.Bool.{and_parts}
use Rattle.std.proofs.lemmas.Bool.Decides.{nat_tests}
use Rattle.std.proofs.lemmas.List.Folds.{list_any-append}
use Rattle.ep_int.specs.declared.types.Model.{Model}
use Rattle.ep_int.specs.Types.{size_of}
use Rattle.ep_layout.proofs.Sizes.{size_of_scalar}
use Rattle.ep_bitslice.specs.declared.cell.Side.{Side}
use Rattle.ep_bitslice.specs.declared.cell.Side.TheVariants.{Shared}
use Rattle.ep_cells.specs.declared.cell.Cell.{Cell}
use Rattle.ep_cells.specs.declared.place.ByteRange.{ByteRange}
use Rattle.ep_cells.specs.Cells.{place_of, touches, share_memory, encloses, meets, is_partly_in, is_same_side, IsIn}
use Rattle.ep_cells.specs.Cells.{first, later}
use Rattle.ep_cells.specs.Look.{covers, cell_at, is_some_partly_in}
use Rattle.ep_cells.specs.States.{IsCell, AreCells}
use Rattle.ep_cells.proofs.Lists.{in_left, in_right}
use Rattle.ep_shared_parts.specs.declared.parts.Part.{Part}
use Rattle.ep_shared_parts.specs.Spread.{all_items, AreFrom, AreBelow, IsWindow}
use Rattle.ep_shared_parts.specs.Mentions.{number_at, number_of}
use Rattle.ep_shared_parts.proofs.Halving.{items_append}

pub split_items : {X : Type 0} (before window behind ps : List (Part X)) → ps ≡ before ++ (window ++ behind)
    → all_items ps ≡ all_items before ++ (all_items window ++ all_items behind)
split_items before window behind ps e = ap all_items e ∙ items_append before (window ++ behind) ∙ ap (λ xs. all_items
    before ++ xs) (items_append window behind)

-- ---- the cell of a byte

pub found_before : {N : Type 0} (d : Model) (s : Side) (b p : ℕ) (c : Cell N) (xs ys : List (Cell N))
    → cell_at d s b p xs ≡ Some c → cell_at d s b p (xs ++ ys) ≡ Some c
found_before d s b p c [] ys h = absurd (cc)
found_before d s b p c (x ∷ xs) ys h = by (covers d s b p x) h (λ k. found_before d s b p c xs ys k)
  where
    by : (t : Bool) → cond t (Some x) (cell_at d s b p xs) ≡ Some c → (cell_at d s b p xs ≡ Some c → cell_at d s b p
        (xs ++ ys) ≡ Some c) → cond t (Some x) (cell_at d s b p (xs ++ ys)) ≡ Some c
    by true k f = k
    by false k f = f k

pub found_behind : {N : Type 0} (d : Model) (s : Side) (b p : ℕ) (xs ys : List (Cell N)) → cell_at d s b p xs ≡ None
    → cell_at d s b p (xs ++ ys) ≡ cell_at d s b p ys
found_behind d s b p [] ys h = refl
found_behind d s b p (x ∷ xs) ys h = by (covers d s b p x) h (λ k. found_behind d s b p xs ys k)
  where
    by : (t : Bool) → cond t (Some x) (cell_at d s b p xs) ≡ None → (cell_at d s b p xs ≡ None → cell_at d s b p (xs
        ++ ys) ≡ cell_at d s b p ys) → cond t (Some x) (cell_at d s b p (xs ++ ys)) ≡ cell_at d s b p ys
    by true k f = absurd (cc)
    by false k f = f k

none_behind : {N : Type 0} (d : Model) (s : Side) (b p : ℕ) (xs ys : List (Cell N)) → cell_at d s b p ys ≡ None
    → cell_at d s b p (xs ++ ys) ≡ cell_at d s b p xs
none_behind d s b p [] ys h = h
none_behind d s b p (x ∷ xs) ys h = ap (λ o. cond (covers d s b p x) (Some x) o) (none_behind d s b p xs ys h)

-- a cell that has the byte begins there or up to seven bytes before
pub covered_number : {N : Type 0} (d : Model) (s : Side) (b p : ℕ) (c : Cell N) → covers d s b p c ≡ true
    → (number_at b (p - 7) ≤ number_of c) × (number_of c ≤ number_at b p)
covered_number d s b p c h =
    let both = and_parts (is_same_side c.side s || is_same_side c.side Shared) (nat_eq c.block b && (nat_le c.offset
    p && nat_lt p (c.offset + size_of d c.what))) h in
    let here = and_parts (nat_eq c.block b) (nat_le c.offset p && nat_lt p (c.offset + size_of d c.what)) both.1 in
    let ends = and_parts (nat_le c.offset p) (nat_lt p (c.offset + size_of d c.what)) here.1 in
    let block : c.block ≡ b = grind (arith, nat_tests, here.0) in
    let from : c.offset ≤ p = grind (arith, nat_tests, ends.0) in
    let to : p < c.offset + size_of d c.what = grind (arith, nat_tests, ends.1) in
    let small : size_of d c.what ≤ 8 = (size_of_scalar d c.what).1 in
    (omega (arith, block, from, to, small), omega (arith, block, from))

none_below : {N : Type 0} (d : Model) (s : Side) (b p : ℕ) (cs : List (Cell N))
    → AreBelow (number_at b (p - 7)) (map number_of cs) → cell_at d s b p cs ≡ None
none_below d s b p [] h = refl
none_below d s b p (c ∷ cs) h = by (covers d s b p c) refl (none_below d s b p cs h.1)
  where
    by : (t : Bool) → covers d s b p c ≡ t → cell_at d s b p cs ≡ None → cond t (Some c) (cell_at d s b p cs) ≡ None
    by true e k = let r = covered_number d s b p c e in absurd (omega (arith, r.0, h.0))
    by false e k = k

none_above : {N : Type 0} (d : Model) (s : Side) (b p : ℕ) (cs : List (Cell N))
    → AreFrom (suc (number_at b p)) (map number_of cs) → cell_at d s b p cs ≡ None
none_above d s b p [] h = refl
none_above d s b p (c ∷ cs) h = by (covers d s b p c) refl (none_above d s b p cs h.1)
  where
    by : (t : Bool) → covers d s b p c ≡ t → cell_at d s b p cs ≡ None → cond t (Some c) (cell_at d s b p cs) ≡ None
    by true e k = let r = covered_number d s b p c e in absurd (omega (arith, r.1, h.0))
    by false e k = k

pub cell_in_window : {N : Type 0} (d : Model) (s : Side) (b p from last : ℕ) (ps window : List (Part (Cell N)))
    → from ≡ number_at b (p - 7) → last ≡ number_at b p → IsWindow number_of from last ps window
    → cell_at d s b p (all_items window) ≡ cell_at d s b p (all_items ps)
cell_in_window d s b p from last ps window f l w =
    let below = none_below d s b p (all_items w.before) (subst (λ k. AreBelow k (map number_of (all_items w.before)))
    f w.below) in
    let above = none_above d s b p (all_items w.behind) (subst (λ k. AreFrom (suc k) (map number_of (all_items
    w.behind))) l w.above) in
    sym (ap (cell_at d s b p) (split_items w.before window w.behind ps w.whole)
    ∙ found_behind d s b p (all_items w.before) (all_items window ++ all_items w.behind) below
    ∙ none_behind d s b p (all_items window) (all_items w.behind) above)

-- ---- what touches a place

-- the numbers from which and up to which cells may touch a place
pub record Reaches (p : ByteRange) (from last : ℕ) : Type 0 where
  pub first : from ≡ number_at p.block (p.offset - 7)
  pub end : (q : ℕ) → q < p.offset + p.bytes → q < 4294967296 → number_at p.block q ≤ last

pub touched_at : (p q : ByteRange) (from last : ℕ) → Reaches p from last → q.bytes ≤ 8 → q.offset < 4294967296
    → touches p q ≡ true → (from ≤ number_at q.block q.offset) × (number_at q.block q.offset ≤ last)
touched_at p q from last r small low h =
    let both = and_parts (nat_eq p.block q.block) (nat_lt p.offset (q.offset + q.bytes) && nat_lt q.offset (p.offset +
    p.bytes)) h in
    let ends = and_parts (nat_lt p.offset (q.offset + q.bytes)) (nat_lt q.offset (p.offset + p.bytes)) both.1 in
    let block : p.block ≡ q.block = grind (arith, nat_tests, both.0) in
    let before : p.offset < q.offset + q.bytes = grind (arith, nat_tests, ends.0) in
    let behind : q.offset < p.offset + p.bytes = grind (arith, nat_tests, ends.1) in
    let end : number_at p.block q.offset ≤ last = r.end q.offset behind low in
    let first : from ≡ number_at p.block (p.offset - 7) = r.first in
    (omega (arith, block, before, small, first), omega (arith, block, end))

pub touched_number : {N : Type 0} (d : Model) (p : ByteRange) (c : Cell N) (from last : ℕ) → Reaches p from last
    → IsCell d c → touches p (place_of d c) ≡ true → (from ≤ number_of c) × (number_of c ≤ last)
touched_number d p c from last r i h =
    let size = size_of_scalar d c.what in
    let end : c.offset + size_of d c.what ≤ 2 ^ 32 = i.fits.last in
    touched_at p (place_of d c) from last r size.1 (omega (arith, size.0, end)) h

partly_number : {N : Type 0} (d : Model) (p : ByteRange) (c : Cell N) (from last : ℕ) → Reaches p from last
    → IsCell d c → is_partly_in p (place_of d c) ≡ true → (from ≤ number_of c) × (number_of c ≤ last)
partly_number d p c from last r i h =
    touched_number d p c from last r i (and_parts (share_memory p.side c.side) (touches p (place_of d c)) (and_parts
    (meets p (place_of d c)) (not (encloses p (place_of d c))) h).0).1

none_partly_below : {N : Type 0} (d : Model) (p : ByteRange) (from last : ℕ) (cs : List (Cell N)) → Reaches p from last
    → ((c : Cell N) → IsIn c cs → IsCell d c) → AreBelow from (map number_of cs) → is_some_partly_in d p cs ≡ false
none_partly_below d p from last [] r i h = refl
none_partly_below d p from last (c ∷ cs) r i h = by (is_partly_in p (place_of d c)) refl (none_partly_below d p from
    last cs r (λ x k. i x (later c cs k)) h.1)
  where
    by : (t : Bool) → is_partly_in p (place_of d c) ≡ t → is_some_partly_in d p cs ≡ false → (t || is_some_partly_in d
        p cs) ≡ false
    by true e k = let n = partly_number d p c from last r (i c (first cs)) e in absurd (omega (arith, n.0, h.0))
    by false e k = k

none_partly_above : {N : Type 0} (d : Model) (p : ByteRange) (from last : ℕ) (cs : List (Cell N)) → Reaches p from last
    → ((c : Cell N) → IsIn c cs → IsCell d c) → AreFrom (suc last) (map number_of cs) → is_some_partly_in d p cs ≡
    false
none_partly_above d p from last [] r i h = refl
none_partly_above d p from last (c ∷ cs) r i h = by (is_partly_in p (place_of d c)) refl (none_partly_above d p from
    last cs r (λ x k. i x (later c cs k)) h.1)
  where
    by : (t : Bool) → is_partly_in p (place_of d c) ≡ t → is_some_partly_in d p cs ≡ false → (t || is_some_partly_in d
        p cs) ≡ false
    by true e k = let n = partly_number d p c from last r (i c (first cs)) e in absurd (omega (arith, n.1, h.0))
    by false e k = k

pub partly_in_window : {N : Type 0} (d : Model) (p : ByteRange) (from last : ℕ) (ps window : List (Part (Cell N)))
    → Reaches p from last → AreCells d (all_items ps) → IsWindow number_of from last ps window
    → is_some_partly_in d p (all_items window) ≡ is_some_partly_in d p (all_items ps)
partly_in_window {N = N} d p from last ps window r a w =
    let whole = split_items w.before window w.behind ps w.whole in
    let each : (c : Cell N) → IsIn c (all_items w.before ++ (all_items window ++ all_items w.behind)) → IsCell d c =
    subst (λ cs. (c : Cell N) → IsIn c cs → IsCell d c) whole a.each in
    let test = λ (c : Cell N). is_partly_in p (place_of d c) in
    let below = none_partly_below d p from last (all_items w.before) r (λ c k. each c (in_left c (all_items w.before)
    (all_items window ++ all_items w.behind) k)) w.below in
    let above = none_partly_above d p from last (all_items w.behind) r (λ c k. each c (in_right c (all_items w.before)
    (all_items window ++ all_items w.behind) (in_right c (all_items window) (all_items w.behind) k))) w.above in
    sym (ap (list_any test) whole
    ∙ list_any-append test (all_items w.before) (all_items window ++ all_items w.behind)
    ∙ ap (λ t. t || list_any test (all_items window ++ all_items w.behind)) below
    ∙ list_any-append test (all_items window) (all_items w.behind)
    ∙ ap (λ t. list_any test (all_items window) || t) above
    ∙ or-false (list_any test (all_items window)))
