-- A cell that takes another value, in the part that has it.
use Rattle.std.proofs.Common.{◌≡◌, ℕ, zero, suc, ◌-◌, ◌<◌, Bool, true, false, cond, IsTrue, is_some, List, [], ◌∷◌}
use Rattle.ep_cell_steps.proofs.Local.{map_append}
use Rattle.ep_cell_ranges.proofs.Narrowing.{either_cell}
use Rattle.std.proofs.Common.{◌++◌, map, length, take, drop, set, get_or, Option, Some, None, IfSome, refl, sym, ◌∙◌}
use Rattle.std.proofs.Common.{ap, subst, arith, append_assoc}
use Rattle.std.proofs.lemmas.Bool.{false_from_ne_true}
use Rattle.ep_int.specs.declared.types.Model.{Model}
use Rattle.ep_bitslice.specs.declared.cell.CellName.{CellName}
use Rattle.ep_bitslice.specs.declared.segment.Segment.{Segment}
use Rattle.ep_cells.specs.declared.cell.Cell.{Cell}
use Rattle.ep_cells.specs.declared.cell.Value.{Value}
use Rattle.ep_cells.specs.Cells.{is_same_cell, IsIn, IsNamed, first, later}
use Rattle.ep_cells.specs.States.{IsOfSort, HasRisingBlocks, IsCell, IsThere, IsFormOf, HasForm, AreApart, AreCells}
use Rattle.ep_cells.proofs.Lists.{in_map, map_in, pairs_map}
use Rattle.ep_cells.proofs.Both.{alike_same}
use Rattle.ep_shared_parts.specs.declared.parts.Part.{Part}
use Rattle.ep_shared_parts.specs.declared.uses.Use.{Use}
use Rattle.ep_shared_parts.specs.Spread.{outline, outlines, all_items, AreFrom, AreBelow, AreSpread, parts_to}
use Rattle.ep_shared_parts.specs.Mentions.{number_at, number_of, AreIndexed}
use Rattle.ep_shared_parts.proofs.Spreading.{below_to, above_to, parts_to_le, outlines_as_many}
use Rattle.ep_cell_steps.specs.PartsInvariant.{IsIndexed, AreKept}
use Rattle.ep_cell_parts.specs.Valued.{valued}
use Rattle.ep_cell_steps.proofs.Local.{from_at, below_at, indexed_same}

abbrev with : {N : Type 0} → Cell N → Option (Value N) → Cell N
with x v = record x { value = v }

-- ---- the cells

apart_valued : {N : Type 0} (d : Model) (v : Option (Value N)) (x y : Cell N) (a b : Bool) → AreApart d x y
    → AreApart d (cond a (with x v) x) (cond b (with y v) y)
apart_valued d v x y true true r = record { ordered = r.ordered; apart = r.apart }
apart_valued d v x y true false r = record { ordered = r.ordered; apart = r.apart }
apart_valued d v x y false true r = record { ordered = r.ordered; apart = r.apart }
apart_valued d v x y false false r = r

there_valued : {N : Type 0} (c : Cell N) (v : Option (Value N)) (n : CellName) (cs : List (Cell N)) → IsThere n cs
    → IsThere n (map (valued c v) cs)
there_valued {N = N} c v n cs h = record {
  cell = valued c v h.cell;
  is_in = map_in (valued c v) h.cell cs h.is_in;
  named = either_cell (λ (z : Cell N). IsNamed n z) (with h.cell v) h.cell (is_same_cell h.cell c)
      (λ _. record { side = h.named.side; block = h.named.block; offset = h.named.offset; what = h.named.what }) (λ _. h.named);
  sure = either_cell (λ (z : Cell N). z.maybe ≡ false) (with h.cell v) h.cell (is_same_cell h.cell c) (λ _. h.sure) (λ _. h.sure);
}

form_valued : {N : Type 0} (c : Cell N) (v : Option (Value N)) (cs : List (Cell N)) (x : Cell N) (o : Option (List Segment))
    → IfSome o (IsFormOf cs x) → IfSome o (IsFormOf (map (valued c v) cs) x)
form_valued c v cs x None h = tt
form_valued c v cs x (Some ss) h = record {
  sure = h.sure;
  wide = h.wide;
  form = h.form;
  mentioned = λ n i. there_valued c v n cs (h.mentioned n i);
}

form_with : {N : Type 0} (cs : List (Cell N)) (x : Cell N) (v : Option (Value N)) (o : Option (List Segment))
    → IfSome o (IsFormOf cs x) → IfSome o (IsFormOf cs (with x v))
form_with cs x v None h = tt
form_with cs x v (Some ss) h = record { sure = h.sure; wide = h.wide; form = h.form; mentioned = h.mentioned }

some_not : {X : Type 0} (o : Option X) → IsTrue (is_some o) → o ≡ None → ⊥
some_not None s e = absurd cc
some_not (Some x) s e = absurd cc

valued_cells : {N : Type 0} (d : Model) (cs : List (Cell N)) (c : Cell N) → AreCells d cs
    → IsOfSort c.what c.value → IsTrue (is_some c.value) → HasRisingBlocks c.value
    → AreCells d (map (valued c c.value) cs)
valued_cells d cs c a sort some rising = record {
  each = λ y h.
      let t = in_map (valued c c.value) y cs h in
      subst (IsCell d) (sym t.is)
      (either_cell (IsCell d) (with t.origin c.value) t.origin (is_same_cell t.origin c)
      (λ e. record {
        fits = record {
          sort = subst (λ w. IsOfSort w c.value) (sym (alike_same t.origin c e).what) sort;
          undefined = λ q. absurd (some_not c.value some q);
          last = (a.each t.origin t.is_in).fits.last;
        };
        rising = rising;
      }) (λ _. a.each t.origin t.is_in));
  pairs = pairs_map (AreApart d) (valued c c.value) cs a.pairs
      (λ x y r. apart_valued d c.value x y (is_same_cell x c) (is_same_cell y c) r);
  forms = λ y h.
      let t = in_map (valued c c.value) y cs h in
      let f = form_valued c c.value cs t.origin t.origin.form (a.forms t.origin t.is_in) in
      subst (HasForm (map (valued c c.value) cs)) (sym t.is)
      (either_cell (HasForm (map (valued c c.value) cs)) (with t.origin c.value) t.origin (is_same_cell t.origin c)
      (λ _. form_with (map (valued c c.value) cs) t.origin c.value t.origin.form f) (λ _. f));
}

-- ---- the parts

valued_number : {N : Type 0} (c : Cell N) (v : Option (Value N)) (x : Cell N) (b : Bool)
    → number_of (cond b (with x v) x) ≡ number_of x
valued_number c v x true = refl
valued_number c v x false = refl

valued_numbers : {N : Type 0} (c : Cell N) (v : Option (Value N)) (xs : List (Cell N))
    → map number_of (map (valued c v) xs) ≡ map number_of xs
valued_numbers c v [] = refl
valued_numbers c v (x ∷ xs) =
    ap (λ n. n ∷ map number_of (map (valued c v) xs)) (valued_number c v x (is_same_cell x c))
    ∙ ap (λ ns. number_of x ∷ ns) (valued_numbers c v xs)

-- a cell that begins elsewhere stays
elsewhere : {N : Type 0} (c : Cell N) (v : Option (Value N)) (x : Cell N) → (number_of x ≡ number_of c → ⊥)
    → valued c v x ≡ x
elsewhere c v x h = ap (λ b. cond b (with x v) x) (false_from_ne_true (is_same_cell x c) (λ e.
    let a = alike_same x c e in
    h (ap (λ b. number_at b x.offset) a.block ∙ ap (λ q. number_at c.block q) a.offset)))

all_elsewhere : {N : Type 0} (c : Cell N) (v : Option (Value N)) (xs : List (Cell N))
    → ((x : Cell N) → IsIn x xs → number_of x ≡ number_of c → ⊥) → map (valued c v) xs ≡ xs
all_elsewhere c v [] h = refl
all_elsewhere c v (x ∷ xs) h =
    ap (λ z. z ∷ map (valued c v) xs) (elsewhere c v x (h x (first xs)))
    ∙ ap (λ zs. x ∷ zs) (all_elsewhere c v xs (λ y k. h y (later x xs k)))

pub all_below : {N : Type 0} (c : Cell N) (v : Option (Value N)) (xs : List (Cell N))
    → AreBelow (number_of c) (map number_of xs) → map (valued c v) xs ≡ xs
all_below c v xs h =
    all_elsewhere c v xs (λ x k e. let l = below_at (number_of c) x xs h k in absurd (omega (arith, l, e)))

pub all_above : {N : Type 0} (c : Cell N) (v : Option (Value N)) (xs : List (Cell N))
    → AreFrom (suc (number_of c)) (map number_of xs) → map (valued c v) xs ≡ xs
all_above c v xs h =
    all_elsewhere c v xs (λ x k e. let l = from_at (suc (number_of c)) x xs h k in absurd (omega (arith, l, e)))

-- all items, around those of one part
pub set_around : {X : Type 0} (ps : List (Part X)) (i : ℕ) (q : Part X) → i < length ps
    → all_items (set ps i q) ≡ all_items (take i ps) ++ (q.items.value.items ++ all_items (drop (suc i) ps))
set_around [] i q h = absurd (omega arith)
set_around (t ∷ ts) zero q h = refl
set_around (t ∷ ts) (suc i) q h =
    ap (λ xs. t.items.value.items ++ xs) (set_around ts i q (omega arith))
    ∙ sym (append_assoc t.items.value.items (all_items (take i ts)) (q.items.value.items ++ all_items (drop (suc i) ts)))

pub items_around : {X : Type 0} (ps : List (Part X)) (i : ℕ) (p : Part X) → i < length ps → p ≡ get_or ps i p
    → all_items ps ≡ all_items (take i ps) ++ (p.items.value.items ++ all_items (drop (suc i) ps))
items_around [] i p h e = absurd (omega arith)
items_around (t ∷ ts) zero p h e = ap (λ z. z.items.value.items ++ all_items ts) (sym e)
items_around (t ∷ ts) (suc i) p h e =
    ap (λ xs. t.items.value.items ++ xs) (items_around ts i p (omega arith) e)
    ∙ sym (append_assoc t.items.value.items (all_items (take i ts)) (p.items.value.items ++ all_items (drop (suc i) ts)))

pub set_outlines : {X : Type 0} (number : X → ℕ) (ps : List (Part X)) (i : ℕ) (p q : Part X) → p ≡ get_or ps i p
    → outline number q ≡ outline number p → outlines number (set ps i q) ≡ outlines number ps
set_outlines number [] i p q e o = refl
set_outlines number (t ∷ ts) zero p q e o =
    ap (λ z. z ∷ outlines number ts) (o ∙ ap (outline number) e)
set_outlines number (t ∷ ts) (suc i) p q e o = ap (λ zs. outline number t ∷ zs) (set_outlines number ts i p q e o)

pub same_outline : {N : Type 0} (c : Cell N) (v : Option (Value N)) (p q : Part (Cell N)) → q.start ≡ p.start
    → q.items.value.items ≡ map (valued c v) p.items.value.items → outline number_of q ≡ outline number_of p
same_outline c v p q s e =
    ap (λ j. record { start = j; numbers = map number_of q.items.value.items }) s
    ∙ ap (λ ns. record { start = p.start; numbers = ns }) (ap (map number_of) e ∙ valued_numbers c v p.items.value.items)

around : {N : Type 0} (c : Cell N) (v : Option (Value N)) (xs ys zs : List (Cell N)) → map (valued c v) xs ≡ xs
    → map (valued c v) zs ≡ zs → xs ++ (map (valued c v) ys ++ zs) ≡ map (valued c v) (xs ++ (ys ++ zs))
around c v xs ys zs e f =
    sym (map_append (valued c v) xs (ys ++ zs)
    ∙ ap (λ l. l ++ map (valued c v) (ys ++ zs)) e
    ∙ ap (λ l. xs ++ l) (map_append (valued c v) ys zs ∙ ap (λ l. map (valued c v) ys ++ l) f))

positive : (r : ℕ) → (r ≡ 0 → ⊥) → 0 < r
positive zero z = absurd (z refl)
positive (suc r) z = omega arith

-- the part that starts last, of those that start there or before
pub spot_of : {N : Type 0} (k r : ℕ) (rs ps : List (Part (Cell N))) → rs ≡ ps → r ≡ parts_to k (outlines number_of rs)
    → (r ≡ 0 → ⊥) → (suc (r - 1) ≡ parts_to k (outlines number_of ps)) × (r - 1 < length ps)
spot_of k r rs ps e t z =
    let there : r ≡ parts_to k (outlines number_of ps) = t ∙ ap (λ x. parts_to k (outlines number_of x)) e in
    let some : 0 < r = positive r z in
    let le = parts_to_le k (outlines number_of ps) in
    let many = outlines_as_many number_of ps in
    (omega (arith, there, some), omega (arith, there, some, le, many))

-- in the part in which it lies
pub valued_items : {N : Type 0} (c : Cell N) (v : Option (Value N)) (k i : ℕ) (ps : List (Part (Cell N)))
    (p q : Part (Cell N)) → k ≡ number_of c → AreSpread (outlines number_of ps)
    → suc i ≡ parts_to k (outlines number_of ps) → i < length ps → p ≡ get_or ps i p
    → q.items.value.items ≡ map (valued c v) p.items.value.items
    → all_items (set ps i q) ≡ map (valued c v) (all_items ps)
valued_items c v k i ps p q n s t b e f =
    let there : suc i ≡ parts_to (number_of c) (outlines number_of ps) = subst (λ j. suc i ≡ parts_to j (outlines
    number_of ps)) n t in
    let below = all_below c v (all_items (take i ps)) (below_to number_of (number_of c) ps i s (omega (arith, there))) in
    let above = all_above c v (all_items (drop (suc i) ps)) (subst (λ j. AreFrom (suc (number_of c)) (map number_of
    (all_items (drop j ps)))) (sym there) (above_to number_of (number_of c) ps s)) in
    set_around ps i q b
    ∙ ap (λ l. all_items (take i ps) ++ (l ++ all_items (drop (suc i) ps))) f
    ∙ around c v (all_items (take i ps)) p.items.value.items (all_items (drop (suc i) ps)) below above
    ∙ ap (map (valued c v)) (sym (items_around ps i p b e))

-- no part has it
pub valued_none : {N : Type 0} (c : Cell N) (v : Option (Value N)) (k i : ℕ) (ps : List (Part (Cell N)))
    → k ≡ number_of c → AreSpread (outlines number_of ps) → i ≡ parts_to k (outlines number_of ps) → i ≡ 0
    → all_items ps ≡ map (valued c v) (all_items ps)
valued_none {N = N} c v k i ps n s t z =
    let none : 0 ≡ parts_to (number_of c) (outlines number_of ps) = sym z ∙ subst (λ j. i ≡ parts_to j (outlines
    number_of ps)) n t in
    sym (all_above c v (all_items ps) (start ps (subst (λ j. AreFrom (suc (number_of c)) (map number_of (all_items
    (drop j ps)))) (sym none) (above_to number_of (number_of c) ps s))))
  where
    start : (qs : List (Part (Cell N))) → AreFrom (suc (number_of c)) (map number_of (all_items (drop 0 qs)))
        → AreFrom (suc (number_of c)) (map number_of (all_items qs))
    start qs h = h

-- ---- the index

indexed_valued : {N : Type 0} (us : List Use) (c : Cell N) (v : Option (Value N)) (cs : List (Cell N))
    → AreIndexed us cs → AreIndexed us (map (valued c v) cs)
indexed_valued us c v cs h y k =
    let r = in_map (valued c v) y cs k in
    subst (IsIndexed us) (sym r.is)
    (either_cell (IsIndexed us) (with r.origin v) r.origin (is_same_cell r.origin c)
    (λ _. indexed_same us r.origin (with r.origin v) refl refl (h r.origin r.is_in)) (λ _. h r.origin r.is_in))

pub valued_kept : {N : Type 0} (d : Model) (c : Cell N) (ps qs : List (Part (Cell N))) (us : List (Part Use))
    → AreKept d ps us → IsOfSort c.what c.value → IsTrue (is_some c.value) → HasRisingBlocks c.value
    → outlines number_of qs ≡ outlines number_of ps → all_items qs ≡ map (valued c c.value) (all_items ps)
    → AreKept d qs us
valued_kept d c ps qs us k sort some rising o e = record {
  spread = subst AreSpread (sym o) k.spread;
  uses = k.uses;
  cells = subst (AreCells d) (sym e) (valued_cells d (all_items ps) c k.cells sort some rising);
  indexed = subst (AreIndexed (all_items us)) (sym e) (indexed_valued (all_items us) c c.value (all_items ps) k.indexed);
}
