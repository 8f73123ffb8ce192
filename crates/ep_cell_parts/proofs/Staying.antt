-- Left and Right cells that stay, and the cell that begins at a place, part by part.
use Rattle.std.proofs.Common.{◌≡◌, ℕ, suc, ◌+◌, ◌<◌, ◌≤◌, Bool, true, false, cond, ◌&&◌, not, nat_eq, List, [], ◌∷◌}
use Rattle.std.proofs.lemmas.List.{append-nil}
use Rattle.std.proofs.lemmas.Bool.{not-true}
use Rattle.std.proofs.Common.{◌++◌, map, length, drop, get_or, Option, Some, None, refl, sym, ◌∙◌, ap, subst, arith}
use Rattle.std.proofs.Common.{append_assoc}
use Rattle.std.proofs.Math.ListN.{drop_of_length-le}
use Rattle.std.proofs.lemmas.Bool.{and_parts}
use Rattle.std.proofs.lemmas.Bool.Decides.{nat_tests}
use Rattle.ep_bitslice.specs.declared.cell.Side.{Side}
use Rattle.ep_bitslice.specs.declared.cell.Side.TheVariants.{Left, Right}
use Rattle.ep_domain.specs.Domain.{Ops}
use Rattle.ep_cells.specs.declared.cell.Cell.{Cell}
use Rattle.ep_cells.specs.Cells.{is_same_side, put, each_becomes}
use Rattle.ep_cells.specs.Forms.{reformed}
use Rattle.ep_cells.specs.Reshare.{reshared_cell, left_by_reshare, fate_by_reshare, cell_from, reshared_pair}
use Rattle.ep_cells.specs.Reshare.{reshared_each, places, reshared}
use Rattle.ep_shared_parts.specs.declared.parts.Part.{Part}
use Rattle.ep_shared_parts.specs.Spread.{all_items, AreFrom, AreBelow, IsWindow}
use Rattle.ep_shared_parts.specs.Mentions.{number_at, number_of}
use Rattle.ep_bicells.proofs.Looking.{split_items}
use Rattle.ep_shared_parts.proofs.Steps.{items_at}
use Rattle.ep_cell_parts.specs.Alike.{is_same_pair, is_same_at, are_different}

abbrev begins : {N : Type 0} → Side → (b q : ℕ) → Cell N → Bool
begins s b q c = is_same_side c.side s && (nat_eq c.block b && nat_eq c.offset q)

pub from_before : {N : Type 0} (s : Side) (b q : ℕ) (c : Cell N) (xs zs : List (Cell N)) → cell_from s b q xs ≡ Some c
    → cell_from s b q (xs ++ zs) ≡ Some c
from_before s b q c [] zs h = absurd (cc)
from_before s b q c (x ∷ xs) zs h = by (begins s b q x) h (λ k. from_before s b q c xs zs k)
  where
    by : (t : Bool) → cond t (Some x) (cell_from s b q xs) ≡ Some c → (cell_from s b q xs ≡ Some c
        → cell_from s b q (xs ++ zs) ≡ Some c) → cond t (Some x) (cell_from s b q (xs ++ zs)) ≡ Some c
    by true k f = k
    by false k f = f k

pub from_behind : {N : Type 0} (s : Side) (b q : ℕ) (xs zs : List (Cell N)) → cell_from s b q xs ≡ None
    → cell_from s b q (xs ++ zs) ≡ cell_from s b q zs
from_behind s b q [] zs h = refl
from_behind s b q (x ∷ xs) zs h = by (begins s b q x) h (λ k. from_behind s b q xs zs k)
  where
    by : (t : Bool) → cond t (Some x) (cell_from s b q xs) ≡ None → (cell_from s b q xs ≡ None
        → cell_from s b q (xs ++ zs) ≡ cell_from s b q zs)
        → cond t (Some x) (cell_from s b q (xs ++ zs)) ≡ cell_from s b q zs
    by true k f = absurd (cc)
    by false k f = f k

not_behind : {N : Type 0} (s : Side) (b q : ℕ) (xs zs : List (Cell N)) → cell_from s b q zs ≡ None
    → cell_from s b q (xs ++ zs) ≡ cell_from s b q xs
not_behind s b q [] zs h = h
not_behind s b q (x ∷ xs) zs h = ap (λ o. cond (begins s b q x) (Some x) o) (not_behind s b q xs zs h)

begins_at : {N : Type 0} (s : Side) (b q : ℕ) (x : Cell N) → begins s b q x ≡ true → number_of x ≡ number_at b q
begins_at s b q x h =
    let p = and_parts (is_same_side x.side s) (nat_eq x.block b && nat_eq x.offset q) h in
    let r = and_parts (nat_eq x.block b) (nat_eq x.offset q) p.1 in
    let block : x.block ≡ b = grind (arith, nat_tests, r.0) in
    let offset : x.offset ≡ q = grind (arith, nat_tests, r.1) in
    omega (arith, block, offset)

not_below : {N : Type 0} (s : Side) (b q : ℕ) (xs : List (Cell N)) → AreBelow (number_at b q) (map number_of xs)
    → cell_from s b q xs ≡ None
not_below s b q [] h = refl
not_below s b q (x ∷ xs) h = by (begins s b q x) refl (not_below s b q xs h.1)
  where
    by : (t : Bool) → begins s b q x ≡ t → cell_from s b q xs ≡ None → cond t (Some x) (cell_from s b q xs) ≡ None
    by true e k = absurd (omega (arith, begins_at s b q x e, h.0))
    by false e k = k

not_above : {N : Type 0} (s : Side) (b q : ℕ) (xs : List (Cell N)) → AreFrom (suc (number_at b q)) (map number_of xs)
    → cell_from s b q xs ≡ None
not_above s b q [] h = refl
not_above s b q (x ∷ xs) h = by (begins s b q x) refl (not_above s b q xs h.1)
  where
    by : (t : Bool) → begins s b q x ≡ t → cell_from s b q xs ≡ None → cond t (Some x) (cell_from s b q xs) ≡ None
    by true e k = absurd (omega (arith, begins_at s b q x e, h.0))
    by false e k = k

pub from_window : {N : Type 0} (s : Side) (b q k : ℕ) (ps window : List (Part (Cell N))) → k ≡ number_at b q
    → IsWindow number_of k k ps window → cell_from s b q (all_items window) ≡ cell_from s b q (all_items ps)
from_window s b q k ps window e w =
    let below = not_below s b q (all_items w.before) (subst (λ n. AreBelow n (map number_of (all_items w.before))) e
    w.below) in
    let above = not_above s b q (all_items w.behind) (subst (λ n. AreFrom (suc n) (map number_of (all_items w.behind))) e
    w.above) in
    sym (ap (cell_from s b q) (split_items w.before window w.behind ps w.whole)
    ∙ from_behind s b q (all_items w.before) (all_items window ++ all_items w.behind) below
    ∙ not_behind s b q (all_items window) (all_items w.behind) above)

-- ---- places

places_append : {N : Type 0} (xs ys : List (Cell N)) → places (xs ++ ys) ≡ places xs ++ places ys
places_append [] ys = refl
places_append (x ∷ xs) ys = by (is_same_side x.side Left) (places_append xs ys)
  where
    by : (t : Bool) → places (xs ++ ys) ≡ places xs ++ places ys
        → cond t ((x.block, x.offset) ∷ places (xs ++ ys)) (places (xs ++ ys)) ≡ cond t ((x.block, x.offset) ∷ places xs)
        (places xs) ++ places ys
    by true e = ap (λ zs. (x.block, x.offset) ∷ zs) e
    by false e = e

pub places_step : {N : Type 0} (ps : List (Part (Cell N))) (i : ℕ) (p : Part (Cell N)) (out new more whole : List (ℕ ×
    ℕ)) → i < length ps → p ≡ get_or ps i p → more ≡ places p.items.value.items → new ≡ out ++ more
    → out ++ places (all_items (drop i ps)) ≡ whole → new ++ places (all_items (drop (i + 1) ps)) ≡ whole
places_step ps i p out new more whole b e m n h =
    ap (λ zs. zs ++ places (all_items (drop (i + 1) ps))) (n ∙ ap (λ z. out ++ z) m)
    ∙ append_assoc out (places p.items.value.items) (places (all_items (drop (i + 1) ps)))
    ∙ ap (λ zs. out ++ zs) (sym (ap places (items_at ps i p b e) ∙ places_append p.items.value.items (all_items (drop (i
    + 1) ps)))) ∙ h

pub places_end : {N : Type 0} (ps : List (Part (Cell N))) (i : ℕ) (out whole : List (ℕ × ℕ)) → length ps ≤ i
    → out ++ places (all_items (drop i ps)) ≡ whole → out ≡ whole
places_end ps i out whole le h =
    sym (append-nil out) ∙ sym (ap (λ zs. out ++ places (all_items zs)) (drop_of_length-le ps le)) ∙ h

pub place_more : {N : Type 0} (out new whole : List (ℕ × ℕ)) (x : Cell N) (xs ys : List (Cell N))
    → new ≡ out ++ places (x ∷ []) → xs ≡ x ∷ ys → out ++ places xs ≡ whole → new ++ places ys ≡ whole
place_more out new whole x xs ys n e h =
    ap (λ zs. zs ++ places ys) n ∙ append_assoc out (places (x ∷ [])) (places ys)
    ∙ ap (λ zs. out ++ zs) (sym (places_append (x ∷ []) ys)) ∙ ap (λ zs. out ++ places zs) (sym e) ∙ h

-- ---- what stays

pair_stays : {N : Type 0} (D : Ops N) (x y : Option (Cell N)) (cs : List (Cell N)) → is_same_pair D x y ≡ false
    → reshared_pair D x y cs ≡ cs
pair_stays D None y cs h = refl
pair_stays D (Some l) None cs h = refl
pair_stays D (Some l) (Some r) cs h =
    ap (λ t. cond t (map (reformed (fate_by_reshare l r)) (put (reshared_cell D l r) (each_becomes (left_by_reshare l)
    cs))) cs) h

each_stays : {N : Type 0} (D : Ops N) (ps : List (ℕ × ℕ)) (cs : List (Cell N)) → are_different D cs ps ≡ true
    → reshared_each D ps cs ≡ cs
each_stays D [] cs h = refl
each_stays D (p ∷ ps) cs h =
    let a = and_parts (not (is_same_at D p.0 p.1 cs)) (are_different D cs ps) h in
    ap (reshared_each D ps) (pair_stays D (cell_from Left p.0 p.1 cs) (cell_from Right p.0 p.1 cs) cs (not-true
    (is_same_at D p.0 p.1 cs) a.0)) ∙ each_stays D ps cs a.1

pub all_stay : {N : Type 0} (D : Ops N) (ps : List (ℕ × ℕ)) (cs : List (Cell N)) (b : Bool) → ps ≡ places cs
    → b ≡ are_different D cs ps → b ≡ true → cs ≡ reshared D cs
all_stay D ps cs b e f h =
    sym (each_stays D (places cs) cs (ap (are_different D cs) (sym e) ∙ sym f ∙ h))
