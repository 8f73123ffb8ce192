-- Cells of one state among those of another, part by part.
use Rattle.std.proofs.Common.{◌≡◌, ℕ, suc, Bool, true, false, cond, ◌&&◌, nat_eq, List, [], ◌∷◌, ◌++◌, map, Some}
use Rattle.std.proofs.Common.{None, refl, sym, ◌∙◌, ap, subst, arith}
use Rattle.std.specs.Option.{option_map_or}
use Rattle.std.proofs.lemmas.Bool.{and_parts}
use Rattle.std.proofs.lemmas.Bool.Decides.{nat_tests}
use Rattle.std.proofs.lemmas.List.Folds.{list_all-append}
use Rattle.ep_domain.specs.Domain.{Ops}
use Rattle.ep_cells.specs.declared.cell.Cell.{Cell}
use Rattle.ep_cells.specs.Cells.{is_same_side, is_same_scalar, is_same_place, is_same_cell}
use Rattle.ep_cells.specs.Both.{is_cell_within, cell_like, are_within}
use Rattle.ep_shared_parts.specs.declared.parts.Part.{Part}
use Rattle.ep_shared_parts.specs.Spread.{all_items, AreFrom, AreBelow, IsWindow}
use Rattle.ep_shared_parts.specs.Mentions.{number_of}
use Rattle.ep_bicells.proofs.Looking.{split_items}

-- ---- the cell like another

pub like_before : {N : Type 0} (y c : Cell N) (xs zs : List (Cell N)) → cell_like y xs ≡ Some c
    → cell_like y (xs ++ zs) ≡ Some c
like_before y c [] zs h = absurd (cc)
like_before y c (x ∷ xs) zs h = by (is_same_cell x y) h (λ k. like_before y c xs zs k)
  where
    by : (t : Bool) → cond t (Some x) (cell_like y xs) ≡ Some c → (cell_like y xs ≡ Some c → cell_like y (xs ++ zs) ≡
        Some c) → cond t (Some x) (cell_like y (xs ++ zs)) ≡ Some c
    by true k f = k
    by false k f = f k

pub like_behind : {N : Type 0} (y : Cell N) (xs zs : List (Cell N)) → cell_like y xs ≡ None
    → cell_like y (xs ++ zs) ≡ cell_like y zs
like_behind y [] zs h = refl
like_behind y (x ∷ xs) zs h = by (is_same_cell x y) h (λ k. like_behind y xs zs k)
  where
    by : (t : Bool) → cond t (Some x) (cell_like y xs) ≡ None → (cell_like y xs ≡ None → cell_like y (xs ++ zs) ≡
        cell_like y zs) → cond t (Some x) (cell_like y (xs ++ zs)) ≡ cell_like y zs
    by true k f = absurd (cc)
    by false k f = f k

unlike_behind : {N : Type 0} (y : Cell N) (xs zs : List (Cell N)) → cell_like y zs ≡ None
    → cell_like y (xs ++ zs) ≡ cell_like y xs
unlike_behind y [] zs h = h
unlike_behind y (x ∷ xs) zs h = ap (λ o. cond (is_same_cell x y) (Some x) o) (unlike_behind y xs zs h)

same_number : {N : Type 0} (x y : Cell N) → is_same_cell x y ≡ true → number_of x ≡ number_of y
same_number x y h =
    let place = and_parts (is_same_side x.side y.side) (is_same_place x y) h in
    let both = and_parts (nat_eq x.block y.block) (nat_eq x.offset y.offset && is_same_scalar x.what y.what) place.1
    in
    let ends = and_parts (nat_eq x.offset y.offset) (is_same_scalar x.what y.what) both.1 in
    let block : x.block ≡ y.block = grind (arith, nat_tests, both.0) in
    let offset : x.offset ≡ y.offset = grind (arith, nat_tests, ends.0) in
    omega (arith, block, offset)

unlike_below : {N : Type 0} (y : Cell N) (xs : List (Cell N)) → AreBelow (number_of y) (map number_of xs)
    → cell_like y xs ≡ None
unlike_below y [] h = refl
unlike_below y (x ∷ xs) h = by (is_same_cell x y) refl (unlike_below y xs h.1)
  where
    by : (t : Bool) → is_same_cell x y ≡ t → cell_like y xs ≡ None → cond t (Some x) (cell_like y xs) ≡ None
    by true e k = absurd (omega (arith, same_number x y e, h.0))
    by false e k = k

unlike_above : {N : Type 0} (y : Cell N) (xs : List (Cell N)) → AreFrom (suc (number_of y)) (map number_of xs)
    → cell_like y xs ≡ None
unlike_above y [] h = refl
unlike_above y (x ∷ xs) h = by (is_same_cell x y) refl (unlike_above y xs h.1)
  where
    by : (t : Bool) → is_same_cell x y ≡ t → cell_like y xs ≡ None → cond t (Some x) (cell_like y xs) ≡ None
    by true e k = absurd (omega (arith, same_number x y e, h.0))
    by false e k = k

pub like_window : {N : Type 0} (y : Cell N) (k : ℕ) (ps window : List (Part (Cell N))) → k ≡ number_of y
    → IsWindow number_of k k ps window → cell_like y (all_items window) ≡ cell_like y (all_items ps)
like_window y k ps window e w =
    let below = unlike_below y (all_items w.before) (subst (λ n. AreBelow n (map number_of (all_items w.before))) e
    w.below) in
    let above = unlike_above y (all_items w.behind) (subst (λ n. AreFrom (suc n) (map number_of (all_items
    w.behind))) e w.above) in
    sym (ap (cell_like y) (split_items w.before window w.behind ps w.whole)
    ∙ like_behind y (all_items w.before) (all_items window ++ all_items w.behind) below
    ∙ unlike_behind y (all_items window) (all_items w.behind) above)

-- ---- inclusion

abbrev has : {N : Type 0} → Ops N → List (Cell N) → Cell N → Bool
has D xs y = option_map_or (λ x. is_cell_within D x y) (cell_like y xs) false

pub within_more : {N : Type 0} (D : Ops N) (xs ys zs : List (Cell N)) → are_within D xs ys ≡ true
    → are_within D xs (ys ++ zs) ≡ are_within D xs zs
within_more D xs ys zs h = list_all-append (has D xs) ys zs ∙ ap (λ b. b && are_within D xs zs) h

pub within_none : {N : Type 0} (D : Ops N) (xs ys zs : List (Cell N)) → are_within D xs ys ≡ false
    → are_within D xs (ys ++ zs) ≡ false
within_none D xs ys zs h = list_all-append (has D xs) ys zs ∙ ap (λ b. b && are_within D xs zs) h
