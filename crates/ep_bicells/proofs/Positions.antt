-- Cells of one side, place and type, found where they are expected.
use Rattle.std.proofs.Common.{◌≡◌, ℕ, zero, suc, Bool, true, false, cond, List, [], ◌∷◌, drop, Some, refl, sym, ◌∙◌}
use Rattle.std.proofs.Common.{ap, subst}
use Rattle.std.specs.Option.{option_map_or}
use Rattle.ep_domain.specs.Domain.{Ops}
use Rattle.ep_cells.specs.declared.cell.Cell.{Cell}
use Rattle.ep_cells.specs.Cells.{is_same_cell, IsIn, first, later}
use Rattle.ep_cells.specs.Both.{is_cell_within, cell_like}
use Rattle.ep_cells.specs.States.{AreAlike}
use Rattle.ep_cells.proofs.Both.{alike_same}
use Rattle.ep_cells.proofs.Lists.{in_right}
use Rattle.ep_shared_parts.specs.declared.parts.Part.{Part}
use Rattle.ep_shared_parts.specs.Spread.{all_items}
use Rattle.ep_bicells.specs.Distinct.{AreDistinct}

alike_both : {N : Type 0} (c x y : Cell N) → AreAlike c y → AreAlike x y → AreAlike c x
alike_both c x y a b = record {
  side = a.side ∙ sym b.side;
  block = a.block ∙ sym b.block;
  offset = a.offset ∙ sym b.offset;
  what = a.what ∙ sym b.what;
}

pub like_is : {N : Type 0} (x y : Cell N) (cs : List (Cell N)) → AreDistinct cs → IsIn x cs → is_same_cell x y ≡ true
    → cell_like y cs ≡ Some x
like_is x y [] d k h = elim k [ ]
like_is {N = N} x y (c ∷ cs) d k h =
    by (is_same_cell c y) refl (λ j. like_is x y cs (λ a b i l. d a b (later c cs i) (later c cs l)) j h)
  where
    tail : is_same_cell c y ≡ false → (xs : List (Cell N)) → xs ≡ c ∷ cs → IsIn x xs → IsIn x cs
    tail e _ q (first zs) =
        let same : x ≡ c = cc in
        absurd (let t : true ≡ false = sym h ∙ ap (λ z. is_same_cell z y) same ∙ e in cc)
    tail e _ q (later z zs j) = let same : zs ≡ cs = cc in subst (IsIn x) same j

    by : (b : Bool) → is_same_cell c y ≡ b → (IsIn x cs → cell_like y cs ≡ Some x)
        → cond b (Some c) (cell_like y cs) ≡ Some x
    by true e go = ap Some (d c x (first cs) k (alike_both c x y (alike_same c y e) (alike_same x y h)))
    by false e go = go (tail e (c ∷ cs) refl k)

-- a cell from a place on is one of all
in_drop : {X : Type 0} (P : List X → Type 0) (n : ℕ) (xs : List X) → ((y : X) (ys : List X) → P ys → P (y ∷ ys))
    → P (drop n xs) → P xs
in_drop P zero xs f h = h
in_drop P (suc n) [] f h = h
in_drop P (suc n) (x ∷ xs) f h = f x xs (in_drop P n xs f h)

in_items : {N : Type 0} (x : Cell N) (n : ℕ) (ps : List (Part (Cell N))) → IsIn x (all_items (drop n ps))
    → IsIn x (all_items ps)
in_items x zero ps h = h
in_items x (suc n) [] h = h
in_items x (suc n) (p ∷ ps) h = in_right x p.items.value.items (all_items ps) (in_items x n ps h)

pub in_rest : {N : Type 0} (x : Cell N) (n i : ℕ) (ps : List (Part (Cell N))) (zs : List (Cell N))
    → drop i (all_items (drop n ps)) ≡ x ∷ zs → IsIn x (all_items ps)
in_rest x n i ps zs e =
    in_items x n ps (in_drop (IsIn x) i (all_items (drop n ps)) (λ y ys h. later y ys h)
    (subst (IsIn x) (sym e) (first zs)))

-- where the cell that is expected is like it
pub has_expected : {N : Type 0} (D : Ops N) (x y : Cell N) (cs : List (Cell N)) (b : Bool) → AreDistinct cs → IsIn x cs
    → b ≡ is_cell_within D x y → is_same_cell x y ≡ true
    → b ≡ option_map_or (λ z. is_cell_within D z y) (cell_like y cs) false
has_expected D x y cs b d k e h =
    e ∙ sym (ap (λ o. option_map_or (λ z. is_cell_within D z y) o false) (like_is x y cs d k h))
