-- Cells of two states put together, part by part.
use Rattle.std.proofs.Common.{◌≡◌, ◌⊎◌, inl, inr, ⊎_elim, Bool, true, false, cond, List, [], ◌∷◌, Option, None, refl}
use Rattle.std.proofs.Common.{sym, subst}
use Rattle.ep_int.specs.declared.types.Model.{Model}
use Rattle.ep_bitslice.specs.declared.segment.Segment.{Segment}
use Rattle.ep_domain.specs.Domain.{Ops}
use Rattle.ep_cells.specs.declared.cell.Cell.{Cell}
use Rattle.ep_cells.specs.Cells.{first, later}
use Rattle.ep_cells.specs.Forms.{have_same_form, common_form}
use Rattle.ep_cells.specs.States.{AreCells, HaveCellsAlike}
use Rattle.ep_cells.specs.Both.{cell_of_both, cells_of_both}
use Rattle.ep_cells.specs.Laws.{JoinLaws}
use Rattle.ep_cell_rows.specs.declared.values.Union.{Union}
use Rattle.ep_cell_rows.specs.Parts.{united}
use Rattle.ep_shared_parts.specs.declared.parts.Part.{Part}
use Rattle.ep_shared_parts.specs.declared.uses.Use.{Use}
use Rattle.ep_shared_parts.specs.Spread.{outlines, all_items, AreSpread}
use Rattle.ep_shared_parts.specs.Mentions.{number_of, AreIndexed}
use Rattle.ep_cell_steps.specs.PartsInvariant.{AreKept}
use Rattle.ep_cell_steps.proofs.Making.{united_cells, indexed_none}
use Rattle.ep_cell_steps.proofs.Local.{indexed_same}

-- ---- the index

common_is : (f g : Option (List Segment)) → (common_form f g ≡ None) ⊎ (common_form f g ≡ f)
common_is f g = by (have_same_form f g)
  where
    by : (b : Bool) → (cond b f None ≡ None) ⊎ (cond b f None ≡ f)
    by true = inr refl
    by false = inl refl

pub indexed_both : {N : Type 0} (f : N → N → N) (us : List Use) (xs ys : List (Cell N)) → AreIndexed us xs
    → AreIndexed us (cells_of_both f xs ys)
indexed_both f us [] ys h z k = elim k [ ]
indexed_both f us (x ∷ xs) [] h z k = elim k [ ]
indexed_both f us (x ∷ xs) (y ∷ ys) h _ (first _) =
    ⊎_elim (λ e. indexed_none us (cell_of_both f x y) e)
    (λ e. indexed_same us x (cell_of_both f x y) refl e (h x (first xs))) (common_is x.form y.form)
indexed_both f us (x ∷ xs) (y ∷ ys) h z (later _ _ k) = indexed_both f us xs ys (λ c j. h c (later x xs j)) z k

pub both_kept : {N : Type 0} (D : Ops N) (u : Union) (d : Model) (us : List (Part Use)) (ps qs : List (Part (Cell N)))
    (ys : List (Cell N)) → JoinLaws D → AreKept d ps us → AreCells d ys → HaveCellsAlike (all_items ps) ys
    → all_items qs ≡ cells_of_both (united D u) (all_items ps) ys → outlines number_of qs ≡ outlines number_of ps
    → AreKept d qs us
both_kept D u d us ps qs ys law k a h e o = record {
  spread = subst AreSpread (sym o) k.spread;
  uses = k.uses;
  cells = subst (AreCells d) (sym e) (united_cells D u d (all_items ps) ys law k.cells a h);
  indexed = subst (AreIndexed (all_items us)) (sym e) (indexed_both (united D u) (all_items us) (all_items ps) ys
      k.indexed);
}
