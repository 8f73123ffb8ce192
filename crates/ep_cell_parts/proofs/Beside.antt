-- Two lists of cells beside each other.
use Rattle.std.proofs.Common.{◌≡◌, ◌↔◌, true, List, ◌∷◌, sym, subst}
use Rattle.ep_cells.specs.declared.cell.Cell.{Cell}
use Rattle.ep_cells.specs.Cells.{is_same_cell}
use Rattle.ep_cells.specs.States.{HaveCellsAlike}
use Rattle.ep_cells.proofs.Both.{alike_same}

pub alike_step : {N : Type 0} (x y : Cell N) (xs ys us vs zs ws : List (Cell N)) → xs ≡ x ∷ us → ys ≡ y ∷ vs
    → is_same_cell x y ≡ true → HaveCellsAlike xs ys ↔ HaveCellsAlike zs ws
    → HaveCellsAlike us vs ↔ HaveCellsAlike zs ws
alike_step x y xs ys us vs zs ws e f s h = (
  λ k.
      h.0 (subst (λ cs. HaveCellsAlike cs ys) (sym e) (subst (λ cs. HaveCellsAlike (x ∷ us) cs) (sym f)
      (alike_same x y s, k))),
  λ k. (subst (λ cs. HaveCellsAlike (x ∷ us) cs) f (subst (λ cs. HaveCellsAlike cs ys) e (h.1 k))).1,
)
