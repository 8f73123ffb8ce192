-- The cell that is found is of the state, and its value of the sort of its type.
use Rattle.std.proofs.Common.{ℕ, Bool, true, false, ◌&&◌, not, nat_eq, cond, List, [], ◌∷◌, Option, Some, None}
use Rattle.std.specs.Prelude.{IfSome}
use Rattle.ep_int.specs.declared.types.Model.{Model}
use Rattle.ep_int.specs.declared.types.Scalar.{Scalar}
use Rattle.ep_bitslice.specs.declared.cell.Side.{Side}
use Rattle.ep_cells.specs.declared.cell.Cell.{Cell}
use Rattle.ep_cells.specs.Cells.{IsIn, first, later, is_same_scalar}
use Rattle.ep_cells.specs.Look.{cell_at, covers}
use Rattle.ep_cells.specs.States.{AreCells, IsOfSort}
use Rattle.ep_cell_ranges.specs.Spots.{Spot}
use Rattle.ep_evaluation.specs.Narrowed.{sure_cell}

module _ {N : Type 0} where
  abbrev pub IsSorted : Cell N → Type 0
  IsSorted c = IsOfSort c.what c.value

  found_in : (d : Model) (s : Side) (b p : ℕ) (cs : List (Cell N)) → IfSome (cell_at d s b p cs) (λ c. IsIn c cs)
  found_in d s b p [] = tt
  found_in d s b p (c ∷ cs) = split (covers d s b p c) (lift (cell_at d s b p cs) (found_in d s b p cs))
    where
      lift : (o : Option (Cell N)) → IfSome o (λ x. IsIn x cs) → IfSome o (λ x. IsIn x (c ∷ cs))
      lift None h = tt
      lift (Some x) h = later c cs h

      split : (t : Bool) → IfSome (cell_at d s b p cs) (λ x. IsIn x (c ∷ cs))
          → IfSome (cond t (Some c) (cell_at d s b p cs)) (λ x. IsIn x (c ∷ cs))
      split true h = first cs
      split false h = h

  sorted : (d : Model) (cs : List (Cell N)) → AreCells d cs → (o : Option (Cell N)) → IfSome o (λ c. IsIn c cs)
      → IfSome o IsSorted
  sorted d cs cells None h = tt
  sorted d cs cells (Some c) h = (cells.each c h).fits.sort

  sure_sorted : (w : Scalar) (q : Spot) (o : Option (Cell N)) → IfSome o IsSorted → IfSome (sure_cell w q o) IsSorted
  sure_sorted w q None h = tt
  sure_sorted w q (Some x) h = split (nat_eq x.offset q.1 && (is_same_scalar x.what w && not x.maybe))
    where
      split : (t : Bool) → IfSome (cond t (Some x) None) IsSorted
      split true = h
      split false = tt

  pub cell_sorted : (d : Model) (s : Side) (w : Scalar) (q : Spot) (cs : List (Cell N)) → AreCells d cs
      → IfSome (sure_cell w q (cell_at d s q.0 q.1 cs)) IsSorted
  cell_sorted d s w q cs cells =
      sure_sorted w q (cell_at d s q.0 q.1 cs) (sorted d cs cells (cell_at d s q.0 q.1 cs) (found_in d s q.0 q.1 cs))
