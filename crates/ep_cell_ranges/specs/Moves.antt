-- Cells that a copy takes from a place and puts into another, and places that may have been written (this project's
-- rules, after Miné 2006).
use Rattle.std.specs.Prelude.{ℕ, ◌+◌, ◌-◌, Bool, ◌&&◌, if◌then◌else◌, List, [], ◌∷◌, ◌++◌}
use Rattle.std.specs.List.{filter}
use Rattle.ep_int.specs.declared.types.Model.{Model}
use Rattle.ep_bitslice.specs.declared.cell.Side.{Side as CellSide}
use Rattle.ep_bitslice.specs.declared.cell.Side.TheVariants.{Left, Right, Shared}
use Rattle.ep_domain.specs.Domain.{Ops}
use Rattle.ep_cells.specs.declared.cell.Cell.{Cell}
use Rattle.ep_cells.specs.declared.place.ByteRange.{ByteRange}
use Rattle.ep_cells.specs.Cells.{place_of, share_memory, touches, encloses, is_same_side, each_becomes}
use Rattle.ep_cells.specs.Forms.{form_after}
use Rattle.ep_cells.specs.Weaken.{weakened, fate_by_weak_write}
use Rattle.ep_cells.specs.States.{Known}
use Rattle.ep_reads.specs.Bytes.{form_of_cell, order_on}
use Rattle.ep_reads.specs.Split.{byte_cells}
use Rattle.ep_cell_ranges.specs.Ranges.{Reform, with_cells, blurred_at}
use Rattle.ep_cell_ranges.specs.Spots.{Spot}

-- so many bytes from a place on, of a side
abbrev pub place_at : CellSide → Spot → (bytes : ℕ) → ByteRange
place_at s q n = record { side = s; block = q.0; offset = q.1; bytes = n }

-- ---- cells that move, with their forms: a cell that lies partly in the place is taken by its bytes

-- the cell as far from the second place as it was from the first
abbrev pub moved_to : {N : Type 0} → (from to : Spot) → Cell N → Cell N
moved_to p q x = record x { block = q.0; offset = (x.offset - p.1) + q.1 }

module _ {N : Type 0} (D : Ops N) where
  -- all in the place, with the form that a read gives
  abbrev pub taken_cell : Known N → ByteRange → CellSide → Cell N → List (Cell N)
  taken_cell k p s x =
      if encloses p (place_of k.model x) then record x { side = s; form = form_of_cell x } ∷ []
      else filter (λ y. encloses p (place_of k.model y))
      (byte_cells D k.model (order_on p.side k.orders) p.side (form_of_cell x) x)

  -- of a cell that has bytes in the place
  abbrev pub taken_if : Known N → ByteRange → CellSide → Cell N → List (Cell N)
  taken_if k p s x =
      if share_memory p.side x.side && touches p (place_of k.model x) then taken_cell k p s x else []

  -- what a side takes; its cells are all of that side
  abbrev pub taken : Known N → ByteRange → List (Cell N)
  taken k p = each_becomes (taken_if k p p.side) k.cells

  -- where both sides take the same place, a Shared cell that is all in it stays one, and comes with the left
  abbrev pub is_whole_shared : Known N → ByteRange → Cell N → Bool
  is_whole_shared k p x = is_same_side x.side Shared && encloses p (place_of k.model x)

  -- what both sides take: the left, with whole Shared cells, and the right, without them
  abbrev pub taken_left : Known N → ByteRange → Cell N → List (Cell N)
  taken_left k p x = taken_if k p (if is_whole_shared k p x then Shared else p.side) x

  abbrev pub taken_right : Known N → ByteRange → Cell N → List (Cell N)
  taken_right k p x = if is_whole_shared k p x then [] else taken_if k p p.side x

  abbrev pub taken_by_both : Known N → Spot → (bytes : ℕ) → List (Cell N)
  taken_by_both k q n =
      each_becomes (taken_left k (place_at Left q n)) k.cells
      ++ each_becomes (taken_right k (place_at Right q n)) k.cells

  -- ---- what may have been written

  -- each of several places
  abbrev pub blurred_each : CellSide → (bytes : ℕ) → List Spot → Known N → Known N
  blurred_each s n [] k = k
  blurred_each s n (q ∷ qs) k = blurred_each s n qs (blurred_at D (place_at s q n) k)

  -- a cell that may be written at each of several places
  abbrev pub weakened_each : (Spot → Cell N) → (shared_stays : Bool) → List Spot → Known N → Known N
  weakened_each c stays [] k = k
  weakened_each c stays (q ∷ qs) k =
      weakened_each c stays qs (with_cells k (weakened D k.model (c q) stays k.cells))

-- and what becomes of a form by that
abbrev pub form_by_weak_each : {N : Type 0} → Model → (Spot → Cell N) → List Spot → Reform
form_by_weak_each d c [] f = f
form_by_weak_each d c (q ∷ qs) f =
    form_by_weak_each d c qs (form_after (fate_by_weak_write (place_of d (c q))) f)
