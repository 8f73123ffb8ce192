-- Parts of cells, of which the last may still grow.
use Rattle.std.specs.Prelude.{ℕ, suc, ◌≤◌, List, [], ◌∷◌, ◌++◌, map}
use Rattle.ep_cells.specs.declared.cell.Cell.{Cell}
use Rattle.ep_shared_parts.specs.declared.parts.Part.{Part}
use Rattle.ep_shared_parts.specs.Spread.{outlines, AreBelow, AreSpread}
use Rattle.ep_shared_parts.specs.Mentions.{number_of}

-- behind the parts comes one with these cells, none of which begins behind the number `last`
pub record IsOpen {N : Type 0} (ps : List (Part (Cell N))) (from last : ℕ) (cs : List (Cell N)) : Type 0 where
  pub spread : AreSpread (outlines number_of ps ++ record { start = from; numbers = map number_of cs } ∷ [])
  pub rises : from ≤ last
  pub below : AreBelow (suc last) (map number_of cs)
