-- What a change leaves of the cells of parts, and the cells that a place comes to have.
use Rattle.std.specs.Prelude.{◌≡◌, List, map}
use Rattle.ep_int.specs.declared.types.Model.{Model}
use Rattle.ep_domain.specs.Domain.{Ops}
use Rattle.ep_cells.specs.declared.cell.Cell.{Cell}
use Rattle.ep_cells.specs.declared.place.ByteRange.{ByteRange}
use Rattle.ep_cells.specs.Cells.{each_becomes}
use Rattle.ep_cells.specs.Forms.{Fate, reformed}
use Rattle.ep_cells.specs.Weaken.{fate_by_weak_write}
use Rattle.ep_cell_ranges.specs.Ranges.{left_by_blur}
use Rattle.ep_shared_parts.specs.declared.parts.Part.{Part}
use Rattle.ep_shared_parts.specs.Spread.{outlines, all_items, AreSpread}
use Rattle.ep_shared_parts.specs.Mentions.{number_of}
use Rattle.ep_cell_steps.specs.Killed.{AreShort}

pub record IsLeft {N : Type 0} (g : Cell N → List (Cell N)) (f : Fate) (ps zs : List (Part (Cell N))) : Type 0 where
  pub spread : AreSpread (outlines number_of zs)
  pub items : all_items zs ≡ map (reformed f) (each_becomes g (all_items ps))
  pub short : AreShort (all_items zs)

-- the cells where a place may have been written in whatever way
abbrev pub cells_blurred : {N : Type 0} → Ops N → Model → ByteRange → List (Cell N) → List (Cell N)
cells_blurred D d p cs = map (reformed (fate_by_weak_write p)) (each_becomes (left_by_blur D d p) cs)
