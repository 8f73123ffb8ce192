-- Walks over cells in parts.
use Rattle.std.specs.Prelude.{ℕ, ◌<◌, ◌≤◌, List, length, drop, get_or}
use Rattle.ep_cells.specs.declared.cell.Cell.{Cell}
use Rattle.ep_shared_parts.specs.declared.parts.Part.{Part}
use Rattle.ep_shared_parts.specs.declared.walks.At.{At}
use Rattle.ep_shared_parts.specs.Spread.{all_items}

-- the cells from a place on
abbrev pub rest : {N : Type 0} → At → List (Part (Cell N)) → List (Cell N)
rest a ps = drop a.item (all_items (drop a.part ps))

-- a place in a part, or behind all parts
abbrev pub IsAt : {N : Type 0} → At → List (Part (Cell N)) → Type 0
IsAt {N} a ps = (d : Part (Cell N)) → a.part < length ps → a.item ≤ length (get_or ps a.part d).items.value.items

-- a cell is there
abbrev pub IsOn : {N : Type 0} → At → List (Part (Cell N)) → Type 0
IsOn {N} a ps = (d : Part (Cell N)) → a.part < length ps → a.item < length (get_or ps a.part d).items.value.items
