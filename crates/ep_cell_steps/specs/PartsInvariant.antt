-- What the parts and the index of a state have.
use Rattle.std.specs.Prelude.{◌≡◌, true, List, IfSome}
use Rattle.ep_int.specs.declared.types.Model.{Model}
use Rattle.ep_bitslice.specs.declared.cell.CellName.{CellName}
use Rattle.ep_bitslice.specs.Bits.{mentions}
use Rattle.ep_bitslice.specs.Segments.{bits}
use Rattle.ep_cells.specs.declared.cell.Cell.{Cell}
use Rattle.ep_cells.specs.States.{AreCells}
use Rattle.ep_shared_parts.specs.declared.parts.Part.{Part}
use Rattle.ep_shared_parts.specs.declared.uses.Use.{Use}
use Rattle.ep_shared_parts.specs.Spread.{outlines, all_items, AreSpread}
use Rattle.ep_shared_parts.specs.Mentions.{number_of, number_of_name, number_of_use, IsNoted, AreIndexed}

-- each mention of the cell's form is noted
abbrev pub IsIndexed : {N : Type 0} → List Use → Cell N → Type 0
IsIndexed us c = IfSome c.form (λ ss. (n : CellName) → mentions n (bits ss) ≡ true
    → IsNoted us (record { of = number_of_name n; by = number_of c }))

-- The cells of the parts are a state's, and the index has what their forms mention. It may have more.
pub record AreKept {N : Type 0} (d : Model) (ps : List (Part (Cell N))) (us : List (Part Use)) : Type 0 where
  pub spread : AreSpread (outlines number_of ps)
  pub uses : AreSpread (outlines number_of_use us)
  pub cells : AreCells d (all_items ps)
  pub indexed : AreIndexed (all_items us) (all_items ps)
