-- Cells of a state end within the offsets, and their forms fit.
use Rattle.std.proofs.Common.{List, IfSome, Option, Some, None}
use Rattle.ep_int.specs.declared.types.Model.{Model}
use Rattle.ep_bitslice.specs.declared.segment.Segment.{Segment}
use Rattle.ep_bitslice.specs.Segments.{width}
use Rattle.ep_cells.specs.declared.cell.Cell.{Cell}
use Rattle.ep_cells.specs.Cells.{IsIn}
use Rattle.ep_cells.specs.States.{HasWidth, IsFormOf, AreCells}
use Rattle.ep_synthesis.specs.Parts.{IsSized}

pub form_sized : {N : Type 0} (cs : List (Cell N)) (x : Cell N) (o : Option (List Segment)) → IfSome o (IsFormOf cs x)
    → IfSome o (λ ss. HasWidth x.what (width ss))
form_sized cs x None h = tt
form_sized cs x (Some ss) h = h.wide

pub one_sized : {N : Type 0} (d : Model) (cs : List (Cell N)) (x : Cell N) → AreCells d cs → IsIn x cs → IsSized d x
one_sized d cs x a i = ((a.each x i).fits.last, form_sized cs x x.form (a.forms x i))
