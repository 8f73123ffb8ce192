-- Forms that are held outside of a state while its cells change: what is read, and not yet written (this project's
-- rules, after Delmas, Ouadjaout and Miné 2021).
use Rattle.std.specs.Prelude.{◌≡◌, false, List, Some, IfSome}
use Rattle.ep_int.specs.declared.types.Order.{Order}
use Rattle.ep_int.specs.declared.types.Scalar.{Scalar}
use Rattle.ep_int.specs.Memory.{Value as Datum}
use Rattle.ep_bitslice.specs.declared.cell.CellName.{CellName}
use Rattle.ep_bitslice.specs.Segments.{number}
use Rattle.ep_cells.specs.declared.cell.Cell.{Cell}
use Rattle.ep_cells.specs.Forms.{Fate}
use Rattle.ep_cells.specs.Meaning.{Memories, numbers_of}
use Rattle.ep_reads.specs.Laws.{IsNumberOf, IsFormRead}
use Rattle.ep_cell_ranges.specs.Ranges.{Form}

-- A form may be that of a sure cell of this type: it has its width, and mentions cells that are there and surely
-- defined.
abbrev pub FormFits : {N : Type 0} → List (Cell N) → Scalar → Form → Type 0
FormFits cs w f = IfSome f (IsFormRead cs w false)

-- and says the number of a value of the type
abbrev pub FormHas : (Order × Order) → Memories → Scalar → Datum → Form → Type 0
FormHas os m w v f = IfSome f (λ ss. IsNumberOf w v (number (numbers_of os m) ss))

-- each mention goes on as it is, or goes
abbrev pub Drops : Fate → Type 0
Drops f = (c e : CellName) → f c ≡ Some e → c ≡ e
