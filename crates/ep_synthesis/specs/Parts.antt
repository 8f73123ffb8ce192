-- What is known of two machines, and which cells a split takes.
use Rattle.std.specs.Prelude.{◌+◌, ◌^◌, ◌≤◌, List}
use Rattle.ep_int.specs.declared.types.Model.{Model}
use Rattle.ep_int.specs.Types.{size_of}
use Rattle.ep_cells.specs.declared.cell.Cell.{Cell}
use Rattle.ep_cells.specs.States.{Known}
use Rattle.ep_scalar_reads.specs.declared.machines.Machines.{Machines}
use Rattle.ep_scalar_reads.specs.Parts.{HasFittingForm}

-- what is known of the memories of two machines
abbrev pub known : {N : Type 0} → Machines → List (Cell N) → Known N
known m cs = record { orders = m.orders; model = m.model; cells = cs }

-- a cell ends within the offsets, and its form fits
abbrev pub IsSized : {N : Type 0} → Model → Cell N → Type 0
IsSized d c = (c.offset + size_of d c.what ≤ 2 ^ 32) × HasFittingForm c
