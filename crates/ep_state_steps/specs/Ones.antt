-- A state after changes of its cells, one after another (this project's rules).
use Rattle.std.specs.Prelude.{◌≡◌, ℕ, true, List}
use Rattle.ep_bitslice.specs.declared.cell.Side.{Side}
use Rattle.ep_domain.specs.Domain.{Ops}
use Rattle.ep_cells.specs.declared.cell.Cell.{Cell}
use Rattle.ep_cells.specs.Cells.{share_memory}
use Rattle.ep_cells.specs.Reshare.{reshared_each}
use Rattle.ep_cells.specs.States.{Known}
use Rattle.ep_reads.specs.Split.{split_all}
use Rattle.ep_reads.specs.Unify.{crossed_all}
use Rattle.ep_scalar_reads.specs.declared.machines.Machines.{Machines}
use Rattle.ep_reads.specs.Single.{Spots, parted_where, Kinds, without}

-- the Shared cells of which the test holds are parted
abbrev pub parted_at : {N : Type 0} → Spots → Known N → Known N
parted_at P k = record k { cells = parted_where P k.cells }

-- cells of which the test holds are gone
abbrev pub left_at : {N : Type 0} → Kinds → Known N → Known N
left_at P k = record k { cells = without P k.cells }

abbrev pub crossed_at : {N : Type 0} → Ops N → List (Cell N) → Known N → Known N
crossed_at D xs k = record k { cells = crossed_all D k xs k.cells }

abbrev pub split_at : {N : Type 0} → Ops N → Side → List (Cell N) → Known N → Known N
split_at D s xs k = record k { cells = split_all D k s xs k.cells }

-- cells that are surely the same at these places are one
abbrev pub reshared_from : {N : Type 0} → Ops N → List (ℕ × ℕ) → Known N → Known N
reshared_from D ps k = record k { cells = reshared_each D ps k.cells }

-- a side of the cell is this one
abbrev pub Has : {N : Type 0} → Side → Cell N → Type 0
Has s x = share_memory s x.side ≡ true

-- the machines of a state
abbrev pub machines_of : {N : Type 0} → Known N → Machines
machines_of k = record { orders = k.orders; model = k.model }
