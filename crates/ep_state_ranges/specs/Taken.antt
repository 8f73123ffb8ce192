-- What a copy takes of the cells of a place: all of a side; or, where both sides take the place, what comes with the
-- left or with the right one (this project's rules, after Miné 2006).
use Rattle.std.specs.Prelude.{◌+◌, ◌-◌, ◌^◌, ◌<◌, List}
use Rattle.ep_domain.specs.Domain.{Ops}
use Rattle.ep_cells.specs.declared.cell.Cell.{Cell}
use Rattle.ep_cells.specs.declared.place.ByteRange.{ByteRange}
use Rattle.ep_cells.specs.States.{Known}
use Rattle.ep_cell_ranges.specs.Moves.{taken_if, taken_left, taken_right}
use Rattle.ep_cell_ranges.specs.Spots.{Spot}
use Rattle.ep_state_ranges.specs.declared.taking.Share.{Share}
use Rattle.ep_state_ranges.specs.declared.taking.Share.TheVariants.{Whole, WithLeft, WithRight}

abbrev pub taken_share : {N : Type 0} → Ops N → Share → Known N → ByteRange → Cell N → List (Cell N)
taken_share D Whole k p x = taken_if D k p p.side x
taken_share D WithLeft k p x = taken_left D k p x
taken_share D WithRight k p x = taken_right D k p x

-- the cell stays below the greatest offset
abbrev pub MovesWithin : {N : Type 0} → (from to : Spot) → Cell N → Type 0
MovesWithin p q x = (x.offset - p.1) + q.1 < 2 ^ 32
