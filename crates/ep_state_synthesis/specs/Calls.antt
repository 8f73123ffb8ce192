-- What calls are made with, and what they keep.
use Rattle.std.specs.Prelude.{ℕ}
use Rattle.ep_bitslice.specs.declared.cell.Side.{Side}
use Rattle.ep_domain.specs.Domain.{Ops}
use Rattle.ep_cells.specs.declared.place.ByteRange.{ByteRange}
use Rattle.ep_cells.specs.States.{Known}
use Rattle.ep_cells.specs.Meaning.{Memories, In}

-- so many bytes of a block, on a side
abbrev pub place_at : Side → (block offset bytes : ℕ) → ByteRange
place_at s b q n = record { side = s; block = b; offset = q; bytes = n }

-- memories of the first state are in the second
abbrev pub StaysIn : {N : Type 0} → Ops N → Known N → Known N → Type 0
StaysIn D k l = (m : Memories) → In D k m → In D l m
