-- What the parts of the code answer, for their own contracts.
use Rattle.std.specs.Prelude.{Bool, true, false, ◌&&◌, nat_eq, if◌then◌else◌, List, [], ◌∷◌, Some}
use Rattle.std.specs.Option.{option_map_or}
use Rattle.ep_bitslice.specs.declared.cell.CellName.{CellName}
use Rattle.ep_bitslice.specs.declared.segment.Segment.{Segment}
use Rattle.ep_bitslice.specs.declared.segment.Segment.TheVariants.{Bits, Fixed}
use Rattle.ep_bitslice.specs.Bits.{Bit, renamed}
use Rattle.ep_domain.specs.Domain.{Ops}
use Rattle.ep_cells.specs.declared.place.ByteRange.{ByteRange}
use Rattle.ep_cells.specs.Cells.{touches, place_of_name}
use Rattle.ep_cells.specs.Forms.{Fate}
use Rattle.ep_cells.specs.Write.{fate_by_write}
use Rattle.ep_cells.specs.Weaken.{first_part, fate_by_weak_write}
use Rattle.ep_cells.specs.Kill.{fate_by_kill}
use Rattle.ep_cells.specs.Reshare.{fate_by_side}
use Rattle.ep_cell_rows.specs.declared.values.Union.{Union}
use Rattle.ep_cell_rows.specs.declared.values.Union.TheVariants.{Join, Widen}
use Rattle.ep_cell_rows.specs.declared.change.Change.{Change}
use Rattle.ep_cell_rows.specs.declared.change.Change.TheVariants.{Write, WeakWrite, Kill, Reshare, Unshare}

abbrev pub united : {N : Type 0} → Ops N → Union → N → N → N
united D Join = D.join
united D Widen = D.widen

-- ---- what becomes of names

-- mentions of a Shared cell that is met become mentions of its Left part
abbrev pub fate_by_unsharing : ByteRange → Fate
fate_by_unsharing p n = if touches p (place_of_name n) then Some (record n { side = first_part n.side }) else Some n

abbrev pub fate_of : Change → Fate
fate_of (Write p) = fate_by_write p
fate_of (WeakWrite p) = fate_by_weak_write p
fate_of (Kill s b) = fate_by_kill s b
fate_of (Reshare b q maybe) = λ n. if nat_eq n.block b && nat_eq n.offset q then fate_by_side maybe n n.side else
    Some n
fate_of (Unshare p) = fate_by_unsharing p

-- the mention goes on
abbrev pub goes_on : Fate → Segment → Bool
goes_on f (Bits c from to) = option_map_or (λ e. true) (f c) false
goes_on f (Fixed v w) = true

-- the name under which it goes on
abbrev pub name_after : Fate → CellName → CellName
name_after f c = option_map_or (λ e. e) (f c) c

-- the bits with the new name of one segment's cell
abbrev pub bits_with : Fate → Segment → List Bit → List Bit
bits_with f (Bits c from to) bs = renamed c (name_after f c) bs
bits_with f (Fixed v w) bs = bs

-- and of each segment's cell in turn
abbrev pub bits_with_all : Fate → List Segment → List Bit → List Bit
bits_with_all f [] bs = bs
bits_with_all f (s ∷ ss) bs = bits_with_all f ss (bits_with f s bs)
