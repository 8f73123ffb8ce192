-- Splits of a state, and what holds of it then.
use Rattle.std.proofs.Common.{◌≡◌, false, sym, ap, subst}
use Rattle.ep_cell_ranges.proofs.Cut.{none_cut}
use Rattle.ep_bitslice.specs.declared.cell.Side.TheVariants.{Shared}
use Rattle.ep_domain.specs.Domain.{Ops}
use Rattle.ep_cells.specs.declared.place.ByteRange.{ByteRange}
use Rattle.ep_cells.specs.Cells.{is_same_side}
use Rattle.ep_cells.specs.Look.{is_some_partly_in}
use Rattle.ep_cells.specs.States.{Known, AreCells}
use Rattle.ep_reads.specs.Split.{split_all, split}
use Rattle.ep_reads.specs.SplitLaws.{SplitLaws, SplitHolds}

-- ---- where no cell lies partly in the place

pub unsplit : {N : Type 0} (D : Ops N) (k : Known N) (p : ByteRange) → is_some_partly_in k.model p k.cells ≡ false
    → k ≡ record k { cells = split D k p }
unsplit D k p e =
    ap (λ cs. record k { cells = cs }) (sym (ap (λ xs. split_all D k p.side xs k.cells) (none_cut k.model p k.cells e)))

-- ---- the laws, of what the state is then

pub cut_then : {N : Type 0} (D : Ops N) (k s : Known N) (p : ByteRange) → SplitLaws D → AreCells k.model k.cells
    → is_same_side p.side Shared ≡ false → s ≡ record k { cells = split D k p }
    → is_some_partly_in s.model p s.cells ≡ false
cut_then D k s p law a h e = subst (λ z. is_some_partly_in z.model p z.cells ≡ false) (sym e) (law.none_cut k p a h)

pub holds_then : {N : Type 0} (D : Ops N) (k s : Known N) (p : ByteRange) → SplitLaws D → AreCells k.model k.cells
    → is_same_side p.side Shared ≡ false → s ≡ record k { cells = split D k p } → SplitHolds D k p s
holds_then D k s p law a h e = subst (SplitHolds D k p) (sym e) (law.holds k p a h)
