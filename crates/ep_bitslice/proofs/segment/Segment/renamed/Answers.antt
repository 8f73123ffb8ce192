use Rattle.std.proofs.Common.{◌-◌, ◌∙◌, ap}
use Rattle.ep_bitslice.specs.declared.cell.CellName.{CellName}
use Rattle.ep_bitslice.specs.Segments.{run_bits}
use Rattle.ep_bitslice.proofs.Cuts.{run_renamed, fixed_renamed}
use Rattle.ep_bitslice.proofs.segment.Segment.renamed.Goals as goal

pub returns-in-Bits-clause-bits : goal.returns-in-Bits-clause-bits
returns-in-Bits-clause-bits c =
    ap (λ (x : CellName). run_bits x c.in-Bits.low (c.in-Bits.high - c.in-Bits.low)) c.renamed_cell.ensures ∙ run_renamed _ _ _ _ _ _ c.in-Bits.is

pub returns-in-Fixed-clause-bits : goal.returns-in-Fixed-clause-bits
returns-in-Fixed-clause-bits c = fixed_renamed _ _ _ _ _ c.in-Fixed.is
