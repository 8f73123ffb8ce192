use Rattle.std.proofs.Common.{◌≡◌, drop}
use Rattle.ep_core.specs.ProgramView.{program_view}
use Rattle.ep_transfers.specs.Transfers.{killed_blocks, cells_of_mode}
use Rattle.ep_transfer_blocks.proofs.blocks.entered.Given as goal

-- the blocks that are left make of it what all make of the state
abbrev pub invariant-loop-number : goal.invariant-loop-number
invariant-loop-number g l = record {
  value : killed_blocks g.N.Num.ops (program_view l.program) (cells_of_mode l.fn.mode) (drop l.number-index l.blocks) l.after
      ≡ killed_blocks g.N.Num.ops (program_view l.program) (cells_of_mode l.fn.mode) l.blocks l.fn.state;
  model : l.after.model ≡ (program_view l.program).types.model;
}
