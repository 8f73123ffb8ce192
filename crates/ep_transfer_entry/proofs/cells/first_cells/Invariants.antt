use Rattle.std.proofs.Common.{◌≡◌, ◌++◌, map, drop}
use Rattle.ep_core.specs.ProgramView.{program_view}
use Rattle.ep_core.specs.View.{block_view}
use Rattle.ep_transfers.specs.Ends.{first_of_blocks}
use Rattle.ep_transfer_entry.proofs.cells.first_cells.Given as goal

-- with the blocks that are left it is all
abbrev pub invariant-loop-block : goal.invariant-loop-block
invariant-loop-block g l = record {
  number : l.number ≡ l.block-index;
  rest : l.out.items
      ++ first_of_blocks g.N.Num.ops (program_view l.program) l.number (map block_view (drop l.block-index l.block-items))
      ≡ first_of_blocks g.N.Num.ops (program_view l.program) 0 (program_view l.program).blocks;
}
