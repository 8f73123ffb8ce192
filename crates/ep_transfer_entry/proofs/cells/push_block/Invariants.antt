use Rattle.std.proofs.Common.{◌≡◌, ◌++◌, map, drop}
use Rattle.ep_core.specs.ProgramView.{program_view}
use Rattle.ep_cells.specs.States.{Each}
use Rattle.ep_transfer_entry.proofs.Begins.{begun, HasNumber}
use Rattle.ep_transfer_entry.proofs.cells.push_block.Given as goal

-- with the cells that are left it is all
abbrev pub invariant-loop-c : goal.invariant-loop-c
invariant-loop-c g l = record {
  rest : l.out.items ++ map (begun g.N.Num.ops (program_view l.program)) (drop l.c-index l.c-items)
      ≡ l.fn.out.items ++ map (begun g.N.Num.ops (program_view l.program)) l.c-items;
  numbers : Each (HasNumber g.N.Num.ops (program_view l.program)) (drop l.c-index l.c-items);
}
