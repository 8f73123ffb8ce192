use Rattle.std.proofs.Common.{◌≡◌, ◌++◌, drop, map}
use Rattle.ep_core.specs.View.{block_view}
use Rattle.ep_double.specs.ByteStates.{blank_blocks_states, states_in}
use Rattle.ep_double.proofs.mover.memory.blank_blocks.Given as goal

abbrev pub invariant-loop-n : goal.invariant-loop-n
invariant-loop-n l =
    states_in l.all.items ++ blank_blocks_states l.result_block l.n (map block_view (drop l.n l.blocks))
    ≡ blank_blocks_states l.result_block 0 (map block_view l.blocks)
