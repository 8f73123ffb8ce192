use Rattle.std.proofs.Common.{◌≡◌, drop, map}
use Rattle.ep_core.specs.View.{block_view}
use Rattle.ep_movers.specs.Forms.{are_moved_blocks}
use Rattle.ep_double.proofs.mover.form.are_moved_blocks.Given as goal

abbrev pub invariant-loop-n : goal.invariant-loop-n
invariant-loop-n l =
    are_moved_blocks l.types l.result_block l.n (map block_view (drop l.n l.blocks))
    ≡ are_moved_blocks l.types l.result_block 0 (map block_view l.blocks)
