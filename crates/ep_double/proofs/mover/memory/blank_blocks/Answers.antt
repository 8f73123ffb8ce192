use Rattle.std.proofs.Common.{arith}
use Rattle.ep_double.proofs.BlockSteps.{blocks_step, blocks_end}
use Rattle.ep_double.proofs.mover.memory.blank_blocks.Goals as goal

pub loop-n-preserved : goal.loop-n-preserved
loop-n-preserved c =
    blocks_step c.args.result_block c.loop-n.n c.args.blocks.now c.loop-n.all.items c.push.new.self.items _ _
    c.in_ok-bytes.bytes c.is_blank_zero-is_zero.result c.is_result.result (omega arith) c.loop-n.invariant
    c.in_ok-push.ensures.items c.in_ok-bytes.ensures c.is_blank_zero-is_zero.ensures c.is_result.ensures

pub returns : goal.returns
returns c =
    blocks_end c.args.result_block c.loop-n.n c.args.blocks.now c.loop-n.all.items _ (omega arith) c.loop-n.invariant
