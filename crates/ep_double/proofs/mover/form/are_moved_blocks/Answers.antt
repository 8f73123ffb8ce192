use Rattle.std.proofs.Common.{arith, sym, ◌∙◌, false}
use Rattle.ep_double.proofs.ByteSteps.{goes_further, stops_here}
use Rattle.ep_double.proofs.Moves.{all_blocks, next_block}
use Rattle.ep_double.proofs.mover.form.are_moved_blocks.Goals as goal

pub returns-then-not-is_result_or_moved : goal.returns-then-not-is_result_or_moved
returns-then-not-is_result_or_moved c =
    stops_here _ _ _ _ c.loop-n.invariant
    (next_block c.args.types.now c.args.result_block c.loop-n.n c.args.blocks.now _ (omega arith))
    (sym c.is_result_or_moved.ensures ∙ c.if-not-is_result_or_moved.true)

pub loop-n-preserved : goal.loop-n-preserved
loop-n-preserved c =
    goes_further _ _ _ _ c.loop-n.invariant
    (next_block c.args.types.now c.args.result_block c.loop-n.n c.args.blocks.now _ (omega arith))
    (sym c.is_result_or_moved.ensures ∙ c.if-not-is_result_or_moved.false)

pub returns : goal.returns
returns c =
    all_blocks c.args.types.now c.args.result_block c.loop-n.n c.args.blocks.now _ (omega arith) c.loop-n.invariant
