use Rattle.std.proofs.Common.{arith, ap}
use Rattle.std.specs.Prelude.{false}
use Rattle.ep_double.specs.ByteStates.{state_held}
use Rattle.ep_double.proofs.ByteSteps.{blank_step, blank_end}
use Rattle.ep_double.proofs.mover.memory.blank_block.Goals as goal

pub loop-i-preserved : goal.loop-i-preserved
loop-i-preserved c =
    blank_step c.args.is_zero c.args.count c.loop-i.i c.loop-i.all.items c.push.new.self.items _ _ (omega arith)
    c.loop-i.invariant c.in_ok-push.ensures.items (ap (λ s. state_held s false) c.blank_state.ensures)

pub returns : goal.returns
returns c = blank_end c.args.is_zero c.args.count c.loop-i.i c.loop-i.all.items _ (omega arith) c.loop-i.invariant
