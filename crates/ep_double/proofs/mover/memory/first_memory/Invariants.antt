use Rattle.std.proofs.Common.{◌≡◌, drop, map}
use Rattle.std.specs.Prelude.{fold}
use Rattle.ep_core.specs.ProgramView.{program_view}
use Rattle.ep_core.specs.View.{init_view}
use Rattle.ep_double.specs.ByteStates.{first_states, first_value_states, states_in}
use Rattle.ep_double.proofs.mover.memory.first_memory.Given as goal

abbrev pub invariant-loop-first : goal.invariant-loop-first
invariant-loop-first l =
    fold (first_value_states l.order) (states_in l.m.items) (map init_view (drop l.first-index l.first-items))
    ≡ first_states l.order (program_view l.p) l.fn.result_block
