use Rattle.ep_core.specs.ProgramView.{program_view}
use Rattle.ep_double.proofs.Kept.{Kept}
use Rattle.ep_double.proofs.closed.is_closed.Given as goal

abbrev pub invariant-loop-here : goal.invariant-loop-here
invariant-loop-here l = Kept (program_view l.p) l.here l.talks
