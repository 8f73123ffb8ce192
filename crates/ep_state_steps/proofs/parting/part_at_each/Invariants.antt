use Rattle.std.proofs.Common.{◌≡◌, drop}
use Rattle.ep_state_steps.specs.Rounds.{FacesMore}
use Rattle.ep_state_steps.proofs.Loops.{met_of}
use Rattle.ep_state_steps.proofs.parting.part_at_each.Given as goal

abbrev pub invariant-loop-p : goal.invariant-loop-p
invariant-loop-p g l =
    (met_of (drop l.p-index l.places) l.sofar.state ≡ met_of l.places l.fn.state)
    × FacesMore l.fn.state.model l.fn.state.cells l.sofar.state.cells l.sofar.lefts.items
