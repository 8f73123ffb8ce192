use Rattle.std.proofs.Common.{◌≡◌, ◌++◌, drop}
use Rattle.ep_evaluation.specs.Accesses.{spots}
use Rattle.ep_transfer_places.proofs.runs.spots.Given as goal

abbrev pub invariant-loop-t : goal.invariant-loop-t
invariant-loop-t g l =
    l.out.items ++ spots g.N.Num.ops l.sizes l.n 1 (drop l.t-index l.targets) ≡ spots g.N.Num.ops l.sizes l.n 1 l.targets
