use Rattle.std.proofs.Common.{◌≡◌, ◌++◌, drop}
use Rattle.std.specs.List.{filter}
use Rattle.ep_reads.specs.Unify.{is_crossed}
use Rattle.ep_state_looks.proofs.looking.crossed.Given as goal

abbrev pub invariant-loop-x : goal.invariant-loop-x
invariant-loop-x g l =
    l.out.items ++ filter (is_crossed l.state.model l.state.cells) (drop l.x-index l.xs)
    ≡ filter (is_crossed l.state.model l.state.cells) l.xs
