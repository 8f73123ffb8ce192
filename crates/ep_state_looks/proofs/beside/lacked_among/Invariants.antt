use Rattle.std.proofs.Common.{◌≤◌, map, drop, length}
use Rattle.ep_reads.specs.Single.{without_like}
use Rattle.ep_state_looks.proofs.Walking.{IsWalked}
use Rattle.ep_state_looks.proofs.beside.lacked_among.Given as goal

abbrev pub invariant-loop-x : goal.invariant-loop-x
invariant-loop-x g l =
    IsWalked l.out.items (map (λ r. r.now) (drop l.x-index l.xs)) (map (λ r. r.now) (drop l.at l.ys))
    (without_like (map (λ r. r.now) l.ys) (map (λ r. r.now) l.xs))
    × (l.at ≤ length l.ys)
