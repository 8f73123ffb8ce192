use Rattle.ep_certcheck_walk.proofs.Kept.{came_after}
use Rattle.ep_certcheck_walk.proofs.Turning.{err_finds}
use Rattle.ep_certcheck_walk.proofs.parts.come_after.Goals as goal

pub returns-in_err-differ_at : goal.returns-in_err-differ_at
returns-in_err-differ_at g c =
    λ k n. err_finds k _ c.from_residual.result _ n n c.from_residual.ensures.1 (c.in_err-differ_at.ensures k)

pub returns : goal.returns
returns g c =
    λ k n. came_after k c.args.line c.args.flow c.broken.result n
    (c.in_ok-differ_at.ensures k).0 c.broken.ensures.on c.broken.ensures.ways
