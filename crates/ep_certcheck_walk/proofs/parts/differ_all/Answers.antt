use Rattle.std.proofs.Common.{◌+◌, ◌++◌}
use Rattle.ep_pass.specs.Pass.{differ}
use Rattle.ep_certcheck_walk.specs.Stops.{nothing_more}
use Rattle.ep_certcheck_walk.proofs.Kept.{behind_gives, err_gives}
use Rattle.ep_certcheck_walk.proofs.Combined.{front, behind}
use Rattle.ep_certcheck_walk.proofs.parts.differ_all.Goals as goal

pub returns-in_err-differ_at : goal.returns-in_err-differ_at
returns-in_err-differ_at g c =
    λ k. err_gives k (differ c.args.line c.args.first.now ++
    (differ c.args.line c.args.second.now ++ differ c.args.line c.args.third.now)) nothing_more c.from_residual.result
    _ c.from_residual.ensures.1 (front k (differ c.args.line c.args.first.now) ((differ c.args.line c.args.second.now)
    ++ (differ c.args.line c.args.third.now)) _ (c.in_err-differ_at.ensures k))

pub returns-in_err-differ_at-2 : goal.returns-in_err-differ_at-2
returns-in_err-differ_at-2 g c =
    λ k. err_gives k (differ c.args.line c.args.first.now ++
    (differ c.args.line c.args.second.now ++ differ c.args.line c.args.third.now)) nothing_more
    c.from_residual-in_err-differ_at-2.result _ c.from_residual-in_err-differ_at-2.ensures.1
    (behind k (differ c.args.line c.args.first.now) ((differ c.args.line c.args.second.now) ++ (differ c.args.line
    c.args.third.now)) _ (c.in_ok-differ_at.ensures k).0 (front k (differ c.args.line c.args.second.now) (differ
    c.args.line c.args.third.now) _ (c.in_err-differ_at-2.ensures k)))

pub returns : goal.returns
returns g c =
    λ k. behind_gives k (differ c.args.line c.args.first.now)
    ((differ c.args.line c.args.second.now) ++
    (differ c.args.line c.args.third.now)) nothing_more c.differ_at-3.result (c.in_ok-differ_at.ensures k).0
    (behind_gives k (differ c.args.line c.args.second.now)
    (differ c.args.line c.args.third.now) nothing_more c.differ_at-3.result (c.in_ok-differ_at-2.ensures k).0
    (c.differ_at-3.ensures k))
