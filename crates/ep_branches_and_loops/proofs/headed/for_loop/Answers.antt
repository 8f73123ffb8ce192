use Rattle.std.proofs.Common.{suc, ap, Option}
use Rattle.ep_ast.specs.Expression.{Expr}
use Rattle.ep_ast.specs.Statement as shape
use Rattle.ep_ast.specs.Statement.{First, Stmt}
use Rattle.ep_ast.specs.Depth.{height}
use Rattle.ep_branches_and_loops.proofs.headed.for_loop.Goals as goal

pub returns-in_ok-turn-in-Fits : goal.returns-in_ok-turn-in-Fits
returns-in_ok-turn-in-Fits c = λ p s h k. (
    let n = c.over-height.ensures (height s) k.1 in
    let r = c.in-Fits.ensures (suc (height s)) p s n h k.0 in (
      (
        rw (c.in_ok-heading-in-Fits.ensures.ok, c.in_ok-turn-in-Fits.ensures.ok)
            (ap (λ (q : (First × Option Expr × Option Expr) × Stmt). shape.for_loop c.args.line q.0.0 q.0.1 q.0.2 q.1)
            r.0),
        r.1,
      ),
      n,
    ))

pub returns-in-TooDeep : goal.returns-in-TooDeep
returns-in-TooDeep c = λ p s h k.
    (let n = c.over-height.ensures (height s) k.1 in (c.in-TooDeep.ensures (suc (height s)) p s n h k.0, n))
