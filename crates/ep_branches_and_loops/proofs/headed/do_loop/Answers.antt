use Rattle.std.proofs.Common.{suc, ap}
use Rattle.ep_ast.specs.Expression.{Expr}
use Rattle.ep_ast.specs.Statement as shape
use Rattle.ep_ast.specs.Statement.{Stmt}
use Rattle.ep_ast.specs.Depth.{height}
use Rattle.ep_branches_and_loops.proofs.headed.do_loop.Goals as goal

pub returns-in_ok-turn-in-Fits : goal.returns-in_ok-turn-in-Fits
returns-in_ok-turn-in-Fits c = λ e s k h. (
    let n = c.over-height.ensures (height s) k.1 in
    let r = c.in-Fits.ensures (suc (height s)) e s n h k.0 in
    ((rw c.in_ok-turn-in-Fits.ensures.ok (ap (λ (p : Expr × Stmt). shape.do_loop c.args.line p.1 p.0) r.0), r.1), n))

pub returns-in-TooDeep : goal.returns-in-TooDeep
returns-in-TooDeep c = λ e s k h.
    (let n = c.over-height.ensures (height s) k.1 in (c.in-TooDeep.ensures (suc (height s)) e s n h k.0, n))
