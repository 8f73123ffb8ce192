use Rattle.std.proofs.Common.{arith, suc, max, ap}
use Rattle.ep_ast.specs.Expression.{Expr}
use Rattle.ep_ast.specs.Statement as shape
use Rattle.ep_ast.specs.Statement.{Stmt}
use Rattle.ep_ast.specs.Depth.{height}
use Rattle.ep_statement_parts.proofs.DepthLemmas.{counts_max}
use Rattle.ep_branches_and_loops.proofs.headed.if_else.Goals as goal

pub returns-in_ok-otherwise-in-Fits : goal.returns-in_ok-otherwise-in-Fits
returns-in_ok-otherwise-in-Fits c = λ e s t h k m. (
    let n = c.over-height.ensures (max (height s) (height t))
    (counts_max c.args.then.height c.args.otherwise.height c.max.result (height s) (height t) (omega arith) k.1
    m.1) in
    let p = c.with_test-parts.ensures (suc (max (height s) (height t))) e s n h k.0 in
    let r = c.in-Fits.ensures (suc (max (height s) (height t))) c.args.line e s t p m.0 in (
      (
        rw (c.new_if-tree.ensures, c.in_ok-then-in-Fits.ensures.ok, c.in_ok-otherwise-in-Fits.ensures.ok)
            (ap (λ (q : (Expr × Stmt) × Stmt). shape.if_else c.args.line q.0.0 q.0.1 q.1) r.0),
        r.1,
      ),
      n,
    ))

pub returns-in-TooDeep : goal.returns-in-TooDeep
returns-in-TooDeep c = λ e s t h k m. (
    let n = c.over-height.ensures (max (height s) (height t))
    (counts_max c.args.then.height c.args.otherwise.height c.max.result (height s) (height t) (omega arith) k.1
    m.1) in
    let p = c.with_test-parts.ensures (suc (max (height s) (height t))) e s n h k.0 in
    (c.in-TooDeep.ensures (suc (max (height s) (height t))) c.args.line e s t p m.0, n))
