use Rattle.std.proofs.Common.{ap, ◌∙◌, List, Some}
use Rattle.ep_ast.specs.Statement as shape
use Rattle.ep_ast.specs.Statement.{Stmt, to_stmts}
use Rattle.ep_reading.specs.Measured.{joined}
use Rattle.ep_reading.proofs.MeasuredLemmas.{fits_shows, deep_shows}
use Rattle.ep_statement_parts.proofs.DepthLemmas.{arms_of, in_arms, arms_shows, arms_line}
use Rattle.ep_statement_parts.proofs.kept.arms_tree.Goals as goal

pub returns-in-Fits : goal.returns-in-Fits
returns-in-Fits c = λ ss ts k j.
    let r = fits_shows arms_of in_arms (joined c.args.then c.args.otherwise) (ss, ts) c.in-Fits.arms c.in-Fits.ensures
    (arms_shows c.args.then c.args.otherwise ss ts k j) in (
      c.new_arms.ensures ∙ ap (λ (p : List Stmt × List Stmt). shape.make_arms c.args.line c.args.order (to_stmts p.0)
          (Some (to_stmts p.1))) r.0,
      arms_line ss ts ∙ r.1,
    )

pub returns-in-TooDeep : goal.returns-in-TooDeep
returns-in-TooDeep c = λ ss ts k j.
    arms_line ss ts ∙ deep_shows arms_of in_arms (joined c.args.then c.args.otherwise) (ss, ts) c.in-TooDeep.line
    c.in-TooDeep.ensures (arms_shows c.args.then c.args.otherwise ss ts k j)
