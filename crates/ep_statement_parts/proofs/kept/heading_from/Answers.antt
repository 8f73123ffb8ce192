use Rattle.std.proofs.Common.{ap, ◌∙◌, Option}
use Rattle.ep_ast.specs.Expression.{Expr}
use Rattle.ep_ast.specs.Statement.{First}
use Rattle.ep_reading.specs.Measured.{joined}
use Rattle.ep_reading.proofs.MeasuredLemmas.{fits_shows, deep_shows}
use Rattle.ep_statement_parts.proofs.DepthLemmas.{turned_of, in_turned, turned_shows, turned_line}
use Rattle.ep_statement_parts.proofs.kept.heading_from.Goals as goal

pub returns-in-Fits : goal.returns-in-Fits
returns-in-Fits c = λ l f o q h i j.
    let s = turned_shows l c.args.first c.args.test c.args.next f o q h i j in
    let r = fits_shows turned_of (in_turned l) (joined (joined c.args.test c.args.next) c.args.first) ((o, q), f)
    c.in-Fits.parts (rw c.and-tests.ensures at c.in-Fits.ensures) s in
    (ap (λ (p : (Option Expr × Option Expr) × First). (p.1, p.0.0, p.0.1)) r.0, turned_line l f o q ∙ r.1)

pub returns-in-TooDeep : goal.returns-in-TooDeep
returns-in-TooDeep c = λ l f o q h i j.
    let s = turned_shows l c.args.first c.args.test c.args.next f o q h i j in
    turned_line l f o q
    ∙ deep_shows turned_of (in_turned l) (joined (joined c.args.test c.args.next) c.args.first) ((o, q), f)
    c.in-TooDeep.line (rw c.and-tests.ensures at c.in-TooDeep.ensures) s
