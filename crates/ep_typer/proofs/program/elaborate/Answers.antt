use Rattle.std.proofs.lemmas.Result.{err_from_is_err_and}
use Rattle.ep_ast.specs.Statement.{program_of as items}
use Rattle.ep_typer.specs.View.{program}
use Rattle.ep_typer.proofs.Relations as relations
use Rattle.ep_typer.proofs.program.elaborate.Goals as goal

pub returns-in_err-parts-clause-offends : goal.returns-in_err-parts-clause-offends
returns-in_err-parts-clause-offends c =
    let p = err_from_is_err_and c.from_residual.result c.from_residual.ensures.1 in
    rw (p.1, p.2) (relations.offends c.args.model (items c.args.tree.now) c.in_err-parts.field-0.0 c.in_err-parts.ensures)

pub returns-in_err-parts-clause-means_nothing : goal.returns-in_err-parts-clause-means_nothing
returns-in_err-parts-clause-means_nothing c =
    let p = err_from_is_err_and c.from_residual.result c.from_residual.ensures.1 in
    rw (p.1, p.2) (relations.meaningless c.args.model (items c.args.tree.now) c.in_err-parts.field-0.0
    c.in_err-parts.ensures)

pub program_of-requires : goal.program_of-requires
program_of-requires c =
    relations.fits c.args.model (items c.args.tree.now) (program c.in_ok-parts.parts) c.in_ok-parts.ensures

pub returns-clause-means : goal.returns-clause-means
returns-clause-means c =
    rw c.program_of.ensures (relations.meant c.args.model (items c.args.tree.now) (program c.in_ok-parts.parts)
    c.in_ok-parts.ensures)

pub returns-clause-only : goal.returns-clause-only
returns-clause-only c =
    rw c.program_of.ensures (relations.alone c.args.model (items c.args.tree.now) (program c.in_ok-parts.parts)
    c.in_ok-parts.ensures)

pub returns-clause-faultless : goal.returns-clause-faultless
returns-clause-faultless c =
    relations.clear c.args.model (items c.args.tree.now) (program c.in_ok-parts.parts) c.in_ok-parts.ensures
