use Rattle.ep_core.specs.View.{expr_view}
use Rattle.ep_core.specs.Runs.{left, right}
use Rattle.ep_eval_parts.proofs.Widths.{wide}
use Rattle.ep_eval_parts.proofs.typed.converted.Goals as goal

pub conversion-requires-clause-left : goal.conversion-requires-clause-left
conversion-requires-clause-left g c =
    wide g.N.Num.ops c.read_laws.ensures c.args.sizes.now c.args.state.now c.model.ensures.cells (expr_view c.args.a.now)
    c.requires.fit c.args.mode c.args.x.now c.requires.first left c.int_type_of.result c.int_type_of.ensures

pub conversion-requires-clause-right : goal.conversion-requires-clause-right
conversion-requires-clause-right g c =
    wide g.N.Num.ops c.read_laws.ensures c.args.sizes.now c.args.state.now c.model.ensures.cells (expr_view c.args.a.now)
    c.requires.fit c.args.mode c.args.x.now c.requires.first right c.int_type_of.result c.int_type_of.ensures
