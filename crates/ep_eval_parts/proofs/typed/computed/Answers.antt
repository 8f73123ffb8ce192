use Rattle.std.proofs.Common.{Some, sym}
use Rattle.ep_core.specs.View.{expr_view}
use Rattle.ep_core.specs.Runs.{left, right}
use Rattle.ep_eval_parts.proofs.Widths.{wide}
use Rattle.ep_eval_parts.proofs.typed.computed.Goals as goal

pub binary-requires-clause-left : goal.binary-requires-clause-left
binary-requires-clause-left g c =
    wide g.N.Num.ops c.read_laws.ensures c.args.sizes.now c.args.state.now c.model.ensures.cells (expr_view c.args.a.now)
    c.requires.fit c.args.mode c.args.x.now c.requires.first left (Some c.args.t) (sym c.requires.typed)

pub binary-requires-clause-right : goal.binary-requires-clause-right
binary-requires-clause-right g c =
    wide g.N.Num.ops c.read_laws.ensures c.args.sizes.now c.args.state.now c.model.ensures.cells (expr_view c.args.a.now)
    c.requires.fit c.args.mode c.args.x.now c.requires.first right (Some c.args.t) (sym c.requires.typed)
