use Rattle.std.proofs.Common.{arith, ◌∙◌}
use Rattle.ep_core.specs.ProgramView.{program_view}
use Rattle.ep_double.proofs.Moves.{alone, not_alone}
use Rattle.ep_double.proofs.mover.form.has_moving_form.Goals as goal

pub returns-then-len-ne1 : goal.returns-then-len-ne1
returns-then-len-ne1 c =
    not_alone (program_view c.args.p.now) c.args.p.now.functions.items
    (λ e. c.if-len-ne1.true (omega (arith, e, c.len.ensures)))

pub returns : goal.returns
returns c =
    c.has_moving_main.ensures
    ∙ alone (program_view c.args.p.now) c.args.p.now.functions.items c.index.result.now (omega arith) c.index.ensures
