use Rattle.ep_core.specs.ProgramView.{program_view}
use Rattle.ep_movers.specs.Forms.{is_moving_what}
use Rattle.ep_double.proofs.Formed.{by_arms}
use Rattle.ep_double.proofs.mover.form.is_moving_what.Goals as goal

pub returns-in-ByOrder : goal.returns-in-ByOrder
returns-in-ByOrder c =
    by_arms (is_moving_what (program_view c.args.p.now)) c.args.what.now c.two_are_assignments.result
    c.in-ByOrder.field-0 c.in-ByOrder.a c.in-ByOrder.b c.deref.result.now c.deref-in-ByOrder.result.now
    c.in-ByOrder.is c.deref.ensures.value c.deref-in-ByOrder.ensures.value c.two_are_assignments.ensures
