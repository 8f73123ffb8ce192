use Rattle.std.proofs.Common.{ap, ◌∙◌, ◌++◌}
use Rattle.ep_core.specs.Runs.{left, right}
use Rattle.ep_core.specs.ProgramView.{program_view}
use Rattle.ep_transfers.specs.Transfers.{Stepped}
use Rattle.ep_transfer_calls.proofs.Set.{may_take, if_stays, set_is}
use Rattle.ep_transfer_calls.proofs.passing.set_one.Goals as goal

pub assigned-requires-clause-left : goal.assigned-requires-clause-left
assigned-requires-clause-left g c =
    may_take g.N.Num.ops (program_view c.args.program.now) c.args.frame.now.keys c.waiting_laws.ensures
    c.args.program.now.well_formed c.args.b c.args.v c.args.state c.requires.waits left c.off_frame-v.result
    c.off_frame-v.ensures

pub assigned-requires-clause-right : goal.assigned-requires-clause-right
assigned-requires-clause-right g c =
    may_take g.N.Num.ops (program_view c.args.program.now) c.args.frame.now.keys c.waiting_laws.ensures
    c.args.program.now.well_formed c.args.b c.args.v c.args.state c.requires.waits right c.off_frame-v.result
    c.off_frame-v.ensures

pub returns-clause-next : goal.returns-clause-next
returns-clause-next g c =
    c.in_ok-next.ensures.next
    ∙ ap (λ (s : Stepped _). s.next)
    (set_is g.N.Num.ops (program_view c.args.program.now) c.args.frame.now.keys c.args.mode c.args.b c.args.v c.args.state
    c.args.sizes.now c.in_ok-to.to c.off_frame-v.result c.requires.sizes c.in_ok-to.ensures c.off_frame-v.ensures)

pub returns-clause-stays : goal.returns-clause-stays
returns-clause-stays g c =
    if_stays g.N.Num.ops (program_view c.args.program.now) c.args.frame.now.keys c.waiting_laws.ensures
    c.args.program.now.well_formed c.args.b c.args.v c.args.state c.requires.waits c.args.mode c.model.ensures.cells
    c.in_ok-next.next (returns-clause-next g c)

pub returns-clause-faults : goal.returns-clause-faults
returns-clause-faults g c =
    c.in_ok-next.ensures.faults
    ∙ ap (λ (s : Stepped _). c.args.faults.now.items ++ s.faults)
    (set_is g.N.Num.ops (program_view c.args.program.now) c.args.frame.now.keys c.args.mode c.args.b c.args.v c.args.state
    c.args.sizes.now c.in_ok-to.to c.off_frame-v.result c.requires.sizes c.in_ok-to.ensures c.off_frame-v.ensures)
