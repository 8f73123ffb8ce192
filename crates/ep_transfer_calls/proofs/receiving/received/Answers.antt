use Rattle.std.proofs.Common.{ap, ◌∙◌, ◌++◌}
use Rattle.ep_core.specs.Runs.{left, right}
use Rattle.ep_core.specs.ProgramView.{program_view}
use Rattle.ep_core.specs.View.{place_view}
use Rattle.ep_evaluation.specs.Evaluation.{place}
use Rattle.ep_transfers.specs.Calls as spec
use Rattle.ep_transfers.specs.Transfers as transfers
use Rattle.ep_transfer_calls.proofs.Handed.{wide_as, taken_is, taken_next, taken_faults, received_fits}
use Rattle.ep_transfer_calls.proofs.receiving.received.Goals as goal

pub received_as-v-requires-clause-left : goal.received_as-v-requires-clause-left
received_as-v-requires-clause-left g c =
    wide_as c.args.state c.args.home.1 c.in_ok-given.given.left.form c.in_ok-given.ensures.left.form

pub received_as-v-requires-clause-right : goal.received_as-v-requires-clause-right
received_as-v-requires-clause-right g c =
    wide_as c.args.state c.args.home.1 c.in_ok-given.given.right.form c.in_ok-given.ensures.right.form

pub assigned-requires-clause-left : goal.assigned-requires-clause-left
assigned-requires-clause-left g c =
    received_fits g.N.Num.ops (program_view c.args.program.now) c.args.mode c.waiting_laws.ensures
    c.args.program.now.well_formed c.args.home c.args.d.now.what c.requires.taken c.args.state c.requires.model
    c.model.ensures.cells left c.received_as-v.result
    (taken_is g.N.Num.ops (program_view c.args.program.now) c.args.mode c.args.home.1 c.args.d.now.what
    (spec.loaded_result g.N.Num.ops (program_view c.args.program.now) c.args.mode c.args.home c.args.state)
    c.in_ok-given.given c.received_as-v.result c.in_ok-given.ensures.value c.received_as-v.ensures)

pub assigned-requires-clause-right : goal.assigned-requires-clause-right
assigned-requires-clause-right g c =
    received_fits g.N.Num.ops (program_view c.args.program.now) c.args.mode c.waiting_laws.ensures
    c.args.program.now.well_formed c.args.home c.args.d.now.what c.requires.taken c.args.state c.requires.model
    c.model.ensures.cells right c.received_as-v.result
    (taken_is g.N.Num.ops (program_view c.args.program.now) c.args.mode c.args.home.1 c.args.d.now.what
    (spec.loaded_result g.N.Num.ops (program_view c.args.program.now) c.args.mode c.args.home c.args.state)
    c.in_ok-given.given c.received_as-v.result c.in_ok-given.ensures.value c.received_as-v.ensures)

pub returns-clause-next : goal.returns-clause-next
returns-clause-next g c =
    taken_next g.N.Num.ops (program_view c.args.program.now) c.args.mode c.args.home.1 c.args.d.now.what
    (spec.loaded_result g.N.Num.ops (program_view c.args.program.now) c.args.mode c.args.home c.args.state)
    c.in_ok-given.given c.received_as-v.result c.in_ok-given.ensures.value c.received_as-v.ensures
    (place g.N.Num.ops (transfers.sizes g.N.Num.ops (program_view c.args.program.now)) (place_view c.args.d.now.place)
    c.args.mode c.args.state)
    (λ v to. transfers.assigned g.N.Num.ops (transfers.sizes g.N.Num.ops (program_view c.args.program.now)) c.args.mode
    c.args.d.now.what to v c.args.state)
    c.in_ok-to.to c.in_ok-to.ensures.value c.in_ok-next.next
    (c.in_ok-next.ensures.next
    ∙ ap (λ zs. (transfers.assigned g.N.Num.ops zs c.args.mode c.args.d.now.what c.in_ok-to.to c.received_as-v.result
    c.args.state).next) c.requires.sizes)

pub returns-clause-faults : goal.returns-clause-faults
returns-clause-faults g c =
    taken_faults g.N.Num.ops (program_view c.args.program.now) c.args.mode c.args.home.1 c.args.d.now.what
    (spec.loaded_result g.N.Num.ops (program_view c.args.program.now) c.args.mode c.args.home c.args.state)
    c.in_ok-given.given c.received_as-v.result c.in_ok-given.ensures.value c.received_as-v.ensures
    (place g.N.Num.ops (transfers.sizes g.N.Num.ops (program_view c.args.program.now)) (place_view c.args.d.now.place)
    c.args.mode c.args.state)
    (λ v to. transfers.assigned g.N.Num.ops (transfers.sizes g.N.Num.ops (program_view c.args.program.now)) c.args.mode
    c.args.d.now.what to v c.args.state)
    c.in_ok-to.to c.in_ok-to.ensures.value c.args.faults.now.items c.loaded_result.new.faults.items
    c.place_at.new.faults.items c.assigned.new.faults.items c.in_ok-given.ensures.faults c.in_ok-to.ensures.faults
    (c.in_ok-next.ensures.faults
    ∙ ap (λ zs. c.place_at.new.faults.items ++ (transfers.assigned g.N.Num.ops zs c.args.mode c.args.d.now.what
    c.in_ok-to.to c.received_as-v.result c.args.state).faults) c.requires.sizes)
