use Rattle.std.proofs.Common.{ap, ◌∙◌, ◌++◌}
use Rattle.ep_core.specs.ProgramView.{program_view}
use Rattle.ep_core.specs.View.{expr_view, place_view}
use Rattle.ep_evaluation.specs.Evaluation.{place}
use Rattle.ep_transfers.specs.Transfers as spec
use Rattle.ep_transfer_stores.proofs.Handed.{two_next, two_faults}
use Rattle.ep_transfer_stores.proofs.statements.assign.Goals as goal

pub returns-clause-next : goal.returns-clause-next
returns-clause-next g c =
    two_next (place g.N.Num.ops (spec.sizes g.N.Num.ops (program_view c.args.program.now)) (place_view c.args.a.now) c.args.mode c.args.state) (spec.gives g.N.Num.ops (program_view c.args.program.now) (expr_view c.args.e.now) c.args.mode c.args.state)
    (λ to v. spec.assigned g.N.Num.ops c.args.sizes.now c.args.mode c.args.what to v c.args.state)
    c.in_ok-to.to c.in_ok-v.v _ c.in_ok-to.ensures.value c.in_ok-v.ensures.value c.in_ok-next.ensures.next
    ∙ ap (λ zs. (spec.with_two (place g.N.Num.ops (spec.sizes g.N.Num.ops (program_view c.args.program.now)) (place_view c.args.a.now) c.args.mode c.args.state) (spec.gives g.N.Num.ops (program_view c.args.program.now) (expr_view c.args.e.now) c.args.mode c.args.state)
    (λ to v. spec.assigned g.N.Num.ops zs c.args.mode c.args.what to v c.args.state)).next) c.requires.sizes

pub returns-clause-faults : goal.returns-clause-faults
returns-clause-faults g c =
    two_faults (place g.N.Num.ops (spec.sizes g.N.Num.ops (program_view c.args.program.now)) (place_view c.args.a.now) c.args.mode c.args.state) (spec.gives g.N.Num.ops (program_view c.args.program.now) (expr_view c.args.e.now) c.args.mode c.args.state)
    (λ to v. spec.assigned g.N.Num.ops c.args.sizes.now c.args.mode c.args.what to v c.args.state)
    c.in_ok-to.to c.in_ok-v.v c.args.faults.now.items c.place_at.new.faults.items c.typed_value.new.faults.items _
    c.in_ok-to.ensures.value c.in_ok-v.ensures.value c.in_ok-to.ensures.faults c.in_ok-v.ensures.faults
    c.in_ok-next.ensures.faults
    ∙ ap (λ zs. c.args.faults.now.items ++ (spec.with_two (place g.N.Num.ops (spec.sizes g.N.Num.ops (program_view c.args.program.now)) (place_view c.args.a.now) c.args.mode c.args.state) (spec.gives g.N.Num.ops (program_view c.args.program.now) (expr_view c.args.e.now) c.args.mode c.args.state)
    (λ to v. spec.assigned g.N.Num.ops zs c.args.mode c.args.what to v c.args.state)).faults) c.requires.sizes
