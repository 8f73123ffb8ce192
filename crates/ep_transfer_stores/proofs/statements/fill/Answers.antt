use Rattle.std.proofs.Common.{ap, ◌∙◌, ◌++◌}
use Rattle.ep_core.specs.ProgramView.{program_view}
use Rattle.ep_core.specs.View.{expr_view}
use Rattle.ep_transfers.specs.Transfers as spec
use Rattle.ep_transfer_stores.proofs.Handed.{two_next, two_faults}
use Rattle.ep_transfer_stores.proofs.statements.fill.Goals as goal

pub returns-clause-next : goal.returns-clause-next
returns-clause-next g c =
    two_next (spec.gives g.N.Num.ops (program_view c.args.program.now) (expr_view c.args.to.now) c.args.mode c.args.state) (spec.gives g.N.Num.ops (program_view c.args.program.now) (expr_view c.args.byte.now) c.args.mode c.args.state)
    (λ to v. spec.filled_with g.N.Num.ops c.args.sizes.now c.args.mode c.args.bytes to v c.args.state)
    c.in_ok-at.at c.in_ok-v.v _ c.in_ok-at.ensures.value c.in_ok-v.ensures.value c.in_ok-next.ensures.next
    ∙ ap (λ zs. (spec.with_two (spec.gives g.N.Num.ops (program_view c.args.program.now) (expr_view c.args.to.now) c.args.mode c.args.state) (spec.gives g.N.Num.ops (program_view c.args.program.now) (expr_view c.args.byte.now) c.args.mode c.args.state)
    (λ to v. spec.filled_with g.N.Num.ops zs c.args.mode c.args.bytes to v c.args.state)).next) c.requires.sizes

pub returns-clause-faults : goal.returns-clause-faults
returns-clause-faults g c =
    two_faults (spec.gives g.N.Num.ops (program_view c.args.program.now) (expr_view c.args.to.now) c.args.mode c.args.state) (spec.gives g.N.Num.ops (program_view c.args.program.now) (expr_view c.args.byte.now) c.args.mode c.args.state)
    (λ to v. spec.filled_with g.N.Num.ops c.args.sizes.now c.args.mode c.args.bytes to v c.args.state)
    c.in_ok-at.at c.in_ok-v.v c.args.faults.now.items c.typed_value.new.faults.items c.typed_value-2.new.faults.items _
    c.in_ok-at.ensures.value c.in_ok-v.ensures.value c.in_ok-at.ensures.faults c.in_ok-v.ensures.faults
    c.in_ok-next.ensures.faults
    ∙ ap (λ zs. c.args.faults.now.items ++ (spec.with_two (spec.gives g.N.Num.ops (program_view c.args.program.now) (expr_view c.args.to.now) c.args.mode c.args.state) (spec.gives g.N.Num.ops (program_view c.args.program.now) (expr_view c.args.byte.now) c.args.mode c.args.state)
    (λ to v. spec.filled_with g.N.Num.ops zs c.args.mode c.args.bytes to v c.args.state)).faults) c.requires.sizes
