use Rattle.std.proofs.Common.{ap, ◌∙◌, ◌++◌}
use Rattle.ep_core.specs.ProgramView.{program_view}
use Rattle.ep_core.specs.View.{expr_view}
use Rattle.ep_transfers.specs.Transfers as spec
use Rattle.ep_transfer_stores.proofs.Handed.{one_next, one_faults}
use Rattle.ep_transfer_stores.proofs.statements.give_back.Goals as goal

pub returns-clause-next : goal.returns-clause-next
returns-clause-next g c =
    one_next (spec.gives g.N.Num.ops (program_view c.args.program.now) (expr_view c.args.e.now) c.args.mode c.args.state)
    (λ v. spec.assigned g.N.Num.ops c.args.sizes.now c.args.mode c.args.home.1 (spec.to_block g.N.Num.ops c.args.mode c.args.home.0) v c.args.state) c.in_ok-v.v _ c.in_ok-v.ensures.value
    (c.in_ok-next.ensures.next ∙ ap (λ z. (spec.assigned g.N.Num.ops c.args.sizes.now c.args.mode c.args.home.1 z c.in_ok-v.v c.args.state).next) c.in_ok-to.ensures)
    ∙ ap (λ zs. (spec.with_one (spec.gives g.N.Num.ops (program_view c.args.program.now) (expr_view c.args.e.now) c.args.mode c.args.state) (λ v. spec.assigned g.N.Num.ops zs c.args.mode c.args.home.1 (spec.to_block g.N.Num.ops c.args.mode c.args.home.0) v c.args.state)).next) c.requires.sizes

pub returns-clause-faults : goal.returns-clause-faults
returns-clause-faults g c =
    one_faults (spec.gives g.N.Num.ops (program_view c.args.program.now) (expr_view c.args.e.now) c.args.mode c.args.state)
    (λ v. spec.assigned g.N.Num.ops c.args.sizes.now c.args.mode c.args.home.1 (spec.to_block g.N.Num.ops c.args.mode c.args.home.0) v c.args.state) c.in_ok-v.v c.args.faults.now.items c.typed_value.new.faults.items _
    c.in_ok-v.ensures.value c.in_ok-v.ensures.faults
    (c.in_ok-next.ensures.faults ∙ ap (λ z. c.typed_value.new.faults.items ++ (spec.assigned g.N.Num.ops c.args.sizes.now c.args.mode c.args.home.1 z c.in_ok-v.v c.args.state).faults) c.in_ok-to.ensures)
    ∙ ap (λ zs. c.args.faults.now.items ++ (spec.with_one (spec.gives g.N.Num.ops (program_view c.args.program.now) (expr_view c.args.e.now) c.args.mode c.args.state) (λ v. spec.assigned g.N.Num.ops zs c.args.mode c.args.home.1 (spec.to_block g.N.Num.ops c.args.mode c.args.home.0) v c.args.state)).faults) c.requires.sizes
