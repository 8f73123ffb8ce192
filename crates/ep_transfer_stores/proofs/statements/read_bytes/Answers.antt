use Rattle.std.proofs.Common.{ap, ◌∙◌, ◌++◌}
use Rattle.ep_core.specs.ProgramView.{program_view}
use Rattle.ep_core.specs.View.{expr_view}
use Rattle.ep_transfers.specs.Transfers as spec
use Rattle.ep_transfer_stores.proofs.Handed.{one_next, one_faults, after_more}
use Rattle.ep_transfer_stores.proofs.statements.read_bytes.Goals as goal

pub returns-clause-next : goal.returns-clause-next
returns-clause-next g c =
    one_next (spec.gives g.N.Num.ops (program_view c.args.program.now) (expr_view c.args.to.now) c.args.mode c.args.state)
    (λ v. spec.after_faults (spec.alone_faults c.args.mode) (spec.read_in g.N.Num.ops c.args.sizes.now c.args.mode c.args.bytes v c.args.state)) c.in_ok-at.at _ c.in_ok-at.ensures.value c.in_ok-next.ensures.next
    ∙ ap (λ zs. (spec.with_one (spec.gives g.N.Num.ops (program_view c.args.program.now) (expr_view c.args.to.now) c.args.mode c.args.state) (λ v. spec.after_faults (spec.alone_faults c.args.mode) (spec.read_in g.N.Num.ops zs c.args.mode c.args.bytes v c.args.state))).next) c.requires.sizes

pub returns-clause-faults : goal.returns-clause-faults
returns-clause-faults g c =
    one_faults (spec.gives g.N.Num.ops (program_view c.args.program.now) (expr_view c.args.to.now) c.args.mode c.args.state)
    (λ v. spec.after_faults (spec.alone_faults c.args.mode) (spec.read_in g.N.Num.ops c.args.sizes.now c.args.mode c.args.bytes v c.args.state)) c.in_ok-at.at c.args.faults.now.items c.typed_value.new.faults.items _
    c.in_ok-at.ensures.value c.in_ok-at.ensures.faults
    (after_more (spec.alone_faults c.args.mode) (spec.read_in g.N.Num.ops c.args.sizes.now c.args.mode c.args.bytes c.in_ok-at.at c.args.state) c.typed_value.new.faults.items c.note_alone.new.faults.items _
    c.in_ok-note_alone.ensures c.in_ok-next.ensures.faults)
    ∙ ap (λ zs. c.args.faults.now.items ++ (spec.with_one (spec.gives g.N.Num.ops (program_view c.args.program.now) (expr_view c.args.to.now) c.args.mode c.args.state) (λ v. spec.after_faults (spec.alone_faults c.args.mode) (spec.read_in g.N.Num.ops zs c.args.mode c.args.bytes v c.args.state))).faults) c.requires.sizes
