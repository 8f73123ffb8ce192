use Rattle.ep_core.specs.ProgramView.{program_view}
use Rattle.ep_core.specs.View.{expr_view}
use Rattle.ep_transfer_simple.proofs.Doing.{bytes_next, bytes_faults}
use Rattle.ep_transfer_simple.proofs.statements.copy_bytes.Goals as goal

pub returns-clause-next : goal.returns-clause-next
returns-clause-next g c =
    bytes_next g.N.Num.ops (program_view c.args.program.now) c.args.mode c.args.state c.args.sizes.now c.requires.sizes
    (expr_view c.args.to.now) (expr_view c.args.from.now) c.args.bytes c.in_ok-target.target
    c.in_ok-source.source c.in_ok-target.ensures.value c.in_ok-source.ensures.value _ c.in_ok-next.ensures.next

pub returns-clause-faults : goal.returns-clause-faults
returns-clause-faults g c =
    bytes_faults g.N.Num.ops (program_view c.args.program.now) c.args.mode c.args.state c.args.sizes.now c.requires.sizes
    (expr_view c.args.to.now) (expr_view c.args.from.now) c.args.bytes c.in_ok-target.target
    c.in_ok-source.source c.in_ok-target.ensures.value c.in_ok-source.ensures.value c.args.faults.now.items
    c.typed_value.new.faults.items c.typed_value-2.new.faults.items _ c.in_ok-target.ensures.faults
    c.in_ok-source.ensures.faults c.in_ok-next.ensures.faults
