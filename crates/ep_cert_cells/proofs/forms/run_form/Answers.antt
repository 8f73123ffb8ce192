use Rattle.std.proofs.Common.{arith}
use Rattle.ep_cert_cells.proofs.NormalForms.{run_is}
use Rattle.ep_cert_cells.proofs.forms.run_form.Goals as goal

pub returns-clause-some : goal.returns-clause-some
returns-clause-some c =
    run_is c.args.cell _ c.args.from c.args.to c.from.result c.from-2.result c.of_cell.result c.slice-part.result
    c.rename.result c.from.ensures c.from-2.ensures (omega (arith, c.if-from-to.false))
    (omega (arith, c.if-to-gt64.false)) c.of_cell.ensures.value c.slice-part.ensures.bits c.rename.ensures.bits
