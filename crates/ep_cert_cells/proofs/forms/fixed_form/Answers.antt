use Rattle.std.proofs.Common.{rules, arith, FitsSigned}
use Rattle.std.specs.Int.{w128}
use Rattle.std.proofs.lemmas.Int.{to_z-of_z}
use Rattle.ep_cert_cells.proofs.NormalForms.{fixed_is}
use Rattle.ep_cert_cells.proofs.forms.fixed_form.Goals as goal

pub returns-clause-some : goal.returns-clause-some
returns-clause-some c =
    let f : FitsSigned w128 c.from.result = search rules in
    let e = simp to_z-of_z at c.constant-whole.ensures.value in
    fixed_is c.args.value c.args.width c.from-2.result c.from.result c.constant-whole.result c.truncate.result
    c.from.ensures c.ranges.value.fits c.from-2.ensures (omega (arith, c.if-width-gt64.false)) e
    c.truncate.ensures.bits
