use Rattle.std.proofs.Common.{arith}
use Rattle.ep_scalar_reads.proofs.Bytes.{drop_at, form_turn, form_ends}
use Rattle.ep_scalar_reads.proofs.read.form_with.Goals as goal

pub loop-r-preserved : goal.loop-r-preserved
loop-r-preserved g c =
    form_turn c.args.first c.loop-r.form c.joined-form.result c.args.bytes.now c.r-item.result c.loop-r.r-index
    (drop_at c.args.bytes.now c.loop-r.r-index c.r-item.result c.r-item.is c.loop-r-test.true)
    (omega (arith, c.loop-r-test.true, c.requires.few)) c.loop-r.invariant c.is_form.ensures c.joined-form.ensures

pub returns : goal.returns
returns g c =
    form_ends c.args.first c.loop-r.form c.args.bytes.now c.loop-r.r-index (omega (arith, c.loop-r-test.false))
    c.loop-r.invariant
