use Rattle.std.proofs.Common.{rules, arith}
use Rattle.ep_cert_cells.proofs.NormalForms.{first_wrong, one_wrong, too_many, same_all, other_all, begun_at, more_bits}
use Rattle.ep_cert_cells.proofs.forms.form_of.Goals as goal

pub returns-in_err-whole : goal.returns-in_err-whole
returns-in_err-whole c =
    rw c.from_residual.ensures
    (first_wrong c.args.all.now c.args.first.now c.args.rest.now c.requires c.in_err-whole.ensures.none)

pub loop-s-init : goal.loop-s-init
loop-s-init c =
    begun_at c.args.all.now c.args.first.now c.args.rest.now c.in_ok-whole.whole c.requires c.in_ok-whole.ensures.some

pub returns-in_err-one : goal.returns-in_err-one
returns-in_err-one c =
    rw c.from_residual-in_err-one.ensures
    (one_wrong c.args.all.now c.args.first.now c.args.rest.now c.loop-s.s-index _ c.requires c.loop-s-test.true
    c.in_err-one.ensures.none)

pub returns-in_err-whole-2 : goal.returns-in_err-whole-2
returns-in_err-whole-2 c =
    rw c.from_residual-in_err-whole-2.ensures
    (too_many c.args.all.now c.args.first.now c.args.rest.now c.loop-s.whole c.in_ok-one.one c.loop-s.s-index _
    c.requires c.loop-s-test.true c.in_ok-one.ensures.some c.loop-s.invariant c.in_err-whole-2.ensures.value)

pub loop-s-preserved : goal.loop-s-preserved
loop-s-preserved c =
    more_bits c.loop-s.whole c.in_ok-one.one c.in_ok-whole-2.whole c.args.rest.now c.args.all.now c.loop-s.s-index _
    c.loop-s-test.true c.in_ok-one.ensures.some c.in_ok-whole-2.ensures.bits c.loop-s.invariant

pub returns-then-are_same : goal.returns-then-are_same
returns-then-are_same c =
    same_all c.args.all.now c.loop-s.whole (search rules) (search rules)

pub returns-else-are_same : goal.returns-else-are_same
returns-else-are_same c =
    other_all c.args.all.now c.loop-s.whole c.args.first.now c.args.rest.now c.loop-s.s-index c.requires
    (omega (arith, c.loop-s-test.false)) c.loop-s.invariant (search rules) (search rules)
