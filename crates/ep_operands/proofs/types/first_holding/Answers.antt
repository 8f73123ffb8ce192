use Rattle.std.proofs.Common.{◌∙◌, pos, sym}
use Rattle.ep_operands.proofs.TypeLemmas.{held, none_held, not_held}
use Rattle.ep_operands.proofs.types.first_holding.Goals as goal

pub returns-then-holds : goal.returns-then-holds
returns-then-holds c =
    held (pos c.args.n) c.loop-t.t-index c.args.types.now _ c.loop-t-test.true c.loop-t.invariant (sym c.holds.ensures ∙ c.if-holds.true)

pub loop-t-preserved : goal.loop-t-preserved
loop-t-preserved c =
    not_held (pos c.args.n) c.loop-t.t-index c.args.types.now _ c.loop-t-test.true c.loop-t.invariant (sym c.holds.ensures ∙ c.if-holds.false)

pub returns : goal.returns
returns c = none_held (pos c.args.n) c.loop-t.t-index c.args.types.now c.loop-t-test.false c.loop-t.invariant
