use Rattle.std.proofs.Common.{◌∙◌, sym}
use Rattle.ep_operands.proofs.NameLemmas.{is_listed, none_listed, not_listed}
use Rattle.ep_operands.proofs.names.listed.Goals as goal

pub returns-then-eq : goal.returns-then-eq
returns-then-eq c =
    is_listed c.args.name.now c.loop-text.text-index c.args.functions.now _ c.loop-text-test.true c.loop-text.invariant (sym c.eq.ensures ∙ c.if-eq.true)

pub loop-text-preserved : goal.loop-text-preserved
loop-text-preserved c =
    not_listed c.args.name.now c.loop-text.text-index c.args.functions.now _ c.loop-text-test.true c.loop-text.invariant (sym c.eq.ensures ∙ c.if-eq.false)

pub returns : goal.returns
returns c = none_listed c.args.name.now c.loop-text.text-index c.args.functions.now c.loop-text-test.false c.loop-text.invariant
