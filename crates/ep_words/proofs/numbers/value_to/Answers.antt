use Rattle.std.proofs.Common.{drop}
use Rattle.ep_words.proofs.Digits.{past}
use Rattle.ep_words.proofs.numbers.value_to.Goals as goal

pub returns-then-value-most-clause-value : goal.returns-then-value-most-clause-value
returns-then-value-most-clause-value c =
    past c.loop-digit.value c.args.most (drop c.loop-digit.digit-index c.args.digits.now) c.args.digits.now
    c.loop-digit.invariant c.if-value-most.true
