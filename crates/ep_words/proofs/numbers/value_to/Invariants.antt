use Rattle.std.proofs.Common.{◌≡◌, drop}
use Rattle.ep_words.specs.Words as rule
use Rattle.ep_words.proofs.numbers.value_to.Given as goal

abbrev pub invariant-loop-digit : goal.invariant-loop-digit
invariant-loop-digit l = rule.digits_from l.value (drop l.digit-index l.digits) ≡ rule.digits_value l.digits
