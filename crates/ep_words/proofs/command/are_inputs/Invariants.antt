use Rattle.std.proofs.Common.{◌≡◌, drop}
use Rattle.ep_words.specs.View as view
use Rattle.ep_words.specs.Words as rule
use Rattle.ep_words.proofs.command.are_inputs.Given as goal

abbrev pub invariant-loop-word : goal.invariant-loop-word
invariant-loop-word l = rule.are_inputs (view.words (drop l.word-index l.words)) ≡ rule.are_inputs (view.words l.words)
