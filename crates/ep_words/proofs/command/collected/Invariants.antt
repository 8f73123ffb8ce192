use Rattle.std.proofs.Common.{◌≡◌, ◌++◌, map, drop}
use Rattle.ep_words.specs.View as view
use Rattle.ep_words.specs.Words as rule
use Rattle.ep_words.proofs.command.collected.Given as goal

abbrev pub invariant-loop-word : goal.invariant-loop-word
invariant-loop-word l =
    l.numbers.items ++ map rule.input (view.words (drop l.word-index l.words)) ≡ map rule.input (view.words l.words)
