use Rattle.std.proofs.Common.{◌≡◌, drop, find, map}
use Rattle.ep_ast.specs.Expression.{type_word}
use Rattle.ep_typing.specs.Names.{is_whole}
use Rattle.ep_scopes.proofs.words.whole_word.Given as goal

abbrev pub invariant-loop-word : goal.invariant-loop-word
invariant-loop-word l = find is_whole (map type_word (drop l.word-index l.all)) ≡ find is_whole (map type_word l.all)
