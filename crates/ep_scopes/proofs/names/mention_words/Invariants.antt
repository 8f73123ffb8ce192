use Rattle.std.proofs.Common.{◌≡◌, drop, map}
use Rattle.ep_ast.specs.Expression.{type_word}
use Rattle.ep_typing.specs.Names.{mentioned_words}
use Rattle.ep_scopes.specs.View.{env}
use Rattle.ep_scopes.proofs.names.mention_words.Given as goal

abbrev pub invariant-loop-word : goal.invariant-loop-word
invariant-loop-word l = mentioned_words (env l.env) (map type_word (drop l.word-index l.all)) ≡ mentioned_words (env l.fn.env) (map type_word l.all)
