use Rattle.std.proofs.Common.{◌≡◌, ◌≤◌, true, length, map}
use Rattle.ep_ast.specs.Expression.{type_word}
use Rattle.ep_ast.specs.TypeWords.{no_bag, all_joined, fits}
use Rattle.ep_lexer.specs.Tokens.{view}
use Rattle.ep_reading.specs.Names.{is_type}
use Rattle.ep_type_names.specs.Words.{bag}
use Rattle.ep_type_names.proofs.TypeWordLemmas.{WordsSo}
use Rattle.ep_type_names.proofs.words.type_words.Given as goal

abbrev pub invariant-words : goal.invariant-words
invariant-words l =
    WordsSo (is_type l.reader.names.now) (map view l.tokens) (map type_word l.words.items) (map view l.rest)
    × (bag l.bag ≡ all_joined no_bag (map type_word l.words.items)) × (fits (bag l.bag) ≡ true)
    × (length l.rest ≤ length l.tokens)

abbrev pub decreases-words : goal.decreases-words
decreases-words l = length l.rest
