use Rattle.std.proofs.Common.{◌≡◌, ◌+◌, drop}
use Rattle.std.specs.List.{position_from}
use Rattle.std.specs.Str.{bytes_eq}
use Rattle.ep_ast.specs.Token.{reserved_words}
use Rattle.ep_lexer.proofs.words.reserved.Given as goal

abbrev pub invariant-loop-at : goal.invariant-loop-at
invariant-loop-at l = position_from (bytes_eq l.text) (l.at + 1) (drop l.at reserved_words) ≡ position_from
    (bytes_eq l.text) 1 reserved_words
