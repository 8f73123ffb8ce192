use Rattle.std.proofs.Common.{◌+◌, ◌≤◌, length, map}
use Rattle.ep_lexer.specs.Tokens.{view}
use Rattle.ep_lexer.specs.Step.{position_view, constants}
use Rattle.ep_lexer.proofs.Steps.{Upto}
use Rattle.ep_lexer.proofs.lexer.lex.Given as goal

abbrev pub invariant-pieces : goal.invariant-pieces
invariant-pieces l = record {
  read : Upto l.source (map view l.list.items) (position_view l.position (constants l.definitions)) l.rest;
  within : l.position.line + length l.rest ≤ 1 + length l.source;
}

abbrev pub decreases-pieces : goal.decreases-pieces
decreases-pieces l = length l.rest
