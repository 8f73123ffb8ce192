use Rattle.std.proofs.Common.{◌≤◌, length, map, List, Option}
use Rattle.ep_ast.specs.Expression.{Expr}
use Rattle.ep_lexer.specs.Tokens.{view}
use Rattle.ep_reading.specs.Names.{is_type}
use Rattle.ep_declarations.specs.Parts.{ShowsBounds}
use Rattle.ep_declarations.proofs.BoundLemmas.{BoundsSo}
use Rattle.ep_declarations.proofs.bracketed.bounds.Given as goal

abbrev pub invariant-bounds : goal.invariant-bounds
invariant-bounds l =
    ((bs : List (Option Expr)) × ShowsBounds l.found bs × BoundsSo (is_type l.reader.names.now) (map view l.tokens) bs
    (map view l.rest)) × (length l.rest ≤ length l.tokens)

abbrev pub decreases-bounds : goal.decreases-bounds
decreases-bounds l = length l.rest
