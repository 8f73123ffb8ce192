use Rattle.std.proofs.Common.{◌≤◌, ◌+◌, ◌*◌, List, length, map}
use Rattle.ep_ast.specs.Declaration.{Value}
use Rattle.ep_lexer.specs.Tokens.{view}
use Rattle.ep_reading.specs.Names.{is_type}
use Rattle.ep_declarations.specs.Parts.{ShowsValues}
use Rattle.ep_declarations.proofs.ValueLemmas.{ValuesSo}
use Rattle.ep_declarations.proofs.initialisers.+values.Given as goal

abbrev pub decreases-value : goal.decreases-value
decreases-value l = 2 * length l.tokens.now

abbrev pub decreases-values : goal.decreases-values
decreases-values l = 2 * length l.tokens.now + 1

abbrev pub invariant-values-values : goal.invariant-values-values
invariant-values-values l =
    ((vs : List Value) × ShowsValues l.found vs × ValuesSo (is_type l.reader.names.now) (map view l.tokens) vs
    (map view l.rest)) × (length l.rest ≤ length l.tokens)

abbrev pub decreases-values-values : goal.decreases-values-values
decreases-values-values l = length l.rest
