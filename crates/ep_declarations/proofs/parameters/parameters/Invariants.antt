use Rattle.std.proofs.Common.{◌≤◌, List, length, map}
use Rattle.ep_ast.specs.Declaration.{Param}
use Rattle.ep_lexer.specs.Tokens.{view}
use Rattle.ep_reading.specs.Names.{is_type}
use Rattle.ep_declarations.specs.Parts.{ShowsSome}
use Rattle.ep_declarations.proofs.ParameterLemmas.{ParamsSo}
use Rattle.ep_declarations.proofs.parameters.parameters.Given as goal

abbrev pub invariant-parameters : goal.invariant-parameters
invariant-parameters l =
    ((ps : List Param) × ShowsSome l.found ps × ParamsSo (is_type l.reader.names.now) (map view l.tokens) ps
    (map view l.rest)) × (length l.rest ≤ length l.tokens)

abbrev pub decreases-parameters : goal.decreases-parameters
decreases-parameters l = length l.rest
