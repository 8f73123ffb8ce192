use Rattle.std.proofs.Common.{◌≤◌, List, length, map}
use Rattle.ep_ast.specs.Declaration.{Init}
use Rattle.ep_lexer.specs.Tokens.{view}
use Rattle.ep_reading.specs.Names.{is_type}
use Rattle.ep_declarations.specs.DeclaratorAnswer.{ShowsInits}
use Rattle.ep_declarations.proofs.InitLemmas.{InitsSo}
use Rattle.ep_declarations.proofs.initialisers.inits.Given as goal

abbrev pub invariant-inits : goal.invariant-inits
invariant-inits l =
    ((is : List Init) × ShowsInits l.found is × InitsSo (is_type l.reader.names.now) (map view l.tokens) is
    (map view l.rest)) × (length l.rest ≤ length l.tokens)

abbrev pub decreases-inits : goal.decreases-inits
decreases-inits l = length l.rest
