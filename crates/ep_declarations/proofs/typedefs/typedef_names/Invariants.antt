use Rattle.std.proofs.Common.{◌≤◌, length, map, List}
use Rattle.ep_ast.specs.Declaration.{Declarator}
use Rattle.ep_lexer.specs.Tokens.{view}
use Rattle.ep_reading.specs.Names.{is_type}
use Rattle.ep_declarations.specs.DeclaratorAnswer.{ShowsDeclarators}
use Rattle.ep_declarations.proofs.TypedefLemmas.{TypedefsSo}
use Rattle.ep_declarations.proofs.typedefs.typedef_names.Given as goal

abbrev pub invariant-typedefs : goal.invariant-typedefs
invariant-typedefs l =
    ((ds : List Declarator) × ShowsDeclarators l.found ds × TypedefsSo (is_type l.fn.names) (is_type l.names)
    (map view l.tokens) ds (map view l.rest)) × (length l.rest ≤ length l.tokens)

abbrev pub decreases-typedefs : goal.decreases-typedefs
decreases-typedefs l = length l.rest
