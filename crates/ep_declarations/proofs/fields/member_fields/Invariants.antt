use Rattle.std.proofs.Common.{◌≤◌, List, length, map}
use Rattle.ep_ast.specs.Declaration.{MemberField}
use Rattle.ep_lexer.specs.Tokens.{view}
use Rattle.ep_reading.specs.Names.{is_type}
use Rattle.ep_declarations.specs.DeclaratorAnswer.{ShowsFields}
use Rattle.ep_declarations.proofs.FieldLemmas.{FieldsSo}
use Rattle.ep_declarations.proofs.fields.member_fields.Given as goal

abbrev pub invariant-fields : goal.invariant-fields
invariant-fields l =
    ((fs : List MemberField) × ShowsFields l.found fs × FieldsSo (is_type l.reader.names.now) (map view l.tokens) fs
    (map view l.rest)) × (length l.rest ≤ length l.tokens)

abbrev pub decreases-fields : goal.decreases-fields
decreases-fields l = length l.rest
