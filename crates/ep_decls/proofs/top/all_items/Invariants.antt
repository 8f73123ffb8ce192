use Rattle.std.proofs.Common.{◌≤◌, List, map, length}
use Rattle.ep_ast.specs.Statement.{Item}
use Rattle.ep_lexer.specs.Tokens.{view}
use Rattle.ep_reading.specs.Names.{is_type}
use Rattle.ep_decls.specs.Answer.{ShowsItems}
use Rattle.ep_decls.proofs.ProgramLemmas.{ItemsSo}
use Rattle.ep_decls.proofs.top.all_items.Given as goal

abbrev pub invariant-items : goal.invariant-items
invariant-items l = ((is : List Item) × ShowsItems l.found is
    × ItemsSo (map view l.tokens) is (is_type l.names) (map view l.rest)) × (length l.rest ≤ length l.tokens)

abbrev pub decreases-items : goal.decreases-items
decreases-items l = length l.rest
