use Rattle.std.proofs.Common.{◌≤◌, List, map, length}
use Rattle.ep_ast.specs.Statement.{Function}
use Rattle.ep_lexer.specs.Tokens.{view}
use Rattle.ep_reading.specs.Names.{is_type}
use Rattle.ep_decls.specs.Answer.{ShowsFunctions}
use Rattle.ep_decls.proofs.FunctionLemmas.{FunctionsSo}
use Rattle.ep_decls.proofs.functions.all_functions.Given as goal

abbrev pub invariant-functions : goal.invariant-functions
invariant-functions l = ((fs : List Function) × ShowsFunctions l.found fs
    × FunctionsSo (is_type l.reader.names.now) (map view l.tokens) fs (map view l.rest))
    × (length l.rest ≤ length l.tokens)

abbrev pub decreases-functions : goal.decreases-functions
decreases-functions l = length l.rest
