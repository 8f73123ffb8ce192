use Rattle.std.proofs.Common.{map}
use Rattle.std.proofs.lemmas.Result.{err_from_is_err_and}
use Rattle.ep_ast.specs.DeclarationGrammar.{at_file_scope, Specified}
use Rattle.ep_ast.specs.ProgramGrammar.{Defines}
use Rattle.ep_lexer.specs.Tokens.{view}
use Rattle.ep_reading.specs.Names.{is_type}
use Rattle.ep_reading.proofs.PassLemmas.{stops_stop}
use Rattle.ep_decls.proofs.AnswerLemmas.{moved_stops}
use Rattle.ep_decls.proofs.FunctionLemmas as functions
use Rattle.ep_decls.proofs.functions.function.Goals as goal

pub returns-in_err-specs-clause-reads : goal.returns-in_err-specs-clause-reads
returns-in_err-specs-clause-reads c =
    let p = err_from_is_err_and c.from_residual.result c.from_residual.ensures.1 in
    let N = is_type c.args.reader.now.names.now in
    let xs = map view c.args.tokens.now in
    rw (p.1, p.2) (stops_stop (Specified N at_file_scope) (Defines N) xs xs c.in_err-specs.field-0.0
    (functions.words_refused N xs) c.in_err-specs.ensures.reads)

pub returns-in-Ok-clause-reads : goal.returns-in-Ok-clause-reads
returns-in-Ok-clause-reads c =
    let q = c.in_ok-specs.ensures.reads in
    c.in-Ok.ensures.reads (map view c.args.tokens.now) q.value q.takes q.shows

pub returns-in-Err-clause-reads : goal.returns-in-Err-clause-reads
returns-in-Err-clause-reads c =
    let q = c.in_ok-specs.ensures.reads in
    let N = is_type c.args.reader.now.names.now in
    let xs = map view c.args.tokens.now in
    moved_stops (Defines N) xs c.in-Err.halt c.no_later.result c.no_later.ensures
    (c.in-Err.ensures.reads xs q.value q.takes q.shows)
