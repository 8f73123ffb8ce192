use Rattle.std.proofs.lemmas.Result.{err_from_is_err_and}
use Rattle.ep_ast.specs.DeclarationGrammar.{Headed}
use Rattle.ep_ast.specs.ProgramGrammar.{Defines}
use Rattle.ep_reading.specs.Names.{is_type}
use Rattle.ep_reading.proofs.PassLemmas.{stops_stop}
use Rattle.ep_decls.proofs.FunctionLemmas as functions
use Rattle.ep_decls.proofs.functions.definition.Goals as goal

pub returns-in_err-headed-clause-reads : goal.returns-in_err-headed-clause-reads
returns-in_err-headed-clause-reads c = λ xs ss t s. (
    let p = err_from_is_err_and c.from_residual.result c.from_residual.ensures.1 in
    let N = is_type c.args.reader.now.names.now in
    rw (p.1, p.2) (stops_stop (Headed N) (Defines N) xs xs c.in_err-headed.field-0.0 (functions.head_refused N xs)
    (c.in_err-headed.ensures.reads xs ss t s)))

pub returns-clause-reads : goal.returns-clause-reads
returns-clause-reads c = λ xs ss t s. (
    let h = c.in_ok-headed.ensures.reads xs ss t s in
    c.body.ensures.reads xs h.value h.takes h.shows)
