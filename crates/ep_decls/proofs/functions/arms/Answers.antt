use Rattle.std.proofs.Common.{map}
use Rattle.std.proofs.lemmas.Result.{err_from_is_err_and}
use Rattle.ep_ast.specs.Statement as tree
use Rattle.ep_ast.specs.ProgramGrammar.{Functions, OtherFunctions}
use Rattle.ep_lexer.specs.Tokens.{view}
use Rattle.ep_reading.specs.Names.{is_type}
use Rattle.ep_decls.specs.Answer.{Arms}
use Rattle.ep_reading.proofs.PassLemmas.{stops_stop}
use Rattle.ep_decls.proofs.FunctionLemmas as functions
use Rattle.ep_decls.proofs.functions.arms.Goals as goal

pub returns-in_err-then-clause-reads : goal.returns-in_err-then-clause-reads
returns-in_err-then-clause-reads c =
    let p = err_from_is_err_and c.from_residual.result c.from_residual.ensures.1 in
    rw (p.1, p.2) (stops_stop (Functions (is_type c.args.reader.now.names.now))
    (Arms (is_type c.args.reader.now.names.now) c.args.line c.args.order) (map view c.args.tokens.now)
    (map view c.args.tokens.now) c.in_err-then.field-0.0
    (functions.then_refused (is_type c.args.reader.now.names.now) c.args.line c.args.order (map view c.args.tokens.now))
    c.in_err-then.ensures.reads)

pub returns-in_err-otherwise-clause-reads : goal.returns-in_err-otherwise-clause-reads
returns-in_err-otherwise-clause-reads c =
    let p = err_from_is_err_and c.from_residual-in_err-otherwise.result c.from_residual-in_err-otherwise.ensures.1 in
    let q = c.in_ok-then.ensures.reads in
    rw (p.1, p.2) (stops_stop (OtherFunctions (is_type c.args.reader.now.names.now))
    (Arms (is_type c.args.reader.now.names.now) c.args.line c.args.order) (map view c.in_ok-then.then.rest.now)
    (map view c.args.tokens.now) c.in_err-otherwise.field-0.0
    (functions.otherwise_refused (is_type c.args.reader.now.names.now) c.args.line c.args.order
    (map view c.args.tokens.now) (map view c.in_ok-then.then.rest.now) q.value q.takes)
    c.in_err-otherwise.ensures.reads)

pub returns-clause-reads : goal.returns-clause-reads
returns-clause-reads c =
    let q = c.in_ok-then.ensures.reads in
    let r = c.in_ok-otherwise.ensures.reads in
    record {
      value = tree.functions_by_order c.args.line c.args.order q.value r.value;
      shows = c.by_order.ensures q.value r.value q.shows r.shows;
      takes = functions.arms_taken (is_type c.args.reader.now.names.now) c.args.line c.args.order
          (map view c.args.tokens.now) (map view c.in_ok-then.then.rest.now)
          (map view c.in_ok-otherwise.otherwise.rest.now) q.value r.value q.takes r.takes;
    }
