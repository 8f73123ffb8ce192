use Rattle.std.proofs.Common.{map, None, Some, refl}
use Rattle.std.proofs.lemmas.Result.{err_from_is_err_and}
use Rattle.ep_ast.specs.ProgramGrammar.{Functions, OtherFunctions}
use Rattle.ep_lexer.specs.Tokens.{view}
use Rattle.ep_reading.specs.Names.{is_type}
use Rattle.ep_reading.proofs.PassLemmas.{stops_stop}
use Rattle.ep_decls.proofs.FunctionLemmas as functions
use Rattle.ep_decls.proofs.functions.other_functions.Goals as goal

pub returns-in-Some-clause-reads : goal.returns-in-Some-clause-reads
returns-in-Some-clause-reads c = record {
  value = None;
  shows = (refl, refl);
  takes =
      functions.end_taken (is_type c.args.reader.now.names.now) (map view c.args.tokens.now)
      (map view c.in-Some.more.now) c.in-Some.field-0-0 c.in-Some.ensures.value;
}

pub returns-in_default-at_else-clause-reads : goal.returns-in_default-at_else-clause-reads
returns-in_default-at_else-clause-reads c = (
  functions.neither_refused (is_type c.args.reader.now.names.now)
      (map view c.args.tokens.now) c.in_default.ensures.value c.in_default-at_else.ensures.value,
  c.stopped.ensures,
)

pub returns-in_err-found-clause-reads : goal.returns-in_err-found-clause-reads
returns-in_err-found-clause-reads c =
    let p = err_from_is_err_and c.from_residual.result c.from_residual.ensures.1 in
    rw (p.1, p.2) (stops_stop (Functions (is_type c.args.reader.now.names.now))
    (OtherFunctions (is_type c.args.reader.now.names.now)) (map view c.in-Some-at_else.inside.now)
    (map view c.args.tokens.now) c.in_err-found.field-0.0
    (functions.inside_refused (is_type c.args.reader.now.names.now) (map view c.args.tokens.now)
    (map view c.in-Some-at_else.inside.now) c.in-Some-at_else.field-0-0 c.in-Some-at_else.ensures.value)
    c.in_err-found.ensures.reads)

pub returns-in_default-at_end_if-clause-reads : goal.returns-in_default-at_end_if-clause-reads
returns-in_default-at_end_if-clause-reads c =
    let q = c.in_ok-found.ensures.reads in (
      functions.open_refused (is_type c.args.reader.now.names.now) (map view c.args.tokens.now)
          (map view c.in-Some-at_else.inside.now) (map view c.in_ok-found.found.rest.now) c.in-Some-at_else.field-0-0
          q.value c.in-Some-at_else.ensures.value q.takes c.in_default-at_end_if.ensures.value,
      c.stopped-in_default-at_end_if.ensures,
    )

pub returns-clause-reads : goal.returns-clause-reads
returns-clause-reads c =
    let q = c.in_ok-found.ensures.reads in
    record {
      value = Some q.value;
      shows = c.behind_else.ensures q.value q.shows;
      takes = functions.another_taken (is_type c.args.reader.now.names.now) (map view c.args.tokens.now)
          (map view c.in-Some-at_else.inside.now) (map view c.in_ok-found.found.rest.now)
          (map view c.in-Some-at_end_if.more.now) c.in-Some-at_else.field-0-0 c.in-Some-at_end_if.field-0-0 q.value
          c.in-Some-at_else.ensures.value q.takes c.in-Some-at_end_if.ensures.value;
    }
