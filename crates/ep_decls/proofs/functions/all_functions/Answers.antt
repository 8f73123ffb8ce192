use Rattle.std.proofs.Common.{◌++◌, ◌∷◌, [], map, arith, sym, ◌∙◌}
use Rattle.std.proofs.lemmas.Result.{err_from_is_err_and}
use Rattle.ep_ast.specs.Statement.{function_of}
use Rattle.ep_ast.specs.ProgramGrammar.{Defines, Functions}
use Rattle.ep_ast.specs.Depth.{in_function}
use Rattle.ep_lexer.specs.Tokens.{view}
use Rattle.ep_reading.specs.Names.{is_type}
use Rattle.ep_reading.proofs.PassLemmas.{stops_stop}
use Rattle.ep_reading.proofs.MeasuredLemmas.{longer_shows}
use Rattle.ep_decls.proofs.FunctionLemmas as functions
use Rattle.ep_decls.proofs.functions.all_functions.Goals as goal

pub returns-then-ends_arm-clause-reads : goal.returns-then-ends_arm-clause-reads
returns-then-ends_arm-clause-reads c =
    let i = c.functions.invariant.0 in
    record {
      value = i.0;
      shows = i.1;
      takes = functions.functions_done (is_type c.args.reader.now.names.now)
          (map view c.args.tokens.now) i.0 (map view c.functions.rest.now) i.2
          (sym c.ends_arm.ensures ∙ c.if-ends_arm.true);
    }

pub returns-in_err-one-clause-reads : goal.returns-in_err-one-clause-reads
returns-in_err-one-clause-reads c =
    let p = err_from_is_err_and c.from_residual.result c.from_residual.ensures.1 in
    let i = c.functions.invariant.0 in
    let e = sym c.ends_arm.ensures ∙ c.if-ends_arm.false in
    rw (p.1, p.2) (stops_stop (Defines (is_type c.args.reader.now.names.now))
    (Functions (is_type c.args.reader.now.names.now)) (map view c.functions.rest.now) (map view c.args.tokens.now)
    c.in_err-one.field-0.0
    (functions.functions_refused (is_type c.args.reader.now.names.now) (map view c.args.tokens.now) i.0
    (map view c.functions.rest.now) i.2 e)
    c.in_err-one.ensures.reads)

pub functions-preserved : goal.functions-preserved
functions-preserved c =
    let i = c.functions.invariant.0 in
    let q = c.in_ok-one.ensures.reads in (
      (
        i.0 ++ q.value ∷ [],
        longer_shows function_of in_function c.functions.found c.in_ok-one.one.value c.in_ok-found.found i.0 q.value
            c.in_ok-found.ensures i.1 q.shows,
        functions.functions_step (is_type c.args.reader.now.names.now) (map view c.args.tokens.now) i.0
            (map view c.functions.rest.now) (map view c.in_ok-one.one.rest.now) q.value i.2 q.takes,
      ),
      omega (arith, c.in_ok-one.ensures.shorter, c.functions.invariant.1),
    )
