use Rattle.std.proofs.Common.{◌++◌, ◌∷◌, [], map, arith}
use Rattle.std.proofs.lemmas.Result.{err_from_is_err_and}
use Rattle.ep_ast.specs.Declaration as tree
use Rattle.ep_ast.specs.Declaration.{value_of, to_values}
use Rattle.ep_ast.specs.Depth.{is_deep_value}
use Rattle.ep_ast.specs.DeclarationGrammar.{Given, Listed}
use Rattle.ep_lexer.specs.Tokens.{view}
use Rattle.ep_reading.specs.Names.{is_type}
use Rattle.ep_declarations.proofs.ValueLemmas as values
use Rattle.ep_declarations.proofs.PartLemmas.{longer_holds}
use Rattle.ep_declarations.proofs.initialisers.+values.Goals as goal

pub value-returns-in_err-values-clause-reads : goal.value-returns-in_err-values-clause-reads
value-returns-in_err-values-clause-reads t c =
    let p = err_from_is_err_and c.from_residual.result c.from_residual.ensures.1 in
    let N = is_type c.args.reader.now.names.now in
    rw (p.1, p.2)
    (values.stops_ended (Listed N) (Given N) (map view c.in-Some.inside.now) (map view c.args.tokens.now)
    c.in_err-values.field-0.0
    (values.braced_refused N (map view c.args.tokens.now) (map view c.in-Some.inside.now) c.in-Some.line
    c.in-Some.ensures.value) c.in_err-values.ensures.reads)

pub value-returns-in-Some-clause-reads : goal.value-returns-in-Some-clause-reads
value-returns-in-Some-clause-reads t c =
    let q = c.in_ok-values.ensures.reads in
    record {
      value = tree.listed c.in-Some.line (to_values q.value);
      shows = c.braced.ensures q.value q.shows;
      takes =
          values.braced_read (is_type c.args.reader.now.names.now) (map view c.args.tokens.now)
          (map view c.in-Some.inside.now) (map view c.in_ok-values.values.rest.now) c.in-Some.line q.value
          c.in-Some.ensures.value q.takes;
    }

pub value-returns-in_err-kept-clause-reads : goal.value-returns-in_err-kept-clause-reads
value-returns-in_err-kept-clause-reads t c =
    let p = err_from_is_err_and c.from_residual-in_err-kept.result c.from_residual-in_err-kept.ensures.1 in
    let N = is_type c.args.reader.now.names.now in
    rw (p.1, p.2)
    (values.halts_ended N (Given N) (map view c.args.tokens.now) (map view c.args.tokens.now)
    c.in_err-kept.field-0.0 (values.single_refused N (map view c.args.tokens.now) c.in_default.ensures.value)
    c.in_err-kept.ensures.reads)

pub value-returns-clause-reads : goal.value-returns-clause-reads
value-returns-clause-reads t c =
    let q = c.in_ok-kept.ensures.reads in
    record {
      value = tree.single q.tree;
      shows = c.single.ensures q.tree q.shows;
      takes =
          values.single_read (is_type c.args.reader.now.names.now) (map view c.args.tokens.now)
          (map view c.in_ok-kept.kept.rest.now) q.tree c.in_default.ensures.value q.reads;
    }

pub values-returns-in-Some-clause-reads : goal.values-returns-in-Some-clause-reads
values-returns-in-Some-clause-reads t c =
    let q = c.in_ok-one.ensures.reads in
    let i = c.values.invariant.0 in
    record {
      value = i.0 ++ q.value ∷ [];
      shows = longer_holds value_of is_deep_value c.values.found c.in_ok-one.one.value c.in_ok-found.found i.0 q.value
          c.in_ok-found.ensures i.1 q.shows;
      takes =
          values.values_done (is_type c.args.reader.now.names.now) (map view c.args.tokens.now) i.0
          (map view c.values.rest.now) (map view c.in_ok-one.one.rest.now) (map view c.in-Some.end.now)
          c.in-Some.field-0-0 q.value i.2 q.takes c.in-Some.ensures.value;
    }

pub values-returns-in_default-at_mark-clause-reads : goal.values-returns-in_default-at_mark-clause-reads
values-returns-in_default-at_mark-clause-reads t c =
    let q = c.in_ok-one.ensures.reads in
    let i = c.values.invariant.0 in (
      values.gap_refused (is_type c.args.reader.now.names.now) (map view c.args.tokens.now) i.0
          (map view c.values.rest.now) (map view c.in_ok-one.one.rest.now) q.value i.2 q.takes
          c.in_default.ensures.value
          c.in_default-at_mark.ensures.value,
      c.stopped.ensures,
    )

pub values-returns-in-Some-at_mark-2-clause-reads : goal.values-returns-in-Some-at_mark-2-clause-reads
values-returns-in-Some-at_mark-2-clause-reads t c =
    let q = c.in_ok-one.ensures.reads in
    let i = c.values.invariant.0 in
    record {
      value = i.0 ++ q.value ∷ [];
      shows = longer_holds value_of is_deep_value c.values.found c.in_ok-one.one.value c.in_ok-found.found i.0 q.value
          c.in_ok-found.ensures i.1 q.shows;
      takes =
          values.values_closed (is_type c.args.reader.now.names.now) (map view c.args.tokens.now) i.0
          (map view c.values.rest.now) (map view c.in_ok-one.one.rest.now) (map view c.in-Some-at_mark.more.now)
          (map view c.in-Some-at_mark-2.end.now) c.in-Some-at_mark.field-0-0 c.in-Some-at_mark-2.field-0-0 q.value i.2
          q.takes
          c.in-Some-at_mark.ensures.value c.in-Some-at_mark-2.ensures.value;
    }

pub values-values-preserved : goal.values-values-preserved
values-values-preserved t c =
    let q = c.in_ok-one.ensures.reads in
    let i = c.values.invariant.0 in (
      (
        i.0 ++ q.value ∷ [],
        longer_holds value_of is_deep_value c.values.found c.in_ok-one.one.value c.in_ok-found.found i.0 q.value
            c.in_ok-found.ensures i.1 q.shows,
        values.values_step (is_type c.args.reader.now.names.now) (map view c.args.tokens.now) i.0
            (map view c.values.rest.now) (map view c.in_ok-one.one.rest.now) (map view c.in-Some-at_mark.more.now)
            c.in-Some-at_mark.field-0-0 q.value i.2 q.takes c.in-Some-at_mark.ensures.value
            c.in_default-at_mark-2.ensures.value,
      ),
      omega (arith, c.in_ok-one.ensures.shorter, c.in-Some-at_mark.ensures.shorter),
    )
