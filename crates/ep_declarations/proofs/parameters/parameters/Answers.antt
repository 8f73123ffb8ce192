use Rattle.std.proofs.Common.{◌++◌, ◌∷◌, [], map, arith}
use Rattle.ep_lexer.specs.Tokens.{view}
use Rattle.ep_reading.specs.Names.{is_type}
use Rattle.ep_declarations.proofs.ParameterLemmas as params
use Rattle.ep_declarations.proofs.parameters.parameters.Goals as goal

pub returns-in-Some-clause-reads : goal.returns-in-Some-clause-reads
returns-in-Some-clause-reads c =
    let q = c.in_ok-one.ensures.reads in
    let i = c.parameters.invariant.0 in
    record {
      value = i.0 ++ q.value ∷ [];
      shows = c.in_ok-found.ensures i.0 q.value i.1 q.shows;
      takes =
          params.params_done (is_type c.args.reader.now.names.now) (map view c.args.tokens.now) i.0
          (map view c.parameters.rest.now) (map view c.in_ok-one.one.rest.now) (map view c.in-Some.end.now)
          c.in-Some.field-0-0 q.value i.2 q.takes c.in-Some.ensures.value;
    }

pub returns-in_default-at_mark-clause-reads : goal.returns-in_default-at_mark-clause-reads
returns-in_default-at_mark-clause-reads c =
    let q = c.in_ok-one.ensures.reads in
    let i = c.parameters.invariant.0 in (
      params.gap_refused (is_type c.args.reader.now.names.now) (map view c.args.tokens.now) i.0
          (map view c.parameters.rest.now) (map view c.in_ok-one.one.rest.now) q.value i.2 q.takes
          c.in_default.ensures.value c.in_default-at_mark.ensures.value,
      c.stopped.ensures,
    )

pub parameters-preserved : goal.parameters-preserved
parameters-preserved c =
    let q = c.in_ok-one.ensures.reads in
    let i = c.parameters.invariant.0 in (
      (
        i.0 ++ q.value ∷ [],
        c.in_ok-found.ensures i.0 q.value i.1 q.shows,
        params.params_step (is_type c.args.reader.now.names.now) (map view c.args.tokens.now) i.0
            (map view c.parameters.rest.now) (map view c.in_ok-one.one.rest.now) (map view c.in-Some-at_mark.more.now)
            c.in-Some-at_mark.field-0-0 q.value i.2 q.takes c.in-Some-at_mark.ensures.value,
      ),
      omega (arith, c.in_ok-one.ensures.shorter, c.in-Some-at_mark.ensures.shorter),
    )
