use Rattle.std.proofs.Common.{◌++◌, ◌∷◌, [], map, arith}
use Rattle.ep_ast.specs.Declaration.{member_field}
use Rattle.ep_ast.specs.Depth.{in_field}
use Rattle.ep_lexer.specs.Tokens.{view}
use Rattle.ep_reading.specs.Names.{is_type}
use Rattle.ep_declarations.proofs.FieldLemmas as lists
use Rattle.ep_reading.proofs.MeasuredLemmas.{longer_shows}
use Rattle.ep_declarations.proofs.fields.member_fields.Goals as goal

pub returns-in-Some-clause-reads : goal.returns-in-Some-clause-reads
returns-in-Some-clause-reads c =
    let q = c.in_ok-one.ensures.reads in
    let i = c.fields.invariant.0 in
    record {
      value = i.0 ++ q.value ∷ [];
      shows =
          longer_shows member_field in_field c.fields.found c.in_ok-one.one.value c.in_ok-found.found i.0 q.value
          c.in_ok-found.ensures i.1 q.shows;
      takes =
          lists.fields_done (is_type c.args.reader.now.names.now) (map view c.args.tokens.now) i.0
          (map view c.fields.rest.now) (map view c.in_ok-one.one.rest.now) (map view c.in-Some.end.now)
          c.in-Some.field-0-0 q.value i.2 q.takes c.in-Some.ensures.value;
    }

pub returns-in_default-at_mark-clause-reads : goal.returns-in_default-at_mark-clause-reads
returns-in_default-at_mark-clause-reads c =
    let q = c.in_ok-one.ensures.reads in
    let i = c.fields.invariant.0 in (
      lists.gap_refused (is_type c.args.reader.now.names.now) (map view c.args.tokens.now) i.0
          (map view c.fields.rest.now) (map view c.in_ok-one.one.rest.now) q.value i.2 q.takes
          c.in_default.ensures.value c.in_default-at_mark.ensures.value,
      c.stopped.ensures,
    )

pub fields-preserved : goal.fields-preserved
fields-preserved c =
    let q = c.in_ok-one.ensures.reads in
    let i = c.fields.invariant.0 in (
      (
        i.0 ++ q.value ∷ [],
        longer_shows member_field in_field c.fields.found c.in_ok-one.one.value c.in_ok-found.found i.0 q.value
            c.in_ok-found.ensures i.1 q.shows,
        lists.fields_step (is_type c.args.reader.now.names.now) (map view c.args.tokens.now) i.0
            (map view c.fields.rest.now) (map view c.in_ok-one.one.rest.now) (map view c.in-Some-at_mark.more.now)
            c.in-Some-at_mark.field-0-0 q.value i.2 q.takes c.in-Some-at_mark.ensures.value,
      ),
      omega (arith, c.in_ok-one.ensures.shorter, c.in-Some-at_mark.ensures.shorter),
    )
