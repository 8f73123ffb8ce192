use Rattle.std.proofs.Common.{map, sym, ◌∙◌}
use Rattle.std.proofs.lemmas.Result.{err_from_is_err_and}
use Rattle.ep_ast.specs.DeclarationGrammar.{Parameters, Headed}
use Rattle.ep_lexer.specs.Tokens.{view}
use Rattle.ep_reading.specs.Names.{is_type}
use Rattle.ep_reading.proofs.PassLemmas.{stops_stop}
use Rattle.ep_declarations.proofs.HeadLemmas as heads
use Rattle.ep_declarations.proofs.heads.head.Goals as goal

pub returns-in-Some-clause-reads : goal.returns-in-Some-clause-reads
returns-in-Some-clause-reads c =
    λ xs ss w s. (
      heads.const_first (is_type c.args.reader.now.names.now) xs (map view c.args.tokens.now)
          (map view c.in-Some.field-0.1.now) ss c.in-Some.field-0.0 w c.in-Some.ensures.value,
      c.stopped.ensures,
    )

pub returns-in_default-at_name-clause-reads : goal.returns-in_default-at_name-clause-reads
returns-in_default-at_name-clause-reads c = λ xs ss w s. (
  heads.no_name (is_type c.args.reader.now.names.now) xs (map view c.args.tokens.now)
      (map view c.in_ok-stars.stars.rest.now) ss c.in_ok-stars.stars.value.items w c.in_ok-stars.ensures.reads
      c.in_default-at_name.ensures.value,
  c.stopped-in_default-at_name.ensures,
)

pub returns-then-has-clause-reads : goal.returns-then-has-clause-reads
returns-then-has-clause-reads c = λ xs ss w s. (
  heads.type_name (is_type c.args.reader.now.names.now) xs (map view c.args.tokens.now)
      (map view c.in_ok-stars.stars.rest.now) (map view c.in-Some-at_name.behind.now) ss c.in_ok-stars.stars.value.items
      c.in-Some-at_name.line c.in-Some-at_name.name.now
      w c.in_ok-stars.ensures.reads c.in-Some-at_name.ensures.value (sym c.has.ensures ∙ c.if-has.true),
  c.stopped-then-has.ensures,
)

pub returns-in_default-at_mark-clause-reads : goal.returns-in_default-at_mark-clause-reads
returns-in_default-at_mark-clause-reads c = λ xs ss w s. (
  heads.no_paren (is_type c.args.reader.now.names.now) xs (map view c.args.tokens.now)
      (map view c.in_ok-stars.stars.rest.now) (map view c.in-Some-at_name.behind.now) ss c.in_ok-stars.stars.value.items
      c.in-Some-at_name.line c.in-Some-at_name.name.now
      w c.in_ok-stars.ensures.reads c.in-Some-at_name.ensures.value c.in_default-at_mark.ensures.value,
  c.stopped-in_default-at_mark.ensures,
)

pub returns-in_err-parameters-clause-reads : goal.returns-in_err-parameters-clause-reads
returns-in_err-parameters-clause-reads c = λ xs ss w s. (
    let p = err_from_is_err_and c.from_residual-in_err-parameters.result c.from_residual-in_err-parameters.ensures.1 in
    rw (p.1, p.2)
    (stops_stop (Parameters (is_type c.args.reader.now.names.now)) (Headed (is_type c.args.reader.now.names.now))
    (map view c.in-Some-at_mark.inside.now) xs c.in_err-parameters.field-0.0
    (heads.parameters_refused (is_type c.args.reader.now.names.now) xs (map view c.args.tokens.now)
    (map view c.in_ok-stars.stars.rest.now) (map view c.in-Some-at_name.behind.now)
    (map view c.in-Some-at_mark.inside.now) ss c.in_ok-stars.stars.value.items
    c.in-Some-at_name.line c.in-Some-at_mark.field-0-0 c.in-Some-at_name.name.now w c.in_ok-stars.ensures.reads
    c.in-Some-at_name.ensures.value c.in-Some-at_mark.ensures.value)
    c.in_err-parameters.ensures.reads))

pub returns-clause-reads : goal.returns-clause-reads
returns-clause-reads c = λ xs ss w s. (
    let q = c.in_ok-parameters.ensures.reads in
    record {
      value =
          record {
            line = c.in-Some-at_name.line;
            specs = ss;
            stars = c.in_ok-stars.stars.value.items;
            name = c.in-Some-at_name.name.now;
            params = q.value;
          };
      shows = (c.in_ok-tree.ensures ss q.value s.0 q.shows.0, q.shows.1);
      takes =
          heads.headed_taken (is_type c.args.reader.now.names.now) xs (map view c.args.tokens.now)
          (map view c.in_ok-stars.stars.rest.now) (map view c.in-Some-at_name.behind.now)
          (map view c.in-Some-at_mark.inside.now) (map view c.in_ok-parameters.parameters.rest.now)
          ss c.in_ok-stars.stars.value.items c.in-Some-at_name.line c.in-Some-at_mark.field-0-0
          c.in-Some-at_name.name.now q.value w c.in_ok-stars.ensures.reads c.in-Some-at_name.ensures.value
          (sym c.has.ensures ∙ c.if-has.false)
          c.in-Some-at_mark.ensures.value q.takes;
    })
