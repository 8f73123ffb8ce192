use Rattle.std.proofs.Common.{◌≡◌, Some, None, map, refl, sym, ◌∙◌}
use Rattle.std.proofs.lemmas.Result.{err_from_is_err_and}
use Rattle.ep_ast.specs.Expression.{type_word}
use Rattle.ep_ast.specs.TypeWords.{words_line}
use Rattle.ep_ast.specs.DeclarationGrammar.{Bounds, param, OneParam}
use Rattle.ep_lexer.specs.Tokens.{view}
use Rattle.ep_reading.specs.Names.{is_type}
use Rattle.ep_reading.proofs.PassLemmas.{stops_stop}
use Rattle.ep_declarations.proofs.ParameterLemmas as params
use Rattle.ep_declarations.proofs.parameters.parameter.Goals as goal

pub returns-then-has-clause-reads : goal.returns-then-has-clause-reads
returns-then-has-clause-reads c = (
  params.typed_refused (is_type c.args.reader.now.names.now) (map view c.args.tokens.now)
      (map view c.in_ok-specs.specs.rest.now) (map view c.in_ok-stars.stars.rest.now) (map view c.in-Some.more.now)
      c.in-Some.line c.in-Some.text.now c.in_ok-stars.stars.value.items (map type_word c.in_ok-specs.specs.value.items)
      c.in_ok-specs.ensures.reads c.in_ok-stars.ensures.reads c.in-Some.ensures.value
      (sym c.has.ensures ∙ c.if-has.true),
  c.stopped.ensures,
)

pub returns-in_err-bounds-in-Some-clause-reads : goal.returns-in_err-bounds-in-Some-clause-reads
returns-in_err-bounds-in-Some-clause-reads c =
    let p = err_from_is_err_and c.from_residual-in_err-bounds-in-Some.result
    c.from_residual-in_err-bounds-in-Some.ensures.1 in
    let N = is_type c.args.reader.now.names.now in
    rw (p.1, p.2) (
    stops_stop (Bounds N) (OneParam N) (map view c.in-Some.more.now) (map view c.args.tokens.now)
    c.in_err-bounds-in-Some.field-0.0
    (
    params.named_refused N (map view c.args.tokens.now) (map view c.in_ok-specs.specs.rest.now)
    (map view c.in_ok-stars.stars.rest.now) (map view c.in-Some.more.now) c.in-Some.line c.in-Some.text.now
    c.in_ok-stars.stars.value.items (map type_word c.in_ok-specs.specs.value.items)
    c.in_ok-specs.ensures.reads c.in_ok-stars.ensures.reads c.in-Some.ensures.value
    )
    c.in_err-bounds-in-Some.ensures.reads
    )

pub returns-in_err-bounds-in-None-clause-reads : goal.returns-in_err-bounds-in-None-clause-reads
returns-in_err-bounds-in-None-clause-reads c =
    let p = err_from_is_err_and c.from_residual-in_err-bounds-in-None.result
    c.from_residual-in_err-bounds-in-None.ensures.1 in
    let N = is_type c.args.reader.now.names.now in
    rw (p.1, p.2) (
    stops_stop (Bounds N) (OneParam N) (map view c.in_ok-stars.stars.rest.now) (map view c.args.tokens.now)
    c.in_err-bounds-in-None.field-0.0
    (
    params.unnamed_refused N (map view c.args.tokens.now) (map view c.in_ok-specs.specs.rest.now)
    (map view c.in_ok-stars.stars.rest.now) c.in_ok-stars.stars.value.items
    (map type_word c.in_ok-specs.specs.value.items)
    c.in_ok-specs.ensures.reads c.in_ok-stars.ensures.reads c.in-None.ensures.value
    )
    c.in_err-bounds-in-None.ensures.reads
    )

pub returns-in_ok-name-in-Some-clause-reads : goal.returns-in_ok-name-in-Some-clause-reads
returns-in_ok-name-in-Some-clause-reads c =
    let b = c.in_ok-bounds-in-Some.ensures.reads in
    record {
      value = param c.in-Some.line (map type_word c.in_ok-specs.specs.value.items) c.in_ok-stars.stars.value.items
          (Some c.in-Some.text.now) b.value;
      shows = (rw (← c.in_ok-name-in-Some.ensures.items) (c.make_parameter-tree.ensures b.value b.shows), refl);
      takes =
          params.named_read (is_type c.args.reader.now.names.now) (map view c.args.tokens.now)
          (map view c.in_ok-specs.specs.rest.now) (map view c.in_ok-stars.stars.rest.now)
          (map view c.in-Some.more.now) (map view c.in_ok-bounds-in-Some.bounds.rest.now) c.in-Some.line
          c.in-Some.text.now
          c.in_ok-stars.stars.value.items (map type_word c.in_ok-specs.specs.value.items) b.value
          c.in_ok-specs.ensures.reads c.in_ok-stars.ensures.reads c.in-Some.ensures.value
          (sym c.has.ensures ∙ c.if-has.false) b.takes;
    }

pub returns-in_ok-bounds-in-None-clause-reads : goal.returns-in_ok-bounds-in-None-clause-reads
returns-in_ok-bounds-in-None-clause-reads c =
    let b = c.in_ok-bounds-in-None.ensures.reads in
    let N = is_type c.args.reader.now.names.now in
    let e : words_line (map type_word c.in_ok-specs.specs.value.items) ≡ c.first_line-line.result =
    params.type_line N c.in_ok-specs.ensures.reads.holds ∙ sym c.first_line-line.ensures in
    record {
      value =
          param (words_line (map type_word c.in_ok-specs.specs.value.items))
          (map type_word c.in_ok-specs.specs.value.items) c.in_ok-stars.stars.value.items None b.value;
      shows = (rw e (c.make_parameter-tree-in-None.ensures b.value b.shows), refl);
      takes =
          params.unnamed_read N (map view c.args.tokens.now) (map view c.in_ok-specs.specs.rest.now)
          (map view c.in_ok-stars.stars.rest.now) (map view c.in_ok-bounds-in-None.bounds.rest.now)
          c.in_ok-stars.stars.value.items (map type_word c.in_ok-specs.specs.value.items) b.value
          c.in_ok-specs.ensures.reads c.in_ok-stars.ensures.reads c.in-None.ensures.value b.takes;
    }
