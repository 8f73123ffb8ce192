use Rattle.std.proofs.Common.{Some, None, map, refl}
use Rattle.std.proofs.lemmas.Result.{err_from_is_err_and}
use Rattle.ep_ast.specs.Declaration as tree
use Rattle.ep_ast.specs.DeclarationGrammar.{SomeParams, Parameters}
use Rattle.ep_lexer.specs.Tokens.{view}
use Rattle.ep_reading.specs.Names.{is_type}
use Rattle.ep_reading.proofs.PassLemmas.{stops_stop}
use Rattle.ep_declarations.specs.Parts.{first_line}
use Rattle.ep_declarations.proofs.ParameterLemmas as params
use Rattle.ep_declarations.proofs.parameters.head_parameters.Goals as goal

pub returns-in-Some-clause-reads : goal.returns-in-Some-clause-reads
returns-in-Some-clause-reads c =
    record {
      value = None;
      shows = ((refl, refl), refl);
      takes =
          params.nothing_read (is_type c.args.reader.now.names.now) (map view c.args.tokens.now)
          (map view c.in-Some.rest.now) c.in-Some.field-0-0 c.in-Some.ensures.value;
    }

pub returns-in-Some-void_alone-clause-reads : goal.returns-in-Some-void_alone-clause-reads
returns-in-Some-void_alone-clause-reads c = record {
  value = Some (tree.void c.in-Some-void_alone.line);
  shows = ((refl, refl), refl);
  takes =
      params.void_read (is_type c.args.reader.now.names.now) (map view c.args.tokens.now)
      (map view c.in-Some-void_alone.rest.now) c.in-Some-void_alone.line c.in-Some-void_alone.ensures.value;
}

pub returns-in_err-found-clause-reads : goal.returns-in_err-found-clause-reads
returns-in_err-found-clause-reads c =
    let p = err_from_is_err_and c.from_residual.result c.from_residual.ensures.1 in
    let N = is_type c.args.reader.now.names.now in
    rw (p.1, p.2) (
    stops_stop (SomeParams N) (Parameters N) (map view c.args.tokens.now) (map view c.args.tokens.now)
    c.in_err-found.field-0.0
    (params.none_refused N (map view c.args.tokens.now) c.in_default.ensures.value
    c.in_default-void_alone.ensures.value) c.in_err-found.ensures.reads
    )

pub returns-clause-reads : goal.returns-clause-reads
returns-clause-reads c =
    let q = c.in_ok-found.ensures.reads in
    record {
      value = Some (tree.some_params (first_line (map view c.args.tokens.now)) q.value);
      shows = rw (← c.first_line.ensures) (c.listed.ensures q.value q.shows);
      takes =
          params.some_read (is_type c.args.reader.now.names.now) (map view c.args.tokens.now)
          (map view c.in_ok-found.found.rest.now) q.value c.in_default.ensures.value
          c.in_default-void_alone.ensures.value q.takes;
    }
