use Rattle.std.proofs.Common.{map}
use Rattle.std.proofs.lemmas.Result.{err_from_is_err_and}
use Rattle.ep_ast.specs.Declaration as tree
use Rattle.ep_ast.specs.DeclarationGrammar.{Declared, OneField}
use Rattle.ep_lexer.specs.Tokens.{view}
use Rattle.ep_reading.specs.Names.{is_type}
use Rattle.ep_declarations.proofs.FieldLemmas as fields
use Rattle.ep_declarations.proofs.ValueLemmas.{stops_ended}
use Rattle.ep_declarations.proofs.fields.whole_field.Goals as goal

pub returns-in_err-named-clause-reads : goal.returns-in_err-named-clause-reads
returns-in_err-named-clause-reads c =
    let p = err_from_is_err_and c.from_residual.result c.from_residual.ensures.1 in
    let N = is_type c.args.reader.now.names.now in
    rw (p.1, p.2)
    (stops_ended (Declared N) (OneField N) (map view c.args.tokens.now) (map view c.args.tokens.now)
    c.in_err-named.field-0.0 (fields.whole_refused N (map view c.args.tokens.now) c.requires.whole)
    c.in_err-named.ensures.reads)

pub returns-in-Some-clause-reads : goal.returns-in-Some-clause-reads
returns-in-Some-clause-reads c =
    let q = c.in_ok-named.ensures.reads in (
      fields.colon_refused (is_type c.args.reader.now.names.now) (map view c.args.tokens.now)
          (map view c.in_ok-named.named.rest.now) (map view c.in-Some.field-0.1.now) c.in-Some.field-0.0 q.value
          c.requires.whole q.takes c.in-Some.ensures.value,
      c.stopped.ensures,
    )

pub returns-clause-reads : goal.returns-clause-reads
returns-clause-reads c =
    let q = c.in_ok-named.ensures.reads in
    record {
      value = tree.whole q.value;
      shows = c.whole.ensures q.value q.shows.1;
      takes =
          fields.whole_read (is_type c.args.reader.now.names.now) (map view c.args.tokens.now)
          (map view c.in_ok-named.named.rest.now) q.value c.requires.whole q.takes c.in_default.ensures.value;
    }
