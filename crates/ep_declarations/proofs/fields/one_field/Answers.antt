use Rattle.std.proofs.Common.{map}
use Rattle.std.proofs.lemmas.Result.{err_from_is_err_and}
use Rattle.ep_ast.specs.Declaration as tree
use Rattle.ep_ast.specs.DeclarationGrammar.{OneField}
use Rattle.ep_lexer.specs.Tokens.{view}
use Rattle.ep_reading.specs.Names.{is_type}
use Rattle.ep_declarations.specs.DeclaratorAnswer.{field_name}
use Rattle.ep_declarations.proofs.FieldLemmas as fields
use Rattle.ep_declarations.proofs.ValueLemmas.{halts_ended}
use Rattle.ep_declarations.proofs.fields.one_field.Goals as goal

pub returns-in_err-width-clause-reads : goal.returns-in_err-width-clause-reads
returns-in_err-width-clause-reads c =
    let p = err_from_is_err_and c.from_residual.result c.from_residual.ensures.1 in
    let N = is_type c.args.reader.now.names.now in
    let o = c.in-Some.opening in
    rw (p.1, p.2)
    (halts_ended N (OneField N) (map view o.inside.now) (map view c.args.tokens.now) c.in_err-width.field-0.0
    (fields.bits_refused N (map view c.args.tokens.now) (map view o.inside.now) o.line (field_name o.name)
    c.in-Some.ensures.value) c.in_err-width.ensures.reads)

pub returns-clause-reads : goal.returns-clause-reads
returns-clause-reads c =
    let N = is_type c.args.reader.now.names.now in
    let o = c.in-Some.opening in
    let q = c.in_ok-width.ensures.reads in
    record {
      value = tree.bits o.line (field_name o.name) q.tree;
      shows = rw c.in_ok-name.ensures at (c.bits.ensures q.tree q.shows);
      takes =
          fields.bits_read N (map view c.args.tokens.now) (map view o.inside.now)
          (map view c.in_ok-width.width.rest.now) o.line (field_name o.name) q.tree c.in-Some.ensures.value q.reads;
    }
