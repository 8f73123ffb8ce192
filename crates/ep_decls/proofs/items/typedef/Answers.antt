use Rattle.std.proofs.Common.{map}
use Rattle.std.proofs.lemmas.Result.{err_from_is_err_and}
use Rattle.ep_ast.specs.Statement as tree
use Rattle.ep_ast.specs.DeclarationGrammar as grammar
use Rattle.ep_ast.specs.DeclarationGrammar.{Specified}
use Rattle.ep_lexer.specs.Tokens.{view}
use Rattle.ep_reading.specs.Names.{is_type}
use Rattle.ep_declarations.specs.DeclaratorAnswer.{NamesTypes}
use Rattle.ep_decls.specs.Answer.{NewTypes}
use Rattle.ep_reading.proofs.PassLemmas.{stops_stop}
use Rattle.ep_decls.proofs.ItemLemmas as items
use Rattle.ep_decls.proofs.items.typedef.Goals as goal

pub returns-in_err-specs-clause-reads : goal.returns-in_err-specs-clause-reads
returns-in_err-specs-clause-reads c =
    let p = err_from_is_err_and c.from_residual.result c.from_residual.ensures.1 in
    rw (p.1, p.2) (stops_stop (Specified (is_type c.args.names.now) grammar.in_typedef)
    (NewTypes (is_type c.args.names.now) c.args.line) (map view c.args.tokens.now) (map view c.args.tokens.now)
    c.in_err-specs.field-0.0 (items.first_refused (is_type c.args.names.now) c.args.line
    (map view c.args.tokens.now)) c.in_err-specs.ensures.reads)

pub returns-in_err-declarators-clause-reads : goal.returns-in_err-declarators-clause-reads
returns-in_err-declarators-clause-reads c =
    let p = err_from_is_err_and c.from_residual-in_err-declarators.result
    c.from_residual-in_err-declarators.ensures.1 in
    let q = c.in_ok-specs.ensures.reads in
    rw (p.1, p.2) (stops_stop (NamesTypes (is_type c.args.names.now)) (NewTypes (is_type c.args.names.now) c.args.line)
    (map view c.in_ok-specs.specs.rest.now) (map view c.args.tokens.now)
    c.in_err-declarators.field-0.0 (items.second_refused (is_type c.args.names.now) c.args.line
    (map view c.args.tokens.now) (map view c.in_ok-specs.specs.rest.now) q.value q.takes)
    c.in_err-declarators.ensures.reads)

pub returns-clause-reads : goal.returns-clause-reads
returns-clause-reads c =
    let q = c.in_ok-specs.ensures.reads in
    let r = c.in_ok-declarators.ensures.reads in
    record {
      value = (tree.typedefs (record { line = c.args.line; specs = q.value; declarators = r.value.0 }), r.value.1);
      shows = (c.new_types.ensures q.value r.value.0 q.shows r.shows.0, r.shows.1);
      takes = items.new_taken (is_type c.args.names.now) c.args.line (map view c.args.tokens.now)
          (map view c.in_ok-specs.specs.rest.now) (map view c.in_ok-declarators.declarators.rest.now) q.value
          r.value q.takes r.takes;
    }
