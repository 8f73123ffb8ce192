use Rattle.std.proofs.Common.{map, sym, ◌∙◌}
use Rattle.std.proofs.lemmas.Result.{err_from_is_err_and}
use Rattle.ep_ast.specs.Statement as tree
use Rattle.ep_ast.specs.DeclarationGrammar.{at_file_scope, specs_line, Specified, Inits}
use Rattle.ep_lexer.specs.Tokens.{view}
use Rattle.ep_reading.specs.Names.{is_type}
use Rattle.ep_decls.specs.Answer.{Worded}
use Rattle.ep_reading.proofs.PassLemmas.{stops_stop}
use Rattle.ep_decls.proofs.ItemLemmas as items
use Rattle.ep_decls.proofs.items.worded_item.Goals as goal

pub returns-in_err-specs-clause-reads : goal.returns-in_err-specs-clause-reads
returns-in_err-specs-clause-reads c =
    let p = err_from_is_err_and c.from_residual.result c.from_residual.ensures.1 in
    rw (p.1, p.2) (stops_stop (Specified (is_type c.args.reader.now.names.now) at_file_scope)
    (Worded (is_type c.args.reader.now.names.now)) (map view c.args.tokens.now) (map view c.args.tokens.now)
    c.in_err-specs.field-0.0 (items.words_refused (is_type c.args.reader.now.names.now)
    (map view c.args.tokens.now)) c.in_err-specs.ensures.reads)

pub returns-then-begins_head-clause-reads : goal.returns-then-begins_head-clause-reads
returns-then-begins_head-clause-reads c =
    let q = c.in_ok-specs.ensures.reads in
    let b = sym c.begins_head.ensures ∙ c.if-begins_head.true in
    c.headed_item.ensures.reads (map view c.args.tokens.now) q.value q.takes q.shows b

pub returns-in-Some-only_body-clause-reads : goal.returns-in-Some-only_body-clause-reads
returns-in-Some-only_body-clause-reads c =
    let q = c.in_ok-specs.ensures.reads in
    let b = sym c.begins_head.ensures ∙ c.if-begins_head.false in
    let a = c.in-Some-only_body.ensures q.value q.shows in
    record {
      value = tree.completes a.0;
      shows = c.completed.ensures a.0 a.2;
      takes = items.complete_taken (is_type c.args.reader.now.names.now) (map view c.args.tokens.now)
          (map view c.in_ok-specs.specs.rest.now) q.value q.takes b (map view c.in-Some.more.now)
          c.in-Some.field-0-0 a.0 c.in-Some.ensures.value a.1;
    }

pub returns-in-None-clause-reads : goal.returns-in-None-clause-reads
returns-in-None-clause-reads c =
    let q = c.in_ok-specs.ensures.reads in
    let b = sym c.begins_head.ensures ∙ c.if-begins_head.false in (
      items.alone_refused (is_type c.args.reader.now.names.now) (map view c.args.tokens.now)
          (map view c.in_ok-specs.specs.rest.now) q.value q.takes b (map view c.in-Some.more.now)
          c.in-Some.field-0-0 c.in-Some.ensures.value (c.in-None.ensures q.value q.shows),
      c.stopped.ensures,
    )

pub returns-in_err-variables-clause-reads : goal.returns-in_err-variables-clause-reads
returns-in_err-variables-clause-reads c =
    let p = err_from_is_err_and c.from_residual-in_err-variables.result c.from_residual-in_err-variables.ensures.1 in
    let q = c.in_ok-specs.ensures.reads in
    let b = sym c.begins_head.ensures ∙ c.if-begins_head.false in
    rw (p.1, p.2) (stops_stop (Inits (is_type c.args.reader.now.names.now))
    (Worded (is_type c.args.reader.now.names.now)) (map view c.in_ok-specs.specs.rest.now)
    (map view c.args.tokens.now) c.in_err-variables.field-0.0
    (items.inits_refused (is_type c.args.reader.now.names.now) (map view c.args.tokens.now)
    (map view c.in_ok-specs.specs.rest.now) q.value q.takes b c.in_default.ensures.value)
    c.in_err-variables.ensures.reads)

pub returns-clause-reads : goal.returns-clause-reads
returns-clause-reads c =
    let q = c.in_ok-specs.ensures.reads in
    let r = c.in_ok-variables.ensures.reads in
    let b = sym c.begins_head.ensures ∙ c.if-begins_head.false in
    record {
      value = tree.declares_all (record { line = specs_line q.value; specs = q.value; inits = r.value });
      shows = c.declared.ensures (record { line = specs_line q.value; specs = q.value; inits = r.value })
          (c.make_declaration.ensures q.value r.value q.shows r.shows);
      takes = items.inits_taken (is_type c.args.reader.now.names.now) (map view c.args.tokens.now)
          (map view c.in_ok-specs.specs.rest.now) q.value q.takes b
          (map view c.in_ok-variables.variables.rest.now) r.value c.in_default.ensures.value r.takes;
    }
