use Rattle.std.proofs.Common.{map, refl, sym, ◌∙◌}
use Rattle.std.proofs.lemmas.Result.{err_from_is_err_and}
use Rattle.ep_ast.specs.DeclarationGrammar.{Bounds, Declared}
use Rattle.ep_lexer.specs.Tokens.{view}
use Rattle.ep_reading.specs.Names.{is_type}
use Rattle.ep_reading.proofs.PassLemmas.{stops_stop}
use Rattle.ep_declarations.proofs.DeclaratorLemmas as lists
use Rattle.ep_declarations.proofs.declarators.declarator.Goals as goal

pub returns-in-Some-clause-reads : goal.returns-in-Some-clause-reads
returns-in-Some-clause-reads c = (
  lists.const_first (is_type c.args.reader.now.names.now) (map view c.args.tokens.now)
      (map view c.in-Some.field-0.1.now) c.in-Some.field-0.0 c.in-Some.ensures.value,
  c.stopped.ensures,
)

pub returns-in_err-bounds-clause-reads : goal.returns-in_err-bounds-clause-reads
returns-in_err-bounds-clause-reads c =
    let p = err_from_is_err_and c.from_residual-in_err-bounds.result c.from_residual-in_err-bounds.ensures.1 in
    let N = is_type c.args.reader.now.names.now in
    rw (p.1, p.2)
    (stops_stop (Bounds N) (Declared N) (map view c.in-Some-at_name.inside.now) (map view c.args.tokens.now)
    c.in_err-bounds.field-0.0
    (λ n. lists.bounds_refused N (map view c.args.tokens.now) (map view c.in_ok-stars.stars.rest.now)
    (map view c.in-Some-at_name.inside.now) c.in-Some-at_name.line c.in-Some-at_name.name.now
    c.in_ok-stars.stars.value.items c.in_ok-stars.ensures.reads c.in-Some-at_name.ensures.value n)
    c.in_err-bounds.ensures.reads)

pub returns-clause-reads : goal.returns-clause-reads
returns-clause-reads c =
    let q = c.in_ok-bounds.ensures.reads in
    record {
      value =
          record {
            line = c.in-Some-at_name.line;
            stars = c.in_ok-stars.stars.value.items;
            name = c.in-Some-at_name.name.now;
            bounds = q.value;
          };
      shows = (refl, c.in_ok-tree.ensures q.value q.shows);
      takes =
          lists.declared_taken (is_type c.args.reader.now.names.now) (map view c.args.tokens.now)
          (map view c.in_ok-stars.stars.rest.now) (map view c.in-Some-at_name.inside.now)
          (map view c.in_ok-bounds.bounds.rest.now) c.in-Some-at_name.line
          c.in-Some-at_name.name.now c.in_ok-stars.stars.value.items q.value c.in_ok-stars.ensures.reads
          c.in-Some-at_name.ensures.value (sym c.has.ensures ∙ c.if-has.false) q.takes;
    }
