use Rattle.std.proofs.Common.{◌++◌, ◌∷◌, [], map, arith, sym}
use Rattle.std.proofs.lemmas.Result.{err_from_is_err_and}
use Rattle.ep_ast.specs.Statement.{item_of}
use Rattle.ep_ast.specs.Depth.{in_item}
use Rattle.ep_lexer.specs.Tokens.{view}
use Rattle.ep_reading.specs.Names.{is_type}
use Rattle.ep_decls.specs.Answer.{Itemed, Whole}
use Rattle.ep_reading.proofs.PassLemmas.{stops_stop}
use Rattle.ep_reading.proofs.MeasuredLemmas.{longer_shows}
use Rattle.ep_decls.proofs.ProgramLemmas as programs
use Rattle.ep_decls.proofs.top.all_items.Goals as goal

pub returns-then-is_empty : goal.returns-then-is_empty
returns-then-is_empty c =
    let i = c.items.invariant.0 in
    let e = programs.none_left c.items.rest.now (sym c.if-is_empty.ensures) in
    record {
      reads = (
        i.0,
        i.1,
        programs.items_done (map view c.args.tokens.now) i.0 (is_type c.items.names) (map view c.items.rest.now) e i.2,
      );
    }

pub returns-in_err-one : goal.returns-in_err-one
returns-in_err-one c =
    let p = err_from_is_err_and c.from_residual.result c.from_residual.ensures.1 in
    let i = c.items.invariant.0 in
    let e = programs.some_left c.items.rest.now (sym c.if-is_empty.ensures) in
    rw (p.1, p.2) (record {
      reads = stops_stop (Itemed (is_type c.items.names)) Whole (map view c.items.rest.now)
          (map view c.args.tokens.now) c.in_err-one.field-0.0
          (programs.items_refused (map view c.args.tokens.now) i.0 (is_type c.items.names) (map view c.items.rest.now) e
          i.2)
          c.in_err-one.ensures.reads;
    })

pub items-preserved : goal.items-preserved
items-preserved c =
    let i = c.items.invariant.0 in
    let q = c.in_ok-one.ensures.reads in (
      (
        i.0 ++ q.value.0 ∷ [],
        longer_shows item_of in_item c.items.found c.in_ok-one.one.value c.in_ok-found.found i.0 q.value.0
            c.in_ok-found.ensures i.1 q.shows.0,
        programs.items_step (map view c.args.tokens.now) i.0 (is_type c.items.names) (is_type c.item.new.names)
            (map view c.items.rest.now) (map view c.in_ok-one.one.rest.now) q.value q.shows.1 i.2 q.takes,
      ),
      omega (arith, c.in_ok-one.ensures.shorter, c.items.invariant.1),
    )
