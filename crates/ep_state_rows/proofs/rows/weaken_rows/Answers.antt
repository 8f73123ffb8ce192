use Rattle.std.proofs.Common.{◌+◌, ◌∙◌, drop, get_or, sym, subst, arith}
use Rattle.ep_cells.specs.States.{Each, IsCell}
use Rattle.ep_state_rows.specs.Rows.{further, IsRow, FitAt}
use Rattle.ep_state_rows.proofs.Beyond.{next}
use Rattle.ep_state_rows.proofs.Walking.{model_by_place, placed, placed_is, placed_next, placed_last}
use Rattle.ep_state_rows.proofs.rows.weaken_rows.Goals as goal

pub weaken_row-requires-clause-fits : goal.weaken_row-requires-clause-fits
weaken_row-requires-clause-fits g c =
    let q = get_or c.args.spots.now c.loop-q.q-index (0, 0) in
    let e = next c.args.spots.now c.loop-q.q-index (0, 0) c.loop-q-test.true in
    subst (λ d. Each (λ x. IsCell d (further x q)) c.args.cells.now) (sym c.loop-q.invariant.model)
    (subst (FitAt c.args.state.model c.args.cells.now) e c.loop-q.invariant.fits).0

pub loop-q-preserved : goal.loop-q-preserved
loop-q-preserved g c =
    let D = g.N.Num.ops in
    let i = c.loop-q.invariant in
    let q = get_or c.args.spots.now c.loop-q.q-index (0, 0) in
    let e = next c.args.spots.now c.loop-q.q-index (0, 0) c.loop-q-test.true in
    let row = subst (λ d. IsRow d c.args.start c.args.cells.now) (sym i.model) c.requires.row in
    record {
      model = model_by_place D c.args.cells.now c.args.start q c.loop-q.sofar c.in_ok-next.next row
          c.in_ok-next.ensures ∙ i.model;
      value = placed_next D c.args.cells.now q (drop c.loop-q.q-index c.args.spots.now)
          (drop (c.loop-q.q-index + 1) c.args.spots.now) c.loop-q.sofar c.in_ok-next.next _ e
          c.in_ok-next.ensures i.value;
      fits = (subst (FitAt c.args.state.model c.args.cells.now) e i.fits).1;
    }

pub returns-clause-value : goal.returns-clause-value
returns-clause-value g c =
    let D = g.N.Num.ops in
    placed_last D c.args.cells.now c.args.spots.now c.loop-q.q-index c.loop-q.sofar
    (placed D c.args.cells.now c.args.spots.now c.args.state) (omega (arith, c.loop-q-test.false))
    c.loop-q.invariant.value
    ∙ placed_is D c.args.cells.now c.args.start c.args.bytes c.args.spots.now c.args.state c.requires.row
    c.requires.bytes c.requires.spaced
