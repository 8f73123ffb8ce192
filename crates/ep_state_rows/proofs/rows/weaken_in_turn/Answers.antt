use Rattle.std.proofs.Common.{◌+◌, ◌≡◌, ◌∙◌, drop, refl, sym, subst, arith}
use Rattle.ep_bitslice.specs.declared.cell.Side.TheVariants.{Shared}
use Rattle.ep_cells.specs.States.{Each, IsCell}
use Rattle.ep_state_rows.specs.Rows.{further}
use Rattle.ep_state_rows.proofs.Walking.{drop_at, shared_row, turn_next, turn_last, turn_model}
use Rattle.ep_state_rows.proofs.rows.weaken_in_turn.Goals as goal

pub loop-c-init : goal.loop-c-init
loop-c-init g c = record {
  model = refl;
  value = refl;
  shared = shared_row g.N.Num.ops c.args.state.model c.args.start c.args.cells.now c.requires.row;
  fits = c.requires.fits;
}

pub weaken_one-requires-clause-side : goal.weaken_one-requires-clause-side
weaken_one-requires-clause-side g c =
    let e = drop_at c.args.cells.now c.loop-c.c-index c.c-item.result c.c-item.is c.loop-c-test.true in
    (subst (Each (λ x. x.side ≡ Shared)) e c.loop-c.invariant.shared).0

pub weaken_one-requires-clause-fits : goal.weaken_one-requires-clause-fits
weaken_one-requires-clause-fits g c =
    let e = drop_at c.args.cells.now c.loop-c.c-index c.c-item.result c.c-item.is c.loop-c-test.true in
    subst (λ d. IsCell d (further c.c-item.result c.args.q)) (sym c.loop-c.invariant.model)
    (subst (Each (λ x. IsCell c.args.state.model (further x c.args.q))) e c.loop-c.invariant.fits).0

pub loop-c-preserved : goal.loop-c-preserved
loop-c-preserved g c =
    let D = g.N.Num.ops in
    let i = c.loop-c.invariant in
    let e = drop_at c.args.cells.now c.loop-c.c-index c.c-item.result c.c-item.is c.loop-c-test.true in
    record {
      model = turn_model D c.args.q c.c-item.result c.loop-c.sofar c.in_ok-next.next c.in_ok-next.ensures ∙ i.model;
      value = turn_next D c.args.q c.c-item.result (drop c.loop-c.c-index c.args.cells.now)
          (drop (c.loop-c.c-index + 1) c.args.cells.now) c.loop-c.sofar c.in_ok-next.next _ e
          c.in_ok-next.ensures i.value;
      shared = (subst (Each (λ x. x.side ≡ Shared)) e i.shared).1;
      fits = (subst (Each (λ x. IsCell c.args.state.model (further x c.args.q))) e i.fits).1;
    }

pub returns : goal.returns
returns g c =
    turn_last g.N.Num.ops c.args.q c.args.cells.now c.loop-c.c-index c.loop-c.sofar _
    (omega (arith, c.loop-c-test.false)) c.loop-c.invariant.value
