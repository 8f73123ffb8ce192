use Rattle.std.proofs.Common.{map, subst, arith}
use Rattle.ep_cells.specs.States.{Each}
use Rattle.ep_cell_ranges.specs.Ranges.{with_form, form_by_splits}
use Rattle.ep_scalar_reads.proofs.Bytes.{drop_at}
use Rattle.ep_state_steps.specs.Ones.{split_at, Has}
use Rattle.ep_state_steps.proofs.Loops.{split_next, split_last}
use Rattle.ep_state_ranges.proofs.Carrying.{alone, alone_holds, cell_holds}
use Rattle.ep_state_ranges.proofs.Cutting.{split_turn, split_ends}
use Rattle.ep_state_ranges.proofs.cuts.split_each.Goals as goal

pub split_like-requires-clause-has : goal.split_like-requires-clause-has
split_like-requires-clause-has g c =
    (subst (Each (Has c.args.side)) (drop_at c.args.xs.now c.loop-x.x-index c.x-item.result c.x-item.is
    c.loop-x-test.true) c.loop-x.invariant.have).0

pub loop-x-preserved : goal.loop-x-preserved
loop-x-preserved g c =
    let e = drop_at c.args.xs.now c.loop-x.x-index c.x-item.result c.x-item.is c.loop-x-test.true in
    record {
      state = split_next g.N.Num.ops c.args.side c.x-item.result c.args.xs.now c.loop-x.x-index c.loop-x.sofar.state
          c.in_ok-next.next.state
          (split_at g.N.Num.ops c.args.side c.args.xs.now c.args.now.state) e
          c.in_ok-next.ensures.state c.loop-x.invariant.state;
      new = split_turn with_form cell_holds g.N.Num.ops c.args.side c.x-item.result c.args.xs.now c.loop-x.x-index
          c.loop-x.sofar.state c.in_ok-next.next.state c.loop-x.sofar.new.items c.in_ok-next.next.new.items
          (map (with_form (form_by_splits g.N.Num.ops c.args.now.state c.args.side c.args.xs.now
          c.args.now.state.cells))
          c.args.now.new.items) e
          c.in_ok-next.ensures.state c.in_ok-next.ensures.new c.loop-x.invariant.new;
      forms = split_turn alone alone_holds g.N.Num.ops c.args.side c.x-item.result c.args.xs.now c.loop-x.x-index
          c.loop-x.sofar.state c.in_ok-next.next.state c.loop-x.sofar.forms.items c.in_ok-next.next.forms.items
          (map (form_by_splits g.N.Num.ops c.args.now.state c.args.side c.args.xs.now c.args.now.state.cells)
          c.args.now.forms.items) e
          c.in_ok-next.ensures.state c.in_ok-next.ensures.forms c.loop-x.invariant.forms;
      have = (subst (Each (Has c.args.side)) e c.loop-x.invariant.have).1;
    }

pub returns-clause-state : goal.returns-clause-state
returns-clause-state g c =
    split_last g.N.Num.ops c.args.side c.args.xs.now c.loop-x.x-index c.loop-x.sofar.state
    (split_at g.N.Num.ops c.args.side c.args.xs.now c.args.now.state)
    (omega (arith, c.loop-x-test.false)) c.loop-x.invariant.state

pub returns-clause-new : goal.returns-clause-new
returns-clause-new g c =
    split_ends with_form cell_holds g.N.Num.ops c.args.side c.args.xs.now c.loop-x.x-index c.loop-x.sofar.state
    c.loop-x.sofar.new.items
    (map (with_form (form_by_splits g.N.Num.ops c.args.now.state c.args.side c.args.xs.now
    c.args.now.state.cells))
    c.args.now.new.items) (omega (arith, c.loop-x-test.false)) c.loop-x.invariant.new

pub returns-clause-forms : goal.returns-clause-forms
returns-clause-forms g c =
    split_ends alone alone_holds g.N.Num.ops c.args.side c.args.xs.now c.loop-x.x-index c.loop-x.sofar.state
    c.loop-x.sofar.forms.items
    (map (form_by_splits g.N.Num.ops c.args.now.state c.args.side c.args.xs.now c.args.now.state.cells)
    c.args.now.forms.items) (omega (arith, c.loop-x-test.false)) c.loop-x.invariant.forms
