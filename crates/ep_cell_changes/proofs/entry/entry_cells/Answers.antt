use Rattle.std.proofs.Common.{◌∙◌, ◌++◌, ◌∷◌, [], arith, ap}
use Rattle.ep_int.specs.declared.types.IntType.TheVariants.{I8}
use Rattle.ep_int.specs.declared.types.Scalar.TheVariants.{Int}
use Rattle.ep_layout.specs.declared.types.Leaf.{Leaf}
use Rattle.ep_cell_changes.proofs.Entries.{leaf_fits, leaf_turn, leaves_left, leaf_ends}
use Rattle.ep_cell_changes.proofs.entry.entry_cells.Goals as goal

abbrev none : Leaf
none = record { offset = 0; what = Int I8 }

pub overflow_add-at : goal.overflow_add-at
overflow_add-at g c =
    let h = leaf_fits c.args.model c.loop-l.at c.args.size c.loop-l.l-index c.args.leaves.now none
    c.loop-l.invariant.leaves c.loop-l-test.true in
    omega (arith, h, c.size.ensures.value, c.ranges.size.fits)

pub loop-l-preserved : goal.loop-l-preserved
loop-l-preserved g c = record {
  rest = leaf_turn c.args.model c.args.side c.args.block c.loop-l.at c.args.size c.loop-l.l-index c.size.result
      c.args.leaves.now none c.loop-l.out.items c.push_bytes.new.out.items c.push.new.out.items _ c.size.ensures.value
      c.loop-l.invariant.leaves c.loop-l-test.true c.in_ok-push_bytes.ensures
      (c.in_ok-push.ensures ∙ ap (λ x. c.push_bytes.new.out.items ++ x ∷ []) c.undefined_cell.ensures)
      c.loop-l.invariant.rest;
  leaves = leaves_left c.args.model c.loop-l.at c.args.size c.loop-l.l-index c.size.result c.args.leaves.now none
      c.size.ensures.value c.loop-l.invariant.leaves c.loop-l-test.true;
}

pub returns : goal.returns
returns g c =
    leaf_ends c.args.model c.args.side c.args.block c.loop-l.at c.args.size c.loop-l.l-index c.args.leaves.now
    c.loop-l.out.items c.push_bytes-2.new.out.items _ c.loop-l-test.false c.in_ok-push_bytes-2.ensures c.loop-l.invariant.rest
