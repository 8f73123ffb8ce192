use Rattle.std.proofs.Common.{◌∙◌, ◌+◌, nat_lt, refl, sym, subst, arith}
use Rattle.ep_transfer_clears.specs.Walk.{IsAt}
use Rattle.ep_transfer_clears.proofs.Stepping.{leaf_is, inside_is}
use Rattle.ep_transfer_clears.proofs.AtOnce.{leaf_space, next_cells, no_cells}
use Rattle.ep_transfer_clears.proofs.cells.cleared_cells.Goals as goal

pub push_here-requires-clause-leaf : goal.push_here-requires-clause-leaf
push_here-requires-clause-leaf g c =
    leaf_space c.args.state.now.model c.args.at.1.1 c.args.bytes c.args.leaves.now c.loop-offset.offset
    c.loop-offset.walk.begun c.loop-offset.walk.end c.loop-offset.invariant.walk c.requires.room
    c.first_at-first.result c.first_at-first.ensures

pub push_here-requires-clause-byte : goal.push_here-requires-clause-byte
push_here-requires-clause-byte g c =
    let h = c.loop-offset-test.true in let room = c.requires.room in omega (arith, h, room)

pub loop-offset-preserved : goal.loop-offset-preserved
loop-offset-preserved g c = record {
  all = next_cells g.N.Num.ops c.args.state.now.model c.args.at.0 c.args.at.1 c.args.bytes c.args.leaves.now
      c.loop-offset.offset c.first_at-first.result (nat_lt c.loop-offset.offset c.loop-offset.walk.end)
      c.loop-offset.out.items c.push_here.new.out.items _ c.loop-offset-test.true
      (leaf_is c.args.state.now.model c.args.bytes c.args.leaves.now c.loop-offset.offset c.loop-offset.walk.begun
      c.loop-offset.walk.end c.loop-offset.invariant.walk ∙ sym c.first_at-first.ensures)
      (λ n. inside_is c.args.state.now.model c.args.bytes c.args.leaves.now c.loop-offset.offset
      c.loop-offset.walk.begun c.loop-offset.walk.end c.loop-offset.invariant.walk
      (nat_lt c.loop-offset.offset c.loop-offset.walk.end) refl (sym c.first_at-first.ensures ∙ n))
      c.in_ok-push_here.ensures c.loop-offset.invariant.all;
  walk = subst (λ d. IsAt d c.args.bytes c.args.leaves.now (c.loop-offset.offset + 1) c.moved_on-walk.result.begun
      c.moved_on-walk.result.end) c.model-model.ensures.value c.moved_on-walk.ensures;
}

pub returns : goal.returns
returns g c =
    no_cells g.N.Num.ops c.args.state.now.model c.args.at.0 c.args.at.1 c.args.bytes c.args.leaves.now
    c.loop-offset.offset c.loop-offset.out.items _ c.loop-offset-test.false c.loop-offset.invariant.all
