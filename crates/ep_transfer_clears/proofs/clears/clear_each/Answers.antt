use Rattle.std.proofs.Common.{◌∙◌, ◌+◌, nat_lt, refl, sym, subst, arith}
use Rattle.ep_transfer_places.specs.Room.{view as shown_places}
use Rattle.ep_transfer_places.proofs.Moving.{less_both}
use Rattle.ep_transfer_clears.specs.Walk.{IsAt}
use Rattle.ep_transfer_clears.proofs.Stepping.{leaf_is, inside_is, leaf_room, next_turn}
use Rattle.ep_transfer_clears.proofs.clears.clear_each.Goals as goal

pub clear_here-requires-clause-leaf : goal.clear_here-requires-clause-leaf
clear_here-requires-clause-leaf g c =
    leaf_room c.args.state.model c.args.bytes c.args.leaves.now c.loop-at.at c.loop-at.walk.begun c.loop-at.walk.end
    c.loop-at.invariant.walk c.loop-at.after.model c.loop-at.invariant.model (shown_places c.args.places.now)
    c.requires.room c.first_at-first.result c.first_at-first.ensures

pub clear_here-requires-clause-byte : goal.clear_here-requires-clause-byte
clear_here-requires-clause-byte g c =
    let h = c.loop-at-test.true in
    less_both c.args.bytes (c.loop-at.at + 1) (shown_places c.args.places.now) (omega (arith, h)) c.requires.room

pub loop-at-preserved : goal.loop-at-preserved
loop-at-preserved g c = record {
  value = next_turn g.N.Num.ops c.args.mode c.args.leaves.now c.args.same_to (shown_places c.args.places.now)
      c.args.state.model c.args.bytes c.loop-at.at c.first_at-first.result (nat_lt c.loop-at.at c.loop-at.walk.end)
      c.loop-at.after c.in_ok-after.after _ c.loop-at-test.true c.loop-at.invariant.model
      (leaf_is c.args.state.model c.args.bytes c.args.leaves.now c.loop-at.at c.loop-at.walk.begun c.loop-at.walk.end
      c.loop-at.invariant.walk ∙ sym c.first_at-first.ensures)
      (λ n. inside_is c.args.state.model c.args.bytes c.args.leaves.now c.loop-at.at c.loop-at.walk.begun
      c.loop-at.walk.end c.loop-at.invariant.walk (nat_lt c.loop-at.at c.loop-at.walk.end) refl
      (sym c.first_at-first.ensures ∙ n))
      c.in_ok-after.ensures.value c.loop-at.invariant.value;
  model = c.in_ok-after.ensures.model ∙ c.loop-at.invariant.model;
  walk = subst (λ d. IsAt d c.args.bytes c.args.leaves.now (c.loop-at.at + 1) c.moved_on-walk.result.begun
      c.moved_on-walk.result.end) c.model-model.ensures.value c.moved_on-walk.ensures;
}
