use Rattle.std.proofs.Common.{◌++◌, drop, inl, inr, ◌∙◌, ap}
use Rattle.ep_cell_ranges.specs.Spots.{all_spots}
use Rattle.ep_state_ranges.specs.Merged.{Chosen}
use Rattle.ep_state_ranges.proofs.Merging.{turn, ends, are_chosen}
use Rattle.ep_state_ranges.proofs.spots.merged.Goals.{then-loop-i-test+else-j-right, else-loop-i-test}
use Rattle.ep_state_ranges.proofs.spots.merged.Goals as goal

pub loop-i-preserved : goal.loop-i-preserved
loop-i-preserved c =
    let n : Chosen = record {
      spot = c.next_of-next.result.spot;
      left = c.next_of-next.result.left;
      right = c.next_of-next.result.right;
    } in
    let t = turn (0, 0) c.args.left.now c.args.right.now c.loop-i.i c.loop-i.j n c.loop-i.out.items c.push.new.out.items
    (all_spots c.args.left.now c.args.right.now) c.loop-i-test.true c.if-j-right.true c.loop-i.invariant.first
    c.loop-i.invariant.second
    (are_chosen n _ c.next_of-next.ensures.spot c.next_of-next.ensures.left c.next_of-next.ensures.right)
    c.in_ok-push.ensures c.loop-i.invariant.is in
    record { is = t.is; first = t.first; second = t.second; within = t.within; inside = t.inside }

pub returns : goal.returns
returns c =
    ends c.args.left.now c.args.right.now c.loop-i.i c.loop-i.j c.loop-i.out.items c.push_from-2.new.out.items
    (all_spots c.args.left.now c.args.right.now) c.loop-i.invariant.first
    (elim c.loop-i-test.branch [
      | then-loop-i-test+else-j-right w ↦ inr w.if-j-right.false
      | else-loop-i-test w ↦ inl w.loop-i-test.false
    ])
    (c.in_ok-push_from-2.ensures ∙ ap (λ z. z ++ drop c.loop-i.j c.args.right.now) c.in_ok-push_from.ensures)
    c.loop-i.invariant.is
