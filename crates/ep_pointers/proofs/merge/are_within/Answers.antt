use Rattle.std.proofs.Common.{◌≡◌, ◌&&◌, drop, ◌+◌, subst}
use Rattle.std.specs.List.{list_all}
use Rattle.ep_pointers.specs.Value.{are_within, is_offset_within}
use Rattle.ep_pointers.proofs.Passing.{tests, Step, all_on}
use Rattle.ep_pointers.proofs.merge.are_within.Goals as goal

pub returns-then-not-is_offset_within : goal.returns-then-not-is_offset_within
returns-then-not-is_offset_within g c =
    let d = g.N.Num.ops in
    let s : Step (λ t o. is_offset_within d t.1 o) c.args.x.now c.args.y.now c.loop-t.t-index c.loop-t.at
    c.place_from-at.result c.t-item.result c.offset_there.result = record {
      left = c.requires.left;
      right = c.requires.right;
      inside = c.loop-t-test.true;
      is = c.t-item.is;
      moved = c.place_from-at.ensures.rest;
      found = c.offset_there.ensures;
    } in
    let e = all_on (λ t o. is_offset_within d t.1 o) c.args.x.now c.args.y.now c.loop-t.t-index c.loop-t.at
    c.place_from-at.result c.t-item.result c.offset_there.result s c.is_offset_within.result
    c.is_offset_within.ensures (are_within d c.args.x.now c.args.y.now) c.loop-t.invariant.rest in
    subst (λ r. (r && list_all (tests (λ t o. is_offset_within d t.1 o) (drop c.place_from-at.result c.args.y.now))
    (drop (c.loop-t.t-index + 1) c.args.x.now)) ≡ are_within d c.args.x.now c.args.y.now)
    c.if-not-is_offset_within.true e

pub loop-t-preserved : goal.loop-t-preserved
loop-t-preserved g c =
    let d = g.N.Num.ops in
    let s : Step (λ t o. is_offset_within d t.1 o) c.args.x.now c.args.y.now c.loop-t.t-index c.loop-t.at
    c.place_from-at.result c.t-item.result c.offset_there.result = record {
      left = c.requires.left;
      right = c.requires.right;
      inside = c.loop-t-test.true;
      is = c.t-item.is;
      moved = c.place_from-at.ensures.rest;
      found = c.offset_there.ensures;
    } in
    let e = all_on (λ t o. is_offset_within d t.1 o) c.args.x.now c.args.y.now c.loop-t.t-index c.loop-t.at
    c.place_from-at.result c.t-item.result c.offset_there.result s c.is_offset_within.result
    c.is_offset_within.ensures (are_within d c.args.x.now c.args.y.now) c.loop-t.invariant.rest in
    record {
      within = c.place_from-at.ensures.within;
      rest = subst (λ r. (r && list_all (tests (λ t o. is_offset_within d t.1 o)
          (drop c.place_from-at.result c.args.y.now)) (drop (c.loop-t.t-index + 1) c.args.x.now)) ≡ are_within d
          c.args.x.now c.args.y.now) c.if-not-is_offset_within.false e;
    }
