use Rattle.std.proofs.Common.{◌≡◌, subst}
use Rattle.ep_pointers.specs.Compare.{allows, opposite, in_one_block}
use Rattle.ep_pointers.proofs.Passing.{Step, any_on}
use Rattle.ep_pointers.proofs.compare.in_one_block.Goals as goal

pub loop-t-preserved : goal.loop-t-preserved
loop-t-preserved g c =
    let d = g.N.Num.ops in
    let xs = c.args.x.now in
    let ys = c.args.y.now in
    let s : Step (λ t o. allows d c.args.c t.1 o) xs ys c.loop-t.t-index c.loop-t.at c.place_from-at.result
    c.t-item.result c.offset_there-offset.result = record {
      left = c.requires.left;
      right = c.requires.right;
      inside = c.loop-t-test.true;
      is = c.t-item.is;
      moved = c.place_from-at.ensures.rest;
      found = c.offset_there-offset.ensures;
    } in
    let r : Step (λ t o. allows d (opposite c.args.c) t.1 o) xs ys c.loop-t.t-index c.loop-t.at c.place_from-at.result
    c.t-item.result c.offset_there-offset.result = record {
      left = c.requires.left;
      right = c.requires.right;
      inside = c.loop-t-test.true;
      is = c.t-item.is;
      moved = c.place_from-at.ensures.rest;
      found = c.offset_there-offset.ensures;
    } in
    record {
      within = c.place_from-at.ensures.within;
      yes = any_on (λ t o. allows d c.args.c t.1 o) xs ys c.loop-t.t-index c.loop-t.at c.place_from-at.result
          c.t-item.result c.offset_there-offset.result s c.allows-yes.result c.allows-yes.ensures c.loop-t.yes
          (in_one_block d c.args.c xs ys) c.loop-t.invariant.yes;
      no = any_on (λ t o. allows d (opposite c.args.c) t.1 o) xs ys c.loop-t.t-index c.loop-t.at
          c.place_from-at.result c.t-item.result c.offset_there-offset.result r c.allows-no.result
          (subst (λ k. c.allows-no.result ≡ allows d k c.t-item.result.1 c.offset_there-offset.result)
          c.opposite.ensures c.allows-no.ensures) c.loop-t.no (in_one_block d (opposite c.args.c) xs ys)
          c.loop-t.invariant.no;
    }
