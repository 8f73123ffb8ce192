use Rattle.std.proofs.Common.{◌≡◌, true, rules}
use Rattle.ep_shared_parts.specs.Spread.{all_items}
use Rattle.ep_shared_parts.specs.Walks.{rest}
use Rattle.ep_cells.specs.Cells.{is_same_cell}
use Rattle.ep_cell_parts.proofs.Staying.{place_more}
use Rattle.ep_cell_parts.proofs.Beside.{alike_step}
use Rattle.ep_cell_parts.proofs.places.places_alike.Goals as goal

pub loop-x-preserved : goal.loop-x-preserved
loop-x-preserved g c =
    let first = c.in-Some.ensures.some in
    let second = c.in-Some-next-2.ensures.some in
    let same : is_same_cell c.in-Some.x.0.now c.in-Some-next-2.y.0.now ≡ true = search rules in
    record {
      left = first.1;
      right = second.1;
      same = alike_step c.in-Some.x.0.now c.in-Some-next-2.y.0.now (rest c.loop-x.a c.args.xs.now)
          (rest c.loop-x.b c.args.ys.now) (rest c.in-Some.x.1 c.args.xs.now) (rest c.in-Some-next-2.y.1 c.args.ys.now)
          (all_items c.args.xs.now) (all_items c.args.ys.now) first.0 second.0 same c.loop-x.invariant.same;
      places = place_more c.loop-x.out.items c.push_place.new.out.items _ c.in-Some.x.0.now
          (rest c.loop-x.a c.args.xs.now) (rest c.in-Some.x.1 c.args.xs.now) c.in_ok-push_place.ensures first.0
          c.loop-x.invariant.places;
    }
