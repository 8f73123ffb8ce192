use Rattle.std.proofs.Common.{◌≡◌, ◌-◌, ◌<◌, suc, length, get_or, set, arith, refl}
use Rattle.ep_call_graph.proofs.Lists.{len_is}
use Rattle.ep_typer_checks.proofs.Placing.{below_at, first_place, place_before}
use Rattle.ep_typer_checks.proofs.order.places_in.Goals as goal

pub index_mut-requires : goal.index_mut-requires
index_mut-requires c =
    let within : c.places.left - 1 < length c.args.order.now = omega (arith, c.places.invariant.within) in
    let below : get_or c.args.order.now (c.places.left - 1) 0 < c.args.count = below_at c.args.count c.args.order.now (c.places.left - 1) 0 within c.requires in
    omega (arith, c.places.invariant.count)

pub places-preserved : goal.places-preserved
places-preserved c =
    let within : c.places.left - 1 < length c.args.order.now = omega (arith, c.places.invariant.within) in
    let next : c.places.left ≡ suc (c.places.left - 1) = omega arith in
    let is : c.in-Ok.place ≡ c.places.left - 1 = omega (arith, c.in-Ok.ensures.number) in
    let below : get_or c.args.order.now (c.places.left - 1) 0 < c.args.count = below_at c.args.count c.args.order.now (c.places.left - 1) 0 within c.requires in
    let inside : get_or c.args.order.now (c.places.left - 1) 0 < length c.places.all.items =
    omega (arith, c.places.invariant.count, len_is c.places.all) in
    record {
      count = c.places.invariant.count;
      within = omega (arith, c.places.invariant.within);
      places = place_before c.args.order.now c.places.all.items
          (set c.places.all.items (get_or c.args.order.now (c.places.left - 1) 0) c.in-Ok.place) (c.places.left - 1) c.places.left c.in-Ok.place 0 next is
          within inside refl c.places.invariant.places;
    }

pub returns : goal.returns
returns c = first_place c.args.order.now c.places.all.items c.places.left c.places-test.false c.places.invariant.places
