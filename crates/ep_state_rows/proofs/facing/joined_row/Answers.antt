use Rattle.std.proofs.Common.{◌+◌, ap, map, drop}
use Rattle.ep_state_rows.proofs.Walking.{drop_at, others_turn, joined_turn}
use Rattle.ep_state_rows.proofs.facing.joined_row.Goals as goal

pub loop-x-preserved : goal.loop-x-preserved
loop-x-preserved g c =
    let xs = map (λ r. r.now) (drop c.loop-x.x-index c.args.about.now) in
    let rest = map (λ r. r.now) (drop (c.loop-x.x-index + 1) c.args.about.now) in
    let e = ap (map (λ r. r.now)) (drop_at c.args.about.now c.loop-x.x-index c.x-item.result c.x-item.is
    c.loop-x-test.true) in
    record {
      others = others_turn g.N.Num.ops c.args.model c.args.cells.now c.args.q c.args.place.now c.x-item.result.now
          xs rest (map (λ r. r.now) c.args.about.now) e
          (c.in_ok-is_there.ensures.others c.if-not-is_there.false) c.loop-x.invariant.others;
      joined = joined_turn g.N.Num.ops c.args.model c.args.cells.now c.args.q c.args.place.now c.x-item.result.now
          xs rest c.loop-x.out.items c.push_in_row.new.out.items _ e
          (c.in_ok-is_there.ensures.joined c.if-not-is_there.false) c.loop-x.invariant.joined;
    }
