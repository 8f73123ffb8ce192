use Rattle.std.proofs.Common.{◌+◌, ◌++◌, ap, map, drop}
use Rattle.ep_cells.specs.Cells.{each_becomes}
use Rattle.ep_scalar_reads.proofs.Bytes.{drop_at}
use Rattle.ep_state_ranges.specs.InRow.{joined_in}
use Rattle.ep_state_ranges.proofs.Takings.{taken_turn}
use Rattle.ep_state_ranges.proofs.facing.push_all_joined.Goals as goal

pub loop-x-preserved : goal.loop-x-preserved
loop-x-preserved g c =
    let e = ap (map (λ r. r.now)) (drop_at c.args.cells.now c.loop-x.x-index c.x-item.result c.x-item.is
    c.loop-x-test.true) in
    taken_turn (joined_in g.N.Num.ops c.args.model c.args.c.now c.args.p.now) c.x-item.result.now
    (map (λ r. r.now) (drop c.loop-x.x-index c.args.cells.now))
    (map (λ r. r.now) (drop (c.loop-x.x-index + 1) c.args.cells.now)) c.loop-x.out.items c.push_joined.new.out.items
    (c.args.out.now.items ++ each_becomes (joined_in g.N.Num.ops c.args.model c.args.c.now c.args.p.now)
    (map (λ r. r.now) c.args.cells.now)) e c.in_ok-push_joined.ensures c.loop-x.invariant
