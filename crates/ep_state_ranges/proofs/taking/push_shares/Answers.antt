use Rattle.std.proofs.Common.{◌+◌, ◌++◌, ap, map, drop, subst}
use Rattle.ep_cells.specs.Cells.{each_becomes}
use Rattle.ep_cells.specs.States.{Each}
use Rattle.ep_scalar_reads.proofs.Bytes.{drop_at}
use Rattle.ep_synthesis.specs.Parts.{IsSized}
use Rattle.ep_state_ranges.specs.Taken.{taken_share}
use Rattle.ep_state_ranges.proofs.Takings.{taken_turn}
use Rattle.ep_state_ranges.proofs.taking.push_shares.Goals as goal

pub push_share-requires : goal.push_share-requires
push_share-requires g c =
    (subst (Each (IsSized c.args.state.now.model)) (ap (map (λ r. r.now)) (drop_at c.args.cells.now c.loop-x.x-index
    c.x-item.result c.x-item.is c.loop-x-test.true)) c.loop-x.invariant.sized).0

pub loop-x-preserved : goal.loop-x-preserved
loop-x-preserved g c =
    let e = ap (map (λ r. r.now)) (drop_at c.args.cells.now c.loop-x.x-index c.x-item.result c.x-item.is
    c.loop-x-test.true) in
    record {
      taken = taken_turn (taken_share g.N.Num.ops c.args.share c.args.state.now c.args.p.now) c.x-item.result.now
          (map (λ r. r.now) (drop c.loop-x.x-index c.args.cells.now))
          (map (λ r. r.now) (drop (c.loop-x.x-index + 1) c.args.cells.now)) c.loop-x.out.items
          c.push_share.new.out.items
          (c.args.out.now.items ++ each_becomes (taken_share g.N.Num.ops c.args.share c.args.state.now c.args.p.now)
          (map (λ r. r.now) c.args.cells.now)) e c.in_ok-push_share.ensures c.loop-x.invariant.taken;
      sized = (subst (Each (IsSized c.args.state.now.model)) e c.loop-x.invariant.sized).1;
    }
