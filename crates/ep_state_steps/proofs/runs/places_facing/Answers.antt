use Rattle.std.proofs.Common.{sym, ◌∙◌, ap, subst, arith}
use Rattle.ep_scalar_reads.proofs.Bytes.{drop_at}
use Rattle.ep_state_steps.proofs.Adjoining.{met_more, met_ends}
use Rattle.ep_state_steps.proofs.runs.places_facing.Goals as goal

pub loop-y-preserved : goal.loop-y-preserved
loop-y-preserved g c =
    met_more c.args.model c.y-item.result c.args.ys.now c.loop-y.y-index c.loop-y.out.items c.with_cell.new.places.items
    c.loop-y.last c.in_ok-next.next
    (drop_at c.args.ys.now c.loop-y.y-index c.y-item.result c.y-item.is c.loop-y-test.true) c.in_ok-next.ensures
    c.loop-y.invariant

pub returns : goal.returns
returns g c =
    met_ends c.args.model c.args.ys.now c.loop-y.y-index c.loop-y.out.items c.push_last.new.places.items c.loop-y.last
    (omega (arith, c.loop-y-test.false)) c.in_ok-push_last.ensures c.loop-y.invariant
