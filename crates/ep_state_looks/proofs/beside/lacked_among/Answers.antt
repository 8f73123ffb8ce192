use Rattle.std.proofs.Common.{◌+◌, ap, map, drop, arith}
use Rattle.std.proofs.lemmas.List.{drop_all}
use Rattle.ep_scalar_reads.proofs.Bytes.{drop_at}
use Rattle.ep_state_looks.proofs.Walking.{walk_next, walk_end}
use Rattle.ep_state_looks.proofs.beside.lacked_among.Goals as goal

pub loop-x-preserved : goal.loop-x-preserved
loop-x-preserved g c = (
  walk_next c.x-item.result.now c.loop-x.out.items c.push_unless.new.out.items (map (λ r. r.now) (drop c.loop-x.x-index
      c.args.xs.now)) (map (λ r. r.now) (drop (c.loop-x.x-index + 1) c.args.xs.now)) (map (λ r. r.now) (drop c.loop-x.at
      c.args.ys.now)) (map (λ r. r.now) (drop c.from_cell-at.result c.args.ys.now)) _ c.is_like.result
      (ap (map (λ r. r.now)) (drop_at c.args.xs.now c.loop-x.x-index c.x-item.result c.x-item.is c.loop-x-test.true))
      c.from_cell-at.ensures.rest c.is_like.ensures c.in_ok-push_unless.ensures c.loop-x.invariant.0,
  c.from_cell-at.ensures.within,
)

pub returns : goal.returns
returns g c =
    walk_end c.loop-x.out.items (map (λ r. r.now) (drop c.loop-x.x-index c.args.xs.now)) (map (λ r. r.now) (drop
    c.loop-x.at c.args.ys.now)) _
    (ap (map (λ r. r.now)) (drop_all c.loop-x.x-index c.args.xs.now (omega (arith, c.loop-x-test.false))))
    c.loop-x.invariant.0
