use Rattle.std.proofs.Common.{◌≡◌, true, arith, rules}
use Rattle.ep_shared_parts.specs.Walks.{rest}
use Rattle.ep_cell_rows.specs.Parts.{united}
use Rattle.ep_cell_unions.proofs.Together.{rest_next, stays_next}
use Rattle.ep_cell_unions.proofs.unions.behind_run.Goals as goal

pub loop-i-preserved : goal.loop-i-preserved
loop-i-preserved g c =
    let next = c.in-Some.ensures.some in
    let yes : c.stays_as.result ≡ true = search rules in
    record {
      from = omega (arith, c.loop-i.invariant.from);
      within = omega (arith, c.loop-i-test.true);
      at = next.1;
      left = λ zs h. rest_next c.loop-i.i c.in-Some.y.0.now (rest c.loop-i.behind c.args.others.now) (rest c.in-Some.y.1 c.args.others.now) zs (c.loop-i.invariant.left zs h) next.0;
      stay = λ k. c.loop-i.invariant.stay (stays_next (united g.N.Num.ops c.args.union) c.args.cells.now c.loop-i.i c.index-cells-i.result c.in-Some.y.0.now (rest c.loop-i.behind c.args.others.now) (rest c.in-Some.y.1 c.args.others.now) c.loop-i-test.true c.index-cells-i.is next.0 (c.stays_as.ensures.0 yes).2 k);
    }
