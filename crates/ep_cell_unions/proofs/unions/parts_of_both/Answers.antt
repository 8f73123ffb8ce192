use Rattle.std.proofs.Common.{arith}
use Rattle.ep_shared_parts.specs.Spread.{all_items}
use Rattle.ep_shared_parts.specs.Walks.{rest}
use Rattle.ep_cells.specs.Both.{cells_of_both}
use Rattle.ep_cell_rows.specs.Parts.{united}
use Rattle.ep_cell_unions.proofs.Together.{enough, left_next, both_next, outlines_next}
use Rattle.ep_cell_unions.proofs.unions.parts_of_both.Goals as goal

pub part_of_both-requires-clause-enough : goal.part_of_both-requires-clause-enough
part_of_both-requires-clause-enough g c =
    enough c.args.parts.now c.loop-part.part-index c.part-item.result (rest c.loop-part.at c.args.others.now) (omega (arith, c.loop-part-test.true)) c.part-item.is c.loop-part.invariant.left

pub loop-part-preserved : goal.loop-part-preserved
loop-part-preserved g c =
    let f = united g.N.Num.ops c.args.union in
    let ys = rest c.loop-part.at c.args.others.now in
    let zs = rest c.in_ok-both.both.1 c.args.others.now in
    record {
      at = c.in_ok-both.ensures.at;
      left = left_next c.args.parts.now c.loop-part.part-index c.part-item.result ys zs (omega (arith, c.loop-part-test.true)) c.part-item.is c.in_ok-both.ensures.rest c.loop-part.invariant.left;
      items = both_next f c.args.parts.now c.loop-part.out.items c.push.new.out.items c.loop-part.part-index c.part-item.result c.in_ok-both.both.0 ys zs (cells_of_both f (all_items c.args.parts.now) (all_items c.args.others.now)) (omega (arith, c.loop-part-test.true)) c.part-item.is c.loop-part.invariant.left c.in_ok-both.ensures.rest c.in_ok-both.ensures.items c.in_ok-push.ensures c.loop-part.invariant.items;
      outlines = outlines_next f c.args.parts.now c.loop-part.out.items c.push.new.out.items c.loop-part.part-index c.part-item.result c.in_ok-both.both.0 ys (omega (arith, c.loop-part-test.true)) c.part-item.is c.loop-part.invariant.left c.in_ok-both.ensures.start c.in_ok-both.ensures.items c.in_ok-push.ensures c.loop-part.invariant.outlines;
    }
