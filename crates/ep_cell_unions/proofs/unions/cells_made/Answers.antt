use Rattle.std.proofs.Common.{◌<◌, length, arith}
use Rattle.ep_shared_parts.specs.Walks.{rest}
use Rattle.ep_cells.specs.Both.{cells_of_both}
use Rattle.ep_cell_rows.specs.Parts.{united}
use Rattle.ep_cell_unions.proofs.Together.{rest_next, made_next, none_left}
use Rattle.ep_cell_unions.proofs.unions.cells_made.Goals as goal

pub returns-in-None-clause-rest : goal.returns-in-None-clause-rest
returns-in-None-clause-rest g c =
    let more : c.loop-x.x-index < length (rest c.args.at c.args.others.now) = omega (arith, c.loop-x-test.true, c.requires.enough) in
    absurd (none_left c.loop-x.x-index (rest c.loop-x.behind c.args.others.now) (rest c.args.at c.args.others.now) more c.loop-x.invariant.left c.in-None.ensures.none)

pub returns-in-None-clause-items : goal.returns-in-None-clause-items
returns-in-None-clause-items g c =
    let more : c.loop-x.x-index < length (rest c.args.at c.args.others.now) = omega (arith, c.loop-x-test.true, c.requires.enough) in
    absurd (none_left c.loop-x.x-index (rest c.loop-x.behind c.args.others.now) (rest c.args.at c.args.others.now) more c.loop-x.invariant.left c.in-None.ensures.none)

pub loop-x-preserved : goal.loop-x-preserved
loop-x-preserved g c =
    let f = united g.N.Num.ops c.args.union in
    let next = c.in-Some.ensures.some in
    record {
      at = next.1;
      left = rest_next c.loop-x.x-index c.in-Some.y.0.now (rest c.loop-x.behind c.args.others.now) (rest c.in-Some.y.1 c.args.others.now) (rest c.args.at c.args.others.now) c.loop-x.invariant.left next.0;
      items = made_next f c.args.cells.now c.loop-x.x-index c.x-item.result c.in-Some.y.0.now c.in_ok-cell_of_both-in-Some.field-0 (rest c.loop-x.behind c.args.others.now) (rest c.in-Some.y.1 c.args.others.now) c.loop-x.out.items c.push.new.out.items (cells_of_both f c.args.cells.now (rest c.args.at c.args.others.now)) c.loop-x-test.true c.x-item.is next.0 c.in_ok-cell_of_both-in-Some.ensures c.in_ok-push-in-Some.ensures c.loop-x.invariant.items;
    }
