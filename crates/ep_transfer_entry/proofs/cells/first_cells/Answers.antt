use Rattle.std.proofs.Common.{◌+◌, false, refl, ap, arith}
use Rattle.ep_core.specs.declared.program.BlockInfo.{BlockInfo}
use Rattle.ep_transfer_entry.proofs.Turns.{found, few, begins_with, block_turn, blocks_end}
use Rattle.ep_transfer_entry.proofs.cells.first_cells.Goals as goal

abbrev none : BlockInfo
none = record { size = 0; ty = 0; global = false }

pub loop-block-init : goal.loop-block-init
loop-block-init g c = record {
  number = refl;
  rest = begins_with g.N.Num.ops c.args.program.now c.deref-block-items.result.now c.new-out.result.items
      c.deref-block-items.ensures.value c.new-out.ensures.items;
}

pub push_first-requires-clause-block : goal.push_first-requires-clause-block
push_first-requires-clause-block g c =
    found g.N.Num.ops c.args.program.now c.deref-block-items.result.now c.loop-block.block-index c.loop-block.number
    none c.deref-block-items.ensures.value c.loop-block-test.true c.loop-block.invariant.number

pub overflow_add-number : goal.overflow_add-number
overflow_add-number g c =
    let l = few g.N.Num.ops c.args.program.now c.deref-block-items.result.now c.loop-block.block-index
    c.loop-block.number c.deref-block-items.ensures.value c.loop-block-test.true c.loop-block.invariant.number in
    omega (arith, l)

pub loop-block-preserved : goal.loop-block-preserved
loop-block-preserved g c = record {
  number = ap (λ n. n + 1) c.loop-block.invariant.number;
  rest = block_turn g.N.Num.ops c.args.program.now c.deref-block-items.result.now c.loop-block.out.items
      c.push_first.new.out.items _ c.loop-block.block-index c.loop-block.number none
      c.loop-block-test.true c.in_ok-push_first.ensures c.loop-block.invariant.rest;
}

pub returns : goal.returns
returns g c =
    blocks_end g.N.Num.ops c.args.program.now c.deref-block-items.result.now c.loop-block.out.items _
    c.loop-block.block-index c.loop-block.number c.loop-block-test.false c.loop-block.invariant.rest
