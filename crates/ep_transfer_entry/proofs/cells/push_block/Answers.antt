use Rattle.std.proofs.Common.{◌∙◌, ◌++◌, map, FitsSigned, refl, rules}
use Rattle.std.specs.Int.{w128}
use Rattle.std.proofs.lemmas.Int.{to_z-of_z}
use Rattle.ep_core.specs.ProgramView.{program_view}
use Rattle.ep_core.specs.View.{block_view}
use Rattle.ep_transfer_entry.proofs.Begins.{begun}
use Rattle.ep_transfer_entry.proofs.Blocks.{type_there}
use Rattle.ep_transfer_entry.proofs.Turns.{number_fits, numbers_left, cell_turn, block_leaves, block_numbers}
use Rattle.ep_transfer_entry.proofs.Turns.{block_ends}
use Rattle.ep_transfer_entry.proofs.cells.push_block.Goals as goal

pub leaves-requires : goal.leaves-requires
leaves-requires g c =
    type_there (program_view c.args.program.now) c.args.program.now.well_formed c.args.number (block_view c.args.block.now)
    c.requires.block

pub entry_cells-requires : goal.entry_cells-requires
entry_cells-requires g c =
    block_leaves g.N.Num.ops c.args.program.now c.args.number (block_view c.args.block.now) c.requires.block
    c.requires.begins c.model-model.result c.deref.result.now c.model-model.ensures.model
    (c.deref.ensures.value ∙ c.in_ok-leaves.ensures.value)

pub loop-c-init : goal.loop-c-init
loop-c-init g c = record {
  rest = refl;
  numbers = block_numbers g.N.Num.ops c.args.program.now c.args.number (block_view c.args.block.now) c.requires.block
      c.requires.begins c.model-model.result c.deref.result.now c.model-model.ensures.model
      (c.deref.ensures.value ∙ c.in_ok-leaves.ensures.value) c.deref-c-items.result.now
      (c.deref-c-items.ensures.value ∙ c.in_ok-undefined.ensures);
}

pub cell_with-requires : goal.cell_with-requires
cell_with-requires g c =
    let fits : FitsSigned w128 c.first_number-v.result = search rules in
    number_fits g.N.Num.ops c.args.program.now c.args.values.now c.first_number-v.result _ c.deref-c-items.result.now
    c.loop-c.c-index c.c-item.result c.requires.values c.first_number-v.ensures
    (to_z-of_z w128 c.first_number-v.result fits) c.loop-c-test.true c.c-item.is c.loop-c.invariant.numbers

pub loop-c-preserved : goal.loop-c-preserved
loop-c-preserved g c =
    let fits : FitsSigned w128 c.first_number-v.result = search rules in
    record {
      rest = cell_turn g.N.Num.ops c.args.program.now c.args.values.now c.first_number-v.result _
          c.deref-c-items.result.now c.loop-c.out.items c.push.new.out.items
          (c.args.out.now.items ++ map (begun g.N.Num.ops (program_view c.args.program.now)) c.deref-c-items.result.now)
          c.loop-c.c-index c.c-item.result
          c.in_ok-cell_with.field-0 c.requires.values c.first_number-v.ensures
          (to_z-of_z w128 c.first_number-v.result fits) c.loop-c-test.true c.c-item.is c.in_ok-cell_with.ensures
          c.in_ok-push.ensures c.loop-c.invariant.rest;
      numbers = numbers_left g.N.Num.ops c.args.program.now c.deref-c-items.result.now c.loop-c.c-index c.c-item.result
          c.loop-c-test.true c.c-item.is c.loop-c.invariant.numbers;
    }

pub returns : goal.returns
returns g c =
    block_ends g.N.Num.ops c.args.program.now c.args.number (block_view c.args.block.now) c.requires.block
    c.requires.begins c.model-model.result c.deref.result.now c.model-model.ensures.model
    (c.deref.ensures.value ∙ c.in_ok-leaves.ensures.value) c.deref-c-items.result.now c.loop-c.out.items
    c.args.out.now.items c.loop-c.c-index (c.deref-c-items.ensures.value ∙ c.in_ok-undefined.ensures)
    c.loop-c-test.false c.loop-c.invariant.rest
