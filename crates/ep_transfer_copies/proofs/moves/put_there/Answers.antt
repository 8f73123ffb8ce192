use Rattle.std.proofs.Common.{ap, ◌∙◌}
use Rattle.ep_cells.specs.States.{Known}
use Rattle.ep_cell_ranges.specs.Moves.{place_at}
use Rattle.ep_cell_ranges.specs.Ranges.{replaced}
use Rattle.ep_state_ranges.proofs.Takings.{new_move}
use Rattle.ep_transfer_copies.proofs.Moving.{new_there}
use Rattle.ep_transfer_copies.proofs.moves.put_there.Goals as goal

pub moved_to-requires : goal.moved_to-requires
moved_to-requires g c =
    new_move c.args.state.model (place_at c.args.side c.args.from c.args.bytes) c.args.to.1 c.args.state.cells
    c.args.cells.items c.requires.new c.requires.room

pub replace-requires : goal.replace-requires
replace-requires g c =
    let k = c.args.state in
    new_there k.model k.cells c.in_ok-moved.moved.items _ c.place_at.result
    (place_at c.args.side c.args.to c.args.bytes) c.place_at.ensures c.in_ok-moved.ensures
    (c.move_laws.ensures.new k (place_at c.args.side c.args.from c.args.bytes) c.args.to c.args.cells.items
    c.requires.room c.requires.new)

pub returns-clause-value : goal.returns-clause-value
returns-clause-value g c =
    let D = g.N.Num.ops in
    let k = c.args.state in
    let there = place_at c.args.side c.args.to c.args.bytes in
    c.in_ok-after.ensures.state ∙ ap (λ p. replaced D p c.in_ok-moved.moved.items k) c.place_at.ensures
    ∙ ap (λ xs. replaced D there xs k) c.in_ok-moved.ensures

pub returns-clause-model : goal.returns-clause-model
returns-clause-model g c =
    let k = c.args.state in
    ap (λ (j : Known _). j.model) c.in_ok-after.ensures.state
    ∙ c.replace_laws.ensures.model k c.place_at.result c.in_ok-moved.moved.items
