use Rattle.std.proofs.Common.{refl, sym, ◌∙◌}
use Rattle.ep_transfer_pieces.proofs.Beside.{all_is, new_row}
use Rattle.ep_transfer_pieces.proofs.Holding.{row_go, one_model}
use Rattle.ep_transfer_pieces.proofs.rows.written.Goals as goal

pub replace-requires : goal.replace-requires
replace-requires g c =
    let r = c.requires in
    new_row c.args.now.state.model c.args.now.side c.args.now.block c.args.now.start c.args.now.bytes
    c.args.now.state.cells c.args.now.cells.items r.bytes r.row

pub write_each-requires : goal.write_each-requires
write_each-requires g c =
    row_go c.args.now.state.model c.args.now.side c.args.now.block c.args.now.start c.args.now.cells.items
    c.requires.row

pub returns-then-is_whole-clause-value : goal.returns-then-is_whole-clause-value
returns-then-is_whole-clause-value g c =
    let k = c.args.now.state in
    let r = c.requires in
    c.in_ok-after.ensures.state
    ∙ sym (all_is g.N.Num.ops c.split_laws.ensures c.more_split_laws.ensures c.replace_laws.ensures k.model
    c.args.now.side c.args.now.block c.args.now.cells.items k c.args.now.start c.args.now.bytes refl
    c.model.ensures.cells r.row r.bytes (c.if-is_whole.ensures.some refl) (c.if-is_whole.ensures.uncut refl))

pub returns-then-is_whole-clause-model : goal.returns-then-is_whole-clause-model
returns-then-is_whole-clause-model g c =
    one_model g.N.Num.ops c.replace_laws.ensures c.args.now.state c.in_ok-after.after.0 _ c.args.now.cells.items
    c.in_ok-after.ensures.state
