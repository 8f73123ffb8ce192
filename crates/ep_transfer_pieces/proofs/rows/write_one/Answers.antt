use Rattle.ep_transfer_pieces.proofs.Holding.{one_new, one_written, one_model}
use Rattle.ep_transfer_pieces.proofs.rows.write_one.Goals as goal

pub replace-requires : goal.replace-requires
replace-requires g c =
    one_new c.args.state.model c.model.result c.args.cell c.place_of-place.result c.args.state.cells
    c.in_ok-new.new.items c.model.ensures.value c.place_of-place.ensures c.in_ok-new.ensures c.requires

pub returns-clause-value : goal.returns-clause-value
returns-clause-value g c =
    one_written g.N.Num.ops c.args.state c.in_ok-after.after.0 c.model.result c.args.cell c.place_of-place.result
    c.in_ok-new.new.items c.in_ok-after.ensures.state c.model.ensures.value c.place_of-place.ensures
    c.in_ok-new.ensures

pub returns-clause-model : goal.returns-clause-model
returns-clause-model g c =
    one_model g.N.Num.ops c.replace_laws.ensures c.args.state c.in_ok-after.after.0 c.place_of-place.result
    c.in_ok-new.new.items c.in_ok-after.ensures.state
