use Rattle.ep_synthesis.proofs.Splitting.{beside_fits, bytes_beside}
use Rattle.ep_synthesis.proofs.split.split_parts.Goals as goal

pub byte_cells-requires-clause-form : goal.byte_cells-requires-clause-form
byte_cells-requires-clause-form g c =
    beside_fits c.args.x.now c.side_without.result c.form_beside-f.result c.requires.1 c.form_beside-f.ensures

pub returns : goal.returns
returns g c =
    bytes_beside g.N.Num.ops c.args.machines.model c.args.machines.orders c.args.side c.args.x.now c.order_on-o.result
    c.side_without.result c.form_beside-f.result _ c.order_on-o.ensures c.side_without.ensures c.form_beside-f.ensures
    c.in_ok-bytes.ensures
