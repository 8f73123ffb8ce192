use Rattle.ep_bitslice.specs.declared.cell.Side.TheVariants.{Left}
use Rattle.ep_transfer_pieces.proofs.Holding.{none_reached, none_row, none_bytes}
use Rattle.ep_transfer_pieces.proofs.rows.settled.Goals as goal

pub returns-clause-value : goal.returns-clause-value
returns-clause-value g c =
    none_reached g.N.Num.ops c.args.state.model c.new-cells.result.items c.args.state c.new-cells.ensures.items

pub returns-clause-ready : goal.returns-clause-ready
returns-clause-ready g c = record {
  row = none_row c.args.state.model Left 0 0 c.new-cells.result.items c.new-cells.ensures.items;
  bytes = none_bytes c.args.state.model c.new-cells.result.items c.new-cells.ensures.items;
}
