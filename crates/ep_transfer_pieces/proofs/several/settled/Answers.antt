use Rattle.std.proofs.Common.{refl}
use Rattle.ep_transfer_pieces.proofs.AtEach.{none_reached, none_ready}
use Rattle.ep_transfer_pieces.proofs.several.settled.Goals as goal

pub returns-clause-value : goal.returns-clause-value
returns-clause-value g c =
    none_reached g.N.Num.ops c.args.spots.now c.new-cells.result.items c.args.state c.new-cells.ensures.items

pub returns-clause-ready : goal.returns-clause-ready
returns-clause-ready g c = λ n. none_ready g.N.Num.ops n c.args.spots.now _ refl refl c.new-cells.ensures.items
