use Rattle.std.proofs.Common.{List, Bor}
use Rattle.std.specs.Option.{option_map}
use Rattle.ep_layout.specs.declared.types.Leaf.{Leaf}
use Rattle.ep_transfer_places.specs.Room.{view}
use Rattle.ep_transfer_copies.proofs.Choosing.{rest_is, move_is}
use Rattle.ep_transfer_copies.proofs.copies.copy_moved.Goals as goal

pub returns-in-None : goal.returns-in-None
returns-in-None g c =
    rest_is g.N.Num.ops c.args.bytes c.args.state (option_map (λ (b : Bor (List Leaf)). b.now) c.args.leaves)
    c.copy_pieces.result (view c.args.to.now) (view c.args.from.now) c.one_move.result c.go_together.result
    c.one_move.ensures c.in-None.is c.go_together.ensures c.copy_pieces.ensures

pub returns-in-Some : goal.returns-in-Some
returns-in-Some g c =
    move_is g.N.Num.ops c.args.bytes c.args.state (option_map (λ (b : Bor (List Leaf)). b.now) c.args.leaves)
    c.moved_both.result (view c.args.to.now) (view c.args.from.now) c.one_move.result c.in-Some.m
    c.is_aggregate.result c.one_move.ensures c.in-Some.is c.is_aggregate.ensures c.moved_both.ensures
