use Rattle.std.proofs.Common.{Bool}
use Rattle.ep_evaluation.specs.Given.{alone, cells_of}
use Rattle.ep_transfers.specs.Places.{at_side}
use Rattle.ep_transfer_places.specs.Room.{view}
use Rattle.ep_transfer_pieces.specs.Pieces.{side_of}
use Rattle.ep_transfer_pieces.specs.Puts.{FitPuts}
use Rattle.ep_transfer_pieces.proofs.Turns.{IsPlan}
use Rattle.ep_transfer_pieces.proofs.Walking.{IsAt}
use Rattle.ep_transfer_pieces.proofs.pieces.puts_alone.Given as goal

abbrev pub invariant-loop-o : goal.invariant-loop-o
invariant-loop-o g l = record {
  plan : (joint : Bool) → IsPlan g.N.Num.ops l.state (view l.from) l.leaves joint (alone (side_of l.on)) l.bytes l.o
      l.puts.items;
  fits : FitPuts l.state.model l.bytes l.puts.items;
  at : IsAt g.N.Num.ops l.state (cells_of (side_of l.on)) (at_side (view l.from) (side_of l.on)) l.leaves l.o l.walk;
}
