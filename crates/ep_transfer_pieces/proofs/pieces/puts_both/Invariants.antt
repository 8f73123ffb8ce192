use Rattle.ep_core.specs.Runs.{left, right}
use Rattle.ep_equalities.specs.declared.pair.Mode.TheVariants.{Both}
use Rattle.ep_evaluation.specs.Given.{cells_of}
use Rattle.ep_transfer_places.specs.Room.{view}
use Rattle.ep_transfer_pieces.specs.Puts.{FitPuts}
use Rattle.ep_transfer_pieces.proofs.Turns.{IsPlan}
use Rattle.ep_transfer_pieces.proofs.Walking.{IsAt}
use Rattle.ep_transfer_pieces.proofs.pieces.puts_both.Given as goal

abbrev pub invariant-loop-o : goal.invariant-loop-o
invariant-loop-o g l = record {
  plan : IsPlan g.N.Num.ops l.state (view l.from) l.leaves l.joint Both l.bytes l.o l.puts.items;
  fits : FitPuts l.state.model l.bytes l.puts.items;
  left_at : IsAt g.N.Num.ops l.state (cells_of left) (view l.from).left l.leaves l.o l.left;
  right_at : IsAt g.N.Num.ops l.state (cells_of right) (view l.from).right l.leaves l.o l.right;
}
