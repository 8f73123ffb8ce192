use Rattle.ep_single_places.proofs.Moves.{moves_are_one}
use Rattle.ep_single_places.proofs.Elements.{elements_are_one}
use Rattle.ep_single_places.proofs.single_moves.Goals as goal

pub returns-clause-moves : goal.returns-clause-moves
returns-clause-moves g c = moves_are_one g.N.Num.ops g.met.N.Num.laws

pub returns-clause-elements : goal.returns-clause-elements
returns-clause-elements g c bound unit u = elements_are_one g.N.Num.ops g.met.N.Num.laws unit u bound
