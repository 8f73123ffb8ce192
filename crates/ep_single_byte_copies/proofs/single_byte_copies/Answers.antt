use Rattle.ep_single_byte_copies.proofs.Statements.{byte_copies_are_exact}
use Rattle.ep_single_byte_copies.proofs.single_byte_copies.Goals as goal

pub returns : goal.returns
returns g c = byte_copies_are_exact g.N.Num.ops g.met.N.Num.laws
