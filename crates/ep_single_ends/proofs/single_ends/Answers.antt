use Rattle.ep_single_ends.proofs.Ends.{end_is_exact}
use Rattle.ep_single_ends.proofs.single_ends.Goals as goal

pub returns : goal.returns
returns g c p ord formed f at s x y h a b e = end_is_exact g.N.Num.ops g.met.N.Num.laws p ord f s x y h a b e
