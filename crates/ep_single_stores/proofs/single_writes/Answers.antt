use Rattle.ep_single_stores.proofs.Writes.{writes_keep_one}
use Rattle.ep_single_stores.proofs.single_writes.Goals as goal

pub returns : goal.returns
returns g c keeps k m n one mode to w q r v x y = writes_keep_one g.N.Num.ops g.met.N.Num.laws keeps k m n one mode to w q
    r v x y
