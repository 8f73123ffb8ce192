use Rattle.ep_single_puts.proofs.Puts.{puts_keep_one}
use Rattle.ep_single_puts.proofs.single_puts.Goals as goal

pub returns : goal.returns
returns g c keeps p ord fit k m n kept mode w fa fv to v h a =
    puts_keep_one g.N.Num.ops g.met.N.Num.laws keeps p ord fit k m n kept mode w fa fv to v h a
