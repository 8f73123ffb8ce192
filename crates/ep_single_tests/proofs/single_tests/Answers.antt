use Rattle.ep_single_tests.proofs.Tests.{tests_keep_one}
use Rattle.ep_single_tests.proofs.single_tests.Goals as goal

pub returns : goal.returns
returns g c keeps p ord formed = tests_keep_one g.N.Num.ops g.met.N.Num.laws keeps p ord formed
