use Rattle.ep_single_calls.proofs.Arguments.{arguments_alone, arguments_both}
use Rattle.ep_single_calls.proofs.Results.{result_alone, result_both}
use Rattle.ep_single_calls.proofs.single_calls.Goals as goal

pub returns : goal.returns
returns g c keeps p ord formed vals plcs = record {
  arguments_alone = arguments_alone g.N.Num.ops g.met.N.Num.laws keeps p ord formed vals;
  arguments_both = arguments_both g.N.Num.ops g.met.N.Num.laws keeps p ord formed vals;
  result_alone = λ m k f at. result_alone g.N.Num.ops g.met.N.Num.laws keeps p ord formed plcs k f at m;
  result_both = result_both g.N.Num.ops g.met.N.Num.laws keeps p ord formed plcs;
}
