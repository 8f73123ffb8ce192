use Rattle.ep_elaboration.proofs.ProgramOrder.{means_elaborated, meant_elaborated, refused_elaborated}
use Rattle.ep_elaboration.proofs.ProgramOrder.{offended_elaborated}
use Rattle.ep_elaboration.proofs.Meanings.{one_meaning, one_of_both, not_both}
use Rattle.ep_elaboration.proofs.laws.programs.Goals as goal

pub returns : goal.returns
returns c = record {
  rules = λ m is. record {
    means = means_elaborated m is;
    meant = λ p h. meant_elaborated h;
    refused = refused_elaborated m is;
    first = λ r h. offended_elaborated h;
  };
  one = one_meaning;
  either = one_of_both;
  never_both = not_both;
}
