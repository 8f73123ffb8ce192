use Rattle.ep_elaboration.proofs.Paths.{enough, leads}
use Rattle.ep_elaboration.proofs.Labels.{recurs, ranked}
use Rattle.ep_elaboration.proofs.calls.recursion.Goals as goal

pub returns : goal.returns
returns c = record {
  all = λ cs n among f g l. (leads cs n f g, enough cs n among f g l);
  labels = recurs;
  ranks = ranked;
}
