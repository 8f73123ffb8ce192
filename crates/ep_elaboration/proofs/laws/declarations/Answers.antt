use Rattle.ep_elaboration.proofs.GivenOrder.{means_declaration, meant_declaration, refused_declaration}
use Rattle.ep_elaboration.proofs.GivenOrder.{offended_declaration}
use Rattle.ep_elaboration.proofs.laws.declarations.Goals as goal

pub returns : goal.returns
returns c0 = λ G global c d. record {
  means = means_declaration G global c d;
  meant = λ x h. meant_declaration h;
  refused = refused_declaration G global c d;
  first = λ r h. offended_declaration h;
}
