use Rattle.ep_elaboration.proofs.WholeOrder.{means_whole_statement, meant_whole_statement}
use Rattle.ep_elaboration.proofs.WholeOrder.{refused_whole_statement, offended_whole_statement}
use Rattle.ep_elaboration.proofs.laws.whole_statements.Goals as goal

pub returns : goal.returns
returns c0 = λ G c e. record {
  means = means_whole_statement G c e;
  meant = λ x h. meant_whole_statement h;
  refused = refused_whole_statement G c e;
  first = λ r h. offended_whole_statement h;
}
