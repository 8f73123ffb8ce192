use Rattle.ep_elaboration.proofs.StatementOrder.{means_statement, meant_statement, refused_statement}
use Rattle.ep_elaboration.proofs.StatementOrder.{offended_statement}
use Rattle.ep_elaboration.proofs.laws.statements.Goals as goal

pub returns : goal.returns
returns c0 = λ G c i s. record {
  means = means_statement G c i s;
  meant = λ x h. meant_statement h;
  refused = refused_statement G c i s;
  first = λ r h. offended_statement h;
}
