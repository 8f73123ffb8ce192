use Rattle.ep_typing.proofs.Order.{means, meant, refused, first}
use Rattle.ep_typing.proofs.laws.expressions.Goals as goal

pub returns : goal.returns
returns c = record { means = means; meant = meant; refused = refused; first = first }
