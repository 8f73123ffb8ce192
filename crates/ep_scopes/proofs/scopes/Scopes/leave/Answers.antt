use Rattle.ep_scopes.proofs.ScopeLemmas.{left_is}
use Rattle.ep_scopes.proofs.scopes.Scopes.leave.Goals as goal

pub returns : goal.returns
returns c = left_is c.pop.result c.args.self.now.all c.pop.new.self c.pop.ensures.items c.pop.ensures.cases
