use Rattle.std.proofs.Common.{◌∙◌}
use Rattle.ep_scopes.proofs.ScopeLemmas.{function_at}
use Rattle.ep_scopes.proofs.env.Env.function_number.Goals as goal

pub returns : goal.returns
returns c = c.get_index_of.ensures.index ∙ function_at c.args.name.now c.args.self.now.functions.entries
