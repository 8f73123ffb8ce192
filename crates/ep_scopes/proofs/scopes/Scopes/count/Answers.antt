use Rattle.std.proofs.Common.{◌∙◌, sym}
use Rattle.ep_scopes.proofs.MarkLemmas.{scopes_length}
use Rattle.ep_scopes.proofs.scopes.Scopes.count.Goals as goal

pub returns : goal.returns
returns c = c.len.ensures ∙ c.args.self.now.all.ok.0 ∙ sym (scopes_length c.args.self.now.all.items)
