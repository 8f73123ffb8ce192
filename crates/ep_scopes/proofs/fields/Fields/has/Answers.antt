use Rattle.std.proofs.Common.{◌∙◌}
use Rattle.ep_scopes.proofs.FieldLemmas.{is_there}
use Rattle.ep_scopes.proofs.fields.Fields.has.Goals as goal

pub returns : goal.returns
returns c = c.is_some.ensures ∙ is_there c.args.aggregate c.args.self.now.all.entries _ c.get.ensures.value
