use Rattle.std.proofs.Common.{◌∙◌, None, Some}
use Rattle.ep_scopes.proofs.FieldLemmas.{found_named}
use Rattle.ep_scopes.proofs.ScopeLemmas.{row_looks}
use Rattle.ep_scopes.proofs.fields.Fields.named.Goals as goal

pub returns-in-None : goal.returns-in-None
returns-in-None c = found_named c.args.aggregate c.args.self.now.all.entries None c.in-None.ensures.value c.args.name.now

pub returns-in-Some : goal.returns-in-Some
returns-in-Some c =
    c.copied.ensures ∙ c.get-in-Some.ensures.value ∙ row_looks c.args.name.now c.in-Some.names.now.rows.entries
    ∙ found_named c.args.aggregate c.args.self.now.all.entries (Some c.in-Some.names) c.in-Some.ensures.value c.args.name.now
