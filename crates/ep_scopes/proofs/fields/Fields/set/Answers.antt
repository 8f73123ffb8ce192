use Rattle.std.proofs.Common.{map, ap, ◌∙◌}
use Rattle.ep_scopes.specs.View.{aggregate_fields}
use Rattle.ep_scopes.proofs.FieldLemmas.{fields_set}
use Rattle.ep_scopes.proofs.fields.Fields.set.Goals as goal

pub returns-in-Ok : goal.returns-in-Ok
returns-in-Ok c =
    ap (map aggregate_fields) c.in-Ok.ensures.entries ∙ fields_set c.args.aggregate c.args.names c.args.self.now.all.entries
