use Rattle.std.proofs.Common.{◌∙◌, ap, map, sym}
use Rattle.std.proofs.lemmas.List.{take-map}
use Rattle.ep_scopes.specs.View.{aggregate_fields}
use Rattle.ep_scopes.proofs.fields.Fields.truncate.Goals as goal

pub returns : goal.returns
returns c =
    ap (map aggregate_fields) c.truncate.ensures.entries
    ∙ sym (take-map aggregate_fields c.args.count c.args.self.now.all.entries)
