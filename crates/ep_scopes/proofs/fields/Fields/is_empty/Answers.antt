use Rattle.ep_scopes.proofs.FieldLemmas.{no_entries, none_kept}
use Rattle.ep_scopes.proofs.fields.Fields.is_empty.Goals as goal

pub returns : goal.returns
returns c = (
  λ t. no_entries c.args.self.now.all.entries (c.is_empty.ensures.0 t),
  λ h. c.is_empty.ensures.1 (none_kept c.args.self.now.all.entries h),
)
