use Rattle.std.proofs.Common.{◌≡◌, ◌∙◌, ◌++◌, ◌∷◌, [], ℕ, List, ap, map, None}
use Rattle.ep_typing.specs.Env as rule
use Rattle.ep_scopes.specs.View.{named_field}
use Rattle.ep_scopes.proofs.ScopeLemmas.{row_added}
use Rattle.ep_scopes.proofs.fields.FieldNames.add.Goals as goal

pub returns : goal.returns
returns c =
    let h : rule.entry c.in_ok-text.text.items (map named_field c.args.self.now.rows.entries) ≡ None = rw c.in_ok-text.ensures.items c.requires in
    ap (map named_field) c.in_ok-insert.ensures.entries ∙ row_added c.in_ok-text.text c.args.row c.args.self.now.rows.entries h
    ∙ ap (λ (t : List ℕ). map named_field c.args.self.now.rows.entries ++ (t, c.args.row) ∷ []) c.in_ok-text.ensures.items
