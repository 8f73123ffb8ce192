use Rattle.std.proofs.Common.{◌≡◌, ◌∙◌, ◌++◌, ◌∷◌, [], ℕ, List, ap, map, None}
use Rattle.ep_typing.specs.Env as rule
use Rattle.ep_scopes.specs.View.{tag}
use Rattle.ep_scopes.proofs.ScopeLemmas.{row_added}
use Rattle.ep_scopes.proofs.scopes.Scope.add_tag.Goals as goal

pub returns-clause-tags : goal.returns-clause-tags
returns-clause-tags c =
    let h : rule.entry c.in_ok-text.text.items (map tag c.args.self.now.tags.entries) ≡ None = rw c.in_ok-text.ensures.items c.requires in
    ap (map tag) c.in_ok-insert.ensures.entries ∙ row_added c.in_ok-text.text c.args.number c.args.self.now.tags.entries h
    ∙ ap (λ (t : List ℕ). map tag c.args.self.now.tags.entries ++ (t, c.args.number) ∷ []) c.in_ok-text.ensures.items
