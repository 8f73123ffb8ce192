use Rattle.std.proofs.Common.{◌≡◌, ◌∙◌, ◌++◌, ◌∷◌, [], ℕ, List, ap, map, None}
use Rattle.ep_typing.specs.Env as rule
use Rattle.ep_scopes.specs.View.{entry, meaning}
use Rattle.ep_scopes.proofs.ScopeLemmas.{name_added}
use Rattle.ep_scopes.proofs.scopes.Scope.add_name.Goals as goal

pub returns-clause-names : goal.returns-clause-names
returns-clause-names c =
    let h : rule.entry c.in_ok-text.text.items (map entry c.args.self.now.names.entries) ≡ None = rw c.in_ok-text.ensures.items c.requires in
    ap (map entry) c.in_ok-insert.ensures.entries ∙ name_added c.in_ok-text.text c.args.meaning c.args.self.now.names.entries h
    ∙ ap (λ (t : List ℕ). map entry c.args.self.now.names.entries ++ (t, meaning c.args.meaning) ∷ []) c.in_ok-text.ensures.items
