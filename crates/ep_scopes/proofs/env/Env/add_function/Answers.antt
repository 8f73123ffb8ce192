use Rattle.std.proofs.Common.{◌≡◌, ◌∙◌, ◌∷◌, [], ◌++◌, ℕ, List, ap, None, bytes_eq, position}
use Rattle.ep_typing.specs.Env as rule
use Rattle.ep_scopes.specs.View as view
use Rattle.ep_scopes.proofs.ScopeLemmas.{function_added}
use Rattle.ep_scopes.proofs.env.Env.add_function.Goals as goal

pub returns-in-Ok-clause-grown : goal.returns-in-Ok-clause-grown
returns-in-Ok-clause-grown c =
    let G : rule.Env = view.env c.args.self.now in
    let h : position (λ (s : rule.Signature). bytes_eq c.in_ok-text.text.items s.name) G.functions ≡ None =
    rw c.in_ok-text.ensures c.requires in
    ap (λ (fs : List rule.Signature). record G { functions = fs })
    (function_added c.in_ok-text.text c.args.ty c.args.self.now.functions.entries _ h c.in-Ok.ensures.entries
    ∙ ap (λ (t : List ℕ). G.functions ++ record { name = t; params = c.args.ty.params.items; result = c.args.ty.result } ∷ [])
    c.in_ok-text.ensures)
