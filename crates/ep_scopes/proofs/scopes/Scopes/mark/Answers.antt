use Rattle.std.proofs.Common.{◌≡◌, ◌-◌, ◌∙◌, ap, length, Some, sym}
use Rattle.std.specs.Prelude.{slice_get}
use Rattle.ep_typing.specs.Env.{Scope}
use Rattle.ep_scopes.proofs.ScopeLemmas.{last_is}
use Rattle.ep_scopes.proofs.scopes.Scopes.mark.Goals as goal

pub returns-in-Some-clause-names : goal.returns-in-Some-clause-names
returns-in-Some-clause-names c =
    let h : slice_get c.args.self.now.all.items (length c.args.self.now.all.items - 1) ≡ Some c.in-Some.scope.now = rw (← c.deref.ensures.value) (sym c.in-Some.ensures.value) in
    c.mark.ensures.names ∙ ap (λ (s : Scope). length s.names) (sym (last_is c.args.self.now.all.items c.in-Some.scope.now h))

pub returns-in-Some-clause-tags : goal.returns-in-Some-clause-tags
returns-in-Some-clause-tags c =
    let h : slice_get c.args.self.now.all.items (length c.args.self.now.all.items - 1) ≡ Some c.in-Some.scope.now = rw (← c.deref.ensures.value) (sym c.in-Some.ensures.value) in
    c.mark.ensures.tags ∙ ap (λ (s : Scope). length s.tags) (sym (last_is c.args.self.now.all.items c.in-Some.scope.now h))
