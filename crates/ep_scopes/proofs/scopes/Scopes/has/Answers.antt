use Rattle.std.proofs.Common.{◌≡◌, ◌-◌, length, Some, ◌∙◌, sym, ap}
use Rattle.std.specs.Prelude.{slice_get, is_some}
use Rattle.ep_typing.specs.Env.{Scope, entry}
use Rattle.ep_scopes.proofs.ScopeLemmas.{last_is, there}
use Rattle.ep_scopes.proofs.scopes.Scopes.has.Goals as goal

pub returns-in-Some : goal.returns-in-Some
returns-in-Some c =
    let h : slice_get c.args.self.now.all.items (length c.args.self.now.all.items - 1) ≡ Some c.in-Some.scope.now = rw (← c.deref.ensures.value) (sym c.in-Some.ensures.value) in
    c.is_some.ensures ∙ there c.name.result ∙ ap is_some (c.name.ensures ∙ ap (λ (s : Scope). entry c.args.name.now s.names) (sym (last_is c.args.self.now.all.items c.in-Some.scope.now h)))
