use Rattle.std.proofs.Common.{◌≡◌, ◌-◌, length, Some, sym}
use Rattle.std.specs.Prelude.{slice_get}
use Rattle.ep_scopes.proofs.ScopeLemmas.{last_is}
use Rattle.ep_scopes.proofs.scopes.Scopes.blocks_behind.Goals as goal

pub returns-in-Some : goal.returns-in-Some
returns-in-Some c =
    let h : slice_get c.args.self.now.all.items (length c.args.self.now.all.items - 1) ≡ Some c.in-Some.scope.now = rw (← c.deref.ensures.value) (sym c.in-Some.ensures.value) in
    rw (last_is c.args.self.now.all.items c.in-Some.scope.now h) c.blocks_behind.ensures
