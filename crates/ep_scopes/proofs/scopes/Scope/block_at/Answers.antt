use Rattle.std.proofs.Common.{sym}
use Rattle.ep_scopes.proofs.ScopeLemmas.{block_here}
use Rattle.ep_scopes.proofs.scopes.Scope.block_at.Goals as goal

pub returns-in-Some : goal.returns-in-Some
returns-in-Some c =
    block_here c.args.self.now.names.entries c.args.place _ _ c.block_of.result (sym c.in-Some.ensures.entry) c.block_of.ensures
