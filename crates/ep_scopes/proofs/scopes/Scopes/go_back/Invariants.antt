use Rattle.std.proofs.Common.{◌≡◌, List, length}
use Rattle.ep_typing.specs.Env.{Scope}
use Rattle.ep_scopes.specs.Comes.{ScopesCome}
use Rattle.ep_scopes.specs.View.{scopes}
use Rattle.ep_scopes.proofs.MarkLemmas.{OnTheWay}
use Rattle.ep_scopes.proofs.scopes.Scopes.go_back.Given as goal

abbrev pub invariant-loop : goal.invariant-loop
invariant-loop l =
    (ss : List Scope) → ScopesCome ss (scopes l.fn.self) → l.fn.count ≡ length ss
    → OnTheWay ss (scopes l.fn.self) (scopes l.self) l.fn.count l.counter
