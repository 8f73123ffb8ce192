-- Statements in memory, seen as lines of the core.
use Rattle.std.proofs.Common.{◌≡◌, List, [], ◌∷◌, map, refl, ap}
use Rattle.ep_core.specs.declared.tree.Stmt.{Stmt}
use Rattle.ep_core.specs.Program as core
use Rattle.ep_core.specs.View.{stmts_view, what_view}
use Rattle.ep_elaboration.specs.Statements.{to_core}
use Rattle.ep_declared.specs.View.{line}

pub same_stmts : (ss : List Stmt) → stmts_view ss ≡ to_core (map line ss)
same_stmts [] = refl
same_stmts (s ∷ ss) = ap (core.more s.line (what_view s.what)) (same_stmts ss)
