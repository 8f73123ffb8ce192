-- Where a step comes next, and where nothing is left to do.
use Rattle.std.specs.Prelude.{◌≡◌, ℕ, true, List, [], Option, Some, None}
use Rattle.std.specs.Borrow.{Bor}
use Rattle.ep_core.specs.declared.tree.Stmt.{Stmt}
use Rattle.ep_core.specs.Program.{scope}
use Rattle.ep_core.specs.View.{what_view, stmts_view}
use Rattle.ep_frames.specs.declared.frames.Frame.{Frame}
use Rattle.ep_frames.specs.declared.frames.Now.{Now}
use Rattle.ep_frames.specs.declared.frames.Now.TheVariants as now
use Rattle.ep_frames.specs.Stack.{takes_step}

-- a step comes next, or nothing is left to do
abbrev pub IsReady : List Frame → Now → Type 0
IsReady fs (now.List here ss) = ⊥
IsReady fs (now.Statement here s) = Unit {0}
IsReady fs (now.Turn r) = Unit {0}
IsReady fs (now.Reads x) = Unit {0}
IsReady fs (now.Writes x l) = Unit {0}
IsReady fs (now.Leave w) = fs ≡ []
IsReady fs now.Starve = Unit {0}
IsReady fs (now.Faulty l k) = Unit {0}

abbrev pub IsDue : Now → Type 0
IsDue (now.List here ss) = ⊥
IsDue (now.Statement here s) = Unit {0}
IsDue (now.Turn r) = Unit {0}
IsDue (now.Reads x) = Unit {0}
IsDue (now.Writes x l) = Unit {0}
IsDue (now.Leave w) = ⊥
IsDue now.Starve = ⊥
IsDue (now.Faulty l k) = ⊥

-- the parts of a scope, or of nothing where the statement takes a step
abbrev pub IsOpened : Stmt → Option (Bor (List ℕ) × Bor (List Stmt)) → Type 0
IsOpened s None = takes_step (what_view s.what) ≡ true
IsOpened s (Some x) = what_view s.what ≡ scope x.0.now (stmts_view x.1.now)
