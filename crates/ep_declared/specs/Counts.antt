-- Bounds one after another.
use Rattle.std.specs.Prelude.{ℕ, Bool, true, false, List, [], ◌∷◌, ◌++◌, Option, Some, None, Result, Ok, Err}
use Rattle.ep_ast.specs.declared.refusals.Refusal.{Refusal}
use Rattle.ep_ast.specs.Expression.{Expr}
use Rattle.ep_typing.specs.Env.{Env}

-- counts before those that bounds come to
abbrev pub behind : List ℕ → Result (List ℕ × Env) Refusal → Result (List ℕ × Env) Refusal
behind done (Ok q) = Ok (done ++ q.0, q.1)
behind done (Err r) = Err r

-- there is a first bound, and it is left out
abbrev pub lacks_first : List (Option Expr) → Bool
lacks_first [] = false
lacks_first (None ∷ bs) = true
lacks_first (Some e ∷ bs) = false
