-- What items of a text come to, and the first of two arms.
use Rattle.std.specs.Prelude.{◌≡◌, ℕ, List, Result, Ok}
use Rattle.ep_int.specs.declared.types.Model.{Model}
use Rattle.ep_ast.specs.declared.refusals.Refusal.{Refusal}
use Rattle.ep_ast.specs.Statement.{Function, Item}
use Rattle.ep_typing.specs.Env.{Env}
use Rattle.ep_typing.specs.Results.{◌>>=◌}
use Rattle.ep_elaboration.specs.Functions.{Defined}
use Rattle.ep_elaboration.specs.FunctionSteps.{functions_defined}
use Rattle.ep_elaboration.specs.Programs.{Sofar, begun}
use Rattle.ep_elaboration.specs.ProgramSteps.{items}

-- some items of a text come to this
abbrev pub IsBehind : Sofar → Type 0
IsBehind s = (m : Model) × (is : List Item) × (items (begun m) is ≡ Ok s)

-- an environment at file scope, behind some items
abbrev pub IsFileEnv : Env → Type 0
IsFileEnv G = (s : Sofar) × IsBehind s × (s.env ≡ G)

-- what the first arm comes to, with the scopes that stood before it
abbrev pub first_arm : Env → (defined : List ℕ) → List Function → Result (List Defined × Env) Refusal
first_arm G defined fs = do
  a ← functions_defined G defined fs
  Ok (a.0, record a.1 { scopes = G.scopes })
