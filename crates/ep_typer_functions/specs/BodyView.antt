-- What the code keeps of functions with bodies, seen as what the definitions speak of.
use Rattle.std.specs.Prelude.{ℕ, Bool, true, if◌then◌else◌, List, [], ◌∷◌, ◌++◌, Result, Ok}
use Rattle.ep_ast.specs.declared.refusals.Refusal.{Refusal}
use Rattle.ep_ast.specs.Declaration.{Head}
use Rattle.ep_core.specs.View.{stmts_view}
use Rattle.ep_typing.specs.declared.types.CType.{CType}
use Rattle.ep_typing.specs.Results.{◌>>=◌, at}
use Rattle.ep_typing.specs.Types.{is_void}
use Rattle.ep_typing.specs.Env.{Env}
use Rattle.ep_elaboration.specs.Functions as rule
use Rattle.ep_elaboration.specs.Statements.{innermost, left}
use Rattle.ep_typer_functions.specs.declared.functions.Body.{Body}
use Rattle.ep_typer_functions.specs.declared.functions.Typed.{Typed}
use Rattle.ep_typer_functions.specs.View.{headed}

abbrev pub body : Body → rule.Body
body b = record { line = b.line; locals = b.locals.items; stmts = stmts_view b.stmts.items }

abbrev pub typed : Typed → rule.Typed
typed t = record { number = t.number; head = headed t.head; body = body t.body }

-- the type of a result, if there is one
abbrev pub result_of : CType → List CType
result_of c = if is_void c then [] else c ∷ []

-- A function's name comes into the scope round that of its parameters, and its own blocks behind those that are there.
abbrev pub named_outside : Env → (own : Bool) → (defined : List ℕ) → Head → rule.Headed → Result (ℕ × Env) Refusal
named_outside G own defined h r = do
  n ← at h.line (rule.function_declared (left G) defined true (rule.signature_of h r))
  Ok (n.0, rule.body_env (rule.blocks_if own n.1 (rule.results r ++ r.params)) (innermost G))
