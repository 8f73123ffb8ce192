-- Expressions that are whole statements, by what they do.
use Rattle.std.specs.Prelude.{ℕ, Bool, None, Result, Ok}
use Rattle.ep_ast.specs.declared.refusals.Refusal.{Refusal}
use Rattle.ep_ast.specs.Expression as source
use Rattle.ep_ast.specs.Mark.{equal}
use Rattle.ep_core.specs.Program as core
use Rattle.ep_stores.specs.Stores.{simply, updated_with}
use Rattle.ep_typing.specs.Results.{◌>>=◌, at}
use Rattle.ep_typing.specs.Env.{Env}
use Rattle.ep_typing.specs.Calls.{called_into}
use Rattle.ep_typing.specs.Operand.{value, value_of}
use Rattle.ep_typing.specs.Typing.{assigned_from, call_typed, one, operator_of, right_side, test, typed}

-- a value that goes nowhere
abbrev pub evaluated : Env → source.Expr → Result core.What Refusal
evaluated G e = do
  w ← test G e
  Ok (core.simple (core.eval w))

-- a call whose result goes nowhere
abbrev pub called_alone : Env → ℕ → source.Expr → source.Exprs → Result core.What Refusal
called_alone G l f es = do
  c ← call_typed G l f es
  Ok (called_into c None)

-- `=`
abbrev pub plain : Env → (may_call : Bool) → ℕ → (left right : source.Expr) → Result core.What Refusal
plain G may_call l a b = do
  x ← typed G a
  y ← right_side G may_call b
  at l (assigned_from G.types equal x x y)

-- an assignment with an operator, whose left side is read first
abbrev pub compounded : Env → ℕ → (mark : ℕ) → (left right : source.Expr) → Result core.What Refusal
compounded G l m a b = do
  x ← typed G a
  u ← at l (value_of G.types x)
  y ← typed G b
  at l (simply (updated_with G.types (operator_of m) x u y))

-- the same with 1 on the right
abbrev pub stepped : Env → ℕ → (mark : ℕ) → source.Expr → Result core.What Refusal
stepped G l m a = do
  x ← typed G a
  u ← at l (value_of G.types x)
  at l (simply (updated_with G.types (operator_of m) x u (value one)))
