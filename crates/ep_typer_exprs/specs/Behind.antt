-- What an expression means once its first operands have their meanings: the rest of its rule.
use Rattle.std.specs.Prelude.{ℕ, Result, Err}
use Rattle.ep_ast.specs.declared.refusals.Refusal.{Refusal}
use Rattle.ep_ast.specs.Kind as kinds
use Rattle.ep_ast.specs.Expression as source
use Rattle.ep_typing.specs.Results.{◌>>=◌, at}
use Rattle.ep_typing.specs.Env.{Env}
use Rattle.ep_typing.specs.Fields.{pointed_by}
use Rattle.ep_typing.specs.Operand.{Operand, Value, value_of}
use Rattle.ep_typing.specs.Parts.{indexable}
use Rattle.ep_typing.specs.Typing.{chosen_from, indexed_by, joined, read_first, typed}

-- an assignment inside an expression
abbrev pub assigned : Env → ℕ → (mark : ℕ) → (left : Operand) → (right : source.Expr) → Result Operand Refusal
assigned G l m x b = do
  old ← at l (read_first G.types m x)
  y ← typed G b
  at l (Err kinds.assignment_in_expression)

-- `? :` with its test and the part after `?`
abbrev pub chosen : Env → ℕ → (test : Value) → (yes : Operand) → (no : source.Expr) → Result Operand Refusal
chosen G l r x b = do
  u ← at l (value_of G.types x)
  y ← typed G b
  at l (chosen_from G.types r u y)

-- an operator with its left side
abbrev pub combined : Env → ℕ → (mark : ℕ) → (left : Operand) → (right : source.Expr) → Result Operand Refusal
combined G l m x b = do
  u ← at l (value_of G.types x)
  y ← typed G b
  at l (joined G.types m u y)

-- an element of what has elements
abbrev pub element : Env → ℕ → (whole : Operand) → (index : source.Expr) → Result Operand Refusal
element G l x b = do
  u ← at l (indexable G.types x)
  y ← typed G b
  at l (indexed_by G.types u y)

-- what an expression points to
abbrev pub reached : Env → ℕ → (pointer : source.Expr) → Result Operand Refusal
reached G l e = do
  x ← typed G e
  at l (pointed_by G x)
