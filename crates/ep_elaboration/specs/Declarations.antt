-- Declarations of variables, at file scope, in blocks, and in the first part of a `for`: C11 6.7.
use Rattle.std.specs.Prelude.{ℕ, Bool, List, [], ◌∷◌, ◌++◌, map, Option, Some, None, unwrap_or, Result, Ok}
use Rattle.ep_ast.specs.declared.refusals.Refusal.{Refusal}
use Rattle.ep_ast.specs.Declaration as tree
use Rattle.ep_ast.specs.Declaration.{Init, Declaration, single, listed, to_specs}
use Rattle.ep_core.specs.Program as core
use Rattle.ep_typing.specs.declared.types.CType.{CType}
use Rattle.ep_typing.specs.Results.{◌>>=◌, at, on_statement}
use Rattle.ep_typing.specs.declared.types.FieldRow.{FieldRow}
use Rattle.ep_typing.specs.Env.{Env}
use Rattle.ep_typing.specs.Names.{mentioned}
use Rattle.ep_typing.specs.Typing.{field_of}
use Rattle.ep_elaboration.specs.Declarators.{Object, object_declared}
use Rattle.ep_elaboration.specs.Aggregates.{specs_declared}
use Rattle.ep_elaboration.specs.Given.{Given, cleared, count_listed, nothing_given, object_operand, one_given}
use Rattle.ep_elaboration.specs.Given.{value_given}
use Rattle.ep_elaboration.specs.FieldStatements.{field_given}

-- a statement of the core, at its line
abbrev pub Line : Type 0
Line = ℕ × core.What

-- what declarations come to: statements of a block, or first values of globals
pub record Made : Type 0 where
  pub lines : List Line
  pub values : List core.Init

abbrev pub lined : ℕ → Given → Made
lined l g = record { lines = map (λ w. (l, w)) g.statements; values = g.values }

abbrev pub both_made : Made → Made → Made
both_made a b = record { lines = a.lines ++ b.lines; values = a.values ++ b.values }

-- a bit-field as a whole initialiser, with what it mentions
abbrev pub by_field : Env → (global : Bool) → ℕ → Object → Option (core.Place × FieldRow)
    → Option (Result (Given × Env) Refusal)
by_field G global l x None = None
by_field G global l x (Some z) =
    Some (at l (field_given global l z (object_operand x)) >>= (λ w. Ok (one_given w, G)))

unfoldable pub initialised_by_field : Env → (global : Bool) → ℕ → Object → tree.Value
    → Option (Result (Given × Env) Refusal)
initialised_by_field G global l x (single e) = by_field (mentioned G e) global l x (field_of (mentioned G e) e)
initialised_by_field G global l x (listed k vs) = None

-- what an object begins as: a bit-field, or else a value, whose bit-fields are named on the line of the object's name
abbrev pub first_given : Env → (global may_call : Bool) → ℕ → Object → tree.Value → Result (Given × Env) Refusal
first_given G global may_call l x v =
    unwrap_or (initialised_by_field G global l x v) (on_statement l (value_given G global may_call l (Some x) v))

-- the first value of an object, if it has one
unfoldable pub initialised : Env → (global may_call : Bool) → ℕ → Object → Option tree.Value
    → Result (Given × Env) Refusal
initialised G global may_call l x None = Ok (nothing_given, G)
initialised G global may_call l x (Some v) = do
  r ← first_given G global may_call l x v
  Ok (cleared r.1.types x v r.0, r.1)

-- A variable is there from the end of its declarator on, so in its own initialiser too (C11 6.2.1p7). Its statements
-- are on the line of its name.
unfoldable pub variable_declared : Env → (global may_call : Bool) → CType → Init → Result (Made × Env) Refusal
variable_declared G global may_call c i = do
  r ← object_declared G global (count_listed i.value) c i.declarator
  q ← initialised r.1 global may_call i.declarator.line r.0 i.value
  Ok (lined i.declarator.line q.0, q.1)

unfoldable pub variables_declared : Env → (global may_call : Bool) → CType → List Init → Result (Made × Env) Refusal
variables_declared G global may_call c [] = Ok (record { lines = []; values = [] }, G)
variables_declared G global may_call c (i ∷ is) = do
  r ← variable_declared G global may_call c i
  q ← variables_declared r.1 global may_call c is
  Ok (both_made r.0 q.0, q.1)

unfoldable pub declaration : Env → (global may_call : Bool) → Declaration → Result (Made × Env) Refusal
declaration G global may_call d = do
  c ← specs_declared G [] [] (to_specs d.specs)
  variables_declared c.1 global may_call c.0 d.inits
