-- Statements and initialisers that read or write a bit-field: a whole `=` with a bit-field on one side, and what it
-- does there (this project's rules, beside C11 6.5.16).
use Rattle.std.specs.Prelude.{ℕ, ◌==◌, Bool, if◌then◌else◌, Option, Some, None, Result, Ok, Err}
use Rattle.ep_ast.specs.Kind as kinds
use Rattle.ep_ast.specs.declared.refusals.Refusal.{Refusal}
use Rattle.ep_ast.specs.Mark as mark
use Rattle.ep_ast.specs.Expression as source
use Rattle.ep_layout.specs.Table.{Table}
use Rattle.ep_core.specs.Program as core
use Rattle.ep_bitfield.specs.declared.field.Field.{Field}
use Rattle.ep_bitfield.specs.Accesses.{reading, writing}
use Rattle.ep_typing.specs.Results.{◌>>=◌, at}
use Rattle.ep_typing.specs.Types.{int_type}
use Rattle.ep_typing.specs.declared.types.FieldRow.{FieldRow}
use Rattle.ep_typing.specs.Env.{Env}
use Rattle.ep_typing.specs.Operand.{Operand, fitted, value_of}
use Rattle.ep_typing.specs.Typing.{field_of, taken, typed}

abbrev pub part_of_unit : FieldRow → Field
part_of_unit f = record { t = f.t; used = f.used; width = f.width }

-- it goes into an object, on this line of the core, as a result of a call of its type does
unfoldable pub field_read : (line : ℕ) → core.Place × FieldRow → Operand → Result core.What ℕ
field_read l z x = do
  d ← taken x (int_type z.1.t)
  Ok (reading l z.0 (part_of_unit z.1) d)

-- it takes what an object of its type does; the value is cut to its width, so it isn't converted first
unfoldable pub field_written : Table → (line : ℕ) → core.Place × FieldRow → Operand → Result core.What ℕ
field_written t l z y = do
  v ← value_of t y
  e ← fitted (int_type z.1.t) v
  Ok (writing l z.0 (part_of_unit z.1) v.expr)

-- ---- statements

-- the left side first, where it is one
abbrev pub sides : Env → (line node : ℕ) → (left right : source.Expr)
    → (of_left of_right : Option (core.Place × FieldRow)) → Option (Result core.What Refusal)
sides G k l a b (Some z) w = Some (typed G b >>= (λ y. at l (field_written G.types k z y)))
sides G k l a b None (Some z) = Some (typed G a >>= (λ x. at l (field_read k z x)))
sides G k l a b None None = None

-- of a statement on this line
unfoldable pub field_statement : Env → (line : ℕ) → source.Expr → Option (Result core.What Refusal)
field_statement G k (source.assign l m a b) =
    if m == mark.equal then sides G k l a b (field_of G a) (field_of G b) else None
field_statement G k _ = None

-- ---- initialisers

-- not_constant: of a global (C11 6.7.9p4)
unfoldable pub field_given : (global : Bool) → (line : ℕ) → core.Place × FieldRow → Operand → Result core.What ℕ
field_given global l z x = do
  w ← field_read l z x
  if global then Err kinds.not_constant else Ok w
