-- The two ways of an assignment with a bit-field: one side is typed, then comes the statement.
use Rattle.std.specs.Prelude.{ℕ, Result}
use Rattle.ep_ast.specs.declared.refusals.Refusal.{Refusal}
use Rattle.ep_ast.specs.Expression as source
use Rattle.ep_core.specs.Program as core
use Rattle.ep_typing.specs.declared.types.FieldRow.{FieldRow}
use Rattle.ep_typing.specs.Results.{◌>>=◌, at}
use Rattle.ep_typing.specs.Env.{Env}
use Rattle.ep_typing.specs.Typing.{typed}
use Rattle.ep_elaboration.specs.FieldStatements.{field_read, field_written}

-- the right side's value goes into a bit-field
abbrev pub written_from : Env → (line node : ℕ) → core.Place × FieldRow → (right : source.Expr)
    → Result core.What Refusal
written_from G l k z e = typed G e >>= (λ y. at k (field_written G.types l z y))

-- a bit-field goes into what stands on the left
abbrev pub read_into : Env → (line node : ℕ) → (left : source.Expr) → core.Place × FieldRow → Result core.What Refusal
read_into G l k e z = typed G e >>= (λ x. at k (field_read l z x))
