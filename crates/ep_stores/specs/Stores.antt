-- Stores as whole statements.
use Rattle.std.specs.Prelude.{ℕ, Result, Ok, Err}
use Rattle.ep_core.specs.Program as core
use Rattle.ep_layout.specs.Table.{Table}
use Rattle.ep_typing.specs.declared.types.CType.{CType}
use Rattle.ep_typing.specs.Operand.{Operand, Value, place, value, value_of}
use Rattle.ep_typing.specs.Operators.{operated}
use Rattle.ep_typing.specs.Results.{◌>>=◌}
use Rattle.ep_typing.specs.Typing.{assigned, put}

-- what is done by a statement without statements in it
abbrev pub simply : Result core.Simple ℕ → Result core.What ℕ
simply (Ok w) = Ok (core.simple w)
simply (Err k) = Err k

-- an operand goes to an object
abbrev pub put_to : Table → core.Place → CType → Operand → Result core.Simple ℕ
put_to t p c y = value_of t y >>= put t (place p c) y

-- `l op= e`, where the value of l was read
abbrev pub updated_with : Table → (mark : ℕ) → Operand → (old : Value) → (right : Operand) → Result core.Simple ℕ
updated_with t m x u y = do
  v ← value_of t y
  w ← operated t m u v
  assigned t x (value w)
