-- Statements that leave the memory of a machine as it is, and those that take inputs (this project's rule).
use Rattle.std.specs.Prelude.{ℕ, IsTrue}
use Rattle.ep_int.specs.declared.types.IntType.{IntType}
use Rattle.ep_core.specs.Program.{Expr, Simple, nothing, eval, output, write_bytes}
use Rattle.ep_kinds.specs.InOut.{is_input}

-- `nothing`, what is evaluated alone, a value that is put out, bytes that are
pub data IsStill : Simple → Type 0 where
  still_nothing : IsStill nothing
  still_eval : (e : Expr) → IsStill (eval e)
  still_output : (t : IntType) (e : Expr) → IsStill (output t e)
  still_write : (e : Expr) (n : ℕ) → IsStill (write_bytes e n)

-- inputs, of which closed programs have none
abbrev pub TakesInputs : Simple → Type 0
TakesInputs w = IsTrue (is_input w)
