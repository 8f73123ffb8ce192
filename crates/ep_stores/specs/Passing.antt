-- Arguments one after another.
use Rattle.std.specs.Prelude.{ℕ, min, List, ◌++◌, Option, Some, None, Result, Ok, Err}
use Rattle.ep_core.specs.Program.{Expr}
use Rattle.ep_typing.specs.Calls.{Parameter, passed, surplus}
use Rattle.ep_typing.specs.Operand.{Value}

-- the lower one of two kinds, of which the first may be missing
abbrev pub lower : Option ℕ → ℕ → ℕ
lower None k = k
lower (Some j) k = min j k

-- an argument as its parameter asks, where it has one
abbrev pub passed_to : Option Parameter → Value → Result Expr ℕ
passed_to (Some p) v = passed p v
passed_to None v = surplus v

-- what the rest comes to behind arguments that were passed, of which the lowest kind may be wrong
abbrev pub after : Option ℕ → List Expr → Result (List Expr) ℕ → Result (List Expr) ℕ
after None done (Ok es) = Ok (done ++ es)
after None done (Err k) = Err k
after (Some j) done (Ok es) = Err j
after (Some j) done (Err k) = Err (min j k)
