-- Statements behind scopes that are left.
use Rattle.std.specs.Prelude.{ℕ, List, Result, Ok}
use Rattle.ep_ast.specs.declared.refusals.Refusal.{Refusal}
use Rattle.ep_core.specs.Program.{What}
use Rattle.ep_typing.specs.Env.{Env}
use Rattle.ep_elaboration.specs.Declarations.{Line}
use Rattle.ep_elaboration.specs.Statements.{left, one_line}
pub use Rattle.ep_typer_lines.specs.View.{lines}

-- one statement, behind two scopes that are left
abbrev pub closed : Env → ℕ → What → Result (List Line × Env) Refusal
closed G l w = Ok (one_line l w, left (left G))
