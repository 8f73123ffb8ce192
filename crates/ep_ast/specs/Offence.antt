-- For which offence of syntax a source is refused: this project's kinds and their order.
use Rattle.std.specs.Prelude.{◌≡◌, ℕ, List, Some, None}
use Rattle.ep_ast.specs.Kind as kinds
use Rattle.ep_ast.specs.declared.refusals.Refusal.{Refusal}
use Rattle.ep_ast.specs.Token.{Tok}
use Rattle.ep_ast.specs.Statement.{Item}
use Rattle.ep_ast.specs.ProgramGrammar.{Programs}
use Rattle.ep_ast.specs.Depth.{brackets_past, too_deep}

abbrev pub refusal : (kind line : ℕ) → Refusal
refusal k l = record { kind = k; line = l; word = 0 }

-- The tokens offend so. Brackets come first, then what is no program at all, then what is too deep in a program. Of
-- what is no program no line is said here.
pub data Offends (ts : List Tok) : Refusal → Type 0 where
  too_many_brackets : {l : ℕ} → brackets_past 0 ts ≡ Some l → Offends ts (refusal kinds.nesting l)
  no_program : {l : ℕ} → brackets_past 0 ts ≡ None → ((is : List Item) → Programs ts is → ⊥)
      → Offends ts (refusal kinds.syntax l)
  too_deep_inside : {l : ℕ} {is : List Item} → brackets_past 0 ts ≡ None → Programs ts is → too_deep is ≡ Some l
      → Offends ts (refusal kinds.nesting l)
