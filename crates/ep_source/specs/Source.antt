-- What a source means in a data model, from its bytes on, and for what it is refused: C11 5.1.1.2 and 6.9.
use Rattle.std.specs.Prelude.{◌≡◌, ℕ, List, None}
use Rattle.ep_int.specs.declared.types.Model.{Model}
use Rattle.ep_ast.specs.Kind as kinds
use Rattle.ep_ast.specs.declared.refusals.Refusal.{Refusal}
use Rattle.ep_ast.specs.Token.{Tok}
use Rattle.ep_ast.specs.Statement.{Item}
use Rattle.ep_ast.specs.Cut.{Spells, start}
use Rattle.ep_ast.specs.Cut as bytes
use Rattle.ep_ast.specs.Offence as tokens
use Rattle.ep_ast.specs.Depth.{brackets_past, too_deep}
use Rattle.ep_ast.specs.ProgramGrammar.{Programs}
use Rattle.ep_core.specs.Program.{Program}
use Rattle.ep_elaboration.specs.ProgramRules.{MeansProgram}
use Rattle.ep_elaboration.specs.ProgramOffences.{ProgramOffends}

-- The bytes spell a tree: they cut into tokens, and these are a program.
pub record SpellsTree (source : List ℕ) (tree : List Item) : Type 0 where
  pub tokens : List Tok
  pub cut : Spells source tokens
  pub derived : Programs tokens tree

-- They mean a core program.
pub record Means (m : Model) (source : List ℕ) (program : Program) : Type 0 where
  pub tree : List Item
  pub spells : SpellsTree source tree
  pub means : MeansProgram m tree program

-- They mean it within the limits: nothing in it stands too deep inside something else.
pub record MeansWithin (m : Model) (source : List ℕ) (program : Program) : Type 0 where
  pub tree : List Item
  pub spells : SpellsTree source tree
  pub shallow : brackets_past 0 spells.tokens ≡ None
  pub flat : too_deep tree ≡ None
  pub means : MeansProgram m tree program

-- They mean nothing within the limits.
abbrev pub MeansNothingWithin : Model → List ℕ → Type 0
MeansNothingWithin m source = (q : Program) → MeansWithin m source q → ⊥

-- They mean nothing, unless it is for what is too deep inside that they are refused: that is this project's limit.
abbrev pub MeansNothing : Model → List ℕ → Refusal → Type 0
MeansNothing m source r = (r.kind ≡ kinds.nesting → ⊥) → (q : Program) → Means m source q → ⊥

-- The first offence of three stages: how the bytes cut, what the tokens are, and what their tree means. A later stage
-- is come to where nothing offends in those before.
pub data Offends (m : Model) (source : List ℕ) : Refusal → Type 0 where
  in_bytes : {r : Refusal} → bytes.Offends start source r → Offends m source r
  in_tokens : {r : Refusal} (ts : List Tok) → Spells source ts → tokens.Offends ts r → Offends m source r
  in_program : {r : Refusal} (ts : List Tok) (tree : List Item) → Spells source ts
      → ((q : Refusal) → tokens.Offends ts q → ⊥) → Programs ts tree → ProgramOffends m tree r → Offends m source r
