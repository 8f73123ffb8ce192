-- What the functions of the parser answer.
use Rattle.std.specs.Prelude.{◌≡◌, ℕ, Bool, true, false, ◌⊎◌, List, Option, Some, None, Result, Ok, Err}
use Rattle.ep_ast.specs.declared.refusals.Halt.{Halt}
use Rattle.ep_ast.specs.declared.marks.Mark.{Mark}
use Rattle.ep_ast.specs.Mark.{mark_number}
use Rattle.ep_ast.specs.Token.{Tok}
use Rattle.ep_ast.specs.Expression.{Expr}
use Rattle.ep_ast.specs.Grammar.{Rule}
use Rattle.ep_ast.specs.Reading.{Reads, Halts}
use Rattle.ep_reading.specs.declared.reader.Part.{Part}
use Rattle.ep_reading.specs.Answer.{after}
use Rattle.ep_expression_trees.specs.declared.kept.BoundedTree.{BoundedTree}
use Rattle.ep_expression_trees.specs.BoundedTrees.{Shows}
use Rattle.ep_exprs.specs.Look.{begins_cast, begins_assignment, AtAssignment}

-- a tree is read, and this is kept of it
pub record IsRead (is_type : List ℕ → Bool) (r : Rule) (xs : List Tok) (k : BoundedTree) (ys : List Tok) : Type 0 where
  pub tree : Expr
  pub shows : Shows k tree
  pub reads : Reads is_type r xs tree ys

abbrev pub Keeps : (List ℕ → Bool) → Rule → List Tok → Result (Part BoundedTree) Halt → Type 0
Keeps is_type r xs (Ok p) = IsRead is_type r xs p.value (after p)
Keeps is_type r xs (Err e) = Halts is_type r xs e

-- The first operand at xs ends at ys. There an assignment mark makes it a place, but in the third part of a
-- conditional,
-- and behind a cast.
abbrev pub Assigned : (List ℕ → Bool) → Bool → List Tok → List Tok → Option (Part Mark) → Type 0
Assigned is_type third xs ys (Some p) =
    (l : ℕ) × (third ≡ false) × (begins_cast is_type xs ≡ false)
    × AtAssignment ys (Some (l, mark_number p.value, after p))
Assigned is_type third xs ys None = (third ≡ true) ⊎ (begins_cast is_type xs ≡ true) ⊎ (begins_assignment ys ≡ false)
