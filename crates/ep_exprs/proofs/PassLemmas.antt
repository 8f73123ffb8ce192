-- An expression where nothing waits.
use Rattle.std.proofs.Common.{◌≡◌, ℕ, Bool, true, false, List, [], refl, ap, ◌∙◌, inl, inr, ◌⊎◌}
use Rattle.ep_ast.specs.Token.{Tok}
use Rattle.ep_ast.specs.Expression.{Expr}
use Rattle.ep_ast.specs.Grammar.{expr, cast}
use Rattle.ep_ast.specs.Reading.{Reads}
use Rattle.ep_expression_trees.specs.declared.kept.BoundedTree.{BoundedTree}
use Rattle.ep_exprs.specs.declared.frames.Frame.{Frame}
use Rattle.ep_exprs.specs.Look.{begins_cast, begins_assignment}
use Rattle.ep_exprs.specs.Pending.{wanted, Plain, Waits, begins, Value}
use Rattle.ep_exprs.specs.Parsed.{IsRead}
use Rattle.ep_exprs.proofs.PendingLemmas.{part_rule, plain_third, plain_cast, plain_other}

module _ (N : List ℕ → Bool) where
  plain_at : (b : Bool) (fs : List Frame) (xs ys : List Tok) (a : Expr) → begins_cast N xs ≡ b → Reads N cast xs a ys
      → begins_assignment ys ≡ false → Plain N fs xs
  plain_at true fs xs ys a e r n = plain_cast N fs xs e
  plain_at false fs xs ys a e r n = plain_other N fs xs ys a e r n

  -- where no assignment mark makes the first operand a place
  pub plain_here : (third : Bool) (fs : List Frame) (xs ys : List Tok) (a : Expr) → wanted fs ≡ part_rule third
      → Reads N cast xs a ys → (third ≡ true) ⊎ (begins_cast N xs ≡ true) ⊎ (begins_assignment ys ≡ false)
      → Plain N fs xs
  plain_here third fs xs ys a w r h = elim h [
    | inl k ↦ plain_third N fs xs (w ∙ ap part_rule k)
    | inr o ↦ elim o [ inl k ↦ plain_cast N fs xs k | inr k ↦ plain_at (begins_cast N xs) fs xs ys a refl r k ]
  ]

  whole_at : {xs ys : List Tok} (k : BoundedTree) (zs : List Tok) (v : Value N xs [] k zs) → Waits N xs [] ys → ys ≡ v.from
      → IsRead N expr xs k zs
  whole_at {xs = xs} k zs v begins e = record { tree = v.tree; shows = v.shows; reads = rw (← e) at v.reads }

  pub whole_read : (xs : List Tok) (k : BoundedTree) (zs : List Tok) → Value N xs [] k zs → IsRead N expr xs k zs
  whole_read xs k zs v = whole_at k zs v v.waits refl
