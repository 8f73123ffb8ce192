-- Forms of values are as wide as types, and cells that are kept have the sorts of theirs.
use Rattle.std.proofs.Common.{◌≡◌, ℕ, Bool, true, false, cond, List, Option, None, Some, sym, subst}
use Rattle.std.specs.Prelude.{IfSome}
use Rattle.ep_int.specs.declared.types.IntType.{IntType}
use Rattle.ep_domain.specs.Domain.{Ops}
use Rattle.ep_cells.specs.declared.cell.Cell.{Cell}
use Rattle.ep_cells.specs.States.{Known, AreCells, IsOfSort}
use Rattle.ep_reads.specs.Laws.{ReadLaws}
use Rattle.ep_core.specs.Program.{Expr}
use Rattle.ep_core.specs.Runs.{Side}
use Rattle.ep_core.specs.WellFormed.{int_type_of}
use Rattle.ep_equalities.specs.declared.pair.Mode.{Mode}
use Rattle.ep_equalities.specs.declared.pair.PairValue.{PairValue}
use Rattle.ep_evaluation.specs.Given.{on}
use Rattle.ep_evaluation.specs.Narrowed.{has_range, if_kept}
use Rattle.ep_evaluation.specs.Evaluation.{expression}
use Rattle.ep_eval_sides.specs.Forms.{IsWideIf}
use Rattle.ep_eval_fits.specs.Fitting.{ExprIsFit}
use Rattle.ep_eval_fits.proofs.Wide.{expr_wide}

pub kept_sorted : {N : Type 0} (t : IntType) (c : Option (Cell N)) → IfSome c (λ c. IsOfSort c.what c.value)
    → IfSome (if_kept t c) (λ c. IsOfSort c.what c.value)
kept_sorted t None h = tt
kept_sorted t (Some c) h = split (has_range t c.what)
  where
    split : (b : Bool) → IfSome (cond b (Some c) None) (λ c. IsOfSort c.what c.value)
    split true = h
    split false = tt

module _ {N : Type 0} (D : Ops N) (laws : ReadLaws D) (sizes : List ℕ) (k : Known N) (cells : AreCells k.model k.cells) where
  pub wide : (e : Expr) → ExprIsFit e → (m : Mode) (x : PairValue N) → x ≡ ((expression D sizes e).gives m k).pair
      → (s : Side) (u : Option IntType) → u ≡ int_type_of e → IsWideIf u (on x s).form
  wide e h m x i s u j =
      subst (λ u. IsWideIf u (on x s).form) (sym j)
      (subst (λ y. IsWideIf (int_type_of e) (on y s).form) (sym i) (expr_wide D laws sizes k cells e h m s))
