-- What is typed is fit to be evaluated.
use Rattle.std.proofs.Common.{◌≡◌, ℕ, [], ◌∷◌}
use Rattle.ep_core.specs.Program.{Expr, Place, Program}
use Rattle.ep_core.specs.WellFormed.{has_sort, int_type_of}
use Rattle.ep_core.proofs.Sorts.{tested_where}
use Rattle.ep_eval_fits.specs.Fitting.{ExprIsFit, PlaceIsFit}
use Rattle.ep_eval_fits.proofs.Fitting.{expr_is_fit, place_is_fit}
use Rattle.ep_eval_programs.specs.Typed.{IsExpr, IsPlace, IsTest}

module _ (p : Program) where
  pub expr_fit : (e : Expr) → IsExpr p e → ExprIsFit e
  expr_fit e h = expr_is_fit p.types p.blocks h.seen e h.sort h.has

  pub place_fit : (a : Place) → IsPlace p a → PlaceIsFit a
  place_fit a h = place_is_fit p.types p.blocks h.seen a h.ty h.has

  pub test_is : (e : Expr) → IsTest p e → IsExpr p e
  test_is e h =
      let s = tested_where p.types p.blocks h.seen (int_type_of e) (has_sort p.types p.blocks h.seen e) h.is in
      record { seen = h.seen; sort = s.0; has = s.1 }

  pub test_fit : (e : Expr) → IsTest p e → ExprIsFit e
  test_fit e h = expr_fit e (test_is e h)
