-- What was given of a part of a tree stays when the part is named otherwise.
use Rattle.std.proofs.Common.{◌≡◌, ℕ, Bool, List, Option, sym, subst}
use Rattle.ep_core.specs.declared.tree.Expr as tree
use Rattle.ep_core.specs.declared.tree.Place as part
use Rattle.ep_core.specs.View.{expr_view, place_view}
use Rattle.ep_core.specs.Runs.{Side}
use Rattle.ep_domain.specs.Domain.{Ops}
use Rattle.ep_cells.specs.States.{Known}
use Rattle.ep_equalities.specs.declared.pair.Fault.{Fault}
use Rattle.ep_equalities.specs.declared.pair.Mode.{Mode}
use Rattle.ep_equalities.specs.declared.pair.PairValue.{PairValue}
use Rattle.ep_evaluation.specs.Evaluation.{Means, expression, place}
use Rattle.ep_eval_parts.specs.declared.left.Assumed.{Assumed}
use Rattle.ep_eval_parts.specs.declared.left.Second.{Second}
use Rattle.ep_eval_parts.specs.declared.left.Wants.{Wants}
use Rattle.ep_eval_parts.specs.declared.modes.First.{First}
use Rattle.ep_eval_parts.specs.declared.operands.Operand.{Operand}
use Rattle.ep_eval_parts.specs.Steps.{given_later}
use Rattle.ep_eval_forms.specs.Results.{IsGiven, IsTested, IsOperand, IsFirst, IsLater, IsSecond}

module _ {N : Type 0} (D : Ops N) (sizes : List ℕ) where
  abbrev pub meant : tree.Expr → Means N
  meant e = expression D sizes (expr_view e)

  -- the operand behind a box
  pub given_part : {m : Mode} {k : Known N} {old new : List Fault} {r : PairValue N} {u v : tree.Expr} → u ≡ v
      → IsGiven (meant u).gives m k old new r → IsGiven (meant v).gives m k old new r
  given_part {m = m} {k = k} {old = old} {new = new} {r = r} e i = subst (λ u. IsGiven (meant u).gives m k old new r) e i

  pub place_part : {m : Mode} {k : Known N} {old new : List Fault} {r : PairValue N} {u v : part.Place} → u ≡ v
      → IsGiven (place D sizes (place_view u)) m k old new r → IsGiven (place D sizes (place_view v)) m k old new r
  place_part {m = m} {k = k} {old = old} {new = new} {r = r} e i =
      subst (λ u. IsGiven (place D sizes (place_view u)) m k old new r) e i

  pub tested_part : {s : Side} {k : Known N} {w : Wants} {old new : List Fault} {r : Assumed N} {u v : tree.Expr} → u ≡ v
      → IsTested (meant u) s k w old new r → IsTested (meant v) s k w old new r
  tested_part {s = s} {k = k} {w = w} {old = old} {new = new} {r = r} e i =
      subst (λ u. IsTested (meant u) s k w old new r) e i

  pub operand_part : {s : Side} {k : Known N} {old new : List Fault} {r : Operand N} {u v : tree.Expr} → u ≡ v
      → IsOperand (meant u) s k old new r → IsOperand (meant v) s k old new r
  operand_part {s = s} {k = k} {old = old} {new = new} {r = r} e i =
      subst (λ u. IsOperand (meant u) s k old new r) e i

  pub first_part : {m : Mode} {k : Known N} {w : Wants} {old new : List Fault} {r : First N} {u v : tree.Expr} → u ≡ v
      → IsFirst D (meant u) m k w old new r → IsFirst D (meant v) m k w old new r
  first_part {m = m} {k = k} {w = w} {old = old} {new = new} {r = r} e i =
      subst (λ u. IsFirst D (meant u) m k w old new r) e i

  pub later_part : (n : Option Mode) (o : Option (Known N)) {old new : List Fault} {r : Option (PairValue N)}
      {u v : tree.Expr} → u ≡ v → IsLater D (given_later D (meant u) n o) old new r
      → IsLater D (given_later D (meant v) n o) old new r
  later_part n o {old = old} {new = new} {r = r} e i =
      subst (λ u. IsLater D (given_later D (meant u) n o) old new r) e i

  pub second_part : {s : Side} {runs : Bool} {o : Option (Known N)} {k : Known N} {w : Wants} {old new : List Fault}
      {r : Second N} {u v : tree.Expr} → u ≡ v → IsSecond D (meant u) s runs o k w old new r
      → IsSecond D (meant v) s runs o k w old new r
  second_part {s = s} {runs = runs} {o = o} {k = k} {w = w} {old = old} {new = new} {r = r} e i =
      subst (λ u. IsSecond D (meant u) s runs o k w old new r) e i

  -- the whole, by its form
  pub given_whole : {m : Mode} {k : Known N} {old new : List Fault} {r : PairValue N} {e u : tree.Expr} → e ≡ u
      → IsGiven (meant u).gives m k old new r → IsGiven (meant e).gives m k old new r
  given_whole i = given_part (sym i)

  pub place_whole : {m : Mode} {k : Known N} {old new : List Fault} {r : PairValue N} {e u : part.Place} → e ≡ u
      → IsGiven (place D sizes (place_view u)) m k old new r → IsGiven (place D sizes (place_view e)) m k old new r
  place_whole i = place_part (sym i)

  pub tested_whole : {s : Side} {k : Known N} {w : Wants} {old new : List Fault} {r : Assumed N} {e u : tree.Expr} → e ≡ u
      → IsTested (meant u) s k w old new r → IsTested (meant e) s k w old new r
  tested_whole i = tested_part (sym i)

  pub operand_whole : {s : Side} {k : Known N} {old new : List Fault} {r : Operand N} {e u : tree.Expr} → e ≡ u
      → IsOperand (meant u) s k old new r → IsOperand (meant e) s k old new r
  operand_whole i = operand_part (sym i)
