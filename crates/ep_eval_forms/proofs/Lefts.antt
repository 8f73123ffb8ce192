-- What both operands of `&&` or `||` leave is of the same machines.
use Rattle.std.proofs.Common.{◌≡◌, ℕ, Bool, true, false, List, Option, sym, ap, ◌∙◌, subst}
use Rattle.ep_domain.specs.Domain.{Ops}
use Rattle.ep_cells.specs.States.{Known}
use Rattle.ep_core.specs.Program.{Expr, logical_and, logical_or, logical_not}
use Rattle.ep_core.specs.Runs.{Side}
use Rattle.ep_evaluation.specs.Narrowed.{then_with}
use Rattle.ep_evaluation.specs.Evaluation.{expression}
use Rattle.ep_eval_fits.specs.Likeness.{IfLike}
use Rattle.ep_eval_fits.proofs.Likeness.{assumes_like}

module _ {N : Type 0} (D : Ops N) (sizes : List ℕ) (a b : Expr) (s : Side) (k : Known N) where
  both_like : (t u : Bool) → IfLike k (then_with ((expression D sizes a).assumes s t k) ((expression D sizes b).assumes s u))
  both_like true true = assumes_like D sizes (logical_and a b) s true k
  both_like true false = assumes_like D sizes (logical_and a (logical_not b)) s true k
  both_like false false = assumes_like D sizes (logical_or a b) s false k
  both_like false true = assumes_like D sizes (logical_or a (logical_not b)) s false k

  -- what the first leaves
  pub first_like : (t : Bool) (o : Option (Known N)) → o ≡ (expression D sizes a).assumes s t k → IfLike k o
  first_like t o i = subst (IfLike k) (sym i) (assumes_like D sizes a s t k)

  module _ (t u w : Bool) (f o : Option (Known N)) where
    both_left : f ≡ (expression D sizes a).assumes s t k
        → (w ≡ true → o ≡ then_with f ((expression D sizes b).assumes s u)) → w ≡ true
        → o ≡ then_with ((expression D sizes a).assumes s t k) ((expression D sizes b).assumes s u)
    both_left i h g = h g ∙ ap (λ f. then_with f ((expression D sizes b).assumes s u)) i

    -- what both leave
    pub second_like : f ≡ (expression D sizes a).assumes s t k
        → (w ≡ true → o ≡ then_with f ((expression D sizes b).assumes s u)) → w ≡ true → IfLike k o
    second_like i h g = subst (IfLike k) (sym (both_left i h g)) (both_like t u)
