-- What is left where a test has truths on both sides, by what each side leaves.
use Rattle.std.proofs.Common.{◌≡◌, Bool, true, false, ◌||◌, not, Option, None, sym, ap, ◌∙◌}
use Rattle.ep_domain.specs.Domain.{Ops}
use Rattle.ep_cells.specs.States.{Known}
use Rattle.ep_core.specs.Runs.{left, right}
use Rattle.ep_equalities.specs.declared.pair.Mode.TheVariants.{Both}
use Rattle.ep_equalities.specs.declared.pair.PairValue.{PairValue}
use Rattle.ep_evaluation.specs.Narrowed.{then_with}
use Rattle.ep_evaluation.specs.Operators.{is_only}
use Rattle.ep_evaluation.specs.Evaluation.{Means, unless, test_taken}

module _ {N : Type 0} (D : Ops N) (a : Means N) (t : Bool) (k : Known N) (x : PairValue N) where
  -- the left side can't have its truth
  pub never_taken : (u : Bool) (o : Option (Known N)) → x ≡ (a.gives Both k).pair
      → is_only D x.left.value (not t) ≡ true → o ≡ None → o ≡ test_taken D a t u k
  never_taken u o i h q =
      q ∙ sym (ap (λ b. unless D (b || is_only D (a.gives Both k).pair.right.value (not u))
      (then_with (a.assumes left t k) (a.assumes right u)))
      (sym (ap (λ y. is_only D y.left.value (not t)) i) ∙ h))

  pub taken_is : (u : Bool) (w : Bool) (f o r : Option (Known N)) → x ≡ (a.gives Both k).pair
      → is_only D x.left.value (not t) ≡ false → f ≡ a.assumes left t k
      → (w ≡ true → o ≡ then_with f (a.assumes right u))
      → r ≡ unless D (is_only D x.right.value (not u)) o → w ≡ true → r ≡ test_taken D a t u k
  taken_is u w f o r i h j l q g =
      q ∙ ap (unless D (is_only D x.right.value (not u))) (l g ∙ ap (λ f. then_with f (a.assumes right u)) j)
      ∙ ap (λ b. unless D (b || is_only D x.right.value (not u)) (then_with (a.assumes left t k) (a.assumes right u))) (sym h)
      ∙ ap (λ y. unless D (is_only D y.left.value (not t) || is_only D y.right.value (not u))
      (then_with (a.assumes left t k) (a.assumes right u))) i
