-- What operands give that are evaluated later.
use Rattle.std.proofs.Common.{◌≡◌, Bool, true, false, ◌||◌, not, List, ◌++◌, Option, None, Some, refl, sym, ap, ◌∙◌}
use Rattle.std.proofs.Common.{append_assoc}
use Rattle.ep_domain.specs.Domain.{Ops}
use Rattle.ep_cells.specs.States.{Known}
use Rattle.ep_core.specs.Runs.{Side, left, right}
use Rattle.ep_equalities.specs.declared.pair.Fault.{Fault}
use Rattle.ep_equalities.specs.declared.pair.Mode.{Mode}
use Rattle.ep_equalities.specs.declared.pair.Mode.TheVariants.{Both}
use Rattle.ep_equalities.specs.declared.pair.PairValue.{PairValue}
use Rattle.ep_evaluation.specs.Given.{Given, alone, on, is_both, mode_where}
use Rattle.ep_evaluation.specs.Operators.{may_be}
use Rattle.ep_evaluation.specs.Evaluation.{Means, given_where, later, later_faults, same, short_given}
use Rattle.ep_eval_sides.specs.Sides.{faultless, faultless_if}
use Rattle.ep_eval_parts.specs.Steps.{pair_if, given_later, given_second, state_where, LeadsOn}
use Rattle.ep_eval_forms.proofs.Arms.{short_pair}

module _ {N : Type 0} (D : Ops N) where
  -- in both modes alike: the state where the truth can be assumed, or the state at hand
  pub later_where : (a b : Means N) (stable t : Bool) (k : Known N) (r : Option Mode)
      → given_later D b r (state_where D a stable r t k) ≡ given_where D a b stable t k r
  later_where a b stable t k None = refl
  later_where a b stable t k (Some r) = refl

  one_where : (a b : Means N) (s : Side) (t u : Bool) (k : Known N) (x : Bool)
      → given_second D b s u (a.assumes s t k)
      ≡ given_where D a b (x || not (is_both (alone s))) t k (mode_where (alone s) (λ s. u))
  one_where a b left t true k true = refl
  one_where a b left t true k false = refl
  one_where a b left t false k x = refl
  one_where a b right t true k true = refl
  one_where a b right t true k false = refl
  one_where a b right t false k x = refl

  here : (s : Side) (f : Side → Bool) → mode_where (alone s) (λ r. f s) ≡ mode_where (alone s) f
  here left f = refl
  here right f = refl

  pub second_is_later : (a b : Means N) (s : Side) (t : Bool) (k : Known N) (x : Given N)
      → given_second D b s (may_be D (on x.pair s).value t) (a.assumes s t k) ≡ later D a b (alone s) t k x
  second_is_later a b s t k x =
      one_where a b s t (may_be D (on x.pair s).value t) k (same D x)
      ∙ ap (given_where D a b (same D x || not (is_both (alone s))) t k)
      (here s (λ r. may_be D (on x.pair r).value t))

  same_where : (b : Means N) (s : Side) (u : Bool) (o : Option (Known N))
      → given_later D b (mode_where (alone s) (λ r. u)) o ≡ given_second D b s u o
  same_where b left true o = refl
  same_where b left false o = refl
  same_where b right true o = refl
  same_where b right false o = refl

  -- the first operand of one side alone
  pub leads_alone : (a : Means N) (s : Side) (t : Bool) (k : Known N) (x : PairValue N) (r : Option Mode) (o : Option (Known N))
      → x ≡ (a.gives (alone s) k).pair → r ≡ mode_where (alone s) (λ s. may_be D (on x s).value t)
      → o ≡ a.assumes s t k → LeadsOn D a (alone s) t k r o
  leads_alone a s t k x r o i j h b =
      ap (λ o. given_later D b r o) h ∙ ap (λ r. given_later D b r (a.assumes s t k)) (j
      ∙ ap (λ x. mode_where (alone s) (λ s. may_be D (on x s).value t)) i
      ∙ sym (here s (λ r. may_be D (on (a.gives (alone s) k).pair r).value t)))
      ∙ same_where b s (may_be D (on (a.gives (alone s) k).pair s).value t) (a.assumes s t k)
      ∙ second_is_later a b s t k (a.gives (alone s) k)

  pub leads_both : (a : Means N) (stable t : Bool) (k : Known N) (x : PairValue N) (r : Option Mode) (o : Option (Known N))
      → x ≡ (a.gives Both k).pair → stable ≡ (same D (faultless x) || not (is_both Both))
      → r ≡ mode_where Both (λ s. may_be D (on x s).value t)
      → o ≡ state_where D a stable r t k → LeadsOn D a Both t k r o
  leads_both a stable t k x r o i g j h b =
      ap (λ o. given_later D b r o) h ∙ later_where a b stable t k r
      ∙ ap (λ c. given_where D a b c t k r) g ∙ ap (given_where D a b (same D (faultless x) || not (is_both Both)) t k) j
      ∙ ap (λ x. given_where D a b (same D (faultless x) || not (is_both Both)) t k
      (mode_where Both (λ s. may_be D (on x s).value t))) i

  -- `&&` and `||` on one side
  module _ (a b : Means N) (s : Side) (t : Bool) (k : Known N) (x : PairValue N) (runs : Bool) (o : Option (Known N)) where
    second_is : x ≡ (a.gives (alone s) k).pair → runs ≡ may_be D (on x s).value t → o ≡ a.assumes s t k
        → given_second D b s runs o ≡ later D a b (alone s) t k (a.gives (alone s) k)
    second_is i j h =
        ap (λ o. given_second D b s runs o) h
        ∙ ap (λ u. given_second D b s u (a.assumes s t k)) (j ∙ ap (λ x. may_be D (on x s).value t) i)
        ∙ second_is_later a b s t k (a.gives (alone s) k)

    pub short_alone : (y : Option (PairValue N)) (r : PairValue N) → x ≡ (a.gives (alone s) k).pair
        → runs ≡ may_be D (on x s).value t → o ≡ a.assumes s t k → y ≡ pair_if (given_second D b s runs o)
        → r ≡ (short_given D t (alone s) (faultless x) (faultless_if y)).pair
        → r ≡ (short_given D t (alone s) (a.gives (alone s) k) (later D a b (alone s) t k (a.gives (alone s) k))).pair
    short_alone y r i j h l q =
        q ∙ ap (λ y. (short_given D t (alone s) (faultless x) (faultless_if y)).pair) (l ∙ ap pair_if (second_is i j h))
        ∙ ap (λ x. (short_given D t (alone s) (faultless x)
        (faultless_if (pair_if (later D a b (alone s) t k (a.gives (alone s) k))))).pair) i
        ∙ short_pair D t (alone s) (a.gives (alone s) k) (later D a b (alone s) t k (a.gives (alone s) k))

    pub short_alone_faults : (old one two : List Fault) → x ≡ (a.gives (alone s) k).pair
        → runs ≡ may_be D (on x s).value t → o ≡ a.assumes s t k → one ≡ old ++ (a.gives (alone s) k).faults
        → two ≡ one ++ later_faults D (given_second D b s runs o)
        → two ≡ old ++ (short_given D t (alone s) (a.gives (alone s) k)
        (later D a b (alone s) t k (a.gives (alone s) k))).faults
    short_alone_faults old one two i j h p q =
        q ∙ ap (λ fs. fs ++ later_faults D (given_second D b s runs o)) p
        ∙ ap (λ g. (old ++ (a.gives (alone s) k).faults) ++ later_faults D g) (second_is i j h)
        ∙ append_assoc old (a.gives (alone s) k).faults (later_faults D (later D a b (alone s) t k (a.gives (alone s) k)))
