-- Functions of sides that are alike are alike.
use Rattle.std.proofs.Common.{◌≡◌, ℕ, Bool, true, false, ◌&&◌, ◌||◌, not, List, Option, Some, None, refl, sym, ap}
use Rattle.std.proofs.Common.{◌∙◌, subst}
use Rattle.std.proofs.lemmas.Bool.{and_from, or_left}
use Rattle.ep_domain.specs.Domain.{Ops}
use Rattle.ep_cells.specs.States.{Known}
use Rattle.ep_core.specs.Runs.{left, right}
use Rattle.ep_equalities.specs.declared.pair.Mode.{Mode}
use Rattle.ep_equalities.specs.declared.pair.Mode.TheVariants.{Both}
use Rattle.ep_equalities.specs.declared.pair.Fault.{Fault}
use Rattle.ep_equalities.specs.declared.pair.SideValue.{SideValue}
use Rattle.ep_equalities.specs.Same.{is_same}
use Rattle.ep_evaluation.specs.Given.{Given, on, mode_by, mode_where, is_both}
use Rattle.ep_evaluation.specs.Operators.{may_be}
use Rattle.ep_evaluation.specs.Narrowed.{then_with}
use Rattle.ep_evaluation.specs.Evaluation.{Means, same, by_one, by_two, assumed, state_for, given_in, given_where, later}
use Rattle.ep_evaluation.specs.Evaluation.{later_side, later_same, short_side, short_given, chosen_side, chosen_given}
use Rattle.ep_tame_laws.specs.Tamely.{IfReached}
use Rattle.ep_tame_twins.specs.Twins.{IsTwin}

module _ {N : Type 0} (D : Ops N) where
  pub same_of : (x : Given N) → IsTwin x → same D x ≡ true
  same_of x t = or_left x.pair.equal _ t.equal

  pub one_twin : (g : SideValue N → SideValue N) (x : Given N) (fs : List Fault) → IsTwin x
      → IsTwin (by_one D g Both x fs)
  one_twin g x fs t = record { equal = same_of x t; alike = ap g t.alike }

  pub two_twin : (g : SideValue N → SideValue N → SideValue N) (x y : Given N) (fs : List Fault) → IsTwin x → IsTwin y
      → IsTwin (by_two D g Both x y fs)
  two_twin g x y fs t u = record {
    equal = and_from (same D x) (same D y) (same_of x t) (same_of y u);
    alike = ap (λ z. g z y.pair.left) t.alike ∙ ap (g x.pair.right) u.alike;
  }

  -- ---- an operand that is evaluated later

  abbrev pub IfGiven : (Given N → Type 0) → Option (Given N) → Type 0
  IfGiven Q None = Unit {0}
  IfGiven Q (Some y) = Q y

  pub later_alike : (y : Option (Given N)) → IfGiven IsTwin y → later_side D y left ≡ later_side D y right
  later_alike None t = refl
  later_alike (Some y) t = t.alike

  later_true : (y : Option (Given N)) → IfGiven IsTwin y → later_same D y ≡ true
  later_true None t = refl
  later_true (Some y) t = same_of y t

  pub short_twin : (r : Bool) (x : Given N) (y : Option (Given N)) → IsTwin x → IfGiven IsTwin y
      → IsTwin (short_given D r Both x y)
  short_twin r x y t u = record {
    equal = and_from (same D x) (later_same D y) (same_of x t) (later_true y u);
    alike =
        ap (λ z. short_side D r z (later_side D y left)) t.alike
        ∙ ap (short_side D r x.pair.right) (later_alike y u);
  }

  pub chosen_twin : (x : Given N) (y z : Option (Given N)) → IsTwin x → IfGiven IsTwin y → IfGiven IsTwin z
      → IsTwin (chosen_given D Both x y z)
  chosen_twin x y z t u v = record {
    equal = and_from (same D x) _ (same_of x t) (and_from (later_same D y) (later_same D z) (later_true y u)
        (later_true z v));
    alike =
        ap (λ s. chosen_side D s (later_side D z left)) (later_alike y u)
        ∙ ap (chosen_side D (later_side D y right)) (later_alike z v);
  }

  module _ (P : Known N → Type 0) (Q : Given N → Type 0) (a b : Means N)
      (assumes : (t : Bool) (k : Known N) → P k → IfReached P (assumed D a Both t k))
      (gives : (k : Known N) → P k → Q (b.gives Both k)) where
    in_reached : (o : Option (Known N)) → IfReached P o → IfGiven Q (given_in D b Both o)
    in_reached None h = tt
    in_reached (Some k) h = gives k h

    by_mode : (l r s t : Bool) (k : Known N) → P k → s ≡ true → l ≡ r
        → IfGiven Q (given_where D a b s t k (mode_by l r))
    by_mode true true true t k g e f = in_reached (assumed D a Both t k) (assumes t k g)
    by_mode true true false t k g e f = absurd cc
    by_mode false false s t k g e f = tt
    by_mode true false s t k g e f = absurd cc
    by_mode false true s t k g e f = absurd cc

    pub later_given : (t : Bool) (k : Known N) (x : Given N) → P k → IsTwin x → IfGiven Q (later D a b Both t k x)
    later_given t k x g twin =
        by_mode (may_be D x.pair.left.value t) (may_be D x.pair.right.value t) (same D x || not (is_both Both)) t k g
        (or_left (same D x) (not (is_both Both)) (same_of x twin))
        (ap (λ (z : SideValue N). may_be D z.value t) twin.alike)

  -- assuming on both sides
  pub both_reached : (P : Known N → Type 0) (a : Means N) (t : Bool) (k : Known N)
      → IfReached P (a.assumes left t k) → ((j : Known N) → P j → IfReached P (a.assumes right t j))
      → IfReached P (assumed D a Both t k)
  both_reached P a t k h i = at (a.assumes left t k) h
    where
      at : (o : Option (Known N)) → IfReached P o → IfReached P (then_with o (a.assumes right t))
      at None h = tt
      at (Some j) h = i j h

pub given_as : {N : Type 0} (D : Ops N) (Q R : Given N → Type 0) → ((y : Given N) → Q y → R y)
    → (o : Option (Given N)) → IfGiven D Q o → IfGiven D R o
given_as D Q R go None h = tt
given_as D Q R go (Some y) h = go y h
