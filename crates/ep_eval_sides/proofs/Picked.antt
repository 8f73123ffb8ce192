-- What is had of two sides, as a function of the side.
use Rattle.std.proofs.Common.{◌≡◌, Bool, ap, sym, ◌∙◌, subst}
use Rattle.ep_core.specs.Runs.{Side, left, right}
use Rattle.ep_domain.specs.Domain.{Ops}
use Rattle.std.specs.Prelude.{Option}
use Rattle.ep_equalities.specs.declared.pair.Mode.{Mode}
use Rattle.ep_equalities.specs.declared.pair.Mode.TheVariants.{Both, Left, Right}
use Rattle.ep_equalities.specs.declared.pair.PairValue.{PairValue}
use Rattle.ep_equalities.specs.declared.pair.SideValue.{SideValue}
use Rattle.ep_evaluation.specs.Given.{Given, pair, nothing, pair_on}
use Rattle.ep_evaluation.specs.Evaluation.{chosen_side, later_side}
use Rattle.ep_eval_sides.specs.Sides.{pick}

both_picked : {N : Type 0} (x y u v : SideValue N) (b c : Bool) → x ≡ u → y ≡ v → b ≡ c → pair x y b ≡ pair u v c
both_picked x y u v b c i j k = ap (λ z. pair z y b) i ∙ ap (λ z. pair u z b) j ∙ ap (pair u v) k

pub picked : {N : Type 0} (m : Mode) (f : Side → SideValue N) (x y : SideValue N) (b c : Bool) (r : PairValue N) → x ≡ f left
    → y ≡ f right → b ≡ c → r ≡ pair_on m (pick x y) b → r ≡ pair_on m f c
picked Both f x y b c r i j k q = q ∙ both_picked x y (f left) (f right) b c i j k
picked Left f x y b c r i j k q = q ∙ ap (λ z. pair z nothing b) i ∙ ap (pair (f left) nothing) k
picked Right f x y b c r i j k q = q ∙ ap (λ z. pair nothing z b) j ∙ ap (pair nothing (f right)) k

pub chosen_step : {N : Type 0} (D : Ops N) (m : Mode) (y z : Option (Given N)) (b c : Bool)
    (yl yr zl zr l r : SideValue N) (p : PairValue N) → yl ≡ later_side D y left → yr ≡ later_side D y right
    → zl ≡ later_side D z left → zr ≡ later_side D z right → l ≡ chosen_side D yl zl → r ≡ chosen_side D yr zr
    → b ≡ c → p ≡ pair_on m (pick l r) b
    → p ≡ pair_on m (λ s. chosen_side D (later_side D y s) (later_side D z s)) c
chosen_step D m y z b c yl yr zl zr l r p e f g h i j k q =
    picked m (λ s. chosen_side D (later_side D y s) (later_side D z s)) l r b c p
    (i ∙ ap (λ u. chosen_side D u zl) e ∙ ap (λ u. chosen_side D (later_side D y left) u) g)
    (j ∙ ap (λ u. chosen_side D u zr) f ∙ ap (λ u. chosen_side D (later_side D y right) u) h) k q
