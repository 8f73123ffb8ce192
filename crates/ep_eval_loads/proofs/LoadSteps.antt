-- What a load gives, of what both sides read.
use Rattle.std.proofs.Common.{◌≡◌, ◌≢◌, ℕ, Bool, ◌&&◌, List, [], ◌∷◌, ◌++◌, length, None, refl, ap, ◌∙◌, append_assoc}
use Rattle.ep_int.specs.declared.types.Scalar.{Scalar}
use Rattle.ep_alarms.specs.declared.types.AlarmKind.{AlarmKind}
use Rattle.ep_bitslice.specs.declared.cell.Side.{Side as CellSide}
use Rattle.ep_domain.specs.Domain.{Ops}
use Rattle.ep_cells.specs.States.{Known}
use Rattle.ep_core.specs.Runs.{Side, left, right}
use Rattle.ep_equalities.specs.declared.pair.Fault.{Fault}
use Rattle.ep_equalities.specs.declared.pair.Mode.{Mode}
use Rattle.ep_equalities.specs.declared.pair.Mode.TheVariants.{Both, Left, Right}
use Rattle.ep_equalities.specs.declared.pair.PairValue.{PairValue}
use Rattle.ep_equalities.specs.declared.pair.SideValue.{SideValue}
use Rattle.ep_cell_ranges.specs.Spots.{Spot}
use Rattle.ep_evaluation.specs.Given.{faults_on, shown_if}
use Rattle.ep_evaluation.specs.Accesses.{reads_of, form_of_reads}
use Rattle.ep_evaluation.specs.Evaluation.{load_shared, all_shared}
use Rattle.ep_eval_sides.specs.Sides.{pick}
use Rattle.ep_eval_loads.specs.Loads.{all_shared_by}

pub no_form : {N : Type 0} (D : Ops N) (k : Known N) (s : CellSide) (w : Scalar) (qs : List Spot) → length qs ≢ 1
    → None ≡ form_of_reads (reads_of D k s w qs)
no_form D k s w [] h = refl
no_form D k s w (q ∷ []) h = absurd (h refl)
no_form D k s w (q ∷ r ∷ qs) h = refl

pub side_is : {N : Type 0} (x y : SideValue N) → x.value ≡ y.value → x.form ≡ y.form → x ≡ y
side_is x y e f =
    ap (λ v. record { value = v; form = x.form }) e ∙ ap (λ g. record { value = y.value; form = g }) f

pub shared_is : {N : Type 0} (D : Ops N) (sizes : List ℕ) (m : Mode) (w : Scalar) (k : Known N) (x : PairValue N) (a b : Bool)
    → a ≡ load_shared D sizes w k x.left left → b ≡ load_shared D sizes w k x.right right
    → all_shared_by m a b ≡ all_shared D sizes m w k x
shared_is D sizes Both w k x a b e f = ap (λ t. t && b) e ∙ ap (λ t. load_shared D sizes w k x.left left && t) f
shared_is D sizes Left w k x a b e f = e
shared_is D sizes Right w k x a b e f = f

pub shown_is : (m : Mode) (q : AlarmKind) (f : Side → Bool) (a b : Bool) → a ≡ f left → b ≡ f right
    → faults_on m q (pick (shown_if a) (shown_if b)) ≡ faults_on m q (λ s. shown_if (f s))
shown_is Both q f a b e h =
    ap (λ t. faults_on Both q (pick (shown_if t) (shown_if b))) e ∙ ap (λ t. faults_on Both q (pick (shown_if (f left)) (shown_if t))) h
shown_is Left q f a b e h = ap (λ t. faults_on Left q (pick (shown_if t) (shown_if b))) e
shown_is Right q f a b e h = ap (λ t. faults_on Right q (pick (shown_if a) (shown_if t))) h

pub regroup : (old one two a b c d e u v : List Fault) → one ≡ old ++ (a ++ (b ++ c)) → two ≡ one ++ (d ++ e) → d ≡ u → e ≡ v
    → two ≡ old ++ (a ++ (b ++ (c ++ (u ++ v))))
regroup old one two a b c d e u v p q i j =
    q ∙ ap (λ xs. xs ++ (d ++ e)) p ∙ append_assoc old (a ++ (b ++ c)) (d ++ e)
    ∙ ap (λ xs. old ++ xs) (append_assoc a (b ++ c) (d ++ e) ∙ ap (λ xs. a ++ xs) (append_assoc b c (d ++ e)))
    ∙ ap (λ x. old ++ (a ++ (b ++ (c ++ (x ++ e))))) i ∙ ap (λ x. old ++ (a ++ (b ++ (c ++ (u ++ x))))) j
