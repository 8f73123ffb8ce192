-- Tests, and the truths that are assumed, as the record of laws asks of them.
use Rattle.std.proofs.Common.{◌≡◌, true, [], Option, Some, None, refl, sym, ap, ◌∙◌, subst}
use Rattle.ep_int.specs.declared.types.Order.{Order}
use Rattle.ep_domain.specs.Domain.{Ops}
use Rattle.ep_cells.specs.States.{Known}
use Rattle.ep_core.specs.Program.{Program}
use Rattle.ep_core.specs.Exec.{State}
use Rattle.ep_core.specs.Runs.{Side, left, right}
use Rattle.ep_core.specs.WellFormed.{blocks_fit}
use Rattle.ep_equalities.specs.declared.pair.Mode.TheVariants as pair_mode
use Rattle.ep_pass.specs.States.{Tested, One}
use Rattle.ep_pass.specs.Laws.{Reaches, ReachesBeside, IsTruth, Truths, TruthAlone}
use Rattle.ep_evaluation.specs.Given.{alone}
use Rattle.ep_evaluation.specs.Evaluation.{test_taken, test_taken_by}
use Rattle.ep_evaluation.specs.Laws.{memory_of, IsState, IfKept, means, told_by}
use Rattle.ep_evaluation.specs.Laws.{TestsHold as AllTests}
use Rattle.ep_transfers.specs.Cells.{is_told_so, test_when_known, cell_ops}
use Rattle.ep_transfers.specs.Laws.{memories, StandsFor}
use Rattle.ep_transfers.specs.Statements.{TestsHold}
use Rattle.ep_transfers.proofs.Evaluated.{pair_of, kept_both, kept_beside, Alike, alike_beside}
use Rattle.ep_transfers.proofs.Whole.{told_so}

module _ {N : Type 0} (D : Ops N) (p : Program) (ord : Side → Order) (fit : blocks_fit p.types p.blocks ≡ true)
    (tests : AllTests D p ord) where
  reached : (o : Option (Known N)) (x y : State) → x.inputs ≡ y.inputs → x.outputs ≡ y.outputs
      → IfKept D p ord o (memories x.memory y.memory) → Reaches p (StandsFor D p ord) o x y
  reached None x y i o h = h
  reached (Some k) x y i o h = record {
    memories = record { state = h.state; holds = h.holds };
    inputs = i;
    outputs =
        o;
  }

  reached_beside : (i : Side) (o : Option (Known N)) (x y : State) → Alike D p ord x y
      → IfKept D p ord o (pair_of i x.memory y.memory) → ReachesBeside p (StandsFor D p ord) i o x y
  reached_beside left o x y a h = reached o x y a.inputs a.outputs h
  reached_beside right o x y a h = reached o y x (sym a.inputs) (sym a.outputs) h

  same_test : (k : Known N) → IsState D p ord k → (t : Tested) → test_when_known (is_told_so D p ord k) t ≡ t
  same_test k s t = ap (λ b. test_when_known b t) (told_so D p ord k s)

  -- what the operations tell of a test is what evaluation tells
  same_faults : (k : Known N) → IsState D p ord k → (t : Tested) → (test_when_known (is_told_so D p ord k) t).faults ≡
      []
      → t.faults ≡ []
  same_faults k s t q = sym (ap (λ (z : Tested). z.faults) (same_test k s t)) ∙ q

  alone_of : (i : Side) (x y : State) → memory_of i (pair_of i x.memory y.memory) ≡ x.memory
  alone_of left x y = refl
  alone_of right x y = refl

  pub tests_hold : TestsHold D p ord
  tests_hold = record {
    sound = λ e seen h k x y kept q.
        let i = kept_both D p ord k x y kept in
        let t = tests fit seen e h k (memories x.memory y.memory) i in
        subst (λ (z : Tested). Truths p ord e z.verdict x.memory y.memory)
        (sym (same_test k i.state (told_by D p ord e pair_mode.Both k)))
        (t.truths (same_faults k i.state (told_by D p ord e pair_mode.Both k) q));
    alone = λ s e seen h k x y kept q.
        let i = kept_beside D p ord s k x y kept in
        let t = tests fit seen e h k (pair_of s x.memory y.memory) i in
        subst (λ m. TruthAlone p (ord s) e ((cell_ops D p ord).test (One s) e k).verdict m) (alone_of s x y)
        (subst (λ (z : Tested). TruthAlone p (ord s) e z.verdict (memory_of s (pair_of s x.memory y.memory)))
        (sym (same_test k i.state (told_by D p ord e (alone s) k)))
        (t.truth_alone s (same_faults k i.state (told_by D p ord e (alone s) k) q)));
    assume_in = λ e seen h t u k x y kept q a b.
        let i = kept_both D p ord k x y kept in
        reached (test_taken D (means D p ord e) t u k) x y kept.stands.inputs kept.stands.outputs
        ((tests fit seen e h k (memories x.memory y.memory) i).assumed
        (same_faults k i.state (told_by D p ord e pair_mode.Both k) q) t u a b);
    assume_alone = λ s e seen h t k x y kept q a.
        let i = kept_beside D p ord s k x y kept in
        reached_beside s (test_taken_by D s (means D p ord e) t k) x y (alike_beside D p ord s k x y kept)
        ((tests fit seen e h k (pair_of s x.memory y.memory) i).assumed_alone s
        (same_faults k i.state (told_by D p ord e (alone s) k) q) t
        (subst (λ m. IsTruth p (ord s) e m t) (sym (alone_of s x y)) a));
  }
