-- A test has no fault, and just the truths that the machines have can be assumed of it.
use Rattle.std.proofs.Common.{◌≡◌, ◌⊎◌, inl, inr, ℕ, Bool, true, false, ◌||◌, not, List, [], Option, Some, None, refl}
use Rattle.std.proofs.Common.{sym, ap, ◌∙◌, subst}
use Rattle.ep_int.specs.declared.types.Order.{Order}
use Rattle.ep_int.specs.Memory.{Memory}
use Rattle.ep_int.proofs.Basics.{not_not}
use Rattle.ep_domain.specs.Domain.{Ops, Lawful}
use Rattle.ep_cells.specs.States.{Known}
use Rattle.ep_cells.specs.Meaning.{Memories}
use Rattle.ep_cell_ranges.proofs.Shareds.{has_one}
use Rattle.ep_core.specs.Program.{Expr, Program}
use Rattle.ep_core.specs.Exec.{State, value, is_true}
use Rattle.ep_core.specs.Runs.{Side, left, right}
use Rattle.ep_core.specs.WellFormed.{Sort, int_type_of, has_sort, is_tested, is_well_formed}
use Rattle.ep_core.specs.Typed.{scalar_of}
use Rattle.ep_core.proofs.Sorts.{tested_where}
use Rattle.ep_core.proofs.Operands.{sizes}
use Rattle.ep_equalities.specs.declared.pair.Mode.{Mode as PairMode}
use Rattle.ep_equalities.specs.declared.pair.Mode.TheVariants as pair_mode
use Rattle.ep_pass.specs.States.{Mode, Both, One, Tested}
use Rattle.ep_pass.specs.Laws.{IsTruth, Fits, GoesOn}
use Rattle.ep_evaluation.specs.Given.{alone, runs, on}
use Rattle.ep_evaluation.specs.Evaluation.{Means, expression, tested, unless, is_other, test_taken, test_taken_by}
use Rattle.ep_evaluation.specs.Narrowed.{then_with}
use Rattle.ep_evaluation.specs.Laws.{memory_of, Machine, sizes_of, IsState, Sound}
use Rattle.ep_evaluation.proofs.General.{reliable_none}
use Rattle.ep_evaluation.proofs.Tests.{runs_alone}
use Rattle.ep_evaluation.proofs.Taken.{not_only}
use Rattle.ep_evaluation.proofs.Short.{Truth, is, other, truth_of}
use Rattle.ep_evaluation.proofs.Gathered.{evaluation_laws, test_laws}
use Rattle.ep_transfers.specs.Cells.{mode_of, test_when_known, cell_ops}
use Rattle.ep_transfers.specs.Laws.{memories}
use Rattle.ep_transfers.proofs.Whole.{told_so}
use Rattle.ep_closed_laws.specs.Exactly.{IsThere, SeenFrom}
use Rattle.ep_closed_laws.specs.Closely.{ConcretisesOneTyped, ConcretisesOneBeside}
use Rattle.ep_singles.specs.Numbers.{KeepsSingles}
use Rattle.ep_single_states.specs.Laws.{ConcretisesOne}
use Rattle.ep_single_narrowed.specs.Laws.{IsKeptOne, IfKeptOne}
use Rattle.ep_single_narrowed.proofs.Cells.{then_one}
use Rattle.ep_single_given.specs.Laws.{FindAll}
use Rattle.ep_single_pairs.proofs.Pairs.{tests_go_on}
use Rattle.ep_single_runs.proofs.Steps.{kept_one, find_both}
use Rattle.ep_single_values.specs.Laws.{OneMeans}
use Rattle.ep_single_values.proofs.Assuming.{find_alone}
use Rattle.ep_single_values.proofs.Short.{none_then}
use Rattle.ep_single_values.proofs.Final.{values_are_one}
use Rattle.ep_single_tests.specs.Laws.{TestsKeepOne}

-- a test has one truth on a machine
one_truth : (p : Program) (o : Order) (e : Expr) (m : Memory) (t u : Bool) → IsTruth p o e m t → IsTruth p o e m u
    → t ≡ u
one_truth p o e m t u i j = sym i.is ∙ (ap is_true (has_one i.found j.found (sym i.has ∙ j.has)) ∙ j.is)

not_so : (t u : Bool) → u ≡ not t → t ≡ not u
not_so t u e = sym (ap not e ∙ not_not t)

module _ {N : Type 0} (D : Ops N) (law : Lawful D) (keeps : KeepsSingles D) (p : Program) (ord : Side → Order)
    (formed : is_well_formed p ≡ true) where
  unless_not : (b : Bool) (o : Option (Known N)) → b ≡ false → unless D b o ≡ o
  unless_not b o e = ap (λ b. unless D b o) e

  unless_none : (b : Bool) (o : Option (Known N)) → o ≡ None → unless D b o ≡ None
  unless_none true o e = refl
  unless_none false o e = e

  -- what is assumed stands for the two memories alone
  there : (m n : Memory) (o : Option (Known N)) → IfKeptOne D p ord o (memories m n)
      → IsThere (λ r. ConcretisesOne D p ord r m n) o
  there m n None h = absurd h
  there m n (Some k) h = record { state = h.kept.state; one = h.one }

  module _ (e : Expr) (seen : List ℕ) (h : is_tested p.types p.blocks seen e ≡ true) where
    abbrev means : Means N
    means = expression D (sizes_of p.blocks) e

    abbrev finds : Side → Machine
    finds s = value (ord s) p e

    sort : (x : Sort) × (has_sort p.types p.blocks seen e x ≡ true)
    sort = tested_where p.types p.blocks seen (int_type_of e) (has_sort p.types p.blocks seen e) h

    means_one : OneMeans D p ord finds means
    means_one = values_are_one D law p ord keeps (sizes p formed) seen e sort.0 sort.1

    sound : Sound D p ord (scalar_of sort.0) finds means
    sound = (evaluation_laws D law).expressions p ord (sizes p formed) seen e sort.0 sort.1

    told_test : (mode : Mode) (k : Known N) → IsState D p ord k
        → (cell_ops D p ord).test mode e k ≡ tested D (mode_of mode) (means.gives (mode_of mode) k)
    told_test mode k s =
        ap (λ b. test_when_known b (tested D (mode_of mode) (means.gives (mode_of mode) k))) (told_so D p ord k s)

    module _ (k : Known N) (m : Memories) (s : IsKeptOne D p ord k m) where
      goes_on : (mode : Mode) → FindAll (mode_of mode) finds m
          → (((cell_ops D p ord).test mode e k).faults ≡ []) × GoesOn ((cell_ops D p ord).test mode e k).verdict
      goes_on mode all =
          let g = means_one.gives k m s (mode_of mode) all in
          subst (λ (z : Tested). (z.faults ≡ []) × GoesOn z.verdict) (sym (told_test mode k s.kept.state))
          (tests_go_on D (mode_of mode) (means.gives (mode_of mode) k) g.quiet g.each)

      -- the other truth is not the only one
      may : (mode : PairMode) → FindAll mode finds m → (i : Side) → runs mode i ≡ true → (t : Bool)
          → IsTruth p (ord i) e (memory_of i m) t → is_other D (means.gives mode k) i t ≡ false
      may mode all i r t u =
          let g = means_one.gives k m s mode all in
          not_only D law p ord (scalar_of sort.0) (on (means.gives mode k).pair i).value u.found t
          ((sound.gives k m s.kept mode).held (reliable_none mode (means.gives mode k).faults g.quiet) i r u.found
          u.has).value u.is

      assumed : (i : Side) (t : Bool) → IsTruth p (ord i) e (memory_of i m) t
          → IfKeptOne D p ord (means.assumes i t k) m
      assumed i t u = means_one.assumes k m s i t u.found u.has u.is

      refused : (i : Side) (t a : Bool) → IsTruth p (ord i) e (memory_of i m) t → a ≡ not t
          → means.assumes i a k ≡ None
      refused i t a u q = means_one.refuses k m s i a u.found u.has (u.is ∙ not_so t a q)

      -- ---- one machine

      taken_alone : (i : Side) (t : Bool) → IsTruth p (ord i) e (memory_of i m) t
          → IfKeptOne D p ord (test_taken_by D i means t k) m
      taken_alone i t u =
          subst (λ o. IfKeptOne D p ord o m)
          (sym (unless_not (is_other D (means.gives (alone i) k) i t) (means.assumes i t k)
          (may (alone i) (find_alone finds m i u.found u.has) i (runs_alone i) t u)))
          (assumed i t u)

      none_alone : (i : Side) (t : Bool) → IsTruth p (ord i) e (memory_of i m) t
          → test_taken_by D i means (not t) k ≡ None
      none_alone i t u =
          unless_none (is_other D (means.gives (alone i) k) i (not t)) (means.assumes i (not t) k)
          (refused i t (not t) u refl)

      -- ---- both

      module _ (t v : Bool) (tl : IsTruth p (ord left) e (memory_of left m) t)
          (tr : IsTruth p (ord right) e (memory_of right m) v) where
        all : FindAll pair_mode.Both finds m
        all = find_both finds m tl.found tr.found tl.has tr.has

        neither : (is_other D (means.gives pair_mode.Both k) left t
            || is_other D (means.gives pair_mode.Both k) right v) ≡ false
        neither =
            ap (λ b. b || is_other D (means.gives pair_mode.Both k) right v) (may pair_mode.Both all left refl t tl)
            ∙ may pair_mode.Both all right refl v tr

        taken_both : IfKeptOne D p ord (test_taken D means t v k) m
        taken_both =
            subst (λ o. IfKeptOne D p ord o m)
            (sym (unless_not (is_other D (means.gives pair_mode.Both k) left t
            || is_other D (means.gives pair_mode.Both k) right v)
            (then_with (means.assumes left t k) (means.assumes right v)) neither))
            (then_one D law p ord m (means.assumes left t k) (means.assumes right v) (assumed left t tl)
            (λ j kj. means_one.assumes j m kj right v tr.found tr.has tr.is))

        right_refused : (a b : Bool) → b ≡ not v → Truth t a
            → then_with (means.assumes left a k) (means.assumes right b) ≡ None
        right_refused a b q (is i) =
            none_then D p ord m (means.assumes left a k) (means.assumes right b)
            (means_one.assumes k m s left a tl.found tl.has (tl.is ∙ sym i))
            (λ j kj. means_one.refuses j m kj right b tr.found tr.has (tr.is ∙ not_so v b q))
        right_refused a b q (other i) =
            ap (λ o. then_with o (means.assumes right b)) (refused left t a tl i)

        both_refused : (a b : Bool) → (a ≡ not t) ⊎ (b ≡ not v)
            → then_with (means.assumes left a k) (means.assumes right b) ≡ None
        both_refused a b (inl q) = ap (λ o. then_with o (means.assumes right b)) (refused left t a tl q)
        both_refused a b (inr q) = right_refused a b q (truth_of t a)

        none_both : (a b : Bool) → (a ≡ not t) ⊎ (b ≡ not v) → test_taken D means a b k ≡ None
        none_both a b q =
            unless_none (is_other D (means.gives pair_mode.Both k) left a
            || is_other D (means.gives pair_mode.Both k) right b)
            (then_with (means.assumes left a k) (means.assumes right b)) (both_refused a b q)

        -- what is told holds of the truths
        truths_fit : (means.gives pair_mode.Both k).faults ≡ []
            → Fits (tested D pair_mode.Both (means.gives pair_mode.Both k)).verdict t v
        truths_fit none =
            let r = ((test_laws D law).hold p ord (sizes p formed) seen e h k m s.kept).truths
            (tests_go_on D pair_mode.Both (means.gives pair_mode.Both k) none
            (means_one.gives k m s pair_mode.Both all).each).0 in
            subst (λ a. Fits (tested D pair_mode.Both (means.gives pair_mode.Both k)).verdict a v)
            (one_truth p (ord left) e m.left r.on_left t r.left_is tl)
            (subst (λ b. Fits (tested D pair_mode.Both (means.gives pair_mode.Both k)).verdict r.on_left b)
            (one_truth p (ord right) e m.right r.on_right v r.right_is tr) r.fits)

        test_fits : (((cell_ops D p ord).test Both e k).faults ≡ [])
            × Fits ((cell_ops D p ord).test Both e k).verdict t v
        test_fits = (
          (goes_on Both all).0,
          subst (λ (z : Tested). Fits z.verdict t v) (sym (told_test Both k s.kept.state))
              (truths_fit (means_one.gives k m s pair_mode.Both all).quiet),
        )

  -- ---- as the record of laws asks for them

  test_beside : (i : Side) (e : Expr) (seen : List ℕ) → is_tested p.types p.blocks seen e ≡ true → (t : Bool)
      (s : Known N) (x y : State) → SeenFrom (ConcretisesOneTyped p (ConcretisesOne D p ord)) i s x y
      → IsTruth p (ord i) e x.memory t
      → (((cell_ops D p ord).test (One i) e s).faults ≡ []) × GoesOn ((cell_ops D p ord).test (One i) e s).verdict
  test_beside left e seen h t s x y c u =
      goes_on e seen h s (memories x.memory y.memory) (kept_one D p ord s x y c) (One left)
      (find_alone (finds e seen h) (memories x.memory y.memory) left u.found u.has)
  test_beside right e seen h t s x y c u =
      goes_on e seen h s (memories y.memory x.memory) (kept_one D p ord s y x c) (One right)
      (find_alone (finds e seen h) (memories y.memory x.memory) right u.found u.has)

  assume_beside : (i : Side) (e : Expr) (seen : List ℕ) → is_tested p.types p.blocks seen e ≡ true → (t : Bool)
      (s : Known N) (x y : State) → SeenFrom (ConcretisesOneTyped p (ConcretisesOne D p ord)) i s x y
      → IsTruth p (ord i) e x.memory t
      → IsThere (λ r. ConcretisesOneBeside (ConcretisesOne D p ord) i r x.memory y.memory)
      ((cell_ops D p ord).assume_one i e t s)
      × ((cell_ops D p ord).assume_one i e (not t) s ≡ None)
  assume_beside left e seen h t s x y c u =
      let k = kept_one D p ord s x y c in (
        there x.memory y.memory (test_taken_by D left (means e seen h) t s)
            (taken_alone e seen h s (memories x.memory y.memory) k left t u),
        none_alone e seen h s (memories x.memory y.memory) k left t u,
      )
  assume_beside right e seen h t s x y c u =
      let k = kept_one D p ord s y x c in (
        there y.memory x.memory (test_taken_by D right (means e seen h) t s)
            (taken_alone e seen h s (memories y.memory x.memory) k right t u),
        none_alone e seen h s (memories y.memory x.memory) k right t u,
      )

  pub tests_keep_one : TestsKeepOne D p ord
  tests_keep_one = record {
    test_alone = test_beside;
    assume_alone = assume_beside;
    test_both = λ e seen h t v s x y c tl tr.
        test_fits e seen h s (memories x.memory y.memory) (kept_one D p ord s x y c) t v tl tr;
    assume_both = λ e seen h t v s x y c tl tr.
        (let k = kept_one D p ord s x y c in (
          there x.memory y.memory (test_taken D (means e seen h) t v s)
              (taken_both e seen h s (memories x.memory y.memory) k t v tl tr),
          none_both e seen h s (memories x.memory y.memory) k t v tl tr,
        ));
  }
