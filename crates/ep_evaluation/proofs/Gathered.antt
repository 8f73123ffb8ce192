-- The laws, gathered.
use Rattle.std.proofs.Common.{◌≡◌, ℕ, ℤ, pos, Bool, true, false, ◌||◌, not, List, [], ◌∷◌, ◌++◌, append-nil, map}
use Rattle.ep_evaluation.proofs.Tests.{runs_alone}
use Rattle.std.proofs.Common.{Option, Some, None, is_some, refl, sym, ap, ◌∙◌, subst}
use Rattle.std.specs.Ordering.{int_eq}
use Rattle.std.proofs.lemmas.Bool.Decides.{Decides-int_eq}
use Rattle.ep_int.specs.declared.types.Order.{Order}
use Rattle.ep_int.specs.declared.types.Scalar.{Scalar}
use Rattle.ep_int.specs.declared.types.Scalar.TheVariants.{Pointer}
use Rattle.ep_int.specs.Arith.{compares, int_eq as is_equal}
use Rattle.ep_int.specs.Memory.{Value as Datum, int, has}
use Rattle.ep_domain.specs.Domain.{Ops, Lawful, IsSingle}
use Rattle.ep_pointers.specs.Value.{null_alone, one_target}
use Rattle.ep_cells.specs.declared.cell.Value.{Value}
use Rattle.ep_cells.specs.declared.cell.Value.TheVariants.{Num, Ptr}
use Rattle.ep_cells.specs.Reshare.{is_single}
use Rattle.ep_cells.specs.States.{Known}
use Rattle.ep_cells.specs.Meaning.{Memories, Allows, numbers_of}
use Rattle.ep_cells.proofs.Gathered.{of_joins}
use Rattle.ep_reads.proofs.Gathered.{of_reads}
use Rattle.ep_reads.proofs.Unified.{of_unification}
use Rattle.ep_core.specs.Program.{Expr, Program}
use Rattle.ep_core.specs.Exec.{is_true, value, address}
use Rattle.ep_core.specs.Runs.{Side, left, right}
use Rattle.ep_core.specs.Typed.{scalar_of}
use Rattle.ep_core.specs.WellFormed.{Sort, has_sort, blocks_fit, is_tested, int_type_of}
use Rattle.ep_core.proofs.Sorts.{tested_where}
use Rattle.ep_equalities.specs.declared.pair.Mode.{Mode}
use Rattle.ep_equalities.specs.declared.pair.Mode.TheVariants.{Both, Left, Right}
use Rattle.ep_equalities.specs.declared.pair.Fault.{Fault}
use Rattle.ep_equalities.specs.Pairs.{PairIn}
use Rattle.ep_pass.specs.Laws.{Truths, TruthAlone, Fits, GoesOn}
use Rattle.ep_evaluation.specs.Given.{Given, runs, on, alone, is_both, mode_where}
use Rattle.ep_evaluation.specs.Operators.{may_be, is_only, test_of}
use Rattle.ep_evaluation.specs.Narrowed.{then_with}
use Rattle.ep_evaluation.specs.Evaluation.{Means, same, later, later_faults, given_where, expression, place, is_none}
use Rattle.ep_evaluation.specs.Evaluation.{is_stuck, verdict_by, told, unless, is_other}
use Rattle.ep_evaluation.specs.Laws.{memory_of, Machine, IsState, IfState, IsKept, Holds, Sound, sizes_of}
use Rattle.ep_evaluation.specs.Laws.{HasFault, HasPair, AreOnly, TestHolds, TestStays, told_by, IsOnly}
use Rattle.ep_evaluation.specs.Laws.{only_number, only_null, only_place, OnlyLaws, EvaluationLaws, TestLaws}
use Rattle.ep_evaluation.proofs.General.{reliable_none}
use Rattle.ep_evaluation.proofs.Generic.{same_found}
use Rattle.ep_evaluation.proofs.Assuming.{then_state, zero_type}
use Rattle.ep_evaluation.proofs.Taken.{zero_from, taken_kept, taken_alone}
use Rattle.ep_evaluation.proofs.Final.{expression_sound, place_sound}

module _ {N : Type 0} (D : Ops N) (law : Lawful D) where
  none_told : (fs : List Fault) → map (told D) fs ≡ [] → fs ≡ []
  none_told [] e = refl
  none_told (f ∷ fs) e = absurd cc

  -- a value that is held is there
  value_there : (w : Scalar) (o : Option (Value N)) (v : Datum) → Allows D w o false (Some v)
      → is_none D (record { value = o; form = None }) ≡ false
  value_there w None v a = absurd (let e : Some v ≡ None = a in cc)
  value_there w (Some x) v a = refl

  module _ (p : Program) (ord : Side → Order) where
    missing : (w : Scalar) (f : Side → Machine) (k : Known N) (m : Memories) (gives : Mode → Given N)
        → (IsKept D p ord k m → (mode : Mode) → Holds D p ord w (λ s. f s (memory_of s m)) k m mode (gives mode))
        → HasFault D p ord k m gives
    missing w f k m gives holds kept mode s r none e =
        let h = holds kept mode in
        let v = h.found e s r in
        let i = (h.held (reliable_none mode (gives mode).faults e) s r v.0 v.1).value in
        let q : Some v.0 ≡ None = subst (λ o. Allows D w o false (Some v.0)) none i in cc

    paired_on : (w : Scalar) (f : Side → Machine) (k : Known N) (m : Memories) (mode : Mode) (x : Given N)
        → Holds D p ord w (λ s. f s (memory_of s m)) k m mode x → x.faults ≡ [] → (u v : Datum)
        → (runs mode left ≡ true → f left m.left ≡ has u) → (runs mode right ≡ true → f right m.right ≡ has v)
        → PairIn D (numbers_of k.orders m) mode w x.pair u v
    paired_on w f k m Both x h none u v i j = record {
      left = λ r. h.held none left r u (i refl);
      right = λ r. h.held none right r v (j refl);
      equal = λ r e. h.same refl none e u v (i refl) (j refl);
    }
    paired_on w f k m Left x h none u v i j = record {
      left = λ r. h.held (reliable_none Left x.faults none) left r u (i refl);
      right = λ r. absurd cc;
      equal = λ r e. absurd cc;
    }
    paired_on w f k m Right x h none u v i j = record {
      left = λ r. absurd cc;
      right = λ r. h.held (reliable_none Right x.faults none) right r v (j refl);
      equal = λ r e. absurd cc;
    }

    paired : (w : Scalar) (f : Side → Machine) (k : Known N) (m : Memories) (gives : Mode → Given N)
        → (IsKept D p ord k m → (mode : Mode) → Holds D p ord w (λ s. f s (memory_of s m)) k m mode (gives mode))
        → HasPair D p ord w f k m gives
    paired w f k m gives holds kept mode none u v i j = paired_on w f k m mode (gives mode)
        (holds kept mode) none u v i j

    -- ---- tests

    module _ (w : Scalar) (f : Side → Machine) (a : Means N) (sound : Sound D p ord w f a) (k : Known N) (m : Memories)
        (kept : IsKept D p ord k m) where
      there : (mode : Mode) → (a.gives mode k).faults ≡ [] → (s : Side) → runs mode s ≡ true
          → is_none D (on (a.gives mode k).pair s) ≡ false
      there mode e s r =
          let h = sound.gives k m kept mode in
          let v = h.found e s r in
          value_there w (on (a.gives mode k).pair s).value v.0
          (h.held (reliable_none mode (a.gives mode k).faults e) s r v.0 v.1).value

      both_there : (a.gives Both k).faults ≡ [] → is_stuck D Both (a.gives Both k).pair ≡ false
      both_there e = rw (there Both e left refl, there Both e right refl) refl

      one_there : (s : Side) → (a.gives (alone s) k).faults ≡ []
          → is_stuck D (alone s) (a.gives (alone s) k).pair ≡ false
      one_there left e = there Left e left refl
      one_there right e = there Right e right refl

      both_same : (u v : Datum) → (a.gives Both k).faults ≡ [] → f left (memory_of left m) ≡ has u
          → f right (memory_of right m) ≡ has v
          → (b : Bool) → (same D (a.gives Both k) || false) ≡ b → Fits (verdict_by D false b) (is_true u) (is_true v)
      both_same u v none eu ev false e = tt
      both_same u v none eu ev true e =
          ap is_true (same_found D law p ord w (λ s. f s (memory_of s m)) k m Both (a.gives Both k)
          (sound.gives k m kept Both) refl none
          (by (same D (a.gives Both k)) e) u v eu ev)
        where
          by : (b : Bool) → (b || false) ≡ true → b ≡ true
          by true e = refl
          by false e = absurd cc

      goes : (b : Bool) → GoesOn (verdict_by D false b)
      goes true = tt
      goes false = tt

    module _ (fit : blocks_fit p.types p.blocks ≡ true) (seen : List ℕ) (e : Expr)
        (typed : is_tested p.types p.blocks seen e ≡ true) where
      abbrev sort : (x : Sort) × (has_sort p.types p.blocks seen e x ≡ true)
      sort = tested_where p.types p.blocks seen (int_type_of e) (has_sort p.types p.blocks seen e) typed

      abbrev finds : Side → Machine
      finds s = value (ord s) p e

      abbrev means : Means N
      means = expression D (sizes_of p.blocks) e

      sound : Sound D p ord (scalar_of sort.0) finds means
      sound = expression_sound D law (of_reads D law) (of_unification D law)
          (of_joins D law) p ord fit seen e sort.0 sort.1

      module _ (k : Known N) (m : Memories) (kept : IsKept D p ord k m) where
        both_faultless : (told_by D p ord e Both k).faults ≡ [] → (means.gives Both k).faults ≡ []
        both_faultless none = none_told (means.gives Both k).faults none

        alone_faultless : (s : Side) → (told_by D p ord e (alone s) k).faults ≡ []
            → (means.gives (alone s) k).faults ≡ []
        alone_faultless s none = none_told (means.gives (alone s) k).faults none

        truths_of : (told_by D p ord e Both k).faults ≡ []
            → Truths p ord e (told_by D p ord e Both k).verdict m.left m.right
        truths_of none =
            let q = both_faultless none in
            let h = sound.gives k m kept Both in
            let u = h.found q left refl in
            let v = h.found q right refl in record {
              on_left = is_true u.0;
              on_right = is_true v.0;
              left_is = record { found = u.0; has = u.1; is = refl };
              right_is = record { found = v.0; has = v.1; is = refl };
              fits = subst (λ b. Fits (verdict_by D b (same D (means.gives Both k) || false)) (is_true u.0)
                  (is_true v.0))
                  (sym (both_there (scalar_of sort.0) finds means sound k m kept q))
                  (both_same (scalar_of sort.0) finds means sound k m kept u.0 v.0 q u.1 v.1
                  (same D (means.gives Both k) || false) refl);
            }

        truth_of : (s : Side) → (told_by D p ord e (alone s) k).faults ≡ []
            → TruthAlone p (ord s) e (told_by D p ord e (alone s) k).verdict (memory_of s m)
        truth_of s none =
            let q = alone_faultless s none in
            let v = (sound.gives k m kept (alone s)).found q s (runs_alone s) in record {
              truth = is_true v.0;
              is = record { found = v.0; has = v.1; is = refl };
              goes_on = subst (λ b.
                  GoesOn (verdict_by D b (same D (means.gives (alone s) k) || not (is_both (alone s)))))
                  (sym (one_there (scalar_of sort.0) finds means sound k m kept s q))
                  (goes (scalar_of sort.0) finds means sound k m kept
                  (same D (means.gives (alone s) k) || not (is_both (alone s))));
            }

        test_holds : TestHolds D p ord e k m
        test_holds = record {
          truths = truths_of;
          truth_alone = truth_of;
          assumed = λ none t u l r.
              taken_kept D law p ord (scalar_of sort.0) finds means sound k m kept
              (both_faultless none) t u l.found r.found l.has l.is r.has r.is;
          assumed_alone = λ s none t l.
              taken_alone D law p ord (scalar_of sort.0) finds means sound k m kept s
              (alone_faultless s none) t l.found l.has l.is;
        }

      module _ (k : Known N) (state : IsState D p ord k) where
        unless_state : (b : Bool) (o : Option (Known N)) → IfState D p ord o → IfState D p ord (unless D b o)
        unless_state true o h = tt
        unless_state false o h = h

        test_stays : TestStays D p ord e k
        test_stays = record {
          stays = λ t u.
              unless_state (is_other D (means.gives Both k) left t || is_other D (means.gives Both k) right u)
              (then_with (means.assumes left t k) (means.assumes right u))
              (then_state D law p ord (means.assumes left t k) (means.assumes right u) (sound.stays k state left t)
              (λ j i. sound.stays j i right u));
          stays_alone = λ s t.
              unless_state (is_other D (means.gives (alone s) k) s t) (means.assumes s t k) (sound.stays k state s t);
        }

  pub evaluation_laws : EvaluationLaws D
  evaluation_laws = record {
    expressions = λ p ord fit seen e x h.
        expression_sound D law (of_reads D law) (of_unification D law) (of_joins D law) p ord fit seen e x h;
    places = λ p ord fit seen a ty h.
        place_sound D law (of_reads D law) (of_unification D law) (of_joins D law) p ord fit seen a ty h;
    value_pairs = λ p ord fit seen e x h k m.
        (let s = expression_sound D law (of_reads D law) (of_unification D law) (of_joins D law) p ord fit seen e x h in
        paired p ord (scalar_of x) (λ s. value (ord s) p e) k m (λ mode.
        (expression D (sizes_of p.blocks) e).gives mode k)
        (λ kept mode. s.gives k m kept mode));
    place_pairs = λ p ord fit seen a ty h k m.
        (let s = place_sound D law (of_reads D law) (of_unification D law) (of_joins D law) p ord fit seen a ty h in
        paired p ord Pointer (λ s. address (ord s) p a) k m (λ mode. place D (sizes_of p.blocks) a mode k)
        (λ kept mode. s.gives k m kept mode));
    missing_values = λ p ord fit seen e x h k m.
        (let s = expression_sound D law (of_reads D law) (of_unification D law) (of_joins D law) p ord fit seen e x h in
        missing p ord (scalar_of x) (λ s. value (ord s) p e) k m (λ mode.
        (expression D (sizes_of p.blocks) e).gives mode k)
        (λ kept mode. s.gives k m kept mode));
    missing_places = λ p ord fit seen a ty h k m.
        (let s = place_sound D law (of_reads D law) (of_unification D law) (of_joins D law) p ord fit seen a ty h in
        missing p ord Pointer (λ s. address (ord s) p a) k m (λ mode. place D (sizes_of p.blocks) a mode k)
        (λ kept mode. s.gives k m kept mode));
  }

  pub test_laws : TestLaws D
  test_laws = record {
    hold = λ p ord fit seen e typed k m kept. test_holds p ord fit seen e typed k m kept;
    stay = λ p ord fit seen e typed k state. test_stays p ord fit seen e typed k state;
  }

  -- ---- values of one truth alone

  single_test : (n : N) (z : ℤ) → IsSingle D n z → is_single (D.range n) ≡ true
  single_test n z e = (Decides-int_eq (D.range n).0 (D.range n).1).1 (ap (λ (r : ℤ × ℤ). r.0) e
      ∙ sym (ap (λ (r : ℤ × ℤ). r.1) e))

  zero_test : (z : ℤ) (b : Bool) → is_equal z (pos 0) ≡ b → int_eq z (pos 0) ≡ b
  zero_test z true e = (Decides-int_eq z (pos 0)).1 (zero_from z e)
  zero_test z false e = by (int_eq z (pos 0)) refl
    where
      by : (b : Bool) → int_eq z (pos 0) ≡ b → b ≡ false
      by false i = refl
      by true i =
          absurd (let q : true ≡ false = sym (ap (λ x. is_equal x (pos 0)) ((Decides-int_eq z (pos 0)).0 i)) ∙ e in cc)

  number_only : (n : N) (z : ℤ) (t b : Bool) → IsSingle D n z → is_equal z (pos 0) ≡ b → not b ≡ t
      → is_only D (Some (Num n)) t ≡ true
  number_only n z true true i e q = absurd cc
  number_only n z true false i e q =
      rw (single_test n z i) (ap not (ap (λ (r : ℤ × ℤ). int_eq r.0 (pos 0)) i ∙ zero_test z false e))
  number_only n z false true i e q =
      rw (single_test n z i) (ap (λ (r : ℤ × ℤ). int_eq r.0 (pos 0)) i ∙ zero_test z true e)
  number_only n z false false i e q = absurd cc

  only_test : (o : Option (Value N)) (t : Bool) → IsOnly D t o → is_only D o t ≡ true
  only_test _ t (only_number n z i e) = number_only n z t (is_equal z (pos 0)) i refl e
  only_test _ t (only_null e) = subst (λ b. is_only D (Some (Ptr null_alone)) b ≡ true) (sym e) refl
  only_test _ t (only_place b n q i e) =
      subst (λ x. is_only D (Some (Ptr (one_target b n))) x ≡ true) (sym e) (single_test n q i)

  either_none : (a b : Bool) (o : Option (Known N)) → a ≡ true → unless D (a || b) o ≡ None
  either_none a b o e = rw e refl

  either_none_right : (a b : Bool) (o : Option (Known N)) → b ≡ true → unless D (a || b) o ≡ None
  either_none_right true b o e = refl
  either_none_right false b o e = rw e refl

  one_none : (a : Bool) (o : Option (Known N)) → a ≡ true → unless D a o ≡ None
  one_none a o e = rw e refl

  -- ---- what isn't evaluated

  opposite_test : (t : Bool) (z : ℤ) → is_true (int z) ≡ not t → compares (test_of t) z (pos 0) ≡ false
  opposite_test true z e = e
  opposite_test false z e = by (is_equal z (pos 0)) e
    where
      by : (b : Bool) → not b ≡ true → b ≡ false
      by true e = absurd cc
      by false e = refl

  never_of : (o : Option (Value N)) (t : Bool) → IsOnly D (not t) o → may_be D o t ≡ false
  never_of _ t (only_number n z i e) =
      ap is_some (law.filter_single (test_of t) n (D.single (pos 0)) z (pos 0) (opposite_test t z e) i
      (law.single_range (pos 0) zero_type))
  never_of _ true (only_null e) = refl
  never_of _ false (only_null e) = absurd cc
  never_of _ true (only_place b n q i e) = absurd cc
  never_of _ false (only_place b n q i e) = refl

  no_mode : (mode : Mode) (h : Side → Bool) → ((s : Side) → runs mode s ≡ true → h s ≡ false) → mode_where mode h ≡ None
  no_mode Both h i = rw (i left refl, i right refl) refl
  no_mode Left h i = rw (i left refl) refl
  no_mode Right h i = rw (i right refl) refl

  -- where the first is of the other truth alone
  skipped : (a b : Means N) (mode : Mode) (t : Bool) (k : Known N) (x : Given N) → AreOnly D mode (not t) x
      → later D a b mode t k x ≡ None
  skipped a b mode t k x h =
      ap (λ r. given_where D a b (same D x || not (is_both mode)) t k r)
      (no_mode mode (λ s. may_be D (on x.pair s).value t) (λ s r. never_of (on x.pair s).value t (h s r)))

  pub only_laws : OnlyLaws D
  only_laws = record {
    refused_left = λ a t u k i.
        either_none (is_other D (a.gives Both k) left t) (is_other D (a.gives Both k) right u)
        (then_with (a.assumes left t k) (a.assumes right u))
        (only_test (on (a.gives Both k).pair left).value (not t) i);
    refused_right = λ a t u k i.
        either_none_right (is_other D (a.gives Both k) left t) (is_other D (a.gives Both k) right u)
        (then_with (a.assumes left t k) (a.assumes right u))
        (only_test (on (a.gives Both k).pair right).value (not u) i);
    refused_alone = λ a s t k i.
        one_none (is_other D (a.gives (alone s) k) s t) (a.assumes s t k)
        (only_test (on (a.gives (alone s) k).pair s).value (not t) i);
    unevaluated_and = λ sizes a b mode k h.
        (let x = (expression D sizes a).gives mode k in
        ap (λ y. x.faults ++ later_faults D y) (skipped (expression D sizes a) (expression D sizes b) mode true k x h)
        ∙ append-nil x.faults);
    unevaluated_or = λ sizes a b mode k h.
        (let x = (expression D sizes a).gives mode k in
        ap (λ y. x.faults ++ later_faults D y) (skipped (expression D sizes a) (expression D sizes b) mode false k x h)
        ∙ append-nil x.faults);
    unevaluated_second = λ sizes e a b c mode k h.
        (let x = (expression D sizes e).gives mode k in
        let z = later D (expression D sizes e) (expression D sizes b) mode false k x in
        ap (λ y. x.faults ++ (later_faults D y ++ later_faults D z))
        (skipped (expression D sizes e) (expression D sizes a) mode true k x h
        ∙ sym (skipped (expression D sizes e) (expression D sizes c) mode true k x h)));
    unevaluated_third = λ sizes e a b c mode k h.
        (let x = (expression D sizes e).gives mode k in
        let y = later D (expression D sizes e) (expression D sizes a) mode true k x in
        ap (λ z. x.faults ++ (later_faults D y ++ later_faults D z))
        (skipped (expression D sizes e) (expression D sizes b) mode false k x h
        ∙ sym (skipped (expression D sizes e) (expression D sizes c) mode false k x h)));
  }
