-- The laws of statements, blocks and pairs of states, as the record of laws asks them.
use Rattle.std.proofs.Common.{◌≡◌, ℕ, true, List, [], Option, Some, None, slice_get, option_and_then, option_to_list}
use Rattle.ep_cell_ranges.proofs.Basics.{is_model-self}
use Rattle.std.proofs.Common.{refl, sym, ap, ◌∙◌, subst}
use Rattle.std.specs.List.{list_all}
use Rattle.std.proofs.lemmas.Bool.{and_parts}
use Rattle.ep_int.specs.declared.types.Order.{Order}
use Rattle.ep_int.specs.declared.types.Scalar.{Scalar}
use Rattle.ep_int.specs.Memory.{Memory, killed}
use Rattle.ep_domain.specs.Domain.{Ops}
use Rattle.ep_cells.specs.States.{Known}
use Rattle.ep_cells.specs.Laws.{JoinLaws, InclusionLaws, ReshareLaws}
use Rattle.ep_reads.specs.SplitLaws.{UnifyLaws}
use Rattle.ep_core.specs.Program.{Expr, Simple, nothing, eval, assign, input, output, returns, Function, Program}
use Rattle.ep_core.specs.Exec.{State, Way, Outcome, on, leaves, uncounted, does, received}
use Rattle.ep_core.specs.Runs.{Side, left, right}
use Rattle.ep_core.specs.WellFormed.{has_scalar, result_type, block_type, holds_scalar, result_fits, simple_fits}
use Rattle.ep_core.specs.WellFormed.{is_main, is_int_result, blocks_fit, is_well_formed}
use Rattle.ep_core.proofs.Operands.{fits_at}
use Rattle.ep_pass.specs.States.{Both, One, Transfer}
use Rattle.ep_pass.specs.Laws.{ConcretisesTyped, ConcretisesTypedBeside, ConcretisesBeside, Meets, meet, MeetsAlone, meet_alone}
use Rattle.ep_pass.specs.Pass.{way_of}
use Rattle.ep_evaluation.specs.Given.{alone}
use Rattle.ep_evaluation.specs.Laws.{IsState, ExpressionsHold, PlacesHold}
use Rattle.ep_cell_ranges.specs.Tests.{is_model}
use Rattle.ep_transfers.specs.Transfers.{Stepped, stepped, simple_step, entered}
use Rattle.ep_transfers.specs.Calls.{result_step}
use Rattle.ep_transfers.specs.Ends.{ended_faults}
use Rattle.ep_transfers.specs.Cells.{mode_of, told_of, when_known, is_told_so, entered_or_left}
use Rattle.ep_transfers.specs.Laws.{StandsFor, CellLaws}
use Rattle.ep_transfers.specs.Statements.{SimpleHolds, StatementsHold, ResultsHold, BlocksHold, PairsHold}
use Rattle.ep_transfers.proofs.Evaluated.{none_told}
use Rattle.ep_transfers.proofs.Stored.{eval_sound, eval_alone, assign_sound, assign_alone, output_sound}
use Rattle.ep_transfers.proofs.Stored.{output_alone, return_sound, return_alone}
use Rattle.ep_transfers.proofs.Inputs.{input_sound, input_alone}
use Rattle.ep_transfers.proofs.Results.{result_sound, result_alone}
use Rattle.ep_transfers.proofs.Ended.{ended_sound}
use Rattle.ep_transfers.proofs.Kills.{entered_both, entered_left, entered_right}
use Rattle.ep_transfers.proofs.Guarded.{unified_left, unified_right, joined_left, joined_right, widened_left}
use Rattle.ep_transfers.proofs.Guarded.{within_stands, reshared_stands, empty_stands, known_stands}

module _ {N : Type 0} (D : Ops N) (p : Program) (ord : Side → Order) where
  pub told_so : (k : Known N) → IsState D p ord k → is_told_so D p ord k ≡ true
  told_so k s = subst (λ d. is_model d p.types.model ≡ true) (sym s.model) (is_model-self p.types.model)

  -- what the record of operations gives of a step in such a state
  given : (k : Known N) → IsState D p ord k → (s : Stepped N) → told_of D (when_known (is_told_so D p ord k) s) ≡
      told_of D s
  given k i s = ap (λ t. told_of D (when_known t s)) (told_so k i)

  -- and so with its faults
  quiet : (k : Known N) → IsState D p ord k → (s : Stepped N) →
      (told_of D (when_known (is_told_so D p ord k) s)).faults ≡ [] → s.faults ≡ []
  quiet k i s q = none_told D s.faults (sym (ap (λ (g : Transfer (Known N)). g.faults) (given k i s)) ∙ q)

  pub both_by : (k : Known N) (i : IsState D p ord k) (s : Stepped N) (way : Way) (n m : ℕ) (a b : Outcome)
      → (s.faults ≡ [] → Meets p (StandsFor D p ord) way s.next n m a b)
      → (told_of D (when_known (is_told_so D p ord k) s)).faults ≡ []
      → Meets p (StandsFor D p ord) way (told_of D (when_known (is_told_so D p ord k) s)).next n m a b
  both_by k i s way n m a b go q =
      subst (λ (g : Transfer (Known N)). Meets p (StandsFor D p ord) way g.next n m a b) (sym (given k i s))
      (go (quiet k i s q))

  pub alone_by : (k : Known N) (i : IsState D p ord k) (j : Side) (s : Stepped N) (way : Way) (n : ℕ) (y : State)
      (a : Outcome)
      → (s.faults ≡ [] → MeetsAlone p (StandsFor D p ord) j way s.next n y a)
      → (told_of D (when_known (is_told_so D p ord k) s)).faults ≡ []
      → MeetsAlone p (StandsFor D p ord) j way (told_of D (when_known (is_told_so D p ord k) s)).next n y a
  alone_by k i j s way n y a go q =
      subst (λ (g : Transfer (Known N)). MeetsAlone p (StandsFor D p ord) j way g.next n y a) (sym (given k i s))
      (go (quiet k i s q))

  pub beside_state : (i : Side) (k : Known N) (x y : State) → ConcretisesTypedBeside p (StandsFor D p ord) i k x y → IsState D p
      ord k
  beside_state left k x y h = h.stands.memories.state
  beside_state right k x y h = h.stands.memories.state

  -- ---- statements, given what each does without a fault

  pub simple_holds : (w : Simple)
      → ((here : ℕ) (f : Function) → slice_get p.functions here ≡ Some f → (seen : List ℕ)
      → simple_fits p here (result_type p.blocks f.result) w seen ≡ true → (l n m : ℕ) (s : Known N) (x y : State)
      → ConcretisesTyped p (StandsFor D p ord) s x y → (simple_step D p (mode_of Both) f.result w s).faults ≡ []
      → Meets p (StandsFor D p ord) (way_of w) (simple_step D p (mode_of Both) f.result w s).next n m
      (does (ord left) p uncounted f.result w l n x) (does (ord right) p uncounted f.result w l m y))
      → ((i : Side) (here : ℕ) (f : Function) → slice_get p.functions here ≡ Some f → (seen : List ℕ)
      → simple_fits p here (result_type p.blocks f.result) w seen ≡ true → (l n : ℕ) (s : Known N) (x y : State)
      → ConcretisesTypedBeside p (StandsFor D p ord) i s x y → (simple_step D p (alone i) f.result w s).faults ≡ []
      → MeetsAlone p (StandsFor D p ord) i (way_of w) (simple_step D p (alone i) f.result w s).next n y
      (does (ord i) p uncounted f.result w l n x)) → SimpleHolds D p ord w
  simple_holds w both one = record {
    sound = λ here f e seen h l n m s x y kept q.
        both_by s kept.stands.memories.state (simple_step D p (mode_of Both) f.result w s) (way_of w) n m
        (does (ord left) p uncounted f.result w l n x) (does (ord right) p uncounted f.result w l m y)
        (both here f e seen h l n m s x y kept) q;
    alone = λ i here f e seen h l n s x y kept q.
        alone_by s (beside_state i s x y kept) i (simple_step D p (alone i) f.result w s) (way_of w) n y
        (does (ord i) p uncounted f.result w l n x) (one i here f e seen h l n s x y kept) q;
  }

  beside_stays : (i : Side) (way : Way) (n : ℕ) (k : Known N) (x y : State) → ConcretisesTypedBeside p (StandsFor D p ord) i k x y
      → MeetsAlone p (StandsFor D p ord) i way (Some k) n y (leaves way n x)
  beside_stays left way n k x y h = meet_alone h.stands
  beside_stays right way n k x y h = meet_alone h.stands

  -- ---- blocks and pairs

  module _ (fit : blocks_fit p.types p.blocks ≡ true) (laws : CellLaws D) where
    entered_both_stands : (bs : List ℕ) (s : Known N) (m k : Memory) → StandsFor D p ord s m k
        → StandsFor D p ord (entered_or_left D p ord Both bs s) (killed bs m) (killed bs k)
    entered_both_stands bs s m k h =
        known_stands D p ord (is_told_so D p ord s) (entered D p (mode_of Both) bs s) (killed bs m) (killed bs k)
        (entered_both D p ord fit laws.kills bs s m k h)

    entered_alone : (i : Side) (bs : List ℕ) (s : Known N) (m k : Memory) → ConcretisesBeside p (StandsFor D p ord) i s m k
        → ConcretisesBeside p (StandsFor D p ord) i (entered_or_left D p ord (One i) bs s) (killed bs m) k
    entered_alone left bs s m k h =
        known_stands D p ord (is_told_so D p ord s) (entered D p (alone left) bs s) (killed bs m) k
        (entered_left D p ord fit laws.kills bs s m k h)
    entered_alone right bs s m k h =
        known_stands D p ord (is_told_so D p ord s) (entered D p (alone right) bs s) k (killed bs m)
        (entered_right D p ord fit laws.kills bs s k m h)

    pub blocks_hold : BlocksHold D p ord
    blocks_hold = record {
      enter_in = λ bs s m k h. entered_both_stands bs s m k h;
      leave_in = λ bs s m k h. entered_both_stands bs s m k h;
      enter_alone = λ i bs s m k h. entered_alone i bs s m k h;
      leave_alone = λ i bs s m k h. entered_alone i bs s m k h;
    }

  pub pairs_hold : UnifyLaws D → JoinLaws D → InclusionLaws D → ReshareLaws D → PairsHold D p ord
  pairs_hold unify join within share = record {
    unified_left = λ s t m k h. unified_left D p ord unify s t m k h;
    unified_right = λ s t m k h. unified_right D p ord unify s t m k h;
    joined_left = λ s t m k h. joined_left D p ord join s t m k h;
    joined_right = λ s t m k h. joined_right D p ord join s t m k h;
    widened_left = λ s t m k h. widened_left D p ord join s t m k h;
    leq_in = λ s t m k e h. within_stands D p ord within s t m k e h;
    reshared_in = λ s m k h. reshared_stands D p ord share s m k h;
    empty_in = λ m k. empty_stands D p ord m k;
  }

  -- ---- all that is proved of statements

  module _ (formed : is_well_formed p ≡ true) (fit : blocks_fit p.types p.blocks ≡ true) (laws : CellLaws D)
      (exprs : ExpressionsHold D p ord)
      (plcs : PlacesHold D p ord) where
    absurd_alone : (i : Side) (way : Way) (k : Known N) (n : ℕ) (y : State) (a : Outcome) (o : Option (Known N)) → ⊥ →
        MeetsAlone p (StandsFor D p ord) i way o n y a
    absurd_alone i way k n y a o e = absurd e

    return_both : (e : Option Expr) (here : ℕ) (f : Function) → slice_get p.functions here ≡ Some f → (seen : List ℕ)
        → result_fits p.types p.blocks seen (result_type p.blocks f.result) e ≡ true → (l n m : ℕ) (s : Known N)
        (x y : State)
        → ConcretisesTyped p (StandsFor D p ord) s x y → (simple_step D p (mode_of Both) f.result (returns e) s).faults ≡ []
        → Meets p (StandsFor D p ord) (way_of (returns e))
        (simple_step D p (mode_of Both) f.result (returns e) s).next n m
        (does (ord left) p uncounted f.result (returns e) l n x)
        (does (ord right) p uncounted f.result (returns e) l m y)
    return_both None here f at seen h l n m s x y kept q = meet kept.stands
    return_both (Some e) here f at seen h l n m s x y kept q = by_result f.result refl h q
      where
        by_type : (r : ℕ × Scalar) → holds_scalar p.types p.blocks r ≡ true → (o : Option ℕ) → block_type
            (slice_get p.blocks r.0) ≡ o
            → result_fits p.types p.blocks seen o (Some e) ≡ true →
            (simple_step D p (mode_of Both) (Some r) (returns (Some e)) s).faults ≡ []
            → Meets p (StandsFor D p ord) (way_of (returns (Some e)))
            (simple_step D p (mode_of Both) (Some r) (returns (Some e)) s).next n m
            (does (ord left) p uncounted (Some r) (returns (Some e)) l n x)
            (does (ord right) p uncounted (Some r) (returns (Some e)) l m y)
        by_type r g None i h q = absurd (cc)
        by_type r g (Some ty) i h q =
            return_sound D laws p ord fit exprs plcs (Some r) seen e r.0 r.1 ty
            (subst (λ z. has_scalar (option_and_then (slice_get p.types.types) z) r.1 ≡ true) i g) h s x y kept q l n m

        by_result : (o : Option (ℕ × Scalar)) → f.result ≡ o → result_fits p.types p.blocks seen
            (result_type p.blocks o) (Some e) ≡ true
            → (simple_step D p (mode_of Both) o (returns (Some e)) s).faults ≡ []
            → Meets p (StandsFor D p ord) (way_of (returns (Some e)))
            (simple_step D p (mode_of Both) o (returns (Some e)) s).next n m
            (does (ord left) p uncounted o (returns (Some e)) l n x)
            (does (ord right) p uncounted o (returns (Some e)) l m y)
        by_result None i h q = absurd (cc)
        by_result (Some r) i h q =
            by_type r
            (and_parts (holds_scalar p.types p.blocks r) true
            (subst (λ o. list_all (holds_scalar p.types p.blocks) (option_to_list o) ≡ true) i
            (fits_at p formed here f at).1)).0
            (block_type (slice_get p.blocks r.0)) refl h q

    return_one : (i : Side) (e : Option Expr) (here : ℕ) (f : Function) → slice_get p.functions here ≡ Some f →
        (seen : List ℕ)
        → result_fits p.types p.blocks seen (result_type p.blocks f.result) e ≡ true → (l n : ℕ) (s : Known N)
        (x y : State)
        → ConcretisesTypedBeside p (StandsFor D p ord) i s x y → (simple_step D p (alone i) f.result (returns e) s).faults ≡ []
        → MeetsAlone p (StandsFor D p ord) i (way_of (returns e))
        (simple_step D p (alone i) f.result (returns e) s).next n y
        (does (ord i) p uncounted f.result (returns e) l n x)
    return_one i None here f at seen h l n s x y kept q = beside_stays i (way_of (returns None)) n s x y kept
    return_one i (Some e) here f at seen h l n s x y kept q = by_result f.result refl h q
      where
        by_type : (r : ℕ × Scalar) → holds_scalar p.types p.blocks r ≡ true → (o : Option ℕ) → block_type
            (slice_get p.blocks r.0) ≡ o
            → result_fits p.types p.blocks seen o (Some e) ≡ true →
            (simple_step D p (alone i) (Some r) (returns (Some e)) s).faults ≡ []
            → MeetsAlone p (StandsFor D p ord) i (way_of (returns (Some e)))
            (simple_step D p (alone i) (Some r) (returns (Some e)) s).next n y
            (does (ord i) p uncounted (Some r) (returns (Some e)) l n x)
        by_type r g None j h q = absurd (cc)
        by_type r g (Some ty) j h q =
            return_alone D laws p ord fit exprs plcs (Some r) seen e r.0 r.1 ty
            (subst (λ z. has_scalar (option_and_then (slice_get p.types.types) z) r.1 ≡ true) j g) h i s x y kept q l n

        by_result : (o : Option (ℕ × Scalar)) → f.result ≡ o → result_fits p.types p.blocks seen
            (result_type p.blocks o) (Some e) ≡ true
            → (simple_step D p (alone i) o (returns (Some e)) s).faults ≡ []
            → MeetsAlone p (StandsFor D p ord) i (way_of (returns (Some e)))
            (simple_step D p (alone i) o (returns (Some e)) s).next n y
            (does (ord i) p uncounted o (returns (Some e)) l n x)
        by_result None j h q = absurd (cc)
        by_result (Some r) j h q =
            by_type r
            (and_parts (holds_scalar p.types p.blocks r) true
            (subst (λ o. list_all (holds_scalar p.types p.blocks) (option_to_list o) ≡ true) j
            (fits_at p formed here f at).1)).0
            (block_type (slice_get p.blocks r.0)) refl h q

    pub statements_hold : StatementsHold D p ord
    statements_hold = record {
      nothing_holds = simple_holds nothing (λ here f at seen h l n m s x y kept q. meet kept.stands)
          (λ i here f at seen h l n s x y kept q. beside_stays i (way_of nothing) n s x y kept);
      eval_holds = λ e. simple_holds (eval e)
          (λ here f at seen h l n m s x y kept q. eval_sound D laws p ord fit exprs plcs f.result e seen h s x y kept
          q l n m)
          (λ i here f at seen h l n s x y kept q. eval_alone D laws p ord fit exprs plcs f.result i e seen h s x y
          kept q l n);
      assign_holds = λ w a e. simple_holds (assign w a e)
          (λ here f at seen h l n m s x y kept q. assign_sound D laws p ord fit exprs plcs f.result w a e seen h s x y
          kept q l n m)
          (λ i here f at seen h l n s x y kept q. assign_alone D laws p ord fit exprs plcs f.result i w a e seen h s x
          y kept q l n);
      input_holds = λ t d. simple_holds (input t d)
          (λ here f at seen h l n m s x y kept q. input_sound D laws p ord fit exprs plcs f.result t d seen h s x y
          kept q l n m)
          (λ i here f at seen h l n s x y kept q. absurd (input_alone D laws p ord fit exprs plcs f.result t i d s q));
      output_holds = λ t e. simple_holds (output t e)
          (λ here f at seen h l n m s x y kept q. output_sound D laws p ord fit exprs plcs f.result t e seen h s x y
          kept q l n m)
          (λ i here f at seen h l n s x y kept q. absurd (output_alone D laws p ord fit exprs plcs f.result i t e s x
          y q));
      return_holds = λ e. simple_holds (returns e)
          (λ here f at seen h l n m s x y kept q. return_both e here f at seen h l n m s x y kept q)
          (λ i here f at seen h l n s x y kept q. return_one i e here f at seen h l n s x y kept q);
    }

    main_int : (f : Function) → slice_get p.functions p.main ≡ Some f → is_int_result f.result ≡ true
    main_int f at =
        (and_parts _ (is_int_result f.result)
        (subst (λ g. is_main g ≡ true) at (and_parts _ (is_main (slice_get p.functions p.main)) formed).1)).1

    pub results_hold : ResultsHold D p ord
    results_hold = record {
      sound = λ k f at d seen h l n m s x y kept q.
          both_by s kept.stands.memories.state (result_step D p (mode_of Both) f d s) on n m
          (received (ord left) p f.result d l n x)
          (received (ord right) p f.result d l m y)
          (λ q. result_sound D laws p ord fit exprs plcs f (fits_at p formed k f at).1 d seen h s x y kept q l n m) q;
      alone = λ i k f at d seen h l n s x y kept q.
          alone_by s (beside_state i s x y kept) i (result_step D p (alone i) f d s) on n y
          (received (ord i) p f.result d l n x)
          (λ q. result_alone D laws p ord fit exprs plcs f (fits_at p formed k f at).1 i d seen h s x y kept q l n) q;
      ended = λ f at s x y kept q. ended_sound D laws p ord fit exprs plcs f (main_int f at) s x y kept
          (quiet s kept.stands.memories.state (stepped (ended_faults D p f s) None) q);
    }
