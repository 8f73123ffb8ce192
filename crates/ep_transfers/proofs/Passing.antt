-- A call up to its body: arguments are evaluated, the frame comes, and the parameters are set.
use Rattle.std.proofs.Common.{◌≡◌, ℕ, true, nat_eq, List, [], ◌∷◌, ◌++◌, slice_get, Option, Some, None}
use Rattle.ep_evaluation.proofs.Final.{if_has}
use Rattle.std.proofs.Common.{option_and_then, option_to_list, refl, sym, ap, ◌∙◌, subst}
use Rattle.std.specs.List.{list_all}
use Rattle.std.proofs.lemmas.Bool.{and_parts, eq-eqb, or_left, or_right}
use Rattle.ep_int.specs.declared.types.Order.{Order}
use Rattle.ep_int.specs.declared.types.Scalar.{Scalar}
use Rattle.ep_int.specs.Memory.{Memory, Value as Datum, has, contains, killed}
use Rattle.ep_domain.specs.Domain.{Ops}
use Rattle.ep_cells.specs.States.{Known}
use Rattle.ep_cells.specs.Meaning.{Memories}
use Rattle.ep_core.specs.Program.{Expr, Function, Program}
use Rattle.ep_core.specs.Exec.{State, Outcome, Values, on, leaves, first_of, frame_of, value, values, without}
use Rattle.ep_core.specs.Exec.{remembers}
use Rattle.ep_core.specs.Exec.{given_all as with_values, bound as set}
use Rattle.ep_core.specs.Runs.{Side, left, right}
use Rattle.ep_core.specs.Typed.{ValueFits, IfHas}
use Rattle.ep_core.specs.WellFormed.{has_scalar, ty_at, has_type, block_type, holds_scalar, arguments_fit, blocks_fit}
use Rattle.ep_core.proofs.Bytes.{killed_bytes}
use Rattle.ep_core.proofs.Sorts.{typed_where, sort_scalar}
use Rattle.ep_core.proofs.Typing.{expr_fits}
use Rattle.ep_pass.specs.Laws.{ConcretisesTyped, ConcretisesTypedBeside, Meets, meet, MeetsAlone, meet_alone, passes}
use Rattle.ep_equalities.specs.declared.pair.Mode.{Mode}
use Rattle.ep_equalities.specs.declared.pair.Mode.TheVariants.{Both, Left, Right}
use Rattle.ep_evaluation.specs.Given.{alone, runs}
use Rattle.ep_evaluation.specs.Laws.{memory_of, IsKept, ExpressionsHold, PlacesHold}
use Rattle.ep_evaluation.proofs.General.{none_left}
use Rattle.ep_transfers.specs.Transfers.{cells_of_mode, gives, entered}
use Rattle.ep_transfers.specs.Calls.{given_all, faults_of_all, bound, waiting, arguments_step}
use Rattle.ep_transfers.specs.Laws.{memories, StandsFor, CellLaws}
use Rattle.ep_transfers.proofs.Kills.{AreAllKilled, all_killed}
use Rattle.ep_transfers.proofs.Stored.{typed_is}
use Rattle.ep_transfers.proofs.Evaluated.{kept_both, kept_beside}
use Rattle.ep_transfers.proofs.Waiting.{OthersStay, still_evaluated, killed_others}
use Rattle.ep_transfers.proofs.Bound.{changed, fits_changed, found_is, Waits, AllWait, all_found, datum_at}
use Rattle.ep_transfers.proofs.Bound.{puts_all, all_bound}

-- ---- the parameters are in the frame

unfoldable pub AllIn : List ℕ → List (ℕ × Scalar) → Type 0
AllIn frame [] = Unit {0}
AllIn frame (b ∷ bs) = (contains b.0 frame ≡ true) × AllIn frame bs

more_in : (c : ℕ) (frame : List ℕ) (bs : List (ℕ × Scalar)) → AllIn frame bs → AllIn (c ∷ frame) bs
unfolding AllIn
more_in c frame [] h = tt
more_in c frame (b ∷ bs) h = (or_right (nat_eq b.0 c) (contains b.0 frame) h.0, more_in c frame bs h.1)

pub all_in : (bs : List (ℕ × Scalar)) (more : List ℕ) → AllIn (first_of bs ++ more) bs
unfolding AllIn
all_in [] more = tt
all_in (b ∷ bs) more = (
  or_left (nat_eq b.0 b.0) (contains b.0 (first_of bs ++ more)) (eq-eqb b.0 b.0 refl),
  more_in b.0 (first_of bs ++ more) bs (all_in bs more),
)

-- ---- blocks come, on the running sides

pub kills_are : (mode : Mode) (bs : List ℕ) (m : Memories)
    → AreAllKilled (cells_of_mode mode) bs m (changed mode (λ s. killed bs) m)
kills_are Both bs m = record {
  left = record { gone = λ e b q. refl; alive = λ e. absurd (cc) };
  right = record { gone = λ e b q. refl; alive = λ e. absurd (cc) };
}
kills_are Left bs m = record {
  left = record { gone = λ e b q. refl; alive = λ e. absurd (cc) };
  right = record { gone = λ e. absurd (cc); alive = λ e b q. refl };
}
kills_are Right bs m = record {
  left = record { gone = λ e. absurd (cc); alive = λ e b q. refl };
  right = record { gone = λ e b q. refl; alive = λ e. absurd (cc) };
}

module _ {N : Type 0} (D : Ops N) (laws : CellLaws D) (p : Program) (ord : Side → Order)
    (fit : blocks_fit p.types p.blocks ≡ true) (exprs : ExpressionsHold D p ord) (plcs : PlacesHold D p ord)
    (mode : Mode) where
  kept_after : (bs : List ℕ) (k : Known N) (m : Memories) → IsKept D p ord k m
      → IsKept D p ord (entered D p mode bs k) (changed mode (λ s. killed bs) m)
  kept_after bs k m h =
      let q = all_killed D p ord fit laws.kills (cells_of_mode mode) bs k m (changed mode (λ s. killed bs) m) h.state
      h.holds (kills_are mode bs m) in
      record {
        state = q.0;
        holds = q.1;
        fits = fits_changed p mode (λ s. killed bs) m h.fits (λ s r z i. killed_bytes p bs z i);
      }

  -- ---- arguments that are evaluated in this state wait while the frame comes

  module _ (frame : List ℕ) (j k : Known N) (before m : Memories) (kept : IsKept D p ord j before)
      (others : OthersStay D p ord frame j k before m) (seen : List ℕ) where
    abbrev IsWaiting : ℕ × Scalar → Expr → Type 0
    IsWaiting b e = Waits D laws p ord fit exprs plcs mode frame j before k m b e

    abbrev AreWaiting : List (ℕ × Scalar) → List Expr → Type 0
    AreWaiting bs es = AllWait D laws p ord fit exprs plcs mode frame j before k m bs es

    abbrev datum : Side → Expr → Datum
    datum s e = datum_at D laws p ord fit exprs plcs mode frame j before s e

    one_waits : (b : ℕ × Scalar) (e : Expr) (ty : ℕ) → has_scalar (ty_at p.types p.blocks seen ty) b.1 ≡ true
        → has_type p.types p.blocks seen e ty ≡ true → contains b.0 frame ≡ true → (gives D p e mode j).faults ≡ []
        → IsWaiting b e
    one_waits b e ty scalar typed inside none =
        let a = typed_is D laws p ord fit exprs plcs seen e ty b.1 scalar typed j before kept mode in
        let found : (s : Side) → runs mode s ≡ true → value (ord s) p e (memory_of s before) ≡ has (datum s e) = λ s r.
        let d = a.holds.found none s r in found_is (value (ord s) p e (memory_of s before)) d.0 d.1 in
        record {
          evaluated = still_evaluated D p ord frame j k before m others mode b.1 (λ s. value (ord s) p e)
              (gives D p e mode j) a none;
          found = found;
          fits = λ s r.
              let t = typed_where p.types p.blocks seen e ty typed in
              if_has (value (ord s) p e (memory_of s before)) (ValueFits p b.1) (datum s e)
              (subst (λ w. IfHas (value (ord s) p e (memory_of s before)) (ValueFits p w))
              (sym (sort_scalar (ty_at p.types p.blocks seen ty) b.1 t.0 scalar t.1))
              (expr_fits (ord s) p fit seen (memory_of s before) (kept.fits s) e t.0 t.2).1) (found s r);
          inside = inside;
        }

    all_waiting : (bs : List (ℕ × Scalar)) (es : List Expr) → list_all (holds_scalar p.types p.blocks) bs ≡ true
        → arguments_fit p.types p.blocks seen bs es ≡ true → AllIn frame bs
        → faults_of_all D p (given_all D p es mode j) ≡ [] → AreWaiting bs es
    unfolding AllIn
    all_waiting [] [] holds fits inside none = tt
    all_waiting [] (e ∷ es) holds fits inside none = absurd (cc)
    all_waiting (b ∷ bs) [] holds fits inside none = absurd (cc)
    all_waiting (b ∷ bs) (e ∷ es) holds fits inside none =
        let s = and_parts (holds_scalar p.types p.blocks b) (list_all (holds_scalar p.types p.blocks) bs) holds in
        let n = none_left (gives D p e mode j).faults (faults_of_all D p (given_all D p es mode j)) none in
        let q = typed (block_type (slice_get p.blocks b.0)) refl s.0 in
        (one_waits b e q.0 q.1 q.2 inside.0 n.0, all_waiting bs es s.1 q.3 inside.1 n.1)
      where
        typed : (o : Option ℕ) → block_type (slice_get p.blocks b.0) ≡ o
            → has_scalar (option_and_then (slice_get p.types.types) o) b.1 ≡ true
            → (ty : ℕ) × (has_scalar (ty_at p.types p.blocks seen ty) b.1 ≡ true)
            × (has_type p.types p.blocks seen e ty ≡ true) × (arguments_fit p.types p.blocks seen bs es ≡ true)
        typed None i h = absurd (cc)
        typed (Some ty) i h =
            let t = and_parts (has_type p.types p.blocks seen e ty) (arguments_fit p.types p.blocks seen bs es)
            (rw i at fits) in
            (ty, h, t.0, t.1)

  -- ---- the whole

  module _ (f : Function) (es : List Expr) (seen : List ℕ)
      (holds : list_all (holds_scalar p.types p.blocks) f.params ≡ true)
      (typed : arguments_fit p.types p.blocks seen f.params es ≡ true) (k : Known N) (m : Memories)
      (kept : IsKept D p ord k m) (quiet : (arguments_step D p mode f es k).faults ≡ []) where
    abbrev own : List ℕ
    own = first_of (option_to_list f.result)

    abbrev evaluating : Known N
    evaluating = entered D p mode own k

    abbrev before : Memories
    before = changed mode (λ s. killed own) m

    abbrev framed : Memories
    framed = changed mode (λ s. killed (frame_of f)) before

    abbrev sets : Side → Memory → Memory
    sets s z = puts_all D laws p ord fit exprs plcs mode (frame_of f) evaluating before f.params es s z

    record Passed : Type 0 where
      known : Known N
      next : (arguments_step D p mode f es k).next ≡ Some known
      kept_known : IsKept D p ord known (changed mode sets framed)
      machine : (s : Side) → runs mode s ≡ true → (l n : ℕ) (x : State) → memory_of s before ≡ killed own x.memory
          → passes (ord s) p f es l n x ≡ leaves on n (remembers (sets s (killed (frame_of f) (killed own x.memory))) x)

    passed : Passed
    passed =
        let j = evaluating in
        let at_j = kept_after own k m kept in
        let others = killed_others D p ord fit laws.kills (cells_of_mode mode) (frame_of f) j before framed at_j.state
        at_j.holds (kills_are mode (frame_of f) before) in
        let i = entered D p mode (frame_of f) j in
        let g = none_left (faults_of_all D p (given_all D p es mode j))
        (bound D p mode f.params (waiting D p (frame_of f) (given_all D p es mode j)) i).faults quiet in
        let w = all_waiting (frame_of f) j i before framed at_j others seen f.params es holds typed
        (all_in f.params f.locals) g.0 in
        let b = all_bound D laws p ord fit exprs plcs mode (frame_of f) j before f.params es i framed
        (kept_after (frame_of f) j before at_j) w g.1 in
        record {
          known = b.known;
          next = b.next;
          kept_known = b.kept;
          machine = λ s r l n x e.
              let goes : (z : Memory) (vs : Values) → Outcome = λ z vs. with_values vs l (without own x)
              (λ us. set (ord s) p f.params us l (without (frame_of f) (without own x)) (leaves on n)) in
              ap (λ z. goes z (values (ord s) p es z)) (sym e)
              ∙ ap (goes (memory_of s before))
              (all_found D laws p ord fit exprs plcs mode (frame_of f) j before i framed f.params es w s r)
              ∙ b.machine s r l (without (frame_of f) (without own x)) (leaves on n);
        }

-- ---- both machines, or one

module _ {N : Type 0} (D : Ops N) (laws : CellLaws D) (p : Program) (ord : Side → Order)
    (fit : blocks_fit p.types p.blocks ≡ true) (exprs : ExpressionsHold D p ord) (plcs : PlacesHold D p ord)
    (f : Function) (es : List Expr) (seen : List ℕ)
    (holds : list_all (holds_scalar p.types p.blocks) f.params ≡ true)
    (typed : arguments_fit p.types p.blocks seen f.params es ≡ true) (k : Known N) (x y : State) where
  pub arguments_both : ConcretisesTyped p (StandsFor D p ord) k x y → (arguments_step D p Both f es k).faults ≡ [] → (l n i : ℕ)
      → Meets p (StandsFor D p ord) on (arguments_step D p Both f es k).next n i (passes (ord left) p f es l n x)
      (passes (ord right) p f es l i y)
  arguments_both h q l n i =
      let m = memories x.memory y.memory in
      let a = passed D laws p ord fit exprs plcs Both f es seen holds typed k m (kept_both D p ord k x y h) q in
      subst (λ o. Meets p (StandsFor D p ord) on o n i (passes (ord left) p f es l n x)
      (passes (ord right) p f es l i y)) (sym a.next)
      (let el = a.machine left refl l n x refl in
      let er = a.machine right refl l i y refl in
      rw (el, er)
      (meet (record {
        memories = record { state = a.kept_known.state; holds = a.kept_known.holds };
        inputs = h.stands.inputs;
        outputs = h.stands.outputs;
      })))

  pub arguments_one : (s : Side) → ConcretisesTypedBeside p (StandsFor D p ord) s k x y
      → (arguments_step D p (alone s) f es k).faults ≡ [] → (l n : ℕ)
      → MeetsAlone p (StandsFor D p ord) s on (arguments_step D p (alone s) f es k).next n y
      (passes (ord s) p f es l n x)
  arguments_one left h q l n =
      let m = memories x.memory y.memory in
      let a = passed D laws p ord fit exprs plcs Left f es seen holds typed k m (kept_beside D p ord left k x y h) q in
      subst (λ o. MeetsAlone p (StandsFor D p ord) left on o n y (passes (ord left) p f es l n x)) (sym a.next)
      (let e = a.machine left refl l n x refl in
      rw e
      (meet_alone (record {
        memories = record { state = a.kept_known.state; holds = a.kept_known.holds };
        inputs = h.stands.inputs;
        outputs = h.stands.outputs;
      })))
  arguments_one right h q l n =
      let m = memories y.memory x.memory in
      let a = passed D laws p ord fit exprs plcs Right f es seen holds typed k m (kept_beside D p ord right k x y h)
      q in
      subst (λ o. MeetsAlone p (StandsFor D p ord) right on o n y (passes (ord right) p f es l n x)) (sym a.next)
      (let e = a.machine right refl l n x refl in
      rw e
      (meet_alone (record {
        memories = record { state = a.kept_known.state; holds = a.kept_known.holds };
        inputs = h.stands.inputs;
        outputs = h.stands.outputs;
      })))
