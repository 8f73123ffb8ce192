-- An assignment of one machine alone: nothing is wrong, and all is known again.
use Rattle.std.proofs.Common.{◌≡◌, ℕ, ◌+◌, ◌≤◌, Bool, true, false, List, [], length, slice_get, Option, Some, None}
use Rattle.std.proofs.Common.{Result, Ok, Err, refl, sym, ap, ◌∙◌, subst, arith}
use Rattle.ep_int.specs.declared.types.IntType.{IntType}
use Rattle.ep_int.specs.declared.types.Order.{Order}
use Rattle.ep_int.specs.declared.types.Scalar.{Scalar}
use Rattle.ep_int.specs.declared.types.Scalar.TheVariants.{Int as Number, Pointer}
use Rattle.ep_int.specs.Types.{bytes_of}
use Rattle.ep_domain.specs.Domain.{Ops, Lawful}
use Rattle.ep_cells.specs.States.{Known}
use Rattle.ep_cell_ranges.specs.Tests.{is_model}
use Rattle.ep_cell_ranges.proofs.Basics.{is_model-self}
use Rattle.ep_cell_states.proofs.Lawful.{cells_lawful}
use Rattle.ep_core.specs.Program.{Expr, Place, Simple, assign, simple, Function, Program}
use Rattle.ep_core.specs.Exec.{State, on, Outcome, leaves, uncounted, Going, result_in, exec, does as machine_does}
use Rattle.ep_core.specs.Runs.{Side, left, right}
use Rattle.ep_core.specs.WellFormed.{result_type, simple_fits, is_well_formed}
use Rattle.ep_evaluation.specs.Given.{alone, runs}
use Rattle.ep_pass.specs.States.{One, Transfer}
use Rattle.ep_pass.specs.Laws.{ConcretisesTyped, AreOther}
use Rattle.ep_pass.proofs.Sure.{Sure, Beside, Seen, MeetsAlone, meet_one}
use Rattle.ep_pass.proofs.Keeping.{sure}
use Rattle.ep_transfers.specs.Cells.{told_of, when_known, cell_ops}
use Rattle.ep_transfers.specs.Laws.{StandsFor}
use Rattle.ep_transfers.specs.Transfers.{Stepped, stepped, simple_step}
use Rattle.ep_movers.specs.declared.Stop.{Stop}
use Rattle.ep_movers.specs.Symbols.{Symbol, goes_on, resized}
use Rattle.ep_movers.specs.Forms.{is_moved_assignment, has_moving_form}
use Rattle.ep_movers.specs.Movers.{Held, Machine, bytes_in, bytes_written, remembers, place_of, symbols, writes, assigns}
use Rattle.ep_mover_assigned.proofs.Assigned.{assignments_keep}
use Rattle.ep_mover_bits.specs.Laws.{Inputs}
use Rattle.ep_mover_cells.proofs.Loaded.{ok_same, went_on}
use Rattle.ep_mover_runs.specs.Following.{Follows, LeftAs, Comes, blocks_of_main}
use Rattle.ep_mover_runs.proofs.Whole.{statements_follow}
use Rattle.ep_mover_stores.specs.Laws.{GoesOn}
use Rattle.ep_mover_values.specs.Naturals.{KeepsNaturals}
use Rattle.ep_mover_steps.specs.Laws.{AreTypedRuns, Stands, StepStands, AlonesStand}
use Rattle.ep_mover_steps.proofs.Stepping.{known_of}

-- ---- what an assignment keeps

pub record Keeps (m n : Machine) : Type 0 where
  pub inputs : n.inputs ≡ m.inputs
  pub outputs : n.outputs ≡ m.outputs

pub assigned_keeps : (o : Order) (w : Scalar) (a : Place) (e : Expr) (m n : Machine) → assigns o w a e m ≡ Ok n → Keeps m n
assigned_keeps o Pointer a e m n h = absurd (cc)
assigned_keeps o (Number t) a e m n h =
    let x = went_on (place_of a) (λ w. goes_on (symbols o m.memory e) (λ xs. writes o t m w (resized t xs))) n h in
    let y = went_on (symbols o m.memory e) (λ xs. writes o t m x.0 (resized t xs)) n x.2 in
    let z = went_on (bytes_written o x.0.1 (bytes_of t) 0 (resized t y.0) (bytes_in m.memory x.0.0))
    (λ hs. Ok (remembers m x.0.0 hs)) n y.2 in
    let is = ok_same (remembers m x.0.0 z.0) n z.2 in
    record {
      inputs = ap (λ (v : Machine). v.inputs) (sym is);
      outputs = ap (λ (v : Machine). v.outputs) (sym is);
    }

module _ {S : Type 0} (K : S → State → State → Type 0) where
  reached_one : (i : Side) (u : Option S) (n : ℕ) (y : State) (c : Outcome) (k : S) (x : State)
      → MeetsAlone K i on u n y c → u ≡ Some k → c ≡ leaves on n x → Beside K i (Some k) x y
  reached_one i u n y c k x (meet_one {x = a} b) e f =
      let p : a ≡ x = cc in subst (λ v. Beside K i v x y) e (subst (λ s. Beside K i u s y) p b)

abbrev by_side : {A : Type 0} → A → A → Side → A
by_side a b left = a
by_side a b right = b

module _ {N : Type 0} (D : Ops N) (law : Lawful D) (p : Program) (ord : Side → Order)
    (formed : is_well_formed p ≡ true) (form : has_moving_form p ≡ true) (other : AreOther ord) (f : Function)
    (here : slice_get p.functions p.main ≡ Some f) (base : Inputs) (ms ns : Side → Machine) (k : Known N)
    (h : Stands D p ord base ms k) (w : Scalar) (a : Place) (e : Expr) (moving : is_moved_assignment w a e ≡ true)
    (fits : simple_fits p p.main (result_type p.blocks f.result) (assign w a e)
    (blocks_of_main (slice_get p.functions p.main)) ≡ true) where
  bodies : ℕ → Going
  bodies i n s = leaves on n s

  abbrev In : Known N → State → State → Type 0
  In = ConcretisesTyped p (StandsFor D p ord)

  left_as : (i : Side) (inputs : List ℕ) (l : (ms left).inputs ≤ length inputs)
      → assigns (ord i) w a e (ms i) ≡ Ok (ns i)
      → LeftAs (ord i) p inputs 0 0 0 (ms i) (ns i)
      (exec (ord i) p uncounted p.main bodies (simple (assign w a e)) 0 0 ((h.runs inputs l).states i))
  left_as i inputs l step =
      let r = h.runs inputs l in
      subst (λ z. Comes (ord i) p inputs 0 0 0 (ms i) z
      (exec (ord i) p uncounted p.main bodies (simple (assign w a e)) 0 0 (r.states i))) step
      ((statements_follow p formed form (ord i) inputs (r.states i) (ms i) (r.follow i) (simple (assign w a e)) moving
      p.main (result_type p.blocks f.result) fits bodies 0 0).enough (omega (arith, (r.follow i).enough)))

  machine_is : (i : Side) (x y : State)
      → exec (ord i) p uncounted p.main bodies (simple (assign w a e)) 0 0 x ≡ leaves on 0 y
      → machine_does (ord i) p uncounted f.result (assign w a e) 0 0 x ≡ leaves on 0 y
  machine_is i x y q =
      sym (ap (λ (z : Option Function). machine_does (ord i) p uncounted (result_in z) (assign w a e) 0 0 x) here) ∙ q

  module _ (i : Side) (step : assigns (ord i) w a e (ms i) ≡ Ok (ns i))
      (still : (s : Side) → runs (alone i) s ≡ false → ns s ≡ ms s) where
    abbrev transfer : Transfer (Known N)
    transfer = (cell_ops D p ord).simple (One i) f.result (assign w a e) k

    keeps_all : (s : Side) → Keeps (ms s) (ns s)
    keeps_all s = by (runs (alone i) s) refl (same_side i s)
      where
        same_side : (i s : Side) → runs (alone i) s ≡ true → i ≡ s
        same_side left left r = refl
        same_side left right r = absurd (cc)
        same_side right left r = absurd (cc)
        same_side right right r = refl

        by : (b : Bool) → runs (alone i) s ≡ b → (runs (alone i) s ≡ true → i ≡ s) → Keeps (ms s) (ns s)
        by true r q = subst (λ z. Keeps (ms z) (ns z)) (q r) (assigned_keeps (ord i) w a e (ms i) (ns i) step)
        by false r q = record {
          inputs = ap (λ (v : Machine). v.inputs) (still s r);
          outputs = ap (λ (v : Machine). v.outputs) (still s r);
        }

    transfer_is : (next : Known N) → simple_step D p (alone i) f.result (assign w a e) k ≡ stepped [] (Some next)
        → transfer ≡ record { faults = []; next = Some next }
    transfer_is next q =
        ap (λ b. told_of D (when_known b (simple_step D p (alone i) f.result (assign w a e) k)))
        (subst (λ d. is_model d p.types.model ≡ true) (sym h.moved.state.model) (is_model-self p.types.model))
        ∙ ap (told_of D) q

    laws : Sure p ord (cell_ops D p ord) In
    laws = sure p formed ord (cell_ops D p ord) (StandsFor D p ord) (cells_lawful D law p ord formed other)

  -- the machine of either side
  left_runs : assigns (ord left) w a e (ms left) ≡ Ok (ns left) → ((s : Side) → runs (alone left) s ≡ false → ns s ≡ ms s)
      → (next : Known N)
      → (cell_ops D p ord).simple (One left) f.result (assign w a e) k ≡ record { faults = []; next = Some next }
      → (inputs : List ℕ) → (ms left).inputs ≤ length inputs → AreTypedRuns D p ord ns next inputs
  left_runs step still next is inputs l =
      let r = h.runs inputs l in
      let b = left_as left inputs l step in
      let met = (laws left step still).simple_alone left p.main f here (assign w a e)
      (blocks_of_main (slice_get p.functions p.main)) fits 0 0 k (r.states left) (r.states right) r.typed
      (ap (λ (x : Transfer (Known N)). x.faults) is) in
      record {
        states = by_side b.state (r.states right);
        follow = follows r b.follows;
        typed = reached_one In left ((cell_ops D p ord).simple (One left) f.result (assign w a e) k).next 0
            (r.states right) (machine_does (ord left) p uncounted f.result (assign w a e) 0 0 (r.states left)) next b.state
            met (ap (λ (x : Transfer (Known N)). x.next) is) (machine_is left (r.states left) b.state b.is);
      }
    where
      follows : (r : AreTypedRuns D p ord ms k inputs) {x : State} → Follows (ord left) p inputs x (ns left) → (s : Side)
          → Follows (ord s) p inputs (by_side x (r.states right) s) (ns s)
      follows r q left = q
      follows r q right = subst (Follows (ord right) p inputs (r.states right)) (sym (still right refl)) (r.follow right)

  right_runs : assigns (ord right) w a e (ms right) ≡ Ok (ns right)
      → ((s : Side) → runs (alone right) s ≡ false → ns s ≡ ms s) → (next : Known N)
      → (cell_ops D p ord).simple (One right) f.result (assign w a e) k ≡ record { faults = []; next = Some next }
      → (inputs : List ℕ) → (ms left).inputs ≤ length inputs → AreTypedRuns D p ord ns next inputs
  right_runs step still next is inputs l =
      let r = h.runs inputs l in
      let b = left_as right inputs l step in
      let met = (laws right step still).simple_alone right p.main f here (assign w a e)
      (blocks_of_main (slice_get p.functions p.main)) fits 0 0 k (r.states right) (r.states left) r.typed
      (ap (λ (x : Transfer (Known N)). x.faults) is) in
      record {
        states = by_side (r.states left) b.state;
        follow = follows r b.follows;
        typed = reached_one In right ((cell_ops D p ord).simple (One right) f.result (assign w a e) k).next 0
            (r.states left) (machine_does (ord right) p uncounted f.result (assign w a e) 0 0 (r.states right)) next b.state
            met (ap (λ (x : Transfer (Known N)). x.next) is) (machine_is right (r.states right) b.state b.is);
      }
    where
      follows : (r : AreTypedRuns D p ord ms k inputs) {x : State} → Follows (ord right) p inputs x (ns right)
          → (s : Side) → Follows (ord s) p inputs (by_side (r.states left) x s) (ns s)
      follows r q right = q
      follows r q left = subst (Follows (ord left) p inputs (r.states left)) (sym (still left refl)) (r.follow left)

  finish : (i : Side) (step : assigns (ord i) w a e (ms i) ≡ Ok (ns i))
      (still : (s : Side) → runs (alone i) s ≡ false → ns s ≡ ms s)
      → ((next : Known N)
      → (cell_ops D p ord).simple (One i) f.result (assign w a e) k ≡ record { faults = []; next = Some next }
      → (inputs : List ℕ) → (ms left).inputs ≤ length inputs → AreTypedRuns D p ord ns next inputs)
      → GoesOn D p ord base ns (simple_step D p (alone i) f.result (assign w a e) k)
      → StepStands D p ord ns ((cell_ops D p ord).simple (One i) f.result (assign w a e) k)
  finish i step still all goes =
      let is = transfer_is i step still goes.next goes.is in
      let count : (ns left).inputs ≡ (ms left).inputs = (keeps_all i step still left).inputs in
      record {
        next = goes.next;
        then_base = base;
        is = is;
        stands = record {
          moved = goes.moved;
          outputs = (keeps_all i step still left).outputs ∙ h.outputs ∙ sym (keeps_all i step still right).outputs;
          runs = λ inputs l. all goes.next is inputs (omega (arith, l, count));
        };
      }

pub alones_stand : {N : Type 0} (D : Ops N) → Lawful D → AlonesStand D
alones_stand {N = N} D law keeps p ord formed form other f here base ms ns k h i w a e moving fits step still =
    by i step still (finish D law p ord formed form other f here base ms ns k h w a e moving fits i step still)
    (assignments_keep D law keeps p ord formed form base ms ns k (known_of D p ord base ms k h) (alone i) f.result w a e
    moving (result_type p.blocks f.result) fits (record { assigned = running i step; still = still }))
  where
    running : (i : Side) → assigns (ord i) w a e (ms i) ≡ Ok (ns i) → (s : Side) → runs (alone i) s ≡ true
        → assigns (ord s) w a e (ms s) ≡ Ok (ns s)
    running left step left r = step
    running left step right r = absurd (cc)
    running right step left r = absurd (cc)
    running right step right r = step

    by : (i : Side) → assigns (ord i) w a e (ms i) ≡ Ok (ns i) → ((s : Side) → runs (alone i) s ≡ false → ns s ≡ ms s)
        → (((next : Known N)
        → (cell_ops D p ord).simple (One i) f.result (assign w a e) k ≡ record { faults = []; next = Some next }
        → (inputs : List ℕ) → (ms left).inputs ≤ length inputs → AreTypedRuns D p ord ns next inputs)
        → GoesOn D p ord base ns (simple_step D p (alone i) f.result (assign w a e) k)
        → StepStands D p ord ns ((cell_ops D p ord).simple (One i) f.result (assign w a e) k))
        → GoesOn D p ord base ns (simple_step D p (alone i) f.result (assign w a e) k)
        → StepStands D p ord ns ((cell_ops D p ord).simple (One i) f.result (assign w a e) k)
    by left step still end goes =
        end (left_runs D law p ord formed form other f here base ms ns k h w a e moving fits step still) goes
    by right step still end goes =
        end (right_runs D law p ord formed form other f here base ms ns k h w a e moving fits step still) goes
