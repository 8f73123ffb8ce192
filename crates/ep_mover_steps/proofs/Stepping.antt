-- A statement of a mover on both machines: nothing is wrong, and all is known again.
use Rattle.std.proofs.Common.{◌≡◌, ℕ, zero, suc, ◌+◌, ◌<◌, ◌≤◌, Bool, true, false, not, List, [], ◌∷◌, ◌++◌, length, slice_get}
use Rattle.std.proofs.Common.{Option, Some, None, Result, Ok, Err, refl, sym, ap, ◌∙◌, subst, arith}
use Rattle.ep_int.specs.declared.types.IntType.{IntType}
use Rattle.ep_int.specs.declared.types.Order.{Order}
use Rattle.ep_int.specs.declared.types.Scalar.{Scalar}
use Rattle.ep_int.specs.Types.{is_signed}
use Rattle.std.proofs.lemmas.Bool.{and_parts}
use Rattle.ep_domain.specs.Domain.{Ops, Lawful}
use Rattle.ep_cells.specs.States.{Known}
use Rattle.ep_cell_ranges.specs.Tests.{is_model}
use Rattle.ep_cell_ranges.proofs.Basics.{is_model-self}
use Rattle.ep_cell_states.proofs.Lawful.{cells_lawful}
use Rattle.ep_core.specs.Program.{Expr, Place, Dest, Simple, nothing, eval, assign, clear, copy_aggregate, copy_bytes}
use Rattle.ep_core.specs.Program.{fill, input, output, read_bytes, write_bytes, returns, simple, Function, Program}
use Rattle.ep_core.specs.Typed.{MemoryFits}
use Rattle.ep_core.specs.Exec.{State, Way, on, Outcome, leaves, uncounted, Going, result_in, exec, does as machine_does}
use Rattle.ep_core.specs.Runs.{Side, left, right}
use Rattle.ep_core.specs.WellFormed.{result_type, simple_fits, is_well_formed}
use Rattle.ep_equalities.specs.declared.pair.Mode.TheVariants as pair_mode
use Rattle.ep_evaluation.specs.Given.{cells_of, runs}
use Rattle.ep_evaluation.specs.Laws.{memory_of}
use Rattle.ep_pass.specs.States.{Both, Transfer}
use Rattle.ep_pass.specs.Pass.{way_of}
use Rattle.ep_pass.specs.Laws.{ConcretisesTyped, AreOther}
use Rattle.ep_pass.proofs.Sure.{Sure, Reaches, Meets, meet_on, meet_none}
use Rattle.ep_pass.proofs.Keeping.{sure}
use Rattle.ep_transfers.specs.Cells.{told_of, when_known, cell_ops}
use Rattle.ep_transfers.specs.Laws.{StandsFor}
use Rattle.ep_transfers.specs.Transfers.{Stepped, stepped, simple_step}
use Rattle.ep_movers.specs.declared.Stop.{Stop}
use Rattle.ep_movers.specs.Symbols.{Symbol, goes_on, input_byte, is_set}
use Rattle.ep_movers.specs.Forms.{is_moving, is_moving_simple, has_moving_form}
use Rattle.ep_movers.specs.Movers.{Machine, Symbols, bytes_in, puts_out, symbols, does}
use Rattle.ep_mover_assigned.specs.Laws.{IsKnown, HaveAssigned}
use Rattle.ep_mover_assigned.proofs.Assigned.{assignments_keep, inputs_keep, outputs_agree}
use Rattle.ep_mover_bits.specs.Laws.{Inputs}
use Rattle.ep_mover_cells.specs.Known.{held_at, symbol_at, IsSaid, IsInput, Moved}
use Rattle.ep_mover_cells.proofs.Loaded.{ok_same, went_on}
use Rattle.ep_mover_known.specs.Laws.{AreRuns}
use Rattle.ep_mover_known.proofs.Telling.{many, length_many}
use Rattle.ep_mover_runs.specs.Following.{Follows, LeftAs, Comes, MovesSo, taken_by, put_out_by, blocks_of_main}
use Rattle.ep_mover_runs.proofs.Whole.{statements_follow}
use Rattle.ep_mover_stores.specs.Laws.{with_input, GoesOn}
use Rattle.ep_mover_values.specs.Naturals.{KeepsNaturals}
use Rattle.ep_mover_steps.specs.Laws.{AreTypedRuns, Stands, StepStands, StepsStand}

-- ---- lists with one more

last_same : {A : Type 0} (ys : List A) (x z : A) → ys ++ (x ∷ []) ≡ ys ++ (z ∷ []) → x ≡ z
last_same [] x z e = cc
last_same (y ∷ ys) x z e = last_same ys x z (let k : ys ++ (x ∷ []) ≡ ys ++ (z ∷ []) = cc in k)

module _ {S : Type 0} (K : S → State → State → Type 0) where
  reached : (u : Option S) (n : ℕ) (c d : Outcome) (k : S) (x y : State) → Meets K on u n n c d → u ≡ Some k
      → c ≡ leaves on n x → d ≡ leaves on n y → K k x y
  reached u n c d k x y (meet_on {x = a} {y = b} i) e f g =
      let p : a ≡ x = cc in
      let q : b ≡ y = cc in
      subst (λ v. Reaches K v x y) e (subst (λ s. Reaches K u x s) q (subst (λ s. Reaches K u s b) p i))
  reached u n c d k x y (meet_none i) e f g = absurd (cc)

-- ---- machines with the same memories

module _ {N : Type 0} (D : Ops N) (p : Program) (ord : Side → Order) (base : Inputs) (ms ns : Side → Machine)
    (k : Known N) (h : Moved D p ord base ms k) (memory : (s : Side) → (ns s).memory ≡ (ms s).memory)
    (inputs : (s : Side) → (ns s).inputs ≡ (ms s).inputs) where
  input_same : (i : ℕ) → IsInput base k.cells ms i → IsInput base k.cells ns i
  input_same i a = record {
    cell = a.cell;
    is_in = a.is_in;
    named = a.named;
    shared = a.shared;
    formless = a.formless;
    sure = a.sure;
    written = λ s j l. ap (λ m. (held_at (bytes_in m (base i).block) ((base i).offset + j)).written) (memory s)
        ∙ a.written s j l;
  }

  pub moved_same : Moved D p ord base ns k
  moved_same =
      let l : (ns left).inputs ≡ (ms left).inputs = inputs left in
      record {
        state = h.state;
        said = λ s b q e. subst (λ m. IsSaid base (ord s) k.model k.cells (cells_of s) (bytes_in m b) b q) (sym (memory s))
            (h.said s b q (subst (λ m. is_set (symbol_at (bytes_in m b) q) ≡ true) (memory s) e));
        whole = h.whole;
        counts = l ∙ h.counts ∙ sym (inputs right);
        inputs = λ i f. input_same i (h.inputs i (omega (arith, l, f)));
        own = λ i j f e. h.own i j (omega (arith, l, f)) (omega (arith, l, e));
        taken = λ s b q i j e. (let f = h.taken s b q i j
            (subst (λ m. symbol_at (bytes_in m b) q ≡ input_byte i j) (memory s) e) in omega (arith, l, f));
      }

-- what is known whatever the inputs are
module _ {N : Type 0} (D : Ops N) (p : Program) (ord : Side → Order) (base : Inputs) (ms : Side → Machine)
    (k : Known N) (h : Stands D p ord base ms k) where
  pub known_of : IsKnown D p ord base ms k
  known_of = record {
    moved = h.moved;
    runs = λ inputs l. (let r = h.runs inputs l in record {
      states = r.states;
      follow = r.follow;
      kept = record {
        state = r.typed.stands.memories.state;
        holds = r.typed.stands.memories.holds;
        fits = fit inputs r;
      };
    });
  }
    where
      fit : (inputs : List ℕ) (r : AreTypedRuns D p ord ms k inputs) (s : Side)
          → MemoryFits p (memory_of s (record { left = (r.states left).memory; right = (r.states right).memory }))
      fit inputs r left = r.typed.left_fits.memory
      fit inputs r right = r.typed.right_fits.memory

module _ {N : Type 0} (D : Ops N) (law : Lawful D) (p : Program) (ord : Side → Order)
    (formed : is_well_formed p ≡ true) (form : has_moving_form p ≡ true) (other : AreOther ord) (f : Function)
    (here : slice_get p.functions p.main ≡ Some f) (base : Inputs) (ms ns : Side → Machine) (k : Known N)
    (h : Stands D p ord base ms k) (w : Simple) (way : way_of w ≡ on) (moving : is_moving_simple p w ≡ true)
    (fits : simple_fits p p.main (result_type p.blocks f.result) w (blocks_of_main (slice_get p.functions p.main)) ≡ true)
    (steps : (s : Side) → does (ord s) w (ms s) ≡ Ok (ns s)) (alike : (ns left).outputs ≡ (ns right).outputs) where
  pub known : IsKnown D p ord base ms k
  known = known_of D p ord base ms k h

  abbrev transfer : Transfer (Known N)
  transfer = (cell_ops D p ord).simple Both f.result w k

  transfer_is : (next : Known N) → simple_step D p pair_mode.Both f.result w k ≡ stepped [] (Some next)
      → transfer ≡ record { faults = []; next = Some next }
  transfer_is next e =
      ap (λ b. told_of D (when_known b (simple_step D p pair_mode.Both f.result w k)))
      (subst (λ d. is_model d p.types.model ≡ true) (sym h.moved.state.model) (is_model-self p.types.model))
      ∙ ap (told_of D) e

  -- ---- what each machine does

  bodies : ℕ → Going
  bodies i n s = leaves on n s

  abbrev more : ℕ
  more = taken_by (simple w)

  left_as : (s : Side) (inputs : List ℕ) (l : (ms left).inputs ≤ length inputs)
      → (ms s).inputs + more ≤ length inputs
      → LeftAs (ord s) p inputs 0 more (put_out_by (simple w)) (ms s) (ns s)
      (exec (ord s) p uncounted p.main bodies (simple w) 0 0 ((h.runs inputs l).states s))
  left_as s inputs l enough =
      let r = h.runs inputs l in
      subst (λ z. Comes (ord s) p inputs 0 more (put_out_by (simple w)) (ms s) z
      (exec (ord s) p uncounted p.main bodies (simple w) 0 0 (r.states s))) (steps s)
      ((statements_follow p formed form (ord s) inputs (r.states s) (ms s) (r.follow s) (simple w) moving p.main
      (result_type p.blocks f.result) fits bodies 0 0).enough enough)

  same_counts : (s : Side) → (ms s).inputs ≡ (ms left).inputs
  same_counts left = refl
  same_counts right = sym h.moved.counts

  counts : (s : Side) → (ns s).inputs ≡ (ms s).inputs + more
  counts s =
      let n = length_many ((ms left).inputs + more) in
      (left_as s (many ((ms left).inputs + more)) (omega (arith, n)) (omega (arith, n, same_counts s))).taken

  machine_is : (s : Side) (x y : State) → exec (ord s) p uncounted p.main bodies (simple w) 0 0 x ≡ leaves on 0 y
      → machine_does (ord s) p uncounted f.result w 0 0 x ≡ leaves on 0 y
  machine_is s x y e =
      sym (ap (λ (z : Option Function). machine_does (ord s) p uncounted (result_in z) w 0 0 x) here) ∙ e

  -- the operation of the analysis, over what it does to the cells
  pub finish : (then_base : Inputs) → GoesOn D p ord then_base ns (simple_step D p pair_mode.Both f.result w k)
      → StepStands D p ord ns transfer
  finish then_base goes =
      let is = transfer_is goes.next goes.is in
      let count = counts left in
      record {
        next = goes.next;
        then_base = then_base;
        is = is;
        stands = record {
          moved = goes.moved;
          outputs = alike;
          runs = λ inputs l. runs_then is inputs l (omega (arith, l, count));
        };
      }
    where
      runs_then : transfer ≡ record { faults = []; next = Some goes.next } → (inputs : List ℕ)
          → (ns left).inputs ≤ length inputs → (ms left).inputs ≤ length inputs
          → AreTypedRuns D p ord ns goes.next inputs
      runs_then is inputs l m =
          let r = h.runs inputs m in
          let count = counts left in
          let a : (s : Side) → LeftAs (ord s) p inputs 0 more (put_out_by (simple w)) (ms s) (ns s)
          (exec (ord s) p uncounted p.main bodies (simple w) 0 0 (r.states s))
          = λ s. left_as s inputs m (omega (arith, l, count, same_counts s)) in
          let laws : Sure p ord (cell_ops D p ord) (ConcretisesTyped p (StandsFor D p ord))
          = sure p formed ord (cell_ops D p ord) (StandsFor D p ord) (cells_lawful D law p ord formed other) in
          let met = laws.simple_sound p.main f here w (blocks_of_main (slice_get p.functions p.main)) fits 0 0 0 k
          (r.states left) (r.states right) r.typed (ap (λ (x : Transfer (Known N)). x.faults) is) in
          record {
            states = λ s. (a s).state;
            follow = λ s. (a s).follows;
            typed = reached (ConcretisesTyped p (StandsFor D p ord)) transfer.next 0
                (machine_does (ord left) p uncounted f.result w 0 0 (r.states left))
                (machine_does (ord right) p uncounted f.result w 0 0 (r.states right)) goes.next (a left).state
                (a right).state
                (subst (λ v. Meets (ConcretisesTyped p (StandsFor D p ord)) v transfer.next 0 0
                (machine_does (ord left) p uncounted f.result w 0 0 (r.states left))
                (machine_does (ord right) p uncounted f.result w 0 0 (r.states right))) way met)
                (ap (λ (x : Transfer (Known N)). x.next) is)
                (machine_is left (r.states left) (a left).state (a left).is)
                (machine_is right (r.states right) (a right).state (a right).is);
          }

-- ---- each statement

pub steps_stand : {N : Type 0} (D : Ops N) → Lawful D → StepsStand D
steps_stand D law keeps p ord formed form other f here base ms ns k h nothing of moving fits steps alike =
    finish D law p ord formed form other f here base ms ns k h nothing refl moving fits steps alike base (record {
      next = k;
      is = refl;
      moved = moved_same D p ord base ms ns k h.moved
          (λ s. ap (λ (m : Machine). m.memory) (sym (ok_same (ms s) (ns s) (steps s))))
          (λ s. ap (λ (m : Machine). m.inputs) (sym (ok_same (ms s) (ns s) (steps s))));
    })
steps_stand D law keeps p ord formed form other f here base ms ns k h (assign w a e) of moving fits steps alike =
    finish D law p ord formed form other f here base ms ns k h (assign w a e) refl moving fits steps alike base
    (assignments_keep D law keeps p ord formed form base ms ns k
    (known D law p ord formed form other f here base ms ns k h (assign w a e) refl moving fits steps alike) pair_mode.Both
    f.result w a e moving (result_type p.blocks f.result) fits
    (record { assigned = λ s r. steps s; still = λ s r. absurd (both_run s r) }))
  where
    both_run : (s : Side) → runs pair_mode.Both s ≡ false → ⊥
    both_run left r = let d : true ≡ false = r in absurd cc
    both_run right r = let d : true ≡ false = r in absurd cc
steps_stand D law keeps p ord formed form other f here base ms ns k h (input t d) of moving fits steps alike =
    let q = inputs_keep D law p ord formed form base ms ns k
    (known D law p ord formed form other f here base ms ns k h (input t d) refl moving fits steps alike) f.result t d moving
    (result_type p.blocks f.result) fits steps in
    finish D law p ord formed form other f here base ms ns k h (input t d) refl moving fits steps alike
    (with_input base (ms left).inputs q.cell) q.goes
steps_stand {N = N} D law keeps p ord formed form other f here base ms ns k h (output t e) of moving fits steps alike =
    finish D law p ord formed form other f here base ms ns k h (output t e) refl moving fits steps alike base (record {
      next = k;
      is = outputs_agree D law keeps p ord formed form base ms k
          (known D law p ord formed form other f here base ms ns k h (output t e) refl moving fits steps alike) f.result t e
          (and_parts (not (is_signed t)) (is_moving e) moving).1 (result_type p.blocks f.result) fits (out left).0 said;
      moved = moved_same D p ord base ms ns k h.moved (λ s. ap (λ (m : Machine). m.memory) (sym (out_is s)))
          (λ s. ap (λ (m : Machine). m.inputs) (sym (out_is s)));
    })
  where
    out : (s : Side) → (xs : List Symbol) × (symbols (ord s) (ms s).memory e ≡ Ok xs)
        × (◌≡◌ {A = Result Machine Stop} (Ok (puts_out (ms s) xs)) (Ok (ns s)))
    out s = went_on (symbols (ord s) (ms s).memory e) (λ xs. Ok (puts_out (ms s) xs)) (ns s) (steps s)

    out_is : (s : Side) → puts_out (ms s) (out s).0 ≡ ns s
    out_is s = ok_same (puts_out (ms s) (out s).0) (ns s) (out s).2

    same : (out left).0 ≡ (out right).0
    same =
        last_same (ms left).outputs (out left).0 (out right).0
        (ap (λ (m : Machine). m.outputs) (out_is left) ∙ alike ∙ sym (ap (λ (m : Machine). m.outputs) (out_is right))
        ∙ ap (λ os. os ++ ((out right).0 ∷ [])) (sym h.outputs))

    said : (s : Side) → symbols (ord s) (ms s).memory e ≡ Ok (out left).0
    said left = (out left).1
    said right = (out right).1 ∙ ap Ok (sym same)
steps_stand D law keeps p ord formed form other f here base ms ns k h (eval e) of moving fits steps alike = elim of [ ]
steps_stand D law keeps p ord formed form other f here base ms ns k h (clear a ty) of moving fits steps alike = elim of [ ]
steps_stand D law keeps p ord formed form other f here base ms ns k h (copy_aggregate a b ty) of moving fits steps alike = elim of [ ]
steps_stand D law keeps p ord formed form other f here base ms ns k h (copy_bytes a b n) of moving fits steps alike = elim of [ ]
steps_stand D law keeps p ord formed form other f here base ms ns k h (fill a e n) of moving fits steps alike = elim of [ ]
steps_stand D law keeps p ord formed form other f here base ms ns k h (read_bytes e n) of moving fits steps alike = elim of [ ]
steps_stand D law keeps p ord formed form other f here base ms ns k h (write_bytes e n) of moving fits steps alike = elim of [ ]
steps_stand D law keeps p ord formed form other f here base ms ns k h (returns e) of moving fits steps alike = elim of [ ]
