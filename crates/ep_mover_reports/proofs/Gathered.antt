-- The operations on cells keep what is known of movers, over what is shown of each statement.
use Rattle.std.proofs.Common.{◌≡◌, ℕ, true, false, List, slice_get, Some, Ok, sym, ap, subst}
use Rattle.ep_int.specs.declared.types.Order.{Order}
use Rattle.ep_domain.specs.Domain.{Ops}
use Rattle.ep_cells.specs.States.{Known}
use Rattle.ep_core.specs.Program.{Simple, nothing, eval, assign, clear, copy_aggregate, copy_bytes, fill}
use Rattle.ep_core.specs.Program.{input, output, read_bytes, write_bytes, returns, Function, Program}
use Rattle.ep_core.specs.Exec.{frame_of}
use Rattle.ep_core.specs.Runs.{Side, left, right}
use Rattle.ep_core.specs.WellFormed.{result_type, simple_fits, is_well_formed}
use Rattle.ep_core.proofs.Sorts.{never}
use Rattle.ep_pass.specs.States.{Both, Transfer}
use Rattle.ep_pass.specs.Laws.{AreOther}
use Rattle.ep_evaluation.specs.Given.{runs, alone}
use Rattle.ep_transfers.specs.Cells.{cell_ops}
use Rattle.ep_transfers.specs.Laws.{StandsFor}
use Rattle.ep_movers.specs.Forms.{is_moving_simple, has_moving_form}
use Rattle.ep_movers.specs.Movers.{Machine, does}
use Rattle.ep_mover_ends.specs.Laws.{EndsAreQuiet}
use Rattle.ep_mover_laws.specs.Moving.{GoesOnWith, beside, KnownOf, KeepsMoved}
use Rattle.ep_mover_runs.specs.Following.{blocks_of_main}
use Rattle.ep_mover_steps.specs.Laws.{IsOfNumber, of_none, of_assign, of_input, of_output, Stands, StepStands, StepsStand}
use Rattle.ep_mover_steps.specs.Laws.{AlonesStand}
use Rattle.ep_mover_values.specs.Naturals.{KeepsNaturals}
use Rattle.ep_mover_entry.specs.Laws.{IsMoved, EntriesAreMoved}
use Rattle.ep_mover_put_bytes.specs.Laws.{PutBytesStand}
use Rattle.ep_mover_take_bytes.specs.Laws.{TakeBytesStand}

module _ {N : Type 0} (D : Ops N) (naturals : KeepsNaturals D) (steps : StepsStand D) (alones : AlonesStand D)
    (entries : EntriesAreMoved D) (takes : TakeBytesStand D) (puts : PutBytesStand D) (ends : EndsAreQuiet D) (p : Program) (ord : Side → Order)
    (formed : is_well_formed p ≡ true) (form : has_moving_form p ≡ true) (other : AreOther ord) where
  abbrev IsKnown : (Side → Machine) → Known N → Type 0
  IsKnown ms k = KnownOf p ord (StandsFor D p ord) (IsMoved D p ord) ms k

  stands : (ms : Side → Machine) (k : Known N) (h : IsKnown ms k) → Stands D p ord h.moved.0 ms k
  stands ms k h = record {
    moved = h.moved.1;
    runs = λ inputs enough.
        (let s = h.stands inputs enough in record { states = s.machine; follow = s.follows; typed = s.stands });
    outputs = h.outputs;
  }

  goes : (ns : Side → Machine) (x : Transfer (Known N)) → StepStands D p ord ns x → GoesOnWith (IsMoved D p ord ns) x
  goes ns x h = record { state = h.next; is = h.is; holds = (h.then_base, h.stands.moved) }

  module _ (f : Function) (at : slice_get p.functions p.main ≡ Some f) where
    abbrev fits : Simple → List ℕ → Type 0
    fits w seen = simple_fits p p.main (result_type p.blocks f.result) w seen ≡ true

    -- the blocks that main's statements name
    named : (w : Simple) → fits w (frame_of f) → fits w (blocks_of_main (slice_get p.functions p.main))
    named w h = subst (fits w) (sym (ap blocks_of_main at)) h

    module _ (ms ns : Side → Machine) (k : Known N) (h : IsKnown ms k) where
      number : (w : Simple) → IsOfNumber w → is_moving_simple p w ≡ true → fits w (frame_of f)
          → ((i : Side) → does (ord i) w (ms i) ≡ Ok (ns i)) → (ns left).outputs ≡ (ns right).outputs
          → GoesOnWith (IsMoved D p ord ns) ((cell_ops D p ord).simple Both f.result w k)
      number w of m fit r same =
          goes ns ((cell_ops D p ord).simple Both f.result w k)
          (steps naturals p ord formed form other f at h.moved.0 ms ns k (stands ms k h) w of m (named w fit) r same)

      each : (w : Simple) → is_moving_simple p w ≡ true → fits w (frame_of f)
          → ((i : Side) → does (ord i) w (ms i) ≡ Ok (ns i)) → (ns left).outputs ≡ (ns right).outputs
          → GoesOnWith (IsMoved D p ord ns) ((cell_ops D p ord).simple Both f.result w k)
      each nothing m fit r same = number nothing of_none m fit r same
      each (assign w a e) m fit r same = number (assign w a e) (of_assign w a e) m fit r same
      each (input t d) m fit r same = number (input t d) (of_input t d) m fit r same
      each (output t e) m fit r same = number (output t e) (of_output t e) m fit r same
      each (read_bytes e n) m fit r same =
          goes ns ((cell_ops D p ord).simple Both f.result (read_bytes e n) k)
          (takes naturals p ord formed form other f at h.moved.0 ms ns k (stands ms k h) e n m
          (named (read_bytes e n) fit) r same)
      each (write_bytes e n) m fit r same =
          goes ns ((cell_ops D p ord).simple Both f.result (write_bytes e n) k)
          (puts p ord formed form other f at h.moved.0 ms ns k (stands ms k h) e n m
          (named (write_bytes e n) fit) r same)
      each (eval e) m fit r same = never m
      each (clear a ty) m fit r same = never m
      each (copy_aggregate a b ty) m fit r same = never m
      each (copy_bytes a b n) m fit r same = never m
      each (fill a e n) m fit r same = never m
      each (returns e) m fit r same = never m

  still : (i : Side) (ms ns : Side → Machine) → ns (beside i) ≡ ms (beside i) → (s : Side) → runs (alone i) s ≡ false
      → ns s ≡ ms s
  still left ms ns e left h = absurd cc
  still left ms ns e right h = e
  still right ms ns e left h = e
  still right ms ns e right h = absurd cc

  pub cells_keep : KeepsMoved p ord (cell_ops D p ord) (StandsFor D p ord) (IsMoved D p ord)
  cells_keep = record {
    entry = λ f at. entries p ord formed form other f at;
    both = λ f at w m fit ms ns k h r same. each f at ms ns k h w m fit r same;
    alone = λ f at i w a e m fit ms ns k h r rest. goes ns _
        (alones naturals p ord formed form other f at h.moved.0 ms ns k (stands ms k h) i w a e m
        (named f at (assign w a e) fit) r (still i ms ns rest));
    ended = λ f at ms k h zero. ends p ord formed form other f at h.moved.0 ms k (stands ms k h) zero;
  }
