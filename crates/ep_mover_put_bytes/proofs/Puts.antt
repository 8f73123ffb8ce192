-- Bytes are put out on both machines of a mover: nothing is wrong, and all is known again.
use Rattle.std.proofs.Common.{◌≡◌, ℕ, ◌+◌, ◌<◌, ◌≤◌, true, if◌then◌else◌}
use Rattle.std.proofs.Common.{List, [], ◌∷◌, length, slice_get, Option, Some, None, Ok}
use Rattle.std.proofs.Common.{⊎_elim, refl, sym, ap, ◌∙◌, subst, arith}
use Rattle.std.proofs.lemmas.Bool.{and_parts, leb-true}
use Rattle.std.proofs.lemmas.Option.{slice_get-map}
use Rattle.std.specs.Prelude.{nat_le}
use Rattle.ep_int.specs.declared.types.Order.{Order}
use Rattle.ep_alarms.specs.declared.types.AlarmKind.TheVariants.{U5, U6}
use Rattle.ep_domain.specs.Domain.{Ops, Lawful}
use Rattle.ep_cells.specs.States.{Known}
use Rattle.ep_cells.specs.Meaning.{Memories}
use Rattle.ep_cell_ranges.specs.Spots.{Spot}
use Rattle.ep_cell_ranges.specs.Tests.{is_model}
use Rattle.ep_cell_ranges.proofs.Basics.{is_model-self}
use Rattle.ep_cell_states.proofs.Lawful.{cells_lawful}
use Rattle.ep_core.specs.Program.{Expr, Simple, write_bytes, simple, Block, Function, Program}
use Rattle.ep_core.specs.Exec.{State, on as goes, Outcome, leaves, uncounted, Going, result_in, exec, size_at}
use Rattle.ep_core.specs.Exec.{does as machine_does}
use Rattle.ep_core.specs.Runs.{Side, left, right}
use Rattle.ep_core.specs.WellFormed.{result_type, simple_fits, is_well_formed, is_length, is_address, has_sort}
use Rattle.ep_core.specs.WellFormed.{blocks_fit}
use Rattle.ep_core.proofs.Operands.{sizes as sizes_fit}
use Rattle.ep_core.proofs.Sorts.{pointer_where}
use Rattle.ep_equalities.specs.declared.pair.Mode.TheVariants as pair_mode
use Rattle.ep_equalities.specs.declared.pair.Fault.{Fault}
use Rattle.ep_equalities.specs.Same.{is_same}
use Rattle.ep_evaluation.specs.Given.{Given, on, shown_if, faults_on}
use Rattle.ep_evaluation.specs.Accesses.{bounds_of}
use Rattle.ep_evaluation.specs.Evaluation.{expression, pointer as pointer_in, targets_of, is_null}
use Rattle.ep_evaluation.specs.Laws.{sizes_of, IsKept}
use Rattle.ep_evaluation.proofs.Basics.{faults_on-none}
use Rattle.ep_pass.specs.States.{Both, Transfer}
use Rattle.ep_pass.specs.Laws.{ConcretisesTyped, AreOther}
use Rattle.ep_pass.proofs.Sure.{Sure, Reaches, Meets, meet_on, meet_none}
use Rattle.ep_pass.proofs.Keeping.{sure}
use Rattle.ep_transfers.specs.Cells.{told_of, when_known, cell_ops}
use Rattle.ep_transfers.specs.Laws.{StandsFor}
use Rattle.ep_transfers.specs.Places.{Places, has_places, places_of, range_faults}
use Rattle.ep_transfers.specs.Transfers.{Stepped, stepped, after_faults, bytes_out, simple_step}
use Rattle.ep_movers.specs.Forms.{is_moving_simple, has_moving_form}
use Rattle.ep_movers.specs.Movers.{Machine, bytes_in, target_of, bytes_put_out, does}
use Rattle.ep_mover_bits.specs.Laws.{Inputs}
use Rattle.ep_mover_cells.proofs.Loaded.{went_on}
use Rattle.ep_mover_known.specs.Laws.{AreRuns}
use Rattle.ep_mover_known.proofs.Telling.{many, length_many}
use Rattle.ep_mover_runs.specs.Following.{LeftAs, Comes, blocks_of_main}
use Rattle.ep_mover_runs.proofs.Transfers.{put_inside}
use Rattle.ep_mover_runs.proofs.Whole.{statements_follow}
use Rattle.ep_mover_values.proofs.Loads.{size_by}
use Rattle.ep_mover_values.proofs.Places.{no_faults}
use Rattle.ep_single_runs.specs.Laws.{IsOneRun}
use Rattle.ep_single_runs.proofs.Places.{runs_are_one}
use Rattle.ep_mover_steps.specs.Laws.{AreTypedRuns, Stands, StepStands}
use Rattle.ep_mover_steps.proofs.Stepping.{moved_same, known_of}
use Rattle.ep_mover_put_bytes.specs.Laws.{PutBytesStand}
use Rattle.ep_mover_put_bytes.proofs.Bytes.{Puts, puts_all, puts_memory, puts_inputs, bytes_agree}
use Rattle.ep_mover_put_bytes.proofs.Pointers.{IsPointed, pointed}

module _ {S : Type 0} (K : S → State → State → Type 0) where
  reached : (u : Option S) (n : ℕ) (c d : Outcome) (k : S) (x y : State) → Meets K goes u n n c d → u ≡ Some k
      → c ≡ leaves goes n x → d ≡ leaves goes n y → K k x y
  reached u n c d k x y (meet_on {x = a} {y = b} i) e f g =
      let p : a ≡ x = cc in
      let q : b ≡ y = cc in
      subst (λ v. Reaches K v x y) e (subst (λ s. Reaches K u x s) q (subst (λ s. Reaches K u s b) p i))
  reached u n c d k x y (meet_none i) e f g = absurd (cc)

both_places : (l r u v : List Spot) → l ≡ u → r ≡ v
    → ◌≡◌ {A = Places} (record { left = l; right = r }) (record { left = u; right = v })
both_places l r u v e f =
    ap (λ (s : List Spot). record { left = s; right = r }) e ∙ ap (λ (s : List Spot). record { left = u; right = s }) f

module _ {N : Type 0} (D : Ops N) (law : Lawful D) (p : Program) (ord : Side → Order)
    (formed : is_well_formed p ≡ true) (form : has_moving_form p ≡ true) (other : AreOther ord) (f : Function)
    (here : slice_get p.functions p.main ≡ Some f) (base : Inputs) (ms ns : Side → Machine) (k : Known N)
    (h : Stands D p ord base ms k) (e : Expr) (n : ℕ) (moving : is_moving_simple p (write_bytes e n) ≡ true)
    (fits : simple_fits p p.main (result_type p.blocks f.result) (write_bytes e n)
    (blocks_of_main (slice_get p.functions p.main)) ≡ true)
    (steps : (s : Side) → does (ord s) (write_bytes e n) (ms s) ≡ Ok (ns s))
    (alike : (ns left).outputs ≡ (ns right).outputs) where
  abbrev w : Simple
  w = write_bytes e n

  abbrev seen : List ℕ
  seen = blocks_of_main (slice_get p.functions p.main)

  abbrev zs : List ℕ
  zs = sizes_of p.blocks

  fit : blocks_fit p.types p.blocks ≡ true
  fit = sizes_fit p formed

  -- some machines
  abbrev count : ℕ
  count = (ms left).inputs

  some : count ≤ length (many count)
  some = omega (arith, length_many count)

  abbrev run : AreRuns D p ord ms k (many count)
  run = (known_of D p ord base ms k h).runs (many count) some

  abbrev m : Memories
  m = record { left = (run.states left).memory; right = (run.states right).memory }

  kept : IsKept D p ord k m
  kept = run.kept

  -- ---- what each machine puts out, and from where

  record IsPut (s : Side) : Type 0 where
    at : ℕ × ℕ
    said : target_of (ms s).memory e ≡ Ok at
    put : bytes_put_out (bytes_in (ms s).memory at.0) at.1 n (ms s) ≡ Ok (ns s)

  is_put : (s : Side) → IsPut s
  is_put s =
      let x = went_on (target_of (ms s).memory e)
      (λ (w : ℕ × ℕ). bytes_put_out (bytes_in (ms s).memory w.0) w.1 n (ms s)) (ns s) (steps s) in
      record { at = x.0; said = x.1; put = x.2 }

  abbrev at : Side → ℕ × ℕ
  at s = (is_put s).at

  puts : (s : Side) → Puts (bytes_in (ms s).memory (at s).0) n (at s).1 (ms s) (ns s)
  puts s = puts_all (bytes_in (ms s).memory (at s).0) n (at s).1 (ms s) (ns s) (is_put s).put

  parts : (is_length n ≡ true) × (is_address p.types p.blocks seen e ≡ true)
  parts = and_parts (is_length n) (is_address p.types p.blocks seen e) fits

  positive : 0 < n
  positive =
      let l = leb-true 1 n (and_parts (nat_le 1 n) (nat_le n 65536) parts.0).0 in omega (arith, l)

  inside : (s : Side) → (at s).1 + n ≤ size_at (ord s) p (at s).0
  inside s =
      let z = (run.follow s).sizes (at s).0 in
      ⊎_elim (λ i. absurd (let j : ⊥ = omega (arith, i, positive) in j)) (λ l. omega (arith, l, z))
      (put_inside (bytes_in (ms s).memory (at s).0) n (at s).1 (ms s) (ns s) (is_put s).put)

  -- ---- the places

  abbrev from : Given N
  from = (expression D zs e).gives pair_mode.Both k

  is_pointed : IsPointed D law p ord fit seen k m kept ms (λ s b. (run.follow s).sizes b) at n positive inside e
  is_pointed =
      let ty = pointer_where p.types p.blocks seen (has_sort p.types p.blocks seen e) parts.1 in
      pointed D law p ord fit seen k m kept ms (λ s b. (run.follow s).sizes b) at n positive inside e ty.0 moving ty.1
      (λ s. (is_put s).said)

  one_run : (s : Side) → IsOneRun D zs n (on from.pair s) (at s).0 (at s).1
  one_run s =
      runs_are_one D law zs n (on from.pair s) (at s).0 (at s).1 (size_at (ord s) p (at s).0) (is_pointed.each s)
      positive
      (slice_get-map (λ (y : Block). y.size) p.blocks (at s).0
      ∙ size_by (ord s) p (slice_get p.blocks (at s).0) (omega (arith, inside s, positive)))
      (inside s)

  abbrev nulls : List Fault
  nulls = faults_on pair_mode.Both U6 (λ s. shown_if (is_null D zs (pointer_in D (on from.pair s))))

  abbrev bounds : List Fault
  bounds = faults_on pair_mode.Both U5 (λ s. bounds_of D zs n (targets_of D zs (pointer_in D (on from.pair s))))

  quiet : range_faults D zs pair_mode.Both n from.pair ≡ []
  quiet =
      no_faults nulls bounds
      (faults_on-none pair_mode.Both U6 (λ s. shown_if (is_null D zs (pointer_in D (on from.pair s))))
      (λ s r. ap shown_if (one_run s).not_null))
      (faults_on-none pair_mode.Both U5 (λ s. bounds_of D zs n (targets_of D zs (pointer_in D (on from.pair s))))
      (λ s r. (one_run s).inside))

  abbrev found : Places
  found = places_of D zs n 1 from.pair

  found_is : found ≡ record { left = at left ∷ []; right = at right ∷ [] }
  found_is =
      both_places found.left found.right (at left ∷ []) (at right ∷ []) (one_run left).place (one_run right).place

  -- ---- the transfer

  abbrev out_from : Places → Stepped N
  out_from q =
      if has_places pair_mode.Both q then bytes_out D pair_mode.Both (is_same D from.pair) k q 0 n else stepped [] None

  step_is : simple_step D p pair_mode.Both f.result w k ≡ stepped [] (Some k)
  step_is =
      let l : (at left).1 ≡ (at left).1 + 0 = omega arith in
      let r : (at right).1 ≡ (at right).1 + 0 = omega arith in
      ap (λ fs. after_faults fs (after_faults [] (after_faults (range_faults D zs pair_mode.Both n from.pair)
      (out_from found)))) is_pointed.quiet
      ∙ ap (λ fs. after_faults [] (after_faults [] (after_faults fs (out_from found)))) quiet
      ∙ ap (λ q. after_faults [] (after_faults [] (after_faults [] (out_from q)))) found_is
      ∙ ap (λ z. after_faults [] (after_faults [] (after_faults [] z)))
      (bytes_agree D law p ord base ms k h.moved m kept (is_same D from.pair) (at left).0 (at left).1 (at right).0
      (at right).1 n 0 (at left).1 (at right).1 (ms left) (ms right) (ns left) (ns right) l r (puts left) (puts right)
      alike)

  abbrev transfer : Transfer (Known N)
  transfer = (cell_ops D p ord).simple Both f.result w k

  transfer_is : transfer ≡ record { faults = []; next = Some k }
  transfer_is =
      ap (λ b. told_of D (when_known b (simple_step D p pair_mode.Both f.result w k)))
      (subst (λ d. is_model d p.types.model ≡ true) (sym h.moved.state.model) (is_model-self p.types.model))
      ∙ ap (told_of D) step_is

  -- ---- what each machine does

  bodies : ℕ → Going
  bodies i n s = leaves goes n s

  same_counts : (s : Side) → (ms s).inputs ≡ (ms left).inputs
  same_counts left = refl
  same_counts right = sym h.moved.counts

  same_inputs : (s : Side) → (ns s).inputs ≡ (ms s).inputs
  same_inputs s = puts_inputs (bytes_in (ms s).memory (at s).0) n (at s).1 (ms s) (ns s) (puts s)

  same_memory : (s : Side) → (ns s).memory ≡ (ms s).memory
  same_memory s = puts_memory (bytes_in (ms s).memory (at s).0) n (at s).1 (ms s) (ns s) (puts s)

  left_as : (s : Side) (inputs : List ℕ) (l : (ms left).inputs ≤ length inputs)
      → LeftAs (ord s) p inputs 0 0 n (ms s) (ns s)
      (exec (ord s) p uncounted p.main bodies (simple w) 0 0 ((h.runs inputs l).states s))
  left_as s inputs l =
      let r = h.runs inputs l in
      subst (λ z. Comes (ord s) p inputs 0 0 n (ms s) z
      (exec (ord s) p uncounted p.main bodies (simple w) 0 0 (r.states s))) (steps s)
      ((statements_follow p formed form (ord s) inputs (r.states s) (ms s) (r.follow s) (simple w) moving p.main
      (result_type p.blocks f.result) fits bodies 0 0).enough (omega (arith, l, same_counts s)))

  machine_is : (s : Side) (x y : State) → exec (ord s) p uncounted p.main bodies (simple w) 0 0 x ≡ leaves goes 0 y
      → machine_does (ord s) p uncounted f.result w 0 0 x ≡ leaves goes 0 y
  machine_is s x y q =
      sym (ap (λ (z : Option Function). machine_does (ord s) p uncounted (result_in z) w 0 0 x) here) ∙ q

  runs_then : (inputs : List ℕ) → (ms left).inputs ≤ length inputs → AreTypedRuns D p ord ns k inputs
  runs_then inputs l =
      let r = h.runs inputs l in
      let a : (s : Side) → LeftAs (ord s) p inputs 0 0 n (ms s) (ns s)
      (exec (ord s) p uncounted p.main bodies (simple w) 0 0 (r.states s)) = λ s. left_as s inputs l in
      let laws : Sure p ord (cell_ops D p ord) (ConcretisesTyped p (StandsFor D p ord))
      = sure p formed ord (cell_ops D p ord) (StandsFor D p ord) (cells_lawful D law p ord formed other) in
      let met = laws.simple_sound p.main f here w seen fits 0 0 0 k (r.states left) (r.states right) r.typed
      (ap (λ (x : Transfer (Known N)). x.faults) transfer_is) in
      record {
        states = λ s. (a s).state;
        follow = λ s. (a s).follows;
        typed = reached (ConcretisesTyped p (StandsFor D p ord)) transfer.next 0
            (machine_does (ord left) p uncounted f.result w 0 0 (r.states left))
            (machine_does (ord right) p uncounted f.result w 0 0 (r.states right)) k (a left).state (a right).state met
            (ap (λ (x : Transfer (Known N)). x.next) transfer_is)
            (machine_is left (r.states left) (a left).state (a left).is)
            (machine_is right (r.states right) (a right).state (a right).is);
      }

  puts_step : StepStands D p ord ns transfer
  puts_step = record {
    next = k;
    then_base = base;
    is = transfer_is;
    stands = record {
      moved = moved_same D p ord base ms ns k h.moved same_memory same_inputs;
      outputs = alike;
      runs = λ inputs l. runs_then inputs (omega (arith, l, same_inputs left));
    };
  }

pub puts_stand : {N : Type 0} (D : Ops N) → Lawful D → PutBytesStand D
puts_stand D law p ord formed form other f here base ms ns k h e n moving fits steps alike =
    puts_step D law p ord formed form other f here base ms ns k h e n moving fits steps alike
