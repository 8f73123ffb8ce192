-- A pointer to the begin of a block: the bytes that are taken go to the one run there, without a fault.
use Rattle.std.proofs.Common.{◌≡◌, ℕ, ◌<◌, ◌≤◌, true, false, nat_eq, nat_le, List, [], ◌∷◌, length}
use Rattle.std.proofs.Common.{slice_get, Option, Some, None, Ok, refl, ap, ◌∙◌, arith}
use Rattle.std.specs.Option.{option_map, option_map_or}
use Rattle.std.proofs.lemmas.Bool.{and_from, and_parts, or_left, or_right, eqb-true, leb-true}
use Rattle.std.proofs.lemmas.Option.{slice_get-map}
use Rattle.ep_int.specs.declared.types.IntType.TheVariants.{U8}
use Rattle.ep_int.specs.declared.types.Order.{Order}
use Rattle.ep_int.specs.declared.types.Scalar.{Scalar}
use Rattle.ep_int.specs.declared.types.Scalar.TheVariants.{Int}
use Rattle.ep_int.specs.Memory.{pointer, contains}
use Rattle.ep_int.proofs.Basics.{nat_eq-self}
use Rattle.ep_alarms.specs.declared.types.AlarmKind.TheVariants.{U5, U6}
use Rattle.ep_domain.specs.Domain.{Ops, Lawful}
use Rattle.ep_cells.specs.States.{Known}
use Rattle.ep_cells.specs.Meaning.{Memories}
use Rattle.ep_core.specs.Program.{Expr, const, null_value, load, addr_of, binary, convert, compare, ptr_compare}
use Rattle.ep_core.specs.Program.{logical_and, logical_or, logical_not, conditional, ptr_add, cast, block, deref}
use Rattle.ep_core.specs.Program.{member, element, read_bytes, Block, Program}
use Rattle.ep_core.specs.Exec.{size_at, block_size}
use Rattle.ep_core.specs.Runs.{Side, left, right, is_global}
use Rattle.ep_core.specs.WellFormed.{is_well_formed, block_has, is_length, is_address, is_named, place_has, simple_fits}
use Rattle.ep_core.proofs.Operands.{sizes as blocks_of}
use Rattle.ep_core.proofs.Sorts.{never}
use Rattle.ep_equalities.specs.declared.pair.Mode.TheVariants.{Both}
use Rattle.ep_evaluation.specs.Given.{Given, on, shown_if, faults_on}
use Rattle.ep_evaluation.specs.Accesses.{bounds_of}
use Rattle.ep_evaluation.specs.Evaluation.{expression, place, pointer as pointer_in, targets_of, is_null}
use Rattle.ep_evaluation.specs.Laws.{sizes_of}
use Rattle.ep_evaluation.proofs.Basics.{faults_on-none}
use Rattle.ep_cell_ranges.specs.Spots.{Spot}
use Rattle.ep_transfers.specs.Places.{Places, has_places, places_of, range_faults}
use Rattle.ep_transfers.specs.Transfers.{stepped, if_goes_on, input_pair, simple_step}
use Rattle.ep_transfers.specs.Writes.{item_of, underway, write_run}
use Rattle.ep_movers.specs.Forms.{is_whole, is_moving_simple}
use Rattle.ep_movers.specs.Movers.{Machine, bytes_in, does}
use Rattle.ep_mover_assigned.specs.Laws.{IsKnown}
use Rattle.ep_mover_bits.specs.Laws.{Inputs}
use Rattle.ep_mover_known.specs.Laws.{AreRuns}
use Rattle.ep_mover_known.proofs.Telling.{many, length_many}
use Rattle.ep_mover_runs.specs.Following.{blocks_of_main}
use Rattle.ep_mover_stores.specs.Laws.{GoesOn}
use Rattle.ep_mover_values.specs.Laws.{IsAt}
use Rattle.ep_mover_values.proofs.Places.{no_faults, places_at}
use Rattle.ep_single_runs.specs.Laws.{IsOneRun}
use Rattle.ep_single_runs.proofs.Places.{runs_are_one}
use Rattle.ep_mover_input_bytes.specs.Laws.{InputBytesKeep}
use Rattle.ep_mover_take_bytes.proofs.Runs.{after_inputs, all_keep}

-- a block of n bytes
record IsOfSize (p : Program) (b n : ℕ) : Type 0 where
  of_block : Block
  is : slice_get p.blocks b ≡ Some of_block
  size : of_block.size ≡ n

is_of_size : (p : Program) (b n : ℕ) (o : Option Block) → slice_get p.blocks b ≡ o
    → option_map_or (λ (d : Block). nat_eq d.size n) o false ≡ true → IsOfSize p b n
is_of_size p b n None e h = never h
is_of_size p b n (Some d) e h = record { of_block = d; is = e; size = eqb-true d.size n h }

module _ {N : Type 0} (D : Ops N) (law : Lawful D) (p : Program) (ord : Side → Order)
    (formed : is_well_formed p ≡ true) (base : Inputs) (ms : Side → Machine) (k : Known N)
    (known : IsKnown D p ord base ms k) (b n : ℕ) (whole : is_whole p (Some b) n ≡ true) (long : is_length n ≡ true) where
  abbrev run : AreRuns D p ord ms k (many (ms left).inputs)
  run = known.runs (many (ms left).inputs) (omega (arith, length_many (ms left).inputs))

  abbrev m : Memories
  m = record { left = (run.states left).memory; right = (run.states right).memory }

  d : IsOfSize p b n
  d = is_of_size p b n (slice_get p.blocks b) refl whole

  some : 0 < n
  some = let l = leb-true 1 n (and_parts (nat_le 1 n) (nat_le n 65536) long).0 in omega (arith, l)

  sized : slice_get (sizes_of p.blocks) b ≡ Some n
  sized =
      slice_get-map (λ (y : Block). y.size) p.blocks b ∙ ap (option_map (λ (y : Block). y.size)) d.is ∙ ap Some d.size

  abbrev to : Given N
  to = (expression D (sizes_of p.blocks) (addr_of (block b))).gives Both k

  typed : place_has p.types p.blocks (b ∷ []) (block b) d.of_block.ty ≡ true
  typed =
      and_from (is_named p.types p.blocks (b ∷ []) b)
      (block_has p.types p.blocks (b ∷ []) (slice_get p.blocks b) d.of_block.ty)
      (or_right (is_global (slice_get p.blocks b)) (contains b (b ∷ []))
      (or_left (nat_eq b b) false (nat_eq-self b)))
      (ap (λ o. block_has p.types p.blocks (b ∷ []) o d.of_block.ty) d.is ∙ nat_eq-self d.of_block.ty)

  at_start : (s : Side) → IsOneRun D (sizes_of p.blocks) n (on to.pair s) b 0
  at_start s =
      by s (places_at D law p ord (blocks_of p formed) (b ∷ []) (block b) d.of_block.ty refl typed k m run.kept b 0 refl
      Both (λ s r. (pointer b 0, refl)))
    where
      by : (s : Side) → IsAt D Both (place D (sizes_of p.blocks) (block b) Both k) b 0
          → IsOneRun D (sizes_of p.blocks) n (on to.pair s) b 0
      by left a = runs_are_one D law (sizes_of p.blocks) n (on to.pair left) b 0 n (a.each left refl) some sized (omega arith)
      by right a = runs_are_one D law (sizes_of p.blocks) n (on to.pair right) b 0 n (a.each right refl) some sized (omega arith)

  quiet : range_faults D (sizes_of p.blocks) Both n to.pair ≡ []
  quiet =
      no_faults (faults_on Both U6 (λ s. shown_if (is_null D (sizes_of p.blocks) (pointer_in D (on to.pair s)))))
      (faults_on Both U5
      (λ s. bounds_of D (sizes_of p.blocks) n (targets_of D (sizes_of p.blocks) (pointer_in D (on to.pair s)))))
      (faults_on-none Both U6 (λ s. shown_if (is_null D (sizes_of p.blocks) (pointer_in D (on to.pair s))))
      (λ s r. ap shown_if (at_start s).not_null))
      (faults_on-none Both U5
      (λ s. bounds_of D (sizes_of p.blocks) n (targets_of D (sizes_of p.blocks) (pointer_in D (on to.pair s))))
      (λ s r. (at_start s).inside))

  -- the bytes of a machine's block are no more
  ends : (s : Side) → length (bytes_in (ms s).memory b) ≤ n
  ends s =
      let e : size_at (ord s) p b ≡ n = ap (block_size (ord s) p) d.is ∙ d.size in
      let l = (run.follow s).sizes b in
      omega (arith, l, e)

  abbrev written : Places → Known N
  written q = (write_run D Both true (Int U8) q 0 n (underway k (item_of D (input_pair D Both U8 (Int U8))))).known

  abbrev places : (l r : List Spot) → Places
  places l r = record { left = l; right = r }

  read_is : (result : Option (ℕ × Scalar))
      → simple_step D p Both result (read_bytes (addr_of (block b)) n) k ≡ stepped [] (Some (after_inputs D b n k))
  read_is result =
      let q = places_of D (sizes_of p.blocks) n 1 to.pair in
      ap (λ fs. stepped fs (if_goes_on (has_places Both q) (written q))) quiet
      ∙ ap (λ l. stepped [] (if_goes_on (has_places Both (places l q.right)) (written (places l q.right))))
      (at_start left).place
      ∙ ap (λ r. stepped [] (if_goes_on (has_places Both (places ((b, 0) ∷ []) r)) (written (places ((b, 0) ∷ []) r))))
      (at_start right).place

module _ {N : Type 0} (D : Ops N) (law : Lawful D) (p : Program) (ord : Side → Order)
    (formed : is_well_formed p ≡ true) (base : Inputs) (ms ns : Side → Machine) (k : Known N)
    (known : IsKnown D p ord base ms k) (result : Option (ℕ × Scalar)) (ty : Option ℕ)
    (keep : InputBytesKeep D) where
  pub bytes_go : (e : Expr) (n : ℕ) → is_moving_simple p (read_bytes e n) ≡ true
      → simple_fits p p.main ty (read_bytes e n) (blocks_of_main (slice_get p.functions p.main)) ≡ true
      → ((s : Side) → does (ord s) (read_bytes e n) (ms s) ≡ Ok (ns s))
      → (then_base : Inputs) × GoesOn D p ord then_base ns (simple_step D p Both result (read_bytes e n) k)
  bytes_go (addr_of (block b)) n whole fits steps =
      let long = (and_parts (is_length n)
      (is_address p.types p.blocks (blocks_of_main (slice_get p.functions p.main)) (addr_of (block b))) fits).0 in
      let few = leb-true n 65536 (and_parts (nat_le 1 n) (nat_le n 65536) long).1 in
      let x = all_keep D p ord keep b n (omega (arith, few)) base ms ns k known.moved
      (ends D law p ord formed base ms k known b n whole long) steps in (
        x.0,
        record {
          next = after_inputs D b n k;
          is = read_is D law p ord formed base ms k known b n whole long result;
          moved = x.1;
        },
      )
  bytes_go (addr_of (deref e)) n whole fits steps = never whole
  bytes_go (addr_of (member a offset)) n whole fits steps = never whole
  bytes_go (addr_of (element a bound unit i)) n whole fits steps = never whole
  bytes_go (const t v) n whole fits steps = never whole
  bytes_go null_value n whole fits steps = never whole
  bytes_go (load what a) n whole fits steps = never whole
  bytes_go (binary op t a c) n whole fits steps = never whole
  bytes_go (convert t e) n whole fits steps = never whole
  bytes_go (compare c t a d) n whole fits steps = never whole
  bytes_go (ptr_compare c a d) n whole fits steps = never whole
  bytes_go (logical_and a c) n whole fits steps = never whole
  bytes_go (logical_or a c) n whole fits steps = never whole
  bytes_go (logical_not e) n whole fits steps = never whole
  bytes_go (conditional e a c) n whole fits steps = never whole
  bytes_go (ptr_add e unit i back) n whole fits steps = never whole
  bytes_go (cast e) n whole fits steps = never whole
