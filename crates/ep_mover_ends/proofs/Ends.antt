-- Main's result is four zero bytes on both machines: it has the same form on both sides, and nothing is wrong.
use Rattle.std.proofs.Common.{◌≡◌, ℕ, ◌≤◌, pos, true, false, ◌&&◌, ◌||◌, not, nat_eq, nat_le, List, [], ◌∷◌, ◌++◌}
use Rattle.std.proofs.Common.{length, map, slice_get, Option, Some, None, Ok, is_some, option_to_list, refl, sym, ap, ◌∙◌}
use Rattle.std.proofs.Common.{subst, arith}
use Rattle.std.specs.List.{list_all}
use Rattle.std.specs.Option.{option_and_then, option_map_or}
use Rattle.std.proofs.lemmas.Bool.{and_from, and_parts, or_left, or_right}
use Rattle.ep_int.specs.declared.types.IntType.TheVariants.{I32}
use Rattle.ep_int.specs.declared.types.Order.{Order}
use Rattle.ep_int.specs.declared.types.Order.TheVariants.{Little, Big, SwappedWords}
use Rattle.ep_int.specs.declared.types.Scalar.{Scalar}
use Rattle.ep_int.specs.declared.types.Scalar.TheVariants.{Int}
use Rattle.ep_int.specs.Memory.{pointer, contains}
use Rattle.ep_int.proofs.Basics.{some-injective, nat_eq-self}
use Rattle.ep_layout.specs.Table.{size}
use Rattle.ep_alarms.specs.declared.types.AlarmKind.TheVariants.{U4, U5, U6, U7, U10}
use Rattle.ep_domain.specs.Domain.{Ops, Lawful}
use Rattle.ep_pointers.specs.Value.{one_target}
use Rattle.ep_cells.specs.declared.cell.Value.TheVariants.{Num}
use Rattle.ep_cells.specs.Forms.{have_same_form}
use Rattle.ep_cells.specs.Reshare.{are_one_number}
use Rattle.ep_cells.specs.States.{Known}
use Rattle.ep_cells.specs.Meaning.{Memories}
use Rattle.ep_reads.specs.declared.read.ReadValue.{ReadValue}
use Rattle.ep_reads.specs.Read.{read}
use Rattle.ep_reads.proofs.Gathered.{of_reads}
use Rattle.ep_cell_ranges.specs.Tests.{is_model}
use Rattle.ep_cell_ranges.proofs.Basics.{is_model-self}
use Rattle.ep_core.specs.Program.{block, Block, Function, Program}
use Rattle.ep_core.specs.Runs.{Side, left, right, is_global, is_result}
use Rattle.ep_core.specs.WellFormed.{is_well_formed, block_fits, block_has, block_type, has_scalar}
use Rattle.ep_core.specs.WellFormed.{holds_scalar, is_number, is_named, place_has}
use Rattle.ep_core.proofs.Operands.{sizes as blocks_of}
use Rattle.ep_core.proofs.Sorts.{never, all_at}
use Rattle.ep_alarm_laws.proofs.OwnPlaces.{number_is, sized}
use Rattle.ep_equalities.specs.declared.pair.Mode.TheVariants.{Both}
use Rattle.ep_equalities.specs.declared.pair.Fault.{Fault}
use Rattle.ep_equalities.specs.Same.{is_same, are_one_pointer}
use Rattle.ep_evaluation.specs.Given.{Given, cells_of, on, shown_if, faults_on}
use Rattle.ep_evaluation.specs.Accesses.{reads_of, joined_reads, form_of_reads, is_unset, is_mixed, bounds_of, may_be_odd}
use Rattle.ep_evaluation.specs.Evaluation.{told, pointer as pointer_in, targets_of, is_null, reads_at, pointer_given}
use Rattle.ep_evaluation.specs.Laws.{IsKept}
use Rattle.ep_evaluation.proofs.Basics.{faults_on-none}
use Rattle.ep_evaluation.proofs.General.{is_int}
use Rattle.ep_transfers.specs.Places.{has_values}
use Rattle.ep_transfers.specs.Transfers.{sizes, stepped, differ_faults}
use Rattle.ep_transfers.specs.Calls.{loaded_result}
use Rattle.ep_transfers.specs.Ends.{is_sure_result, ended_faults}
use Rattle.ep_transfers.specs.Cells.{told_of, when_known, is_told_so}
use Rattle.ep_movers.specs.Symbols.{Symbol, fixed_byte}
use Rattle.ep_movers.specs.Movers.{Held, Machine, bytes_in, blank_bytes, loaded_bytes}
use Rattle.ep_mover_runs.proofs.Mains.{IsMover, is_mover, result_holds, HasResult, has_result}
use Rattle.ep_mover_runs.proofs.Places.{number_type, number_size}
use Rattle.ep_mover_bits.specs.Laws.{Inputs, HasBytes}
use Rattle.ep_mover_bits.proofs.Forms.{forms_follow}
use Rattle.ep_mover_cells.specs.Laws.{IsReadAs}
use Rattle.ep_mover_cells.proofs.Bytewise.{reads_know}
use Rattle.ep_single_places.specs.Laws.{IsOneAccess}
use Rattle.ep_single_places.proofs.Places.{accesses_are_one}
use Rattle.ep_mover_values.specs.Laws.{IsAt}
use Rattle.ep_mover_values.proofs.Places.{no_faults, places_at}
use Rattle.ep_mover_known.specs.Laws.{AreRuns}
use Rattle.ep_mover_known.proofs.Telling.{many, length_many}
use Rattle.ep_mover_steps.specs.Laws.{Stands}
use Rattle.ep_mover_steps.proofs.Stepping.{known_of}
use Rattle.ep_mover_ends.specs.Laws.{EndsAreQuiet}

-- ---- four zero bytes

abbrev zero_bytes : List Symbol
zero_bytes = fixed_byte 0 ∷ fixed_byte 0 ∷ fixed_byte 0 ∷ fixed_byte 0 ∷ []

zeros_loaded : (o : Order) (hs : List Held) → hs ≡ blank_bytes true 4 → loaded_bytes o hs 0 4 0 4 ≡ Ok zero_bytes
zeros_loaded Little hs e = ap (λ h. loaded_bytes Little h 0 4 0 4) e
zeros_loaded Big hs e = ap (λ h. loaded_bytes Big h 0 4 0 4) e
zeros_loaded SwappedWords hs e = ap (λ h. loaded_bytes SwappedWords h 0 4 0 4) e

-- ---- the block of an int

module _ (p : Program) (formed : is_well_formed p ≡ true) where
  record IsInt (b : ℕ) : Type 0 where
    of_block : Block
    is : slice_get p.blocks b ≡ Some of_block
    size : of_block.size ≡ 4

  int_block : (b : ℕ) (o : Option Block) → slice_get p.blocks b ≡ o
      → has_scalar (option_and_then (slice_get p.types.types) (block_type o)) (Int I32) ≡ true → IsInt b
  int_block b None e h = never h
  int_block b (Some d) e h =
      let fits = all_at (block_fits p.types) p.blocks b d
      (and_parts (list_all (block_fits p.types) p.blocks) _ (blocks_of p formed)).0 e in
      record {
        of_block = d;
        is = e;
        size = number_is (size p.types d.ty) 4 d.size
            (number_size p.types d.ty I32 (number_type (slice_get p.types.types d.ty) I32 h))
            (and_parts (is_number (size p.types d.ty) d.size) (nat_le 1 d.size) fits).0;
      }

-- ---- the result is surely the same

module _ {N : Type 0} (D : Ops N) (law : Lawful D) (p : Program) (ord : Side → Order)
    (formed : is_well_formed p ≡ true) (base : Inputs) (ms : Side → Machine) (k : Known N)
    (h : Stands D p ord base ms k) (b : ℕ) (d : IsInt p formed b)
    (zero : (s : Side) → bytes_in (ms s).memory b ≡ blank_bytes true d.of_block.size) where
  abbrev count : ℕ
  count = (ms left).inputs

  -- some machines
  some : count ≤ length (many count)
  some = omega (arith, length_many count)

  abbrev run : AreRuns D p ord ms k (many count)
  run = (known_of D p ord base ms k h).runs (many count) some

  abbrev m : Memories
  m = record { left = (run.states left).memory; right = (run.states right).memory }

  kept : IsKept D p ord k m
  kept = run.kept

  -- ---- what is read

  abbrev reading : Side → ReadValue N
  reading s = read D k (cells_of s) b 0 (Int I32)

  read_as : (s : Side) → IsReadAs base (reading s) zero_bytes
  read_as s =
      reads_know D p ord base ms k h.moved s b 0 I32 zero_bytes
      (zeros_loaded (ord s) (bytes_in (ms s).memory b) (zero s ∙ ap (blank_bytes true) d.size))

  number_of : (s : Side) → (n : N) × ((reading s).value ≡ Some (Num n))
  number_of s =
      let r = read_as s in
      let f = (of_reads D law).holds k (cells_of s) b 0 (Int I32) kept.state.cells m kept.holds r.sure r.unmixed in
      let i = is_int D I32 (reading s).value f.datum f.allowed in
      (i.num.number, i.num.is)

  set : (s : Side) → is_unset (reading s ∷ []) ≡ false
  set s =
      ap (λ z. (z || (option_map_or (λ v. false) (reading s).value true && not (reading s).mixed)) || false)
      (read_as s).sure
      ∙ ap (λ v. (option_map_or (λ v. false) v true && not (reading s).mixed) || false) (number_of s).1

  unmixed : (s : Side) → is_mixed (reading s ∷ []) ≡ false
  unmixed s = ap (λ z. z || false) (read_as s).unmixed

  -- ---- at its one place

  abbrev here : Given N
  here = pointer_given D (one_target b (D.single (pos 0))) Both

  typed : place_has p.types p.blocks (b ∷ []) (block b) d.of_block.ty ≡ true
  typed =
      and_from (is_named p.types p.blocks (b ∷ []) b)
      (block_has p.types p.blocks (b ∷ []) (slice_get p.blocks b) d.of_block.ty)
      (or_right (is_global (slice_get p.blocks b)) (contains b (b ∷ []))
      (or_left (nat_eq b b) false (nat_eq-self b)))
      (ap (λ o. block_has p.types p.blocks (b ∷ []) o d.of_block.ty) d.is ∙ nat_eq-self d.of_block.ty)

  at_start : IsAt D Both here b 0
  at_start =
      places_at D law p ord (blocks_of p formed) (b ∷ []) (block b) d.of_block.ty refl typed k m kept b 0 refl Both
      (λ s r. (pointer b 0, refl))

  access : (s : Side) → IsOneAccess D (sizes D p) 4 (on here.pair s) b 0
  access s =
      accesses_are_one D law (sizes D p) 4 (on here.pair s) b 0 (at_start.each s refl) (omega arith)
      (record {
        size = 4;
        of_block = sized p.blocks b d.of_block d.is ∙ ap Some d.size;
        inside = omega arith;
        aligned = refl;
      })

  reads_are : (s : Side) → reads_at D (sizes D p) (Int I32) k (on here.pair s) s ≡ reading s ∷ []
  reads_are s = ap (λ qs. reads_of D k (cells_of s) (Int I32) qs) (access s).place

  abbrev loaded : Given N
  loaded = loaded_result D p Both (b, Int I32) k

  abbrev nulls : List Fault
  nulls = faults_on Both U6 (λ s. shown_if (is_null D (sizes D p) (pointer_in D (on here.pair s))))

  abbrev bounds : List Fault
  bounds =
      faults_on Both U5
      (λ s. bounds_of D (sizes D p) 4 (targets_of D (sizes D p) (pointer_in D (on here.pair s))))

  abbrev odds : List Fault
  odds =
      faults_on Both U7
      (λ s. shown_if (may_be_odd D 4 (targets_of D (sizes D p) (pointer_in D (on here.pair s)))))

  abbrev unsets : List Fault
  unsets = faults_on Both U4 (λ s. shown_if (is_unset (reads_at D (sizes D p) (Int I32) k (on here.pair s) s)))

  abbrev mixes : List Fault
  mixes = faults_on Both U10 (λ s. shown_if (is_mixed (reads_at D (sizes D p) (Int I32) k (on here.pair s) s)))

  quiet : loaded.faults ≡ []
  quiet =
      no_faults nulls (bounds ++ (odds ++ (unsets ++ mixes)))
      (faults_on-none Both U6 (λ s. shown_if (is_null D (sizes D p) (pointer_in D (on here.pair s))))
      (λ s r. ap shown_if (access s).not_null))
      (no_faults bounds (odds ++ (unsets ++ mixes))
      (faults_on-none Both U5
      (λ s. bounds_of D (sizes D p) 4 (targets_of D (sizes D p) (pointer_in D (on here.pair s))))
      (λ s r. (access s).inside))
      (no_faults odds (unsets ++ mixes)
      (faults_on-none Both U7
      (λ s. shown_if (may_be_odd D 4 (targets_of D (sizes D p) (pointer_in D (on here.pair s)))))
      (λ s r. ap shown_if (access s).aligned))
      (no_faults unsets mixes
      (faults_on-none Both U4 (λ s. shown_if (is_unset (reads_at D (sizes D p) (Int I32) k (on here.pair s) s)))
      (λ s r. ap (λ rs. shown_if (is_unset rs)) (reads_are s) ∙ ap shown_if (set s)))
      (faults_on-none Both U10 (λ s. shown_if (is_mixed (reads_at D (sizes D p) (Int I32) k (on here.pair s) s)))
      (λ s r. ap (λ rs. shown_if (is_mixed rs)) (reads_are s) ∙ ap shown_if (unmixed s))))))

  -- ---- it is compared

  has_form : (s : Side)
      → HasBytes base (form_of_reads (reads_at D (sizes D p) (Int I32) k (on here.pair s) s)) zero_bytes
  has_form s = subst (λ f. HasBytes base f zero_bytes) (sym (ap form_of_reads (reads_are s))) (read_as s).form

  same_form : have_same_form loaded.pair.left.form loaded.pair.right.form ≡ true
  same_form =
      (forms_follow base).same loaded.pair.left.form loaded.pair.right.form zero_bytes (has_form left) (has_form right)

  has_value : (s : Side)
      → is_some (joined_reads D (reads_at D (sizes D p) (Int I32) k (on here.pair s) s)) ≡ true
  has_value s = ap (λ rs. is_some (joined_reads D rs)) (reads_are s) ∙ ap is_some (number_of s).1

  is_sure : is_sure_result D p loaded ≡ true
  is_sure =
      and_from (is_same D loaded.pair) (has_values Both loaded.pair && list_all (λ (f : Fault). false) loaded.faults)
      (or_right loaded.pair.equal
      (have_same_form loaded.pair.left.form loaded.pair.right.form
      || (are_one_number D loaded.pair.left.value loaded.pair.right.value
      || are_one_pointer D loaded.pair.left.value loaded.pair.right.value))
      (or_left (have_same_form loaded.pair.left.form loaded.pair.right.form)
      (are_one_number D loaded.pair.left.value loaded.pair.right.value
      || are_one_pointer D loaded.pair.left.value loaded.pair.right.value) same_form))
      (and_from (has_values Both loaded.pair) (list_all (λ (f : Fault). false) loaded.faults)
      (and_from (is_some loaded.pair.left.value) (is_some loaded.pair.right.value) (has_value left) (has_value right))
      (ap (list_all (λ (f : Fault). false)) quiet))

  none_differs : differ_faults D (is_sure_result D p loaded) loaded.pair ≡ []
  none_differs = ap (λ t. differ_faults D t loaded.pair) is_sure

-- ---- the end

pub ends_are_quiet : {N : Type 0} (D : Ops N) → Lawful D → EndsAreQuiet D
ends_are_quiet {N = N} D law p ord formed form other f at base ms k h zero =
    subst (λ t. (told_of D (when_known t (stepped (ended_faults D p f k) None))).faults ≡ []) (sym told_so)
    (ap (map (told D)) none)
  where
    g : IsMover p
    g = is_mover p formed form

    r : HasResult p formed g
    r = has_result p formed g

    result : f.result ≡ Some (r.block, Int I32)
    result = ap (λ (x : Function). x.result) (some-injective (sym at ∙ g.at)) ∙ r.is

    held : list_all (holds_scalar p.types p.blocks) (option_to_list (Some (r.block, Int I32))) ≡ true
    held =
        subst (λ (x : Option (ℕ × Scalar)). list_all (holds_scalar p.types p.blocks) (option_to_list x) ≡ true) r.is
        (result_holds p formed g)

    d : IsInt p formed r.block
    d =
        int_block p formed r.block (slice_get p.blocks r.block) refl
        (and_parts (holds_scalar p.types p.blocks (r.block, Int I32)) true held).0

    is_own : is_result f.result r.block ≡ true
    is_own = subst (λ (x : Option (ℕ × Scalar)). is_result x r.block ≡ true) (sym result) (nat_eq-self r.block)

    none : ended_faults D p f k ≡ []
    none =
        subst (λ (x : Option (ℕ × Scalar)). ended_faults D p (record f { result = x }) k ≡ []) (sym result)
        (none_differs D law p ord formed base ms k h r.block d (zero r.block d.of_block is_own d.is))

    told_so : is_told_so D p ord k ≡ true
    told_so = subst (λ d. is_model d p.types.model ≡ true) (sym h.moved.state.model) (is_model-self p.types.model)
