-- Main's result is the same on both machines.
use Rattle.std.proofs.Common.{◌≡◌, ℕ, true, false, ◌&&◌, List, [], ◌∷◌, ◌++◌, slice_get, Option, Some, None}
use Rattle.ep_transfers.proofs.Outputs.{none_left}
use Rattle.std.proofs.Common.{is_some, map, refl, sym, ap, ◌∙◌, subst, nat_eq}
use Rattle.std.specs.Prelude.{option_to_list}
use Rattle.std.specs.List.{list_all}
use Rattle.std.proofs.lemmas.Bool.{and_from, or_left, eq-eqb}
use Rattle.ep_int.specs.declared.types.IntType.TheVariants.{I32}
use Rattle.ep_int.specs.declared.types.Model.{Model}
use Rattle.ep_int.specs.declared.types.Order.{Order}
use Rattle.ep_int.specs.declared.types.Scalar.{Scalar}
use Rattle.ep_int.specs.declared.types.Scalar.TheVariants.{Int}
use Rattle.ep_int.specs.Memory.{contains}
use Rattle.ep_int.specs.Types.{size_of}
use Rattle.ep_layout.specs.Table.{IsBuilt}
use Rattle.ep_alarms.specs.declared.types.AlarmKind.TheVariants.{U4, U5, U6, U7, U10}
use Rattle.ep_bitslice.specs.declared.cell.Side.{Side as CellSide}
use Rattle.ep_bitslice.specs.declared.cell.Side.TheVariants as cell_side
use Rattle.ep_domain.specs.Domain.{Ops, Lawful}
use Rattle.ep_cells.specs.States.{Known}
use Rattle.ep_reads.specs.declared.read.ReadValue.{ReadValue}
use Rattle.ep_reads.specs.Read.{whole_read}
use Rattle.ep_core.specs.Program.{block, Function, Program}
use Rattle.ep_core.specs.Exec.{first_of}
use Rattle.ep_core.specs.Runs.{Side, left, right}
use Rattle.ep_core.specs.WellFormed.{is_well_formed, blocks_fit, holds_scalar}
use Rattle.ep_core.proofs.Operands.{sizes as blocks_of}
use Rattle.ep_equalities.specs.declared.pair.Fault.{Fault}
use Rattle.ep_equalities.specs.declared.pair.Mode.TheVariants.{Both}
use Rattle.ep_equalities.specs.Same.{is_same}
use Rattle.ep_evaluation.specs.Given.{Given, cells_of, faults_on, shown_if}
use Rattle.ep_evaluation.specs.Accesses.{reads_of, joined_reads, is_unset, is_mixed, bounds_of, may_be_odd}
use Rattle.ep_evaluation.specs.Evaluation.{told, places_at, targets_of, pointer, is_null}
use Rattle.ep_pass.specs.Honest.{AreOf}
use Rattle.ep_straight_laws.proofs.Loads.{place_is}
use Rattle.ep_transfers.specs.Places.{has_values}
use Rattle.ep_transfers.specs.Transfers.{sizes, to_block, stepped, differ_faults}
use Rattle.ep_transfers.specs.Calls.{loaded_result}
use Rattle.ep_transfers.specs.Ends.{is_sure_result, ended_faults}
use Rattle.ep_transfers.specs.Cells.{cell_ops, told_of, when_known}
use Rattle.ep_alarm_laws.proofs.OwnPlaces.{own_quiet}
use Rattle.ep_kinds.specs.Rows.{here}
use Rattle.ep_kinds.specs.Tame.{are_tame_types}
use Rattle.ep_tame_laws.specs.Tamely.{is_undefined, AreAmong, result_block, is_result_of_main}
use Rattle.ep_tame_places.specs.Laws.{PlaceLaws}
use Rattle.ep_tame_places.proofs.Blocks.{block_at}
use Rattle.ep_tame_accesses.specs.Laws.{AccessesAreOfObjects}
use Rattle.ep_tame_cells.specs.Shared.{AreSharedCells}
use Rattle.ep_tame_cells.specs.Shape.{HasCellAt}
use Rattle.ep_tame_cells.proofs.Exact.{read_there, read_laws_of}
use Rattle.ep_tame_cells.proofs.Shapes.{shape_laws_of}
use Rattle.ep_tame_states.specs.States.{IsSure, IsGood}
use Rattle.ep_tame_twins.proofs.Alike.{same_of}
use Rattle.ep_tame_twins.proofs.Parts.{scalar_type}
use Rattle.ep_tame_ops.proofs.GuardsPass.{told_pass}
use Rattle.ep_tame_calls.proofs.Received.{loaded_twin}
use Rattle.ep_tame_laws.proofs.Main.{OwnBlock, own_block, IsMain, main_is, is_its_result}

-- ---- lists of faults

all_none : {A : Type 0} (a b c d e : List A) → (a ++ b) ++ c ≡ [] → d ≡ [] → e ≡ [] → a ++ (b ++ (c ++ (d ++ e))) ≡ []
all_none a b c d e abc dn en =
    let x = none_left (a ++ b) c abc in
    let y = none_left a b x.0 in
    rw (y.0, y.1, x.1, dn, en) refl

module _ {N : Type 0} (D : Ops N) (law : Lawful D) (p : Program) (formed : is_well_formed p ≡ true)
    (built : IsBuilt p.types) (tame : are_tame_types p.types ≡ true) (ord : Side → Order) (places : PlaceLaws D p)
    (access : AccessesAreOfObjects D p) (h s : Known N) (live res : List ℕ) (g : IsGood D p ord h live res s) (b : ℕ)
    (holds : holds_scalar p.types p.blocks (b, Int I32) ≡ true) (there : contains b res ≡ true)
    (main : is_result_of_main p b ≡ true) where
  abbrev w : Scalar
  w = Int I32

  abbrev loaded : Given N
  loaded = loaded_result D p Both (b, w) s

  own : OwnBlock p (b, w)
  own = own_block p (b, w) holds

  fit : blocks_fit p.types p.blocks ≡ true
  fit = blocks_of p formed

  -- ---- its cell

  cell : HasCellAt p s.cells b 0 w
  cell =
      (read_laws_of D).stands p s.cells b own.of_block 0 own.of_block.ty w built tame own.there
      (block_at p fit b own.of_block own.there).sized (g.results b there) here
      (scalar_type p.types own.of_block.ty w own.holds)

  sure : IsSure cell.cell
  sure = (g.points cell.cell cell.is_in).sure (ap (is_result_of_main p) cell.block ∙ main)

  shared : AreSharedCells s.model s.cells
  shared =
      subst (λ (d : Model). AreSharedCells d s.cells) (sym g.state.model) ((shape_laws_of D).shared p s.cells g.shape)

  -- ---- what is read

  abbrev reading : ReadValue N
  reading = whole_read D w cell.cell

  reads_are : (c : CellSide) → reads_of D s c w (places_at D (sizes D p) w s (to_block D Both b).left) ≡ reading ∷ []
  reads_are c =
      ap (reads_of D s c w) (place_is D law p formed b I32 holds)
      ∙ ap (λ r. r ∷ []) (read_there D p s c b 0 w shared cell)

  value_there : is_some (joined_reads D (reading ∷ [])) ≡ true
  value_there = rw sure.value refl

  side_there : (c : CellSide)
      → is_some (joined_reads D (reads_of D s c w (places_at D (sizes D p) w s (to_block D Both b).left))) ≡ true
  side_there c = ap (λ rs. is_some (joined_reads D rs)) (reads_are c) ∙ value_there

  not_unset : is_unset (reading ∷ []) ≡ false
  not_unset = rw (sure.value, sure.there) refl

  side_set : (c : CellSide)
      → is_unset (reads_of D s c w (places_at D (sizes D p) w s (to_block D Both b).left)) ≡ false
  side_set c = ap is_unset (reads_are c) ∙ not_unset

  side_whole : (c : CellSide)
      → is_mixed (reads_of D s c w (places_at D (sizes D p) w s (to_block D Both b).left)) ≡ false
  side_whole c = ap is_mixed (reads_are c)

  no_fault : loaded.faults ≡ []
  no_fault =
      all_none
      (faults_on Both U6 (λ i. shown_if (is_null D (sizes D p) (pointer D (to_block D Both b).left))))
      (faults_on Both U5 (λ i. bounds_of D (sizes D p) (size_of s.model w)
      (targets_of D (sizes D p) (pointer D (to_block D Both b).left))))
      (faults_on Both U7 (λ i. shown_if (may_be_odd D (size_of s.model w)
      (targets_of D (sizes D p) (pointer D (to_block D Both b).left)))))
      (faults_on Both U4 (λ i. shown_if (is_unset (reads_of D s (cells_of i) w (places_at D (sizes D p) w s
      (to_block D Both b).left)))))
      (faults_on Both U10 (λ i. shown_if (is_mixed (reads_of D s (cells_of i) w (places_at D (sizes D p) w s
      (to_block D Both b).left)))))
      (own_quiet p formed D law (b, w) holds Both s g.state.model)
      (rw (side_set cell_side.Left, side_set cell_side.Right) refl)
      (rw (side_whole cell_side.Left, side_whole cell_side.Right) refl)

  nothing_wrong : (fs : List Fault) → fs ≡ [] → list_all (λ (f : Fault). false) fs ≡ true
  nothing_wrong fs e = ap (list_all (λ (f : Fault). false)) e

  sure_result : is_sure_result D p loaded ≡ true
  sure_result =
      and_from (is_same D loaded.pair) (has_values Both loaded.pair && list_all (λ (f : Fault). false) loaded.faults)
      (same_of D loaded (loaded_twin D law p formed built tame ord places access h s live res g (b, w) there own))
      (and_from (has_values Both loaded.pair) (list_all (λ (f : Fault). false) loaded.faults)
      (and_from (is_some loaded.pair.left.value) (is_some loaded.pair.right.value) (side_there cell_side.Left)
      (side_there cell_side.Right))
      (nothing_wrong loaded.faults no_fault))

  pub none_differs : differ_faults D (is_sure_result D p loaded) loaded.pair ≡ []
  none_differs = ap (λ t. differ_faults D t loaded.pair) sure_result

module _ {N : Type 0} (D : Ops N) (law : Lawful D) (p : Program) (formed : is_well_formed p ≡ true)
    (built : IsBuilt p.types) (tame : are_tame_types p.types ≡ true) (ord : Side → Order) (places : PlaceLaws D p)
    (access : AccessesAreOfObjects D p) where
  pub ended_good : (f : Function) → slice_get p.functions p.main ≡ Some f → (h s : Known N) (live res : List ℕ)
      → AreAmong (result_block f) res → IsGood D p ord h live res s
      → AreOf is_undefined ((cell_ops D p ord).ended f s)
  ended_good f at h s live res among g =
      subst (λ t. AreOf is_undefined (told_of D (when_known t (stepped (ended_faults D p f s) None))).faults)
      (sym (told_pass D law p ord s g.state))
      (by_result f.result m.result)
    where
      m : IsMain p f
      m = main_is p formed f at

      in_own : contains m.block (result_block f) ≡ true
      in_own =
          subst (λ (r : Option (ℕ × Scalar)). contains m.block (first_of (option_to_list r)) ≡ true) (sym m.result)
          (or_left (nat_eq m.block m.block) false (eq-eqb m.block m.block refl))

      by_result : (o : Option (ℕ × Scalar)) → o ≡ Some (m.block, Int I32)
          → AreOf is_undefined (told_of D (stepped (ended_faults D p (record f { result = o }) s) None)).faults
      by_result o e =
          subst (λ r. AreOf is_undefined (told_of D (stepped (ended_faults D p (record f { result = r }) s) None)).faults)
          (sym e)
          (subst (λ fs. AreOf is_undefined (map (told D) fs))
          (sym (none_differs D law p formed built tame ord places access h s live res g m.block m.holds
          (among m.block in_own)
          (is_its_result p formed f at m m.block ∙ eq-eqb m.block m.block refl))) tt)
