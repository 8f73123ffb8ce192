-- Loads of tame programs, from cells of both memories, where some blocks are there with all their cells, and pointers
-- are into blocks that can be named.
use Rattle.std.proofs.Common.{◌≡◌, ℕ, ◌<◌, Bool, true, false, ◌&&◌, List, [], ◌∷◌, map, slice_get, Option, Some, None}
use Rattle.std.proofs.Common.{refl, sym, ap, ◌∙◌, subst}
use Rattle.std.proofs.lemmas.Bool.{and_from}
use Rattle.ep_int.specs.declared.types.Model.{Model}
use Rattle.ep_int.specs.declared.types.Order.{Order}
use Rattle.ep_int.specs.declared.types.Scalar.{Scalar}
use Rattle.ep_int.specs.Types.{size_of}
use Rattle.ep_layout.specs.Table.{IsBuilt, size, scalar_of, target_of}
use Rattle.ep_layout.proofs.Sizes.{size_of_scalar}
use Rattle.ep_bitslice.specs.declared.cell.Side.{Side as CellSide}
use Rattle.ep_bitslice.specs.declared.cell.Side.TheVariants as cell_side
use Rattle.ep_domain.specs.Domain.{Ops}
use Rattle.ep_cells.specs.declared.cell.Cell.{Cell}
use Rattle.ep_cells.specs.declared.cell.Value.{Value}
use Rattle.ep_cells.specs.Cells.{IsIn}
use Rattle.ep_cells.specs.States.{Known}
use Rattle.ep_cells.specs.Both.{value_of_both}
use Rattle.ep_reads.specs.declared.read.ReadValue.{ReadValue}
use Rattle.ep_reads.specs.Read.{read, whole_read}
use Rattle.ep_cell_ranges.specs.Spots.{Spot}
use Rattle.ep_core.specs.Program.{Program, Place, Block}
use Rattle.ep_core.specs.Runs.{Side, left, right}
use Rattle.ep_core.specs.WellFormed.{blocks_fit, is_named}
use Rattle.ep_equalities.specs.declared.pair.Mode.TheVariants.{Both}
use Rattle.ep_equalities.specs.declared.pair.SideValue.{SideValue}
use Rattle.ep_evaluation.specs.Given.{Given}
use Rattle.ep_evaluation.specs.Accesses.{reads_of, joined_from, form_of_reads, joined_reads}
use Rattle.ep_evaluation.specs.Evaluation.{pointer, targets_of, places_at, load_side, load_shared, load_given, same}
use Rattle.ep_evaluation.specs.Laws.{IsState, sizes_of}
use Rattle.ep_kinds.specs.Rows.{HasScalar}
use Rattle.ep_kinds.specs.Tame.{are_tame_types}
use Rattle.ep_tame_laws.proofs.Parts.{scalar_size}
use Rattle.ep_tame_places.specs.Places.{PointsTo, LiesAt}
use Rattle.ep_tame_places.specs.Laws.{PlaceLaws}
use Rattle.ep_tame_places.proofs.Blocks.{block_at}
use Rattle.ep_tame_accesses.specs.Laws.{HasObject, EachSpot, AccessesAreOfObjects}
use Rattle.ep_tame_cells.specs.Shared.{AreSharedCells}
use Rattle.ep_tame_cells.specs.Shape.{HasCellAt, IsCovered, HasShape}
use Rattle.ep_tame_cells.specs.ReadLaws.{HaveCells, ReadLaws}
use Rattle.ep_tame_cells.proofs.Exact.{read_there, read_laws_of}
use Rattle.ep_tame_cells.proofs.Shapes.{shape_laws_of}
use Rattle.ep_tame_states.specs.States.{ValueHas, CellPoints}
use Rattle.ep_tame_states.proofs.Meetings.{both_have}
use Rattle.ep_tame_twins.specs.Twins.{IsTwin}
use Rattle.ep_tame_twins.proofs.Values.{targets_have, converted_has}
use Rattle.ep_tame_twins.proofs.Alike.{same_of}

-- a state of cells of whole blocks, among them all that are near, whose pointers are into those that can be named
pub record CanLoad {N : Type 0} (D : Ops N) (p : Program) (ord : Side → Order) (near live : List ℕ) (k : Known N)
    : Type 0 where
  pub state : IsState D p ord k
  pub shape : HasShape p k.cells
  pub named : (b : ℕ) → is_named p.types p.blocks near b ≡ true → IsCovered p k.cells b
  pub points : (c : Cell N) → IsIn c k.cells → CellPoints D p live c

module _ {N : Type 0} (D : Ops N) (p : Program) (ord : Side → Order) (built : IsBuilt p.types)
    (tame : are_tame_types p.types ≡ true) (fit : blocks_fit p.types p.blocks ≡ true) (places : PlaceLaws D p)
    (access : AccessesAreOfObjects D p) (near live : List ℕ) (k : Known N) (g : CanLoad D p ord near live k)
    (w : Scalar) where
  pub shared : AreSharedCells k.model k.cells
  shared =
      subst (λ (d : Model). AreSharedCells d k.cells) (sym g.state.model)
      ((shape_laws_of D).shared p k.cells g.shape)

  -- ---- objects of a type that is this scalar

  module _ (u : ℕ) (is : scalar_of p.types u ≡ Some w) where
    pub cell_of : (q : Spot) → HasObject p near u q → HasCellAt p k.cells q.0 q.1 w
    cell_of q o =
        (read_laws_of D).stands p k.cells q.0 o.of_block q.1 u w built tame o.there
        (block_at p fit q.0 o.of_block o.there).sized (g.named q.0 o.named) o.stands is

    pub have_cells : (qs : List Spot) → EachSpot (HasObject p near u) qs → HaveCells p k.cells w qs
    have_cells [] o = tt
    have_cells (q ∷ qs) o = (cell_of q o.0, have_cells qs o.1)

    pub spots_of : (a : Place) (v : SideValue N) → ValueHas (LiesAt D p near a u) v.value
        → EachSpot (HasObject p near u) (places_at D (sizes_of p.blocks) w k v)
    spots_of a v l =
        access near a u (size_of k.model w) (size_of k.model w) (targets_of D (sizes_of p.blocks) (pointer D v))
        (scalar_size p.types built u w is ∙ ap (λ (d : Model). Some (size_of d w)) (sym g.state.model))
        (size_of_scalar k.model w).0
        (targets_have D (sizes_of p.blocks) (LiesAt D p near a u) v.value l)

    -- ---- pointers that are read

    module _ (ty : ℕ) (target : target_of p.types u ≡ Some ty) where
      spot_points : (s : CellSide) (q : Spot) → HasObject p near u q
          → ValueHas (PointsTo D p live ty) (read D k s q.0 q.1 w).value
      spot_points s q o =
          let c = cell_of q o in
          let own = (g.points c.cell c.is_in).along o.of_block (ap (slice_get p.blocks) c.block ∙ o.there) u ty
          (subst (λ x. HasScalar p.types o.of_block.ty x u) (sym c.offset) o.stands) target in
          subst (λ (r : ReadValue N). ValueHas (PointsTo D p live ty) r.value)
          (sym (read_there D p k s q.0 q.1 w shared c))
          (converted_has D (PointsTo D p live ty) w c.cell.value own)

      reads_point : (s : CellSide) (v : Option (Value N)) → ValueHas (PointsTo D p live ty) v → (qs : List Spot)
          → EachSpot (HasObject p near u) qs → ValueHas (PointsTo D p live ty) (joined_from D v (reads_of D k s w qs))
      reads_point s v i [] o = i
      reads_point s v i (q ∷ qs) o =
          reads_point s (value_of_both D.join v (read D k s q.0 q.1 w).value)
          (both_have (PointsTo D p live ty) D.join (λ b n m x y. places.joined live ty b n m x y) v
          (read D k s q.0 q.1 w).value i (spot_points s q o.0)) qs o.1

  -- ---- what a load gives

  module _ (u : ℕ) (is : scalar_of p.types u ≡ Some w) (a : Place) (x : Given N) (twin : IsTwin x)
      (l : ValueHas (LiesAt D p near a u) x.pair.left.value) where
    abbrev qs : List Spot
    qs = places_at D (sizes_of p.blocks) w k x.pair.left

    cells : HaveCells p k.cells w qs
    cells = have_cells u is qs (spots_of u is a x.pair.left l)

    abbrev side : List (ReadValue N) → SideValue N
    side rs = record { value = joined_reads D rs; form = form_of_reads rs }

    pub load_twin : IsTwin (load_given D (sizes_of p.blocks) w Both k x)
    load_twin = record {
      equal = and_from (same D x) _ (same_of D x twin)
          (and_from (load_shared D (sizes_of p.blocks) w k x.pair.left left)
          (load_shared D (sizes_of p.blocks) w k x.pair.right right)
          ((read_laws_of D).shared p k cell_side.Left w qs shared cells)
          (subst (λ (v : SideValue N). load_shared D (sizes_of p.blocks) w k v right ≡ true) twin.alike
          ((read_laws_of D).shared p k cell_side.Right w qs shared cells)));
      alike =
          ap side ((read_laws_of D).alike p k w qs shared cells)
          ∙ ap (λ (v : SideValue N). load_side D (sizes_of p.blocks) w k v right) twin.alike;
    }

    pub load_points : (ty : ℕ) → target_of p.types u ≡ Some ty
        → ValueHas (PointsTo D p live ty) (load_given D (sizes_of p.blocks) w Both k x).pair.left.value
    load_points ty target =
        reads_point u is ty target cell_side.Left None tt qs (spots_of u is a x.pair.left l)
