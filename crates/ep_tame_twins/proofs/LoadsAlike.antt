-- Loads of tame programs in good states.
use Rattle.std.proofs.Common.{◌≡◌, ℕ, true, List, Some}
use Rattle.ep_int.specs.declared.types.Order.{Order}
use Rattle.ep_int.specs.declared.types.Scalar.{Scalar}
use Rattle.ep_layout.specs.Table.{IsBuilt, scalar_of, target_of}
use Rattle.ep_domain.specs.Domain.{Ops}
use Rattle.ep_cells.specs.States.{Known}
use Rattle.ep_core.specs.Program.{Program, Place}
use Rattle.ep_core.specs.Runs.{Side}
use Rattle.ep_core.specs.WellFormed.{blocks_fit}
use Rattle.ep_cell_ranges.specs.Spots.{Spot}
use Rattle.ep_equalities.specs.declared.pair.Mode.TheVariants.{Both}
use Rattle.ep_equalities.specs.declared.pair.SideValue.{SideValue}
use Rattle.ep_evaluation.specs.Given.{Given}
use Rattle.ep_evaluation.specs.Evaluation.{places_at, load_given}
use Rattle.ep_evaluation.specs.Laws.{sizes_of}
use Rattle.ep_kinds.specs.Tame.{are_tame_types}
use Rattle.ep_tame_places.specs.Places.{PointsTo, LiesAt}
use Rattle.ep_tame_places.specs.Laws.{PlaceLaws}
use Rattle.ep_tame_accesses.specs.Laws.{HasObject, EachSpot, AccessesAreOfObjects}
use Rattle.ep_tame_cells.specs.Shape.{HasCellAt}
use Rattle.ep_tame_states.specs.States.{ValueHas, IsGood}
use Rattle.ep_tame_twins.specs.Twins.{IsTwin}
use Rattle.ep_tame_twins.proofs.LoadsNear.{CanLoad, cell_of as cell_near, spots_of as spots_near, load_twin as twin_near}
use Rattle.ep_tame_twins.proofs.LoadsNear.{load_points as points_near}

module _ {N : Type 0} (D : Ops N) (p : Program) (ord : Side → Order) (built : IsBuilt p.types)
    (tame : are_tame_types p.types ≡ true) (fit : blocks_fit p.types p.blocks ≡ true) (places : PlaceLaws D p)
    (access : AccessesAreOfObjects D p) (live res : List ℕ) (h k : Known N) (g : IsGood D p ord h live res k)
    (w : Scalar) where
  pub can_load : CanLoad D p ord live live k
  can_load = record { state = g.state; shape = g.shape; named = g.named; points = g.points }

  module _ (u : ℕ) (is : scalar_of p.types u ≡ Some w) where
    pub cell_of : (q : Spot) → HasObject p live u q → HasCellAt p k.cells q.0 q.1 w
    cell_of q o = cell_near D p ord built tame fit places access live live k can_load w u is q o

    pub spots_of : (a : Place) (v : SideValue N) → ValueHas (LiesAt D p live a u) v.value
        → EachSpot (HasObject p live u) (places_at D (sizes_of p.blocks) w k v)
    spots_of a v l = spots_near D p ord built tame fit places access live live k can_load w u is a v l

  module _ (u : ℕ) (is : scalar_of p.types u ≡ Some w) (a : Place) (x : Given N) (twin : IsTwin x)
      (l : ValueHas (LiesAt D p live a u) x.pair.left.value) where
    pub load_twin : IsTwin (load_given D (sizes_of p.blocks) w Both k x)
    load_twin = twin_near D p ord built tame fit places access live live k can_load w u is a x twin l

    pub load_points : (ty : ℕ) → target_of p.types u ≡ Some ty
        → ValueHas (PointsTo D p live ty) (load_given D (sizes_of p.blocks) w Both k x).pair.left.value
    load_points ty target = points_near D p ord built tame fit places access live live k can_load w u is a x twin l ty target
