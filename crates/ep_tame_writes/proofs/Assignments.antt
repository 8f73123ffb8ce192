-- A value goes to an address, both of them the same on both machines.
use Rattle.std.proofs.Common.{◌≡◌, Bool, true, false, ◌&&◌, inl, List, slice_get, Option, Some, None, refl, ℕ}
use Rattle.std.proofs.Common.{sym, ap, ◌∙◌, subst, arith}
use Rattle.std.specs.Prelude.{is_some}
use Rattle.std.proofs.lemmas.Bool.{and_parts}
use Rattle.ep_int.specs.declared.types.Order.{Order}
use Rattle.ep_int.specs.declared.types.Scalar.{Scalar}
use Rattle.ep_int.specs.declared.types.IntType.{IntType}
use Rattle.ep_int.specs.declared.types.Scalar.TheVariants.{Int as Number, Pointer}
use Rattle.ep_int.specs.Types.{size_of}
use Rattle.ep_layout.specs.declared.types.Ty.{Ty}
use Rattle.ep_layout.specs.declared.types.Ty.TheVariants.{Void, Int, Ptr, Array, Aggregate}
use Rattle.ep_layout.specs.Table.{Table, IsBuilt, leaves, scalar_of, target_of}
use Rattle.ep_layout.proofs.Sizes.{size_of_scalar}
use Rattle.ep_domain.specs.Domain.{Ops, Lawful}
use Rattle.ep_cells.specs.declared.cell.Value.{Value}
use Rattle.ep_cells.specs.declared.cell.Value.TheVariants.{Num, Ptr}
use Rattle.ep_cells.specs.Kill.{is_in_leaf}
use Rattle.ep_cells.specs.States.{Known, IsOfSort}
use Rattle.ep_cell_ranges.specs.Spots.{Spot}
use Rattle.ep_core.specs.Program.{Program, Block}
use Rattle.ep_core.specs.Runs.{Side}
use Rattle.ep_core.specs.WellFormed.{blocks_fit}
use Rattle.ep_core.proofs.Sorts.{never}
use Rattle.ep_equalities.specs.Same.{is_same}
use Rattle.ep_equalities.specs.declared.pair.Mode.TheVariants.{Both}
use Rattle.ep_equalities.specs.declared.pair.PairValue.{PairValue}
use Rattle.ep_equalities.specs.declared.pair.SideValue.{SideValue}
use Rattle.ep_evaluation.specs.Accesses.{spots}
use Rattle.ep_evaluation.specs.Evaluation.{pointer, targets_of}
use Rattle.ep_kinds.specs.Rows.{HasScalar}
use Rattle.ep_kinds.specs.Tame.{are_tame_types}
use Rattle.ep_transfers.specs.Places.{Places, places_of, has_places, has_values}
use Rattle.ep_transfers.specs.Transfers.{sizes, assigned, if_goes_on}
use Rattle.ep_transfers.specs.Writes.{item_of, write_now}
use Rattle.ep_tame_laws.proofs.Found.{none_some}
use Rattle.ep_tame_laws.proofs.Parts.{part_fits, scalar_is_leaf, scalar_size}
use Rattle.ep_tame_laws.specs.Tamely.{IfReached}
use Rattle.ep_tame_types.proofs.Once.{scalars_once}
use Rattle.ep_tame_places.specs.Places.{PointsTo}
use Rattle.ep_tame_places.specs.Laws.{PlaceLaws}
use Rattle.ep_tame_places.proofs.Blocks.{block_at}
use Rattle.ep_tame_accesses.specs.Laws.{HasObject, EachSpot}
use Rattle.ep_tame_cells.specs.Shape.{or_outside}
use Rattle.ep_tame_states.specs.States.{ValueHas, IsGood}
use Rattle.ep_tame_writes.specs.Laws.{CanGoTo, AssignmentsKeepGood}
use Rattle.ep_tame_writes.specs.Stands.{HasPlace, MayStand, CanStay, IsNumberType, AreSure}
use Rattle.ep_tame_writes.proofs.Placed.{each_spot_as, written_good}

-- a pointer type is a scalar
pub pointer_scalar : (t : Table) (n ty : ℕ) → target_of t n ≡ Some ty → scalar_of t n ≡ Some Pointer
pointer_scalar t n ty h = by_ty (slice_get t.types n) refl
  where
    by_ty : (o : Option Ty) → slice_get t.types n ≡ o → scalar_of t n ≡ Some Pointer
    by_ty None q = none_some ty (rw q at h)
    by_ty (Some Void) q = none_some ty (rw q at h)
    by_ty (Some (Int i)) q = none_some ty (rw q at h)
    by_ty (Some (Ptr e)) q = rw q refl
    by_ty (Some (Array e m)) q = none_some ty (rw q at h)
    by_ty (Some (Aggregate a)) q = none_some ty (rw q at h)

module _ (p : Program) (built : IsBuilt p.types) (tame : are_tame_types p.types ≡ true)
    (fit : blocks_fit p.types p.blocks ≡ true) (live : List ℕ) (u : ℕ) (w : Scalar)
    (is : scalar_of p.types u ≡ Some w) (q : Spot) (o : HasObject p live u q) where
  -- a scalar that can be named
  pub object_place : (res : List ℕ) (Taken : Type 0) → HasPlace p live res Taken w q
  object_place res Taken =
      let block = block_at p fit q.0 o.of_block o.there in
      let end = part_fits p.types built o.of_block.ty q.1 u o.of_block.size (size_of p.types.model w) o.stands
      block.sized (scalar_size p.types built u w is) in
      let some = (size_of_scalar p.types.model w).0 in
      record {
        of_block = o.of_block;
        there = o.there;
        held = inl o.named;
        inside = omega (arith, end, some);
        what =
            ap (λ x. or_outside x (is_in_leaf p.types.model (leaves p.types o.of_block.ty) q.1))
            (scalar_is_leaf p.types built tame o.of_block.ty q.1 u o.stands w is);
      }

  same_block : (x : Block) → slice_get p.blocks q.0 ≡ Some x → o.of_block ≡ x
  same_block x there = some_is (sym o.there ∙ there)
    where
      some_is : {a b : Block} → Some a ≡ Some b → a ≡ b
      some_is e = cc

  one_type : (x : Block) → slice_get p.blocks q.0 ≡ Some x → (pt ty : ℕ) → HasScalar p.types x.ty q.1 pt
      → target_of p.types pt ≡ Some ty → u ≡ pt
  one_type x there pt ty at target =
      scalars_once p.types built tame x.ty q.1 u pt w Pointer
      (subst (λ (y : Block). HasScalar p.types y.ty q.1 u) (same_block x there) o.stands) at is
      (pointer_scalar p.types pt ty target)

  -- what points along objects of its type may stand there
  pub object_takes : {N : Type 0} (D : Ops N) (others : List ℕ) (v : Option (Value N))
      → ((ty : ℕ) → target_of p.types u ≡ Some ty → ValueHas (PointsTo D p others ty) v) → MayStand D p others v q
  object_takes D others v along x there pt ty at target =
      along ty (ap (target_of p.types) (one_type x there pt ty at target) ∙ target)

-- ---- to an address

-- what goes to a cell of a number is one, where it is there
some_number : {N : Type 0} (t : IntType) (v : Option (Value N)) → IsOfSort (Number t) v → is_some v ≡ true
    → (n : N) × (v ≡ Some (Num n))
some_number t None sort there = never there
some_number t (Some (Num n)) sort there = (n, refl)
some_number t (Some (Ptr q)) sort there = absurd sort

module _ {N : Type 0} (D : Ops N) (law : Lawful D) (p : Program) (places : PlaceLaws D p) (ord : Side → Order)
    (h k : Known N) (live res : List ℕ) (w : Scalar) (to v : PairValue N) (g : IsGood D p ord h live res k)
    (same_to : to.left ≡ to.right) (equal_to : is_same D to ≡ true) (equal_v : is_same D v ≡ true)
    (l : CanStay D p k w v.left) (r : CanStay D p k w v.right) where
  -- a place where the values of both sides may stand
  abbrev pub TakesPair : Spot → Type 0
  TakesPair q =
      HasPlace p live res (IsNumberType w) w q
      × (MayStand D p live v.left.value q × MayStand D p live v.right.value q)

  abbrev pl : Places
  pl = places_of D (sizes D p) (size_of k.model w) (size_of k.model w) to

  goes_on : (j : Known N) (b : Bool) → (b ≡ true → IsGood D p ord h live res j)
      → IfReached (IsGood D p ord h live res) (if_goes_on b j)
  goes_on j true i = i refl
  goes_on j false i = tt

  values_sure : has_values Both v ≡ true → IsNumberType w → AreSure (item_of D v)
  values_sure both t =
      let s = and_parts (is_some v.left.value) (is_some v.right.value) both in
      let a = some_number t.0 v.left.value (subst (λ z. IsOfSort z v.left.value) t.1 l.of_cells.sort) s.0 in
      let b = some_number t.0 v.right.value (subst (λ z. IsOfSort z v.right.value) t.1 r.of_cells.sort) s.1 in
      record { left = a.0; is_left = a.1; right = b.0; is_right = b.1; there = refl }

  pub assigned_places : EachSpot TakesPair (places_of D (sizes D p) (size_of k.model w) (size_of k.model w) to).left
      → IfReached (IsGood D p ord h live res) (assigned D (sizes D p) Both w to v k).next
  assigned_places o =
      goes_on (write_now D Both (is_same D to) w pl (item_of D v) k) (has_places Both pl && has_values Both v)
      (λ both. written_good D law p places ord h live res w (IsNumberType w) k g (item_of D v) l r
      (values_sure (and_parts (has_places Both pl) (has_values Both v) both).1) (is_same D to) equal_to equal_v pl o
      (subst (λ (s : SideValue N). EachSpot TakesPair
      (spots D (sizes D p) (size_of k.model w) (size_of k.model w) (targets_of D (sizes D p) (pointer D s)))) same_to
      o))

module _ {N : Type 0} (D : Ops N) (p : Program) (built : IsBuilt p.types) (tame : are_tame_types p.types ≡ true)
    (fit : blocks_fit p.types p.blocks ≡ true) (k : Known N) (live res : List ℕ) (u : ℕ) (w : Scalar)
    (v : PairValue N) (is : scalar_of p.types u ≡ Some w) (same_v : v.left ≡ v.right)
    (can : CanGoTo D p live k u w v.left) where
  left_stays : CanStay D p k w v.left
  left_stays = record {
    of_cells = record { sort = can.sort; rising = can.rising; inside = can.inside };
    form = can.form;
  }

  right_along : (ty : ℕ) → target_of p.types u ≡ Some ty → ValueHas (PointsTo D p live ty) v.right.value
  right_along = subst (λ (s : SideValue N). (ty : ℕ) → target_of p.types u ≡ Some ty
      → ValueHas (PointsTo D p live ty) s.value) same_v can.along

  object_pair : (q : Spot) → HasObject p live u q
      → HasPlace p live res (IsNumberType w) w q
      × (MayStand D p live v.left.value q × MayStand D p live v.right.value q)
  object_pair q o = (
    object_place p built tame fit live u w is q o res (IsNumberType w),
    (
      object_takes p built tame fit live u w is q o D live v.left.value can.along,
      object_takes p built tame fit live u w is q o D live v.right.value right_along,
    ),
  )

pub assignments_keep_good : {N : Type 0} (D : Ops N) → Lawful D → (p : Program) → IsBuilt p.types
    → are_tame_types p.types ≡ true → blocks_fit p.types p.blocks ≡ true → PlaceLaws D p → (ord : Side → Order)
    → AssignmentsKeepGood D p ord
assignments_keep_good D law p built tame fit places ord h k live res u w to v g is same_to equal_to same_v equal_v o can =
    let l = left_stays D p built tame fit k live res u w v is same_v can in
    let r = subst (CanStay D p k w) same_v l in
    let pl = places_of D (sizes D p) (size_of k.model w) (size_of k.model w) to in
    assigned_places D law p places ord h k live res w to v g same_to equal_to equal_v l r
    (each_spot_as (HasObject p live u)
    (TakesPair D law p places ord h k live res w to v g same_to equal_to equal_v l r)
    (object_pair D p built tame fit k live res u w v is same_v can) pl.left o)
