-- The cells of an object of a tame program, and what is written at the same offset of several objects of a type.
use Rattle.std.proofs.Common.{◌≡◌, ◌+◌, ◌<◌, ◌≤◌, Bool, true, inl, List, [], ◌∷◌, Some, ℕ}
use Rattle.std.proofs.Common.{ap, ◌∙◌, arith}
use Rattle.ep_int.specs.declared.types.Order.{Order}
use Rattle.ep_int.specs.declared.types.Scalar.{Scalar}
use Rattle.ep_layout.specs.Table.{IsBuilt, size, leaves}
use Rattle.ep_domain.specs.Domain.{Ops, Lawful}
use Rattle.ep_cells.specs.Kill.{leaf_at, is_in_leaf}
use Rattle.ep_cells.specs.States.{Known}
use Rattle.ep_cell_ranges.specs.Spots.{Spot}
use Rattle.ep_core.specs.Program.{Program}
use Rattle.ep_core.specs.Runs.{Side}
use Rattle.ep_core.specs.WellFormed.{blocks_fit}
use Rattle.ep_equalities.specs.declared.pair.Mode.TheVariants.{Both}
use Rattle.ep_kinds.specs.Tame.{are_tame_types}
use Rattle.ep_transfers.specs.Places.{Places, moved_spot, moved_spots, moved_places}
use Rattle.ep_transfers.specs.Writes.{Item, write_now}
use Rattle.ep_tame_laws.proofs.Parts.{part_fits}
use Rattle.ep_tame_places.specs.Laws.{PlaceLaws}
use Rattle.ep_tame_places.proofs.Blocks.{block_at}
use Rattle.ep_tame_accesses.specs.Laws.{HasObject, EachSpot}
use Rattle.ep_tame_cells.specs.Shape.{cell_type, or_outside}
use Rattle.ep_tame_parts.specs.Laws.{HasLeavesAt}
use Rattle.ep_tame_parts.proofs.Same.{parts_have_cells}
use Rattle.ep_tame_states.specs.States.{IsGood}
use Rattle.ep_tame_writes.specs.Stands.{HasPlace, MayStand, CanStay}
use Rattle.ep_tame_writes.proofs.Placed.{written_good}

module _ (p : Program) (built : IsBuilt p.types) (tame : are_tame_types p.types ≡ true)
    (fit : blocks_fit p.types p.blocks ≡ true) (live : List ℕ) (ty n : ℕ) (sz : size p.types ty ≡ Some n) (q : Spot)
    (o : HasObject p live ty q) where
  pub own_leaves : HasLeavesAt p.types.model (leaves p.types o.of_block.ty) (leaves p.types ty) q.1 n
  own_leaves = parts_have_cells p.types built tame o.of_block.ty q.1 ty n o.stands sz

  pub object_ends : q.1 + n ≤ o.of_block.size
  object_ends =
      part_fits p.types built o.of_block.ty q.1 ty o.of_block.size n o.stands
      (block_at p fit q.0 o.of_block o.there).sized sz

  pub cell_of_part : (x : ℕ) → x < n → cell_type p.types o.of_block.ty (q.1 + x) ≡ cell_type p.types ty x
  cell_of_part x l =
      ap (λ a. or_outside a (is_in_leaf p.types.model (leaves p.types o.of_block.ty) (q.1 + x))) (own_leaves.begins x l)
      ∙ ap (or_outside (leaf_at (leaves p.types ty) x)) (own_leaves.inside x l)

  pub part_place : (res : List ℕ) (Taken : Type 0) (x : ℕ) → x < n → (w : Scalar) → cell_type p.types ty x ≡ Some w
      → HasPlace p live res Taken w (moved_spot x q)
  part_place res Taken x l w h =
      let end = object_ends in
      record {
        of_block = o.of_block;
        there = o.there;
        held = inl o.named;
        inside = omega (arith, end, l);
        what = cell_of_part x l ∙ h;
      }

each_moved : (P Q : Spot → Type 0) (x : ℕ) → ((q : Spot) → P q → Q (moved_spot x q)) → (qs : List Spot)
    → EachSpot P qs → EachSpot Q (moved_spots x qs)
each_moved P Q x go [] h = tt
each_moved P Q x go (q ∷ qs) h = (go q h.0, each_moved P Q x go qs h.1)

module _ {N : Type 0} (D : Ops N) (law : Lawful D) (p : Program) (built : IsBuilt p.types)
    (tame : are_tame_types p.types ≡ true) (fit : blocks_fit p.types p.blocks ≡ true) (places : PlaceLaws D p)
    (ord : Side → Order) (h : Known N) (live res : List ℕ) (ty n : ℕ) (sz : size p.types ty ≡ Some n) (pl : Places)
    (to_left : EachSpot (HasObject p live ty) pl.left) (to_right : EachSpot (HasObject p live ty) pl.right) where
  -- the value of each side may stand at this offset of an object
  abbrev pub StandAt : ℕ → Item N → Type 0
  StandAt x i =
      (q : Spot) → HasObject p live ty q
      → MayStand D p live i.pair.left.value (moved_spot x q) × MayStand D p live i.pair.right.value (moved_spot x q)

  pub offset_good : (same_to : Bool) → same_to ≡ true → (k : Known N) → IsGood D p ord h live res k → (x : ℕ) → x < n
      → (w : Scalar) → cell_type p.types ty x ≡ Some w → (i : Item N) → CanStay D p k w i.pair.left
      → CanStay D p k w i.pair.right → i.same ≡ true → StandAt x i
      → IsGood D p ord h live res (write_now D Both same_to w (moved_places x pl) i k)
  offset_good same_to equal k g x l w c i stays stays_right same stands =
      written_good D law p places ord h live res w ⊥ k g i stays stays_right (λ e. absurd e) same_to equal same
      (moved_places x pl)
      (each_moved (HasObject p live ty) Takes x takes pl.left to_left)
      (each_moved (HasObject p live ty) Takes x takes pl.right to_right)
    where
      Takes : Spot → Type 0
      Takes q =
          HasPlace p live res ⊥ w q × (MayStand D p live i.pair.left.value q × MayStand D p live i.pair.right.value q)

      takes : (q : Spot) → HasObject p live ty q → Takes (moved_spot x q)
      takes q o = (part_place p built tame fit live ty n sz q o res ⊥ x l w c, stands q o)
