-- Writes change no data model.
use Rattle.std.proofs.Common.{◌≡◌, ℕ, Bool, true, false, ◌&&◌, if◌then◌else◌, List, [], ◌∷◌, slice_get, None, IfSome}
use Rattle.std.proofs.Common.{refl, ◌∙◌}
use Rattle.ep_int.specs.declared.types.Scalar.{Scalar}
use Rattle.ep_bitslice.specs.declared.cell.Side.{Side as CellSide}
use Rattle.ep_bitslice.specs.declared.cell.Side.TheVariants as cell_side
use Rattle.ep_domain.specs.Domain.{Ops}
use Rattle.ep_cells.specs.declared.cell.Cell.{Cell}
use Rattle.ep_cells.specs.declared.place.ByteRange.{ByteRange}
use Rattle.ep_cells.specs.Cells.{place_of}
use Rattle.ep_cells.specs.Forms.{common_form}
use Rattle.ep_cells.specs.States.{Known}
use Rattle.ep_core.specs.Program.{Program}
use Rattle.ep_core.specs.Runs.{Side, left, right}
use Rattle.ep_equalities.specs.declared.pair.Mode.{Mode}
use Rattle.ep_equalities.specs.declared.pair.Mode.TheVariants.{Both, Left, Right}
use Rattle.ep_equalities.specs.declared.pair.PairValue.{PairValue}
use Rattle.ep_equalities.specs.Same.{is_same}
use Rattle.ep_evaluation.specs.Given.{on}
use Rattle.ep_cell_ranges.specs.Ranges.{cut_on}
use Rattle.ep_cell_ranges.specs.Spots.{Spot, is_same_spot, all_spots}
use Rattle.ep_int.specs.Types.{size_of}
use Rattle.ep_transfers.specs.Places.{Places, has_places, has_values, places_of}
use Rattle.ep_transfers.specs.Writes.{Underway, underway, item_of, strongly, weakly, weakly_each, side_cell}
use Rattle.ep_transfers.specs.Writes.{write_side, write_sides, shared_cell, write_shared, write_shared_each}
use Rattle.ep_transfers.specs.Writes.{write_same, write_both, write, write_now}
use Rattle.ep_transfers.specs.Transfers.{if_goes_on, assigned, killed_block, killed_blocks, cells_of_mode, entered}

module _ {N : Type 0} (D : Ops N) where
  cut_model : (s : CellSide) (p : ByteRange) (k : Known N) → (cut_on D s p k).model ≡ k.model
  cut_model cell_side.Left p k = refl
  cut_model cell_side.Right p k = refl
  cut_model cell_side.Shared p k = refl

  strong_model : (c : Cell N) (u : Underway N) → (strongly D c u).known.model ≡ u.known.model
  strong_model c u = cut_model c.side (place_of u.known.model c) u.known

  each_model : (c : Spot → Cell N) (stays : Bool) (qs : List Spot) (u : Underway N)
      → (weakly_each D c stays qs u).known.model ≡ u.known.model
  each_model c stays [] u = refl
  each_model c stays (q ∷ qs) u = each_model c stays qs (weakly D (c q) stays u)

  side_model : (s : Side) (w : Scalar) (qs : List Spot) (u : Underway N)
      → (write_side D s w qs u).known.model ≡ u.known.model
  side_model s w [] u = refl
  side_model s w (q ∷ []) u = strong_model (side_cell D s w u.item (on u.item.pair s).form q) u
  side_model s w (q ∷ r ∷ qs) u = each_model (side_cell D s w u.item None) false (q ∷ r ∷ qs) u

  sides_model : (w : Scalar) (p : Places) (u : Underway N) → (write_sides D w p u).known.model ≡ u.known.model
  sides_model w p u = side_model right w p.right (write_side D left w p.left u) ∙ side_model left w p.left u

  shared_model : (w : Scalar) (qs : List Spot) (u : Underway N)
      → (write_shared_each D w qs u).known.model ≡ u.known.model
  shared_model w qs u = each_model (shared_cell D w u.item None) true qs u

  spot_model : (w : Scalar) (q r : Spot) (u : Underway N) (t : Bool)
      → (if t then write_shared D w q u else write_shared_each D w (all_spots (q ∷ []) (r ∷ [])) u).known.model
      ≡ u.known.model
  spot_model w q r u true =
      strong_model (shared_cell D w u.item (common_form u.item.pair.left.form u.item.pair.right.form) q) u
  spot_model w q r u false = shared_model w (all_spots (q ∷ []) (r ∷ [])) u

  same_model : (w : Scalar) (qs rs : List Spot) (u : Underway N) → (write_same D w qs rs u).known.model ≡ u.known.model
  same_model w (q ∷ []) (r ∷ []) u = spot_model w q r u (is_same_spot q r)
  same_model w (q ∷ []) [] u = shared_model w (all_spots (q ∷ []) []) u
  same_model w (q ∷ []) (r ∷ r' ∷ rs) u = shared_model w (all_spots (q ∷ []) (r ∷ r' ∷ rs)) u
  same_model w [] rs u = shared_model w (all_spots [] rs) u
  same_model w (q ∷ q' ∷ qs) rs u = shared_model w (all_spots (q ∷ q' ∷ qs) rs) u

  both_model : (t : Bool) (w : Scalar) (p : Places) (u : Underway N)
      → (write_both D t w p u).known.model ≡ u.known.model
  both_model true w p u = same_model w p.left p.right u
  both_model false w p u = sides_model w p u

  write_model : (m : Mode) (to : Bool) (w : Scalar) (p : Places) (u : Underway N)
      → (write D m to w p u).known.model ≡ u.known.model
  write_model Both to w p u = both_model (to && u.item.same) w p u
  write_model Left to w p u = side_model left w p.left u
  write_model Right to w p u = side_model right w p.right u

  if_model : (t : Bool) (k j : Known N) → j.model ≡ k.model → IfSome (if_goes_on t j) (λ l. l.model ≡ k.model)
  if_model true k j h = h
  if_model false k j h = tt

  pub assigned_model : (blocks : List ℕ) (m : Mode) (w : Scalar) (to v : PairValue N) (k : Known N)
      → IfSome (assigned D blocks m w to v k).next (λ l. l.model ≡ k.model)
  assigned_model blocks m w to v k =
      let p = places_of D blocks (size_of k.model w) (size_of k.model w) to in
      if_model (has_places m p && has_values m v) k (write_now D m (is_same D to) w p (item_of D v) k)
      (write_model m (is_same D to) w p (underway k (item_of D v)))

module _ {N : Type 0} (D : Ops N) (p : Program) where
  killed_model : (s : CellSide) (bs : List ℕ) (k : Known N) → (killed_blocks D p s bs k).model ≡ k.model
  killed_model s [] k = refl
  killed_model s (b ∷ bs) k = killed_model s bs (killed_block D p s b (slice_get p.blocks b) k)

  pub entered_model : (m : Mode) (bs : List ℕ) (k : Known N) → (entered D p m bs k).model ≡ k.model
  entered_model m bs k = killed_model (cells_of_mode m) bs k
