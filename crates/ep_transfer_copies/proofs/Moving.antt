-- Cells of one place that stand in another.
use Rattle.std.proofs.Common.{◌≡◌, ℕ, Bool, true, false, ◌&&◌, cond, List, refl, sym, ap, ◌∙◌, subst, map}
use Rattle.ep_int.specs.declared.types.Model.{Model}
use Rattle.ep_bitslice.specs.declared.cell.Side.{Side as CellSide}
use Rattle.ep_bitslice.specs.declared.cell.Side.TheVariants.{Shared}
use Rattle.ep_domain.specs.Domain.{Ops}
use Rattle.ep_cells.specs.declared.cell.Cell.{Cell}
use Rattle.ep_cells.specs.declared.place.ByteRange.{ByteRange}
use Rattle.ep_cells.specs.Cells.{is_same_side}
use Rattle.ep_cells.specs.States.{Known}
use Rattle.ep_cell_ranges.specs.Moves.{moved_to, place_at}
use Rattle.ep_cell_ranges.specs.Ranges.{replaced}
use Rattle.ep_cell_ranges.specs.Spots.{Spot, is_same_spot}
use Rattle.ep_cell_ranges.specs.Sound.{AreNew}
use Rattle.ep_core.specs.Runs.{Side, left, right}
use Rattle.ep_evaluation.specs.Given.{cells_of}
use Rattle.ep_transfers.specs.Copies.{moved_on}

pub one_side : (s : Side) → is_same_side (cells_of s) Shared ≡ false
one_side left = refl
one_side right = refl

pub new_there : {N : Type 0} (d : Model) (cs xs ys : List (Cell N)) (p q : ByteRange) → p ≡ q → xs ≡ ys
    → AreNew d q cs ys → AreNew d p cs xs
new_there d cs xs ys p q e f h = subst (λ z. AreNew d z cs xs) (sym e) (subst (AreNew d q cs) (sym f) h)

module _ {N : Type 0} (D : Ops N) (agg : Bool) (q p : Spot) (n : ℕ) (k : Known N) where
  abbrev put : CellSide → List (Cell N) → Known N
  put s xs = replaced D (place_at s q n) (map (moved_to p q) xs) k

  pub stays_there : (s : CellSide) (xs : List (Cell N)) → (agg && is_same_spot q p) ≡ true
      → k ≡ moved_on D s agg q p n xs k
  stays_there s xs e = sym (ap (λ t. cond t k (put s xs)) e)

  pub goes_there : (j : Known N) (s t : CellSide) (xs ys : List (Cell N)) → (agg && is_same_spot q p) ≡ false
      → s ≡ t → xs ≡ ys → j ≡ put s xs → j ≡ moved_on D t agg q p n ys k
  goes_there j s t xs ys e f g h =
      h ∙ ap (λ u. put u xs) f ∙ ap (put t) g ∙ sym (ap (λ b. cond b k (put t ys)) e)
