-- What a straight value comes to: both machines find the same number, and what is known of it is that number alone, or
-- it is 1; or a variable without a value is undefined on both.
use Rattle.std.proofs.Common.{◌≡◌, ℕ, ◌+◌, ◌<◌, Bool, true, false, ◌&&◌, ◌||◌, cond, List, [], ◌∷◌, refl, sym, ap}
use Rattle.std.proofs.Common.{◌∙◌, subst, Some, arith}
use Rattle.std.proofs.lemmas.Bool.{eq-eqb, le-leb, lt-ltb}
use Rattle.ep_int.specs.declared.types.IntType.{IntType}
use Rattle.ep_int.specs.declared.types.Model.{Model}
use Rattle.ep_int.specs.declared.types.Scalar.TheVariants.{Int}
use Rattle.ep_int.specs.Types.{bytes_of, size_of}
use Rattle.ep_bitslice.specs.declared.cell.Side.{Side as CellSide}
use Rattle.ep_bitslice.specs.declared.cell.Side.TheVariants.{Left, Right, Shared}
use Rattle.ep_cells.specs.declared.cell.Cell.{Cell}
use Rattle.ep_cells.specs.Cells.{place_of, meets, share_memory, is_same_side, IsIn, first, later}
use Rattle.ep_cells.specs.Look.{covers, cell_at}
use Rattle.ep_cells.specs.States.{Known, AreApart, AreCells}
use Rattle.ep_cells.proofs.Both.{one, left_first, right_first, one_order}
use Rattle.ep_reads.proofs.Found.{Covering, covering}
use Rattle.ep_cell_ranges.specs.Sound.{IsPlaced}
use Rattle.ep_core.specs.Runs.{Side, left, right}
use Rattle.ep_evaluation.specs.Given.{cells_of}
use Rattle.ep_straight_laws.proofs.Cells.{placed_at}

-- ---- the cell of a variable is the one that is looked up

module _ {N : Type 0} where
  cell_found : (d : Model) (s : CellSide) (b p : ℕ) (c : Cell N) (cs : List (Cell N)) → IsIn c cs
      → covers d s b p c ≡ true → (x : Cell N) × (cell_at d s b p cs ≡ Some x)
  cell_found d s b p c [] i h = elim i [ ]
  cell_found d s b p c (_ ∷ cs) (first _) h =
      (c, ap (λ t. cond t (Some c) (cell_at d s b p cs)) h)
  cell_found d s b p c (y ∷ cs) (later _ _ i) h = by (covers d s b p y) refl (cell_found d s b p c cs i h)
    where
      by : (t : Bool) → covers d s b p y ≡ t → (x : Cell N) × (cell_at d s b p cs ≡ Some x)
          → (x : Cell N) × (cond (covers d s b p y) (Some y) (cell_at d s b p cs) ≡ Some x)
      by true e q = (y, ap (λ t. cond t (Some y) (cell_at d s b p cs)) e)
      by false e q = (q.0, ap (λ t. cond t (Some y) (cell_at d s b p cs)) e ∙ q.1)

share_all : (s : CellSide) → share_memory s Shared ≡ true
share_all Left = refl
share_all Right = refl
share_all Shared = refl

module _ {N : Type 0} (k : Known N) (cells : AreCells k.model k.cells) (b : ℕ) (t : IntType) (c : Cell N)
    (q : IsPlaced Shared b 0 (Int t) c) (here : IsIn c k.cells) (s : Side) (j : ℕ) (inside : j < bytes_of t) where
  covered : covers k.model (cells_of s) b j c ≡ true
  covered =
      rw (
        q.side,
        q.block,
        q.offset,
        q.what,
        eq-eqb b b refl,
        le-leb 0 j (omega arith),
        lt-ltb j (0 + bytes_of t) (omega (arith, inside)),
      ) (shared_too s)
    where
      shared_too : (s : Side) → ((is_same_side Shared (cells_of s) || true) && (true && (true && true))) ≡ true
      shared_too left = refl
      shared_too right = refl

  met : (x : Cell N) → Covering k.model (cells_of s) b j k.cells x → meets (place_of k.model x)
      (place_of k.model c) ≡ true
  met x v =
      subst (λ u. meets (place_of k.model x) u ≡ true) (sym (placed_at k.model b t c q))
      (rw (
        share_all x.side,
        v.in_block,
        eq-eqb b b refl,
        lt-ltb x.offset (0 + bytes_of t) (omega (arith, v.low, inside)),
        lt-ltb 0 (x.offset + size_of k.model x.what) (omega (arith, v.high)),
      ) refl)

  met_back : (x : Cell N) → Covering k.model (cells_of s) b j k.cells x → meets (place_of k.model c)
      (place_of k.model x) ≡ true
  met_back x v =
      subst (λ u. meets u (place_of k.model x) ≡ true) (sym (placed_at k.model b t c q))
      (rw (
        share_too x.side,
        v.in_block,
        eq-eqb b b refl,
        lt-ltb x.offset (0 + bytes_of t) (omega (arith, v.low, inside)),
        lt-ltb 0 (x.offset + size_of k.model x.what) (omega (arith, v.high)),
      ) refl)
    where
      share_too : (s : CellSide) → share_memory Shared s ≡ true
      share_too Left = refl
      share_too Right = refl
      share_too Shared = refl

  pub looked_up : cell_at k.model (cells_of s) b j k.cells ≡ Some c
  looked_up =
      let f = cell_found k.model (cells_of s) b j c k.cells here covered in
      let v = covering k.model (cells_of s) b j k.cells f.0 f.1 in
      elim (one_order (AreApart k.model) f.0 c k.cells cells.pairs v.is_in here) [
        | one e ↦ f.1 ∙ ap Some e
        | left_first r ↦ absurd (let z : true ≡ false = sym (met f.0 v) ∙ r.apart in cc)
        | right_first r ↦ absurd (let z : true ≡ false = sym (met_back f.0 v) ∙ r.apart in cc)
      ]
