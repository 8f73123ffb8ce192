-- No bytes are written where no cell has bytes on both sides of the place.
use Rattle.std.proofs.Common.{◌≡◌, ◌+◌, ◌<◌, Bool, true, false, ◌&&◌, cond, inl, inr, List, [], ◌∷◌, ◌++◌, ℕ}
use Rattle.std.proofs.Common.{map, Option, Some, None, nat_eq, nat_lt, slice_get, refl, sym, ap, ◌∙◌, subst, arith}
use Rattle.std.proofs.lemmas.Bool.{and_parts, and_from, eqb-true, ltb-true, lt-ltb, or_left, or_right, false_from_ne_true}
use Rattle.ep_int.specs.declared.types.IntType.TheVariants.{U8}
use Rattle.ep_int.specs.declared.types.Model.{Model}
use Rattle.ep_int.specs.declared.types.Order.{Order}
use Rattle.ep_int.specs.declared.types.Scalar.{Scalar}
use Rattle.ep_int.specs.declared.types.Scalar.TheVariants.{Int as Number}
use Rattle.ep_int.specs.Types.{size_of}
use Rattle.ep_layout.specs.declared.types.Leaf.{Leaf}
use Rattle.ep_layout.specs.Table.{leaves}
use Rattle.ep_bitslice.specs.declared.cell.Side.{Side as CellSide}
use Rattle.ep_bitslice.specs.declared.cell.Side.TheVariants.{Left, Right}
use Rattle.ep_domain.specs.Domain.{Ops, Lawful}
use Rattle.ep_cells.specs.declared.cell.Cell.{Cell}
use Rattle.ep_cells.specs.Cells.{IsIn, first, later, place_of, touches, parts_of, each_becomes}
use Rattle.ep_cells.specs.Forms.{Fate, reformed}
use Rattle.ep_cells.specs.Kill.{leaf_at, is_in_leaf}
use Rattle.ep_cells.specs.States.{Known, AreCells, HaveCellsAlike}
use Rattle.ep_cells.specs.Weaken.{fate_by_weak_write}
use Rattle.ep_cells.proofs.Lists.{in_map}
use Rattle.ep_cell_ranges.specs.Moves.{place_at, blurred_each}
use Rattle.ep_cell_ranges.specs.Ranges.{blurred_at, blurred_part, left_by_blur}
use Rattle.ep_cell_ranges.specs.Spots.{Spot}
use Rattle.ep_cell_ranges.proofs.Blurs.{of_blurs}
use Rattle.ep_core.specs.Program.{Program, Block}
use Rattle.ep_core.specs.Runs.{Side}
use Rattle.ep_transfers.specs.Places.{Places}
use Rattle.ep_transfers.specs.Transfers.{none_written}
use Rattle.ep_tame_laws.proofs.LeavesIn.{HasLeaf, has_leaf}
use Rattle.ep_tame_parts.specs.Laws.{cuts_leaf}
use Rattle.ep_tame_places.specs.Laws.{PlaceLaws}
use Rattle.ep_tame_accesses.specs.Laws.{EachSpot}
use Rattle.ep_tame_cells.specs.Shape.{or_outside}
use Rattle.ep_tame_states.specs.States.{CellPoints, IsGood}
use Rattle.ep_tame_states.proofs.Meetings.{form_apart, good_alike}
use Rattle.ep_equalities.specs.declared.pair.Mode.TheVariants.{Both}

-- a place that is inside of no leaf
abbrev pub IsUncut : Program → Spot → Type 0
IsUncut p q =
    (x : Block) → slice_get p.blocks q.0 ≡ Some x → cuts_leaf p.types.model (leaves p.types x.ty) q.1 ≡ false

-- an offset inside of a leaf
leaf_cuts : (d : Model) (ls : List Leaf) (o q : ℕ) (w : Scalar) → HasLeaf o w ls → o < q → q < o + size_of d w
    → cuts_leaf d ls q ≡ true
leaf_cuts d [] o q w i l m = absurd i
leaf_cuts d (x ∷ ls) o q w (inl e) l m =
    let a = e.0 in
    let b = ap (size_of d) e.1 in
    or_left (nat_lt x.offset q && nat_lt q (x.offset + size_of d x.what)) (cuts_leaf d ls q)
    (and_from (nat_lt x.offset q) (nat_lt q (x.offset + size_of d x.what)) (lt-ltb x.offset q (omega (arith, a, l)))
    (lt-ltb q (x.offset + size_of d x.what) (omega (arith, a, b, m))))
leaf_cuts d (x ∷ ls) o q w (inr i) l m =
    or_right (nat_lt x.offset q && nat_lt q (x.offset + size_of d x.what)) (cuts_leaf d ls q)
    (leaf_cuts d ls o q w i l m)

-- the cell at an offset has one byte, or is a leaf
pub cell_cuts : (d : Model) (ls : List Leaf) (o q : ℕ) (w : Scalar) (a : Option Scalar) (b : Bool) → leaf_at ls o ≡ a
    → or_outside a b ≡ Some w → o < q → q < o + size_of d w → cuts_leaf d ls q ≡ true
cell_cuts d ls o q w (Some v) b at is l m =
    let same : v ≡ w = cc in
    leaf_cuts d ls o q w (has_leaf ls o w (at ∙ ap Some same)) l m
cell_cuts d ls o q w None true at is l m = absurd cc
cell_cuts d ls o q w None false at is l m =
    let same : Number U8 ≡ w = cc in
    let one = ap (size_of d) same in
    absurd (omega (arith, l, m, one))

module _ {N : Type 0} where
  pub kept_places : (g : Cell N → List (Cell N)) (f : Fate) (cs : List (Cell N))
      → ((c : Cell N) → IsIn c cs → g c ≡ c ∷ []) → HaveCellsAlike cs (map (reformed f) (each_becomes g cs))
  kept_places g f [] h = tt
  kept_places g f (c ∷ cs) h =
      subst (λ xs. HaveCellsAlike (c ∷ cs) (map (reformed f) (xs ++ each_becomes g cs))) (sym (h c (first cs))) (
        record { side = refl; block = refl; offset = refl; what = refl },
        kept_places g f cs (λ x i. h x (later c cs i)),
      )

  pub all_kept : (g : Cell N → List (Cell N)) (cs : List (Cell N)) → ((c : Cell N) → IsIn c cs → g c ≡ c ∷ [])
      → each_becomes g cs ≡ cs
  all_kept g [] h = refl
  all_kept g (c ∷ cs) h =
      ap (λ xs. xs ++ each_becomes g cs) (h c (first cs)) ∙ ap (λ xs. c ∷ xs) (all_kept g cs (λ x i. h x (later c cs i)))

module _ {N : Type 0} (D : Ops N) (law : Lawful D) (p : Program) (places : PlaceLaws D p) (ord : Side → Order)
    (h : Known N) (live res : List ℕ) where
  abbrev Good : Known N → Type 0
  Good k = IsGood D p ord h live res k

  pub missed : (k : Known N) → Good k → (s : CellSide) (q : Spot) → IsUncut p q → (x : Cell N) → IsIn x k.cells
      → touches (place_at s q 0) (place_of k.model x) ≡ false
  missed k g s q uncut x i =
      let leaf = g.shape.leaf x i in
      false_from_ne_true (touches (place_at s q 0) (place_of k.model x))
      (λ t. (
      let a = and_parts (nat_eq q.0 x.block)
      (nat_lt q.1 (x.offset + size_of k.model x.what) && nat_lt x.offset (q.1 + 0)) t in
      let b = and_parts (nat_lt q.1 (x.offset + size_of k.model x.what)) (nat_lt x.offset (q.1 + 0)) a.1 in
      let up = ltb-true q.1 (x.offset + size_of k.model x.what) b.0 in
      let low = ltb-true x.offset (q.1 + 0) b.1 in
      let same = ap (λ d. size_of d x.what) g.state.model in
      differ (sym (cell_cuts p.types.model (leaves p.types leaf.of_block.ty) x.offset q.1 x.what
      (leaf_at (leaves p.types leaf.of_block.ty) x.offset)
      (is_in_leaf p.types.model (leaves p.types leaf.of_block.ty) x.offset) refl leaf.what (omega (arith, low))
      (omega (arith, up, same)))
      ∙ uncut leaf.of_block (ap (slice_get p.blocks) (eqb-true q.0 x.block a.0) ∙ leaf.there))))
    where
      differ : true ≡ false → ⊥
      differ e = cc

  stays : (k : Known N) → Good k → (s : CellSide) (q : Spot) → IsUncut p q → (x : Cell N) → IsIn x k.cells
      → left_by_blur D k.model (place_at s q 0) x ≡ x ∷ []
  stays k g s q uncut x i = ap (λ t. cond t (each_becomes (blurred_part D s) (parts_of x)) (x ∷ [])) (missed k g s q uncut x i)

  any_form : (x : Cell N) (fate : Fate) → CellPoints D p live x → CellPoints D p live (reformed fate x)
  any_form x fate i = record {
    inside = i.inside;
    along = i.along;
    sure = λ m. form_apart x (reformed fate x) refl refl (i.sure m);
  }

  blur_good : (k : Known N) → Good k → (s : CellSide) (q : Spot) → IsUncut p q → Good (blurred_at D (place_at s q 0) k)
  blur_good k g s q uncut =
      let r = place_at s q 0 in
      let cells = (of_blurs D law).cells k r g.state.cells in
      good_alike D law p places ord h k live res (blurred_at D r k).cells g
      (subst (λ d. AreCells d (blurred_at D r k).cells) g.state.model cells)
      (kept_places (left_by_blur D k.model r) (fate_by_weak_write r) k.cells (λ x i. stays k g s q uncut x i))
      (λ y j. (
      let m = in_map (reformed (fate_by_weak_write r)) y (each_becomes (left_by_blur D k.model r) k.cells) j in
      let old = subst (IsIn m.origin)
      (all_kept (left_by_blur D k.model r) k.cells (λ x i. stays k g s q uncut x i)) m.is_in in
      subst (CellPoints D p live) (sym m.is) (any_form m.origin (fate_by_weak_write r) (g.points m.origin old))))

  pub blurs_good : (s : CellSide) (qs : List Spot) → EachSpot (IsUncut p) qs → (k : Known N) → Good k
      → Good (blurred_each D s 0 qs k)
  blurs_good s [] o k g = g
  blurs_good s (q ∷ qs) o k g = blurs_good s qs o.1 (blurred_at D (place_at s q 0) k) (blur_good k g s q o.0)

  pub none_good : (pl : Places) → EachSpot (IsUncut p) pl.left → EachSpot (IsUncut p) pl.right → (k : Known N)
      → Good k → Good (none_written D Both pl k)
  none_good pl l r k g = blurs_good Right pl.right r (blurred_each D Left 0 pl.left k) (blurs_good Left pl.left l k g)
