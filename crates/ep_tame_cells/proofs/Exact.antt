-- What is read of cells of both memories alone, each as a whole.
use Rattle.std.proofs.Common.{◌≡◌, ℕ, ◌+◌, Bool, true, false, ◌&&◌, ◌||◌, cond, ◌⊎◌, inl, inr, List, [], ◌∷◌, Option}
use Rattle.ep_evaluation.proofs.LoadCell.{same_sort}
use Rattle.std.proofs.Common.{Some, None, refl, sym, ap, ◌∙◌, arith, nat_eq, nat_lt, nat_le, slice_get}
use Rattle.std.proofs.lemmas.Bool.{and_parts, and_from, or_right, eq-eqb, leb-true, le-leb, lt-ltb}
use Rattle.ep_int.specs.declared.types.Model.{Model}
use Rattle.ep_int.specs.declared.types.Scalar.{Scalar}
use Rattle.ep_int.specs.Types.{size_of}
use Rattle.ep_layout.specs.Table.{IsBuilt, size, leaves, scalar_of}
use Rattle.ep_layout.proofs.Sizes.{size_of_scalar}
use Rattle.ep_bitslice.specs.declared.cell.Side.{Side}
use Rattle.ep_bitslice.specs.declared.cell.Side.TheVariants.{Left, Right, Shared}
use Rattle.ep_domain.specs.Domain.{Ops}
use Rattle.ep_cells.specs.declared.cell.Cell.{Cell}
use Rattle.ep_cells.specs.Cells.{IsIn, first, later, place_of, touches, meets, share_memory, is_same_side}
use Rattle.ep_cells.specs.Kill.{is_in_leaf}
use Rattle.ep_cells.specs.Look.{covers, cell_at}
use Rattle.ep_cells.specs.States.{Known, EachPair, AreApart}
use Rattle.ep_cells.proofs.Lists.{each_at}
use Rattle.ep_reads.specs.Read.{is_same_sort, is_exact, whole_read, read_in_parts, read_with, read}
use Rattle.ep_cell_ranges.specs.Shared.{is_shared_cell}
use Rattle.ep_cell_ranges.specs.Spots.{Spot}
use Rattle.ep_core.specs.Program.{Block, Program}
use Rattle.ep_evaluation.specs.Accesses.{reads_of, are_shared}
use Rattle.ep_kinds.specs.Tame.{are_tame_types}
use Rattle.ep_kinds.specs.Rows.{HasScalar}
use Rattle.ep_tame_cells.specs.Shared.{AreShared, AreSharedCells}
use Rattle.ep_tame_laws.proofs.Parts.{part_fits, scalar_is_leaf, scalar_size}
use Rattle.ep_tame_cells.specs.Shape.{or_outside, HasCellAt, IsCovered}
use Rattle.ep_tame_cells.specs.ReadLaws.{HaveCells, ReadLaws}

pub differ : {A : Type 0} → true ≡ false → A
differ h = absurd cc

module _ {N : Type 0} where
  -- ---- the cell at a scalar

  cell_stands : (p : Program) (cs : List (Cell N)) (b : ℕ) (k : Block) (o ty : ℕ) (w : Scalar) → IsBuilt p.types
      → are_tame_types p.types ≡ true → slice_get p.blocks b ≡ Some k → size p.types k.ty ≡ Some k.size
      → IsCovered p cs b → HasScalar p.types k.ty o ty → scalar_of p.types ty ≡ Some w → HasCellAt p cs b o w
  cell_stands p cs b k o ty w built tame there sized covered at is =
      let fits = part_fits p.types built k.ty o ty k.size (size_of p.types.model w) at sized
      (scalar_size p.types built ty w is) in
      let some = (size_of_scalar p.types.model w).0 in
      covered k there o (omega (arith, fits, some)) w
      (ap (λ x. or_outside x (is_in_leaf p.types.model (leaves p.types k.ty) o))
      (scalar_is_leaf p.types built tame k.ty o ty at w is))

  -- ---- the cell of a byte

  first_or_later : (y x : Cell N) (cs : List (Cell N)) → IsIn y (x ∷ cs) → (y ≡ x) ⊎ IsIn y cs
  first_or_later y _ cs (first _) = inl refl
  first_or_later y x cs (later _ _ i) = inr i

  covers_own : (d : Model) (s : Side) (c : Cell N) → c.side ≡ Shared → covers d s c.block c.offset c ≡ true
  covers_own d s c e =
      let some = (size_of_scalar d c.what).0 in
      and_from (is_same_side c.side s || is_same_side c.side Shared) _
      (or_right (is_same_side c.side s) (is_same_side c.side Shared) (ap (λ q. is_same_side q Shared) e))
      (and_from (nat_eq c.block c.block) _ (eq-eqb c.block c.block refl)
      (and_from (nat_le c.offset c.offset) (nat_lt c.offset (c.offset + size_of d c.what))
      (le-leb c.offset c.offset (omega arith))
      (lt-ltb c.offset (c.offset + size_of d c.what) (omega (arith, some)))))

  -- a cell with the first byte of another one meets it
  covers_meets : (d : Model) (s : Side) (x c : Cell N) → x.side ≡ Shared → c.side ≡ Shared
      → covers d s c.block c.offset x ≡ true → meets (place_of d x) (place_of d c) ≡ true
  covers_meets d s x c e f h =
      let a = and_parts (is_same_side x.side s || is_same_side x.side Shared)
      (nat_eq x.block c.block && (nat_le x.offset c.offset && nat_lt c.offset (x.offset + size_of d x.what))) h in
      let b = and_parts (nat_eq x.block c.block)
      (nat_le x.offset c.offset && nat_lt c.offset (x.offset + size_of d x.what)) a.1 in
      let g = and_parts (nat_le x.offset c.offset) (nat_lt c.offset (x.offset + size_of d x.what)) b.1 in
      let low = leb-true x.offset c.offset g.0 in
      let some = (size_of_scalar d c.what).0 in
      shared_meets (and_from (nat_eq x.block c.block) _ b.0
      (and_from (nat_lt x.offset (c.offset + size_of d c.what)) (nat_lt c.offset (x.offset + size_of d x.what))
      (lt-ltb x.offset (c.offset + size_of d c.what) (omega (arith, low, some))) g.1))
    where
      shared_meets : touches (place_of d x) (place_of d c) ≡ true → meets (place_of d x) (place_of d c) ≡ true
      shared_meets t =
          ap (λ q. share_memory q c.side && touches (place_of d x) (place_of d c)) e
          ∙ ap (λ q. share_memory Shared q && touches (place_of d x) (place_of d c)) f ∙ t

  cell_found : (d : Model) (s : Side) (c : Cell N) (cs : List (Cell N)) → EachPair (AreApart d) cs → AreShared cs
      → c.side ≡ Shared → IsIn c cs → cell_at d s c.block c.offset cs ≡ Some c
  cell_found d s c [] pairs sh e i = elim i [ ]
  cell_found d s c (x ∷ cs) pairs sh e i =
      by_place (first_or_later c x cs i) (cell_found d s c cs pairs.1 sh.1 e)
    where
      choose : (y : Cell N) → Bool → Option (Cell N)
      choose y t = cond t (Some y) (cell_at d s c.block c.offset cs)

      by_cover : (t : Bool) → covers d s c.block c.offset x ≡ t → IsIn c cs
          → cell_at d s c.block c.offset cs ≡ Some c → cell_at d s c.block c.offset (x ∷ cs) ≡ Some c
      by_cover true h j rest =
          differ (sym (covers_meets d s x c sh.0 e h) ∙ (each_at (AreApart d x) c cs pairs.0 j).apart)
      by_cover false h j rest = ap (choose x) h ∙ rest

      by_place : (c ≡ x) ⊎ IsIn c cs → (IsIn c cs → cell_at d s c.block c.offset cs ≡ Some c)
          → cell_at d s c.block c.offset (x ∷ cs) ≡ Some c
      by_place (inl same) rest =
          ap (choose x) (ap (λ y. covers d s c.block c.offset y) (sym same) ∙ covers_own d s c e) ∙ ap Some (sym same)
      by_place (inr j) rest = by_cover (covers d s c.block c.offset x) refl j (rest j)

  shared_in : (cs : List (Cell N)) → AreShared cs → (x : Cell N) → IsIn x cs → x.side ≡ Shared
  shared_in cs s x i = each_at (λ (c : Cell N). c.side ≡ Shared) x cs s i

  pub found : (k : Known N) (s : Side) (c : Cell N) → AreSharedCells k.model k.cells → IsIn c k.cells
      → cell_at k.model s c.block c.offset k.cells ≡ Some c
  found k s c a i = cell_found k.model s c k.cells a.cells.pairs a.shared (shared_in k.cells a.shared c i) i

  pub exact : (d : Model) (c : Cell N) → is_exact d c.what c.offset c ≡ true
  exact d c =
      and_from (nat_eq c.offset c.offset) _ (eq-eqb c.offset c.offset refl)
      (and_from (nat_eq (size_of d c.what) (size_of d c.what)) (is_same_sort c.what c.what)
      (eq-eqb (size_of d c.what) (size_of d c.what) refl) (same_sort c.what))

  -- ---- reads

  whole : (D : Ops N) (k : Known N) (s : Side) (c : Cell N) → AreSharedCells k.model k.cells → IsIn c k.cells
      → read D k s c.block c.offset c.what ≡ whole_read D c.what c
  whole D k s c a i =
      ap (read_with D k s c.block c.offset c.what) (found k s c a i)
      ∙ ap (λ t. cond t (whole_read D c.what c) (read_in_parts D k s c.block c.offset c.what)) (exact k.model c)

  -- at a place that has a cell
  pub read_there : (D : Ops N) (p : Program) (k : Known N) (s : Side) (b q : ℕ) (w : Scalar)
      → AreSharedCells k.model k.cells → (h : HasCellAt p k.cells b q w) → read D k s b q w ≡ whole_read D w h.cell
  read_there D p k s b q w a h =
      ap (λ x. read D k s x q w) (sym h.block) ∙ ap (λ x. read D k s h.cell.block x w) (sym h.offset)
      ∙ ap (λ x. read D k s h.cell.block h.cell.offset x) (sym h.what) ∙ whole D k s h.cell a h.is_in
      ∙ ap (λ x. whole_read D x h.cell) h.what

  reads_alike : (D : Ops N) (p : Program) (k : Known N) (w : Scalar) (qs : List Spot) → AreSharedCells k.model k.cells
      → HaveCells p k.cells w qs → reads_of D k Left w qs ≡ reads_of D k Right w qs
  reads_alike D p k w [] a h = refl
  reads_alike D p k w (q ∷ qs) a h =
      ap (λ r. r ∷ reads_of D k Left w qs)
      (read_there D p k Left q.0 q.1 w a h.0 ∙ sym (read_there D p k Right q.0 q.1 w a h.0))
      ∙ ap (λ rs. read D k Right q.0 q.1 w ∷ rs) (reads_alike D p k w qs a h.1)

  one_shared : (p : Program) (k : Known N) (s : Side) (b q : ℕ) (w : Scalar) → AreSharedCells k.model k.cells
      → HasCellAt p k.cells b q w → is_shared_cell k w q (cell_at k.model s b q k.cells) ≡ true
  one_shared p k s b q w a h =
      ap (λ x. is_shared_cell k w q (cell_at k.model s x q k.cells)) (sym h.block)
      ∙ ap (λ x. is_shared_cell k w x (cell_at k.model s h.cell.block x k.cells)) (sym h.offset)
      ∙ ap (λ x. is_shared_cell k x h.cell.offset (cell_at k.model s h.cell.block h.cell.offset k.cells)) (sym h.what)
      ∙ ap (is_shared_cell k h.cell.what h.cell.offset) (found k s h.cell a h.is_in)
      ∙ and_from (is_exact k.model h.cell.what h.cell.offset h.cell) (is_same_side h.cell.side Shared)
      (exact k.model h.cell) (ap (λ x. is_same_side x Shared) (shared_in k.cells a.shared h.cell h.is_in))

  all_shared : (p : Program) (k : Known N) (s : Side) (w : Scalar) (qs : List Spot) → AreSharedCells k.model k.cells
      → HaveCells p k.cells w qs → are_shared k s w qs ≡ true
  all_shared p k s w [] a h = refl
  all_shared p k s w (q ∷ qs) a h =
      and_from (is_shared_cell k w q.1 (cell_at k.model s q.0 q.1 k.cells)) (are_shared k s w qs)
      (one_shared p k s q.0 q.1 w a h.0) (all_shared p k s w qs a h.1)

pub read_laws_of : {N : Type 0} (D : Ops N) → ReadLaws D
read_laws_of D = record {
  stands = λ p cs b k o ty w built tame there sized covered at is.
      cell_stands p cs b k o ty w built tame there sized covered at is;
  read = whole D;
  alike = λ p k w qs a h. reads_alike D p k w qs a h;
  shared = λ p k s w qs a h. all_shared p k s w qs a h;
}
