-- What a struct assignment reads of objects in a good state.
use Rattle.std.proofs.Common.{◌≡◌, ℕ, ◌+◌, ◌<◌, ◌≤◌, Bool, true, false, ◌&&◌, ◌||◌, cond, inl, inr, List, [], ◌∷◌, Option}
use Rattle.std.proofs.Common.{Some, None, refl, sym, ap, ◌∙◌, subst, arith, nat_eq, nat_le, nat_lt}
use Rattle.std.specs.Prelude.{is_some, unwrap_or}
use Rattle.std.specs.Option.{option_map_or}
use Rattle.std.specs.List.{list_any}
use Rattle.std.proofs.lemmas.Bool.{and_from, eq-eqb}
use Rattle.ep_int.specs.declared.types.IntType.TheVariants.{U8}
use Rattle.ep_int.specs.declared.types.Model.{Model}
use Rattle.ep_int.specs.declared.types.Order.{Order}
use Rattle.ep_int.specs.declared.types.Scalar.{Scalar}
use Rattle.ep_int.specs.declared.types.Scalar.TheVariants.{Int as Number}
use Rattle.ep_int.specs.Types.{size_of}
use Rattle.ep_layout.specs.declared.types.Leaf.{Leaf}
use Rattle.ep_layout.specs.Table.{IsBuilt, size, leaves}
use Rattle.ep_layout.proofs.Ordered.{leaves_ordered}
use Rattle.ep_layout.proofs.Sizes.{size_of_scalar}
use Rattle.ep_bitslice.specs.declared.cell.Side.{Side as CellSide}
use Rattle.ep_bitslice.specs.declared.cell.Side.TheVariants.{Shared}
use Rattle.ep_domain.specs.Domain.{Ops, Lawful}
use Rattle.ep_cells.specs.declared.cell.Cell.{Cell}
use Rattle.ep_cells.specs.declared.cell.Value.{Value}
use Rattle.ep_cells.specs.Both.{value_of_both}
use Rattle.ep_cells.specs.Cells.{scalar_number, is_same_scalar, is_same_side}
use Rattle.ep_cells.specs.Kill.{leaf_at, is_in_leaf}
use Rattle.ep_cells.specs.Look.{cell_at}
use Rattle.ep_cells.specs.States.{Known, IsOfSort}
use Rattle.ep_reads.specs.declared.read.ReadValue.{ReadValue}
use Rattle.ep_reads.specs.Read.{is_exact, read}
use Rattle.ep_reads.proofs.Gathered.{of_reads}
use Rattle.ep_cell_ranges.specs.Spots.{Spot}
use Rattle.ep_core.specs.Program.{Program}
use Rattle.ep_core.specs.Runs.{Side}
use Rattle.ep_core.specs.WellFormed.{blocks_fit}
use Rattle.ep_evaluation.specs.Accesses.{joined_from}
use Rattle.ep_kinds.specs.Tame.{are_tame_types}
use Rattle.ep_transfers.specs.Copies.{Piece, none, leaf, byte, piece_at, piece_by, is_in_whole, has_leaf, are_exact}
use Rattle.ep_transfers.specs.Copies.{exact_at, exact_cell, whole_source, fragment_source, leaf_sources, byte_source}
use Rattle.ep_transfers.specs.Copies.{byte_sources, may_point, is_shared_whole, are_shared_whole}
use Rattle.ep_transfers.specs.Places.{moved_spot, moved_spots}
use Rattle.ep_tame_laws.proofs.LeavesIn.{HasLeaf, leaf_is_at}
use Rattle.ep_tame_parts.proofs.LeafLists.{EndTo, ordered_end}
use Rattle.ep_tame_places.specs.Laws.{PlaceLaws}
use Rattle.ep_tame_accesses.specs.Laws.{HasObject, EachSpot}
use Rattle.ep_tame_cells.specs.Shared.{AreSharedCells}
use Rattle.ep_tame_cells.specs.Shape.{HasCellAt, cell_type, or_outside}
use Rattle.ep_tame_cells.proofs.Exact.{found, exact}
use Rattle.ep_tame_cells.proofs.Shapes.{shape_laws_of}
use Rattle.ep_tame_states.specs.States.{IsGood}
use Rattle.ep_tame_writes.proofs.Placed.{cell_at_place}
use Rattle.ep_tame_clears.proofs.Objects.{part_place}

-- ---- leaves

pub leaf_ends : (d : Model) (z : ℕ) (ls : List Leaf) → EndTo d z ls → (o : ℕ) (w : Scalar) → HasLeaf o w ls
    → o + size_of d w ≤ z
leaf_ends d z [] h o w i = absurd i
leaf_ends d z (l ∷ ls) h o w (inl e) =
    let a = h.0 in let b = e.0 in let c = ap (size_of d) e.1 in omega (arith, a, b, c)
leaf_ends d z (l ∷ ls) h o w (inr i) = leaf_ends d z ls h.1 o w i

any_all : (has test : Leaf → Bool) (ls : List Leaf) → ((l : Leaf) → HasLeaf l.offset l.what ls → has l ≡ true)
    → list_any (λ (l : Leaf). has l && test l) ls ≡ list_any test ls
any_all has test [] h = refl
any_all has test (l ∷ ls) h =
    ap (λ b. (b && test l) || list_any (λ (l : Leaf). has l && test l) ls) (h l (inl (refl, refl)))
    ∙ ap (λ b. test l || b) (any_all has test ls (λ m i. h m (inr i)))

-- ---- reads that are joined

module _ {N : Type 0} where
  abbrev pub EachRead : (Option (Value N) → Type 0) → List (ReadValue N) → Type 0
  EachRead P [] = Unit {0}
  EachRead P (r ∷ rs) = P r.value × EachRead P rs

  pub joined_have : (D : Ops N) (P : Option (Value N) → Type 0)
      → ((u v : Option (Value N)) → P u → P v → P (value_of_both D.join u v)) → (rs : List (ReadValue N))
      → EachRead P rs → (v : Option (Value N)) → P v → P (joined_from D v rs)
  joined_have D P go [] h v i = i
  joined_have D P go (r ∷ rs) h v i =
      joined_have D P go rs h.1 (value_of_both D.join v r.value) (go v r.value i h.0)

module _ {N : Type 0} (D : Ops N) (law : Lawful D) (p : Program) (built : IsBuilt p.types)
    (tame : are_tame_types p.types ≡ true) (fit : blocks_fit p.types p.blocks ≡ true) (places : PlaceLaws D p)
    (ord : Side → Order) (h : Known N) (live res : List ℕ) (k : Known N) (g : IsGood D p ord h live res k) (ty n : ℕ)
    (sz : size p.types ty ≡ Some n) where
  abbrev ls : List Leaf
  ls = leaves p.types ty

  shared : AreSharedCells k.model k.cells
  shared =
      subst (λ (d : Model). AreSharedCells d k.cells) (sym g.state.model) ((shape_laws_of D).shared p k.cells g.shape)

  -- ---- the cell at an offset of an object

  pub source_cell : (x : ℕ) → x < n → (w : Scalar) → cell_type p.types ty x ≡ Some w → (q : Spot)
      → HasObject p live ty q → HasCellAt p k.cells q.0 (q.1 + x) w
  source_cell x l w c q o =
      cell_at_place D law p places ord h live res w ⊥ k g (moved_spot x q)
      (part_place p built tame fit live ty n sz q o res ⊥ x l w c)

  cell_found : (s : CellSide) (b q : ℕ) (w : Scalar) (c : HasCellAt p k.cells b q w)
      → cell_at k.model s b q k.cells ≡ Some c.cell
  cell_found s b q w c =
      ap (λ z. cell_at k.model s z q k.cells) (sym c.block)
      ∙ ap (λ z. cell_at k.model s c.cell.block z k.cells) (sym c.offset) ∙ found k s c.cell shared c.is_in

  exact_is : (s : CellSide) (b q : ℕ) (w : Scalar) (c : HasCellAt p k.cells b q w)
      → exact_at D k s w (b, q) ≡ Some c.cell
  exact_is s b q w c =
      ap (exact_cell D w q) (cell_found s b q w c)
      ∙ ap (λ t. cond t (Some c.cell) None)
      (and_from (nat_eq c.cell.offset q) (is_same_scalar c.cell.what w) (eq-eqb c.cell.offset q c.offset)
      (eq-eqb (scalar_number c.cell.what) (scalar_number w) (ap scalar_number c.what)))

  whole_shared : (s : CellSide) (b q : ℕ) (w : Scalar) (c : HasCellAt p k.cells b q w)
      → is_shared_whole D k w (b, q) (cell_at k.model s b q k.cells) ≡ true
  whole_shared s b q w c =
      ap (is_shared_whole D k w (b, q)) (cell_found s b q w c)
      ∙ and_from (is_exact k.model w q c.cell) (is_same_side c.cell.side Shared)
      (ap (λ z. is_exact k.model z q c.cell) (sym c.what) ∙ ap (λ z. is_exact k.model c.cell.what z c.cell) (sym c.offset)
      ∙ exact k.model c.cell)
      (ap (λ z. is_same_side z Shared) (g.shape.leaf c.cell c.is_in).side)

  module _ (ps : List Spot) (from : EachSpot (HasObject p live ty) ps) where
    -- ---- which piece goes at an offset

    all_exact : (s : CellSide) (x : ℕ) → x < n → (w : Scalar) → cell_type p.types ty x ≡ Some w → (qs : List Spot)
        → EachSpot (HasObject p live ty) qs → are_exact D k s x w qs ≡ true
    all_exact s x l w c [] o = refl
    all_exact s x l w c (q ∷ qs) o =
        and_from (is_some (exact_at D k s w (q.0, q.1 + x))) (are_exact D k s x w qs)
        (ap is_some (exact_is s q.0 (q.1 + x) w (source_cell x l w c q o.0))) (all_exact s x l w c qs o.1)

    leaf_type : (x : ℕ) (w : Scalar) → leaf_at ls x ≡ Some w → cell_type p.types ty x ≡ Some w
    leaf_type x w e = ap (λ a. or_outside a (is_in_leaf p.types.model ls x)) e

    has_all : (s : CellSide) (l : Leaf) → HasLeaf l.offset l.what ls → has_leaf D k s ps l ≡ true
    has_all s l i =
        let ordered = leaves_ordered p.types ty in
        let at = leaf_is_at p.types.model 0 (unwrap_or (size p.types ty) 0) ls ordered l.offset l.what i in
        let end = leaf_ends p.types.model (unwrap_or (size p.types ty) 0) ls
        (ordered_end p.types.model 0 (unwrap_or (size p.types ty) 0) ls ordered) l.offset l.what i in
        let bytes = ap (λ o. unwrap_or o 0) sz in
        let some = (size_of_scalar p.types.model l.what).0 in
        all_exact s l.offset (omega (arith, end, bytes, some)) l.what (leaf_type l.offset l.what at) ps from

    whole_is : (s : CellSide) (x : ℕ) → is_in_whole D k s ps x ls ≡ is_in_leaf k.model ls x
    whole_is s x =
        any_all (has_leaf D k s ps)
        (λ (l : Leaf). nat_le l.offset x && nat_lt x (l.offset + size_of k.model l.what)) ls (has_all s)

    abbrev pub piece_of : Option Scalar → (inside : Bool) → Piece D
    piece_of (Some w) b = leaf w
    piece_of None true = none
    piece_of None false = byte

    pub piece_is : (s : CellSide) (x : ℕ) → x < n → (a : Option Scalar) → leaf_at ls x ≡ a
        → piece_at D k s ps ls x ≡ piece_of a (is_in_leaf k.model ls x)
    piece_is s x l (Some w) e =
        ap (λ o. piece_by D (option_map_or (λ w. are_exact D k s x w ps) o false) (is_in_whole D k s ps x ls) o) e
        ∙ ap (λ t. piece_by D t (is_in_whole D k s ps x ls) (Some w)) (all_exact s x l w (leaf_type x w e) ps from)
    piece_is s x l None e =
        ap (λ o. piece_by D (option_map_or (λ w. are_exact D k s x w ps) o false) (is_in_whole D k s ps x ls) o) e
        ∙ ap (λ t. piece_by D false t None) (whole_is s x) ∙ by_inside (is_in_leaf k.model ls x)
      where
        by_inside : (b : Bool) → piece_by D false b None ≡ piece_of None b
        by_inside true = refl
        by_inside false = refl

  -- ---- what is read there

  pub leaf_reads : (P : Option (Value N) → Type 0) (s : CellSide) (x : ℕ) → (l : x < n) → (w : Scalar)
      → (c : cell_type p.types ty x ≡ Some w)
      → ((q : Spot) (o : HasObject p live ty q) → P (source_cell x l w c q o).cell.value) → (qs : List Spot)
      → EachSpot (HasObject p live ty) qs → EachRead P (leaf_sources D k s w (moved_spots x qs))
  leaf_reads P s x l w c go [] o = tt
  leaf_reads P s x l w c go (q ∷ qs) o = (
    subst (λ z. P (option_map_or (whole_source D) z (fragment_source D)).value)
        (sym (exact_is s q.0 (q.1 + x) w (source_cell x l w c q o.0))) (go q o.0),
    leaf_reads P s x l w c go qs o.1,
  )

  byte_read : (P : Option (Value N) → Type 0) (s : CellSide) → ((v : Option (Value N)) → IsOfSort (Number U8) v → P v)
      → (q : Spot) (o : Option (Cell N)) → P (byte_source D k s q o).value
  byte_read P s go q None = go (fragment_source D).value tt
  byte_read P s go q (Some x) = by_point (may_point D x.value)
    where
      by_point : (b : Bool) → P (cond b (fragment_source D) (read D k s q.0 q.1 (Number U8))).value
      by_point true = go (fragment_source D).value tt
      by_point false =
          go (read D k s q.0 q.1 (Number U8)).value
          ((of_reads D law).fits k s q.0 q.1 (Number U8) g.state.cells).sort

  pub byte_reads : (P : Option (Value N) → Type 0) (s : CellSide) → ((v : Option (Value N)) → IsOfSort (Number U8) v → P v)
      → (qs : List Spot) → EachRead P (byte_sources D k s qs)
  byte_reads P s go [] = tt
  byte_reads P s go (q ∷ qs) =
      (byte_read P s go q (cell_at k.model s q.0 q.1 k.cells), byte_reads P s go qs)

  pub reads_shared : (s : CellSide) (x : ℕ) → x < n → (w : Scalar) → cell_type p.types ty x ≡ Some w
      → (qs : List Spot) → EachSpot (HasObject p live ty) qs → are_shared_whole D k s w (moved_spots x qs) ≡ true
  reads_shared s x l w c [] o = refl
  reads_shared s x l w c (q ∷ qs) o =
      and_from (is_shared_whole D k w (q.0, q.1 + x) (cell_at k.model s q.0 (q.1 + x) k.cells))
      (are_shared_whole D k s w (moved_spots x qs))
      (whole_shared s q.0 (q.1 + x) w (source_cell x l w c q o.0)) (reads_shared s x l w c qs o.1)
