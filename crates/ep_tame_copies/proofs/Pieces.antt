-- A struct assignment leaf by leaf, the same on both sides.
use Rattle.std.proofs.Common.{◌≡◌, ℕ, zero, suc, ◌+◌, ◌<◌, ◌≤◌, Bool, true, false, cond, List, [], ◌∷◌, Option, Some}
use Rattle.std.proofs.Common.{None, slice_get, refl, sym, ap, ◌∙◌, subst, arith}
use Rattle.std.specs.List.{list_any}
use Rattle.std.proofs.lemmas.Bool.{and_from, eq-eqb}
use Rattle.ep_int.proofs.Basics.{some-injective}
use Rattle.ep_int.specs.declared.types.IntType.{IntType}
use Rattle.ep_int.specs.declared.types.IntType.TheVariants.{U8}
use Rattle.ep_int.specs.declared.types.Order.{Order}
use Rattle.ep_int.specs.declared.types.Scalar.{Scalar}
use Rattle.ep_int.specs.declared.types.Scalar.TheVariants.{Int as Number, Pointer}
use Rattle.ep_layout.specs.declared.types.Leaf.{Leaf}
use Rattle.ep_layout.specs.Table.{IsBuilt, size, leaves, target_of}
use Rattle.ep_bitslice.specs.declared.cell.Side.{Side as CellSide}
use Rattle.ep_bitslice.specs.declared.cell.Side.TheVariants as cell_side
use Rattle.ep_domain.specs.Domain.{Ops, Lawful}
use Rattle.ep_cells.specs.declared.cell.Value.{Value}
use Rattle.ep_cells.specs.declared.cell.Value.TheVariants.{Num, Ptr}
use Rattle.ep_cells.specs.Cells.{scalar_number}
use Rattle.ep_cells.specs.Kill.{leaf_at, is_in_leaf}
use Rattle.ep_cells.specs.States.{Known, IsOfSort}
use Rattle.ep_cells.proofs.Both.{sort_both, rising_both, join_unites}
use Rattle.ep_reads.specs.declared.read.ReadValue.{ReadValue}
use Rattle.ep_cell_ranges.specs.Spots.{Spot, is_same_spot}
use Rattle.ep_core.specs.Program.{Program, Block}
use Rattle.ep_core.specs.Runs.{Side, right}
use Rattle.ep_core.specs.WellFormed.{blocks_fit}
use Rattle.ep_equalities.specs.declared.pair.Mode.TheVariants.{Both}
use Rattle.ep_evaluation.specs.Accesses.{joined_reads}
use Rattle.ep_kinds.specs.Rows.{HasScalar}
use Rattle.ep_kinds.specs.Tame.{are_tame_types}
use Rattle.ep_transfers.specs.Copies.{Piece, leaf, byte, loosened, loosened_places, piece_on, pieces_at}
use Rattle.ep_transfers.specs.Copies.{pieces_from, write_pieces, write_together, write_apart, piece_item, leaf_sources}
use Rattle.ep_transfers.specs.Copies.{byte_sources, are_shared_whole}
use Rattle.ep_transfers.specs.Places.{Places, moved_spot, moved_spots, moved_places}
use Rattle.ep_transfers.specs.Writes.{write_now}
use Rattle.ep_tame_parts.proofs.Scalars.{leaves_are_scalars}
use Rattle.ep_tame_types.proofs.Once.{scalars_once}
use Rattle.ep_tame_places.specs.Places.{PointsTo}
use Rattle.ep_tame_places.specs.Laws.{PlaceLaws}
use Rattle.ep_tame_accesses.specs.Laws.{HasObject, EachSpot}
use Rattle.ep_tame_cells.specs.Shape.{HasCellAt, cell_type, or_outside}
use Rattle.ep_tame_states.specs.States.{ValueHas, IsInBlock, IsGood}
use Rattle.ep_tame_states.proofs.Meetings.{both_have}
use Rattle.ep_tame_writes.specs.Stands.{MayStand, IsOfCells}
use Rattle.ep_tame_writes.proofs.Assignments.{pointer_scalar}
use Rattle.ep_tame_clears.proofs.Objects.{offset_good}
use Rattle.ep_tame_copies.proofs.Sources.{EachRead, joined_have, source_cell, piece_of, piece_is, leaf_reads, byte_reads}
use Rattle.ep_tame_copies.proofs.Sources.{reads_shared}

pub numbers_have : {N : Type 0} (P : ℕ → N → Type 0) (t : IntType) (v : Option (Value N)) → IsOfSort (Number t) v
    → ValueHas P v
numbers_have P t None s = tt
numbers_have P t (Some (Num n)) s = tt
numbers_have P t (Some (Ptr q)) s = absurd s

-- ---- pointers at one offset of two objects

module _ (p : Program) (built : IsBuilt p.types) (tame : are_tame_types p.types ≡ true) (live : List ℕ) (ty x : ℕ)
    (at : leaf_at (leaves p.types ty) x ≡ Some Pointer) where
  -- what is a pointer in the one is one of that type in the other
  pub pointer_moves : (q r : Spot) → HasObject p live ty q → (o : HasObject p live ty r) → (y : Block)
      → slice_get p.blocks q.0 ≡ Some y → (pt target : ℕ) → HasScalar p.types y.ty (q.1 + x) pt
      → target_of p.types pt ≡ Some target → HasScalar p.types o.of_block.ty (r.1 + x) pt
  pointer_moves q r from o y there pt target stands is =
      let s = leaves_are_scalars p.types built tame ty x Pointer at in
      let own = subst (λ (z : Block). HasScalar p.types z.ty (q.1 + x) s.scalar) (some-injective (sym from.there ∙ there))
      (s.stands from.of_block.ty q.1 from.stands) in
      let same : s.scalar ≡ pt =
      scalars_once p.types built tame y.ty (q.1 + x) s.scalar pt Pointer Pointer own stands s.is
      (pointer_scalar p.types pt target is) in
      subst (HasScalar p.types o.of_block.ty (r.1 + x)) same (s.stands o.of_block.ty r.1 o.stands)

module _ {N : Type 0} (D : Ops N) (law : Lawful D) (p : Program) (built : IsBuilt p.types)
    (tame : are_tame_types p.types ≡ true) (fit : blocks_fit p.types p.blocks ≡ true) (places : PlaceLaws D p)
    (ord : Side → Order) (h : Known N) (live res : List ℕ) (k : Known N) (g : IsGood D p ord h live res k) (ty n : ℕ)
    (sz : size p.types ty ≡ Some n) where
  abbrev Good : Known N → Type 0
  Good j = IsGood D p ord h live res j

  abbrev Objects : List Spot → Type 0
  Objects qs = EachSpot (HasObject p live ty) qs

  -- ---- what is read may be written

  record SourcesFit (rs : List (ReadValue N)) (w : Scalar) (x : ℕ) : Type 0 where
    pub of_cells : IsOfCells D p w (joined_reads D rs)
    pub stands : (q : Spot) → HasObject p live ty q → MayStand D p live (joined_reads D rs) (moved_spot x q)

  all_of_cells : (w : Scalar) (rs : List (ReadValue N)) → EachRead (IsOfCells D p w) rs
      → IsOfCells D p w (joined_reads D rs)
  all_of_cells w rs e =
      joined_have D (IsOfCells D p w)
      (λ u v a b. record {
        sort = sort_both D.join w u v a.sort b.sort;
        rising = rising_both D D.join (join_unites D law) u v a.rising b.rising;
        inside = both_have (IsInBlock D p) D.join (λ b n m s t. s) u v a.inside b.inside;
      }) rs e None (record { sort = tt; rising = tt; inside = tt })

  cell_of : (x : ℕ) (l : x < n) (w : Scalar) (c : cell_type p.types ty x ≡ Some w) (q : Spot)
      → HasObject p live ty q → HasCellAt p k.cells q.0 (q.1 + x) w
  cell_of x l w c q o = source_cell D law p built tame fit places ord h live res k g ty n sz x l w c q o

  leaf_of_cells : (s : CellSide) (x : ℕ) → x < n → (w : Scalar) → cell_type p.types ty x ≡ Some w → (ps : List Spot)
      → Objects ps → IsOfCells D p w (joined_reads D (leaf_sources D k s w (moved_spots x ps)))
  leaf_of_cells s x l w c ps from =
      all_of_cells w (leaf_sources D k s w (moved_spots x ps))
      (leaf_reads D law p built tame fit places ord h live res k g ty n sz (IsOfCells D p w) s x l w c
      (λ q o. (
      let z = source_cell D law p built tame fit places ord h live res k g ty n sz x l w c q o in
      let is = g.state.cells.each z.cell z.is_in in
      record {
        sort = subst (λ v. IsOfSort v z.cell.value) z.what is.fits.sort;
        rising = is.rising;
        inside = (g.points z.cell z.is_in).inside;
      })) ps from)

  -- pointers that are read point along objects of the type of where they go
  pointers_stand : (s : CellSide) (x : ℕ) → x < n → (leaf_at (leaves p.types ty) x ≡ Some Pointer)
      → (ps : List Spot) → Objects ps → (q : Spot) → HasObject p live ty q
      → MayStand D p live (joined_reads D (leaf_sources D k s Pointer (moved_spots x ps))) (moved_spot x q)
  pointers_stand s x l at ps from q o y there pt target stands is =
      joined_have D (ValueHas (PointsTo D p live target))
      (λ u v a b. both_have (PointsTo D p live target) D.join (λ b n m i j. places.joined live target b n m i j) u v a b)
      (leaf_sources D k s Pointer (moved_spots x ps))
      (leaf_reads D law p built tame fit places ord h live res k g ty n sz (ValueHas (PointsTo D p live target)) s x l
      Pointer c
      (λ r i. (
      let z = source_cell D law p built tame fit places ord h live res k g ty n sz x l Pointer c r i in
      (g.points z.cell z.is_in).along i.of_block (ap (slice_get p.blocks) z.block ∙ i.there) pt target
      (subst (λ e. HasScalar p.types i.of_block.ty e pt) (sym z.offset)
      (pointer_moves p built tame live ty x at q r o i y there pt target stands is)) is)) ps from) None tt
    where
      c : cell_type p.types ty x ≡ Some Pointer
      c = ap (λ a. or_outside a (is_in_leaf p.types.model (leaves p.types ty) x)) at

  leaf_fits : (s : CellSide) (x : ℕ) → x < n → (w : Scalar) → leaf_at (leaves p.types ty) x ≡ Some w
      → (ps : List Spot) → Objects ps → SourcesFit (leaf_sources D k s w (moved_spots x ps)) w x
  leaf_fits s x l w at ps from = record { of_cells = cells; stands = stands w at cells }
    where
      cells : IsOfCells D p w (joined_reads D (leaf_sources D k s w (moved_spots x ps)))
      cells =
          leaf_of_cells s x l w (ap (λ a. or_outside a (is_in_leaf p.types.model (leaves p.types ty) x)) at) ps from

      stands : (w : Scalar) → leaf_at (leaves p.types ty) x ≡ Some w
          → IsOfCells D p w (joined_reads D (leaf_sources D k s w (moved_spots x ps))) → (q : Spot)
          → HasObject p live ty q
          → MayStand D p live (joined_reads D (leaf_sources D k s w (moved_spots x ps))) (moved_spot x q)
      stands (Number t) at cells q o y there pt target is points =
          numbers_have (PointsTo D p live target) t
          (joined_reads D (leaf_sources D k s (Number t) (moved_spots x ps))) cells.sort
      stands Pointer at cells q o y there pt target is points =
          pointers_stand s x l at ps from q o y there pt target is points

  byte_fits : (s : CellSide) (x : ℕ) (ps : List Spot) → SourcesFit (byte_sources D k s (moved_spots x ps)) (Number U8) x
  byte_fits s x ps = record {
    of_cells = cells;
    stands = λ q o y there pt target is points.
        numbers_have (PointsTo D p live target) U8 (joined_reads D (byte_sources D k s (moved_spots x ps))) cells.sort;
  }
    where
      number : (v : Option (Value N)) → IsOfSort (Number U8) v → IsOfCells D p (Number U8) v
      number None i = record { sort = tt; rising = tt; inside = tt }
      number (Some (Num m)) i = record { sort = tt; rising = tt; inside = tt }
      number (Some (Ptr r)) i = absurd i

      cells : IsOfCells D p (Number U8) (joined_reads D (byte_sources D k s (moved_spots x ps)))
      cells =
          all_of_cells (Number U8) (byte_sources D k s (moved_spots x ps))
          (byte_reads D law p built tame fit places ord h live res k g ty n sz (IsOfCells D p (Number U8)) s number
          (moved_spots x ps))

  -- ---- the places of both sides

  loosened_have : (qs ps : List Spot) → Objects qs → Objects (loosened qs ps)
  loosened_have [] ps o = tt
  loosened_have (q ∷ []) ps o = at (list_any (is_same_spot q) ps)
    where
      at : (b : Bool) → Objects (cond b (q ∷ q ∷ []) (q ∷ []))
      at true = (o.0, (o.0, tt))
      at false = o
  loosened_have (q ∷ r ∷ qs) ps o = o

  module _ (to from : Places) (to_left : Objects to.left) (to_right : Objects to.right) (from_left : Objects from.left)
      (from_right : Objects from.right) where
    abbrev pl : Places
    pl = loosened_places to from

    abbrev ls : List Leaf
    ls = leaves p.types ty

    item_good : (x : ℕ) → x < n → (w : Scalar) → cell_type p.types ty x ≡ Some w → (l r : List (ReadValue N))
        → SourcesFit l w x → SourcesFit r w x → (shared : Bool) → shared ≡ true → (j : Known N) → Good j
        → Good (write_now D Both true w (moved_places x pl) (piece_item D true l r shared) j)
    item_good x low w c l r fl fr true e j i =
        offset_good D law p built tame fit places ord h live res ty n sz pl
        (loosened_have to.left from.left to_left) (loosened_have to.right from.right to_right) true refl j i x low w c
        (piece_item D true l r true) (record { of_cells = fl.of_cells; form = tt })
        (record { of_cells = fr.of_cells; form = tt }) refl (λ q o. (fl.stands q o, fr.stands q o))
    item_good x low w c l r fl fr false e j i = absurd cc

    leaf_good : (x : ℕ) → x < n → (w : Scalar) → leaf_at ls x ≡ Some w → (j : Known N) → Good j
        → Good (write_together D true k pl from ls x (leaf w) j)
    leaf_good x l w at j i =
        let c = ap (λ a. or_outside a (is_in_leaf p.types.model ls x)) at in
        item_good x l w c (leaf_sources D k cell_side.Left w (moved_spots x from.left))
        (leaf_sources D k cell_side.Right w (moved_spots x from.right)) (leaf_fits cell_side.Left x l w at from.left from_left)
        (leaf_fits cell_side.Right x l w at from.right from_right) _
        (and_from (are_shared_whole D k cell_side.Left w (moved_spots x from.left))
        (are_shared_whole D k cell_side.Right w (moved_spots x from.right))
        (reads_shared D law p built tame fit places ord h live res k g ty n sz cell_side.Left x l w c from.left from_left)
        (reads_shared D law p built tame fit places ord h live res k g ty n sz cell_side.Right x l w c from.right
        from_right)) j i

    byte_good : (x : ℕ) → x < n → leaf_at ls x ≡ None → is_in_leaf k.model ls x ≡ false → (j : Known N) → Good j
        → Good (write_together D true k pl from ls x byte j)
    byte_good x l at inside j i =
        let c : cell_type p.types ty x ≡ Some (Number U8) =
        ap (λ a. or_outside a (is_in_leaf p.types.model ls x)) at
        ∙ ap (or_outside None) (ap (λ d. is_in_leaf d ls x) (sym g.state.model) ∙ inside) in
        item_good x l (Number U8) c (byte_sources D k cell_side.Left (moved_spots x from.left))
        (byte_sources D k cell_side.Right (moved_spots x from.right)) (byte_fits cell_side.Left x from.left)
        (byte_fits cell_side.Right x from.right) _
        (and_from (are_shared_whole D k cell_side.Left (Number U8) (moved_spots x from.left))
        (are_shared_whole D k cell_side.Right (Number U8) (moved_spots x from.right))
        (reads_shared D law p built tame fit places ord h live res k g ty n sz cell_side.Left x l (Number U8) c
        from.left from_left)
        (reads_shared D law p built tame fit places ord h live res k g ty n sz cell_side.Right x l (Number U8) c
        from.right from_right)) j i

    -- ---- offset by offset

    abbrev kind : Option Scalar → Bool → Piece D
    kind a b = piece_of D law p built tame fit places ord h live res k g ty n sz from.left from_left a b

    by_kind : (x : ℕ) → x < n → (a : Option Scalar) (b : Bool) → leaf_at ls x ≡ a → is_in_leaf k.model ls x ≡ b
        → (j : Known N) → Good j → Good (write_pieces D true k pl from ls x (kind a b) (kind a b) j)
    by_kind x l (Some w) b at inside j i =
        subst (λ t. Good (cond t (write_together D true k pl from ls x (leaf w) j)
        (write_apart D true k pl from ls x (leaf w) (leaf w) j)))
        (sym (eq-eqb (scalar_number w) (scalar_number w) refl)) (leaf_good x l w at j i)
    by_kind x l None true at inside j i = i
    by_kind x l None false at inside j i = byte_good x l at inside j i

    step_good : (x : ℕ) → x < n → (j : Known N) → Good j → Good (pieces_at D true k pl from ls Both x j)
    step_good x l j i =
        let a = piece_is D law p built tame fit places ord h live res k g ty n sz from.left from_left cell_side.Left x l
        (leaf_at ls x) refl in
        let b = piece_is D law p built tame fit places ord h live res k g ty n sz from.right from_right cell_side.Right
        x l (leaf_at ls x) refl in
        subst (λ c. Good (write_pieces D true k pl from ls x c (piece_on D true k pl from ls right x) j)) (sym a)
        (subst (λ c. Good (write_pieces D true k pl from ls x (kind (leaf_at ls x) (is_in_leaf k.model ls x)) c j))
        (sym b) (by_kind x l (leaf_at ls x) (is_in_leaf k.model ls x) refl refl j i))

    pub pieces_good : (x count : ℕ) → x + count ≤ n → (j : Known N) → Good j
        → Good (pieces_from D true k pl from ls Both x count j)
    pieces_good x zero l j i = i
    pieces_good x (suc c) l j i =
        pieces_good (x + 1) c (omega (arith, l)) (pieces_at D true k pl from ls Both x j)
        (step_good x (omega (arith, l)) j i)
