-- An object is moved to one place from one place, the same on both sides: its cells take the place of those there.
use Rattle.std.proofs.Common.{◌≡◌, ℕ, ◌+◌, ◌-◌, ◌<◌, ◌≤◌, Bool, true, false, ◌&&◌, not, cond, ◌⊎◌, inl, inr, ⊎_elim}
use Rattle.ep_int.proofs.Basics.{and-false}
use Rattle.std.proofs.Common.{List, [], ◌∷◌, map, Option, Some, None, slice_get, refl, sym, ap, ◌∙◌, subst, arith}
use Rattle.std.proofs.Common.{nat_eq, nat_le, nat_lt}
use Rattle.std.specs.Prelude.{unwrap_or}
use Rattle.std.specs.List.{filter}
use Rattle.std.proofs.lemmas.Bool.{and_parts, and_from, both_ways, eq-eqb, eqb-true, ltb-true, lt-ltb, le-leb}
use Rattle.std.proofs.lemmas.Bool.{cases_lt}
use Rattle.ep_int.specs.declared.types.IntType.TheVariants.{U8}
use Rattle.ep_int.specs.declared.types.Model.{Model}
use Rattle.ep_int.specs.declared.types.Order.{Order}
use Rattle.ep_int.specs.declared.types.Scalar.{Scalar}
use Rattle.ep_int.specs.declared.types.Scalar.TheVariants.{Int as Number, Pointer}
use Rattle.ep_int.specs.Types.{size_of}
use Rattle.ep_layout.specs.declared.types.Leaf.{Leaf}
use Rattle.ep_layout.specs.Table.{IsBuilt, size, leaves, target_of}
use Rattle.ep_layout.proofs.Ordered.{leaves_ordered}
use Rattle.ep_layout.proofs.Sizes.{size_of_scalar}
use Rattle.ep_bitslice.specs.declared.cell.Side.{Side as CellSide}
use Rattle.ep_bitslice.specs.declared.cell.Side.TheVariants.{Left, Right, Shared}
use Rattle.ep_domain.specs.Domain.{Ops, Lawful}
use Rattle.ep_cells.specs.declared.cell.Cell.{Cell}
use Rattle.ep_cells.specs.declared.place.ByteRange.{ByteRange}
use Rattle.ep_cells.specs.Cells.{IsIn, first, place_of, touches, meets, encloses, share_memory, is_partly_in, is_same_side}
use Rattle.ep_cells.specs.Cells.{each_becomes, put_all, with_side, side_without}
use Rattle.ep_cells.specs.Forms.{Fate, reformed}
use Rattle.ep_cells.specs.Kill.{leaf_at, is_in_leaf}
use Rattle.ep_cells.specs.States.{Known, AreCells, IsOfSort}
use Rattle.ep_cells.specs.Write.{left_by_write, fate_by_write}
use Rattle.ep_cells.proofs.Lists.{in_append, in_left, in_each, each_in, in_map, map_in, in_put_all, put_all_keeps}
use Rattle.ep_reads.specs.Bytes.{form_of_cell, order_on}
use Rattle.ep_reads.specs.Split.{byte_cells, split_all}
use Rattle.ep_cell_ranges.specs.Moves.{place_at, moved_to, taken_cell, taken_if, is_whole_shared, taken_left, taken_right}
use Rattle.ep_cell_ranges.specs.Moves.{taken_by_both}
use Rattle.ep_cell_ranges.specs.Ranges.{with_form, on_cell_side, split_at, cut, form_by_cut, overwritten, replaced}
use Rattle.ep_cell_ranges.specs.Spots.{Spot}
use Rattle.ep_cell_ranges.proofs.Moved.{of_moves}
use Rattle.ep_cell_ranges.proofs.Overwrites.{of_overwrites}
use Rattle.ep_cell_ranges.proofs.Replaces.{of_replaces}
use Rattle.ep_cell_ranges.proofs.TakenCells.{whole_cell, is_taken}
use Rattle.ep_cell_ranges.proofs.Takes.{of_takes}
use Rattle.ep_core.specs.Program.{Program, Block}
use Rattle.ep_core.specs.Runs.{Side}
use Rattle.ep_core.specs.WellFormed.{blocks_fit, is_named}
use Rattle.ep_kinds.specs.Rows.{HasScalar}
use Rattle.ep_kinds.specs.Tame.{are_tame_types}
use Rattle.ep_transfers.proofs.Gathered.{cell_laws}
use Rattle.ep_tame_parts.proofs.LeafLists.{EndTo, ordered_end}
use Rattle.ep_tame_laws.proofs.LeavesIn.{has_leaf}
use Rattle.ep_tame_places.specs.Places.{PointsTo}
use Rattle.ep_tame_places.specs.Laws.{PlaceLaws}
use Rattle.ep_tame_places.proofs.Blocks.{block_at}
use Rattle.ep_tame_accesses.specs.Laws.{HasObject}
use Rattle.ep_tame_cells.specs.Shape.{IsLeafCell, HasCellAt, IsCovered, HasShape, cell_type, or_outside}
use Rattle.ep_tame_cells.proofs.Entered.{one_in, put_more}
use Rattle.ep_tame_changes.proofs.Killed.{had_covered}
use Rattle.ep_tame_states.specs.States.{ValueHas, CellPoints, IsGood}
use Rattle.ep_tame_states.proofs.Meetings.{form_apart}
use Rattle.ep_tame_writes.proofs.Written.{none_kept, nothing}
use Rattle.ep_tame_clears.proofs.Edges.{object_uncut}
use Rattle.ep_tame_clears.proofs.Empty.{cell_cuts}
use Rattle.ep_tame_clears.proofs.Objects.{object_ends, cell_of_part}
use Rattle.ep_tame_copies.proofs.Sources.{leaf_ends, source_cell}
use Rattle.ep_tame_copies.proofs.Pieces.{numbers_have, pointer_moves}

-- ---- cells of an object, by its type

-- a cell ends in its object
cell_ends : (d : Model) (n : ℕ) (ls : List Leaf) → EndTo d n ls → (x : ℕ) → x < n → (w : Scalar) (a : Option Scalar)
    (b : Bool) → leaf_at ls x ≡ a → or_outside a b ≡ Some w → x + size_of d w ≤ n
cell_ends d n ls h x l w (Some v) b at is =
    let same : v ≡ w = cc in leaf_ends d n ls h x w (has_leaf ls x w (at ∙ ap Some same))
cell_ends d n ls h x l w None true at is = absurd cc
cell_ends d n ls h x l w None false at is =
    let same : Number U8 ≡ w = cc in let one = ap (size_of d) same in omega (arith, l, one)

pointer_leaf : (a : Option Scalar) (b : Bool) → or_outside a b ≡ Some Pointer → a ≡ Some Pointer
pointer_leaf (Some w) b h = h
pointer_leaf None true h = absurd cc
pointer_leaf None false h = absurd cc

-- a cell of an object
record InObject {N : Type 0} (p : Program) (ty n : ℕ) (q : Spot) (x : Cell N) : Type 0 where
  pub block : x.block ≡ q.0
  pub at : ℕ
  pub offset : x.offset ≡ q.1 + at
  pub end : at + size_of p.types.model x.what ≤ n
  pub cell : cell_type p.types ty at ≡ Some x.what

module _ {N : Type 0} (D : Ops N) (law : Lawful D) (p : Program) (built : IsBuilt p.types)
    (tame : are_tame_types p.types ≡ true) (fit : blocks_fit p.types p.blocks ≡ true) (places : PlaceLaws D p)
    (ord : Side → Order) (h : Known N) (live res : List ℕ) (k : Known N) (g : IsGood D p ord h live res k) (ty n : ℕ)
    (sz : size p.types ty ≡ Some n) where
  bytes_of : (w : Scalar) → size_of k.model w ≡ size_of p.types.model w
  bytes_of w = ap (λ d. size_of d w) g.state.model

  -- ---- a cell that has a byte of an object lies in it

  module _ (q : Spot) (o : HasObject p live ty q) (x : Cell N) (i : IsIn x k.cells) where
    own_cell : x.block ≡ q.0 → cell_type p.types o.of_block.ty x.offset ≡ Some x.what
    own_cell same =
        let leaf = g.shape.leaf x i in
        subst (λ (y : Block). cell_type p.types y.ty x.offset ≡ Some x.what)
        (some_is (sym leaf.there ∙ ap (slice_get p.blocks) same ∙ o.there)) leaf.what
      where
        some_is : {a b : Block} → Some a ≡ Some b → a ≡ b
        some_is e = cc

    begins_in : x.block ≡ q.0 → q.1 < x.offset + size_of p.types.model x.what → q.1 ≤ x.offset
    begins_in same below = by_order (cases_lt x.offset q.1)
      where
        differ : true ≡ false → ⊥
        differ e = cc

        by_order : (x.offset < q.1) ⊎ (q.1 ≤ x.offset) → q.1 ≤ x.offset
        by_order (inr l) = l
        by_order (inl l) =
            absurd (differ (sym (cell_cuts p.types.model (leaves p.types o.of_block.ty) x.offset q.1 x.what
            (leaf_at (leaves p.types o.of_block.ty) x.offset)
            (is_in_leaf p.types.model (leaves p.types o.of_block.ty) x.offset) refl (own_cell same) l below)
            ∙ object_uncut p built tame live ty n sz q o))

    lies_in : x.block ≡ q.0 → q.1 < x.offset + size_of p.types.model x.what → x.offset < q.1 + n
        → InObject p ty n q x
    lies_in same below behind =
        let low = begins_in same below in
        let d = x.offset - q.1 in
        let place : x.offset ≡ q.1 + d = omega (arith, low) in
        let inside : d < n = omega (arith, place, behind) in
        let cell : cell_type p.types ty d ≡ Some x.what =
        sym (cell_of_part p built tame fit live ty n sz q o d inside)
        ∙ ap (cell_type p.types o.of_block.ty) (sym place) ∙ own_cell same in
        let bytes = ap (λ o. unwrap_or o 0) sz in
        let ends = subst (λ z. EndTo p.types.model z (leaves p.types ty)) bytes
        (ordered_end p.types.model 0 (unwrap_or (size p.types ty) 0) (leaves p.types ty) (leaves_ordered p.types ty)) in
        record {
          block = same;
          at = d;
          offset = place;
          end =
              cell_ends p.types.model n (leaves p.types ty) ends d inside x.what (leaf_at (leaves p.types ty) d)
              (is_in_leaf p.types.model (leaves p.types ty) d) refl cell;
          cell = cell;
        }

    touched : (s : CellSide) → touches (place_at s q n) (place_of k.model x) ≡ true → InObject p ty n q x
    touched s t =
        let a = and_parts (nat_eq q.0 x.block)
        (nat_lt q.1 (x.offset + size_of k.model x.what) && nat_lt x.offset (q.1 + n)) t in
        let b = and_parts (nat_lt q.1 (x.offset + size_of k.model x.what)) (nat_lt x.offset (q.1 + n)) a.1 in
        let low = ltb-true q.1 (x.offset + size_of k.model x.what) b.0 in
        let bytes = bytes_of x.what in
        lies_in (sym (eqb-true q.0 x.block a.0)) (omega (arith, low, bytes)) (ltb-true x.offset (q.1 + n) b.1)

    enclosed : (s : CellSide) → InObject p ty n q x → encloses (place_at s q n) (place_of k.model x) ≡ true
    enclosed s c =
        let place = c.offset in
        let end = c.end in
        let bytes = bytes_of x.what in
        and_from (nat_le q.1 x.offset) (nat_le (x.offset + size_of k.model x.what) (q.1 + n))
        (le-leb q.1 x.offset (omega (arith, place)))
        (le-leb (x.offset + size_of k.model x.what) (q.1 + n) (omega (arith, place, end, bytes)))

    touching : (s : CellSide) → InObject p ty n q x → touches (place_at s q n) (place_of k.model x) ≡ true
    touching s c =
        let place = c.offset in
        let end = c.end in
        let bytes = bytes_of x.what in
        let some = (size_of_scalar k.model x.what).0 in
        and_from (nat_eq q.0 x.block) _ (eq-eqb q.0 x.block (sym c.block))
        (and_from (nat_lt q.1 (x.offset + size_of k.model x.what)) (nat_lt x.offset (q.1 + n))
        (lt-ltb q.1 (x.offset + size_of k.model x.what) (omega (arith, place, some)))
        (lt-ltb x.offset (q.1 + n) (omega (arith, place, end, bytes, some))))

    not_partly : (s : CellSide) → is_partly_in (place_at s q n) (place_of k.model x) ≡ false
    not_partly s = by_touch (touches (place_at s q n) (place_of k.model x)) refl
      where
        by_touch : (t : Bool) → touches (place_at s q n) (place_of k.model x) ≡ t
            → is_partly_in (place_at s q n) (place_of k.model x) ≡ false
        by_touch true e =
            ap (λ t. meets (place_at s q n) (place_of k.model x) && not t) (enclosed s (touched s e))
            ∙ and-false (meets (place_at s q n) (place_of k.model x))
        by_touch false e =
            ap (λ t. (share_memory s x.side && t) && not (encloses (place_at s q n) (place_of k.model x))) e
            ∙ nothing (share_memory s x.side) (not (encloses (place_at s q n) (place_of k.model x)))

  module _ (q r : Spot) (o : HasObject p live ty q) (from : HasObject p live ty r) where
    abbrev R : ByteRange
    R = place_at Shared q n

    abbrev fate : Fate
    fate = fate_by_write R

    -- ---- nothing is split

    side_uncut : (s : CellSide) → split_at D (on_cell_side s R) k ≡ k
    side_uncut s =
        ap (λ xs. record k { cells = split_all D k s xs k.cells })
        (none_kept (λ x. is_partly_in (on_cell_side s R) (place_of k.model x)) k.cells
        (λ x i. not_partly q o x i s))

    uncut : cut D R k ≡ k
    uncut = ap (split_at D (on_cell_side Right R)) (side_uncut Left) ∙ side_uncut Right

    -- ---- what is taken, and where it comes

    abbrev taken : List (Cell N)
    taken = taken_by_both D k r n

    abbrev made : Cell N → Cell N
    made y = with_form (form_by_cut D R k) y

    abbrev news : List (Cell N)
    news = map made (map (moved_to r q) taken)

    abbrev olds : List (Cell N)
    olds = each_becomes (left_by_write k.model R) k.cells

    abbrev after : List (Cell N)
    after = map (reformed fate) (put_all news olds)

    abbrev comes : Cell N → Cell N
    comes x = reformed fate (made (moved_to r q (whole_cell D Shared x)))

    is_shared : (x : Cell N) → IsIn x k.cells → x.side ≡ Shared
    is_shared x i = (g.shape.leaf x i).side

    whole_is : (s : CellSide) (x : Cell N) (i : IsIn x k.cells) → InObject p ty n r x
        → is_whole_shared D k (place_at s r n) x ≡ true
    whole_is s x i c =
        and_from (is_same_side x.side Shared) (encloses (place_at s r n) (place_of k.model x))
        (ap (λ z. is_same_side z Shared) (is_shared x i)) (enclosed r from x i s c)

    taken_one : (x : Cell N) (i : IsIn x k.cells) → InObject p ty n r x
        → taken_left D k (place_at Left r n) x ≡ whole_cell D Shared x ∷ []
    taken_one x i c =
        ap (λ t. taken_if D k (place_at Left r n) (cond t Shared Left) x) (whole_is Left x i c)
        ∙ ap (λ t. cond t (taken_cell D k (place_at Left r n) Shared x) [])
        (and_from (share_memory Left x.side) (touches (place_at Left r n) (place_of k.model x))
        (ap (share_memory Left) (is_shared x i)) (touching r from x i Left c))
        ∙ ap (λ t. cond t (whole_cell D Shared x ∷ [])
        (filter (λ y. encloses (place_at Left r n) (place_of k.model y))
        (byte_cells D k.model (order_on Left k.orders) Left (form_of_cell x) x))) (enclosed r from x i Left c)

    comes_in : (x : Cell N) → IsIn x k.cells → InObject p ty n r x → IsIn (comes x) after
    comes_in x i c =
        map_in (reformed fate) (made (moved_to r q (whole_cell D Shared x))) (put_all news olds)
        (put_more news olds (made (moved_to r q (whole_cell D Shared x)))
        (map_in made (moved_to r q (whole_cell D Shared x)) (map (moved_to r q) taken)
        (map_in (moved_to r q) (whole_cell D Shared x) taken
        (in_left (whole_cell D Shared x) (each_becomes (taken_left D k (place_at Left r n)) k.cells)
        (each_becomes (taken_right D k (place_at Right r n)) k.cells)
        (each_in (taken_left D k (place_at Left r n)) x (whole_cell D Shared x) k.cells i
        (subst (IsIn (whole_cell D Shared x)) (sym (taken_one x i c)) (first [])))))))

    stays_in : (x : Cell N) → IsIn x k.cells → touches R (place_of k.model x) ≡ false → IsIn (reformed fate x) after
    stays_in x i e =
        map_in (reformed fate) x (put_all news olds)
        (put_all_keeps news x olds
        (each_in (left_by_write k.model R) x x k.cells i
        (subst (λ t. IsIn x (cond t (with_side x (side_without Shared x.side)) (x ∷ []))) (sym e) (first []))))

    -- ---- each cell is an old one or a moved one

    data Origin (z : Cell N) : Type 0 where
      kept : (x : Cell N) → IsIn x k.cells → z ≡ reformed fate x → Origin z
      moved : (x : Cell N) → IsIn x k.cells → InObject p ty n r x → z ≡ comes x → Origin z

    record OfOne (y : Cell N) : Type 0 where
      pub cell : Cell N
      pub is_in : IsIn cell k.cells
      pub there : InObject p ty n r cell
      pub is : y ≡ whole_cell D Shared cell

    differ : true ≡ false → ⊥
    differ e = cc

    left_one : (x y : Cell N) → IsIn x k.cells → IsIn y (taken_left D k (place_at Left r n) x) → OfOne y
    left_one x y i j =
        let side = cond (is_whole_shared D k (place_at Left r n) x) Shared Left in
        let t = is_taken D k (place_at Left r n) side x y j in
        let c = touched r from x i Left t.touch in
        record {
          cell = x;
          is_in = i;
          there = c;
          is = one_in y (whole_cell D Shared x) (subst (IsIn y) (taken_one x i c) j);
        }

    right_one : (x y : Cell N) → IsIn x k.cells → IsIn y (taken_right D k (place_at Right r n) x) → OfOne y
    right_one x y i j = by_whole (is_whole_shared D k (place_at Right r n) x) refl j
      where
        by_whole : (b : Bool) → is_whole_shared D k (place_at Right r n) x ≡ b
            → IsIn y (cond b [] (taken_if D k (place_at Right r n) Right x)) → OfOne y
        by_whole true e j = elim j [ ]
        by_whole false e j =
            let t = is_taken D k (place_at Right r n) Right x y j in
            absurd (differ (sym (whole_is Right x i (touched r from x i Right t.touch)) ∙ e))

    taken_of : (y : Cell N) → IsIn y taken → OfOne y
    taken_of y j =
        ⊎_elim
        (λ a. (let m = in_each (taken_left D k (place_at Left r n)) y k.cells a in
        left_one m.origin y m.is_in m.becomes))
        (λ a. (let m = in_each (taken_right D k (place_at Right r n)) y k.cells a in
        right_one m.origin y m.is_in m.becomes))
        (in_append y (each_becomes (taken_left D k (place_at Left r n)) k.cells)
        (each_becomes (taken_right D k (place_at Right r n)) k.cells) j)

    old_of : (x y : Cell N) → IsIn x k.cells → IsIn y (left_by_write k.model R x) → y ≡ x
    old_of x y i j = by_touch (touches R (place_of k.model x)) j
      where
        by_side : (s : CellSide) → IsIn y (with_side x (side_without Shared s)) → y ≡ x
        by_side s j = elim j [ ]

        by_touch : (t : Bool) → IsIn y (cond t (with_side x (side_without Shared x.side)) (x ∷ [])) → y ≡ x
        by_touch true j = by_side x.side j
        by_touch false j = one_in y x j

    origin : (z : Cell N) → IsIn z after → Origin z
    origin z j =
        let m = in_map (reformed fate) z (put_all news olds) j in
        ⊎_elim
        (λ a. (let b = in_map made m.origin (map (moved_to r q) taken) a in
        let c = in_map (moved_to r q) b.origin taken b.is_in in
        let t = taken_of c.origin c.is_in in
        moved t.cell t.is_in t.there
        (m.is ∙ ap (reformed fate) (b.is ∙ ap made (c.is ∙ ap (moved_to r q) t.is)))))
        (λ a. (let b = in_each (left_by_write k.model R) m.origin k.cells a in
        kept b.origin b.is_in (m.is ∙ ap (reformed fate) (old_of b.origin m.origin b.is_in b.becomes))))
        (in_put_all news m.origin olds m.is_in)

    -- ---- where they are

    place_is : (x : Cell N) (c : InObject p ty n r x) → (x.offset - r.1) + q.1 ≡ q.1 + c.at
    place_is x c = let e = c.offset in omega (arith, e)

    at_below : (x : Cell N) (c : InObject p ty n r x) → c.at < n
    at_below x c =
        let end = c.end in let some = (size_of_scalar p.types.model x.what).0 in omega (arith, end, some)

    comes_leaf : (x : Cell N) → InObject p ty n r x → IsLeafCell p (comes x)
    comes_leaf x c =
        let place = place_is x c in
        let below = at_below x c in
        let end = object_ends p built tame fit live ty n sz q o in
        record {
          of_block = o.of_block;
          there = o.there;
          side = refl;
          inside = omega (arith, place, below, end);
          what =
              ap (cell_type p.types o.of_block.ty) place
              ∙ cell_of_part p built tame fit live ty n sz q o c.at below ∙ c.cell;
        }

    kept_leaf : (x : Cell N) → IsLeafCell p x → IsLeafCell p (reformed fate x)
    kept_leaf x l = record { of_block = l.of_block; there = l.there; side = l.side; inside = l.inside; what = l.what }

    covers : (b : ℕ) → IsCovered p k.cells b → IsCovered p after b
    covers b cov kb there off l w c =
        let old = cov kb there off l w c in
        by_touch old (touches R (place_of k.model old.cell)) refl
      where
        by_touch : (old : HasCellAt p k.cells b off w) (t : Bool)
            → touches R (place_of k.model old.cell) ≡ t → HasCellAt p after b off w
        by_touch old false e = record {
          cell = reformed fate old.cell;
          is_in = stays_in old.cell old.is_in e;
          block = old.block;
          offset = old.offset;
          what = old.what;
        }
        by_touch old true e =
            let t = touched q o old.cell old.is_in Shared e in
            let below : t.at < n = (let end = t.end in
            let some = (size_of_scalar p.types.model old.cell.what).0 in omega (arith, end, some)) in
            let s = source_cell D law p built tame fit places ord h live res k g ty n sz t.at below old.cell.what t.cell r
            from in
            let place = s.offset in
            let end = t.end in
            let bytes = bytes_of old.cell.what in
            let some = (size_of_scalar p.types.model s.cell.what).0 in
            let same = ap (size_of p.types.model) s.what in
            let inside = lies_in r from s.cell s.is_in s.block (omega (arith, place, some))
            (omega (arith, place, below)) in
            let own = t.offset in
            let at = old.offset in
            record {
              cell = comes s.cell;
              is_in = comes_in s.cell s.is_in inside;
              block = sym t.block ∙ old.block;
              offset = omega (arith, place, own, at);
              what = s.what ∙ old.what;
            }

    -- ---- where they point

    comes_points : (x : Cell N) → IsIn x k.cells → InObject p ty n r x → CellPoints D p live (comes x)
    comes_points x i c = record {
      inside = (g.points x i).inside;
      along = λ y there pt target stands is. by_what x.what refl y there pt target stands is;
      sure = λ m. absurd (both_ways (is_named p.types p.blocks live q.0) (g.apart q.0 m) o.named);
    }
      where
        by_what : (w : Scalar) → x.what ≡ w → (y : Block) → slice_get p.blocks q.0 ≡ Some y → (pt target : ℕ)
            → HasScalar p.types y.ty ((x.offset - r.1) + q.1) pt → target_of p.types pt ≡ Some target
            → ValueHas (PointsTo D p live target) x.value
        by_what (Number t) e y there pt target stands is =
            numbers_have (PointsTo D p live target) t x.value
            (subst (λ w. IsOfSort w x.value) e (g.state.cells.each x i).fits.sort)
        by_what Pointer e y there pt target stands is =
            let at = pointer_leaf (leaf_at (leaves p.types ty) c.at)
            (is_in_leaf p.types.model (leaves p.types ty) c.at) (c.cell ∙ ap Some e) in
            let own = pointer_moves p built tame live ty c.at at q r o from y there pt target
            (subst (λ z. HasScalar p.types y.ty z pt) (place_is x c) stands) is in
            (g.points x i).along from.of_block (ap (slice_get p.blocks) c.block ∙ from.there) pt target
            (subst (λ z. HasScalar p.types from.of_block.ty z pt) (sym c.offset) own) is

    kept_points : (x : Cell N) → CellPoints D p live x → CellPoints D p live (reformed fate x)
    kept_points x i = record {
      inside = i.inside;
      along = i.along;
      sure = λ m. form_apart x (reformed fate x) refl refl (i.sure m);
    }

    -- ---- all of it

    leaf_after : (z : Cell N) → Origin z → IsLeafCell p z
    leaf_after z (kept x i e) = subst (IsLeafCell p) (sym e) (kept_leaf x (g.shape.leaf x i))
    leaf_after z (moved x i c e) = subst (IsLeafCell p) (sym e) (comes_leaf x c)

    whole_after : (z : Cell N) → Origin z → IsCovered p after z.block
    whole_after z (kept x i e) =
        subst (λ (y : Cell N). IsCovered p after y.block) (sym e) (covers x.block (g.shape.whole x i))
    whole_after z (moved x i c e) =
        subst (λ (y : Cell N). IsCovered p after y.block) (sym e) (covers q.0 (g.named q.0 o.named))

    points_after : (z : Cell N) → Origin z → CellPoints D p live z
    points_after z (kept x i e) = subst (CellPoints D p live) (sym e) (kept_points x (g.points x i))
    points_after z (moved x i c e) = subst (CellPoints D p live) (sym e) (comes_points x i c)

    cells_after : AreCells k.model after
    cells_after =
        let laws = cell_laws D law in
        let end = object_ends p built tame fit live ty n sz q o in
        let small = (block_at p fit q.0 o.of_block o.there).small in
        let both = (of_takes D law).both_new k r n g.state.cells in
        subst (λ (j : Known N). AreCells k.model (overwritten D R news j).cells) uncut
        ((of_replaces D laws.splits laws.more_splits (of_overwrites D)).cells k R (map (moved_to r q) taken) g.state.cells
        ((of_moves D).new k (place_at Shared r n) q taken (omega (arith, end, small)) both))

    good_after : IsGood D p ord h live res (overwritten D R news k)
    good_after =
        let shape : HasShape p after = record {
          cells = subst (λ d. AreCells d after) g.state.model cells_after;
          leaf = λ z i. leaf_after z (origin z i);
          whole = λ z i. whole_after z (origin z i);
        } in
        record {
          state = record { orders = g.state.orders; model = g.state.model; cells = cells_after };
          shape = shape;
          named = λ b m. covers b (g.named b m);
          results = λ b m. covers b (g.results b m);
          points = λ z i. points_after z (origin z i);
          over = had_covered D law p fit ord h.cells k.cells after g.shape shape covers g.over;
          apart = g.apart;
        }

    pub moved_good : IsGood D p ord h live res (replaced D R (map (moved_to r q) taken) k)
    moved_good = subst (λ (j : Known N). IsGood D p ord h live res (overwritten D R news j)) (sym uncut) good_after
