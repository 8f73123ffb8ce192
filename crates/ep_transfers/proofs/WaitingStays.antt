-- Values that wait while a callee's frame comes and its parameters are set may still be written: they keep their sort,
-- and what is left of their forms mentions cells that are there.
use Rattle.std.proofs.Common.{◌≡◌, ℕ, ◌+◌, ◌^◌, ◌≤◌, pos, Bool, true, false, ◌&&◌, ◌||◌, nat_eq, cond, List, [], ◌∷◌}
use Rattle.ep_transfers.proofs.Elsewhere.{write_fate}
use Rattle.ep_transfers.proofs.Waiting.{off_by}
use Rattle.std.proofs.lemmas.Bool.{or_parts}
use Rattle.std.proofs.Common.{◌++◌, map, slice_get, Option, Some, None, refl, sym, ap, ◌∙◌, subst}
use Rattle.std.specs.List.{filter}
use Rattle.ep_int.specs.declared.types.Order.{Order}
use Rattle.ep_int.specs.declared.types.Scalar.{Scalar}
use Rattle.ep_int.specs.Types.{size_of}
use Rattle.ep_int.specs.Memory.{contains}
use Rattle.ep_bitslice.specs.declared.cell.Side.{Side as CellSide}
use Rattle.ep_bitslice.specs.declared.cell.Side.TheVariants as cell_side
use Rattle.ep_bitslice.specs.declared.cell.CellName.{CellName}
use Rattle.ep_domain.specs.Domain.{Ops, Lawful}
use Rattle.ep_pointers.specs.Value.{one_target}
use Rattle.ep_cells.specs.declared.cell.Cell.{Cell}
use Rattle.ep_cells.specs.declared.cell.Value.{Value}
use Rattle.ep_cells.specs.declared.place.ByteRange.{ByteRange}
use Rattle.ep_cells.specs.Cells.{place_of}
use Rattle.ep_cells.specs.Forms.{form_after, common_form}
use Rattle.ep_cells.specs.Kill.{AreLeavesIn, fate_by_kill}
use Rattle.ep_cells.specs.States.{Known, IsOfSort, HasRisingBlocks, Fits, IsThere, AreCells}
use Rattle.ep_cells.specs.Laws.{KillLaws}
use Rattle.ep_cell_ranges.specs.Ranges.{Form, with_form, cut, form_by_cut, replaced}
use Rattle.ep_cell_ranges.specs.Spots.{Spot, spot_before, is_same_spot, put_spot, all_spots}
use Rattle.ep_cell_ranges.specs.Follow.{FormFits}
use Rattle.ep_cell_ranges.proofs.Held.{held_fits}
use Rattle.ep_cell_ranges.proofs.KillHeld.{kill_leads}
use Rattle.ep_cell_ranges.proofs.Overwrites.{over_leads}
use Rattle.ep_core.specs.Program.{Block, Program}
use Rattle.ep_core.specs.Runs.{Side, left, right}
use Rattle.ep_core.specs.WellFormed.{blocks_fit}
use Rattle.ep_equalities.specs.declared.pair.Mode.{Mode}
use Rattle.ep_equalities.specs.declared.pair.Mode.TheVariants.{Both, Left, Right}
use Rattle.ep_equalities.specs.declared.pair.PairValue.{PairValue}
use Rattle.ep_equalities.specs.declared.pair.SideValue.{SideValue}
use Rattle.ep_equalities.specs.Same.{is_same}
use Rattle.ep_evaluation.specs.Given.{cells_of, on}
use Rattle.ep_evaluation.specs.Accesses.{held_spots, offsets_in, spots}
use Rattle.ep_evaluation.specs.Evaluation.{pointer_given, targets_of}
use Rattle.ep_evaluation.specs.Evaluation.{pointer as pointer_of}
use Rattle.ep_evaluation.specs.Laws.{IsState, SideFits}
use Rattle.ep_transfers.specs.Places.{Places, places_of, has_places, has_values}
use Rattle.ep_transfers.specs.Writes.{Item, Underway, underway, formed_side, item_of, lacks, new_cell, strongly}
use Rattle.ep_transfers.specs.Writes.{weakly, weakly_each, shared_cell, write_side, write_sides, write_same}
use Rattle.ep_transfers.specs.Writes.{write_both, write, write_shared, write_shared_each}
use Rattle.ep_transfers.specs.Transfers.{if_goes_on, sizes, cells_of_mode, fate_off_blocks, leaves_in, bytes_in}
use Rattle.ep_transfers.specs.Transfers.{killed_block, killed_blocks, entered, to_block, assigned}
use Rattle.ep_transfers.specs.Laws.{CellLaws}
use Rattle.ep_transfers.proofs.Assigned.{AreInside, rooms}
use Rattle.ep_transfers.proofs.Changes.{Blocks, HaveRoom}
use Rattle.ep_transfers.specs.Statements.{Each}
use Rattle.ep_transfers.proofs.Gathered.{cell_laws}
use Rattle.ep_core.proofs.Operands.{sizes as blocks_of}
use Rattle.ep_transfers.proofs.Elsewhere.{apart_by, weak_there, cut_there}
use Rattle.ep_transfers.proofs.Kills.{room}
use Rattle.ep_transfers.proofs.Rooms.{small, spots_end}
use Rattle.ep_transfers.proofs.Strong.{strong_cells}
use Rattle.ep_transfers.specs.WaitingLaws.{OthersThere, WaitingHolds}
use Rattle.ep_transfers.proofs.Received.{received_fits}

-- ---- cells of other blocks

module _ {N : Type 0} (D : Ops N) (p : Program) (ord : Side → Order) (frame : List ℕ) where
  pub form_waits : (j k : Known N) → OthersThere frame j k → (w : Scalar) (f : Form) → FormFits j.cells w f
      → FormFits k.cells w (form_after (fate_off_blocks frame) f)
  form_waits j k s w f h =
      held_fits j.cells k.cells (fate_off_blocks frame)
      (λ c e t i.
      let q = off_by (contains c.block frame) c e i in
      subst (λ z. IsThere z k.cells) q.1 (s c q.0 t)) w f h

  -- what was found in a state, as it waits in a later one
  pub side_waits : (j k : Known N) → OthersThere frame j k → (w : Scalar) (x : SideValue N) → SideFits D p ord j w x
      → SideFits D p ord k w (formed_side (form_after (fate_off_blocks frame)) x)
  side_waits j k s w x h = record {
    sort = h.sort;
    rising = h.rising;
    form = form_waits j k s w x.form h.form;
  }

-- ---- a frame comes

module _ {N : Type 0} (D : Ops N) (p : Program) (ord : Side → Order) (fit : blocks_fit p.types p.blocks ≡ true)
    (kill : KillLaws D) where
  block_state : (s : CellSide) (b : ℕ) (k : Known N) → IsState D p ord k
      → IsState D p ord (killed_block D p s b (slice_get p.blocks b) k)
  block_state s b k i =
      let r = room D p ord fit b (slice_get p.blocks b) refl in
      record {
        orders = i.orders;
        model = i.model;
        cells = kill.cells k.model s b (leaves_in D p (slice_get p.blocks b)) (bytes_in D p (slice_get p.blocks b))
            k.cells i.cells
            (subst (λ d. AreLeavesIn d 0 (bytes_in D p (slice_get p.blocks b)) (leaves_in D p (slice_get p.blocks b)))
            (sym i.model) r.leaves)
            r.small;
      }

  pub blocks_state : (s : CellSide) (bs : List ℕ) (k : Known N) → IsState D p ord k
      → IsState D p ord (killed_blocks D p s bs k)
  blocks_state s [] k i = i
  blocks_state s (b ∷ bs) k i =
      blocks_state s bs (killed_block D p s b (slice_get p.blocks b) k) (block_state s b k i)

  kill_fate : (s : CellSide) (b : ℕ) (c : CellName) → nat_eq c.block b ≡ false → fate_by_kill s b c ≡ Some c
  kill_fate s b c e = rw e refl

  blocks_there : (s : CellSide) (bs : List ℕ) (k : Known N) → IsState D p ord k → (c : CellName)
      → contains c.block bs ≡ false → IsThere c k.cells → IsThere c (killed_blocks D p s bs k).cells
  blocks_there s [] k i c off t = t
  blocks_there s (b ∷ bs) k i c off t =
      let o = or_parts (nat_eq c.block b) (contains c.block bs) off in
      blocks_there s bs (killed_block D p s b (slice_get p.blocks b) k) (block_state s b k i) c o.1
      (kill_leads k.model s b (leaves_in D p (slice_get p.blocks b)) (bytes_in D p (slice_get p.blocks b)) k.cells
      i.cells c c t (kill_fate s b c o.0))

  -- where a frame comes, cells of others stay
  pub frame_comes : (mode : Mode) (frame : List ℕ) (k : Known N) → IsState D p ord k
      → OthersThere frame k (entered D p mode frame k)
  frame_comes mode frame k i = λ c off t. blocks_there (cells_of_mode mode) frame k i c off t

-- ---- a write in some blocks

undefined_by : {N : Type 0} (v : Option (Value N)) (b : Bool) → v ≡ None → lacks b v ≡ true
undefined_by None true e = refl
undefined_by None false e = refl
undefined_by (Some x) b e = absurd (let q : Some x ≡ None = e in cc)

module _ {N : Type 0} (D : Ops N) (laws : CellLaws D) where
  replaced_there : (p : ByteRange) (new : List (Cell N)) (k : Known N) → AreCells k.model k.cells → (c : CellName)
      → nat_eq p.block c.block ≡ false → IsThere c k.cells → IsThere c (replaced D p new k).cells
  replaced_there p new k a c off t =
      over_leads D (cut D p k) p (map (with_form (form_by_cut D p k)) new) c c
      (cut_there D laws.splits p.side p.block p.offset p.bytes k a c off t) (write_fate p c off)

  module _ (bs : Blocks) where
    strongly_there : (x : Cell N) (u : Underway N) → AreCells u.known.model u.known.cells → bs x.block ≡ true
        → (c : CellName) → bs c.block ≡ false → IsThere c u.known.cells → IsThere c (strongly D x u).known.cells
    strongly_there x u a i c off t =
        replaced_there (place_of u.known.model x) (x ∷ []) u.known a c (apart_by bs x.block c.block i off) t

    each_there : (s : CellSide) (w : Scalar) (v : Option (Value N)) (b stays : Bool)
        → (stays ≡ true → s ≡ cell_side.Shared) → (qs : List Spot) (u : Underway N) → AreInside bs qs → (c : CellName)
        → bs c.block ≡ false → IsThere c u.known.cells
        → IsThere c (weakly_each D (λ q. new_cell s q w v b None) stays qs u).known.cells
    each_there s w v b stays e [] u i c off t = t
    each_there s w v b stays e (q ∷ qs) u i c off t =
        each_there s w v b stays e qs (weakly D (new_cell s q w v b None) stays u) i.1 c off
        (weak_there D u.known.model (new_cell s q w v b None) stays u.known.cells e c
        (apart_by bs q.0 c.block i.0 off) t)

    side_there : (s : Side) (w : Scalar) (qs : List Spot) (u : Underway N) → AreCells u.known.model u.known.cells
        → AreInside bs qs → (c : CellName) → bs c.block ≡ false → IsThere c u.known.cells
        → IsThere c (write_side D s w qs u).known.cells
    side_there s w [] u a i c off t = t
    side_there s w (q ∷ []) u a i c off t = strongly_there _ u a i.0 c off t
    side_there s w (q ∷ r ∷ qs) u a i c off t =
        each_there (cells_of s) w _ _ false (λ e. absurd (let z : false ≡ true = e in cc)) (q ∷ r ∷ qs) u i c off t

    -- ---- the state after the left side's write

    each_cells : (s : CellSide) (w : Scalar) (v : Option (Value N)) (b : Bool) → IsOfSort w v → HasRisingBlocks v
        → (qs : List Spot) (u : Underway N) → AreCells u.known.model u.known.cells → HaveRoom bs u.known.model w qs
        → AreCells u.known.model (weakly_each D (λ q. new_cell s q w v b None) false qs u).known.cells
    each_cells s w v b sort rising [] u a h = a
    each_cells s w v b sort rising (q ∷ qs) u a h =
        let x = new_cell s q w v b None in
        let fit : Fits u.known.model x = record { sort = sort; undefined = undefined_by v b; last = h.0.1 } in
        each_cells s w v b sort rising qs (weakly D x false u)
        (laws.weak_writes.cells u.known.model x false u.known.cells a fit rising
        (λ e. absurd (let z : false ≡ true = e in cc)))
        h.1

    each_model : (s : CellSide) (w : Scalar) (v : Option (Value N)) (b : Bool) (qs : List Spot) (u : Underway N)
        → (weakly_each D (λ q. new_cell s q w v b None) false qs u).known.model ≡ u.known.model
    each_model s w v b [] u = refl
    each_model s w v b (q ∷ qs) u = each_model s w v b qs (weakly D (new_cell s q w v b None) false u)

    left_cells : (w : Scalar) (qs : List Spot) (u : Underway N) → AreCells u.known.model u.known.cells
        → IsOfSort w u.item.pair.left.value → HasRisingBlocks u.item.pair.left.value
        → FormFits u.known.cells w u.item.pair.left.form → HaveRoom bs u.known.model w qs
        → AreCells (write_side D left w qs u).known.model (write_side D left w qs u).known.cells
    left_cells w [] u a sort rising form h = a
    left_cells w (q ∷ []) u a sort rising form h =
        strong_cells D laws.splits laws.more_splits laws.writes cell_side.Left u.known q w u.item.pair.left.value
        u.item.left_maybe u.item.pair.left.form a
        (record { sort = sort; rising = rising; last = h.0.1; form = form })
    left_cells w (q ∷ r ∷ qs) u a sort rising form h =
        subst
        (λ d. AreCells d (write_side D left w (q ∷ r ∷ qs) u).known.cells)
        (sym (each_model cell_side.Left w u.item.pair.left.value u.item.left_maybe (q ∷ r ∷ qs) u))
        (each_cells cell_side.Left w u.item.pair.left.value u.item.left_maybe sort rising (q ∷ r ∷ qs) u a h)

    -- ---- both sides

    inside_if : (t : Bool) (qs rs : List Spot) → AreInside bs qs → AreInside bs rs → AreInside bs (cond t qs rs)
    inside_if true qs rs a b = a
    inside_if false qs rs a b = b

    put_inside : (q : Spot) (rs : List Spot) → bs q.0 ≡ true → AreInside bs rs → AreInside bs (put_spot q rs)
    put_inside q [] i h = (i, tt)
    put_inside q (r ∷ rs) i h =
        inside_if (spot_before q r) (q ∷ r ∷ rs) (cond (is_same_spot q r) (r ∷ rs) (r ∷ put_spot q rs)) (i, h)
        (inside_if (is_same_spot q r) (r ∷ rs) (r ∷ put_spot q rs) h (h.0, put_inside q rs i h.1))

    all_inside : (qs rs : List Spot) → AreInside bs qs → AreInside bs rs → AreInside bs (all_spots qs rs)
    all_inside [] rs a b = b
    all_inside (q ∷ qs) rs a b = put_inside q (all_spots qs rs) a.0 (all_inside qs rs a.1 b)

    shared_each_there : (w : Scalar) (qs : List Spot) (u : Underway N) → AreInside bs qs → (c : CellName)
        → bs c.block ≡ false → IsThere c u.known.cells → IsThere c (write_shared_each D w qs u).known.cells
    shared_each_there w qs u i c off t = each_there cell_side.Shared w _ _ true (λ e. refl) qs u i c off t

    one_there : (w : Scalar) (q r : Spot) (t : Bool) (u : Underway N) → AreCells u.known.model u.known.cells
        → bs q.0 ≡ true → bs r.0 ≡ true → (c : CellName) → bs c.block ≡ false → IsThere c u.known.cells
        → IsThere c (cond t (write_shared D w q u) (write_shared_each D w (all_spots (q ∷ []) (r ∷ [])) u)).known.cells
    one_there w q r true u a i l c off t =
        strongly_there (shared_cell D w u.item (common_form u.item.pair.left.form u.item.pair.right.form) q) u a i c
        off t
    one_there w q r false u a i l c off t =
        shared_each_there w (all_spots (q ∷ []) (r ∷ [])) u (all_inside (q ∷ []) (r ∷ []) (i, tt) (l, tt)) c off t

    same_there : (w : Scalar) (qs rs : List Spot) (u : Underway N) → AreCells u.known.model u.known.cells
        → AreInside bs qs → AreInside bs rs → (c : CellName) → bs c.block ≡ false → IsThere c u.known.cells
        → IsThere c (write_same D w qs rs u).known.cells
    same_there w (q ∷ []) (r ∷ []) u a i l c off t = one_there w q r (is_same_spot q r) u a i.0 l.0 c off t
    same_there w [] rs u a i l c off t = shared_each_there w (all_spots [] rs) u (all_inside [] rs i l) c off t
    same_there w (q ∷ []) [] u a i l c off t =
        shared_each_there w (all_spots (q ∷ []) []) u (all_inside (q ∷ []) [] i l) c off t
    same_there w (q ∷ []) (r ∷ s ∷ rs) u a i l c off t =
        shared_each_there w (all_spots (q ∷ []) (r ∷ s ∷ rs)) u (all_inside (q ∷ []) (r ∷ s ∷ rs) i l) c off t
    same_there w (q ∷ s ∷ qs) rs u a i l c off t =
        shared_each_there w (all_spots (q ∷ s ∷ qs) rs) u (all_inside (q ∷ s ∷ qs) rs i l) c off t

    -- ---- in each mode

    -- what waits to be written, at places with room in these blocks
    record CanBeWritten (w : Scalar) (pl : Places) (u : Underway N) : Type 0 where
      cells : AreCells u.known.model u.known.cells
      sort : IsOfSort w u.item.pair.left.value
      rising : HasRisingBlocks u.item.pair.left.value
      form : FormFits u.known.cells w u.item.pair.left.form
      room : HaveRoom bs u.known.model w pl.left
      left : AreInside bs pl.left
      right : AreInside bs pl.right

    both_there : (same : Bool) (w : Scalar) (pl : Places) (u : Underway N) → CanBeWritten w pl u → (c : CellName)
        → bs c.block ≡ false → IsThere c u.known.cells → IsThere c (write_both D same w pl u).known.cells
    both_there true w pl u h c off t = same_there w pl.left pl.right u h.cells h.left h.right c off t
    both_there false w pl u h c off t =
        side_there right w pl.right (write_side D left w pl.left u)
        (left_cells w pl.left u h.cells h.sort h.rising h.form h.room) h.right c off
        (side_there left w pl.left u h.cells h.left c off t)

    write_there : (mode : Mode) (same : Bool) (w : Scalar) (pl : Places) (u : Underway N) → CanBeWritten w pl u
        → (c : CellName) → bs c.block ≡ false → IsThere c u.known.cells
        → IsThere c (write D mode same w pl u).known.cells
    write_there Both same w pl u h c off t = both_there (same && u.item.same) w pl u h c off t
    write_there Left same w pl u h c off t = side_there left w pl.left u h.cells h.left c off t
    write_there Right same w pl u h c off t = side_there right w pl.right u h.cells h.right c off t

-- ---- a parameter is set

goes_on : {N : Type 0} (t : Bool) (k j : Known N) → if_goes_on t k ≡ Some j → k ≡ j
goes_on true k j h = let q : k ≡ j = cc in q
goes_on false k j h = absurd (cc)

module _ (bs : Blocks) (b : ℕ) (inside : bs b ≡ true) where
  map_inside : (qs : List ℕ) → AreInside bs (map (λ q. (b, q)) qs)
  map_inside [] = tt
  map_inside (q ∷ qs) = (inside, map_inside qs)

  with_none : (qs : List Spot) → AreInside bs qs → AreInside bs (qs ++ [])
  with_none [] h = tt
  with_none (q ∷ qs) h = (h.0, with_none qs h.1)

  module _ {N : Type 0} (D : Ops N) (n a : ℕ) (x : N) where
    held_inside : (o : Option ℕ) → AreInside bs (held_spots D n a (b, x) o)
    held_inside None = tt
    held_inside (Some size) = map_inside (filter (λ q. D.holds x (pos q)) (offsets_in size n a))

    one_inside : (all : List ℕ) → AreInside bs (spots D all n a ((b, x) ∷ []))
    one_inside all = with_none (held_spots D n a (b, x) (slice_get all b)) (held_inside (slice_get all b))

    side_inside : (all : List ℕ) (mode : Mode) (s : Side)
        → AreInside bs (spots D all n a (targets_of D all
        (pointer_of D (on (pointer_given D (one_target b x) mode).pair s))))
    side_inside all Both left = one_inside all
    side_inside all Both right = one_inside all
    side_inside all Left left = one_inside all
    side_inside all Left right = tt
    side_inside all Right left = tt
    side_inside all Right right = one_inside all

module _ {N : Type 0} (D : Ops N) (laws : CellLaws D) (p : Program) (ord : Side → Order)
    (fit : blocks_fit p.types p.blocks ≡ true) (frame : List ℕ) where
  -- where a value goes to a block of the frame, cells of other blocks stay
  pub block_set : (mode : Mode) (w : Scalar) (b : ℕ) (v : PairValue N) (k j : Known N) → contains b frame ≡ true
      → AreCells k.model k.cells → SideFits D p ord k w v.left
      → (assigned D (sizes D p) mode w (to_block D mode b) v k).next ≡ Some j → OthersThere frame k j
  block_set mode w b v k j i a f h =
      let bs : Blocks = λ c. contains c frame in
      let n = size_of k.model w in
      let to = to_block D mode b in
      let pl = places_of D (sizes D p) n n to in
      let l = side_inside bs b i D n n (D.single (pos 0)) (sizes D p) mode left in
      let r = side_inside bs b i D n n (D.single (pos 0)) (sizes D p) mode right in
      let q = goes_on (has_places mode pl && has_values mode v)
      (write D mode (is_same D to) w pl (underway k (item_of D v))).known j h in
      subst (OthersThere frame k) q
      (λ c off t. write_there D laws bs mode (is_same D to) w pl (underway k (item_of D v))
      (record {
        cells = a;
        sort = f.sort;
        rising = f.rising;
        form = f.form;
        room = rooms bs k.model w pl.left l
            (spots_end D (sizes D p) 65536 (small p fit) n n (targets_of D (sizes D p) (pointer_of D to.left)));
        left = l;
        right = r;
      })
      c off t)

pub each_waits : {N : Type 0} (D : Ops N) → Lawful D → Each (WaitingHolds D)
each_waits D law p ord formed =
    let laws = cell_laws D law in
    record {
      comes = λ mode frame k i. frame_comes D p ord (blocks_of p formed) laws.kills mode frame k i;
      set = λ frame mode w b v k j i a f h. block_set D laws p ord (blocks_of p formed) frame mode w b v k j i a f h;
      waits = λ frame j k s w x h. side_waits D p ord frame j k s w x h;
      received = λ b v w t k i mode s. received_fits D laws p ord b v w t k i mode s;
    }
