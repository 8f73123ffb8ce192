-- What waits to be written, and what it comes to.
use Rattle.std.proofs.Common.{◌≡◌, ℕ, ◌+◌, ◌^◌, ◌≤◌, Bool, true, false, ◌&&◌, List, [], ◌∷◌, ◌++◌, None}
use Rattle.ep_transfers.proofs.PieceReads.{no_further}
use Rattle.ep_transfers.proofs.Loosened.{same_itself}
use Rattle.ep_reads.proofs.Sides.{side_same}
use Rattle.std.proofs.Common.{nat_eq, if◌then◌else◌, refl, sym, ap, ◌∙◌, subst}
use Rattle.std.proofs.lemmas.Bool.{and_parts, eqb-true}
use Rattle.ep_int.specs.declared.types.Model.{Model}
use Rattle.ep_int.specs.Types.{size_of}
use Rattle.ep_bitslice.specs.declared.cell.Side.{Side}
use Rattle.ep_bitslice.specs.declared.cell.Side.TheVariants as cell_side
use Rattle.ep_domain.specs.Domain.{Ops}
use Rattle.ep_cells.specs.declared.cell.Cell.{Cell}
use Rattle.ep_cells.specs.declared.place.ByteRange.{ByteRange}
use Rattle.ep_cells.specs.Cells.{place_of, is_same_side}
use Rattle.ep_cells.specs.Forms.{common_form}
use Rattle.ep_cells.specs.States.{Known, Each}
use Rattle.ep_cell_ranges.specs.Ranges.{Form, replaced}
use Rattle.ep_cell_ranges.specs.Spots.{Spot, all_spots}
use Rattle.ep_cell_ranges.specs.Sound.{AreNew}
use Rattle.ep_cell_ranges.specs.Follow.{FormFits}
use Rattle.ep_cell_ranges.specs.Laws.{ReplaceLaws}
use Rattle.ep_core.specs.Runs.{left, right}
use Rattle.ep_equalities.specs.declared.pair.Mode.{Mode}
use Rattle.ep_equalities.specs.declared.pair.Mode.TheVariants.{Both, Left, Right}
use Rattle.ep_transfers.specs.Places.{Places, moved_spots, moved_places}
use Rattle.ep_transfers.specs.Writes.{Item, underway, lacks, form_unless, write_now, write_side, write_both}
use Rattle.ep_transfers.specs.Writes.{write_same, write_shared, write_shared_each}
use Rattle.ep_transfer_places.specs.Room.{HaveRoom, BothHaveRoom}
use Rattle.ep_transfer_writes.specs.Running.{RunsAt, item_cell}
use Rattle.ep_transfer_writes.specs.Waiting.{item_view, ItemFits, CanStand}
use Rattle.ep_transfer_pieces.specs.declared.puts.Put.{Put}
use Rattle.ep_transfer_pieces.specs.declared.rows.Pending.{Pending}
use Rattle.ep_transfer_pieces.specs.Puts.{after_put, FitsPut}
use Rattle.ep_transfer_pieces.specs.Rows.{StandsAt, IsRow, row_bytes, each_written, CanGo, reached, IsReady, Goes}
use Rattle.ep_transfer_pieces.specs.Rows.{Follows, goes_on}
use Rattle.ep_transfer_pieces.proofs.Beside.{one_more, more_bytes, row_more, row_model, new_row}

-- ---- one cell

module _ {N : Type 0} where
  alone : (d : Model) (c : Cell N) → CanGo d c → StandsAt d c.side c.block c.offset c
  alone d c h = record { cell = h.cell; side = refl; block = refl; offset = refl; form = h.form }

  pub can_go : (d : Model) (s : Side) (b a : ℕ) (c : Cell N) → StandsAt d s b a c → CanGo d c
  can_go d s b a c h = record { cell = h.cell; form = h.form }

  pub row_go : (d : Model) (s : Side) (b a : ℕ) (cs : List (Cell N)) → IsRow d s b a cs → Each (CanGo d) cs
  row_go d s b a [] r = tt
  row_go d s b a (c ∷ cs) r = (can_go d s b a c r.0, row_go d s b (a + size_of d c.what) cs r.1)

  pub one_new : (d e : Model) (c : Cell N) (p : ByteRange) (zs new : List (Cell N)) → e ≡ d → p ≡ place_of e c
      → new ≡ c ∷ [] → CanGo d c → AreNew d p zs new
  one_new d e c p zs new m f g h =
      subst (AreNew d p zs) (sym g)
      (subst (λ q. AreNew d q zs (c ∷ [])) (sym (f ∙ ap (λ w. place_of w c) m))
      (new_row d c.side c.block c.offset (size_of d c.what) zs (c ∷ []) (sym (no_further (size_of d c.what)))
      (alone d c h, tt)))

  pub one_row : (d : Model) (c : Cell N) (cs : List (Cell N)) → cs ≡ c ∷ [] → CanGo d c
      → IsRow d c.side c.block c.offset cs
  one_row d c cs e h = subst (IsRow d c.side c.block c.offset) (sym e) (alone d c h, tt)

  pub one_bytes : (d : Model) (c : Cell N) (cs : List (Cell N)) (n : ℕ) → cs ≡ c ∷ [] → n ≡ size_of d c.what
      → n ≡ row_bytes d cs
  one_bytes d c cs n e f = f ∙ sym (no_further (size_of d c.what)) ∙ sym (ap (row_bytes d) e)

  pub none_row : (d : Model) (s : Side) (b a : ℕ) (cs : List (Cell N)) → cs ≡ [] → IsRow d s b a cs
  none_row d s b a cs e = subst (IsRow d s b a) (sym e) tt

  pub none_bytes : (d : Model) (cs : List (Cell N)) → cs ≡ [] → 0 ≡ row_bytes d cs
  none_bytes d cs e = sym (ap (row_bytes d) e)

  pub go_parts : (d : Model) (cs rest : List (Cell N)) (c : Cell N) → cs ≡ c ∷ rest → Each (CanGo d) cs
      → Each (CanGo d) (c ∷ rest)
  go_parts d cs rest c e h = subst (Each (CanGo d)) e h

  pub next_stands : (d : Model) (s : Side) (q : Spot) (p : Pending N) (c : Cell N) → goes_on p s q ≡ true
      → StandsAt d s q.0 q.1 c → StandsAt d p.side p.block (p.start + p.bytes) c
  next_stands d s q p c t h =
      let u = and_parts (is_same_side p.side s) (nat_eq p.block q.0 && nat_eq (p.start + p.bytes) q.1) t in
      let v = and_parts (nat_eq p.block q.0) (nat_eq (p.start + p.bytes) q.1) u.1 in
      record {
        cell = h.cell;
        side = h.side ∙ sym (side_same p.side s u.0);
        block = h.block ∙ sym (eqb-true p.block q.0 v.0);
        offset = h.offset ∙ sym (eqb-true (p.start + p.bytes) q.1 v.1);
        form = h.form;
      }

module _ {N : Type 0} (D : Ops N) where
  pub none_reached : (d : Model) (cs : List (Cell N)) (k : Known N) → cs ≡ [] → each_written D d cs k ≡ k
  none_reached d cs k e = ap (λ xs. each_written D d xs k) e

  pub one_written : (k after : Known N) (e : Model) (c : Cell N) (p : ByteRange) (new : List (Cell N))
      → after ≡ replaced D p new k → e ≡ k.model → p ≡ place_of e c → new ≡ c ∷ []
      → after ≡ each_written D k.model (c ∷ []) k
  one_written k after e c p new is m f g =
      is ∙ ap (λ xs. replaced D p xs k) g ∙ ap (λ q. replaced D q (c ∷ []) k) (f ∙ ap (λ w. place_of w c) m)

  pub one_model : (law : ReplaceLaws D) (k after : Known N) (p : ByteRange) (new : List (Cell N))
      → after ≡ replaced D p new k → after.model ≡ k.model
  one_model law k after p new e = ap (λ (z : Known N). z.model) e ∙ law.model k p new

  -- ---- in turn

  pub go_next : (d : Model) (cs rest : List (Cell N)) (c : Cell N) (k next last : Known N) → cs ≡ c ∷ rest
      → k.model ≡ d → next ≡ each_written D k.model (c ∷ []) k → each_written D d cs k ≡ last
      → each_written D d rest next ≡ last
  go_next d cs rest c k next last e m f h =
      ap (each_written D d rest) (f ∙ ap (λ w. each_written D w (c ∷ []) k) m)
      ∙ sym (ap (λ xs. each_written D d xs k) e) ∙ h

  pub go_last : (d : Model) (cs : List (Cell N)) (k last : Known N) → cs ≡ [] → each_written D d cs k ≡ last → k ≡ last
  go_last d cs k last e h = sym (ap (λ xs. each_written D d xs k) e) ∙ h

  -- ---- a cell more

  pub cell_goes : (old new : Pending N) (c : Cell N) → IsReady old
      → StandsAt old.state.model old.side old.block (old.start + old.bytes) c
      → new.state ≡ old.state → new.side ≡ old.side → new.block ≡ old.block → new.start ≡ old.start
      → new.bytes ≡ old.bytes + size_of old.state.model c.what → new.cells.items ≡ old.cells.items ++ c ∷ []
      → Goes D c old new
  cell_goes old new c r h e f g i j l =
      let d = old.state.model in
      let m : new.state.model ≡ d = ap (λ (z : Known N). z.model) e in
      let row : IsRow d old.side old.block old.start (old.cells.items ++ c ∷ []) =
      row_more D d old.side old.block old.start (old.start + old.bytes) old.cells.items c r.row
      (ap (λ z. old.start + z) r.bytes) h in
      record {
        value = ap (λ w. each_written D w new.cells.items new.state) m
            ∙ ap (λ z. each_written D d new.cells.items z) e
            ∙ ap (λ xs. each_written D d xs old.state) l ∙ one_more D d old.cells.items c old.state;
        ready = record {
          row = subst (λ w. IsRow w new.side new.block new.start new.cells.items) (sym m)
              (subst (λ z. IsRow d z new.block new.start new.cells.items) (sym f)
              (subst (λ z. IsRow d old.side z new.start new.cells.items) (sym g)
              (subst (λ z. IsRow d old.side old.block z new.cells.items) (sym i)
              (subst (IsRow d old.side old.block old.start) (sym l) row))));
          bytes = j ∙ ap (λ z. z + size_of d c.what) r.bytes ∙ sym (more_bytes D d old.cells.items c)
              ∙ sym (ap (row_bytes d) l) ∙ sym (ap (λ w. row_bytes w new.cells.items) m);
        };
        model = m;
      }

  pub first_goes : (old new : Pending N) (c : Cell N) (k : Known N) → CanGo old.state.model c → k ≡ reached D old
      → k.model ≡ old.state.model → new.state ≡ k → new.side ≡ c.side → new.block ≡ c.block → new.start ≡ c.offset
      → new.bytes ≡ size_of old.state.model c.what → new.cells.items ≡ c ∷ []
      → Goes D c old new
  first_goes old new c k h e m n f g i j l =
      let d = old.state.model in
      let t : new.state.model ≡ d = ap (λ (z : Known N). z.model) n ∙ m in
      record {
        value = ap (λ w. each_written D w new.cells.items new.state) t
            ∙ ap (λ z. each_written D d new.cells.items z) (n ∙ e)
            ∙ ap (λ xs. each_written D d xs (reached D old)) l;
        ready = record {
          row = subst (λ w. IsRow w new.side new.block new.start new.cells.items) (sym t)
              (subst (λ z. IsRow d z new.block new.start new.cells.items) (sym f)
              (subst (λ z. IsRow d c.side z new.start new.cells.items) (sym g)
              (subst (λ z. IsRow d c.side c.block z new.cells.items) (sym i) (one_row d c new.cells.items l h))));
          bytes = one_bytes d c new.cells.items new.bytes l j
              ∙ sym (ap (λ w. row_bytes w new.cells.items) t);
        };
        model = t;
      }

-- ---- what is written of a list

module _ {N : Type 0} (D : Ops N) where
  abbrev pub put_cell : Side → Spot → Put N → Cell N
  put_cell s q p = item_cell D s p.what (item_view p.item) (q.0, q.1 + p.offset)

  left_is : (joint : Bool) (to : Places) (q : Spot) (p : Put N) (j : Known N) → to.left ≡ q ∷ []
      → write_now D Left joint p.what (moved_places p.offset to) (item_view p.item) j
      ≡ replaced D (place_of j.model (put_cell cell_side.Left q p)) (put_cell cell_side.Left q p ∷ []) j
  left_is joint to q p j e =
      ap (λ qs. (write_side D left p.what (moved_spots p.offset qs) (underway j (item_view p.item))).known) e

  right_is : (joint : Bool) (to : Places) (q : Spot) (p : Put N) (j : Known N) → to.right ≡ q ∷ []
      → write_now D Right joint p.what (moved_places p.offset to) (item_view p.item) j
      ≡ replaced D (place_of j.model (put_cell cell_side.Right q p)) (put_cell cell_side.Right q p ∷ []) j
  right_is joint to q p j e =
      ap (λ qs. (write_side D right p.what (moved_spots p.offset qs) (underway j (item_view p.item))).known) e

  both_is : (joint : Bool) (to : Places) (q : Spot) (p : Put N) (j : Known N) → to.left ≡ q ∷ []
      → to.right ≡ q ∷ [] → (joint && p.item.same) ≡ true
      → write_now D Both joint p.what (moved_places p.offset to) (item_view p.item) j
      ≡ replaced D (place_of j.model (put_cell cell_side.Shared q p)) (put_cell cell_side.Shared q p ∷ []) j
  both_is joint to q p j el er es =
      let u = underway j (item_view p.item) in
      let r : Spot = (q.0, q.1 + p.offset) in
      ap (λ t. (write_both D t p.what (moved_places p.offset to) u).known) es
      ∙ ap (λ qs. (write_same D p.what (moved_spots p.offset qs) (moved_spots p.offset to.right) u).known) el
      ∙ ap (λ qs. (write_same D p.what (r ∷ []) (moved_spots p.offset qs) u).known) er
      ∙ ap (λ t. (if t then write_shared D p.what r u else write_shared_each D p.what (all_spots (r ∷ [])
      (r ∷ [])) u).known)
      (same_itself r)

  by_mode : (m : Mode) (joint : Bool) (to : Places) (s : Side) (q : Spot) (p : Put N) (j : Known N)
      → RunsAt m joint to (item_view p.item) (s, q)
      → write_now D m joint p.what (moved_places p.offset to) (item_view p.item) j
      ≡ replaced D (place_of j.model (put_cell s q p)) (put_cell s q p ∷ []) j
  by_mode Left joint to cell_side.Left q p j h = left_is joint to q p j h.1
  by_mode Left joint to cell_side.Right q p j h = absurd (let e : cell_side.Right ≡ cell_side.Left = h.0 in cc)
  by_mode Left joint to cell_side.Shared q p j h = absurd (let e : cell_side.Shared ≡ cell_side.Left = h.0 in cc)
  by_mode Right joint to cell_side.Right q p j h = right_is joint to q p j h.1
  by_mode Right joint to cell_side.Left q p j h = absurd (let e : cell_side.Left ≡ cell_side.Right = h.0 in cc)
  by_mode Right joint to cell_side.Shared q p j h = absurd (let e : cell_side.Shared ≡ cell_side.Right = h.0 in cc)
  by_mode Both joint to cell_side.Shared q p j h = both_is joint to q p j h.1 h.2 h.3
  by_mode Both joint to cell_side.Left q p j h = absurd (let e : cell_side.Left ≡ cell_side.Shared = h.0 in cc)
  by_mode Both joint to cell_side.Right q p j h = absurd (let e : cell_side.Right ≡ cell_side.Shared = h.0 in cc)

  -- ---- the cell of it

  unless_none : (t : Bool) (f : Form) → f ≡ None → form_unless t f ≡ None
  unless_none true f e = refl
  unless_none false f e = e

  common_none : (f g : Form) → f ≡ None → common_form f g ≡ None
  common_none f g e = ap (λ z. common_form z g) e

  put_form : (s : Side) (q : Spot) (d : Model) (n : ℕ) (p : Put N) → FitsPut d n p → (put_cell s q p).form ≡ None
  put_form cell_side.Left q d n p h =
      unless_none (lacks p.item.left_maybe p.item.pair.left.value) p.item.pair.left.form h.left_form
  put_form cell_side.Right q d n p h =
      unless_none (lacks p.item.right_maybe p.item.pair.right.value) p.item.pair.right.form h.right_form
  put_form cell_side.Shared q d n p h =
      unless_none _ (common_form p.item.pair.left.form p.item.pair.right.form)
      (common_none p.item.pair.left.form p.item.pair.right.form h.left_form)

  put_side : (s : Side) (q : Spot) (p : Put N) → (put_cell s q p).side ≡ s
  put_side cell_side.Left q p = refl
  put_side cell_side.Right q p = refl
  put_side cell_side.Shared q p = refl

  put_block : (s : Side) (q : Spot) (p : Put N) → (put_cell s q p).block ≡ q.0
  put_block cell_side.Left q p = refl
  put_block cell_side.Right q p = refl
  put_block cell_side.Shared q p = refl

  put_offset : (s : Side) (q : Spot) (p : Put N) → (put_cell s q p).offset ≡ q.1 + p.offset
  put_offset cell_side.Left q p = refl
  put_offset cell_side.Right q p = refl
  put_offset cell_side.Shared q p = refl

  put_what : (s : Side) (q : Spot) (p : Put N) → (put_cell s q p).what ≡ p.what
  put_what cell_side.Left q p = refl
  put_what cell_side.Right q p = refl
  put_what cell_side.Shared q p = refl

  pub put_stands : (k : Known N) (s : Side) (q : Spot) (n a : ℕ) (p : Put N) (c : Cell N) → FitsPut k.model n p
      → c ≡ put_cell s q p → a ≡ q.1 + p.offset → CanStand k c → StandsAt k.model s q.0 a c
  put_stands k s q n a p c h e f stands = record {
    cell = stands.cell;
    side = ap (λ (z : Cell N). z.side) e ∙ put_side s q p;
    block = ap (λ (z : Cell N). z.block) e ∙ put_block s q p;
    offset = ap (λ (z : Cell N). z.offset) e ∙ put_offset s q p ∙ sym f;
    form = ap (λ (z : Cell N). z.form) e ∙ put_form s q k.model n p h;
  }

  pub put_size : (d e : Model) (s : Side) (q : Spot) (p : Put N) (c : Cell N) (z : ℕ) → c ≡ put_cell s q p → e ≡ d
      → z ≡ size_of e p.what → z ≡ size_of d c.what
  put_size d e s q p c z f m g =
      g ∙ ap (λ w. size_of w p.what) m ∙ sym (ap (size_of d) (ap (λ (x : Cell N). x.what) f ∙ put_what s q p))

  pub put_follows : (law : ReplaceLaws D) (joint : Bool) (to : Places) (s : Side) (q : Spot) (p : Put N) (c : Cell N)
      (old new : Pending N) → RunsAt p.mode joint to (item_view p.item) (s, q) → c ≡ put_cell s q p
      → Goes D c old new → Follows D joint to p old new
  put_follows law joint to s q p c old new h e g =
      let j = reached D old in
      let m : j.model ≡ old.state.model = row_model D law old.state.model old.cells.items old.state in
      record {
        value = g.value ∙ ap (λ x. replaced D (place_of old.state.model x) (x ∷ []) j) e
            ∙ ap (λ w. replaced D (place_of w (put_cell s q p)) (put_cell s q p ∷ []) j) (sym m)
            ∙ sym (by_mode p.mode joint to s q p j h);
        ready = g.ready;
        model = g.model;
      }

  pub all_follow : (joint : Bool) (to : Places) (p : Put N) (old new : Pending N) (before after : Known N)
      → before ≡ reached D old → before.model ≡ old.state.model → after ≡ after_put D joint to p before
      → after.model ≡ before.model → reached D new ≡ after → IsReady new → new.state.model ≡ after.model
      → Follows D joint to p old new
  all_follow joint to p old new before after e m f n g r o = record {
    value = g ∙ f ∙ ap (after_put D joint to p) e;
    ready = r;
    model = o ∙ n ∙ m;
  }

  pub item_fits : (k : Known N) (n : ℕ) (p : Put N) → FitsPut k.model n p → ItemFits k p.what (item_view p.item)
  item_fits k n p f = record {
    left = record { sort = f.left; form = subst (FormFits k.cells p.what) (sym f.left_form) tt };
    right = record { sort = f.right; form = subst (FormFits k.cells p.what) (sym f.right_form) tt };
  }

  -- the place has room for it
  pub put_room : (m : Mode) (joint : Bool) (to : Places) (i : Item N) (s : Side) (q : Spot) (n : ℕ)
      → RunsAt m joint to i (s, q) → BothHaveRoom n to → q.1 + n ≤ 2 ^ 32
  put_room Left joint to i s q n h r = (subst (HaveRoom n) h.1 r.left).0
  put_room Right joint to i s q n h r = (subst (HaveRoom n) h.1 r.right).0
  put_room Both joint to i s q n h r = (subst (HaveRoom n) h.1 r.left).0
