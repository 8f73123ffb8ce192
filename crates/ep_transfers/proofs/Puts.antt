-- What waits is written at the places of an access, in each mode: what is known after it holds of the memories in which
-- each running machine has it at one of its places.
use Rattle.std.proofs.Common.{◌≡◌, ℕ, ◌+◌, ◌^◌, ◌≤◌, Bool, true, false, ◌&&◌, ◌||◌, cond, if◌then◌else◌, List, []}
use Rattle.ep_cell_ranges.proofs.Basics.{is_same_spot-equal}
use Rattle.std.proofs.Common.{◌∷◌, Option, Some, None, IfSome, refl, sym, ◌∙◌, subst}
use Rattle.ep_int.specs.declared.types.Model.{Model}
use Rattle.ep_int.specs.declared.types.Order.{Order}
use Rattle.ep_int.specs.declared.types.Scalar.{Scalar}
use Rattle.ep_int.specs.Types.{size_of}
use Rattle.ep_int.specs.Memory.{Memory, Value as Datum, broken}
use Rattle.ep_bitslice.specs.declared.cell.Side.{Side as CellSide}
use Rattle.ep_bitslice.specs.declared.cell.Side.TheVariants as cell_side
use Rattle.ep_bitslice.specs.Segments.{number}
use Rattle.ep_domain.specs.Domain.{Ops, Lawful}
use Rattle.ep_cells.specs.declared.cell.Value.{Value}
use Rattle.ep_cells.specs.Cells.{on_left, on_right}
use Rattle.ep_cells.specs.Forms.{have_same_form, common_form}
use Rattle.ep_cells.specs.States.{Known, IsOfSort, HasRisingBlocks}
use Rattle.ep_cells.specs.Meaning.{Memories, Allows, Says, HasBytes, HasNumber, numbers_of}
use Rattle.ep_cells.specs.Memories.{is_byte_of, IsBroken}
use Rattle.ep_cells.specs.Laws.{WriteLaws, WeakWriteLaws}
use Rattle.ep_cells.specs.Sound.{as_it_was, rewritten, MayBeWeaklyWritten, each_side, neither, both_sides}
use Rattle.ep_reads.specs.SplitLaws.{SplitLaws}
use Rattle.ep_core.specs.Runs.{Side, left, right}
use Rattle.ep_equalities.specs.declared.pair.Mode.{Mode}
use Rattle.ep_equalities.specs.declared.pair.Mode.TheVariants.{Both, Left, Right}
use Rattle.ep_evaluation.specs.Given.{on, cells_of}
use Rattle.ep_cell_ranges.specs.Ranges.{Form}
use Rattle.ep_cell_ranges.specs.Spots.{Spot, spot_before, is_same_spot, put_spot, all_spots}
use Rattle.ep_cell_ranges.specs.Follow.{FormFits, FormHas}
use Rattle.ep_cell_ranges.specs.Sound.{AreStored}
use Rattle.ep_cell_ranges.specs.Laws.{MoreSplitLaws, MoreWriteLaws, MoreWeakWriteLaws}
use Rattle.ep_transfers.specs.Places.{Places}
use Rattle.ep_transfers.specs.Writes.{Item, Underway, maybe_on, lacks, form_unless, new_cell, write_side, write_sides}
use Rattle.ep_transfers.specs.Writes.{value_of_same, write_shared, write_shared_each, write_same, write_both, write}
use Rattle.ep_transfers.proofs.Sides.{same_sort, same_rising, form_says}
use Rattle.ep_transfers.proofs.Changes.{IsOne, here, there, Blocks, HaveRoom, IsKnown, Goes, then_goes, IsSide}
use Rattle.ep_transfers.proofs.Changes.{side_after, strong_goes, each_goes}

-- ---- the places of either side

put_by : (q r p : Spot) (rs : List Spot) (t t' : Bool) → is_same_spot q r ≡ t' → IsOne p (q ∷ r ∷ rs)
    → (IsOne p (q ∷ rs) → IsOne p (put_spot q rs))
    → IsOne p (if t then q ∷ r ∷ rs else if t' then r ∷ rs else r ∷ put_spot q rs)
put_by q r p rs true t' e one go = one
put_by q r _ rs false true e (here _) go = subst (λ z. IsOne q (z ∷ rs)) (is_same_spot-equal q r e) (here rs)
put_by q r p rs false true e (there _ _ one) go = one
put_by q r _ rs false false e (here _) go = there r (put_spot q rs) (go (here rs))
put_by q r _ rs false false e (there _ _ (here _)) go = here (put_spot q rs)
put_by q r p rs false false e (there _ _ (there _ _ one)) go = there r (put_spot q rs) (go (there q rs one))

put_there : (q p : Spot) (rs : List Spot) → IsOne p (q ∷ rs) → IsOne p (put_spot q rs)
put_there q p [] one = one
put_there q p (r ∷ rs) one = put_by q r p rs (spot_before q r) (is_same_spot q r) refl one (put_there q p rs)

all_right : (p : Spot) (qs rs : List Spot) → IsOne p rs → IsOne p (all_spots qs rs)
all_right p [] rs one = one
all_right p (q ∷ qs) rs one = put_there q p (all_spots qs rs) (there q (all_spots qs rs) (all_right p qs rs one))

pub all_left : (p : Spot) (qs rs : List Spot) → IsOne p qs → IsOne p (all_spots qs rs)
all_left p [] rs one = elim one [ ]
all_left p (q ∷ qs) rs (here _) = put_there q q (all_spots qs rs) (here (all_spots qs rs))
all_left p (q ∷ qs) rs (there _ _ one) = put_there q p (all_spots qs rs)
    (there q (all_spots qs rs) (all_left p qs rs one))

room_if : (bs : Blocks) (d : Model) (w : Scalar) (t : Bool) (qs rs : List Spot) → HaveRoom bs d w qs → HaveRoom bs d w
    rs
    → HaveRoom bs d w (if t then qs else rs)
room_if bs d w true qs rs a b = a
room_if bs d w false qs rs a b = b

put_room : (bs : Blocks) (d : Model) (w : Scalar) (q : Spot) (rs : List Spot) → HaveRoom bs d w (q ∷ rs) → HaveRoom bs
    d w (put_spot q rs)
put_room bs d w q [] h = h
put_room bs d w q (r ∷ rs) h =
    room_if bs d w (spot_before q r) (q ∷ r ∷ rs) (if is_same_spot q r then r ∷ rs else r ∷ put_spot q rs) h
    (room_if bs d w (is_same_spot q r) (r ∷ rs) (r ∷ put_spot q rs) h.1 (h.1.0, put_room bs d w q rs (h.0, h.1.1)))

pub all_room : (bs : Blocks) (d : Model) (w : Scalar) (qs rs : List Spot) → HaveRoom bs d w qs → HaveRoom bs d w rs →
    HaveRoom bs d w (all_spots qs rs)
all_room bs d w [] rs a b = b
all_room bs d w (q ∷ qs) rs a b = put_room bs d w q (all_spots qs rs) (a.0, all_room bs d w qs rs a.1 b)

-- ---- one machine

-- Its memory has this at a place, or nothing, and all beside is as it was, but for pointers that lie partly there.
pub record IsPut (o : Order) (d : Model) (w : Scalar) (maybe : Bool) (q : Spot) (x : Option Datum) (m n : Memory) :
    Type 0
  where
    pub beside : (b j : ℕ) → is_byte_of (record {
      side = cell_side.Left;
      block = q.0;
      offset = q.1;
      bytes = size_of d w;
    }) b j ≡ false
        → n b j ≡ broken d m q.0 q.1 (size_of d w) b j
    pub bytes : HasBytes o n (size_of d w) w maybe q.0 q.1 x

put_broken : (s : CellSide) (o : Order) (d : Model) (w : Scalar) (maybe : Bool) (q : Spot) (x : Option Datum)
    (m n : Memory)
    → IsPut o d w maybe q x m n → IsBroken d (record { side = s; block = q.0; offset = q.1; bytes = size_of d w }) m n
put_broken s o d w maybe q x m n h = record { beside = h.beside }

abbrev pub order_on : Side → (Order × Order) → Order
order_on left os = os.0
order_on right os = os.1

abbrev pub memory_on : Side → Memories → Memory
memory_on left m = m.left
memory_on right m = m.right

-- the other machine's memory is as it was
abbrev pub IsStill : Side → Memories → Memories → Type 0
IsStill left m n = (b j : ℕ) → n.right b j ≡ m.right b j
IsStill right m n = (b j : ℕ) → n.left b j ≡ m.left b j

module _ {N : Type 0} (D : Ops N) where
  -- what a new cell says where its bytes stand
  pub cell_says : (s : CellSide) (os : Order × Order) (d : Model) (n : Memories) (q : Spot) (w : Scalar)
      (v : Option (Value N))
      (b : Bool) (f : Form) (x : Option Datum) → Allows D w v (lacks b v) x
      → (on_left s ≡ true → HasBytes os.0 n.left (size_of d w) w (lacks b v) q.0 q.1 x)
      → (on_right s ≡ true → HasBytes os.1 n.right (size_of d w) w (lacks b v) q.0 q.1 x)
      → Says D os d n (new_cell s q w v b f)
  cell_says s os d n q w v b f x a l r = record { datum = x; allowed = a; stands = record { left = l; right = r } }

  pub cell_form : (s : CellSide) (os : Order × Order) (d : Model) (m n : Memories) (q : Spot) (w : Scalar)
      (v : Option (Value N))
      (b : Bool) (f : Form) (x : Option Datum) → Allows D w v (lacks b v) x
      → (on_left s ≡ true → HasBytes os.0 n.left (size_of d w) w (lacks b v) q.0 q.1 x)
      → (on_right s ≡ true → HasBytes os.1 n.right (size_of d w) w (lacks b v) q.0 q.1 x)
      → ((z : Datum) → x ≡ Some z → lacks b v ≡ false → FormHas os m w z f)
      → IfSome (form_unless (lacks b v) f) (λ ss. HasNumber os n (new_cell s q w v b f) w (number (numbers_of os m) ss))
  cell_form s os d m n q w v true f x a l r h = tt
  cell_form s os d m n q w None false f x a l r h = tt
  cell_form s os d m n q w (Some u) false f None a l r h = absurd (let e : false ≡ true = a in cc)
  cell_form s os d m n q w (Some u) false f (Some z) a l r h =
      form_says D s os d m n q w u f z a (λ e. l e) (λ e. r e) f (h z refl refl)

  module _ (bs : Blocks) (law : Lawful D) (split : SplitLaws D) (more : MoreSplitLaws D) (wr : WriteLaws D)
      (wmore : MoreWriteLaws D)
      (weak : WeakWriteLaws D) (wait : MoreWeakWriteLaws D) where
    -- ---- one side

    -- a machine that runs puts what waits for its side at one of these places
    pub record SidePut (s : Side) (k : Known N) (i : Item N) (w : Scalar) (qs : List Spot) (m n : Memories) : Type 0
      where
        pub datum : Option Datum
        pub place : Spot
        pub among : IsOne place qs
        pub room : HaveRoom bs k.model w qs
        pub can : IsSide D k m w (on i.pair s) (maybe_on i s) datum
        pub put : IsPut (order_on s k.orders) k.model w (lacks (maybe_on i s) (on i.pair s).value) place datum
            (memory_on s m)
            (memory_on s n)

    stored_on : (s : Side) (k : Known N) (m n : Memories) (o : Order) (w : Scalar) (b : Bool) (q : Spot)
        (x : Option Datum)
        → IsPut o k.model w b q x (memory_on s m) (memory_on s n) → IsStill s m n
        → AreStored k.model (record { side = cells_of s; block = q.0; offset = q.1; bytes = size_of k.model w }) m n
    stored_on left k m n o w b q x h r = record {
      left = record {
        stored = λ e. put_broken cell_side.Left o k.model w b q x m.left n.left h;
        stays = λ e. absurd
            (cc);
      };
      right = record { stored = λ e. absurd (cc); stays = λ e b j. r b j };
    }
    stored_on right k m n o w b q x h r = record {
      left = record { stored = λ e. absurd (cc); stays = λ e b j. r b j };
      right = record {
        stored = λ e. put_broken cell_side.Right o k.model w b q x m.right n.right h;
        stays = λ e.
            absurd (cc);
      };
    }

    bytes_left : (s : Side) (os : Order × Order) (d : Model) (n : Memories) (w : Scalar) (b : Bool) (q : Spot)
        (x : Option Datum)
        → HasBytes (order_on s os) (memory_on s n) (size_of d w) w b q.0 q.1 x → on_left (cells_of s) ≡ true
        → HasBytes os.0 n.left (size_of d w) w b q.0 q.1 x
    bytes_left left os d n w b q x h e = h
    bytes_left right os d n w b q x h e = absurd (cc)

    bytes_right : (s : Side) (os : Order × Order) (d : Model) (n : Memories) (w : Scalar) (b : Bool) (q : Spot)
        (x : Option Datum)
        → HasBytes (order_on s os) (memory_on s n) (size_of d w) w b q.0 q.1 x → on_right (cells_of s) ≡ true
        → HasBytes os.1 n.right (size_of d w) w b q.0 q.1 x
    bytes_right left os d n w b q x h e = absurd (cc)
    bytes_right right os d n w b q x h e = h

    one_goes : (s : Side) (w : Scalar) (q : Spot) (u : Underway N) (m n : Memories) → IsKnown D u.known m
        → SidePut s u.known u.item w (q ∷ []) m n → IsStill s m n → Goes D bs u (write_side D s w (q ∷ []) u) m n
    one_goes s w q u m n i h r = at_place h.place h.among h.put
      where
        at_place : (p : Spot) → IsOne p (q ∷ [])
            → IsPut (order_on s u.known.orders) u.known.model w (lacks (maybe_on u.item s) (on u.item.pair s).value) p
            h.datum (memory_on s m)
            (memory_on s n) → Goes D bs u (write_side D s w (q ∷ []) u) m n
        at_place _ (here _) put =
            let k = u.known in
            let v = (on u.item.pair s).value in
            let b = maybe_on u.item s in
            let f = (on u.item.pair s).form in
            let l = bytes_left s k.orders k.model n w (lacks b v) q h.datum put.bytes in
            let t = bytes_right s k.orders k.model n w (lacks b v) q h.datum put.bytes in
            strong_goes D bs split more wr wmore (cells_of s) q w v b f u m n h.room.0.0 i
            (record { sort = h.can.sort; rising = h.can.rising; last = h.room.0.1; form = h.can.form })
            (stored_on s k m n (order_on s k.orders) w (lacks b v) q h.datum put r)
            (cell_says (cells_of s) k.orders k.model n q w v b f h.datum h.can.allowed l t)
            (cell_form (cells_of s) k.orders k.model m n q w v b f h.datum h.can.allowed l t h.can.says)
        at_place p (there _ _ none) put = elim none [ ]

    -- at several places each may be the machine's
    may_on : (s : Side) (w : Scalar) (v : Option (Value N)) (b : Bool) (sort : IsOfSort w v)
        (rising : HasRisingBlocks v) (j : Known N) (q : Spot)
        (x : Option Datum) (m n : Memories) → Allows D w v (lacks b v) x
        → IsPut (order_on s j.orders) j.model w (lacks b v) q x (memory_on s m) (memory_on s n) → IsStill s m n
        → MayBeWeaklyWritten D j (new_cell (cells_of s) q w v b None) false m n
    may_on left w v b sort rising j q x m n a h r =
        each_side refl (rewritten refl (put_broken cell_side.Left j.orders.0 j.model w (lacks b v) q x m.left n.left
        h) x a h.bytes) (as_it_was r)
    may_on right w v b sort rising j q x m n a h r =
        each_side refl (as_it_was r) (rewritten refl (put_broken cell_side.Right j.orders.1 j.model w (lacks b v) q x
        m.right n.right h) x a h.bytes)

    still_on : (s : Side) (w : Scalar) (v : Option (Value N)) (b : Bool) (k : Known N) (q : Spot) (m : Memories)
        → MayBeWeaklyWritten D k (new_cell (cells_of s) q w v b None) false m m
    still_on left w v b k q m = each_side refl (as_it_was (λ b j. refl)) (as_it_was (λ b j. refl))
    still_on right w v b k q m = each_side refl (as_it_was (λ b j. refl)) (as_it_was (λ b j. refl))

    pub side_goes : (s : Side) (w : Scalar) (qs : List Spot) (u : Underway N) (m n : Memories) → IsKnown D u.known m
        → SidePut s u.known u.item w qs m n → IsStill s m n → Goes D bs u (write_side D s w qs u) m n
    side_goes s w [] u m n i h r = absurd (nowhere h.among)
      where
        nowhere : {q : Spot} → IsOne q [] → ⊥
        nowhere one = elim one [ ]
    side_goes s w (q ∷ []) u m n i h r = one_goes s w q u m n i h r
    side_goes s w (q ∷ p ∷ qs) u m n i h r =
        let v = (on u.item.pair s).value in
        let b = maybe_on u.item s in
        each_goes D bs weak wait (cells_of s) false (λ e. absurd (cc)) w v b h.can.sort h.can.rising (still_on s w v b)
        h.place (q ∷ p ∷ qs) h.among u m n i h.room
        (λ j eo em. may_on s w v b h.can.sort h.can.rising j h.place h.datum m n h.can.allowed
        (subst (λ d. IsPut (order_on s j.orders) d w (lacks b v) h.place h.datum (memory_on s m) (memory_on s n))
        (sym em)
        (subst (λ os. IsPut (order_on s os) u.known.model w (lacks b v) h.place h.datum (memory_on s m)
        (memory_on s n)) (sym eo) h.put)) r)

    -- ---- the left, then the right

    -- what the right puts, after the left
    right_after : (u v : Underway N) (w : Scalar) (qs : List Spot) (m n : Memories) → Goes D bs u v m
        (record { left = n.left; right = m.right })
        → SidePut right u.known u.item w qs m n → SidePut right v.known v.item w qs
        (record { left = n.left; right = m.right }) n
    right_after u v w qs m n a h =
        subst (λ i. SidePut right v.known i w qs (record { left = n.left; right = m.right }) n) (sym a.item)
        (record {
          datum = h.datum;
          place = h.place;
          among = h.among;
          room = subst (λ d. HaveRoom bs d w qs) (sym a.change.model) h.room;
          can = side_after D u.known v.known a.reform m (record { left = n.left; right = m.right }) a.change w
              u.item.pair.right u.item.right_maybe h.datum h.can;
          put = subst (λ d. IsPut v.known.orders.1 d w (lacks u.item.right_maybe u.item.pair.right.value) h.place
              h.datum m.right n.right) (sym a.change.model)
              (subst (λ os. IsPut (order_on right os) u.known.model w
              (lacks u.item.right_maybe u.item.pair.right.value) h.place h.datum m.right n.right)
              (sym a.change.orders) h.put);
        })

    left_only : (k : Known N) (i : Item N) (w : Scalar) (qs : List Spot) (m n : Memories) → SidePut left k i w qs m n
        → SidePut left k i w qs m (record { left = n.left; right = m.right })
    left_only k i w qs m n h = record {
      datum = h.datum;
      place = h.place;
      among = h.among;
      room = h.room;
      can = h.can;
      put = h.put;
    }

    pub sides_go : (w : Scalar) (p : Places) (u : Underway N) (m n : Memories) → IsKnown D u.known m
        → SidePut left u.known u.item w p.left m n → SidePut right u.known u.item w p.right m n → Goes D bs u
        (write_sides D w p u) m n
    sides_go w p u m n i l r =
        let h : Memories = record { left = n.left; right = m.right } in
        let v = write_side D left w p.left u in
        let a = side_goes left w p.left u m h i (left_only u.known u.item w p.left m n l) (λ b j. refl) in
        then_goes D bs u v (write_side D right w p.right v) m h n a
        (side_goes right w p.right v h n a.change.after (right_after u v w p.right m n a r) (λ b j. refl))

    -- ---- one cell of both

    -- both machines put one thing at one place
    pub record BothPut (k : Known N) (i : Item N) (w : Scalar) (m n : Memories) : Type 0 where
      pub datum : Option Datum
      pub place : Spot
      pub sort : IsOfSort w i.pair.left.value × IsOfSort w i.pair.right.value
      pub rising : HasRisingBlocks i.pair.left.value × HasRisingBlocks i.pair.right.value
      pub form : FormFits k.cells w i.pair.left.form
      pub allowed : Allows D w (value_of_same D i.pair.left.value i.pair.right.value)
          (lacks (i.left_maybe || i.right_maybe) (value_of_same D i.pair.left.value i.pair.right.value)) datum
      pub says : (z : Datum) → datum ≡ Some z
          → lacks (i.left_maybe || i.right_maybe) (value_of_same D i.pair.left.value i.pair.right.value) ≡ false
          → FormHas k.orders m w z i.pair.left.form
      pub on_left : IsPut k.orders.0 k.model w
          (lacks (i.left_maybe || i.right_maybe) (value_of_same D i.pair.left.value i.pair.right.value)) place datum
          m.left n.left
      pub on_right : IsPut k.orders.1 k.model w
          (lacks (i.left_maybe || i.right_maybe) (value_of_same D i.pair.left.value i.pair.right.value)) place datum
          m.right n.right

    common_if : (f : Form) (P : Form → Type 0) (t : Bool) → P f → P None → P (cond t f None)
    common_if f P true h i = h
    common_if f P false h i = i

    shared_goes : (w : Scalar) (q : Spot) (u : Underway N) (m n : Memories) → IsKnown D u.known m →
        (h : BothPut u.known u.item w m n)
        → IsOne h.place (q ∷ []) → (bs q.0 ≡ true) × (q.1 + size_of u.known.model w ≤ 2 ^ 32) → Goes D bs u
        (write_shared D w q u) m n
    shared_goes w q u m n i h one room = at_place h.place one h.on_left h.on_right
      where
        at_place : (p : Spot) → IsOne p (q ∷ [])
            → IsPut u.known.orders.0 u.known.model w
            (lacks (u.item.left_maybe || u.item.right_maybe) (value_of_same D u.item.pair.left.value
            u.item.pair.right.value)) p h.datum m.left n.left
            → IsPut u.known.orders.1 u.known.model w
            (lacks (u.item.left_maybe || u.item.right_maybe) (value_of_same D u.item.pair.left.value
            u.item.pair.right.value)) p h.datum m.right n.right
            → Goes D bs u (write_shared D w q u) m n
        at_place _ (here _) l r =
            let k = u.known in
            let x = u.item.pair.left in
            let y = u.item.pair.right in
            let v = value_of_same D x.value y.value in
            let b = u.item.left_maybe || u.item.right_maybe in
            let f : Form = common_form x.form y.form in
            let same = have_same_form x.form y.form in
            strong_goes D bs split more wr wmore cell_side.Shared q w v b f u m n room.0 i
            (record {
              sort = same_sort D split more wr law w x.value y.value h.sort.0 h.sort.1;
              rising = same_rising D split more wr law x.value y.value h.rising.0 h.rising.1;
              last = room.1;
              form = common_if x.form (FormFits k.cells w) same h.form tt;
            })
            (record {
              left = record {
                stored = λ e. put_broken cell_side.Shared k.orders.0 k.model w (lacks b v) q h.datum
                    m.left n.left l;
                stays = λ e. absurd (cc);
              };
              right = record {
                stored = λ e. put_broken cell_side.Shared k.orders.1 k.model w (lacks b v) q h.datum
                    m.right n.right r;
                stays = λ e. absurd (cc);
              };
            })
            (cell_says cell_side.Shared k.orders k.model n q w v b f h.datum h.allowed (λ e. l.bytes) (λ e. r.bytes))
            (cell_form cell_side.Shared k.orders k.model m n q w v b f h.datum h.allowed (λ e. l.bytes) (λ e. r.bytes)
            (λ z e s. common_if x.form (FormHas k.orders m w z) same (h.says z e s) tt))
        at_place p (there _ _ none) l r = elim none [ ]

    pub shared_each_goes : (w : Scalar) (qs : List Spot) (u : Underway N) (m n : Memories) → IsKnown D u.known m →
        (h : BothPut u.known u.item w m n)
        → IsOne h.place qs → HaveRoom bs u.known.model w qs → Goes D bs u (write_shared_each D w qs u) m n
    shared_each_goes w qs u m n i h one room =
        let x = u.item.pair.left in
        let y = u.item.pair.right in
        let v = value_of_same D x.value y.value in
        let b = u.item.left_maybe || u.item.right_maybe in
        let sort = same_sort D split more wr law w x.value y.value h.sort.0 h.sort.1 in
        let rising = same_rising D split more wr law x.value y.value h.rising.0 h.rising.1 in
        each_goes D bs weak wait cell_side.Shared true (λ e. refl) w v b sort rising
        (λ k q m. neither (λ b j. refl) (λ b j. refl)) h.place qs one u m n i
        room
        (λ j eo em. both_sides refl
        (put_broken cell_side.Shared j.orders.0 j.model w (lacks b v) h.place h.datum m.left n.left
        (subst (λ d. IsPut j.orders.0 d w (lacks b v) h.place h.datum m.left n.left) (sym em)
        (subst (λ os. IsPut (order_on left os) u.known.model w (lacks b v) h.place h.datum m.left n.left) (sym eo)
        h.on_left)))
        (put_broken cell_side.Shared j.orders.1 j.model w (lacks b v) h.place h.datum m.right n.right
        (subst (λ d. IsPut j.orders.1 d w (lacks b v) h.place h.datum m.right n.right) (sym em)
        (subst (λ os. IsPut (order_on right os) u.known.model w (lacks b v) h.place h.datum m.right n.right) (sym eo)
        h.on_right)))
        (cell_says cell_side.Shared j.orders j.model n h.place w v b None h.datum h.allowed
        (λ e. (subst (λ d. IsPut j.orders.0 d w (lacks b v) h.place h.datum m.left n.left) (sym em)
        (subst (λ os. IsPut (order_on left os) u.known.model w (lacks b v) h.place h.datum m.left n.left) (sym eo)
        h.on_left)).bytes)
        (λ e. (subst (λ d. IsPut j.orders.1 d w (lacks b v) h.place h.datum m.right n.right) (sym em)
        (subst (λ os. IsPut (order_on right os) u.known.model w (lacks b v) h.place h.datum m.right n.right) (sym eo)
        h.on_right)).bytes)))

    -- at the one place of both, or at each place of either
    by_spot : (w : Scalar) (q r : Spot) (u : Underway N) (m n : Memories) → IsKnown D u.known m →
        (h : BothPut u.known u.item w m n)
        → IsOne h.place (q ∷ []) → HaveRoom bs u.known.model w (q ∷ []) → HaveRoom bs u.known.model w (r ∷ []) →
        (t : Bool)
        → Goes D bs u (if t then write_shared D w q u else write_shared_each D w (all_spots (q ∷ []) (r ∷ [])) u) m n
    by_spot w q r u m n i h one a b true = shared_goes w q u m n i h one a.0
    by_spot w q r u m n i h one a b false =
        shared_each_goes w (all_spots (q ∷ []) (r ∷ [])) u m n i h (all_left h.place (q ∷ []) (r ∷ []) one)
        (all_room bs u.known.model w (q ∷ []) (r ∷ []) a b)

    pub same_goes : (w : Scalar) (qs rs : List Spot) (u : Underway N) (m n : Memories) → IsKnown D u.known m →
        (h : BothPut u.known u.item w m n)
        → IsOne h.place qs → HaveRoom bs u.known.model w qs → HaveRoom bs u.known.model w rs → Goes D bs u
        (write_same D w qs rs u) m n
    same_goes w (q ∷ []) (r ∷ []) u m n i h one a b = by_spot w q r u m n i h one a b (is_same_spot q r)
    same_goes w (q ∷ []) [] u m n i h one a b =
        shared_each_goes w (all_spots (q ∷ []) []) u m n i h (all_left h.place (q ∷ []) [] one)
        (all_room bs u.known.model w (q ∷ []) [] a b)
    same_goes w (q ∷ []) (r ∷ r' ∷ rs) u m n i h one a b =
        shared_each_goes w (all_spots (q ∷ []) (r ∷ r' ∷ rs)) u m n i h (all_left h.place (q ∷ []) (r ∷ r' ∷ rs) one)
        (all_room bs u.known.model w (q ∷ []) (r ∷ r' ∷ rs) a b)
    same_goes w [] rs u m n i h one a b =
        shared_each_goes w (all_spots [] rs) u m n i h (all_left h.place [] rs one)
        (all_room bs u.known.model w [] rs a b)
    same_goes w (q ∷ q' ∷ qs) rs u m n i h one a b =
        shared_each_goes w (all_spots (q ∷ q' ∷ qs) rs) u m n i h (all_left h.place (q ∷ q' ∷ qs) rs one)
        (all_room bs u.known.model w (q ∷ q' ∷ qs) rs a b)

    -- ---- in each mode

    -- what the running machines put
    abbrev pub Puts : Mode → Known N → Item N → Scalar → Places → Memories → Memories → Type 0
    Puts Both k i w p m n = SidePut left k i w p.left m n × SidePut right k i w p.right m n
    Puts Left k i w p m n = SidePut left k i w p.left m n × IsStill left m n
    Puts Right k i w p m n = SidePut right k i w p.right m n × IsStill right m n

    both_goes : (t : Bool) (w : Scalar) (p : Places) (u : Underway N) (m n : Memories) → IsKnown D u.known m → Puts
        Both u.known u.item w p m n
        → (t ≡ true → (h : BothPut u.known u.item w m n) × IsOne h.place p.left) → Goes D bs u (write_both D t w p u)
        m n
    both_goes true w p u m n i h s =
        let b = s refl in
        same_goes w p.left p.right u m n i b.0 b.1 h.0.room h.1.room
    both_goes false w p u m n i h s = sides_go w p u m n i h.0 h.1

    pub write_goes : (mode : Mode) (to : Bool) (w : Scalar) (p : Places) (u : Underway N) (m n : Memories) → IsKnown D
        u.known m
        → Puts mode u.known u.item w p m n
        → (mode ≡ Both → (to && u.item.same) ≡ true → (h : BothPut u.known u.item w m n) × IsOne h.place p.left)
        → Goes D bs u (write D mode to w p u) m n
    write_goes Both to w p u m n i h s = both_goes (to && u.item.same) w p u m n i h (λ e. s refl e)
    write_goes Left to w p u m n i h s = side_goes left w p.left u m n i h.0 h.1
    write_goes Right to w p u m n i h s = side_goes right w p.right u m n i h.0 h.1
