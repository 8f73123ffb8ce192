-- One thing is written at the machines' places in any mode, and what waits waits on; and so the same thing at each of
-- so many offsets.
use Rattle.std.proofs.Common.{◌≡◌, ℕ, ◌+◌, ◌^◌, ◌≤◌, Bool, true, false, ◌&&◌, ◌||◌, List, [], ◌∷◌, Option, Some, inl}
use Rattle.std.proofs.Common.{refl, sym, ap, subst, arith}
use Rattle.std.proofs.lemmas.Bool.{and_parts}
use Rattle.ep_int.specs.declared.types.Model.{Model}
use Rattle.ep_int.specs.declared.types.Order.{Order}
use Rattle.ep_int.specs.declared.types.Scalar.{Scalar}
use Rattle.ep_int.specs.declared.types.Scalar.TheVariants.{Int, Pointer}
use Rattle.ep_int.specs.Types.{size_of}
use Rattle.ep_int.specs.Memory.{Memory, Value as Datum, broken}
use Rattle.ep_bitslice.specs.declared.cell.Side.TheVariants as cell_side
use Rattle.ep_domain.specs.Domain.{Ops}
use Rattle.ep_cells.specs.Meaning.{Memories, Allows, HasBytes, Has}
use Rattle.ep_cells.specs.Memories.{is_byte_of}
use Rattle.ep_core.specs.Runs.{Side, left, right}
use Rattle.ep_equalities.specs.declared.pair.Mode.{Mode}
use Rattle.ep_equalities.specs.declared.pair.Mode.TheVariants.{Both, Left, Right}
use Rattle.ep_evaluation.specs.Given.{on, runs}
use Rattle.ep_cell_ranges.specs.Spots.{Spot}
use Rattle.ep_evaluation.proofs.Spots.{Among}
use Rattle.ep_transfers.specs.Places.{Places, at_side, moved_spot, moved_spots, moved_places}
use Rattle.ep_transfers.specs.Writes.{Item, Underway, maybe_on, lacks, formed, value_of_same, write}
use Rattle.ep_transfers.specs.Laws.{CellLaws}
use Rattle.ep_transfers.proofs.Sides.{IsWith, with_beside, with_there}
use Rattle.ep_transfers.proofs.Changes.{IsOne, Blocks, HaveRoom, IsKnown, Goes, IsSide, side_after}
use Rattle.ep_transfers.proofs.Puts.{IsPut, IsStill, SidePut, BothPut, write_goes}
use Rattle.ep_transfers.proofs.Rooms.{EndBy}
use Rattle.ep_transfers.proofs.Assigned.{is_one}
use Rattle.ep_transfers.proofs.RunPlaces.{among_moved}

-- all blocks may be written
abbrev pub all_blocks : Blocks
all_blocks b = true

-- ---- one machine

-- its memory has this at a place, or nothing, and all beside is as it was, but for pointers that lie partly there
pub record IsAt (o : Order) (d : Model) (w : Scalar) (q : Spot) (x : Option Datum) (m n : Memory) : Type 0 where
  pub beside : (b j : ℕ) → is_byte_of (record {
    side = cell_side.Left;
    block = q.0;
    offset = q.1;
    bytes = size_of d w;
  }) b j ≡ false → n b j ≡ broken d m q.0 q.1 (size_of d w) b j
  pub bytes : (maybe : Bool) → HasBytes o n (size_of d w) w maybe q.0 q.1 x

pub any_bytes : (o : Order) (n : Memory) (w : Scalar) (b q size : ℕ) (v : Datum) → Has o n w b q size v
    → (maybe : Bool) → HasBytes o n size w maybe b q (Some v)
any_bytes o n w b q size v h false = h
any_bytes o n (Int t) b q size v h true = λ p l. inl (h p l)
any_bytes o n Pointer b q size v h true = inl h

put_of : (o : Order) (d : Model) (w : Scalar) (q : Spot) (x : Option Datum) (m n : Memory) → IsAt o d w q x m n
    → (maybe : Bool) → IsPut o d w maybe q x m n
put_of o d w q x m n h maybe = record { beside = h.beside; bytes = h.bytes maybe }

pub at_with : (o : Order) (d : Model) (w : Scalar) (q : Spot) (v : Datum) (m n : Memory) → IsWith o d w q v m n
    → IsAt o d w q (Some v) m n
at_with o d w q v m n h = record {
  beside = (with_beside o d w cell_side.Left q v m n h).beside;
  bytes = any_bytes o n w q.0 q.1 (size_of d w) v (with_there o d w q v m n h);
}

-- the running machines have these at their places, and the other stands still
abbrev pub Changed : Mode → (Order × Order) → Model → Scalar → (Side → Spot) → (Side → Option Datum) → (m n : Memories)
    → Type 0
Changed Both os d w at x m n =
    IsAt os.0 d w (at left) (x left) m.left n.left × IsAt os.1 d w (at right) (x right) m.right n.right
Changed Left os d w at x m n = IsAt os.0 d w (at left) (x left) m.left n.left × IsStill left m n
Changed Right os d w at x m n = IsAt os.1 d w (at right) (x right) m.right n.right × IsStill right m n

-- the machines' places are among those of the access, and one place where both sides have one
pub record Spotted (mode : Mode) (to : Bool) (d : Model) (w : Scalar) (pl : Places) (at : Side → Spot) : Type 0 where
  pub among : (s : Side) → runs mode s ≡ true → IsOne (at s) (at_side pl s)
  pub room : (s : Side) → runs mode s ≡ true → HaveRoom all_blocks d w (at_side pl s)
  pub one : mode ≡ Both → to ≡ true → at left ≡ at right

module _ {N : Type 0} (D : Ops N) where
  -- ---- what waits

  -- both sides wait for one thing
  pub record IsSame (w : Scalar) (i : Item N) (x : Side → Option Datum) : Type 0 where
    pub equal : x left ≡ x right
    pub allowed : Allows D w (value_of_same D i.pair.left.value i.pair.right.value)
        (lacks (i.left_maybe || i.right_maybe) (value_of_same D i.pair.left.value i.pair.right.value)) (x left)
    pub sure : lacks (i.left_maybe || i.right_maybe) (value_of_same D i.pair.left.value i.pair.right.value) ≡ false
        → lacks i.left_maybe i.pair.left.value ≡ false

  -- these may be written on the running sides
  pub record Waits (mode : Mode) (to : Bool) (w : Scalar) (u : Underway N) (m : Memories) (x : Side → Option Datum) :
      Type 0 where
    pub side : (s : Side) → runs mode s ≡ true
        → IsSide D u.known m w (on u.item.pair s) (maybe_on u.item s) (x s)
    pub both : mode ≡ Both → (to && u.item.same) ≡ true → IsSame w u.item x

  pub waits_after : (bs : Blocks) (mode : Mode) (to : Bool) (w : Scalar) (u v : Underway N) (m n : Memories)
      (x : Side → Option Datum) → Goes D bs u v m n → Waits mode to w u m x → Waits mode to w v n x
  waits_after bs mode to w u v m n x g h = record {
    side = λ s r. subst (λ i. IsSide D v.known n w (on i.pair s) (maybe_on i s) (x s)) (sym g.item) (by_side s (h.side
        s r));
    both = λ e. subst (λ i. (to && i.same) ≡ true → IsSame w i x) (sym g.item) (λ t. formed_same (h.both e t));
  }
    where
      by_side : (s : Side) → IsSide D u.known m w (on u.item.pair s) (maybe_on u.item s) (x s)
          → IsSide D v.known n w (on (formed g.reform u.item).pair s) (maybe_on (formed g.reform u.item) s) (x s)
      by_side left i = side_after D u.known v.known g.reform m n g.change w u.item.pair.left u.item.left_maybe
          (x left) i
      by_side right i = side_after D u.known v.known g.reform m n g.change w u.item.pair.right u.item.right_maybe
          (x right) i

      formed_same : IsSame w u.item x → IsSame w (formed g.reform u.item) x
      formed_same i = record { equal = i.equal; allowed = i.allowed; sure = i.sure }

  -- ---- one step

  module _ (laws : CellLaws D) (to : Bool) (os : Order × Order) (d : Model) (w : Scalar) (pl : Places)
      (at : Side → Spot) (x : Side → Option Datum) (u : Underway N) (m n : Memories) (i : IsKnown D u.known m)
      (eo : u.known.orders ≡ os) (em : u.known.model ≡ d) where
    left_put : IsAt os.0 d w (at left) (x left) m.left n.left → (b : Bool)
        → IsPut u.known.orders.0 u.known.model w b (at left) (x left) m.left n.left
    left_put l b =
        subst (λ z. IsPut u.known.orders.0 z w b (at left) (x left) m.left n.left) (sym em)
        (subst (λ (z : Order × Order). IsPut z.0 d w b (at left) (x left) m.left n.left) (sym eo)
        (put_of os.0 d w (at left) (x left) m.left n.left l b))

    right_put : IsAt os.1 d w (at right) (x right) m.right n.right → (b : Bool)
        → IsPut u.known.orders.1 u.known.model w b (at right) (x right) m.right n.right
    right_put l b =
        subst (λ z. IsPut u.known.orders.1 z w b (at right) (x right) m.right n.right) (sym em)
        (subst (λ (z : Order × Order). IsPut z.1 d w b (at right) (x right) m.right n.right) (sym eo)
        (put_of os.1 d w (at right) (x right) m.right n.right l b))

    abbrev Put : Side → Type 0
    Put s = SidePut D all_blocks laws.domain laws.splits laws.more_splits laws.writes laws.more_writes
        laws.weak_writes laws.more_weak_writes s u.known u.item w (at_side pl s) m n

    left_side : (mode : Mode) → runs mode left ≡ true → Waits mode to w u m x → Spotted mode to d w pl at
        → IsAt os.0 d w (at left) (x left) m.left n.left → Put left
    left_side mode r h sp l = record {
      datum = x left;
      place = at left;
      among = sp.among left r;
      room = subst (λ z. HaveRoom all_blocks z w pl.left) (sym em) (sp.room left r);
      can = h.side left r;
      put = left_put l (lacks u.item.left_maybe u.item.pair.left.value);
    }

    right_side : (mode : Mode) → runs mode right ≡ true → Waits mode to w u m x → Spotted mode to d w pl at
        → IsAt os.1 d w (at right) (x right) m.right n.right → Put right
    right_side mode r h sp l = record {
      datum = x right;
      place = at right;
      among = sp.among right r;
      room = subst (λ z. HaveRoom all_blocks z w pl.right) (sym em) (sp.room right r);
      can = h.side right r;
      put = right_put l (lacks u.item.right_maybe u.item.pair.right.value);
    }

    both_sides : Waits Both to w u m x → Spotted Both to d w pl at
        → IsAt os.0 d w (at left) (x left) m.left n.left → IsAt os.1 d w (at right) (x right) m.right n.right
        → (to && u.item.same) ≡ true
        → (h : BothPut D all_blocks laws.domain laws.splits laws.more_splits laws.writes laws.more_writes
        laws.weak_writes laws.more_weak_writes u.known u.item w m n) × IsOne h.place pl.left
    both_sides h sp l r t =
        let same = h.both refl t in
        let e = sp.one refl (and_parts to u.item.same t).0 in
        let b = lacks (u.item.left_maybe || u.item.right_maybe)
        (value_of_same D u.item.pair.left.value u.item.pair.right.value) in
        let hl = h.side left refl in
        let hr = h.side right refl in (
          record {
            datum = x left;
            place = at left;
            sort = (hl.sort, hr.sort);
            rising = (hl.rising, hr.rising);
            form = hl.form;
            allowed = same.allowed;
            says = λ z f g. hl.says z f (same.sure g);
            on_left = left_put l b;
            on_right = subst (λ q. IsPut u.known.orders.1 u.known.model w b q (x left) m.right n.right) (sym e)
                (subst (λ z. IsPut u.known.orders.1 u.known.model w b (at right) z m.right n.right) (sym same.equal)
                (right_put r b));
          },
          sp.among left refl,
        )

    abbrev goes_by : Mode → Type 0
    goes_by mode = Goes D all_blocks u (write D mode to w pl u) m n

    pub step_goes : (mode : Mode) → Waits mode to w u m x → Spotted mode to d w pl at → Changed mode os d w at x m n
        → goes_by mode
    step_goes Both h sp r =
        write_goes D all_blocks laws.domain laws.splits laws.more_splits laws.writes laws.more_writes laws.weak_writes
        laws.more_weak_writes Both to w pl u m n i (left_side Both refl h sp r.0, right_side Both refl h sp r.1)
        (λ e t. both_sides h sp r.0 r.1 t)
    step_goes Left h sp r =
        write_goes D all_blocks laws.domain laws.splits laws.more_splits laws.writes laws.more_writes laws.weak_writes
        laws.more_weak_writes Left to w pl u m n i (left_side Left refl h sp r.0, r.1) (λ e t. absurd (cc))
    step_goes Right h sp r =
        write_goes D all_blocks laws.domain laws.splits laws.more_splits laws.writes laws.more_writes laws.weak_writes
        laws.more_weak_writes Right to w pl u m n i (right_side Right refl h sp r.0, r.1) (λ e t. absurd (cc))

-- ---- places so many bytes on

moved_end : (q i n size : ℕ) → i + size ≤ n → q + n ≤ 65536 → q + i + size ≤ 2 ^ 32
moved_end q i n size h e = omega (arith, h, e)

pub moved_room : (d : Model) (w : Scalar) (i n : ℕ) (qs : List Spot) → i + size_of d w ≤ n → EndBy 65536 n qs
    → HaveRoom all_blocks d w (moved_spots i qs)
moved_room d w i n [] h e = tt
moved_room d w i n (q ∷ qs) h e = ((refl, moved_end q.1 i n (size_of d w) h e.0), moved_room d w i n qs h e.1)

-- the machines' places of a run
pub record RunSpotted (mode : Mode) (to : Bool) (n : ℕ) (pl : Places) (at : Side → Spot) : Type 0 where
  pub among : (s : Side) → runs mode s ≡ true → Among (at s) (at_side pl s)
  pub ends : (s : Side) → runs mode s ≡ true → EndBy 65536 n (at_side pl s)
  pub one : mode ≡ Both → to ≡ true → at left ≡ at right

abbrev pub moved_at : ℕ → (Side → Spot) → Side → Spot
moved_at i at s = moved_spot i (at s)

pub moved_side : (i : ℕ) (pl : Places) (s : Side) → moved_spots i (at_side pl s) ≡ at_side (moved_places i pl) s
moved_side i pl left = refl
moved_side i pl right = refl

pub spotted_at : (mode : Mode) (to : Bool) (n : ℕ) (pl : Places) (at : Side → Spot) → RunSpotted mode to n pl at
    → (d : Model) (w : Scalar) (i : ℕ) → i + size_of d w ≤ n
    → Spotted mode to d w (moved_places i pl) (moved_at i at)
spotted_at mode to n pl at h d w i l = record {
  among = λ s r. subst (λ qs. IsOne (moved_spot i (at s)) qs) (moved_side i pl s)
      (is_one (moved_spot i (at s)) (moved_spots i (at_side pl s)) (among_moved i (at s) (at_side pl s) (h.among s r)));
  room = λ s r. subst (λ qs. HaveRoom all_blocks d w qs) (moved_side i pl s)
      (moved_room d w i n (at_side pl s) l (h.ends s r));
  one = λ e t. ap (moved_spot i) (h.one e t);
}

abbrev pub spot_on : (left right : Spot) → Side → Spot
spot_on l r left = l
spot_on l r right = r

abbrev pub both_have : Datum → Side → Option Datum
both_have v s = Some v
