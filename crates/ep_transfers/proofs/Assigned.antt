-- A value goes to the places of its address, in each mode: without a fault each running machine stores one, and what is
-- known then holds of the memories after it.
use Rattle.std.proofs.Common.{◌≡◌, ℕ, ◌+◌, ◌^◌, ◌<◌, ◌≤◌, Bool, true, false, ◌&&◌, List, [], ◌∷◌, slice_get, Option}
use Rattle.std.proofs.Common.{Some, None, IfSome, is_some, refl, sym, ap, ◌∙◌, subst, arith}
use Rattle.std.proofs.lemmas.Bool.{and_from, and_parts}
use Rattle.ep_int.specs.declared.types.Model.{Model}
use Rattle.ep_int.specs.declared.types.Order.{Order}
use Rattle.ep_int.specs.declared.types.Scalar.{Scalar}
use Rattle.ep_int.specs.declared.types.Scalar.TheVariants.{Int, Pointer}
use Rattle.ep_int.specs.Types.{size_of}
use Rattle.ep_int.specs.Memory.{Memory, Value as Datum, int, null, pointer, Found, has, store_fault}
use Rattle.ep_bitslice.specs.declared.cell.Side.TheVariants as cell_side
use Rattle.ep_domain.specs.Domain.{Ops}
use Rattle.ep_cells.specs.declared.cell.Value.{Value}
use Rattle.ep_cells.specs.States.{Known}
use Rattle.ep_cells.specs.Meaning.{Memories, Allows, HasBytes, Has, numbers_of}
use Rattle.ep_core.specs.Program.{Program}
use Rattle.ep_core.specs.Runs.{Side, left, right}
use Rattle.ep_equalities.specs.declared.pair.Mode.{Mode}
use Rattle.ep_equalities.specs.declared.pair.Mode.TheVariants.{Both, Left, Right}
use Rattle.ep_equalities.specs.declared.pair.SideValue.{SideValue}
use Rattle.ep_equalities.specs.Pairs.{SideIn, HasFormNumber}
use Rattle.ep_equalities.specs.Same.{is_same}
use Rattle.ep_equalities.proofs.Equal.{same_values}
use Rattle.ep_evaluation.specs.Given.{Given, on, runs}
use Rattle.ep_evaluation.specs.Accesses.{spots}
use Rattle.ep_evaluation.specs.Evaluation.{targets_of}
use Rattle.ep_evaluation.specs.Evaluation.{pointer as pointer_of}
use Rattle.ep_cell_ranges.specs.Ranges.{Form}
use Rattle.ep_cell_ranges.specs.Spots.{Spot}
use Rattle.ep_cell_ranges.specs.Follow.{FormHas}
use Rattle.ep_evaluation.specs.Laws.{Holds, SideFits}
use Rattle.ep_evaluation.proofs.General.{reliable_none}
use Rattle.ep_evaluation.proofs.Spots.{Among, here as at_head, behind}
use Rattle.ep_transfers.specs.Places.{Places, at_side, is_some_place, has_places, has_values, on_all, places_of}
use Rattle.ep_transfers.specs.Places.{aligned_faults}
use Rattle.ep_transfers.specs.Writes.{Underway, underway, item_of, lacks, value_of_same, write}
use Rattle.ep_transfers.specs.Transfers.{assigned, if_goes_on}
use Rattle.ep_transfers.specs.Laws.{CellLaws}
use Rattle.ep_transfers.proofs.Sides.{IsWith, with_beside, with_there, same_allowed}
use Rattle.ep_transfers.proofs.Changes.{IsOne, here, there, Blocks, HaveRoom, IsKnown, Goes, IsSide}
use Rattle.ep_transfers.proofs.Puts.{IsPut, order_on, memory_on, IsStill, SidePut, BothPut, write_goes}
use Rattle.ep_transfers.proofs.Placed.{side_placed, stores}
use Rattle.ep_transfers.proofs.Rooms.{EndBy, spots_end}

pub is_one : (q : Spot) (qs : List Spot) → Among q qs → IsOne q qs
is_one q [] h = elim h [ ]
is_one q _ (at_head qs) = here qs
is_one q (r ∷ qs) (behind _ _ h) = there r qs (is_one q qs h)

pub some_place : (q : Spot) (qs : List Spot) → IsOne q qs → is_some_place qs ≡ true
some_place q [] h = elim h [ ]
some_place q (r ∷ qs) h = refl

-- all places are in these blocks
abbrev pub AreInside : Blocks → List Spot → Type 0
AreInside bs [] = Unit {0}
AreInside bs (q ∷ qs) = (bs q.0 ≡ true) × AreInside bs qs

pub any_block : Blocks
any_block b = true

pub all_inside : (qs : List Spot) → AreInside any_block qs
unfolding any_block
all_inside [] = tt
all_inside (q ∷ qs) = (refl, all_inside qs)

below : (x : ℕ) → x ≤ 65536 → x ≤ 2 ^ 32
below x h = omega (arith, h)

pub rooms : (bs : Blocks) (d : Model) (w : Scalar) (qs : List Spot) → AreInside bs qs → EndBy 65536 (size_of d w) qs →
    HaveRoom bs d w qs
rooms bs d w [] i h = tt
rooms bs d w (q ∷ qs) i h = ((i.0, below (q.1 + size_of d w) h.0), rooms bs d w qs i.1 h.1)

-- what all running sides have
pub on_all_by : (mode : Mode) (f : Side → Bool) → ((s : Side) → runs mode s ≡ true → f s ≡ true) → on_all mode f ≡ true
on_all_by Both f h = and_from (f left) (f right) (h left refl) (h right refl)
on_all_by Left f h = h left refl
on_all_by Right f h = h right refl

pub valued : {N : Type 0} (D : Ops N) (w : Scalar) (v : Option (Value N)) (d : Datum) → Allows D w v false (Some d) →
    is_some v ≡ true
valued D w None d a = absurd (let q : Some d ≡ None = a in cc)
valued D w (Some v) d a = refl

pub sure_allowed : {N : Type 0} (D : Ops N) (w : Scalar) (v : Option (Value N)) (x : Datum) → Allows D w v false
    (Some x)
    → Allows D w v (lacks false v) (Some x)
sure_allowed D w None x a = absurd (let q : Some x ≡ None = a in cc)
sure_allowed D w (Some v) x a = a

pub sure_bytes : {N : Type 0} (D : Ops N) (w : Scalar) (v : Option (Value N)) (x : Datum) → Allows D w v false (Some x)
    → (o : Order) (d : Model) (n : Memory) (q : Spot) → Has o n w q.0 q.1 (size_of d w) x
    → HasBytes o n (size_of d w) w (lacks false v) q.0 q.1 (Some x)
sure_bytes D w None x a o d n q h = absurd (let q : Some x ≡ None = a in cc)
sure_bytes D w (Some v) x a o d n q h = h

pub form_has : (os : Order × Order) (m : Memories) (w : Scalar) (z : Datum) (f : Form) → IfSome f
    (HasFormNumber (numbers_of os m) w z)
    → FormHas os m w z f
form_has os m w z None h = tt
form_has os m (Int t) (int z) (Some ss) h = h
form_has os m (Int t) null (Some ss) h = absurd h
form_has os m (Int t) (pointer b q) (Some ss) h = absurd h
form_has os m Pointer z (Some ss) h = absurd h

pub some_is : (x z : Datum) → Some x ≡ Some z → x ≡ z
some_is x z e = cc

module _ {N : Type 0} (D : Ops N) where
  -- a memory with a value there has it put there
  pub put_with : (o : Order) (d : Model) (w : Scalar) (v : Option (Value N)) (q : Spot) (x : Datum) (m n : Memory)
      → Allows D w v false (Some x) → IsWith o d w q x m n → IsPut o d w (lacks false v) q (Some x) m n
  put_with o d w v q x m n a h = record {
    beside = (with_beside o d w cell_side.Left q x m n h).beside;
    bytes = sure_bytes D w v x a o d n q (with_there o d w q x m n h);
  }

  -- what is known of a value that is found may be that of a cell
  pub side_of : (p : Program) (ord : Side → Order) (k : Known N) (m : Memories) (w : Scalar) (s : SideValue N)
      (x : Datum)
      → SideFits D p ord k w s → SideIn D (numbers_of k.orders m) w s x → IsSide D k m w s false (Some x)
  side_of p ord k m w s x f h = record {
    sort = f.sort;
    rising = f.rising;
    form = f.form;
    allowed = sure_allowed D w s.value x h.value;
    says = λ z e l. form_of z (subst (λ d. SideIn D (numbers_of k.orders m) w s d) (some_is x z e) h);
  }
    where
      form_of : (z : Datum) → SideIn D (numbers_of k.orders m) w s z → FormHas k.orders m w z s.form
      form_of z h = form_has k.orders m w z s.form h.form

module _ {N : Type 0} (D : Ops N) (bs : Blocks) (laws : CellLaws D) (p : Program) (ord : Side → Order) (sizes : List ℕ)
    (fit : (b size : ℕ) → slice_get sizes b ≡ Some size → size ≤ 65536) (w : Scalar) (k : Known N) (m : Memories)
    (i : IsKnown D k m) (some : 0 < size_of k.model w) where
  -- a machine's value goes to its address
  pub record IsStored (fa fv : Found) : Type 0 where
    pub block : ℕ
    pub offset : ℕ
    pub size : ℕ
    pub datum : Datum
    pub address : fa ≡ has (pointer block offset)
    pub value : fv ≡ has datum
    pub size_is : slice_get sizes block ≡ Some size
    pub stores : store_fault k.model size w offset ≡ None

  -- what evaluation gives of an address and of a value, without a fault
  pub record Operands (mode : Mode) : Type 0 where
    pub fa : Side → Found
    pub fv : Side → Found
    pub to : Given N
    pub v : Given N
    pub ha : Holds D p ord Pointer fa k m mode to
    pub hv : Holds D p ord w fv k m mode v
    pub fits : (s : Side) → SideFits D p ord k w (on v.pair s)
    pub na : to.faults ≡ []
    pub nv : v.faults ≡ []
    pub quiet : aligned_faults D sizes mode (size_of k.model w) to.pair ≡ []
    pub inside : (s : Side) → AreInside bs (spots D sizes (size_of k.model w) (size_of k.model w)
        (targets_of D sizes (pointer_of D (on to.pair s))))

  module _ (mode : Mode) (x : Operands mode) where
    abbrev pub places : Places
    places = places_of D sizes (size_of k.model w) (size_of k.model w) x.to.pair

    abbrev pub u : Underway N
    u = underway k (item_of D x.v.pair)

    side_spots : (s : Side)
        → at_side places s ≡ spots D sizes (size_of k.model w) (size_of k.model w)
        (targets_of D sizes (pointer_of D (on x.to.pair s)))
    side_spots left = refl
    side_spots right = refl

    pub record At (s : Side) : Type 0 where
      pub stored : IsStored (x.fa s) (x.fv s)
      pub among : IsOne (stored.block, stored.offset) (at_side places s)
      pub room : HaveRoom bs k.model w (at_side places s)
      pub is : SideIn D (numbers_of k.orders m) w (on x.v.pair s) stored.datum

    pub at : (s : Side) → runs mode s ≡ true → At s
    at s r =
        let d = x.ha.found x.na s r in
        let y = x.hv.found x.nv s r in
        let h = side_placed D laws.domain sizes (size_of k.model w) some mode x.to.pair x.quiet s r d.0
        (x.ha.held (reliable_none mode x.to.faults x.na) s r d.0 d.1).value in
        record {
          stored = record {
            block = h.block;
            offset = h.offset;
            size = h.size;
            datum = y.0;
            address = d.1 ∙ ap has h.is;
            value = y.1;
            size_is = h.size_is;
            stores = stores k.model h.size w h.offset h.inside h.even;
          };
          among = subst (λ qs. IsOne (h.block, h.offset) qs) (sym (side_spots s))
              (is_one (h.block, h.offset) (spots D sizes (size_of k.model w) (size_of k.model w)
              (targets_of D sizes (pointer_of D (on x.to.pair s)))) h.among);
          room = subst (λ qs. HaveRoom bs k.model w qs) (sym (side_spots s))
              (rooms bs k.model w (spots D sizes (size_of k.model w) (size_of k.model w)
              (targets_of D sizes (pointer_of D (on x.to.pair s)))) (x.inside s)
              (spots_end D sizes 65536 fit (size_of k.model w) (size_of k.model w)
              (targets_of D sizes (pointer_of D (on x.to.pair s)))));
          is = x.hv.held (reliable_none mode x.v.faults x.nv) s r y.0 y.1;
        }

    pub goes_on : (has_places mode places && has_values mode x.v.pair) ≡ true
    goes_on =
        and_from (has_places mode places) (has_values mode x.v.pair)
        (on_all_by mode (λ s. is_some_place (at_side places s))
        (λ s r. let a = at s r in some_place (a.stored.block, a.stored.offset) (at_side places s) a.among))
        (on_all_by mode (λ s. is_some (on x.v.pair s).value)
        (λ s r. let a = at s r in valued D w (on x.v.pair s).value a.stored.datum a.is.value))

    -- the memories after it
    abbrev pub With : (s : Side) → At s → Memories → Type 0
    With s a n = IsWith (order_on s k.orders) k.model w (a.stored.block, a.stored.offset) a.stored.datum
        (memory_on s m) (memory_on s n)

    side_put : (s : Side) (a : At s) (n : Memories) → With s a n
        → SidePut D bs laws.domain laws.splits laws.more_splits laws.writes laws.more_writes laws.weak_writes
        laws.more_weak_writes s k u.item w (at_side places s) m n
    side_put left a n h = record {
      datum = Some a.stored.datum;
      place = (a.stored.block, a.stored.offset);
      among = a.among;
      room = a.room;
      can = side_of D p ord k m w x.v.pair.left a.stored.datum (x.fits left) a.is;
      put = put_with D k.orders.0 k.model w x.v.pair.left.value (a.stored.block, a.stored.offset) a.stored.datum
          m.left n.left a.is.value h;
    }
    side_put right a n h = record {
      datum = Some a.stored.datum;
      place = (a.stored.block, a.stored.offset);
      among = a.among;
      room = a.room;
      can = side_of D p ord k m w x.v.pair.right a.stored.datum (x.fits right) a.is;
      put = put_with D k.orders.1 k.model w x.v.pair.right.value (a.stored.block, a.stored.offset) a.stored.datum
          m.right n.right a.is.value h;
    }

    abbrev pub after : Underway N
    after = write D mode (is_same D x.to.pair) w places u

  -- the running machines store so, and the other stands still
  abbrev pub AreStored : (mode : Mode) → Operands mode → Memories → Type 0
  AreStored Both x n = With Both x left (at Both x left refl) n × With Both x right (at Both x right refl) n
  AreStored Left x n = With Left x left (at Left x left refl) n × IsStill left m n
  AreStored Right x n = With Right x right (at Right x right refl) n × IsStill right m n

  places_alike : (b q c r : ℕ) → pointer b q ≡ pointer c r → ◌≡◌ {A = Spot} (b, q) (c, r)
  places_alike b q c r e = let f : b ≡ c = cc in let g : q ≡ r = cc in ap (λ (x : ℕ). (x, q)) f ∙ ap
      (λ (x : ℕ). (c, x)) g

  -- the same at one address on both sides
  module _ (x : Operands Both) where
    abbrev l : At Both x left
    l = at Both x left refl

    abbrev r : At Both x right
    r = at Both x right refl

    one_place : is_same D x.to.pair ≡ true → ◌≡◌ {A = Spot} (l.stored.block, l.stored.offset)
        (r.stored.block, r.stored.offset)
    one_place e =
        places_alike l.stored.block l.stored.offset r.stored.block r.stored.offset
        (same_values D laws.domain x.to.pair e (numbers_of k.orders m) Pointer (pointer l.stored.block l.stored.offset)
        (pointer r.stored.block r.stored.offset)
        (record {
          left = λ z. x.ha.held (reliable_none Both x.to.faults x.na) left refl _ l.stored.address;
          right = λ z. x.ha.held (reliable_none Both x.to.faults x.na) right refl _ r.stored.address;
          equal = λ z h. x.ha.same refl x.na h _ _ l.stored.address r.stored.address;
        }))

    one_value : is_same D x.v.pair ≡ true → l.stored.datum ≡ r.stored.datum
    one_value e =
        same_values D laws.domain x.v.pair e (numbers_of k.orders m) w l.stored.datum r.stored.datum
        (record {
          left = λ z. l.is;
          right = λ z. r.is;
          equal = λ z h. x.hv.same refl x.nv h _ _ l.stored.value
              r.stored.value;
        })

    both_put : (n : Memories) → AreStored Both x n → (is_same D x.to.pair && is_same D x.v.pair) ≡ true
        → (h : BothPut D bs laws.domain laws.splits laws.more_splits laws.writes laws.more_writes laws.weak_writes
        laws.more_weak_writes k (u Both x).item w m n)
        × IsOne h.place (places Both x).left
    both_put n a e =
        let q = and_parts (is_same D x.to.pair) (is_same D x.v.pair) e in
        let at_one = one_place q.0 in
        let same = one_value q.1 in
        let in_right : SideIn D (numbers_of k.orders m) w x.v.pair.right l.stored.datum
        = subst (λ d. SideIn D (numbers_of k.orders m) w x.v.pair.right d) (sym same) r.is in
        let allowed = same_allowed D laws.splits laws.more_splits laws.writes laws.domain w x.v.pair.left.value
        x.v.pair.right.value l.stored.datum l.is.value in_right.value in
        let on_right : IsWith k.orders.1 k.model w (l.stored.block, l.stored.offset) l.stored.datum m.right n.right
        = subst (λ z. IsWith k.orders.1 k.model w z l.stored.datum m.right n.right) (sym at_one)
        (subst (λ d. IsWith k.orders.1 k.model w (r.stored.block, r.stored.offset) d m.right n.right) (sym same) a.1) in
        let value = value_of_same D x.v.pair.left.value x.v.pair.right.value in (
          record {
            datum = Some l.stored.datum;
            place = (l.stored.block, l.stored.offset);
            sort = ((x.fits left).sort, (x.fits right).sort);
            rising = ((x.fits left).rising, (x.fits right).rising);
            form = (x.fits left).form;
            allowed = sure_allowed D w value l.stored.datum allowed;
            says = λ z f g. (side_of D p ord k m w x.v.pair.left l.stored.datum (x.fits left) l.is).says z f
                (let t = (side_of D p ord k m w x.v.pair.left l.stored.datum (x.fits left) l.is).allowed in sure_lacks
                x.v.pair.left.value l.stored.datum l.is.value);
            on_left = put_with D k.orders.0 k.model w value (l.stored.block, l.stored.offset) l.stored.datum m.left
                n.left allowed a.0;
            on_right = put_with D k.orders.1 k.model w value (l.stored.block, l.stored.offset) l.stored.datum m.right
                n.right allowed on_right;
          },
          l.among,
        )
      where
        sure_lacks : (v : Option (Value N)) (d : Datum) → Allows D w v false (Some d) → lacks false v ≡ false
        sure_lacks None d a = absurd (let q : Some d ≡ None = a in cc)
        sure_lacks (Some v) d a = refl

  pub assigned_goes : (mode : Mode) (x : Operands mode) (n : Memories) → AreStored mode x n → Goes D bs (u mode x)
      (after mode x) m n
  assigned_goes Both x n a =
      write_goes D bs laws.domain laws.splits laws.more_splits laws.writes laws.more_writes laws.weak_writes
      laws.more_weak_writes Both (is_same D x.to.pair) w
      (places Both x) (u Both x) m n i
      (side_put Both x left (at Both x left refl) n a.0, side_put Both x right (at Both x right refl) n a.1)
      (λ e f. both_put x n a f)
  assigned_goes Left x n a =
      write_goes D bs laws.domain laws.splits laws.more_splits laws.writes laws.more_writes laws.weak_writes
      laws.more_weak_writes Left (is_same D x.to.pair) w
      (places Left x) (u Left x) m n i (side_put Left x left (at Left x left refl) n a.0, a.1) (λ e f. absurd (cc))
  assigned_goes Right x n a =
      write_goes D bs laws.domain laws.splits laws.more_splits laws.writes laws.more_writes laws.weak_writes
      laws.more_weak_writes Right (is_same D x.to.pair) w
      (places Right x) (u Right x) m n i (side_put Right x right (at Right x right refl) n a.0, a.1)
      (λ e f. absurd (cc))

  -- the state after it
  pub next_is : (mode : Mode) (x : Operands mode) → (assigned D sizes mode w x.to.pair x.v.pair k).next ≡ Some
      (after mode x).known
  next_is mode x = ap (λ t. if_goes_on t (after mode x).known) (goes_on mode x)
