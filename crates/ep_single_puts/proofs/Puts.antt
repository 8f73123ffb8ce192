-- Each running machine stores one value at one address: no fault, and a state that stands for the memories after it.
use Rattle.std.proofs.Common.{◌≡◌, ℕ, ◌+◌, ◌^◌, ◌≤◌, true, ◌&&◌, List, [], ◌∷◌, ◌++◌, Option, Some, None}
use Rattle.std.proofs.Common.{is_some, refl, sym, ap, ◌∙◌, subst, arith}
use Rattle.std.proofs.lemmas.Bool.{and_from}
use Rattle.ep_int.proofs.Basics.{size_positive}
use Rattle.ep_int.specs.declared.types.Model.{Model}
use Rattle.ep_int.specs.declared.types.Order.{Order}
use Rattle.ep_int.specs.declared.types.Scalar.{Scalar}
use Rattle.ep_int.specs.declared.types.Scalar.TheVariants.{Pointer}
use Rattle.ep_int.specs.Types.{size_of}
use Rattle.ep_int.specs.Memory.{Memory, Value as Datum, pointer, Found, has, stored, store_fault}
use Rattle.ep_alarms.specs.declared.types.AlarmKind.TheVariants.{U5, U6, U7}
use Rattle.ep_domain.specs.Domain.{Ops, Lawful}
use Rattle.ep_cells.specs.States.{Known}
use Rattle.ep_cells.specs.Meaning.{Memories, numbers_of}
use Rattle.ep_cell_ranges.specs.Spots.{Spot}
use Rattle.ep_core.specs.Program.{Program}
use Rattle.ep_core.specs.Exec.{size_at}
use Rattle.ep_core.specs.Runs.{Side, left, right}
use Rattle.ep_core.specs.WellFormed.{blocks_fit}
use Rattle.ep_equalities.specs.declared.pair.Mode.{Mode}
use Rattle.ep_equalities.specs.declared.pair.Mode.TheVariants.{Both, Left, Right}
use Rattle.ep_equalities.specs.Same.{is_same}
use Rattle.ep_equalities.proofs.Equal.{same_values}
use Rattle.ep_evaluation.specs.Given.{Given, runs, on, Shown, shown_if, faults_on}
use Rattle.ep_evaluation.specs.Accesses.{bounds_of, may_be_odd, spots}
use Rattle.ep_evaluation.specs.Evaluation.{pointer as pointer_of, targets_of, is_null}
use Rattle.ep_evaluation.specs.Laws.{memory_of, sizes_of, IsState}
use Rattle.ep_evaluation.proofs.Basics.{faults_on-none}
use Rattle.ep_evaluation.proofs.General.{reliable_none}
use Rattle.ep_transfers.specs.Places.{Places, at_side, is_some_place, has_places, has_values, places_of}
use Rattle.ep_transfers.specs.Places.{aligned_faults}
use Rattle.ep_transfers.specs.Writes.{item_of, underway, write, write_now}
use Rattle.ep_transfers.specs.Transfers.{assigned, if_goes_on}
use Rattle.ep_transfers.proofs.Assigned.{on_all_by, valued, form_has, any_block, all_inside, AreInside, Operands, With}
use Rattle.ep_transfers.proofs.Assigned.{At, at, assigned_goes}
use Rattle.ep_transfers.proofs.Changes.{Blocks, IsKnown, Goes}
use Rattle.ep_transfers.proofs.Gathered.{cell_laws}
use Rattle.ep_transfers.proofs.Puts.{order_on}
use Rattle.ep_transfers.proofs.Rooms.{small}
use Rattle.ep_transfers.proofs.RunPlaces.{places_alike}
use Rattle.ep_closed_laws.specs.Exactly.{IsThere}
use Rattle.ep_singles.specs.Numbers.{KeepsSingles}
use Rattle.ep_singles.specs.Cells.{IsOne}
use Rattle.ep_single_given.proofs.Given.{no_faults}
use Rattle.ep_single_narrowed.specs.Laws.{IsKeptOne}
use Rattle.ep_single_places.specs.Laws.{IsPlaceFor, IsOneInto, IsOneAccess}
use Rattle.ep_single_places.proofs.Places.{accesses_are_one}
use Rattle.ep_single_puts.specs.Laws.{IsPutAt, ArePut, AreToPut, IsStepTo}
use Rattle.ep_single_puts.proofs.Written.{place_for, IsSideOne, both_written, left_written, right_written}

one_spot : (ps : List Spot) (q : Spot) → ps ≡ q ∷ [] → is_some_place ps ≡ true
one_spot ps q e = ap is_some_place e

module _ {N : Type 0} (D : Ops N) (law : Lawful D) (keeps : KeepsSingles D) (p : Program) (ord : Side → Order)
    (fit : blocks_fit p.types p.blocks ≡ true) (k : Known N) (m n : Memories) (kept : IsKeptOne D p ord k m)
    (w : Scalar) (fa fv : Side → Found) (to v : Given N) where
  abbrev sizes : List ℕ
  sizes = sizes_of p.blocks

  abbrev width : ℕ
  width = size_of k.model w

  abbrev IsSide : Side → Type 0
  IsSide s = IsSideOne D law keeps k m n kept.one w sizes to.pair v.pair s

  -- the machine's memory after it, as the state tells of it
  stored_so : (s : Side) (x y : Memory) (b q : ℕ) (u : Datum) (c j : ℕ)
      → y c j ≡ stored (ord s) p.types.model x w b q u c j
      → y c j ≡ stored (order_on s k.orders) k.model x w b q u c j
  stored_so left x y b q u c j e =
      e ∙ ap (λ (os : Order × Order). stored os.0 p.types.model x w b q u c j) (sym kept.kept.state.orders)
      ∙ ap (λ d. stored k.orders.0 d x w b q u c j) (sym kept.kept.state.model)
  stored_so right x y b q u c j e =
      e ∙ ap (λ (os : Order × Order). stored os.1 p.types.model x w b q u c j) (sym kept.kept.state.orders)
      ∙ ap (λ d. stored k.orders.1 d x w b q u c j) (sym kept.kept.state.model)

  module _ (mode : Mode) (h : AreToPut D p ord mode k m w fa fv to v) (a : ArePut p ord mode w fa fv m n) where
    into : (s : Side) (r : runs mode s ≡ true) → IsOneInto D (on to.pair s).value (a.puts s r).block (a.puts s r).offset
    into s r = record {
      one = h.one_address.each s r;
      allowed = (h.address_holds.held (reliable_none mode to.faults h.one_address.quiet) s r
          (pointer (a.puts s r).block (a.puts s r).offset) (a.puts s r).at).value;
    }

    room_for : (s : Side) (r : runs mode s ≡ true) → IsPlaceFor sizes (a.puts s r).block (a.puts s r).offset width
    room_for s r =
        place_for (ord s) p k.model w (a.puts s r).block (a.puts s r).offset
        (subst (λ d. store_fault d (size_at (ord s) p (a.puts s r).block) w (a.puts s r).offset ≡ None)
        (sym kept.kept.state.model) (a.puts s r).stores)

    access : (s : Side) (r : runs mode s ≡ true)
        → IsOneAccess D sizes width (on to.pair s) (a.puts s r).block (a.puts s r).offset
    access s r =
        accesses_are_one D law sizes width (on to.pair s) (a.puts s r).block (a.puts s r).offset (into s r)
        (size_positive k.model w) (room_for s r)

    last : (q size : ℕ) → q + width ≤ size → size ≤ 65536 → q + width ≤ 2 ^ 32
    last q size e f = omega (arith, e, f)

    pub one_side : (s : Side) → runs mode s ≡ true → IsSide s
    one_side s r =
        let t = a.puts s r in
        let i = h.value_holds.held (reliable_none mode v.faults h.one_value.quiet) s r t.datum t.is in
        let room = room_for s r in
        record {
          spot = (t.block, t.offset);
          datum = t.datum;
          place = (access s r).place;
          to_store = record {
            one = h.one_value.each s r;
            sort = (h.fits s).sort;
            rising = (h.fits s).rising;
            last = last t.offset room.size room.inside (small p fit t.block room.size room.of_block);
            allowed = i.value;
            form_fits = (h.fits s).form;
            form_has = form_has k.orders m w t.datum (on v.pair s).form i.form;
          };
          after = λ b j. stored_so s (memory_of s m) (memory_of s n) t.block t.offset t.datum b j (t.after b j);
        }

    -- ---- no fault

    abbrev f6 : Side → Shown
    f6 s = shown_if (is_null D sizes (pointer_of D (on to.pair s)))

    abbrev f5 : Side → Shown
    f5 s = bounds_of D sizes width (targets_of D sizes (pointer_of D (on to.pair s)))

    abbrev f7 : Side → Shown
    f7 s = shown_if (may_be_odd D width (targets_of D sizes (pointer_of D (on to.pair s))))

    pub none_wrong : aligned_faults D sizes mode width to.pair ≡ []
    none_wrong =
        no_faults (faults_on mode U6 f6 ++ faults_on mode U5 f5) (faults_on mode U7 f7)
        (no_faults (faults_on mode U6 f6) (faults_on mode U5 f5)
        (faults_on-none mode U6 f6 (λ s r. ap shown_if (access s r).not_null))
        (faults_on-none mode U5 f5 (λ s r. (access s r).inside)))
        (faults_on-none mode U7 f7 (λ s r. ap shown_if (access s r).aligned))

    -- ---- each running side goes on

    abbrev places : Places
    places = places_of D sizes width width to.pair

    spot_there : (s : Side) → runs mode s ≡ true → is_some_place (at_side places s) ≡ true
    spot_there left r = one_spot places.left ((a.puts left r).block, (a.puts left r).offset) (access left r).place
    spot_there right r = one_spot places.right ((a.puts right r).block, (a.puts right r).offset) (access right r).place

    value_there : (s : Side) → runs mode s ≡ true → is_some (on v.pair s).value ≡ true
    value_there s r =
        valued D w (on v.pair s).value (a.puts s r).datum
        (h.value_holds.held (reliable_none mode v.faults h.one_value.quiet) s r (a.puts s r).datum (a.puts s r).is).value

    goes_on : (has_places mode places && has_values mode v.pair) ≡ true
    goes_on =
        and_from (has_places mode places) (has_values mode v.pair)
        (on_all_by mode (λ s. is_some_place (at_side places s)) spot_there)
        (on_all_by mode (λ s. is_some (on v.pair s).value) value_there)

    abbrev pub after_put : Known N
    after_put = write_now D mode (is_same D to.pair) w places (item_of D v.pair) k

    pub next_put : (assigned D sizes mode w to.pair v.pair k).next ≡ Some after_put
    next_put = ap (λ t. if_goes_on t after_put) goes_on

  -- ---- the state after it

  module _ (h : AreToPut D p ord Both k m w fa fv to v) (a : ArePut p ord Both w fa fv m n) where
    abbrev l : IsPutAt p (ord left) w (fa left) (fv left) m.left n.left
    l = a.puts left refl

    abbrev r : IsPutAt p (ord right) w (fa right) (fv right) m.right n.right
    r = a.puts right refl

    same_place : is_same D to.pair ≡ true → ◌≡◌ {A = Spot} (l.block, l.offset) (r.block, r.offset)
    same_place e =
        places_alike l.block l.offset r.block r.offset
        (same_values D law to.pair e (numbers_of k.orders m) Pointer (pointer l.block l.offset) (pointer r.block r.offset)
        (record {
          left = λ z. h.address_holds.held (reliable_none Both to.faults h.one_address.quiet) left refl _ l.at;
          right = λ z. h.address_holds.held (reliable_none Both to.faults h.one_address.quiet) right refl _ r.at;
          equal = λ z i. h.address_holds.same refl h.one_address.quiet i _ _ l.at r.at;
        }))

    same_datum : is_same D v.pair ≡ true → l.datum ≡ r.datum
    same_datum e =
        same_values D law v.pair e (numbers_of k.orders m) w l.datum r.datum
        (record {
          left = λ z. h.value_holds.held (reliable_none Both v.faults h.one_value.quiet) left refl _ l.is;
          right = λ z. h.value_holds.held (reliable_none Both v.faults h.one_value.quiet) right refl _ r.is;
          equal = λ z i. h.value_holds.same refl h.one_value.quiet i _ _ l.is r.is;
        })

    both_one : IsOne D (after_put Both h a) n
    unfolding one_side
    both_one =
        both_written D law keeps k m n kept.one w sizes to.pair v.pair (one_side Both h a left refl)
        (one_side Both h a right refl) (λ e f. (same_place e, same_datum f))

  pub one_after : (mode : Mode) (h : AreToPut D p ord mode k m w fa fv to v) (a : ArePut p ord mode w fa fv m n)
      → IsOne D (after_put mode h a) n
  one_after Both h a = both_one h a
  one_after Left h a =
      left_written D law keeps k m n kept.one w sizes to.pair v.pair (one_side Left h a left refl) (a.still right refl)
  one_after Right h a =
      right_written D law keeps k m n kept.one w sizes to.pair v.pair (one_side Right h a right refl)
      (a.still left refl)

-- ---- what else the state after it keeps

same_parts : (b q c r : ℕ) (u v : Datum) (f g : Found) → f ≡ has (pointer b q) → f ≡ has (pointer c r) → g ≡ has u
    → g ≡ has v → ((b ≡ c) × (q ≡ r)) × (u ≡ v)
same_parts b q c r u v f g a e i j =
    let x : has (pointer b q) ≡ has (pointer c r) = sym a ∙ e in
    let y : pointer b q ≡ pointer c r = cc in
    let z : has u ≡ has v = sym i ∙ j in
    ((let s : b ≡ c = cc in s, let s : q ≡ r = cc in s), let s : u ≡ v = cc in s)

same_stored : (o : Order) (d : Model) (z : Memory) (w : Scalar) (b q c r : ℕ) (u v : Datum)
    → ((b ≡ c) × (q ≡ r)) × (u ≡ v) → (i j : ℕ) → stored o d z w b q u i j ≡ stored o d z w c r v i j
same_stored o d z w b q c r u v e i j =
    ap (λ x. stored o d z w x q u i j) e.0.0 ∙ ap (λ x. stored o d z w c x u i j) e.0.1
    ∙ ap (λ x. stored o d z w c r x i j) e.1

module _ {N : Type 0} (D : Ops N) (law : Lawful D) (keeps : KeepsSingles D) (p : Program) (ord : Side → Order)
    (fit : blocks_fit p.types p.blocks ≡ true) (k : Known N) (m n : Memories) (kept : IsKeptOne D p ord k m)
    (w : Scalar) (fa fv : Side → Found) (to v : Given N) where
  abbrev bs : Blocks
  bs = any_block

  inside : (s : Side) → AreInside any_block (spots D (sizes_of p.blocks) (size_of k.model w) (size_of k.model w)
      (targets_of D (sizes_of p.blocks) (pointer_of D (on to.pair s))))
  inside s =
      all_inside (spots D (sizes_of p.blocks) (size_of k.model w) (size_of k.model w)
      (targets_of D (sizes_of p.blocks) (pointer_of D (on to.pair s))))

  abbrev known : IsKnown D k m
  known = record { cells = kept.kept.state.cells; holds = kept.kept.holds }

  abbrev Ready : Mode → Type 0
  Ready mode = Operands D bs (cell_laws D law) p ord (sizes_of p.blocks) (small p fit) w k m known
      (size_positive k.model w) mode

  abbrev ready : (mode : Mode) → AreToPut D p ord mode k m w fa fv to v → ArePut p ord mode w fa fv m n → Ready mode
  ready mode h a = record {
    fa = fa;
    fv = fv;
    to = to;
    v = v;
    ha = h.address_holds;
    hv = h.value_holds;
    fits = h.fits;
    na = h.one_address.quiet;
    nv = h.one_value.quiet;
    quiet = none_wrong D law keeps p ord fit k m n kept w fa fv to v mode h a;
    inside = inside;
  }

  module _ (mode : Mode) (h : AreToPut D p ord mode k m w fa fv to v) (a : ArePut p ord mode w fa fv m n) where
    abbrev There : Side → Type 0
    There s = At D bs (cell_laws D law) p ord (sizes_of p.blocks) (small p fit) w k m known (size_positive k.model w)
        mode (ready mode h a) s

    abbrev there : (s : Side) → runs mode s ≡ true → There s
    there s r = at D bs (cell_laws D law) p ord (sizes_of p.blocks) (small p fit) w k m known (size_positive k.model w)
        mode (ready mode h a) s r

    abbrev Stands : (s : Side) → There s → Type 0
    Stands s t = With D bs (cell_laws D law) p ord (sizes_of p.blocks) (small p fit) w k m known
        (size_positive k.model w) mode (ready mode h a) s t n

    stands_left : (r : runs mode left ≡ true) → Stands left (there left r)
    stands_left r c i =
        let t = a.puts left r in
        let s = (there left r).stored in
        stored_so D law keeps p ord fit k m n kept w fa fv to v left m.left n.left t.block t.offset t.datum c i
        (t.after c i)
        ∙ same_stored k.orders.0 k.model m.left w t.block t.offset s.block s.offset t.datum s.datum
        (same_parts t.block t.offset s.block s.offset t.datum s.datum (fa left) (fv left) t.at s.address t.is s.value)
        c i

    stands_right : (r : runs mode right ≡ true) → Stands right (there right r)
    stands_right r c i =
        let t = a.puts right r in
        let s = (there right r).stored in
        stored_so D law keeps p ord fit k m n kept w fa fv to v right m.right n.right t.block t.offset t.datum c i
        (t.after c i)
        ∙ same_stored k.orders.1 k.model m.right w t.block t.offset s.block s.offset t.datum s.datum
        (same_parts t.block t.offset s.block s.offset t.datum s.datum (fa right) (fv right) t.at s.address t.is s.value)
        c i

  -- orders and data model stay
  put_goes : (mode : Mode) → AreToPut D p ord mode k m w fa fv to v → ArePut p ord mode w fa fv m n
      → Goes D bs (underway k (item_of D v.pair))
      (write D mode (is_same D to.pair) w (places_of D (sizes_of p.blocks) (size_of k.model w) (size_of k.model w)
      to.pair) (underway k (item_of D v.pair))) m n
  put_goes Both h a =
      assigned_goes D bs (cell_laws D law) p ord (sizes_of p.blocks) (small p fit) w k m known (size_positive k.model w)
      Both (ready Both h a) n (stands_left Both h a refl, stands_right Both h a refl)
  put_goes Left h a =
      assigned_goes D bs (cell_laws D law) p ord (sizes_of p.blocks) (small p fit) w k m known (size_positive k.model w)
      Left (ready Left h a) n (stands_left Left h a refl, a.still right refl)
  put_goes Right h a =
      assigned_goes D bs (cell_laws D law) p ord (sizes_of p.blocks) (small p fit) w k m known (size_positive k.model w)
      Right (ready Right h a) n (stands_right Right h a refl, a.still left refl)

  pub state_put : (mode : Mode) (h : AreToPut D p ord mode k m w fa fv to v) (a : ArePut p ord mode w fa fv m n)
      → IsState D p ord (after_put D law keeps p ord fit k m n kept w fa fv to v mode h a)
  state_put mode h a =
      let g = put_goes mode h a in
      record {
        orders = g.change.orders ∙ kept.kept.state.orders;
        model = g.change.model ∙ kept.kept.state.model;
        cells = g.change.after.cells;
      }

-- ---- the law

pub puts_keep_one : {N : Type 0} (D : Ops N) → Lawful D → KeepsSingles D → (p : Program) (ord : Side → Order)
    → blocks_fit p.types p.blocks ≡ true → (k : Known N) (m n : Memories) → IsKeptOne D p ord k m → (mode : Mode)
    (w : Scalar) (fa fv : Side → Found) (to v : Given N) → AreToPut D p ord mode k m w fa fv to v
    → ArePut p ord mode w fa fv m n
    → IsStepTo D p ord n (assigned D (sizes_of p.blocks) mode w to.pair v.pair k)
puts_keep_one {N = N} D law keeps p ord fit k m n kept mode w fa fv to v h a = record {
  quiet = none_wrong D law keeps p ord fit k m n kept w fa fv to v mode h a;
  next = subst (λ (o : Option (Known N)). IsThere (λ j. IsState D p ord j × IsOne D j n) o)
      (sym (next_put D law keeps p ord fit k m n kept w fa fv to v mode h a)) (
        state_put D law keeps p ord fit k m n kept w fa fv to v mode h a,
        one_after D law keeps p ord fit k m n kept w fa fv to v mode h a,
      );
}
