-- Statements that copy: without a fault each running machine copies, and what is known after it stands for the machines
-- after it.
use Rattle.std.proofs.Common.{◌≡◌, ℕ, ◌+◌, ◌≤◌, Bool, true, false, ◌&&◌, nat_eq, nat_lt, if◌then◌else◌, [], ◌++◌}
use Rattle.std.proofs.Common.{slice_get, Some, None, is_some, refl, sym, ap, ◌∙◌, subst}
use Rattle.std.proofs.lemmas.Bool.{and_parts, le-ltb}
use Rattle.ep_int.specs.declared.types.Order.{Order}
use Rattle.ep_int.specs.declared.types.Scalar.TheVariants.{Pointer}
use Rattle.ep_int.specs.Memory.{bounds, overlap, Memory, pointer, Found, has}
use Rattle.ep_domain.specs.Domain.{Ops, Lawful}
use Rattle.ep_cells.specs.States.{Known}
use Rattle.ep_cells.specs.Meaning.{Memories, numbers_of}
use Rattle.ep_core.specs.Program.{Program}
use Rattle.ep_core.specs.Exec.{State, on, Outcome, leaves, remembers, given, at_place, copy_fault, copy_at, size_at}
use Rattle.ep_core.specs.Runs.{Side, left, right}
use Rattle.ep_core.specs.Typed.{MemoryFits, ByteFits}
use Rattle.ep_core.specs.WellFormed.{blocks_fit}
use Rattle.ep_pass.specs.Laws.{ConcretisesStates, Meets, meet, MeetsAlone, meet_alone}
use Rattle.ep_equalities.specs.declared.pair.Mode.{Mode}
use Rattle.ep_equalities.specs.declared.pair.Mode.TheVariants.{Both, Left, Right}
use Rattle.ep_equalities.specs.Same.{is_same}
use Rattle.ep_equalities.proofs.Equal.{same_values}
use Rattle.ep_evaluation.specs.Given.{Given, alone, runs}
use Rattle.ep_evaluation.specs.Given.{on as on_side}
use Rattle.ep_evaluation.specs.Accesses.{spots}
use Rattle.ep_evaluation.specs.Evaluation.{targets_of}
use Rattle.ep_evaluation.specs.Evaluation.{pointer as pointer_of}
use Rattle.ep_evaluation.specs.Laws.{Machine, memory_of, sizes_of, IsState, IsKept}
use Rattle.ep_evaluation.proofs.General.{none_left, reliable_none}
use Rattle.ep_cell_ranges.specs.Spots.{Spot}
use Rattle.ep_transfers.specs.Places.{Places, at_side, places_of, range_faults}
use Rattle.ep_transfers.specs.Copies.{Leaves, copied, can_copy, some_apart, overlap_faults}
use Rattle.ep_transfers.specs.Transfers.{if_goes_on, copy}
use Rattle.ep_transfers.specs.Laws.{memories, StandsFor}
use Rattle.ep_transfers.proofs.Changes.{IsOne, IsKnown}
use Rattle.ep_transfers.proofs.Puts.{memory_on}
use Rattle.ep_transfers.proofs.Rooms.{small, EndBy, spots_end}
use Rattle.ep_transfers.proofs.Assigned.{on_all_by}
use Rattle.ep_transfers.proofs.Evaluated.{pair_of, Alike, stands_beside, state_after, Evaluated, block_sized}
use Rattle.ep_transfers.proofs.Copied.{copied_memory, AreBelow, IsNext}
use Rattle.ep_transfers.proofs.Located.{AreFree, side_located, side_free, any_apart}
use Rattle.ep_transfers.proofs.Moved.{LeavesFit, CopyLaws, Copying, ManyNext, TogetherNext, copied_next}

fault_by : (x y z : Bool) → x ≡ false → y ≡ false → z ≡ false
    → (if x then Some bounds else if y then Some bounds else if z then Some overlap else None) ≡ None
fault_by true y z e f g = absurd (cc)
fault_by false true z e f g = absurd (cc)
fault_by false false true e f g = absurd (cc)
fault_by false false false e f g = refl

pointers_alike : (q r : Spot) → pointer q.0 q.1 ≡ pointer r.0 r.1 → q ≡ r
pointers_alike q r e =
    let f : q.0 ≡ r.0 = cc in
    let g : q.1 ≡ r.1 = cc in
    ap (λ (x : ℕ). (x, q.1)) f ∙ ap (λ (x : ℕ). (r.0, x)) g

module _ {N : Type 0} (D : Ops N) (law : Lawful D) (rules : CopyLaws D) (p : Program) (ord : Side → Order)
    (fit : blocks_fit p.types p.blocks ≡ true) (ls : Leaves) (n : ℕ) (lie : LeavesFit ls n p.types.model) where
  abbrev agg : Bool
  agg = is_some ls

  abbrev same_spot : Spot → Spot → Bool
  same_spot q r = agg && (nat_eq q.0 r.0 && nat_eq q.1 r.1)

  -- what a machine does with two addresses
  abbrev pub copies : Order → (l k : ℕ) → State → (fa fv : Found) → Outcome
  copies o l k s fa fv =
      given fa l s
      (λ w. given fv l s
      (λ v. at_place w l s
      (λ b q. at_place v l s (λ c r. copy_at o p b q c r n (is_some ls && (nat_eq b c && nat_eq q r)) l k s))))

  copies_to : (o : Order) (l k : ℕ) (s : State) (fa fv : Found) (q r : Spot) → fa ≡ has (pointer q.0 q.1)
      → fv ≡ has (pointer r.0 r.1) → copy_fault o p q.0 q.1 r.0 r.1 n (same_spot q r) ≡ None
      → copies o l k s fa fv ≡ leaves on k (remembers (copied_memory p.types.model agg q r n s.memory) s)
  copies_to o l k s fa fv q r ea ev ef = rw (ea, ev, ef) refl

  sized : (o : Order) (b size q : ℕ) → slice_get (sizes_of p.blocks) b ≡ Some size → q + n ≤ size
      → nat_lt (size_at o p b) (q + n) ≡ false
  sized o b size q h i =
      subst (λ t. nat_lt t (q + n) ≡ false) (sym (block_sized D p ord p.blocks o b size h)) (le-ltb size (q + n) i)

  module _ (k : Known N) (m : Memories) (kept : IsKept D p ord k m) (mode : Mode) (f g : Side → Machine)
      (to from : Given N) (a : Evaluated D p ord mode k m Pointer f to)
      (b : Evaluated D p ord mode k m Pointer g from) (na : to.faults ≡ []) (nb : from.faults ≡ [])
      (quiet : (copy D (sizes_of p.blocks) mode n ls to.pair from.pair k).faults ≡ []) where
    abbrev targets : Places
    targets = places_of D (sizes_of p.blocks) n 1 to.pair

    abbrev sources : Places
    sources = places_of D (sizes_of p.blocks) n 1 from.pair

    target_spots : (s : Side)
        → at_side targets s ≡ spots D (sizes_of p.blocks) n 1
        (targets_of D (sizes_of p.blocks) (pointer_of D (on_side to.pair s)))
    target_spots left = refl
    target_spots right = refl

    source_spots : (s : Side)
        → at_side sources s ≡ spots D (sizes_of p.blocks) n 1
        (targets_of D (sizes_of p.blocks) (pointer_of D (on_side from.pair s)))
    source_spots left = refl
    source_spots right = refl

    -- a running machine copies from a place to a place
    pub record At (s : Side) : Type 0 where
      pub target : Spot
      pub origin : Spot
      pub address : f s (memory_of s m) ≡ has (pointer target.0 target.1)
      pub source : g s (memory_of s m) ≡ has (pointer origin.0 origin.1)
      pub free : AreFree agg n target origin
      pub faultless : (o : Order)
          → copy_fault o p target.0 target.1 origin.0 origin.1 n (same_spot target origin) ≡ None
      pub among_to : IsOne target (at_side targets s)
      pub among_from : IsOne origin (at_side sources s)
      pub rooms : EndBy 65536 n (at_side targets s)
      pub from_rooms : EndBy 65536 n (at_side sources s)

    pub at : (s : Side) → runs mode s ≡ true → At s
    at s r =
        let sizes = sizes_of p.blocks in
        let e = none_left (range_faults D sizes mode n to.pair)
        (range_faults D sizes mode n from.pair ++ overlap_faults D sizes mode agg n to.pair from.pair) quiet in
        let i = none_left (range_faults D sizes mode n from.pair)
        (overlap_faults D sizes mode agg n to.pair from.pair) e.1 in
        let d = a.holds.found na s r in
        let c = b.holds.found nb s r in
        let t = side_located D law sizes n mode to.pair e.0 s r d.0
        (a.holds.held (reliable_none mode to.faults na) s r d.0 d.1).value in
        let u = side_located D law sizes n mode from.pair i.0 s r c.0
        (b.holds.held (reliable_none mode from.faults nb) s r c.0 c.1).value in
        let free = side_free D law sizes n agg mode to.pair from.pair i.1 s r d.0 c.0 t u in
        record {
          target = t.place;
          origin = u.place;
          address = d.1 ∙ ap has t.is;
          source = c.1 ∙ ap has u.is;
          free = free;
          faultless = λ o. fault_by _ _ _ (sized o t.place.0 t.size t.place.1 t.size_is t.inside)
              (sized o u.place.0 u.size u.place.1 u.size_is u.inside) free;
          among_to = subst (λ qs. IsOne t.place qs) (sym (target_spots s)) t.among;
          among_from = subst (λ qs. IsOne u.place qs) (sym (source_spots s)) u.among;
          rooms = subst (λ qs. EndBy 65536 n qs) (sym (target_spots s))
              (spots_end D sizes 65536 (small p fit) n 1 (targets_of D sizes (pointer_of D (on_side to.pair s))));
          from_rooms = subst (λ qs. EndBy 65536 n qs) (sym (source_spots s))
              (spots_end D sizes 65536 (small p fit) n 1 (targets_of D sizes (pointer_of D (on_side from.pair s))));
        }

    goes_on : can_copy D mode agg n targets sources ≡ true
    goes_on =
        on_all_by mode (λ s. some_apart D agg n (at_side targets s) (at_side sources s))
        (λ s r.
        let h = at s r in
        any_apart D law (sizes_of p.blocks) n agg h.target h.origin (at_side targets s) (at_side sources s) h.among_to
        h.among_from h.free)

    abbrev pub joint : Bool
    joint = is_same D to.pair && is_same D from.pair

    abbrev pub after : Known N
    after = copied D mode joint ls targets sources n k

    pub next_is : (copy D (sizes_of p.blocks) mode n ls to.pair from.pair k).next ≡ Some after
    next_is = ap (λ t. if_goes_on t after) goes_on

    abbrev known : IsKnown D k m
    known = record { cells = kept.state.cells; holds = kept.holds }

    below_by : (s : Side) → MemoryFits p (memory_of s m) → AreBelow (memory_of s m)
    below_by s h c j v e = subst (ByteFits p) e (h c j)

    below_on : (s : Side) → AreBelow (memory_on s m)
    below_on left = below_by left (kept.fits left)
    below_on right = below_by right (kept.fits right)

    -- the memory of a machine after it
    abbrev pub Copies : (s : Side) → At s → Memory → Type 0
    Copies s h z = (c j : ℕ) → z c j ≡ copied_memory p.types.model agg h.target h.origin n (memory_on s m) c j

    copying : (s : Side) (h : At s) (o : Memories) → Copies s h (memory_on s o)
        → Copying D rules ls n s targets sources k m o
    copying s h o e = record {
      to = h.target;
      from = h.origin;
      among_to = h.among_to;
      among_from = h.among_from;
      rooms = h.rooms;
      from_rooms = h.from_rooms;
      below = below_on s;
      copy = λ c j. e c j ∙ ap (λ d. copied_memory d agg h.target h.origin n (memory_on s m) c j)
          (sym kept.state.model);
      leaves = subst (λ d. LeavesFit ls n d) (sym kept.state.model) lie;
    }

    -- the state after it
    goes_state : (o : Memories) → IsNext D k after m o → IsState D p ord after
    goes_state o h = state_after D p ord k after m o kept.state kept.state.orders h.orders h.model h.after.cells

  module _ (many : ManyNext D rules ls n) (together : TogetherNext D rules ls n) (k : Known N) (f g : Side → Machine)
      (to from : Given N) (na : to.faults ≡ []) (nb : from.faults ≡ []) (x y : State) where
    pub copies_meet : ConcretisesStates p (StandsFor D p ord) k x y → IsKept D p ord k (memories x.memory y.memory)
        → Evaluated D p ord Both k (memories x.memory y.memory) Pointer f to
        → Evaluated D p ord Both k (memories x.memory y.memory) Pointer g from
        → (copy D (sizes_of p.blocks) Both n ls to.pair from.pair k).faults ≡ [] → (l i j : ℕ)
        → Meets p (StandsFor D p ord) on (copy D (sizes_of p.blocks) Both n ls to.pair from.pair k).next i j
        (copies (ord left) l i x (f left x.memory) (g left x.memory))
        (copies (ord right) l j y (f right y.memory) (g right y.memory))
    unfolding copying at
    copies_meet stands kept a b q l i j =
        let m = memories x.memory y.memory in
        let u = at k m kept Both f g to from a b na nb q left refl in
        let v = at k m kept Both f g to from a b na nb q right refl in
        let o : Memories = memories (copied_memory p.types.model agg u.target u.origin n x.memory)
        (copied_memory p.types.model agg v.target v.origin n y.memory) in
        let next : IsNext D k (after k m kept Both f g to from a b na nb q) m o =
        copied_next D rules ls n many together Both (joint k m kept Both f g to from a b na nb q)
        (targets k m kept Both f g to from a b na nb q) (sources k m kept Both f g to from a b na nb q) k m o
        (known k m kept Both f g to from a b na nb q) (
          copying k m kept Both f g to from a b na nb q left u o (λ c j. refl),
          copying k m kept Both f g to from a b na nb q right v o (λ c j. refl),
          λ e.
              let h = and_parts (is_same D to.pair) (is_same D from.pair) e in (
                pointers_alike u.target v.target
                    (same_values D law to.pair h.0 (numbers_of k.orders m) Pointer _ _
                    (record {
                      left = λ z. a.holds.held (reliable_none Both to.faults na) left refl _ u.address;
                      right = λ z. a.holds.held (reliable_none Both to.faults na) right refl _ v.address;
                      equal = λ z h. a.holds.same refl na h _ _ u.address v.address;
                    })),
                pointers_alike u.origin v.origin
                    (same_values D law from.pair h.1 (numbers_of k.orders m) Pointer _ _
                    (record {
                      left = λ z. b.holds.held (reliable_none Both from.faults nb) left refl _ u.source;
                      right = λ z. b.holds.held (reliable_none Both from.faults nb) right refl _ v.source;
                      equal = λ z h. b.holds.same refl nb h _ _ u.source v.source;
                    })),
              ),
        ) in
        subst (λ z. Meets p (StandsFor D p ord) on z i j (copies (ord left) l i x (f left x.memory) (g left x.memory))
        (copies (ord right) l j y (f right y.memory) (g right y.memory)))
        (sym (next_is k m kept Both f g to from a b na nb q))
        (rw (
          copies_to (ord left) l i x (f left x.memory) (g left x.memory) u.target u.origin u.address u.source
              (u.faultless (ord left)),
          copies_to (ord right) l j y (f right y.memory) (g right y.memory) v.target v.origin v.address v.source
              (v.faultless (ord right)),
        )
        (meet (record {
          memories = record {
            state = goes_state k m kept Both f g to from a b na nb q o next;
            holds = next.after.holds;
          };
          inputs = stands.inputs;
          outputs = stands.outputs;
        })))

    alone_by : (s : Side) → Alike D p ord x y → (kept : IsKept D p ord k (pair_of s x.memory y.memory))
        → (a : Evaluated D p ord (alone s) k (pair_of s x.memory y.memory) Pointer f to)
        → (b : Evaluated D p ord (alone s) k (pair_of s x.memory y.memory) Pointer g from)
        → (q : (copy D (sizes_of p.blocks) (alone s) n ls to.pair from.pair k).faults ≡ []) → (l i : ℕ) (r : runs
        (alone s) s ≡ true)
        → MeetsAlone p (StandsFor D p ord) s on
        (Some (after k (pair_of s x.memory y.memory) kept (alone s) f g to from a b na nb q)) i y
        (copies (ord s) l i x (f s (memory_of s (pair_of s x.memory y.memory)))
        (g s (memory_of s (pair_of s x.memory y.memory))))
    alone_by left alike kept a b q l i r =
        let m = memories x.memory y.memory in
        let u = at k m kept Left f g to from a b na nb q left r in
        let o : Memories = memories (copied_memory p.types.model agg u.target u.origin n x.memory) y.memory in
        let next : IsNext D k (after k m kept Left f g to from a b na nb q) m o =
        copied_next D rules ls n many together Left (joint k m kept Left f g to from a b na nb q)
        (targets k m kept Left f g to from a b na nb q) (sources k m kept Left f g to from a b na nb q) k m o
        (known k m kept Left f g to from a b na nb q)
        (copying k m kept Left f g to from a b na nb q left u o (λ c j. refl), λ c j. refl) in
        rw (copies_to (ord left) l i x (f left x.memory) (g left x.memory) u.target u.origin u.address u.source
        (u.faultless (ord left)))
        (meet_alone (stands_beside D p ord left (after k m kept Left f g to from a b na nb q)
        (remembers o.left x) y (record { inputs = alike.inputs; outputs = alike.outputs })
        (goes_state k m kept Left f g to from a b na nb q o next) next.after.holds))
    alone_by right alike kept a b q l i r =
        let m = memories y.memory x.memory in
        let u = at k m kept Right f g to from a b na nb q right r in
        let o : Memories = memories y.memory (copied_memory p.types.model agg u.target u.origin n x.memory) in
        let next : IsNext D k (after k m kept Right f g to from a b na nb q) m o =
        copied_next D rules ls n many together Right (joint k m kept Right f g to from a b na nb q)
        (targets k m kept Right f g to from a b na nb q) (sources k m kept Right f g to from a b na nb q) k m o
        (known k m kept Right f g to from a b na nb q)
        (copying k m kept Right f g to from a b na nb q right u o (λ c j. refl), λ c j. refl) in
        rw (copies_to (ord right) l i x (f right x.memory) (g right x.memory) u.target u.origin u.address u.source
        (u.faultless (ord right)))
        (meet_alone (stands_beside D p ord right (after k m kept Right f g to from a b na nb q)
        (remembers o.right x) y (record { inputs = alike.inputs; outputs = alike.outputs })
        (goes_state k m kept Right f g to from a b na nb q o next) next.after.holds))

    runs_so : (s : Side) → runs (alone s) s ≡ true
    runs_so left = refl
    runs_so right = refl

    own : (s : Side) (h : Side → Machine) → h s (memory_of s (pair_of s x.memory y.memory)) ≡ h s x.memory
    own left h = refl
    own right h = refl

    pub copies_alone : (s : Side) → Alike D p ord x y → IsKept D p ord k (pair_of s x.memory y.memory)
        → Evaluated D p ord (alone s) k (pair_of s x.memory y.memory) Pointer f to
        → Evaluated D p ord (alone s) k (pair_of s x.memory y.memory) Pointer g from
        → (copy D (sizes_of p.blocks) (alone s) n ls to.pair from.pair k).faults ≡ [] → (l i : ℕ)
        → MeetsAlone p (StandsFor D p ord) s on (copy D (sizes_of p.blocks) (alone s) n ls to.pair from.pair k).next i y
        (copies (ord s) l i x (f s x.memory) (g s x.memory))
    copies_alone s alike kept a b q l i =
        let m = pair_of s x.memory y.memory in
        subst (λ z. MeetsAlone p (StandsFor D p ord) s on z i y (copies (ord s) l i x (f s x.memory) (g s x.memory)))
        (sym (next_is k m kept (alone s) f g to from a b na nb q))
        (subst (λ c. MeetsAlone p (StandsFor D p ord) s on (Some (after k m kept (alone s) f g to from a b na nb q)) i y
        (copies (ord s) l i x c (g s x.memory))) (own s f)
        (subst (λ c. MeetsAlone p (StandsFor D p ord) s on (Some (after k m kept (alone s) f g to from a b na nb q)) i y
        (copies (ord s) l i x (f s (memory_of s m)) c)) (own s g)
        (alone_by s alike kept a b q l i (runs_so s))))
