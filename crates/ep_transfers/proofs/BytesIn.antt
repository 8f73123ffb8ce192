-- Bytes that are taken in: both machines take the same inputs in turn, and each goes to the next byte of a place.
use Rattle.std.proofs.Common.{◌≡◌, ℕ, zero, suc, ◌+◌, ◌%◌, ◌<◌, ◌≤◌, pos, Bool, true, false, ◌&&◌, List, [], ◌∷◌}
use Rattle.ep_int.proofs.Basics.{plus-zero}
use Rattle.ep_reads.proofs.ByteCells.{byte_in_range}
use Rattle.ep_transfers.proofs.Filled.{all_bytes}
use Rattle.std.proofs.Common.{Option, Some, None, refl, sym, ap, ◌∙◌, subst, arith}
use Rattle.std.proofs.lemmas.Bool.{and_parts}
use Rattle.std.proofs.lemmas.Nat.{mod_below}
use Rattle.ep_int.specs.declared.types.IntType.TheVariants.{U8}
use Rattle.ep_int.specs.declared.types.Model.{Model}
use Rattle.ep_int.specs.declared.types.Order.{Order}
use Rattle.ep_int.specs.declared.types.Scalar.{Scalar}
use Rattle.ep_int.specs.declared.types.Scalar.TheVariants.{Int, Pointer}
use Rattle.ep_int.specs.Memory.{number, Memory, int, pointer, has, filled, range_fault}
use Rattle.ep_int.proofs.Wrapping.{wrapped_same}
use Rattle.ep_int.proofs.Memories.{replaced_covered}
use Rattle.ep_domain.specs.Domain.{Ops, Holds}
use Rattle.ep_cells.specs.States.{Known}
use Rattle.ep_cells.specs.Meaning.{Memories, Allows}
use Rattle.ep_core.specs.Program.{Expr, read_bytes, Program}
use Rattle.ep_core.specs.Exec.{State, on, uncounted, value, does, remembers, into, bytewise, bytewise_rest, size_at}
use Rattle.ep_core.specs.Runs.{Side, left, right}
use Rattle.ep_core.specs.WellFormed.{is_length, is_address, has_sort, pointer_to, blocks_fit}
use Rattle.ep_core.proofs.Sorts.{pointer_where}
use Rattle.ep_pass.specs.Laws.{ConcretisesStates, ConcretisesTyped, Meets, meet, meet_starved}
use Rattle.ep_equalities.specs.declared.pair.Mode.TheVariants.{Both, Left, Right}
use Rattle.ep_evaluation.specs.Given.{alone}
use Rattle.ep_evaluation.specs.Given.{on as on_side}
use Rattle.ep_evaluation.specs.Evaluation.{expression}
use Rattle.ep_equalities.specs.Same.{is_same}
use Rattle.ep_evaluation.specs.Laws.{Machine, sizes_of, ExpressionsHold, PlacesHold}
use Rattle.ep_evaluation.proofs.General.{none_left}
use Rattle.ep_transfers.specs.Places.{Places, moved_places, has_places}
use Rattle.ep_transfers.specs.Writes.{Item, Underway, underway, maybe_on, lacks, item_of, value_of_same, write}
use Rattle.ep_transfers.specs.Writes.{write_run}
use Rattle.ep_transfers.specs.Transfers.{alone_faults, if_goes_on, input_pair, simple_step}
use Rattle.ep_transfers.specs.Laws.{memories, StandsFor, CellLaws}
use Rattle.ep_transfers.proofs.Changes.{IsSide}
use Rattle.ep_transfers.proofs.Evaluated.{kept_both, goes_state}
use Rattle.ep_transfers.proofs.Stored.{expr_is}
use Rattle.ep_transfers.proofs.RunPlaces.{rest_is, no_range_fault, at_run_is, run_places, at, has_all}
use Rattle.ep_transfers.proofs.RunSpots.{both_spotted}
use Rattle.ep_transfers.proofs.Basics.{room_for_one, fewer}
use Rattle.ep_transfers.proofs.Filled.{byte_encoded}
use Rattle.ep_transfers.proofs.RunSteps.{IsAt, Waits, waits_after, step_goes, RunSpotted, moved_at, spotted_at}
use Rattle.ep_transfers.proofs.RunSteps.{all_blocks, spot_on, both_have, any_bytes}
use Rattle.ep_transfers.proofs.Sides.{same_allowed}
use Rattle.ep_transfers.proofs.Assigned.{sure_allowed}

-- ---- a byte that is a number

small : (z : ℕ) → z < 256 → z % 256 ≡ z
small z h = omega (arith, h)

-- a memory with a number in a byte has it there
pub byte_at : (o : Order) (d : Model) (m : Memory) (b q z : ℕ) → z < 256
    → IsAt o d (Int U8) (b, q) (Some (int (pos z))) m (filled d m b q 1 z)
byte_at o d m b q z h = record {
  beside = λ c j e. rw e refl;
  bytes = any_bytes o (filled d m b q 1 z) (Int U8) b q 1 (int (pos z))
      (λ p l. replaced_covered d m b q 1 (λ k. number z) p l
      ∙ ap number (sym (byte_encoded o (pos z) p l ∙ small z h)));
}

-- ---- the inputs

next_place : (h q i : ℕ) → h ≡ q + i → h + 1 ≡ q + (i + 1)
next_place h q i e = omega (arith, e)

module _ {N : Type 0} (D : Ops N) (laws : CellLaws D) (p : Program) (ord : Side → Order) where
  abbrev In' : Known N → Memory → Memory → Type 0
  In' = StandsFor D p ord

  -- any byte may be written
  abbrev AnyWaits : Bool → Underway N → Memories → Type 0
  AnyWaits to u m = (z : ℕ) → z < 256 → Waits D Both to (Int U8) u m (both_have (int (pos z)))

  module _ (places : Places) (to : Bool) (n b q c r : ℕ)
      (sp : RunSpotted Both to n places (spot_on (b, q) (c, r))) where
    inputs_go : (count i : ℕ) → i + count ≤ n → (u : Underway N) (x y : State) → ConcretisesStates p In' u.known x y
        → AnyWaits to u (memories x.memory y.memory) → (h g : ℕ) → h ≡ q + i → g ≡ r + i → (a d : ℕ)
        → Meets p In' on (Some (write_run D Both to (Int U8) places i count u).known) a d
        (bytewise uncounted (into (ord left) p b) count h a x) (bytewise uncounted (into (ord right) p c) count g d y)
    inputs_go zero i l u x y stands wait h g eh eg a d = meet stands
    inputs_go (suc count) i l u x y stands wait h g eh eg a d =
        by_inputs x.inputs y.inputs refl refl stands.inputs
        (λ v xs ys same.
        let m = memories x.memory y.memory in
        let z = v % 256 in
        let low : z < 256 = mod_below v 256 (omega arith) in
        let model = p.types.model in
        let x1 : State = remembers (filled model x.memory b h 1 z) (record x { inputs = xs; used = x.used + 1 }) in
        let y1 : State = remembers (filled model y.memory c g 1 z) (record y { inputs = ys; used = y.used + 1 }) in
        let m1 = memories x1.memory y1.memory in
        let u1 = write D Both to (Int U8) (moved_places i places) u in
        let state = stands.memories.state in
        let at_left = subst (λ (t : ℕ). IsAt (ord left) model (Int U8) (b, t) (Some (int (pos z))) m.left m1.left) eh
        (byte_at (ord left) model x.memory b h z low) in
        let at_right = subst (λ (t : ℕ). IsAt (ord right) model (Int U8) (c, t) (Some (int (pos z))) m.right m1.right)
        eg (byte_at (ord right) model y.memory c g z low) in
        let goes = step_goes D laws to (ord left, ord right) model (Int U8) (moved_places i places)
        (moved_at i (spot_on (b, q) (c, r))) (both_have (int (pos z))) u m m1
        (record { cells = state.cells; holds = stands.memories.holds }) state.orders state.model Both (wait z low)
        (spotted_at Both to n places (spot_on (b, q) (c, r)) sp model (Int U8) i (room_for_one i count n l))
        (at_left, at_right) in
        inputs_go count (i + 1) (fewer i count n l) u1 x1 y1
        (record {
          memories = record {
            state = goes_state D p ord all_blocks u u1 m m1 state goes;
            holds = goes.change.after.holds;
          };
          inputs = same;
          outputs = stands.outputs;
        })
        (λ z l. waits_after D all_blocks Both to (Int U8) u u1 m m1 (both_have (int (pos z))) goes (wait z l)) (h + 1)
        (g + 1) (next_place h q i eh) (next_place g r i eg) a d)
      where
        by_inputs : (xs ys : List ℕ) → x.inputs ≡ xs → y.inputs ≡ ys → x.inputs ≡ y.inputs
            → ((v : ℕ) (xs ys : List ℕ) → xs ≡ ys
            → Meets p In' on (Some (write_run D Both to (Int U8) places i (suc count) u).known) a d
            (bytewise uncounted (into (ord left) p b) count (h + 1) a
            (remembers (filled p.types.model x.memory b h 1 (v % 256)) (record x { inputs = xs; used = x.used + 1 })))
            (bytewise uncounted (into (ord right) p c) count (g + 1) d
            (remembers (filled p.types.model y.memory c g 1 (v % 256)) (record y { inputs = ys; used = y.used + 1 }))))
            → Meets p In' on (Some (write_run D Both to (Int U8) places i (suc count) u).known) a d
            (bytewise uncounted (into (ord left) p b) (suc count) h a x)
            (bytewise uncounted (into (ord right) p c) (suc count) g d y)
        by_inputs [] [] e f j go = rw (e, f) (meet_starved stands.outputs)
        by_inputs [] (v ∷ ys) e f j go = absurd (let z : [] ≡ v ∷ ys = sym e ∙ j ∙ f in cc)
        by_inputs (v ∷ xs) [] e f j go = absurd (let z : v ∷ xs ≡ [] = sym e ∙ j ∙ f in cc)
        by_inputs (v ∷ xs) (w ∷ ys) e f j go =
            let z : v ∷ xs ≡ w ∷ ys = sym e ∙ j ∙ f in
            let same : v ≡ w = cc in
            let rest : xs ≡ ys = cc in
            rw (e, f) (subst (λ t. Meets p In' on (Some (write_run D Both to (Int U8) places i (suc count) u).known) a d
            (bytewise uncounted (into (ord left) p b) count (h + 1) a
            (remembers (filled p.types.model x.memory b h 1 (v % 256)) (record x { inputs = xs; used = x.used + 1 })))
            (bytewise uncounted (into (ord right) p c) count (g + 1) d
            (remembers (filled p.types.model y.memory c g 1 (t % 256)) (record y { inputs = ys; used = y.used + 1 }))))
            same (go v xs ys rest))

  -- ---- what waits at first

  input_side : (k : Known N) (m : Memories) (z : ℕ) → z < 256 → (s : Side)
      → IsSide D k m (Int U8) (on_side (input_pair D Both U8 (Int U8)) s) false (Some (int (pos z)))
  input_side k m z l left = record {
    sort = tt;
    rising = tt;
    form = tt;
    allowed = (byte_in_range z l, input_holds z l);
    says = λ t e f. tt;
  }
    where
      input_holds : (z : ℕ) → z < 256 → Holds D (D.convert (D.top U8) U8) (pos z)
      input_holds z l =
          subst (λ t. Holds D (D.convert (D.top U8) U8) t) (wrapped_same U8 (pos z) (byte_in_range z l))
          (laws.domain.convert_holds (D.top U8) U8 (pos z) (laws.domain.top_holds U8 (pos z) (byte_in_range z l)))
  input_side k m z l right = record {
    sort = tt;
    rising = tt;
    form = tt;
    allowed = (byte_in_range z l, input_holds z l);
    says = λ t e f. tt;
  }
    where
      input_holds : (z : ℕ) → z < 256 → Holds D (D.convert (D.top U8) U8) (pos z)
      input_holds z l =
          subst (λ t. Holds D (D.convert (D.top U8) U8) t) (wrapped_same U8 (pos z) (byte_in_range z l))
          (laws.domain.convert_holds (D.top U8) U8 (pos z) (laws.domain.top_holds U8 (pos z) (byte_in_range z l)))

  abbrev first_item : Item N
  first_item = item_of D (input_pair D Both U8 (Int U8))

  any_waits : (to : Bool) (k : Known N) (m : Memories) → AnyWaits to (underway k first_item) m
  any_waits to k m z l = record {
    side = λ s r. sided s;
    both = λ e t. record { equal = refl; allowed = allowed; sure = λ g. refl };
  }
    where
      sided : (s : Side) → IsSide D k m (Int U8) (on_side first_item.pair s) (maybe_on first_item s)
          (Some (int (pos z)))
      sided left = input_side k m z l left
      sided right = input_side k m z l right

      allowed : Allows D (Int U8) (value_of_same D first_item.pair.left.value first_item.pair.right.value)
          (lacks false (value_of_same D first_item.pair.left.value first_item.pair.right.value)) (Some (int (pos z)))
      allowed =
          sure_allowed D (Int U8) (value_of_same D first_item.pair.left.value first_item.pair.right.value)
          (int (pos z))
          (same_allowed D laws.splits laws.more_splits laws.writes laws.domain (Int U8) first_item.pair.left.value
          first_item.pair.right.value (int (pos z)) (input_side k m z l left).allowed
          (input_side k m z l right).allowed)

-- ---- the statement

does_in : (o : Order) (p : Program) (r : Option (ℕ × Scalar)) (e : Expr) (n l a : ℕ) (s : State) (b q : ℕ)
    → value o p e s.memory ≡ has (pointer b q) → range_fault (size_at o p b) q n ≡ None
    → does o p uncounted r (read_bytes e n) l a s ≡ bytewise uncounted (into o p b) n q a s
does_in o p r e n l a s b q f g =
    at_run_is (value o p e s.memory) (size_at o p) l n b q s
    (λ b q. bytewise_rest uncounted (into o p b) n q a s) f g
    ∙ rest_is (into o p b) n q a s

module _ {N : Type 0} (D : Ops N) (laws : CellLaws D) (p : Program) (ord : Side → Order)
    (fit : blocks_fit p.types p.blocks ≡ true) (exprs : ExpressionsHold D p ord) (plcs : PlacesHold D p ord)
    (r : Option (ℕ × Scalar)) (e : Expr) (n : ℕ) where
  pub read_sound : (seen : List ℕ) → (is_length n && is_address p.types p.blocks seen e) ≡ true → (k : Known N)
      (x y : State) → ConcretisesTyped p (StandsFor D p ord) k x y → (simple_step D p Both r (read_bytes e n) k).faults ≡ []
      → (l a d : ℕ) → Meets p (StandsFor D p ord) on (simple_step D p Both r (read_bytes e n) k).next a d
      (does (ord left) p uncounted r (read_bytes e n) l a x) (does (ord right) p uncounted r (read_bytes e n) l d y)
  read_sound seen h k x y kept q l a d =
      let m = memories x.memory y.memory in
      let i = kept_both D p ord k x y kept in
      let ty = pointer_where p.types p.blocks seen (has_sort p.types p.blocks seen e) (and_parts (is_length n) _ h).1 in
      let v = (expression D (sizes_of p.blocks) e).gives Both k in
      let f : Side → Machine = λ s. value (ord s) p e in
      let ev = expr_is D laws p ord fit exprs plcs seen e (pointer_to ty.0) ty.1 Pointer refl k m i Both in
      let g = none_left v.faults _ q in
      let places = run_places D laws p ord fit k m n Both f v ev g.0 g.1 in
      let al = at D laws p ord fit k m n Both f v ev g.0 g.1 left refl in
      let ar = at D laws p ord fit k m n Both f v ev g.0 g.1 right refl in
      let to = is_same D v.pair in
      let u0 : Underway N = underway k (item_of D (input_pair D Both U8 (Int U8))) in
      let goes : if_goes_on (has_places Both places) (write_run D Both to (Int U8) places 0 n u0).known
      ≡ Some (write_run D Both to (Int U8) places 0 n u0).known
      = ap (λ t. if_goes_on t (write_run D Both to (Int U8) places 0 n u0).known)
      (has_all D laws p ord fit k m n Both f v ev g.0 g.1) in
      subst (λ (o : Option (Known N)). Meets p (StandsFor D p ord) on o a d
      (does (ord left) p uncounted r (read_bytes e n) l a x)
      (does (ord right) p uncounted r (read_bytes e n) l d y)) (sym goes)
      (rw (
        does_in (ord left) p r e n l a x al.block al.offset al.address
            (no_range_fault (size_at (ord left) p al.block) al.offset n al.inside),
        does_in (ord right) p r e n l d y ar.block ar.offset ar.address
            (no_range_fault (size_at (ord right) p ar.block) ar.offset n ar.inside),
      )
      (inputs_go D laws p ord places to n al.block al.offset ar.block ar.offset
      (both_spotted D laws p ord fit k m n f v ev g.0 g.1) n 0 (all_bytes n) u0 x y kept.stands
      (any_waits D laws p ord to k m) al.offset ar.offset (plus-zero al.offset) (plus-zero ar.offset) a d))

  pub read_alone : (i : Side) (k : Known N) → (simple_step D p (alone i) r (read_bytes e n) k).faults ≡ [] → ⊥
  read_alone left k q =
      let v = (expression D (sizes_of p.blocks) e).gives Left k in
      let g = (none_left v.faults _ q).1 in
      absurd (let h : alone_faults Left ≡ [] = (none_left (alone_faults Left) _ g).0 in cc)
  read_alone right k q =
      let v = (expression D (sizes_of p.blocks) e).gives Right k in
      let g = (none_left v.faults _ q).1 in
      absurd (let h : alone_faults Right ≡ [] = (none_left (alone_faults Right) _ g).0 in cc)
