-- Clears of objects that have bytes.
use Rattle.std.proofs.Common.{◌≡◌, ℕ, zero, suc, ◌+◌, ◌^◌, ◌<◌, ◌≤◌, Bool, true, false, List, Option}
use Rattle.std.proofs.Common.{None, is_some, refl, sym, ap, ◌∙◌, subst, arith}
use Rattle.std.proofs.lemmas.Bool.{and_parts}
use Rattle.ep_int.specs.declared.types.Order.{Order}
use Rattle.ep_int.specs.declared.types.Scalar.{Scalar}
use Rattle.ep_int.specs.declared.types.Scalar.TheVariants.{Pointer}
use Rattle.ep_int.specs.Memory.{Memory, pointer as into_block, Found, has, range_fault}
use Rattle.ep_layout.specs.declared.types.Leaf.{Leaf}
use Rattle.ep_layout.specs.Table as table
use Rattle.ep_layout.proofs.Ordered.{leaves_ordered}
use Rattle.ep_domain.specs.Domain.{Ops, Lawful}
use Rattle.ep_cells.specs.Kill.{AreLeavesIn}
use Rattle.ep_cells.specs.States.{Known}
use Rattle.ep_cells.specs.Meaning.{Memories}
use Rattle.ep_cell_ranges.specs.Spots.{Spot}
use Rattle.ep_core.specs.Program.{Place, clear, Program}
use Rattle.ep_core.specs.Exec.{State, on, leaves, remembers, uncounted, size_at, address, does, given, at_place, change}
use Rattle.ep_core.specs.Exec.{cleared as machine_clears}
use Rattle.ep_core.specs.Runs.{Side, left, right}
use Rattle.ep_core.specs.WellFormed.{place_has, blocks_fit}
use Rattle.ep_core.proofs.Operands.{sizes}
use Rattle.ep_equalities.specs.declared.pair.Mode.{Mode}
use Rattle.ep_equalities.specs.declared.pair.Mode.TheVariants.{Both, Left, Right}
use Rattle.ep_equalities.specs.Same.{is_same}
use Rattle.ep_evaluation.specs.Given.{Given, alone, runs}
use Rattle.ep_evaluation.specs.Evaluation.{place}
use Rattle.ep_evaluation.specs.Laws.{Machine, memory_of, sizes_of, ExpressionsHold, PlacesHold}
use Rattle.ep_evaluation.proofs.Gathered.{evaluation_laws}
use Rattle.ep_transfers.specs.Places.{Places}
use Rattle.ep_transfers.specs.Runs.{bytes_of}
use Rattle.ep_transfers.specs.Transfers.{if_goes_on, cleared_bytes, cleared_from, cleared, simple_step}
use Rattle.ep_transfers.specs.Laws.{memories}
use Rattle.ep_transfers.proofs.Bound.{changed}
use Rattle.ep_transfers.proofs.ClearGoes.{clear_of}
use Rattle.ep_transfers.proofs.Evaluated.{pair_of, Evaluated}
use Rattle.ep_transfers.proofs.Gathered.{cell_laws}
use Rattle.ep_transfers.proofs.Kills.{leaves_rise}
use Rattle.ep_transfers.proofs.RunSteps.{spot_on}
use Rattle.ep_transfers.proofs.Stored.{place_is as sound_place}
use Rattle.ep_closed_laws.specs.Exactly.{IsThere, IfLeft}
use Rattle.ep_singles.specs.Numbers.{KeepsSingles}
use Rattle.ep_single_states.specs.Laws.{ConcretisesOne}
use Rattle.ep_single_narrowed.specs.Laws.{IsKeptOne}
use Rattle.ep_single_given.specs.Laws.{IsOneGiven}
use Rattle.ep_single_runs.proofs.Steps.{if_more, both_by, if_given, if_place, if_unless, kept_one, kept_beside}
use Rattle.ep_single_runs.proofs.Steps.{StepIsExact, after_exact, exact_both, exact_beside}
use Rattle.ep_single_runs.proofs.Located.{in_range, IsRunAt, run_places, place_is, quiet, there}
use Rattle.ep_single_values.specs.Laws.{PlacesAreOne}
use Rattle.ep_single_values.specs.Statements.{StatementIsExact}
use Rattle.ep_single_assigned.proofs.Machines.{running_so, still_so}
use Rattle.ep_single_assigned.proofs.Puts.{same_found, one_place}
use Rattle.ep_single_clears.specs.Laws.{ClearsAreExact}
use Rattle.ep_single_clears.proofs.Cleared.{cleared_alone}
use Rattle.ep_single_clears.proofs.Running.{room_there, both_run, changed_so}

-- ---- a machine

-- it clears the object at its address
pub record IsClearedAt (o : Order) (p : Program) (ty : ℕ) (fa : Found) (q : Spot) (m n : Memory) : Type 0 where
  pub address : fa ≡ has (into_block q.0 q.1)
  pub inside : range_fault (size_at o p q.0) q.1 (bytes_of p ty) ≡ None
  pub memory : n ≡ clear_of p.types.model (table.leaves p.types ty) q (bytes_of p ty) m

pub record IsCleared (o : Order) (p : Program) (ty : ℕ) (fa : Found) (m n : Memory) : Type 0 where
  pub place : Spot
  pub at : IsClearedAt o p ty fa place m n

clears_so : (o : Order) (p : Program) (ty l n : ℕ) (x : State) (fa : Found)
    → IfLeft on (λ z. IsCleared o p ty fa x.memory z.memory)
    (given fa l x (λ w. at_place w l x (λ b q. change o p b q (bytes_of p ty) (machine_clears o p ty x.memory b q) l n x)))
clears_so o p ty l n x fa =
    let P : State → Type 0 = λ z. IsCleared o p ty fa x.memory z.memory in
    if_given on P l x fa
    (λ w. at_place w l x (λ b q. change o p b q (bytes_of p ty) (machine_clears o p ty x.memory b q) l n x))
    (λ w ew. if_place on P l x w
    (λ b q. change o p b q (bytes_of p ty) (machine_clears o p ty x.memory b q) l n x)
    (λ b q eb. if_unless on P l x (range_fault (size_at o p b) q (bytes_of p ty))
    (leaves on n (remembers (machine_clears o p ty x.memory b q) x))
    (λ e. (
      refl,
      record { place = (b, q); at = record { address = ew ∙ ap has eb; inside = e; memory = refl } },
    ))))

-- ---- what is known

module _ {N : Type 0} (D : Ops N) (law : Lawful D) (keeps : KeepsSingles D) (p : Program) (ord : Side → Order)
    (fit : blocks_fit p.types p.blocks ≡ true) (exprs : ExpressionsHold D p ord) (plcs : PlacesHold D p ord)
    (places : PlacesAreOne D p ord) (a : Place) (ty : ℕ) (some : 0 < bytes_of p ty) where
  abbrev n : ℕ
  n = bytes_of p ty

  abbrev ls : List Leaf
  ls = table.leaves p.types ty

  lie : AreLeavesIn p.types.model 0 (bytes_of p ty) ls
  lie = leaves_rise p.types.model 0 (bytes_of p ty) ls (leaves_ordered p.types ty)

  abbrev f : Side → Machine
  f s = address (ord s) p a

  abbrev Clears : Spot → Side → Memory → Memory → Type 0
  Clears q s m o = IsClearedAt (ord s) p ty (address (ord s) p a m) q m o

  as_turns : (mode : Mode) (t : Bool) (pl : Places) (c : ℕ) (k : Known N) → 0 < c
      → cleared_bytes D (sizes_of p.blocks) mode n ls t pl c k ≡ cleared_from D (sizes_of p.blocks) mode n ls t pl 0 c k
  as_turns mode t pl zero k h = absurd (let z : ⊥ = omega (arith, h) in z)
  as_turns mode t pl (suc c) k h = refl

  module _ (seen : List ℕ) (fits : place_has p.types p.blocks seen a ty ≡ true) (mode : Mode) (k : Known N)
      (m o : Memories) (c : IsKeptOne D p ord k m) (at : Side → Spot)
      (all : (s : Side) → runs mode s ≡ true → Clears (at s) s (memory_of s m) (memory_of s o))
      (still : (s : Side) → runs mode s ≡ false → memory_of s o ≡ memory_of s m) where
    abbrev to : Given N
    to = place D (sizes_of p.blocks) a mode k

    sound : Evaluated D p ord mode k m Pointer f to
    sound = sound_place D (cell_laws D law) p ord fit exprs plcs seen a ty fits k m c.kept mode

    one : IsOneGiven D mode to
    one = places keeps fit seen a ty fits k m c mode (λ s r. (into_block (at s).0 (at s).1, (all s r).address))

    located : (s : Side) → runs mode s ≡ true → IsRunAt D law p ord k m mode f to sound.holds one n some s (at s)
    located s r = record { address = (all s r).address; inside = in_range (size_at (ord s) p (at s).0) (at s).1 n (all s r).inside }

    room : (s : Side) → runs mode s ≡ true → (at s).1 + n ≤ 2 ^ 32
    room s r = room_there (ord s) p fit (at s).0 (at s).1 n (located s r).inside some

    same_place : (mode : Mode) → Evaluated D p ord mode k m Pointer f (place D (sizes_of p.blocks) a mode k)
        → IsOneGiven D mode (place D (sizes_of p.blocks) a mode k)
        → ((s : Side) → runs mode s ≡ true → Clears (at s) s (memory_of s m) (memory_of s o)) → mode ≡ Both
        → is_same D (place D (sizes_of p.blocks) a mode k).pair ≡ true → at left ≡ at right
    same_place Both sound one all e t =
        one_place (at left) (at right) (into_block (at right).0 (at right).1)
        (sym (same_found D law p ord Pointer f k m (place D (sizes_of p.blocks) a Both k) sound.holds one.quiet t
        (into_block (at left).0 (at left).1) (into_block (at right).0 (at right).1) (all left refl).address
        (all right refl).address)) refl
    same_place Left sound one all e t = absurd (let z : ◌≡◌ {A = Mode} Left Both = e in cc)
    same_place Right sound one all e t = absurd (let z : ◌≡◌ {A = Mode} Right Both = e in cc)

    abbrev after : Known N
    after =
        cleared_bytes D (sizes_of p.blocks) mode n ls (is_same D to.pair)
        (run_places D law p ord k m mode f to sound.holds one n some) n k

    abbrev clear_on : Side → Memory → Memory
    clear_on s z = clear_of p.types.model ls (at s) n z

    abbrev turns : Known N
    turns =
        cleared_from D (sizes_of p.blocks) mode n ls (is_same D to.pair)
        (run_places D law p ord k m mode f to sound.holds one n some) 0 n k

    changed_alone : ConcretisesOne D p ord turns (changed mode clear_on m).left (changed mode clear_on m).right
    changed_alone =
        cleared_alone D law keeps p ord (sizes_of p.blocks) ls at n lie mode (is_same D to.pair)
        (run_places D law p ord k m mode f to sound.holds one n some) (same_place mode sound one all) room
        (λ s r. place_is D law p ord k m mode f to sound.holds one n some s (at s) r (located s r)) some k m
        (record { state = c.kept.state; one = c.one })

    done : ConcretisesOne D p ord after o.left o.right
    done =
        subst (λ j. ConcretisesOne D p ord j o.left o.right)
        (sym (as_turns mode (is_same D to.pair) (run_places D law p ord k m mode f to sound.holds one n some) n k some))
        (subst (λ (z : Memories). ConcretisesOne D p ord turns z.left z.right)
        (changed_so mode clear_on m o (λ s r. (all s r).memory) still) changed_alone)

    pub clear_step : (r : Option (ℕ × Scalar)) → StepIsExact D p ord (simple_step D p mode r (clear a ty) k) o
    clear_step r =
        after_exact D p ord to.faults (cleared D (sizes_of p.blocks) mode n ls to.pair k) o one.quiet
        (record {
          faults = quiet D law p ord k m mode f to sound.holds one n some at located;
          next = subst (λ t. IsThere (λ j. ConcretisesOne D p ord j o.left o.right) (if_goes_on t after))
              (sym (there D law p ord k m mode f to sound.holds one n some at located))
              done;
        })

  -- ---- the statement

  pub clear_is : StatementIsExact D p ord (clear a ty)
  clear_is = record {
    alone = λ i here g at seen h quiet l n s x y c.
        (let t = and_parts (place_has p.types p.blocks seen a ty) (is_some (table.size p.types ty)) h in
        let k = kept_beside D p ord i s x y c in
        if_more on (λ z. IsCleared (ord i) p ty (address (ord i) p a x.memory) x.memory z.memory) _
        (does (ord i) p uncounted g.result (clear a ty) l n x)
        (λ z e. exact_beside D p ord i s (simple_step D p (alone i) g.result (clear a ty) s) z.memory y.memory
        k.kept.state
        (clear_step seen t.0 (alone i) s (pair_of i x.memory y.memory) (pair_of i z.memory y.memory) k (λ s. e.place)
        (running_so (Clears e.place) x.memory z.memory y.memory i e.at)
        (still_so (Clears e.place) x.memory z.memory y.memory i) g.result))
        (clears_so (ord i) p ty l n x (address (ord i) p a x.memory)));
    both = λ here g at seen h quiet l n j s x y c.
        (let t = and_parts (place_has p.types p.blocks seen a ty) (is_some (table.size p.types ty)) h in
        let k = kept_one D p ord s x y c in
        both_by on (λ z. IsCleared (ord left) p ty (address (ord left) p a x.memory) x.memory z.memory)
        (λ z. IsCleared (ord right) p ty (address (ord right) p a y.memory) y.memory z.memory) _
        (does (ord left) p uncounted g.result (clear a ty) l n x)
        (does (ord right) p uncounted g.result (clear a ty) l j y)
        (λ z w e u o. exact_both D p ord s (simple_step D p Both g.result (clear a ty) s) z.memory w.memory
        k.kept.state
        (clear_step seen t.0 Both s (memories x.memory y.memory) (memories z.memory w.memory) k
        (spot_on e.place u.place)
        (λ i r. both_run (λ i. Clears (spot_on e.place u.place i) i) (memories x.memory y.memory)
        (memories z.memory w.memory) e.at u.at i)
        (λ i r. absurd (let d : true ≡ false = r in cc)) g.result))
        (clears_so (ord left) p ty l n x (address (ord left) p a x.memory))
        (clears_so (ord right) p ty l j y (address (ord right) p a y.memory)));
  }

pub clears_are_exact : {N : Type 0} (D : Ops N) → Lawful D → ClearsAreExact D
clears_are_exact D law keeps p ord formed places a ty some =
    clear_is D law keeps p ord (sizes p formed) ((evaluation_laws D law).expressions p ord)
    ((evaluation_laws D law).places p ord) places a ty some
