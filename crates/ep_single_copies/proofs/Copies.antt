-- Bytes are copied from one place to one on each running machine: without a fault, and what is known after it stands
-- for the memories after it alone.
use Rattle.std.proofs.Common.{◌≡◌, ℕ, ◌+◌, ◌^◌, ◌<◌, ◌≤◌, Bool, true, false, ◌&&◌, not, nat_eq, nat_lt, if◌then◌else◌, []}
use Rattle.std.proofs.Common.{◌∷◌, ◌++◌, Some, None, is_some, refl, sym, ap, ◌∙◌, subst}
use Rattle.std.proofs.lemmas.Bool.{and_parts, ltb-false}
use Rattle.ep_alarms.specs.declared.types.AlarmKind.TheVariants.{U9}
use Rattle.ep_int.specs.declared.types.Order.{Order}
use Rattle.ep_int.specs.declared.types.Scalar.TheVariants.{Pointer}
use Rattle.ep_int.specs.Memory.{Memory, bounds, overlap, pointer as into_block, Found, has, overlaps}
use Rattle.ep_domain.specs.Domain.{Ops, Lawful}
use Rattle.ep_cells.specs.States.{Known}
use Rattle.ep_cells.specs.Meaning.{Memories}
use Rattle.ep_cell_ranges.specs.Spots.{Spot}
use Rattle.ep_core.specs.Program.{Program}
use Rattle.ep_core.specs.Exec.{State, Outcome, on, leaves, remembers, size_at, given, at_place, copy_fault, copy_at}
use Rattle.ep_core.specs.Runs.{Side, left, right}
use Rattle.ep_core.specs.WellFormed.{blocks_fit}
use Rattle.ep_equalities.specs.declared.pair.Mode.{Mode}
use Rattle.ep_equalities.specs.declared.pair.Mode.TheVariants.{Both, Left, Right}
use Rattle.ep_equalities.specs.Pairs.{runs_left, runs_right}
use Rattle.ep_equalities.specs.Same.{is_same}
use Rattle.ep_evaluation.specs.Given.{Given, runs, on as on_side, shown_if}
use Rattle.ep_evaluation.specs.Laws.{Machine, memory_of, sizes_of, Holds}
use Rattle.ep_evaluation.proofs.Basics.{faults_on-none}
use Rattle.ep_evaluation.proofs.General.{reliable_none}
use Rattle.ep_transfers.specs.Places.{Places, at_side, range_faults}
use Rattle.ep_transfers.specs.Copies.{Leaves, may_overlap, overlap_faults, some_apart, can_copy, copied}
use Rattle.ep_transfers.specs.Transfers.{if_goes_on, copy}
use Rattle.ep_transfers.proofs.Assigned.{on_all_by}
use Rattle.ep_transfers.proofs.Changes.{here}
use Rattle.ep_transfers.proofs.Copied.{copied_memory}
use Rattle.ep_transfers.proofs.Located.{AreFree, any_apart}
use Rattle.ep_closed_laws.specs.Exactly.{IsThere, IfLeft}
use Rattle.ep_single_states.specs.Laws.{ConcretisesOne}
use Rattle.ep_single_narrowed.specs.Laws.{IsKeptOne}
use Rattle.ep_single_given.specs.Laws.{IsOneGiven}
use Rattle.ep_single_given.proofs.Given.{no_faults}
use Rattle.ep_single_runs.proofs.Steps.{if_given, if_place, if_unless, StepIsExact}
use Rattle.ep_single_runs.proofs.Located.{IsRunAt, run_places, place_is, quiet as quiet_run}
use Rattle.ep_single_moves.specs.Laws.{IsCopiedAt}
use Rattle.ep_single_assigned.proofs.Kept.{IsOneAfter, state_beside}
use Rattle.ep_single_assigned.proofs.Puts.{same_found, one_place}
use Rattle.ep_single_clears.proofs.Running.{room_there, left_runs, right_runs}
use Rattle.ep_single_copies.proofs.Apart.{none_overlaps}
use Rattle.ep_single_copies.proofs.Copied.{copied_one, copied_at}

-- ---- a machine

-- the same place of an aggregate
abbrev pub is_itself : (aggregate : Bool) → Spot → Spot → Bool
is_itself agg q v = agg && (nat_eq q.0 v.0 && nat_eq q.1 v.1)

-- it copies n bytes from its second address to its first
pub record IsCopied (o : Order) (p : Program) (agg : Bool) (n : ℕ) (fa fv : Found) (q v : Spot) (m z : Memory) : Type 0
  where
    pub address : fa ≡ has (into_block q.0 q.1)
    pub source : fv ≡ has (into_block v.0 v.1)
    pub faultless : copy_fault o p q.0 q.1 v.0 v.1 n (is_itself agg q v) ≡ None
    pub memory : z ≡ copied_memory p.types.model agg q v n m

pub record Copies (o : Order) (p : Program) (agg : Bool) (n : ℕ) (fa fv : Found) (m z : Memory) : Type 0 where
  pub target : Spot
  pub origin : Spot
  pub at : IsCopied o p agg n fa fv target origin m z

-- what a machine does with two addresses
abbrev pub copying : Order → Program → (aggregate : Bool) → (n l k : ℕ) → State → (fa fv : Found) → Outcome
copying o p agg n l k x fa fv =
    given fa l x
    (λ w. given fv l x
    (λ v. at_place w l x
    (λ b q. at_place v l x (λ c r. copy_at o p b q c r n (agg && (nat_eq b c && nat_eq q r)) l k x))))

pub copies_so : (o : Order) (p : Program) (agg : Bool) (n l k : ℕ) (x : State) (fa fv : Found)
    → IfLeft on (λ z. Copies o p agg n fa fv x.memory z.memory) (copying o p agg n l k x fa fv)
copies_so o p agg n l k x fa fv =
    let P : State → Type 0 = λ z. Copies o p agg n fa fv x.memory z.memory in
    if_given on P l x fa
    (λ w. given fv l x
    (λ v. at_place w l x
    (λ b q. at_place v l x (λ c r. copy_at o p b q c r n (agg && (nat_eq b c && nat_eq q r)) l k x))))
    (λ w ew. if_given on P l x fv
    (λ v. at_place w l x
    (λ b q. at_place v l x (λ c r. copy_at o p b q c r n (agg && (nat_eq b c && nat_eq q r)) l k x)))
    (λ v ev. if_place on P l x w
    (λ b q. at_place v l x (λ c r. copy_at o p b q c r n (agg && (nat_eq b c && nat_eq q r)) l k x))
    (λ b q eb. if_place on P l x v (λ c r. copy_at o p b q c r n (agg && (nat_eq b c && nat_eq q r)) l k x)
    (λ c r ec. if_unless on P l x (copy_fault o p b q c r n (agg && (nat_eq b c && nat_eq q r)))
    (leaves on k (remembers (copied_memory p.types.model agg (b, q) (c, r) n x.memory) x))
    (λ e. (
      refl,
      record {
        target = (b, q);
        origin = (c, r);
        at = record { address = ew ∙ ap has eb; source = ev ∙ ap has ec; faultless = e; memory = refl };
      },
    ))))))

no_fault : (x y z : Bool)
    → (if x then Some bounds else if y then Some bounds else if z then Some overlap else None) ≡ None
    → (x ≡ false) × (y ≡ false) × (z ≡ false)
no_fault true y z e = absurd (let d : Some bounds ≡ None = e in cc)
no_fault false true z e = absurd (let d : Some bounds ≡ None = e in cc)
no_fault false false true e = absurd (let d : Some overlap ≡ None = e in cc)
no_fault false false false e = (refl, refl, refl)

-- ---- what is known

module _ {N : Type 0} (D : Ops N) (law : Lawful D) (p : Program) (ord : Side → Order)
    (fit : blocks_fit p.types p.blocks ≡ true) (ls : Leaves) (n : ℕ) (some : 0 < n) (k : Known N) (m o : Memories)
    (c : IsKeptOne D p ord k m) (f g : Side → Machine) (at by : Side → Spot) where
  abbrev pub CopiesAt : Side → Type 0
  CopiesAt s =
      IsCopied (ord s) p (is_some ls) n (f s (memory_of s m)) (g s (memory_of s m)) (at s) (by s) (memory_of s m)
      (memory_of s o)

  inside_both : (s : Side) → CopiesAt s
      → ((at s).1 + n ≤ size_at (ord s) p (at s).0) × ((by s).1 + n ≤ size_at (ord s) p (by s).0)
      × AreFree (is_some ls) n (at s) (by s)
  inside_both s h =
      let r = no_fault (nat_lt (size_at (ord s) p (at s).0) ((at s).1 + n))
      (nat_lt (size_at (ord s) p (by s).0) ((by s).1 + n))
      (overlaps (at s).0 (at s).1 (by s).0 (by s).1 n && not (is_itself (is_some ls) (at s) (by s))) h.faultless in (
        ltb-false (size_at (ord s) p (at s).0) ((at s).1 + n) r.0,
        ltb-false (size_at (ord s) p (by s).0) ((by s).1 + n) r.1,
        r.2,
      )

  -- on a machine that copies, and on one that doesn't
  left_copied : (t : Bool) → t ≡ true → CopiesAt left
      → IsCopiedAt k.model (is_some ls) (at left) (by left) n t m.left o.left
  left_copied t e h = record {
    copied = λ z b j. ap (λ (x : Memory). x b j) h.memory
        ∙ ap (λ d. copied_memory d (is_some ls) (at left) (by left) n m.left b j) (sym c.kept.state.model);
    stays = λ z. absurd (let x : true ≡ false = sym e ∙ z in cc);
  }

  right_copied : (t : Bool) → t ≡ true → CopiesAt right
      → IsCopiedAt k.model (is_some ls) (at right) (by right) n t m.right o.right
  right_copied t e h = record {
    copied = λ z b j. ap (λ (x : Memory). x b j) h.memory
        ∙ ap (λ d. copied_memory d (is_some ls) (at right) (by right) n m.right b j) (sym c.kept.state.model);
    stays = λ z. absurd (let x : true ≡ false = sym e ∙ z in cc);
  }

  left_at : (mode : Mode) → ((s : Side) → runs mode s ≡ true → CopiesAt s)
      → ((s : Side) → runs mode s ≡ false → memory_of s o ≡ memory_of s m)
      → IsCopiedAt k.model (is_some ls) (at left) (by left) n (runs_left mode) m.left o.left
  left_at Both all still = left_copied true refl (all left refl)
  left_at Left all still = left_copied true refl (all left refl)
  left_at Right all still = record {
    copied = λ z. absurd (let x : false ≡ true = z in cc);
    stays = λ z b j. ap (λ (x : Memory). x b j) (still left refl);
  }

  right_at : (mode : Mode) → ((s : Side) → runs mode s ≡ true → CopiesAt s)
      → ((s : Side) → runs mode s ≡ false → memory_of s o ≡ memory_of s m)
      → IsCopiedAt k.model (is_some ls) (at right) (by right) n (runs_right mode) m.right o.right
  right_at Both all still = right_copied true refl (all right refl)
  right_at Left all still = record {
    copied = λ z. absurd (let x : false ≡ true = z in cc);
    stays = λ z b j. ap (λ (x : Memory). x b j) (still right refl);
  }
  right_at Right all still = right_copied true refl (all right refl)

  -- one place each on both sides, where they are known to be the same
  same_at : (mode : Mode) (to from : Given N) → Holds D p ord Pointer (λ s. f s (memory_of s m)) k m mode to
      → Holds D p ord Pointer (λ s. g s (memory_of s m)) k m mode from → to.faults ≡ [] → from.faults ≡ []
      → ((s : Side) → runs mode s ≡ true → CopiesAt s) → mode ≡ Both
      → (is_same D to.pair && is_same D from.pair) ≡ true → (at left ≡ at right) × (by left ≡ by right)
  same_at Both to from a b ea eb all e t =
      let s = and_parts (is_same D to.pair) (is_same D from.pair) t in
      let l = all left refl in
      let r = all right refl in (
        one_place (at left) (at right) (into_block (at right).0 (at right).1)
            (sym (same_found D law p ord Pointer f k m to a ea s.0 (into_block (at left).0 (at left).1)
            (into_block (at right).0 (at right).1) l.address r.address)) refl,
        one_place (by left) (by right) (into_block (by right).0 (by right).1)
            (sym (same_found D law p ord Pointer g k m from b eb s.1 (into_block (by left).0 (by left).1)
            (into_block (by right).0 (by right).1) l.source r.source)) refl,
      )
  same_at Left to from a b ea eb all e t = absurd (let z : ◌≡◌ {A = Mode} Left Both = e in cc)
  same_at Right to from a b ea eb all e t = absurd (let z : ◌≡◌ {A = Mode} Right Both = e in cc)

  module _ (mode : Mode) (to from : Given N) (a : Holds D p ord Pointer (λ s. f s (memory_of s m)) k m mode to)
      (b : Holds D p ord Pointer (λ s. g s (memory_of s m)) k m mode from) (ea : IsOneGiven D mode to)
      (eb : IsOneGiven D mode from) (all : (s : Side) → runs mode s ≡ true → CopiesAt s)
      (still : (s : Side) → runs mode s ≡ false → memory_of s o ≡ memory_of s m) where
    located : (s : Side) → runs mode s ≡ true → IsRunAt D law p ord k m mode f to a ea n some s (at s)
    located s r = record { address = (all s r).address; inside = (inside_both s (all s r)).0 }

    located_from : (s : Side) → runs mode s ≡ true → IsRunAt D law p ord k m mode g from b eb n some s (by s)
    located_from s r = record { address = (all s r).source; inside = (inside_both s (all s r)).1 }

    abbrev targets : Places
    targets = run_places D law p ord k m mode f to a ea n some

    abbrev sources : Places
    sources = run_places D law p ord k m mode g from b eb n some

    target_is : (s : Side) → runs mode s ≡ true → at_side targets s ≡ at s ∷ []
    target_is s r = place_is D law p ord k m mode f to a ea n some s (at s) r (located s r)

    source_is : (s : Side) → runs mode s ≡ true → at_side sources s ≡ by s ∷ []
    source_is s r = place_is D law p ord k m mode g from b eb n some s (by s) r (located_from s r)

    none_over : overlap_faults D (sizes_of p.blocks) mode (is_some ls) n to.pair from.pair ≡ []
    none_over =
        faults_on-none mode U9
        (λ s. shown_if (may_overlap D (sizes_of p.blocks) (is_some ls) n (on_side to.pair s) (on_side from.pair s)))
        (λ s r. ap shown_if
        (none_overlaps D law (sizes_of p.blocks) (is_some ls) n (on_side to.pair s) (on_side from.pair s) (at s) (by s)
        (record {
          one = ea.each s r;
          allowed = (a.held (reliable_none mode to.faults ea.quiet) s r (into_block (at s).0 (at s).1)
              (all s r).address).value;
        })
        (record {
          one = eb.each s r;
          allowed = (b.held (reliable_none mode from.faults eb.quiet) s r (into_block (by s).0 (by s).1)
              (all s r).source).value;
        }) (inside_both s (all s r)).2))

    can : can_copy D mode (is_some ls) n targets sources ≡ true
    can =
        on_all_by mode (λ s. some_apart D (is_some ls) n (at_side targets s) (at_side sources s))
        (λ s r.
        subst (λ qs. some_apart D (is_some ls) n qs (at_side sources s) ≡ true) (sym (target_is s r))
        (subst (λ qs. some_apart D (is_some ls) n (at s ∷ []) qs ≡ true) (sym (source_is s r))
        (any_apart D law (sizes_of p.blocks) n (is_some ls) (at s) (by s) (at s ∷ []) (by s ∷ []) (here []) (here [])
        (inside_both s (all s r)).2)))

    abbrev joint : Bool
    joint = is_same D to.pair && is_same D from.pair

    abbrev after : Known N
    after = copied D mode joint ls targets sources n k

    room : (s : Side) → runs mode s ≡ true → (at s).1 + n ≤ 2 ^ 32
    room s r = room_there (ord s) p fit (at s).0 (at s).1 n (inside_both s (all s r)).0 some

    done : IsOneAfter D k after o
    done =
        copied_at D (λ j. IsOneAfter D k j o) joint ls n k mode targets sources (at left) (at right) (by left) (by right)
        (λ e. target_is left (left_runs mode e)) (λ e. target_is right (right_runs mode e))
        (λ e. source_is left (left_runs mode e)) (λ e. source_is right (right_runs mode e))
        (copied_one D law ls n k m o c.one mode joint (at left) (at right) (by left) (by right)
        (λ e. room left (left_runs mode e)) (λ e. room right (right_runs mode e)) (left_at mode all still)
        (right_at mode all still) (same_at mode to from a b ea.quiet eb.quiet all))

    pub copy_exact : StepIsExact D p ord (copy D (sizes_of p.blocks) mode n ls to.pair from.pair k) o
    copy_exact =
        let state : ConcretisesOne D p ord after o.left o.right = record {
          state = state_beside D p ord k after c.kept.state done.beside done.one.cells;
          one = done.one;
        } in
        record {
          faults = no_faults (range_faults D (sizes_of p.blocks) mode n to.pair)
              (range_faults D (sizes_of p.blocks) mode n from.pair
              ++ overlap_faults D (sizes_of p.blocks) mode (is_some ls) n to.pair from.pair)
              (quiet_run D law p ord k m mode f to a ea n some at located)
              (no_faults (range_faults D (sizes_of p.blocks) mode n from.pair)
              (overlap_faults D (sizes_of p.blocks) mode (is_some ls) n to.pair from.pair)
              (quiet_run D law p ord k m mode g from b eb n some by located_from) none_over);
          next = subst (λ t. IsThere (λ j. ConcretisesOne D p ord j o.left o.right) (if_goes_on t after)) (sym can)
              state;
        }
