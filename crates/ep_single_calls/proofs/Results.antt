-- The result of a call goes to its place: a state that stands for one pair of memories alone stays one.
use Rattle.std.proofs.Common.{◌≡◌, ℕ, true, false, List, [], ◌++◌, Option, Some, None, option_to_list, slice_get, refl}
use Rattle.std.specs.List.{list_all}
use Rattle.ep_int.specs.declared.types.Order.{Order}
use Rattle.ep_int.specs.declared.types.Scalar.{Scalar}
use Rattle.ep_int.specs.Memory.{Memory, pointer, Found, stored}
use Rattle.ep_domain.specs.Domain.{Ops, Lawful}
use Rattle.ep_cells.specs.States.{Known}
use Rattle.ep_cells.specs.Meaning.{Memories}
use Rattle.ep_core.specs.Program.{Dest, Function, Program}
use Rattle.ep_core.specs.Exec.{State, on, remembers, address, received}
use Rattle.ep_core.specs.Runs.{Side, left, right}
use Rattle.ep_core.specs.WellFormed.{holds_scalar, result_type, takes_result, is_well_formed, blocks_fit}
use Rattle.ep_core.proofs.Operands.{sizes as sizes_fit, fits_at}
use Rattle.ep_pass.specs.States.{Both as BothSides, One}
use Rattle.ep_equalities.specs.declared.pair.Mode.{Mode}
use Rattle.ep_equalities.specs.declared.pair.Mode.TheVariants.{Both, Left, Right}
use Rattle.ep_evaluation.specs.Given.{Given, runs}
use Rattle.ep_evaluation.specs.Evaluation.{place as place_means}
use Rattle.ep_evaluation.specs.Laws.{memory_of, sizes_of, IsState}
use Rattle.ep_evaluation.proofs.Gathered.{evaluation_laws}
use Rattle.ep_transfers.specs.Cells.{cell_ops, told_of, when_known, is_told_so}
use Rattle.ep_transfers.specs.Transfers.{Stepped, stepped, with_two, assigned}
use Rattle.ep_transfers.specs.Calls.{loaded_result, received_as, result_step}
use Rattle.ep_transfers.specs.Laws.{memories}
use Rattle.ep_transfers.proofs.Gathered.{cell_laws}
use Rattle.ep_transfers.proofs.Stored.{place_is}
use Rattle.ep_closed_laws.specs.Exactly.{IsThere, IfLeft, IfBothLeft, TransferIsExact, SeenFrom}
use Rattle.ep_closed_laws.specs.Closely.{ConcretisesOneTyped, ConcretisesOneBeside}
use Rattle.ep_singles.specs.Numbers.{KeepsSingles}
use Rattle.ep_singles.specs.Cells.{IsOne}
use Rattle.ep_single_given.proofs.Given.{no_faults}
use Rattle.ep_single_narrowed.specs.Laws.{IsKeptOne}
use Rattle.ep_single_puts.specs.Laws.{IsPutAt, ArePut, AreToPut, IsStepTo}
use Rattle.ep_single_puts.proofs.Puts.{puts_keep_one}
use Rattle.ep_single_states.specs.Laws.{ConcretisesOne}
use Rattle.ep_single_values.specs.Laws.{PlacesAreOne}
use Rattle.ep_single_calls.proofs.Machines.{read_as, HasReceived, received_as as machine_receives}
use Rattle.ep_single_calls.proofs.Kept.{both_left, one_left, kept_both, kept_seen, told_exact}
use Rattle.ep_single_calls.proofs.Received.{TakesResult, takes, received_evaluated, received_one}

module _ {N : Type 0} (D : Ops N) (law : Lawful D) (keeps : KeepsSingles D) (p : Program) (ord : Side → Order)
    (formed : is_well_formed p ≡ true) (plcs : PlacesAreOne D p ord) where
  fit : blocks_fit p.types p.blocks ≡ true
  fit = sizes_fit p formed

  module _ (r : ℕ × Scalar) (d : Dest) (seen : List ℕ) (t : TakesResult p r d seen) (k : Known N) (m : Memories)
      (kept : IsKeptOne D p ord k m) where
    abbrev fa : Side → Found
    fa s = address (ord s) p d.place (memory_of s m)

    abbrev fv : Side → Found
    fv s = read_as (ord s) p r d.what (memory_of s m)

    abbrev v : Mode → Given N
    v mode = received_as D p r.1 d.what mode (loaded_result D p mode r k)

    abbrev to : Mode → Given N
    to mode = place_means D (sizes_of p.blocks) d.place mode k

    AllReceived : Mode → Type 0
    AllReceived mode = (s : Side) → runs mode s ≡ true → HasReceived (ord s) p r d (memory_of s m)

    to_put : (mode : Mode) → AllReceived mode → AreToPut D p ord mode k m d.what fa fv (to mode) (v mode)
    unfolding AllReceived
    to_put mode h =
        let laws = evaluation_laws D law in
        let e = received_evaluated D law p ord r.0 r.1 d.what t.taken k m kept.kept mode in
        record {
          address_holds = (place_is D (cell_laws D law) p ord fit (laws.expressions p ord) (laws.places p ord) seen
              d.place t.place_type t.placed k m kept.kept mode).holds;
          value_holds = e.holds;
          fits = e.fits;
          one_address = plcs keeps fit seen d.place t.place_type t.placed k m kept mode
              (λ s i. (pointer (h s i).block (h s i).offset, (h s i).at));
          one_value = received_one D law p ord r.0 r.1 d.what t.taken k m kept mode
              (λ s i. ((h s i).result, (h s i).read)) (λ s i. ((h s i).datum, (h s i).is));
        }

    abbrev step : Mode → Stepped N
    step mode = with_two (v mode) (to mode) (λ v to. assigned D (sizes_of p.blocks) mode d.what to v k)

    stepped_to : (mode : Mode) → AllReceived mode → (n : Memories) → ArePut p ord mode d.what fa fv m n
        → IsStepTo D p ord n (step mode)
    stepped_to mode h n a =
        let b = to_put mode h in
        let s = puts_keep_one D law keeps p ord fit k m n kept mode d.what fa fv (to mode) (v mode) b a in
        record {
          quiet = no_faults ((v mode).faults ++ (to mode).faults)
              (assigned D (sizes_of p.blocks) mode d.what (to mode).pair (v mode).pair k).faults
              (no_faults (v mode).faults (to mode).faults b.one_value.quiet b.one_address.quiet) s.quiet;
          next = s.next;
        }

    -- the memory of a machine after it
    abbrev stored_in : (o : Order) (z : Memory) → HasReceived o p r d z → Memory
    stored_in o z h = stored o p.types.model z d.what h.block h.offset h.datum

    is_put : (o : Order) (z : Memory) (h : HasReceived o p r d z)
        → IsPutAt p o d.what (address o p d.place z) (read_as o p r d.what z) z (stored_in o z h)
    is_put o z h = record {
      block = h.block;
      offset = h.offset;
      datum = h.datum;
      at = h.at;
      is = h.is;
      stores = h.stores;
      after = λ b j. refl;
    }

    step_both : (a : HasReceived (ord left) p r d m.left) (b : HasReceived (ord right) p r d m.right)
        → IsStepTo D p ord (memories (stored_in (ord left) m.left a) (stored_in (ord right) m.right b)) (step Both)
    unfolding AllReceived
    step_both a b =
        stepped_to Both all (memories (stored_in (ord left) m.left a) (stored_in (ord right) m.right b))
        (record { puts = puts; still = λ s i. absurd (cc) })
      where
        all : (s : Side) → runs Both s ≡ true → HasReceived (ord s) p r d (memory_of s m)
        all left i = a
        all right i = b

        puts : (s : Side) → runs Both s ≡ true → IsPutAt p (ord s) d.what (fa s) (fv s) (memory_of s m) (memory_of s
            (memories (stored_in (ord left) m.left a) (stored_in (ord right) m.right b)))
        puts left i = is_put (ord left) m.left a
        puts right i = is_put (ord right) m.right b

    step_left : (a : HasReceived (ord left) p r d m.left)
        → IsStepTo D p ord (memories (stored_in (ord left) m.left a) m.right) (step Left)
    unfolding AllReceived
    step_left a =
        stepped_to Left all (memories (stored_in (ord left) m.left a) m.right)
        (record { puts = puts; still = still })
      where
        all : (s : Side) → runs Left s ≡ true → HasReceived (ord s) p r d (memory_of s m)
        all left i = a
        all right i = absurd (cc)

        puts : (s : Side) → runs Left s ≡ true → IsPutAt p (ord s) d.what (fa s) (fv s) (memory_of s m) (memory_of s
            (memories (stored_in (ord left) m.left a) m.right))
        puts left i = is_put (ord left) m.left a
        puts right i = absurd (cc)

        still : (s : Side) → runs Left s ≡ false → (b j : ℕ)
            → memory_of s (memories (stored_in (ord left) m.left a) m.right) b j ≡ memory_of s m b j
        still left i b j = absurd (cc)
        still right i b j = refl

    step_right : (a : HasReceived (ord right) p r d m.right)
        → IsStepTo D p ord (memories m.left (stored_in (ord right) m.right a)) (step Right)
    unfolding AllReceived
    step_right a =
        stepped_to Right all (memories m.left (stored_in (ord right) m.right a))
        (record { puts = puts; still = still })
      where
        all : (s : Side) → runs Right s ≡ true → HasReceived (ord s) p r d (memory_of s m)
        all left i = absurd (cc)
        all right i = a

        puts : (s : Side) → runs Right s ≡ true → IsPutAt p (ord s) d.what (fa s) (fv s) (memory_of s m) (memory_of s
            (memories m.left (stored_in (ord right) m.right a)))
        puts left i = absurd (cc)
        puts right i = is_put (ord right) m.right a

        still : (s : Side) → runs Right s ≡ false → (b j : ℕ)
            → memory_of s (memories m.left (stored_in (ord right) m.right a)) b j ≡ memory_of s m b j
        still left i b j = refl
        still right i b j = absurd (cc)

  -- ---- as transfers

  there_as : (n : Memories) (o : Option (Known N)) → IsThere (λ j. IsState D p ord j × IsOne D j n) o
      → IsThere (λ j. ConcretisesOne D p ord j n.left n.right) o
  there_as n None h = h
  there_as n (Some j) h = record { state = h.0; one = h.1 }

  exact : (k : Known N) → IsState D p ord k → (n : Memories) (t : Stepped N) → IsStepTo D p ord n t
      → TransferIsExact (λ j. ConcretisesOne D p ord j n.left n.right)
      (told_of D (when_known (is_told_so D p ord k) t))
  exact k s n t h =
      told_exact D p ord (λ j. ConcretisesOne D p ord j n.left n.right) k s t h.quiet (there_as n t.next h.next)

  stays : (k : Known N) (m n : Memory) → ConcretisesOne D p ord k m n
      → TransferIsExact (λ j. ConcretisesOne D p ord j m n)
      (told_of D (when_known (is_told_so D p ord k) (stepped [] (Some k))))
  stays k m n h = told_exact D p ord (λ j. ConcretisesOne D p ord j m n) k h.state (stepped [] (Some k)) refl h

  module _ (k : ℕ) (f : Function) (at : slice_get p.functions k ≡ Some f) where
    holds : list_all (holds_scalar p.types p.blocks) (option_to_list f.result) ≡ true
    holds = (fits_at p formed k f at).1

    pub result_both : (d : Option Dest) (seen : List ℕ)
        → takes_result p.types p.blocks seen (result_type p.blocks f.result) d ≡ true → (l n m : ℕ) (s : Known N)
        (x y : State) → ConcretisesOneTyped p (ConcretisesOne D p ord) s x y
        → IfBothLeft on
        (λ x' y'. x'.outputs ≡ y'.outputs → TransferIsExact (λ t. ConcretisesOne D p ord t x'.memory y'.memory)
        ((cell_ops D p ord).result BothSides f d s))
        (received (ord left) p f.result d l n x) (received (ord right) p f.result d l m y)
    result_both None seen t l n m s x y h = (refl, (refl, λ e. stays s x.memory y.memory h.memories))
    result_both (Some d) seen t l n m s x y h = by_result f.result t holds
      where
        by_result : (o : Option (ℕ × Scalar)) → takes_result p.types p.blocks seen (result_type p.blocks o) (Some d)
            ≡ true → list_all (holds_scalar p.types p.blocks) (option_to_list o) ≡ true
            → IfBothLeft on
            (λ x' y'. x'.outputs ≡ y'.outputs → TransferIsExact (λ t. ConcretisesOne D p ord t x'.memory y'.memory)
            ((cell_ops D p ord).result BothSides (record f { result = o }) (Some d) s))
            (received (ord left) p o (Some d) l n x) (received (ord right) p o (Some d) l m y)
        by_result None t i = absurd (cc)
        by_result (Some r) t i =
            let kept = kept_both D p ord s x y h in
            let a = takes p r i d seen t in
            both_left on (HasReceived (ord left) p r d x.memory) (HasReceived (ord right) p r d y.memory)
            (λ a. (n, remembers (stored (ord left) p.types.model x.memory d.what a.block a.offset a.datum) x))
            (λ b. (m, remembers (stored (ord right) p.types.model y.memory d.what b.block b.offset b.datum) y))
            (λ x' y'. x'.outputs ≡ y'.outputs → TransferIsExact (λ t. ConcretisesOne D p ord t x'.memory y'.memory)
            ((cell_ops D p ord).result BothSides (record f { result = Some r }) (Some d) s))
            (λ u w e. exact s h.memories.state
            (memories (stored (ord left) p.types.model x.memory d.what u.block u.offset u.datum)
            (stored (ord right) p.types.model y.memory d.what w.block w.offset w.datum))
            (result_step D p Both (record f { result = Some r }) (Some d) s)
            (step_both r d seen a s (memories x.memory y.memory) kept u w))
            (received (ord left) p (Some r) (Some d) l n x) (received (ord right) p (Some r) (Some d) l m y)
            (machine_receives (ord left) p r d a.taken l n x h.left_fits.memory)
            (machine_receives (ord right) p r d a.taken l m y h.right_fits.memory)

    pub result_alone : (i : Side) (d : Option Dest) (seen : List ℕ)
        → takes_result p.types p.blocks seen (result_type p.blocks f.result) d ≡ true → (l n : ℕ) (s : Known N)
        (x y : State) → SeenFrom (ConcretisesOneTyped p (ConcretisesOne D p ord)) i s x y
        → IfLeft on
        (λ x'. TransferIsExact (λ t. ConcretisesOneBeside (ConcretisesOne D p ord) i t x'.memory y.memory)
        ((cell_ops D p ord).result (One i) f d s))
        (received (ord i) p f.result d l n x)
    result_alone left None seen t l n s x y h = (refl, stays s x.memory y.memory h.memories)
    result_alone right None seen t l n s x y h = (refl, stays s y.memory x.memory h.memories)
    result_alone left (Some d) seen t l n s x y h = by_result f.result t holds
      where
        by_result : (o : Option (ℕ × Scalar)) → takes_result p.types p.blocks seen (result_type p.blocks o) (Some d)
            ≡ true → list_all (holds_scalar p.types p.blocks) (option_to_list o) ≡ true
            → IfLeft on
            (λ x'. TransferIsExact (λ t. ConcretisesOne D p ord t x'.memory y.memory)
            ((cell_ops D p ord).result (One left) (record f { result = o }) (Some d) s))
            (received (ord left) p o (Some d) l n x)
        by_result None t i = absurd (cc)
        by_result (Some r) t i =
            let kept = kept_seen D p ord left s x y h in
            let a = takes p r i d seen t in
            one_left on (HasReceived (ord left) p r d x.memory)
            (λ a. (n, remembers (stored (ord left) p.types.model x.memory d.what a.block a.offset a.datum) x))
            (λ x'. TransferIsExact (λ t. ConcretisesOne D p ord t x'.memory y.memory)
            ((cell_ops D p ord).result (One left) (record f { result = Some r }) (Some d) s))
            (λ u. exact s h.memories.state
            (memories (stored (ord left) p.types.model x.memory d.what u.block u.offset u.datum) y.memory)
            (result_step D p Left (record f { result = Some r }) (Some d) s)
            (step_left r d seen a s (memories x.memory y.memory) kept u))
            (received (ord left) p (Some r) (Some d) l n x)
            (machine_receives (ord left) p r d a.taken l n x h.left_fits.memory)
    result_alone right (Some d) seen t l n s x y h = by_result f.result t holds
      where
        by_result : (o : Option (ℕ × Scalar)) → takes_result p.types p.blocks seen (result_type p.blocks o) (Some d)
            ≡ true → list_all (holds_scalar p.types p.blocks) (option_to_list o) ≡ true
            → IfLeft on
            (λ x'. TransferIsExact (λ t. ConcretisesOne D p ord t y.memory x'.memory)
            ((cell_ops D p ord).result (One right) (record f { result = o }) (Some d) s))
            (received (ord right) p o (Some d) l n x)
        by_result None t i = absurd (cc)
        by_result (Some r) t i =
            let kept = kept_seen D p ord right s x y h in
            let a = takes p r i d seen t in
            one_left on (HasReceived (ord right) p r d x.memory)
            (λ a. (n, remembers (stored (ord right) p.types.model x.memory d.what a.block a.offset a.datum) x))
            (λ x'. TransferIsExact (λ t. ConcretisesOne D p ord t y.memory x'.memory)
            ((cell_ops D p ord).result (One right) (record f { result = Some r }) (Some d) s))
            (λ u. exact s h.memories.state
            (memories y.memory (stored (ord right) p.types.model x.memory d.what u.block u.offset u.datum))
            (result_step D p Right (record f { result = Some r }) (Some d) s)
            (step_right r d seen a s (memories y.memory x.memory) kept u))
            (received (ord right) p (Some r) (Some d) l n x)
            (machine_receives (ord right) p r d a.taken l n x h.right_fits.memory)
