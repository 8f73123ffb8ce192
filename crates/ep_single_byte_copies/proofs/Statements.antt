-- A copy of bytes.
use Rattle.std.proofs.Common.{◌≡◌, ℕ, ◌+◌, ◌<◌, ◌≤◌, Bool, true, false, ◌&&◌, not, nat_lt, if◌then◌else◌, List, []}
use Rattle.std.proofs.Common.{◌∷◌, ◌++◌, Option, Some, None, refl, sym, ap, ◌∙◌, subst, arith}
use Rattle.std.proofs.lemmas.Bool.{and_parts, ltb-false}
use Rattle.ep_alarms.specs.declared.types.AlarmKind.TheVariants.{U9}
use Rattle.ep_int.specs.declared.types.Model.{Model}
use Rattle.ep_int.specs.declared.types.Order.{Order}
use Rattle.ep_int.specs.declared.types.Scalar.{Scalar}
use Rattle.ep_int.specs.declared.types.Scalar.TheVariants.{Pointer}
use Rattle.ep_int.specs.Memory.{Memory, Value as Datum, pointer, bounds, overlap, has, copied as copied_bytes}
use Rattle.ep_int.specs.Memory.{overlaps}
use Rattle.ep_domain.specs.Domain.{Ops, Lawful}
use Rattle.ep_cells.specs.States.{Known}
use Rattle.ep_cells.specs.Meaning.{Memories}
use Rattle.ep_cell_ranges.specs.Spots.{Spot}
use Rattle.ep_core.specs.Program.{Expr, Simple, copy_bytes, Program}
use Rattle.ep_core.specs.Exec.{State, Outcome, on, leaves, uncounted, value, given, at_place, copy_at, copy_fault}
use Rattle.ep_core.specs.Exec.{does, remembers, size_at}
use Rattle.ep_core.specs.Runs.{Side, left, right}
use Rattle.ep_core.specs.WellFormed.{is_length, is_address, has_sort, pointer_to, blocks_fit}
use Rattle.ep_core.proofs.Operands.{sizes}
use Rattle.ep_core.proofs.Sorts.{three, pointer_where}
use Rattle.ep_equalities.specs.declared.pair.Mode.{Mode}
use Rattle.ep_equalities.specs.declared.pair.Mode.TheVariants.{Both}
use Rattle.ep_equalities.specs.Same.{is_same}
use Rattle.ep_evaluation.specs.Given.{Given, alone, runs, shown_if}
use Rattle.ep_evaluation.specs.Given.{on as on_side}
use Rattle.ep_evaluation.specs.Evaluation.{expression}
use Rattle.ep_evaluation.specs.Laws.{Machine, memory_of, sizes_of, ExpressionsHold, PlacesHold}
use Rattle.ep_evaluation.proofs.Basics.{faults_on-none}
use Rattle.ep_evaluation.proofs.Gathered.{evaluation_laws}
use Rattle.ep_evaluation.proofs.General.{runs_both}
use Rattle.ep_transfers.specs.Places.{Places, at_side, range_faults}
use Rattle.ep_transfers.specs.Copies.{may_overlap, overlap_faults, some_apart, can_copy, copied}
use Rattle.ep_transfers.specs.Transfers.{if_goes_on, simple_step}
use Rattle.ep_transfers.specs.Laws.{memories, CellLaws}
use Rattle.ep_transfers.proofs.Assigned.{on_all_by}
use Rattle.ep_transfers.proofs.Changes.{here}
use Rattle.ep_transfers.proofs.Evaluated.{pair_of, Evaluated}
use Rattle.ep_transfers.proofs.Fills.{some_length}
use Rattle.ep_transfers.proofs.Gathered.{cell_laws}
use Rattle.ep_transfers.proofs.Located.{any_apart}
use Rattle.ep_transfers.proofs.RunSteps.{spot_on}
use Rattle.ep_transfers.proofs.RunWaits.{only_runs}
use Rattle.ep_transfers.proofs.Stored.{expr_is}
use Rattle.ep_closed_laws.specs.Exactly.{IfLeft, IsThere}
use Rattle.ep_singles.specs.Numbers.{KeepsSingles}
use Rattle.ep_single_places.specs.Laws.{IsOneInto}
use Rattle.ep_single_given.specs.Laws.{IsOneGiven}
use Rattle.ep_single_given.proofs.Given.{no_faults}
use Rattle.ep_single_narrowed.specs.Laws.{IsKeptOne}
use Rattle.ep_single_states.specs.Laws.{ConcretisesOne}
use Rattle.ep_single_values.specs.Laws.{ValuesAreOne}
use Rattle.ep_single_values.specs.Statements.{StatementIsExact, StatementsAreExact}
use Rattle.ep_single_runs.proofs.Steps.{if_given, if_place, if_unless, kept_one, kept_beside, StepIsExact}
use Rattle.ep_single_runs.proofs.Steps.{exact_both, exact_beside}
use Rattle.ep_single_runs.proofs.Modes.{of_both, beside, one_spot}
use Rattle.ep_single_runs.proofs.Located.{IsRunAt, run_places, into, place_is, ends, quiet}
use Rattle.ep_single_byte_copies.specs.Laws.{IsByteCopy, is_byte_copy}
use Rattle.ep_single_byte_copies.proofs.Apart.{none_told, are_free}
use Rattle.ep_single_byte_copies.proofs.Copied.{copied_on, IsOneAfter, copied_one}

-- a machine copies between two places inside of their blocks, which have no byte in common
record IsCopyFree (o : Order) (p : Program) (n : ℕ) (q t : Spot) : Type 0 where
  target_inside : q.1 + n ≤ size_at o p q.0
  source_inside : t.1 + n ≤ size_at o p t.0
  free : overlaps q.0 q.1 t.0 t.1 n ≡ false

copy_free : (o : Order) (p : Program) (n : ℕ) (q t : Spot) → copy_fault o p q.0 q.1 t.0 t.1 n false ≡ None
    → IsCopyFree o p n q t
copy_free o p n q t e =
    let h = by (nat_lt (size_at o p q.0) (q.1 + n)) (nat_lt (size_at o p t.0) (t.1 + n))
    (overlaps q.0 q.1 t.0 t.1 n) e in
    record {
      target_inside = ltb-false (size_at o p q.0) (q.1 + n) h.0;
      source_inside = ltb-false (size_at o p t.0) (t.1 + n) h.1;
      free = h.2;
    }
  where
    by : (x y z : Bool)
        → (if x then Some bounds else if y then Some bounds else if z && not false then Some overlap else None) ≡ None
        → (x ≡ false) × (y ≡ false) × (z ≡ false)
    by true y z e = absurd (let d : Some bounds ≡ None = e in cc)
    by false true z e = absurd (let d : Some bounds ≡ None = e in cc)
    by false false true e = absurd (let d : Some overlap ≡ None = e in cc)
    by false false false e = (refl, refl, refl)

copied_beside : (d : Model) (q t : Spot) (n : ℕ) (i : Side) (m o : Memory)
    → copied_on d (λ s. q) (λ s. t) n (alone i) (pair_of i m o) ≡ pair_of i (copied_bytes d m q.0 q.1 t.0 t.1 n) o
copied_beside d q t n left m o = refl
copied_beside d q t n right m o = refl

module _ {N : Type 0} (D : Ops N) (law : Lawful D) (laws : CellLaws D) (keeps : KeepsSingles D) (p : Program)
    (ord : Side → Order) (fit : blocks_fit p.types p.blocks ≡ true) (exprs : ExpressionsHold D p ord)
    (plcs : PlacesHold D p ord) (values : ValuesAreOne D p ord) (n : ℕ) where
  -- ---- an address

  module _ (seen : List ℕ) (e : Expr) (typed : is_address p.types p.blocks seen e ≡ true) (k : Known N) (m : Memories)
      (kept : IsKeptOne D p ord k m) (mode : Mode) where
    abbrev f : Side → Machine
    f s = value (ord s) p e

    abbrev to : Given N
    to = (expression D (sizes_of p.blocks) e).gives mode k

    ty : (t : ℕ) × (has_sort p.types p.blocks seen e (pointer_to t) ≡ true)
    ty = pointer_where p.types p.blocks seen (has_sort p.types p.blocks seen e) typed

    address_held : Evaluated D p ord mode k m Pointer f to
    address_held = expr_is D laws p ord fit exprs plcs seen e (pointer_to ty.0) ty.1 Pointer refl k m kept.kept mode

    address_one : (at : Side → Spot)
        → ((s : Side) → runs mode s ≡ true → f s (memory_of s m) ≡ has (pointer (at s).0 (at s).1))
        → IsOneGiven D mode to
    address_one at is =
        (values keeps fit seen e (pointer_to ty.0) ty.1).gives k m kept mode
        (λ s r. (pointer (at s).0 (at s).1, is s r))

  -- ---- what is known

  module _ (a b : Expr) (seen : List ℕ)
      (typed : (is_length n && is_address p.types p.blocks seen a && is_address p.types p.blocks seen b) ≡ true)
      (k : Known N) (m : Memories) (kept : IsKeptOne D p ord k m) (mode : Mode) (at fr : Side → Spot)
      (to_is : (s : Side) → runs mode s ≡ true → value (ord s) p a (memory_of s m) ≡ has (pointer (at s).0 (at s).1))
      (from_is : (s : Side) → runs mode s ≡ true → value (ord s) p b (memory_of s m) ≡ has (pointer (fr s).0 (fr s).1))
      (copy_is : (s : Side) → runs mode s ≡ true → IsCopyFree (ord s) p n (at s) (fr s)) where
    parts : (is_length n ≡ true) × (is_address p.types p.blocks seen a ≡ true)
        × (is_address p.types p.blocks seen b ≡ true)
    parts = three (is_length n) (is_address p.types p.blocks seen a) (is_address p.types p.blocks seen b) typed

    some : 0 < n
    some = some_length n parts.0

    abbrev xs : Given N
    xs = (expression D (sizes_of p.blocks) a).gives mode k

    abbrev ys : Given N
    ys = (expression D (sizes_of p.blocks) b).gives mode k

    to_held : Evaluated D p ord mode k m Pointer (λ s. value (ord s) p a) xs
    to_held = address_held seen a parts.1 k m kept mode

    from_held : Evaluated D p ord mode k m Pointer (λ s. value (ord s) p b) ys
    from_held = address_held seen b parts.2 k m kept mode

    to_one : IsOneGiven D mode xs
    to_one = address_one seen a parts.1 k m kept mode at to_is

    from_one : IsOneGiven D mode ys
    from_one = address_one seen b parts.2 k m kept mode fr from_is

    to_at : (s : Side) → runs mode s ≡ true
        → IsRunAt D law p ord k m mode (λ s. value (ord s) p a) xs to_held.holds to_one n some s (at s)
    to_at s r = record { address = to_is s r; inside = (copy_is s r).target_inside }

    from_at : (s : Side) → runs mode s ≡ true
        → IsRunAt D law p ord k m mode (λ s. value (ord s) p b) ys from_held.holds from_one n some s (fr s)
    from_at s r = record { address = from_is s r; inside = (copy_is s r).source_inside }

    abbrev targets : Places
    targets = run_places D law p ord k m mode (λ s. value (ord s) p a) xs to_held.holds to_one n some

    abbrev sources : Places
    sources = run_places D law p ord k m mode (λ s. value (ord s) p b) ys from_held.holds from_one n some

    target_is : (s : Side) → runs mode s ≡ true → at_side targets s ≡ at s ∷ []
    target_is s r =
        place_is D law p ord k m mode (λ s. value (ord s) p a) xs to_held.holds to_one n some s (at s) r (to_at s r)

    source_is : (s : Side) → runs mode s ≡ true → at_side sources s ≡ fr s ∷ []
    source_is s r =
        place_is D law p ord k m mode (λ s. value (ord s) p b) ys from_held.holds from_one n some s (fr s) r
        (from_at s r)

    to_into : (s : Side) → runs mode s ≡ true → IsOneInto D (on_side xs.pair s).value (at s).0 (at s).1
    to_into s r =
        into D law p ord k m mode (λ s. value (ord s) p a) xs to_held.holds to_one n some s (at s) r (to_at s r)

    from_into : (s : Side) → runs mode s ≡ true → IsOneInto D (on_side ys.pair s).value (fr s).0 (fr s).1
    from_into s r =
        into D law p ord k m mode (λ s. value (ord s) p b) ys from_held.holds from_one n some s (fr s) r (from_at s r)

    no_overlap : overlap_faults D (sizes_of p.blocks) mode false n xs.pair ys.pair ≡ []
    no_overlap =
        faults_on-none mode U9
        (λ s. shown_if (may_overlap D (sizes_of p.blocks) false n (on_side xs.pair s) (on_side ys.pair s)))
        (λ s r. ap shown_if (none_told D law (sizes_of p.blocks) n (on_side xs.pair s) (on_side ys.pair s) (at s) (fr s)
        (to_into s r) (from_into s r) (copy_is s r).free))

    copies : can_copy D mode false n targets sources ≡ true
    copies =
        on_all_by mode (λ s. some_apart D false n (at_side targets s) (at_side sources s))
        (λ s r. subst (λ l. some_apart D false n l (at_side sources s) ≡ true) (sym (target_is s r))
        (subst (λ l. some_apart D false n (at s ∷ []) l ≡ true) (sym (source_is s r))
        (any_apart D law (sizes_of p.blocks) n false (at s) (fr s) (at s ∷ []) (fr s ∷ []) (here []) (here [])
        (are_free n (at s) (fr s) (copy_is s r).free))))

    abbrev joint : Bool
    joint = is_same D xs.pair && is_same D ys.pair

    -- the same places where both are known to be the same
    one_copy : mode ≡ Both → joint ≡ true → (at left ≡ at right) × (fr left ≡ fr right)
    one_copy e t =
        let h = and_parts (is_same D xs.pair) (is_same D ys.pair) t in
        let l = runs_both mode left e in
        let r = runs_both mode right e in (
          one_spot D law p ord k m mode e (λ s. value (ord s) p a) xs to_held to_one.quiet h.0 (at left) (at right)
              (to_is left l) (to_is right r),
          one_spot D law p ord k m mode e (λ s. value (ord s) p b) ys from_held from_one.quiet h.1 (fr left) (fr right)
              (from_is left l) (from_is right r),
        )

    abbrev after : Known N
    after = copied D mode joint None targets sources n k

    copied_after : IsOneAfter D law n k after (copied_on k.model at fr n mode m)
    copied_after =
        copied_one D law n mode joint targets sources at fr target_is source_is k m kept.one
        (λ s r.
        (let z = ends D law p ord k m mode (λ s. value (ord s) p a) xs to_held.holds to_one n some fit s (at s)
        (to_at s r)
        in omega (arith, z))) one_copy

    abbrev o : Memories
    o = copied_on p.types.model at fr n mode m

    stands : ConcretisesOne D p ord after o.left o.right
    stands =
        let i = subst (λ d. IsOneAfter D law n k after
        (copied_on d at fr n mode m)) kept.kept.state.model copied_after in
        record {
          state = record {
            orders = i.orders ∙ kept.kept.state.orders;
            model = i.model ∙ kept.kept.state.model;
            cells = i.one.cells;
          };
          one = i.one;
        }

    copy_exact : (r : Option (ℕ × Scalar)) → StepIsExact D p ord (simple_step D p mode r (copy_bytes a b n) k) o
    copy_exact r = record {
      faults = no_faults (xs.faults ++ ys.faults)
          (range_faults D (sizes_of p.blocks) mode n xs.pair ++ (range_faults D (sizes_of p.blocks) mode n ys.pair
          ++ overlap_faults D (sizes_of p.blocks) mode false n xs.pair ys.pair))
          (no_faults xs.faults ys.faults to_one.quiet from_one.quiet)
          (no_faults (range_faults D (sizes_of p.blocks) mode n xs.pair)
          (range_faults D (sizes_of p.blocks) mode n ys.pair
          ++ overlap_faults D (sizes_of p.blocks) mode false n xs.pair ys.pair)
          (quiet D law p ord k m mode (λ s. value (ord s) p a) xs to_held.holds to_one n some at to_at)
          (no_faults (range_faults D (sizes_of p.blocks) mode n ys.pair)
          (overlap_faults D (sizes_of p.blocks) mode false n xs.pair ys.pair)
          (quiet D law p ord k m mode (λ s. value (ord s) p b) ys from_held.holds from_one n some fr from_at)
          no_overlap));
      next = subst (λ t. IsThere (λ j. ConcretisesOne D p ord j o.left o.right) (if_goes_on t after)) (sym copies)
          stands;
    }

  -- ---- machines

  module _ (a b : Expr) where
    copied_by : (P : State → Type 0) (i : Side) (r : Option (ℕ × Scalar)) (l c : ℕ) (s : State)
        → ((q t : Spot) → value (ord i) p a s.memory ≡ has (pointer q.0 q.1)
        → value (ord i) p b s.memory ≡ has (pointer t.0 t.1) → IsCopyFree (ord i) p n q t
        → P (remembers (copied_bytes p.types.model s.memory q.0 q.1 t.0 t.1 n) s))
        → IfLeft on P (does (ord i) p uncounted r (copy_bytes a b n) l c s)
    copied_by P i r l c s more =
        if_given on P l s (value (ord i) p a s.memory)
        (λ w. given (value (ord i) p b s.memory) l s (λ v. between w v))
        (λ w ew. if_given on P l s (value (ord i) p b s.memory) (λ v. between w v)
        (λ v ev. if_place on P l s w (λ b q. to_place v b q)
        (λ b q eq. if_place on P l s v (λ c' t. goes_to b q c' t)
        (λ c' t et. if_unless on P l s (copy_fault (ord i) p b q c' t n false)
        (leaves on c (remembers (copied_bytes p.types.model s.memory b q c' t n) s))
        (λ none. (
          refl,
          more (b, q) (c', t) (ew ∙ ap has eq) (ev ∙ ap has et)
              (copy_free (ord i) p n (b, q) (c', t) none),
        ))))))
      where
        goes_to : ℕ → ℕ → ℕ → ℕ → Outcome
        goes_to b q c' t = copy_at (ord i) p b q c' t n false l c s

        to_place : Datum → ℕ → ℕ → Outcome
        to_place v b q = at_place v l s (goes_to b q)

        between : Datum → Datum → Outcome
        between w v = at_place w l s (to_place v)

    -- ---- the statement

    pub copy_is_exact : StatementIsExact D p ord (copy_bytes a b n)
    copy_is_exact = record {
      alone = λ i here h there seen typed quiet l c s x y seen_from.
          (let kept = kept_beside D p ord i s x y seen_from in
          copied_by _ i h.result l c x
          (λ q t ea eb free.
          exact_beside D p ord i s (simple_step D p (alone i) h.result (copy_bytes a b n) s)
          (copied_bytes p.types.model x.memory q.0 q.1 t.0 t.1 n) y.memory kept.kept.state
          (subst (λ (m : Memories). StepIsExact D p ord (simple_step D p (alone i) h.result (copy_bytes a b n) s) m)
          (copied_beside p.types.model q t n i x.memory y.memory)
          (copy_exact a b seen typed s (pair_of i x.memory y.memory) kept (alone i) (λ s. q) (λ s. t)
          (beside i (λ s. value (ord s) p a) x.memory y.memory (pointer q.0 q.1) ea)
          (beside i (λ s. value (ord s) p b) x.memory y.memory (pointer t.0 t.1) eb)
          (λ s r. subst (λ j. IsCopyFree (ord j) p n q t) (only_runs i s r) free) h.result))));
      both = λ here h there seen typed quiet l c d s x y one.
          (let kept = kept_one D p ord s x y one in
          copied_by _ left h.result l c x
          (λ q t ea eb free. copied_by _ right h.result l d y
          (λ u v ec ed loose o.
          exact_both D p ord s (simple_step D p Both h.result (copy_bytes a b n) s)
          (copied_bytes p.types.model x.memory q.0 q.1 t.0 t.1 n)
          (copied_bytes p.types.model y.memory u.0 u.1 v.0 v.1 n) kept.kept.state
          (copy_exact a b seen typed s (memories x.memory y.memory) kept Both (spot_on q u) (spot_on t v)
          (of_both (λ s. value (ord s) p a (memory_of s (memories x.memory y.memory))
          ≡ has (pointer (spot_on q u s).0 (spot_on q u s).1)) ea ec)
          (of_both (λ s. value (ord s) p b (memory_of s (memories x.memory y.memory))
          ≡ has (pointer (spot_on t v s).0 (spot_on t v s).1)) eb ed)
          (of_both (λ s. IsCopyFree (ord s) p n (spot_on q u s) (spot_on t v s)) free loose) h.result))));
    }

-- ---- all copies of bytes

module _ {N : Type 0} (D : Ops N) (law : Lawful D) where
  by_form : (keeps : KeepsSingles D) (p : Program) (ord : Side → Order) → blocks_fit p.types p.blocks ≡ true
      → ExpressionsHold D p ord → PlacesHold D p ord → ValuesAreOne D p ord → (w : Simple) → IsByteCopy w
      → StatementIsExact D p ord w
  by_form keeps p ord fit exprs plcs values _ (is_byte_copy a b n) =
      copy_is_exact D law (cell_laws D law) keeps p ord fit exprs plcs values n a b

  pub byte_copies_are_exact : StatementsAreExact D IsByteCopy
  byte_copies_are_exact keeps p ord formed other values places w h =
      by_form keeps p ord (sizes p formed) ((evaluation_laws D law).expressions p ord)
      ((evaluation_laws D law).places p ord) values w h
