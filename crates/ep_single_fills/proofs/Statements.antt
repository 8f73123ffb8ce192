-- A fill: one byte goes to each byte of a place.
use Rattle.std.proofs.Common.{◌≡◌, ℕ, ◌+◌, ◌<◌, ◌≤◌, ℤ, Bool, true, ◌&&◌, cond, List, [], ◌++◌}
use Rattle.std.proofs.Common.{Option, refl, sym, ap, ◌∙◌, subst}
use Rattle.std.proofs.lemmas.Bool.{and_from, and_parts}
use Rattle.ep_int.specs.declared.types.IntType.TheVariants.{U8}
use Rattle.ep_int.specs.declared.types.Order.{Order}
use Rattle.ep_int.specs.declared.types.Scalar.{Scalar}
use Rattle.ep_int.specs.declared.types.Scalar.TheVariants.{Int, Pointer}
use Rattle.ep_int.specs.Memory.{Value as Datum, int, pointer, has, range_fault}
use Rattle.ep_domain.specs.Domain.{Ops, Lawful}
use Rattle.ep_cells.specs.States.{Known}
use Rattle.ep_cells.specs.Meaning.{Memories}
use Rattle.ep_cell_ranges.specs.Spots.{Spot}
use Rattle.ep_core.specs.Program.{Expr, Simple, fill, Program}
use Rattle.ep_core.specs.Exec.{State, Outcome, on, leaves, uncounted, value, given, with_int, at_place, change, does}
use Rattle.ep_core.specs.Exec.{remembers}
use Rattle.ep_core.specs.Exec.{size_at}
use Rattle.ep_core.specs.Runs.{Side, left, right}
use Rattle.ep_core.specs.WellFormed.{is_length, is_address, has_sort, integer, pointer_to, blocks_fit}
use Rattle.ep_core.proofs.Operands.{sizes}
use Rattle.ep_core.proofs.Sorts.{pointer_where}
use Rattle.ep_equalities.specs.declared.pair.Mode.{Mode}
use Rattle.ep_equalities.specs.declared.pair.Mode.TheVariants.{Both}
use Rattle.ep_equalities.specs.Same.{is_same}
use Rattle.ep_evaluation.specs.Given.{Given, alone, runs}
use Rattle.ep_evaluation.specs.Given.{on as on_side}
use Rattle.ep_evaluation.specs.Evaluation.{expression}
use Rattle.ep_evaluation.specs.Laws.{Machine, memory_of, sizes_of, ExpressionsHold, PlacesHold}
use Rattle.ep_evaluation.proofs.Gathered.{evaluation_laws}
use Rattle.ep_evaluation.proofs.General.{runs_both}
use Rattle.ep_transfers.specs.Places.{Places, has_places, has_values, range_faults}
use Rattle.ep_transfers.specs.Writes.{Underway, underway, item_of, write_run}
use Rattle.ep_transfers.specs.Transfers.{if_goes_on, fill_places, fill_sides, simple_step}
use Rattle.ep_transfers.specs.Laws.{memories, CellLaws}
use Rattle.ep_transfers.proofs.Evaluated.{pair_of, Evaluated}
use Rattle.ep_transfers.proofs.Fills.{fill_beside, some_length}
use Rattle.ep_transfers.proofs.Filled.{fill_of, filled_on}
use Rattle.ep_transfers.proofs.Gathered.{cell_laws}
use Rattle.ep_transfers.proofs.RunSteps.{spot_on}
use Rattle.ep_transfers.proofs.RunWaits.{only_runs, operand_waits}
use Rattle.ep_transfers.proofs.Stored.{expr_is}
use Rattle.ep_closed_laws.specs.Exactly.{IfLeft, IsThere}
use Rattle.ep_singles.specs.Numbers.{KeepsSingles}
use Rattle.ep_singles.specs.Cells.{IsOneValue}
use Rattle.ep_single_given.specs.Laws.{IsOneGiven}
use Rattle.ep_single_given.proofs.Given.{no_faults}
use Rattle.ep_single_narrowed.specs.Laws.{IsKeptOne}
use Rattle.ep_single_states.specs.Laws.{ConcretisesOne}
use Rattle.ep_single_values.specs.Laws.{ValuesAreOne}
use Rattle.ep_single_values.specs.Statements.{StatementIsExact, StatementsAreExact}
use Rattle.ep_single_runs.proofs.Steps.{if_given, if_int, if_place, if_unless, kept_one, kept_beside, StepIsExact}
use Rattle.ep_single_runs.proofs.Steps.{exact_both, exact_beside, values_there}
use Rattle.ep_single_runs.proofs.Modes.{of_both, beside, one_spot}
use Rattle.ep_single_runs.proofs.Located.{in_range, IsRunAt, run_places, place_is, ends, quiet, there, all_one}
use Rattle.ep_single_fills.specs.Laws.{IsFill, is_fill}
use Rattle.ep_single_fills.proofs.Runs.{Begins, filled_one}

abbrev number_on : (left right : ℤ) → Side → ℤ
number_on l r left = l
number_on l r right = r

module _ {N : Type 0} (D : Ops N) (law : Lawful D) (laws : CellLaws D) (keeps : KeepsSingles D) (p : Program)
    (ord : Side → Order) (fit : blocks_fit p.types p.blocks ≡ true) (exprs : ExpressionsHold D p ord)
    (plcs : PlacesHold D p ord) (values : ValuesAreOne D p ord) (a e : Expr) (n : ℕ) where
  abbrev Typed : List ℕ → Type 0
  Typed seen =
      (is_length n && is_address p.types p.blocks seen a && has_sort p.types p.blocks seen e (integer U8)) ≡ true

  abbrev f : Side → Machine
  f s = value (ord s) p a

  abbrev g : Side → Machine
  g s = value (ord s) p e

  -- ---- what is known

  module _ (seen : List ℕ) (typed : Typed seen) (k : Known N) (m : Memories) (kept : IsKeptOne D p ord k m)
      (mode : Mode) (at : Side → Spot) (z : Side → ℤ)
      (to_is : (s : Side) → runs mode s ≡ true → f s (memory_of s m) ≡ has (pointer (at s).0 (at s).1))
      (byte_is : (s : Side) → runs mode s ≡ true → g s (memory_of s m) ≡ has (int (z s)))
      (inside : (s : Side) → runs mode s ≡ true → (at s).1 + n ≤ size_at (ord s) p (at s).0) where
    abbrev to : Given N
    to = (expression D (sizes_of p.blocks) a).gives mode k

    abbrev v : Given N
    v = (expression D (sizes_of p.blocks) e).gives mode k

    parts : ((is_length n && is_address p.types p.blocks seen a) ≡ true)
        × (has_sort p.types p.blocks seen e (integer U8) ≡ true)
    parts = and_parts (is_length n && is_address p.types p.blocks seen a)
        (has_sort p.types p.blocks seen e (integer U8)) typed

    first : (is_length n ≡ true) × (is_address p.types p.blocks seen a ≡ true)
    first = and_parts (is_length n) (is_address p.types p.blocks seen a) parts.0

    some : 0 < n
    some = some_length n first.0

    ty : (t : ℕ) × (has_sort p.types p.blocks seen a (pointer_to t) ≡ true)
    ty = pointer_where p.types p.blocks seen (has_sort p.types p.blocks seen a) first.1

    to_one : IsOneGiven D mode to
    to_one = (values keeps fit seen a (pointer_to ty.0) ty.1).gives k m kept mode
        (λ s r. (pointer (at s).0 (at s).1, to_is s r))

    byte_one : IsOneGiven D mode v
    byte_one = (values keeps fit seen e (integer U8) parts.1).gives k m kept mode (λ s r. (int (z s), byte_is s r))

    to_held : Evaluated D p ord mode k m Pointer f to
    to_held = expr_is D laws p ord fit exprs plcs seen a (pointer_to ty.0) ty.1 Pointer refl k m kept.kept mode

    byte_held : Evaluated D p ord mode k m (Int U8) g v
    byte_held = expr_is D laws p ord fit exprs plcs seen e (integer U8) parts.1 (Int U8) refl k m kept.kept mode

    at_place_of : (s : Side) → runs mode s ≡ true →
        IsRunAt D law p ord k m mode f to to_held.holds to_one n some s (at s)
    at_place_of s r = record { address = to_is s r; inside = inside s r }

    abbrev pl : Places
    pl = run_places D law p ord k m mode f to to_held.holds to_one n some

    no_faults_at : range_faults D (sizes_of p.blocks) mode n to.pair ≡ []
    no_faults_at = quiet D law p ord k m mode f to to_held.holds to_one n some at at_place_of

    rooms : (s : Side) → runs mode s ≡ true → (at s).1 + n ≤ 65536
    rooms s r = ends D law p ord k m mode f to to_held.holds to_one n some fit s (at s) (at_place_of s r)

    abbrev u : Underway N
    u = underway k (item_of D v.pair)

    abbrev os : Order × Order
    os = (ord left, ord right)

    abbrev same : Bool
    same = is_same D to.pair

    begins : Begins D law laws keeps os p.types.model at n some z mode same u m
    begins = record {
      one = kept.one;
      orders = kept.kept.state.orders;
      model = kept.kept.state.model;
      waits = operand_waits D laws p ord k m mode same (Int U8) g v byte_held byte_one.quiet (λ s. int (z s)) byte_is;
      left_sure = refl;
      right_sure = refl;
      values = λ s r. by_side s (byte_one.each s r);
    }
      where
        by_side : (s : Side) → IsOneValue D (on_side v.pair s).value →
            IsOneValue D (on_side (item_of D v.pair).pair s).value
        by_side left i = i
        by_side right i = i

    -- one place where both are known to be the same
    one_at : mode ≡ Both → same ≡ true → at left ≡ at right
    one_at b t =
        one_spot D law p ord k m mode b f to to_held to_one.quiet t (at left) (at right)
        (to_is left (runs_both mode left b)) (to_is right (runs_both mode right b))

    abbrev after : Underway N
    after = write_run D mode same (Int U8) pl 0 n u

    filled : Begins D law laws keeps os p.types.model at n some z mode same after
        (filled_on os p.types.model at n z mode m)
    filled =
        filled_one D law laws keeps os p.types.model at n some z mode same pl
        (λ s r. place_is D law p ord k m mode f to to_held.holds to_one n some s (at s) r
        (at_place_of s r)) rooms one_at u
        m begins

    goes : (has_places mode pl && has_values mode v.pair) ≡ true
    goes =
        and_from (has_places mode pl) (has_values mode v.pair)
        (there D law p ord k m mode f to to_held.holds to_one n some at at_place_of)
        (values_there D p ord mode v byte_one)

    after_is : fill_places D (sizes_of p.blocks) mode n same pl u ≡ after
    after_is =
        ap (λ t. cond t after (fill_sides D (sizes_of p.blocks) mode n mode pl u))
        (all_one D law p ord k m mode f to to_held.holds to_one n some at at_place_of)

    filled_state : (w : Underway N) (j : Memories) → Begins D law laws keeps os p.types.model at n some z mode same w j
        → ConcretisesOne D p ord w.known j.left j.right
    filled_state w j b = record {
      state = record { orders = b.orders; model = b.model; cells = b.one.cells };
      one = b.one;
    }

    fill_exact : (r : Option (ℕ × Scalar))
        → StepIsExact D p ord (simple_step D p mode r (fill a e n) k) (filled_on os p.types.model at n z mode m)
    fill_exact r = record {
      faults = no_faults (to.faults ++ v.faults) (range_faults D (sizes_of p.blocks) mode n to.pair)
          (no_faults to.faults v.faults to_one.quiet byte_one.quiet) no_faults_at;
      next = subst (λ t. IsThere (λ t. ConcretisesOne D p ord t (filled_on os p.types.model at n z mode m).left
          (filled_on os p.types.model at n z mode m).right)
          (if_goes_on t (fill_places D (sizes_of p.blocks) mode n same pl u).known)) (sym goes)
          (subst (λ (w : Underway N). ConcretisesOne D p ord w.known (filled_on os p.types.model at n z mode m).left
          (filled_on os p.types.model at n z mode m).right) (sym after_is)
          (filled_state after (filled_on os p.types.model at n z mode m) filled));
    }

  -- ---- machines

  fills : (P : State → Type 0) (i : Side) (r : Option (ℕ × Scalar)) (l c : ℕ) (s : State)
      → ((q : Spot) (x : ℤ) → f i s.memory ≡ has (pointer q.0 q.1) → g i s.memory ≡ has (int x)
      → q.1 + n ≤ size_at (ord i) p q.0 → P (remembers (fill_of p.types.model q n x s.memory) s))
      → IfLeft on P (does (ord i) p uncounted r (fill a e n) l c s)
  fills P i r l c s more =
      if_given on P l s (f i s.memory) (λ w. given (g i s.memory) l s (λ v. bytes_to w v))
      (λ w ew. if_given on P l s (g i s.memory) (λ v. bytes_to w v)
      (λ v ev. if_int on P l s v (λ x. byte_to w x)
      (λ x ex. if_place on P l s w (λ b q. byte_at x b q)
      (λ b q eq. if_unless on P l s (range_fault (size_at (ord i) p b) q n)
      (leaves on c (remembers (fill_of p.types.model (b, q) n x s.memory) s))
      (λ il. (refl, more (b, q) x (ew ∙ ap has eq) (ev ∙ ap has ex) (in_range (size_at (ord i) p b) q n il)))))))
    where
      byte_at : ℤ → ℕ → ℕ → Outcome
      byte_at x b q = change (ord i) p b q n (fill_of p.types.model (b, q) n x s.memory) l c s

      byte_to : Datum → ℤ → Outcome
      byte_to w x = at_place w l s (byte_at x)

      bytes_to : Datum → Datum → Outcome
      bytes_to w v = with_int v l s (byte_to w)

  -- ---- the statement

  pub fill_is : StatementIsExact D p ord (fill a e n)
  fill_is = record {
    alone = λ i here h there seen typed quiet l c s x y seen_from.
        (let kept = kept_beside D p ord i s x y seen_from in
        fills _ i h.result l c x
        (λ q z ea ee inside.
        exact_beside D p ord i s (simple_step D p (alone i) h.result (fill a e n) s)
        (fill_of p.types.model q n z x.memory) y.memory kept.kept.state
        (subst (λ (m : Memories). StepIsExact D p ord (simple_step D p (alone i) h.result (fill a e n) s) m)
        (fill_beside (ord left, ord right) p.types.model q n z i x.memory y.memory)
        (fill_exact seen typed s (pair_of i x.memory y.memory) kept (alone i) (λ s. q) (λ s. z)
        (beside i f x.memory y.memory (pointer q.0 q.1) ea) (beside i g x.memory y.memory (int z) ee)
        (λ s r. subst (λ j. q.1 + n ≤ size_at (ord j) p q.0) (only_runs i s r) inside) h.result))));
    both = λ here h there seen typed quiet l c d s x y one.
        (let kept = kept_one D p ord s x y one in
        fills _ left h.result l c x
        (λ q u ea ee il. fills _ right h.result l d y
        (λ t v eb ef ir o.
        exact_both D p ord s (simple_step D p Both h.result (fill a e n) s) (fill_of p.types.model q n u x.memory)
        (fill_of p.types.model t n v y.memory) kept.kept.state
        (fill_exact seen typed s (memories x.memory y.memory) kept Both (spot_on q t) (number_on u v)
        (of_both (λ s. f s (memory_of s (memories x.memory y.memory))
        ≡ has (pointer (spot_on q t s).0 (spot_on q t s).1))
        ea eb)
        (of_both (λ s. g s (memory_of s (memories x.memory y.memory)) ≡ has (int (number_on u v s))) ee ef)
        (of_both (λ s. (spot_on q t s).1 + n ≤ size_at (ord s) p (spot_on q t s).0) il ir) h.result))));
  }

-- ---- all fills

module _ {N : Type 0} (D : Ops N) (law : Lawful D) where
  by_form : (keeps : KeepsSingles D) (p : Program) (ord : Side → Order) → blocks_fit p.types p.blocks ≡ true
      → ExpressionsHold D p ord → PlacesHold D p ord → ValuesAreOne D p ord → (w : Simple) → IsFill w
      → StatementIsExact D p ord w
  by_form keeps p ord fit exprs plcs values _ (is_fill a e n) =
      fill_is D law (cell_laws D law) keeps p ord fit exprs plcs values a e n

  pub fills_are_exact : StatementsAreExact D IsFill
  fills_are_exact keeps p ord formed other values places w h =
      by_form keeps p ord (sizes p formed) ((evaluation_laws D law).expressions p ord)
      ((evaluation_laws D law).places p ord) values w h
