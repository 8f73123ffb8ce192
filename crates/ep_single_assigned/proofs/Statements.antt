-- Assignments of scalars, and returns.
use Rattle.std.proofs.Common.{◌≡◌, ℕ, pos, true, false, ◌&&◌, List, [], ◌++◌, slice_get, Option, Some, None, refl}
use Rattle.std.proofs.Common.{sym, subst, option_to_list, arith}
use Rattle.std.specs.Prelude.{option_and_then}
use Rattle.std.specs.List.{list_all}
use Rattle.std.proofs.lemmas.Bool.{and_parts}
use Rattle.ep_int.specs.declared.types.Order.{Order}
use Rattle.ep_int.specs.declared.types.Scalar.{Scalar}
use Rattle.ep_int.specs.declared.types.Scalar.TheVariants.{Pointer}
use Rattle.ep_int.specs.Memory.{Memory, pointer as into_block, has}
use Rattle.ep_domain.specs.Domain.{Ops, Lawful}
use Rattle.ep_pointers.specs.Value.{one_target, only_place}
use Rattle.ep_cells.specs.States.{Known}
use Rattle.ep_cells.specs.Meaning.{Memories}
use Rattle.ep_core.specs.Program.{Expr, Place, Simple, assign, returns, Function, Program}
use Rattle.ep_core.specs.Exec.{State, on, leaves, returned as by_return, uncounted, value, address, does}
use Rattle.ep_core.specs.Exec.{given, put_at, put_to}
use Rattle.ep_core.specs.Runs.{Side, left, right}
use Rattle.ep_core.specs.WellFormed.{has_scalar, ty_at, has_type, place_has, blocks_fit, block_type}
use Rattle.ep_core.specs.WellFormed.{holds_scalar, result_type, result_fits, is_well_formed}
use Rattle.ep_core.proofs.Operands.{sizes, fits_at}
use Rattle.ep_core.proofs.Sorts.{type_where, typed_where}
use Rattle.ep_pass.specs.States.{Both as both_run, One}
use Rattle.ep_equalities.specs.declared.pair.Mode.{Mode}
use Rattle.ep_equalities.specs.declared.pair.Mode.TheVariants.{Both}
use Rattle.ep_evaluation.specs.Given.{Given, alone, runs}
use Rattle.ep_evaluation.specs.Evaluation.{expression, place, pointer_given}
use Rattle.ep_evaluation.specs.Laws.{Machine, memory_of, sizes_of, ExpressionsHold, PlacesHold}
use Rattle.ep_evaluation.proofs.Gathered.{evaluation_laws}
use Rattle.ep_reads.proofs.Numbers.{small_number}
use Rattle.ep_transfers.specs.Transfers.{Stepped, stepped, assigned, simple_step}
use Rattle.ep_transfers.specs.Laws.{memories}
use Rattle.ep_transfers.proofs.Evaluated.{pair_of, Evaluated}
use Rattle.ep_transfers.proofs.Gathered.{cell_laws}
use Rattle.ep_transfers.proofs.Stored.{place_is, block_is, typed_is}
use Rattle.ep_transfers.specs.Cells.{cell_ops}
use Rattle.ep_closed_laws.specs.Exactly.{IfLeft, IfBothLeft, TransferIsExact}
use Rattle.ep_closed_laws.specs.Closely.{ConcretisesOneBeside}
use Rattle.ep_singles.specs.Numbers.{KeepsSingles}
use Rattle.ep_single_states.specs.Laws.{ConcretisesOne}
use Rattle.ep_single_narrowed.specs.Laws.{IsKeptOne}
use Rattle.ep_single_given.specs.Laws.{FindAll, IsOneGiven}
use Rattle.ep_single_given.proofs.Given.{no_faults, pointers_give_one}
use Rattle.ep_single_puts.specs.Laws.{IsPutAt}
use Rattle.ep_single_runs.proofs.Steps.{if_more, both_by, if_given, find_both, find_alone, kept_one, kept_beside}
use Rattle.ep_single_runs.proofs.Steps.{StepIsExact, after_exact, exact_both, exact_beside}
use Rattle.ep_single_values.specs.Laws.{ValuesAreOne, PlacesAreOne}
use Rattle.ep_single_values.specs.Statements.{StatementIsExact, StatementsAreExact}
use Rattle.ep_single_assigned.specs.Laws.{IsStore, store_assign, store_return}
use Rattle.ep_single_assigned.proofs.Machines.{put_there, puts_so, running_so, still_so}
use Rattle.ep_single_assigned.proofs.Puts.{assigned_exact}

-- of both machines
both_so : (P : Side → Memory → Memory → Type 0) (m n : Memories) → P left m.left n.left → P right m.right n.right
    → (s : Side) → runs Both s ≡ true → P s (memory_of s m) (memory_of s n)
both_so P m n a b left r = a
both_so P m n a b right r = b

none_still : (m n : Memories) (s : Side) → runs Both s ≡ false → memory_of s n ≡ memory_of s m
none_still m n left r = absurd (let d : true ≡ false = r in cc)
none_still m n right r = absurd (let d : true ≡ false = r in cc)

module _ {N : Type 0} (D : Ops N) (law : Lawful D) (keeps : KeepsSingles D) (p : Program) (ord : Side → Order)
    (formed : is_well_formed p ≡ true) (fit : blocks_fit p.types p.blocks ≡ true) (exprs : ExpressionsHold D p ord)
    (plcs : PlacesHold D p ord) (values : ValuesAreOne D p ord) (places : PlacesAreOne D p ord) where
  -- what a machine does with an address and a value
  abbrev Puts : Scalar → (f g : Side → Machine) → Side → Memory → Memory → Type 0
  Puts w f g s m n = IsPutAt p (ord s) w (f s m) (g s m) m n

  -- ---- a value of an address

  module _ (w : Scalar) (f g : Side → Machine) (to v : Mode → Known N → Given N)
      (sound_to : (k : Known N) (m : Memories) → IsKeptOne D p ord k m → (mode : Mode)
      → Evaluated D p ord mode k m Pointer f (to mode k))
      (sound_v : (k : Known N) (m : Memories) → IsKeptOne D p ord k m → (mode : Mode)
      → Evaluated D p ord mode k m w g (v mode k))
      (one_to : (k : Known N) (m : Memories) → IsKeptOne D p ord k m → (mode : Mode) → FindAll mode f m
      → IsOneGiven D mode (to mode k))
      (one_v : (k : Known N) (m : Memories) → IsKeptOne D p ord k m → (mode : Mode) → FindAll mode g m
      → IsOneGiven D mode (v mode k)) where
    abbrev step : Mode → Known N → Stepped N
    step mode k = assigned D (sizes_of p.blocks) mode w (to mode k).pair (v mode k).pair k

    -- no fault of what is evaluated, and none of the store
    pub record IsExactStore (mode : Mode) (k : Known N) (o : Memories) : Type 0 where
      pub quiet_to : (to mode k).faults ≡ []
      pub quiet_v : (v mode k).faults ≡ []
      pub exact : StepIsExact D p ord (step mode k) o

    pub store_alone : (i : Side) (k : Known N) (m n y : Memory) → IsKeptOne D p ord k (pair_of i m y)
        → Puts w f g i m n → IsExactStore (alone i) k (pair_of i n y)
    store_alone i k m n y c h =
        let ea = one_to k (pair_of i m y) c (alone i) (find_alone i f m y (into_block h.block h.offset) h.at) in
        let eb = one_v k (pair_of i m y) c (alone i) (find_alone i g m y h.datum h.is) in
        record {
          quiet_to = ea.quiet;
          quiet_v = eb.quiet;
          exact = assigned_exact D law keeps p ord fit w k (pair_of i m y) (pair_of i n y) c f g (to (alone i) k)
              (v (alone i) k) (alone i) (sound_to k (pair_of i m y) c (alone i)) (sound_v k (pair_of i m y) c (alone i))
              ea eb (running_so (Puts w f g) m n y i h) (still_so (Puts w f g) m n y i);
        }

    pub store_both : (k : Known N) (m n : Memories) → IsKeptOne D p ord k m → Puts w f g left m.left n.left
        → Puts w f g right m.right n.right → IsExactStore Both k n
    store_both k m n c h i =
        let ea = one_to k m c Both (find_both f m (into_block h.block h.offset) (into_block i.block i.offset)
        h.at i.at) in
        let eb = one_v k m c Both (find_both g m h.datum i.datum h.is i.is) in
        record {
          quiet_to = ea.quiet;
          quiet_v = eb.quiet;
          exact = assigned_exact D law keeps p ord fit w k m n c f g (to Both k) (v Both k) Both (sound_to k m c Both)
              (sound_v k m c Both) ea eb (both_so (Puts w f g) m n h i) (none_still m n);
        }

  -- ---- assignments

  module _ (w : Scalar) (a : Place) (e : Expr) (seen : List ℕ) (ty : ℕ)
      (scalar : has_scalar (ty_at p.types p.blocks seen ty) w ≡ true)
      (there : place_has p.types p.blocks seen a ty ≡ true) (typed : has_type p.types p.blocks seen e ty ≡ true) where
    abbrev f : Side → Machine
    f s = address (ord s) p a

    abbrev g : Side → Machine
    g s = value (ord s) p e

    abbrev to : Mode → Known N → Given N
    to mode k = place D (sizes_of p.blocks) a mode k

    abbrev v : Mode → Known N → Given N
    v mode k = (expression D (sizes_of p.blocks) e).gives mode k

    sound_place : (k : Known N) (m : Memories) → IsKeptOne D p ord k m → (mode : Mode)
        → Evaluated D p ord mode k m Pointer f (to mode k)
    sound_place k m c mode = place_is D (cell_laws D law) p ord fit exprs plcs seen a ty there k m c.kept mode

    sound_value : (k : Known N) (m : Memories) → IsKeptOne D p ord k m → (mode : Mode)
        → Evaluated D p ord mode k m w g (v mode k)
    sound_value k m c mode = typed_is D (cell_laws D law) p ord fit exprs plcs seen e ty w scalar typed k m c.kept mode

    one_place_is : (k : Known N) (m : Memories) → IsKeptOne D p ord k m → (mode : Mode) → FindAll mode f m
        → IsOneGiven D mode (to mode k)
    one_place_is k m c mode all = places keeps fit seen a ty there k m c mode all

    one_value_is : (k : Known N) (m : Memories) → IsKeptOne D p ord k m → (mode : Mode) → FindAll mode g m
        → IsOneGiven D mode (v mode k)
    one_value_is k m c mode all =
        let t = typed_where p.types p.blocks seen e ty typed in (values keeps fit seen e t.0 t.2).gives k m c mode all

    module _ (r : Option (ℕ × Scalar)) where
      assign_step : (mode : Mode) (k : Known N) (o : Memories)
          → IsExactStore w f g to v sound_place sound_value one_place_is one_value_is mode k o
          → StepIsExact D p ord (simple_step D p mode r (assign w a e) k) o
      assign_step mode k o h =
          after_exact D p ord ((to mode k).faults ++ (v mode k).faults)
          (assigned D (sizes_of p.blocks) mode w (to mode k).pair (v mode k).pair k) o
          (no_faults (to mode k).faults (v mode k).faults h.quiet_to h.quiet_v) h.exact

      pub assign_alone : (i : Side) (k : Known N) (m n y : Memory) → IsKeptOne D p ord k (pair_of i m y)
          → Puts w f g i m n → StepIsExact D p ord (simple_step D p (alone i) r (assign w a e) k) (pair_of i n y)
      assign_alone i k m n y c h =
          assign_step (alone i) k (pair_of i n y)
          (store_alone w f g to v sound_place sound_value one_place_is one_value_is i k m n y c h)

      pub assign_both : (k : Known N) (m n : Memories) → IsKeptOne D p ord k m → Puts w f g left m.left n.left
          → Puts w f g right m.right n.right → StepIsExact D p ord (simple_step D p Both r (assign w a e) k) n
      assign_both k m n c h i =
          assign_step Both k n
          (store_both w f g to v sound_place sound_value one_place_is one_value_is k m n c h i)

  assign_is : (w : Scalar) (a : Place) (e : Expr) → StatementIsExact D p ord (assign w a e)
  assign_is w a e = record {
    alone = λ i here f at seen h quiet l n s x y c.
        (let t = type_where p.types p.blocks seen (λ u. has_scalar u w)
        (λ ty. place_has p.types p.blocks seen a ty && has_type p.types p.blocks seen e ty) h in
        let u = and_parts (place_has p.types p.blocks seen a t.0) (has_type p.types p.blocks seen e t.0) t.2 in
        let k = kept_beside D p ord i s x y c in
        if_more on (λ x'. Puts w (λ i. address (ord i) p a) (λ i. value (ord i) p e) i x.memory x'.memory) _
        (given (address (ord i) p a x.memory) l x
        (λ z. given (value (ord i) p e x.memory) l x (λ v. put_to (ord i) p w z v l x (leaves on n))))
        (λ x' z. exact_beside D p ord i s (simple_step D p (alone i) f.result (assign w a e) s) x'.memory y.memory
        k.kept.state (assign_alone w a e seen t.0 t.1 u.0 u.1 f.result i s x.memory x'.memory y.memory k z))
        (puts_so (ord i) p w on l n x (address (ord i) p a x.memory) (value (ord i) p e x.memory)));
    both = λ here f at seen h quiet l n j s x y c.
        (let t = type_where p.types p.blocks seen (λ u. has_scalar u w)
        (λ ty. place_has p.types p.blocks seen a ty && has_type p.types p.blocks seen e ty) h in
        let u = and_parts (place_has p.types p.blocks seen a t.0) (has_type p.types p.blocks seen e t.0) t.2 in
        let k = kept_one D p ord s x y c in
        both_by on (λ x'. Puts w (λ i. address (ord i) p a) (λ i. value (ord i) p e) left x.memory x'.memory)
        (λ y'. Puts w (λ i. address (ord i) p a) (λ i. value (ord i) p e) right y.memory y'.memory) _
        (given (address (ord left) p a x.memory) l x
        (λ z. given (value (ord left) p e x.memory) l x (λ v. put_to (ord left) p w z v l x (leaves on n))))
        (given (address (ord right) p a y.memory) l y
        (λ z. given (value (ord right) p e y.memory) l y (λ v. put_to (ord right) p w z v l y (leaves on j))))
        (λ x' y' z v o. exact_both D p ord s (simple_step D p Both f.result (assign w a e) s) x'.memory y'.memory
        k.kept.state (assign_both w a e seen t.0 t.1 u.0 u.1 f.result s (memories x.memory y.memory)
        (memories x'.memory y'.memory) k z v))
        (puts_so (ord left) p w on l n x (address (ord left) p a x.memory) (value (ord left) p e x.memory))
        (puts_so (ord right) p w on l j y (address (ord right) p a y.memory) (value (ord right) p e y.memory)));
  }

  -- ---- returns

  -- the block of the result and its type
  pub record IsReturned (f : Function) (seen : List ℕ) (e : Expr) : Type 0 where
    pub block : ℕ
    pub what : Scalar
    pub is : f.result ≡ Some (block, what)
    pub ty : ℕ
    pub scalar : has_scalar (ty_at p.types p.blocks seen ty) what ≡ true
    pub typed : has_type p.types p.blocks seen e ty ≡ true

  returned_typed : (here : ℕ) (f : Function) → slice_get p.functions here ≡ Some f → (seen : List ℕ) (e : Expr)
      → result_fits p.types p.blocks seen (result_type p.blocks f.result) (Some e) ≡ true → IsReturned f seen e
  returned_typed here f at seen e h = by_result f.result refl h
    where
      by_type : (r : ℕ × Scalar) → f.result ≡ Some r → holds_scalar p.types p.blocks r ≡ true → (o : Option ℕ)
          → block_type (slice_get p.blocks r.0) ≡ o → result_fits p.types p.blocks seen o (Some e) ≡ true
          → IsReturned f seen e
      by_type r i g None j h = absurd (let d : false ≡ true = h in cc)
      by_type r i g (Some ty) j h = record {
        block = r.0;
        what = r.1;
        is = i;
        ty = ty;
        scalar = subst (λ z. has_scalar (option_and_then (slice_get p.types.types) z) r.1 ≡ true) j g;
        typed = h;
      }

      by_result : (o : Option (ℕ × Scalar)) → f.result ≡ o
          → result_fits p.types p.blocks seen (result_type p.blocks o) (Some e) ≡ true → IsReturned f seen e
      by_result None i h = absurd (let d : false ≡ true = h in cc)
      by_result (Some r) i h =
          by_type r i
          (and_parts (holds_scalar p.types p.blocks r) true
          (subst (λ o. list_all (holds_scalar p.types p.blocks) (option_to_list o) ≡ true) i
          (fits_at p formed here f at).1)).0
          (block_type (slice_get p.blocks r.0)) refl h

  module _ (seen : List ℕ) (e : Expr) (b : ℕ) (w : Scalar) (ty : ℕ)
      (scalar : has_scalar (ty_at p.types p.blocks seen ty) w ≡ true)
      (typed : has_type p.types p.blocks seen e ty ≡ true) where
    abbrev block_at : Side → Machine
    block_at s m = has (into_block b 0)

    abbrev returned_value : Side → Machine
    returned_value s = value (ord s) p e

    abbrev block_given : Mode → Known N → Given N
    block_given mode k = pointer_given D (one_target b (D.single (pos 0))) mode

    abbrev value_given : Mode → Known N → Given N
    value_given mode k = (expression D (sizes_of p.blocks) e).gives mode k

    sound_block : (k : Known N) (m : Memories) → IsKeptOne D p ord k m → (mode : Mode)
        → Evaluated D p ord mode k m Pointer block_at (block_given mode k)
    sound_block k m c mode = block_is D (cell_laws D law) p ord fit exprs plcs b k m c.kept mode

    sound_returned : (k : Known N) (m : Memories) → IsKeptOne D p ord k m → (mode : Mode)
        → Evaluated D p ord mode k m w returned_value (value_given mode k)
    sound_returned k m c mode =
        typed_is D (cell_laws D law) p ord fit exprs plcs seen e ty w scalar typed k m c.kept mode

    one_block : (k : Known N) (m : Memories) → IsKeptOne D p ord k m → (mode : Mode) → FindAll mode block_at m
        → IsOneGiven D mode (block_given mode k)
    one_block k m c mode all =
        pointers_give_one D (one_target b (D.single (pos 0)))
        (only_place b (D.single (pos 0)) (pos 0) refl (law.single_range (pos 0) (small_number 0 (omega arith)))) mode

    one_returned : (k : Known N) (m : Memories) → IsKeptOne D p ord k m → (mode : Mode) → FindAll mode returned_value m
        → IsOneGiven D mode (value_given mode k)
    one_returned k m c mode all =
        let t = typed_where p.types p.blocks seen e ty typed in (values keeps fit seen e t.0 t.2).gives k m c mode all

    return_step : (mode : Mode) (k : Known N) (o : Memories)
        → IsExactStore w block_at returned_value block_given value_given sound_block sound_returned one_block
        one_returned mode k o
        → StepIsExact D p ord (simple_step D p mode (Some (b, w)) (returns (Some e)) k) o
    return_step mode k o h =
        after_exact D p ord (value_given mode k).faults
        (assigned D (sizes_of p.blocks) mode w (block_given mode k).pair (value_given mode k).pair k) o h.quiet_v h.exact

    pub return_alone : (i : Side) (k : Known N) (m n y : Memory) → IsKeptOne D p ord k (pair_of i m y)
        → Puts w block_at returned_value i m n
        → StepIsExact D p ord (simple_step D p (alone i) (Some (b, w)) (returns (Some e)) k) (pair_of i n y)
    return_alone i k m n y c h =
        return_step (alone i) k (pair_of i n y)
        (store_alone w block_at returned_value block_given value_given sound_block sound_returned one_block
        one_returned i k m n y c h)

    pub return_both : (k : Known N) (m n : Memories) → IsKeptOne D p ord k m
        → Puts w block_at returned_value left m.left n.left → Puts w block_at returned_value right m.right n.right
        → StepIsExact D p ord (simple_step D p Both (Some (b, w)) (returns (Some e)) k) n
    return_both k m n c h i =
        return_step Both k n
        (store_both w block_at returned_value block_given value_given sound_block sound_returned one_block one_returned
        k m n c h i)

    -- a machine is left with it
    pub returns_so : (s : Side) (l n : ℕ) (x : State)
        → IfLeft by_return (λ x'. Puts w block_at returned_value s x.memory x'.memory)
        (does (ord s) p uncounted (Some (b, w)) (returns (Some e)) l n x)
    returns_so s l n x =
        if_given by_return (λ x'. Puts w block_at returned_value s x.memory x'.memory) l x
        (value (ord s) p e x.memory) (λ v. put_at (ord s) p w b 0 v l x (leaves by_return n))
        (λ v ev. put_there (ord s) p w by_return l n x (has (into_block b 0)) (value (ord s) p e x.memory) b 0 v refl
        ev)

  return_is : (e : Option Expr) → StatementIsExact D p ord (returns e)
  return_is None = record {
    alone = λ i here f at seen h quiet l n s x y c.
        (let k = kept_beside D p ord i s x y c in (
          refl,
          exact_beside D p ord i s (stepped [] (Some s)) x.memory y.memory k.kept.state
              (record { faults = refl; next = record { state = k.kept.state; one = k.one } }),
        ));
    both = λ here f at seen h quiet l n j s x y c. (
      refl,
      (
        refl,
        λ o. exact_both D p ord s (stepped [] (Some s)) x.memory y.memory c.memories.state
            (record { faults = refl; next = c.memories }),
      ),
    );
  }
  return_is (Some e) = record {
    alone = λ i here f at seen h quiet l n s x y c.
        (let t = returned_typed here f at seen e h in
        let k = kept_beside D p ord i s x y c in
        subst (λ r. IfLeft by_return
        (λ x'. TransferIsExact (λ j. ConcretisesOneBeside (ConcretisesOne D p ord) i j x'.memory y.memory)
        ((cell_ops D p ord).simple (One i) r (returns (Some e)) s))
        (does (ord i) p uncounted r (returns (Some e)) l n x)) (sym t.is)
        (if_more by_return
        (λ x'. Puts t.what (block_at seen e t.block t.what t.ty t.scalar t.typed)
        (returned_value seen e t.block t.what t.ty t.scalar t.typed) i x.memory x'.memory) _
        (does (ord i) p uncounted (Some (t.block, t.what)) (returns (Some e)) l n x)
        (λ x' z. exact_beside D p ord i s (simple_step D p (alone i) (Some (t.block, t.what)) (returns (Some e)) s)
        x'.memory y.memory k.kept.state
        (return_alone seen e t.block t.what t.ty t.scalar t.typed i s x.memory x'.memory y.memory k z))
        (returns_so seen e t.block t.what t.ty t.scalar t.typed i l n x)));
    both = λ here f at seen h quiet l n j s x y c.
        (let t = returned_typed here f at seen e h in
        let k = kept_one D p ord s x y c in
        subst (λ r. IfBothLeft by_return
        (λ x' y'. x'.outputs ≡ y'.outputs → TransferIsExact (λ u. ConcretisesOne D p ord u x'.memory y'.memory)
        ((cell_ops D p ord).simple both_run r (returns (Some e)) s))
        (does (ord left) p uncounted r (returns (Some e)) l n x)
        (does (ord right) p uncounted r (returns (Some e)) l j y)) (sym t.is)
        (both_by by_return
        (λ x'. Puts t.what (block_at seen e t.block t.what t.ty t.scalar t.typed)
        (returned_value seen e t.block t.what t.ty t.scalar t.typed) left x.memory x'.memory)
        (λ y'. Puts t.what (block_at seen e t.block t.what t.ty t.scalar t.typed)
        (returned_value seen e t.block t.what t.ty t.scalar t.typed) right y.memory y'.memory) _
        (does (ord left) p uncounted (Some (t.block, t.what)) (returns (Some e)) l n x)
        (does (ord right) p uncounted (Some (t.block, t.what)) (returns (Some e)) l j y)
        (λ x' y' z v o. exact_both D p ord s (simple_step D p Both (Some (t.block, t.what)) (returns (Some e)) s)
        x'.memory y'.memory k.kept.state
        (return_both seen e t.block t.what t.ty t.scalar t.typed s (memories x.memory y.memory)
        (memories x'.memory y'.memory) k z v))
        (returns_so seen e t.block t.what t.ty t.scalar t.typed left l n x)
        (returns_so seen e t.block t.what t.ty t.scalar t.typed right l j y)));
  }

-- ---- both

module _ {N : Type 0} (D : Ops N) (law : Lawful D) where
  by_form : (keeps : KeepsSingles D) (p : Program) (ord : Side → Order) → is_well_formed p ≡ true
      → ExpressionsHold D p ord → PlacesHold D p ord → ValuesAreOne D p ord → PlacesAreOne D p ord → (w : Simple)
      → IsStore w → StatementIsExact D p ord w
  by_form keeps p ord formed exprs plcs values places _ (store_assign w a e) =
      assign_is D law keeps p ord formed (sizes p formed) exprs plcs values places w a e
  by_form keeps p ord formed exprs plcs values places _ (store_return e) =
      return_is D law keeps p ord formed (sizes p formed) exprs plcs values places e

  pub stores_are_exact : StatementsAreExact D IsStore
  stores_are_exact keeps p ord formed other values places w store =
      by_form keeps p ord formed ((evaluation_laws D law).expressions p ord) ((evaluation_laws D law).places p ord) values
      places w store
