-- The parameters of a call are set, one after another: a state that stands for one pair of memories stays one.
use Rattle.std.proofs.Common.{◌≡◌, ℕ, pos, true, nat_eq, List, [], ◌∷◌, slice_get, Option}
use Rattle.std.proofs.Common.{Some, None, option_and_then, refl, sym, ap, ◌∙◌, subst, arith}
use Rattle.std.specs.Option.{option_map_or}
use Rattle.std.specs.List.{list_all}
use Rattle.std.proofs.lemmas.Bool.{and_parts}
use Rattle.ep_int.specs.declared.types.Order.{Order}
use Rattle.ep_int.specs.declared.types.Scalar.{Scalar}
use Rattle.ep_int.specs.Memory.{Memory, pointer, has, contains, stored, store_fault}
use Rattle.ep_bitslice.specs.declared.cell.Side.{Side as CellSide}
use Rattle.ep_bitslice.specs.declared.cell.Side.TheVariants as cell_side
use Rattle.ep_bitslice.specs.declared.cell.CellName.{CellName}
use Rattle.ep_domain.specs.Domain.{Ops, Lawful}
use Rattle.ep_pointers.specs.Value.{one_target, only_place}
use Rattle.ep_pointers.proofs.Moving.{offset_of_some_type}
use Rattle.ep_cells.specs.Forms.{form_after}
use Rattle.ep_cells.specs.States.{Known}
use Rattle.ep_cells.specs.Meaning.{Memories, number_at, number_on}
use Rattle.ep_core.specs.Program.{Expr, Program}
use Rattle.ep_core.specs.Exec.{value, size_at}
use Rattle.ep_core.specs.Runs.{Side, left, right}
use Rattle.ep_core.specs.Typed.{ValueFits, IfHas}
use Rattle.ep_core.specs.WellFormed.{has_scalar, ty_at, has_type, block_type, holds_scalar, arguments_fit}
use Rattle.ep_core.specs.WellFormed.{is_well_formed, blocks_fit}
use Rattle.ep_core.proofs.Bytes.{stored_bytes}
use Rattle.ep_core.proofs.Operands.{sizes as sizes_fit}
use Rattle.ep_core.proofs.Sorts.{typed_where, sort_scalar}
use Rattle.ep_core.proofs.Typing.{expr_fits}
use Rattle.ep_equalities.specs.declared.pair.Mode.{Mode}
use Rattle.ep_equalities.specs.declared.pair.Mode.TheVariants.{Both, Left, Right}
use Rattle.ep_evaluation.specs.Given.{Given, on, runs}
use Rattle.ep_evaluation.specs.Evaluation.{pointer_given}
use Rattle.ep_evaluation.specs.Laws.{memory_of, sizes_of}
use Rattle.ep_evaluation.proofs.Final.{if_has}
use Rattle.ep_evaluation.proofs.Gathered.{evaluation_laws}
use Rattle.ep_transfers.specs.Writes.{formed_pair}
use Rattle.ep_transfers.specs.Transfers.{stepped, fate_off_blocks, to_block, gives, assigned}
use Rattle.ep_transfers.specs.Calls.{given_all, faults_of_all, waiting, bound}
use Rattle.ep_transfers.proofs.Bound.{changed, fits_changed, unchanged, not_one, beside_stored}
use Rattle.ep_transfers.proofs.Evaluated.{Evaluated}
use Rattle.ep_transfers.proofs.Gathered.{cell_laws}
use Rattle.ep_transfers.proofs.Passing.{AllIn}
use Rattle.ep_transfers.proofs.Stored.{block_is, typed_is}
use Rattle.ep_transfers.proofs.Waiting.{OthersStay, still_evaluated}
use Rattle.ep_transfers.proofs.WaitingStays.{each_waits}
use Rattle.ep_singles.specs.Numbers.{KeepsSingles}
use Rattle.ep_singles.specs.Cells.{IsOneValue}
use Rattle.ep_single_given.specs.Laws.{IsOneGiven}
use Rattle.ep_single_given.proofs.Given.{no_faults, pointers_give_one}
use Rattle.ep_single_narrowed.specs.Laws.{IsKeptOne}
use Rattle.ep_single_puts.specs.Laws.{ArePut, AreToPut}
use Rattle.ep_single_puts.proofs.Puts.{none_wrong, after_put, next_put, one_after, state_put}
use Rattle.ep_single_values.specs.Laws.{ValuesAreOne}
use Rattle.ep_single_calls.proofs.Machines.{datum, AllHave, AllStore, sets}
use Rattle.ep_single_calls.proofs.Kept.{at_running, at_other, changed_then}

-- ---- names of other blocks keep their numbers

module _ (f : Side → Memory → Memory) (m : Memories) (c : CellName)
    (h : (o : Order) (s : Side) (z : Memory) → number_at o (f s z) c ≡ number_at o z c) where
  left_name : (mode : Mode) (o : Order) → number_at o (changed mode f m).left c ≡ number_at o m.left c
  left_name Both o = h o left m.left
  left_name Left o = h o left m.left
  left_name Right o = refl

  right_name : (mode : Mode) (o : Order) → number_at o (changed mode f m).right c ≡ number_at o m.right c
  right_name Both o = h o right m.right
  right_name Left o = refl
  right_name Right o = h o right m.right

  name_stays : (mode : Mode) (s : CellSide) (os : Order × Order)
      → number_on s os (changed mode f m) c ≡ number_on s os m c
  name_stays mode cell_side.Left os = left_name mode os.0
  name_stays mode cell_side.Right os = right_name mode os.1
  name_stays mode cell_side.Shared os = left_name mode os.0

module _ {N : Type 0} (D : Ops N) (law : Lawful D) (keeps : KeepsSingles D) (p : Program) (ord : Side → Order)
    (formed : is_well_formed p ≡ true) where
  pub fit : blocks_fit p.types p.blocks ≡ true
  fit = sizes_fit p formed

  -- a single value of the waiting side is that of the side
  waiting_one : (frame : List ℕ) (mode : Mode) (x : Given N) → IsOneGiven D mode x
      → IsOneGiven D mode (record { pair = formed_pair (form_after (fate_off_blocks frame)) x.pair; faults = [] })
  waiting_one frame mode x h = record { quiet = refl; each = each }
    where
      each : (s : Side) → runs mode s ≡ true
          → IsOneValue D (on (formed_pair (form_after (fate_off_blocks frame)) x.pair) s).value
      each left r = h.each left r
      each right r = h.each right r

  -- ---- arguments that were evaluated in a state j and these memories, and wait while a frame is set

  module _ (mode : Mode) (frame : List ℕ) (j : Known N) (before : Memories) where
    abbrev waits : Expr → Given N
    waits e = record {
      pair = formed_pair (form_after (fate_off_blocks frame)) (gives D p e mode j).pair;
      faults = [];
    }

    -- an argument and its parameter
    pub record IsReady (b : ℕ × Scalar) (e : Expr) : Type 0 where
      pub evaluated : Evaluated D p ord mode j before b.1 (λ s. value (ord s) p e) (gives D p e mode j)
      pub one : IsOneGiven D mode (gives D p e mode j)
      pub found : (s : Side) → runs mode s ≡ true
          → value (ord s) p e (memory_of s before) ≡ has (datum (ord s) p (memory_of s before) e)
      pub fits : (s : Side) → runs mode s ≡ true → ValueFits p b.1 (datum (ord s) p (memory_of s before) e)
      pub stores : (s : Side) → runs mode s ≡ true → store_fault p.types.model (size_at (ord s) p b.0) b.1 0 ≡ None
      pub inside : contains b.0 frame ≡ true

    abbrev pub AllReady : List (ℕ × Scalar) → List Expr → Type 0
    AllReady [] [] = Unit {0}
    AllReady [] (e ∷ es) = ⊥
    AllReady (b ∷ bs) [] = ⊥
    AllReady (b ∷ bs) (e ∷ es) = IsReady b e × AllReady bs es

    pub none_faults : (bs : List (ℕ × Scalar)) (es : List Expr) → AllReady bs es
        → faults_of_all D p (given_all D p es mode j) ≡ []
    none_faults [] [] h = refl
    none_faults [] (e ∷ es) h = absurd h
    none_faults (b ∷ bs) [] h = absurd h
    none_faults (b ∷ bs) (e ∷ es) h =
        no_faults (gives D p e mode j).faults (faults_of_all D p (given_all D p es mode j)) h.0.one.quiet
        (none_faults bs es h.1)

    -- ---- one parameter is set

    abbrev pub puts : ℕ × Scalar → Expr → Side → Memory → Memory
    puts b e s z = stored (ord s) p.types.model z b.1 b.0 0 (datum (ord s) p (memory_of s before) e)

    record IsBound (k : Known N) (m : Memories) (b : ℕ × Scalar) (e : Expr) : Type 0 where
      quiet : (assigned D (sizes_of p.blocks) mode b.1 (to_block D mode b.0) (waits e).pair k).faults ≡ []
      known : Known N
      next : (assigned D (sizes_of p.blocks) mode b.1 (to_block D mode b.0) (waits e).pair k).next ≡ Some known
      kept : IsKeptOne D p ord known (changed mode (puts b e) m)
      others : OthersStay D p ord frame j known before (changed mode (puts b e) m)

    module _ (k : Known N) (m : Memories) (kept : IsKeptOne D p ord k m)
        (others : OthersStay D p ord frame j k before m) (b : ℕ × Scalar) (e : Expr) (h : IsReady b e) where
      abbrev to : Given N
      to = pointer_given D (one_target b.0 (D.single (pos 0))) mode

      abbrev n : Memories
      n = changed mode (puts b e) m

      to_put : AreToPut D p ord mode k m b.1 (λ s. has (pointer b.0 0))
          (λ s. value (ord s) p e (memory_of s before)) to (waits e)
      to_put =
          let laws = evaluation_laws D law in
          let v = still_evaluated D p ord frame j k before m others mode b.1 (λ s. value (ord s) p e)
          (gives D p e mode j) h.evaluated h.one.quiet in
          record {
            address_holds = (block_is D (cell_laws D law) p ord fit (laws.expressions p ord) (laws.places p ord) b.0 k m
                kept.kept mode).holds;
            value_holds = v.holds;
            fits = v.fits;
            one_address = pointers_give_one D (one_target b.0 (D.single (pos 0)))
                (only_place b.0 (D.single (pos 0)) (pos 0) refl
                (law.single_range (pos 0) (offset_of_some_type 0 (omega arith)))) mode;
            one_value = waiting_one frame mode (gives D p e mode j) h.one;
          }

      are_put : ArePut p ord mode b.1 (λ s. has (pointer b.0 0)) (λ s. value (ord s) p e (memory_of s before)) m n
      are_put = record {
        puts = λ s r. record {
          block = b.0;
          offset = 0;
          datum = datum (ord s) p (memory_of s before) e;
          at = refl;
          is = h.found s r;
          stores = h.stores s r;
          after = λ c i. ap (λ (z : Memory). z c i) (at_running mode s r (puts b e) m);
        };
        still = λ s r c i. ap (λ (z : Memory). z c i) (at_other mode s r (puts b e) m);
      }

      one_bound : IsBound k m b e
      one_bound =
          let fa : Side → _ = λ s. has (pointer b.0 0) in
          let fv : Side → _ = λ s. value (ord s) p e (memory_of s before) in
          let l = after_put D law keeps p ord fit k m n kept b.1 fa fv to (waits e) mode to_put are_put in
          let q = next_put D law keeps p ord fit k m n kept b.1 fa fv to (waits e) mode to_put are_put in
          let s = state_put D law keeps p ord fit k m n kept b.1 fa fv to (waits e) mode to_put are_put in
          let one = one_after D law keeps p ord fit k m n kept b.1 fa fv to (waits e) mode to_put are_put in
          record {
            quiet = none_wrong D law keeps p ord fit k m n kept b.1 fa fv to (waits e) mode to_put are_put;
            known = l;
            next = q;
            kept = record {
              kept = record {
                state = s;
                holds = one.holds;
                fits = fits_changed p mode (puts b e) m kept.kept.fits
                    (λ s r y i. stored_bytes p (ord s) p.types.model y b.1 b.0 0
                    (datum (ord s) p (memory_of s before) e) i (h.fits s r));
              };
              one = one;
            };
            others = record {
              orders = s.orders ∙ sym kept.kept.state.orders ∙ others.orders;
              there = λ c off t. (each_waits D law p ord formed).set frame mode b.1 b.0 (waits e).pair k l h.inside
                  kept.kept.state.cells (to_put.fits left) q c off (others.there c off t);
              numbers = λ c off. name_stays (puts b e) m c
                  (λ o s y. beside_stored o (ord s) p.types.model y b.1 b.0 (datum (ord s) p (memory_of s before) e) c
                  (not_one b.0 c.block frame (nat_eq b.0 c.block) refl h.inside off)) mode c.side j.orders
                  ∙ others.numbers c off;
            };
          }

    -- ---- all of them

    abbrev pub puts_all : List (ℕ × Scalar) → List Expr → Side → Memory → Memory
    puts_all bs es s z = sets (ord s) p bs es (memory_of s before) z

    pub record AreBound (k : Known N) (m : Memories) (bs : List (ℕ × Scalar)) (es : List Expr) : Type 0 where
      pub quiet : (bound D p mode bs (waiting D p frame (given_all D p es mode j)) k).faults ≡ []
      pub known : Known N
      pub next : (bound D p mode bs (waiting D p frame (given_all D p es mode j)) k).next ≡ Some known
      pub kept : IsKeptOne D p ord known (changed mode (puts_all bs es) m)

    bound_then : (k : Known N) (m : Memories) (b : ℕ × Scalar) (bs : List (ℕ × Scalar)) (e : Expr) (es : List Expr)
        (a : IsBound k m b e) → AreBound a.known (changed mode (puts b e) m) bs es → AreBound k m (b ∷ bs) (e ∷ es)
    bound_then k m b bs e es a rest =
        let one = assigned D (sizes_of p.blocks) mode b.1 (to_block D mode b.0) (waits e).pair k in
        let go = bound D p mode bs (waiting D p frame (given_all D p es mode j)) in
        record {
          quiet = no_faults one.faults (option_map_or go one.next (stepped [] None)).faults a.quiet
              (ap (λ (o : Option (Known N)). (option_map_or go o (stepped [] None)).faults) a.next ∙ rest.quiet);
          known = rest.known;
          next = ap (λ (o : Option (Known N)). (option_map_or go o (stepped [] None)).next) a.next ∙ rest.next;
          kept = subst (IsKeptOne D p ord rest.known) (changed_then mode (puts b e) (puts_all bs es) m) rest.kept;
        }

    pub all_bound : (bs : List (ℕ × Scalar)) (es : List Expr) (k : Known N) (m : Memories) → IsKeptOne D p ord k m
        → OthersStay D p ord frame j k before m → AllReady bs es → AreBound k m bs es
    all_bound [] [] k m kept others h = record {
      quiet = refl;
      known = k;
      next = refl;
      kept = subst (IsKeptOne D p ord k) (sym (unchanged mode m)) kept;
    }
    all_bound [] (e ∷ es) k m kept others h = absurd h
    all_bound (b ∷ bs) [] k m kept others h = absurd h
    all_bound (b ∷ bs) (e ∷ es) k m kept others h =
        let a = one_bound k m kept others b e h.0 in
        bound_then k m b bs e es a (all_bound bs es a.known (changed mode (puts b e) m) a.kept a.others h.1)

    -- ---- typed arguments that the machines find are ready

    module _ (vals : ValuesAreOne D p ord) (kept : IsKeptOne D p ord j before) (seen : List ℕ) where
      one_ready : (b : ℕ × Scalar) (e : Expr) (ty : ℕ) → has_scalar (ty_at p.types p.blocks seen ty) b.1 ≡ true
          → has_type p.types p.blocks seen e ty ≡ true → contains b.0 frame ≡ true
          → ((s : Side) → runs mode s ≡ true
          → value (ord s) p e (memory_of s before) ≡ has (datum (ord s) p (memory_of s before) e))
          → ((s : Side) → runs mode s ≡ true → store_fault p.types.model (size_at (ord s) p b.0) b.1 0 ≡ None)
          → IsReady b e
      one_ready b e ty scalar typed inside found stores =
          let laws = evaluation_laws D law in
          let t = typed_where p.types p.blocks seen e ty typed in
          record {
            evaluated = typed_is D (cell_laws D law) p ord fit (laws.expressions p ord) (laws.places p ord) seen e ty b.1
                scalar typed j before kept.kept mode;
            one = (vals keeps fit seen e t.0 t.2).gives j before kept mode
                (λ s r. (datum (ord s) p (memory_of s before) e, found s r));
            found = found;
            fits = λ s r.
                if_has (value (ord s) p e (memory_of s before)) (ValueFits p b.1)
                (datum (ord s) p (memory_of s before) e)
                (subst (λ w. IfHas (value (ord s) p e (memory_of s before)) (ValueFits p w))
                (sym (sort_scalar (ty_at p.types p.blocks seen ty) b.1 t.0 scalar t.1))
                (expr_fits (ord s) p fit seen (memory_of s before) (kept.kept.fits s) e t.0 t.2).1) (found s r);
            stores = stores;
            inside = inside;
          }

      pub all_ready : (bs : List (ℕ × Scalar)) (es : List Expr) → list_all (holds_scalar p.types p.blocks) bs ≡ true
          → arguments_fit p.types p.blocks seen bs es ≡ true → AllIn frame bs
          → ((s : Side) → runs mode s ≡ true → AllHave (ord s) p es (memory_of s before))
          → ((s : Side) → runs mode s ≡ true → AllStore (ord s) p bs es) → AllReady bs es
      unfolding AllIn
      all_ready [] [] holds fits inside have store = tt
      all_ready [] (e ∷ es) holds fits inside have store = absurd (cc)
      all_ready (b ∷ bs) [] holds fits inside have store = absurd (cc)
      all_ready (b ∷ bs) (e ∷ es) holds fits inside have store =
          let s = and_parts (holds_scalar p.types p.blocks b) (list_all (holds_scalar p.types p.blocks) bs) holds in
          let q = typed (block_type (slice_get p.blocks b.0)) refl s.0 in (
            one_ready b e q.0 q.1 q.2 inside.0 (λ s r. (have s r).0) (λ s r. (store s r).0),
            all_ready bs es s.1 q.3 inside.1 (λ s r. (have s r).1) (λ s r. (store s r).1),
          )
        where
          typed : (o : Option ℕ) → block_type (slice_get p.blocks b.0) ≡ o
              → has_scalar (option_and_then (slice_get p.types.types) o) b.1 ≡ true
              → (ty : ℕ) × (has_scalar (ty_at p.types p.blocks seen ty) b.1 ≡ true)
              × (has_type p.types p.blocks seen e ty ≡ true) × (arguments_fit p.types p.blocks seen bs es ≡ true)
          typed None i h = absurd (cc)
          typed (Some ty) i h =
              let t = and_parts (has_type p.types p.blocks seen e ty) (arguments_fit p.types p.blocks seen bs es)
              (rw i at fits) in
              (ty, h, t.0, t.1)
