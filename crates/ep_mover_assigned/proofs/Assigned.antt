-- Numbers of movers are assigned and put out.
use Rattle.std.proofs.Common.{◌≡◌, ℕ, zero, suc, ◌+◌, ◌-◌, ◌*◌, ◌/◌, ◌%◌, ◌^◌, ◌<◌, ◌≤◌, pos, Bool, true, false, ◌&&◌, ◌||◌, not}
use Rattle.std.proofs.Common.{cond, nat_eq, List, [], ◌∷◌, ◌++◌, length, slice_get, Option, Some, None, Result, Ok, Err}
use Rattle.std.proofs.Common.{refl, sym, ap, ◌∙◌, subst, arith, option_and_then}
use Rattle.std.specs.Prelude.{is_some}
use Rattle.std.specs.Option.{option_map_or}
use Rattle.std.proofs.lemmas.Bool.{and_parts, and_from, eqb-true}
use Rattle.std.proofs.lemmas.Option.{slice_get-map}
use Rattle.ep_int.specs.declared.types.IntType.{IntType}
use Rattle.ep_int.specs.declared.types.IntType.TheVariants.{I8, U8, I16, U16, I32, U32, I64, U64}
use Rattle.ep_int.specs.declared.types.Order.{Order}
use Rattle.ep_int.specs.declared.types.Scalar.{Scalar}
use Rattle.ep_int.specs.declared.types.Scalar.TheVariants.{Int as Number, Pointer}
use Rattle.ep_int.specs.Types.{bytes_of, is_signed}
use Rattle.ep_int.specs.Encoding.{place as byte_place}
use Rattle.ep_int.specs.Memory.{Value as Datum, int, pointer, Found, has}
use Rattle.ep_int.proofs.Basics.{some-injective}
use Rattle.ep_int.proofs.Places.{width_of, place_below, place_back}
use Rattle.ep_int.proofs.Wrapping.{bytes_of_positive}
use Rattle.ep_layout.specs.declared.types.Ty.{Ty}
use Rattle.ep_layout.specs.declared.types.Ty.TheVariants.{Void, Int, Ptr, Array, Aggregate}
use Rattle.ep_bitslice.specs.declared.cell.CellName.{CellName}
use Rattle.ep_bitslice.specs.declared.cell.Side.TheVariants.{Shared}
use Rattle.ep_domain.specs.Domain.{Ops, Lawful}
use Rattle.ep_cells.specs.States.{Known}
use Rattle.ep_cells.specs.Meaning.{Memories}
use Rattle.ep_cells.specs.Forms.{have_same_form}
use Rattle.ep_core.specs.Program.{Expr, Place, block, deref, member, element, Dest, assign, input, output, Block}
use Rattle.ep_core.specs.Program.{Program}
use Rattle.ep_core.specs.Exec.{value, address, size_at, frame_of}
use Rattle.ep_core.specs.Runs.{Side, left, right}
use Rattle.ep_core.specs.WellFormed.{Sort, integer, sort_of, has_scalar, is_array_of, has_bound, some_type, is_number, is_length}
use Rattle.ep_core.specs.WellFormed.{ty_at, is_named, block_has, place_has, has_sort, has_type, is_int, int_type_of}
use Rattle.ep_core.specs.WellFormed.{simple_fits, is_well_formed, blocks_fit}
use Rattle.ep_core.proofs.Operands.{sizes as sizes_fit}
use Rattle.ep_core.proofs.Sorts.{three, same_scalar, type_where, typed_where}
use Rattle.ep_core.proofs.Typing.{block_small}
use Rattle.ep_equalities.specs.declared.pair.Mode.{Mode}
use Rattle.ep_equalities.specs.declared.pair.Mode.TheVariants.{Both, Left, Right}
use Rattle.ep_equalities.specs.declared.pair.Fault.{Fault}
use Rattle.ep_equalities.specs.declared.pair.PairValue.{PairValue}
use Rattle.ep_equalities.specs.Same.{is_same}
use Rattle.ep_evaluation.specs.Given.{Given, runs, on}
use Rattle.ep_evaluation.specs.Evaluation.{expression, place}
use Rattle.ep_evaluation.specs.Laws.{memory_of, sizes_of}
use Rattle.ep_evaluation.proofs.Gathered.{evaluation_laws}
use Rattle.ep_evaluation.proofs.Spots.{exact}
use Rattle.ep_transfers.specs.Places.{has_values}
use Rattle.ep_transfers.specs.Transfers.{Stepped, stepped, after_faults, if_goes_on, alone_faults, input_pair, put_out, differ_faults, differs_if, assigned, simple_step}
use Rattle.ep_movers.specs.declared.Stop.{Stop}
use Rattle.ep_movers.specs.Symbols.{Symbol, goes_on, resized}
use Rattle.ep_movers.specs.Forms.{constant, is_moved_place, is_int_type, is_moved_assignment, is_moving, is_block_of}
use Rattle.ep_movers.specs.Forms.{has_moving_form}
use Rattle.ep_movers.specs.Movers.{Held, Machine, bytes_in, offset_of, place_of, symbols, remembers, input_bytes}
use Rattle.ep_movers.specs.Movers.{taken as taken_of, bytes_written, writes, assigns}
use Rattle.ep_mover_bits.specs.Laws.{Inputs}
use Rattle.ep_mover_bits.proofs.Operators.{same_list, length_input}
use Rattle.ep_mover_bits.proofs.Forms.{forms_follow}
use Rattle.ep_mover_cells.specs.Known.{number_bytes, unit_of, unit_in}
use Rattle.ep_mover_cells.proofs.Loaded.{ok_same, went_on}
use Rattle.ep_mover_known.specs.Laws.{AreRuns, AreAllRuns}
use Rattle.ep_mover_known.proofs.Telling.{many, length_many, is_found, memories, inputs_tell}
use Rattle.ep_mover_runs.specs.Following.{unsigned_of, blocks_of_main}
use Rattle.ep_mover_runs.proofs.Mains.{IsMover, is_mover, named_first}
use Rattle.ep_mover_runs.proofs.Places.{PlaceFollows, number_type, placed_number}
use Rattle.ep_mover_stores.specs.Laws.{with_input, IsAccess, AreValues, GoesOn}
use Rattle.ep_mover_stores.proofs.Stores.{stores_keep, takes_keep}
use Rattle.ep_mover_values.specs.Naturals.{KeepsNaturals}
use Rattle.ep_mover_values.specs.Laws.{GivesBytes, IsAt, IsMoving, ArePlacesUnsigned}
use Rattle.ep_mover_values.proofs.Constants.{or_first}
use Rattle.ep_mover_values.proofs.Loads.{size_by}
use Rattle.ep_mover_values.proofs.Places.{some_runs, no_faults, place_is_at}
use Rattle.ep_mover_values.proofs.Values.{list_of, ok_list, values}
use Rattle.ep_mover_writes.specs.Laws.{IsNumberAt, IsWrittenAt, AreTaken}
use Rattle.ep_mover_writes.proofs.Written.{Wrote, wrote}
use Rattle.ep_single_places.specs.Laws.{IsPlaceFor, IsOneAccess}
use Rattle.ep_single_places.proofs.Places.{accesses_are_one}
use Rattle.ep_mover_assigned.specs.Laws.{IsKnown, HaveAssigned, AssignmentsKeepBytes, TakesInput}
use Rattle.ep_mover_assigned.specs.Laws.{InputsKeepBytes, OutputsAgree}
use Rattle.ep_mover_assigned.proofs.Taken.{symbols_taken}

-- ---- the numbers of a block

module _ (p : Program) (seen : List ℕ) where
  block_unit : (c ty : ℕ) → place_has p.types p.blocks seen (block c) ty ≡ true
      → unit_in p c ≡ option_and_then (unit_of p) (slice_get p.types.types ty)
  block_unit c ty h =
      by (slice_get p.blocks c) refl
      (and_parts (is_named p.types p.blocks seen c) (block_has p.types p.blocks seen (slice_get p.blocks c) ty) h).1
    where
      by : (o : Option Block) → slice_get p.blocks c ≡ o → block_has p.types p.blocks seen o ty ≡ true
          → unit_in p c ≡ option_and_then (unit_of p) (slice_get p.types.types ty)
      by None e i = absurd (cc)
      by (Some x) e i =
          ap (option_and_then (λ (y : Block). option_and_then (unit_of p) (slice_get p.types.types y.ty))) e
          ∙ ap (λ n. option_and_then (unit_of p) (slice_get p.types.types n)) (eqb-true x.ty ty i)

  array_unit : (u : Option Ty) (ty : ℕ) → is_array_of u ty ≡ true
      → option_and_then (unit_of p) u ≡ number_bytes (slice_get p.types.types ty)
  array_unit (Some (Array e n)) ty h = ap (λ z. number_bytes (slice_get p.types.types z)) (eqb-true e ty h)
  array_unit (Some Void) ty h = absurd (cc)
  array_unit (Some (Int t)) ty h = absurd (cc)
  array_unit (Some (Ptr e)) ty h = absurd (cc)
  array_unit (Some (Aggregate a)) ty h = absurd (cc)
  array_unit None ty h = absurd (cc)

  first_of : (b c q r : ℕ) → ◌≡◌ {A = Result (ℕ × ℕ) Stop} (Ok (b, q)) (Ok (c, r)) → b ≡ c
  first_of b c q r e = ap (λ (z : ℕ × ℕ). z.0) (ok_same (b, q) (c, r) e)

  unit_at : (a : Place) (ty : ℕ) (t : IntType) → is_moved_place a ≡ true → place_has p.types p.blocks seen a ty ≡ true
      → slice_get p.types.types ty ≡ Some (Int t) → (b q : ℕ) → place_of a ≡ Ok (b, q) → unit_in p b ≡ Some (bytes_of t)
  unit_at (block c) ty t h typed is b q e =
      ap (unit_in p) (sym (first_of c b 0 q e)) ∙ block_unit c ty typed ∙ ap (option_and_then (unit_of p)) is
  unit_at (element (block c) bound unit i) ty t h typed is b q e =
      let s = three (is_length bound && is_length unit && is_number _ unit)
      (some_type p.types p.blocks seen (λ u. is_array_of u ty && has_bound u bound)
      (place_has p.types p.blocks seen (block c))) (is_int (int_type_of i) (has_sort p.types p.blocks seen i)) typed in
      let w = type_where p.types p.blocks seen (λ u. is_array_of u ty && has_bound u bound)
      (place_has p.types p.blocks seen (block c)) s.1 in
      let array = (and_parts (is_array_of (slice_get p.types.types w.0) ty) _ w.1).0 in
      let z = went_on (offset_of bound unit (constant i)) (λ r. Ok (c, r)) (b, q) e in
      ap (unit_in p) (sym (first_of c b z.0 q z.2)) ∙ block_unit c w.0 w.2
      ∙ array_unit (slice_get p.types.types w.0) ty array ∙ ap number_bytes is
  unit_at (deref e) ty t h typed is b q f = absurd (cc)
  unit_at (member a offset) ty t h typed is b q f = absurd (cc)
  unit_at (element (deref e) bound unit i) ty t h typed is b q f = absurd (cc)
  unit_at (element (member a offset) bound unit i) ty t h typed is b q f = absurd (cc)
  unit_at (element (element a n u j) bound unit i) ty t h typed is b q f = absurd (cc)

-- ---- what a machine assigns

record HasWritten (o : Order) (t : IntType) (a : Place) (e : Expr) (m n : Machine) (b q : ℕ) : Type 0 where
  xs : List Symbol
  said : symbols o m.memory e ≡ Ok xs
  bytes : List Held
  written : bytes_written o q (bytes_of t) 0 (resized t xs) (bytes_in m.memory b) ≡ Ok bytes
  is : remembers m b bytes ≡ n

has_written : (o : Order) (t : IntType) (a : Place) (e : Expr) (m n : Machine) (b q : ℕ) → place_of a ≡ Ok (b, q)
    → assigns o (Number t) a e m ≡ Ok n → HasWritten o t a e m n b q
has_written o t a e m n b q at h =
    let f : goes_on (symbols o m.memory e) (λ xs. writes o t m (b, q) (resized t xs)) ≡ Ok n
    = sym (ap (λ (z : Result (ℕ × ℕ) Stop). goes_on z
    (λ w. goes_on (symbols o m.memory e) (λ xs. writes o t m w (resized t xs)))) at) ∙ h in
    let x = went_on (symbols o m.memory e) (λ xs. writes o t m (b, q) (resized t xs)) n f in
    let y = went_on (bytes_written o q (bytes_of t) 0 (resized t x.0) (bytes_in m.memory b))
    (λ hs. Ok (remembers m b hs)) n x.2 in
    record { xs = x.0; said = x.1; bytes = y.0; written = y.1; is = ok_same (remembers m b y.0) n y.2 }

module _ {N : Type 0} (D : Ops N) (law : Lawful D) (p : Program) (ord : Side → Order)
    (formed : is_well_formed p ≡ true) (form : has_moving_form p ≡ true) (base : Inputs) (ms : Side → Machine)
    (k : Known N) (known : IsKnown D p ord base ms k) where
  abbrev seen : List ℕ
  seen = blocks_of_main (slice_get p.functions p.main)

  fit : blocks_fit p.types p.blocks ≡ true
  fit = sizes_fit p formed

  g : IsMover p
  g = is_mover p formed form

  abbrev count : ℕ
  count = (ms left).inputs

  -- some inputs that are enough
  some : count ≤ length (many count)
  some = omega (arith, length_many count)

  abbrev run : AreRuns D p ord ms k (many count)
  run = known.runs (many count) some

  abbrev m : Memories
  m = record { left = (run.states left).memory; right = (run.states right).memory }

  moving : IsMoving D p ord base ms k m
  moving = record { moved = known.moved; kept = run.kept }

  -- a place that is typed is one of main
  in_main : (a : Place) (ty : ℕ) → place_has p.types p.blocks seen a ty ≡ true
      → place_has p.types p.blocks (frame_of g.main) a ty ≡ true
  in_main a ty h = subst (λ bs. place_has p.types p.blocks bs a ty ≡ true) (named_first p formed g) h

  unsigned : ArePlacesUnsigned D p ord seen
  unsigned a ty t h typed is =
      (placed_number p formed g (ord left) (run.states left).memory a t ty h (in_main a ty typed) is).unsigned

  taken : (s : Side) (e : Expr) (xs : List Symbol) → symbols (ord s) (ms s).memory e ≡ Ok xs → AreTaken count xs
  taken s e xs said =
      symbols_taken count (ord s) (ms s).memory (λ b r i j f. known.moved.taken s b r i j f) e xs said

  -- ---- an expression

  module _ (keeps : KeepsNaturals D) (e : Expr) (t : IntType) (h : is_moving e ≡ true)
      (typed : has_sort p.types p.blocks seen e (integer t) ≡ true) (mode : Mode) (xs : Side → List Symbol)
      (said : (s : Side) → runs mode s ≡ true → symbols (ord s) (ms s).memory e ≡ Ok (xs s)) where
    abbrev given : Given N
    given = (expression D (sizes_of p.blocks) e).gives mode k

    gives : GivesBytes D base t mode given xs
    gives =
        values D law keeps p ord fit seen unsigned base ms k m moving
        (inputs_tell D law p ord formed form ms k known.runs).singles mode e t h typed xs said
        (λ s r. (
          int (pos _),
          (is_found D law p ord formed form ms k known.runs e t h typed (many count) some s (xs s)
              (said s r)).found,
        ))

    values_same : mode ≡ Both → is_same D given.pair ≡ true → xs left ≡ xs right
    values_same both same =
        (inputs_tell D law p ord formed form ms k known.runs).sames e t h typed
        (subst (λ z. ((expression D (sizes_of p.blocks) e).gives z k).faults ≡ []) both gives.quiet)
        (subst (λ z. is_same D ((expression D (sizes_of p.blocks) e).gives z k).pair ≡ true) both same) xs
        (λ s. said s (subst (λ z. runs z s ≡ true) (sym both) (all s)))
      where
        all : (s : Side) → runs Both s ≡ true
        all left = refl
        all right = refl

    are_values : AreValues D p ord base ms k mode t given.pair xs
    are_values = record {
      each = gives.each;
      fits = λ s r. ((evaluation_laws D law).expressions p ord fit seen e (integer t) typed).fits k
          known.moved.state mode s;
      taken = λ s r. taken s e (xs s) (said s r);
      same = values_same;
    }

  -- ---- a place that is written

  module _ (mode : Mode) (t : IntType) (a : Place) (moved : is_moved_place a ≡ true) (ty : ℕ)
      (scalar : has_scalar (slice_get p.types.types ty) (Number t) ≡ true)
      (typed_place : place_has p.types p.blocks seen a ty ≡ true) (b q : ℕ) (at : place_of a ≡ Ok (b, q)) where
    abbrev to : Given N
    to = place D (sizes_of p.blocks) a mode k

    placed : (s : Side) → PlaceFollows (bytes_of t) (Ok (b, q)) (address (ord s) p a (memory_of s m))
    placed s =
        subst (λ z. PlaceFollows (bytes_of t) z (address (ord s) p a (memory_of s m))) at
        (placed_number p formed g (ord s) (memory_of s m) a t ty moved (in_main a ty typed_place) scalar).at

    is_at : IsAt D mode to b q
    is_at =
        place_is_at D law p ord fit seen k mode m run.kept a ty moved typed_place b q at
        (λ s r. (pointer b q, (placed s).0))

    number : IsNumberAt p b q (bytes_of t)
    number =
        let is = number_type (slice_get p.types.types ty) t scalar in
        record {
          unit = unit_at p seen a ty t moved typed_place is b q at;
          index = q / bytes_of t;
          at = sym (exact q (bytes_of t) (placed left).1);
        }

    module _ (ys : Side → List Symbol)
        (written : (s : Side) → runs mode s ≡ true → (l : List Held)
        × (bytes_written (ord s) q (bytes_of t) 0 (ys s) (bytes_in (ms s).memory b) ≡ Ok l))
        (wide : (s : Side) → runs mode s ≡ true → length (ys s) ≡ bytes_of t) where
      inside : (s : Side) → runs mode s ≡ true → q + bytes_of t ≤ size_at (ord s) p b
      inside s r =
          let n = bytes_of t in
          let i = bytes_of_positive t in
          let z : n - 1 < n = omega (arith, i) in
          let j = byte_place (ord s) n (n - 1) in
          let w = wrote (ord s) q n (bytes_in (ms s).memory b) 0 (ys s) (written s r).0 (written s r).1 in
          let l = w.inside j (omega (arith, place_below (ord s) n (n - 1) (width_of t) z, wide s r)) in
          let y : 0 + j ≡ j = omega arith in
          let last : q + byte_place (ord s) n (0 + j) ≡ q + (n - 1)
          = ap (λ u. q + byte_place (ord s) n u) y
          ∙ ap (λ u. q + u) (place_back (ord s) n (n - 1) (width_of t) z) in
          let size = (run.follow s).sizes b in
          omega (arith, l, last, size, i)

      access : IsAccess D p ord mode to.pair b q (bytes_of t)
      access = record {
        equal = is_at.equal;
        each = λ s r. accesses_are_one D law (sizes_of p.blocks) (bytes_of t) (on to.pair s) b q (is_at.each s r)
            (bytes_of_positive t) (record {
              size = size_at (ord s) p b;
              of_block = slice_get-map (λ (y : Block). y.size) p.blocks b
                  ∙ size_by (ord s) p (slice_get p.blocks b) (omega (arith, inside s r, bytes_of_positive t));
              inside = inside s r;
              aligned = (placed s).1;
            });
        last = by (some_runs mode);
      }
        where
          by : (s : Side) × (runs mode s ≡ true) → q + bytes_of t ≤ 2 ^ 32
          by z = omega (arith, inside z.0 z.1, block_small (ord z.0) p fit b)

  -- ---- an assignment

  module _ (keeps : KeepsNaturals D) (mode : Mode) (t : IntType) (a : Place) (e : Expr) (moved : is_moved_place a ≡ true)
      (moves : is_moving e ≡ true) (ty : ℕ) (scalar : has_scalar (slice_get p.types.types ty) (Number t) ≡ true)
      (typed_place : place_has p.types p.blocks seen a ty ≡ true)
      (typed : has_sort p.types p.blocks seen e (integer t) ≡ true) (ns : Side → Machine)
      (steps : HaveAssigned D p ord mode (Number t) a e ms ns) (b q : ℕ) (at : place_of a ≡ Ok (b, q)) where
    wrote_at : (s : Side) → runs mode s ≡ true → HasWritten (ord s) t a e (ms s) (ns s) b q
    wrote_at s r = has_written (ord s) t a e (ms s) (ns s) b q at (steps.assigned s r)

    abbrev xs : Side → List Symbol
    xs s = list_of (symbols (ord s) (ms s).memory e)

    said : (s : Side) → runs mode s ≡ true → symbols (ord s) (ms s).memory e ≡ Ok (xs s)
    said s r = ok_list (symbols (ord s) (ms s).memory e) (wrote_at s r).xs (wrote_at s r).said

    abbrev there : Given N
    there = to mode t a moved ty scalar typed_place b q at

    abbrev v : Given N
    v = given keeps e t moves typed mode xs said

    long : (s : Side) → runs mode s ≡ true → length (xs s) ≡ bytes_of t
    long s r = ((gives keeps e t moves typed mode xs said).each s r).long

    -- the bytes that are written are those of the expression
    written_there : (s : Side) (r : runs mode s ≡ true)
        → bytes_written (ord s) q (bytes_of t) 0 (xs s) (bytes_in (ms s).memory b) ≡ Ok (wrote_at s r).bytes
    written_there s r =
        let w = wrote_at s r in
        let same : resized t w.xs ≡ xs s = ap (resized t) (sym (ap list_of w.said)) ∙ same_list t (xs s) (sym (long s r)) in
        ap (λ ys. bytes_written (ord s) q (bytes_of t) 0 ys (bytes_in (ms s).memory b)) (sym same) ∙ w.written

    write : (i : Side) → IsWrittenAt (ord i) t b q (xs i) 0 (runs mode i) (ms i) (ns i)
    write i = by (runs mode i) refl
      where
        plus_none : (n : ℕ) → n ≡ n + 0
        plus_none n = omega arith

        by : (z : Bool) → runs mode i ≡ z → IsWrittenAt (ord i) t b q (xs i) 0 z (ms i) (ns i)
        by true r =
            let w = wrote_at i r in
            record {
              bytes = w.bytes;
              written = λ f. written_there i r;
              memory = λ f. ap (λ (z : Machine). z.memory) (sym w.is);
              stays = λ f. absurd (let d : true ≡ false = f in cc);
              inputs = ap (λ (z : Machine). z.inputs) (sym w.is) ∙ plus_none (ms i).inputs;
            }
        by false r = record {
          bytes = [];
          written = λ f. absurd (let d : false ≡ true = f in cc);
          memory = λ f. absurd (let d : false ≡ true = f in cc);
          stays = λ f. ap (λ (z : Machine). z.memory) (steps.still i r);
          inputs = ap (λ (z : Machine). z.inputs) (steps.still i r) ∙ plus_none (ms i).inputs;
        }

    stored : GoesOn D p ord base ns (assigned D (sizes_of p.blocks) mode (Number t) there.pair v.pair k)
    stored =
        stores_keep D law p ord base ms ns k known.moved b q t
        (number mode t a moved ty scalar typed_place b q at) mode there.pair v.pair xs
        (access mode t a moved ty scalar typed_place b q at xs
        (λ s r. ((wrote_at s r).bytes, written_there s r)) long)
        (are_values keeps e t moves typed mode xs said) write

    assignment_goes : (result : Option (ℕ × Scalar))
        → GoesOn D p ord base ns (simple_step D p mode result (assign (Number t) a e) k)
    assignment_goes result = record {
      next = stored.next;
      is = ap (after_faults (there.faults ++ v.faults)) stored.is
          ∙ ap (λ fs. after_faults fs (stepped [] (Some stored.next)))
          (no_faults there.faults v.faults (is_at mode t a moved ty scalar typed_place b q at).quiet
          (gives keeps e t moves typed mode xs said).quiet);
      moved = stored.moved;
    }

  -- ---- an input

  module _ (t : IntType) (a : Place) (moved : is_moved_place a ≡ true) (ty : ℕ)
      (scalar : has_scalar (slice_get p.types.types ty) (Number t) ≡ true)
      (typed_place : place_has p.types p.blocks seen a ty ≡ true) (b q : ℕ) (at : place_of a ≡ Ok (b, q))
      (ns : Side → Machine)
      (steps : (s : Side) → writes (ord s) t (taken_of (ms s) 1) (b, q) (input_bytes (ms s).inputs 0 (bytes_of t))
      ≡ Ok (ns s)) where
    abbrev ys : List Symbol
    ys = input_bytes count 0 (bytes_of t)

    same_count : (s : Side) → (ms s).inputs ≡ count
    same_count left = refl
    same_count right = sym known.moved.counts

    record HasTaken (s : Side) : Type 0 where
      bytes : List Held
      written : bytes_written (ord s) q (bytes_of t) 0 ys (bytes_in (ms s).memory b) ≡ Ok bytes
      is : remembers (taken_of (ms s) 1) b bytes ≡ ns s

    has_taken : (s : Side) → HasTaken s
    has_taken s =
        let y = went_on (bytes_written (ord s) q (bytes_of t) 0 (input_bytes (ms s).inputs 0 (bytes_of t))
        (bytes_in (ms s).memory b)) (λ hs. Ok (remembers (taken_of (ms s) 1) b hs)) (ns s) (steps s) in
        record {
          bytes = y.0;
          written = ap (λ n. bytes_written (ord s) q (bytes_of t) 0 (input_bytes n 0 (bytes_of t))
              (bytes_in (ms s).memory b)) (sym (same_count s)) ∙ y.1;
          is = ok_same (remembers (taken_of (ms s) 1) b y.0) (ns s) y.2;
        }

    abbrev cell : CellName
    cell = record { side = Shared; block = b; offset = q; t = t }

    write_input : (i : Side) → IsWrittenAt (ord i) t b q ys 1 true (ms i) (ns i)
    write_input i =
        let w = has_taken i in
        record {
          bytes = w.bytes;
          written = λ f. w.written;
          memory = λ f. ap (λ (z : Machine). z.memory) (sym w.is);
          stays = λ f. absurd (let d : true ≡ false = f in cc);
          inputs = ap (λ (z : Machine). z.inputs) (sym w.is);
        }

    input_there : GoesOn D p ord (with_input base count cell) ns
        (assigned D (sizes_of p.blocks) Both (Number t) (to Both t a moved ty scalar typed_place b q at).pair
        (input_pair D Both t (Number t)) k)
    input_there =
        takes_keep D law p ord base ms ns k known.moved b q t (number Both t a moved ty scalar typed_place b q at)
        (to Both t a moved ty scalar typed_place b q at).pair
        (access Both t a moved ty scalar typed_place b q at (λ s. ys)
        (λ s r. ((has_taken s).bytes, (has_taken s).written)) (λ s r. length_input count 0 (bytes_of t)))
        write_input

    input_goes : (result : Option (ℕ × Scalar)) (d : Dest) → d.what ≡ Number t → d.place ≡ a
        → GoesOn D p ord (with_input base count cell) ns (simple_step D p Both result (input t (Some d)) k)
    input_goes result d w e = record {
      next = input_there.next;
      is = ap (λ c. after_faults (place D (sizes_of p.blocks) c Both k).faults (after_faults (alone_faults Both)
          (assigned D (sizes_of p.blocks) Both d.what (place D (sizes_of p.blocks) c Both k).pair
          (input_pair D Both t d.what) k))) e
          ∙ ap (λ v. after_faults (to Both t a moved ty scalar typed_place b q at).faults (after_faults []
          (assigned D (sizes_of p.blocks) Both v (to Both t a moved ty scalar typed_place b q at).pair
          (input_pair D Both t v) k))) w
          ∙ ap (λ fs. after_faults fs (after_faults [] (assigned D (sizes_of p.blocks) Both (Number t)
          (to Both t a moved ty scalar typed_place b q at).pair (input_pair D Both t (Number t)) k)))
          (is_at Both t a moved ty scalar typed_place b q at).quiet
          ∙ ap (λ z. after_faults [] (after_faults [] z)) input_there.is;
      moved = input_there.moved;
    }

  -- ---- an output

  module _ (keeps : KeepsNaturals D) (t : IntType) (e : Expr) (h : is_moving e ≡ true)
      (typed : has_sort p.types p.blocks seen e (integer t) ≡ true) (xs : List Symbol)
      (said : (s : Side) → symbols (ord s) (ms s).memory e ≡ Ok xs) where
    abbrev out : Given N
    out = (expression D (sizes_of p.blocks) e).gives Both k

    out_gives : GivesBytes D base t Both out (λ s. xs)
    out_gives = gives keeps e t h typed Both (λ s. xs) (λ s r. said s)

    out_same : is_same D out.pair ≡ true
    out_same =
        or_second out.pair.equal (have_same_form out.pair.left.form out.pair.right.form) _
        ((forms_follow base).same out.pair.left.form out.pair.right.form xs (out_gives.each left refl).form
        (out_gives.each right refl).form)
      where
        or_second : (a b c : Bool) → b ≡ true → (a || (b || c)) ≡ true
        or_second true b c e = refl
        or_second false true c e = refl
        or_second false false c e = absurd (cc)

    out_there : has_values Both out.pair ≡ true
    out_there =
        and_from (is_some out.pair.left.value) (is_some out.pair.right.value)
        (ap is_some (out_gives.each left refl).value) (ap is_some (out_gives.each right refl).value)

    output_goes : (result : Option (ℕ × Scalar)) → simple_step D p Both result (output t e) k ≡ stepped [] (Some k)
    output_goes result =
        ap (λ fs. after_faults fs (put_out D Both out.pair k)) out_gives.quiet
        ∙ ap (λ z. after_faults [] (stepped (differs_if D z Both out.pair) (if_goes_on z k))) out_there
        ∙ ap (λ z. after_faults [] (stepped (differ_faults D z out.pair) (Some k))) out_same

pub assignments_keep : {N : Type 0} (D : Ops N) → Lawful D → AssignmentsKeepBytes D
assignments_keep D law keeps p ord formed form base ms ns k known mode result Pointer a e h ty fits steps = absurd (cc)
assignments_keep D law keeps p ord formed form base ms ns k known mode result (Number t) a e h ty fits steps =
    let i = and_parts (is_moved_place a) (is_moving e) h in
    let bs = blocks_of_main (slice_get p.functions p.main) in
    let w = type_where p.types p.blocks bs (λ u. has_scalar u (Number t))
    (λ ty. place_has p.types p.blocks bs a ty && has_type p.types p.blocks bs e ty) fits in
    let j = and_parts (place_has p.types p.blocks bs a w.0) (has_type p.types p.blocks bs e w.0) w.2 in
    let x = typed_where p.types p.blocks bs e w.0 j.1 in
    let sort : x.0 ≡ integer t
    = some-injective (sym x.1 ∙ ap sort_of (number_type (slice_get p.types.types w.0) t w.1)) in
    let z = some_runs mode in
    let y = went_on (place_of a) (λ w. goes_on (symbols (ord z.0) (ms z.0).memory e)
    (λ xs. writes (ord z.0) t (ms z.0) w (resized t xs))) (ns z.0) (steps.assigned z.0 z.1) in
    assignment_goes D law p ord formed form base ms k known keeps mode t a e i.0 i.1 w.0 w.1 j.0
    (subst (λ s. has_sort p.types p.blocks bs e s ≡ true) sort x.2) ns steps y.0.0 y.0.1 y.1 result

-- the number of a block that an input goes to

by_bytes : (t : IntType) → not (is_signed t) ≡ true → t ≡ unsigned_of (bytes_of t)
by_bytes I8 h = absurd (cc)
by_bytes U8 h = refl
by_bytes I16 h = absurd (cc)
by_bytes U16 h = refl
by_bytes I32 h = absurd (cc)
by_bytes U32 h = refl
by_bytes I64 h = absurd (cc)
by_bytes U64 h = refl

type_of : (t : IntType) (u : Option Ty) → option_map_or (is_int_type t) u false ≡ true → u ≡ Some (Int t)
type_of t None h = absurd (cc)
type_of t (Some Void) h = absurd (cc)
type_of t (Some (Ptr e)) h = absurd (cc)
type_of t (Some (Array e n)) h = absurd (cc)
type_of t (Some (Aggregate a)) h = absurd (cc)
type_of t (Some (Int r)) h =
    let a = and_parts (nat_eq (bytes_of t) (bytes_of r)) (not (is_signed t) && not (is_signed r)) h in
    let b = and_parts (not (is_signed t)) (not (is_signed r)) a.1 in
    ap (λ v. Some (Int v))
    (by_bytes r b.1 ∙ ap unsigned_of (sym (eqb-true (bytes_of t) (bytes_of r) a.0)) ∙ sym (by_bytes t b.0))

-- the type of a block is that of its place
block_type_of : (p : Program) (seen : List ℕ) (t : IntType) (b ty : ℕ) → is_block_of p t (block b) ≡ true
    → place_has p.types p.blocks seen (block b) ty ≡ true → slice_get p.types.types ty ≡ Some (Int t)
block_type_of p seen t b ty h typed =
    by (slice_get p.blocks b) h
    (and_parts (is_named p.types p.blocks seen b) (block_has p.types p.blocks seen (slice_get p.blocks b) ty) typed).1
  where
    by : (o : Option Block)
        → option_map_or (λ (d : Block). option_map_or (is_int_type t) (slice_get p.types.types d.ty) false) o false ≡ true
        → block_has p.types p.blocks seen o ty ≡ true → slice_get p.types.types ty ≡ Some (Int t)
    by None h i = absurd (cc)
    by (Some x) h i =
        type_of t (slice_get p.types.types ty)
        (subst (λ n. option_map_or (is_int_type t) (slice_get p.types.types n) false ≡ true) (eqb-true x.ty ty i) h)

pub inputs_keep : {N : Type 0} (D : Ops N) → Lawful D → InputsKeepBytes D
inputs_keep D law p ord formed form base ms ns k known result t None h ty fits steps = absurd (cc)
inputs_keep {N = N} D law p ord formed form base ms ns k known result t (Some d) h ty fits steps =
    by d.place refl (and_parts (not d.cast) (is_block_of p t d.place) h).1
    (λ s. steps s)
  where
    typing : (y : ℕ) × ((has_scalar (slice_get p.types.types y) d.what
        && not (has_scalar (slice_get p.types.types y) Pointer)) ≡ true)
        × (place_has p.types p.blocks (blocks_of_main (slice_get p.functions p.main)) d.place y ≡ true)
    typing =
        type_where p.types p.blocks (blocks_of_main (slice_get p.functions p.main))
        (λ u. has_scalar u d.what && not (has_scalar u Pointer))
        (place_has p.types p.blocks (blocks_of_main (slice_get p.functions p.main)) d.place) fits

    by : (a : Place) → d.place ≡ a → is_block_of p t a ≡ true
        → ((s : Side) → goes_on (place_of d.place)
        (λ w. writes (ord s) t (taken_of (ms s) 1) w (input_bytes (ms s).inputs 0 (bytes_of t))) ≡ Ok (ns s))
        → TakesInput D p ord base ms ns (simple_step D p Both result (input t (Some d)) k)
    by (block b) e i f =
        let typed = subst (λ a. place_has p.types p.blocks (blocks_of_main (slice_get p.functions p.main)) a typing.0
        ≡ true) e typing.2 in
        let is = block_type_of p (blocks_of_main (slice_get p.functions p.main)) t b typing.0 i typed in
        let both = and_parts (has_scalar (slice_get p.types.types typing.0) d.what) _ typing.1 in
        let what : Number t ≡ d.what
        = same_scalar (Number t) d.what (subst (λ u. has_scalar u d.what ≡ true) is both.0) in
        let scalar : has_scalar (slice_get p.types.types typing.0) (Number t) ≡ true
        = subst (λ w. has_scalar (slice_get p.types.types typing.0) w ≡ true) (sym what) both.0 in
        record {
          cell = record { side = Shared; block = b; offset = 0; t = t };
          goes = input_goes D law p ord formed form base ms k known t (block b) refl typing.0 scalar typed b 0 refl ns
              (λ s. sym (ap (λ a. goes_on (place_of a)
              (λ w. writes (ord s) t (taken_of (ms s) 1) w (input_bytes (ms s).inputs 0 (bytes_of t)))) e) ∙ f s)
              result d (sym what) e;
        }
    by (deref c) e i f = absurd (cc)
    by (member c offset) e i f = absurd (cc)
    by (element c bound unit j) e i f = absurd (cc)

pub outputs_agree : {N : Type 0} (D : Ops N) → Lawful D → OutputsAgree D
outputs_agree D law keeps p ord formed form base ms k known result t e h ty fits xs said =
    output_goes D law p ord formed form base ms k known keeps t e h fits xs said result
