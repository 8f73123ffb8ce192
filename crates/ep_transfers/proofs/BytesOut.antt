-- Bytes that are put out: without a fault both machines put out the same, each in turn.
use Rattle.std.proofs.Common.{◌≡◌, ℕ, zero, suc, ◌+◌, ◌*◌, ◌^◌, pos, Bool, true, false, ◌&&◌, if◌then◌else◌, List, []}
use Rattle.ep_int.proofs.Basics.{plus-zero}
use Rattle.ep_evaluation.proofs.LoadSound.{all_at}
use Rattle.ep_reads.proofs.Gathered.{if_some}
use Rattle.std.proofs.Common.{◌∷◌, ◌++◌, Option, Some, None, IfSome, is_some, slice_index_or, refl, sym, ap, ◌∙◌}
use Rattle.std.proofs.Common.{subst, arith}
use Rattle.std.proofs.lemmas.Bool.{and_from, and_parts}
use Rattle.ep_int.specs.declared.types.IntType.TheVariants.{U8}
use Rattle.ep_int.specs.declared.types.Order.{Order}
use Rattle.ep_int.specs.declared.types.Order.TheVariants.{Little, Big, SwappedWords}
use Rattle.ep_int.specs.declared.types.Scalar.{Scalar}
use Rattle.ep_int.specs.declared.types.Scalar.TheVariants.{Int, Pointer}
use Rattle.ep_int.specs.Encoding.{decoded}
use Rattle.ep_int.specs.Memory.{Byte, undefined, number, fragment, Memory, Value as Datum, int, null, pointer, has}
use Rattle.ep_int.specs.Memory.{faults, number_in, bytes_from, value_of_bytes, range_fault}
use Rattle.ep_alarms.specs.declared.types.AlarmKind.TheVariants.{U4, U10}
use Rattle.ep_bitslice.specs.declared.segment.Segment.{Segment}
use Rattle.ep_bitslice.specs.Segments.{number as form_number}
use Rattle.ep_domain.specs.Domain.{Ops}
use Rattle.ep_cells.specs.Look.{cell_at}
use Rattle.ep_cells.specs.States.{Known}
use Rattle.ep_cells.specs.Meaning.{Memories, Allows, numbers_of}
use Rattle.ep_reads.specs.Read.{read}
use Rattle.ep_reads.specs.Laws.{IsNumberOf}
use Rattle.ep_core.specs.Program.{Expr, write_bytes, Program}
use Rattle.ep_core.specs.Exec.{State, Output, Outcome, on, uncounted, value, does, byte_out, out_of, bytewise}
use Rattle.ep_core.specs.Exec.{bytewise_rest, size_at, put_out as put_number}
use Rattle.ep_core.specs.Runs.{Side, left, right}
use Rattle.ep_core.specs.WellFormed.{is_length, is_address, has_sort, pointer_to, blocks_fit}
use Rattle.ep_core.proofs.Sorts.{pointer_where}
use Rattle.ep_pass.specs.Laws.{ConcretisesStates, ConcretisesTyped, Meets, meet}
use Rattle.ep_equalities.specs.declared.pair.Mode.TheVariants.{Both, Left, Right}
use Rattle.ep_equalities.specs.declared.pair.PairValue.{PairValue}
use Rattle.ep_equalities.specs.declared.pair.SideValue.{SideValue}
use Rattle.ep_equalities.specs.Pairs.{SideIn, HasFormNumber}
use Rattle.ep_equalities.specs.Same.{is_same}
use Rattle.ep_equalities.proofs.Equal.{same_values}
use Rattle.ep_evaluation.specs.Given.{cells_of, alone, shown_if, faults_on}
use Rattle.ep_evaluation.specs.Accesses.{reads_of, joined_reads, form_of_reads, is_unset, is_mixed, are_shared}
use Rattle.ep_evaluation.specs.Evaluation.{expression}
use Rattle.ep_cell_ranges.specs.Shared.{is_shared_cell}
use Rattle.ep_cell_ranges.specs.Spots.{Spot}
use Rattle.ep_evaluation.specs.Laws.{Machine, memory_of, sizes_of, IsKept, ExpressionsHold, PlacesHold}
use Rattle.ep_evaluation.proofs.General.{none_left, not_shown, unmarked}
use Rattle.ep_evaluation.proofs.Spots.{Among, here, behind, set_at, pure_at, joined_at}
use Rattle.ep_evaluation.proofs.Loads.{sure_read}
use Rattle.ep_evaluation.proofs.Shareds.{shared_same}
use Rattle.ep_transfers.specs.Places.{Places, at_side, moved_spots, range_faults, has_values, has_places}
use Rattle.ep_transfers.specs.Transfers.{Stepped, stepped, after_faults, alone_faults, differ_faults, byte_pair}
use Rattle.ep_transfers.specs.Transfers.{byte_faults, bytes_out, simple_step}
use Rattle.ep_transfers.specs.Laws.{memories, StandsFor, CellLaws}
use Rattle.ep_transfers.proofs.Assigned.{valued}
use Rattle.ep_transfers.proofs.Evaluated.{kept_both}
use Rattle.ep_transfers.proofs.Stored.{expr_is}
use Rattle.ep_transfers.proofs.RunPlaces.{rest_is, among_moved, no_range_fault, at_run_is, run_places}
use Rattle.ep_transfers.proofs.RunPlaces.{at, has_all, one_place}

-- ---- a byte

one_byte : (v : ℕ) → 0 + v * 256 ^ 0 ≡ v
one_byte v = omega arith

byte_number : (o : Order) (v : ℕ) → decoded o U8 (λ p. number_in (slice_index_or (number v ∷ []) p undefined)) ≡ pos v
byte_number Little v = ap pos (one_byte v)
byte_number Big v = ap pos (one_byte v)
byte_number SwappedWords v = ap pos (one_byte v)

-- a byte that is read as a number is one
byte_is : (o : Order) (x : Byte) (u : Datum) → value_of_bytes o (Int U8) (x ∷ []) ≡ has u
    → (v : ℕ) × (x ≡ number v) × (u ≡ int (pos v))
byte_is o undefined u e = absurd (let q : faults _ ≡ has u = e in cc)
byte_is o (number v) u e =
    let q : int (decoded o U8 (λ p. number_in (slice_index_or (number v ∷ []) p undefined))) ≡ u = cc in
    (v, refl, sym q ∙ ap int (byte_number o v))
byte_is o (fragment b q k) u e = absurd (let q : faults _ ≡ has u = e in cc)

one_number : (a b : ℕ) → int (pos a) ≡ int (pos b) → a ≡ b
one_number a b e = cc

if_true : {N : Type 0} (t : Bool) (a b : Stepped N) → t ≡ true → (if t then a else b) ≡ a
if_true true a b e = refl
if_true false a b e = absurd (cc)

pub no_differ : {N : Type 0} (D : Ops N) (t : Bool) (v : PairValue N) → differ_faults D t v ≡ [] → t ≡ true
no_differ D true v e = refl
no_differ D false v e = absurd (cc)

-- a machine puts out a byte that is a number
puts_byte : (o : Order) (p : Program) (b l h : ℕ) (s : State) (go : State → Outcome) (v : ℕ) → s.memory b h ≡ number v
    → out_of o p b l h s go ≡ go (put_number U8 (pos v) s)
puts_byte o p b l h s go v e = ap (λ x. byte_out x l s go) e

module _ {N : Type 0} (D : Ops N) (laws : CellLaws D) (p : Program) (ord : Side → Order) (k : Known N) (m : Memories)
    (kept : IsKept D p ord k m) where
  form_number_of : (w : Datum) (ss : List Segment) → IsNumberOf (Int U8) w (form_number (numbers_of k.orders m) ss)
      → HasFormNumber (numbers_of k.orders m) (Int U8) w ss
  form_number_of (int z) ss h = h
  form_number_of null ss h = absurd h
  form_number_of (pointer b q) ss h = absurd h

  abbrev byte_side : Side → List Spot → SideValue N
  byte_side s qs = record {
    value = joined_reads D (reads_of D k (cells_of s) (Int U8) qs);
    form = form_of_reads (reads_of D k (cells_of s) (Int U8) qs);
  }

  abbrev order_of : Side → Order
  order_of left = k.orders.0
  order_of right = k.orders.1

  -- what a machine has at one of these places
  record ByteAt (s : Side) (qs : List Spot) (b q : ℕ) : Type 0 where
    value : ℕ
    is : memory_of s m b q ≡ number value
    read : value_of_bytes (order_of s) (Int U8) (bytes_from (memory_of s m) b q 1) ≡ has (int (pos value))
    held : SideIn D (numbers_of k.orders m) (Int U8) (byte_side s qs) (int (pos value))

  form_at : (s : Side) (x : Spot) (qs : List Spot) (v : Datum) → Among x qs
      → IfSome (read D k (cells_of s) x.0 x.1 (Int U8)).form (HasFormNumber (numbers_of k.orders m) (Int U8) v)
      → IfSome (form_of_reads (reads_of D k (cells_of s) (Int U8) qs))
      (HasFormNumber (numbers_of k.orders m) (Int U8) v)
  form_at s x [] v h e = elim h [ ]
  form_at s x (_ ∷ []) v (here _) e = e
  form_at s x (y ∷ []) v (behind _ _ h) e = elim h [ ]
  form_at s x (y ∷ z ∷ qs) v h e = tt

  byte_by : (s : Side) (qs : List Spot) (b q : ℕ) (u : Datum)
      → value_of_bytes (order_of s) (Int U8) (memory_of s m b q ∷ []) ≡ has u
      → Allows D (Int U8) (joined_reads D (reads_of D k (cells_of s) (Int U8) qs)) false (Some u)
      → IfSome (form_of_reads (reads_of D k (cells_of s) (Int U8) qs))
      (HasFormNumber (numbers_of k.orders m) (Int U8) u)
      → ByteAt s qs b q
  byte_by s qs b q u f a g =
      let x = byte_is (order_of s) (memory_of s m b q) u f in
      record {
        value = x.0;
        is = x.1;
        read = f ∙ ap has x.2;
        held = record {
          value = subst (λ d. Allows D (Int U8) (joined_reads D (reads_of D k (cells_of s) (Int U8) qs)) false (Some d))
              x.2 a;
          form = subst (λ d. IfSome (form_of_reads (reads_of D k (cells_of s) (Int U8) qs))
              (HasFormNumber (numbers_of k.orders m) (Int U8) d)) x.2 g;
        };
      }

  byte_at : (s : Side) (qs : List Spot) (b q : ℕ) → Among (b, q) qs
      → is_unset (reads_of D k (cells_of s) (Int U8) qs) ≡ false
      → is_mixed (reads_of D k (cells_of s) (Int U8) qs) ≡ false → ByteAt s qs b q
  byte_at left qs b q h set pure =
      let c = cells_of left in
      let r = laws.reads.holds k c b q (Int U8) kept.state.cells m kept.holds
      (sure_read (read D k c b q (Int U8)) (set_at D laws.domain laws.reads k kept.state.cells c (Int U8) (b, q) qs h
      set))
      (pure_at D laws.domain laws.reads k kept.state.cells c (Int U8) (b, q) qs h pure) in
      byte_by left qs b q r.datum r.found
      (joined_at D laws.domain laws.reads k kept.state.cells c (Int U8) (b, q) qs r.datum h r.allowed)
      (form_at left (b, q) qs r.datum h
      (if_some (read D k c b q (Int U8)).form
      (λ ss. IsNumberOf (Int U8) r.datum (form_number (numbers_of k.orders m) ss))
      (HasFormNumber (numbers_of k.orders m) (Int U8) r.datum) (λ ss i. form_number_of r.datum ss i) r.form))
  byte_at right qs b q h set pure =
      let c = cells_of right in
      let r = laws.reads.holds k c b q (Int U8) kept.state.cells m kept.holds
      (sure_read (read D k c b q (Int U8)) (set_at D laws.domain laws.reads k kept.state.cells c (Int U8) (b, q) qs h
      set))
      (pure_at D laws.domain laws.reads k kept.state.cells c (Int U8) (b, q) qs h pure) in
      byte_by right qs b q r.datum r.found
      (joined_at D laws.domain laws.reads k kept.state.cells c (Int U8) (b, q) qs r.datum h r.allowed)
      (form_at right (b, q) qs r.datum h
      (if_some (read D k c b q (Int U8)).form
      (λ ss. IsNumberOf (Int U8) r.datum (form_number (numbers_of k.orders m) ss))
      (HasFormNumber (numbers_of k.orders m) (Int U8) r.datum) (λ ss i. form_number_of r.datum ss i) r.form))

  -- ---- a byte of both

  module _ (places : Places) (same : Bool) (b q c r : ℕ) (on_left : Among (b, q) places.left)
      (on_right : Among (c, r) places.right) (one : same ≡ true → ◌≡◌ {A = Spot} (b, q) (c, r)) where
    record BothAt (i : ℕ) : Type 0 where
      value : ℕ
      left_is : m.left b (q + i) ≡ number value
      right_is : m.right c (r + i) ≡ number value

    abbrev left_spots : ℕ → List Spot
    left_spots i = moved_spots i places.left

    abbrev right_spots : ℕ → List Spot
    right_spots i = moved_spots i places.right

    record BytesAt (i : ℕ) : Type 0 where
      on_one : ByteAt left (left_spots i) b (q + i)
      on_other : ByteAt right (right_spots i) c (r + i)

    bytes_at : (i : ℕ) → byte_faults D Both k places i ≡ [] → BytesAt i
    bytes_at i e =
        let unset : Side → Bool = λ s. is_unset (reads_of D k (cells_of s) (Int U8)
        (moved_spots i (at_side places s))) in
        let mixed : Side → Bool = λ s. is_mixed (reads_of D k (cells_of s) (Int U8)
        (moved_spots i (at_side places s))) in
        let x = none_left (faults_on Both U4 (λ s. shown_if (unset s))) (faults_on Both U10 (λ s. shown_if (mixed s))) e
        in
        record {
          on_one = byte_at left (left_spots i) b (q + i) (among_moved i (b, q) places.left on_left)
              (not_shown (unset left) (unmarked Both U4 (λ s. shown_if (unset s)) left x.0 refl))
              (not_shown (mixed left) (unmarked Both U10 (λ s. shown_if (mixed s)) left x.1 refl));
          on_other = byte_at right (right_spots i) c (r + i) (among_moved i (c, r) places.right on_right)
              (not_shown (unset right) (unmarked Both U4 (λ s. shown_if (unset s)) right x.0 refl))
              (not_shown (mixed right) (unmarked Both U10 (λ s. shown_if (mixed s)) right x.1 refl));
        }

    have_values : (i : ℕ) → BytesAt i → has_values Both (byte_pair D Both same k places i) ≡ true
    have_values i a =
        and_from (is_some (byte_side left (left_spots i)).value) (is_some (byte_side right (right_spots i)).value)
        (valued D (Int U8) (byte_side left (left_spots i)).value (int (pos a.on_one.value)) a.on_one.held.value)
        (valued D (Int U8) (byte_side right (right_spots i)).value (int (pos a.on_other.value)) a.on_other.held.value)

    -- Shared cells at one place have one value
    one_value : (i : ℕ) (a : BytesAt i) → byte_faults D Both k places i ≡ []
        → (same && (are_shared k (cells_of left) (Int U8) (left_spots i)
        && are_shared k (cells_of right) (Int U8) (right_spots i))) ≡ true
        → int (pos a.on_one.value) ≡ int (pos a.on_other.value)
    one_value i a e t =
        let x = and_parts same (are_shared k (cells_of left) (Int U8) (left_spots i)
        && are_shared k (cells_of right) (Int U8) (right_spots i)) t in
        let y = and_parts (are_shared k (cells_of left) (Int U8) (left_spots i))
        (are_shared k (cells_of right) (Int U8) (right_spots i)) x.1 in
        let z = one x.0 in
        let among = among_moved i (b, q) places.left on_left in
        let unset : Side → Bool = λ s. is_unset (reads_of D k (cells_of s) (Int U8)
        (moved_spots i (at_side places s))) in
        let mixed : Side → Bool = λ s. is_mixed (reads_of D k (cells_of s) (Int U8)
        (moved_spots i (at_side places s))) in
        let n = none_left (faults_on Both U4 (λ s. shown_if (unset s))) (faults_on Both U10 (λ s. shown_if (mixed s))) e
        in
        let set = not_shown (unset left) (unmarked Both U4 (λ s. shown_if (unset s)) left n.0 refl) in
        shared_same D laws.domain p ord k m kept (Int U8) b (q + i)
        (all_at (λ (z : Spot). is_shared_cell k (Int U8) z.1 (cell_at k.model (cells_of left) z.0 z.1 k.cells))
        (b, q + i) (left_spots i) among y.0)
        (sure_read (read D k (cells_of left) b (q + i) (Int U8))
        (set_at D laws.domain laws.reads k kept.state.cells (cells_of left) (Int U8) (b, q + i) (left_spots i) among
        set))
        (int (pos a.on_one.value)) (int (pos a.on_other.value)) a.on_one.read
        (subst (λ (s : Spot). value_of_bytes k.orders.1 (Int U8) (bytes_from m.right s.0 (s.1 + i) 1)
        ≡ has (int (pos a.on_other.value))) (sym z) a.on_other.read)

    both_at : (i : ℕ) (a : BytesAt i) → byte_faults D Both k places i ≡ []
        → is_same D (byte_pair D Both same k places i) ≡ true → BothAt i
    both_at i a e s =
        let v = one_number a.on_one.value a.on_other.value
        (same_values D laws.domain (byte_pair D Both same k places i) s (numbers_of k.orders m) (Int U8)
        (int (pos a.on_one.value)) (int (pos a.on_other.value))
        (record { left = λ z. a.on_one.held; right = λ z. a.on_other.held; equal = λ z t. one_value i a e t })) in
        record { value = a.on_one.value; left_is = a.on_one.is; right_is = a.on_other.is ∙ ap number (sym v) }

    -- ---- all bytes

    abbrev In' : Known N → Memory → Memory → Type 0
    In' = StandsFor D p ord

    next_place : (h q i : ℕ) → h ≡ q + i → h + 1 ≡ q + (i + 1)
    next_place h q i e = omega (arith, e)

    outputs_go : (n i : ℕ) (x y : State) → x.memory ≡ m.left → y.memory ≡ m.right → ConcretisesStates p In' k x y
        → (bytes_out D Both same k places i n).faults ≡ [] → (h g : ℕ) → h ≡ q + i → g ≡ r + i → (l a d : ℕ)
        → Meets p In' on (bytes_out D Both same k places i n).next a d
        (bytewise uncounted (out_of (ord left) p b l) n h a x) (bytewise uncounted (out_of (ord right) p c l) n g d y)
    outputs_go zero i x y ex ey stands e h g eh eg l a d = meet stands
    outputs_go (suc n) i x y ex ey stands e h g eh eg l a d =
        let pair = byte_pair D Both same k places i in
        let f = none_left (byte_faults D Both k places i) _ e in
        let at = bytes_at i f.0 in
        let all : Stepped N = after_faults (differ_faults D (is_same D pair) pair) (bytes_out D Both same k places
        (i + 1) n) in
        let taken = if_true (has_values Both pair) all (stepped [] None) (have_values i at) in
        let quiet : all.faults ≡ [] = subst (λ (s : Stepped N). s.faults ≡ []) taken f.1 in
        let parts = none_left (differ_faults D (is_same D pair) pair) _ quiet in
        let both = both_at i at f.0 (no_differ D (is_same D pair) pair parts.0) in
        let bx : x.memory b h ≡ number both.value = ap (λ (z : Memory). z b h) ex ∙ ap (m.left b) eh ∙ both.left_is in
        let by : y.memory c g ≡ number both.value = ap (λ (z : Memory). z c g) ey ∙ ap (m.right c) eg ∙ both.right_is in
        let x1 = put_number U8 (pos both.value) x in
        let y1 = put_number U8 (pos both.value) y in
        let more = outputs_go n (i + 1) x1 y1 ex ey
        (record {
          memories = stands.memories;
          inputs = stands.inputs;
          outputs = ap (λ (os : List Output). os ++ record { t = U8; value = pos both.value } ∷ []) stands.outputs;
        }) parts.1 (h + 1) (g + 1) (next_place h q i eh) (next_place g r i eg) l a d in
        subst (λ (s : Stepped N). Meets p In' on s.next a d
        (bytewise uncounted (out_of (ord left) p b l) (suc n) h a x)
        (bytewise uncounted (out_of (ord right) p c l) (suc n) g d y)) (sym taken)
        (rw (
          puts_byte (ord left) p b l h x (bytewise uncounted (out_of (ord left) p b l) n (h + 1) a) both.value bx,
          puts_byte (ord right) p c l g y (bytewise uncounted (out_of (ord right) p c l) n (g + 1) d) both.value by,
        ) more)

-- ---- the statement

does_out : (o : Order) (p : Program) (r : Option (ℕ × Scalar)) (e : Expr) (n l a : ℕ) (s : State) (b q : ℕ)
    → value o p e s.memory ≡ has (pointer b q) → range_fault (size_at o p b) q n ≡ None
    → does o p uncounted r (write_bytes e n) l a s ≡ bytewise uncounted (out_of o p b l) n q a s
does_out o p r e n l a s b q f g =
    at_run_is (value o p e s.memory) (size_at o p) l n b q s
    (λ b q. bytewise_rest uncounted (out_of o p b l) n q a s) f g
    ∙ rest_is (out_of o p b l) n q a s

module _ {N : Type 0} (D : Ops N) (laws : CellLaws D) (p : Program) (ord : Side → Order)
    (fit : blocks_fit p.types p.blocks ≡ true) (exprs : ExpressionsHold D p ord) (plcs : PlacesHold D p ord)
    (r : Option (ℕ × Scalar)) (e : Expr) (n : ℕ) where
  pub write_sound : (seen : List ℕ) → (is_length n && is_address p.types p.blocks seen e) ≡ true → (k : Known N)
      (x y : State) → ConcretisesTyped p (StandsFor D p ord) k x y → (simple_step D p Both r (write_bytes e n) k).faults ≡ []
      → (l a d : ℕ) → Meets p (StandsFor D p ord) on (simple_step D p Both r (write_bytes e n) k).next a d
      (does (ord left) p uncounted r (write_bytes e n) l a x) (does (ord right) p uncounted r (write_bytes e n) l d y)
  write_sound seen h k x y kept q l a d =
      let m = memories x.memory y.memory in
      let i = kept_both D p ord k x y kept in
      let ty = pointer_where p.types p.blocks seen (has_sort p.types p.blocks seen e) (and_parts (is_length n) _ h).1 in
      let v = (expression D (sizes_of p.blocks) e).gives Both k in
      let f : Side → Machine = λ s. value (ord s) p e in
      let ev = expr_is D laws p ord fit exprs plcs seen e (pointer_to ty.0) ty.1 Pointer refl k m i Both in
      let g = none_left v.faults _ q in
      let w = none_left (range_faults D (sizes_of p.blocks) Both n v.pair) _ g.1 in
      let places = run_places D laws p ord fit k m n Both f v ev g.0 w.0 in
      let al = at D laws p ord fit k m n Both f v ev g.0 w.0 left refl in
      let ar = at D laws p ord fit k m n Both f v ev g.0 w.0 right refl in
      let all : Stepped N = bytes_out D Both (is_same D v.pair) k places 0 n in
      let taken = if_true (has_places Both places) all (stepped [] None)
      (has_all D laws p ord fit k m n Both f v ev g.0 w.0) in
      subst (λ (s : Stepped N). Meets p (StandsFor D p ord) on s.next a d
      (does (ord left) p uncounted r (write_bytes e n) l a x)
      (does (ord right) p uncounted r (write_bytes e n) l d y)) (sym taken)
      (rw (
        does_out (ord left) p r e n l a x al.block al.offset al.address
            (no_range_fault (size_at (ord left) p al.block) al.offset n al.inside),
        does_out (ord right) p r e n l d y ar.block ar.offset ar.address
            (no_range_fault (size_at (ord right) p ar.block) ar.offset n ar.inside),
      )
      (outputs_go D laws p ord k m i places (is_same D v.pair) al.block al.offset ar.block ar.offset al.among ar.among
      (λ s. one_place D laws.domain p ord k m f v ev g.0 s al.block al.offset ar.block ar.offset al.address ar.address)
      n 0 x y refl refl kept.stands (subst (λ (s : Stepped N). s.faults ≡ []) taken w.1) al.offset ar.offset
      (plus-zero al.offset) (plus-zero ar.offset) l a d))

  pub write_alone : (i : Side) (k : Known N) → (simple_step D p (alone i) r (write_bytes e n) k).faults ≡ [] → ⊥
  write_alone left k q =
      let v = (expression D (sizes_of p.blocks) e).gives Left k in
      let g = (none_left v.faults _ q).1 in
      absurd (let h : alone_faults Left ≡ [] = (none_left (alone_faults Left) _ g).0 in cc)
  write_alone right k q =
      let v = (expression D (sizes_of p.blocks) e).gives Right k in
      let g = (none_left v.faults _ q).1 in
      absurd (let h : alone_faults Right ≡ [] = (none_left (alone_faults Right) _ g).0 in cc)
