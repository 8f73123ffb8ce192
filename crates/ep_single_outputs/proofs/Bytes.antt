-- Bytes that are put out, each in turn.
use Rattle.std.proofs.Common.{◌≡◌, ℕ, zero, suc, ◌+◌, ◌*◌, ◌^◌, ◌≤◌, pos, Bool, true, false, ◌&&◌, ◌||◌, not}
use Rattle.std.proofs.Common.{if◌then◌else◌}
use Rattle.std.proofs.Common.{List, [], ◌∷◌, Option, Some, None, is_some, refl, sym}
use Rattle.std.proofs.Common.{ap, ◌∙◌, subst, arith}
use Rattle.std.specs.Option.{option_map_or}
use Rattle.std.proofs.lemmas.Bool.{and_from, and_parts}
use Rattle.ep_alarms.specs.declared.types.AlarmKind.TheVariants.{U4, U10}
use Rattle.ep_int.specs.declared.types.IntType.TheVariants.{U8}
use Rattle.ep_int.specs.declared.types.Order.{Order}
use Rattle.ep_int.specs.declared.types.Order.TheVariants.{Little, Big, SwappedWords}
use Rattle.ep_int.specs.declared.types.Scalar.{Scalar}
use Rattle.ep_int.specs.declared.types.Scalar.TheVariants.{Int, Pointer}
use Rattle.ep_int.specs.Memory.{Byte, undefined, number, fragment, Memory, Value as Datum, int, pointer, has}
use Rattle.ep_int.specs.Memory.{is_undefined, value_of_bytes, range_fault}
use Rattle.std.specs.List.{list_any}
use Rattle.ep_int.proofs.Basics.{plus-zero}
use Rattle.ep_domain.specs.Domain.{Ops, Lawful}
use Rattle.ep_cells.specs.declared.cell.Value.{Value}
use Rattle.ep_cells.specs.States.{Known}
use Rattle.ep_cells.specs.Meaning.{Memories}
use Rattle.ep_reads.specs.declared.read.ReadValue.{ReadValue}
use Rattle.ep_reads.specs.Bytes.{order_on}
use Rattle.ep_reads.specs.Read.{read}
use Rattle.ep_core.specs.Program.{Expr, write_bytes, Program}
use Rattle.ep_core.specs.Exec.{State, Outcome, on, uncounted, value, given, at_place, unless, byte_out, out_of}
use Rattle.ep_core.specs.Exec.{bytewise, bytewise_rest, size_at, put_out as put_number}
use Rattle.ep_core.specs.Runs.{Side, left, right}
use Rattle.ep_core.specs.WellFormed.{is_length, is_address, has_sort, pointer_to, blocks_fit}
use Rattle.ep_core.proofs.Sorts.{pointer_where}
use Rattle.ep_equalities.specs.declared.pair.Mode.TheVariants.{Both}
use Rattle.ep_equalities.specs.Same.{is_same}
use Rattle.ep_evaluation.specs.Given.{Given, cells_of, shown_if, faults_on}
use Rattle.ep_evaluation.specs.Accesses.{is_unset, is_mixed}
use Rattle.ep_evaluation.specs.Evaluation.{expression}
use Rattle.ep_evaluation.specs.Laws.{Machine, memory_of, sizes_of, Holds, ExpressionsHold}
use Rattle.ep_evaluation.proofs.Basics.{faults_on-none}
use Rattle.ep_transfers.specs.Places.{Places, has_places, has_values, range_faults}
use Rattle.ep_transfers.specs.Transfers.{Stepped, stepped, after_faults, differ_faults, byte_reads, byte_pair}
use Rattle.ep_transfers.specs.Transfers.{byte_faults}
use Rattle.ep_transfers.specs.Transfers.{bytes_out, written_out, simple_step}
use Rattle.ep_transfers.specs.Cells.{told_of, when_known, is_told_so}
use Rattle.ep_transfers.specs.Laws.{memories}
use Rattle.ep_transfers.proofs.Fills.{some_length}
use Rattle.ep_transfers.proofs.RunPlaces.{rest_is}
use Rattle.ep_transfers.proofs.RunSteps.{spot_on}
use Rattle.ep_cell_ranges.specs.Spots.{Spot}
use Rattle.ep_closed_laws.specs.Exactly.{IfLeft, TransferIsExact}
use Rattle.ep_singles.specs.Numbers.{KeepsSingles}
use Rattle.ep_singles.specs.Cells.{IsOneValue}
use Rattle.ep_singles.specs.Laws.{IsReadAs}
use Rattle.ep_singles.proofs.Settled.{reads_are_one}
use Rattle.ep_single_states.specs.Laws.{ConcretisesOne}
use Rattle.ep_single_given.specs.Laws.{IsOneGiven}
use Rattle.ep_single_given.proofs.Given.{no_faults}
use Rattle.ep_single_pairs.proofs.Pairs.{sames_are_known}
use Rattle.ep_single_narrowed.specs.Laws.{IsKeptOne}
use Rattle.ep_single_values.specs.Laws.{ValuesAreOne}
use Rattle.ep_single_values.specs.Statements.{StatementIsExact}
use Rattle.ep_single_runs.proofs.Steps.{if_more, if_given, if_place, if_unless, find_both, kept_one, StepIsExact}
use Rattle.ep_single_runs.proofs.Steps.{after_exact, exact_both, value_there}
use Rattle.ep_single_runs.proofs.Located.{in_range, IsRunAt, run_places, place_is, quiet, there}
use Rattle.ep_single_outputs.proofs.Values.{last_is, one_output, given_is}

-- ---- a byte

byte_value : (o : Order) (v : ℕ) → value_of_bytes o (Int U8) (number v ∷ []) ≡ has (int (pos v))
byte_value Little v = let e : 0 + v * 256 ^ 0 ≡ v = omega arith in ap (λ z. has (int (pos z))) e
byte_value Big v = let e : 0 + v * 256 ^ 0 ≡ v = omega arith in ap (λ z. has (int (pos z))) e
byte_value SwappedWords v = let e : 0 + v * 256 ^ 0 ≡ v = omega arith in ap (λ z. has (int (pos z))) e

-- ---- a machine

-- its memory has n bytes from here on, and it puts them out in turn
abbrev Puts : (block n here : ℕ) → State → State → Type 0
Puts b zero h x x' = x' ≡ x
Puts b (suc n) h x x' = (v : ℕ) × (x.memory b h ≡ number v) × Puts b n (h + 1) (put_number U8 (pos v) x) x'

puts_all : (o : Order) (p : Program) (b l n h a : ℕ) (x : State)
    → IfLeft on (Puts b n h x) (bytewise uncounted (out_of o p b l) n h a x)
puts_all o p b l zero h a x = (refl, refl)
puts_all o p b l (suc n) h a x =
    by (x.memory b h) refl (λ v. puts_all o p b l n (h + 1) a (put_number U8 (pos v) x))
  where
    by : (y : Byte) → x.memory b h ≡ y
        → ((v : ℕ) → IfLeft on (Puts b n (h + 1) (put_number U8 (pos v) x))
        (bytewise uncounted (out_of o p b l) n (h + 1) a (put_number U8 (pos v) x)))
        → IfLeft on (Puts b (suc n) h x) (byte_out y l x (bytewise uncounted (out_of o p b l) n (h + 1) a))
    by undefined e more = tt
    by (number v) e more =
        if_more on (Puts b n (h + 1) (put_number U8 (pos v) x)) (Puts b (suc n) h x)
        (bytewise uncounted (out_of o p b l) n (h + 1) a (put_number U8 (pos v) x)) (λ z i. (v, e, i)) (more v)
    by (fragment c q j) e more = tt

puts_rest : (o : Order) (p : Program) (b l n h a : ℕ) (x : State)
    → IfLeft on (Puts b n h x) (bytewise_rest uncounted (out_of o p b l) n h a x)
puts_rest o p b l n h a x =
    subst (IfLeft on (Puts b n h x)) (sym (rest_is (out_of o p b l) n h a x)) (puts_all o p b l n h a x)

puts_keep : (b n h : ℕ) (x z : State) → Puts b n h x z → z.memory ≡ x.memory
puts_keep b zero h x z e = ap (λ (s : State). s.memory) e
puts_keep b (suc n) h x z i = puts_keep b n (h + 1) (put_number U8 (pos i.0) x) z i.2

-- what was put out before is the same where what is put out in the end is
puts_same : (b c n h g : ℕ) (x y z w : State) → Puts b n h x z → Puts c n g y w → z.outputs ≡ w.outputs
    → x.outputs ≡ y.outputs
puts_same b c zero h g x y z w e f o =
    ap (λ (s : State). s.outputs) (sym e) ∙ o ∙ ap (λ (s : State). s.outputs) f
puts_same b c (suc n) h g x y z w i j o =
    (last_is x.outputs y.outputs (record { t = U8; value = pos i.0 }) (record { t = U8; value = pos j.0 })
    (puts_same b c n (h + 1) (g + 1) (put_number U8 (pos i.0) x) (put_number U8 (pos j.0) y) z w i.2 j.2 o)).0

one_number : (a b : ℕ) → pos a ≡ pos b → a ≡ b
one_number a b e = cc

-- ---- what is known

module _ {N : Type 0} (D : Ops N) (law : Lawful D) (p : Program) (ord : Side → Order) (k : Known N) (m : Memories)
    (c : ConcretisesOne D p ord k m.left m.right) where
  byte_read : (s : Side) (b q v : ℕ) → memory_of s m b q ≡ number v
      → IsReadAs D (Int U8) (read D k (cells_of s) b q (Int U8)) (int (pos v))
  byte_read left b q v e =
      reads_are_one D law k m c.one (cells_of left) tt b q (Int U8) (int (pos v))
      (record {
        defined = ap (λ z. list_any is_undefined (z ∷ [])) e;
        value = ap (λ z. value_of_bytes (order_on (cells_of left) k.orders) (Int U8) (z ∷ [])) e
            ∙ byte_value (order_on (cells_of left) k.orders) v;
      })
  byte_read right b q v e =
      reads_are_one D law k m c.one (cells_of right) tt b q (Int U8) (int (pos v))
      (record {
        defined = ap (λ z. list_any is_undefined (z ∷ [])) e;
        value = ap (λ z. value_of_bytes (order_on (cells_of right) k.orders) (Int U8) (z ∷ [])) e
            ∙ byte_value (order_on (cells_of right) k.orders) v;
      })

  valued : (o : Option (Value N)) → IsOneValue D o → option_map_or (λ v. false) o true ≡ false
  valued None i = elim i [ ]
  valued (Some v) i = refl

  one_unset : (r : ReadValue N) (v : Datum) → IsReadAs D (Int U8) r v → is_unset (r ∷ []) ≡ false
  one_unset r v h =
      ap (λ t. (t || (option_map_or (λ v. false) r.value true && not r.mixed)) || false) h.sure
      ∙ ap (λ t. (t && not r.mixed) || false) (valued r.value h.one)

  -- from one place on each side
  module _ (same : Bool) (b q d r : ℕ) where
    abbrev places : Places
    places = record { left = (b, q) ∷ []; right = (d, r) ∷ [] }

    -- both machines have this byte
    record BothHave (i v : ℕ) : Type 0 where
      left_is : m.left b (q + i) ≡ number v
      right_is : m.right d (r + i) ≡ number v

    module _ (i v : ℕ) (h : BothHave i v) where
      abbrev left_read : IsReadAs D (Int U8) (read D k (cells_of left) b (q + i) (Int U8)) (int (pos v))
      left_read = byte_read left b (q + i) v h.left_is

      abbrev right_read : IsReadAs D (Int U8) (read D k (cells_of right) d (r + i) (Int U8)) (int (pos v))
      right_read = byte_read right d (r + i) v h.right_is

      unset : (s : Side) → is_unset (byte_reads D k places i s) ≡ false
      unset left = one_unset (read D k (cells_of left) b (q + i) (Int U8)) (int (pos v)) left_read
      unset right = one_unset (read D k (cells_of right) d (r + i) (Int U8)) (int (pos v)) right_read

      unmixed : (s : Side) → is_mixed (byte_reads D k places i s) ≡ false
      unmixed left = ap (λ t. t || false) left_read.unmixed
      unmixed right = ap (λ t. t || false) right_read.unmixed

      no_byte_faults : byte_faults D Both k places i ≡ []
      no_byte_faults =
          no_faults (faults_on Both U4 (λ s. shown_if (is_unset (byte_reads D k places i s))))
          (faults_on Both U10 (λ s. shown_if (is_mixed (byte_reads D k places i s))))
          (faults_on-none Both U4 (λ s. shown_if (is_unset (byte_reads D k places i s)))
          (λ s z. ap shown_if (unset s)))
          (faults_on-none Both U10 (λ s. shown_if (is_mixed (byte_reads D k places i s)))
          (λ s z. ap shown_if (unmixed s)))

      byte_there : has_values Both (byte_pair D Both same k places i) ≡ true
      byte_there =
          and_from (is_some (read D k (cells_of left) b (q + i) (Int U8)).value)
          (is_some (read D k (cells_of right) d (r + i) (Int U8)).value)
          (value_there D p ord (read D k (cells_of left) b (q + i) (Int U8)).value left_read.one)
          (value_there D p ord (read D k (cells_of right) d (r + i) (Int U8)).value right_read.one)

      byte_same : is_same D (byte_pair D Both same k places i) ≡ true
      byte_same =
          sames_are_known D law (byte_pair D Both same k places i) (Int U8) (int (pos v)) left_read.one right_read.one
          left_read.allowed right_read.allowed

    chosen : (t : Bool) (g : Stepped N) → t ≡ true → StepIsExact D p ord g m
        → StepIsExact D p ord (if t then g else stepped [] None) m
    chosen true g e h = h
    chosen false g e h = absurd (cc)

    bytes_exact : (n i h g : ℕ) (x y z w : State) → x.memory ≡ m.left → y.memory ≡ m.right → h ≡ q + i → g ≡ r + i
        → Puts b n h x z → Puts d n g y w → z.outputs ≡ w.outputs
        → StepIsExact D p ord (bytes_out D Both same k places i n) m
    bytes_exact zero i h g x y z w ex ey eh eg px py o = record { faults = refl; next = c }
    bytes_exact (suc n) i h g x y z w ex ey eh eg px py o =
        let x1 = put_number U8 (pos px.0) x in
        let y1 = put_number U8 (pos py.0) y in
        let all = puts_same b d n (h + 1) (g + 1) x1 y1 z w px.2 py.2 o in
        let one : px.0 ≡ py.0 = one_number px.0 py.0 (one_output U8 (pos px.0) (pos py.0)
        (last_is x.outputs y.outputs (record { t = U8; value = pos px.0 }) (record { t = U8; value = pos py.0 }) all).1)
        in
        let have : BothHave i px.0 = record {
          left_is = ap (m.left b) (sym eh) ∙ ap (λ (s : Memory). s b h) (sym ex) ∙ px.1;
          right_is = ap (m.right d) (sym eg) ∙ ap (λ (s : Memory). s d g) (sym ey) ∙ py.1 ∙ ap number (sym one);
        } in
        let pair = byte_pair D Both same k places i in
        let nh : h + 1 ≡ q + (i + 1) = omega (arith, eh) in
        let ng : g + 1 ≡ r + (i + 1) = omega (arith, eg) in
        let more = bytes_out D Both same k places (i + 1) n in
        after_exact D p ord (byte_faults D Both k places i)
        (if has_values Both pair then after_faults (differ_faults D (is_same D pair) pair) more else stepped [] None) m
        (no_byte_faults i px.0 have)
        (chosen (has_values Both pair) (after_faults (differ_faults D (is_same D pair) pair) more)
        (byte_there i px.0 have)
        (after_exact D p ord (differ_faults D (is_same D pair) pair) more m
        (ap (λ t. differ_faults D t pair) (byte_same i px.0 have))
        (bytes_exact n (i + 1) (h + 1) (g + 1) x1 y1 z w ex ey nh ng px.2 py.2 o)))

-- ---- the statement

both_places : (l r u v : List Spot) → l ≡ u → r ≡ v
    → ◌≡◌ {A = Places} (record { left = l; right = r }) (record { left = u; right = v })
both_places l r u v e f =
    ap (λ (s : List Spot). record { left = s; right = r }) e ∙ ap (λ (s : List Spot). record { left = u; right = s }) f

module _ {N : Type 0} (D : Ops N) (law : Lawful D) (keeps : KeepsSingles D) (p : Program) (ord : Side → Order)
    (fit : blocks_fit p.types p.blocks ≡ true) (exprs : ExpressionsHold D p ord) (values : ValuesAreOne D p ord)
    (e : Expr) (n : ℕ) where
  module _ (seen : List ℕ) (typed : (is_length n && is_address p.types p.blocks seen e) ≡ true) (k : Known N)
      (x y : State) (kept : IsKeptOne D p ord k (memories x.memory y.memory))
      (c : ConcretisesOne D p ord k x.memory y.memory) (at : Side → Spot)
      (a : value (ord left) p e x.memory ≡ has (pointer (at left).0 (at left).1))
      (b : value (ord right) p e y.memory ≡ has (pointer (at right).0 (at right).1))
      (inside : (s : Side) → (at s).1 + n ≤ size_at (ord s) p (at s).0) where
    abbrev m : Memories
    m = memories x.memory y.memory

    abbrev f : Side → Machine
    f s = value (ord s) p e

    abbrev to : Given N
    to = (expression D (sizes_of p.blocks) e).gives Both k

    parts : (is_length n ≡ true) × (is_address p.types p.blocks seen e ≡ true)
    parts = and_parts (is_length n) (is_address p.types p.blocks seen e) typed

    ty : (t : ℕ) × (has_sort p.types p.blocks seen e (pointer_to t) ≡ true)
    ty = pointer_where p.types p.blocks seen (has_sort p.types p.blocks seen e) parts.1

    one : IsOneGiven D Both to
    one = given_is D law keeps p ord fit exprs values seen e (pointer_to ty.0) ty.1 k m kept Both
        (find_both f m (pointer (at left).0 (at left).1) (pointer (at right).0 (at right).1) a b)

    holds : Holds D p ord Pointer (λ s. f s (memory_of s m)) k m Both to
    holds = (exprs fit seen e (pointer_to ty.0) ty.1).gives k m kept.kept Both

    runs_there : (s : Side) → IsRunAt D law p ord k m Both f to holds one n (some_length n parts.0) s (at s)
    runs_there left = record { address = a; inside = inside left }
    runs_there right = record { address = b; inside = inside right }

    written_exact : (r : Option (ℕ × Scalar)) (z w : State) → Puts (at left).0 n (at left).1 x z
        → Puts (at right).0 n (at right).1 y w → z.outputs ≡ w.outputs
        → StepIsExact D p ord (simple_step D p Both r (write_bytes e n) k) m
    written_exact r z w px py o =
        let zs = sizes_of p.blocks in
        let some = some_length n parts.0 in
        let pl = run_places D law p ord k m Both f to holds one n some in
        let q = quiet D law p ord k m Both f to holds one n some at (λ s z. runs_there s) in
        let h = there D law p ord k m Both f to holds one n some at (λ s z. runs_there s) in
        let is : pl ≡ record { left = at left ∷ []; right = at right ∷ [] }
        = both_places pl.left pl.right (at left ∷ []) (at right ∷ [])
        (place_is D law p ord k m Both f to holds one n some left (at left) refl (runs_there left))
        (place_is D law p ord k m Both f to holds one n some right (at right) refl (runs_there right)) in
        let same = is_same D to.pair in
        let bytes : StepIsExact D p ord (bytes_out D Both same k pl 0 n) m
        = subst (λ (pl : Places). StepIsExact D p ord (bytes_out D Both same k pl 0 n) m) (sym is)
        (bytes_exact D law p ord k m c same (at left).0 (at left).1 (at right).0 (at right).1 n 0 (at left).1
        (at right).1 x y z w refl refl (plus-zero (at left).1) (plus-zero (at right).1) px py o) in
        after_exact D p ord to.faults (written_out D zs Both n to.pair k) m one.quiet
        (after_exact D p ord (range_faults D zs Both n to.pair)
        (if has_places Both pl then bytes_out D Both same k pl 0 n else stepped [] None) m q
        (chosen D law p ord k m c same (at left).0 (at left).1 (at right).0 (at right).1 (has_places Both pl)
        (bytes_out D Both same k pl 0 n) h bytes))

  kept_memories : (g : Stepped N) (m n i j : Memory) → i ≡ m → j ≡ n → StepIsExact D p ord g (memories m n)
      → StepIsExact D p ord g (memories i j)
  kept_memories g m n i j e f h =
      subst (λ s. StepIsExact D p ord g (memories s j)) (sym e)
      (subst (λ s. StepIsExact D p ord g (memories m s)) (sym f) h)

  done : (seen : List ℕ) → (is_length n && is_address p.types p.blocks seen e) ≡ true → (r : Option (ℕ × Scalar))
      (s : Known N) (x y : State) → IsKeptOne D p ord s (memories x.memory y.memory)
      → ConcretisesOne D p ord s x.memory y.memory → (z w : State) (b q g t : ℕ)
      → value (ord left) p e x.memory ≡ has (pointer b q) → value (ord right) p e y.memory ≡ has (pointer g t)
      → q + n ≤ size_at (ord left) p b → t + n ≤ size_at (ord right) p g → Puts b n q x z → Puts g n t y w
      → z.outputs ≡ w.outputs
      → TransferIsExact (λ t. ConcretisesOne D p ord t z.memory w.memory)
      (told_of D (when_known (is_told_so D p ord s) (simple_step D p Both r (write_bytes e n) s)))
  done seen typed r s x y kept c z w b q g t ev eu il ir px py o =
      exact_both D p ord s (simple_step D p Both r (write_bytes e n) s) z.memory w.memory kept.kept.state
      (kept_memories (simple_step D p Both r (write_bytes e n) s) x.memory y.memory z.memory w.memory
      (puts_keep b n q x z px) (puts_keep g n t y w py)
      (written_exact seen typed s x y kept c (spot_on (b, q) (g, t)) ev eu (λ i. inside i) r z w px py o))
    where
      inside : (i : Side) → (spot_on (b, q) (g, t) i).1 + n ≤ size_at (ord i) p (spot_on (b, q) (g, t) i).0
      inside left = il
      inside right = ir

  -- what a machine does, once it is at its place
  abbrev run : Side → (l a : ℕ) → State → ℕ → ℕ → Outcome
  run i l a s b q =
      unless (range_fault (size_at (ord i) p b) q n) l s (bytewise_rest uncounted (out_of (ord i) p b l) n q a s)

  -- it is left with the bytes put out
  run_puts : (P : State → Type 0) (i : Side) (l a : ℕ) (s : State)
      → ((z : State) (b q : ℕ) → value (ord i) p e s.memory ≡ has (pointer b q) → q + n ≤ size_at (ord i) p b
      → Puts b n q s z → P z)
      → IfLeft on P (given (value (ord i) p e s.memory) l s (λ v. at_place v l s (run i l a s)))
  run_puts P i l a s more =
      if_given on P l s (value (ord i) p e s.memory) (λ v. at_place v l s (run i l a s))
      (λ v ev. if_place on P l s v (run i l a s)
      (λ b q eq. if_unless on P l s (range_fault (size_at (ord i) p b) q n)
      (bytewise_rest uncounted (out_of (ord i) p b l) n q a s)
      (λ inside. if_more on (Puts b n q s) P (bytewise_rest uncounted (out_of (ord i) p b l) n q a s)
      (λ z puts. more z b q (ev ∙ ap has eq) (in_range (size_at (ord i) p b) q n inside) puts)
      (puts_rest (ord i) p b l n q a s))))

  pub write_is : StatementIsExact D p ord (write_bytes e n)
  write_is = record {
    alone = λ i here f at seen h quiet l a s x y seen_from. absurd (let d : true ≡ false = quiet in cc);
    both = λ here f at seen h quiet l a d s x y c.
        (let k = kept_one D p ord s x y c in
        run_puts _ left l a x
        (λ z b q ev il px. run_puts _ right l d y
        (λ w g t eu ir py o. done seen h f.result s x y k c.memories z w b q g t ev eu il ir px py o)));
  }
