-- What is read fits, and holds.
use Rattle.std.proofs.Common.{◌≡◌, ℕ, zero, suc, ◌+◌, ◌^◌, ◌<◌, ◌≤◌, ℤ, pos, Bool, true, false, ◌&&◌, nat_eq, cond}
use Rattle.std.proofs.Common.{IfSome, List, ⊎_elim, Option, Some, None, refl, sym, ◌∙◌, ap, subst, arith}
use Rattle.std.specs.Option.{option_map}
use Rattle.std.specs.List.{list_any, list_all}
use Rattle.std.specs.Ordering.{int_eq}
use Rattle.std.proofs.lemmas.Int.{ints}
use Rattle.std.proofs.lemmas.Bool.{and_parts, eqb-true, cases_order}
use Rattle.std.proofs.lemmas.Bool.Decides.{Decides-int_eq}
use Rattle.std.proofs.Math.Nat.{mod-eq_of_lt}
use Rattle.ep_int.specs.declared.types.IntType.{IntType}
use Rattle.ep_int.specs.declared.types.Order.{Order}
use Rattle.ep_int.specs.declared.types.Model.{Model}
use Rattle.ep_int.specs.declared.types.Model.TheVariants.{Ilp32, Lp64}
use Rattle.ep_int.specs.declared.types.Scalar.{Scalar}
use Rattle.ep_int.specs.declared.types.Scalar.TheVariants.{Int, Pointer}
use Rattle.ep_int.specs.Types.{bytes_of, bits_of, size_of, pointer_bytes, represented}
use Rattle.ep_int.specs.Encoding.{is_width, place, sum_of_bytes, decoded}
use Rattle.ep_int.specs.Memory.{Byte, number, number_in, Value as Datum, int, null}
use Rattle.ep_int.proofs.Encodings.{encoded_decoded}
use Rattle.ep_int.proofs.Places.{width_of, place_below, place_back}
use Rattle.ep_int.proofs.Wrapping.{bytes_of_positive, represented_in_range, representation_represented}
use Rattle.ep_bitslice.specs.declared.cell.Side.{Side}
use Rattle.ep_bitslice.specs.declared.segment.Segment.{Segment}
use Rattle.ep_bitslice.specs.Bits.{Numbers}
use Rattle.ep_bitslice.specs.Segments.{number as form_number}
use Rattle.ep_range_laws.specs.Ranges.{LiesIn}
use Rattle.ep_domain.specs.Domain.{Ops, Holds, Lawful}
use Rattle.ep_cells.specs.declared.cell.Cell.{Cell}
use Rattle.ep_cells.specs.declared.cell.Value.TheVariants.{Num, Ptr}
use Rattle.ep_pointers.specs.Value.{null_alone}
use Rattle.ep_cells.specs.Cells.{IsIn}
use Rattle.ep_cells.specs.Look.{cell_at}
use Rattle.ep_cells.specs.Reshare.{is_single}
use Rattle.ep_cells.specs.States.{Known, IsOfSort, HasRisingBlocks, AreCells}
use Rattle.ep_cells.specs.Meaning.{Memories, Allows, Has, HasBytes, StandsAt, numbers_of, HasNumber, In}
use Rattle.ep_reads.specs.declared.read.ReadValue.{ReadValue}
use Rattle.ep_reads.specs.Bytes.{order_on, form_of_cell}
use Rattle.ep_reads.specs.Read.{is_same_sort, is_exact, whole_read, byte_there, bytes_from, bytes_there}
use Rattle.ep_reads.specs.Read.{may_be_undefined, may_be_mixed, unsigned_of, sum_of, bits_of_all, is_zero_value}
use Rattle.ep_reads.specs.Read.{is_undefined_byte, read_in_parts, read_with}
use Rattle.ep_reads.specs.Laws.{memory_on, IsNumberOf, FindsValue, FitsRead, ReadLaws}
use Rattle.ep_reads.proofs.Numbers.{is_unsigned, bytes_of_unsigned}
use Rattle.ep_reads.proofs.Bytes.{cell_form_fits, cell_form_says, IsByte, cell_of}
use Rattle.ep_reads.proofs.Wholes.{found_of, whole_holds, whole_sort, whole_rising, whole_form}
use Rattle.ep_reads.proofs.Sums.{IsByteOf, byte_of_number, none_of, sum_below, all_held, form_fits, form_says}
use Rattle.ep_reads.proofs.Found.{covering, stands_there, there_fits, there_holds, there_unmixed}

-- the bytes of a place, the lowest first
abbrev byte_in : {N : Type 0} → Ops N → Known N → Side → (b q n : ℕ) → ℕ → ReadValue N
byte_in D k s b q n i = byte_there D k s b (q + place (order_on s k.orders) n i)

-- ---- that it fits

integer_sort : {N : Type 0} (D : Ops N) (t : IntType) (o : Option N)
    → IsOfSort (Int t) (option_map (λ n. Num (D.convert n t)) o)
integer_sort D t None = tt
integer_sort D t (Some n) = tt

integer_rising : {N : Type 0} (D : Ops N) (t : IntType) (o : Option N)
    → HasRisingBlocks (option_map (λ n. Num (D.convert n t)) o)
integer_rising D t None = tt
integer_rising D t (Some n) = tt

integer_fits : {N : Type 0} (D : Ops N) (k : Known N) (s : Side) (b q : ℕ) (t : IntType) → AreCells k.model k.cells
    → FitsRead k.cells (Int t) (read_in_parts D k s b q (Int t))
integer_fits D k s b q t a =
    let rs = bytes_there D k s b q (bytes_of t) in
    record {
      sort = integer_sort D t (sum_of D (unsigned_of t) rs);
      rising = integer_rising D t (sum_of D (unsigned_of t) rs);
      form = form_fits k.cells (byte_in D k s b q (bytes_of t)) t (bits_of_all rs) (λ j. there_fits D k s b (q + place
          (order_on s k.orders) (bytes_of t) j) a) refl;
    }

abbrev null_value : {N : Type 0} → Bool → ReadValue N
null_value maybe = record { value = Some (Ptr null_alone); maybe = maybe; mixed = false; form = None }

abbrev no_value : {N : Type 0} → (maybe mixed : Bool) → ReadValue N
no_value maybe mixed = record { value = None; maybe = maybe; mixed = mixed; form = None }

pointer_fits_by : {N : Type 0} (cs : List (Cell N)) (maybe t u : Bool)
    → FitsRead cs Pointer (cond t (null_value maybe) (cond u (no_value true false) (no_value maybe true)))
pointer_fits_by cs maybe true u = record { sort = tt; rising = tt; form = tt }
pointer_fits_by cs maybe false true = record { sort = tt; rising = tt; form = tt }
pointer_fits_by cs maybe false false = record { sort = tt; rising = tt; form = tt }

parts_fit : {N : Type 0} (D : Ops N) (k : Known N) (s : Side) (b q : ℕ) (w : Scalar) → AreCells k.model k.cells
    → FitsRead k.cells w (read_in_parts D k s b q w)
parts_fit D k s b q (Int t) a = integer_fits D k s b q t a
parts_fit {N = N} D k s b q Pointer a =
    let rs = bytes_there D k s b q (pointer_bytes k.model) in
    pointer_fits_by k.cells (may_be_undefined rs) (list_all (λ (r : ReadValue N). is_zero_value D r.value) rs)
    (list_any is_undefined_byte rs)

-- ---- a whole cell

-- a cell that begins at the offset, and has the size and sort of the scalar
record IsExact {N : Type 0} (d : Model) (w : Scalar) (q : ℕ) (x : Cell N) : Type 0 where
  begins : x.offset ≡ q
  size : size_of d x.what ≡ size_of d w
  sort : is_same_sort x.what w ≡ true

exact_is : {N : Type 0} (d : Model) (w : Scalar) (q : ℕ) (x : Cell N) → is_exact d w q x ≡ true → IsExact d w q x
exact_is d w q x h =
    let e = and_parts (nat_eq x.offset q) (nat_eq (size_of d x.what) (size_of d w) && is_same_sort x.what w) h in
    let f = and_parts (nat_eq (size_of d x.what) (size_of d w)) (is_same_sort x.what w) e.1 in
    record {
      begins = eqb-true x.offset q e.0;
      size = eqb-true (size_of d x.what) (size_of d w) f.0;
      sort = f.1;
    }

whole_fits : {N : Type 0} (D : Ops N) (d : Model) (cs : List (Cell N)) (w : Scalar) (q : ℕ) (x : Cell N)
    → AreCells d cs → IsIn x cs → IsExact d w q x → FitsRead cs w (whole_read D w x)
whole_fits D d cs w q x a i e = record {
  sort = whole_sort D x.what w x.value (a.each x i).fits.sort e.sort;
  rising = whole_rising D w x.value (a.each x i).rising;
  form = whole_form d cs x w (form_of_cell x) e.size e.sort (cell_form_fits d cs x a i);
}

exact_fits : {N : Type 0} (D : Ops N) (k : Known N) (s : Side) (b q : ℕ) (w : Scalar) (x : Cell N) (t : Bool)
    → AreCells k.model k.cells → IsIn x k.cells → is_exact k.model w q x ≡ t
    → FitsRead k.cells w (cond t (whole_read D w x) (read_in_parts D k s b q w))
exact_fits D k s b q w x true a i e = whole_fits D k.model k.cells w q x a i (exact_is k.model w q x e)
exact_fits D k s b q w x false a i e = parts_fit D k s b q w a

read_fits_by : {N : Type 0} (D : Ops N) (k : Known N) (s : Side) (b q : ℕ) (w : Scalar) (o : Option (Cell N))
    → AreCells k.model k.cells → cell_at k.model s b q k.cells ≡ o → FitsRead k.cells w (read_with D k s b q w o)
read_fits_by D k s b q w None a e = parts_fit D k s b q w a
read_fits_by D k s b q w (Some x) a e =
    let c = covering k.model s b q k.cells x e in
    exact_fits D k s b q w x (is_exact k.model w q x) a c.is_in refl

-- ---- that it holds

-- what stands is found
finds : {N : Type 0} (D : Ops N) (k : Known N) (s : Side) (b q : ℕ) (w : Scalar) (r : ReadValue N) (m : Memories) (u :
    Datum) → Has (order_on s k.orders) (memory_on s m) w b q (size_of k.model w) u → Allows D w r.value false (Some u)
    → IfSome r.form (λ ss. IsNumberOf w u (form_number (numbers_of k.orders m) ss)) → FindsValue D k s b q w r m
finds D k s b q w r m u h a g =
    let f = found_of D k.model (order_on s k.orders) (memory_on s m) w b q r.value u a h in
    record { datum = u; defined = f.defined; found = f.found; allowed = a; form = g }

pub if_some : (o : Option (List Segment)) (P Q : List Segment → Type 0) → ((ss : List Segment) → P ss → Q ss) → IfSome o P
    → IfSome o Q
if_some None P Q f h = tt
if_some (Some ss) P Q f h = f ss h

whole_found : {N : Type 0} (D : Ops N) → Lawful D → (k : Known N) (s : Side) (b q : ℕ) (w : Scalar) (x : Cell N) (m :
    Memories) → AreCells k.model k.cells → In D k m → cell_at k.model s b q k.cells ≡ Some x → IsExact k.model w q x
    → x.maybe ≡ false → FindsValue D k s b q w (whole_read D w x) m
whole_found D law k s b q w x m a h at e sure =
    let os = k.orders in
    let d = k.model in
    let o = order_on s k.orders in
    let here = memory_on s m in
    let c = covering k.model s b q k.cells x at in
    let says = h.cells x c.is_in in
    let fits = (a.each x c.is_in).fits in
    let bytes = stands_there D k m s x c.sides says in
    let r = whole_holds D law os d m o here w x.side x.block x.offset x.what x.value x.form says.datum fits.sort
    (λ n. sym sure ∙ fits.undefined n) e.size e.sort
    (subst (λ z. Allows D x.what x.value z says.datum) sure says.allowed)
    (subst (λ z. StandsAt os d m (cell_of x.side x.block x.offset x.what x.value z x.form) says.datum) sure says.stands)
    (subst (λ z. HasBytes o here (size_of d x.what) x.what z x.block x.offset says.datum) sure bytes) in
    let stands = subst (λ i. Has o here w i q (size_of d w) r.datum) c.in_block
    (subst (λ i. Has o here w x.block i (size_of d w) r.datum) e.begins r.stands) in
    let form = subst (λ z. IfSome (form_of_cell x) (λ ss. HasNumber os m (cell_of x.side x.block x.offset x.what x.value
    z x.form) x.what (form_number (numbers_of os m) ss))) sure (cell_form_says D k m x h c.is_in) in
    finds D k s b q w (whole_read D w x) m r.datum stands r.allowed
    (if_some (form_of_cell x) (λ ss. HasNumber os m (cell_of x.side x.block x.offset x.what x.value false x.form) x.what
    (form_number (numbers_of os m) ss)) (λ ss. IsNumberOf w r.datum (form_number (numbers_of os m) ss))
    (λ ss i. r.numbers (form_number (numbers_of os m) ss) i) form)

-- ---- bytes

byte_sure : {N : Type 0} (D : Ops N) → Lawful D → (k : Known N) (s : Side) (b q n j : ℕ) (m : Memories)
    → AreCells k.model k.cells → In D k m → may_be_undefined (bytes_there D k s b q n) ≡ false
    → may_be_mixed (bytes_there D k s b q n) ≡ false → j < n
    → IsByte D (numbers_of k.orders m) (byte_in D k s b q n j) (memory_on s m b (q + place (order_on s k.orders) n j))
byte_sure {N = N} D law k s b q n j m a h x y l =
    let above : j < 0 + n = omega arith in
    there_holds D law k m s b (q + place (order_on s k.orders) n j) a h
    (none_of (λ (r : ReadValue N). r.maybe) (byte_in D k s b q n) 0 n j x (omega arith) above)
    (none_of (λ (r : ReadValue N). r.mixed) (byte_in D k s b q n) 0 n j y (omega arith) above)

-- a byte of the place is a number
record IsNumeral (y : Byte) : Type 0 where
  is : y ≡ number (number_in y)
  below : number_in y < 256

numeral : (y : Byte) (v : ℕ) → y ≡ number v → v < 256 → IsNumeral y
numeral y v e h =
    let i : number_in y ≡ v = ap number_in e in
    record { is = e ∙ ap number (sym i); below = subst (λ z. z < 256) (sym i) h }

all_numerals : {N : Type 0} (D : Ops N) (n : Numbers) (o : Order) (here : ℕ → Byte) (k : ℕ) (f : ℕ → ReadValue N)
    → is_width k ≡ true → ((j : ℕ) → j < k → IsByte D n (f j) (here (place o k j))) → (p : ℕ) → p < k
    → IsNumeral (here p)
all_numerals D n o here k f w h p l =
    let i = h (place o k p) (place_below o k p w l) in
    let r = numeral (here (place o k (place o k p))) i.value i.is i.below in
    subst (λ x. IsNumeral (here x)) (place_back o k p w l) r

integer_found : {N : Type 0} (D : Ops N) → Lawful D → (k : Known N) (s : Side) (b q : ℕ) (t : IntType) (m : Memories)
    → AreCells k.model k.cells → In D k m → may_be_undefined (bytes_there D k s b q (bytes_of t)) ≡ false
    → may_be_mixed (bytes_there D k s b q (bytes_of t)) ≡ false
    → FindsValue D k s b q (Int t) (read_in_parts D k s b q (Int t)) m
integer_found D law k s b q t m a h x y =
    let o = order_on s k.orders in
    let here = memory_on s m in
    let n = bytes_of t in
    let ns = numbers_of k.orders m in
    let f = byte_in D k s b q (bytes_of t) in
    let v : ℕ → ℕ = λ j. number_in (memory_on s m b (q + place (order_on s k.orders) (bytes_of t) j)) in
    let z = decoded (order_on s k.orders) t (λ p. number_in (memory_on s m b (q + p))) in
    let sure : (j : ℕ) → j < bytes_of t → IsByte D (numbers_of k.orders m) (byte_in D k s b q (bytes_of t) j)
    (memory_on s
    m b (q + place (order_on s k.orders) (bytes_of t) j)) = λ j l. byte_sure D law k s b q (bytes_of t) j m a h x y l in
    let known : (j : ℕ) → j < bytes_of t → IsByteOf D (numbers_of k.orders m) (byte_in D k s b q (bytes_of t) j) (v j) =
    λ j l. byte_of_number D (numbers_of k.orders m) (byte_in D k s b q (bytes_of
    t) j) (memory_on s m b (q + place (order_on s k.orders) (bytes_of t) j)) (sure j l) in
    let numerals = all_numerals D ns o (λ p. memory_on s m b (q + p)) n f (width_of t) sure in
    let below : sum_of_bytes v (bytes_of t) < 2 ^ bits_of t = sum_below v n n (λ j l. (known j l).below) (omega arith)
    in
    let types = bytes_of_unsigned t in
    let g = all_held D law ns (unsigned_of t) f v n (bytes_of_positive t) (is_unsigned t)
    (λ j l. known j (subst (λ i. j < i) types l)) (omega (arith, types)) in
    let held : Holds D (D.convert g.one t) (represented t (sum_of_bytes v (bytes_of t))) =
    subst (λ i. Holds D (D.convert g.one t) (represented t i)) (mod-eq_of_lt below)
    (law.convert_holds g.one t (pos (sum_of_bytes v n)) g.holds) in
    finds D k s b q (Int t) (read_in_parts D k s b q (Int t)) m (int z)
    (λ p l. (numerals p l).is ∙ ap number (sym (encoded_decoded o t (λ p. number_in (memory_on s m b (q + p))) p (λ i j.
    (numerals i j).below) l)))
    (subst (λ i. Allows D (Int t) (option_map (λ c. Num (D.convert c t)) i) false (Some (int z))) (sym g.is)
    (represented_in_range t (sum_of_bytes v n) below, held))
    (form_says k.cells ns f v t z (bits_of_all (bytes_there D k s b q (bytes_of t)))
    (λ j. there_fits D k s b (q + place (order_on s k.orders) (bytes_of t) j) a) (λ j l. (known j l).form) refl
    (representation_represented t (sum_of_bytes v n) below) below)

-- ---- pointers

all_of : {N : Type 0} (test : ReadValue N → Bool) (f : ℕ → ReadValue N) (i n j : ℕ)
    → list_all test (bytes_from f i n) ≡ true → i ≤ j → j < i + n → test (f j) ≡ true
all_of test f i zero j h l u = absurd (omega arith)
all_of test f i (suc n) j h l u =
    let p = and_parts (test (f i)) (list_all test (bytes_from f (i + 1) n)) h in
    ⊎_elim
    (λ same. subst (λ k. test (f k) ≡ true) same p.0)
    (λ o. ⊎_elim (λ later. all_of test f (i + 1) n j p.1 (omega arith) (omega arith)) (λ e. absurd (omega arith)) o)
    (cases_order i j)

zero_alone : (r : ℤ × ℤ) (v : ℕ) → r.0 ≡ r.1 → r.0 ≡ pos 0 → LiesIn r (pos v) → v ≡ 0
zero_alone r v e f h = omega (arith, ints, e, f, h.low, h.high)

zero_is : {N : Type 0} (D : Ops N) → Lawful D → (c : N) (v : ℕ) → Holds D c (pos v)
    → (is_single (D.range c) && int_eq (D.range c).0 (pos 0)) ≡ true → v ≡ 0
zero_is D law c v h e =
    let p = and_parts (is_single (D.range c)) (int_eq (D.range c).0 (pos 0)) e in
    zero_alone (D.range c) v ((Decides-int_eq (D.range c).0 (D.range c).1).0 p.0)
    ((Decides-int_eq (D.range c).0 (pos 0)).0 p.1) (law.range_encloses c (pos v) h)

zero_byte : {N : Type 0} (D : Ops N) → Lawful D → (n : Numbers) (r : ReadValue N) (y : Byte) → IsByte D n r y
    → is_zero_value D r.value ≡ true → y ≡ number 0
zero_byte D law n r y h e =
    h.is ∙ ap number (zero_is D law h.one h.value h.holds (subst (λ o. is_zero_value D o ≡ true) h.reads e))

pointer_width : (d : Model) → is_width (pointer_bytes d) ≡ true
pointer_width Ilp32 = refl
pointer_width Lp64 = refl

pointer_found_by : {N : Type 0} (D : Ops N) (k : Known N) (s : Side) (b q : ℕ) (m : Memories) (maybe t u : Bool)
    → (t ≡ true → Has (order_on s k.orders) (memory_on s m) Pointer b q (pointer_bytes k.model) null)
    → (cond t (null_value {N = N} maybe) (cond u (no_value true false) (no_value maybe true))).maybe ≡ false
    → (cond t (null_value {N = N} maybe) (cond u (no_value true false) (no_value maybe true))).mixed ≡ false
    → FindsValue D k s b q Pointer (cond t (null_value maybe) (cond u (no_value true false) (no_value maybe true))) m
pointer_found_by D k s b q m maybe true u h x y = finds D k s b q Pointer (null_value maybe) m null (h refl) refl tt
pointer_found_by D k s b q m maybe false true h x y = absurd (let c : true ≡ false = x in cc)
pointer_found_by D k s b q m maybe false false h x y = absurd (let c : true ≡ false = y in cc)

nulls_found : {N : Type 0} (D : Ops N) → Lawful D → (k : Known N) (s : Side) (b q : ℕ) (m : Memories)
    → AreCells k.model k.cells → In D k m → may_be_undefined (bytes_there D k s b q (pointer_bytes k.model)) ≡ false
    → list_all (λ (r : ReadValue N). is_zero_value D r.value) (bytes_there D k s b q (pointer_bytes k.model)) ≡ true
    → (p : ℕ) → p < pointer_bytes k.model → memory_on s m b (q + p) ≡ number 0
nulls_found {N = N} D law k s b q m a h x z p l =
    let n = pointer_bytes k.model in
    let o = order_on s k.orders in
    let j = place (order_on s k.orders) (pointer_bytes k.model) p in
    let i : j < pointer_bytes k.model = place_below o n p (pointer_width k.model) l in
    let above : j < 0 + pointer_bytes k.model = omega (arith, i) in
    let f = byte_in D k s b q n in
    let sure = none_of (λ (r : ReadValue N). r.maybe) f 0 n j x (omega arith) above in
    let zero = all_of (λ (r : ReadValue N). is_zero_value D r.value) f 0 n j z (omega arith) above in
    let byte = there_holds D law k m s b (q + place o n j) a h sure (there_unmixed D k s b (q + place o n j) sure zero)
    in
    subst (λ i. memory_on s m b (q + i) ≡ number 0) (place_back o n p (pointer_width k.model) l)
    (zero_byte D law (numbers_of k.orders m) (f j) (memory_on s m b (q + place o n j)) byte zero)

-- where null may be read, no byte is undefined
sure_null : (N : Type 0) (maybe t u : Bool) → t ≡ true
    → (let r : ReadValue N = cond t (null_value maybe) (cond u (no_value true false) (no_value maybe true)) in r).maybe
    ≡ false → maybe ≡ false
sure_null N maybe true u e h = h
sure_null N maybe false u e h = absurd (let c : false ≡ true = e in cc)

pointer_found : {N : Type 0} (D : Ops N) → Lawful D → (k : Known N) (s : Side) (b q : ℕ) (m : Memories)
    → AreCells k.model k.cells → In D k m → (read_in_parts D k s b q Pointer).maybe ≡ false
    → (read_in_parts D k s b q Pointer).mixed ≡ false
    → FindsValue D k s b q Pointer (read_in_parts D k s b q Pointer) m
pointer_found {N = N} D law k s b q m a h x y =
    let rs = bytes_there D k s b q (pointer_bytes k.model) in
    let t = list_all (λ (r : ReadValue N). is_zero_value D r.value) rs in
    let u = list_any is_undefined_byte rs in
    pointer_found_by D k s b q m (may_be_undefined rs) t u
    (λ e. nulls_found D law k s b q m a h (sure_null N (may_be_undefined rs) t u e x) e) x y

-- ---- all reads

parts_found : {N : Type 0} (D : Ops N) → Lawful D → (k : Known N) (s : Side) (b q : ℕ) (w : Scalar) (m : Memories)
    → AreCells k.model k.cells → In D k m → (read_in_parts D k s b q w).maybe ≡ false
    → (read_in_parts D k s b q w).mixed ≡ false → FindsValue D k s b q w (read_in_parts D k s b q w) m
parts_found D law k s b q (Int t) m a h x y = integer_found D law k s b q t m a h x y
parts_found D law k s b q Pointer m a h x y = pointer_found D law k s b q m a h x y

exact_found : {N : Type 0} (D : Ops N) → Lawful D → (k : Known N) (s : Side) (b q : ℕ) (w : Scalar) (c : Cell N) (t :
    Bool) (m : Memories) → AreCells k.model k.cells → In D k m → cell_at k.model s b q k.cells ≡ Some c
    → is_exact k.model w q c ≡ t → (cond t (whole_read D w c) (read_in_parts D k s b q w)).maybe ≡ false
    → (cond t (whole_read D w c) (read_in_parts D k s b q w)).mixed ≡ false
    → FindsValue D k s b q w (cond t (whole_read D w c) (read_in_parts D k s b q w)) m
exact_found D law k s b q w c true m a h at e x y =
    whole_found D law k s b q w c m a h at (exact_is k.model w q c e) x
exact_found D law k s b q w c false m a h at e x y = parts_found D law k s b q w m a h x y

found_with : {N : Type 0} (D : Ops N) → Lawful D → (k : Known N) (s : Side) (b q : ℕ) (w : Scalar) (o : Option (Cell
    N)) (m : Memories) → AreCells k.model k.cells → In D k m → cell_at k.model s b q k.cells ≡ o
    → (read_with D k s b q w o).maybe ≡ false → (read_with D k s b q w o).mixed ≡ false
    → FindsValue D k s b q w (read_with D k s b q w o) m
found_with D law k s b q w None m a h e x y = parts_found D law k s b q w m a h x y
found_with D law k s b q w (Some c) m a h e x y =
    exact_found D law k s b q w c (is_exact k.model w q c) m a h e refl x y

pub of_reads : {N : Type 0} (D : Ops N) → Lawful D → ReadLaws D
of_reads D law = record {
  fits = λ k s b q w a. read_fits_by D k s b q w (cell_at k.model s b q k.cells) a refl;
  holds = λ k s b q w a m h x y. found_with D law k s b q w (cell_at k.model s b q k.cells) m a h refl x y;
}
