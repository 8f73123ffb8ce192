-- What a machine finds is read as one value, from a whole cell or from bytes.
use Rattle.std.proofs.Common.{◌≡◌, ◌⊎◌, inl, inr, ℕ, zero, suc, ◌+◌, ◌-◌, ◌<◌, ◌≤◌, ℤ, pos, Bool, true, false, ◌&&◌}
use Rattle.std.proofs.Common.{nat_eq, cond, List, ◌∷◌, Option, Some, None, refl, sym, ◌∙◌, ap, subst, arith}
use Rattle.std.specs.Option.{option_map}
use Rattle.std.specs.List.{list_any, list_all}
use Rattle.std.specs.Ordering.{int_eq}
use Rattle.std.proofs.lemmas.Bool.{and_parts, and_from, or_parts, or_from, eqb-true}
use Rattle.ep_int.specs.declared.types.IntType.{IntType}
use Rattle.ep_int.specs.declared.types.Model.{Model}
use Rattle.ep_int.specs.declared.types.Model.TheVariants.{Ilp32, Lp64}
use Rattle.ep_int.specs.declared.types.Scalar.{Scalar}
use Rattle.ep_int.specs.declared.types.Scalar.TheVariants.{Int, Pointer}
use Rattle.ep_int.specs.Types.{bytes_of, size_of, pointer_bytes, wrapped}
use Rattle.ep_int.specs.Encoding.{is_width, place, sum_of_bytes}
use Rattle.ep_int.specs.Memory.{Byte, undefined, number, fragment, number_in, Memory, Value as Datum, int, null}
use Rattle.ep_int.specs.Memory.{pointer, Found, has, faults, pointer_part, is_undefined, is_number, is_zero}
use Rattle.ep_int.specs.Memory.{are_parts, pointer_in, number_of, value_of_bytes}
use Rattle.ep_int.specs.Memory as memory
use Rattle.ep_int.proofs.Places.{width_of, place_below}
use Rattle.ep_int.proofs.Wrapping.{bytes_of_positive}
use Rattle.ep_bitslice.specs.declared.cell.Side.{Side}
use Rattle.ep_bitslice.specs.declared.cell.Side.TheVariants.{Left, Right, Shared}
use Rattle.ep_domain.specs.Domain.{Ops, IsSingle, Lawful}
use Rattle.ep_pointers.specs.Value.{null_alone, only_null}
use Rattle.ep_cells.specs.declared.cell.Cell.{Cell}
use Rattle.ep_cells.specs.declared.cell.Value.{Value}
use Rattle.ep_cells.specs.declared.cell.Value.TheVariants.{Num, Ptr}
use Rattle.ep_cells.specs.Look.{cell_at}
use Rattle.ep_cells.specs.Reshare.{is_single}
use Rattle.ep_cells.specs.States.{Known}
use Rattle.ep_cells.specs.Meaning.{Memories, Allows, Says, numbers_of}
use Rattle.ep_reads.specs.declared.read.ReadValue.{ReadValue}
use Rattle.ep_reads.specs.Bytes.{order_on}
use Rattle.ep_reads.specs.Read.{is_exact, is_same_sort, converted, whole_read, byte_there, bytes_from, bytes_there}
use Rattle.ep_reads.specs.Read.{may_be_undefined, unsigned_of, is_zero_value, is_undefined_byte, read_in_parts}
use Rattle.ep_reads.specs.Read.{read_with, read}
use Rattle.ep_reads.specs.Laws.{memory_on}
use Rattle.ep_reads.proofs.Numbers.{is_unsigned, bytes_of_unsigned}
use Rattle.ep_reads.proofs.Sums.{byte_of_number}
use Rattle.ep_reads.proofs.Found.{covering, stands_there, there_holds}
use Rattle.ep_reads.proofs.Gathered.{of_reads}
use Rattle.ep_singles.specs.Cells.{IsOneValue, one_number, one_pointer, IsOneCell, no_value, one_value}
use Rattle.ep_singles.specs.Cells.{IsEmptyOutside, IsOne}
use Rattle.ep_singles.specs.Laws.{IsMachine, Finds, IsReadAs}
use Rattle.ep_singles.proofs.Sums.{IsSingleByte, all_single}
use Rattle.ep_singles.proofs.Bytes.{held_single, IsReadThere, there_number, there_part, read_there, none_there}

-- ---- lists of bytes

-- what none of the bytes of a place is, and what each is
none_at : (test : Byte → Bool) (m : Memory) (b q n j : ℕ) → list_any test (memory.bytes_from m b q n) ≡ false → j < n
    → test (m b (q + j)) ≡ false
none_at test m b q zero j h l = absurd (omega (arith, l))
none_at test m b q (suc n) zero h l =
    subst (λ i. test (m b i) ≡ false) (same q) (or_parts (test (m b q)) (list_any test (memory.bytes_from m b
    (q + 1) n)) h).0
  where
    same : (q : ℕ) → q ≡ q + 0
    same q = omega arith
none_at test m b q (suc n) (suc j) h l =
    subst (λ i. test (m b i) ≡ false) (same q j)
    (none_at test m b (q + 1) n j (or_parts (test (m b q)) (list_any test (memory.bytes_from m b (q + 1) n)) h).1
    (omega (arith, l)))
  where
    same : (q j : ℕ) → q + 1 + j ≡ q + suc j
    same q j = omega arith

each_at : (test : Byte → Bool) (m : Memory) (b q n j : ℕ) → list_all test (memory.bytes_from m b q n) ≡ true → j < n
    → test (m b (q + j)) ≡ true
each_at test m b q zero j h l = absurd (omega (arith, l))
each_at test m b q (suc n) zero h l =
    subst (λ i. test (m b i) ≡ true) (same q) (and_parts (test (m b q)) (list_all test (memory.bytes_from m b
    (q + 1) n)) h).0
  where
    same : (q : ℕ) → q ≡ q + 0
    same q = omega arith
each_at test m b q (suc n) (suc j) h l =
    subst (λ i. test (m b i) ≡ true) (same q j)
    (each_at test m b (q + 1) n j (and_parts (test (m b q)) (list_all test (memory.bytes_from m b (q + 1) n)) h).1
    (omega (arith, l)))
  where
    same : (q j : ℕ) → q + 1 + j ≡ q + suc j
    same q j = omega arith

-- tests of what is read of each byte
none_read : {N : Type 0} (test : ReadValue N → Bool) (f : ℕ → ReadValue N) (i n : ℕ)
    → ((j : ℕ) → i ≤ j → j < i + n → test (f j) ≡ false) → list_any test (bytes_from f i n) ≡ false
none_read test f i zero h = refl
none_read test f i (suc n) h =
    or_from (test (f i)) (list_any test (bytes_from f (i + 1) n)) (h i (omega arith) (omega arith))
    (none_read test f (i + 1) n (λ j l u. h j (omega (arith, l)) (omega (arith, u))))

each_read : {N : Type 0} (test : ReadValue N → Bool) (f : ℕ → ReadValue N) (i n : ℕ)
    → ((j : ℕ) → i ≤ j → j < i + n → test (f j) ≡ true) → list_all test (bytes_from f i n) ≡ true
each_read test f i zero h = refl
each_read test f i (suc n) h =
    and_from (test (f i)) (list_all test (bytes_from f (i + 1) n)) (h i (omega arith) (omega arith))
    (each_read test f (i + 1) n (λ j l u. h j (omega (arith, l)) (omega (arith, u))))

-- ---- values of bytes

int_found : (t : Bool) (z : ℤ) (v : Datum) → cond t (has (int z)) (faults pointer_part) ≡ has v → t ≡ true
int_found true z v e = refl
int_found false z v e = absurd (let d : faults pointer_part ≡ has v = e in cc)

-- either all are zeros, or they begin with the first part of a pointer
first_part : (y : Byte) (more : List Byte) (v : Datum) → pointer_in (y ∷ more) ≡ has v
    → (c : ℕ) × (q : ℕ) × (y ≡ fragment c q 0)
first_part undefined more v e = absurd (let d : faults pointer_part ≡ has v = e in cc)
first_part (number n) more v e = absurd (let d : faults pointer_part ≡ has v = e in cc)
first_part (fragment c q i) more v e =
    by_parts (are_parts c q 0 (fragment c q i ∷ more)) refl e
  where
    by_parts : (t : Bool) → are_parts c q 0 (fragment c q i ∷ more) ≡ t
        → cond t (has (pointer c q)) (faults pointer_part) ≡ has v
        → (d : ℕ) × (r : ℕ) × (fragment c q i ≡ fragment d r 0)
    by_parts false h g = absurd (let d : faults pointer_part ≡ has v = g in cc)
    by_parts true h g =
        let a = and_parts ((nat_eq c c && nat_eq q q) && nat_eq 0 i) (are_parts c q 1 more) h in
        let b = and_parts (nat_eq c c && nat_eq q q) (nat_eq 0 i) a.0 in
        (c, q, ap (fragment c q) (sym (eqb-true 0 i b.1)))

pointer_found : (t : Bool) (x : Found) (v : Datum) → cond t (has null) x ≡ has v → (t ≡ true) ⊎ (x ≡ has v)
pointer_found true x v e = inl refl
pointer_found false x v e = inr e

module _ {N : Type 0} (D : Ops N) (law : Lawful D) (k : Known N) (m : Memories) (one : IsOne D k m) (s : Side)
    (outside : IsEmptyOutside D s k (memory_on s m)) (b q : ℕ) where
  abbrev here : Memory
  here = memory_on s m

  -- byte j of a place of n, the lowest first
  abbrev byte_in : (n : ℕ) → ℕ → ReadValue N
  byte_in n j = byte_there D k s b (q + place (order_on s k.orders) n j)

  -- without a doubt, of one value
  record IsSettled (r : ReadValue N) : Type 0 where
    sure : r.maybe ≡ false
    unmixed : r.mixed ≡ false
    its : IsOneValue D r.value

  -- a byte that is a number is read as this single number
  record IsNumberRead (r : ReadValue N) (y : Byte) : Type 0 where
    sure : r.maybe ≡ false
    unmixed : r.mixed ≡ false
    byte : IsSingleByte D r (number_in y)

  number_read : (p : ℕ) → is_undefined (memory_on s m b p) ≡ false → is_number (memory_on s m b p) ≡ true
      → IsNumberRead (byte_there D k s b p) (memory_on s m b p)
  number_read p u h = by_there (read_there D law k m one s outside b p u)
    where
      by_there : IsReadThere D law (byte_there D k s b p) (memory_on s m b p) p (cell_at k.model s b p k.cells)
          → IsNumberRead (byte_there D k s b p) (memory_on s m b p)
      by_there (there_part x e w l c o i) = absurd (let d : false ≡ true = sym (ap is_number i) ∙ h in cc)
      by_there (there_number z) =
          let r = byte_of_number D (numbers_of k.orders m) (byte_there D k s b p) (memory_on s m b p)
          (there_holds D law k m s b p one.cells one.holds z.sure z.unmixed) in
          let e : r.one ≡ z.one = same r.one z.one (sym r.reads ∙ z.reads) in
          let v = held_single D law z.one z.at (pos (number_in (memory_on s m b p))) z.single
          (subst (λ n. Rattle.ep_domain.specs.Domain.Holds D n (pos (number_in (memory_on s m b p)))) e r.holds) in
          record {
            sure = z.sure;
            unmixed = z.unmixed;
            byte = record {
              below = r.below;
              one = z.one;
              reads = z.reads;
              single = subst (IsSingle D z.one) (sym v) z.single;
            };
          }
        where
          same : (a c : N) → ◌≡◌ {A = Option (Value N)} (Some (Num a)) (Some (Num c)) → a ≡ c
          same a c i = cc

  -- ---- integers from bytes

  ints_settled : (t : IntType) → list_any is_undefined (memory.bytes_from here b q (bytes_of t)) ≡ false
      → list_all is_number (memory.bytes_from here b q (bytes_of t)) ≡ true
      → IsSettled (read_in_parts D k s b q (Int t))
  ints_settled t u h =
      let n = bytes_of t in
      let each : (j : ℕ) → j < bytes_of t → IsNumberRead (byte_in (bytes_of t) j) (here b (q + place
      (order_on s k.orders) (bytes_of t) j)) =
      λ j l. number_read (q + place (order_on s k.orders) (bytes_of t) j)
      (none_at is_undefined here b q (bytes_of t) (place (order_on s k.orders) (bytes_of t) j) u
      (place_below (order_on s k.orders) (bytes_of t) j (width_of t) l))
      (each_at is_number here b q (bytes_of t) (place (order_on s k.orders) (bytes_of t) j) h
      (place_below (order_on s k.orders) (bytes_of t) j (width_of t) l)) in
      let v : ℕ → ℕ = λ j. number_in (memory_on s m b (q + place (order_on s k.orders) (bytes_of t) j)) in
      let types = bytes_of_unsigned t in
      let g = all_single D law (unsigned_of t) (byte_in n) v n (bytes_of_positive t) (is_unsigned t)
      (λ j l. (each j (subst (λ i. j < i) types l)).byte) (omega (arith, types)) in
      record {
        sure = none_read (λ (r : ReadValue N). r.maybe) (byte_in n) 0 n (λ j l i. (each j (omega (arith, i))).sure);
        unmixed = none_read (λ (r : ReadValue N). r.mixed) (byte_in n) 0 n (λ j l i. (each j (omega
            (arith, i))).unmixed);
        its = subst (λ o. IsOneValue D (option_map (λ c. Num (D.convert c t)) o)) (sym g.is)
            (one_number (D.convert g.one t) (wrapped t (pos (sum_of_bytes v n)))
            (law.convert_single g.one t (pos (sum_of_bytes v n)) g.holds));
      }

  -- ---- pointers from bytes

  pointer_width : (d : Model) → is_width (pointer_bytes d) ≡ true
  pointer_width Ilp32 = refl
  pointer_width Lp64 = refl

  some_bytes : (d : Model) → 0 < pointer_bytes d
  some_bytes Ilp32 = omega arith
  some_bytes Lp64 = omega arith

  zero_number : (y : Byte) → is_zero y ≡ true → (is_number y ≡ true) × (number_in y ≡ 0)
  zero_number undefined h = absurd (let d : false ≡ true = h in cc)
  zero_number (number n) h = (refl, eqb-true n 0 h)
  zero_number (fragment c o i) h = absurd (let d : false ≡ true = h in cc)

  zero_value : (r : ReadValue N) (v : ℕ) → IsSingleByte D r v → v ≡ 0 → is_zero_value D r.value ≡ true
  zero_value r v h e =
      let f : D.range h.one ≡ (pos 0, pos 0) = subst (λ i. D.range h.one ≡ (pos i, pos i)) e h.single in
      ap (is_zero_value D) h.reads ∙ ap (λ (i : ℤ × ℤ). is_single i && int_eq i.0 (pos 0)) f

  settled_by : (maybe t u : Bool) → t ≡ true → maybe ≡ false
      → IsSettled (cond t (record { value = Some (Ptr null_alone); maybe = maybe; mixed = false; form = None })
      (cond u (record { value = None; maybe = true; mixed = false; form = None })
      (record { value = None; maybe = maybe; mixed = true; form = None })))
  settled_by maybe true u e f = record { sure = f; unmixed = refl; its = one_pointer null_alone (only_null refl) }
  settled_by maybe false u e f = absurd (let d : false ≡ true = e in cc)

  nulls_settled : list_any is_undefined (memory.bytes_from here b q (pointer_bytes k.model)) ≡ false
      → list_all is_zero (memory.bytes_from here b q (pointer_bytes k.model)) ≡ true
      → IsSettled (read_in_parts D k s b q Pointer)
  nulls_settled u h =
      let n = pointer_bytes k.model in
      let o = order_on s k.orders in
      let below : (j : ℕ) → j < pointer_bytes k.model → place (order_on s k.orders)
      (pointer_bytes k.model) j < pointer_bytes k.model =
      λ j l. place_below (order_on s k.orders) (pointer_bytes k.model) j (pointer_width k.model) l in
      let zeros : (j : ℕ) → j < pointer_bytes k.model → (is_number (here b (q + place (order_on s k.orders)
      (pointer_bytes k.model) j)) ≡ true)
      × (number_in (here b (q + place (order_on s k.orders) (pointer_bytes k.model) j)) ≡ 0) =
      λ j l. zero_number (here b (q + place (order_on s k.orders) (pointer_bytes k.model) j))
      (each_at is_zero here b q (pointer_bytes k.model) (place (order_on s k.orders) (pointer_bytes k.model) j) h
      (below j l)) in
      let each : (j : ℕ) → j < pointer_bytes k.model → IsNumberRead (byte_in (pointer_bytes k.model) j) (here b
      (q + place (order_on s k.orders) (pointer_bytes k.model) j)) =
      λ j l. number_read (q + place (order_on s k.orders) (pointer_bytes k.model) j)
      (none_at is_undefined here b q (pointer_bytes k.model) (place (order_on s k.orders) (pointer_bytes k.model) j) u
      (below j l))
      (zeros j l).0 in
      settled_by (may_be_undefined (bytes_there D k s b q n))
      (list_all (λ (r : ReadValue N). is_zero_value D r.value) (bytes_there D k s b q n))
      (list_any is_undefined_byte (bytes_there D k s b q n))
      (each_read (λ (r : ReadValue N). is_zero_value D r.value) (byte_in n) 0 n
      (λ j l i. zero_value (byte_in n j) _ (each j (omega (arith, i))).byte (zeros j (omega (arith, i))).1))
      (none_read (λ (r : ReadValue N). r.maybe) (byte_in n) 0 n (λ j l i. (each j (omega (arith, i))).sure))

  -- ---- a whole cell

  converted_one : (w : Scalar) (u : Scalar) (v : Option (Value N)) → is_same_sort u w ≡ true
      → Rattle.ep_cells.specs.States.IsOfSort u v → IsOneValue D v → IsOneValue D (option_map (converted D w) v)
  converted_one w u None e f i = elim i [ ]
  converted_one (Int t) u (Some (Num n)) e f (one_number _ z i) =
      one_number (D.convert n t) (wrapped t z) (law.convert_single n t z i)
  converted_one Pointer u (Some (Num n)) e f (one_number _ z i) = one_number n z i
  converted_one (Int t) u (Some (Ptr p)) e f (one_pointer _ i) = one_pointer p i
  converted_one Pointer u (Some (Ptr p)) e f (one_pointer _ i) = one_pointer p i

  whole_settled : (w : Scalar) (x : Cell N) → cell_at k.model s b q k.cells ≡ Some x
      → is_undefined (memory_on s m b q) ≡ false → is_exact k.model w q x ≡ true → IsSettled (whole_read D w x)
  whole_settled w x e u h = of_cell (one.each x (covering k.model s b q k.cells x e).is_in)
    where
      exact : (nat_eq x.offset q ≡ true)
          × ((nat_eq (size_of k.model x.what) (size_of k.model w) && is_same_sort x.what w) ≡ true)
      exact = and_parts (nat_eq x.offset q) (nat_eq (size_of k.model x.what)
          (size_of k.model w) && is_same_sort x.what w) h

      of_cell : IsOneCell D x → IsSettled (whole_read D w x)
      of_cell (one_value t v) = record {
        sure = t;
        unmixed = refl;
        its = converted_one w x.what x.value
            (and_parts (nat_eq (size_of k.model x.what) (size_of k.model w)) (is_same_sort x.what w) exact.1).1
            (one.cells.each x (covering k.model s b q k.cells x e).is_in).fits.sort v;
      }
      of_cell (no_value n) = undefined_there (one.holds.cells x (covering k.model s b q k.cells x e).is_in)
        where
          begins : x.offset ≡ q
          begins = eqb-true x.offset q exact.0

          same : memory_on s m b q ≡ memory_on s m x.block (x.offset + 0)
          same =
              ap (λ i. memory_on s m i q) (sym (covering k.model s b q k.cells x e).in_block)
              ∙ ap (memory_on s m x.block) (sym begins ∙ more x.offset)
            where
              more : (i : ℕ) → i ≡ i + 0
              more i = omega arith

          undefined_there : Says D k.orders k.model m x → IsSettled (whole_read D w x)
          undefined_there z =
              none_there D law _ (order_on s k.orders) (memory_on s m)
              (size_of k.model x.what) x.what x.maybe x.block x.offset
              0 z.datum (subst (λ y. Allows D x.what y x.maybe z.datum) n z.allowed)
              (let c = covering k.model s b q k.cells x e in omega (arith, c.low, c.high))
              (stands_there D k m s x (covering k.model s b q k.cells x e).sides z)
              (ap is_undefined (sym same) ∙ u)

  -- ---- any read

  -- what a machine finds there
  module _ (w : Scalar) (v : Datum) (f : Finds k m s b q w v) where
    some_size : (d : Model) (w : Scalar) → 0 < size_of d w
    some_size d (Int t) = bytes_of_positive t
    some_size d Pointer = some_bytes d

    first_there : is_undefined (memory_on s m b q) ≡ false
    first_there =
        subst (λ i. is_undefined (memory_on s m b i) ≡ false) (same q)
        (none_at is_undefined (memory_on s m) b q (size_of k.model w) 0 f.defined (some_size k.model w))
      where
        same : (q : ℕ) → q + 0 ≡ q
        same q = omega arith

    -- the first part of a pointer is that of a whole cell
    pointer_whole : (c o : ℕ) → memory_on s m b q ≡ fragment c o 0
        → (x : Cell N) × (cell_at k.model s b q k.cells ≡ Some x) × (is_exact k.model Pointer q x ≡ true)
    pointer_whole c o e = by_there (read_there D law k m one s outside b q first_there)
      where
        begins : (n i : ℕ) → n ≤ q → fragment c o 0 ≡ fragment c o i → i ≡ q - n → n ≡ q
        begins n i l g h = let d : 0 ≡ i = cc in omega (arith, l, d, h)

        part_same : (i j g h p r : ℕ) → fragment i j g ≡ fragment h p r → g ≡ r
        part_same i j g h p r d = cc

        equal : (n : ℕ) → nat_eq n n ≡ true
        equal n = grind arith

        by_there : IsReadThere D law (byte_there D k s b q) (memory_on s m b q) q (cell_at k.model s b q k.cells)
            → (x : Cell N) × (cell_at k.model s b q k.cells ≡ Some x) × (is_exact k.model Pointer q x ≡ true)
        by_there (there_number z) =
            let r = there_holds D law k m s b q one.cells one.holds z.sure z.unmixed in
            absurd (let d : number r.value ≡ fragment c o 0 = sym r.is ∙ e in cc)
        by_there (there_part x h i l a g j) =
            let p : 0 ≡ q - x.offset = part_same c o 0 a g (q - x.offset) (sym e ∙ j) in
            let n : x.offset ≡ q = omega (arith, l, p) in (
              x,
              h,
              and_from (nat_eq x.offset q)
                  (nat_eq (size_of k.model x.what) (pointer_bytes k.model) && is_same_sort x.what Pointer)
                  (subst (λ i. nat_eq x.offset i ≡ true) n (equal x.offset))
                  (subst (λ t. (nat_eq (size_of k.model t) (pointer_bytes k.model) && is_same_sort t Pointer) ≡ true)
                  (sym i)
                  (and_from (nat_eq (pointer_bytes k.model) (pointer_bytes k.model)) true (equal
                  (pointer_bytes k.model)) refl)),
            )

  first_fragment : (n : ℕ) (v : Datum) → 0 < n → pointer_in (memory.bytes_from (memory_on s m) b q n) ≡ has v
      → (c : ℕ) × (o : ℕ) × (memory_on s m b q ≡ fragment c o 0)
  first_fragment zero v l e = absurd (omega (arith, l))
  first_fragment (suc n) v l e = first_part (memory_on s m b q) (memory.bytes_from (memory_on s m) b (q + 1) n) v e

  parts_settled : (w : Scalar) (v : Datum) → Finds k m s b q w v
      → ((x : Cell N) → cell_at k.model s b q k.cells ≡ Some x → is_exact k.model w q x ≡ true → ⊥)
      → IsSettled (read_in_parts D k s b q w)
  parts_settled (Int t) v f none =
      ints_settled t f.defined
      (int_found (list_all is_number (memory.bytes_from (memory_on s m) b q (bytes_of t)))
      (number_of (order_on s k.orders) t (memory.bytes_from (memory_on s m) b q (bytes_of t))) v f.value)
  parts_settled Pointer v f none =
      by_bytes
      (pointer_found (list_all is_zero (memory.bytes_from (memory_on s m) b q (pointer_bytes k.model)))
      (pointer_in (memory.bytes_from (memory_on s m) b q (pointer_bytes k.model))) v f.value)
    where
      by_bytes : (list_all is_zero (memory.bytes_from (memory_on s m) b q (pointer_bytes k.model)) ≡ true)
          ⊎ (pointer_in (memory.bytes_from (memory_on s m) b q (pointer_bytes k.model)) ≡ has v)
          → IsSettled (read_in_parts D k s b q Pointer)
      by_bytes (inl z) = nulls_settled f.defined z
      by_bytes (inr p) =
          let y = first_fragment (pointer_bytes k.model) v (some_bytes k.model) p in
          let x = pointer_whole Pointer v f y.0 y.1 y.2 in
          absurd (none x.0 x.1 x.2)

  read_settled : (w : Scalar) (v : Datum) → Finds k m s b q w v → IsSettled (read D k s b q w)
  read_settled w v f = by_cell (cell_at k.model s b q k.cells) refl
    where
      no_cell : (x : Cell N) → cell_at k.model s b q k.cells ≡ None → cell_at k.model s b q k.cells ≡ Some x → ⊥
      no_cell x e h = let d : None ≡ Some x = sym e ∙ h in absurd cc

      one_cell : (x y : Cell N) → Some x ≡ Some y → x ≡ y
      one_cell x y e = cc

      not_both : (t : Bool) → t ≡ false → t ≡ true → ⊥
      not_both t e h = let d : false ≡ true = sym e ∙ h in absurd cc

      by_exact : (x : Cell N) → cell_at k.model s b q k.cells ≡ Some x → (t : Bool) → is_exact k.model w q x ≡ t
          → IsSettled (cond t (whole_read D w x) (read_in_parts D k s b q w))
      by_exact x e true h = whole_settled w x e (first_there w v f) h
      by_exact x e false h =
          parts_settled w v f
          (λ y i j. not_both (is_exact k.model w q x) h
          (subst (λ z. is_exact k.model w q z ≡ true) (one_cell y x (sym i ∙ e)) j))

      by_cell : (o : Option (Cell N)) → cell_at k.model s b q k.cells ≡ o → IsSettled (read_with D k s b q w o)
      by_cell None e = parts_settled w v f (λ x h i. no_cell x e h)
      by_cell (Some x) e = by_exact x e (is_exact k.model w q x) refl

  pub read_as : (w : Scalar) (v : Datum) → Finds k m s b q w v → IsReadAs D w (read D k s b q w) v
  read_as w v f =
      let z = read_settled w v f in
      let r = (of_reads D law).holds k s b q w one.cells m one.holds z.sure z.unmixed in
      let e = same r.datum v (sym r.found ∙ f.value) in
      record {
        sure = z.sure;
        unmixed = z.unmixed;
        one = z.its;
        allowed = subst (λ u. Allows D w (read D k s b q w).value false (Some u)) e r.allowed;
      }
    where
      same : (u v : Datum) → has u ≡ has v → u ≡ v
      same u v e = cc

pub reads_are_one : {N : Type 0} (D : Ops N) → Lawful D → (k : Known N) (m : Memories) → IsOne D k m → (s : Side)
    → IsMachine s → (b q : ℕ) (w : Scalar) (v : Datum) → Finds k m s b q w v → IsReadAs D w (read D k s b q w) v
reads_are_one D law k m one Left i b q w v f = read_as D law k m one Left one.left_outside b q w v f
reads_are_one D law k m one Right i b q w v f = read_as D law k m one Right one.right_outside b q w v f
reads_are_one D law k m one Shared i b q w v f = absurd i
