-- The sources of a piece that have one form on both sides are one number.
use Rattle.std.proofs.Common.{◌≡◌, ℕ, ◌+◌, ◌-◌, pos, Bool, true, false, ◌&&◌, ◌||◌, nat_eq, cond, IfSome, List, []}
use Rattle.ep_cell_ranges.proofs.Shareds.{has_one}
use Rattle.std.proofs.lemmas.Bool.{or_left}
use Rattle.std.proofs.Common.{◌∷◌, Option, Some, None, refl, sym, ap, ◌∙◌, subst, arith}
use Rattle.std.specs.Option.{option_map, option_map_or, option_and_then}
use Rattle.std.proofs.lemmas.Bool.{and_from, and_parts, eqb-true, eq-eqb}
use Rattle.ep_int.specs.declared.types.IntType.TheVariants.{U8}
use Rattle.ep_int.specs.declared.types.Order.{Order}
use Rattle.ep_int.specs.declared.types.Scalar.{Scalar}
use Rattle.ep_int.specs.declared.types.Scalar.TheVariants.{Int, Pointer}
use Rattle.ep_int.specs.Types.{size_of}
use Rattle.ep_int.specs.Encoding.{encoded}
use Rattle.ep_int.specs.Memory.{Byte, undefined, number, Value as Datum, int, null, pointer, has, broken, bytes_from}
use Rattle.ep_int.specs.Memory.{value_of_bytes}
use Rattle.ep_bitslice.specs.declared.segment.Segment.{Segment}
use Rattle.ep_bitslice.specs.Segments.{form_of}
use Rattle.ep_domain.specs.Domain.{Ops}
use Rattle.ep_cells.specs.declared.cell.Cell.{Cell}
use Rattle.ep_cells.specs.declared.cell.Value.{Value}
use Rattle.ep_cells.specs.declared.cell.Value.TheVariants.{Num, Ptr}
use Rattle.ep_cells.specs.Cells.{is_same_scalar}
use Rattle.ep_cells.specs.Forms.{have_same_form}
use Rattle.ep_cells.specs.Look.{cell_at}
use Rattle.ep_cells.specs.States.{Known}
use Rattle.ep_cells.specs.Meaning.{Memories, Allows, Has, HasBytes, numbers_of}
use Rattle.ep_cells.proofs.Both.{scalar_same}
use Rattle.ep_reads.specs.declared.read.ReadValue.{ReadValue}
use Rattle.ep_reads.specs.Bytes.{is_null_alone, zero_form, byte_of_value, byte_of_cell}
use Rattle.ep_reads.specs.Bytes.{order_on as order_of}
use Rattle.ep_reads.specs.Read.{is_same_sort, is_exact, whole_read, read_in_parts, read_with, read, integer_read}
use Rattle.ep_reads.specs.Read.{converted, appended}
use Rattle.ep_reads.specs.Laws.{memory_on as memory_of, IsFormRead}
use Rattle.ep_reads.proofs.Wholes.{found_of}
use Rattle.ep_core.specs.Runs.{Side, left, right}
use Rattle.ep_equalities.specs.Pairs.{HasFormNumber}
use Rattle.ep_equalities.proofs.Equal.{same_values}
use Rattle.ep_evaluation.specs.Given.{cells_of, pair}
use Rattle.ep_evaluation.specs.Accesses.{joined_reads, form_of_reads}
use Rattle.ep_cell_ranges.specs.Spots.{Spot}
use Rattle.ep_cell_ranges.specs.Follow.{FormHas}
use Rattle.ep_transfers.specs.Places.{moved_spots}
use Rattle.ep_transfers.specs.Writes.{lacks}
use Rattle.ep_transfers.specs.Copies.{exact_cell, exact_at, whole_source, fragment_source, may_point, byte_source}
use Rattle.ep_transfers.specs.Copies.{leaf_sources, byte_sources, some_maybe}
use Rattle.ep_transfers.specs.Laws.{CellLaws}
use Rattle.ep_transfers.proofs.Sides.{from_held}
use Rattle.ep_transfers.proofs.Changes.{IsOne, here, there, IsKnown}
use Rattle.ep_transfers.proofs.Puts.{order_on, memory_on}
use Rattle.ep_transfers.proofs.PieceWrites.{bytes_as}
use Rattle.ep_transfers.proofs.PieceReads.{read_is}

found_on : (s : Side) (os : Order × Order) (m : Memories) (w : Scalar) (b q n : ℕ) (d : Datum)
    → value_of_bytes (order_of (cells_of s) os) w (bytes_from (memory_of (cells_of s) m) b q n) ≡ has d
    → value_of_bytes (order_on s os) w (bytes_from (memory_on s m) b q n) ≡ has d
found_on left os m w b q n d h = h
found_on right os m w b q n d h = h

unbroken_if : (t : Bool) (y : Byte) (v : ℕ) → cond t undefined y ≡ number v → y ≡ number v
unbroken_if true y v e = absurd (cc)
unbroken_if false y v e = e

further_on : (a b c : ℕ) → a + (b + c) ≡ a + b + c
further_on a b c = omega arith

module _ {N : Type 0} (D : Ops N) (laws : CellLaws D) (k : Known N) (m : Memories) (i : IsKnown D k m) (s : Side) where
  -- a source with a form is a number, that of the form
  pub record IsSure (w : Scalar) (q : Spot) (f : List Segment) (u : Option (Value N)) (maybe : Bool) : Type 0 where
    pub sure : maybe ≡ false
    pub value : Value N
    pub has_value : u ≡ Some value
    pub datum : Datum
    pub read : Option (Value N)
    pub allowed : Allows D w read false (Some datum)
    pub number : HasFormNumber (numbers_of k.orders m) w datum f
    pub found : value_of_bytes (order_on s k.orders) w
        (bytes_from (memory_on s m) q.0 q.1 (size_of k.model w)) ≡ has datum

  sure_maybe : (w : Scalar) (maybe : Bool) (g : Option (List Segment)) (f : List Segment) → g ≡ Some f
      → IfSome g (IsFormRead k.cells w maybe) → maybe ≡ false
  sure_maybe w maybe g f e h = (subst (λ z. IfSome z (IsFormRead k.cells w maybe)) e h).sure

  some_value : (w : Scalar) (r u : Option (Value N)) (d : Datum) → (u ≡ None → r ≡ None)
      → Allows D w r false (Some d) → (v : Value N) × (u ≡ Some v)
  some_value w r None d e a =
      absurd (let x : Allows D w None false (Some d) = subst (λ z. Allows D w z false (Some d)) (e refl) a in
      let z : Some d ≡ None = x in cc)
  some_value w r (Some v) d e a = (v, refl)

  sure_read : (w : Scalar) (q : Spot) (f : List Segment) (u : Option (Value N)) (maybe : Bool)
      → (read D k (cells_of s) q.0 q.1 w).form ≡ Some f → (read D k (cells_of s) q.0 q.1 w).mixed ≡ false
      → maybe ≡ (read D k (cells_of s) q.0 q.1 w).maybe
      → (u ≡ None → (read D k (cells_of s) q.0 q.1 w).value ≡ None) → IsSure w q f u maybe
  sure_read w q f u maybe form mixed same none =
      let r = read D k (cells_of s) q.0 q.1 w in
      let sure = sure_maybe w r.maybe r.form f form (laws.reads.fits k (cells_of s) q.0 q.1 w i.cells).form in
      let h = laws.reads.holds k (cells_of s) q.0 q.1 w i.cells m i.holds sure mixed in
      let v = some_value w r.value u h.datum none h.allowed in
      record {
        sure = same ∙ sure;
        value = v.0;
        has_value = v.1;
        datum = h.datum;
        read = r.value;
        allowed = h.allowed;
        number = from_held k.orders m w h.datum (Some f)
            (subst (λ g. FormHas k.orders m w h.datum g) form h.form);
        found = found_on s k.orders m w q.0 q.1 (size_of k.model w) h.datum h.found;
      }

  -- ---- a cell that goes as a whole

  exact_too : (w : Scalar) (q : ℕ) (x : Cell N) → x.offset ≡ q → x.what ≡ w → is_exact k.model w q x ≡ true
  exact_too w q x e f =
      and_from (nat_eq x.offset q) (nat_eq (size_of k.model x.what) (size_of k.model w) && is_same_sort x.what w)
      (eq-eqb x.offset q e)
      (and_from (nat_eq (size_of k.model x.what) (size_of k.model w)) (is_same_sort x.what w)
      (eq-eqb (size_of k.model x.what) (size_of k.model w) (ap (size_of k.model) f))
      (subst (λ v. is_same_sort x.what v ≡ true) f (own_sort x.what)))
    where
      own_sort : (v : Scalar) → is_same_sort v v ≡ true
      own_sort (Int t) = refl
      own_sort Pointer = refl

  none_read : (w : Scalar) (u : Option (Value N)) → u ≡ None → option_map (converted D w) u ≡ None
  none_read w None e = refl
  none_read w (Some v) e = absurd (cc)

  leaf_sure_by : (w : Scalar) (q : Spot) (f : List Segment) (c : Option (Cell N))
      → cell_at k.model (cells_of s) q.0 q.1 k.cells ≡ c
      → (option_map_or (whole_source D) (exact_cell D w q.1 c) (fragment_source D)).form ≡ Some f
      → IsSure w q f (option_map_or (whole_source D) (exact_cell D w q.1 c) (fragment_source D)).value
      (option_map_or (whole_source D) (exact_cell D w q.1 c) (fragment_source D)).maybe
  leaf_sure_by w q f None at e = absurd (let z : None ≡ Some f = e in cc)
  leaf_sure_by w q f (Some x) at e = by_test (nat_eq x.offset q.1 && is_same_scalar x.what w) refl e
    where
      by_test : (t : Bool) → (nat_eq x.offset q.1 && is_same_scalar x.what w) ≡ t
          → (option_map_or (whole_source D) (cond t (Some x) None) (fragment_source D)).form ≡ Some f
          → IsSure w q f (option_map_or (whole_source D) (cond t (Some x) None) (fragment_source D)).value
          (option_map_or (whole_source D) (cond t (Some x) None) (fragment_source D)).maybe
      by_test false g e = absurd (let z : None ≡ Some f = e in cc)
      by_test true g e =
          let r = and_parts (nat_eq x.offset q.1) (is_same_scalar x.what w) g in
          let exact = exact_too w q.1 x (eqb-true x.offset q.1 r.0) (scalar_same x.what w r.1) in
          let is : read D k (cells_of s) q.0 q.1 w ≡ whole_read D w x
          = ap (λ z. read_with D k (cells_of s) q.0 q.1 w z) at
          ∙ ap (λ t. cond t (whole_read D w x) (read_in_parts D k (cells_of s) q.0 q.1 w)) exact in
          sure_read w q f x.value x.maybe (ap (λ (z : ReadValue N). z.form) is ∙ e)
          (ap (λ (z : ReadValue N). z.mixed) is) (sym (ap (λ (z : ReadValue N). z.maybe) is))
          (λ n. ap (λ (z : ReadValue N). z.value) is ∙ none_read w x.value n)

  -- ---- a byte

  unmixed_if : (maybe t : Bool) (f : List Segment)
      → (cond {A = ReadValue N} t
      (record {
        value = Some (Num (D.single (pos 0)));
        maybe = maybe;
        mixed = false;
        form = cond maybe None (Some zero_form);
      }) (record { value = None; maybe = maybe; mixed = true; form = None })).form ≡ Some f
      → (cond {A = ReadValue N} t
      (record {
        value = Some (Num (D.single (pos 0)));
        maybe = maybe;
        mixed = false;
        form = cond maybe None (Some zero_form);
      }) (record { value = None; maybe = maybe; mixed = true; form = None })).mixed ≡ false
  unmixed_if maybe true f e = refl
  unmixed_if maybe false f e = absurd (let z : None ≡ Some f = e in cc)

  unmixed_byte : (o : Order) (x : Cell N) (w : Scalar) (u : Option (Value N)) (j : ℕ) (f : List Segment)
      → (byte_of_value D o x w u j).form ≡ Some f → (byte_of_value D o x w u j).mixed ≡ false
  unmixed_byte o x w None j f e = refl
  unmixed_byte o x (Int t) (Some (Num n)) j f e = refl
  unmixed_byte o x (Int t) (Some (Ptr n)) j f e = refl
  unmixed_byte o x Pointer (Some (Num n)) j f e = refl
  unmixed_byte o x Pointer (Some (Ptr n)) j f e = unmixed_if x.maybe (is_null_alone n) f e

  some_form : (r : ReadValue N) (g : Option (List Segment)) (f : List Segment) → r.form ≡ g
      → (integer_read D U8 (r ∷ [])).form ≡ Some f → (h : List Segment) × (g ≡ Some h)
  some_form r None f e h =
      absurd (let z : None ≡ Some f = sym (ap (λ x. option_and_then form_of
      (appended x (Some []))) e) ∙ h in cc)
  some_form r (Some g) f e h = (g, refl)

  or_none : (b : Bool) → b ≡ false → (b || false) ≡ false
  or_none true e = absurd (cc)
  or_none false e = refl

  mixed_by : (x : Cell N) (j : ℕ) (f : List Segment) (t : Bool)
      → (cond t (whole_read D (Int U8) x)
      (integer_read D U8 (byte_of_cell D (order_of (cells_of s) k.orders) x j ∷ []))).form ≡ Some f
      → (cond t (whole_read D (Int U8) x)
      (integer_read D U8 (byte_of_cell D (order_of (cells_of s) k.orders) x j ∷ []))).mixed ≡ false
  mixed_by x j f true e = refl
  mixed_by x j f false e =
      let r = byte_of_cell D (order_of (cells_of s) k.orders) x j in
      let g = some_form r r.form f refl e in
      or_none r.mixed (unmixed_byte (order_of (cells_of s) k.orders) x x.what x.value j g.0 g.1)

  byte_sure_by : (q : Spot) (f : List Segment) (c : Option (Cell N))
      → cell_at k.model (cells_of s) q.0 q.1 k.cells ≡ c → (byte_source D k (cells_of s) q c).form ≡ Some f
      → IsSure (Int U8) q f (byte_source D k (cells_of s) q c).value (byte_source D k (cells_of s) q c).maybe
  byte_sure_by q f None at e = absurd (let z : None ≡ Some f = e in cc)
  byte_sure_by q f (Some x) at e = by_test (may_point D x.value) e
    where
      by_test : (t : Bool)
          → (cond t (fragment_source D) (read D k (cells_of s) q.0 q.1 (Int U8))).form ≡ Some f
          → IsSure (Int U8) q f (cond t (fragment_source D) (read D k (cells_of s) q.0 q.1 (Int U8))).value
          (cond t (fragment_source D) (read D k (cells_of s) q.0 q.1 (Int U8))).maybe
      by_test true e = absurd (let z : None ≡ Some f = e in cc)
      by_test false e =
          let r = read D k (cells_of s) q.0 q.1 (Int U8) in
          let is = read_is D k (cells_of s) q.0 q.1 x at in
          sure_read (Int U8) q f r.value r.maybe e
          (ap (λ (z : ReadValue N). z.mixed) is
          ∙ mixed_by x (q.1 - x.offset) f (is_exact k.model (Int U8) q.1 x)
          (sym (ap (λ (z : ReadValue N). z.form) is) ∙ e)) refl (λ n. n)

  -- ---- all sources, of which there is one

  pub leaf_sure : (p : Spot) (o : ℕ) (w : Scalar) (ps : List Spot) → IsOne p ps → (f : List Segment)
      → form_of_reads (leaf_sources D k (cells_of s) w (moved_spots o ps)) ≡ Some f
      → IsSure w (p.0, p.1 + o) f (joined_reads D (leaf_sources D k (cells_of s) w (moved_spots o ps)))
      (some_maybe D (leaf_sources D k (cells_of s) w (moved_spots o ps)))
  leaf_sure p o w _ (here []) f e =
      let x = leaf_sure_by w (p.0, p.1 + o) f (cell_at k.model (cells_of s) p.0 (p.1 + o) k.cells) refl e in
      record {
        sure = or_none (option_map_or (whole_source D) (exact_at D k (cells_of s) w (p.0, p.1 + o))
            (fragment_source D)).maybe x.sure;
        value = x.value;
        has_value = x.has_value;
        datum = x.datum;
        read = x.read;
        allowed = x.allowed;
        number = x.number;
        found = x.found;
      }
  leaf_sure p o w _ (here (q ∷ qs)) f e = absurd (let z : None ≡ Some f = e in cc)
  leaf_sure p o w _ (there q [] one) f e = elim one [ ]
  leaf_sure p o w _ (there q (r ∷ qs) one) f e = absurd (let z : None ≡ Some f = e in cc)

  pub bytes_sure : (p : Spot) (o : ℕ) (ps : List Spot) → IsOne p ps → (f : List Segment)
      → form_of_reads (byte_sources D k (cells_of s) (moved_spots o ps)) ≡ Some f
      → IsSure (Int U8) (p.0, p.1 + o) f (joined_reads D (byte_sources D k (cells_of s) (moved_spots o ps)))
      (some_maybe D (byte_sources D k (cells_of s) (moved_spots o ps)))
  bytes_sure p o _ (here []) f e =
      let c = cell_at k.model (cells_of s) p.0 (p.1 + o) k.cells in
      let x = byte_sure_by (p.0, p.1 + o) f c refl e in
      record {
        sure = or_none (byte_source D k (cells_of s) (p.0, p.1 + o) c).maybe x.sure;
        value = x.value;
        has_value = x.has_value;
        datum = x.datum;
        read = x.read;
        allowed = x.allowed;
        number = x.number;
        found = x.found;
      }
  bytes_sure p o _ (here (q ∷ qs)) f e = absurd (let z : None ≡ Some f = e in cc)
  bytes_sure p o _ (there q [] one) f e = elim one [ ]
  bytes_sure p o _ (there q (r ∷ qs) one) f e = absurd (let z : None ≡ Some f = e in cc)

  -- ---- and what stands at the piece is that number

  lacks_none : (maybe : Bool) (u : Option (Value N)) (v : Value N) → maybe ≡ false → u ≡ Some v
      → lacks maybe u ≡ false
  lacks_none maybe u v e f = rw (e, f) refl

  module _ (p : Spot) (n o : ℕ) (new : ℕ → Byte)
      (copies : (t : ℕ) → new t ≡ broken k.model (memory_on s m) p.0 p.1 n p.0 (p.1 + t)) where
    there_number : (j v : ℕ) → new (o + j) ≡ number v → memory_on s m p.0 (p.1 + o + j) ≡ number v
    there_number j v e =
        subst (λ z. memory_on s m p.0 z ≡ number v) (further_on p.1 o j)
        (unbroken_if _ (memory_on s m p.0 (p.1 + (o + j))) v (sym (copies (o + j)) ∙ e))

    by_datum : (w : Scalar) (f : List Segment) (lv : Option (Value N)) (lm : Bool)
        (x : IsSure w (p.0, p.1 + o) f lv lm) (d : Option Datum) → Allows D w lv false d
        → HasBytes (order_on s k.orders) (bytes_as new) (size_of k.model w) w false 0 o d → d ≡ Some x.datum
    by_datum w f lv lm x None a h =
        absurd (let b : Allows D w (Some x.value) false None = subst (λ u. Allows D w u false None) x.has_value a in
        let z : false ≡ true = b in cc)
    by_datum Pointer f lv lm x (Some y) a h = absurd x.number
    by_datum (Int t) f lv lm x (Some null) a h =
        absurd (let b = subst (λ u. Allows D (Int t) u false (Some null)) x.has_value a in no_null x.value b)
      where
        no_null : (v : Value N) → Allows D (Int t) (Some v) false (Some null) → ⊥
        no_null (Num n) a = a
        no_null (Ptr n) a = a
    by_datum (Int t) f lv lm x (Some (pointer b c)) a h =
        absurd (let b = subst (λ u. Allows D (Int t) u false (Some (pointer b c))) x.has_value a in no_place x.value b)
      where
        no_place : (v : Value N) → Allows D (Int t) (Some v) false (Some (pointer b c)) → ⊥
        no_place (Num n) a = a
        no_place (Ptr n) a = a
    by_datum (Int t) f lv lm x (Some (int z)) a h =
        let ord = order_on s k.orders in
        let there : Has ord (memory_on s m) (Int t) p.0 (p.1 + o) (size_of k.model (Int t)) (int z)
        = λ j l. there_number j (encoded ord t z j) (h j l) in
        let r = found_of D k.model ord (memory_on s m) (Int t) p.0 (p.1 + o) lv (int z) a there in
        ap Some (has_one (int z) x.datum (sym r.found ∙ x.found))

    pub is_datum : (w : Scalar) (f : List Segment) (lv : Option (Value N)) (lm : Bool)
        (x : IsSure w (p.0, p.1 + o) f lv lm) (d : Option Datum) → Allows D w lv (lacks lm lv) d
        → HasBytes (order_on s k.orders) (bytes_as new) (size_of k.model w) w (lacks lm lv) 0 o d → d ≡ Some x.datum
    is_datum w f lv lm x d a h =
        let e = lacks_none lm lv x.value x.sure x.has_value in
        by_datum w f lv lm x d (subst (λ t. Allows D w lv t d) e a)
        (subst (λ t. HasBytes (order_on s k.orders) (bytes_as new) (size_of k.model w) w t 0 o d) e h)

-- numbers of one form are one
pub one_number : {N : Type 0} (D : Ops N) (laws : CellLaws D) (k : Known N) (m : Memories) (i : IsKnown D k m)
    (w : Scalar) (ql qr : Spot) (f g : List Segment) (lv rv : Option (Value N)) (lm rm : Bool)
    (x : IsSure D laws k m i left w ql f lv lm) (y : IsSure D laws k m i right w qr g rv rm)
    → have_same_form (Some f) (Some g) ≡ true → x.datum ≡ y.datum
one_number D laws k m i w ql qr f g lv rv lm rm x y e =
    let p = pair (record { value = x.read; form = Some f }) (record { value = y.read; form = Some g }) false in
    same_values D laws.domain p (or_left (have_same_form (Some f) (Some g)) _ e) (numbers_of k.orders m) w x.datum
    y.datum
    (record {
      left = λ z. record { value = x.allowed; form = x.number };
      right = λ z. record { value = y.allowed; form = y.number };
      equal = λ z h. absurd (cc);
    })
