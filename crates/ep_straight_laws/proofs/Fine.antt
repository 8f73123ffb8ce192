-- A byte that both machines have alike is put out without a fault and is surely the same: it is of a cell of one byte,
-- of a single number, or of the number 1, of which both read the same byte.
use Rattle.std.proofs.Common.{◌≡◌, ℕ, ◌+◌, ◌-◌, ◌*◌, ◌<◌, inl, inr, pos, Bool, true, false, ◌&&◌, ◌||◌, nat_eq, cond}
use Rattle.ep_transfers.proofs.PieceReads.{place_zero}
use Rattle.ep_cell_rows.proofs.Same.{segments_itself}
use Rattle.std.proofs.Common.{List, [], ◌∷◌, ◌++◌, refl, sym, ap, ◌∙◌, subst, Option, Some, None, IfSome}
use Rattle.std.proofs.Common.{option_and_then, arith}
use Rattle.std.specs.Option.{option_map}
use Rattle.std.specs.Ordering.{int_eq}
use Rattle.std.proofs.lemmas.Bool.{eq-eqb, eqb-true}
use Rattle.std.proofs.lemmas.List.{append-nil}
use Rattle.ep_int.specs.declared.types.IntType.{IntType}
use Rattle.ep_int.specs.declared.types.IntType.TheVariants.{I8, U8, I16, U16, I32, U32, I64, U64}
use Rattle.ep_int.specs.declared.types.Order.{Order}
use Rattle.ep_int.specs.declared.types.Order.TheVariants.{Little, Big, SwappedWords}
use Rattle.ep_int.specs.declared.types.Scalar.{Scalar}
use Rattle.ep_int.specs.declared.types.Scalar.TheVariants.{Int}
use Rattle.ep_int.specs.Types.{bytes_of, bits_of, size_of, representation}
use Rattle.ep_int.specs.Encoding.{place, byte_of, encoded}
use Rattle.ep_int.specs.Memory.{Memory}
use Rattle.ep_int.proofs.Places.{width_of, place_below}
use Rattle.ep_alarms.specs.declared.types.AlarmKind.TheVariants.{U4, U10}
use Rattle.ep_bitslice.specs.declared.cell.Side.TheVariants.{Shared}
use Rattle.ep_bitslice.specs.declared.segment.Segment.{Segment}
use Rattle.ep_bitslice.specs.declared.segment.Segment.TheVariants.{Bits}
use Rattle.ep_bitslice.specs.Segments.{bits, width, form_of, IsForm}
use Rattle.ep_bitslice.proofs.Appending.{form_of-bits}
use Rattle.ep_domain.specs.Domain.{Ops, Lawful, IsSingle}
use Rattle.std.proofs.lemmas.Cmp.{int_eq_equiv}
use Rattle.ep_cells.specs.declared.cell.Cell.{Cell}
use Rattle.ep_cells.specs.declared.cell.Value.TheVariants.{Num}
use Rattle.ep_cells.specs.Cells.{is_same_side}
use Rattle.ep_cells.specs.Forms.{have_same_form}
use Rattle.ep_cells.specs.Look.{cell_at}
use Rattle.ep_cells.specs.Meaning.{name_of}
use Rattle.ep_cells.specs.Reshare.{are_one_number}
use Rattle.ep_cells.specs.States.{Known, AreCells, HasWidth, IsFormOf}
use Rattle.ep_reads.specs.declared.read.ReadValue.{ReadValue}
use Rattle.ep_reads.specs.Bytes.{byte_at, byte_form, byte_of_value, byte_of_cell, form_or, own_form, form_of_cell}
use Rattle.ep_reads.specs.Bytes.{number_byte, order_on}
use Rattle.ep_reads.specs.Read.{is_exact, is_same_sort, whole_read, read_with, read_in_parts, byte_read, byte_there}
use Rattle.ep_reads.specs.Read.{appended, integer_read, converted, read}
use Rattle.ep_reads.proofs.Bytes.{cell_form_fits}
use Rattle.ep_reads.proofs.Slices.{slice_is}
use Rattle.ep_cell_ranges.specs.Shared.{is_shared_cell}
use Rattle.ep_core.specs.Program.{Program}
use Rattle.ep_core.specs.Exec.{is_order}
use Rattle.ep_core.specs.Runs.{Side, left, right}
use Rattle.ep_core.specs.WellFormed.{is_well_formed}
use Rattle.ep_equalities.specs.declared.pair.Mode.TheVariants as pair_mode
use Rattle.ep_equalities.specs.declared.pair.Fault.{Fault}
use Rattle.ep_equalities.specs.Same.{is_same, are_one_pointer}
use Rattle.ep_evaluation.specs.Given.{cells_of, fault_of, shown_if}
use Rattle.ep_evaluation.specs.Accesses.{is_unset, is_mixed, are_shared, joined_reads, form_of_reads}
use Rattle.ep_transfers.specs.Places.{has_values}
use Rattle.ep_transfers.specs.Transfers.{byte_reads, byte_pair, byte_faults}
use Rattle.ep_straight_laws.proofs.Values.{looked_up}
use Rattle.ep_straight_laws.proofs.Loads.{IsSet}
use Rattle.ep_straight_laws.proofs.Bytes.{IsFine}
use Rattle.ep_straight_laws.proofs.Outputs.{FineBytes, at}
use Rattle.ep_straight_laws.proofs.Whole.{AllFine, straight_exact}
use Rattle.ep_straight_laws.specs.Laws.{has_little, MeetsKeepSingles, IsStraightExact}
use Rattle.ep_straight_laws.proofs.Singles.{part_read, IsRead, read_part}

or_second : (a b c : Bool) → b ≡ true → (a || (b || c)) ≡ true
or_second true b c e = refl
or_second false true c e = refl
or_second false false c e = absurd (cc)

or_third : (a b c d : Bool) → c ≡ true → (a || (b || (c || d))) ≡ true
or_third true b c d e = refl
or_third false true c d e = refl
or_third false false true d e = refl
or_third false false false d e = absurd (cc)

and_false : (a b : Bool) → (a && (false && b)) ≡ false
and_false true b = refl
and_false false b = refl

-- ---- places of one byte of the number 1

-- Where the first bytes of 1 are alike, all bytes are placed alike.
pub places_alike : (o : Order) (t : IntType) (i : ℕ) → i < bytes_of t → nat_eq (bytes_of t) 1 ≡ false
    → is_order Little o ≡ false → encoded Little t (pos 1) 0 ≡ encoded o t (pos 1) 0
    → place Little (bytes_of t) i ≡ place o (bytes_of t) i
places_alike Little t i l w other h = absurd (cc)
places_alike Big I8 i l w other h = absurd (cc)
places_alike Big U8 i l w other h = absurd (cc)
places_alike Big I16 i l w other h = absurd (let e : 1 ≡ 0 = h in cc)
places_alike Big U16 i l w other h = absurd (let e : 1 ≡ 0 = h in cc)
places_alike Big I32 i l w other h = absurd (let e : 1 ≡ 0 = h in cc)
places_alike Big U32 i l w other h = absurd (let e : 1 ≡ 0 = h in cc)
places_alike Big I64 i l w other h = absurd (let e : 1 ≡ 0 = h in cc)
places_alike Big U64 i l w other h = absurd (let e : 1 ≡ 0 = h in cc)
places_alike SwappedWords I8 i l w other h = absurd (cc)
places_alike SwappedWords U8 i l w other h = absurd (cc)
places_alike SwappedWords I16 i l w other h = omega (arith, l)
places_alike SwappedWords U16 i l w other h = omega (arith, l)
places_alike SwappedWords I32 i l w other h = absurd (let e : 1 ≡ 0 = h in cc)
places_alike SwappedWords U32 i l w other h = absurd (let e : 1 ≡ 0 = h in cc)
places_alike SwappedWords I64 i l w other h = absurd (let e : 1 ≡ 0 = h in cc)
places_alike SwappedWords U64 i l w other h = absurd (let e : 1 ≡ 0 = h in cc)

-- the same of two machines of which either is little-endian
all_alike : (a b : Order) → has_little a b ≡ true → is_order a b ≡ false → (t : IntType) (i : ℕ) → i < bytes_of t
    → nat_eq (bytes_of t) 1 ≡ false → encoded a t (pos 1) 0 ≡ encoded b t (pos 1) 0
    → place a (bytes_of t) i ≡ place b (bytes_of t) i
all_alike Little b one other t i l w e = places_alike b t i l w other e
all_alike Big Little one other t i l w e = sym (places_alike Big t i l w refl (sym e))
all_alike SwappedWords Little one other t i l w e = sym (places_alike SwappedWords t i l w refl (sym e))
all_alike Big Big one other t i l w e = absurd (cc)
all_alike Big SwappedWords one other t i l w e = absurd (cc)
all_alike SwappedWords Big one other t i l w e = absurd (cc)
all_alike SwappedWords SwappedWords one other t i l w e = absurd (cc)

-- ---- forms

form_some : (f : Option (List Segment)) (g : List Segment) → (h : List Segment) × (form_or f (Some g) ≡ Some h)
form_some None g = (g, refl)
form_some (Some f) g = (f, refl)

abbrev part_form : (byte : ℕ) → Option (List Segment) → Option (List Segment)
part_form k o = option_and_then form_of (appended (option_map (byte_form k) o) (Some []))

part_form_is : (t : IntType) (k : ℕ) → k < bytes_of t → (f : List Segment) → bits_of t ≡ width f → IsForm f
    → part_form k (Some f) ≡ Some (byte_form k f)
part_form_is t k h f w form =
    let s = slice_is f (8 * k) (8 * k + 8) form (omega arith) (omega (arith, h, w)) in
    form_of-bits (bits (byte_form k f) ++ []) (byte_form k f) s.form (sym (append-nil (bits (byte_form k f))))

module _ {N : Type 0} (D : Ops N) (law : Lawful D) where
  one_number : (a b : N) (e : ℕ) → IsSingle D a (pos e) → IsSingle D b (pos e)
      → are_one_number D (Some (Num a)) (Some (Num b)) ≡ true
  one_number a b e p q =
      let f : D.range a ≡ (pos e, pos e) = p in
      let g : D.range b ≡ (pos e, pos e) = q in
      let s : int_eq (pos e) (pos e) ≡ true = int_eq_equiv.refl (pos e) in
      rw (f, g, s) refl

  -- what is read of a byte, without a doubt
  record IsSure (r : ReadValue N) (n : N) : Type 0 where
    pub sure : r.maybe ≡ false
    pub whole : r.mixed ≡ false
    pub value : r.value ≡ Some (Num n)

  set_is : (r : ReadValue N) (n : N) → IsSure r n → is_unset (r ∷ []) ≡ false
  set_is r n s = rw (s.sure, s.value) refl

  clear_is : (r : ReadValue N) (n : N) → IsSure r n → is_mixed (r ∷ []) ≡ false
  clear_is r n s = rw (s.whole) refl

  module _ (k : Known N) (b i : ℕ) where
    abbrev reads : Side → List (ReadValue N)
    reads s = byte_reads D k (at b) i s

    abbrev alike : Bool
    alike = are_shared k (cells_of left) (Int U8) ((b, 0 + i) ∷ []) && are_shared k (cells_of right) (Int U8)
        ((b, 0 + i) ∷ [])

    abbrev faults_of : List (ReadValue N) → List (ReadValue N) → List Fault
    faults_of p q =
        fault_of U4 (shown_if (is_unset p)) (shown_if (is_unset q)) ++ fault_of U10 (shown_if (is_mixed p))
        (shown_if (is_mixed q))

    abbrev same_of : List (ReadValue N) → List (ReadValue N) → Bool
    same_of p q =
        alike || (have_same_form (form_of_reads p) (form_of_reads q)
        || (are_one_number D (joined_reads D p) (joined_reads D q) || are_one_pointer D (joined_reads D p)
        (joined_reads D q)))

    fine_by : (p q : ReadValue N) (u v : N) → reads left ≡ p ∷ [] → reads right ≡ q ∷ [] → IsSure p u → IsSure q v
        → same_of (p ∷ []) (q ∷ []) ≡ true → IsFine D k (at b) i
    fine_by p q u v e f s r same = record {
      quiet = (let z : byte_faults D pair_mode.Both k (at b) i ≡ faults_of (p ∷ []) (q ∷ [])
          = ap (λ x. faults_of x (reads right)) e ∙ ap (λ x. faults_of (p ∷ []) x) f in z)
          ∙ (rw (set_is p u s, set_is q v r, clear_is p u s, clear_is q v r) refl);
      there = (let z : has_values pair_mode.Both (byte_pair D pair_mode.Both true k (at b) i)
          ≡ values (p ∷ []) (q ∷ [])
          = ap (λ x. values x (reads right)) e ∙ ap (λ x. values (p ∷ []) x) f in z)
          ∙ (rw (s.value, r.value) refl);
      same = (let z : is_same D (byte_pair D pair_mode.Both true k (at b) i) ≡ same_of (p ∷ []) (q ∷ [])
          = ap (λ x. same_of x (reads right)) e ∙ ap (λ x. same_of (p ∷ []) x) f in z) ∙ same;
    }
      where
        values : List (ReadValue N) → List (ReadValue N) → Bool
        values x y = has_values pair_mode.Both (record {
          left = record { value = joined_reads D x; form = None };
          right = record { value = joined_reads D y; form = None };
          equal = true;
        })

  module _ (ord : Side → Order) (k : Known N) (orders : k.orders ≡ (ord left, ord right))
      (cells : AreCells k.model k.cells)
      (x y : Memory) (b : ℕ) (t : IntType) (s : IsSet D ord k x y b t) (i : ℕ) (inside : i < bytes_of t) where
    abbrev c : Cell N
    c = s.cell.cell

    look : (q : Side) → cell_at k.model (cells_of q) b i k.cells ≡ Some c
    look q = looked_up k cells b t c s.cell.placed s.cell.is_in q i inside

    exactly : (e : Bool) → nat_eq (bytes_of t) 1 ≡ e → is_exact k.model (Int U8) i c ≡ (nat_eq 0 i && (e && true))
    exactly e h =
        let q = s.cell.placed in
        ap (λ o. nat_eq o i && (nat_eq (size_of k.model c.what) 1 && is_same_sort c.what (Int U8))) q.offset
        ∙ ap (λ w. nat_eq 0 i && (nat_eq (size_of k.model w) 1 && is_same_sort w (Int U8))) q.what
        ∙ ap (λ z. nat_eq 0 i && (z && true)) h

    moved : (q : Side) (r : ReadValue N) → read D k (cells_of q) b i (Int U8) ≡ r → reads k b i q ≡ r ∷ []
    moved left r h =
        let z : 0 + i ≡ i = omega arith in ap (λ j. read D k (cells_of left) b j (Int U8) ∷ []) z ∙ ap (λ u. u ∷ []) h
    moved right r h =
        let z : 0 + i ≡ i = omega arith in ap (λ j. read D k (cells_of right) b j (Int U8) ∷ []) z ∙ ap
        (λ u. u ∷ []) h

    -- ---- a cell of one byte

    module _ (one : nat_eq (bytes_of t) 1 ≡ true) where
      exact : is_exact k.model (Int U8) i c ≡ true
      exact =
          let w = eqb-true (bytes_of t) 1 one in
          exactly true one ∙ ap (λ u. u && true) (eq-eqb 0 i (omega (arith, w, inside)))

      whole_is : (q : Side) → read D k (cells_of q) b i (Int U8) ≡ whole_read D (Int U8) c
      whole_is q =
          ap (λ o. read_with D k (cells_of q) b i (Int U8) o) (look q)
          ∙ ap (λ h. cond h (whole_read D (Int U8) c) (read_in_parts D k (cells_of q) b i (Int U8))) exact

      shared_is : (q : Side) → are_shared k (cells_of q) (Int U8) ((b, 0 + i) ∷ []) ≡ true
      shared_is q =
          let z : 0 + i ≡ i = omega arith in
          ap (λ j. are_shared k (cells_of q) (Int U8) ((b, j) ∷ [])) z
          ∙ ap (λ o. is_shared_cell k (Int U8) i o && true) (look q)
          ∙ (let e : (is_exact k.model (Int U8) i c && is_same_side c.side Shared) ≡ true
          = rw (exact, s.cell.placed.side) refl in ap (λ u. u && true) e)

      sure_whole : IsSure (whole_read D (Int U8) c) (D.convert s.known U8)
      sure_whole = record {
        sure = s.cell.sure;
        whole = refl;
        value = ap (λ v. option_map (converted D (Int U8)) v) s.cell.value;
      }

      fine_whole : IsFine D k (at b) i
      fine_whole =
          let r = whole_read D (Int U8) c in
          fine_by k b i r r (D.convert s.known U8) (D.convert s.known U8) (moved left r (whole_is left))
          (moved right r (whole_is right)) sure_whole sure_whole
          (let a : alike k b i ≡ true = rw (shared_is left, shared_is right) refl in
          ap (λ u. u || (have_same_form r.form r.form ||
          (are_one_number D r.value r.value || are_one_pointer D r.value r.value))) a)

    -- ---- a byte of a wider one

    module _ (wide : nat_eq (bytes_of t) 1 ≡ false) where
      abbrev part_of : Order → ReadValue N
      part_of o = integer_read D U8 (number_byte D c t (byte_at o t i) s.known ∷ [])

      inexact : is_exact k.model (Int U8) i c ≡ false
      inexact = exactly false wide ∙ and_false (nat_eq 0 i) true

      order_is : (q : Side) → order_on (cells_of q) k.orders ≡ ord q
      order_is left = ap (λ (o : Order × Order). o.0) orders
      order_is right = ap (λ (o : Order × Order). o.1) orders

      parts_are : (q : Side) → read D k (cells_of q) b i (Int U8) ≡ part_of (ord q)
      parts_are q =
          let o = order_on (cells_of q) k.orders in
          let z : i + place o 1 0 ≡ i = omega (arith, place_zero o) in
          let d : i - c.offset ≡ i = omega (arith, s.cell.placed.offset) in
          ap (λ u. read_with D k (cells_of q) b i (Int U8) u) (look q)
          ∙ ap (λ h. cond h (whole_read D (Int U8) c) (read_in_parts D k (cells_of q) b i (Int U8))) inexact
          ∙ ap (λ j. integer_read D U8 (byte_there D k (cells_of q) b j ∷ [])) z
          ∙ ap (λ u. integer_read D U8 (byte_read D o i u ∷ [])) (look q)
          ∙ ap (λ j. integer_read D U8 (byte_of_cell D o c j ∷ [])) d
          ∙ ap (λ w. integer_read D U8 (byte_of_value D o c w c.value i ∷ [])) s.cell.placed.what
          ∙ ap (λ v. integer_read D U8 (byte_of_value D o c (Int t) v i ∷ [])) s.cell.value
          ∙ ap part_of (order_is q)

      below : (o : Order) → byte_at o t i < bytes_of t
      below o = place_below o (bytes_of t) i (width_of t) inside

      known_part : (o : Order)
          → IsRead D law (part_read D law c t (byte_at o t i) s.known) (pos (byte_of (byte_at o t i)
          (representation t s.z))) (IsSingle D s.known s.z)
      known_part o = read_part D law c s.known t s.z s.ranged s.is.held (byte_at o t i) (below o)

      sure_part : (o : Order) → IsSure (part_of o) (known_part o).one
      sure_part o = record {
        sure = ap (λ u. u || false) s.cell.sure;
        whole = refl;
        value = (known_part o).is;
      }

      abbrev own : List Segment
      own = Bits (name_of c t) 0 (bits_of t) ∷ []

      form_found : (f : List Segment) × (form_of_cell c ≡ Some f)
      form_found =
          let q = form_some c.form own in (
            q.0,
            ap (λ m. cond m None (form_or c.form (own_form c c.what))) s.cell.sure
                ∙ ap (λ w. form_or c.form (own_form c w)) s.cell.placed.what ∙ q.1,
          )

      form_fits : IsFormOf k.cells c form_found.0
      form_fits =
          subst (λ u. IfSome u (IsFormOf k.cells c)) form_found.1
          (cell_form_fits k.model k.cells c cells s.cell.is_in)

      form_wide : bits_of t ≡ width form_found.0
      form_wide = subst (λ w. HasWidth w (width form_found.0)) s.cell.placed.what form_fits.wide

      forms_same : (j : ℕ) → j < bytes_of t
          → have_same_form (part_form j (form_of_cell c)) (part_form j (form_of_cell c)) ≡ true
      forms_same j l =
          let f = form_found.0 in
          ap (λ o. have_same_form (part_form j o) (part_form j o)) form_found.1
          ∙ ap (λ u. have_same_form u u) (part_form_is t j l f form_wide form_fits.form) ∙ segments_itself
          (byte_form j f)

      same_by : (e : encoded (ord left) t s.z i ≡ encoded (ord right) t s.z i)
          → (s.z ≡ pos 1 → byte_at (ord left) t i ≡ byte_at (ord right) t i)
          → same_of k b i (part_of (ord left) ∷ []) (part_of (ord right) ∷ []) ≡ true
      same_by e h = elim s.is.exact [
        | inl one ↦ or_third (alike k b i) (have_same_form p.form q.form) (are_one_number D p.value q.value)
            (are_one_pointer D p.value q.value)
            (ap (λ u. are_one_number D u q.value) n.is ∙ ap (λ u. are_one_number D (Some (Num n.one)) u) m.is
            ∙ one_number n.one m.one (encoded (ord left) t s.z i) (n.single one)
            (subst (λ u. IsSingle D m.one (pos u)) (sym e) (m.single one)))
        | inr one ↦ or_second (alike k b i) (have_same_form p.form q.form)
            (are_one_number D p.value q.value || are_one_pointer D p.value q.value)
            (ap (λ j. have_same_form p.form (part_form j (form_of_cell c))) (sym (h one))
            ∙ forms_same (byte_at (ord left) t i) (below (ord left)))
      ]
        where
          p : ReadValue N
          p = part_of (ord left)

          q : ReadValue N
          q = part_of (ord right)

          n : IsRead D law p.value (pos (encoded (ord left) t s.z i)) (IsSingle D s.known s.z)
          n = known_part (ord left)

          m : IsRead D law q.value (pos (encoded (ord right) t s.z i)) (IsSingle D s.known s.z)
          m = known_part (ord right)

      fine_part : (e : encoded (ord left) t s.z i ≡ encoded (ord right) t s.z i)
          → (s.z ≡ pos 1 → byte_at (ord left) t i ≡ byte_at (ord right) t i) → IsFine D k (at b) i
      fine_part e h =
          fine_by k b i (part_of (ord left)) (part_of (ord right)) (known_part (ord left)).one (known_part
          (ord right)).one
          (moved left (part_of (ord left)) (parts_are left)) (moved right (part_of (ord right)) (parts_are right))
          (sure_part (ord left)) (sure_part (ord right)) (same_by e h)

    pub fine_byte : encoded (ord left) t s.z i ≡ encoded (ord right) t s.z i
        → (nat_eq (bytes_of t) 1 ≡ false → s.z ≡ pos 1 → byte_at (ord left) t i ≡ byte_at (ord right) t i)
        → IsFine D k (at b) i
    fine_byte e h = by (nat_eq (bytes_of t) 1) refl
      where
        by : (q : Bool) → nat_eq (bytes_of t) 1 ≡ q → IsFine D k (at b) i
        by true w = fine_whole w
        by false w = fine_part w e (h w)

  -- ---- programs

  -- machines of which equal first bytes of 1 mean that all bytes are placed alike
  abbrev ArePlacedAlike : (Side → Order) → Type 0
  ArePlacedAlike ord =
      (t : IntType) (i : ℕ) → i < bytes_of t → nat_eq (bytes_of t) 1 ≡ false
      → encoded (ord left) t (pos 1) 0 ≡ encoded (ord right) t (pos 1) 0
      → place (ord left) (bytes_of t) i ≡ place (ord right) (bytes_of t) i

  fine_bytes : (p : Program) (formed : is_well_formed p ≡ true) (ord : Side → Order) (seen : List ℕ) (r : ℕ)
      (result : Option (ℕ × Scalar)) → ArePlacedAlike ord → FineBytes D law p formed ord seen r result
  fine_bytes p formed ord seen r result places k x y v b t s i inside first here =
      let st = v.kept.stands.memories.state in
      fine_byte ord k st.orders st.cells x.memory y.memory b t s i inside here
      (λ w one. places t i inside w (subst (λ z. encoded (ord left) t z 0 ≡ encoded (ord right) t z 0) one first))

  module _ (meets : MeetsKeepSingles D) where
    all_fine : AllFine D law meets
    all_fine p formed ord little other main =
        fine_bytes p formed ord _ _ main.f.result (all_alike (ord left) (ord right) little other)

    pub straight : IsStraightExact D
    straight = straight_exact D law meets all_fine
