-- Constants and conversions.
use Rattle.std.proofs.Common.{◌≡◌, ℕ, ◌+◌, ◌-◌, ◌*◌, ◌%◌, ◌^◌, ◌<◌, ◌≤◌, ℤ, pos, Bool, true, false, ◌||◌, not, cond}
use Rattle.ep_int.proofs.Arithmetic.{bits_at_most, le_fact, le_test}
use Rattle.ep_cell_ranges.proofs.Shareds.{has_one}
use Rattle.std.proofs.Common.{List, [], ◌∷◌, length, ⊎_elim, Option, Some, None, IfSome, refl, sym, ap, ◌∙◌, subst}
use Rattle.std.proofs.Common.{arith, length-append}
use Rattle.std.specs.Prelude.{int_le, nat_eq, nat_lt}
use Rattle.std.specs.Option.{option_map}
use Rattle.std.proofs.lemmas.Bool.{and_parts, or_cases, eqb-true, eqb-false, ltb-true, ltb-false}
use Rattle.std.proofs.Math.Nat.{mod-eq_of_lt, mod-mod, div-one}
use Rattle.std.proofs.Math.Pow.{mod-mod-pow}
use Rattle.ep_int.specs.declared.types.Order.{Order}
use Rattle.ep_int.specs.declared.types.IntType.{IntType}
use Rattle.ep_int.specs.declared.types.IntType.TheVariants.{I8, U8, I16, U16, I32, U32, I64, U64}
use Rattle.ep_int.specs.declared.types.Scalar.{Scalar}
use Rattle.ep_int.specs.declared.types.Scalar.TheVariants.{Int, Pointer}
use Rattle.ep_int.specs.Types.{bits_of, is_signed, least_of, greatest_of, InRange, residue, representation, wrapped}
use Rattle.ep_int.specs.Memory.{Memory, Value as Datum, int, Found, has, faults}
use Rattle.ep_int.proofs.Arithmetic.{in_range_some_type}
use Rattle.ep_int.proofs.Wrapping.{bytes_of_positive, representation_below, wrapped_in_range, wrapped_same}
use Rattle.ep_range_laws.proofs.Comparisons.{le_trans}
use Rattle.ep_bitslice.specs.declared.cell.CellName.{CellName}
use Rattle.ep_bitslice.specs.declared.segment.Segment.{Segment}
use Rattle.ep_bitslice.specs.declared.segment.Segment.TheVariants.{Fixed}
use Rattle.ep_bitslice.specs.Bits.{Numbers, zeros, part_of, extended, mentions}
use Rattle.ep_bitslice.specs.Segments.{bits, width, fixed_bits, number as form_number, normal, form_of}
use Rattle.ep_bitslice.proofs.Numbers.{residue-split}
use Rattle.ep_bitslice.proofs.Operations.{length-zeros, number-extended}
use Rattle.ep_bitslice.proofs.Pieces.{mentions-fixed, mentions-append}
use Rattle.ep_domain.specs.Domain.{Ops, Lawful, Holds as HoldsNumber}
use Rattle.ep_cells.specs.declared.cell.Cell.{Cell}
use Rattle.ep_cells.specs.declared.cell.Value.{Value}
use Rattle.ep_cells.specs.declared.cell.Value.TheVariants.{Num, Ptr}
use Rattle.ep_cells.specs.Cells.{IsIn}
use Rattle.ep_cells.specs.States.{Known, IsOfSort, HasRisingBlocks}
use Rattle.ep_cells.specs.Meaning.{Memories, Allows, numbers_of}
use Rattle.ep_reads.specs.Laws.{IsFormRead}
use Rattle.ep_reads.proofs.Slices.{slice_is}
use Rattle.ep_core.specs.Program.{Program}
use Rattle.ep_core.specs.Exec.{with_number}
use Rattle.ep_core.specs.Runs.{Side, left, right}
use Rattle.ep_equalities.specs.declared.pair.Mode.{Mode}
use Rattle.ep_equalities.specs.declared.pair.SideValue.{SideValue}
use Rattle.ep_equalities.specs.Pairs.{SideIn, HasFormNumber}
use Rattle.ep_evaluation.specs.Narrowed.{has_range, if_kept}
use Rattle.ep_evaluation.specs.Operators.{Form, constant_form, converted_form, number_in}
use Rattle.ep_evaluation.specs.Evaluation.{Means, plain, number, constant_given, convert_form, convert_side}
use Rattle.ep_evaluation.specs.Evaluation.{convert_given, convert_means}
use Rattle.ep_evaluation.specs.Laws.{memory_of, Machine, IsOfCell, SideFits, Holds, Sound}
use Rattle.ep_evaluation.proofs.General.{on_running, number_found, IsNum, is_int}
use Rattle.ep_evaluation.proofs.Generic.{Typed, Part, OperatorOf, IsOperatorOf, one_holds, one_fits, pair_fits}
use Rattle.ep_evaluation.proofs.Bits.{good_append, good_zeros, good_form, form_length, bits_fit_form, bits_say}
use Rattle.ep_evaluation.proofs.Bits.{form_number as number_is, form_below}
use Rattle.ep_evaluation.proofs.Leaves.{any_sound, plain_sound}
use Rattle.ep_evaluation.proofs.Residues.{wrapped_bits, wider_bits}

-- ---- the form of a constant

pub bits_positive : (t : IntType) → 0 < bits_of t
bits_positive t = omega (arith, bytes_of_positive t)

pub nothing_fixed : (c : CellName) (w v : ℕ) → mentions c (bits (Fixed v w ∷ [])) ≡ false
nothing_fixed c w v = mentions-append c (fixed_bits w v) [] ∙ rw (mentions-fixed c w v) refl

pub constant_fits : {N : Type 0} (cs : List (Cell N)) (t : IntType) (v : ℤ)
    → IsFormRead cs (Int t) false (Fixed (representation t v) (bits_of t) ∷ [])
constant_fits cs t v = record {
  sure = refl;
  wide = (let e : bits_of t ≡ bits_of t + 0 = omega arith in e);
  form = record {
    segments = ((bits_positive t, bits_at_most t, representation_below t v), tt);
    apart = (tt, tt);
    few = omega arith;
    short = omega (arith, bits_at_most t);
  };
  mentioned = λ c h. absurd (let e : true ≡ false = sym h ∙ nothing_fixed c (bits_of t) (representation t v) in cc);
}

constant_says : (n : Numbers) (t : IntType) (v : ℤ) → IfSome (constant_form t v) (HasFormNumber n (Int t) (int v))
constant_says n t v =
    sym (ap (λ x. x % 2 ^ bits_of t) (alone (representation t v) (2 ^ bits_of t))
    ∙ mod-eq_of_lt (representation_below t v))
  where
    alone : (r m : ℕ) → r + m * 0 ≡ r
    alone r m = omega arith

-- ---- the form of what is converted

module _ {N : Type 0} (cs : List (Cell N)) (r t : IntType) where
  -- to a type of the same width
  same_fits : (f : List Segment) → bits_of t ≡ bits_of r → IsFormRead cs (Int r) false f → IsFormRead cs (Int t) false f
  same_fits f e h = record { sure = refl; wide = e ∙ h.wide; form = h.form; mentioned = h.mentioned }

  same_says : (n : Numbers) (u : ℤ) (f : List Segment) → bits_of t ≡ bits_of r → HasFormNumber n (Int r) (int u) f
      → HasFormNumber n (Int t) (int (wrapped t u)) f
  same_says n u f e h = wrapped_bits t u ∙ subst (λ w. residue (2 ^ w) u ≡ form_number n f % 2 ^ w) (sym e) h

  -- to a narrower one
  narrow_fits : (f : List Segment) → bits_of t < bits_of r → IsFormRead cs (Int r) false f
      → IsFormRead cs (Int t) false (normal (part_of 0 (bits_of t) (bits f)))
  narrow_fits f l h =
      let w = h.wide in
      let s = slice_is f 0 (bits_of t) h.form (omega arith) (omega (arith, w, l)) in record {
        sure = refl;
        wide = (let e = s.wide in
            let g : bits_of t ≡ width (normal (part_of 0 (bits_of t) (bits f))) = omega (arith, e) in g);
        form = s.form;
        mentioned = λ c m. h.mentioned c (s.mentioned c m);
      }

  narrow_number : (n : Numbers) (f : List Segment) → bits_of t < bits_of r → IsFormRead cs (Int r) false f
      → form_number n (normal (part_of 0 (bits_of t) (bits f))) ≡ form_number n f % 2 ^ bits_of t
  narrow_number n f l h =
      let w = h.wide in
      let s = slice_is f 0 (bits_of t) h.form (omega arith) (omega (arith, w, l)) in
      s.numbers n ∙ (ap (λ x. x % 2 ^ (bits_of t - 0)) (div-one (form_number n f))
      ∙ ap (λ k. form_number n f % 2 ^ k) (let e : bits_of t - 0 ≡ bits_of t = omega arith in e))

  narrow_says : (n : Numbers) (u : ℤ) (f : List Segment) → bits_of t < bits_of r → IsFormRead cs (Int r) false f
      → HasFormNumber n (Int r) (int u) f
      → HasFormNumber n (Int t) (int (wrapped t u)) (normal (part_of 0 (bits_of t) (bits f)))
  narrow_says n u f l h g =
      let j = bits_of r - bits_of t in
      let e : bits_of r ≡ j + bits_of t = omega (arith, l) in
      let q : residue (2 ^ (j + bits_of t)) u ≡ form_number n f % 2 ^ (j + bits_of t) =
      subst (λ w. residue (2 ^ w) u ≡ form_number n f % 2 ^ w) e g in
      wrapped_bits t u
      ∙ (sym (residue-split j (bits_of t) u)
      ∙ (ap (λ x. x % 2 ^ bits_of t) q
      ∙ (mod-mod-pow (form_number n f) j (bits_of t)
      ∙ (sym (mod-mod (form_number n f) (2 ^ bits_of t))
      ∙ sym (ap (λ x. x % 2 ^ bits_of t) (narrow_number n f l h))))))

  -- to a wider one
  extended_length : (f : List Segment) → bits_of r < bits_of t → IsFormRead cs (Int r) false f
      → length (extended (bits_of t) (bits f)) ≡ bits_of t
  extended_length f l h =
      let k = form_length cs r f h in
      length-append (bits f) (zeros (bits_of t - length (bits f)))
      ∙ omega (arith, length-zeros (bits_of t - length (bits f)), k, l)

  extended_fits : (f : List Segment) → bits_of r < bits_of t → IsFormRead cs (Int r) false f
      → IfSome (form_of (extended (bits_of t) (bits f))) (IsFormRead cs (Int t) false)
  extended_fits f l h =
      bits_fit_form cs t (extended (bits_of t) (bits f))
      (good_append cs (bits f) (zeros (bits_of t - length (bits f))) (good_form cs r f h)
      (good_zeros cs (bits_of t - length (bits f)))) (extended_length f l h)

  extended_says : (n : Numbers) (u : ℤ) (f : List Segment) → bits_of r < bits_of t → InRange r u
      → int_le (pos 0) u ≡ true
      → IsFormRead cs (Int r) false f → HasFormNumber n (Int r) (int u) f
      → IfSome (form_of (extended (bits_of t) (bits f))) (HasFormNumber n (Int t) (int (wrapped t u)))
  extended_says n u f l i p h g =
      bits_say cs n t (wrapped t u) (extended (bits_of t) (bits f))
      (good_append cs (bits f) (zeros (bits_of t - length (bits f))) (good_form cs r f h)
      (good_zeros cs (bits_of t - length (bits f)))) (extended_length f l h)
      (wrapped_bits t u
      ∙ (wider_bits r t u i p
      ∙ ap (λ x. x % 2 ^ bits_of t)
      (g ∙ (ap (λ x. x % 2 ^ bits_of r) (number_is cs n r f h)
      ∙ (mod-eq_of_lt (form_below cs n r f h) ∙ sym (number-extended n (bits_of t) (bits f)))))))

  least_zero : (r : IntType) → not (is_signed r) ≡ true → least_of r ≡ pos 0
  least_zero I8 e = absurd cc
  least_zero U8 e = refl
  least_zero I16 e = absurd cc
  least_zero U16 e = refl
  least_zero I32 e = absurd cc
  least_zero U32 e = refl
  least_zero I64 e = absurd cc
  least_zero U64 e = refl

  not_negative : (u lo : ℤ) → InRange r u → (int_le (pos 0) lo ≡ true → int_le (pos 0) u ≡ true)
      → (not (is_signed r) || int_le (pos 0) lo) ≡ true → int_le (pos 0) u ≡ true
  not_negative u lo i h e =
      ⊎_elim (λ a. (let l = i.low in subst (λ z. int_le z u ≡ true) (least_zero r a) (le_test (least_of r) u l))) h
      (or_cases (not (is_signed r)) (int_le (pos 0) lo) e)

  by_widths : (P : Form → Type 0) (lo : ℤ) (f : List Segment)
      → (bits_of t ≡ bits_of r → P (Some f))
      → (bits_of t < bits_of r → P (Some (normal (part_of 0 (bits_of t) (bits f)))))
      → (bits_of r < bits_of t → (not (is_signed r) || int_le (pos 0) lo) ≡ true
      → P (form_of (extended (bits_of t) (bits f))))
      → P None → P (converted_form r t lo f)
  by_widths P lo f same less more none =
      by (nat_eq (bits_of t) (bits_of r)) (nat_lt (bits_of t) (bits_of r))
      (not (is_signed r) || int_le (pos 0) lo) refl refl refl
    where
      by : (a b c : Bool) → nat_eq (bits_of t) (bits_of r) ≡ a → nat_lt (bits_of t) (bits_of r) ≡ b
          → (not (is_signed r) || int_le (pos 0) lo) ≡ c
          → P (cond a (Some f) (cond b (Some (normal (part_of 0 (bits_of t) (bits f))))
          (cond c (form_of (extended (bits_of t) (bits f))) None)))
      by true b c e g h = same (eqb-true (bits_of t) (bits_of r) e)
      by false true c e g h = less (ltb-true (bits_of t) (bits_of r) g)
      by false false true e g h = more
          (omega (arith, eqb-false (bits_of t) (bits_of r) e, ltb-false (bits_of t) (bits_of r) g)) h
      by false false false e g h = none

  converted_fits : (lo : ℤ) (f : List Segment) → IsFormRead cs (Int r) false f
      → IfSome (converted_form r t lo f) (IsFormRead cs (Int t) false)
  converted_fits lo f h =
      by_widths (λ g. IfSome g (IsFormRead cs (Int t) false)) lo f (λ e. same_fits f e h) (λ l. narrow_fits f l h)
      (λ l _. extended_fits f l h) tt

  converted_says : (n : Numbers) (u lo : ℤ) (f : List Segment) → InRange r u
      → (int_le (pos 0) lo ≡ true → int_le (pos 0) u ≡ true) → IsFormRead cs (Int r) false f
      → HasFormNumber n (Int r) (int u) f
      → IfSome (converted_form r t lo f) (HasFormNumber n (Int t) (int (wrapped t u)))
  converted_says n u lo f i p h g =
      by_widths (λ x. IfSome x (HasFormNumber n (Int t) (int (wrapped t u)))) lo f (λ e. same_says n u f e g)
      (λ l. narrow_says n u f l h g) (λ l q. extended_says n u f l i (not_negative u lo i p q) h g) tt

module _ {N : Type 0} (D : Ops N) (law : Lawful D) (p : Program) (ord : Side → Order) where
  -- ---- constants

  module _ (t : IntType) (v : ℤ) (i : InRange t v) (f : Side → Machine) (finds : (s : Side) (m : Memory)
      → f s m ≡ has (int v)) where
    abbrev known : SideValue N
    known = record { value = Some (Num (D.single v)); form = constant_form t v }

    constant_holds : (k : Known N) (m : Memories) (mode : Mode)
        → Holds D p ord (Int t) (λ s. f s (memory_of s m)) k m mode (constant_given D t v mode)
    constant_holds k m mode = record {
      held = λ rel s r u e.
          subst (λ x. SideIn D (numbers_of k.orders m) (Int t) x u) (sym (on_running mode s (λ s. known) true r))
          (subst (λ z. SideIn D (numbers_of k.orders m) (Int t) known z)
          (has_one (int v) u (sym (finds s (memory_of s m)) ∙ e))
          (record {
            value = (i, law.single_holds v (in_range_some_type t v i));
            form = constant_says
                (numbers_of k.orders m) t v;
          }));
      found = λ none s r. (int v, finds s (memory_of s m));
      same = λ b none e x y a c.
          has_one x y (sym a ∙ (finds left (memory_of left m) ∙ (sym (finds right (memory_of right m)) ∙ c)));
    }

    pub constant_sound : Sound D p ord (Int t) f (plain D (λ m k. constant_given D t v m))
    constant_sound =
        plain_sound D law p ord (Int t) f (λ m k. constant_given D t v m) (λ k m kept mode. constant_holds k m mode)
        (λ k st mode s. pair_fits D law p ord k (Int t) mode (λ s. known) true
        (λ s. record { sort = tt; rising = tt; form = constant_fits k.cells t v }) s)

  -- ---- conversions

  module _ (r t : IntType) where
    abbrev go : Datum → Found
    go u = with_number (has u) (λ z. has (int (wrapped t z)))

    abbrev machine : (Side → Machine) → Side → Machine
    machine f s m = with_number (f s m) (λ z. has (int (wrapped t z)))

    value_held : (o : Option (Value N)) (z : ℤ) → (i : IsNum D r o z)
        → Allows D (Int t) (option_map (λ n. Num (D.convert n t)) (number_in o)) false (Some (int (wrapped t z)))
    value_held o z i = rw i.is (wrapped_in_range t z, law.convert_holds i.number t z i.holds)

    low_end : (n : N) (z : ℤ) → HoldsNumber D n z → int_le (pos 0) (D.range n).0 ≡ true → int_le (pos 0) z ≡ true
    low_end n z h e =
        le_test (pos 0) z (le_trans (pos 0) (D.range n).0 z (le_fact (pos 0) (D.range n).0 e)
        (law.range_encloses n z h).low)

    form_held : (cs : List (Cell N)) (n : Numbers) (o : Option (Value N)) (f : Form) (z : ℤ) → (i : IsNum D r o z)
        → IfSome f (IsFormRead cs (Int r) false) → IfSome f (HasFormNumber n (Int r) (int z))
        → IfSome (convert_form D (Some r) t (number_in o) f) (HasFormNumber n (Int t) (int (wrapped t z)))
    form_held cs n o None z i h g = rw i.is tt
    form_held cs n o (Some f) z i h g =
        rw i.is (converted_says cs r t n z (D.range i.number).0 f i.range (low_end i.number z i.holds) h g)

    form_fits : (cs : List (Cell N)) (o : Option N) (f : Form) → IfSome f (IsFormRead cs (Int r) false)
        → IfSome (convert_form D (Some r) t o f) (IsFormRead cs (Int t) false)
    form_fits cs None f h = tt
    form_fits cs (Some n) None h = tt
    form_fits cs (Some n) (Some f) h = converted_fits cs r t (D.range n).0 f h

    convert_held : (n : Numbers) (k : Known N) (x : SideValue N) (u w : Datum) → SideFits D p ord k (Int r) x
        → SideIn D n (Int r) x u → go u ≡ has w → SideIn D n (Int t) (convert_side D (Some r) t x) w
    convert_held n k x u w fx h e =
        let i = is_int D r x.value u h.value in
        let q : has (int (wrapped t i.z)) ≡ has w = sym (ap go i.datum) ∙ e in
        let g = subst (λ d. IfSome x.form (HasFormNumber n (Int r) d)) i.datum h.form in
        subst (λ d. SideIn D n (Int t) (convert_side D (Some r) t x) d) (has_one (int (wrapped t i.z)) w q) (record {
          value = value_held x.value i.z i.num;
          form = form_held k.cells n x.value x.form i.z i.num fx.form g;
        })

    convert_found : (n : Numbers) (x : SideValue N) (u : Datum) → SideIn D n (Int r) x u → (w : Datum) × (go u ≡ has w)
    convert_found n x u h = let i = is_int D r x.value u h.value in (int (wrapped t i.z), ap go i.datum)

    num_sort : (a : Option N) → IsOfSort (Int t) (option_map (λ n. Num (D.convert n t)) a)
    num_sort None = tt
    num_sort (Some c) = tt

    num_rising : (a : Option N) → HasRisingBlocks (option_map (λ n. Num (D.convert n t)) a)
    num_rising None = tt
    num_rising (Some c) = tt

    operator : OperatorOf D law p ord (Int t) (Int r) go (convert_side D (Some r) t) (λ x. Unit {0})
    operator = record {
      held = λ n k x u w _ fx h e. convert_held n k x u w fx h e;
      found = λ n k x u _ _ h _. convert_found n x u h;
      fits = λ k x h. record {
        sort = num_sort (number D x);
        rising = num_rising (number D x);
        form = form_fits k.cells (number D x) x.form h.form;
      };
    }

    part_of_it : (x : Found) (w : Datum) → with_number x (λ z. has (int (wrapped t z))) ≡ has w → Part x go w
    part_of_it x w e = let a = number_found x (λ z. has (int (wrapped t z))) w e in
        record { u = int a.0; first = a.1; is = a.2 }

    is_operator : (f : Side → Machine) → IsOperatorOf D law p ord (Int r) go f (machine f)
    is_operator f = record { part = λ s m w e. part_of_it (f s m) w e; whole_is = λ s m u _ e. rw e refl }

    -- ---- the cell: it has every number of the cell's type

    in_wider : (w : IntType) (z : ℤ) → has_range t (Int w) ≡ true → InRange w z → InRange t z
    in_wider w z e i =
        let q = and_parts (int_le (least_of t) (least_of w)) (int_le (greatest_of w) (greatest_of t)) e in record {
          low = le_trans (least_of t) (least_of w) z (le_fact (least_of t) (least_of w) q.0) i.low;
          high = le_trans z (greatest_of w) (greatest_of t) i.high (le_fact (greatest_of w) (greatest_of t) q.1);
        }

    in_range : (w : Scalar) (o : Option (Value N)) (z : ℤ) → has_range t w ≡ true → Allows D w o false (Some (int z))
        → InRange t z
    in_range (Int w) None z e a = absurd (let q : Some (int z) ≡ None = a in cc)
    in_range (Int w) (Some (Num n)) z e a = in_wider w z e a.0
    in_range (Int w) (Some (Ptr q)) z e a = absurd a
    in_range Pointer o z e a = absurd (let q : false ≡ true = e in cc)

    kept_cell : (k : Known N) (m : Memories) (c : Option (Cell N)) (z : ℤ)
        → IfSome c (λ x. IsOfCell D p ord k m x (int z))
        → IfSome (if_kept t c) (λ x. IsOfCell D p ord k m x (int (wrapped t z)))
    kept_cell k m None z h = tt
    kept_cell k m (Some c) z h = by (has_range t c.what) refl
      where
        by : (b : Bool) → has_range t c.what ≡ b
            → IfSome (cond b (Some c) None) (λ x. IsOfCell D p ord k m x (int (wrapped t z)))
        by false e = tt
        by true e =
            subst (λ y. IsOfCell D p ord k m c (int y))
            (sym (wrapped_same t z (in_range c.what c.value z e h.allowed))) h

    there_cell : (cs : List (Cell N)) (c : Option (Cell N)) → IfSome c (λ x. IsIn x cs)
        → IfSome (if_kept t c) (λ x. IsIn x cs)
    there_cell cs None h = tt
    there_cell cs (Some c) h = by (has_range t c.what)
      where
        by : (b : Bool) → IfSome (cond b (Some c) None) (λ x. IsIn x cs)
        by false = tt
        by true = h

    pub convert_sound : (f : Side → Machine) (a : Means N) → Typed p (Int r) f → Sound D p ord (Int r) f a
        → Sound D p ord (Int t) (machine f) (convert_means D (Some r) t a)
    convert_sound f a tf sa =
        any_sound D law p ord (Int t) (machine f) (λ m k. convert_given D (Some r) t m (a.gives m k))
        (λ s k. if_kept t (a.cell s k))
        (λ k m kept mode.
        one_holds D law p ord (Int t) (Int r) go (convert_side D (Some r) t) (λ x. Unit {0}) f (machine f) operator
        (is_operator f) tf
        k m kept mode (a.gives mode k) (a.gives mode k).faults
        (record { none = λ e. e; quiet = λ e s r. tt; sure = λ e. e })
        (sa.gives k m kept mode) (sa.fits k kept.state mode))
        (λ k st mode s.
        one_fits D law p ord (Int t) (Int r) go (convert_side D (Some r) t) (λ x. Unit {0}) operator k mode
        (a.gives mode k)
        (a.gives mode k).faults (sa.fits k st mode) s)
        (λ k m kept s v e.
        let q = part_of_it (f s (memory_of s m)) v e in
        let z = number_found (f s (memory_of s m)) (λ z. has (int (wrapped t z))) v e in
        subst (λ d. IfSome (if_kept t (a.cell s k)) (λ x. IsOfCell D p ord k m x d))
        (has_one (int (wrapped t z.0)) v z.2)
        (kept_cell k m (a.cell s k) z.0 (sa.cell k m kept s (int z.0) z.1)))
        (λ k st s. there_cell k.cells (a.cell s k) (sa.there k st s))
