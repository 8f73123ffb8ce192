-- An expression whose bytes the text tells has a number without a fault, and the form of these bytes.
use Rattle.std.proofs.Common.{◌≡◌, ℕ, ◌+◌, ◌≤◌, ◌<◌, ℤ, pos, ◌≤ℤ◌, Bool, true, false, ◌&&◌, ◌||◌, not, cond, nat_le}
use Rattle.std.proofs.Common.{nat_eq, List, [], ◌∷◌, ◌++◌, length, take, slice_get, Option, Some, None, Result, Ok, Err}
use Rattle.std.proofs.Common.{IfSome, refl, sym, ap, ◌∙◌, subst, arith, length-append}
use Rattle.std.specs.Prelude.{int_le}
use Rattle.std.specs.Option.{option_map}
use Rattle.std.proofs.lemmas.Int.{ints}
use Rattle.std.proofs.lemmas.Bool.{and_parts}
use Rattle.std.proofs.lemmas.List.{length-take-le}
use Rattle.ep_int.specs.declared.types.IntType.{IntType}
use Rattle.ep_int.specs.declared.types.IntType.TheVariants.{I8, U8, I16, U16, I32, U32, I64, U64}
use Rattle.ep_int.specs.declared.types.BinOp.{BinOp}
use Rattle.ep_int.specs.declared.types.BinOp.TheVariants.{Add, Sub, Mul, Div, Rem, And, Or, Xor, Shl, Shr}
use Rattle.ep_int.specs.declared.types.Order.{Order}
use Rattle.ep_int.specs.declared.types.Scalar.{Scalar}
use Rattle.ep_int.specs.declared.types.Scalar.TheVariants.{Int, Pointer}
use Rattle.ep_int.specs.Types.{bytes_of, bits_of, is_signed, greatest_of, wrapped}
use Rattle.ep_int.specs.Arith.{is_in_range}
use Rattle.ep_int.specs.Memory.{Value as Datum, int, pointer, has, with_place, loaded}
use Rattle.ep_int.proofs.Arithmetic.{in_range_some_type, in_range_from_true, le_test, le_fact}
use Rattle.ep_int.proofs.Basics.{some-injective}
use Rattle.ep_bitslice.specs.Segments.{normal}
use Rattle.ep_range_laws.specs.Ranges.{Encloses}
use Rattle.ep_range_laws.specs.Faults.{is_shift}
use Rattle.ep_domain.specs.Domain.{Ops, Lawful, Holds, IsSingle}
use Rattle.ep_cells.specs.declared.cell.Value.{Value}
use Rattle.ep_cells.specs.declared.cell.Value.TheVariants.{Num}
use Rattle.ep_cells.specs.States.{Known}
use Rattle.ep_cells.specs.Meaning.{Memories}
use Rattle.ep_core.specs.Program.{Place, Expr, const, null_value, load, addr_of, binary, convert, compare, ptr_compare}
use Rattle.ep_core.specs.Program.{logical_and, logical_or, logical_not, conditional, ptr_add, cast, Program}
use Rattle.ep_core.specs.Exec.{value, address, with_number, size_at}
use Rattle.ep_core.specs.Runs.{Side}
use Rattle.ep_core.specs.WellFormed.{Sort, integer, is_integer, is_same_type, has_scalar, sort_of, is_sort, place_has, has_sort}
use Rattle.ep_core.specs.WellFormed.{is_int, int_type_of, right_type, blocks_fit}
use Rattle.ep_core.proofs.Sorts.{three, same_type, int_where, type_where, loaded_scalar}
use Rattle.ep_equalities.specs.declared.pair.Mode.{Mode}
use Rattle.ep_equalities.specs.declared.pair.Fault.{Fault}
use Rattle.ep_equalities.specs.declared.pair.SideValue.{SideValue}
use Rattle.ep_evaluation.specs.Given.{Given, runs, on, pair_on, shows_if, faults_on}
use Rattle.ep_evaluation.specs.Operators.{Form, kind_of, number_in, outcome_of, constant_form, converted_form, form_by}
use Rattle.ep_evaluation.specs.Evaluation.{number, same, outcome, form_of_numbers, form_if, binary_side, binary_shown}
use Rattle.ep_evaluation.specs.Evaluation.{convert_form, convert_side, load_given, expression, place}
use Rattle.ep_evaluation.specs.Laws.{memory_of, sizes_of}
use Rattle.ep_evaluation.proofs.Basics.{faults_on-none}
use Rattle.ep_evaluation.proofs.General.{on_running, reliable_none, number_found, IsNum, is_int as int_of}
use Rattle.ep_evaluation.proofs.LoadSound.{place_found}
use Rattle.ep_evaluation.proofs.Gathered.{evaluation_laws}
use Rattle.ep_movers.specs.declared.Stop.{Stop}
use Rattle.ep_movers.specs.Symbols.{Symbol, fixed_bytes, zeros, goes_on, resized, is_mask, operated}
use Rattle.ep_movers.specs.Forms.{constant, is_byte_amount, is_moved_place, is_operated_in, is_moving_op, is_small}
use Rattle.ep_movers.specs.Forms.{has_small_type, may_convert, is_moving}
use Rattle.ep_movers.specs.Movers.{Machine, bytes_in, loaded_bytes, place_of, symbols}
use Rattle.ep_mover_bits.specs.Laws.{Inputs, bits_of_bytes, HasBytes}
use Rattle.ep_mover_bits.proofs.Operators.{length_fixed, bytes_most}
use Rattle.ep_mover_bits.proofs.Forms.{forms_follow}
use Rattle.ep_mover_cells.proofs.Loaded.{ok_same, went_on}
use Rattle.ep_mover_values.specs.Naturals.{IsNatural, KeepsNaturals}
use Rattle.ep_mover_values.specs.Laws.{IsOfBytes, GivesBytes, IsAt, IsMoving, ArePlacesUnsigned, AreSinglesFixed}
use Rattle.ep_mover_values.specs.Laws.{ExpressionsGiveBytes}
use Rattle.ep_mover_values.proofs.Constants.{mapped_some, IsConstant, constant_given_is}
use Rattle.ep_mover_values.proofs.Places.{some_runs, no_faults, address_is, place_is_at}
use Rattle.ep_mover_values.proofs.Loads.{num_same, load_gives}
use Rattle.ep_mover_values.proofs.Bits.{no_fault, some_form, Operands, Follows, form_follows}

-- the bytes, where there are some
abbrev pub list_of : Result (List Symbol) Stop → List Symbol
list_of (Ok xs) = xs
list_of (Err e) = []

pub ok_list : (r : Result (List Symbol) Stop) (xs : List Symbol) → r ≡ Ok xs → r ≡ Ok (list_of r)
ok_list (Ok ys) xs e = refl
ok_list (Err s) xs e = absurd (let d : Err s ≡ Ok xs = e in cc)

-- ---- lengths and types

length_resized : (t : IntType) (xs : List Symbol) → length (resized t xs) ≡ bytes_of t
length_resized t xs =
    length-take-le (bytes_of t) (xs ++ zeros 8)
    (omega (arith, length-append xs (zeros 8), length_fixed (pos 0) 0 8, bytes_most t))

same_int : (t u : IntType) → is_integer (integer t) u ≡ true → t ≡ u
same_int t u h = same_type t u h

small_by : (t : IntType) → is_small t ≡ true → greatest_of t ≤ℤ greatest_of I32
small_by I8 h = absurd (cc)
small_by U8 h = omega (arith, ints)
small_by I16 h = absurd (cc)
small_by U16 h = omega (arith, ints)
small_by I32 h = absurd (cc)
small_by U32 h = absurd (cc)
small_by I64 h = absurd (cc)
small_by U64 h = absurd (cc)

-- a number of U8 or U16 by its text has that type
small_type : (e : Expr) (r : IntType) → int_type_of e ≡ Some r → has_small_type e ≡ true → is_small r ≡ true
small_type (const t v) r i h = subst (λ u. is_small u ≡ true) (some-injective i) h
small_type null_value r i h = absurd (cc)
small_type (load (Int t) a) r i h = subst (λ u. is_small u ≡ true) (some-injective i) h
small_type (load Pointer a) r i h = absurd (cc)
small_type (addr_of a) r i h = absurd (cc)
small_type (binary op t a b) r i h = subst (λ u. is_small u ≡ true) (some-injective i) h
small_type (convert t e) r i h = subst (λ u. is_small u ≡ true) (some-injective i) h
small_type (compare c t a b) r i h = absurd (cc)
small_type (ptr_compare c a b) r i h = absurd (cc)
small_type (logical_and a b) r i h = absurd (cc)
small_type (logical_or a b) r i h = absurd (cc)
small_type (logical_not e) r i h = absurd (cc)
small_type (conditional e a b) r i h = absurd (cc)
small_type (ptr_add e unit n back) r i h = absurd (cc)
small_type (cast e) r i h = absurd (cc)

-- operators other than shifts have operands of their type
right_is : (op : BinOp) (u r : IntType) (own : Option IntType) → right_type op u own ≡ Some r → is_shift op ≡ false
    → r ≡ u
right_is Add u r own e h = sym (some-injective e)
right_is Sub u r own e h = sym (some-injective e)
right_is Mul u r own e h = sym (some-injective e)
right_is Div u r own e h = sym (some-injective e)
right_is Rem u r own e h = sym (some-injective e)
right_is And u r own e h = sym (some-injective e)
right_is Or u r own e h = sym (some-injective e)
right_is Xor u r own e h = sym (some-injective e)
right_is Shl u r own e h = absurd (cc)
right_is Shr u r own e h = absurd (cc)

unsigned_by : (t : IntType) → is_operated_in t ≡ true → is_signed t ≡ false
unsigned_by I8 h = absurd (cc)
unsigned_by U8 h = absurd (cc)
unsigned_by I16 h = absurd (cc)
unsigned_by U16 h = absurd (cc)
unsigned_by I32 h = absurd (cc)
unsigned_by U32 h = refl
unsigned_by I64 h = absurd (cc)
unsigned_by U64 h = refl

op_unsigned : (op : BinOp) (t : IntType) (u v : Option ℤ) → is_moving_op op t u v ≡ true → is_signed t ≡ false
op_unsigned Add t u v h = unsigned_by t h
op_unsigned Sub t u v h = absurd (cc)
op_unsigned Mul t u v h = absurd (cc)
op_unsigned Div t u v h = absurd (cc)
op_unsigned Rem t u v h = absurd (cc)
op_unsigned And t u v h = unsigned_by t (and_parts (is_operated_in t) (is_mask v || is_mask u) h).0
op_unsigned Or t u v h = unsigned_by t h
op_unsigned Xor t u v h = unsigned_by t h
op_unsigned Shl t u v h = unsigned_by t (and_parts (is_operated_in t) (is_byte_amount t v) h).0
op_unsigned Shr t u v h = unsigned_by t (and_parts (is_operated_in t) (is_byte_amount t v) h).0

module _ {N : Type 0} (D : Ops N) (law : Lawful D) (keeps : KeepsNaturals D) where
  -- ---- one side of an operator

  module _ (op : BinOp) (u : IntType) (x y : SideValue N) (a b : N) (va : x.value ≡ Some (Num a))
      (vb : y.value ≡ Some (Num b)) where
    outcome_is : outcome D op u x y ≡ D.op op u a b
    outcome_is =
        ap (λ v. outcome_of D op u (number_in v) (number D y)) va
        ∙ ap (λ v. outcome_of D op u (Some a) (number_in v)) vb

    forms_are : form_of_numbers D op u x.form (number D x) y.form (number D y)
        ≡ form_by op u x.form (D.range a) y.form (D.range b)
    forms_are =
        ap (λ v. form_of_numbers D op u x.form (number_in v) y.form (number D y)) va
        ∙ ap (λ v. form_of_numbers D op u x.form (Some a) y.form (number_in v)) vb

    shown_none : (D.op op u a b).fault ≡ false → binary_shown D op u x y ≡ None
    shown_none f =
        ap (λ o. shows_if o.fault o.shown) outcome_is ∙ ap (λ t. shows_if t (D.op op u a b).shown) f

    side_form : (c : N) → (outcome D op u x y).value ≡ Some c
        → (binary_side D op u x y).form ≡ form_by op u x.form (D.range a) y.form (D.range b)
    side_form c e =
        ap (λ v. form_if D v (form_of_numbers D op u x.form (number D x) y.form (number D y))) e ∙ forms_are

    side_natural : (c : N) → (outcome D op u x y).value ≡ Some c → is_signed u ≡ false → IsNatural D u c
    side_natural c e s =
        subst (λ o. IfSome o (IsNatural D u)) (sym (ap (λ o. o.value) outcome_is) ∙ e) (keeps.op op u a b s)

  -- ---- one side of a conversion

  converted_natural : (t : IntType) (e : Expr) (r : IntType) (n : N) (z : ℤ) → int_type_of e ≡ Some r
      → may_convert t e ≡ true → IsNatural D r n → Holds D (D.convert n t) z → IsNatural D t (D.convert n t)
  converted_natural I8 e r n z i h l o = absurd (cc)
  converted_natural U8 e r n z i h l o = keeps.converted U8 n z o refl
  converted_natural I16 e r n z i h l o = absurd (cc)
  converted_natural U16 e r n z i h l o = keeps.converted U16 n z o refl
  converted_natural I32 e r n z i h l o =
      let s : greatest_of r ≤ℤ greatest_of I32 = small_by r (small_type e r i h) in
      keeps.fits I32 n z o (record { low = l.low; high = omega (arith, ints, l.high, s) })
  converted_natural U32 e r n z i h l o = keeps.converted U32 n z o refl
  converted_natural I64 e r n z i h l o = absurd (cc)
  converted_natural U64 e r n z i h l o = keeps.converted U64 n z o refl

  not_negative : (s : Bool) (v : ℤ) → pos 0 ≤ℤ v → (not s || int_le (pos 0) v) ≡ true
  not_negative true v l = le_test (pos 0) v l
  not_negative false v l = refl

  converted_bytes : (base : Inputs) (o : Option IntType) (r t : IntType) (x : SideValue N) (ys : List Symbol)
      → o ≡ Some r → IsOfBytes D base r x ys → HasBytes base (convert_side D o t x).form (resized t ys)
  converted_bytes base o r t x ys e i =
      let f : x.form ≡ Some (normal (bits_of_bytes base ys)) = some_form base x.form ys i.form in
      let is : (convert_side D o t x).form
      ≡ converted_form r t (D.range i.n).0 (normal (bits_of_bytes base ys))
      = ap (λ o. convert_form D o t (number D x) x.form) e
      ∙ ap (λ v. convert_form D (Some r) t (number_in v) x.form) i.value
      ∙ ap (λ g. convert_form D (Some r) t (Some i.n) g) f in
      subst (λ g. HasBytes base g (resized t ys)) (sym is)
      ((forms_follow base).converted r t (D.range i.n).0 (normal (bits_of_bytes base ys)) ys
      (subst (λ g. HasBytes base g ys) f i.form) i.long
      (not_negative (is_signed r) (D.range i.n).0 i.natural.low))

  module _ (p : Program) (ord : Side → Order) (fit : blocks_fit p.types p.blocks ≡ true) (seen : List ℕ)
      (places : ArePlacesUnsigned D p ord seen) (base : Inputs) (ms : Side → Machine) (k : Known N) (m : Memories)
      (h : IsMoving D p ord base ms k m) (singles : AreSinglesFixed D p ord seen ms k) (mode : Mode) where
    abbrev gives : Expr → Given N
    gives e = (expression D (sizes_of p.blocks) e).gives mode k

    abbrev Said : Expr → (Side → List Symbol) → Type 0
    Said e xs = (s : Side) → runs mode s ≡ true → symbols (ord s) (ms s).memory e ≡ Ok (xs s)

    abbrev Finds : Expr → Type 0
    Finds e = (s : Side) → runs mode s ≡ true → (v : Datum) × (value (ord s) p e (memory_of s m) ≡ has v)

    abbrev bytes_of_side : Expr → Side → List Symbol
    bytes_of_side e s = list_of (symbols (ord s) (ms s).memory e)

    -- without a fault, a running side has a number, which the machine's is
    record HasNumber (e : Expr) (t : IntType) (s : Side) : Type 0 where
      z : ℤ
      num : IsNum D t (on (gives e).pair s).value z

    has_number : (e : Expr) (t : IntType) → has_sort p.types p.blocks seen e (integer t) ≡ true
        → (gives e).faults ≡ [] → Finds e → (s : Side) → runs mode s ≡ true → HasNumber e t s
    has_number e t typed quiet f s r =
        let sound = (evaluation_laws D law).expressions p ord fit seen e (integer t) typed in
        let held = (sound.gives k m h.kept mode).held (reliable_none mode (gives e).faults quiet) s r (f s r).0
        (f s r).1 in
        let i = int_of D t (on (gives e).pair s).value (f s r).0 held.value in
        record { z = i.z; num = i.num }

    -- ---- constants and loads

    const_gives : (u t : IntType) (v : ℤ) → int_le (pos 0) v ≡ true → has_sort p.types p.blocks seen (const u v) (integer t) ≡ true
        → (xs : Side → List Symbol) → Said (const u v) xs → GivesBytes D base t mode (gives (const u v)) xs
    const_gives u t v low typed xs said =
        let i = and_parts (is_integer (integer t) u) (is_in_range u v) typed in
        let e : u ≡ t = sym (same_int t u i.0) in
        let range = in_range_from_true u v i.1 in
        let zero = le_fact (pos 0) v low in
        let single = law.single_range v (in_range_some_type u v range) in
        let f : Side → SideValue N = λ s. record { value = Some (Num (D.single v)); form = constant_form u v } in
        subst (λ t. GivesBytes D base t mode (gives (const u v)) xs) e (record {
          quiet = refl;
          each = λ s r. subst (λ (y : SideValue N). IsOfBytes D base u y (xs s)) (sym (on_running mode s f true r))
              (subst (λ ys. IsOfBytes D base u (f s) ys) (ok_same _ (xs s) (said s r)) (record {
                n = D.single v;
                value = refl;
                natural = subst (λ (q : ℤ × ℤ). Encloses (pos 0, greatest_of u) q) (sym single)
                    (record { low = zero; high = range.high });
                form = (forms_follow base).constant u v;
                long = length_fixed v 0 (bytes_of u);
              }));
        })

    load_gives_bytes : (u t : IntType) (a : Place) → is_moved_place a ≡ true
        → has_sort p.types p.blocks seen (load (Int u) a) (integer t) ≡ true → (xs : Side → List Symbol)
        → Said (load (Int u) a) xs → Finds (load (Int u) a)
        → (b q : ℕ) → place_of a ≡ Ok (b, q) → GivesBytes D base t mode (gives (load (Int u) a)) xs
    load_gives_bytes u t a moved typed xs said f b q there =
        let w = type_where p.types p.blocks seen (λ y. has_scalar y (Int u) && is_sort (sort_of y) (integer t))
        (place_has p.types p.blocks seen a) typed in
        let i = and_parts (has_scalar (slice_get p.types.types w.0) (Int u)) _ w.1 in
        let s : Int u ≡ Int t = loaded_scalar (slice_get p.types.types w.0) (Int u) (integer t) w.1 in
        let e : u ≡ t = cc in
        let x = (place D (sizes_of p.blocks) a) mode k in
        let at : IsAt D mode x b q
        = place_is_at D law p ord fit seen k mode m h.kept a w.0 moved w.2 b q there
        (λ s r. let z = place_found (address (ord s) p a (memory_of s m))
        (λ b q. loaded (ord s) p.types.model (size_at (ord s) p b) (memory_of s m) (Int u) b q) (f s r).0 (f s r).1 in
        (pointer z.0 z.1, z.2)) in
        subst (λ t. GivesBytes D base t mode (gives (load (Int u) a)) xs) e
        (load_gives D law keeps p ord base ms k m h u (places a w.0 u moved w.2 i.0) b q mode x at xs
        (λ s r. sym (ap (λ v. goes_on v (λ (w : ℕ × ℕ).
        loaded_bytes (ord s) (bytes_in (ms s).memory w.0) w.1 (bytes_of u) 0 (bytes_of u))) there) ∙ said s r)
        (λ s r. let z = place_found (address (ord s) p a (memory_of s m))
        (λ b q. loaded (ord s) p.types.model (size_at (ord s) p b) (memory_of s m) (Int u) b q) (f s r).0 (f s r).1 in
        let y : pointer z.0 z.1 ≡ pointer b q = address_is p a moved b q there (ord s) (memory_of s m) (pointer z.0 z.1) z.2 in (
          (f s r).0,
          sym (ap (λ v. with_place v (λ b q.
              loaded (ord s) p.types.model (size_at (ord s) p b) (memory_of s m) (Int u) b q)) (z.2 ∙ ap has y)) ∙ (f s r).1,
        )))

    -- ---- operators

    module _ (op : BinOp) (u : IntType) (a b : Expr) where
      finds_left : Finds (binary op u a b) → Finds a
      finds_left f s r =
          let z = number_found (value (ord s) p a (memory_of s m)) _ (f s r).0 (f s r).1 in (int z.0, z.1)

      finds_right : Finds (binary op u a b) → Finds b
      finds_right f s r =
          let z = number_found (value (ord s) p a (memory_of s m)) _ (f s r).0 (f s r).1 in
          let y = number_found (value (ord s) p b (memory_of s m)) _ (f s r).0 z.2 in
          (int y.0, y.1)

      -- what both operands are said to have
      record AreSaid (s : Side) (zs : List Symbol) : Type 0 where
        left : symbols (ord s) (ms s).memory a ≡ Ok (bytes_of_side a s)
        right : symbols (ord s) (ms s).memory b ≡ Ok (bytes_of_side b s)
        both : operated op (constant a) (constant b) (bytes_of_side a s) (bytes_of_side b s) ≡ Ok zs

      are_said : (s : Side) (zs : List Symbol) → symbols (ord s) (ms s).memory (binary op u a b) ≡ Ok zs → AreSaid s zs
      are_said s zs e =
          let x = went_on (symbols (ord s) (ms s).memory a) _ zs e in
          let y = went_on (symbols (ord s) (ms s).memory b) _ zs x.2 in
          record {
            left = ok_list (symbols (ord s) (ms s).memory a) x.0 x.1;
            right = ok_list (symbols (ord s) (ms s).memory b) y.0 y.1;
            both = ap (λ ys. operated op (constant a) (constant b) ys (bytes_of_side b s)) (ap list_of x.1)
                ∙ ap (λ ys. operated op (constant a) (constant b) x.0 ys) (ap list_of y.1) ∙ y.2;
          }

      module _ (r t : IntType) (moving : is_moving_op op u (constant a) (constant b) ≡ true)
          (moves : is_moving a ≡ true) (moves_too : is_moving b ≡ true)
          (typed : has_sort p.types p.blocks seen (binary op u a b) (integer t) ≡ true)
          (left_typed : has_sort p.types p.blocks seen a (integer u) ≡ true)
          (right_typed : has_sort p.types p.blocks seen b (integer r) ≡ true)
          (own : right_type op u (int_type_of b) ≡ Some r) (xs : Side → List Symbol) (said : Said (binary op u a b) xs)
          (f : Finds (binary op u a b)) (ga : GivesBytes D base u mode (gives a) (bytes_of_side a))
          (gb : GivesBytes D base r mode (gives b) (bytes_of_side b)) where
        abbrev x : Given N
        x = gives a

        abbrev y : Given N
        y = gives b

        left_single : (s : Side) (i : runs mode s ≡ true) (z : ℤ) → constant a ≡ Some z → IsSingle D (ga.each s i).n z
        left_single s i z e =
            let o = (constant_given_is D law p seen mode k a z e (integer u) left_typed).each s i in
            subst (λ n. IsSingle D n z)
            (num_same D o.n (ga.each s i).n (sym o.value ∙ (ga.each s i).value)) o.single

        right_single : (s : Side) (i : runs mode s ≡ true) (z : ℤ) → constant b ≡ Some z → IsSingle D (gb.each s i).n z
        right_single s i z e =
            let o = (constant_given_is D law p seen mode k b z e (integer r) right_typed).each s i in
            subst (λ n. IsSingle D n z)
            (num_same D o.n (gb.each s i).n (sym o.value ∙ (gb.each s i).value)) o.single

        binary_quiet : (gives (binary op u a b)).faults ≡ []
        binary_quiet =
            no_faults x.faults (y.faults
            ++ faults_on mode (kind_of op) (λ s. binary_shown D op u (on x.pair s) (on y.pair s))) ga.quiet
            (no_faults y.faults (faults_on mode (kind_of op) (λ s. binary_shown D op u (on x.pair s) (on y.pair s)))
            gb.quiet
            (faults_on-none mode (kind_of op) (λ s. binary_shown D op u (on x.pair s) (on y.pair s))
            (λ s i. shown_none op u (on x.pair s) (on y.pair s) (ga.each s i).n (gb.each s i).n (ga.each s i).value
            (gb.each s i).value
            (no_fault D law op u (constant a) (constant b) (ga.each s i).n (gb.each s i).n moving
            (λ z e. right_single s i z e)))))

        operands : (s : Side) (i : runs mode s ≡ true)
            → Operands base u (on x.pair s).form (on y.pair s).form (D.range (ga.each s i).n)
            (D.range (gb.each s i).n) (constant a) (constant b) (bytes_of_side a s) (bytes_of_side b s)
        operands s i =
            let q = are_said s (xs s) (said s i) in
            let v = ga.each s i in
            let w = gb.each s i in
            record {
              left = v.form;
              right = w.form;
              wide = v.long;
              natural = v.natural.low;
              left_constant = λ z e. left_single s i z e;
              right_constant = λ z e. right_single s i z e;
              left_fixed = λ z e. singles a u moves left_typed mode ga.quiet s i (bytes_of_side a s) q.left v.n z v.value e;
              right_fixed = λ l z e. singles b r moves_too right_typed mode gb.quiet s i (bytes_of_side b s) q.right w.n z w.value e
                  ∙ ap (fixed_bytes z 0) (sym w.long ∙ l);
            }

        binary_each : (s : Side) (i : runs mode s ≡ true)
            → IsOfBytes D base u (binary_side D op u (on x.pair s) (on y.pair s)) (xs s)
        binary_each s i =
            let q = are_said s (xs s) (said s i) in
            let v = ga.each s i in
            let w = gb.each s i in
            let num = has_number (binary op u a b) t typed binary_quiet f s i in
            let e : option_map Num (outcome D op u (on x.pair s) (on y.pair s)).value ≡ Some (Num num.num.number)
            = sym (ap (λ (z : SideValue N). z.value)
            (on_running mode s (λ s. binary_side D op u (on x.pair s) (on y.pair s)) (same D x && same D y) i))
            ∙ num.num.is in
            let c = mapped_some Num (outcome D op u (on x.pair s) (on y.pair s)).value (Num num.num.number) e in
            let g = form_follows base u (on x.pair s).form (on y.pair s).form (D.range v.n) (D.range w.n) (constant a)
            (constant b) (bytes_of_side a s) (bytes_of_side b s) (operands s i) op (xs s) moving
            (λ n. w.long ∙ ap bytes_of (right_is op u r (int_type_of b) own n)) q.both in
            record {
              n = c.0;
              value = ap (option_map Num) c.1;
              natural = side_natural op u (on x.pair s) (on y.pair s) v.n w.n v.value w.value c.0 c.1
                  (op_unsigned op u (constant a) (constant b) moving);
              form = subst (λ g. HasBytes base g (xs s))
                  (sym (side_form op u (on x.pair s) (on y.pair s) v.n w.n v.value w.value c.0 c.1)) g.form;
              long = g.wide;
            }

        binary_gives : GivesBytes D base u mode (gives (binary op u a b)) xs
        binary_gives = record {
          quiet = binary_quiet;
          each = λ s i. subst (λ (z : SideValue N). IsOfBytes D base u z (xs s))
              (sym (on_running mode s (λ s. binary_side D op u (on x.pair s) (on y.pair s)) (same D x && same D y) i))
              (binary_each s i);
        }

    -- ---- conversions

    module _ (t : IntType) (e : Expr) (r : IntType) (may : may_convert t e ≡ true) (own : int_type_of e ≡ Some r)
        (typed : has_sort p.types p.blocks seen (convert t e) (integer t) ≡ true) (xs : Side → List Symbol)
        (said : Said (convert t e) xs) (f : Finds (convert t e)) where
      finds_operand : Finds e
      finds_operand s i =
          let z = number_found (value (ord s) p e (memory_of s m)) _ (f s i).0 (f s i).1 in (int z.0, z.1)

      said_operand : Said e (bytes_of_side e)
      said_operand s i =
          let y = went_on (symbols (ord s) (ms s).memory e) _ (xs s) (said s i) in
          ok_list (symbols (ord s) (ms s).memory e) y.0 y.1

      bytes_are : (s : Side) → runs mode s ≡ true → resized t (bytes_of_side e s) ≡ xs s
      bytes_are s i =
          let y = went_on (symbols (ord s) (ms s).memory e) _ (xs s) (said s i) in
          ap (resized t) (ap list_of y.1) ∙ ok_same (resized t y.0) (xs s) y.2

      module _ (g : GivesBytes D base r mode (gives e) (bytes_of_side e)) where
        convert_each : (s : Side) (i : runs mode s ≡ true)
            → IsOfBytes D base t (convert_side D (int_type_of e) t (on (gives e).pair s)) (resized t (bytes_of_side e s))
        convert_each s i =
            let v = g.each s i in
            let num = has_number (convert t e) t typed g.quiet f s i in
            let value_is : (convert_side D (int_type_of e) t (on (gives e).pair s)).value ≡ Some (Num (D.convert v.n t))
            = ap (λ w. option_map (λ n. Num (D.convert n t)) (number_in w)) v.value in
            let same_number : num.num.number ≡ D.convert v.n t
            = num_same D num.num.number (D.convert v.n t)
            (sym num.num.is
            ∙ ap (λ (z : SideValue N). z.value)
            (on_running mode s (λ s. convert_side D (int_type_of e) t (on (gives e).pair s)) (same D (gives e)) i)
            ∙ value_is) in
            record {
              n = D.convert v.n t;
              value = value_is;
              natural = converted_natural t e r v.n num.z own may v.natural
                  (subst (λ n. Holds D n num.z) same_number num.num.holds);
              form = converted_bytes base (int_type_of e) r t (on (gives e).pair s) (bytes_of_side e s) own v;
              long = length_resized t (bytes_of_side e s);
            }

        convert_gives : GivesBytes D base t mode (gives (convert t e)) xs
        convert_gives = record {
          quiet = g.quiet;
          each = λ s i. subst (λ ys. IsOfBytes D base t (on (gives (convert t e)).pair s) ys) (bytes_are s i)
              (subst (λ (z : SideValue N). IsOfBytes D base t z (resized t (bytes_of_side e s)))
              (sym (on_running mode s (λ s. convert_side D (int_type_of e) t (on (gives e).pair s))
              (same D (gives e)) i))
              (convert_each s i));
        }

    -- ---- all expressions

    pub values : (e : Expr) (t : IntType) → is_moving e ≡ true
        → has_sort p.types p.blocks seen e (integer t) ≡ true → (xs : Side → List Symbol) → Said e xs → Finds e
        → GivesBytes D base t mode (gives e) xs
    values (const u v) t h typed xs said f = const_gives u t v h typed xs said
    values (load (Int u) a) t h typed xs said f =
        let z = some_runs mode in
        let w = went_on (place_of a) (λ (w : ℕ × ℕ).
        loaded_bytes (ord z.0) (bytes_in (ms z.0).memory w.0) w.1 (bytes_of u) 0 (bytes_of u)) (xs z.0) (said z.0 z.1) in
        load_gives_bytes u t a h typed xs said f w.0.0 w.0.1 w.1
    values (binary op u a b) t h typed xs said f =
        let c = and_parts (is_moving_op op u (constant a) (constant b)) (is_moving a && is_moving b) h in
        let d = and_parts (is_moving a) (is_moving b) c.1 in
        let i = three (is_integer (integer t) u) (has_sort p.types p.blocks seen a (integer u))
        (is_int (right_type op u (int_type_of b)) (has_sort p.types p.blocks seen b)) typed in
        let r = int_where (right_type op u (int_type_of b)) (has_sort p.types p.blocks seen b) i.2 in
        subst (λ t. GivesBytes D base t mode (gives (binary op u a b)) xs) (sym (same_int t u i.0))
        (binary_gives op u a b r.0 t c.0 d.0 d.1 typed i.1 r.2 r.1 xs said f
        (values a u d.0 i.1 (bytes_of_side a) (λ s j. (are_said op u a b s (xs s) (said s j)).left)
        (finds_left op u a b f))
        (values b r.0 d.1 r.2 (bytes_of_side b) (λ s j. (are_said op u a b s (xs s) (said s j)).right)
        (finds_right op u a b f)))
    values (convert u e) t h typed xs said f =
        let c = and_parts (may_convert u e) (is_moving e) h in
        let i = and_parts (is_integer (integer t) u) (is_int (int_type_of e) (has_sort p.types p.blocks seen e)) typed in
        let r = int_where (int_type_of e) (has_sort p.types p.blocks seen e) i.1 in
        let q = same_int t u i.0 in
        let own_typed = subst (λ t. has_sort p.types p.blocks seen (convert u e) (integer t) ≡ true) q typed in
        subst (λ t. GivesBytes D base t mode (gives (convert u e)) xs) (sym q)
        (convert_gives u e r.0 c.0 r.1 own_typed xs said f
        (values e r.0 c.1 r.2 (bytes_of_side e) (said_operand u e r.0 c.0 r.1 own_typed xs said f)
        (finds_operand u e r.0 c.0 r.1 own_typed xs said f)))
    values null_value t h typed xs said f = absurd (cc)
    values (load Pointer a) t h typed xs said f = absurd (cc)
    values (addr_of a) t h typed xs said f = absurd (cc)
    values (compare c u a b) t h typed xs said f = absurd (cc)
    values (ptr_compare c a b) t h typed xs said f = absurd (cc)
    values (logical_and a b) t h typed xs said f = absurd (cc)
    values (logical_or a b) t h typed xs said f = absurd (cc)
    values (logical_not e) t h typed xs said f = absurd (cc)
    values (conditional e a b) t h typed xs said f = absurd (cc)
    values (ptr_add e unit n back) t h typed xs said f = absurd (cc)
    values (cast e) t h typed xs said f = absurd (cc)

pub expressions_give : {N : Type 0} (D : Ops N) → Lawful D → ExpressionsGiveBytes D
expressions_give D law keeps p ord fit seen places base ms k m h singles e t moving typed mode xs said f =
    values D law keeps p ord fit seen places base ms k m h singles mode e t moving typed xs said f
