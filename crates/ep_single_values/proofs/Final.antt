-- Every expression and every place has one value where a state stands for one pair of memories alone.
use Rattle.std.proofs.Common.{◌≡◌, ℕ, ℤ, pos, Bool, true, ◌&&◌, ◌||◌, List, Option, Some, ⊎_elim, refl, sym}
use Rattle.std.proofs.Common.{subst}
use Rattle.std.specs.Prelude.{nat_le}
use Rattle.std.proofs.lemmas.Bool.{and_parts, leb-true, or_cases}
use Rattle.ep_int.specs.declared.types.Order.{Order}
use Rattle.ep_int.specs.declared.types.BinOp.{BinOp}
use Rattle.ep_int.specs.declared.types.BinOp.TheVariants.{Add, Sub, Mul, Div, Rem, And, Or, Xor, Shl, Shr}
use Rattle.ep_int.specs.declared.types.Cmp.{Cmp}
use Rattle.ep_int.specs.declared.types.IntType.{IntType}
use Rattle.ep_int.specs.declared.types.IntType.TheVariants.{I32}
use Rattle.ep_int.specs.declared.types.Scalar.TheVariants.{Pointer}
use Rattle.ep_int.specs.Types.{InRange}
use Rattle.ep_int.specs.Arith.{is_in_range, IsRightOperand}
use Rattle.ep_int.proofs.Arithmetic.{in_range_some_type, in_range_from_true}
use Rattle.ep_layout.specs.Table.{size}
use Rattle.ep_domain.specs.Domain.{Ops, Lawful}
use Rattle.ep_pointers.specs.Value.{null_alone, one_target, only_null, only_place}
use Rattle.ep_cells.specs.States.{Known}
use Rattle.ep_core.specs.Program.{Place, block, deref, member, element, Expr, const, null_value, load, addr_of, binary}
use Rattle.ep_core.specs.Program.{convert, compare, ptr_compare, logical_and, logical_or, logical_not, conditional}
use Rattle.ep_core.specs.Program.{ptr_add, cast, Program}
use Rattle.ep_core.specs.Exec.{value, address}
use Rattle.ep_core.specs.Runs.{Side}
use Rattle.ep_core.specs.WellFormed.{Sort, integer, pointer_to, is_integer, is_pointer_where, is_pointer, has_scalar}
use Rattle.ep_core.specs.WellFormed.{is_sort, sort_of, int_type_of, is_test, has_sort, place_has, blocks_fit}
use Rattle.ep_core.specs.WellFormed.{is_length, is_int, right_type, is_number, some_type, is_array_of, has_bound}
use Rattle.ep_core.specs.WellFormed.{has_member}
use Rattle.ep_core.specs.Typed.{ValueFits, scalar_of}
use Rattle.ep_core.proofs.Sorts.{never, three, type_where, pointer_where, pointer_scalar, tested_where, int_where}
use Rattle.ep_core.proofs.Typing.{expr_fits, place_lies}
use Rattle.ep_equalities.specs.declared.pair.Mode.{Mode}
use Rattle.ep_evaluation.specs.Given.{Given}
use Rattle.ep_evaluation.specs.Evaluation.{Means, ToCell, no_cell, with_cell, load_cell, expression, place}
use Rattle.ep_evaluation.specs.Evaluation.{constant_given, pointer_given, same_given, load_given}
use Rattle.ep_evaluation.specs.Evaluation.{convert_means}
use Rattle.ep_evaluation.specs.Laws.{Machine, Sound, SoundPlace, sizes_of}
use Rattle.ep_evaluation.proofs.Assuming.{zero_type}
use Rattle.ep_evaluation.proofs.Final.{if_has}
use Rattle.ep_evaluation.proofs.Gathered.{evaluation_laws}
use Rattle.ep_singles.specs.Numbers.{KeepsSingles}
use Rattle.ep_singles.proofs.Settled.{reads_are_one}
use Rattle.ep_single_given.specs.Laws.{GivesOne}
use Rattle.ep_single_given.proofs.Given.{constants_give_one, pointers_give_one, sames_give_one}
use Rattle.ep_single_given.proofs.Loads.{loads_give_one}
use Rattle.ep_single_places.specs.MoveLaws.{IsUnit}
use Rattle.ep_single_sides.specs.Laws.{SidesAreOne}
use Rattle.ep_single_sides.proofs.Sides.{sides_are_one}
use Rattle.ep_single_states.proofs.Operators.{operators_keep_one}
use Rattle.ep_single_values.specs.Laws.{OneMeans, ValuesAreOne, PlacesAreOne}
use Rattle.ep_single_values.proofs.Given.{OneGives}
use Rattle.ep_single_values.proofs.Operands.{binary_one, convert_one, compare_one, pointers_one, not_one}
use Rattle.ep_single_values.proofs.Moves.{unit_of, sum_one, member_one, element_one}
use Rattle.ep_single_values.proofs.Assuming.{with_cell_one, compare_means_one, pointers_means_one, not_means_one}
use Rattle.ep_single_values.proofs.Idle.{expression_idle}
use Rattle.ep_single_values.proofs.Short.{and_means_one, or_means_one}
use Rattle.ep_single_values.proofs.Conditional.{chosen_one}

module _ {N : Type 0} (D : Ops N) (law : Lawful D) (sides : SidesAreOne D) (keeps : KeepsSingles D) (p : Program)
    (ord : Side → Order) (fit : blocks_fit p.types p.blocks ≡ true) (seen : List ℕ) where
  abbrev sizes : List ℕ
  sizes = sizes_of p.blocks

  abbrev finds : Expr → Side → Machine
  finds e s = value (ord s) p e

  abbrev means : Expr → Means N
  means e = expression D sizes e

  abbrev at : Place → Side → Machine
  at a s = address (ord s) p a

  abbrev HasSort : Expr → Sort → Type 0
  HasSort e x = has_sort p.types p.blocks seen e x ≡ true

  abbrev HasType : Place → ℕ → Type 0
  HasType a ty = place_has p.types p.blocks seen a ty ≡ true

  abbrev IsOne : Expr → Type 0
  IsOne e = OneMeans D p ord (finds e) (means e)

  abbrev EachOne : Expr → Type 0
  EachOne e = (x : Sort) → HasSort e x → IsOne e

  abbrev PlaceOne : Place → Type 0
  PlaceOne a = (ty : ℕ) → HasType a ty → GivesOne D p ord (at a) (place D sizes a)

  sound : (e : Expr) (x : Sort) → HasSort e x → Sound D p ord (scalar_of x) (finds e) (means e)
  sound e x h = (evaluation_laws D law).expressions p ord fit seen e x h

  place_sound : (a : Place) (ty : ℕ) → HasType a ty → SoundPlace D p ord (at a) (place D sizes a)
  place_sound a ty h = (evaluation_laws D law).places p ord fit seen a ty h

  -- as an operand
  operand : (e : Expr) (x : Sort) → HasSort e x → IsOne e → OneGives D p ord (scalar_of x) (finds e) (means e).gives
  operand e x h one = record {
    typed = λ s m bytes v i.
        if_has (value (ord s) p e m) (ValueFits p (scalar_of x)) v (expr_fits (ord s) p fit seen m bytes e x h).1 i;
    holds = (sound e x h).gives;
    one = one.gives;
  }

  place_operand : (a : Place) (ty : ℕ) → HasType a ty → GivesOne D p ord (at a) (place D sizes a)
      → OneGives D p ord Pointer (at a) (place D sizes a)
  place_operand a ty h one = record {
    typed = λ s m bytes v i.
        if_has (address (ord s) p a m) (ValueFits p Pointer) v (place_lies (ord s) p fit seen m bytes a ty h).1 i;
    holds = (place_sound a ty h).gives;
    one = one;
  }

  -- without a rule of its own for assuming
  plain_one : (e : Expr) (x : Sort) → HasSort e x → (g : Mode → Known N → Given N) (c : ToCell N)
      → Sound D p ord (scalar_of x) (finds e) (with_cell D g c) → GivesOne D p ord (finds e) g
      → OneMeans D p ord (finds e) (with_cell D g c)
  plain_one e x h g c s one = with_cell_one D law keeps p ord (scalar_of x) (finds e) g c s one

  tested : (e : Expr) → is_test p.types p.blocks seen (int_type_of e) (has_sort p.types p.blocks seen e) ≡ true
      → (x : Sort) × HasSort e x
  tested e h = tested_where p.types p.blocks seen (int_type_of e) (has_sort p.types p.blocks seen e) h

  unit_is : (unit : ℕ) → is_length unit ≡ true → IsUnit unit
  unit_is unit h =
      let q = and_parts (nat_le 1 unit) (nat_le unit 65536) h in
      unit_of unit (leb-true 1 unit q.0) (leb-true unit 65536 q.1)

  -- ---- arithmetic, by the type of the right operand

  both_one : (o : BinOp) (t : IntType) (a b : Expr) → ((y : ℤ) → InRange t y → IsRightOperand o t y)
      → HasSort a (integer t) → HasSort b (integer t) → EachOne a → EachOne b
      → GivesOne D p ord (finds (binary o t a b)) (means (binary o t a b)).gives
  both_one o t a b takes ha hb oa ob =
      binary_one D law sides p ord o t t takes (finds a) (finds b) (means a).gives (means b).gives
      (operand a (integer t) ha (oa (integer t) ha)) (operand b (integer t) hb (ob (integer t) hb))

  shift_one : (o : BinOp) (t r : IntType) (a b : Expr) → ((y : ℤ) → InRange r y → IsRightOperand o t y)
      → HasSort a (integer t) → HasSort b (integer r) → EachOne a → EachOne b
      → GivesOne D p ord (finds (binary o t a b)) (means (binary o t a b)).gives
  shift_one o t r a b takes ha hb oa ob =
      binary_one D law sides p ord o t r takes (finds a) (finds b) (means a).gives (means b).gives
      (operand a (integer t) ha (oa (integer t) ha)) (operand b (integer r) hb (ob (integer r) hb))

  operator_one : (o : BinOp) (t : IntType) (a b : Expr) → HasSort a (integer t)
      → is_int (right_type o t (int_type_of b)) (has_sort p.types p.blocks seen b) ≡ true → EachOne a → EachOne b
      → GivesOne D p ord (finds (binary o t a b)) (means (binary o t a b)).gives
  operator_one Add t a b ha hb oa ob = both_one Add t a b (λ y i. i) ha hb oa ob
  operator_one Sub t a b ha hb oa ob = both_one Sub t a b (λ y i. i) ha hb oa ob
  operator_one Mul t a b ha hb oa ob = both_one Mul t a b (λ y i. i) ha hb oa ob
  operator_one Div t a b ha hb oa ob = both_one Div t a b (λ y i. i) ha hb oa ob
  operator_one Rem t a b ha hb oa ob = both_one Rem t a b (λ y i. i) ha hb oa ob
  operator_one And t a b ha hb oa ob = both_one And t a b (λ y i. i) ha hb oa ob
  operator_one Or t a b ha hb oa ob = both_one Or t a b (λ y i. i) ha hb oa ob
  operator_one Xor t a b ha hb oa ob = both_one Xor t a b (λ y i. i) ha hb oa ob
  operator_one Shl t a b ha hb oa ob =
      let i = int_where (int_type_of b) (has_sort p.types p.blocks seen b) hb in
      shift_one Shl t i.0 a b (in_range_some_type i.0) ha i.2 oa ob
  operator_one Shr t a b ha hb oa ob =
      let i = int_where (int_type_of b) (has_sort p.types p.blocks seen b) hb in
      shift_one Shr t i.0 a b (in_range_some_type i.0) ha i.2 oa ob

  conversion_one : (t r : IntType) (e : Expr) → int_type_of e ≡ Some r → HasSort e (integer r) → EachOne e
      → GivesOne D p ord (finds (convert t e)) (means (convert t e)).gives
  conversion_one t r e own h one =
      subst (λ (o : Option IntType). GivesOne D p ord (finds (convert t e)) (convert_means D o t (means e)).gives)
      (sym own)
      (convert_one D law sides p ord r t (finds e) (means e).gives (operand e (integer r) h (one (integer r) h)))

  -- ---- pointers

  points : (e : Expr) → is_pointer p.types p.blocks seen (has_sort p.types p.blocks seen e) ≡ true
      → (ty : ℕ) × HasSort e (pointer_to ty)
  points e h = pointer_where p.types p.blocks seen (has_sort p.types p.blocks seen e) h

  order_one : (c : Cmp) (a b : Expr) (ta tb : ℕ) → HasSort a (pointer_to ta) → HasSort b (pointer_to tb) → EachOne a
      → EachOne b → IsOne (ptr_compare c a b)
  order_one c a b ta tb ha hb oa ob =
      let ga = operand a (pointer_to ta) ha (oa (pointer_to ta) ha) in
      let gb = operand b (pointer_to tb) hb (ob (pointer_to tb) hb) in
      pointers_means_one D law keeps p ord c (finds a) (finds b) (means a) (means b) ga gb
      (sound a (pointer_to ta) ha) (sound b (pointer_to tb) hb)
      (pointers_one D law sides p ord c (finds a) (finds b) (means a).gives (means b).gives ga gb)

  pointer_operand : (e : Expr) (x : Sort) → Pointer ≡ scalar_of x → HasSort e x → IsOne e
      → OneGives D p ord Pointer (finds e) (means e).gives
  pointer_operand e x i h one =
      subst (λ w. OneGives D p ord w (finds e) (means e).gives) (sym i) (operand e x h one)

  moving_one : (e : Expr) (unit : ℕ) (n : Expr) (back : Bool) (x : Sort) → is_length unit ≡ true
      → Pointer ≡ scalar_of x → HasSort e x → is_int (int_type_of n) (has_sort p.types p.blocks seen n) ≡ true
      → EachOne e → EachOne n
      → GivesOne D p ord (finds (ptr_add e unit n back)) (means (ptr_add e unit n back)).gives
  moving_one e unit n back x l i he hn oe on =
      let j = int_where (int_type_of n) (has_sort p.types p.blocks seen n) hn in
      sum_one D law p ord fit unit (unit_is unit l) back j.0 (finds e) (finds n) (means e).gives (means n).gives
      (pointer_operand e x i he (oe x he)) (operand n (integer j.0) j.2 (on (integer j.0) j.2))

  -- the type of a place whose address is taken: the address is of it, or of its elements
  addressed_type : (a : Place) (x : Sort)
      → is_pointer_where x (λ ty. place_has p.types p.blocks seen a ty
      || some_type p.types p.blocks seen (λ u. is_array_of u ty) (place_has p.types p.blocks seen a)) ≡ true
      → (ty : ℕ) × HasType a ty
  addressed_type a (integer t) h = never h
  addressed_type a (pointer_to ty) h =
      ⊎_elim (λ i. (ty, i))
      (λ i.
      (let t = type_where p.types p.blocks seen (λ u. is_array_of u ty) (place_has p.types p.blocks seen a) i in
      (t.0, t.2)))
      (or_cases (place_has p.types p.blocks seen a ty)
      (some_type p.types p.blocks seen (λ u. is_array_of u ty) (place_has p.types p.blocks seen a)) h)

  elements_one : (a : Place) (bound unit : ℕ) (i : Expr) (u : ℕ) → is_length unit ≡ true → HasType a u
      → is_int (int_type_of i) (has_sort p.types p.blocks seen i) ≡ true → PlaceOne a → EachOne i
      → GivesOne D p ord (at (element a bound unit i)) (place D sizes (element a bound unit i))
  elements_one a bound unit i u lu ha hi oa oi =
      let j = int_where (int_type_of i) (has_sort p.types p.blocks seen i) hi in
      element_one D law p ord fit bound unit (unit_is unit lu) j.0 (at a) (finds i) (place D sizes a) (means i).gives
      (place_operand a u ha (oa u ha)) (operand i (integer j.0) j.2 (oi (integer j.0) j.2))

  -- ---- operands that may not be evaluated

  module _ (a b : Expr) (x y : Sort) (ha : HasSort a x) (hb : HasSort b y) (oa : IsOne a) (ob : IsOne b) where
    and_one : IsOne (logical_and a b)
    and_one =
        and_means_one D law sides p ord (scalar_of x) (scalar_of y) (finds a) (finds b) (means a) (means b)
        (operand a x ha oa) (operand b y hb ob) oa ob (λ mode k s. expression_idle D sizes k b mode s)

    or_one : IsOne (logical_or a b)
    or_one =
        or_means_one D law sides p ord (scalar_of x) (scalar_of y) (finds a) (finds b) (means a) (means b)
        (operand a x ha oa) (operand b y hb ob) oa ob (λ mode k s. expression_idle D sizes k b mode s)

  conditional_one : (e a b : Expr) (t x : Sort) → HasSort e t → HasSort a x → HasSort b x → IsOne e → IsOne a
      → IsOne b → GivesOne D p ord (finds (conditional e a b)) (means (conditional e a b)).gives
  conditional_one e a b t x he ha hb oe oa ob =
      chosen_one D law sides p ord (scalar_of t) (scalar_of x) (finds e) (finds a) (finds b) (means e) (means a)
      (means b) (operand e t he oe) (operand a x ha oa) (operand b x hb ob) oe
      (λ mode k s. expression_idle D sizes k a mode s) (λ mode k s. expression_idle D sizes k b mode s)

  -- ---- every form

  mutual
    expression_one : (e : Expr) → EachOne e
    expression_one (const t v) x h =
        let q = and_parts (is_integer x t) (is_in_range t v) h in
        plain_one (const t v) x h (λ m k. constant_given D t v m) no_cell (sound (const t v) x h)
        (λ k m s mode all. constants_give_one D law t v (in_range_from_true t v q.1) mode)
    expression_one null_value x h =
        plain_one null_value x h (λ m k. pointer_given D null_alone m) no_cell (sound null_value x h)
        (λ k m s mode all. pointers_give_one D null_alone (only_null refl) mode)
    expression_one (load w a) x h =
        let t = type_where p.types p.blocks seen (λ u. has_scalar u w && is_sort (sort_of u) x)
        (place_has p.types p.blocks seen a) h in
        plain_one (load w a) x h (λ m k. load_given D sizes w m k (place D sizes a m k))
        (load_cell D sizes w (place D sizes a)) (sound (load w a) x h)
        (loads_give_one D law (reads_are_one D law) p ord w (at a) (place D sizes a) (place_sound a t.0 t.2)
        (place_one a t.0 t.2))
    expression_one (addr_of a) x h =
        let t = addressed_type a x h in
        plain_one (addr_of a) x h (λ m k. same_given D sizes m (place D sizes a m k)) no_cell (sound (addr_of a) x h)
        (λ k m s mode all. sames_give_one D sizes mode (place D sizes a mode k) (place_one a t.0 t.1 k m s mode all))
    expression_one (binary o t a b) x h =
        let q = three (is_integer x t) (has_sort p.types p.blocks seen a (integer t))
        (is_int (right_type o t (int_type_of b)) (has_sort p.types p.blocks seen b)) h in
        plain_one (binary o t a b) x h (means (binary o t a b)).gives no_cell (sound (binary o t a b) x h)
        (operator_one o t a b q.1 q.2 (expression_one a) (expression_one b))
    expression_one (convert t e) x h =
        let q = and_parts (is_integer x t) (is_int (int_type_of e) (has_sort p.types p.blocks seen e)) h in
        let i = int_where (int_type_of e) (has_sort p.types p.blocks seen e) q.1 in
        plain_one (convert t e) x h (means (convert t e)).gives (means (convert t e)).cell (sound (convert t e) x h)
        (conversion_one t i.0 e i.1 i.2 (expression_one e))
    expression_one (compare c u a b) x h =
        let q = three (is_integer x I32) (has_sort p.types p.blocks seen a (integer u))
        (has_sort p.types p.blocks seen b (integer u)) h in
        let ga = operand a (integer u) q.1 (expression_one a (integer u) q.1) in
        let gb = operand b (integer u) q.2 (expression_one b (integer u) q.2) in
        compare_means_one D law keeps p ord c u (finds a) (finds b) (means a) (means b) ga gb (sound a (integer u) q.1)
        (sound b (integer u) q.2)
        (compare_one D law sides p ord c u (finds a) (finds b) (means a).gives (means b).gives ga gb)
    expression_one (ptr_compare c a b) x h =
        let q = three (is_integer x I32) (is_pointer p.types p.blocks seen (has_sort p.types p.blocks seen a))
        (is_pointer p.types p.blocks seen (has_sort p.types p.blocks seen b)) h in
        let i = points a q.1 in
        let j = points b q.2 in
        order_one c a b i.0 j.0 i.1 j.1 (expression_one a) (expression_one b)
    expression_one (logical_and a b) x h =
        let q = three (is_integer x I32)
        (is_test p.types p.blocks seen (int_type_of a) (has_sort p.types p.blocks seen a))
        (is_test p.types p.blocks seen (int_type_of b) (has_sort p.types p.blocks seen b)) h in
        let ta = tested a q.1 in
        let tb = tested b q.2 in
        and_one a b ta.0 tb.0 ta.1 tb.1 (expression_one a ta.0 ta.1) (expression_one b tb.0 tb.1)
    expression_one (logical_or a b) x h =
        let q = three (is_integer x I32)
        (is_test p.types p.blocks seen (int_type_of a) (has_sort p.types p.blocks seen a))
        (is_test p.types p.blocks seen (int_type_of b) (has_sort p.types p.blocks seen b)) h in
        let ta = tested a q.1 in
        let tb = tested b q.2 in
        or_one a b ta.0 tb.0 ta.1 tb.1 (expression_one a ta.0 ta.1) (expression_one b tb.0 tb.1)
    expression_one (logical_not e) x h =
        let q = and_parts (is_integer x I32)
        (is_test p.types p.blocks seen (int_type_of e) (has_sort p.types p.blocks seen e)) h in
        let te = tested e q.1 in
        let one = expression_one e te.0 te.1 in
        not_means_one D law keeps p ord (finds e) (means e) one
        (not_one D law sides p ord (scalar_of te.0) (finds e) (means e).gives (operand e te.0 te.1 one))
    expression_one (conditional e a b) x h =
        let q = three (is_test p.types p.blocks seen (int_type_of e) (has_sort p.types p.blocks seen e))
        (has_sort p.types p.blocks seen a x) (has_sort p.types p.blocks seen b x) h in
        let te = tested e q.0 in
        plain_one (conditional e a b) x h (means (conditional e a b)).gives no_cell (sound (conditional e a b) x h)
        (conditional_one e a b te.0 x te.1 q.1 q.2 (expression_one e te.0 te.1) (expression_one a x q.1)
        (expression_one b x q.2))
    expression_one (ptr_add e unit n back) x h =
        let q = three (is_length unit && is_pointer_where x (λ ty. is_number (size p.types ty) unit))
        (has_sort p.types p.blocks seen e x) (is_int (int_type_of n) (has_sort p.types p.blocks seen n)) h in
        let r = and_parts (is_length unit) (is_pointer_where x (λ ty. is_number (size p.types ty) unit)) q.0 in
        plain_one (ptr_add e unit n back) x h (means (ptr_add e unit n back)).gives no_cell
        (sound (ptr_add e unit n back) x h)
        (moving_one e unit n back x r.0 (pointer_scalar x (λ ty. is_number (size p.types ty) unit) r.1) q.1 q.2
        (expression_one e) (expression_one n))
    expression_one (cast e) x h =
        let q = and_parts (is_pointer_where x (λ ty. true))
        (is_pointer p.types p.blocks seen (has_sort p.types p.blocks seen e)) h in
        let i = points e q.1 in
        plain_one (cast e) x h (λ m k. same_given D sizes m ((means e).gives m k)) no_cell (sound (cast e) x h)
        (λ k m s mode all.
        sames_give_one D sizes mode ((means e).gives mode k)
        ((expression_one e (pointer_to i.0) i.1).gives k m s mode all))

    place_one : (a : Place) → PlaceOne a
    place_one (block b) ty h =
        λ k m s mode all.
        pointers_give_one D (one_target b (D.single (pos 0)))
        (only_place b (D.single (pos 0)) (pos 0) refl (law.single_range (pos 0) zero_type)) mode
    place_one (deref e) ty h =
        λ k m s mode all.
        sames_give_one D sizes mode ((means e).gives mode k)
        ((expression_one e (pointer_to ty) h).gives k m s mode all)
    place_one (member a offset) ty h =
        let t = type_where p.types p.blocks seen (λ u. has_member p.types u offset ty)
        (place_has p.types p.blocks seen a) h in
        member_one D law p ord fit offset (at a) (place D sizes a) (place_operand a t.0 t.2 (place_one a t.0 t.2))
    place_one (element a bound unit i) ty h =
        let q = three (is_length bound && is_length unit && is_number (size p.types ty) unit)
        (some_type p.types p.blocks seen (λ u. is_array_of u ty && has_bound u bound)
        (place_has p.types p.blocks seen a))
        (is_int (int_type_of i) (has_sort p.types p.blocks seen i)) h in
        let r = three (is_length bound) (is_length unit) (is_number (size p.types ty) unit) q.0 in
        let t = type_where p.types p.blocks seen (λ u. is_array_of u ty && has_bound u bound)
        (place_has p.types p.blocks seen a) q.1 in
        elements_one a bound unit i t.0 r.1 t.2 q.2 (place_one a) (expression_one i)

pub values_are_one : {N : Type 0} (D : Ops N) → Lawful D → (p : Program) (ord : Side → Order) → ValuesAreOne D p ord
values_are_one D law p ord keeps fit seen e x h =
    expression_one D law (sides_are_one D law (operators_keep_one D law)) keeps p ord fit seen e x h

pub places_are_one : {N : Type 0} (D : Ops N) → Lawful D → (p : Program) (ord : Side → Order) → PlacesAreOne D p ord
places_are_one D law p ord keeps fit seen a ty h =
    place_one D law (sides_are_one D law (operators_keep_one D law)) keeps p ord fit seen a ty h
