-- Every expression and every place is sound.
use Rattle.std.proofs.Common.{◌≡◌, ℕ, ◌≤◌, ℤ, Bool, true, false, ◌&&◌, ◌||◌, List, Option, Some, ⊎_elim, refl, sym}
use Rattle.std.proofs.lemmas.Bool.{or_cases}
use Rattle.std.proofs.Common.{subst}
use Rattle.std.specs.Prelude.{nat_le}
use Rattle.std.proofs.lemmas.Bool.{and_parts, leb-true}
use Rattle.ep_int.specs.declared.types.Order.{Order}
use Rattle.ep_int.specs.declared.types.BinOp.{BinOp}
use Rattle.ep_int.specs.declared.types.BinOp.TheVariants.{Add, Sub, Mul, Div, Rem, And, Or, Xor, Shl, Shr}
use Rattle.ep_int.specs.declared.types.Cmp.{Cmp}
use Rattle.ep_int.specs.declared.types.IntType.{IntType}
use Rattle.ep_int.specs.declared.types.IntType.TheVariants.{I32}
use Rattle.ep_int.specs.declared.types.Scalar.{Scalar}
use Rattle.ep_int.specs.declared.types.Scalar.TheVariants.{Int, Pointer}
use Rattle.ep_int.specs.Memory.{Value as Datum, Found, has, faults}
use Rattle.ep_int.specs.Types.{InRange}
use Rattle.ep_int.specs.Arith.{is_in_range, IsRightOperand}
use Rattle.ep_int.proofs.Arithmetic.{in_range_some_type, in_range_from_true}
use Rattle.ep_layout.specs.Table.{size}
use Rattle.ep_domain.specs.Domain.{Ops, Lawful}
use Rattle.ep_cells.specs.Laws.{JoinLaws}
use Rattle.ep_reads.specs.Laws.{ReadLaws}
use Rattle.ep_reads.specs.SplitLaws.{UnifyLaws}
use Rattle.ep_core.specs.Program.{Place, block, deref, member, element, Expr, const, null_value, load, addr_of, binary}
use Rattle.ep_core.specs.Program.{convert, compare, ptr_compare, logical_and, logical_or, logical_not, conditional}
use Rattle.ep_core.specs.Program.{ptr_add, cast, Program}
use Rattle.ep_core.specs.Exec.{value, address}
use Rattle.ep_core.specs.Runs.{Side}
use Rattle.ep_core.specs.WellFormed.{Sort, integer, pointer_to, is_integer, is_pointer_where, is_pointer, has_scalar}
use Rattle.ep_core.specs.WellFormed.{is_sort, sort_of, ty_at, int_type_of, is_test, has_sort, place_has, blocks_fit}
use Rattle.ep_core.specs.WellFormed.{is_length, is_int, right_type, is_number, some_type, is_array_of, has_bound}
use Rattle.ep_core.specs.WellFormed.{has_member}
use Rattle.ep_core.specs.Typed.{IfHas, ValueFits, scalar_of}
use Rattle.ep_core.proofs.Sorts.{three, integer_scalar, pointer_scalar, loaded_scalar, type_where}
use Rattle.ep_core.proofs.Sorts.{pointer_where, tested_where, int_where}
use Rattle.ep_core.proofs.Typing.{expr_fits, place_lies}
use Rattle.ep_evaluation.specs.Evaluation.{Means, convert_means, expression, place}
use Rattle.ep_evaluation.specs.Laws.{Machine, Sound, SoundPlace, sizes_of}
use Rattle.ep_evaluation.proofs.Generic.{Typed}
use Rattle.ep_evaluation.proofs.Leaves.{null_sound, block_sound, same_holds, same_fits, pointer_sound}
use Rattle.ep_evaluation.proofs.LoadWhole.{load_sound}
use Rattle.ep_evaluation.proofs.Sounds.{compare_sound, and_sound, or_sound, not_sound}
use Rattle.ep_evaluation.proofs.Arithmetic.{binary_sound}
use Rattle.ep_evaluation.proofs.BinaryForms.{both_forms, left_forms, right_forms}
use Rattle.ep_evaluation.proofs.Conversions.{constant_sound, convert_sound}
use Rattle.ep_evaluation.proofs.Comparisons.{pointers_sound}
use Rattle.ep_evaluation.proofs.Conditionals.{conditional_sound}
use Rattle.ep_evaluation.proofs.Sums.{sum_sound, member_sound}
use Rattle.ep_evaluation.proofs.Elements.{element_sound}

pub if_has : (f : Found) (P : Datum → Type 0) (v : Datum) → IfHas f P → f ≡ has v → P v
if_has (has u) P v h e = subst P (let q : u ≡ v = cc in q) h
if_has (faults k) P v h e = absurd (let q : faults k ≡ has v = e in cc)

module _ {N : Type 0} (D : Ops N) (law : Lawful D) (reads : ReadLaws D) (unify : UnifyLaws D) (join : JoinLaws D)
    (p : Program) (ord : Side → Order)
    (fit : blocks_fit p.types p.blocks ≡ true) (seen : List ℕ) where
  abbrev pub finds : Expr → Side → Machine
  finds e s = value (ord s) p e

  abbrev pub HasSort : Expr → Sort → Type 0
  HasSort e x = has_sort p.types p.blocks seen e x ≡ true

  abbrev pub IsSound : Expr → Sort → Type 0
  IsSound e x = Sound D p ord (scalar_of x) (finds e) (expression D (sizes_of p.blocks) e)

  abbrev pub EachSound : Expr → Type 0
  EachSound e = (x : Sort) → HasSort e x → IsSound e x

  abbrev pub PlaceSound : Place → Type 0
  PlaceSound a = (ty : ℕ) → place_has p.types p.blocks seen a ty ≡ true
      → SoundPlace D p ord (λ s. address (ord s) p a) (place D (sizes_of p.blocks) a)

  typed : (e : Expr) (x : Sort) → HasSort e x → Typed p (scalar_of x) (finds e)
  typed e x h s m bytes v i = if_has (value (ord s) p e m) (ValueFits p (scalar_of x)) v
      (expr_fits (ord s) p fit seen m bytes e x h).1 i

  place_typed : (a : Place) (ty : ℕ) → place_has p.types p.blocks seen a ty ≡ true
      → Typed p Pointer (λ s. address (ord s) p a)
  place_typed a ty h s m bytes v i = if_has (address (ord s) p a m) (ValueFits p Pointer) v
      (place_lies (ord s) p fit seen m bytes a ty h).1 i

  tested : (e : Expr) → is_test p.types p.blocks seen (int_type_of e) (has_sort p.types p.blocks seen e) ≡ true
      → (x : Sort) × HasSort e x
  tested e h = tested_where p.types p.blocks seen (int_type_of e) (has_sort p.types p.blocks seen e) h

  abbrev pub sizes : List ℕ
  sizes = sizes_of p.blocks

  abbrev means : Expr → Means N
  means e = expression D sizes e

  -- sound as what an expression is of a scalar
  abbrev SoundAs : Scalar → Expr → Type 0
  SoundAs w e = Sound D p ord w (finds e) (means e)

  of_sort : (e : Expr) (w : Scalar) (x : Sort) → w ≡ scalar_of x → SoundAs w e → IsSound e x
  of_sort e w x i h = subst (λ v. SoundAs v e) i h

  is_long : (n : ℕ) → is_length n ≡ true → (1 ≤ n) × (n ≤ 65536)
  is_long n h = let q = and_parts (nat_le 1 n) (nat_le n 65536) h in (leb-true 1 n q.0, leb-true n 65536 q.1)

  -- ---- forms of which an operand has some integer type

  -- arithmetic on two operands of the type
  both_sound : (o : BinOp) (t : IntType) (a b : Expr) → ((y : ℤ) → InRange t y → IsRightOperand o t y)
      → HasSort a (integer t)
      → HasSort b (integer t) → EachSound a → EachSound b → SoundAs (Int t) (binary o t a b)
  both_sound o t a b takes ha hb sa sb =
      binary_sound D law p ord o t t takes (both_forms D law p ord o t) (finds a) (finds b) (means a) (means b)
      (typed a (integer t) ha)
      (typed b (integer t) hb) (sa (integer t) ha) (sb (integer t) hb)

  left_sound : (t r : IntType) (a b : Expr) → HasSort a (integer t) → HasSort b (integer r) → EachSound a → EachSound b
      → SoundAs (Int t) (binary Shl t a b)
  left_sound t r a b ha hb sa sb =
      binary_sound D law p ord Shl t r (in_range_some_type r) (left_forms D law p ord t r) (finds a) (finds b)
      (means a) (means b)
      (typed a (integer t) ha) (typed b (integer r) hb) (sa (integer t) ha) (sb (integer r) hb)

  right_sound : (t r : IntType) (a b : Expr) → HasSort a (integer t) → HasSort b (integer r) → EachSound a → EachSound b
      → SoundAs (Int t) (binary Shr t a b)
  right_sound t r a b ha hb sa sb =
      binary_sound D law p ord Shr t r (in_range_some_type r) (right_forms D law p ord t r) (finds a) (finds b)
      (means a) (means b)
      (typed a (integer t) ha) (typed b (integer r) hb) (sa (integer t) ha) (sb (integer r) hb)

  -- by the operator
  operator_sound : (o : BinOp) (t : IntType) (a b : Expr) → HasSort a (integer t)
      → is_int (right_type o t (int_type_of b)) (has_sort p.types p.blocks seen b) ≡ true → EachSound a → EachSound b
      → SoundAs (Int t) (binary o t a b)
  operator_sound Add t a b ha hb sa sb = both_sound Add t a b (λ y i. i) ha hb sa sb
  operator_sound Sub t a b ha hb sa sb = both_sound Sub t a b (λ y i. i) ha hb sa sb
  operator_sound Mul t a b ha hb sa sb = both_sound Mul t a b (λ y i. i) ha hb sa sb
  operator_sound Div t a b ha hb sa sb = both_sound Div t a b (λ y i. i) ha hb sa sb
  operator_sound Rem t a b ha hb sa sb = both_sound Rem t a b (λ y i. i) ha hb sa sb
  operator_sound And t a b ha hb sa sb = both_sound And t a b (λ y i. i) ha hb sa sb
  operator_sound Or t a b ha hb sa sb = both_sound Or t a b (λ y i. i) ha hb sa sb
  operator_sound Xor t a b ha hb sa sb = both_sound Xor t a b (λ y i. i) ha hb sa sb
  operator_sound Shl t a b ha hb sa sb =
      let i = int_where (int_type_of b) (has_sort p.types p.blocks seen b) hb in left_sound t i.0 a b ha i.2 sa sb
  operator_sound Shr t a b ha hb sa sb =
      let i = int_where (int_type_of b) (has_sort p.types p.blocks seen b) hb in right_sound t i.0 a b ha i.2 sa sb

  conversion_sound : (t r : IntType) (e : Expr) → int_type_of e ≡ Some r → HasSort e (integer r) → EachSound e
      → SoundAs (Int t) (convert t e)
  conversion_sound t r e own h s =
      subst (λ (o : Option IntType). Sound D p ord (Int t) (finds (convert t e)) (convert_means D o t (means e)))
      (sym own)
      (convert_sound D law p ord r t (finds e) (means e) (typed e (integer r) h) (s (integer r) h))

  abbrev Points : Expr → Type 0
  Points e = is_pointer p.types p.blocks seen (has_sort p.types p.blocks seen e) ≡ true

  points : (e : Expr) → Points e → (ty : ℕ) × HasSort e (pointer_to ty)
  points e h = pointer_where p.types p.blocks seen (has_sort p.types p.blocks seen e) h

  order_sound : (c : Cmp) (a b : Expr) → Points a → Points b → EachSound a → EachSound b
      → SoundAs (Int I32) (ptr_compare c a b)
  order_sound c a b ha hb sa sb =
      let i = points a ha in
      let j = points b hb in
      pointers_sound D law p ord c (finds a) (finds b) (means a) (means b) (typed a (pointer_to i.0) i.1)
      (typed b (pointer_to j.0) j.1)
      (sa (pointer_to i.0) i.1) (sb (pointer_to j.0) j.1)

  pointer_typed : (e : Expr) (x : Sort) → Pointer ≡ scalar_of x → HasSort e x → Typed p Pointer (finds e)
  pointer_typed e x i h = subst (λ w. Typed p w (finds e)) (sym i) (typed e x h)

  moving_sound : (e : Expr) (unit : ℕ) (n : Expr) (back : Bool) (x : Sort) → is_length unit ≡ true
      → Pointer ≡ scalar_of x → HasSort e x
      → is_int (int_type_of n) (has_sort p.types p.blocks seen n) ≡ true → EachSound e → EachSound n
      → SoundAs Pointer (ptr_add e unit n back)
  moving_sound e unit n back x l i he hn se sn =
      let j = int_where (int_type_of n) (has_sort p.types p.blocks seen n) hn in
      let q = is_long unit l in
      sum_sound D law p ord fit unit q.0 q.1 back j.0 (finds e) (finds n) (means e) (means n) (pointer_typed e x i he)
      (typed n (integer j.0) j.2) (subst (λ w. SoundAs w e) (sym i) (se x he)) (sn (integer j.0) j.2)

  -- the type of a place whose address is taken: the address is of it, or of its elements
  addressed : (a : Place) (x : Sort)
      → is_pointer_where x (λ ty. place_has p.types p.blocks seen a ty
      || some_type p.types p.blocks seen (λ u. is_array_of u ty) (place_has p.types p.blocks seen a)) ≡ true
      → (ty : ℕ) × (place_has p.types p.blocks seen a ty ≡ true)
  addressed a (integer t) h = absurd (let q : false ≡ true = h in cc)
  addressed a (pointer_to ty) h =
      ⊎_elim (λ i. (ty, i))
      (λ i. (let t = type_where p.types p.blocks seen (λ u. is_array_of u ty) (place_has p.types p.blocks seen a) i in
      (t.0, t.2)))
      (or_cases (place_has p.types p.blocks seen a ty)
      (some_type p.types p.blocks seen (λ u. is_array_of u ty) (place_has p.types p.blocks seen a)) h)

  address_sound : (a : Place) (ty : ℕ) → place_has p.types p.blocks seen a ty ≡ true → PlaceSound a
      → SoundAs Pointer (addr_of a)
  address_sound a ty h s =
      let q = s ty h in
      pointer_sound D law p ord sizes (λ s. address (ord s) p a) (place_typed a ty h) (place D sizes a) q.gives q.fits

  elements : (a : Place) (bound unit : ℕ) (i : Expr) (u : ℕ) → is_length bound ≡ true → is_length unit ≡ true
      → place_has p.types p.blocks seen a u ≡ true → is_int (int_type_of i) (has_sort p.types p.blocks seen i) ≡ true
      → PlaceSound a
      → EachSound i
      → SoundPlace D p ord (λ s. address (ord s) p (element a bound unit i)) (place D sizes (element a bound unit i))
  elements a bound unit i u lb lu ha hi sa si =
      let j = int_where (int_type_of i) (has_sort p.types p.blocks seen i) hi in
      let q = is_long unit lu in
      element_sound D law p ord sizes bound unit q.0 q.1 j.0 (λ s. address (ord s) p a) (finds i) (place D sizes a)
      (means i)
      (place_typed a u ha) (typed i (integer j.0) j.2) (sa u ha) (si (integer j.0) j.2)

  -- ---- every form

  mutual
    pub expression_sound : (e : Expr) → EachSound e
    expression_sound (const t v) x h =
        let q = and_parts (is_integer x t) (is_in_range t v) h in
        of_sort (const t v) (Int t) x (integer_scalar x t q.0)
        (constant_sound D law p ord t v (in_range_from_true t v q.1) (finds (const t v)) (λ s m. refl))
    expression_sound null_value x h =
        of_sort null_value Pointer x (pointer_scalar x (λ ty. true) h)
        (null_sound D law p ord (finds null_value) (λ s m. refl))
    expression_sound (load w a) x h =
        let t = type_where p.types p.blocks seen (λ u. has_scalar u w && is_sort (sort_of u) x)
        (place_has p.types p.blocks seen a) h in
        of_sort (load w a) w x (loaded_scalar (ty_at p.types p.blocks seen t.0) w x t.1)
        (load_sound D law reads p ord w (λ s. address (ord s) p a) (place D sizes a) (place_sound a t.0 t.2))
    expression_sound (addr_of a) x h =
        let t = addressed a x h in
        of_sort (addr_of a) Pointer x (pointer_scalar x (λ ty. place_has p.types p.blocks seen a ty
        || some_type p.types p.blocks seen (λ u. is_array_of u ty) (place_has p.types p.blocks seen a)) h)
        (address_sound a t.0 t.1 (place_sound a))
    expression_sound (binary o t a b) x h =
        let q = three (is_integer x t) (has_sort p.types p.blocks seen a (integer t))
        (is_int (right_type o t (int_type_of b)) (has_sort p.types p.blocks seen b)) h in
        of_sort (binary o t a b) (Int t) x (integer_scalar x t q.0)
        (operator_sound o t a b q.1 q.2 (expression_sound a) (expression_sound b))
    expression_sound (convert t e) x h =
        let q = and_parts (is_integer x t) (is_int (int_type_of e) (has_sort p.types p.blocks seen e)) h in
        let i = int_where (int_type_of e) (has_sort p.types p.blocks seen e) q.1 in
        of_sort (convert t e) (Int t) x (integer_scalar x t q.0) (conversion_sound t i.0 e i.1 i.2 (expression_sound e))
    expression_sound (compare c u a b) x h =
        let q = three (is_integer x I32) (has_sort p.types p.blocks seen a (integer u))
        (has_sort p.types p.blocks seen b (integer u)) h in
        of_sort (compare c u a b) (Int I32) x (integer_scalar x I32 q.0)
        (compare_sound D law p ord c u (finds a) (finds b) (means a) (means b) (typed a (integer u) q.1)
        (typed b (integer u) q.2)
        (expression_sound a (integer u) q.1) (expression_sound b (integer u) q.2))
    expression_sound (ptr_compare c a b) x h =
        let q = three (is_integer x I32) (is_pointer p.types p.blocks seen (has_sort p.types p.blocks seen a))
        (is_pointer p.types p.blocks seen (has_sort p.types p.blocks seen b)) h in
        of_sort (ptr_compare c a b) (Int I32) x (integer_scalar x I32 q.0)
        (order_sound c a b q.1 q.2 (expression_sound a) (expression_sound b))
    expression_sound (logical_and a b) x h =
        let q = three (is_integer x I32)
        (is_test p.types p.blocks seen (int_type_of a) (has_sort p.types p.blocks seen a))
        (is_test p.types p.blocks seen (int_type_of b) (has_sort p.types p.blocks seen b)) h in
        let ta = tested a q.1 in
        let tb = tested b q.2 in
        of_sort (logical_and a b) (Int I32) x (integer_scalar x I32 q.0)
        (and_sound D law p ord unify join (scalar_of ta.0) (scalar_of tb.0) (finds a) (finds b) (means a) (means b)
        (expression_sound a ta.0 ta.1) (expression_sound b tb.0 tb.1))
    expression_sound (logical_or a b) x h =
        let q = three (is_integer x I32)
        (is_test p.types p.blocks seen (int_type_of a) (has_sort p.types p.blocks seen a))
        (is_test p.types p.blocks seen (int_type_of b) (has_sort p.types p.blocks seen b)) h in
        let ta = tested a q.1 in
        let tb = tested b q.2 in
        of_sort (logical_or a b) (Int I32) x (integer_scalar x I32 q.0)
        (or_sound D law p ord unify join (scalar_of ta.0) (scalar_of tb.0) (finds a) (finds b) (means a) (means b)
        (expression_sound a ta.0 ta.1) (expression_sound b tb.0 tb.1))
    expression_sound (logical_not e) x h =
        let q = and_parts (is_integer x I32)
        (is_test p.types p.blocks seen (int_type_of e) (has_sort p.types p.blocks seen e)) h in
        let te = tested e q.1 in
        of_sort (logical_not e) (Int I32) x (integer_scalar x I32 q.0)
        (not_sound D law p ord (scalar_of te.0) (finds e) (means e) (typed e te.0 te.1) (expression_sound e te.0 te.1))
    expression_sound (conditional e a b) x h =
        let q = three (is_test p.types p.blocks seen (int_type_of e) (has_sort p.types p.blocks seen e))
        (has_sort p.types p.blocks seen a x)
        (has_sort p.types p.blocks seen b x) h in
        let te = tested e q.0 in
        conditional_sound D law p ord (scalar_of te.0) (scalar_of x) (finds e) (finds a) (finds b) (means e) (means a)
        (means b)
        (expression_sound e te.0 te.1) (expression_sound a x q.1) (expression_sound b x q.2)
    expression_sound (ptr_add e unit n back) x h =
        let q = three (is_length unit && is_pointer_where x (λ ty. is_number (size p.types ty) unit))
        (has_sort p.types p.blocks seen e x)
        (is_int (int_type_of n) (has_sort p.types p.blocks seen n)) h in
        let r = and_parts (is_length unit) (is_pointer_where x (λ ty. is_number (size p.types ty) unit)) q.0 in
        let i = pointer_scalar x (λ ty. is_number (size p.types ty) unit) r.1 in
        of_sort (ptr_add e unit n back) Pointer x i
        (moving_sound e unit n back x r.0 i q.1 q.2 (expression_sound e) (expression_sound n))
    expression_sound (cast e) x h =
        let q = and_parts (is_pointer_where x (λ ty. true))
        (is_pointer p.types p.blocks seen (has_sort p.types p.blocks seen e)) h in
        let one = pointer_where p.types p.blocks seen (has_sort p.types p.blocks seen e) q.1 in
        let s = expression_sound e (pointer_to one.0) one.1 in
        of_sort (cast e) Pointer x (pointer_scalar x (λ ty. true) q.0)
        (pointer_sound D law p ord sizes (finds e) (typed e (pointer_to one.0) one.1) (means e).gives s.gives s.fits)

    pub place_sound : (a : Place) → PlaceSound a
    place_sound (block b) ty h = block_sound D law p ord b (λ s. address (ord s) p (block b)) (λ s m. refl)
    place_sound (deref e) ty h =
        let s = expression_sound e (pointer_to ty) h in record {
          gives = λ k m kept mode.
              same_holds D law p ord sizes (finds e) (typed e (pointer_to ty) h) k m kept mode ((means e).gives mode k)
              (s.gives k m kept mode) (s.fits k kept.state mode);
          fits = λ k i mode c. same_fits D law p ord sizes k mode ((means e).gives mode k) (s.fits k i mode) c;
        }
    place_sound (member a offset) ty h =
        let t = type_where p.types p.blocks seen (λ u. has_member p.types u offset ty)
        (place_has p.types p.blocks seen a) h in
        member_sound D law p ord fit offset (λ s. address (ord s) p a) (place D sizes a) (place_typed a t.0 t.2)
        (place_sound a t.0 t.2)
    place_sound (element a bound unit i) ty h =
        let q = three (is_length bound && is_length unit && is_number (size p.types ty) unit)
        (some_type p.types p.blocks seen (λ u. is_array_of u ty && has_bound u bound)
        (place_has p.types p.blocks seen a))
        (is_int (int_type_of i) (has_sort p.types p.blocks seen i)) h in
        let r = three (is_length bound) (is_length unit) (is_number (size p.types ty) unit) q.0 in
        let t = type_where p.types p.blocks seen (λ u. is_array_of u ty && has_bound u bound)
        (place_has p.types p.blocks seen a) q.1 in
        elements a bound unit i t.0 r.0 r.1 t.2 q.2 (place_sound a) (expression_sound i)
