-- The values of expressions fit their sorts, and places are addresses.
use Rattle.std.proofs.Common.{◌≡◌, ℕ, zero, suc, ◌+◌, ◌*◌, ℤ, pos, negsuc, ◌+ℤ◌, ◌≤ℤ◌, Bool, true, false, ◌&&◌, not}
use Rattle.ep_int.proofs.Arithmetic.{le_fact}
use Rattle.std.proofs.lemmas.Bool.{or_cases}
use Rattle.std.proofs.Common.{nat_eq, nat_le, int_le, int_lt, if◌then◌else◌, List, [], ◌∷◌, slice_get, length, ◌<◌}
use Rattle.std.proofs.Common.{◌≤◌, Option, Some, Result, Ok, Err, ⊎_elim, refl, sym, subst, arith}
use Rattle.std.specs.Prelude.{unsigned_abs, sum_by}
use Rattle.std.proofs.lemmas.Int.{ints}
use Rattle.std.proofs.lemmas.Bool.{and_parts, leb-true}
use Rattle.std.proofs.lemmas.List.Sums.{sum_by-cons}
use Rattle.ep_int.specs.declared.types.BinOp.{BinOp}
use Rattle.ep_int.specs.declared.types.BinOp.TheVariants.{Add, Sub, Mul, Div, Rem, And, Or, Xor, Shl, Shr}
use Rattle.ep_int.specs.declared.types.Cmp.{Cmp}
use Rattle.ep_int.specs.declared.types.Cmp.TheVariants.{Eq, Ne, Lt, Le, Gt, Ge}
use Rattle.ep_int.specs.declared.types.IntType.{IntType}
use Rattle.ep_int.specs.declared.types.IntType.TheVariants.{I32}
use Rattle.ep_int.specs.declared.types.Order.{Order}
use Rattle.ep_int.specs.declared.types.Scalar.{Scalar}
use Rattle.ep_int.specs.declared.types.Scalar.TheVariants.{Int as Number, Pointer}
use Rattle.ep_int.specs.declared.types.Undef.{Undef}
use Rattle.ep_int.specs.Arith.{arith_of, compares, IsOfSomeType, IsRightOperand, is_in_range}
use Rattle.ep_int.specs.Types.{InRange}
use Rattle.ep_int.specs.Memory.{Memory, Value, int, null, pointer, Found, has, faults, bounds, pointer_mix, with_place}
use Rattle.ep_int.proofs.Wrapping.{wrapped_in_range}
use Rattle.ep_int.proofs.Arithmetic.{in_range_from_true, in_range_some_type, arith_in_range}
use Rattle.ep_layout.specs.Table.{Table, size}
use Rattle.ep_core.specs.Program.{Place, block, deref, member, element, Expr, const, null_value, load, addr_of}
use Rattle.ep_core.specs.Program.{binary, convert, compare, ptr_compare, logical_and, logical_or, logical_not}
use Rattle.ep_core.specs.Program.{conditional, ptr_add, cast, Block, Program}
use Rattle.ep_core.specs.Exec.{with, with_number, result_of, is_true, truth, where_true, is_same_pointer, ordered}
use Rattle.ep_core.specs.Exec.{pointers_compare, distance, place_in, greatest_offset, element_at, block_size, model}
use Rattle.ep_core.specs.Exec.{size_at, moved, value, address}
use Rattle.ep_core.specs.WellFormed.{Sort, integer, pointer_to, is_integer, is_pointer_where, sort_of, is_sort, ty_at}
use Rattle.ep_core.specs.WellFormed.{has_scalar, is_array_of, has_bound, has_member, is_number, is_length}
use Rattle.ep_core.specs.WellFormed.{int_type_of, right_type, is_int, some_type, is_pointer, is_test, is_named}
use Rattle.ep_core.specs.WellFormed.{block_has, place_has, has_sort, blocks_fit}
use Rattle.ep_core.specs.Typed.{IsNumber, IsAddress, ValueFits, scalar_of, IfHas, MemoryFits, IsTarget, ValueSatisfies, Lies}
use Rattle.ep_core.specs.Typed.{ValuesFit, PlacesLie}
use Rattle.ep_core.proofs.Bytes.{found_choice, loaded_fits}
use Rattle.ep_core.proofs.Sorts.{never, three, integer_scalar, pointer_scalar, loaded_scalar, int_where}
use Rattle.ep_core.proofs.Sorts.{type_where, pointer_where, tested_where}

-- ---- ways to go on

pub weaker : (v : Found) (P Q : Value → Type 0) → ((x : Value) → P x → Q x) → IfHas v P → IfHas v Q
weaker (has x) P Q h i = h x i
weaker (faults k) P Q h i = tt

number_weaker : (P Q : ℤ → Type 0) → ((n : ℤ) → P n → Q n) → (x : Value) → IsNumber P x → IsNumber Q x
number_weaker P Q h (int n) i = h n i
number_weaker P Q h null i = i
number_weaker P Q h (pointer b q) i = i

with_found : (v : Found) (go : Value → Found) (Q : Value → Type 0) → ((x : Value) → IfHas (go x) Q)
    → IfHas (with v go) Q
with_found (has x) go Q h = h x
with_found (faults k) go Q h = tt

-- where something is known of the value
with_known : (v : Found) (go : Value → Found) (P Q : Value → Type 0) → IfHas v P → ((x : Value) → P x → IfHas (go x) Q)
    → IfHas (with v go) Q
with_known (has x) go P Q i h = h x i
with_known (faults k) go P Q i h = tt

number_found : (v : Found) (go : ℤ → Found) (P : ℤ → Type 0) (Q : Value → Type 0) → IfHas v (IsNumber P)
    → ((n : ℤ) → P n → IfHas (go n) Q) → IfHas (with_number v go) Q
number_found (has (int n)) go P Q i h = h n i
number_found (has null) go P Q i h = tt
number_found (has (pointer b q)) go P Q i h = tt
number_found (faults k) go P Q i h = tt

place_found : (p : Program) (v : Found) (go : ℕ → ℕ → Found) (Q : Value → Type 0) → IfHas v (IsAddress p)
    → ((b q : ℕ) → IsTarget p b q → IfHas (go b q) Q) → IfHas (with_place v go) Q
place_found p (has (int n)) go Q i h = tt
place_found p (has null) go Q i h = tt
place_found p (has (pointer b q)) go Q i h = h b q i
place_found p (faults k) go Q i h = tt

true_found : (t : Bool) (x y : Found) (Q : Value → Type 0) → IfHas x Q → IfHas y Q → IfHas (where_true t x y) Q
true_found true x y Q h i = i
true_found false x y Q h i = h

result_found : (r : Result ℤ Undef) (t : IntType) → ((z : ℤ) → r ≡ Ok z → InRange t z)
    → IfHas (result_of r) (IsNumber (InRange t))
result_found (Ok z) t h = h z refl
result_found (Err u) t h = tt

truth_fits : (t : Bool) → IfHas (truth t) (IsNumber (InRange I32))
truth_fits true = record { low = omega (arith, ints); high = omega (arith, ints) }
truth_fits false = record { low = omega (arith, ints); high = omega (arith, ints) }

ordered_fits : (p : Program) (test : ℤ → ℤ → Bool) (v w : Value) → IfHas (ordered test v w) (IsNumber (InRange I32))
ordered_fits p test (pointer b q) (pointer c r) = found_choice p (nat_eq b c) (truth (test (pos q) (pos r)))
    (faults pointer_mix) (IsNumber (InRange I32)) (truth_fits (test (pos q) (pos r))) tt
ordered_fits p test (pointer b q) (int n) = tt
ordered_fits p test (pointer b q) null = tt
ordered_fits p test (int n) w = tt
ordered_fits p test null w = tt

compared_fits : (p : Program) (c : Cmp) (v w : Value) → IfHas (pointers_compare c v w) (IsNumber (InRange I32))
compared_fits p Eq v w = truth_fits (is_same_pointer v w)
compared_fits p Ne v w = truth_fits (not (is_same_pointer v w))
compared_fits p Lt v w = ordered_fits p (compares Lt) v w
compared_fits p Le v w = ordered_fits p (compares Le) v w
compared_fits p Gt v w = ordered_fits p (compares Gt) v w
compared_fits p Ge v w = ordered_fits p (compares Ge) v w

-- an answer by a test, of which more is known where it is true
found_where : (t : Bool) (x y : Found) (Q : Value → Type 0) → (t ≡ true → IfHas x Q) → IfHas y Q
    → IfHas (if t then x else y) Q
found_where true x y Q h i = h refl
found_where false x y Q h i = i

-- ---- how far pointers lie

-- a block is no larger than all blocks together
sized : (o : Order) (p : Program) (bs : List Block) (b n : ℕ) → sum_by (λ (x : Block). x.size) bs ≤ n
    → block_size o p (slice_get bs b) ≤ n
sized o p [] b n h = omega arith
sized o p (x ∷ bs) zero n h = let e = sum_by-cons (λ (y : Block). y.size) x bs in omega (arith, e)
sized o p (x ∷ bs) (suc b) n h =
    let e = sum_by-cons (λ (y : Block). y.size) x bs in sized o p bs b n (omega (arith, e))

pub block_small : (o : Order) (p : Program) → blocks_fit p.types p.blocks ≡ true → (b : ℕ) → size_at o p b ≤ 65536
block_small o p fit b = sized o p p.blocks b 65536 (leb-true (sum_by (λ (x : Block). x.size) p.blocks) 65536
    (and_parts _ (nat_le (sum_by (λ (x : Block). x.size) p.blocks) 65536) fit).1)

-- a place in a block of the program
place_fits : (p : Program) (size b : ℕ) (q : ℤ) → size ≤ 65536 → b < length p.blocks
    → IfHas (place_in size b q) (IsAddress p)
place_fits p size b q small l = found_where (int_le (pos 0) q && int_le q (pos size)) (has (pointer b (unsigned_abs q)))
    (faults bounds) (IsAddress p)
    (λ h.
    let s = and_parts (int_le (pos 0) q) (int_le q (pos size)) h in
    (l, near q (le_fact (pos 0) q s.0) (le_fact q (pos size) s.1))) tt
  where
    near : (z : ℤ) → pos 0 ≤ℤ z → z ≤ℤ pos size → unsigned_abs z ≤ greatest_offset
    near (pos n) h i = omega (arith, ints)
    near (negsuc n) h i = absurd (omega (arith, ints))

moved_fits : (o : Order) (p : Program) → blocks_fit p.types p.blocks ≡ true → (v : Found) (by : ℤ)
    → IfHas v (IsAddress p) → IfHas (moved o p v by) (IsAddress p)
moved_fits o p fit v by i = place_found p v _ (IsAddress p) i
    (λ b q t. place_fits p (size_at o p b) b (pos q +ℤ by) (block_small o p fit b) t.0)

-- an element of an array in place
element_fits : (p : Program) (b q bound unit : ℕ) (i : ℤ) → IsTarget p b q
    → IfHas (element_at b q bound unit i) (IsAddress p)
element_fits p b q bound unit i t =
    found_where ((int_le (pos 0) i && int_lt i (pos bound)) && nat_le (q + unsigned_abs i * unit) greatest_offset)
    (has (pointer b (q + unsigned_abs i * unit))) (faults bounds) (IsAddress p)
    (λ h. (
      t.0,
      leb-true (q + unsigned_abs i * unit) greatest_offset
          (and_parts (int_le (pos 0) i && int_lt i (pos bound)) (nat_le (q + unsigned_abs i * unit) greatest_offset) h).1,
    )) tt

-- a block with a type is there
block_at : (t : Table) (cs : List Block) (seen : List ℕ) (bs : List Block) (b ty : ℕ)
    → block_has t cs seen (slice_get bs b) ty ≡ true → b < length bs
block_at t cs seen [] b ty h = never h
block_at t cs seen (x ∷ bs) zero ty h = omega arith
block_at t cs seen (x ∷ bs) (suc b) ty h = let l = block_at t cs seen bs b ty h in omega arith

-- the right operand of an operator
right_fits : (op : BinOp) (u t : IntType) (own : Option IntType) → right_type op u own ≡ Some t → (y : ℤ) → InRange t y
    → IsRightOperand op u y
right_fits Add u t own e y h = let same : t ≡ u = cc in subst (λ w. InRange w y) same h
right_fits Sub u t own e y h = let same : t ≡ u = cc in subst (λ w. InRange w y) same h
right_fits Mul u t own e y h = let same : t ≡ u = cc in subst (λ w. InRange w y) same h
right_fits Div u t own e y h = let same : t ≡ u = cc in subst (λ w. InRange w y) same h
right_fits Rem u t own e y h = let same : t ≡ u = cc in subst (λ w. InRange w y) same h
right_fits And u t own e y h = let same : t ≡ u = cc in subst (λ w. InRange w y) same h
right_fits Or u t own e y h = let same : t ≡ u = cc in subst (λ w. InRange w y) same h
right_fits Xor u t own e y h = let same : t ≡ u = cc in subst (λ w. InRange w y) same h
right_fits Shl u t own e y h = in_range_some_type t y h
right_fits Shr u t own e y h = in_range_some_type t y h

-- a value of this scalar is one of this sort
sorted : (p : Program) (v : Found) (what : Scalar) (x : Sort) → what ≡ scalar_of x → IfHas v (ValueFits p what)
    → IfHas v (ValueFits p (scalar_of x))
sorted p v what x e h = subst (λ s. IfHas v (ValueFits p s)) e h

some_number : (v : Found) (t : IntType) → IfHas v (IsNumber (InRange t)) → IfHas v (IsNumber IsOfSomeType)
some_number v t h = weaker v (IsNumber (InRange t)) (IsNumber IsOfSomeType)
    (number_weaker (InRange t) IsOfSomeType (in_range_some_type t)) h

-- ---- expressions and places

module _ (o : Order) (p : Program) (fit : blocks_fit p.types p.blocks ≡ true) (seen : List ℕ) (m : Memory)
    (bytes : MemoryFits p m) where
  -- what has an address
  addressed : (a : Place) (x : Sort) → has_sort p.types p.blocks seen (addr_of a) x ≡ true
      → (ty : ℕ) × (place_has p.types p.blocks seen a ty ≡ true) × (Pointer ≡ scalar_of x)
  addressed a (integer t) h = never h
  addressed a (pointer_to ty) h =
      ⊎_elim (λ i. (ty, i, refl))
      (λ i. (let s = type_where p.types p.blocks seen (λ u. is_array_of u ty) (place_has p.types p.blocks seen a)
      i in (s.0, s.2, refl)))
      (or_cases (place_has p.types p.blocks seen a ty)
      (some_type p.types p.blocks seen (λ u. is_array_of u ty) (place_has p.types p.blocks seen a)) h)

  mutual
    pub expr_fits : (e : Expr) (x : Sort) → has_sort p.types p.blocks seen e x ≡ true
        → ValueSatisfies o p m e (ValueFits p (scalar_of x))
    expr_fits (const u v) x h =
        let s = and_parts (is_integer x u) (is_in_range u v) h in
        (tt, sorted p (has (int v)) (Number u) x (integer_scalar x u s.0) (in_range_from_true u v s.1))
    expr_fits null_value x h = (tt, sorted p (has null) Pointer x (pointer_scalar x (λ ty. true) h) tt)
    expr_fits (load what a) x h =
        let s = type_where p.types p.blocks seen (λ u. has_scalar u what && is_sort (sort_of u) x)
        (place_has p.types p.blocks seen a) h in
        let at = place_lies a s.0 s.2 in (
          at,
          sorted p (value o p (load what a) m) what x (loaded_scalar (ty_at p.types p.blocks seen s.0) what x s.1)
              (place_found p (address o p a m) _ (ValueFits p what) at.1
              (λ b q l. loaded_fits p o (model o p) (size_at o p b) m what b q bytes)),
        )
    expr_fits (addr_of a) x h =
        let s = addressed a x h in
        let at = place_lies a s.0 s.1 in
        (at.0, sorted p (address o p a m) Pointer x s.2 at.1)
    expr_fits (binary op u a b) x h =
        let s = three (is_integer x u) (has_sort p.types p.blocks seen a (integer u))
        (is_int (right_type op u (int_type_of b)) (has_sort p.types p.blocks seen b)) h in
        let own = int_where (right_type op u (int_type_of b)) (has_sort p.types p.blocks seen b) s.2 in
        let left = expr_fits a (integer u) s.1 in
        let right = expr_fits b (integer own.0) own.2 in
        let operand : IfHas (value o p b m) (IsNumber (IsRightOperand op u))
        = weaker (value o p b m) (ValueFits p (Number own.0)) (IsNumber (IsRightOperand op u))
        (number_weaker (InRange own.0) (IsRightOperand op u) (right_fits op u own.0 (int_type_of b) own.1))
        right.1 in (
          (left.0, right.0, left.1, operand),
          sorted p (value o p (binary op u a b) m) (Number u) x (integer_scalar x u s.0)
              (number_found (value o p a m) _ (InRange u) (ValueFits p (Number u)) left.1
              (λ y k. number_found (value o p b m) _ (IsRightOperand op u) (ValueFits p (Number u)) operand
              (λ z l. result_found (arith_of op u y z) u (λ w e. arith_in_range op u y z w k e)))),
        )
    expr_fits (convert u e) x h =
        let s = and_parts (is_integer x u) (is_int (int_type_of e) (has_sort p.types p.blocks seen e)) h in
        let own = int_where (int_type_of e) (has_sort p.types p.blocks seen e) s.1 in
        let v = expr_fits e (integer own.0) own.2 in (
          (v.0, some_number (value o p e m) own.0 v.1),
          sorted p (value o p (convert u e) m) (Number u) x (integer_scalar x u s.0)
              (number_found (value o p e m) _ (InRange own.0) (ValueFits p (Number u)) v.1
              (λ y k. wrapped_in_range u y)),
        )
    expr_fits (compare c u a b) x h =
        let s = three (is_integer x I32) (has_sort p.types p.blocks seen a (integer u))
        (has_sort p.types p.blocks seen b (integer u)) h in
        let left = expr_fits a (integer u) s.1 in
        let right = expr_fits b (integer u) s.2 in (
          (left.0, right.0, left.1, right.1),
          sorted p (value o p (compare c u a b) m) (Number I32) x (integer_scalar x I32 s.0)
              (number_found (value o p a m) _ (InRange u) (ValueFits p (Number I32)) left.1
              (λ y k. number_found (value o p b m) _ (InRange u) (ValueFits p (Number I32)) right.1
              (λ z l. truth_fits (compares c y z)))),
        )
    expr_fits (ptr_compare c a b) x h =
        let s = three (is_integer x I32) (is_pointer p.types p.blocks seen (has_sort p.types p.blocks seen a))
        (is_pointer p.types p.blocks seen (has_sort p.types p.blocks seen b)) h in
        let one = pointer_where p.types p.blocks seen (has_sort p.types p.blocks seen a) s.1 in
        let other = pointer_where p.types p.blocks seen (has_sort p.types p.blocks seen b) s.2 in
        let left = expr_fits a (pointer_to one.0) one.1 in
        let right = expr_fits b (pointer_to other.0) other.1 in (
          (left.0, right.0, left.1, right.1),
          sorted p (value o p (ptr_compare c a b) m) (Number I32) x (integer_scalar x I32 s.0)
              (with_found (value o p a m) _ (ValueFits p (Number I32))
              (λ v. with_found (value o p b m) _ (ValueFits p (Number I32)) (λ w. compared_fits p c v w))),
        )
    expr_fits (logical_and a b) x h =
        let s = three (is_integer x I32)
        (is_test p.types p.blocks seen (int_type_of a) (has_sort p.types p.blocks seen a))
        (is_test p.types p.blocks seen (int_type_of b) (has_sort p.types p.blocks seen b)) h in
        let one = tested_where p.types p.blocks seen (int_type_of a) (has_sort p.types p.blocks seen a) s.1 in
        let other = tested_where p.types p.blocks seen (int_type_of b) (has_sort p.types p.blocks seen b) s.2 in (
          ((expr_fits a one.0 one.1).0, (expr_fits b other.0 other.1).0),
          sorted p (value o p (logical_and a b) m) (Number I32) x (integer_scalar x I32 s.0)
              (with_found (value o p a m) _ (ValueFits p (Number I32))
              (λ v. true_found (is_true v) (truth false) _ (ValueFits p (Number I32)) (truth_fits false)
              (with_found (value o p b m) _ (ValueFits p (Number I32)) (λ w. truth_fits (is_true w))))),
        )
    expr_fits (logical_or a b) x h =
        let s = three (is_integer x I32)
        (is_test p.types p.blocks seen (int_type_of a) (has_sort p.types p.blocks seen a))
        (is_test p.types p.blocks seen (int_type_of b) (has_sort p.types p.blocks seen b)) h in
        let one = tested_where p.types p.blocks seen (int_type_of a) (has_sort p.types p.blocks seen a) s.1 in
        let other = tested_where p.types p.blocks seen (int_type_of b) (has_sort p.types p.blocks seen b) s.2 in (
          ((expr_fits a one.0 one.1).0, (expr_fits b other.0 other.1).0),
          sorted p (value o p (logical_or a b) m) (Number I32) x (integer_scalar x I32 s.0)
              (with_found (value o p a m) _ (ValueFits p (Number I32))
              (λ v. true_found (is_true v) _ (truth true) (ValueFits p (Number I32))
              (with_found (value o p b m) _ (ValueFits p (Number I32)) (λ w. truth_fits (is_true w)))
              (truth_fits true))),
        )
    expr_fits (logical_not e) x h =
        let s = and_parts (is_integer x I32)
        (is_test p.types p.blocks seen (int_type_of e) (has_sort p.types p.blocks seen e)) h in
        let one = tested_where p.types p.blocks seen (int_type_of e) (has_sort p.types p.blocks seen e) s.1 in (
          (expr_fits e one.0 one.1).0,
          sorted p (value o p (logical_not e) m) (Number I32) x (integer_scalar x I32 s.0)
              (with_found (value o p e m) _ (ValueFits p (Number I32)) (λ v. truth_fits (not (is_true v)))),
        )
    expr_fits (conditional e a b) x h =
        let s = three (is_test p.types p.blocks seen (int_type_of e) (has_sort p.types p.blocks seen e))
        (has_sort p.types p.blocks seen a x) (has_sort p.types p.blocks seen b x) h in
        let one = tested_where p.types p.blocks seen (int_type_of e) (has_sort p.types p.blocks seen e) s.0 in
        let yes = expr_fits a x s.1 in
        let no = expr_fits b x s.2 in (
          ((expr_fits e one.0 one.1).0, yes.0, no.0),
          with_found (value o p e m) _ (ValueFits p (scalar_of x))
              (λ v. true_found (is_true v) (value o p b m) (value o p a m) (ValueFits p (scalar_of x)) no.1 yes.1),
        )
    expr_fits (ptr_add e unit n back) x h =
        let s = three (is_length unit && is_pointer_where x (λ ty. is_number (size p.types ty) unit))
        (has_sort p.types p.blocks seen e x) (is_int (int_type_of n) (has_sort p.types p.blocks seen n)) h in
        let is = pointer_scalar x (λ ty. is_number (size p.types ty) unit)
        (and_parts (is_length unit) (is_pointer_where x (λ ty. is_number (size p.types ty) unit)) s.0).1 in
        let own = int_where (int_type_of n) (has_sort p.types p.blocks seen n) s.2 in
        let v = expr_fits e x s.1 in
        let k = expr_fits n (integer own.0) own.2 in
        let at : IfHas (value o p e m) (IsAddress p) = subst (λ w. IfHas (value o p e m) (ValueFits p w)) (sym is)
        v.1 in (
          (v.0, k.0, at, some_number (value o p n m) own.0 k.1),
          sorted p (value o p (ptr_add e unit n back) m) Pointer x is
              (with_known (value o p e m) _ (IsAddress p) (IsAddress p) at
              (λ v l. number_found (value o p n m) _ (InRange own.0) (IsAddress p) k.1
              (λ i j. moved_fits o p fit (has v) (distance unit i back) l))),
        )
    expr_fits (cast e) x h =
        let s = and_parts (is_pointer_where x (λ ty. true))
        (is_pointer p.types p.blocks seen (has_sort p.types p.blocks seen e)) h in
        let one = pointer_where p.types p.blocks seen (has_sort p.types p.blocks seen e) s.1 in
        let v = expr_fits e (pointer_to one.0) one.1 in
        (v, sorted p (value o p e m) Pointer x (pointer_scalar x (λ ty. true) s.0) v.1)

    pub place_lies : (a : Place) (ty : ℕ) → place_has p.types p.blocks seen a ty ≡ true → Lies o p m a
    place_lies (block b) ty h =
        let s = and_parts (is_named p.types p.blocks seen b) (block_has p.types p.blocks seen (slice_get p.blocks b) ty) h in
        (tt, (block_at p.types p.blocks seen p.blocks b ty s.1, omega arith))
    place_lies (deref e) ty h = let v = expr_fits e (pointer_to ty) h in (v, v.1)
    place_lies (member a offset) ty h =
        let s = type_where p.types p.blocks seen (λ u. has_member p.types u offset ty)
        (place_has p.types p.blocks seen a) h in
        let at = place_lies a s.0 s.2 in
        (at, moved_fits o p fit (address o p a m) (pos offset) at.1)
    place_lies (element a bound unit i) ty h =
        let s = three (is_length bound && is_length unit && is_number (size p.types ty) unit)
        (some_type p.types p.blocks seen (λ u. is_array_of u ty && has_bound u bound)
        (place_has p.types p.blocks seen a)) (is_int (int_type_of i) (has_sort p.types p.blocks seen i)) h in
        let of = type_where p.types p.blocks seen (λ u. is_array_of u ty && has_bound u bound)
        (place_has p.types p.blocks seen a) s.1 in
        let own = int_where (int_type_of i) (has_sort p.types p.blocks seen i) s.2 in
        let at = place_lies a of.0 of.2 in
        let k = expr_fits i (integer own.0) own.2 in (
          (at.0, k.0, at.1, some_number (value o p i m) own.0 k.1),
          with_known (address o p a m) _ (IsAddress p) (IsAddress p) at.1
              (λ v w. number_found (value o p i m) _ (InRange own.0) (IsAddress p) k.1
              (λ n l. place_found p (has v) _ (IsAddress p) w
              (λ b q j. element_fits p b q bound unit n j))),
        )

pub values_fit : ValuesFit
values_fit o p fit seen m bytes e x h = expr_fits o p fit seen m bytes e x h

pub places_lie : PlacesLie
places_lie o p fit seen m bytes a ty h = place_lies o p fit seen m bytes a ty h
