-- The types of a program give what the code takes for granted.
use Rattle.std.proofs.Common.{◌≡◌, ℕ, ◌≤◌, Bool, true, false, ◌&&◌, ◌||◌, nat_le, List, Option, Some, None, slice_get}
use Rattle.std.proofs.lemmas.Bool.{or_cases}
use Rattle.std.proofs.Common.{⊎_elim, refl, sym, ap, ◌∙◌, subst, arith}
use Rattle.std.proofs.lemmas.Bool.{and_parts}
use Rattle.std.proofs.lemmas.Bool.Decides.{nat_tests}
use Rattle.ep_int.specs.declared.types.IntType.{IntType}
use Rattle.ep_int.specs.declared.types.IntType.TheVariants.{I32}
use Rattle.ep_int.specs.declared.types.BinOp.{BinOp}
use Rattle.ep_int.specs.declared.types.BinOp.TheVariants.{Add, Sub, Mul, Div, Rem, And, Or, Xor, Shl, Shr}
use Rattle.ep_int.specs.declared.types.Scalar.{Scalar}
use Rattle.ep_int.specs.declared.types.Scalar.TheVariants.{Int as Number, Pointer}
use Rattle.ep_int.specs.Arith.{is_in_range}
use Rattle.ep_int.proofs.Arithmetic.{in_range_from_true}
use Rattle.ep_layout.specs.Table.{Table, size}
use Rattle.ep_core.specs.Program.{Place, block, deref, member, element, Expr, const, null_value, load, addr_of, binary}
use Rattle.ep_core.specs.Program.{convert, compare, ptr_compare, logical_and, logical_or, logical_not, conditional}
use Rattle.ep_core.specs.Program.{ptr_add, cast, Block}
use Rattle.ep_core.specs.WellFormed.{Sort, integer, pointer_to, is_integer, is_pointer_where, sort_of, is_sort, ty_at}
use Rattle.ep_core.specs.WellFormed.{has_scalar, is_array_of, has_bound, has_member, is_number, is_length}
use Rattle.ep_core.specs.WellFormed.{int_type_of, right_type, is_int, some_type, is_pointer, is_test, is_named}
use Rattle.ep_core.specs.WellFormed.{block_has, place_has, has_sort, is_same_type}
use Rattle.ep_core.specs.Typed.{scalar_of}
use Rattle.ep_core.proofs.Sorts.{never, three, same_type, loaded_scalar, int_where, type_where}
use Rattle.ep_core.proofs.Sorts.{pointer_where, tested_where}
use Rattle.ep_eval_fits.specs.Fitting.{ExprIsFit, PlaceIsFit}

length_some : (n : ℕ) → is_length n ≡ true → 1 ≤ n
length_some n h = grind (arith, nat_tests)

is_of_type : (t u : IntType) → is_integer (integer t) u ≡ true → ◌≡◌ {A = Option IntType} (Some u) (Some t)
is_of_type t u h = ap Some (sym (same_type t u h))

right_is : (o : BinOp) (t : IntType) (own : Option IntType) (r : IntType) → right_type o t own ≡ Some r → own ≡ Some r → right_type o t own ≡ own
right_is o t own r e f = e ∙ sym f

module _ (t : Table) (bs : List Block) (seen : List ℕ) where
  -- a number has the integer type that its text tells
  pub own_type : (e : Expr) (u : IntType) → has_sort t bs seen e (integer u) ≡ true → int_type_of e ≡ Some u
  own_type (const w v) u h = is_of_type u w (and_parts (is_integer (integer u) w) (is_in_range w v) h).0
  own_type null_value u h = never h
  own_type (load what a) u h =
      let s = type_where t bs seen (λ r. has_scalar r what && is_sort (sort_of r) (integer u)) (place_has t bs seen a) h in
      ap (λ w. int_type_of (load w a)) (loaded_scalar (ty_at t bs seen s.0) what (integer u) s.1)
  own_type (addr_of a) u h = never h
  own_type (binary o w a b) u h =
      is_of_type u w (three (is_integer (integer u) w) (has_sort t bs seen a (integer w))
      (is_int (right_type o w (int_type_of b)) (has_sort t bs seen b)) h).0
  own_type (convert w e) u h =
      is_of_type u w (and_parts (is_integer (integer u) w) (is_int (int_type_of e) (has_sort t bs seen e)) h).0
  own_type (compare c w a b) u h =
      is_of_type u I32 (three (is_integer (integer u) I32) (has_sort t bs seen a (integer w)) (has_sort t bs seen b (integer w)) h).0
  own_type (ptr_compare c a b) u h =
      is_of_type u I32 (three (is_integer (integer u) I32) (is_pointer t bs seen (has_sort t bs seen a)) (is_pointer t bs seen (has_sort t bs seen b)) h).0
  own_type (logical_and a b) u h =
      is_of_type u I32 (three (is_integer (integer u) I32) (is_test t bs seen (int_type_of a) (has_sort t bs seen a)) (is_test t bs seen (int_type_of b) (has_sort t bs seen b)) h).0
  own_type (logical_or a b) u h =
      is_of_type u I32 (three (is_integer (integer u) I32) (is_test t bs seen (int_type_of a) (has_sort t bs seen a)) (is_test t bs seen (int_type_of b) (has_sort t bs seen b)) h).0
  own_type (logical_not e) u h =
      is_of_type u I32 (and_parts (is_integer (integer u) I32) (is_test t bs seen (int_type_of e) (has_sort t bs seen e)) h).0
  own_type (conditional e a b) u h =
      own_type a u (three (is_test t bs seen (int_type_of e) (has_sort t bs seen e)) (has_sort t bs seen a (integer u)) (has_sort t bs seen b (integer u)) h).1
  own_type (ptr_add e unit n back) u h =
      let s = three (is_length unit && is_pointer_where (integer u) (λ ty. is_number (size t ty) unit))
      (has_sort t bs seen e (integer u)) (is_int (int_type_of n) (has_sort t bs seen n)) h in
      never (and_parts (is_length unit) false s.0).1
  own_type (cast e) u h = never h

  addressed : (a : Place) (x : Sort) → has_sort t bs seen (addr_of a) x ≡ true → (ty : ℕ) × (place_has t bs seen a ty ≡ true)
  addressed a (integer u) h = never h
  addressed a (pointer_to ty) h =
      ⊎_elim (λ p. (ty, p)) (λ q. (let s = type_where t bs seen (λ u. is_array_of u ty) (place_has t bs seen a) q in (s.0, s.2)))
      (or_cases (place_has t bs seen a ty) (some_type t bs seen (λ u. is_array_of u ty) (place_has t bs seen a)) h)

  mutual
    pub expr_is_fit : (e : Expr) (x : Sort) → has_sort t bs seen e x ≡ true → ExprIsFit e
    expr_is_fit (const w v) x h = in_range_from_true w v (and_parts (is_integer x w) (is_in_range w v) h).1
    expr_is_fit null_value x h = tt
    expr_is_fit (load what a) x h =
        let s = type_where t bs seen (λ r. has_scalar r what && is_sort (sort_of r) x) (place_has t bs seen a) h in
        place_is_fit a s.0 s.2
    expr_is_fit (addr_of a) x h = let s = addressed a x h in place_is_fit a s.0 s.1
    expr_is_fit (binary o w a b) x h =
        let s = three (is_integer x w) (has_sort t bs seen a (integer w))
        (is_int (right_type o w (int_type_of b)) (has_sort t bs seen b)) h in
        let own = int_where (right_type o w (int_type_of b)) (has_sort t bs seen b) s.2 in (
          expr_is_fit a (integer w) s.1,
          expr_is_fit b (integer own.0) own.2,
          own_type a w s.1,
          right_is o w (int_type_of b) own.0 own.1 (own_type b own.0 own.2),
        )
    expr_is_fit (convert w e) x h =
        let s = and_parts (is_integer x w) (is_int (int_type_of e) (has_sort t bs seen e)) h in
        let own = int_where (int_type_of e) (has_sort t bs seen e) s.1 in
        expr_is_fit e (integer own.0) own.2
    expr_is_fit (compare c w a b) x h =
        let s = three (is_integer x I32) (has_sort t bs seen a (integer w)) (has_sort t bs seen b (integer w)) h in
        (expr_is_fit a (integer w) s.1, expr_is_fit b (integer w) s.2)
    expr_is_fit (ptr_compare c a b) x h =
        let s = three (is_integer x I32) (is_pointer t bs seen (has_sort t bs seen a)) (is_pointer t bs seen (has_sort t bs seen b)) h in
        let one = pointer_where t bs seen (has_sort t bs seen a) s.1 in
        let other = pointer_where t bs seen (has_sort t bs seen b) s.2 in
        (expr_is_fit a (pointer_to one.0) one.1, expr_is_fit b (pointer_to other.0) other.1)
    expr_is_fit (logical_and a b) x h =
        let s = three (is_integer x I32) (is_test t bs seen (int_type_of a) (has_sort t bs seen a)) (is_test t bs seen (int_type_of b) (has_sort t bs seen b)) h in
        let one = tested_where t bs seen (int_type_of a) (has_sort t bs seen a) s.1 in
        let other = tested_where t bs seen (int_type_of b) (has_sort t bs seen b) s.2 in
        (expr_is_fit a one.0 one.1, expr_is_fit b other.0 other.1)
    expr_is_fit (logical_or a b) x h =
        let s = three (is_integer x I32) (is_test t bs seen (int_type_of a) (has_sort t bs seen a)) (is_test t bs seen (int_type_of b) (has_sort t bs seen b)) h in
        let one = tested_where t bs seen (int_type_of a) (has_sort t bs seen a) s.1 in
        let other = tested_where t bs seen (int_type_of b) (has_sort t bs seen b) s.2 in
        (expr_is_fit a one.0 one.1, expr_is_fit b other.0 other.1)
    expr_is_fit (logical_not e) x h =
        let s = and_parts (is_integer x I32) (is_test t bs seen (int_type_of e) (has_sort t bs seen e)) h in
        let one = tested_where t bs seen (int_type_of e) (has_sort t bs seen e) s.1 in
        expr_is_fit e one.0 one.1
    expr_is_fit (conditional e a b) x h =
        let s = three (is_test t bs seen (int_type_of e) (has_sort t bs seen e)) (has_sort t bs seen a x) (has_sort t bs seen b x) h in
        let one = tested_where t bs seen (int_type_of e) (has_sort t bs seen e) s.0 in
        (expr_is_fit e one.0 one.1, expr_is_fit a x s.1, expr_is_fit b x s.2)
    expr_is_fit (ptr_add e unit n back) x h =
        let s = three (is_length unit && is_pointer_where x (λ ty. is_number (size t ty) unit)) (has_sort t bs seen e x)
        (is_int (int_type_of n) (has_sort t bs seen n)) h in
        let own = int_where (int_type_of n) (has_sort t bs seen n) s.2 in (
          expr_is_fit e x s.1,
          expr_is_fit n (integer own.0) own.2,
          length_some unit (and_parts (is_length unit) (is_pointer_where x (λ ty. is_number (size t ty) unit)) s.0).0,
        )
    expr_is_fit (cast e) x h =
        let s = and_parts (is_pointer_where x (λ ty. true)) (is_pointer t bs seen (has_sort t bs seen e)) h in
        let one = pointer_where t bs seen (has_sort t bs seen e) s.1 in
        expr_is_fit e (pointer_to one.0) one.1

    pub place_is_fit : (a : Place) (ty : ℕ) → place_has t bs seen a ty ≡ true → PlaceIsFit a
    place_is_fit (block b) ty h = tt
    place_is_fit (deref e) ty h = expr_is_fit e (pointer_to ty) h
    place_is_fit (member a offset) ty h =
        let s = type_where t bs seen (λ u. has_member t u offset ty) (place_has t bs seen a) h in
        place_is_fit a s.0 s.2
    place_is_fit (element a bound unit i) ty h =
        let last = is_int (int_type_of i) (has_sort t bs seen i) in
        let array = some_type t bs seen (λ u. is_array_of u ty && has_bound u bound) (place_has t bs seen a) in
        let first = and_parts (is_length bound && is_length unit && is_number (size t ty) unit && array) last h in
        let second = and_parts (is_length bound && is_length unit && is_number (size t ty) unit) array first.0 in
        let third = three (is_length bound) (is_length unit) (is_number (size t ty) unit) second.0 in
        let s = type_where t bs seen (λ u. is_array_of u ty && has_bound u bound) (place_has t bs seen a) second.1 in
        let own = int_where (int_type_of i) (has_sort t bs seen i) first.1 in
        (place_is_fit a s.0 s.2, expr_is_fit i (integer own.0) own.2, length_some unit third.1)
