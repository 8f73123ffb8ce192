-- What the tests of a well-formed program tell of the expressions and places in its statements.
use Rattle.std.proofs.Common.{◌≡◌, ℕ, ◌<◌, true, false, ◌&&◌, not, length, List, slice_get, Option, Some, None}
use Rattle.std.proofs.lemmas.Bool.{or_cases}
use Rattle.std.proofs.Common.{IfSome, ⊎_elim, refl, sym, ap, subst}
use Rattle.std.specs.Prelude.{is_some, option_to_list}
use Rattle.std.specs.List.{list_all}
use Rattle.std.specs.Option.{option_and_then, option_map, option_map_or}
use Rattle.std.proofs.lemmas.Bool.{and_parts}
use Rattle.ep_int.specs.declared.types.IntType.{IntType}
use Rattle.ep_int.specs.declared.types.IntType.TheVariants.{U8}
use Rattle.ep_int.specs.declared.types.Scalar.{Scalar}
use Rattle.ep_int.specs.declared.types.Scalar.TheVariants.{Int as Number, Pointer}
use Rattle.ep_layout.specs.declared.types.Ty.{Ty}
use Rattle.ep_layout.specs.declared.types.Ty.TheVariants.{Void, Int, Ptr, Array, Aggregate}
use Rattle.ep_layout.specs.Table.{size}
use Rattle.ep_core.specs.declared.tree.Dest as tree
use Rattle.ep_core.specs.declared.tree.Expr as tree_expr
use Rattle.ep_core.specs.Program.{Expr, const, null_value, load, addr_of, binary, convert, compare, ptr_compare}
use Rattle.ep_core.specs.Program.{logical_and, logical_or, logical_not, conditional, ptr_add, cast, Place, Dest}
use Rattle.ep_core.specs.Program.{Program, What, simple, Simple, eval, assign, clear, copy_aggregate, copy_bytes}
use Rattle.ep_core.specs.Program.{fill, input, output, read_bytes, write_bytes, returns}
use Rattle.ep_core.specs.Typed.{scalar_of}
use Rattle.ep_core.specs.View.{dest_view, expr_view, place_view}
use Rattle.ep_core.specs.WellFormed.{Sort, integer, pointer_to, int_type_of, is_int, is_pointer, is_tested}
use Rattle.ep_core.specs.WellFormed.{is_address, is_length, has_scalar, has_sort, has_type, is_sort, sort_of}
use Rattle.ep_core.specs.WellFormed.{place_has, ty_at, block_type, holds_scalar, result_type, result_fits}
use Rattle.ep_core.specs.WellFormed.{is_well_formed}
use Rattle.ep_core.proofs.Operands.{holds_at}
use Rattle.ep_core.proofs.Sorts.{never, three, int_where, type_where, pointer_where, typed_where}
use Rattle.ep_core.proofs.Sorts.{sort_scalar, number_scalar}
use Rattle.ep_flows.specs.View.{simple_of}
use Rattle.ep_flows.specs.Typed.{IsTypedSimple}
use Rattle.ep_transfer_stores.specs.Typed.{IsExpr, IsPlace, IsNumber}
use Rattle.ep_transfer_simple.proofs.Laid.{is_there}

-- the scalar of an expression's own type
abbrev own_scalar : Option IntType → Scalar
own_scalar t = option_map_or Number t Pointer

module _ (p : Program) (seen : List ℕ) where
  -- ---- expressions and places

  expr_of_sort : (w : Scalar) (e : Expr) (x : Sort) → w ≡ scalar_of x → has_sort p.types p.blocks seen e x ≡ true
      → IsExpr p w e
  expr_of_sort w e x s h = record { seen = seen; sort = x; has = h; scalar = s }

  place_of_type : (a : Place) (ty : ℕ) → place_has p.types p.blocks seen a ty ≡ true → IsPlace p a
  place_of_type a ty h = record { seen = seen; ty = ty; has = h }

  expr_of_type : (w : Scalar) (e : Expr) (ty : ℕ) → has_scalar (ty_at p.types p.blocks seen ty) w ≡ true
      → has_type p.types p.blocks seen e ty ≡ true → IsExpr p w e
  expr_of_type w e ty s h =
      let x = typed_where p.types p.blocks seen e ty h in
      expr_of_sort w e x.0 (sort_scalar (ty_at p.types p.blocks seen ty) w x.0 s x.1) x.2

  address_typed : (e : Expr) → is_address p.types p.blocks seen e ≡ true → IsExpr p Pointer e
  address_typed e h =
      let x = pointer_where p.types p.blocks seen (has_sort p.types p.blocks seen e) h in
      expr_of_sort Pointer e (pointer_to x.0) refl x.1

  -- a pointer's expression has no integer type
  pointer_untyped : (e : Expr) (ty : ℕ) → has_sort p.types p.blocks seen e (pointer_to ty) ≡ true
      → int_type_of e ≡ None
  pointer_untyped (const u v) ty h = never h
  pointer_untyped null_value ty h = refl
  pointer_untyped (load (Number t) a) ty h =
      let x = type_where p.types p.blocks seen (λ u. has_scalar u (Number t) && is_sort (sort_of u) (pointer_to ty))
      (place_has p.types p.blocks seen a) h in
      no_number (ty_at p.types p.blocks seen x.0) x.1
    where
      no_number : (u : Option Ty) → (has_scalar u (Number t) && is_sort (sort_of u) (pointer_to ty)) ≡ true
          → Some t ≡ None
      no_number None h = never h
      no_number (Some Void) h = never h
      no_number (Some (Int r)) h = never (and_parts (has_scalar (Some (Int r)) (Number t)) false h).1
      no_number (Some (Ptr r)) h = never h
      no_number (Some (Array r n)) h = never h
      no_number (Some (Aggregate r)) h = never h
  pointer_untyped (load Pointer a) ty h = refl
  pointer_untyped (addr_of a) ty h = refl
  pointer_untyped (binary op u a b) ty h = never h
  pointer_untyped (convert u e) ty h = never h
  pointer_untyped (compare c u a b) ty h = never h
  pointer_untyped (ptr_compare c a b) ty h = never h
  pointer_untyped (logical_and a b) ty h = never h
  pointer_untyped (logical_or a b) ty h = never h
  pointer_untyped (logical_not e) ty h = never h
  pointer_untyped (conditional e a b) ty h =
      let q = three (is_tested p.types p.blocks seen e) (has_sort p.types p.blocks seen a (pointer_to ty))
      (has_sort p.types p.blocks seen b (pointer_to ty)) h in
      pointer_untyped a ty q.1
  pointer_untyped (ptr_add e unit n back) ty h = refl
  pointer_untyped (cast e) ty h = refl

  -- what is tested, or evaluated alone, is of the scalar of its own type
  tested_typed : (e : Expr) → is_tested p.types p.blocks seen e ≡ true → IsExpr p (own_scalar (int_type_of e)) e
  tested_typed e h =
      ⊎_elim
      (λ a. (let i = int_where (int_type_of e) (has_sort p.types p.blocks seen e) a in
      expr_of_sort (own_scalar (int_type_of e)) e (integer i.0) (ap own_scalar i.1) i.2))
      (λ b. (let x = pointer_where p.types p.blocks seen (has_sort p.types p.blocks seen e) b in
      expr_of_sort (own_scalar (int_type_of e)) e (pointer_to x.0) (ap own_scalar (pointer_untyped e x.0 x.1)) x.1))
      (or_cases (is_int (int_type_of e) (has_sort p.types p.blocks seen e))
      (is_pointer p.types p.blocks seen (has_sort p.types p.blocks seen e)) h)

  -- a value of a block's type is of the scalar that the block holds
  block_typed : (o : Option ℕ) (w : Scalar) (e : Expr)
      → has_scalar (option_and_then (slice_get p.types.types) o) w ≡ true
      → result_fits p.types p.blocks seen o (Some e) ≡ true → IsExpr p w e
  block_typed None w e s h = never h
  block_typed (Some ty) w e s h = expr_of_type w e ty s h

-- ---- statements, in a function with this result

module _ (p : Program) (result : Option (ℕ × Scalar)) where
  pub typed_by : (w : What) (v : Simple) → w ≡ simple v → IsTypedSimple p result (simple_of w)
      → IsTypedSimple p result v
  typed_by w v e t = subst (λ u. IsTypedSimple p result (simple_of u)) e t

  pub eval_typed : (w : Scalar) (e : Expr) → w ≡ option_map_or Number (int_type_of e) Pointer
      → IsTypedSimple p result (eval e) → IsExpr p w e
  eval_typed w e s t = subst (λ x. IsExpr p x e) (sym s) (tested_typed p t.seen e t.fits)

  pub assign_typed : (w : Scalar) (a : Place) (e : Expr) → IsTypedSimple p result (assign w a e)
      → IsPlace p a × IsExpr p w e
  assign_typed w a e t =
      let x = type_where p.types p.blocks t.seen (λ u. has_scalar u w)
      (λ ty. place_has p.types p.blocks t.seen a ty && has_type p.types p.blocks t.seen e ty) t.fits in
      let q = and_parts (place_has p.types p.blocks t.seen a x.0) (has_type p.types p.blocks t.seen e x.0) x.2 in
      (place_of_type p t.seen a x.0 q.0, expr_of_type p t.seen w e x.0 x.1 q.1)

  pub clear_typed : (a : Place) (ty : ℕ) → IsTypedSimple p result (clear a ty) → IsPlace p a × ty < length p.types.types
  clear_typed a ty t =
      let q = and_parts (place_has p.types p.blocks t.seen a ty) (is_some (size p.types ty)) t.fits in
      (place_of_type p t.seen a ty q.0, is_there p.types ty q.1)

  pub record AreObjects (a b : Place) (ty : ℕ) : Type 0 where
    pub to : IsPlace p a
    pub from : IsPlace p b
    pub there : ty < length p.types.types

  pub aggregate_typed : (a b : Place) (ty : ℕ) → IsTypedSimple p result (copy_aggregate a b ty) → AreObjects a b ty
  aggregate_typed a b ty t =
      let q = three (place_has p.types p.blocks t.seen a ty) (place_has p.types p.blocks t.seen b ty)
      (is_some (size p.types ty)) t.fits in
      record {
        to = place_of_type p t.seen a ty q.0;
        from = place_of_type p t.seen b ty q.1;
        there = is_there p.types ty q.2;
      }

  pub bytes_typed : (a b : Expr) (n : ℕ) → IsTypedSimple p result (copy_bytes a b n)
      → IsExpr p Pointer a × IsExpr p Pointer b
  bytes_typed a b n t =
      let q = three (is_length n) (is_address p.types p.blocks t.seen a) (is_address p.types p.blocks t.seen b)
      t.fits in
      (address_typed p t.seen a q.1, address_typed p t.seen b q.2)

  pub fill_typed : (a e : Expr) (n : ℕ) → IsTypedSimple p result (fill a e n)
      → IsExpr p Pointer a × IsExpr p (Number U8) e
  fill_typed a e n t =
      let q = three (is_length n) (is_address p.types p.blocks t.seen a)
      (has_sort p.types p.blocks t.seen e (integer U8)) t.fits in
      (address_typed p t.seen a q.1, expr_of_sort p t.seen (Number U8) e (integer U8) refl q.2)

  pub output_typed : (u : IntType) (e : Expr) → IsTypedSimple p result (output u e) → IsExpr p (Number u) e
  output_typed u e t = expr_of_sort p t.seen (Number u) e (integer u) refl t.fits

  pub read_typed : (e : Expr) (n : ℕ) → IsTypedSimple p result (read_bytes e n) → IsExpr p Pointer e
  read_typed e n t =
      address_typed p t.seen e (and_parts (is_length n) (is_address p.types p.blocks t.seen e) t.fits).1

  pub write_typed : (e : Expr) (n : ℕ) → IsTypedSimple p result (write_bytes e n) → IsExpr p Pointer e
  write_typed e n t =
      address_typed p t.seen e (and_parts (is_length n) (is_address p.types p.blocks t.seen e) t.fits).1

  dest_typed : (u : IntType) (d : Dest) → IsTypedSimple p result (input u (Some d))
      → IsPlace p d.place × IsNumber d.what
  dest_typed u d t =
      let x = type_where p.types p.blocks t.seen (λ u. has_scalar u d.what && not (has_scalar u Pointer))
      (place_has p.types p.blocks t.seen d.place) t.fits in
      let n = number_scalar (ty_at p.types p.blocks t.seen x.0) d.what x.1 in
      (place_of_type p t.seen d.place x.0 x.2, record { t = n.0; is = n.1 })

  pub input_place : (u : IntType) (d : Option tree.Dest) → IsTypedSimple p result (input u (option_map dest_view d))
      → IfSome d (λ d. IsPlace p (place_view d.place))
  input_place u None t = tt
  input_place u (Some d) t = (dest_typed u (dest_view d) t).0

  pub input_number : (u : IntType) (d : Option tree.Dest) → IsTypedSimple p result (input u (option_map dest_view d))
      → IfSome d (λ d. IsNumber d.what)
  input_number u None t = tt
  input_number u (Some d) t = (dest_typed u (dest_view d) t).1

-- ---- results

module _ (p : Program) where
  value_typed : is_well_formed p ≡ true → (r : ℕ × Scalar) (e : Expr)
      → IsTypedSimple p (Some r) (returns (Some e)) → IsExpr p r.1 e
  value_typed formed r e t =
      let all : (holds_scalar p.types p.blocks r && true) ≡ true
      = subst (λ o. list_all (holds_scalar p.types p.blocks) (option_to_list o) ≡ true) t.gives
      (holds_at p formed t.here t.function t.is_there).result in
      block_typed p t.seen (block_type (slice_get p.blocks r.0)) r.1 e
      (and_parts (holds_scalar p.types p.blocks r) true all).0
      (subst (λ o. result_fits p.types p.blocks t.seen (result_type p.blocks o) (Some e) ≡ true) t.gives t.fits)

  pub result_typed : is_well_formed p ≡ true → (o : Option (ℕ × Scalar)) (r : ℕ × Scalar) → o ≡ Some r
      → (x : Option tree_expr.Expr) (e : tree_expr.Expr) → x ≡ Some e
      → IsTypedSimple p o (returns (option_map expr_view x)) → IsExpr p r.1 (expr_view e)
  result_typed formed o r f x e g t =
      value_typed formed r (expr_view e)
      (subst (λ y. IsTypedSimple p (Some r) (returns (option_map expr_view y))) g
      (subst (λ y. IsTypedSimple p y (returns (option_map expr_view x))) f t))
