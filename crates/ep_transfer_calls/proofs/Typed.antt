-- What the tests of a well-formed program tell of arguments, and of places that take results.
use Rattle.std.proofs.Common.{◌≡◌, ℕ, Bool, true, ◌&&◌, nat_eq, List, [], ◌∷◌, slice_get, Option, Some, None}
use Rattle.std.proofs.Common.{option_to_list, refl, subst}
use Rattle.std.specs.List.{list_all}
use Rattle.std.specs.Option.{option_and_then}
use Rattle.std.proofs.lemmas.Bool.{and_parts}
use Rattle.ep_int.specs.declared.types.Scalar.{Scalar}
use Rattle.ep_int.specs.declared.types.Scalar.TheVariants.{Int as Number, Pointer}
use Rattle.ep_layout.specs.declared.types.Ty.{Ty}
use Rattle.ep_layout.specs.declared.types.Ty.TheVariants.{Void, Int, Ptr, Array, Aggregate}
use Rattle.ep_core.specs.Program.{Expr, Dest, Function, Program}
use Rattle.ep_core.specs.WellFormed.{has_scalar, has_type, place_has, ty_at, can_take, takes_result, block_type}
use Rattle.ep_core.specs.WellFormed.{holds_scalar, result_type, arguments_fit, is_well_formed}
use Rattle.ep_core.proofs.Operands.{holds_at}
use Rattle.ep_core.proofs.Sorts.{never, type_where, typed_where, sort_scalar, same_scalar}
use Rattle.ep_transfer_stores.specs.Typed.{IsExpr, IsPlace}
use Rattle.ep_transfer_calls.specs.Typed.{AreArguments, TakesResult, AreTyped}
use Rattle.ep_transfers.specs.Taken.{AreTaken, numbers, pointers}

-- a place that takes a result
pub record Receives (p : Program) (r : ℕ × Scalar) (d : Dest) : Type 0 where
  pub place : IsPlace p d.place
  pub taken : AreTaken r.1 d.what

module _ (p : Program) (seen : List ℕ) where
  -- ---- arguments

  expr_of_type : (w : Scalar) (e : Expr) (ty : ℕ) → has_scalar (ty_at p.types p.blocks seen ty) w ≡ true
      → has_type p.types p.blocks seen e ty ≡ true → IsExpr p w e
  expr_of_type w e ty s h =
      let x = typed_where p.types p.blocks seen e ty h in
      record {
        seen = seen;
        sort = x.0;
        has = x.2;
        scalar = sort_scalar (ty_at p.types p.blocks seen ty) w x.0 s x.1;
      }

  argument_typed : (b : ℕ × Scalar) (e : Expr) (params : List (ℕ × Scalar)) (es : List Expr) (o : Option ℕ)
      → block_type (slice_get p.blocks b.0) ≡ o → has_scalar (option_and_then (slice_get p.types.types) o) b.1 ≡ true
      → arguments_fit p.types p.blocks seen (b ∷ params) (e ∷ es) ≡ true
      → IsExpr p b.1 e × (arguments_fit p.types p.blocks seen params es ≡ true)
  argument_typed b e params es None q s h = never (rw q at h)
  argument_typed b e params es (Some ty) q s h =
      let x = and_parts (has_type p.types p.blocks seen e ty) (arguments_fit p.types p.blocks seen params es)
      (rw q at h) in
      (expr_of_type b.1 e ty s x.0, x.1)

  arguments_typed : (params : List (ℕ × Scalar)) (es : List Expr)
      → list_all (holds_scalar p.types p.blocks) params ≡ true
      → arguments_fit p.types p.blocks seen params es ≡ true → AreTyped p params es
  arguments_typed [] [] s h = tt
  arguments_typed [] (e ∷ es) s h = never h
  arguments_typed (b ∷ params) [] s h = never h
  arguments_typed (b ∷ params) (e ∷ es) s h =
      let t = and_parts (holds_scalar p.types p.blocks b) (list_all (holds_scalar p.types p.blocks) params) s in
      let x = argument_typed b e params es (block_type (slice_get p.blocks b.0)) refl t.0 h in
      (x.0, arguments_typed params es t.1 x.1)

  -- ---- results that are received

  both_receive : (any same : Bool) (r u : Option Ty) (old new : Scalar) → has_scalar r old ≡ true
      → has_scalar u new ≡ true → can_take p.types p.blocks seen any r u same ≡ true → AreTaken old new
  both_receive any same (Some (Int r)) (Some (Int u)) old new a b h =
      subst (λ x. AreTaken x new) (same_scalar (Number r) old a)
      (subst (λ x. AreTaken (Number r) x) (same_scalar (Number u) new b) (numbers r u))
  both_receive any same (Some (Ptr r)) (Some (Ptr u)) old new a b h =
      subst (λ x. AreTaken x new) (same_scalar Pointer old a)
      (subst (λ x. AreTaken Pointer x) (same_scalar Pointer new b) pointers)
  both_receive any same None u old new a b h = never a
  both_receive any same (Some Void) u old new a b h = never a
  both_receive any same (Some (Array r n)) u old new a b h = never a
  both_receive any same (Some (Aggregate r)) u old new a b h = never a
  both_receive any same (Some (Int r)) None old new a b h = never b
  both_receive any same (Some (Int r)) (Some Void) old new a b h = never b
  both_receive any same (Some (Int r)) (Some (Ptr u)) old new a b h = never h
  both_receive any same (Some (Int r)) (Some (Array u n)) old new a b h = never b
  both_receive any same (Some (Int r)) (Some (Aggregate u)) old new a b h = never b
  both_receive any same (Some (Ptr r)) None old new a b h = never b
  both_receive any same (Some (Ptr r)) (Some Void) old new a b h = never b
  both_receive any same (Some (Ptr r)) (Some (Int u)) old new a b h = never h
  both_receive any same (Some (Ptr r)) (Some (Array u n)) old new a b h = never b
  both_receive any same (Some (Ptr r)) (Some (Aggregate u)) old new a b h = never b

  received_by : (o : Option ℕ) (r : ℕ × Scalar) (d : Dest)
      → has_scalar (option_and_then (slice_get p.types.types) o) r.1 ≡ true
      → takes_result p.types p.blocks seen o (Some d) ≡ true → Receives p r d
  received_by None r d s h = never h
  received_by (Some ty) r d s h =
      let x = type_where p.types p.blocks seen (λ u. has_scalar u d.what)
      (λ u. can_take p.types p.blocks seen d.cast (ty_at p.types p.blocks seen ty)
      (ty_at p.types p.blocks seen u) (nat_eq ty u)
      && place_has p.types p.blocks seen d.place u) h in
      let q = and_parts
      (can_take p.types p.blocks seen d.cast (ty_at p.types p.blocks seen ty)
      (ty_at p.types p.blocks seen x.0) (nat_eq ty x.0))
      (place_has p.types p.blocks seen d.place x.0) x.2 in
      record {
        place = record { seen = seen; ty = x.0; has = q.1 };
        taken = both_receive d.cast (nat_eq ty x.0) (ty_at p.types p.blocks seen ty)
            (ty_at p.types p.blocks seen x.0) r.1 d.what s x.1 q.0;
      }

  result_received : (r : ℕ × Scalar) (d : Dest) → holds_scalar p.types p.blocks r ≡ true
      → takes_result p.types p.blocks seen (result_type p.blocks (Some r)) (Some d) ≡ true → Receives p r d
  result_received r d s h = received_by (block_type (slice_get p.blocks r.0)) r d s h

-- ---- of the functions of a well-formed program

pub call_typed : (p : Program) → is_well_formed p ≡ true → (f : Function) (es : List Expr) → AreArguments p f es
    → AreTyped p f.params es
call_typed p formed f es h =
    arguments_typed p h.seen f.params es (holds_at p formed h.number f h.is_there).params h.fits

result_holds : (p : Program) (o : Option (ℕ × Scalar)) (r : ℕ × Scalar) → o ≡ Some r
    → list_all (holds_scalar p.types p.blocks) (option_to_list o) ≡ true → holds_scalar p.types p.blocks r ≡ true
result_holds p None r e h = absurd (cc)
result_holds p (Some x) r e h =
    let same : x ≡ r = cc in
    subst (λ z. holds_scalar p.types p.blocks z ≡ true) same (and_parts (holds_scalar p.types p.blocks x) true h).0

pub call_receives : (p : Program) → is_well_formed p ≡ true → (f : Function) (r : ℕ × Scalar) (d : Dest)
    → f.result ≡ Some r → TakesResult p f (Some d) → Receives p r d
call_receives p formed f r d e h =
    result_received p h.seen r d (result_holds p f.result r e (holds_at p formed h.number f h.is_there).result)
    (subst (λ o. takes_result p.types p.blocks h.seen (result_type p.blocks o) (Some d) ≡ true) e h.fits)
