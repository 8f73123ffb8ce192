-- Blocks of parameters and results: what they hold, and where a value in them lies.
use Rattle.std.proofs.Common.{◌≡◌, ℕ, ◌++◌, pos, Bool, true, false, ◌&&◌, List, [], ◌∷◌, length, slice_get, Option, Some, None}
use Rattle.std.proofs.Common.{refl, sym, ap, ◌∙◌, subst}
use Rattle.std.specs.Prelude.{option_and_then}
use Rattle.std.proofs.lemmas.Bool.{eq-eqb, or_left, or_right, or_cases}
use Rattle.std.proofs.Common.{⊎_elim}
use Rattle.std.proofs.lemmas.Option.{slice_get_within}
use Rattle.ep_int.specs.declared.types.Scalar.{Scalar}
use Rattle.ep_int.specs.declared.types.Scalar.TheVariants.{Int, Pointer}
use Rattle.ep_int.specs.Memory.{contains}
use Rattle.ep_int.proofs.Basics.{contains-right}
use Rattle.ep_layout.specs.declared.types.Ty.{Ty}
use Rattle.ep_layout.specs.declared.types.Ty.TheVariants as ty
use Rattle.ep_layout.specs.Table.{Table, target_of}
use Rattle.ep_domain.specs.Domain.{Ops}
use Rattle.ep_cells.specs.declared.cell.Value.{Value}
use Rattle.ep_cells.specs.declared.cell.Value.TheVariants.{Num, Ptr}
use Rattle.ep_cells.specs.States.{IsOfSort}
use Rattle.ep_core.specs.Program.{Block, Program, Expr, block}
use Rattle.ep_core.specs.Runs.{is_global}
use Rattle.ep_core.specs.Typed.{scalar_of}
use Rattle.ep_core.specs.WellFormed.{Sort, integer, pointer_to, holds_scalar, has_scalar, block_type, is_named, block_has}
use Rattle.ep_core.specs.WellFormed.{has_type, has_sort, sort_of, ty_at}
use Rattle.ep_core.proofs.Sorts.{never, typed_where}
use Rattle.ep_tame_laws.proofs.Found.{none_some}
use Rattle.ep_tame_places.specs.Places.{PointsTo, LiesAt}
use Rattle.ep_tame_places.specs.Laws.{PlaceLaws}
use Rattle.ep_tame_states.specs.States.{ValueHas, IsInBlock}
use Rattle.ep_tame_twins.proofs.Values.{value_as}

-- a pointer type
pub pointer_at : (t : Table) (u v : ℕ) → target_of t u ≡ Some v → slice_get t.types u ≡ Some (ty.Ptr v)
pointer_at t u v h = by_ty (slice_get t.types u) refl
  where
    by_ty : (o : Option Ty) → slice_get t.types u ≡ o → o ≡ Some (ty.Ptr v)
    by_ty None q = none_some v (rw q at h)
    by_ty (Some ty.Void) q = none_some v (rw q at h)
    by_ty (Some (ty.Int i)) q = none_some v (rw q at h)
    by_ty (Some (ty.Ptr e)) q = let s : Some e ≡ Some v = rw q at h in ap (λ (o : ℕ). Some (ty.Ptr o)) (some_is e v s)
      where
        some_is : (a b : ℕ) → Some a ≡ Some b → a ≡ b
        some_is a b e = cc
    by_ty (Some (ty.Array e m)) q = none_some v (rw q at h)
    by_ty (Some (ty.Aggregate a)) q = none_some v (rw q at h)

-- what has a pointer type has its sort
pub pointer_sorted : (p : Program) (seen : List ℕ) (e : Expr) (u ty : ℕ) → has_type p.types p.blocks seen e u ≡ true
    → target_of p.types u ≡ Some ty → has_sort p.types p.blocks seen e (pointer_to ty) ≡ true
pointer_sorted p seen e u ty typed target =
    let x = typed_where p.types p.blocks seen e u typed in
    let q : Some (pointer_to ty) ≡ Some x.0 = sym (ap sort_of (pointer_at p.types u ty target)) ∙ x.1 in
    subst (λ s. has_sort p.types p.blocks seen e s ≡ true) (sym (sort_is (pointer_to ty) x.0 q)) x.2
  where
    sort_is : (a b : Sort) → Some a ≡ Some b → a ≡ b
    sort_is a b e = cc

module _ {N : Type 0} (D : Ops N) (p : Program) where
  -- a value at the start of its own block, where that can be named
  pub own_lies : PlaceLaws D p → (near : List ℕ) (b : ℕ) (x : Block) → slice_get p.blocks b ≡ Some x
      → is_named p.types p.blocks near b ≡ true → LiesAt D p near (block b) x.ty b (D.single (pos 0))
  own_lies places near b x there named =
      places.of_block near b x.ty named
      (subst (λ (o : Option Block). block_has p.types p.blocks near o x.ty ≡ true) (sym there) (eq-eqb x.ty x.ty refl))

  -- where more blocks can be named, pointers point as before
  points_more : (bs live : List ℕ) (ty b : ℕ) (n : N) → PointsTo D p live ty b n → PointsTo D p (bs ++ live) ty b n
  points_more bs live ty b n q = record {
    of_block = q.of_block;
    there = q.there;
    named =
        ⊎_elim (λ e. or_left (is_global (slice_get p.blocks b)) (contains b (bs ++ live)) e)
        (λ e. or_right (is_global (slice_get p.blocks b)) (contains b (bs ++ live)) (contains-right b bs live e))
        (or_cases (is_global (slice_get p.blocks b)) (contains b live) q.named);
    point = q.point;
  }

  pub more_points : (bs live : List ℕ) (ty : ℕ) (v : Option (Value N)) → ValueHas (PointsTo D p live ty) v
      → ValueHas (PointsTo D p (bs ++ live) ty) v
  more_points bs live ty v h =
      value_as (PointsTo D p live ty) (PointsTo D p (bs ++ live) ty) (points_more bs live ty) v h

  pub points_inside : (live : List ℕ) (ty : ℕ) (v : Option (Value N)) → ValueHas (PointsTo D p live ty) v
      → ValueHas (IsInBlock D p) v
  points_inside live ty v h =
      value_as (PointsTo D p live ty) (IsInBlock D p)
      (λ b n l. slice_get_within p.blocks b l.of_block l.there) v h

  pub number_inside : (w : Scalar) (v : Option (Value N)) → IsOfSort w v → (w ≡ Pointer → ValueHas (IsInBlock D p) v)
      → ValueHas (IsInBlock D p) v
  number_inside (Int t) None s h = tt
  number_inside (Int t) (Some (Num n)) s h = tt
  number_inside (Int t) (Some (Ptr q)) s h = absurd s
  number_inside Pointer v s h = h refl
