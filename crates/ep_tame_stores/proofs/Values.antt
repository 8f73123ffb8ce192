-- Values of a type that go to places of it.
use Rattle.std.proofs.Common.{◌≡◌, List, [], ◌∷◌, slice_get, Option, Some, None, refl, sym, ap, ◌∙◌, ℕ}
use Rattle.std.proofs.lemmas.Option.{slice_get_within}
use Rattle.ep_int.proofs.Basics.{some-injective}
use Rattle.ep_int.specs.declared.types.IntType.{IntType}
use Rattle.ep_int.specs.declared.types.Scalar.{Scalar}
use Rattle.ep_int.specs.declared.types.Scalar.TheVariants.{Int as Number, Pointer}
use Rattle.ep_layout.specs.declared.types.Ty.{Ty}
use Rattle.ep_layout.specs.declared.types.Ty.TheVariants.{Void, Int, Ptr, Array, Aggregate}
use Rattle.ep_layout.specs.Table.{Table, scalar_of, target_of}
use Rattle.ep_domain.specs.Domain.{Ops}
use Rattle.ep_pointers.specs.Value.{Target}
use Rattle.ep_cells.specs.declared.cell.Value.{Value}
use Rattle.ep_cells.specs.declared.cell.Value.TheVariants.{Num, Ptr}
use Rattle.ep_cells.specs.States.{IsOfSort}
use Rattle.ep_core.specs.Program.{Program}
use Rattle.ep_core.specs.WellFormed.{Sort, pointer_to, sort_of}
use Rattle.ep_tame_laws.proofs.Found.{none_some}
use Rattle.ep_tame_values.specs.Offsets.{EachTarget}
use Rattle.ep_tame_places.specs.Places.{PointsTo}
use Rattle.ep_tame_states.specs.States.{ValueHas, IsInBlock}

module _ (t : Table) (u : ℕ) where
  -- a pointer points to a type
  pub pointer_target : scalar_of t u ≡ Some Pointer → (ty : ℕ) × (target_of t u ≡ Some ty)
  pointer_target h = by_ty (slice_get t.types u) refl
    where
      number : {A : Type 0} (i : IntType) → Some (Number i) ≡ Some Pointer → A
      number i e = absurd cc

      by_ty : (o : Option Ty) → slice_get t.types u ≡ o → (ty : ℕ) × (target_of t u ≡ Some ty)
      by_ty None q = none_some Pointer (rw q at h)
      by_ty (Some Void) q = none_some Pointer (rw q at h)
      by_ty (Some (Int i)) q = number i (rw q at h)
      by_ty (Some (Ptr e)) q = (e, rw q refl)
      by_ty (Some (Array e m)) q = none_some Pointer (rw q at h)
      by_ty (Some (Aggregate a)) q = none_some Pointer (rw q at h)

  pub sort_of_target : (ty : ℕ) (x : Sort) → target_of t u ≡ Some ty → sort_of (slice_get t.types u) ≡ Some x
      → x ≡ pointer_to ty
  sort_of_target ty x h s = by_ty (slice_get t.types u) refl
    where
      by_ty : (o : Option Ty) → slice_get t.types u ≡ o → x ≡ pointer_to ty
      by_ty None q = none_some ty (rw q at h)
      by_ty (Some Void) q = none_some ty (rw q at h)
      by_ty (Some (Int i)) q = none_some ty (rw q at h)
      by_ty (Some (Ptr e)) q =
          let one : Some e ≡ Some ty = rw q at h in
          let two : Some (pointer_to e) ≡ Some x = rw q at s in
          sym (some-injective two) ∙ ap pointer_to (some-injective one)
      by_ty (Some (Array e m)) q = none_some ty (rw q at h)
      by_ty (Some (Aggregate a)) q = none_some ty (rw q at h)

module _ {N : Type 0} (D : Ops N) (p : Program) (live : List ℕ) where
  targets_inside : (ty : ℕ) (ts : List (Target N)) → EachTarget (PointsTo D p live ty) ts
      → EachTarget (IsInBlock D p) ts
  targets_inside ty [] h = tt
  targets_inside ty (t ∷ ts) h =
      (slice_get_within p.blocks t.0 h.0.of_block h.0.there, targets_inside ty ts h.1)

  pub points_inside : (ty : ℕ) (v : Option (Value N)) → ValueHas (PointsTo D p live ty) v → ValueHas (IsInBlock D p) v
  points_inside ty None h = tt
  points_inside ty (Some (Num n)) h = tt
  points_inside ty (Some (Ptr q)) h = targets_inside ty q.targets h

  numbers_inside : (w : Scalar) (v : Option (Value N)) → IsOfSort w v → (w ≡ Pointer → ValueHas (IsInBlock D p) v)
      → ValueHas (IsInBlock D p) v
  numbers_inside (Number i) None s go = tt
  numbers_inside (Number i) (Some (Num n)) s go = tt
  numbers_inside (Number i) (Some (Ptr q)) s go = absurd s
  numbers_inside Pointer v s go = go refl

  -- of a value of a type
  pub value_inside : (u : ℕ) (w : Scalar) (v : Option (Value N)) → scalar_of p.types u ≡ Some w → IsOfSort w v
      → ((ty : ℕ) → target_of p.types u ≡ Some ty → ValueHas (PointsTo D p live ty) v) → ValueHas (IsInBlock D p) v
  value_inside u w v is s along =
      numbers_inside w v s
      (λ e. (let t = pointer_target p.types u (is ∙ ap Some e) in points_inside t.0 v (along t.0 t.1)))
