-- Parts of places of tame programs, by their types.
use Rattle.std.proofs.Common.{◌≡◌, ℕ, suc, ◌+◌, ◌≤◌, ◌<◌, Bool, true, false, ◌&&◌, ◌||◌, ◌==◌, List, [], ◌∷◌, slice_get}
use Rattle.std.proofs.Common.{Option, Some, None, refl, sym, ap, ◌∙◌, subst, arith, nat_eq, nat_le}
use Rattle.std.specs.Prelude.{option_map, unwrap_or, option_and_then}
use Rattle.std.specs.List.{list_any}
use Rattle.std.proofs.lemmas.Bool.{eqb-true, leb-true, and_parts}
use Rattle.ep_int.proofs.Basics.{some-injective}
use Rattle.ep_int.specs.declared.types.Scalar.{Scalar}
use Rattle.ep_int.specs.declared.types.Scalar.TheVariants.{Int as Number, Pointer}
use Rattle.ep_layout.specs.declared.types.Ty.{Ty}
use Rattle.ep_layout.specs.declared.types.Ty.TheVariants.{Void, Int, Ptr, Array, Aggregate}
use Rattle.ep_layout.specs.Layout.{Layout, most_bytes}
use Rattle.ep_layout.specs.Extents.{extent_of}
use Rattle.ep_layout.specs.Table.{Table, AggregateRow, MemberRow, IsBuilt, size, scalar_of, target_of, elements_of}
use Rattle.ep_layout.specs.Table.{members_of, layout_of, at_each}
use Rattle.ep_layout.proofs.Options.{at_each_some}
use Rattle.ep_layout.proofs.Recursion.{types_of}
use Rattle.ep_layout.proofs.Sizes.{layout_fits}
use Rattle.ep_core.specs.Program.{Place, member, element, Expr, Block}
use Rattle.ep_core.specs.WellFormed.{place_has, has_sort, has_scalar, is_sort, sort_of, pointer_to, is_length, is_number}
use Rattle.ep_core.specs.WellFormed.{some_type, is_array_of, has_bound, has_member, is_int, int_type_of}
use Rattle.ep_core.proofs.Sorts.{never, same_scalar, type_where}
use Rattle.ep_kinds.specs.Rows.{IsMember}
use Rattle.ep_tame_laws.proofs.Found.{aggregate_at, array_is_of, member_is_of, elements_at, aggregate_is}
use Rattle.ep_tame_laws.proofs.Parts.{of_members}
use Rattle.ep_tame_types.proofs.Types.{member_fits_in}
use Rattle.ep_tame_places.proofs.Blocks.{is_number_of}

abbrev IsAt : (offset ty : ℕ) → MemberRow → Bool
IsAt q ty m = m.offset == q && m.ty == ty

module _ (t : Table) where
  -- ---- scalars

  pub scalar_type : (u : ℕ) (w : Scalar) → has_scalar (slice_get t.types u) w ≡ true → scalar_of t u ≡ Some w
  scalar_type u w h = by_ty (slice_get t.types u) refl h
    where
      by_ty : (o : Option Ty) → slice_get t.types u ≡ o → has_scalar o w ≡ true → scalar_of t u ≡ Some w
      by_ty None q h = never h
      by_ty (Some Void) q h = never h
      by_ty (Some (Int i)) q h = rw q (ap Some (same_scalar (Number i) w h))
      by_ty (Some (Ptr e)) q h = rw q (ap Some (same_scalar Pointer w h))
      by_ty (Some (Array e n)) q h = never h
      by_ty (Some (Aggregate a)) q h = never h

  pointer_type : (o : Option Ty) (w : Scalar) (ty : ℕ) → (has_scalar o w && is_sort (sort_of o) (pointer_to ty)) ≡ true
      → o ≡ Some (Ptr ty)
  pointer_type None w ty h = never h
  pointer_type (Some Void) w ty h = never h
  pointer_type (Some (Int i)) w ty h = never (and_parts (has_scalar (Some (Int i)) w) false h).1
  pointer_type (Some (Ptr e)) w ty h =
      ap (λ e. Some (Ptr e)) (eqb-true e ty (and_parts (has_scalar (Some (Ptr e)) w) (nat_eq e ty) h).1)
  pointer_type (Some (Array e n)) w ty h = never h
  pointer_type (Some (Aggregate a)) w ty h = never h

  pub pointed_type : (u : ℕ) (w : Scalar) (ty : ℕ)
      → (has_scalar (slice_get t.types u) w && is_sort (sort_of (slice_get t.types u)) (pointer_to ty)) ≡ true
      → target_of t u ≡ Some ty
  pointed_type u w ty h = let q = pointer_type (slice_get t.types u) w ty h in rw q refl

  -- ---- arrays

  array_where : (o : Option Ty) (ty : ℕ) → is_array_of o ty ≡ true → (n : ℕ) × (o ≡ Some (Array ty n))
  array_where None ty h = never h
  array_where (Some Void) ty h = never h
  array_where (Some (Int i)) ty h = never h
  array_where (Some (Ptr e)) ty h = never h
  array_where (Some (Array e n)) ty h = (n, ap (λ e. Some (Array e n)) (eqb-true e ty h))
  array_where (Some (Aggregate a)) ty h = never h

  pub elements_where : (v ty : ℕ) → is_array_of (slice_get t.types v) ty ≡ true
      → (n : ℕ) × (elements_of t v ≡ Some (ty, n))
  elements_where v ty h = let a = array_where (slice_get t.types v) ty h in (a.0, elements_at t v ty a.0 a.1)

  -- ---- members

  rows_sized : (ls : List Layout) (ms : List MemberRow) → at_each (layout_of t) (types_of ms) ≡ Some ls → (q ty : ℕ)
      → list_any (IsAt q ty) ms ≡ true → (l : Layout) × (layout_of t ty ≡ Some l)
  rows_sized ls [] h q ty some = never some
  rows_sized ls (m ∷ ms) h q ty some =
      let s = at_each_some (layout_of t) m.ty (types_of ms) ls h in
      at (IsAt q ty m) refl some (s.0, s.2) (rows_sized s.1 ms s.3 q ty)
    where
      at : (b : Bool) → IsAt q ty m ≡ b → (b || list_any (IsAt q ty) ms) ≡ true
          → (l : Layout) × (layout_of t m.ty ≡ Some l)
          → (list_any (IsAt q ty) ms ≡ true → (l : Layout) × (layout_of t ty ≡ Some l))
          → (l : Layout) × (layout_of t ty ≡ Some l)
      at true is some own rest =
          let e = eqb-true m.ty ty (and_parts (m.offset == q) (m.ty == ty) is).1 in
          (own.0, sym (ap (layout_of t) e) ∙ own.1)
      at false is some own rest = rest some

  module _ (built : IsBuilt t) where
    -- a member begins where an offset may be
    pub member_small : (v q ty : ℕ) → IsMember t v q ty → q ≤ 65536
    member_small v q ty m =
        let p = of_members t built v m.0 q ty (aggregate_at t v m.0 m.1) m.2 in
        let own : members_of t m.0 ≡ p.members =
        ap (λ o. unwrap_or (option_and_then (λ (g : AggregateRow). g.members) o) []) p.there
        ∙ ap (λ o. unwrap_or o []) p.own in
        let l = rows_sized p.placed.layouts p.members p.placed.each q ty
        (sym (ap (list_any (IsAt q ty)) own) ∙ m.2) in
        let room = (member_fits_in t built v q ty m).room l.0.size (ap (option_map (λ (l : Layout). l.size)) l.1) in
        let fits = (layout_fits t built v _ p.layout).size in
        let whole = some-injective (sym room.1 ∙ ap (option_map (λ (l : Layout). l.size)) p.layout) in
        let end = room.2 in
        omega (arith, fits, whole, end)

  -- ---- by the typing

  module _ (bs : List Block) (seen : List ℕ) where
    pub record MemberParts (a : Place) (q ty : ℕ) : Type 0 where
      pub whole : ℕ
      pub typed : place_has t bs seen a whole ≡ true
      pub member : IsMember t whole q ty

    pub member_parts : (a : Place) (q ty : ℕ) → place_has t bs seen (member a q) ty ≡ true → MemberParts a q ty
    member_parts a q ty h =
        let v = type_where t bs seen (λ u. has_member t u q ty) (place_has t bs seen a) h in
        let m = member_is_of t (slice_get t.types v.0) q ty v.1 in
        record { whole = v.0; typed = v.2; member = (m.0, aggregate_is t v.0 m.0 m.1, m.2) }

    pub record ElementParts (a : Place) (ty bound unit : ℕ) (i : Expr) : Type 0 where
      pub whole : ℕ
      pub typed : place_has t bs seen a whole ≡ true
      pub elements : elements_of t whole ≡ Some (ty, bound)
      pub sized : size t ty ≡ Some unit
      pub some : 0 < bound
      pub more : 0 < unit
      pub small : unit ≤ 65536
      pub index : is_int (int_type_of i) (has_sort t bs seen i) ≡ true

    pub element_parts : (a : Place) (ty bound unit : ℕ) (i : Expr)
        → place_has t bs seen (element a bound unit i) ty ≡ true → ElementParts a ty bound unit i
    element_parts a ty n u i h =
        let four = and_parts
        (is_length n && is_length u && is_number (size t ty) u
        && some_type t bs seen (λ o. is_array_of o ty && has_bound o n) (place_has t bs seen a))
        (is_int (int_type_of i) (has_sort t bs seen i)) h in
        let three = and_parts (is_length n && is_length u && is_number (size t ty) u)
        (some_type t bs seen (λ o. is_array_of o ty && has_bound o n) (place_has t bs seen a)) four.0 in
        let two = and_parts (is_length n && is_length u) (is_number (size t ty) u) three.0 in
        let one = and_parts (is_length n) (is_length u) two.0 in
        let v = type_where t bs seen (λ o. is_array_of o ty && has_bound o n) (place_has t bs seen a) three.1 in
        record {
          whole = v.0;
          typed = v.2;
          elements = elements_at t v.0 ty n (array_is_of (slice_get t.types v.0) ty n v.1);
          sized = is_number_of (size t ty) u two.1;
          some = leb-true 1 n (and_parts (nat_le 1 n) (nat_le n 65536) one.0).0;
          more = leb-true 1 u (and_parts (nat_le 1 u) (nat_le u 65536) one.1).0;
          small = leb-true u 65536 (and_parts (nat_le 1 u) (nat_le u 65536) one.1).1;
          index = four.1;
        }
