-- What types of tame programs have.
use Rattle.std.proofs.Common.{◌≡◌, ℕ, ◌+◌, ◌-◌, ◌*◌, ◌≤◌, ◌<◌, Bool, true, false, ◌&&◌, ◌||◌, ◌==◌, if◌then◌else◌, List}
use Rattle.std.proofs.Common.{[], ◌∷◌, slice_get, length, Option, Some, None, refl, sym, ap, ◌∙◌, arith}
use Rattle.std.specs.Prelude.{not, option_map, option_and_then}
use Rattle.std.specs.Option.{option_map_or}
use Rattle.std.specs.List.{list_any}
use Rattle.std.proofs.Math.Nat.{mul_comm}
use Rattle.std.proofs.lemmas.Bool.{eqb-true, eq-eqb, and_parts, or_left, or_right}
use Rattle.std.proofs.lemmas.Option.{slice_get_within}
use Rattle.ep_layout.specs.declared.types.Ty.{Ty}
use Rattle.ep_layout.specs.Layout.{Layout, struct_layout, union_layout}
use Rattle.ep_layout.specs.Table.{Table, MemberRow, IsBuilt, size, elements_of, members_of, at_type, by_type}
use Rattle.ep_layout.proofs.Laid.{by_type_is}
use Rattle.ep_kinds.specs.Tame.{Inside, inside_rules, are_tame_types, is_size_of_holder, holds_array}
use Rattle.ep_kinds.specs.Rows.{IsMember, here, in_member, IsInChain, itself, of_elements}
use Rattle.ep_double.specs.Holders.{is_array, holds, has_array}
use Rattle.ep_double.proofs.Numbers.{any_found}
use Rattle.ep_double.proofs.Insides.{array_is, aggregate_is, whole_is}
use Rattle.ep_tame_laws.proofs.Found.{array_at, aggregate_at, array_size, some_member, no_holders}
use Rattle.ep_tame_laws.proofs.Parts.{of_members, part_fits}
use Rattle.ep_tame_values.specs.Offsets.{FitsIn, IsArrayOf}
use Rattle.ep_tame_values.proofs.Lines.{spread_more}

abbrev IsAt : (offset ty : ℕ) → MemberRow → Bool
IsAt q ty m = m.offset == q && m.ty == ty

pub no_bool : {A : Type 0} {b : Bool} → b ≡ true → b ≡ false → A
no_bool h k = absurd cc

-- ---- what is said of what lies inside of a type

holder_from : (o : Option Inside) → option_map_or (λ (x : Inside). x.is_array) o false ≡ false
    → option_map_or (λ (x : Inside). x.holds_array) o false ≡ true
    → option_map_or (λ (x : Inside). not x.is_array && x.holds_array) o false ≡ true
holder_from None h k = absurd cc
holder_from (Some x) h k = both x.is_array x.holds_array h k
  where
    both : (a b : Bool) → a ≡ false → b ≡ true → (not a && b) ≡ true
    both true b h k = absurd cc
    both false b h k = k

from_holder : (o : Option Inside) → option_map_or (λ (x : Inside). not x.is_array && x.holds_array) o false ≡ true
    → option_map_or (λ (x : Inside). x.holds_array) o false ≡ true
from_holder None h = absurd cc
from_holder (Some x) h = (and_parts (not x.is_array) x.holds_array h).1

no_holder_from : (o : Option Inside) → option_map_or (λ (x : Inside). x.holds_array) o false ≡ false
    → option_map_or (λ (x : Inside). not x.is_array && x.holds_array) o false ≡ false
no_holder_from None h = refl
no_holder_from (Some x) h = both x.is_array x.holds_array h
  where
    both : (a b : Bool) → b ≡ false → (not a && b) ≡ false
    both true b h = refl
    both false b h = h

module _ (t : Table) (built : IsBuilt t) where
  -- ---- members

  aggregate_sized : (g q ty : ℕ) → IsMember t g q ty → (z : ℕ) × (size t g ≡ Some z)
  aggregate_sized g q ty m =
      let p = of_members t built g m.0 q ty (aggregate_at t g m.0 m.1) m.2 in (
        ((if p.row.is_union then union_layout else struct_layout) p.placed.layouts).size,
        ap (option_map (λ (l : Layout). l.size)) p.layout,
      )

  member_room : (g q ty : ℕ) (m : IsMember t g q ty) (s : ℕ) → size t ty ≡ Some s
      → (z : ℕ) × (size t g ≡ Some z) × (q + s ≤ z)
  member_room g q ty m s h =
      let z = aggregate_sized g q ty m in
      (z.0, z.1, first q s z.0 (part_fits t built g (0 + q) ty z.0 s (in_member 0 g q ty here m) z.1 h))
    where
      first : (q s z : ℕ) → 0 + q + s ≤ z → q + s ≤ z
      first q s z k = let e : 0 + q ≡ q = omega arith in omega (arith, e, k)

  any_has : (ms : List MemberRow) (q ty : ℕ) → (is_array t ty || holds t ty) ≡ true → list_any (IsAt q ty) ms ≡ true
      → list_any (has_array t) ms ≡ true
  any_has [] q ty b h = absurd cc
  any_has (m ∷ ms) q ty b h = by_first (IsAt q ty m) refl h (any_has ms q ty b)
    where
      by_first : (x : Bool) → IsAt q ty m ≡ x → (x || list_any (IsAt q ty) ms) ≡ true
          → (list_any (IsAt q ty) ms ≡ true → list_any (has_array t) ms ≡ true)
          → (has_array t m || list_any (has_array t) ms) ≡ true
      by_first true e k later =
          let same = eqb-true m.ty ty (and_parts (m.offset == q) (m.ty == ty) e).1 in
          or_left (has_array t m) (list_any (has_array t) ms) (ap (λ x. is_array t x || holds t x) same ∙ b)
      by_first false e k later = or_right (has_array t m) (list_any (has_array t) ms) (later k)

  aggregate_holds : (g q ty : ℕ) → IsMember t g q ty → (is_array t ty || holds t ty) ≡ true → holds_array t g ≡ true
  aggregate_holds g q ty m b =
      let at = aggregate_at t g m.0 m.1 in
      let w = whole_is t built g m.0 at (members_of t m.0) refl (some_member (members_of t m.0) q ty m.2) in
      holder_from (by_type inside_rules t g) (aggregate_is t built g m.0 at)
      (w.0 ∙ any_has (members_of t m.0) q ty b m.2)

  pub member_fits_in : (g q ty : ℕ) → IsMember t g q ty → FitsIn t g q ty
  member_fits_in g q ty m = record {
    room = member_room g q ty m;
    holder = λ h. aggregate_holds g q ty m
        (or_right (is_array t ty) (holds t ty) (from_holder (by_type inside_rules t ty) h));
    array = λ e k h. aggregate_holds g q ty m
        (or_left (is_array t ty) (holds t ty) (array_is t built ty e k (array_at t ty e k h)));
  }

  -- ---- arrays

  pub element_plain : are_tame_types t ≡ true → (a e n : ℕ) → elements_of t a ≡ Some (e, n) → holds_array t e ≡ false
  element_plain tame a e n el =
      no_holder_from (by_type inside_rules t e) (no_holders t built tame a e n (array_at t a e n el))

  pub array_of : are_tame_types t ≡ true → (a e n u : ℕ) → elements_of t a ≡ Some (e, n) → size t e ≡ Some u → 0 < n
      → 0 < u → u ≤ 65536 → IsArrayOf t a e n u
  array_of tame a e n u el sz some more small =
      let at = array_at t a e n el in
      record {
        elements = el;
        sized = sz;
        whole = array_size t built a e n u at sz ∙ ap Some (mul_comm n u);
        some = some;
        more = more;
        small = small;
        plain = element_plain tame a e n el;
      }

  pub chain_fills : (whole ty s m : ℕ) → IsInChain t whole ty s m → size t ty ≡ Some s
      → size t whole ≡ Some (s * (m + 1))
  chain_fills whole ty s m (itself z) h = let e : z ≡ z * (0 + 1) = omega arith in h ∙ ap Some e
  chain_fills whole ty s m (of_elements a e n u k c el sz some) h =
      chain_fills whole a (u * n) k c (array_size t built a e n u (array_at t a e n el) sz ∙ ap Some (mul_comm n u))
      ∙ ap Some (sym (spread_more u n k some))

  -- ---- sizes of aggregates that hold arrays

  there : (ty : ℕ) → holds_array t ty ≡ true → ty < length t.types
  there ty h = at (slice_get t.types ty) refl
    where
      holder_in : Option Inside → Bool
      holder_in o = option_map_or (λ (x : Inside). not x.is_array && x.holds_array) o false

      at : (o : Option Ty) → slice_get t.types ty ≡ o → ty < length t.types
      at None q =
          no_bool h (ap holder_in (by_type_is inside_rules t built ty
          ∙ ap (option_and_then (at_type inside_rules t (by_type inside_rules t))) q))
      at (Some x) q = slice_get_within t.types ty x q

  pub no_holder_of : (ty u : ℕ) → size t ty ≡ Some u → is_size_of_holder t u ≡ false → holds_array t ty ≡ false
  no_holder_of ty u sz none = at (holds_array t ty) refl
    where
      both : (a b : Bool) → a ≡ true → b ≡ true → (a && b) ≡ true
      both true b h k = k
      both false b h k = absurd cc

      at : (b : Bool) → holds_array t ty ≡ b → holds_array t ty ≡ false
      at false e = e
      at true e =
          no_bool (any_found (λ k. holds_array t k && option_map_or (λ s. s == u) (size t k) false) (length t.types) ty
          (both (holds_array t ty) (option_map_or (λ s. s == u) (size t ty) false) e
          (ap (λ o. option_map_or (λ s. s == u) o false) sz ∙ eq-eqb u u refl)) (there ty e)) none
