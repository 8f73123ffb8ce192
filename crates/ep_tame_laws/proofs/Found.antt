-- Each place of a tame program is on a row.
use Rattle.std.proofs.Common.{◌≡◌, ℕ, zero, suc, ◌+◌, ◌-◌, ◌*◌, ◌<◌, Bool, true, false, ◌&&◌, ◌||◌, ◌⊎◌, inl, inr}
use Rattle.ep_core.proofs.Sorts.{never}
use Rattle.ep_int.proofs.Basics.{some-injective, and_false-right}
use Rattle.std.proofs.lemmas.Bool.{not-true}
use Rattle.std.proofs.Common.{List, [], ◌∷◌, slice_get, length, Option, Some, None, refl, sym, ap, ◌∙◌, subst, arith}
use Rattle.std.proofs.Common.{nat_eq, nat_le, ◌==◌}
use Rattle.std.specs.Prelude.{not, option_map, option_and_then}
use Rattle.std.specs.List.{list_all, list_any}
use Rattle.std.proofs.lemmas.Bool.{eqb-true, leb-true, and_parts}
use Rattle.std.proofs.lemmas.Option.{slice_get_within}
use Rattle.std.specs.Option.{option_map_or}
use Rattle.std.proofs.Math.Nat.{mul_comm}
use Rattle.ep_layout.specs.declared.types.Ty.{Ty}
use Rattle.ep_layout.specs.declared.types.Ty.TheVariants.{Void, Int, Ptr, Array, Aggregate}
use Rattle.ep_layout.specs.Layout.{Layout}
use Rattle.ep_layout.specs.Table.{Table, AggregateRow, MemberRow, IsBuilt, size, elements_of, aggregate_of}
use Rattle.ep_layout.specs.Table.{members_of, has_member_at, layout_of, at_type, layout_rules, by_type}
use Rattle.ep_layout.proofs.Laid.{by_type_is}
use Rattle.ep_layout.proofs.Sizes.{element_laid}
use Rattle.ep_core.specs.Program.{Place, block, deref, member, element, Expr, Block}
use Rattle.ep_core.specs.WellFormed.{place_has, has_sort, block_type, block_has, is_named, is_array_of, has_bound}
use Rattle.ep_core.specs.WellFormed.{has_member, is_number, is_length, is_int, int_type_of, some_type, numbers_below}
use Rattle.ep_core.proofs.Sorts.{type_where}
use Rattle.ep_kinds.specs.Tame.{Inside, inside_rules, are_tame_types, is_array_of_holders}
use Rattle.ep_kinds.specs.Rows.{IsMember, IsInChain, itself, of_elements, Row, row, IsRow, of_block, of_target}
use Rattle.ep_kinds.specs.Rows.{of_member, of_element}
use Rattle.ep_double.specs.Holders.{is_array, holds, has_array}
use Rattle.ep_double.proofs.Numbers.{all_push, last_or_below}
use Rattle.ep_double.proofs.Insides.{element_holds, array_is, whole_is}
use Rattle.ep_tame_laws.specs.Laws.{BeginsIn, HasRow}

-- ---- types

pub none_some : {A B : Type 0} (x : A) → None ≡ Some x → B
none_some x h = absurd cc

pub array_at : (t : Table) (ty e n : ℕ) → elements_of t ty ≡ Some (e, n) → slice_get t.types ty ≡ Some (Array e n)
array_at t ty e n h = by_type (slice_get t.types ty) refl
  where
    by_type : (o : Option Ty) → slice_get t.types ty ≡ o → slice_get t.types ty ≡ Some (Array e n)
    by_type None q = none_some (e, n) (rw q at h)
    by_type (Some Void) q = none_some (e, n) (rw q at h)
    by_type (Some (Int i)) q = none_some (e, n) (rw q at h)
    by_type (Some (Ptr d)) q = none_some (e, n) (rw q at h)
    by_type (Some (Array d m)) q =
        let k : Some (d, m) ≡ Some (e, n) = rw q at h in
        q ∙ ap (λ (p : ℕ × ℕ). Some (Array p.0 p.1)) (some-injective k)
    by_type (Some (Aggregate a)) q = none_some (e, n) (rw q at h)

pub elements_at : (t : Table) (ty e n : ℕ) → slice_get t.types ty ≡ Some (Array e n) → elements_of t ty ≡ Some (e, n)
elements_at t ty e n h = rw h refl

-- what is an array of these elements, of so many
pub array_is_of : (o : Option Ty) (ty n : ℕ) → (is_array_of o ty && has_bound o n) ≡ true → o ≡ Some (Array ty n)
array_is_of None ty n h = absurd cc
array_is_of (Some Void) ty n h = absurd cc
array_is_of (Some (Int i)) ty n h = absurd cc
array_is_of (Some (Ptr d)) ty n h = absurd cc
array_is_of (Some (Array d m)) ty n h =
    let q = and_parts (nat_eq d ty) (nat_eq m n) h in
    ap (λ d. Some (Array d m)) (eqb-true d ty q.0) ∙ ap (λ m. Some (Array ty m)) (eqb-true m n q.1)
array_is_of (Some (Aggregate a)) ty n h = absurd cc

pub member_is_of : (t : Table) (o : Option Ty) (q ty : ℕ) → has_member t o q ty ≡ true
    → (a : ℕ) × (o ≡ Some (Aggregate a)) × (has_member_at t a q ty ≡ true)
member_is_of t None q ty h = absurd cc
member_is_of t (Some Void) q ty h = absurd cc
member_is_of t (Some (Int i)) q ty h = absurd cc
member_is_of t (Some (Ptr d)) q ty h = absurd cc
member_is_of t (Some (Array d m)) q ty h = absurd cc
member_is_of t (Some (Aggregate a)) q ty h = (a, refl, h)

pub aggregate_is : (t : Table) (ty a : ℕ) → slice_get t.types ty ≡ Some (Aggregate a) → aggregate_of t ty ≡ Some a
aggregate_is t ty a h = rw h refl

-- the size of an array
pub array_size : (t : Table) → IsBuilt t → (ty e n u : ℕ) → slice_get t.types ty ≡ Some (Array e n) → size t e ≡ Some u
    → size t ty ≡ Some (n * u)
array_size t built ty e n u h sz =
    let l = element_laid t built ty e n h in
    let whole : layout_of t ty ≡ Some ((layout_rules t.model).array n l.0) =
    by_type_is (layout_rules t.model) t built ty
    ∙ ap (option_and_then (at_type (layout_rules t.model) t (layout_of t))) h
    ∙ ap (option_map ((layout_rules t.model).array n)) l.1 in
    let own : l.0.size ≡ u = some-injective (sym (ap (option_map (λ (l : Layout). l.size)) l.1) ∙ sz) in
    ap (option_map (λ (l : Layout). l.size)) whole ∙ ap (λ k. Some (n * k)) own

-- ---- tame types

pub aggregate_at : (t : Table) (ty a : ℕ) → aggregate_of t ty ≡ Some a → slice_get t.types ty ≡ Some (Aggregate a)
aggregate_at t ty a h = by_type (slice_get t.types ty) refl
  where
    by_type : (o : Option Ty) → slice_get t.types ty ≡ o → slice_get t.types ty ≡ Some (Aggregate a)
    by_type None q = none_some a (rw q at h)
    by_type (Some Void) q = none_some a (rw q at h)
    by_type (Some (Int i)) q = none_some a (rw q at h)
    by_type (Some (Ptr d)) q = none_some a (rw q at h)
    by_type (Some (Array d m)) q = none_some a (rw q at h)
    by_type (Some (Aggregate g)) q = let k : Some g ≡ Some a = rw q at h in q ∙ ap (λ x. Some (Aggregate x)) (some-injective k)

numbered : (test : ℕ → Bool) (n k : ℕ) → list_all test (numbers_below n) ≡ true → k < n → test k ≡ true
numbered test zero k h l = absurd (omega (arith, l))
numbered test (suc n) k h l =
    let q = and_parts (list_all test (numbers_below n)) (test n) (sym (all_push test (numbers_below n) n) ∙ h) in
    by_place (last_or_below k n l) q.1 (numbered test n k q.0)
  where
    by_place : (k ≡ n) ⊎ (k < n) → test n ≡ true → (k < n → test k ≡ true) → test k ≡ true
    by_place (inl e) last below = ap test e ∙ last
    by_place (inr b) last below = below b

member_fails : (t : Table) (ms : List MemberRow) (q ty : ℕ) → list_any (has_array t) ms ≡ false
    → list_any (λ (m : MemberRow). m.offset == q && m.ty == ty) ms ≡ true
    → (is_array t ty ≡ false) × (holds t ty ≡ false)
member_fails t [] q ty none h = absurd cc
member_fails t (m ∷ ms) q ty none h =
    by_first (m.offset == q && m.ty == ty) refl (either_false (has_array t m) (list_any (has_array t) ms) none)
    (member_fails t ms q ty)
  where
    either_false : (x y : Bool) → (x || y) ≡ false → (x ≡ false) × (y ≡ false)
    either_false true y h = absurd cc
    either_false false y h = (refl, h)

    by_first : (b : Bool) → (m.offset == q && m.ty == ty) ≡ b
        → (has_array t m ≡ false) × (list_any (has_array t) ms ≡ false)
        → (list_any (has_array t) ms ≡ false
        → list_any (λ (m : MemberRow). m.offset == q && m.ty == ty) ms ≡ true
        → (is_array t ty ≡ false) × (holds t ty ≡ false))
        → (is_array t ty ≡ false) × (holds t ty ≡ false)
    by_first true e parts later =
        let same = eqb-true m.ty ty (and_parts (m.offset == q) (m.ty == ty) e).1 in
        let two = either_false (is_array t m.ty) (holds t m.ty) parts.0 in
        (ap (is_array t) (sym same) ∙ two.0, ap (holds t) (sym same) ∙ two.1)
    by_first false e parts later = later parts.1
        (sym (ap (λ b. b || list_any (λ (m : MemberRow). m.offset == q && m.ty == ty) ms) e) ∙ h)

pub some_member : (ms : List MemberRow) (q ty : ℕ)
    → list_any (λ (m : MemberRow). m.offset == q && m.ty == ty) ms ≡ true → 0 < length ms
some_member [] q ty h = absurd cc
some_member (m ∷ ms) q ty h = omega arith

-- A row of one object, or one whose objects hold no arrays in their members and lie right behind one another.
pub record IsSpread (t : Table) (r : Row) : Type 0 where
  pub no_holder : holds t r.ty ≡ false
  pub sized : is_array t r.ty ≡ true → size t r.ty ≡ Some r.step

abbrev pub IsEven : Table → Row → Type 0
IsEven t r = (r.most ≡ 0) ⊎ IsSpread t r

module _ (t : Table) (built : IsBuilt t) (tame : are_tame_types t ≡ true) where
  -- of an array the elements are no holders
  pub no_holders : (ty e n : ℕ) → slice_get t.types ty ≡ Some (Array e n) → holds t e ≡ false
  no_holders ty e n h =
      let all = (and_parts (list_all (λ (g : AggregateRow). not g.is_union) t.aggregates) _ tame).1 in
      let one = not-true (is_array_of_holders t ty) (numbered (λ ty. not (is_array_of_holders t ty))
      (length t.types) ty all
      (slice_get_within t.types ty (Array e n) h)) in
      sym (element_holds t built ty e n h) ∙ array_holds one (array_is t built ty e n h)
    where
      by_inside : (o : Option Inside) → option_map_or (λ (x : Inside). x.is_array && x.holds_array) o false ≡ false
          → option_map_or (λ (x : Inside). x.is_array) o false ≡ true
          → option_map_or (λ (x : Inside). x.holds_array) o false ≡ false
      by_inside None h e = refl
      by_inside (Some x) h e = and_false-right x.is_array x.holds_array h e

      array_holds : is_array_of_holders t ty ≡ false → is_array t ty ≡ true → holds t ty ≡ false
      array_holds h e = by_inside (by_type inside_rules t ty) h e

  elements_spread : (a e n u m : ℕ) → slice_get t.types a ≡ Some (Array e n) → size t e ≡ Some u
      → IsSpread t (row e 0 u m)
  elements_spread a e n u m h sz = record { no_holder = no_holders a e n h; sized = λ x. sz }

  chain_even : (whole ty s m : ℕ) → IsInChain t whole ty s m → IsEven t (row ty 0 s m)
  chain_even whole ty s m (itself z) = inl refl
  chain_even whole ty s m (of_elements a e n u k at el sz some) =
      inr (elements_spread a e n u (n * k + (n - 1)) (array_at t a e n el) sz)

  member_even : (r : Row) (q ty : ℕ) → IsEven t r → IsMember t r.ty q ty → IsEven t (row ty (r.first + q) r.step r.most)
  member_even r q ty (inl one) m = inl one
  member_even r q ty (inr s) m =
      let at = aggregate_at t r.ty m.0 m.1 in
      let w = whole_is t built r.ty m.0 at (members_of t m.0) refl (some_member (members_of t m.0) q ty m.2) in
      let none = member_fails t (members_of t m.0) q ty (sym w.0 ∙ s.no_holder) m.2 in
      inr (record { no_holder = none.1; sized = λ x. never (sym none.0 ∙ x) })

  step_is : (r : Row) (e n u : ℕ) → slice_get t.types r.ty ≡ Some (Array e n) → size t e ≡ Some u → IsEven t r
      → (r.most ≡ 0) ⊎ (r.step ≡ u * n)
  step_is r e n u h sz (inl one) = inl one
  step_is r e n u h sz (inr s) =
      let own = s.sized (array_is t built r.ty e n h) in
      let whole = array_size t built r.ty e n u h sz in
      inr (some-injective (sym own ∙ whole) ∙ mul_comm n u)

  -- ---- places

  record HasEvenRow (b whole bytes : ℕ) (a : Place) (ty : ℕ) : Type 0 where
    pub row : Row
    pub is_row : IsRow t b whole bytes a row
    pub type : row.ty ≡ ty
    pub even : IsEven t row

  module _ (bs : List Block) (seen : List ℕ) (b whole bytes : ℕ) where
    block_row : (c ty : ℕ) → (is_named t bs seen c && block_has t bs seen (slice_get bs c) ty) ≡ true
        → (c ≡ b) × (block_type (slice_get bs b) ≡ Some whole) → HasEvenRow b whole bytes (block c) ty
    block_row c ty h begins =
        subst (λ (x : ℕ). HasEvenRow b whole bytes (block x) ty) (sym begins.0) (record {
          row = row whole 0 bytes 0;
          is_row = of_block;
          type = of_type (slice_get bs b) begins.1 (ap (λ (x : ℕ). block_has t bs seen (slice_get bs x) ty)
              (sym begins.0) ∙ (and_parts (is_named t bs seen c) _ h).1);
          even = inl refl;
        })
      where
        of_type : (o : Option Block) → block_type o ≡ Some whole → block_has t bs seen o ty ≡ true → whole ≡ ty
        of_type None e h = absurd cc
        of_type (Some k) e h = sym (some-injective e) ∙ eqb-true k.ty ty h

    record ElementParts (a : Place) (ty n u : ℕ) : Type 0 where
      pub some : 0 < n
      pub sized : size t ty ≡ Some u
      pub typed : some_type t bs seen (λ o. is_array_of o ty && has_bound o n) (place_has t bs seen a) ≡ true

    element_parts : (a : Place) (ty n u : ℕ) (i : Expr) → place_has t bs seen (element a n u i) ty ≡ true
        → ElementParts a ty n u
    element_parts a ty n u i h =
        let four = and_parts
        (is_length n && is_length u && is_number (size t ty) u
        && some_type t bs seen (λ o. is_array_of o ty && has_bound o n) (place_has t bs seen a))
        (is_int (int_type_of i) (has_sort t bs seen i)) h in
        let three = and_parts (is_length n && is_length u && is_number (size t ty) u)
        (some_type t bs seen (λ o. is_array_of o ty && has_bound o n) (place_has t bs seen a)) four.0 in
        let two = and_parts (is_length n && is_length u) (is_number (size t ty) u) three.0 in
        let one = and_parts (is_length n) (is_length u) two.0 in
        record {
          some = leb-true 1 n (and_parts (nat_le 1 n) (nat_le n 65536) one.0).0;
          sized = number_is (size t ty) two.1;
          typed = three.1;
        }
      where
        number_is : (o : Option ℕ) → is_number o u ≡ true → o ≡ Some u
        number_is None h = absurd cc
        number_is (Some m) h = ap Some (eqb-true m u h)

    place_row : (a : Place) (ty : ℕ) → place_has t bs seen a ty ≡ true → BeginsIn t bs seen b whole a
        → HasEvenRow b whole bytes a ty
    place_row (block c) ty h begins = block_row c ty h begins
    place_row (deref e) ty h begins =
        let g = begins ty h in
        record {
          row = row ty 0 g.1.step g.0;
          is_row = of_target e ty g.1.step g.0 g.1.chain;
          type = refl;
          even = chain_even whole ty g.1.step g.0 g.1.chain;
        }
    place_row (member a q) ty h begins =
        let v = type_where t bs seen (λ u. has_member t u q ty) (place_has t bs seen a) h in
        let m = member_is_of t (slice_get t.types v.0) q ty v.1 in
        let r = place_row a v.0 v.2 begins in
        let is : IsMember t r.row.ty q ty = (m.0, ap (aggregate_of t) r.type ∙ aggregate_is t v.0 m.0 m.1, m.2) in
        record {
          row = row ty (r.row.first + q) r.row.step r.row.most;
          is_row = of_member a r.row q ty r.is_row is;
          type = refl;
          even = member_even r.row q ty r.even is;
        }
    place_row (element a n u i) ty h begins =
        let p = element_parts a ty n u i h in
        let v = type_where t bs seen (λ o. is_array_of o ty && has_bound o n) (place_has t bs seen a) p.typed in
        let at_v = array_is_of (slice_get t.types v.0) ty n v.1 in
        let r = place_row a v.0 v.2 begins in
        let at = ap (slice_get t.types) r.type ∙ at_v in
        record {
          row = row ty r.row.first u (n * r.row.most + (n - 1));
          is_row = of_element a r.row ty n u i r.is_row (elements_at t r.row.ty ty n at) p.sized p.some
              (step_is r.row ty n u at p.sized r.even);
          type = refl;
          even = inr (record { no_holder = no_holders r.row.ty ty n at; sized = λ x. p.sized });
        }

pub place_has_row : (t : Table) → IsBuilt t → are_tame_types t ≡ true → (bs : List Block) (seen : List ℕ)
    (b whole bytes : ℕ) (a : Place) (ty : ℕ) → place_has t bs seen a ty ≡ true → BeginsIn t bs seen b whole a
    → HasRow t b whole bytes a ty
place_has_row t built tame bs seen b whole bytes a ty h begins =
    let r = place_row t built tame bs seen b whole bytes a ty h begins in
    record { row = r.row; is_row = r.is_row; type = r.type }
