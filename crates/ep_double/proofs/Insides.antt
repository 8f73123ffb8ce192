-- What a type says of its parts: arrays in it, and how deep it is.
use Rattle.std.proofs.Common.{◌≡◌, ℕ, suc, zero, ◌≤◌, ◌<◌, Bool, true, false, ◌||◌, if◌then◌else◌, List, [], ◌∷◌}
use Rattle.std.proofs.lemmas.Option.{none-some}
use Rattle.std.proofs.Common.{length, map, slice_get, Option, Some, None, option_map, option_and_then, unwrap_or, inl}
use Rattle.std.proofs.Common.{inr, eq-zero-or-pos, ◌-◌, ◌⊎◌, refl, sym, ap, ◌∙◌, subst, arith}
use Rattle.std.specs.Option.{option_map_or}
use Rattle.std.specs.List.{list_any}
use Rattle.std.proofs.lemmas.Bool.{or_right, ltb-true}
use Rattle.ep_layout.specs.declared.types.Ty.{Ty}
use Rattle.ep_layout.specs.declared.types.Ty.TheVariants.{Void, Int, Ptr, Array, Aggregate}
use Rattle.ep_layout.specs.Table.{Table, AggregateRow, MemberRow, TypeRules, IsBuilt, at_each, at_whole, at_aggregate}
use Rattle.ep_layout.specs.Table.{at_type, by_type, members_of}
use Rattle.ep_layout.proofs.Options.{map_some, at_each_some}
use Rattle.ep_layout.proofs.Recursion.{types_of, at_depth_past}
use Rattle.ep_layout.proofs.Laid.{laid, by_type_is}
use Rattle.ep_layout.proofs.Sizes.{known}
use Rattle.ep_kinds.specs.Tame.{Inside, inside_rules, has_array_inside}
use Rattle.ep_double.specs.Holders.{is_array, holds, has_array, level_rules, levels, rows_levels, sum_of, AreThere}

abbrev holds_in : Option Inside → Bool
holds_in o = option_map_or (λ (x : Inside). x.holds_array) o false

abbrev array_in : Option Inside → Bool
array_in o = option_map_or (λ (x : Inside). x.is_array) o false

abbrev level_in : Option ℕ → ℕ
level_in o = unwrap_or o 0

any_step : (b c x y : Bool) → b ≡ c → x ≡ y → (b || x) ≡ (c || y)
any_step b c x y p q = rw (p, q) refl

module _ (t : Table) (built : IsBuilt t) where
  value_of : {A : Type 0} (r : TypeRules A) (n : ℕ) (ty : Ty) → slice_get t.types n ≡ Some ty
      → by_type r t n ≡ at_type r t (by_type r t) ty
  value_of r n ty h = by_type_is r t built n ∙ ap (option_and_then (at_type r t (by_type r t))) h

  there : {A : Type 0} (r : TypeRules A) (n : ℕ) (x : A) → by_type r t n ≡ Some x → n < length t.types
  there r n x h = elim (eq-zero-or-pos (length t.types - n)) [
    | inl past ↦
        let none : by_type r t n ≡ None = at_depth_past r t _ n (omega (arith, past)) in
        absurd (none-some x (sym none ∙ h))
    | inr below ↦ omega (arith, below)
  ]

  -- ---- neither arrays nor aggregates

  pub void_is : (n : ℕ) → slice_get t.types n ≡ Some Void → (holds t n ≡ false) × (is_array t n ≡ false)
  void_is n h = (ap holds_in (value_of inside_rules n Void h), ap array_in (value_of inside_rules n Void h))

  pub number_is : (n : ℕ) (i : _) → slice_get t.types n ≡ Some (Int i) → (holds t n ≡ false) × (is_array t n ≡ false)
  number_is n i h = (ap holds_in (value_of inside_rules n (Int i) h), ap array_in (value_of inside_rules n (Int i) h))

  pub pointer_is : (n d : ℕ) → slice_get t.types n ≡ Some (Ptr d) → (holds t n ≡ false) × (is_array t n ≡ false)
  pointer_is n d h = (ap holds_in (value_of inside_rules n (Ptr d) h), ap array_in (value_of inside_rules n (Ptr d) h))

  -- ---- arrays

  element_there : (n e c : ℕ) → slice_get t.types n ≡ Some (Array e c) → (A : Type 0) → (r : TypeRules A)
      → (x : A) × (by_type r t e ≡ Some x)
  element_there n e c h A r =
      let y = (laid r t built).types n (Array e c) h refl in
      let z = map_some (r.array c) (by_type r t e) y.0 (sym (value_of r n (Array e c) h) ∙ y.1) in
      (z.0, z.1)

  pub element_known : (n e c : ℕ) → slice_get t.types n ≡ Some (Array e c) → e < length t.types
  element_known n e c h = let x = element_there n e c h Inside inside_rules in there inside_rules e x.0 x.1

  pub element_holds : (n e c : ℕ) → slice_get t.types n ≡ Some (Array e c) → holds t n ≡ holds t e
  element_holds n e c h = ap holds_in (value_of inside_rules n (Array e c) h) ∙ by_case (by_type inside_rules t e)
    where
      by_case : (o : Option Inside) → holds_in (option_map (inside_rules.array c) o) ≡ holds_in o
      by_case None = refl
      by_case (Some x) = refl

  pub element_lower : (n e c : ℕ) → slice_get t.types n ≡ Some (Array e c) → levels t e < levels t n
  element_lower n e c h =
      let x = element_there n e c h ℕ level_rules in
      let whole : levels t n ≡ suc x.0 = ap level_in (value_of level_rules n (Array e c) h ∙ ap (option_map suc) x.1) in
      let part : levels t e ≡ x.0 = ap level_in x.1 in
      omega (arith, whole, part)

  pub array_is : (n e c : ℕ) → slice_get t.types n ≡ Some (Array e c) → is_array t n ≡ true
  array_is n e c h =
      let x = element_there n e c h Inside inside_rules in
      ap array_in (value_of inside_rules n (Array e c) h ∙ ap (option_map (inside_rules.array c)) x.1)

  -- ---- aggregates

  whole_no_array : (u : Bool) (o : Option (List Inside))
      → array_in (option_map (if u then inside_rules.union else inside_rules.struct) o) ≡ false
  whole_no_array u None = refl
  whole_no_array true (Some xs) = refl
  whole_no_array false (Some xs) = refl

  pub aggregate_is : (n a : ℕ) → slice_get t.types n ≡ Some (Aggregate a) → is_array t n ≡ false
  aggregate_is n a h = ap array_in (value_of inside_rules n (Aggregate a) h) ∙ by_row (slice_get t.aggregates a)
    where
      by_members : (u : Bool) (ms : Option (List MemberRow))
          → array_in (option_and_then (λ (ms : List MemberRow).
          at_whole inside_rules (by_type inside_rules t) u (map (λ (m : MemberRow). m.ty) ms)) ms) ≡ false
      by_members u None = refl
      by_members u (Some ms) = whole_no_array u (at_each (by_type inside_rules t) (types_of ms))

      by_row : (o : Option AggregateRow)
          → array_in (option_and_then (at_aggregate inside_rules (by_type inside_rules t)) o) ≡ false
      by_row None = refl
      by_row (Some g) = by_members g.is_union g.members

  any_from : (m : MemberRow) (ms : List MemberRow) (x : Inside) (ys : List Inside)
      → by_type inside_rules t m.ty ≡ Some x
      → has_array_inside ys ≡ list_any (has_array t) ms
      → has_array_inside (x ∷ ys) ≡ list_any (has_array t) (m ∷ ms)
  any_from m ms x ys one rest =
      let a : x.is_array ≡ is_array t m.ty = sym (ap array_in one) in
      let b : x.holds_array ≡ holds t m.ty = sym (ap holds_in one) in
      any_step _ _ _ _ (any_step _ _ _ _ a b) rest

  any_inside : (ms : List MemberRow) (xs : List Inside) → at_each (by_type inside_rules t) (types_of ms) ≡ Some xs
      → has_array_inside xs ≡ list_any (has_array t) ms
  any_inside [] xs h = let e : [] ≡ xs = cc in subst (λ xs. has_array_inside xs ≡ false) e refl
  any_inside (m ∷ ms) xs h =
      let s = at_each_some (by_type inside_rules t) m.ty (types_of ms) xs h in
      subst (λ xs. has_array_inside xs ≡ list_any (has_array t) (m ∷ ms)) s.4
      (any_from m ms s.0 s.1 s.2 (any_inside ms s.1 s.3))

  -- the members of a completed aggregate have values
  abbrev OfMembers : ℕ → List MemberRow → Type 0
  OfMembers a ms =
      (g : AggregateRow) × (slice_get t.aggregates a ≡ Some g) × (g.members ≡ Some ms)

  members_are : (a : ℕ) (o : Option AggregateRow) → slice_get t.aggregates a ≡ o → (ms : List MemberRow)
      → unwrap_or (option_and_then (λ (g : AggregateRow). g.members) o) [] ≡ ms → (ms ≡ []) ⊎ (OfMembers a ms)
  members_are a None at ms h = inl (sym h)
  members_are a (Some g) at ms h = by_members g.members refl h
    where
      by_members : (o : Option (List MemberRow)) → g.members ≡ o → unwrap_or o [] ≡ ms → (ms ≡ []) ⊎ (OfMembers a ms)
      by_members None e h = inl (sym h)
      by_members (Some ns) e h = inr (g, at, e ∙ ap Some h)

  completed_value : {A : Type 0} (r : TypeRules A) (n a : ℕ) → slice_get t.types n ≡ Some (Aggregate a)
      → (g : AggregateRow) (ms : List MemberRow) → slice_get t.aggregates a ≡ Some g → g.members ≡ Some ms
      → (xs : List A) → at_each (by_type r t) (types_of ms) ≡ Some xs
      → by_type r t n ≡ Some ((if g.is_union then r.union else r.struct) xs)
  completed_value r n a h g ms at e xs each =
      value_of r n (Aggregate a) h ∙ ap (option_and_then (at_aggregate r (by_type r t))) at
      ∙ ap (option_and_then (λ (ms : List MemberRow). at_whole r (by_type r t) g.is_union (types_of ms))) e
      ∙ ap (option_map (if g.is_union then r.union else r.struct)) each

  whole_holds : (u : Bool) (xs : List Inside)
      → ((if u then inside_rules.union else inside_rules.struct) xs).holds_array ≡ has_array_inside xs
  whole_holds true xs = refl
  whole_holds false xs = refl

  whole_levels : (u : Bool) (xs : List ℕ) → (if u then level_rules.union else level_rules.struct) xs ≡ suc (sum_of xs)
  whole_levels true xs = refl
  whole_levels false xs = refl

  sum_is : (ms : List MemberRow) (xs : List ℕ) → at_each (by_type level_rules t) (types_of ms) ≡ Some xs
      → sum_of xs ≡ rows_levels t ms
  sum_is [] xs h = let e : [] ≡ xs = cc in subst (λ xs. sum_of xs ≡ 0) e refl
  sum_is (m ∷ ms) xs h =
      let s = at_each_some (by_type level_rules t) m.ty (types_of ms) xs h in
      let one : levels t m.ty ≡ s.0 = ap level_in s.2 in
      let rest : sum_of s.1 ≡ rows_levels t ms = sum_is ms s.1 s.3 in
      sym (ap sum_of s.4) ∙ (omega (arith, one, rest))

  -- a completed aggregate by its members
  pub whole_is : (n a : ℕ) → slice_get t.types n ≡ Some (Aggregate a) → (ms : List MemberRow) → members_of t a ≡ ms
      → 0 < length ms → (holds t n ≡ list_any (has_array t) ms) × (levels t n ≡ suc (rows_levels t ms)) × AreThere t ms
  whole_is n a h ms e some = elim (members_are a (slice_get t.aggregates a) refl ms e) [
    | inl none ↦ absurd (omega (arith, ap length none, some))
    | inr m ↦ of_row m.0 m.1 m.2
  ]
    where
      each_there : (ms : List MemberRow) (xs : List ℕ) → at_each (by_type level_rules t) (types_of ms) ≡ Some xs
          → AreThere t ms
      each_there [] xs h i m at = absurd cc
      each_there (k ∷ ms) xs h zero m at =
          let s = at_each_some (by_type level_rules t) k.ty (types_of ms) xs h in
          let same : k ≡ m = cc in
          subst (λ (x : MemberRow). x.ty < length t.types) same (there level_rules k.ty s.0 s.2)
      each_there (k ∷ ms) xs h (suc i) m at =
          let s = at_each_some (by_type level_rules t) k.ty (types_of ms) xs h in each_there ms s.1 s.3 i m at

      of_row : (g : AggregateRow) → slice_get t.aggregates a ≡ Some g → g.members ≡ Some ms
          → (holds t n ≡ list_any (has_array t) ms) × (levels t n ≡ suc (rows_levels t ms)) × AreThere t ms
      of_row g at members =
          let xs = (laid inside_rules t built).members a g ms at members in
          let ls = (laid level_rules t built).members a g ms at members in (
            ap holds_in (completed_value inside_rules n a h g ms at members xs.0 xs.1)
                ∙ whole_holds g.is_union xs.0 ∙ any_inside ms xs.0 xs.1,
            ap level_in (completed_value level_rules n a h g ms at members ls.0 ls.1)
                ∙ whole_levels g.is_union ls.0 ∙ ap suc (sum_is ms ls.0 ls.1),
            each_there ms ls.0 ls.1,
          )

  pub aggregate_there : (n a : ℕ) → slice_get t.types n ≡ Some (Aggregate a) → a < length t.aggregates
  aggregate_there n a h = ltb-true a (length t.aggregates) (known t built n (Aggregate a) h)

  -- one that isn't completed, or has no members
  pub empty_is : (n a : ℕ) → slice_get t.types n ≡ Some (Aggregate a) → members_of t a ≡ [] → holds t n ≡ false
  empty_is n a h e = ap holds_in (value_of inside_rules n (Aggregate a) h) ∙ by_row (slice_get t.aggregates a) refl
    where
      by_members : (g : AggregateRow) → slice_get t.aggregates a ≡ Some g → (ms : Option (List MemberRow))
          → g.members ≡ ms
          → holds_in (option_and_then (λ (ms : List MemberRow).
          at_whole inside_rules (by_type inside_rules t) g.is_union (types_of ms)) ms) ≡ false
      by_members g at None q = refl
      by_members g at (Some ms) q =
          let none : ms ≡ [] = sym (ap (λ (o : Option AggregateRow).
          unwrap_or (option_and_then (λ (g : AggregateRow). g.members) o) []) at ∙ ap (λ o. unwrap_or o []) q) ∙ e in
          ap (λ (ms : List MemberRow).
          holds_in (at_whole inside_rules (by_type inside_rules t) g.is_union (types_of ms))) none
          ∙ of_none g.is_union
        where
          of_none : (u : Bool) → holds_in (Some ((if u then inside_rules.union else inside_rules.struct) [])) ≡ false
          of_none true = refl
          of_none false = refl

      by_row : (o : Option AggregateRow) → slice_get t.aggregates a ≡ o
          → holds_in (option_and_then (at_aggregate inside_rules (by_type inside_rules t)) o) ≡ false
      by_row None at = refl
      by_row (Some g) at = by_members g at g.members refl

  pub member_lower : (ms : List MemberRow) (i : ℕ) (m : MemberRow) → slice_get ms i ≡ Some m
      → levels t m.ty ≤ rows_levels t ms
  member_lower [] i m h = absurd cc
  member_lower (k ∷ ms) zero m h =
      let same : k ≡ m = cc in
      let e : levels t k.ty ≡ levels t m.ty = ap (λ (x : MemberRow). levels t x.ty) same in
      omega (arith, e)
  member_lower (k ∷ ms) (suc i) m h = let q = member_lower ms i m h in omega (arith, q)

  -- ---- members

  pub has_one : (ms : List MemberRow) (i : ℕ) (m : MemberRow) → slice_get ms i ≡ Some m → has_array t m ≡ true
      → list_any (has_array t) ms ≡ true
  has_one [] i m h q = absurd cc
  has_one (k ∷ ms) zero m h q =
      let same : k ≡ m = cc in rw (ap (has_array t) same ∙ q) refl
  has_one (k ∷ ms) (suc i) m h q = or_right (has_array t k) (list_any (has_array t) ms) (has_one ms i m h q)

  pub has_none : (ms : List MemberRow) → ((i : ℕ) (m : MemberRow) → slice_get ms i ≡ Some m → has_array t m ≡ false)
      → list_any (has_array t) ms ≡ false
  has_none [] h = refl
  has_none (k ∷ ms) h = rw (h 0 k refl, has_none ms (λ i m at. h (suc i) m at)) refl
