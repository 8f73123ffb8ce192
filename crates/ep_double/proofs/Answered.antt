-- What looks at types answer, over plain data.
use Rattle.std.proofs.Common.{◌≡◌, ℕ, suc, ◌+◌, ◌*◌, ◌≤◌, ◌<◌, Bool, true, false, ◌||◌, ◌⊎◌, inl, inr, List, [], ◌∷◌}
use Rattle.std.proofs.Common.{length, get_or, slice_get, Some, option_map, refl, sym, ap, ◌∙◌, subst, arith}
use Rattle.std.proofs.Common.{eq-zero-or-pos, ◌-◌, nat_eq}
use Rattle.std.specs.List.{list_any}
use Rattle.std.proofs.lemmas.Option.{slice_get-map, slice_get_read, slice_get_within}
use Rattle.std.proofs.lemmas.Bool.{eqb-true, eqb-false}
use Rattle.ep_layout.specs.declared.types.Member.{Member}
use Rattle.ep_layout.specs.declared.types.Ty.TheVariants.{Aggregate}
use Rattle.ep_layout.specs.Table.{Table, MemberRow, IsBuilt, members_of}
use Rattle.ep_layout.specs.Views.{member_view, members_view}
use Rattle.ep_layout.proofs.Options.{same_some}
use Rattle.ep_double.specs.Holders.{is_array, holds, has_array, levels, rows_levels, AreThere, OtherHas}
use Rattle.ep_double.proofs.Insides.{whole_is, empty_is, member_lower, has_one, has_none}

pub row_at : (ms : List Member) (i : ℕ) (m : Member) → i < length ms → m ≡ get_or ms i m
    → slice_get (members_view ms) i ≡ Some (member_view m)
row_at ms i m l e =
    slice_get-map member_view ms i ∙ ap (option_map member_view) (slice_get_read ms (length ms) i m refl l e)

rows_length : (ms : List Member) → length (members_view ms) ≡ length ms
rows_length [] = refl
rows_length (m ∷ ms) = ap suc (rows_length ms)

rows_none : (ms : List Member) → length ms ≡ 0 → members_view ms ≡ []
rows_none [] h = refl
rows_none (m ∷ ms) h = absurd (omega (arith, h))

eq_or_not : (j i : ℕ) (b : Bool) → nat_eq j i ≡ b → (j ≡ i) ⊎ (j ≡ i → ⊥)
eq_or_not j i true h = inl (eqb-true j i h)
eq_or_not j i false h = inr (eqb-false j i h)

-- of a type that is an aggregate with these members
module _ (t : Table) (built : IsBuilt t) (n a : ℕ) (h : slice_get t.types n ≡ Some (Aggregate a)) (ms : List Member)
    (e : members_view ms ≡ members_of t a) where
  pub no_members : length ms ≡ 0 → holds t n ≡ false
  no_members none = empty_is t built n a h (sym e ∙ rows_none ms none)

  module _ (some : 0 < length ms) where
    whole : (holds t n ≡ list_any (has_array t) (members_view ms))
        × (levels t n ≡ suc (rows_levels t (members_view ms)))
        × AreThere t (members_view ms)
    whole = whole_is t built n a h (members_view ms) (sym e) (let l = rows_length ms in omega (arith, some, l))

    pub rows_there : AreThere t (members_view ms)
    rows_there = whole.2

    pub rows_lower : 4 * rows_levels t (members_view ms) + 4 < 4 * levels t n + 1
    rows_lower = let l = whole.1 in omega (arith, l)

    pub other_found : list_any (has_array t) (members_view ms) ≡ true → holds t n ≡ true
    other_found q = whole.0 ∙ q

    module _ (i : ℕ) (m : Member) (l : i < length ms) (at : m ≡ get_or ms i m) where
      pub part_there : m.ty < length t.types
      part_there = rows_there i (member_view m) (row_at ms i m l at)

      pub part_is_array : is_array t m.ty ≡ true → holds t n ≡ true
      part_is_array q =
          whole.0 ∙ has_one t built (members_view ms) i (member_view m) (row_at ms i m l at) (array_first m.ty q)
        where
          array_first : (k : ℕ) → is_array t k ≡ true → (is_array t k || holds t k) ≡ true
          array_first k q = rw q refl

      -- no other has an array, and this is none
      pub as_part : OtherHas t (members_view ms) i false → is_array t m.ty ≡ false
          → (holds t n ≡ holds t m.ty) × (m.ty < length t.types) × (levels t m.ty < levels t n)
      as_part none q =
          let lower = member_lower t built (members_view ms) i (member_view m) row in
          let w = whole.1 in
          (whole.0 ∙ by_part (holds t m.ty) refl, part_there, omega (arith, lower, w))
        where
          row : slice_get (members_view ms) i ≡ Some (member_view m)
          row = row_at ms i m l at

          here : (b : Bool) → holds t m.ty ≡ b → has_array t (member_view m) ≡ b
          here b e = rw (q, e) refl

          by_part : (b : Bool) → holds t m.ty ≡ b → list_any (has_array t) (members_view ms) ≡ b
          by_part true e = has_one t built (members_view ms) i (member_view m) (row_at ms i m l at) (here true e)
          by_part false e = has_none t built (members_view ms) (λ j k at_j.
              each j k at_j (eq_or_not j i (nat_eq j i) refl))
            where
              each : (j : ℕ) (k : MemberRow) → slice_get (members_view ms) j ≡ Some k → (j ≡ i) ⊎ (j ≡ i → ⊥)
                  → has_array t k ≡ false
              each j k at_j (inl s) =
                  let other = subst (λ (x : ℕ). slice_get (members_view ms) x ≡ Some k) s at_j in
                  let one = same_some (member_view m) k (slice_get (members_view ms) i) row other in
                  sym (ap (has_array t) one) ∙ here false e
              each j k at_j (inr d) = none j k d at_j

-- ---- one member after another

-- those before this one have no array
abbrev pub NoneBefore : Table → List MemberRow → (spared count : ℕ) → Type 0
NoneBefore t ms s n =
    (i : ℕ) (m : MemberRow) → i < n → (i ≡ s → ⊥) → slice_get ms i ≡ Some m → has_array t m ≡ false

below_or_last : (i n : ℕ) → i < n + 1 → (i < n) ⊎ (i ≡ n)
below_or_last i n h = elim (eq-zero-or-pos (n - i)) [
  | inl past ↦ inr (omega (arith, past, h))
  | inr below ↦ inl (omega (arith, below))
]

pub next_spared : (t : Table) (ms : List MemberRow) (s n : ℕ) → NoneBefore t ms s n → n ≡ s → NoneBefore t ms s (n + 1)
next_spared t ms s n none e i m l d at = elim (below_or_last i n l) [
  | inl before ↦ none i m before d at
  | inr last ↦ absurd (d (last ∙ e))
]

pub next_none : (t : Table) (ms : List MemberRow) (s n : ℕ) → NoneBefore t ms s n → (m : MemberRow)
    → slice_get ms n ≡ Some m → has_array t m ≡ false → NoneBefore t ms s (n + 1)
next_none t ms s n none k here q i m l d at = elim (below_or_last i n l) [
  | inl before ↦ none i m before d at
  | inr last ↦
      let there = subst (λ (x : ℕ). slice_get ms x ≡ Some m) last at in
      sym (ap (has_array t) (same_some k m (slice_get ms n) here there)) ∙ q
]

pub none_all : (t : Table) (ms : List Member) (s n : ℕ) → NoneBefore t (members_view ms) s n → length ms ≤ n
    → OtherHas t (members_view ms) s false
none_all t ms s n none past i m d at =
    let l = slice_get_within (members_view ms) i m at in
    let e = rows_length ms in
    none i m (omega (arith, l, e, past)) d at
