-- Aggregates that hold arrays, as the code goes about them: by the members, and how deep the parts of a type lie.
use Rattle.std.specs.Prelude.{◌≡◌, ℕ, suc, ◌+◌, ◌<◌, Bool, true, false, ◌&&◌, ◌||◌, ◌==◌, not, List, [], ◌∷◌, length}
use Rattle.std.specs.Prelude.{slice_get, unwrap_or, Some}
use Rattle.std.specs.Option.{option_map_or}
use Rattle.std.specs.List.{list_any, list_all}
use Rattle.ep_layout.specs.Table.{Table, TypeRules, AggregateRow, MemberRow, by_type, size}
use Rattle.ep_core.specs.WellFormed.{numbers_below}
use Rattle.ep_kinds.specs.Tame.{inside_at, is_array_of_holders, holds_array}
use Rattle.ep_double.specs.declared.tame.holders.Look.{Look}
use Rattle.ep_double.specs.declared.tame.holders.Look.TheVariants.{Found, Nothing, Within}

abbrev pub is_array : Table → ℕ → Bool
is_array t ty = inside_at t ty (λ x. x.is_array)

-- the type, or what its elements are at whatever depth of arrays, is an aggregate that holds an array
abbrev pub holds : Table → ℕ → Bool
holds t ty = inside_at t ty (λ x. x.holds_array)

-- a member is an array, or has one inside
abbrev pub has_array : Table → MemberRow → Bool
has_array t m = is_array t m.ty || holds t m.ty

abbrev pub has_no_union : Table → Bool
has_no_union t = list_all (λ (g : AggregateRow). not g.is_union) t.aggregates

abbrev pub has_no_array_of_holders : Table → Bool
has_no_array_of_holders t = list_all (λ ty. not (is_array_of_holders t ty)) (numbers_below (length t.types))

-- an aggregate of so many bytes that holds an array
abbrev pub is_holder_of : Table → (bytes ty : ℕ) → Bool
is_holder_of t n ty = holds_array t ty && option_map_or (λ s. s == n) (size t ty) false

-- ---- how deep parts lie

abbrev pub sum_of : List ℕ → ℕ
sum_of [] = 0
sum_of (n ∷ more) = n + sum_of more

abbrev pub level_rules : TypeRules ℕ
level_rules = record {
  scalar = λ w. 0;
  array = λ n x. suc x;
  struct = λ xs. suc (sum_of xs);
  union = λ xs. suc (sum_of xs);
}

abbrev pub levels : Table → ℕ → ℕ
levels t ty = unwrap_or (by_type level_rules t ty) 0

abbrev pub rows_levels : Table → List MemberRow → ℕ
rows_levels t [] = 0
rows_levels t (m ∷ more) = levels t m.ty + rows_levels t more

-- ---- answers

-- the types of the members are there
abbrev pub AreThere : Table → List MemberRow → Type 0
AreThere t ms = (i : ℕ) (m : MemberRow) → slice_get ms i ≡ Some m → m.ty < length t.types

-- what a look at a type says of whether it holds an array: yes, no, or as a part of it does
abbrev pub IsLook : Table → ℕ → Look → Type 0
IsLook t ty Found = holds t ty ≡ true
IsLook t ty Nothing = holds t ty ≡ false
IsLook t ty (Within part) = (holds t ty ≡ holds t part) × (part < length t.types) × (levels t part < levels t ty)

-- some member but that one has an array
abbrev pub OtherHas : Table → List MemberRow → (spared : ℕ) → Bool → Type 0
OtherHas t ms spared true = list_any (has_array t) ms ≡ true
OtherHas t ms spared false =
    (i : ℕ) (m : MemberRow) → (i ≡ spared → ⊥) → slice_get ms i ≡ Some m → has_array t m ≡ false
