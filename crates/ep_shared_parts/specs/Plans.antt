-- Parts that take the places of others.
use Rattle.std.specs.Prelude.{◌≡◌, ℕ, ◌<◌, ◌≤◌, Bool, true, ◌⊎◌, nat_eq, List, [], ◌∷◌, map, length, get_or}
use Rattle.std.specs.List.{list_any}
use Rattle.ep_shared_parts.specs.declared.parts.Part.{Part}
use Rattle.ep_shared_parts.specs.declared.parts.Edit.{Edit}

-- none of the numbers is one from `from` to `last`
abbrev pub AreOutside : (from last : ℕ) → List ℕ → Type 0
AreOutside from last [] = Unit {0}
AreOutside from last (n ∷ ns) = (from ≤ n → n ≤ last → ⊥) × AreOutside from last ns

abbrev pub is_edited : {X : Type 0} → ℕ → List (Edit X) → Bool
is_edited i es = list_any (λ e. nat_eq e.at i) es

-- a part with what h makes of the items of the one in its place
pub record IsEdit {X : Type 0} (h : List X → List X) (ps : List (Part X)) (e : Edit X) : Type 0 where
  pub within : e.at < length ps
  pub start : e.part.start ≡ (get_or ps e.at e.part).start
  pub items : e.part.items.value.items ≡ h (get_or ps e.at e.part).items.value.items

abbrev pub AreEdits : {X : Type 0} → (List X → List X) → List (Part X) → List (Edit X) → Type 0
AreEdits h ps [] = Unit {0}
AreEdits h ps (e ∷ es) = IsEdit h ps e × AreEdits h ps es

-- what was edited still is
abbrev pub KeepsEdits : {X : Type 0} → (before after : List (Edit X)) → Type 0
KeepsEdits es fs = (i : ℕ) → is_edited i es ≡ true → is_edited i fs ≡ true

-- the parts with numbers from `from` to `last` are edited
abbrev pub Covers : {X : Type 0} → (X → ℕ) → (from last : ℕ) → List (Part X) → List (Edit X) → Type 0
Covers {X} number from last ps es = (i : ℕ) (d : Part X) → i < length ps
    → (is_edited i es ≡ true) ⊎ AreOutside from last (map number (get_or ps i d).items.value.items)
