-- The places of names among members.
use Rattle.std.specs.Prelude.{◌≡◌, ℕ, List, Option, position, bytes_eq}
use Rattle.std.specs.Global.{Vec}
use Rattle.std.specs.Map.{lookup}
use Rattle.ep_layout.specs.declared.types.Member.{Member}

-- the place of the first member of a name
abbrev pub place_of : List ℕ → List Member → Option ℕ
place_of name members = position (λ (m : Member). bytes_eq name m.name.items) members

-- entries that give the place of each name
abbrev pub ArePlaces : List Member → List (Vec ℕ × ℕ) → Type 0
ArePlaces members entries = (name : List ℕ) → lookup (λ k. bytes_eq name k.items) entries ≡ place_of name members
