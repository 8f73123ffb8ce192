-- What the code keeps of a body that is open, seen as what the definitions speak of.
use Rattle.std.specs.Prelude.{◌≡◌, ℕ, ◌-◌, Bool, true, not, ◌&&◌, if◌then◌else◌, List, [], ◌∷◌, map}
use Rattle.std.specs.Prelude.{bytes_eq, Option, Some, None, IsTrue}
use Rattle.std.specs.Global.{Vec}
use Rattle.std.specs.List.{list_any}
use Rattle.std.specs.Option.{option_map}
use Rattle.ep_ast.specs.Declaration.{text_of}
use Rattle.ep_bitfield.specs.declared.field.Field.{Field}
use Rattle.ep_bitfield.specs.Units.{are_entries}
use Rattle.ep_typing.specs.Env.{NamedFields, entry as named_entry}
use Rattle.ep_elaboration.specs.Aggregates as rule
use Rattle.ep_declared.specs.declared.entries.Entry.{Entry}
use Rattle.ep_declared.specs.declared.entries.Entry.TheVariants as entries

abbrev pub entry : Entry → rule.Entry
entry (entries.Member n ty) = rule.a_member n.items ty
entry (entries.Field n ty t w) = rule.a_field (option_map text_of n) ty t w

abbrev pub name_of : rule.Entry → Option (List ℕ)
name_of (rule.a_member n ty) = Some n
name_of (rule.a_field n ty t w) = n

-- the number of its type
abbrev pub type_of : rule.Entry → ℕ
type_of (rule.a_member n ty) = ty
type_of (rule.a_field n ty t w) = ty

-- no name stands twice
abbrev pub are_distinct : rule.Named → Bool
are_distinct [] = true
are_distinct (e ∷ es) = not (rule.is_taken_name (name_of e) es) && are_distinct es

-- entries with the names that they have, of which none stands twice; each bit-field can lie in a unit
pub record AreNamed (es : List Entry) (names : List (Vec ℕ)) : Type 0 where
  pub same : (t : List ℕ) → list_any (λ k. bytes_eq t k.items) names ≡ rule.is_declared t (map entry es)
  pub distinct : IsTrue (are_distinct (map entry es))
  pub fit : IsTrue (are_entries (map rule.packed_as (map entry es)))

-- ---- one entry, with its field

-- what is packed, without the number of its unit
abbrev pub field_of : ℕ × Field → Field
field_of p = p.1

abbrev pub unit_members : (ty : ℕ) → Field → List (List ℕ × ℕ)
unit_members ty f = if rule.begins_unit f then (rule.unit_name, ty) ∷ [] else []

-- the members that it adds
abbrev pub own_members : rule.Entry → Field → List (List ℕ × ℕ)
own_members (rule.a_member n ty) f = (n, ty) ∷ []
own_members (rule.a_field n ty t w) f = unit_members ty f

-- the number of the unit of a field behind so many members
abbrev pub unit_number : (members : ℕ) → Field → ℕ
unit_number k f = if rule.begins_unit f then k else k - 1

-- the named bit-field that it adds behind so many members
abbrev pub own_fields : (members : ℕ) → rule.Entry → Field → NamedFields
own_fields k (rule.a_member n ty) f = []
own_fields k (rule.a_field n ty t w) f = rule.named_field (unit_number k f) n f

-- no bit-field has the name
abbrev pub IsFree : Option (List ℕ) → NamedFields → Type 0
IsFree None fs = Unit {0}
IsFree (Some n) fs = named_entry n fs ≡ None
