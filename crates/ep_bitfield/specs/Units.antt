-- Which bit-fields in a row share a unit: C11 6.7.2.1p11 and p12. One that doesn't fit into what is left of the unit,
-- or is of another type, begins a new unit (this project's choice).
use Rattle.std.specs.Prelude.{◌≡◌, ◌≤◌, ℕ, ◌+◌, Bool, true, false, ◌&&◌, nat_eq, nat_le, if◌then◌else◌, List, [], ◌∷◌}
use Rattle.std.specs.List.{list_all, AllByRecursion}
use Rattle.ep_int.specs.declared.types.IntType.{IntType}
use Rattle.ep_int.specs.declared.types.IntType.TheVariants.{U8}
use Rattle.ep_int.specs.Types.{bits_of}
use Rattle.ep_bitfield.specs.declared.field.Field.{Field}
use Rattle.ep_bitfield.specs.declared.units.Row.{Row}
use Rattle.ep_bitfield.specs.Bits.{is_field, is_unit_type}

-- an unsigned type of 8, 16 or 32 bits, and at most so many bits as it has; 0 bits end a unit
abbrev pub is_entry : IntType × ℕ → Bool
is_entry e = is_unit_type e.0 && nat_le e.1 (bits_of e.0)

abbrev pub are_entries : List (IntType × ℕ) → Bool
are_entries es = list_all is_entry es

-- a field goes on in the open unit: it is of the unit's type, which is unsigned, and fits into what is left
abbrev pub shares : Row → IntType × ℕ → Bool
shares r e = r.is_open && (nat_eq (bits_of r.t) (bits_of e.0) && nat_le (r.used + e.1) (bits_of e.0))

-- the open unit's number, 0 where there is none
abbrev pub open_number : Row → ℕ
open_number r = if r.is_open then r.unit else 0

-- the unit of an entry
abbrev pub unit_of : Row → IntType × ℕ → ℕ
unit_of r e = if nat_eq e.1 0 then open_number r else if shares r e then r.unit else r.begun

-- how many bits the fields before it use there
abbrev pub used_before : Row → IntType × ℕ → ℕ
used_before r e = if nat_eq e.1 0 then 0 else if shares r e then r.used else 0

abbrev pub placed : Row → IntType × ℕ → ℕ × Field
placed r e = (unit_of r e, record { t = e.0; used = used_before r e; width = e.1 })

-- the units behind an entry
abbrev pub behind : Row → IntType × ℕ → Row
behind r e =
    if nat_eq e.1 0 then record r { is_open = false }
    else if shares r e then record r { used = r.used + e.1 }
    else record { begun = r.begun + 1; is_open = true; unit = r.begun; t = e.0; used = e.1 }

-- the unit and the field of each entry
abbrev pub packed_from : Row → List (IntType × ℕ) → List (ℕ × Field)
packed_from r [] = []
packed_from r (e ∷ es) = placed r e ∷ packed_from (behind r e) es

-- units as far as they have begun
abbrev pub UnitsSoFar : Type 0
UnitsSoFar = Row

-- no unit yet
abbrev pub no_units : Row
no_units = record { begun = 0; is_open = false; unit = 0; t = U8; used = 0 }

abbrev pub packed : List (IntType × ℕ) → List (ℕ × Field)
packed es = packed_from no_units es

-- ---- what that means

-- an entry of at least one bit is a field that its unit has room for
abbrev pub IsInUnit : ℕ × Field → Type 0
IsInUnit e = 1 ≤ e.1.width → is_field e.1 ≡ true

-- two fields of one unit are of one type, and the later one lies behind the bits of the earlier one
abbrev pub LiesBehind : (earlier later : ℕ × Field) → Type 0
LiesBehind a b = a.0 ≡ b.0 → 1 ≤ a.1.width → 1 ≤ b.1.width → (a.1.t ≡ b.1.t) × (a.1.used + a.1.width ≤ b.1.used)

abbrev pub AreApart : List (ℕ × Field) → Type 0
AreApart [] = Unit {0}
AreApart (a ∷ rest) = AllByRecursion (LiesBehind a) rest × AreApart rest
