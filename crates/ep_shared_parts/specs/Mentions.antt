-- Which cells' forms mention which cells, by the numbers of their places.
use Rattle.std.specs.Prelude.{◌≡◌, ℕ, ◌+◌, ◌*◌, ◌%◌, Bool, true, ◌&&◌, nat_eq, nat_le, if◌then◌else◌, List, [], ◌∷◌}
use Rattle.std.specs.Prelude.{Option, Some, None, IfSome}
use Rattle.std.specs.List.{list_any, insert}
use Rattle.ep_bitslice.specs.declared.cell.CellName.{CellName}
use Rattle.ep_bitslice.specs.declared.segment.Segment.{Segment}
use Rattle.ep_bitslice.specs.declared.segment.Segment.TheVariants.{Bits, Fixed}
use Rattle.ep_bitslice.specs.Bits.{mentions}
use Rattle.ep_bitslice.specs.Segments.{bits}
use Rattle.ep_cells.specs.declared.cell.Cell.{Cell}
use Rattle.ep_cells.specs.Cells.{IsIn}
use Rattle.ep_shared_parts.specs.declared.parts.Part.{Part}
use Rattle.ep_shared_parts.specs.declared.uses.Use.{Use}

-- the number of an offset of a block, by blocks of 2^32 bytes
abbrev pub number_at : (block offset : ℕ) → ℕ
number_at b q = 4294967296 * b + q

abbrev pub number_of : {N : Type 0} → Cell N → ℕ
number_of c = number_at c.block c.offset

abbrev pub number_of_name : CellName → ℕ
number_of_name n = number_at n.block n.offset

-- a use is found by what is mentioned, and then by whose form mentions it
abbrev pub number_of_use : Use → ℕ
number_of_use u = 18446744073709551616 * u.of + u.by % 18446744073709551616

abbrev pub is_use : Use → Use → Bool
is_use u v = nat_eq v.of u.of && nat_eq v.by u.by

abbrev pub IsNoted : List Use → Use → Type 0
IsNoted us u = list_any (is_use u) us ≡ true

-- what each segment mentions is noted, where this is the number of the form's cell
abbrev pub AllNoted : List Use → ℕ → List Segment → Type 0
AllNoted us by [] = Unit {0}
AllNoted us by (Bits n from to ∷ ss) = IsNoted us (record { of = number_of_name n; by = by }) × AllNoted us by ss
AllNoted us by (Fixed v w ∷ ss) = AllNoted us by ss

-- the users of what begins at places with numbers from `from` to `last`
abbrev pub users_in : (from last : ℕ) → List Use → List ℕ
users_in from last [] = []
users_in from last (u ∷ us) =
    if nat_le from u.of && nat_le u.of last then u.by ∷ users_in from last us else users_in from last us

-- each mention of a form is noted
abbrev pub AreIndexed : {N : Type 0} → List Use → List (Cell N) → Type 0
AreIndexed {N} us cs = (c : Cell N) → IsIn c cs → IfSome c.form (λ ss. (n : CellName) → mentions n (bits ss) ≡ true
    → IsNoted us (record { of = number_of_name n; by = number_of c }))

-- a part with one use more
pub record IsMore (u : Use) (p q : Part Use) : Type 0 where
  pub at : ℕ
  pub start : q.start ≡ p.start
  pub items : q.items.value.items ≡ insert p.items.value.items at u

-- none, if the part has it
abbrev pub IsWith : Use → Part Use → Option (Part Use) → Type 0
IsWith u p None = IsNoted p.items.value.items u
IsWith u p (Some q) = IsMore u p q
