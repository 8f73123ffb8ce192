-- Forms of cells: when two are the same, and what becomes of them where cells change.
use Rattle.std.specs.Prelude.{Bool, true, false, ◌&&◌, nat_eq, if◌then◌else◌, List, [], ◌∷◌, Option, Some, None}
use Rattle.std.specs.Option.{option_map}
use Rattle.ep_bitslice.specs.declared.cell.CellName.{CellName}
use Rattle.ep_bitslice.specs.declared.segment.Segment.{Segment}
use Rattle.ep_bitslice.specs.declared.segment.Segment.TheVariants.{Bits, Fixed}
use Rattle.ep_bitslice.specs.Bits.{Bit, fixed, cell_bit, is_same_cell}
use Rattle.ep_bitslice.specs.Segments.{bits, normal}
use Rattle.ep_cells.specs.declared.cell.Cell.{Cell}

-- ---- sameness

abbrev pub is_same_segment : Segment → Segment → Bool
is_same_segment (Bits c f t) (Bits d g u) = is_same_cell c d && (nat_eq f g && nat_eq t u)
is_same_segment (Bits c f t) (Fixed v w) = false
is_same_segment (Fixed v w) (Bits d g u) = false
is_same_segment (Fixed v w) (Fixed x y) = nat_eq v x && nat_eq w y

abbrev pub are_same_segments : List Segment → List Segment → Bool
are_same_segments [] [] = true
are_same_segments [] (t ∷ ts) = false
are_same_segments (s ∷ ss) [] = false
are_same_segments (s ∷ ss) (t ∷ ts) = is_same_segment s t && are_same_segments ss ts

-- both have the same form
abbrev pub have_same_form : Option (List Segment) → Option (List Segment) → Bool
have_same_form None f = false
have_same_form (Some f) None = false
have_same_form (Some f) (Some g) = are_same_segments f g

-- the form that both have
abbrev pub common_form : Option (List Segment) → Option (List Segment) → Option (List Segment)
common_form f g = if have_same_form f g then f else None

-- ---- changes of cells

-- the name by which a mention of a cell goes on, if it does
abbrev pub Fate : Type 0
Fate = CellName → Option CellName

abbrev pub bit_after : Fate → Bit → Option Bit
bit_after f (fixed b) = Some (fixed b)
bit_after f (cell_bit c k) = option_map (λ e. cell_bit e k) (f c)

abbrev pub put_bit : Option Bit → Option (List Bit) → Option (List Bit)
put_bit None bs = None
put_bit (Some b) None = None
put_bit (Some b) (Some bs) = Some (b ∷ bs)

-- the bits, if every mention goes on
abbrev pub bits_after : Fate → List Bit → Option (List Bit)
bits_after f [] = Some []
bits_after f (b ∷ bs) = put_bit (bit_after f b) (bits_after f bs)

-- the form with the new names, if every mention goes on
abbrev pub form_after : Fate → Option (List Segment) → Option (List Segment)
form_after f None = None
form_after f (Some ss) = option_map normal (bits_after f (bits ss))

abbrev pub reformed : {N : Type 0} → Fate → Cell N → Cell N
reformed f c = record c { form = form_after f c.form }
