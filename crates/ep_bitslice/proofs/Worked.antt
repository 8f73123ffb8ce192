-- The definitions on worked values.
use Rattle.std.proofs.Common.{◌≡◌, ℕ, ℤ, pos, negsuc, true, false, cond, List, [], ◌∷◌, length, Option, Some, None}
use Rattle.std.proofs.Common.{refl}
use Rattle.ep_int.specs.declared.types.IntType.TheVariants.{U8, U16, U32, U64}
use Rattle.ep_bitslice.specs.declared.cell.Side.TheVariants.{Left, Right, Shared}
use Rattle.ep_bitslice.specs.declared.cell.CellName.{CellName}
use Rattle.ep_bitslice.specs.declared.segment.Segment.{Segment}
use Rattle.ep_bitslice.specs.declared.segment.Segment.TheVariants.{Bits, Fixed}
use Rattle.ep_bitslice.specs.Bits.{bit_of, part_of, shifted_left, shifted_right, extended, masked, renamed, mentions}
use Rattle.ep_bitslice.specs.Bits.{is_same_cell}
use Rattle.ep_bitslice.specs.Segments.{bits, number, joined, normal, form_of, concat_of, or_of}

abbrev short : CellName
short = record { side = Left; block = 0; offset = 0; t = U16 }

abbrev word : CellName
word = record { side = Left; block = 0; offset = 0; t = U32 }

abbrev long : CellName
long = record { side = Shared; block = 1; offset = 8; t = U64 }

abbrev byte : ℕ → CellName
byte k = record { side = Right; block = 2; offset = k; t = U8 }

-- what there is of a chain of calls
abbrev then_or : Option (List Segment) → Option (List Segment) → Option (List Segment)
then_or (Some a) (Some b) = or_of a b
then_or (Some a) None = None
then_or None b = None

abbrev up : ℕ → List Segment → Option (List Segment)
up k ss = form_of (shifted_left k (bits ss))

abbrev down : ℕ → List Segment → Option (List Segment)
down k ss = form_of (shifted_right k (bits ss))

abbrev and : ℕ → Option (List Segment) → Option (List Segment)
and m (Some ss) = form_of (masked m (bits ss))
and m None = None

-- ((x >> 8) | (x << 8)) as an int, of a short that was promoted
swapped_short : then_or (down 8 (normal (extended 32 (bits (Bits short 0 16 ∷ []))))) (up 8 (normal (extended 32 (bits (Bits short 0 16 ∷ []))))) ≡ Some (Bits short 8 16 ∷ Bits short 0 16 ∷ Fixed 0 8 ∷ [])
swapped_short = refl

-- and converted to 16 bits
swapped_short_cut : normal (part_of 0 16 (bits (Bits short 8 16 ∷ Bits short 0 16 ∷ Fixed 0 8 ∷ []))) ≡ Bits short 8 16 ∷ Bits short 0 8 ∷ []
swapped_short_cut = refl

-- (x >> 24) | ((x >> 8) & 0xff00) | ((x << 8) & 0xff0000) | (x << 24)
swapped_word : then_or (then_or (then_or (down 24 (Bits word 0 32 ∷ [])) (and 65280 (down 8 (Bits word 0 32 ∷ [])))) (and 16711680 (up 8 (Bits word 0 32 ∷ [])))) (up 24 (Bits word 0 32 ∷ [])) ≡ Some (Bits word 24 32 ∷ Bits word 16 24 ∷ Bits word 8 16 ∷ Bits word 0 8 ∷ [])
swapped_word = refl

-- every second byte of a long: eight segments, and with one bit more nine, which no form has
masked_long : form_of (masked 0x00ff00ff00ff00ff (bits (Bits long 0 64 ∷ []))) ≡ Some (Bits long 0 8 ∷ Fixed 0 8 ∷ Bits long 16 24 ∷ Fixed 0 8 ∷ Bits long 32 40 ∷ Fixed 0 8 ∷ Bits long 48 56 ∷ Fixed 0 8 ∷ [])
masked_long = refl

nine_segments : (length (normal (masked 0x80ff00ff00ff00ff (bits (Bits long 0 64 ∷ [])))) ≡ 9) × (form_of (masked 0x80ff00ff00ff00ff (bits (Bits long 0 64 ∷ []))) ≡ None)
nine_segments = (refl, refl)

-- eight bytes of different cells make a form, and a ninth cell doesn't fit
abbrev seven : List Segment
seven = Bits (byte 1) 0 7 ∷ Bits (byte 2) 0 7 ∷ Bits (byte 3) 0 7 ∷ Bits (byte 4) 0 7 ∷ Bits (byte 5) 0 7 ∷ Bits (byte 6) 0 7 ∷ Bits (byte 7) 0 7 ∷ []

eight_cells : concat_of (Bits (byte 0) 0 7 ∷ []) seven ≡ Some (Bits (byte 0) 0 7 ∷ seven)
eight_cells = refl

nine_cells : concat_of (Bits (byte 0) 0 7 ∷ seven) (Bits (byte 8) 0 7 ∷ []) ≡ None
nine_cells = refl

-- neighbouring halves are one segment, and so are neighbouring constants
joined_runs : concat_of (Bits word 0 8 ∷ []) (Bits word 8 32 ∷ []) ≡ Some (Bits word 0 32 ∷ [])
joined_runs = refl

joined_constants : concat_of (Fixed 5 4 ∷ []) (Fixed 9 4 ∷ Bits word 0 8 ∷ []) ≡ Some (Fixed 149 8 ∷ Bits word 0 8 ∷ [])
joined_constants = refl

-- exchanged halves stay apart, and so do runs of different cells
kept_apart : (joined (Bits word 8 16) (Bits word 0 8) ≡ None) × (joined (Bits (byte 0) 0 8) (Bits (byte 1) 0 8) ≡ None) × (joined (Bits word 0 8) (Fixed 0 8) ≡ None)
kept_apart = (refl, refl, refl)

-- past 64 bits there is no form
too_long : concat_of (Bits long 0 64 ∷ []) (Fixed 0 1 ∷ []) ≡ None
too_long = refl

-- an or of bits that both may be ones, and of unequal widths
no_or : (or_of (Bits word 0 8 ∷ []) (Fixed 1 8 ∷ []) ≡ None) × (or_of (Fixed 6 4 ∷ []) (Fixed 3 4 ∷ []) ≡ None) × (or_of (Fixed 0 8 ∷ []) (Fixed 0 9 ∷ []) ≡ None)
no_or = (refl, refl, refl)

or_of_constants : or_of (Fixed 9 4 ∷ []) (Fixed 6 4 ∷ []) ≡ Some (Fixed 15 4 ∷ [])
or_of_constants = refl

-- to 64 bits
extended_byte : form_of (extended 64 (bits (Bits (byte 3) 0 8 ∷ Fixed 1 1 ∷ []))) ≡ Some (Bits (byte 3) 0 8 ∷ Fixed 1 56 ∷ [])
extended_byte = refl

-- a renamed cell may go on where another ends
renamed_joins : normal (renamed (byte 0) word (bits (Bits (byte 0) 0 8 ∷ Bits word 8 32 ∷ []))) ≡ Bits word 0 32 ∷ []
renamed_joins = refl

mentioned : (mentions (byte 1) (bits (Bits (byte 0) 0 8 ∷ Bits (byte 1) 3 4 ∷ [])) ≡ true) × (mentions (byte 2) (bits (Bits (byte 0) 0 8 ∷ Bits (byte 1) 3 4 ∷ [])) ≡ false)
mentioned = (refl, refl)

-- the numbers of cells: -2 in a byte, 0x11223344 elsewhere
abbrev held : CellName → ℤ
held c = cond (is_same_cell c (byte 0)) (negsuc 1) (pos 287454020)

-- bits 8 to 16 of 0x11223344 are 0x33, and the bits of -2 are 0xfe
numbers : (number held (Bits word 8 16 ∷ []) ≡ 51) × (number held (Bits (byte 0) 0 8 ∷ []) ≡ 254) × (number held (Bits (byte 0) 4 8 ∷ Fixed 5 4 ∷ []) ≡ 95)
numbers = (refl, refl, refl)

-- the swapped word
swapped_number : number held (Bits word 24 32 ∷ Bits word 16 24 ∷ Bits word 8 16 ∷ Bits word 0 8 ∷ []) ≡ 0x44332211
swapped_number = refl

-- bits of -1 above any width are ones
above_the_width : (bit_of (negsuc 0) 7 ≡ 1) × (bit_of (negsuc 0) 40 ≡ 1) × (bit_of (pos 255) 8 ≡ 0)
above_the_width = (refl, refl, refl)
