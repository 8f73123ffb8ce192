-- Forms as lists of segments, the lowest first, and their normal form.
use Rattle.std.specs.Prelude.{◌≡◌, ℕ, zero, suc, ◌+◌, ◌-◌, ◌*◌, ◌/◌, ◌^◌, ◌<◌, ◌≤◌, ◌&&◌, nat_eq, nat_le}
use Rattle.std.specs.Prelude.{if◌then◌else◌, List, [], ◌∷◌, ◌++◌, length, take, true, Option, Some, None}
use Rattle.std.specs.Option.{option_map_or}
use Rattle.ep_int.specs.Types.{residue}
use Rattle.ep_bitslice.specs.declared.cell.CellName.{CellName}
use Rattle.ep_bitslice.specs.declared.segment.Segment.{Segment}
use Rattle.ep_bitslice.specs.declared.segment.Segment.TheVariants.{Bits, Fixed}
use Rattle.ep_bitslice.specs.Bits.{Bit, fixed, cell_bit, Numbers, is_odd, is_same_cell, are_disjoint, either_of}

-- ---- segments as bits

-- the lowest w bits of v
abbrev pub fixed_bits : ℕ → ℕ → List Bit
fixed_bits zero v = []
fixed_bits (suc w) v = fixed (is_odd v) ∷ fixed_bits w (v / 2)

-- so many bits of a cell, from bit k on
abbrev pub run_bits : CellName → ℕ → ℕ → List Bit
run_bits c k zero = []
run_bits c k (suc n) = cell_bit c k ∷ run_bits c (k + 1) n

abbrev pub segment_bits : Segment → List Bit
segment_bits (Bits c from to) = run_bits c from (to - from)
segment_bits (Fixed v w) = fixed_bits w v

abbrev pub bits : List Segment → List Bit
bits [] = []
bits (s ∷ ss) = segment_bits s ++ bits ss

-- ---- segments as numbers

abbrev pub segment_width : Segment → ℕ
segment_width (Bits c from to) = to - from
segment_width (Fixed v w) = w

-- the number of bits of a form
abbrev pub width : List Segment → ℕ
width [] = 0
width (s ∷ ss) = segment_width s + width ss

-- bits `from` to before `to` of the cell's number in two's complement, as a number
abbrev pub segment_number : Numbers → Segment → ℕ
segment_number n (Bits c from to) = residue (2 ^ to) (n c) / 2 ^ from
segment_number n (Fixed v w) = v

-- the number that a form stands for where the cells hold these numbers
abbrev pub number : Numbers → List Segment → ℕ
number n [] = 0
number n (s ∷ ss) = segment_number n s + 2 ^ segment_width s * number n ss

-- ---- the normal form

-- Two neighbours, the lower first, as one segment: fixed bits always, and runs of one cell where the second goes on
-- where the first ends.
abbrev pub joined : Segment → Segment → Option Segment
joined (Fixed v w) (Fixed x y) = Some (Fixed (v + x * 2 ^ w) (w + y))
joined (Bits c f t) (Bits d g u) = if is_same_cell c d && nat_eq t g then Some (Bits c f u) else None
joined (Fixed v w) (Bits d g u) = None
joined (Bits c f t) (Fixed x y) = None

-- one segment more, below
abbrev pub put_before : Segment → List Segment → List Segment
put_before s [] = s ∷ []
put_before s (t ∷ ss) = option_map_or (λ m. m ∷ ss) (joined s t) (s ∷ t ∷ ss)

abbrev pub bit_segment : Bit → Segment
bit_segment (fixed b) = Fixed (if b then 1 else 0) 1
bit_segment (cell_bit c k) = Bits c k (k + 1)

-- The segments of bits: from the highest bit down, each is joined with the segment above it where the two can be one.
abbrev pub normal : List Bit → List Segment
normal [] = []
normal (b ∷ bs) = put_before (bit_segment b) (normal bs)

-- a form has at most so many segments, and so many bits
abbrev pub most_segments : ℕ
most_segments = 8

abbrev pub most_bits : ℕ
most_bits = 64

-- the form of bits, if they don't need too many segments
abbrev pub form_of : List Bit → Option (List Segment)
form_of bs = if nat_le (length (normal bs)) most_segments then Some (normal bs) else None

-- a segment has bits, and a fixed one no more than its width has room for
abbrev pub IsSegment : Segment → Type 0
IsSegment (Bits c from to) = (from < to) × (to ≤ most_bits)
IsSegment (Fixed v w) = (0 < w) × (w ≤ most_bits) × (v < 2 ^ w)

abbrev pub AreSegments : List Segment → Type 0
AreSegments [] = Unit {0}
AreSegments (s ∷ ss) = IsSegment s × AreSegments ss

-- the bits of two forms, those of the first below, if they are few enough
abbrev pub concat_of : List Segment → List Segment → Option (List Segment)
concat_of low high = if nat_le (width low + width high) most_bits then form_of (bits low ++ bits high) else None

-- the bitwise or of two forms that have no bit in common
abbrev pub or_of : List Segment → List Segment → Option (List Segment)
or_of a b = if are_disjoint (bits a) (bits b) then form_of (either_of (bits a) (bits b)) else None

-- bits that no form has
abbrev pub TooMany : List Bit → Type 0
TooMany bs = most_segments < length (normal bs)

-- the first of these isn't the other half of a segment
abbrev pub IsApart : Segment → List Segment → Type 0
IsApart s [] = Unit {0}
IsApart s (t ∷ ss) = joined s t ≡ None

-- no two neighbours are halves of a segment
abbrev pub AreApart : List Segment → Type 0
AreApart [] = Unit {0}
AreApart (s ∷ ss) = IsApart s ss × AreApart ss

-- normal form, and within the limits
pub record IsForm (ss : List Segment) : Type 0 where
  pub segments : AreSegments ss
  pub apart : AreApart ss
  pub few : length ss ≤ most_segments
  pub short : width ss ≤ most_bits

-- as many of a segment's lowest bits as another has
abbrev pub front_of : Segment → Segment → List Bit
front_of s a = take (segment_width s) (segment_bits a)

-- the lowest bits that two segments have, at each the one that isn't a zero, where the other one is
pub record IsEitherFront (a b s : Segment) : Type 0 where
  pub segment : IsSegment s
  pub low : segment_width s ≤ segment_width a
  pub high : segment_width s ≤ segment_width b
  pub disjoint : are_disjoint (front_of s a) (front_of s b) ≡ true
  pub bits_are : segment_bits s ≡ either_of (front_of s a) (front_of s b)

-- so many bits more, and still a form
pub record IsAppended (old : List Segment) (bs : List Bit) (new : List Segment) : Type 0 where
  pub form : IsForm new
  pub bits_are : bits new ≡ bits old ++ bs
