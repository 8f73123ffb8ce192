-- Cells from bytes, part by part: what the readers answer.
use Rattle.std.specs.Prelude.{◌≡◌, ℕ, zero, suc, ◌+◌, ◌*◌, ◌^◌, ℤ, pos, Bool, true, false, ◌&&◌}
use Rattle.std.specs.Prelude.{if◌then◌else◌, nat_eq, nat_lt, nat_le, int_le, unsigned_abs, is_none}
use Rattle.std.specs.Prelude.{List, [], ◌∷◌, length, Option, Some, None, Result, Ok, Err}
use Rattle.std.specs.Option.{option_map, option_and_then}
use Rattle.std.specs.Int.{w128, cast_signed}
use Rattle.ep_int.specs.declared.types.IntType.{IntType}
use Rattle.ep_int.specs.declared.types.IntType.TheVariants.{I8, U8, I16, U16, I32, U32, I64, U64}
use Rattle.ep_int.specs.declared.types.Scalar.{Scalar}
use Rattle.ep_int.specs.declared.types.Scalar.TheVariants.{Int, Pointer}
use Rattle.ep_bitslice.specs.declared.cell.Side.{Side}
use Rattle.ep_bitslice.specs.declared.cell.Side.TheVariants.{Left, Right, Shared}
use Rattle.ep_bitslice.specs.declared.cell.CellName.{CellName}
use Rattle.ep_bitslice.specs.declared.segment.Segment.{Segment}
use Rattle.ep_bitslice.specs.declared.segment.Segment.TheVariants.{Bits, Fixed}
use Rattle.ep_bitslice.specs.Segments.{joined, width, most_bits, most_segments}
use Rattle.ep_domain.specs.Pairs.{pair_of}
use Rattle.ep_interval_laws.specs.Interval.{between}
use Rattle.ep_congruence_laws.specs.Classes.{class}
use Rattle.ep_congruence_domain.specs.Congruence.{Congruence, formed}
use Rattle.ep_pointers.specs.Value.{Pointers, Target, pointers}
use Rattle.ep_cells.specs.declared.cell.Cell.{Cell}
use Rattle.ep_cells.specs.declared.cell.Value.{Value}
use Rattle.ep_cells.specs.declared.cell.Value.TheVariants.{Num, Ptr}
use Rattle.ep_cert_cells.specs.declared.cells.Header.{Header}
use Rattle.ep_cert_cells.specs.declared.unread.Unread.{Unread}
use Rattle.ep_cert_cells.specs.declared.unread.Unread.TheVariants as unread
use Rattle.ep_cert_cells.specs.Numbers.{Numbers}

-- ---- readers: what is read, and what is behind it

abbrev pub then_at : {X Y : Type 0} → Option (X × List ℕ) → (X → List ℕ → Option (Y × List ℕ)) → Option (Y × List ℕ)
then_at None f = None
then_at (Some p) f = f p.0 p.1

-- a value, if there is one, before what is behind it
abbrev pub before : {X : Type 0} → Option X → List ℕ → Option (X × List ℕ)
before o ys = option_map (λ x. (x, ys)) o

-- one behind the other
abbrev pub both_at : {X Y : Type 0} → (List ℕ → Option (X × List ℕ)) → (List ℕ → Option (Y × List ℕ)) → List ℕ →
    Option ((X × Y) × List ℕ)
both_at r s xs = then_at (r xs) (λ x ys. then_at (s ys) (λ y zs. Some ((x, y), zs)))

-- what is made of what is read
abbrev pub made_at : {X Y : Type 0} → (X → Option Y) → (List ℕ → Option (X × List ℕ)) → List ℕ → Option (Y × List ℕ)
made_at f r xs = then_at (r xs) (λ x ys. before (f x) ys)

-- so many
unfoldable pub list_at : {X : Type 0} → (List ℕ → Option (X × List ℕ)) → ℕ → List ℕ → Option (List X × List ℕ)
list_at r zero xs = Some ([], xs)
list_at r (suc n) xs = then_at (r xs) (λ x ys. then_at (list_at r n ys) (λ more zs. Some (x ∷ more, zs)))

-- their count, and so many
abbrev pub counted_at : {X : Type 0} → (List ℕ → Option (ℕ × List ℕ)) → (List ℕ → Option (X × List ℕ)) → List ℕ →
    Option (List X × List ℕ)
counted_at count r xs = then_at (count xs) (λ n ys. list_at r n ys)

-- ---- numbers

abbrev pub byte_at : List ℕ → Option (ℕ × List ℕ)
byte_at [] = None
byte_at (b ∷ xs) = if nat_lt b 256 then Some (b, xs) else None

unfoldable pub low_at : ℕ → List ℕ → Option (ℕ × List ℕ)
low_at zero xs = Some (0, xs)
low_at (suc w) xs = then_at (byte_at xs) (λ b ys. then_at (low_at w ys) (λ n zs. Some (b + 256 * n, zs)))

abbrev pub signed_of : ℕ → Option ℤ
signed_of n = Some (cast_signed w128 n)

abbrev pub signed_at : List ℕ → Option (ℤ × List ℕ)
signed_at xs = made_at signed_of (low_at 16) xs

abbrev pub flag_of : ℕ → Option Bool
flag_of n = if nat_eq n 0 then Some false else if nat_eq n 1 then Some true else None

abbrev pub flag_at : List ℕ → Option (Bool × List ℕ)
flag_at xs = made_at flag_of byte_at xs

abbrev pub congruence_of : ℤ → ℤ → Option Congruence
congruence_of r m = if int_le (pos 0) m then formed (class r (unsigned_abs m)) else None

-- the number of two ends, a remainder and a modulus
unfoldable pub number_of : ℤ → ℤ → ℤ → ℤ → Option Numbers
number_of lo hi r m = option_and_then (λ a. option_and_then (pair_of a) (congruence_of r m)) (between lo hi)

abbrev pub number_from : ℤ × (ℤ × (ℤ × ℤ)) → Option Numbers
number_from p = number_of p.0 p.1.0 p.1.1.0 p.1.1.1

unfoldable pub number_at : List ℕ → Option (Numbers × List ℕ)
number_at xs = made_at number_from (both_at signed_at (both_at signed_at (both_at signed_at signed_at))) xs

-- ---- pointers

unfoldable pub target_at : List ℕ → Option (Target Numbers × List ℕ)
target_at xs = both_at (low_at 4) number_at xs

abbrev pub is_below : ℕ → List (Target Numbers) → Bool
is_below b [] = true
is_below b (t ∷ ts) = nat_lt b t.0

abbrev pub rises : List (Target Numbers) → Bool
rises [] = true
rises (t ∷ ts) = is_below t.0 ts && rises ts

-- null or not, and targets, that are something together
abbrev pub some_pointer : Bool → List (Target Numbers) → Option (Pointers Numbers)
some_pointer false [] = None
some_pointer false (t ∷ ts) = Some (pointers false (t ∷ ts))
some_pointer true ts = Some (pointers true ts)

unfoldable pub pointer_of : Bool → List (Target Numbers) → Option (Pointers Numbers)
pointer_of null ts = if rises ts then some_pointer null ts else None

abbrev pub pointer_from : Bool × List (Target Numbers) → Option (Pointers Numbers)
pointer_from p = pointer_of p.0 p.1

unfoldable pub pointer_at : List ℕ → Option (Pointers Numbers × List ℕ)
pointer_at xs = made_at pointer_from (both_at flag_at (counted_at (low_at 4) target_at)) xs

-- ---- forms

abbrev pub side_of : ℕ → Option Side
side_of n =
    if nat_eq n 0 then Some Left else if nat_eq n 1 then Some Right else if nat_eq n 2 then Some Shared else None

abbrev pub side_at : List ℕ → Option (Side × List ℕ)
side_at xs = made_at side_of byte_at xs

abbrev pub small_type : ℕ → Option IntType
small_type n =
    if nat_eq n 0 then Some I8 else if nat_eq n 1 then Some U8 else if nat_eq n 2 then Some I16
    else if nat_eq n 3 then Some U16 else None

abbrev pub great_type : ℕ → Option IntType
great_type n =
    if nat_eq n 4 then Some I32 else if nat_eq n 5 then Some U32 else if nat_eq n 6 then Some I64
    else if nat_eq n 7 then Some U64 else None

unfoldable pub type_of : ℕ → Option IntType
type_of n = if nat_lt n 4 then small_type n else great_type n

abbrev pub type_at : List ℕ → Option (IntType × List ℕ)
type_at xs = made_at type_of byte_at xs

abbrev pub name_from : Side × (ℕ × (ℕ × IntType)) → Option CellName
name_from p = Some (record { side = p.0; block = p.1.0; offset = p.1.1.0; t = p.1.1.1 })

unfoldable pub name_at : List ℕ → Option (CellName × List ℕ)
name_at xs = made_at name_from (both_at side_at (both_at (low_at 4) (both_at (low_at 4) type_at))) xs

abbrev pub bits_from : CellName × (ℕ × ℕ) → Option Segment
bits_from p = Some (Bits p.0 p.1.0 p.1.1)

unfoldable pub bits_at : List ℕ → Option (Segment × List ℕ)
bits_at xs = made_at bits_from (both_at name_at (both_at byte_at byte_at)) xs

abbrev pub fixed_from : ℕ × ℕ → Option Segment
fixed_from p = Some (Fixed p.0 p.1)

unfoldable pub fixed_at : List ℕ → Option (Segment × List ℕ)
fixed_at xs = made_at fixed_from (both_at (low_at 8) byte_at) xs

abbrev pub segment_behind : ℕ → List ℕ → Option (Segment × List ℕ)
segment_behind tag ys = if nat_eq tag 0 then bits_at ys else if nat_eq tag 1 then fixed_at ys else None

unfoldable pub segment_at : List ℕ → Option (Segment × List ℕ)
segment_at xs = then_at (byte_at xs) segment_behind

abbrev pub is_segment : Segment → Bool
is_segment (Bits c from to) = nat_lt from to && nat_le to most_bits
is_segment (Fixed v w) = nat_lt 0 w && (nat_le w most_bits && nat_lt v (2 ^ w))

abbrev pub are_segments : List Segment → Bool
are_segments [] = true
are_segments (s ∷ ss) = is_segment s && are_segments ss

abbrev pub is_apart : Segment → List Segment → Bool
is_apart s [] = true
is_apart s (t ∷ ss) = is_none (joined s t)

abbrev pub are_apart : List Segment → Bool
are_apart [] = true
are_apart (s ∷ ss) = is_apart s ss && are_apart ss

-- whether it is in normal form, and within the limits
unfoldable pub is_form : List Segment → Bool
is_form ss = are_segments ss && (are_apart ss && (nat_le (length ss) most_segments && nat_le (width ss) most_bits))

abbrev pub form_of : List Segment → Option (List Segment)
form_of ss = if is_form ss then Some ss else None

-- without segments there is no form
abbrev pub form_from : List Segment → Option (Option (List Segment))
form_from [] = Some None
form_from (s ∷ ss) = option_map Some (form_of (s ∷ ss))

unfoldable pub form_at : List ℕ → Option (Option (List Segment) × List ℕ)
form_at xs = made_at form_from (counted_at byte_at segment_at) xs

-- ---- cells

abbrev pub number_value : Numbers → Option (Option (Value Numbers))
number_value n = Some (Some (Num n))

abbrev pub pointer_value : Pointers Numbers → Option (Option (Value Numbers))
pointer_value p = Some (Some (Ptr p))

abbrev pub value_behind : ℕ → List ℕ → Option (Option (Value Numbers) × List ℕ)
value_behind sort ys =
    if nat_eq sort 0 then Some (None, ys)
    else if nat_eq sort 1 then made_at number_value number_at ys
    else if nat_eq sort 2 then made_at pointer_value pointer_at ys
    else None

unfoldable pub value_at : List ℕ → Option (Option (Value Numbers) × List ℕ)
value_at xs = then_at (byte_at xs) value_behind

abbrev pub scalar_of : ℕ → Option Scalar
scalar_of n = if nat_eq n 8 then Some Pointer else option_map Int (type_of n)

abbrev pub scalar_at : List ℕ → Option (Scalar × List ℕ)
scalar_at xs = made_at scalar_of byte_at xs

abbrev pub header_from : Side × (ℕ × (ℕ × (Scalar × Bool))) → Option Header
header_from p =
    Some (record { side = p.0; block = p.1.0; offset = p.1.1.0; what = p.1.1.1.0; maybe = p.1.1.1.1 })

-- what stands before a cell's value
unfoldable pub header_at : List ℕ → Option (Header × List ℕ)
header_at xs =
    made_at header_from (both_at side_at (both_at (low_at 4) (both_at (low_at 4) (both_at scalar_at flag_at)))) xs

abbrev pub cell_from : Header × (Option (Value Numbers) × Option (List Segment)) → Option (Cell Numbers)
cell_from p = Some (record {
  side = p.0.side;
  block = p.0.block;
  offset = p.0.offset;
  what = p.0.what;
  value = p.1.0;
  maybe = p.0.maybe;
  form = p.1.1;
})

unfoldable pub cell_at : List ℕ → Option (Cell Numbers × List ℕ)
cell_at xs = made_at cell_from (both_at header_at (both_at value_at form_at)) xs

-- ---- answers

-- want of memory tells nothing, or nothing is to be read
abbrev pub Fails : {X : Type 0} → Unread → Option X → Type 0
Fails unread.Memory o = Unit {0}
Fails unread.Misspelled o = o ≡ None

abbrev pub Answers : {R X : Type 0} → (R → X) → Result R Unread → Option X → Type 0
Answers f (Ok r) o = o ≡ Some (f r)
Answers f (Err e) o = Fails e o
