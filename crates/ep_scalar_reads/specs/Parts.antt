-- What bytes of cells have, and what the parts of the code answer, for their own contracts.
use Rattle.std.specs.Prelude.{◌≡◌, ℕ, ◌<◌, List, [], ◌∷◌, Option, IfSome}
use Rattle.std.specs.Option.{option_and_then}
use Rattle.ep_int.specs.declared.types.Scalar.{Scalar}
use Rattle.ep_int.specs.declared.types.Scalar.TheVariants.{Int, Pointer}
use Rattle.ep_int.specs.Types.{bytes_of}
use Rattle.ep_bitslice.specs.declared.segment.Segment.{Segment}
use Rattle.ep_bitslice.specs.Segments.{width, form_of}
use Rattle.ep_cells.specs.declared.cell.Cell.{Cell}
use Rattle.ep_cells.specs.States.{HasWidth}
use Rattle.ep_reads.specs.declared.read.ReadValue.{ReadValue}
use Rattle.ep_reads.specs.Read.{appended, bits_of_all}

-- a form has the width of the cell
abbrev pub HasFittingForm : {N : Type 0} → Cell N → Type 0
HasFittingForm c = IfSome c.form (λ ss. HasWidth c.what (width ss))

-- an integer has such a byte
abbrev pub HasByte : Scalar → (place : ℕ) → Type 0
HasByte (Int t) p = p < bytes_of t
HasByte Pointer p = Unit {0}

-- forms of bytes have eight bits
abbrev pub HaveByteForms : {N : Type 0} → List (ReadValue N) → Type 0
HaveByteForms [] = Unit {0}
HaveByteForms (r ∷ rs) = IfSome r.form (λ ss. width ss ≡ 8) × HaveByteForms rs

-- a form, and those of bytes behind it
abbrev pub form_with : {N : Type 0} → Option (List Segment) → List (ReadValue N) → Option (List Segment)
form_with f rs = option_and_then form_of (appended f (bits_of_all rs))

abbrev pub form_of_all : {N : Type 0} → List (ReadValue N) → Option (List Segment)
form_of_all rs = option_and_then form_of (bits_of_all rs)
