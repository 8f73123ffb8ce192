-- What is known of single bytes of cells (this project's rules, after Miné 2006).
use Rattle.std.specs.Prelude.{ℕ, ◌+◌, ◌*◌, pos, Bool, true, false, ◌&&◌, not, if◌then◌else◌, List, [], ◌∷◌, Option}
use Rattle.std.specs.Prelude.{Some, None}
use Rattle.std.specs.Option.{option_map}
use Rattle.std.specs.List.{list_any}
use Rattle.ep_int.specs.declared.types.IntType.{IntType}
use Rattle.ep_int.specs.declared.types.IntType.TheVariants.{U8}
use Rattle.ep_int.specs.declared.types.BinOp.TheVariants.{Shr}
use Rattle.ep_int.specs.declared.types.Order.{Order}
use Rattle.ep_int.specs.declared.types.Scalar.{Scalar}
use Rattle.ep_int.specs.declared.types.Scalar.TheVariants.{Int, Pointer}
use Rattle.ep_int.specs.Types.{bits_of, bytes_of}
use Rattle.ep_int.specs.Encoding.{place}
use Rattle.ep_bitslice.specs.declared.cell.Side.{Side}
use Rattle.ep_bitslice.specs.declared.cell.Side.TheVariants.{Left, Right, Shared}
use Rattle.ep_bitslice.specs.declared.segment.Segment.{Segment}
use Rattle.ep_bitslice.specs.declared.segment.Segment.TheVariants.{Bits, Fixed}
use Rattle.ep_bitslice.specs.Bits.{part_of}
use Rattle.ep_bitslice.specs.Segments.{bits, normal}
use Rattle.ep_domain.specs.Domain.{Ops}
use Rattle.ep_pointers.specs.Value.{Pointers}
use Rattle.ep_cells.specs.declared.cell.Cell.{Cell}
use Rattle.ep_cells.specs.declared.cell.Value.{Value}
use Rattle.ep_cells.specs.declared.cell.Value.TheVariants.{Num, Ptr}
use Rattle.ep_cells.specs.Meaning.{name_of}
use Rattle.ep_reads.specs.declared.read.ReadValue.{ReadValue}

-- the order of a side's memory
abbrev pub order_on : Side → Order × Order → Order
order_on Left os = os.0
order_on Right os = os.1
order_on Shared os = os.0

-- ---- numbers

-- the value of byte k of a number, the lowest first
abbrev pub byte_value : {N : Type 0} → Ops N → IntType → (byte : ℕ) → N → Option N
byte_value D t k n = option_map (λ v. D.convert v U8) (D.op Shr t n (D.single (pos (8 * k)))).value

-- the bits of byte k of a form
abbrev pub byte_form : (byte : ℕ) → List Segment → List Segment
byte_form k ss = normal (part_of (8 * k) (8 * k + 8) (bits ss))

-- the byte of a number that stands at a place, for in each order placing twice leads back
abbrev pub byte_at : Order → IntType → (place : ℕ) → ℕ
byte_at o t p = place o (bytes_of t) p

-- ---- forms of cells

-- the bits of an integer cell itself
abbrev pub own_form : {N : Type 0} → Cell N → Scalar → Option (List Segment)
own_form x (Int t) = Some (Bits (name_of x t) 0 (bits_of t) ∷ [])
own_form x Pointer = None

-- its stored form, else that of the cell itself
abbrev pub form_or : Option (List Segment) → Option (List Segment) → Option (List Segment)
form_or None g = g
form_or (Some f) g = Some f

-- none of a cell that may be undefined
abbrev pub form_of_cell : {N : Type 0} → Cell N → Option (List Segment)
form_of_cell x = if x.maybe then None else form_or x.form (own_form x x.what)

-- ---- pointers

abbrev pub has_targets : {N : Type 0} → Pointers N → Bool
has_targets p = list_any (λ t. true) p.targets

abbrev pub is_null_alone : {N : Type 0} → Pointers N → Bool
is_null_alone p = p.null && not (has_targets p)

-- eight zeros
abbrev pub zero_form : List Segment
zero_form = Fixed 0 8 ∷ []

-- ---- what is read of one byte, at its place in the cell

abbrev pub undefined_byte : {N : Type 0} → ReadValue N
undefined_byte = record { value = None; maybe = true; mixed = false; form = None }

-- a byte of no cell may be whatever a byte can be
abbrev pub unknown_byte : {N : Type 0} → Ops N → ReadValue N
unknown_byte D = record { value = Some (Num (D.top U8)); maybe = true; mixed = true; form = None }

abbrev pub number_byte : {N : Type 0} → Ops N → Cell N → IntType → (byte : ℕ) → N → ReadValue N
number_byte D x t k n = record {
  value = option_map Num (byte_value D t k n);
  maybe = x.maybe;
  mixed = false;
  form = option_map (byte_form k) (form_of_cell x);
}

-- The bytes of null are zeros. Those of other pointers are no numbers.
abbrev pub pointer_byte : {N : Type 0} → Ops N → (maybe : Bool) → Pointers N → ReadValue N
pointer_byte D m p =
    if is_null_alone p
    then record {
      value = Some (Num (D.single (pos 0)));
      maybe = m;
      mixed = false;
      form = if m then None else Some zero_form;
    } else record { value = None; maybe = m; mixed = true; form = None }

abbrev pub byte_of_value : {N : Type 0} → Ops N → Order → Cell N → Scalar → Option (Value N) → (place : ℕ) → ReadValue N
byte_of_value D o x w None p = undefined_byte
byte_of_value D o x (Int t) (Some (Num n)) p = number_byte D x t (byte_at o t p) n
byte_of_value D o x Pointer (Some (Ptr v)) p = pointer_byte D x.maybe v
byte_of_value D o x (Int t) (Some (Ptr v)) p = undefined_byte
byte_of_value D o x Pointer (Some (Num n)) p = undefined_byte

abbrev pub byte_of_cell : {N : Type 0} → Ops N → Order → Cell N → (place : ℕ) → ReadValue N
byte_of_cell D o x p = byte_of_value D o x x.what x.value p
