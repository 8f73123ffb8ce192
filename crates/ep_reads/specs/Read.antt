-- What is read of a scalar on one side, Left or Right (this project's rules, after Miné 2006).
use Rattle.std.specs.Prelude.{ℕ, zero, suc, ◌+◌, ◌-◌, ◌^◌, pos, Bool, true, false, ◌&&◌, not, nat_eq, if◌then◌else◌}
use Rattle.std.specs.Prelude.{List, [], ◌∷◌, ◌++◌, Option, Some, None}
use Rattle.std.specs.Option.{option_map, option_and_then, option_map_or}
use Rattle.std.specs.List.{list_any, list_all}
use Rattle.std.specs.Ordering.{int_eq}
use Rattle.ep_int.specs.declared.types.IntType.{IntType}
use Rattle.ep_int.specs.declared.types.IntType.TheVariants.{I8, U8, I16, U16, I32, U32, I64, U64}
use Rattle.ep_int.specs.declared.types.BinOp.TheVariants.{Add, Mul}
use Rattle.ep_int.specs.declared.types.Order.{Order}
use Rattle.ep_int.specs.declared.types.Model.{Model}
use Rattle.ep_int.specs.declared.types.Scalar.{Scalar}
use Rattle.ep_int.specs.declared.types.Scalar.TheVariants.{Int, Pointer}
use Rattle.ep_int.specs.Types.{size_of}
use Rattle.ep_int.specs.Encoding.{place}
use Rattle.ep_bitslice.specs.declared.cell.Side.{Side}
use Rattle.ep_bitslice.specs.declared.segment.Segment.{Segment}
use Rattle.ep_bitslice.specs.Bits.{Bit}
use Rattle.ep_bitslice.specs.Segments.{bits, form_of}
use Rattle.ep_domain.specs.Domain.{Ops}
use Rattle.ep_pointers.specs.Value.{null_alone}
use Rattle.ep_cells.specs.declared.cell.Cell.{Cell}
use Rattle.ep_cells.specs.declared.cell.Value.{Value}
use Rattle.ep_cells.specs.declared.cell.Value.TheVariants.{Num, Ptr}
use Rattle.ep_cells.specs.States.{Known}
use Rattle.ep_cells.specs.Look.{cell_at}
use Rattle.ep_cells.specs.Reshare.{is_single}
use Rattle.ep_reads.specs.declared.read.ReadValue.{ReadValue}
use Rattle.ep_reads.specs.Bytes.{byte_of_cell, form_of_cell, order_on, unknown_byte}

-- ---- one cell that has the whole scalar

abbrev pub is_same_sort : Scalar → Scalar → Bool
is_same_sort (Int t) (Int u) = true
is_same_sort Pointer Pointer = true
is_same_sort (Int t) Pointer = false
is_same_sort Pointer (Int t) = false

-- a cell that begins at the offset and has the size and sort of the scalar
abbrev pub is_exact : {N : Type 0} → Model → Scalar → (offset : ℕ) → Cell N → Bool
is_exact d w q x = nat_eq x.offset q && (nat_eq (size_of d x.what) (size_of d w) && is_same_sort x.what w)

abbrev pub converted : {N : Type 0} → Ops N → Scalar → Value N → Value N
converted D (Int t) (Num n) = Num (D.convert n t)
converted D Pointer v = v
converted D (Int t) (Ptr p) = Ptr p

abbrev pub whole_read : {N : Type 0} → Ops N → Scalar → Cell N → ReadValue N
whole_read D w x = record {
  value = option_map (converted D w) x.value;
  maybe = x.maybe;
  mixed = false;
  form = form_of_cell x;
}

-- ---- bytes

abbrev pub byte_read : {N : Type 0} → Ops N → Order → (byte : ℕ) → Option (Cell N) → ReadValue N
byte_read D o p None = unknown_byte D
byte_read D o p (Some x) = byte_of_cell D o x (p - x.offset)

-- what is read of the byte at an offset
abbrev pub byte_there : {N : Type 0} → Ops N → Known N → Side → (block byte : ℕ) → ReadValue N
byte_there D k s b p = byte_read D (order_on s k.orders) p (cell_at k.model s b p k.cells)

-- so many bytes of a scalar, from byte i on, the lowest first
abbrev pub bytes_from : {N : Type 0} → (ℕ → ReadValue N) → (i n : ℕ) → List (ReadValue N)
bytes_from f i zero = []
bytes_from f i (suc n) = f i ∷ bytes_from f (i + 1) n

-- the bytes of a place of n bytes, the lowest first in the order of the side
abbrev pub bytes_there : {N : Type 0} → Ops N → Known N → Side → (block offset n : ℕ) → List (ReadValue N)
bytes_there D k s b q n = bytes_from (λ i. byte_there D k s b (q + place (order_on s k.orders) n i)) 0 n

abbrev pub may_be_undefined : {N : Type 0} → List (ReadValue N) → Bool
may_be_undefined {N = N} rs = list_any (λ (r : ReadValue N). r.maybe) rs

abbrev pub may_be_mixed : {N : Type 0} → List (ReadValue N) → Bool
may_be_mixed {N = N} rs = list_any (λ (r : ReadValue N). r.mixed) rs

-- ---- an integer from its bytes: their sum, each by its weight, in the unsigned type of its size

abbrev pub unsigned_of : IntType → IntType
unsigned_of I8 = U8
unsigned_of U8 = U8
unsigned_of I16 = U16
unsigned_of U16 = U16
unsigned_of I32 = U32
unsigned_of U32 = U32
unsigned_of I64 = U64
unsigned_of U64 = U64

abbrev pub weighted : {N : Type 0} → Ops N → IntType → (byte : ℕ) → Option (Value N) → Option N
weighted D t i None = None
weighted D t i (Some (Num n)) = (D.op Mul t n (D.single (pos (256 ^ i)))).value
weighted D t i (Some (Ptr p)) = None

abbrev pub plus : {N : Type 0} → Ops N → IntType → Option N → Option N → Option N
plus D t None b = None
plus D t (Some a) None = None
plus D t (Some a) (Some b) = (D.op Add t a b).value

-- a sum, and the bytes from byte i on
abbrev pub sum_after : {N : Type 0} → Ops N → IntType → Option N → (i : ℕ) → List (ReadValue N) → Option N
sum_after D t a i [] = a
sum_after D t a i (r ∷ rs) = sum_after D t (plus D t a (weighted D t i r.value)) (i + 1) rs

abbrev pub sum_of : {N : Type 0} → Ops N → IntType → List (ReadValue N) → Option N
sum_of D t [] = None
sum_of D t (r ∷ rs) = sum_after D t (weighted D t 0 r.value) 1 rs

-- the bits of forms, one behind the other
abbrev pub appended : Option (List Segment) → Option (List Bit) → Option (List Bit)
appended None bs = None
appended (Some f) None = None
appended (Some f) (Some bs) = Some (bits f ++ bs)

abbrev pub bits_of_all : {N : Type 0} → List (ReadValue N) → Option (List Bit)
bits_of_all [] = Some []
bits_of_all (r ∷ rs) = appended r.form (bits_of_all rs)

abbrev pub integer_read : {N : Type 0} → Ops N → IntType → List (ReadValue N) → ReadValue N
integer_read D t rs = record {
  value = option_map (λ n. Num (D.convert n t)) (sum_of D (unsigned_of t) rs);
  maybe = may_be_undefined rs;
  mixed = may_be_mixed rs;
  form = option_and_then form_of (bits_of_all rs);
}

-- ---- a pointer from its bytes: null where all are zeros

abbrev pub is_zero_value : {N : Type 0} → Ops N → Option (Value N) → Bool
is_zero_value D None = false
is_zero_value D (Some (Num n)) = is_single (D.range n) && int_eq (D.range n).0 (pos 0)
is_zero_value D (Some (Ptr p)) = false

-- it can only be undefined
abbrev pub is_undefined_byte : {N : Type 0} → ReadValue N → Bool
is_undefined_byte r = option_map_or (λ v. false) r.value (not r.mixed)

abbrev pub pointer_read : {N : Type 0} → Ops N → List (ReadValue N) → ReadValue N
pointer_read {N = N} D rs =
    if list_all (λ (r : ReadValue N). is_zero_value D r.value) rs
    then record { value = Some (Ptr null_alone); maybe = may_be_undefined rs; mixed = false; form = None }
    else if list_any is_undefined_byte rs
    then record { value = None; maybe = true; mixed = false; form = None }
    else record { value = None; maybe = may_be_undefined rs; mixed = true; form = None }

-- ---- any scalar

abbrev pub read_from_bytes : {N : Type 0} → Ops N → Scalar → List (ReadValue N) → ReadValue N
read_from_bytes D (Int t) rs = integer_read D t rs
read_from_bytes D Pointer rs = pointer_read D rs

abbrev pub read_in_parts : {N : Type 0} → Ops N → Known N → Side → (block offset : ℕ) → Scalar → ReadValue N
read_in_parts D k s b q w = read_from_bytes D w (bytes_there D k s b q (size_of k.model w))

abbrev pub read_with : {N : Type 0} → Ops N → Known N → Side → (block offset : ℕ) → Scalar → Option (Cell N)
    → ReadValue N
read_with D k s b q w None = read_in_parts D k s b q w
read_with D k s b q w (Some x) = if is_exact k.model w q x then whole_read D w x else read_in_parts D k s b q w

abbrev pub read : {N : Type 0} → Ops N → Known N → Side → (block offset : ℕ) → Scalar → ReadValue N
read D k s b q w = read_with D k s b q w (cell_at k.model s b q k.cells)
