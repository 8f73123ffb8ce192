-- The memory of a machine, byte by byte: C11 6.2.6.1 and 6.3.2.1, with this project's rules on undefined bytes and on
-- the bytes of pointers.
use Rattle.std.specs.Prelude.{ℕ, zero, suc, ◌+◌, ◌-◌, ◌%◌, ℤ, Bool, true, false, ◌&&◌, ◌==◌, not, nat_eq, nat_lt}
use Rattle.std.specs.Prelude.{nat_le, if◌then◌else◌, List, [], ◌∷◌, slice_index_or, Option, Some, None}
use Rattle.std.specs.List.{list_any, list_all}
use Rattle.ep_int.specs.declared.types.IntType.{IntType}
use Rattle.ep_int.specs.declared.types.Model.{Model}
use Rattle.ep_int.specs.declared.types.Order.{Order}
use Rattle.ep_int.specs.declared.types.Scalar.{Scalar}
use Rattle.ep_int.specs.declared.types.Scalar.TheVariants.{Int, Pointer}
use Rattle.ep_int.specs.Types.{pointer_bytes, size_of}
use Rattle.ep_int.specs.Encoding.{encoded, decoded}

-- A byte is undefined, a number from 0 to 255, or one part of a pointer into a block. Parts are counted from 0, by
-- rising address on each machine, and a pointer has as many as the data model says.
pub data Byte : Type 0 where
  undefined : Byte
  number : ℕ → Byte
  fragment : (block offset part : ℕ) → Byte

-- the byte of each block at each offset
abbrev pub Memory : Type 0
Memory = ℕ → ℕ → Byte

-- the value of a scalar
pub data Value : Type 0 where
  int : ℤ → Value
  null : Value
  pointer : (block offset : ℕ) → Value

-- What behaviour is undefined: C11 6.5p5, 6.5.5p5, 6.5.7p3, 6.3.2.1p2, 6.5.6p8, 6.5.3.2p4, 6.3.2.3p7, 6.5.8p5,
-- 6.5.16.1p3 and, of a pointer's bytes, this project's rule. The alarms U1 to U10 are these, in this order.
pub data Kind : Type 0 where
  overflow : Kind
  division : Kind
  shift : Kind
  uninitialised : Kind
  bounds : Kind
  null_pointer : Kind
  alignment : Kind
  pointer_mix : Kind
  overlap : Kind
  pointer_part : Kind

-- a value, or undefined behaviour
pub data Found : Type 0 where
  has : Value → Found
  faults : Kind → Found

-- ---- writing (d is the data model)

-- Of the pointer that the byte at p is a part of, some bytes but not all are among the n bytes from here on, of which
-- there is at least one.
abbrev pub lies_partly : Model → (here n : ℕ) → Byte → (p : ℕ) → Bool
lies_partly d here n undefined p = false
lies_partly d here n (number v) p = false
lies_partly d here n (fragment b o k) p =
    (nat_lt p (here + n + k) && nat_lt (here + k) (p + pointer_bytes d))
    && not (nat_le (here + k) p && nat_le (p + pointer_bytes d) (here + n + k))

-- the memory in which each pointer that lies partly in the place is undefined as a whole
abbrev pub broken : Model → Memory → (block here n : ℕ) → Memory
broken d m b here n c p = if nat_eq b c && lies_partly d here n (m c p) p then undefined else m c p

-- that memory with new bytes in the place
abbrev pub replaced : Model → Memory → (block here n : ℕ) → (new : ℕ → Byte) → Memory
replaced d m b here n new c p =
    if nat_eq b c && (nat_le here p && nat_lt p (here + n)) then new (p - here) else broken d m b here n c p

-- the bytes of a value of a scalar type
abbrev pub bytes_of_value : Order → Scalar → Value → ℕ → Byte
bytes_of_value o (Int t) (int v) p = number (encoded o t v p)
bytes_of_value o (Int t) null p = undefined
bytes_of_value o (Int t) (pointer b q) p = undefined
bytes_of_value o Pointer (int v) p = undefined
bytes_of_value o Pointer null p = number 0
bytes_of_value o Pointer (pointer b q) p = fragment b q p

abbrev pub stored : Order → Model → Memory → Scalar → (block here : ℕ) → Value → Memory
stored o d m what b here v = replaced d m b here (size_of d what) (bytes_of_value o what v)

-- one number in each of n bytes
abbrev pub filled : Model → Memory → (block here n byte : ℕ) → Memory
filled d m b here n v = replaced d m b here n (λ k. number v)

-- The n bytes from one place to another. Of a pointer that lies partly in the place from which they come, the copy
-- takes nothing: what it would write is undefined.
abbrev pub copied : Model → Memory → (block here : ℕ) → (source from : ℕ) → (n : ℕ) → Memory
copied d m b here c from n = replaced d m b here n (λ k. broken d m c from n c (from + k))

-- ---- blocks that come and go

abbrev pub contains : ℕ → List ℕ → Bool
contains b bs = list_any (nat_eq b) bs

-- a byte, where it is no part of a pointer to these blocks
abbrev pub forgotten : List ℕ → Byte → Byte
forgotten bs undefined = undefined
forgotten bs (number v) = number v
forgotten bs (fragment b o k) = if contains b bs then undefined else fragment b o k

-- these blocks become undefined, and so does every pointer to them
abbrev pub killed : List ℕ → Memory → Memory
killed bs m b p = if contains b bs then undefined else forgotten bs (m b p)

-- a block of zero bytes
abbrev pub zeroed : Memory → ℕ → Memory
zeroed m b c p = if nat_eq b c then number 0 else m c p

-- ---- reading

abbrev pub bytes_from : Memory → (block here n : ℕ) → List Byte
bytes_from m b here zero = []
bytes_from m b here (suc n) = m b here ∷ bytes_from m b (here + 1) n

abbrev pub is_undefined : Byte → Bool
is_undefined undefined = true
is_undefined (number v) = false
is_undefined (fragment b o k) = false

abbrev pub is_number : Byte → Bool
is_number undefined = false
is_number (number v) = true
is_number (fragment b o k) = false

-- the number of a byte that is one
abbrev pub number_in : Byte → ℕ
number_in undefined = 0
number_in (number v) = v
number_in (fragment b o k) = 0

abbrev pub is_zero : Byte → Bool
is_zero undefined = false
is_zero (number v) = v == 0
is_zero (fragment b o k) = false

-- these are the parts of this pointer from part k on, in order
abbrev pub are_parts : (block offset k : ℕ) → List Byte → Bool
are_parts b o k [] = true
are_parts b o k (undefined ∷ more) = false
are_parts b o k (number v ∷ more) = false
are_parts b o k (fragment c q j ∷ more) = (nat_eq b c && nat_eq o q && nat_eq k j) && are_parts b o (k + 1) more

-- the pointer whose parts these bytes are
abbrev pub pointer_in : List Byte → Found
pointer_in [] = faults pointer_part
pointer_in (undefined ∷ more) = faults pointer_part
pointer_in (number v ∷ more) = faults pointer_part
pointer_in (fragment b o k ∷ more) =
    if are_parts b o 0 (fragment b o k ∷ more) then has (pointer b o) else faults pointer_part

-- the number of a type that has these bytes
abbrev pub number_of : Order → IntType → List Byte → ℤ
number_of o t bs = decoded o t (λ p. number_in (slice_index_or bs p undefined))

-- the value of defined bytes
abbrev pub value_of_bytes : Order → Scalar → List Byte → Found
value_of_bytes o (Int t) bs = if list_all is_number bs then has (int (number_of o t bs)) else faults pointer_part
value_of_bytes o Pointer bs = if list_all is_zero bs then has null else pointer_in bs

-- ---- what is checked (a place has a block of `size` bytes)

-- the n bytes from here on are not all in the block
abbrev pub is_outside : (size here n : ℕ) → Bool
is_outside size here n = nat_lt size (here + n)

-- an offset is a multiple of the scalar's size
abbrev pub is_aligned : Model → Scalar → (here : ℕ) → Bool
is_aligned d what here = here % size_of d what == 0

-- two places of n bytes have a byte in common
abbrev pub overlaps : (block here : ℕ) → (other there : ℕ) → (n : ℕ) → Bool
overlaps b here c there n = nat_eq b c && (nat_lt here (there + n) && nat_lt there (here + n))

-- A read: outside of the block, at an offset that is no multiple of the scalar's size, of an undefined byte, or its
-- value.
abbrev pub loaded : Order → Model → (size : ℕ) → Memory → Scalar → (block here : ℕ) → Found
loaded o d size m what b here =
    if is_outside size here (size_of d what) then faults bounds
    else if not (is_aligned d what here) then faults alignment
    else if list_any is_undefined (bytes_from m b here (size_of d what)) then faults uninitialised
    else value_of_bytes o what (bytes_from m b here (size_of d what))

-- what is wrong with a place of n bytes, if anything
abbrev pub range_fault : (size here n : ℕ) → Option Kind
range_fault size here n = if is_outside size here n then Some bounds else None

-- what is wrong with a write of a scalar, if anything
abbrev pub store_fault : Model → (size : ℕ) → Scalar → (here : ℕ) → Option Kind
store_fault d size what here =
    if is_outside size here (size_of d what) then Some bounds
    else if not (is_aligned d what here) then Some alignment else None

-- Through an address, null is looked for before all else (C11 6.5.3.2p4); no typed program has a number here.
abbrev pub with_place : Found → (go : ℕ → ℕ → Found) → Found
with_place (has (int v)) go = faults null_pointer
with_place (has null) go = faults null_pointer
with_place (has (pointer b q)) go = go b q
with_place (faults k) go = faults k
