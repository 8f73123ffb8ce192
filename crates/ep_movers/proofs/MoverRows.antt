-- Which small programs are movers.
use Rattle.std.proofs.Common.{◌≡◌, ℕ, List, [], ◌∷◌, ◌++◌, map, refl, Some, Ok, Err, true, false, pos}
use Rattle.ep_int.specs.declared.types.BinOp.TheVariants.{Add, And, Or, Shl, Shr}
use Rattle.ep_int.specs.declared.types.IntType.TheVariants.{U8, I32, U32, U64}
use Rattle.ep_int.specs.declared.types.Model.TheVariants.{Ilp32}
use Rattle.ep_int.specs.declared.types.Order.TheVariants.{Little, Big, SwappedWords}
use Rattle.ep_int.specs.declared.types.Scalar.TheVariants.{Int as Number}
use Rattle.ep_layout.specs.declared.types.Ty.{Ty}
use Rattle.ep_layout.specs.declared.types.Ty.TheVariants.{Int, Array}
use Rattle.ep_core.specs.Program.{Place, block, element, Expr, const, load, addr_of, binary, convert}
use Rattle.ep_core.specs.Program.{Simple, assign, input, output, read_bytes, write_bytes, simple, by_order, Stmts}
use Rattle.ep_core.specs.Program.{stop, more, Block, Program}
use Rattle.ep_movers.specs.declared.Stop.TheVariants.{Faulty}
use Rattle.ep_movers.specs.Symbols.{Symbol, fixed_byte, input_byte}
use Rattle.ep_movers.specs.Movers.{is_mover_text, moves_on, outputs_on}
use Rattle.ep_movers.specs.Forms.{has_moving_form}

-- ---- programs

abbrev local : (size ty : ℕ) → Block
local size ty = record { size = size; ty = ty; global = false }

-- Types: 0 int, 1 uint8_t, 2 uint32_t, 3 uint64_t, 4 uint8_t[4], 5 uint8_t[3]
abbrev types : List Ty
types = Int I32 ∷ Int U8 ∷ Int U32 ∷ Int U64 ∷ Array 1 4 ∷ Array 1 3 ∷ []

-- main, whose result is block 0, with these blocks more
abbrev main_with : List Block → (locals : List ℕ) → Stmts → Program
main_with bs locals body = record {
  types = record { model = Ilp32; types = types; aggregates = []; completed = [] };
  blocks = local 4 0 ∷ bs;
  init = [];
  functions =
      record { name = []; line = 1; params = []; result = Some (0, Number I32); locals = locals; body = body } ∷ [];
  main = 0;
}

abbrev then_do : ℕ → Simple → Stmts → Stmts
then_do l w rest = more l (simple w) rest

abbrev signed : ℕ → Expr
signed n = const I32 (pos n)

abbrev mask : ℕ → Expr
mask n = const U32 (pos n)

-- of uint32_t
abbrev word : ℕ → Expr
word b = load (Number U32) (block b)

abbrev up : Expr → (bits : ℕ) → Expr
up e n = binary Shl U32 e (signed n)

abbrev down : Expr → (bits : ℕ) → Expr
down e n = binary Shr U32 e (signed n)

abbrev or : Expr → Expr → Expr
or a b = binary Or U32 a b

abbrev and : Expr → ℕ → Expr
and e n = binary And U32 e (mask n)

-- byte i of an array of so many in block b
abbrev byte_place : (b bound i : ℕ) → Place
byte_place b n i = element (block b) n 1 (signed i)

abbrev byte : (b bound i : ℕ) → Expr
byte b n i = convert I32 (load (Number U8) (byte_place b n i))

abbrev as_word : Expr → Expr
as_word e = convert U32 e

-- ---- a swap by shifts

-- ep_read(&x, 4); y = the bytes of x in the other order on a little-endian machine, y = x on every other; then an output
abbrev swap_by_shifts : Simple → Program
swap_by_shifts last =
    main_with (local 4 2 ∷ local 4 2 ∷ []) (1 ∷ 2 ∷ [])
    (then_do 3 (read_bytes (addr_of (block 1)) 4)
    (more 4 (by_order Little (then_do 5 (assign (Number U32) (block 2) swapped) stop)
    (then_do 7 (assign (Number U32) (block 2) (word 1)) stop))
    (then_do 9 last stop)))
  where
    swapped : Expr
    swapped =
        or
        (or (or (down (word 1) 24) (and (down (word 1) 8) 65280)) (and (up (word 1) 8) 16711680))
        (up (word 1) 24)

abbrev right_swap : Program
right_swap = swap_by_shifts (output U32 (word 2))

-- ep_write(&y, 4) tells the orders apart, and is a mover's all the same
abbrev wrong_swap : Program
wrong_swap = swap_by_shifts (write_bytes (addr_of (block 2)) 4)

swaps_are_movers : (is_mover_text right_swap Little Big ≡ true) × (is_mover_text wrong_swap Little Big ≡ true)
    × (is_mover_text right_swap SwappedWords Big ≡ true)
swaps_are_movers = (refl, refl, refl)

-- x = ep_in_u32(), to block b
abbrev takes_word : ℕ → Simple
takes_word b = input U32 (Some (record { what = Number U32; cast = false; place = block b }))

-- these bytes of an input
abbrev bytes_of_input : ℕ → List ℕ → List Symbol
bytes_of_input i [] = []
bytes_of_input i (k ∷ ks) = input_byte i k ∷ bytes_of_input i ks

-- byte 0 of so many inputs
abbrev bytes_of_inputs : List ℕ → List Symbol
bytes_of_inputs [] = []
bytes_of_inputs (i ∷ is) = input_byte i 0 ∷ bytes_of_inputs is

-- each by itself
abbrev alone : List Symbol → List (List Symbol)
alone [] = []
alone (x ∷ xs) = (x ∷ []) ∷ alone xs

-- the machines put out the same number, and the bytes in different orders
swaps_put_out : (outputs_on Little right_swap ≡ Ok (bytes_of_inputs (3 ∷ 2 ∷ 1 ∷ 0 ∷ []) ∷ []))
    × (outputs_on Big right_swap ≡ Ok (bytes_of_inputs (3 ∷ 2 ∷ 1 ∷ 0 ∷ []) ∷ []))
    × (outputs_on Little wrong_swap ≡ Ok (alone (bytes_of_inputs (3 ∷ 2 ∷ 1 ∷ 0 ∷ []))))
    × (outputs_on Big wrong_swap ≡ Ok (alone (bytes_of_inputs (0 ∷ 1 ∷ 2 ∷ 3 ∷ []))))
swaps_put_out = (refl, refl, refl, refl)

-- ---- a swap in place

-- x = ep_in_u32(); on a little-endian machine x = (x >> 24) | (x << 24); then ep_out_u32(x)
abbrev swap_in_place : Program
swap_in_place =
    main_with (local 4 2 ∷ []) (1 ∷ [])
    (then_do 3 (takes_word 1)
    (more 4 (by_order Little (then_do 5 (assign (Number U32) (block 1) turned) stop) stop)
    (then_do 7 (output U32 (word 1)) stop)))
  where
    turned : Expr
    turned = or (down (word 1) 24) (up (word 1) 24)

-- its form is a mover's, but the bytes of x are written twice on one machine
writes_twice : (is_mover_text swap_in_place Little Big ≡ false) × (has_moving_form swap_in_place ≡ true)
    × (moves_on Little swap_in_place ≡ false) × (moves_on Big swap_in_place ≡ true)
    × (is_mover_text swap_in_place SwappedWords Big ≡ true)
writes_twice = (refl, refl, refl, refl, refl)

-- ---- bytes put together

-- ep_read(a, 4); y = a[0] | a[1] << 8 | a[2] << 16 | a[3] << 24, each as uint32_t; with this index of the last
abbrev puts_together : Expr → Program
puts_together last =
    main_with (local 4 4 ∷ local 4 2 ∷ []) (1 ∷ 2 ∷ [])
    (then_do 3 (read_bytes (addr_of (block 1)) 4)
    (then_do 4 (assign (Number U32) (block 2) together) (then_do 5 (output U32 (word 2)) stop)))
  where
    last_byte : Expr
    last_byte = convert I32 (load (Number U8) (element (block 1) 4 1 last))

    together : Expr
    together =
        or
        (or (or (as_word (byte 1 4 0)) (up (as_word (byte 1 4 1)) 8)) (up (as_word (byte 1 4 2)) 16))
        (up (as_word last_byte) 24)

bytes_together : (is_mover_text (puts_together (signed 3)) Little Big ≡ true)
    × (is_mover_text (puts_together (convert U32 (signed 3))) Little Big ≡ true)
    × (is_mover_text (puts_together (load (Number U8) (byte_place 1 4 0))) Little Big ≡ false)
bytes_together = (refl, refl, refl)

bytes_put_together : (outputs_on Little (puts_together (signed 3)) ≡ Ok (bytes_of_inputs (0 ∷ 1 ∷ 2 ∷ 3 ∷ []) ∷ []))
    × (outputs_on Big (puts_together (signed 3)) ≡ Ok (bytes_of_inputs (0 ∷ 1 ∷ 2 ∷ 3 ∷ []) ∷ []))
bytes_put_together = (refl, refl)

-- ---- a table of bytes

-- b[0] = x, b[1] = x >> 8, b[2] = x >> 16 and b[3] = x >> 24, by these shifts; ep_write(b, 4);
abbrev tables : (first second : ℕ) → (last : ℕ) → Program
tables m n i =
    main_with (local 4 2 ∷ local 4 4 ∷ []) (1 ∷ 2 ∷ [])
    (then_do 3 (takes_word 1)
    (then_do 4 (sets 0 m)
    (then_do 5 (sets 1 n)
    (then_do 6 (sets 2 16) (then_do 7 (sets i 24) (then_do 8 (write_bytes (addr_of (block 2)) 4) stop))))))
  where
    sets : ℕ → ℕ → Simple
    sets i n = assign (Number U8) (byte_place 2 4 i) (convert U8 (down (word 1) n))

-- A shift by 4 cuts bytes, and one by 32 is undefined. An index past the end is undefined on each machine, and there
-- nothing more is asked.
byte_tables : (is_mover_text (tables 0 8 3) Little Big ≡ true) × (is_mover_text (tables 0 4 3) Little Big ≡ false)
    × (is_mover_text (tables 0 32 3) Little Big ≡ false) × (is_mover_text (tables 0 8 2) Little Big ≡ false)
    × (is_mover_text (tables 0 8 4) Little Big ≡ true)
byte_tables = (refl, refl, refl, refl, refl)

-- the same on both machines
tables_put_out : (outputs_on Little (tables 0 8 3) ≡ Ok (alone (bytes_of_input 0 (0 ∷ 1 ∷ 2 ∷ 3 ∷ []))))
    × (outputs_on Big (tables 0 8 3) ≡ outputs_on Little (tables 0 8 3))
    × (outputs_on Big (tables 0 8 4) ≡ Err Faulty)
tables_put_out = (refl, refl, refl)

-- ---- 64 bits in two halves

abbrev reads_whole : ℕ → Simple
reads_whole b = read_bytes (addr_of (block b)) 4

-- x and y are taken so; z = x | y << 32, by 64 bits; ep_out_u64(z);
abbrev halves : (ℕ → Simple) → Expr → Program
halves takes high =
    main_with (local 4 2 ∷ local 4 2 ∷ local 8 3 ∷ []) (1 ∷ 2 ∷ 3 ∷ [])
    (then_do 3 (takes 1)
    (then_do 4 (takes 2)
    (then_do 5 (assign (Number U64) (block 3) (binary Or U64 (convert U64 (word 1)) high))
    (then_do 6 (output U64 (load (Number U64) (block 3))) stop))))

abbrev high_half : Expr
high_half = binary Shl U64 (convert U64 (word 2)) (signed 32)

-- without the shift no byte faces a zero
two_halves : (is_mover_text (halves takes_word high_half) Little Big ≡ true)
    × (is_mover_text (halves reads_whole high_half) Little Big ≡ true)
    × (is_mover_text (halves takes_word (convert U64 (word 2))) Little Big ≡ false)
two_halves = (refl, refl, refl)

-- of numbers taken the halves are the same, of bytes taken they aren't
halves_put_out : (outputs_on Little (halves takes_word high_half)
    ≡ Ok ((bytes_of_input 0 (0 ∷ 1 ∷ 2 ∷ 3 ∷ []) ++ bytes_of_input 1 (0 ∷ 1 ∷ 2 ∷ 3 ∷ [])) ∷ []))
    × (outputs_on Big (halves takes_word high_half) ≡ outputs_on Little (halves takes_word high_half))
    × (outputs_on Little (halves reads_whole high_half)
    ≡ Ok (bytes_of_inputs (0 ∷ 1 ∷ 2 ∷ 3 ∷ 4 ∷ 5 ∷ 6 ∷ 7 ∷ []) ∷ []))
    × (outputs_on Big (halves reads_whole high_half)
    ≡ Ok (bytes_of_inputs (3 ∷ 2 ∷ 1 ∷ 0 ∷ 7 ∷ 6 ∷ 5 ∷ 4 ∷ []) ∷ []))
halves_put_out = (refl, refl, refl, refl)

-- ---- first values

-- uint32_t g = 0x01020304; ep_write(&g, 4); then x = ep_in_u32() goes there
abbrev first_value : Simple → Program
first_value last = record (main_with [] [] (then_do 2 (write_bytes (addr_of (block 1)) 4) (then_do 3 last stop))) {
  blocks = local 4 0 ∷ record { size = 4; ty = 2; global = true } ∷ [];
  init = record { block = 1; offset = 0; t = U32; value = pos 16909060 } ∷ [];
}

-- a first value isn't written by a statement
first_values : (is_mover_text (first_value (takes_word 1)) Little Big ≡ true)
    × (outputs_on Little (first_value (takes_word 1)) ≡ Ok (alone (map fixed_byte (4 ∷ 3 ∷ 2 ∷ 1 ∷ []))))
    × (outputs_on Big (first_value (takes_word 1)) ≡ Ok (alone (map fixed_byte (1 ∷ 2 ∷ 3 ∷ 4 ∷ []))))
first_values = (refl, refl, refl)

-- ---- masks

-- y = x & m; ep_out_u32(y);
abbrev masks : Expr → Program
masks e =
    main_with (local 4 2 ∷ local 4 2 ∷ []) (1 ∷ 2 ∷ [])
    (then_do 3 (read_bytes (addr_of (block 1)) 4)
    (then_do 4 (assign (Number U32) (block 2) e) (then_do 5 (output U32 (word 2)) stop)))

-- a mask that cuts a byte is no mover's, nor is one that isn't a constant in the text
masks_are_whole : (is_mover_text (masks (and (word 1) 65280)) Little Big ≡ true)
    × (is_mover_text (masks (binary And U32 (as_word (signed 255)) (word 1))) Little Big ≡ true)
    × (is_mover_text (masks (and (word 1) 15)) Little Big ≡ false)
    × (is_mover_text (masks (binary And U32 (word 1) (and (and (word 1) 65280) 255))) Little Big ≡ false)
    × (is_mover_text (masks (or (word 1) (and (word 1) 255))) Little Big ≡ false)
masks_are_whole = (refl, refl, refl, refl, refl)

-- a zero byte faces every byte, also by Add; a second zero doesn't matter
zeros_face : (is_mover_text (masks (binary Add U32 (and (word 1) 255) (and (word 1) 65280))) Little Big ≡ true)
    × (is_mover_text (masks (or (word 1) (as_word (signed 0)))) Little Big ≡ true)
zeros_face = (refl, refl)

-- ---- arms that neither machine does

-- ep_read(a, 4); only on a machine of swapped words x = a[i]
abbrev in_other_arm : Expr → Program
in_other_arm i =
    main_with (local 4 4 ∷ local 1 1 ∷ []) (1 ∷ 2 ∷ [])
    (then_do 3 (read_bytes (addr_of (block 1)) 4) (more 4 (by_order SwappedWords (then_do 5 sets stop) stop) stop))
  where
    sets : Simple
    sets = assign (Number U8) (block 2) (load (Number U8) (element (block 1) 4 1 i))

-- their text is a mover's too
other_arms : (is_mover_text (in_other_arm (signed 3)) Little Big ≡ true)
    × (is_mover_text (in_other_arm (load (Number U8) (byte_place 1 4 0))) Little Big ≡ false)
other_arms = (refl, refl)
