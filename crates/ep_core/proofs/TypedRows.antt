-- What the laws on types rule out, and what they don't, on small programs.
use Rattle.std.proofs.Common.{◌≡◌, ℕ, true, false, pos, [], ◌∷◌, refl, Some}
use Rattle.ep_int.specs.declared.types.Cmp.TheVariants.{Lt}
use Rattle.ep_int.specs.declared.types.IntType.TheVariants.{U8, I32}
use Rattle.ep_int.specs.declared.types.Model.TheVariants.{Ilp32}
use Rattle.ep_int.specs.declared.types.Order.TheVariants.{Little}
use Rattle.ep_int.specs.declared.types.Scalar.TheVariants.{Int as Number, Pointer}
use Rattle.ep_int.specs.Memory.{number, fragment, Memory, int, pointer, has, faults, bounds, pointer_part, loaded}
use Rattle.ep_layout.specs.declared.types.Ty.TheVariants.{Int, Ptr, Array}
use Rattle.ep_layout.specs.Table.{Table, at_depth}
use Rattle.ep_core.specs.Program.{block, deref, element, Expr, const, null_value, load, addr_of, compare, cast}
use Rattle.ep_core.specs.Program.{Simple, assign, returns, simple, Stmts, stop, more, Block, Program}
use Rattle.ep_core.specs.Exec.{element_at, value, counted}
use Rattle.ep_core.specs.Runs.{run, ended, main_from}
use Rattle.ep_core.specs.WellFormed.{integer, has_sort, is_well_formed}
use Rattle.ep_core.specs.Typed.{OperandsFit, ReturnFits}
use Rattle.ep_core.proofs.Grows.{state_in}

-- Types: 0 int, 1 uint8_t, 2 uint8_t[32768], 3 uint8_t[2][32768], 4 uint8_t (*)[2][32768]
abbrev types : Table
types = record {
  model = Ilp32;
  types = Int I32 ∷ Int U8 ∷ Array 1 32768 ∷ Array 2 2 ∷ Ptr 3 ∷ [];
  aggregates = [];
  completed = [];
}

abbrev local : (size ty : ℕ) → Block
local size ty = record { size = size; ty = ty; global = false }

-- main, whose result is block 0, with a uint8_t in block 1 and a pointer in block 2
abbrev main_of : Stmts → Program
main_of body = record {
  types = types;
  blocks = local 4 0 ∷ local 1 1 ∷ local 4 4 ∷ [];
  init = [];
  functions = record {
    name = [];
    line = 1;
    params = [];
    result = Some (0, Number I32);
    locals = 1 ∷ 2 ∷ [];
    body =
        body;
  } ∷ [];
  main = 0;
}

abbrev then_do : Simple → Stmts → Stmts
then_do w rest = more 1 (simple w) rest

abbrev empty : Program
empty = main_of stop

-- ---- null is no number

abbrev null_below : Expr
null_below = compare Lt I32 null_value (const I32 (pos 0))

null_below-refused : (m : Memory)
    → (has_sort types [] [] null_below (integer I32) ≡ false) × (value Little empty null_below m ≡ faults
    pointer_part) × (OperandsFit Little empty m null_below → ⊥)
null_below-refused m = (refl, refl, λ h. h.2)

-- an int function doesn't return an address
address_returned : (m : Memory)
    → (is_well_formed (main_of (then_do (returns (Some (addr_of (block 1)))) stop)) ≡ false) × (ReturnFits Little empty
    m (Some (0, Number I32)) (Some (addr_of (block 1))) → ⊥)
unfolding at_depth
address_returned m = (refl, λ h. h.1)

-- ---- a pointer past its block

-- p = (uint8_t (*)[2][32768])&x;
abbrev to_rows : Simple
to_rows = assign Pointer (block 2) (cast (addr_of (block 1)))

-- p = (uint8_t (*)[2][32768])(*p)[1];
abbrev next_row : Simple
next_row = assign Pointer (block 2)
    (cast (addr_of (element (deref (load Pointer (block 2))) 2 32768 (const I32 (pos 1)))))

abbrev two_rows : Program
two_rows = main_of (then_do to_rows (then_do next_row (then_do next_row stop)))

-- An index in place asks for the array's bound alone, so that a pointer may lie past its block, here 65536 bytes past x.
two_rows-run : (is_well_formed two_rows ≡ true) × ((run two_rows Little [] 9).ending ≡
    ended) × ((state_in (main_from Little two_rows counted [] 9)).memory 2 0 ≡ fragment 1 65536 0)
unfolding at_depth
two_rows-run = (refl, refl, refl)

-- ---- why memories have to fit

-- a byte of 300 would be read as a number that no uint8_t is
too_large : loaded Little Ilp32 1 (λ b q. number 300) (Number U8) 0 0 ≡ has (int (pos 300))
too_large = refl

-- A pointer lies at most 2 to the 32 less one past its block's start.
furthest : (element_at 1 4294967294 2 1 (pos 1) ≡ has (pointer 1 4294967295)) × (element_at 1 4294967295 2 1 (pos 1) ≡
    faults bounds)
furthest = (refl, refl)
