-- The byte memory, tried on small places.
use Rattle.std.proofs.Common.{◌≡◌, pos, [], ◌∷◌, refl, Some, None}
use Rattle.ep_int.specs.declared.types.IntType.TheVariants.{U16, U32}
use Rattle.ep_int.specs.declared.types.Model.TheVariants.{Ilp32, Lp64}
use Rattle.ep_int.specs.declared.types.Order.TheVariants.{Little, Big, SwappedWords}
use Rattle.ep_int.specs.declared.types.Scalar.TheVariants.{Int, Pointer}
use Rattle.ep_int.specs.Memory.{undefined, number, fragment, Memory, int, null, pointer, has, faults, uninitialised}
use Rattle.ep_int.specs.Memory.{bounds, alignment, pointer_part, stored, filled, copied, killed, zeroed, loaded}
use Rattle.ep_int.specs.Memory.{store_fault}

abbrev nowhere : Memory
nowhere b p = undefined

-- a pointer at offset 8 of block 0, to byte 3 of block 7
abbrev kept : Memory
kept = stored Big Ilp32 nowhere Pointer 0 8 (pointer 7 3)

abbrev kept_wide : Memory
kept_wide = stored Big Lp64 nowhere Pointer 0 8 (pointer 7 3)

pointers_back : (loaded Little Ilp32 16 kept Pointer 0 8 ≡ has (pointer 7 3)) ×
    (loaded SwappedWords Lp64 16 kept_wide Pointer 0 8 ≡ has (pointer 7 3)) × (kept 0 11 ≡ fragment 7 3 3) ×
    (kept 0 12 ≡ undefined) × (kept_wide 0 15 ≡ fragment 7 3 7)
pointers_back = (refl, refl, refl, refl, refl)

-- a write over some parts leaves the others undefined, and one beside it leaves them
parts_overwritten : (filled Ilp32 kept 0 9 1 5 0 8 ≡ undefined) × (filled Ilp32 kept 0 9 1 5 0 9 ≡ number 5) ×
    (filled Ilp32 kept 0 9 1 5 0 11 ≡ undefined) × (filled Lp64 kept_wide 0 12 2 5 0 8 ≡ undefined) ×
    (filled Ilp32 kept 0 12 2 5 0 11 ≡ fragment 7 3 3) × (filled Ilp32 kept 1 9 1 5 0 8 ≡ fragment 7 3 0)
parts_overwritten = (refl, refl, refl, refl, refl, refl)

-- a copy takes a whole pointer, and of a part of one nothing
copies : (loaded Little Ilp32 16 (copied Ilp32 kept 1 4 0 8 4) Pointer 1 4 ≡ has (pointer 7 3)) ×
    (copied Ilp32 kept 1 4 0 8 3 1 4 ≡ undefined) × (copied Ilp32 kept 1 0 0 4 8 1 4 ≡ fragment 7 3 0) ×
    (copied Ilp32 kept 1 0 0 9 4 1 0 ≡ undefined) × (copied Ilp32 kept 1 4 0 8 3 0 8 ≡ fragment 7 3 0)
copies = (refl, refl, refl, refl, refl)

-- a block that goes takes the pointers to it along
kills : (killed (7 ∷ []) kept 0 10 ≡ undefined) × (killed (6 ∷ []) kept 0 10 ≡ fragment 7 3 2) ×
    (killed (0 ∷ []) kept 0 10 ≡ undefined)
kills = (refl, refl, refl)

-- what is wrong with a read, in the order in which it is looked for
faults_of_reads : (loaded Little Ilp32 16 kept (Int U32) 0 14 ≡ faults bounds) ×
    (loaded Little Ilp32 16 kept (Int U32) 0 9 ≡ faults alignment) ×
    (loaded Little Ilp32 16 (filled Ilp32 kept 0 12 1 0) (Int U32) 0 12 ≡ faults uninitialised) ×
    (loaded Little Ilp32 16 kept (Int U16) 0 8 ≡ faults pointer_part) ×
    (loaded Little Ilp32 16 (filled Ilp32 nowhere 0 8 4 1) Pointer 0 8 ≡ faults pointer_part)
faults_of_reads = (refl, refl, refl, refl, refl)

null_is_zero : (loaded Big Ilp32 16 (zeroed nowhere 0) Pointer 0 8 ≡ has null) ×
    (loaded Big Lp64 16 (stored Big Lp64 nowhere Pointer 0 8 null) Pointer 0 8 ≡ has null) ×
    (loaded Big Ilp32 16 (stored Big Ilp32 nowhere Pointer 0 8 null) (Int U32) 0 8 ≡ has (int (pos 0)))
null_is_zero = (refl, refl, refl)

-- two numbers of 32 bits, read as their lowest bytes
numbers_back : (loaded SwappedWords Ilp32 16 (stored SwappedWords Ilp32 nowhere (Int U32) 0 4 (int (pos 168496141)))
    (Int U32) 0 4 ≡ has (int (pos 168496141))) ×
    (stored SwappedWords Ilp32 nowhere (Int U32) 0 4 (int (pos 168496141)) 0 4 ≡ number 11) ×
    (stored Big Ilp32 nowhere (Int U32) 0 4 (int (pos 168496141)) 0 4 ≡ number 10) ×
    (stored Little Ilp32 nowhere (Int U32) 0 4 (int (pos 168496141)) 0 4 ≡ number 13)
numbers_back = (refl, refl, refl, refl)

stores : (store_fault Lp64 16 Pointer 12 ≡ Some bounds) × (store_fault Ilp32 16 Pointer 12 ≡ None) ×
    (store_fault Lp64 16 Pointer 4 ≡ Some alignment) × (store_fault Ilp32 16 Pointer 18 ≡ Some bounds)
stores = (refl, refl, refl, refl)
