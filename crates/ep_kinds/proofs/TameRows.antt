-- Which small programs are tame.
use Rattle.std.proofs.Common.{◌≡◌, ℕ, List, [], ◌∷◌, refl, Some, true, false, pos}
use Rattle.ep_int.specs.declared.types.BinOp.TheVariants.{Add, Or, Shl, Shr}
use Rattle.ep_int.specs.declared.types.Cmp.TheVariants.{Lt}
use Rattle.ep_int.specs.declared.types.IntType.TheVariants.{U8, U16, I32, U32}
use Rattle.ep_int.specs.declared.types.Model.TheVariants.{Ilp32}
use Rattle.ep_int.specs.declared.types.Order.TheVariants.{Little}
use Rattle.ep_int.specs.declared.types.Scalar.{Scalar}
use Rattle.ep_int.specs.declared.types.Scalar.TheVariants.{Int as Number, Pointer}
use Rattle.ep_layout.specs.declared.types.Ty.{Ty}
use Rattle.ep_layout.specs.declared.types.Ty.TheVariants.{Int, Ptr, Array, Aggregate}
use Rattle.ep_layout.specs.Table.{Table, AggregateRow, MemberRow, at_depth}
use Rattle.ep_core.specs.Program.{block, deref, member, element, Expr, const, null_value, load, addr_of, binary}
use Rattle.ep_core.specs.Program.{convert, compare, ptr_add, cast, Simple, eval, assign, copy_aggregate, copy_bytes}
use Rattle.ep_core.specs.Program.{fill, input, output, read_bytes, simple, if_else, loop, by_order, Stmts, stop, more}
use Rattle.ep_core.specs.Program.{Block, Program}
use Rattle.ep_core.specs.WellFormed.{is_well_formed}
use Rattle.ep_kinds.specs.Tame.{are_tame_types, is_tame}

-- ---- programs

abbrev local : (size ty : ℕ) → Block
local size ty = record { size = size; ty = ty; global = false }

abbrev at : (offset ty : ℕ) → MemberRow
at q ty = record { name = []; ty = ty; offset = q }

abbrev struct : List MemberRow → AggregateRow
struct ms = record { tag = []; is_union = false; members = Some ms }

abbrev union : List MemberRow → AggregateRow
union ms = record { tag = []; is_union = true; members = Some ms }

abbrev table : List Ty → List AggregateRow → (completed : List ℕ) → Table
table ts gs cs = record { model = Ilp32; types = ts; aggregates = gs; completed = cs }

-- main, whose result is block 0, with these blocks more
abbrev main_with : Table → List Block → (locals : List ℕ) → Stmts → Program
main_with t bs locals body = record {
  types = t;
  blocks = local 4 0 ∷ bs;
  init = [];
  functions =
      record { name = []; line = 1; params = []; result = Some (0, Number I32); locals = locals; body = body } ∷ [];
  main = 0;
}

abbrev then_do : ℕ → Simple → Stmts → Stmts
then_do l w rest = more l (simple w) rest

abbrev of_block : Scalar → ℕ → Expr
of_block what b = load what (block b)

abbrev signed : ℕ → Expr
signed n = const I32 (pos n)

-- ---- worked programs

-- Types: 0 int, 1 uint16_t.
-- ep_read(&x, 2); y = (x >> 8) | (x << 8) on a little-endian machine, y = x on every other; ep_out_u16(y);
abbrev swap_by_order : Program
swap_by_order =
    main_with (table (Int I32 ∷ Int U16 ∷ []) [] []) (local 2 1 ∷ local 2 1 ∷ []) (1 ∷ 2 ∷ [])
    (then_do 3 (read_bytes (addr_of (block 1)) 2)
    (more 4 (by_order Little (then_do 5 (assign (Number U16) (block 2) (convert U16 swapped)) stop)
    (then_do 7 (assign (Number U16) (block 2) (of_block (Number U16) 1)) stop))
    (then_do 9 (output U16 (of_block (Number U16) 2)) stop)))
  where
    x : Expr
    x = convert I32 (of_block (Number U16) 1)

    swapped : Expr
    swapped = binary Or I32 (binary Shr I32 x (signed 8)) (binary Shl I32 x (signed 8))

-- Types: 0 int, 1 uint32_t, 2 uint8_t, 3 uint8_t[4], 4 union { uint32_t w; uint8_t b[4]; }
-- u.w = 1; if (u.b[0]) z = 10; else z = 20; ep_out_u32(u.w);
abbrev looks_at_byte : Program
looks_at_byte =
    main_with
    (table (Int I32 ∷ Int U32 ∷ Int U8 ∷ Array 2 4 ∷ Aggregate 0 ∷ []) (union (at 0 1 ∷ at 0 3 ∷ []) ∷ []) (0 ∷ []))
    (local 4 4 ∷ local 4 1 ∷ []) (1 ∷ 2 ∷ [])
    (then_do 5 (assign (Number U32) (member (block 1) 0) (convert U32 (signed 1)))
    (more 6 (if_else (load (Number U8) (element (member (block 1) 0) 4 1 (signed 0))) (sets 10) (sets 20))
    (then_do 7 (output U32 (load (Number U32) (member (block 1) 0))) stop)))
  where
    sets : ℕ → Stmts
    sets n = then_do 6 (assign (Number U32) (block 2) (convert U32 (signed n))) stop

-- Types: 0 int, 1 uint32_t, 2 uint32_t[8], 3 uint32_t *
-- p = a; for (i = 0; i < 8; i++) p[i] = i; for (i = 0; i < 8; i++) ep_out_u32(a[i]);
abbrev fills_array : Program
fills_array =
    main_with (table (Int I32 ∷ Int U32 ∷ Array 1 8 ∷ Ptr 1 ∷ []) [] []) (local 32 2 ∷ local 4 3 ∷ local 4 1 ∷ [])
    (1 ∷ 2 ∷ 3 ∷ [])
    (then_do 5 (assign Pointer (block 2) (addr_of (block 1)))
    (then_do 6 begins
    (more 6 (loop true below_eight
    (then_do 6 (assign (Number U32) (deref (ptr_add (of_block Pointer 2) 4 i false)) i) stop) (then_do 6 counts stop))
    (then_do 7 begins
    (more 7 (loop true below_eight
    (then_do 7 (output U32 (load (Number U32) (element (block 1) 8 4 i))) stop) (then_do 7 counts stop)) stop)))))
  where
    i : Expr
    i = of_block (Number U32) 3

    begins : Simple
    begins = assign (Number U32) (block 3) (convert U32 (signed 0))

    counts : Simple
    counts = assign (Number U32) (block 3) (binary Add U32 i (convert U32 (signed 1)))

    below_eight : Expr
    below_eight = compare Lt U32 i (convert U32 (signed 8))

-- Types: 0 int, 1 uint32_t, 2 uint8_t, 3 uint32_t *, 4 struct item { uint8_t tag; uint32_t *p; }
-- s.tag = 1; s.p = &x; d is s; y = *d.p; ep_out_u32(y);
abbrev copies_item : Simple → Program
copies_item copy =
    main_with
    (table (Int I32 ∷ Int U32 ∷ Int U8 ∷ Ptr 1 ∷ Aggregate 0 ∷ []) (struct (at 0 2 ∷ at 4 3 ∷ []) ∷ []) (0 ∷ []))
    (local 8 4 ∷ local 8 4 ∷ local 4 1 ∷ local 4 1 ∷ []) (1 ∷ 2 ∷ 3 ∷ 4 ∷ [])
    (then_do 5 (assign (Number U8) (member (block 1) 0) (convert U8 (signed 1)))
    (then_do 5 (assign Pointer (member (block 1) 4) (addr_of (block 3)))
    (then_do 6 copy
    (then_do 7 (assign (Number U32) (block 4) (load (Number U32) (deref (load Pointer (member (block 2) 4)))))
    (then_do 8 (output U32 (of_block (Number U32) 4)) stop)))))

abbrev by_bytes : Simple
by_bytes = copy_bytes (addr_of (block 2)) (addr_of (block 1)) 8

abbrev as_whole : Simple
as_whole = copy_aggregate (block 2) (block 1) 4

worked : (is_tame swap_by_order ≡ false) × (is_tame looks_at_byte ≡ false) × (is_tame fills_array ≡ true)
    × (is_tame (copies_item by_bytes) ≡ false) × (is_tame (copies_item as_whole) ≡ true)
unfolding at_depth
worked = (refl, refl, refl, refl, refl)

are_programs : (is_well_formed swap_by_order ≡ true) × (is_well_formed looks_at_byte ≡ true)
    × (is_well_formed fills_array ≡ true) × (is_well_formed (copies_item by_bytes) ≡ true)
    × (is_well_formed (copies_item as_whole) ≡ true)
unfolding at_depth
are_programs = (refl, refl, refl, refl, refl)

-- ---- each condition by itself

-- Types: 0 int, 1 int[2], 2 struct s { int f[2]; int g; }, 3 struct s *, 4 int *; block 1 is a struct s, block 2 a
-- pointer to one
abbrev with_struct : Simple → Program
with_struct w =
    main_with
    (table (Int I32 ∷ Array 0 2 ∷ Aggregate 0 ∷ Ptr 2 ∷ Ptr 0 ∷ []) (struct (at 0 1 ∷ at 8 0 ∷ []) ∷ []) (0 ∷ []))
    (local 12 2 ∷ local 4 3 ∷ []) (1 ∷ 2 ∷ []) (then_do 2 w stop)

abbrev is_tame_with : Simple → Type 0
is_tame_with w = is_tame (with_struct w) ≡ true

abbrev is_wild_with : Simple → Type 0
is_wild_with w = is_tame (with_struct w) ≡ false

-- a pointer as one to another type, all bytes set, an input as another pointer
no_bytes : is_wild_with (eval (cast null_value)) × is_wild_with (fill (addr_of (block 1)) (signed 0) 12)
    × is_wild_with (input I32 (Some (record { what = Number I32; cast = true; place = member (block 1) 8 })))
    × is_tame_with (input I32 (Some (record { what = Number I32; cast = false; place = member (block 1) 8 })))
unfolding at_depth
no_bytes = (refl, refl, refl, refl)

-- &x.g, x.f, &p->g; but &x, p->f[1] and &*p
no_members : is_wild_with (eval (addr_of (member (block 1) 8))) × is_wild_with (eval (addr_of (member (block 1) 0)))
    × is_wild_with (eval (addr_of (member (deref (of_block Pointer 2)) 8)))
    × is_tame_with (eval (addr_of (block 1)))
    × is_tame_with (eval (load (Number I32) (element (member (deref (of_block Pointer 2)) 0) 2 4 (signed 1))))
    × is_tame_with (eval (addr_of (deref (load Pointer (member (block 1) 8)))))
unfolding at_depth
no_members = (refl, refl, refl, refl, refl, refl)

-- p + 1 goes by 12 bytes, the pointers to int by 4
no_steps : is_wild_with (eval (ptr_add (of_block Pointer 2) 12 (signed 1) false))
    × is_tame_with (eval (ptr_add (addr_of (block 1)) 4 (signed 1) false))
unfolding at_depth
no_steps = (refl, refl)

-- Types: 0 int, 1 int[2], 2 struct { int f[2]; }, 3 struct { struct { int f[2]; } g; }, and one more
abbrev with_type : Ty → Table
with_type ty =
    table (Int I32 ∷ Array 0 2 ∷ Aggregate 0 ∷ Aggregate 1 ∷ ty ∷ [])
    (struct (at 0 1 ∷ []) ∷ struct (at 0 2 ∷ []) ∷ []) (0 ∷ 1 ∷ [])

-- an array of the second and of the third; but an array of arrays, and a pointer
no_arrays_of_holders : (are_tame_types (with_type (Array 2 3)) ≡ false)
    × (are_tame_types (with_type (Array 3 1)) ≡ false)
    × (are_tame_types (with_type (Array 1 3)) ≡ true) × (are_tame_types (with_type (Ptr 3)) ≡ true)
unfolding at_depth
no_arrays_of_holders = (refl, refl, refl, refl)

-- such an array within an array
abbrev deep : Table
deep = table (Int I32 ∷ Array 0 2 ∷ Aggregate 0 ∷ Array 2 1 ∷ Array 3 5 ∷ []) (struct (at 0 1 ∷ []) ∷ []) (0 ∷ [])

no_deeper : are_tame_types deep ≡ false
unfolding at_depth
no_deeper = refl
