-- The definitions, tried on small programs.
use Rattle.std.proofs.Common.{◌≡◌, ℕ, List, [], ◌∷◌, refl, Option, Some, None, true, false, pos}
use Rattle.ep_int.specs.declared.types.BinOp.TheVariants.{Add, Div}
use Rattle.ep_int.specs.declared.types.Cmp.TheVariants.{Lt, Eq}
use Rattle.ep_int.specs.declared.types.IntType.{IntType}
use Rattle.ep_int.specs.declared.types.IntType.TheVariants.{U8, I32, U32, U64}
use Rattle.ep_int.specs.declared.types.Model.{Model}
use Rattle.ep_int.specs.declared.types.Model.TheVariants.{Ilp32, Lp64}
use Rattle.ep_int.specs.declared.types.Order.TheVariants.{Little, Big, SwappedWords}
use Rattle.ep_int.specs.declared.types.Scalar.{Scalar}
use Rattle.ep_int.specs.declared.types.Scalar.TheVariants.{Int as Number, Pointer}
use Rattle.ep_int.specs.Memory.{overflow, division, uninitialised, bounds, null_pointer, pointer_mix, overlap}
use Rattle.ep_layout.specs.declared.types.Ty.TheVariants.{Int, Ptr, Array, Aggregate}
use Rattle.ep_layout.specs.Table.{Table, at_depth}
use Rattle.ep_core.specs.Program.{block, deref, member, element, Expr, const, null_value, load, addr_of, binary}
use Rattle.ep_core.specs.Program.{convert, compare, logical_and, logical_or, conditional, ptr_compare, ptr_add, Dest}
use Rattle.ep_core.specs.Program.{Simple, nothing, eval, assign, clear, copy_aggregate, copy_bytes, fill, input}
use Rattle.ep_core.specs.Program.{output, read_bytes, write_bytes, returns, simple, call, if_else, loop, break_loop}
use Rattle.ep_core.specs.Program.{continue_loop, by_order, scope, Stmts, stop, more, Block, Program}
use Rattle.ep_core.specs.Exec.{Output}
use Rattle.ep_core.specs.Runs.{Run, run, Ending, still_running, ended, wants_input, undefined_on}
use Rattle.ep_core.specs.WellFormed.{is_well_formed}

-- the ending and the outputs
abbrev seen : Run → Ending × List Output
seen r = (r.ending, r.outputs)

abbrev puts : IntType → ℕ → Output
puts t n = record { t = t; value = pos n }

-- Types: 0 int, 1 uint32_t, 2 uint8_t, 3 uint8_t[4], 4 union { uint32_t w; uint8_t b[4]; }, 5 uint32_t *, 6 uint8_t[3],
-- 7 uint64_t, 8 uint32_t *[2]
abbrev types : Model → Table
types m = record {
  model = m;
  types = Int I32 ∷ Int U32 ∷ Int U8 ∷ Array 2 4 ∷ Aggregate 0 ∷ Ptr 1 ∷ Array 2 3 ∷ Int U64 ∷ Array 5 2 ∷ [];
  aggregates = record {
    tag = [];
    is_union = true;
    members = Some (record { name = []; ty = 1; offset = 0 } ∷ record { name = []; ty = 3; offset = 0 } ∷ []);
  } ∷ [];
  completed = 0 ∷ [];
}

abbrev local : (size ty : ℕ) → Block
local size ty = record { size = size; ty = ty; global = false }

-- main, whose result is block 0, with one more block
abbrev main_with : Model → Block → Stmts → Program
main_with m b body = record {
  types = types m;
  blocks = local 4 0 ∷ b ∷ [];
  init = [];
  functions =
      record { name = []; line = 1; params = []; result = Some (0, Number I32); locals = 1 ∷ []; body = body } ∷ [];
  main = 0;
}

-- one statement after another
abbrev then_do : ℕ → Simple → Stmts → Stmts
then_do l w rest = more l (simple w) rest

abbrev into_block : Scalar → ℕ → Option Dest
into_block what b = Some (record { what = what; cast = false; place = block b })

-- ---- numbers

-- int32_t a = 2147483647; a = a + 1; ep_out_i32(a);
abbrev sum_past_int : Program
sum_past_int =
    main_with Ilp32 (local 4 0)
    (then_do 2 (assign (Number I32) (block 1) (const I32 (pos 2147483647)))
    (then_do 3 (assign (Number I32) (block 1) (binary Add I32 (load (Number I32) (block 1)) (const I32 (pos 1))))
    (then_do 4 (output I32 (load (Number I32) (block 1))) stop)))

sum_past_int-runs : (is_well_formed sum_past_int ≡ true) ×
    (seen (run sum_past_int Little [] 9) ≡ (undefined_on 3 overflow, [])) ×
    (seen (run sum_past_int Big [] 9) ≡ (undefined_on 3 overflow, []))
unfolding at_depth
sum_past_int-runs = (refl, refl, refl)

-- ---- byte orders

-- x = ep_in_u32(); ep_write(&x, 4);
abbrev bytes_of_input : Program
bytes_of_input =
    main_with Ilp32 (local 4 1)
    (then_do 3 (input U32 (into_block (Number U32) 1)) (then_do 4 (write_bytes (addr_of (block 1)) 4) stop))

abbrev four : ℕ → ℕ → ℕ → ℕ → List Output
four a b c d = puts U8 a ∷ puts U8 b ∷ puts U8 c ∷ puts U8 d ∷ puts I32 0 ∷ []

bytes-fit : is_well_formed bytes_of_input ≡ true
unfolding at_depth
bytes-fit = refl

low_first : seen (run bytes_of_input Little (1 ∷ []) 5) ≡ (ended, four 1 0 0 0)
low_first = refl

high_first : seen (run bytes_of_input Big (1 ∷ []) 5) ≡ (ended, four 0 0 0 1)
high_first = refl

-- 0x0a0b0c0d
words_swapped : seen (run bytes_of_input SwappedWords (168496141 ∷ []) 5) ≡ (ended, four 11 10 13 12)
words_swapped = refl

no_step : seen (run bytes_of_input Big (1 ∷ []) 0) ≡ (still_running, [])
no_step = refl

one_step : seen (run bytes_of_input Big (1 ∷ []) 1) ≡ (still_running, [])
one_step = refl

two_steps : seen (run bytes_of_input Little (1 ∷ []) 2) ≡ (still_running, puts U8 1 ∷ [])
two_steps = refl

no_input_left : seen (run bytes_of_input Little [] 5) ≡ (wants_input, [])
no_input_left = refl

-- union word u; u.w = 1; return u.b[0];
abbrev first_byte : Program
first_byte =
    main_with Ilp32 (local 4 4)
    (then_do 4 (assign (Number U32) (member (block 1) 0) (const U32 (pos 1)))
    (then_do 5 (returns (Some (convert I32 (load (Number U8) (element (member (block 1) 0) 4 1 (const I32 (pos 0)))))))
    stop))

first_byte-fits : is_well_formed first_byte ≡ true
unfolding at_depth
first_byte-fits = refl

first_byte-runs : (seen (run first_byte Little [] 9) ≡ (ended, puts I32 1 ∷ [])) ×
    (seen (run first_byte Big [] 9) ≡ (ended, puts I32 0 ∷ []))
first_byte-runs = (refl, refl)

-- ---- clearing and filling

-- uint8_t a[3] = {1, 2}; ep_write(a, 3);
abbrev brace_list : Program
brace_list =
    main_with Ilp32 (local 3 6)
    (then_do 1 (clear (block 1) 6)
    (then_do 1 (assign (Number U8) (element (block 1) 3 1 (const I32 (pos 0))) (convert U8 (const I32 (pos 1))))
    (then_do 1 (assign (Number U8) (element (block 1) 3 1 (const I32 (pos 1))) (convert U8 (const I32 (pos 2))))
    (then_do 1 (write_bytes (addr_of (block 1)) 3) stop))))

brace_list-runs : (is_well_formed brace_list ≡ true) ×
    (seen (run brace_list Little [] 6) ≡ (ended, puts U8 1 ∷ puts U8 2 ∷ puts U8 0 ∷ puts I32 0 ∷ [])) ×
    (seen (run brace_list Big [] 6) ≡ (ended, puts U8 1 ∷ puts U8 2 ∷ puts U8 0 ∷ puts I32 0 ∷ []))
unfolding at_depth
brace_list-runs = (refl, refl, refl)

-- uint32_t x; memset(&x, 263, 4); ep_out_u32(x);
abbrev filled_with_sevens : Program
filled_with_sevens =
    main_with Ilp32 (local 4 1)
    (then_do 1 (fill (addr_of (block 1)) (convert U8 (const I32 (pos 263))) 4)
    (then_do 1 (output U32 (load (Number U32) (block 1))) stop))

filled_with_sevens-runs : (is_well_formed filled_with_sevens ≡ true) ×
    (seen (run filled_with_sevens Little [] 2) ≡ (ended, puts U32 117901063 ∷ puts I32 0 ∷ [])) ×
    (seen (run filled_with_sevens Big [] 2) ≡ (ended, puts U32 117901063 ∷ puts I32 0 ∷ []))
unfolding at_depth
filled_with_sevens-runs = (refl, refl, refl)

-- ---- data models

-- unsigned long a = 4294967295; a = a + 1; ep_out_u64(a); in each of the two models
abbrev next_long : Program
next_long =
    main_with Ilp32 (local 4 1)
    (then_do 1 (assign (Number U32) (block 1) (convert U32 (const U32 (pos 4294967295))))
    (then_do 1 (assign (Number U32) (block 1)
    (binary Add U32 (load (Number U32) (block 1)) (convert U32 (const I32 (pos 1)))))
    (then_do 1 (output U64 (convert U64 (load (Number U32) (block 1)))) stop)))

abbrev next_long_64 : Program
next_long_64 =
    main_with Lp64 (local 8 7)
    (then_do 1 (assign (Number U64) (block 1) (convert U64 (const U32 (pos 4294967295))))
    (then_do 1 (assign (Number U64) (block 1)
    (binary Add U64 (load (Number U64) (block 1)) (convert U64 (const I32 (pos 1)))))
    (then_do 1 (output U64 (load (Number U64) (block 1))) stop)))

next_long-runs : (is_well_formed next_long ≡ true) ×
    (seen (run next_long Big [] 9) ≡ (ended, puts U64 0 ∷ puts I32 0 ∷ []))
unfolding at_depth
next_long-runs = (refl, refl)

next_long_64-runs : (is_well_formed next_long_64 ≡ true) ×
    (seen (run next_long_64 Big [] 9) ≡ (ended, puts U64 4294967296 ∷ puts I32 0 ∷ []))
unfolding at_depth
next_long_64-runs = (refl, refl)

-- ---- pointers

-- uint32_t *p, *q; memcpy(&q, &p, n); *q = 7; with block 2 for p and block 3 for q, of a model's size
abbrev copy_of_pointer : Model → (size taken : ℕ) → Program
copy_of_pointer m size n = record {
  types = types m;
  blocks = local 4 0 ∷ local 4 1 ∷ local size 5 ∷ local size 5 ∷ [];
  init = [];
  functions = record {
    name = [];
    line = 1;
    params = [];
    result = Some (0, Number I32);
    locals = 1 ∷ 2 ∷ 3 ∷ [];
    body =
        then_do 2 (assign Pointer (block 2) (addr_of (block 1)))
        (then_do 3 (copy_bytes (addr_of (block 3)) (addr_of (block 2)) n)
        (then_do 4 (assign (Number U32) (deref (load Pointer (block 3))) (const U32 (pos 7)))
        (then_do 5 (output U32 (load (Number U32) (block 1))) stop)));
  } ∷ [];
  main = 0;
}

whole_copies : (seen (run (copy_of_pointer Ilp32 4 4) Big [] 9) ≡ (ended, puts U32 7 ∷ puts I32 0 ∷ [])) ×
    (seen (run (copy_of_pointer Lp64 8 8) Little [] 9) ≡ (ended, puts U32 7 ∷ puts I32 0 ∷ []))
whole_copies = (refl, refl)

-- a part of a pointer leaves undefined what it wrote
parts_of_pointers : (seen (run (copy_of_pointer Ilp32 4 2) Big [] 9) ≡ (undefined_on 4 uninitialised, [])) ×
    (seen (run (copy_of_pointer Lp64 8 4) Little [] 9) ≡ (undefined_on 4 uninitialised, []))
parts_of_pointers = (refl, refl)

copies-fit : (is_well_formed (copy_of_pointer Ilp32 4 4) ≡ true) × (is_well_formed (copy_of_pointer Lp64 8 4) ≡ true)
unfolding at_depth
copies-fit = (refl, refl)

-- ---- calls

-- a function that gives the address of its local, called from main: uint32_t *f(void) { uint32_t v; v = 3; return &v; }
abbrev address_of_local : Option Dest → Program
address_of_local d = record {
  types = types Ilp32;
  blocks = local 4 0 ∷ local 4 1 ∷ local 4 5 ∷ local 4 5 ∷ [];
  init = [];
  functions = record {
    name = [];
    line = 1;
    params = [];
    result = Some (2, Pointer);
    locals = 1 ∷ [];
    body =
        then_do 1 (assign (Number U32) (block 1) (const U32 (pos 3)))
        (then_do 1 (returns (Some (addr_of (block 1)))) stop);
  } ∷ record {
    name = [];
    line = 2;
    params = [];
    result = Some (0, Number I32);
    locals = 3 ∷ [];
    body = more 4 (call 0 [] d) stop;
  } ∷ [];
  main = 1;
}

-- the result is undefined where it is taken, and that is no matter where it isn't
address_of_local-runs : (is_well_formed (address_of_local (into_block Pointer 3)) ≡ true) ×
    (seen (run (address_of_local (into_block Pointer 3)) Little [] 9) ≡ (undefined_on 4 uninitialised, [])) ×
    (seen (run (address_of_local None) Little [] 9) ≡ (ended, puts I32 0 ∷ []))
unfolding at_depth
address_of_local-runs = (refl, refl, refl)

-- uint32_t twice(uint32_t a) { return a + a; }, whose result goes through a pointer
abbrev twice : Program
twice = record {
  types = types Ilp32;
  blocks = local 4 0 ∷ local 4 1 ∷ local 4 1 ∷ local 4 1 ∷ [];
  init = [];
  functions = record {
    name = [];
    line = 1;
    params = (1, Number U32) ∷ [];
    result = Some (2, Number U32);
    locals = [];
    body = then_do 1 (returns (Some (binary Add U32 (load (Number U32) (block 1)) (load (Number U32) (block 1))))) stop;
  } ∷ record {
    name = [];
    line = 2;
    params = [];
    result = Some (0, Number I32);
    locals = 3 ∷ [];
    body =
        more 4 (call 0 (const U32 (pos 21) ∷ [])
        (Some (record { what = Number U32; cast = false; place = deref (addr_of (block 3)) })))
        (then_do 5 (output U32 (load (Number U32) (block 3))) stop);
  } ∷ [];
  main = 1;
}

-- a step for the call, one for the return, one for the output
twice-runs : (is_well_formed twice ≡ true) × (seen (run twice Little [] 3) ≡ (ended, puts U32 42 ∷ puts I32 0 ∷ [])) ×
    (seen (run twice Little [] 2) ≡ (still_running, []))
unfolding at_depth
twice-runs = (refl, refl, refl)

-- ---- loops

abbrev x : Expr
x = load (Number U32) (block 1)

abbrev unsigned : ℕ → Expr
unsigned n = const U32 (pos n)

abbrev set : Expr → Simple
set e = assign (Number U32) (block 1) e

-- for (x = 0; x < 2; x = x + 1) continue; ep_out_u32(x);
abbrev continues : Program
continues =
    main_with Ilp32 (local 4 1)
    (then_do 3 (set (unsigned 0))
    (more 3 (loop true (compare Lt U32 x (unsigned 2)) (more 3 continue_loop stop)
    (then_do 3 (set (binary Add U32 x (unsigned 1))) stop))
    (then_do 4 (output U32 x) stop)))

continues-runs : (is_well_formed continues ≡ true) ×
    (seen (run continues Little [] 9) ≡ (ended, puts U32 2 ∷ puts I32 0 ∷ [])) ×
    (seen (run continues Little [] 8) ≡ (still_running, []))
unfolding at_depth
continues-runs = (refl, refl, refl)

continues-tests : (run continues Little [] 9).tests ≡ 1 ∷ 1 ∷ 0 ∷ []
continues-tests = refl

-- do { break; } while (1); ep_out_u32(7);
abbrev breaks_at_once : Program
breaks_at_once =
    main_with Ilp32 (local 4 1)
    (more 3 (loop false (const I32 (pos 1)) (more 3 break_loop stop) stop) (then_do 4 (output U32 (unsigned 7)) stop))

breaks_at_once-runs : (is_well_formed breaks_at_once ≡ true) ×
    (seen (run breaks_at_once Big [] 4) ≡ (ended, puts U32 7 ∷ puts I32 0 ∷ [])) ×
    ((run breaks_at_once Big [] 4).tests ≡ [])
unfolding at_depth
breaks_at_once-runs = (refl, refl, refl)

-- ---- byte-order conditionals

-- if (1) ; then, on little machines, if (1) return 5; on others ; and then ep_out_u32(7);
abbrev returns_on_little : Program
returns_on_little =
    main_with Ilp32 (local 4 1)
    (more 2 (if_else (const I32 (pos 1)) stop stop)
    (more 3 (by_order Little
    (more 4 (if_else (const I32 (pos 1)) (then_do 4 (returns (Some (const I32 (pos 5)))) stop) stop) stop)
    (then_do 6 nothing stop))
    (then_do 8 (output U32 (unsigned 7)) stop)))

returns_on_little-runs : (is_well_formed returns_on_little ≡ true) ×
    (seen (run returns_on_little Little [] 9) ≡ (ended, puts I32 5 ∷ [])) ×
    (seen (run returns_on_little SwappedWords [] 9) ≡ (ended, puts U32 7 ∷ puts I32 0 ∷ []))
unfolding at_depth
returns_on_little-runs = (refl, refl, refl)

-- the ways out are listed; the test inside is none of the joint tests
returns_on_little-tests : ((run returns_on_little Little [] 9).tests ≡ 1 ∷ 1 ∷ 5 ∷ []) ×
    ((run returns_on_little Little [] 9).joint_tests ≡ 1 ∷ 5 ∷ []) ×
    ((run returns_on_little Big [] 9).tests ≡ 1 ∷ 2 ∷ []) ×
    ((run returns_on_little Little [] 3).joint_tests ≡ 1 ∷ [])
returns_on_little-tests = (refl, refl, refl, refl)

-- ---- scopes

-- while (1) { uint32_t x; if (!y) x = 1; ep_out_u32(x); y = 1; }: what a scope held is undefined when it is entered
-- again
abbrev entered_twice : Program
entered_twice = record {
  types = types Ilp32;
  blocks = local 4 0 ∷ local 4 1 ∷ local 4 1 ∷ [];
  init = [];
  functions = record {
    name = [];
    line = 1;
    params = [];
    result = Some (0, Number I32);
    locals = 2 ∷ [];
    body =
        then_do 2 (assign (Number U32) (block 2) (unsigned 0))
        (more 3 (loop true (const I32 (pos 1))
        (more 3 (scope (1 ∷ [])
        (more 4 (if_else (load (Number U32) (block 2)) stop (then_do 5 (set (unsigned 1)) stop))
        (then_do 6 (output U32 x) (then_do 7 (assign (Number U32) (block 2) (unsigned 1)) stop)))) stop) stop) stop);
  } ∷ [];
  main = 0;
}

entered_twice-runs : (is_well_formed entered_twice ≡ true) ×
    (seen (run entered_twice Little [] 12) ≡ (undefined_on 6 uninitialised, puts U32 1 ∷ []))
unfolding at_depth
entered_twice-runs = (refl, refl)

-- ---- null, bounds, and what is looked for first

-- Types as above, and block 1 for the object, block 2 for a pointer to it or to nothing.
abbrev with_pointer : (object : Block) → Stmts → Program
with_pointer b body = record {
  types = types Ilp32;
  blocks = local 4 0 ∷ b ∷ local 4 5 ∷ [];
  init = [];
  functions =
      record { name = []; line = 1; params = []; result = Some (0, Number I32); locals = 1 ∷ 2 ∷ []; body = body } ∷ [];
  main = 0;
}

abbrev pointed : Expr
pointed = load Pointer (block 2)

abbrev ends_so : Program → List ℕ → Ending × List Output
ends_so p inputs = seen (run p SwappedWords inputs 9)

abbrev after_null : Simple → Program
after_null w = with_pointer (local 4 1) (then_do 2 (assign Pointer (block 2) null_value) (then_do 3 w stop))

-- *p = 1 / 0: the right side is evaluated before null is looked for
right_side_first : ends_so
    (after_null (assign (Number U32) (deref pointed) (binary Div U32 (unsigned 1) (unsigned 0)))) [] ≡
    (undefined_on 3 division, [])
right_side_first = refl

writes_null : ends_so (after_null (assign (Number U32) (deref pointed) (unsigned 1))) [] ≡
    (undefined_on 3 null_pointer, [])
writes_null = refl

-- *p = ep_in_u32(): the input is taken first
input_first : (ends_so
    (after_null (input U32 (Some (record { what = Number U32; cast = false; place = deref pointed })))) [] ≡
    (wants_input, [])) × (ends_so
    (after_null (input U32 (Some (record { what = Number U32; cast = false; place = deref pointed })))) (1 ∷ []) ≡
    (undefined_on 3 null_pointer, []))
input_first = (refl, refl)

-- &*p of a null p is null, and a member of it is undefined, at offset 0 too
address_of_null : (ends_so (after_null (eval (addr_of (deref pointed)))) [] ≡ (ended, puts I32 0 ∷ [])) ×
    (ends_so (after_null (eval (addr_of (member (deref pointed) 0)))) [] ≡ (undefined_on 3 null_pointer, []))
address_of_null = (refl, refl)

-- memcpy(p, &x, 9), memcpy(&x, p, 9), memcpy(&x, &x, 4), and memset(p, 1 / 0, 4)
copies_look_first_for :
    (ends_so (after_null (copy_bytes pointed (addr_of (block 1)) 9)) [] ≡ (undefined_on 3 null_pointer, [])) ×
    (ends_so (after_null (copy_bytes (addr_of (block 1)) pointed 9)) [] ≡ (undefined_on 3 null_pointer, [])) ×
    (ends_so (after_null (copy_bytes (addr_of (block 1)) (addr_of (block 1)) 4)) [] ≡
    (undefined_on 3 overlap, [])) ×
    (ends_so (after_null (copy_bytes (addr_of (block 1)) (addr_of (block 2)) 5)) [] ≡ (undefined_on 3 bounds, [])) ×
    (ends_so (after_null (fill pointed (convert U8 (binary Div U32 (unsigned 1) (unsigned 0))) 4)) [] ≡
    (undefined_on 3 division, []))
copies_look_first_for = (refl, refl, refl, refl, refl)

-- u = u of a union, through two pointers too, and its bytes stay undefined
assigned_to_itself : ends_so
    (with_pointer (local 4 4)
    (then_do 2 (copy_aggregate (block 1) (deref (addr_of (block 1))) 4)
    (then_do 3 (output U32 (load (Number U32) (member (block 1) 0))) stop))) [] ≡ (undefined_on 3 uninitialised, [])
unfolding at_depth
assigned_to_itself = refl

-- An element of an array in place asks for its bound alone: of 4 bytes taken to be an array of 9, &a[5] is no fault,
-- and a[5] is; &a[9] is one too.
elements_in_place : (ends_so (after_null (eval (addr_of (element (block 1) 9 4 (unsigned 5))))) [] ≡
    (ended, puts I32 0 ∷ [])) ×
    (ends_so (after_null (eval (load (Number U32) (element (block 1) 9 4 (unsigned 5))))) [] ≡
    (undefined_on 3 bounds, [])) ×
    (ends_so (after_null (eval (addr_of (element (block 1) 9 4 (unsigned 9))))) [] ≡ (undefined_on 3 bounds, []))
elements_in_place = (refl, refl, refl)

-- a pointer goes as far as right behind its block, and not before it
sums : (ends_so (after_null (eval (ptr_add (addr_of (block 1)) 4 (unsigned 1) false))) [] ≡ (ended, puts I32 0 ∷ [])) ×
    (ends_so (after_null (eval (ptr_add (addr_of (block 1)) 4 (unsigned 2) false))) [] ≡
    (undefined_on 3 bounds, [])) ×
    (ends_so (after_null (eval (ptr_add (addr_of (block 1)) 4 (unsigned 1) true))) [] ≡
    (undefined_on 3 bounds, [])) ×
    (ends_so (after_null (eval (ptr_add pointed 4 (unsigned 0) false))) [] ≡ (undefined_on 3 null_pointer, []))
sums = (refl, refl, refl, refl)

-- null == null, &x != null, and null < null is undefined
comparisons : (ends_so (after_null (output I32 (ptr_compare Eq pointed null_value))) [] ≡
    (ended, puts I32 1 ∷ puts I32 0 ∷ [])) ×
    (ends_so (after_null (output I32 (ptr_compare Eq (addr_of (block 1)) pointed))) [] ≡
    (ended, puts I32 0 ∷ puts I32 0 ∷ [])) ×
    (ends_so (after_null (eval (ptr_compare Lt pointed null_value))) [] ≡ (undefined_on 3 pointer_mix, [])) ×
    (ends_so (after_null (eval (ptr_compare Lt (addr_of (block 1)) (addr_of (block 2))))) [] ≡
    (undefined_on 3 pointer_mix, [])) ×
    (ends_so (after_null (output I32
    (ptr_compare Lt (addr_of (block 1)) (ptr_add (addr_of (block 1)) 4 (unsigned 1) false)))) [] ≡
    (ended, puts I32 1 ∷ puts I32 0 ∷ []))
comparisons = (refl, refl, refl, refl, refl)

-- 0 && 1 / 0, 1 || 1 / 0 and 1 ? 2 : 1 / 0 evaluate what C does
not_evaluated : (ends_so
    (after_null (output I32 (logical_and (unsigned 0) (binary Div U32 (unsigned 1) (unsigned 0))))) [] ≡
    (ended, puts I32 0 ∷ puts I32 0 ∷ [])) ×
    (ends_so (after_null (output I32 (logical_or (unsigned 7) (binary Div U32 (unsigned 1) (unsigned 0))))) [] ≡
    (ended, puts I32 1 ∷ puts I32 0 ∷ [])) ×
    (ends_so (after_null (output U32
    (conditional (unsigned 1) (unsigned 2) (binary Div U32 (unsigned 1) (unsigned 0))))) [] ≡
    (ended, puts U32 2 ∷ puts I32 0 ∷ [])) ×
    (ends_so (after_null (output I32 (logical_and (unsigned 1) (binary Div U32 (unsigned 1) (unsigned 0))))) [] ≡
    (undefined_on 3 division, []))
not_evaluated = (refl, refl, refl, refl)

-- ---- bytes in, globals

-- ep_read(&x, 2); ep_write(&x, 2): inputs modulo 256, a step for each, and bounds are looked for before the first input
reads_bytes : (ends_so
    (with_pointer (local 4 1)
    (then_do 2 (read_bytes (addr_of (block 1)) 2) (then_do 3 (write_bytes (addr_of (block 1)) 2) stop)))
    (257 ∷ 2 ∷ 3 ∷ []) ≡ (ended, puts U8 1 ∷ puts U8 2 ∷ puts I32 0 ∷ [])) ×
    (ends_so (with_pointer (local 4 1) (then_do 2 (read_bytes (addr_of (block 1)) 5) stop)) [] ≡
    (undefined_on 2 bounds, [])) ×
    ((run (with_pointer (local 4 1) (then_do 2 (read_bytes (addr_of (block 1)) 2) stop)) Big
    (1 ∷ 2 ∷ 3 ∷ []) 1).used ≡ 1) ×
    ((run (with_pointer (local 4 1) (then_do 2 (read_bytes (addr_of (block 1)) 2) stop)) Big
    (1 ∷ []) 9).ending ≡ wants_input)
reads_bytes = (refl, refl, refl, refl)

-- a global of 4 bytes whose second byte has a first value: the others are 0
abbrev global_bytes : Program
global_bytes = record {
  types = types Ilp32;
  blocks = local 4 0 ∷ record { size = 4; ty = 3; global = true } ∷ [];
  init = record { block = 1; offset = 1; t = U8; value = pos 7 } ∷ [];
  functions = record {
    name = [];
    line = 1;
    params = [];
    result = Some (0, Number I32);
    locals = [];
    body = then_do 2 (write_bytes (addr_of (block 1)) 4) stop;
  } ∷ [];
  main = 0;
}

global_bytes-runs : (is_well_formed global_bytes ≡ true) × (ends_so global_bytes [] ≡ (ended, four 0 7 0 0))
unfolding at_depth
global_bytes-runs = (refl, refl)

-- ---- what is not well formed

-- `break` outside a loop; a block of another size; a call of a function that isn't before; a value of another type; the
-- result as a place; a loop whose step part loops; a constant out of range; a pointer moved by units of another size
ill_formed : (is_well_formed (with_pointer (local 4 1) (more 2 break_loop stop)) ≡ false) ×
    (is_well_formed (with_pointer (local 5 1) stop) ≡ false) ×
    (is_well_formed (with_pointer (local 4 1) (more 2 (call 0 [] None) stop)) ≡ false) ×
    (is_well_formed (with_pointer (local 4 1)
    (then_do 2 (assign (Number U32) (block 1) (const I32 (pos 1))) stop)) ≡ false) ×
    (is_well_formed (with_pointer (local 4 1)
    (then_do 2 (assign (Number U32) (block 0) (unsigned 1)) stop)) ≡ false) ×
    (is_well_formed (with_pointer (local 4 1)
    (more 2 (loop true x stop (more 2 (loop true x stop stop) stop)) stop)) ≡ false) ×
    (is_well_formed (with_pointer (local 4 1) (then_do 2 (output U8 (const U8 (pos 256))) stop)) ≡ false) ×
    (is_well_formed (with_pointer (local 4 1)
    (then_do 2 (eval (ptr_add (addr_of (block 1)) 2 x false)) stop)) ≡ false) ×
    (is_well_formed (with_pointer (local 4 1) stop) ≡ true)
unfolding at_depth
ill_formed = (refl, refl, refl, refl, refl, refl, refl, refl, refl)
