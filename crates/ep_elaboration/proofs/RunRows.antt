-- Programs with how their runs end, and what they put out.
use Rattle.std.proofs.Common.{List, None, Some, [], negsuc, pos, refl, ◌∷◌, ◌≡◌}
use Rattle.std.specs.Prelude.{codes}
use Rattle.ep_int.specs.Memory.{division, null_pointer, overflow, shift, uninitialised}
use Rattle.ep_int.specs.declared.types.IntType.TheVariants.{I16, I32, U8}
use Rattle.ep_int.specs.declared.types.Model.TheVariants.{Ilp32, Lp64}
use Rattle.ep_int.specs.declared.types.Order.TheVariants.{Big, Little, SwappedWords}
use Rattle.ep_ast.specs.Declaration.{listed, single, to_values}
use Rattle.ep_ast.specs.Expression.{assign, binary, conditional, id, index, post_increment, step, unary}
use Rattle.ep_ast.specs.Mark as mark
use Rattle.ep_ast.specs.Statement.{Item, block, completes, defines, do_loop, evaluate, evaluates, for_loop}
use Rattle.ep_ast.specs.Statement.{functions_by_order, states, to_parts, while_loop}
use Rattle.ep_ast.specs.declared.orders.NamedOrder.TheVariants as named
use Rattle.ep_core.specs.Runs.{ended, still_running, undefined_on, wants_input}
use Rattle.ep_elaboration.proofs.Opened.{puts, ran}
use Rattle.ep_elaboration.proofs.Shared.{extremes}
use Rattle.ep_elaboration.proofs.Trees.{address_of, array, block_at, call_of, declarator, defined, defines_function}
use Rattle.ep_elaboration.proofs.Trees.{does, does_call, field, function, global, head, in_block, init, int_word_at}
use Rattle.ep_elaboration.proofs.Trees.{int_words, local, main_at, member_of, no_params, number, params, pointer}
use Rattle.ep_elaboration.proofs.Trees.{returns, sets, struct_of, struct_words, takes, typedef_words, union_of}
use Rattle.ep_elaboration.proofs.Trees.{union_words, variable, variable_of, zero_at}

-- int main(void) {}
abbrev run_1 : List Item
run_1 =
    main_at 1 [] ∷ []

run_1_ends : (ran Ilp32 Little [] 0 run_1 ≡ Some (ended, (puts I32 (pos 0) ∷ [])))
    × (ran Ilp32 Big [] 0 run_1 ≡ Some (ended, (puts I32 (pos 0) ∷ [])))
unfolding ran
run_1_ends = (refl, refl)

-- int main(void) {{ { int x; } int y; }}
abbrev run_2 : List Item
run_2 =
    main_at 1
    (in_block 1
    (in_block 1 (local 1 (int_words 1) (variable 1 (codes "x")) ∷ []) ∷
    local 1 (int_words 1) (variable 1 (codes "y")) ∷ []) ∷ []) ∷ []

run_2_ends : (ran Ilp32 Little [] 0 run_2 ≡ Some (ended, (puts I32 (pos 0) ∷ [])))
    × (ran Ilp32 Big [] 0 run_2 ≡ Some (ended, (puts I32 (pos 0) ∷ [])))
unfolding ran
run_2_ends = (refl, refl)

-- int main(void) {int i; for (i = 0; i < 2; i++) ; return i;}
abbrev run_3 : List Item
run_3 =
    main_at 1
    (local 1 (int_words 1) (variable 1 (codes "i")) ∷
    states
    (for_loop 1 (evaluates (Some (assign 1 mark.equal (id 1 (codes "i")) (zero_at 1))))
    (Some (binary 1 mark.less (id 1 (codes "i")) (number 1 2))) (Some (post_increment 1 (id 1 (codes "i"))))
    (evaluate 1 None)) ∷
    returns 1 (id 1 (codes "i")) ∷ []) ∷ []

run_3_ends : (ran Ilp32 Little [] 8 run_3 ≡ Some (still_running, []))
    × (ran Ilp32 Big [] 8 run_3 ≡ Some (still_running, []))
    × (ran Ilp32 Little [] 9 run_3 ≡ Some (ended, (puts I32 (pos 2) ∷ [])))
unfolding ran
run_3_ends = (refl, refl, refl)

-- int main(void) {int i = 0; do i++; while (i < 2); ep_out_u8(i);}
abbrev run_4 : List Item
run_4 =
    main_at 1
    (local 1 (int_words 1) (variable_of 1 (codes "i") (zero_at 1)) ∷
    states
    (do_loop 1 (evaluate 1 (Some (post_increment 1 (id 1 (codes "i")))))
    (binary 1 mark.less (id 1 (codes "i")) (number 1 2))) ∷
    does_call 1 (codes "ep_out_u8") (id 1 (codes "i") ∷ []) ∷ []) ∷ []

run_4_ends : (ran Ilp32 Little [] 7 run_4 ≡ Some (ended, (puts U8 (pos 2) ∷ puts I32 (pos 0) ∷ [])))
    × (ran Ilp32 Big [] 7 run_4 ≡ Some (ended, (puts U8 (pos 2) ∷ puts I32 (pos 0) ∷ [])))
    × (ran Ilp32 Little [] 6 run_4 ≡ Some (still_running, []))
unfolding ran
run_4_ends = (refl, refl, refl)

-- int f(int x) { return x + 1; } int main(void) { int y = f(2); ep_out_u8(y); }
abbrev run_5 : List Item
run_5 =
    defines_function 1 (int_words 1) (codes "f") (params 1 (takes 1 (int_word_at 1) (codes "x") ∷ []))
    (returns 1 (binary 1 mark.plus (id 1 (codes "x")) (number 1 1)) ∷ []) ∷
    main_at 1
    (local 1 (int_words 1) (variable_of 1 (codes "y") (call_of 1 (codes "f") (number 1 2 ∷ []))) ∷
    does_call 1 (codes "ep_out_u8") (id 1 (codes "y") ∷ []) ∷ []) ∷ []

run_5_ends : (ran Ilp32 Little [] 3 run_5 ≡ Some (ended, (puts U8 (pos 3) ∷ puts I32 (pos 0) ∷ [])))
    × (ran Ilp32 Big [] 3 run_5 ≡ Some (ended, (puts U8 (pos 3) ∷ puts I32 (pos 0) ∷ [])))
    × (ran Ilp32 Little [] 2 run_5 ≡ Some (still_running, []))
unfolding ran
run_5_ends = (refl, refl, refl)

-- int f(int x) { } int main(void) {
-- int y;
-- y = f(2); }
abbrev run_6 : List Item
run_6 =
    defines_function 1 (int_words 1) (codes "f") (params 1 (takes 1 (int_word_at 1) (codes "x") ∷ [])) [] ∷
    main_at 1
    (local 2 (int_words 2) (variable 2 (codes "y")) ∷
    sets 3 (id 3 (codes "y")) (call_of 3 (codes "f") (number 3 2 ∷ [])) ∷ []) ∷ []

run_6_ends : (ran Ilp32 Little [] 9 run_6 ≡ Some ((undefined_on 3 uninitialised), []))
    × (ran Ilp32 Big [] 9 run_6 ≡ Some ((undefined_on 3 uninitialised), []))
unfolding ran
run_6_ends = (refl, refl)

-- int *f(int x) { return &x; } int main(void) {
-- f(1); }
abbrev run_7 : List Item
run_7 =
    defines
    (function (head 1 (int_words 1) (0 ∷ []) (codes "f") (params 1 (takes 1 (int_word_at 1) (codes "x") ∷ [])))
    (block_at 1 (returns 1 (address_of 1 (codes "x")) ∷ []))) ∷
    main_at 1 (does_call 2 (codes "f") (number 2 1 ∷ []) ∷ []) ∷ []

run_7_ends : (ran Ilp32 Little [] 9 run_7 ≡ Some (ended, (puts I32 (pos 0) ∷ [])))
    × (ran Ilp32 Big [] 9 run_7 ≡ Some (ended, (puts I32 (pos 0) ∷ [])))
unfolding ran
run_7_ends = (refl, refl)

-- #if __BYTE_ORDER__ == __ORDER_LITTLE_ENDIAN__
-- int f(void) { return 1; }
-- #else
-- int f(void) { return 2; }
-- #endif
-- int main(void) { int x = f(); return x; }
abbrev run_8 : List Item
run_8 =
    functions_by_order 1 named.Little
    (defined 2 (int_words 2) (codes "f") (no_params 2) (returns 2 (number 2 1) ∷ []) ∷ [])
    (Some (defined 4 (int_words 4) (codes "f") (no_params 4) (returns 4 (number 4 2) ∷ []) ∷ [])) ∷
    main_at 6
    (local 6 (int_words 6) (variable_of 6 (codes "x") (call_of 6 (codes "f") [])) ∷
    returns 6 (id 6 (codes "x")) ∷ []) ∷ []

run_8_ends : (ran Ilp32 Little [] 4 run_8 ≡ Some (ended, (puts I32 (pos 1) ∷ [])))
    × (ran Ilp32 Big [] 3 run_8 ≡ Some (still_running, []))
unfolding ran
run_8_ends = (refl, refl)

-- struct s { uint8_t a; uint16_t b; }; int main(void) { struct s x = {1}; ep_write(&x, 4); }
abbrev run_9 : List Item
run_9 =
    completes
    (struct_of 1 (codes "s")
    (field 1 (typedef_words 1 (codes "uint8_t")) (codes "a") ∷
    field 1 (typedef_words 1 (codes "uint16_t")) (codes "b") ∷ [])) ∷
    main_at 1
    (local 1 (struct_words 1 (codes "s"))
    (init (declarator 1 [] (codes "x") []) (Some (listed 1 (to_values (single (number 1 1) ∷ [])))) ∷ []) ∷
    does_call 1 (codes "ep_write") (address_of 1 (codes "x") ∷ number 1 4 ∷ []) ∷ []) ∷ []

run_9_ends : (ran Ilp32 Little [] 99 run_9 ≡ Some ((undefined_on 1 uninitialised), (puts U8 (pos 1) ∷ [])))
    × (ran Ilp32 Big [] 99 run_9 ≡ Some ((undefined_on 1 uninitialised), (puts U8 (pos 1) ∷ [])))
unfolding ran
run_9_ends = (refl, refl)

-- union u { uint8_t a; uint32_t b; }; int main(void) { union u x = {1}; ep_out_u8(x.a); ep_out_u32(x.b); }
abbrev run_10 : List Item
run_10 =
    completes
    (union_of 1 (codes "u")
    (field 1 (typedef_words 1 (codes "uint8_t")) (codes "a") ∷
    field 1 (typedef_words 1 (codes "uint32_t")) (codes "b") ∷ [])) ∷
    main_at 1
    (local 1 (union_words 1 (codes "u"))
    (init (declarator 1 [] (codes "x") []) (Some (listed 1 (to_values (single (number 1 1) ∷ [])))) ∷ []) ∷
    does_call 1 (codes "ep_out_u8") (member_of 1 (id 1 (codes "x")) (codes "a") ∷ []) ∷
    does_call 1 (codes "ep_out_u32") (member_of 1 (id 1 (codes "x")) (codes "b") ∷ []) ∷ []) ∷ []

run_10_ends : (ran Ilp32 Little [] 99 run_10 ≡ Some ((undefined_on 1 uninitialised), (puts U8 (pos 1) ∷ [])))
    × (ran Ilp32 Big [] 99 run_10 ≡ Some ((undefined_on 1 uninitialised), (puts U8 (pos 1) ∷ [])))
unfolding ran
run_10_ends = (refl, refl)

-- int main(void) {int x; int *p; p = &x; *p;}
abbrev run_11 : List Item
run_11 =
    main_at 1
    (local 1 (int_words 1) (variable 1 (codes "x")) ∷
    local 1 (int_words 1) (pointer 1 (codes "p")) ∷
    sets 1 (id 1 (codes "p")) (address_of 1 (codes "x")) ∷
    does 1 (unary 1 mark.star (id 1 (codes "p"))) ∷ []) ∷ []

run_11_ends : (ran Ilp32 Little [] 9 run_11 ≡ Some ((undefined_on 1 uninitialised), []))
    × (ran Ilp32 Big [] 9 run_11 ≡ Some ((undefined_on 1 uninitialised), []))
unfolding ran
run_11_ends = (refl, refl)

-- int main(void) {int x; x = 1 || 1 / 0; x = 0 && 1 / 0; x = 1 ? x : 1 / 0; ep_out_u8(x);}
abbrev run_12 : List Item
run_12 =
    main_at 1
    (local 1 (int_words 1) (variable 1 (codes "x")) ∷
    sets 1 (id 1 (codes "x")) (binary 1 mark.bar_bar (number 1 1) (binary 1 mark.slash (number 1 1) (zero_at 1))) ∷
    sets 1 (id 1 (codes "x")) (binary 1 mark.and_and (zero_at 1) (binary 1 mark.slash (number 1 1) (zero_at 1))) ∷
    sets 1 (id 1 (codes "x"))
    (conditional 1 (number 1 1) (id 1 (codes "x")) (binary 1 mark.slash (number 1 1) (zero_at 1))) ∷
    does_call 1 (codes "ep_out_u8") (id 1 (codes "x") ∷ []) ∷ []) ∷ []

run_12_ends : (ran Ilp32 Little [] 9 run_12 ≡ Some (ended, (puts U8 (pos 0) ∷ puts I32 (pos 0) ∷ [])))
    × (ran Ilp32 Big [] 9 run_12 ≡ Some (ended, (puts U8 (pos 0) ∷ puts I32 (pos 0) ∷ [])))
unfolding ran
run_12_ends = (refl, refl)

-- int x = 2147483647, y = -2147483647 - 1;
-- int main(void) { ep_out_i32(x + 1); }
abbrev run_13 : List Item
run_13 =
    extremes ∷
    main_at 2 (does_call 2 (codes "ep_out_i32") (binary 2 mark.plus (id 2 (codes "x")) (number 2 1) ∷ []) ∷ []) ∷ []

run_13_ends : (ran Ilp32 Little [] 9 run_13 ≡ Some ((undefined_on 2 overflow), []))
    × (ran Ilp32 Big [] 9 run_13 ≡ Some ((undefined_on 2 overflow), []))
unfolding ran
run_13_ends = (refl, refl)

-- int x = 2147483647, y = -2147483647 - 1;
-- int main(void) { ep_out_i32(x / 0); }
abbrev run_14 : List Item
run_14 =
    extremes ∷
    main_at 2 (does_call 2 (codes "ep_out_i32") (binary 2 mark.slash (id 2 (codes "x")) (zero_at 2) ∷ []) ∷ []) ∷ []

run_14_ends : (ran Ilp32 Little [] 9 run_14 ≡ Some ((undefined_on 2 division), []))
    × (ran Ilp32 Big [] 9 run_14 ≡ Some ((undefined_on 2 division), []))
unfolding ran
run_14_ends = (refl, refl)

-- int x = 2147483647, y = -2147483647 - 1;
-- int main(void) { ep_out_i32(y % -1); }
abbrev run_15 : List Item
run_15 =
    extremes ∷
    main_at 2
    (does_call 2 (codes "ep_out_i32")
    (binary 2 mark.percent (id 2 (codes "y")) (unary 2 mark.minus (number 2 1)) ∷ []) ∷ []) ∷ []

run_15_ends : (ran Ilp32 Little [] 9 run_15 ≡ Some ((undefined_on 2 division), []))
    × (ran Ilp32 Big [] 9 run_15 ≡ Some ((undefined_on 2 division), []))
unfolding ran
run_15_ends = (refl, refl)

-- int x = 2147483647, y = -2147483647 - 1;
-- int main(void) { ep_out_i32(1 << 32); }
abbrev run_16 : List Item
run_16 =
    extremes ∷
    main_at 2 (does_call 2 (codes "ep_out_i32") (binary 2 mark.left_shift (number 2 1) (number 2 32) ∷ []) ∷ []) ∷ []

run_16_ends : (ran Ilp32 Little [] 9 run_16 ≡ Some ((undefined_on 2 shift), []))
    × (ran Ilp32 Big [] 9 run_16 ≡ Some ((undefined_on 2 shift), []))
unfolding ran
run_16_ends = (refl, refl)

-- int x = 2147483647, y = -2147483647 - 1;
-- int main(void) { ep_out_i32(-1 << 1); }
abbrev run_17 : List Item
run_17 =
    extremes ∷
    main_at 2
    (does_call 2 (codes "ep_out_i32")
    (binary 2 mark.left_shift (unary 2 mark.minus (number 2 1)) (number 2 1) ∷ []) ∷ []) ∷ []

run_17_ends : (ran Ilp32 Little [] 9 run_17 ≡ Some ((undefined_on 2 shift), []))
    × (ran Ilp32 Big [] 9 run_17 ≡ Some ((undefined_on 2 shift), []))
unfolding ran
run_17_ends = (refl, refl)

-- int x = 2147483647, y = -2147483647 - 1;
-- int main(void) { ep_out_i32(x * x); }
abbrev run_18 : List Item
run_18 =
    extremes ∷
    main_at 2
    (does_call 2 (codes "ep_out_i32") (binary 2 mark.star (id 2 (codes "x")) (id 2 (codes "x")) ∷ []) ∷ []) ∷ []

run_18_ends : (ran Ilp32 Little [] 9 run_18 ≡ Some ((undefined_on 2 overflow), []))
    × (ran Ilp32 Big [] 9 run_18 ≡ Some ((undefined_on 2 overflow), []))
unfolding ran
run_18_ends = (refl, refl)

-- int main(void) {int16_t x = 32767; x++; ep_out_i16(x); uint8_t y = 0; --y; ep_out_u8(y);}
abbrev run_19 : List Item
run_19 =
    main_at 1
    (local 1 (typedef_words 1 (codes "int16_t")) (variable_of 1 (codes "x") (number 1 32767)) ∷
    does 1 (post_increment 1 (id 1 (codes "x"))) ∷
    does_call 1 (codes "ep_out_i16") (id 1 (codes "x") ∷ []) ∷
    local 1 (typedef_words 1 (codes "uint8_t")) (variable_of 1 (codes "y") (zero_at 1)) ∷
    does 1 (step 1 mark.minus_minus (id 1 (codes "y"))) ∷
    does_call 1 (codes "ep_out_u8") (id 1 (codes "y") ∷ []) ∷ []) ∷ []

run_19_ends : (ran Ilp32 Little [] 9 run_19 ≡ Some (
  ended,
  (puts I16 (negsuc 32767) ∷ puts U8 (pos 255)
      ∷ puts I32 (pos 0) ∷ []),
))
    × (ran Ilp32 Big [] 9 run_19 ≡ Some (ended, (puts I16 (negsuc 32767) ∷ puts U8 (pos 255) ∷ puts I32 (pos 0) ∷ [])))
unfolding ran
run_19_ends = (refl, refl)

-- int *p; int main(void) {
-- *p = ep_in_u8(); }
abbrev run_20 : List Item
run_20 =
    global 1 (int_words 1) (pointer 1 (codes "p")) ∷
    main_at 1 (sets 2 (unary 2 mark.star (id 2 (codes "p"))) (call_of 2 (codes "ep_in_u8") []) ∷ []) ∷ []

run_20_ends : (ran Ilp32 Little [] 9 run_20 ≡ Some (wants_input, []))
    × (ran Ilp32 Big [] 9 run_20 ≡ Some (wants_input, []))
    × (ran Ilp32 Little (1 ∷ []) 9 run_20 ≡ Some ((undefined_on 2 null_pointer), []))
unfolding ran
run_20_ends = (refl, refl, refl)

-- int a[2]; int f(void) { }
-- int main(void) { a[2] = f(); }
abbrev run_21 : List Item
run_21 =
    global 1 (int_words 1) (array 1 (codes "a") (number 1 2)) ∷
    defines_function 1 (int_words 1) (codes "f") (no_params 1) [] ∷
    main_at 2 (sets 2 (index 2 (id 2 (codes "a")) (number 2 2)) (call_of 2 (codes "f") []) ∷ []) ∷ []

run_21_ends : (ran Ilp32 Little [] 9 run_21 ≡ Some ((undefined_on 2 uninitialised), []))
    × (ran Ilp32 Big [] 9 run_21 ≡ Some ((undefined_on 2 uninitialised), []))
unfolding ran
run_21_ends = (refl, refl)

-- int main(void) {uint8_t a[4]; ep_read(a, 3); ep_write(a, 3);}
abbrev run_22 : List Item
run_22 =
    main_at 1
    (local 1 (typedef_words 1 (codes "uint8_t")) (array 1 (codes "a") (number 1 4)) ∷
    does_call 1 (codes "ep_read") (id 1 (codes "a") ∷ number 1 3 ∷ []) ∷
    does_call 1 (codes "ep_write") (id 1 (codes "a") ∷ number 1 3 ∷ []) ∷ []) ∷ []

run_22_ends : (ran Ilp32 Little (1 ∷ 2 ∷ 259 ∷ []) 6 run_22 ≡ Some (
  ended,
  (puts U8 (pos 1) ∷ puts U8 (pos 2)
      ∷ puts U8 (pos 3) ∷ puts I32 (pos 0) ∷ []),
))
    × (ran Ilp32 Big (1 ∷ 2 ∷ 259 ∷ []) 6 run_22 ≡ Some (
      ended,
      (puts U8 (pos 1) ∷ puts U8 (pos 2)
          ∷ puts U8 (pos 3) ∷ puts I32 (pos 0) ∷ []),
    ))
unfolding ran
run_22_ends = (refl, refl)

-- int main(void) {while (1) { int x; ep_out_u8(x); }}
abbrev run_23 : List Item
run_23 =
    main_at 1
    (states
    (while_loop 1 (number 1 1)
    (block 1
    (to_parts
    (local 1 (int_words 1) (variable 1 (codes "x")) ∷
    does_call 1 (codes "ep_out_u8") (id 1 (codes "x") ∷ []) ∷ [])))) ∷ []) ∷ []

run_23_ends : (ran Ilp32 Little [] 9 run_23 ≡ Some ((undefined_on 1 uninitialised), []))
    × (ran Ilp32 Big [] 9 run_23 ≡ Some ((undefined_on 1 uninitialised), []))
unfolding ran
run_23_ends = (refl, refl)

-- int main(void) {int i = 1;
-- while (
-- 1 / i)
--  i = 0;}
abbrev run_24 : List Item
run_24 =
    main_at 1
    (local 1 (int_words 1) (variable_of 1 (codes "i") (number 1 1)) ∷
    states
    (while_loop 2 (binary 3 mark.slash (number 3 1) (id 3 (codes "i")))
    (evaluate 4 (Some (assign 4 mark.equal (id 4 (codes "i")) (zero_at 4))))) ∷ []) ∷ []

run_24_ends : (ran Ilp32 Little [] 99 run_24 ≡ Some ((undefined_on 2 division), []))
    × (ran Ilp32 Big [] 99 run_24 ≡ Some ((undefined_on 2 division), []))
unfolding ran
run_24_ends = (refl, refl)

-- int main(void) {int
-- x
-- = 1 / 0;}
abbrev run_25 : List Item
run_25 =
    main_at 1
    (local 1 (int_words 1) (variable_of 2 (codes "x") (binary 3 mark.slash (number 3 1) (zero_at 3))) ∷ []) ∷ []

run_25_ends : (ran Ilp32 Little [] 99 run_25 ≡ Some ((undefined_on 2 division), []))
    × (ran Ilp32 Big [] 99 run_25 ≡ Some ((undefined_on 2 division), []))
unfolding ran
run_25_ends = (refl, refl)

-- int main(void) {int x;
-- x
-- =
-- 1 / 0;}
abbrev run_26 : List Item
run_26 =
    main_at 1
    (local 1 (int_words 1) (variable 1 (codes "x")) ∷
    sets 2 (id 2 (codes "x")) (binary 4 mark.slash (number 4 1) (zero_at 4)) ∷ []) ∷ []

run_26_ends : (ran Ilp32 Little [] 99 run_26 ≡ Some ((undefined_on 2 division), []))
    × (ran Ilp32 Big [] 99 run_26 ≡ Some ((undefined_on 2 division), []))
unfolding ran
run_26_ends = (refl, refl)

-- uint8_t b[8];
-- int main(void) {
--   uint8_t i;
--   ep_read(b, 8);
--   i = b[0];
--   while (i != 9) {
--     ep_out_u8(b[i]);
--     i = b[i];
--   }
--   ep_out_u8(i);
-- }
abbrev run_27 : List Item
run_27 =
    global 1 (typedef_words 1 (codes "uint8_t")) (array 1 (codes "b") (number 1 8)) ∷
    main_at 2
    (local 3 (typedef_words 3 (codes "uint8_t")) (variable 3 (codes "i")) ∷
    does_call 4 (codes "ep_read") (id 4 (codes "b") ∷ number 4 8 ∷ []) ∷
    sets 5 (id 5 (codes "i")) (index 5 (id 5 (codes "b")) (zero_at 5)) ∷
    states
    (while_loop 6 (binary 6 mark.not_equal (id 6 (codes "i")) (number 6 9))
    (block 6
    (to_parts
    (does_call 7 (codes "ep_out_u8") (index 7 (id 7 (codes "b")) (id 7 (codes "i")) ∷ []) ∷
    sets 8 (id 8 (codes "i")) (index 8 (id 8 (codes "b")) (id 8 (codes "i"))) ∷ [])))) ∷
    does_call 10 (codes "ep_out_u8") (id 10 (codes "i") ∷ []) ∷ []) ∷ []

run_27_ends : (ran Ilp32 Little (3 ∷ 0 ∷ 9 ∷ 5 ∷ 1 ∷ 7 ∷ 4 ∷ 6 ∷ []) 120 run_27
    ≡ Some (
      still_running,
      (puts U8 (pos 5) ∷ puts U8 (pos 7) ∷ puts U8 (pos 6) ∷ puts U8 (pos 4)
          ∷ puts U8 (pos 1) ∷ puts U8 (pos 0) ∷ puts U8 (pos 3) ∷ puts U8 (pos 5) ∷ puts U8 (pos 7)
          ∷ puts U8 (pos 6) ∷ puts U8 (pos 4) ∷ puts U8 (pos 1) ∷ puts U8 (pos 0) ∷ puts U8 (pos 3)
          ∷ puts U8 (pos 5) ∷ puts U8 (pos 7) ∷ puts U8 (pos 6) ∷ puts U8 (pos 4) ∷ puts U8 (pos 1)
          ∷ puts U8 (pos 0) ∷ puts U8 (pos 3) ∷ puts U8 (pos 5) ∷ puts U8 (pos 7) ∷ puts U8 (pos 6)
          ∷ puts U8 (pos 4) ∷ puts U8 (pos 1) ∷ puts U8 (pos 0) ∷ puts U8 (pos 3) ∷ puts U8 (pos 5)
          ∷ puts U8 (pos 7) ∷ puts U8 (pos 6) ∷ puts U8 (pos 4) ∷ puts U8 (pos 1) ∷ puts U8 (pos 0)
          ∷ puts U8 (pos 3) ∷ puts U8 (pos 5) ∷ puts U8 (pos 7) ∷ []),
    ))
    × (ran Lp64 Little (3 ∷ 0 ∷ 9 ∷ 5 ∷ 1 ∷ 2 ∷ 4 ∷ 6 ∷ []) 20 run_27 ≡ Some (
      ended,
      (puts U8 (pos 5)
          ∷ puts U8 (pos 2) ∷ puts U8 (pos 9) ∷ puts U8 (pos 9) ∷ puts I32 (pos 0) ∷ []),
    ))
    × (ran Ilp32 SwappedWords (3 ∷ 0 ∷ 9 ∷ 5 ∷ 1 ∷ 2 ∷ 4 ∷ 6 ∷ []) 20 run_27 ≡ Some (
      ended,
      (puts U8 (pos 5)
          ∷ puts U8 (pos 2) ∷ puts U8 (pos 9) ∷ puts U8 (pos 9) ∷ puts I32 (pos 0) ∷ []),
    ))
unfolding ran
run_27_ends = (refl, refl, refl)
