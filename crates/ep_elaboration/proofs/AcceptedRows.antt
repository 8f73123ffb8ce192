-- Whole programs that mean well-formed ones.
use Rattle.std.proofs.Common.{None, Some, [], false, refl, true, ◌∷◌, ◌≡◌}
use Rattle.std.specs.Prelude.{codes}
use Rattle.ep_int.specs.declared.types.Model.TheVariants.{Ilp32}
use Rattle.ep_ast.specs.Declaration.{aggregate, body, plain, single, to_members}
use Rattle.ep_ast.specs.Expression.{arrow, assign, binary, cast, conditional, id, index, post_decrement}
use Rattle.ep_ast.specs.Expression.{post_increment, sizeof_expr, sizeof_type, step, unary, word}
use Rattle.ep_ast.specs.Mark as mark
use Rattle.ep_ast.specs.Statement.{block, break_loop, completes, continue_loop, do_loop, evaluate, evaluates}
use Rattle.ep_ast.specs.Statement.{for_loop, functions_by_order, if_else, prototype, states, to_parts, typedefs}
use Rattle.ep_ast.specs.Statement.{while_loop}
use Rattle.ep_ast.specs.declared.orders.NamedOrder.TheVariants.{Big, Little}
use Rattle.ep_elaboration.proofs.Opened.{all_sound}
use Rattle.ep_elaboration.proofs.Shared.{behind_deep_functions, in_main}
use Rattle.ep_elaboration.proofs.Trees.{members_of}
use Rattle.ep_elaboration.proofs.Trees.{address_of, array, array_field, call_of, char_word_at, char_words, declarator}
use Rattle.ep_elaboration.proofs.Trees.{defined, defines_function, does, does_call, field, global, head, ifs}
use Rattle.ep_elaboration.proofs.Trees.{in_block, init, int_word_at, int_words, literal, local, long_word_at, main_at}
use Rattle.ep_elaboration.proofs.Trees.{no_params, number, one_word, param, params, plain_main, pointer_field}
use Rattle.ep_elaboration.proofs.Trees.{returns, sets, struct_at, struct_of, struct_words, takes, takes_pointer}
use Rattle.ep_elaboration.proofs.Trees.{tildes, two_words, type_name, typedef, typedef_words, variable, variable_of}
use Rattle.ep_elaboration.proofs.Trees.{void_word_at, zero_at}

-- these mean well-formed programs
sound_1 : all_sound Ilp32 (
    -- int main(void) { return 0; }
    -- // end
    (plain_main 1 ∷ []) ∷
    -- long long a = 1U;int main(void) { return 0; }
    (global 1 (two_words 1 mark.long_word mark.long_word) (variable_of 1 (codes "a") (literal 1 1 true true 0)) ∷
    plain_main 1 ∷ []) ∷
    -- long long a = 1L;int main(void) { return 0; }
    (global 1 (two_words 1 mark.long_word mark.long_word) (variable_of 1 (codes "a") (literal 1 1 true false 1)) ∷
    plain_main 1 ∷ []) ∷
    -- long long a = 1LL;int main(void) { return 0; }
    (global 1 (two_words 1 mark.long_word mark.long_word) (variable_of 1 (codes "a") (literal 1 1 true false 2)) ∷
    plain_main 1 ∷ []) ∷
    -- long long a = 1uLL;int main(void) { return 0; }
    (global 1 (two_words 1 mark.long_word mark.long_word) (variable_of 1 (codes "a") (literal 1 1 true true 2)) ∷
    plain_main 1 ∷ []) ∷
    -- long long a = 1LLU;int main(void) { return 0; }
    (global 1 (two_words 1 mark.long_word mark.long_word) (variable_of 1 (codes "a") (literal 1 1 true true 2)) ∷
    plain_main 1 ∷ []) ∷
    -- long long a = 00;int main(void) { return 0; }
    (global 1 (two_words 1 mark.long_word mark.long_word) (variable_of 1 (codes "a") (zero_at 1)) ∷ plain_main 1 ∷ []) ∷
    -- long long a = 18446744073709551615u;int main(void) { return 0; }
    (global 1 (two_words 1 mark.long_word mark.long_word)
    (variable_of 1 (codes "a") (literal 1 18446744073709551615 true true 0)) ∷
    plain_main 1 ∷ []) ∷
    [])
    ≡ true
unfolding all_sound
sound_1 = refl

-- these mean well-formed programs
sound_2 : all_sound Ilp32 (
    -- long long a = 0xFFFFFFFFFFFFFFFF;int main(void) { return 0; }
    (global 1 (two_words 1 mark.long_word mark.long_word)
    (variable_of 1 (codes "a") (literal 1 18446744073709551615 false false 0)) ∷
    plain_main 1 ∷ []) ∷
    -- long long a = '"';int main(void) { return 0; }
    (global 1 (two_words 1 mark.long_word mark.long_word) (variable_of 1 (codes "a") (number 1 34)) ∷
    plain_main 1 ∷ []) ∷
    -- long long a = '\?';int main(void) { return 0; }
    (global 1 (two_words 1 mark.long_word mark.long_word) (variable_of 1 (codes "a") (number 1 63)) ∷
    plain_main 1 ∷ []) ∷
    -- #define A 1
    -- #define B A
    -- int x[B];
    -- int main(void) { return 0; }
    (global 3 (int_words 3) (array 3 (codes "x") (number 3 1)) ∷ plain_main 4 ∷ []) ∷
    -- #define NULL 0
    -- #define memcpy 1
    -- int x[memcpy]; int *p = NULL;
    -- int main(void) { return 0; }
    (global 3 (int_words 3) (array 3 (codes "x") (number 3 1)) ∷
    global 3 (int_words 3) (init (declarator 3 (0 ∷ []) (codes "p") []) (Some (single (zero_at 3))) ∷ []) ∷
    plain_main 4 ∷ []) ∷
    -- #if __BYTE_ORDER__ == __ORDER_LITTLE_ENDIAN__
    -- #endif
    -- int main(void) { return 0; }
    (functions_by_order 1 Little [] None ∷ plain_main 3 ∷ []) ∷
    -- long unsigned a; int short unsigned b; long int long c; char signed d; int const f;int main(void) { return 0;
    -- }
    (global 1 (two_words 1 mark.long_word mark.unsigned_word) (variable 1 (codes "a")) ∷
    global 1 (plain (word 1 mark.int_word) ∷ plain (word 1 mark.short_word) ∷ plain (word 1 mark.unsigned_word) ∷ [])
    (variable 1 (codes "b")) ∷
    global 1 (plain (word 1 mark.long_word) ∷ plain (word 1 mark.int_word) ∷ plain (word 1 mark.long_word) ∷ [])
    (variable 1 (codes "c")) ∷
    global 1 (two_words 1 mark.char_word mark.signed_word) (variable 1 (codes "d")) ∷
    global 1 (two_words 1 mark.int_word mark.const_word) (variable 1 (codes "f")) ∷
    plain_main 1 ∷ []) ∷
    -- int f(int); int f(int q) { return q; }int main(void) { return 0; }
    (prototype (head 1 (int_words 1) [] (codes "f") (params 1 (param 1 (int_word_at 1) [] None [] ∷ []))) ∷
    defines_function 1 (int_words 1) (codes "f") (params 1 (takes 1 (int_word_at 1) (codes "q") ∷ []))
    (returns 1 (id 1 (codes "q")) ∷ []) ∷
    plain_main 1 ∷ []) ∷
    [])
    ≡ true
unfolding all_sound
sound_2 = refl

-- these mean well-formed programs
sound_3 : all_sound Ilp32 (
    -- int f(int a) { { int a; } return 0; }int main(void) { return 0; }
    (defines_function 1 (int_words 1) (codes "f") (params 1 (takes 1 (int_word_at 1) (codes "a") ∷ []))
    (in_block 1 (local 1 (int_words 1) (variable 1 (codes "a")) ∷ []) ∷ returns 1 (zero_at 1) ∷ []) ∷
    plain_main 1 ∷ []) ∷
    -- int f(int a); int f(long b); int f(const int c) { return c; } int f(int);int main(void) { return 0; }
    (prototype (head 1 (int_words 1) [] (codes "f") (params 1 (takes 1 (int_word_at 1) (codes "a") ∷ []))) ∷
    prototype (head 1 (int_words 1) [] (codes "f") (params 1 (takes 1 (long_word_at 1) (codes "b") ∷ []))) ∷
    defines_function 1 (int_words 1) (codes "f")
    (params 1 (takes 1 (word 1 mark.const_word ∷ word 1 mark.int_word ∷ []) (codes "c") ∷ []))
    (returns 1 (id 1 (codes "c")) ∷ []) ∷
    prototype (head 1 (int_words 1) [] (codes "f") (params 1 (param 1 (int_word_at 1) [] None [] ∷ []))) ∷
    plain_main 1 ∷ []) ∷
    -- int main(void) {vp = &*vp; o = &*o;}
    in_main
    (sets 2 (id 2 (codes "vp")) (unary 2 mark.ampersand (unary 2 mark.star (id 2 (codes "vp")))) ∷
    sets 2 (id 2 (codes "o")) (unary 2 mark.ampersand (unary 2 mark.star (id 2 (codes "o")))) ∷ []) ∷
    -- struct a { struct b *p; }; struct b { struct a *p; int v; } b; int f(struct a *x) { return x->p->v; }int
    -- main(void) { return 0; }
    (completes (struct_of 1 (codes "a") (pointer_field 1 (struct_words 1 (codes "b")) (codes "p") ∷ [])) ∷
    global 1
    (body
    (struct_of 1 (codes "b")
    (pointer_field 1 (struct_words 1 (codes "a")) (codes "p") ∷ field 1 (int_words 1) (codes "v") ∷ [])) ∷ [])
    (variable 1 (codes "b")) ∷
    defines_function 1 (int_words 1) (codes "f") (params 1 (takes_pointer 1 (struct_at 1 (codes "a")) (codes "x") ∷ []))
    (returns 1 (arrow 1 (arrow 1 (id 1 (codes "x")) (codes "p")) (codes "v")) ∷ []) ∷
    plain_main 1 ∷ []) ∷
    -- int main(void) {p = vp; vp = p; vp = o; p == vp; vp != sp; p == 0; 0 != p; NULL == p; NULL == 0; p = 1 ? p :
    -- 0; p = 1 ? vp : p; p = 1 ? NULL : NULL; p = (int *)cp; p = 0; p = (0); p = '\0'; p = 0x0; p = 0ul; sp = (void
    -- *)0; p = (int *)0; cp = vp; cp = (signed char *)cp; long *lp = p; p = fp(); vp = fp(); cp = (char *)&s;}
    in_main
    (sets 2 (id 2 (codes "p")) (id 2 (codes "vp")) ∷
    sets 2 (id 2 (codes "vp")) (id 2 (codes "p")) ∷
    sets 2 (id 2 (codes "vp")) (id 2 (codes "o")) ∷
    does 2 (binary 2 mark.equal_equal (id 2 (codes "p")) (id 2 (codes "vp"))) ∷
    does 2 (binary 2 mark.not_equal (id 2 (codes "vp")) (id 2 (codes "sp"))) ∷
    does 2 (binary 2 mark.equal_equal (id 2 (codes "p")) (zero_at 2)) ∷
    does 2 (binary 2 mark.not_equal (zero_at 2) (id 2 (codes "p"))) ∷
    does 2 (binary 2 mark.equal_equal (id 2 (codes "NULL")) (id 2 (codes "p"))) ∷
    does 2 (binary 2 mark.equal_equal (id 2 (codes "NULL")) (zero_at 2)) ∷
    sets 2 (id 2 (codes "p")) (conditional 2 (number 2 1) (id 2 (codes "p")) (zero_at 2)) ∷
    sets 2 (id 2 (codes "p")) (conditional 2 (number 2 1) (id 2 (codes "vp")) (id 2 (codes "p"))) ∷
    sets 2 (id 2 (codes "p")) (conditional 2 (number 2 1) (id 2 (codes "NULL")) (id 2 (codes "NULL"))) ∷
    sets 2 (id 2 (codes "p")) (cast 2 (type_name 2 (int_word_at 2) (0 ∷ [])) (id 2 (codes "cp"))) ∷
    sets 2 (id 2 (codes "p")) (zero_at 2) ∷
    sets 2 (id 2 (codes "p")) (zero_at 2) ∷
    sets 2 (id 2 (codes "p")) (number 2 0) ∷
    sets 2 (id 2 (codes "p")) (zero_at 2) ∷
    sets 2 (id 2 (codes "p")) (literal 2 0 false true 1) ∷
    sets 2 (id 2 (codes "sp")) (cast 2 (type_name 2 (void_word_at 2) (0 ∷ [])) (zero_at 2)) ∷
    sets 2 (id 2 (codes "p")) (cast 2 (type_name 2 (int_word_at 2) (0 ∷ [])) (zero_at 2)) ∷
    sets 2 (id 2 (codes "cp")) (id 2 (codes "vp")) ∷
    sets 2 (id 2 (codes "cp"))
    (cast 2 (type_name 2 (word 2 mark.signed_word ∷ word 2 mark.char_word ∷ []) (0 ∷ [])) (id 2 (codes "cp"))) ∷
    local 2 (one_word 2 mark.long_word)
    (init (declarator 2 (0 ∷ []) (codes "lp") []) (Some (single (id 2 (codes "p")))) ∷ []) ∷
    sets 2 (id 2 (codes "p")) (call_of 2 (codes "fp") []) ∷
    sets 2 (id 2 (codes "vp")) (call_of 2 (codes "fp") []) ∷
    sets 2 (id 2 (codes "cp")) (cast 2 (type_name 2 (char_word_at 2) (0 ∷ [])) (address_of 2 (codes "s"))) ∷ []) ∷
    -- int main(void) {ep_write(a, sizeof a); ep_read(&x, 1 + 1 + 2); memset(a, 0, 1 ? 16 : 1 / 0); memcpy(a, m,
    -- sizeof(int) * 4); memcpy(vp, sp, 1); memset(0, q, 1); ep_read(NULL, 3);}
    in_main
    (does_call 2 (codes "ep_write") (id 2 (codes "a") ∷ sizeof_expr 2 (id 2 (codes "a")) ∷ []) ∷
    does_call 2 (codes "ep_read")
    (address_of 2 (codes "x") ∷ binary 2 mark.plus (binary 2 mark.plus (number 2 1) (number 2 1)) (number 2 2) ∷ []) ∷
    does_call 2 (codes "memset")
    (id 2 (codes "a") ∷
    zero_at 2 ∷
    conditional 2 (number 2 1) (number 2 16) (binary 2 mark.slash (number 2 1) (zero_at 2)) ∷ []) ∷
    does_call 2 (codes "memcpy")
    (id 2 (codes "a") ∷
    id 2 (codes "m") ∷
    binary 2 mark.star (sizeof_type 2 (type_name 2 (int_word_at 2) [])) (number 2 4) ∷ []) ∷
    does_call 2 (codes "memcpy") (id 2 (codes "vp") ∷ id 2 (codes "sp") ∷ number 2 1 ∷ []) ∷
    does_call 2 (codes "memset") (zero_at 2 ∷ id 2 (codes "q") ∷ number 2 1 ∷ []) ∷
    does_call 2 (codes "ep_read") (id 2 (codes "NULL") ∷ number 2 3 ∷ []) ∷ []) ∷
    -- int main(void) {x = (f1(1)); (f1(1)); f0(); int y = f1(1); (x) = f1(2); a[x] = ep_in_u8(); ep_in_u8(); uint8_t
    -- z = ep_in_u64();}
    in_main
    (sets 2 (id 2 (codes "x")) (call_of 2 (codes "f1") (number 2 1 ∷ [])) ∷
    does_call 2 (codes "f1") (number 2 1 ∷ []) ∷
    does_call 2 (codes "f0") [] ∷
    local 2 (int_words 2) (variable_of 2 (codes "y") (call_of 2 (codes "f1") (number 2 1 ∷ []))) ∷
    sets 2 (id 2 (codes "x")) (call_of 2 (codes "f1") (number 2 2 ∷ [])) ∷
    sets 2 (index 2 (id 2 (codes "a")) (id 2 (codes "x"))) (call_of 2 (codes "ep_in_u8") []) ∷
    does_call 2 (codes "ep_in_u8") [] ∷
    local 2 (typedef_words 2 (codes "uint8_t")) (variable_of 2 (codes "z") (call_of 2 (codes "ep_in_u64") [])) ∷ []) ∷
    -- int main(void) {(x = 1); (x)++; for (x = 1; x; x++) ; for (x++; ; ) break; for (*p = 1; 0; s = s2) ; for (x;
    -- x; x) ; for (;;) break; ++*p; (*p)++; a[0] += 1; sp->a--; c <<= 2; cp -= 1;}
    in_main
    (sets 2 (id 2 (codes "x")) (number 2 1) ∷
    does 2 (post_increment 2 (id 2 (codes "x"))) ∷
    states
    (for_loop 2 (evaluates (Some (assign 2 mark.equal (id 2 (codes "x")) (number 2 1)))) (Some (id 2 (codes "x")))
    (Some (post_increment 2 (id 2 (codes "x")))) (evaluate 2 None)) ∷
    states (for_loop 2 (evaluates (Some (post_increment 2 (id 2 (codes "x"))))) None None (break_loop 2)) ∷
    states
    (for_loop 2 (evaluates (Some (assign 2 mark.equal (unary 2 mark.star (id 2 (codes "p"))) (number 2 1))))
    (Some (zero_at 2)) (Some (assign 2 mark.equal (id 2 (codes "s")) (id 2 (codes "s2")))) (evaluate 2 None)) ∷
    states
    (for_loop 2 (evaluates (Some (id 2 (codes "x")))) (Some (id 2 (codes "x"))) (Some (id 2 (codes "x")))
    (evaluate 2 None)) ∷
    states (for_loop 2 (evaluates None) None None (break_loop 2)) ∷
    does 2 (step 2 mark.plus_plus (unary 2 mark.star (id 2 (codes "p")))) ∷
    does 2 (post_increment 2 (unary 2 mark.star (id 2 (codes "p")))) ∷
    does 2 (assign 2 mark.plus_equal (index 2 (id 2 (codes "a")) (zero_at 2)) (number 2 1)) ∷
    does 2 (post_decrement 2 (arrow 2 (id 2 (codes "sp")) (codes "a"))) ∷
    does 2 (assign 2 mark.left_shift_equal (id 2 (codes "c")) (number 2 2)) ∷
    does 2 (assign 2 mark.minus_equal (id 2 (codes "cp")) (number 2 1)) ∷ []) ∷
    [])
    ≡ true
unfolding all_sound
sound_3 = refl

-- these mean well-formed programs
sound_4 : all_sound Ilp32 (
    -- int main(void) {while (1) { if (1) break; else continue; } do { break; } while (1);}
    in_main
    (states
    (while_loop 2 (number 2 1)
    (block 2 (to_parts (states (if_else 2 (number 2 1) (break_loop 2) (continue_loop 2)) ∷ [])))) ∷
    states (do_loop 2 (block 2 (to_parts (states (break_loop 2) ∷ []))) (number 2 1)) ∷ []) ∷
    -- int f(int a[], int b[][3], int c[65536]) { return b[1][2] + a[0] + c[9]; }int main(void) { return 0; }
    (defines_function 1 (int_words 1) (codes "f")
    (params 1
    (param 1 (int_word_at 1) [] (Some (codes "a")) (None ∷ []) ∷
    param 1 (int_word_at 1) [] (Some (codes "b")) (None ∷ Some (number 1 3) ∷ []) ∷
    param 1 (int_word_at 1) [] (Some (codes "c")) (Some (number 1 65536) ∷ []) ∷ []))
    (returns 1
    (binary 1 mark.plus
    (binary 1 mark.plus (index 1 (index 1 (id 1 (codes "b")) (number 1 1)) (number 1 2))
    (index 1 (id 1 (codes "a")) (zero_at 1)))
    (index 1 (id 1 (codes "c")) (number 1 9))) ∷ []) ∷
    plain_main 1 ∷ []) ∷
    -- int f(void);int main(void) { return 0; }
    (prototype (head 1 (int_words 1) [] (codes "f") (no_params 1)) ∷ plain_main 1 ∷ []) ∷
    -- struct s { char a[65536]; };int main(void) { return 0; }
    (completes (struct_of 1 (codes "s") (array_field 1 (char_words 1) (codes "a") (number 1 65536) ∷ [])) ∷
    plain_main 1 ∷ []) ∷
    -- int f(int);
    -- #if __BYTE_ORDER__ == __ORDER_BIG_ENDIAN__
    -- int f(int a) { return a; }
    -- int g(int a) { int r; r = f(a); return r; }
    -- #else
    -- int f(long a) { int b = a; return b; }
    -- int g(int a) { return 1; }
    -- #endif
    -- int main(void) { int r; r = g(2); return r; }
    (prototype (head 1 (int_words 1) [] (codes "f") (params 1 (param 1 (int_word_at 1) [] None [] ∷ []))) ∷
    functions_by_order 2 Big
    (defined 3 (int_words 3) (codes "f") (params 3 (takes 3 (int_word_at 3) (codes "a") ∷ []))
    (returns 3 (id 3 (codes "a")) ∷ []) ∷
    defined 4 (int_words 4) (codes "g") (params 4 (takes 4 (int_word_at 4) (codes "a") ∷ []))
    (local 4 (int_words 4) (variable 4 (codes "r")) ∷
    sets 4 (id 4 (codes "r")) (call_of 4 (codes "f") (id 4 (codes "a") ∷ [])) ∷
    returns 4 (id 4 (codes "r")) ∷ []) ∷ [])
    (Some
    (defined 6 (int_words 6) (codes "f") (params 6 (takes 6 (long_word_at 6) (codes "a") ∷ []))
    (local 6 (int_words 6) (variable_of 6 (codes "b") (id 6 (codes "a"))) ∷ returns 6 (id 6 (codes "b")) ∷ []) ∷
    defined 7 (int_words 7) (codes "g") (params 7 (takes 7 (int_word_at 7) (codes "a") ∷ []))
    (returns 7 (number 7 1) ∷ []) ∷ [])) ∷
    main_at 9
    (local 9 (int_words 9) (variable 9 (codes "r")) ∷
    sets 9 (id 9 (codes "r")) (call_of 9 (codes "g") (number 9 2 ∷ [])) ∷
    returns 9 (id 9 (codes "r")) ∷ []) ∷ []) ∷
    -- struct a { char c; short s; char d; int i; }; union { uint8_t b[9]; long w; } u; typedef struct { struct {
    -- int64_t q; char z; } in; struct a *p[2]; } t;int main(void) { return 0; }
    (completes
    (struct_of 1 (codes "a")
    (field 1 (char_words 1) (codes "c") ∷
    field 1 (one_word 1 mark.short_word) (codes "s") ∷
    field 1 (char_words 1) (codes "d") ∷
    field 1 (int_words 1) (codes "i") ∷ [])) ∷
    global 1
    (body
    (aggregate 1 mark.union_word None
    (to_members
    (array_field 1 (typedef_words 1 (codes "uint8_t")) (codes "b") (number 1 9) ∷
    field 1 (one_word 1 mark.long_word) (codes "w") ∷ []))) ∷ [])
    (variable 1 (codes "u")) ∷
    typedefs
    (typedef 1
    (body
    (aggregate 1 mark.struct_word None
    (to_members
    (field 1
    (body
    (aggregate 1 mark.struct_word None
    (to_members
    (field 1 (typedef_words 1 (codes "int64_t")) (codes "q") ∷ field 1 (char_words 1) (codes "z") ∷ []))) ∷ [])
    (codes "in") ∷
    members_of 1 (struct_words 1 (codes "a"))
    (declarator 1 (0 ∷ []) (codes "p") (Some (number 1 2) ∷ []) ∷ []) ∷ []))) ∷ [])
    (declarator 1 [] (codes "t") [] ∷ [])) ∷
    plain_main 1 ∷ []) ∷
    -- int x = ~*64 1;
    -- int main(void) { return 0; }
    (global 1 (int_words 1) (variable_of 1 (codes "x") (tildes 64 1 (number 1 1))) ∷ plain_main 2 ∷ []) ∷
    -- void f1(void) { if (1) *59 ; }
    -- void f2(void) { if (1) *59 f1(); }
    -- void f3(void) { if (1) *59 f2(); }
    -- void f4(void) { if (1) *59 f3(); }
    -- void f5(void) { if (1) *59 f4(); }
    -- int main(void) { if (1) *15 f4(); return 0; }
    behind_deep_functions
    (main_at 6 (states (ifs 15 6 (evaluate 6 (Some (call_of 6 (codes "f4") [])))) ∷ returns 6 (zero_at 6) ∷ []) ∷ []) ∷
    [])
    ≡ true
unfolding all_sound
sound_4 = refl
