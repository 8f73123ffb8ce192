-- Whole programs that are refused for their names.
use Rattle.std.proofs.Common.{None, Some, [], refl, ◌∷◌, ◌≡◌}
use Rattle.std.specs.Prelude.{codes}
use Rattle.ep_int.specs.declared.types.Model.TheVariants.{Ilp32, Lp64}
use Rattle.ep_ast.specs.Declaration.{listed, single, to_values}
use Rattle.ep_ast.specs.Expression.{assign, binary, id, index, unary}
use Rattle.ep_ast.specs.Mark as mark
use Rattle.ep_ast.specs.Statement.{break_loop, completes, functions_by_order, if_then, prototype, states}
use Rattle.ep_ast.specs.declared.orders.NamedOrder.TheVariants.{Little}
use Rattle.ep_elaboration.proofs.Opened.{answers}
use Rattle.ep_elaboration.proofs.Trees.{address_of, array, array_field, call_of, declarator, defined}
use Rattle.ep_elaboration.proofs.Trees.{defines_function, does, does_call, field, global, head, init, int_word_at}
use Rattle.ep_elaboration.proofs.Trees.{int_words, local, main_at, member_of, no_params, number, object, one_word}
use Rattle.ep_elaboration.proofs.Trees.{params, plain_main, pointer, pointer_field, pointer_object, returns, sets}
use Rattle.ep_elaboration.proofs.Trees.{struct_of, struct_words, takes, two_words, typedef_words, union_words}
use Rattle.ep_elaboration.proofs.Trees.{variable, variable_of, void_words, zero_at}

-- names that were not declared before: 30
unknown_names_1 : answers Ilp32 (
    -- int x, *p;
    -- int main(void) {y = 1;}
    (global 1 (int_words 1) (object 1 (codes "x") ∷ pointer_object 1 (codes "p") ∷ []) ∷
    main_at 2 (sets 2 (id 2 (codes "y")) (number 2 1) ∷ []) ∷ []) ∷
    -- int x, *p;
    -- int main(void) {f();}
    (global 1 (int_words 1) (object 1 (codes "x") ∷ pointer_object 1 (codes "p") ∷ []) ∷
    main_at 2 (does_call 2 (codes "f") [] ∷ []) ∷ []) ∷
    -- int x, *p;
    -- int main(void) {p = &y;}
    (global 1 (int_words 1) (object 1 (codes "x") ∷ pointer_object 1 (codes "p") ∷ []) ∷
    main_at 2 (sets 2 (id 2 (codes "p")) (address_of 2 (codes "y")) ∷ []) ∷ []) ∷
    -- int x, *p;
    -- int main(void) {x = abs(1);}
    (global 1 (int_words 1) (object 1 (codes "x") ∷ pointer_object 1 (codes "p") ∷ []) ∷
    main_at 2 (sets 2 (id 2 (codes "x")) (call_of 2 (codes "abs") (number 2 1 ∷ [])) ∷ []) ∷ []) ∷
    -- int x, *p;
    -- int main(void) {INT8_MAX;}
    (global 1 (int_words 1) (object 1 (codes "x") ∷ pointer_object 1 (codes "p") ∷ []) ∷
    main_at 2 (does 2 (id 2 (codes "INT8_MAX")) ∷ []) ∷ []) ∷
    -- #if __BYTE_ORDER__ == __ORDER_LITTLE_ENDIAN__
    -- void g(void) { }
    -- void f(void) { }
    -- #else
    -- void g(void) { f(); }
    -- void f(void) { }
    -- #endif
    -- int main(void) { return 0; }
    (functions_by_order 1 Little
    (defined 2 (void_words 2) (codes "g") (no_params 2) [] ∷ defined 3 (void_words 3) (codes "f") (no_params 3) [] ∷ [])
    (Some
    (defined 5 (void_words 5) (codes "g") (no_params 5) (does_call 5 (codes "f") [] ∷ []) ∷
    defined 6 (void_words 6) (codes "f") (no_params 6) [] ∷ [])) ∷
    plain_main 8 ∷ []) ∷
    -- int main(void) {
    -- x = y = z;}
    (main_at 1 (sets 2 (id 2 (codes "x")) (assign 2 mark.equal (id 2 (codes "y")) (id 2 (codes "z"))) ∷ []) ∷ []) ∷
    -- int x = y;
    -- int a[0];
    -- int main(void) { return 0; }
    (global 1 (int_words 1) (variable_of 1 (codes "x") (id 1 (codes "y"))) ∷
    global 2 (int_words 2) (array 2 (codes "a") (zero_at 2)) ∷
    plain_main 3 ∷ []) ∷
    -- int f(void) { return 1; }
    -- int main(void) {
    -- int x;
    -- x = z + f();
    -- return 0;
    -- }
    (defines_function 1 (int_words 1) (codes "f") (no_params 1) (returns 1 (number 1 1) ∷ []) ∷
    main_at 2
    (local 3 (int_words 3) (variable 3 (codes "x")) ∷
    sets 4 (id 4 (codes "x")) (binary 4 mark.plus (id 4 (codes "z")) (call_of 4 (codes "f") [])) ∷
    returns 5 (zero_at 5) ∷ []) ∷ []) ∷
    -- int main(void) {
    --  x = y;
    --  return z;
    -- }
    (main_at 1 (sets 2 (id 2 (codes "x")) (id 2 (codes "y")) ∷ returns 3 (id 3 (codes "z")) ∷ []) ∷ []) ∷
    [])
    ≡ (30, 2) ∷ (30, 2) ∷ (30, 2) ∷ (30, 2) ∷ (30, 2) ∷ (30, 5) ∷ (30, 2) ∷ (30, 1) ∷ (30, 4) ∷ (30, 2) ∷ []
unfolding answers
unknown_names_1 = refl

-- names that were not declared before: 30
unknown_names_2 : answers Ilp32 (
    -- int main(void) {
    -- int *p;
    -- p = 5 + y;
    -- return 0;
    -- }
    (main_at 1
    (local 2 (int_words 2) (pointer 2 (codes "p")) ∷
    sets 3 (id 3 (codes "p")) (binary 3 mark.plus (number 3 5) (id 3 (codes "y"))) ∷
    returns 4 (zero_at 4) ∷ []) ∷ []) ∷
    -- int x = y;
    -- #if __BYTE_ORDER__ == __ORDER_LITTLE_ENDIAN__
    -- void f(void) { }
    -- #endif
    -- int main(void) { return 0; }
    (global 1 (int_words 1) (variable_of 1 (codes "x") (id 1 (codes "y"))) ∷
    functions_by_order 2 Little (defined 3 (void_words 3) (codes "f") (no_params 3) [] ∷ []) None ∷
    plain_main 5 ∷ []) ∷
    -- void f(int a) { }
    -- int main(void) {
    -- f(1, x);
    -- f();
    -- return 0;
    -- }
    (defines_function 1 (void_words 1) (codes "f") (params 1 (takes 1 (int_word_at 1) (codes "a") ∷ [])) [] ∷
    main_at 2
    (does_call 3 (codes "f") (number 3 1 ∷ id 3 (codes "x") ∷ []) ∷
    does_call 4 (codes "f") [] ∷
    returns 5 (zero_at 5) ∷ []) ∷ []) ∷
    -- struct s { int a; };
    -- int main(void) {
    -- struct s v;
    -- v.a = w.b;
    -- v.c = 1;
    -- return 0;
    -- }
    (completes (struct_of 1 (codes "s") (field 1 (int_words 1) (codes "a") ∷ [])) ∷
    main_at 2
    (local 3 (struct_words 3 (codes "s")) (variable 3 (codes "v")) ∷
    sets 4 (member_of 4 (id 4 (codes "v")) (codes "a")) (member_of 4 (id 4 (codes "w")) (codes "b")) ∷
    sets 5 (member_of 5 (id 5 (codes "v")) (codes "c")) (number 5 1) ∷
    returns 6 (zero_at 6) ∷ []) ∷ []) ∷
    -- int main(void) {
    -- 1 = x;
    -- 2 = 3;
    -- return 0;
    -- }
    (main_at 1
    (sets 2 (number 2 1) (id 2 (codes "x")) ∷ sets 3 (number 3 2) (number 3 3) ∷ returns 4 (zero_at 4) ∷ []) ∷ []) ∷
    -- int main(void) {
    -- uint8_t a[4];
    -- memcpy(a, b, 4);
    -- memcpy(a, a, -1);
    -- return 0;
    -- }
    (main_at 1
    (local 2 (typedef_words 2 (codes "uint8_t")) (array 2 (codes "a") (number 2 4)) ∷
    does_call 3 (codes "memcpy") (id 3 (codes "a") ∷ id 3 (codes "b") ∷ number 3 4 ∷ []) ∷
    does_call 4 (codes "memcpy") (id 4 (codes "a") ∷ id 4 (codes "a") ∷ unary 4 mark.minus (number 4 1) ∷ []) ∷
    returns 5 (zero_at 5) ∷ []) ∷ []) ∷
    -- int a[2] = {1, b};
    -- int y = a[0];
    -- int main(void) { return 0; }
    (global 1 (int_words 1)
    (init (declarator 1 [] (codes "a") (Some (number 1 2) ∷ []))
    (Some (listed 1 (to_values (single (number 1 1) ∷ single (id 1 (codes "b")) ∷ [])))) ∷ []) ∷
    global 2 (int_words 2) (variable_of 2 (codes "y") (index 2 (id 2 (codes "a")) (zero_at 2))) ∷
    plain_main 3 ∷ []) ∷
    -- int main(void) {
    -- if (x) break;
    -- return 0;
    -- }
    (main_at 1 (states (if_then 2 (id 2 (codes "x")) (break_loop 2)) ∷ returns 3 (zero_at 3) ∷ []) ∷ []) ∷
    -- int b = c;
    -- int a[65536];
    -- int main(void) { return 0; }
    (global 1 (int_words 1) (variable_of 1 (codes "b") (id 1 (codes "c"))) ∷
    global 2 (int_words 2) (array 2 (codes "a") (number 2 65536)) ∷
    plain_main 3 ∷ []) ∷
    [])
    ≡ (30, 3) ∷ (30, 1) ∷ (30, 3) ∷ (30, 4) ∷ (30, 2) ∷ (30, 3) ∷ (30, 1) ∷ (30, 2) ∷ (30, 1) ∷ []
unfolding answers
unknown_names_2 = refl

-- declared twice, or unlike the first declaration: 31
redeclared_1 : answers Ilp32 (
    -- int x;
    -- int x(void);int main(void) { return 0; }
    (global 1 (int_words 1) (variable 1 (codes "x")) ∷
    prototype (head 2 (int_words 2) [] (codes "x") (no_params 2)) ∷
    plain_main 2 ∷ []) ∷
    -- struct s { int a; int *a; };int main(void) { return 0; }
    (completes
    (struct_of 1 (codes "s") (field 1 (int_words 1) (codes "a") ∷ pointer_field 1 (int_words 1) (codes "a") ∷ [])) ∷
    plain_main 1 ∷ []) ∷
    -- struct s { int a; };
    -- union s *p;int main(void) { return 0; }
    (completes (struct_of 1 (codes "s") (field 1 (int_words 1) (codes "a") ∷ [])) ∷
    global 2 (union_words 2 (codes "s")) (pointer 2 (codes "p")) ∷
    plain_main 2 ∷ []) ∷
    -- int NULL;int main(void) { return 0; }
    (global 1 (int_words 1) (variable 1 (codes "NULL")) ∷ plain_main 1 ∷ []) ∷
    -- int f(int NULL);int main(void) { return 0; }
    (prototype (head 1 (int_words 1) [] (codes "f") (params 1 (takes 1 (int_word_at 1) (codes "NULL") ∷ []))) ∷
    plain_main 1 ∷ []) ∷
    -- int memcpy;int main(void) { return 0; }
    (global 1 (int_words 1) (variable 1 (codes "memcpy")) ∷ plain_main 1 ∷ []) ∷
    -- int f(int memcpy);int main(void) { return 0; }
    (prototype (head 1 (int_words 1) [] (codes "f") (params 1 (takes 1 (int_word_at 1) (codes "memcpy") ∷ []))) ∷
    plain_main 1 ∷ []) ∷
    -- int ep_in_u8;int main(void) { return 0; }
    (global 1 (int_words 1) (variable 1 (codes "ep_in_u8")) ∷ plain_main 1 ∷ []) ∷
    -- int f(int ep_in_u8);int main(void) { return 0; }
    (prototype (head 1 (int_words 1) [] (codes "f") (params 1 (takes 1 (int_word_at 1) (codes "ep_in_u8") ∷ []))) ∷
    plain_main 1 ∷ []) ∷
    -- int ep_write;int main(void) { return 0; }
    (global 1 (int_words 1) (variable 1 (codes "ep_write")) ∷ plain_main 1 ∷ []) ∷
    [])
    ≡ (31, 2) ∷ (31, 1) ∷ (31, 2) ∷ (31, 1) ∷ (31, 1) ∷ (31, 1) ∷ (31, 1) ∷ (31, 1) ∷ (31, 1) ∷ (31, 1) ∷ []
unfolding answers
redeclared_1 = refl

-- declared twice, or unlike the first declaration: 31
redeclared_2 : answers Ilp32 (
    -- int f(int ep_write);int main(void) { return 0; }
    (prototype (head 1 (int_words 1) [] (codes "f") (params 1 (takes 1 (int_word_at 1) (codes "ep_write") ∷ []))) ∷
    plain_main 1 ∷ []) ∷
    -- int main(void) { int x; int x; }
    (main_at 1
    (local 1 (int_words 1) (variable 1 (codes "x")) ∷ local 1 (int_words 1) (variable 1 (codes "x")) ∷ []) ∷ []) ∷
    -- int x; int x;
    (global 1 (int_words 1) (variable 1 (codes "x")) ∷ global 1 (int_words 1) (variable 1 (codes "x")) ∷ []) ∷
    -- #if __BYTE_ORDER__ == __ORDER_LITTLE_ENDIAN__
    -- int f(int a) { return a; }
    -- int f(int a) { return a; }
    -- #else
    -- int f(int a) { return a; }
    -- int f(int a) { return a; }
    -- #endif
    -- int main(void) { return 0; }
    (functions_by_order 1 Little
    (defined 2 (int_words 2) (codes "f") (params 2 (takes 2 (int_word_at 2) (codes "a") ∷ []))
    (returns 2 (id 2 (codes "a")) ∷ []) ∷
    defined 3 (int_words 3) (codes "f") (params 3 (takes 3 (int_word_at 3) (codes "a") ∷ []))
    (returns 3 (id 3 (codes "a")) ∷ []) ∷ [])
    (Some
    (defined 5 (int_words 5) (codes "f") (params 5 (takes 5 (int_word_at 5) (codes "a") ∷ []))
    (returns 5 (id 5 (codes "a")) ∷ []) ∷
    defined 6 (int_words 6) (codes "f") (params 6 (takes 6 (int_word_at 6) (codes "a") ∷ []))
    (returns 6 (id 6 (codes "a")) ∷ []) ∷ [])) ∷
    plain_main 8 ∷ []) ∷
    -- int f(int a, int a) { return b; }
    -- int main(void) { return 0; }
    (defines_function 1 (int_words 1) (codes "f")
    (params 1 (takes 1 (int_word_at 1) (codes "a") ∷ takes 1 (int_word_at 1) (codes "a") ∷ []))
    (returns 1 (id 1 (codes "b")) ∷ []) ∷
    plain_main 2 ∷ []) ∷
    -- struct s { int a; };
    -- struct s { int b[0]; };
    -- int main(void) { return 0; }
    (completes (struct_of 1 (codes "s") (field 1 (int_words 1) (codes "a") ∷ [])) ∷
    completes (struct_of 2 (codes "s") (array_field 2 (int_words 2) (codes "b") (zero_at 2) ∷ [])) ∷
    plain_main 3 ∷ []) ∷
    -- int x;
    -- int x = y;
    -- int main(void) { return 0; }
    (global 1 (int_words 1) (variable 1 (codes "x")) ∷
    global 2 (int_words 2) (variable_of 2 (codes "x") (id 2 (codes "y"))) ∷
    plain_main 3 ∷ []) ∷
    -- int f(void) { return 1; }
    -- int f(void) { return z; }
    -- int main(void) { return 0; }
    (defines_function 1 (int_words 1) (codes "f") (no_params 1) (returns 1 (number 1 1) ∷ []) ∷
    defines_function 2 (int_words 2) (codes "f") (no_params 2) (returns 2 (id 2 (codes "z")) ∷ []) ∷
    plain_main 3 ∷ []) ∷
    [])
    ≡ (31, 1) ∷ (31, 1) ∷ (31, 1) ∷ (31, 3) ∷ (31, 1) ∷ (31, 2) ∷ (31, 2) ∷ (31, 2) ∷ []
unfolding answers
redeclared_2 = refl

-- declared twice, or unlike the first declaration: 31
redeclared_with_long_of_64_bits : answers Lp64 (
    -- long a = 1;
    -- long long a = 2;
    -- int main(void) { return 0; }
    (global 1 (one_word 1 mark.long_word) (variable_of 1 (codes "a") (number 1 1)) ∷
    global 2 (two_words 2 mark.long_word mark.long_word) (variable_of 2 (codes "a") (number 2 2)) ∷
    plain_main 3 ∷ []) ∷
    [])
    ≡ (31, 2) ∷ []
unfolding answers
redeclared_with_long_of_64_bits = refl
