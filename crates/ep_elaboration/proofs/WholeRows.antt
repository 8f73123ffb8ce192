-- Whole programs that are refused for arms, size and calls.
use Rattle.std.proofs.Common.{None, Some, [], refl, ◌∷◌, ◌≡◌}
use Rattle.std.specs.Prelude.{codes}
use Rattle.ep_int.specs.declared.types.Model.TheVariants.{Ilp32, Lp64}
use Rattle.ep_ast.specs.Expression.{id}
use Rattle.ep_ast.specs.Mark as mark
use Rattle.ep_ast.specs.Statement.{completes, evaluate, functions_by_order, prototype, states}
use Rattle.ep_ast.specs.declared.orders.NamedOrder.TheVariants.{Big, Little}
use Rattle.ep_elaboration.proofs.Opened.{answers}
use Rattle.ep_elaboration.proofs.Shared.{behind_deep_functions}
use Rattle.ep_elaboration.proofs.Trees.{array, array_field, array_object, call_of, char_word_at, char_words, defined}
use Rattle.ep_elaboration.proofs.Trees.{defines_function, does_call, global, head, ifs, int_word_at, int_words, local}
use Rattle.ep_elaboration.proofs.Trees.{main_at, no_params, number, one_word, params, plain_main, returns, sets}
use Rattle.ep_elaboration.proofs.Trees.{struct_of, takes, typedef_words, unsigned_words, variable, variable_of}
use Rattle.ep_elaboration.proofs.Trees.{void_words, zero_at}

-- recursion: 35
recursive : answers Ilp32 (
    -- void f(void) {
    -- f(); }int main(void) { return 0; }
    (defines_function 1 (void_words 1) (codes "f") (no_params 1) (does_call 2 (codes "f") [] ∷ []) ∷
    plain_main 2 ∷ []) ∷
    -- int main(void) {
    --  main();
    --  return 0;
    -- }
    (main_at 1 (does_call 2 (codes "main") [] ∷ returns 3 (zero_at 3) ∷ []) ∷ []) ∷
    -- void f(void) {
    --  f();
    -- }
    -- int main(void) { return 0; }
    (defines_function 1 (void_words 1) (codes "f") (no_params 1) (does_call 2 (codes "f") [] ∷ []) ∷
    plain_main 4 ∷ []) ∷
    -- void g(void);
    -- void f(void) { g(); }
    -- void g(void) {
    --  f();
    -- }
    -- int main(void) { f(); return 0; }
    (prototype (head 1 (void_words 1) [] (codes "g") (no_params 1)) ∷
    defines_function 2 (void_words 2) (codes "f") (no_params 2) (does_call 2 (codes "g") [] ∷ []) ∷
    defines_function 3 (void_words 3) (codes "g") (no_params 3) (does_call 4 (codes "f") [] ∷ []) ∷
    main_at 6 (does_call 6 (codes "f") [] ∷ returns 6 (zero_at 6) ∷ []) ∷ []) ∷
    -- char a[40000], b[40000];
    -- void f(void) {
    --  f();
    -- }
    -- int main(void) { return 0; }
    (global 1 (char_words 1)
    (array_object 1 (codes "a") (number 1 40000) ∷ array_object 1 (codes "b") (number 1 40000) ∷ []) ∷
    defines_function 2 (void_words 2) (codes "f") (no_params 2) (does_call 3 (codes "f") [] ∷ []) ∷
    plain_main 5 ∷ []) ∷
    [])
    ≡ (35, 2) ∷ (35, 2) ∷ (35, 2) ∷ (35, 2) ∷ (35, 3) ∷ []
unfolding answers
recursive = refl

-- no main: 36
without_main : answers Ilp32 (
    -- int main;
    (global 1 (int_words 1) (variable 1 (codes "main")) ∷ []) ∷
    --
    [] ∷
    -- int f(void) { return 0; }
    (defines_function 1 (int_words 1) (codes "f") (no_params 1) (returns 1 (zero_at 1) ∷ []) ∷ []) ∷
    -- void h(void);
    -- void f(void) { h(); }
    -- int main(void);
    (prototype (head 1 (void_words 1) [] (codes "h") (no_params 1)) ∷
    defines_function 2 (void_words 2) (codes "f") (no_params 2) (does_call 2 (codes "h") [] ∷ []) ∷
    prototype (head 3 (int_words 3) [] (codes "main") (no_params 3)) ∷ []) ∷
    -- int main;
    (global 1 (int_words 1) (variable 1 (codes "main")) ∷ []) ∷
    -- void f(void) { f(); }
    (defines_function 1 (void_words 1) (codes "f") (no_params 1) (does_call 1 (codes "f") [] ∷ []) ∷ []) ∷
    [])
    ≡ (36, 1) ∷ (36, 1) ∷ (36, 1) ∷ (36, 1) ∷ (36, 1) ∷ (36, 1) ∷ []
unfolding answers
without_main = refl

-- too large: 37
too_large : answers Ilp32 (
    -- uint32_t a[16385];int main(void) { return 0; }
    (global 1 (typedef_words 1 (codes "uint32_t")) (array 1 (codes "a") (number 1 16385)) ∷ plain_main 1 ∷ []) ∷
    -- uint32_t a[16385];
    (global 1 (typedef_words 1 (codes "uint32_t")) (array 1 (codes "a") (number 1 16385)) ∷ []) ∷
    -- char a[30000]; void f(void) { char a[40000]; }int main(void) { return 0; }
    (global 1 (char_words 1) (array 1 (codes "a") (number 1 30000)) ∷
    defines_function 1 (void_words 1) (codes "f") (no_params 1)
    (local 1 (char_words 1) (array 1 (codes "a") (number 1 40000)) ∷ []) ∷
    plain_main 1 ∷ []) ∷
    -- char a[65532]; void f(char a) { }int main(void) { return 0; }
    (global 1 (char_words 1) (array 1 (codes "a") (number 1 65532)) ∷
    defines_function 1 (void_words 1) (codes "f") (params 1 (takes 1 (char_word_at 1) (codes "a") ∷ [])) [] ∷
    plain_main 1 ∷ []) ∷
    -- char a[40000];
    -- char b[40000];
    -- int main(void) { return 0; }
    (global 1 (char_words 1) (array 1 (codes "a") (number 1 40000)) ∷
    global 2 (char_words 2) (array 2 (codes "b") (number 2 40000)) ∷
    plain_main 3 ∷ []) ∷
    -- int a[65536];
    -- int b = c;
    -- int main(void) { return 0; }
    (global 1 (int_words 1) (array 1 (codes "a") (number 1 65536)) ∷
    global 2 (int_words 2) (variable_of 2 (codes "b") (id 2 (codes "c"))) ∷
    plain_main 3 ∷ []) ∷
    --
    -- struct s {
    --  char a[40000];
    --  char b[40000];
    -- };
    -- int x = y;
    -- int main(void) { return 0; }
    (completes
    (struct_of 2 (codes "s")
    (array_field 3 (char_words 3) (codes "a") (number 3 40000) ∷
    array_field 4 (char_words 4) (codes "b") (number 4 40000) ∷ [])) ∷
    global 6 (int_words 6) (variable_of 6 (codes "x") (id 6 (codes "y"))) ∷
    plain_main 7 ∷ []) ∷
    [])
    ≡ (37, 1) ∷ (37, 1) ∷ (37, 1) ∷ (37, 1) ∷ (37, 1) ∷ (37, 1) ∷ (37, 2) ∷ []
unfolding answers
too_large = refl

-- arms that don't define the same functions: 38
arms : answers Ilp32 (
    -- #if __BYTE_ORDER__ == __ORDER_LITTLE_ENDIAN__
    -- int f(int a) { return a; }
    -- #else
    -- int g(int a) { return a; }
    -- #endif
    -- int main(void) { return 0; }
    (functions_by_order 1 Little
    (defined 2 (int_words 2) (codes "f") (params 2 (takes 2 (int_word_at 2) (codes "a") ∷ []))
    (returns 2 (id 2 (codes "a")) ∷ []) ∷ [])
    (Some
    (defined 4 (int_words 4) (codes "g") (params 4 (takes 4 (int_word_at 4) (codes "a") ∷ []))
    (returns 4 (id 4 (codes "a")) ∷ []) ∷ [])) ∷
    plain_main 6 ∷ []) ∷
    -- #if __BYTE_ORDER__ == __ORDER_LITTLE_ENDIAN__
    -- int f(int a) { return a; }
    -- #else
    -- int f(char a) { return a; }
    -- #endif
    -- int main(void) { return 0; }
    (functions_by_order 1 Little
    (defined 2 (int_words 2) (codes "f") (params 2 (takes 2 (int_word_at 2) (codes "a") ∷ []))
    (returns 2 (id 2 (codes "a")) ∷ []) ∷ [])
    (Some
    (defined 4 (int_words 4) (codes "f") (params 4 (takes 4 (char_word_at 4) (codes "a") ∷ []))
    (returns 4 (id 4 (codes "a")) ∷ []) ∷ [])) ∷
    plain_main 6 ∷ []) ∷
    -- #if __BYTE_ORDER__ == __ORDER_LITTLE_ENDIAN__
    -- int f(int a) { return z; }
    -- #endif
    -- int main(void) { return 0; }
    (functions_by_order 1 Little
    (defined 2 (int_words 2) (codes "f") (params 2 (takes 2 (int_word_at 2) (codes "a") ∷ []))
    (returns 2 (id 2 (codes "z")) ∷ []) ∷ [])
    None ∷
    plain_main 4 ∷ []) ∷
    -- #if __BYTE_ORDER__ == __ORDER_LITTLE_ENDIAN__
    -- void f(void) { }
    -- #else
    -- void g(void) { x = 1; }
    -- #endif
    -- int main(void) { return 0; }
    (functions_by_order 1 Little (defined 2 (void_words 2) (codes "f") (no_params 2) [] ∷ [])
    (Some (defined 4 (void_words 4) (codes "g") (no_params 4) (sets 4 (id 4 (codes "x")) (number 4 1) ∷ []) ∷ [])) ∷
    plain_main 6 ∷ []) ∷
    --
    -- #if __BYTE_ORDER__ == __ORDER_BIG_ENDIAN__
    -- int f(int a) { return b; }
    -- #else
    -- int f(int c) { return 0; }
    -- #endif
    -- int main(void) { return 0; }
    (functions_by_order 2 Big
    (defined 3 (int_words 3) (codes "f") (params 3 (takes 3 (int_word_at 3) (codes "a") ∷ []))
    (returns 3 (id 3 (codes "b")) ∷ []) ∷ [])
    (Some
    (defined 5 (int_words 5) (codes "f") (params 5 (takes 5 (int_word_at 5) (codes "c") ∷ []))
    (returns 5 (zero_at 5) ∷ []) ∷ [])) ∷
    plain_main 7 ∷ []) ∷
    --
    -- #if __BYTE_ORDER__ == __ORDER_BIG_ENDIAN__
    -- int f(int a) { return 0; }
    -- #else
    -- unsigned f(int a) { return 0; }
    -- #endif
    -- int main(void) { return 0; }
    (functions_by_order 2 Big
    (defined 3 (int_words 3) (codes "f") (params 3 (takes 3 (int_word_at 3) (codes "a") ∷ []))
    (returns 3 (zero_at 3) ∷ []) ∷ [])
    (Some
    (defined 5 (unsigned_words 5) (codes "f") (params 5 (takes 5 (int_word_at 5) (codes "a") ∷ []))
    (returns 5 (zero_at 5) ∷ []) ∷ [])) ∷
    plain_main 7 ∷ []) ∷
    --
    -- #if __BYTE_ORDER__ == __ORDER_LITTLE_ENDIAN__
    -- int f(int a) { return 0; }
    -- int g(int a) { return 0; }
    -- #else
    -- int g(int a) { return 0; }
    -- int f(int a) { return 0; }
    -- #endif
    -- int x = y;
    (functions_by_order 2 Little
    (defined 3 (int_words 3) (codes "f") (params 3 (takes 3 (int_word_at 3) (codes "a") ∷ []))
    (returns 3 (zero_at 3) ∷ []) ∷
    defined 4 (int_words 4) (codes "g") (params 4 (takes 4 (int_word_at 4) (codes "a") ∷ []))
    (returns 4 (zero_at 4) ∷ []) ∷ [])
    (Some
    (defined 6 (int_words 6) (codes "g") (params 6 (takes 6 (int_word_at 6) (codes "a") ∷ []))
    (returns 6 (zero_at 6) ∷ []) ∷
    defined 7 (int_words 7) (codes "f") (params 7 (takes 7 (int_word_at 7) (codes "a") ∷ []))
    (returns 7 (zero_at 7) ∷ []) ∷ [])) ∷
    global 9 (int_words 9) (variable_of 9 (codes "x") (id 9 (codes "y"))) ∷ []) ∷
    [])
    ≡ (38, 1) ∷ (38, 1) ∷ (38, 1) ∷ (38, 1) ∷ (38, 2) ∷ (38, 2) ∷ (38, 2) ∷ []
unfolding answers
arms = refl

-- arms that don't define the same functions: 38
arms_with_long_of_64_bits : answers Lp64 (
    -- #if __BYTE_ORDER__ == __ORDER_LITTLE_ENDIAN__
    -- long f(void) { return 1; }
    -- #else
    -- int64_t g(void) { return 1; }
    -- #endif
    -- int main(void) { return 0; }
    (functions_by_order 1 Little
    (defined 2 (one_word 2 mark.long_word) (codes "f") (no_params 2) (returns 2 (number 2 1) ∷ []) ∷ [])
    (Some
    (defined 4 (typedef_words 4 (codes "int64_t")) (codes "g") (no_params 4) (returns 4 (number 4 1) ∷ []) ∷ [])) ∷
    plain_main 6 ∷ []) ∷
    [])
    ≡ (38, 1) ∷ []
unfolding answers
arms_with_long_of_64_bits = refl

-- calls of functions without a body: 46
undefined : answers Ilp32 (
    -- int f(void);
    -- int main(void) { int r;
    -- r = f(); }
    (prototype (head 1 (int_words 1) [] (codes "f") (no_params 1)) ∷
    main_at 2
    (local 2 (int_words 2) (variable 2 (codes "r")) ∷ sets 3 (id 3 (codes "r")) (call_of 3 (codes "f") []) ∷ []) ∷ []) ∷
    -- void g(void); int k(void); void f(void) {
    -- g(); }
    -- void g(void) { k(); f(); }int main(void) { return 0; }
    (prototype (head 1 (void_words 1) [] (codes "g") (no_params 1)) ∷
    prototype (head 1 (int_words 1) [] (codes "k") (no_params 1)) ∷
    defines_function 1 (void_words 1) (codes "f") (no_params 1) (does_call 2 (codes "g") [] ∷ []) ∷
    defines_function 3 (void_words 3) (codes "g") (no_params 3)
    (does_call 3 (codes "k") [] ∷ does_call 3 (codes "f") [] ∷ []) ∷
    plain_main 3 ∷ []) ∷
    -- void h(void);
    -- void f(void) {
    --  f();
    --  h();
    -- }
    -- int main(void) { return 0; }
    (prototype (head 1 (void_words 1) [] (codes "h") (no_params 1)) ∷
    defines_function 2 (void_words 2) (codes "f") (no_params 2)
    (does_call 3 (codes "f") [] ∷ does_call 4 (codes "h") [] ∷ []) ∷
    plain_main 6 ∷ []) ∷
    -- int f(void);
    -- int main(void) {
    -- int x;
    -- x = f();
    -- return 0;
    -- }
    (prototype (head 1 (int_words 1) [] (codes "f") (no_params 1)) ∷
    main_at 2
    (local 3 (int_words 3) (variable 3 (codes "x")) ∷
    sets 4 (id 4 (codes "x")) (call_of 4 (codes "f") []) ∷
    returns 5 (zero_at 5) ∷ []) ∷ []) ∷
    -- void f(void);
    -- void g(void);
    -- int main(void) {
    --  g();
    --  f();
    -- }
    (prototype (head 1 (void_words 1) [] (codes "f") (no_params 1)) ∷
    prototype (head 2 (void_words 2) [] (codes "g") (no_params 2)) ∷
    main_at 3 (does_call 4 (codes "g") [] ∷ does_call 5 (codes "f") [] ∷ []) ∷ []) ∷
    [])
    ≡ (46, 3) ∷ (46, 3) ∷ (46, 4) ∷ (46, 4) ∷ (46, 4) ∷ []
unfolding answers
undefined = refl

-- too deep along calls: 48
too_deep : answers Ilp32 (
    -- void f1(void) { if (1) *59 ; }
    -- void f2(void) { if (1) *59 f1(); }
    -- void f3(void) { if (1) *59 f2(); }
    -- void f4(void) { if (1) *59 f3(); }
    -- void f5(void) { if (1) *59 f4(); }
    -- int main(void) { f5(); return 0; }
    behind_deep_functions (main_at 6 (does_call 6 (codes "f5") [] ∷ returns 6 (zero_at 6) ∷ []) ∷ []) ∷
    -- char a[40000], b[40000];
    -- void f1(void) { if (1) *59 ; }
    -- void f2(void) { if (1) *59 f1(); }
    -- void f3(void) { if (1) *59 f2(); }
    -- void f4(void) { if (1) *59 f3(); }
    -- void f5(void) { if (1) *59 f4(); }
    --
    -- int main(void) { f5(); return 0; }
    (global 1 (char_words 1)
    (array_object 1 (codes "a") (number 1 40000) ∷ array_object 1 (codes "b") (number 1 40000) ∷ []) ∷
    defines_function 2 (void_words 2) (codes "f1") (no_params 2) (states (ifs 59 2 (evaluate 2 None)) ∷ []) ∷
    defines_function 3 (void_words 3) (codes "f2") (no_params 3)
    (states (ifs 59 3 (evaluate 3 (Some (call_of 3 (codes "f1") [])))) ∷ []) ∷
    defines_function 4 (void_words 4) (codes "f3") (no_params 4)
    (states (ifs 59 4 (evaluate 4 (Some (call_of 4 (codes "f2") [])))) ∷ []) ∷
    defines_function 5 (void_words 5) (codes "f4") (no_params 5)
    (states (ifs 59 5 (evaluate 5 (Some (call_of 5 (codes "f3") [])))) ∷ []) ∷
    defines_function 6 (void_words 6) (codes "f5") (no_params 6)
    (states (ifs 59 6 (evaluate 6 (Some (call_of 6 (codes "f4") [])))) ∷ []) ∷
    main_at 8 (does_call 8 (codes "f5") [] ∷ returns 8 (zero_at 8) ∷ []) ∷ []) ∷
    -- void f1(void) { if (1) *59 ; }
    -- void f2(void) { if (1) *59 f1(); }
    -- void f3(void) { if (1) *59 f2(); }
    -- void f4(void) { if (1) *59 f3(); }
    -- void f5(void) { if (1) *59 f4(); }
    -- int main(void) { if (1) *16 f4(); return 0; }
    behind_deep_functions
    (main_at 6 (states (ifs 16 6 (evaluate 6 (Some (call_of 6 (codes "f4") [])))) ∷ returns 6 (zero_at 6) ∷ []) ∷ []) ∷
    [])
    ≡ (48, 6) ∷ (48, 8) ∷ (48, 6) ∷ []
unfolding answers
too_deep = refl
