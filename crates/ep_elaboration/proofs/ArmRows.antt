-- Functions by byte order, main, and calls.
use Rattle.std.proofs.Common.{None, Some, [], refl, ◌∷◌, ◌≡◌}
use Rattle.std.specs.Prelude.{codes}
use Rattle.ep_int.specs.declared.types.Model.TheVariants.{Ilp32}
use Rattle.ep_ast.specs.Expression.{id}
use Rattle.ep_ast.specs.Statement.{functions_by_order, prototype}
use Rattle.ep_ast.specs.declared.orders.NamedOrder.TheVariants.{Little}
use Rattle.ep_elaboration.proofs.Opened.{answers}
use Rattle.ep_elaboration.proofs.Trees.{call_of, char_word_at, char_words, defined, defines_function, does_call}
use Rattle.ep_elaboration.proofs.Trees.{global, head, int_word_at, int_words, local, main_at, no_params, number}
use Rattle.ep_elaboration.proofs.Trees.{param, params, plain_main, pointer, returns, sets, struct_at, struct_words}
use Rattle.ep_elaboration.proofs.Trees.{takes, takes_pointer, variable, variable_of}
use Rattle.ep_elaboration.proofs.Trees.{void_word_at, void_words, zero_at}

-- in this order of kinds and lines
arm_1 : answers Ilp32 (
    -- #if __BYTE_ORDER__ == __ORDER_LITTLE_ENDIAN__
    -- int f(void a) { return y; }
    -- #else
    -- char f(int a) { return 0; }
    -- #endif
    -- int main(void) { return 0; }
    (functions_by_order 1 Little
    (defined 2 (int_words 2) (codes "f") (params 2 (takes 2 (void_word_at 2) (codes "a") ∷ []))
    (returns 2 (id 2 (codes "y")) ∷ []) ∷ [])
    (Some
    (defined 4 (char_words 4) (codes "f") (params 4 (takes 4 (int_word_at 4) (codes "a") ∷ []))
    (returns 4 (zero_at 4) ∷ []) ∷ [])) ∷
    plain_main 6 ∷ []) ∷
    -- #if __BYTE_ORDER__ == __ORDER_LITTLE_ENDIAN__
    -- int f(int a) { return y; }
    -- #else
    -- char f(int a) { return 0; }
    -- #endif
    -- int main(void) { return 0; }
    (functions_by_order 1 Little
    (defined 2 (int_words 2) (codes "f") (params 2 (takes 2 (int_word_at 2) (codes "a") ∷ []))
    (returns 2 (id 2 (codes "y")) ∷ []) ∷ [])
    (Some
    (defined 4 (char_words 4) (codes "f") (params 4 (takes 4 (int_word_at 4) (codes "a") ∷ []))
    (returns 4 (zero_at 4) ∷ []) ∷ [])) ∷
    plain_main 6 ∷ []) ∷
    -- #if __BYTE_ORDER__ == __ORDER_LITTLE_ENDIAN__
    -- int f(int b[][3]) { return 0; }
    -- #else
    -- int f(int b[][4]) { return 0; }
    -- #endif
    -- int main(void) { return 0; }
    (functions_by_order 1 Little
    (defined 2 (int_words 2) (codes "f")
    (params 2 (param 2 (int_word_at 2) [] (Some (codes "b")) (None ∷ Some (number 2 3) ∷ []) ∷ []))
    (returns 2 (zero_at 2) ∷ []) ∷ [])
    (Some
    (defined 4 (int_words 4) (codes "f")
    (params 4 (param 4 (int_word_at 4) [] (Some (codes "b")) (None ∷ Some (number 4 4) ∷ []) ∷ []))
    (returns 4 (zero_at 4) ∷ []) ∷ [])) ∷
    plain_main 6 ∷ []) ∷
    -- #if __BYTE_ORDER__ == __ORDER_LITTLE_ENDIAN__
    -- int f(int b[][3]) { return 0; }
    -- #else
    -- int f(int b[9][3]) { return 0; }
    -- #endif
    -- int main(void) { return 0; }
    (functions_by_order 1 Little
    (defined 2 (int_words 2) (codes "f")
    (params 2 (param 2 (int_word_at 2) [] (Some (codes "b")) (None ∷ Some (number 2 3) ∷ []) ∷ []))
    (returns 2 (zero_at 2) ∷ []) ∷ [])
    (Some
    (defined 4 (int_words 4) (codes "f")
    (params 4 (param 4 (int_word_at 4) [] (Some (codes "b")) (Some (number 4 9) ∷ Some (number 4 3) ∷ []) ∷ []))
    (returns 4 (zero_at 4) ∷ []) ∷ [])) ∷
    plain_main 6 ∷ []) ∷
    -- int f(int a);
    -- #if __BYTE_ORDER__ == __ORDER_LITTLE_ENDIAN__
    -- int f(char a) { return 0; }
    -- #else
    -- int f(char a) { return 0; }
    -- #endif
    -- int main(void) { return 0; }
    (prototype (head 1 (int_words 1) [] (codes "f") (params 1 (takes 1 (int_word_at 1) (codes "a") ∷ []))) ∷
    functions_by_order 2 Little
    (defined 3 (int_words 3) (codes "f") (params 3 (takes 3 (char_word_at 3) (codes "a") ∷ []))
    (returns 3 (zero_at 3) ∷ []) ∷ [])
    (Some
    (defined 5 (int_words 5) (codes "f") (params 5 (takes 5 (char_word_at 5) (codes "a") ∷ []))
    (returns 5 (zero_at 5) ∷ []) ∷ [])) ∷
    plain_main 7 ∷ []) ∷
    -- #if __BYTE_ORDER__ == __ORDER_LITTLE_ENDIAN__
    -- int f(void) { return 0; }
    -- int g(void) { int r; r = f(); return r; }
    -- #else
    -- int f(void) { int r; r = g(); return r; }
    -- int g(void) { return 1; }
    -- #endif
    -- int main(void) { return 0; }
    (functions_by_order 1 Little
    (defined 2 (int_words 2) (codes "f") (no_params 2) (returns 2 (zero_at 2) ∷ []) ∷
    defined 3 (int_words 3) (codes "g") (no_params 3)
    (local 3 (int_words 3) (variable 3 (codes "r")) ∷
    sets 3 (id 3 (codes "r")) (call_of 3 (codes "f") []) ∷
    returns 3 (id 3 (codes "r")) ∷ []) ∷ [])
    (Some
    (defined 5 (int_words 5) (codes "f") (no_params 5)
    (local 5 (int_words 5) (variable 5 (codes "r")) ∷
    sets 5 (id 5 (codes "r")) (call_of 5 (codes "g") []) ∷
    returns 5 (id 5 (codes "r")) ∷ []) ∷
    defined 6 (int_words 6) (codes "g") (no_params 6) (returns 6 (number 6 1) ∷ []) ∷ [])) ∷
    plain_main 8 ∷ []) ∷
    -- int g(void);
    -- #if __BYTE_ORDER__ == __ORDER_LITTLE_ENDIAN__
    -- int f(void) { return 0; }
    -- int g(void) { int r; r = f(); return r; }
    -- #else
    -- int f(void) { int r; r =
    -- g(); return r; }
    -- int g(void) { return 1; }
    -- #endif
    -- int main(void) { return 0; }
    (prototype (head 1 (int_words 1) [] (codes "g") (no_params 1)) ∷
    functions_by_order 2 Little
    (defined 3 (int_words 3) (codes "f") (no_params 3) (returns 3 (zero_at 3) ∷ []) ∷
    defined 4 (int_words 4) (codes "g") (no_params 4)
    (local 4 (int_words 4) (variable 4 (codes "r")) ∷
    sets 4 (id 4 (codes "r")) (call_of 4 (codes "f") []) ∷
    returns 4 (id 4 (codes "r")) ∷ []) ∷ [])
    (Some
    (defined 6 (int_words 6) (codes "f") (no_params 6)
    (local 6 (int_words 6) (variable 6 (codes "r")) ∷
    sets 6 (id 6 (codes "r")) (call_of 7 (codes "g") []) ∷
    returns 7 (id 7 (codes "r")) ∷ []) ∷
    defined 8 (int_words 8) (codes "g") (no_params 8) (returns 8 (number 8 1) ∷ []) ∷ [])) ∷
    plain_main 10 ∷ []) ∷
    -- #if __BYTE_ORDER__ == __ORDER_LITTLE_ENDIAN__
    -- int main(void) { return 0; }
    -- #else
    -- int main() { return 1; }
    -- #endif
    (functions_by_order 1 Little
    (defined 2 (int_words 2) (codes "main") (no_params 2) (returns 2 (zero_at 2) ∷ []) ∷ [])
    (Some (defined 4 (int_words 4) (codes "main") None (returns 4 (number 4 1) ∷ []) ∷ [])) ∷ []) ∷
    -- #if __BYTE_ORDER__ == __ORDER_LITTLE_ENDIAN__
    -- int f(struct t *p) { return 0; }
    -- #else
    -- int f(struct t *p) { return 0; }
    -- #endif
    -- int main(void) { return 0; }
    (functions_by_order 1 Little
    (defined 2 (int_words 2) (codes "f") (params 2 (takes_pointer 2 (struct_at 2 (codes "t")) (codes "p") ∷ []))
    (returns 2 (zero_at 2) ∷ []) ∷ [])
    (Some
    (defined 4 (int_words 4) (codes "f") (params 4 (takes_pointer 4 (struct_at 4 (codes "t")) (codes "p") ∷ []))
    (returns 4 (zero_at 4) ∷ []) ∷ [])) ∷
    plain_main 6 ∷ []) ∷
    -- struct t *q;
    -- #if __BYTE_ORDER__ == __ORDER_LITTLE_ENDIAN__
    -- int f(struct t *p) { return 0; }
    -- #else
    -- int f(struct t *p) { return 0; }
    -- #endif
    -- int main(void) { return 0; }
    (global 1 (struct_words 1 (codes "t")) (pointer 1 (codes "q")) ∷
    functions_by_order 2 Little
    (defined 3 (int_words 3) (codes "f") (params 3 (takes_pointer 3 (struct_at 3 (codes "t")) (codes "p") ∷ []))
    (returns 3 (zero_at 3) ∷ []) ∷ [])
    (Some
    (defined 5 (int_words 5) (codes "f") (params 5 (takes_pointer 5 (struct_at 5 (codes "t")) (codes "p") ∷ []))
    (returns 5 (zero_at 5) ∷ []) ∷ [])) ∷
    plain_main 7 ∷ []) ∷
    [])
    ≡ (33, 2) ∷ (38, 1) ∷ (38, 1) ∷ (0, 0) ∷ (31, 3) ∷ (30, 5) ∷ (35, 4) ∷ (0, 0) ∷ (38, 1) ∷ (0, 0) ∷ []
unfolding answers
arm_1 = refl

-- in this order of kinds and lines
arm_2 : answers Ilp32 (
    -- #if __BYTE_ORDER__ == __ORDER_LITTLE_ENDIAN__
    -- int f(void) { return 0; }
    -- #endif
    -- int main(void) { return 0; }
    (functions_by_order 1 Little (defined 2 (int_words 2) (codes "f") (no_params 2) (returns 2 (zero_at 2) ∷ []) ∷ [])
    None ∷
    plain_main 4 ∷ []) ∷
    -- void g(void);
    -- int main(void) {
    -- int x =
    -- 1;
    -- g(); }
    -- void g(void) {
    -- main(); }
    (prototype (head 1 (void_words 1) [] (codes "g") (no_params 1)) ∷
    main_at 2 (local 3 (int_words 3) (variable_of 3 (codes "x") (number 4 1)) ∷ does_call 5 (codes "g") [] ∷ []) ∷
    defines_function 6 (void_words 6) (codes "g") (no_params 6) (does_call 7 (codes "main") [] ∷ []) ∷ []) ∷
    -- void g(void);
    -- int main(void) {
    -- g(); }
    -- void g(void) {
    -- main(); }
    (prototype (head 1 (void_words 1) [] (codes "g") (no_params 1)) ∷
    main_at 2 (does_call 3 (codes "g") [] ∷ []) ∷
    defines_function 4 (void_words 4) (codes "g") (no_params 4) (does_call 5 (codes "main") [] ∷ []) ∷ []) ∷
    -- int main();
    -- int main(void) { return 0; }
    -- int main(void);
    (prototype (head 1 (int_words 1) [] (codes "main") None) ∷
    plain_main 2 ∷
    prototype (head 3 (int_words 3) [] (codes "main") (no_params 3)) ∷ []) ∷
    -- int main(int a) { return 0; }
    (defines_function 1 (int_words 1) (codes "main") (params 1 (takes 1 (int_word_at 1) (codes "a") ∷ []))
    (returns 1 (zero_at 1) ∷ []) ∷ []) ∷
    -- char main(void) { return 0; }
    (defines_function 1 (char_words 1) (codes "main") (no_params 1) (returns 1 (zero_at 1) ∷ []) ∷ []) ∷
    -- int main(void) { return 0; }
    -- int main(void) { return 1; }
    (plain_main 1 ∷ main_at 2 (returns 2 (number 2 1) ∷ []) ∷ []) ∷
    -- void f(void) { }
    -- int f;
    -- int main(void) { return 0; }
    (defines_function 1 (void_words 1) (codes "f") (no_params 1) [] ∷
    global 2 (int_words 2) (variable 2 (codes "f")) ∷
    plain_main 3 ∷ []) ∷
    [])
    ≡ (38, 1) ∷ (35, 5) ∷ (35, 3) ∷ (0, 0) ∷ (32, 1) ∷ (32, 1) ∷ (31, 2) ∷ (31, 2) ∷ []
unfolding answers
arm_2 = refl

-- in this order of kinds and lines
arm_3 : answers Ilp32 (
    -- int f;
    -- void f(void);
    -- int main(void) { return 0; }
    (global 1 (int_words 1) (variable 1 (codes "f")) ∷
    prototype (head 2 (void_words 2) [] (codes "f") (no_params 2)) ∷
    plain_main 3 ∷ []) ∷
    -- void memcpy(void);
    -- int main(void) { return 0; }
    (prototype (head 1 (void_words 1) [] (codes "memcpy") (no_params 1)) ∷ plain_main 2 ∷ []) ∷
    -- int f(int g) { int r; r =
    -- g(1); return r; }
    -- int main(void) { return 0; }
    (defines_function 1 (int_words 1) (codes "f") (params 1 (takes 1 (int_word_at 1) (codes "g") ∷ []))
    (local 1 (int_words 1) (variable 1 (codes "r")) ∷
    sets 1 (id 1 (codes "r")) (call_of 2 (codes "g") (number 2 1 ∷ [])) ∷
    returns 2 (id 2 (codes "r")) ∷ []) ∷
    plain_main 3 ∷ []) ∷
    -- int f(int n);
    -- int g(int n) { int r; r = f(n); return r; }
    -- int f(int n) { int r; r = g(n); return r; }
    -- int main(void) { return 0; }
    (prototype (head 1 (int_words 1) [] (codes "f") (params 1 (takes 1 (int_word_at 1) (codes "n") ∷ []))) ∷
    defines_function 2 (int_words 2) (codes "g") (params 2 (takes 2 (int_word_at 2) (codes "n") ∷ []))
    (local 2 (int_words 2) (variable 2 (codes "r")) ∷
    sets 2 (id 2 (codes "r")) (call_of 2 (codes "f") (id 2 (codes "n") ∷ [])) ∷
    returns 2 (id 2 (codes "r")) ∷ []) ∷
    defines_function 3 (int_words 3) (codes "f") (params 3 (takes 3 (int_word_at 3) (codes "n") ∷ []))
    (local 3 (int_words 3) (variable 3 (codes "r")) ∷
    sets 3 (id 3 (codes "r")) (call_of 3 (codes "g") (id 3 (codes "n") ∷ [])) ∷
    returns 3 (id 3 (codes "r")) ∷ []) ∷
    plain_main 4 ∷ []) ∷
    [])
    ≡ (31, 2) ∷ (31, 1) ∷ (32, 2) ∷ (35, 2) ∷ []
unfolding answers
arm_3 = refl
