-- Scopes, names, heads and results.
use Rattle.std.proofs.Common.{None, Some, [], refl, ◌∷◌, ◌≡◌}
use Rattle.std.specs.Prelude.{codes}
use Rattle.ep_int.specs.declared.types.Model.TheVariants.{Ilp32}
use Rattle.ep_ast.specs.Declaration.{body}
use Rattle.ep_ast.specs.Expression.{id, index, sizeof_expr, sizeof_type, unary}
use Rattle.ep_ast.specs.Mark as mark
use Rattle.ep_ast.specs.Statement.{completes, defines, evaluate, if_then, prototype, return_value, states, typedefs}
use Rattle.ep_elaboration.proofs.Opened.{answers}
use Rattle.ep_elaboration.proofs.Trees.{array, block_at, call_of, declarator, defines_function, field, function}
use Rattle.ep_elaboration.proofs.Trees.{global, head, int_word_at, int_words, local, main_at, member_of, no_params}
use Rattle.ep_elaboration.proofs.Trees.{number, param, params, plain_main, pointer, returns, sets, struct_at}
use Rattle.ep_elaboration.proofs.Trees.{struct_of, struct_words, takes, takes_pointer, type_name, typedef, typedef_at}
use Rattle.ep_elaboration.proofs.Trees.{typedef_words, union_of, union_words, variable, variable_of, void_word_at}
use Rattle.ep_elaboration.proofs.Trees.{void_words, zero_at}

-- in this order of kinds and lines
scope_1 : answers Ilp32 (
    -- struct a *p;
    -- void f(struct b *q);
    -- struct b { int c; };
    -- void f(struct b *q) { }
    -- int main(void) { return 0; }
    (global 1 (struct_words 1 (codes "a")) (pointer 1 (codes "p")) ∷
    prototype
    (head 2 (void_words 2) [] (codes "f") (params 2 (takes_pointer 2 (struct_at 2 (codes "b")) (codes "q") ∷ []))) ∷
    completes (struct_of 3 (codes "b") (field 3 (int_words 3) (codes "c") ∷ [])) ∷
    defines_function 4 (void_words 4) (codes "f")
    (params 4 (takes_pointer 4 (struct_at 4 (codes "b")) (codes "q") ∷ [])) [] ∷
    plain_main 5 ∷ []) ∷
    -- int main(void) {
    -- union a *v;
    -- if (sizeof(struct a *)) ;
    -- return 0;
    -- }
    (main_at 1
    (local 2 (union_words 2 (codes "a")) (pointer 2 (codes "v")) ∷
    states (if_then 3 (sizeof_type 3 (type_name 3 (struct_at 3 (codes "a")) (0 ∷ []))) (evaluate 3 None)) ∷
    returns 4 (zero_at 4) ∷ []) ∷ []) ∷
    -- int main(void) {
    -- if (sizeof(struct a *)) ;
    -- union a *v;
    -- return 0;
    -- }
    (main_at 1
    (states (if_then 2 (sizeof_type 2 (type_name 2 (struct_at 2 (codes "a")) (0 ∷ []))) (evaluate 2 None)) ∷
    local 3 (union_words 3 (codes "a")) (pointer 3 (codes "v")) ∷
    returns 4 (zero_at 4) ∷ []) ∷ []) ∷
    -- struct s { struct s { int a; } b; };
    -- int main(void) { return 0; }
    (completes
    (struct_of 1 (codes "s")
    (field 1 (body (struct_of 1 (codes "s") (field 1 (int_words 1) (codes "a") ∷ [])) ∷ []) (codes "b") ∷ [])) ∷
    plain_main 2 ∷ []) ∷
    -- struct s *p;
    -- union s { int a; };
    -- int main(void) { return 0; }
    (global 1 (struct_words 1 (codes "s")) (pointer 1 (codes "p")) ∷
    completes (union_of 2 (codes "s") (field 2 (int_words 2) (codes "a") ∷ [])) ∷
    plain_main 3 ∷ []) ∷
    -- int f(void) { return 0; }
    -- int main(void) {
    -- int f = 1;
    -- f = 2;
    -- return f;
    -- }
    (defines_function 1 (int_words 1) (codes "f") (no_params 1) (returns 1 (zero_at 1) ∷ []) ∷
    main_at 2
    (local 3 (int_words 3) (variable_of 3 (codes "f") (number 3 1)) ∷
    sets 4 (id 4 (codes "f")) (number 4 2) ∷
    returns 5 (id 5 (codes "f")) ∷ []) ∷ []) ∷
    -- int main(void) {
    -- int x = x;
    -- return 0;
    -- }
    (main_at 1
    (local 2 (int_words 2) (variable_of 2 (codes "x") (id 2 (codes "x"))) ∷ returns 3 (zero_at 3) ∷ []) ∷ []) ∷
    -- struct NULL { int memcpy; } v;
    -- int main(void) { return v.memcpy; }
    (global 1 (body (struct_of 1 (codes "NULL") (field 1 (int_words 1) (codes "memcpy") ∷ [])) ∷ [])
    (variable 1 (codes "v")) ∷
    main_at 2 (returns 2 (member_of 2 (id 2 (codes "v")) (codes "memcpy")) ∷ []) ∷ []) ∷
    [])
    ≡ (31, 4) ∷ (31, 3) ∷ (0, 0) ∷ (31, 1) ∷ (31, 2) ∷ (0, 0) ∷ (0, 0) ∷ (0, 0) ∷ []
unfolding answers
scope_1 = refl

-- in this order of kinds and lines
scope_2 : answers Ilp32 (
    -- int f(int a) { int a; return 0; }
    -- int main(void) { return 0; }
    (defines_function 1 (int_words 1) (codes "f") (params 1 (takes 1 (int_word_at 1) (codes "a") ∷ []))
    (local 1 (int_words 1) (variable 1 (codes "a")) ∷ returns 1 (zero_at 1) ∷ []) ∷
    plain_main 2 ∷ []) ∷
    -- int f(int n, int a[sizeof n]) { return a[0]; }
    -- int main(void) { return 0; }
    (defines_function 1 (int_words 1) (codes "f")
    (params 1
    (takes 1 (int_word_at 1) (codes "n") ∷
    param 1 (int_word_at 1) [] (Some (codes "a")) (Some (sizeof_expr 1 (id 1 (codes "n"))) ∷ []) ∷ []))
    (returns 1 (index 1 (id 1 (codes "a")) (zero_at 1)) ∷ []) ∷
    plain_main 2 ∷ []) ∷
    -- typedef int t;
    -- void f(t a[2][
    -- 0]);
    -- int main(void) { return 0; }
    (typedefs (typedef 1 (int_words 1) (declarator 1 [] (codes "t") [] ∷ [])) ∷
    prototype
    (head 2 (void_words 2) [] (codes "f")
    (params 2
    (param 2 (typedef_at 2 (codes "t")) [] (Some (codes "a")) (Some (number 2 2) ∷ Some (zero_at 3) ∷ []) ∷ []))) ∷
    plain_main 4 ∷ []) ∷
    -- struct o f(void);
    -- int main(void) { return 0; }
    (prototype (head 1 (struct_words 1 (codes "o")) [] (codes "f") (no_params 1)) ∷ plain_main 2 ∷ []) ∷
    -- void f(int a[70000]);
    -- int main(void) { return 0; }
    (prototype
    (head 1 (void_words 1) [] (codes "f")
    (params 1 (param 1 (int_word_at 1) [] (Some (codes "a")) (Some (number 1 70000) ∷ []) ∷ []))) ∷
    plain_main 2 ∷ []) ∷
    -- void f(int a[65536][
    -- 16385]);
    -- int main(void) { return 0; }
    (prototype
    (head 1 (void_words 1) [] (codes "f")
    (params 1
    (param 1 (int_word_at 1) [] (Some (codes "a")) (Some (number 1 65536) ∷ Some (number 2 16385) ∷ []) ∷ []))) ∷
    plain_main 3 ∷ []) ∷
    -- void f(struct o a);
    -- int main(void) { return 0; }
    (prototype (head 1 (void_words 1) [] (codes "f") (params 1 (takes 1 (struct_at 1 (codes "o")) (codes "a") ∷ []))) ∷
    plain_main 2 ∷ []) ∷
    -- int f(void) {
    -- return;
    -- }
    -- int main(void) { return 0; }
    (defines_function 1 (int_words 1) (codes "f") (no_params 1) (states (return_value 2 None) ∷ []) ∷
    plain_main 4 ∷ []) ∷
    [])
    ≡ (31, 1) ∷ (0, 0) ∷ (17, 2) ∷ (43, 1) ∷ (17, 1) ∷ (37, 1) ∷ (43, 1) ∷ (32, 2) ∷ []
unfolding answers
scope_2 = refl

-- in this order of kinds and lines
scope_3 : answers Ilp32 (
    -- void f(int *p) {
    -- return p;
    -- }
    -- int main(void) { return 0; }
    (defines_function 1 (void_words 1) (codes "f") (params 1 (takes_pointer 1 (int_word_at 1) (codes "p") ∷ []))
    (returns 2 (id 2 (codes "p")) ∷ []) ∷
    plain_main 4 ∷ []) ∷
    -- int f(int *p) {
    -- return
    -- p;
    -- }
    -- int main(void) { return 0; }
    (defines_function 1 (int_words 1) (codes "f") (params 1 (takes_pointer 1 (int_word_at 1) (codes "p") ∷ []))
    (returns 2 (id 3 (codes "p")) ∷ []) ∷
    plain_main 5 ∷ []) ∷
    -- int f(void *p) {
    -- return *p;
    -- }
    -- int main(void) { return 0; }
    (defines_function 1 (int_words 1) (codes "f") (params 1 (takes_pointer 1 (void_word_at 1) (codes "p") ∷ []))
    (returns 2 (unary 2 mark.star (id 2 (codes "p"))) ∷ []) ∷
    plain_main 4 ∷ []) ∷
    -- void f(void) { return; }
    -- int *g(void) { return 0; }
    -- int main(void) { return 0; }
    (defines_function 1 (void_words 1) (codes "f") (no_params 1) (states (return_value 1 None) ∷ []) ∷
    defines
    (function (head 2 (int_words 2) (0 ∷ []) (codes "g") (no_params 2)) (block_at 2 (returns 2 (zero_at 2) ∷ []))) ∷
    plain_main 3 ∷ []) ∷
    -- int main(void) {
    -- uint8_t a[2]; uint8_t *p;
    -- p = memcpy(a, a, 1);
    -- }
    (main_at 1
    (local 2 (typedef_words 2 (codes "uint8_t")) (array 2 (codes "a") (number 2 2)) ∷
    local 2 (typedef_words 2 (codes "uint8_t")) (pointer 2 (codes "p")) ∷
    sets 3 (id 3 (codes "p"))
    (call_of 3 (codes "memcpy") (id 3 (codes "a") ∷ id 3 (codes "a") ∷ number 3 1 ∷ [])) ∷ []) ∷ []) ∷
    [])
    ≡ (32, 2) ∷ (34, 2) ∷ (33, 2) ∷ (0, 0) ∷ (32, 3) ∷ []
unfolding answers
scope_3 = refl
