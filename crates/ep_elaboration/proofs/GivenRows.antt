-- First values: expressions, lists, and which part of an object each value is for.
use Rattle.std.proofs.Common.{None, Some, [], refl, ◌∷◌, ◌≡◌}
use Rattle.std.specs.Prelude.{codes}
use Rattle.ep_int.specs.declared.types.Model.TheVariants.{Ilp32}
use Rattle.ep_ast.specs.Declaration.{body, listed, single, to_values}
use Rattle.ep_ast.specs.Expression.{binary, conditional, id, sizeof_expr}
use Rattle.ep_ast.specs.Mark as mark
use Rattle.ep_ast.specs.Statement.{completes}
use Rattle.ep_elaboration.proofs.Opened.{answers}
use Rattle.ep_elaboration.proofs.Trees.{array, array_field, call_of, declarator, defines_function, field, global}
use Rattle.ep_elaboration.proofs.Trees.{init, int_words, local, main_at, no_params, number, plain_main, returns}
use Rattle.ep_elaboration.proofs.Trees.{struct_of, struct_words, union_of, union_words, variable, zero_at}

-- in this order of kinds and lines
given_1 : answers Ilp32 (
    -- int main(void) {
    -- int x =
    -- {1};
    -- }
    (main_at 1
    (local 2 (int_words 2)
    (init (declarator 2 [] (codes "x") []) (Some (listed 3 (to_values (single (number 3 1) ∷ [])))) ∷ []) ∷ []) ∷ []) ∷
    -- int a[2] = {1, 2, 3};
    -- int main(void) { return 0; }
    (global 1 (int_words 1)
    (init (declarator 1 [] (codes "a") (Some (number 1 2) ∷ []))
    (Some (listed 1 (to_values (single (number 1 1) ∷ single (number 1 2) ∷ single (number 1 3) ∷ [])))) ∷ []) ∷
    plain_main 2 ∷ []) ∷
    -- int main(void) {
    -- int a[2] = {1, 2,
    -- y};
    -- }
    (main_at 1
    (local 2 (int_words 2)
    (init (declarator 2 [] (codes "a") (Some (number 2 2) ∷ []))
    (Some
    (listed 2
    (to_values (single (number 2 1) ∷ single (number 2 2) ∷ single (id 3 (codes "y")) ∷ [])))) ∷ []) ∷ []) ∷ []) ∷
    -- int main(void) {
    -- int a[2] = {1, 2,
    -- {y}};
    -- }
    (main_at 1
    (local 2 (int_words 2)
    (init (declarator 2 [] (codes "a") (Some (number 2 2) ∷ []))
    (Some
    (listed 2
    (to_values
    (single (number 2 1) ∷
    single (number 2 2) ∷
    listed 3 (to_values (single (id 3 (codes "y")) ∷ [])) ∷ [])))) ∷ []) ∷ []) ∷ []) ∷
    -- union u { int a; int b; };
    -- union u v = {1,
    -- 2};
    -- int main(void) { return 0; }
    (completes (union_of 1 (codes "u") (field 1 (int_words 1) (codes "a") ∷ field 1 (int_words 1) (codes "b") ∷ [])) ∷
    global 2 (union_words 2 (codes "u"))
    (init (declarator 2 [] (codes "v") [])
    (Some (listed 2 (to_values (single (number 2 1) ∷ single (number 3 2) ∷ [])))) ∷ []) ∷
    plain_main 4 ∷ []) ∷
    -- struct s { int a[2]; int b; };
    -- struct s v = {{1, 2}, 3}, w = {{1}};
    -- int main(void) { return 0; }
    (completes
    (struct_of 1 (codes "s")
    (array_field 1 (int_words 1) (codes "a") (number 1 2) ∷ field 1 (int_words 1) (codes "b") ∷ [])) ∷
    global 2 (struct_words 2 (codes "s"))
    (init (declarator 2 [] (codes "v") [])
    (Some
    (listed 2
    (to_values (listed 2 (to_values (single (number 2 1) ∷ single (number 2 2) ∷ [])) ∷ single (number 2 3) ∷ [])))) ∷
    init (declarator 2 [] (codes "w") [])
    (Some (listed 2 (to_values (listed 2 (to_values (single (number 2 1) ∷ [])) ∷ [])))) ∷ []) ∷
    plain_main 3 ∷ []) ∷
    -- int f(void) { return 1; }
    -- int main(void) {
    -- int a[2] = {1,
    -- f()};
    -- }
    (defines_function 1 (int_words 1) (codes "f") (no_params 1) (returns 1 (number 1 1) ∷ []) ∷
    main_at 2
    (local 3 (int_words 3)
    (init (declarator 3 [] (codes "a") (Some (number 3 2) ∷ []))
    (Some (listed 3 (to_values (single (number 3 1) ∷ single (call_of 4 (codes "f") []) ∷ [])))) ∷ []) ∷ []) ∷ []) ∷
    -- int x;
    -- int a[2] = {1,
    -- x};
    -- int main(void) { return 0; }
    (global 1 (int_words 1) (variable 1 (codes "x")) ∷
    global 2 (int_words 2)
    (init (declarator 2 [] (codes "a") (Some (number 2 2) ∷ []))
    (Some (listed 2 (to_values (single (number 2 1) ∷ single (id 3 (codes "x")) ∷ [])))) ∷ []) ∷
    plain_main 4 ∷ []) ∷
    [])
    ≡ (32, 2) ∷ (32, 1) ∷ (30, 3) ∷ (32, 3) ∷ (32, 3) ∷ (0, 0) ∷ (18, 4) ∷ (45, 3) ∷ []
unfolding answers
given_1 = refl

-- in this order of kinds and lines
given_2 : answers Ilp32 (
    -- int x;
    -- int a[2] = {x, y};
    -- int main(void) { return 0; }
    (global 1 (int_words 1) (variable 1 (codes "x")) ∷
    global 2 (int_words 2)
    (init (declarator 2 [] (codes "a") (Some (number 2 2) ∷ []))
    (Some (listed 2 (to_values (single (id 2 (codes "x")) ∷ single (id 2 (codes "y")) ∷ [])))) ∷ []) ∷
    plain_main 3 ∷ []) ∷
    -- int a[] = {1, 2, 3};
    -- int b[sizeof a == 12 ? 1 : 0];
    -- int main(void) { return 0; }
    (global 1 (int_words 1)
    (init (declarator 1 [] (codes "a") (None ∷ []))
    (Some (listed 1 (to_values (single (number 1 1) ∷ single (number 1 2) ∷ single (number 1 3) ∷ [])))) ∷ []) ∷
    global 2 (int_words 2)
    (array 2 (codes "b")
    (conditional 2 (binary 2 mark.equal_equal (sizeof_expr 2 (id 2 (codes "a"))) (number 2 12)) (number 2 1)
    (zero_at 2))) ∷
    plain_main 3 ∷ []) ∷
    -- int a[][2] = {{1, 2}, {3}};
    -- int b[sizeof a == 16 ? 1 : 0];
    -- int main(void) { return 0; }
    (global 1 (int_words 1)
    (init (declarator 1 [] (codes "a") (None ∷ Some (number 1 2) ∷ []))
    (Some
    (listed 1
    (to_values
    (listed 1 (to_values (single (number 1 1) ∷ single (number 1 2) ∷ [])) ∷
    listed 1 (to_values (single (number 1 3) ∷ [])) ∷ [])))) ∷ []) ∷
    global 2 (int_words 2)
    (array 2 (codes "b")
    (conditional 2 (binary 2 mark.equal_equal (sizeof_expr 2 (id 2 (codes "a"))) (number 2 16)) (number 2 1)
    (zero_at 2))) ∷
    plain_main 3 ∷ []) ∷
    -- int a[2][] = {{1, 2}};
    -- int main(void) { return 0; }
    (global 1 (int_words 1)
    (init (declarator 1 [] (codes "a") (Some (number 1 2) ∷ None ∷ []))
    (Some (listed 1 (to_values (listed 1 (to_values (single (number 1 1) ∷ single (number 1 2) ∷ [])) ∷ [])))) ∷ []) ∷
    plain_main 2 ∷ []) ∷
    -- int *p = {0};
    -- int main(void) { return 0; }
    (global 1 (int_words 1)
    (init (declarator 1 (0 ∷ []) (codes "p") []) (Some (listed 1 (to_values (single (zero_at 1) ∷ [])))) ∷ []) ∷
    plain_main 2 ∷ []) ∷
    -- struct s { int a; } x;
    -- int main(void) {
    -- struct s a[2] = {x, {1}};
    -- }
    (global 1 (body (struct_of 1 (codes "s") (field 1 (int_words 1) (codes "a") ∷ [])) ∷ []) (variable 1 (codes "x")) ∷
    main_at 2
    (local 3 (struct_words 3 (codes "s"))
    (init (declarator 3 [] (codes "a") (Some (number 3 2) ∷ []))
    (Some
    (listed 3
    (to_values (single (id 3 (codes "x")) ∷ listed 3 (to_values (single (number 3 1) ∷ [])) ∷ [])))) ∷ []) ∷ []) ∷ []) ∷
    -- struct s { int a; } x; struct t { int a; } y;
    -- int main(void) {
    -- struct s a[2] = {x,
    -- y};
    -- }
    (global 1 (body (struct_of 1 (codes "s") (field 1 (int_words 1) (codes "a") ∷ [])) ∷ []) (variable 1 (codes "x")) ∷
    global 1 (body (struct_of 1 (codes "t") (field 1 (int_words 1) (codes "a") ∷ [])) ∷ []) (variable 1 (codes "y")) ∷
    main_at 2
    (local 3 (struct_words 3 (codes "s"))
    (init (declarator 3 [] (codes "a") (Some (number 3 2) ∷ []))
    (Some (listed 3 (to_values (single (id 3 (codes "x")) ∷ single (id 4 (codes "y")) ∷ [])))) ∷ []) ∷ []) ∷ []) ∷
    [])
    ≡ (45, 2) ∷ (0, 0) ∷ (0, 0) ∷ (17, 1) ∷ (32, 1) ∷ (0, 0) ∷ (32, 4) ∷ []
unfolding answers
given_2 = refl
