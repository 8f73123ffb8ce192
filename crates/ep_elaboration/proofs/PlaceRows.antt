-- Whole programs that are refused for where something stands, and for what is no constant.
use Rattle.std.proofs.Common.{None, Some, [], refl, ◌∷◌, ◌≡◌}
use Rattle.std.specs.Prelude.{codes}
use Rattle.ep_int.specs.declared.types.Model.TheVariants.{Ilp32}
use Rattle.ep_ast.specs.Declaration.{single}
use Rattle.ep_ast.specs.Expression.{assign, binary, id, index, post_increment, sizeof_expr, unary}
use Rattle.ep_ast.specs.Mark as mark
use Rattle.ep_ast.specs.Statement.{block, break_loop, continue_loop, do_loop, evaluate, if_then, prototype, states}
use Rattle.ep_ast.specs.Statement.{to_parts, while_loop}
use Rattle.ep_elaboration.proofs.Opened.{answers}
use Rattle.ep_elaboration.proofs.Trees.{address_of, array, array_object, call_of, declarator, defines_function}
use Rattle.ep_elaboration.proofs.Trees.{does_call, global, head, in_block, init, int_word_at, int_words, local}
use Rattle.ep_elaboration.proofs.Trees.{main_at, no_params, number, object, object_of, param, params, plain_main}
use Rattle.ep_elaboration.proofs.Trees.{returns, sets, typedef_words, variable, variable_of, zero_at}

-- bounds that are no constants from 1 to 65,536: 17
array_bounds : answers Ilp32 (
    -- int a[];int main(void) { return 0; }
    (global 1 (int_words 1) (init (declarator 1 [] (codes "a") (None ∷ [])) None ∷ []) ∷ plain_main 1 ∷ []) ∷
    -- int f(int a[0]);int main(void) { return 0; }
    (prototype
    (head 1 (int_words 1) [] (codes "f")
    (params 1 (param 1 (int_word_at 1) [] (Some (codes "a")) (Some (zero_at 1) ∷ []) ∷ []))) ∷
    plain_main 1 ∷ []) ∷
    -- int a[0];
    -- int a = b;
    -- int main(void) { return 0; }
    (global 1 (int_words 1) (array 1 (codes "a") (zero_at 1)) ∷
    global 2 (int_words 2) (variable_of 2 (codes "a") (id 2 (codes "b"))) ∷
    plain_main 3 ∷ []) ∷
    -- int n = 3;
    -- int a[n];
    -- int b[65537];
    -- int main(void) { return 0; }
    (global 1 (int_words 1) (variable_of 1 (codes "n") (number 1 3)) ∷
    global 2 (int_words 2) (array 2 (codes "a") (id 2 (codes "n"))) ∷
    global 3 (int_words 3) (array 3 (codes "b") (number 3 65537)) ∷
    plain_main 4 ∷ []) ∷
    -- int a[-1], a[2];
    -- int main(void) { return 0; }
    (global 1 (int_words 1)
    (array_object 1 (codes "a") (unary 1 mark.minus (number 1 1)) ∷ array_object 1 (codes "a") (number 1 2) ∷ []) ∷
    plain_main 2 ∷ []) ∷
    [])
    ≡ (17, 1) ∷ (17, 1) ∷ (17, 1) ∷ (17, 2) ∷ (17, 1) ∷ []
unfolding answers
array_bounds = refl

-- calls in other places: 18
calls : answers Ilp32 (
    -- int f(void) { return 1; }
    -- int main(void) {
    -- int x = 1 + f();
    -- y = 2;
    -- return 0;
    -- }
    (defines_function 1 (int_words 1) (codes "f") (no_params 1) (returns 1 (number 1 1) ∷ []) ∷
    main_at 2
    (local 3 (int_words 3) (variable_of 3 (codes "x") (binary 3 mark.plus (number 3 1) (call_of 3 (codes "f") []))) ∷
    sets 4 (id 4 (codes "y")) (number 4 2) ∷
    returns 5 (zero_at 5) ∷ []) ∷ []) ∷
    -- int f(void) { return 1; }
    -- int main(void) {
    -- int x;
    -- x = f() + z;
    -- return 0;
    -- }
    (defines_function 1 (int_words 1) (codes "f") (no_params 1) (returns 1 (number 1 1) ∷ []) ∷
    main_at 2
    (local 3 (int_words 3) (variable 3 (codes "x")) ∷
    sets 4 (id 4 (codes "x")) (binary 4 mark.plus (call_of 4 (codes "f") []) (id 4 (codes "z"))) ∷
    returns 5 (zero_at 5) ∷ []) ∷ []) ∷
    -- int main(void) {
    -- uint8_t x;
    -- if (ep_in_u8())
    -- x = w;
    -- return 0;
    -- }
    (main_at 1
    (local 2 (typedef_words 2 (codes "uint8_t")) (variable 2 (codes "x")) ∷
    states
    (if_then 3 (call_of 3 (codes "ep_in_u8") [])
    (evaluate 4 (Some (assign 4 mark.equal (id 4 (codes "x")) (id 4 (codes "w")))))) ∷
    returns 5 (zero_at 5) ∷ []) ∷ []) ∷
    [])
    ≡ (18, 3) ∷ (18, 4) ∷ (18, 3) ∷ []
unfolding answers
calls = refl

-- assignments in other places: 19
assignments : answers Ilp32 (
    -- int main(void) {
    -- int x, y;
    -- x = (y = 1) + z;
    -- return 0;
    -- }
    (main_at 1
    (local 2 (int_words 2) (object 2 (codes "x") ∷ object 2 (codes "y") ∷ []) ∷
    sets 3 (id 3 (codes "x"))
    (binary 3 mark.plus (assign 3 mark.equal (id 3 (codes "y")) (number 3 1)) (id 3 (codes "z"))) ∷
    returns 4 (zero_at 4) ∷ []) ∷ []) ∷
    -- int main(void) {
    -- int x;
    -- if (x++) y = 1;
    -- return 0;
    -- }
    (main_at 1
    (local 2 (int_words 2) (variable 2 (codes "x")) ∷
    states
    (if_then 3 (post_increment 3 (id 3 (codes "x")))
    (evaluate 3 (Some (assign 3 mark.equal (id 3 (codes "y")) (number 3 1))))) ∷
    returns 4 (zero_at 4) ∷ []) ∷ []) ∷
    -- int f(void) { return 1; }
    -- int main(void) {
    -- int a[2], i = 0;
    -- a[i++] = f();
    -- return 0;
    -- }
    (defines_function 1 (int_words 1) (codes "f") (no_params 1) (returns 1 (number 1 1) ∷ []) ∷
    main_at 2
    (local 3 (int_words 3) (array_object 3 (codes "a") (number 3 2) ∷ object_of 3 (codes "i") (zero_at 3) ∷ []) ∷
    sets 4 (index 4 (id 4 (codes "a")) (post_increment 4 (id 4 (codes "i")))) (call_of 4 (codes "f") []) ∷
    returns 5 (zero_at 5) ∷ []) ∷ []) ∷
    [])
    ≡ (19, 3) ∷ (19, 3) ∷ (19, 4) ∷ []
unfolding answers
assignments = refl

-- lengths that are no constants from 1 to 65,536: 42
lengths : answers Ilp32 (
    -- int main(void) {
    -- uint8_t a[4]; int n = 4;
    -- memset(a, 0, n);
    -- memset(b, 0, 4);
    -- return 0;
    -- }
    (main_at 1
    (local 2 (typedef_words 2 (codes "uint8_t")) (array 2 (codes "a") (number 2 4)) ∷
    local 2 (int_words 2) (variable_of 2 (codes "n") (number 2 4)) ∷
    does_call 3 (codes "memset") (id 3 (codes "a") ∷ zero_at 3 ∷ id 3 (codes "n") ∷ []) ∷
    does_call 4 (codes "memset") (id 4 (codes "b") ∷ zero_at 4 ∷ number 4 4 ∷ []) ∷
    returns 5 (zero_at 5) ∷ []) ∷ []) ∷
    -- int main(void) {
    -- uint8_t a[4];
    -- ep_read(a, 0);
    -- ep_write(a, 65537);
    -- return 0;
    -- }
    (main_at 1
    (local 2 (typedef_words 2 (codes "uint8_t")) (array 2 (codes "a") (number 2 4)) ∷
    does_call 3 (codes "ep_read") (id 3 (codes "a") ∷ zero_at 3 ∷ []) ∷
    does_call 4 (codes "ep_write") (id 4 (codes "a") ∷ number 4 65537 ∷ []) ∷
    returns 5 (zero_at 5) ∷ []) ∷ []) ∷
    -- int main(void) {
    -- uint8_t a[4], b[4];
    -- memcpy(a, b, sizeof a - 4);
    -- x = 1;
    -- return 0;
    -- }
    (main_at 1
    (local 2 (typedef_words 2 (codes "uint8_t"))
    (array_object 2 (codes "a") (number 2 4) ∷ array_object 2 (codes "b") (number 2 4) ∷ []) ∷
    does_call 3 (codes "memcpy")
    (id 3 (codes "a") ∷ id 3 (codes "b") ∷ binary 3 mark.minus (sizeof_expr 3 (id 3 (codes "a"))) (number 3 4) ∷ []) ∷
    sets 4 (id 4 (codes "x")) (number 4 1) ∷
    returns 5 (zero_at 5) ∷ []) ∷ []) ∷
    [])
    ≡ (42, 3) ∷ (42, 3) ∷ (42, 3) ∷ []
unfolding answers
lengths = refl

-- first values that are no constants: 45
not_constant : answers Ilp32 (
    -- int x;
    -- int y = x;
    -- int z = w;
    -- int main(void) { return 0; }
    (global 1 (int_words 1) (variable 1 (codes "x")) ∷
    global 2 (int_words 2) (variable_of 2 (codes "y") (id 2 (codes "x"))) ∷
    global 3 (int_words 3) (variable_of 3 (codes "z") (id 3 (codes "w"))) ∷
    plain_main 4 ∷ []) ∷
    -- uint8_t x = 256 / 0;
    -- int y = x;
    -- int main(void) { return 0; }
    (global 1 (typedef_words 1 (codes "uint8_t"))
    (variable_of 1 (codes "x") (binary 1 mark.slash (number 1 256) (zero_at 1))) ∷
    global 2 (int_words 2) (variable_of 2 (codes "y") (id 2 (codes "x"))) ∷
    plain_main 3 ∷ []) ∷
    -- int x;
    -- int *p = &x;
    -- int *q = 1;
    -- int main(void) { return 0; }
    (global 1 (int_words 1) (variable 1 (codes "x")) ∷
    global 2 (int_words 2)
    (init (declarator 2 (0 ∷ []) (codes "p") []) (Some (single (address_of 2 (codes "x")))) ∷ []) ∷
    global 3 (int_words 3) (init (declarator 3 (0 ∷ []) (codes "q") []) (Some (single (number 3 1))) ∷ []) ∷
    plain_main 4 ∷ []) ∷
    [])
    ≡ (45, 2) ∷ (45, 1) ∷ (45, 2) ∷ []
unfolding answers
not_constant = refl

-- jumps outside of loops: 47
stray_jumps : answers Ilp32 (
    -- int main(void) {
    --  break;
    --  continue;
    -- }
    (main_at 1 (states (break_loop 2) ∷ states (continue_loop 3) ∷ []) ∷ []) ∷
    -- int main(void) {
    -- while (1) break;
    -- continue;
    -- x = 1;
    -- return 0;
    -- }
    (main_at 1
    (states (while_loop 2 (number 2 1) (break_loop 2)) ∷
    states (continue_loop 3) ∷
    sets 4 (id 4 (codes "x")) (number 4 1) ∷
    returns 5 (zero_at 5) ∷ []) ∷ []) ∷
    -- int main(void) {
    -- {
    -- do ; while (0);
    -- if (1) { break; }
    -- }
    -- return 0;
    -- }
    (main_at 1
    (in_block 2
    (states (do_loop 3 (evaluate 3 None) (zero_at 3)) ∷
    states (if_then 4 (number 4 1) (block 4 (to_parts (states (break_loop 4) ∷ [])))) ∷ []) ∷
    returns 6 (zero_at 6) ∷ []) ∷ []) ∷
    [])
    ≡ (47, 2) ∷ (47, 3) ∷ (47, 4) ∷ []
unfolding answers
stray_jumps = refl
