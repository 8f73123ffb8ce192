-- What is named first where several things break rules, with sources that break none.
use Rattle.std.proofs.Common.{[], refl, ◌∷◌, ◌≡◌}
use Rattle.std.specs.Prelude.{codes}
use Rattle.ep_int.specs.declared.types.Model.TheVariants.{Ilp32}
use Rattle.ep_ast.specs.Expression.{assign, binary, cast, id, index, sizeof_expr, unary}
use Rattle.ep_ast.specs.Mark as mark
use Rattle.ep_ast.specs.Statement.{defines, prototype}
use Rattle.ep_elaboration.proofs.Opened.{answers}
use Rattle.ep_elaboration.proofs.Shared.{behind_objects}
use Rattle.ep_elaboration.proofs.Trees.{block_at, call_of, char_word_at, defines_function, does, does_call, function}
use Rattle.ep_elaboration.proofs.Trees.{global, head, int_word_at, int_words, no_params, number, params, plain_main}
use Rattle.ep_elaboration.proofs.Trees.{returns, sets, struct_words, takes, takes_pointer, type_name, variable}
use Rattle.ep_elaboration.proofs.Trees.{void_word_at, void_words, zero_at}

-- a whole assignment, and a head
order_1 : answers Ilp32 (
    -- struct s { int a; } x; int v, *p, *q; void *vp; void f(int n);
    -- int main(void) {
    -- 1 = p;
    -- }
    behind_objects (sets 3 (number 3 1) (id 3 (codes "p")) ∷ []) ∷
    -- struct s { int a; } x; int v, *p, *q; void *vp; void f(int n);
    -- int main(void) {
    -- 1 = y;
    -- }
    behind_objects (sets 3 (number 3 1) (id 3 (codes "y")) ∷ []) ∷
    -- struct s { int a; } x; int v, *p, *q; void *vp; void f(int n);
    -- int main(void) {
    -- y = z +
    -- w;
    -- }
    behind_objects (sets 3 (id 3 (codes "y")) (binary 3 mark.plus (id 3 (codes "z")) (id 4 (codes "w"))) ∷ []) ∷
    -- struct s { int a; } x; int v, *p, *q; void *vp; void f(int n);
    -- int main(void) {
    -- 1 = 2;
    -- }
    behind_objects (sets 3 (number 3 1) (number 3 2) ∷ []) ∷
    -- struct s f(void a);
    -- int main(void) { return 0; }
    (prototype
    (head 1 (struct_words 1 (codes "s")) [] (codes "f") (params 1 (takes 1 (void_word_at 1) (codes "a") ∷ []))) ∷
    plain_main 2 ∷ []) ∷
    -- int main(void a) { return 0; }
    (defines_function 1 (int_words 1) (codes "main") (params 1 (takes 1 (void_word_at 1) (codes "a") ∷ []))
    (returns 1 (zero_at 1) ∷ []) ∷ []) ∷
    -- int f(int a, int a);
    -- int f(char b);
    -- int main(void) { return 0; }
    (prototype
    (head 1 (int_words 1) [] (codes "f")
    (params 1 (takes 1 (int_word_at 1) (codes "a") ∷ takes 1 (int_word_at 1) (codes "a") ∷ []))) ∷
    prototype (head 2 (int_words 2) [] (codes "f") (params 2 (takes 2 (char_word_at 2) (codes "b") ∷ []))) ∷
    plain_main 3 ∷ []) ∷
    -- int main;
    -- int *main(void *a) { return 0; }
    (global 1 (int_words 1) (variable 1 (codes "main")) ∷
    defines
    (function
    (head 2 (int_words 2) (0 ∷ []) (codes "main") (params 2 (takes_pointer 2 (void_word_at 2) (codes "a") ∷ [])))
    (block_at 2 (returns 2 (zero_at 2) ∷ []))) ∷ []) ∷
    [])
    ≡ (34, 3) ∷ (30, 3) ∷ (30, 3) ∷ (41, 3) ∷ (43, 1) ∷ (33, 1) ∷ (31, 1) ∷ (31, 2) ∷ []
unfolding answers
order_1 = refl

-- casts, calls without a body, and sizes
order_2 : answers Ilp32 (
    -- struct s { int a; } x; int v, *p, *q; void *vp; void f(int n);
    -- int main(void) {
    -- (void)v;
    -- }
    behind_objects (does 3 (cast 3 (type_name 3 (void_word_at 3) []) (id 3 (codes "v"))) ∷ []) ∷
    -- struct s { int a; } x; int v, *p, *q; void *vp; void f(int n);
    -- int main(void) {
    -- v = (int)x;
    -- }
    behind_objects (sets 3 (id 3 (codes "v")) (cast 3 (type_name 3 (int_word_at 3) []) (id 3 (codes "x"))) ∷ []) ∷
    -- struct s { int a; } x; int v, *p, *q; void *vp; void f(int n);
    -- int main(void) {
    -- p = (int *)vp; p = (int *)0; v = (char)v;
    -- }
    behind_objects
    (sets 3 (id 3 (codes "p")) (cast 3 (type_name 3 (int_word_at 3) (0 ∷ [])) (id 3 (codes "vp"))) ∷
    sets 3 (id 3 (codes "p")) (cast 3 (type_name 3 (int_word_at 3) (0 ∷ [])) (zero_at 3)) ∷
    sets 3 (id 3 (codes "v")) (cast 3 (type_name 3 (char_word_at 3) []) (id 3 (codes "v"))) ∷ []) ∷
    -- void g(void);
    -- void h(void) {
    -- g();
    -- }
    -- int main(void) { return 0; }
    (prototype (head 1 (void_words 1) [] (codes "g") (no_params 1)) ∷
    defines_function 2 (void_words 2) (codes "h") (no_params 2) (does_call 3 (codes "g") [] ∷ []) ∷
    plain_main 5 ∷ []) ∷
    -- void g(void);
    -- int main(void) { return 0; }
    (prototype (head 1 (void_words 1) [] (codes "g") (no_params 1)) ∷ plain_main 2 ∷ []) ∷
    -- struct s { int a; } x; int v, *p, *q; void *vp; void f(int n);
    -- int main(void) {
    -- v = sizeof(f);
    -- }
    behind_objects (sets 3 (id 3 (codes "v")) (sizeof_expr 3 (id 3 (codes "f"))) ∷ []) ∷
    -- struct s { int a; } x; int v, *p, *q; void *vp; void f(int n);
    -- int main(void) {
    -- v = sizeof *vp;
    -- }
    behind_objects (sets 3 (id 3 (codes "v")) (sizeof_expr 3 (unary 3 mark.star (id 3 (codes "vp")))) ∷ []) ∷
    -- struct s { int a; } x; int v, *p, *q; void *vp; void f(int n);
    -- int main(void) {
    -- v = sizeof(v = 1);
    -- }
    behind_objects
    (sets 3 (id 3 (codes "v")) (sizeof_expr 3 (assign 3 mark.equal (id 3 (codes "v")) (number 3 1))) ∷ []) ∷
    -- struct s { int a; } x; int v, *p, *q; void *vp; void f(int n);
    -- int main(void) {
    -- v = sizeof v;
    -- }
    behind_objects (sets 3 (id 3 (codes "v")) (sizeof_expr 3 (id 3 (codes "v"))) ∷ []) ∷
    [])
    ≡ (32, 3) ∷ (32, 3) ∷ (0, 0) ∷ (46, 3) ∷ (0, 0) ∷ (32, 3) ∷ (33, 3) ∷ (19, 3) ∷ (0, 0) ∷ []
unfolding answers
order_2 = refl

-- values of type void, lengths, and results
order_3 : answers Ilp32 (
    -- struct s { int a; } x; int v, *p, *q; void *vp; void f(int n);
    -- int main(void) {
    -- v = *vp +
    -- y;
    -- }
    behind_objects
    (sets 3 (id 3 (codes "v")) (binary 3 mark.plus (unary 3 mark.star (id 3 (codes "vp"))) (id 4 (codes "y"))) ∷ []) ∷
    -- struct s { int a; } x; int v, *p, *q; void *vp; void f(int n);
    -- int main(void) {
    -- v = y +
    -- *vp;
    -- }
    behind_objects
    (sets 3 (id 3 (codes "v")) (binary 3 mark.plus (id 3 (codes "y")) (unary 4 mark.star (id 4 (codes "vp")))) ∷ []) ∷
    -- struct s { int a; } x; int v, *p, *q; void *vp; void f(int n);
    -- int main(void) {
    -- ep_read(p, p);
    -- }
    behind_objects (does_call 3 (codes "ep_read") (id 3 (codes "p") ∷ id 3 (codes "p") ∷ []) ∷ []) ∷
    -- struct s { int a; } x; int v, *p, *q; void *vp; void f(int n);
    -- int main(void) {
    -- ep_read(p, x);
    -- }
    behind_objects (does_call 3 (codes "ep_read") (id 3 (codes "p") ∷ id 3 (codes "x") ∷ []) ∷ []) ∷
    -- struct s { int a; } x; int v, *p, *q; void *vp; void f(int n);
    -- int main(void) {
    -- ep_read(p, 4);
    -- }
    behind_objects (does_call 3 (codes "ep_read") (id 3 (codes "p") ∷ number 3 4 ∷ []) ∷ []) ∷
    -- struct s { int a; } x; int v, *p, *q; void *vp; void f(int n);
    -- int main(void) {
    -- v = ep_out_u8(1);
    -- }
    behind_objects (sets 3 (id 3 (codes "v")) (call_of 3 (codes "ep_out_u8") (number 3 1 ∷ [])) ∷ []) ∷
    -- struct s { int a; } x; int v, *p, *q; void *vp; void f(int n);
    -- int main(void) {
    -- v = f(1);
    -- }
    behind_objects (sets 3 (id 3 (codes "v")) (call_of 3 (codes "f") (number 3 1 ∷ [])) ∷ []) ∷
    -- struct s { int a; } x; int v, *p, *q; void *vp; void f(int n);
    -- int main(void) {
    -- p = p - q;
    -- }
    behind_objects (sets 3 (id 3 (codes "p")) (binary 3 mark.minus (id 3 (codes "p")) (id 3 (codes "q"))) ∷ []) ∷
    -- struct s { int a; } x; int v, *p, *q; void *vp; void f(int n);
    -- int main(void) {
    -- p = 1 + p; v = p[1];
    -- }
    behind_objects
    (sets 3 (id 3 (codes "p")) (binary 3 mark.plus (number 3 1) (id 3 (codes "p"))) ∷
    sets 3 (id 3 (codes "v")) (index 3 (id 3 (codes "p")) (number 3 1)) ∷ []) ∷
    [])
    ≡ (33, 3) ∷ (30, 3) ∷ (34, 3) ∷ (32, 3) ∷ (0, 0) ∷ (32, 3) ∷ (32, 3) ∷ (32, 3) ∷ (0, 0) ∷ []
unfolding answers
order_3 = refl
