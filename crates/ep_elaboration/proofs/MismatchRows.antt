-- Whole programs that are refused for types, members and arguments.
use Rattle.std.proofs.Common.{None, Some, [], false, refl, ◌∷◌, ◌≡◌}
use Rattle.std.specs.Prelude.{codes}
use Rattle.ep_int.specs.declared.types.Model.TheVariants.{Ilp32}
use Rattle.ep_ast.specs.Expression.{arrow, assign, binary, cast, id, index, post_increment, sizeof_expr, unary}
use Rattle.ep_ast.specs.Mark as mark
use Rattle.ep_ast.specs.Statement.{completes, defines, evaluate, if_then, prototype, return_value, states, typedefs}
use Rattle.ep_elaboration.proofs.Opened.{answers}
use Rattle.ep_elaboration.proofs.Trees.{address_of, array, block_at, declarator, defines_function, does, does_call}
use Rattle.ep_elaboration.proofs.Trees.{field, function, global, head, int_word_at, int_words, literal, local}
use Rattle.ep_elaboration.proofs.Trees.{long_word_at, main_at, member_of, no_params, number, object, param, params}
use Rattle.ep_elaboration.proofs.Trees.{plain_main, pointer, pointer_object, returns, sets, struct_at, struct_of}
use Rattle.ep_elaboration.proofs.Trees.{struct_words, takes, takes_pointer, type_name, typedef, typedef_words}
use Rattle.ep_elaboration.proofs.Trees.{union_of, union_words, unsigned_words, variable, variable_of, void_word_at}
use Rattle.ep_elaboration.proofs.Trees.{void_words, zero_at}

-- types that don't fit: 32
mismatches : answers Ilp32 (
    -- void main(void) { }
    (defines_function 1 (void_words 1) (codes "main") (no_params 1) [] ∷ []) ∷
    -- int *main(void) { return 0; }
    (defines
    (function (head 1 (int_words 1) (0 ∷ []) (codes "main") (no_params 1))
    (block_at 1 (returns 1 (zero_at 1) ∷ []))) ∷ []) ∷
    -- struct s { int a; };
    -- int main(void) {
    -- struct s v;
    -- v = 1;
    -- v.b = 2;
    -- return 0;
    -- }
    (completes (struct_of 1 (codes "s") (field 1 (int_words 1) (codes "a") ∷ [])) ∷
    main_at 2
    (local 3 (struct_words 3 (codes "s")) (variable 3 (codes "v")) ∷
    sets 4 (id 4 (codes "v")) (number 4 1) ∷
    sets 5 (member_of 5 (id 5 (codes "v")) (codes "b")) (number 5 2) ∷
    returns 6 (zero_at 6) ∷ []) ∷ []) ∷
    -- int main(void) {
    -- int x[2];
    -- x = x;
    -- x[0] = y;
    -- return 0;
    -- }
    (main_at 1
    (local 2 (int_words 2) (array 2 (codes "x") (number 2 2)) ∷
    sets 3 (id 3 (codes "x")) (id 3 (codes "x")) ∷
    sets 4 (index 4 (id 4 (codes "x")) (zero_at 4)) (id 4 (codes "y")) ∷
    returns 5 (zero_at 5) ∷ []) ∷ []) ∷
    -- void f(void) { return 1; }
    -- int g(void) { return; }
    -- int main(void) { return 0; }
    (defines_function 1 (void_words 1) (codes "f") (no_params 1) (returns 1 (number 1 1) ∷ []) ∷
    defines_function 2 (int_words 2) (codes "g") (no_params 2) (states (return_value 2 None) ∷ []) ∷
    plain_main 3 ∷ []) ∷
    [])
    ≡ (32, 1) ∷ (32, 1) ∷ (32, 4) ∷ (32, 3) ∷ (32, 1) ∷ []
unfolding answers
mismatches = refl

-- a size of what has none: 33
incomplete : answers Ilp32 (
    -- struct s { struct s x; };int main(void) { return 0; }
    (completes (struct_of 1 (codes "s") (field 1 (struct_words 1 (codes "s")) (codes "x") ∷ [])) ∷ plain_main 1 ∷ []) ∷
    -- struct t *p; struct t x;int main(void) { return 0; }
    (global 1 (struct_words 1 (codes "t")) (pointer 1 (codes "p")) ∷
    global 1 (struct_words 1 (codes "t")) (variable 1 (codes "x")) ∷
    plain_main 1 ∷ []) ∷
    -- int f(void x);int main(void) { return 0; }
    (prototype (head 1 (int_words 1) [] (codes "f") (params 1 (takes 1 (void_word_at 1) (codes "x") ∷ []))) ∷
    plain_main 1 ∷ []) ∷
    -- void f(void a[]);int main(void) { return 0; }
    (prototype
    (head 1 (void_words 1) [] (codes "f") (params 1 (param 1 (void_word_at 1) [] (Some (codes "a")) (None ∷ []) ∷ []))) ∷
    plain_main 1 ∷ []) ∷
    -- struct o *p; void f(struct o a[2]);int main(void) { return 0; }
    (global 1 (struct_words 1 (codes "o")) (pointer 1 (codes "p")) ∷
    prototype
    (head 1 (void_words 1) [] (codes "f")
    (params 1 (param 1 (struct_at 1 (codes "o")) [] (Some (codes "a")) (Some (number 1 2) ∷ []) ∷ []))) ∷
    plain_main 1 ∷ []) ∷
    -- void f(void *a[]);int main(void) { return 0; }
    (prototype
    (head 1 (void_words 1) [] (codes "f")
    (params 1 (param 1 (void_word_at 1) (0 ∷ []) (Some (codes "a")) (None ∷ []) ∷ []))) ∷
    plain_main 1 ∷ []) ∷
    -- struct o x;
    -- int y = z;
    -- int main(void) { return 0; }
    (global 1 (struct_words 1 (codes "o")) (variable 1 (codes "x")) ∷
    global 2 (int_words 2) (variable_of 2 (codes "y") (id 2 (codes "z"))) ∷
    plain_main 3 ∷ []) ∷
    -- int main(void) {
    --  void v;
    --  int v;
    --  return 0;
    -- }
    (main_at 1
    (local 2 (void_words 2) (variable 2 (codes "v")) ∷
    local 3 (int_words 3) (variable 3 (codes "v")) ∷
    returns 4 (zero_at 4) ∷ []) ∷ []) ∷
    -- struct s { struct s a; int a; };
    -- int main(void) { return 0; }
    (completes
    (struct_of 1 (codes "s")
    (field 1 (struct_words 1 (codes "s")) (codes "a") ∷ field 1 (int_words 1) (codes "a") ∷ [])) ∷
    plain_main 2 ∷ []) ∷
    -- int main(void) {
    -- struct o *p;
    -- p = NULL;
    -- return sizeof *p;
    -- x = 1;
    -- return 0;
    -- }
    (main_at 1
    (local 2 (struct_words 2 (codes "o")) (pointer 2 (codes "p")) ∷
    sets 3 (id 3 (codes "p")) (id 3 (codes "NULL")) ∷
    returns 4 (sizeof_expr 4 (unary 4 mark.star (id 4 (codes "p")))) ∷
    sets 5 (id 5 (codes "x")) (number 5 1) ∷
    returns 6 (zero_at 6) ∷ []) ∷ []) ∷
    [])
    ≡ (33, 1) ∷ (33, 1) ∷ (33, 1) ∷ (33, 1) ∷ (33, 1) ∷ (0, 0) ∷ (33, 1) ∷ (33, 2) ∷ (33, 1) ∷ (33, 4) ∷ []
unfolding answers
incomplete = refl

-- between pointers and integers: 34
mixed : answers Ilp32 (
    -- int main(void) {
    -- int x; int *p;
    -- x = p;
    -- p = 1;
    -- return 0;
    -- }
    (main_at 1
    (local 2 (int_words 2) (variable 2 (codes "x")) ∷
    local 2 (int_words 2) (pointer 2 (codes "p")) ∷
    sets 3 (id 3 (codes "x")) (id 3 (codes "p")) ∷
    sets 4 (id 4 (codes "p")) (number 4 1) ∷
    returns 5 (zero_at 5) ∷ []) ∷ []) ∷
    -- int main(void) {
    -- int *p;
    -- p = (int *)5;
    -- p = (long)p;
    -- return 0;
    -- }
    (main_at 1
    (local 2 (int_words 2) (pointer 2 (codes "p")) ∷
    sets 3 (id 3 (codes "p")) (cast 3 (type_name 3 (int_word_at 3) (0 ∷ [])) (number 3 5)) ∷
    sets 4 (id 4 (codes "p")) (cast 4 (type_name 4 (long_word_at 4) []) (id 4 (codes "p"))) ∷
    returns 5 (zero_at 5) ∷ []) ∷ []) ∷
    -- int main(void) {
    -- uint8_t *p;
    -- if (p == 0x1000) q = 1;
    -- return 0;
    -- }
    (main_at 1
    (local 2 (typedef_words 2 (codes "uint8_t")) (pointer 2 (codes "p")) ∷
    states
    (if_then 3 (binary 3 mark.equal_equal (id 3 (codes "p")) (literal 3 4096 false false 0))
    (evaluate 3 (Some (assign 3 mark.equal (id 3 (codes "q")) (number 3 1))))) ∷
    returns 4 (zero_at 4) ∷ []) ∷ []) ∷
    [])
    ≡ (34, 3) ∷ (34, 3) ∷ (34, 3) ∷ []
unfolding answers
mixed = refl

-- numbers of arguments: 39
arities : answers Ilp32 (
    -- void f(int a) { }
    -- int main(void) {
    -- f();
    -- f(1, x);
    -- return 0;
    -- }
    (defines_function 1 (void_words 1) (codes "f") (params 1 (takes 1 (int_word_at 1) (codes "a") ∷ [])) [] ∷
    main_at 2
    (does_call 3 (codes "f") [] ∷
    does_call 4 (codes "f") (number 4 1 ∷ id 4 (codes "x") ∷ []) ∷
    returns 5 (zero_at 5) ∷ []) ∷ []) ∷
    -- int main(void) {
    -- ep_out_u8();
    -- ep_out_u8(1, 2);
    -- return 0;
    -- }
    (main_at 1
    (does_call 2 (codes "ep_out_u8") [] ∷
    does_call 3 (codes "ep_out_u8") (number 3 1 ∷ number 3 2 ∷ []) ∷
    returns 4 (zero_at 4) ∷ []) ∷ []) ∷
    -- int main(void) {
    -- int x;
    -- memset(&x, 0);
    -- x.a = 1;
    -- return 0;
    -- }
    (main_at 1
    (local 2 (int_words 2) (variable 2 (codes "x")) ∷
    does_call 3 (codes "memset") (address_of 3 (codes "x") ∷ zero_at 3 ∷ []) ∷
    sets 4 (member_of 4 (id 4 (codes "x")) (codes "a")) (number 4 1) ∷
    returns 5 (zero_at 5) ∷ []) ∷ []) ∷
    [])
    ≡ (39, 3) ∷ (39, 2) ∷ (39, 3) ∷ []
unfolding answers
arities = refl

-- members that aren't there: 40
members : answers Ilp32 (
    -- void f(struct t *p) { p->a = q; }
    -- int main(void) { return 0; }
    (defines_function 1 (void_words 1) (codes "f")
    (params 1 (takes_pointer 1 (struct_at 1 (codes "t")) (codes "p") ∷ []))
    (sets 1 (arrow 1 (id 1 (codes "p")) (codes "a")) (id 1 (codes "q")) ∷ []) ∷
    plain_main 2 ∷ []) ∷
    -- struct s { int a; };
    -- int main(void) {
    -- struct s v;
    -- v.a = 1;
    -- v.b = w;
    -- return 0;
    -- }
    (completes (struct_of 1 (codes "s") (field 1 (int_words 1) (codes "a") ∷ [])) ∷
    main_at 2
    (local 3 (struct_words 3 (codes "s")) (variable 3 (codes "v")) ∷
    sets 4 (member_of 4 (id 4 (codes "v")) (codes "a")) (number 4 1) ∷
    sets 5 (member_of 5 (id 5 (codes "v")) (codes "b")) (id 5 (codes "w")) ∷
    returns 6 (zero_at 6) ∷ []) ∷ []) ∷
    -- union u { uint16_t h; };
    -- int main(void) {
    -- union u v, *p;
    -- p = &v;
    -- p->w = 1;
    -- p->x = p;
    -- return 0;
    -- }
    (completes (union_of 1 (codes "u") (field 1 (typedef_words 1 (codes "uint16_t")) (codes "h") ∷ [])) ∷
    main_at 2
    (local 3 (union_words 3 (codes "u")) (object 3 (codes "v") ∷ pointer_object 3 (codes "p") ∷ []) ∷
    sets 4 (id 4 (codes "p")) (address_of 4 (codes "v")) ∷
    sets 5 (arrow 5 (id 5 (codes "p")) (codes "w")) (number 5 1) ∷
    sets 6 (arrow 6 (id 6 (codes "p")) (codes "x")) (id 6 (codes "p")) ∷
    returns 7 (zero_at 7) ∷ []) ∷ []) ∷
    [])
    ≡ (40, 1) ∷ (40, 5) ∷ (40, 5) ∷ []
unfolding answers
members = refl

-- no objects: 41
no_objects : answers Ilp32 (
    -- int main(void) {
    -- 1 = 2;
    -- y = 3;
    -- return 0;
    -- }
    (main_at 1
    (sets 2 (number 2 1) (number 2 2) ∷ sets 3 (id 3 (codes "y")) (number 3 3) ∷ returns 4 (zero_at 4) ∷ []) ∷ []) ∷
    -- int main(void) {
    -- int x;
    -- x + 1;
    -- &(x + 1);
    -- y = 1;
    -- return 0;
    -- }
    (main_at 1
    (local 2 (int_words 2) (variable 2 (codes "x")) ∷
    does 3 (binary 3 mark.plus (id 3 (codes "x")) (number 3 1)) ∷
    does 4 (unary 4 mark.ampersand (binary 4 mark.plus (id 4 (codes "x")) (number 4 1))) ∷
    sets 5 (id 5 (codes "y")) (number 5 1) ∷
    returns 6 (zero_at 6) ∷ []) ∷ []) ∷
    -- int main(void) {
    -- int x;
    -- -x = 1;
    -- 5++;
    -- return 0;
    -- }
    (main_at 1
    (local 2 (int_words 2) (variable 2 (codes "x")) ∷
    sets 3 (unary 3 mark.minus (id 3 (codes "x"))) (number 3 1) ∷
    does 4 (post_increment 4 (number 4 5)) ∷
    returns 5 (zero_at 5) ∷ []) ∷ []) ∷
    -- int main(void) {
    -- int x;
    -- (x) = 1;
    -- 5++;
    -- x = y;
    -- return 0;
    -- }
    (main_at 1
    (local 2 (int_words 2) (variable 2 (codes "x")) ∷
    sets 3 (id 3 (codes "x")) (number 3 1) ∷
    does 4 (post_increment 4 (number 4 5)) ∷
    sets 5 (id 5 (codes "x")) (id 5 (codes "y")) ∷
    returns 6 (zero_at 6) ∷ []) ∷ []) ∷
    [])
    ≡ (41, 2) ∷ (41, 4) ∷ (41, 3) ∷ (41, 4) ∷ []
unfolding answers
no_objects = refl

-- aggregates as parameters and results: 43
by_value : answers Ilp32 (
    -- typedef int T[3];
    -- T f(void);int main(void) { return 0; }
    (typedefs (typedef 1 (int_words 1) (declarator 1 [] (codes "T") (Some (number 1 3) ∷ []) ∷ [])) ∷
    prototype (head 2 (typedef_words 2 (codes "T")) [] (codes "f") (no_params 2)) ∷
    plain_main 2 ∷ []) ∷
    -- struct s { int a; };
    -- int f(struct s x);int main(void) { return 0; }
    (completes (struct_of 1 (codes "s") (field 1 (int_words 1) (codes "a") ∷ [])) ∷
    prototype (head 2 (int_words 2) [] (codes "f") (params 2 (takes 2 (struct_at 2 (codes "s")) (codes "x") ∷ []))) ∷
    plain_main 2 ∷ []) ∷
    -- struct s { int a; };
    -- void f(struct s v) { x = 1; }
    -- int main(void) { return 0; }
    (completes (struct_of 1 (codes "s") (field 1 (int_words 1) (codes "a") ∷ [])) ∷
    defines_function 2 (void_words 2) (codes "f") (params 2 (takes 2 (struct_at 2 (codes "s")) (codes "v") ∷ []))
    (sets 2 (id 2 (codes "x")) (number 2 1) ∷ []) ∷
    plain_main 3 ∷ []) ∷
    -- struct s { int a; };
    -- struct s f(void);
    -- int x = y;
    -- int main(void) { return 0; }
    (completes (struct_of 1 (codes "s") (field 1 (int_words 1) (codes "a") ∷ [])) ∷
    prototype (head 2 (struct_words 2 (codes "s")) [] (codes "f") (no_params 2)) ∷
    global 3 (int_words 3) (variable_of 3 (codes "x") (id 3 (codes "y"))) ∷
    plain_main 4 ∷ []) ∷
    -- typedef int a[2];
    -- a f(int x[0]);
    -- int main(void) { return 0; }
    (typedefs (typedef 1 (int_words 1) (declarator 1 [] (codes "a") (Some (number 1 2) ∷ []) ∷ [])) ∷
    prototype
    (head 2 (typedef_words 2 (codes "a")) [] (codes "f")
    (params 2 (param 2 (int_word_at 2) [] (Some (codes "x")) (Some (zero_at 2) ∷ []) ∷ []))) ∷
    plain_main 3 ∷ []) ∷
    [])
    ≡ (43, 2) ∷ (43, 2) ∷ (43, 2) ∷ (43, 2) ∷ (43, 2) ∷ []
unfolding answers
by_value = refl

-- pointers of different types: 44
foreign_pointers : answers Ilp32 (
    -- int main(void) {
    -- uint32_t *p; uint8_t *q;
    -- p = q;
    -- q = r;
    -- return 0;
    -- }
    (main_at 1
    (local 2 (typedef_words 2 (codes "uint32_t")) (pointer 2 (codes "p")) ∷
    local 2 (typedef_words 2 (codes "uint8_t")) (pointer 2 (codes "q")) ∷
    sets 3 (id 3 (codes "p")) (id 3 (codes "q")) ∷
    sets 4 (id 4 (codes "q")) (id 4 (codes "r")) ∷
    returns 5 (zero_at 5) ∷ []) ∷ []) ∷
    -- void f(int *p) { *p = 1; }
    -- int main(void) {
    -- uint8_t c;
    -- f(&c);
    -- f(&d);
    -- return 0;
    -- }
    (defines_function 1 (void_words 1) (codes "f") (params 1 (takes_pointer 1 (int_word_at 1) (codes "p") ∷ []))
    (sets 1 (unary 1 mark.star (id 1 (codes "p"))) (number 1 1) ∷ []) ∷
    main_at 2
    (local 3 (typedef_words 3 (codes "uint8_t")) (variable 3 (codes "c")) ∷
    does_call 4 (codes "f") (address_of 4 (codes "c") ∷ []) ∷
    does_call 5 (codes "f") (address_of 5 (codes "d") ∷ []) ∷
    returns 6 (zero_at 6) ∷ []) ∷ []) ∷
    -- int main(void) {
    -- int *p; unsigned *q;
    -- if (p != q)
    --  p = (int *)1;
    -- return 0;
    -- }
    (main_at 1
    (local 2 (int_words 2) (pointer 2 (codes "p")) ∷
    local 2 (unsigned_words 2) (pointer 2 (codes "q")) ∷
    states
    (if_then 3 (binary 3 mark.not_equal (id 3 (codes "p")) (id 3 (codes "q")))
    (evaluate 4
    (Some (assign 4 mark.equal (id 4 (codes "p")) (cast 4 (type_name 4 (int_word_at 4) (0 ∷ [])) (number 4 1)))))) ∷
    returns 5 (zero_at 5) ∷ []) ∷ []) ∷
    [])
    ≡ (44, 3) ∷ (44, 4) ∷ (44, 3) ∷ []
unfolding answers
foreign_pointers = refl
