-- Loops, jumps, typedefs and members.
use Rattle.std.proofs.Common.{None, Some, [], refl, ◌∷◌, ◌≡◌}
use Rattle.std.specs.Prelude.{codes}
use Rattle.ep_int.specs.declared.types.Model.TheVariants.{Ilp32}
use Rattle.ep_ast.specs.Declaration.{aggregate, body, listed, single, to_members, to_values}
use Rattle.ep_ast.specs.Expression.{assign, cast, id}
use Rattle.ep_ast.specs.Mark as mark
use Rattle.ep_ast.specs.Statement.{block, break_loop, completes, continue_loop, declares, do_loop, evaluate}
use Rattle.ep_ast.specs.Statement.{evaluates, for_loop, if_then, prototype, states, to_parts, typedefs, while_loop}
use Rattle.ep_elaboration.proofs.Opened.{answers}
use Rattle.ep_elaboration.proofs.Trees.{members_of}
use Rattle.ep_elaboration.proofs.Trees.{address_of, array_field, call_of, declaration, declarator, does_call, field}
use Rattle.ep_elaboration.proofs.Trees.{global, head, in_block, init, int_words, local, main_at, number, object_of}
use Rattle.ep_elaboration.proofs.Trees.{param, params, plain_main, pointer, pointer_field, sets, struct_of}
use Rattle.ep_elaboration.proofs.Trees.{struct_words, type_name, typedef, typedef_at, typedef_words, variable}
use Rattle.ep_elaboration.proofs.Trees.{variable_of, void_words, zero_at}

-- in this order of kinds and lines
loop_1 : answers Ilp32 (
    -- int main(void) { uint32_t x; uint32_t *p = &x; x = (uint32_t)p; }
    (main_at 1
    (local 1 (typedef_words 1 (codes "uint32_t")) (variable 1 (codes "x")) ∷
    local 1 (typedef_words 1 (codes "uint32_t"))
    (init (declarator 1 (0 ∷ []) (codes "p") []) (Some (single (address_of 1 (codes "x")))) ∷ []) ∷
    sets 1 (id 1 (codes "x"))
    (cast 1 (type_name 1 (typedef_at 1 (codes "uint32_t")) []) (id 1 (codes "p"))) ∷ []) ∷ []) ∷
    -- int main(void) { uint8_t a[3] = {1, 2}; ep_write(a, 3); }
    (main_at 1
    (local 1 (typedef_words 1 (codes "uint8_t"))
    (init (declarator 1 [] (codes "a") (Some (number 1 3) ∷ []))
    (Some (listed 1 (to_values (single (number 1 1) ∷ single (number 1 2) ∷ [])))) ∷ []) ∷
    does_call 1 (codes "ep_write") (id 1 (codes "a") ∷ number 1 3 ∷ []) ∷ []) ∷ []) ∷
    -- int main(void) { uint32_t x; memset(&x, 263, 4); ep_out_u32(x); }
    (main_at 1
    (local 1 (typedef_words 1 (codes "uint32_t")) (variable 1 (codes "x")) ∷
    does_call 1 (codes "memset") (address_of 1 (codes "x") ∷ number 1 263 ∷ number 1 4 ∷ []) ∷
    does_call 1 (codes "ep_out_u32") (id 1 (codes "x") ∷ []) ∷ []) ∷ []) ∷
    -- int main(void) {
    -- for (int i = 0; ; ) {
    -- int i = 1;
    -- }
    -- }
    (main_at 1
    (states
    (for_loop 2 (declares (declaration 2 (int_words 2) (variable_of 2 (codes "i") (zero_at 2)))) None None
    (block 2 (to_parts (local 3 (int_words 3) (variable_of 3 (codes "i") (number 3 1)) ∷ [])))) ∷ []) ∷ []) ∷
    -- int main(void) {
    -- for (int i = 0, i = 1; ; ) ;
    -- }
    (main_at 1
    (states
    (for_loop 2
    (declares
    (declaration 2 (int_words 2) (object_of 2 (codes "i") (zero_at 2) ∷ object_of 2 (codes "i") (number 2 1) ∷ [])))
    None None (evaluate 2 None)) ∷ []) ∷ []) ∷
    -- int main(void) {
    -- for (int i = 0; ; ) ;
    -- i = 1;
    -- }
    (main_at 1
    (states
    (for_loop 2 (declares (declaration 2 (int_words 2) (variable_of 2 (codes "i") (zero_at 2)))) None None
    (evaluate 2 None)) ∷
    sets 3 (id 3 (codes "i")) (number 3 1) ∷ []) ∷ []) ∷
    -- int main(void) {
    -- for (;; x = ep_in_u8()) ;
    -- }
    (main_at 1
    (states
    (for_loop 2 (evaluates None) None (Some (assign 2 mark.equal (id 2 (codes "x")) (call_of 2 (codes "ep_in_u8") [])))
    (evaluate 2 None)) ∷ []) ∷ []) ∷
    -- int x;
    -- int main(void) {
    -- for (;; x = ep_in_u8()) ;
    -- }
    (global 1 (int_words 1) (variable 1 (codes "x")) ∷
    main_at 2
    (states
    (for_loop 3 (evaluates None) None (Some (assign 3 mark.equal (id 3 (codes "x")) (call_of 3 (codes "ep_in_u8") [])))
    (evaluate 3 None)) ∷ []) ∷ []) ∷
    [])
    ≡ (34, 1) ∷ (0, 0) ∷ (0, 0) ∷ (0, 0) ∷ (31, 2) ∷ (30, 3) ∷ (30, 2) ∷ (18, 3) ∷ []
unfolding answers
loop_1 = refl

-- in this order of kinds and lines
loop_2 : answers Ilp32 (
    -- int main(void) {
    -- { int x; }
    -- x = 1;
    -- }
    (main_at 1
    (in_block 2 (local 2 (int_words 2) (variable 2 (codes "x")) ∷ []) ∷
    sets 3 (id 3 (codes "x")) (number 3 1) ∷ []) ∷ []) ∷
    -- int x;
    -- int main(void) {
    -- if (x)
    -- break;
    -- }
    (global 1 (int_words 1) (variable 1 (codes "x")) ∷
    main_at 2 (states (if_then 3 (id 3 (codes "x")) (break_loop 4)) ∷ []) ∷ []) ∷
    -- int main(void) {
    -- do break; while (0);
    -- while (1) { if (1) continue; }
    -- for (;;) break;
    -- }
    (main_at 1
    (states (do_loop 2 (break_loop 2) (zero_at 2)) ∷
    states (while_loop 3 (number 3 1) (block 3 (to_parts (states (if_then 3 (number 3 1) (continue_loop 3)) ∷ [])))) ∷
    states (for_loop 4 (evaluates None) None None (break_loop 4)) ∷ []) ∷ []) ∷
    -- typedef int t[];
    -- int main(void) { return 0; }
    (typedefs (typedef 1 (int_words 1) (declarator 1 [] (codes "t") (None ∷ []) ∷ [])) ∷ plain_main 2 ∷ []) ∷
    -- typedef struct o t;
    -- t *p;
    -- int main(void) { return 0; }
    (typedefs (typedef 1 (struct_words 1 (codes "o")) (declarator 1 [] (codes "t") [] ∷ [])) ∷
    global 2 (typedef_words 2 (codes "t")) (pointer 2 (codes "p")) ∷
    plain_main 3 ∷ []) ∷
    -- typedef struct o t;
    -- t v;
    -- int main(void) { return 0; }
    (typedefs (typedef 1 (struct_words 1 (codes "o")) (declarator 1 [] (codes "t") [] ∷ [])) ∷
    global 2 (typedef_words 2 (codes "t")) (variable 2 (codes "v")) ∷
    plain_main 3 ∷ []) ∷
    -- typedef void t;
    -- t *f(t);
    -- int main(void) { return 0; }
    (typedefs (typedef 1 (void_words 1) (declarator 1 [] (codes "t") [] ∷ [])) ∷
    prototype
    (head 2 (typedef_words 2 (codes "t")) (0 ∷ []) (codes "f")
    (params 2 (param 2 (typedef_at 2 (codes "t")) [] None [] ∷ []))) ∷
    plain_main 3 ∷ []) ∷
    -- struct s { int a, *a; };
    -- int main(void) { return 0; }
    (completes
    (struct_of 1 (codes "s")
    (members_of 1 (int_words 1)
    (declarator 1 [] (codes "a") [] ∷ declarator 1 (0 ∷ []) (codes "a") [] ∷ []) ∷ [])) ∷
    plain_main 2 ∷ []) ∷
    [])
    ≡ (30, 3) ∷ (47, 4) ∷ (0, 0) ∷ (17, 1) ∷ (0, 0) ∷ (33, 2) ∷ (33, 2) ∷ (31, 1) ∷ []
unfolding answers
loop_2 = refl

-- in this order of kinds and lines
loop_3 : answers Ilp32 (
    -- struct s { int a[]; };
    -- int main(void) { return 0; }
    (completes
    (struct_of 1 (codes "s") (members_of 1 (int_words 1) (declarator 1 [] (codes "a") (None ∷ []) ∷ []) ∷ [])) ∷
    plain_main 2 ∷ []) ∷
    -- struct s { void a; };
    -- int main(void) { return 0; }
    (completes (struct_of 1 (codes "s") (field 1 (void_words 1) (codes "a") ∷ [])) ∷ plain_main 2 ∷ []) ∷
    -- struct s { void a[3]; };
    -- int main(void) { return 0; }
    (completes (struct_of 1 (codes "s") (array_field 1 (void_words 1) (codes "a") (number 1 3) ∷ [])) ∷
    plain_main 2 ∷ []) ∷
    -- struct s { struct s *a[2]; struct { struct s *b; } c; };
    -- int main(void) { return 0; }
    (completes
    (struct_of 1 (codes "s")
    (members_of 1 (struct_words 1 (codes "s"))
    (declarator 1 (0 ∷ []) (codes "a") (Some (number 1 2) ∷ []) ∷ []) ∷
    field 1
    (body
    (aggregate 1 mark.struct_word None
    (to_members (pointer_field 1 (struct_words 1 (codes "s")) (codes "b") ∷ []))) ∷ [])
    (codes "c") ∷ [])) ∷
    plain_main 2 ∷ []) ∷
    [])
    ≡ (17, 1) ∷ (33, 1) ∷ (33, 1) ∷ (0, 0) ∷ []
unfolding answers
loop_3 = refl
