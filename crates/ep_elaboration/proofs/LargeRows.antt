-- Larger programs, which mean well-formed ones in both data models.
use Rattle.std.proofs.Common.{List, None, Some, [], refl, true, ◌∷◌, ◌≡◌}
use Rattle.std.specs.Prelude.{codes}
use Rattle.ep_int.specs.declared.types.Model.TheVariants.{Ilp32, Lp64}
use Rattle.ep_ast.specs.Declaration.{listed, single, to_values}
use Rattle.ep_ast.specs.Expression.{arrow, assign, binary, conditional, id, index, post_increment, sizeof_expr}
use Rattle.ep_ast.specs.Expression.{sizeof_type, unary}
use Rattle.ep_ast.specs.Mark as mark
use Rattle.ep_ast.specs.Statement.{Item, arm, block, break_loop, completes, continue_loop, declares, defines, do_loop}
use Rattle.ep_ast.specs.Statement.{evaluate, evaluates, for_loop, functions_by_order, if_else, if_then, prototype}
use Rattle.ep_ast.specs.Statement.{return_value, states, to_parts, to_stmts, two_arms, while_loop}
use Rattle.ep_ast.specs.declared.orders.NamedOrder.TheVariants.{Big, Little}
use Rattle.ep_elaboration.proofs.Opened.{is_sound}
use Rattle.ep_elaboration.proofs.Trees.{address_of, array, array_field, block_at, call_of, char_word_at, char_words}
use Rattle.ep_elaboration.proofs.Trees.{declaration, declarator, defined, defines_function, does, does_call, field}
use Rattle.ep_elaboration.proofs.Trees.{function, global, head, in_block, init, int_word_at, int_words, local}
use Rattle.ep_elaboration.proofs.Trees.{main_at, member_of, no_params, number, object, object_of, one_word, param}
use Rattle.ep_elaboration.proofs.Trees.{params, pointer_field, returns, sets, struct_at, struct_of, struct_words}
use Rattle.ep_elaboration.proofs.Trees.{takes, takes_pointer, two_words, type_name, union_of, union_words}
use Rattle.ep_elaboration.proofs.Trees.{unsigned_word_at, unsigned_words, variable, variable_of, void_words, zero_at}

-- struct p { int x; char y[2]; struct p *n; };
-- union u { short h; int w; };
-- struct q { struct p a[2]; union u b; unsigned char c; };
-- struct q g = {{{1, {2, 3}, 0}, {4, {5}}}, {6}, 300};
-- int t[] = {1, 2, sizeof t};
-- int m[2][3] = {{1}, {2, 3}};
-- long long w = 1 << 3;
-- int *z = 0;
-- int main(void) {
--   struct q l = {{g.a[0], {1, {2}}}, {3}};
--   struct p s = l.a[1];
--   int n[2] = {1, 2}, k = n[0];
--   return k;
-- }
abbrev lists : List Item
lists =
    completes
    (struct_of 1 (codes "p")
    (field 1 (int_words 1) (codes "x") ∷
    array_field 1 (char_words 1) (codes "y") (number 1 2) ∷
    pointer_field 1 (struct_words 1 (codes "p")) (codes "n") ∷ [])) ∷
    completes
    (union_of 2 (codes "u")
    (field 2 (one_word 2 mark.short_word) (codes "h") ∷ field 2 (int_words 2) (codes "w") ∷ [])) ∷
    completes
    (struct_of 3 (codes "q")
    (array_field 3 (struct_words 3 (codes "p")) (codes "a") (number 3 2) ∷
    field 3 (union_words 3 (codes "u")) (codes "b") ∷
    field 3 (two_words 3 mark.unsigned_word mark.char_word) (codes "c") ∷ [])) ∷
    global 4 (struct_words 4 (codes "q"))
    (init (declarator 4 [] (codes "g") [])
    (Some
    (listed 4
    (to_values
    (listed 4
    (to_values
    (listed 4
    (to_values
    (single (number 4 1) ∷
    listed 4 (to_values (single (number 4 2) ∷ single (number 4 3) ∷ [])) ∷
    single (zero_at 4) ∷ [])) ∷
    listed 4 (to_values (single (number 4 4) ∷ listed 4 (to_values (single (number 4 5) ∷ [])) ∷ [])) ∷ [])) ∷
    listed 4 (to_values (single (number 4 6) ∷ [])) ∷
    single (number 4 300) ∷ [])))) ∷ []) ∷
    global 5 (int_words 5)
    (init (declarator 5 [] (codes "t") (None ∷ []))
    (Some
    (listed 5
    (to_values (single (number 5 1) ∷ single (number 5 2) ∷ single (sizeof_expr 5 (id 5 (codes "t"))) ∷ [])))) ∷ []) ∷
    global 6 (int_words 6)
    (init (declarator 6 [] (codes "m") (Some (number 6 2) ∷ Some (number 6 3) ∷ []))
    (Some
    (listed 6
    (to_values
    (listed 6 (to_values (single (number 6 1) ∷ [])) ∷
    listed 6 (to_values (single (number 6 2) ∷ single (number 6 3) ∷ [])) ∷ [])))) ∷ []) ∷
    global 7 (two_words 7 mark.long_word mark.long_word)
    (variable_of 7 (codes "w") (binary 7 mark.left_shift (number 7 1) (number 7 3))) ∷
    global 8 (int_words 8) (init (declarator 8 (0 ∷ []) (codes "z") []) (Some (single (zero_at 8))) ∷ []) ∷
    main_at 9
    (local 10 (struct_words 10 (codes "q"))
    (init (declarator 10 [] (codes "l") [])
    (Some
    (listed 10
    (to_values
    (listed 10
    (to_values
    (single (index 10 (member_of 10 (id 10 (codes "g")) (codes "a")) (zero_at 10)) ∷
    listed 10 (to_values (single (number 10 1) ∷ listed 10 (to_values (single (number 10 2) ∷ [])) ∷ [])) ∷ [])) ∷
    listed 10 (to_values (single (number 10 3) ∷ [])) ∷ [])))) ∷ []) ∷
    local 11 (struct_words 11 (codes "p"))
    (variable_of 11 (codes "s") (index 11 (member_of 11 (id 11 (codes "l")) (codes "a")) (number 11 1))) ∷
    local 12 (int_words 12)
    (init (declarator 12 [] (codes "n") (Some (number 12 2) ∷ []))
    (Some (listed 12 (to_values (single (number 12 1) ∷ single (number 12 2) ∷ [])))) ∷
    object_of 12 (codes "k") (index 12 (id 12 (codes "n")) (zero_at 12)) ∷ []) ∷
    returns 13 (id 13 (codes "k")) ∷ []) ∷ []

sound_lists : (is_sound Ilp32 lists ≡ true) × (is_sound Lp64 lists ≡ true)
unfolding is_sound
sound_lists = (refl, refl)

-- int f(int a, int *b);
-- int g(void) { int r; r = f(1, 0); return r; }
-- int f(int a, int *b)
-- {
--   int i, s = 0;
--   for (i = 0; i < a; i++) s += i;
--   for (int j = 0, k = 1; ; j++) { if (j > k) break; else continue; }
--   do { int q = 2; s -= q; } while (s > 0);
--   while (1) { if (s) break; ; }
--   for (;;) return s;
--   return 0;
-- }
-- int main(void) { int r; r = g(); ep_out_u8(r); { } return r; }
abbrev loops : List Item
loops =
    prototype
    (head 1 (int_words 1) [] (codes "f")
    (params 1 (takes 1 (int_word_at 1) (codes "a") ∷ takes_pointer 1 (int_word_at 1) (codes "b") ∷ []))) ∷
    defines_function 2 (int_words 2) (codes "g") (no_params 2)
    (local 2 (int_words 2) (variable 2 (codes "r")) ∷
    sets 2 (id 2 (codes "r")) (call_of 2 (codes "f") (number 2 1 ∷ zero_at 2 ∷ [])) ∷
    returns 2 (id 2 (codes "r")) ∷ []) ∷
    defines
    (function
    (head 3 (int_words 3) [] (codes "f")
    (params 3 (takes 3 (int_word_at 3) (codes "a") ∷ takes_pointer 3 (int_word_at 3) (codes "b") ∷ [])))
    (block_at 4
    (local 5 (int_words 5) (object 5 (codes "i") ∷ object_of 5 (codes "s") (zero_at 5) ∷ []) ∷
    states
    (for_loop 6 (evaluates (Some (assign 6 mark.equal (id 6 (codes "i")) (zero_at 6))))
    (Some (binary 6 mark.less (id 6 (codes "i")) (id 6 (codes "a")))) (Some (post_increment 6 (id 6 (codes "i"))))
    (evaluate 6 (Some (assign 6 mark.plus_equal (id 6 (codes "s")) (id 6 (codes "i")))))) ∷
    states
    (for_loop 7
    (declares
    (declaration 7 (int_words 7) (object_of 7 (codes "j") (zero_at 7) ∷ object_of 7 (codes "k") (number 7 1) ∷ [])))
    None (Some (post_increment 7 (id 7 (codes "j"))))
    (block 7
    (to_parts
    (states
    (if_else 7 (binary 7 mark.greater (id 7 (codes "j")) (id 7 (codes "k"))) (break_loop 7)
    (continue_loop 7)) ∷ [])))) ∷
    states
    (do_loop 8
    (block 8
    (to_parts
    (local 8 (int_words 8) (variable_of 8 (codes "q") (number 8 2)) ∷
    does 8 (assign 8 mark.minus_equal (id 8 (codes "s")) (id 8 (codes "q"))) ∷ [])))
    (binary 8 mark.greater (id 8 (codes "s")) (zero_at 8))) ∷
    states
    (while_loop 9 (number 9 1)
    (block 9 (to_parts (states (if_then 9 (id 9 (codes "s")) (break_loop 9)) ∷ states (evaluate 9 None) ∷ [])))) ∷
    states (for_loop 10 (evaluates None) None None (return_value 10 (Some (id 10 (codes "s"))))) ∷
    returns 11 (zero_at 11) ∷ []))) ∷
    main_at 13
    (local 13 (int_words 13) (variable 13 (codes "r")) ∷
    sets 13 (id 13 (codes "r")) (call_of 13 (codes "g") []) ∷
    does_call 13 (codes "ep_out_u8") (id 13 (codes "r") ∷ []) ∷
    in_block 13 [] ∷
    returns 13 (id 13 (codes "r")) ∷ []) ∷ []

sound_loops : (is_sound Ilp32 loops ≡ true) × (is_sound Lp64 loops ≡ true)
unfolding is_sound
sound_loops = (refl, refl)

-- #if __BYTE_ORDER__ == __ORDER_LITTLE_ENDIAN__
-- unsigned swap(unsigned v) { unsigned t = v; return (t >> 8) | (v << 8); }
-- int other(void) { int r = 1; unsigned s; s = swap(1); return r; }
-- #else
-- unsigned swap(unsigned v) { return v; }
-- int other(void) { return 2; }
-- #endif
-- int main(void)
-- {
--   unsigned x = ep_in_u32();
-- #if __BYTE_ORDER__ == __ORDER_BIG_ENDIAN__
--   x = x + 1;
--   { int k = 2; x += k; }
-- #endif
--   x = swap(x);
-- #if __BYTE_ORDER__ == __ORDER_LITTLE_ENDIAN__
--   return 1;
-- #else
--   other();
-- #endif
-- }
abbrev arms : List Item
arms =
    functions_by_order 1 Little
    (defined 2 (unsigned_words 2) (codes "swap") (params 2 (takes 2 (unsigned_word_at 2) (codes "v") ∷ []))
    (local 2 (unsigned_words 2) (variable_of 2 (codes "t") (id 2 (codes "v"))) ∷
    returns 2
    (binary 2 mark.bar (binary 2 mark.right_shift (id 2 (codes "t")) (number 2 8))
    (binary 2 mark.left_shift (id 2 (codes "v")) (number 2 8))) ∷ []) ∷
    defined 3 (int_words 3) (codes "other") (no_params 3)
    (local 3 (int_words 3) (variable_of 3 (codes "r") (number 3 1)) ∷
    local 3 (unsigned_words 3) (variable 3 (codes "s")) ∷
    sets 3 (id 3 (codes "s")) (call_of 3 (codes "swap") (number 3 1 ∷ [])) ∷
    returns 3 (id 3 (codes "r")) ∷ []) ∷ [])
    (Some
    (defined 5 (unsigned_words 5) (codes "swap") (params 5 (takes 5 (unsigned_word_at 5) (codes "v") ∷ []))
    (returns 5 (id 5 (codes "v")) ∷ []) ∷
    defined 6 (int_words 6) (codes "other") (no_params 6) (returns 6 (number 6 2) ∷ []) ∷ [])) ∷
    defines
    (function (head 8 (int_words 8) [] (codes "main") (no_params 8))
    (block_at 9
    (local 10 (unsigned_words 10) (variable_of 10 (codes "x") (call_of 10 (codes "ep_in_u32") [])) ∷
    arm 11 Big
    (to_stmts
    (evaluate 12
    (Some (assign 12 mark.equal (id 12 (codes "x")) (binary 12 mark.plus (id 12 (codes "x")) (number 12 1)))) ∷
    block 13
    (to_parts
    (local 13 (int_words 13) (variable_of 13 (codes "k") (number 13 2)) ∷
    does 13 (assign 13 mark.plus_equal (id 13 (codes "x")) (id 13 (codes "k"))) ∷ [])) ∷ [])) ∷
    sets 15 (id 15 (codes "x")) (call_of 15 (codes "swap") (id 15 (codes "x") ∷ [])) ∷
    two_arms 16 Little (to_stmts (return_value 17 (Some (number 17 1)) ∷ []))
    (to_stmts (evaluate 19 (Some (call_of 19 (codes "other") [])) ∷ [])) ∷ []))) ∷ []

sound_arms : (is_sound Ilp32 arms ≡ true) × (is_sound Lp64 arms ≡ true)
unfolding is_sound
sound_arms = (refl, refl)

-- struct s { int a; struct s *n; };
-- struct s g;
-- void *v(struct s *p) { return p; }
-- int h(int a[], char b[][3], struct s *c) { return a[0] + b[1][2] + c->a; }
-- int main(void) {
--   struct s *q = v(&g), *r = &g, **e = &r;
--   char m[2][3] = {{1}};
--   int n[4];
--   int k = h(n, m, q);
--   memcpy(q, r, sizeof(struct s));
--   memset(m, 0, 6);
--   ep_read(m, 6);
--   ep_write(m, 6);
--   (*e)->n = 0;
--   r = r->n == 0 ? q : 0;
--   *q = *r;
--   if (q) k = q != r && !r;
--   k = ep_in_i8();
--   q->a = ep_in_u16();
--   return k;
-- }
abbrev pointers : List Item
pointers =
    completes
    (struct_of 1 (codes "s")
    (field 1 (int_words 1) (codes "a") ∷ pointer_field 1 (struct_words 1 (codes "s")) (codes "n") ∷ [])) ∷
    global 2 (struct_words 2 (codes "s")) (variable 2 (codes "g")) ∷
    defines
    (function
    (head 3 (void_words 3) (0 ∷ []) (codes "v") (params 3 (takes_pointer 3 (struct_at 3 (codes "s")) (codes "p") ∷ [])))
    (block_at 3 (returns 3 (id 3 (codes "p")) ∷ []))) ∷
    defines_function 4 (int_words 4) (codes "h")
    (params 4
    (param 4 (int_word_at 4) [] (Some (codes "a")) (None ∷ []) ∷
    param 4 (char_word_at 4) [] (Some (codes "b")) (None ∷ Some (number 4 3) ∷ []) ∷
    takes_pointer 4 (struct_at 4 (codes "s")) (codes "c") ∷ []))
    (returns 4
    (binary 4 mark.plus
    (binary 4 mark.plus (index 4 (id 4 (codes "a")) (zero_at 4))
    (index 4 (index 4 (id 4 (codes "b")) (number 4 1)) (number 4 2)))
    (arrow 4 (id 4 (codes "c")) (codes "a"))) ∷ []) ∷
    main_at 5
    (local 6 (struct_words 6 (codes "s"))
    (init (declarator 6 (0 ∷ []) (codes "q") [])
    (Some (single (call_of 6 (codes "v") (address_of 6 (codes "g") ∷ [])))) ∷
    init (declarator 6 (0 ∷ []) (codes "r") []) (Some (single (address_of 6 (codes "g")))) ∷
    init (declarator 6 (0 ∷ 0 ∷ []) (codes "e") []) (Some (single (address_of 6 (codes "r")))) ∷ []) ∷
    local 7 (char_words 7)
    (init (declarator 7 [] (codes "m") (Some (number 7 2) ∷ Some (number 7 3) ∷ []))
    (Some (listed 7 (to_values (listed 7 (to_values (single (number 7 1) ∷ [])) ∷ [])))) ∷ []) ∷
    local 8 (int_words 8) (array 8 (codes "n") (number 8 4)) ∷
    local 9 (int_words 9)
    (variable_of 9 (codes "k") (call_of 9 (codes "h") (id 9 (codes "n") ∷ id 9 (codes "m") ∷ id 9 (codes "q") ∷ []))) ∷
    does_call 10 (codes "memcpy")
    (id 10 (codes "q") ∷ id 10 (codes "r") ∷ sizeof_type 10 (type_name 10 (struct_at 10 (codes "s")) []) ∷ []) ∷
    does_call 11 (codes "memset") (id 11 (codes "m") ∷ zero_at 11 ∷ number 11 6 ∷ []) ∷
    does_call 12 (codes "ep_read") (id 12 (codes "m") ∷ number 12 6 ∷ []) ∷
    does_call 13 (codes "ep_write") (id 13 (codes "m") ∷ number 13 6 ∷ []) ∷
    sets 14 (arrow 14 (unary 14 mark.star (id 14 (codes "e"))) (codes "n")) (zero_at 14) ∷
    sets 15 (id 15 (codes "r"))
    (conditional 15 (binary 15 mark.equal_equal (arrow 15 (id 15 (codes "r")) (codes "n")) (zero_at 15))
    (id 15 (codes "q")) (zero_at 15)) ∷
    sets 16 (unary 16 mark.star (id 16 (codes "q"))) (unary 16 mark.star (id 16 (codes "r"))) ∷
    states
    (if_then 17 (id 17 (codes "q"))
    (evaluate 17
    (Some
    (assign 17 mark.equal (id 17 (codes "k"))
    (binary 17 mark.and_and (binary 17 mark.not_equal (id 17 (codes "q")) (id 17 (codes "r")))
    (unary 17 mark.exclamation (id 17 (codes "r")))))))) ∷
    sets 18 (id 18 (codes "k")) (call_of 18 (codes "ep_in_i8") []) ∷
    sets 19 (arrow 19 (id 19 (codes "q")) (codes "a")) (call_of 19 (codes "ep_in_u16") []) ∷
    returns 20 (id 20 (codes "k")) ∷ []) ∷ []

sound_pointers : (is_sound Ilp32 pointers ≡ true) × (is_sound Lp64 pointers ≡ true)
unfolding is_sound
sound_pointers = (refl, refl)
