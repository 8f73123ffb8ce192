-- Programs that are right in one data model alone, or refused in both for what a model decides.
use Rattle.std.proofs.Common.{List, None, Some, [], false, refl, true, ◌∷◌, ◌≡◌}
use Rattle.std.specs.Prelude.{codes}
use Rattle.ep_int.specs.declared.types.Model.TheVariants.{Ilp32, Lp64}
use Rattle.ep_ast.specs.Expression.{binary, cast, id, sizeof_type, unary}
use Rattle.ep_ast.specs.Mark as mark
use Rattle.ep_ast.specs.Statement.{Item, completes, functions_by_order, prototype}
use Rattle.ep_ast.specs.declared.orders.NamedOrder.TheVariants.{Little}
use Rattle.ep_elaboration.proofs.Opened.{all_sound, answers}
use Rattle.ep_elaboration.proofs.Trees.{members_of}
use Rattle.ep_elaboration.proofs.Trees.{address_of, array, array_field, declarator, defined, defines_function}
use Rattle.ep_elaboration.proofs.Trees.{does_call, global, head, init, int_word_at, int_words, literal, local}
use Rattle.ep_elaboration.proofs.Trees.{long_word_at, main_at, no_params, number, one_word, params, plain_main}
use Rattle.ep_elaboration.proofs.Trees.{pointer, returns, sets, struct_of, takes, takes_pointer, two_words, type_name}
use Rattle.ep_elaboration.proofs.Trees.{typedef_at, typedef_words, unsigned_words, variable, variable_of, void_words}
use Rattle.ep_elaboration.proofs.Trees.{zero_at}

-- right where long has 64 bits alone
abbrev with_long_of_64_bits : List (List Item)
with_long_of_64_bits =
    -- struct s { uint8_t a[1l << 40 >> 38]; };
    -- int main(void) { return 0; }
    (completes
    (struct_of 1 (codes "s")
    (array_field 1 (typedef_words 1 (codes "uint8_t")) (codes "a")
    (binary 1 mark.right_shift (binary 1 mark.left_shift (literal 1 1 true false 1) (number 1 40))
    (number 1 38)) ∷ [])) ∷
    plain_main 2 ∷ []) ∷
    -- struct s { uint8_t a[2147483647l + 2 - 2147483645]; };
    -- int main(void) { return 0; }
    (completes
    (struct_of 1 (codes "s")
    (array_field 1 (typedef_words 1 (codes "uint8_t")) (codes "a")
    (binary 1 mark.minus (binary 1 mark.plus (literal 1 2147483647 true false 1) (number 1 2))
    (number 1 2147483645)) ∷ [])) ∷
    plain_main 2 ∷ []) ∷
    -- int g = 2147483647l + 1;
    -- int main(void) { return 0; }
    (global 1 (int_words 1)
    (variable_of 1 (codes "g") (binary 1 mark.plus (literal 1 2147483647 true false 1) (number 1 1))) ∷
    plain_main 2 ∷ []) ∷
    -- void f(long *p) { }
    -- long long x;
    -- int main(void) {
    -- f(&x);
    -- return 0;
    -- }
    (defines_function 1 (void_words 1) (codes "f") (params 1 (takes_pointer 1 (long_word_at 1) (codes "p") ∷ [])) [] ∷
    global 2 (two_words 2 mark.long_word mark.long_word) (variable 2 (codes "x")) ∷
    main_at 3 (does_call 4 (codes "f") (address_of 4 (codes "x") ∷ []) ∷ returns 5 (zero_at 5) ∷ []) ∷ []) ∷
    -- int f(long a);
    -- int f(int64_t a) { return 1; }
    -- int main(void) { return 0; }
    (prototype (head 1 (int_words 1) [] (codes "f") (params 1 (takes 1 (long_word_at 1) (codes "a") ∷ []))) ∷
    defines_function 2 (int_words 2) (codes "f") (params 2 (takes 2 (typedef_at 2 (codes "int64_t")) (codes "a") ∷ []))
    (returns 2 (number 2 1) ∷ []) ∷
    plain_main 3 ∷ []) ∷
    -- int main(void) {
    -- uint8_t a[8];
    -- memset(a, 0, sizeof(long) - 4);
    -- return 0;
    -- }
    (main_at 1
    (local 2 (typedef_words 2 (codes "uint8_t")) (array 2 (codes "a") (number 2 8)) ∷
    does_call 3 (codes "memset")
    (id 3 (codes "a") ∷
    zero_at 3 ∷
    binary 3 mark.minus (sizeof_type 3 (type_name 3 (long_word_at 3) [])) (number 3 4) ∷ []) ∷
    returns 4 (zero_at 4) ∷ []) ∷ []) ∷
    []

right_with_long_of_64_bits :
    (answers Ilp32 with_long_of_64_bits ≡ (17, 1) ∷ (17, 1) ∷ (45, 1) ∷ (44, 4) ∷ (31, 2) ∷ (42, 3) ∷ [])
    × (all_sound Lp64 with_long_of_64_bits ≡ true)
unfolding answers all_sound
right_with_long_of_64_bits = (refl, refl)

-- right where long has 32 bits alone
abbrev with_long_of_32_bits : List (List Item)
with_long_of_32_bits =
    -- long main(void) { return 0; }
    (defines_function 1 (one_word 1 mark.long_word) (codes "main") (no_params 1) (returns 1 (zero_at 1) ∷ []) ∷ []) ∷
    -- void f(long *p) { }
    -- int main(void) {
    -- int x;
    -- f(&x);
    -- return 0;
    -- }
    (defines_function 1 (void_words 1) (codes "f") (params 1 (takes_pointer 1 (long_word_at 1) (codes "p") ∷ [])) [] ∷
    main_at 2
    (local 3 (int_words 3) (variable 3 (codes "x")) ∷
    does_call 4 (codes "f") (address_of 4 (codes "x") ∷ []) ∷
    returns 5 (zero_at 5) ∷ []) ∷ []) ∷
    -- struct s { uint8_t a[4294967295ul + 6]; };
    -- int main(void) { return 0; }
    (completes
    (struct_of 1 (codes "s")
    (array_field 1 (typedef_words 1 (codes "uint8_t")) (codes "a")
    (binary 1 mark.plus (literal 1 4294967295 true true 1) (number 1 6)) ∷ [])) ∷
    plain_main 2 ∷ []) ∷
    -- struct s { uint8_t a[sizeof(int) - 5 + 7]; uint8_t b[(size_t)-1 / 4294967295u]; };
    -- int main(void) { return 0; }
    (completes
    (struct_of 1 (codes "s")
    (array_field 1 (typedef_words 1 (codes "uint8_t")) (codes "a")
    (binary 1 mark.plus (binary 1 mark.minus (sizeof_type 1 (type_name 1 (int_word_at 1) [])) (number 1 5))
    (number 1 7)) ∷
    array_field 1 (typedef_words 1 (codes "uint8_t")) (codes "b")
    (binary 1 mark.slash (cast 1 (type_name 1 (typedef_at 1 (codes "size_t")) []) (unary 1 mark.minus (number 1 1)))
    (literal 1 4294967295 true true 0)) ∷ [])) ∷
    plain_main 2 ∷ []) ∷
    -- int f(long a);
    -- int f(int a) { return a; }
    -- int main(void) { return 0; }
    (prototype (head 1 (int_words 1) [] (codes "f") (params 1 (takes 1 (long_word_at 1) (codes "a") ∷ []))) ∷
    defines_function 2 (int_words 2) (codes "f") (params 2 (takes 2 (int_word_at 2) (codes "a") ∷ []))
    (returns 2 (id 2 (codes "a")) ∷ []) ∷
    plain_main 3 ∷ []) ∷
    -- size_t f(void);
    -- unsigned long f(void) { return 1; }
    -- unsigned f(void);
    -- int main(void) { return 0; }
    (prototype (head 1 (typedef_words 1 (codes "size_t")) [] (codes "f") (no_params 1)) ∷
    defines_function 2 (two_words 2 mark.unsigned_word mark.long_word) (codes "f") (no_params 2)
    (returns 2 (number 2 1) ∷ []) ∷
    prototype (head 3 (unsigned_words 3) [] (codes "f") (no_params 3)) ∷
    plain_main 4 ∷ []) ∷
    -- int *a[8193];
    -- int main(void) { return 0; }
    (global 1 (int_words 1) (init (declarator 1 (0 ∷ []) (codes "a") (Some (number 1 8193) ∷ [])) None ∷ []) ∷
    plain_main 2 ∷ []) ∷
    --
    -- int *a[8192];
    -- int main(void) { return 0; }
    (global 2 (int_words 2) (init (declarator 2 (0 ∷ []) (codes "a") (Some (number 2 8192) ∷ [])) None ∷ []) ∷
    plain_main 3 ∷ []) ∷
    -- struct s {
    --  long a[4096];
    --  void *b[4097];
    -- };
    -- int main(void) { return 0; }
    (completes
    (struct_of 1 (codes "s")
    (array_field 2 (one_word 2 mark.long_word) (codes "a") (number 2 4096) ∷
    members_of 3 (void_words 3) (declarator 3 (0 ∷ []) (codes "b") (Some (number 3 4097) ∷ []) ∷ []) ∷ [])) ∷
    plain_main 5 ∷ []) ∷
    -- #if __BYTE_ORDER__ == __ORDER_LITTLE_ENDIAN__
    -- long f(void) { return 1; }
    -- #else
    -- int f(void) { return 1; }
    -- #endif
    -- int main(void) { return 0; }
    (functions_by_order 1 Little
    (defined 2 (one_word 2 mark.long_word) (codes "f") (no_params 2) (returns 2 (number 2 1) ∷ []) ∷ [])
    (Some (defined 4 (int_words 4) (codes "f") (no_params 4) (returns 4 (number 4 1) ∷ []) ∷ [])) ∷
    plain_main 6 ∷ []) ∷
    []

right_with_long_of_32_bits :
    (all_sound Ilp32 with_long_of_32_bits ≡ true)
    × (answers Lp64 with_long_of_32_bits
    ≡ (32, 1) ∷ (44, 4) ∷ (17, 1) ∷ (17, 1) ∷ (31, 2) ∷ (31, 3) ∷ (37, 1) ∷ (37, 1) ∷ (37, 1) ∷ (38, 1) ∷ [])
unfolding answers all_sound
right_with_long_of_32_bits = (refl, refl)

-- right in neither data model
abbrev in_neither_model : List (List Item)
in_neither_model =
    -- int main(void) {
    -- int *p; long x;
    -- x = (long)p;
    -- return 0;
    -- }
    (main_at 1
    (local 2 (int_words 2) (pointer 2 (codes "p")) ∷
    local 2 (one_word 2 mark.long_word) (variable 2 (codes "x")) ∷
    sets 3 (id 3 (codes "x")) (cast 3 (type_name 3 (long_word_at 3) []) (id 3 (codes "p"))) ∷
    returns 4 (zero_at 4) ∷ []) ∷ []) ∷
    -- void f(size_t *p) { }
    -- int main(void) {
    -- unsigned x; uint64_t y;
    -- f(&x);
    -- f(&y);
    -- return 0;
    -- }
    (defines_function 1 (void_words 1) (codes "f")
    (params 1 (takes_pointer 1 (typedef_at 1 (codes "size_t")) (codes "p") ∷ [])) [] ∷
    main_at 2
    (local 3 (unsigned_words 3) (variable 3 (codes "x")) ∷
    local 3 (typedef_words 3 (codes "uint64_t")) (variable 3 (codes "y")) ∷
    does_call 4 (codes "f") (address_of 4 (codes "x") ∷ []) ∷
    does_call 5 (codes "f") (address_of 5 (codes "y") ∷ []) ∷
    returns 6 (zero_at 6) ∷ []) ∷ []) ∷
    []

right_in_neither_model :
    (answers Ilp32 in_neither_model ≡ (34, 3) ∷ (44, 5) ∷ [])
    × (answers Lp64 in_neither_model ≡ (34, 3) ∷ (44, 4) ∷ [])
unfolding answers
right_in_neither_model = (refl, refl)
