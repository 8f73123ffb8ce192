-- Whole programs that mean well-formed ones in both data models.
use Rattle.std.proofs.Common.{List, None, Some, [], false, refl, true, ◌∷◌, ◌≡◌}
use Rattle.std.specs.Prelude.{codes}
use Rattle.ep_int.specs.declared.types.Model.TheVariants.{Ilp32, Lp64}
use Rattle.ep_ast.specs.Declaration.{aggregate, body, to_members}
use Rattle.ep_ast.specs.Expression.{binary, cast, conditional, id, sizeof_expr, sizeof_type, unary, word}
use Rattle.ep_ast.specs.Mark as mark
use Rattle.ep_ast.specs.Statement.{Item, completes, typedefs}
use Rattle.ep_elaboration.proofs.Opened.{all_sound}
use Rattle.ep_elaboration.proofs.Trees.{members_of}
use Rattle.ep_elaboration.proofs.Trees.{array, array_field, char_word_at, char_words, declarator, field, global, init}
use Rattle.ep_elaboration.proofs.Trees.{int_word_at, int_words, literal, long_word_at, number, one_word, plain_main}
use Rattle.ep_elaboration.proofs.Trees.{pointer_field, struct_of, struct_words, two_words, type_name, typedef}
use Rattle.ep_elaboration.proofs.Trees.{typedef_at, typedef_words, union_of, union_words, void_word_at, zero_at}

abbrev programs_1 : List (List Item)
programs_1 =
    -- struct a { char c; long l; unsigned long u; short s; long int i; };
    -- int main(void) { return 0; }
    (completes
    (struct_of 1 (codes "a")
    (field 1 (char_words 1) (codes "c") ∷
    field 1 (one_word 1 mark.long_word) (codes "l") ∷
    field 1 (two_words 1 mark.unsigned_word mark.long_word) (codes "u") ∷
    field 1 (one_word 1 mark.short_word) (codes "s") ∷
    field 1 (two_words 1 mark.long_word mark.int_word) (codes "i") ∷ [])) ∷
    plain_main 2 ∷ []) ∷
    -- struct a { uint8_t t; uint32_t *p; uint8_t z; };
    -- struct b { struct a x[2]; char c; };
    -- int main(void) { return 0; }
    (completes
    (struct_of 1 (codes "a")
    (field 1 (typedef_words 1 (codes "uint8_t")) (codes "t") ∷
    pointer_field 1 (typedef_words 1 (codes "uint32_t")) (codes "p") ∷
    field 1 (typedef_words 1 (codes "uint8_t")) (codes "z") ∷ [])) ∷
    completes
    (struct_of 2 (codes "b")
    (array_field 2 (struct_words 2 (codes "a")) (codes "x") (number 2 2) ∷ field 2 (char_words 2) (codes "c") ∷ [])) ∷
    plain_main 3 ∷ []) ∷
    -- union u { long l; int *p; char c[5]; };
    -- struct s { char t; union u v; };
    -- int main(void) { return 0; }
    (completes
    (union_of 1 (codes "u")
    (field 1 (one_word 1 mark.long_word) (codes "l") ∷
    pointer_field 1 (int_words 1) (codes "p") ∷
    array_field 1 (char_words 1) (codes "c") (number 1 5) ∷ [])) ∷
    completes
    (struct_of 2 (codes "s")
    (field 2 (char_words 2) (codes "t") ∷ field 2 (union_words 2 (codes "u")) (codes "v") ∷ [])) ∷
    plain_main 3 ∷ []) ∷
    -- struct n { uint8_t a[sizeof 1]; uint8_t b[sizeof 1l]; uint8_t c[sizeof 1ul]; uint8_t d[sizeof 1ll]; uint8_t
    -- e[sizeof 1u]; uint8_t f[sizeof 1LU]; };
    -- int main(void) { return 0; }
    (completes
    (struct_of 1 (codes "n")
    (array_field 1 (typedef_words 1 (codes "uint8_t")) (codes "a") (sizeof_expr 1 (number 1 1)) ∷
    array_field 1 (typedef_words 1 (codes "uint8_t")) (codes "b") (sizeof_expr 1 (literal 1 1 true false 1)) ∷
    array_field 1 (typedef_words 1 (codes "uint8_t")) (codes "c") (sizeof_expr 1 (literal 1 1 true true 1)) ∷
    array_field 1 (typedef_words 1 (codes "uint8_t")) (codes "d") (sizeof_expr 1 (literal 1 1 true false 2)) ∷
    array_field 1 (typedef_words 1 (codes "uint8_t")) (codes "e") (sizeof_expr 1 (literal 1 1 true true 0)) ∷
    array_field 1 (typedef_words 1 (codes "uint8_t")) (codes "f") (sizeof_expr 1 (literal 1 1 true true 1)) ∷ [])) ∷
    plain_main 2 ∷ []) ∷
    -- struct n { uint8_t a[sizeof 2147483647]; uint8_t b[sizeof 2147483648]; uint8_t c[sizeof 0x80000000]; uint8_t
    -- d[sizeof 0x80000000l]; uint8_t e[sizeof 4294967295u]; uint8_t f[sizeof 4294967295ul]; uint8_t g[sizeof
    -- 0x100000000]; };
    -- int main(void) { return 0; }
    (completes
    (struct_of 1 (codes "n")
    (array_field 1 (typedef_words 1 (codes "uint8_t")) (codes "a") (sizeof_expr 1 (number 1 2147483647)) ∷
    array_field 1 (typedef_words 1 (codes "uint8_t")) (codes "b") (sizeof_expr 1 (number 1 2147483648)) ∷
    array_field 1 (typedef_words 1 (codes "uint8_t")) (codes "c") (sizeof_expr 1 (literal 1 2147483648 false false 0)) ∷
    array_field 1 (typedef_words 1 (codes "uint8_t")) (codes "d") (sizeof_expr 1 (literal 1 2147483648 false false 1)) ∷
    array_field 1 (typedef_words 1 (codes "uint8_t")) (codes "e") (sizeof_expr 1 (literal 1 4294967295 true true 0)) ∷
    array_field 1 (typedef_words 1 (codes "uint8_t")) (codes "f") (sizeof_expr 1 (literal 1 4294967295 true true 1)) ∷
    array_field 1 (typedef_words 1 (codes "uint8_t")) (codes "g")
    (sizeof_expr 1 (literal 1 4294967296 false false 0)) ∷ [])) ∷
    plain_main 2 ∷ []) ∷
    -- struct n { uint8_t a[sizeof 'a']; uint8_t b[sizeof 07l]; uint8_t c[sizeof 0]; uint8_t d[sizeof(char)]; uint8_t
    -- e[sizeof 18446744073709551615ul]; };
    -- int main(void) { return 0; }
    (completes
    (struct_of 1 (codes "n")
    (array_field 1 (typedef_words 1 (codes "uint8_t")) (codes "a") (sizeof_expr 1 (number 1 97)) ∷
    array_field 1 (typedef_words 1 (codes "uint8_t")) (codes "b") (sizeof_expr 1 (literal 1 7 false false 1)) ∷
    array_field 1 (typedef_words 1 (codes "uint8_t")) (codes "c") (sizeof_expr 1 (zero_at 1)) ∷
    array_field 1 (typedef_words 1 (codes "uint8_t")) (codes "d") (sizeof_type 1 (type_name 1 (char_word_at 1) [])) ∷
    array_field 1 (typedef_words 1 (codes "uint8_t")) (codes "e")
    (sizeof_expr 1 (literal 1 18446744073709551615 true true 1)) ∷ [])) ∷
    plain_main 2 ∷ []) ∷
    -- struct n { uint8_t a[sizeof(size_t)]; uint8_t b[sizeof(long)]; uint8_t c[sizeof(unsigned long)]; uint8_t
    -- d[sizeof(long long)]; uint8_t e[sizeof(int)]; uint8_t f[sizeof(signed)]; };
    -- int main(void) { return 0; }
    (completes
    (struct_of 1 (codes "n")
    (array_field 1 (typedef_words 1 (codes "uint8_t")) (codes "a")
    (sizeof_type 1 (type_name 1 (typedef_at 1 (codes "size_t")) [])) ∷
    array_field 1 (typedef_words 1 (codes "uint8_t")) (codes "b") (sizeof_type 1 (type_name 1 (long_word_at 1) [])) ∷
    array_field 1 (typedef_words 1 (codes "uint8_t")) (codes "c")
    (sizeof_type 1 (type_name 1 (word 1 mark.unsigned_word ∷ word 1 mark.long_word ∷ []) [])) ∷
    array_field 1 (typedef_words 1 (codes "uint8_t")) (codes "d")
    (sizeof_type 1 (type_name 1 (word 1 mark.long_word ∷ word 1 mark.long_word ∷ []) [])) ∷
    array_field 1 (typedef_words 1 (codes "uint8_t")) (codes "e") (sizeof_type 1 (type_name 1 (int_word_at 1) [])) ∷
    array_field 1 (typedef_words 1 (codes "uint8_t")) (codes "f")
    (sizeof_type 1 (type_name 1 (word 1 mark.signed_word ∷ []) [])) ∷ [])) ∷
    plain_main 2 ∷ []) ∷
    -- struct n { uint8_t a[sizeof(sizeof(int))]; uint8_t b[sizeof(1 ? 1 : sizeof(char))]; };
    -- int main(void) { return 0; }
    (completes
    (struct_of 1 (codes "n")
    (array_field 1 (typedef_words 1 (codes "uint8_t")) (codes "a")
    (sizeof_expr 1 (sizeof_type 1 (type_name 1 (int_word_at 1) []))) ∷
    array_field 1 (typedef_words 1 (codes "uint8_t")) (codes "b")
    (sizeof_expr 1 (conditional 1 (number 1 1) (number 1 1) (sizeof_type 1 (type_name 1 (char_word_at 1) [])))) ∷ [])) ∷
    plain_main 2 ∷ []) ∷
    -- struct n { uint8_t a[sizeof(int *)]; uint8_t b[sizeof(void *)]; uint8_t c[sizeof(char **)]; uint8_t d[sizeof
    -- NULL]; uint8_t e[sizeof(&*(int *)0)]; };
    -- int main(void) { return 0; }
    (completes
    (struct_of 1 (codes "n")
    (array_field 1 (typedef_words 1 (codes "uint8_t")) (codes "a")
    (sizeof_type 1 (type_name 1 (int_word_at 1) (0 ∷ []))) ∷
    array_field 1 (typedef_words 1 (codes "uint8_t")) (codes "b")
    (sizeof_type 1 (type_name 1 (void_word_at 1) (0 ∷ []))) ∷
    array_field 1 (typedef_words 1 (codes "uint8_t")) (codes "c")
    (sizeof_type 1 (type_name 1 (char_word_at 1) (0 ∷ 0 ∷ []))) ∷
    array_field 1 (typedef_words 1 (codes "uint8_t")) (codes "d") (sizeof_expr 1 (id 1 (codes "NULL"))) ∷
    array_field 1 (typedef_words 1 (codes "uint8_t")) (codes "e")
    (sizeof_expr 1
    (unary 1 mark.ampersand (unary 1 mark.star (cast 1 (type_name 1 (int_word_at 1) (0 ∷ [])) (zero_at 1))))) ∷ [])) ∷
    plain_main 2 ∷ []) ∷
    []

sound_programs_1 : (all_sound Ilp32 programs_1 ≡ true) × (all_sound Lp64 programs_1 ≡ true)
unfolding all_sound
sound_programs_1 = (refl, refl)

abbrev programs_2 : List (List Item)
programs_2 =
    -- struct n { uint8_t a[sizeof(1l + 1)]; uint8_t b[sizeof(1l + 1u)]; uint8_t c[sizeof(1ul + 1)]; uint8_t
    -- d[sizeof(1l << 1)]; uint8_t e[sizeof(1 << 1l)]; uint8_t f[sizeof(1l < 2)]; uint8_t g[sizeof(1 ? 1l : 1u)]; };
    -- int main(void) { return 0; }
    (completes
    (struct_of 1 (codes "n")
    (array_field 1 (typedef_words 1 (codes "uint8_t")) (codes "a")
    (sizeof_expr 1 (binary 1 mark.plus (literal 1 1 true false 1) (number 1 1))) ∷
    array_field 1 (typedef_words 1 (codes "uint8_t")) (codes "b")
    (sizeof_expr 1 (binary 1 mark.plus (literal 1 1 true false 1) (literal 1 1 true true 0))) ∷
    array_field 1 (typedef_words 1 (codes "uint8_t")) (codes "c")
    (sizeof_expr 1 (binary 1 mark.plus (literal 1 1 true true 1) (number 1 1))) ∷
    array_field 1 (typedef_words 1 (codes "uint8_t")) (codes "d")
    (sizeof_expr 1 (binary 1 mark.left_shift (literal 1 1 true false 1) (number 1 1))) ∷
    array_field 1 (typedef_words 1 (codes "uint8_t")) (codes "e")
    (sizeof_expr 1 (binary 1 mark.left_shift (number 1 1) (literal 1 1 true false 1))) ∷
    array_field 1 (typedef_words 1 (codes "uint8_t")) (codes "f")
    (sizeof_expr 1 (binary 1 mark.less (literal 1 1 true false 1) (number 1 2))) ∷
    array_field 1 (typedef_words 1 (codes "uint8_t")) (codes "g")
    (sizeof_expr 1 (conditional 1 (number 1 1) (literal 1 1 true false 1) (literal 1 1 true true 0))) ∷ [])) ∷
    plain_main 2 ∷ []) ∷
    -- typedef long t;
    -- typedef size_t z;
    -- struct n { t a; z b; t *c; uint8_t d[sizeof(z *)]; };
    -- int main(void) { return 0; }
    (typedefs (typedef 1 (one_word 1 mark.long_word) (declarator 1 [] (codes "t") [] ∷ [])) ∷
    typedefs (typedef 2 (typedef_words 2 (codes "size_t")) (declarator 2 [] (codes "z") [] ∷ [])) ∷
    completes
    (struct_of 3 (codes "n")
    (field 3 (typedef_words 3 (codes "t")) (codes "a") ∷
    field 3 (typedef_words 3 (codes "z")) (codes "b") ∷
    pointer_field 3 (typedef_words 3 (codes "t")) (codes "c") ∷
    array_field 3 (typedef_words 3 (codes "uint8_t")) (codes "d")
    (sizeof_type 3 (type_name 3 (typedef_at 3 (codes "z")) (0 ∷ []))) ∷ [])) ∷
    plain_main 4 ∷ []) ∷
    -- struct list { struct list *next; uint16_t key; struct list **up; };
    -- int main(void) { return 0; }
    (completes
    (struct_of 1 (codes "list")
    (pointer_field 1 (struct_words 1 (codes "list")) (codes "next") ∷
    field 1 (typedef_words 1 (codes "uint16_t")) (codes "key") ∷
    members_of 1 (struct_words 1 (codes "list")) (declarator 1 (0 ∷ 0 ∷ []) (codes "up") [] ∷ []) ∷ [])) ∷
    plain_main 2 ∷ []) ∷
    -- struct a { uint16_t h; int64_t q; };
    -- struct b { uint8_t c; struct a *p[3]; uint8_t d; };
    -- int main(void) { return 0; }
    (completes
    (struct_of 1 (codes "a")
    (field 1 (typedef_words 1 (codes "uint16_t")) (codes "h") ∷
    field 1 (typedef_words 1 (codes "int64_t")) (codes "q") ∷ [])) ∷
    completes
    (struct_of 2 (codes "b")
    (field 2 (typedef_words 2 (codes "uint8_t")) (codes "c") ∷
    members_of 2 (struct_words 2 (codes "a")) (declarator 2 (0 ∷ []) (codes "p") (Some (number 2 3) ∷ []) ∷ []) ∷
    field 2 (typedef_words 2 (codes "uint8_t")) (codes "d") ∷ [])) ∷
    plain_main 3 ∷ []) ∷
    -- typedef struct { uint8_t k; const char *name; size_t length; } entry;
    -- entry table[3];
    -- int main(void) { return 0; }
    (typedefs
    (typedef 1
    (body
    (aggregate 1 mark.struct_word None
    (to_members
    (field 1 (typedef_words 1 (codes "uint8_t")) (codes "k") ∷
    pointer_field 1 (two_words 1 mark.const_word mark.char_word) (codes "name") ∷
    field 1 (typedef_words 1 (codes "size_t")) (codes "length") ∷ []))) ∷ [])
    (declarator 1 [] (codes "entry") [] ∷ [])) ∷
    global 2 (typedef_words 2 (codes "entry")) (array 2 (codes "table") (number 2 3)) ∷
    plain_main 3 ∷ []) ∷
    -- typedef union { unsigned long word; uint8_t byte[sizeof(unsigned long)]; } cell;
    -- struct s { cell c; uint8_t end; };
    -- int main(void) { return 0; }
    (typedefs
    (typedef 1
    (body
    (aggregate 1 mark.union_word None
    (to_members
    (field 1 (two_words 1 mark.unsigned_word mark.long_word) (codes "word") ∷
    array_field 1 (typedef_words 1 (codes "uint8_t")) (codes "byte")
    (sizeof_type 1 (type_name 1 (word 1 mark.unsigned_word ∷ word 1 mark.long_word ∷ []) [])) ∷ []))) ∷ [])
    (declarator 1 [] (codes "cell") [] ∷ [])) ∷
    completes
    (struct_of 2 (codes "s")
    (field 2 (typedef_words 2 (codes "cell")) (codes "c") ∷
    field 2 (typedef_words 2 (codes "uint8_t")) (codes "end") ∷ [])) ∷
    plain_main 3 ∷ []) ∷
    -- struct s { uint8_t a[(long)-1 < 0u ? 2 : 3]; };
    -- int main(void) { return 0; }
    (completes
    (struct_of 1 (codes "s")
    (array_field 1 (typedef_words 1 (codes "uint8_t")) (codes "a")
    (conditional 1
    (binary 1 mark.less (cast 1 (type_name 1 (long_word_at 1) []) (unary 1 mark.minus (number 1 1)))
    (literal 1 0 false true 0))
    (number 1 2) (number 1 3)) ∷ [])) ∷
    plain_main 2 ∷ []) ∷
    --
    -- int *a[8191];
    -- int main(void) { return 0; }
    (global 2 (int_words 2) (init (declarator 2 (0 ∷ []) (codes "a") (Some (number 2 8191) ∷ [])) None ∷ []) ∷
    plain_main 3 ∷ []) ∷
    []

sound_programs_2 : (all_sound Ilp32 programs_2 ≡ true) × (all_sound Lp64 programs_2 ≡ true)
unfolding all_sound
sound_programs_2 = (refl, refl)
