-- Declarations that stand before the main of many rows.
use Rattle.std.proofs.Common.{◌++◌, List, None, Some, [], ◌∷◌}
use Rattle.std.specs.Prelude.{codes}
use Rattle.ep_ast.specs.Declaration.{body}
use Rattle.ep_ast.specs.Expression.{binary, id, unary}
use Rattle.ep_ast.specs.Mark as mark
use Rattle.ep_ast.specs.Statement.{Item, Part, defines, evaluate, prototype, states}
use Rattle.ep_elaboration.proofs.Trees.{address_of, array_field, array_object, block_at, call_of, char_word_at}
use Rattle.ep_elaboration.proofs.Trees.{char_words, declarator, defines_function, field, function, global, head, ifs}
use Rattle.ep_elaboration.proofs.Trees.{init, int_word_at, int_words, main_at, no_params, number, object, object_of}
use Rattle.ep_elaboration.proofs.Trees.{params, pointer, pointer_field, pointer_object, returns, struct_of}
use Rattle.ep_elaboration.proofs.Trees.{struct_words, takes, takes_pointer, two_words, typedef_words, union_of}
use Rattle.ep_elaboration.proofs.Trees.{unsigned_words, variable, void_words, zero_at}

-- struct s { int a; int b[3]; struct s *n; } s, s2; union u { int i; uint8_t b[4]; } u; struct o *o; int x,
-- a[4], m[2][3]; unsigned w; uint8_t c; long long q; int *p, **pp; char *cp; void *vp; struct s *sp; int f1(int
-- v) { return v; } void f0(void) { } int *fp(void) { return &x; } int fa(int *a, char *b) { return 0; }
abbrev pub shared : List Item
shared =
    global 1
    (body
    (struct_of 1 (codes "s")
    (field 1 (int_words 1) (codes "a") ∷
    array_field 1 (int_words 1) (codes "b") (number 1 3) ∷
    pointer_field 1 (struct_words 1 (codes "s")) (codes "n") ∷ [])) ∷ [])
    (object 1 (codes "s") ∷ object 1 (codes "s2") ∷ []) ∷
    global 1
    (body
    (union_of 1 (codes "u")
    (field 1 (int_words 1) (codes "i") ∷
    array_field 1 (typedef_words 1 (codes "uint8_t")) (codes "b") (number 1 4) ∷ [])) ∷ [])
    (variable 1 (codes "u")) ∷
    global 1 (struct_words 1 (codes "o")) (pointer 1 (codes "o")) ∷
    global 1 (int_words 1)
    (object 1 (codes "x") ∷
    array_object 1 (codes "a") (number 1 4) ∷
    init (declarator 1 [] (codes "m") (Some (number 1 2) ∷ Some (number 1 3) ∷ [])) None ∷ []) ∷
    global 1 (unsigned_words 1) (variable 1 (codes "w")) ∷
    global 1 (typedef_words 1 (codes "uint8_t")) (variable 1 (codes "c")) ∷
    global 1 (two_words 1 mark.long_word mark.long_word) (variable 1 (codes "q")) ∷
    global 1 (int_words 1) (pointer_object 1 (codes "p") ∷ init (declarator 1 (0 ∷ 0 ∷ []) (codes "pp") []) None ∷ []) ∷
    global 1 (char_words 1) (pointer 1 (codes "cp")) ∷
    global 1 (void_words 1) (pointer 1 (codes "vp")) ∷
    global 1 (struct_words 1 (codes "s")) (pointer 1 (codes "sp")) ∷
    defines_function 1 (int_words 1) (codes "f1") (params 1 (takes 1 (int_word_at 1) (codes "v") ∷ []))
    (returns 1 (id 1 (codes "v")) ∷ []) ∷
    defines_function 1 (void_words 1) (codes "f0") (no_params 1) [] ∷
    defines
    (function (head 1 (int_words 1) (0 ∷ []) (codes "fp") (no_params 1))
    (block_at 1 (returns 1 (address_of 1 (codes "x")) ∷ []))) ∷
    defines_function 1 (int_words 1) (codes "fa")
    (params 1 (takes_pointer 1 (int_word_at 1) (codes "a") ∷ takes_pointer 1 (char_word_at 1) (codes "b") ∷ []))
    (returns 1 (zero_at 1) ∷ []) ∷ []

-- int main(void), on line 2, behind these declarations
abbrev pub in_main : List Part → List Item
in_main ps = shared ++ main_at 2 ps ∷ []

-- what stands behind these declarations
abbrev pub behind_shared : List Item → List Item
behind_shared is = shared ++ is

-- struct s { int a; } x; int v, *p, *q; void *vp; void f(int n);
abbrev pub objects_of_all_kinds : List Item
objects_of_all_kinds =
    global 1 (body (struct_of 1 (codes "s") (field 1 (int_words 1) (codes "a") ∷ [])) ∷ []) (variable 1 (codes "x")) ∷
    global 1 (int_words 1) (object 1 (codes "v") ∷ pointer_object 1 (codes "p") ∷ pointer_object 1 (codes "q") ∷ []) ∷
    global 1 (void_words 1) (pointer 1 (codes "vp")) ∷
    prototype (head 1 (void_words 1) [] (codes "f") (params 1 (takes 1 (int_word_at 1) (codes "n") ∷ []))) ∷ []

-- the same main behind these
abbrev pub behind_objects : List Part → List Item
behind_objects ps = objects_of_all_kinds ++ main_at 2 ps ∷ []

-- void f1(void) { if (1) *59 ; }
-- void f2(void) { if (1) *59 f1(); }
-- void f3(void) { if (1) *59 f2(); }
-- void f4(void) { if (1) *59 f3(); }
-- void f5(void) { if (1) *59 f4(); }
abbrev pub deep_functions : List Item
deep_functions =
    defines_function 1 (void_words 1) (codes "f1") (no_params 1) (states (ifs 59 1 (evaluate 1 None)) ∷ []) ∷
    defines_function 2 (void_words 2) (codes "f2") (no_params 2)
    (states (ifs 59 2 (evaluate 2 (Some (call_of 2 (codes "f1") [])))) ∷ []) ∷
    defines_function 3 (void_words 3) (codes "f3") (no_params 3)
    (states (ifs 59 3 (evaluate 3 (Some (call_of 3 (codes "f2") [])))) ∷ []) ∷
    defines_function 4 (void_words 4) (codes "f4") (no_params 4)
    (states (ifs 59 4 (evaluate 4 (Some (call_of 4 (codes "f3") [])))) ∷ []) ∷
    defines_function 5 (void_words 5) (codes "f5") (no_params 5)
    (states (ifs 59 5 (evaluate 5 (Some (call_of 5 (codes "f4") [])))) ∷ []) ∷ []

-- what stands behind these
abbrev pub behind_deep_functions : List Item → List Item
behind_deep_functions is = deep_functions ++ is

-- int x = 2147483647, y = -2147483647 - 1;
abbrev pub extremes : Item
extremes =
    global 1 (int_words 1)
    (object_of 1 (codes "x") (number 1 2147483647) ∷
    object_of 1 (codes "y") (binary 1 mark.minus (unary 1 mark.minus (number 1 2147483647)) (number 1 1)) ∷ [])
