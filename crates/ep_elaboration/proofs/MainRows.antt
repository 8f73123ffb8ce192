-- More statements in main, behind the declarations of `shared`.
use Rattle.std.proofs.Common.{None, Some, [], refl, ◌∷◌, ◌≡◌}
use Rattle.std.specs.Prelude.{codes}
use Rattle.ep_int.specs.declared.types.Model.TheVariants.{Ilp32}
use Rattle.ep_ast.specs.Declaration.{single}
use Rattle.ep_ast.specs.Expression.{assign, binary, cast, conditional, id, index, post_decrement, post_increment}
use Rattle.ep_ast.specs.Expression.{sizeof_expr, step, unary}
use Rattle.ep_ast.specs.Mark as mark
use Rattle.ep_ast.specs.Statement.{continue_loop, declares, evaluate, evaluates, for_loop, if_then, states, while_loop}
use Rattle.ep_elaboration.proofs.Opened.{answers}
use Rattle.ep_elaboration.proofs.Shared.{behind_shared, in_main}
use Rattle.ep_elaboration.proofs.Trees.{array, array_object, call_of, declaration, declarator, does, does_call}
use Rattle.ep_elaboration.proofs.Trees.{global, in_block, init, int_word_at, int_words, local, member_of, number}
use Rattle.ep_elaboration.proofs.Trees.{object, plain_main, returns, sets, struct_words, type_name, variable}
use Rattle.ep_elaboration.proofs.Trees.{variable_of, void_word_at, void_words, zero_at}

-- bounds that are no constants from 1 to 65,536: 17
array_bounds_in_main : answers Ilp32 (
    -- int main(void) {int y[-1];}
    in_main (local 2 (int_words 2) (array 2 (codes "y") (unary 2 mark.minus (number 2 1))) ∷ []) ∷
    -- int main(void) {int y[x];}
    in_main (local 2 (int_words 2) (array 2 (codes "y") (id 2 (codes "x"))) ∷ []) ∷
    -- int main(void) {int y[1 / 0];}
    in_main (local 2 (int_words 2) (array 2 (codes "y") (binary 2 mark.slash (number 2 1) (zero_at 2))) ∷ []) ∷
    -- int main(void) {int y[0 && x];}
    in_main (local 2 (int_words 2) (array 2 (codes "y") (binary 2 mark.and_and (zero_at 2) (id 2 (codes "x")))) ∷ []) ∷
    -- int main(void) {int y[] = 1;}
    in_main
    (local 2 (int_words 2) (init (declarator 2 [] (codes "y") (None ∷ [])) (Some (single (number 2 1))) ∷ []) ∷ []) ∷
    -- int main(void) {int y[0], y;}
    in_main (local 2 (int_words 2) (array_object 2 (codes "y") (zero_at 2) ∷ object 2 (codes "y") ∷ []) ∷ []) ∷
    [])
    ≡ (17, 2) ∷ (17, 2) ∷ (17, 2) ∷ (17, 2) ∷ (17, 2) ∷ (17, 2) ∷ []
unfolding answers
array_bounds_in_main = refl

-- calls in other places: 18
calls_in_main_1 : answers Ilp32 (
    -- int main(void) {f1(f1(1));}
    in_main (does_call 2 (codes "f1") (call_of 2 (codes "f1") (number 2 1 ∷ []) ∷ []) ∷ []) ∷
    -- int main(void) {return f1(1);}
    in_main (returns 2 (call_of 2 (codes "f1") (number 2 1 ∷ [])) ∷ []) ∷
    -- int main(void) {x = f1(1) + 1;}
    in_main
    (sets 2 (id 2 (codes "x")) (binary 2 mark.plus (call_of 2 (codes "f1") (number 2 1 ∷ [])) (number 2 1)) ∷ []) ∷
    -- int main(void) {x = sizeof f1(1);}
    in_main (sets 2 (id 2 (codes "x")) (sizeof_expr 2 (call_of 2 (codes "f1") (number 2 1 ∷ []))) ∷ []) ∷
    -- int main(void) {x = (int)f1(1);}
    in_main
    (sets 2 (id 2 (codes "x"))
    (cast 2 (type_name 2 (int_word_at 2) []) (call_of 2 (codes "f1") (number 2 1 ∷ []))) ∷ []) ∷
    -- int main(void) {for (x = f1(1);;) ;}
    in_main
    (states
    (for_loop 2 (evaluates (Some (assign 2 mark.equal (id 2 (codes "x")) (call_of 2 (codes "f1") (number 2 1 ∷ [])))))
    None None (evaluate 2 None)) ∷ []) ∷
    -- int main(void) {x = ep_in_u8() + 1;}
    in_main (sets 2 (id 2 (codes "x")) (binary 2 mark.plus (call_of 2 (codes "ep_in_u8") []) (number 2 1)) ∷ []) ∷
    -- int main(void) {for (x = ep_in_u8();;) ;}
    in_main
    (states
    (for_loop 2 (evaluates (Some (assign 2 mark.equal (id 2 (codes "x")) (call_of 2 (codes "ep_in_u8") [])))) None None
    (evaluate 2 None)) ∷ []) ∷
    -- int main(void) {*fp() = 1;}
    in_main (sets 2 (unary 2 mark.star (call_of 2 (codes "fp") [])) (number 2 1) ∷ []) ∷
    -- int main(void) {for (int i = f1(1);;) ;}
    in_main
    (states
    (for_loop 2
    (declares (declaration 2 (int_words 2) (variable_of 2 (codes "i") (call_of 2 (codes "f1") (number 2 1 ∷ []))))) None
    None (evaluate 2 None)) ∷ []) ∷
    [])
    ≡ (18, 2) ∷ (18, 2) ∷ (18, 2) ∷ (18, 2) ∷ (18, 2) ∷ (18, 2) ∷ (18, 2) ∷ (18, 2) ∷ (18, 2) ∷ (18, 2) ∷ []
unfolding answers
calls_in_main_1 = refl

-- calls in other places: 18
calls_in_main_2 : answers Ilp32 (
    -- int main(void) {int y[f1(1)];}
    in_main (local 2 (int_words 2) (array 2 (codes "y") (call_of 2 (codes "f1") (number 2 1 ∷ []))) ∷ []) ∷
    -- int main(void) {a[0] = f1(s) + 1;}
    in_main
    (sets 2 (index 2 (id 2 (codes "a")) (zero_at 2))
    (binary 2 mark.plus (call_of 2 (codes "f1") (id 2 (codes "s") ∷ [])) (number 2 1)) ∷ []) ∷
    [])
    ≡ (18, 2) ∷ (18, 2) ∷ []
unfolding answers
calls_in_main_2 = refl

-- assignments in other places: 19
assignments_in_main : answers Ilp32 (
    -- int main(void) {x = 1 + (w = 1);}
    in_main
    (sets 2 (id 2 (codes "x"))
    (binary 2 mark.plus (number 2 1) (assign 2 mark.equal (id 2 (codes "w")) (number 2 1))) ∷ []) ∷
    -- int main(void) {a[x++] = 1;}
    in_main (sets 2 (index 2 (id 2 (codes "a")) (post_increment 2 (id 2 (codes "x")))) (number 2 1) ∷ []) ∷
    -- int main(void) {x = -x--;}
    in_main (sets 2 (id 2 (codes "x")) (unary 2 mark.minus (post_decrement 2 (id 2 (codes "x")))) ∷ []) ∷
    -- int main(void) {return x = 1;}
    in_main (returns 2 (assign 2 mark.equal (id 2 (codes "x")) (number 2 1)) ∷ []) ∷
    -- int main(void) {sizeof x++;}
    in_main (does 2 (sizeof_expr 2 (post_increment 2 (id 2 (codes "x")))) ∷ []) ∷
    -- int main(void) {while (x--) ;}
    in_main (states (while_loop 2 (post_decrement 2 (id 2 (codes "x"))) (evaluate 2 None)) ∷ []) ∷
    -- int main(void) {x = ++w;}
    in_main (sets 2 (id 2 (codes "x")) (step 2 mark.plus_plus (id 2 (codes "w"))) ∷ []) ∷
    -- int main(void) {x++ + 1;}
    in_main (does 2 (binary 2 mark.plus (post_increment 2 (id 2 (codes "x"))) (number 2 1)) ∷ []) ∷
    -- int main(void) {int y[x = 1];}
    in_main (local 2 (int_words 2) (array 2 (codes "y") (assign 2 mark.equal (id 2 (codes "x")) (number 2 1))) ∷ []) ∷
    [])
    ≡ (19, 2) ∷ (19, 2) ∷ (19, 2) ∷ (19, 2) ∷ (19, 2) ∷ (19, 2) ∷ (19, 2) ∷ (19, 2) ∷ (19, 2) ∷ []
unfolding answers
assignments_in_main = refl

-- names that were not declared before: 30
unknown_names_in_main : answers Ilp32 (
    -- int main(void) {zz + (x = 1);}
    in_main
    (does 2 (binary 2 mark.plus (id 2 (codes "zz")) (assign 2 mark.equal (id 2 (codes "x")) (number 2 1))) ∷ []) ∷
    -- int main(void) {f1(zz) + 1;}
    in_main (does 2 (binary 2 mark.plus (call_of 2 (codes "f1") (id 2 (codes "zz") ∷ [])) (number 2 1)) ∷ []) ∷
    -- int main(void) {{ int x = yy; int zz = ww; }}
    in_main
    (in_block 2
    (local 2 (int_words 2) (variable_of 2 (codes "x") (id 2 (codes "yy"))) ∷
    local 2 (int_words 2) (variable_of 2 (codes "zz") (id 2 (codes "ww"))) ∷ []) ∷ []) ∷
    [])
    ≡ (30, 2) ∷ (30, 2) ∷ (30, 2) ∷ []
unfolding answers
unknown_names_in_main = refl

-- declared twice, or unlike the first declaration: 31
redeclared_in_main : answers Ilp32 (
    -- int main(void) {int y; void y;}
    in_main (local 2 (int_words 2) (variable 2 (codes "y")) ∷ local 2 (void_words 2) (variable 2 (codes "y")) ∷ []) ∷
    [])
    ≡ (31, 2) ∷ []
unfolding answers
redeclared_in_main = refl

-- numbers of arguments: 39
arities_in_main : answers Ilp32 (
    -- int main(void) {f1(1, 2);}
    in_main (does_call 2 (codes "f1") (number 2 1 ∷ number 2 2 ∷ []) ∷ []) ∷
    -- int main(void) {ep_in_u8(1);}
    in_main (does_call 2 (codes "ep_in_u8") (number 2 1 ∷ []) ∷ []) ∷
    -- int main(void) {memcpy(p, p);}
    in_main (does_call 2 (codes "memcpy") (id 2 (codes "p") ∷ id 2 (codes "p") ∷ []) ∷ []) ∷
    -- int main(void) {x = f1();}
    in_main (sets 2 (id 2 (codes "x")) (call_of 2 (codes "f1") []) ∷ []) ∷
    [])
    ≡ (39, 2) ∷ (39, 2) ∷ (39, 2) ∷ (39, 2) ∷ []
unfolding answers
arities_in_main = refl

-- members that aren't there: 40
members_in_main : answers Ilp32 (
    -- int main(void) {s.z;}
    in_main (does 2 (member_of 2 (id 2 (codes "s")) (codes "z")) ∷ []) ∷
    -- int main(void) {u.w;}
    in_main (does 2 (member_of 2 (id 2 (codes "u")) (codes "w")) ∷ []) ∷
    -- int main(void) {&s.q;}
    in_main (does 2 (unary 2 mark.ampersand (member_of 2 (id 2 (codes "s")) (codes "q"))) ∷ []) ∷
    [])
    ≡ (40, 2) ∷ (40, 2) ∷ (40, 2) ∷ []
unfolding answers
members_in_main = refl

-- no objects: 41
no_objects_in_main : answers Ilp32 (
    -- int main(void) {&1;}
    in_main (does 2 (unary 2 mark.ampersand (number 2 1)) ∷ []) ∷
    -- int main(void) {(x + 1) = 2;}
    in_main (sets 2 (binary 2 mark.plus (id 2 (codes "x")) (number 2 1)) (number 2 2) ∷ []) ∷
    -- int main(void) {1++;}
    in_main (does 2 (post_increment 2 (number 2 1)) ∷ []) ∷
    -- int main(void) {(x + 1) += 1;}
    in_main
    (does 2 (assign 2 mark.plus_equal (binary 2 mark.plus (id 2 (codes "x")) (number 2 1)) (number 2 1)) ∷ []) ∷
    -- int main(void) {&-x;}
    in_main (does 2 (unary 2 mark.ampersand (unary 2 mark.minus (id 2 (codes "x")))) ∷ []) ∷
    -- int main(void) {1 = ep_in_u8();}
    in_main (sets 2 (number 2 1) (call_of 2 (codes "ep_in_u8") []) ∷ []) ∷
    [])
    ≡ (41, 2) ∷ (41, 2) ∷ (41, 2) ∷ (41, 2) ∷ (41, 2) ∷ (41, 2) ∷ []
unfolding answers
no_objects_in_main = refl

-- lengths that are no constants from 1 to 65,536: 42
lengths_in_main : answers Ilp32 (
    -- int main(void) {memcpy(p, p, x);}
    in_main (does_call 2 (codes "memcpy") (id 2 (codes "p") ∷ id 2 (codes "p") ∷ id 2 (codes "x") ∷ []) ∷ []) ∷
    -- int main(void) {memcpy(p, p, 65537);}
    in_main (does_call 2 (codes "memcpy") (id 2 (codes "p") ∷ id 2 (codes "p") ∷ number 2 65537 ∷ []) ∷ []) ∷
    -- int main(void) {ep_read(p, 1 / 0);}
    in_main
    (does_call 2 (codes "ep_read") (id 2 (codes "p") ∷ binary 2 mark.slash (number 2 1) (zero_at 2) ∷ []) ∷ []) ∷
    -- int main(void) {ep_read(p, 0 && x);}
    in_main
    (does_call 2 (codes "ep_read")
    (id 2 (codes "p") ∷ binary 2 mark.and_and (zero_at 2) (id 2 (codes "x")) ∷ []) ∷ []) ∷
    [])
    ≡ (42, 2) ∷ (42, 2) ∷ (42, 2) ∷ (42, 2) ∷ []
unfolding answers
lengths_in_main = refl

-- pointers of different types: 44
foreign_pointers_in_main : answers Ilp32 (
    -- int main(void) {p = cp;}
    in_main (sets 2 (id 2 (codes "p")) (id 2 (codes "cp")) ∷ []) ∷
    -- int main(void) {p = sp;}
    in_main (sets 2 (id 2 (codes "p")) (id 2 (codes "sp")) ∷ []) ∷
    -- int main(void) {p < cp;}
    in_main (does 2 (binary 2 mark.less (id 2 (codes "p")) (id 2 (codes "cp"))) ∷ []) ∷
    -- int main(void) {p = &m[0];}
    in_main (sets 2 (id 2 (codes "p")) (unary 2 mark.ampersand (index 2 (id 2 (codes "m")) (zero_at 2))) ∷ []) ∷
    -- int main(void) {fa(p, p);}
    in_main (does_call 2 (codes "fa") (id 2 (codes "p") ∷ id 2 (codes "p") ∷ []) ∷ []) ∷
    -- int main(void) {int *y = cp;}
    in_main
    (local 2 (int_words 2)
    (init (declarator 2 (0 ∷ []) (codes "y") []) (Some (single (id 2 (codes "cp")))) ∷ []) ∷ []) ∷
    [])
    ≡ (44, 2) ∷ (44, 2) ∷ (44, 2) ∷ (44, 2) ∷ (44, 2) ∷ (44, 2) ∷ []
unfolding answers
foreign_pointers_in_main = refl

-- first values that are no constants: 45
not_constant_in_main : answers Ilp32 (
    -- int y = x;
    -- int main(void) { return 0; }
    behind_shared (global 2 (int_words 2) (variable_of 2 (codes "y") (id 2 (codes "x"))) ∷ plain_main 3 ∷ []) ∷
    -- int y = f1(1);
    -- int main(void) { return 0; }
    behind_shared
    (global 2 (int_words 2) (variable_of 2 (codes "y") (call_of 2 (codes "f1") (number 2 1 ∷ []))) ∷
    plain_main 3 ∷ []) ∷
    -- int *y = (void *)0;
    -- int main(void) { return 0; }
    behind_shared
    (global 2 (int_words 2)
    (init (declarator 2 (0 ∷ []) (codes "y") [])
    (Some (single (cast 2 (type_name 2 (void_word_at 2) (0 ∷ [])) (zero_at 2)))) ∷ []) ∷
    plain_main 3 ∷ []) ∷
    -- struct s y = s;
    -- int main(void) { return 0; }
    behind_shared
    (global 2 (struct_words 2 (codes "s")) (variable_of 2 (codes "y") (id 2 (codes "s"))) ∷ plain_main 3 ∷ []) ∷
    -- int y = 2147483647 + 1;
    -- int main(void) { return 0; }
    behind_shared
    (global 2 (int_words 2) (variable_of 2 (codes "y") (binary 2 mark.plus (number 2 2147483647) (number 2 1))) ∷
    plain_main 3 ∷ []) ∷
    -- int y = 1 ? 2 : x;
    -- int main(void) { return 0; }
    behind_shared
    (global 2 (int_words 2) (variable_of 2 (codes "y") (conditional 2 (number 2 1) (number 2 2) (id 2 (codes "x")))) ∷
    plain_main 3 ∷ []) ∷
    -- int y = NULL == 0;
    -- int main(void) { return 0; }
    behind_shared
    (global 2 (int_words 2) (variable_of 2 (codes "y") (binary 2 mark.equal_equal (id 2 (codes "NULL")) (zero_at 2))) ∷
    plain_main 3 ∷ []) ∷
    -- int y = a[0];
    -- int main(void) { return 0; }
    behind_shared
    (global 2 (int_words 2) (variable_of 2 (codes "y") (index 2 (id 2 (codes "a")) (zero_at 2))) ∷ plain_main 3 ∷ []) ∷
    [])
    ≡ (45, 2) ∷ (45, 2) ∷ (45, 2) ∷ (45, 2) ∷ (45, 2) ∷ (45, 2) ∷ (45, 2) ∷ (45, 2) ∷ []
unfolding answers
not_constant_in_main = refl

-- jumps outside of loops: 47
stray_jumps_in_main : answers Ilp32 (
    -- int main(void) {if (1) continue;}
    in_main (states (if_then 2 (number 2 1) (continue_loop 2)) ∷ []) ∷
    [])
    ≡ (47, 2) ∷ []
unfolding answers
stray_jumps_in_main = refl
