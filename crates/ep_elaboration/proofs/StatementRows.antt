-- Statements in main, behind the declarations of `shared`, and the kinds of their refusals.
use Rattle.std.proofs.Common.{None, Some, [], refl, ◌∷◌, ◌≡◌}
use Rattle.std.specs.Prelude.{codes}
use Rattle.ep_int.specs.declared.types.Model.TheVariants.{Ilp32}
use Rattle.ep_ast.specs.Declaration.{listed, single, to_values}
use Rattle.ep_ast.specs.Expression.{assign, binary, cast, conditional, id, index, post_increment, sizeof_type, unary}
use Rattle.ep_ast.specs.Mark as mark
use Rattle.ep_ast.specs.Statement.{evaluate, return_value, states, while_loop}
use Rattle.ep_elaboration.proofs.Opened.{answers}
use Rattle.ep_elaboration.proofs.Shared.{in_main}
use Rattle.ep_elaboration.proofs.Trees.{address_of, call_of, declarator, does, does_call, init, int_word_at}
use Rattle.ep_elaboration.proofs.Trees.{int_words, local, member_of, number, sets, struct_at, struct_words, type_name}
use Rattle.ep_elaboration.proofs.Trees.{variable, variable_of, void_word_at, zero_at}

-- types that don't fit: 32
mismatches_in_main_1 : answers Ilp32 (
    -- int main(void) {s = 1;}
    in_main (sets 2 (id 2 (codes "s")) (number 2 1) ∷ []) ∷
    -- int main(void) {s = u;}
    in_main (sets 2 (id 2 (codes "s")) (id 2 (codes "u")) ∷ []) ∷
    -- int main(void) {a = p;}
    in_main (sets 2 (id 2 (codes "a")) (id 2 (codes "p")) ∷ []) ∷
    -- int main(void) {~p;}
    in_main (does 2 (unary 2 mark.tilde (id 2 (codes "p"))) ∷ []) ∷
    -- int main(void) {p * 2;}
    in_main (does 2 (binary 2 mark.star (id 2 (codes "p")) (number 2 2)) ∷ []) ∷
    -- int main(void) {p & 1;}
    in_main (does 2 (binary 2 mark.ampersand (id 2 (codes "p")) (number 2 1)) ∷ []) ∷
    -- int main(void) {x.a;}
    in_main (does 2 (member_of 2 (id 2 (codes "x")) (codes "a")) ∷ []) ∷
    -- int main(void) {sp.a;}
    in_main (does 2 (member_of 2 (id 2 (codes "sp")) (codes "a")) ∷ []) ∷
    -- int main(void) {p << 1;}
    in_main (does 2 (binary 2 mark.left_shift (id 2 (codes "p")) (number 2 1)) ∷ []) ∷
    -- int main(void) {while (s) ;}
    in_main (states (while_loop 2 (id 2 (codes "s")) (evaluate 2 None)) ∷ []) ∷
    [])
    ≡ (32, 2) ∷ (32, 2) ∷ (32, 2) ∷ (32, 2) ∷ (32, 2) ∷ (32, 2) ∷ (32, 2) ∷ (32, 2) ∷ (32, 2) ∷ (32, 2) ∷ []
unfolding answers
mismatches_in_main_1 = refl

-- types that don't fit: 32
mismatches_in_main_2 : answers Ilp32 (
    -- int main(void) {s && 1;}
    in_main (does 2 (binary 2 mark.and_and (id 2 (codes "s")) (number 2 1)) ∷ []) ∷
    -- int main(void) {1 ? s : s2;}
    in_main (does 2 (conditional 2 (number 2 1) (id 2 (codes "s")) (id 2 (codes "s2"))) ∷ []) ∷
    -- int main(void) {x[1];}
    in_main (does 2 (index 2 (id 2 (codes "x")) (number 2 1)) ∷ []) ∷
    -- int main(void) {(struct s)s;}
    in_main (does 2 (cast 2 (type_name 2 (struct_at 2 (codes "s")) []) (id 2 (codes "s"))) ∷ []) ∷
    -- int main(void) {(void)x;}
    in_main (does 2 (cast 2 (type_name 2 (void_word_at 2) []) (id 2 (codes "x"))) ∷ []) ∷
    -- int main(void) {&f1;}
    in_main (does 2 (address_of 2 (codes "f1")) ∷ []) ∷
    -- int main(void) {memcpy;}
    in_main (does 2 (id 2 (codes "memcpy")) ∷ []) ∷
    -- int main(void) {p(1);}
    in_main (does_call 2 (codes "p") (number 2 1 ∷ []) ∷ []) ∷
    -- int main(void) {x = memset(&x, 0, 4);}
    in_main
    (sets 2 (id 2 (codes "x"))
    (call_of 2 (codes "memset") (address_of 2 (codes "x") ∷ zero_at 2 ∷ number 2 4 ∷ [])) ∷ []) ∷
    -- int main(void) {ep_out_u8(s);}
    in_main (does_call 2 (codes "ep_out_u8") (id 2 (codes "s") ∷ []) ∷ []) ∷
    [])
    ≡ (32, 2) ∷ (32, 2) ∷ (32, 2) ∷ (32, 2) ∷ (32, 2) ∷ (32, 2) ∷ (32, 2) ∷ (32, 2) ∷ (32, 2) ∷ (32, 2) ∷ []
unfolding answers
mismatches_in_main_2 = refl

-- types that don't fit: 32
mismatches_in_main_3 : answers Ilp32 (
    -- int main(void) {p %= 2;}
    in_main (does 2 (assign 2 mark.percent_equal (id 2 (codes "p")) (number 2 2)) ∷ []) ∷
    -- int main(void) {s += 1;}
    in_main (does 2 (assign 2 mark.plus_equal (id 2 (codes "s")) (number 2 1)) ∷ []) ∷
    -- int main(void) {a++;}
    in_main (does 2 (post_increment 2 (id 2 (codes "a"))) ∷ []) ∷
    -- int main(void) {int y = {1};}
    in_main
    (local 2 (int_words 2)
    (init (declarator 2 [] (codes "y") []) (Some (listed 2 (to_values (single (number 2 1) ∷ [])))) ∷ []) ∷ []) ∷
    -- int main(void) {int y[2] = a;}
    in_main
    (local 2 (int_words 2)
    (init (declarator 2 [] (codes "y") (Some (number 2 2) ∷ [])) (Some (single (id 2 (codes "a")))) ∷ []) ∷ []) ∷
    -- int main(void) {int y[2][2] = {1, 2};}
    in_main
    (local 2 (int_words 2)
    (init (declarator 2 [] (codes "y") (Some (number 2 2) ∷ Some (number 2 2) ∷ []))
    (Some (listed 2 (to_values (single (number 2 1) ∷ single (number 2 2) ∷ [])))) ∷ []) ∷ []) ∷
    -- int main(void) {struct s y = {1, {2, 3, 4}, 0, 1};}
    in_main
    (local 2 (struct_words 2 (codes "s"))
    (init (declarator 2 [] (codes "y") [])
    (Some
    (listed 2
    (to_values
    (single (number 2 1) ∷
    listed 2 (to_values (single (number 2 2) ∷ single (number 2 3) ∷ single (number 2 4) ∷ [])) ∷
    single (zero_at 2) ∷
    single (number 2 1) ∷ [])))) ∷ []) ∷ []) ∷
    -- int main(void) {struct s y = 1;}
    in_main (local 2 (struct_words 2 (codes "s")) (variable_of 2 (codes "y") (number 2 1)) ∷ []) ∷
    -- int main(void) {NULL(1);}
    in_main (does_call 2 (codes "NULL") (number 2 1 ∷ []) ∷ []) ∷
    -- int main(void) {s;}
    in_main (does 2 (id 2 (codes "s")) ∷ []) ∷
    [])
    ≡ (32, 2) ∷ (32, 2) ∷ (32, 2) ∷ (32, 2) ∷ (32, 2) ∷ (32, 2) ∷ (32, 2) ∷ (32, 2) ∷ (32, 2) ∷ (32, 2) ∷ []
unfolding answers
mismatches_in_main_3 = refl

-- types that don't fit: 32
mismatches_in_main_4 : answers Ilp32 (
    -- int main(void) {2[a];}
    in_main (does 2 (index 2 (number 2 2) (id 2 (codes "a"))) ∷ []) ∷
    -- int main(void) {return;}
    in_main (states (return_value 2 None) ∷ []) ∷
    -- int main(void) {p < 0;}
    in_main (does 2 (binary 2 mark.less (id 2 (codes "p")) (zero_at 2)) ∷ []) ∷
    [])
    ≡ (32, 2) ∷ (32, 2) ∷ (32, 2) ∷ []
unfolding answers
mismatches_in_main_4 = refl

-- a size of what has none: 33
incomplete_in_main : answers Ilp32 (
    -- int main(void) {vp[0];}
    in_main (does 2 (index 2 (id 2 (codes "vp")) (zero_at 2)) ∷ []) ∷
    -- int main(void) {vp++;}
    in_main (does 2 (post_increment 2 (id 2 (codes "vp"))) ∷ []) ∷
    -- int main(void) {o[0];}
    in_main (does 2 (index 2 (id 2 (codes "o")) (zero_at 2)) ∷ []) ∷
    -- int main(void) {sizeof(void);}
    in_main (does 2 (sizeof_type 2 (type_name 2 (void_word_at 2) [])) ∷ []) ∷
    -- int main(void) {*o = *o;}
    in_main (sets 2 (unary 2 mark.star (id 2 (codes "o"))) (unary 2 mark.star (id 2 (codes "o"))) ∷ []) ∷
    -- int main(void) {vp - 1;}
    in_main (does 2 (binary 2 mark.minus (id 2 (codes "vp")) (number 2 1)) ∷ []) ∷
    -- int main(void) {struct o v;}
    in_main (local 2 (struct_words 2 (codes "o")) (variable 2 (codes "v")) ∷ []) ∷
    -- int main(void) {vp += 1;}
    in_main (does 2 (assign 2 mark.plus_equal (id 2 (codes "vp")) (number 2 1)) ∷ []) ∷
    -- int main(void) {*vp;}
    in_main (does 2 (unary 2 mark.star (id 2 (codes "vp"))) ∷ []) ∷
    [])
    ≡ (33, 2) ∷ (33, 2) ∷ (33, 2) ∷ (33, 2) ∷ (33, 2) ∷ (33, 2) ∷ (33, 2) ∷ (33, 2) ∷ (33, 2) ∷ []
unfolding answers
incomplete_in_main = refl

-- between pointers and integers: 34
mixed_in_main_1 : answers Ilp32 (
    -- int main(void) {x = p;}
    in_main (sets 2 (id 2 (codes "x")) (id 2 (codes "p")) ∷ []) ∷
    -- int main(void) {x = (int)p;}
    in_main (sets 2 (id 2 (codes "x")) (cast 2 (type_name 2 (int_word_at 2) []) (id 2 (codes "p"))) ∷ []) ∷
    -- int main(void) {p == 1;}
    in_main (does 2 (binary 2 mark.equal_equal (id 2 (codes "p")) (number 2 1)) ∷ []) ∷
    -- int main(void) {x = &x;}
    in_main (sets 2 (id 2 (codes "x")) (address_of 2 (codes "x")) ∷ []) ∷
    -- int main(void) {ep_out_u8(p);}
    in_main (does_call 2 (codes "ep_out_u8") (id 2 (codes "p") ∷ []) ∷ []) ∷
    -- int main(void) {p = ep_in_u8();}
    in_main (sets 2 (id 2 (codes "p")) (call_of 2 (codes "ep_in_u8") []) ∷ []) ∷
    -- int main(void) {int y = p;}
    in_main (local 2 (int_words 2) (variable_of 2 (codes "y") (id 2 (codes "p"))) ∷ []) ∷
    -- int main(void) {memcpy(&x, 1, 4);}
    in_main (does_call 2 (codes "memcpy") (address_of 2 (codes "x") ∷ number 2 1 ∷ number 2 4 ∷ []) ∷ []) ∷
    -- int main(void) {ep_write(x, 4);}
    in_main (does_call 2 (codes "ep_write") (id 2 (codes "x") ∷ number 2 4 ∷ []) ∷ []) ∷
    -- int main(void) {p = f1(1);}
    in_main (sets 2 (id 2 (codes "p")) (call_of 2 (codes "f1") (number 2 1 ∷ [])) ∷ []) ∷
    [])
    ≡ (34, 2) ∷ (34, 2) ∷ (34, 2) ∷ (34, 2) ∷ (34, 2) ∷ (34, 2) ∷ (34, 2) ∷ (34, 2) ∷ (34, 2) ∷ (34, 2) ∷ []
unfolding answers
mixed_in_main_1 = refl

-- between pointers and integers: 34
mixed_in_main_2 : answers Ilp32 (
    -- int main(void) {fa(1, cp);}
    in_main (does_call 2 (codes "fa") (number 2 1 ∷ id 2 (codes "cp") ∷ []) ∷ []) ∷
    -- int main(void) {(int)NULL;}
    in_main (does 2 (cast 2 (type_name 2 (int_word_at 2) []) (id 2 (codes "NULL"))) ∷ []) ∷
    -- int main(void) {f1(p, 1);}
    in_main (does_call 2 (codes "f1") (id 2 (codes "p") ∷ number 2 1 ∷ []) ∷ []) ∷
    [])
    ≡ (34, 2) ∷ (34, 2) ∷ (34, 2) ∷ []
unfolding answers
mixed_in_main_2 = refl
