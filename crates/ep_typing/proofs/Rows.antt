-- Whole statements of each kind, as C compilers and this project's rules have them. All stand in a program with the
-- names of `around`.
use Rattle.std.proofs.Common.{◌≡◌, [], ◌∷◌, refl, true, false, Err}
use Rattle.std.specs.Prelude.{codes}
use Rattle.ep_int.specs.declared.types.Model.TheVariants.{Ilp32}
use Rattle.ep_ast.specs.Mark as mark
use Rattle.ep_ast.specs.Expression as source
use Rattle.ep_typing.proofs.Opened.{kinds, statement}
use Rattle.ep_typing.proofs.Trees.{assign, conditional, binary, type_name, cast, step, unary, sizeof_expr}
use Rattle.ep_typing.proofs.Trees.{sizeof_type, index, call, member, arrow, post_increment, post_decrement, id}
use Rattle.ep_typing.proofs.Trees.{literal, number}

-- names that were not declared before: 30
unknown_names : kinds Ilp32 (
    -- y = 1;
    (assign mark.equal (id (codes "y")) (number 1)) ∷
    -- f();
    (call (id (codes "f")) ([])) ∷
    -- p = &y;
    (assign mark.equal (id (codes "p")) (unary mark.ampersand (id (codes "y")))) ∷
    -- x = abs(1);
    (assign mark.equal (id (codes "x")) (call (id (codes "abs")) ((number 1) ∷ []))) ∷
    -- INT8_MAX;
    (id (codes "INT8_MAX")) ∷
    -- x = y;
    (assign mark.equal (id (codes "x")) (id (codes "y"))) ∷
    -- p = 5 + y;
    (assign mark.equal (id (codes "p")) (binary mark.plus (number 5) (id (codes "y")))) ∷
    -- 1 = y;
    (assign mark.equal (number 1) (id (codes "y"))) ∷
    [])
    ≡ 30 ∷ 30 ∷ 30 ∷ 30 ∷ 30 ∷ 30 ∷ 30 ∷ 30 ∷ []
unfolding kinds
unknown_names = refl

-- what is no scalar, and other breaches of types: 32
not_scalars : kinds Ilp32 (
    -- s = 1;
    (assign mark.equal (id (codes "s")) (number 1)) ∷
    -- s = u;
    (assign mark.equal (id (codes "s")) (id (codes "u"))) ∷
    -- a = p;
    (assign mark.equal (id (codes "a")) (id (codes "p"))) ∷
    -- ~p;
    (unary mark.tilde (id (codes "p"))) ∷
    -- p * 2;
    (binary mark.star (id (codes "p")) (number 2)) ∷
    -- p & 1;
    (binary mark.ampersand (id (codes "p")) (number 1)) ∷
    -- p + p;
    (binary mark.plus (id (codes "p")) (id (codes "p"))) ∷
    -- p - p;
    (binary mark.minus (id (codes "p")) (id (codes "p"))) ∷
    -- 1 - p;
    (binary mark.minus (number 1) (id (codes "p"))) ∷
    -- x.a;
    (member (id (codes "x")) (codes "a")) ∷
    -- sp.a;
    (member (id (codes "sp")) (codes "a")) ∷
    -- x->a;
    (arrow (id (codes "x")) (codes "a")) ∷
    -- p << 1;
    (binary mark.left_shift (id (codes "p")) (number 1)) ∷
    -- s && 1;
    (binary mark.and_and (id (codes "s")) (number 1)) ∷
    -- 1 || s;
    (binary mark.bar_bar (number 1) (id (codes "s"))) ∷
    -- !s;
    (unary mark.exclamation (id (codes "s"))) ∷
    -- 1 ? s : s2;
    (conditional (number 1) (id (codes "s")) (id (codes "s2"))) ∷
    -- s ? 1 : 2;
    (conditional (id (codes "s")) (number 1) (number 2)) ∷
    -- x[1];
    (index (id (codes "x")) (number 1)) ∷
    -- a[p];
    (index (id (codes "a")) (id (codes "p"))) ∷
    -- 2[a];
    (index (number 2) (id (codes "a"))) ∷
    -- 1[p];
    (index (number 1) (id (codes "p"))) ∷
    -- *x;
    (unary mark.star (id (codes "x"))) ∷
    -- *0;
    (unary mark.star (literal 0 false false 0)) ∷
    -- (struct s)s;
    (cast (type_name (source.tagged 2 mark.struct_word (codes "s") ∷ []) ([])) (id (codes "s"))) ∷
    -- (void)x;
    (cast (type_name (source.word 2 mark.void_word ∷ []) ([])) (id (codes "x"))) ∷
    -- (row)x;
    (cast (type_name (source.typedef_name 2 (codes "row") ∷ []) ([])) (id (codes "x"))) ∷
    -- (int)s;
    (cast (type_name (source.word 2 mark.int_word ∷ []) ([])) (id (codes "s"))) ∷
    -- s;
    (id (codes "s")) ∷
    -- x = s;
    (assign mark.equal (id (codes "x")) (id (codes "s"))) ∷
    -- *vp = 1;
    (assign mark.equal (unary mark.star (id (codes "vp"))) (number 1)) ∷
    [])
    ≡ 32 ∷ 32 ∷ 32 ∷ 32 ∷ 32 ∷ 32 ∷ 32 ∷ 32 ∷ 32 ∷ 32 ∷ 32 ∷ 32 ∷ 32 ∷ 32 ∷ 32 ∷ 32 ∷ 32 ∷ 32 ∷ 32 ∷ 32 ∷ 32 ∷ 32 ∷
    32 ∷ 32 ∷ 32 ∷ 32 ∷ 32 ∷ 32 ∷ 32 ∷ 32 ∷ 32 ∷ []
unfolding kinds
not_scalars = refl

-- a function's name is only called: 32
functions_named : kinds Ilp32 (
    -- &f1;
    (unary mark.ampersand (id (codes "f1"))) ∷
    -- memcpy;
    (id (codes "memcpy")) ∷
    -- f1;
    (id (codes "f1")) ∷
    -- f1 + y;
    (binary mark.plus (id (codes "f1")) (id (codes "y"))) ∷
    -- x = f1;
    (assign mark.equal (id (codes "x")) (id (codes "f1"))) ∷
    -- f1 = 1;
    (assign mark.equal (id (codes "f1")) (number 1)) ∷
    -- sizeof f1;
    (sizeof_expr (id (codes "f1"))) ∷
    -- !f1;
    (unary mark.exclamation (id (codes "f1"))) ∷
    -- f1 = zz;
    (assign mark.equal (id (codes "f1")) (id (codes "zz"))) ∷
    -- f1 - zz;
    (binary mark.minus (id (codes "f1")) (id (codes "zz"))) ∷
    -- f1(f0, zz);
    (call (id (codes "f1")) ((id (codes "f0")) ∷ (id (codes "zz")) ∷ [])) ∷
    -- p(1);
    (call (id (codes "p")) ((number 1) ∷ [])) ∷
    -- NULL(1);
    (call (id (codes "NULL")) ((number 1) ∷ [])) ∷
    -- x(1);
    (call (id (codes "x")) ((number 1) ∷ [])) ∷
    [])
    ≡ 32 ∷ 32 ∷ 32 ∷ 32 ∷ 32 ∷ 32 ∷ 32 ∷ 32 ∷ 32 ∷ 32 ∷ 32 ∷ 32 ∷ 32 ∷ 32 ∷ []
unfolding kinds
functions_named = refl

-- at the name itself, with its line
-- x
-- = -
-- f1;
function_line : statement Ilp32 (
    source.assign 2 mark.equal (id (codes "x")) (source.unary 3 mark.minus (source.id 4 (codes "f1")))
    )
    ≡ Err (record { kind = 32; line = 4; word = 0 })
unfolding statement
function_line = refl

-- the result of what has none: 32
results_missing : kinds Ilp32 (
    -- x = memset(&x, 0, 4);
    (assign mark.equal (id (codes "x")) (call (id (codes "memset")) ((unary mark.ampersand (id (codes "x"))) ∷
    (literal 0 false false 0) ∷ (number 4) ∷ []))) ∷
    -- x = f0();
    (assign mark.equal (id (codes "x")) (call (id (codes "f0")) ([]))) ∷
    -- x = ep_out_u8(1);
    (assign mark.equal (id (codes "x")) (call (id (codes "ep_out_u8")) ((number 1) ∷ []))) ∷
    -- p = memcpy(p, p, 4);
    (assign mark.equal (id (codes "p")) (call (id (codes "memcpy")) ((id (codes "p")) ∷ (id (codes "p")) ∷
    (number 4) ∷ []))) ∷
    [])
    ≡ 32 ∷ 32 ∷ 32 ∷ 32 ∷ []
unfolding kinds
results_missing = refl

-- compound assignments and steps that don't fit: 32
compound_mismatches : kinds Ilp32 (
    -- p %= 2;
    (assign mark.percent_equal (id (codes "p")) (number 2)) ∷
    -- s += 1;
    (assign mark.plus_equal (id (codes "s")) (number 1)) ∷
    -- a++;
    (post_increment (id (codes "a"))) ∷
    -- a += 1;
    (assign mark.plus_equal (id (codes "a")) (number 1)) ∷
    [])
    ≡ 32 ∷ 32 ∷ 32 ∷ 32 ∷ []
unfolding kinds
compound_mismatches = refl

-- void, and what isn't completed: 33
sizes_missing : kinds Ilp32 (
    -- vp[0];
    (index (id (codes "vp")) (literal 0 false false 0)) ∷
    -- vp++;
    (post_increment (id (codes "vp"))) ∷
    -- o[0];
    (index (id (codes "o")) (literal 0 false false 0)) ∷
    -- o + 1;
    (binary mark.plus (id (codes "o")) (number 1)) ∷
    -- sizeof(void);
    (sizeof_type (type_name (source.word 2 mark.void_word ∷ []) ([]))) ∷
    -- sizeof *o;
    (sizeof_expr (unary mark.star (id (codes "o")))) ∷
    -- sizeof *vp;
    (sizeof_expr (unary mark.star (id (codes "vp")))) ∷
    -- sizeof(struct z);
    (sizeof_type (type_name (source.tagged 2 mark.struct_word (codes "z") ∷ []) ([]))) ∷
    -- *o = *o;
    (assign mark.equal (unary mark.star (id (codes "o"))) (unary mark.star (id (codes "o")))) ∷
    -- vp - 1;
    (binary mark.minus (id (codes "vp")) (number 1)) ∷
    -- vp += 1;
    (assign mark.plus_equal (id (codes "vp")) (number 1)) ∷
    -- *vp;
    (unary mark.star (id (codes "vp"))) ∷
    -- x = *vp;
    (assign mark.equal (id (codes "x")) (unary mark.star (id (codes "vp")))) ∷
    -- NULL + 1;
    (binary mark.plus (id (codes "NULL")) (number 1)) ∷
    -- *NULL;
    (unary mark.star (id (codes "NULL"))) ∷
    [])
    ≡ 33 ∷ 33 ∷ 33 ∷ 33 ∷ 33 ∷ 33 ∷ 33 ∷ 33 ∷ 33 ∷ 33 ∷ 33 ∷ 33 ∷ 33 ∷ 33 ∷ 33 ∷ []
unfolding kinds
sizes_missing = refl

-- a void object is refused before the next operand is looked at
voids_first : kinds Ilp32 (
    -- *vp + y;
    (binary mark.plus (unary mark.star (id (codes "vp"))) (id (codes "y"))) ∷
    -- *vp ? y : 1;
    (conditional (unary mark.star (id (codes "vp"))) (id (codes "y")) (number 1)) ∷
    -- f1(*vp, y);
    (call (id (codes "f1")) ((unary mark.star (id (codes "vp"))) ∷ (id (codes "y")) ∷ [])) ∷
    -- y + *vp;
    (binary mark.plus (id (codes "y")) (unary mark.star (id (codes "vp")))) ∷
    [])
    ≡ 33 ∷ 33 ∷ 33 ∷ 30 ∷ []
unfolding kinds
voids_first = refl

-- a pointer for an integer, or an integer for a pointer: 34
pointers_for_integers : kinds Ilp32 (
    -- x = p;
    (assign mark.equal (id (codes "x")) (id (codes "p"))) ∷
    -- x = (int)p;
    (assign mark.equal (id (codes "x")) (cast (type_name (source.word 2 mark.int_word ∷ []) ([])) (id (codes "p")))) ∷
    -- p == 1;
    (binary mark.equal_equal (id (codes "p")) (number 1)) ∷
    -- 1 != p;
    (binary mark.not_equal (number 1) (id (codes "p"))) ∷
    -- p < 1;
    (binary mark.less (id (codes "p")) (number 1)) ∷
    -- 1 ? p : 1;
    (conditional (number 1) (id (codes "p")) (number 1)) ∷
    -- x = &x;
    (assign mark.equal (id (codes "x")) (unary mark.ampersand (id (codes "x")))) ∷
    -- ep_out_u8(p);
    (call (id (codes "ep_out_u8")) ((id (codes "p")) ∷ [])) ∷
    -- p = ep_in_u8();
    (assign mark.equal (id (codes "p")) (call (id (codes "ep_in_u8")) ([]))) ∷
    -- memcpy(&x, 1, 4);
    (call (id (codes "memcpy")) ((unary mark.ampersand (id (codes "x"))) ∷ (number 1) ∷ (number 4) ∷ [])) ∷
    -- ep_write(x, 4);
    (call (id (codes "ep_write")) ((id (codes "x")) ∷ (number 4) ∷ [])) ∷
    -- p = f1(1);
    (assign mark.equal (id (codes "p")) (call (id (codes "f1")) ((number 1) ∷ []))) ∷
    -- fa(1, cp);
    (call (id (codes "fa")) ((number 1) ∷ (id (codes "cp")) ∷ [])) ∷
    -- (int)NULL;
    (cast (type_name (source.word 2 mark.int_word ∷ []) ([])) (id (codes "NULL"))) ∷
    -- x = NULL;
    (assign mark.equal (id (codes "x")) (id (codes "NULL"))) ∷
    -- p = 5;
    (assign mark.equal (id (codes "p")) (number 5)) ∷
    -- p = (int)0;
    (assign mark.equal (id (codes "p")) (cast (type_name (source.word 2 mark.int_word ∷ []) ([]))
    (literal 0 false false 0))) ∷
    -- p = 1 - 1;
    (assign mark.equal (id (codes "p")) (binary mark.minus (number 1) (number 1))) ∷
    -- p = sizeof x;
    (assign mark.equal (id (codes "p")) (sizeof_expr (id (codes "x")))) ∷
    -- (int *)5;
    (cast (type_name (source.word 2 mark.int_word ∷ []) (0 ∷ [])) (number 5)) ∷
    -- x += p;
    (assign mark.plus_equal (id (codes "x")) (id (codes "p"))) ∷
    -- x = fp();
    (assign mark.equal (id (codes "x")) (call (id (codes "fp")) ([]))) ∷
    -- memset(p, p, 4);
    (call (id (codes "memset")) ((id (codes "p")) ∷ (id (codes "p")) ∷ (number 4) ∷ [])) ∷
    -- memset(p, 0, p);
    (call (id (codes "memset")) ((id (codes "p")) ∷ (literal 0 false false 0) ∷ (id (codes "p")) ∷ [])) ∷
    [])
    ≡ 34 ∷ 34 ∷ 34 ∷ 34 ∷ 34 ∷ 34 ∷ 34 ∷ 34 ∷ 34 ∷ 34 ∷ 34 ∷ 34 ∷ 34 ∷ 34 ∷ 34 ∷ 34 ∷ 34 ∷ 34 ∷ 34 ∷ 34 ∷ 34 ∷ 34 ∷
    34 ∷ 34 ∷ []
unfolding kinds
pointers_for_integers = refl

-- null is no pointer of a type where pointers are ordered: 32
null_in_order : kinds Ilp32 (
    -- p < 0;
    (binary mark.less (id (codes "p")) (literal 0 false false 0)) ∷
    -- p < NULL;
    (binary mark.less (id (codes "p")) (id (codes "NULL"))) ∷
    -- NULL < 1;
    (binary mark.less (id (codes "NULL")) (number 1)) ∷
    [])
    ≡ 32 ∷ 32 ∷ 32 ∷ []
unfolding kinds
null_in_order = refl

-- pointers of different types: 44
pointers_of_types : kinds Ilp32 (
    -- p = cp;
    (assign mark.equal (id (codes "p")) (id (codes "cp"))) ∷
    -- p = sp;
    (assign mark.equal (id (codes "p")) (id (codes "sp"))) ∷
    -- p < cp;
    (binary mark.less (id (codes "p")) (id (codes "cp"))) ∷
    -- p < vp;
    (binary mark.less (id (codes "p")) (id (codes "vp"))) ∷
    -- p == cp;
    (binary mark.equal_equal (id (codes "p")) (id (codes "cp"))) ∷
    -- 1 ? p : cp;
    (conditional (number 1) (id (codes "p")) (id (codes "cp"))) ∷
    -- p = &m[0];
    (assign mark.equal (id (codes "p")) (unary mark.ampersand (index (id (codes "m")) (literal 0 false false 0)))) ∷
    -- fa(p, p);
    (call (id (codes "fa")) ((id (codes "p")) ∷ (id (codes "p")) ∷ [])) ∷
    -- p = &cp;
    (assign mark.equal (id (codes "p")) (unary mark.ampersand (id (codes "cp")))) ∷
    -- cp = fp();
    (assign mark.equal (id (codes "cp")) (call (id (codes "fp")) ([]))) ∷
    [])
    ≡ 44 ∷ 44 ∷ 44 ∷ 44 ∷ 44 ∷ 44 ∷ 44 ∷ 44 ∷ 44 ∷ 44 ∷ []
unfolding kinds
pointers_of_types = refl

-- a wrong number of arguments: 39, or the lowest of all that is wrong; an aggregate is 32 wherever it stands
arguments_counted : kinds Ilp32 (
    -- f1(1, 2);
    (call (id (codes "f1")) ((number 1) ∷ (number 2) ∷ [])) ∷
    -- f1();
    (call (id (codes "f1")) ([])) ∷
    -- ep_in_u8(1);
    (call (id (codes "ep_in_u8")) ((number 1) ∷ [])) ∷
    -- memcpy(p, p);
    (call (id (codes "memcpy")) ((id (codes "p")) ∷ (id (codes "p")) ∷ [])) ∷
    -- x = f1();
    (assign mark.equal (id (codes "x")) (call (id (codes "f1")) ([]))) ∷
    -- f1(p, 1);
    (call (id (codes "f1")) ((id (codes "p")) ∷ (number 1) ∷ [])) ∷
    -- f1(s, 1);
    (call (id (codes "f1")) ((id (codes "s")) ∷ (number 1) ∷ [])) ∷
    -- ep_out_u8();
    (call (id (codes "ep_out_u8")) ([])) ∷
    -- memset(&x, 0);
    (call (id (codes "memset")) ((unary mark.ampersand (id (codes "x"))) ∷ (literal 0 false false 0) ∷ [])) ∷
    -- fa(cp, 1);
    (call (id (codes "fa")) ((id (codes "cp")) ∷ (number 1) ∷ [])) ∷
    -- memcpy(p, p, x, 1);
    (call (id (codes "memcpy")) ((id (codes "p")) ∷ (id (codes "p")) ∷ (id (codes "x")) ∷ (number 1) ∷ [])) ∷
    -- f1(1, s);
    (call (id (codes "f1")) ((number 1) ∷ (id (codes "s")) ∷ [])) ∷
    -- f1(1, p);
    (call (id (codes "f1")) ((number 1) ∷ (id (codes "p")) ∷ [])) ∷
    -- f1(p, 2, s);
    (call (id (codes "f1")) ((id (codes "p")) ∷ (number 2) ∷ (id (codes "s")) ∷ [])) ∷
    -- ep_write(p, 4, s);
    (call (id (codes "ep_write")) ((id (codes "p")) ∷ (number 4) ∷ (id (codes "s")) ∷ [])) ∷
    -- ep_in_u8(s);
    (call (id (codes "ep_in_u8")) ((id (codes "s")) ∷ [])) ∷
    [])
    ≡ 39 ∷ 39 ∷ 39 ∷ 39 ∷ 39 ∷ 34 ∷ 32 ∷ 39 ∷ 39 ∷ 34 ∷ 39 ∷ 32 ∷ 39 ∷ 32 ∷ 32 ∷ 32 ∷ []
unfolding kinds
arguments_counted = refl

-- no such member, as none is of what isn't completed: 40
members_missing : kinds Ilp32 (
    -- s.z;
    (member (id (codes "s")) (codes "z")) ∷
    -- u.w;
    (member (id (codes "u")) (codes "w")) ∷
    -- &s.q;
    (unary mark.ampersand (member (id (codes "s")) (codes "q"))) ∷
    -- sp->z;
    (arrow (id (codes "sp")) (codes "z")) ∷
    -- o->a;
    (arrow (id (codes "o")) (codes "a")) ∷
    [])
    ≡ 40 ∷ 40 ∷ 40 ∷ 40 ∷ 40 ∷ []
unfolding kinds
members_missing = refl

-- what is no object: 41
no_objects : kinds Ilp32 (
    -- &1;
    (unary mark.ampersand (number 1)) ∷
    -- (x + 1) = 2;
    (assign mark.equal (binary mark.plus (id (codes "x")) (number 1)) (number 2)) ∷
    -- 1++;
    (post_increment (number 1)) ∷
    -- (x + 1) += 1;
    (assign mark.plus_equal (binary mark.plus (id (codes "x")) (number 1)) (number 1)) ∷
    -- &-x;
    (unary mark.ampersand (unary mark.minus (id (codes "x")))) ∷
    -- 1 = ep_in_u8();
    (assign mark.equal (number 1) (call (id (codes "ep_in_u8")) ([]))) ∷
    -- 1 = 2;
    (assign mark.equal (number 1) (number 2)) ∷
    -- -x = 1;
    (assign mark.equal (unary mark.minus (id (codes "x"))) (number 1)) ∷
    [])
    ≡ 41 ∷ 41 ∷ 41 ∷ 41 ∷ 41 ∷ 41 ∷ 41 ∷ 41 ∷ []
unfolding kinds
no_objects = refl

-- at an assignment the lowest of all kinds
lowest_at_equal : kinds Ilp32 (
    -- 1 = p;
    (assign mark.equal (number 1) (id (codes "p"))) ∷
    -- p = y;
    (assign mark.equal (id (codes "p")) (id (codes "y"))) ∷
    -- *vp = *vp;
    (assign mark.equal (unary mark.star (id (codes "vp"))) (unary mark.star (id (codes "vp")))) ∷
    -- s = *o;
    (assign mark.equal (id (codes "s")) (unary mark.star (id (codes "o")))) ∷
    -- 1 = s;
    (assign mark.equal (number 1) (id (codes "s"))) ∷
    [])
    ≡ 34 ∷ 30 ∷ 32 ∷ 32 ∷ 32 ∷ []
unfolding kinds
lowest_at_equal = refl

-- lengths that are no constants from 1 to 65,536: 42
lengths : kinds Ilp32 (
    -- memcpy(p, p, x);
    (call (id (codes "memcpy")) ((id (codes "p")) ∷ (id (codes "p")) ∷ (id (codes "x")) ∷ [])) ∷
    -- memcpy(p, p, 65537);
    (call (id (codes "memcpy")) ((id (codes "p")) ∷ (id (codes "p")) ∷ (number 65537) ∷ [])) ∷
    -- ep_read(p, 1 / 0);
    (call (id (codes "ep_read")) ((id (codes "p")) ∷ (binary mark.slash (number 1) (literal 0 false false 0)) ∷ [])) ∷
    -- ep_read(p, 0 && x);
    (call (id (codes "ep_read")) ((id (codes "p")) ∷ (binary mark.and_and (literal 0 false false 0) (id
    (codes "x"))) ∷ [])) ∷
    -- ep_read(a, 0);
    (call (id (codes "ep_read")) ((id (codes "a")) ∷ (literal 0 false false 0) ∷ [])) ∷
    -- memcpy(a, a, -1);
    (call (id (codes "memcpy")) ((id (codes "a")) ∷ (id (codes "a")) ∷ (unary mark.minus (number 1)) ∷ [])) ∷
    -- ep_read(p, 2147483647 + 1);
    (call (id (codes "ep_read")) ((id (codes "p")) ∷ (binary mark.plus (number 2147483647) (number 1)) ∷ [])) ∷
    -- ep_read(p, 1 << 31);
    (call (id (codes "ep_read")) ((id (codes "p")) ∷ (binary mark.left_shift (number 1) (number 31)) ∷ [])) ∷
    -- ep_read(p, NULL == 0);
    (call (id (codes "ep_read")) ((id (codes "p")) ∷ (binary mark.equal_equal (id (codes "NULL"))
    (literal 0 false false 0)) ∷ [])) ∷
    -- ep_read(p, 1 ? 2 : x);
    (call (id (codes "ep_read")) ((id (codes "p")) ∷ (conditional (number 1) (number 2) (id (codes "x"))) ∷ [])) ∷
    [])
    ≡ 42 ∷ 42 ∷ 42 ∷ 42 ∷ 42 ∷ 42 ∷ 42 ∷ 42 ∷ 42 ∷ 42 ∷ []
unfolding kinds
lengths = refl

-- calls in other places: 18, after the operands
calls_elsewhere : kinds Ilp32 (
    -- f1(f1(1));
    (call (id (codes "f1")) ((call (id (codes "f1")) ((number 1) ∷ [])) ∷ [])) ∷
    -- x = f1(1) + 1;
    (assign mark.equal (id (codes "x")) (binary mark.plus (call (id (codes "f1")) ((number 1) ∷ [])) (number 1))) ∷
    -- x = sizeof f1(1);
    (assign mark.equal (id (codes "x")) (sizeof_expr (call (id (codes "f1")) ((number 1) ∷ [])))) ∷
    -- x = (int)f1(1);
    (assign mark.equal (id (codes "x")) (cast (type_name (source.word 2 mark.int_word ∷ []) ([])) (call (id
    (codes "f1")) ((number 1) ∷ [])))) ∷
    -- x = ep_in_u8() + 1;
    (assign mark.equal (id (codes "x")) (binary mark.plus (call (id (codes "ep_in_u8")) ([])) (number 1))) ∷
    -- *fp() = 1;
    (assign mark.equal (unary mark.star (call (id (codes "fp")) ([]))) (number 1)) ∷
    -- x += f1(1);
    (assign mark.plus_equal (id (codes "x")) (call (id (codes "f1")) ((number 1) ∷ []))) ∷
    -- f1(y) + 1;
    (binary mark.plus (call (id (codes "f1")) ((id (codes "y")) ∷ [])) (number 1)) ∷
    -- a[0] = f1(s) + 1;
    (assign mark.equal (index (id (codes "a")) (literal 0 false false 0)) (binary mark.plus (call (id (codes "f1"))
    ((id (codes "s")) ∷ [])) (number 1))) ∷
    -- f1() + 1;
    (binary mark.plus (call (id (codes "f1")) ([])) (number 1)) ∷
    [])
    ≡ 18 ∷ 18 ∷ 18 ∷ 18 ∷ 18 ∷ 18 ∷ 18 ∷ 30 ∷ 18 ∷ 18 ∷ []
unfolding kinds
calls_elsewhere = refl

-- assignments and steps in other places: 19, after the operands
assignments_elsewhere : kinds Ilp32 (
    -- x = 1 + (w = 1);
    (assign mark.equal (id (codes "x")) (binary mark.plus (number 1) (assign mark.equal (id (codes "w"))
    (number 1)))) ∷
    -- a[x++] = 1;
    (assign mark.equal (index (id (codes "a")) (post_increment (id (codes "x")))) (number 1)) ∷
    -- x = -x--;
    (assign mark.equal (id (codes "x")) (unary mark.minus (post_decrement (id (codes "x"))))) ∷
    -- sizeof x++;
    (sizeof_expr (post_increment (id (codes "x")))) ∷
    -- x = ++w;
    (assign mark.equal (id (codes "x")) (step mark.plus_plus (id (codes "w")))) ∷
    -- x++ + 1;
    (binary mark.plus (post_increment (id (codes "x"))) (number 1)) ∷
    -- y + (x = 1);
    (binary mark.plus (id (codes "y")) (assign mark.equal (id (codes "x")) (number 1))) ∷
    -- x = w = 1;
    (assign mark.equal (id (codes "x")) (assign mark.equal (id (codes "w")) (number 1))) ∷
    -- x = (y = 1);
    (assign mark.equal (id (codes "x")) (assign mark.equal (id (codes "y")) (number 1))) ∷
    -- x = (1 = 2);
    (assign mark.equal (id (codes "x")) (assign mark.equal (number 1) (number 2))) ∷
    [])
    ≡ 19 ∷ 19 ∷ 19 ∷ 19 ∷ 19 ∷ 19 ∷ 30 ∷ 19 ∷ 30 ∷ 19 ∷ []
unfolding kinds
assignments_elsewhere = refl

-- a tag with the other word: 31
tags : kinds Ilp32 (
    -- sizeof(union s);
    (sizeof_type (type_name (source.tagged 2 mark.union_word (codes "s") ∷ []) ([]))) ∷
    -- (union o *)p;
    (cast (type_name (source.tagged 2 mark.union_word (codes "o") ∷ []) (0 ∷ [])) (id (codes "p"))) ∷
    [])
    ≡ 31 ∷ 31 ∷ []
unfolding kinds
tags = refl

-- what is accepted
accepted : kinds Ilp32 (
    -- p = vp;
    (assign mark.equal (id (codes "p")) (id (codes "vp"))) ∷
    -- vp = p;
    (assign mark.equal (id (codes "vp")) (id (codes "p"))) ∷
    -- vp = o;
    (assign mark.equal (id (codes "vp")) (id (codes "o"))) ∷
    -- p == vp;
    (binary mark.equal_equal (id (codes "p")) (id (codes "vp"))) ∷
    -- vp != sp;
    (binary mark.not_equal (id (codes "vp")) (id (codes "sp"))) ∷
    -- p == 0;
    (binary mark.equal_equal (id (codes "p")) (literal 0 false false 0)) ∷
    -- 0 != p;
    (binary mark.not_equal (literal 0 false false 0) (id (codes "p"))) ∷
    -- NULL == p;
    (binary mark.equal_equal (id (codes "NULL")) (id (codes "p"))) ∷
    -- NULL == 0;
    (binary mark.equal_equal (id (codes "NULL")) (literal 0 false false 0)) ∷
    -- p = 1 ? p : 0;
    (assign mark.equal (id (codes "p")) (conditional (number 1) (id (codes "p")) (literal 0 false false 0))) ∷
    -- p = 1 ? vp : p;
    (assign mark.equal (id (codes "p")) (conditional (number 1) (id (codes "vp")) (id (codes "p")))) ∷
    -- p = 1 ? NULL : NULL;
    (assign mark.equal (id (codes "p")) (conditional (number 1) (id (codes "NULL")) (id (codes "NULL")))) ∷
    -- p = (int *)cp;
    (assign mark.equal (id (codes "p")) (cast (type_name (source.word 2 mark.int_word ∷ []) (0 ∷ [])) (id
    (codes "cp")))) ∷
    -- p = 0;
    (assign mark.equal (id (codes "p")) (literal 0 false false 0)) ∷
    -- p = (0);
    (assign mark.equal (id (codes "p")) (literal 0 false false 0)) ∷
    -- p = '\0';
    (assign mark.equal (id (codes "p")) (number 0)) ∷
    -- p = 0x0;
    (assign mark.equal (id (codes "p")) (literal 0 false false 0)) ∷
    -- p = 0ul;
    (assign mark.equal (id (codes "p")) (literal 0 false true 1)) ∷
    -- sp = (void *)0;
    (assign mark.equal (id (codes "sp")) (cast (type_name (source.word 2 mark.void_word ∷ []) (0 ∷ []))
    (literal 0 false false 0))) ∷
    -- p = (int *)0;
    (assign mark.equal (id (codes "p")) (cast (type_name (source.word 2 mark.int_word ∷ []) (0 ∷ []))
    (literal 0 false false 0))) ∷
    -- cp = (signed char *)cp;
    (assign mark.equal (id (codes "cp")) (cast (type_name (source.word 2 mark.signed_word ∷ source.word 2
    mark.char_word ∷ []) (0 ∷ [])) (id (codes "cp")))) ∷
    -- p = fp();
    (assign mark.equal (id (codes "p")) (call (id (codes "fp")) ([]))) ∷
    -- vp = fp();
    (assign mark.equal (id (codes "vp")) (call (id (codes "fp")) ([]))) ∷
    -- cp = (char *)&s;
    (assign mark.equal (id (codes "cp")) (cast (type_name (source.word 2 mark.char_word ∷ []) (0 ∷ []))
    (unary mark.ampersand (id (codes "s"))))) ∷
    -- vp = &*vp;
    (assign mark.equal (id (codes "vp")) (unary mark.ampersand (unary mark.star (id (codes "vp"))))) ∷
    -- o = &*o;
    (assign mark.equal (id (codes "o")) (unary mark.ampersand (unary mark.star (id (codes "o"))))) ∷
    -- ep_write(a, sizeof a);
    (call (id (codes "ep_write")) ((id (codes "a")) ∷ (sizeof_expr (id (codes "a"))) ∷ [])) ∷
    -- ep_read(&x, 1 + 1 + 2);
    (call (id (codes "ep_read")) ((unary mark.ampersand (id (codes "x"))) ∷ (binary mark.plus (binary mark.plus
    (number 1) (number 1)) (number 2)) ∷ [])) ∷
    -- memset(a, 0, 1 ? 16 : 1 / 0);
    (call (id (codes "memset")) ((id (codes "a")) ∷ (literal 0 false false 0) ∷ (conditional (number 1) (number 16)
    (binary mark.slash (number 1) (literal 0 false false 0))) ∷ [])) ∷
    -- memcpy(a, m, sizeof(int) * 4);
    (call (id (codes "memcpy")) ((id (codes "a")) ∷ (id (codes "m")) ∷ (binary mark.star (sizeof_type (type_name
    (source.word 2 mark.int_word ∷ []) ([]))) (number 4)) ∷ [])) ∷
    -- memcpy(vp, sp, 1);
    (call (id (codes "memcpy")) ((id (codes "vp")) ∷ (id (codes "sp")) ∷ (number 1) ∷ [])) ∷
    -- memset(0, q, 1);
    (call (id (codes "memset")) ((literal 0 false false 0) ∷ (id (codes "q")) ∷ (number 1) ∷ [])) ∷
    -- ep_read(NULL, 3);
    (call (id (codes "ep_read")) ((id (codes "NULL")) ∷ (number 3) ∷ [])) ∷
    -- x = (f1(1));
    (assign mark.equal (id (codes "x")) (call (id (codes "f1")) ((number 1) ∷ []))) ∷
    -- (f1(1));
    (call (id (codes "f1")) ((number 1) ∷ [])) ∷
    -- f0();
    (call (id (codes "f0")) ([])) ∷
    -- a[x] = ep_in_u8();
    (assign mark.equal (index (id (codes "a")) (id (codes "x"))) (call (id (codes "ep_in_u8")) ([]))) ∷
    -- ep_in_u8();
    (call (id (codes "ep_in_u8")) ([])) ∷
    -- (x)++;
    (post_increment (id (codes "x"))) ∷
    -- ++*p;
    (step mark.plus_plus (unary mark.star (id (codes "p")))) ∷
    -- (*p)++;
    (post_increment (unary mark.star (id (codes "p")))) ∷
    -- a[0] += 1;
    (assign mark.plus_equal (index (id (codes "a")) (literal 0 false false 0)) (number 1)) ∷
    -- sp->a--;
    (post_decrement (arrow (id (codes "sp")) (codes "a"))) ∷
    -- c <<= 2;
    (assign mark.left_shift_equal (id (codes "c")) (number 2)) ∷
    -- cp -= 1;
    (assign mark.minus_equal (id (codes "cp")) (number 1)) ∷
    -- s = s2;
    (assign mark.equal (id (codes "s")) (id (codes "s2"))) ∷
    -- a;
    (id (codes "a")) ∷
    -- &x;
    (unary mark.ampersand (id (codes "x"))) ∷
    -- p = a;
    (assign mark.equal (id (codes "p")) (id (codes "a"))) ∷
    -- p = m[1];
    (assign mark.equal (id (codes "p")) (index (id (codes "m")) (number 1))) ∷
    -- sizeof(struct s);
    (sizeof_type (type_name (source.tagged 2 mark.struct_word (codes "s") ∷ []) ([]))) ∷
    -- (struct z *)p;
    (cast (type_name (source.tagged 2 mark.struct_word (codes "z") ∷ []) (0 ∷ [])) (id (codes "p"))) ∷
    [])
    ≡ 0 ∷ 0 ∷ 0 ∷ 0 ∷ 0 ∷ 0 ∷ 0 ∷ 0 ∷ 0 ∷ 0 ∷ 0 ∷ 0 ∷ 0 ∷ 0 ∷ 0 ∷ 0 ∷ 0 ∷ 0 ∷ 0 ∷ 0 ∷ 0 ∷ 0 ∷ 0 ∷ 0 ∷ 0 ∷ 0 ∷ 0 ∷ 0 ∷
    0 ∷ 0 ∷ 0 ∷ 0 ∷ 0 ∷ 0 ∷ 0 ∷ 0 ∷ 0 ∷ 0 ∷ 0 ∷ 0 ∷ 0 ∷ 0 ∷ 0 ∷ 0 ∷ 0 ∷ 0 ∷ 0 ∷ 0 ∷ 0 ∷ 0 ∷ 0 ∷ 0 ∷ []
unfolding kinds
accepted = refl
