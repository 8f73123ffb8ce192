-- What statements of each form become. All stand in a program with the names of `around`.
use Rattle.std.proofs.Common.{◌≡◌, ℕ, [], ◌∷◌, refl, true, false, Bool, Option, Some, None, pos, Ok}
use Rattle.std.specs.Prelude.{codes}
use Rattle.ep_int.specs.declared.types.BinOp.TheVariants.{Add, Sub, Xor, Shl, Shr}
use Rattle.ep_int.specs.declared.types.Cmp.TheVariants.{Eq, Lt}
use Rattle.ep_int.specs.declared.types.IntType.TheVariants.{U8, U16, I32, U32, I64, U64}
use Rattle.ep_int.specs.declared.types.Model.TheVariants.{Ilp32, Lp64}
use Rattle.ep_int.specs.declared.types.Scalar.{Scalar}
use Rattle.ep_int.specs.declared.types.Scalar.TheVariants.{Int as Number, Pointer}
use Rattle.ep_ast.specs.Mark as mark
use Rattle.ep_ast.specs.Expression as source
use Rattle.ep_ast.specs.Expression.{Expr}
use Rattle.ep_core.specs.Program as core
use Rattle.ep_typing.proofs.Opened.{statement}
use Rattle.ep_typing.proofs.Trees.{assign, conditional, binary, type_name, cast, step, unary, sizeof_expr}
use Rattle.ep_typing.proofs.Trees.{sizeof_type, index, call, member, arrow, post_increment, id, literal, number}
use Rattle.ep_typing.proofs.Trees.{load_int, load_pointer}

abbrev evaluated : core.Expr → core.What
evaluated e = core.simple (core.eval e)

abbrev stores : Scalar → ℕ → core.Expr → core.What
stores what b e = core.simple (core.assign what (core.block b) e)

abbrev into : Scalar → Bool → ℕ → Option core.Dest
into what cast b = Some (record { what = what; cast = cast; place = core.block b })

-- w < x;
unsigned_comparison : statement Ilp32 (binary mark.less (id (codes "w")) (id (codes "x")))
    ≡ Ok (evaluated (core.compare Lt U32 (load_int U32 7) (core.convert U32 (load_int I32 4))))
unfolding statement
unsigned_comparison = refl

-- c < x;
signed_comparison : statement Ilp32 (binary mark.less (id (codes "c")) (id (codes "x")))
    ≡ Ok (evaluated (core.compare Lt I32 (core.convert I32 (load_int U8 8)) (load_int I32 4)))
unfolding statement
signed_comparison = refl

-- c << q;
shift_by_its_own_type : statement Ilp32 (binary mark.left_shift (id (codes "c")) (id (codes "q")))
    ≡ Ok (evaluated (core.binary Shl I32 (core.convert I32 (load_int U8 8)) (load_int I64 9)))
unfolding statement
shift_by_its_own_type = refl

-- x >> c;
shift_promotes_both : statement Ilp32 (binary mark.right_shift (id (codes "x")) (id (codes "c")))
    ≡ Ok (evaluated (core.binary Shr I32 (load_int I32 4) (core.convert I32 (load_int U8 8))))
unfolding statement
shift_promotes_both = refl

-- w >> x;
shift_of_unsigned : statement Ilp32 (binary mark.right_shift (id (codes "w")) (id (codes "x")))
    ≡ Ok (evaluated (core.binary Shr U32 (load_int U32 7) (load_int I32 4)))
unfolding statement
shift_of_unsigned = refl

-- p - x;
pointer_less_integer : statement Ilp32 (binary mark.minus (id (codes "p")) (id (codes "x")))
    ≡ Ok (evaluated (core.ptr_add (load_pointer 10) 4 (load_int I32 4) true))
unfolding statement
pointer_less_integer = refl

-- 1 + p;
integer_plus_pointer : statement Ilp32 (binary mark.plus (number 1) (id (codes "p")))
    ≡ Ok (evaluated (core.ptr_add (load_pointer 10) 4 (core.const I32 (pos 1)) false))
unfolding statement
integer_plus_pointer = refl

-- -c;
opposite : statement Ilp32 (unary mark.minus (id (codes "c")))
    ≡ Ok (evaluated (core.binary Sub I32 (core.const I32 (pos 0)) (core.convert I32 (load_int U8 8))))
unfolding statement
opposite = refl

-- ~w;
all_bits_turned : statement Ilp32 (unary mark.tilde (id (codes "w")))
    ≡ Ok (evaluated (core.binary Xor U32 (load_int U32 7) (core.const U32 (pos 4294967295))))
unfolding statement
all_bits_turned = refl

-- !p;
denied_pointer : statement Ilp32 (unary mark.exclamation (id (codes "p")))
    ≡ Ok (evaluated (core.logical_not (load_pointer 10)))
unfolding statement
denied_pointer = refl

-- p && x;
both_scalars : statement Ilp32 (binary mark.and_and (id (codes "p")) (id (codes "x")))
    ≡ Ok (evaluated (core.logical_and (load_pointer 10) (load_int I32 4)))
unfolding statement
both_scalars = refl

-- x ? c : w;
chosen_number : statement Ilp32 (conditional (id (codes "x")) (id (codes "c")) (id (codes "w")))
    ≡ Ok (evaluated (core.conditional (load_int I32 4) (core.convert U32 (load_int U8 8)) (load_int U32 7)))
unfolding statement
chosen_number = refl

-- x ? vp : p;
chosen_void_pointer : statement Ilp32 (conditional (id (codes "x")) (id (codes "vp")) (id (codes "p")))
    ≡ Ok (evaluated (core.conditional (load_int I32 4) (load_pointer 13) (core.cast (load_pointer 10))))
unfolding statement
chosen_void_pointer = refl

-- x ? p : 0;
chosen_null : statement Ilp32 (conditional (id (codes "x")) (id (codes "p")) (literal 0 false false 0))
    ≡ Ok (evaluated (core.conditional (load_int I32 4) (load_pointer 10) core.null_value))
unfolding statement
chosen_null = refl

-- p == vp;
pointers_compared_bare : statement Ilp32 (binary mark.equal_equal (id (codes "p")) (id (codes "vp")))
    ≡ Ok (evaluated (core.ptr_compare Eq (load_pointer 10) (load_pointer 13)))
unfolding statement
pointers_compared_bare = refl

-- 0 == p;
null_compared : statement Ilp32 (binary mark.equal_equal (literal 0 false false 0) (id (codes "p")))
    ≡ Ok (evaluated (core.ptr_compare Eq core.null_value (load_pointer 10)))
unfolding statement
null_compared = refl

-- *a;
array_first_element : statement Ilp32 (unary mark.star (id (codes "a")))
    ≡ Ok (evaluated (core.load (Number I32) (core.deref (core.addr_of (core.block 5)))))
unfolding statement
array_first_element = refl

-- a[c];
element_in_place : statement Ilp32 (index (id (codes "a")) (id (codes "c")))
    ≡ Ok (evaluated (core.load (Number I32) (core.element (core.block 5) 4 4 (load_int U8 8))))
unfolding statement
element_in_place = refl

-- p[x];
element_behind_pointer : statement Ilp32 (index (id (codes "p")) (id (codes "x")))
    ≡ Ok (evaluated (core.load (Number I32) (core.deref (core.ptr_add (load_pointer 10) 4 (load_int I32 4) false))))
unfolding statement
element_behind_pointer = refl

-- &a[x];
address_of_element : statement Ilp32 (unary mark.ampersand (index (id (codes "a")) (id (codes "x"))))
    ≡ Ok (evaluated (core.ptr_add (core.addr_of (core.block 5)) 4 (load_int I32 4) false))
unfolding statement
address_of_element = refl

-- &p[x];
address_behind_pointer : statement Ilp32 (unary mark.ampersand (index (id (codes "p")) (id (codes "x"))))
    ≡ Ok (evaluated (core.addr_of (core.deref (core.ptr_add (load_pointer 10) 4 (load_int I32 4) false))))
unfolding statement
address_behind_pointer = refl

-- m + 1;
unit_of_decayed_array : statement Ilp32 (binary mark.plus (id (codes "m")) (number 1))
    ≡ Ok (evaluated (core.ptr_add (core.addr_of (core.block 6)) 12 (core.const I32 (pos 1)) false))
unfolding statement
unit_of_decayed_array = refl

-- &m + 1;
unit_of_array_pointer : statement Ilp32 (binary mark.plus (unary mark.ampersand (id (codes "m"))) (number 1))
    ≡ Ok (evaluated (core.ptr_add (core.addr_of (core.block 6)) 24 (core.const I32 (pos 1)) false))
unfolding statement
unit_of_array_pointer = refl

-- m[x][1];
element_of_element : statement Ilp32 (index (index (id (codes "m")) (id (codes "x"))) (number 1))
    ≡ Ok (evaluated (core.load (Number I32) (core.element (core.element (core.block 6) 2 12 (load_int I32 4)) 3 4
    (core.const I32 (pos 1)))))
unfolding statement
element_of_element = refl

-- s.n->b[1];
member_by_offset : statement Ilp32 (index (arrow (member (id (codes "s")) (codes "n")) (codes "b")) (number 1))
    ≡ Ok (evaluated (core.load (Number I32) (core.element (core.member (core.deref (core.load Pointer (core.member
    (core.block 0) 16))) 4) 3 4 (core.const I32 (pos 1)))))
unfolding statement
member_by_offset = refl

-- u.b[x];
member_of_union : statement Ilp32 (index (member (id (codes "u")) (codes "b")) (id (codes "x")))
    ≡ Ok (evaluated (core.load (Number U8) (core.element (core.member (core.block 2) 0) 4 1 (load_int I32 4))))
unfolding statement
member_of_union = refl

-- x = sizeof a;
size_of_array : statement Ilp32 (assign mark.equal (id (codes "x")) (sizeof_expr (id (codes "a"))))
    ≡ Ok (stores (Number I32) 4 (core.convert I32 (core.const U32 (pos 16))))
unfolding statement
size_of_array = refl

-- x = sizeof a; under LP64
size_of_array_lp64 : statement Lp64 (assign mark.equal (id (codes "x")) (sizeof_expr (id (codes "a"))))
    ≡ Ok (stores (Number I32) 4 (core.convert I32 (core.const U64 (pos 16))))
unfolding statement
size_of_array_lp64 = refl

-- w = sizeof NULL;
size_of_null : statement Ilp32 (assign mark.equal (id (codes "w")) (sizeof_expr (id (codes "NULL"))))
    ≡ Ok (stores (Number U32) 7 (core.const U32 (pos 4)))
unfolding statement
size_of_null = refl

-- w = sizeof NULL; under LP64
size_of_null_lp64 : statement Lp64 (assign mark.equal (id (codes "w")) (sizeof_expr (id (codes "NULL"))))
    ≡ Ok (stores (Number U32) 7 (core.convert U32 (core.const U64 (pos 8))))
unfolding statement
size_of_null_lp64 = refl

-- w = sizeof(long);
size_of_long : statement Ilp32 (assign mark.equal (id (codes "w")) (sizeof_type (type_name
    (source.word 2 mark.long_word ∷ []) ([]))))
    ≡ Ok (stores (Number U32) 7 (core.const U32 (pos 4)))
unfolding statement
size_of_long = refl

-- w = sizeof(unsigned long); under LP64
size_of_long_lp64 : statement Lp64 (assign mark.equal (id (codes "w")) (sizeof_type (type_name
    (source.word 2 mark.unsigned_word ∷ source.word 2 mark.long_word ∷ []) ([]))))
    ≡ Ok (stores (Number U32) 7 (core.convert U32 (core.const U64 (pos 8))))
unfolding statement
size_of_long_lp64 = refl

-- c = x;
converted_at_assignment : statement Ilp32 (assign mark.equal (id (codes "c")) (id (codes "x")))
    ≡ Ok (stores (Number U8) 8 (core.convert U8 (load_int I32 4)))
unfolding statement
converted_at_assignment = refl

-- x = x;
same_type_at_assignment : statement Ilp32 (assign mark.equal (id (codes "x")) (id (codes "x")))
    ≡ Ok (stores (Number I32) 4 (load_int I32 4))
unfolding statement
same_type_at_assignment = refl

-- p = vp;
cast_at_assignment : statement Ilp32 (assign mark.equal (id (codes "p")) (id (codes "vp")))
    ≡ Ok (stores Pointer 10 (core.cast (load_pointer 13)))
unfolding statement
cast_at_assignment = refl

-- p = 0;
null_at_assignment : statement Ilp32 (assign mark.equal (id (codes "p")) (literal 0 false false 0))
    ≡ Ok (stores Pointer 10 core.null_value)
unfolding statement
null_at_assignment = refl

-- p = (int *)0;
null_of_a_type : statement Ilp32 (assign mark.equal (id (codes "p")) (cast (type_name
    (source.word 2 mark.int_word ∷ []) (0 ∷ [])) (literal 0 false false 0)))
    ≡ Ok (stores Pointer 10 core.null_value)
unfolding statement
null_of_a_type = refl

-- p = (void *)0;
void_null_is_cast : statement Ilp32 (assign mark.equal (id (codes "p")) (cast (type_name
    (source.word 2 mark.void_word ∷ []) (0 ∷ [])) (literal 0 false false 0)))
    ≡ Ok (stores Pointer 10 (core.cast core.null_value))
unfolding statement
void_null_is_cast = refl

-- x = (word)x;
cast_of_same_type : statement Ilp32 (assign mark.equal (id (codes "x")) (cast (type_name (source.typedef_name 2
    (codes "word") ∷ []) ([])) (id (codes "x"))))
    ≡ Ok (stores (Number I32) 4 (load_int I32 4))
unfolding statement
cast_of_same_type = refl

-- s = s2;
aggregate_copied : statement Ilp32 (assign mark.equal (id (codes "s")) (id (codes "s2")))
    ≡ Ok (core.simple (core.copy_aggregate (core.block 0) (core.block 1) 2))
unfolding statement
aggregate_copied = refl

-- w += c;
compound_sum : statement Ilp32 (assign mark.plus_equal (id (codes "w")) (id (codes "c")))
    ≡ Ok (stores (Number U32) 7 (core.binary Add U32 (load_int U32 7) (core.convert U32 (load_int U8 8))))
unfolding statement
compound_sum = refl

-- c <<= 2;
compound_shift : statement Ilp32 (assign mark.left_shift_equal (id (codes "c")) (number 2))
    ≡ Ok (stores (Number U8) 8 (core.convert U8 (core.binary Shl I32 (core.convert I32 (load_int U8 8))
    (core.const I32 (pos 2)))))
unfolding statement
compound_shift = refl

-- c++;
step_of_narrow_type : statement Ilp32 (post_increment (id (codes "c")))
    ≡ Ok (stores (Number U8) 8 (core.convert U8 (core.binary Add I32 (core.convert I32 (load_int U8 8))
    (core.const I32 (pos 1)))))
unfolding statement
step_of_narrow_type = refl

-- --p;
step_of_pointer : statement Ilp32 (step mark.minus_minus (id (codes "p")))
    ≡ Ok (stores Pointer 10 (core.ptr_add (load_pointer 10) 4 (core.const I32 (pos 1)) true))
unfolding statement
step_of_pointer = refl

-- f1(c);
argument_converted : statement Ilp32 (call (id (codes "f1")) ((id (codes "c")) ∷ []))
    ≡ Ok (core.call 0 (core.convert I32 (load_int U8 8) ∷ []) None)
unfolding statement
argument_converted = refl

-- c = f1(1);
result_taken : statement Ilp32 (assign mark.equal (id (codes "c")) (call (id (codes "f1")) ((number 1) ∷ [])))
    ≡ Ok (core.call 0 (core.const I32 (pos 1) ∷ []) (into (Number U8) false 8))
unfolding statement
result_taken = refl

-- p = fp();
pointer_result_of_same_type : statement Ilp32 (assign mark.equal (id (codes "p")) (call (id (codes "fp")) ([])))
    ≡ Ok (core.call 2 [] (into Pointer false 10))
unfolding statement
pointer_result_of_same_type = refl

-- vp = fp();
pointer_result_cast : statement Ilp32 (assign mark.equal (id (codes "vp")) (call (id (codes "fp")) ([])))
    ≡ Ok (core.call 2 [] (into Pointer true 13))
unfolding statement
pointer_result_cast = refl

-- c = ep_in_u16();
input_taken : statement Ilp32 (assign mark.equal (id (codes "c")) (call (id (codes "ep_in_u16")) ([])))
    ≡ Ok (core.simple (core.input U16 (into (Number U8) false 8)))
unfolding statement
input_taken = refl

-- ep_in_i64();
input_alone : statement Ilp32 (call (id (codes "ep_in_i64")) ([])) ≡ Ok (core.simple (core.input I64 None))
unfolding statement
input_alone = refl

-- ep_out_u8(x);
output_converted : statement Ilp32 (call (id (codes "ep_out_u8")) ((id (codes "x")) ∷ []))
    ≡ Ok (core.simple (core.output U8 (core.convert U8 (load_int I32 4))))
unfolding statement
output_converted = refl

-- memcpy(a, &s, 4);
bytes_copied : statement Ilp32 (call (id (codes "memcpy")) ((id (codes "a")) ∷ (unary mark.ampersand (id
    (codes "s"))) ∷ (number 4) ∷ []))
    ≡ Ok (core.simple (core.copy_bytes (core.addr_of (core.block 5)) (core.addr_of (core.block 0)) 4))
unfolding statement
bytes_copied = refl

-- memset(&x, x, sizeof x);
bytes_filled : statement Ilp32 (call (id (codes "memset")) ((unary mark.ampersand (id (codes "x"))) ∷ (id
    (codes "x")) ∷ (sizeof_expr (id (codes "x"))) ∷ []))
    ≡ Ok (core.simple (core.fill (core.addr_of (core.block 4)) (core.convert U8 (load_int I32 4)) 4))
unfolding statement
bytes_filled = refl

-- ep_read(NULL, 1 ? 3 : 1 / 0);
bytes_read : statement Ilp32 (call (id (codes "ep_read")) ((id (codes "NULL")) ∷ (conditional (number 1) (number 3)
    (binary mark.slash (number 1) (literal 0 false false 0))) ∷ []))
    ≡ Ok (core.simple (core.read_bytes core.null_value 3))
unfolding statement
bytes_read = refl

-- ep_write(a, sizeof a);
bytes_written : statement Ilp32 (call (id (codes "ep_write")) ((id (codes "a")) ∷ (sizeof_expr (id
    (codes "a"))) ∷ []))
    ≡ Ok (core.simple (core.write_bytes (core.addr_of (core.block 5)) 16))
unfolding statement
bytes_written = refl

-- q = 2147483648;
wide_number : statement Ilp32 (assign mark.equal (id (codes "q")) (number 2147483648))
    ≡ Ok (stores (Number I64) 9 (core.const I64 (pos 2147483648)))
unfolding statement
wide_number = refl

-- w = 0x80000000;
wide_number_in_hexadecimal : statement Ilp32 (assign mark.equal (id (codes "w")) (literal 2147483648 false false 0))
    ≡ Ok (stores (Number U32) 7 (core.const U32 (pos 2147483648)))
unfolding statement
wide_number_in_hexadecimal = refl

-- q = 1l;
long_number : statement Ilp32 (assign mark.equal (id (codes "q")) (literal 1 true false 1))
    ≡ Ok (stores (Number I64) 9 (core.convert I64 (core.const I32 (pos 1))))
unfolding statement
long_number = refl

-- q = 1l; under LP64
long_number_lp64 : statement Lp64 (assign mark.equal (id (codes "q")) (literal 1 true false 1))
    ≡ Ok (stores (Number I64) 9 (core.const I64 (pos 1)))
unfolding statement
long_number_lp64 = refl
