-- Programs with bit-fields, and what is refused of them.
use Rattle.std.proofs.Common.{◌≡◌, ℕ, List, [], ◌∷◌, Some, None, Result, Ok, Err, pos, refl}
use Rattle.std.specs.Prelude.{codes, map}
use Rattle.ep_int.specs.declared.types.IntType.TheVariants.{I32, U8, U16}
use Rattle.ep_int.specs.declared.types.Model.TheVariants.{Ilp32}
use Rattle.ep_int.specs.declared.types.Order.TheVariants.{Little, Big}
use Rattle.ep_ast.specs.Mark as mark
use Rattle.ep_ast.specs.Expression.{Expr, arrow, assign, id, unary, binary, post_increment, sizeof_expr}
use Rattle.ep_ast.specs.Declaration.{Spec, Member, Value, single, listed, to_values}
use Rattle.ep_ast.specs.Statement as tree
use Rattle.ep_ast.specs.Statement.{Part, Item}
use Rattle.ep_core.specs.Program as core
use Rattle.ep_core.specs.Runs.{ended}
use Rattle.ep_layout.specs.Table as table
use Rattle.ep_elaboration.specs.Aggregates.{Named, a_field, a_member, fields_in, members_in}
use Rattle.ep_elaboration.proofs.Trees.{bit_fields, bits_field, bits_of, does, does_call, field, global, init, call_of}
use Rattle.ep_elaboration.proofs.Trees.{declaration, declarator, int_words, local, main_at, no_name, plain_main}
use Rattle.ep_elaboration.proofs.Trees.{address_of, array, member_of, number, object_of, returns, sets, struct_of}
use Rattle.ep_elaboration.proofs.Trees.{struct_words, typedef_words, union_of, unnamed_field, variable, variable_of}
use Rattle.ep_elaboration.proofs.Trees.{pointer, zero_at}
use Rattle.ep_elaboration.proofs.Opened.{answers, program, puts, ran}
use Rattle.ep_ast.specs.declared.refusals.Refusal.{Refusal}

abbrev byte : ℕ → List Spec
byte l = typedef_words l (codes "uint8_t")

-- `struct flags { uint8_t a : 3; uint8_t b : 5; };`
abbrev flags : Item
flags = tree.completes (struct_of 1 (codes "flags")
    (bits_field 1 (byte 1) (codes "a") (number 1 3) ∷ bits_field 1 (byte 1) (codes "b") (number 1 5) ∷ []))

abbrev f_a : ℕ → Expr
f_a l = member_of l (id l (codes "f")) (codes "a")

-- `struct flags f; uint8_t x; memset(&f, 0, 1); f.a = 5;`, and what stands behind them
abbrev flagged : List Part → List Item
flagged ps =
    flags ∷
    main_at 2
    (local 3 (struct_words 3 (codes "flags")) (variable 3 (codes "f")) ∷
    local 4 (byte 4) (variable 4 (codes "x")) ∷
    does_call 5 (codes "memset") (address_of 5 (codes "f") ∷ zero_at 5 ∷ number 5 1 ∷ []) ∷
    sets 6 (f_a 6) (number 6 5) ∷ ps) ∷ []

-- `x = f.a; ep_out_u8(x); return 0;`
abbrev read_back : List Item
read_back = flagged
    (sets 7 (id 7 (codes "x")) (f_a 7) ∷
    does_call 8 (codes "ep_out_u8") (id 8 (codes "x") ∷ []) ∷
    returns 9 (zero_at 9) ∷ [])

-- `ep_write(&f, 1); return 0;`
abbrev written_out : List Item
written_out = flagged
    (does_call 8 (codes "ep_write") (address_of 8 (codes "f") ∷ number 8 1 ∷ []) ∷ returns 9 (zero_at 9) ∷ [])

-- `uint8_t y = f.a; return y;`
abbrev initialised_by : List Item
initialised_by = flagged
    (local 7 (byte 7) (object_of 7 (codes "y") (f_a 7) ∷ []) ∷ returns 8 (id 8 (codes "y")) ∷ [])

accepted : answers Ilp32 (read_back ∷ written_out ∷ initialised_by ∷ []) ≡ ((0, 0) ∷ (0, 0) ∷ (0, 0) ∷ [])
unfolding answers
accepted = refl

-- `p = &f; p->b = -1; x = p->b; ep_out_u8(x); return 0;`: a value is cut to the width
abbrev through_pointer : List Item
through_pointer = flagged
    (local 7 (struct_words 7 (codes "flags")) (pointer 7 (codes "p")) ∷
    sets 8 (id 8 (codes "p")) (address_of 8 (codes "f")) ∷
    sets 9 (arrow 9 (id 9 (codes "p")) (codes "b")) (unary 9 mark.minus (number 9 1)) ∷
    sets 10 (id 10 (codes "x")) (arrow 10 (id 10 (codes "p")) (codes "b")) ∷
    does_call 11 (codes "ep_out_u8") (id 11 (codes "x") ∷ []) ∷
    returns 12 (zero_at 12) ∷ [])

pointed_accepted : answers Ilp32 (through_pointer ∷ []) ≡ ((0, 0) ∷ [])
unfolding answers
pointed_accepted = refl

-- `struct flags g =` this list
abbrev listed_as : List Value → Part
listed_as vs = local 8 (struct_words 8 (codes "flags"))
    (init (declarator 8 [] (codes "g") []) (Some (listed 9 (to_values vs))) ∷ [])

-- places where no bit-field may stand, by the line of the statement
abbrev misplaced : List (List Item)
misplaced =
    flagged (does_call 8 (codes "ep_out_u8") (f_a 8 ∷ []) ∷ []) ∷
    flagged (does 8 (unary 8 mark.ampersand (f_a 8)) ∷ []) ∷
    flagged (does 8 (assign 8 mark.plus_equal (f_a 8) (number 8 1)) ∷ []) ∷
    flagged (does 8 (post_increment 8 (f_a 8)) ∷ []) ∷
    flagged (sets 8 (id 8 (codes "x")) (sizeof_expr 8 (f_a 8)) ∷ []) ∷
    flagged (does 8 (f_a 8) ∷ []) ∷
    flagged (returns 8 (f_a 9) ∷ []) ∷
    flagged (sets 8 (f_a 8) (f_a 9) ∷ []) ∷
    flagged (sets 8 (id 8 (codes "x")) (binary 8 mark.plus (f_a 8) (number 8 1)) ∷ []) ∷
    flagged (tree.states (tree.if_then 8 (f_a 9) (tree.evaluate 9 None)) ∷ []) ∷
    flagged (listed_as (single (number 9 1) ∷ []) ∷ []) ∷
    flagged (listed_as (single (zero_at 9) ∷ single (zero_at 9) ∷ []) ∷ []) ∷
    flagged (listed_as (listed 9 (to_values (single (zero_at 9) ∷ [])) ∷ []) ∷ []) ∷ []

refused_51 : answers Ilp32 misplaced
    ≡ ((51, 8) ∷ (51, 8) ∷ (51, 8) ∷ (51, 8) ∷ (51, 8) ∷ (51, 8) ∷ (51, 8) ∷ (51, 8) ∷ (51, 8) ∷ (51, 8) ∷ (51, 8)
    ∷ (51, 8) ∷ (51, 8) ∷ [])
unfolding answers
refused_51 = refl

-- what stands on the other side is refused as elsewhere
abbrev other_sides : List (List Item)
other_sides =
    flagged (sets 8 (f_a 8) (id 9 (codes "z")) ∷ []) ∷
    flagged (sets 8 (f_a 8) (call_of 9 (codes "ep_in_u8") []) ∷ []) ∷
    flagged (sets 8 (f_a 8) (id 9 (codes "f")) ∷ []) ∷
    flagged (sets 8 (id 8 (codes "f")) (f_a 9) ∷ []) ∷
    flagged (sets 8 (number 8 1) (f_a 9) ∷ []) ∷ []

refused_beside : answers Ilp32 other_sides ≡ ((30, 9) ∷ (18, 9) ∷ (32, 8) ∷ (32, 8) ∷ (41, 8) ∷ [])
unfolding answers
refused_beside = refl

-- `struct flags g = {0};`
abbrev zeroed : List Item
zeroed = flagged (listed_as (single (zero_at 8) ∷ []) ∷ returns 9 (zero_at 9) ∷ [])

zero_list : answers Ilp32 (zeroed ∷ []) ≡ ((0, 0) ∷ [])
unfolding answers
zero_list = refl

-- ---- first values, bounds and widths, and the parts of a `for`

abbrev global_f : Item
global_f = global 2 (struct_words 2 (codes "flags")) (variable 2 (codes "f"))

-- behind `struct flags f;` at file scope: `uint8_t y = f.a;`, `uint8_t y[f.a];`, `struct s { uint8_t c : f.a; };`
abbrev at_file_scope : List (List Item)
at_file_scope =
    (flags ∷ global_f ∷ global 3 (byte 3) (variable_of 3 (codes "y") (f_a 4)) ∷ []) ∷
    (flags ∷ global_f ∷ global 3 (byte 3) (array 3 (codes "y") (f_a 4)) ∷ []) ∷
    (flags ∷ global_f ∷
    tree.completes (struct_of 3 (codes "s") (bits_field 3 (byte 3) (codes "c") (f_a 4) ∷ [])) ∷ []) ∷ []

refused_at_file_scope : answers Ilp32 at_file_scope ≡ ((45, 3) ∷ (51, 3) ∷ (51, 3) ∷ [])
unfolding answers
refused_at_file_scope = refl

abbrev x : Expr
x = id 8 (codes "x")

-- `for (uint8_t i = f.a; x; x = f.a) ;` and `for (f.a = x; ; f.a = 1) break;`
abbrev in_for : List (List Item)
in_for =
    flagged (tree.states (tree.for_loop 8
    (tree.declares (declaration 8 (byte 8) (variable_of 8 (codes "i") (f_a 8)))) (Some x)
    (Some (assign 8 mark.equal x (f_a 8))) (tree.evaluate 8 None)) ∷ []) ∷
    flagged (tree.states (tree.for_loop 8 (tree.evaluates (Some (assign 8 mark.equal (f_a 8) x))) None
    (Some (assign 8 mark.equal (f_a 8) (number 8 1))) (tree.break_loop 8)) ∷ []) ∷ []

-- `for (; f.a; ) ;`, `for (; ; f.a++) ;` and `for (f.a += 1; ; ) ;`
abbrev not_in_for : List (List Item)
not_in_for =
    flagged (tree.states (tree.for_loop 8 (tree.evaluates None) (Some (f_a 9)) None (tree.evaluate 8 None)) ∷ []) ∷
    flagged (tree.states (tree.for_loop 8 (tree.evaluates None) None (Some (post_increment 9 (f_a 9)))
    (tree.evaluate 8 None)) ∷ []) ∷
    flagged (tree.states (tree.for_loop 8 (tree.evaluates (Some (assign 9 mark.plus_equal (f_a 9) (number 9 1)))) None
    None (tree.evaluate 8 None)) ∷ []) ∷ []

parts_of_for : answers Ilp32 in_for ≡ ((0, 0) ∷ (0, 0) ∷ [])
unfolding answers
parts_of_for = refl

no_parts_of_for : answers Ilp32 not_in_for ≡ ((51, 8) ∷ (51, 8) ∷ (51, 8) ∷ [])
unfolding answers
no_parts_of_for = refl

-- ---- pointers, copies, and what has such a structure in it

-- `p = f.a;`, `f.a = p;`, and `g = f;`
abbrev others : List (List Item)
others =
    flagged (local 7 (byte 7) (pointer 7 (codes "p")) ∷ sets 8 (id 8 (codes "p")) (f_a 8) ∷ []) ∷
    flagged (local 7 (byte 7) (pointer 7 (codes "p")) ∷ sets 8 (f_a 8) (id 8 (codes "p")) ∷ []) ∷
    flagged (local 7 (struct_words 7 (codes "flags")) (variable 7 (codes "g")) ∷
    sets 8 (id 8 (codes "g")) (id 8 (codes "f")) ∷ []) ∷ []

pointers_and_copies : answers Ilp32 others ≡ ((34, 8) ∷ (34, 8) ∷ (0, 0) ∷ [])
unfolding answers
pointers_and_copies = refl

-- `struct outer { struct flags f; uint8_t x; };` and `struct outer o = { { n }, 1 };`
abbrev outer_of : Expr → List Item
outer_of n =
    flags ∷
    tree.completes (struct_of 1 (codes "outer")
    (field 1 (struct_words 1 (codes "flags")) (codes "f") ∷ field 1 (byte 1) (codes "x") ∷ [])) ∷
    main_at 2 (local 3 (struct_words 3 (codes "outer")) (init (declarator 3 [] (codes "o") [])
    (Some (listed 4 (to_values (listed 5 (to_values (single n ∷ [])) ∷ single (number 5 1) ∷ [])))) ∷ []) ∷ []) ∷ []

inner_lists : answers Ilp32 (outer_of (zero_at 5) ∷ outer_of (number 5 1) ∷ []) ≡ ((0, 0) ∷ (51, 3) ∷ [])
unfolding answers
inner_lists = refl

-- ---- bodies that are refused, each on line 1 or 2

abbrev body : List Member → List Item
body ms = tree.completes (struct_of 1 (codes "s") ms) ∷ []

-- `int n; struct s { uint8_t a : n; };`
abbrev not_constant : List Item
not_constant = global 1 (int_words 1) (variable 1 (codes "n")) ∷ body
    (bits_field 2 (byte 2) (codes "a") (id 2 (codes "n")) ∷ [])

abbrev bodies : List (List Item)
bodies =
    body (bits_field 2 (int_words 2) (codes "a") (number 2 3) ∷ []) ∷
    body (bits_field 2 (typedef_words 2 (codes "uint64_t")) (codes "a") (number 2 3) ∷ []) ∷
    body (bits_field 2 (byte 2) (codes "a") (zero_at 2) ∷ []) ∷
    body (bits_field 2 (byte 2) (codes "a") (number 2 9) ∷ []) ∷
    body (bits_field 2 (byte 2) (codes "a") (unary 2 mark.minus (number 2 1)) ∷ []) ∷
    body (unnamed_field 2 (byte 2) (number 2 9) ∷ []) ∷
    not_constant ∷
    (tree.completes (union_of 1 (codes "u") (bits_field 2 (byte 2) (codes "a") (number 2 3) ∷ [])) ∷ []) ∷
    body (unnamed_field 2 (byte 2) (zero_at 2) ∷ []) ∷
    body (bits_field 2 (byte 2) (codes "a") (number 2 3) ∷ bits_field 3 (byte 3) (codes "a") (number 3 3) ∷ []) ∷ []

bad_bodies : answers Ilp32 bodies
    ≡ ((9, 2) ∷ (9, 2) ∷ (9, 2) ∷ (9, 2) ∷ (9, 2) ∷ (9, 2) ∷ (9, 2) ∷ (9, 2) ∷ (9, 1) ∷ (31, 3) ∷ [])
unfolding answers
bad_bodies = refl

-- bodies that are not: without a name of no bits behind a member, and of some bits alone
abbrev good_bodies : List (List Item)
good_bodies =
    (tree.completes (struct_of 1 (codes "s")
    (field 2 (byte 2) (codes "m") ∷ unnamed_field 2 (byte 2) (zero_at 2) ∷ [])) ∷ plain_main 3 ∷ []) ∷
    (tree.completes (struct_of 1 (codes "s") (unnamed_field 2 (byte 2) (number 2 3) ∷ [])) ∷ plain_main 3 ∷ []) ∷ []

no_bad_bodies : answers Ilp32 good_bodies ≡ ((0, 0) ∷ (0, 0) ∷ [])
unfolding answers
no_bad_bodies = refl

-- ---- units

-- `struct s { uint8_t a : 3, b : 5; uint8_t c : 1; uint16_t d : 9, : 0, e : 2; };`
abbrev several_units : List Item
several_units =
    tree.completes (struct_of 1 (codes "s")
    (bit_fields 1 (byte 1) (bits_of 1 (codes "a") (number 1 3) ∷ bits_of 1 (codes "b") (number 1 5) ∷ []) ∷
    bits_field 1 (byte 1) (codes "c") (number 1 1) ∷
    bit_fields 1 (typedef_words 1 (codes "uint16_t"))
    (bits_of 1 (codes "d") (number 1 9) ∷ no_name 1 (zero_at 1) ∷ bits_of 1 (codes "e") (number 1 2) ∷ []) ∷ [])) ∷
    plain_main 2 ∷ []

-- the members of the first aggregate, and where they lie
abbrev members_of_first : Result core.Program Refusal → List (List ℕ × ℕ)
members_of_first (Ok p) = map (λ (m : table.MemberRow). (m.name, m.offset)) (table.members_of p.types 0)
members_of_first (Err r) = []

units_lie : members_of_first (program Ilp32 several_units)
    ≡ ((codes ":", 0) ∷ (codes ":", 1) ∷ (codes ":", 2) ∷ (codes ":", 4) ∷ [])
unfolding program table.at_depth
units_lie = refl

-- the same entries, with a member `m` before the last
abbrev entries : Named
entries =
    a_field (Some (codes "a")) 0 U8 3 ∷ a_field (Some (codes "b")) 0 U8 5 ∷ a_field (Some (codes "c")) 0 U8 1 ∷
    a_field (Some (codes "d")) 1 U16 9 ∷ a_field None 1 U16 0 ∷ a_field (Some (codes "e")) 1 U16 2 ∷
    a_member (codes "m") 0 ∷ a_field (Some (codes "g")) 1 U16 2 ∷ []

units : members_in entries
    ≡ ((codes ":", 0) ∷ (codes ":", 0) ∷ (codes ":", 1) ∷ (codes ":", 1) ∷ (codes "m", 0) ∷ (codes ":", 1) ∷ [])
units = refl

places : fields_in entries
    ≡ ((codes "a", record { unit = 0; t = U8; used = 0; width = 3 })
    ∷ (codes "b", record { unit = 0; t = U8; used = 3; width = 5 })
    ∷ (codes "c", record { unit = 1; t = U8; used = 0; width = 1 })
    ∷ (codes "d", record { unit = 2; t = U16; used = 0; width = 9 })
    ∷ (codes "e", record { unit = 3; t = U16; used = 0; width = 2 })
    ∷ (codes "g", record { unit = 5; t = U16; used = 0; width = 2 }) ∷ [])
places = refl

-- ---- runs

read_ends : (ran Ilp32 Little [] 99 read_back ≡ Some (ended, (puts U8 (pos 5) ∷ puts I32 (pos 0) ∷ [])))
    × (ran Ilp32 Big [] 99 read_back ≡ Some (ended, (puts U8 (pos 5) ∷ puts I32 (pos 0) ∷ [])))
unfolding ran
read_ends = (refl, refl)

-- the byte differs: bits are used from the lowest on little, and from the highest on big
written_ends : (ran Ilp32 Little [] 99 written_out ≡ Some (ended, (puts U8 (pos 5) ∷ puts I32 (pos 0) ∷ [])))
    × (ran Ilp32 Big [] 99 written_out ≡ Some (ended, (puts U8 (pos 160) ∷ puts I32 (pos 0) ∷ [])))
unfolding ran
written_ends = (refl, refl)

pointed_ends : (ran Ilp32 Little [] 99 through_pointer ≡ Some (ended, (puts U8 (pos 31) ∷ puts I32 (pos 0) ∷ [])))
    × (ran Ilp32 Big [] 99 through_pointer ≡ Some (ended, (puts U8 (pos 31) ∷ puts I32 (pos 0) ∷ [])))
unfolding ran
pointed_ends = (refl, refl)
