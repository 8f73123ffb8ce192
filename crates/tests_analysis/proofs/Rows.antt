-- Worked rows: which alarms a report has, by kind and line.
use Rattle.std.proofs.Common.{◌≡◌, ℕ, pos, true, false, List, [], ◌∷◌, length, refl, Some}
use Rattle.ep_int.specs.declared.types.BinOp.TheVariants.{Add, Sub, And, Or, Shl, Shr}
use Rattle.ep_int.specs.declared.types.Cmp.TheVariants.{Lt}
use Rattle.ep_int.specs.declared.types.IntType.TheVariants.{U8, U16, I32, U32}
use Rattle.ep_int.specs.declared.types.Order.TheVariants.{Little, Big, SwappedWords}
use Rattle.ep_int.specs.declared.types.Scalar.TheVariants.{Int}
use Rattle.ep_alarms.specs.declared.types.AlarmKind.TheVariants.{E1, E2, E3, E4}
use Rattle.ep_core.specs.Program.{block, element, Expr, const, addr_of, binary, convert, compare, nothing, assign}
use Rattle.ep_core.specs.Program.{output, read_bytes, write_bytes, returns, What, simple, call, if_else, loop}
use Rattle.ep_core.specs.Program.{break_loop, by_order, Stmts, stop, more, Program}
use Rattle.ep_pass.specs.Pass.{report_of, heads_of}
use Rattle.tests_analysis.specs.Exact.{Pair, exact}
use Rattle.tests_analysis.specs.Samples.{sized, main_of, program, number, unsigned, u32, u16, set32, set16, put32}
use Rattle.tests_analysis.specs.Samples.{take32, first_byte, orders, usual, places, told, passes_in}
use Rattle.tests_analysis.specs.Unknown.{unknown}

-- ---- byte-order conditionals: uint16_t x, y; ep_read(&x, 2); (statements) ep_out_u16(y);

-- x or y with its bytes swapped
abbrev swapped : ℕ → Expr
swapped b =
    convert U16
    (binary Or I32 (binary Shr I32 (convert I32 (u16 (block b))) (number 8))
    (binary Shl I32 (convert I32 (u16 (block b))) (number 8)))

abbrev read_two : ℕ → What
read_two b = simple (read_bytes (addr_of (block b)) 2)

abbrev put16 : ℕ → What
put16 b = simple (output U16 (u16 (block b)))

abbrev two_halves : Stmts → Program
two_halves body = program (1 ∷ 2 ∷ []) (sized 2 ∷ sized 2 ∷ []) (more 3 (read_two 1) body)

-- #if little: y = (x >> 8) | (x << 8); #else y = x;
abbrev by_arms : Program
by_arms =
    two_halves
    (more 4 (by_order Little (more 5 (set16 2 (swapped 1)) stop) (more 7 (set16 2 (u16 (block 1))) stop))
    (more 9 (put16 2) stop))

arms : told usual 32 ((1 ∷ 2 ∷ []) ∷ (0 ∷ 255 ∷ []) ∷ []) by_arms ≡ []
arms = refl

-- of two orders on one side of the conditional, both machines run its second arm
one_arm : told (orders Big SwappedWords) 32 ((1 ∷ 2 ∷ []) ∷ []) by_arms ≡ (E1, 9) ∷ []
one_arm = refl

-- #if little: t = x; x = (t >> 8) | (t << 8);
abbrev in_place : Stmts → Stmts
in_place rest = more 5 (set16 2 (u16 (block 1))) (more 5 (set16 1 (swapped 2)) rest)

in_place_once : told usual 32 ((1 ∷ 2 ∷ []) ∷ [])
    (two_halves (more 4 (by_order Little (in_place stop) stop) (more 7 (put16 1) stop))) ≡ []
in_place_once = refl

in_place_twice : told usual 32 ((1 ∷ 2 ∷ []) ∷ [])
    (two_halves (more 4 (by_order Little (in_place (in_place stop)) stop) (more 8 (put16 1) stop))) ≡ (E1, 8) ∷ []
in_place_twice = refl

-- a function of a conditional at file scope: its parameter is block 3 and its result block 4
abbrev with_function : Program
with_function = record (two_halves stop) {
  blocks = sized 4 ∷ sized 2 ∷ sized 2 ∷ sized 2 ∷ sized 2 ∷ [];
  functions =
      record {
        name = [];
        line = 2;
        params = (3, Int U16) ∷ [];
        result = Some (4, Int U16);
        locals = [];
        body = more 1 (by_order Little (more 2 (simple (returns (Some (swapped 3)))) stop)
            (more 4 (simple (returns (Some (u16 (block 3))))) stop)) stop;
      }
      ∷ main_of (1 ∷ 2 ∷ [])
      (more 8 (read_two 1)
      (more 9 (call 0 (u16 (block 1) ∷ []) (Some (record { what = Int U16; cast = false; place = block 2 })))
      (more 10 (put16 2) stop))) ∷ [];
  main = 1;
}

by_function : told usual 32 ((1 ∷ 2 ∷ []) ∷ []) with_function ≡ []
by_function = refl

-- both arms put out
outputs_in_arms : told usual 32 ((7 ∷ []) ∷ [])
    (program (1 ∷ []) (sized 4 ∷ [])
    (more 3 (take32 1)
    (more 4 (by_order Little (more 5 (put32 (u32 (block 1))) stop) (more 7 (put32 (u32 (block 1))) stop)) stop)))
    ≡ (E2, 5) ∷ (E2, 7) ∷ []
outputs_in_arms = refl

-- one arm returns
abbrev returning : Program
returning =
    program (1 ∷ []) (sized 4 ∷ [])
    (more 3 (set32 1 (unsigned 1))
    (more 4 (by_order Little (more 5 (simple (returns (Some (number 0)))) stop) stop) stop))

return_in_arm : told usual 32 ([] ∷ []) returning ≡ (E3, 4) ∷ []
return_in_arm = refl

-- the arm that returns is no machine's
return_in_no_arm : told (orders Big SwappedWords) 32 ([] ∷ []) returning ≡ []
return_in_no_arm = refl

-- both machines return in the same arm
return_in_both : told (orders Little SwappedWords) 32 ([] ∷ [])
    (program (1 ∷ []) (sized 4 ∷ [])
    (more 3 (set32 1 (unsigned 1))
    (more 4 (by_order Big stop (more 5 (simple (returns (Some (number 0)))) stop)) stop))) ≡ []
return_in_both = refl

-- ---- unstable tests: union word u; uint32_t z; u.w = 1; (a statement) ep_out_u32(u.w);

abbrev word_and : What → Program
word_and w =
    program (1 ∷ 2 ∷ []) (sized 4 ∷ sized 4 ∷ [])
    (more 5 (set32 1 (unsigned 1)) (more 6 w (more 7 (put32 (u32 (block 1))) stop)))

-- if (u.b[0]) z = 10; else z = 20;
unstable : told usual 32 ([] ∷ [])
    (word_and (if_else first_byte (more 6 (set32 2 (unsigned 10)) stop) (more 6 (set32 2 (unsigned 20)) stop))) ≡ []
unstable = refl

-- if (u.b[0]) ep_out_u8(1);
output_in_one : told usual 32 ([] ∷ [])
    (word_and (if_else first_byte (more 6 (simple (output U8 (const U8 (pos 1)))) stop) stop)) ≡ (E2, 6) ∷ []
output_in_one = refl

-- if (u.b[0]) return 0;
return_in_one : told usual 32 ([] ∷ [])
    (word_and (if_else first_byte (more 6 (simple (returns (Some (number 0)))) stop) stop)) ≡ (E3, 6) ∷ []
return_in_one = refl

-- a[0] = 0; a[1] = 0; if (u.b[0]) z = 1; else z = 0; a[z] = 7; ep_write(a, 2);
abbrev set_byte : Expr → ℕ → What
set_byte i v = simple (assign (Int U8) (element (block 3) 2 1 i) (const U8 (pos v)))

abbrev bytes_that_differ : Program
bytes_that_differ =
    program (1 ∷ 2 ∷ 3 ∷ []) (sized 4 ∷ sized 4 ∷ sized 2 ∷ [])
    (more 6 (set32 1 (unsigned 1))
    (more 7 (set_byte (number 0) 0)
    (more 7 (set_byte (number 1) 0)
    (more 8 (if_else first_byte (more 8 (set32 2 (unsigned 1)) stop) (more 8 (set32 2 (unsigned 0)) stop))
    (more 9 (set_byte (u32 (block 2)) 7)
    (more 10 (simple (write_bytes (addr_of (block 3)) 2)) stop))))))

differing_bytes : report_of (exact bytes_that_differ usual ([] ∷ [])) 32 100 usual bytes_that_differ
    ≡ record { line = 10; kind = E1; left = (pos 0, pos 7); right = (pos 0, pos 7) } ∷ []
differing_bytes = refl

-- ---- loops: union word u; uint32_t n, t; u.w = ep_in_u32(); n = u.b[0] & 15; t = 0; (a loop) t = 5; ep_out_u32(t);

abbrev minus_one : ℕ → What
minus_one b = set32 b (binary Sub U32 (u32 (block b)) (unsigned 1))

abbrev plus_one : ℕ → What
plus_one b = set32 b (binary Add U32 (u32 (block b)) (unsigned 1))

abbrev counted_by : What → Program
counted_by w =
    program (1 ∷ 2 ∷ 3 ∷ []) (sized 4 ∷ sized 4 ∷ sized 4 ∷ [])
    (more 5 (take32 1)
    (more 6 (set32 2 (convert U32 (binary And I32 (convert I32 first_byte) (number 15))))
    (more 7 (set32 3 (unsigned 0))
    (more 8 w (more 9 (set32 3 (unsigned 5)) (more 10 (put32 (u32 (block 3))) stop))))))

-- while (n) { n = n - 1; t = t + 1; }
abbrev counting : What
counting = loop true (u32 (block 2)) (more 8 (minus_one 2) (more 8 (plus_one 3) stop)) stop

-- one machine makes three turns, the other none
enough_turns : told usual 4 ((3 ∷ []) ∷ []) (counted_by counting) ≡ []
enough_turns = refl

too_few_turns : told usual 2 ((3 ∷ []) ∷ []) (counted_by counting) ≡ (E4, 8) ∷ []
too_few_turns = refl

-- with no turns for a side that goes on alone it is an alarm at once
no_turns : told usual 0 ((3 ∷ []) ∷ []) (counted_by counting) ≡ (E4, 8) ∷ []
no_turns = refl

-- three turns are enough: the first has its test behind it
just_enough : told usual 3 ((3 ∷ []) ∷ []) (counted_by counting) ≡ []
just_enough = refl

-- passes: those of one side alone
alone_passes : passes_in 4 ((3 ∷ []) ∷ []) (counted_by counting) ≡ 3
alone_passes = refl

-- while (n) { return 0; }
return_alone : told usual 4 ((3 ∷ []) ∷ [])
    (counted_by (loop true (u32 (block 2)) (more 8 (simple (returns (Some (number 0)))) stop) stop)) ≡ (E3, 8) ∷ []
return_alone = refl

-- while (1) { if (n) break; n = 1; }
break_alone : told usual 4 ((3 ∷ []) ∷ [])
    (counted_by (loop true (number 1)
    (more 8 (if_else (u32 (block 2)) (more 8 break_loop stop) stop) (more 8 (set32 2 (unsigned 1)) stop)) stop))
    ≡ (E3, 8) ∷ []
break_alone = refl

-- while (n) { if (n < 3) break; n = n - 1; }: one machine comes out by `break`, the other didn't go in
out_by_break : told usual 4 ((3 ∷ []) ∷ [])
    (counted_by (loop true (u32 (block 2))
    (more 8 (if_else (compare Lt U32 (u32 (block 2)) (unsigned 3)) (more 8 break_loop stop) stop)
    (more 8 (minus_one 2) stop)) stop)) ≡ []
out_by_break = refl

-- ---- joint loops: uint32_t i, s; (a loop) ep_out_u32(i);

abbrev joint : Stmts → Program
joint body = program (1 ∷ 2 ∷ []) (sized 4 ∷ sized 4 ∷ []) body

-- for (i = 0; i < 3; i++) s = i;
abbrev for_three : Program
for_three =
    joint
    (more 3 (set32 1 (unsigned 0))
    (more 3
    (loop true (compare Lt U32 (u32 (block 1)) (unsigned 3)) (more 3 (set32 2 (u32 (block 1))) stop)
    (more 3 (plus_one 1) stop))
    (more 4 (put32 (u32 (block 1))) stop)))

three_turns : told usual 32 ([] ∷ []) for_three ≡ []
three_turns = refl

three_passes : passes_in 32 ([] ∷ []) for_three ≡ 3
three_passes = refl

-- with heads: each head is widened until what comes round is in it
passes_of_heads : passes_in 0 ([] ∷ []) for_three ≡ 4
passes_of_heads = refl

quiet_heads : told usual 0 ([] ∷ []) for_three ≡ []
quiet_heads = refl

-- do { } while (1), which no machine leaves: the first turn comes before the head, at 0 unrolled turns too
abbrev for_ever : Program
for_ever = joint (more 3 (loop false (number 1) stop stop) (more 4 (put32 (u32 (block 1))) stop))

never_left : told usual 0 ([] ∷ []) for_ever ≡ []
never_left = refl

first_and_head : passes_in 0 ([] ∷ []) for_ever ≡ 2
first_and_head = refl

-- while (1) break; over states that know nothing, from the empty head on: that main's result may differ is the only alarm
abbrev broken_off : Program
broken_off = joint (more 3 (loop true (number 1) (more 3 break_loop stop) stop) stop)

after_the_empty_head : places (report_of unknown 0 1 usual broken_off) ≡ (E1, 1) ∷ []
after_the_empty_head = refl

-- ---- order, counts and heads

-- for (i = 0; i < 3; i++) { for (s = 0; s < 2; s++) ; }: the inner loop's passes count at each visit
abbrev nested : Program
nested =
    joint
    (more 3 (set32 1 (unsigned 0))
    (more 3
    (loop true (compare Lt U32 (u32 (block 1)) (unsigned 3))
    (more 4 (set32 2 (unsigned 0))
    (more 4 (loop true (compare Lt U32 (u32 (block 2)) (unsigned 2)) (more 4 (simple nothing) stop)
    (more 4 (plus_one 2) stop))
    stop)) (more 3 (plus_one 1) stop))
    stop))

nested_passes : passes_in 32 ([] ∷ []) nested ≡ 9
nested_passes = refl

-- the heads of the last passes, a loop's own before those inside its turn
abbrev how_many : List (List Pair) → ℕ
how_many hs = length hs

unrolled_heads : how_many (heads_of (exact nested usual ([] ∷ [])) 32 100 usual nested) ≡ 0
unrolled_heads = refl

kept_heads : how_many (heads_of (exact nested usual ([] ∷ [])) 0 100 usual nested) ≡ 2
kept_heads = refl

-- int f(void) { if (u.b[0]) return 1; return 2; }, called from main: equal ways out of a function go on
abbrev with_returns : Program
with_returns = record (joint stop) {
  blocks = sized 4 ∷ sized 4 ∷ sized 4 ∷ sized 4 ∷ [];
  functions =
      record {
        name = [];
        line = 2;
        params = [];
        result = Some (3, Int I32);
        locals = [];
        body = more 2
            (if_else first_byte (more 2 (simple (returns (Some (number 1)))) stop)
            (more 2 (simple (returns (Some (number 2)))) stop)) stop;
      }
      ∷ main_of (1 ∷ 2 ∷ [])
      (more 4 (set32 1 (unsigned 1))
      (more 5 (call 0 [] (Some (record { what = Int U32; cast = false; place = block 2 })))
      (more 6 (put32 (u32 (block 2))) stop))) ∷ [];
  main = 1;
}

both_return : told usual 32 ([] ∷ []) with_returns ≡ (E1, 6) ∷ []
both_return = refl
