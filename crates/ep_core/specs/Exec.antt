-- What a program does on a machine, step by step. The order of evaluation and the steps are this project's rules, after
-- C11 5.1.2.3, 6.5 and 6.8.
use Rattle.std.specs.Prelude.{ℕ, zero, suc, ◌+◌, ◌*◌, ◌%◌, ℤ, pos, ◌+ℤ◌, ◌-ℤ◌, ◌*ℤ◌, Bool, true, false, ◌&&◌, not, List}
use Rattle.std.specs.Prelude.{[], ◌∷◌, ◌++◌, map, nat_lt, nat_le, nat_eq, int_le, int_lt, unsigned_abs, if◌then◌else◌}
use Rattle.std.specs.Prelude.{slice_get, Option, Some, None, Result, Ok, Err, option_to_list, unwrap_or}
use Rattle.std.specs.List.{list_any}
use Rattle.ep_int.specs.declared.types.IntType.{IntType}
use Rattle.ep_int.specs.declared.types.IntType.TheVariants.{U8}
use Rattle.ep_int.specs.declared.types.Scalar.{Scalar}
use Rattle.ep_int.specs.declared.types.Scalar.TheVariants.{Int, Pointer}
use Rattle.ep_int.specs.declared.types.Order.{Order}
use Rattle.ep_int.specs.declared.types.Order.TheVariants.{Little, Big, SwappedWords}
use Rattle.ep_int.specs.declared.types.Model.{Model}
use Rattle.ep_int.specs.declared.types.Undef.{Undef}
use Rattle.ep_int.specs.declared.types.Undef.TheVariants.{Overflow, Division, Shift}
use Rattle.ep_int.specs.declared.types.Cmp.{Cmp}
use Rattle.ep_int.specs.declared.types.Cmp.TheVariants.{Eq, Ne, Lt, Le, Gt, Ge}
use Rattle.ep_int.specs.Arith.{arith_of, compares, int_eq}
use Rattle.ep_int.specs.Types.{size_of, representation, wrapped}
use Rattle.ep_int.specs.Memory.{Byte, undefined, number, fragment, Memory, Value, int, null, pointer, Kind, overflow}
use Rattle.ep_int.specs.Memory.{division, shift, uninitialised, bounds, null_pointer, pointer_mix, overlap}
use Rattle.ep_int.specs.Memory.{pointer_part, Found, has, faults, with_place, loaded, stored, filled, copied, replaced}
use Rattle.ep_int.specs.Memory.{killed, overlaps, range_fault, store_fault}
use Rattle.ep_layout.specs.declared.types.Leaf.{Leaf}
use Rattle.ep_layout.specs.Table as table
use Rattle.ep_core.specs.Program.{Place, block, deref, member, element, Expr, const, null_value, load, addr_of, binary}
use Rattle.ep_core.specs.Program.{convert, compare, ptr_compare, logical_and, logical_or, logical_not, conditional}
use Rattle.ep_core.specs.Program.{ptr_add, cast, Dest, Simple, nothing, eval, assign, clear, copy_aggregate, copy_bytes}
use Rattle.ep_core.specs.Program.{fill, input, output, read_bytes, write_bytes, returns, What, simple, call, if_else}
use Rattle.ep_core.specs.Program.{loop, break_loop, continue_loop, by_order, scope, Stmts, stop, more, Block, Function}
use Rattle.ep_core.specs.Program.{Program}

-- a number that was put out, with its type
pub record Output : Type 0 where
  pub t : IntType
  pub value : ℤ

-- A machine: its memory, the inputs left and how many were taken, the outputs, the tests, and the joint tests. A test
-- is listed as 1 or 0, and the way out of a byte-order conditional by its code. The joint tests are those that were
-- listed while no byte-order conditional was running.
pub record State : Type 0 where
  pub memory : Memory
  pub inputs : List ℕ
  pub used : ℕ
  pub outputs : List Output
  pub tests : List ℕ
  pub joint_tests : List ℕ

-- how a statement is left: at its end, or by break, continue or return
pub data Way : Type 0 where
  on : Way
  broken : Way
  continued : Way
  returned : Way

-- What so many steps come to: the statement is left, with the steps that are left; or there are no more steps, or no
-- more inputs, or behaviour is undefined.
pub data Outcome : Type 0 where
  leaves : Way → (left : ℕ) → State → Outcome
  running : State → Outcome
  no_input : State → Outcome
  undefined_at : (line : ℕ) → Kind → State → Outcome

-- what goes on with steps from a state
abbrev pub Going : Type 0
Going = ℕ → State → Outcome

-- What stands here for a case that no typed program comes to: a number for an address, or an address for a number.
abbrev pub untyped : Kind
untyped = pointer_part

-- ---- values of operators

-- with a value that an expression has
abbrev pub with : Found → (Value → Found) → Found
with (has v) go = go v
with (faults k) go = faults k

-- with a number
abbrev pub with_number : Found → (ℤ → Found) → Found
with_number (has (int v)) go = go v
with_number (has null) go = faults untyped
with_number (has (pointer b q)) go = faults untyped
with_number (faults k) go = faults k

abbrev pub kind_of : Undef → Kind
kind_of Overflow = overflow
kind_of Division = division
kind_of Shift = shift

abbrev pub result_of : Result ℤ Undef → Found
result_of (Ok v) = has (int v)
result_of (Err u) = faults (kind_of u)

-- a number is true where it isn't zero, a pointer where it isn't null (C11 6.8.4.1p2)
abbrev pub is_true : Value → Bool
is_true (int v) = not (int_eq v (pos 0))
is_true null = false
is_true (pointer b q) = true

-- the int that a truth is (C11 6.5.8p6)
abbrev pub truth : Bool → Found
truth t = has (int (if t then pos 1 else pos 0))

-- `go` where a value is true, else `stays`
abbrev pub where_true : Bool → (stays go : Found) → Found
where_true true stays go = go
where_true false stays go = stays

-- whether two values are one pointer (C11 6.5.9p6)
abbrev pub is_same_pointer : Value → Value → Bool
is_same_pointer (pointer b q) (pointer c r) = nat_eq b c && nat_eq q r
is_same_pointer null null = true
is_same_pointer v w = false

-- Pointers have an order only within one block (C11 6.5.8p5).
abbrev pub ordered : (ℤ → ℤ → Bool) → Value → Value → Found
ordered test (pointer b q) (pointer c r) = if nat_eq b c then truth (test (pos q) (pos r)) else faults pointer_mix
ordered test v w = faults pointer_mix

abbrev pub pointers_compare : Cmp → Value → Value → Found
pointers_compare Eq v w = truth (is_same_pointer v w)
pointers_compare Ne v w = truth (not (is_same_pointer v w))
pointers_compare Lt v w = ordered (compares Lt) v w
pointers_compare Le v w = ordered (compares Le) v w
pointers_compare Gt v w = ordered (compares Gt) v w
pointers_compare Ge v w = ordered (compares Ge) v w

-- so many units of so many bytes, forwards or backwards
abbrev pub distance : (unit : ℕ) → ℤ → (backwards : Bool) → ℤ
distance unit n backwards = if backwards then pos 0 -ℤ (n *ℤ pos unit) else n *ℤ pos unit

-- what a place is in a block: from its start to right behind it (C11 6.5.6p8)
abbrev pub place_in : (size block : ℕ) → ℤ → Found
place_in size b q = if int_le (pos 0) q && int_le q (pos size) then has (pointer b (unsigned_abs q)) else faults bounds

-- The furthest that a pointer may lie from its block's start: its offset has 32 bits.
abbrev pub greatest_offset : ℕ
greatest_offset = 4294967295

-- An element of an array in place is below its bound, wherever the array is said to be.
abbrev pub element_at : (block here bound unit : ℕ) → (index : ℤ) → Found
element_at b q bound unit i =
    if (int_le (pos 0) i && int_lt i (pos bound)) && nat_le (q + unsigned_abs i * unit) greatest_offset
    then has (pointer b (q + unsigned_abs i * unit)) else faults bounds

-- ---- ways to go on

-- a statement with a value
abbrev pub given : Found → (line : ℕ) → State → (Value → Outcome) → Outcome
given (has v) l s go = go v
given (faults k) l s go = undefined_at l k s

-- a statement with a number
abbrev pub with_int : Value → (line : ℕ) → State → (ℤ → Outcome) → Outcome
with_int (int v) l s go = go v
with_int null l s go = undefined_at l untyped s
with_int (pointer b q) l s go = undefined_at l untyped s

-- a statement with the place that an address is of: null is looked for before all else
abbrev pub at_place : Value → (line : ℕ) → State → (ℕ → ℕ → Outcome) → Outcome
at_place (int v) l s go = undefined_at l null_pointer s
at_place null l s go = undefined_at l null_pointer s
at_place (pointer b q) l s go = go b q

-- what comes next, unless something is wrong
abbrev pub unless : Option Kind → (line : ℕ) → State → Outcome → Outcome
unless None l s go = go
unless (Some k) l s go = undefined_at l k s

-- Whether steps are used up. Where they aren't, they only bound how many turns each loop makes: proofs speak of such
-- runs.
pub data Counting : Type 0 where
  counted : Counting
  uncounted : Counting

-- a step, if one is left
abbrev pub step : Counting → ℕ → State → (ℕ → Outcome) → Outcome
step counted zero s go = running s
step counted (suc left) s go = go left
step uncounted left s go = go left

-- what comes after a statement that is left at its end
abbrev pub and_then : Outcome → Going → Outcome
and_then (leaves on left s) go = go left s
and_then (leaves broken left s) go = leaves broken left s
and_then (leaves continued left s) go = leaves continued left s
and_then (leaves returned left s) go = leaves returned left s
and_then (running s) go = running s
and_then (no_input s) go = no_input s
and_then (undefined_at l k s) go = undefined_at l k s

-- ---- changes of a machine

abbrev pub remembers : Memory → State → State
remembers m s = record s { memory = m }

abbrev pub put_out : IntType → ℤ → State → State
put_out t v s = record s { outputs = s.outputs ++ record { t = t; value = v } ∷ [] }

abbrev pub listed : (code : ℕ) → State → State
listed code s = record s { tests = s.tests ++ code ∷ []; joint_tests = s.joint_tests ++ code ∷ [] }

-- these blocks become undefined, and so does every pointer to them
abbrev pub without : List ℕ → State → State
without bs s = record s { memory = killed bs s.memory }

-- the next input
abbrev pub taken : List ℕ → State → (ℕ → State → Outcome) → Outcome
taken [] s go = no_input s
taken (v ∷ rest) s go = go v (record s { inputs = rest; used = s.used + 1 })

-- a value as the scalar that it goes to: a number is converted
abbrev pub converted : Scalar → Value → Value
converted (Int t) (int v) = int (wrapped t v)
converted (Int t) null = null
converted (Int t) (pointer b q) = pointer b q
converted Pointer v = v

-- ---- bytes, a step for each

-- what is done with the byte at a place, and then what comes next
abbrev pub ByteStep : Type 0
ByteStep = (here : ℕ) → State → (State → Outcome) → Outcome

-- so many bytes from here on
abbrev pub bytewise : Counting → ByteStep → (count here : ℕ) → Going
bytewise c one zero here left s = leaves on left s
bytewise c one (suc n) here left s = step c left s (λ left. one here s (bytewise c one n (here + 1) left))

-- the same where the step for the first is taken
abbrev pub bytewise_rest : Counting → ByteStep → (count here : ℕ) → Going
bytewise_rest c one zero here left s = leaves on left s
bytewise_rest c one (suc n) here left s = one here s (bytewise c one n (here + 1) left)

-- a byte of memory is put out as an unsigned char
abbrev pub byte_out : Byte → (line : ℕ) → State → (State → Outcome) → Outcome
byte_out undefined l s go = undefined_at l uninitialised s
byte_out (number v) l s go = go (put_out U8 (pos v) s)
byte_out (fragment b o k) l s go = undefined_at l pointer_part s

-- ---- tests

abbrev pub code_of_test : Bool → ℕ
code_of_test true = 1
code_of_test false = 0

-- what is done where a test is true, and what else; the test is listed
abbrev pub either : Bool → (yes no : Going) → Going
either true a b left s = a left (listed (code_of_test true) s)
either false a b left s = b left (listed (code_of_test false) s)

-- ---- loops

-- After a turn, at the end of the body or by `continue`, come the step part and what comes next.
abbrev pub turned : Outcome → (next again : Going) → Outcome
turned (leaves on left s) next again = and_then (next left s) again
turned (leaves broken left s) next again = leaves on left s
turned (leaves continued left s) next again = and_then (next left s) again
turned (leaves returned left s) next again = leaves returned left s
turned (running s) next again = running s
turned (no_input s) next again = no_input s
turned (undefined_at l k s) next again = undefined_at l k s

-- a turn of a loop, with the step that it takes
abbrev pub turn : Counting → (body next again : Going) → Going
turn c body next again left s = step c left s (λ left. turned (body left s) next again)

-- A loop from a test on. More tests than `most` it does not come to; the steps that are left and one more are enough.
abbrev pub looped : Counting → (most : ℕ) → (test : Memory → Found) → (line : ℕ) → (body next : Going) → Going
looped c zero test l body next left s = running s
looped c (suc most) test l body next left s =
    given (test s.memory) l s
    (λ v. either (is_true v) (turn c body next (looped c most test l body next)) (leaves on) left s)

-- a counted loop from a test on
abbrev pub around : (test : Memory → Found) → (line : ℕ) → (body next : Going) → Going
around test l body next left s = looped counted (suc left) test l body next left s

-- The first turn of a `do` loop comes before the test.
abbrev pub first_turn : Counting → (tests_first : Bool) → (body next again : Going) → Going
first_turn c true body next again left s = again left s
first_turn c false body next again left s = turn c body next again left s

-- ---- scopes

-- a scope is left, by whatever way
abbrev pub scope_left : List ℕ → Outcome → Outcome
scope_left bs (leaves w left s) = leaves w left (without bs s)
scope_left bs (running s) = running s
scope_left bs (no_input s) = no_input s
scope_left bs (undefined_at l k s) = undefined_at l k s

-- ---- byte-order conditionals

abbrev pub is_order : Order → Order → Bool
is_order Little Little = true
is_order Big Big = true
is_order SwappedWords SwappedWords = true
is_order a b = false

abbrev pub chosen : Bool → (yes no : Going) → Going
chosen true a b = a
chosen false a b = b

abbrev pub code_of_way : Way → ℕ
code_of_way on = 2
code_of_way broken = 3
code_of_way continued = 4
code_of_way returned = 5

-- An arm is left, by whatever way: the way is listed, and of the joint tests it alone is new.
abbrev pub arm_left : (joint : List ℕ) → Outcome → Outcome
arm_left joint (leaves w left s) =
    leaves w left (record s { tests = s.tests ++ code_of_way w ∷ []; joint_tests = joint ++ code_of_way w ∷ [] })
arm_left joint (running s) = running (record s { joint_tests = joint })
arm_left joint (no_input s) = no_input (record s { joint_tests = joint })
arm_left joint (undefined_at l k s) = undefined_at l k (record s { joint_tests = joint })

-- ---- calls

-- the values of arguments, or undefined behaviour
pub data Values : Type 0 where
  have : List Value → Values
  stops : Kind → Values

abbrev pub first_and : Found → Values → Values
first_and (has v) (have vs) = have (v ∷ vs)
first_and (has v) (stops k) = stops k
first_and (faults k) vs = stops k

-- a statement with the values of arguments
abbrev pub given_all : Values → (line : ℕ) → State → (List Value → Outcome) → Outcome
given_all (have vs) l s go = go vs
given_all (stops k) l s go = undefined_at l k s

abbrev pub first_of : List (ℕ × Scalar) → List ℕ
first_of ps = map (λ (p : ℕ × Scalar). p.0) ps

-- what is there while the body of a function runs: its parameters and locals
abbrev pub frame_of : Function → List ℕ
frame_of f = first_of f.params ++ f.locals

abbrev pub result_in : Option Function → Option (ℕ × Scalar)
result_in None = None
result_in (Some f) = f.result

-- what the function of number `here` may call: those before it
abbrev pub callee_of : Program → (here : ℕ) → ℕ → Option Function
callee_of p here k = if nat_lt k here then slice_get p.functions k else None

-- ---- a machine of this byte order, that runs this program
module _ (o : Order) (p : Program) where
  abbrev pub model : Model
  model = p.types.model

  abbrev pub block_size : Option Block → ℕ
  block_size None = 0
  block_size (Some b) = b.size

  -- how many bytes a block has; one that isn't there has none
  abbrev pub size_at : ℕ → ℕ
  size_at b = block_size (slice_get p.blocks b)

  -- how many bytes a type has; one that has no size has none
  abbrev pub bytes_in : (ty : ℕ) → ℕ
  bytes_in ty = unwrap_or (table.size p.types ty) 0

  -- ---- expressions and places

  -- an address so many bytes further on or back, within its block
  abbrev pub moved : Found → ℤ → Found
  moved v by = with_place v (λ b q. place_in (size_at b) b (pos q +ℤ by))

  abbrev mutual
    pub value : Expr → Memory → Found
    value (const t v) m = has (int v)
    value null_value m = has null
    value (load what a) m = with_place (address a m) (λ b q. loaded o model (size_at b) m what b q)
    value (addr_of a) m = address a m
    value (binary op t a b) m =
        with_number (value a m) (λ x. with_number (value b m) (λ y. result_of (arith_of op t x y)))
    value (convert t e) m = with_number (value e m) (λ v. has (int (wrapped t v)))
    value (compare c t a b) m = with_number (value a m) (λ x. with_number (value b m) (λ y. truth (compares c x y)))
    value (ptr_compare c a b) m = with (value a m) (λ v. with (value b m) (λ w. pointers_compare c v w))
    value (logical_and a b) m =
        with (value a m) (λ v. where_true (is_true v) (truth false) (with (value b m) (λ w. truth (is_true w))))
    value (logical_or a b) m =
        with (value a m) (λ v. where_true (is_true v) (with (value b m) (λ w. truth (is_true w))) (truth true))
    value (logical_not e) m = with (value e m) (λ v. truth (not (is_true v)))
    value (conditional t a b) m = with (value t m) (λ v. where_true (is_true v) (value b m) (value a m))
    value (ptr_add e unit n backwards) m =
        with (value e m) (λ v. with_number (value n m) (λ k. moved (has v) (distance unit k backwards)))
    value (cast e) m = value e m

    pub address : Place → Memory → Found
    address (block b) m = has (pointer b 0)
    address (deref e) m = value e m
    address (member a offset) m = moved (address a m) (pos offset)
    address (element a bound unit i) m =
        with (address a m) (λ v. with_number (value i m) (λ k. with_place (has v) (λ b q. element_at b q bound unit k)))

  -- from left to right
  abbrev pub values : List Expr → Memory → Values
  values [] m = have []
  values (e ∷ es) m = first_and (value e m) (values es m)

  -- ---- stores

  -- stores a value at a place, and goes on so
  abbrev pub put_at : Scalar → (block here : ℕ) → Value → (line : ℕ) → State → (State → Outcome) → Outcome
  put_at what b q v l s go =
      unless (store_fault model (size_at b) what q) l s (go (remembers (stored o model s.memory what b q v) s))

  -- stores it through an address
  abbrev pub put_to : Scalar → (address : Value) → Value → (line : ℕ) → State → (State → Outcome) → Outcome
  put_to what w v l s go = at_place w l s (λ b q. put_at what b q v l s go)

  -- what comes is converted, and goes to its place
  abbrev pub put_dest : Option Dest → Value → (line : ℕ) → Going
  put_dest None v l left s = leaves on left s
  put_dest (Some d) v l left s =
      given (address d.place s.memory) l s (λ w. put_to d.what w (converted d.what v) l s (leaves on left))

  -- a value becomes the function's result; no typed function without one returns a value
  abbrev pub put_result : Option (ℕ × Scalar) → Value → (line : ℕ) → Going
  put_result None v l left s = undefined_at l untyped s
  put_result (Some r) v l left s = put_at r.1 r.0 0 v l s (leaves returned left)

  abbrev pub returned_with : Option (ℕ × Scalar) → Option Expr → (line : ℕ) → Going
  returned_with r None l left s = leaves returned left s
  returned_with r (Some e) l left s = given (value e s.memory) l s (λ v. put_result r v l left s)

  -- the bytes of a place from here on change so
  abbrev pub change : (block here count : ℕ) → Memory → (line : ℕ) → Going
  change b q n m l left s = unless (range_fault (size_at b) q n) l s (leaves on left (remembers m s))

  -- the bytes of a cleared place: a leaf is 0 or null, and all other bytes are undefined
  abbrev pub is_in_leaf : ℕ → Leaf → Bool
  is_in_leaf k f = nat_le f.offset k && nat_lt k (f.offset + size_of model f.what)

  abbrev pub cleared_byte : (ty k : ℕ) → Byte
  cleared_byte ty k = if list_any (is_in_leaf k) (table.leaves p.types ty) then number 0 else undefined

  abbrev pub cleared : (ty : ℕ) → Memory → (block here : ℕ) → Memory
  cleared ty m b q = replaced model m b q (bytes_in ty) (cleared_byte ty)

  -- what is wrong with a copy of n bytes, if anything
  abbrev pub copy_fault : (to at from there n : ℕ) → (same : Bool) → Option Kind
  copy_fault b q c r n same =
      if nat_lt (size_at b) (q + n) then Some bounds
      else if nat_lt (size_at c) (r + n) then Some bounds
      else if overlaps b q c r n && not same then Some overlap else None

  -- n bytes from one place to another; where it is the same place, an assignment changes nothing
  abbrev pub copy_at : (to at from there n : ℕ) → (same : Bool) → (line : ℕ) → Going
  copy_at b q c r n same l left s =
      unless (copy_fault b q c r n same) l s
      (leaves on left (remembers (if same then s.memory else copied model s.memory b q c r n) s))

  -- ---- statements without statements in them, after their first step

  -- a byte is put out
  abbrev pub out_of : (block line : ℕ) → ByteStep
  out_of b l here s go = byte_out (s.memory b here) l s go

  -- an input becomes a byte
  abbrev pub into : (block : ℕ) → ByteStep
  into b here s go = taken s.inputs s (λ v s. go (remembers (filled model s.memory b here 1 (v % 256)) s))

  -- in a function with this result
  module _ (c : Counting) (result : Option (ℕ × Scalar)) where
    abbrev pub does : Simple → (line : ℕ) → Going
    does nothing l left s = leaves on left s
    does (eval e) l left s = given (value e s.memory) l s (λ v. leaves on left s)
    does (assign what a e) l left s =
        given (address a s.memory) l s (λ w. given (value e s.memory) l s (λ v. put_to what w v l s (leaves on left)))
    does (clear a ty) l left s =
        given (address a s.memory) l s
        (λ w. at_place w l s (λ b q. change b q (bytes_in ty) (cleared ty s.memory b q) l left s))
    does (copy_aggregate a d ty) l left s =
        given (address a s.memory) l s
        (λ w. given (address d s.memory) l s
        (λ v. at_place w l s
        (λ b q. at_place v l s (λ c r. copy_at b q c r (bytes_in ty) (nat_eq b c && nat_eq q r) l left s))))
    does (copy_bytes a d n) l left s =
        given (value a s.memory) l s
        (λ w. given (value d s.memory) l s
        (λ v. at_place w l s (λ b q. at_place v l s (λ c r. copy_at b q c r n false l left s))))
    does (fill a e n) l left s =
        given (value a s.memory) l s
        (λ w. given (value e s.memory) l s
        (λ v. with_int v l s
        (λ x. at_place w l s (λ b q. change b q n (filled model s.memory b q n (representation U8 x)) l left s))))
    does (input t d) l left s = taken s.inputs s (λ v s. put_dest d (int (wrapped t (pos v))) l left s)
    does (output t e) l left s =
        given (value e s.memory) l s (λ v. with_int v l s (λ x. leaves on left (put_out t x s)))
    does (read_bytes e n) l left s =
        given (value e s.memory) l s
        (λ w. at_place w l s (λ b q. unless (range_fault (size_at b) q n) l s (bytewise_rest c (into b) n q left s)))
    does (write_bytes e n) l left s =
        given (value e s.memory) l s
        (λ w. at_place w l s
        (λ b q. unless (range_fault (size_at b) q n) l s (bytewise_rest c (out_of b l) n q left s)))
    does (returns e) l left s = returned_with result e l left s

  -- ---- calls

  -- the parameters, one after another, each with its argument; what is too much of either is left out
  abbrev pub bound : List (ℕ × Scalar) → List Value → (line : ℕ) → State → (State → Outcome) → Outcome
  bound [] vs l s go = go s
  bound (b ∷ bs) [] l s go = go s
  bound (b ∷ bs) (v ∷ vs) l s go = put_at b.1 b.0 0 v l s (λ s. bound bs vs l s go)

  -- the result, if a place takes it
  abbrev pub received : (result : Option (ℕ × Scalar)) → Option Dest → (line : ℕ) → Going
  received r None l left s = leaves on left s
  received None (Some d) l left s = undefined_at l untyped s
  received (Some r) (Some d) l left s =
      given (loaded o model (size_at r.0) s.memory r.1 r.0 0) l s (λ v. put_dest (Some d) v l left s)

  -- A body is left: what was there while it ran is gone, and then the result goes to its place.
  abbrev pub called : Function → Option Dest → (line : ℕ) → Outcome → Outcome
  called f d l (leaves w left s) = received f.result d l left (without (frame_of f) s)
  called f d l (running s) = running s
  called f d l (no_input s) = no_input s
  called f d l (undefined_at k x s) = undefined_at k x s

  -- the arguments are evaluated, the parameters and locals come, and the body runs
  abbrev pub entered : Function → (body : Going) → List Expr → Option Dest → (line : ℕ) → Going
  entered f body es d l left s =
      given_all (values es s.memory) l s
      (λ vs. bound f.params vs l (without (frame_of f) s) (λ s. called f d l (body left s)))

  -- A call of this function, whose body does so. First its result becomes undefined. No well-formed program calls
  -- a function that isn't there.
  abbrev pub call_of : Option Function → (body : Going) → List Expr → Option Dest → (line : ℕ) → Going
  call_of None body es d l left s = undefined_at l untyped s
  call_of (Some f) body es d l left s = entered f body es d l left (without (first_of (option_to_list f.result)) s)

  -- ---- statements, in the function of number `here`, where the bodies of the functions before it do so
  module _ (c : Counting) (here : ℕ) (bodies : ℕ → Going) where
    abbrev mutual
      pub exec : What → (line : ℕ) → Going
      exec (simple w) l left s = step c left s (λ left. does c (result_in (slice_get p.functions here)) w l left s)
      exec (call k es d) l left s = step c left s (λ left. call_of (callee_of p here k) (bodies k) es d l left s)
      exec (if_else e a b) l left s =
          step c left s
          (λ left. given (value e s.memory) l s (λ v. either (is_true v) (exec_all a) (exec_all b) left s))
      exec (loop first e a b) l left s =
          step c left s
          (λ left. first_turn c first (exec_all a) (exec_all b)
          (looped c (suc left) (value e) l (exec_all a) (exec_all b)) left s)
      exec break_loop l left s = step c left s (λ left. leaves broken left s)
      exec continue_loop l left s = step c left s (λ left. leaves continued left s)
      exec (by_order named a b) l left s =
          step c left s
          (λ left. arm_left s.joint_tests (chosen (is_order o named) (exec_all a) (exec_all b) left s))
      exec (scope bs a) l left s = scope_left bs (exec_all a left (without bs s))

      pub exec_all : Stmts → Going
      exec_all stop left s = leaves on left s
      exec_all (more l w rest) left s = and_then (exec w l left s) (exec_all rest)

  -- what the body of function `here` does
  abbrev pub body_of : Counting → Option Function → (here : ℕ) → (bodies : ℕ → Going) → Going
  body_of c None here bodies = leaves on
  body_of c (Some f) here bodies = exec_all c here bodies f.body

  -- what the bodies of the functions before number n do
  abbrev pub bodies : Counting → (n : ℕ) → ℕ → Going
  bodies c zero k = leaves on
  bodies c (suc n) k = chosen (nat_eq k n) (body_of c (slice_get p.functions n) n (bodies c n)) (bodies c n k)
