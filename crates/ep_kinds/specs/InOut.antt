-- Which statements take inputs or put out, by the text of a program. The rules are this project's.
use Rattle.std.specs.Prelude.{ℕ, zero, suc, Bool, true, false, ◌||◌, nat_eq, slice_get, Option, Some, None}
use Rattle.ep_core.specs.Program.{Simple, nothing, eval, assign, clear, copy_aggregate, copy_bytes, fill, input}
use Rattle.ep_core.specs.Program.{output, read_bytes, write_bytes, returns, What, simple, call, if_else, loop}
use Rattle.ep_core.specs.Program.{break_loop, continue_loop, by_order, scope, Stmts, stop, more, Function, Program}

abbrev pub is_input : Simple → Bool
is_input nothing = false
is_input (eval e) = false
is_input (assign what a e) = false
is_input (clear a ty) = false
is_input (copy_aggregate a b ty) = false
is_input (copy_bytes a b n) = false
is_input (fill a e n) = false
is_input (input t d) = true
is_input (output t e) = false
is_input (read_bytes e n) = true
is_input (write_bytes e n) = false
is_input (returns e) = false

abbrev pub is_output : Simple → Bool
is_output nothing = false
is_output (eval e) = false
is_output (assign what a e) = false
is_output (clear a ty) = false
is_output (copy_aggregate a b ty) = false
is_output (copy_bytes a b n) = false
is_output (fill a e n) = false
is_output (input t d) = false
is_output (output t e) = true
is_output (read_bytes e n) = false
is_output (write_bytes e n) = true
is_output (returns e) = false

-- an input or output
abbrev pub is_talk : Simple → Bool
is_talk w = is_input w || is_output w

-- where this tells of each function before whether its body comes to a statement that passes the test
module _ (test : Simple → Bool) (bodies : ℕ → Bool) where
  -- some statement passes the test, here or in a function that is called
  abbrev mutual
    pub comes_to : What → Bool
    comes_to (simple w) = test w
    comes_to (call k es d) = bodies k
    comes_to (if_else e a b) = some_comes_to a || some_comes_to b
    comes_to (loop first e a b) = some_comes_to a || some_comes_to b
    comes_to break_loop = false
    comes_to continue_loop = false
    comes_to (by_order named a b) = some_comes_to a || some_comes_to b
    comes_to (scope bs a) = some_comes_to a

    pub some_comes_to : Stmts → Bool
    some_comes_to stop = false
    some_comes_to (more l w rest) = comes_to w || some_comes_to rest

abbrev pub body_comes_to : (Simple → Bool) → Option Function → (ℕ → Bool) → Bool
body_comes_to test None bodies = false
body_comes_to test (Some f) bodies = some_comes_to test bodies f.body

-- one of two answers
abbrev pub answer_if : Bool → (yes no : Bool) → Bool
answer_if true a b = a
answer_if false a b = b

-- which bodies of the functions before number n come to one
abbrev pub bodies_come_to : (Simple → Bool) → Program → (n : ℕ) → ℕ → Bool
bodies_come_to test p zero k = false
bodies_come_to test p (suc n) k =
    answer_if (nat_eq k n) (body_comes_to test (slice_get p.functions n) (bodies_come_to test p n))
    (bodies_come_to test p n k)
