-- Which programs are closed by their text: nothing comes from outside, and what is done on one machine alone puts
-- nothing out. The rules are this project's.
use Rattle.std.specs.Prelude.{ℕ, suc, Bool, true, ◌&&◌, ◌||◌, not, List, [], ◌∷◌}
use Rattle.ep_core.specs.Program.{What, simple, call, if_else, loop, break_loop, continue_loop, by_order, scope}
use Rattle.ep_core.specs.Program.{Stmts, stop, more, Function, Program}
use Rattle.ep_kinds.specs.InOut.{is_input, is_talk, some_comes_to, bodies_come_to}

-- where this tells which functions before come to an input or output
module _ (bodies : ℕ → Bool) where
  -- no input, and no input or output that a byte-order conditional comes to
  abbrev mutual
    pub is_closed_what : What → Bool
    is_closed_what (simple w) = not (is_input w)
    is_closed_what (call k es d) = true
    is_closed_what (if_else e a b) = are_closed a && are_closed b
    is_closed_what (loop first e a b) = are_closed a && are_closed b
    is_closed_what break_loop = true
    is_closed_what continue_loop = true
    is_closed_what (by_order named a b) =
        not (some_comes_to is_talk bodies a || some_comes_to is_talk bodies b) && (are_closed a && are_closed b)
    is_closed_what (scope bs a) = are_closed a

    pub are_closed : Stmts → Bool
    are_closed stop = true
    are_closed (more l w rest) = is_closed_what w && are_closed rest

-- each function passes the test, with its number
abbrev pub each_function : (ℕ → Function → Bool) → (number : ℕ) → List Function → Bool
each_function test n [] = true
each_function test n (f ∷ fs) = test n f && each_function test (suc n) fs

abbrev pub is_closed_text : Program → Bool
is_closed_text p = each_function (λ n f. are_closed (bodies_come_to is_talk p n) f.body) 0 p.functions
