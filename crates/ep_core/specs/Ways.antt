-- The ways out that statements can have by their text.
use Rattle.std.specs.Prelude.{Bool, true, false, ◌&&◌, ◌||◌}
use Rattle.ep_core.specs.Program.{Simple, nothing, eval, assign, clear, copy_aggregate, copy_bytes, fill, input, output}
use Rattle.ep_core.specs.Program.{read_bytes, write_bytes, returns, What, simple, call, if_else, loop, break_loop}
use Rattle.ep_core.specs.Program.{continue_loop, by_order, scope, Stmts, stop, more}
use Rattle.ep_core.specs.Exec.{Way, on, broken, continued, returned}

-- which ways there are
pub record Ways : Type 0 where
  pub at_end : Bool
  pub by_break : Bool
  pub by_continue : Bool
  pub by_return : Bool

abbrev pub one_way : (at_end by_break by_continue by_return : Bool) → Ways
one_way e b c r = record { at_end = e; by_break = b; by_continue = c; by_return = r }

abbrev pub end_alone : Ways
end_alone = one_way true false false false

abbrev pub has_way : Ways → Way → Bool
has_way ws on = ws.at_end
has_way ws broken = ws.by_break
has_way ws continued = ws.by_continue
has_way ws returned = ws.by_return

-- the ways of one of two
abbrev pub either_way : Ways → Ways → Ways
either_way a b = record {
  at_end = a.at_end || b.at_end;
  by_break = a.by_break || b.by_break;
  by_continue = a.by_continue || b.by_continue;
  by_return = a.by_return || b.by_return;
}

-- the ways of a statement and of those after it, which come where its end is reached
abbrev pub then_ways : Ways → Ways → Ways
then_ways a b = record {
  at_end = a.at_end && b.at_end;
  by_break = a.by_break || a.at_end && b.by_break;
  by_continue = a.by_continue || a.at_end && b.by_continue;
  by_return = a.by_return || a.at_end && b.by_return;
}

abbrev pub ways_of_simple : Simple → Ways
ways_of_simple nothing = end_alone
ways_of_simple (eval e) = end_alone
ways_of_simple (assign what a e) = end_alone
ways_of_simple (clear a ty) = end_alone
ways_of_simple (copy_aggregate a d ty) = end_alone
ways_of_simple (copy_bytes a d n) = end_alone
ways_of_simple (fill a e n) = end_alone
ways_of_simple (input t d) = end_alone
ways_of_simple (output t e) = end_alone
ways_of_simple (read_bytes e n) = end_alone
ways_of_simple (write_bytes e n) = end_alone
ways_of_simple (returns e) = one_way false false false true

abbrev mutual
  pub ways_of : What → Ways
  ways_of (simple w) = ways_of_simple w
  ways_of (call k es d) = end_alone
  ways_of (if_else e a b) = either_way (ways_of_all a) (ways_of_all b)
  ways_of (loop first e a b) = one_way true false false (ways_of_all a).by_return
  ways_of break_loop = one_way false true false false
  ways_of continue_loop = one_way false false true false
  ways_of (by_order named a b) = either_way (ways_of_all a) (ways_of_all b)
  ways_of (scope bs a) = ways_of_all a

  pub ways_of_all : Stmts → Ways
  ways_of_all stop = end_alone
  ways_of_all (more l w rest) = then_ways (ways_of w) (ways_of_all rest)
