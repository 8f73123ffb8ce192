-- What well-formed statements can't come to: a step part is left at its end alone, and a function by no jump.
use Rattle.std.proofs.Common.{◌≡◌, ℕ, List, ◌++◌, refl, ◌∙◌, subst, Option, Some, None, Bool, true, false, ◌&&◌}
use Rattle.std.proofs.lemmas.Bool.{and_right, or_from}
use Rattle.std.proofs.Common.{◌||◌, slice_get, nat_eq, zero, suc, if◌then◌else◌}
use Rattle.std.proofs.lemmas.Bool.{and_parts}
use Rattle.ep_int.specs.declared.types.Order.{Order}
use Rattle.ep_core.specs.Program.{Simple, nothing, eval, assign, clear, copy_aggregate, copy_bytes, fill, input}
use Rattle.ep_core.specs.Program.{output, read_bytes, write_bytes, returns, What, simple, call, if_else, loop}
use Rattle.ep_core.specs.Program.{break_loop, continue_loop, by_order, scope, Stmts, stop, more, Function, Program}
use Rattle.ep_core.specs.Exec.{State, on, broken, continued, returned, Outcome, leaves, running, no_input}
use Rattle.ep_core.specs.Exec.{undefined_at, Going, Counting, chosen, frame_of, exec_all, body_of, bodies}
use Rattle.ep_core.specs.Ways.{Ways, either_way, then_ways, ways_of_simple, ways_of, ways_of_all}
use Rattle.ep_core.specs.WellFormed.{is_tested, are_plain, result_type, what_fits, stmts_fit, is_well_formed}
use Rattle.ep_core.specs.Laws.{IsAmong}
use Rattle.ep_core.proofs.WaysTaken.{all_plain_ways, all_among}
use Rattle.ep_core.proofs.Operands.{fits_at}
use Rattle.ep_pass.proofs.Outcomes.{IsPlain, IsCall, plain_end}

-- no way out by `break` or `continue`
abbrev pub Stays : Ways → Type 0
Stays ws = (ws.by_break ≡ false) × (ws.by_continue ≡ false)

either_stays : (a b : Ways) → Stays a → Stays b → Stays (either_way a b)
either_stays a b h i =
    (or_from a.by_break b.by_break h.0 i.0, or_from a.by_continue b.by_continue h.1 i.1)

then_stays : (a b : Ways) → Stays a → Stays b → Stays (then_ways a b)
then_stays a b h i = (
  or_from a.by_break (a.at_end && b.by_break) h.0 (and_right a.at_end b.by_break i.0),
  or_from a.by_continue (a.at_end && b.by_continue) h.1 (and_right a.at_end b.by_continue i.1),
)

simple_stays : (w : Simple) → Stays (ways_of_simple w)
simple_stays nothing = (refl, refl)
simple_stays (eval e) = (refl, refl)
simple_stays (assign what a e) = (refl, refl)
simple_stays (clear a ty) = (refl, refl)
simple_stays (copy_aggregate a b ty) = (refl, refl)
simple_stays (copy_bytes a b n) = (refl, refl)
simple_stays (fill a e n) = (refl, refl)
simple_stays (input t d) = (refl, refl)
simple_stays (output t e) = (refl, refl)
simple_stays (read_bytes e n) = (refl, refl)
simple_stays (write_bytes e n) = (refl, refl)
simple_stays (returns e) = (refl, refl)

module _ (p : Program) (here : ℕ) (own : Option ℕ) where
  mutual
    pub what_stays : (w : What) (seen : List ℕ) → what_fits p here own w seen false ≡ true → Stays (ways_of w)
    what_stays (simple w) seen h = simple_stays w
    what_stays (call k es d) seen h = (refl, refl)
    what_stays (if_else e a b) seen h =
        let q = and_parts (is_tested p.types p.blocks seen e && stmts_fit p here own a seen false)
        (stmts_fit p here own b seen false) h in
        let r = and_parts (is_tested p.types p.blocks seen e) (stmts_fit p here own a seen false) q.0 in
        either_stays (ways_of_all a) (ways_of_all b) (all_stay a seen r.1) (all_stay b seen q.1)
    what_stays (loop first e a b) seen h = (refl, refl)
    what_stays break_loop seen h = absurd cc
    what_stays continue_loop seen h = absurd cc
    what_stays (by_order named a b) seen h =
        let q = and_parts (stmts_fit p here own a seen false) (stmts_fit p here own b seen false) h in
        either_stays (ways_of_all a) (ways_of_all b) (all_stay a seen q.0) (all_stay b seen q.1)
    what_stays (scope bs a) seen h = all_stay a (bs ++ seen) h

    pub all_stay : (ss : Stmts) (seen : List ℕ) → stmts_fit p here own ss seen false ≡ true → Stays (ways_of_all ss)
    all_stay stop seen h = (refl, refl)
    all_stay (more l w rest) seen h =
        let q = and_parts (what_fits p here own w seen false) (stmts_fit p here own rest seen false) h in
        then_stays (ways_of w) (ways_of_all rest) (what_stays w seen q.0) (all_stay rest seen q.1)

call_end : (ws : Ways) (x : Outcome) → Stays ws → IsAmong ws x → IsCall x
call_end ws (leaves on n s) h i = tt
call_end ws (leaves broken n s) h i = let e = h.0 in absurd cc
call_end ws (leaves continued n s) h i = let e = h.1 in absurd cc
call_end ws (leaves returned n s) h i = tt
call_end ws (running s) h i = tt
call_end ws (no_input s) h i = tt
call_end ws (undefined_at l k s) h i = tt

module _ (o : Order) (p : Program) (c : Counting) where
  module _ (here : ℕ) (bs : ℕ → Going) (own : Option ℕ) where
    pub plain_part : (ss : Stmts) (seen : List ℕ) (i : Bool) → are_plain ss ≡ true
        → stmts_fit p here own ss seen i ≡ true → (n : ℕ) (s : State) → IsPlain (exec_all o p c here bs ss n s)
    plain_part ss seen i h f n s =
        plain_end (exec_all o p c here bs ss n s)
        (subst (λ ws. IsAmong ws (exec_all o p c here bs ss n s)) (all_plain_ways ss h)
        (all_among o p c here bs own ss seen i f n s))

    pub call_part : (ss : Stmts) (seen : List ℕ) → stmts_fit p here own ss seen false ≡ true → (n : ℕ) (s : State)
        → IsCall (exec_all o p c here bs ss n s)
    call_part ss seen f n s =
        call_end (ways_of_all ss) (exec_all o p c here bs ss n s) (all_stay p here own ss seen f)
        (all_among o p c here bs own ss seen false f n s)

  -- the bodies of functions
  module _ (formed : is_well_formed p ≡ true) where
    body_call : (f : Option Function) (here : ℕ) (bs : ℕ → Going) → slice_get p.functions here ≡ f → (n : ℕ)
        (s : State) → IsCall (body_of o p c f here bs n s)
    body_call None here bs e n s = tt
    body_call (Some f) here bs e n s =
        call_part here bs (result_type p.blocks f.result) f.body (frame_of f) (fits_at p formed here f e).2 n s

    chosen_call : (t : Bool) (f g : Going) → ((n : ℕ) (s : State) → IsCall (f n s))
        → ((n : ℕ) (s : State) → IsCall (g n s)) → (n : ℕ) (s : State) → IsCall (chosen t f g n s)
    chosen_call true f g h i = h
    chosen_call false f g h i = i

    pub bodies_call : (m k n : ℕ) (s : State) → IsCall (bodies o p c m k n s)
    bodies_call zero k n s = tt
    bodies_call (suc m) k n s =
        chosen_call (nat_eq k m) (body_of o p c (slice_get p.functions m) m (bodies o p c m)) (bodies o p c m k)
        (body_call (slice_get p.functions m) m (bodies o p c m) refl) (bodies_call m k) n s
