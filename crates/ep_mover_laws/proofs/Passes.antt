-- The pass goes through the statements of a mover without a fault, and both machines go along.
use Rattle.std.proofs.Common.{◌≡◌, ℕ, ◌+◌, true, false, Bool, if◌then◌else◌, [], ◌++◌, length, slice_get, Option}
use Rattle.std.proofs.Common.{Some, Ok, refl, sym, ◌∙◌, ap, subst}
use Rattle.std.proofs.lemmas.Bool.{and_parts}
use Rattle.ep_int.specs.declared.types.Order.{Order}
use Rattle.ep_int.specs.declared.types.Scalar.{Scalar}
use Rattle.ep_int.specs.Memory.{Memory}
use Rattle.ep_core.specs.Program.{Simple, nothing, eval, assign, clear, copy_aggregate, copy_bytes, fill}
use Rattle.ep_core.specs.Program.{input, output, read_bytes, write_bytes, returns, What, simple, call, if_else, loop}
use Rattle.ep_core.specs.Program.{break_loop, continue_loop, by_order, scope, Stmts, stop, more as then_more, Program}
use Rattle.ep_core.specs.Exec.{on, is_order, frame_of, result_in}
use Rattle.ep_core.specs.Runs.{Side, left, right}
use Rattle.ep_core.specs.WellFormed.{result_type, simple_fits, what_fits, stmts_fit, is_well_formed}
use Rattle.ep_core.proofs.Sorts.{never}
use Rattle.ep_pass.specs.States.{Mode, Both, One, StateOps}
use Rattle.ep_pass.specs.Laws.{Lawful}
use Rattle.ep_pass.specs.Pass.{Ways, none, Log, logged, both_logs, Pass, passed, after, ends, simple_pass, way_of}
use Rattle.ep_pass.specs.Pass.{only_on, only_broken, only_continued, only_returned, Heads, past, either_pass, then_pass}
use Rattle.ep_pass.specs.Pass.{parted, arm_of, pass, pass_all}
use Rattle.ep_movers.specs.Movers.{Machine, does, moves_what, moves}
use Rattle.ep_movers.specs.Forms.{is_moved_assignment, are_assignments, is_moving_simple, is_moving_what, are_moving}
use Rattle.ep_mover_runs.specs.Following.{put_out_by_simple}
use Rattle.ep_mover_runs.proofs.Numbers.{ok_parts, same_ok}
use Rattle.ep_mover_runs.proofs.Mains.{IsMover, has_result, result_unnamed}
use Rattle.ep_mover_runs.proofs.Kept.{Kept, all_kept}
use Rattle.ep_mover_laws.specs.Moving.{GoesOnWith, beside, KeepsMoved}
use Rattle.ep_mover_laws.proofs.Sides.{with_side, own_side, other_side, put_again, same_with, same_beginning, way_on}
use Rattle.ep_mover_laws.proofs.Along.{fits, Along, counts, both_step, alone_step}

-- one of two lists
abbrev pub chosen_all : Bool → Stmts → Stmts → Stmts
chosen_all true a b = a
chosen_all false a b = b

-- the machine does its own arm
chosen_moves : (t : Bool) (o : Order) (a b : Stmts) (m : Machine)
    → (if t then moves o a m else moves o b m) ≡ moves o (chosen_all t a b) m
chosen_moves true o a b m = refl
chosen_moves false o a b m = refl

chosen_assigns : (t : Bool) (a b : Stmts) → are_assignments a ≡ true → are_assignments b ≡ true
    → are_assignments (chosen_all t a b) ≡ true
chosen_assigns true a b h i = h
chosen_assigns false a b h i = i

-- what comes of a pass that is parted, where both arms are left at their end
abbrev rejoined : {S : Type 0} → StateOps S → (line : ℕ) → Log S → Pass S → Pass S
rejoined o l k q =
    after k
    (either_pass o
    (either_pass o (either_pass o (only_on l q) (only_broken l (ends []))) (only_continued l (ends [])))
    (only_returned l (ends [])))

module _ (p : Program) (formed : is_well_formed p ≡ true) (g : IsMover p) (ord : Side → Order) {S : Type 0}
    (o : StateOps S) (Concretises : S → Memory → Memory → Type 0) (law : Lawful p ord o Concretises)
    (Moved : (Side → Machine) → S → Type 0) (keeps : KeepsMoved p ord o Concretises Moved) where
  abbrev Goes : (Side → Machine) → S → Type 0
  Goes = Along p formed g ord o Concretises law Moved keeps

  -- left at its end alone, without a fault, where the machines are these
  pub record Comes (to : Side → Machine) (q : Pass S) : Type 0 where
    pub machines : Side → Machine
    pub at : (i : Side) → machines i ≡ to i
    pub state : S
    pub log : Log S
    pub is : q ≡ passed (Some state) none log
    pub quiet : log.faults ≡ []
    pub along : Goes machines state

  come_to : (to then_to : Side → Machine) (q : Pass S) → ((i : Side) → to i ≡ then_to i) → Comes to q
      → Comes then_to q
  come_to to then_to q e c = record {
    machines = c.machines;
    at = λ i. c.at i ∙ e i;
    state = c.state;
    log = c.log;
    is = c.is;
    quiet = c.quiet;
    along = c.along;
  }

  -- where the pass goes on from there
  abbrev Later : (to : Side → Machine) → (go : S → Pass S) → (then_to : Side → Machine)
      → Type 0
  Later to go then_to =
      (ms : Side → Machine) → ((i : Side) → ms i ≡ to i) → (s : S) → Goes ms s → Comes then_to (go s)

  then_comes : (to then_to : Side → Machine) (q : Pass S) (go : S → Ways S → Pass S) → Comes to q
      → Later to (λ s. go s none) then_to → Comes then_to (then_pass o q none go)
  then_comes to then_to q go c next =
      let d = next c.machines c.at c.state c.along in
      record {
        machines = d.machines;
        at = d.at;
        state = d.state;
        log = both_logs c.log d.log;
        is = ap (λ (r : Pass S). then_pass o r none go) c.is ∙ ap (after c.log) d.is;
        quiet = ap (λ fs. fs ++ d.log.faults) c.quiet ∙ d.quiet;
        along = d.along;
      }

  parted_comes : (to then_to : Side → Machine) (l : ℕ) (q : Pass S) (go : S → Pass S) → Comes to q
      → Later to go then_to → Comes then_to (parted o l q go)
  parted_comes to then_to l q go c next =
      let d = next c.machines c.at c.state c.along in
      record {
        machines = d.machines;
        at = d.at;
        state = d.state;
        log = (rejoined o l c.log (passed (Some d.state) none d.log)).log;
        is = ap (λ (r : Pass S). parted o l r go) c.is ∙ ap (rejoined o l c.log) d.is;
        quiet = ap (λ fs. fs ++ ((((d.log.faults ++ []) ++ []) ++ []) ++ [])) c.quiet
            ∙ ap (λ fs. (((fs ++ []) ++ []) ++ []) ++ []) d.quiet;
        along = d.along;
      }

  abbrev result : Option (ℕ × Scalar)
  result = result_in (slice_get p.functions p.main)

  simple_comes : (m : Mode) (l : ℕ) (w : Simple) → way_of w ≡ on → (ns : Side → Machine) (s : S)
      → GoesOnWith (Goes ns) (o.simple m g.main.result w s)
      → Comes ns (simple_pass (way_of w) l (o.simple m result w s))
  simple_comes m l w way ns s go = record {
    machines = ns;
    at = λ i. refl;
    state = go.state;
    log = logged [] 0 [];
    is = ap (λ k. simple_pass k l (o.simple m result w s)) way
        ∙ ap (λ (r : Option (ℕ × Scalar)). simple_pass on l (o.simple m r w s)) (ap result_in g.at)
        ∙ ap (simple_pass on l) go.is;
    quiet = refl;
    along = go.holds;
  }

  -- ---- rows of statements

  abbrev all_fit : Stmts → Type 0
  all_fit ss = stmts_fit p p.main (result_type p.blocks g.main.result) ss (frame_of g.main) false ≡ true

  chosen_fit : (t : Bool) (a b : Stmts) → all_fit a → all_fit b → all_fit (chosen_all t a b)
  chosen_fit true a b h i = h
  chosen_fit false a b h i = i

  module _ (u : ℕ) (heads : Heads S) (bodies : ℕ → (before : ℕ) → Mode → S → Pass S) where
    abbrev one_pass : What → (before : ℕ) → Mode → (line : ℕ) → S → Pass S
    one_pass w n m l s = pass o u heads ord p p.main bodies w n m l s

    abbrev pub row_pass : Stmts → (before : ℕ) → Mode → S → Ways S → Pass S
    row_pass ss n m s w = pass_all o u heads ord p p.main bodies ss n m s w

    -- ---- an arm, which is gone through on its machine alone

    alone_comes : (i : Side) (ss : Stmts) (n : ℕ) (ms : Side → Machine) (k : Machine) (s : S)
        → are_assignments ss ≡ true → all_fit ss → Goes ms s → moves (ord i) ss (ms i) ≡ Ok k
        → Comes (with_side i k ms) (row_pass ss n (One i) s none)
    alone_comes i stop n ms k s h fit a r = record {
      machines = ms;
      at = put_again i k ms (same_ok r);
      state = s;
      log = logged [] 0 [];
      is = refl;
      quiet = refl;
      along = a;
    }
    alone_comes i (then_more l (simple (assign what b e)) rest) n ms k s h fit a r =
        let forms = and_parts (is_moved_assignment what b e) (are_assignments rest) h in
        let fs = and_parts (simple_fits p p.main (result_type p.blocks g.main.result) (assign what b e)
        (frame_of g.main))
        (stmts_fit p p.main (result_type p.blocks g.main.result) rest (frame_of g.main) false) fit in
        let d = ok_parts (moves_what (ord i) (simple (assign what b e)) (ms i)) (moves (ord i) rest) k r in
        let first = one_pass (simple (assign what b e)) n (One i) l s in
        then_comes (with_side i d.0 ms) (with_side i k ms) first
        (row_pass rest (past heads n first) (One i))
        (simple_comes (One i) l (assign what b e) refl (with_side i d.0 ms) s
        (alone_step p formed g ord o Concretises law Moved keeps i what b e forms.0 fs.0 ms d.0 s a d.1))
        (λ ks at t b.
        come_to (with_side i k ks) (with_side i k ms) (row_pass rest (past heads n first) (One i) t none)
        (same_with i k ks ms (at (beside i) ∙ other_side i d.0 ms))
        (alone_comes i rest (past heads n first) ks k t forms.1 fs.1 b
        (ap (moves (ord i) rest) (at i ∙ own_side i d.0 ms) ∙ d.2)))
    alone_comes i (then_more l (simple nothing) rest) n ms k s h fit a r = never h
    alone_comes i (then_more l (simple (eval e)) rest) n ms k s h fit a r = never h
    alone_comes i (then_more l (simple (clear b ty)) rest) n ms k s h fit a r = never h
    alone_comes i (then_more l (simple (copy_aggregate b c ty)) rest) n ms k s h fit a r = never h
    alone_comes i (then_more l (simple (copy_bytes b c j)) rest) n ms k s h fit a r = never h
    alone_comes i (then_more l (simple (fill b e j)) rest) n ms k s h fit a r = never h
    alone_comes i (then_more l (simple (input t d)) rest) n ms k s h fit a r = never h
    alone_comes i (then_more l (simple (output t e)) rest) n ms k s h fit a r = never h
    alone_comes i (then_more l (simple (read_bytes e j)) rest) n ms k s h fit a r = never h
    alone_comes i (then_more l (simple (write_bytes e j)) rest) n ms k s h fit a r = never h
    alone_comes i (then_more l (simple (returns e)) rest) n ms k s h fit a r = never h
    alone_comes i (then_more l (call j es d) rest) n ms k s h fit a r = never h
    alone_comes i (then_more l (if_else e b c) rest) n ms k s h fit a r = never h
    alone_comes i (then_more l (loop first e b c) rest) n ms k s h fit a r = never h
    alone_comes i (then_more l break_loop rest) n ms k s h fit a r = never h
    alone_comes i (then_more l continue_loop rest) n ms k s h fit a r = never h
    alone_comes i (then_more l (by_order named b c) rest) n ms k s h fit a r = never h
    alone_comes i (then_more l (scope bs b) rest) n ms k s h fit a r = never h

    -- ---- a conditional by byte order

    arm_pass : (t : Bool) (a b : Stmts) (n : ℕ) (m : Mode) (s : S)
        → arm_of o t (λ m s. row_pass a n m s none) (λ m s. row_pass b n m s none) m s
        ≡ row_pass (chosen_all t a b) n m s none
    arm_pass true a b n m s = refl
    arm_pass false a b n m s = refl

    arm_comes : (i : Side) (named : Order) (a b : Stmts) (n : ℕ) (ms : Side → Machine) (k : Machine) (s : S)
        → are_assignments a ≡ true → are_assignments b ≡ true → all_fit a → all_fit b → Goes ms s
        → moves_what (ord i) (by_order named a b) (ms i) ≡ Ok k
        → Comes (with_side i k ms)
        (arm_of o (is_order (ord i) named) (λ m s. row_pass a n m s none) (λ m s. row_pass b n m s none) (One i) s)
    arm_comes i named a b n ms k s h j fit fits along r =
        let t = is_order (ord i) named in
        subst (Comes (with_side i k ms)) (sym (arm_pass t a b n (One i) s))
        (alone_comes i (chosen_all t a b) n ms k s (chosen_assigns t a b h j) (chosen_fit t a b fit fits) along
        (sym (chosen_moves t (ord i) a b (ms i)) ∙ r))

    order_comes : (l : ℕ) (named : Order) (a b : Stmts) (n : ℕ) (ms ks : Side → Machine) (s : S)
        → are_assignments a ≡ true → are_assignments b ≡ true → all_fit a → all_fit b → Goes ms s
        → ((i : Side) → moves_what (ord i) (by_order named a b) (ms i) ≡ Ok (ks i))
        → Comes ks (one_pass (by_order named a b) n Both l s)
    order_comes l named a b n ms ks s h j fit fits along r =
        parted_comes (with_side left (ks left) ms) ks l
        (arm_of o (is_order (ord left) named) (λ m s. row_pass a n m s none) (λ m s. row_pass b n m s none)
        (One left) s)
        (arm_of o (is_order (ord right) named) (λ m s. row_pass a n m s none) (λ m s. row_pass b n m s none)
        (One right))
        (arm_comes left named a b n ms (ks left) s h j fit fits along (r left))
        (λ ns at t later.
        come_to (with_side right (ks right) ns) ks
        (arm_of o (is_order (ord right) named) (λ m s. row_pass a n m s none) (λ m s. row_pass b n m s none)
        (One right) t)
        (after_both ns at)
        (arm_comes right named a b n ns (ks right) t h j fit fits later
        (ap (moves_what (ord right) (by_order named a b)) (at right) ∙ r right)))
      where
        after_both : (ns : Side → Machine) → ((i : Side) → ns i ≡ with_side left (ks left) ms i) → (i : Side)
            → with_side right (ks right) ns i ≡ ks i
        after_both ns at left = at left
        after_both ns at right = refl

    -- ---- main's statements, on both machines

    -- what was put out before the rest
    pub rest_keeps : (i : Side) (ss : Stmts) (m k : Machine) → are_moving p ss ≡ true → all_fit ss → moves (ord i) ss m ≡ Ok k
        → Kept (has_result p formed g).block m k
    rest_keeps i ss m k h fit r =
        all_kept p (frame_of g.main) (ord i) (has_result p formed g).block
        (λ c named e. result_unnamed p formed g (has_result p formed g) c named e) p.main
        (result_type p.blocks g.main.result) ss m k h fit r

    -- the machines put out the same in the end, so they do it after each statement
    same_after : (w : Simple) (rest : Stmts) (ms ks to : Side → Machine) (s : S) → is_moving_simple p w ≡ true
        → fits p formed g ord o Concretises law Moved keeps w → are_moving p rest ≡ true → all_fit rest
        → Goes ms s → ((i : Side) → does (ord i) w (ms i) ≡ Ok (ks i))
        → ((i : Side) → moves (ord i) rest (ks i) ≡ Ok (to i)) → (to left).outputs ≡ (to right).outputs
        → (ks left).outputs ≡ (ks right).outputs
    same_after w rest ms ks to s h fit i rest_fit along r later same =
        let one = (counts p formed g ord o Concretises law Moved keeps left w h fit ms s (ks left) along
        (r left)).1 in
        let two = (counts p formed g ord o Concretises law Moved keeps right w h fit ms s (ks right) along
        (r right)).1 in
        same_beginning (ks left).outputs (ks right).outputs (to left).outputs (to right).outputs
        (rest_keeps left rest (ks left) (to left) i rest_fit (later left)).outputs
        (rest_keeps right rest (ks right) (to right) i rest_fit (later right)).outputs same
        (one ∙ ap (λ os. length os + put_out_by_simple w) along.outputs ∙ sym two)

    what_comes : (w : What) (l : ℕ) (rest : Stmts) (n : ℕ) (ms ks to : Side → Machine) (s : S)
        → is_moving_what p w ≡ true
        → what_fits p p.main (result_type p.blocks g.main.result) w (frame_of g.main) false ≡ true
        → are_moving p rest ≡ true → all_fit rest → Goes ms s
        → ((i : Side) → moves_what (ord i) w (ms i) ≡ Ok (ks i))
        → ((i : Side) → moves (ord i) rest (ks i) ≡ Ok (to i)) → (to left).outputs ≡ (to right).outputs
        → Comes ks (one_pass w n Both l s)
    what_comes (simple w) l rest n ms ks to s h fit i rest_fit along r later same =
        simple_comes Both l w (way_on p w h) ks s
        (both_step p formed g ord o Concretises law Moved keeps w h fit ms ks s along r
        (same_after w rest ms ks to s h fit i rest_fit along r later same))
    what_comes (by_order named a b) l rest n ms ks to s h fit i rest_fit along r later same =
        let forms = and_parts (are_assignments a) (are_assignments b) h in
        let fs = and_parts (stmts_fit p p.main (result_type p.blocks g.main.result) a (frame_of g.main) false)
        (stmts_fit p p.main (result_type p.blocks g.main.result) b (frame_of g.main) false) fit in
        order_comes l named a b n ms ks s forms.0 forms.1 fs.0 fs.1
        along r
    what_comes (call j es d) l rest n ms ks to s h fit i rest_fit along r later same = never h
    what_comes (if_else e a b) l rest n ms ks to s h fit i rest_fit along r later same = never h
    what_comes (loop first e a b) l rest n ms ks to s h fit i rest_fit along r later same = never h
    what_comes break_loop l rest n ms ks to s h fit i rest_fit along r later same = never h
    what_comes continue_loop l rest n ms ks to s h fit i rest_fit along r later same = never h
    what_comes (scope bs a) l rest n ms ks to s h fit i rest_fit along r later same = never h

    pub row_comes : (ss : Stmts) (n : ℕ) (ms to : Side → Machine) (s : S) → are_moving p ss ≡ true → all_fit ss
        → Goes ms s → ((i : Side) → moves (ord i) ss (ms i) ≡ Ok (to i))
        → (to left).outputs ≡ (to right).outputs → Comes to (row_pass ss n Both s none)
    row_comes stop n ms to s h fit along r same = record {
      machines = ms;
      at = λ i. same_ok (r i);
      state = s;
      log = logged [] 0 [];
      is = refl;
      quiet = refl;
      along = along;
    }
    row_comes (then_more l w rest) n ms to s h fit along r same =
        let forms = and_parts (is_moving_what p w) (are_moving p rest) h in
        let fs = and_parts (what_fits p p.main (result_type p.blocks g.main.result) w (frame_of g.main) false)
        (stmts_fit p p.main (result_type p.blocks g.main.result) rest (frame_of g.main) false) fit in
        let d : (i : Side) → (k : Machine) × (moves_what (ord i) w (ms i) ≡ Ok k) × (moves (ord i) rest k ≡ Ok (to i))
        = λ i. ok_parts (moves_what (ord i) w (ms i)) (moves (ord i) rest) (to i) (r i) in
        let ks : Side → Machine = λ i. (d i).0 in
        let first = one_pass w n Both l s in
        then_comes ks to first (row_pass rest (past heads n first) Both)
        (what_comes w l rest n ms ks to s forms.0 fs.0 forms.1 fs.1 along (λ i. (d i).1)
        (λ i. (d i).2) same)
        (λ ns at t later.
        row_comes rest (past heads n first) ns to t forms.1 fs.1 later
        (λ i. ap (moves (ord i) rest) (at i) ∙ (d i).2) same)
