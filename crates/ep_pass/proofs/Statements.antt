-- A pass that is quiet has the outcomes of both machines.
use Rattle.std.proofs.Common.{◌≡◌, ℕ, zero, suc, ◌≤◌, List, [], ◌++◌, refl, sym, subst, Option, Some, None, Bool}
use Rattle.ep_core.proofs.Operands.{callee_at}
use Rattle.std.proofs.Common.{true, false, ◌&&◌, slice_get, nat_eq}
use Rattle.std.proofs.lemmas.Bool.{and_parts}
use Rattle.ep_int.specs.declared.types.Order.{Order}
use Rattle.ep_core.specs.Program.{Expr, Dest, Simple, What, simple, call, if_else, loop, break_loop, continue_loop}
use Rattle.ep_core.specs.Program.{by_order, scope, Stmts, stop, more, Function, Program}
use Rattle.ep_core.specs.Exec.{State, Way, on, broken, continued, returned, Outcome, Going, uncounted, and_then}
use Rattle.ep_core.specs.Exec.{is_order, chosen, scope_left, result_in, callee_of, frame_of, without, value, does}
use Rattle.ep_core.specs.Exec.{received, call_of, exec, exec_all, body_of, bodies}
use Rattle.ep_core.specs.Runs.{Side, left, right, main_from, start}
use Rattle.ep_core.specs.WellFormed.{result_type, is_tested, are_plain, arguments_fit, takes_result, call_fits}
use Rattle.ep_core.specs.WellFormed.{simple_fits, what_fits, stmts_fit, is_well_formed}
use Rattle.ep_core.proofs.Grows.{Growing, leaves_grows, received_grows, all_grow, bodies_grow}
use Rattle.ep_core.proofs.Operands.{fits_at}
use Rattle.ep_core.proofs.Sorts.{three}
use Rattle.ep_pass.specs.States.{Mode, Both, One, Transfer, StateOps}
use Rattle.ep_pass.specs.Pass.{none, Pass, Heads, past, ends, branch, way_of, simple_pass, then_pass, rowed, leave_call}
use Rattle.ep_pass.specs.Pass.{scope_pass, call_pass, next_pass, agreed, apart, arm_of, pass, pass_all, body_pass}
use Rattle.ep_pass.specs.Pass.{bodies_pass, main_pass}
use Rattle.ep_pass.specs.Laws.{passes}
use Rattle.ep_pass.proofs.Outcomes.{with_next, IsCall, IsPlain, next_turn, loop_is, run_called, run_called_grows}
use Rattle.ep_pass.proofs.Outcomes.{next_grows, call_is, scope_call}
use Rattle.ep_pass.proofs.Text.{plain_part, bodies_call}
use Rattle.ep_pass.proofs.Sure.{Seen, Meets, meet_on, meet_none, MeetsAlone, meet_one, Sure}
use Rattle.ep_pass.proofs.Reaching.{no_alarms, IsQuiet, Keeps, seen_some, Alone, alone, Sound1, After1, Together}
use Rattle.ep_pass.proofs.Reaching.{both_leave, both_starved, Sound2, After2, then_keeps, then_front, next_front}
use Rattle.ep_pass.proofs.Reaching.{then_alone, rowed_alone, next_alone, scope_alone, leave_call_alone}
use Rattle.ep_pass.proofs.Reaching.{arm_alone, tested_alone, then_together, rowed_together, next_together}
use Rattle.ep_pass.proofs.Reaching.{scope_together, leave_call_together, arm_together, tested_together}
use Rattle.ep_pass.proofs.Reaching.{apart_together}
use Rattle.ep_pass.proofs.Turns.{one_loop}
use Rattle.ep_pass.proofs.Settling.{AreSound}
use Rattle.ep_pass.proofs.Rounds.{loop_together, Ahead}

pub quiet_simple : {S : Type 0} (k : Way) (l : ℕ) (g : Transfer S) → IsQuiet (simple_pass k l g) → g.faults ≡ []
quiet_simple on l g e = no_alarms l g.faults e
quiet_simple broken l g e = no_alarms l g.faults e
quiet_simple continued l g e = no_alarms l g.faults e
quiet_simple returned l g e = no_alarms l g.faults e

module _ (prog : Program) (formed : is_well_formed prog ≡ true) (ord : Side → Order) {S : Type 0} (o : StateOps S)
    (In : S → State → State → Type 0) (law : Sure prog ord o In) (u : ℕ) (heads : Heads S) where
  abbrev Passes : Type 0
  Passes = ℕ → (before : ℕ) → Mode → S → Pass S

  -- the number after a first part
  abbrev past_all : (here : ℕ) → Passes → Stmts → (before : ℕ) → Mode → S → ℕ
  past_all here ps a n m s = past heads n (pass_all o u heads ord prog here ps a n m s none)

  pub all_keep : (here : ℕ) (ps : Passes) (m : Mode) (ss : Stmts) (n : ℕ)
      → Keeps In (pass_all o u heads ord prog here ps ss n m)
  all_keep here ps m stop n s w k x y i = i
  all_keep here ps m (more l a rest) n s w k x y i =
      let p = pass o u heads ord prog here ps a n m l s in
      then_keeps prog ord o In law p (pass_all o u heads ord prog here ps rest (past heads n p) m)
      (all_keep here ps m rest (past heads n p)) w k x y i

  module _ (b : Side → ℕ) where
    -- ---- one side

    simple_one : (m : Side) (k : Way) (l : ℕ) (g : Transfer S) (y : State) (c : Outcome)
        → MeetsAlone In m k g.next (b m) y c → Alone In b m (simple_pass k l g) y c
    simple_one m on l g y c (meet_one {x} i) = alone on i
    simple_one m broken l g y c (meet_one {x} i) = alone broken i
    simple_one m continued l g y c (meet_one {x} i) = alone continued i
    simple_one m returned l g y c (meet_one {x} i) = alone returned i

    chosen_alone : (m : Side) (t : Bool) (p q : Mode → S → Pass S) (f f' : Going) → Sound1 In b m (p (One m)) f
        → Sound1 In b m (q (One m)) f' → Sound1 In b m (arm_of o t p q (One m)) (chosen t f f')
    chosen_alone m true p q f f' h k = h
    chosen_alone m false p q f f' h k = k

    -- statements of one function
    module _ (m : Side) (le : u ≤ b m) (here : ℕ) (fn : Function) (at_here : slice_get prog.functions here ≡ Some fn)
        (ps : Passes) (bs : ℕ → Going) (known : (i n : ℕ) → Sound1 In b m (ps i n (One m)) (bs i))
        (calls : (i n : ℕ) (x : State) → IsCall (bs i n x)) where
      abbrev own : Option ℕ
      own = result_type prog.blocks fn.result

      abbrev one : What → (before : ℕ) → (line : ℕ) → S → Pass S
      one w n l s = pass o u heads ord prog here ps w n (One m) l s

      abbrev one_all : Stmts → (before : ℕ) → Mode → S → Pass S
      one_all a n t s = pass_all o u heads ord prog here ps a n t s none

      abbrev does_one : What → ℕ → Going
      does_one w l = exec (ord m) prog uncounted here bs w l

      abbrev does_all : Stmts → Going
      does_all ss = exec_all (ord m) prog uncounted here bs ss

      call_alone : (k n : ℕ) (es : List Expr) (d : Option Dest) (seen : List ℕ) (l : ℕ) (s : S) (x y : State)
          → Seen In m s x y → (g : Option Function) → callee_of prog here k ≡ g
          → call_fits prog here own g es d seen ≡ true → IsQuiet (call_pass o g (One m) es d l (ps k n (One m)) s)
          → Alone In b m (call_pass o g (One m) es d l (ps k n (One m)) s) y
          (call_of (ord m) prog g (bs k) es d l (b m) x)
      call_alone k n es d seen l s x y i None e fits q = absurd cc
      call_alone k n es d seen l s x y i (Some f) e fits q =
          let t = and_parts (arguments_fit prog.types prog.blocks seen f.params es)
          (takes_result prog.types prog.blocks seen (result_type prog.blocks f.result) d) fits in
          let c = callee_at prog here k f e in
          let a = simple_pass on l (o.arguments (One m) f es s) in
          let inner = λ (s : S). leave_call o (scope_pass o (One m) (frame_of f) (ps k n (One m) s)) in
          let go1 = rowed o inner in
          let p = then_pass o a none go1 in
          let go2 = rowed o (λ (s : S). simple_pass on l (o.result (One m) f d s)) in
          let q1 = then_front prog ord o In law p none go2 q in
          subst (Alone In b m (then_pass o p none go2) y) (sym (call_is (ord m) prog f (bs k) es d l (b m) x))
          (then_alone prog ord o In law b m p none go2 y
          (and_then (passes (ord m) prog f es l (b m) x) (run_called f (bs k))) (received (ord m) prog f.result d l)
          (λ s w x y i q. rowed_alone prog ord o In law b m (simple_pass on l (o.result (One m) f d s)) w y _ refl
          (simple_one m on l (o.result (One m) f d s) y _
          (law.result_alone m k f c d seen t.1 l (b m) s x y i (no_alarms l _ q))))
          (λ s w k x y i. i) q
          (then_alone prog ord o In law b m a none go1 y (passes (ord m) prog f es l (b m) x) (run_called f (bs k))
          (λ s w x y i q. rowed_alone prog ord o In law b m (inner s) w y _ refl
          (leave_call_alone prog ord o In law b m (scope_pass o (One m) (frame_of f) (ps k n (One m) s)) y
          (scope_left (frame_of f) (bs k (b m) x)) (scope_call (frame_of f) (bs k (b m) x) (calls k (b m) x))
          (scope_alone prog ord o In law b m (frame_of f) (ps k n (One m) s) y (bs k (b m) x) (known k n s x y i q))))
          (λ s w k x y i. i) q1
          (simple_one m on l (o.arguments (One m) f es s) y _
          (law.arguments_alone m k f c es seen t.0 l (b m) s x y i
          (no_alarms l _ (then_front prog ord o In law a none go1 q1))))))

      simple_alone : (w : Simple) (seen : List ℕ) → simple_fits prog here own w seen ≡ true → (n l : ℕ) (s : S)
          (x y : State) → Seen In m s x y → IsQuiet (one (simple w) n l s)
          → Alone In b m (one (simple w) n l s) y (does_one (simple w) l (b m) x)
      simple_alone w seen fits n l s x y i =
          subst
          (λ g. IsQuiet (simple_pass (way_of w) l (o.simple (One m) (result_in g) w s))
          → Alone In b m (simple_pass (way_of w) l (o.simple (One m) (result_in g) w s)) y
          (does (ord m) prog uncounted (result_in g) w l (b m) x)) (sym at_here)
          (λ q. simple_one m (way_of w) l (o.simple (One m) fn.result w s) y _
          (law.simple_alone m here fn at_here w seen fits l (b m) s x y i (quiet_simple (way_of w) l _ q)))

      mutual
        pub alone_pass : (w : What) (seen : List ℕ) (j : Bool) → what_fits prog here own w seen j ≡ true → (n l : ℕ)
            → Sound1 In b m (one w n l) (does_one w l)
        alone_pass (simple w) seen j fits n l s x y i q = simple_alone w seen fits n l s x y i q
        alone_pass (call k es d) seen j fits n l s x y i q =
            call_alone k n es d seen l s x y i (callee_of prog here k) refl fits q
        alone_pass (if_else e a c) seen j fits n l s x y i q =
            let t = three (is_tested prog.types prog.blocks seen e) (stmts_fit prog here own a seen j)
            (stmts_fit prog here own c seen j) fits in
            let k = past heads n (branch (agreed o (One m) e true s) (one_all a n (One m))) in
            tested_alone prog ord o In law b (ends []) m e (record { seen = seen; fits = t.0 }) l (one_all a n (One m))
            (apart o l (one_all a n) (one_all c n)) (apart o l (one_all c n) (one_all a n)) (one_all c k (One m))
            (does_all a) (does_all c) (λ s x y i q. alone_all a seen j t.1 n s none x y i q)
            (λ s x y i q. alone_all c seen j t.2 k s none x y i q) s x y i q
        alone_pass (loop first e a c) seen j fits n l s x y i q =
            let t = three (is_tested prog.types prog.blocks seen e) (stmts_fit prog here own a seen true)
            (are_plain c && stmts_fit prog here own c seen j) fits in
            let r = and_parts (are_plain c) (stmts_fit prog here own c seen j) t.2 in
            let plain : (n : ℕ) (x : State) → IsPlain (does_all c n x)
            = plain_part (ord m) prog uncounted here bs own c seen j r.0 r.1 in
            let f = with_next (does_all a) (does_all c) in
            let body = λ (n : ℕ) (t : Mode) (s : S).
            next_pass o (one_all a n t s) (one_all c (past_all here ps a n t s) t) in
            let k = λ (s : S). past_all here ps a n (One m) s in
            subst (Alone In b m (one (loop first e a c) n l s) y)
            (sym (loop_is (value (ord m) prog e) l (does_all a) (does_all c) plain first (suc (b m)) (b m) x))
            (one_loop prog ord o In law b u heads l e (record { seen = seen; fits = t.0 }) body n m f
            (λ s x y i q. next_alone prog ord o In law b m (one_all a n (One m) s) (one_all c (k s) (One m)) y
            (does_all a (b m) x) (does_all c) (λ t x y i q. alone_all c seen j r.1 (k s) t none x y i q) plain q
            (alone_all a seen true t.1 n s none x y i
            (next_front prog ord o In law (one_all a n (One m) s) (one_all c (k s) (One m)) q)))
            (next_turn (does_all a) (does_all c) plain) first le s x y i q)
        alone_pass break_loop seen j fits n l s x y i q = alone broken (seen_some In m s x y i)
        alone_pass continue_loop seen j fits n l s x y i q = alone continued (seen_some In m s x y i)
        alone_pass (by_order named a c) seen j fits n l s x y i q =
            let t = and_parts (stmts_fit prog here own a seen j) (stmts_fit prog here own c seen j) fits in
            arm_alone prog ord o In law b m x.joint_tests (one (by_order named a c) n l s) y _
            (chosen_alone m (is_order (ord m) named) (one_all a n) (one_all c n) (does_all a) (does_all c)
            (λ s x y i q. alone_all a seen j t.0 n s none x y i q)
            (λ s x y i q. alone_all c seen j t.1 n s none x y i q) s x y i q)
        alone_pass (scope bs a) seen j fits n l s x y i q =
            scope_alone prog ord o In law b m bs (one_all a n (One m) (o.enter (One m) bs s)) y _
            (alone_all a (bs ++ seen) j fits n (o.enter (One m) bs s) none (without bs x) y (law.enter_alone m bs s x y i)
            q)

        pub alone_all : (ss : Stmts) (seen : List ℕ) (j : Bool) → stmts_fit prog here own ss seen j ≡ true
            → (n : ℕ) → After1 In b m (pass_all o u heads ord prog here ps ss n (One m)) (does_all ss)
        alone_all stop seen j fits n s w x y i q = alone on (seen_some In m s x y i)
        alone_all (more l a rest) seen j fits n s w x y i q =
            let t = and_parts (what_fits prog here own a seen j) (stmts_fit prog here own rest seen j) fits in
            let p = one a n l s in
            let k = past heads n p in
            let go = pass_all o u heads ord prog here ps rest k (One m) in
            then_alone prog ord o In law b m p w go y (does_one a l (b m) x) (does_all rest)
            (alone_all rest seen j t.1 k) (all_keep here ps (One m) rest k) q
            (alone_pass a seen j t.0 n l s x y i (then_front prog ord o In law p w go q))

    -- ---- both sides

    module _ (slow : Side) where
      abbrev Tog : Pass S → Outcome → Outcome → Type 0
      Tog = Together In b slow

      simple_two : (k : Way) (l : ℕ) (g : Transfer S) (c d : Outcome) → Meets In k g.next (b left) (b right) c d
          → Tog (simple_pass k l g) c d
      simple_two on l g c d (meet_on {x} {y} i) = both_leave on i
      simple_two on l g c d (meet_none {x} {y} e) = both_starved e
      simple_two broken l g c d (meet_on {x} {y} i) = both_leave broken i
      simple_two broken l g c d (meet_none {x} {y} e) = both_starved e
      simple_two continued l g c d (meet_on {x} {y} i) = both_leave continued i
      simple_two continued l g c d (meet_none {x} {y} e) = both_starved e
      simple_two returned l g c d (meet_on {x} {y} i) = both_leave returned i
      simple_two returned l g c d (meet_none {x} {y} e) = both_starved e

      -- what is known of each function
      pub record Known (ps : Passes) (bs : Side → ℕ → Going) : Type 0 where
        pub grows : (m : Side) (i : ℕ) → Growing (bs m i)
        pub calls : (m : Side) (i n : ℕ) (x : State) → IsCall (bs m i n x)
        pub one : (m : Side) (i n : ℕ) → Sound1 In b m (ps i n (One m)) (bs m i)
        pub both : (i n : ℕ) → Sound2 In b slow (ps i n Both) (bs left i) (bs right i)

      module _ (headed : AreSound In heads) (ahead : Ahead u slow (suc (b left)) (suc (b right)))
          (le : (m : Side) → u ≤ b m) where
        module _ (here : ℕ) (fn : Function) (at_here : slice_get prog.functions here ≡ Some fn) (ps : Passes)
            (bs : Side → ℕ → Going) (known : Known ps bs) where
          abbrev kind : Option ℕ
          kind = result_type prog.blocks fn.result

          abbrev runs : Stmts → Side → Going
          runs a m = exec_all (ord m) prog uncounted here (bs m) a

          abbrev goes : Stmts → (before : ℕ) → Mode → S → Pass S
          goes a n m s = pass_all o u heads ord prog here ps a n m s none

          abbrev two : What → (before : ℕ) → (line : ℕ) → S → Pass S
          two w n l s = pass o u heads ord prog here ps w n Both l s

          abbrev runs_one : What → ℕ → Side → Going
          runs_one w l m = exec (ord m) prog uncounted here (bs m) w l

          each_alone : (a : Stmts) (seen : List ℕ) (j : Bool) → stmts_fit prog here kind a seen j ≡ true → (n : ℕ)
              (m : Side) → Sound1 In b m (goes a n (One m)) (runs a m)
          each_alone a seen j fits n m s x y i q =
              alone_all m (le m) here fn at_here ps (bs m) (known.one m) (known.calls m) a seen j fits n s none x y i q

          run_grows : (a : Stmts) (m : Side) → Growing (runs a m)
          run_grows a m = all_grow (ord m) prog uncounted here (bs m) (known.grows m) a

          call_two : (k n : ℕ) (es : List Expr) (d : Option Dest) (seen : List ℕ) (l : ℕ) (s : S) (x y : State)
              → In s x y → (g : Option Function) → callee_of prog here k ≡ g
              → call_fits prog here kind g es d seen ≡ true → IsQuiet (call_pass o g Both es d l (ps k n Both) s)
              → Tog (call_pass o g Both es d l (ps k n Both) s)
              (call_of (ord left) prog g (bs left k) es d l (b left) x)
              (call_of (ord right) prog g (bs right k) es d l (b right) y)
          call_two k n es d seen l s x y i None e fits q = absurd cc
          call_two k n es d seen l s x y i (Some f) e fits q =
              let t = and_parts (arguments_fit prog.types prog.blocks seen f.params es)
              (takes_result prog.types prog.blocks seen (result_type prog.blocks f.result) d) fits in
              let c = callee_at prog here k f e in
              let a = simple_pass on l (o.arguments Both f es s) in
              let inner = λ (s : S). leave_call o (scope_pass o Both (frame_of f) (ps k n Both s)) in
              let go1 = rowed o inner in
              let p = then_pass o a none go1 in
              let go2 = rowed o (λ (s : S). simple_pass on l (o.result Both f d s)) in
              let q1 = then_front prog ord o In law p none go2 q in
              let on_left = call_is (ord left) prog f (bs left k) es d l (b left) x in
              let on_right = call_is (ord right) prog f (bs right k) es d l (b right) y in
              subst (λ z. Tog (then_pass o p none go2) z
              (call_of (ord right) prog (Some f) (bs right k) es d l (b right) y))
              (sym on_left)
              (subst (Tog (then_pass o p none go2) _) (sym on_right)
              (then_together prog ord o In law b slow p none go2
              (and_then (passes (ord left) prog f es l (b left) x) (run_called f (bs left k)))
              (and_then (passes (ord right) prog f es l (b right) y) (run_called f (bs right k)))
              (received (ord left) prog f.result d l) (received (ord right) prog f.result d l)
              (received_grows (ord left) prog f.result d l) (received_grows (ord right) prog f.result d l)
              (λ s w x y i q. rowed_together prog ord o In law b slow (simple_pass on l (o.result Both f d s)) w _ _
              refl
              (simple_two on l (o.result Both f d s) _ _
              (law.result_sound k f c d seen t.1 l (b left) (b right) s x y i (no_alarms l _ q))))
              (λ s w k x y i. i) q
              (then_together prog ord o In law b slow a none go1 (passes (ord left) prog f es l (b left) x)
              (passes (ord right) prog f es l (b right) y) (run_called f (bs left k)) (run_called f (bs right k))
              (run_called_grows f (bs left k) (known.grows left k))
              (run_called_grows f (bs right k) (known.grows right k))
              (λ s w x y i q. rowed_together prog ord o In law b slow (inner s) w _ _ refl
              (leave_call_together prog ord o In law b slow (scope_pass o Both (frame_of f) (ps k n Both s))
              (scope_left (frame_of f) (bs left k (b left) x)) (scope_left (frame_of f) (bs right k (b right) y))
              (scope_call (frame_of f) (bs left k (b left) x) (known.calls left k (b left) x))
              (scope_together prog ord o In law b slow (frame_of f) (ps k n Both s) _ _ (known.both k n s x y i q))))
              (λ s w k x y i. i) q1
              (simple_two on l (o.arguments Both f es s) _ _
              (law.arguments_sound k f c es seen t.0 l (b left) (b right) s x y i
              (no_alarms l _ (then_front prog ord o In law a none go1 q1)))))))

          simple_both : (w : Simple) (seen : List ℕ) → simple_fits prog here kind w seen ≡ true → (n l : ℕ) (s : S)
              (x y : State) → In s x y → IsQuiet (two (simple w) n l s)
              → Tog (two (simple w) n l s) (runs_one (simple w) l left (b left) x)
              (runs_one (simple w) l right (b right) y)
          simple_both w seen fits n l s x y i =
              subst
              (λ g. IsQuiet (simple_pass (way_of w) l (o.simple Both (result_in g) w s))
              → Tog (simple_pass (way_of w) l (o.simple Both (result_in g) w s))
              (does (ord left) prog uncounted (result_in g) w l (b left) x)
              (does (ord right) prog uncounted (result_in g) w l (b right) y)) (sym at_here)
              (λ q. simple_two (way_of w) l (o.simple Both fn.result w s) _ _
              (law.simple_sound here fn at_here w seen fits l (b left) (b right) s x y i
              (quiet_simple (way_of w) l _ q)))

          mutual
            pub sound_pass : (w : What) (seen : List ℕ) (j : Bool) → what_fits prog here kind w seen j ≡ true
                → (n l : ℕ) → Sound2 In b slow (two w n l) (runs_one w l left) (runs_one w l right)
            sound_pass (simple w) seen j fits n l s x y i q = simple_both w seen fits n l s x y i q
            sound_pass (call k es d) seen j fits n l s x y i q =
                call_two k n es d seen l s x y i (callee_of prog here k) refl fits q
            sound_pass (if_else e a c) seen j fits n l s x y i q =
                let t = three (is_tested prog.types prog.blocks seen e) (stmts_fit prog here kind a seen j)
                (stmts_fit prog here kind c seen j) fits in
                let k = past heads n (branch (agreed o Both e true s) (goes a n Both)) in
                tested_together prog ord o In law b slow (ends []) e (record { seen = seen; fits = t.0 }) l
                (goes a n Both)
                (apart o l (goes a n) (goes c n)) (apart o l (goes c n) (goes a n)) (goes c k Both) (runs a left)
                (runs c left) (runs a right) (runs c right) (λ s x y i q. sound_all a seen j t.1 n s none x y i q)
                (apart_together prog ord o In law b slow l (goes a n) (goes c n) (runs a left) (runs c right)
                (each_alone a seen j t.1 n left) (each_alone c seen j t.2 n right))
                (apart_together prog ord o In law b slow l (goes c n) (goes a n) (runs c left) (runs a right)
                (each_alone c seen j t.2 n left) (each_alone a seen j t.1 n right))
                (λ s x y i q. sound_all c seen j t.2 k s none x y i q) s x y i q
            sound_pass (loop first e a c) seen j fits n l s x y i q =
                let t = three (is_tested prog.types prog.blocks seen e) (stmts_fit prog here kind a seen true)
                (are_plain c && stmts_fit prog here kind c seen j) fits in
                let r = and_parts (are_plain c) (stmts_fit prog here kind c seen j) t.2 in
                let plain : (m : Side) (n : ℕ) (x : State) → IsPlain (runs c m n x)
                = λ m. plain_part (ord m) prog uncounted here (bs m) kind c seen j r.0 r.1 in
                let f : Side → Going = λ m. with_next (runs a m) (runs c m) in
                let body = λ (n : ℕ) (m : Mode) (s : S).
                next_pass o (goes a n m s) (goes c (past_all here ps a n m s) m) in
                let on_left = loop_is (value (ord left) prog e) l (runs a left) (runs c left) (plain left) first
                (suc (b left)) (b left) x in
                let on_right = loop_is (value (ord right) prog e) l (runs a right) (runs c right) (plain right) first
                (suc (b right)) (b right) y in
                subst (λ z. Tog (two (loop first e a c) n l s) z (runs_one (loop first e a c) l right (b right) y))
                (sym on_left)
                (subst (Tog (two (loop first e a c) n l s) _) (sym on_right)
                (loop_together prog ord o In law b slow u heads headed l e (record { seen = seen; fits = t.0 }) body
                (f left) (f right) (next_grows (runs a left) (runs c left) (run_grows a left) (run_grows c left))
                (next_grows (runs a right) (runs c right) (run_grows a right) (run_grows c right))
                (next_turn (runs a left) (runs c left) (plain left))
                (next_turn (runs a right) (runs c right) (plain right))
                (λ n s x y i q. next_together prog ord o In law b slow (goes a n Both s)
                (goes c (past_all here ps a n Both s) Both) (runs a left (b left) x)
                (runs a right (b right) y) (runs c left) (runs c right) (run_grows c left) (run_grows c right)
                (λ t x y i q. sound_all c seen j r.1 (past_all here ps a n Both s) t none x y i q) (plain left) q
                (sound_all a seen true t.1 n s none x y i
                (next_front prog ord o In law (goes a n Both s) (goes c (past_all here ps a n Both s) Both) q)))
                (λ n. turn_alone a c seen j t.1 r.1 n left (plain left))
                (λ n. turn_alone a c seen j t.1 r.1 n right (plain right)) n first ahead s x y i q))
              where
                turn_alone : (a c : Stmts) (seen : List ℕ) (j : Bool) → stmts_fit prog here kind a seen true ≡ true
                    → stmts_fit prog here kind c seen j ≡ true → (n : ℕ) (m : Side)
                    → ((n : ℕ) (x : State) → IsPlain (runs c m n x))
                    → Sound1 In b m
                    (λ s. next_pass o (goes a n (One m) s) (goes c (past_all here ps a n (One m) s) (One m)))
                    (with_next (runs a m) (runs c m))
                turn_alone a c seen j h k n m plain s x y i q =
                    let z = past_all here ps a n (One m) s in
                    next_alone prog ord o In law b m (goes a n (One m) s) (goes c z (One m)) y (runs a m (b m) x)
                    (runs c m) (each_alone c seen j k z m) plain q
                    (each_alone a seen true h n m s x y i
                    (next_front prog ord o In law (goes a n (One m) s) (goes c z (One m)) q))
            sound_pass break_loop seen j fits n l s x y i q = both_leave broken i
            sound_pass continue_loop seen j fits n l s x y i q = both_leave continued i
            sound_pass (by_order named a c) seen j fits n l s x y i q =
                let t = and_parts (stmts_fit prog here kind a seen j) (stmts_fit prog here kind c seen j) fits in
                let at : Side → Bool = λ m. is_order (ord m) named in
                arm_together prog ord o In law b slow x.joint_tests y.joint_tests (two (by_order named a c) n l s) _ _
                (apart_together prog ord o In law b slow l (arm_of o (at left) (goes a n) (goes c n))
                (arm_of o (at right) (goes a n) (goes c n)) (chosen (at left) (runs a left) (runs c left))
                (chosen (at right) (runs a right) (runs c right))
                (chosen_alone left (at left) (goes a n) (goes c n) (runs a left) (runs c left)
                (each_alone a seen j t.0 n left)
                (each_alone c seen j t.1 n left))
                (chosen_alone right (at right) (goes a n) (goes c n) (runs a right) (runs c right)
                (each_alone a seen j t.0 n right) (each_alone c seen j t.1 n right)) s x y i q)
            sound_pass (scope xs a) seen j fits n l s x y i q =
                scope_together prog ord o In law b slow xs (goes a n Both (o.enter Both xs s)) _ _
                (sound_all a (xs ++ seen) j fits n (o.enter Both xs s) none (without xs x) (without xs y)
                (law.enter_in xs s x y i) q)

            pub sound_all : (ss : Stmts) (seen : List ℕ) (j : Bool) → stmts_fit prog here kind ss seen j ≡ true
                → (n : ℕ) → After2 In b slow (pass_all o u heads ord prog here ps ss n Both) (runs ss left)
                (runs ss right)
            sound_all stop seen j fits n s w x y i q = both_leave on i
            sound_all (more l a rest) seen j fits n s w x y i q =
                let t = and_parts (what_fits prog here kind a seen j) (stmts_fit prog here kind rest seen j) fits in
                let p = two a n l s in
                let k = past heads n p in
                let go = pass_all o u heads ord prog here ps rest k Both in
                then_together prog ord o In law b slow p w go (runs_one a l left (b left) x)
                (runs_one a l right (b right) y) (runs rest left) (runs rest right) (run_grows rest left)
                (run_grows rest right) (sound_all rest seen j t.1 k) (all_keep here ps Both rest k) q
                (sound_pass a seen j t.0 n l s x y i (then_front prog ord o In law p w go q))

        -- ---- functions, callees first

        body_alone : (m : Side) (f : Option Function) (here : ℕ) → slice_get prog.functions here ≡ f → (ps : Passes)
            (bs : Side → ℕ → Going) → Known ps bs
            → (n : ℕ) → Sound1 In b m (body_pass o u heads ord prog f here ps n (One m))
            (body_of (ord m) prog uncounted f here (bs m))
        body_alone m None here e ps bs known n s x y i q = alone on (seen_some In m s x y i)
        body_alone m (Some f) here e ps bs known n s x y i q =
            alone_all m (le m) here f e ps (bs m) (known.one m) (known.calls m) f.body (frame_of f) false
            (fits_at prog formed here f e).2 n s none x y i q

        pub body_two : (f : Option Function) (here : ℕ) → slice_get prog.functions here ≡ f → (ps : Passes)
            (bs : Side → ℕ → Going) → Known ps bs
            → (n : ℕ) → Sound2 In b slow (body_pass o u heads ord prog f here ps n Both)
            (body_of (ord left) prog uncounted f here (bs left)) (body_of (ord right) prog uncounted f here (bs right))
        body_two None here e ps bs known n s x y i q = both_leave on i
        body_two (Some f) here e ps bs known n s x y i q =
            sound_all here f e ps bs known f.body (frame_of f) false (fits_at prog formed here f e).2 n s none x y i q

        chosen_two : (t : Bool) (p q : Mode → S → Pass S) (f f' g g' : Going) → Sound2 In b slow (p Both) f g
            → Sound2 In b slow (q Both) f' g' → Sound2 In b slow (arm_of o t p q Both) (chosen t f f') (chosen t g g')
        chosen_two true p q f f' g g' h k = h
        chosen_two false p q f f' g g' h k = k

        abbrev runs_before : ℕ → Side → ℕ → Going
        runs_before n m = bodies (ord m) prog uncounted n

        pub all_known : (n : ℕ) → Known (bodies_pass o u heads ord prog n) (runs_before n)
        all_known zero = record {
          grows = λ m i. leaves_grows on;
          calls = λ m i n x. tt;
          one = λ m i k s x y j q. alone on (seen_some In m s x y j);
          both = λ i k s x y j q. both_leave on j;
        }
        all_known (suc n) =
            let ps = bodies_pass o u heads ord prog n in
            let f = slice_get prog.functions n in
            let before = all_known n in
            record {
              grows = λ m i. bodies_grow (ord m) prog uncounted (suc n) i;
              calls = λ m i k x. bodies_call (ord m) prog uncounted formed (suc n) i k x;
              one = λ m i k. chosen_alone m (nat_eq i n) (body_pass o u heads ord prog f n ps k) (ps i k)
                  (body_of (ord m) prog uncounted f n (runs_before n m)) (runs_before n m i)
                  (body_alone m f n refl ps (runs_before n) before k) (before.one m i k);
              both = λ i k. chosen_two (nat_eq i n) (body_pass o u heads ord prog f n ps k) (ps i k)
                  (body_of (ord left) prog uncounted f n (runs_before n left)) (runs_before n left i)
                  (body_of (ord right) prog uncounted f n (runs_before n right)) (runs_before n right i)
                  (body_two f n refl ps (runs_before n) before k) (before.both i k);
            }

        -- main
        pub main_together : (inputs : List ℕ) → In o.entry (start (ord left) prog inputs)
            (start (ord right) prog inputs)
            → IsQuiet (main_pass o u heads ord prog)
            → Tog (main_pass o u heads ord prog) (main_from (ord left) prog uncounted inputs (b left))
            (main_from (ord right) prog uncounted inputs (b right))
        main_together inputs i q =
            body_two (slice_get prog.functions prog.main) prog.main refl (bodies_pass o u heads ord prog prog.main)
            (runs_before prog.main) (all_known prog.main) 0 o.entry (start (ord left) prog inputs)
            (start (ord right) prog inputs) i q
