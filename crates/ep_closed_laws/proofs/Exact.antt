-- Reports on closed programs whose runs agree are empty: the induction over the pass of both sides.
use Rattle.std.proofs.Common.{◌≡◌, ◌⊎◌, inl, inr, ℕ, zero, suc, ◌+◌, ◌≤◌, List, [], ◌∷◌, ◌++◌, refl, sym, subst, ap}
use Rattle.ep_core.proofs.Operands.{callee_at}
use Rattle.std.proofs.lemmas.Bool.{not-true, or_parts}
use Rattle.std.proofs.Common.{◌∙◌, Option, Some, None, Bool, true, false, not, ◌&&◌, ◌||◌, nat_eq, slice_get, arith}
use Rattle.std.proofs.Common.{map}
use Rattle.std.proofs.lemmas.Bool.{eqb-true, and_parts}
use Rattle.ep_int.specs.declared.types.Order.{Order}
use Rattle.ep_int.specs.Memory.{Found, has, faults}
use Rattle.ep_core.specs.Program.{Expr, Dest, What, simple, call, if_else, loop, break_loop, continue_loop, by_order}
use Rattle.ep_core.specs.Program.{scope, Stmts, stop, more, Function, Program}
use Rattle.ep_core.specs.Exec.{Output, State, Way, on, broken, continued, returned, Outcome, leaves, running}
use Rattle.ep_core.specs.Exec.{no_input, undefined_at, Going, uncounted, is_order, chosen, arm_left, frame_of}
use Rattle.ep_core.specs.Exec.{result_in, callee_of, without, value, does, call_of}
use Rattle.ep_core.specs.Runs.{Side, left, right, Begins}
use Rattle.ep_core.specs.Ways.{ways_of_all}
use Rattle.ep_core.specs.Laws.{IsAmong}
use Rattle.ep_core.specs.WellFormed.{is_tested, result_type, arguments_fit, takes_result, call_fits, are_plain}
use Rattle.ep_core.specs.WellFormed.{what_fits, stmts_fit, is_well_formed}
use Rattle.ep_core.proofs.Prefixes.{begins_more}
use Rattle.ep_core.proofs.Grows.{Growing}
use Rattle.ep_core.proofs.Operands.{fits_at}
use Rattle.ep_pass.specs.States.{Mode, Both, One, StateOps}
use Rattle.ep_pass.specs.Places.{may_differ}
use Rattle.ep_pass.specs.Pass.{none, Event, alarm_of, logged, Pass, branch, found_at, way_of, simple_pass, Heads, past}
use Rattle.ep_pass.specs.Pass.{agreed, tried, join_on, rowed, call_pass, all_faults}
use Rattle.ep_pass.specs.Pass.{next_pass, body_ends, apart, arm_of, loop_pass, pass, pass_all, body_pass, bodies_pass}
use Rattle.ep_kinds.specs.InOut.{is_input, is_talk, some_comes_to, bodies_come_to}
use Rattle.ep_kinds.specs.Closed.{is_closed_what, are_closed}
use Rattle.ep_kinds.specs.Steady.{are_quiet_arms, is_quiet_what, are_quiet}
use Rattle.ep_closed_laws.specs.Bounded.{visit, exec_in, all_in, body_in, bodies_in}
use Rattle.ep_pass.proofs.Outcomes.{body_end, with_next, loop_left}
use Rattle.ep_closed_laws.specs.Exactly.{SeenFrom, AreOverAlike, Exactly}
use Rattle.ep_pass.proofs.Outcomes.{IsCall, next_grows}
use Rattle.ep_closed_laws.proofs.WaysIn.{body_turn, all_among_in, plain_in, bodies_call_in}
use Rattle.ep_closed_laws.proofs.GrowsIn.{all_grow_in, bodies_grow_in, puts_out, does_adds}
use Rattle.ep_closed_laws.proofs.Alone.{Leaves, as_left, AloneOf, all_alone}
use Rattle.ep_int.specs.declared.types.Scalar.{Scalar}
use Rattle.ep_int.specs.Memory.{int, null, pointer, loaded}
use Rattle.ep_core.specs.Exec.{model, size_at, running}
use Rattle.ep_alarms.specs.Report.{gathered}
use Rattle.ep_core.specs.Runs.{Run, main_ends, result_out, line_of, finished, start, ended}
use Rattle.ep_closed_laws.specs.Bounded.{main_in, run_in}
use Rattle.ep_closed_laws.specs.BoundedLaws.{EndsAlike}
use Rattle.ep_closed_laws.proofs.WaysIn.{body_call_in}
use Rattle.ep_core.proofs.Prefixes.{begins_refl}
use Rattle.ep_pass.specs.Pass.{faults_at_end, report_of}
use Rattle.ep_kinds.specs.Closed.{each_function, is_closed_text}
use Rattle.ep_kinds.specs.Steady.{is_quiet}
use Rattle.ep_closed_laws.proofs.Alone.{then_alone, body_ends_alone, rowed_alone, bodies_alone}
use Rattle.ep_closed_laws.proofs.Both.{BothOf, then_both, body_ends_both, plain_both}
use Rattle.ep_closed_laws.proofs.Rules.{Rule, alike, quiet, Same, Tests}
use Rattle.ep_closed_laws.proofs.BothGiven.{gives_both}
use Rattle.ep_closed_laws.proofs.Codes.{TextIs, text_parts, text_true, same_way, taken_way}
use Rattle.ep_closed_laws.proofs.Codes.{arm_text, IsQuietRule, same_kept}
use Rattle.ep_closed_laws.proofs.Arms.{scope_both, WaysAgree, apart_both, arms_agree, call_both, arms_both, if_both}
use Rattle.ep_closed_laws.proofs.Arms.{loop_both}
use Rattle.ep_closed_laws.proofs.Enough.{AreEnough, enough_most, tried_kept}

module _ (p : Program) (ord : Side → Order) {S : Type 0} (o : StateOps S) (K : S → State → State → Type 0)
    (law : Exactly p ord o K) (rule : Rule) (os : List Output) where
  -- so many turns are unrolled, which is enough for machines that make no more than `most` of them
  module _ (u : ℕ) (heads : Heads S) (most : ℕ) (enough : AreEnough o heads most u) where
    module _ (here : ℕ) (f : Function) (at : slice_get p.functions here ≡ Some f) (ps : ℕ → (before : ℕ) → Mode → S → Pass S)
        (fs : Side → ℕ → Going) (ts : ℕ → Bool) (calls : (i : Side) (k n : ℕ) (x : State) → IsCall (fs i k n x))
        (grows : (i : Side) (k : ℕ) → Growing (fs i k))
        (alone : (i : Side) (k : ℕ) → ts k ≡ false → (g : Function) → slice_get p.functions k ≡ Some g
        → (before n : ℕ) (s : S) (x y : State) → SeenFrom K i s x y
        → AloneOf o K i (ps k before (One i) s) y (fs i k n x))
        (known : (k : ℕ) (g : Function) → slice_get p.functions k ≡ Some g → (before n m : ℕ) (s : S) (x y : State)
        → K s x y → Same rule x y → BothOf o K rule os (ps k before Both s) (fs left k n x) (fs right k m y)) where
      abbrev own : Option ℕ
      own = result_type p.blocks f.result

      abbrev arm : Stmts → (before : ℕ) → Mode → S → Pass S
      arm a before m s = pass_all o u heads ord p here ps a before m s none

      abbrev past_arm : Stmts → (before : ℕ) → Mode → S → ℕ
      past_arm a before m s = past heads before (arm a before m s)

      abbrev turn_body : Stmts → Stmts → (before : ℕ) → Mode → S → Pass S
      turn_body a b before m s = next_pass o (arm a before m s) (arm b (past_arm a before m s) m)

      abbrev run : Side → Stmts → Going
      run i a = all_in (ord i) p most here (fs i) a

      run_grows : (i : Side) (a : Stmts) → Growing (run i a)
      run_grows i a = all_grow_in (ord i) p most here (fs i) (grows i) a

      arm_alone : (i : Side) (a : Stmts) (seen : List ℕ) (t : Bool) → stmts_fit p here own a seen t ≡ true
          → some_comes_to is_talk ts a ≡ false → (before n : ℕ) (s : S) (x y : State) → SeenFrom K i s x y
          → AloneOf o K i (arm a before (One i) s) y (run i a n x)
      arm_alone i a seen t fits talks before n s x y h =
          all_alone p ord o K law i u heads most (enough_most o heads most u enough) here f at ps (fs i) ts (calls i)
          (alone i) a seen t fits talks before n s x y h

      arm_ways : (i : Side) (a : Stmts) (seen : List ℕ) (t : Bool) → stmts_fit p here own a seen t ≡ true → (n : ℕ)
          (x : State) → IsAmong (ways_of_all a) (run i a n x)
      arm_ways i a seen t fits n x = all_among_in (ord i) p most here (fs i) own a seen t fits n x

      called_both : (k : ℕ) (es : List Expr) (d : Option Dest) (seen : List ℕ) (before l n m : ℕ) (s : S)
          (x y : State) → K s x y → Same rule x y → (g : Option Function) → callee_of p here k ≡ g
          → call_fits p here own g es d seen ≡ true
          → BothOf o K rule os (call_pass o g Both es d l (ps k before Both) s) (call_of (ord left) p g
          (fs left k) es d l n x)
          (call_of (ord right) p g (fs right k) es d l m y)
      called_both k es d seen before l n m s x y h z None e fits = tt
      called_both k es d seen before l n m s x y h z (Some g) e fits =
          let q = and_parts (arguments_fit p.types p.blocks seen g.params es)
          (takes_result p.types p.blocks seen (result_type p.blocks g.result) d) fits in
          call_both p ord o K law rule os k g (callee_at p here k g e) es d seen q.0 q.1 l (ps k before Both)
          (λ i. fs i k) (λ i. grows i k) (known k g (callee_at p here k g e) before) (λ i. calls i k) n m s x y h z

      -- two arms of which one goes to each side
      split_both : (a b : Stmts) (seen : List ℕ) (t : Bool) → stmts_fit p here own a seen t ≡ true
          → stmts_fit p here own b seen t ≡ true → TextIs rule (are_quiet_arms ts a b) → IsQuietRule rule
          → (before l n m : ℕ) (s : S) (x y : State) → K s x y
          → BothOf o K rule os (apart o l (arm a before) (arm b before) s) (run left a n x) (run right b m y)
      split_both a b seen t fa fb text z before l n m s x y h =
          let q = and_parts (not (some_comes_to is_talk ts a || some_comes_to is_talk ts b))
          (not (may_differ (ways_of_all a) (ways_of_all b))) (text_true rule (are_quiet_arms ts a b) text z) in
          let v = or_parts (some_comes_to is_talk ts a) (some_comes_to is_talk ts b) (not-true _ q.0) in
          apart_both p ord o K law rule os (arm a before) (arm b before) l s y (run left a n x) (run right b m y)
          (λ k j e d. same_way (ways_of_all a) (ways_of_all b)
          (arms_agree p ord o K law rule os a b (not-true _ q.1) true false) k j
          (taken_way (ways_of_all a) (run left a n x) k (arm_ways left a seen t fa n x) e)
          (taken_way (ways_of_all b) (run right b m y) j (arm_ways right b seen t fb m y) d)) z
          (arm_alone left a seen t fa v.0 before n s x y h)
          (λ s x h. arm_alone right b seen t fb v.1 before m s y x h)

      split_back : (a b : Stmts) (seen : List ℕ) (t : Bool) → stmts_fit p here own a seen t ≡ true
          → stmts_fit p here own b seen t ≡ true → TextIs rule (are_quiet_arms ts a b) → IsQuietRule rule
          → (before l n m : ℕ) (s : S) (x y : State) → K s x y
          → BothOf o K rule os (apart o l (arm b before) (arm a before) s) (run left b n x) (run right a m y)
      split_back a b seen t fa fb text z before l n m s x y h =
          let q = and_parts (not (some_comes_to is_talk ts a || some_comes_to is_talk ts b))
          (not (may_differ (ways_of_all a) (ways_of_all b))) (text_true rule (are_quiet_arms ts a b) text z) in
          let v = or_parts (some_comes_to is_talk ts a) (some_comes_to is_talk ts b) (not-true _ q.0) in
          apart_both p ord o K law rule os (arm b before) (arm a before) l s y (run left b n x) (run right a m y)
          (λ k j e d. same_way (ways_of_all b) (ways_of_all a)
          (arms_agree p ord o K law rule os a b (not-true _ q.1) false true) k j
          (taken_way (ways_of_all b) (run left b n x) k (arm_ways left b seen t fb n x) e)
          (taken_way (ways_of_all a) (run right a m y) j (arm_ways right a seen t fa m y) d)) z
          (arm_alone left b seen t fb v.1 before n s x y h)
          (λ s x h. arm_alone right a seen t fa v.0 before m s y x h)

      -- by the order of each side
      order_both : (a b : Stmts) (seen : List ℕ) (t : Bool) → stmts_fit p here own a seen t ≡ true
          → stmts_fit p here own b seen t ≡ true → some_comes_to is_talk ts a ≡ false
          → some_comes_to is_talk ts b ≡ false → TextIs rule (are_quiet_arms ts a b)
          → (v w : Bool) (before l n m : ℕ) (s : S) (x y : State) → K s x y → Same rule x y
          → BothOf o K rule os
          (apart o l (arm_of o v (arm a before) (arm b before)) (arm_of o w (arm a before) (arm b before)) s)
          (arm_left x.joint_tests (chosen v (run left a) (run left b) n x))
          (arm_left y.joint_tests (chosen w (run right a) (run right b) m y))
      order_both a b seen t fa fb ta tb text v w before l n m s x y h z =
          arms_both p ord o K law rule os (arm_of o v (arm a before) (arm b before))
          (arm_of o w (arm a before) (arm b before)) l s x y
          (chosen v (run left a) (run left b) n x) (chosen w (run right a) (run right b) m y) z
          (λ r k j e d. agree r k j e d)
          (of_arm left v n s x y h)
          (λ s r q. of_arm right w m s y r q)
        where
          of_arm : (i : Side) (v : Bool) (n : ℕ) (s : S) (x y : State) → SeenFrom K i s x y
              → AloneOf o K i (arm_of o v (arm a before) (arm b before) (One i) s) y (chosen v (run i a) (run i b) n x)
          of_arm i true n s x y h = arm_alone i a seen t fa ta before n s x y h
          of_arm i false n s x y h = arm_alone i b seen t fb tb before n s x y h

          of_ways : (i : Side) (v : Bool) (n : ℕ) (x : State)
              → IsAmong (ways_of_all (arm_text v a b)) (chosen v (run i a) (run i b) n x)
          of_ways i true n x = arm_ways i a seen t fa n x
          of_ways i false n x = arm_ways i b seen t fb n x

          agree : IsQuietRule rule
              → WaysAgree p ord o K law rule os (chosen v (run left a) (run left b) n x) (chosen w (run right a)
              (run right b) m y)
          agree r k j e d =
              let q = and_parts (not (some_comes_to is_talk ts a || some_comes_to is_talk ts b))
              (not (may_differ (ways_of_all a) (ways_of_all b))) (text_true rule (are_quiet_arms ts a b) text r) in
              same_way (ways_of_all (arm_text v a b)) (ways_of_all (arm_text w a b))
              (arms_agree p ord o K law rule os a b (not-true _ q.1) v w) k j
              (taken_way (ways_of_all (arm_text v a b)) (chosen v (run left a) (run left b) n x) k
              (of_ways left v n x) e)
              (taken_way (ways_of_all (arm_text w a b)) (chosen w (run right a) (run right b) m y) j
              (of_ways right w m y) d)

      -- a loop, whose body is known of both
      loop_of : (first : Bool) (e : Expr) (a b : Stmts) (seen : List ℕ) (i : Bool) (l : ℕ)
          → is_tested p.types p.blocks seen e ≡ true → stmts_fit p here own a seen true ≡ true → are_plain b ≡ true
          → stmts_fit p here own b seen i ≡ true
          → TextIs rule (not (some_comes_to is_talk ts a || some_comes_to is_talk ts b))
          → TextIs rule (not (ways_of_all a).by_return)
          → ((before n m : ℕ) (s : S) (x y : State) → K s x y → Same rule x y
          → BothOf o K rule os (turn_body a b before Both s) (with_next (run left a) (run left b) n x)
          (with_next (run right a) (run right b) m y))
          → (before n m : ℕ) (s : S) (x y : State) → K s x y → Same rule x y
          → BothOf o K rule os (loop_pass o u heads l e (turn_body a b) before Both first s)
          (loop_left (visit (value (ord left) p e) l (with_next (run left a) (run left b)) first most n x))
          (loop_left (visit (value (ord right) p e) l (with_next (run right a) (run right b)) first most m y))
      loop_of first e a b seen i l typed fa plain fb talks returns body before n m s x y h z =
          loop_both p ord o K law rule os l e seen typed u heads most enough (turn_body a b)
          (λ i. with_next (run i a) (run i b)) (ways_of_all a).by_return
          (λ j n x. body_turn (ways_of_all a) (run j a n x) (run j b) (arm_ways j a seen true fa n x)
          (plain_in (ord j) p most here (fs j) own b seen i plain fb))
          (λ j. next_grows (run j a) (run j b) (run_grows j a) (run_grows j b)) body turn_one
          (λ q. not-true _ (text_true rule (not (ways_of_all a).by_return) returns q)) before first n m s x y h z
        where
          turn_one : IsQuietRule rule → (before : ℕ) (j : Side) (n : ℕ) (s : S) (x y : State) → SeenFrom K j s x y
              → AloneOf o K j (turn_body a b before (One j) s) y (with_next (run j a) (run j b) n x)
          turn_one q before j n s x y h =
              let v = or_parts (some_comes_to is_talk ts a) (some_comes_to is_talk ts b)
              (not-true _ (text_true rule (not (some_comes_to is_talk ts a || some_comes_to is_talk ts b)) talks q)) in
              let later = past_arm a before (One j) s in
              then_alone o K j (body_ends o (arm a before (One j) s)) y (body_end (run j a n x))
              (rowed o (arm b later (One j))) (run j b)
              (body_ends_alone o K j (arm a before (One j) s) y (run j a n x)
              (arm_alone j a seen true fa v.0 before n s x y h))
              (λ n s x h. rowed_alone o K j (arm b later (One j)) s y (run j b n x)
              (plain_in (ord j) p most here (fs j) own b seen i plain fb n x)
              (arm_alone j b seen i fb v.1 later n s x y h))

      mutual
        pass_both : (w : What) (seen : List ℕ) (i : Bool) → what_fits p here own w seen i ≡ true
            → is_closed_what ts w ≡ true → TextIs rule (is_quiet_what ts w)
            → (before l n m : ℕ) (s : S) (x y : State) → K s x y → Same rule x y
            → BothOf o K rule os (pass o u heads ord p here ps w before Both l s)
            (exec_in (ord left) p most here (fs left) w l n x) (exec_in (ord right) p most here (fs right) w l m y)
        pass_both (simple w) seen i fits closed text before l n m s x y h z =
            subst (λ g. BothOf o K rule os (simple_pass (way_of w) l (o.simple Both (result_in g) w s))
            (does (ord left) p uncounted (result_in g) w l n x) (does (ord right) p uncounted (result_in g) w l m y))
            (sym at)
            (gives_both o K rule os (way_of w) l (o.simple Both f.result w s) (puts_out w) x y
            (does (ord left) p uncounted f.result w l n x) (does (ord right) p uncounted f.result w l m y)
            (law.same_outputs s x y h) z (does_adds (ord left) p f.result w l n x)
            (does_adds (ord right) p f.result w l m y)
            (law.simple_both here f at w seen fits (not-true (is_input w) closed) l n m s x y h))
        pass_both (call k es d) seen i fits closed text before l n m s x y h z =
            called_both k es d seen before l n m s x y h z (callee_of p here k) refl fits
        pass_both (if_else e a b) seen i fits closed text before l n m s x y h z =
            let q = and_parts (is_tested p.types p.blocks seen e && stmts_fit p here own a seen i)
            (stmts_fit p here own b seen i) fits in
            let r = and_parts (is_tested p.types p.blocks seen e) (stmts_fit p here own a seen i) q.0 in
            let c = and_parts (are_closed ts a) (are_closed ts b) closed in
            let t = text_parts rule (are_quiet_arms ts a b) (are_quiet ts a && are_quiet ts b) text in
            let v = text_parts rule (are_quiet ts a) (are_quiet ts b) t.1 in
            let later = past heads before (branch (agreed o Both e true s) (arm a before Both)) in
            if_both p ord o K law rule os l e seen r.0 (arm a before Both) (apart o l (arm a before) (arm b before))
            (apart o l (arm b before) (arm a before)) (arm b later Both)
            (run left a) (run left b) (run right a) (run right b) (run_grows left a) (run_grows left b)
            (run_grows right a) (run_grows right b) n m s x y h z
            (λ s x y h z. all_both a seen i r.1 c.0 v.0 before n m s x y h z)
            (λ g s x y h. split_both a b seen i r.1 q.1 t.0 g before l n m s x y h)
            (λ g s x y h. split_back a b seen i r.1 q.1 t.0 g before l n m s x y h)
            (λ s x y h z. all_both b seen i q.1 c.1 v.1 later n m s x y h z)
        pass_both (loop first e a b) seen i fits closed text before l n m s x y h z =
            let q = and_parts (is_tested p.types p.blocks seen e && stmts_fit p here own a seen true)
            (are_plain b && stmts_fit p here own b seen i) fits in
            let r = and_parts (is_tested p.types p.blocks seen e) (stmts_fit p here own a seen true) q.0 in
            let v = and_parts (are_plain b) (stmts_fit p here own b seen i) q.1 in
            let c = and_parts (are_closed ts a) (are_closed ts b) closed in
            let t = text_parts rule (not (some_comes_to is_talk ts a || some_comes_to is_talk ts b))
            (not (ways_of_all a).by_return && (are_quiet ts a && are_quiet ts b)) text in
            let t1 = text_parts rule (not (ways_of_all a).by_return) (are_quiet ts a && are_quiet ts b) t.1 in
            let t2 = text_parts rule (are_quiet ts a) (are_quiet ts b) t1.1 in
            loop_of first e a b seen i l r.0 r.1 v.0 v.1 t.0 t1.0
            (λ before n m s x y h z. then_both o K rule os (body_ends o (arm a before Both s)) (body_end (run left a n x))
            (body_end (run right a m y)) (rowed o (arm b (past_arm a before Both s) Both)) (run left b) (run right b)
            (run_grows left b) (run_grows right b)
            (body_ends_both o K rule os (arm a before Both s) (run left a n x) (run right a m y)
            (all_both a seen true r.1 c.0 t2.0 before n m s x y h z))
            (λ n m t x y h z. plain_both o K rule os (arm b (past_arm a before Both s) Both t) (run left b n x)
            (run right b m y)
            (plain_in (ord left) p most here (fs left) own b seen i v.0 v.1 n x)
            (plain_in (ord right) p most here (fs right) own b seen i v.0 v.1 m y)
            (all_both b seen i v.1 c.1 t2.1 (past_arm a before Both s) n m t x y h z))) before n m s x y h z
        pass_both break_loop seen i fits closed text before l n m s x y h z = λ a. (
          refl,
          (z, as_left o (λ s. K s x y) broken s (logged [] 0 []) refl h),
        )
        pass_both continue_loop seen i fits closed text before l n m s x y h z = λ a. (
          refl,
          (z, as_left o (λ s. K s x y) continued s (logged [] 0 []) refl h),
        )
        pass_both (by_order named a b) seen i fits closed text before l n m s x y h z =
            let q = and_parts (stmts_fit p here own a seen i) (stmts_fit p here own b seen i) fits in
            let c = and_parts (not (some_comes_to is_talk ts a || some_comes_to is_talk ts b))
            (are_closed ts a && are_closed ts b) closed in
            let v = or_parts (some_comes_to is_talk ts a) (some_comes_to is_talk ts b) (not-true _ c.0) in
            let t = text_parts rule (are_quiet_arms ts a b) (are_quiet ts a && are_quiet ts b) text in
            order_both a b seen i q.0 q.1 v.0 v.1 t.0 (is_order (ord left) named) (is_order (ord right) named) before l
            n m s x y h z
        pass_both (scope bs a) seen i fits closed text before l n m s x y h z =
            scope_both p ord o K law rule os bs (arm a before Both (o.enter Both bs s)) (run left a n (without bs x))
            (run right a m (without bs y))
            (all_both a (bs ++ seen) i fits closed text before n m (o.enter Both bs s) (without bs x) (without bs y)
            (law.enter_both bs s x y h) (same_kept rule x y (without bs x) (without bs y) refl refl z))

        all_both : (ss : Stmts) (seen : List ℕ) (i : Bool) → stmts_fit p here own ss seen i ≡ true
            → are_closed ts ss ≡ true → TextIs rule (are_quiet ts ss) → (before n m : ℕ) (s : S)
            (x y : State) → K s x y → Same rule x y
            → BothOf o K rule os (arm ss before Both s) (run left ss n x) (run right ss m y)
        all_both stop seen i fits closed text before n m s x y h z = λ a. (
          refl,
          (z, as_left o (λ s. K s x y) on s (logged [] 0 []) refl h),
        )
        all_both (more l w rest) seen i fits closed text before n m s x y h z =
            let q = and_parts (what_fits p here own w seen i) (stmts_fit p here own rest seen i) fits in
            let c = and_parts (is_closed_what ts w) (are_closed ts rest) closed in
            let t = text_parts rule (is_quiet_what ts w) (are_quiet ts rest) text in
            let first = pass o u heads ord p here ps w before Both l s in
            let later = past heads before first in
            then_both o K rule os first (exec_in (ord left) p most here (fs left) w l n x)
            (exec_in (ord right) p most here (fs right) w l m y) (pass_all o u heads ord p here ps rest later Both)
            (run left rest) (run right rest) (run_grows left rest) (run_grows right rest)
            (pass_both w seen i q.0 c.0 t.0 before l n m s x y h z)
            (λ n m s x y h z. all_both rest seen i q.1 c.1 t.1 later n m s x y h z)

    -- ---- functions and programs

    module _ (formed : is_well_formed p ≡ true) (closed : is_closed_text p ≡ true) (text : TextIs rule (is_quiet p))
      where
        each_at : (test : ℕ → Function → Bool) (fs : List Function) (n k : ℕ) (f : Function)
            → each_function test n fs ≡ true → slice_get fs k ≡ Some f → (j : ℕ) → j ≡ n + k → test j f ≡ true
        each_at test [] n k f h e j d = absurd cc
        each_at test (g ∷ fs) n zero f h e j d =
            let same : g ≡ f = cc in
            let number : j ≡ n = omega (arith, d) in
            subst (λ (x : Function). test j x ≡ true) same
            (subst (λ i. test i g ≡ true) (sym number) (and_parts (test n g) (each_function test (suc n) fs) h).0)
        each_at test (g ∷ fs) n (suc k) f h e j d =
            each_at test fs (suc n) k f (and_parts (test n g) (each_function test (suc n) fs) h).1 e j (omega
            (arith, d))

        closed_at : (k : ℕ) (f : Function) → slice_get p.functions k ≡ Some f
            → are_closed (bodies_come_to is_talk p k) f.body ≡ true
        closed_at k f e =
            each_at (λ n f. are_closed (bodies_come_to is_talk p n) f.body) p.functions 0 k f closed e k (omega arith)

        text_at : (rule : Rule) → TextIs rule (is_quiet p) → (k : ℕ) (f : Function) → slice_get p.functions k ≡ Some f
            → TextIs rule (are_quiet (bodies_come_to is_talk p k) f.body)
        text_at (alike fs) h k f e = tt
        text_at quiet h k f e =
            each_at (λ n f. are_quiet (bodies_come_to is_talk p n) f.body) p.functions 0 k f h e k (omega arith)

        abbrev KnownBoth : ℕ → ((before : ℕ) → Mode → S → Pass S) → (Side → Going) → Type 0
        KnownBoth k go run =
            (g : Function) → slice_get p.functions k ≡ Some g → (before n m : ℕ) (s : S) (x y : State) → K s x y
            → Same rule x y → BothOf o K rule os (go before Both s) (run left n x) (run right m y)

        abbrev ps : ℕ → ℕ → (before : ℕ) → Mode → S → Pass S
        ps n = bodies_pass o u heads ord p n

        abbrev fs : ℕ → Side → ℕ → Going
        fs n i = bodies_in (ord i) p most n

        body_both : (n : ℕ) (f : Function) → slice_get p.functions n ≡ Some f
            → ((k : ℕ) → KnownBoth k (ps n k) (λ i. fs n i k)) → (before a b : ℕ) (s : S) (x y : State)
            → K s x y → Same rule x y
            → BothOf o K rule os (pass_all o u heads ord p n (ps n) f.body before Both s none)
            (all_in (ord left) p most n (fs n left) f.body a x)
            (all_in (ord right) p most n (fs n right) f.body b y)
        body_both n f at known before a b s x y h z =
            all_both n f at (ps n) (fs n) (bodies_come_to is_talk p n) (λ i. bodies_call_in (ord i) p most formed n)
            (λ i. bodies_grow_in (ord i) p most n)
            (λ i. bodies_alone p ord o K law i u heads most (enough_most o heads most u enough) formed n) known f.body
            (frame_of f) false (fits_at p formed n f at).2 (closed_at n f at) (text_at rule text n f at) before a b s x
            y h z

        chosen_both : (k n : ℕ) (a b : (before : ℕ) → Mode → S → Pass S) (f g : Side → Going) (t : Bool) → nat_eq k n ≡ t
            → KnownBoth n a f → KnownBoth k b g
            → KnownBoth k (λ before. arm_of o t (a before) (b before)) (λ i. chosen t (f i) (g i))
        chosen_both k n a b f g true e h i = subst (λ j. KnownBoth j a f) (sym (eqb-true k n e)) h
        chosen_both k n a b f g false e h i = i

        bodies_both : (n k : ℕ) → KnownBoth k (ps n k) (λ i. fs n i k)
        bodies_both zero k = λ g at before n m s x y h z a. (
          refl,
          (z, as_left o (λ s. K s x y) on s (logged [] 0 []) refl h),
        )
        bodies_both (suc n) k =
            chosen_both k n (body_pass o u heads ord p (slice_get p.functions n) n (ps n)) (ps n k)
            (λ i. body_in (ord i) p most (slice_get p.functions n) n (fs n i)) (λ i. fs n i k) (nat_eq k n) refl
            (body_known n (bodies_both n)) (bodies_both n k)
          where
            body_known : (n : ℕ) → ((k : ℕ) → KnownBoth k (ps n k) (λ i. fs n i k))
                → KnownBoth n (body_pass o u heads ord p (slice_get p.functions n) n (ps n))
                (λ i. body_in (ord i) p most (slice_get p.functions n) n (fs n i))
            body_known n known g at before a b s x y h z =
                subst
                (λ v. BothOf o K rule os (body_pass o u heads ord p v n (ps n) before Both s)
                (body_in (ord left) p most v n (fs n left) a x) (body_in (ord right) p most v n (fs n right) b y))
                (sym at) (body_both n g at known before a b s x y h z)

        -- the faults of main's pass, and those at its end
        abbrev faults_of : Function → Pass S → List Event
        faults_of f q = q.log.faults ++ faults_at_end o (Some f) (join_on o q.ways.returned q.on)

        -- both machines are over alike at main's end
        abbrev EndAlike : Function → State → State → Type 0
        EndAlike f x y =
            AreOverAlike (main_ends (ord left) p f.result f.line x) (main_ends (ord right) p f.result f.line y)

        end_faults : (f : Function) → slice_get p.functions p.main ≡ Some f → (k : Way) → (k ≡ on) ⊎ (k ≡ returned)
            → (x y : State) (q : Pass S) → Leaves (λ s. K s x y) k q → EndAlike f x y → faults_of f q ≡ []
        end_faults f at on d x y q h e =
            ap (faults_of f) h.is
            ∙ (ap (λ gs. gs ++ found_at f.line (o.ended f h.in_state)) h.quiet
            ∙ ap (found_at f.line) (law.ended f at h.in_state x y h.good e))
        end_faults f at broken (inl e) x y q h d = absurd cc
        end_faults f at broken (inr e) x y q h d = absurd cc
        end_faults f at continued (inl e) x y q h d = absurd cc
        end_faults f at continued (inr e) x y q h d = absurd cc
        end_faults f at returned d x y q h e =
            ap (faults_of f) h.is
            ∙ (ap (λ gs. gs ++ found_at f.line (o.ended f h.in_state)) h.quiet
            ∙ ap (found_at f.line) (law.ended f at h.in_state x y h.good e))

        call_way : (k : Way) (n : ℕ) (x : State) → IsCall (leaves k n x) → (k ≡ on) ⊎ (k ≡ returned)
        call_way on n x h = inl refl
        call_way broken n x h = absurd h
        call_way continued n x h = absurd h
        call_way returned n x h = inr refl

        -- what a machine has at the end of main, its run has
        main_begins : (a : Order) (r : Option (ℕ × Scalar)) (l : ℕ) (x : State)
            → Begins x.outputs (main_ends a p r l x).outputs × ((main_ends a p r l x).joint_tests ≡ x.joint_tests)
        main_begins a None l x = (begins_refl x.outputs, refl)
        main_begins a (Some r) l x = by_value (loaded a (model a p) (size_at a p r.0) x.memory r.1 r.0 0)
          where
            by_value : (v : Found)
                → Begins x.outputs (result_out v l x).outputs × ((result_out v l x).joint_tests ≡ x.joint_tests)
            by_value (has (int v)) = (begins_more x.outputs _, refl)
            by_value (has null) = (begins_refl x.outputs, refl)
            by_value (has (pointer b q)) = (begins_refl x.outputs, refl)
            by_value (faults k) = (begins_refl x.outputs, refl)

        main_leaves : (f : Function) → slice_get p.functions p.main ≡ Some f → (q : Pass S) (k j : Way) (n m : ℕ)
            (x y : State) → IsCall (leaves k n x) → BothOf o K rule os q (leaves k n x) (leaves j m y)
            → (main_ends (ord left) p f.result f.line x).ending ≡ ended
            → (main_ends (ord right) p f.result f.line y).ending ≡ ended
            → (main_ends (ord left) p f.result f.line x).outputs ≡ os
            → (main_ends (ord right) p f.result f.line y).outputs ≡ os
            → Tests rule x → Tests rule y → faults_of f q ≡ []
        main_leaves f at q k j n m x y its_way h l w e d t v =
            let b = (main_begins (ord left) f.result f.line x).0 in
            let c = (main_begins (ord right) f.result f.line y).0 in
            let r = h ((subst (Begins x.outputs) e b, t), (subst (Begins y.outputs) d c, v)) in
            end_faults f at k (call_way k n x its_way) x y q r.1.1
            (record { left_over = l; right_over = w; outputs = e ∙ sym d })

        -- what the run of a machine that is over tells
        abbrev pub RunTests : Rule → List ℕ → Type 0
        RunTests (alike fs) js = js ≡ fs
        RunTests quiet js = Unit {0}

        to_tests : (rule : Rule) (x : State) (js : List ℕ) → js ≡ x.joint_tests → RunTests rule js → Tests rule x
        to_tests (alike fs) x js e h = subst (Begins x.joint_tests) (sym e ∙ h) (begins_refl x.joint_tests)
        to_tests quiet x js e h = tt

        main_end : (a : Order) (f : Function) → slice_get p.functions p.main ≡ Some f → (k : Way) (n : ℕ) (x : State)
            → finished a p (leaves k n x) ≡ main_ends a p f.result f.line x
        main_end a f at k n x = ap (λ (g : Option Function). main_ends a p (result_in g) (line_of a p g) x) at

        from_outcomes : (f : Function) → slice_get p.functions p.main ≡ Some f → (q : Pass S) (c d : Outcome)
            → IsCall c
            → BothOf o K rule os q c d → (finished (ord left) p c).ending ≡ ended → (finished
            (ord right) p d).ending ≡ ended
            → (finished (ord left) p c).outputs ≡ os → (finished (ord right) p d).outputs ≡ os
            → RunTests rule (finished (ord left) p c).joint_tests
            → RunTests rule (finished (ord right) p d).joint_tests → faults_of f q ≡ []
        from_outcomes f at q (leaves k n x) (leaves j m y) its_way h e e' b b' t t' =
            let v = main_end (ord left) f at k n x in
            let w = main_end (ord right) f at j m y in
            main_leaves f at q k j n m x y its_way h
            (subst (λ (r : Run). r.ending ≡ ended) v e) (subst (λ (r : Run). r.ending ≡ ended) w e')
            (subst (λ (r : Run). r.outputs ≡ os) v b) (subst (λ (r : Run). r.outputs ≡ os) w b')
            (to_tests rule x (finished (ord left) p (leaves k n x)).joint_tests
            (ap (λ (r : Run). r.joint_tests) v ∙ (main_begins (ord left) f.result f.line x).1) t)
            (to_tests rule y (finished (ord right) p (leaves j m y)).joint_tests
            (ap (λ (r : Run). r.joint_tests) w ∙ (main_begins (ord right) f.result f.line y).1) t')
        from_outcomes f at q (leaves k n x) (running y) its_way h e e' b b' t t' = absurd cc
        from_outcomes f at q (leaves k n x) (no_input y) its_way h e e' b b' t t' = absurd cc
        from_outcomes f at q (leaves k n x) (undefined_at l i y) its_way h e e' b b' t t' = absurd cc
        from_outcomes f at q (running x) d its_way h e e' b b' t t' = absurd cc
        from_outcomes f at q (no_input x) d its_way h e e' b b' t t' = absurd cc
        from_outcomes f at q (undefined_at l i x) d its_way h e e' b b' t t' = absurd cc

        start_same : (rule : Rule) (inputs : List ℕ) → Same rule (start (ord left) p inputs) (start
            (ord right) p inputs)
        start_same (alike fs) inputs = refl
        start_same quiet inputs = tt

        no_faults : (inputs : List ℕ) → (run_in (ord left) p most inputs).ending ≡ ended
            → (run_in (ord right) p most inputs).ending ≡ ended
            → (run_in (ord left) p most inputs).outputs ≡ os → (run_in (ord right) p most inputs).outputs ≡ os
            → RunTests rule (run_in (ord left) p most inputs).joint_tests
            → RunTests rule (run_in (ord right) p most inputs).joint_tests
            → (g : Option Function) → slice_get p.functions p.main ≡ g
            → (body_pass o u heads ord p g p.main (ps p.main) 0 Both o.entry).log.faults
            ++ faults_at_end o g
            (join_on o (body_pass o u heads ord p g p.main (ps p.main) 0 Both o.entry).ways.returned
            (body_pass o u heads ord p g p.main (ps p.main) 0 Both o.entry).on) ≡ []
        no_faults inputs e e' b b' t t' None at = refl
        no_faults inputs e e' b b' t t' (Some f) at =
            let x = start (ord left) p inputs in
            let y = start (ord right) p inputs in
            let c = main_body (ord left) f at inputs in
            let d = main_body (ord right) f at inputs in
            from_outcomes f at (pass_all o u heads ord p p.main (ps p.main) f.body 0 Both o.entry none)
            (all_in (ord left) p most p.main (fs p.main left) f.body most x)
            (all_in (ord right) p most p.main (fs p.main right) f.body most y)
            (body_way (ord left) f at most x)
            (body_both p.main f at (bodies_both p.main) 0 most most o.entry x y (law.entry inputs) (start_same rule inputs))
            (subst (λ (z : Outcome). (finished (ord left) p z).ending ≡ ended) c e)
            (subst (λ (z : Outcome). (finished (ord right) p z).ending ≡ ended) d e')
            (subst (λ (z : Outcome). (finished (ord left) p z).outputs ≡ os) c b)
            (subst (λ (z : Outcome). (finished (ord right) p z).outputs ≡ os) d b')
            (subst (λ (z : Outcome). RunTests rule (finished (ord left) p z).joint_tests) c t)
            (subst (λ (z : Outcome). RunTests rule (finished (ord right) p z).joint_tests) d t')
          where
            main_body : (a : Order) (f : Function) → slice_get p.functions p.main ≡ Some f → (inputs : List ℕ)
                → main_in a p most inputs
                ≡ all_in a p most p.main (bodies_in a p most p.main) f.body most (start a p inputs)
            main_body a f at inputs =
                ap
                (λ (g : Option Function). body_in a p most g p.main (bodies_in a p most p.main) most (start a p inputs)) at

            body_way : (a : Order) (f : Function) → slice_get p.functions p.main ≡ Some f → (n : ℕ) (x : State)
                → IsCall (all_in a p most p.main (bodies_in a p most p.main) f.body n x)
            body_way a f at n x =
                subst (λ (g : Option Function). IsCall (body_in a p most g p.main (bodies_in a p most p.main) n x)) at
                (body_call_in a p most formed (slice_get p.functions p.main) p.main (bodies_in a p most p.main) refl n x)

-- Nothing is found where runs end alike in which no visit of a loop makes more than `most` turns.
pub closed_found : (p : Program) (ord : Side → Order) {S : Type 0} (o : StateOps S) (K : S → State → State → Type 0)
    → Exactly p ord o K → is_well_formed p ≡ true → is_closed_text p ≡ true → (u : ℕ) (heads : Heads S) (most : ℕ)
    → AreEnough o heads most u → (inputs : List ℕ) → EndsAlike p (ord left) (ord right) most inputs
    → all_faults o u heads ord p ≡ []
closed_found p ord o K law formed closed u heads most enough inputs h = by_rule h.tests
  where
    by_rule : ((run_in (ord left) p most inputs).joint_tests ≡ (run_in (ord right) p most inputs).joint_tests)
        ⊎ (is_quiet p ≡ true) → all_faults o u heads ord p ≡ []
    by_rule (inl e) =
        no_faults p ord o K law (alike (run_in (ord left) p most inputs).joint_tests)
        (run_in (ord left) p most inputs).outputs u heads most enough formed closed tt inputs h.left_over h.right_over
        refl (sym h.outputs) refl (sym e) (slice_get p.functions p.main) refl
    by_rule (inr q) =
        no_faults p ord o K law quiet (run_in (ord left) p most inputs).outputs u heads most enough formed closed q
        inputs h.left_over h.right_over refl (sym h.outputs) tt tt (slice_get p.functions p.main) refl

pub closed_report : (p : Program) (ord : Side → Order) {S : Type 0} (o : StateOps S) (K : S → State → State → Type 0)
    → Exactly p ord o K → is_well_formed p ≡ true → is_closed_text p ≡ true → (u limit : ℕ) → 2 ≤ limit
    → (inputs : List ℕ) → EndsAlike p (ord left) (ord right) u inputs → report_of o u limit ord p ≡ []
closed_report p ord o K law formed closed u limit some inputs h =
    ap (λ es. gathered (map alarm_of es))
    (closed_found p ord o K law formed closed u (tried o limit) u (inr (refl, tried_kept o limit some)) inputs h)
