-- Reports on tame programs have no alarm of the kinds E1 to E4: the induction over the pass, of both machines together.
use Rattle.std.proofs.Common.{◌≡◌, ℕ, zero, suc, ◌+◌, ◌-◌, ◌≤◌, ◌<◌, List, [], ◌∷◌, ◌++◌, refl, sym, subst, Option, Some, None}
use Rattle.ep_core.proofs.Operands.{callee_at}
use Rattle.ep_int.proofs.Basics.{contains-left, contains-right}
use Rattle.std.proofs.Common.{Bool, true, false, ◌&&◌, ◌||◌, if◌then◌else◌, nat_eq, slice_get, arith}
use Rattle.std.specs.List.{list_all}
use Rattle.std.proofs.lemmas.Bool.{eqb-true, and_parts}
use Rattle.ep_int.specs.declared.types.Order.{Order}
use Rattle.ep_int.specs.Memory.{contains}
use Rattle.ep_alarms.specs.declared.types.AlarmKind.{AlarmKind}
use Rattle.ep_core.specs.Program.{Expr, Dest, What, simple, call, if_else, loop, break_loop, continue_loop, by_order}
use Rattle.ep_core.specs.Program.{scope, Stmts, stop, more, Function, Program}
use Rattle.ep_core.specs.Exec.{Way, on, broken, continued, returned, result_in, callee_of, frame_of}
use Rattle.ep_core.specs.Runs.{Side, left, right}
use Rattle.ep_core.specs.WellFormed.{is_tested, result_type, arguments_fit, takes_result, are_plain, call_fits, scoped_in, scoped}
use Rattle.ep_core.specs.WellFormed.{what_fits, stmts_fit, is_well_formed}
use Rattle.ep_core.proofs.Operands.{fits_at}
use Rattle.ep_pass.specs.States.{Mode, Both, Fault, Transfer, Verdict, stuck, same, differs, StateOps}
use Rattle.ep_pass.specs.Honest.{AreOf}
use Rattle.ep_pass.specs.Pass.{Ways, none, Event, Log, Pass, ends, so_far, branch, found_at, jumps, way_of, simple_pass}
use Rattle.ep_pass.specs.Pass.{join_on, go_on, join_ways, then_pass, rowed, either_pass, leave_on, leave_call}
use Rattle.ep_pass.specs.Pass.{scope_pass, call_pass, next_pass, body_ends, leave_loop, decided, tested, apart}
use Rattle.ep_pass.specs.Pass.{arm_of, unrolled, in_body, lone, joint_turn, is_stable, next_head, dropped, settled}
use Rattle.ep_pass.specs.Pass.{from_head, tried, joint_rounds, loop_pass, pass, pass_all, body_pass, bodies_pass}
use Rattle.ep_pass.specs.Pass.{faults_at_end, report_of}
use Rattle.ep_pass.proofs.Placing.{Placed, placed_both, gathered_placed}
use Rattle.ep_pass.proofs.Tried.{tries, rounds}
use Rattle.ep_kinds.specs.Tame.{is_tame_expr, is_tame_dest, is_tame_what, are_tame, are_tame_types, is_tame}
use Rattle.ep_tame_laws.specs.Tamely.{is_undefined, IfReached, AreAmong, result_block, IsAlike, TransferIsGood, Tamely}
use Rattle.ep_tame_laws.specs.Tamely.{HaveNoResult, IsUndefinedOnly}
use Rattle.ep_tame_laws.proofs.Listed.{frame_free, scopes_free, result_free, callee_before}

-- ---- what is found

abbrev IsU : ℕ → AlarmKind → Type 0
IsU l k = is_undefined k ≡ true

abbrev OnlyUndefined : List Event → Type 0
OnlyUndefined = Placed IsU

only_both : (fs gs : List Event) → OnlyUndefined fs → OnlyUndefined gs → OnlyUndefined (fs ++ gs)
only_both fs gs h i = placed_both IsU fs gs h i

only_at : (l : ℕ) (fs : List Fault) → AreOf is_undefined fs → OnlyUndefined (found_at l fs)
only_at l [] h = tt
only_at l (f ∷ fs) h = (h.0, only_at l fs h.1)

-- ---- lists of blocks

either_true : (t x y : Bool) → (x ≡ true → y ≡ true) → (t || x) ≡ true → (t || y) ≡ true
either_true true x y f h = refl
either_true false x y f h = f h

more_among : (own seen live : List ℕ) → AreAmong seen live → AreAmong (own ++ seen) (own ++ live)
more_among [] seen live h = h
more_among (c ∷ own) seen live h =
    λ b i. either_true (nat_eq b c) (contains b (own ++ seen)) (contains b (own ++ live))
    (more_among own seen live h b) i

free_left : (p : Program) (xs ys : List ℕ) → HaveNoResult p (xs ++ ys) → HaveNoResult p xs
free_left p xs ys free b i = free b (contains-left b xs ys i)

free_right : (p : Program) (xs ys : List ℕ) → HaveNoResult p (xs ++ ys) → HaveNoResult p ys
free_right p xs ys free b i = free b (contains-right b xs ys i)

-- ---- passes of which all states are so

module _ {S : Type 0} (o : StateOps S) where
  abbrev pub WaysAre : (S → Type 0) → Ways S → Type 0
  WaysAre P w = IfReached P w.broken × (IfReached P w.continued × IfReached P w.returned)

  -- each state is so, and each alarm is of undefined behaviour
  pub record Holds (P : S → Type 0) (p : Pass S) : Type 0 where
    pub at_end : IfReached P p.on
    pub ways : WaysAre P p.ways
    pub alarms : OnlyUndefined p.log.faults

  if_more : (P Q : S → Type 0) → ((s : S) → P s → Q s) → (u : Option S) → IfReached P u → IfReached Q u
  if_more P Q f None h = tt
  if_more P Q f (Some s) h = f s h

  -- where joins stay so
  module _ (P : S → Type 0) (joins : (s t : S) → P s → P t → P (o.joined (o.unified s t).0 (o.unified s t).1)) where
    join_holds : (u v : Option S) → IfReached P u → IfReached P v → IfReached P (join_on o u v)
    join_holds None v h i = i
    join_holds (Some s) None h i = h
    join_holds (Some s) (Some t) h i = joins s t h i

    ways_hold : (v w : Ways S) → WaysAre P v → WaysAre P w → WaysAre P (join_ways o v w)
    ways_hold v w h i = (
      join_holds v.broken w.broken h.0 i.0,
      (join_holds v.continued w.continued h.1.0 i.1.0, join_holds v.returned w.returned h.1.1 i.1.1),
    )

    either_holds : (p q : Pass S) → Holds P p → Holds P q → Holds P (either_pass o p q)
    either_holds p q h i = record {
      at_end = join_holds p.on q.on h.at_end i.at_end;
      ways = ways_hold p.ways q.ways h.ways i.ways;
      alarms = only_both p.log.faults q.log.faults h.alarms i.alarms;
    }

    branch_holds : (u : Option S) (go : S → Pass S) → IfReached P u → ((s : S) → P s → Holds P (go s))
        → Holds P (branch u go)
    branch_holds None go h i = record { at_end = tt; ways = (tt, (tt, tt)); alarms = tt }
    branch_holds (Some s) go h i = i s h

    abbrev GoesHold : (S → Ways S → Pass S) → Type 0
    GoesHold go = (s : S) (w : Ways S) → P s → WaysAre P w → Holds P (go s w)

    go_on_holds : (u : Option S) (w : Ways S) (g : Log S) (go : S → Ways S → Pass S) → IfReached P u → WaysAre P w
        → OnlyUndefined g.faults → GoesHold go → Holds P (go_on o u w g go)
    go_on_holds None w g go h i a f = record { at_end = tt; ways = i; alarms = a }
    go_on_holds (Some s) w g go h i a f =
        let r = f s w h i in
        record {
          at_end = r.at_end;
          ways = r.ways;
          alarms = only_both g.faults (go s w).log.faults a r.alarms;
        }

    then_holds : (p : Pass S) (w : Ways S) (go : S → Ways S → Pass S) → Holds P p → WaysAre P w → GoesHold go
        → Holds P (then_pass o p w go)
    then_holds p w go h i f =
        go_on_holds p.on (join_ways o w p.ways) p.log go h.at_end (ways_hold w p.ways i h.ways) h.alarms f

    rowed_holds : (go : S → Pass S) → ((s : S) → P s → Holds P (go s)) → GoesHold (rowed o go)
    rowed_holds go f s w h i = let r = f s h in record { at_end = r.at_end; ways = i; alarms = r.alarms }

    leave_call_holds : (p : Pass S) → Holds P p → Holds P (leave_call o p)
    leave_call_holds p h = record {
      at_end = join_holds p.ways.returned p.on h.ways.1.1 h.at_end;
      ways = (tt, (tt, tt));
      alarms = h.alarms;
    }

    body_ends_holds : (p : Pass S) → Holds P p → Holds P (body_ends o p)
    body_ends_holds p h = record {
      at_end = join_holds p.ways.continued p.on h.ways.1.0 h.at_end;
      ways = (h.ways.0, (tt, h.ways.1.1));
      alarms = h.alarms;
    }

    next_holds : (p : Pass S) (next : S → Pass S) → Holds P p → ((s : S) → P s → Holds P (next s))
        → Holds P (next_pass o p next)
    next_holds p next h f =
        then_holds (body_ends o p) none (rowed o next) (body_ends_holds p h) (tt, (tt, tt)) (rowed_holds next f)

    loop_left_holds : (p : Pass S) → Holds P p → Holds P (leave_loop p)
    loop_left_holds p h = record { at_end = h.ways.0; ways = (tt, (tt, h.ways.1.1)); alarms = h.alarms }

    unrolled_holds : (turn last : Ways S → S → Pass S)
        → ((w : Ways S) (s : S) → WaysAre P w → P s → Holds P (turn w s))
        → ((w : Ways S) (s : S) → WaysAre P w → P s → Holds P (last w s))
        → (u : ℕ) (s : S) (w : Ways S) → P s → WaysAre P w → Holds P (unrolled o turn last u s w)
    unrolled_holds turn last f g zero s w h i =
        let r = g w s i h in record { at_end = tt; ways = r.ways; alarms = r.alarms }
    unrolled_holds turn last f g (suc u) s w h i =
        let r = f w s i h in
        go_on_holds (turn w s).on (turn w s).ways (turn w s).log (unrolled o turn last u) r.at_end r.ways r.alarms
        (unrolled_holds turn last f g u)

    -- of a test that is good
    tested_holds : (a : Pass S) → Holds P a → (e : Expr) (l : ℕ) (p q r t : S → Pass S) (s : S)
        → AreOf is_undefined (o.test Both e s).faults → IsAlike (o.test Both e s).verdict
        → ((b : Bool) → IfReached P (o.assume e b b s))
        → ((s : S) → P s → Holds P (p s)) → ((s : S) → P s → Holds P (t s)) → Holds P (tested o a Both e l p q r t s)
    tested_holds a n e l p q r t s faults alike assume hp ht =
        let z = by_verdict (o.test Both e s).verdict alike in
        record {
          at_end = z.at_end;
          ways = z.ways;
          alarms =
              only_both (found_at l (o.test Both e s).faults) _ (only_at l (o.test Both e s).faults faults) z.alarms;
        }
      where
        by_verdict : (v : Verdict) → IsAlike v → Holds P (decided o a Both v e p q r t s)
        by_verdict stuck i = n
        by_verdict same i =
            let p1 = branch (o.assume e true true s) p in
            either_holds (either_pass o a p1) (branch (o.assume e false false s) t)
            (either_holds a p1 n (branch_holds (o.assume e true true s) p (assume true) hp))
            (branch_holds (o.assume e false false s) t (assume false) ht)
        by_verdict differs i = absurd i

  simple_holds : (P : S → Type 0) (k : Way) (l : ℕ) (g : Transfer S) → TransferIsGood P g → Holds P (simple_pass k l g)
  simple_holds P on l g h = record { at_end = h.next; ways = (tt, (tt, tt)); alarms = only_at l g.faults h.faults }
  simple_holds P broken l g h = record { at_end = tt; ways = (h.next, (tt, tt)); alarms = only_at l g.faults h.faults }
  simple_holds P continued l g h =
      record { at_end = tt; ways = (tt, (h.next, tt)); alarms = only_at l g.faults h.faults }
  simple_holds P returned l g h =
      record { at_end = tt; ways = (tt, (tt, h.next)); alarms = only_at l g.faults h.faults }

  -- the state at the end of a test's pass comes from where it is true, if no other comes there
  turn_end : (P : S → Type 0) (w : Ways S) (e : Expr) (l : ℕ) (p q r : S → Pass S) (s : S)
      → IsAlike (o.test Both e s).verdict → IfReached P (branch (o.assume e true true s) p).on
      → IfReached P (tested o (so_far w) Both e l p q r (jumps broken) s).on
  turn_end P w e l p q r s alike h = by_verdict (o.test Both e s).verdict alike
    where
      joined_none : (u v : Option S) → IfReached P u → v ≡ None → IfReached P (join_on o u v)
      joined_none None None h e = tt
      joined_none None (Some s) h e = absurd cc
      joined_none (Some s) None h e = h
      joined_none (Some s) (Some t) h e = absurd cc

      jump_none : (v : Option S) → (branch v (jumps broken)).on ≡ None
      jump_none None = refl
      jump_none (Some s) = refl

      by_verdict : (v : Verdict) → IsAlike v → IfReached P (decided o (so_far w) Both v e p q r (jumps broken) s).on
      by_verdict stuck i = tt
      by_verdict same i =
          joined_none (branch (o.assume e true true s) p).on (branch (o.assume e false false s) (jumps broken)).on h
          (jump_none (o.assume e false false s))
      by_verdict differs i = absurd i

-- ---- one loop

module _ (p : Program) {S : Type 0} (o : StateOps S) (Good : S → (live res : List ℕ) → S → Type 0) (rank : S → ℕ)
    (limit : ℕ) (law : Tamely p o Good rank limit) (u : ℕ) where
  joins : (h : S) (live res : List ℕ) (s t : S) → Good h live res s → Good h live res t
      → Good h live res (o.joined (o.unified s t).0 (o.unified s t).1)
  joins h live res s t i j = law.joined h s t live res i j

  module _ (l : ℕ) (e : Expr) (seen : List ℕ) (typed : is_tested p.types p.blocks seen e ≡ true)
      (tame : is_tame_expr p.types e ≡ true) (live res : List ℕ) (among : AreAmong seen live)
      (body : (before : ℕ) → Mode → S → Pass S)
      (known : (h s : S) → Good h live res s → Holds o (Good h live res) (body 0 Both s)) where
    abbrev G : S → S → Type 0
    G h = Good h live res

    turn_holds : (h : S) (w : Ways S) (s : S) → WaysAre o (G h) w → G h s
        → Holds o (G h) (joint_turn o u l e (body 0) w s)
    turn_holds h w s i g =
        let t = law.test e seen typed tame h s live res among g in
        tested_holds o (G h) (joins h live res) (so_far w) (record { at_end = tt; ways = i; alarms = tt }) e l
        (in_body o u l e (body 0) Both) (lone o u l e (body 0) left) (lone o u l e (body 0) right) (jumps broken)
        s t.0 t.1
        (λ b. law.assume e seen typed tame b h s live res among g)
        (λ s g. let r = known h s g in record { at_end = r.at_end; ways = r.ways; alarms = r.alarms })
        (λ s g. record { at_end = tt; ways = (g, (tt, tt)); alarms = tt })

    -- what comes round from a head has all that the head has
    round_good : (w : Ways S) (h g : S) → G g h → IfReached (G h) (joint_turn o u l e (body 0) w h).on
    round_good w h g i =
        let own = law.again g h live res i in
        let t = law.test e seen typed tame h h live res among own in
        turn_end o (G h) w e l (in_body o u l e (body 0) Both) (lone o u l e (body 0) left)
        (lone o u l e (body 0) right) h t.1
        (branch_holds o (G h) (joins h live res) (o.assume e true true h) (in_body o u l e (body 0) Both)
        (law.assume e seen typed tame true h h live res among own)
        (λ s g. let r = known h s g in record { at_end = r.at_end; ways = r.ways; alarms = r.alarms })).at_end

    settled_holds : (g : S) (w : Ways S) → WaysAre o (G g) w → (k : ℕ) (h : S) → G g h → rank h < k
        → Holds o (G g) (settled o (joint_turn o u l e (body 0) w) k h)
    settled_holds g w i zero h good r = absurd (omega (arith, r))
    settled_holds g w i (suc k) h good r =
        by_round (joint_turn o u l e (body 0) w h).on (round_good w h g good)
        (is_stable o h (joint_turn o u l e (body 0) w h).on) refl refl
        (λ h good r. settled_holds g w i k h good r)
      where
        kept : Holds o (G g) (from_head h (joint_turn o u l e (body 0) w h))
        kept = let t =
            turn_holds g w h i good in record { at_end = t.at_end; ways = t.ways; alarms = t.alarms }

        by_round : (v : Option S) → IfReached (G h) v → (b : Bool)
            → v ≡ (joint_turn o u l e (body 0) w h).on
            → is_stable o h v ≡ b
            → ((h : S) → G g h → rank h < k
            → Holds o (G g) (settled o (joint_turn o u l e (body 0) w) k h))
            → Holds o (G g)
            (if b then from_head h (joint_turn o u l e (body 0) w h)
            else dropped (joint_turn o u l e (body 0) w h)
            (settled o (joint_turn o u l e (body 0) w) k
            (next_head o h v)))
        by_round v z true d e again = kept
        by_round None z false d e again = absurd cc
        by_round (Some t) z false d x again =
            let n = law.next g h t live res good z x in
            let q = again (next_head o h (Some t)) n.0 (omega (arith, r, n.1)) in
            record { at_end = q.at_end; ways = q.ways; alarms = q.alarms }

    last_holds : (g : S) (w : Ways S) (s : S) → WaysAre o (G g) w → G g s
        → Holds o (G g) (tries o u limit l e body w s)
    last_holds g w s i good =
        let q = law.reshared g s live res good in
        settled_holds g w i (limit - 1) (o.reshared s) q (law.below g (o.reshared s) live res q)

    rounds_hold : (g : S) (j : ℕ) (s : S) (w : Ways S) → G g s → WaysAre o (G g) w
        → Holds o (G g) (joint_rounds o u (tried o limit) l e body j 0 s w)
    rounds_hold g j s w good i =
        subst (Holds o (G g)) (sym (rounds o u limit l e body j s w))
        (unrolled_holds o (G g) (joins g live res) (joint_turn o u l e (body 0)) (tries o u limit l e body)
        (turn_holds g) (last_holds g) j s w good i)

    loop_holds : (g : S) (first : Bool) (s : S) → G g s
        → Holds o (G g) (loop_pass o u (tried o limit) l e body 0 Both first s)
    loop_holds g true s good =
        loop_left_holds o (G g) (joins g live res) (joint_rounds o u (tried o limit) l e body u 0 s none)
        (rounds_hold g u s none good (tt, (tt, tt)))
    loop_holds g false s good =
        let b = in_body o u l e (body 0) Both s in
        let r = known g s good in
        loop_left_holds o (G g) (joins g live res) (then_pass o b none (joint_rounds o u (tried o limit) l e body (u - 1) 0))
        (then_holds o (G g) (joins g live res) b none (joint_rounds o u (tried o limit) l e body (u - 1) 0)
        (record { at_end = r.at_end; ways = r.ways; alarms = r.alarms }) (tt, (tt, tt))
        (rounds_hold g (u - 1)))

  -- ---- scopes

  leave_if : (bs : List ℕ) (h : S) (live res : List ℕ) (v : Option S) → IfReached (Good h (bs ++ live) res) v
      → IfReached (Good h live res) (leave_on o Both bs v)
  leave_if bs h live res None i = tt
  leave_if bs h live res (Some s) i = law.leave bs h s live res i

  scope_holds : (bs : List ℕ) (h : S) (live res : List ℕ) (q : Pass S) → Holds o (Good h (bs ++ live) res) q
      → Holds o (Good h live res) (scope_pass o Both bs q)
  scope_holds bs h live res q i = record {
    at_end = leave_if bs h live res q.on i.at_end;
    ways = (
      leave_if bs h live res q.ways.broken i.ways.0,
      (leave_if bs h live res q.ways.continued i.ways.1.0, leave_if bs h live res q.ways.returned i.ways.1.1),
    );
    alarms = i.alarms;
  }

  -- ---- statements

  -- the body of a function, where it is known
  abbrev pub KnownBody : ℕ → (S → Pass S) → Type 0
  KnownBody k go =
      (f : Function) → slice_get p.functions k ≡ Some f → (h s : S) (live res : List ℕ)
      → AreAmong (frame_of f) live → AreAmong (result_block f) res → Good h live res s
      → Holds o (Good h live res) (go s)

  -- a call: of what it comes to, the middle part is of other blocks
  call_holds : (k : ℕ) (f : Function) → slice_get p.functions k ≡ Some f → HaveNoResult p (frame_of f)
      → HaveNoResult p (result_block f) → (es : List Expr) (d : Option Dest)
      (seen : List ℕ) → arguments_fit p.types p.blocks seen f.params es ≡ true
      → takes_result p.types p.blocks seen (result_type p.blocks f.result) d ≡ true
      → list_all (is_tame_expr p.types) es ≡ true
      → is_tame_dest p.types d ≡ true
      → (l : ℕ) (body : S → Pass S) → KnownBody k body → (h s : S) (live res : List ℕ) → AreAmong seen live
      → Good h live res s → Holds o (Good h live res) (call_pass o (Some f) Both es d l body s)
  call_holds k f at frame own es d seen fits takes tame tame_d l body known h s live res among good =
      by_next (o.arguments Both f es s).next
      (law.arguments k f at es seen fits tame frame own h s live res among good).next
    where
      P : S → Type 0
      P = Good h live res

      alarms : OnlyUndefined (found_at l (o.arguments Both f es s).faults)
      alarms = only_at l (o.arguments Both f es s).faults
          (law.arguments k f at es seen fits tame frame own h s live res among good).faults

      middle : S → Pass S
      middle s = leave_call o (scope_pass o Both (frame_of f) (body s))

      last : S → Pass S
      last s = simple_pass on l (o.result Both f d s)

      middle_holds : (s : S) → Good h (frame_of f ++ live) (result_block f ++ res) s
          → Holds o (Good h live (result_block f ++ res)) (middle s)
      middle_holds s g =
          leave_call_holds o (Good h live (result_block f ++ res)) (joins h live (result_block f ++ res))
          (scope_pass o Both (frame_of f) (body s))
          (scope_holds (frame_of f) h live (result_block f ++ res) (body s)
          (known f at h s (frame_of f ++ live) (result_block f ++ res) (λ b i. contains-left b (frame_of f) live i)
          (λ b i. contains-left b (result_block f) res i) g))

      last_holds : (s : S) → Good h live (result_block f ++ res) s → Holds o P (last s)
      last_holds s g =
          simple_holds o P on l (o.result Both f d s) (law.result k f at d seen takes tame_d h s live res among g)

      -- from the end of the middle part on
      by_middle : (v : Option S) (g : Log S) → IfReached (Good h live (result_block f ++ res)) v
          → OnlyUndefined g.faults → Holds o P (go_on o v none g (rowed o last))
      by_middle None g i a = record { at_end = tt; ways = (tt, (tt, tt)); alarms = a }
      by_middle (Some s) g i a =
          let r = last_holds s i in
          record {
            at_end = r.at_end;
            ways = (tt, (tt, tt));
            alarms = only_both g.faults (last s).log.faults a r.alarms;
          }

      by_next : (v : Option S) → IfReached (Good h (frame_of f ++ live) (result_block f ++ res)) v
          → Holds o P
          (then_pass o
          (then_pass o (simple_pass on l (record { faults = (o.arguments Both f es s).faults; next = v })) none
          (rowed o middle)) none (rowed o last))
      by_next None i = record { at_end = tt; ways = (tt, (tt, tt)); alarms = alarms }
      by_next (Some t) i =
          let r = middle_holds t i in
          by_middle (middle t).on _ r.at_end
          (only_both (found_at l (o.arguments Both f es s).faults) (middle t).log.faults alarms r.alarms)

  module _ (ord : Side → Order) where
    module _ (formed : is_well_formed p ≡ true) (here : ℕ) (below : here ≤ p.main) (f : Function)
        (at : slice_get p.functions here ≡ Some f) (ps : ℕ → (before : ℕ) → Mode → S → Pass S)
        (known : (k : ℕ) → KnownBody k (ps k 0 Both)) where
      abbrev own : Option ℕ
      own = result_type p.blocks f.result

      abbrev rows : Stmts → Mode → S → Ways S → Pass S
      rows a m s w = pass_all o u (tried o limit) ord p here ps a 0 m s w

      abbrev arm : Stmts → Mode → S → Pass S
      arm a m s = rows a m s none

      abbrev turn_body : Stmts → Stmts → (before : ℕ) → Mode → S → Pass S
      turn_body a b n m s =
          next_pass o (pass_all o u (tried o limit) ord p here ps a n m s none)
          (λ t. pass_all o u (tried o limit) ord p here ps b (n + 0) m t none)

      called_holds : (k : ℕ) (es : List Expr) (d : Option Dest) (seen : List ℕ)
          → is_tame_what p.types (call k es d) ≡ true
          → (l : ℕ) (h s : S) (live res : List ℕ) → AreAmong seen live → Good h live res s
          → (g : Option Function) → callee_of p here k ≡ g → call_fits p here own g es d seen ≡ true
          → Holds o (Good h live res) (call_pass o g Both es d l (ps k 0 Both) s)
      called_holds k es d seen tame l h s live res among good None e fits =
          record { at_end = tt; ways = (tt, (tt, tt)); alarms = tt }
      called_holds k es d seen tame l h s live res among good (Some g) e fits =
          let q = and_parts (arguments_fit p.types p.blocks seen g.params es)
          (takes_result p.types p.blocks seen (result_type p.blocks g.result) d) fits in
          let t = and_parts (list_all (is_tame_expr p.types) es)
          (is_tame_dest p.types d) tame in
          let to = callee_at p here k g e in
          let before : k < p.main = (let less = callee_before p here k g e in omega (arith, less, below)) in
          call_holds k g to (frame_free p formed k g to (omega (arith, before))) (result_free p formed k g to before) es d seen q.0 q.1 t.0 t.1 l (ps k 0 Both) (known k) h s live res among
          good

      mutual
        pass_holds : (w : What) → HaveNoResult p (scoped_in w) → (seen : List ℕ) (i : Bool)
            → what_fits p here own w seen i ≡ true → is_tame_what p.types w ≡ true
            → (l : ℕ) (h s : S) (live res : List ℕ) → AreAmong seen live → AreAmong (result_block f) res
            → Good h live res s → Holds o (Good h live res) (pass o u (tried o limit) ord p here ps w 0 Both l s)
        pass_holds (simple w) free seen i fits tame l h s live res among res_there good =
            subst (λ g. Holds o (Good h live res) (simple_pass (way_of w) l (o.simple Both (result_in g) w s)))
            (sym at)
            (simple_holds o (Good h live res) (way_of w) l (o.simple Both f.result w s)
            (law.simple here f at w seen fits tame h s live res among res_there good))
        pass_holds (call k es d) free seen i fits tame l h s live res among res_there good =
            called_holds k es d seen tame l h s live res among good (callee_of p here k) refl fits
        pass_holds (if_else e a b) free seen i fits tame l h s live res among res_there good =
            let q = and_parts (is_tested p.types p.blocks seen e && stmts_fit p here own a seen i)
            (stmts_fit p here own b seen i) fits in
            let r = and_parts (is_tested p.types p.blocks seen e) (stmts_fit p here own a seen i) q.0 in
            let t = and_parts (is_tame_expr p.types e)
            (are_tame p.types a && are_tame p.types b) tame in
            let v = and_parts (are_tame p.types a) (are_tame p.types b) t.1 in
            let z = law.test e seen r.0 t.0 h s live res among good in
            tested_holds o (Good h live res) (joins h live res) (ends [])
            (record { at_end = tt; ways = (tt, (tt, tt)); alarms = tt }) e l (arm a Both)
            (apart o l (arm a) (arm b)) (apart o l (arm b) (arm a)) (arm b Both) s z.0 z.1
            (λ b. law.assume e seen r.0 t.0 b h s live res among good)
            (λ s g. all_hold a (free_left p (scoped a) (scoped b) free) seen i r.1 v.0 h s none live res among res_there g (tt, (tt, tt)))
            (λ s g. all_hold b (free_right p (scoped a) (scoped b) free) seen i q.1 v.1 h s none live res among res_there g (tt, (tt, tt)))
        pass_holds (loop first e a b) free seen i fits tame l h s live res among res_there good =
            let q = and_parts (is_tested p.types p.blocks seen e && stmts_fit p here own a seen true)
            (are_plain b && stmts_fit p here own b seen i) fits in
            let r = and_parts (is_tested p.types p.blocks seen e) (stmts_fit p here own a seen true) q.0 in
            let y = and_parts (are_plain b) (stmts_fit p here own b seen i) q.1 in
            let t = and_parts (is_tame_expr p.types e)
            (are_tame p.types a && are_tame p.types b) tame in
            let v = and_parts (are_tame p.types a) (are_tame p.types b) t.1 in
            loop_holds l e seen r.0 t.0 live res among (turn_body a b)
            (λ h s g. next_holds o (Good h live res) (joins h live res) (arm a Both s) (arm b Both)
            (all_hold a (free_left p (scoped a) (scoped b) free) seen true r.1 v.0 h s none live res among res_there g (tt, (tt, tt)))
            (λ s g. all_hold b (free_right p (scoped a) (scoped b) free) seen i y.1 v.1 h s none live res among res_there g (tt, (tt, tt)))) h first s good
        pass_holds break_loop free seen i fits tame l h s live res among res_there good =
            record { at_end = tt; ways = (good, (tt, tt)); alarms = tt }
        pass_holds continue_loop free seen i fits tame l h s live res among res_there good =
            record { at_end = tt; ways = (tt, (good, tt)); alarms = tt }
        pass_holds (by_order named a b) free seen i fits tame l h s live res among res_there good = absurd cc
        pass_holds (scope bs a) free seen i fits tame l h s live res among res_there good =
            scope_holds bs h live res (arm a Both (o.enter Both bs s))
            (all_hold a (free_right p bs (scoped a) free) (bs ++ seen) i fits tame h (o.enter Both bs s) none (bs ++ live) res
            (more_among bs seen live among) res_there (law.enter bs (free_left p bs (scoped a) free) h s live res good) (tt, (tt, tt)))

        all_hold : (ss : Stmts) → HaveNoResult p (scoped ss) → (seen : List ℕ) (i : Bool)
            → stmts_fit p here own ss seen i ≡ true → are_tame p.types ss ≡ true
            → (h s : S) (w : Ways S) (live res : List ℕ) → AreAmong seen live → AreAmong (result_block f) res
            → Good h live res s → WaysAre o (Good h live res) w → Holds o (Good h live res) (rows ss Both s w)
        all_hold stop free seen i fits tame h s w live res among res_there good ways =
            record { at_end = good; ways = ways; alarms = tt }
        all_hold (more l w rest) free seen i fits tame h s v live res among res_there good ways =
            let q = and_parts (what_fits p here own w seen i) (stmts_fit p here own rest seen i) fits in
            let t = and_parts (is_tame_what p.types w) (are_tame p.types rest)
            tame in
            then_holds o (Good h live res) (joins h live res) (pass o u (tried o limit) ord p here ps w 0 Both l s) v
            (rows rest Both) (pass_holds w (free_left p (scoped_in w) (scoped rest) free) seen i q.0 t.0 l h s live res among res_there good) ways
            (λ s v g z. all_hold rest (free_right p (scoped_in w) (scoped rest) free) seen i q.1 t.1 h s v live res among res_there g z)

    -- ---- functions and programs

    module _ (formed : is_well_formed p ≡ true)
        (tame : list_all (λ (f : Function). are_tame p.types f.body) p.functions ≡ true) where
      tame_at : (fs : List Function)
          → list_all (λ (f : Function). are_tame p.types f.body) fs ≡ true → (k : ℕ) (f : Function)
          → slice_get fs k ≡ Some f → are_tame p.types f.body ≡ true
      tame_at [] h k f e = absurd cc
      tame_at (g ∷ fs) h zero f e =
          let d : g ≡ f = cc in
          subst (λ (x : Function). are_tame p.types x.body ≡ true) d
          (and_parts (are_tame p.types g.body) _ h).0
      tame_at (g ∷ fs) h (suc k) f e =
          tame_at fs (and_parts (are_tame p.types g.body) _ h).1 k f e

      body_known : (here : ℕ) → here ≤ p.main → (ps : ℕ → (before : ℕ) → Mode → S → Pass S) → ((k : ℕ) → KnownBody k (ps k 0 Both))
          → KnownBody here (body_pass o u (tried o limit) ord p (slice_get p.functions here) here ps 0 Both)
      body_known here below ps known f at h s live res among res_there good =
          subst (λ g. Holds o (Good h live res) (body_pass o u (tried o limit) ord p g here ps 0 Both s)) (sym at)
          (all_hold formed here below f at ps known f.body (scopes_free p formed here f at below) (frame_of f) false (fits_at p formed here f at).2
          (tame_at p.functions tame here f at) h s none live res among res_there good (tt, (tt, tt)))

      chosen_known : (k n : ℕ) (a b : Mode → S → Pass S) (t : Bool) → nat_eq k n ≡ t → KnownBody n (a Both)
          → KnownBody k (b Both) → KnownBody k (arm_of o t a b Both)
      chosen_known k n a b true e h i = subst (λ j. KnownBody j (a Both)) (sym (eqb-true k n e)) h
      chosen_known k n a b false e h i = i

      bodies_known : (n k : ℕ) → n ≤ p.main → KnownBody k (bodies_pass o u (tried o limit) ord p n k 0 Both)
      bodies_known zero k below = λ f at h s live res among res_there good.
          record { at_end = good; ways = (tt, (tt, tt)); alarms = tt }
      bodies_known (suc n) k below =
          chosen_known k n (body_pass o u (tried o limit) ord p (slice_get p.functions n) n
          (bodies_pass o u (tried o limit) ord p n) 0)
          (bodies_pass o u (tried o limit) ord p n k 0) (nat_eq k n) refl
          (body_known n (omega (arith, below)) (bodies_pass o u (tried o limit) ord p n)
          (λ j. bodies_known n j (omega (arith, below)))) (bodies_known n k (omega (arith, below)))

      main_alarms : (g : Option Function) → slice_get p.functions p.main ≡ g
          → OnlyUndefined
          ((body_pass o u (tried o limit) ord p g p.main (bodies_pass o u (tried o limit) ord p p.main) 0 Both o.entry).log.faults
          ++ faults_at_end o g
          (join_on o
          (body_pass o u (tried o limit) ord p g p.main (bodies_pass o u (tried o limit) ord p p.main) 0 Both o.entry).ways.returned
          (body_pass o u (tried o limit) ord p g p.main (bodies_pass o u (tried o limit) ord p p.main) 0 Both o.entry).on))
      main_alarms None e = tt
      main_alarms (Some f) e =
          let good = law.entry f e in
          let r = all_hold formed p.main (omega arith) f e (bodies_pass o u (tried o limit) ord p p.main)
          (λ j. bodies_known p.main j (omega arith)) f.body (scopes_free p formed p.main f e (omega arith)) (frame_of f)
          false (fits_at p formed p.main f e).2 (tame_at p.functions tame p.main f e) o.entry o.entry none (frame_of f)
          (result_block f) (λ b i. i) (λ b i. i) good (tt, (tt, tt)) in
          let q = body_pass o u (tried o limit) ord p (Some f) p.main (bodies_pass o u (tried o limit) ord p p.main) 0 Both o.entry in
          only_both q.log.faults _ r.alarms
          (at_end (join_on o q.ways.returned q.on)
          (join_holds o (Good o.entry (frame_of f) (result_block f)) (joins o.entry (frame_of f) (result_block f))
          q.ways.returned q.on r.ways.1.1 r.at_end))
        where
          at_end : (v : Option S) → IfReached (Good o.entry (frame_of f) (result_block f)) v
              → OnlyUndefined (faults_at_end o (Some f) v)
          at_end None i = tt
          at_end (Some s) i = only_at f.line (o.ended f s)
              (law.ended f e o.entry s (frame_of f) (result_block f) (λ b i. i) i)

pub tame_report : {S : Type 0} (p : Program) (o : StateOps S) (Good : S → (live res : List ℕ) → S → Type 0)
    (rank : S → ℕ) (limit : ℕ) → Tamely p o Good rank limit → is_well_formed p ≡ true → is_tame p ≡ true
    → (u : ℕ) (ord : Side → Order) → IsUndefinedOnly (report_of o u limit ord p)
tame_report p o Good rank limit law formed tame u ord =
    let t = and_parts (are_tame_types p.types)
    (list_all (λ (f : Function). are_tame p.types f.body) p.functions) tame in
    gathered_placed IsU _ (main_alarms p o Good rank limit law u ord formed t.1 (slice_get p.functions p.main) refl)
