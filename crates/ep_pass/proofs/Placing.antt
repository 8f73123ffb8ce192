-- Alarms stand where the text allows their kind.
use Rattle.std.proofs.Common.{◌≡◌, ◌⊎◌, inl, inr, sym, subst, ℕ, zero, suc, ◌-◌, List, [], ◌∷◌, ◌++◌, refl, fold, map}
use Rattle.ep_core.proofs.Operands.{callee_at}
use Rattle.std.proofs.Common.{Option, Some, None, Bool, true, false, ◌&&◌, ◌||◌, if◌then◌else◌, nat_eq, slice_get}
use Rattle.std.proofs.Common.{arith}
use Rattle.std.specs.List.{AllByRecursion}
use Rattle.std.proofs.lemmas.Bool.{or_left, or_right, and_from, and_parts}
use Rattle.ep_int.specs.declared.types.Order.{Order}
use Rattle.ep_alarms.specs.declared.types.Alarm.{Alarm}
use Rattle.ep_alarms.specs.declared.types.AlarmKind.{AlarmKind}
use Rattle.ep_alarms.specs.declared.types.AlarmKind.TheVariants.{E1, E2, E3, E4}
use Rattle.ep_alarms.specs.Alarm.{before, joined}
use Rattle.ep_alarms.specs.Report.{added, gathered}
use Rattle.ep_core.specs.Program.{Expr, Dest, Simple, nothing, eval, assign, clear, copy_aggregate, copy_bytes, fill}
use Rattle.ep_core.specs.Program.{input, output, read_bytes, write_bytes, returns, What, simple, call, if_else, loop}
use Rattle.ep_core.specs.Program.{break_loop, continue_loop, by_order, scope, Stmts, stop, more, Function, Program}
use Rattle.ep_core.specs.Exec.{Way, on, broken, continued, returned, is_order, result_in, callee_of, frame_of}
use Rattle.ep_core.specs.Runs.{Side, left, right}
use Rattle.ep_core.specs.Ways.{has_way, ways_of_all}
use Rattle.ep_core.specs.WellFormed.{result_type, is_tested, are_plain, arguments_fit, takes_result, call_fits}
use Rattle.ep_core.specs.WellFormed.{simple_fits, what_fits, stmts_fit, is_well_formed}
use Rattle.ep_core.proofs.Operands.{fits_at}
use Rattle.ep_core.proofs.Sorts.{three as three_parts}
use Rattle.ep_core.specs.Ways.{Ways as TextWays}
use Rattle.ep_pass.specs.States.{Mode, Both, One, Fault, Transfer, Verdict, stuck, same, differs, StateOps}
use Rattle.ep_pass.specs.Pass.{Ways, none, Event, Log, Pass, ends, so_far, branch, found_at, alarm_of, differ}
use Rattle.ep_pass.specs.Pass.{too_long, jumps}
use Rattle.ep_pass.specs.Pass.{way_of, simple_pass, only_on, only_broken, only_continued, only_returned, join_on}
use Rattle.ep_pass.specs.Pass.{go_on, join_ways, then_pass, rowed, either_pass, leave_call, scope_pass, call_pass}
use Rattle.ep_pass.specs.Pass.{body_ends, agreed, decided, tested, parted, apart, arm_of, by_order_pass}
use Rattle.ep_pass.specs.Pass.{unrolled, in_body, one_turn, cut_turn, one_rounds, entered, lone, joint_turn}
use Rattle.ep_pass.specs.Pass.{is_stable, next_head, dropped, settled, from_head, tried, joint_rounds, loop_pass}
use Rattle.ep_pass.specs.Pass.{pass, pass_all, body_pass, bodies_pass, main_pass, faults_at_end, all_faults}
use Rattle.ep_pass.specs.Pass.{report_of}
use Rattle.ep_pass.specs.Places.{is_one_of, kinds_if, is_kind, expr_may, exprs_may, dest_may, simple_may, result_may}
use Rattle.ep_pass.specs.Places.{may_differ, what_may, stmts_may, body_may, answer_if, bodies_may, end_may, may_stand}
use Rattle.ep_pass.specs.Honest.{is_alone, AreOf, Honest}
use Rattle.ep_pass.proofs.Reaching.{at}
use Rattle.ep_pass.proofs.Parting.{branch_never, Only, next_returns, entered_far, turn_body, all_only, none_at}
use Rattle.ep_pass.proofs.Tried.{tries, rounds}
use Rattle.ep_pass.proofs.Differing.{Differ, differ_back as back, differ_true, twice_differ, twice_differ_back}

-- ---- what is found, and reports

module _ (P : ℕ → AlarmKind → Type 0) where
  abbrev pub Placed : List Event → Type 0
  Placed = AllByRecursion (λ (x : Event). P (alarm_of x).line (alarm_of x).kind)

  abbrev pub PlacedAlarms : List Alarm → Type 0
  PlacedAlarms = AllByRecursion (λ (a : Alarm). P a.line a.kind)

  pub placed_both : (fs gs : List Event) → Placed fs → Placed gs → Placed (fs ++ gs)
  placed_both [] gs h i = i
  placed_both (a ∷ fs) gs h i = (h.0, placed_both fs gs h.1 i)

  placed_at : (l : ℕ) (test : AlarmKind → Bool) (fs : List Fault) → AreOf test fs
      → ((k : AlarmKind) → test k ≡ true → P l k) → Placed (found_at l fs)
  placed_at l test [] h i = tt
  placed_at l test (f ∷ fs) h i = (i f.kind h.0, placed_at l test fs h.1 i)

  placed_if : (t : Bool) (fs gs : List Alarm) → PlacedAlarms fs → PlacedAlarms gs
      → PlacedAlarms (if t then fs else gs)
  placed_if true fs gs h i = h
  placed_if false fs gs h i = i

  added_placed : (fs : List Alarm) (a : Alarm) → PlacedAlarms fs → P a.line a.kind → PlacedAlarms (added fs a)
  added_placed [] a h i = (i, tt)
  added_placed (b ∷ bs) a h i =
      placed_if (before b a) (b ∷ added bs a) (if before a b then a ∷ b ∷ bs else joined b a ∷ bs)
      (h.0, added_placed bs a h.1 i)
      (placed_if (before a b) (a ∷ b ∷ bs) (joined b a ∷ bs) (i, h) (h.0, h.1))

  fold_placed : (fs gs : List Alarm) → PlacedAlarms fs → PlacedAlarms gs → PlacedAlarms (fold added gs fs)
  fold_placed [] gs h i = i
  fold_placed (f ∷ fs) gs h i = fold_placed fs (added gs f) h.1 (added_placed gs f i h.0)

  shown_placed : (es : List Event) → Placed es → PlacedAlarms (map alarm_of es)
  shown_placed [] h = tt
  shown_placed (e ∷ es) h = (h.0, shown_placed es h.1)

  pub gathered_placed : (es : List Event) → Placed es → PlacedAlarms (gathered (map alarm_of es))
  gathered_placed es h = fold_placed (map alarm_of es) [] (shown_placed es h) tt

placed_more : (P Q : ℕ → AlarmKind → Type 0) → ((l : ℕ) (k : AlarmKind) → P l k → Q l k) → (fs : List Event)
    → Placed P fs → Placed Q fs
placed_more P Q h [] i = tt
placed_more P Q h (a ∷ fs) i = (h (alarm_of a).line (alarm_of a).kind i.0, placed_more P Q h fs i.1)

-- ---- passes

module _ (P : ℕ → AlarmKind → Type 0) {S : Type 0} (o : StateOps S) where
  abbrev pub Tells : Pass S → Type 0
  Tells p = Placed P p.log.faults

  simple_tells : (k : Way) (l : ℕ) (g : Transfer S) → Placed P (found_at l g.faults) → Tells (simple_pass k l g)
  simple_tells on l g h = h
  simple_tells broken l g h = h
  simple_tells continued l g h = h
  simple_tells returned l g h = h

  differ_placed : (l : ℕ) (u : Option S) → (u ≡ None) ⊎ P l E3 → Placed P (differ l u)
  differ_placed l None h = tt
  differ_placed l (Some s) (inl e) = absurd cc
  differ_placed l (Some s) (inr h) = (h, tt)

  branch_tells : (u : Option S) (go : S → Pass S) → ((s : S) → Tells (go s)) → Tells (branch u go)
  branch_tells None go h = tt
  branch_tells (Some s) go h = h s

  either_tells : (p q : Pass S) → Tells p → Tells q → Tells (either_pass o p q)
  either_tells p q h i = placed_both P p.log.faults q.log.faults h i

  go_on_tells : (u : Option S) (w : Ways S) (g : Log S) (go : S → Ways S → Pass S) → Placed P g.faults
      → ((s : S) (w : Ways S) → Tells (go s w)) → Tells (go_on o u w g go)
  go_on_tells None w g go h i = h
  go_on_tells (Some s) w g go h i = placed_both P g.faults (go s w).log.faults h (i s w)

  then_tells : (p : Pass S) (w : Ways S) (go : S → Ways S → Pass S) → Tells p
      → ((s : S) (w : Ways S) → Tells (go s w)) → Tells (then_pass o p w go)
  then_tells p w go h i = go_on_tells p.on (join_ways o w p.ways) p.log go h i

  decided_tells : (a : Pass S) → Tells a → (m : Mode) (v : Verdict) (e : Expr) (p q r t : S → Pass S) (s : S)
      → ((s : S) → Tells (p s)) → ((s : S) → Tells (q s)) → ((s : S) → Tells (r s)) → ((s : S) → Tells (t s))
      → Tells (decided o a m v e p q r t s)
  decided_tells a n m stuck e p q r t s hp hq hr ht = n
  decided_tells a n m same e p q r t s hp hq hr ht =
      let p1 = branch (agreed o m e true s) p in
      either_tells (either_pass o a p1) (branch (agreed o m e false s) t)
      (either_tells a p1 n (branch_tells (agreed o m e true s) p hp)) (branch_tells (agreed o m e false s) t ht)
  decided_tells a n (One m) differs e p q r t s hp hq hr ht =
      let p1 = branch (agreed o (One m) e true s) p in
      either_tells (either_pass o a p1) (branch (agreed o (One m) e false s) t)
      (either_tells a p1 n (branch_tells (agreed o (One m) e true s) p hp))
      (branch_tells (agreed o (One m) e false s) t ht)
  decided_tells a n Both differs e p q r t s hp hq hr ht =
      let p1 = branch (o.assume e true true s) p in
      let p2 = branch (o.assume e true false s) q in
      let p3 = branch (o.assume e false true s) r in
      let p4 = branch (o.assume e false false s) t in
      let a1 = either_pass o a p1 in
      let a2 = either_pass o a1 p2 in
      either_tells (either_pass o a2 p3) p4
      (either_tells a2 p3
      (either_tells a1 p2 (either_tells a p1 n (branch_tells (o.assume e true true s) p hp))
      (branch_tells (o.assume e true false s) q hq))
      (branch_tells (o.assume e false true s) r hr))
      (branch_tells (o.assume e false false s) t ht)

  unrolled_tells : (turn last : Ways S → S → Pass S) → ((w : Ways S) (s : S) → Tells (turn w s))
      → ((w : Ways S) (s : S) → Tells (last w s)) → (u : ℕ) (s : S) (w : Ways S) → Tells (unrolled o turn last u s w)
  unrolled_tells turn last h i zero s w = i w s
  unrolled_tells turn last h i (suc u) s w =
      go_on_tells (turn w s).on (turn w s).ways (turn w s).log (unrolled o turn last u) (h w s)
      (unrolled_tells turn last h i u)

  -- ---- the sides part
  module _ (l : ℕ) (x y : TextWays) (p : Pass S) (go : S → Pass S) (hx : Only o x p) (hy : (s : S) → Only o y (go s))
      (may : (k j : Way) → Differ k j → has_way x k ≡ true → has_way y j ≡ true → P l E3) (hp : Tells p)
      (hg : (s : S) → Tells (go s)) where
    gone : (j : Way) (u : Option S) → u ≡ None → at j (branch u go) ≡ None
    gone on None e = refl
    gone broken None e = refl
    gone continued None e = refl
    gone returned None e = refl
    gone j (Some s) e = absurd cc

    pair : (k j : Way) → Differ k j → (at j (branch (at k p) go) ≡ None) ⊎ P l E3
    pair k j d = by_text (has_way x k) (has_way y j) refl refl
      where
        by_text : (a b : Bool) → has_way x k ≡ a → has_way y j ≡ b → (at j (branch (at k p) go) ≡ None) ⊎ P l E3
        by_text false b e f = inl (gone j (at k p) (hx k e))
        by_text true false e f = inl (branch_never o j (at k p) go (λ s. hy s j f))
        by_text true true e f = inr (may k j d e f)

    three : (k a b c : Way) → Differ k a → Differ k b → Differ k c
        → Placed P
        (differ l (at a (branch (at k p) go))
        ++ (differ l (at b (branch (at k p) go)) ++ differ l (at c (branch (at k p) go))))
    three k a b c da db dc =
        let q = branch (at k p) go in
        placed_both P (differ l (at a q)) _ (differ_placed l (at a q) (pair k a da))
        (placed_both P (differ l (at b q)) _ (differ_placed l (at b q) (pair k b db))
        (differ_placed l (at c q) (pair k c dc)))

    arm_tells : (k : Way) → Tells (branch (at k p) go)
    arm_tells k = branch_tells (at k p) go hg

    parted_tells : Tells (parted o l p go)
    parted_tells =
        let q1 = only_on l (branch p.on go) in
        let q2 = only_broken l (branch p.ways.broken go) in
        let q3 = only_continued l (branch p.ways.continued go) in
        let q4 = only_returned l (branch p.ways.returned go) in
        placed_both P p.log.faults _ hp
        (either_tells (either_pass o (either_pass o q1 q2) q3) q4
        (either_tells (either_pass o q1 q2) q3
        (either_tells q1 q2
        (placed_both P (branch p.on go).log.faults _ (arm_tells on) (three on broken continued returned refl refl refl))
        (placed_both P (branch p.ways.broken go).log.faults _ (arm_tells broken)
        (three broken on continued returned refl refl refl)))
        (placed_both P (branch p.ways.continued go).log.faults _ (arm_tells continued)
        (three continued on broken returned refl refl refl)))
        (placed_both P (branch p.ways.returned go).log.faults _ (arm_tells returned)
        (three returned on broken continued refl refl refl)))

  -- ---- tests and loops on one line
  module _ (strides : Bool) (l : ℕ) (e : Expr)
      (tests : (m : Mode) (s : S) → AreOf (λ k. expr_may strides k e) (o.test m e s).faults)
      (of_test : (k : AlarmKind) → expr_may strides k e ≡ true → P l k) where
    tested_tells : (a : Pass S) → Tells a → (m : Mode) (p q r t : S → Pass S) (s : S) → ((s : S) → Tells (p s))
        → ((s : S) → Tells (q s)) → ((s : S) → Tells (r s)) → ((s : S) → Tells (t s))
        → Tells (tested o a m e l p q r t s)
    tested_tells a n m p q r t s hp hq hr ht =
        placed_both P (found_at l (o.test m e s).faults) _
        (placed_at P l (λ k. expr_may strides k e) (o.test m e s).faults (tests m s) of_test)
        (decided_tells a n m (o.test m e s).verdict e p q r t s hp hq hr ht)

    module _ (u limit : ℕ) (body : (before : ℕ) → Mode → S → Pass S) (returns : Bool)
        (never : returns ≡ false → (m : Mode) (s : S) → at returned (body 0 m s) ≡ None) (of_e4 : P l E4)
        (of_e3 : returns ≡ true → P l E3) (h : (m : Mode) (s : S) → Tells (body 0 m s)) where
      one_tells : (m : Side) (w : Ways S) (s : S) → Tells (one_turn o u l e (body 0) m w s)
      one_tells m w s =
          tested_tells (so_far w) tt (One m) (in_body o u l e (body 0) (One m)) (λ s. ends []) (λ s. ends [])
          (jumps broken) s (h (One m)) (λ s. tt) (λ s. tt) (λ s. tt)

      cut_tells : (m : Side) (w : Ways S) (s : S) → Tells (cut_turn o u l e (body 0) m w s)
      cut_tells m w s =
          tested_tells (so_far w) tt (One m) (λ s. ends (too_long l)) (λ s. ends []) (λ s. ends []) (jumps broken) s
          (λ s. (of_e4, tt)) (λ s. tt) (λ s. tt) (λ s. tt)

      rounds_tells : (m : Side) (j : ℕ) (s : S) (w : Ways S) → Tells (one_rounds o u l e (body 0) m j s w)
      rounds_tells m j s w =
          unrolled_tells (one_turn o u l e (body 0) m) (cut_turn o u l e (body 0) m) (one_tells m)
          (cut_tells m) j s w

      entered_tells : (m : Side) (j : ℕ) (s : S) → Tells (entered o u l e (body 0) m j s)
      entered_tells m zero s = (of_e4, tt)
      entered_tells m (suc j) s =
          then_tells (in_body o u l e (body 0) (One m) s) none (one_rounds o u l e (body 0) m j) (h (One m) s)
          (rounds_tells m j)

      far : (m : Side) (s : S) (t : Bool) → returns ≡ t
          → (at returned (entered o u l e (body 0) m u s) ≡ None) ⊎ P l E3
      far m s true z = inr (of_e3 z)
      far m s false z = inl (entered_far o u limit l e body (never z) m u s)

      lone_tells : (m : Side) (s : S) → Tells (lone o u l e (body 0) m s)
      lone_tells m s =
          placed_both P (entered o u l e (body 0) m u s).log.faults _ (entered_tells m u s)
          (differ_placed l (entered o u l e (body 0) m u s).ways.returned (far m s returns refl))

      turn_tells : (w : Ways S) (s : S) → Tells (joint_turn o u l e (body 0) w s)
      turn_tells w s =
          tested_tells (so_far w) tt Both (in_body o u l e (body 0) Both) (lone o u l e (body 0) left)
          (lone o u l e (body 0) right) (jumps broken) s (h Both) (lone_tells left) (lone_tells right) (λ s. tt)

      settled_tells : (w : Ways S) (n : ℕ) (g : S)
          → Tells (settled o (joint_turn o u l e (body 0) w) n g)
      settled_tells w zero g = turn_tells w o.empty
      settled_tells w (suc n) g =
          let t = joint_turn o u l e (body 0) w in
          let next = next_head o g (t g).on in
          by_stable (is_stable o g (t g).on) (settled o t n next)
          (settled_tells w n next)
        where
          by_stable : (y : Bool) (q : Pass S) → Tells q
              → Tells
              (if y then from_head g (joint_turn o u l e (body 0) w g)
              else dropped (joint_turn o u l e (body 0) w g) q)
          by_stable true q r = turn_tells w g
          by_stable false q r = r

      both_tells : (j : ℕ) (s : S) (w : Ways S) → Tells (joint_rounds o u (tried o limit) l e body j 0 s w)
      both_tells j s w =
          subst Tells (sym (rounds o u limit l e body j s w))
          (unrolled_tells (joint_turn o u l e (body 0)) (tries o u limit l e body) turn_tells
          (λ w s. settled_tells w (limit - 1) (o.reshared s)) j s w)

      loop_tells : (m : Mode) (first : Bool) (s : S) → Tells (loop_pass o u (tried o limit) l e body 0 m first s)
      loop_tells Both true s = both_tells u s none
      loop_tells Both false s =
          then_tells (in_body o u l e (body 0) Both s) none (joint_rounds o u (tried o limit) l e body (u - 1) 0) (h Both s)
          (both_tells (u - 1))
      loop_tells (One m) true s = rounds_tells m u s none
      loop_tells (One m) false s = entered_tells m u s

-- ---- statements

-- a mode where one machine may run alone, or may not
abbrev Allowed : Mode → (alone : Bool) → Type 0
Allowed Both alone = Unit {0}
Allowed (One m) true = Unit {0}
Allowed (One m) false = ⊥

allowed_true : (m : Mode) → Allowed m true
allowed_true Both = tt
allowed_true (One m) = tt

at_line : (l : ℕ) (t : Bool) → t ≡ true → (nat_eq l l && t) ≡ true
at_line l t h = let e : nat_eq l l ≡ true = grind arith in and_from (nat_eq l l) t e h

module _ (strides : Bool) (k : AlarmKind) where
  io_more : (t : Bool) → (is_one_of (kinds_if false (E2 ∷ [])) k || t) ≡ true
      → (is_one_of (kinds_if true (E2 ∷ [])) k || t) ≡ true
  io_more t h = or_right _ t h

  put_more : (t : Bool) → (is_one_of (E1 ∷ kinds_if false (E2 ∷ [])) k || t) ≡ true
      → (is_one_of (E1 ∷ kinds_if true (E2 ∷ [])) k || t) ≡ true
  put_more t h = by_first (is_kind E1 k) refl h
    where
      by_first : (c : Bool) → is_kind E1 k ≡ c → ((c || false) || t) ≡ true
          → (is_one_of (E1 ∷ kinds_if true (E2 ∷ [])) k || t) ≡ true
      by_first true e h = or_left _ t (or_left _ _ e)
      by_first false e h = or_right _ t h

  may_more : (w : Simple) → simple_may strides k false w ≡ true → simple_may strides k true w ≡ true
  may_more nothing h = h
  may_more (eval e) h = h
  may_more (assign what a e) h = h
  may_more (clear a ty) h = h
  may_more (copy_aggregate a b ty) h = h
  may_more (copy_bytes a b n) h = h
  may_more (fill a e n) h = h
  may_more (input t d) h = io_more (dest_may strides k d) h
  may_more (output t e) h = put_more (expr_may strides k e) h
  may_more (read_bytes e n) h = io_more _ h
  may_more (write_bytes e n) h = put_more _ h
  may_more (returns None) h = h
  may_more (returns (Some e)) h = h

  allowed_may : (m : Mode) (alone : Bool) → Allowed m alone → (w : Simple) → simple_may strides k (is_alone m) w ≡ true
      → simple_may strides k alone w ≡ true
  allowed_may Both true a w h = may_more w h
  allowed_may Both false a w h = h
  allowed_may (One m) true a w h = h
  allowed_may (One m) false a w h = absurd a

module _ (p : Program) (strides : Bool) (formed : is_well_formed p ≡ true) {S : Type 0} (o : StateOps S)
    (honest : Honest p strides o) (u limit : ℕ) (ord : Side → Order) where
  module _ (here : ℕ) (fn : Function) (at_here : slice_get p.functions here ≡ Some fn) (ps : ℕ → (before : ℕ) → Mode → S → Pass S)
      (bo : AlarmKind → ℕ → Bool → ℕ → Bool)
      (known : (m : Mode) (alone : Bool) → Allowed m alone → (i : ℕ) (s : S)
      → Tells (λ l k. bo k l alone i ≡ true) o (ps i 0 m s)) where
    abbrev own : Option ℕ
    own = result_type p.blocks fn.result

    -- on this line an alarm of this kind may come of a statement, or of statements
    abbrev W : (alone : Bool) → What → (its : ℕ) → ℕ → AlarmKind → Type 0
    W alone w its l k = what_may strides k l p here (bo k l) alone w its ≡ true

    abbrev A : (alone : Bool) → Stmts → ℕ → AlarmKind → Type 0
    A alone ss l k = stmts_may strides k l p here (bo k l) alone ss ≡ true

    abbrev arm : Stmts → Mode → S → Pass S
    arm a n s = pass_all o u (tried o limit) ord p here ps a 0 n s none

    only : (a : Stmts) (m : Mode) (s : S) → Only o (ways_of_all a) (arm a m s)
    only a m s k z = all_only o u limit ord p here ps a m k z s none (none_at o u limit ord p here ps k)

    arms_tell : (P : ℕ → AlarmKind → Type 0) (l : ℕ) (a b : Stmts) (s : S)
        → ((k j : Way) → Differ k j → has_way (ways_of_all a) k ≡ true → has_way (ways_of_all b) j ≡ true → P l E3)
        → ((m : Mode) (s : S) → Tells P o (arm a m s)) → ((m : Mode) (s : S) → Tells P o (arm b m s))
        → Tells P o (apart o l (arm a) (arm b) s)
    arms_tell P l a b s may h i =
        parted_tells P o l (ways_of_all a) (ways_of_all b) (arm a (One left) s) (arm b (One right))
        (only a (One left) s)
        (only b (One right)) may (h (One left) s) (i (One right))

    order_tells : (P : ℕ → AlarmKind → Type 0) (m : Mode) (l : ℕ) (named : Order) (a b : Stmts) (s : S)
        → (may_differ (ways_of_all a) (ways_of_all b) ≡ true → P l E3) → ((m : Mode) (s : S) → Tells P o (arm a m s))
        → ((m : Mode) (s : S) → Tells P o (arm b m s)) → Tells P o (by_order_pass o ord m l named (arm a) (arm b) s)
    order_tells P Both l named a b s may h i = by_arms (is_order (ord left) named) (is_order (ord right) named)
      where
        by_arms : (t t' : Bool) → Tells P o (apart o l (arm_of o t (arm a) (arm b)) (arm_of o t' (arm a) (arm b)) s)
        by_arms true true = arms_tell P l a a s (λ k j d e f. may (twice_differ a b k j d e f)) h h
        by_arms true false =
            arms_tell P l a b s (λ k j d e f. may (differ_true (ways_of_all a) (ways_of_all b) k j d e f)) h i
        by_arms false true =
            arms_tell P l b a s
            (λ k j d e f. may (differ_true (ways_of_all a) (ways_of_all b) j k (back k j d) f e)) i h
        by_arms false false = arms_tell P l b b s (λ k j d e f. may (twice_differ_back a b k j d e f)) i i
    order_tells P (One m) l named a b s may h i = by_arm (is_order (ord m) named)
      where
        by_arm : (t : Bool) → Tells P o (arm_of o t (arm a) (arm b) (One m) s)
        by_arm true = h (One m) s
        by_arm false = i (One m) s

    call_tells : (P : ℕ → AlarmKind → Type 0) (k : ℕ) (f : Option Function) → callee_of p here k ≡ f → (m : Mode)
        (es : List Expr) (d : Option Dest) (seen : List ℕ) → call_fits p here own f es d seen ≡ true → (l : ℕ)
        (body : S → Pass S) (s : S)
        → ((k : AlarmKind) → (exprs_may strides k es || result_may strides k d) ≡ true → P l k)
        → ((s : S) → Tells P o (body s)) → Tells P o (call_pass o f m es d l body s)
    call_tells P k None e m es d seen fits l body s h i = tt
    call_tells P k (Some f) e m es d seen fits l body s h i =
        let t = and_parts (arguments_fit p.types p.blocks seen f.params es)
        (takes_result p.types p.blocks seen (result_type p.blocks f.result) d) fits in
        let c = callee_at p here k f e in
        let a = simple_pass on l (o.arguments m f es s) in
        let go1 = rowed o (λ (s : S). leave_call o (scope_pass o m (frame_of f) (body s))) in
        then_tells P o (then_pass o a none go1) none (rowed o (λ (s : S). simple_pass on l (o.result m f d s)))
        (then_tells P o a none go1
        (placed_at P l (λ k. exprs_may strides k es) (o.arguments m f es s).faults (honest.arguments m k f c es seen t.0 s)
        (λ k e. h k (or_left (exprs_may strides k es) (result_may strides k d) e))) (λ s w. i s))
        (λ s w. placed_at P l (λ k. result_may strides k d) (o.result m f d s).faults
        (honest.result m k f c d seen t.1 s)
        (λ k e. h k (or_right (exprs_may strides k es) (result_may strides k d) e)))

    simple_told : (w : Simple) (m : Mode) (alone : Bool) → Allowed m alone → (seen : List ℕ)
        → simple_fits p here own w seen ≡ true → (l : ℕ) (s : S)
        → Tells (W alone (simple w) l) o (pass o u (tried o limit) ord p here ps (simple w) 0 m l s)
    simple_told w m alone ok seen fits l s =
        subst
        (λ g. Tells (W alone (simple w) l) o (simple_pass (way_of w) l (o.simple m (result_in g) w s)))
        (sym at_here)
        (simple_tells (W alone (simple w) l) o (way_of w) l (o.simple m fn.result w s)
        (placed_at (W alone (simple w) l) l (λ k. simple_may strides k (is_alone m) w) (o.simple m fn.result w s).faults
        (honest.simple m here fn at_here w seen fits s)
        (λ k e. at_line l (simple_may strides k alone w) (allowed_may strides k m alone ok w e))))

    of_parting : (e : Expr) (a b : Stmts) (alone : Bool) (l : ℕ) → may_differ (ways_of_all a) (ways_of_all b) ≡ true
        → W alone (if_else e a b) l l E3
    of_parting e a b alone l z =
        or_left _ _
        (at_line l (expr_may strides E3 e || is_kind E3 E3 && may_differ (ways_of_all a) (ways_of_all b))
        (or_right _ _ (and_from _ _ refl z)))

    mutual
      pub pass_tells : (w : What) (m : Mode) (alone : Bool) → Allowed m alone → (seen : List ℕ) (j : Bool)
          → what_fits p here own w seen j ≡ true → (l : ℕ) (s : S)
          → Tells (W alone w l) o (pass o u (tried o limit) ord p here ps w 0 m l s)
      pass_tells (simple w) m alone ok seen j fits l s = simple_told w m alone ok seen fits l s
      pass_tells (call f es d) m alone ok seen j fits l s =
          call_tells (W alone (call f es d) l) f (callee_of p here f) refl m es d seen fits l (ps f 0 m) s
          (λ k e. or_left _ (bo k l alone f) (at_line l (exprs_may strides k es || result_may strides k d) e))
          (λ s. placed_more (λ l k. bo k l alone f ≡ true) (W alone (call f es d) l)
          (λ i k e. or_right (nat_eq l i && (exprs_may strides k es || result_may strides k d)) _ e) (ps f 0 m s).log.faults
          (known m alone ok f s))
      pass_tells (if_else e a b) m alone ok seen j fits l s =
          let t = three_parts (is_tested p.types p.blocks seen e) (stmts_fit p here own a seen j)
          (stmts_fit p here own b seen j) fits in
          let P = W alone (if_else e a b) l in
          let h : (m : Mode) (s : S) → Tells P o (arm a m s)
          = λ m s. placed_more (A true a) P (λ i k z. or_right _ _ (or_left _ _ z)) (arm a m s).log.faults
          (all_tells a m true (allowed_true m) seen j t.1 s none) in
          let i : (m : Mode) (s : S) → Tells P o (arm b m s)
          = λ m s. placed_more (A true b) P (λ i k z. or_right _ _ (or_right _ _ z)) (arm b m s).log.faults
          (all_tells b m true (allowed_true m) seen j t.2 s none) in
          tested_tells P o strides l e (λ m s. honest.test m e seen t.0 s)
          (λ k z. or_left _ _ (at_line l (expr_may strides k e || is_kind E3 k && may_differ (ways_of_all a) (ways_of_all b))
          (or_left _ _ z)))
          (ends []) tt m (arm a m) (apart o l (arm a) (arm b)) (apart o l (arm b) (arm a)) (arm b m) s (h m)
          (λ s. arms_tell P l a b s
          (λ k j d y z. of_parting e a b alone l (differ_true (ways_of_all a) (ways_of_all b) k j d y z)) h i)
          (λ s. arms_tell P l b a s
          (λ k j d y z. of_parting e a b alone l (differ_true (ways_of_all a) (ways_of_all b) j k (back k j d) z y)) i
          h)
          (i m)
      pass_tells (loop first e a b) m alone ok seen j fits l s =
          let t = three_parts (is_tested p.types p.blocks seen e) (stmts_fit p here own a seen true)
          (are_plain b && stmts_fit p here own b seen j) fits in
          let r = and_parts (are_plain b) (stmts_fit p here own b seen j) t.2 in
          let P = W alone (loop first e a b) l in
          let h : (m : Mode) (s : S) → Tells P o (arm a m s)
          = λ m s. placed_more (A true a) P (λ i k z. or_right _ _ (or_left _ _ z)) (arm a m s).log.faults
          (all_tells a m true (allowed_true m) seen true t.1 s none) in
          let i : (m : Mode) (s : S) → Tells P o (arm b m s)
          = λ m s. placed_more (A true b) P (λ i k z. or_right _ _ (or_right _ _ z)) (arm b m s).log.faults
          (all_tells b m true (allowed_true m) seen j r.1 s none) in
          loop_tells P o strides l e (λ m s. honest.test m e seen t.0 s)
          (λ k z. or_left _ _
          (at_line l (expr_may strides k e || (is_kind E4 k || is_kind E3 k && (ways_of_all a).by_return)) (or_left _ _ z))) u
          limit
          (turn_body o u limit ord p here ps a b) (ways_of_all a).by_return
          (λ z m s. next_returns o (arm a m s) (arm b m)
          (all_only o u limit ord p here ps a m returned z s none refl))
          (or_left _ _
          (at_line l (expr_may strides E4 e || (is_kind E4 E4 || is_kind E3 E4 && (ways_of_all a).by_return))
          (or_right _ _ (or_left (is_kind E4 E4) (is_kind E3 E4 && (ways_of_all a).by_return) refl))))
          (λ z. or_left _ _
          (at_line l (expr_may strides E3 e || (is_kind E4 E3 || is_kind E3 E3 && (ways_of_all a).by_return))
          (or_right (expr_may strides E3 e) _ (or_right (is_kind E4 E3) _ (and_from _ _ refl z)))))
          (λ n s. then_tells P o (body_ends o (arm a n s)) none (rowed o (arm b n)) (h n s) (λ s w. i n s)) m first s
      pass_tells break_loop m alone ok seen j fits l s = tt
      pass_tells continue_loop m alone ok seen j fits l s = tt
      pass_tells (by_order named a b) m alone ok seen j fits l s =
          let t = and_parts (stmts_fit p here own a seen j) (stmts_fit p here own b seen j) fits in
          let P = W alone (by_order named a b) l in
          order_tells P m l named a b s
          (λ z. or_left _ _
          (at_line l (is_kind E3 E3 && may_differ (ways_of_all a) (ways_of_all b)) (and_from _ _ refl z)))
          (λ m s. placed_more (A true a) P (λ i k z. or_right _ _ (or_left _ _ z)) (arm a m s).log.faults
          (all_tells a m true (allowed_true m) seen j t.0 s none))
          (λ m s. placed_more (A true b) P (λ i k z. or_right _ _ (or_right _ _ z)) (arm b m s).log.faults
          (all_tells b m true (allowed_true m) seen j t.1 s none))
      pass_tells (scope bs a) m alone ok seen j fits l s =
          all_tells a m alone ok (bs ++ seen) j fits (o.enter m bs s) none

      pub all_tells : (ss : Stmts) (m : Mode) (alone : Bool) → Allowed m alone → (seen : List ℕ) (j : Bool)
          → stmts_fit p here own ss seen j ≡ true → (s : S) (w : Ways S)
          → Tells (A alone ss) o (pass_all o u (tried o limit) ord p here ps ss 0 m s w)
      all_tells stop m alone ok seen j fits s w = tt
      all_tells (more l a rest) m alone ok seen j fits s w =
          let t = and_parts (what_fits p here own a seen j) (stmts_fit p here own rest seen j) fits in
          let P = A alone (more l a rest) in
          let q = pass o u (tried o limit) ord p here ps a 0 m l s in
          let go = pass_all o u (tried o limit) ord p here ps rest 0 m in
          then_tells P o q w go
          (placed_more (W alone a l) P (λ i k z. or_left _ _ z) q.log.faults (pass_tells a m alone ok seen j t.0 l s))
          (λ s w. placed_more (A alone rest) P (λ i k z. or_right _ _ z) (go s w).log.faults
          (all_tells rest m alone ok seen j t.1 s w))

  -- ---- functions and programs

  abbrev B : ℕ → AlarmKind → ℕ → Bool → ℕ → Bool
  B n k l alone i = bodies_may strides k l p n alone i

  body_tells : (f : Option Function) (here : ℕ) → slice_get p.functions here ≡ f → (ps : ℕ → (before : ℕ) → Mode → S → Pass S) (bo : AlarmKind → ℕ → Bool → ℕ → Bool)
      → ((m : Mode) (alone : Bool) → Allowed m alone → (i : ℕ) (s : S)
      → Tells (λ l k. bo k l alone i ≡ true) o (ps i 0 m s))
      → (m : Mode) (alone : Bool) → Allowed m alone → (s : S)
      → Tells (λ l k. body_may strides k l p f here (bo k l) alone ≡ true) o (body_pass o u (tried o limit) ord p f here ps 0 m s)
  body_tells None here e ps bo known m alone ok s = tt
  body_tells (Some f) here e ps bo known m alone ok s =
      all_tells here f e ps bo known f.body m alone ok (frame_of f) false (fits_at p formed here f e).2 s none

  chosen_tells : (t : Bool) (x y : ℕ → AlarmKind → Bool) (a b : Mode → S → Pass S) (m : Mode) (s : S)
      → Tells (λ l k. x l k ≡ true) o (a m s) → Tells (λ l k. y l k ≡ true) o (b m s)
      → Tells (λ l k. answer_if strides k l p t (x l k) (y l k) ≡ true) o (arm_of o t a b m s)
  chosen_tells true x y a b m s h i = h
  chosen_tells false x y a b m s h i = i

  bodies_tell : (n : ℕ) (m : Mode) (alone : Bool) → Allowed m alone → (i : ℕ) (s : S)
      → Tells (λ l k. B n k l alone i ≡ true) o (bodies_pass o u (tried o limit) ord p n i 0 m s)
  bodies_tell zero m alone ok i s = tt
  bodies_tell (suc n) m alone ok i s =
      let f = slice_get p.functions n in
      chosen_tells (nat_eq i n) (λ l k. body_may strides k l p f n (B n k l) alone) (λ l k. B n k l alone i)
      (body_pass o u (tried o limit) ord p f n (bodies_pass o u (tried o limit) ord p n) 0)
      (bodies_pass o u (tried o limit) ord p n i 0) m s
      (body_tells f n refl (bodies_pass o u (tried o limit) ord p n) (B n) (bodies_tell n) m alone ok s)
      (bodies_tell n m alone ok i s)

  end_tells : (f : Option Function) → slice_get p.functions p.main ≡ f → (v : Option S)
      → Placed (λ l k. end_may strides k l p f ≡ true) (faults_at_end o f v)
  end_tells None e v = tt
  end_tells (Some f) e None = tt
  end_tells (Some f) e (Some s) =
      placed_at (λ l k. end_may strides k l p (Some f) ≡ true) f.line (is_kind E1) (o.ended f s) (honest.ended f e s)
      (λ k e. at_line f.line (is_kind E1 k) e)

  pub alarms_stand : PlacedAlarms (λ l k. may_stand strides k l p ≡ true) (report_of o u limit ord p)
  alarms_stand =
      let f = slice_get p.functions p.main in
      let main = main_pass o u (tried o limit) ord p in
      let last = join_on o main.ways.returned main.on in
      let P : ℕ → AlarmKind → Type 0 = λ l k. may_stand strides k l p ≡ true in
      gathered_placed P (all_faults o u (tried o limit) ord p)
      (placed_both P main.log.faults _
      (placed_more (λ l k. body_may strides k l p f p.main (B p.main k l) false ≡ true) P (λ l k e. or_left _ _ e)
      main.log.faults
      (body_tells f p.main refl (bodies_pass o u (tried o limit) ord p p.main) (B p.main) (bodies_tell p.main) Both false tt o.entry))
      (placed_more (λ l k. end_may strides k l p f ≡ true) P (λ l k e. or_right _ _ e)
      (faults_at_end o f last) (end_tells f refl last)))
