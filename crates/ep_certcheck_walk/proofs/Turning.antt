-- Tests, loops, given heads, and sides that go different ways, piece by piece.
use Rattle.std.proofs.Common.{◌≡◌, ◌<◌, ◌≤◌, ℕ, suc, ◌+◌, ◌-◌, Bool, true, false, List, [], ◌∷◌, ◌++◌, length, refl}
use Rattle.std.proofs.Common.{sym, ap, ◌∙◌, subst, arith, Option, Some, None, Result, Ok, Err, IsErrAnd, slice_get}
use Rattle.std.proofs.lemmas.List.{append-nil}
use Rattle.std.proofs.lemmas.Option.{slice_get_within}
use Rattle.ep_alarms.specs.declared.types.AlarmKind.TheVariants.{E4}
use Rattle.ep_core.specs.Program.{Expr, Stmts}
use Rattle.ep_core.specs.Exec.{Way, on, broken, continued, returned}
use Rattle.ep_core.specs.Runs.{Side, left, right}
use Rattle.ep_pass.specs.States.{Mode, Both, One, Verdict, stuck, same, differs}
use Rattle.ep_pass.specs.Pass.{Ways, Event, alarm, missing, plain_alarm, none, logged, Pass, passed, so_far, branch}
use Rattle.ep_pass.specs.Pass.{found_at, join_on, join_ways, go_on, then_pass, either_pass, decided, leave_loop}
use Rattle.ep_pass.specs.Pass.{comes_after, next_pass, rowed, past, differ, jumps, last_pass, lone, turn_counted}
use Rattle.ep_flows.specs.View.{ways_view, flow_view, mode_of, verdict_of, side_of}
use Rattle.ep_flows.specs.declared.flow.Flow.{Flow}
use Rattle.ep_flows.specs.declared.setting.Machine.{Machine}
use Rattle.ep_flows.specs.declared.setting.Running.{Running}
use Rattle.ep_flows.specs.declared.setting.Running.TheVariants.{Together, Alone}
use Rattle.ep_flows.specs.declared.setting.Truths.{Truths}
use Rattle.ep_flows.specs.declared.setting.Truths.TheVariants.{Stuck, Same, Differs}
use Rattle.ep_walk_parts.specs.Pieces.{Loop, Followed, turns, cut}
use Rattle.ep_certcheck_laws.specs.Checked.{outside_of, from_given}
use Rattle.ep_certcheck_walk.specs.declared.stop.Stop.{Stop}
use Rattle.ep_certcheck_walk.specs.Pieces.{body_at, heads, reached, row, only, right_from, parted_arms, turned, turn_of}
use Rattle.ep_certcheck_walk.specs.Pieces.{settled_last, last_of, rounds_of, begun_of, entered_of, loop_pass_of}
use Rattle.ep_certcheck_walk.specs.Pieces.{alone_of, followed, follows, late, two_of, four_of, tested_of}
use Rattle.ep_certcheck_walk.specs.Stops.{Course, checking, HasFound, Finds, IsStop}
use Rattle.ep_certcheck_walk.proofs.Alone.{entered_alone, followed_alone, followed_bare, lone_alone, row_alone}
use Rattle.ep_certcheck_walk.proofs.Alone.{rounds_alone, tested_by}
use Rattle.ep_certcheck_walk.proofs.Combined.{after_found, behind, comes_found, counts_both, counts_events, counts_none}
use Rattle.ep_certcheck_walk.proofs.Combined.{drop_last, drop_nothing, ends_found, front, go_front, goes_on, join_same}
use Rattle.ep_certcheck_walk.proofs.Combined.{joined_found, leave_found, only_found, only_front, stops_there}
use Rattle.ep_certcheck_walk.proofs.Combined.{then_either}
use Rattle.ep_certcheck_walk.specs.declared.stop.Stop.TheVariants as stops

module _ {S : Type 0} (k : Course S) where
  -- the exit of a stop
  pub err_finds : (p : Pass S) (x : Result (Flow S) Stop) (e : Stop) (old new : ℕ) → IsErrAnd x (λ t. t ≡ e)
      → IsStop k p.log.faults e → Finds k p x old new
  err_finds p (Ok f) e old new i h = absurd i
  err_finds p (Err t) e old new i h = subst (IsStop k p.log.faults) (sym i) h

  -- a pass under another name
  pub same_stops : (p q : Pass S) (t : Stop) → p ≡ q → IsStop k p.log.faults t → IsStop k q.log.faults t
  same_stops p q t e h = subst (λ z. IsStop k z.log.faults t) e h

  -- ---- the body of a loop, once

  module _ (p : Pass S) (next : S → Pass S) where
    abbrev body_pass : Pass S
    body_pass = turn_counted (next_pass (checking k) p next)

    abbrev body_ways : Ways S
    body_ways = record { broken = p.ways.broken; continued = None; returned = p.ways.returned }

    pub body_stops : (t : Stop) → IsStop k p.log.faults t → IsStop k body_pass.log.faults t
    body_stops t h = go_front k (join_on (checking k) p.ways.continued p.on) body_ways p.log
        (rowed (checking k) next) t h

    module _ (f : Flow S) (ended : Option S) (old mid : ℕ) (a : HasFound k p f old mid)
        (e : ended ≡ join_on k.raw (ways_view f.ways).continued f.on) where
      ended_is : ended ≡ join_on (checking k) p.ways.continued p.on
      ended_is = e ∙ join_same k f.ways.continued f.on
          ∙ ap (λ (z : Ways S). join_on (checking k) z.continued f.on) a.ways
          ∙ ap (join_on (checking k) p.ways.continued) a.on

      pub next_stops : (t : Stop) → IsStop k (branch ended next).log.faults t → IsStop k body_pass.log.faults t
      next_stops t h =
          subst (λ z. IsStop k (go_on (checking k) z body_ways p.log (rowed (checking k) next)).log.faults t) ended_is
          (each ended h)
        where
          each : (u : Option S) → IsStop k (branch u next).log.faults t
              → IsStop k (go_on (checking k) u body_ways p.log (rowed (checking k) next)).log.faults t
          each None h = subst (λ z. IsStop k z t) (sym a.log.quiet) h
          each (Some s) h = behind k p.log.faults (next s).log.faults t a.log.quiet h

      pub body_found : (g h : Flow S) (new : ℕ) → HasFound k (branch ended next) g mid new → h.on ≡ g.on
          → ways_view h.ways ≡ record {
            broken = (ways_view f.ways).broken;
            continued = None;
            returned = (ways_view f.ways).returned;
          } → HasFound k body_pass h old new
      body_found g h new b u w =
          let w' : ways_view h.ways ≡ body_ways = w
          ∙ ap (λ (z : Ways S). record { broken = z.broken; continued = None; returned = z.returned }) a.ways in
          after_found k (logged [] 1 []) (next_pass (checking k) p next) (Ok h) old old new (record {
            quiet = refl;
            taken = plus old;
            within = λ h. h;
          }) (subst (λ z. HasFound k (go_on (checking k) z body_ways p.log
          (rowed (checking k) next)) h old new) ended_is
          (each ended b u w'))
        where
          plus : (n : ℕ) → n ≡ n + 0
          plus n = omega arith

          each : (v : Option S) → HasFound k (branch v next) g mid new → h.on ≡ g.on → ways_view h.ways ≡ body_ways
              → HasFound k (go_on (checking k) v body_ways p.log (rowed (checking k) next)) h old new
          each None b u w = record {
            on = u ∙ b.on;
            ways = w;
            log = drop_last k p.log old new (counts_both k p.log (logged [] 0 []) old mid new a.log b.log);
          }
          each (Some s) b u w = record {
            on = u ∙ b.on;
            ways = w;
            log = counts_both k p.log (next s).log old mid new a.log b.log;
          }

  -- ---- what follows a pass whose ways out are the first

  module _ (a : Pass S) (go : S → Ways S → Pass S) (f : Flow S) (old mid : ℕ) (h : HasFound k a f old mid) where
    pub begun_stops : (g : Flow S) → f.on ≡ None → g.on ≡ None → ways_view g.ways ≡ ways_view f.ways
        → HasFound k (then_pass (checking k) a none go) g old mid
    begun_stops g e u w = stops_there k a.on (join_ways (checking k) none a.ways) a.log go g old mid (sym h.on
        ∙ e) u (w ∙ h.ways) h.log

    pub begun_goes : (next : S) (x : Result (Flow S) Stop) (new : ℕ) → f.on ≡ Some next
        → Finds k (go next (ways_view f.ways)) x mid new → Finds k (then_pass (checking k) a none go) x old new
    begun_goes next x new e j = goes_on k a.on (join_ways (checking k) none a.ways) a.log go next (ways_view f.ways) x
        old mid new (sym h.on ∙ e) (sym h.ways) h.log j

  -- ---- what leaves a loop

  pub left_found : (p q : Pass S) (f g : Flow S) (old new : ℕ) → q ≡ leave_loop p → HasFound k p f old new
      → g.on ≡ (leave_loop (flow_view f)).on → ways_view g.ways ≡ (leave_loop (flow_view f)).ways →
      HasFound k q g old new
  left_found p q f g old new e h a b = subst (λ z. HasFound k z g old new) (sym e) (leave_found k p f g old new h a b)

  pub left_stops : (p q : Pass S) (t : Stop) → q ≡ leave_loop p → IsStop k p.log.faults t → IsStop k q.log.faults t
  left_stops p q t e h = subst (λ z. IsStop k z.log.faults t) (sym e) h

  module _ (here : ℕ) where
    -- ---- the right side, from one way out of the left's

    module _ (a : Stmts) (w : Way) (l : ℕ) (v : Option S) (b : Flow S) (n : ℕ) where
      abbrev right_row : ℕ → Pass S
      right_row j = branch v (row k here a j (One right))

      at_zero : right_row n ≡ right_row 0
      at_zero = ap (branch v) (row_alone k here a n 0 right)

      pub right_first : (t : Stop) → IsStop k (right_row n).log.faults t
          → IsStop k (right_from k here a w l v (flow_view b)).log.faults t
      right_first t h =
          only_front k w l (right_row 0) t (subst (λ z. IsStop k z.log.faults t) at_zero h)

      module _ (f : Flow S) (mid : ℕ) (h : HasFound k (right_row n) f n mid) where
        at_zero_found : HasFound k (right_row 0) f n mid
        at_zero_found = subst (λ z. HasFound k z f n mid) at_zero h

        pub right_second : (t : Stop) → IsStop k (only w l (flow_view f)).log.faults t
            → IsStop k (right_from k here a w l v (flow_view b)).log.faults t
        right_second t i = only_found k w l (right_row 0) f (Err t) n mid mid at_zero_found i

        pub right_found : (g x : Flow S) → HasFound k (only w l (flow_view f)) g mid mid
            → x.on ≡ join_on k.raw b.on g.on → ways_view x.ways ≡ join_ways k.raw (ways_view b.ways) (ways_view g.ways)
            → HasFound k (right_from k here a w l v (flow_view b)) x n mid
        right_found g x i u y = joined_found k (only w l (right_row 0)) b g x n mid
            (only_found k w l (right_row 0) f (Ok g) n mid mid at_zero_found i) u y

    -- ---- the sides go different ways

    module _ (l : ℕ) (ls rs : Stmts) (s : S) (n n1 : ℕ) (f : Flow S)
        (h : HasFound k (row k here ls n (One left) s) f n n1) where
      abbrev p : Pass S
      p = row k here ls 0 (One left) s

      abbrev go : S → Pass S
      go = row k here rs 0 (One right)

      abbrev from_on : Pass S
      from_on = only on l (branch p.on go)

      abbrev from_broken : Pass S
      from_broken = only broken l (branch p.ways.broken go)

      abbrev from_continued : Pass S
      from_continued = only continued l (branch p.ways.continued go)

      abbrev from_returned : Pass S
      from_returned = only returned l (branch p.ways.returned go)

      abbrev first_two : Pass S
      first_two = either_pass (checking k) from_on from_broken

      abbrev first_three : Pass S
      first_three = either_pass (checking k) first_two from_continued

      abbrev all_four : Pass S
      all_four = either_pass (checking k) first_three from_returned

      h' : HasFound k p f n n1
      h' = subst (λ (z : S → Pass S). HasFound k (z s) f n n1) (row_alone k here ls n 0 left) h

      whole_goes : (x : Result (Flow S) Stop) (new : ℕ) → Finds k all_four x n1 new
          → Finds k (parted_arms k here l ls rs s) x n new
      whole_goes x new i = after_found k p.log all_four x n n1 new h'.log i

      whole_stops : (t : Stop) → IsStop k all_four.log.faults t → IsStop k (parted_arms k here l ls rs s).log.faults t
      whole_stops t i = whole_goes (Err t) n1 i

      module _ (f0 : Flow S) (e0 : f0.on ≡ None) (w0 : ways_view f0.ways ≡ none) where
        first_goes : (x : Result (Flow S) Stop) (new : ℕ)
            → Finds k (right_from k here rs on l f.on (flow_view f0)) x n1 new → Finds k from_on x n1 new
        first_goes x new i =
            let i1 = subst (λ z. Finds k (either_pass (checking k) (passed z (ways_view f0.ways) (logged [] 0 []))
            (only on l (branch f.on go))) x n1 new) e0 i in
            let i2 = subst (λ z. Finds k (either_pass (checking k) (passed None z (logged [] 0 []))
            (only on l (branch f.on go))) x n1 new) w0 i1 in
            each x (subst (λ z. Finds k (either_pass (checking k) (passed None none (logged [] 0 []))
            (only on l (branch z go))) x n1 new) h'.on i2)
          where
            each : (x : Result (Flow S) Stop)
                → Finds k (either_pass (checking k) (passed None none (logged [] 0 [])) from_on) x n1 new
                → Finds k from_on x n1 new
            each (Ok g) i = record { on = i.on; ways = i.ways; log = drop_nothing k from_on.log n1 new i.log }
            each (Err t) i = i

        pub parted_first : (t : Stop) → IsStop k (right_from k here rs on l f.on (flow_view f0)).log.faults t
            → IsStop k (parted_arms k here l ls rs s).log.faults t
        parted_first t i = whole_stops t
            (front k first_three.log.faults from_returned.log.faults t
            (front k first_two.log.faults from_continued.log.faults t
            (front k from_on.log.faults from_broken.log.faults t (first_goes (Err t) n1 i))))

        module _ (f1 : Flow S) (n2 : ℕ) (h1 : HasFound k (right_from k here rs on l f.on (flow_view f0)) f1 n1 n2) where
          second_goes : (x : Result (Flow S) Stop) (new : ℕ)
              → Finds k (right_from k here rs broken l (ways_view f.ways).broken (flow_view f1)) x n2 new
              → Finds k first_two x n1 new
          second_goes x new i = then_either k from_on from_broken f1 x n1 n2 new (first_goes (Ok f1) n2 h1)
              (subst (λ (z : Ways S). Finds k
              (right_from k here rs broken l z.broken (flow_view f1)) x n2 new) h'.ways i)

          pub parted_second : (t : Stop)
              → IsStop k (right_from k here rs broken l (ways_view f.ways).broken (flow_view f1)).log.faults t
              → IsStop k (parted_arms k here l ls rs s).log.faults t
          parted_second t i = whole_stops t
              (front k first_three.log.faults from_returned.log.faults t
              (front k first_two.log.faults from_continued.log.faults
              t (second_goes (Err t) n2 i)))

          module _ (f2 : Flow S) (n3 : ℕ)
              (h2 : HasFound k (right_from k here rs broken l (ways_view f.ways).broken (flow_view f1)) f2 n2 n3) where
            third_goes : (x : Result (Flow S) Stop) (new : ℕ)
                → Finds k (right_from k here rs continued l (ways_view f.ways).continued (flow_view f2)) x n3 new
                → Finds k first_three x n1 new
            third_goes x new i = then_either k first_two from_continued f2 x n1 n3 new (second_goes (Ok f2) n3 h2)
                (subst (λ (z : Ways S). Finds k (right_from k here rs continued l z.continued (flow_view f2)) x n3 new)
                h'.ways i)

            pub parted_third : (t : Stop)
                → IsStop k (right_from k here rs continued l (ways_view f.ways).continued (flow_view f2)).log.faults t
                → IsStop k (parted_arms k here l ls rs s).log.faults t
            parted_third t i = whole_stops t
                (front k first_three.log.faults from_returned.log.faults t (third_goes (Err t) n3 i))

            pub parted_goes : (f3 : Flow S) (n4 : ℕ)
                → HasFound k (right_from k here rs continued l (ways_view f.ways).continued (flow_view f2)) f3 n3 n4
                → (x : Result (Flow S) Stop) (new : ℕ)
                → Finds k (right_from k here rs returned l (ways_view f.ways).returned (flow_view f3)) x n4 new
                → Finds k (parted_arms k here l ls rs s) x n new
            parted_goes f3 n4 h3 x new i = whole_goes x new (then_either k first_three from_returned f3 x n1 n4 new
                (third_goes (Ok f3) n4 h3)
                (subst (λ (z : Ways S). Finds k (right_from k here rs returned l z.returned (flow_view f3)) x n4 new)
                h'.ways i))

    pub parted_none : (l : ℕ) (ls rs : Stmts) (s : S) (n : ℕ) (t : Stop)
        → IsStop k (row k here ls n (One left) s).log.faults t → IsStop k (parted_arms k here l ls rs s).log.faults t
    parted_none l ls rs s n t h =
        let p = row k here ls 0 (One left) s in
        let go = row k here rs 0 (One right) in
        front k p.log.faults (either_pass (checking k) (either_pass (checking k) (either_pass (checking k) (only on l
        (branch p.on go)) (only broken l (branch p.ways.broken go))) (only continued l (branch p.ways.continued go)))
        (only returned l (branch p.ways.returned go))).log.faults t
        (subst (λ (z : S → Pass S). IsStop k (z s).log.faults t) (row_alone k here ls n 0 left) h)

    -- ---- what follows a test

    pub follow_ok : (v w : Followed) (n : ℕ) (m : Mode) (a b i j : Bool) (s : S) (x : Result (Flow S) Stop)
        (old new : ℕ) → w ≡ v → i ≡ a → j ≡ b → Finds k (followed k here v n m a b s) x old new
        → Finds k (followed k here w n m i j s) x old new
    follow_ok v w n m a b i j s x old new e d g h = rw (e, d, g) h

    pub follows_stops : (fw : Followed) (n : ℕ) (m : Mode) (e : Expr) (a b : Bool) (s : S) (f : Flow S) (u : Option S)
        (t : Stop) → IsStop k (branch u (followed k here fw n m a b)).log.faults t
        → u ≡ reached k m e a b s
        → IsStop k (follows k here fw n m e a b s (flow_view f)).log.faults t
    follows_stops fw n m e a b s f u t h d =
        subst (λ z. IsStop k (branch z (followed k here fw n m a b)).log.faults t) d h

    pub follows_found : (fw : Followed) (n : ℕ) (m : Mode) (e : Expr) (a b : Bool) (s : S) (f g x : Flow S)
        (u : Option S) (new : ℕ) → u ≡ reached k m e a b s
        → HasFound k (branch u (followed k here fw n m a b)) g n new → x.on ≡ join_on k.raw f.on g.on
        → ways_view x.ways ≡ join_ways k.raw (ways_view f.ways) (ways_view g.ways)
        → HasFound k (follows k here fw n m e a b s (flow_view f)) x n new
    follows_found fw n m e a b s f g x u new d h i j =
        joined_found k (branch (reached k m e a b s) (followed k here fw n m a b)) f g x n new
        (subst (λ z. HasFound k (branch z (followed k here fw n m a b)) g n new) d h) i j

    module _ (fw : Followed) (n : ℕ) (m : Mode) (e : Expr) (s : S) (b f : Flow S) (n1 : ℕ)
        (h : HasFound k (follows k here fw n m e true true s (flow_view b)) f n n1) where
      late_is : n1 ≡ late k here fw n m e s
      late_is = h.log.taken

      pub two_goes : (x : Result (Flow S) Stop) (new : ℕ)
          → Finds k (follows k here fw n1 m e false false s (flow_view f)) x n1 new
          → Finds k (two_of k here fw n m e s (flow_view b)) x n new
      two_goes x new i =
          then_either k (follows k here fw n m e true true s (flow_view b))
          (branch (reached k m e false false s) (followed k here fw (late k here fw n m e s) m false false)) f x n
          n1 new h (subst (λ z. Finds k (follows k here fw z m e false false s (flow_view f)) x n1 new) late_is i)

    pub two_stops : (fw : Followed) (n : ℕ) (m : Mode) (e : Expr) (s : S) (p : Pass S) (t : Stop)
        → IsStop k (follows k here fw n m e true true s p).log.faults t
        → IsStop k (two_of k here fw n m e s p).log.faults t
    two_stops fw n m e s p t h =
        front k (follows k here fw n m e true true s p).log.faults
        (branch (reached k m e false false s) (followed k here fw (late k here fw n m e s) m false false)).log.faults
        t h

    module _ (fw : Followed) (n : ℕ) (e : Expr) (s : S) (b : Flow S) where
      abbrev W : Bool → Bool → ℕ → Pass S
      W x y j = branch (reached k Both e x y s) (followed k here fw j Both x y)

      abbrev F1 : Pass S
      F1 = follows k here fw n Both e true true s (flow_view b)

      abbrev F2 : Pass S
      F2 = follows k here fw n Both e true false s F1

      abbrev F3 : Pass S
      F3 = follows k here fw n Both e false true s F2

      abbrev F4 : Pass S
      F4 = four_of k here fw n e s (flow_view b)

      pub four_first : (t : Stop) → IsStop k F1.log.faults t → IsStop k F4.log.faults t
      four_first t h = front k F3.log.faults (W false false (late k here fw n Both e s)).log.faults t
          (front k F2.log.faults (W false true n).log.faults t (front k F1.log.faults (W true false n).log.faults t h))

      module _ (f1 : Flow S) (n1 : ℕ) (h1 : HasFound k F1 f1 n n1) where
        second_way : (x : Result (Flow S) Stop) (new : ℕ)
            → Finds k (follows k here fw n1 Both e true false s (flow_view f1)) x n1 new → Finds k F2 x n new
        second_way x new i = then_either k F1 (W true false n) f1 x n n1 new h1
            (subst (λ z. Finds k (either_pass (checking k) (flow_view f1) (branch (reached k Both e true false s)
            z)) x n1 new) (followed_alone k here fw n1 n Both true) i)

        pub four_second : (t : Stop)
            → IsStop k (follows k here fw n1 Both e true false s (flow_view f1)).log.faults t → IsStop k F4.log.faults t
        four_second t h = front k F3.log.faults (W false false (late k here fw n Both e s)).log.faults t
            (front k F2.log.faults (W false true n).log.faults t (second_way (Err t) n1 h))

        module _ (f2 : Flow S) (n2 : ℕ)
            (h2 : HasFound k (follows k here fw n1 Both e true false s (flow_view f1)) f2 n1 n2) where
          third_way : (x : Result (Flow S) Stop) (new : ℕ)
              → Finds k (follows k here fw n2 Both e false true s (flow_view f2)) x n2 new → Finds k F3 x n new
          third_way x new i = then_either k F2 (W false true n) f2 x n n2 new (second_way (Ok f2) n2 h2)
              (subst (λ z. Finds k (either_pass (checking k) (flow_view f2) (branch (reached k Both e false true s)
              z)) x n2 new) (followed_alone k here fw n2 n Both false) i)

          pub four_third : (t : Stop)
              → IsStop k (follows k here fw n2 Both e false true s (flow_view f2)).log.faults t
              → IsStop k F4.log.faults t
          four_third t h = front k F3.log.faults (W false false (late k here fw n Both e s)).log.faults t
              (third_way (Err t) n2 h)

          pub four_goes : (f3 : Flow S) (n3 : ℕ)
              → HasFound k (follows k here fw n2 Both e false true s (flow_view f2)) f3 n2 n3
              → (x : Result (Flow S) Stop) (new : ℕ)
              → Finds k (follows k here fw n3 Both e false false s (flow_view f3)) x n3 new → Finds k F4 x n new
          four_goes f3 n3 h3 x new i =
              let two : n2 ≡ n1 = same n1 n2 (W true false n1).log.heads h2.log.taken (followed_bare k here fw n1 Both
              true (reached k Both e true false s)) in
              let three : n3 ≡ n2 = same n2 n3 (W false true n2).log.heads h3.log.taken (followed_bare k here fw n2 Both
              false (reached k Both e false true s)) in
              then_either k F3 (W false false (late k here fw n Both e s)) f3 x n n3 new (third_way (Ok f3) n3 h3)
              (subst (λ z. Finds k (follows k here fw z Both e false false s (flow_view f3)) x n3 new)
              (three ∙ two ∙ h1.log.taken) i)
            where
              same : (a c : ℕ) (hs : List S) → c ≡ a + length hs → hs ≡ [] → c ≡ a
              same a c hs e d = e ∙ ap (λ z. a + length z) d ∙ plus a
                where
                  plus : (a : ℕ) → a + 0 ≡ a
                  plus a = omega arith

    -- ---- tests

    abbrev goes : Followed → ℕ → Expr → S → Mode → Verdict → Pass S → Pass S
    goes fw n e s m v a =
        decided (checking k) a m v e (followed k here fw n m true true) (followed k here fw n m true false)
        (followed k here fw n m false true) (followed k here fw (late k here fw n m e s) m false false) s

    stuck_is : (fw : Followed) (n : ℕ) (e : Expr) (s : S) (m : Mode) (a : Pass S) → goes fw n e s m stuck a ≡ a
    stuck_is fw n e s Both a = refl
    stuck_is fw n e s (One j) a = refl

    same_is : (fw : Followed) (n : ℕ) (e : Expr) (s : S) (m : Mode) (a : Pass S)
        → goes fw n e s m same a ≡ two_of k here fw n m e s a
    same_is fw n e s Both a = refl
    same_is fw n e s (One j) a = refl

    differs_is : (fw : Followed) (n : ℕ) (e : Expr) (s : S) (m : Mode) (j : Side) (a : Pass S) → m ≡ One j
        → goes fw n e s m differs a ≡ two_of k here fw n m e s a
    differs_is fw n e s Both j a d = absurd cc
    differs_is fw n e s (One i) j a d = refl

    pub test_first : (fw : Followed) (n : ℕ) (m : Mode) (e : Expr) (l : ℕ) (w : Ways S) (s : S) (t : Stop)
        → IsStop k (found_at l ((checking k).test m e s).faults) t
        → IsStop k (tested_of k here fw n m e l w s).log.faults t
    test_first fw n m e l w s t h =
        front k (found_at l ((checking k).test m e s).faults)
        (goes fw n e s m ((checking k).test m e s).verdict (so_far w)).log.faults t h

    module _ (fw : Followed) (n : ℕ) (mode : Running) (e : Expr) (l : ℕ) (w : Ways S) (s : S) (flow : Flow S)
        (truths : Truths) (quiet : found_at l ((checking k).test (mode_of mode) e s).faults ≡ [])
        (ev : verdict_of truths ≡ ((checking k).test (mode_of mode) e s).verdict) (en : flow.on ≡ None)
        (ew : ways_view flow.ways ≡ w) where
      flow_is : flow_view flow ≡ so_far w
      flow_is = ap (λ z. passed z (ways_view flow.ways) (logged [] 0 [])) en
          ∙ ap (λ z. passed None z (logged [] 0 [])) ew

      test_goes : (v : Truths) (x : Result (Flow S) Stop) (new : ℕ) → truths ≡ v
          → Finds k (goes fw n e s (mode_of mode) (verdict_of v) (flow_view flow)) x n new
          → Finds k (tested_of k here fw n (mode_of mode) e l w s) x n new
      test_goes v x new et h =
          let d : verdict_of v ≡ ((checking k).test (mode_of mode) e s).verdict = ap verdict_of (sym et) ∙ ev in
          let h1 = subst (λ z. Finds k (goes fw n e s (mode_of mode) (verdict_of v) z) x n new) flow_is h in
          let h2 = subst (λ z. Finds k (goes fw n e s (mode_of mode) z (so_far w)) x n new) d h1 in
          after_found k (logged (found_at l ((checking k).test (mode_of mode) e s).faults) 0 [])
          (goes fw n e s (mode_of mode) ((checking k).test (mode_of mode) e s).verdict (so_far w)) x n n new
          (counts_events k _ n quiet) h2

      pub test_stuck : truths ≡ Stuck → HasFound k (tested_of k here fw n (mode_of mode) e l w s) flow n n
      test_stuck et =
          test_goes Stuck (Ok flow) n et (subst (λ z. HasFound k z flow n n) (sym (stuck_is fw n e s (mode_of mode)
          (flow_view flow))) (record { on = refl; ways = refl; log = counts_none k n }))

      pub test_same : (x : Result (Flow S) Stop) (new : ℕ) → truths ≡ Same
          → Finds k (two_of k here fw n (mode_of mode) e s (flow_view flow)) x n new
          → Finds k (tested_of k here fw n (mode_of mode) e l w s) x n new
      test_same x new et h = test_goes Same x new et (subst (λ z. Finds k z x n new) (sym (same_is fw n e s
          (mode_of mode) (flow_view flow))) h)

      pub test_alone : (j : Machine) (x : Result (Flow S) Stop) (new : ℕ) → truths ≡ Differs → mode ≡ Alone j
          → Finds k (two_of k here fw n (mode_of mode) e s (flow_view flow)) x n new
          → Finds k (tested_of k here fw n (mode_of mode) e l w s) x n new
      test_alone j x new et em h = test_goes Differs x new et (subst (λ z. Finds k z x n new) (sym (differs_is fw n e s
          (mode_of mode) (side_of j) (flow_view flow) (ap mode_of em))) h)

      pub test_both : (x : Result (Flow S) Stop) (new : ℕ) → truths ≡ Differs → mode ≡ Together
          → Finds k (four_of k here fw n e s (flow_view flow)) x n new
          → Finds k (tested_of k here fw n (mode_of mode) e l w s) x n new
      test_both x new et em h =
          let is : goes fw n e s (mode_of mode) differs (flow_view flow) ≡ goes fw n e s Both differs (flow_view flow) =
          ap (λ z. goes fw n e s z differs (flow_view flow)) (ap mode_of em) in
          test_goes Differs x new et (subst (λ z. Finds k z x n new) (sym is) h)

    -- ---- loops

    module _ (l : Loop) (n : ℕ) where
      turn_same : (m : Mode) (w : Ways S) (s : S)
          → turn_of k here l n m w s ≡ tested_of k here (turns l) n m l.test l.line w s
      turn_same Both w s =
          tested_by k Both l.test l.line (turned k here l n Both)
          (lone (checking k) k.plan.unroll l.line l.test (body_at k here l n) left)
          (lone (checking k) k.plan.unroll l.line l.test (body_at k here l n) right) (jumps broken)
          (followed k here (turns l) n Both true true) (followed k here (turns l) n Both true false)
          (followed k here (turns l) n Both false true)
          (followed k here (turns l) (late k here (turns l) n Both l.test s) Both false false) (so_far w) s refl
          (lone_alone k here l n left) (lone_alone k here l n right) refl
      turn_same (One j) w s = refl

      pub turn_ok : (m : Mode) (w : Ways S) (s : S) (x : Result (Flow S) Stop) (old new : ℕ)
          → Finds k (tested_of k here (turns l) n m l.test l.line w s) x old new
          → Finds k (turn_of k here l n m w s) x old new
      turn_ok m w s x old new h = subst (λ z. Finds k z x old new) (sym (turn_same m w s)) h

      last_same : (m : Mode) (j : Side) (w : Ways S) (s : S) → m ≡ One j
          → last_of k here l n m w s ≡ last_pass (checking k) (tested_of k here (cut l.line) n m l.test l.line w s)
      last_same Both j w s e = absurd cc
      last_same (One i) j w s e = refl

      pub last_alone : (m : Mode) (j : Side) (w : Ways S) (s : S) (f g : Flow S) (old new : ℕ) → m ≡ One j
          → HasFound k (tested_of k here (cut l.line) n m l.test l.line w s) f old new → g.on ≡ None
          → ways_view g.ways ≡ ways_view f.ways → HasFound k (last_of k here l n m w s) g old new
      last_alone m j w s f g old new e h a b =
          let q = tested_of k here (cut l.line) n m l.test l.line w s in
          subst (λ z. HasFound k z g old new) (sym (last_same m j w s e))
          (record { on = a; ways = b ∙ h.ways; log = h.log })

      pub last_stops : (m : Mode) (j : Side) (w : Ways S) (s : S) (t : Stop) → m ≡ One j
          → IsStop k (tested_of k here (cut l.line) n m l.test l.line w s).log.faults t
          → IsStop k (last_of k here l n m w s).log.faults t
      last_stops m j w s t e h = subst (λ z. IsStop k z.log.faults t) (sym (last_same m j w s e)) h

      pub last_both : (m : Mode) (w : Ways S) (s : S) (x : Result (Flow S) Stop) (old new : ℕ) → m ≡ Both
          → Finds k (settled_last k here l n w s) x old new → Finds k (last_of k here l n m w s) x old new
      last_both Both w s x old new e h = h
      last_both (One j) w s x old new e h = absurd cc

      -- ---- one side's loop from its body on

      pub entered_none : (i : Side) (j : ℕ) (s : S) → j ≡ 0
          → IsStop k (entered_of k here l n i j s).log.faults (stops.Fault l.line E4)
      entered_none i j s e = subst (λ z. IsStop k (entered_of k here l n i z s).log.faults (stops.Fault l.line E4))
          (sym e)
          (record { event = alarm (plain_alarm E4 l.line); rest = []; is = refl; shown = refl })

      pub entered_goes : (i : Side) (u j : ℕ) (s : S) (x : Result (Flow S) Stop) (old new : ℕ) → u ≡ suc j
          → Finds k (begun_of k here l n (One i) j s) x old new → Finds k (entered_of k here l n i u s) x old new
      entered_goes i u j s x old new e h =
          let q = turned k here l n (One i) s in
          let is : entered_of k here l n i (suc j) s ≡ begun_of k here l n (One i) j s =
          ap (then_pass (checking k) q none)
          (rounds_alone k here l n (past (heads k) n q) i j) in
          subst (λ z. Finds k (entered_of k here l n i z s) x old new) (sym e)
          (subst (λ z. Finds k z x old new) (sym is)
          h)

      pub lone_ok : (m : Mode) (i : Side) (s : S) (f : Flow S) (x : Result (Flow S) Stop) (old mid new : ℕ) → m ≡ Both
          → HasFound k (entered_of k here l n i k.plan.unroll s) f old mid
          → Finds k (comes_after l.line (flow_view f)) x mid new → Finds k (alone_of k here l m i s) x old new
      lone_ok (One j) i s f x old mid new e h d = absurd cc
      lone_ok Both i s f x old mid new e h d =
          comes_found k l.line (entered_of k here l 0 i k.plan.unroll s) f x old mid new
          (subst (λ z. HasFound k z f old mid) (entered_alone k here l n 0 i k.plan.unroll s) h) d

      pub lone_stops : (m : Mode) (i : Side) (s : S) (t : Stop) → m ≡ Both
          → IsStop k (entered_of k here l n i k.plan.unroll s).log.faults t
          → IsStop k (alone_of k here l m i s).log.faults t
      lone_stops (One j) i s t e h = absurd cc
      lone_stops Both i s t e h =
          let q = entered_of k here l 0 i k.plan.unroll s in
          front k q.log.faults (differ l.line q.ways.returned) t
          (subst (λ z. IsStop k z.log.faults t) (entered_alone k here l n 0 i k.plan.unroll s) h)

      pub lone_none : (m : Mode) (j i : Side) (s : S) (f : Flow S) (a : ℕ) → m ≡ One j → f.on ≡ None
          → ways_view f.ways ≡ none → HasFound k (alone_of k here l m i s) f a a
      lone_none Both j i s f a e u w = absurd cc
      lone_none (One z) j i s f a e u w = ends_found k f a u w

      -- ---- loops

      pub loop_tests : (m : Mode) (first : Bool) (s : S) (w : Ways S) → first ≡ true → w ≡ none
          → loop_pass_of k here l n m first s ≡ leave_loop (rounds_of k here l m k.plan.unroll n s w)
      loop_tests m first s w e d = ap (λ z. loop_pass_of k here l n m z s) e ∙ each m
          ∙ ap (λ z. leave_loop (rounds_of k here l m k.plan.unroll n s z)) (sym d)
        where
          each : (m : Mode)
              → loop_pass_of k here l n m true s ≡ leave_loop (rounds_of k here l m k.plan.unroll n s none)
          each Both = refl
          each (One j) = refl

      pub loop_both : (m : Mode) (first : Bool) (s : S) (j : ℕ) → first ≡ false → m ≡ Both → j ≡ k.plan.unroll - 1
          → loop_pass_of k here l n m first s ≡ leave_loop (begun_of k here l n m j s)
      loop_both m first s j e d i = ap (λ z. loop_pass_of k here l n m z s) e ∙ each m d
          ∙ ap (λ z. leave_loop (begun_of k here l n m z s)) (sym i)
        where
          each : (m : Mode) → m ≡ Both
              → loop_pass_of k here l n m false s ≡ leave_loop (begun_of k here l n m (k.plan.unroll - 1) s)
          each Both d = refl
          each (One j) d = absurd cc

      pub loop_alone : (m : Mode) (first : Bool) (s : S) (i : Side) → first ≡ false → m ≡ One i
          → loop_pass_of k here l n m first s ≡ leave_loop (entered_of k here l n i k.plan.unroll s)
      loop_alone m first s i e d = ap (λ z. loop_pass_of k here l n m z s) e
          ∙ ap (λ z. loop_pass_of k here l n z false s) d

      -- ---- heads that are given

      module _ (w : Ways S) (s : S) where
        abbrev given_pass : Pass S
        given_pass = settled_last k here l n w s

        abbrev given_at : Option S → Pass S
        given_at g = last_pass (checking k)
            (from_given (checking k) k.fails g n l.line (λ j h. turn_of k here l j Both w h) s)

        pub given_none : slice_get k.list n ≡ None → IsStop k given_pass.log.faults (stops.Missing l.line)
        given_none e =
            subst (λ z. IsStop k (given_at z).log.faults (stops.Missing l.line)) (sym e)
            (record {
              event = missing l.line;
              rest = (turn_of k here l n Both w (checking k).empty).log.faults;
              is = refl;
              shown = refl;
            })

        module _ (h : S) (at : slice_get k.list n ≡ Some h) where
          abbrev q : Pass S
          q = turn_of k here l (n + 1) Both w h

          abbrev comes : Option S → List Event
          comes u = outside_of (checking k) k.fails n l.line h u

          comes_same : (u : Option S) → outside_of k.raw k.fails n l.line h u ≡ comes u
          comes_same None = refl
          comes_same (Some s) = refl

          stops_so : (t : Stop) → IsStop k (given_at (Some h)).log.faults t → IsStop k given_pass.log.faults t
          stops_so t i = subst (λ z. IsStop k (given_at z).log.faults t) (sym at) i

          pub given_first : (t : Stop) → IsStop k (outside_of k.raw k.fails n l.line h (Some s)) t
              → IsStop k given_pass.log.faults t
          given_first t i = stops_so t (front k (comes (Some s)) (q.log.faults ++ comes q.on) t i)

          module _ (quiet : outside_of k.raw k.fails n l.line h (Some s) ≡ []) (m1 : ℕ) (copy : S) (em : m1 ≡ n + 1)
              (ec : copy ≡ h) where
            pub given_turn : (t : Stop) → IsStop k (turn_of k here l m1 Both w copy).log.faults t
                → IsStop k given_pass.log.faults t
            given_turn t i =
                let i1 = subst (λ z. IsStop k (turn_of k here l m1 Both w z).log.faults t) ec i in
                let i2 = subst (λ z. IsStop k (turn_of k here l z Both w h).log.faults t) em i1 in
                stops_so t (behind k (comes (Some s)) (q.log.faults ++ comes q.on) t quiet
                (front k q.log.faults (comes q.on) t i2))

            module _ (f : Flow S) (mid : ℕ) (d : HasFound k (turn_of k here l m1 Both w copy) f m1 mid) where
              d' : HasFound k q f m1 mid
              d' = subst (λ z. HasFound k (turn_of k here l z Both w h) f m1 mid) em (subst (λ z. HasFound k
                  (turn_of k here l m1 Both w z) f m1 mid) ec d)

              pub given_last : (t : Stop) → IsStop k (outside_of k.raw k.fails n l.line h f.on) t
                  → IsStop k given_pass.log.faults t
              given_last t i =
                  let i1 = subst (λ z. IsStop k (outside_of k.raw k.fails n l.line h z) t) d'.on i in
                  let i2 = subst (λ z. IsStop k z t) (comes_same q.on) i1 in
                  stops_so t (behind k (comes (Some s)) (q.log.faults ++ comes q.on) t quiet
                  (behind k q.log.faults (comes q.on) t d'.log.quiet i2))

              pub given_found : (g : Flow S) → outside_of k.raw k.fails n l.line h f.on ≡ [] → g.on ≡ None
                  → ways_view g.ways ≡ ways_view f.ways → HasFound k given_pass g n mid
              given_found g e a b =
                  let e' : comes q.on ≡ [] = sym (comes_same q.on) ∙ ap (outside_of k.raw k.fails n l.line h) (sym
                  d'.on) ∙ e in
                  subst (λ z. HasFound k (given_at z) g n mid) (sym at) (record {
                    on = a;
                    ways = b ∙ d'.ways;
                    log = record {
                      quiet = ap (λ z. z ++ (q.log.faults ++ comes q.on)) quiet
                          ∙ ap (λ z. z ++ comes q.on) d'.log.quiet ∙ e';
                      taken = sums n m1 mid (length q.log.heads) em d'.log.taken
                          ∙ ap (λ z. n + length (h ∷ z)) (sym (append-nil q.log.heads));
                      within = λ i. d'.log.within (next n m1 (length k.list) em (slice_get_within k.list n h at));
                    };
                  })
                where
                  next : (a b c : ℕ) → b ≡ a + 1 → a < c → b ≤ c
                  next a b c i j = omega (arith, i, j)

                  sums : (a b c x : ℕ) → b ≡ a + 1 → c ≡ b + x → c ≡ a + suc x
                  sums a b c x i j = omega (arith, i, j)
