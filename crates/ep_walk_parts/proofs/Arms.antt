-- Statements, kind by kind.
use Rattle.std.proofs.Common.{◌≡◌, ℕ, zero, suc, ◌+◌, ◌<◌, Bool, true, false, List, [], ◌++◌, map, slice_get, refl}
use Rattle.std.proofs.Common.{sym, ap, ◌∙◌, subst, arith, Option, Some, None, Result, Ok, Err, IfOk, nat_eq}
use Rattle.std.specs.Option.{option_map}
use Rattle.std.proofs.Math.Path.{fun_ext}
use Rattle.std.specs.declared.alloc.Global.{Global}
use Rattle.std.specs.declared.vec.Vec.{Vec}
use Rattle.ep_int.specs.declared.types.Memory.{Memory}
use Rattle.ep_int.specs.declared.types.Order.{Order}
use Rattle.std.proofs.lemmas.Bool.Decides.{nat_tests}
use Rattle.ep_core.specs.declared.tree.Expr.{Expr}
use Rattle.ep_core.specs.declared.tree.Dest.{Dest}
use Rattle.ep_core.specs.declared.tree.Stmt.{Stmt}
use Rattle.ep_core.specs.declared.tree.What as tree
use Rattle.ep_core.specs.declared.tree.What.TheVariants.{Call, If, Loop, ByOrder, Scope}
use Rattle.ep_core.specs.Program as plain
use Rattle.ep_core.specs.Program.{What, call, if_else, loop, by_order, scope, Program, Function, Stmts}
use Rattle.ep_core.specs.Runs.{Side}
use Rattle.ep_core.specs.Exec.{on, broken, continued, returned, callee_of, frame_of}
use Rattle.ep_core.specs.View.{expr_view, dest_view, what_view, stmts_view}
use Rattle.ep_core.proofs.Views.{if_is, loop_is, by_order_is, scope_is}
use Rattle.ep_pass.specs.States.{Mode, Both, One, StateOps, Verdict, stuck, same, differs}
use Rattle.ep_pass.specs.Pass.{Ways, none, Log, logged, both_logs, Pass, passed, after, so_far, branch, found_at}
use Rattle.ep_pass.specs.Pass.{simple_pass, join_on, join_ways, either_pass, go_on, then_pass, rowed, leave_on}
use Rattle.ep_pass.specs.Pass.{scope_pass, leave_call, call_pass, next_pass, decided, two_ways, four_ways, parted}
use Rattle.ep_pass.specs.Pass.{differ, only_on, only_broken, only_continued, only_returned, arm_of, body_pass}
use Rattle.ep_flows.specs.View.{Told, Tells, HasPassed, Passes, CountsUpTo, ways_view, flow_view, Plan, mode_of}
use Rattle.ep_flows.specs.View.{side_of, verdict_of}
use Rattle.ep_flows.specs.declared.setting.Machine.{Machine}
use Rattle.ep_flows.specs.declared.setting.Running.{Running}
use Rattle.ep_flows.specs.declared.setting.Running.TheVariants.{Together, Alone}
use Rattle.ep_flows.specs.declared.setting.Truths.{Truths}
use Rattle.ep_flows.specs.declared.setting.Truths.TheVariants.{Stuck, Same, Differs}
use Rattle.ep_walk_parts.specs.Pieces.{Followed, arms, o, one, row, heads, bodies, function, tested_of, followed}
use Rattle.ep_flows.specs.declared.flow.Flow.{Flow}
use Rattle.ep_flows.proofs.Telling.{tells_both, tells_nothing}
use Rattle.ep_flows.proofs.Combined.{drop_last, after_passed, both_passed, keeps_passed}
use Rattle.ep_flows.proofs.Counting.{after_passes, as_said, leads_passes, left_as, told_by, told_count}

module _ {S : Type 0} (ops : Program → (Side → Order) → StateOps S) (c : Plan) (here : ℕ) where
  pub as_what : (v w : What) (m : Mode) (l : ℕ) (s : S) (x : Result (Flow S) Memory) (old new : Told S) → w ≡ v
      → Passes (one ops c here v m l s) x old new
      → Passes (one ops c here w m l s) x old new
  as_what v w m l s x old new e h = subst (λ z. Passes (one ops c here z m l s) x old new) (sym e) h

  module _ (w : tree.What) (m : Mode) (l : ℕ) (s : S) (x : Result (Flow S) Memory) (old new : Told S) where
    abbrev Goes : What → Type 0
    Goes v = Passes (one ops c here v m l s) x old new

    pub if_passes : (e : Expr) (a b : Vec Stmt Global) (sa sb : List Stmt) (before : Ways S) → w ≡ If e a b
        → sa ≡ a.items → sb ≡ b.items → before ≡ none
        → Passes (tested_of ops c here (arms l (stmts_view sa) (stmts_view sb)) m
        (expr_view e) l before s) x old new → Goes (what_view w)
    if_passes e a b sa sb before ew ea eb en h =
        let h' : Goes (if_else (expr_view e) (stmts_view sa) (stmts_view sb)) = subst (λ z. Passes (tested_of ops c here (arms l (stmts_view sa) (stmts_view sb)) m (expr_view e) l z s) x old new) en h
        in
        as_what (if_else (expr_view e) (stmts_view sa) (stmts_view sb)) (what_view w) m l s x old new
        (ap what_view ew ∙ if_is e a b ∙ ap (λ z. if_else (expr_view e) (stmts_view z) (stmts_view b.items))
        (sym ea) ∙ ap (λ z. if_else (expr_view e) (stmts_view sa) (stmts_view z)) (sym eb)) h'

    pub loop_passes : (first : Bool) (e : Expr) (a b : Vec Stmt Global) (sa sb : List Stmt) → w ≡ Loop first e a b
        → sa ≡ a.items → sb ≡ b.items → Goes (loop first (expr_view e) (stmts_view sa) (stmts_view sb))
        → Goes (what_view w)
    loop_passes first e a b sa sb ew ea eb h =
        as_what (loop first (expr_view e) (stmts_view sa) (stmts_view sb)) (what_view w) m l s x old new
        (ap what_view ew ∙ loop_is first e a b ∙ ap (λ z. loop first (expr_view e) (stmts_view z)
        (stmts_view b.items)) (sym ea) ∙ ap (λ z. loop first (expr_view e) (stmts_view sa) (stmts_view z))
        (sym eb)) h

    pub order_passes : (n : Order) (a b : Vec Stmt Global) (sa sb : List Stmt) → w ≡ ByOrder n a b → sa ≡ a.items
        → sb ≡ b.items → Goes (by_order n (stmts_view sa) (stmts_view sb)) → Goes (what_view w)
    order_passes n a b sa sb ew ea eb h =
        as_what (by_order n (stmts_view sa) (stmts_view sb)) (what_view w) m l s x old new
        (ap what_view ew ∙ by_order_is n a b ∙ ap (λ z. by_order n (stmts_view z) (stmts_view b.items)) (sym ea)
        ∙ ap (λ z. by_order n (stmts_view sa) (stmts_view z)) (sym eb)) h

    pub call_passes : (k : ℕ) (es : Vec Expr Global) (d dd : Option Dest) (ee : List Expr) → w ≡ Call k es d
        → ee ≡ es.items → dd ≡ d → Goes (call k (map expr_view ee) (option_map dest_view dd)) → Goes (what_view w)
    call_passes k es d dd ee ew ea ed h =
        as_what (call k (map expr_view ee) (option_map dest_view dd)) (what_view w) m l s x old new
        (ap what_view ew ∙ ap (λ z. call k (map expr_view z) (option_map dest_view d)) (sym ea)
        ∙ ap (λ z. call k (map expr_view ee) (option_map dest_view z)) (sym ed)) h

    -- a scope is entered, gone through and left
    pub scope_passes : (bs : Vec ℕ Global) (a : Vec Stmt Global) (cs ds : List ℕ) (ss : List Stmt) (inner : S)
        (f : Flow S) → w ≡ Scope bs a → cs ≡ bs.items → ds ≡ bs.items → ss ≡ a.items → inner ≡ (o ops c).enter m cs s
        → HasPassed (row ops c here (stmts_view ss) m inner) f old new
        → IfOk x (λ g. g.on ≡ (scope_pass (o ops c) m ds (flow_view f)).on)
        → IfOk x (λ g. ways_view g.ways ≡ (scope_pass (o ops c) m ds (flow_view f)).ways) → Goes (what_view w)
    scope_passes bs a cs ds ss inner f ew ec ed es ei h a1 a2 =
        as_what (scope bs.items (stmts_view a.items)) (what_view w) m l s x old new (ap what_view ew
        ∙ scope_is bs a) (each x a1 a2)
      where
        each : (x : Result (Flow S) Memory) → IfOk x (λ g. g.on ≡ (scope_pass (o ops c) m ds (flow_view f)).on)
            → IfOk x (λ g. ways_view g.ways ≡ (scope_pass (o ops c) m ds (flow_view f)).ways)
            → Passes (one ops c here (scope bs.items (stmts_view a.items)) m l s) x old new
        each (Err y) u v =
            let p = row ops c here (stmts_view a.items) m ((o ops c).enter m bs.items s) in
            let e : inner ≡ (o ops c).enter m bs.items s = ei ∙ ap (λ z. (o ops c).enter m z s) ec in
            let h1 = subst (λ z. HasPassed (row ops c here (stmts_view z) m inner) f old new) es h in
            let h2 : HasPassed p f old new = subst (λ z. HasPassed (row ops c here (stmts_view a.items) m z) f old
            new) e h1 in
            told_count p.log old new h2.log
        each (Ok g) u v =
            let p = row ops c here (stmts_view a.items) m ((o ops c).enter m bs.items s) in
            let e : inner ≡ (o ops c).enter m bs.items s = ei ∙ ap (λ z. (o ops c).enter m z s) ec in
            let h1 = subst (λ z. HasPassed (row ops c here (stmts_view z) m inner) f old new) es h in
            let h2 : HasPassed p f old new = subst (λ z. HasPassed (row ops c here (stmts_view a.items) m z) f old
            new) e h1 in
            record {
              on = u ∙ ap (λ z. leave_on (o ops c) m z f.on) ed ∙ ap (leave_on (o ops c) m bs.items) h2.on;
              ways = v ∙ ap (λ z. (scope_pass (o ops c) m z (flow_view f)).ways) ed
                  ∙ ap (λ z. (scope_pass (o ops c) m bs.items (passed f.on z (logged [] 0 []))).ways) h2.ways;
              log = h2.log;
            }

    -- memory runs out in its body
    pub scope_stops : (bs : Vec ℕ Global) (a : Vec Stmt Global) (cs : List ℕ) (ss : List Stmt) (inner : S)
        → w ≡ Scope bs a → cs ≡ bs.items → ss ≡ a.items → inner ≡ (o ops c).enter m cs s
        → CountsUpTo (row ops c here (stmts_view ss) m inner).log.count old.count new.count
        → CountsUpTo (one ops c here (what_view w) m l s).log.count old.count new.count
    scope_stops bs a cs ss inner ew ec es ei h =
        let e : inner ≡ (o ops c).enter m bs.items s = ei ∙ ap (λ z. (o ops c).enter m z s) ec in
        let h1 = subst (λ z. CountsUpTo (row ops c here (stmts_view z) m inner).log.count old.count new.count) es h in
        let h2 = subst (λ z. CountsUpTo (row ops c here (stmts_view a.items) m z).log.count old.count new.count) e h1
        in
        let i : what_view w ≡ scope bs.items (stmts_view a.items) = ap what_view ew ∙ scope_is bs a in
        subst (λ z. CountsUpTo (one ops c here z m l s).log.count old.count new.count) (sym i) h2

  -- ---- calls

  -- the body of a function that is called
  pub function_is : (n k : ℕ) → k < n → (m : Mode) (s : S)
      → bodies ops c n k 0 m s ≡ function ops c k m s
  function_is zero k lt m s = absurd (omega arith)
  function_is (suc n) k lt m s = by_test (nat_eq k n) refl (λ l. function_is n k l m s)
    where
      same : (k n : ℕ) → nat_eq k n ≡ true → k ≡ n
      same k n e = grind (arith, nat_tests)

      less : (k n : ℕ) → k < suc n → nat_eq k n ≡ false → k < n
      less k n h e = grind (arith, nat_tests)

      by_test : (t : Bool) → nat_eq k n ≡ t → (k < n → bodies ops c n k 0 m s ≡ function ops c k m s) → arm_of (o ops c) t (body_pass (o ops c) c.unroll (heads ops c)
          c.order c.program (slice_get c.program.functions n) n (bodies ops c n) 0) (bodies ops c n k 0) m s ≡ function ops c k m s
      by_test true e i = ap (λ z. function ops c z m s) (sym (same k n e))
      by_test false e i = i (less k n lt e)

  -- ---- tests
  module _ (mode : Running) (fw : Followed) (e : plain.Expr) (l : ℕ) (before : Ways S) (flow : Flow S) (s : S)
      (truths : Truths) (old mid new : Told S) (tl : Tells (logged (found_at l ((o ops c).test
      (mode_of mode) e s).faults) 0 []) old mid) (ev : verdict_of truths ≡ ((o ops c).test
      (mode_of mode) e s).verdict) (en : flow.on ≡ None) (ew : ways_view flow.ways ≡ before) where
    abbrev goes : Mode → Verdict → Pass S → Pass S
    goes m v a = decided (o ops c) a m v e (followed ops c here fw m true true) (followed ops c here fw m true false)
        (followed ops c here fw m false true) (followed ops c here fw m false false) s

    flow_is : flow_view flow ≡ so_far before
    flow_is = ap (λ z. passed z (ways_view flow.ways) (logged [] 0 [])) en
        ∙ ap (λ z. passed None z (logged [] 0 [])) ew

    test_goes : (v : Truths) (x : Result (Flow S) Memory) → truths ≡ v → Passes (goes (mode_of mode) (verdict_of v)
        (flow_view flow)) x mid new → Passes (tested_of ops c here fw (mode_of mode) e l before s) x old new
    test_goes v x et h =
        let d : verdict_of v ≡ ((o ops c).test (mode_of mode) e s).verdict = ap verdict_of (sym et) ∙ ev in
        let h1 : Passes (goes (mode_of mode) (verdict_of v) (so_far before)) x mid new = subst (λ z. Passes
        (goes (mode_of mode) (verdict_of v) z) x mid new) flow_is h in
        let h2 : Passes (goes (mode_of mode) ((o ops c).test (mode_of mode) e s).verdict
        (so_far before)) x mid new = subst (λ z. Passes (goes (mode_of mode) z (so_far before)) x mid new) d h1
        in
        after_passes (logged (found_at l ((o ops c).test (mode_of mode) e s).faults) 0 []) (goes (mode_of mode)
        ((o ops c).test (mode_of mode) e s).verdict (so_far before)) x old mid new tl h2

    same_is : (m : Mode) (a : Pass S) → goes m same a ≡ two_ways (o ops c) a m e (followed ops c here fw m true true)
        (followed ops c here fw m false false) s
    same_is Both a = refl
    same_is (One k) a = refl

    stuck_is : (m : Mode) (a : Pass S) → goes m stuck a ≡ a
    stuck_is Both a = refl
    stuck_is (One k) a = refl

    pub test_stuck : truths ≡ Stuck → new ≡ mid → HasPassed (tested_of ops c here fw (mode_of mode) e l before s) flow
        old new
    test_stuck et em =
        let h : HasPassed (flow_view flow) flow mid new = record {
          on = refl;
          ways = refl;
          log = subst (λ z. Tells
              (logged [] 0 []) mid z) (sym em) (tells_nothing mid);
        } in
        test_goes Stuck (Ok flow) et (subst (λ z. HasPassed z flow mid new) (sym (stuck_is (mode_of mode)
        (flow_view flow))) h)

    pub test_same : (x : Result (Flow S) Memory) → truths ≡ Same → Passes (two_ways (o ops c)
        (flow_view flow) (mode_of mode) e (followed ops c here fw (mode_of mode) true true) (followed ops c here fw
        (mode_of mode) false false) s) x mid new → Passes (tested_of ops c here fw
        (mode_of mode) e l before s) x old new
    test_same x et h = test_goes Same x et (subst (λ z. Passes z x mid new) (sym (same_is (mode_of mode)
        (flow_view flow))) h)

    pub test_alone : (k : Machine) (x : Result (Flow S) Memory) → truths ≡ Differs → mode ≡ Alone k
        → Passes (two_ways (o ops c) (flow_view flow) (mode_of mode) e (followed ops c here fw
        (mode_of mode) true true) (followed ops c here fw (mode_of mode) false false) s) x mid new
        → Passes (tested_of ops c here fw (mode_of mode) e l before s) x old new
    test_alone k x et em h =
        let is : goes (mode_of mode) differs (flow_view flow) ≡ two_ways (o ops c) (flow_view flow) (mode_of mode) e
        (followed ops c here fw (mode_of mode) true true) (followed ops c here fw (mode_of mode) false false) s =
        alone_is (mode_of mode) (ap mode_of em) (flow_view flow) in
        test_goes Differs x et (subst (λ z. Passes z x mid new) (sym is) h)
      where
        alone_is : (m : Mode) → m ≡ One (side_of k) → (a : Pass S) → goes m differs a ≡ two_ways (o ops c) a m e
            (followed ops c here fw m true true) (followed ops c here fw m false false) s
        alone_is Both d a = absurd cc
        alone_is (One z) d a = refl

    pub test_both : (x : Result (Flow S) Memory) → truths ≡ Differs → mode ≡ Together
        → Passes (four_ways (o ops c) (flow_view flow) e (followed ops c here fw Both true true)
        (followed ops c here fw Both true false) (followed ops c here fw Both false true)
        (followed ops c here fw Both false false) s) x mid new → Passes (tested_of ops c here fw
        (mode_of mode) e l before s) x old new
    test_both x et em h =
        let is : goes (mode_of mode) differs (flow_view flow) ≡ goes Both differs (flow_view flow) = ap
        (λ z. goes z differs (flow_view flow)) (ap mode_of em) in
        test_goes Differs x et (subst (λ z. Passes z x mid new) (sym is) h)

-- ---- the body of a loop, once
module _ {S : Type 0} (o : StateOps S) (p : Pass S) (next : S → Pass S) (f g h : Flow S)
    (old one two new : Told S) where
  pub body_passes : (ended : Option S) → Tells (logged [] 1 []) old one → HasPassed p f one two
      → ended ≡ join_on o (ways_view f.ways).continued f.on → HasPassed (branch ended next) g two new
      → h.on ≡ g.on → ways_view h.ways ≡ record {
        broken = (ways_view f.ways).broken;
        continued = None;
        returned =
            (ways_view f.ways).returned;
      }
      → HasPassed (after (logged [] 1 []) (next_pass o p next)) h old new
  body_passes ended t a e b u w =
      let e' : join_on o p.ways.continued p.on ≡ ended = sym (e
      ∙ ap (λ (z : Ways S). join_on o z.continued f.on) a.ways ∙ ap (join_on o p.ways.continued) a.on) in
      let w' : ways_view h.ways ≡ record { broken = p.ways.broken; continued = None; returned = p.ways.returned } = w
      ∙ ap (λ (z : Ways S). record { broken = z.broken; continued = None; returned = z.returned }) a.ways in
      after_passed (logged [] 1 []) (next_pass o p next) h old one new t
      (subst (λ z. HasPassed (go_on o z (record {
        broken = p.ways.broken;
        continued = None;
        returned =
            p.ways.returned;
      }) p.log (rowed o next)) h one new) (sym e') (each ended b u w'))
    where
      each : (ended : Option S) → HasPassed (branch ended next) g two new → h.on ≡ g.on
          → ways_view h.ways ≡ record { broken = p.ways.broken; continued = None; returned = p.ways.returned }
          → HasPassed (go_on o ended (record { broken = p.ways.broken; continued = None; returned = p.ways.returned })
          p.log (rowed o next)) h one new
      each None b u w = record {
        on = u ∙ b.on;
        ways = w;
        log = drop_last p.log one new (tells_both p.log
            (logged [] 0 []) one two new a.log b.log);
      }
      each (Some s) b u w = record {
        on = u ∙ b.on;
        ways = w;
        log = tells_both p.log (next s).log one two new a.log
            b.log;
      }

-- ---- the sides go different ways
module _ {S : Type 0} (o : StateOps S) (l : ℕ) (p : Pass S) (go : S
    → Pass S) (f : Flow S) (a1 a2 a3 a4 b1 b2 b3 b4 : Flow S) (t0 t1 t2 t3 t4 t5 t6 t7 t8 t9 : Told S) where
  abbrev just : Option S → Ways S → Option S
  just u w = u

  pub parted_passes : (x y z : Flow S) → HasPassed p f t0 t1
      → HasPassed (branch f.on go) a1 t1 t2 → HasPassed (only_on l (flow_view a1)) b1 t2 t3
      → HasPassed (branch (ways_view f.ways).broken go) a2 t3 t4 → HasPassed (only_broken l (flow_view a2)) b2 t4 t5
      → x.on ≡ join_on o b1.on b2.on → ways_view x.ways ≡ join_ways o (ways_view b1.ways) (ways_view b2.ways)
      → HasPassed (branch (ways_view f.ways).continued go) a3 t5 t6
      → HasPassed (only_continued l (flow_view a3)) b3 t6 t7
      → y.on ≡ join_on o x.on b3.on → ways_view y.ways ≡ join_ways o (ways_view x.ways) (ways_view b3.ways)
      → HasPassed (branch (ways_view f.ways).returned go) a4 t7 t8
      → HasPassed (only_returned l (flow_view a4)) b4 t8 t9
      → z.on ≡ join_on o y.on b4.on → ways_view z.ways ≡ join_ways o (ways_view y.ways) (ways_view b4.ways)
      → HasPassed (parted o l p go) z t0 t9
  parted_passes x y z h h1 k1 h2 k2 xu xw h3 k3 yu yw h4 k4 zu zw =
      let r1 = branch p.on go in
      let r2 = branch p.ways.broken go in
      let r3 = branch p.ways.continued go in
      let r4 = branch p.ways.returned go in
      let h1' : HasPassed r1 a1 t1 t2 = subst (λ v. HasPassed (branch v go) a1 t1 t2) h.on h1 in
      let h2' : HasPassed r2 a2 t3 t4 = subst (λ (v : Ways S). HasPassed (branch v.broken go) a2 t3 t4) h.ways h2 in
      let h3' : HasPassed r3 a3 t5 t6 = subst (λ (v : Ways S). HasPassed (branch v.continued go) a3 t5 t6) h.ways h3 in
      let h4' : HasPassed r4 a4 t7 t8 = subst (λ (v : Ways S). HasPassed (branch v.returned go) a4 t7 t8) h.ways h4 in
      let m1 : HasPassed (only_on l r1) b1 t1 t3 = keeps_passed on (λ u w. u) (λ u w. differ l w.broken ++
      (differ l w.continued ++ differ l w.returned)) r1 a1 b1 t1 t2 t3 h1' k1 in
      let m2 : HasPassed (only_broken l r2) b2 t3 t5 = keeps_passed broken (λ u w. w.broken) (λ u w. differ l u ++
      (differ l w.continued ++ differ l w.returned)) r2 a2 b2 t3 t4 t5 h2' k2 in
      let m3 : HasPassed (only_continued l r3) b3 t5 t7 = keeps_passed continued (λ u w. w.continued)
      (λ u w. differ l u ++ (differ l w.broken ++ differ l w.returned)) r3 a3 b3 t5 t6 t7 h3' k3 in
      let m4 : HasPassed (only_returned l r4) b4 t7 t9 = keeps_passed returned (λ u w. w.returned)
      (λ u w. differ l u ++ (differ l w.broken ++ differ l w.continued)) r4 a4 b4 t7 t8 t9 h4' k4 in
      let e2 : HasPassed (either_pass o (only_on l r1) (only_broken l r2)) x t1 t5 = both_passed o (only_on l r1)
      (only_broken l r2) b1 b2 x t1 t3 t5 m1 m2 xu xw in
      let e3 : HasPassed (either_pass o (either_pass o (only_on l r1) (only_broken l r2)) (only_continued l r3)) y t1
      t7 = both_passed o (either_pass o (only_on l r1) (only_broken l r2)) (only_continued l r3) x b3 y t1 t5 t7
      e2 m3 yu yw in
      let e4 = both_passed o (either_pass o (either_pass o (only_on l r1) (only_broken l r2)) (only_continued l r3))
      (only_returned l r4) y b4 z t1 t7 t9 e3 m4 zu zw in
      after_passed p.log (either_pass o (either_pass o (either_pass o (only_on l r1) (only_broken l r2))
      (only_continued l r3)) (only_returned l r4)) z t0 t1 t9 h.log e4

pub parted_ok : {S : Type 0} (o : StateOps S) (l : ℕ) (p : Pass S) (go : S
    → Pass S) (f : Flow S) (a1 a2 a3 a4 b1 b2 b3 b4 : Flow S) (t0 t1 t2 t3 t4 t5 t6 t7 t8 t9 : Told S) (x y : Flow S)
    (z : Result (Flow S) Memory) → HasPassed p f t0 t1
    → HasPassed (branch f.on go) a1 t1 t2 → HasPassed (only_on l (flow_view a1)) b1 t2 t3
    → HasPassed (branch (ways_view f.ways).broken go) a2 t3 t4 → HasPassed (only_broken l (flow_view a2)) b2 t4 t5
    → x.on ≡ join_on o b1.on b2.on → ways_view x.ways ≡ join_ways o (ways_view b1.ways) (ways_view b2.ways)
    → HasPassed (branch (ways_view f.ways).continued go) a3 t5 t6
    → HasPassed (only_continued l (flow_view a3)) b3 t6 t7
    → y.on ≡ join_on o x.on b3.on → ways_view y.ways ≡ join_ways o (ways_view x.ways) (ways_view b3.ways)
    → HasPassed (branch (ways_view f.ways).returned go) a4 t7 t8 → HasPassed (only_returned l (flow_view a4)) b4 t8 t9
    → IfOk z (λ z. z.on ≡ join_on o y.on b4.on) → IfOk z (λ z. ways_view z.ways ≡ join_ways o (ways_view y.ways)
    (ways_view b4.ways))
    → Passes (parted o l p go) z t0 t9
parted_ok o l p go f a1 a2 a3 a4 b1 b2 b3 b4 t0 t1 t2 t3 t4 t5 t6 t7 t8 t9 x y (Err e) h h1 k1 h2 k2 xu xw h3 k3 yu yw
    h4 k4 zu zw =
    let w = join_ways o (ways_view y.ways) (ways_view b4.ways) in
    let z = left_as (passed (join_on o y.on b4.on) w (logged [] 0 [])) in
    told_count (parted o l p go).log t0 t9 (parted_passes o l p go f a1 a2 a3 a4 b1 b2 b3 b4 t0 t1 t2 t3 t4 t5 t6 t7 t8
    t9 x y z h h1 k1 h2 k2 xu xw h3 k3 yu yw h4 k4 refl refl).log
parted_ok o l p go f a1 a2 a3 a4 b1 b2 b3 b4 t0 t1 t2 t3 t4 t5 t6 t7 t8 t9 x y (Ok z) h h1 k1 h2 k2 xu xw h3 k3 yu yw
    h4 k4 zu zw = parted_passes o l p go f a1 a2 a3 a4 b1 b2 b3 b4 t0 t1 t2 t3 t4 t5 t6 t7 t8 t9 x y z h h1 k1 h2 k2
    xu xw h3 k3 yu yw h4 k4 zu zw

-- ---- calls
module _ {S : Type 0} (o : StateOps S) (m : Mode) (l : ℕ) (f : Function) (es : List plain.Expr)
    (d : Option plain.Dest) (body : S → Pass S) (s : S) (old one two : Told S) where
  abbrev A : Pass S
  A = simple_pass on l (o.arguments m f es s)

  abbrev B : S → Pass S
  B s = leave_call o (scope_pass o m (frame_of f) (body s))

  abbrev C : S → Pass S
  C s = simple_pass on l (o.result m f d s)

  abbrev into : S → Ways S → Pass S
  into = rowed o B

  abbrev whole : Pass S
  whole = call_pass o (Some f) m es d l body s

  abbrev inside : Pass S
  inside = then_pass o A none into

  -- what is reached inside is left
  finish : (new : Told S) (reached : Log S) → Tells reached old two → (v : Option S) (g : Flow S)
      → HasPassed (branch v C) g two new → HasPassed (go_on o v none reached (rowed o C)) g old new
  finish new reached told None g h = record {
    on = h.on;
    ways = h.ways;
    log = drop_last reached old new
        (tells_both reached (logged [] 0 []) old two new told h.log);
  }
  finish new reached told (Some s) g h = record {
    on = h.on;
    ways = h.ways;
    log = tells_both reached
        (C s).log old two new told h.log;
  }

  module _ (q : Flow S) (t : Tells (logged (found_at l (o.arguments m f es s).faults) 0 []) old one) where
    abbrev left_by_body : Option S
    left_by_body = (leave_call o (scope_pass o m (frame_of f) (flow_view q))).on

    by_arguments : (u : Option S) → (o.arguments m f es s).next ≡ u → HasPassed (branch u body) q one two
        → (g : Flow S) (new : Told S) → HasPassed (branch left_by_body C) g two new → HasPassed whole g old new
    by_arguments None e h g new k =
        let i : left_by_body ≡ None = ap (λ z. (leave_call o (scope_pass o m (frame_of f) (passed z
        (ways_view q.ways) (logged [] 0 [])))).on) h.on ∙ ap (λ z. (leave_call o (scope_pass o m (frame_of f)
        (passed None z (logged [] 0 [])))).on) h.ways in
        let k' : HasPassed (branch None C) g two new = subst (λ z. HasPassed (branch z C) g two new) i k in
        let told : Tells A.log old two = drop_last A.log old two (tells_both A.log (logged [] 0 []) old one two t
        h.log) in
        let d : inside ≡ passed None none A.log = ap (λ z. go_on o z none A.log into) e in
        subst (λ z. HasPassed (then_pass o z none (rowed o C)) g old new) (sym d) (finish new A.log told None g k')
    by_arguments (Some inner) e h g new k =
        let i : left_by_body ≡ (B inner).on = ap (λ z. (leave_call o (scope_pass o m (frame_of f) (passed z
        (ways_view q.ways) (logged [] 0 [])))).on) h.on ∙ ap (λ z. (leave_call o (scope_pass o m (frame_of f)
        (passed (body inner).on z (logged [] 0 [])))).on) h.ways in
        let k' : HasPassed (branch (B inner).on C) g two new = subst (λ z. HasPassed (branch z C) g two new) i k in
        let told : Tells (both_logs A.log (body inner).log) old two = tells_both A.log (body inner).log old one two t
        h.log in
        let d : inside ≡ after A.log (passed (B inner).on none (body inner).log) = ap (λ z. go_on o z none A.log into)
        e in
        subst (λ z. HasPassed (then_pass o z none (rowed o C)) g old new) (sym d) (finish new (both_logs A.log
        (body inner).log) told (B inner).on g k')

    pub call_goes : (u left : Option S) (x : Result (Flow S) Memory) (new : Told S) → u ≡ (o.arguments m f es s).next
        → HasPassed (branch u body) q one two → left ≡ left_by_body
        → Passes (branch left C) x two new → Passes whole x old new
    call_goes u left x new e h d k =
        leads_passes (branch left_by_body C) whole two old (by_arguments u (sym e) h) x new
        (subst (λ z. Passes (branch z C) x two new) d k)

    -- memory runs out once the body is gone through
    pub call_left : (u : Option S) → u ≡ (o.arguments m f es s).next → HasPassed (branch u body) q one two
        → CountsUpTo whole.log.count old.count two.count
    call_left u e h =
        let r = branch left_by_body C in
        let a = (by_arguments u (sym e) h (left_as r) (told_by two r.log) (as_said r two)).log in
        less two.count old.count r.log.count whole.log.count (told_count whole.log old (told_by two r.log) a)
      where
        less : (a b k n : ℕ) → CountsUpTo n b (a + k) → CountsUpTo n b a
        less a b k n h = let x = h.bound in record { bound = omega (arith, x) }

-- memory runs out in the body
pub call_stops : {S : Type 0} (o : StateOps S) (m : Mode) (l : ℕ) (f : Function) (es : List plain.Expr)
    (d : Option plain.Dest) (body : S → Pass S) (s : S) (old one new : Told S)
    → Tells (logged (found_at l (o.arguments m f es s).faults) 0 []) old one → (u : Option S)
    → u ≡ (o.arguments m f es s).next → CountsUpTo (branch u body).log.count one.count new.count
    → CountsUpTo (call_pass o (Some f) m es d l body s).log.count old.count new.count
call_stops o m l f es d body s old one new t u e h =
    let p = branch u body in
    let all = call_left o m l f es d body s old one (told_by one p.log) (left_as p) t u e (as_said p one) in
    within (call_pass o (Some f) m es d l body s).log.count p.log.count old.count one.count new.count h all
  where
    within : (n k a b d : ℕ) → CountsUpTo k b d → CountsUpTo n a (b + k) → CountsUpTo n a d
    within n k a b d h i = let x = h.bound in let y = i.bound in record { bound = omega (arith, x, y) }

-- a function that is called
module _ {S : Type 0} (ops : Program → (Side → Order) → StateOps S) (c : Plan) (here : ℕ) (m : Mode) (l : ℕ) (k : ℕ)
    (es : List plain.Expr) (d : Option plain.Dest) (s : S) where
  pub calls_none : (f : Flow S) (t : Told S) → callee_of c.program here k ≡ None → f.on ≡ None
      → ways_view f.ways ≡ none → HasPassed (one ops c here (call k es d) m l s) f t t
  calls_none f t e a b =
      subst (λ z. HasPassed (call_pass (o ops c) z m es d l (bodies ops c here k 0 m) s) f t t) (sym e)
      (record { on = a; ways = b; log = tells_nothing t })

  pub calls_some : (f : Function) (x : Result (Flow S) Memory) (old new : Told S)
      → callee_of c.program here k ≡ Some f → k < here → Passes (call_pass (o ops c) (Some f) m es d l
      (function ops c k m) s) x old new
      → Passes (one ops c here (call k es d) m l s) x old new
  calls_some f x old new e lt h =
      let same : function ops c k m ≡ bodies ops c here k 0 m = sym (fun_ext
      (λ s. function_is ops c here here k lt m s)) in
      subst (λ z. Passes (call_pass (o ops c) z m es d l (bodies ops c here k 0 m) s) x old new) (sym e)
      (subst (λ b. Passes (call_pass (o ops c) (Some f) m es d l b s) x old new) same h)

-- ---- statements that jump, and the body of a function
module _ {S : Type 0} (ops : Program → (Side → Order) → StateOps S) (c : Plan) where
  pub jump_passes : (here : ℕ) (v w : What) (m : Mode) (l : ℕ) (s : S) (f : Flow S) (old new : Told S) → w ≡ v
      → HasPassed (one ops c here v m l s) f old new → HasPassed (one ops c here w m l s) f old new
  jump_passes here v w m l s f old new e h = subst (λ z. HasPassed (one ops c here z m l s) f old new) (sym e) h

  pub function_none : (k : ℕ) (m : Mode) (u : Option S) (s : S) (f : Flow S) (t : Told S)
      → slice_get c.program.functions k ≡ None → u ≡ Some s → f.on ≡ Some s → ways_view f.ways ≡ none
      → HasPassed (branch u (function ops c k m)) f t t
  function_none k m u s f t e d a b =
      subst (λ z. HasPassed (branch z (function ops c k m)) f t t) (sym d)
      (subst (λ z. HasPassed (body_pass (o ops c) c.unroll (heads ops c) c.order c.program z k (bodies ops c k) 0 m s) f t t) (sym e)
      (record { on = a; ways = b; log = tells_nothing t }))

  pub function_some : (k : ℕ) (m : Mode) (u : Option S) (s : S) (g : Function) (x : Result (Flow S) Memory)
      (old new : Told S) → slice_get c.program.functions k ≡ Some g → u ≡ Some s
      → Passes (row ops c k g.body m s) x old new
      → Passes (branch u (function ops c k m)) x old new
  function_some k m u s g x old new e d h =
      subst (λ z. Passes (branch z (function ops c k m)) x old new) (sym d)
      (subst (λ z. Passes (body_pass (o ops c) c.unroll (heads ops c) c.order c.program z k (bodies ops c k) 0 m s) x old new) (sym e) h)
