-- Statements, kind by kind.
use Rattle.std.proofs.Common.{◌≡◌, ℕ, zero, suc, ◌<◌, ◌≤◌, Bool, true, false, List, [], map, slice_get, refl, sym, ap}
use Rattle.std.proofs.Common.{◌∙◌, subst, arith, Option, Some, None, Result, Ok, Err, nat_eq, if◌then◌else◌}
use Rattle.std.specs.Option.{option_map}
use Rattle.std.proofs.Math.Path.{fun_ext}
use Rattle.std.specs.declared.alloc.Global.{Global}
use Rattle.std.specs.declared.vec.Vec.{Vec}
use Rattle.std.proofs.lemmas.Bool.Decides.{nat_tests}
use Rattle.ep_int.specs.declared.types.Order.{Order}
use Rattle.ep_core.specs.declared.tree.Expr.{Expr}
use Rattle.ep_core.specs.declared.tree.Dest.{Dest}
use Rattle.ep_core.specs.declared.tree.Stmt.{Stmt}
use Rattle.ep_core.specs.declared.tree.What.TheVariants.{Call, If, Loop, ByOrder, Scope}
use Rattle.ep_core.specs.Program.{What, call, if_else, loop, by_order, scope, Function, Stmts}
use Rattle.ep_core.specs.Runs.{Side, left, right}
use Rattle.ep_core.specs.Exec.{on, broken, continued, returned, callee_of, frame_of, is_order}
use Rattle.ep_core.specs.View.{expr_view, dest_view, what_view, stmts_view}
use Rattle.ep_core.proofs.Views.{if_is, loop_is, by_order_is, scope_is}
use Rattle.ep_pass.specs.States.{Mode, Both, One}
use Rattle.ep_pass.specs.Pass.{Ways, none, Log, logged, both_logs, Pass, passed, after, branch, found_at, apart, ends}
use Rattle.ep_pass.specs.Pass.{simple_pass, join_on, join_ways, go_on, then_pass, rowed, leave_on, scope_pass}
use Rattle.ep_pass.specs.Pass.{leave_call, call_pass, arm_of, body_pass}
use Rattle.ep_flows.specs.View.{ways_view, flow_view}
use Rattle.ep_flows.specs.declared.flow.Flow.{Flow}
use Rattle.ep_walk_parts.specs.Pieces.{arms}
use Rattle.ep_walk_parts.proofs.Deeper.{depth, depth_two}
use Rattle.ep_certcheck_walk.specs.declared.stop.Stop.{Stop}
use Rattle.ep_certcheck_walk.specs.Pieces.{heads, bodies, function, one, row, late, followed, parted_arms, tested_of}
use Rattle.ep_certcheck_walk.specs.Stops.{Course, checking, Counts, HasFound, Finds, IsStop}
use Rattle.ep_certcheck_walk.proofs.Alone.{parted_alone, tested_by}
use Rattle.ep_certcheck_walk.proofs.Combined.{behind, counts_both, counts_events, counts_none, drop_last, go_front}
use Rattle.ep_certcheck_walk.proofs.Combined.{join_same, leave_same}
use Rattle.ep_core.specs.declared.tree.What as tree
use Rattle.ep_core.specs.Program as plain

pub arm_depth : (b : Bool) (ys ns x : List Stmt) → x ≡ (if b then ys else ns) → depth x ≤ depth_two ys ns
arm_depth true a b x e = let i = ap depth e in omega (arith, i)
arm_depth false a b x e = let i = ap depth e in omega (arith, i)

module _ {S : Type 0} (k : Course S) (here : ℕ) where
  if_same : (e : plain.Expr) (a b : Stmts) (n : ℕ) (m : Mode) (l : ℕ) (s : S)
      → one k here (if_else e a b) n m l s ≡ tested_of k here (arms l a b) n m e l none s
  if_same e a b n Both l s =
      tested_by k Both e l (λ s. row k here a n Both s)
      (λ s. apart (checking k) l (λ m s. row k here a n m s) (λ m s. row k here b n m s) s)
      (λ s. apart (checking k) l (λ m s. row k here b n m s) (λ m s. row k here a n m s) s)
      (followed k here (arms l a b) (late k here (arms l a b) n Both e s) Both false false)
      (followed k here (arms l a b) n Both true true) (followed k here (arms l a b) n Both true false)
      (followed k here (arms l a b) n Both false true)
      (followed k here (arms l a b) (late k here (arms l a b) n Both e s) Both false false) (ends []) s refl
      (fun_ext (parted_alone k here l a b n)) (fun_ext (parted_alone k here l b a n)) refl
  if_same e a b n (One j) l s =
      tested_by k (One j) e l (λ s. row k here a n (One j) s)
      (λ s. apart (checking k) l (λ m s. row k here a n m s) (λ m s. row k here b n m s) s)
      (λ s. apart (checking k) l (λ m s. row k here b n m s) (λ m s. row k here a n m s) s)
      (followed k here (arms l a b) (late k here (arms l a b) n (One j) e s) (One j) false false)
      (followed k here (arms l a b) n (One j) true true) (followed k here (arms l a b) n (One j) true false)
      (followed k here (arms l a b) n (One j) false true)
      (followed k here (arms l a b) (late k here (arms l a b) n (One j) e s) (One j) false false) (ends []) s refl
      (fun_ext (parted_alone k here l a b n)) (fun_ext (parted_alone k here l b a n)) refl

  module _ (w : tree.What) (n : ℕ) (m : Mode) (l : ℕ) (s : S) (x : Result (Flow S) Stop) (old new : ℕ) where
    abbrev Goes : What → Type 0
    Goes v = Finds k (one k here v n m l s) x old new

    pub if_passes : (e : Expr) (a b : Vec Stmt Global) (sa sb : List Stmt) (before : Ways S) → w ≡ If e a b
        → sa ≡ a.items → sb ≡ b.items → before ≡ none
        → Finds k (tested_of k here (arms l (stmts_view sa) (stmts_view sb)) n m (expr_view e) l before s) x old new
        → Goes (what_view w)
    if_passes e a b sa sb before ew ea eb en h =
        let h1 = subst (λ z. Finds k (tested_of k here (arms l (stmts_view sa) (stmts_view sb)) n m (expr_view e) l z
        s) x old new) en h in
        let h2 : Goes (if_else (expr_view e) (stmts_view sa) (stmts_view sb)) = subst (λ z. Finds k z x old new)
        (sym (if_same (expr_view e) (stmts_view sa) (stmts_view sb) n m l s)) h1 in
        subst Goes (sym (ap what_view ew ∙ if_is e a b
        ∙ ap (λ z. if_else (expr_view e) (stmts_view z) (stmts_view b.items)) (sym ea)
        ∙ ap (λ z. if_else (expr_view e) (stmts_view sa) (stmts_view z)) (sym eb))) h2

    pub loop_passes : (first : Bool) (e : Expr) (a b : Vec Stmt Global) (sa sb : List Stmt) → w ≡ Loop first e a b
        → sa ≡ a.items → sb ≡ b.items → Goes (loop first (expr_view e) (stmts_view sa) (stmts_view sb))
        → Goes (what_view w)
    loop_passes first e a b sa sb ew ea eb h = subst Goes (sym (ap what_view ew ∙ loop_is first e a b
        ∙ ap (λ z. loop first (expr_view e) (stmts_view z) (stmts_view b.items)) (sym ea)
        ∙ ap (λ z. loop first (expr_view e) (stmts_view sa) (stmts_view z)) (sym eb))) h

    pub order_passes : (o : Order) (a b : Vec Stmt Global) (sa sb : List Stmt) → w ≡ ByOrder o a b → sa ≡ a.items
        → sb ≡ b.items → Goes (by_order o (stmts_view sa) (stmts_view sb)) → Goes (what_view w)
    order_passes o a b sa sb ew ea eb h = subst Goes (sym (ap what_view ew ∙ by_order_is o a b
        ∙ ap (λ z. by_order o (stmts_view z) (stmts_view b.items)) (sym ea)
        ∙ ap (λ z. by_order o (stmts_view sa) (stmts_view z)) (sym eb))) h

    pub call_passes : (i : ℕ) (es : Vec Expr Global) (d dd : Option Dest) (ee : List Expr) → w ≡ Call i es d
        → ee ≡ es.items → dd ≡ d → Goes (call i (map expr_view ee) (option_map dest_view dd)) → Goes (what_view w)
    call_passes i es d dd ee ew ea ed h = subst Goes (sym (ap what_view ew
        ∙ ap (λ z. call i (map expr_view z) (option_map dest_view d)) (sym ea)
        ∙ ap (λ z. call i (map expr_view ee) (option_map dest_view z)) (sym ed))) h

    pub jump_passes : (v : What) → w ≡ w → what_view w ≡ v → Goes v → Goes (what_view w)
    jump_passes v i e h = subst Goes (sym e) h

  -- a scope is entered, gone through and left
  module _ (w : tree.What) (n : ℕ) (m : Mode) (l : ℕ) (s : S) (old new : ℕ) (bs : Vec ℕ Global) (a : Vec Stmt Global)
      (cs : List ℕ) (ss : List Stmt) (inner : S) (ew : w ≡ Scope bs a) (ec : cs ≡ bs.items) (es : ss ≡ a.items)
      (ei : inner ≡ k.raw.enter m cs s) where
    abbrev inside : Pass S
    inside = row k here (stmts_view a.items) n m (k.raw.enter m bs.items s)

    entered : inner ≡ k.raw.enter m bs.items s
    entered = ei ∙ ap (λ z. k.raw.enter m z s) ec

    is_scope : what_view w ≡ scope bs.items (stmts_view a.items)
    is_scope = ap what_view ew ∙ scope_is bs a

    pub scope_passes : (ds : List ℕ) (f g : Flow S) → ds ≡ bs.items
        → HasFound k (row k here (stmts_view ss) n m inner) f old new
        → g.on ≡ (scope_pass k.raw m ds (flow_view f)).on
        → ways_view g.ways ≡ (scope_pass k.raw m ds (flow_view f)).ways
        → HasFound k (one k here (what_view w) n m l s) g old new
    scope_passes ds f g ed h u v =
        let h1 = subst (λ z. HasFound k (row k here (stmts_view z) n m inner) f old new) es h in
        let h2 : HasFound k inside f old new = subst (λ z. HasFound k (row k here (stmts_view a.items) n m z) f old new)
        entered h1 in
        subst (λ z. HasFound k (one k here z n m l s) g old new) (sym is_scope) (record {
          on = u ∙ ap (λ z. leave_on k.raw m z f.on) ed ∙ leave_same k m bs.items f.on
              ∙ ap (leave_on (checking k) m bs.items) h2.on;
          ways = v ∙ ap (λ z. (scope_pass k.raw m z (flow_view f)).ways) ed ∙ ways_same f
              ∙ ap (λ z. (scope_pass (checking k) m bs.items (passed f.on z (logged [] 0 []))).ways) h2.ways;
          log = h2.log;
        })
      where
        ways_same : (f : Flow S) → (scope_pass k.raw m bs.items (flow_view f)).ways ≡ (scope_pass (checking k) m
            bs.items (flow_view f)).ways
        ways_same f =
            ap (λ z. record {
              broken = z;
              continued = leave_on k.raw m bs.items f.ways.continued;
              returned = leave_on k.raw m bs.items f.ways.returned;
            }) (leave_same k m bs.items f.ways.broken)
            ∙ ap (λ z. record {
              broken = leave_on (checking k) m bs.items f.ways.broken;
              continued = z;
              returned = leave_on k.raw m bs.items f.ways.returned;
            }) (leave_same k m bs.items f.ways.continued)
            ∙ ap (λ z. record {
              broken = leave_on (checking k) m bs.items f.ways.broken;
              continued = leave_on (checking k) m bs.items f.ways.continued;
              returned = z;
            }) (leave_same k m bs.items f.ways.returned)

    pub scope_stops : (t : Stop) → IsStop k (row k here (stmts_view ss) n m inner).log.faults t
        → IsStop k (one k here (what_view w) n m l s).log.faults t
    scope_stops t h =
        let h1 = subst (λ z. IsStop k (row k here (stmts_view z) n m inner).log.faults t) es h in
        let h2 = subst (λ z. IsStop k (row k here (stmts_view a.items) n m z).log.faults t) entered h1 in
        subst (λ z. IsStop k (one k here z n m l s).log.faults t) (sym is_scope) h2

  -- ---- arms by byte order

  module _ (ys ns : List Stmt) (s : S) (x : Result (Flow S) Stop) (old new : ℕ) (n : ℕ) where
    abbrev R : List Stmt → Mode → S → Pass S
    R ss m s = row k here (stmts_view ss) n m s

    abbrev Holds : Pass S → Type 0
    Holds p = Finds k p x old new

    arm_is : (b : Bool) (a : List Stmt) → a ≡ (if b then ys else ns) → arm_of (checking k) b (R ys) (R ns) ≡ R a
    arm_is true a e = ap R (sym e)
    arm_is false a e = ap R (sym e)

    pub order_both : (o : Order) (l : ℕ) (m : Mode) (u v : List Stmt) → m ≡ Both
        → u ≡ (if is_order (k.plan.order left) o then ys else ns)
        → v ≡ (if is_order (k.plan.order right) o then ys else ns)
        → Holds (parted_arms k here l (stmts_view u) (stmts_view v) s)
        → Holds (one k here (by_order o (stmts_view ys) (stmts_view ns)) n m l s)
    order_both o l m u v em e f h =
        let both = parted_alone k here l (stmts_view u) (stmts_view v) n s in
        let h1 : Holds (apart (checking k) l (R u) (R v) s) = subst Holds (sym both) h in
        let h2 = subst (λ z. Holds (apart (checking k) l z (R v) s)) (sym (arm_is (is_order (k.plan.order left) o) u e))
        h1 in
        let h3 = subst (λ z. Holds (apart (checking k) l (arm_of (checking k) (is_order (k.plan.order left) o) (R ys)
        (R ns)) z s)) (sym (arm_is (is_order (k.plan.order right) o) v f)) h2 in
        subst (λ m. Holds (one k here (by_order o (stmts_view ys) (stmts_view ns)) n m l s)) (sym em) h3

    pub order_alone : (o : Order) (l : ℕ) (m : Mode) (i : Side) (u : List Stmt) → m ≡ One i
        → u ≡ (if is_order (k.plan.order i) o then ys else ns) → Holds (R u (One i) s)
        → Holds (one k here (by_order o (stmts_view ys) (stmts_view ns)) n m l s)
    order_alone o l m i u em e h =
        let h1 = subst (λ (z : Mode → S → Pass S). Holds (z (One i) s))
        (sym (arm_is (is_order (k.plan.order i) o) u e)) h
        in
        subst (λ m. Holds (one k here (by_order o (stmts_view ys) (stmts_view ns)) n m l s)) (sym em) h1

-- ---- calls

module _ {S : Type 0} (k : Course S) (m : Mode) (l : ℕ) (f : Function) (es : List plain.Expr) (d : Option plain.Dest)
    (body : S → Pass S) (s : S) where
  abbrev A : Pass S
  A = simple_pass on l ((checking k).arguments m f es s)

  abbrev B : S → Pass S
  B s = leave_call (checking k) (scope_pass (checking k) m (frame_of f) (body s))

  abbrev C : S → Pass S
  C s = simple_pass on l ((checking k).result m f d s)

  abbrev into : S → Ways S → Pass S
  into = rowed (checking k) B

  abbrev within : Pass S
  within = then_pass (checking k) A none into

  abbrev whole : Pass S
  whole = call_pass (checking k) (Some f) m es d l body s

  pub call_first : (t : Stop) → IsStop k (found_at l ((checking k).arguments m f es s).faults) t
      → IsStop k whole.log.faults t
  call_first t h =
      go_front k within.on (join_ways (checking k) none within.ways) within.log (rowed (checking k) C) t
      (go_front k A.on (join_ways (checking k) none A.ways) A.log into t h)

  -- what is reached inside is left
  finish : (x : Result (Flow S) Stop) (old two new : ℕ) (reached : Log S) → Counts k reached old two → (v : Option S)
      → Finds k (branch v C) x two new → Finds k (go_on (checking k) v none reached (rowed (checking k) C)) x old new
  finish (Ok g) old two new reached told None h = record {
    on = h.on;
    ways = h.ways;
    log = drop_last k reached old new (counts_both k reached (logged [] 0 []) old two new told h.log);
  }
  finish (Ok g) old two new reached told (Some s) h = record {
    on = h.on;
    ways = h.ways;
    log = counts_both k reached (C s).log old two new told h.log;
  }
  finish (Err t) old two new reached told None h = subst (λ z. IsStop k z t) (sym told.quiet) h
  finish (Err t) old two new reached told (Some s) h = behind k reached.faults (C s).log.faults t told.quiet h

  module _ (old : ℕ) (quiet : found_at l ((checking k).arguments m f es s).faults ≡ []) where
    -- in the body
    pub call_second : (u : Option S) → u ≡ ((checking k).arguments m f es s).next → (t : Stop)
        → IsStop k (branch u body).log.faults t → IsStop k whole.log.faults t
    call_second u e t h =
        go_front k within.on (join_ways (checking k) none within.ways) within.log (rowed (checking k) C) t
        (subst (λ z. IsStop k (go_on (checking k) z none A.log into).log.faults t) e (each u h))
      where
        each : (u : Option S) → IsStop k (branch u body).log.faults t
            → IsStop k (go_on (checking k) u none A.log into).log.faults t
        each None h = subst (λ z. IsStop k z t) (sym quiet) h
        each (Some i) h = behind k A.log.faults (body i).log.faults t quiet h

    module _ (two new : ℕ) (q : Flow S) (x : Result (Flow S) Stop) where
      abbrev left_by : Option S
      left_by = (leave_call (checking k) (scope_pass (checking k) m (frame_of f) (flow_view q))).on

      by_arguments : (u : Option S) → ((checking k).arguments m f es s).next ≡ u → HasFound k (branch u body) q old two
          → Finds k (branch left_by C) x two new → Finds k whole x old new
      by_arguments None e h j =
          let i : left_by ≡ None = ap (λ z. (leave_call (checking k) (scope_pass (checking k) m (frame_of f)
          (passed z (ways_view q.ways) (logged [] 0 [])))).on) h.on ∙ ap (λ z. (leave_call (checking k) (scope_pass
          (checking k) m (frame_of f) (passed None z (logged [] 0 [])))).on) h.ways in
          let j' : Finds k (branch None C) x two new = subst (λ z. Finds k (branch z C) x two new) i j in
          let told : Counts k A.log old two =
          drop_last k A.log old two (counts_both k A.log (logged [] 0 []) old old two
          (counts_events k _ old quiet) h.log) in
          let d : within ≡ passed None none A.log = ap (λ z. go_on (checking k) z none A.log into) e in
          subst (λ z. Finds k (then_pass (checking k) z none (rowed (checking k) C)) x old new) (sym d)
          (finish x old two new A.log told None j')
      by_arguments (Some inner) e h j =
          let i : left_by ≡ (B inner).on = ap (λ z. (leave_call (checking k) (scope_pass (checking k) m (frame_of f)
          (passed z (ways_view q.ways) (logged [] 0 [])))).on) h.on ∙ ap (λ z. (leave_call (checking k) (scope_pass
          (checking k) m (frame_of f) (passed (body inner).on z (logged [] 0 [])))).on) h.ways in
          let j' : Finds k (branch (B inner).on C) x two new = subst (λ z. Finds k (branch z C) x two new) i j in
          let told : Counts k (both_logs A.log (body inner).log) old two =
          counts_both k A.log (body inner).log old old two
          (counts_events k _ old quiet) h.log in
          let d : within ≡ after A.log (passed (B inner).on none (body inner).log) = ap (λ z. go_on (checking k) z none
          A.log into) e in
          subst (λ z. Finds k (then_pass (checking k) z none (rowed (checking k) C)) x old new) (sym d)
          (finish x old two new (both_logs A.log (body inner).log) told (B inner).on j')

      left_same : (leave_call k.raw (scope_pass k.raw m (frame_of f) (flow_view q))).on ≡ left_by
      left_same =
          join_same k (leave_on k.raw m (frame_of f) q.ways.returned) (leave_on k.raw m (frame_of f) q.on)
          ∙ ap (λ z. join_on (checking k) z (leave_on k.raw m (frame_of f) q.on)) (leave_same k m (frame_of f)
          q.ways.returned)
          ∙ ap (join_on (checking k) (leave_on (checking k) m (frame_of f) q.ways.returned))
          (leave_same k m (frame_of f)
          q.on)

      pub call_goes : (u v : Option S) → u ≡ ((checking k).arguments m f es s).next →
          HasFound k (branch u body) q old two
          → v ≡ (leave_call k.raw (scope_pass k.raw m (frame_of f) (flow_view q))).on
          → Finds k (branch v C) x two new → Finds k whole x old new
      call_goes u v e h d j =
          by_arguments u (sym e) h (subst (λ z. Finds k (branch z C) x two new) (d ∙ left_same) j)

-- ---- functions

module _ {S : Type 0} (k : Course S) where
  -- the body of a function that is called
  function_is : (n i : ℕ) → i < n → (j : ℕ) (m : Mode) → bodies k n i j m ≡ function k i j m
  function_is zero i lt j m = absurd (omega arith)
  function_is (suc n) i lt j m = by_test (nat_eq i n) refl (λ l. function_is n i l j m)
    where
      same : (i n : ℕ) → nat_eq i n ≡ true → i ≡ n
      same i n e = grind (arith, nat_tests)

      less : (i n : ℕ) → i < suc n → nat_eq i n ≡ false → i < n
      less i n h e = grind (arith, nat_tests)

      by_test : (t : Bool) → nat_eq i n ≡ t → (i < n → bodies k n i j m ≡ function k i j m)
          → arm_of (checking k) t (function k n j) (bodies k n i j) m ≡ function k i j m
      by_test true e go = ap (λ z. function k z j m) (sym (same i n e))
      by_test false e go = go (less i n lt e)

  module _ (here : ℕ) (m : Mode) (l : ℕ) (i : ℕ) (es : List plain.Expr) (d : Option plain.Dest) (s : S) (n : ℕ) where
    pub calls_none : (f : Flow S) → callee_of k.plan.program here i ≡ None → f.on ≡ None → ways_view f.ways ≡ none
        → HasFound k (one k here (call i es d) n m l s) f n n
    calls_none f e a b =
        subst (λ z. HasFound k (call_pass (checking k) z m es d l (bodies k here i n m) s) f n n) (sym e)
        (record { on = a; ways = b; log = counts_none k n })

    pub call_is : (f : Function) → callee_of k.plan.program here i ≡ Some f → i < here
        → call_pass (checking k) (Some f) m es d l (function k i n m) s ≡ one k here (call i es d) n m l s
    call_is f e lt =
        ap (λ b. call_pass (checking k) (Some f) m es d l b s) (sym (function_is here i lt n m))
        ∙ ap (λ z. call_pass (checking k) z m es d l (bodies k here i n m) s) (sym e)

  pub function_none : (i : ℕ) (m : Mode) (u : Option S) (s : S) (f : Flow S) (n : ℕ)
      → slice_get k.plan.program.functions i ≡ None → u ≡ Some s → f.on ≡ Some s → ways_view f.ways ≡ none
      → HasFound k (branch u (function k i n m)) f n n
  function_none i m u s f n e d a b =
      subst (λ z. HasFound k (branch z (function k i n m)) f n n) (sym d)
      (subst (λ z. HasFound k (body_pass (checking k) k.plan.unroll (heads k) k.plan.order k.plan.program z i
      (bodies k i)
      n m s) f n n) (sym e)
      (record { on = a; ways = b; log = counts_none k n }))

  pub function_some : (i : ℕ) (m : Mode) (u : Option S) (s : S) (g : Function) (x : Result (Flow S) Stop)
      (old new : ℕ) → slice_get k.plan.program.functions i ≡ Some g → u ≡ Some s
      → Finds k (row k i g.body old m s) x old new → Finds k (branch u (function k i old m)) x old new
  function_some i m u s g x old new e d h =
      subst (λ z. Finds k (branch z (function k i old m)) x old new) (sym d)
      (subst (λ z. Finds k (body_pass (checking k) k.plan.unroll (heads k) k.plan.order k.plan.program z i (bodies k i)
      old m s) x old new) (sym e) h)
