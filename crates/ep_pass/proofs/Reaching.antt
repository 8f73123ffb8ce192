-- Passes beside outcomes of both machines, and of one while the other stands still.
use Rattle.std.proofs.Common.{◌≡◌, ℕ, List, [], ◌∷◌, ◌++◌, refl, subst, Option, Some, None, Bool, true, false}
use Rattle.ep_int.specs.declared.types.Order.{Order}
use Rattle.ep_core.specs.Program.{Expr, Program}
use Rattle.ep_core.specs.Exec.{State, Way, on, broken, continued, returned, Outcome, leaves, no_input, Going, is_true}
use Rattle.ep_core.specs.Exec.{given, and_then, listed, either, scope_left, without, arm_left, code_of_way, value}
use Rattle.ep_core.specs.Runs.{Side, left, right}
use Rattle.ep_core.proofs.Grows.{Growing}
use Rattle.ep_pass.specs.States.{Mode, Both, One, Fault, Verdict, stuck, same, differs, StateOps}
use Rattle.ep_pass.specs.Pass.{Ways, none, Log, logged, Pass, passed, after, so_far, branch, found_at, differ}
use Rattle.ep_pass.specs.Pass.{only_on, only_broken, only_continued, only_returned, leave_loop, join_on, join_ways}
use Rattle.ep_pass.specs.Pass.{go_on, then_pass, either_pass, leave_call, body_ends, next_pass, rowed, leave_on}
use Rattle.ep_pass.specs.Pass.{scope_pass, agreed, two_ways, decided, tested, parted, apart}
use Rattle.ep_pass.specs.Laws.{Fits, GoesOn}
use Rattle.ep_pass.proofs.Outcomes.{loop_left, body_end, called_end, IsTurn, IsPlain, IsCall}
use Rattle.ep_pass.proofs.Cuts.{front_empty, back_empty, Cut, cut_then, cut_ends, loop_ends, bodies_end}
use Rattle.ep_pass.proofs.Cuts.{scope_ends, calls_end, arms_end, with_truth}
use Rattle.ep_pass.proofs.Sure.{IsTest, told, Reaches, Seen, Beside, Sure}

-- the state in which a pass is left so
abbrev pub way : {S : Type 0} → Way → Ways S → Option S
way on w = None
way broken w = w.broken
way continued w = w.continued
way returned w = w.returned

abbrev pub at : {S : Type 0} → Way → Pass S → Option S
at on p = p.on
at broken p = p.ways.broken
at continued p = p.ways.continued
at returned p = p.ways.returned

pub no_alarms : (l : ℕ) (fs : List Fault) → found_at l fs ≡ [] → fs ≡ []
no_alarms l [] e = refl
no_alarms l (f ∷ fs) e = absurd cc

abbrev pub IsQuiet : {S : Type 0} → Pass S → Type 0
IsQuiet p = p.log.faults ≡ []

module _ {S : Type 0} (In : S → State → State → Type 0) where
  -- where the first is reached, so is the second, which stands for as much
  abbrev pub Less : Option S → Option S → Type 0
  Less u v = (x y : State) → Reaches In u x y → Reaches In v x y

  abbrev pub WaysLess : Ways S → Ways S → Type 0
  WaysLess v w = (k : Way) → Less (way k v) (way k w)

  abbrev pub PassLess : Pass S → Pass S → Type 0
  PassLess p q = (k : Way) → Less (at k p) (at k q)

  -- the ways out so far stay
  abbrev pub Keeps : (S → Ways S → Pass S) → Type 0
  Keeps go = (s : S) (w : Ways S) → WaysLess w (go s w).ways

  pub beside_less : (m : Side) (u v : Option S) (x y : State) → Less u v → Beside In m u x y → Beside In m v x y
  beside_less left u v x y h i = h x y i
  beside_less right u v x y h i = h y x i

  pub beside_some : (m : Side) (s : S) (x y : State) → Beside In m (Some s) x y → Seen In m s x y
  beside_some left s x y i = i
  beside_some right s x y i = i

  pub seen_some : (m : Side) (s : S) (x y : State) → Seen In m s x y → Beside In m (Some s) x y
  seen_some left s x y i = i
  seen_some right s x y i = i

  pub beside_none : (m : Side) (x y : State) → Beside In m None x y → ⊥
  beside_none left x y i = i
  beside_none right x y i = i

  -- nothing that would be an alarm is reached
  pub no_differ : (m : Side) (l : ℕ) (u : Option S) (x y : State) → differ l u ≡ [] → Beside In m u x y → ⊥
  no_differ m l None x y e i = beside_none m x y i
  no_differ m l (Some s) x y e i = absurd cc

  -- of machines with these bounds: one alone, and both
  module _ (b : Side → ℕ) where
    pub data Alone (m : Side) (p : Pass S) (y : State) : Outcome → Type 0 where
      alone : (k : Way) {x : State} → Beside In m (at k p) x y → Alone m p y (leaves k (b m) x)

    -- a pass of one side that is quiet has its outcome
    abbrev pub Sound1 : Side → (S → Pass S) → Going → Type 0
    Sound1 m go f = (s : S) (x y : State) → Seen In m s x y → IsQuiet (go s) → Alone m (go s) y (f (b m) x)

    abbrev pub After1 : Side → (S → Ways S → Pass S) → Going → Type 0
    After1 m go f = (s : S) (w : Ways S) (x y : State) → Seen In m s x y → IsQuiet (go s w)
        → Alone m (go s w) y (f (b m) x)

    pub alone_below : (m : Side) (p q : Pass S) (y : State) (c : Outcome) → PassLess p q → Alone m p y c → Alone m q y c
    alone_below m p q y c h (alone k {x} i) = alone k (beside_less m (at k p) (at k q) x y (h k) i)

    pub alone_branch : (m : Side) (u : Option S) (go : S → Pass S) (f : Going) (x y : State) → Sound1 m go f
        → IsQuiet (branch u go) → Beside In m u x y → Alone m (branch u go) y (f (b m) x)
    alone_branch m None go f x y h e i = absurd (beside_none m x y i)
    alone_branch m (Some s) go f x y h e i = h s x y (beside_some m s x y i) e

    module _ (slow : Side) where
      pub data Together (p : Pass S) : Outcome → Outcome → Type 0 where
        both_leave : (k : Way) {x y : State} → Reaches In (at k p) x y → Together p (leaves k (b left) x)
            (leaves k (b right) y)
        both_starved : {x y : State} → x.outputs ≡ y.outputs → Together p (no_input x) (no_input y)
        one_cut : {c d : Outcome} → Cut slow c d → Together p c d

      abbrev pub Sound2 : (S → Pass S) → Going → Going → Type 0
      Sound2 go f g = (s : S) (x y : State) → In s x y → IsQuiet (go s) → Together (go s) (f (b left) x) (g (b right) y)

      abbrev pub After2 : (S → Ways S → Pass S) → Going → Going → Type 0
      After2 go f g = (s : S) (w : Ways S) (x y : State) → In s x y → IsQuiet (go s w)
          → Together (go s w) (f (b left) x) (g (b right) y)

      pub below : (p q : Pass S) (c d : Outcome) → PassLess p q → Together p c d → Together q c d
      below p q c d h (both_leave k {x} {y} i) = both_leave k (h k x y i)
      below p q c d h (both_starved e) = both_starved e
      below p q c d h (one_cut t) = one_cut t

module _ (prog : Program) (ord : Side → Order) {S : Type 0} (o : StateOps S) (In : S → State → State → Type 0)
    (law : Sure prog ord o In) where
  pub less_left : (u v : Option S) → Less In u (join_on o u v)
  less_left None v x y i = absurd i
  less_left (Some s) None x y i = i
  less_left (Some s) (Some t) x y i =
      law.joined_left (o.unified s t).0 (o.unified s t).1 x y (law.unified_left s t x y i)

  pub less_right : (u v : Option S) → Less In v (join_on o u v)
  less_right None v x y i = i
  less_right (Some s) None x y i = absurd i
  less_right (Some s) (Some t) x y i =
      law.joined_right (o.unified s t).0 (o.unified s t).1 x y (law.unified_right s t x y i)

  pub ways_left : (v w : Ways S) → WaysLess In v (join_ways o v w)
  ways_left v w on x y i = absurd i
  ways_left v w broken x y i = less_left v.broken w.broken x y i
  ways_left v w continued x y i = less_left v.continued w.continued x y i
  ways_left v w returned x y i = less_left v.returned w.returned x y i

  pub ways_right : (v w : Ways S) → WaysLess In w (join_ways o v w)
  ways_right v w on x y i = absurd i
  ways_right v w broken x y i = less_right v.broken w.broken x y i
  ways_right v w continued x y i = less_right v.continued w.continued x y i
  ways_right v w returned x y i = less_right v.returned w.returned x y i

  pub either_left : (p q : Pass S) → PassLess In p (either_pass o p q)
  either_left p q on x y i = less_left p.on q.on x y i
  either_left p q broken x y i = less_left p.ways.broken q.ways.broken x y i
  either_left p q continued x y i = less_left p.ways.continued q.ways.continued x y i
  either_left p q returned x y i = less_left p.ways.returned q.ways.returned x y i

  pub either_right : (p q : Pass S) → PassLess In q (either_pass o p q)
  either_right p q on x y i = less_right p.on q.on x y i
  either_right p q broken x y i = less_right p.ways.broken q.ways.broken x y i
  either_right p q continued x y i = less_right p.ways.continued q.ways.continued x y i
  either_right p q returned x y i = less_right p.ways.returned q.ways.returned x y i

  decided_keeps : (a : Pass S) (m : Mode) (v : Verdict) (e : Expr) (p q r t : S → Pass S) (s : S)
      → PassLess In a (decided o a m v e p q r t s)
  decided_keeps a m stuck e p q r t s k x y i = i
  decided_keeps a m same e p q r t s k x y i =
      let p1 = branch (agreed o m e true s) p in
      either_left (either_pass o a p1) (branch (agreed o m e false s) t) k x y (either_left a p1 k x y i)
  decided_keeps a (One m) differs e p q r t s k x y i =
      let p1 = branch (o.assume_one m e true s) p in
      either_left (either_pass o a p1) (branch (o.assume_one m e false s) t) k x y (either_left a p1 k x y i)
  decided_keeps a Both differs e p q r t s k x y i =
      let a1 = either_pass o a (branch (o.assume e true true s) p) in
      let a2 = either_pass o a1 (branch (o.assume e true false s) q) in
      let a3 = either_pass o a2 (branch (o.assume e false true s) r) in
      either_left a3 (branch (o.assume e false false s) t) k x y
      (either_left a2 (branch (o.assume e false true s) r) k x y
      (either_left a1 (branch (o.assume e true false s) q) k x y
      (either_left a (branch (o.assume e true true s) p) k x y i)))

  -- what came before a test stays
  pub tested_keeps : (w : Ways S) (m : Mode) (e : Expr) (l : ℕ) (p q r t : S → Pass S) (s : S)
      → WaysLess In w (tested o (so_far w) m e l p q r t s).ways
  tested_keeps w m e l p q r t s on x y i = absurd i
  tested_keeps w m e l p q r t s broken x y i =
      decided_keeps (so_far w) m (o.test m e s).verdict e p q r t s broken x y i
  tested_keeps w m e l p q r t s continued x y i =
      decided_keeps (so_far w) m (o.test m e s).verdict e p q r t s continued x y i
  tested_keeps w m e l p q r t s returned x y i =
      decided_keeps (so_far w) m (o.test m e s).verdict e p q r t s returned x y i

  pub go_on_keeps : (u : Option S) (w : Ways S) (g : Log S) (go : S → Ways S → Pass S) → Keeps In go
      → WaysLess In w (go_on o u w g go).ways
  go_on_keeps None w g go h k x y i = i
  go_on_keeps (Some s) w g go h k x y i = h s w k x y i

  pub then_keeps : (p : Pass S) (go : S → Ways S → Pass S) → Keeps In go → (w : Ways S)
      → WaysLess In w (then_pass o p w go).ways
  then_keeps p go h w k x y i = go_on_keeps p.on (join_ways o w p.ways) p.log go h k x y (ways_left w p.ways k x y i)

  pub then_ways : (p : Pass S) (w : Ways S) (go : S → Ways S → Pass S) → Keeps In go
      → WaysLess In p.ways (then_pass o p w go).ways
  then_ways p w go h k x y i = go_on_keeps p.on (join_ways o w p.ways) p.log go h k x y (ways_right w p.ways k x y i)

  pub go_on_front : (u : Option S) (w : Ways S) (g : Log S) (go : S → Ways S → Pass S) → IsQuiet (go_on o u w g go)
      → g.faults ≡ []
  go_on_front None w g go e = e
  go_on_front (Some s) w g go e = front_empty g.faults _ e

  pub then_front : (p : Pass S) (w : Ways S) (go : S → Ways S → Pass S) → IsQuiet (then_pass o p w go) → IsQuiet p
  then_front p w go e = go_on_front p.on (join_ways o w p.ways) p.log go e

  pub next_front : (p : Pass S) (next : S → Pass S) → IsQuiet (next_pass o p next) → IsQuiet p
  next_front p next e = then_front (body_ends o p) none (rowed o next) e

  pub rowed_keeps : (next : S → Pass S) → Keeps In (rowed o next)
  rowed_keeps next s w k x y i = i

  module _ (b : Side → ℕ) where
    same_at : (g : Log S) (p : Pass S) → PassLess In p (after g p)
    same_at g p on x y i = i
    same_at g p broken x y i = i
    same_at g p continued x y i = i
    same_at g p returned x y i = i

    -- ---- one side

    pub after_alone : (m : Side) (g : Log S) (p : Pass S) (y : State) (c : Outcome) → Alone In b m p y c
        → Alone In b m (after g p) y c
    after_alone m g p y c h = alone_below In b m p (after g p) y c (same_at g p) h

    -- what a pass comes to, and what comes next
    pub goes_on_alone : (m : Side) (p r : Pass S) (y : State) (c : Outcome) (f : Going)
        → ((x : State) → Beside In m p.on x y → Alone In b m r y (f (b m) x)) → WaysLess In p.ways r.ways
        → Alone In b m p y c → Alone In b m r y (and_then c f)
    goes_on_alone m p r y c f h k (alone on {x} i) = h x i
    goes_on_alone m p r y c f h k (alone broken {x} i) =
        alone broken (beside_less In m p.ways.broken r.ways.broken x y (k broken) i)
    goes_on_alone m p r y c f h k (alone continued {x} i) =
        alone continued (beside_less In m p.ways.continued r.ways.continued x y (k continued) i)
    goes_on_alone m p r y c f h k (alone returned {x} i) =
        alone returned (beside_less In m p.ways.returned r.ways.returned x y (k returned) i)

    pub go_on_alone : (m : Side) (u : Option S) (w : Ways S) (g : Log S) (go : S → Ways S → Pass S) (f : Going)
        (x y : State) → After1 In b m go f → IsQuiet (go_on o u w g go) → Beside In m u x y
        → Alone In b m (go_on o u w g go) y (f (b m) x)
    go_on_alone m None w g go f x y h e i = absurd (beside_none In m x y i)
    go_on_alone m (Some s) w g go f x y h e i =
        after_alone m g (go s w) y _ (h s w x y (beside_some In m s x y i) (back_empty g.faults _ e))

    pub then_alone : (m : Side) (p : Pass S) (w : Ways S) (go : S → Ways S → Pass S) (y : State) (c : Outcome)
        (f : Going) → After1 In b m go f → Keeps In go → IsQuiet (then_pass o p w go) → Alone In b m p y c
        → Alone In b m (then_pass o p w go) y (and_then c f)
    then_alone m p w go y c f h k e a =
        goes_on_alone m p (then_pass o p w go) y c f
        (λ x i. go_on_alone m p.on (join_ways o w p.ways) p.log go f x y h e i) (then_ways p w go k) a

    pub leave_loop_alone : (m : Side) (p : Pass S) (y : State) (c : Outcome) → p.on ≡ None → IsTurn c
        → Alone In b m p y c → Alone In b m (leave_loop p) y (loop_left c)
    leave_loop_alone m p y c e h (alone on {x} i) =
        absurd (beside_none In m x y (subst (λ u. Beside In m u x y) e i))
    leave_loop_alone m p y c e h (alone broken {x} i) = alone on i
    leave_loop_alone m p y c e h (alone continued {x} i) = absurd h
    leave_loop_alone m p y c e h (alone returned {x} i) = alone returned i

    pub rowed_alone : (m : Side) (p : Pass S) (w : Ways S) (y : State) (c : Outcome) → p.ways ≡ none
        → Alone In b m p y c → Alone In b m (passed p.on w p.log) y c
    rowed_alone m p w y c e (alone on {x} i) = alone on i
    rowed_alone m p w y c e (alone broken {x} i) =
        absurd (beside_none In m x y (subst (λ (v : Ways S). Beside In m v.broken x y) e i))
    rowed_alone m p w y c e (alone continued {x} i) =
        absurd (beside_none In m x y (subst (λ (v : Ways S). Beside In m v.continued x y) e i))
    rowed_alone m p w y c e (alone returned {x} i) =
        absurd (beside_none In m x y (subst (λ (v : Ways S). Beside In m v.returned x y) e i))

    body_ends_alone : (m : Side) (p : Pass S) (y : State) (c : Outcome) → Alone In b m p y c
        → Alone In b m (body_ends o p) y (body_end c)
    body_ends_alone m p y c (alone on {x} i) =
        alone on (beside_less In m p.on (body_ends o p).on x y (less_right p.ways.continued p.on) i)
    body_ends_alone m p y c (alone continued {x} i) =
        alone on (beside_less In m p.ways.continued (body_ends o p).on x y (less_left p.ways.continued p.on) i)
    body_ends_alone m p y c (alone broken {x} i) = alone broken i
    body_ends_alone m p y c (alone returned {x} i) = alone returned i

    plain_alone : (m : Side) (p : Pass S) (w : Ways S) (y : State) (c : Outcome) → IsPlain c → Alone In b m p y c
        → Alone In b m (passed p.on w p.log) y c
    plain_alone m p w y c h (alone on {x} i) = alone on i
    plain_alone m p w y c h (alone broken {x} i) = absurd h
    plain_alone m p w y c h (alone continued {x} i) = absurd h
    plain_alone m p w y c h (alone returned {x} i) = absurd h

    -- a body and its step part
    pub next_alone : (m : Side) (p : Pass S) (next : S → Pass S) (y : State) (c : Outcome) (f : Going)
        → Sound1 In b m next f → ((n : ℕ) (x : State) → IsPlain (f n x)) → IsQuiet (next_pass o p next)
        → Alone In b m p y c → Alone In b m (next_pass o p next) y (and_then (body_end c) f)
    next_alone m p next y c f h plain e a =
        then_alone m (body_ends o p) none (rowed o next) y (body_end c) f
        (λ s w x y i q. plain_alone m (next s) w y (f (b m) x) (plain (b m) x) (h s x y i q)) (rowed_keeps next) e
        (body_ends_alone m p y c a)

    left_alone : (m : Side) (bs : List ℕ) (u : Option S) (x y : State) → Beside In m u x y
        → Beside In m (leave_on o (One m) bs u) (without bs x) y
    left_alone m bs None x y i = absurd (beside_none In m x y i)
    left_alone m bs (Some s) x y i =
        seen_some In m (o.leave (One m) bs s) (without bs x) y (law.leave_alone m bs s x y (beside_some In m s x y i))

    pub scope_alone : (m : Side) (bs : List ℕ) (p : Pass S) (y : State) (c : Outcome) → Alone In b m p y c
        → Alone In b m (scope_pass o (One m) bs p) y (scope_left bs c)
    scope_alone m bs p y c (alone on {x} i) = alone on (left_alone m bs p.on x y i)
    scope_alone m bs p y c (alone broken {x} i) = alone broken (left_alone m bs p.ways.broken x y i)
    scope_alone m bs p y c (alone continued {x} i) = alone continued (left_alone m bs p.ways.continued x y i)
    scope_alone m bs p y c (alone returned {x} i) = alone returned (left_alone m bs p.ways.returned x y i)

    pub leave_call_alone : (m : Side) (p : Pass S) (y : State) (c : Outcome) → IsCall c → Alone In b m p y c
        → Alone In b m (leave_call o p) y (called_end c)
    leave_call_alone m p y c h (alone on {x} i) =
        alone on (beside_less In m p.on (leave_call o p).on x y (less_right p.ways.returned p.on) i)
    leave_call_alone m p y c h (alone broken {x} i) = absurd h
    leave_call_alone m p y c h (alone continued {x} i) = absurd h
    leave_call_alone m p y c h (alone returned {x} i) =
        alone on (beside_less In m p.ways.returned (leave_call o p).on x y (less_left p.ways.returned p.on) i)

    -- other tests are listed
    pub seen_retold : (m : Side) (s : S) (x y : State) (t j : List ℕ) → Seen In m s x y → Seen In m s (told t j x) y
    seen_retold left s x y t j i = law.retold s x y i t j y.tests y.joint_tests
    seen_retold right s x y t j i = law.retold s y x i y.tests y.joint_tests t j

    beside_retold : (m : Side) (u : Option S) (x y : State) (t j : List ℕ) → Beside In m u x y
        → Beside In m u (told t j x) y
    beside_retold m None x y t j i = absurd (beside_none In m x y i)
    beside_retold m (Some s) x y t j i =
        seen_some In m s (told t j x) y (seen_retold m s x y t j (beside_some In m s x y i))

    pub arm_alone : (m : Side) (joint : List ℕ) (p : Pass S) (y : State) (c : Outcome) → Alone In b m p y c
        → Alone In b m p y (arm_left joint c)
    arm_alone m joint p y c (alone k {x} i) =
        alone k (beside_retold m (at k p) x y (x.tests ++ code_of_way k ∷ []) (joint ++ code_of_way k ∷ []) i)

    -- a test: what goes on from it for each truth
    pub tested_alone : (a : Pass S) (m : Side) (e : Expr) → IsTest prog e → (l : ℕ) (p q r t : S → Pass S)
        (f f' : Going) → Sound1 In b m p f → Sound1 In b m t f'
        → Sound1 In b m (tested o a (One m) e l p q r t)
        (λ n x. given (value (ord m) prog e x.memory) l x (λ v. either (is_true v) f f' n x))
    tested_alone a m e typed l p q r t f f' h k s x y i quiet =
        let fs = found_at l (o.test (One m) e s).faults in
        let d = (o.test (One m) e s).verdict in
        let v = law.test_alone m e typed s x y i (no_alarms l (o.test (One m) e s).faults (front_empty fs _ quiet)) in
        with_truth (Alone In b m (tested o a (One m) e l p q r t s) y) (value (ord m) prog e x.memory) v.is.found
        v.truth l x (λ z. either z f f' (b m) x) v.is.has v.is.is
        (after_alone m (logged fs 0 []) (decided o a (One m) d e p q r t s) y _
        (by_verdict d v.truth v.goes_on (law.assume_alone m e typed v.truth s x y i
        (no_alarms l (o.test (One m) e s).faults (front_empty fs _ quiet)) v.is) (back_empty fs _ quiet)))
      where
        p1 : Pass S
        p1 = branch (o.assume_one m e true s) p

        p2 : Pass S
        p2 = branch (o.assume_one m e false s) t

        two : (z : Bool) → Beside In m (o.assume_one m e z s) x y → IsQuiet (two_ways o a (One m) e p t s)
            → Alone In b m (two_ways o a (One m) e p t s) y (either z f f' (b m) x)
        two true j quiet =
            alone_below In b m p1 _ y _
            (λ w x y i. either_left (either_pass o a p1) p2 w x y (either_right a p1 w x y i))
            (alone_branch In b m (o.assume_one m e true s) p f (listed 1 x) y h
            (back_empty a.log.faults _ (front_empty (a.log.faults ++ p1.log.faults) _ quiet))
            (beside_retold m (o.assume_one m e true s) x y (x.tests ++ 1 ∷ []) (x.joint_tests ++ 1 ∷ []) j))
        two false j quiet =
            alone_below In b m p2 _ y _ (either_right (either_pass o a p1) p2)
            (alone_branch In b m (o.assume_one m e false s) t f' (listed 0 x) y k
            (back_empty (a.log.faults ++ p1.log.faults) _ quiet)
            (beside_retold m (o.assume_one m e false s) x y (x.tests ++ 0 ∷ []) (x.joint_tests ++ 0 ∷ []) j))

        by_verdict : (v : Verdict) (z : Bool) → GoesOn v → Beside In m (o.assume_one m e z s) x y
            → IsQuiet (decided o a (One m) v e p q r t s)
            → Alone In b m (decided o a (One m) v e p q r t s) y (either z f f' (b m) x)
        by_verdict stuck z g j quiet = absurd g
        by_verdict same z g j quiet = two z j quiet
        by_verdict differs z g j quiet = two z j quiet

    -- ---- both sides

    module _ (slow : Side) where
      abbrev Tog : Pass S → Outcome → Outcome → Type 0
      Tog = Together In b slow

      pub after_together : (g : Log S) (p : Pass S) (c d : Outcome) → Tog p c d → Tog (after g p) c d
      after_together g p c d h = below In b slow p (after g p) c d (same_at g p) h

      pub left_arm : (p q : Pass S) (c d : Outcome) → Tog p c d → Tog (either_pass o p q) c d
      left_arm p q c d h = below In b slow p (either_pass o p q) c d (either_left p q) h

      pub right_arm : (p q : Pass S) (c d : Outcome) → Tog q c d → Tog (either_pass o p q) c d
      right_arm p q c d h = below In b slow q (either_pass o p q) c d (either_right p q) h

      pub goes_on : (p r : Pass S) (c d : Outcome) (f g : Going) → Growing f → Growing g
          → ((x y : State) → Reaches In p.on x y → Tog r (f (b left) x) (g (b right) y)) → WaysLess In p.ways r.ways
          → Tog p c d → Tog r (and_then c f) (and_then d g)
      goes_on p r c d f g fg gg h k (both_leave on {x} {y} i) = h x y i
      goes_on p r c d f g fg gg h k (both_leave broken {x} {y} i) = both_leave broken (k broken x y i)
      goes_on p r c d f g fg gg h k (both_leave continued {x} {y} i) = both_leave continued (k continued x y i)
      goes_on p r c d f g fg gg h k (both_leave returned {x} {y} i) = both_leave returned (k returned x y i)
      goes_on p r c d f g fg gg h k (both_starved e) = both_starved e
      goes_on p r c d f g fg gg h k (one_cut t) = one_cut (cut_then slow c d f g fg gg t)

      pub go_on_together : (u : Option S) (w : Ways S) (g : Log S) (go : S → Ways S → Pass S) (f f' : Going)
          (x y : State) → After2 In b slow go f f' → IsQuiet (go_on o u w g go) → Reaches In u x y
          → Tog (go_on o u w g go) (f (b left) x) (f' (b right) y)
      go_on_together None w g go f f' x y h e i = absurd i
      go_on_together (Some s) w g go f f' x y h e i =
          after_together g (go s w) _ _ (h s w x y i (back_empty g.faults _ e))

      pub then_together : (p : Pass S) (w : Ways S) (go : S → Ways S → Pass S) (c d : Outcome) (f g : Going) → Growing f
          → Growing g → After2 In b slow go f g → Keeps In go → IsQuiet (then_pass o p w go) → Tog p c d
          → Tog (then_pass o p w go) (and_then c f) (and_then d g)
      then_together p w go c d f g fg gg h k e a =
          goes_on p (then_pass o p w go) c d f g fg gg
          (λ x y i. go_on_together p.on (join_ways o w p.ways) p.log go f g x y h e i) (then_ways p w go k) a

      pub leave_loop_together : (p : Pass S) (c d : Outcome) → p.on ≡ None → IsTurn c → Tog p c d
          → Tog (leave_loop p) (loop_left c) (loop_left d)
      leave_loop_together p c d e h (both_leave on {x} {y} i) = absurd (subst (λ u. Reaches In u x y) e i)
      leave_loop_together p c d e h (both_leave broken {x} {y} i) = both_leave on i
      leave_loop_together p c d e h (both_leave continued {x} {y} i) = absurd h
      leave_loop_together p c d e h (both_leave returned {x} {y} i) = both_leave returned i
      leave_loop_together p c d e h (both_starved m) = both_starved m
      leave_loop_together p c d e h (one_cut t) = one_cut (cut_ends slow loop_left loop_left loop_ends loop_ends c d t)

      pub leave_call_together : (p : Pass S) (c d : Outcome) → IsCall c → Tog p c d
          → Tog (leave_call o p) (called_end c) (called_end d)
      leave_call_together p c d h (both_leave on {x} {y} i) = both_leave on (less_right p.ways.returned p.on x y i)
      leave_call_together p c d h (both_leave broken {x} {y} i) = absurd h
      leave_call_together p c d h (both_leave continued {x} {y} i) = absurd h
      leave_call_together p c d h (both_leave returned {x} {y} i) =
          both_leave on (less_left p.ways.returned p.on x y i)
      leave_call_together p c d h (both_starved m) = both_starved m
      leave_call_together p c d h (one_cut t) = one_cut (cut_ends slow called_end called_end calls_end calls_end c d t)

      plain_together : (p : Pass S) (w : Ways S) (c d : Outcome) → IsPlain c → Tog p c d
          → Tog (passed p.on w p.log) c d
      plain_together p w c d h (both_leave on {x} {y} i) = both_leave on i
      plain_together p w c d h (both_leave broken {x} {y} i) = absurd h
      plain_together p w c d h (both_leave continued {x} {y} i) = absurd h
      plain_together p w c d h (both_leave returned {x} {y} i) = absurd h
      plain_together p w c d h (both_starved m) = both_starved m
      plain_together p w c d h (one_cut t) = one_cut t

      pub rowed_together : (p : Pass S) (w : Ways S) (c d : Outcome) → p.ways ≡ none → Tog p c d
          → Tog (passed p.on w p.log) c d
      rowed_together p w c d e (both_leave on {x} {y} i) = both_leave on i
      rowed_together p w c d e (both_leave broken {x} {y} i) =
          absurd (subst (λ (v : Ways S). Reaches In v.broken x y) e i)
      rowed_together p w c d e (both_leave continued {x} {y} i) =
          absurd (subst (λ (v : Ways S). Reaches In v.continued x y) e i)
      rowed_together p w c d e (both_leave returned {x} {y} i) =
          absurd (subst (λ (v : Ways S). Reaches In v.returned x y) e i)
      rowed_together p w c d e (both_starved m) = both_starved m
      rowed_together p w c d e (one_cut t) = one_cut t

      body_ends_together : (p : Pass S) (c d : Outcome) → Tog p c d → Tog (body_ends o p) (body_end c) (body_end d)
      body_ends_together p c d (both_leave on {x} {y} i) = both_leave on (less_right p.ways.continued p.on x y i)
      body_ends_together p c d (both_leave continued {x} {y} i) = both_leave on (less_left p.ways.continued p.on x y i)
      body_ends_together p c d (both_leave broken {x} {y} i) = both_leave broken i
      body_ends_together p c d (both_leave returned {x} {y} i) = both_leave returned i
      body_ends_together p c d (both_starved m) = both_starved m
      body_ends_together p c d (one_cut t) = one_cut (cut_ends slow body_end body_end bodies_end bodies_end c d t)

      pub next_together : (p : Pass S) (next : S → Pass S) (c d : Outcome) (f g : Going) → Growing f → Growing g
          → Sound2 In b slow next f g → ((n : ℕ) (x : State) → IsPlain (f n x)) → IsQuiet (next_pass o p next)
          → Tog p c d → Tog (next_pass o p next) (and_then (body_end c) f) (and_then (body_end d) g)
      next_together p next c d f g fg gg h plain e a =
          then_together (body_ends o p) none (rowed o next) (body_end c) (body_end d) f g fg gg
          (λ s w x y i q. plain_together (next s) w (f (b left) x) (g (b right) y) (plain (b left) x) (h s x y i q))
          (rowed_keeps next) e (body_ends_together p c d a)

      left_in : (bs : List ℕ) (u : Option S) (x y : State) → Reaches In u x y
          → Reaches In (leave_on o Both bs u) (without bs x) (without bs y)
      left_in bs None x y i = absurd i
      left_in bs (Some s) x y i = law.leave_in bs s x y i

      pub scope_together : (bs : List ℕ) (p : Pass S) (c d : Outcome) → Tog p c d
          → Tog (scope_pass o Both bs p) (scope_left bs c) (scope_left bs d)
      scope_together bs p c d (both_leave on {x} {y} i) = both_leave on (left_in bs p.on x y i)
      scope_together bs p c d (both_leave broken {x} {y} i) = both_leave broken (left_in bs p.ways.broken x y i)
      scope_together bs p c d (both_leave continued {x} {y} i) =
          both_leave continued (left_in bs p.ways.continued x y i)
      scope_together bs p c d (both_leave returned {x} {y} i) = both_leave returned (left_in bs p.ways.returned x y i)
      scope_together bs p c d (both_starved m) = both_starved m
      scope_together bs p c d (one_cut t) =
          one_cut (cut_ends slow (scope_left bs) (scope_left bs) (scope_ends bs) (scope_ends bs) c d t)

      -- ---- tests of both

      reaches_retold : (u : Option S) (x y : State) (t j t' j' : List ℕ) → Reaches In u x y
          → Reaches In u (told t j x) (told t' j' y)
      reaches_retold None x y t j t' j' i = absurd i
      reaches_retold (Some s) x y t j t' j' i = law.retold s x y i t j t' j'

      pub arm_together : (joint joint' : List ℕ) (p : Pass S) (c d : Outcome) → Tog p c d
          → Tog p (arm_left joint c) (arm_left joint' d)
      arm_together joint joint' p c d (both_leave k {x} {y} i) =
          both_leave k (reaches_retold (at k p) x y (x.tests ++ code_of_way k ∷ []) (joint ++ code_of_way k ∷ [])
          (y.tests ++ code_of_way k ∷ []) (joint' ++ code_of_way k ∷ []) i)
      arm_together joint joint' p c d (both_starved m) = both_starved m
      arm_together joint joint' p c d (one_cut t) =
          one_cut (cut_ends slow (arm_left joint) (arm_left joint') (arms_end joint) (arms_end joint') c d t)

      -- what is known of a test that is quiet
      pub test_cases : (r : Pass S) (e : Expr) → IsTest prog e → (l : ℕ) (s : S) (x y : State) (f g : Bool → Outcome)
          → In s x y → (o.test Both e s).faults ≡ []
          → ((p q : Bool) → Fits (o.test Both e s).verdict p q → Reaches In (o.assume e p q s) x y → Tog r (f p) (g q))
          → Tog r (given (value (ord left) prog e x.memory) l x (λ v. f (is_true v)))
          (given (value (ord right) prog e y.memory) l y (λ v. g (is_true v)))
      test_cases r e typed l s x y f g i quiet h =
          let v = law.test_sound e typed s x y i quiet in
          let a = v.left_is in
          let c = v.right_is in
          let end : Outcome = given (value (ord right) prog e y.memory) l y (λ v. g (is_true v)) in
          with_truth (λ z. Tog r z end) (value (ord left) prog e x.memory) a.found v.on_left l x f a.has a.is
          (with_truth (Tog r (f v.on_left)) (value (ord right) prog e y.memory) c.found v.on_right l y g c.has c.is
          (h v.on_left v.on_right v.fits (law.assume_in e typed v.on_left v.on_right s x y i quiet a c)))

      -- a part of a pass, from the states of two machines
      branch_into : (x y : State) (T : Type 0) (whole : Pass S) (u : Option S) (go : S → Pass S)
          → ((s : S) → In s x y → IsQuiet (go s) → PassLess In (go s) whole → T) → IsQuiet (branch u go)
          → PassLess In (branch u go) whole → Reaches In u x y → T
      branch_into x y T whole None go h e less i = absurd i
      branch_into x y T whole (Some s) go h e less i = h s i e less

      -- what is known of each part of a decision, for its pair of truths
      module _ (a : Pass S) (e : Expr) (p q r t : S → Pass S) (s : S) (x y : State) where
        abbrev at_truths : Bool → Bool → Option S
        at_truths z z' = o.assume e z z' s

        abbrev p1 : Pass S
        p1 = branch (at_truths true true) p

        abbrev p2 : Pass S
        p2 = branch (at_truths true false) q

        abbrev p3 : Pass S
        p3 = branch (at_truths false true) r

        abbrev p4 : Pass S
        p4 = branch (at_truths false false) t

        abbrev a1 : Pass S
        a1 = either_pass o a p1

        abbrev a2 : Pass S
        a2 = either_pass o a1 p2

        abbrev a3 : Pass S
        a3 = either_pass o a2 p3

        abbrev pub Into : Verdict → (S → Pass S) → Type 0 → Type 0
        Into v go T = (s' : S) → In s' x y → IsQuiet (go s') → PassLess In (go s') (decided o a Both v e p q r t s) → T

        pub decided_into : (T : Bool → Bool → Type 0) (v : Verdict) (z z' : Bool) → Into v p (T true true)
            → Into v q (T true false) → Into v r (T false true) → Into v t (T false false)
            → Fits v z z' → Reaches In (at_truths z z') x y → IsQuiet (decided o a Both v e p q r t s) → T z z'
        decided_into T stuck z z' hp hq hr ht g j k = absurd g
        decided_into T same true true hp hq hr ht g j k =
            branch_into x y (T true true) (either_pass o a1 p4) (at_truths true true) p hp
            (back_empty a.log.faults _ (front_empty a1.log.faults _ k))
            (λ w x y i. either_left a1 p4 w x y (either_right a p1 w x y i)) j
        decided_into T same true false hp hq hr ht g j k = absurd cc
        decided_into T same false true hp hq hr ht g j k = absurd cc
        decided_into T same false false hp hq hr ht g j k =
            branch_into x y (T false false) (either_pass o a1 p4) (at_truths false false) t ht
            (back_empty a1.log.faults _ k) (either_right a1 p4) j
        decided_into T differs true true hp hq hr ht g j k =
            branch_into x y (T true true) (either_pass o a3 p4) (at_truths true true) p hp
            (back_empty a.log.faults _
            (front_empty a1.log.faults _ (front_empty a2.log.faults _ (front_empty a3.log.faults _ k))))
            (λ w x y i. either_left a3 p4 w x y
            (either_left a2 p3 w x y (either_left a1 p2 w x y (either_right a p1 w x y i)))) j
        decided_into T differs true false hp hq hr ht g j k =
            branch_into x y (T true false) (either_pass o a3 p4) (at_truths true false) q hq
            (back_empty a1.log.faults _ (front_empty a2.log.faults _ (front_empty a3.log.faults _ k)))
            (λ w x y i. either_left a3 p4 w x y (either_left a2 p3 w x y (either_right a1 p2 w x y i))) j
        decided_into T differs false true hp hq hr ht g j k =
            branch_into x y (T false true) (either_pass o a3 p4) (at_truths false true) r hr
            (back_empty a2.log.faults _ (front_empty a3.log.faults _ k))
            (λ w x y i. either_left a3 p4 w x y (either_right a2 p3 w x y i)) j
        decided_into T differs false false hp hq hr ht g j k =
            branch_into x y (T false false) (either_pass o a3 p4) (at_truths false false) t ht
            (back_empty a3.log.faults _ k) (either_right a3 p4) j

      pub tested_together : (a : Pass S) (e : Expr) → IsTest prog e → (l : ℕ) (p q r t : S → Pass S)
          (f f' g g' : Going) → Sound2 In b slow p f g → Sound2 In b slow q f g' → Sound2 In b slow r f' g
          → Sound2 In b slow t f' g'
          → Sound2 In b slow (tested o a Both e l p q r t)
          (λ n x. given (value (ord left) prog e x.memory) l x (λ v. either (is_true v) f f' n x))
          (λ m y. given (value (ord right) prog e y.memory) l y (λ v. either (is_true v) g g' m y))
      tested_together a e typed l p q r t f f' g g' hp hq hr ht s x y i quiet =
          let v = (o.test Both e s).verdict in
          let fs = found_at l (o.test Both e s).faults in
          test_cases (tested o a Both e l p q r t s) e typed l s x y (λ z. either z f f' (b left) x)
          (λ z. either z g g' (b right) y) i (no_alarms l (o.test Both e s).faults (front_empty fs _ quiet))
          (λ z z' fits j. after_together (logged fs 0 []) (decided o a Both v e p q r t s) _ _
          (decided_into a e p q r t s x y
          (λ z z'. Tog (decided o a Both v e p q r t s) (either z f f' (b left) x) (either z' g g' (b right) y)) v z z'
          (λ s' i k less. below In b slow (p s') _ _ _ less (hp s' (listed 1 x) (listed 1 y) (both_listed 1 1 s' i) k))
          (λ s' i k less. below In b slow (q s') _ _ _ less (hq s' (listed 1 x) (listed 0 y) (both_listed 1 0 s' i) k))
          (λ s' i k less. below In b slow (r s') _ _ _ less (hr s' (listed 0 x) (listed 1 y) (both_listed 0 1 s' i) k))
          (λ s' i k less. below In b slow (t s') _ _ _ less (ht s' (listed 0 x) (listed 0 y) (both_listed 0 0 s' i) k))
          fits j (back_empty fs _ quiet)))
        where
          both_listed : (c d : ℕ) (s : S) → In s x y → In s (listed c x) (listed d y)
          both_listed c d s i =
              law.retold s x y i (x.tests ++ c ∷ []) (x.joint_tests ++ c ∷ []) (y.tests ++ d ∷ [])
              (y.joint_tests ++ d ∷ [])

      -- ---- the sides go different ways

      only_on_together : (l : ℕ) (p : Pass S) (c : State) (d : Outcome) → IsQuiet (only_on l p) → Alone In b right p c d
          → Tog (only_on l p) (leaves on (b left) c) d
      only_on_together l p c d e (alone on {x} i) = both_leave on i
      only_on_together l p c d e (alone broken {x} i) =
          absurd (no_differ In right l p.ways.broken x c
          (front_empty (differ l p.ways.broken) _ (back_empty p.log.faults _ e)) i)
      only_on_together l p c d e (alone continued {x} i) =
          absurd (no_differ In right l p.ways.continued x c
          (front_empty (differ l p.ways.continued) _
          (back_empty (differ l p.ways.broken) _ (back_empty p.log.faults _ e))) i)
      only_on_together l p c d e (alone returned {x} i) =
          absurd (no_differ In right l p.ways.returned x c
          (back_empty (differ l p.ways.continued) _
          (back_empty (differ l p.ways.broken) _ (back_empty p.log.faults _ e))) i)

      only_broken_together : (l : ℕ) (p : Pass S) (c : State) (d : Outcome) → IsQuiet (only_broken l p)
          → Alone In b right p c d → Tog (only_broken l p) (leaves broken (b left) c) d
      only_broken_together l p c d e (alone on {x} i) =
          absurd (no_differ In right l p.on x c (front_empty (differ l p.on) _ (back_empty p.log.faults _ e)) i)
      only_broken_together l p c d e (alone broken {x} i) = both_leave broken i
      only_broken_together l p c d e (alone continued {x} i) =
          absurd (no_differ In right l p.ways.continued x c
          (front_empty (differ l p.ways.continued) _ (back_empty (differ l p.on) _ (back_empty p.log.faults _ e))) i)
      only_broken_together l p c d e (alone returned {x} i) =
          absurd (no_differ In right l p.ways.returned x c
          (back_empty (differ l p.ways.continued) _ (back_empty (differ l p.on) _ (back_empty p.log.faults _ e))) i)

      only_continued_together : (l : ℕ) (p : Pass S) (c : State) (d : Outcome) → IsQuiet (only_continued l p)
          → Alone In b right p c d → Tog (only_continued l p) (leaves continued (b left) c) d
      only_continued_together l p c d e (alone on {x} i) =
          absurd (no_differ In right l p.on x c (front_empty (differ l p.on) _ (back_empty p.log.faults _ e)) i)
      only_continued_together l p c d e (alone broken {x} i) =
          absurd (no_differ In right l p.ways.broken x c
          (front_empty (differ l p.ways.broken) _ (back_empty (differ l p.on) _ (back_empty p.log.faults _ e))) i)
      only_continued_together l p c d e (alone continued {x} i) = both_leave continued i
      only_continued_together l p c d e (alone returned {x} i) =
          absurd (no_differ In right l p.ways.returned x c
          (back_empty (differ l p.ways.broken) _ (back_empty (differ l p.on) _ (back_empty p.log.faults _ e))) i)

      only_returned_together : (l : ℕ) (p : Pass S) (c : State) (d : Outcome) → IsQuiet (only_returned l p)
          → Alone In b right p c d → Tog (only_returned l p) (leaves returned (b left) c) d
      only_returned_together l p c d e (alone on {x} i) =
          absurd (no_differ In right l p.on x c (front_empty (differ l p.on) _ (back_empty p.log.faults _ e)) i)
      only_returned_together l p c d e (alone broken {x} i) =
          absurd (no_differ In right l p.ways.broken x c
          (front_empty (differ l p.ways.broken) _ (back_empty (differ l p.on) _ (back_empty p.log.faults _ e))) i)
      only_returned_together l p c d e (alone continued {x} i) =
          absurd (no_differ In right l p.ways.continued x c
          (back_empty (differ l p.ways.broken) _ (back_empty (differ l p.on) _ (back_empty p.log.faults _ e))) i)
      only_returned_together l p c d e (alone returned {x} i) = both_leave returned i

      parted_together : (l : ℕ) (p : Pass S) (go : S → Pass S) (c : Outcome) (g : Going) (y : State)
          → Sound1 In b right go g → IsQuiet (parted o l p go) → Alone In b left p y c → Tog (parted o l p go) c
          (g (b right) y)
      parted_together l p go c g y h e a = after_together p.log (either_pass o q123 q4) c _ (by_way c a)
        where
          q1 : Pass S
          q1 = only_on l (branch p.on go)

          q2 : Pass S
          q2 = only_broken l (branch p.ways.broken go)

          q3 : Pass S
          q3 = only_continued l (branch p.ways.continued go)

          q4 : Pass S
          q4 = only_returned l (branch p.ways.returned go)

          q12 : Pass S
          q12 = either_pass o q1 q2

          q123 : Pass S
          q123 = either_pass o q12 q3

          arms : q123.log.faults ++ q4.log.faults ≡ []
          arms = back_empty p.log.faults _ e

          by_way : (c : Outcome) → Alone In b left p y c → Tog (either_pass o q123 q4) c (g (b right) y)
          by_way c (alone on {x} i) =
              let k = front_empty q1.log.faults _ (front_empty q12.log.faults _ (front_empty q123.log.faults _ arms)) in
              left_arm q123 q4 _ _ (left_arm q12 q3 _ _
              (left_arm q1 q2 _ _ (only_on_together l (branch p.on go) x _ k
              (alone_branch In b right p.on go g y x h (front_empty (branch p.on go).log.faults _ k) i))))
          by_way c (alone broken {x} i) =
              let k = back_empty q1.log.faults _ (front_empty q12.log.faults _ (front_empty q123.log.faults _ arms)) in
              left_arm q123 q4 _ _ (left_arm q12 q3 _ _
              (right_arm q1 q2 _ _ (only_broken_together l (branch p.ways.broken go) x _ k
              (alone_branch In b right p.ways.broken go g y x h (front_empty (branch p.ways.broken go).log.faults _ k)
              i))))
          by_way c (alone continued {x} i) =
              let k = back_empty q12.log.faults _ (front_empty q123.log.faults _ arms) in
              left_arm q123 q4 _ _ (right_arm q12 q3 _ _
              (only_continued_together l (branch p.ways.continued go) x _ k
              (alone_branch In b right p.ways.continued go g y x h
              (front_empty (branch p.ways.continued go).log.faults _ k) i)))
          by_way c (alone returned {x} i) =
              let k = back_empty q123.log.faults _ arms in
              right_arm q123 q4 _ _
              (only_returned_together l (branch p.ways.returned go) x _ k
              (alone_branch In b right p.ways.returned go g y x h
              (front_empty (branch p.ways.returned go).log.faults _ k) i))

      pub apart_together : (l : ℕ) (p q : Mode → S → Pass S) (f g : Going) → Sound1 In b left (p (One left)) f
          → Sound1 In b right (q (One right)) g → Sound2 In b slow (apart o l p q) f g
      apart_together l p q f g h k s x y i e =
          parted_together l (p (One left) s) (q (One right)) _ g y k e
          (h s x y i (front_empty (p (One left) s).log.faults _ e))
