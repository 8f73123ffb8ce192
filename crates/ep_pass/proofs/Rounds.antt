-- Joint loops: turns one by one, and heads.
use Rattle.std.proofs.Common.{◌≡◌, ◌⊎◌, inl, inr, ℕ, zero, suc, ◌+◌, ◌-◌, ◌≤◌, ◌<◌, [], ◌∷◌, ◌++◌, refl, sym, subst}
use Rattle.std.proofs.Common.{Option, Bool, true, false, arith}
use Rattle.ep_int.specs.declared.types.Order.{Order}
use Rattle.ep_core.specs.Program.{Expr, Program}
use Rattle.ep_core.specs.Exec.{State, on, broken, continued, returned, Outcome, leaves, running, Going, and_then}
use Rattle.ep_core.specs.Exec.{listed, either, value}
use Rattle.ep_core.specs.Runs.{Side, left, right, Begins}
use Rattle.ep_core.proofs.Grows.{state_in, Growing, grown}
use Rattle.ep_pass.specs.States.{Mode, Both, One, StateOps}
use Rattle.ep_pass.specs.Pass.{Ways, none, logged, Pass, so_far, jumps, found_at, Heads, past, join_ways, then_pass}
use Rattle.ep_pass.specs.Pass.{decided, last_pass, turn_then, in_body, lone, joint_turn, turn_at, last_turns}
use Rattle.ep_pass.specs.Pass.{joint_rounds, loop_pass}
use Rattle.ep_pass.proofs.Outcomes.{rounds, first_rounds, loop_left, IsTurn, rounds_turn, first_turns, rounds_grow}
use Rattle.ep_pass.proofs.Sure.{IsTest, Reaches, Sure}
use Rattle.ep_pass.proofs.Cuts.{front_empty, back_empty, Cut, left_cut, right_cut}
use Rattle.ep_pass.proofs.Reaching.{no_alarms, IsQuiet, Less, WaysLess, PassLess, Sound1, Together, both_leave}
use Rattle.ep_pass.proofs.Reaching.{one_cut, Sound2, tested_keeps, go_on_keeps, go_on_front, then_front}
use Rattle.ep_pass.proofs.Reaching.{after_together, goes_on, go_on_together, then_together, leave_loop_together}
use Rattle.ep_pass.proofs.Reaching.{test_cases, decided_into}
use Rattle.ep_pass.proofs.Turns.{joint_none, joint_keeps, go_on_none}
use Rattle.ep_pass.proofs.Lone.{Outs, outs, stops, lone_outs}
use Rattle.ep_pass.proofs.Settling.{AreSound}

-- The machine that isn't stopped has more tests than the other, by more than the turns that it may go on alone.
abbrev pub Ahead : (alone : ℕ) → (slow : Side) → (lefts rights : ℕ) → Type 0
Ahead u left k j = k + u < j
Ahead u right k j = j + u < k

module _ (prog : Program) (ord : Side → Order) {S : Type 0} (o : StateOps S) (In : S → State → State → Type 0)
    (law : Sure prog ord o In) (b : Side → ℕ) (slow : Side) where
  less_ways : (p q : Pass S) → PassLess In p q → WaysLess In p.ways q.ways
  less_ways p q h on x y i = absurd i
  less_ways p q h broken x y i = h broken x y i
  less_ways p q h continued x y i = h continued x y i
  less_ways p q h returned x y i = h returned x y i

  module _ (u : ℕ) (heads : Heads S) (headed : AreSound In heads) (l : ℕ) (e : Expr) (typed : IsTest prog e)
      (body : (before : ℕ) → Mode → S → Pass S) (f g : Going) (fg : Growing f) (gg : Growing g)
      (ft : (n : ℕ) (x : State) → IsTurn (f n x)) (gt : (n : ℕ) (x : State) → IsTurn (g n x))
      (sound : (n : ℕ) → Sound2 In b slow (body n Both) f g)
      (on_left : (n : ℕ) → Sound1 In b left (body n (One left)) f)
      (on_right : (n : ℕ) → Sound1 In b right (body n (One right)) g) where
    abbrev Tog : Pass S → Outcome → Outcome → Type 0
    Tog = Together In b slow

    abbrev lefts : ℕ → Going
    lefts k = rounds k (value (ord left) prog e) l f

    abbrev rights : ℕ → Going
    rights k = rounds k (value (ord right) prog e) l g

    lefts_grow : (k : ℕ) → Growing (lefts k)
    lefts_grow k = rounds_grow k (value (ord left) prog e) l f fg

    rights_grow : (k : ℕ) → Growing (rights k)
    rights_grow k = rounds_grow k (value (ord right) prog e) l g gg

    abbrev turn : (before : ℕ) → Ways S → S → Pass S
    turn n w s = joint_turn o u l e (body n) w s

    abbrev last : (before : ℕ) → Ways S → S → Pass S
    last n w s = last_turns o u heads l e body n w s

    abbrev alone_in : (before : ℕ) → Side → S → Pass S
    alone_in n m s = lone o u l e (body n) m s

    ahead_next : (m : Side) (k j : ℕ) → Ahead u m (suc k) (suc j) → Ahead u m k j
    ahead_next left k j h = omega arith
    ahead_next right k j h = omega arith

    left_enough : (m : Side) (k j : ℕ) → Ahead u m (suc k) (suc j) → (left ≡ m) ⊎ (u ≤ k)
    left_enough left k j h = inl refl
    left_enough right k j h = inr (omega arith)

    right_enough : (m : Side) (k j : ℕ) → Ahead u m (suc k) (suc j) → (right ≡ m) ⊎ (u ≤ j)
    right_enough left k j h = inr (omega arith)
    right_enough right k j h = inl refl

    -- ---- where one is left

    left_out : (r : Pass S) (w : Option S) (c : Outcome) (y : State) → Less In w r.ways.broken
        → Outs prog ord o In law b slow left w y c → Tog r c (leaves broken (b right) y)
    left_out r w c y h (outs {x} i) = both_leave broken (h x y i)
    left_out r w c y h (stops {x} is p) =
        one_cut (subst (λ m. Cut m (running x) (leaves broken (b right) y)) is (left_cut p))

    right_out : (r : Pass S) (w : Option S) (d : Outcome) (z : State) → Less In w r.ways.broken
        → Outs prog ord o In law b slow right w z d → Tog r (leaves broken (b left) z) d
    right_out r w d z h (outs {x} i) = both_leave broken (h z x i)
    right_out r w d z h (stops {x} is p) =
        one_cut (subst (λ m. Cut m (leaves broken (b left) z) (running x)) is (right_cut p))

    -- ---- where a machine may make no more turns

    left_stops : (r : Pass S) (m : Side) → m ≡ slow → (j : ℕ) → Ahead u m 0 j → (s : S) (x y : State) → In s x y
        → Tog r (running x) (rights j (b right) y)
    left_stops r left is j h s x y i =
        one_cut (subst (λ m. Cut m (running x) (rights j (b right) y)) is
        (left_cut (subst (λ z. Begins z (state_in (rights j (b right) y)).outputs) (sym (law.same_outputs s x y i))
        (grown y (b right) _ (rights_grow j (b right) y)).0)))
    left_stops r right is j h s x y i = absurd (omega arith)

    right_stops : (r : Pass S) (m : Side) → m ≡ slow → (k : ℕ) → Ahead u m k 0 → (s : S) (x y : State) → In s x y
        → Tog r (lefts k (b left) x) (running y)
    right_stops r left is k h s x y i = absurd (omega arith)
    right_stops r right is k h s x y i =
        one_cut (subst (λ m. Cut m (lefts k (b left) x) (running y)) is
        (right_cut (subst (λ z. Begins z (state_in (lefts k (b left) x)).outputs) (law.same_outputs s x y i)
        (grown x (b left) _ (lefts_grow k (b left) x)).0)))

    -- ---- a turn, and what comes next

    turn_keeps : (n : ℕ) (w : Ways S) (s : S) → WaysLess In w (turn n w s).ways
    turn_keeps n w s = tested_keeps prog ord o In law w Both e l (in_body o u l e (body n) Both) (alone_in n left)
        (alone_in n right) (jumps broken) s

    listed_both : (c d : ℕ) (s : S) (x y : State) → In s x y → In s (listed c x) (listed d y)
    listed_both c d s x y i =
        law.retold s x y i (x.tests ++ c ∷ []) (x.joint_tests ++ c ∷ []) (y.tests ++ d ∷ []) (y.joint_tests ++ d ∷ [])

    turn_together : (n : ℕ) (before : Ways S) (r : Pass S) (k j : ℕ) → Ahead u slow (suc k) (suc j) → (s : S) (x y : State)
        → In s x y → IsQuiet (turn n before s)
        → ((x y : State) → Reaches In (turn n before s).on x y → Tog r (lefts k (b left) x) (rights j (b right) y))
        → WaysLess In (turn n before s).ways r.ways → Tog r (lefts (suc k) (b left) x) (rights (suc j) (b right) y)
    turn_together n before r k j ahead s x y i quiet next out =
        let v = (o.test Both e s).verdict in
        let fs = found_at l (o.test Both e s).faults in
        let inner = in_body o u l e (body n) Both in
        test_cases prog ord o In law b slow r e typed l s x y
        (λ z. either z (λ n x. and_then (f n x) (lefts k)) (leaves broken) (b left) x)
        (λ z. either z (λ n y. and_then (g n y) (rights j)) (leaves broken) (b right) y) i
        (no_alarms l (o.test Both e s).faults (front_empty fs _ quiet))
        (λ z z' fits a. decided_into prog ord o In law b slow (so_far before) e inner (alone_in n left) (alone_in n right)
        (jumps broken) s x y
        (λ z z'. Tog r (either z (λ n x. and_then (f n x) (lefts k)) (leaves broken) (b left) x)
        (either z' (λ n y. and_then (g n y) (rights j)) (leaves broken) (b right) y)) v z z'
        (λ s' i q less. goes_on prog ord o In law b slow (inner s') r (f (b left) (listed 1 x))
        (g (b right) (listed 1 y)) (lefts k) (rights j) (lefts_grow k) (rights_grow j)
        (λ x y i. next x y (less on x y i))
        (λ w x y i. out w x y (less_ways (inner s')
        (decided o (so_far before) Both v e inner (alone_in n left) (alone_in n right) (jumps broken) s) less w x y i))
        (after_together prog ord o In law b slow (logged [] 1 []) (body n Both s') _ _
        (sound n s' (listed 1 x) (listed 1 y) (listed_both 1 1 s' x y i) q)))
        (λ s' i q less. left_out r (alone_in n left s').ways.broken _ (listed 0 y)
        (λ x y i. out broken x y (less broken x y i))
        (lone_outs prog ord o In law b slow u l e typed (body n) left f fg ft (on_left n) k (left_enough slow k j ahead)
        s'
        (listed 1 x) (listed 0 y) (listed_both 1 0 s' x y i) q))
        (λ s' i q less. right_out r (alone_in n right s').ways.broken _ (listed 0 x)
        (λ x y i. out broken x y (less broken x y i))
        (lone_outs prog ord o In law b slow u l e typed (body n) right g gg gt (on_right n) j
        (right_enough slow k j ahead) s' (listed 1 y) (listed 0 x) (listed_both 0 1 s' x y i) q))
        (λ s' i q less. both_leave broken
        (out broken (listed 0 x) (listed 0 y) (less broken (listed 0 x) (listed 0 y) (listed_both 0 0 s' x y i))))
        fits a (back_empty fs _ quiet))

    -- ---- the last turn

    -- round and round from a head that is kept
    head_together : (n : ℕ) (before : Ways S) (r : Pass S) (h : S) → IsQuiet (turn n before h)
        → ((x y : State) → Reaches In (turn n before h).on x y → In h x y) → WaysLess In (turn n before h).ways r.ways
        → (k j : ℕ) → Ahead u slow k j → (x y : State) → In h x y → Tog r (lefts k (b left) x) (rights j (b right) y)
    head_together n before r h q st out zero j ahead x y i = left_stops r slow refl j ahead h x y i
    head_together n before r h q st out (suc k) zero ahead x y i = right_stops r slow refl (suc k) ahead h x y i
    head_together n before r h q st out (suc k) (suc j) ahead x y i =
        turn_together n before r k j ahead h x y i q
        (λ x y i. head_together n before r h q st out k j (ahead_next slow k j ahead) x y (st x y i)) out

    last_together : (n : ℕ) (s : S) (w : Ways S) (k j : ℕ) → Ahead u slow k j → (x y : State) → In s x y
        → IsQuiet (last_pass o (last n w s))
        → Tog (last_pass o (last n w s)) (lefts k (b left) x) (rights j (b right) y)
    last_together n s w k j ahead x y i q =
        let m = headed.settles n l (turn_at o u heads l e body w) s in
        head_together m.number w (last_pass o (last n w s)) m.head (m.quiet q) (m.stable q) m.ways k j ahead x y
        (m.holds q x y i)

    last_keeps : (n : ℕ) (w : Ways S) (s : S) → WaysLess In w (last n w s).ways
    last_keeps n w s k x y i =
        let m = headed.settles n l (turn_at o u heads l e body w) s in
        m.ways k x y (turn_keeps m.number w m.head k x y i)

    abbrev rounds_of : ℕ → (before : ℕ) → S → Ways S → Pass S
    rounds_of t n = joint_rounds o u heads l e body t n

    pub rounds_together : (t n k j : ℕ) → Ahead u slow k j → (s : S) (w : Ways S) (x y : State) → In s x y
        → IsQuiet (rounds_of t n s w) → Tog (rounds_of t n s w) (lefts k (b left) x) (rights j (b right) y)
    rounds_together zero n k j ahead s w x y i q = last_together n s w k j ahead x y i q
    rounds_together (suc t) n zero j ahead s w x y i q = left_stops _ slow refl j ahead s x y i
    rounds_together (suc t) n (suc k) zero ahead s w x y i q = right_stops _ slow refl (suc k) ahead s x y i
    rounds_together (suc t) n (suc k) (suc j) ahead s w x y i q =
        let p = turn n w s in
        let m = past heads n p in
        let go = rounds_of t m in
        turn_together n w (turn_then o p go) k j ahead s x y i
        (go_on_front prog ord o In law p.on p.ways p.log go q)
        (λ x y i. go_on_together prog ord o In law b slow p.on p.ways p.log go (lefts k) (rights j) x y
        (λ s w x y i q. rounds_together t m k j (ahead_next slow k j ahead) s w x y i q) q i)
        (go_on_keeps prog ord o In law p.on p.ways p.log go
        (joint_keeps prog ord o In law u heads l e body turn_keeps last_keeps t m))

    -- a joint loop
    pub loop_together : (n : ℕ) (first : Bool) → Ahead u slow (suc (b left)) (suc (b right)) → (s : S) (x y : State)
        → In s x y → IsQuiet (loop_pass o u heads l e body n Both first s)
        → Tog (loop_pass o u heads l e body n Both first s)
        (loop_left (first_rounds first f (lefts (suc (b left))) (b left) x))
        (loop_left (first_rounds first g (rights (suc (b right))) (b right) y))
    loop_together n true ahead s x y i q =
        leave_loop_together prog ord o In law b slow (rounds_of u n s none) _ _
        (joint_none prog ord o In law u heads l e body u n s none)
        (rounds_turn (suc (b left)) (value (ord left) prog e) l f ft (b left) x)
        (rounds_together u n (suc (b left)) (suc (b right)) ahead s none x y i q)
    loop_together n false ahead s x y i q =
        let p = in_body o u l e (body n) Both s in
        let m = past heads n p in
        let go = rounds_of (u - 1) m in
        leave_loop_together prog ord o In law b slow (then_pass o p none go) _ _
        (go_on_none prog ord o In law p.on (join_ways o none p.ways) p.log go
        (joint_none prog ord o In law u heads l e body (u - 1) m))
        (first_turns false f (lefts (suc (b left))) ft
        (rounds_turn (suc (b left)) (value (ord left) prog e) l f ft) (b left) x)
        (then_together prog ord o In law b slow p none go (f (b left) x) (g (b right) y) (lefts (suc (b left)))
        (rights (suc (b right))) (lefts_grow (suc (b left))) (rights_grow (suc (b right)))
        (λ s w x y i q. rounds_together (u - 1) m (suc (b left)) (suc (b right)) ahead s w x y i q)
        (joint_keeps prog ord o In law u heads l e body turn_keeps last_keeps (u - 1) m) q
        (after_together prog ord o In law b slow (logged [] 1 []) (body n Both s) _ _
        (sound n s x y i (then_front prog ord o In law p none go q))))
