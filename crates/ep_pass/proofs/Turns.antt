-- Loops: of one side, which comes to its end, and of both.
use Rattle.std.proofs.Common.{◌≡◌, ℕ, zero, suc, ◌≤◌, ◌<◌, [], refl, sym, subst, Option, Some, None, Bool, true}
use Rattle.std.proofs.Common.{false, arith}
use Rattle.ep_int.specs.declared.types.Order.{Order}
use Rattle.ep_int.specs.Memory.{Memory, Found, has, faults}
use Rattle.ep_core.specs.Program.{Expr, Program}
use Rattle.ep_core.specs.Exec.{State, broken, leaves, Going, given, and_then, is_true, either, value}
use Rattle.ep_core.specs.Runs.{Side}
use Rattle.ep_pass.specs.States.{Mode, One, Verdict, stuck, same, differs, StateOps}
use Rattle.ep_pass.specs.Pass.{Ways, none, Log, logged, Pass, ends, so_far, branch, too_long, jumps, Heads, past}
use Rattle.ep_pass.specs.Pass.{join_on, join_ways, go_on, last_pass, turn_then, unrolled, in_body, one_turn, cut_turn}
use Rattle.ep_pass.specs.Pass.{one_rounds, entered, joint_turn, last_turns, joint_rounds, loop_pass, two_ways, decided}
use Rattle.ep_pass.proofs.Outcomes.{rounds, first_rounds, loop_left, IsTurn, rounds_turn, first_turns}
use Rattle.ep_pass.proofs.Sure.{IsTest, Seen, Beside, Sure}
use Rattle.ep_pass.proofs.Reaching.{IsQuiet, WaysLess, Keeps, seen_some, beside_none, Alone, alone, Sound1}
use Rattle.ep_pass.proofs.Reaching.{After1, tested_keeps, go_on_keeps, go_on_front, go_on_alone, then_front}
use Rattle.ep_pass.proofs.Reaching.{after_alone, goes_on_alone, then_alone, leave_loop_alone, tested_alone}

-- one turn of a loop, after its test
abbrev pub once : (test : Memory → Found) → (line : ℕ) → (body : Going) → Going
once test l f n x = given (test x.memory) l x (λ v. either (is_true v) f (leaves broken) n x)

-- a turn, and the others
pub rounds_once : (k : ℕ) (test : Memory → Found) (l : ℕ) (f : Going) (n : ℕ) (x : State)
    → rounds (suc k) test l f n x ≡ and_then (once test l f n x) (rounds k test l f)
rounds_once k test l f n x = by_test (test x.memory)
  where
    by_truth : (t : Bool)
        → either t (λ n x. and_then (f n x) (rounds k test l f)) (leaves broken) n x
        ≡ and_then (either t f (leaves broken) n x) (rounds k test l f)
    by_truth true = refl
    by_truth false = refl

    by_test : (u : Found)
        → given u l x (λ v. either (is_true v) (λ n x. and_then (f n x) (rounds k test l f)) (leaves broken) n x)
        ≡ and_then (given u l x (λ v. either (is_true v) f (leaves broken) n x)) (rounds k test l f)
    by_test (has v) = by_truth (is_true v)
    by_test (faults k) = refl

module _ (prog : Program) (ord : Side → Order) {S : Type 0} (o : StateOps S) (In : S → State → State → Type 0)
    (law : Sure prog ord o In) where
  -- ---- turns one by one

  abbrev pub TurnKeeps : (Ways S → S → Pass S) → Type 0
  TurnKeeps turn = (w : Ways S) (s : S) → WaysLess In w (turn w s).ways

  pub unrolled_keeps : (turn last : Ways S → S → Pass S) → TurnKeeps turn → TurnKeeps last → (k : ℕ)
      → Keeps In (unrolled o turn last k)
  unrolled_keeps turn last h i zero s w j x y r = i w s j x y r
  unrolled_keeps turn last h i (suc k) s w j x y r =
      go_on_keeps prog ord o In law (turn w s).on (turn w s).ways (turn w s).log (unrolled o turn last k)
      (unrolled_keeps turn last h i k) j x y (h w s j x y r)

  pub go_on_none : (u : Option S) (w : Ways S) (g : Log S) (go : S → Ways S → Pass S)
      → ((s : S) (w : Ways S) → (go s w).on ≡ None) → (go_on o u w g go).on ≡ None
  go_on_none None w g go h = refl
  go_on_none (Some s) w g go h = h s w

  pub unrolled_none : (turn last : Ways S → S → Pass S) (k : ℕ) (s : S) (w : Ways S) → (unrolled o turn last k s w).on
      ≡ None
  unrolled_none turn last zero s w = refl
  unrolled_none turn last (suc k) s w = go_on_none (turn w s).on (turn w s).ways (turn w s).log (unrolled o turn last k)
      (unrolled_none turn last k)

  -- turns of both, whose numbers grow
  module _ (u : ℕ) (heads : Heads S) (l : ℕ) (e : Expr) (body : (before : ℕ) → Mode → S → Pass S) where
    pub joint_keeps : ((n : ℕ) → TurnKeeps (joint_turn o u l e (body n)))
        → ((n : ℕ) → TurnKeeps (last_turns o u heads l e body n)) → (k n : ℕ)
        → Keeps In (joint_rounds o u heads l e body k n)
    joint_keeps h i zero n s w j x y r = i n w s j x y r
    joint_keeps h i (suc k) n s w j x y r =
        let p = joint_turn o u l e (body n) w s in
        let m = past heads n p in
        go_on_keeps prog ord o In law p.on p.ways p.log (joint_rounds o u heads l e body k m) (joint_keeps h i k m) j x y
        (h n w s j x y r)

    pub joint_none : (k n : ℕ) (s : S) (w : Ways S) → (joint_rounds o u heads l e body k n s w).on ≡ None
    joint_none zero n s w = refl
    joint_none (suc k) n s w =
        let p = joint_turn o u l e (body n) w s in
        let m = past heads n p in
        go_on_none p.on p.ways p.log (joint_rounds o u heads l e body k m) (joint_none k m)

  branch_none : (u : Option S) (go : S → Pass S) → ((s : S) → (go s).on ≡ None) → (branch u go).on ≡ None
  branch_none None go h = refl
  branch_none (Some s) go h = h s

  join_none : (u v : Option S) → u ≡ None → v ≡ None → join_on o u v ≡ None
  join_none None v p q = q
  join_none (Some s) v p q = absurd cc

  two_none : (w : Ways S) (m : Side) (e : Expr) (p t : S → Pass S) (s : S) → ((s : S) → (p s).on ≡ None)
      → ((s : S) → (t s).on ≡ None) → (two_ways o (so_far w) (One m) e p t s).on ≡ None
  two_none w m e p t s h k = join_none (branch (o.assume_one m e true s) p).on (branch (o.assume_one m e false s) t).on
      (branch_none (o.assume_one m e true s) p h) (branch_none (o.assume_one m e false s) t k)

  decided_none : (w : Ways S) (m : Side) (v : Verdict) (e : Expr) (p q r t : S → Pass S) (s : S)
      → ((s : S) → (p s).on ≡ None) → ((s : S) → (t s).on ≡ None) → (decided o (so_far w) (One m) v e p q r t s).on
      ≡ None
  decided_none w m stuck e p q r t s h k = refl
  decided_none w m same e p q r t s h k = two_none w m e p t s h k
  decided_none w m differs e p q r t s h k = two_none w m e p t s h k

  module _ (b : Side → ℕ) (u l : ℕ) (e : Expr) (typed : IsTest prog e) (body : Mode → S → Pass S) where
    -- ---- one side

    module _ (m : Side) (f : Going) (sound : Sound1 In b m (body (One m)) f) where
      abbrev test : Memory → Found
      test = value (ord m) prog e

      abbrev turn : Ways S → S → Pass S
      turn w s = one_turn o u l e body m w s

      abbrev cut : Ways S → S → Pass S
      cut w s = cut_turn o u l e body m w s

      turn_sound : (w : Ways S) → Sound1 In b m (turn w) (once test l f)
      turn_sound w = tested_alone prog ord o In law b (so_far w) m e typed l (in_body o u l e body (One m))
          (λ s. ends []) (λ s. ends []) (jumps broken) f (leaves broken)
          (λ s x y i q. after_alone prog ord o In law b m (logged [] 1 []) (body (One m) s) y _ (sound s x y i q))
          (λ s x y i q. alone broken (seen_some In m s x y i))

      never : Sound1 In b m (λ s. ends (too_long l)) f
      never s x y i q = absurd cc

      cut_sound : (w : Ways S) → Sound1 In b m (cut w) (once test l f)
      cut_sound w = tested_alone prog ord o In law b (so_far w) m e typed l (λ s. ends (too_long l)) (λ s. ends [])
          (λ s. ends []) (jumps broken) f (leaves broken) never (λ s x y i q. alone broken (seen_some In m s x y i))

      turn_keeps : TurnKeeps turn
      turn_keeps w s = tested_keeps prog ord o In law w (One m) e l (in_body o u l e body (One m)) (λ s. ends [])
          (λ s. ends []) (jumps broken) s

      cut_keeps : TurnKeeps cut
      cut_keeps w s = tested_keeps prog ord o In law w (One m) e l (λ s. ends (too_long l)) (λ s. ends [])
          (λ s. ends []) (jumps broken) s

      cut_none : (w : Ways S) (s : S) (x y : State) → Beside In m (cut w s).on x y → ⊥
      cut_none w s x y i = beside_none In m x y
          (subst (λ u. Beside In m u x y)
          (decided_none w m (o.test (One m) e s).verdict e (λ s. ends (too_long l)) (λ s. ends []) (λ s. ends [])
          (jumps broken) s (λ s. refl) (λ s. refl)) i)

      pub rounds_alone : (j k : ℕ) → j < k → After1 In b m (one_rounds o u l e body m j) (rounds k test l f)
      rounds_alone j zero lt s w x y i q = absurd (omega arith)
      rounds_alone zero (suc k) lt s w x y i q =
          subst (Alone In b m (last_pass o (cut w s)) y) (sym (rounds_once k test l f (b m) x))
          (goes_on_alone prog ord o In law b m (cut w s) (last_pass o (cut w s)) y (once test l f (b m) x)
          (rounds k test l f) (λ x' i. absurd (cut_none w s x' y i)) (λ k x y i. i) (cut_sound w s x y i q))
      rounds_alone (suc j) (suc k) lt s w x y i q =
          let t = turn w s in
          let go = one_rounds o u l e body m j in
          subst (Alone In b m (turn_then o t go) y) (sym (rounds_once k test l f (b m) x))
          (goes_on_alone prog ord o In law b m t (turn_then o t go) y (once test l f (b m) x) (rounds k test l f)
          (λ x i. go_on_alone prog ord o In law b m t.on t.ways t.log go (rounds k test l f) x y
          (rounds_alone j k (omega arith)) q i)
          (go_on_keeps prog ord o In law t.on t.ways t.log go (unrolled_keeps turn cut turn_keeps cut_keeps j))
          (turn_sound w s x y i (go_on_front prog ord o In law t.on t.ways t.log go q)))

      -- from the body on
      pub entered_alone : (j k : ℕ) → j ≤ k → (s : S) (x y : State) → Seen In m s x y
          → IsQuiet (entered o u l e body m j s) → Alone In b m (entered o u l e body m j s) y
          (and_then (f (b m) x) (rounds k test l f))
      entered_alone zero k le s x y i q = absurd cc
      entered_alone (suc j) k le s x y i q =
          let t = in_body o u l e body (One m) s in
          let go = one_rounds o u l e body m j in
          then_alone prog ord o In law b m t none go y (f (b m) x) (rounds k test l f) (rounds_alone j k (omega arith))
          (unrolled_keeps turn cut turn_keeps cut_keeps j) q
          (after_alone prog ord o In law b m (logged [] 1 []) (body (One m) s) y _
          (sound s x y i (then_front prog ord o In law t none go q)))

      pub entered_none : (j : ℕ) (s : S) → (entered o u l e body m j s).on ≡ None
      entered_none zero s = refl
      entered_none (suc j) s =
          let t = in_body o u l e body (One m) s in
          go_on_none t.on (join_ways o none t.ways) t.log (one_rounds o u l e body m j) (unrolled_none turn cut j)

  -- a one-sided loop
  module _ (b : Side → ℕ) (u : ℕ) (heads : Heads S) (l : ℕ) (e : Expr) (typed : IsTest prog e)
      (body : (before : ℕ) → Mode → S → Pass S) (before : ℕ) (m : Side) (f : Going)
      (sound : Sound1 In b m (body before (One m)) f) where
    abbrev of_rounds : ℕ → Going
    of_rounds k = rounds k (value (ord m) prog e) l f

    pub one_loop : ((n : ℕ) (x : State) → IsTurn (f n x)) → (first : Bool) → u ≤ b m → (s : S) (x y : State)
        → Seen In m s x y → IsQuiet (loop_pass o u heads l e body before (One m) first s)
        → Alone In b m (loop_pass o u heads l e body before (One m) first s) y
        (loop_left (first_rounds first f (of_rounds (suc (b m))) (b m) x))
    one_loop turns true le s x y i q =
        leave_loop_alone prog ord o In law b m (one_rounds o u l e (body before) m u s none) y _
        (unrolled_none (one_turn o u l e (body before) m) (cut_turn o u l e (body before) m) u s none)
        (rounds_turn (suc (b m)) (value (ord m) prog e) l f turns (b m) x)
        (rounds_alone b u l e typed (body before) m f sound u (suc (b m)) (omega arith) s none x y i q)
    one_loop turns false le s x y i q =
        leave_loop_alone prog ord o In law b m (entered o u l e (body before) m u s) y _
        (entered_none b u l e typed (body before) m f sound u s)
        (first_turns false f (of_rounds (suc (b m))) turns
        (rounds_turn (suc (b m)) (value (ord m) prog e) l f turns) (b m) x)
        (entered_alone b u l e typed (body before) m f sound u (suc (b m)) (omega arith) s x y i q)
