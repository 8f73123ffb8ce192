-- One side goes on alone in a loop that the other has left.
use Rattle.std.proofs.Common.{◌≡◌, ◌⊎◌, inl, inr, ℕ, zero, suc, ◌+◌, ◌≤◌, refl, sym, subst, Option, Some, None, Bool}
use Rattle.std.proofs.Common.{true, false, arith}
use Rattle.ep_int.specs.declared.types.Order.{Order}
use Rattle.ep_int.specs.Memory.{Memory, Found, has, faults}
use Rattle.ep_core.specs.Program.{Expr, Program}
use Rattle.ep_core.specs.Exec.{State, on, broken, continued, returned, Outcome, leaves, running, no_input}
use Rattle.ep_core.specs.Exec.{undefined_at, Going, given, and_then, listed, is_true, either, value}
use Rattle.ep_core.specs.Runs.{Side, left, right, Begins}
use Rattle.ep_core.proofs.Prefixes.{begins_trans}
use Rattle.ep_core.proofs.Grows.{state_in, grown, Growing}
use Rattle.ep_pass.specs.States.{Mode, One, StateOps}
use Rattle.ep_pass.specs.Pass.{Pass, comes_after, entered, lone}
use Rattle.ep_pass.proofs.Outcomes.{rounds, IsTurn, rounds_turn, then_turn, rounds_grow}
use Rattle.ep_pass.proofs.Sure.{IsTest, Seen, Beside, Sure}
use Rattle.ep_pass.proofs.Cuts.{front_empty, back_empty}
use Rattle.ep_pass.proofs.Reaching.{IsQuiet, beside_none, no_differ, Alone, alone, Sound1}
use Rattle.ep_pass.proofs.Turns.{entered_alone, entered_none}

-- With more turns a loop that was stopped goes on, and another does the same.
pub data Until : Outcome → Outcome → Type 0 where
  until_same : {c d : Outcome} → c ≡ d → Until c d
  until_more : {x : State} {d : Outcome} → Begins x.outputs (state_in d).outputs → Until (running x) d

until_then : (c : Outcome) (f g : Going) → ((n : ℕ) (x : State) → Until (f n x) (g n x))
    → Until (and_then c f) (and_then c g)
until_then (leaves on n x) f g h = h n x
until_then (leaves broken n x) f g h = until_same refl
until_then (leaves continued n x) f g h = until_same refl
until_then (leaves returned n x) f g h = until_same refl
until_then (running x) f g h = until_same refl
until_then (no_input x) f g h = until_same refl
until_then (undefined_at l k x) f g h = until_same refl

until_given : (v : Found) (l : ℕ) (f f' g : Going) (n : ℕ) (x : State) → ((x : State) → Until (f n x) (f' n x))
    → Until (given v l x (λ v. either (is_true v) f g n x)) (given v l x (λ v. either (is_true v) f' g n x))
until_given (faults k) l f f' g n x h = until_same refl
until_given (has v) l f f' g n x h = by_truth (is_true v)
  where
    by_truth : (t : Bool) → Until (either t f g n x) (either t f' g n x)
    by_truth true = h (listed 1 x)
    by_truth false = until_same refl

-- the turns that are left, and more
until_rounds : (k j : ℕ) → k ≤ j → (test : Memory → Found) (l : ℕ) (f : Going) → Growing f → (n : ℕ) (x : State)
    → Until (rounds k test l f n x) (rounds j test l f n x)
until_rounds zero j le test l f g n x = until_more (grown x n _ (rounds_grow j test l f g n x)).0
until_rounds (suc k) zero le test l f g n x = absurd (omega arith)
until_rounds (suc k) (suc j) le test l f g n x =
    until_given (test x.memory) l (λ n x. and_then (f n x) (rounds k test l f))
    (λ n x. and_then (f n x) (rounds j test l f)) (leaves broken) n x
    (λ x. until_then (f n x) (rounds k test l f) (rounds j test l f) (until_rounds k j (omega arith) test l f g))

module _ (prog : Program) (ord : Side → Order) {S : Type 0} (o : StateOps S) (In : S → State → State → Type 0)
    (law : Sure prog ord o In) (b : Side → ℕ) (slow : Side) where
  -- It comes out of the loop too, or it may be stopped before.
  pub data Outs (m : Side) (u : Option S) (y : State) : Outcome → Type 0 where
    outs : {x : State} → Beside In m u x y → Outs m u y (leaves broken (b m) x)
    stops : {x : State} → m ≡ slow → Begins x.outputs y.outputs → Outs m u y (running x)

  same_beside : (m : Side) (u : Option S) (x y : State) → Beside In m u x y → x.outputs ≡ y.outputs
  same_beside m None x y i = absurd (beside_none In m x y i)
  same_beside left (Some s) x y i = law.same_outputs s x y i
  same_beside right (Some s) x y i = sym (law.same_outputs s y x i)

  module _ (u l : ℕ) (e : Expr) (typed : IsTest prog e) (body : Mode → S → Pass S) (m : Side) (f : Going)
      (grows : Growing f) (is_turn : (n : ℕ) (x : State) → IsTurn (f n x)) (sound : Sound1 In b m (body (One m)) f)
    where
      abbrev turns : ℕ → Going
      turns k = rounds k (value (ord m) prog e) l f

      abbrev inside : S → Pass S
      inside s = entered o u l e body m u s

      comes_out : (s : S) (y : State) (c : Outcome) → IsQuiet (comes_after l (inside s)) → IsTurn c
          → Alone In b m (inside s) y c → Outs m (inside s).ways.broken y c
      comes_out s y c q h (alone on {x} i) =
          absurd (beside_none In m x y (subst (λ w. Beside In m w x y)
          (entered_none prog ord o In law b u l e typed body m f sound u s) i))
      comes_out s y c q h (alone broken {x} i) = outs i
      comes_out s y c q h (alone continued {x} i) = absurd h
      comes_out s y c q h (alone returned {x} i) =
          absurd (no_differ In m l (inside s).ways.returned x y (back_empty (inside s).log.faults _ q) i)

      all_turns : (k n : ℕ) (x : State) → IsTurn (and_then (f n x) (turns k))
      all_turns k n x =
          then_turn (f n x) (turns k) (is_turn n x) (rounds_turn k (value (ord m) prog e) l f is_turn)

      may_stop : (s : S) (y : State) (c d : Outcome) → m ≡ slow → Until c d → Outs m (inside s).ways.broken y d
          → Outs m (inside s).ways.broken y c
      may_stop s y c d is (until_same e) h = subst (Outs m (inside s).ways.broken y) (sym e) h
      may_stop s y c d is (until_more {x} p) h = by_end x d p h
        where
          by_end : (x : State) (d : Outcome) → Begins x.outputs (state_in d).outputs → Outs m (inside s).ways.broken y d
              → Outs m (inside s).ways.broken y (running x)
          by_end w d p (outs {x} i) = stops is (subst (Begins w.outputs) (same_beside m (inside s).ways.broken x y i) p)
          by_end w d p (stops {x} is p') = stops is (begins_trans _ _ _ p p')

      -- the machine that is not stopped has turns enough
      pub lone_outs : (k : ℕ) → (m ≡ slow) ⊎ (u ≤ k) → (s : S) (x y : State) → Seen In m s x y
          → IsQuiet (lone o u l e body m s)
          → Outs m (lone o u l e body m s).ways.broken y (and_then (f (b m) x) (turns k))
      lone_outs k (inr le) s x y i q =
          comes_out s y _ q (all_turns k (b m) x)
          (entered_alone prog ord o In law b u l e typed body m f sound u k le s x y i
          (front_empty (inside s).log.faults _ q))
      lone_outs k (inl is) s x y i q =
          may_stop s y (and_then (f (b m) x) (turns k)) (and_then (f (b m) x) (turns (k + u))) is
          (until_then (f (b m) x) (turns k) (turns (k + u))
          (until_rounds k (k + u) (omega arith) (value (ord m) prog e) l f grows))
          (comes_out s y _ q (all_turns (k + u) (b m) x)
          (entered_alone prog ord o In law b u l e typed body m f sound u (k + u) (omega arith) s x y i
          (front_empty (inside s).log.faults _ q)))
