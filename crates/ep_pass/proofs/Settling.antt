-- What the soundness of a pass asks of heads, and that those that are tried have it.
use Rattle.std.proofs.Common.{◌≡◌, ℕ, zero, suc, ◌-◌, refl, Option, Some, None, Bool, true, false, if◌then◌else◌}
use Rattle.ep_int.specs.declared.types.Order.{Order}
use Rattle.ep_core.specs.Program.{Program}
use Rattle.ep_core.specs.Exec.{State}
use Rattle.ep_core.specs.Runs.{Side}
use Rattle.ep_pass.specs.States.{StateOps}
use Rattle.ep_pass.specs.Pass.{Pass, Heads, from_head, dropped, is_stable, next_head, settled, tried}
use Rattle.ep_pass.proofs.Sure.{Reaches, Sure}
use Rattle.ep_pass.proofs.Reaching.{IsQuiet, WaysLess}

module _ {S : Type 0} (In : S → State → State → Type 0) where
  -- The last turn goes from a head, and where nothing is found, that head stands for what comes to the loop and for
  -- what comes round.
  pub record Settles (turn : (before : ℕ) → S → Pass S) (s : S) (p : Pass S) : Type 0 where
    pub number : ℕ
    pub head : S
    pub ways : WaysLess In (turn number head).ways p.ways
    pub quiet : IsQuiet p → IsQuiet (turn number head)
    pub holds : IsQuiet p → (x y : State) → In s x y → In head x y
    pub stable : IsQuiet p → (x y : State) → Reaches In (turn number head).on x y → In head x y

  pub record AreSound (heads : Heads S) : Type 0 where
    pub settles : (n l : ℕ) (turn : (before : ℕ) → S → Pass S) (s : S) → Settles turn s (heads.settle n l turn s)

module _ (prog : Program) (ord : Side → Order) {S : Type 0} (o : StateOps S) (In : S → State → State → Type 0)
    (law : Sure prog ord o In) where
  pub stable_in : (h : S) (w : Option S) → is_stable o h w ≡ true → (x y : State) → Reaches In w x y → In h x y
  stable_in h None k x y i = absurd i
  stable_in h (Some s) k x y i = law.leq_in (o.unified h s).1 h x y k (law.unified_right h s x y i)

  next_in : (h : S) (w : Option S) (x y : State) → In h x y → In (next_head o h w) x y
  next_in h None x y i = i
  next_in h (Some s) x y i =
      law.reshared_in _ x y (law.widened_left (o.unified h s).0 (o.unified h s).1 x y (law.unified_left h s x y i))

  empty_keeps : (w : Option S) (x y : State) → Reaches In w x y → In o.empty x y
  empty_keeps None x y i = absurd i
  empty_keeps (Some s) x y i = law.empty_in s x y i

  settled_by : (turn : (before : ℕ) → S → Pass S) (h : S) (t : Bool) (q : Pass S) → is_stable o h (turn 0 h).on ≡ t
      → Settles In turn (next_head o h (turn 0 h).on) q
      → Settles In turn h (if t then from_head h (turn 0 h) else dropped (turn 0 h) q)
  settled_by turn h true q k m = record {
    number = 0;
    head = h;
    ways = λ w x y i. i;
    quiet = λ e. e;
    holds = λ e x y i. i;
    stable = λ e. stable_in h (turn 0 h).on k;
  }
  settled_by turn h false q k m = record {
    number = m.number;
    head = m.head;
    ways = m.ways;
    quiet = m.quiet;
    holds = λ e x y i. m.holds e x y (next_in h (turn 0 h).on x y i);
    stable = m.stable;
  }

  settled_is : (turn : (before : ℕ) → S → Pass S) (k : ℕ) (h : S) → Settles In turn h (settled o (turn 0) k h)
  settled_is turn zero h = record {
    number = 0;
    head = o.empty;
    ways = λ w x y i. i;
    quiet = λ e. e;
    holds = λ e x y i. law.empty_in h x y i;
    stable = λ e. empty_keeps (turn 0 o.empty).on;
  }
  settled_is turn (suc k) h =
      settled_by turn h (is_stable o h (turn 0 h).on) (settled o (turn 0) k (next_head o h (turn 0 h).on)) refl
      (settled_is turn k (next_head o h (turn 0 h).on))

  pub tried_sound : (limit : ℕ) → AreSound In (tried o limit)
  tried_sound limit = record {
    settles = λ n l turn s.
        let m = settled_is turn (limit - 1) (o.reshared s) in
        record {
          number = m.number;
          head = m.head;
          ways = m.ways;
          quiet = m.quiet;
          holds = λ e x y i. m.holds e x y (law.reshared_in s x y i);
          stable = m.stable;
        };
  }
