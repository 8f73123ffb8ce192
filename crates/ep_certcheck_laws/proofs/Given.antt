-- Heads that are given are sound: a head is gone from only where it stands for what comes to it.
use Rattle.std.proofs.Common.{◌≡◌, ℕ, ◌+◌, List, [], ◌∷◌, ◌++◌, refl, Option, Some, None, Bool, true, false}
use Rattle.std.proofs.Common.{if◌then◌else◌, slice_get}
use Rattle.ep_int.specs.declared.types.Order.{Order}
use Rattle.ep_core.specs.Program.{Program}
use Rattle.ep_core.specs.Exec.{State}
use Rattle.ep_core.specs.Runs.{Side}
use Rattle.ep_pass.specs.States.{StateOps}
use Rattle.ep_pass.specs.Pass.{outside, Pass}
use Rattle.ep_pass.proofs.Sure.{Reaches, Sure}
use Rattle.ep_pass.proofs.Cuts.{front_empty, back_empty}
use Rattle.ep_pass.proofs.Settling.{Settles, AreSound, stable_in}
use Rattle.ep_certcheck_laws.specs.Checked.{outside_of, from_given, given}

module _ (prog : Program) (ord : Side → Order) {S : Type 0} (o : StateOps S) (In : S → State → State → Type 0)
    (law : Sure prog ord o In) (place : S → S → ℕ) where
  within_by : (n l : ℕ) (h s : S) (t : Bool) → o.leq (o.unified h s).1 h ≡ t
      → (if t then [] else outside l n (place (o.unified h s).1 h) ∷ []) ≡ [] → o.leq (o.unified h s).1 h ≡ true
  within_by n l h s true k e = k
  within_by n l h s false k e = absurd cc

  within : (n l : ℕ) (h : S) (w : Option S) → outside_of o place n l h w ≡ [] → (x y : State) → Reaches In w x y
      → In h x y
  within n l h None e x y i = absurd i
  within n l h (Some s) e x y i =
      stable_in prog ord o In law h (Some s) (within_by n l h s (o.leq (o.unified h s).1 h) refl e) x y i

  given_settles : (g : Option S) (n l : ℕ) (turn : (before : ℕ) → S → Pass S) (s : S)
      → Settles In turn s (from_given o place g n l turn s)
  given_settles None n l turn s = record {
    number = n;
    head = o.empty;
    ways = λ w x y i. i;
    quiet = λ e. absurd cc;
    holds = λ e. absurd cc;
    stable = λ e. absurd cc;
  }
  given_settles (Some h) n l turn s =
      let p = turn (n + 1) h in
      let first = outside_of o place n l h (Some s) in
      let last = outside_of o place n l h p.on in
      record {
        number = n + 1;
        head = h;
        ways = λ w x y i. i;
        quiet = λ e. front_empty p.log.faults last (back_empty first (p.log.faults ++ last) e);
        holds = λ e. within n l h (Some s) (front_empty first (p.log.faults ++ last) e);
        stable = λ e. within n l h p.on (back_empty p.log.faults last (back_empty first (p.log.faults ++ last) e));
      }

  pub given_sound : (hs : List S) → AreSound In (given o place hs)
  given_sound hs = record { settles = λ n l turn s. given_settles (slice_get hs n) n l turn s }
