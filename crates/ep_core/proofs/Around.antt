-- A counted loop needs no other bound than its steps.
use Rattle.std.proofs.Common.{◌≡◌, ℕ, zero, suc, ◌≤◌, ◌<◌, refl, arith, Bool, true, false}
use Rattle.ep_int.specs.Memory.{Memory, Value, Found, has, faults}
use Rattle.ep_core.specs.Exec.{State, on, broken, continued, returned, Outcome, leaves, running, no_input}
use Rattle.ep_core.specs.Exec.{undefined_at, Going, given, counted, and_then, listed, code_of_test, is_true, either}
use Rattle.ep_core.specs.Exec.{turned, turn, looped, around, first_turn}
use Rattle.ep_core.proofs.Grows.{Grows, Growing}

given_same : (v : Found) (l : ℕ) (s : State) (f g : Value → Outcome) → ((v : Value) → f v ≡ g v)
    → given v l s f ≡ given v l s g
given_same (has v) l s f g h = h v
given_same (faults k) l s f g h = refl

either_same : (t : Bool) (a a' b : Going) (left : ℕ) (s : State) → ((r : State) → a left r ≡ a' left r)
    → either t a b left s ≡ either t a' b left s
either_same true a a' b left s h = h (listed (code_of_test true) s)
either_same false a a' b left s h = refl

module _ (test : Memory → Found) (l : ℕ) (body next : Going) where
  then_same : (j k : ℕ) (start : State) (x : Outcome) (f g : Going) → Grows start k x → k ≤ j
      → ((i : ℕ) → i ≤ j → (s : State) → f i s ≡ g i s) → and_then x f ≡ and_then x g
  then_same j k start (leaves on left s) f g w le h = h left (omega (arith, w.1)) s
  then_same j k start (leaves broken left s) f g w le h = refl
  then_same j k start (leaves continued left s) f g w le h = refl
  then_same j k start (leaves returned left s) f g w le h = refl
  then_same j k start (running s) f g w le h = refl
  then_same j k start (no_input s) f g w le h = refl
  then_same j k start (undefined_at i x s) f g w le h = refl

  module _ (inner : Growing body) (part : Growing next) where
    turned_same : (j : ℕ) (start : State) (x : Outcome) (f g : Going) → Grows start j x
        → ((i : ℕ) → i ≤ j → (s : State) → f i s ≡ g i s) → turned x next f ≡ turned x next g
    turned_same j start (leaves on left s) f g w h =
        then_same j left s (next left s) f g (part left s) (omega (arith, w.1)) h
    turned_same j start (leaves broken left s) f g w h = refl
    turned_same j start (leaves continued left s) f g w h =
        then_same j left s (next left s) f g (part left s) (omega (arith, w.1)) h
    turned_same j start (leaves returned left s) f g w h = refl
    turned_same j start (running s) f g w h = refl
    turned_same j start (no_input s) f g w h = refl
    turned_same j start (undefined_at i x s) f g w h = refl

    turn_same : (left : ℕ) (s : State) (f g : Going) → ((i : ℕ) → i < left → (s : State) → f i s ≡ g i s)
        → turn counted body next f left s ≡ turn counted body next g left s
    turn_same zero s f g h = refl
    turn_same (suc j) s f g h = turned_same j s (body j s) f g (inner j s) (λ i le. h i (omega arith))

    tested_same : (left : ℕ) (s : State) (f g : Going) → ((i : ℕ) → i < left → (s : State) → f i s ≡ g i s)
        → given (test s.memory) l s (λ v. either (is_true v) (turn counted body next f) (leaves on) left s)
        ≡ given (test s.memory) l s (λ v. either (is_true v) (turn counted body next g) (leaves on) left s)
    tested_same left s f g h =
        given_same (test s.memory) l s _ _
        (λ v. either_same (is_true v) (turn counted body next f) (turn counted body next g) (leaves on) left s
        (λ r. turn_same left r f g h))

    looped_same : (m m' left : ℕ) (s : State) → left < m → left < m'
        → looped counted m test l body next left s ≡ looped counted m' test l body next left s
    looped_same zero m' left s a b = absurd (omega arith)
    looped_same (suc m) zero left s a b = absurd (omega arith)
    looped_same (suc m) (suc m') left s a b =
        tested_same left s (looped counted m test l body next) (looped counted m' test l body next)
        (λ i lt r. looped_same m m' i r (omega arith) (omega arith))

    -- a loop from a test on is the test, a turn, and the loop again
    pub around_is : (left : ℕ) (s : State)
        → around test l body next left s
        ≡ given (test s.memory) l s
        (λ v. either (is_true v) (turn counted body next (around test l body next)) (leaves on) left s)
    around_is left s =
        tested_same left s (looped counted left test l body next) (around test l body next)
        (λ i lt r. looped_same left (suc i) i r lt (omega arith))

    pub first_is : (first : Bool) (left : ℕ) (s : State)
        → first_turn counted first body next (looped counted (suc left) test l body next) left s
        ≡ first_turn counted first body next (around test l body next) left s
    first_is true left s = refl
    first_is false left s =
        turn_same left s (looped counted (suc left) test l body next) (around test l body next)
        (λ i lt r. looped_same (suc left) (suc i) i r (omega arith) (omega arith))
