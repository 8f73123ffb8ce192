-- What statements come to, told in parts: a loop as a row of turns, a call as a row of three.
use Rattle.std.proofs.Common.{◌≡◌, ℕ, zero, suc, List, [], ◌∷◌, refl, ap, ◌∙◌, Option, Some, None, option_to_list}
use Rattle.std.proofs.Common.{Bool, true, false}
use Rattle.ep_int.specs.declared.types.Order.{Order}
use Rattle.ep_int.specs.declared.types.Scalar.{Scalar}
use Rattle.ep_int.specs.Memory.{Memory, Value, Kind, Found, has, faults, store_fault, stored}
use Rattle.ep_core.specs.Program.{Expr, Dest, Function, Program}
use Rattle.ep_core.specs.Exec.{State, on, broken, continued, returned, Outcome, leaves, running, no_input}
use Rattle.ep_core.specs.Exec.{undefined_at, Going, given, unless, uncounted, and_then, remembers, listed}
use Rattle.ep_core.specs.Exec.{code_of_test, is_true, either, turned, turn, looped, first_turn, scope_left, Values}
use Rattle.ep_core.specs.Exec.{have, stops, given_all, first_of, frame_of, without, model, size_at, values, bound}
use Rattle.ep_core.specs.Exec.{received, called, call_of}
use Rattle.ep_core.specs.Ways.{end_alone}
use Rattle.ep_core.specs.Laws.{IsAmong}
use Rattle.ep_core.proofs.Grows.{later_refl, Grows, Growing, leaves_grows, given_grows, and_then_grows, either_grows}
use Rattle.ep_core.proofs.Grows.{scope_grows}
use Rattle.ep_pass.specs.Laws.{passes}

-- ---- loops

-- a body's turn is over at its end or by `continue`
abbrev pub body_end : Outcome → Outcome
body_end (leaves on n s) = leaves on n s
body_end (leaves broken n s) = leaves broken n s
body_end (leaves continued n s) = leaves on n s
body_end (leaves returned n s) = leaves returned n s
body_end (running s) = running s
body_end (no_input s) = no_input s
body_end (undefined_at l k s) = undefined_at l k s

-- a body and the step part
abbrev pub with_next : (body next : Going) → Going
with_next body next n s = and_then (body_end (body n s)) next

-- The turns of a loop from a test on, at most so many. They are left by `broken` where the test is false.
abbrev pub rounds : (most : ℕ) → (test : Memory → Found) → (line : ℕ) → (body : Going) → Going
rounds zero test l f n s = running s
rounds (suc most) test l f n s =
    given (test s.memory) l s
    (λ v. either (is_true v) (λ n s. and_then (f n s) (rounds most test l f)) (leaves broken) n s)

-- the first turn of a `do` loop comes before the test
abbrev pub first_rounds : (first : Bool) → (f again : Going) → Going
first_rounds true f again n s = again n s
first_rounds false f again n s = and_then (f n s) again

abbrev pub loop_left : Outcome → Outcome
loop_left (leaves on n s) = leaves on n s
loop_left (leaves broken n s) = leaves on n s
loop_left (leaves continued n s) = leaves continued n s
loop_left (leaves returned n s) = leaves returned n s
loop_left (running s) = running s
loop_left (no_input s) = no_input s
loop_left (undefined_at l k s) = undefined_at l k s

-- what can't be left by `continue`
abbrev pub IsTurn : Outcome → Type 0
IsTurn (leaves on n s) = Unit {0}
IsTurn (leaves broken n s) = Unit {0}
IsTurn (leaves continued n s) = ⊥
IsTurn (leaves returned n s) = Unit {0}
IsTurn (running s) = Unit {0}
IsTurn (no_input s) = Unit {0}
IsTurn (undefined_at l k s) = Unit {0}

-- what can be left at its end alone
abbrev pub IsPlain : Outcome → Type 0
IsPlain (leaves on n s) = Unit {0}
IsPlain (leaves broken n s) = ⊥
IsPlain (leaves continued n s) = ⊥
IsPlain (leaves returned n s) = ⊥
IsPlain (running s) = Unit {0}
IsPlain (no_input s) = Unit {0}
IsPlain (undefined_at l k s) = Unit {0}

-- what can't be left by `break` or `continue`
abbrev pub IsCall : Outcome → Type 0
IsCall (leaves on n s) = Unit {0}
IsCall (leaves broken n s) = ⊥
IsCall (leaves continued n s) = ⊥
IsCall (leaves returned n s) = Unit {0}
IsCall (running s) = Unit {0}
IsCall (no_input s) = Unit {0}
IsCall (undefined_at l k s) = Unit {0}

pub plain_end : (x : Outcome) → IsAmong end_alone x → IsPlain x
plain_end (leaves on n s) h = tt
plain_end (leaves broken n s) h = absurd cc
plain_end (leaves continued n s) h = absurd cc
plain_end (leaves returned n s) h = absurd cc
plain_end (running s) h = tt
plain_end (no_input s) h = tt
plain_end (undefined_at l k s) h = tt

plain_turn : (x : Outcome) → IsPlain x → IsTurn x
plain_turn (leaves on n s) h = tt
plain_turn (leaves broken n s) h = absurd h
plain_turn (leaves continued n s) h = absurd h
plain_turn (leaves returned n s) h = absurd h
plain_turn (running s) h = tt
plain_turn (no_input s) h = tt
plain_turn (undefined_at l k s) h = tt

pub then_turn : (x : Outcome) (f : Going) → IsTurn x → ((n : ℕ) (s : State) → IsTurn (f n s)) → IsTurn (and_then x f)
then_turn (leaves on n s) f h i = i n s
then_turn (leaves broken n s) f h i = tt
then_turn (leaves continued n s) f h i = absurd h
then_turn (leaves returned n s) f h i = tt
then_turn (running s) f h i = tt
then_turn (no_input s) f h i = tt
then_turn (undefined_at l k s) f h i = tt

body_turn : (x : Outcome) → IsTurn (body_end x)
body_turn (leaves on n s) = tt
body_turn (leaves broken n s) = tt
body_turn (leaves continued n s) = tt
body_turn (leaves returned n s) = tt
body_turn (running s) = tt
body_turn (no_input s) = tt
body_turn (undefined_at l k s) = tt

pub next_turn : (body next : Going) → ((n : ℕ) (s : State) → IsPlain (next n s)) → (n : ℕ) (s : State)
    → IsTurn (with_next body next n s)
next_turn body next h n s =
    then_turn (body_end (body n s)) next (body_turn (body n s)) (λ n s. plain_turn (next n s) (h n s))

given_turn : (v : Found) (l : ℕ) (s : State) (f : Bool → Outcome) → ((t : Bool) → IsTurn (f t))
    → IsTurn (given v l s (λ v. f (is_true v)))
given_turn (has v) l s f h = h (is_true v)
given_turn (faults k) l s f h = tt

truth_turn : (t : Bool) (f g : Going) → ((n : ℕ) (s : State) → IsTurn (f n s))
    → ((n : ℕ) (s : State) → IsTurn (g n s)) → (n : ℕ) (s : State)
    → IsTurn (either t (λ n s. and_then (f n s) g) (leaves broken) n s)
truth_turn true f g h i n s =
    let r : State = listed (code_of_test true) s in
    then_turn (f n r) g (h n r) i
truth_turn false f g h i n s = tt

pub rounds_turn : (k : ℕ) (test : Memory → Found) (l : ℕ) (f : Going) → ((n : ℕ) (s : State) → IsTurn (f n s))
    → (n : ℕ) (s : State) → IsTurn (rounds k test l f n s)
rounds_turn zero test l f h n s = tt
rounds_turn (suc k) test l f h n s =
    given_turn (test s.memory) l s
    (λ t. either t (λ n s. and_then (f n s) (rounds k test l f)) (leaves broken) n s)
    (λ t. truth_turn t f (rounds k test l f) h (rounds_turn k test l f h) n s)

pub first_turns : (first : Bool) (f again : Going) → ((n : ℕ) (s : State) → IsTurn (f n s))
    → ((n : ℕ) (s : State) → IsTurn (again n s)) → (n : ℕ) (s : State) → IsTurn (first_rounds first f again n s)
first_turns true f again h i n s = i n s
first_turns false f again h i n s = then_turn (f n s) again (h n s) i

-- ---- a loop is a row of turns

next_same : (x : Outcome) (f g : Going) → IsPlain x → ((n : ℕ) (s : State) → f n s ≡ loop_left (g n s))
    → and_then x f ≡ loop_left (and_then x g)
next_same (leaves on n s) f g p h = h n s
next_same (leaves broken n s) f g p h = absurd p
next_same (leaves continued n s) f g p h = absurd p
next_same (leaves returned n s) f g p h = absurd p
next_same (running s) f g p h = refl
next_same (no_input s) f g p h = refl
next_same (undefined_at l k s) f g p h = refl

turned_same : (x : Outcome) (next f g : Going) → ((n : ℕ) (s : State) → IsPlain (next n s))
    → ((n : ℕ) (s : State) → f n s ≡ loop_left (g n s))
    → turned x next f ≡ loop_left (and_then (and_then (body_end x) next) g)
turned_same (leaves on n s) next f g p h = next_same (next n s) f g (p n s) h
turned_same (leaves broken n s) next f g p h = refl
turned_same (leaves continued n s) next f g p h = next_same (next n s) f g (p n s) h
turned_same (leaves returned n s) next f g p h = refl
turned_same (running s) next f g p h = refl
turned_same (no_input s) next f g p h = refl
turned_same (undefined_at l k s) next f g p h = refl

either_same : (t : Bool) (f g : Going) (n : ℕ) (s : State) → ((n : ℕ) (s : State) → f n s ≡ loop_left (g n s))
    → either t f (leaves on) n s ≡ loop_left (either t g (leaves broken) n s)
either_same true f g n s h = h n _
either_same false f g n s h = refl

test_same : (v : Found) (l n : ℕ) (s : State) (f g : Going) → ((n : ℕ) (s : State) → f n s ≡ loop_left (g n s))
    → given v l s (λ v. either (is_true v) f (leaves on) n s)
    ≡ loop_left (given v l s (λ v. either (is_true v) g (leaves broken) n s))
test_same (has v) l n s f g h = either_same (is_true v) f g n s h
test_same (faults k) l n s f g h = refl

module _ (test : Memory → Found) (l : ℕ) (body next : Going) (plain : (n : ℕ) (s : State) → IsPlain (next n s)) where
  looped_is : (k n : ℕ) (s : State)
      → looped uncounted k test l body next n s ≡ loop_left (rounds k test l (with_next body next) n s)
  looped_is zero n s = refl
  looped_is (suc k) n s =
      test_same (test s.memory) l n s (turn uncounted body next (looped uncounted k test l body next))
      (λ n s. and_then (with_next body next n s) (rounds k test l (with_next body next)))
      (λ n s. turned_same (body n s) next (looped uncounted k test l body next) (rounds k test l (with_next body next))
      plain (looped_is k))

  pub loop_is : (first : Bool) (k n : ℕ) (s : State)
      → first_turn uncounted first body next (looped uncounted k test l body next) n s
      ≡ loop_left (first_rounds first (with_next body next) (rounds k test l (with_next body next)) n s)
  loop_is true k n s = looped_is k n s
  loop_is false k n s =
      turned_same (body n s) next (looped uncounted k test l body next) (rounds k test l (with_next body next)) plain
      (looped_is k)

-- ---- outputs stay

pub rounds_grow : (k : ℕ) (test : Memory → Found) (l : ℕ) (f : Going) → Growing f → Growing (rounds k test l f)
rounds_grow zero test l f g n s = later_refl s
rounds_grow (suc k) test l f g n s =
    given_grows (test s.memory) l n s _
    (λ v. either_grows (is_true v) (λ n s. and_then (f n s) (rounds k test l f)) (leaves broken)
    (λ n s. and_then_grows s n (f n s) (rounds k test l f) (g n s) (rounds_grow k test l f g))
    (leaves_grows broken) n s)

body_grows : (s : State) (n : ℕ) (x : Outcome) → Grows s n x → Grows s n (body_end x)
body_grows s n (leaves on k r) g = g
body_grows s n (leaves broken k r) g = g
body_grows s n (leaves continued k r) g = g
body_grows s n (leaves returned k r) g = g
body_grows s n (running r) g = g
body_grows s n (no_input r) g = g
body_grows s n (undefined_at l k r) g = g

pub next_grows : (body next : Going) → Growing body → Growing next → Growing (with_next body next)
next_grows body next g h n s = and_then_grows s n (body_end (body n s)) next (body_grows s n (body n s) (g n s)) h

-- ---- calls

-- a body is left
abbrev pub called_end : Outcome → Outcome
called_end (leaves w n s) = leaves on n s
called_end (running s) = running s
called_end (no_input s) = no_input s
called_end (undefined_at l k s) = undefined_at l k s

-- the body of a function, and the end of its parameters and locals
abbrev pub run_called : Function → (body : Going) → Going
run_called f body n s = called_end (scope_left (frame_of f) (body n s))

called_end_grows : (s : State) (n : ℕ) (x : Outcome) → Grows s n x → Grows s n (called_end x)
called_end_grows s n (leaves w k r) g = g
called_end_grows s n (running r) g = g
called_end_grows s n (no_input r) g = g
called_end_grows s n (undefined_at l k r) g = g

pub run_called_grows : (f : Function) (body : Going) → Growing body → Growing (run_called f body)
run_called_grows f body g n s =
    called_end_grows s n (scope_left (frame_of f) (body n s)) (scope_grows s n (frame_of f) (body n s) (g n s))

-- what comes next, told apart
unless_then : (k : Option Kind) (l : ℕ) (s : State) (x : Outcome) (go : Going)
    → unless k l s (and_then x go) ≡ and_then (unless k l s x) go
unless_then None l s x go = refl
unless_then (Some k) l s x go = refl

unless_same : (k : Option Kind) (l : ℕ) (s : State) (x y : Outcome) → x ≡ y → unless k l s x ≡ unless k l s y
unless_same k l s x y e = ap (unless k l s) e

then_row : (x : Outcome) (f g : Going) → and_then x (λ n s. and_then (f n s) g) ≡ and_then (and_then x f) g
then_row (leaves on n s) f g = refl
then_row (leaves broken n s) f g = refl
then_row (leaves continued n s) f g = refl
then_row (leaves returned n s) f g = refl
then_row (running s) f g = refl
then_row (no_input s) f g = refl
then_row (undefined_at l k s) f g = refl

then_same : (x : Outcome) (f g : Going) → ((n : ℕ) (s : State) → f n s ≡ g n s) → and_then x f ≡ and_then x g
then_same (leaves on n s) f g h = h n s
then_same (leaves broken n s) f g h = refl
then_same (leaves continued n s) f g h = refl
then_same (leaves returned n s) f g h = refl
then_same (running s) f g h = refl
then_same (no_input s) f g h = refl
then_same (undefined_at l k s) f g h = refl

module _ (o : Order) (p : Program) where
  bound_then : (ps : List (ℕ × Scalar)) (vs : List Value) (l n : ℕ) (s : State) (go : Going)
      → bound o p ps vs l s (go n) ≡ and_then (bound o p ps vs l s (leaves on n)) go
  bound_then [] vs l n s go = refl
  bound_then (b ∷ ps) [] l n s go = refl
  bound_then (b ∷ ps) (v ∷ vs) l n s go =
      let r : State = remembers (stored o (model o p) s.memory b.1 b.0 0 v) s in
      unless_same (store_fault (model o p) (size_at o p b.0) b.1 0) l s (bound o p ps vs l r (go n))
      (and_then (bound o p ps vs l r (leaves on n)) go) (bound_then ps vs l n r go)
      ∙ unless_then (store_fault (model o p) (size_at o p b.0) b.1 0) l s (bound o p ps vs l r (leaves on n)) go

  called_is : (f : Function) (d : Option Dest) (l : ℕ) (x : Outcome)
      → called o p f d l x ≡ and_then (called_end (scope_left (frame_of f) x)) (received o p f.result d l)
  called_is f d l (leaves w n s) = refl
  called_is f d l (running s) = refl
  called_is f d l (no_input s) = refl
  called_is f d l (undefined_at k x s) = refl

  -- a call: arguments, body, result
  pub call_is : (f : Function) (body : Going) (es : List Expr) (d : Option Dest) (l n : ℕ) (s : State)
      → call_of o p (Some f) body es d l n s
      ≡ and_then (and_then (passes o p f es l n s) (run_called f body)) (received o p f.result d l)
  call_is f body es d l n s = by_values (values o p es r.memory)
    where
      r : State
      r = without (first_of (option_to_list f.result)) s

      q : State
      q = without (frame_of f) r

      whole : (vs : List Value)
          → bound o p f.params vs l q (λ s. called o p f d l (body n s))
          ≡ and_then (and_then (bound o p f.params vs l q (leaves on n)) (run_called f body))
          (received o p f.result d l)
      whole vs =
          bound_then f.params vs l n q (λ n s. called o p f d l (body n s))
          ∙ then_same (bound o p f.params vs l q (leaves on n)) (λ n s. called o p f d l (body n s))
          (λ n s. and_then (run_called f body n s) (received o p f.result d l))
          (λ n s. called_is f d l (body n s))
          ∙ then_row (bound o p f.params vs l q (leaves on n)) (run_called f body) (received o p f.result d l)

      by_values : (vs : Values)
          → given_all vs l r (λ vs. bound o p f.params vs l q (λ s. called o p f d l (body n s)))
          ≡ and_then (and_then (given_all vs l r (λ vs. bound o p f.params vs l q (leaves on n))) (run_called f body))
          (received o p f.result d l)
      by_values (have vs) = whole vs
      by_values (stops k) = refl

pub scope_call : (bs : List ℕ) (x : Outcome) → IsCall x → IsCall (scope_left bs x)
scope_call bs (leaves on n s) h = h
scope_call bs (leaves broken n s) h = h
scope_call bs (leaves continued n s) h = h
scope_call bs (leaves returned n s) h = h
scope_call bs (running s) h = h
scope_call bs (no_input s) h = h
scope_call bs (undefined_at l k s) h = h
