-- A machine that is stopped, and what it and the other have put out by then.
use Rattle.std.proofs.Common.{◌≡◌, ℕ, List, [], ◌∷◌, ◌++◌, refl, sym, subst, Bool}
use Rattle.ep_int.specs.Memory.{Value, Found, has}
use Rattle.ep_core.specs.Exec.{State, on, broken, continued, returned, Outcome, leaves, running, no_input}
use Rattle.ep_core.specs.Exec.{undefined_at, Going, is_true, given, and_then, scope_left, arm_left}
use Rattle.ep_core.specs.Runs.{Side, left, right, Begins}
use Rattle.ep_core.proofs.Prefixes.{begins_refl, begins_trans}
use Rattle.ep_core.proofs.Grows.{state_in, Growing, grown}
use Rattle.ep_pass.proofs.Outcomes.{loop_left, body_end, called_end}
use Rattle.ep_pass.proofs.Sure.{told}

pub front_empty : {X : Type 0} (xs ys : List X) → xs ++ ys ≡ [] → xs ≡ []
front_empty [] ys e = refl
front_empty (x ∷ xs) ys e = cc

pub back_empty : {X : Type 0} (xs ys : List X) → xs ++ ys ≡ [] → ys ≡ []
back_empty [] ys e = e
back_empty (x ∷ xs) ys e = cc

-- The machine that may be stopped in a turn that the other need not make; what it put out begins what the other puts
-- out.
pub data Cut : Side → Outcome → Outcome → Type 0 where
  left_cut : {x : State} {d : Outcome} → Begins x.outputs (state_in d).outputs → Cut left (running x) d
  right_cut : {c : Outcome} {y : State} → Begins y.outputs (state_in c).outputs → Cut right c (running y)

-- what a machine puts out by the end of something
pub then_begins : (x : Outcome) (f : Going) → Growing f → Begins (state_in x).outputs (state_in (and_then x f)).outputs
then_begins (leaves on n s) f g = (grown s n (f n s) (g n s)).0
then_begins (leaves broken n s) f g = begins_refl _
then_begins (leaves continued n s) f g = begins_refl _
then_begins (leaves returned n s) f g = begins_refl _
then_begins (running s) f g = begins_refl _
then_begins (no_input s) f g = begins_refl _
then_begins (undefined_at l k s) f g = begins_refl _

pub cut_then : (slow : Side) (c d : Outcome) (f g : Going) → Growing f → Growing g → Cut slow c d
    → Cut slow (and_then c f) (and_then d g)
cut_then left p q f g h k (left_cut {x} {d} e) = left_cut (begins_trans _ _ _ e (then_begins d g k))
cut_then right p q f g h k (right_cut {c} {y} e) = right_cut (begins_trans _ _ _ e (then_begins c f h))

-- what changes the way out alone, or the memory and the tests
pub record Ends (to : Outcome → Outcome) : Type 0 where
  pub puts : (x : Outcome) → Begins (state_in x).outputs (state_in (to x)).outputs
  pub runs : (s : State) → (r : State) × ((to (running s) ≡ running r) × (r.outputs ≡ s.outputs))

cut_left : (from to : Outcome → Outcome) → Ends from → Ends to → (x : State) (d : Outcome)
    → Begins x.outputs (state_in d).outputs → Cut left (from (running x)) (to d)
cut_left from to h k x d e =
    let r = h.runs x in
    subst (λ c. Cut left c (to d)) (sym r.1.0)
    (left_cut (subst (λ os. Begins os (state_in (to d)).outputs) (sym r.1.1) (begins_trans _ _ _ e (k.puts d))))

cut_right : (from to : Outcome → Outcome) → Ends from → Ends to → (c : Outcome) (y : State)
    → Begins y.outputs (state_in c).outputs → Cut right (from c) (to (running y))
cut_right from to h k c y e =
    let r = k.runs y in
    subst (λ d. Cut right (from c) d) (sym r.1.0)
    (right_cut (subst (λ os. Begins os (state_in (from c)).outputs) (sym r.1.1) (begins_trans _ _ _ e (h.puts c))))

pub cut_ends : (slow : Side) (from to : Outcome → Outcome) → Ends from → Ends to → (c d : Outcome) → Cut slow c d
    → Cut slow (from c) (to d)
cut_ends left from to h k p q (left_cut {x} {d} e) = cut_left from to h k x d e
cut_ends right from to h k p q (right_cut {c} {y} e) = cut_right from to h k c y e

pub loop_ends : Ends loop_left
loop_ends = record { puts = puts; runs = λ s. (s, (refl, refl)) }
  where
    puts : (x : Outcome) → Begins (state_in x).outputs (state_in (loop_left x)).outputs
    puts (leaves on n s) = begins_refl _
    puts (leaves broken n s) = begins_refl _
    puts (leaves continued n s) = begins_refl _
    puts (leaves returned n s) = begins_refl _
    puts (running s) = begins_refl _
    puts (no_input s) = begins_refl _
    puts (undefined_at l k s) = begins_refl _

pub bodies_end : Ends body_end
bodies_end = record { puts = puts; runs = λ s. (s, (refl, refl)) }
  where
    puts : (x : Outcome) → Begins (state_in x).outputs (state_in (body_end x)).outputs
    puts (leaves on n s) = begins_refl _
    puts (leaves broken n s) = begins_refl _
    puts (leaves continued n s) = begins_refl _
    puts (leaves returned n s) = begins_refl _
    puts (running s) = begins_refl _
    puts (no_input s) = begins_refl _
    puts (undefined_at l k s) = begins_refl _

pub scope_ends : (bs : List ℕ) → Ends (scope_left bs)
scope_ends bs = record { puts = puts; runs = λ s. (s, (refl, refl)) }
  where
    puts : (x : Outcome) → Begins (state_in x).outputs (state_in (scope_left bs x)).outputs
    puts (leaves w n s) = begins_refl _
    puts (running s) = begins_refl _
    puts (no_input s) = begins_refl _
    puts (undefined_at l k s) = begins_refl _

pub calls_end : Ends called_end
calls_end = record { puts = puts; runs = λ s. (s, (refl, refl)) }
  where
    puts : (x : Outcome) → Begins (state_in x).outputs (state_in (called_end x)).outputs
    puts (leaves w n s) = begins_refl _
    puts (running s) = begins_refl _
    puts (no_input s) = begins_refl _
    puts (undefined_at l k s) = begins_refl _

pub arms_end : (joint : List ℕ) → Ends (arm_left joint)
arms_end joint = record { puts = puts; runs = λ s. (told s.tests joint s, (refl, refl)) }
  where
    puts : (x : Outcome) → Begins (state_in x).outputs (state_in (arm_left joint x)).outputs
    puts (leaves w n s) = begins_refl _
    puts (running s) = begins_refl _
    puts (no_input s) = begins_refl _
    puts (undefined_at l k s) = begins_refl _

-- a test that has a value of this truth
pub with_truth : (T : Outcome → Type 0) (u : Found) (w : Value) (t : Bool) (l : ℕ) (x : State) (f : Bool → Outcome)
    → u ≡ has w → is_true w ≡ t → T (f t) → T (given u l x (λ v. f (is_true v)))
with_truth T u w t l x f e d h =
    subst (λ u. T (given u l x (λ v. f (is_true v)))) (sym e) (subst (λ b. T (f b)) (sym d) h)
