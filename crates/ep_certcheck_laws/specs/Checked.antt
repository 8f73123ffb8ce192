-- What a checker finds in a program whose loops are given their heads, one after another (this project's rules).
use Rattle.std.specs.Prelude.{ℕ, nat_eq, nat_lt, if◌then◌else◌, List, [], ◌∷◌, length, slice_get, Option, ◌+◌}
use Rattle.std.specs.Prelude.{Some, None}
use Rattle.ep_int.specs.declared.types.Order.{Order}
use Rattle.ep_alarms.specs.declared.types.AlarmKind.{AlarmKind}
use Rattle.ep_alarms.specs.Alarm.{place_of}
use Rattle.ep_core.specs.Program.{Program}
use Rattle.ep_core.specs.Runs.{Side}
use Rattle.ep_pass.specs.States.{Fault, Transfer, Tested, StateOps}
use Rattle.ep_pass.specs.Pass.{Event, alarm, outside, missing, logged, both_logs, Pass, passed, after, Heads}
use Rattle.ep_pass.specs.Pass.{main_pass, all_faults}

-- ---- of several faults of one statement, the first in the order of kinds

abbrev pub least_of : Fault → List Fault → Fault
least_of f [] = f
least_of f (g ∷ gs) = least_of (if nat_lt (place_of g.kind) (place_of f.kind) then g else f) gs

abbrev pub least : List Fault → List Fault
least [] = []
least (f ∷ fs) = least_of f fs ∷ []

abbrev pub with_least : {S : Type 0} → Transfer S → Transfer S
with_least t = record { faults = least t.faults; next = t.next }

abbrev pub test_with_least : Tested → Tested
test_with_least t = record { faults = least t.faults; verdict = t.verdict }

abbrev pub with_least_faults : {S : Type 0} → StateOps S → StateOps S
with_least_faults o = record o {
  simple = λ m r w s. with_least (o.simple m r w s);
  test = λ m e s. test_with_least (o.test m e s);
  arguments = λ m f es s. with_least (o.arguments m f es s);
  result = λ m f d s. with_least (o.result m f d s);
  ended = λ f s. least (o.ended f s);
}

-- ---- heads that are given

module _ {S : Type 0} (o : StateOps S) (first_outside : S → S → ℕ) where
  -- a state has to be within the head of this number
  abbrev pub outside_of : (number line : ℕ) → (head : S) → Option S → List Event
  outside_of n l h None = []
  outside_of n l h (Some s) =
      if o.leq (o.unified h s).1 h then [] else outside l n (first_outside (o.unified h s).1 h) ∷ []

  abbrev pub and_then_found : {S : Type 0} → Pass S → List Event → Pass S
  and_then_found p es = passed p.on p.ways (both_logs p.log (logged es 0 []))

  -- The state that comes to the loop is compared, and after one turn from the head what comes round. Where no head is
  -- left, the answer is known, and what follows doesn't matter.
  abbrev pub from_given : Option S → (number line : ℕ) → (turn : (before : ℕ) → S → Pass S) → S → Pass S
  from_given None n l turn s = after (logged (missing l ∷ []) 0 []) (turn n o.empty)
  from_given (Some h) n l turn s =
      after (logged (outside_of n l h (Some s)) 0 (h ∷ []))
      (and_then_found (turn (n + 1) h) (outside_of n l h (turn (n + 1) h).on))

  abbrev pub given : List S → Heads S
  given hs = record { taken = length; settle = λ n l turn s. from_given (slice_get hs n) n l turn s }

-- ---- the answer

pub data Answer : Type 0 where
  yes : Answer
  fault : (line : ℕ) → AlarmKind → Answer
  is_outside : (head cell : ℕ) → Answer
  is_missing : (line : ℕ) → Answer
  spare : (taken : ℕ) → Answer

-- the first event, or else whether all heads were taken
abbrev pub answer_of : List Event → (taken given : ℕ) → Answer
answer_of [] n k = if nat_eq n k then yes else spare n
answer_of (alarm a ∷ es) n k = fault a.line a.kind
answer_of (outside l h c ∷ es) n k = is_outside h c
answer_of (missing l ∷ es) n k = is_missing l

-- With so many unrolled turns, these heads and machines of these byte orders; of two states, the first cell of the
-- second that the first fails is told.
module _ {S : Type 0} (o : StateOps S) (first_outside : S → S → ℕ) (u : ℕ) (hs : List S) (ord : Side → Order)
    (p : Program) where
  abbrev pub checking : StateOps S
  checking = with_least_faults o

  abbrev pub given_here : Heads S
  given_here = given checking first_outside hs

  abbrev pub checked : Answer
  checked =
      answer_of (all_faults checking u given_here ord p) (length (main_pass checking u given_here ord p).log.heads)
      (length hs)
