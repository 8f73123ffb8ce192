-- Heads of a loop, one after another.
use Rattle.std.specs.Prelude.{◌≡◌, ℕ, zero, suc, ◌+◌, false, []}
use Rattle.ep_pass.specs.States.{StateOps}
use Rattle.ep_pass.specs.Pass.{logged, Pass, after, is_stable, next_head}

-- more turns that are counted, and that is all
abbrev pub more_turns : {S : Type 0} → ℕ → Pass S → Pass S
more_turns n p = after (logged [] n []) p

-- where a turn from a head gives such a pass
module _ {S : Type 0} (o : StateOps S) (turn : S → Pass S) where
  -- what comes round is more than the head, so another is tried
  abbrev pub IsTriedAgain : S → Type 0
  IsTriedAgain h = is_stable o h (turn h).on ≡ false

  -- this one
  abbrev pub next_of : S → S
  next_of h = next_head o h (turn h).on

  -- the head after so many, and the turns made at these
  abbrev pub head_after : ℕ → S → S
  head_after zero h = h
  head_after (suc d) h = head_after d (next_of h)

  abbrev pub turns_at : ℕ → S → ℕ
  turns_at zero h = 0
  turns_at (suc d) h = (turn h).log.count + turns_at d (next_of h)

  -- of so many heads none is kept
  abbrev pub NoneKept : ℕ → S → Type 0
  NoneKept zero h = Unit {0}
  NoneKept (suc d) h = IsTriedAgain h × NoneKept d (next_of h)
