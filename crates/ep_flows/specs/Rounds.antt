-- What becomes of the marked one of a loop's heads where another comes. This project's words.
use Rattle.std.specs.Prelude.{◌≡◌, ℕ, ◌+◌, ◌*◌, ◌⊎◌}
use Rattle.ep_flows.specs.declared.heads.Rounds.{Rounds}
use Rattle.ep_flows.specs.View.{capped}

module _ {S : Type 0} where
  -- this head is the marked one, and the first of those that come
  pub record IsMarked (h : S) (s : Rounds S) : Type 0 where
    pub mark : s.mark ≡ h
    pub since : s.since ≡ 0
    pub counted : s.counted ≡ 0

  module _ (r : Rounds S) (h : S) (s : Rounds S) (old new : ℕ) where
    -- it is the marked one again: so many rounds are counted at once
    pub record IsRound : Type 0 where
      pub same : h ≡ r.mark
      pub times : ℕ
      pub left : r.left ≡ times * r.since + s.left
      pub count : capped new ≡ capped (old + times * r.counted)
      pub marked : IsMarked h s

    -- it becomes the marked one
    pub record IsMoved : Type 0 where
      pub left : s.left ≡ r.left
      pub count : new ≡ old
      pub marked : IsMarked h s

    pub record IsKept : Type 0 where
      pub mark : s.mark ≡ r.mark
      pub left : s.left ≡ r.left
      pub since : s.since ≡ r.since
      pub counted : s.counted ≡ r.counted
      pub count : new ≡ old

    abbrev pub ComesRound : Type 0
    ComesRound = IsRound ⊎ (IsMoved ⊎ IsKept)
