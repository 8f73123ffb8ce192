-- What the checker finds, as the definition has it.
use Rattle.std.specs.Prelude.{◌≡◌, ◌<◌, ℕ, false, List, length, slice_get, Some}
use Rattle.ep_pass.specs.States.{StateOps}
use Rattle.ep_certcheck_laws.specs.Checked.{Answer, yes, fault, is_outside, is_missing, spare}
use Rattle.ep_certcheck_walk.specs.declared.found.Found.{Found}
use Rattle.ep_certcheck_walk.specs.declared.found.Found.TheVariants.{Yes, Fault, Outside, Missing, Spare}

abbrev pub answer_view : Found → Answer
answer_view Yes = yes
answer_view (Fault l k) = fault l k
answer_view (Outside h n) = is_outside h n
answer_view (Missing l) = is_missing l
answer_view (Spare n) = spare n

module _ {S : Type 0} (o : StateOps S) (first_outside : S → S → ℕ) (hs : List S) where
  -- the head of number h fails to hold a state that was brought to one shape with it, from its cell of number n on
  pub record IsOutsideOf (h n : ℕ) : Type 0 where
    pub head : S
    pub is_there : slice_get hs h ≡ Some head
    pub state : S
    pub fails : o.leq (o.unified head state).1 head ≡ false
    pub cell : n ≡ first_outside (o.unified head state).1 head

  abbrev pub IsOfHead : Found → Type 0
  IsOfHead Yes = Unit {0}
  IsOfHead (Fault l k) = Unit {0}
  IsOfHead (Outside h n) = IsOutsideOf h n
  IsOfHead (Missing l) = Unit {0}
  IsOfHead (Spare n) = Unit {0}

-- of heads that are to spare, fewer were taken than there are
abbrev pub AreFewer : {S : Type 0} → List S → Found → Type 0
AreFewer hs Yes = Unit {0}
AreFewer hs (Fault l k) = Unit {0}
AreFewer hs (Outside h n) = Unit {0}
AreFewer hs (Missing l) = Unit {0}
AreFewer hs (Spare n) = n < length hs
