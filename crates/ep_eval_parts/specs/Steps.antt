-- What operands give that are evaluated later, by what is left for them.
use Rattle.std.specs.Prelude.{◌≡◌, Bool, true, false, Option, None, Some}
use Rattle.std.specs.Option.{option_map}
use Rattle.ep_domain.specs.Domain.{Ops}
use Rattle.ep_cells.specs.States.{Known}
use Rattle.ep_core.specs.Runs.{Side}
use Rattle.ep_equalities.specs.declared.pair.Mode.{Mode}
use Rattle.ep_equalities.specs.declared.pair.PairValue.{PairValue}
use Rattle.ep_evaluation.specs.Given.{Given, alone}
use Rattle.ep_evaluation.specs.Evaluation.{Means, given_in, state_for, later}

module _ {N : Type 0} where
  abbrev pub pair_if : Option (Given N) → Option (PairValue N)
  pair_if g = option_map (λ g. g.pair) g

  module _ (D : Ops N) where
    -- in a mode, if there is one, and what is left of a state
    abbrev pub given_later : Means N → Option Mode → Option (Known N) → Option (Given N)
    given_later b None k = None
    given_later b (Some r) k = given_in D b r k

    -- whatever comes next is evaluated in this mode, in what is left
    abbrev pub LeadsOn : Means N → Mode → Bool → Known N → Option Mode → Option (Known N) → Type 0
    LeadsOn a m t k r o = (b : Means N) → given_later b r o ≡ later D a b m t k (a.gives m k)

    -- on one side, where it is evaluated there
    abbrev pub given_second : Means N → Side → (runs : Bool) → Option (Known N) → Option (Given N)
    given_second b s true k = given_in D b (alone s) k
    given_second b s false k = None

    abbrev pub state_where : Means N → (stable : Bool) → Option Mode → Bool → Known N → Option (Known N)
    state_where a stable None t k = None
    state_where a stable (Some r) t k = state_for D a stable r t k
