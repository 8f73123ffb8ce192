-- What is had of one side and of the other, and pairs with what went wrong on the way.
use Rattle.std.specs.Prelude.{[], List, Option}
use Rattle.std.specs.Option.{option_map}
use Rattle.ep_core.specs.Runs.{Side, left, right}
use Rattle.ep_equalities.specs.declared.pair.PairValue.{PairValue}
use Rattle.ep_evaluation.specs.Given.{Given}

abbrev pub pick : {A : Type 0} → A → A → Side → A
pick x y left = x
pick x y right = y

-- nothing went wrong
abbrev pub faultless : {N : Type 0} → PairValue N → Given N
faultless x = record { pair = x; faults = [] }

abbrev pub faultless_if : {N : Type 0} → Option (PairValue N) → Option (Given N)
faultless_if x = option_map faultless x
