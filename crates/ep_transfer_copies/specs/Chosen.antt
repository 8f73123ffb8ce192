-- Which places a copy has (this project's rules).
use Rattle.std.specs.Prelude.{Bool, false, List, [], ◌∷◌, Option, Some, None}
use Rattle.std.specs.List.{list_any}
use Rattle.ep_cell_ranges.specs.Spots.{Spot, is_same_spot}

-- An object may be assigned to itself: one place is also read, maybe beside others.
abbrev pub is_loose : (to from : List Spot) → Bool
is_loose [] ps = false
is_loose (q ∷ []) ps = list_any (is_same_spot q) ps
is_loose (q ∷ r ∷ qs) ps = false

-- one place that is written and one that is read, where there are both
abbrev pub both_of : (to from : Option Spot) → Option (Spot × Spot)
both_of None p = None
both_of (Some q) None = None
both_of (Some q) (Some p) = Some (q, p)
