-- Places in rising order.
use Rattle.std.specs.Prelude.{◌≡◌, ℕ, true, if◌then◌else◌, List, [], ◌∷◌}
use Rattle.ep_cell_ranges.specs.Spots.{Spot, is_same_spot, spot_before}

-- a place is below all of these
abbrev pub IsBelow : Spot → List Spot → Type 0
IsBelow q [] = Unit {0}
IsBelow q (r ∷ rs) = (spot_before q r ≡ true) × IsBelow q rs

abbrev pub AreRising : List Spot → Type 0
AreRising [] = Unit {0}
AreRising (q ∷ qs) = IsBelow q qs × AreRising qs

-- the lower one of two places, and how many it is of each list
pub record Chosen : Type 0 where
  pub spot : Spot
  pub left : ℕ
  pub right : ℕ

abbrev pub chosen : Spot → Spot → Chosen
chosen q r =
    if spot_before q r then record { spot = q; left = 1; right = 0 }
    else if is_same_spot q r then record { spot = r; left = 1; right = 1 }
    else record { spot = r; left = 0; right = 1 }
