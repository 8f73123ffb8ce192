-- Places by block and offset, in rising order (this project's rule).
use Rattle.std.specs.Prelude.{ℕ, Bool, ◌&&◌, ◌||◌, nat_eq, nat_lt, if◌then◌else◌, List, [], ◌∷◌}

-- A place is a block and an offset.
abbrev pub Spot : Type 0
Spot = ℕ × ℕ

-- ---- the places of both sides, each once

-- whether two places are one
abbrev pub is_same_spot : Spot → Spot → Bool
is_same_spot q r = nat_eq q.0 r.0 && nat_eq q.1 r.1

-- the lower block first, and in a block the lower offset
abbrev pub spot_before : Spot → Spot → Bool
spot_before q r = nat_lt q.0 r.0 || (nat_eq q.0 r.0 && nat_lt q.1 r.1)

-- one place more, if it isn't there
abbrev pub put_spot : Spot → List Spot → List Spot
put_spot q [] = q ∷ []
put_spot q (r ∷ rs) = if spot_before q r then q ∷ r ∷ rs else if is_same_spot q r then r ∷ rs else r ∷ put_spot q rs

abbrev pub all_spots : List Spot → List Spot → List Spot
all_spots [] rs = rs
all_spots (q ∷ qs) rs = put_spot q (all_spots qs rs)
