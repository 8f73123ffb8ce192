-- Where a scalar can be stored at a place.
use Rattle.std.proofs.Common.{◌≡◌, Bool, true, false, not, cond, Option, Some, None, refl}
use Rattle.ep_int.specs.Memory.{Kind, bounds, alignment}

pub store_parts : (t u : Bool) → cond t (Some bounds) (cond (not u) (Some alignment) None) ≡ None
    → (t ≡ false) × (u ≡ true)
store_parts true u e = absurd (let q : Some bounds ≡ None = e in cc)
store_parts false false e = absurd (let q : Some alignment ≡ None = e in cc)
store_parts false true e = (refl, refl)
