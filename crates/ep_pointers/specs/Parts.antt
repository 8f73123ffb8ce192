-- What the parts of the code answer, for their own contracts.
use Rattle.std.specs.Prelude.{ℕ, Bool, ◌&&◌, ◌||◌, true, false, nat_eq, nat_lt, if◌then◌else◌, List, [], ◌∷◌, Option}
use Rattle.std.specs.Prelude.{Some, None}
use Rattle.ep_int.specs.declared.types.Cmp.{Cmp}
use Rattle.ep_domain.specs.Domain.{Ops}
use Rattle.ep_pointers.specs.declared.compare.Truths.{Truths}
use Rattle.ep_pointers.specs.declared.merge.Union.{Union}
use Rattle.ep_pointers.specs.declared.merge.Union.TheVariants.{Join, Widen}
use Rattle.ep_pointers.specs.declared.merge.First.{First}
use Rattle.ep_pointers.specs.Value.{Target}
use Rattle.ep_pointers.specs.Compare.{when_alike, when_apart, gives, truths}

abbrev pub united : {N : Type 0} → Ops N → Union → N → N → N
united d Join = d.join
united d Widen = d.widen

-- what comes first of two lists that begin with these targets
abbrev pub first_of : {N : Type 0} → (N → N → N) → Target N → Target N → First N
first_of f t u =
    if nat_lt t.0 u.0 then record { target = t; left = 1; right = 0 }
    else if nat_lt u.0 t.0 then record { target = u; left = 0; right = 1 }
    else record { target = (t.0, f t.1 u.1); left = 1; right = 1 }

-- without the blocks in front that are below b
abbrev pub from_block : {N : Type 0} → ℕ → List (Target N) → List (Target N)
from_block b [] = []
from_block b (t ∷ ts) = if nat_lt t.0 b then from_block b ts else t ∷ ts

-- the offsets at a block, where it is the first one
abbrev pub offset_first : {N : Type 0} → List (Target N) → ℕ → Option N
offset_first [] b = None
offset_first (t ∷ ts) b = if nat_eq t.0 b then Some t.1 else None

-- the answers of pairs that are both null, of pairs that are apart, and of pairs that are into one block
abbrev pub with_cases : Cmp → Bool → Bool → Bool → Bool → Truths
with_cases c both_null apart y n = truths
    ((both_null && gives (when_alike c) (Some true) || apart && gives (when_apart c) (Some true)) || y)
    ((both_null && gives (when_alike c) (Some false) || apart && gives (when_apart c) (Some false)) || n)
    (both_null && gives (when_alike c) None || apart && gives (when_apart c) None)
