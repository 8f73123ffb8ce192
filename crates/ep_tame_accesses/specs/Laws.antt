-- At each place of an address of a tame program at which an access stays in its block stands an object of its type.
use Rattle.std.specs.Prelude.{◌≡◌, ℕ, ◌<◌, true, List, [], ◌∷◌, map, Some, slice_get}
use Rattle.ep_layout.specs.Table.{size}
use Rattle.ep_core.specs.Program.{Place, Block, Program}
use Rattle.ep_core.specs.WellFormed.{is_named}
use Rattle.ep_domain.specs.Domain.{Ops}
use Rattle.ep_pointers.specs.Value.{Target}
use Rattle.ep_cell_ranges.specs.Spots.{Spot}
use Rattle.ep_evaluation.specs.Accesses.{spots}
use Rattle.ep_kinds.specs.Rows.{HasScalar}
use Rattle.ep_tame_values.specs.Offsets.{EachTarget}
use Rattle.ep_tame_places.specs.Places.{LiesAt}

-- the place is in a block that can be named, and an object of the type stands there
pub record HasObject (p : Program) (live : List ℕ) (ty : ℕ) (q : Spot) : Type 0 where
  pub of_block : Block
  pub there : slice_get p.blocks q.0 ≡ Some of_block
  pub named : is_named p.types p.blocks live q.0 ≡ true
  pub stands : HasScalar p.types of_block.ty q.1 ty

abbrev pub EachSpot : (Spot → Type 0) → List Spot → Type 0
EachSpot P [] = Unit {0}
EachSpot P (q ∷ qs) = P q × EachSpot P qs

-- of any alignment
abbrev pub AccessesAreOfObjects : {N : Type 0} → Ops N → Program → Type 0
AccessesAreOfObjects {N = N} D p =
    (live : List ℕ) (a : Place) (ty s step : ℕ) (ts : List (Target N)) → size p.types ty ≡ Some s → 0 < s
    → EachTarget (LiesAt D p live a ty) ts
    → EachSpot (HasObject p live ty) (spots D (map (λ (b : Block). b.size) p.blocks) s step ts)
