-- Whether Left and Right cells are to be one.
use Rattle.std.specs.Prelude.{ℕ, Bool, false, not, List, Option, Some, None}
use Rattle.std.specs.List.{list_all}
use Rattle.ep_bitslice.specs.declared.cell.Side.TheVariants.{Left, Right}
use Rattle.ep_domain.specs.Domain.{Ops}
use Rattle.ep_cells.specs.declared.cell.Cell.{Cell}
use Rattle.ep_cells.specs.Reshare.{are_same, cell_from}

-- both are there and surely the same
abbrev pub is_same_pair : {N : Type 0} → Ops N → Option (Cell N) → Option (Cell N) → Bool
is_same_pair D None r = false
is_same_pair D (Some l) None = false
is_same_pair D (Some l) (Some r) = are_same D l r

abbrev pub is_same_at : {N : Type 0} → Ops N → (block offset : ℕ) → List (Cell N) → Bool
is_same_at D b q cs = is_same_pair D (cell_from Left b q cs) (cell_from Right b q cs)

-- at none of the places
abbrev pub are_different : {N : Type 0} → Ops N → List (Cell N) → List (ℕ × ℕ) → Bool
are_different D cs ps = list_all (λ p. not (is_same_at D p.0 p.1 cs)) ps
