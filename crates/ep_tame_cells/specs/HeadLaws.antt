-- Where two states of a tame program come together, the cells of the blocks that both have stay, and the rank of a
-- loop's head falls as long as what comes round isn't within it.
use Rattle.std.specs.Prelude.{◌≡◌, ℕ, ◌<◌, false, List, length}
use Rattle.ep_int.specs.declared.types.Order.{Order}
use Rattle.ep_domain.specs.Domain.{Ops}
use Rattle.ep_cells.specs.declared.cell.Cell.{Cell}
use Rattle.ep_cells.specs.Both.{joined, widened, are_within}
use Rattle.ep_cells.specs.Reshare.{reshared}
use Rattle.ep_cells.specs.States.{Known}
use Rattle.ep_reads.specs.Unify.{unified}
use Rattle.ep_core.specs.Program.{Program}
use Rattle.ep_tame_cells.specs.Shared.{AreHad}
use Rattle.ep_tame_cells.specs.Rank.{rank, HaveTargetsBelow}
use Rattle.ep_tame_cells.specs.Shape.{IsCovered, HasShape}

-- cells of two machines that run this program
abbrev pub known : {N : Type 0} → Program → Order × Order → List (Cell N) → Known N
known p os cs = record { orders = os; model = p.types.model; cells = cs }

module _ {N : Type 0} (D : Ops N) (p : Program) (os : Order × Order) (xs ys : List (Cell N)) where
  -- both states, with cells of the same places
  abbrev pub together : List (Cell N) × List (Cell N)
  together = unified D (known p os xs) (known p os ys)

  abbrev pub join : List (Cell N)
  join = joined D together.0 together.1

  abbrev pub widening : List (Cell N)
  widening = widened D together.0 together.1

pub record HeadLaws {N : Type 0} (D : Ops N) : Type 0 where
  pub join_shape : (p : Program) (os : Order × Order) (xs ys : List (Cell N)) → HasShape p xs → HasShape p ys
      → HasShape p (join D p os xs ys)
  pub join_covers : (p : Program) (os : Order × Order) (xs ys : List (Cell N)) (b : ℕ) → HasShape p xs → HasShape p ys
      → IsCovered p xs b → IsCovered p ys b → IsCovered p (join D p os xs ys) b
  pub widening_shape : (p : Program) (os : Order × Order) (xs ys : List (Cell N)) → HasShape p xs → HasShape p ys
      → HasShape p (widening D p os xs ys)
  pub widening_covers : (p : Program) (os : Order × Order) (xs ys : List (Cell N)) (b : ℕ) → HasShape p xs
      → HasShape p ys → IsCovered p xs b → IsCovered p ys b → IsCovered p (widening D p os xs ys) b
  pub widening_stays : (p : Program) (os : Order × Order) (xs ys : List (Cell N)) → HasShape p xs → HasShape p ys
      → reshared D (widening D p os xs ys) ≡ widening D p os xs ys
  -- a head whose places what comes round has
  pub head_stays : (p : Program) (os : Order × Order) (xs ys : List (Cell N)) → HasShape p xs → HasShape p ys
      → AreHad xs ys → (together D p os xs ys).0 ≡ xs
  pub head_falls : (p : Program) (os : Order × Order) (xs ys : List (Cell N)) → D.height < 4294967295
      → 0 < length p.blocks → HasShape p xs → HasShape p ys → AreHad xs ys
      → HaveTargetsBelow (length p.blocks) xs → HaveTargetsBelow (length p.blocks) ys
      → are_within D (together D p os xs ys).1 xs ≡ false
      → rank D (length p.blocks) (widening D p os xs ys) < rank D (length p.blocks) xs
