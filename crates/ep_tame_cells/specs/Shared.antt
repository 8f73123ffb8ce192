-- States whose cells are all of both memories (this project's rules).
use Rattle.std.specs.Prelude.{◌≡◌, true, false, List, is_some}
use Rattle.ep_int.specs.declared.types.Model.{Model}
use Rattle.ep_bitslice.specs.declared.cell.Side.TheVariants.{Shared}
use Rattle.ep_cells.specs.declared.cell.Cell.{Cell}
use Rattle.ep_cells.specs.Cells.{IsIn, is_same_place}
use Rattle.ep_cells.specs.States.{Each, AreCells}
use Rattle.ep_cells.specs.Both.{cell_like}
use Rattle.ep_reads.specs.Unify.{is_crossed}

abbrev pub AreShared : {N : Type 0} → List (Cell N) → Type 0
AreShared {N = N} cs = Each (λ (c : Cell N). c.side ≡ Shared) cs

-- a state of cells of both memories alone
pub record AreSharedCells {N : Type 0} (d : Model) (cs : List (Cell N)) : Type 0 where
  pub cells : AreCells d cs
  pub shared : AreShared cs

-- where a cell of the one has a byte of a cell of the other, both have one place and type
abbrev pub AreUncrossed : {N : Type 0} → Model → (xs ys : List (Cell N)) → Type 0
AreUncrossed {N = N} d xs ys = (x : Cell N) → IsIn x xs → is_crossed d ys x ≡ false

-- each cell of the first has one of its place and type in the second
abbrev pub AreHad : {N : Type 0} → (xs ys : List (Cell N)) → Type 0
AreHad {N = N} xs ys = (x : Cell N) → IsIn x xs → is_some (cell_like x ys) ≡ true

-- a cell of both memories, of a place and type that is there
pub record IsOverCell {N : Type 0} (c : Cell N) (cs : List (Cell N)) : Type 0 where
  pub shared : c.side ≡ Shared
  pub old : Cell N
  pub is_in : IsIn old cs
  pub same : is_same_place c old ≡ true
