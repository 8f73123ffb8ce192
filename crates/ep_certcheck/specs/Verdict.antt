-- What the checker answers over states of cells (this project's rules).
use Rattle.std.specs.Prelude.{◌≡◌, ℕ, suc, Bool, false, if◌then◌else◌, List, [], ◌∷◌, slice_get, Some}
use Rattle.std.specs.Option.{option_map_or}
use Rattle.ep_int.specs.declared.types.IntType.{IntType}
use Rattle.ep_int.specs.declared.types.IntType.TheVariants.{U32}
use Rattle.ep_int.specs.declared.types.Model.{Model}
use Rattle.ep_int.specs.declared.types.Order.{Order}
use Rattle.ep_int.specs.declared.types.Scalar.{Scalar}
use Rattle.ep_int.specs.declared.types.Scalar.TheVariants.{Int, Pointer}
use Rattle.ep_bitslice.specs.declared.cell.CellName.{CellName}
use Rattle.ep_cells.specs.declared.cell.Cell.{Cell}
use Rattle.ep_cells.specs.Both.{cell_like, is_cell_within}
use Rattle.ep_cells.specs.States.{Known}
use Rattle.ep_core.specs.Program.{Program}
use Rattle.ep_domain.specs.Domain.{Ops}
use Rattle.ep_flows.specs.View.{orders}
use Rattle.ep_transfers.specs.Cells.{cell_ops}
use Rattle.ep_certcheck_laws.specs.Checked.{Answer, yes, fault, is_outside, is_missing, spare, checked}
use Rattle.ep_certcheck.specs.declared.verdict.Verdict.{Verdict}
use Rattle.ep_certcheck.specs.declared.verdict.Verdict.TheVariants.{Yes, Fault, Outside, Missing, Spare}

-- ---- heads

-- a state of machines of these orders, in this data model
pub record IsHeadOf {N : Type 0} (os : Order × Order) (d : Model) (h : Known N) : Type 0 where
  pub orders : h.orders ≡ os
  pub model : h.model ≡ d

abbrev pub AreHeadsOf : {N : Type 0} → Order × Order → Model → List (Known N) → Type 0
AreHeadsOf os d [] = Unit {0}
AreHeadsOf os d (h ∷ hs) = IsHeadOf os d h × AreHeadsOf os d hs

-- ---- cells that a state fails

module _ {N : Type 0} (D : Ops N) where
  -- these cells have one of the same side, place and type, within it
  abbrev pub has_within : List (Cell N) → Cell N → Bool
  has_within xs y = option_map_or (λ x. is_cell_within D x y) (cell_like y xs) false

  abbrev pub first_failed_cell : List (Cell N) → List (Cell N) → ℕ
  first_failed_cell xs [] = 0
  first_failed_cell xs (y ∷ ys) = if has_within xs y then suc (first_failed_cell xs ys) else 0

  -- the number of the second state's first cell that the first fails
  abbrev pub first_failed : Known N → Known N → ℕ
  first_failed k l = first_failed_cell k.cells l.cells

-- ---- the verdict

abbrev pub type_named : Scalar → IntType
type_named (Int t) = t
type_named Pointer = U32

abbrev pub name_of : {N : Type 0} → Cell N → CellName
name_of c = record { side = c.side; block = c.block; offset = c.offset; t = type_named c.what }

-- the cell of this name stands at number n of the head of number h
pub record IsCellOf {N : Type 0} (hs : List (Known N)) (h n : ℕ) (name : CellName) : Type 0 where
  pub head : Known N
  pub is_there : slice_get hs h ≡ Some head
  pub cell : Cell N
  pub stands : slice_get head.cells n ≡ Some cell
  pub named : name ≡ name_of cell

module _ {N : Type 0} (D : Ops N) (p : Program) (a b : Order) (u : ℕ) (hs : List (Known N)) where
  -- for machines of these byte orders, with so many turns unrolled and these heads
  abbrev pub answer : Answer
  answer = checked (cell_ops D p (orders a b)) (first_failed D) u hs (orders a b) p

  pub record StopsOutside (h : ℕ) (name : CellName) : Type 0 where
    pub cell : ℕ
    pub answer_is : answer ≡ is_outside h cell
    pub is_cell : IsCellOf hs h cell name

  abbrev pub IsVerdict : Verdict → Type 0
  IsVerdict Yes = answer ≡ yes
  IsVerdict (Fault l k) = answer ≡ fault l k
  IsVerdict (Outside h name) = StopsOutside h name
  IsVerdict (Missing l) = answer ≡ is_missing l
  IsVerdict (Spare n) = answer ≡ spare n
