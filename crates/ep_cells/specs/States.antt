-- What a list of cells has to be, to be what is known of two memories.
use Rattle.std.specs.Prelude.{◌≡◌, ℕ, ◌+◌, ◌^◌, ◌≤◌, true, false, List, [], ◌∷◌, Option, Some, None, IfSome}
use Rattle.ep_int.specs.declared.types.Order.{Order}
use Rattle.ep_int.specs.declared.types.Model.{Model}
use Rattle.ep_int.specs.declared.types.Scalar.{Scalar}
use Rattle.ep_int.specs.declared.types.Scalar.TheVariants.{Int, Pointer}
use Rattle.ep_int.specs.Types.{bits_of, size_of}
use Rattle.ep_bitslice.specs.declared.cell.CellName.{CellName}
use Rattle.ep_bitslice.specs.declared.segment.Segment.{Segment}
use Rattle.ep_bitslice.specs.Bits.{mentions}
use Rattle.ep_bitslice.specs.Segments.{bits, width, IsForm}
use Rattle.ep_pointers.specs.Value.{IsRising}
use Rattle.ep_cells.specs.declared.cell.Cell.{Cell}
use Rattle.ep_cells.specs.declared.cell.Value.{Value}
use Rattle.ep_cells.specs.declared.cell.Value.TheVariants.{Num, Ptr}
use Rattle.ep_cells.specs.Cells.{place_of, meets, comes_before, is_partly_in, IsNamed, IsIn}

-- What is known of two memories: the byte orders of the left and of the right one, the data model, and the cells.
pub record Known (N : Type 0) : Type 0 where
  pub orders : Order × Order
  pub model : Model
  pub cells : List (Cell N)

-- a value is of the sort of the cell's type
abbrev pub IsOfSort : {N : Type 0} → Scalar → Option (Value N) → Type 0
IsOfSort w None = Unit {0}
IsOfSort (Int t) (Some (Num n)) = Unit {0}
IsOfSort (Int t) (Some (Ptr p)) = ⊥
IsOfSort Pointer (Some (Num n)) = ⊥
IsOfSort Pointer (Some (Ptr p)) = Unit {0}

-- a pointer's blocks rise
abbrev pub HasRisingBlocks : {N : Type 0} → Option (Value N) → Type 0
HasRisingBlocks None = Unit {0}
HasRisingBlocks (Some (Num n)) = Unit {0}
HasRisingBlocks (Some (Ptr p)) = IsRising p.targets

-- a cell fits, but for its form
pub record Fits {N : Type 0} (d : Model) (c : Cell N) : Type 0 where
  pub sort : IsOfSort c.what c.value
  pub undefined : c.value ≡ None → c.maybe ≡ true
  pub last : c.offset + size_of d c.what ≤ 2 ^ 32

-- the cell of a name is there, and surely defined
pub record IsThere {N : Type 0} (n : CellName) (cs : List (Cell N)) : Type 0 where
  pub cell : Cell N
  pub is_in : IsIn cell cs
  pub named : IsNamed n cell
  pub sure : cell.maybe ≡ false

-- an integer type of so many bits
abbrev pub HasWidth : Scalar → ℕ → Type 0
HasWidth (Int t) w = bits_of t ≡ w
HasWidth Pointer w = ⊥

-- ss may be the form of c among these cells
pub record IsFormOf {N : Type 0} (cs : List (Cell N)) (c : Cell N) (ss : List Segment) : Type 0 where
  pub sure : c.maybe ≡ false
  pub wide : HasWidth c.what (width ss)
  pub form : IsForm ss
  pub mentioned : (n : CellName) → mentions n (bits ss) ≡ true → IsThere n cs

abbrev pub HasForm : {N : Type 0} → List (Cell N) → Cell N → Type 0
HasForm cs c = IfSome c.form (IsFormOf cs c)

-- ---- pairs of cells, the earlier one first

abbrev pub Each : {N : Type 0} → (Cell N → Type 0) → List (Cell N) → Type 0
Each P [] = Unit {0}
Each P (c ∷ cs) = P c × Each P cs

abbrev pub EachPair : {N : Type 0} → (Cell N → Cell N → Type 0) → List (Cell N) → Type 0
EachPair R [] = Unit {0}
EachPair R (c ∷ cs) = Each (R c) cs × EachPair R cs

-- The first comes before the second, and no byte is in both.
pub record AreApart {N : Type 0} (d : Model) (x y : Cell N) : Type 0 where
  pub ordered : comes_before x y ≡ true
  pub apart : meets (place_of d x) (place_of d y) ≡ false

pub record IsCell {N : Type 0} (d : Model) (c : Cell N) : Type 0 where
  pub fits : Fits d c
  pub rising : HasRisingBlocks c.value

-- the cells are in order, fit and don't overlap on a side, and forms mention cells that are there
pub record AreCells {N : Type 0} (d : Model) (cs : List (Cell N)) : Type 0 where
  pub each : (c : Cell N) → IsIn c cs → IsCell d c
  pub pairs : EachPair (AreApart d) cs
  pub forms : (c : Cell N) → IsIn c cs → HasForm cs c

-- ---- conditions of operations

-- no cell of the sides written lies partly in the place of c
abbrev pub IsNoneCut : {N : Type 0} → Model → Cell N → List (Cell N) → Type 0
IsNoneCut {N = N} d c cs = (x : Cell N) → IsIn x cs → is_partly_in (place_of d c) (place_of d x) ≡ false

pub record CanWrite {N : Type 0} (d : Model) (c : Cell N) (cs : List (Cell N)) : Type 0 where
  pub fits : Fits d c
  pub form : HasForm cs c
  pub none_cut : IsNoneCut d c cs

-- two cells of one side, place and type
pub record AreAlike {N : Type 0} (x y : Cell N) : Type 0 where
  pub side : x.side ≡ y.side
  pub block : x.block ≡ y.block
  pub offset : x.offset ≡ y.offset
  pub what : x.what ≡ y.what

-- two states have cells of the same sides, places and types
abbrev pub HaveCellsAlike : {N : Type 0} → List (Cell N) → List (Cell N) → Type 0
HaveCellsAlike [] [] = Unit {0}
HaveCellsAlike [] (y ∷ ys) = ⊥
HaveCellsAlike (x ∷ xs) [] = ⊥
HaveCellsAlike (x ∷ xs) (y ∷ ys) = AreAlike x y × HaveCellsAlike xs ys
