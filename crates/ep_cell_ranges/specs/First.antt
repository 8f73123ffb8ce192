-- The cells of a block whose bytes all have values, as that of a global begins: one for each leaf, and one for each
-- byte outside of all leaves (this project's rule, beside C11 6.7.9p10).
use Rattle.std.specs.Prelude.{ℕ, zero, suc, ◌+◌, Bool, true, false, List, [], ◌∷◌, ◌++◌, Option, Some, None}
use Rattle.ep_int.specs.declared.types.Model.{Model}
use Rattle.ep_int.specs.declared.types.Scalar.{Scalar}
use Rattle.ep_layout.specs.declared.types.Leaf.{Leaf}
use Rattle.ep_cells.specs.declared.cell.Cell.{Cell}
use Rattle.ep_cells.specs.Kill.{leaf_at, is_in_leaf}

module _ {N : Type 0} (d : Model) (leaf : (offset : ℕ) → Scalar → Cell N) (byte : (offset : ℕ) → Cell N) where
  -- a cell for a leaf that begins here, or for a byte outside of all leaves
  abbrev pub filled_here : (offset : ℕ) → Option Scalar → (inside : Bool) → List (Cell N)
  filled_here q (Some w) inside = leaf q w ∷ []
  filled_here q None true = []
  filled_here q None false = byte q ∷ []

  -- the cells of so many bytes from an offset on
  abbrev pub filled_from : List Leaf → (offset bytes : ℕ) → List (Cell N)
  filled_from leaves q zero = []
  filled_from leaves q (suc n) =
      filled_here q (leaf_at leaves q) (is_in_leaf d leaves q) ++ filled_from leaves (q + 1) n
