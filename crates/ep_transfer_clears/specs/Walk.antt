-- Where a walk over the bytes of a type stands among its leaves.
use Rattle.std.specs.Prelude.{◌≡◌, ℕ, ◌≤◌, ◌<◌, true, nat_eq, if◌then◌else◌, List, [], ◌∷◌, Option, Some, None, drop}
use Rattle.ep_int.specs.declared.types.Model.{Model}
use Rattle.ep_int.specs.declared.types.Scalar.{Scalar}
use Rattle.ep_layout.specs.declared.types.Leaf.{Leaf}
use Rattle.ep_cells.specs.Kill.{leaf_at, is_in_leaf, AreLeavesIn}

-- the first of these leaves, if it begins at an offset
abbrev pub first_at : List Leaf → (offset : ℕ) → Option Scalar
first_at [] q = None
first_at (l ∷ ls) q = if nat_eq l.offset q then Some l.what else None

-- the first of these leaves begins at an offset or later
abbrev pub BeginsFrom : (offset : ℕ) → List Leaf → Type 0
BeginsFrom q [] = Unit {0}
BeginsFrom q (l ∷ ls) = q ≤ l.offset

-- Before the byte q, so many leaves have begun, of which the last ends at e.
pub record IsAt (d : Model) (size : ℕ) (leaves : List Leaf) (q begun e : ℕ) : Type 0 where
  pub rest : AreLeavesIn d e size (drop begun leaves)
  pub ahead : BeginsFrom q (drop begun leaves)
  pub begins : (j : ℕ) → q ≤ j → leaf_at leaves j ≡ leaf_at (drop begun leaves) j
  pub behind : (j : ℕ) → e ≤ j → is_in_leaf d leaves j ≡ is_in_leaf d (drop begun leaves) j
  pub inside : (j : ℕ) → q ≤ j → j < e → is_in_leaf d leaves j ≡ true
