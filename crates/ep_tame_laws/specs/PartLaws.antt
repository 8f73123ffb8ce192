-- An object that lies in another one, as a member or an element: it ends inside, and its leaves are leaves of that.
use Rattle.std.specs.Prelude.{◌≡◌, ℕ, ◌+◌, ◌≤◌, Some, IsTrue}
use Rattle.ep_int.specs.declared.types.Scalar.{Scalar}
use Rattle.ep_layout.specs.Table.{Table, IsBuilt, size, leaves, scalar_of}
use Rattle.ep_cells.specs.Kill.{leaf_at}
use Rattle.ep_kinds.specs.Tame.{are_tame_types}
use Rattle.ep_kinds.specs.Rows.{HasScalar}

abbrev pub PartsFit : Type 0
PartsFit =
    (t : Table) → IsBuilt t → (whole o ty n s : ℕ) → HasScalar t whole o ty → size t whole ≡ Some n → size t ty ≡ Some s
    → o + s ≤ n

abbrev pub PartsHaveLeaves : Type 0
PartsHaveLeaves =
    (t : Table) → IsBuilt t → IsTrue (are_tame_types t) → (whole o ty : ℕ) → HasScalar t whole o ty
    → (q : ℕ) (w : Scalar) → leaf_at (leaves t ty) q ≡ Some w → leaf_at (leaves t whole) (o + q) ≡ Some w

-- So of two scalars at one offset both have one type.
abbrev pub ScalarsAreLeaves : Type 0
ScalarsAreLeaves =
    (t : Table) → IsBuilt t → IsTrue (are_tame_types t) → (whole o ty : ℕ) → HasScalar t whole o ty → (w : Scalar)
    → scalar_of t ty ≡ Some w → leaf_at (leaves t whole) o ≡ Some w
