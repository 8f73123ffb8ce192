-- An object in another one, as a member or an element, has its own leaves there, and no others (C11 6.2.6.1).
use Rattle.std.specs.Prelude.{◌≡◌, ◌+◌, ◌<◌, ◌≤◌, Bool, ◌&&◌, nat_lt, List, Some, IsTrue, ℕ}
use Rattle.std.specs.List.{list_any}
use Rattle.ep_int.specs.declared.types.Model.{Model}
use Rattle.ep_int.specs.declared.types.Scalar.{Scalar}
use Rattle.ep_int.specs.Types.{size_of}
use Rattle.ep_layout.specs.declared.types.Leaf.{Leaf}
use Rattle.ep_layout.specs.Table.{Table, IsBuilt, size, leaves, scalar_of}
use Rattle.ep_cells.specs.Kill.{leaf_at, is_in_leaf}
use Rattle.ep_kinds.specs.Tame.{are_tame_types}
use Rattle.ep_kinds.specs.Rows.{HasScalar}

-- an offset lies in a leaf, but not at its begin
abbrev pub cuts_leaf : Model → List Leaf → ℕ → Bool
cuts_leaf d ls q = list_any (λ (l : Leaf). nat_lt l.offset q && nat_lt q (l.offset + size_of d l.what)) ls

-- so many bytes from offset k on have these leaves, and no other has bytes there
pub record HasLeavesAt (d : Model) (whole part : List Leaf) (k bytes : ℕ) : Type 0 where
  pub begins : (x : ℕ) → x < bytes → leaf_at whole (k + x) ≡ leaf_at part x
  pub inside : (x : ℕ) → x < bytes → is_in_leaf d whole (k + x) ≡ is_in_leaf d part x
  pub cut : (x : ℕ) → x ≤ bytes → cuts_leaf d whole (k + x) ≡ cuts_leaf d part x

abbrev pub PartsHaveCells : Type 0
PartsHaveCells =
    (t : Table) → IsBuilt t → IsTrue (are_tame_types t) → (whole o ty s : ℕ) → HasScalar t whole o ty
    → size t ty ≡ Some s → HasLeavesAt t.model (leaves t whole) (leaves t ty) o s

-- the scalar that is at an offset of objects of a type, wherever they lie
pub record ScalarAt (t : Table) (ty offset : ℕ) (w : Scalar) : Type 0 where
  pub scalar : ℕ
  pub is : scalar_of t scalar ≡ Some w
  pub stands : (whole o : ℕ) → HasScalar t whole o ty → HasScalar t whole (o + offset) scalar

abbrev pub LeavesAreScalars : Type 0
LeavesAreScalars =
    (t : Table) → IsBuilt t → IsTrue (are_tame_types t) → (ty offset : ℕ) (w : Scalar)
    → leaf_at (leaves t ty) offset ≡ Some w → ScalarAt t ty offset w
