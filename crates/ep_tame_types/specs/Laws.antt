-- What types of tame programs have.
use Rattle.std.specs.Prelude.{◌≡◌, ℕ, ◌+◌, ◌*◌, ◌≤◌, ◌<◌, false, Some, IsTrue}
use Rattle.ep_int.specs.declared.types.Scalar.{Scalar}
use Rattle.ep_layout.specs.Table.{Table, IsBuilt, size, elements_of, scalar_of}
use Rattle.ep_kinds.specs.Tame.{are_tame_types, is_size_of_holder, holds_array}
use Rattle.ep_kinds.specs.Rows.{IsMember, HasScalar, IsInChain}
use Rattle.ep_tame_values.specs.Offsets.{FitsIn, IsArrayOf}

abbrev pub MembersFitIn : Type 0
MembersFitIn = (t : Table) → IsBuilt t → (g q ty : ℕ) → IsMember t g q ty → FitsIn t g q ty

abbrev pub ArraysAreEven : Type 0
ArraysAreEven =
    (t : Table) → IsBuilt t → IsTrue (are_tame_types t) → (a e n u : ℕ) → elements_of t a ≡ Some (e, n)
    → size t e ≡ Some u → 0 < n → 0 < u → u ≤ 65536 → IsArrayOf t a e n u

-- a type of a size that no aggregate with arrays in it has
abbrev pub UnitsOfNoHolder : Type 0
UnitsOfNoHolder =
    (t : Table) → IsBuilt t → (ty u : ℕ) → size t ty ≡ Some u → is_size_of_holder t u ≡ false
    → holds_array t ty ≡ false

-- The elements that a chain comes to fill what it begins with.
abbrev pub ChainsFill : Type 0
ChainsFill =
    (t : Table) → IsBuilt t → (whole ty s most : ℕ) → IsInChain t whole ty s most → size t ty ≡ Some s
    → size t whole ≡ Some (s * (most + 1))

-- Of an object without unions in it at most one scalar stands at each offset.
abbrev pub ScalarsStandOnce : Type 0
ScalarsStandOnce =
    (t : Table) → IsBuilt t → IsTrue (are_tame_types t) → (whole o a b : ℕ) (v w : Scalar) → HasScalar t whole o a
    → HasScalar t whole o b → scalar_of t a ≡ Some v → scalar_of t b ≡ Some w → a ≡ b
