-- Which offsets the places and the pointers of tame programs have in their blocks (this project's rule).
use Rattle.std.specs.Prelude.{◌≡◌, ℕ, ◌+◌, ◌*◌, ◌%◌, ◌≤◌, ◌<◌, pos, ◌≤ℤ◌, ◌⊎◌, true, false, List, [], ◌∷◌, Some}
use Rattle.std.specs.Prelude.{IsTrue}
use Rattle.ep_layout.specs.Table.{Table, size, elements_of}
use Rattle.ep_domain.specs.Domain.{Ops, IsSingle}
use Rattle.ep_pointers.specs.Value.{Target}
use Rattle.ep_kinds.specs.Tame.{holds_array}
use Rattle.ep_kinds.specs.Rows.{IsInChain, Row}

-- ---- types

-- what a member has in its aggregate: room, and each array that it holds
pub record FitsIn (t : Table) (aggregate offset ty : ℕ) : Type 0 where
  pub room : (s : ℕ) → size t ty ≡ Some s → (z : ℕ) × (size t aggregate ≡ Some z) × (offset + s ≤ z)
  pub holder : holds_array t ty ≡ true → holds_array t aggregate ≡ true
  pub array : (e k : ℕ) → elements_of t ty ≡ Some (e, k) → holds_array t aggregate ≡ true

-- an array of n elements of u bytes each, which hold no arrays in their members
pub record IsArrayOf (t : Table) (array e n u : ℕ) : Type 0 where
  pub elements : elements_of t array ≡ Some (e, n)
  pub sized : size t e ≡ Some u
  pub whole : size t array ≡ Some (u * n)
  pub some : 0 < n
  pub more : 0 < u
  pub small : u ≤ 65536
  pub plain : holds_array t e ≡ false

-- ---- offsets

-- one place alone, by the range and by every stride
pub record IsAlone {N : Type 0} (D : Ops N) (n : N) (o : ℕ) : Type 0 where
  pub range : IsSingle D n (pos o)
  pub strides : (s : ℕ) → 0 < s → s ≤ 65536 → IsTrue (D.has_stride n (o % s) s)

-- an object of the row ends within the row's first step
abbrev pub EndsInStep : Table → Row → Type 0
EndsInStep t r = (s : ℕ) → size t r.ty ≡ Some s → r.first + s ≤ r.step

-- Offsets of a place on a row, in a block of so many bytes.
pub record LieOn {N : Type 0} (D : Ops N) (t : Table) (bytes : ℕ) (r : Row) (n : N) : Type 0 where
  pub small : r.step ≤ 65536
  pub stride : 0 < r.step → IsTrue (D.has_stride n (r.first % r.step) r.step)
  -- Within the step a place that isn't before the block isn't before the row; else the range says so.
  pub low : EndsInStep t r ⊎ (pos r.first ≤ℤ (D.range n).0)
  -- none is behind the last one, as far as they are in the block
  pub high : ((D.range n).1 ≤ℤ pos (r.first + r.step * r.most)) ⊎ (bytes ≤ r.first + r.step * (r.most + 1))
  pub one : holds_array t r.ty ≡ true → IsAlone D n r.first
  -- an array that isn't the step of its row
  pub dense : (e k : ℕ) → elements_of t r.ty ≡ Some (e, k) → (size t r.ty ≡ Some r.step) ⊎ IsAlone D n r.first

-- Offsets of pointers to a type into a block of type `whole`: along the elements of one array, and of an aggregate that
-- holds an array at the block's begin alone. They have no upper bound.
pub record PointAt {N : Type 0} (D : Ops N) (t : Table) (whole ty : ℕ) (n : N) : Type 0 where
  pub step : ℕ
  pub most : ℕ
  pub chain : IsInChain t whole ty step most
  pub sized : size t ty ≡ Some step
  pub small : step ≤ 65536
  pub stride : 0 < step → IsTrue (D.has_stride n 0 step)
  pub one : holds_array t ty ≡ true → n ≡ D.single (pos 0)

-- each target has this, of its block and its offsets
abbrev pub EachTarget : {N : Type 0} → (ℕ → N → Type 0) → List (Target N) → Type 0
EachTarget P [] = Unit {0}
EachTarget P (t ∷ ts) = P t.0 t.1 × EachTarget P ts
