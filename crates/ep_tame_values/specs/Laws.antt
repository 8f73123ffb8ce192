-- Offsets of places keep on their rows, and those of pointers along their blocks.
use Rattle.std.specs.Prelude.{◌≡◌, ℕ, ◌+◌, ◌-◌, ◌*◌, ◌≤◌, ◌<◌, pos, ◌-ℤ◌, Bool, false, Some, IfSome}
use Rattle.ep_layout.specs.Table.{Table, size}
use Rattle.ep_range_laws.specs.Ranges.{Encloses}
use Rattle.ep_domain.specs.Domain.{Ops, Holds}
use Rattle.ep_pointers.specs.Sum.{move, moved_offset}
use Rattle.ep_kinds.specs.Tame.{holds_array}
use Rattle.ep_kinds.specs.Rows.{row, Row}
use Rattle.ep_tame_values.specs.Offsets.{FitsIn, IsArrayOf, LieOn, PointAt}

-- numbers that an index below the bound may be
abbrev pub IsIndex : {N : Type 0} → Ops N → (bound : ℕ) → N → Type 0
IsIndex D bound i = Encloses (pos 0, pos bound -ℤ pos 1) (D.range i)

-- the row of the elements of an array that is on a row: so many of so many bytes
abbrev pub elements_row : Row → (e n u : ℕ) → Row
elements_row r e n u = row e r.first u (n * r.most + (n - 1))

pub record OffsetLaws {N : Type 0} (D : Ops N) : Type 0 where
  -- places: of a block, what a pointer points to, a member, an element
  pub block_lies : (t : Table) (whole bytes : ℕ) → bytes ≤ 65536
      → LieOn D t bytes (row whole 0 bytes 0) (D.single (pos 0))
  pub target_lies : (t : Table) (whole ty most bytes : ℕ) (n : N) (p : PointAt D t whole ty n)
      → bytes ≤ 0 + p.step * (most + 1) → LieOn D t bytes (row ty 0 p.step most) n
  pub member_lies : (t : Table) (bytes size q ty : ℕ) (r : Row) (n : N) → q ≤ 4294967295 → FitsIn t r.ty q ty
      → LieOn D t bytes r n
      → IfSome (moved_offset D (move (D.single (pos q)) 1 false) (Some size) n)
      (LieOn D t bytes (row ty (r.first + q) r.step r.most))
  pub element_lies : (t : Table) (bytes size : ℕ) (r : Row) (e b u : ℕ) (n i : N) → IsArrayOf t r.ty e b u
      → IsIndex D b i → LieOn D t bytes r n
      → IfSome (moved_offset D (move i u false) (Some size) n) (LieOn D t bytes (elements_row r e b u))
  -- a place that is held and ends in the block is one of the row
  pub on_row : (t : Table) (bytes : ℕ) (r : Row) (n : N) (s q : ℕ) → LieOn D t bytes r n → size t r.ty ≡ Some s
      → 0 < s → 0 < r.step → Holds D n (pos q) → q + s ≤ bytes
      → (j : ℕ) × (j ≤ r.most) × (q ≡ r.first + r.step * j)
  -- pointers: to a block, joined, moved by units of what they point to, and to the elements of an array
  pub begin_points : (t : Table) (whole bytes : ℕ) → size t whole ≡ Some bytes → bytes ≤ 65536
      → PointAt D t whole whole (D.single (pos 0))
  pub join_points : (t : Table) (whole ty : ℕ) (n m : N) → PointAt D t whole ty n → PointAt D t whole ty m
      → PointAt D t whole ty (D.join n m)
  pub widen_points : (t : Table) (whole ty : ℕ) (n m : N) → PointAt D t whole ty n → PointAt D t whole ty m
      → PointAt D t whole ty (D.widen n m)
  pub moved_points : (t : Table) (whole : ℕ) (delta n : N) (ty u bytes : ℕ) (back : Bool) → size t ty ≡ Some u → 0 < u
      → holds_array t ty ≡ false → PointAt D t whole ty n
      → IfSome (moved_offset D (move delta u back) (Some bytes) n) (PointAt D t whole ty)
  pub first_points : (t : Table) (whole a e b u : ℕ) (n : N) → IsArrayOf t a e b u → PointAt D t whole a n
      → PointAt D t whole e n
  pub element_points : (t : Table) (whole a e b u bytes : ℕ) (i n : N) → IsArrayOf t a e b u → PointAt D t whole a n
      → IfSome (moved_offset D (move i u false) (Some bytes) n) (PointAt D t whole e)
