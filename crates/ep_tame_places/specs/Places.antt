-- In which blocks, and at which offsets, places of tame programs lie and their pointers point (this project's rule).
use Rattle.std.specs.Prelude.{◌≡◌, ℕ, ◌<◌, ◌⊎◌, true, false, List, Some, slice_get}
use Rattle.ep_layout.specs.Table.{Table, size, elements_of}
use Rattle.ep_core.specs.Program.{Place, Block, Program}
use Rattle.ep_core.specs.WellFormed.{is_named}
use Rattle.ep_domain.specs.Domain.{Ops}
use Rattle.ep_kinds.specs.Tame.{holds_array, through_member}
use Rattle.ep_kinds.specs.Rows.{Row, IsRow}
use Rattle.ep_tame_values.specs.Offsets.{LieOn, PointAt}

-- Objects of the row hold no arrays in their members, and arrays lie right behind one another.
pub record IsSpread (t : Table) (r : Row) : Type 0 where
  pub plain : holds_array t r.ty ≡ false
  pub dense : (e n : ℕ) → elements_of t r.ty ≡ Some (e, n) → size t r.ty ≡ Some r.step

-- one object, or such ones
abbrev pub IsEven : Table → Row → Type 0
IsEven t r = (r.most ≡ 0) ⊎ IsSpread t r

-- where these blocks can be named
module _ {N : Type 0} (D : Ops N) (p : Program) (live : List ℕ) where
  -- a target of pointers to a type
  pub record PointsTo (ty b : ℕ) (n : N) : Type 0 where
    pub of_block : Block
    pub there : slice_get p.blocks b ≡ Some of_block
    pub named : is_named p.types p.blocks live b ≡ true
    pub point : PointAt D p.types of_block.ty ty n

  -- a target of a place's address
  pub record LiesAt (a : Place) (ty b : ℕ) (n : N) : Type 0 where
    pub of_block : Block
    pub there : slice_get p.blocks b ≡ Some of_block
    pub named : is_named p.types p.blocks live b ≡ true
    pub row : Row
    pub is_row : IsRow p.types b of_block.ty of_block.size a row
    pub type : row.ty ≡ ty
    pub even : IsEven p.types row
    pub steps : (s : ℕ) → size p.types row.ty ≡ Some s → 0 < s → 0 < row.step
    pub lies : LieOn D p.types of_block.size row n
    -- what is no part of a member is pointed to along its block
    pub along : through_member a ≡ false → PointAt D p.types of_block.ty ty n
