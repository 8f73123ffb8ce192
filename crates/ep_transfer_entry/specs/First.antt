-- The first values of a program by their places, and the cells that have them (C11 6.7.9p10, p19: of two of one place
-- the later counts; cells are this project's rule).
use Rattle.std.specs.Prelude.{ℕ, ℤ, false, List, map, Some, None}
use Rattle.std.specs.declared.cmp.Ordering.{Ordering}
use Rattle.std.specs.Ordering.{nat_cmp, ordering_then}
use Rattle.std.specs.BTreeMap.{BTreeMap, IsFromIterResult}
use Rattle.ep_int.specs.declared.types.Scalar.{Scalar}
use Rattle.ep_int.specs.declared.types.Scalar.TheVariants.{Int, Pointer}
use Rattle.ep_int.specs.Types.{InRange}
use Rattle.ep_bitslice.specs.declared.cell.Side.TheVariants.{Shared}
use Rattle.ep_domain.specs.Domain.{Ops}
use Rattle.ep_pointers.specs.Value.{null_alone}
use Rattle.ep_cells.specs.declared.cell.Cell.{Cell}
use Rattle.ep_cells.specs.declared.cell.Value.TheVariants.{Num, Ptr}
use Rattle.ep_core.specs.declared.program.InitByte.{InitByte}
use Rattle.ep_evaluation.specs.Operators.{constant_form}

-- by the block, and then by the offset
abbrev pub place_cmp : ℕ × ℕ → ℕ × ℕ → Ordering
place_cmp x y = ordering_then (nat_cmp x.0 y.0) (nat_cmp x.1 y.1)

abbrev pub placed : InitByte → (ℕ × ℕ) × ℤ
placed i = ((i.block, i.offset), i.value)

-- the map has for each place the last first value that stands there
abbrev pub HasFirst : List InitByte → BTreeMap (ℕ × ℕ) ℤ → Type 0
HasFirst is m = IsFromIterResult place_cmp (map placed is) m

-- a number of the type, where it is one of numbers
abbrev pub IsOfType : Scalar → ℤ → Type 0
IsOfType (Int t) v = InRange t v
IsOfType Pointer v = Unit {0}

-- the cell of both memories that has this number, or null
abbrev pub cell_with : {N : Type 0} → Ops N → ℤ → (block offset : ℕ) → Scalar → Cell N
cell_with D v b q (Int t) = record {
  side = Shared;
  block = b;
  offset = q;
  what = Int t;
  value = Some (Num (D.single v));
  maybe = false;
  form = constant_form t v;
}
cell_with D v b q Pointer = record {
  side = Shared;
  block = b;
  offset = q;
  what = Pointer;
  value = Some (Ptr null_alone);
  maybe = false;
  form = None;
}
