-- Where places and pointers of tame programs lie, by the parts of their texts.
use Rattle.std.specs.Prelude.{◌≡◌, ℕ, ◌+◌, ◌≤◌, ◌<◌, pos, Bool, true, false, List, Option, Some, slice_get, IfSome}
use Rattle.ep_layout.specs.Table.{size, elements_of}
use Rattle.ep_core.specs.Program.{Place, block, deref, member, element, Expr, Program}
use Rattle.ep_core.specs.WellFormed.{is_named, block_has}
use Rattle.ep_domain.specs.Domain.{Ops, Holds}
use Rattle.ep_pointers.specs.Sum.{move, moved_offset}
use Rattle.ep_kinds.specs.Tame.{is_size_of_holder, through_member}
use Rattle.ep_kinds.specs.Rows.{IsMember, HasScalar}
use Rattle.ep_tame_values.specs.Laws.{IsIndex}
use Rattle.ep_tame_places.specs.Places.{PointsTo, LiesAt}

-- with these blocks to be named
pub record PlaceLaws {N : Type 0} (D : Ops N) (p : Program) : Type 0 where
  -- places
  pub of_block : (live : List ℕ) (b ty : ℕ) → is_named p.types p.blocks live b ≡ true
      → block_has p.types p.blocks live (slice_get p.blocks b) ty ≡ true
      → LiesAt D p live (block b) ty b (D.single (pos 0))
  pub of_target : (live : List ℕ) (e : Expr) (ty b : ℕ) (n : N) → PointsTo D p live ty b n
      → LiesAt D p live (deref e) ty b n
  pub of_member : (live : List ℕ) (a : Place) (v q ty b : ℕ) (n : N) (limit : Option ℕ) → q ≤ 4294967295
      → IsMember p.types v q ty → LiesAt D p live a v b n
      → IfSome (moved_offset D (move (D.single (pos q)) 1 false) limit n) (LiesAt D p live (member a q) ty b)
  pub of_element : (live : List ℕ) (a : Place) (v ty bound u b : ℕ) (index : Expr) (i n : N) (limit : Option ℕ)
      → elements_of p.types v ≡ Some (ty, bound) → size p.types ty ≡ Some u → 0 < bound → 0 < u → u ≤ 65536
      → IsIndex D bound i → LiesAt D p live a v b n
      → IfSome (moved_offset D (move i u false) limit n) (LiesAt D p live (element a bound u index) ty b)
  -- At a place of the address that ends in its block stands an object of its type.
  pub stands : (live : List ℕ) (a : Place) (ty b s q : ℕ) (n : N) (l : LiesAt D p live a ty b n)
      → size p.types ty ≡ Some s → 0 < s → Holds D n (pos q) → q + s ≤ l.of_block.size
      → HasScalar p.types l.of_block.ty q ty
  -- pointers: addresses, of arrays as their elements too, sums, joins
  pub of_address : (live : List ℕ) (a : Place) (ty b : ℕ) (n : N) → through_member a ≡ false
      → LiesAt D p live a ty b n → PointsTo D p live ty b n
  pub of_array : (live : List ℕ) (v ty k b : ℕ) (n : N) → elements_of p.types v ≡ Some (ty, k)
      → PointsTo D p live v b n → PointsTo D p live ty b n
  pub moved : (live : List ℕ) (ty u b : ℕ) (delta n : N) (back : Bool) (limit : Option ℕ) → size p.types ty ≡ Some u
      → 0 < u → is_size_of_holder p.types u ≡ false → PointsTo D p live ty b n
      → IfSome (moved_offset D (move delta u back) limit n) (PointsTo D p live ty b)
  pub joined : (live : List ℕ) (ty b : ℕ) (n m : N) → PointsTo D p live ty b n → PointsTo D p live ty b m
      → PointsTo D p live ty b (D.join n m)
  pub widened : (live : List ℕ) (ty b : ℕ) (n m : N) → PointsTo D p live ty b n → PointsTo D p live ty b m
      → PointsTo D p live ty b (D.widen n m)
