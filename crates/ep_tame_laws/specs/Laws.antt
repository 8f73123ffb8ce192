-- Each place of a tame program is on a row of objects of its type, and an address is of objects that go along an array.
use Rattle.std.specs.Prelude.{◌≡◌, ℕ, ◌+◌, ◌-◌, ◌*◌, ◌<◌, true, false, List, Some, slice_get, IsTrue}
use Rattle.ep_layout.specs.Table.{Table, IsBuilt, size, elements_of}
use Rattle.ep_core.specs.Program.{Place, block, deref, member, element, Block}
use Rattle.ep_core.specs.WellFormed.{pointer_to, place_has, has_sort, block_type}
use Rattle.ep_kinds.specs.Tame.{are_tame_types, through_member}
use Rattle.ep_kinds.specs.Rows.{IsInChain, Row, IsRow, AreLaid}

-- objects of this type go along one of type `whole`, each right behind the one before, and so many beside the first
pub record GoesAlong (t : Table) (whole ty most : ℕ) : Type 0 where
  pub step : ℕ
  pub sized : size t ty ≡ Some step
  pub chain : IsInChain t whole ty step most

-- The place begins from the block b, which is of type `whole`, or from a pointer along it.
module _ (t : Table) (bs : List Block) (seen : List ℕ) (b whole : ℕ) where
  abbrev pub BeginsIn : Place → Type 0
  BeginsIn (block c) = (c ≡ b) × (block_type (slice_get bs b) ≡ Some whole)
  BeginsIn (deref e) =
      (ty : ℕ) → has_sort t bs seen e (pointer_to ty) ≡ true → (most : ℕ) × GoesAlong t whole ty most
  BeginsIn (member a q) = BeginsIn a
  BeginsIn (element a n u i) = BeginsIn a

-- a row of objects of this type, on which the place is
pub record HasRow (t : Table) (b whole bytes : ℕ) (a : Place) (ty : ℕ) : Type 0 where
  pub row : Row
  pub is_row : IsRow t b whole bytes a row
  pub type : row.ty ≡ ty

abbrev pub PlacesHaveRows : Type 0
PlacesHaveRows =
    (t : Table) → IsBuilt t → IsTrue (are_tame_types t) → (bs : List Block) (seen : List ℕ) (b whole bytes : ℕ)
    (a : Place) (ty : ℕ) → IsTrue (place_has t bs seen a ty) → BeginsIn t bs seen b whole a
    → HasRow t b whole bytes a ty

abbrev pub RowsAreLaid : Type 0
RowsAreLaid =
    (t : Table) (b whole bytes : ℕ) (a : Place) (r : Row) → IsRow t b whole bytes a r → AreLaid t whole r

-- The place is on no row of members, so its address goes along its block; that of an array too as one of its elements.
abbrev pub AddressesGoAlong : Type 0
AddressesGoAlong =
    (t : Table) → IsBuilt t → (b whole bytes : ℕ) (a : Place) (r : Row) → IsRow t b whole bytes a r
    → through_member a ≡ false → (z : ℕ) → size t r.ty ≡ Some z
    → (r.first ≡ 0) × IsInChain t whole r.ty z r.most
    × ((e n : ℕ) → elements_of t r.ty ≡ Some (e, n) → 0 < n → GoesAlong t whole e (n * r.most + (n - 1)))
