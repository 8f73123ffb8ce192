-- Sizes, alignments and leaves: what C11 6.2.6.1, 6.2.8 and 6.7.2.1p14 to p18 leave to the machine, by this project's
-- rules.
use Rattle.std.specs.Prelude.{◌≡◌, ℕ, zero, suc, ◌+◌, ◌*◌, ◌%◌, ◌≤◌, max, List, [], ◌∷◌, ◌++◌, map}
use Rattle.std.specs.Int.{next_multiple_of}
use Rattle.ep_int.specs.declared.types.Model.{Model}
use Rattle.ep_int.specs.declared.types.Scalar.{Scalar}
use Rattle.ep_int.specs.Types.{size_of}
use Rattle.ep_layout.specs.declared.types.Leaf.{Leaf}

-- What an object of a type takes: its bytes, the number that its address is a multiple of, and its leaves, which are
-- its scalars in order of offset.
pub record Layout : Type 0 where
  pub size : ℕ
  pub align : ℕ
  pub leaves : List Leaf

-- leaves of something that begins so many bytes further on
abbrev pub shifted : ℕ → List Leaf → List Leaf
shifted k leaves = map (λ (f : Leaf). record f { offset = k + f.offset }) leaves

-- A scalar is aligned to its size.
abbrev pub scalar_layout : Model → Scalar → Layout
scalar_layout m what = record {
  size = size_of m what;
  align = size_of m what;
  leaves = record { offset = 0; what = what } ∷ [];
}

-- the leaves of so many elements, one after another, each of so many bytes
abbrev pub repeated : ℕ → ℕ → List Leaf → List Leaf
repeated zero step leaves = []
repeated (suc n) step leaves = leaves ++ shifted step (repeated n step leaves)

-- an array of n elements
abbrev pub array_layout : ℕ → Layout → Layout
array_layout n element = record {
  size = n * element.size;
  align = element.align;
  leaves = repeated n element.size element.leaves;
}

-- the greatest alignment of the members; 1 without members
abbrev pub greatest_align : List Layout → ℕ
greatest_align [] = 1
greatest_align (l ∷ more) = max l.align (greatest_align more)

-- Members of a struct lie in order, each at the next multiple of its alignment: where the last one ends, when those
-- before these end at e.
abbrev pub end_of : ℕ → List Layout → ℕ
end_of e [] = e
end_of e (l ∷ more) = end_of (next_multiple_of e l.align + l.size) more

-- the leaves of these members of a struct, when those before end at e
abbrev pub leaves_after : ℕ → List Layout → List Leaf
leaves_after e [] = []
leaves_after e (l ∷ more) =
    shifted (next_multiple_of e l.align) l.leaves ++ leaves_after (next_multiple_of e l.align + l.size) more

-- A struct: its size is rounded up to the greatest alignment.
abbrev pub struct_layout : List Layout → Layout
struct_layout members = record {
  size = next_multiple_of (end_of 0 members) (greatest_align members);
  align = greatest_align members;
  leaves = leaves_after 0 members;
}

-- the greatest size of the members
abbrev pub greatest_size : List Layout → ℕ
greatest_size [] = 0
greatest_size (l ∷ more) = max l.size (greatest_size more)

abbrev pub first_leaves : List Layout → List Leaf
first_leaves [] = []
first_leaves (l ∷ more) = l.leaves

-- A union: its members lie at 0, its size is that of the greatest, rounded up, and its leaves are those of its first
-- member.
abbrev pub union_layout : List Layout → Layout
union_layout members = record {
  size = next_multiple_of (greatest_size members) (greatest_align members);
  align = greatest_align members;
  leaves = first_leaves members;
}

-- the most bytes that a type may have
abbrev pub most_bytes : ℕ
most_bytes = 65536

-- Leaves as a block has them: each lies behind the one before, at a multiple of its size, and ends inside the block.
-- Those before end at e.
abbrev pub AreLeavesFrom : Model → ℕ → ℕ → List Leaf → Type 0
AreLeavesFrom m e size [] = e ≤ size
AreLeavesFrom m e size (f ∷ more) =
    (e ≤ f.offset) × (f.offset % size_of m f.what ≡ 0) × AreLeavesFrom m (f.offset + size_of m f.what) size more
