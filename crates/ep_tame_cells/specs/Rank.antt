-- The rank of a state, a number that falls where the state grows by a widening (this project's rule).
use Rattle.std.specs.Prelude.{◌≡◌, ℕ, zero, suc, ◌+◌, ◌*◌, ◌<◌, Bool, true, false, List, [], ◌∷◌, Option, Some, None}
use Rattle.ep_domain.specs.Domain.{Ops}
use Rattle.ep_pointers.specs.Value.{Target, Pointers, offset_at}
use Rattle.ep_bitslice.specs.declared.segment.Segment.{Segment}
use Rattle.ep_cells.specs.declared.cell.Cell.{Cell}
use Rattle.ep_cells.specs.declared.cell.Value.{Value}
use Rattle.ep_cells.specs.declared.cell.Value.TheVariants.{Num, Ptr}
use Rattle.ep_cells.specs.States.{Each}

-- 1 where it doesn't hold
abbrev pub rank_unless : Bool → ℕ
rank_unless true = 0
rank_unless false = 1

abbrev pub form_rank : Option (List Segment) → ℕ
form_rank None = 0
form_rank (Some ss) = 1

-- among so many blocks
module _ {N : Type 0} (D : Ops N) (blocks : ℕ) where
  -- of the offsets at a block: one more than the greatest where it is no target
  abbrev pub offsets_rank : Option N → ℕ
  offsets_rank None = D.height + 1
  offsets_rank (Some n) = D.rank n

  abbrev pub targets_rank : List (Target N) → (below : ℕ) → ℕ
  targets_rank ts zero = 0
  targets_rank ts (suc b) = targets_rank ts b + offsets_rank (offset_at ts b)

  abbrev pub pointer_rank : Pointers N → ℕ
  pointer_rank p = rank_unless p.null + targets_rank p.targets blocks

  -- no value: one more than the greatest of a pointer
  abbrev pub value_rank : Option (Value N) → ℕ
  value_rank None = 2 + blocks * (D.height + 1)
  value_rank (Some (Num n)) = D.rank n
  value_rank (Some (Ptr p)) = pointer_rank p

  abbrev pub cell_rank : Cell N → ℕ
  cell_rank c = rank_unless c.maybe + form_rank c.form + value_rank c.value

  abbrev pub rank : List (Cell N) → ℕ
  rank [] = 0
  rank (c ∷ cs) = cell_rank c + rank cs

-- a value's targets are among the first so many blocks
abbrev pub HasTargetsBelow : {N : Type 0} → (blocks : ℕ) → Option (Value N) → Type 0
HasTargetsBelow B None = Unit {0}
HasTargetsBelow B (Some (Num n)) = Unit {0}
HasTargetsBelow {N = N} B (Some (Ptr p)) = (b : ℕ) (n : N) → offset_at p.targets b ≡ Some n → b < B

abbrev pub HaveTargetsBelow : {N : Type 0} → (blocks : ℕ) → List (Cell N) → Type 0
HaveTargetsBelow {N = N} B cs = Each (λ (c : Cell N). HasTargetsBelow B c.value) cs
