-- What a pointer may be: null, or into one of some blocks, at an offset that a value of a domain holds
-- (this project's rules).
use Rattle.std.specs.Prelude.{◌≡◌, ℕ, ◌<◌, ◌≤◌, ℤ, pos, Bool, true, false, ◌&&◌, ◌||◌, not, nat_eq, nat_lt}
use Rattle.std.specs.Prelude.{if◌then◌else◌, IsTrue, List, [], ◌∷◌, Option, Some, None, IsSomeAnd, ◌↔◌}
use Rattle.std.specs.List.{list_all, filter}
use Rattle.ep_domain.specs.Domain.{Ops, Holds, IsSingle}

-- a block, and the offsets there
abbrev pub Target : Type 0 → Type 0
Target N = ℕ × N

-- whether it may be null, and the blocks into which it may point
pub record Pointers (N : Type 0) : Type 0 where
  pub null : Bool
  pub targets : List (Target N)

abbrev pub pointers : {N : Type 0} → Bool → List (Target N) → Pointers N
pointers b ts = record { null = b; targets = ts }

-- each block is above b
abbrev pub AreAbove : {N : Type 0} → ℕ → List (Target N) → Type 0
AreAbove b [] = Unit {0}
AreAbove b (t ∷ ts) = (b < t.0) × AreAbove b ts

-- the blocks strictly rise
abbrev pub IsRising : {N : Type 0} → List (Target N) → Type 0
IsRising [] = Unit {0}
IsRising (t ∷ ts) = AreAbove t.0 ts × IsRising ts

-- the offsets at a block, if it is one of the blocks
abbrev pub offset_at : {N : Type 0} → List (Target N) → ℕ → Option N
offset_at [] b = None
offset_at (t ∷ ts) b = if nat_eq t.0 b then Some t.1 else offset_at ts b

-- ---- what it means

-- a pointer of a running program: null, or an offset into a block (C11 6.3.2.3p3 and 6.5.6p8)
pub data Pointer : Type 0 where
  null_pointer : Pointer
  into : (block offset : ℕ) → Pointer

-- the pointer is one of those that it may be
abbrev pub HoldsPointer : {N : Type 0} → Ops N → Pointers N → Pointer → Type 0
HoldsPointer d p null_pointer = IsTrue p.null
HoldsPointer d p (into b o) = IsSomeAnd (offset_at p.targets b) (λ n. Holds d n (pos o))

-- the second may be all that the first may be
abbrev pub HoldsAllOf : {N : Type 0} → Ops N → Pointers N → Pointers N → Type 0
HoldsAllOf d p q = (x : Pointer) → HoldsPointer d p x → HoldsPointer d q x

-- ---- values that are made

-- null alone
abbrev pub null_alone : {N : Type 0} → Pointers N
null_alone = pointers true []

-- into one block
abbrev pub one_target : {N : Type 0} → ℕ → N → Pointers N
one_target b n = pointers false ((b, n) ∷ [])

-- ---- inclusion

-- the offsets at a block are within those that the other value has there
abbrev pub is_offset_within : {N : Type 0} → Ops N → N → Option N → Bool
is_offset_within d n None = false
is_offset_within d n (Some m) = d.within n m

abbrev pub are_within : {N : Type 0} → Ops N → List (Target N) → List (Target N) → Bool
are_within d ts us = list_all (λ t. is_offset_within d t.1 (offset_at us t.0)) ts

-- null is in the second where it is in the first, and so is each block, with its offsets
abbrev pub is_within : {N : Type 0} → Ops N → Pointers N → Pointers N → Bool
is_within d p q = (not p.null || q.null) && are_within d p.targets q.targets

-- ---- join and widening

-- the targets with one more: in its place, or, where its block is there, put together with the offsets of that block
abbrev pub with_target : {N : Type 0} → (N → N → N) → List (Target N) → Target N → List (Target N)
with_target f [] u = u ∷ []
with_target f (t ∷ ts) u =
    if nat_lt u.0 t.0 then u ∷ t ∷ ts
    else if nat_eq t.0 u.0 then (t.0, f t.1 u.1) ∷ ts
    else t ∷ with_target f ts u

abbrev pub together : {N : Type 0} → (N → N → N) → List (Target N) → List (Target N) → List (Target N)
together f ts [] = ts
together f ts (u ∷ us) = together f (with_target f ts u) us

-- null where either may be null, the blocks of either, and where both have a block, the join of the offsets
abbrev pub join_of : {N : Type 0} → Ops N → Pointers N → Pointers N → Pointers N
join_of d p q = pointers (p.null || q.null) (together d.join p.targets q.targets)

-- the same with the widening of the offsets
abbrev pub widening_of : {N : Type 0} → Ops N → Pointers N → Pointers N → Pointers N
widening_of d p q = pointers (p.null || q.null) (together d.widen p.targets q.targets)

-- the offsets at a block of two values put together
abbrev pub either : {N : Type 0} → (N → N → N) → Option N → Option N → Option N
either f None o = o
either f (Some n) None = Some n
either f (Some n) (Some m) = Some (f n m)

-- ---- a block that is gone

-- without the target of the block
abbrev pub without : {N : Type 0} → ℕ → Pointers N → Pointers N
without b p = pointers p.null (filter (λ t. not (nat_eq t.0 b)) p.targets)

abbrev pub IsInto : ℕ → Pointer → Type 0
IsInto b null_pointer = ⊥
IsInto b (into c o) = c ≡ b

-- the second holds what the first does, but no pointer into the block
abbrev pub LosesBlock : {N : Type 0} → Ops N → ℕ → Pointers N → Pointers N → Type 0
LosesBlock d b p r = (x : Pointer) → HoldsPointer d r x ↔ (HoldsPointer d p x × (IsInto b x → ⊥))

-- ---- what the operations promise

-- null, or a single offset into one block
pub data HasOneMember {N : Type 0} (d : Ops N) (p : Pointers N) : Type 0 where
  only_null : p ≡ null_alone → HasOneMember d p
  only_place : (b : ℕ) (n : N) (v : ℤ) → p ≡ one_target b n → IsSingle d n v → HasOneMember d p

-- the third may be all that the first and the second may be
pub record HoldsBoth {N : Type 0} (d : Ops N) (p q r : Pointers N) : Type 0 where
  pub left : HoldsAllOf d p r
  pub right : HoldsAllOf d q r

-- at each block the offsets of the one that has it, or those of both put together
abbrev pub HasOffsetsOf : {N : Type 0} → (N → N → N) → Pointers N → Pointers N → Pointers N → Type 0
HasOffsetsOf f p q r = (b : ℕ) → offset_at r.targets b ≡ either f (offset_at p.targets b) (offset_at q.targets b)

-- null or a block is new in the second, or the rank of the offsets at some block falls
pub data Grows {N : Type 0} (d : Ops N) (p r : Pointers N) : Type 0 where
  new_null : p.null ≡ false → r.null ≡ true → Grows d p r
  new_block : (b : ℕ) (n : N) → offset_at p.targets b ≡ None → offset_at r.targets b ≡ Some n → Grows d p r
  rank_falls : (b : ℕ) (n m : N) → offset_at p.targets b ≡ Some n → offset_at r.targets b ≡ Some m
      → d.rank m < d.rank n → Grows d p r

-- Widening p by q to r keeps null and each block, where no rank rises; and it grows where q is not within p.
pub record KeepsRanks {N : Type 0} (d : Ops N) (p q r : Pointers N) : Type 0 where
  pub null : IsTrue p.null → IsTrue r.null
  pub blocks : (b : ℕ) (n : N) → offset_at p.targets b ≡ Some n
      → IsSomeAnd (offset_at r.targets b) (λ m. d.rank m ≤ d.rank n)
  pub grows : is_within d q p ≡ false → Grows d p r

-- all offsets have the stride
abbrev pub HaveStride : {N : Type 0} → Ops N → Pointers N → (r s : ℕ) → Type 0
HaveStride {N = N} d p r s = (b : ℕ) (n : N) → offset_at p.targets b ≡ Some n → IsTrue (d.has_stride n r s)
