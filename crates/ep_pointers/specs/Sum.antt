-- A pointer and a number: the sum in units of what is pointed to. C11 6.5.6p8; the values are this project's rules.
use Rattle.std.specs.Prelude.{◌≡◌, ℕ, ◌*◌, ◌^◌, ◌<◌, ◌≤◌, ℤ, pos, ◌+ℤ◌, ◌-ℤ◌, ◌*ℤ◌, ◌<ℤ◌, Bool, true, false, ◌||◌}
use Rattle.std.specs.Prelude.{if◌then◌else◌, ◌⊎◌, List, [], ◌∷◌, Option, Some, None, int_lt, slice_get, fold, IfSome}
use Rattle.std.specs.Prelude.{IsSomeAnd, IsTrue, ◌↔◌}
use Rattle.std.specs.List.{list_any}
use Rattle.std.specs.Int.{int_min, int_max}
use Rattle.ep_int.specs.declared.types.IntType.TheVariants.{I64}
use Rattle.ep_int.specs.declared.types.BinOp.{BinOp}
use Rattle.ep_int.specs.declared.types.BinOp.TheVariants.{Add, Sub, Mul}
use Rattle.ep_domain.specs.Domain.{Ops, Holds, IsSingle, IsStride}
use Rattle.ep_int.specs.Types.{InRange}
use Rattle.ep_range_laws.specs.Ranges.{LiesIn}
use Rattle.ep_pointers.specs.declared.sum.Move.{Move}
use Rattle.ep_pointers.specs.Value.{Target, Pointers, pointers, offset_at, HoldsPointer, into, null_alone, one_target}
use Rattle.ep_pointers.specs.Value.{HaveStride}

abbrev pub move : {N : Type 0} → N → ℕ → Bool → Move N
move delta unit subtract = record { delta = delta; unit = unit; subtract = subtract }

-- the exact result of a number y of units at an offset x
abbrev pub exact_at : Bool → ℕ → ℤ → ℤ → ℤ
exact_at subtract unit x y = if subtract then x -ℤ (y *ℤ pos unit) else x +ℤ (y *ℤ pos unit)

-- the exact results of the ends of two ranges, the least and the greatest
abbrev pub exact_ends : Bool → ℕ → ℤ × ℤ → ℤ × ℤ → ℤ × ℤ
exact_ends subtract unit r s =
    if subtract then (exact_at true unit r.0 s.1, exact_at true unit r.1 s.0)
    else (exact_at false unit r.0 s.0, exact_at false unit r.1 s.1)

-- it lies outside a block of the size; the end itself may be pointed to. In what is no block no result lies.
abbrev pub IsOutside : Option ℕ → ℤ → Type 0
IsOutside None v = Unit {0}
IsOutside (Some size) v = (v <ℤ pos 0) ⊎ (pos size <ℤ v)

-- one place, the number v of bytes into the block, inside of it
pub record IsPlaceAt {N : Type 0} (d : Ops N) (sizes : List ℕ) (b : ℕ) (v : ℤ) (q : Pointers N) : Type 0 where
  pub n : N
  pub place : q ≡ one_target b n
  pub single : IsSingle d n v
  pub size : ℕ
  pub of_block : slice_get sizes b ≡ Some size
  pub inside : LiesIn (pos 0, pos size) v

abbrev pub sum_op : Bool → BinOp
sum_op subtract = if subtract then Sub else Add

-- a target, where there are offsets, with these
abbrev pub put : {N : Type 0} → ℕ → Option N → List (Target N) → List (Target N)
put b None ts = ts
put b (Some n) ts = (b, n) ∷ ts

abbrev pub of_targets : {N : Type 0} → List (Target N) → Option (Pointers N)
of_targets [] = None
of_targets (t ∷ ts) = Some (pointers false (t ∷ ts))

-- some result of a range is outside a block of the size
abbrev pub leaves : Option ℕ → ℤ × ℤ → Bool
leaves None e = true
leaves (Some size) e = int_lt e.0 (pos 0) || int_lt (pos size) e.1

abbrev pub hull : ℤ × ℤ → ℤ × ℤ → ℤ × ℤ
hull r s = (int_min r.0 s.0, int_max r.1 s.1)

module _ {N : Type 0} (d : Ops N) where
  -- ---- the offsets

  -- what is left of offsets from 0 to the size of their block
  abbrev pub cut_to : Option ℕ → Option N → Option N
  cut_to None o = None
  cut_to (Some size) None = None
  cut_to (Some size) (Some n) = d.cut n (pos 0) (pos size)

  -- offsets and the bytes that are added or subtracted
  abbrev pub offsets_and : Bool → N → Option N → Option N
  offsets_and subtract n None = None
  offsets_and subtract n (Some bytes) = (d.op (sum_op subtract) I64 n bytes).value

  -- the number of units in bytes
  abbrev pub bytes_of : N → ℕ → Option N
  bytes_of delta unit = (d.op Mul I64 delta (d.single (pos unit))).value

  abbrev pub moved_offset : Move N → Option ℕ → N → Option N
  moved_offset m size n = cut_to size (offsets_and m.subtract n (bytes_of m.delta m.unit))

  -- the targets in whose block some result stays, with these
  abbrev pub moved_targets : Move N → List ℕ → List (Target N) → List (Target N)
  moved_targets m sizes [] = []
  moved_targets m sizes (t ∷ ts) = put t.0 (moved_offset m (slice_get sizes t.0) t.1) (moved_targets m sizes ts)

  -- the value after the sum, where some result is defined: never null
  abbrev pub moved : Move N → List ℕ → Pointers N → Option (Pointers N)
  moved m sizes p = of_targets (moved_targets m sizes p.targets)

  -- ---- what may be outside

  -- the exact results of the ranges of the offsets and of the number of units
  abbrev pub exact_range : Move N → N → ℤ × ℤ
  exact_range m n = exact_ends m.subtract m.unit (d.range n) (d.range m.delta)

  -- of some target the ranges allow a result outside its block
  abbrev pub may_leave : Move N → List ℕ → List (Target N) → Bool
  may_leave m sizes ts = list_any (λ t. leaves (slice_get sizes t.0) (exact_range m t.1)) ts

  abbrev pub is_out : Move N → List ℕ → Pointers N → Bool
  is_out m sizes p = may_leave m sizes p.targets

  -- the least range that has the exact results of all targets
  abbrev pub shown_of : Move N → List (Target N) → ℤ × ℤ
  shown_of m [] = (pos 0, pos 0)
  shown_of m (t ∷ ts) = fold (λ e u. hull e (exact_range m u.1)) (exact_range m t.1) ts

  -- ---- what that means

  -- a result that the ranges of the offsets at a block and of the number of units allow
  pub record IsResult (m : Move N) (ts : List (Target N)) (b : ℕ) (v : ℤ) : Type 0 where
    pub offsets : N
    pub x : ℤ
    pub y : ℤ
    pub there : offset_at ts b ≡ Some offsets
    pub left : LiesIn (d.range offsets) x
    pub right : LiesIn (d.range m.delta) y
    pub result : v ≡ exact_at m.subtract m.unit x y

  -- some result is outside its block
  pub record MayLeave (m : Move N) (sizes : List ℕ) (ts : List (Target N)) : Type 0 where
    pub block : ℕ
    pub v : ℤ
    pub result : IsResult m ts block v
    pub outside : IsOutside (slice_get sizes block) v

  -- the least range that has all results
  pub record ShowsResults (m : Move N) (ts : List (Target N)) (e : ℤ × ℤ) : Type 0 where
    pub each : (b : ℕ) (v : ℤ) → IsResult m ts b v → LiesIn e v
    pub low : (b : ℕ) × IsResult m ts b e.0
    pub high : (b : ℕ) × IsResult m ts b e.1

  -- the flag says whether some result is outside its block
  abbrev pub SaysLeaves : Move N → List ℕ → Pointers N → Bool → Type 0
  SaysLeaves m sizes p out = IsTrue out ↔ MayLeave m sizes p.targets

  -- where the flag is set, this is the least range that has all results
  abbrev pub ShowsLeast : Move N → Pointers N → Bool → ℤ × ℤ → Type 0
  ShowsLeast m p out shown = IsTrue out → ShowsResults m p.targets shown

  -- Each sum, of an offset from 0 to 2^32 - 1 as every pointer has, that stays inside its block.
  abbrev pub HoldsSums : Move N → List ℕ → Pointers N → Option (Pointers N) → Type 0
  HoldsSums m sizes p r = (b o size w : ℕ) (y : ℤ) → o < 2 ^ 32 → HoldsPointer d p (into b o) → Holds d m.delta y
      → exact_at m.subtract m.unit (pos o) y ≡ pos w → slice_get sizes b ≡ Some size → w ≤ size
      → IsSomeAnd r (λ q. HoldsPointer d q (into b w))

  -- Of one place and a single number of units there comes the one sum, in the place's block, or none; of null alone
  -- none. Both numbers are of the type of the sum.
  pub record MovesOne (m : Move N) (sizes : List ℕ) (p : Pointers N) (r : Option (Pointers N)) : Type 0 where
    pub of_null : p ≡ null_alone → r ≡ None
    pub of_place : (b : ℕ) (n : N) (v y : ℤ) → p ≡ one_target b n → IsSingle d n v → IsSingle d m.delta y
        → InRange I64 v → InRange I64 y
        → IfSome r (λ q. IsPlaceAt d sizes b (exact_at m.subtract m.unit v y) q)

  -- Offsets keep a stride that divides the unit, in a domain that keeps strides.
  abbrev pub KeepsStride : Move N → Pointers N → Option (Pointers N) → Type 0
  KeepsStride m p r = (q s k : ℕ) → d.keeps_strides ≡ true → IsStride q s → m.unit ≡ s * k → HaveStride d p q s
      → IfSome r (λ v. HaveStride d v q s)
