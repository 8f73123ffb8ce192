-- Which results are the least intervals.
use Rattle.std.specs.Prelude.{◌≡◌, ℤ, ◌*ℤ◌, ◌↔◌, Option, Ok, IsTrue, MatchOption}
use Rattle.ep_int.specs.declared.types.IntType.{IntType}
use Rattle.ep_int.specs.declared.types.BinOp.{BinOp}
use Rattle.ep_int.specs.declared.types.BinOp.TheVariants.{Add, Sub, Mul}
use Rattle.ep_int.specs.Types.{InRange, wrapped}
use Rattle.ep_int.specs.Arith.{arith_of}
use Rattle.ep_range_laws.specs.Faults.{Takes}
use Rattle.ep_interval_laws.specs.Interval.{Interval, HasNumber, is_within}

-- The interval has each of these numbers, and lies within every interval that has each of them.
pub record IsLeast (P : ℤ → Type 0) (c : Interval) : Type 0 where
  pub each : (v : ℤ) → P v → HasNumber c v
  pub least : (d : Interval) → ((v : ℤ) → P v → HasNumber d v) → IsTrue (is_within c d)

-- the least interval of these numbers, or none where there is none of them
abbrev pub IsLeastOf : (ℤ → Type 0) → Option Interval → Type 0
IsLeastOf P o = MatchOption o ((v : ℤ) → P v → ⊥) (IsLeast P)

-- a result of arithmetic of two numbers of the intervals
pub record IsResult (o : BinOp) (t : IntType) (a b : Interval) (v : ℤ) : Type 0 where
  pub x : ℤ
  pub y : ℤ
  pub left : HasNumber a x
  pub right : HasNumber b y
  pub taken : Takes o t x y
  pub result : arith_of o t x y ≡ Ok v

-- what a number of the interval is converted to
pub record IsConverted (t : IntType) (a : Interval) (v : ℤ) : Type 0 where
  pub number : ℤ
  pub held : HasNumber a number
  pub converted : v ≡ wrapped t number

-- The results of sums and differences are least intervals, and those of products where no product leaves the range.
abbrev pub HasLeast : BinOp → IntType → Interval → Interval → Type 0
HasLeast Add t a b = Unit {0}
HasLeast Sub t a b = Unit {0}
HasLeast Mul t a b = (x y : ℤ) → HasNumber a x → HasNumber b y → Takes Mul t x y → InRange t (x *ℤ y)
HasLeast o t a b = ⊥

-- the interval of the numbers that both have, or none where there is none
abbrev pub IsCommon : Interval → Interval → Option Interval → Type 0
IsCommon a b o = MatchOption o ((z : ℤ) → HasNumber a z → HasNumber b z → ⊥)
    (λ c. (z : ℤ) → HasNumber c z ↔ (HasNumber a z × HasNumber b z))
