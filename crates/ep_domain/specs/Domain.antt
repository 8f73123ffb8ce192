-- What an abstract number is, and the laws that every numeric domain keeps: the usual conditions of abstract
-- interpretation (Cousot and Cousot 1977), and this project's own on ranges, single numbers, faults and strides.
use Rattle.std.specs.Prelude.{◌≡◌, ◌≢◌, ℕ, ◌+◌, ◌*◌, ◌%◌, ◌<◌, ◌≤◌, ℤ, pos, ◌-ℤ◌, ◌≤ℤ◌, ◌<ℤ◌, ◌⊎◌, Bool, true, false}
use Rattle.std.specs.Prelude.{IsTrue, Option, Some, None, IfSome, IsSomeAnd, MatchResult}
use Rattle.ep_int.specs.declared.types.IntType.{IntType}
use Rattle.ep_int.specs.declared.types.IntType.TheVariants.{I64}
use Rattle.ep_int.specs.declared.types.BinOp.{BinOp}
use Rattle.ep_int.specs.declared.types.BinOp.TheVariants.{Add, Sub, Mul}
use Rattle.ep_int.specs.declared.types.Cmp.{Cmp}
use Rattle.ep_int.specs.Types.{InRange, residue, wrapped}
use Rattle.ep_int.specs.Arith.{arith_of, compares, IsOfSomeType, IsRightOperand}
use Rattle.ep_domain.specs.declared.outcome.Outcome.{Outcome}
use Rattle.ep_range_laws.specs.Ranges.{IsRange, LiesIn, Encloses}
use Rattle.ep_range_laws.specs.Faults.{Takes, MayFault, range_fault_of}

-- The meaning and the operations of a domain. A value holds some of the numbers from -2^63 to 2^64 - 1.
pub record Ops (N : Type 0) : Type 0 where
  pub holds : N → ℤ → Bool
  pub top : IntType → N
  pub single : ℤ → N
  pub range : N → ℤ × ℤ
  pub within : N → N → Bool
  pub join : N → N → N
  pub widen : N → N → N
  pub meet : N → N → Option N
  pub op : BinOp → IntType → N → N → Outcome N
  pub convert : N → IntType → N
  pub filter : Cmp → N → N → Option (N × N)
  pub rank : N → ℕ
  pub height : ℕ
  pub edges : N → ℤ → ℤ → Option (ℤ × ℤ)
  pub cut : N → ℤ → ℤ → Option N
  -- that every number held is r modulo s, and whether the domain keeps such strides
  pub has_stride : N → ℕ → ℕ → Bool
  pub keeps_strides : Bool

-- a stands for z
abbrev pub Holds : {N : Type 0} → Ops N → N → ℤ → Type 0
Holds d a z = IsTrue (d.holds a z)

-- a has the range of z alone, which is then the one number that it holds
abbrev pub IsSingle : {N : Type 0} → Ops N → N → ℤ → Type 0
IsSingle d a z = d.range a ≡ (z, z)

-- The range that a fault shows is that of two ranges inside those of the operands, which have every number held that
-- arithmetic takes.
pub record ShowsPart {N : Type 0} (d : Ops N) (o : BinOp) (t : IntType) (a b : N) (shown : ℤ × ℤ) : Type 0 where
  pub left : ℤ × ℤ
  pub right : ℤ × ℤ
  pub left_inside : Encloses (d.range a) left
  pub right_inside : Encloses (d.range b) right
  pub left_has : (z : ℤ) → InRange t z → Holds d a z → LiesIn left z
  pub right_has : (z : ℤ) → IsRightOperand o t z → Holds d b z → LiesIn right z
  pub shows : range_fault_of o t left right ≡ Some shown

-- a remainder at a modulus, from 1 to 65536, that a domain may keep
pub record IsStride (r s : ℕ) : Type 0 where
  pub below : r < s
  pub small : s ≤ 65536

-- what a domain that keeps strides promises of them
pub record KeepsStrides {N : Type 0} (d : Ops N) : Type 0 where
  pub single : (v : ℤ) (s : ℕ) → IsOfSomeType v → 0 < s → s ≤ 65536 → IsTrue (d.has_stride (d.single v) (residue s v) s)
  pub join : (a b : N) (r s : ℕ) → IsStride r s → IsTrue (d.has_stride a r s) → IsTrue (d.has_stride b r s) →
      IsTrue (d.has_stride (d.join a b) r s)
  pub widen : (a b : N) (r s : ℕ) → IsStride r s → IsTrue (d.has_stride a r s) → IsTrue (d.has_stride b r s) →
      IsTrue (d.has_stride (d.widen a b) r s)
  pub cut : (a : N) (lo hi : ℤ) (r s : ℕ) → IsStride r s → IsTrue (d.has_stride a r s) →
      IfSome (d.cut a lo hi) (λ c. IsTrue (d.has_stride c r s))
  pub add : (a b : N) (r q s : ℕ) → IsStride r s → IsStride q s →
      IsTrue (d.has_stride a r s) → IsTrue (d.has_stride b q s) →
      IfSome (d.op Add I64 a b).value (λ c. IsTrue (d.has_stride c ((r + q) % s) s))
  pub sub : (a b : N) (r q s : ℕ) → IsStride r s → IsStride q s →
      IsTrue (d.has_stride a r s) → IsTrue (d.has_stride b q s) →
      IfSome (d.op Sub I64 a b).value (λ c. IsTrue (d.has_stride c (residue s (pos r -ℤ pos q)) s))
  -- the product by one number, at each modulus that divides it
  pub mul : (a b : N) (s k : ℕ) → IsStride 0 s → IsSingle d b (pos (s * k)) →
      IfSome (d.op Mul I64 a b).value (λ c. IsTrue (d.has_stride c 0 s))

pub record Lawful {N : Type 0} (d : Ops N) : Type 0 where
  -- every number of the type
  pub top_holds : (t : IntType) (z : ℤ) → InRange t z → Holds d (d.top t) z
  -- that number alone
  pub single_holds : (v : ℤ) → IsOfSomeType v → Holds d (d.single v) v
  pub single_only : (v z : ℤ) → IsOfSomeType v → Holds d (d.single v) z → z ≡ v
  pub single_range : (v : ℤ) → IsOfSomeType v → IsSingle d (d.single v) v
  -- The range encloses the numbers held; of equal ends, that number is held.
  pub range_ends : (a : N) → IsRange (d.range a).0 (d.range a).1
  pub range_encloses : (a : N) (z : ℤ) → Holds d a z → LiesIn (d.range a) z
  pub range_single : (a : N) (v : ℤ) → IsSingle d a v → Holds d a v
  -- inclusion, of the ranges too
  pub within_holds : (a b : N) (z : ℤ) → IsTrue (d.within a b) → Holds d a z → Holds d b z
  pub within_range : (a b : N) → IsTrue (d.within a b) → Encloses (d.range b) (d.range a)
  -- the numbers of both
  pub join_left : (a b : N) (z : ℤ) → Holds d a z → Holds d (d.join a b) z
  pub join_right : (a b : N) (z : ℤ) → Holds d b z → Holds d (d.join a b) z
  -- The numbers of both, and their ranges. The rank falls where the first value changes, and where the second is not
  -- within it.
  pub widen_left : (a b : N) (z : ℤ) → Holds d a z → Holds d (d.widen a b) z
  pub widen_right : (a b : N) (z : ℤ) → Holds d b z → Holds d (d.widen a b) z
  pub widen_range_left : (a b : N) → Encloses (d.range (d.widen a b)) (d.range a)
  pub widen_range_right : (a b : N) → Encloses (d.range (d.widen a b)) (d.range b)
  pub widen_changes : (a b : N) → d.height < 4294967295 → d.widen a b ≢ a → d.rank (d.widen a b) < d.rank a
  pub widen_falls : (a b : N) → d.height < 4294967295 → d.within b a ≡ false → d.rank (d.widen a b) < d.rank a
  pub rank_bound : (a : N) → d.rank a ≤ d.height
  -- the numbers that both hold
  pub meet_holds : (a b : N) (z : ℤ) → Holds d a z → Holds d b z → IsSomeAnd (d.meet a b) (λ c. Holds d c z)
  -- Each result of arithmetic is held, and where it has none there is a fault. A fault comes only where the ranges hold
  -- such a pair. Of two single numbers there is one single result, or a fault and no result.
  pub op_holds : (o : BinOp) (t : IntType) (a b : N) (x y : ℤ) → Takes o t x y → Holds d a x → Holds d b y →
      MatchResult (arith_of o t x y) (λ v. IsSomeAnd (d.op o t a b).value (λ c. Holds d c v))
      (λ _. IsTrue (d.op o t a b).fault)
  pub op_faults : (o : BinOp) (t : IntType) (a b : N) → IsTrue (d.op o t a b).fault →
      MayFault o t (d.range a) (d.range b)
  pub op_shows : (o : BinOp) (t : IntType) (a b : N) → IsTrue (d.op o t a b).fault →
      ShowsPart d o t a b (d.op o t a b).shown
  pub op_single : (o : BinOp) (t : IntType) (a b : N) (x y : ℤ) → Takes o t x y → IsSingle d a x → IsSingle d b y →
      MatchResult (arith_of o t x y) (λ v. IsSomeAnd (d.op o t a b).value (λ c. IsSingle d c v))
      (λ _. (d.op o t a b).value ≡ None)
  -- each number after conversion to the type: of a single number a single one
  pub convert_holds : (a : N) (t : IntType) (z : ℤ) → Holds d a z → Holds d (d.convert a t) (wrapped t z)
  pub convert_single : (a : N) (t : IntType) (v : ℤ) → IsSingle d a v → IsSingle d (d.convert a t) (wrapped t v)
  -- each pair that compares so
  pub filter_holds : (c : Cmp) (a b : N) (x y : ℤ) → compares c x y ≡ true → Holds d a x → Holds d b y →
      IsSomeAnd (d.filter c a b) (λ p. Holds d p.0 x × Holds d p.1 y)
  pub filter_single : (c : Cmp) (a b : N) (x y : ℤ) → compares c x y ≡ false → IsSingle d a x → IsSingle d b y →
      d.filter c a b ≡ None
  -- a range from lo to hi that encloses each number held there
  pub edges_inside : (a : N) (lo hi : ℤ) → IfSome (d.edges a lo hi) (λ e. (e.0 ≤ℤ e.1) × Encloses (lo, hi) e)
  pub edges_enclose : (a : N) (lo hi z : ℤ) → Holds d a z → LiesIn (lo, hi) z →
      IsSomeAnd (d.edges a lo hi) (λ e. LiesIn e z)
  -- The numbers held from lo to hi: of one place, and of a single number, a single one.
  pub cut_holds : (a : N) (lo hi z : ℤ) → Holds d a z → LiesIn (lo, hi) z → IsSomeAnd (d.cut a lo hi) (λ c. Holds d c z)
  pub cut_place : (a : N) (v : ℤ) → IfSome (d.cut a v v) (λ c. IsSingle d c v)
  pub cut_single : (a : N) (lo hi v : ℤ) → IsSingle d a v → LiesIn (lo, hi) v →
      IsSomeAnd (d.cut a lo hi) (λ c. IsSingle d c v)
  pub cut_single_away : (a : N) (lo hi v : ℤ) → IsSingle d a v → (v <ℤ lo) ⊎ (hi <ℤ v) → d.cut a lo hi ≡ None
  -- a stride is one of each number held, and has those of its divisors
  pub stride_holds : (a : N) (r s : ℕ) (z : ℤ) → IsStride r s → IsTrue (d.has_stride a r s) → Holds d a z →
      residue s z ≡ r
  pub stride_divides : (a : N) (r s k : ℕ) → IsStride r (s * k) → IsTrue (d.has_stride a r (s * k)) →
      IsTrue (d.has_stride a (r % s) s)
  pub strides : d.keeps_strides ≡ true → KeepsStrides d
