-- What is exact: edges and meets, and which operations know all that there is to know of bits.
use Rattle.std.specs.Prelude.{◌≡◌, ℕ, ◌<◌, ◌↔◌, ℤ, ◌≤ℤ◌, Bool, true, false, Option, Some, Ok, MatchOption, IsTrue}
use Rattle.ep_int.specs.declared.types.IntType.{IntType}
use Rattle.ep_int.specs.declared.types.BinOp.{BinOp}
use Rattle.ep_int.specs.declared.types.BinOp.TheVariants.{And, Or, Xor, Shl, Shr}
use Rattle.ep_int.specs.Types.{is_signed, wrapped}
use Rattle.ep_int.specs.Arith.{arith_of, compares}
use Rattle.ep_int.specs.declared.types.Cmp.{Cmp}
use Rattle.ep_range_laws.specs.Ranges.{LiesIn}
use Rattle.ep_range_laws.specs.Faults.{Takes}
use Rattle.ep_bit_laws.specs.Bits.{bit_of}
use Rattle.ep_bit_laws.specs.Patterns.{known_bit}
use Rattle.ep_bit_domain.specs.KnownBits.{KnownBits, pattern_of, holds_of, is_one}

-- bit k of a value
abbrev pub bit_in : KnownBits → ℕ → Option Bool
bit_in c k = known_bit (pattern_of c) k

-- a bit is known exactly where all these numbers agree in it
abbrev pub KnowsExactly : (ℤ → Type 0) → KnownBits → Type 0
KnowsExactly P c = (k : ℕ) (b : Bool) → k < 65 → (bit_in c k ≡ Some b) ↔ ((v : ℤ) → P v → bit_of v k ≡ b)

-- the same of a value that is there where there is such a number
abbrev pub IsExactly : (ℤ → Type 0) → Option KnownBits → Type 0
IsExactly P o = MatchOption o ((v : ℤ) → P v → ⊥) (KnowsExactly P)

-- a result of arithmetic of two numbers of the values
pub record IsResult (o : BinOp) (t : IntType) (a b : KnownBits) (v : ℤ) : Type 0 where
  pub x : ℤ
  pub y : ℤ
  pub left : IsTrue (holds_of a x)
  pub right : IsTrue (holds_of b y)
  pub taken : Takes o t x y
  pub result : arith_of o t x y ≡ Ok v

-- what a number of the value is converted to
pub record IsConverted (t : IntType) (a : KnownBits) (v : ℤ) : Type 0 where
  pub number : ℤ
  pub held : IsTrue (holds_of a number)
  pub converted : v ≡ wrapped t number

-- the operators of which all is known: And, Or and Xor, and shifts by one amount, to the left in unsigned types
abbrev pub IsExactOp : BinOp → IntType → KnownBits → Type 0
IsExactOp And t b = Unit {0}
IsExactOp Or t b = Unit {0}
IsExactOp Xor t b = Unit {0}
IsExactOp Shl t b = (is_one b ≡ true) × (is_signed t ≡ false)
IsExactOp Shr t b = is_one b ≡ true
IsExactOp o t b = ⊥

-- ---- members

-- the least and the greatest member from lo to hi
pub record AreEdges (c : KnownBits) (lo hi : ℤ) (e : ℤ × ℤ) : Type 0 where
  pub first : IsTrue (holds_of c e.0)
  pub last : IsTrue (holds_of c e.1)
  pub low : lo ≤ℤ e.0
  pub high : e.1 ≤ℤ hi
  pub each : (z : ℤ) → IsTrue (holds_of c z) → LiesIn (lo, hi) z → LiesIn e z

-- the same, or nothing where no member is there
abbrev pub IsEdges : KnownBits → ℤ → ℤ → Option (ℤ × ℤ) → Type 0
IsEdges c lo hi o = MatchOption o ((z : ℤ) → IsTrue (holds_of c z) → LiesIn (lo, hi) z → ⊥) (AreEdges c lo hi)

-- the numbers that both hold, or nothing where there is none
abbrev pub IsCommon : KnownBits → KnownBits → Option KnownBits → Type 0
IsCommon a b o =
    MatchOption o ((z : ℤ) → IsTrue (holds_of a z) → IsTrue (holds_of b z) → ⊥)
    (λ c. (z : ℤ) → IsTrue (holds_of c z) ↔ (IsTrue (holds_of a z) × IsTrue (holds_of b z)))

-- numbers of two ranges that compare so
pub record SomeCompare (c : Cmp) (r s : ℤ × ℤ) : Type 0 where
  pub x : ℤ
  pub y : ℤ
  pub left : LiesIn r x
  pub right : LiesIn s y
  pub compared : compares c x y ≡ true
