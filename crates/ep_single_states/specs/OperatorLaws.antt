-- Operators on single numbers (C11 6.5).
use Rattle.std.specs.Prelude.{◌≡◌, ℤ, pos, Bool, false, if◌then◌else◌, Some, IsSomeAnd, Ok, is_some}
use Rattle.ep_int.specs.declared.types.IntType.{IntType}
use Rattle.ep_int.specs.declared.types.BinOp.{BinOp}
use Rattle.ep_int.specs.declared.types.Cmp.{Cmp}
use Rattle.ep_int.specs.Arith.{arith_of, compares}
use Rattle.ep_range_laws.specs.Faults.{Takes}
use Rattle.ep_domain.specs.Domain.{Ops, IsSingle}
use Rattle.ep_cells.specs.declared.cell.Value.TheVariants.{Num}
use Rattle.ep_evaluation.specs.Operators.{may_be, compared, test_of}

-- the number of a truth (C11 6.5.8p6)
abbrev pub truth_number : Bool → ℤ
truth_number t = if t then pos 1 else pos 0

pub record OperatorsKeepOne {N : Type 0} (D : Ops N) : Type 0 where
  -- where arithmetic has a number there is no fault, and that number alone
  pub operator : (o : BinOp) (t : IntType) (a b : N) (x y z : ℤ) → Takes o t x y → arith_of o t x y ≡ Ok z
      → IsSingle D a x → IsSingle D b y
      → ((D.op o t a b).fault ≡ false) × IsSomeAnd (D.op o t a b).value (λ c. IsSingle D c z)
  -- a comparison leaves something of them exactly where they compare so, and gives the one truth
  pub filter : (c : Cmp) (a b : N) (x y : ℤ) → IsSingle D a x → IsSingle D b y
      → is_some (D.filter c a b) ≡ compares c x y
  pub compare : (c : Cmp) (a b : N) (x y : ℤ) → IsSingle D a x → IsSingle D b y
      → compared D c (Some a) (Some b) ≡ Some (Num (D.single (truth_number (compares c x y))))
  -- and a test has the one truth
  pub test : (n : N) (z : ℤ) (t : Bool) → IsSingle D n z → may_be D (Some (Num n)) t ≡ compares (test_of t) z (pos 0)
