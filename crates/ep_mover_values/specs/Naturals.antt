-- What a domain keeps of numbers that aren't negative, beside the laws of every domain (this project's rules).
use Rattle.std.specs.Prelude.{◌≡◌, ℤ, pos, false, IfSome}
use Rattle.ep_int.specs.declared.types.IntType.{IntType}
use Rattle.ep_int.specs.declared.types.BinOp.{BinOp}
use Rattle.ep_int.specs.Types.{is_signed, greatest_of}
use Rattle.ep_range_laws.specs.Ranges.{Encloses}
use Rattle.ep_domain.specs.Domain.{Ops, Holds}

-- all of it is of the type, and none is negative
abbrev pub IsNatural : {N : Type 0} → Ops N → IntType → N → Type 0
IsNatural d t n = Encloses (pos 0, greatest_of t) (d.range n)

pub record KeepsNaturals {N : Type 0} (d : Ops N) : Type 0 where
  -- results in an unsigned type
  pub op : (o : BinOp) (t : IntType) (a b : N) → is_signed t ≡ false → IfSome (d.op o t a b).value (IsNatural d t)
  -- what is converted to one, and what fits a type, where some number is held
  pub converted : (t : IntType) (a : N) (z : ℤ) → Holds d (d.convert a t) z → is_signed t ≡ false
      → IsNatural d t (d.convert a t)
  pub fits : (t : IntType) (a : N) (z : ℤ) → Holds d (d.convert a t) z → IsNatural d t a
      → IsNatural d t (d.convert a t)
