-- Which places take a result (C11 6.8.6.4p3 and 6.5.16.1p1: a number goes to a number, and a pointer to a pointer).
use Rattle.ep_int.specs.declared.types.IntType.{IntType}
use Rattle.ep_int.specs.declared.types.Scalar.{Scalar}
use Rattle.ep_int.specs.declared.types.Scalar.TheVariants.{Int, Pointer}

pub data AreTaken : (old new : Scalar) → Type 0 where
  numbers : (u t : IntType) → AreTaken (Int u) (Int t)
  pointers : AreTaken Pointer Pointer
