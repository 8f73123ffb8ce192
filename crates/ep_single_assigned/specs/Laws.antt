-- Statements that store one value (C11 6.5.16.1p2 and 6.8.6.4p3).
use Rattle.std.specs.Prelude.{Option}
use Rattle.ep_int.specs.declared.types.Scalar.{Scalar}
use Rattle.ep_core.specs.Program.{Expr, Place, Simple, assign, returns}

-- a scalar is assigned, or a function returns
pub data IsStore : Simple → Type 0 where
  store_assign : (w : Scalar) (a : Place) (e : Expr) → IsStore (assign w a e)
  store_return : (e : Option Expr) → IsStore (returns e)
