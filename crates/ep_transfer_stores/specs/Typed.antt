-- Expressions and places that a program's types allow.
use Rattle.std.specs.Prelude.{◌≡◌, ℕ, true, List}
use Rattle.ep_int.specs.declared.types.IntType.{IntType}
use Rattle.ep_int.specs.declared.types.Scalar.{Scalar}
use Rattle.ep_int.specs.declared.types.Scalar.TheVariants.{Int}
use Rattle.ep_core.specs.Program.{Expr, Place, Program}
use Rattle.ep_core.specs.Typed.{scalar_of}
use Rattle.ep_core.specs.WellFormed.{Sort, has_sort, place_has}

-- where these blocks can be named, an expression is of a sort, whose values are of this scalar
pub record IsExpr (p : Program) (w : Scalar) (e : Expr) : Type 0 where
  pub seen : List ℕ
  pub sort : Sort
  pub has : has_sort p.types p.blocks seen e sort ≡ true
  pub scalar : w ≡ scalar_of sort

-- a place is of a type
pub record IsPlace (p : Program) (a : Place) : Type 0 where
  pub seen : List ℕ
  pub ty : ℕ
  pub has : place_has p.types p.blocks seen a ty ≡ true

-- a number's
pub record IsNumber (w : Scalar) : Type 0 where
  pub t : IntType
  pub is : w ≡ Int t
