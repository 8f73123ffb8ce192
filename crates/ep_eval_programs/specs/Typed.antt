-- Expressions, lvalues and tests that a program's types allow, and what they mean over its blocks.
use Rattle.std.specs.Prelude.{◌≡◌, ℕ, true, List}
use Rattle.ep_domain.specs.Domain.{Ops}
use Rattle.ep_core.specs.Program.{Expr, Place, Program}
use Rattle.ep_core.specs.WellFormed.{Sort, has_sort, place_has, is_tested}
use Rattle.ep_evaluation.specs.Evaluation.{Means, Reaches, expression, place}
use Rattle.ep_evaluation.specs.Laws.{sizes_of}

-- where these blocks can be named, an expression is of this sort
pub record IsExpr (p : Program) (e : Expr) : Type 0 where
  pub seen : List ℕ
  pub sort : Sort
  pub has : has_sort p.types p.blocks seen e sort ≡ true

-- an lvalue is of this type
pub record IsPlace (p : Program) (a : Place) : Type 0 where
  pub seen : List ℕ
  pub ty : ℕ
  pub has : place_has p.types p.blocks seen a ty ≡ true

-- an expression is a number or a pointer
pub record IsTest (p : Program) (e : Expr) : Type 0 where
  pub seen : List ℕ
  pub is : is_tested p.types p.blocks seen e ≡ true

abbrev pub meant : {N : Type 0} → Ops N → Program → Expr → Means N
meant D p e = expression D (sizes_of p.blocks) e

abbrev pub reached : {N : Type 0} → Ops N → Program → Place → Reaches N
reached D p a = place D (sizes_of p.blocks) a
