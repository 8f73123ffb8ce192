-- Statements without parts, tests and calls as they stand in a well-formed program: typed, where some blocks can be
-- named.
use Rattle.std.specs.Prelude.{◌≡◌, ℕ, true, List, Option, Some, slice_get}
use Rattle.ep_int.specs.declared.types.Scalar.{Scalar}
use Rattle.ep_core.specs.Program.{Expr, Dest, Simple, Function, Program}
use Rattle.ep_core.specs.WellFormed.{is_tested, result_type, simple_fits, arguments_fit, takes_result}

-- in a function with this result
pub record IsTypedSimple (p : Program) (result : Option (ℕ × Scalar)) (w : Simple) : Type 0 where
  pub here : ℕ
  pub function : Function
  pub is_there : slice_get p.functions here ≡ Some function
  pub gives : function.result ≡ result
  pub seen : List ℕ
  pub fits : simple_fits p here (result_type p.blocks function.result) w seen ≡ true

pub record IsTypedTest (p : Program) (e : Expr) : Type 0 where
  pub seen : List ℕ
  pub fits : is_tested p.types p.blocks seen e ≡ true

-- a function of the program
pub record IsFunction (p : Program) (f : Function) : Type 0 where
  pub number : ℕ
  pub is_there : slice_get p.functions number ≡ Some f

pub record AreArguments (p : Program) (f : Function) (es : List Expr) : Type 0 where
  pub function : IsFunction p f
  pub seen : List ℕ
  pub fits : arguments_fit p.types p.blocks seen f.params es ≡ true

pub record TakesResult (p : Program) (f : Function) (d : Option Dest) : Type 0 where
  pub function : IsFunction p f
  pub seen : List ℕ
  pub fits : takes_result p.types p.blocks seen (result_type p.blocks f.result) d ≡ true
