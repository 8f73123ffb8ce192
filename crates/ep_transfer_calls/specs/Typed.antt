-- Arguments and results of calls as they stand in a well-formed program (C11 6.5.2.2p2 and 6.8.6.4p3).
use Rattle.std.specs.Prelude.{◌≡◌, ℕ, true, List, [], ◌∷◌, Option, Some, slice_get}
use Rattle.ep_int.specs.declared.types.Scalar.{Scalar}
use Rattle.ep_core.specs.Program.{Expr, Dest, Function, Program}
use Rattle.ep_core.specs.WellFormed.{result_type, arguments_fit, takes_result}
use Rattle.ep_transfer_stores.specs.Typed.{IsExpr}

-- of a function of the program, where these blocks can be named
pub record AreArguments (p : Program) (f : Function) (es : List Expr) : Type 0 where
  pub number : ℕ
  pub is_there : slice_get p.functions number ≡ Some f
  pub seen : List ℕ
  pub fits : arguments_fit p.types p.blocks seen f.params es ≡ true

pub record TakesResult (p : Program) (f : Function) (d : Option Dest) : Type 0 where
  pub number : ℕ
  pub is_there : slice_get p.functions number ≡ Some f
  pub seen : List ℕ
  pub fits : takes_result p.types p.blocks seen (result_type p.blocks f.result) d ≡ true

-- an argument of the scalar of each parameter
abbrev pub AreTyped : Program → List (ℕ × Scalar) → List Expr → Type 0
AreTyped p [] [] = Unit {0}
AreTyped p [] (e ∷ es) = ⊥
AreTyped p (b ∷ bs) [] = ⊥
AreTyped p (b ∷ bs) (e ∷ es) = IsExpr p b.1 e × AreTyped p bs es
