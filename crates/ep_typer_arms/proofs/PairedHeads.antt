-- Heads of two arms, pair by pair.
use Rattle.std.proofs.Common.{◌≡◌, ℕ, Bool, true, false, ◌&&◌, List, [], ◌∷◌, map, refl}
use Rattle.ep_ast.specs.declared.statements.FunctionTree.{FunctionTree}
use Rattle.ep_ast.specs.Declaration.{head_of}
use Rattle.ep_ast.specs.Statement.{function_of}
use Rattle.ep_typing.specs.Env.{Env}
use Rattle.ep_elaboration.specs.Functions.{are_named_alike}
use Rattle.ep_elaboration.specs.FunctionSteps.{are_alike, arms_agree}

module _ (G : Env) (ds : List ℕ) where
  abbrev pub agree : FunctionTree → FunctionTree → Bool
  agree f g =
      are_named_alike (head_of f.head) (head_of g.head) && are_alike G ds (head_of f.head) (head_of g.head)

  abbrev pub all_agree : List FunctionTree → List FunctionTree → Bool
  all_agree fs gs = arms_agree G ds (map function_of fs) (map function_of gs)

  pub none_agree : all_agree [] [] ≡ true
  unfolding arms_agree
  none_agree = refl

  pub more_agree : (f g : FunctionTree) (fs gs : List FunctionTree)
      → all_agree (f ∷ fs) (g ∷ gs) ≡ (agree f g && all_agree fs gs)
  unfolding arms_agree
  more_agree f g fs gs = refl

  pub more_second : (g : FunctionTree) (gs : List FunctionTree) → all_agree [] (g ∷ gs) ≡ false
  unfolding arms_agree
  more_second g gs = refl

  pub more_first : (f : FunctionTree) (fs : List FunctionTree) → all_agree (f ∷ fs) [] ≡ false
  unfolding arms_agree
  more_first f fs = refl
