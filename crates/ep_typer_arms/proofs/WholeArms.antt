-- Two arms from their functions.
use Rattle.std.proofs.Common.{◌≡◌, ℕ, Bool, true, false, List, Result, Ok, Err, refl, sym, ap, ◌∙◌}
use Rattle.ep_ast.specs.declared.orders.NamedOrder.{NamedOrder}
use Rattle.ep_ast.specs.declared.refusals.Refusal.{Refusal}
use Rattle.ep_ast.specs.declared.refusals.Halt.{Halt}
use Rattle.ep_ast.specs.declared.refusals.Halt.TheVariants as halts
use Rattle.ep_ast.specs.Statement.{Function}
use Rattle.ep_typing.specs.Env.{Env}
use Rattle.ep_typing.specs.Results.{◌>>=◌, at}
use Rattle.ep_operands.specs.Refinement.{Stops}
use Rattle.ep_elaboration.specs.Functions.{Body, Defined, all_joined}
use Rattle.ep_elaboration.specs.FunctionSteps.{agreeing, arms_agree, arms_defined}
use Rattle.ep_elaboration.specs.FunctionSteps.{functions_defined, others_typed}
use Rattle.ep_typer_arms.specs.FileEnvironments.{first_arm}

module _ (G : Env) (ds : List ℕ) (l : ℕ) (o : NamedOrder) (fs gs : List Function) where
  abbrev Out : Type 0
  Out = Result (List Defined × Env) Refusal

  abbrev second : List Defined × Env → Out
  second x = others_typed x.1 ds x.0 gs >>= (λ (b : List Body × Env). Ok (all_joined l o fs x.0 b.0, b.1))

  abbrev where_agree : Bool → Out
  where_agree agree = at l (agreeing agree) >>= (λ (yes : Bool). functions_defined G ds fs
      >>= (λ (a : List Defined × Env). second (a.0, record a.1 { scopes = G.scopes })))

  by_agreement : arms_defined G ds l o fs gs ≡ where_agree (arms_agree G ds fs gs)
  unfolding arms_defined
  by_agreement = refl

  pub arms_differ : false ≡ arms_agree G ds fs gs
      → arms_defined G ds l o fs gs ≡ Err (record { kind = 38; line = l; word = 0 })
  arms_differ e = by_agreement ∙ sym (ap where_agree e)

  module _ (agree : true ≡ arms_agree G ds fs gs) where
    by_arms : arms_defined G ds l o fs gs ≡ (first_arm G ds fs >>= second)
    by_arms = by_agreement ∙ sym (ap where_agree agree) ∙ through (functions_defined G ds fs)
      where
        through : (r : Out)
            → (r >>= (λ (a : List Defined × Env). second (a.0, record a.1 { scopes = G.scopes })))
            ≡ ((r >>= (λ (a : List Defined × Env). Ok (a.0, record a.1 { scopes = G.scopes }))) >>= second)
        through (Ok a) = refl
        through (Err r) = refl

    pub first_stops : (e : Halt) → Stops (first_arm G ds fs) e → Stops (arms_defined G ds l o fs gs) e
    first_stops halts.Memory k = tt
    first_stops (halts.Refused r) k = by_arms ∙ ap (λ (x : Out). x >>= second) k

    module _ (xs : List Defined) (H : Env) (first : first_arm G ds fs ≡ Ok (xs, H)) where
      abbrev paired : Result (List Body × Env) Refusal → Out
      paired r = r >>= (λ (b : List Body × Env). Ok (all_joined l o fs xs b.0, b.1))

      by_second : arms_defined G ds l o fs gs ≡ paired (others_typed H ds xs gs)
      by_second = by_arms ∙ ap (λ (x : Out). x >>= second) first

      pub second_stops : (e : Halt) → Stops (others_typed H ds xs gs) e → Stops (arms_defined G ds l o fs gs) e
      second_stops halts.Memory k = tt
      second_stops (halts.Refused r) k = by_second ∙ ap paired k

      pub arms_are : (bs : List Body) (K : Env) (all : List Defined) → others_typed H ds xs gs ≡ Ok (bs, K)
          → all ≡ all_joined l o fs xs bs → arms_defined G ds l o fs gs ≡ Ok (all, K)
      arms_are bs K all k j =
          by_second ∙ ap paired k ∙ ap (λ (ys : List Defined). Ok (ys, K)) (sym j)
