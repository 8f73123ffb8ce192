-- What some items of a text come to.
use Rattle.std.proofs.Common.{◌≡◌, List, [], ◌∷◌, ◌++◌, Result, Ok, Err, refl, sym, ap, ◌∙◌}
use Rattle.ep_int.specs.declared.types.Model.{Model}
use Rattle.ep_ast.specs.declared.refusals.Refusal.{Refusal}
use Rattle.ep_ast.specs.Statement.{Item}
use Rattle.ep_typing.specs.Results.{◌>>=◌}
use Rattle.ep_elaboration.specs.Programs.{Sofar, begun}
use Rattle.ep_elaboration.specs.ProgramSteps.{item, items}
use Rattle.ep_typer_arms.specs.FileEnvironments.{IsBehind}

ok_same : (s t : Sofar) → ◌≡◌ {A = Result Sofar Refusal} (Ok s) (Ok t) → s ≡ t
ok_same s t e = cc

first_is : (r : Result Sofar Refusal) (f : Sofar → Result Sofar Refusal) (s : Sofar) → (r >>= f) ≡ Ok s
    → (w : Sofar) × (r ≡ Ok w) × (f w ≡ Ok s)
first_is (Ok w) f s e = (w, refl, e)
first_is (Err r) f s e = absurd cc

module _ (s u : Sofar) (i : Item) (one : item s i ≡ Ok u) where
  at_end : (t : Sofar) (is : List Item) → items t is ≡ Ok s → items t (is ++ i ∷ []) ≡ Ok u
  unfolding items
  at_end t [] e =
      ap (λ (v : Sofar). item v i >>= (λ (w : Sofar). Ok w)) (ok_same t s e)
      ∙ ap (λ (r : Result Sofar Refusal). r >>= (λ (w : Sofar). Ok w)) one
  at_end t (j ∷ is) e =
      let q = first_is (item t j) (λ (w : Sofar). items w is) s e in
      ap (λ (r : Result Sofar Refusal). r >>= (λ (w : Sofar). items w (is ++ i ∷ []))) q.1 ∙ at_end q.0 is q.2

  pub one_more : IsBehind s → IsBehind u
  one_more h = (h.0, h.1 ++ i ∷ [], at_end (begun h.0) h.1 h.2)

pub none_yet : (m : Model) (s : Sofar) → s ≡ begun m → IsBehind s
unfolding items
none_yet m s e = (m, [], ap (λ (t : Sofar). Ok t) (sym e))
