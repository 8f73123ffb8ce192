-- Arguments are evaluated in order.
use Rattle.std.proofs.Common.{◌≡◌, ℕ, zero, suc, ◌+◌, ◌<◌, List, [], ◌∷◌, ◌++◌, length, map, drop, get_or, sym, ap}
use Rattle.std.proofs.Common.{◌∙◌, append_assoc, subst, arith}
use Rattle.std.proofs.lemmas.List.{drop_more}
use Rattle.ep_int.specs.declared.types.Scalar.{Scalar}
use Rattle.ep_domain.specs.Domain.{Ops}
use Rattle.ep_cells.specs.States.{Known}
use Rattle.ep_core.specs.declared.tree.Expr.{Expr}
use Rattle.ep_core.specs.Program.{Program}
use Rattle.ep_core.specs.View.{expr_view}
use Rattle.ep_equalities.specs.declared.pair.Fault.{Fault}
use Rattle.ep_equalities.specs.declared.pair.Mode.{Mode}
use Rattle.ep_equalities.specs.declared.pair.PairValue.{PairValue}
use Rattle.ep_evaluation.specs.Given.{Given}
use Rattle.ep_transfers.specs.Calls.{given_all, faults_of_all}
use Rattle.ep_transfers.specs.Transfers.{gives}
use Rattle.ep_transfer_calls.specs.Typed.{AreTyped}
use Rattle.ep_transfer_stores.specs.Typed.{IsExpr}

-- ---- each has a parameter

module _ (p : Program) where
  pub parameter_there : (bs : List (ℕ × Scalar)) (es : List Expr) → AreTyped p bs (map expr_view es) → (i : ℕ)
      → i < length es → i < length bs
  parameter_there [] [] h i lt = absurd (omega (arith, lt))
  parameter_there [] (e ∷ es) h i lt = absurd h
  parameter_there (b ∷ bs) [] h i lt = absurd (omega (arith, lt))
  parameter_there (b ∷ bs) (e ∷ es) h zero lt = omega arith
  parameter_there (b ∷ bs) (e ∷ es) h (suc i) lt =
      let q = parameter_there bs es h.1 i (omega (arith, lt)) in omega (arith, q)

  typed_at : (bs : List (ℕ × Scalar)) (es : List Expr) → AreTyped p bs (map expr_view es) → (i : ℕ) → i < length es
      → (b : ℕ × Scalar) (e : Expr) → IsExpr p (get_or bs i b).1 (expr_view (get_or es i e))
  typed_at [] [] h i lt d x = absurd (omega (arith, lt))
  typed_at [] (e ∷ es) h i lt d x = absurd h
  typed_at (b ∷ bs) [] h i lt d x = absurd (omega (arith, lt))
  typed_at (b ∷ bs) (e ∷ es) h zero lt d x = h.0
  typed_at (b ∷ bs) (e ∷ es) h (suc i) lt d x = typed_at bs es h.1 i (omega (arith, lt)) d x

  pub argument_typed : (bs : List (ℕ × Scalar)) (es : List Expr) → AreTyped p bs (map expr_view es) → (i : ℕ)
      → i < length es → (b : ℕ × Scalar) (e : Expr) → e ≡ get_or es i e → IsExpr p (get_or bs i b).1 (expr_view e)
  argument_typed bs es h i lt b e is =
      subst (λ x. IsExpr p (get_or bs i b).1 (expr_view x)) (sym is) (typed_at bs es h i lt b e)

-- ---- one more

module _ {N : Type 0} (D : Ops N) (p : Program) (m : Mode) (k : Known N) where
  abbrev pub pairs : List Expr → List (PairValue N)
  pairs es = map (λ (x : Given N). x.pair) (given_all D p (map expr_view es) m k)

  abbrev pub faults : List Expr → List Fault
  faults es = faults_of_all D p (given_all D p (map expr_view es) m k)

  module _ (es : List Expr) (i : ℕ) (e : Expr) (lt : i < length es) (e_is : e ≡ get_or es i e) where
    es_are : drop i es ≡ e ∷ drop (i + 1) es
    es_are = drop_more es i e lt ∙ ap (λ z. z ∷ drop (i + 1) es) (sym e_is)

    pub pairs_more : (out : List (PairValue N)) (v : PairValue N) → v ≡ (gives D p (expr_view e) m k).pair
        → (out ++ v ∷ []) ++ pairs (drop (i + 1) es) ≡ out ++ pairs (drop i es)
    pairs_more out v h =
        append_assoc out (v ∷ []) (pairs (drop (i + 1) es))
        ∙ ap (λ z. out ++ z ∷ pairs (drop (i + 1) es)) h ∙ ap (λ zs. out ++ pairs zs) (sym es_are)

    pub faults_more : (old new : List Fault) → new ≡ old ++ (gives D p (expr_view e) m k).faults
        → new ++ faults (drop (i + 1) es) ≡ old ++ faults (drop i es)
    faults_more old new h =
        ap (λ fs. fs ++ faults (drop (i + 1) es)) h
        ∙ append_assoc old (gives D p (expr_view e) m k).faults (faults (drop (i + 1) es))
        ∙ ap (λ zs. old ++ faults zs) (sym es_are)
