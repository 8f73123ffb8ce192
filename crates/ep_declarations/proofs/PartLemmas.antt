-- What no expression begins with, and lists of bounds or values with one more.
use Rattle.std.proofs.Common.{◌≡◌, ℕ, Bool, false, List, [], ◌∷◌, ◌++◌, refl, sym, ap, ◌∙◌, inl, inr}
use Rattle.std.specs.Prelude.{◌==◌, ◌||◌}
use Rattle.std.specs.Global.{Vec}
use Rattle.std.specs.List.{list_any}
use Rattle.std.proofs.lemmas.List.{map_push}
use Rattle.std.proofs.lemmas.List.Folds.{list_any-append}
use Rattle.std.proofs.Math.Bool.{or-false}
use Rattle.ep_ast.specs.Token.{Tok, mark}
use Rattle.ep_ast.specs.Mark.{left_paren}
use Rattle.ep_ast.specs.Expression.{Expr}
use Rattle.ep_ast.specs.Declaration.{Value, to_values}
use Rattle.ep_ast.specs.Depth.{is_deep_value, are_deep_values}
use Rattle.ep_ast.specs.Grammar.{is_prefix, is_step, expr, Derives}
use Rattle.ep_reading.specs.declared.measured.Measured.{Measured}
use Rattle.ep_reading.specs.declared.measured.Measured.TheVariants as measured
use Rattle.ep_reading.specs.Measured.{IsLonger}
use Rattle.ep_reading.proofs.FirstLemmas.{apart}
use Rattle.ep_exprs.proofs.ArgumentLemmas.{begins}
use Rattle.ep_declarations.specs.Parts.{Holds, HoldsAll}

-- no expression begins with this mark
pub begins_apart : (N : List ℕ → Bool) (k : ℕ) {l c : ℕ} {xs ys : List Tok} {a : Expr}
    → (left_paren == k) ≡ false → is_prefix k ≡ false → is_step k ≡ false → c ≡ k → Derives N expr (mark l c ∷ xs) ys a
    → ⊥
begins_apart N k p q r h e = elim (begins N e) [
  | inl j ↦ apart left_paren k p j h
  | inr o ↦
      elim o [
        | inl j ↦ (let f = sym j ∙ ap is_prefix h ∙ q in absurd cc)
        | inr j ↦
            (let f = sym j ∙ ap is_step h ∙ r in absurd cc)
      ]
]

any_last : {V : Type 0} (is_deep : V → Bool) (vs : List V) (v : V)
    → list_any is_deep (vs ++ v ∷ []) ≡ (list_any is_deep vs || is_deep v)
any_last is_deep vs v = list_any-append is_deep vs (v ∷ [])
    ∙ ap (λ (b : Bool). list_any is_deep vs || b) (or-false (is_deep v))

-- a list with one more
pub longer_holds : {T V : Type 0} (shape : T → V) (is_deep : V → Bool) (found : Measured (Vec T)) (one : Measured T)
    (r : Measured (Vec T)) (vs : List V) (v : V)
    → IsLonger found one r → HoldsAll shape is_deep found vs → Holds shape is_deep one v
    → HoldsAll shape is_deep r (vs ++ v ∷ [])
longer_holds shape is_deep (measured.Fits k) (measured.Fits t) (measured.Fits w) vs v e h j = (
  rw e (map_push shape k.items t ∙ rw (h.0, j.0) refl),
  any_last is_deep vs v ∙ rw (h.1, j.1) refl,
)
longer_holds shape is_deep (measured.Fits k) (measured.Fits t) (measured.TooDeep l) vs v e h j = absurd e
longer_holds shape is_deep (measured.Fits k) (measured.TooDeep l) r vs v e h j =
    rw e (any_last is_deep vs v ∙ rw (h.1, j) refl)
longer_holds shape is_deep (measured.TooDeep l) one r vs v e h j = rw e (any_last is_deep vs v ∙ rw h refl)

-- values in braces are too deep where one of them is
pub any_value : (vs : List Value) → are_deep_values (to_values vs) ≡ list_any is_deep_value vs
any_value [] = refl
any_value (v ∷ vs) = ap (λ (b : Bool). is_deep_value v || b) (any_value vs)
