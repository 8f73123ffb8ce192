-- The first of a list of tokens.
use Rattle.std.proofs.Common.{◌≡◌, ℕ, Bool, true, false, List, ◌∷◌, sym, subst, ◌∙◌, eq-eqb}
use Rattle.std.specs.Prelude.{◌==◌}
use Rattle.ep_ast.specs.Token.{Tok, mark}
use Rattle.ep_ast.specs.Reading.{Lacks}

pub tail_is : {t u : Tok} {ts us : List Tok} → t ∷ ts ≡ u ∷ us → ts ≡ us
tail_is e = cc

pub code_is : {l c m d : ℕ} {xs ys : List Tok} → mark l c ∷ xs ≡ mark m d ∷ ys → c ≡ d
code_is e = cc

pub lacks_is : (m d e : ℕ) (ys zs : List Tok) → Lacks e ys → ys ≡ mark m d ∷ zs → d ≡ e → ⊥
lacks_is m d e ys zs k same is =
    let L : List Tok → Type 0 = λ ts. Lacks e ts in
    let h : Lacks e (mark m d ∷ zs) = subst L same k in h is

-- no mark is two
pub apart : (m n : ℕ) {c : ℕ} → (m == n) ≡ false → c ≡ m → c ≡ n → ⊥
apart m n h e f = let k : (m == n) ≡ true = eq-eqb m n (sym e ∙ f) in cc
