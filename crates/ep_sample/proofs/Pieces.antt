-- Texts that grow piece by piece.
use Rattle.std.proofs.Common.{◌≡◌, ℕ, suc, ◌+◌, ◌-◌, ◌<◌}
use Rattle.std.proofs.Common.{List, ◌++◌, Result, Ok, Err, is_ok, OnOk, if◌then◌else◌, sym, ap, ◌∙◌, arith}
use Rattle.std.proofs.Common.{append_assoc}
use Rattle.ep_sample.specs.Sample.{next_of, field_text, fields_text}

-- three pieces, of which the last may want memory
pub pieces : {T E : Type 0} (r : Result T E) (old a c : List ℕ) {one two new b t : List ℕ}
    → one ≡ old ++ a → two ≡ one ++ t → t ≡ b → new ≡ (if is_ok r then two ++ c else two)
    → OnOk r (new ≡ old ++ (a ++ b ++ c))
pieces (Ok x) old a c {t = t} p q e n =
    let text : old ++ a ++ t ++ c ≡ old ++ (a ++ t ++ c) = simp append_assoc in
    n ∙ ap (λ z. z ++ c) q ∙ ap (λ z. z ++ t ++ c) p ∙ text ∙ ap (λ z. old ++ (a ++ z ++ c)) e
pieces (Err x) old a c p q e n = tt

-- no field yet
pub begun : (text : List ℕ) (s n : ℕ) {all : List ℕ}
    → all ≡ text → all ++ fields_text s (n - 0) ≡ text ++ fields_text s n
begun text s n p =
    let all : n - 0 ≡ n = omega arith in
    ap (λ z. z ++ fields_text s (n - 0)) p ∙ ap (λ k. text ++ fields_text s k) all

-- a field more
pub one_more : (old : List ℕ) (s : ℕ) {new all : List ℕ} {t n i : ℕ}
    → i < n → t ≡ next_of s → new ≡ old ++ field_text t → old ++ fields_text s (n - i) ≡ all
    → new ++ fields_text t (n - (i + 1)) ≡ all
one_more old s {new = new} {all = all} {t = t} {n = n} {i = i} less next p inv =
    let left : n - i ≡ suc (n - (i + 1)) = omega (arith, less) in
    let parts : old ++ (field_text (next_of s) ++ fields_text (next_of s) (n - (i + 1))) ≡ all =
    sym (ap (λ k. old ++ fields_text s k) left) ∙ inv in
    ap (λ z. z ++ fields_text t (n - (i + 1))) p
    ∙ append_assoc old (field_text t) (fields_text t (n - (i + 1)))
    ∙ ap (λ z. old ++ (field_text z ++ fields_text z (n - (i + 1)))) next
    ∙ parts
