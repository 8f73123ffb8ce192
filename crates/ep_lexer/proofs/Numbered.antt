-- The first of some texts that passes a test, tried one by one.
use Rattle.std.proofs.Common.{◌≡◌, ℕ, ◌+◌, ◌<◌, Bool, true, false, List, [], ◌-◌, length, drop}
use Rattle.std.proofs.Common.{slice_index_or, Some, refl, sym, ap, subst, ◌∙◌, ◌==◌, arith, add-one, drop-cons}
use Rattle.std.proofs.lemmas.Bool.Decides.{nat_tests}
use Rattle.std.specs.List.{position_from}
use Rattle.ep_ast.specs.Reserved.{reserved_word}
use Rattle.ep_ast.specs.Token.{reserved_words}

found : (p : List ℕ → Bool) (k n : ℕ) (ws : List (List ℕ)) → n < length ws → p (slice_index_or ws n []) ≡ true
    → position_from p k (drop n ws) ≡ Some k
found p k n ws h e = rw (drop-cons ws n [], e) refl

pub passed : (p : List ℕ → Bool) (k n : ℕ) (ws : List (List ℕ)) → n < length ws → p (slice_index_or ws n []) ≡ false
    → position_from p k (drop n ws) ≡ position_from p (k + 1) (drop (n + 1) ws)
passed p k n ws h e = rw (drop-cons ws n [], e, add-one n) refl

-- the text of a number from 1
text_at : (ws : List (List ℕ)) (at : ℕ) {n : ℕ} → n ≡ at + 1 → slice_index_or ws (n - 1) [] ≡ slice_index_or ws at []
text_at ws at {n = n} e =
    let back : n - 1 ≡ at = omega (arith, e) in
    ap (λ (k : ℕ). slice_index_or ws k []) back

pub reserved_at : (at : ℕ) {n : ℕ} → n ≡ at + 1 → reserved_word n ≡ slice_index_or reserved_words (n - 1) []
reserved_at at {n = n} e =
    let some : n == 0 ≡ false = grind (arith, nat_tests) in
    rw some refl

-- the same where the text is that of a number
pub found_at : (p : List ℕ → Bool) (ws : List (List ℕ)) (at : ℕ) {n : ℕ} {t : List ℕ} → at < length ws → n ≡ at + 1
    → t ≡ slice_index_or ws (n - 1) [] → p t ≡ true → position_from p (at + 1) (drop at ws) ≡ Some n
found_at p ws at h e f k =
    found p (at + 1) at ws h (subst (λ (s : List ℕ). p s ≡ true) (f ∙ text_at ws at e) k) ∙ ap Some (sym e)

pub passed_at : (p : List ℕ → Bool) (ws : List (List ℕ)) (at : ℕ) {n : ℕ} {t : List ℕ} → at < length ws → n ≡ at + 1
    → t ≡ slice_index_or ws (n - 1) [] → p t ≡ false
    → position_from p (at + 1) (drop at ws) ≡ position_from p (at + 1 + 1) (drop (at + 1) ws)
passed_at p ws at h e f k =
    passed p (at + 1) at ws h (subst (λ (s : List ℕ). p s ≡ false) (f ∙ text_at ws at e) k)

pub ruleset numbered = (found_at, passed_at)
