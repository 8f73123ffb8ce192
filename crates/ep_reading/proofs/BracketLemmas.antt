-- Brackets counted over a list of tokens, one token at a time.
use Rattle.std.proofs.Common.{◌≡◌, ◌<◌, ◌≤◌, ◌+◌, ℕ, Bool, false, List, ◌∷◌, Option, Some, None, map, drop, length, get_or}
use Rattle.std.proofs.Common.{refl, sym, ap, ◌∙◌, subst, nat_lt, suc, add-one, drop-cons}
use Rattle.std.proofs.lemmas.Bool.{le-ltb}
use Rattle.ep_ast.specs.Token.{Tok, word, name, number, mark, if_little, if_big, other, end_if}
use Rattle.ep_ast.specs.Nesting.{opens_past, counted, stops}
use Rattle.ep_ast.specs.declared.words.Word.TheVariants as words
use Rattle.ep_lexer.specs.declared.tokens.Token.{Token}
use Rattle.ep_lexer.specs.declared.tokens.TokenKind.TheVariants as kinds
use Rattle.ep_lexer.specs.Tokens.{view}
use Rattle.ep_reading.specs.Look.{code_at}

-- the token beyond the last
abbrev pub no_token : Token
no_token = record { line = 0; what = kinds.Word words.Break }

pub first_view : (ts : List Token) (i : ℕ) → i < length ts
    → map view (drop i ts) ≡ view (get_or ts i no_token) ∷ map view (drop (i + 1) ts)
first_view ts i lt =
    ap (λ (l : List Token). map view l) (drop-cons ts i no_token lt)
    ∙ ap (λ (j : ℕ). view (get_or ts i no_token) ∷ map view (drop j ts)) (sym (add-one i))

on_from : (n l c : ℕ) (ts : List Tok) → counted n c ≤ 64 → stops n c ≡ false
    → opens_past n (mark l c ∷ ts) ≡ opens_past (counted n c) ts
on_from n l c ts few on = let small : nat_lt 64 (counted n c) ≡ false = le-ltb 64 (counted n c) few in
    rw (small, on) refl

-- a mark that neither opens too many nor ends the expression
pub on_at_mark : (n c k : ℕ) (t : Tok) (ts : List Tok) → Some c ≡ code_at t → k ≡ counted n c → k ≤ 64
    → false ≡ stops n c → opens_past k ts ≡ opens_past n (t ∷ ts)
on_at_mark n c k (mark l d) ts at is few on =
    let same : c ≡ d = cc in
    let on' : stops n d ≡ false = subst (λ (x : ℕ). stops n x ≡ false) same (sym on) in
    let is' : k ≡ counted n d = is ∙ ap (λ (x : ℕ). counted n x) same in
    ap (λ (x : ℕ). opens_past x ts) is' ∙ sym (on_from n l d ts (subst (λ (x : ℕ). x ≤ 64) is' few) on')
on_at_mark n c k (word l d) ts at is few on = absurd cc
on_at_mark n c k (name l s) ts at is few on = absurd cc
on_at_mark n c k (number l z) ts at is few on = absurd cc
on_at_mark n c k (if_little l) ts at is few on = absurd cc
on_at_mark n c k (if_big l) ts at is few on = absurd cc
on_at_mark n c k (other l) ts at is few on = absurd cc
on_at_mark n c k (end_if l) ts at is few on = absurd cc

-- any other token
pub on_at_other : (n : ℕ) (t : Tok) (ts : List Tok) → None ≡ code_at t → opens_past n ts ≡ opens_past n (t ∷ ts)
on_at_other n (mark l d) ts at = absurd cc
on_at_other n (word l d) ts at = refl
on_at_other n (name l s) ts at = refl
on_at_other n (number l z) ts at = refl
on_at_other n (if_little l) ts at = refl
on_at_other n (if_big l) ts at = refl
on_at_other n (other l) ts at = refl
on_at_other n (end_if l) ts at = refl
