-- A source has no more tokens than bytes: each takes a byte at least.
use Rattle.std.proofs.Common.{◌≡◌, refl, ◌∙◌, ap, ℕ, suc, zero, ◌+◌, ◌-◌, ◌≤◌, ◌<◌, ◌⊎◌, inl, inr, Bool, true, false}
use Rattle.ep_lexer.proofs.Classes.{digit_word, letter_word}
use Rattle.ep_lexer.proofs.Gaps.{past_shorter}
use Rattle.std.proofs.lemmas.Bool.{cond-true}
use Rattle.std.proofs.Common.{not, if◌then◌else◌, nat_eq, List, [], ◌∷◌, ◌++◌, length, drop, Option, Some}
use Rattle.std.proofs.Common.{slice_index_or, arith, cond}
use Rattle.std.proofs.lemmas.Bool.{and_parts}
use Rattle.std.specs.List.{prefix_len, position_from, starts_with, list_all}
use Rattle.ep_ast.specs.Token.{Tok, marks}
use Rattle.ep_ast.specs.Lexeme.{Thing, Gap, here, blank, remark, comment, Begins, at_end, at_newline, a_hash, a_quote}
use Rattle.ep_ast.specs.Lexeme.{a_name, a_number, a_character, a_mark, Next, is_word, number_len}
use Rattle.ep_ast.specs.Lexeme.{mark_at, mark_len, to_line_end}
use Rattle.ep_ast.specs.Cut.{Position, Stand, none, more, Piece, line_end, word, own_name, defined, literal, sign}
use Rattle.ep_ast.specs.Cut.{include, define, condition, otherwise, end_if, Cuts, ends, piece, after, headers}
use Rattle.ep_ast.specs.Cut.{is_over}

-- ---- rests

drop_le : (n : ℕ) (bs : List ℕ) → length (drop n bs) ≤ length bs
drop_le zero bs = omega arith
drop_le (suc n) [] = omega arith
drop_le (suc n) (b ∷ bs) = let h = drop_le n bs in omega arith

drop_lt : (n : ℕ) (b : ℕ) (bs : List ℕ) → 0 < n → length (drop n (b ∷ bs)) < length (b ∷ bs)
drop_lt zero b bs h = absurd (omega arith)
drop_lt (suc n) b bs h = let k = drop_le n bs in omega arith

either_le : (t : Bool) (xs ys : List ℕ) (n : ℕ) → length xs ≤ n → length ys ≤ n → length (if t then xs else ys) ≤ n
either_le true xs ys n h k = h
either_le false xs ys n h k = k

line_end_le : (bs : List ℕ) → length (to_line_end bs) ≤ length bs
line_end_le [] = omega arith
line_end_le (b ∷ bs) =
    let h = line_end_le bs in either_le _ (b ∷ bs) (to_line_end bs) (length (b ∷ bs)) (omega arith) (omega arith)

either_of : {A : Type 0} (t : Bool) (x : A) (o : Option A) (r : A) → (if t then Some x else o) ≡ Some r
    → (x ≡ r) ⊎ (o ≡ Some r)
either_of true x o r e = inl cc
either_of false x o r e = inr e

gap_le : {l m : ℕ} {bs cs : List ℕ} → Gap l bs m cs → length cs ≤ length bs
gap_le here = omega arith
gap_le (blank t g) = let h = gap_le g in omega arith
gap_le (remark {bs = bs} t g) = let h = gap_le g in let k = line_end_le bs in omega arith
gap_le (comment {bs = bs} l r t e g) =
    let h = gap_le g in let k = past_shorter _ (drop 1 bs) (l, r) e in let q = drop_le 1 bs in omega arith

-- ---- what stands next

some_word : (b : ℕ) (bs : List ℕ) → is_word b ≡ true → 0 < prefix_len is_word (b ∷ bs)
some_word b bs e =
    let h : prefix_len is_word (b ∷ bs) ≡ 1 + prefix_len is_word bs = cond-true (is_word b) _ 0 e in omega arith

some_number : (b : ℕ) (bs : List ℕ) → is_word b ≡ true → 0 < number_len 0 (b ∷ bs)
some_number b bs e = let h : number_len 0 (b ∷ bs) ≡ suc (number_len b bs) = rw e refl in omega arith

at_cond : (q : List ℕ → Bool) (k n : ℕ) (w : List ℕ) (ws : List (List ℕ)) (o : Option ℕ) (t : Bool) → q w ≡ true
    → (o ≡ Some n → (k + 1 ≤ n) × (q (slice_index_or ws (n - (k + 1)) []) ≡ true)) → cond t (Some k) o ≡ Some n
    → (k ≤ n) × (q (slice_index_or (w ∷ ws) (n - k) []) ≡ true)
at_cond q k n w ws o true a f e =
    let h : k ≡ n = cc in let z : n - k ≡ 0 = omega arith in (omega arith, rw z a)
at_cond q k n w ws o false a f e =
    let r = f e in let z : n - k ≡ suc (n - (k + 1)) = (let g = r.0 in omega arith) in
    (let g = r.0 in omega arith, rw z (r.1))

-- what is found at a place passes a test that all pass
at_position : (p q : List ℕ → Bool) (k n : ℕ) (ws : List (List ℕ)) → list_all q ws ≡ true
    → position_from p k ws ≡ Some n → (k ≤ n) × (q (slice_index_or ws (n - k) []) ≡ true)
at_position p q k n [] a e = absurd cc
at_position p q k n (w ∷ ws) a e =
    let b = and_parts _ _ a in at_cond q k n w ws (position_from p (k + 1) ws) (p w) b.0
    (λ f. at_position p q (k + 1) n ws b.1 f) e

abbrev is_some_text : List ℕ → Bool
is_some_text w = not (nat_eq (length w) 0)

some_text : (w : List ℕ) → is_some_text w ≡ true → 0 < length w
some_text [] e = absurd cc
some_text (b ∷ bs) e = omega arith

mark_takes : (bs : List ℕ) (n : ℕ) → mark_at bs ≡ Some n → 0 < mark_len n
mark_takes bs n e =
    let h = at_position (λ m. starts_with nat_eq bs m) is_some_text 1 n marks refl e in some_text _ (h.1)

begins_lt : {bs rest : List ℕ} {t : Thing} → Begins bs t rest → is_over t ≡ false → length rest < length bs
begins_lt at_end e = absurd cc
begins_lt (at_newline h) e = absurd cc
begins_lt (a_hash h) e = omega arith
begins_lt (a_quote h) e = omega arith
begins_lt (a_name {b = b} {bs = bs} h) e = drop_lt _ b bs (some_word b bs (letter_word b h))
begins_lt (a_number {b = b} {bs = bs} n h l) e = drop_lt _ b bs (some_number b bs (digit_word b h))
begins_lt (a_character {bs = bs} v k h l) e = let d = drop_le k bs in omega arith
begins_lt (a_mark {b = b} {bs = bs} n r c m) e = drop_lt (mark_len n) b bs (mark_takes (b ∷ bs) n m)

begins_le : {bs rest : List ℕ} {t : Thing} → Begins bs t rest → length rest ≤ length bs
begins_le at_end = omega arith
begins_le (at_newline h) = omega arith
begins_le (a_hash h) = omega arith
begins_le (a_quote h) = omega arith
begins_le (a_name {b = b} {bs = bs} h) = drop_le _ (b ∷ bs)
begins_le (a_number {b = b} {bs = bs} n h l) = drop_le _ (b ∷ bs)
begins_le (a_character {bs = bs} v k h l) = let d = drop_le k bs in omega arith
begins_le (a_mark {b = b} {bs = bs} n r c m) = drop_le (mark_len n) (b ∷ bs)

next_lt : {l m : ℕ} {bs rest : List ℕ} {t : Thing} → Next l bs m t rest → is_over t ≡ false
    → length rest < length bs
next_lt n e = let g = gap_le n.gap in let b = begins_lt n.begins e in omega arith

next_le : {l m : ℕ} {bs rest : List ℕ} {t : Thing} → Next l bs m t rest → length rest ≤ length bs
next_le n = let g = gap_le n.gap in let b = begins_le n.begins in omega arith

stand_le : {l m : ℕ} {bs rest : List ℕ} {ts : List Thing} → Stand l bs ts m rest → length rest ≤ length bs
stand_le none = omega arith
stand_le (more n s) = let h = next_le n in let k = stand_le s in omega arith

after_le : (ts : List (List ℕ)) (bs es : List ℕ) → after ts bs ≡ Some es → length es ≤ length bs
after_le [] bs es e = absurd cc
after_le (t ∷ ts) bs es e = elim (either_of _ (drop (length t) bs) (after ts bs) es e) [
  | inl h ↦ let k = drop_le (length t) bs in let q : length (drop (length t) bs) ≡ length es = ap length h in omega arith
  | inr h ↦ after_le ts bs es h
]

-- ---- pieces

piece_le : {p q : Position} {bs rest : List ℕ} {ts : List Tok} → Piece p bs ts q rest
    → length ts + length rest ≤ length bs
piece_le (line_end m b n) = let h = next_le n in omega arith
piece_le (word m n t x s) = let h = next_lt x refl in omega arith
piece_le (own_name m t x s) = let h = next_lt x refl in omega arith
piece_le (defined m t c x s) = let h = next_lt x refl in omega arith
piece_le (literal m c x) = let h = next_lt x refl in omega arith
piece_le (sign m n x) = let h = next_lt x refl in omega arith
piece_le (include {cs = cs} {ds = ds} {es = es} m n k f o s g a x) =
    let h = stand_le s in let i = gap_le g in let j = after_le headers ds es a in let l = next_le x in omega arith
piece_le (define m t v c f o s d e) = let h = stand_le s in omega arith
piece_le (condition l m o f a b c x s) = let h = next_lt x refl in let k = stand_le s in omega arith
piece_le (otherwise l m from f o x s) = let h = next_lt x refl in let k = stand_le s in omega arith
piece_le (end_if l m f o x s) = let h = next_lt x refl in let k = stand_le s in omega arith

length_both : {A : Type 0} (xs ys : List A) → length (xs ++ ys) ≡ length xs + length ys
length_both [] ys = omega arith
length_both (x ∷ xs) ys = let h = length_both xs ys in omega arith

pub few : (p : Position) (bs : List ℕ) (ts : List Tok) → Cuts p bs ts → length ts ≤ length bs
few p bs ts (ends m n o) = omega arith
few p bs all (piece {q = q} {rest = rest} {ts = ts} {us = us} x c e) =
    let h = piece_le x in let k = few q rest us c in
    let l : length all ≡ length ts + length us = ap length e ∙ length_both ts us in omega arith
