-- Reading past a comment byte by byte, and at once.
use Rattle.std.proofs.Common.{◌≡◌, ℕ, ◌<◌, ◌≤◌, Bool, true, false, cond, ◌&&◌, ◌==◌, List, [], ◌∷◌, length, drop}
use Rattle.std.proofs.Common.{get_or, slice_index, Option, Some, None, refl, arith}
use Rattle.std.proofs.lemmas.Bool.Decides.{nat_tests}
use Rattle.ep_ast.specs.Lexeme.{is_blank, opens_comment, opens_remark, line_after, past_comment, to_line_end}
use Rattle.ep_lexer.specs.Step.{Skipped, stopped, unclosed, skip, plain, inside, closing}

abbrev pub behind : ℕ → Option (ℕ × List ℕ) → Skipped
behind from None = unclosed from
behind from (Some p) = skip plain p.0 p.1

closes : (from l : ℕ) (bs : List ℕ) → skip closing l bs ≡ skip plain l (drop 1 bs)
unfolding skip
closes from l [] = refl
closes from l (c ∷ bs) = refl

cases : (from : ℕ) (t : Bool) (x : ℕ × List ℕ) (y : Option (ℕ × List ℕ)) (a b : Skipped) → a ≡ skip plain x.0 x.1
    → b ≡ behind from y → cond t a b ≡ behind from (cond t (Some x) y)
cases from true x y a b e f = e
cases from false x y a b e f = f

pub inside_is : (from l : ℕ) (bs : List ℕ) → skip (inside from) l bs ≡ behind from (past_comment l bs)
unfolding skip
inside_is from l [] = refl
inside_is from l (b ∷ bs) =
    cases from (b == 42 && slice_index bs 0 == 47) (l, drop 1 bs) (past_comment (line_after l b) bs) (skip closing l bs)
    (skip (inside from) (line_after l b) bs) (closes from l bs)
    (inside_is from (line_after l b) bs)

pub blank_skips : (l : ℕ) (bs : List ℕ) → 0 < length bs → is_blank (get_or bs 0 0) ≡ true
    → skip plain l bs ≡ skip plain l (drop 1 bs)
unfolding skip
blank_skips l [] n h = absurd (omega arith)
blank_skips l (b ∷ bs) n h = rw h refl

comment_not_blank : (b : ℕ) (bs : List ℕ) → opens_comment (b ∷ bs) ≡ true → is_blank b ≡ false
comment_not_blank b bs h = grind (arith, nat_tests)

comment_no_remark : (b : ℕ) (bs : List ℕ) → opens_comment (b ∷ bs) ≡ true → opens_remark (b ∷ bs) ≡ false
comment_no_remark b bs h = grind (arith, nat_tests)

remark_not_blank : (b : ℕ) (bs : List ℕ) → opens_remark (b ∷ bs) ≡ true → is_blank b ≡ false
remark_not_blank b bs h = grind (arith, nat_tests)

alone : (b : ℕ) → opens_comment (b ∷ []) ≡ true → ⊥
alone b h = grind (arith, nat_tests)

none_comment : opens_comment [] ≡ true → ⊥
none_comment h = cc

none_remark : opens_remark [] ≡ true → ⊥
none_remark h = cc

pub comment_skips : (l : ℕ) (bs : List ℕ) → opens_comment bs ≡ true
    → skip plain l bs ≡ behind l (past_comment l (drop 2 bs))
unfolding skip
comment_skips l [] h = absurd (none_comment h)
comment_skips l (b ∷ []) h = absurd (alone b h)
comment_skips l (b ∷ c ∷ bs) h = rw (comment_not_blank b (c ∷ bs) h, comment_no_remark b (c ∷ bs) h, h)
    (inside_is l l bs)

pub remark_skips : (l : ℕ) (bs : List ℕ) → opens_remark bs ≡ true
    → skip plain l bs ≡ stopped l (to_line_end (drop 1 bs))
unfolding skip
remark_skips l [] h = absurd (none_remark h)
remark_skips l (b ∷ bs) h = rw (remark_not_blank b bs h, h) refl

pub others_stop : (l : ℕ) (bs : List ℕ) → is_blank (get_or bs 0 0) ≡ false → opens_remark bs ≡ false
    → opens_comment bs ≡ false → skip plain l bs ≡ stopped l bs
unfolding skip
others_stop l [] h k j = refl
others_stop l (b ∷ bs) h k j = rw (h, k, j) refl

pub end_stops : (l : ℕ) (bs : List ℕ) → length bs ≤ 0 → skip plain l bs ≡ stopped l bs
unfolding skip
end_stops l [] h = refl
end_stops l (b ∷ bs) h = absurd (omega arith)

pub comment_open : (l : ℕ) (bs : List ℕ) → opens_comment bs ≡ true → past_comment l (drop 2 bs) ≡ None
    → skip plain l bs ≡ unclosed l
comment_open l bs h e = rw e at (comment_skips l bs h)

pub comment_over : (l : ℕ) (bs : List ℕ) (p : ℕ × List ℕ) → opens_comment bs ≡ true
    → past_comment l (drop 2 bs) ≡ Some p → skip plain l bs ≡ skip plain p.0 p.1
comment_over l bs p h e = rw e at (comment_skips l bs h)

pub ruleset skips = (blank_skips, remark_skips, others_stop, end_stops, comment_open, comment_over)
