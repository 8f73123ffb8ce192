-- Blanks and comments, and reading past them.
use Rattle.std.proofs.Common.{◌≡◌, ℕ, zero, suc, ◌≤◌, Bool, true, false, cond, ◌&&◌, ◌==◌, List, [], ◌∷◌, length, drop}
use Rattle.std.proofs.lemmas.Bool.{cases_Bool}
use Rattle.std.proofs.Common.{slice_index, Option, Some, None, refl, sym, ◌∙◌, subst, arith, inl, inr, length-drop}
use Rattle.ep_ast.specs.Lexeme.{is_blank, opens_comment, opens_remark, line_after, past_comment, to_line_end, Gap, here}
use Rattle.ep_ast.specs.Lexeme.{blank, remark, comment}
use Rattle.ep_lexer.specs.Step.{stopped, unclosed, skip, plain}
use Rattle.ep_lexer.proofs.Skips.{remark_skips, comment_open, comment_over}
use Rattle.ep_lexer.proofs.Cases.{option_cases, is_number}

-- no blank and no comment stands there
abbrev pub Stops : List ℕ → Type 0
Stops [] = Unit {0}
Stops (b ∷ bs) = (is_blank b ≡ false) × (opens_remark (b ∷ bs) ≡ false) × (opens_comment (b ∷ bs) ≡ false)

pub stays : (l : ℕ) (bs : List ℕ) → Stops bs → skip plain l bs ≡ stopped l bs
unfolding skip
stays l [] h = refl
stays l (b ∷ bs) h = rw (h.0, h.1, h.2) refl

newline_stops : (b : ℕ) (bs : List ℕ) → b ≡ 10 → Stops (b ∷ bs)
newline_stops b bs e = rw e (refl, refl, refl)

line_end_cases : (t : Bool) (b : ℕ) (bs : List ℕ) → b == 10 ≡ t → Stops (to_line_end bs)
    → Stops (cond t (b ∷ bs) (to_line_end bs))
line_end_cases true b bs h s = newline_stops b bs (is_number b 10 h)
line_end_cases false b bs h s = s

pub line_end_stops : (bs : List ℕ) → Stops (to_line_end bs)
line_end_stops [] = tt
line_end_stops (b ∷ bs) = line_end_cases (b == 10) b bs refl (line_end_stops bs)

-- what is read past a gap
pub gap_skips : {l m : ℕ} {bs cs : List ℕ} → Gap l bs m cs → skip plain l bs ≡ skip plain m cs
unfolding skip
gap_skips here = refl
gap_skips (blank {l} {b} {m} {bs} {cs} h g) = rw h (gap_skips g)
gap_skips (remark {l} {b} {m} {bs} {cs} h g) = remark_skips l (b ∷ bs) h
    ∙ sym (stays l (to_line_end bs) (line_end_stops bs)) ∙ gap_skips g
gap_skips (comment {l} {b} {m} {bs} {cs} l' rest h e g) = comment_over l (b ∷ bs) (l', rest) h e ∙ gap_skips g

-- reading ends behind a gap, or at a comment that is not closed
pub data GapIs (l : ℕ) (bs : List ℕ) : Type 0 where
  over_at : (m : ℕ) (cs : List ℕ) → Gap l bs m cs → Stops cs → skip plain l bs ≡ stopped m cs → GapIs l bs
  open_at : (m b : ℕ) (cs : List ℕ) → Gap l bs m (b ∷ cs) → opens_comment (b ∷ cs) ≡ true
      → past_comment m (drop 1 cs) ≡ None → skip plain l bs ≡ unclosed m → GapIs l bs

past_cases : (t : Bool) (l : ℕ) (bs : List ℕ) (o : Option (ℕ × List ℕ)) (p : ℕ × List ℕ)
    → ((q : ℕ × List ℕ) → o ≡ Some q → length q.1 ≤ length bs)
    → cond t (Some (l, drop 1 bs)) o ≡ Some p → length p.1 ≤ suc (length bs)
past_cases true l bs o p f e = let q : (l, drop 1 bs) ≡ p = cc in
    subst (λ (x : ℕ × List ℕ). length x.1 ≤ suc (length bs)) q (omega (arith, length-drop 1 bs))
past_cases false l bs o p f e = let q = f p e in omega (arith, q)

pub past_shorter : (l : ℕ) (bs : List ℕ) (p : ℕ × List ℕ) → past_comment l bs ≡ Some p → length p.1 ≤ length bs
past_shorter l [] p e = absurd cc
past_shorter l (b ∷ bs) p e =
    past_cases (b == 42 && slice_index bs 0 == 47) l bs (past_comment (line_after l b) bs) p
    (λ q f. past_shorter (line_after l b) bs q f) e

under : {l m : ℕ} {bs cs : List ℕ} → ((k : ℕ) (ds : List ℕ) → Gap m cs k ds → Gap l bs k ds)
    → skip plain l bs ≡ skip plain m cs → GapIs m cs → GapIs l bs
under f e (over_at k ds g s h) = over_at k ds (f k ds g) s (e ∙ h)
under f e (open_at k b ds g o n h) = open_at k b ds (f k (b ∷ ds) g) o n (e ∙ h)

blank_over : (l b : ℕ) (bs : List ℕ) → is_blank b ≡ true → skip plain l (b ∷ bs) ≡ skip plain l bs
unfolding skip
blank_over l b bs h = rw h refl

gap_within : (n l : ℕ) (bs : List ℕ) → length bs ≤ n → GapIs l bs
gap_within n l [] k = over_at l [] here tt (stays l [] tt)
gap_within zero l (b ∷ bs) k = absurd (omega arith)
gap_within (suc n) l (b ∷ bs) k =
    elim (cases_Bool (is_blank b)) [
      | inl h ↦ under (λ m cs g. blank h g) (blank_over l b bs h) (gap_within n l bs (omega arith))
      | inr h ↦ elim (cases_Bool (opens_remark (b ∷ bs))) [
        | inl r ↦ over_at l (to_line_end bs) (remark r here) (line_end_stops bs) (remark_skips l (b ∷ bs) r)
        | inr r ↦ elim (cases_Bool (opens_comment (b ∷ bs))) [
          | inl c ↦ elim (option_cases (past_comment l (drop 1 bs))) [
            | inl e ↦ open_at l b bs here c e (comment_open l (b ∷ bs) c e)
            | inr e ↦
                let s = past_shorter l (drop 1 bs) e.0 e.1 in
                let d = length-drop 1 bs in
                under (λ m cs g. comment e.0.0 e.0.1 c e.1 g) (comment_over l (b ∷ bs) e.0 c e.1)
                (gap_within n e.0.0 e.0.1 (omega (arith, s, d)))
          ]
          | inr c ↦ over_at l (b ∷ bs) here (h, r, c) (stays l (b ∷ bs) (h, r, c))
        ]
      ]
    ]

pub gap_is : (l : ℕ) (bs : List ℕ) → GapIs l bs
gap_is l bs = gap_within (length bs) l bs (omega arith)
