-- What stands next on a line, and reading it.
use Rattle.std.proofs.Common.{◌≡◌, ℕ, Bool, true, false, ◌||◌, ◌==◌, List, [], ◌∷◌, drop, Ok, Err, refl, ap, ◌∙◌, inl}
use Rattle.std.proofs.lemmas.Bool.{cases_Bool}
use Rattle.std.proofs.lemmas.Bool.{or_from}
use Rattle.std.proofs.Common.{inr}
use Rattle.ep_ast.specs.Lexeme.{is_letter, is_digit, word_text, after_word, number_text, after_number, literal}
use Rattle.ep_ast.specs.Lexeme.{character, of_character, mark_at, mark_len, Thing, over, hash, quote, name, number}
use Rattle.ep_ast.specs.Lexeme.{mark, Gap, Begins, at_end, at_newline, a_hash, a_quote, a_name, a_number, a_character}
use Rattle.ep_ast.specs.Lexeme.{a_mark, Spoilt, bad_number, bad_character, bad_byte, Next, Breaks}
use Rattle.ep_ast.specs.Lexeme.{unclosed as unclosed_comment, spoilt}
use Rattle.ep_ast.specs.Cut.{at_line}
use Rattle.ep_lexer.specs.Step.{thing_at, next, next_from}
use Rattle.ep_lexer.proofs.Cases.{option_cases, is_number}
use Rattle.ep_lexer.proofs.Classes.{letter_word, digit_word, digit_no_letter, word_apart, word_no_blank}
use Rattle.ep_lexer.proofs.Classes.{word_no_comment, word_no_remark, mark_no_word, no_letter, no_digit, mark_no_newline}
use Rattle.ep_lexer.proofs.Classes.{mark_no_hash, mark_no_quote, mark_no_tick, mark_no_blank}
use Rattle.ep_lexer.proofs.Gaps.{Stops, stays, gap_skips, over_at, open_at, gap_is}
use Rattle.ep_lexer.proofs.Skips.{comment_open}

-- where something begins, no blank and no comment stands
pub begins_stops : {bs rest : List ℕ} {t : Thing} → Begins bs t rest → Stops bs
begins_stops at_end = tt
begins_stops (at_newline e) = rw e (refl, refl, refl)
begins_stops (a_hash e) = rw e (refl, refl, refl)
begins_stops (a_quote e) = rw e (refl, refl, refl)
begins_stops (a_name {b} {bs} h) = let w = letter_word b h in
    (word_no_blank b w, word_no_remark b bs w, word_no_comment b bs w)
begins_stops (a_number {b} {bs} n h e) = let w = digit_word b h in
    (word_no_blank b w, word_no_remark b bs w, word_no_comment b bs w)
begins_stops (a_character v k e c) = rw e (refl, refl, refl)
begins_stops (a_mark {b} {bs} n r c e) = (mark_no_blank b bs n e, r, c)

pub spoilt_stops : {bs : List ℕ} {k : ℕ} → Spoilt bs k → Stops bs
spoilt_stops (bad_number {b} {bs} h e) = let w = digit_word b h in
    (word_no_blank b w, word_no_remark b bs w, word_no_comment b bs w)
spoilt_stops (bad_character e c) = rw e (refl, refl, refl)
spoilt_stops (bad_byte h w n r c e) = (h, r, c)

-- each rule is what is read
pub begins_read : {bs rest : List ℕ} {t : Thing} (l : ℕ) → Begins bs t rest → thing_at l bs ≡ Ok (l, t, rest)
unfolding thing_at
begins_read l at_end = refl
begins_read l (at_newline e) = rw e refl
begins_read l (a_hash e) = rw e refl
begins_read l (a_quote e) = rw e refl
begins_read l (a_name {b} {bs} h) = rw (word_apart b 10 (letter_word b h) refl, h) refl
begins_read l (a_number {b} {bs} n h e) = rw (e, word_apart b 10 (digit_word b h) refl, digit_no_letter b h, h) refl
begins_read l (a_character v k e c) = rw (e, c) refl
begins_read l (a_mark {b} {bs} n r c e) =
    let w = mark_no_word b bs n e in
    rw (
      e,
      mark_no_newline b bs n e,
      no_letter b w,
      no_digit b w,
      mark_no_tick b bs n e,
      mark_no_hash b bs n e,
      mark_no_quote b bs n e,
    ) refl

pub four_parts : (a b c d : Bool) → (a || (b || (c || (d || false)))) ≡ false → (a ≡ false) × (b ≡ false) × (c ≡ false)
    × (d ≡ false)
four_parts true b c d h = absurd cc
four_parts false true c d h = absurd cc
four_parts false false true d h = absurd cc
four_parts false false false true h = absurd cc
four_parts false false false false h = (refl, refl, refl, refl)

pub spoilt_read : {bs : List ℕ} {k : ℕ} (l : ℕ) → Spoilt bs k → thing_at l bs ≡ Err (at_line k l)
unfolding thing_at
spoilt_read l (bad_number {b} {bs} h e) = rw (e, word_apart b 10 (digit_word b h) refl, digit_no_letter b h, h) refl
spoilt_read l (bad_character e c) = rw (e, c) refl
spoilt_read l (bad_byte {b} {bs} h w n r c e) =
    let q = four_parts (b == 10) (b == 34) (b == 35) (b == 39) n in
    rw (e, q.0, no_letter b w, no_digit b w, q.3, q.2, q.1) refl

-- and what is read is a rule
pub data ThingIs (l : ℕ) (bs : List ℕ) : Type 0 where
  some_thing : (t : Thing) (rest : List ℕ) → Begins bs t rest → ThingIs l bs
  no_thing : (k : ℕ) → Spoilt bs k → ThingIs l bs

pub thing_is : (l : ℕ) (bs : List ℕ) → Stops bs → ThingIs l bs
thing_is l [] s = some_thing over [] at_end
thing_is l (b ∷ bs) s =
    elim (cases_Bool (b == 10)) [
      | inl h ↦ some_thing over (b ∷ bs) (at_newline (is_number b 10 h))
      | inr n ↦ elim (cases_Bool (is_letter b)) [
        | inl h ↦ some_thing (name (word_text (b ∷ bs))) (after_word (b ∷ bs)) (a_name h)
        | inr a ↦ elim (cases_Bool (is_digit b)) [
          | inl h ↦ elim (option_cases (literal (number_text (b ∷ bs)))) [
            | inl e ↦ no_thing 3 (bad_number h e)
            | inr e ↦ some_thing (number e.0) (after_number (b ∷ bs)) (a_number e.0 h e.1)
          ]
          | inr d ↦ elim (cases_Bool (b == 39)) [
            | inl h ↦ elim (option_cases (character bs)) [
              | inl e ↦ no_thing 3 (bad_character (is_number b 39 h) e)
              | inr e ↦ some_thing (number (of_character e.0.0)) (drop e.0.1 bs)
                  (a_character e.0.0 e.0.1 (is_number b 39 h) e.1)
            ]
            | inr t ↦ elim (cases_Bool (b == 35)) [
              | inl h ↦ some_thing hash bs (a_hash (is_number b 35 h))
              | inr g ↦ elim (cases_Bool (b == 34)) [
                | inl h ↦ some_thing quote bs (a_quote (is_number b 34 h))
                | inr q ↦ elim (option_cases (mark_at (b ∷ bs))) [
                  | inl e ↦ no_thing 1 (bad_byte s.0 (or_from (is_letter b) (is_digit b) a d) (rw (n, q, g, t) refl)
                      s.1 s.2 e)
                  | inr e ↦ some_thing (mark e.0) (drop (mark_len e.0) (b ∷ bs)) (a_mark e.0 s.1 s.2 e.1)
                ]
              ]
            ]
          ]
        ]
      ]
    ]

-- ---- the next thing

pub next_read : {l m : ℕ} {bs rest : List ℕ} {t : Thing} → Next l bs m t rest → next l bs ≡ Ok (m, t, rest)
unfolding next
next_read {l} {m} {bs} {rest} {t} n =
    ap next_from (gap_skips n.gap ∙ stays m n.from (begins_stops n.begins)) ∙ begins_read m n.begins

pub breaks_read : {l k m : ℕ} {bs : List ℕ} → Breaks l bs k m → next l bs ≡ Err (at_line k m)
unfolding next
breaks_read (unclosed_comment {l} {b} {m} {bs} {cs} g o e) = ap next_from (gap_skips g ∙ comment_open m (b ∷ cs) o e)
breaks_read (spoilt {l} {m} {k} {bs} {cs} g s) = ap next_from (gap_skips g ∙ stays m cs (spoilt_stops s))
    ∙ spoilt_read m s

pub data NextIs (l : ℕ) (bs : List ℕ) : Type 0 where
  there : (m : ℕ) (t : Thing) (rest : List ℕ) → Next l bs m t rest → NextIs l bs
  broken : (k m : ℕ) → Breaks l bs k m → NextIs l bs

behind_gap : {l m : ℕ} {bs cs : List ℕ} → Gap l bs m cs → ThingIs m cs → NextIs l bs
behind_gap {l} {m} {bs} {cs} g (some_thing t rest b) = there m t rest (record { from = cs; gap = g; begins = b })
behind_gap {l} {m} {bs} {cs} g (no_thing k s) = broken k m (spoilt g s)

pub next_is : (l : ℕ) (bs : List ℕ) → NextIs l bs
next_is l bs = elim (gap_is l bs) [
  | over_at m cs g s e ↦ behind_gap g (thing_is m cs s)
  | open_at m b cs g o n e ↦ broken 2 m (unclosed_comment g o n)
]
