-- Reading the directives inside a conditional, and telling the directives apart.
use Rattle.std.proofs.Common.{◌≡◌, ℕ, Bool, true, false, cond, ◌||◌, List, [], ◌∷◌, codes, refl, subst, inl, inr}
use Rattle.ep_int.proofs.Basics.{bytes_eq-equal}
use Rattle.std.proofs.lemmas.Bool.{cases_Bool}
use Rattle.std.specs.List.{list_any}
use Rattle.std.specs.Str.{bytes_eq}
use Rattle.ep_ast.specs.Token.{Tok}
use Rattle.ep_ast.specs.Token as token
use Rattle.ep_ast.specs.Lexeme.{Thing, hash, name, Next}
use Rattle.ep_ast.specs.Cut.{Constants, Open, outside, first_arm, second_arm, otherwise, end_if, none, more, is_named}
use Rattle.ep_ast.specs.Cut.{wrong, at_line, directive_kind, Offence, broken_inside, wrong_inside}
use Rattle.ep_lexer.specs.Step.{step, directive_at, word_kind}
use Rattle.ep_lexer.proofs.NextLemmas.{next_read, breaks_read, NextIs, there, broken, next_is}
use Rattle.ep_lexer.proofs.DirectiveLemmas.{at, Outcome, goes, offends, name_cases, over_cases, define_is, include_is}
use Rattle.ep_lexer.proofs.DirectiveLemmas.{condition_is}

closes_first : (a : ℕ) (c : Constants) (bs cs ds : List ℕ) (l m from : ℕ) → Next a bs l hash cs
    → Next l cs m (name (codes "endif")) ds → NextIs m ds → Outcome (at a true c (first_arm from)) bs
unfolding step directive_at
closes_first a c bs cs ds l m from x y (broken j q b) =
    offends (at_line j q) (broken_inside l m q j (name (codes "endif") ∷ []) refl x (more y none) refl refl b)
    (rw (next_read x, next_read y, breaks_read b) refl)
closes_first a c bs cs ds l m from x y (there q t es z) = elim (over_cases t) [
  | inl r ↦
      goes (record { line = q; fresh = false; constants = c; open_arm = outside }) (token.end_if l ∷ []) es
      (end_if l q refl refl x (more y (more (subst (λ (j : Thing). Next m ds q j es) r z) none)))
  | inr r ↦
      offends (wrong 7 l q t) (wrong_inside l m q (name (codes "endif") ∷ []) t refl x (more y none) refl refl z
      (rw r.0 refl) refl) (rw (next_read x, next_read y, next_read z, r.1) refl)
]

closes_second : (a : ℕ) (c : Constants) (bs cs ds : List ℕ) (l m from : ℕ) → Next a bs l hash cs
    → Next l cs m (name (codes "endif")) ds → NextIs m ds → Outcome (at a true c (second_arm from)) bs
unfolding step directive_at
closes_second a c bs cs ds l m from x y (broken j q b) =
    offends (at_line j q) (broken_inside l m q j (name (codes "endif") ∷ []) refl x (more y none) refl refl b)
    (rw (next_read x, next_read y, breaks_read b) refl)
closes_second a c bs cs ds l m from x y (there q t es z) = elim (over_cases t) [
  | inl r ↦
      goes (record { line = q; fresh = false; constants = c; open_arm = outside }) (token.end_if l ∷ []) es
      (end_if l q refl refl x (more y (more (subst (λ (j : Thing). Next m ds q j es) r z) none)))
  | inr r ↦
      offends (wrong 7 l q t) (wrong_inside l m q (name (codes "endif") ∷ []) t refl x (more y none) refl refl z
      (rw r.0 refl) refl) (rw (next_read x, next_read y, next_read z, r.1) refl)
]

turns_is : (a : ℕ) (c : Constants) (bs cs ds : List ℕ) (l m from : ℕ) → Next a bs l hash cs
    → Next l cs m (name (codes "else")) ds → NextIs m ds → Outcome (at a true c (first_arm from)) bs
unfolding step directive_at
turns_is a c bs cs ds l m from x y (broken j q b) =
    offends (at_line j q) (broken_inside l m q j (name (codes "else") ∷ []) refl x (more y none) refl refl b)
    (rw (next_read x, next_read y, breaks_read b) refl)
turns_is a c bs cs ds l m from x y (there q t es z) = elim (over_cases t) [
  | inl r ↦
      goes (record { line = q; fresh = false; constants = c; open_arm = second_arm from }) (token.other l ∷ []) es
      (otherwise l q from refl refl x (more y (more (subst (λ (j : Thing). Next m ds q j es) r z) none)))
  | inr r ↦
      offends (wrong 7 l q t) (wrong_inside l m q (name (codes "else") ∷ []) t refl x (more y none) refl refl z
      (rw r.0 refl) refl) (rw (next_read x, next_read y, next_read z, r.1) refl)
]

pub renamed : {m n : ℕ} {bs cs : List ℕ} (w v : List ℕ) → bytes_eq w v ≡ true → Next m bs n (name w) cs
    → Next m bs n (name v) cs
renamed {m} {n} {bs} {cs} w v e x = subst (λ (t : List ℕ). Next m bs n (name t) cs) (bytes_eq-equal w v e) x

-- ---- by the word behind `#`

word_in_second : (a : ℕ) (c : Constants) (bs cs ds w : List ℕ) (l m from : ℕ) → Next a bs l hash cs
    → Next l cs m (name w) ds → Outcome (at a true c (second_arm from)) bs
unfolding step directive_at
word_in_second a c bs cs ds w l m from x y = elim (cases_Bool (bytes_eq w (codes "endif"))) [
  | inl h ↦ closes_second a c bs cs ds l m from x (renamed w (codes "endif") h y) (next_is m ds)
  | inr h ↦ offends (at_line 7 l) (wrong_inside l l m [] (name w) refl x none refl refl y (rw h refl) refl)
      (rw (next_read x, next_read y, h) refl)
]

word_in_first : (a : ℕ) (c : Constants) (bs cs ds w : List ℕ) (l m from : ℕ) → Next a bs l hash cs
    → Next l cs m (name w) ds → Outcome (at a true c (first_arm from)) bs
unfolding step directive_at
word_in_first a c bs cs ds w l m from x y = elim (cases_Bool (bytes_eq w (codes "endif"))) [
  | inl h ↦ closes_first a c bs cs ds l m from x (renamed w (codes "endif") h y) (next_is m ds)
  | inr h ↦ elim (cases_Bool (bytes_eq w (codes "else"))) [
    | inl k ↦ turns_is a c bs cs ds l m from x (renamed w (codes "else") k y) (next_is m ds)
    | inr k ↦ offends (at_line 7 l) (wrong_inside l l m [] (name w) refl x none refl refl y (rw (h, k) refl) refl)
        (rw (next_read x, next_read y, h, k) refl)
  ]
]

kinds : (x y z : Bool) (u v : ℕ) → cond (x || (y || (z || false))) u v ≡ cond ((x || y) || z) u v
kinds true y z u v = refl
kinds false true z u v = refl
kinds false false true u v = refl
kinds false false false u v = refl

pub kind_outside : (c : Constants) (w : List ℕ) → bytes_eq w (codes "if") ≡ false → bytes_eq w (codes "include") ≡ false
    → directive_kind (at 0 true c outside) (name w ∷ []) ≡ word_kind w
kind_outside c w h k = rw (h, k) (kinds (bytes_eq w (codes "elif")) (bytes_eq w (codes "else"))
    (bytes_eq w (codes "endif")) 7 5)

word_outside : (a : ℕ) (c : Constants) (bs cs ds w : List ℕ) (l m : ℕ) → Next a bs l hash cs → Next l cs m (name w) ds
    → Outcome (at a true c outside) bs
unfolding step directive_at
word_outside a c bs cs ds w l m x y = elim (cases_Bool (bytes_eq w (codes "define"))) [
  | inl h ↦ define_is a c bs cs ds l m x (renamed w (codes "define") h y)
  | inr h ↦ elim (cases_Bool (bytes_eq w (codes "include"))) [
    | inl i ↦ include_is a c bs cs ds l m x (renamed w (codes "include") i y)
    | inr i ↦ elim (cases_Bool (bytes_eq w (codes "if"))) [
      | inl k ↦ condition_is a c bs cs ds l m x (renamed w (codes "if") k y)
      | inr k ↦
          let wrong_word : Offence (at a true c outside) bs
          (at_line (directive_kind (at 0 true c outside) (name w ∷ [])) l) =
          wrong_inside l l m [] (name w) refl x none refl refl y (rw (h, i, k) refl) refl in
          offends (at_line (word_kind w) l) (subst (λ (j : ℕ). Offence (at a true c outside) bs (at_line j l))
          (kind_outside c w k i) wrong_word)
          (rw (next_read x, next_read y, h, i, k) refl)
    ]
  ]
]

-- ---- by what stands behind `#`

other_outside : (a : ℕ) (c : Constants) (bs cs ds : List ℕ) (l m : ℕ) (t : Thing) → Next a bs l hash cs
    → Next l cs m t ds → ((f : List ℕ → Bool) → is_named f t ≡ false)
    → Offence (at a true c outside) bs (wrong 5 l m t)
other_outside a c bs cs ds l m t x y f =
    let kind : directive_kind (at a true c outside) (t ∷ []) ≡ 5 =
    rw (
      f (λ w. list_any (bytes_eq w) (codes "if" ∷ codes "elif" ∷ codes "else" ∷ codes "endif" ∷ [])),
      f (λ w. bytes_eq w (codes "include")),
    ) refl in
    subst (λ (j : ℕ). Offence (at a true c outside) bs (wrong j l m t)) kind
    (wrong_inside l l m [] t refl x none refl refl y (rw (
      f (λ w. bytes_eq w (codes "define")),
      f (λ w. bytes_eq w (codes "include")),
      f (λ w. bytes_eq w (codes "if")),
    ) refl) refl)

thing_outside : (a : ℕ) (c : Constants) (bs cs : List ℕ) (l : ℕ) → Next a bs l hash cs → NextIs l cs
    → Outcome (at a true c outside) bs
unfolding step directive_at
thing_outside a c bs cs l x (broken k n b) = offends (at_line k n) (broken_inside l l n k [] refl x none refl refl b)
    (rw (next_read x, breaks_read b) refl)
thing_outside a c bs cs l x (there m t ds y) = elim (name_cases t) [
  | inl q ↦ word_outside a c bs cs ds q.0 l m x (subst (λ (j : Thing). Next l cs m j ds) q.1 y)
  | inr q ↦ offends (wrong 5 l m t) (other_outside a c bs cs ds l m t x y q.0) (rw (next_read x, next_read y, q.1) refl)
]

thing_in_first : (a : ℕ) (c : Constants) (bs cs : List ℕ) (l from : ℕ) → Next a bs l hash cs → NextIs l cs
    → Outcome (at a true c (first_arm from)) bs
unfolding step directive_at
thing_in_first a c bs cs l from x (broken k n b) = offends (at_line k n)
    (broken_inside l l n k [] refl x none refl refl b) (rw (next_read x, breaks_read b) refl)
thing_in_first a c bs cs l from x (there m t ds y) = elim (name_cases t) [
  | inl q ↦ word_in_first a c bs cs ds q.0 l m from x (subst (λ (j : Thing). Next l cs m j ds) q.1 y)
  | inr q ↦
      offends (wrong 7 l m t) (wrong_inside l l m [] t refl x none refl refl y
      (rw (q.0 (λ w. bytes_eq w (codes "endif")), q.0 (λ w. bytes_eq w (codes "else"))) refl) refl)
      (rw (next_read x, next_read y, q.1) refl)
]

thing_in_second : (a : ℕ) (c : Constants) (bs cs : List ℕ) (l from : ℕ) → Next a bs l hash cs → NextIs l cs
    → Outcome (at a true c (second_arm from)) bs
unfolding step directive_at
thing_in_second a c bs cs l from x (broken k n b) = offends (at_line k n)
    (broken_inside l l n k [] refl x none refl refl b) (rw (next_read x, breaks_read b) refl)
thing_in_second a c bs cs l from x (there m t ds y) = elim (name_cases t) [
  | inl q ↦ word_in_second a c bs cs ds q.0 l m from x (subst (λ (j : Thing). Next l cs m j ds) q.1 y)
  | inr q ↦ offends (wrong 7 l m t) (wrong_inside l l m [] t refl x none refl refl y
      (rw (q.0 (λ w. bytes_eq w (codes "endif"))) refl) refl) (rw (next_read x, next_read y, q.1) refl)
]

pub directive_is : (a : ℕ) (c : Constants) (o : Open) (bs cs : List ℕ) (l : ℕ) → Next a bs l hash cs
    → Outcome (at a true c o) bs
directive_is a c outside bs cs l x = thing_outside a c bs cs l x (next_is l cs)
directive_is a c (first_arm from) bs cs l x = thing_in_first a c bs cs l from x (next_is l cs)
directive_is a c (second_arm from) bs cs l x = thing_in_second a c bs cs l from x (next_is l cs)
