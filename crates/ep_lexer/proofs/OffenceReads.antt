-- Each offence is what is read.
use Rattle.std.proofs.Common.{◌≡◌, ℕ, Bool, true, false, cond, ◌&&◌, ◌||◌, ◌==◌, List, [], ◌∷◌, codes, Option, Some}
use Rattle.ep_int.proofs.Basics.{bytes_eq-equal}
use Rattle.ep_lexer.proofs.ArmLemmas.{renamed}
use Rattle.ep_lexer.proofs.NextLemmas.{four_parts}
use Rattle.std.proofs.lemmas.Bool.{cases_Bool}
use Rattle.std.proofs.lemmas.Bool.{and_parts, or_parts}
use Rattle.std.proofs.Common.{None, Err, refl, sym, ◌∙◌, subst, nat_eq, arith, inl, inr}
use Rattle.std.proofs.lemmas.Bool.Decides.{nat_tests}
use Rattle.std.specs.List.{list_any, starts_with}
use Rattle.std.specs.Str.{bytes_eq}
use Rattle.ep_ast.specs.declared.refusals.Refusal.{Refusal}
use Rattle.ep_ast.specs.Lexeme.{Thing, over, hash, name, mark_at, Next, Spoilt, bad_number, bad_character, bad_byte}
use Rattle.ep_ast.specs.Lexeme.{spoilt, unclosed as unclosed_comment}
use Rattle.ep_ast.specs.Cut.{Constants, Position, Open, outside, first_arm, second_arm, opened_at, Stand, none, more}
use Rattle.ep_ast.specs.Cut.{after, headers, may_begin, directive_kind, is_over, pass, wrong, at_line, Offence}
use Rattle.ep_ast.specs.Cut.{broken as broken_here, stray_quote, stray_hash, reserved_word, no_end_if, broken_inside}
use Rattle.ep_ast.specs.Cut.{wrong_inside, no_header, broken_header, behind_header}
use Rattle.ep_lexer.specs.Step.{step, directive_at}
use Rattle.ep_lexer.proofs.Cases.{true_false, no_number}
use Rattle.ep_lexer.proofs.Classes.{from, digit_word}
use Rattle.ep_lexer.proofs.Gaps.{gap_skips}
use Rattle.ep_lexer.proofs.Skips.{comment_open}
use Rattle.ep_lexer.proofs.NextLemmas.{next_read, breaks_read, begins_read, spoilt_read, begins_stops, spoilt_stops}
use Rattle.ep_lexer.proofs.Pieces.{header_read}
use Rattle.ep_lexer.proofs.DirectiveLemmas.{at, name_cases, over_cases, missing_read, open_read}
use Rattle.ep_lexer.proofs.ArmLemmas.{kind_outside}
use Rattle.ep_lexer.proofs.OffenceLemmas.{Behind, something_broken, something_wrong, or_false, no_and}
use Rattle.ep_lexer.proofs.OffenceLemmas.{define_things, condition_things}

-- ---- `#include`

-- a header name begins with `<` or `"`
no_header_at : (b : ℕ) (bs : List ℕ) → 60 == b ≡ false → 34 == b ≡ false → after headers (b ∷ bs) ≡ None
no_header_at b bs h k = rw (h, k) refl

three : (x y z : Bool) → cond {A = Option ℕ} x (Some 1)
    (cond {A = Option ℕ} y (Some 6) (cond {A = Option ℕ} z (Some 8) (Some 37))) ≡ None → ⊥
three true y z e = cc
three false true z e = cc
three false false true e = cc
three false false false e = cc

less_is_mark : (bs : List ℕ) → mark_at (60 ∷ bs) ≡ None → ⊥
less_is_mark bs e =
    three (starts_with nat_eq (60 ∷ bs) (codes "<<=")) (starts_with nat_eq (60 ∷ bs) (codes "<<"))
    (starts_with nat_eq (60 ∷ bs) (codes "<=")) e

flip : (b c : ℕ) → b == c ≡ false → c == b ≡ false
flip b c h = grind (arith, nat_tests)

spoilt_no_header : {bs : List ℕ} {k : ℕ} → Spoilt bs k → after headers bs ≡ None
spoilt_no_header (bad_number {b} {bs} h e) = no_header_at b bs (from b 60 (digit_word b h) refl)
    (from b 34 (digit_word b h) refl)
spoilt_no_header (bad_character {b} {bs} h e) = rw h refl
spoilt_no_header (bad_byte {b} {bs} h w n r c e) =
    let q = four_parts (b == 10) (b == 34) (b == 35) (b == 39) n in
    let k = no_number 60 b (λ j. less_is_mark bs (subst (λ (x : ℕ). mark_at (x ∷ bs) ≡ None) (sym j) e)) in
    no_header_at b bs k (flip b 34 q.1)

include_1 : (a : ℕ) (c : Constants) (bs cs ds : List ℕ) (l m : ℕ) (r : Refusal)
    → Next a bs l hash cs → Next l cs m (name (codes "include")) ds
    → Behind (at a true c outside) l (name (codes "include") ∷ []) m ds r → step (at a true c outside) bs ≡ Err r
unfolding step directive_at
include_1 a c bs cs ds l m r x y (something_broken k n (unclosed_comment {b = b} {cs = es} g o p)) =
    rw (next_read x, next_read y, open_read m ds l (gap_skips g ∙ comment_open n (b ∷ es) o p)) refl
include_1 a c bs cs ds l m r x y (something_broken k n (spoilt g s)) =
    rw (next_read x, next_read y, missing_read l g (spoilt_stops s) (spoilt_no_header s), spoilt_read n s) refl
include_1 a c bs cs ds l m r x y (something_wrong n t es z h d) = absurd (true_false refl d)

include_things : (a : ℕ) (c : Constants) (bs cs ds hs : List ℕ) (l m j : ℕ) (ts : List Thing) (r : Refusal)
    → Next a bs l hash cs → Next l cs m (name (codes "include")) ds
    → Stand m ds ts j hs → may_begin (at a true c outside) (name (codes "include") ∷ ts) ≡ true
    → Behind (at a true c outside) l (name (codes "include") ∷ ts) j hs r → step (at a true c outside) bs ≡ Err r
include_things a c bs cs ds hs l m j ts r x y none b q = include_1 a c bs cs ds l m r x y q
include_things a c bs cs ds hs l m j ts r x y (more {t = t} {ts = us} g s) b q = absurd (true_false b refl)

-- ---- the first word of a directive outside conditionals

retold : {p : Position} {l j : ℕ} {hs : List ℕ} {ts : List Thing} {r : Refusal} (w v : List ℕ) → bytes_eq w v ≡ true
    → Behind p l (name w ∷ ts) j hs r → Behind p l (name v ∷ ts) j hs r
retold {p} {l} {j} {hs} {ts} {r} w v e b = subst (λ (t : List ℕ). Behind p l (name t ∷ ts) j hs r) (bytes_eq-equal w v e) b

begun : (p : Position) (ts : List Thing) (w v : List ℕ) → bytes_eq w v ≡ true → may_begin p (name w ∷ ts) ≡ true
    → may_begin p (name v ∷ ts) ≡ true
begun p ts w v e b = subst (λ (t : List ℕ). may_begin p (name t ∷ ts) ≡ true) (bytes_eq-equal w v e) b

word_outside : (a : ℕ) (c : Constants) (bs cs ds hs w : List ℕ) (l m j : ℕ) (ts : List Thing) (r : Refusal)
    → Next a bs l hash cs → Next l cs m (name w) ds → Stand m ds ts j hs → list_any is_over ts ≡ false
    → may_begin (at a true c outside) (name w ∷ ts) ≡ true
    → Behind (at a true c outside) l (name w ∷ ts) j hs r → step (at a true c outside) bs ≡ Err r
word_outside a c bs cs ds hs w l m j ts r x y s o b q = elim (cases_Bool (bytes_eq w (codes "define"))) [
  | inl h ↦ define_things a c bs cs ds hs l m j ts r x (renamed w (codes "define") h y) s o
      (begun (at a true c outside) ts w (codes "define") h b) (retold w (codes "define") h q)
  | inr h ↦ elim (cases_Bool (bytes_eq w (codes "include"))) [
    | inl i ↦ include_things a c bs cs ds hs l m j ts r x (renamed w (codes "include") i y) s
        (begun (at a true c outside) ts w (codes "include") i b) (retold w (codes "include") i q)
    | inr i ↦ elim (cases_Bool (bytes_eq w (codes "if"))) [
      | inl k ↦ condition_things a c bs cs ds hs l m j ts r x (renamed w (codes "if") k y) s o
          (begun (at a true c outside) ts w (codes "if") k b) (retold w (codes "if") k q)
      | inr k ↦
          let f : may_begin (at a true c outside) (name w ∷ ts) ≡ false = rw (h, i, k) refl in
          absurd (true_false b f)
    ]
  ]
]

first_word : (a : ℕ) (c : Constants) (bs cs es w : List ℕ) (l n : ℕ) → Next a bs l hash cs → Next l cs n (name w) es
    → may_begin (at a true c outside) (name w ∷ []) ≡ false
    → step (at a true c outside) bs ≡ Err (at_line (directive_kind (at 0 true c outside) (name w ∷ [])) l)
unfolding step directive_at
first_word a c bs cs es w l n x y h =
    let p = or_parts (bytes_eq w (codes "define") && true)
    ((bytes_eq w (codes "include") && true) || ((bytes_eq w (codes "if") && true) || false)) h in
    let q = or_parts (bytes_eq w (codes "include") && true) ((bytes_eq w (codes "if") && true) || false) p.1 in
    let r = or_parts (bytes_eq w (codes "if") && true) false q.1 in
    let d = no_and (bytes_eq w (codes "define")) p.0 in
    let i = no_and (bytes_eq w (codes "include")) q.0 in
    let f = no_and (bytes_eq w (codes "if")) r.0 in
    rw (kind_outside c w f i, next_read x, next_read y, d, i, f) refl

first_outside : (a : ℕ) (c : Constants) (bs cs : List ℕ) (l : ℕ) (r : Refusal) → Next a bs l hash cs
    → Behind (at a true c outside) l [] l cs r → step (at a true c outside) bs ≡ Err r
unfolding step directive_at
first_outside a c bs cs l r x (something_broken k n b) = rw (next_read x, breaks_read b) refl
first_outside a c bs cs l r x (something_wrong n t es y h d) = elim (name_cases t) [
  | inl q ↦
      let y' = subst (λ (j : Thing). Next l cs n j es) q.1 y in
      let h' = subst (λ (j : Thing). may_begin (at a true c outside) (j ∷ []) ≡ false) q.1 h in
      subst (λ (j : Thing). step (at a true c outside) bs ≡ Err
      (wrong (directive_kind (at a true c outside) (j ∷ [])) l n j)) (sym q.1)
      (first_word a c bs cs es q.0 l n x y' h')
  | inr q ↦ rw (
    next_read x,
    next_read y,
    q.1,
    q.0 (λ w. list_any (bytes_eq w)
        (codes "if" ∷ codes "elif" ∷ codes "else" ∷ codes "endif" ∷ [])),
    q.0 (λ w. bytes_eq w (codes "include")),
  ) refl
]

pub outside_read : (a : ℕ) (c : Constants) (bs cs hs : List ℕ) (l j : ℕ) (ts : List Thing) (r : Refusal)
    → Next a bs l hash cs → Stand l cs ts j hs → list_any is_over ts ≡ false → may_begin (at a true c outside) ts ≡ true
    → Behind (at a true c outside) l ts j hs r → step (at a true c outside) bs ≡ Err r
outside_read a c bs cs hs l j ts r x none o b q = first_outside a c bs cs l r x q
outside_read a c bs cs hs l j ts r x (more {m = m} {cs = ds} {t = t} {ts = us} y s) o b q = elim (name_cases t) [
  | inl k ↦
      word_outside a c bs cs ds hs k.0 l m j us r x (subst (λ (v : Thing). Next l cs m v ds) k.1 y) s
      (or_parts (is_over t) (list_any is_over us) o).1
      (subst (λ (v : Thing). may_begin (at a true c outside) (v ∷ us) ≡ true) k.1 b)
      (subst (λ (v : Thing). Behind (at a true c outside) l (v ∷ us) j hs r) k.1 q)
  | inr k ↦
      let f : may_begin (at a true c outside) (t ∷ us) ≡ false =
      rw (
        k.0 (λ w. bytes_eq w (codes "define")),
        k.0 (λ w. bytes_eq w (codes "include")),
        k.0 (λ w. bytes_eq w (codes "if")),
      ) refl in
      absurd (true_false b f)
]

-- ---- inside a conditional

-- the end of the line is wanted behind these words
first_end : (a : ℕ) (c : Constants) (bs cs ds : List ℕ) (l m from : ℕ) (r : Refusal) → Next a bs l hash cs
    → Next l cs m (name (codes "endif")) ds
    → Behind (at a true c (first_arm from)) l (name (codes "endif") ∷ []) m ds r
    → step (at a true c (first_arm from)) bs ≡ Err r
unfolding step directive_at
first_end a c bs cs ds l m from r x y (something_broken k n b) = rw (next_read x, next_read y, breaks_read b) refl
first_end a c bs cs ds l m from r x y (something_wrong n t es z h d) = elim (over_cases t) [
  | inl q ↦
      absurd (true_false (subst (λ (j : Thing). may_begin (at a true c (first_arm from))
      (name (codes "endif") ∷ j ∷ []) ≡ true) (sym q) refl) h)
  | inr q ↦ rw (next_read x, next_read y, next_read z, q.1) refl
]

first_else : (a : ℕ) (c : Constants) (bs cs ds : List ℕ) (l m from : ℕ) (r : Refusal) → Next a bs l hash cs
    → Next l cs m (name (codes "else")) ds
    → Behind (at a true c (first_arm from)) l (name (codes "else") ∷ []) m ds r
    → step (at a true c (first_arm from)) bs ≡ Err r
unfolding step directive_at
first_else a c bs cs ds l m from r x y (something_broken k n b) = rw (next_read x, next_read y, breaks_read b) refl
first_else a c bs cs ds l m from r x y (something_wrong n t es z h d) = elim (over_cases t) [
  | inl q ↦
      absurd (true_false (subst (λ (j : Thing). may_begin (at a true c (first_arm from))
      (name (codes "else") ∷ j ∷ []) ≡ true) (sym q) refl) h)
  | inr q ↦ rw (next_read x, next_read y, next_read z, q.1) refl
]

second_end : (a : ℕ) (c : Constants) (bs cs ds : List ℕ) (l m from : ℕ) (r : Refusal) → Next a bs l hash cs
    → Next l cs m (name (codes "endif")) ds
    → Behind (at a true c (second_arm from)) l (name (codes "endif") ∷ []) m ds r
    → step (at a true c (second_arm from)) bs ≡ Err r
unfolding step directive_at
second_end a c bs cs ds l m from r x y (something_broken k n b) = rw (next_read x, next_read y, breaks_read b) refl
second_end a c bs cs ds l m from r x y (something_wrong n t es z h d) = elim (over_cases t) [
  | inl q ↦
      absurd (true_false (subst (λ (j : Thing). may_begin (at a true c (second_arm from))
      (name (codes "endif") ∷ j ∷ []) ≡ true) (sym q) refl) h)
  | inr q ↦ rw (next_read x, next_read y, next_read z, q.1) refl
]

first_ends : (a : ℕ) (c : Constants) (bs cs ds hs : List ℕ) (l m j from : ℕ) (ts : List Thing) (r : Refusal)
    → Next a bs l hash cs → Next l cs m (name (codes "endif")) ds
    → Stand m ds ts j hs → list_any is_over ts ≡ false
    → may_begin (at a true c (first_arm from)) (name (codes "endif") ∷ ts) ≡ true
    → Behind (at a true c (first_arm from)) l (name (codes "endif") ∷ ts) j hs r
    → step (at a true c (first_arm from)) bs ≡ Err r
first_ends a c bs cs ds hs l m j from ts r x y none o b q = first_end a c bs cs ds l m from r x y q
first_ends a c bs cs ds hs l m j from ts r x y (more {t = t} {ts = us} g s) o b q =
    absurd (true_false (and_parts (is_over t) (pass [] us) (or_false _ b)).0
    (or_parts (is_over t) (list_any is_over us) o).0)

first_elses : (a : ℕ) (c : Constants) (bs cs ds hs : List ℕ) (l m j from : ℕ) (ts : List Thing) (r : Refusal)
    → Next a bs l hash cs → Next l cs m (name (codes "else")) ds
    → Stand m ds ts j hs → list_any is_over ts ≡ false
    → may_begin (at a true c (first_arm from)) (name (codes "else") ∷ ts) ≡ true
    → Behind (at a true c (first_arm from)) l (name (codes "else") ∷ ts) j hs r
    → step (at a true c (first_arm from)) bs ≡ Err r
first_elses a c bs cs ds hs l m j from ts r x y none o b q = first_else a c bs cs ds l m from r x y q
first_elses a c bs cs ds hs l m j from ts r x y (more {t = t} {ts = us} g s) o b q =
    absurd (true_false (and_parts (is_over t) (pass [] us) (or_false _ b)).0
    (or_parts (is_over t) (list_any is_over us) o).0)

second_ends : (a : ℕ) (c : Constants) (bs cs ds hs : List ℕ) (l m j from : ℕ) (ts : List Thing) (r : Refusal)
    → Next a bs l hash cs → Next l cs m (name (codes "endif")) ds
    → Stand m ds ts j hs → list_any is_over ts ≡ false
    → may_begin (at a true c (second_arm from)) (name (codes "endif") ∷ ts) ≡ true
    → Behind (at a true c (second_arm from)) l (name (codes "endif") ∷ ts) j hs r
    → step (at a true c (second_arm from)) bs ≡ Err r
second_ends a c bs cs ds hs l m j from ts r x y none o b q = second_end a c bs cs ds l m from r x y q
second_ends a c bs cs ds hs l m j from ts r x y (more {t = t} {ts = us} g s) o b q =
    absurd (true_false (and_parts (is_over t) (pass [] us) (or_false _ b)).0
    (or_parts (is_over t) (list_any is_over us) o).0)

first_words : (a : ℕ) (c : Constants) (bs cs ds hs w : List ℕ) (l m j from : ℕ) (ts : List Thing) (r : Refusal)
    → Next a bs l hash cs → Next l cs m (name w) ds → Stand m ds ts j hs → list_any is_over ts ≡ false
    → may_begin (at a true c (first_arm from)) (name w ∷ ts) ≡ true
    → Behind (at a true c (first_arm from)) l (name w ∷ ts) j hs r → step (at a true c (first_arm from)) bs ≡ Err r
first_words a c bs cs ds hs w l m j from ts r x y s o b q = elim (cases_Bool (bytes_eq w (codes "endif"))) [
  | inl h ↦ first_ends a c bs cs ds hs l m j from ts r x (renamed w (codes "endif") h y) s o
      (begun (at a true c (first_arm from)) ts w (codes "endif") h b) (retold w (codes "endif") h q)
  | inr h ↦ elim (cases_Bool (bytes_eq w (codes "else"))) [
    | inl i ↦ first_elses a c bs cs ds hs l m j from ts r x (renamed w (codes "else") i y) s o
        (begun (at a true c (first_arm from)) ts w (codes "else") i b) (retold w (codes "else") i q)
    | inr i ↦
        let f : may_begin (at a true c (first_arm from)) (name w ∷ ts) ≡ false = rw (h, i) refl in
        absurd (true_false b f)
  ]
]

second_words : (a : ℕ) (c : Constants) (bs cs ds hs w : List ℕ) (l m j from : ℕ) (ts : List Thing) (r : Refusal)
    → Next a bs l hash cs → Next l cs m (name w) ds → Stand m ds ts j hs → list_any is_over ts ≡ false
    → may_begin (at a true c (second_arm from)) (name w ∷ ts) ≡ true
    → Behind (at a true c (second_arm from)) l (name w ∷ ts) j hs r → step (at a true c (second_arm from)) bs ≡ Err r
second_words a c bs cs ds hs w l m j from ts r x y s o b q = elim (cases_Bool (bytes_eq w (codes "endif"))) [
  | inl h ↦ second_ends a c bs cs ds hs l m j from ts r x (renamed w (codes "endif") h y) s o
      (begun (at a true c (second_arm from)) ts w (codes "endif") h b) (retold w (codes "endif") h q)
  | inr h ↦
      let f : may_begin (at a true c (second_arm from)) (name w ∷ ts) ≡ false = rw h refl in
      absurd (true_false b f)
]

in_first : (a : ℕ) (c : Constants) (bs cs : List ℕ) (l from : ℕ) (r : Refusal) → Next a bs l hash cs
    → Behind (at a true c (first_arm from)) l [] l cs r → step (at a true c (first_arm from)) bs ≡ Err r
unfolding step directive_at
in_first a c bs cs l from r x (something_broken k n b) = rw (next_read x, breaks_read b) refl
in_first a c bs cs l from r x (something_wrong n t es y h d) = elim (name_cases t) [
  | inl q ↦
      let y' = subst (λ (j : Thing). Next l cs n j es) q.1 y in
      let h' = subst (λ (j : Thing). may_begin (at a true c (first_arm from)) (j ∷ []) ≡ false) q.1 h in
      let p = or_parts (bytes_eq q.0 (codes "endif") && true) ((bytes_eq q.0 (codes "else") && true) || false) h' in
      let e = no_and (bytes_eq q.0 (codes "endif")) p.0 in
      let f = no_and (bytes_eq q.0 (codes "else")) (or_parts (bytes_eq q.0 (codes "else") && true) false p.1).0 in
      subst (λ (j : Thing). step (at a true c (first_arm from)) bs ≡ Err (wrong 7 l n j)) (sym q.1)
      (rw (next_read x, next_read y', e, f) refl)
  | inr q ↦ rw (next_read x, next_read y, q.1) refl
]

in_second : (a : ℕ) (c : Constants) (bs cs : List ℕ) (l from : ℕ) (r : Refusal) → Next a bs l hash cs
    → Behind (at a true c (second_arm from)) l [] l cs r → step (at a true c (second_arm from)) bs ≡ Err r
unfolding step directive_at
in_second a c bs cs l from r x (something_broken k n b) = rw (next_read x, breaks_read b) refl
in_second a c bs cs l from r x (something_wrong n t es y h d) = elim (name_cases t) [
  | inl q ↦
      let y' = subst (λ (j : Thing). Next l cs n j es) q.1 y in
      let h' = subst (λ (j : Thing). may_begin (at a true c (second_arm from)) (j ∷ []) ≡ false) q.1 h in
      let e = no_and (bytes_eq q.0 (codes "endif")) (or_parts (bytes_eq q.0 (codes "endif") && true) false h').0 in
      subst (λ (j : Thing). step (at a true c (second_arm from)) bs ≡ Err (wrong 7 l n j)) (sym q.1)
      (rw (next_read x, next_read y', e) refl)
  | inr q ↦ rw (next_read x, next_read y, q.1) refl
]

first_read : (a : ℕ) (c : Constants) (bs cs hs : List ℕ) (l j from : ℕ) (ts : List Thing) (r : Refusal)
    → Next a bs l hash cs → Stand l cs ts j hs → list_any is_over ts ≡ false
    → may_begin (at a true c (first_arm from)) ts ≡ true
    → Behind (at a true c (first_arm from)) l ts j hs r → step (at a true c (first_arm from)) bs ≡ Err r
first_read a c bs cs hs l j from ts r x none o b q = in_first a c bs cs l from r x q
first_read a c bs cs hs l j from ts r x (more {m = m} {cs = ds} {t = t} {ts = us} y s) o b q = elim (name_cases t) [
  | inl k ↦
      first_words a c bs cs ds hs k.0 l m j from us r x (subst (λ (v : Thing). Next l cs m v ds) k.1 y) s
      (or_parts (is_over t) (list_any is_over us) o).1
      (subst (λ (v : Thing). may_begin (at a true c (first_arm from)) (v ∷ us) ≡ true) k.1 b)
      (subst (λ (v : Thing). Behind (at a true c (first_arm from)) l (v ∷ us) j hs r) k.1 q)
  | inr k ↦
      let f : may_begin (at a true c (first_arm from)) (t ∷ us) ≡ false =
      rw (k.0 (λ w. bytes_eq w (codes "endif")), k.0 (λ w. bytes_eq w (codes "else"))) refl in
      absurd (true_false b f)
]

second_read : (a : ℕ) (c : Constants) (bs cs hs : List ℕ) (l j from : ℕ) (ts : List Thing) (r : Refusal)
    → Next a bs l hash cs → Stand l cs ts j hs → list_any is_over ts ≡ false
    → may_begin (at a true c (second_arm from)) ts ≡ true
    → Behind (at a true c (second_arm from)) l ts j hs r → step (at a true c (second_arm from)) bs ≡ Err r
second_read a c bs cs hs l j from ts r x none o b q = in_second a c bs cs l from r x q
second_read a c bs cs hs l j from ts r x (more {m = m} {cs = ds} {t = t} {ts = us} y s) o b q = elim (name_cases t) [
  | inl k ↦
      second_words a c bs cs ds hs k.0 l m j from us r x (subst (λ (v : Thing). Next l cs m v ds) k.1 y) s
      (or_parts (is_over t) (list_any is_over us) o).1
      (subst (λ (v : Thing). may_begin (at a true c (second_arm from)) (v ∷ us) ≡ true) k.1 b)
      (subst (λ (v : Thing). Behind (at a true c (second_arm from)) l (v ∷ us) j hs r) k.1 q)
  | inr k ↦
      let f : may_begin (at a true c (second_arm from)) (t ∷ us) ≡ false =
      rw (k.0 (λ w. bytes_eq w (codes "endif"))) refl in
      absurd (true_false b f)
]

inside_read : (a : ℕ) (c : Constants) (o : Open) (bs cs hs : List ℕ) (l j : ℕ) (ts : List Thing) (r : Refusal)
    → Next a bs l hash cs → Stand l cs ts j hs → list_any is_over ts ≡ false → may_begin (at a true c o) ts ≡ true
    → Behind (at a true c o) l ts j hs r → step (at a true c o) bs ≡ Err r
inside_read a c outside bs cs hs l j ts r x s k b q = outside_read a c bs cs hs l j ts r x s k b q
inside_read a c (first_arm from) bs cs hs l j ts r x s k b q = first_read a c bs cs hs l j from ts r x s k b q
inside_read a c (second_arm from) bs cs hs l j ts r x s k b q = second_read a c bs cs hs l j from ts r x s k b q

-- ---- all offences

unclosed_read : (a : ℕ) (f : Bool) (c : Constants) (o : Open) (bs : List ℕ) (m from : ℕ) → Next a bs m over []
    → opened_at o ≡ Some from → step (at a f c o) bs ≡ Err (at_line 7 from)
unfolding step
unclosed_read a f c o bs m from x e = rw (next_read x, e) refl

offence_at : (a : ℕ) (f : Bool) (c : Constants) (o : Open) (bs : List ℕ) (r : Refusal) → Offence (at a f c o) bs r
    → step (at a f c o) bs ≡ Err r
unfolding step directive_at
offence_at a f c o bs r (broken_here k m b) = rw (breaks_read b) refl
offence_at a f c o bs r (stray_quote m x) = rw (next_read x) refl
offence_at a f c o bs r (stray_hash m x h) = rw (next_read x, h) refl
offence_at a f c o bs r (reserved_word m n t x e) = rw (next_read x, e) refl
offence_at a f c o bs r (no_end_if m from x e) = unclosed_read a f c o bs m from x e
offence_at a true c o bs r (broken_inside l m n k ts h x s v b g) =
    inside_read a c o bs _ _ l m ts r x s v b (something_broken k n g)
offence_at a false c o bs r (broken_inside l m n k ts h x s v b g) = absurd (true_false h refl)
offence_at a true c o bs r (wrong_inside {es = es} l m n ts t h x s v b y e d) =
    inside_read a c o bs _ _ l m ts r x s v b (something_wrong n t es y e d)
offence_at a false c o bs r (wrong_inside l m n ts t h x s v b y e d) = absurd (true_false h refl)
offence_at a f c o bs r (no_header l m n t h k x (more y none) g b e) =
    rw (next_read x, h, k, next_read y, missing_read l g (begins_stops b) e, begins_read n b) refl
offence_at a f c o bs r (broken_header l m n k j h i x (more y none) g e b) =
    rw (next_read x, h, i, next_read y, header_read l g e, breaks_read b) refl
offence_at a f c o bs r (behind_header l m n j t h i x (more y none) g e z v) = elim (over_cases t) [
  | inl q ↦ absurd (true_false (subst (λ (w : Thing). is_over w ≡ true) (sym q) refl) v)
  | inr q ↦ rw (next_read x, h, i, next_read y, header_read l g e, next_read z, q.1) refl
]

pub offence_read : {p : Position} {bs : List ℕ} {r : Refusal} → Offence p bs r → step p bs ≡ Err r
offence_read {p} {bs} {r} x = offence_at p.line p.fresh p.constants p.open_arm bs r x
