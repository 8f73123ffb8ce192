-- A source from left to right: each step is a piece or an offence, and so the whole source cuts in one way or offends.
use Rattle.std.proofs.Common.{◌≡◌, ℕ, ◌+◌, Bool, true, false, List, [], ◌∷◌, ◌++◌, Option, Some, None, Result, Ok, Err}
use Rattle.ep_int.proofs.Basics.{some-injective}
use Rattle.std.proofs.Common.{refl, sym, ap, ◌∙◌, subst, append_assoc}
use Rattle.std.proofs.lemmas.List.{append-nil}
use Rattle.ep_ast.specs.declared.refusals.Refusal.{Refusal}
use Rattle.ep_ast.specs.Token.{Tok}
use Rattle.ep_ast.specs.Token as token
use Rattle.ep_ast.specs.Lexeme.{over, hash, quote, name, number, mark, Next}
use Rattle.ep_ast.specs.Cut.{Constants, Position, Open, outside, first_arm, second_arm, Piece, line_end, word, own_name}
use Rattle.ep_ast.specs.Cut.{defined, literal, sign, sense, Sense, is_accepted, is_reserved, is_constant, is_own}
use Rattle.ep_ast.specs.Cut.{at_line, start, Cuts, ends, piece, Offence, broken as broken_here, stray_quote, stray_hash}
use Rattle.ep_ast.specs.Cut.{reserved_word, no_end_if, Offends, now, later}
use Rattle.ep_ast.specs.declared.refusals.Halt.{Halt}
use Rattle.ep_ast.specs.declared.refusals.Halt.TheVariants as halts
use Rattle.ep_ast.specs.Refusal.{IfRefused}
use Rattle.ep_lexer.specs.Step.{Went, step, Fails}
use Rattle.ep_lexer.proofs.NextLemmas.{next_read, breaks_read, NextIs, there, broken, next_is}
use Rattle.ep_lexer.proofs.Pieces.{piece_read}
use Rattle.ep_lexer.proofs.DirectiveLemmas.{at, Outcome, goes, offends}
use Rattle.ep_lexer.proofs.OffenceReads.{offence_read}
use Rattle.ep_lexer.proofs.ArmLemmas.{directive_is}

-- a step is the end, a piece, or an offence
pub data StepIs (p : Position) (bs : List ℕ) : Type 0 where
  ends_here : (m : ℕ) → Next p.line bs m over [] → p.open_arm ≡ outside → step p bs ≡ Ok None → StepIs p bs
  goes_on : (q : Position) (ts : List Tok) (rest : List ℕ) → Piece p bs ts q rest → StepIs p bs
  stops_at : (r : Refusal) → Offence p bs r → step p bs ≡ Err r → StepIs p bs

of_outcome : {p : Position} {bs : List ℕ} → Outcome p bs → StepIs p bs
of_outcome (goes q ts rest x) = goes_on q ts rest x
of_outcome (offends r x e) = stops_at r x e

text_end : (a : ℕ) (f : Bool) (c : Constants) (o : Open) (bs : List ℕ) (m : ℕ) → Next a bs m over []
    → StepIs (at a f c o) bs
unfolding step
text_end a f c outside bs m x = ends_here m x refl (rw (next_read x) refl)
text_end a f c (first_arm from) bs m x = stops_at (at_line 7 from) (no_end_if m from x refl) (rw (next_read x) refl)
text_end a f c (second_arm from) bs m x = stops_at (at_line 7 from) (no_end_if m from x refl) (rw (next_read x) refl)

named : (a : ℕ) (f : Bool) (c : Constants) (o : Open) (bs t rest : List ℕ) (m : ℕ) → Next a bs m (name t) rest
    → (s : Sense) → sense c t ≡ s → StepIs (at a f c o) bs
unfolding step
named a f c o bs t rest m x (is_accepted n) e = goes_on (at m false c o) (token.word m n ∷ []) rest (word m n t x e)
named a f c o bs t rest m x (is_reserved n) e = stops_at (record { kind = 8; line = m; word = n })
    (reserved_word m n t x e) (rw (next_read x, e) refl)
named a f c o bs t rest m x (is_constant k) e = goes_on (at m false c o) (token.number m k ∷ []) rest
    (defined m t k x e)
named a f c o bs t rest m x is_own e = goes_on (at m false c o) (token.name m t ∷ []) rest (own_name m t x e)

hashed : (a : ℕ) (f : Bool) (c : Constants) (o : Open) (bs rest : List ℕ) (m : ℕ) → Next a bs m hash rest
    → StepIs (at a f c o) bs
unfolding step
hashed a true c o bs rest m x = of_outcome (directive_is a c o bs rest m x)
hashed a false c o bs rest m x = stops_at (at_line 1 m) (stray_hash m x refl) (rw (next_read x) refl)

on_next : (a : ℕ) (f : Bool) (c : Constants) (o : Open) (bs : List ℕ) → NextIs a bs → StepIs (at a f c o) bs
unfolding step
on_next a f c o bs (broken k m b) = stops_at (at_line k m) (broken_here k m b) (rw (breaks_read b) refl)
on_next a f c o bs (there m over [] x) = text_end a f c o bs m x
on_next a f c o bs (there m over (b ∷ rest) x) = goes_on (at (m + 1) true c o) [] rest (line_end m b x)
on_next a f c o bs (there m hash rest x) = hashed a f c o bs rest m x
on_next a f c o bs (there m quote rest x) = stops_at (at_line 4 m) (stray_quote m x) (rw (next_read x) refl)
on_next a f c o bs (there m (name t) rest x) = named a f c o bs t rest m x (sense c t) refl
on_next a f c o bs (there m (number k) rest x) = goes_on (at m false c o) (token.number m k ∷ []) rest (literal m k x)
on_next a f c o bs (there m (mark n) rest x) = goes_on (at m false c o) (token.mark m n ∷ []) rest (sign m n x)

pub step_is : (p : Position) (bs : List ℕ) → StepIs p bs
step_is p bs = on_next p.line p.fresh p.constants p.open_arm bs (next_is p.line bs)

-- ---- the whole source

pub ends_read : (p : Position) {bs : List ℕ} {m : ℕ} → Next p.line bs m over [] → p.open_arm ≡ outside
    → step p bs ≡ Ok None
unfolding step
ends_read p x o = rw (next_read x, o) refl

-- the source from its start up to this place: the tokens so far stand before what the rest cuts into, and the rest
-- offends where the source does
pub record Upto (bs : List ℕ) (front : List Tok) (p : Position) (rest : List ℕ) : Type 0 where
  pub forth : (ts : List Tok) → Cuts p rest ts → Cuts start bs (front ++ ts)
  pub back : (ts : List Tok) → Cuts start bs ts → (more : List Tok) × (ts ≡ front ++ more) × Cuts p rest more
  pub worse : (r : Refusal) → Offends p rest r → Offends start bs r
  pub left : (r : Refusal) → Offends start bs r → Offends p rest r

pub begins : (bs : List ℕ) → Upto bs [] start bs
begins bs = record { forth = λ ts d. d; back = λ ts d. (ts, refl, d); worse = λ r o. o; left = λ r o. o }

same_ok : {A : Type 0} {x y : A} {o : Result A Refusal} → o ≡ Ok x → o ≡ Ok y → x ≡ y
same_ok e f = cc

ok_err : {A : Type 0} {x : A} {r : Refusal} {o : Result A Refusal} → o ≡ Ok x → o ≡ Err r → ⊥
ok_err e f = cc

none_went : {x : Went} {o : Result (Option Went) Refusal} → o ≡ Ok None → o ≡ Ok (Some x) → ⊥
none_went e f = cc

same_err : {A : Type 0} {x y : Refusal} {o : Result A Refusal} → o ≡ Err x → o ≡ Err y → x ≡ y
same_err e f = cc

-- what was read is a piece
pub is_piece : (p : Position) (bs : List ℕ) (w : Went) → step p bs ≡ Ok (Some w) → Piece p bs w.0 w.1 w.2
is_piece p bs w e = elim (step_is p bs) [
  | ends_here m x o f ↦ absurd (none_went f e)
  | goes_on q ts rest x ↦
      let same : (ts, q, rest) ≡ w = some-injective (same_ok (piece_read x) e) in
      let P : Went → Type 0 = λ v. Piece p bs v.0 v.1 v.2 in
      subst P same x
  | stops_at r x f ↦ absurd (ok_err e f)
]

-- what the rest cuts into begins with that piece
back_on : (bs : List ℕ) (front : List Tok) (p : Position) (rest : List ℕ) (w : Went) → step p rest ≡ Ok (Some w)
    → (ts more : List Tok) → ts ≡ front ++ more → Cuts p rest more
    → (us : List Tok) × (ts ≡ (front ++ w.0) ++ us) × Cuts w.1 w.2 us
back_on bs front p rest w e ts more same (ends m x o) = absurd (none_went (ends_read p x o) e)
back_on bs front p rest w e ts more same (piece {q = q} {rest = rest'} {ts = vs} {us = us} x d all) =
    let equal : (vs, q, rest') ≡ w = some-injective (same_ok (piece_read x) e) in
    let P : Went → Type 0 = λ v. (us : List Tok) × (ts ≡ (front ++ v.0) ++ us) × Cuts v.1 v.2 us in
    subst P equal (us, same ∙ ap (λ (y : List Tok). front ++ y) all ∙ sym (append_assoc front vs us), d)

-- and an offence in the rest stands behind that piece
left_on : (p : Position) (rest : List ℕ) (w : Went) → step p rest ≡ Ok (Some w) → (r : Refusal) → Offends p rest r
    → Offends w.1 w.2 r
left_on p rest w e r (now x) = absurd (ok_err e (offence_read x))
left_on p rest w e r (later {q = q} {rest = rest'} {ts = ts} x o) =
    let equal : (ts, q, rest') ≡ w = some-injective (same_ok (piece_read x) e) in
    let P : Went → Type 0 = λ v. Offends v.1 v.2 r in
    subst P equal o

pub further : (bs : List ℕ) (front : List Tok) (p : Position) (rest : List ℕ) (w : Went) → step p rest ≡ Ok (Some w)
    → Upto bs front p rest → Upto bs (front ++ w.0) w.1 w.2
further bs front p rest w e u =
    let x = is_piece p rest w e in
    record {
      forth = λ ts d. rw append_assoc (u.forth (w.0 ++ ts) (piece x d refl));
      back = λ ts d. let r = u.back ts d in back_on bs front p rest w e ts r.0 r.1 r.2;
      worse = λ r o. u.worse r (later x o);
      left = λ r o. left_on p rest w e r (u.left r o);
    }

is_offence : (p : Position) (bs : List ℕ) (r : Refusal) → step p bs ≡ Err r → Offence p bs r
is_offence p bs r e = elim (step_is p bs) [
  | ends_here m x o f ↦ absurd (ok_err f e)
  | goes_on q ts rest x ↦ absurd (ok_err (piece_read x) e)
  | stops_at r' x f ↦ subst (λ (y : Refusal). Offence p bs y) (same_err f e) x
]

cuts_not : (p : Position) (bs : List ℕ) (r : Refusal) (ts : List Tok) → step p bs ≡ Err r → Cuts p bs ts → ⊥
cuts_not p bs r ts e (ends m x o) = ok_err (ends_read p x o) e
cuts_not p bs r ts e (piece x d all) = ok_err (piece_read x) e

pub refused_at : (bs : List ℕ) (front : List Tok) (p : Position) (rest : List ℕ) (r : Refusal) → step p rest ≡ Err r
    → Upto bs front p rest → Offends start bs r × ((ts : List Tok) → Cuts start bs ts → ⊥)
refused_at bs front p rest r e u = (
  u.worse r (now (is_offence p rest r e)),
  λ ts d. let b = u.back ts d in
      cuts_not p rest r b.0 e b.2,
)

is_end : (p : Position) (bs : List ℕ) → step p bs ≡ Ok None → Cuts p bs []
is_end p bs e = elim (step_is p bs) [
  | ends_here m x o f ↦ ends m x o
  | goes_on q ts rest x ↦ absurd (none_went e (piece_read x))
  | stops_at r x f ↦ absurd (ok_err e f)
]

cuts_empty : (p : Position) (bs : List ℕ) (ts : List Tok) → step p bs ≡ Ok None → Cuts p bs ts → ts ≡ []
cuts_empty p bs ts e (ends m x o) = refl
cuts_empty p bs ts e (piece x d all) = absurd (none_went e (piece_read x))

pub done_at : (bs : List ℕ) (front : List Tok) (p : Position) (rest : List ℕ) → step p rest ≡ Ok None
    → Upto bs front p rest → Cuts start bs front × ((ts : List Tok) → Cuts start bs ts → ts ≡ front)
done_at bs front p rest e u = (
  rw append-nil at (u.forth [] (is_end p rest e)),
  λ ts d. let b = u.back ts d in
      b.1 ∙ ap (λ (y : List Tok). front ++ y) (cuts_empty p rest b.0 e b.2) ∙ append-nil front,
)

pub fails_offend : (bs : List ℕ) (front : List Tok) (p : Position) (rest : List ℕ) (e : Halt) → Fails e (step p rest)
    → Upto bs front p rest → IfRefused e (λ r. Offends start bs r)
fails_offend bs front p rest halts.Memory f u = tt
fails_offend bs front p rest (halts.Refused r) f u = (refused_at bs front p rest r f u).0

pub fails_spell_nothing : (bs : List ℕ) (front : List Tok) (p : Position) (rest : List ℕ) (e : Halt)
    → Fails e (step p rest) → Upto bs front p rest
    → IfRefused e (λ _. (ts : List Tok) → Cuts start bs ts → ⊥)
fails_spell_nothing bs front p rest halts.Memory f u = tt
fails_spell_nothing bs front p rest (halts.Refused r) f u = (refused_at bs front p rest r f u).1

offends_so : (p : Position) (bs : List ℕ) (r q : Refusal) → step p bs ≡ Err r → Offends p bs q → q ≡ r
offends_so p bs r q e (now x) = same_err (offence_read x) e
offends_so p bs r q e (later x o) = absurd (ok_err (piece_read x) e)

ends_faultless : (p : Position) (bs : List ℕ) (r : Refusal) → step p bs ≡ Ok None → Offends p bs r → ⊥
ends_faultless p bs r e (now x) = ok_err e (offence_read x)
ends_faultless p bs r e (later x o) = none_went e (piece_read x)

pub fails_first : (bs : List ℕ) (front : List Tok) (p : Position) (rest : List ℕ) (e : Halt) → Fails e (step p rest)
    → Upto bs front p rest
    → IfRefused e (λ r. (q : Refusal) → Offends start bs q → q ≡ r)
fails_first bs front p rest halts.Memory f u = tt
fails_first bs front p rest (halts.Refused r) f u = λ q o. offends_so p rest r q f (u.left q o)

pub done_faultless : (bs : List ℕ) (front : List Tok) (p : Position) (rest : List ℕ) → step p rest ≡ Ok None
    → Upto bs front p rest → (r : Refusal) → Offends start bs r → ⊥
done_faultless bs front p rest e u r o = ends_faultless p rest r e (u.left r o)
