-- Reading a directive: it is one, or something in it offends.
use Rattle.std.proofs.Common.{◌≡◌, ℕ, Bool, true, false, ◌&&◌, ◌||◌, ◌==◌, List, [], ◌∷◌, ◌++◌, codes, Some, None}
use Rattle.ep_int.proofs.Basics.{bytes_eq-equal}
use Rattle.std.proofs.lemmas.Bool.{cases_Bool}
use Rattle.std.proofs.lemmas.Bool.{and_parts}
use Rattle.std.proofs.Common.{is_none, Err, refl, ap, ◌∙◌, subst, inl, inr, ◌⊎◌}
use Rattle.std.specs.Str.{bytes_eq}
use Rattle.ep_ast.specs.declared.orders.NamedOrder.{NamedOrder}
use Rattle.ep_ast.specs.declared.orders.NamedOrder.TheVariants.{Little, Big}
use Rattle.ep_ast.specs.declared.expressions.Literal.{Literal}
use Rattle.ep_ast.specs.declared.refusals.Refusal.{Refusal}
use Rattle.ep_ast.specs.Token.{Tok}
use Rattle.ep_ast.specs.Lexeme.{Thing, over, hash, quote, name, number, mark, Gap, Next, spoilt, unclosed}
use Rattle.ep_ast.specs.Cut.{Constants, constant, value, may_define, Position, Open, outside, first_arm, Piece, include}
use Rattle.ep_ast.specs.Cut.{define, condition, none, more, after, headers, order_name, order_token, equals, may_begin}
use Rattle.ep_ast.specs.Cut.{is_named, is_over, is_mark, wrong, at_line, Offence, broken_inside, wrong_inside}
use Rattle.ep_ast.specs.Cut.{no_header, broken_header, behind_header}
use Rattle.ep_lexer.specs.Step.{step, skip, plain, unclosed as unclosed_at, directive_at, define_at, include_at}
use Rattle.ep_lexer.specs.Step.{condition_at, header_at, header_found, name_found, over_found, equals_found, is_plain}
use Rattle.ep_lexer.specs.Step.{order_of}
use Rattle.ep_lexer.proofs.Cases.{option_cases, is_number, is_no_value}
use Rattle.ep_lexer.proofs.Gaps.{Stops, stays, gap_skips, gap_is, over_at, open_at}
use Rattle.ep_lexer.proofs.NextLemmas.{next_read, breaks_read, NextIs, there, broken, next_is, thing_is, ThingIs}
use Rattle.ep_lexer.proofs.NextLemmas.{some_thing, no_thing, begins_read, spoilt_read}
use Rattle.ep_lexer.proofs.Pieces.{header_read}

abbrev pub at : ℕ → Bool → Constants → Open → Position
at l f c o = record { line = l; fresh = f; constants = c; open_arm = o }

-- a step is a piece, or an offence
pub data Outcome (p : Position) (bs : List ℕ) : Type 0 where
  goes : (q : Position) (ts : List Tok) (rest : List ℕ) → Piece p bs ts q rest → Outcome p bs
  offends : (r : Refusal) → Offence p bs r → step p bs ≡ Err r → Outcome p bs

-- ---- things by what a directive asks of them

pub name_cases : (t : Thing) → ((w : List ℕ) × (t ≡ name w))
    ⊎ (((f : List ℕ → Bool) → is_named f t ≡ false) × ((k h m : ℕ) (rest : List ℕ)
    → name_found k h m t rest ≡ Err (wrong k h m t)))
name_cases over = inr (λ f. refl, λ k h m rest. refl)
name_cases hash = inr (λ f. refl, λ k h m rest. refl)
name_cases quote = inr (λ f. refl, λ k h m rest. refl)
name_cases (name w) = inl (w, refl)
name_cases (number n) = inr (λ f. refl, λ k h m rest. refl)
name_cases (mark n) = inr (λ f. refl, λ k h m rest. refl)

pub over_cases : (t : Thing) → (t ≡ over) ⊎ ((is_over t ≡ false)
    × ((k h m : ℕ) (rest : List ℕ) → over_found k h m t rest ≡ Err (wrong k h m t)))
over_cases over = inl refl
over_cases hash = inr (refl, λ k h m rest. refl)
over_cases quote = inr (refl, λ k h m rest. refl)
over_cases (name w) = inr (refl, λ k h m rest. refl)
over_cases (number n) = inr (refl, λ k h m rest. refl)
over_cases (mark n) = inr (refl, λ k h m rest. refl)

mark_cases : (n : ℕ) → (mark n ≡ mark equals) ⊎ ((is_mark equals (mark n) ≡ false)
    × ((h m : ℕ) (rest : List ℕ) → equals_found h m (mark n) rest ≡ Err (wrong 7 h m (mark n))))
mark_cases n = elim (cases_Bool (n == equals)) [
  | inl h ↦ inl (ap mark (is_number n equals h))
  | inr h ↦ inr (h, λ k m rest. rw h refl)
]

pub equals_cases : (t : Thing) → (t ≡ mark equals) ⊎ ((is_mark equals t ≡ false)
    × ((h m : ℕ) (rest : List ℕ) → equals_found h m t rest ≡ Err (wrong 7 h m t)))
equals_cases over = inr (refl, λ h m rest. refl)
equals_cases hash = inr (refl, λ h m rest. refl)
equals_cases quote = inr (refl, λ h m rest. refl)
equals_cases (name w) = inr (refl, λ h m rest. refl)
equals_cases (number n) = inr (refl, λ h m rest. refl)
equals_cases (mark n) = mark_cases n

-- ---- `#define`

value_not_over : (c : Constants) (v : Thing) (k : Literal) → value c v ≡ Some k → is_over v ≡ false
value_not_over c over k e = absurd cc
value_not_over c hash k e = absurd cc
value_not_over c quote k e = absurd cc
value_not_over c (name t) k e = refl
value_not_over c (number n) k e = refl
value_not_over c (mark n) k e = absurd cc

define_over : (a : ℕ) (c : Constants) (bs cs ds es fs : List ℕ) (l m n o : ℕ) (t : List ℕ) (v : Thing) (k : Literal)
    → Next a bs l hash cs → Next l cs m (name (codes "define")) ds → Next m ds n (name t) es → may_define c t ≡ true
    → Next n es o v fs → value c v ≡ Some k
    → NextIs o fs → Outcome (at a true c outside) bs
unfolding step directive_at define_at
define_over a c bs cs ds es fs l m n o t v k x y z d u e (broken j i b) =
    offends (at_line j i) (broken_inside l o i j (name (codes "define") ∷ name t ∷ v ∷ []) refl x
    (more y (more z (more u none))) (rw (value_not_over c v k e) refl) (rw (d, e) refl) b)
    (rw (next_read x, next_read y, next_read z, d, next_read u, e, breaks_read b) refl)
define_over a c bs cs ds es fs l m n o t v k x y z d u e (there i w gs g) = elim (over_cases w) [
  | inl q ↦
      let g' = subst (λ (j : Thing). Next o fs i j gs) q g in
      goes (record { line = i; fresh = false; constants = c ++ (t, k) ∷ []; open_arm = outside }) [] gs
      (define i t v k refl refl (more x (more y (more z (more u (more g' none))))) d e)
  | inr q ↦
      offends (wrong 5 l i w)
      (wrong_inside l o i (name (codes "define") ∷ name t ∷ v ∷ []) w refl x (more y (more z (more u none)))
      (rw (value_not_over c v k e) refl) (rw (d, e) refl) g (rw (d, e, q.0) refl) refl)
      (rw (next_read x, next_read y, next_read z, d, next_read u, e, next_read g, q.1) refl)
]

define_value : (a : ℕ) (c : Constants) (bs cs ds es : List ℕ) (l m n : ℕ) (t : List ℕ)
    → Next a bs l hash cs → Next l cs m (name (codes "define")) ds → Next m ds n (name t) es → may_define c t ≡ true
    → NextIs n es → Outcome (at a true c outside) bs
unfolding step directive_at define_at
define_value a c bs cs ds es l m n t x y z d (broken j i b) =
    offends (at_line j i) (broken_inside l n i j (name (codes "define") ∷ name t ∷ []) refl x (more y (more z none))
    refl (rw d refl) b)
    (rw (next_read x, next_read y, next_read z, d, breaks_read b) refl)
define_value a c bs cs ds es l m n t x y z d (there o v fs u) = elim (option_cases (value c v)) [
  | inl e ↦
      offends (wrong 5 l o v) (wrong_inside l n o (name (codes "define") ∷ name t ∷ []) v refl x (more y (more z none))
      refl (rw d refl) u (rw (d, e) refl) refl)
      (rw (next_read x, next_read y, next_read z, d, next_read u, e) refl)
  | inr e ↦ define_over a c bs cs ds es fs l m n o t v e.0 x y z d u e.1 (next_is o fs)
]

define_name : (a : ℕ) (c : Constants) (bs cs ds : List ℕ) (l m : ℕ)
    → Next a bs l hash cs → Next l cs m (name (codes "define")) ds → NextIs m ds → Outcome (at a true c outside) bs
unfolding step directive_at define_at
define_name a c bs cs ds l m x y (broken j i b) =
    offends (at_line j i) (broken_inside l m i j (name (codes "define") ∷ []) refl x (more y none) refl refl b)
    (rw (next_read x, next_read y, breaks_read b) refl)
define_name a c bs cs ds l m x y (there n w es z) = elim (name_cases w) [
  | inl q ↦
      let z' = subst (λ (j : Thing). Next m ds n j es) q.1 z in
      elim (cases_Bool (may_define c q.0)) [
        | inl d ↦ define_value a c bs cs ds es l m n q.0 x y z' d (next_is n es)
        | inr d ↦
            offends (at_line 5 l) (wrong_inside l m n (name (codes "define") ∷ []) (name q.0) refl x (more y none) refl
            refl z' (rw d refl) refl)
            (rw (next_read x, next_read y, next_read z', d) refl)
      ]
  | inr q ↦
      offends (wrong 5 l n w) (wrong_inside l m n (name (codes "define") ∷ []) w refl x (more y none) refl refl z
      (rw (q.0 (may_define c)) refl) refl)
      (rw (next_read x, next_read y, next_read z, q.1) refl)
]

pub define_is : (a : ℕ) (c : Constants) (bs cs ds : List ℕ) (l m : ℕ) → Next a bs l hash cs
    → Next l cs m (name (codes "define")) ds → Outcome (at a true c outside) bs
define_is a c bs cs ds l m x y = define_name a c bs cs ds l m x y (next_is m ds)

-- ---- `#if`

abbrev is_order : Constants → List ℕ → Bool
is_order c t = is_plain c (order_name Little) t || is_plain c (order_name Big) t

pub plain_parts : (c : Constants) (w t : List ℕ) → is_plain c w t ≡ true → (t ≡ w) × (constant c w ≡ None)
plain_parts c w t h =
    let p = and_parts (bytes_eq t w) (is_none (constant c t)) h in
    let e = bytes_eq-equal t w p.0 in
    (e, subst (λ (x : List ℕ). constant c x ≡ None) e (is_no_value (constant c t) p.1))

-- the name of a byte order by what reading takes it for
pub order_cases : (c : Constants) (t : List ℕ) → ((o : NamedOrder) × (t ≡ order_name o)
    × (constant c (order_name o) ≡ None) × (order_of c t ≡ Some o)) ⊎ ((is_order c t ≡ false) × (order_of c t ≡ None))
order_cases c t = elim (cases_Bool (is_plain c (order_name Little) t)) [
  | inl h ↦ let p = plain_parts c (order_name Little) t h in inl (Little, p.0, p.1, rw h refl)
  | inr h ↦ elim (cases_Bool (is_plain c (order_name Big) t)) [
    | inl k ↦ let p = plain_parts c (order_name Big) t k in inl (Big, p.0, p.1, rw (h, k) refl)
    | inr k ↦ inr (rw (h, k) refl, rw (h, k) refl)
  ]
]

begun : (c : Constants) (u : NamedOrder) → constant c (codes "__BYTE_ORDER__") ≡ None → constant c (order_name u) ≡ None
    → may_begin (at 0 true c outside) (name (codes "if") ∷ name (codes "__BYTE_ORDER__") ∷ mark equals ∷
    name (order_name u) ∷ []) ≡ true
begun c Little e f = rw (e, f) refl
begun c Big e f = rw (e, f) refl

not_over : (c : Constants) (u : NamedOrder) (t : Thing) → constant c (codes "__BYTE_ORDER__") ≡ None
    → constant c (order_name u) ≡ None → is_over t ≡ false
    → may_begin (at 0 true c outside) (name (codes "if") ∷ name (codes "__BYTE_ORDER__") ∷ mark equals ∷
    name (order_name u) ∷ t ∷ []) ≡ false
not_over c Little t e f h = rw (e, f, h) refl
not_over c Big t e f h = rw (e, f, h) refl

condition_over : (a : ℕ) (c : Constants) (bs cs ds es fs gs : List ℕ) (l m n o i : ℕ) (u : NamedOrder)
    → constant c (codes "__BYTE_ORDER__") ≡ None → constant c (order_name u) ≡ None → order_of c (order_name u) ≡ Some u
    → Next a bs l hash cs → Next l cs m (name (codes "if")) ds → Next m ds n (name (codes "__BYTE_ORDER__")) es
    → Next n es o (mark equals) fs → Next o fs i (name (order_name u)) gs
    → NextIs i gs → Outcome (at a true c outside) bs
unfolding step directive_at condition_at
condition_over a c bs cs ds es fs gs l m n o i u e f k x y z v w (broken j q b) =
    offends (at_line j q) (broken_inside l i q j (name (codes "if") ∷ name (codes "__BYTE_ORDER__") ∷ mark equals ∷
    name (order_name u) ∷ []) refl x (more y (more z (more v (more w none)))) refl (begun c u e f) b)
    (rw (next_read x, next_read y, next_read z, e, next_read v, next_read w, k, breaks_read b) refl)
condition_over a c bs cs ds es fs gs l m n o i u e f k x y z v w (there q t hs g) = elim (over_cases t) [
  | inl r ↦
      let g' = subst (λ (j : Thing). Next i gs q j hs) r g in
      goes (record { line = q; fresh = false; constants = c; open_arm = first_arm l }) (order_token u l ∷ []) hs
      (condition l q u refl refl e f x (more y (more z (more v (more w (more g' none))))))
  | inr r ↦
      offends (wrong 7 l q t)
      (wrong_inside l i q (name (codes "if") ∷ name (codes "__BYTE_ORDER__") ∷ mark equals ∷ name (order_name u) ∷ []) t
      refl x (more y (more z (more v (more w none)))) refl (begun c u e f) g (not_over c u t e f r.0) refl)
      (rw (next_read x, next_read y, next_read z, e, next_read v, next_read w, k, next_read g, r.1) refl)
]

condition_order : (a : ℕ) (c : Constants) (bs cs ds es fs : List ℕ) (l m n o : ℕ)
    → constant c (codes "__BYTE_ORDER__") ≡ None
    → Next a bs l hash cs → Next l cs m (name (codes "if")) ds → Next m ds n (name (codes "__BYTE_ORDER__")) es
    → Next n es o (mark equals) fs
    → NextIs o fs → Outcome (at a true c outside) bs
unfolding step directive_at condition_at
condition_order a c bs cs ds es fs l m n o e x y z v (broken j q b) =
    offends (at_line j q) (broken_inside l o q j (name (codes "if") ∷ name (codes "__BYTE_ORDER__") ∷ mark equals ∷ [])
    refl x (more y (more z (more v none))) refl (rw e refl) b)
    (rw (next_read x, next_read y, next_read z, e, next_read v, breaks_read b) refl)
condition_order a c bs cs ds es fs l m n o e x y z v (there i t gs w) = elim (name_cases t) [
  | inl q ↦
      let w' = subst (λ (j : Thing). Next o fs i j gs) q.1 w in
      elim (order_cases c q.0) [
        | inl k ↦
            let w2 = subst (λ (j : List ℕ). Next o fs i (name j) gs) k.1 w' in
            let k2 = subst (λ (j : List ℕ). order_of c j ≡ Some k.0) k.1 k.3 in
            condition_over a c bs cs ds es fs gs l m n o i k.0 e k.2 k2 x y z v w2 (next_is i gs)
        | inr k ↦
            offends (at_line 7 l) (wrong_inside l o i (name (codes "if") ∷ name (codes "__BYTE_ORDER__") ∷ mark equals ∷
            []) (name q.0) refl x (more y (more z (more v none))) refl (rw e refl) w' (rw (e, k.0) refl) refl)
            (rw (next_read x, next_read y, next_read z, e, next_read v, next_read w', k.1) refl)
      ]
  | inr q ↦
      offends (wrong 7 l i t)
      (wrong_inside l o i (name (codes "if") ∷ name (codes "__BYTE_ORDER__") ∷ mark equals ∷ []) t refl x
      (more y (more z (more v none))) refl (rw e refl) w
      (rw (
        e,
        q.0 (λ s. bytes_eq s (order_name Little) && is_none (constant c s)),
        q.0 (λ s. bytes_eq s (order_name Big) && is_none (constant c s)),
      ) refl) refl)
      (rw (next_read x, next_read y, next_read z, e, next_read v, next_read w, q.1) refl)
]

condition_equals : (a : ℕ) (c : Constants) (bs cs ds es : List ℕ) (l m n : ℕ)
    → constant c (codes "__BYTE_ORDER__") ≡ None
    → Next a bs l hash cs → Next l cs m (name (codes "if")) ds → Next m ds n (name (codes "__BYTE_ORDER__")) es
    → NextIs n es → Outcome (at a true c outside) bs
unfolding step directive_at condition_at
condition_equals a c bs cs ds es l m n e x y z (broken j q b) =
    offends (at_line j q) (broken_inside l n q j (name (codes "if") ∷ name (codes "__BYTE_ORDER__") ∷ []) refl x
    (more y (more z none)) refl (rw e refl) b)
    (rw (next_read x, next_read y, next_read z, e, breaks_read b) refl)
condition_equals a c bs cs ds es l m n e x y z (there o t fs v) = elim (equals_cases t) [
  | inl q ↦ condition_order a c bs cs ds es fs l m n o e x y z (subst (λ (j : Thing). Next n es o j fs) q v)
      (next_is o fs)
  | inr q ↦
      offends (wrong 7 l o t) (wrong_inside l n o (name (codes "if") ∷ name (codes "__BYTE_ORDER__") ∷ []) t refl x
      (more y (more z none)) refl (rw e refl) v (rw (e, q.0) refl) refl)
      (rw (next_read x, next_read y, next_read z, e, next_read v, q.1) refl)
]

condition_name : (a : ℕ) (c : Constants) (bs cs ds : List ℕ) (l m : ℕ)
    → Next a bs l hash cs → Next l cs m (name (codes "if")) ds → NextIs m ds → Outcome (at a true c outside) bs
unfolding step directive_at condition_at
condition_name a c bs cs ds l m x y (broken j q b) =
    offends (at_line j q) (broken_inside l m q j (name (codes "if") ∷ []) refl x (more y none) refl refl b)
    (rw (next_read x, next_read y, breaks_read b) refl)
condition_name a c bs cs ds l m x y (there n t es z) = elim (name_cases t) [
  | inl q ↦
      let z' = subst (λ (j : Thing). Next m ds n j es) q.1 z in
      elim (cases_Bool (is_plain c (codes "__BYTE_ORDER__") q.0)) [
        | inl h ↦
            let p = plain_parts c (codes "__BYTE_ORDER__") q.0 h in
            condition_equals a c bs cs ds es l m n p.1 x y (subst (λ (j : List ℕ). Next m ds n (name j) es) p.0 z')
            (next_is n es)
        | inr h ↦
            offends (at_line 7 l) (wrong_inside l m n (name (codes "if") ∷ []) (name q.0) refl x (more y none) refl refl
            z' (rw h refl) refl)
            (rw (next_read x, next_read y, next_read z', h) refl)
      ]
  | inr q ↦
      offends (wrong 7 l n t) (wrong_inside l m n (name (codes "if") ∷ []) t refl x (more y none) refl refl z
      (rw (q.0 (λ s. bytes_eq s (codes "__BYTE_ORDER__") && is_none (constant c s))) refl) refl)
      (rw (next_read x, next_read y, next_read z, q.1) refl)
]

pub condition_is : (a : ℕ) (c : Constants) (bs cs ds : List ℕ) (l m : ℕ) → Next a bs l hash cs
    → Next l cs m (name (codes "if")) ds → Outcome (at a true c outside) bs
condition_is a c bs cs ds l m x y = condition_name a c bs cs ds l m x y (next_is m ds)

-- ---- `#include`

include_over : (a : ℕ) (c : Constants) (bs cs ds es fs : List ℕ) (l m n : ℕ)
    → Next a bs l hash cs → Next l cs m (name (codes "include")) ds → Gap m ds n es → after headers es ≡ Some fs
    → NextIs n fs → Outcome (at a true c outside) bs
unfolding step directive_at
include_over a c bs cs ds es fs l m n x y g e (broken j q b) =
    offends (at_line j q) (broken_header l m n j q refl refl x (more y none) g e b)
    (rw (next_read x, next_read y, header_read l g e, breaks_read b) refl)
include_over a c bs cs ds es fs l m n x y g e (there q t hs z) = elim (over_cases t) [
  | inl r ↦ goes (record { line = q; fresh = false; constants = c; open_arm = outside }) [] hs
      (include m n q refl refl (more x (more y none)) g e (subst (λ (j : Thing). Next n fs q j hs) r z))
  | inr r ↦ offends (wrong 6 l q t) (behind_header l m n q t refl refl x (more y none) g e z r.0)
      (rw (next_read x, next_read y, header_read l g e, next_read z, r.1) refl)
]

pub missing_read : {m n : ℕ} {cs ds : List ℕ} (h : ℕ) → Gap m cs n ds → Stops ds → after headers ds ≡ None
    → include_at h m cs ≡ header_found h n ds None
unfolding include_at
missing_read {m} {n} {cs} {ds} h g s e = ap (header_at h) (gap_skips g ∙ stays n ds s) ∙ ap (header_found h n ds) e

pub open_read : {n : ℕ} (m : ℕ) (cs : List ℕ) (h : ℕ) → skip plain m cs ≡ unclosed_at n
    → include_at h m cs ≡ Err (at_line 2 n)
unfolding include_at
open_read m cs h e = ap (header_at h) e

include_thing : (a : ℕ) (c : Constants) (bs cs ds es : List ℕ) (l m n : ℕ)
    → Next a bs l hash cs → Next l cs m (name (codes "include")) ds → Gap m ds n es → Stops es → after headers es ≡ None
    → ThingIs n es → Outcome (at a true c outside) bs
unfolding step directive_at
include_thing a c bs cs ds es l m n x y g s e (some_thing t fs b) =
    offends (wrong 6 l n t) (no_header l m n t refl refl x (more y none) g b e)
    (rw (next_read x, next_read y, missing_read l g s e, begins_read n b) refl)
include_thing a c bs cs ds es l m n x y g s e (no_thing k b) =
    offends (at_line k n) (broken_inside l m n k (name (codes "include") ∷ []) refl x (more y none) refl refl
    (spoilt g b))
    (rw (next_read x, next_read y, missing_read l g s e, spoilt_read n b) refl)

pub include_is : (a : ℕ) (c : Constants) (bs cs ds : List ℕ) (l m : ℕ) → Next a bs l hash cs
    → Next l cs m (name (codes "include")) ds → Outcome (at a true c outside) bs
unfolding step directive_at
include_is a c bs cs ds l m x y = elim (gap_is m ds) [
  | over_at n es g s k ↦ elim (option_cases (after headers es)) [
    | inl e ↦ include_thing a c bs cs ds es l m n x y g s e (thing_is n es s)
    | inr e ↦ include_over a c bs cs ds es e.0 l m n x y g e.1 (next_is n e.0)
  ]
  | open_at n b es g o p k ↦
      offends (at_line 2 n) (broken_inside l m n 2 (name (codes "include") ∷ []) refl x (more y none) refl refl
      (unclosed g o p)) (rw (next_read x, next_read y, open_read m ds l k) refl)
]
