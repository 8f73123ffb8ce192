-- Each offence in a directive is what is read.
use Rattle.std.proofs.Common.{◌≡◌, ℕ, Bool, true, false, ◌&&◌, ◌||◌, List, [], ◌∷◌, ◌++◌, codes, Some, None}
use Rattle.ep_int.proofs.Basics.{is_some-some}
use Rattle.std.proofs.lemmas.Bool.{cases_Bool}
use Rattle.std.proofs.lemmas.Bool.{and_parts, or_parts}
use Rattle.std.proofs.Common.{is_some, Err, refl, sym, ap, ◌∙◌, subst, inl, inr}
use Rattle.std.specs.List.{list_any}
use Rattle.ep_ast.specs.declared.orders.NamedOrder.{NamedOrder}
use Rattle.ep_ast.specs.declared.orders.NamedOrder.TheVariants.{Little, Big}
use Rattle.ep_ast.specs.declared.expressions.Literal.{Literal}
use Rattle.ep_ast.specs.declared.refusals.Refusal.{Refusal}
use Rattle.ep_ast.specs.Lexeme.{Thing, over, hash, quote, name, number, mark, Next, Breaks}
use Rattle.ep_ast.specs.Cut.{Constants, constant, value, may_define, pass, Position, outside, Stand, none, more}
use Rattle.ep_ast.specs.Cut.{order_name, equals, may_begin, directive_kind, is_include, is_named, is_over, is_mark}
use Rattle.ep_ast.specs.Cut.{wrong, at_line}
use Rattle.ep_lexer.specs.Step.{step, directive_at, define_at, condition_at, is_plain, order_of}
use Rattle.ep_lexer.proofs.Cases.{option_cases, true_false}
use Rattle.ep_lexer.proofs.NextLemmas.{next_read, breaks_read}
use Rattle.ep_lexer.proofs.DirectiveLemmas.{at, name_cases, over_cases, equals_cases, order_cases, plain_parts}

-- What stands behind these things in a directive whose `#` stands on line l and offends: something broken, or a thing
-- with which it is no directive any more.
pub data Behind (p : Position) (l : ℕ) (ts : List Thing) (m : ℕ) (ds : List ℕ) : Refusal → Type 0 where
  something_broken : (k n : ℕ) → Breaks m ds k n → Behind p l ts m ds (at_line k n)
  something_wrong : (n : ℕ) (t : Thing) (es : List ℕ) → Next m ds n t es → may_begin p (ts ++ t ∷ []) ≡ false
      → is_include ts ≡ false
      → Behind p l ts m ds (wrong (directive_kind p (ts ++ t ∷ [])) l n t)

pub no_and : (x : Bool) → (x && true) ≡ false → x ≡ false
no_and true h = absurd cc
no_and false h = refl

-- ---- `#define`

define_3 : (a : ℕ) (c : Constants) (bs cs ds es fs : List ℕ) (l m n o : ℕ) (t : List ℕ) (v : Thing) (k : Literal)
    (r : Refusal)
    → Next a bs l hash cs → Next l cs m (name (codes "define")) ds → Next m ds n (name t) es → may_define c t ≡ true
    → Next n es o v fs → value c v ≡ Some k
    → Behind (at a true c outside) l (name (codes "define") ∷ name t ∷ v ∷ []) o fs r
    → step (at a true c outside) bs ≡ Err r
unfolding step directive_at define_at
define_3 a c bs cs ds es fs l m n o t v k r x y z d u e (something_broken j i b) =
    rw (next_read x, next_read y, next_read z, d, next_read u, e, breaks_read b) refl
define_3 a c bs cs ds es fs l m n o t v k r x y z d u e (something_wrong i w gs g f h) = elim (over_cases w) [
  | inl q ↦
      absurd (true_false (subst (λ (j : Thing). may_begin (at a true c outside)
      (name (codes "define") ∷ name t ∷ v ∷ j ∷ []) ≡ true) (sym q) (rw (d, e) refl)) f)
  | inr q ↦ rw (next_read x, next_read y, next_read z, d, next_read u, e, next_read g, q.1) refl
]

define_2 : (a : ℕ) (c : Constants) (bs cs ds es : List ℕ) (l m n : ℕ) (t : List ℕ) (r : Refusal)
    → Next a bs l hash cs → Next l cs m (name (codes "define")) ds → Next m ds n (name t) es → may_define c t ≡ true
    → Behind (at a true c outside) l (name (codes "define") ∷ name t ∷ []) n es r
    → step (at a true c outside) bs ≡ Err r
unfolding step directive_at define_at
define_2 a c bs cs ds es l m n t r x y z d (something_broken j i b) =
    rw (next_read x, next_read y, next_read z, d, breaks_read b) refl
define_2 a c bs cs ds es l m n t r x y z d (something_wrong i w gs g f h) = elim (option_cases (value c w)) [
  | inl e ↦ rw (next_read x, next_read y, next_read z, d, next_read g, e) refl
  | inr e ↦
      let q : may_begin (at a true c outside) (name (codes "define") ∷ name t ∷ w ∷ []) ≡ true = rw (d, e.1) refl in
      absurd (true_false q f)
]

define_1 : (a : ℕ) (c : Constants) (bs cs ds : List ℕ) (l m : ℕ) (r : Refusal)
    → Next a bs l hash cs → Next l cs m (name (codes "define")) ds
    → Behind (at a true c outside) l (name (codes "define") ∷ []) m ds r → step (at a true c outside) bs ≡ Err r
unfolding step directive_at define_at
define_1 a c bs cs ds l m r x y (something_broken j i b) = rw (next_read x, next_read y, breaks_read b) refl
define_1 a c bs cs ds l m r x y (something_wrong i w gs g f h) = elim (name_cases w) [
  | inl q ↦
      let g' = subst (λ (j : Thing). Next m ds i j gs) q.1 g in
      let f' = subst (λ (j : Thing). may_begin (at a true c outside) (name (codes "define") ∷ j ∷ []) ≡ false) q.1 f in
      elim (cases_Bool (may_define c q.0)) [
        | inl d ↦
            let k : may_begin (at a true c outside) (name (codes "define") ∷ name q.0 ∷ []) ≡ true = rw d refl in
            absurd (true_false k f')
        | inr d ↦ subst (λ (j : Thing). step (at a true c outside) bs ≡ Err (wrong 5 l i j)) (sym q.1)
            (rw (next_read x, next_read y, next_read g', d) refl)
      ]
  | inr q ↦ rw (next_read x, next_read y, next_read g, q.1) refl
]

pub or_false : (x : Bool) → (x || false) ≡ true → x ≡ true
or_false true h = refl
or_false false h = absurd cc

named_is : (f : List ℕ → Bool) (t : Thing) → is_named f t ≡ true → (w : List ℕ) × (t ≡ name w) × (f w ≡ true)
named_is f over h = absurd cc
named_is f hash h = absurd cc
named_is f quote h = absurd cc
named_is f (name w) h = (w, refl, h)
named_is f (number n) h = absurd cc
named_is f (mark n) h = absurd cc

-- the things behind `define`, the name and its value
define_ends : (a : ℕ) (c : Constants) (bs cs ds es fs gs : List ℕ) (l m n i j : ℕ) (t : List ℕ) (v : Thing)
    (k : Literal) (ts : List Thing) (r : Refusal)
    → Next a bs l hash cs → Next l cs m (name (codes "define")) ds → Next m ds n (name t) es → may_define c t ≡ true
    → Next n es i v fs → value c v ≡ Some k
    → Stand i fs ts j gs → list_any is_over ts ≡ false → pass (is_over ∷ []) ts ≡ true
    → Behind (at a true c outside) l (name (codes "define") ∷ name t ∷ v ∷ ts) j gs r
    → step (at a true c outside) bs ≡ Err r
define_ends a c bs cs ds es fs gs l m n i j t v k ts r x y z d u e none o b w =
    define_3 a c bs cs ds es fs l m n i t v k r x y z d u e w
define_ends a c bs cs ds es fs gs l m n i j t v k ts r x y z d u e (more {t = q} {ts = us} g s) o b w =
    absurd (true_false (and_parts (is_over q) (pass [] us) b).0 (or_parts (is_over q) (list_any is_over us) o).0)

define_values : (a : ℕ) (c : Constants) (bs cs ds es gs : List ℕ) (l m n j : ℕ) (t : List ℕ) (ts : List Thing)
    (r : Refusal)
    → Next a bs l hash cs → Next l cs m (name (codes "define")) ds → Next m ds n (name t) es → may_define c t ≡ true
    → Stand n es ts j gs → list_any is_over ts ≡ false → pass ((λ q. is_some (value c q)) ∷ is_over ∷ []) ts ≡ true
    → Behind (at a true c outside) l (name (codes "define") ∷ name t ∷ ts) j gs r
    → step (at a true c outside) bs ≡ Err r
define_values a c bs cs ds es gs l m n j t ts r x y z d none o b w = define_2 a c bs cs ds es l m n t r x y z d w
define_values a c bs cs ds es gs l m n j t ts r x y z d (more {m = i} {cs = fs} {t = v} {ts = us} g s) o b w =
    let p = and_parts (is_some (value c v)) (pass (is_over ∷ []) us) b in
    let k = is_some-some (value c v) p.0 in
    define_ends a c bs cs ds es fs gs l m n i j t v k.0 us r x y z d g k.1 s
    (or_parts (is_over v) (list_any is_over us) o).1 p.1 w

pub define_things : (a : ℕ) (c : Constants) (bs cs ds gs : List ℕ) (l m j : ℕ) (ts : List Thing) (r : Refusal)
    → Next a bs l hash cs → Next l cs m (name (codes "define")) ds
    → Stand m ds ts j gs → list_any is_over ts ≡ false
    → may_begin (at a true c outside) (name (codes "define") ∷ ts) ≡ true
    → Behind (at a true c outside) l (name (codes "define") ∷ ts) j gs r → step (at a true c outside) bs ≡ Err r
define_things a c bs cs ds gs l m j ts r x y none o b w = define_1 a c bs cs ds l m r x y w
define_things a c bs cs ds gs l m j ts r x y (more {m = n} {cs = es} {t = t} {ts = us} z s) o b w =
    let p = and_parts (is_named (may_define c) t) (pass ((λ q. is_some (value c q)) ∷ is_over ∷ []) us)
    (or_false _ b) in
    let q = named_is (may_define c) t p.0 in
    define_values a c bs cs ds es gs l m n j q.0 us r x y (subst (λ (k : Thing). Next m ds n k es) q.1 z) q.2 s
    (or_parts (is_over t) (list_any is_over us) o).1 p.1
    (subst (λ (k : Thing). Behind (at a true c outside) l (name (codes "define") ∷ k ∷ us) j gs r) q.1 w)

-- ---- `#if`

ends_so : (c : Constants) (u : NamedOrder) → constant c (codes "__BYTE_ORDER__") ≡ None
    → constant c (order_name u) ≡ None
    → may_begin (at 0 true c outside) (name (codes "if") ∷ name (codes "__BYTE_ORDER__") ∷ mark equals ∷
    name (order_name u) ∷ over ∷ []) ≡ true
ends_so c Little e f = rw (e, f) refl
ends_so c Big e f = rw (e, f) refl

begins_so : (c : Constants) (u : NamedOrder) → constant c (codes "__BYTE_ORDER__") ≡ None
    → constant c (order_name u) ≡ None
    → may_begin (at 0 true c outside) (name (codes "if") ∷ name (codes "__BYTE_ORDER__") ∷ mark equals ∷
    name (order_name u) ∷ []) ≡ true
begins_so c Little e f = rw (e, f) refl
begins_so c Big e f = rw (e, f) refl

order_so : (a : ℕ) (c : Constants) (t : List ℕ) (u : NamedOrder) → constant c (codes "__BYTE_ORDER__") ≡ None
    → t ≡ order_name u → constant c (order_name u) ≡ None
    → may_begin (at a true c outside) (name (codes "if") ∷ name (codes "__BYTE_ORDER__") ∷ mark equals ∷ name t ∷ []) ≡
    false → ⊥
order_so a c t u e k f h =
    true_false (begins_so c u e f) (subst (λ (w : List ℕ). may_begin (at a true c outside)
    (name (codes "if") ∷ name (codes "__BYTE_ORDER__") ∷ mark equals ∷ name w ∷ []) ≡ false) k h)

mark_is : (t : Thing) → is_mark equals t ≡ true → t ≡ mark equals
mark_is t h = elim (equals_cases t) [ inl e ↦ e | inr q ↦ absurd (true_false h q.0) ]

condition_4 : (a : ℕ) (c : Constants) (bs cs ds es fs gs : List ℕ) (l m n o i : ℕ) (u : NamedOrder) (r : Refusal)
    → constant c (codes "__BYTE_ORDER__") ≡ None → constant c (order_name u) ≡ None → order_of c (order_name u) ≡ Some u
    → Next a bs l hash cs → Next l cs m (name (codes "if")) ds → Next m ds n (name (codes "__BYTE_ORDER__")) es
    → Next n es o (mark equals) fs → Next o fs i (name (order_name u)) gs
    → Behind (at a true c outside) l (name (codes "if") ∷ name (codes "__BYTE_ORDER__") ∷ mark equals ∷
    name (order_name u) ∷ []) i gs r → step (at a true c outside) bs ≡ Err r
unfolding step directive_at condition_at
condition_4 a c bs cs ds es fs gs l m n o i u r e f k x y z v w (something_broken j q b) =
    rw (next_read x, next_read y, next_read z, e, next_read v, next_read w, k, breaks_read b) refl
condition_4 a c bs cs ds es fs gs l m n o i u r e f k x y z v w (something_wrong q t hs g h d) = elim (over_cases t) [
  | inl p ↦
      absurd (true_false
      (subst (λ (j : Thing). may_begin (at a true c outside)
      (name (codes "if") ∷ name (codes "__BYTE_ORDER__") ∷ mark equals ∷ name (order_name u) ∷ j ∷ []) ≡ true)
      (sym p) (ends_so c u e f)) h)
  | inr p ↦ rw (next_read x, next_read y, next_read z, e, next_read v, next_read w, k, next_read g, p.1) refl
]

condition_3 : (a : ℕ) (c : Constants) (bs cs ds es fs : List ℕ) (l m n o : ℕ) (r : Refusal)
    → constant c (codes "__BYTE_ORDER__") ≡ None
    → Next a bs l hash cs → Next l cs m (name (codes "if")) ds → Next m ds n (name (codes "__BYTE_ORDER__")) es
    → Next n es o (mark equals) fs
    → Behind (at a true c outside) l (name (codes "if") ∷ name (codes "__BYTE_ORDER__") ∷ mark equals ∷ []) o fs r
    → step (at a true c outside) bs ≡ Err r
unfolding step directive_at condition_at
condition_3 a c bs cs ds es fs l m n o r e x y z v (something_broken j q b) =
    rw (next_read x, next_read y, next_read z, e, next_read v, breaks_read b) refl
condition_3 a c bs cs ds es fs l m n o r e x y z v (something_wrong i t gs w h d) = elim (name_cases t) [
  | inl q ↦
      let w' = subst (λ (j : Thing). Next o fs i j gs) q.1 w in
      let h' = subst (λ (j : Thing). may_begin (at a true c outside)
      (name (codes "if") ∷ name (codes "__BYTE_ORDER__") ∷ mark equals ∷ j ∷ []) ≡ false) q.1 h in
      elim (order_cases c q.0) [
        | inl k ↦ absurd (order_so a c q.0 k.0 e k.1 k.2 h')
        | inr k ↦ subst (λ (j : Thing). step (at a true c outside) bs ≡ Err (wrong 7 l i j)) (sym q.1)
            (rw (next_read x, next_read y, next_read z, e, next_read v, next_read w', k.1) refl)
      ]
  | inr q ↦ rw (next_read x, next_read y, next_read z, e, next_read v, next_read w, q.1) refl
]

condition_2 : (a : ℕ) (c : Constants) (bs cs ds es : List ℕ) (l m n : ℕ) (r : Refusal)
    → constant c (codes "__BYTE_ORDER__") ≡ None
    → Next a bs l hash cs → Next l cs m (name (codes "if")) ds → Next m ds n (name (codes "__BYTE_ORDER__")) es
    → Behind (at a true c outside) l (name (codes "if") ∷ name (codes "__BYTE_ORDER__") ∷ []) n es r
    → step (at a true c outside) bs ≡ Err r
unfolding step directive_at condition_at
condition_2 a c bs cs ds es l m n r e x y z (something_broken j q b) =
    rw (next_read x, next_read y, next_read z, e, breaks_read b) refl
condition_2 a c bs cs ds es l m n r e x y z (something_wrong o t fs v h d) = elim (equals_cases t) [
  | inl q ↦
      absurd (true_false (subst (λ (j : Thing). may_begin (at a true c outside)
      (name (codes "if") ∷ name (codes "__BYTE_ORDER__") ∷ j ∷ []) ≡ true) (sym q) (rw e refl)) h)
  | inr q ↦ rw (next_read x, next_read y, next_read z, e, next_read v, q.1) refl
]

condition_1 : (a : ℕ) (c : Constants) (bs cs ds : List ℕ) (l m : ℕ) (r : Refusal)
    → Next a bs l hash cs → Next l cs m (name (codes "if")) ds
    → Behind (at a true c outside) l (name (codes "if") ∷ []) m ds r → step (at a true c outside) bs ≡ Err r
unfolding step directive_at condition_at
condition_1 a c bs cs ds l m r x y (something_broken j q b) = rw (next_read x, next_read y, breaks_read b) refl
condition_1 a c bs cs ds l m r x y (something_wrong n t es z h d) = elim (name_cases t) [
  | inl q ↦
      let z' = subst (λ (j : Thing). Next m ds n j es) q.1 z in
      let h' = subst (λ (j : Thing). may_begin (at a true c outside) (name (codes "if") ∷ j ∷ []) ≡ false) q.1 h in
      elim (cases_Bool (is_plain c (codes "__BYTE_ORDER__") q.0)) [
        | inl k ↦
            let f : may_begin (at a true c outside) (name (codes "if") ∷ name q.0 ∷ []) ≡ true = rw k refl in
            absurd (true_false f h')
        | inr k ↦ subst (λ (j : Thing). step (at a true c outside) bs ≡ Err (wrong 7 l n j)) (sym q.1)
            (rw (next_read x, next_read y, next_read z', k) refl)
      ]
  | inr q ↦ rw (next_read x, next_read y, next_read z, q.1) refl
]

-- the things behind the condition
abbrev order_test : Constants → Thing → Bool
order_test c t = is_named (λ w. is_plain c (order_name Little) w) t || is_named (λ w. is_plain c (order_name Big) w) t

order_is : (c : Constants) (t : Thing) → order_test c t ≡ true → (u : NamedOrder) × (t ≡ name (order_name u))
    × (constant c (order_name u) ≡ None) × (order_of c (order_name u) ≡ Some u)
order_is c over h = absurd cc
order_is c hash h = absurd cc
order_is c quote h = absurd cc
order_is c (name w) h = elim (order_cases c w) [
  | inl k ↦ (k.0, ap name k.1, k.2, subst (λ (v : List ℕ). order_of c v ≡ Some k.0) k.1 k.3)
  | inr k ↦ absurd (true_false h k.0)
]
order_is c (number n) h = absurd cc
order_is c (mark n) h = absurd cc

condition_ends : (a : ℕ) (c : Constants) (bs cs ds es fs gs hs : List ℕ) (l m n o i j : ℕ) (u : NamedOrder)
    (ts : List Thing) (r : Refusal)
    → constant c (codes "__BYTE_ORDER__") ≡ None → constant c (order_name u) ≡ None → order_of c (order_name u) ≡ Some u
    → Next a bs l hash cs → Next l cs m (name (codes "if")) ds → Next m ds n (name (codes "__BYTE_ORDER__")) es
    → Next n es o (mark equals) fs → Next o fs i (name (order_name u)) gs
    → Stand i gs ts j hs → list_any is_over ts ≡ false → pass (is_over ∷ []) ts ≡ true
    → Behind (at a true c outside) l (name (codes "if") ∷ name (codes "__BYTE_ORDER__") ∷ mark equals ∷
    name (order_name u) ∷ ts) j hs r → step (at a true c outside) bs ≡ Err r
condition_ends a c bs cs ds es fs gs hs l m n o i j u ts r e f k x y z v w none p b q =
    condition_4 a c bs cs ds es fs gs l m n o i u r e f k x y z v w q
condition_ends a c bs cs ds es fs gs hs l m n o i j u ts r e f k x y z v w (more {t = t} {ts = us} g s) p b q =
    absurd (true_false (and_parts (is_over t) (pass [] us) b).0 (or_parts (is_over t) (list_any is_over us) p).0)

condition_orders : (a : ℕ) (c : Constants) (bs cs ds es fs hs : List ℕ) (l m n o j : ℕ) (ts : List Thing) (r : Refusal)
    → constant c (codes "__BYTE_ORDER__") ≡ None
    → Next a bs l hash cs → Next l cs m (name (codes "if")) ds → Next m ds n (name (codes "__BYTE_ORDER__")) es
    → Next n es o (mark equals) fs
    → Stand o fs ts j hs → list_any is_over ts ≡ false → pass (order_test c ∷ is_over ∷ []) ts ≡ true
    → Behind (at a true c outside) l (name (codes "if") ∷ name (codes "__BYTE_ORDER__") ∷ mark equals ∷ ts) j hs r
    → step (at a true c outside) bs ≡ Err r
condition_orders a c bs cs ds es fs hs l m n o j ts r e x y z v none p b q =
    condition_3 a c bs cs ds es fs l m n o r e x y z v q
condition_orders a c bs cs ds es fs hs l m n o j ts r e x y z v (more {m = i} {cs = gs} {t = t} {ts = us} g s) p b q =
    let b' = and_parts (order_test c t) (pass (is_over ∷ []) us) b in
    let k = order_is c t b'.0 in
    condition_ends a c bs cs ds es fs gs hs l m n o i j k.0 us r e k.2 k.3 x y z v
    (subst (λ (d : Thing). Next o fs i d gs) k.1 g) s (or_parts (is_over t) (list_any is_over us) p).1 b'.1
    (subst (λ (d : Thing). Behind (at a true c outside) l
    (name (codes "if") ∷ name (codes "__BYTE_ORDER__") ∷ mark equals ∷ d ∷ us) j hs r) k.1 q)

condition_marks : (a : ℕ) (c : Constants) (bs cs ds es hs : List ℕ) (l m n j : ℕ) (ts : List Thing) (r : Refusal)
    → constant c (codes "__BYTE_ORDER__") ≡ None
    → Next a bs l hash cs → Next l cs m (name (codes "if")) ds → Next m ds n (name (codes "__BYTE_ORDER__")) es
    → Stand n es ts j hs → list_any is_over ts ≡ false → pass (is_mark equals ∷ order_test c ∷ is_over ∷ []) ts ≡ true
    → Behind (at a true c outside) l (name (codes "if") ∷ name (codes "__BYTE_ORDER__") ∷ ts) j hs r
    → step (at a true c outside) bs ≡ Err r
condition_marks a c bs cs ds es hs l m n j ts r e x y z none p b q = condition_2 a c bs cs ds es l m n r e x y z q
condition_marks a c bs cs ds es hs l m n j ts r e x y z (more {m = o} {cs = fs} {t = t} {ts = us} g s) p b q =
    let b' = and_parts (is_mark equals t) (pass (order_test c ∷ is_over ∷ []) us) b in
    let k = mark_is t b'.0 in
    condition_orders a c bs cs ds es fs hs l m n o j us r e x y z (subst (λ (d : Thing). Next n es o d fs) k g) s
    (or_parts (is_over t) (list_any is_over us) p).1 b'.1
    (subst (λ (d : Thing). Behind (at a true c outside) l (name (codes "if") ∷ name (codes "__BYTE_ORDER__") ∷ d ∷ us) j
    hs r) k q)

pub condition_things : (a : ℕ) (c : Constants) (bs cs ds hs : List ℕ) (l m j : ℕ) (ts : List Thing) (r : Refusal)
    → Next a bs l hash cs → Next l cs m (name (codes "if")) ds
    → Stand m ds ts j hs → list_any is_over ts ≡ false → may_begin (at a true c outside) (name (codes "if") ∷ ts) ≡ true
    → Behind (at a true c outside) l (name (codes "if") ∷ ts) j hs r → step (at a true c outside) bs ≡ Err r
condition_things a c bs cs ds hs l m j ts r x y none p b q = condition_1 a c bs cs ds l m r x y q
condition_things a c bs cs ds hs l m j ts r x y (more {m = n} {cs = es} {t = t} {ts = us} g s) p b q =
    let b' = and_parts (is_named (λ w. is_plain c (codes "__BYTE_ORDER__") w) t)
    (pass (is_mark equals ∷ order_test c ∷ is_over ∷ []) us) (or_false _ b) in
    let w = named_is (λ w. is_plain c (codes "__BYTE_ORDER__") w) t b'.0 in
    let d = plain_parts c (codes "__BYTE_ORDER__") w.0 w.2 in
    let k : t ≡ name (codes "__BYTE_ORDER__") = w.1 ∙ ap name d.0 in
    condition_marks a c bs cs ds es hs l m n j us r d.1 x y (subst (λ (v : Thing). Next m ds n v es) k g) s
    (or_parts (is_over t) (list_any is_over us) p).1 b'.1
    (subst (λ (v : Thing). Behind (at a true c outside) l (name (codes "if") ∷ v ∷ us) j hs r) k q)
