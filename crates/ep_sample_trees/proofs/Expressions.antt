-- The expressions of samples, derived.
use Rattle.std.proofs.Common.{◌≡◌, ℕ, zero, suc, ◌+◌, ◌≤◌, true, false, List, [], ◌∷◌, ◌++◌, refl, subst, arith}
use Rattle.ep_ast.specs.Token.{Tok, name, number, mark}
use Rattle.ep_ast.specs.Expression as tree
use Rattle.ep_ast.specs.Expression.{Expr, TypeName}
use Rattle.ep_ast.specs.Mark.{left_paren, right_paren, left_bracket, right_bracket, equal, comma, ampersand, bar}
use Rattle.ep_ast.specs.Mark.{left_shift, right_shift}
use Rattle.ep_ast.specs.TypeWords.{is_built_in_type, closed, TypeNamed, AreType, AreStars, no_stars, more_words, no_words}
use Rattle.ep_ast.specs.TypeWords as words
use Rattle.ep_ast.specs.Grammar.{Derives, expr, bin, cast, unary, primary, assigns, assigns_not, level}
use Rattle.ep_ast.specs.Grammar.{chooses_not, left, tighter, operand, casts, casts_not, prefixed, unary_not, suffixed}
use Rattle.ep_ast.specs.Grammar.{suffixed_not, names, numbers, parens, indexed, called, no_arguments, some_arguments}
use Rattle.ep_ast.specs.Grammar.{Arguments, last, next}
use Rattle.ep_sample_trees.specs.Names.{h, literal}
use Rattle.ep_sample_trees.specs.Tokens as tokens
use Rattle.ep_sample_trees.specs.Tree as trees

abbrev pub Reads : List Tok → List Tok → Expr → Type 0
Reads xs ys e = Derives is_built_in_type expr xs ys e

abbrev pub Casts : List Tok → List Tok → Expr → Type 0
Casts xs ys e = Derives is_built_in_type cast xs ys e

abbrev pub Places : List Tok → List Tok → Expr → Type 0
Places xs ys e = Derives is_built_in_type unary xs ys e

-- ---- from tight to loose

down : (n k j : ℕ) {xs ys : List Tok} {e : Expr} → n + k ≡ j → j ≤ 11 → Derives is_built_in_type (bin j) xs ys e
    → Derives is_built_in_type (bin k) xs ys e
down zero k j {xs = xs} {ys = ys} {e = e} p h d =
    let q : j ≡ k = omega (arith, p) in subst (λ i. Derives is_built_in_type (bin i) xs ys e) q d
down (suc n) k j p h d = tighter (omega (arith, p, h)) (down n (k + 1) j (omega (arith, p)) h d)

up : (n k : ℕ) {xs ys : List Tok} {e : Expr} → n + k ≡ 11 → Casts xs ys e → Derives is_built_in_type (bin k) xs ys e
up n k p d = down n k 11 p (omega arith) (operand refl d)

loosely : {xs ys : List Tok} {e : Expr} → Derives is_built_in_type (bin 1) xs ys e → Reads xs ys e
loosely d = assigns_not (chooses_not d)

pub whole : {xs ys : List Tok} {e : Expr} → Casts xs ys e → Reads xs ys e
whole d = loosely (up 10 1 refl d)

alone : {xs ys : List Tok} {e : Expr} → Derives is_built_in_type primary xs ys e → Casts xs ys e
alone d = casts_not (unary_not (suffixed_not d))

-- ---- names and numbers

pub a_name : (l : ℕ) (t : List ℕ) (ts : List Tok) → is_built_in_type t ≡ false → Casts (name l t ∷ ts) ts (trees.id l t)
a_name l t ts e = alone (names e)

pub a_place : (l : ℕ) (t : List ℕ) (ts : List Tok) → is_built_in_type t ≡ false
    → Places (name l t ∷ ts) ts (trees.id l t)
a_place l t ts e = unary_not (suffixed_not (names e))

pub a_number : (l n : ℕ) (ts : List Tok) → Casts (number l (literal n) ∷ ts) ts (trees.number l n)
a_number l n ts = alone numbers

-- ---- shifts

shift : (l : ℕ) (t : List ℕ) (c n : ℕ) (ts : List Tok) → is_built_in_type t ≡ false → level c ≡ 8
    → Derives is_built_in_type (bin 8) (name l t ∷ mark l c ∷ number l (literal n) ∷ ts) ts (trees.shift l t c n)
shift l t c n ts e k =
    left k (omega arith) (up 3 8 refl (a_name l t (mark l c ∷ number l (literal n) ∷ ts) e))
    (up 2 9 refl (a_number l n ts))

pub shift_in_parens : (l : ℕ) (t : List ℕ) (c n : ℕ) (ts : List Tok) → is_built_in_type t ≡ false → level c ≡ 8
    → Casts (tokens.shift_in_parens l t c n ++ ts) ts (trees.shift l t c n)
shift_in_parens l t c n ts e k =
    alone (parens refl refl (loosely (down 7 1 8 refl (omega arith) (shift l t c n (mark l right_paren ∷ ts) e k))))

pub both_shifts : (l : ℕ) (t : List ℕ) (m n : ℕ) (ts : List Tok) → is_built_in_type t ≡ false
    → Reads (tokens.both_shifts l t m n ++ ts) ts (trees.both_shifts l t m n)
both_shifts l t m n ts e =
    loosely (down 2 1 3 refl (omega arith) (left refl (omega arith)
    (up 8 3 refl (shift_in_parens l t right_shift m (mark l bar ∷ tokens.shift_in_parens l t left_shift n ++ ts) e refl))
    (up 7 4 refl (shift_in_parens l t left_shift n ts e refl))))

pub both_in_parens : (l : ℕ) (t : List ℕ) (m n : ℕ) (ts : List Tok) → is_built_in_type t ≡ false
    → Casts (mark l left_paren ∷ tokens.both_shifts l t m n ++ mark l right_paren ∷ ts) ts (trees.both_shifts l t m n)
both_in_parens l t m n ts e = alone (parens refl refl (both_shifts l t m n (mark l right_paren ∷ ts) e))

-- ---- types

pub one_word : (l : ℕ) (t : List ℕ) (ts : List Tok) → is_built_in_type t ≡ true → words.begins_type is_built_in_type ts ≡ false
    → words.names_type (tree.typedef_name l t ∷ []) ≡ true
    → AreType is_built_in_type (name l t ∷ ts) ts (tree.typedef_name l t ∷ [])
one_word l t ts e f g = record { words = more_words (words.type_name e) no_words; named_type = g; over = f }

pub no_star : (xs : List Tok) → words.ends_stars xs ≡ true → AreStars xs xs []
no_star xs e = record { stars = no_stars; over = e }

pub a_cast : (l : ℕ) (t : List ℕ) {ts us : List Tok} {e : Expr} → is_built_in_type t ≡ true → Casts ts us e
    → Casts (mark l left_paren ∷ name l t ∷ mark l right_paren ∷ ts) us (tree.cast l (trees.type_name l t) e)
a_cast l t {ts = ts} e d =
    casts refl (closed refl (one_word l t (mark l right_paren ∷ ts) e refl refl)
    (no_star (mark l right_paren ∷ ts) refl)) d

-- ---- calls

a_call : (l : ℕ) (f : List ℕ) {ts us : List Tok} {es : List Expr} → is_built_in_type f ≡ false
    → Arguments is_built_in_type ts us es → Casts (name l f ∷ mark l left_paren ∷ ts) us (trees.call l f es)
a_call l f e d = casts_not (unary_not (suffixed (suffixed_not (names e)) (called refl d)))

pub call_of_none : (l : ℕ) (f : List ℕ) (ts : List Tok) → is_built_in_type f ≡ false
    → Casts (name l f ∷ mark l left_paren ∷ mark l right_paren ∷ ts) ts (trees.call l f [])
call_of_none l f ts e = a_call l f e (no_arguments refl)

pub call_of_one : (l : ℕ) (f t : List ℕ) (ts : List Tok) → is_built_in_type f ≡ false → is_built_in_type t ≡ false
    → Casts (name l f ∷ mark l left_paren ∷ name l t ∷ mark l right_paren ∷ ts) ts (trees.call l f (trees.id l t ∷ []))
call_of_one l f t ts e g =
    a_call l f e (some_arguments (last refl (whole (a_name l t (mark l right_paren ∷ ts) g))))

pub call_with_number : (l : ℕ) (f : List ℕ) (n : ℕ) {xs : List Tok} {u : Expr} (ts : List Tok) → is_built_in_type f ≡ false
    → Casts xs (mark l comma ∷ number l (literal n) ∷ mark l right_paren ∷ ts) u
    → Casts (name l f ∷ mark l left_paren ∷ xs) ts (trees.call l f (u ∷ trees.number l n ∷ []))
call_with_number l f n ts e d =
    a_call l f e (some_arguments (next refl (whole d) (last refl (whole (a_number l n (mark l right_paren ∷ ts))))))

pub an_address : (l : ℕ) (t : List ℕ) (ts : List Tok) → is_built_in_type t ≡ false
    → Casts (mark l ampersand ∷ name l t ∷ ts) ts (tree.unary l ampersand (trees.id l t))
an_address l t ts e = casts_not (prefixed refl (a_name l t ts e))

-- ---- assignments

pub an_element : (l : ℕ) (t : List ℕ) (n : ℕ) (ts : List Tok) → is_built_in_type t ≡ false
    → Places (name l t ∷ mark l left_bracket ∷ number l (literal n) ∷ mark l right_bracket ∷ ts) ts
    (tree.index l (trees.id l t) (trees.number l n))
an_element l t n ts e =
    unary_not (suffixed (suffixed_not (names e)) (indexed refl refl (whole (a_number l n (mark l right_bracket ∷ ts)))))

pub assigned : (l : ℕ) {xs ys zs : List Tok} {a u : Expr} → tree.line_of a ≡ l → Places xs (mark l equal ∷ ys) a
    → Reads ys zs u → Reads xs zs (trees.assign l a u)
assigned l {xs = xs} {zs = zs} {a = a} {u = u} e d f =
    subst (λ k. Reads xs zs (tree.assign k equal a u)) e (assigns refl d f)
