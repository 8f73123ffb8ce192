-- The grammar of expressions, on whole lists of tokens, with one case for each rule: C11 6.5, without the comma
-- operator.
use Rattle.std.specs.Prelude.{◌≡◌, ℕ, ◌+◌, ◌<◌, ◌≤◌, ◌==◌, nat_le, if◌then◌else◌, Bool, true, false, ◌&&◌, ◌||◌, List}
use Rattle.std.specs.Prelude.{[], ◌∷◌, ◌++◌}
use Rattle.ep_ast.specs.declared.expressions.Literal.{Literal}
use Rattle.ep_ast.specs.Token.{Tok, word, name, number, mark}
use Rattle.ep_ast.specs.Expression as tree
use Rattle.ep_ast.specs.Expression.{Expr, TypeName, to_exprs, line_of}
use Rattle.ep_ast.specs.Mark.{arrow, plus_plus, minus_minus, left_shift, right_shift, less_equal, greater_equal}
use Rattle.ep_ast.specs.Mark.{equal_equal, not_equal, and_and, bar_bar, left_shift_equal, right_shift_equal, plus_equal}
use Rattle.ep_ast.specs.Mark.{caret_equal, left_paren, right_paren, left_bracket, right_bracket, right_brace, dot}
use Rattle.ep_ast.specs.Mark.{ampersand, star, plus, minus, tilde, exclamation, slash, percent, less, greater, caret}
use Rattle.ep_ast.specs.Mark.{bar, question, colon, semicolon, equal, comma, sizeof_word}
use Rattle.ep_ast.specs.TypeWords.{TypeNamed}

-- the level of a binary operator, the loosest first; 0 for other marks
abbrev pub level : ℕ → ℕ
level c =
    if c == bar_bar then 1
    else if c == and_and then 2
    else if c == bar then 3
    else if c == caret then 4
    else if c == ampersand then 5
    else if c == equal_equal || c == not_equal then 6
    else if c == less || c == less_equal || c == greater || c == greater_equal then 7
    else if c == left_shift || c == right_shift then 8
    else if c == plus || c == minus then 9
    else if c == star || c == slash || c == percent then 10
    else 0

-- `=`, `<<=`, `>>=`, and `+=` to `^=`
abbrev pub is_assignment : ℕ → Bool
is_assignment c = c == equal || c == left_shift_equal || c == right_shift_equal || (nat_le plus_equal c &&
    nat_le c caret_equal)

abbrev pub is_prefix : ℕ → Bool
is_prefix c = c == ampersand || c == star || c == plus || c == minus || c == tilde || c == exclamation

abbrev pub is_step : ℕ → Bool
is_step c = c == plus_plus || c == minus_minus

-- what stands behind an operand
pub data Suffix : Type 0 where
  at : (index : Expr) → Suffix
  with : (arguments : List Expr) → Suffix
  of : (name : List ℕ) → Suffix
  through : (name : List ℕ) → Suffix
  increment : Suffix
  decrement : Suffix

abbrev pub apply : Suffix → Expr → Expr
apply (at b) a = tree.index (line_of a) a b
apply (with bs) a = tree.call (line_of a) a (to_exprs bs)
apply (of text) a = tree.member (line_of a) a text
apply (through text) a = tree.arrow (line_of a) a text
apply increment a = tree.post_increment (line_of a) a
apply decrement a = tree.post_decrement (line_of a) a

pub data Rule : Type 0 where
  expr : Rule
  cond : Rule
  bin : (level : ℕ) → Rule
  cast : Rule
  unary : Rule
  postfix : Rule
  primary : Rule

-- The tokens of the first list up to where the second begins are this tree by this rule, where these names are types.
mutual
  pub data Derives (is_type : List ℕ → Bool) : Rule → List Tok → List Tok → Expr → Type 0 where
    assigns : {l c : ℕ} {xs ys zs : List Tok} {a b : Expr} → is_assignment c ≡ true
        → Derives is_type unary xs (mark l c ∷ ys) a → Derives is_type expr ys zs b
        → Derives is_type expr xs zs (tree.assign (line_of a) c a b)
    assigns_not : {xs ys : List Tok} {a : Expr} → Derives is_type cond xs ys a → Derives is_type expr xs ys a
    chooses : {l c m d : ℕ} {xs ys zs ws : List Tok} {a b e : Expr} → c ≡ question → d ≡ colon
        → Derives is_type (bin 1) xs (mark l c ∷ ys) a → Derives is_type expr ys (mark m d ∷ zs) b
        → Derives is_type cond zs ws e
        → Derives is_type cond xs ws (tree.conditional (line_of a) a b e)
    chooses_not : {xs ys : List Tok} {a : Expr} → Derives is_type (bin 1) xs ys a → Derives is_type cond xs ys a
    left : {k l c : ℕ} {xs ys zs : List Tok} {a b : Expr} → level c ≡ k → 0 < k
        → Derives is_type (bin k) xs (mark l c ∷ ys) a → Derives is_type (bin (k + 1)) ys zs b
        → Derives is_type (bin k) xs zs (tree.binary (line_of a) c a b)
    tighter : {k : ℕ} {xs ys : List Tok} {a : Expr} → k ≤ 10 → Derives is_type (bin (k + 1)) xs ys a
        → Derives is_type (bin k) xs ys a
    operand : {k : ℕ} {xs ys : List Tok} {a : Expr} → k ≡ 11 → Derives is_type cast xs ys a
        → Derives is_type (bin k) xs ys a
    casts : {l c : ℕ} {xs ys zs : List Tok} {t : TypeName} {a : Expr} → c ≡ left_paren
        → TypeNamed is_type xs ys t → Derives is_type cast ys zs a
        → Derives is_type cast (mark l c ∷ xs) zs (tree.cast l t a)
    casts_not : {xs ys : List Tok} {a : Expr} → Derives is_type unary xs ys a → Derives is_type cast xs ys a
    steps : {l c : ℕ} {xs ys : List Tok} {a : Expr} → is_step c ≡ true → Derives is_type unary xs ys a
        → Derives is_type unary (mark l c ∷ xs) ys (tree.step l c a)
    prefixed : {l c : ℕ} {xs ys : List Tok} {a : Expr} → is_prefix c ≡ true → Derives is_type cast xs ys a
        → Derives is_type unary (mark l c ∷ xs) ys (tree.unary l c a)
    sized : {l w : ℕ} {xs ys : List Tok} {a : Expr} → w ≡ sizeof_word → Derives is_type unary xs ys a
        → Derives is_type unary (word l w ∷ xs) ys (tree.sizeof_expr l a)
    sized_type : {l w m c : ℕ} {xs ys : List Tok} {t : TypeName} → w ≡ sizeof_word → c ≡ left_paren
        → TypeNamed is_type xs ys t → Derives is_type unary (word l w ∷ mark m c ∷ xs) ys (tree.sizeof_type l t)
    unary_not : {xs ys : List Tok} {a : Expr} → Derives is_type postfix xs ys a → Derives is_type unary xs ys a
    suffixed : {xs ys zs : List Tok} {a : Expr} {s : Suffix} → Derives is_type postfix xs ys a →
        IsSuffix is_type ys zs s
        → Derives is_type postfix xs zs (apply s a)
    suffixed_not : {xs ys : List Tok} {a : Expr} → Derives is_type primary xs ys a → Derives is_type postfix xs ys a
    names : {l : ℕ} {text : List ℕ} {xs : List Tok} → is_type text ≡ false
        → Derives is_type primary (name l text ∷ xs) xs (tree.id l text)
    numbers : {l : ℕ} {n : Literal} {xs : List Tok} → Derives is_type primary (number l n ∷ xs) xs (tree.number l n)
    parens : {l c m d : ℕ} {xs ys : List Tok} {a : Expr} → c ≡ left_paren → d ≡ right_paren
        → Derives is_type expr xs (mark m d ∷ ys) a → Derives is_type primary (mark l c ∷ xs) ys a

  pub data IsSuffix (is_type : List ℕ → Bool) : List Tok → List Tok → Suffix → Type 0 where
    indexed : {l c m d : ℕ} {xs ys : List Tok} {b : Expr} → c ≡ left_bracket → d ≡ right_bracket
        → Derives is_type expr xs (mark m d ∷ ys) b → IsSuffix is_type (mark l c ∷ xs) ys (at b)
    called : {l c : ℕ} {xs ys : List Tok} {bs : List Expr} → c ≡ left_paren → Arguments is_type xs ys bs
        → IsSuffix is_type (mark l c ∷ xs) ys (with bs)
    member : {l c m : ℕ} {text : List ℕ} {xs : List Tok} → c ≡ dot
        → IsSuffix is_type (mark l c ∷ name m text ∷ xs) xs (of text)
    pointed : {l c m : ℕ} {text : List ℕ} {xs : List Tok} → c ≡ arrow
        → IsSuffix is_type (mark l c ∷ name m text ∷ xs) xs (through text)
    incremented : {l c : ℕ} {xs : List Tok} → c ≡ plus_plus → IsSuffix is_type (mark l c ∷ xs) xs increment
    decremented : {l c : ℕ} {xs : List Tok} → c ≡ minus_minus → IsSuffix is_type (mark l c ∷ xs) xs decrement

  -- from behind the opening parenthesis to behind the closing one
  pub data Arguments (is_type : List ℕ → Bool) : List Tok → List Tok → List Expr → Type 0 where
    no_arguments : {m d : ℕ} {xs : List Tok} → d ≡ right_paren → Arguments is_type (mark m d ∷ xs) xs []
    some_arguments : {xs ys : List Tok} {bs : List Expr} → Listed is_type xs ys bs → Arguments is_type xs ys bs

  pub data Listed (is_type : List ℕ → Bool) : List Tok → List Tok → List Expr → Type 0 where
    last : {m d : ℕ} {xs ys : List Tok} {a : Expr} → d ≡ right_paren → Derives is_type expr xs (mark m d ∷ ys) a
        → Listed is_type xs ys (a ∷ [])
    next : {m d : ℕ} {xs ys zs : List Tok} {a : Expr} {bs : List Expr} → d ≡ comma
        → Derives is_type expr xs (mark m d ∷ ys) a → Listed is_type ys zs bs → Listed is_type xs zs (a ∷ bs)

-- what may follow an expression: `)`, `]`, `}`, `,`, `;`, `:` or the end
abbrev pub follows : List Tok → Bool
follows [] = true
follows (mark l c ∷ ts) = c == right_paren || c == right_bracket || c == right_brace || c == comma || c ==
    semicolon || c == colon
follows _ = false

-- A front of the tokens is this tree, and something that may follow an expression comes after it.
pub record IsFront (is_type : List ℕ → Bool) (ts front rest : List Tok) (t : Expr) : Type 0 where
  pub parts : ts ≡ front ++ rest
  pub derives : Derives is_type expr front [] t
  pub followed : follows rest ≡ true
