-- How the bytes of a source cut into tokens, and what offends there: C11 6.4 and 6.10, with this project's directives.
use Rattle.std.specs.Prelude.{◌≡◌, ℕ, ◌+◌, Bool, true, false, ◌&&◌, ◌||◌, not, ◌==◌, nat_eq, if◌then◌else◌, List, []}
use Rattle.std.specs.Prelude.{◌∷◌, ◌++◌, length, drop, codes, Option, Some, None, is_some, is_none}
use Rattle.std.specs.List.{position_from, starts_with, list_any}
use Rattle.std.specs.Str.{bytes_eq}
use Rattle.ep_ast.specs.Kind as kinds
use Rattle.ep_ast.specs.declared.orders.NamedOrder.{NamedOrder}
use Rattle.ep_ast.specs.declared.orders.NamedOrder.TheVariants.{Little, Big}
use Rattle.ep_ast.specs.declared.expressions.Literal.{Literal}
use Rattle.ep_ast.specs.declared.refusals.Refusal.{Refusal}
use Rattle.ep_ast.specs.Token as token
use Rattle.ep_ast.specs.Mark.{equal_equal}
use Rattle.ep_ast.specs.Token.{Tok, accepted_words, reserved_words}
use Rattle.ep_ast.specs.Lexeme.{Thing, over, hash, quote, name, number, mark, Gap, Begins, Next, Breaks}

-- ---- names

-- the defined constants, in the order of their definitions
abbrev pub Constants : Type 0
Constants = List (List ℕ × Literal)

abbrev pub constant : Constants → List ℕ → Option Literal
constant [] t = None
constant (c ∷ cs) t = if bytes_eq t c.0 then Some c.1 else constant cs t

-- words by their numbers from 1
abbrev pub accepted : List ℕ → Option ℕ
accepted t = position_from (bytes_eq t) 1 accepted_words

abbrev pub reserved : List ℕ → Option ℕ
reserved t = position_from (bytes_eq t) 1 reserved_words

-- what a name in the text is: an accepted word, a reserved word, a defined constant, or a name of its own
pub data Sense : Type 0 where
  is_accepted : (code : ℕ) → Sense
  is_reserved : (code : ℕ) → Sense
  is_constant : (literal : Literal) → Sense
  is_own : Sense

abbrev pub sense_of : Option ℕ → Option ℕ → Option Literal → Sense
sense_of (Some n) r c = is_accepted n
sense_of None (Some n) c = is_reserved n
sense_of None None (Some c) = is_constant c
sense_of None None None = is_own

abbrev pub sense : Constants → List ℕ → Sense
sense cs t = sense_of (accepted t) (reserved t) (constant cs t)

-- ---- positions

-- whether a conditional is open: its first arm, or the one behind `#else`, with the line of its `#if`
pub data Open : Type 0 where
  outside : Open
  first_arm : (from : ℕ) → Open
  second_arm : (from : ℕ) → Open

abbrev pub is_outside : Open → Bool
is_outside outside = true
is_outside (first_arm l) = false
is_outside (second_arm l) = false

abbrev pub is_first : Open → Bool
is_first outside = false
is_first (first_arm l) = true
is_first (second_arm l) = false

-- the line of the `#if` of the conditional that is open
abbrev pub opened_at : Open → Option ℕ
opened_at outside = None
opened_at (first_arm l) = Some l
opened_at (second_arm l) = Some l

-- A position in the source: its line, whether nothing but blanks and comments stands before it on its line, the
-- constants defined before it, and the conditional round it. A comment counts as one space, so a newline inside one
-- begins no line here.
pub record Position : Type 0 where
  pub line : ℕ
  pub fresh : Bool
  pub constants : Constants
  pub open_arm : Open

abbrev pub start : Position
start = record { line = 1; fresh = true; constants = []; open_arm = outside }

-- the position behind something on line l, with what may have changed
abbrev pub behind : Position → ℕ → Position
behind p l = record p { line = l; fresh = false }

-- ---- directives

-- These things stand next on the line.
pub data Stand : ℕ → List ℕ → List Thing → ℕ → List ℕ → Type 0 where
  none : {l : ℕ} {bs : List ℕ} → Stand l bs [] l bs
  more : {l m n : ℕ} {bs cs ds : List ℕ} {t : Thing} {ts : List Thing} → Next l bs m t cs → Stand m cs ts n ds
      → Stand l bs (t ∷ ts) n ds

-- the four header names, with their quotes
abbrev pub headers : List (List ℕ)
headers = codes "<stdint.h>" ∷ codes "<stddef.h>" ∷ codes "<string.h>" ∷ codes "\"ep.h\"" ∷ []

-- what comes after the first of the texts that stands there
abbrev pub after : List (List ℕ) → List ℕ → Option (List ℕ)
after [] bs = None
after (t ∷ ts) bs = if starts_with nat_eq bs t then Some (drop (length t) bs) else after ts bs

-- a name that a `#define` may give: no word of the language, and not defined before
abbrev pub may_define : Constants → List ℕ → Bool
may_define cs t = is_none (accepted t) && is_none (reserved t) && is_none (constant cs t)

-- what a thing in a directive stands for, if it is a constant or a defined name
abbrev pub value : Constants → Thing → Option Literal
value cs (number n) = Some n
value cs (name t) = constant cs t
value cs over = None
value cs hash = None
value cs quote = None
value cs (mark n) = None

abbrev pub order_name : NamedOrder → List ℕ
order_name Little = codes "__ORDER_LITTLE_ENDIAN__"
order_name Big = codes "__ORDER_BIG_ENDIAN__"

abbrev pub order_token : NamedOrder → ℕ → Tok
order_token Little l = token.if_little l
order_token Big l = token.if_big l

-- the number of the mark `==`
abbrev pub equals : ℕ
equals = equal_equal

-- ---- the pieces of a source: one case for each rule

-- From the position p on the bytes begin with the end of a line, a token or a directive, and the position q and the
-- rest come after it.
pub data Piece (p : Position) : List ℕ → List Tok → Position → List ℕ → Type 0 where
  line_end : {bs rest : List ℕ} (m b : ℕ) → Next p.line bs m over (b ∷ rest)
      → Piece p bs [] (record p { line = m + 1; fresh = true }) rest
  word : {bs rest : List ℕ} (m n : ℕ) (t : List ℕ) → Next p.line bs m (name t) rest
      → sense p.constants t ≡ is_accepted n → Piece p bs (token.word m n ∷ []) (behind p m) rest
  own_name : {bs rest : List ℕ} (m : ℕ) (t : List ℕ) → Next p.line bs m (name t) rest → sense p.constants t ≡ is_own
      → Piece p bs (token.name m t ∷ []) (behind p m) rest
  defined : {bs rest : List ℕ} (m : ℕ) (t : List ℕ) (c : Literal) → Next p.line bs m (name t) rest
      → sense p.constants t ≡ is_constant c
      → Piece p bs (token.number m c ∷ []) (behind p m) rest
  literal : {bs rest : List ℕ} (m : ℕ) (c : Literal) → Next p.line bs m (number c) rest
      → Piece p bs (token.number m c ∷ []) (behind p m) rest
  sign : {bs rest : List ℕ} (m n : ℕ) → Next p.line bs m (mark n) rest
      → Piece p bs (token.mark m n ∷ []) (behind p m) rest
  include : {bs cs ds es rest : List ℕ} (m n k : ℕ) → p.fresh ≡ true → p.open_arm ≡ outside
      → Stand p.line bs (hash ∷ name (codes "include") ∷ []) m cs
      → Gap m cs n ds → after headers ds ≡ Some es → Next n es k over rest → Piece p bs [] (behind p k) rest
  define : {bs rest : List ℕ} (m : ℕ) (t : List ℕ) (v : Thing) (c : Literal) → p.fresh ≡ true → p.open_arm ≡ outside
      → Stand p.line bs (hash ∷ name (codes "define") ∷ name t ∷ v ∷ over ∷ []) m rest → may_define p.constants t ≡ true
      → value p.constants v ≡ Some c
      → Piece p bs [] (record p { line = m; fresh = false; constants = p.constants ++ (t, c) ∷ [] }) rest
  condition : {bs cs rest : List ℕ} (l m : ℕ) (o : NamedOrder) → p.fresh ≡ true → p.open_arm ≡ outside
      → constant p.constants (codes "__BYTE_ORDER__") ≡ None
      → constant p.constants (order_name o) ≡ None → Next p.line bs l hash cs
      → Stand l cs (name (codes "if") ∷ name (codes "__BYTE_ORDER__") ∷ mark equals ∷ name (order_name o) ∷ over ∷ []) m
      rest
      → Piece p bs (order_token o l ∷ []) (record p { line = m; fresh = false; open_arm = first_arm l }) rest
  otherwise : {bs cs rest : List ℕ} (l m from : ℕ) → p.fresh ≡ true → p.open_arm ≡ first_arm from
      → Next p.line bs l hash cs
      → Stand l cs (name (codes "else") ∷ over ∷ []) m rest
      → Piece p bs (token.other l ∷ []) (record p { line = m; fresh = false; open_arm = second_arm from }) rest
  end_if : {bs cs rest : List ℕ} (l m : ℕ) → p.fresh ≡ true → is_outside p.open_arm ≡ false → Next p.line bs l hash cs
      → Stand l cs (name (codes "endif") ∷ over ∷ []) m rest
      → Piece p bs (token.end_if l ∷ []) (record p { line = m; fresh = false; open_arm = outside }) rest

-- The bytes from this position on cut into the tokens.
pub data Cuts : Position → List ℕ → List Tok → Type 0 where
  ends : {p : Position} {bs : List ℕ} (m : ℕ) → Next p.line bs m over [] → p.open_arm ≡ outside → Cuts p bs []
  piece : {p q : Position} {bs rest : List ℕ} {ts us all : List Tok} → Piece p bs ts q rest → Cuts q rest us
      → all ≡ ts ++ us → Cuts p bs all

-- ---- what offends in a directive: from left to right, the first thing with which it is no directive any more, or that
-- is broken in itself

abbrev pub is_over : Thing → Bool
is_over over = true
is_over hash = false
is_over quote = false
is_over (name t) = false
is_over (number n) = false
is_over (mark n) = false

-- whether the thing is a name that passes the test
abbrev pub is_named : (List ℕ → Bool) → Thing → Bool
is_named f over = false
is_named f hash = false
is_named f quote = false
is_named f (name t) = f t
is_named f (number n) = false
is_named f (mark n) = false

abbrev pub is_mark : ℕ → Thing → Bool
is_mark k over = false
is_mark k hash = false
is_mark k quote = false
is_mark k (name t) = false
is_mark k (number n) = false
is_mark k (mark n) = n == k

-- whether there are no more things than tests, and each passes its own
abbrev pub pass : List (Thing → Bool) → List Thing → Bool
pass fs [] = true
pass [] (t ∷ ts) = false
pass (f ∷ fs) (t ∷ ts) = f t && pass fs ts

-- what may stand in each directive behind `#`
abbrev pub shapes : Position → List (List (Thing → Bool))
shapes p =
    let c = p.constants in
    let plain : List ℕ → Thing → Bool = λ w. is_named (λ t. bytes_eq t w && is_none (constant c t)) in
    let word : List ℕ → Thing → Bool = λ w. is_named (λ t. bytes_eq t w) in
    if is_outside p.open_arm then
    (word (codes "define") ∷ is_named (may_define c) ∷ (λ t. is_some (value c t)) ∷ is_over ∷ [])
    ∷ (word (codes "include") ∷ [])
    ∷ (word (codes "if") ∷ plain (codes "__BYTE_ORDER__") ∷ is_mark equals ∷
    (λ t. plain (order_name Little) t || plain (order_name Big) t) ∷ is_over ∷ [])
    ∷ []
    else
    (word (codes "endif") ∷ is_over ∷ []) ∷ (if is_first p.open_arm then (word (codes "else") ∷ is_over ∷ []) ∷
    [] else [])

-- whether the things begin a directive
abbrev pub may_begin : Position → List Thing → Bool
may_begin p ts = list_any (λ fs. pass fs ts) (shapes p)

-- whether they are `include` alone, behind which stands a header name
abbrev pub is_include : List Thing → Bool
is_include [] = false
is_include (t ∷ ts) = is_named (λ w. bytes_eq w (codes "include")) t

-- the kind of a wrong directive that begins with this thing; inside a conditional each is one of the conditional's
abbrev pub directive_kind : Position → List Thing → ℕ
directive_kind p [] = kinds.directive
directive_kind p (t ∷ ts) =
    if not (is_outside p.open_arm) || is_named (λ w. list_any (bytes_eq w)
    (codes "if" ∷ codes "elif" ∷ codes "else" ∷ codes "endif" ∷ [])) t then kinds.conditional
    else if is_named (λ w. bytes_eq w (codes "include")) t then kinds.include
    else kinds.directive

abbrev pub at_line : ℕ → ℕ → Refusal
at_line k l = record { kind = k; line = l; word = 0 }

-- How a thing on line m is refused in a directive of this kind on line l. A `#` is none of a directive, nor is a `"`
-- but in an include; anything else makes the directive a wrong one.
abbrev pub wrong : ℕ → ℕ → ℕ → Thing → Refusal
wrong k l m over = at_line k l
wrong k l m hash = at_line kinds.byte m
wrong k l m quote = if k == kinds.include then at_line kinds.include l else at_line kinds.string_literal m
wrong k l m (name t) = at_line k l
wrong k l m (number n) = at_line k l
wrong k l m (mark n) = at_line k l

-- At the position p, in the piece with which the bytes begin, this offends.
pub data Offence (p : Position) : List ℕ → Refusal → Type 0 where
  broken : {bs : List ℕ} (k m : ℕ) → Breaks p.line bs k m → Offence p bs (at_line k m)
  stray_quote : {bs rest : List ℕ} (m : ℕ) → Next p.line bs m quote rest → Offence p bs (at_line kinds.string_literal m)
  stray_hash : {bs rest : List ℕ} (m : ℕ) → Next p.line bs m hash rest → p.fresh ≡ false
      → Offence p bs (at_line kinds.byte m)
  reserved_word : {bs rest : List ℕ} (m n : ℕ) (t : List ℕ) → Next p.line bs m (name t) rest
      → sense p.constants t ≡ is_reserved n
      → Offence p bs (record { kind = kinds.reserved_word; line = m; word = n })
  no_end_if : {bs : List ℕ} (m from : ℕ) → Next p.line bs m over [] → opened_at p.open_arm ≡ Some from
      → Offence p bs (at_line kinds.conditional from)
  broken_inside : {bs cs ds : List ℕ} (l m n k : ℕ) (ts : List Thing) → p.fresh ≡ true → Next p.line bs l hash cs
      → Stand l cs ts m ds → list_any is_over ts ≡ false → may_begin p ts ≡ true
      → Breaks m ds k n → Offence p bs (at_line k n)
  wrong_inside : {bs cs ds es : List ℕ} (l m n : ℕ) (ts : List Thing) (t : Thing) → p.fresh ≡ true
      → Next p.line bs l hash cs → Stand l cs ts m ds → list_any is_over ts ≡ false
      → may_begin p ts ≡ true → Next m ds n t es → may_begin p (ts ++ t ∷ []) ≡ false → is_include ts ≡ false
      → Offence p bs (wrong (directive_kind p (ts ++ t ∷ [])) l n t)
  no_header : {bs cs ds es fs : List ℕ} (l m n : ℕ) (t : Thing) → p.fresh ≡ true → p.open_arm ≡ outside
      → Next p.line bs l hash cs
      → Stand l cs (name (codes "include") ∷ []) m ds → Gap m ds n es → Begins es t fs → after headers es ≡ None
      → Offence p bs (wrong kinds.include l n t)
  broken_header : {bs cs ds es fs : List ℕ} (l m n k o : ℕ) → p.fresh ≡ true → p.open_arm ≡ outside
      → Next p.line bs l hash cs
      → Stand l cs (name (codes "include") ∷ []) m ds → Gap m ds n es → after headers es ≡ Some fs → Breaks n fs k o
      → Offence p bs (at_line k o)
  behind_header : {bs cs ds es fs gs : List ℕ} (l m n o : ℕ) (t : Thing) → p.fresh ≡ true → p.open_arm ≡ outside
      → Next p.line bs l hash cs
      → Stand l cs (name (codes "include") ∷ []) m ds → Gap m ds n es → after headers es ≡ Some fs → Next n fs o t gs
      → is_over t ≡ false → Offence p bs (wrong kinds.include l o t)

-- The first offence from this position on: everything before it cuts.
pub data Offends : Position → List ℕ → Refusal → Type 0 where
  now : {p : Position} {bs : List ℕ} {r : Refusal} → Offence p bs r → Offends p bs r
  later : {p q : Position} {bs rest : List ℕ} {ts : List Tok} {r : Refusal} → Piece p bs ts q rest → Offends q rest r
      → Offends p bs r

-- The whole source cuts into the tokens.
abbrev pub Spells : List ℕ → List Tok → Type 0
Spells bs ts = Cuts start bs ts
