-- Reading a source from left to right.
use Rattle.std.specs.Prelude.{◌≡◌, ℕ, ◌+◌, Bool, true, false, ◌&&◌, ◌||◌, ◌==◌, if◌then◌else◌, List, [], ◌∷◌, ◌++◌}
use Rattle.std.specs.Prelude.{drop, slice_index, Option, Some, None, is_none, map, codes, Result, Ok, Err}
use denote.Ref.{Bor}
use Rattle.ep_ast.specs.Kind as kinds
use Rattle.ep_ast.specs.declared.expressions.Literal.{Literal}
use Rattle.ep_ast.specs.declared.refusals.Refusal.{Refusal}
use Rattle.ep_ast.specs.Lexeme.{is_blank, is_letter, is_digit, opens_comment, opens_remark, line_after, to_line_end}
use Rattle.ep_ast.specs.Lexeme.{word_text, after_word, number_text, after_number, literal, character, of_character}
use Rattle.ep_ast.specs.Lexeme.{mark_at, mark_len, Thing, over, hash, quote, name, number, mark}
use Rattle.ep_ast.specs.declared.orders.NamedOrder.{NamedOrder}
use Rattle.ep_ast.specs.declared.orders.NamedOrder.TheVariants.{Little, Big}
use Rattle.std.specs.Str.{bytes_eq}
use Rattle.ep_ast.specs.Cut.{Constants, constant, value, may_define, wrong, at_line, after, headers, order_name, equals}
use Rattle.ep_ast.specs.Cut.{Open, outside, first_arm, second_arm, opened_at, Position, behind, order_token, Sense}
use Rattle.ep_ast.specs.Cut.{is_accepted, is_reserved, is_constant, is_own, sense}
use Rattle.ep_ast.specs.Mark.{mark_number}
use Rattle.ep_ast.specs.Token as token
use Rattle.ep_ast.specs.Token.{Tok}
use Rattle.ep_ast.specs.declared.refusals.Halt.{Halt}
use Rattle.ep_ast.specs.declared.refusals.Halt.TheVariants as halts
use Rattle.ep_lexer.specs.Tokens.{view}
use Rattle.ep_lexer.specs.declared.lexer.Position as positions
use Rattle.ep_lexer.specs.declared.lexer.Step as steps
use Rattle.ep_lexer.specs.declared.tokens.Token.{Token}
use Rattle.ep_lexer.specs.declared.definitions.Definitions as tables
use Rattle.ep_lexer.specs.declared.directives.Open as opens
use Rattle.ep_lexer.specs.declared.directives.Open.TheVariants as arms
use Rattle.ep_lexer.specs.declared.directives.Effect as effects
use Rattle.ep_lexer.specs.declared.directives.Effect.TheVariants as does
use Rattle.ep_lexer.specs.declared.directives.Directive as directives
use Rattle.ep_lexer.specs.declared.things.Thing as declared
use Rattle.ep_lexer.specs.declared.things.Thing.TheVariants as things
use Rattle.ep_lexer.specs.declared.things.Next as nexts

-- ---- blanks and comments

-- where the reading stands: outside, behind the `/` of a comment, inside one, or at the `/` that closes one
pub data Mode : Type 0 where
  plain : Mode
  opening : (from : ℕ) → Mode
  inside : (from : ℕ) → Mode
  closing : Mode

pub data Skipped : Type 0 where
  stopped : (line : ℕ) (rest : List ℕ) → Skipped
  unclosed : (from : ℕ) → Skipped

unfoldable pub skip : Mode → ℕ → List ℕ → Skipped
skip plain l [] = stopped l []
skip plain l (b ∷ bs) =
    if is_blank b then skip plain l bs
    else if opens_remark (b ∷ bs) then stopped l (to_line_end bs)
    else if opens_comment (b ∷ bs) then skip (opening l) l bs
    else stopped l (b ∷ bs)
skip (opening from) l [] = unclosed from
skip (opening from) l (b ∷ bs) = skip (inside from) l bs
skip (inside from) l [] = unclosed from
skip (inside from) l (b ∷ bs) = if b == 42 && slice_index bs 0 == 47 then skip closing l bs else skip (inside from)
    (line_after l b) bs
skip closing l [] = stopped l []
skip closing l (b ∷ bs) = skip plain l bs

abbrev pub skipped : Result (ℕ × Bor (List ℕ)) ℕ → Skipped
skipped (Ok p) = stopped p.0 p.1.now
skipped (Err from) = unclosed from

-- ---- the next thing on a line: its line, itself and what comes after it

abbrev pub Found : Type 0
Found = ℕ × Thing × List ℕ

abbrev pub thing_view : declared.Thing → Thing
thing_view things.Over = over
thing_view things.Hash = hash
thing_view things.Quote = quote
thing_view (things.Name text) = name text.now
thing_view (things.Number n) = number n
thing_view (things.Mark n) = mark (mark_number n)

abbrev pub next_view : nexts.Next → Found
next_view n = (n.line, thing_view n.thing, n.rest.now)

-- with what it shows of an `Ok`
abbrev pub shown : {A B : Type 0} → (A → B) → Result A Refusal → Result B Refusal
shown f (Ok x) = Ok (f x)
shown f (Err r) = Err r

-- how much a thing takes of the text at least
abbrev pub weight : declared.Thing → ℕ
weight things.Over = 0
weight things.Hash = 1
weight things.Quote = 1
weight (things.Name text) = 1
weight (things.Number n) = 1
weight (things.Mark n) = 1

abbrev pub number_found : ℕ → Option Literal → List ℕ → Result Found Refusal
number_found l None rest = Err (at_line kinds.number l)
number_found l (Some n) rest = Ok (l, number n, rest)

abbrev pub character_found : ℕ → Option (ℕ × ℕ) → List ℕ → Result Found Refusal
character_found l None bs = Err (at_line kinds.number l)
character_found l (Some p) bs = Ok (l, number (of_character p.0), drop p.1 bs)

abbrev pub mark_found : ℕ → Option ℕ → List ℕ → Result Found Refusal
mark_found l None bs = Err (at_line kinds.byte l)
mark_found l (Some n) bs = Ok (l, mark n, drop (mark_len n) bs)

unfoldable pub thing_at : ℕ → List ℕ → Result Found Refusal
thing_at l [] = Ok (l, over, [])
thing_at l (b ∷ bs) =
    if b == 10 then Ok (l, over, b ∷ bs)
    else if is_letter b then Ok (l, name (word_text (b ∷ bs)), after_word (b ∷ bs))
    else if is_digit b then number_found l (literal (number_text (b ∷ bs))) (after_number (b ∷ bs))
    else if b == 39 then character_found l (character bs) bs
    else if b == 35 then Ok (l, hash, bs)
    else if b == 34 then Ok (l, quote, bs)
    else mark_found l (mark_at (b ∷ bs)) (b ∷ bs)

abbrev pub next_from : Skipped → Result Found Refusal
next_from (unclosed from) = Err (at_line kinds.comment from)
next_from (stopped l bs) = thing_at l bs

unfoldable pub next : ℕ → List ℕ → Result Found Refusal
next l bs = next_from (skip plain l bs)

-- ---- directives, from the `#` on line h on

-- what a directive does: it has no effect, defines a constant, opens a conditional, turns to its other arm, or closes
-- it
pub data Effect : Type 0 where
  nothing : Effect
  defines : (text : List ℕ) (literal : Literal) → Effect
  conditions : (order : NamedOrder) → Effect
  turns : (from : ℕ) → Effect
  closes : Effect

abbrev pub Done : Type 0
Done = Effect × ℕ × List ℕ

abbrev pub chain : {A B : Type 0} → Result A Refusal → (A → Result B Refusal) → Result B Refusal
chain (Err r) f = Err r
chain (Ok x) f = f x

-- the end of the line is wanted
abbrev pub over_found : ℕ → ℕ → ℕ → Thing → List ℕ → Result (ℕ × List ℕ) Refusal
over_found k h m over rest = Ok (m, rest)
over_found k h m hash rest = Err (wrong k h m hash)
over_found k h m quote rest = Err (wrong k h m quote)
over_found k h m (name t) rest = Err (wrong k h m (name t))
over_found k h m (number n) rest = Err (wrong k h m (number n))
over_found k h m (mark n) rest = Err (wrong k h m (mark n))

abbrev pub over_at : ℕ → ℕ → ℕ → List ℕ → Result (ℕ × List ℕ) Refusal
over_at k h l bs = chain (next l bs) (λ n. over_found k h n.0 n.1 n.2)

-- a name is wanted
abbrev pub name_found : ℕ → ℕ → ℕ → Thing → List ℕ → Result (List ℕ × ℕ × List ℕ) Refusal
name_found k h m over rest = Err (wrong k h m over)
name_found k h m hash rest = Err (wrong k h m hash)
name_found k h m quote rest = Err (wrong k h m quote)
name_found k h m (name t) rest = Ok (t, m, rest)
name_found k h m (number n) rest = Err (wrong k h m (number n))
name_found k h m (mark n) rest = Err (wrong k h m (mark n))

abbrev pub name_at : ℕ → ℕ → ℕ → List ℕ → Result (List ℕ × ℕ × List ℕ) Refusal
name_at k h l bs = chain (next l bs) (λ n. name_found k h n.0 n.1 n.2)

-- a constant is wanted
abbrev pub constant_found : ℕ → ℕ → Thing → List ℕ → Option Literal → Result (Literal × ℕ × List ℕ) Refusal
constant_found h m t rest None = Err (wrong kinds.directive h m t)
constant_found h m t rest (Some c) = Ok (c, m, rest)

abbrev pub constant_at : Constants → ℕ → ℕ → List ℕ → Result (Literal × ℕ × List ℕ) Refusal
constant_at cs h l bs = chain (next l bs) (λ n. constant_found h n.0 n.1 n.2 (value cs n.1))

unfoldable pub define_at : Constants → ℕ → ℕ → List ℕ → Result Done Refusal
define_at cs h l bs =
    chain (name_at kinds.directive h l bs)
    (λ p. if may_define cs p.0 then chain (constant_at cs h p.1 p.2)
    (λ q. chain (over_at kinds.directive h q.1 q.2) (λ r. Ok (defines p.0 q.0, r.0, r.1)))
    else Err (at_line kinds.directive h))

-- the mark `==` is wanted
abbrev pub equals_found : ℕ → ℕ → Thing → List ℕ → Result (ℕ × List ℕ) Refusal
equals_found h m over rest = Err (wrong kinds.conditional h m over)
equals_found h m hash rest = Err (wrong kinds.conditional h m hash)
equals_found h m quote rest = Err (wrong kinds.conditional h m quote)
equals_found h m (name t) rest = Err (wrong kinds.conditional h m (name t))
equals_found h m (number n) rest = Err (wrong kinds.conditional h m (number n))
equals_found h m (mark n) rest = if n == equals then Ok (m, rest) else Err (wrong kinds.conditional h m (mark n))

abbrev pub equals_at : ℕ → ℕ → List ℕ → Result (ℕ × List ℕ) Refusal
equals_at h l bs = chain (next l bs) (λ n. equals_found h n.0 n.1 n.2)

-- whether a name stands for itself and is this one
abbrev pub is_plain : Constants → List ℕ → List ℕ → Bool
is_plain cs w t = bytes_eq t w && is_none (constant cs t)

-- the name of a byte order is wanted
abbrev pub order_of : Constants → List ℕ → Option NamedOrder
order_of cs t = if is_plain cs (order_name Little) t then Some Little else if is_plain cs (order_name Big) t then Some
    Big else None

abbrev pub conditional : ℕ → Option NamedOrder → Result (ℕ × List ℕ) Refusal → Result Done Refusal
conditional h None r = Err (at_line kinds.conditional h)
conditional h (Some o) (Err r) = Err r
conditional h (Some o) (Ok r) = Ok (conditions o, r.0, r.1)

unfoldable pub condition_at : Constants → ℕ → ℕ → List ℕ → Result Done Refusal
condition_at cs h l bs =
    chain (name_at kinds.conditional h l bs)
    (λ p. if is_plain cs (codes "__BYTE_ORDER__") p.0 then chain (equals_at h p.1 p.2)
    (λ q. chain (name_at kinds.conditional h q.0 q.1)
    (λ r. conditional h (order_of cs r.0) (over_at kinds.conditional h r.1 r.2)))
    else Err (at_line kinds.conditional h))

-- a header name is wanted
abbrev pub header_found : ℕ → ℕ → List ℕ → Option (List ℕ) → Result Done Refusal
header_found h m bs None = chain (thing_at m bs) (λ n. Err (wrong kinds.include h n.0 n.1))
header_found h m bs (Some rest) = chain (over_at kinds.include h m rest) (λ r. Ok (nothing, r.0, r.1))

abbrev pub header_at : ℕ → Skipped → Result Done Refusal
header_at h (unclosed from) = Err (at_line kinds.comment from)
header_at h (stopped m bs) = header_found h m bs (after headers bs)

unfoldable pub include_at : ℕ → ℕ → List ℕ → Result Done Refusal
include_at h l bs = header_at h (skip plain l bs)

-- a line that ends here, and what it does
abbrev pub ending_at : Effect → ℕ → ℕ → ℕ → List ℕ → Result Done Refusal
ending_at e k h l bs = chain (over_at k h l bs) (λ r. Ok (e, r.0, r.1))

-- the kind of a wrong directive that begins with this word
abbrev pub word_kind : List ℕ → ℕ
word_kind w =
    if bytes_eq w (codes "elif") || bytes_eq w (codes "else") || bytes_eq w (codes "endif") then kinds.conditional
    else kinds.directive

abbrev pub directive_outside : Constants → ℕ → List ℕ → ℕ → List ℕ → Result Done Refusal
directive_outside cs h w l bs =
    if bytes_eq w (codes "define") then define_at cs h l bs
    else if bytes_eq w (codes "include") then include_at h l bs
    else if bytes_eq w (codes "if") then condition_at cs h l bs
    else Err (at_line (word_kind w) h)

abbrev pub directive_in_first : ℕ → ℕ → List ℕ → ℕ → List ℕ → Result Done Refusal
directive_in_first from h w l bs =
    if bytes_eq w (codes "endif") then ending_at closes kinds.conditional h l bs
    else if bytes_eq w (codes "else") then ending_at (turns from) kinds.conditional h l bs
    else Err (at_line kinds.conditional h)

abbrev pub directive_in_second : ℕ → List ℕ → ℕ → List ℕ → Result Done Refusal
directive_in_second h w l bs =
    if bytes_eq w (codes "endif") then ending_at closes kinds.conditional h l bs
    else Err (at_line kinds.conditional h)

abbrev pub directive_word : Open → Constants → ℕ → List ℕ → ℕ → List ℕ → Result Done Refusal
directive_word outside cs h w l bs = directive_outside cs h w l bs
directive_word (first_arm from) cs h w l bs = directive_in_first from h w l bs
directive_word (second_arm from) cs h w l bs = directive_in_second h w l bs

abbrev pub first_kind : Open → ℕ
first_kind outside = kinds.directive
first_kind (first_arm from) = kinds.conditional
first_kind (second_arm from) = kinds.conditional

unfoldable pub directive_at : Open → Constants → ℕ → List ℕ → Result Done Refusal
directive_at o cs h bs = chain (name_at (first_kind o) h h bs) (λ p. directive_word o cs h p.0 p.1 p.2)

-- ---- what the code keeps of these

abbrev pub constants : tables.Definitions → Constants
constants d = map (λ e. (e.0.items, e.1)) d.table.entries

abbrev pub open_view : opens.Open → Open
open_view arms.Outside = outside
open_view (arms.FirstArm l) = first_arm l
open_view (arms.SecondArm l) = second_arm l

abbrev pub effect_view : effects.Effect → Effect
effect_view does.Nothing = nothing
effect_view (does.Defines t c) = defines t.now c
effect_view (does.Opens o) = conditions o
effect_view (does.Turns from) = turns from
effect_view does.Closes = closes

abbrev pub done_view : directives.Directive → Done
done_view d = (effect_view d.effect, d.line, d.rest.now)

-- whether the constant that a directive defines is a new one
abbrev pub IsNew : Constants → Effect → Type 0
IsNew cs nothing = Unit {0}
IsNew cs (defines t c) = constant cs t ≡ None
IsNew cs (conditions o) = Unit {0}
IsNew cs (turns from) = Unit {0}
IsNew cs closes = Unit {0}

-- ---- the pieces of a source

-- the tokens of a piece, the position behind it and what comes after it
abbrev pub Went : Type 0
Went = List Tok × Position × List ℕ

-- what a directive that ends on line m and whose `#` stands on line h leaves
abbrev pub applied : Position → ℕ → Effect → ℕ → List Tok × Position
applied p h nothing m = ([], behind p m)
applied p h (defines t c) m = ([], record p { line = m; fresh = false; constants = p.constants ++ (t, c) ∷ [] })
applied p h (conditions o) m = (order_token o h ∷ [], record p { line = m; fresh = false; open_arm = first_arm h })
applied p h (turns from) m = (token.other h ∷ [], record p { line = m; fresh = false; open_arm = second_arm from })
applied p h closes m = (token.end_if h ∷ [], record p { line = m; fresh = false; open_arm = outside })

abbrev pub went : List Tok × Position → List ℕ → Result (Option Went) Refusal
went t rest = Ok (Some (t.0, t.1, rest))

abbrev pub ended : Option ℕ → Result (Option Went) Refusal
ended None = Ok None
ended (Some from) = Err (at_line kinds.conditional from)

abbrev pub line_ended : Position → ℕ → List ℕ → Result (Option Went) Refusal
line_ended p m [] = ended (opened_at p.open_arm)
line_ended p m (b ∷ rest) = went ([], record p { line = m + 1; fresh = true }) rest

abbrev pub token_of : ℕ → List ℕ → Sense → Result Tok Refusal
token_of m t (is_accepted n) = Ok (token.word m n)
token_of m t (is_reserved n) = Err (record { kind = kinds.reserved_word; line = m; word = n })
token_of m t (is_constant c) = Ok (token.number m c)
token_of m t is_own = Ok (token.name m t)

abbrev pub hash_on : Position → ℕ → List ℕ → Result (Option Went) Refusal
hash_on p m rest = if p.fresh then chain (directive_at p.open_arm p.constants m rest)
    (λ d. went (applied p m d.0 d.1) d.2) else Err (at_line kinds.byte m)

abbrev pub step_on : Position → ℕ → Thing → List ℕ → Result (Option Went) Refusal
step_on p m over rest = line_ended p m rest
step_on p m hash rest = hash_on p m rest
step_on p m quote rest = Err (at_line kinds.string_literal m)
step_on p m (name t) rest = chain (token_of m t (sense p.constants t)) (λ k. went (k ∷ [], behind p m) rest)
step_on p m (number c) rest = went (token.number m c ∷ [], behind p m) rest
step_on p m (mark n) rest = went (token.mark m n ∷ [], behind p m) rest

-- None where the source ends
unfoldable pub step : Position → List ℕ → Result (Option Went) Refusal
step p bs = chain (next p.line bs) (λ n. step_on p n.0 n.1 n.2)

-- what a function returned is this, unless memory ran out
abbrev pub Fails : {B : Type 0} → Halt → Result B Refusal → Type 0
Fails halts.Memory read = Unit {0}
Fails (halts.Refused r) read = read ≡ Err r

abbrev pub Refines : {A B : Type 0} → (A → B) → Result A Halt → Result B Refusal → Type 0
Refines f (Ok x) read = read ≡ Ok (f x)
Refines f (Err e) read = Fails e read

abbrev pub position_view : positions.Position → Constants → Position
position_view p cs = record { line = p.line; fresh = p.fresh; constants = cs; open_arm = open_view p.arm }

abbrev pub token_view : Option Token → List Tok
token_view None = []
token_view (Some t) = view t ∷ []

abbrev pub step_view : Constants → Option steps.Step → Option Went
step_view cs None = None
step_view cs (Some s) = Some (token_view s.token, position_view s.position cs, s.rest.now)
