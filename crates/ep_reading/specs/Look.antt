-- What a look at the first tokens answers.
use Rattle.std.specs.Prelude.{◌≡◌, ℕ, ◌<◌, Bool, true, false, List, ◌∷◌, map, length, Option, Some, None}
use Rattle.std.specs.Borrow.{Bor}
use Rattle.ep_ast.specs.declared.orders.NamedOrder.{NamedOrder}
use Rattle.ep_ast.specs.Cut.{order_token}
use Rattle.ep_ast.specs.Mark.{mark_number, word_number}
use Rattle.ep_ast.specs.Token.{Tok, word, name, number, mark, if_little, if_big, other, end_if}
use Rattle.ep_lexer.specs.declared.tokens.Token.{Token}
use Rattle.ep_lexer.specs.Tokens.{view}
use Rattle.ep_reading.specs.declared.look.Head.{Head}
use Rattle.ep_reading.specs.declared.look.Head.TheVariants as heads

-- ---- a line, perhaps with a text or a byte order, and the tokens behind: without where they lie in memory

abbrev pub seen : ℕ × Bor (List Token) → ℕ × List Tok
seen r = (r.0, map view r.1.now)

abbrev pub seen_text : ℕ × Bor (List ℕ) × Bor (List Token) → ℕ × List ℕ × List Tok
seen_text r = (r.0, r.1.now, map view r.2.now)

abbrev pub seen_order : ℕ × NamedOrder × Bor (List Token) → ℕ × NamedOrder × List Tok
seen_order r = (r.0, r.1, map view r.2.now)

-- fewer tokens than so many stand behind

abbrev pub IsShorter : ℕ → ℕ × Bor (List Token) → Type 0
IsShorter n r = length r.1.now < n

abbrev pub IsShorterText : ℕ → ℕ × Bor (List ℕ) × Bor (List Token) → Type 0
IsShorterText n r = length r.2.now < n

abbrev pub IsShorterOrder : ℕ → ℕ × NamedOrder × Bor (List Token) → Type 0
IsShorterOrder n r = length r.2.now < n

-- ---- any token

-- a directive, or no token
abbrev pub NoToken : List Tok → Type 0
NoToken (word l c ∷ ts) = ⊥
NoToken (name l text ∷ ts) = ⊥
NoToken (number l n ∷ ts) = ⊥
NoToken (mark l c ∷ ts) = ⊥
NoToken _ = Unit {0}

abbrev pub IsHead : Head → List Tok → Type 0
IsHead (heads.Word l w r) ts = ts ≡ word l (word_number w) ∷ map view r.now
IsHead (heads.Name l text r) ts = ts ≡ name l text.now ∷ map view r.now
IsHead (heads.Number l n r) ts = ts ≡ number l n ∷ map view r.now
IsHead (heads.Mark l m r) ts = ts ≡ mark l (mark_number m) ∷ map view r.now
IsHead heads.Other ts = NoToken ts

-- the number of a mark
abbrev pub code_at : Tok → Option ℕ
code_at (mark l c) = Some c
code_at _ = None

-- ---- the directives on byte order

-- no `#if` begins here
abbrev pub LacksIf : List Tok → Type 0
LacksIf (if_little l ∷ ts) = ⊥
LacksIf (if_big l ∷ ts) = ⊥
LacksIf _ = Unit {0}

-- the line and order of an `#if`, and what comes after it
abbrev pub AtIf : List Tok → Option (ℕ × NamedOrder × List Tok) → Type 0
AtIf ts (Some r) = ts ≡ order_token r.1 r.0 ∷ r.2
AtIf ts None = LacksIf ts

-- an `#else` or `#endif` ends an arm here
abbrev pub ends_arm : List Tok → Bool
ends_arm (other l ∷ ts) = true
ends_arm (end_if l ∷ ts) = true
ends_arm _ = false

-- what comes after an `#else`, and after an `#endif`
abbrev pub LacksElse : List Tok → Type 0
LacksElse (other l ∷ ts) = ⊥
LacksElse _ = Unit {0}

abbrev pub AtElse : List Tok → Option (ℕ × List Tok) → Type 0
AtElse ts (Some r) = ts ≡ other r.0 ∷ r.1
AtElse ts None = LacksElse ts

abbrev pub LacksEndIf : List Tok → Type 0
LacksEndIf (end_if l ∷ ts) = ⊥
LacksEndIf _ = Unit {0}

abbrev pub AtEndIf : List Tok → Option (ℕ × List Tok) → Type 0
AtEndIf ts (Some r) = ts ≡ end_if r.0 ∷ r.1
AtEndIf ts None = LacksEndIf ts
