-- Answers with a kind, or with a refusal: the first one stands.
use Rattle.std.specs.Prelude.{ℕ, ◌==◌, if◌then◌else◌, List, ◌∷◌, min, Option, Some, None, Result, Ok, Err}
use Rattle.ep_ast.specs.Kind as kinds
use Rattle.ep_ast.specs.declared.refusals.Refusal.{Refusal}

infixl 10 ◌>>=◌
abbrev pub ◌>>=◌ : {A B E : Type 0} → Result A E → (A → Result B E) → Result B E
(Ok x) >>= f = f x
(Err e) >>= f = Err e

-- what a node comes to, or its lowest kind on its line
abbrev pub at : {A : Type 0} → ℕ → Result A ℕ → Result A Refusal
at l (Ok x) = Ok x
at l (Err k) = Err (record { kind = k; line = l; word = 0 })

-- A bit-field in a place where none may stand is named on the line of the statement, or of the declared name (this
-- project's rule).
abbrev pub at_statement : (line : ℕ) → Refusal → Refusal
at_statement l r = if r.kind == kinds.bit_field_place then record r { line = l } else r

abbrev pub on_statement : {A : Type 0} → (line : ℕ) → Result A Refusal → Result A Refusal
on_statement l (Ok x) = Ok x
on_statement l (Err r) = Err (at_statement l r)

-- one more of those that stand at one node, where the lowest kind of all stands
abbrev pub lowest : {A : Type 0} → Result A ℕ → Result (List A) ℕ → Result (List A) ℕ
lowest (Ok x) (Ok xs) = Ok (x ∷ xs)
lowest (Ok x) (Err k) = Err k
lowest (Err j) (Ok xs) = Err j
lowest (Err j) (Err k) = Err (min j k)

-- what is there, or this kind
abbrev pub needed : {A : Type 0} → (kind : ℕ) → Option A → Result A ℕ
needed k (Some x) = Ok x
needed k None = Err k
