-- What it means to read a front of the tokens: its tree, and that no other tree or end is possible.
use Rattle.std.specs.Prelude.{◌≡◌, ℕ, ◌==◌, nat_le, Bool, false, ◌&&◌, ◌||◌, Option, Some, None, List, ◌∷◌}
use Rattle.ep_ast.specs.Kind as kinds
use Rattle.ep_ast.specs.declared.refusals.Refusal.{Refusal}
use Rattle.ep_ast.specs.declared.refusals.Halt.{Halt}
use Rattle.ep_ast.specs.declared.refusals.Halt.TheVariants as halts
use Rattle.ep_ast.specs.Token.{Tok, word, name, mark}
use Rattle.ep_ast.specs.Expression.{Expr}
use Rattle.ep_ast.specs.Mark.{arrow, plus_plus, minus_minus, left_paren, left_bracket, dot, question}
use Rattle.ep_ast.specs.Grammar.{level, is_assignment, Rule, expr, cond, bin, cast, unary, postfix, primary, Derives}

-- ---- by a rule of expressions

-- a mark that stands behind an operand
abbrev pub is_suffix : ℕ → Bool
is_suffix c = c == left_bracket || c == left_paren || c == dot || c == arrow || c == plus_plus || c == minus_minus

-- a mark that can go on with what this rule has read
abbrev pub goes_on : Rule → ℕ → Bool
goes_on primary c = false
goes_on postfix c = is_suffix c
goes_on unary c = is_suffix c
goes_on cast c = is_suffix c
goes_on (bin k) c = is_suffix c || (nat_le 1 (level c) && nat_le k (level c))
goes_on cond c = is_suffix c || nat_le 1 (level c) || c == question
goes_on expr c = is_suffix c || nat_le 1 (level c) || c == question || is_assignment c

-- nothing stands here that the rule could go on with
abbrev pub Ends : Rule → List Tok → Type 0
Ends r (mark l c ∷ ts) = goes_on r c ≡ false
Ends r _ = Unit {0}

-- The tokens up to ys are this tree by this rule, and no other tree or end fits where the rule can't go on.
pub record Reads (is_type : List ℕ → Bool) (r : Rule) (xs : List Tok) (t : Expr) (ys : List Tok) : Type 0 where
  pub derives : Derives is_type r xs ys t
  pub only : (u : Expr) (zs : List Tok) → Derives is_type r xs zs u → Ends r zs → (u ≡ t) × (zs ≡ ys)

-- nothing is to be read
pub record Refuses (is_type : List ℕ → Bool) (r : Rule) (xs : List Tok) : Type 0 where
  pub never : (u : Expr) (zs : List Tok) → Derives is_type r xs zs u → Ends r zs → ⊥

-- a refusal for syntax
abbrev pub IsSyntax : Refusal → Type 0
IsSyntax f = (f.kind ≡ kinds.syntax) × (f.word ≡ 0)

abbrev pub Halts : (List ℕ → Bool) → Rule → List Tok → Halt → Type 0
Halts is_type r xs (halts.Refused f) = Refuses is_type r xs × IsSyntax f
Halts is_type r xs halts.Memory = Unit {0}

-- ---- by a relation that says where it ends itself

-- the relation holds of the tokens up to ys, and of no other front and value
pub record Takes {T : Type 0} (P : List Tok → List Tok → T → Type 0) (xs : List Tok) (t : T) (ys : List Tok) : Type
    0 where
  pub holds : P xs ys t
  pub only : (u : T) (zs : List Tok) → P xs zs u → (u ≡ t) × (zs ≡ ys)

pub record TakesNone {T : Type 0} (P : List Tok → List Tok → T → Type 0) (xs : List Tok) : Type 0 where
  pub never : (u : T) (zs : List Tok) → P xs zs u → ⊥

abbrev pub Stops : {T : Type 0} → (List Tok → List Tok → T → Type 0) → List Tok → Halt → Type 0
Stops P xs (halts.Refused f) = TakesNone P xs × IsSyntax f
Stops P xs halts.Memory = Unit {0}

-- ---- a look at the first token

-- it isn't this mark
abbrev pub Lacks : ℕ → List Tok → Type 0
Lacks d (mark l c ∷ ts) = c ≡ d → ⊥
Lacks d _ = Unit {0}

-- the line of this mark, and what comes after it
abbrev pub AtMark : ℕ → List Tok → Option (ℕ × List Tok) → Type 0
AtMark d ts (Some r) = (c : ℕ) × (c ≡ d) × (ts ≡ mark r.0 c ∷ r.1)
AtMark d ts None = Lacks d ts

-- the same of a word
abbrev pub LacksWord : ℕ → List Tok → Type 0
LacksWord d (word l c ∷ ts) = c ≡ d → ⊥
LacksWord d _ = Unit {0}

abbrev pub AtWord : ℕ → List Tok → Option (ℕ × List Tok) → Type 0
AtWord d ts (Some r) = (c : ℕ) × (c ≡ d) × (ts ≡ word r.0 c ∷ r.1)
AtWord d ts None = LacksWord d ts

-- the same of a name
abbrev pub LacksName : List Tok → Type 0
LacksName (name l text ∷ ts) = ⊥
LacksName _ = Unit {0}

abbrev pub AtName : List Tok → Option (ℕ × List ℕ × List Tok) → Type 0
AtName ts (Some r) = ts ≡ name r.0 r.1 ∷ r.2
AtName ts None = LacksName ts
