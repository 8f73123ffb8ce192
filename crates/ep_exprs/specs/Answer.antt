-- What `expression` answers at a place of the tokens.
use Rattle.std.specs.Prelude.{◌≡◌, ℕ, ◌-◌, ◌<◌, ◌≤◌, Bool, true, List, length, take, drop, Some, None, Result, Ok, Err}
use Rattle.ep_ast.specs.Kind as kinds
use Rattle.ep_ast.specs.declared.expressions.ExprTree.{ExprTree}
use Rattle.ep_ast.specs.declared.refusals.Refusal.{Refusal}
use Rattle.ep_ast.specs.Token.{Tok}
use Rattle.ep_ast.specs.Expression.{Expr, expr, line_of}
use Rattle.ep_ast.specs.Grammar.{IsFront}
use Rattle.ep_ast.specs.Nesting.{depth, is_too_deep, opens_past}

-- the tokens of a place up to another are this tree, and something that may follow an expression comes after it
pub record IsFound (is_type : List ℕ → Bool) (ts : List Tok) (from next : ℕ) (t : Expr) : Type 0 where
  pub goes_on : from < next
  pub within : next ≤ length ts
  pub front : IsFront is_type (drop from ts) (take (next - from) (drop from ts)) (drop next ts) t

-- why the tokens are refused
pub data IsRefused (is_type : List ℕ → Bool) (ts : List Tok) (r : Refusal) : Type 0 where
  -- too many brackets are open
  brackets : r.kind ≡ kinds.nesting → r.word ≡ 0 → opens_past 0 ts ≡ Some r.line → IsRefused is_type ts r
  -- a front is the tree of an expression, and of this one alone, and it is too deep
  operators : {front rest : List Tok} {t : Expr} → r.kind ≡ kinds.nesting → r.word ≡ 0 → opens_past 0 ts ≡ None
      → IsFront is_type ts front rest t → is_too_deep t ≡ true → r.line ≡ line_of t
      → ((other more : List Tok) (u : Expr) → IsFront is_type ts other more u → u ≡ t) → IsRefused is_type ts r
  -- no front is one
  syntax : r.kind ≡ kinds.syntax → r.word ≡ 0 → opens_past 0 ts ≡ None
      → ((front rest : List Tok) (t : Expr) → IsFront is_type ts front rest t → ⊥) → IsRefused is_type ts r

-- the tree, or a refusal where it is too deep
abbrev pub Wholly : Result ExprTree Refusal → Expr → Type 0
Wholly (Ok e) t = (expr e ≡ t) × (depth t ≤ 64)
Wholly (Err r) t = (64 < depth t) × (r.kind ≡ kinds.nesting) × (r.word ≡ 0) × (r.line ≡ line_of t)
