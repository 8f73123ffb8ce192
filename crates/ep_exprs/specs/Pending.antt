-- What is pending while an expression is read: prefixes before an operand, and assignments and conditionals round it.
use Rattle.std.specs.Prelude.{◌≡◌, ℕ, Bool, true, false, ◌||◌, ◌==◌, List, [], ◌∷◌, Some, map, reverse, length, ◌<◌}
use Rattle.ep_ast.specs.Token.{Tok, word, mark}
use Rattle.ep_ast.specs.Expression.{Expr}
use Rattle.ep_ast.specs.declared.marks.Mark.{Mark}
use Rattle.ep_ast.specs.Mark.{mark_number, question, colon, sizeof_word}
use Rattle.ep_ast.specs.Grammar.{is_prefix, is_step, is_assignment, Rule, expr, cond, bin, cast, unary, Derives}
use Rattle.ep_ast.specs.Reading.{Reads, AtMark}
use Rattle.ep_lexer.specs.Tokens.{view}
use Rattle.ep_expression_trees.specs.declared.kept.BoundedTree.{BoundedTree}
use Rattle.ep_exprs.specs.declared.frames.Frame.{Frame}
use Rattle.ep_exprs.specs.declared.frames.Frame.TheVariants as frames
use Rattle.ep_exprs.specs.declared.frames.Combined.{Combined}
use Rattle.ep_exprs.specs.declared.frames.Combined.TheVariants as combines
use Rattle.ep_exprs.specs.declared.frames.Completed.{Completed}
use Rattle.ep_exprs.specs.declared.frames.Completed.TheVariants as completes
use Rattle.ep_exprs.specs.declared.frames.Before.{Before}
use Rattle.ep_exprs.specs.declared.frames.Before.TheVariants as befores
use Rattle.ep_exprs.specs.Look.{AtAssignment, AtCast, begins_cast}
use Rattle.ep_expression_trees.specs.BoundedTrees.{Shows}

-- ---- before an operand

-- a prefix operator, `++`, `--` or `sizeof` begins here
abbrev pub begins_unary : List Tok → Bool
begins_unary (mark l c ∷ ts) = is_prefix c || is_step c
begins_unary (word l c ∷ ts) = c == sizeof_word
begins_unary _ = false

abbrev pub IsBefore : (List ℕ → Bool) → Before → List Tok → Type 0
IsBefore is_type (befores.Operator l m r) ts = (is_prefix (mark_number m) ≡ true)
    × (ts ≡ mark l (mark_number m) ∷ map view r.now)
IsBefore is_type (befores.Step l m r) ts = (is_step (mark_number m) ≡ true)
    × (ts ≡ mark l (mark_number m) ∷ map view r.now)
IsBefore is_type (befores.Sizeof l r) ts = (w : ℕ) × (w ≡ sizeof_word) × (ts ≡ word l w ∷ map view r.now)
    × (begins_cast is_type (map view r.now) ≡ false)
IsBefore is_type (befores.SizeofType l r) ts = (w m : ℕ) × (us : List Tok) × (w ≡ sizeof_word) × (ts ≡ word l w ∷ us)
    × AtCast is_type us (Some (m, map view r.now))
IsBefore is_type (befores.Cast l r) ts = AtCast is_type ts (Some (l, map view r.now))
IsBefore is_type befores.Nothing ts = (begins_cast is_type ts ≡ false) × (begins_unary ts ≡ false)

abbrev pub IsShorter : Before → ℕ → Type 0
IsShorter (befores.Operator l c r) n = length r.now < n
IsShorter (befores.Step l c r) n = length r.now < n
IsShorter (befores.Sizeof l r) n = length r.now < n
IsShorter (befores.SizeofType l r) n = length r.now < n
IsShorter (befores.Cast l r) n = length r.now < n
IsShorter befores.Nothing n = Unit {0}

-- ---- round an operand, the innermost first

-- what is wanted: an expression, or in the third part of a conditional no assignment
abbrev pub wanted : List Frame → Rule
wanted (frames.Colon k j ∷ fs) = cond
wanted _ = expr

-- no unary stands before an assignment mark here
abbrev pub NoAssignment : (List ℕ → Bool) → List Tok → Type 0
NoAssignment is_type xs = (u : Expr) (l c : ℕ) (ws : List Tok) → Derives is_type unary xs (mark l c ∷ ws) u
    → is_assignment c ≡ true → ⊥

abbrev pub Plain : (List ℕ → Bool) → List Frame → List Tok → Type 0
Plain is_type fs xs = wanted fs ≡ expr → NoAssignment is_type xs

-- Behind these frames, which begin at xs, the wanted rule is to be read at the last list.
pub data Waits (is_type : List ℕ → Bool) (xs : List Tok) : List Frame → List Tok → Type 0 where
  begins : Waits is_type xs [] xs
  assigning : {fs : List Frame} {ys zs ws : List Tok} {k : BoundedTree} {a : Expr} {l : ℕ} {m : Mark} → wanted fs ≡ expr
      → Waits is_type xs fs ys → begins_cast is_type ys ≡ false
      → Shows k a → Reads is_type cast ys a zs → AtAssignment zs (Some (l, mark_number m, ws))
      → Waits is_type xs (frames.Assign k m ∷ fs) ws
  asking : {fs : List Frame} {ys zs ws : List Tok} {k : BoundedTree} {a : Expr} {l : ℕ} → Waits is_type xs fs ys
      → Plain is_type fs ys
      → Shows k a → Reads is_type (bin 1) ys a zs → AtMark question zs (Some (l, ws))
      → Waits is_type xs (frames.Question k ∷ fs) ws
  choosing : {fs : List Frame} {ys zs ws vs us : List Tok} {k j : BoundedTree} {a b : Expr} {l m : ℕ} →
      Waits is_type xs fs ys
      → Plain is_type fs ys
      → Shows k a → Reads is_type (bin 1) ys a zs → AtMark question zs (Some (l, ws)) → Shows j b
      → Reads is_type expr ws b vs → AtMark colon vs (Some (m, us))
      → Waits is_type xs (frames.Colon k j ∷ fs) us

-- a value is complete for what is pending
pub record Value (is_type : List ℕ → Bool) (xs : List Tok) (fs : List Frame) (k : BoundedTree)
    (zs : List Tok) : Type 0 where
  pub from : List Tok
  pub tree : Expr
  pub waits : Waits is_type xs fs from
  pub shows : Shows k tree
  pub reads : Reads is_type (wanted fs) from tree zs

-- a test and the part after its `?` are complete, so that `:` is to come
pub record Asked (is_type : List ℕ → Bool) (xs : List Tok) (fs : List Frame) (k j : BoundedTree)
    (zs : List Tok) : Type 0 where
  pub from : List Tok
  pub behind : List Tok
  pub inner : List Tok
  pub line : ℕ
  pub test : Expr
  pub yes : Expr
  pub waits : Waits is_type xs fs from
  pub plain : Plain is_type fs from
  pub shows_test : Shows k test
  pub reads_test : Reads is_type (bin 1) from test behind
  pub at_question : AtMark question behind (Some (line, inner))
  pub shows_yes : Shows j yes
  pub reads_yes : Reads is_type expr inner yes zs

abbrev pub Combines : (List ℕ → Bool) → List Tok → List Frame → List Tok → Combined → Type 0
Combines is_type xs fs zs (combines.More k) = Value is_type xs fs k zs
Combines is_type xs fs zs (combines.Asks k j) = Asked is_type xs fs k j zs

abbrev pub Completes : (List ℕ → Bool) → List Tok → List Tok → Completed → Type 0
Completes is_type xs zs (completes.Whole k) = Value is_type xs [] k zs
Completes is_type xs zs (completes.Asks v k j) = Asked is_type xs (reverse v.items) k j zs
