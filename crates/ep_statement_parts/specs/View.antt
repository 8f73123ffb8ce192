-- What is kept of statements and of parts of blocks.
use Rattle.std.specs.Prelude.{◌≡◌, ℕ, ◌≤◌, max, ◌||◌, Option, Some, None, List, []}
use Rattle.std.specs.Global.{Vec}
use Rattle.std.specs.Option.{option_map}
use Rattle.ep_ast.specs.declared.expressions.ExprTree.{ExprTree}
use Rattle.ep_ast.specs.declared.statements.StmtTree.{StmtTree}
use Rattle.ep_ast.specs.declared.statements.BlockItemTree.{BlockItemTree}
use Rattle.ep_ast.specs.declared.statements.ForInitTree.{ForInitTree}
use Rattle.ep_ast.specs.declared.statements.HeadingTree.{HeadingTree}
use Rattle.ep_ast.specs.Expression.{Expr, expr}
use Rattle.ep_ast.specs.Statement.{First, first_of, Stmt, Stmts, Block, stmt_of, Part, part_of, to_stmts, to_parts}
use Rattle.ep_ast.specs.Nesting.{is_too_deep}
use Rattle.ep_ast.specs.Depth.{is_deep_if, in_first, in_stmt, in_part, or_else, line_if, height, height_of_stmts}
use Rattle.ep_ast.specs.Depth.{height_of_part, height_of_parts}
use Rattle.ep_reading.specs.declared.measured.Measured.{Measured}
use Rattle.ep_reading.specs.declared.measured.Measured.TheVariants as measured
use Rattle.ep_reading.specs.Measured as measures
use Rattle.ep_reading.specs.Measured.{Shows, ShowsAll}
use Rattle.ep_statement_parts.specs.declared.kept.Counted.{Counted}

-- ---- lists

-- no elements
abbrev pub HasNone : {T : Type 0} → Measured (Vec T) → Type 0
HasNone (measured.Fits v) = v.items ≡ []
HasNone (measured.TooDeep l) = ⊥

abbrev pub IsEmpty : {T : Type 0} → Counted (Vec T) → Type 0
IsEmpty r = HasNone r.tree × (r.height ≡ 0)

-- with one more
abbrev pub IsLonger : {T : Type 0} → Counted (Vec T) → Counted T → Counted (Vec T) → Type 0
IsLonger all one r = measures.IsLonger all.tree one.tree r.tree × (r.height ≡ max all.height one.height)

-- ---- expressions in a statement of this line

abbrev pub in_test : (line : ℕ) → Expr → Option ℕ
in_test l e = line_if (is_too_deep e) l

abbrev pub ShowsTest : (line : ℕ) → Measured ExprTree → Expr → Type 0
ShowsTest l k e = Shows expr (in_test l) k e

-- one that may be missing
abbrev pub in_given : (line : ℕ) → Option Expr → Option ℕ
in_given l o = line_if (is_deep_if o) l

abbrev pub given : Option ExprTree → Option Expr
given o = option_map expr o

abbrev pub ShowsGiven : (line : ℕ) → Measured (Option ExprTree) → Option Expr → Type 0
ShowsGiven l k o = Shows given (in_given l) k o

-- ---- the parts of a `for` of this line in its parentheses

abbrev pub deep_first : (line : ℕ) → First → Option ℕ
deep_first l f = in_first f l

abbrev pub ShowsFirst : (line : ℕ) → Measured ForInitTree → First → Type 0
ShowsFirst l k f = Shows first_of (deep_first l) k f

abbrev pub heading_of : HeadingTree → First × Option Expr × Option Expr
heading_of h = (first_of h.first, given h.test, given h.next)

abbrev pub in_heading : (line : ℕ) → First × Option Expr × Option Expr → Option ℕ
in_heading l p = or_else (line_if (is_deep_if p.1 || is_deep_if p.2) l) (in_first p.0 l)

abbrev pub ShowsHeading : (line : ℕ) → Measured HeadingTree → First × Option Expr × Option Expr → Type 0
ShowsHeading l k p = Shows heading_of (in_heading l) k p

-- ---- statements

-- the number itself, up to 65
abbrev pub Counts : ℕ → ℕ → Type 0
Counts h n = (n ≤ 65 → h ≡ n) × (65 ≤ n → h ≡ 65)

abbrev pub ShowsStmt : Counted StmtTree → Stmt → Type 0
ShowsStmt k s = Shows stmt_of in_stmt k.tree s × Counts k.height (height s)

abbrev pub ShowsPart : Counted BlockItemTree → Part → Type 0
ShowsPart k p = Shows part_of in_part k.tree p × Counts k.height (height_of_part p)

abbrev pub ShowsStmts : Counted (Vec StmtTree) → List Stmt → Type 0
ShowsStmts k ss = ShowsAll stmt_of in_stmt k.tree ss × Counts k.height (height_of_stmts (to_stmts ss))

abbrev pub ShowsParts : Counted (Vec BlockItemTree) → List Part → Type 0
ShowsParts k ps = ShowsAll part_of in_part k.tree ps × Counts k.height (height_of_parts (to_parts ps))

-- the arm behind an `#else`, where there is one
abbrev pub ShowsOther : Option (Counted (Vec StmtTree)) → Option Stmts → Type 0
ShowsOther (Some k) o = (ss : List Stmt) × (o ≡ Some (to_stmts ss)) × ShowsStmts k ss
ShowsOther None o = o ≡ None

abbrev pub body : (line : ℕ) → List Part → Block
body l ps = record { line = l; parts = ps }
