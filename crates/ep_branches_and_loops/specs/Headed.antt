-- Parts of `if` statements and loops of this line, in which so many statements stand inside one another.
use Rattle.std.specs.Prelude.{ℕ, nat_lt, ◌||◌, Option}
use Rattle.ep_ast.specs.declared.expressions.ExprTree.{ExprTree}
use Rattle.ep_ast.specs.declared.statements.StmtTree.{StmtTree}
use Rattle.ep_ast.specs.declared.statements.HeadingTree.{HeadingTree}
use Rattle.ep_ast.specs.Expression.{Expr, expr}
use Rattle.ep_ast.specs.Statement.{First, Stmt, stmt_of}
use Rattle.ep_ast.specs.Nesting.{is_too_deep}
use Rattle.ep_ast.specs.Depth.{is_deep_if, in_first, in_stmt, or_else, line_if}
use Rattle.ep_reading.specs.declared.measured.Measured.{Measured}
use Rattle.ep_reading.specs.Measured.{Shows}
use Rattle.ep_statement_parts.specs.View.{heading_of}

abbrev pub tested_of : ExprTree × StmtTree → Expr × Stmt
tested_of t = (expr t.0, stmt_of t.1)

abbrev pub in_tested : (n line : ℕ) → Expr × Stmt → Option ℕ
in_tested n l p = or_else (line_if (nat_lt 64 n || is_too_deep p.0) l) (in_stmt p.1)

abbrev pub ShowsTested : (n line : ℕ) → Measured (ExprTree × StmtTree) → Expr × Stmt → Type 0
ShowsTested n l k p = Shows tested_of (in_tested n l) k p

-- with an `else`
abbrev pub both_of : (ExprTree × StmtTree) × StmtTree → (Expr × Stmt) × Stmt
both_of t = (tested_of t.0, stmt_of t.1)

abbrev pub in_both : (n line : ℕ) → (Expr × Stmt) × Stmt → Option ℕ
in_both n l p = or_else (line_if (nat_lt 64 n || is_too_deep p.0.0) l) (or_else (in_stmt p.0.1) (in_stmt p.1))

abbrev pub ShowsBoth : (n line : ℕ) → Measured ((ExprTree × StmtTree) × StmtTree) → (Expr × Stmt) × Stmt → Type 0
ShowsBoth n l k p = Shows both_of (in_both n l) k p

-- of a `for`
abbrev pub headed_of : HeadingTree × StmtTree → (First × Option Expr × Option Expr) × Stmt
headed_of t = (heading_of t.0, stmt_of t.1)

abbrev pub in_headed : (n line : ℕ) → (First × Option Expr × Option Expr) × Stmt → Option ℕ
in_headed n l p =
    or_else (line_if (nat_lt 64 n || is_deep_if p.0.1 || is_deep_if p.0.2) l) (or_else (in_first p.0.0 l) (in_stmt p.1))

abbrev pub ShowsHeaded : (n line : ℕ) → Measured (HeadingTree × StmtTree) → (First × Option Expr × Option Expr) × Stmt
    → Type 0
ShowsHeaded n l k p = Shows headed_of (in_headed n l) k p
