-- The line of the first part of an `if` statement or a loop that is too deep.
use Rattle.std.proofs.Common.{◌≡◌, ℕ, Bool, true, false, Option, refl, ◌∙◌}
use Rattle.std.specs.Prelude.{nat_lt, ◌||◌}
use Rattle.ep_ast.specs.declared.expressions.ExprTree.{ExprTree}
use Rattle.ep_ast.specs.declared.statements.StmtTree.{StmtTree}
use Rattle.ep_ast.specs.declared.statements.HeadingTree.{HeadingTree}
use Rattle.ep_ast.specs.Expression.{Expr, expr}
use Rattle.ep_ast.specs.Statement.{First, Stmt, stmt_of}
use Rattle.ep_ast.specs.Nesting.{is_too_deep}
use Rattle.ep_ast.specs.Depth.{or_else, line_if, is_deep_if, in_first, in_stmt}
use Rattle.ep_reading.specs.declared.measured.Measured.{Measured}
use Rattle.ep_reading.specs.declared.measured.Measured.TheVariants as measured
use Rattle.ep_reading.specs.Measured.{Shows, joined}
use Rattle.ep_reading.proofs.MeasuredLemmas.{or_else-assoc, joined_shows}
use Rattle.ep_statement_parts.specs.View.{in_test, heading_of, in_heading, ShowsTest, ShowsHeading}
use Rattle.ep_branches_and_loops.specs.Headed.{tested_of, in_tested, ShowsTested, both_of, in_both, ShowsBoth}
use Rattle.ep_branches_and_loops.specs.Headed.{headed_of, in_headed, ShowsHeaded}

-- the same where the first line is another's
deep_same : {T V : Type 0} (f : T → V) (d g : V → Option ℕ) (m : Measured T) (v : V) → g v ≡ d v → Shows f d m v
    → Shows f g m v
deep_same f d g (measured.Fits t) v e h = (h.0, e ∙ h.1)
deep_same f d g (measured.TooDeep l) v e h = e ∙ h

one_reason : (b d : Bool) (l : ℕ) (x : Option ℕ) → b ≡ false → or_else (line_if (b || d) l) x ≡ or_else (line_if d l) x
one_reason false d l x e = refl
one_reason true d l x e = absurd cc

no_reason : (b d k : Bool) (l : ℕ) (x : Option ℕ) → b ≡ false → or_else (line_if (b || d || k) l) x ≡ or_else
    (line_if (d || k) l) x
no_reason false d k l x e = refl
no_reason true d k l x e = absurd cc

pub tested_shows : (n l : ℕ) (test : Measured ExprTree) (inner : Measured StmtTree) (e : Expr) (s : Stmt)
    → nat_lt 64 n ≡ false
    → ShowsTest l test e → Shows stmt_of in_stmt inner s → ShowsTested n l (joined test inner) (e, s)
tested_shows n l test inner e s b h i =
    deep_same tested_of (λ (p : Expr × Stmt). or_else (in_test l p.0) (in_stmt p.1)) (in_tested n l)
    (joined test inner) (e, s)
    (one_reason (nat_lt 64 n) (is_too_deep e) l (in_stmt s) b)
    (joined_shows expr (in_test l) stmt_of in_stmt test inner e s h i)

pub both_shows : (n l : ℕ) (parts : Measured (ExprTree × StmtTree)) (otherwise : Measured StmtTree) (e : Expr)
    (s t : Stmt)
    → ShowsTested n l parts (e, s) → Shows stmt_of in_stmt otherwise t
    → ShowsBoth n l (joined parts otherwise) ((e, s), t)
both_shows n l parts otherwise e s t h i =
    deep_same both_of (λ (p : (Expr × Stmt) × Stmt). or_else (in_tested n l p.0) (in_stmt p.1)) (in_both n l)
    (joined parts otherwise) ((e, s), t)
    (or_else-assoc (line_if (nat_lt 64 n || is_too_deep e) l) (in_stmt s) (in_stmt t))
    (joined_shows tested_of (in_tested n l) stmt_of in_stmt parts otherwise (e, s) t h i)

pub headed_shows : (n l : ℕ) (heading : Measured HeadingTree) (inner : Measured StmtTree)
    (p : First × Option Expr × Option Expr) (s : Stmt) → nat_lt 64 n ≡ false
    → ShowsHeading l heading p → Shows stmt_of in_stmt inner s → ShowsHeaded n l (joined heading inner) (p, s)
headed_shows n l heading inner p s b h i =
    deep_same headed_of (λ (q : (First × Option Expr × Option Expr) × Stmt). or_else (in_heading l q.0) (in_stmt q.1))
    (in_headed n l) (joined heading inner) (p, s)
    (no_reason (nat_lt 64 n) (is_deep_if p.1) (is_deep_if p.2) l (or_else (in_first p.0 l) (in_stmt s)) b
    ∙ or_else-assoc (line_if (is_deep_if p.1 || is_deep_if p.2) l) (in_first p.0 l) (in_stmt s))
    (joined_shows heading_of (in_heading l) stmt_of in_stmt heading inner p s h i)
