-- How many statements stand inside one another, and the line of the first part that is too deep.
use Rattle.std.proofs.Common.{◌≡◌, ℕ, ◌<◌, ◌≤◌, max, Bool, true, false, Option, List, [], ◌∷◌, ◌++◌, refl, ap, arith}
use Rattle.std.specs.Prelude.{nat_lt, ◌||◌}
use Rattle.std.specs.Global.{Vec}
use Rattle.std.proofs.lemmas.Bool.Decides.{nat_tests}
use Rattle.ep_ast.specs.declared.expressions.ExprTree.{ExprTree}
use Rattle.ep_ast.specs.declared.statements.StmtTree.{StmtTree}
use Rattle.ep_ast.specs.declared.statements.BlockItemTree.{BlockItemTree}
use Rattle.ep_ast.specs.declared.statements.ForInitTree.{ForInitTree}
use Rattle.ep_ast.specs.Expression.{Expr}
use Rattle.ep_ast.specs.Statement as tree
use Rattle.ep_ast.specs.Statement.{First, Stmt, Part, to_stmts, to_parts, stmt_of, part_of}
use Rattle.ep_ast.specs.Depth.{first_of, or_else, line_if, is_deep_if, height, height_of_stmts, height_of_part}
use Rattle.ep_ast.specs.Depth.{height_of_parts, in_first, in_stmt, in_stmts, in_part, in_parts}
use Rattle.ep_reading.specs.declared.measured.Measured.{Measured}
use Rattle.ep_reading.specs.declared.measured.Measured.TheVariants as measured
use Rattle.ep_reading.specs.Measured.{Shows, ShowsAll, all_of, joined}
use Rattle.ep_reading.proofs.MeasuredLemmas.{longer_shows, joined_shows}
use Rattle.ep_statement_parts.specs.declared.kept.Counted.{Counted}
use Rattle.ep_statement_parts.specs.View.{Counts, HasNone, IsEmpty, IsLonger, ShowsStmt, ShowsPart, ShowsStmts}
use Rattle.ep_statement_parts.specs.View.{ShowsParts, given, in_given, deep_first, in_heading, ShowsGiven, ShowsFirst}

pub tall : (h n : ℕ) → Counts h n → 64 < h → nat_lt 64 n ≡ true
tall h n c k = let m : 64 < n = grind (arith) in grind (arith, nat_tests)

pub low : (h n : ℕ) → Counts h n → h ≤ 64 → nat_lt 64 n ≡ false
low h n c k = let m : n ≤ 64 = grind (arith) in grind (arith, nat_tests)

pub counts_max : (h j r n m : ℕ) → r ≡ max h j → Counts h n → Counts j m → Counts r (max n m)
counts_max h j r n m e c d = (λ k. grind (arith), λ k. grind (arith))

-- ---- lists

pub stmts_first : (ss : List Stmt) → first_of in_stmt ss ≡ in_stmts (to_stmts ss)
stmts_first [] = refl
stmts_first (s ∷ ss) = ap (or_else (in_stmt s)) (stmts_first ss)

pub parts_first : (ps : List Part) → first_of in_part ps ≡ in_parts (to_parts ps)
parts_first [] = refl
parts_first (p ∷ ps) = ap (or_else (in_part p)) (parts_first ps)

stmts_height : (ss : List Stmt) (s : Stmt) → height_of_stmts (to_stmts (ss ++ s ∷ [])) ≡ max
    (height_of_stmts (to_stmts ss)) (height s)
stmts_height [] s = omega arith
stmts_height (t ∷ ts) s = omega (arith, stmts_height ts s)

parts_height : (ps : List Part) (p : Part) → height_of_parts (to_parts (ps ++ p ∷ [])) ≡ max
    (height_of_parts (to_parts ps)) (height_of_part p)
parts_height [] p = omega arith
parts_height (q ∷ qs) p = omega (arith, parts_height qs p)

pub longer_stmts : (all : Counted (Vec StmtTree)) (one : Counted StmtTree) (r : Counted (Vec StmtTree))
    (ss : List Stmt) (s : Stmt)
    → IsLonger all one r → ShowsStmts all ss → ShowsStmt one s → ShowsStmts r (ss ++ s ∷ [])
longer_stmts all one r ss s e k j = (
  longer_shows stmt_of in_stmt all.tree one.tree r.tree ss s e.0 k.0 j.0,
  rw (stmts_height ss s) (counts_max all.height one.height r.height (height_of_stmts (to_stmts ss)) (height s) e.1 k.1
      j.1),
)

pub longer_parts : (all : Counted (Vec BlockItemTree)) (one : Counted BlockItemTree) (r : Counted (Vec BlockItemTree))
    (ps : List Part) (p : Part)
    → IsLonger all one r → ShowsParts all ps → ShowsPart one p → ShowsParts r (ps ++ p ∷ [])
longer_parts all one r ps p e k j = (
  longer_shows part_of in_part all.tree one.tree r.tree ps p e.0 k.0 j.0,
  rw (parts_height ps p) (counts_max all.height one.height r.height (height_of_parts (to_parts ps)) (height_of_part p)
      e.1 k.1 j.1),
)

no_count : (h : ℕ) → h ≡ 0 → Counts h 0
no_count h e = (λ k. e, λ k. omega arith)

none_shows : {T V : Type 0} (f : T → V) (d : V → Option ℕ) (k : Measured (Vec T)) → HasNone k → ShowsAll f d k []
none_shows f d (measured.Fits v) e = (rw e refl, refl)
none_shows f d (measured.TooDeep l) e = absurd e

pub empty_stmts : (r : Counted (Vec StmtTree)) → IsEmpty r → ShowsStmts r []
empty_stmts r e = (none_shows stmt_of in_stmt r.tree e.0, no_count r.height e.1)

pub empty_parts : (r : Counted (Vec BlockItemTree)) → IsEmpty r → ShowsParts r []
empty_parts r e = (none_shows part_of in_part r.tree e.0, no_count r.height e.1)

-- ---- the parts of a statement

two_reasons : (b d : Bool) (l : ℕ) (x : Option ℕ)
    → or_else (line_if (b || d) l) x ≡ or_else (or_else (line_if b l) (line_if d l)) x
two_reasons false d l x = refl
two_reasons true d l x = refl

-- two arms
abbrev pub arms_of : Vec StmtTree × Vec StmtTree → List Stmt × List Stmt
arms_of v = (all_of stmt_of v.0, all_of stmt_of v.1)

abbrev pub in_arms : List Stmt × List Stmt → Option ℕ
in_arms p = or_else (first_of in_stmt p.0) (first_of in_stmt p.1)

pub arms_shows : (then otherwise : Measured (Vec StmtTree)) (ss ts : List Stmt) → ShowsAll stmt_of in_stmt then ss
    → ShowsAll stmt_of in_stmt otherwise ts
    → Shows arms_of in_arms (joined then otherwise) (ss, ts)
arms_shows then otherwise ss ts h i = joined_shows (all_of stmt_of) (first_of in_stmt) (all_of stmt_of)
    (first_of in_stmt) then otherwise ss ts h i

pub arms_line : (ss ts : List Stmt) → or_else (in_stmts (to_stmts ss)) (in_stmts (to_stmts ts)) ≡ in_arms (ss, ts)
arms_line ss ts = rw (stmts_first ss, stmts_first ts) refl

-- what stands in the parentheses of a `for`, with its first part last
abbrev pub turned_of : (Option ExprTree × Option ExprTree) × ForInitTree → (Option Expr × Option Expr) × First
turned_of t = ((given t.0.0, given t.0.1), tree.first_of t.1)

abbrev pub in_turned : (line : ℕ) → (Option Expr × Option Expr) × First → Option ℕ
in_turned l p = or_else (or_else (in_given l p.0.0) (in_given l p.0.1)) (in_first p.1 l)

pub turned_shows : (l : ℕ) (first : Measured ForInitTree) (test next : Measured (Option ExprTree)) (f : First)
    (o q : Option Expr)
    → ShowsFirst l first f → ShowsGiven l test o → ShowsGiven l next q
    → Shows turned_of (in_turned l) (joined (joined test next) first) ((o, q), f)
turned_shows l first test next f o q h i j =
    joined_shows (λ (t : Option ExprTree × Option ExprTree). (given t.0, given t.1))
    (λ (p : Option Expr × Option Expr). or_else (in_given l p.0) (in_given l p.1))
    tree.first_of (deep_first l) (joined test next) first (o, q) f
    (joined_shows given (in_given l) given (in_given l) test next o q i j) h

pub turned_line : (l : ℕ) (f : First) (o q : Option Expr) → in_heading l (f, o, q) ≡ in_turned l ((o, q), f)
turned_line l f o q = two_reasons (is_deep_if o) (is_deep_if q) l (in_first f l)
