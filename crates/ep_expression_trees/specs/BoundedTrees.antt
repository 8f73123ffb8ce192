-- Trees that are kept, or too deep for it, of which code knows the line alone.
use Rattle.std.specs.Prelude.{◌≡◌, ℕ, ◌+◌, ◌<◌, ◌≤◌, max, Option, Some, None, List, [], ◌∷◌, map}
use Rattle.std.specs.Global.{Vec}
use Rattle.ep_ast.specs.declared.expressions.ExprTree.{ExprTree}
use Rattle.ep_ast.specs.Expression as tree
use Rattle.ep_ast.specs.Expression.{Expr, expr, to_exprs, line_of, type_name}
use Rattle.ep_ast.specs.Nesting.{height, heights, stars_in, all_stars_in, depth}
use Rattle.ep_ast.specs.Grammar as grammar
use Rattle.ep_ast.specs.Mark.{mark_number}
use Rattle.ep_expression_trees.specs.declared.kept.BoundedTree.{BoundedTree}
use Rattle.ep_expression_trees.specs.declared.kept.Arguments.{Arguments}
use Rattle.ep_expression_trees.specs.declared.kept.Suffix.{Suffix}
use Rattle.ep_expression_trees.specs.declared.kept.Suffix.TheVariants as suffixes
use Rattle.ep_expression_trees.specs.declared.kept.Prefix.{Prefix}
use Rattle.ep_expression_trees.specs.declared.kept.Prefix.TheVariants as prefixes

-- the tree and its height, or none for one that is too deep
abbrev pub Holds : Option ExprTree → ℕ → Expr → Type 0
Holds (Some e) h t = (expr e ≡ t) × (h ≡ height t) × (h ≤ 64) × (stars_in t ≤ 64)
Holds None h t = 64 < depth t

abbrev pub Shows : BoundedTree → Expr → Type 0
Shows k t = (k.line ≡ line_of t) × Holds k.tree k.height t

abbrev pub HoldsAll : Option (Vec ExprTree) → ℕ → List Expr → Type 0
HoldsAll (Some v) h ts = (map expr v.items ≡ ts) × (h ≡ heights (to_exprs ts)) × (h ≤ 64)
    × (all_stars_in (to_exprs ts) ≤ 64)
HoldsAll None h ts = 64 < max (heights (to_exprs ts)) (all_stars_in (to_exprs ts))

abbrev pub ShowsAll : Arguments → List Expr → Type 0
ShowsAll a ts = HoldsAll a.trees a.height ts

abbrev pub ShowsSuffix : Suffix → grammar.Suffix → Type 0
ShowsSuffix (suffixes.At k) s = (b : Expr) × (s ≡ grammar.at b) × Shows k b
ShowsSuffix (suffixes.With a) s = (bs : List Expr) × (s ≡ grammar.with bs) × ShowsAll a bs
ShowsSuffix (suffixes.Of v) s = s ≡ grammar.of v.items
ShowsSuffix (suffixes.Through v) s = s ≡ grammar.through v.items
ShowsSuffix suffixes.Increment s = s ≡ grammar.increment
ShowsSuffix suffixes.Decrement s = s ≡ grammar.decrement

-- a tree and the height of a node over it, or that such a node is too deep
abbrev pub Over : Option (ExprTree × ℕ) → Expr → Type 0
Over (Some p) t = (expr p.0 ≡ t) × (p.1 ≡ height t + 1) × (p.1 ≤ 64) × (stars_in t ≤ 64)
Over None t = 64 < max (height t + 1) (stars_in t)

-- the same of two trees
abbrev pub Pair : Option (ExprTree × ExprTree × ℕ) → Expr → Expr → Type 0
Pair (Some p) s t = (expr p.0 ≡ s) × (expr p.1 ≡ t) × (p.2 ≡ max (height s) (height t) + 1) × (p.2 ≤ 64)
    × (max (stars_in s) (stars_in t) ≤ 64)
Pair None s t = 64 < max (max (height s) (height t) + 1) (max (stars_in s) (stars_in t))

-- the same of three trees
abbrev pub Three : Option (ExprTree × ExprTree × ExprTree × ℕ) → Expr → Expr → Expr → Type 0
Three (Some p) s t u =
    (expr p.0 ≡ s) × (expr p.1 ≡ t) × (expr p.2 ≡ u) × (p.3 ≡ max (height s) (max (height t) (height u)) + 1)
    × (p.3 ≤ 64) × (max (stars_in s) (max (stars_in t) (stars_in u)) ≤ 64)
Three None s t u = 64 < max (max (height s) (max (height t) (height u)) + 1)
    (max (stars_in s) (max (stars_in t) (stars_in u)))

-- the same of a tree and arguments
abbrev pub WithAll : Option (ExprTree × Vec ExprTree × ℕ) → Expr → List Expr → Type 0
WithAll (Some p) s ts =
    (expr p.0 ≡ s) × (map expr p.1.items ≡ ts) × (p.2 ≡ max (height s) (heights (to_exprs ts)) + 1) × (p.2 ≤ 64)
    × (max (stars_in s) (all_stars_in (to_exprs ts)) ≤ 64)
WithAll None s ts = 64 < max (max (height s) (heights (to_exprs ts)) + 1)
    (max (stars_in s) (all_stars_in (to_exprs ts)))

-- arguments and one more, and the height of them all, or that they are too deep
abbrev pub OneMore : Option (Vec ExprTree × ExprTree × ℕ) → List Expr → Expr → Type 0
OneMore (Some p) ts t =
    (map expr p.0.items ≡ ts) × (expr p.1 ≡ t) × (p.2 ≡ max (heights (to_exprs ts)) (height t)) × (p.2 ≤ 64)
    × (max (all_stars_in (to_exprs ts)) (stars_in t) ≤ 64)
OneMore None ts t = 64 < max (max (heights (to_exprs ts)) (height t)) (max (all_stars_in (to_exprs ts)) (stars_in t))

-- ---- prefixes

abbrev pub wrap : Prefix → Expr → Expr
wrap (prefixes.Operator l m) a = tree.unary l (mark_number m) a
wrap (prefixes.Step l m) a = tree.step l (mark_number m) a
wrap (prefixes.Sizeof l) a = tree.sizeof_expr l a
wrap (prefixes.Typed l t) a = tree.cast l (type_name t.value) a

-- the first is outermost
abbrev pub wrap_all : List Prefix → Expr → Expr
wrap_all [] a = a
wrap_all (p ∷ ps) a = wrap p (wrap_all ps a)
