-- The trees of expressions, without where they lie in memory: C11 6.5.
use Rattle.std.specs.Prelude.{ℕ, List, [], ◌∷◌, map}
use Rattle.ep_ast.specs.declared.expressions.Literal.{Literal}
use Rattle.ep_ast.specs.declared.expressions.TypeWordTree.{TypeWordTree}
use Rattle.ep_ast.specs.declared.expressions.TypeWordTree.TheVariants as words
use Rattle.ep_ast.specs.declared.expressions.TypeNameTree.{TypeNameTree}
use Rattle.ep_ast.specs.declared.expressions.ExprTree.{ExprTree, Assign', Conditional', Binary', Cast', Step', Unary'}
use Rattle.ep_ast.specs.declared.expressions.ExprTree.{SizeofExpr', SizeofType, Index', Call', Member', Arrow'}
use Rattle.ep_ast.specs.declared.expressions.ExprTree.{PostIncrement', PostDecrement', Id, Number, Row_of-ExprTree}
use Rattle.ep_ast.specs.declared.expressions.ExprTree.{end_of-ExprTree, more_of-ExprTree}
use Rattle.ep_ast.specs.Mark.{mark_number, word_number}

-- a type word: an accepted word by its number, a typedef name, or a `struct` or `union` word and its tag
pub data TypeWord : Type 0 where
  word : (line code : ℕ) → TypeWord
  typedef_name : (line : ℕ) (text : List ℕ) → TypeWord
  tagged : (line code : ℕ) (tag : List ℕ) → TypeWord

abbrev pub type_word : TypeWordTree → TypeWord
type_word (words.Word l w) = word l (word_number w)
type_word (words.Name l v) = typedef_name l v.items
type_word (words.Tag l w v) = tagged l (word_number w) v.items

-- the name of a type (C11 6.7.7); `stars` has for each `*` the number of `const` after it
pub record TypeName : Type 0 where
  pub line : ℕ
  pub words : List TypeWord
  pub stars : List ℕ

abbrev pub type_name : TypeNameTree → TypeName
type_name t = record { line = t.line; words = map type_word t.specs.items; stars = t.stars.items }

mutual
  pub data Expr : Type 0 where
    assign : (line mark : ℕ) (place value : Expr) → Expr
    conditional : (line : ℕ) (test yes no : Expr) → Expr
    binary : (line mark : ℕ) (left right : Expr) → Expr
    cast : (line : ℕ) (to : TypeName) (operand : Expr) → Expr
    step : (line mark : ℕ) (operand : Expr) → Expr
    unary : (line mark : ℕ) (operand : Expr) → Expr
    sizeof_expr : (line : ℕ) (operand : Expr) → Expr
    sizeof_type : (line : ℕ) (of : TypeName) → Expr
    index : (line : ℕ) (array at : Expr) → Expr
    call : (line : ℕ) (callee : Expr) (arguments : Exprs) → Expr
    member : (line : ℕ) (aggregate : Expr) (name : List ℕ) → Expr
    arrow : (line : ℕ) (pointer : Expr) (name : List ℕ) → Expr
    post_increment : (line : ℕ) (operand : Expr) → Expr
    post_decrement : (line : ℕ) (operand : Expr) → Expr
    id : (line : ℕ) (text : List ℕ) → Expr
    number : (line : ℕ) (literal : Literal) → Expr

  pub data Exprs : Type 0 where
    no_exprs : Exprs
    more_exprs : Expr → Exprs → Exprs

abbrev pub to_exprs : List Expr → Exprs
to_exprs [] = no_exprs
to_exprs (e ∷ es) = more_exprs e (to_exprs es)

-- the line of an expression: that of its first token, where parentheses don't count
abbrev pub line_of : Expr → ℕ
line_of (assign l c a b) = l
line_of (conditional l a b c) = l
line_of (binary l c a b) = l
line_of (cast l t a) = l
line_of (step l c a) = l
line_of (unary l c a) = l
line_of (sizeof_expr l a) = l
line_of (sizeof_type l t) = l
line_of (index l a b) = l
line_of (call l a bs) = l
line_of (member l a n) = l
line_of (arrow l a n) = l
line_of (post_increment l a) = l
line_of (post_decrement l a) = l
line_of (id l n) = l
line_of (number l n) = l

-- with the pointer of each box left out
abbrev mutual
  pub expr : ExprTree → Expr
  expr (Assign' l c p a q b) = assign l (mark_number c) (expr a) (expr b)
  expr (Conditional' l p a q b r c) = conditional l (expr a) (expr b) (expr c)
  expr (Binary' l c p a q b) = binary l (mark_number c) (expr a) (expr b)
  expr (Cast' l t p a) = cast l (type_name t.value) (expr a)
  expr (Step' l c p a) = step l (mark_number c) (expr a)
  expr (Unary' l c p a) = unary l (mark_number c) (expr a)
  expr (SizeofExpr' l p a) = sizeof_expr l (expr a)
  expr (SizeofType l t) = sizeof_type l (type_name t.value)
  expr (Index' l p a q b) = index l (expr a) (expr b)
  expr (Call' l p a shape all) = call l (expr a) (exprs all)
  expr (Member' l p a v) = member l (expr a) v.items
  expr (Arrow' l p a v) = arrow l (expr a) v.items
  expr (PostIncrement' l p a) = post_increment l (expr a)
  expr (PostDecrement' l p a) = post_decrement l (expr a)
  expr (Id l v) = id l v.items
  expr (Number l n) = number l n

  pub exprs : {m : _} → Row_of-ExprTree m → Exprs
  exprs end_of-ExprTree = no_exprs
  exprs (more_of-ExprTree e rest) = more_exprs (expr e) (exprs rest)
