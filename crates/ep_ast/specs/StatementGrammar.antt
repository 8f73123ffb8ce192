-- The grammar of statements and blocks, on whole lists of tokens, with one case for each rule: C11 6.8, less what this
-- project leaves out, and this project's statements by byte order.
use Rattle.std.specs.Prelude.{◌≡◌, ℕ, Bool, Option, Some, None, List, [], ◌∷◌}
use Rattle.ep_ast.specs.declared.orders.NamedOrder.{NamedOrder}
use Rattle.ep_ast.specs.declared.orders.NamedOrder.TheVariants.{Little, Big}
use Rattle.ep_ast.specs.Token.{Tok, word, mark, if_little, if_big, other, end_if, line_of}
use Rattle.ep_ast.specs.Expression as expressions
use Rattle.ep_ast.specs.Declaration.{Declaration}
use Rattle.ep_ast.specs.Statement as tree
use Rattle.ep_ast.specs.Statement.{First, Stmt, Part, to_stmts, to_parts, make_if, make_arms, Stmts, Block}
use Rattle.ep_ast.specs.Mark.{break_word, continue_word, do_word, else_word, for_word, if_word, return_word, while_word}
use Rattle.ep_ast.specs.Mark.{left_paren, right_paren, left_brace, right_brace, semicolon}
use Rattle.ep_ast.specs.Grammar.{expr, Derives}
use Rattle.ep_ast.specs.Reading.{LacksWord}
use Rattle.ep_ast.specs.DeclarationGrammar.{in_block, Declares}

-- an expression or none, up to and with a mark
pub data UpTo (is_type : List ℕ → Bool) (code : ℕ) : List Tok → List Tok → Option expressions.Expr → Type 0 where
  nothing : {l c : ℕ} {xs : List Tok} → c ≡ code → UpTo is_type code (mark l c ∷ xs) xs None
  something : {l c : ℕ} {xs ys : List Tok} {e : expressions.Expr} → c ≡ code → Derives is_type expr xs (mark l c ∷ ys) e
      → UpTo is_type code xs ys (Some e)

-- an expression in parentheses
pub data InParens (is_type : List ℕ → Bool) : List Tok → List Tok → expressions.Expr → Type 0 where
  in_parens : {l c m d : ℕ} {xs ys : List Tok} {e : expressions.Expr} → c ≡ left_paren → d ≡ right_paren
      → Derives is_type expr xs (mark m d ∷ ys) e → InParens is_type (mark l c ∷ xs) ys e

-- the first part of a `for`, with its semicolon
pub data Firsts (is_type : List ℕ → Bool) : List Tok → List Tok → First → Type 0 where
  declares : {xs ys : List Tok} {d : Declaration} → Declares is_type in_block xs ys d
      → Firsts is_type xs ys (tree.declares d)
  evaluates : {xs ys : List Tok} {e : Option expressions.Expr} → UpTo is_type semicolon xs ys e
      → Firsts is_type xs ys (tree.evaluates e)

-- an `#if` of this order begins here
pub data IsIf : Tok → NamedOrder → Type 0 where
  little : {l : ℕ} → IsIf (if_little l) Little
  big : {l : ℕ} → IsIf (if_big l) Big

mutual
  pub data States (is_type : List ℕ → Bool) : List Tok → List Tok → Stmt → Type 0 where
    block : {l c : ℕ} {xs ys : List Tok} {ps : List Part} → c ≡ left_brace → Parts is_type xs ys ps
        → States is_type (mark l c ∷ xs) ys (tree.block l (to_parts ps))
    evaluate : {t : Tok} {xs ys : List Tok} {e : Option expressions.Expr} → UpTo is_type semicolon (t ∷ xs) ys e
        → States is_type (t ∷ xs) ys (tree.evaluate (line_of t) e)
    choose : {l c : ℕ} {xs ys zs ws : List Tok} {e : expressions.Expr} {s : Stmt} {o : Option Stmt} → c ≡ if_word
        → InParens is_type xs ys e → States is_type ys zs s → Otherwise is_type zs ws o
        → States is_type (word l c ∷ xs) ws (make_if l e s o)
    repeat : {l c : ℕ} {xs ys zs : List Tok} {e : expressions.Expr} {s : Stmt} → c ≡ while_word
        → InParens is_type xs ys e → States is_type ys zs s → States is_type (word l c ∷ xs) zs (tree.while_loop l e s)
    do_first : {l c m d n f : ℕ} {xs ys zs : List Tok} {e : expressions.Expr} {s : Stmt} → c ≡ do_word → d ≡ while_word
        → f ≡ semicolon
        → States is_type xs (word m d ∷ ys) s → InParens is_type ys (mark n f ∷ zs) e
        → States is_type (word l c ∷ xs) zs (tree.do_loop l s e)
    for_each : {l c m d : ℕ} {xs ys zs ws vs : List Tok} {f : First} {e g : Option expressions.Expr} {s : Stmt}
        → c ≡ for_word → d ≡ left_paren
        → Firsts is_type xs ys f → UpTo is_type semicolon ys zs e → UpTo is_type right_paren zs ws g
        → States is_type ws vs s
        → States is_type (word l c ∷ mark m d ∷ xs) vs (tree.for_loop l f e g s)
    break_off : {l c m d : ℕ} {xs : List Tok} → c ≡ break_word → d ≡ semicolon
        → States is_type (word l c ∷ mark m d ∷ xs) xs (tree.break_loop l)
    go_on : {l c m d : ℕ} {xs : List Tok} → c ≡ continue_word → d ≡ semicolon
        → States is_type (word l c ∷ mark m d ∷ xs) xs (tree.continue_loop l)
    give_back : {l c : ℕ} {xs ys : List Tok} {e : Option expressions.Expr} → c ≡ return_word
        → UpTo is_type semicolon xs ys e → States is_type (word l c ∷ xs) ys (tree.return_value l e)

  -- An `else` belongs to the nearest `if` that has none, so none comes after an `if` without one.
  pub data Otherwise (is_type : List ℕ → Bool) : List Tok → List Tok → Option Stmt → Type 0 where
    no_else : {xs : List Tok} → LacksWord else_word xs → Otherwise is_type xs xs None
    else_too : {l c : ℕ} {xs ys : List Tok} {s : Stmt} → c ≡ else_word → States is_type xs ys s
        → Otherwise is_type (word l c ∷ xs) ys (Some s)

  -- the parts of a block, up to and with the closing brace
  pub data Parts (is_type : List ℕ → Bool) : List Tok → List Tok → List Part → Type 0 where
    no_parts : {l c : ℕ} {xs : List Tok} → c ≡ right_brace → Parts is_type (mark l c ∷ xs) xs []
    more_parts : {xs ys zs : List Tok} {p : Part} {ps : List Part} → OnePart is_type xs ys p → Parts is_type ys zs ps
        → Parts is_type xs zs (p ∷ ps)

  pub data OnePart (is_type : List ℕ → Bool) : List Tok → List Tok → Part → Type 0 where
    declaration : {xs ys : List Tok} {d : Declaration} → Declares is_type in_block xs ys d
        → OnePart is_type xs ys (tree.declares_in d)
    statement : {xs ys : List Tok} {s : Stmt} → States is_type xs ys s → OnePart is_type xs ys (tree.states s)
    arms : {t : Tok} {o : NamedOrder} {xs ys zs : List Tok} {ss : List Stmt} {ts : Option Stmts} → IsIf t o
        → Statements is_type xs ys ss → OtherArm is_type ys zs ts
        → OnePart is_type (t ∷ xs) zs (make_arms (line_of t) o (to_stmts ss) ts)

  -- as many statements as there are before an `#else` or `#endif`
  pub data Statements (is_type : List ℕ → Bool) : List Tok → List Tok → List Stmt → Type 0 where
    before_else : {l : ℕ} {xs : List Tok} → Statements is_type (other l ∷ xs) (other l ∷ xs) []
    before_end : {l : ℕ} {xs : List Tok} → Statements is_type (end_if l ∷ xs) (end_if l ∷ xs) []
    more_statements : {xs ys zs : List Tok} {s : Stmt} {ss : List Stmt} → States is_type xs ys s
        → Statements is_type ys zs ss → Statements is_type xs zs (s ∷ ss)

  -- what stands from `#else` on, if there is one, up to and with the `#endif`
  pub data OtherArm (is_type : List ℕ → Bool) : List Tok → List Tok → Option Stmts → Type 0 where
    no_other : {l : ℕ} {xs : List Tok} → OtherArm is_type (end_if l ∷ xs) xs None
    another : {l m : ℕ} {xs ys : List Tok} {ss : List Stmt} → Statements is_type xs (end_if m ∷ ys) ss
        → OtherArm is_type (other l ∷ xs) ys (Some (to_stmts ss))

-- the body of a function
pub data Blocks (is_type : List ℕ → Bool) : List Tok → List Tok → Block → Type 0 where
  braces : {l c : ℕ} {xs ys : List Tok} {ps : List Part} → c ≡ left_brace → Parts is_type xs ys ps
      → Blocks is_type (mark l c ∷ xs) ys (record { line = l; parts = ps })
