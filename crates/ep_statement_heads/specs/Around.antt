-- What stands round a statement that is to be read: heads, the innermost first.
use Rattle.std.specs.Prelude.{◌≡◌, ℕ, Bool, Option, Some, None, List, [], ◌∷◌, reverse, Result, Ok, Err}
use Rattle.ep_ast.specs.declared.refusals.Halt.{Halt}
use Rattle.ep_ast.specs.declared.statements.StmtTree.{StmtTree}
use Rattle.ep_ast.specs.Token.{Tok}
use Rattle.ep_ast.specs.Expression.{Expr}
use Rattle.ep_ast.specs.Statement as tree
use Rattle.ep_ast.specs.Statement.{First, Stmt, make_if}
use Rattle.ep_ast.specs.StatementGrammar.{States, Otherwise}
use Rattle.ep_ast.specs.Reading.{Stops}
use Rattle.ep_reading.specs.declared.reader.Part.{Part}
use Rattle.ep_reading.specs.Answer.{IsTaken, IsPast, after}
use Rattle.ep_statement_parts.specs.declared.kept.Counted.{Counted}
use Rattle.ep_statement_heads.specs.declared.frames.Frame.{Frame}
use Rattle.ep_statement_heads.specs.declared.frames.Frame.TheVariants as frames
use Rattle.ep_statement_heads.specs.declared.frames.Closed.{Closed}
use Rattle.ep_statement_heads.specs.declared.frames.Closed.TheVariants as closes
use Rattle.ep_statement_heads.specs.declared.frames.Completed.{Completed}
use Rattle.ep_statement_heads.specs.declared.frames.Completed.TheVariants as completes
use Rattle.ep_statement_parts.specs.View.{ShowsTest, ShowsHeading, ShowsStmt}
use Rattle.ep_simple_statements.specs.Piece.{DoEnd, HasNoHead}

pub data Outer : Type 0 where
  if_head : (line : ℕ) (test : Expr) → Outer
  else_head : (line : ℕ) (test : Expr) (then : Stmt) → Outer
  while_head : (line : ℕ) (test : Expr) → Outer
  for_head : (line : ℕ) (parts : First × Option Expr × Option Expr) → Outer
  do_head : (line : ℕ) → Outer

-- With this statement inside, which ends at the first list, the head is the other statement, which ends at the second.
pub data Around (is_type : List ℕ → Bool) : Outer → Stmt → List Tok → List Tok → Stmt → Type 0 where
  chosen : {l : ℕ} {e : Expr} {s : Stmt} {o : Option Stmt} {ys zs : List Tok} → Otherwise is_type ys zs o
      → Around is_type (if_head l e) s ys zs (make_if l e s o)
  chosen_else : {l : ℕ} {e : Expr} {s t : Stmt} {ys : List Tok}
      → Around is_type (else_head l e s) t ys ys (tree.if_else l e s t)
  repeated : {l : ℕ} {e : Expr} {s : Stmt} {ys : List Tok}
      → Around is_type (while_head l e) s ys ys (tree.while_loop l e s)
  turned : {l : ℕ} {p : First × Option Expr × Option Expr} {s : Stmt} {ys : List Tok}
      → Around is_type (for_head l p) s ys ys (tree.for_loop l p.0 p.1 p.2 s)
  done : {l : ℕ} {e : Expr} {s : Stmt} {ys zs : List Tok} → DoEnd is_type ys zs e
      → Around is_type (do_head l) s ys zs (tree.do_loop l s e)

-- the same of all heads
pub data Unwinds (is_type : List ℕ → Bool) : List Outer → Stmt → List Tok → List Tok → Stmt → Type 0 where
  no_heads : {s : Stmt} {ys : List Tok} → Unwinds is_type [] s ys ys s
  one_head : {f : Outer} {fs : List Outer} {s t u : Stmt} {ys zs ws : List Tok} → Around is_type f s ys zs t
      → Unwinds is_type fs t zs ws u → Unwinds is_type (f ∷ fs) s ys ws u

-- the statements at the first list are these heads, and a statement at the second inside them
pub record Reaches (is_type : List ℕ → Bool) (xs : List Tok) (fs : List Outer) (ys : List Tok) : Type 0 where
  pub forth : (s t : Stmt) (zs ws : List Tok) → States is_type ys zs s → Unwinds is_type fs s zs ws t
      → States is_type xs ws t
  pub back : (t : Stmt) (ws : List Tok) → States is_type xs ws t → (s : Stmt) × (zs : List Tok)
      × States is_type ys zs s × Unwinds is_type fs s zs ws t

-- the statements at the first list are these heads, with this statement inside them, which ends at the second
pub record Finishes (is_type : List ℕ → Bool) (xs : List Tok) (fs : List Outer) (s : Stmt) (zs : List Tok) : Type 0
  where
    pub forth : (t : Stmt) (ws : List Tok) → Unwinds is_type fs s zs ws t → States is_type xs ws t
    pub back : (t : Stmt) (ws : List Tok) → States is_type xs ws t → Unwinds is_type fs s zs ws t

-- the statements at the first list are this head, and a statement at the second inside it
pub record Opens (is_type : List ℕ → Bool) (xs : List Tok) (f : Outer) (ys : List Tok) : Type 0 where
  pub forth : (s t : Stmt) (zs ws : List Tok) → States is_type ys zs s → Around is_type f s zs ws t
      → States is_type xs ws t
  pub back : (t : Stmt) (ws : List Tok) → States is_type xs ws t → (s : Stmt) × (zs : List Tok)
      × States is_type ys zs s × Around is_type f s zs ws t

-- ---- what is kept of heads

abbrev pub ShowsFrame : Frame → Outer → Type 0
ShowsFrame (frames.If l k) f = (e : Expr) × (f ≡ if_head l e) × ShowsTest l k e
ShowsFrame (frames.Else l k j) f = (e : Expr) × (s : Stmt) × (f ≡ else_head l e s) × ShowsTest l k e
    × ShowsStmt j.value s
ShowsFrame (frames.While l k) f = (e : Expr) × (f ≡ while_head l e) × ShowsTest l k e
ShowsFrame (frames.For l k) f = (p : First × Option Expr × Option Expr) × (f ≡ for_head l p) × ShowsHeading l k.value p
ShowsFrame (frames.Do l) f = f ≡ do_head l

abbrev pub ShowsFrames : List Frame → List Outer → Type 0
ShowsFrames [] fs = fs ≡ []
ShowsFrames (k ∷ ks) fs = (f : Outer) × (gs : List Outer) × (fs ≡ f ∷ gs) × ShowsFrame k f × ShowsFrames ks gs

pub record Opened (is_type : List ℕ → Bool) (xs : List Tok) (k : Frame) (ys : List Tok) : Type 0 where
  pub head : Outer
  pub shows : ShowsFrame k head
  pub opens : Opens is_type xs head ys

pub record Waits (is_type : List ℕ → Bool) (xs : List Tok) (ks : List Frame) (ys : List Tok) : Type 0 where
  pub heads : List Outer
  pub shows : ShowsFrames ks heads
  pub reaches : Reaches is_type xs heads ys

pub record Stands (is_type : List ℕ → Bool) (xs : List Tok) (ks : List Frame) (j : Counted StmtTree) (zs : List Tok) :
    Type 0 where
  pub heads : List Outer
  pub inner : Stmt
  pub shows_heads : ShowsFrames ks heads
  pub shows : ShowsStmt j inner
  pub finishes : Finishes is_type xs heads inner zs

-- a longer statement, or one that waits for what follows its `else`
abbrev pub Closes : (List ℕ → Bool) → List Tok → List Frame → Closed → List Tok → Type 0
Closes is_type xs ks (closes.More j) ys = Stands is_type xs ks j ys
Closes is_type xs ks (closes.Else k) ys = Waits is_type xs (k ∷ ks) ys

abbrev pub Completes : (List ℕ → Bool) → List Tok → Completed → List Tok → Type 0
Completes is_type xs (completes.Whole j) ys = IsTaken ShowsStmt (States is_type) xs j ys
Completes is_type xs (completes.Else v) ys = Waits is_type xs (reverse v.items) ys

-- what the code answers, where nothing else is to be read
abbrev pub ParsesState : {K : Type 0} → (K → List Tok → Type 0) → (List ℕ → Bool) → List Tok → Result (Part K) Halt
    → Type 0
ParsesState Is is_type xs (Ok p) = Is p.value (after p)
ParsesState Is is_type xs (Err e) = Stops (States is_type) xs e

-- a head, or that none begins here
abbrev pub ParsesHead : (List ℕ → Bool) → List Tok → Result (Option (Part Frame)) Halt → Type 0
ParsesHead is_type xs (Ok (Some p)) = Opened is_type xs p.value (after p)
ParsesHead is_type xs (Ok None) = HasNoHead xs
ParsesHead is_type xs (Err e) = Stops (States is_type) xs e

-- fewer tokens than so many stand behind a head
abbrev pub IsPastHead : ℕ → Option (Part Frame) → Type 0
IsPastHead n (Some p) = IsPast n p
IsPastHead n None = Unit {0}
