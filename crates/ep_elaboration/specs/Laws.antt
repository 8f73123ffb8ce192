-- That the functions of the definition and the rules say the same: a meaning where there is one, and else the first
-- offence.
use Rattle.std.specs.Prelude.{◌≡◌, ℕ, ◌++◌, ◌⊎◌, Bool, true, List, Result, Ok, Err}
use Rattle.ep_int.specs.Memory.{contains}
use Rattle.ep_int.specs.declared.types.Model.{Model}
use Rattle.ep_ast.specs.declared.refusals.Refusal.{Refusal}
use Rattle.ep_ast.specs.Expression.{Expr}
use Rattle.ep_ast.specs.Declaration.{Declaration}
use Rattle.ep_ast.specs.Statement.{Stmt, Item}
use Rattle.ep_core.specs.Program.{Block, Expr as Computed, Place, Program}
use Rattle.ep_core.specs.WellFormed.{Sort, has_sort, place_has}
use Rattle.ep_layout.specs.Table.{Table, Grows}
use Rattle.ep_typing.specs.declared.types.CType.{CType}
use Rattle.ep_typing.specs.Env.{Env}
use Rattle.ep_typing.specs.Typing.{whole_statement}
use Rattle.ep_elaboration.specs.Declarations.{declaration}
use Rattle.ep_elaboration.specs.Statements.{statement}
use Rattle.ep_elaboration.specs.ProgramSteps.{elaborated}
use Rattle.ep_elaboration.specs.WholeRules.{MeansWhole}
use Rattle.ep_elaboration.specs.WholeOffences.{WholeOffends}
use Rattle.ep_elaboration.specs.GivenRules.{MeansDeclaration}
use Rattle.ep_elaboration.specs.GivenOffences.{DeclarationOffends}
use Rattle.ep_elaboration.specs.StatementRules.{MeansStatement}
use Rattle.ep_elaboration.specs.StatementOffences.{StatementOffends}
use Rattle.ep_elaboration.specs.ProgramRules.{MeansProgram}
use Rattle.ep_elaboration.specs.ProgramOffences.{ProgramOffends}

-- a function's answer is what the rules give a meaning, and its refusal what they name as the first offence
pub record SaysAs {B : Type 0} (answer : Result B Refusal) (Means : B → Type 0) (Offends : Refusal → Type 0)
    : Type 0 where
  pub means : (x : B) → answer ≡ Ok x → Means x
  pub meant : (x : B) → Means x → answer ≡ Ok x
  pub refused : (r : Refusal) → answer ≡ Err r → Offends r
  pub first : (r : Refusal) → Offends r → answer ≡ Err r

-- expressions as whole statements, where a call may stand or not
abbrev pub WholeStatements : Type 0
WholeStatements = (G : Env) (may_call : Bool) (e : Expr)
    → SaysAs (whole_statement G may_call e) (MeansWhole G may_call e) (WholeOffends G may_call e)

-- declarations of variables, at file scope or in a block
abbrev pub Declarations : Type 0
Declarations = (G : Env) (global may_call : Bool) (d : Declaration)
    → SaysAs (declaration G global may_call d) (MeansDeclaration G global may_call d)
    (DeclarationOffends G global may_call d)

-- statements, in a function with this result, inside of a loop or not
abbrev pub Statements : Type 0
Statements = (G : Env) (result : CType) (in_loop : Bool) (s : Stmt)
    → SaysAs (statement G result in_loop s) (MeansStatement G result in_loop s) (StatementOffends G result in_loop s)

-- whole programs
abbrev pub Programs : Type 0
Programs = (m : Model) (is : List Item) → SaysAs (elaborated m is) (MeansProgram m is) (ProgramOffends m is)

-- a program means one core program at most
abbrev pub OneMeaning : Type 0
OneMeaning = (m : Model) (is : List Item) (p q : Program) → MeansProgram m is p → MeansProgram m is q → p ≡ q

-- a program means something, or it offends
abbrev pub OneOfBoth : Type 0
OneOfBoth = (m : Model) (is : List Item)
    → ((p : Program) × MeansProgram m is p) ⊎ ((r : Refusal) × ProgramOffends m is r)

-- and never both
abbrev pub NeverBoth : Type 0
NeverBoth = (m : Model) (is : List Item) (p : Program) (r : Refusal) → MeansProgram m is p → ProgramOffends m is r → ⊥

-- ---- growth

-- What can be named before can be named later.
abbrev pub Names : (seen wider : List ℕ) → Type 0
Names seen wider = (b : ℕ) → contains b seen ≡ true → contains b wider ≡ true

-- an expression keeps its sort where the table grows, blocks come, and more blocks can be named
abbrev pub SortsStay : Type 0
SortsStay = (t u : Table) → Grows t u → (bs more : List Block) (seen wider : List ℕ) → Names seen wider
    → (e : Computed) (x : Sort) → has_sort t bs seen e x ≡ true → has_sort u (bs ++ more) wider e x ≡ true

-- and so does a place its type
abbrev pub PlacesStay : Type 0
PlacesStay = (t u : Table) → Grows t u → (bs more : List Block) (seen wider : List ℕ) → Names seen wider
    → (a : Place) (ty : ℕ) → place_has t bs seen a ty ≡ true → place_has u (bs ++ more) wider a ty ≡ true
