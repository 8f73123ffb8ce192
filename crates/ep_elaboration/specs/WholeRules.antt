-- Expressions as statements, by rules without an order. C11 6.8.3.
use Rattle.std.specs.Prelude.{◌≡◌, ◌&&◌, ◌==◌, ℕ, Bool, true, false, List, None, Ok}
use Rattle.ep_core.specs.Program as core
use Rattle.ep_ast.specs.Mark as marks
use Rattle.ep_ast.specs.Expression.{Expr, Exprs, assign, call, post_decrement, post_increment, step}
use Rattle.ep_ast.specs.Mark.{equal}
use Rattle.ep_typing.specs.Calls.{Called, called, called_into}
use Rattle.ep_typing.specs.Env.{Env}
use Rattle.ep_typing.specs.Operand.{Operand, Value, tested, value, value_of}
use Rattle.ep_typing.specs.Typing.{Right, a_result, an_object, assigned_from, one, read_first, step_mark}
use Rattle.ep_typing.specs.Rules.{HaveValues, Means, MeansCallee}

-- no call that may stand there
abbrev pub is_no_call : (may_call : Bool) → Expr → Bool
is_no_call true (call l f es) = false
is_no_call c e = true

-- neither an assignment nor a step nor a call that may stand there
abbrev pub is_only_value : (may_call : Bool) → Expr → Bool
is_only_value c (assign l m a b) = false
is_only_value c (step l m a) = false
is_only_value c (post_increment l a) = false
is_only_value c (post_decrement l a) = false
is_only_value true (call l f es) = false
is_only_value c e = true

-- an expression that is tested, or evaluated alone
pub data MeansTest : Env → Expr → core.Expr → Type 0 where
  is_test : {G : Env} {e : Expr} (x : Operand) (v : Value) (w : core.Expr) → Means G e x → value_of G.types x ≡ Ok v
      → tested v ≡ Ok w → MeansTest G e w

-- a call where one may stand (C11 6.5.2.2)
pub data MeansCall : Env → ℕ → Expr → Exprs → Called → Type 0 where
  is_call : {G : Env} {l : ℕ} {f : Expr} {es : Exprs} (x : Operand) (vs : List Value) (c : Called) → MeansCallee G f x
      → HaveValues G es vs → called G x vs ≡ Ok c → MeansCall G l f es c

-- what stands right of an assignment: a call, where one may stand, or an operand
pub data MeansRight : Env → Bool → Expr → Right → Type 0 where
  is_result : {G : Env} {l : ℕ} {f : Expr} {es : Exprs} (c : Called) → MeansCall G l f es c
      → MeansRight G true (call l f es) (a_result c)
  is_operand : {G : Env} {c : Bool} {e : Expr} (y : Operand) → is_no_call c e ≡ true → Means G e y
      → MeansRight G c e (an_object y)

-- an assignment (C11 6.5.16); a call only behind a whole `=`
pub data MeansAssignment : Env → Bool → ℕ → ℕ → Expr → Expr → core.What → Type 0 where
  is_assignment : {G : Env} {c : Bool} {l m : ℕ} {a b : Expr} (x old : Operand) (y : Right) (w : core.What)
      → Means G a x → read_first G.types m x ≡ Ok old → MeansRight G (c && m == equal) b y
      → assigned_from G.types m x old y ≡ Ok w → MeansAssignment G c l m a b w

-- `++` and `--` (C11 6.5.2.4 and 6.5.3.1)
pub data MeansStep : Env → ℕ → ℕ → Expr → core.What → Type 0 where
  is_step : {G : Env} {l m : ℕ} {a : Expr} (x old : Operand) (w : core.What) → Means G a x
      → read_first G.types m x ≡ Ok old → assigned_from G.types m x old (an_object (value one)) ≡ Ok w
      → MeansStep G l m a w

-- an expression as a whole statement, or as an outer part of a `for` (C11 6.8.3)
pub data MeansWhole : Env → Bool → Expr → core.What → Type 0 where
  is_whole_assignment : {G : Env} {c : Bool} {l m : ℕ} {a b : Expr} (w : core.What) → MeansAssignment G c l m a b w
      → MeansWhole G c (assign l m a b) w
  is_whole_step : {G : Env} {c : Bool} {l m : ℕ} {a : Expr} (w : core.What) → MeansStep G l (step_mark m) a w
      → MeansWhole G c (step l m a) w
  is_increment : {G : Env} {c : Bool} {l : ℕ} {a : Expr} (w : core.What) → MeansStep G l marks.plus_equal a w
      → MeansWhole G c (post_increment l a) w
  is_decrement : {G : Env} {c : Bool} {l : ℕ} {a : Expr} (w : core.What) → MeansStep G l marks.minus_equal a w
      → MeansWhole G c (post_decrement l a) w
  is_whole_call : {G : Env} {l : ℕ} {f : Expr} {es : Exprs} (f0 : Called) → MeansCall G l f es f0
      → MeansWhole G true (call l f es) (called_into f0 None)
  is_value : {G : Env} {c : Bool} {e : Expr} (w : core.Expr) → is_only_value c e ≡ true → MeansTest G e w
      → MeansWhole G c e (core.simple (core.eval w))
