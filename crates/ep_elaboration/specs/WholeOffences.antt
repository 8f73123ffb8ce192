-- For what expressions as statements are refused: the first offence in each, where what stands before it means
-- something. C11 6.8.3.
use Rattle.std.specs.Prelude.{◌≡◌, ◌&&◌, ◌==◌, ℕ, Bool, true, List, Ok, Err}
use Rattle.ep_ast.specs.Mark as marks
use Rattle.ep_ast.specs.Expression.{Expr, Exprs, assign, call, line_of, post_decrement, post_increment, step}
use Rattle.ep_ast.specs.Mark.{equal}
use Rattle.ep_ast.specs.declared.refusals.Refusal.{Refusal}
use Rattle.ep_typing.specs.Calls.{called}
use Rattle.ep_typing.specs.Env.{Env}
use Rattle.ep_typing.specs.Operand.{Operand, Value, tested, value, value_of}
use Rattle.ep_typing.specs.Typing.{Right, an_object, assigned_from, one, read_first, step_mark}
use Rattle.ep_typing.specs.Rules.{HaveValues, Means, MeansCallee}
use Rattle.ep_typing.specs.Offences.{Breaks, CalleeOffends, First, Offends, order_all, refusal}
use Rattle.ep_elaboration.specs.WholeRules.{is_no_call, is_only_value, MeansRight}

-- what offends in the arguments of a call on this line, in the order of the text
abbrev pub ArgumentsOffend : Env → ℕ → Exprs → Refusal → Type 0
ArgumentsOffend G l es r = First (Breaks G) (order_all l es) r

pub data TestOffends : Env → Expr → Refusal → Type 0 where
  in_test : {G : Env} {e : Expr} {r : Refusal} → Offends G e r → TestOffends G e r
  bad_test_value : {G : Env} {e : Expr} {kind : ℕ} (x : Operand) → Means G e x → value_of G.types x ≡ Err kind
      → TestOffends G e (refusal kind (line_of e))
  bad_test : {G : Env} {e : Expr} {kind : ℕ} (x : Operand) (v : Value) → Means G e x → value_of G.types x ≡ Ok v
      → tested v ≡ Err kind → TestOffends G e (refusal kind (line_of e))

pub data CallOffends : Env → ℕ → Expr → Exprs → Refusal → Type 0 where
  in_callee : {G : Env} {l : ℕ} {f : Expr} {es : Exprs} {r : Refusal} → CalleeOffends G f r → CallOffends G l f es r
  in_arguments : {G : Env} {l : ℕ} {f : Expr} {es : Exprs} {r : Refusal} (x : Operand) → MeansCallee G f x
      → ArgumentsOffend G l es r → CallOffends G l f es r
  bad_call : {G : Env} {l : ℕ} {f : Expr} {es : Exprs} {kind : ℕ} (x : Operand) (vs : List Value) → MeansCallee G f x
      → HaveValues G es vs → called G x vs ≡ Err kind → CallOffends G l f es (refusal kind l)

pub data RightOffends : Env → Bool → Expr → Refusal → Type 0 where
  in_right_call : {G : Env} {l : ℕ} {f : Expr} {es : Exprs} {r : Refusal} → CallOffends G l f es r
      → RightOffends G true (call l f es) r
  in_right_side : {G : Env} {c : Bool} {e : Expr} {r : Refusal} → is_no_call c e ≡ true → Offends G e r
      → RightOffends G c e r

pub data AssignmentOffends : Env → Bool → ℕ → ℕ → Expr → Expr → Refusal → Type 0 where
  in_left_side : {G : Env} {c : Bool} {l m : ℕ} {a b : Expr} {r : Refusal} → Offends G a r
      → AssignmentOffends G c l m a b r
  bad_left_value : {G : Env} {c : Bool} {l m : ℕ} {a b : Expr} {kind : ℕ} (x : Operand) → Means G a x
      → read_first G.types m x ≡ Err kind → AssignmentOffends G c l m a b (refusal kind l)
  in_right : {G : Env} {c : Bool} {l m : ℕ} {a b : Expr} {r : Refusal} (x old : Operand) → Means G a x
      → read_first G.types m x ≡ Ok old → RightOffends G (c && m == equal) b r → AssignmentOffends G c l m a b r
  bad_assignment : {G : Env} {c : Bool} {l m : ℕ} {a b : Expr} {kind : ℕ} (x old : Operand) (y : Right) → Means G a x
      → read_first G.types m x ≡ Ok old → MeansRight G (c && m == equal) b y
      → assigned_from G.types m x old y ≡ Err kind → AssignmentOffends G c l m a b (refusal kind l)

pub data StepOffends : Env → ℕ → ℕ → Expr → Refusal → Type 0 where
  in_stepped : {G : Env} {l m : ℕ} {a : Expr} {r : Refusal} → Offends G a r → StepOffends G l m a r
  bad_stepped_value : {G : Env} {l m : ℕ} {a : Expr} {kind : ℕ} (x : Operand) → Means G a x
      → read_first G.types m x ≡ Err kind → StepOffends G l m a (refusal kind l)
  bad_step : {G : Env} {l m : ℕ} {a : Expr} {kind : ℕ} (x old : Operand) → Means G a x
      → read_first G.types m x ≡ Ok old → assigned_from G.types m x old (an_object (value one)) ≡ Err kind
      → StepOffends G l m a (refusal kind l)

pub data WholeOffends : Env → Bool → Expr → Refusal → Type 0 where
  in_assignment : {G : Env} {c : Bool} {l m : ℕ} {a b : Expr} {r : Refusal} → AssignmentOffends G c l m a b r
      → WholeOffends G c (assign l m a b) r
  in_step : {G : Env} {c : Bool} {l m : ℕ} {a : Expr} {r : Refusal} → StepOffends G l (step_mark m) a r
      → WholeOffends G c (step l m a) r
  in_increment : {G : Env} {c : Bool} {l : ℕ} {a : Expr} {r : Refusal} → StepOffends G l marks.plus_equal a r
      → WholeOffends G c (post_increment l a) r
  in_decrement : {G : Env} {c : Bool} {l : ℕ} {a : Expr} {r : Refusal} → StepOffends G l marks.minus_equal a r
      → WholeOffends G c (post_decrement l a) r
  in_call : {G : Env} {l : ℕ} {f : Expr} {es : Exprs} {r : Refusal} → CallOffends G l f es r
      → WholeOffends G true (call l f es) r
  in_value : {G : Env} {c : Bool} {e : Expr} {r : Refusal} → is_only_value c e ≡ true → TestOffends G e r
      → WholeOffends G c e r
