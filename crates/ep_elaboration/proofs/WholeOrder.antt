-- The functions of the definition against the rules: expressions as statements.
use Rattle.std.proofs.Common.{◌≡◌, ℕ, Bool, true, false, Result, Ok, Err, refl, subst, sym, ◌∙◌, inl, inr}
use Rattle.std.specs.Prelude.{◌&&◌, ◌==◌}
use Rattle.ep_core.specs.Program as core
use Rattle.ep_ast.specs.Mark as marks
use Rattle.ep_ast.specs.Expression.{Expr, Exprs, arrow, assign, binary, call, cast, conditional, id, index, line_of}
use Rattle.ep_ast.specs.Expression.{member, number, post_decrement, post_increment, sizeof_expr, sizeof_type, step}
use Rattle.ep_ast.specs.Expression.{unary}
use Rattle.ep_ast.specs.Mark.{equal}
use Rattle.ep_ast.specs.declared.refusals.Refusal.{Refusal}
use Rattle.ep_elaboration.specs.WholeRules.{MeansAssignment, MeansCall}
use Rattle.ep_elaboration.specs.WholeOffences.{AssignmentOffends, CallOffends}
use Rattle.ep_elaboration.specs.WholeRules.{MeansRight, MeansStep, MeansTest, MeansWhole}
use Rattle.ep_elaboration.specs.WholeOffences.{RightOffends}
use Rattle.ep_elaboration.specs.WholeOffences.{StepOffends, TestOffends, WholeOffends, bad_assignment, bad_call}
use Rattle.ep_elaboration.specs.WholeOffences.{bad_left_value, bad_step, bad_stepped_value, bad_test}
use Rattle.ep_elaboration.specs.WholeOffences.{bad_test_value, in_arguments, in_assignment, in_call, in_callee}
use Rattle.ep_elaboration.specs.WholeOffences.{in_decrement, in_increment, in_left_side, in_right, in_right_call}
use Rattle.ep_elaboration.specs.WholeRules.{is_assignment}
use Rattle.ep_elaboration.specs.WholeOffences.{in_right_side, in_step, in_stepped, in_test, in_value}
use Rattle.ep_elaboration.specs.WholeRules.{is_call, is_decrement, is_increment, is_no_call, is_only_value}
use Rattle.ep_elaboration.specs.WholeRules.{is_operand, is_result, is_step, is_test, is_value}
use Rattle.ep_elaboration.specs.WholeRules.{is_whole_assignment, is_whole_call, is_whole_step}
use Rattle.ep_typing.specs.Calls.{Called, called}
use Rattle.ep_typing.specs.Env.{Env}
use Rattle.ep_typing.specs.Operand.{tested, value, value_of}
use Rattle.ep_typing.specs.Results.{at, ◌>>=◌}
use Rattle.ep_typing.specs.Typing.{Right, an_object, assigned_from, assignment, call_typed, callee, one, read_first}
use Rattle.ep_typing.specs.Typing.{right_side, step_mark, stepped, test, typed, typed_all, whole_statement}
use Rattle.ep_typing.proofs.Order.{bind_ok, bind_err, at_ok, at_err, means, meant, refused, first, means_all}
use Rattle.ep_typing.proofs.Order.{meant_all, meant_callee, means_callee, refused_all, refused_callee, first_all}
use Rattle.ep_typing.proofs.Order.{first_callee, ok_is}

abbrev right_done : Right → Result Right Refusal
right_done y = Ok y

abbrev what_done : core.What → Result core.What Refusal
what_done w = Ok w

-- ---- which way an expression goes

data RightView : Bool → Expr → Type 0 where
  a_call : {l : ℕ} {f : Expr} {es : Exprs} → RightView true (call l f es)
  no_call : {c : Bool} {e : Expr} → is_no_call c e ≡ true → RightView c e

right_view : (c : Bool) (e : Expr) → RightView c e
right_view true (assign l m a b) = no_call refl
right_view true (conditional l a b d) = no_call refl
right_view true (binary l m a b) = no_call refl
right_view true (cast l n a) = no_call refl
right_view true (step l m a) = no_call refl
right_view true (unary l m a) = no_call refl
right_view true (sizeof_expr l a) = no_call refl
right_view true (sizeof_type l n) = no_call refl
right_view true (index l a b) = no_call refl
right_view true (call l f es) = a_call
right_view true (member l a n) = no_call refl
right_view true (arrow l a n) = no_call refl
right_view true (post_increment l a) = no_call refl
right_view true (post_decrement l a) = no_call refl
right_view true (id l n) = no_call refl
right_view true (number l n) = no_call refl
right_view false (assign l m a b) = no_call refl
right_view false (conditional l a b d) = no_call refl
right_view false (binary l m a b) = no_call refl
right_view false (cast l n a) = no_call refl
right_view false (step l m a) = no_call refl
right_view false (unary l m a) = no_call refl
right_view false (sizeof_expr l a) = no_call refl
right_view false (sizeof_type l n) = no_call refl
right_view false (index l a b) = no_call refl
right_view false (call l f es) = no_call refl
right_view false (member l a n) = no_call refl
right_view false (arrow l a n) = no_call refl
right_view false (post_increment l a) = no_call refl
right_view false (post_decrement l a) = no_call refl
right_view false (id l n) = no_call refl
right_view false (number l n) = no_call refl

right_other : (G : Env) (c : Bool) (e : Expr) → is_no_call c e ≡ true
    → right_side G c e ≡ (typed G e >>= (λ y. right_done (an_object y)))
unfolding right_side
right_other G true (assign l m a b) h = refl
right_other G true (conditional l a b d) h = refl
right_other G true (binary l m a b) h = refl
right_other G true (cast l n a) h = refl
right_other G true (step l m a) h = refl
right_other G true (unary l m a) h = refl
right_other G true (sizeof_expr l a) h = refl
right_other G true (sizeof_type l n) h = refl
right_other G true (index l a b) h = refl
right_other G true (call l f es) h = absurd cc
right_other G true (member l a n) h = refl
right_other G true (arrow l a n) h = refl
right_other G true (post_increment l a) h = refl
right_other G true (post_decrement l a) h = refl
right_other G true (id l n) h = refl
right_other G true (number l n) h = refl
right_other G false (assign l m a b) h = refl
right_other G false (conditional l a b d) h = refl
right_other G false (binary l m a b) h = refl
right_other G false (cast l n a) h = refl
right_other G false (step l m a) h = refl
right_other G false (unary l m a) h = refl
right_other G false (sizeof_expr l a) h = refl
right_other G false (sizeof_type l n) h = refl
right_other G false (index l a b) h = refl
right_other G false (call l f es) h = refl
right_other G false (member l a n) h = refl
right_other G false (arrow l a n) h = refl
right_other G false (post_increment l a) h = refl
right_other G false (post_decrement l a) h = refl
right_other G false (id l n) h = refl
right_other G false (number l n) h = refl

data WholeView : Bool → Expr → Type 0 where
  an_assignment : {c : Bool} {l m : ℕ} {a b : Expr} → WholeView c (assign l m a b)
  a_step : {c : Bool} {l m : ℕ} {a : Expr} → WholeView c (step l m a)
  an_increment : {c : Bool} {l : ℕ} {a : Expr} → WholeView c (post_increment l a)
  a_decrement : {c : Bool} {l : ℕ} {a : Expr} → WholeView c (post_decrement l a)
  a_whole_call : {l : ℕ} {f : Expr} {es : Exprs} → WholeView true (call l f es)
  a_value : {c : Bool} {e : Expr} → is_only_value c e ≡ true → WholeView c e

whole_view : (c : Bool) (e : Expr) → WholeView c e
whole_view true (assign l m a b) = an_assignment
whole_view true (conditional l a b d) = a_value refl
whole_view true (binary l m a b) = a_value refl
whole_view true (cast l n a) = a_value refl
whole_view true (step l m a) = a_step
whole_view true (unary l m a) = a_value refl
whole_view true (sizeof_expr l a) = a_value refl
whole_view true (sizeof_type l n) = a_value refl
whole_view true (index l a b) = a_value refl
whole_view true (call l f es) = a_whole_call
whole_view true (member l a n) = a_value refl
whole_view true (arrow l a n) = a_value refl
whole_view true (post_increment l a) = an_increment
whole_view true (post_decrement l a) = a_decrement
whole_view true (id l n) = a_value refl
whole_view true (number l n) = a_value refl
whole_view false (assign l m a b) = an_assignment
whole_view false (conditional l a b d) = a_value refl
whole_view false (binary l m a b) = a_value refl
whole_view false (cast l n a) = a_value refl
whole_view false (step l m a) = a_step
whole_view false (unary l m a) = a_value refl
whole_view false (sizeof_expr l a) = a_value refl
whole_view false (sizeof_type l n) = a_value refl
whole_view false (index l a b) = a_value refl
whole_view false (call l f es) = a_value refl
whole_view false (member l a n) = a_value refl
whole_view false (arrow l a n) = a_value refl
whole_view false (post_increment l a) = an_increment
whole_view false (post_decrement l a) = a_decrement
whole_view false (id l n) = a_value refl
whole_view false (number l n) = a_value refl

whole_other : (G : Env) (c : Bool) (e : Expr) → is_only_value c e ≡ true
    → whole_statement G c e ≡ (test G e >>= (λ w. what_done (core.simple (core.eval w))))
unfolding whole_statement
whole_other G true (assign l m a b) h = absurd cc
whole_other G true (conditional l a b d) h = refl
whole_other G true (binary l m a b) h = refl
whole_other G true (cast l n a) h = refl
whole_other G true (step l m a) h = absurd cc
whole_other G true (unary l m a) h = refl
whole_other G true (sizeof_expr l a) h = refl
whole_other G true (sizeof_type l n) h = refl
whole_other G true (index l a b) h = refl
whole_other G true (call l f es) h = absurd cc
whole_other G true (member l a n) h = refl
whole_other G true (arrow l a n) h = refl
whole_other G true (post_increment l a) h = absurd cc
whole_other G true (post_decrement l a) h = absurd cc
whole_other G true (id l n) h = refl
whole_other G true (number l n) h = refl
whole_other G false (assign l m a b) h = absurd cc
whole_other G false (conditional l a b d) h = refl
whole_other G false (binary l m a b) h = refl
whole_other G false (cast l n a) h = refl
whole_other G false (step l m a) h = absurd cc
whole_other G false (unary l m a) h = refl
whole_other G false (sizeof_expr l a) h = refl
whole_other G false (sizeof_type l n) h = refl
whole_other G false (index l a b) h = refl
whole_other G false (call l f es) h = refl
whole_other G false (member l a n) h = refl
whole_other G false (arrow l a n) h = refl
whole_other G false (post_increment l a) h = absurd cc
whole_other G false (post_decrement l a) h = absurd cc
whole_other G false (id l n) h = refl
whole_other G false (number l n) h = refl

pub meant_test : {G : Env} {e : Expr} {out : core.Expr} → MeansTest G e out → test G e ≡ Ok out
unfolding test
meant_test (is_test {G = G} {e = e} x v w p0 p1 p2) = rw (meant G e x p0, p1, p2) refl

pub means_test : (G : Env) (e : Expr) (out : core.Expr) → test G e ≡ Ok out → MeansTest G e out
unfolding test
means_test G e out hyp =
    let q0 = bind_ok (typed G e) _ out hyp in
    let q1 = bind_ok (at (line_of e) (value_of G.types q0.0)) _ out q0.2 in
    is_test q0.0 q1.0 out (means G e q0.0 q0.1) (at_ok (line_of e) (value_of G.types q0.0) q1.0 q1.1) (at_ok
    (line_of e) (tested q1.0) out q1.2)

pub offended_test : {G : Env} {e : Expr} {r : Refusal} → TestOffends G e r → test G e ≡ Err r
unfolding test
offended_test (in_test {G = G} {e = e} {r = r} broken) = rw (first G e r broken) refl
offended_test (bad_test_value {G = G} {e = e} x p0 broken) = rw (meant G e x p0, broken) refl
offended_test (bad_test {G = G} {e = e} x v p0 p1 broken) = rw (meant G e x p0, p1, broken) refl

pub refused_test : (G : Env) (e : Expr) (r : Refusal) → test G e ≡ Err r → TestOffends G e r
unfolding test
refused_test G e r hyp = elim (bind_err (typed G e) _ r hyp) [
  | inl h0 ↦ in_test (refused G e r h0)
  | inr w0 ↦ elim (bind_err (at (line_of e) (value_of G.types w0.0)) _ r w0.2) [
    | inl h1 ↦ let kind = at_err (line_of e) (value_of G.types w0.0) r h1 in subst (TestOffends G e) kind.2
        (bad_test_value w0.0 (means G e w0.0 w0.1) kind.1)
    | inr w1 ↦ let kind = at_err (line_of e) (tested w1.0) r w1.2 in subst (TestOffends G e) kind.2
        (bad_test w0.0 w1.0 (means G e w0.0 w0.1) (at_ok (line_of e) (value_of G.types w0.0) w1.0 w1.1) kind.1)
  ]
]

pub meant_call_typed : {G : Env} {l : ℕ} {f : Expr} {es : Exprs} {out : Called} → MeansCall G l f es out
    → call_typed G l f es ≡ Ok out
unfolding call_typed
meant_call_typed (is_call {G = G} {l = l} {f = f} {es = es} x vs c p0 p1 p2) =
    rw (meant_callee G f x p0, meant_all G l es vs p1, p2) refl

pub means_call_typed : (G : Env) (l : ℕ) (f : Expr) (es : Exprs) (out : Called) → call_typed G l f es ≡ Ok out
    → MeansCall G l f es out
unfolding call_typed
means_call_typed G l f es out hyp =
    let q0 = bind_ok (callee G f (typed G f)) _ out hyp in
    let q1 = bind_ok (typed_all G l es) _ out q0.2 in
    is_call q0.0 q1.0 out (means_callee G f q0.0 q0.1) (means_all G l es q1.0 q1.1) (at_ok l (called G q0.0 q1.0) out q1.2)

pub offended_call_typed : {G : Env} {l : ℕ} {f : Expr} {es : Exprs} {r : Refusal} → CallOffends G l f es r
    → call_typed G l f es ≡ Err r
unfolding call_typed
offended_call_typed (in_callee {G = G} {f = f} {r = r} broken) = rw (first_callee G f r broken) refl
offended_call_typed (in_arguments {G = G} {l = l} {f = f} {es = es} {r = r} x p0 broken) =
    rw (meant_callee G f x p0, first_all G l es r broken) refl
offended_call_typed (bad_call {G = G} {l = l} {f = f} {es = es} x vs p0 p1 broken) =
    rw (meant_callee G f x p0, meant_all G l es vs p1, broken) refl

pub refused_call_typed : (G : Env) (l : ℕ) (f : Expr) (es : Exprs) (r : Refusal) → call_typed G l f es ≡ Err r
    → CallOffends G l f es r
unfolding call_typed
refused_call_typed G l f es r hyp = elim (bind_err (callee G f (typed G f)) _ r hyp) [
  | inl h0 ↦ in_callee (refused_callee G f r h0)
  | inr w0 ↦ elim (bind_err (typed_all G l es) _ r w0.2) [
    | inl h1 ↦ in_arguments w0.0 (means_callee G f w0.0 w0.1) (refused_all G l es r h1)
    | inr w1 ↦ let kind = at_err l (called G w0.0 w1.0) r w1.2 in subst (CallOffends G l f es) kind.2
        (bad_call w0.0 w1.0 (means_callee G f w0.0 w0.1) (means_all G l es w1.0 w1.1) kind.1)
  ]
]

pub meant_right_side : {G : Env} {c : Bool} {e : Expr} {out : Right} → MeansRight G c e out
    → right_side G c e ≡ Ok out
unfolding right_side
meant_right_side (is_result c p0) = rw (meant_call_typed p0) refl
meant_right_side (is_operand {G = G} {c = c} {e = e} y cond p0) = rw (right_other G c e cond, meant G e y p0) refl

means_right_by : (G : Env) (c : Bool) (e : Expr) (out : Right) → RightView c e → right_side G c e ≡ Ok out
    → MeansRight G c e out
unfolding right_side
means_right_by G true (call l f es) out a_call hyp =
    let q0 = bind_ok (call_typed G l f es) _ out hyp in
    subst (MeansRight G true (call l f es)) (ok_is _ out q0.2) (is_result q0.0 (means_call_typed G l f es q0.0 q0.1))
means_right_by G c e out (no_call h) hyp =
    let q0 = bind_ok (typed G e) _ out (sym (right_other G c e h) ∙ hyp) in
    subst (MeansRight G c e) (ok_is _ out q0.2) (is_operand q0.0 h (means G e q0.0 q0.1))

pub means_right_side : (G : Env) (c : Bool) (e : Expr) (out : Right) → right_side G c e ≡ Ok out
    → MeansRight G c e out
means_right_side G c e out hyp = means_right_by G c e out (right_view c e) hyp

pub offended_right_side : {G : Env} {c : Bool} {e : Expr} {r : Refusal} → RightOffends G c e r
    → right_side G c e ≡ Err r
unfolding right_side
offended_right_side (in_right_call broken) = rw (offended_call_typed broken) refl
offended_right_side (in_right_side {G = G} {c = c} {e = e} {r = r} cond broken) =
    rw (right_other G c e cond, first G e r broken) refl

refused_right_by : (G : Env) (c : Bool) (e : Expr) (r : Refusal) → RightView c e → right_side G c e ≡ Err r
    → RightOffends G c e r
unfolding right_side
refused_right_by G true (call l f es) r a_call hyp = elim (bind_err (call_typed G l f es) _ r hyp) [
  | inl h ↦ in_right_call (refused_call_typed G l f es r h)
  | inr w ↦ absurd (let bad = w.2 in cc)
]
refused_right_by G c e r (no_call n) hyp = elim (bind_err (typed G e) _ r (sym (right_other G c e n) ∙ hyp)) [
  | inl h ↦ in_right_side n (refused G e r h)
  | inr w ↦ absurd (let bad = w.2 in cc)
]

pub refused_right_side : (G : Env) (c : Bool) (e : Expr) (r : Refusal) → right_side G c e ≡ Err r
    → RightOffends G c e r
refused_right_side G c e r hyp = refused_right_by G c e r (right_view c e) hyp

pub meant_assignment : {G : Env} {c : Bool} {l m : ℕ} {a b : Expr} {out : core.What} → MeansAssignment G c l m a b out
    → assignment G c l m a b ≡ Ok out
unfolding assignment
meant_assignment (is_assignment {G = G} {a = a} x old y w p0 p1 p2 p3) =
    rw (meant G a x p0, p1, meant_right_side p2, p3) refl

pub means_assignment : (G : Env) (c : Bool) (l : ℕ) (m : ℕ) (a : Expr) (b : Expr) (out : core.What)
    → assignment G c l m a b ≡ Ok out → MeansAssignment G c l m a b out
unfolding assignment
means_assignment G c l m a b out hyp =
    let q0 = bind_ok (typed G a) _ out hyp in
    let q1 = bind_ok (at l (read_first G.types m q0.0)) _ out q0.2 in
    let q2 = bind_ok (right_side G (c && m == equal) b) _ out q1.2 in
    is_assignment q0.0 q1.0 q2.0 out (means G a q0.0 q0.1) (at_ok l (read_first G.types m q0.0) q1.0 q1.1)
    (means_right_side G (c && m == equal) b q2.0 q2.1) (at_ok l (assigned_from G.types m q0.0 q1.0 q2.0) out q2.2)

pub offended_assignment : {G : Env} {c : Bool} {l m : ℕ} {a b : Expr} {r : Refusal} → AssignmentOffends G c l m a b r
    → assignment G c l m a b ≡ Err r
unfolding assignment
offended_assignment (in_left_side {G = G} {a = a} {r = r} broken) = rw (first G a r broken) refl
offended_assignment (bad_left_value {G = G} {a = a} x p0 broken) = rw (meant G a x p0, broken) refl
offended_assignment (in_right {G = G} {a = a} x old p0 p1 broken) =
    rw (meant G a x p0, p1, offended_right_side broken) refl
offended_assignment (bad_assignment {G = G} {a = a} x old y p0 p1 p2 broken) =
    rw (meant G a x p0, p1, meant_right_side p2, broken) refl

pub refused_assignment : (G : Env) (c : Bool) (l : ℕ) (m : ℕ) (a : Expr) (b : Expr) (r : Refusal)
    → assignment G c l m a b ≡ Err r → AssignmentOffends G c l m a b r
unfolding assignment
refused_assignment G c l m a b r hyp = elim (bind_err (typed G a) _ r hyp) [
  | inl h0 ↦ in_left_side (refused G a r h0)
  | inr w0 ↦ elim (bind_err (at l (read_first G.types m w0.0)) _ r w0.2) [
    | inl h1 ↦ let kind = at_err l (read_first G.types m w0.0) r h1 in subst (AssignmentOffends G c l m a b) kind.2
        (bad_left_value w0.0 (means G a w0.0 w0.1) kind.1)
    | inr w1 ↦ elim (bind_err (right_side G (c && m == equal) b) _ r w1.2) [
      | inl h2 ↦ in_right w0.0 w1.0 (means G a w0.0 w0.1) (at_ok l (read_first G.types m w0.0) w1.0 w1.1)
          (refused_right_side G (c && m == equal) b r h2)
      | inr w2 ↦ let kind = at_err l (assigned_from G.types m w0.0 w1.0 w2.0) r w2.2 in subst
          (AssignmentOffends G c l m a b) kind.2 (bad_assignment w0.0 w1.0 w2.0 (means G a w0.0 w0.1) (at_ok l
          (read_first G.types m w0.0) w1.0 w1.1) (means_right_side G (c && m == equal) b w2.0 w2.1) kind.1)
    ]
  ]
]

pub meant_stepped : {G : Env} {l m : ℕ} {a : Expr} {out : core.What} → MeansStep G l m a out
    → stepped G l m a ≡ Ok out
unfolding stepped
meant_stepped (is_step {G = G} {a = a} x old w p0 p1 p2) = rw (meant G a x p0, p1, p2) refl

pub means_stepped : (G : Env) (l : ℕ) (m : ℕ) (a : Expr) (out : core.What) → stepped G l m a ≡ Ok out
    → MeansStep G l m a out
unfolding stepped
means_stepped G l m a out hyp =
    let q0 = bind_ok (typed G a) _ out hyp in
    let q1 = bind_ok (at l (read_first G.types m q0.0)) _ out q0.2 in
    is_step q0.0 q1.0 out (means G a q0.0 q0.1) (at_ok l (read_first G.types m q0.0) q1.0 q1.1) (at_ok l
    (assigned_from G.types m q0.0 q1.0 (an_object (value one))) out q1.2)

pub offended_stepped : {G : Env} {l m : ℕ} {a : Expr} {r : Refusal} → StepOffends G l m a r → stepped G l m a ≡ Err r
unfolding stepped
offended_stepped (in_stepped {G = G} {a = a} {r = r} broken) = rw (first G a r broken) refl
offended_stepped (bad_stepped_value {G = G} {a = a} x p0 broken) = rw (meant G a x p0, broken) refl
offended_stepped (bad_step {G = G} {a = a} x old p0 p1 broken) = rw (meant G a x p0, p1, broken) refl

pub refused_stepped : (G : Env) (l : ℕ) (m : ℕ) (a : Expr) (r : Refusal) → stepped G l m a ≡ Err r
    → StepOffends G l m a r
unfolding stepped
refused_stepped G l m a r hyp = elim (bind_err (typed G a) _ r hyp) [
  | inl h0 ↦ in_stepped (refused G a r h0)
  | inr w0 ↦ elim (bind_err (at l (read_first G.types m w0.0)) _ r w0.2) [
    | inl h1 ↦ let kind = at_err l (read_first G.types m w0.0) r h1 in subst (StepOffends G l m a) kind.2
        (bad_stepped_value w0.0 (means G a w0.0 w0.1) kind.1)
    | inr w1 ↦ let kind = at_err l (assigned_from G.types m w0.0 w1.0 (an_object (value one))) r w1.2 in subst
        (StepOffends G l m a) kind.2 (bad_step w0.0 w1.0 (means G a w0.0 w0.1) (at_ok l
        (read_first G.types m w0.0) w1.0 w1.1) kind.1)
  ]
]

pub meant_whole_statement : {G : Env} {c : Bool} {e : Expr} {out : core.What} → MeansWhole G c e out
    → whole_statement G c e ≡ Ok out
unfolding whole_statement
meant_whole_statement (is_whole_assignment w p0) = rw (meant_assignment p0) refl
meant_whole_statement (is_whole_step w p0) = rw (meant_stepped p0) refl
meant_whole_statement (is_increment w p0) = rw (meant_stepped p0) refl
meant_whole_statement (is_decrement w p0) = rw (meant_stepped p0) refl
meant_whole_statement (is_whole_call f0 p0) = rw (meant_call_typed p0) refl
meant_whole_statement (is_value {G = G} {c = c} {e = e} w cond p0) = rw (whole_other G c e cond, meant_test p0) refl

means_whole_by : (G : Env) (c : Bool) (e : Expr) (out : core.What) → WholeView c e → whole_statement G c e ≡ Ok out
    → MeansWhole G c e out
unfolding whole_statement
means_whole_by G c (assign l m a b) out an_assignment hyp =
    is_whole_assignment out (means_assignment G c l m a b out hyp)
means_whole_by G c (step l m a) out a_step hyp = is_whole_step out (means_stepped G l (step_mark m) a out hyp)
means_whole_by G c (post_increment l a) out an_increment hyp =
    is_increment out (means_stepped G l marks.plus_equal a out hyp)
means_whole_by G c (post_decrement l a) out a_decrement hyp =
    is_decrement out (means_stepped G l marks.minus_equal a out hyp)
means_whole_by G true (call l f es) out a_whole_call hyp =
    let q0 = bind_ok (call_typed G l f es) _ out hyp in
    subst (MeansWhole G true (call l f es)) (ok_is _ out q0.2)
    (is_whole_call q0.0 (means_call_typed G l f es q0.0 q0.1))
means_whole_by G c e out (a_value h) hyp =
    let q0 = bind_ok (test G e) _ out (sym (whole_other G c e h) ∙ hyp) in
    subst (MeansWhole G c e) (ok_is _ out q0.2) (is_value q0.0 h (means_test G e q0.0 q0.1))

pub means_whole_statement : (G : Env) (c : Bool) (e : Expr) (out : core.What) → whole_statement G c e ≡ Ok out
    → MeansWhole G c e out
means_whole_statement G c e out hyp = means_whole_by G c e out (whole_view c e) hyp

pub offended_whole_statement : {G : Env} {c : Bool} {e : Expr} {r : Refusal} → WholeOffends G c e r
    → whole_statement G c e ≡ Err r
unfolding whole_statement
offended_whole_statement (in_assignment broken) = rw (offended_assignment broken) refl
offended_whole_statement (in_step broken) = rw (offended_stepped broken) refl
offended_whole_statement (in_increment broken) = rw (offended_stepped broken) refl
offended_whole_statement (in_decrement broken) = rw (offended_stepped broken) refl
offended_whole_statement (in_call broken) = rw (offended_call_typed broken) refl
offended_whole_statement (in_value {G = G} {c = c} {e = e} cond broken) =
    rw (whole_other G c e cond, offended_test broken) refl

refused_whole_by : (G : Env) (c : Bool) (e : Expr) (r : Refusal) → WholeView c e → whole_statement G c e ≡ Err r
    → WholeOffends G c e r
unfolding whole_statement
refused_whole_by G c (assign l m a b) r an_assignment hyp = in_assignment (refused_assignment G c l m a b r hyp)
refused_whole_by G c (step l m a) r a_step hyp = in_step (refused_stepped G l (step_mark m) a r hyp)
refused_whole_by G c (post_increment l a) r an_increment hyp =
    in_increment (refused_stepped G l marks.plus_equal a r hyp)
refused_whole_by G c (post_decrement l a) r a_decrement hyp =
    in_decrement (refused_stepped G l marks.minus_equal a r hyp)
refused_whole_by G true (call l f es) r a_whole_call hyp = elim (bind_err (call_typed G l f es) _ r hyp) [
  | inl h ↦ in_call (refused_call_typed G l f es r h)
  | inr w ↦ absurd (let bad = w.2 in cc)
]
refused_whole_by G c e r (a_value n) hyp = elim (bind_err (test G e) _ r (sym (whole_other G c e n) ∙ hyp)) [
  | inl h ↦ in_value n (refused_test G e r h)
  | inr w ↦ absurd (let bad = w.2 in cc)
]

pub refused_whole_statement : (G : Env) (c : Bool) (e : Expr) (r : Refusal) → whole_statement G c e ≡ Err r
    → WholeOffends G c e r
refused_whole_statement G c e r hyp = refused_whole_by G c e r (whole_view c e) hyp
