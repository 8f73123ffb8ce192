-- Calls.
use Rattle.std.proofs.Common.{◌≡◌, ℕ, suc, ◌<◌, List, [], ◌∷◌, ◌++◌, map, slice_get, Option, Some, None, option_to_list}
use Rattle.ep_int.proofs.Basics.{slice_get-here}
use Rattle.std.proofs.lemmas.Option.{slice_get-map, slice_get_past}
use Rattle.std.proofs.Common.{Bool, true, false, nat_lt, if◌then◌else◌, length, get_or, ◌≤◌, arith, refl, sym, ap}
use Rattle.std.proofs.Common.{◌∙◌, subst}
use Rattle.std.specs.Option.{option_map}
use Rattle.ep_int.specs.declared.types.Scalar.{Scalar}
use Rattle.std.specs.List.{AllByRecursion}
use Rattle.ep_int.specs.Memory.{Memory, Value, Kind, Found, has, faults}
use Rattle.ep_bytes.specs.declared.types.Datum.{Datum}
use Rattle.ep_bytes.specs.View.{value_in}
use Rattle.ep_core.specs.declared.tree.Expr as tree
use Rattle.ep_core.specs.declared.program.Function as function
use Rattle.ep_core.specs.Program.{Expr, Dest, Function, call}
use Rattle.ep_core.specs.Exec.{State, Outcome, undefined_at, Going, counted, Values, have, stops, first_of, frame_of}
use Rattle.ep_core.specs.Exec.{callee_of, values, bound, called, call_of, without}
use Rattle.ep_core.specs.Exec.{entered, first_and, given_all, result_in, value}
use Rattle.ep_core.specs.Typed.{AllOperandsFit, ArgumentsFit, CallOperandsFit, IfHas, ValueFits}
use Rattle.ep_core.specs.WellFormed.{is_well_formed}
use Rattle.ep_core.specs.View.{expr_view, function_view, stmts_view}
use Rattle.ep_core.proofs.Bodies.{bodies_at, callee_is}
use Rattle.ep_core.proofs.Operands.{statements_fit}
use Rattle.ep_machine.specs.declared.setting.Setting.{Setting}
use Rattle.ep_machine.specs.Settings.{program_in, ExprFits}
use Rattle.ep_machine.proofs.Kills.{killed_append}
use Rattle.ep_frames.specs.Arguments.{AreBound}
use Rattle.ep_frames.specs.Stack.{list_of, one_of, InEach, ListFits, OneFits}
use Rattle.std.proofs.lemmas.Bool.Decides.{nat_tests}

module _ (m : Setting) where
  -- a call of a function that stands before
  pub call_is : (here k : ℕ) (f : function.Function) → k < here
      → slice_get (program_in m).functions k ≡ Some (function_view f)
      → (es : List Expr) (d : Option Dest) (l left : ℕ) (s : State)
      → one_of m here (call k es d) l (suc left) s
      ≡ call_of m.order (program_in m) (Some (function_view f)) (list_of m k f.body.items) es d l left s
  call_is here k f lt e es d l left s =
      rw (callee_is m.order (program_in m) counted here k (function_view f) lt e, bodies_at m.order (program_in m) counted here k lt, e) refl

  pub enter_done : (f : Function) (body : Going) (es : List Expr) (d : Option Dest) (l left : ℕ) (s r q : State)
      (vs : List Value) (y : (State → Outcome) → Outcome) → r ≡ without (first_of (option_to_list f.result)) s
      → values m.order (program_in m) es r.memory ≡ have vs → q ≡ without (frame_of f) r
      → ((go : State → Outcome) → bound m.order (program_in m) f.params vs l q go ≡ y go)
      → call_of m.order (program_in m) (Some f) body es d l left s
      ≡ y (λ x. called m.order (program_in m) f d l (body left x))
  enter_done f body es d l left s r q vs y er ev eq h =
      let o = m.order in
      let p = program_in m in
      let go : State → Outcome = λ x. called o p f d l (body left x) in
      ap (λ z. entered o p f body es d l left z) (sym er)
      ∙ ap (λ us. given_all us l r (λ us. bound o p f.params us l (without (frame_of f) r) go)) ev
      ∙ ap (λ z. bound o p f.params vs l z go) (sym eq) ∙ h go

  pub enter_stops : (f : Function) (body : Going) (es : List Expr) (d : Option Dest) (l left : ℕ) (s r : State)
      (k : Kind) → r ≡ without (first_of (option_to_list f.result)) s
      → values m.order (program_in m) es r.memory ≡ stops k
      → call_of m.order (program_in m) (Some f) body es d l left s ≡ undefined_at l k r
  enter_stops f body es d l left s r k er ev =
      let o = m.order in
      let p = program_in m in
      ap (λ z. entered o p f body es d l left z) (sym er)
      ∙ ap (λ us. given_all us l r (λ us. bound o p f.params us l (without (frame_of f) r)
      (λ x. called o p f d l (body left x)))) ev

  -- parameters and locals become undefined, one list after the other
  pub frame_gone : (ps qs : List (ℕ × Scalar)) (ls ks : List ℕ) (r s q : State) → qs ≡ ps → ks ≡ ls
      → s ≡ without (first_of qs) r → q ≡ without ks s → q ≡ without (first_of ps ++ ls) r
  frame_gone ps qs ls ks r s q ep el es eq =
      eq ∙ ap (without ks) es
      ∙ ap (λ x. record r { memory = x }) (killed_append (first_of qs) ks r.memory)
      ∙ ap (λ (zs : List (ℕ × Scalar)). without (first_of zs ++ ks) r) ep
      ∙ ap (λ zs. without (first_of ps ++ zs) r) el

  pub bound_as : (ps qs : List (ℕ × Scalar)) (vs ws : List Datum) (l : ℕ) (s : State) (go : State → Outcome) → qs ≡ ps
      → ws ≡ vs
      → bound m.order (program_in m) ps (map value_in vs) l s go ≡ bound m.order (program_in m) qs (map value_in ws) l s go
  bound_as ps qs vs ws l s go ep ev = rw (sym ep, sym ev) refl

  -- ---- arguments fit their parameters

  pub arguments_typed : (x : Memory) (bs : List (ℕ × Scalar)) (es : List tree.Expr)
      → ArgumentsFit m.order (program_in m) x bs (map expr_view es)
      → AllByRecursion (λ e. ExprFits m x (expr_view e)) es
  arguments_typed x [] [] h = tt
  arguments_typed x [] (e ∷ es) h = absurd h
  arguments_typed x (b ∷ bs) [] h = absurd h
  arguments_typed x (b ∷ bs) (e ∷ es) h = (h.0.0, arguments_typed x bs es h.1)

  record Parts (f : Found) (vs : Values) (w : Value) (ws : List Value) : Type 0 where
    head : f ≡ has w
    tail : vs ≡ have ws

  in_parts : (f : Found) (vs : Values) (w : Value) (ws : List Value) → first_and f vs ≡ have (w ∷ ws) → Parts f vs w ws
  in_parts (has v) (have us) w ws e = record { head = cc; tail = cc }
  in_parts (has v) (stops k) w ws e = absurd cc
  in_parts (faults k) us w ws e = absurd cc

  pub arguments_bound : (x : Memory) (bs : List (ℕ × Scalar)) (es : List Expr) (all : List Datum)
      → ArgumentsFit m.order (program_in m) x bs es → values m.order (program_in m) es x ≡ have (map value_in all)
      → AreBound (program_in m) bs all
  arguments_bound x [] es all h e = tt
  arguments_bound x (b ∷ bs) [] all h e = absurd h
  arguments_bound x (b ∷ bs) (a ∷ es) [] h e = tt
  arguments_bound x (b ∷ bs) (a ∷ es) (v ∷ all) h e =
      let q = in_parts (value m.order (program_in m) a x) (values m.order (program_in m) es x) (value_in v) (map value_in all) e in
      (subst (λ f. IfHas f (ValueFits (program_in m) b.1)) q.head h.0.1, arguments_bound x bs es all h.1 q.tail)

  -- a function that stands at its number
  pub function_at : (fs : List function.Function) (k : ℕ) (f : function.Function) → k < length fs → f ≡ get_or fs k f
      → slice_get (map function_view fs) k ≡ Some (function_view f)
  function_at fs k f h e = slice_get-map function_view fs k ∙ ap (option_map function_view) (slice_get-here fs k f h e)

  -- what is called fits, and the body does
  pub call_fits : (here k : ℕ) (f : function.Function) → k < here
      → slice_get (program_in m).functions k ≡ Some (function_view f) → (es : List Expr) (d : Option Dest)
      → OneFits m here (call k es d)
      → InEach m (λ x. CallOperandsFit m.order (program_in m) x (Some (function_view f)) es d)
  call_fits here k f lt e es d h x g =
      subst (λ o. CallOperandsFit m.order (program_in m) x o es d)
      (callee_is m.order (program_in m) counted here k (function_view f) lt e) (h x g)

  pub body_fits : is_well_formed (program_in m) ≡ true → (k : ℕ) (f : function.Function)
      → slice_get (program_in m).functions k ≡ Some (function_view f) → ListFits m k f.body.items
  body_fits w k f e x g =
      subst (λ o. AllOperandsFit m.order (program_in m) x k (result_in o) (stmts_view f.body.items)) (sym e)
      (statements_fit (program_in m) w m.order x g k (function_view f) e)

  -- a function that isn't slice_get-here
  pub call_none : (here k : ℕ) → slice_get (program_in m).functions k ≡ None → callee_of (program_in m) here k ≡ None
  call_none here k e = by_test (nat_lt k here)
    where
      by_test : (t : Bool) → (if t then slice_get (program_in m).functions k else None) ≡ None
      by_test true = e
      by_test false = refl

not_below : (k n : ℕ) → false ≡ nat_lt k n → n ≤ k
not_below k n h = grind (arith, nat_tests)

pub function_missing : (fs : List function.Function) (k : ℕ) → false ≡ nat_lt k (length fs)
    → slice_get (map function_view fs) k ≡ None
function_missing fs k h = slice_get-map function_view fs k ∙ ap (option_map function_view) (slice_get_past fs k (not_below k (length fs) h))
