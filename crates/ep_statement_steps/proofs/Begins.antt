-- Statements that hold lists.
use Rattle.std.proofs.Common.{◌≡◌, ℕ, suc, Bool, true, false, List, sym, ap, ◌∙◌, subst}
use Rattle.std.specs.declared.alloc.Global.{Global}
use Rattle.std.specs.declared.vec.Vec.{Vec}
use Rattle.ep_int.specs.declared.types.Order.{Order}
use Rattle.ep_core.specs.declared.tree.Expr as tree
use Rattle.ep_core.specs.declared.tree.Stmt.{Stmt}
use Rattle.ep_core.specs.declared.tree.What.TheVariants.{If, Loop, ByOrder}
use Rattle.ep_core.specs.Exec.{State, Outcome, arm_left, chosen, counted, either, first_turn, given, is_order, is_true}
use Rattle.ep_core.specs.Exec.{around, looped}
use Rattle.ep_core.specs.Exec.{does}
use Rattle.ep_core.specs.Program.{Simple, What, simple, if_else, loop, by_order, scope, Stmts}
use Rattle.ep_core.specs.Typed.{MemoryFits, OperandsFit, SimpleOperandsFit, WhatOperandsFit}
use Rattle.ep_int.specs.Memory.{Memory}
use Rattle.ep_core.specs.View.{expr_view, stmts_view, what_view}
use Rattle.ep_core.proofs.Around.{first_is}
use Rattle.ep_core.proofs.Views.{if_is, loop_is, by_order_is}
use Rattle.ep_machine.specs.declared.setting.Setting.{Setting}
use Rattle.ep_machine.specs.Settings.{program_in, value_on}
use Rattle.ep_frames.specs.declared.frames.Frame.{Frame}
use Rattle.ep_frames.specs.Stack.{one_of, list_of, piled, result_at, takes_step, InEach, OneFits, ListFits}
use Rattle.ep_frames.proofs.Rounds.{list_grows}

module _ (m : Setting) (here : ℕ) where
  -- what a statement does, with a step
  pub if_does : (e : tree.Expr) (a b : Vec Stmt Global) (xs ys : List Stmt) → xs ≡ a.items → ys ≡ b.items
      → (l left : ℕ) (s : State)
      → given (value_on m (expr_view e) s.memory) l s
      (λ v. either (is_true v) (list_of m here xs) (list_of m here ys) left s)
      ≡ one_of m here (what_view (If e a b)) l (suc left) s
  if_does e a b xs ys ea eb l left s =
      let v = value_on m (expr_view e) s.memory in
      ap (λ zs. given v l s (λ v. either (is_true v) (list_of m here zs) (list_of m here ys) left s)) ea
      ∙ ap (λ zs. given v l s (λ v. either (is_true v) (list_of m here a.items) (list_of m here zs) left s)) eb
      ∙ sym (ap (λ w. one_of m here w l (suc left) s) (if_is e a b))

  pub loop_does : (first : Bool) (e : tree.Expr) (a b : Vec Stmt Global) (xs ys : List Stmt) → xs ≡ a.items
      → ys ≡ b.items → (l left : ℕ) (s : State)
      → first_turn counted first (list_of m here xs) (list_of m here ys)
      (around (value_on m (expr_view e)) l (list_of m here xs) (list_of m here ys)) left s
      ≡ one_of m here (what_view (Loop first e a b)) l (suc left) s
  loop_does first e a b xs ys ea eb l left s =
      let test = value_on m (expr_view e) in
      sym (first_is test l (list_of m here xs) (list_of m here ys) (list_grows m here xs) (list_grows m here ys) first left s)
      ∙ ap (λ zs. first_turn counted first (list_of m here zs) (list_of m here ys)
      (looped counted (suc left) test l (list_of m here zs) (list_of m here ys)) left s) ea
      ∙ ap (λ zs. first_turn counted first (list_of m here a.items) (list_of m here zs)
      (looped counted (suc left) test l (list_of m here a.items) (list_of m here zs)) left s) eb
      ∙ sym (ap (λ w. one_of m here w l (suc left) s) (loop_is first e a b))

  pub arm_does : (o : Order) (a b : Vec Stmt Global) (xs ys : List Stmt) → xs ≡ a.items → ys ≡ b.items
      → (l left : ℕ) (s : State)
      → arm_left s.joint_tests (chosen (is_order m.order o) (list_of m here xs) (list_of m here ys) left s)
      ≡ one_of m here (what_view (ByOrder o a b)) l (suc left) s
  arm_does o a b xs ys ea eb l left s =
      ap (λ zs. arm_left s.joint_tests (chosen (is_order m.order o) (list_of m here zs) (list_of m here ys) left s)) ea
      ∙ ap (λ zs. arm_left s.joint_tests (chosen (is_order m.order o) (list_of m here a.items) (list_of m here zs) left s)) eb
      ∙ sym (ap (λ w. one_of m here w l (suc left) s) (by_order_is o a b))

  pub loop_test : (first : Bool) (e : tree.Expr) (a b : Vec Stmt Global) → OneFits m here (what_view (Loop first e a b))
      → InEach m (λ x. OperandsFit m.order (program_in m) x (expr_view e))
  loop_test first e a b h =
      let k : OneFits m here (loop first (expr_view e) (stmts_view a.items) (stmts_view b.items))
      = subst (OneFits m here) (loop_is first e a b) h in
      λ x f. (k x f).0

  pub if_test : (e : tree.Expr) (a b : Vec Stmt Global) → OneFits m here (what_view (If e a b))
      → InEach m (λ x. OperandsFit m.order (program_in m) x (expr_view e))
  if_test e a b h =
      let k : OneFits m here (if_else (expr_view e) (stmts_view a.items) (stmts_view b.items))
      = subst (OneFits m here) (if_is e a b) h in
      λ x f. (k x f).0

  -- a statement without statements in it
  pub simple_fits : (x : Memory) (w : What) (v : Simple) → w ≡ simple v → MemoryFits (program_in m) x
      → OneFits m here w → SimpleOperandsFit m.order (program_in m) x (result_at m here) v
  simple_fits x w v e f h = subst (λ u. WhatOperandsFit m.order (program_in m) x here (result_at m here) u) e (h x f)

  pub simple_does : (w : What) (v : Simple) → w ≡ simple v → (l left : ℕ) (s : State) (fs : List Frame) (x : Outcome)
      → x ≡ does m.order (program_in m) counted (result_at m here) v l left s
      → piled m fs x ≡ piled m fs (one_of m here w l (suc left) s)
  simple_does w v e l left s fs x h = ap (piled m fs) (h ∙ sym (ap (λ u. one_of m here u l (suc left) s) e))

  -- the statements in a statement fit where it does
  pub if_fits : (e : tree.Expr) (a b : Vec Stmt Global) (xs ys : List Stmt) → xs ≡ a.items → ys ≡ b.items
      → OneFits m here (what_view (If e a b)) → ListFits m here xs × ListFits m here ys
  if_fits e a b xs ys ea eb h =
      let k : OneFits m here (if_else (expr_view e) (stmts_view a.items) (stmts_view b.items))
      = subst (OneFits m here) (if_is e a b) h in
      rw (ea, eb) ((λ x f. (k x f).1), (λ x f. (k x f).2))

  pub loop_fits : (first : Bool) (e : tree.Expr) (a b : Vec Stmt Global) (xs ys : List Stmt) → xs ≡ a.items
      → ys ≡ b.items → OneFits m here (what_view (Loop first e a b)) → ListFits m here xs × ListFits m here ys
  loop_fits first e a b xs ys ea eb h =
      let k : OneFits m here (loop first (expr_view e) (stmts_view a.items) (stmts_view b.items))
      = subst (OneFits m here) (loop_is first e a b) h in
      rw (ea, eb) ((λ x f. (k x f).1), (λ x f. (k x f).2))

  pub arm_fits : (o : Order) (a b : Vec Stmt Global) (xs ys : List Stmt) → xs ≡ a.items → ys ≡ b.items
      → OneFits m here (what_view (ByOrder o a b)) → ListFits m here xs × ListFits m here ys
  arm_fits o a b xs ys ea eb h =
      let k : OneFits m here (by_order o (stmts_view a.items) (stmts_view b.items))
      = subst (OneFits m here) (by_order_is o a b) h in
      rw (ea, eb) ((λ x f. (k x f).0), (λ x f. (k x f).1))

pub scope_takes_none : (w : What) (bs : List ℕ) (a : Stmts) → w ≡ scope bs a → takes_step w ≡ true → ⊥
scope_takes_none w bs a e h = absurd (let q : true ≡ false = sym h ∙ ap takes_step e in cc)
