-- Calls and their arguments, one after another.
use Rattle.std.proofs.Common.{◌≡◌, ℕ, suc, ◌+◌, ◌<◌, length, List, [], ◌∷◌, ◌++◌, map, drop, get_or, Result, Ok, Err}
use Rattle.std.proofs.Common.{refl, sym, ap, ◌∙◌, append_assoc, drop-cons, arith, subst}
use Rattle.std.specs.Global.{Box, Vec}
use Rattle.ep_ast.specs.declared.expressions.ExprTree.{ExprTree, Call, Id, out-ExprTree, roll-ExprTree}
use Rattle.ep_ast.specs.declared.expressions.ExprTree.{roll-out-ExprTree}
use Rattle.ep_ast.specs.declared.expressions.ExprTree.TheOpen.{ExprTree-F}
use Rattle.ep_ast.specs.declared.expressions.ExprTree.TheVariants.{rolls-Assign, rolls-Conditional, rolls-Binary}
use Rattle.ep_ast.specs.declared.expressions.ExprTree.TheVariants.{rolls-Cast, rolls-Step, rolls-Unary}
use Rattle.ep_ast.specs.declared.expressions.ExprTree.TheVariants.{rolls-SizeofExpr, rolls-SizeofType, rolls-Index}
use Rattle.ep_ast.specs.declared.expressions.ExprTree.TheVariants.{rolls-Call, rolls-Member, rolls-Arrow}
use Rattle.ep_ast.specs.declared.expressions.ExprTree.TheVariants.{rolls-PostIncrement, rolls-PostDecrement, rolls-Id}
use Rattle.ep_ast.specs.declared.expressions.ExprTree.TheVariants.{rolls-Number}
use Rattle.ep_ast.specs.declared.refusals.Refusal.{Refusal}
use Rattle.ep_ast.specs.declared.refusals.Halt.{Halt}
use Rattle.ep_ast.specs.declared.refusals.Halt.TheVariants as halts
use Rattle.ep_ast.specs.Expression as source
use Rattle.ep_ast.proofs.Rows.{exprs-vec}
use Rattle.ep_typing.specs.Env.{Env}
use Rattle.ep_typing.specs.Operand.{Operand, Value, value_of}
use Rattle.ep_typing.specs.Results.{◌>>=◌, at}
use Rattle.ep_typing.specs.Typing.{callee, typed, typed_all}
use Rattle.ep_operands.specs.Refinement.{Stops}

pub call_tree : (l : ℕ) (p : Box ExprTree) (list : Vec ExprTree)
    → source.expr (Call l p list) ≡ source.call l (source.expr p.value) (source.to_exprs (map source.expr list.items))
call_tree l p list = ap (source.call l (source.expr p.value)) (exprs-vec list)

-- what comes first is put before the rest
abbrev pub ahead : List Value → Result (List Value) Refusal → Result (List Value) Refusal
ahead done (Ok vs) = Ok (done ++ vs)
ahead done (Err r) = Err r

joined : (done : List Value) (v : Value) (r : Result (List Value) Refusal) → ahead done (r >>= (λ vs. Ok (v ∷ vs))) ≡ ahead (done ++ v ∷ []) r
joined done v (Ok vs) = ap (λ (l : List Value). Ok l) (sym (append_assoc done (v ∷ []) vs))
joined done v (Err r) = refl

pub front : (i : ℕ) (xs : List ExprTree) (x : ExprTree) → i < length xs → x ≡ get_or xs i x → drop i xs ≡ x ∷ drop (i + 1) xs
front i xs x lt e =
    let more : suc i ≡ i + 1 = omega arith in
    drop-cons xs i x lt ∙ ap (λ (y : ExprTree). y ∷ drop (suc i) xs) (sym e) ∙ ap (λ (n : ℕ). x ∷ drop n xs) more

module _ (G : Env) (l i : ℕ) (xs : List ExprTree) (x : ExprTree) (done : List Value) (all : Result (List Value) Refusal)
    (lt : i < length xs) (is : x ≡ get_or xs i x)
    (h : ahead done (typed_all G l (source.to_exprs (map source.expr (drop i xs)))) ≡ all) where
  unrolled : ahead done (typed_all G l (source.more_exprs (source.expr x) (source.to_exprs (map source.expr (drop (i + 1) xs))))) ≡ all
  unrolled = sym (ap (λ (ys : List ExprTree). ahead done (typed_all G l (source.to_exprs (map source.expr ys)))) (front i xs x lt is)) ∙ h

  -- an argument that is refused
  pub stopped : (e : Halt) → Stops (typed G (source.expr x)) e → Stops all e
  unfolding typed_all
  stopped halts.Memory k = tt
  stopped (halts.Refused r) k = sym unrolled ∙ rw k refl

  pub stopped_value : (y : Operand) (e : Halt) → typed G (source.expr x) ≡ Ok y → Stops (at l (value_of G.types y)) e → Stops all e
  unfolding typed_all
  stopped_value y halts.Memory m k = tt
  stopped_value y (halts.Refused r) m k = sym unrolled ∙ rw (m, k) refl

  pub went : (y : Operand) (v : Value) → typed G (source.expr x) ≡ Ok y → at l (value_of G.types y) ≡ Ok v
      → ahead (done ++ v ∷ []) (typed_all G l (source.to_exprs (map source.expr (drop (i + 1) xs)))) ≡ all
  unfolding typed_all
  went y v m k =
      sym (joined done v (typed_all G l (source.to_exprs (map source.expr (drop (i + 1) xs)))))
      ∙ sym (step (typed_all G l (source.to_exprs (map source.expr (drop (i + 1) xs))))) ∙ unrolled
    where
      step : (r : Result (List Value) Refusal)
          → ahead done (typed G (source.expr x) >>= (λ z. at l (value_of G.types z) >>= (λ u. r >>= (λ us. Ok (u ∷ us)))))
          ≡ ahead done (r >>= (λ us. Ok (v ∷ us)))
      step r = rw (m, k) refl

-- ---- what is called

pub callee_halts : (G : Env) (l : ℕ) (t f : ExprTree) (p : Box ExprTree) (list : Vec ExprTree) (e : Halt)
    → t ≡ Call l p list → f ≡ p.value → Stops (callee G (source.expr f) (typed G (source.expr f))) e
    → Stops (typed G (source.expr t)) e
unfolding typed
callee_halts G l t f p list halts.Memory i d m = tt
callee_halts G l t f p list (halts.Refused k) i d m =
    ap (λ (u : ExprTree). typed G (source.expr u)) i ∙ ap (typed G) (call_tree l p list) ∙ rw (← d, m) refl

abbrev IsAlone : Env → Result Operand Refusal → ExprTree → Type 0
IsAlone G r t = callee G (source.expr t) r ≡ r

no_name_from : (G : Env) (r : Result Operand Refusal) (t : ExprTree) (o : ExprTree-F ExprTree) → roll-ExprTree o ≡ t
    → ((l : ℕ) (n : Vec ℕ) → t ≡ Id l n → ⊥) → IsAlone G r t
no_name_from G r t (ExprTree-F.Assign l m p q) e h = subst (IsAlone G r) (sym (rolls-Assign l m p q) ∙ e) refl
no_name_from G r t (ExprTree-F.Conditional l p q s) e h = subst (IsAlone G r) (sym (rolls-Conditional l p q s) ∙ e) refl
no_name_from G r t (ExprTree-F.Binary l m p q) e h = subst (IsAlone G r) (sym (rolls-Binary l m p q) ∙ e) refl
no_name_from G r t (ExprTree-F.Cast l n p) e h = subst (IsAlone G r) (sym (rolls-Cast l n p) ∙ e) refl
no_name_from G r t (ExprTree-F.Step l m p) e h = subst (IsAlone G r) (sym (rolls-Step l m p) ∙ e) refl
no_name_from G r t (ExprTree-F.Unary l m p) e h = subst (IsAlone G r) (sym (rolls-Unary l m p) ∙ e) refl
no_name_from G r t (ExprTree-F.SizeofExpr l p) e h = subst (IsAlone G r) (sym (rolls-SizeofExpr l p) ∙ e) refl
no_name_from G r t (ExprTree-F.SizeofType l n) e h = subst (IsAlone G r) (sym (rolls-SizeofType l n) ∙ e) refl
no_name_from G r t (ExprTree-F.Index l p q) e h = subst (IsAlone G r) (sym (rolls-Index l p q) ∙ e) refl
no_name_from G r t (ExprTree-F.Call l p xs) e h = subst (IsAlone G r) (sym (rolls-Call l p xs) ∙ e) refl
no_name_from G r t (ExprTree-F.Member l p n) e h = subst (IsAlone G r) (sym (rolls-Member l p n) ∙ e) refl
no_name_from G r t (ExprTree-F.Arrow l p n) e h = subst (IsAlone G r) (sym (rolls-Arrow l p n) ∙ e) refl
no_name_from G r t (ExprTree-F.PostIncrement l p) e h = subst (IsAlone G r) (sym (rolls-PostIncrement l p) ∙ e) refl
no_name_from G r t (ExprTree-F.PostDecrement l p) e h = subst (IsAlone G r) (sym (rolls-PostDecrement l p) ∙ e) refl
no_name_from G r t (ExprTree-F.Id l n) e h = absurd (h l n (sym e ∙ rolls-Id l n))
no_name_from G r t (ExprTree-F.Number l n) e h = subst (IsAlone G r) (sym (rolls-Number l n) ∙ e) refl

-- what is called by no name is what it is alone
pub no_name : (G : Env) (t : ExprTree) (r : Result Operand Refusal) → ((l : ℕ) (n : Vec ℕ) → t ≡ Id l n → ⊥) → IsAlone G r t
no_name G t r h = no_name_from G r t (out-ExprTree t) (roll-out-ExprTree t) h

-- ---- a call where none may stand

pub call_halts : (G : Env) (l : ℕ) (t f : ExprTree) (p : Box ExprTree) (list : Vec ExprTree) (xs : List ExprTree) (x : Operand) (e : Halt)
    → t ≡ Call l p list → f ≡ p.value → xs ≡ list.items → callee G (source.expr f) (typed G (source.expr f)) ≡ Ok x
    → Stops (typed_all G l (source.to_exprs (map source.expr xs))) e → Stops (typed G (source.expr t)) e
unfolding typed
call_halts G l t f p list xs x halts.Memory i d q m n = tt
call_halts G l t f p list xs x (halts.Refused k) i d q m n =
    ap (λ (u : ExprTree). typed G (source.expr u)) i ∙ ap (typed G) (call_tree l p list) ∙ rw (← d, m, ← q, n) refl

pub call_refused : (G : Env) (l : ℕ) (t f : ExprTree) (p : Box ExprTree) (list : Vec ExprTree) (xs : List ExprTree) (x : Operand) (vs : List Value)
    → t ≡ Call l p list → f ≡ p.value → xs ≡ list.items → callee G (source.expr f) (typed G (source.expr f)) ≡ Ok x
    → typed_all G l (source.to_exprs (map source.expr xs)) ≡ Ok vs
    → typed G (source.expr t) ≡ Err (record { kind = 18; line = l; word = 0 })
unfolding typed
call_refused G l t f p list xs x vs i d q m n =
    ap (λ (u : ExprTree). typed G (source.expr u)) i ∙ ap (typed G) (call_tree l p list) ∙ rw (← d, m, ← q, n) refl
