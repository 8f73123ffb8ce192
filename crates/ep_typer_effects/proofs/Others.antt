-- A right side that is no call.
use Rattle.std.proofs.Common.{◌≡◌, ℕ, true, false, refl, sym, ◌∙◌, subst}
use Rattle.std.specs.Global.{Box, Vec}
use Rattle.ep_ast.specs.declared.expressions.ExprTree.{ExprTree, out-ExprTree, roll-ExprTree, roll-out-ExprTree}
use Rattle.ep_ast.specs.declared.expressions.ExprTree.TheOpen.{ExprTree-F}
use Rattle.ep_ast.specs.declared.expressions.ExprTree.TheVariants.{Call}
use Rattle.ep_ast.specs.declared.expressions.ExprTree.TheVariants.{rolls-Assign, rolls-Conditional, rolls-Binary}
use Rattle.ep_ast.specs.declared.expressions.ExprTree.TheVariants.{rolls-Cast, rolls-Step, rolls-Unary}
use Rattle.ep_ast.specs.declared.expressions.ExprTree.TheVariants.{rolls-SizeofExpr, rolls-SizeofType, rolls-Index}
use Rattle.ep_ast.specs.declared.expressions.ExprTree.TheVariants.{rolls-Call, rolls-Member, rolls-Arrow}
use Rattle.ep_ast.specs.declared.expressions.ExprTree.TheVariants.{rolls-PostIncrement, rolls-PostDecrement, rolls-Id}
use Rattle.ep_ast.specs.declared.expressions.ExprTree.TheVariants.{rolls-Number}
use Rattle.ep_ast.specs.Expression as source
use Rattle.ep_typing.specs.Env.{Env}
use Rattle.ep_typing.specs.Typing.{right_side}

abbrev IsPlainRight : Env → ExprTree → Type 0
IsPlainRight G t = right_side G true (source.expr t) ≡ right_side G false (source.expr t)

no_call_from : (G : Env) (t : ExprTree) (o : ExprTree-F ExprTree) → roll-ExprTree o ≡ t
    → ((l : ℕ) (p : Box ExprTree) (xs : Vec ExprTree) → t ≡ Call l p xs → ⊥) → IsPlainRight G t
unfolding right_side
no_call_from G t (ExprTree-F.Assign l m p q) e h = subst (IsPlainRight G) (sym (rolls-Assign l m p q) ∙ e) refl
no_call_from G t (ExprTree-F.Conditional l p q r) e h = subst (IsPlainRight G) (sym (rolls-Conditional l p q r) ∙ e) refl
no_call_from G t (ExprTree-F.Binary l m p q) e h = subst (IsPlainRight G) (sym (rolls-Binary l m p q) ∙ e) refl
no_call_from G t (ExprTree-F.Cast l n p) e h = subst (IsPlainRight G) (sym (rolls-Cast l n p) ∙ e) refl
no_call_from G t (ExprTree-F.Step l m p) e h = subst (IsPlainRight G) (sym (rolls-Step l m p) ∙ e) refl
no_call_from G t (ExprTree-F.Unary l m p) e h = subst (IsPlainRight G) (sym (rolls-Unary l m p) ∙ e) refl
no_call_from G t (ExprTree-F.SizeofExpr l p) e h = subst (IsPlainRight G) (sym (rolls-SizeofExpr l p) ∙ e) refl
no_call_from G t (ExprTree-F.SizeofType l n) e h = subst (IsPlainRight G) (sym (rolls-SizeofType l n) ∙ e) refl
no_call_from G t (ExprTree-F.Index l p q) e h = subst (IsPlainRight G) (sym (rolls-Index l p q) ∙ e) refl
no_call_from G t (ExprTree-F.Call l p xs) e h = absurd (h l p xs (sym e ∙ rolls-Call l p xs))
no_call_from G t (ExprTree-F.Member l p n) e h = subst (IsPlainRight G) (sym (rolls-Member l p n) ∙ e) refl
no_call_from G t (ExprTree-F.Arrow l p n) e h = subst (IsPlainRight G) (sym (rolls-Arrow l p n) ∙ e) refl
no_call_from G t (ExprTree-F.PostIncrement l p) e h = subst (IsPlainRight G) (sym (rolls-PostIncrement l p) ∙ e) refl
no_call_from G t (ExprTree-F.PostDecrement l p) e h = subst (IsPlainRight G) (sym (rolls-PostDecrement l p) ∙ e) refl
no_call_from G t (ExprTree-F.Id l n) e h = subst (IsPlainRight G) (sym (rolls-Id l n) ∙ e) refl
no_call_from G t (ExprTree-F.Number l n) e h = subst (IsPlainRight G) (sym (rolls-Number l n) ∙ e) refl

pub no_call : (G : Env) (t : ExprTree) → ((l : ℕ) (p : Box ExprTree) (xs : Vec ExprTree) → t ≡ Call l p xs → ⊥) → IsPlainRight G t
no_call G t h = no_call_from G t (out-ExprTree t) (roll-out-ExprTree t) h
