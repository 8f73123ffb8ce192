-- Which bit-field an expression names.
use Rattle.std.proofs.Common.{◌≡◌, ℕ, Bool, true, false, cond, List, [], Option, Some, None, Result, Ok, Err}
use Rattle.std.proofs.Common.{refl, sym, ap, ◌∙◌, subst}
use Rattle.std.specs.Prelude.{is_some}
use Rattle.std.specs.Option.{option_map}
use Rattle.std.specs.Global.{Box, Vec}
use Rattle.ep_ast.specs.declared.expressions.ExprTree.{ExprTree, Member, Arrow, out-ExprTree, roll-ExprTree}
use Rattle.ep_ast.specs.declared.expressions.ExprTree.{roll-out-ExprTree}
use Rattle.ep_ast.specs.declared.expressions.ExprTree.TheOpen.{ExprTree-F}
use Rattle.ep_ast.specs.declared.expressions.ExprTree.TheVariants.{rolls-Assign, rolls-Conditional, rolls-Binary}
use Rattle.ep_ast.specs.declared.expressions.ExprTree.TheVariants.{rolls-Cast, rolls-Step, rolls-Unary}
use Rattle.ep_ast.specs.declared.expressions.ExprTree.TheVariants.{rolls-SizeofExpr, rolls-SizeofType, rolls-Index}
use Rattle.ep_ast.specs.declared.expressions.ExprTree.TheVariants.{rolls-Call, rolls-Member, rolls-Arrow}
use Rattle.ep_ast.specs.declared.expressions.ExprTree.TheVariants.{rolls-PostIncrement, rolls-PostDecrement, rolls-Id}
use Rattle.ep_ast.specs.declared.expressions.ExprTree.TheVariants.{rolls-Number}
use Rattle.ep_ast.specs.declared.refusals.Halt.{Halt}
use Rattle.ep_ast.specs.Expression as source
use Rattle.ep_typing.specs.Env.{Env, NamedFields}
use Rattle.ep_typing.specs.Fields.{but_field, field_at, field_in, field_named, found_in, pointed_by}
use Rattle.ep_typing.specs.Operand.{Operand, place, value, function}
use Rattle.ep_typing.specs.Results.{◌>>=◌, at}
use Rattle.ep_typing.specs.Types.{is_aggregate, number_in}
use Rattle.ep_typing.specs.Typing.{field_of, typed}
use Rattle.ep_operands.specs.Refinement.{Refines}

-- ---- a bit-field stops what else would be

pub field_refused : {A B : Type 0} (o : Option A) (r : Result B ℕ) (l : ℕ) → is_some o ≡ true
    → at l (but_field o r) ≡ Err (record { kind = 51; line = l; word = 0 })
field_refused (Some f) r l h = refl
field_refused None r l h = absurd cc

pub without_field : {A B X : Type 0} (view : X → B) (o : Option A) (r : Result B ℕ) (l : ℕ) (x : Result X Halt) → is_some o ≡ false
    → Refines view (at l r) x → Refines view (at l (but_field o r)) x
without_field view (Some f) r l x h k = absurd cc
without_field view None r l x h k = k

-- ---- without bit-fields

none_either : {A : Type 0} (b : Bool) → ◌≡◌ {A = Option A} (cond b None None) None
none_either true = refl
none_either false = refl

no_field_in : (G : Env) (x : Operand) (n : List ℕ) → G.fields ≡ [] → field_in G x n ≡ None
unfolding field_in
no_field_in G (place p c) n e =
    ap (λ (fs : List (ℕ × NamedFields)). cond (is_aggregate c)
    (option_map (field_at G.types p (number_in c.base)) (field_named fs (number_in c.base) n)) None) e
    ∙ none_either (is_aggregate c)
no_field_in G (value v) n e = refl
no_field_in G (function f) n e = refl

none_found : {A B E : Type 0} (r : Result A E) (f : A → Option B) → ((x : A) → f x ≡ None) → found_in r f ≡ None
none_found (Ok x) f h = h x
none_found (Err e) f h = refl

pub names_none : (G : Env) (e : source.Expr) → G.fields ≡ [] → field_of G e ≡ None
unfolding field_of
names_none G (source.member l a n) h = none_found (typed G a) (λ x. field_in G x n) (λ x. no_field_in G x n h)
names_none G (source.arrow l a n) h =
    none_found (typed G a >>= (λ x. at l (pointed_by G x))) (λ y. field_in G y n) (λ y. no_field_in G y n h)
names_none G _ h = refl

-- ---- expressions that name none

abbrev NamesNone : Env → ExprTree → Type 0
NamesNone G t = field_of G (source.expr t) ≡ None

other_from : (G : Env) (t : ExprTree) (o : ExprTree-F ExprTree) → roll-ExprTree o ≡ t
    → ((l : ℕ) (p : Box ExprTree) (n : Vec ℕ) → t ≡ Member l p n → ⊥) → ((l : ℕ) (p : Box ExprTree) (n : Vec ℕ) → t ≡ Arrow l p n → ⊥)
    → NamesNone G t
unfolding field_of
other_from G t (ExprTree-F.Assign l m p q) e h k = subst (NamesNone G) (sym (rolls-Assign l m p q) ∙ e) refl
other_from G t (ExprTree-F.Conditional l p q s) e h k = subst (NamesNone G) (sym (rolls-Conditional l p q s) ∙ e) refl
other_from G t (ExprTree-F.Binary l m p q) e h k = subst (NamesNone G) (sym (rolls-Binary l m p q) ∙ e) refl
other_from G t (ExprTree-F.Cast l n p) e h k = subst (NamesNone G) (sym (rolls-Cast l n p) ∙ e) refl
other_from G t (ExprTree-F.Step l m p) e h k = subst (NamesNone G) (sym (rolls-Step l m p) ∙ e) refl
other_from G t (ExprTree-F.Unary l m p) e h k = subst (NamesNone G) (sym (rolls-Unary l m p) ∙ e) refl
other_from G t (ExprTree-F.SizeofExpr l p) e h k = subst (NamesNone G) (sym (rolls-SizeofExpr l p) ∙ e) refl
other_from G t (ExprTree-F.SizeofType l n) e h k = subst (NamesNone G) (sym (rolls-SizeofType l n) ∙ e) refl
other_from G t (ExprTree-F.Index l p q) e h k = subst (NamesNone G) (sym (rolls-Index l p q) ∙ e) refl
other_from G t (ExprTree-F.Call l p xs) e h k = subst (NamesNone G) (sym (rolls-Call l p xs) ∙ e) refl
other_from G t (ExprTree-F.Member l p n) e h k = absurd (h l p n (sym e ∙ rolls-Member l p n))
other_from G t (ExprTree-F.Arrow l p n) e h k = absurd (k l p n (sym e ∙ rolls-Arrow l p n))
other_from G t (ExprTree-F.PostIncrement l p) e h k = subst (NamesNone G) (sym (rolls-PostIncrement l p) ∙ e) refl
other_from G t (ExprTree-F.PostDecrement l p) e h k = subst (NamesNone G) (sym (rolls-PostDecrement l p) ∙ e) refl
other_from G t (ExprTree-F.Id l n) e h k = subst (NamesNone G) (sym (rolls-Id l n) ∙ e) refl
other_from G t (ExprTree-F.Number l n) e h k = subst (NamesNone G) (sym (rolls-Number l n) ∙ e) refl

pub other : (G : Env) (t : ExprTree) → ((l : ℕ) (p : Box ExprTree) (n : Vec ℕ) → t ≡ Member l p n → ⊥)
    → ((l : ℕ) (p : Box ExprTree) (n : Vec ℕ) → t ≡ Arrow l p n → ⊥) → NamesNone G t
other G t h k = other_from G t (out-ExprTree t) (roll-out-ExprTree t) h k
