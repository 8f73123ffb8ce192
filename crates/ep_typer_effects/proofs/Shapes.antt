-- What a statement or a right side is by the shape of its tree, and by its mark.
use Rattle.std.proofs.Common.{◌≡◌, ℕ, Bool, true, false, cond, nat_eq, ◌&&◌, List, map, Result, Ok, Err, refl, sym}
use Rattle.ep_int.proofs.Basics.{and-true, and-false}
use Rattle.std.proofs.Common.{ap, ◌∙◌}
use Rattle.std.specs.Global.{Box, Vec}
use Rattle.ep_ast.specs.declared.expressions.ExprTree.{ExprTree, Call, PostDecrement, PostIncrement, Step}
use Rattle.ep_ast.specs.declared.refusals.Refusal.{Refusal}
use Rattle.ep_ast.specs.Mark as marks
use Rattle.ep_ast.specs.Expression as source
use Rattle.ep_ast.specs.declared.marks.Mark.{Mark}
use Rattle.ep_ast.specs.Mark.{equal, mark_number}
use Rattle.ep_core.specs.Program as core
use Rattle.ep_layout.specs.Table.{Table}
use Rattle.ep_stores.specs.Stores.{simply, updated_with}
use Rattle.ep_typing.specs.Env.{Env}
use Rattle.ep_typing.specs.Operand.{Operand, Value, value, value_of}
use Rattle.ep_typing.specs.Parts.{an_operand}
use Rattle.ep_typing.specs.Results.{◌>>=◌, at}
use Rattle.ep_typing.specs.Typing.{Right, an_object, assigned, assigned_from, assignment, one, operator_of}
use Rattle.ep_typing.specs.Typing.{read_first, right_side, step_mark, stepped, typed, updated, whole_statement}
use Rattle.ep_typer_exprs.proofs.WalkLemmas.{call_tree}
use Rattle.ep_typer_effects.specs.Whole as whole

pub called_tree : (l : ℕ) (t f : ExprTree) (p : Box ExprTree) (list : Vec ExprTree) (xs : List ExprTree)
    → t ≡ Call l p list → f ≡ p.value → xs ≡ list.items
    → source.expr t ≡ source.call l (source.expr f) (source.to_exprs (map source.expr xs))
called_tree l t f p list xs i d q = ap source.expr i ∙ call_tree l p list ∙ rw (d, q) refl

pub a_call_alone : (G : Env) (e f : source.Expr) (l : ℕ) (es : source.Exprs) → e ≡ source.call l f es
    → whole_statement G true e ≡ whole.called_alone G l f es
unfolding whole_statement
a_call_alone G e f l es i = rw i refl

-- ---- assignments by their mark

simply_is : (r : Result core.Simple ℕ) → r >>= (λ w. Ok (core.simple w)) ≡ simply r
simply_is (Ok w) = refl
simply_is (Err k) = refl

updated_is : (t : Table) (m : ℕ) (x y : Operand) (u : Value) → updated t m x (value u) y ≡ updated_with t m x u y
unfolding updated value_of
updated_is t m x y u = refl

compound_from : (t : Table) (m : ℕ) (x y : Operand) (u : Value) → nat_eq m equal ≡ false
    → assigned_from t m x (value u) (an_object y) ≡ simply (updated_with t (operator_of m) x u y)
compound_from t m x y u h =
    ap (λ (b : Bool). cond b (assigned t x y) (updated t (operator_of m) x (value u) y) >>= (λ w. Ok (core.simple w))) h
    ∙ simply_is (updated t (operator_of m) x (value u) y) ∙ ap simply (updated_is t (operator_of m) x y u)

read_is : (t : Table) (l m : ℕ) (x : Operand) (more : Operand → Result core.What Refusal) → nat_eq m equal ≡ false
    → at l (read_first t m x) >>= more ≡ at l (value_of t x) >>= (λ u. more (value u))
unfolding read_first
read_is t l m x more h = ap (λ (b : Bool). at l (cond b (Ok x) (an_operand (value_of t x))) >>= more) h ∙ parts (value_of t x)
  where
    parts : (r : Result Value ℕ) → at l (an_operand r) >>= more ≡ at l r >>= (λ u. more (value u))
    parts (Ok v) = refl
    parts (Err k) = refl

-- steps that come to the same come to the same behind others
pub same_next : {A B : Type 0} (r : Result A Refusal) (f g : A → Result B Refusal) → ((x : A) → f x ≡ g x) → r >>= f ≡ r >>= g
same_next (Ok x) f g h = h x
same_next (Err e) f g h = refl

right_is : (G : Env) (may_call : Bool) (m : ℕ) (b : source.Expr) (more : Right → Result core.What Refusal) → nat_eq m equal ≡ false
    → right_side G (may_call && nat_eq m equal) b >>= more ≡ typed G b >>= (λ y. more (an_object y))
unfolding right_side
right_is G may_call m b more h =
    ap (λ (c : Bool). right_side G (may_call && c) b >>= more) h ∙ ap (λ (c : Bool). right_side G c b >>= more) (and-false may_call)
    ∙ parts (typed G b)
  where
    parts : (r : Result Operand Refusal) → (r >>= (λ y. Ok (an_object y))) >>= more ≡ r >>= (λ y. more (an_object y))
    parts (Ok y) = refl
    parts (Err e) = refl

pub plain_is : (G : Env) (may_call : Bool) (l m : ℕ) (a b : source.Expr) → m ≡ equal → assignment G may_call l m a b ≡ whole.plain G may_call l a b
unfolding assignment read_first
plain_is G may_call l m a b h =
    ap (λ (n : ℕ). assignment G may_call l n a b) h
    ∙ same_next (typed G a) _ _ (λ x. ap (λ (c : Bool). right_side G c b >>= (λ y. at l (assigned_from G.types equal x x y))) (and-true may_call))

pub compound_is : (G : Env) (may_call : Bool) (l m : ℕ) (a b : source.Expr) → nat_eq m equal ≡ false
    → assignment G may_call l m a b ≡ whole.compounded G l m a b
unfolding assignment
compound_is G may_call l m a b h =
    same_next (typed G a) _ _ (λ x. read_is G.types l m x _ h
    ∙ same_next (at l (value_of G.types x)) _ _ (λ u. right_is G may_call m b _ h
    ∙ same_next (typed G b) _ _ (λ y. ap (at l) (compound_from G.types m x y u h))))

pub step_is : (G : Env) (l m : ℕ) (a : source.Expr) → nat_eq m equal ≡ false → stepped G l m a ≡ whole.stepped G l m a
unfolding stepped
step_is G l m a h =
    same_next (typed G a) _ _ (λ x. read_is G.types l m x _ h
    ∙ same_next (at l (value_of G.types x)) _ _ (λ u. ap (at l) (compound_from G.types m x (value one) u h)))

-- ---- steps and marks

pub step_tree : (l : ℕ) (m : Mark) (t f : ExprTree) (p : Box ExprTree) → t ≡ Step l m p → f ≡ p.value
    → source.expr t ≡ source.step l (mark_number m) (source.expr f)
step_tree l m t f p i d = ap source.expr i
    ∙ ap (λ (g : ExprTree). source.step l (mark_number m) (source.expr g)) (sym d)

pub increment_tree : (l : ℕ) (t f : ExprTree) (p : Box ExprTree) → t ≡ PostIncrement l p → f ≡ p.value
    → source.expr t ≡ source.post_increment l (source.expr f)
increment_tree l t f p i d = ap source.expr i ∙ ap (λ (g : ExprTree). source.post_increment l (source.expr g)) (sym d)

pub decrement_tree : (l : ℕ) (t f : ExprTree) (p : Box ExprTree) → t ≡ PostDecrement l p → f ≡ p.value
    → source.expr t ≡ source.post_decrement l (source.expr f)
decrement_tree l t f p i d = ap source.expr i ∙ ap (λ (g : ExprTree). source.post_decrement l (source.expr g)) (sym d)

module _ (G : Env) (may_call : Bool) (e a : source.Expr) (l : ℕ) where
  pub a_step : (m n : ℕ) → e ≡ source.step l m a → n ≡ step_mark m → nat_eq n equal ≡ false → whole_statement G may_call e ≡ whole.stepped G l n a
  unfolding whole_statement
  a_step m n i q h = ap (whole_statement G may_call) i ∙ ap (λ (k : ℕ). stepped G l k a) (sym q) ∙ step_is G l n a h

  pub an_increment : e ≡ source.post_increment l a → whole_statement G may_call e ≡ whole.stepped G l marks.plus_equal a
  unfolding whole_statement
  an_increment i = ap (whole_statement G may_call) i ∙ step_is G l marks.plus_equal a refl

  pub a_decrement : e ≡ source.post_decrement l a → whole_statement G may_call e ≡ whole.stepped G l marks.minus_equal a
  unfolding whole_statement
  a_decrement i = ap (whole_statement G may_call) i ∙ step_is G l marks.minus_equal a refl

pub plain_at : (G : Env) (may_call : Bool) (l : ℕ) (a b : source.Expr) (x : Operand) (y : Right) → typed G a ≡ Ok x → right_side G may_call b ≡ Ok y
    → whole.plain G may_call l a b ≡ at l (assigned_from G.types equal x x y)
plain_at G may_call l a b x y h k = rw (h, k) refl
