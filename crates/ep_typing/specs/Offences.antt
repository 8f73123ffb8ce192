-- For what expressions are refused: the points at which a rule can be broken, in the order of the text. C11 6.5.
use Rattle.std.specs.Prelude.{◌≡◌, ℕ, List, [], ◌∷◌, ◌++◌, Ok, Err}
use Rattle.ep_ast.specs.Kind as kinds
use Rattle.ep_ast.specs.declared.refusals.Refusal.{Refusal}
use Rattle.ep_ast.specs.Expression.{Expr, Exprs, TypeName, assign, conditional, binary, cast, step, unary, sizeof_expr}
use Rattle.ep_ast.specs.Expression.{sizeof_type, index, call, member, arrow, post_increment, post_decrement, id, number}
use Rattle.ep_ast.specs.Expression.{no_exprs, more_exprs}
use Rattle.ep_typing.specs.declared.types.CType.{CType}
use Rattle.ep_typing.specs.Env.{Env}
use Rattle.ep_typing.specs.Names.{named_type}
use Rattle.ep_typing.specs.Operand.{Operand, Value, value_of}
use Rattle.ep_typing.specs.Parts.{an_operand, indexable, named, named_uncalled, sized, type_sized}
use Rattle.ep_typing.specs.Parts.{unary_typed}
use Rattle.ep_typing.specs.Fields.{selected_behind, selected_in}
use Rattle.ep_typing.specs.Typing.{read_first, joined, chosen_from, cast_to, indexed_by}
use Rattle.ep_typing.specs.Rules.{Means, MeansCallee, HaveValues}

abbrev pub refusal : (kind line : ℕ) → Refusal
refusal k l = record { kind = k; line = l; word = 0 }

-- A place of the text at which a rule can be broken: a node with its operands, a type name, or an operand whose value
-- is asked by the node round it, on that node's line, before the next operand is looked at.
pub data Point : Type 0 where
  node : Expr → Point
  type_named : TypeName → Point
  name_called : (line : ℕ) → (name : List ℕ) → Point
  value_asked : (line : ℕ) → Expr → Point
  update_asked : (line mark : ℕ) → Expr → Point
  index_asked : (line : ℕ) → Expr → Point

-- this point breaks a rule, and what stands before it in its node none
pub data Breaks (G : Env) : Point → Refusal → Type 0 where
  bad_type_name : {n : TypeName} {r : Refusal} → named_type G n ≡ Err r → Breaks G (type_named n) r
  bad_value : {l k : ℕ} {a : Expr} (x : Operand)
      → Means G a x → value_of G.types x ≡ Err k → Breaks G (value_asked l a) (refusal k l)
  bad_update : {l m k : ℕ} {a : Expr} (x : Operand)
      → Means G a x → read_first G.types m x ≡ Err k → Breaks G (update_asked l m a) (refusal k l)
  bad_array : {l k : ℕ} {a : Expr} (x : Operand)
      → Means G a x → indexable G.types x ≡ Err k → Breaks G (index_asked l a) (refusal k l)
  bad_name : {l k : ℕ} {t : List ℕ} → named_uncalled G t ≡ Err k → Breaks G (node (id l t)) (refusal k l)
  bad_callee : {l k : ℕ} {t : List ℕ} → named G t ≡ Err k → Breaks G (name_called l t) (refusal k l)
  bad_choice : {l k : ℕ} {e a b : Expr} (w x y : Operand) (r u : Value)
      → Means G e w → value_of G.types w ≡ Ok r → Means G a x → value_of G.types x ≡ Ok u → Means G b y
      → chosen_from G.types r u y ≡ Err k → Breaks G (node (conditional l e a b)) (refusal k l)
  bad_binary : {l m k : ℕ} {a b : Expr} (x y : Operand) (u : Value)
      → Means G a x → value_of G.types x ≡ Ok u → Means G b y
      → joined G.types m u y ≡ Err k → Breaks G (node (binary l m a b)) (refusal k l)
  bad_cast : {l k : ℕ} {n : TypeName} {a : Expr} (c : CType) (x : Operand)
      → named_type G n ≡ Ok c → Means G a x → cast_to G.types c x ≡ Err k → Breaks G (node (cast l n a)) (refusal k l)
  bad_unary : {l m k : ℕ} {a : Expr} (x : Operand)
      → Means G a x → unary_typed G.types m x ≡ Err k → Breaks G (node (unary l m a)) (refusal k l)
  bad_size : {l k : ℕ} {a : Expr} (x : Operand)
      → Means G a x → an_operand (sized G.types x) ≡ Err k → Breaks G (node (sizeof_expr l a)) (refusal k l)
  bad_type_size : {l k : ℕ} {n : TypeName} (c : CType)
      → named_type G n ≡ Ok c → an_operand (type_sized G.types c) ≡ Err k
      → Breaks G (node (sizeof_type l n)) (refusal k l)
  bad_element : {l k : ℕ} {a b : Expr} (x u y : Operand)
      → Means G a x → indexable G.types x ≡ Ok u → Means G b y
      → indexed_by G.types u y ≡ Err k → Breaks G (node (index l a b)) (refusal k l)
  bad_member : {l k : ℕ} {a : Expr} {n : List ℕ} (x : Operand)
      → Means G a x → selected_in G x n ≡ Err k → Breaks G (node (member l a n)) (refusal k l)
  bad_member_behind : {l k : ℕ} {a : Expr} {n : List ℕ} (x : Operand)
      → Means G a x → selected_behind G x n ≡ Err k → Breaks G (node (arrow l a n)) (refusal k l)
  assigns : {l m : ℕ} {a b : Expr} (x old y : Operand)
      → Means G a x → read_first G.types m x ≡ Ok old → Means G b y
      → Breaks G (node (assign l m a b)) (refusal kinds.assignment_in_expression l)
  steps : {l m : ℕ} {a : Expr} (x : Operand) → Means G a x
      → Breaks G (node (step l m a)) (refusal kinds.assignment_in_expression l)
  steps_up : {l : ℕ} {a : Expr} (x : Operand) → Means G a x
      → Breaks G (node (post_increment l a)) (refusal kinds.assignment_in_expression l)
  steps_down : {l : ℕ} {a : Expr} (x : Operand) → Means G a x
      → Breaks G (node (post_decrement l a)) (refusal kinds.assignment_in_expression l)
  calls : {l : ℕ} {f : Expr} {es : Exprs} (x : Operand) (vs : List Value)
      → MeansCallee G f x → HaveValues G es vs → Breaks G (node (call l f es)) (refusal kinds.call_in_expression l)

-- the points of what is called, which is a name or has these
abbrev pub callee_order : Expr → List Point → List Point
callee_order (id l t) ps = name_called l t ∷ []
callee_order f ps = ps

-- the points in the order of the text: operands before operators, left before right
abbrev mutual
  pub order : Expr → List Point
  order (assign l m a b) = order a ++ (update_asked l m a ∷ (order b ++ node (assign l m a b) ∷ []))
  order (conditional l e a b) =
      order e ++ (value_asked l e ∷ (order a ++ (value_asked l a ∷ (order b ++ node (conditional l e a b) ∷ []))))
  order (binary l m a b) = order a ++ (value_asked l a ∷ (order b ++ node (binary l m a b) ∷ []))
  order (cast l n a) = type_named n ∷ (order a ++ node (cast l n a) ∷ [])
  order (step l m a) = order a ++ node (step l m a) ∷ []
  order (unary l m a) = order a ++ node (unary l m a) ∷ []
  order (sizeof_expr l a) = order a ++ node (sizeof_expr l a) ∷ []
  order (sizeof_type l n) = type_named n ∷ node (sizeof_type l n) ∷ []
  order (index l a b) = order a ++ (index_asked l a ∷ (order b ++ node (index l a b) ∷ []))
  order (call l f es) = callee_order f (order f) ++ (order_all l es ++ node (call l f es) ∷ [])
  order (member l a n) = order a ++ node (member l a n) ∷ []
  order (arrow l a n) = order a ++ node (arrow l a n) ∷ []
  order (post_increment l a) = order a ++ node (post_increment l a) ∷ []
  order (post_decrement l a) = order a ++ node (post_decrement l a) ∷ []
  order (id l t) = node (id l t) ∷ []
  order (number l n) = node (number l n) ∷ []

  -- arguments, whose values are asked on the line of the call
  pub order_all : (line : ℕ) → Exprs → List Point
  order_all l no_exprs = []
  order_all l (more_exprs e es) = order e ++ (value_asked l e ∷ order_all l es)

-- the first that breaks a rule breaks it so
pub data First {X : Type 0} (P : X → Refusal → Type 0) : List X → Refusal → Type 0 where
  here : {x : X} {xs : List X} {r : Refusal} → P x r → First P (x ∷ xs) r
  later : {x : X} {xs : List X} {r : Refusal} → ((s : Refusal) → P x s → ⊥) → First P xs r → First P (x ∷ xs) r

-- what offends in an expression
abbrev pub Offends : Env → Expr → Refusal → Type 0
Offends G e r = First (Breaks G) (order e) r

-- what offends in what is called
abbrev pub CalleeOffends : Env → Expr → Refusal → Type 0
CalleeOffends G f r = First (Breaks G) (callee_order f (order f)) r
