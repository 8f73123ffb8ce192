-- What expressions mean, and which are bit-fields, by rules without an order. C11 6.5.
use Rattle.std.specs.Prelude.{◌≡◌, ℕ, List, [], ◌∷◌, Some, Ok}
use Rattle.ep_ast.specs.declared.expressions.Literal.{Literal}
use Rattle.ep_ast.specs.Expression.{Expr, Exprs, TypeName, conditional, binary, cast, unary, sizeof_expr}
use Rattle.ep_ast.specs.Expression.{sizeof_type, index, member, arrow, id, number, no_exprs, more_exprs}
use Rattle.ep_core.specs.Program as core
use Rattle.ep_typing.specs.declared.types.CType.{CType}
use Rattle.ep_typing.specs.declared.types.FieldRow.{FieldRow}
use Rattle.ep_typing.specs.Env.{Env}
use Rattle.ep_typing.specs.Names.{named_type}
use Rattle.ep_typing.specs.Operand.{Operand, Value, value_of}
use Rattle.ep_typing.specs.Parts.{an_operand, indexable, named, named_uncalled, numbered, sized, type_sized}
use Rattle.ep_typing.specs.Parts.{unary_typed}
use Rattle.ep_typing.specs.Fields.{field_in, pointed_by, selected_behind, selected_in}
use Rattle.ep_typing.specs.Typing.{joined, chosen_from, cast_to, indexed_by}

-- An expression means an operand. An assignment, a step, a call or a bit-field means none.
pub data Means (G : Env) : Expr → Operand → Type 0 where
  is_number : {l : ℕ} {n : Literal} → Means G (number l n) (numbered G.types.model n)
  is_name : {l : ℕ} {t : List ℕ} {z : Operand} → named_uncalled G t ≡ Ok z → Means G (id l t) z
  is_choice : {l : ℕ} {e a b : Expr} {z : Operand} (w x y : Operand) (r u : Value)
      → Means G e w → value_of G.types w ≡ Ok r → Means G a x → value_of G.types x ≡ Ok u → Means G b y
      → chosen_from G.types r u y ≡ Ok z → Means G (conditional l e a b) z
  is_binary : {l m : ℕ} {a b : Expr} {z : Operand} (x y : Operand) (u : Value)
      → Means G a x → value_of G.types x ≡ Ok u → Means G b y
      → joined G.types m u y ≡ Ok z → Means G (binary l m a b) z
  is_cast : {l : ℕ} {n : TypeName} {a : Expr} {z : Operand} (c : CType) (x : Operand)
      → named_type G n ≡ Ok c → Means G a x → cast_to G.types c x ≡ Ok z → Means G (cast l n a) z
  is_unary : {l m : ℕ} {a : Expr} {z : Operand} (x : Operand)
      → Means G a x → unary_typed G.types m x ≡ Ok z → Means G (unary l m a) z
  is_size : {l : ℕ} {a : Expr} {z : Operand} (x : Operand)
      → Means G a x → an_operand (sized G.types x) ≡ Ok z → Means G (sizeof_expr l a) z
  is_type_size : {l : ℕ} {n : TypeName} {z : Operand} (c : CType)
      → named_type G n ≡ Ok c → an_operand (type_sized G.types c) ≡ Ok z → Means G (sizeof_type l n) z
  is_element : {l : ℕ} {a b : Expr} {z : Operand} (x u y : Operand)
      → Means G a x → indexable G.types x ≡ Ok u → Means G b y
      → indexed_by G.types u y ≡ Ok z → Means G (index l a b) z
  is_member : {l : ℕ} {a : Expr} {n : List ℕ} {z : Operand} (x : Operand)
      → Means G a x → selected_in G x n ≡ Ok z → Means G (member l a n) z
  is_member_behind : {l : ℕ} {a : Expr} {n : List ℕ} {z : Operand} (x : Operand)
      → Means G a x → selected_behind G x n ≡ Ok z → Means G (arrow l a n) z

-- An expression names a bit-field, of an object or through a pointer (C11 6.5.2.3), whose unit has this place.
pub data MeansField (G : Env) : Expr → core.Place × FieldRow → Type 0 where
  is_field : {l : ℕ} {a : Expr} {n : List ℕ} {z : core.Place × FieldRow} (x : Operand)
      → Means G a x → field_in G x n ≡ Some z → MeansField G (member l a n) z
  is_field_behind : {l : ℕ} {a : Expr} {n : List ℕ} {z : core.Place × FieldRow} (x y : Operand)
      → Means G a x → pointed_by G x ≡ Ok y → field_in G y n ≡ Some z → MeansField G (arrow l a n) z

-- What is called is a function by its name, or what another expression means.
pub data MeansCallee (G : Env) : Expr → Operand → Type 0 where
  is_called_name : {l : ℕ} {t : List ℕ} {z : Operand} → named G t ≡ Ok z → MeansCallee G (id l t) z
  is_called_value : {f : Expr} {z : Operand} → Means G f z → MeansCallee G f z

-- the arguments of a call mean something, and each has a value
pub data HaveValues (G : Env) : Exprs → List Value → Type 0 where
  no_values : HaveValues G no_exprs []
  more_values : {e : Expr} {es : Exprs} {v : Value} {vs : List Value} (x : Operand)
      → Means G e x → value_of G.types x ≡ Ok v → HaveValues G es vs → HaveValues G (more_exprs e es) (v ∷ vs)
