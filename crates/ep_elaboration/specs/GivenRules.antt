-- First values and declarations, by rules without an order. C11 6.7 and 6.7.9.
use Rattle.std.specs.Prelude.{◌≡◌, [], ◌∷◌, ℕ, suc, Bool, false, List, Option, Some, None, Ok}
use Rattle.ep_core.specs.Program as core
use Rattle.ep_ast.specs.Declaration.{Declaration, Init, Value, Values, listed, more_values, no_values, single, to_specs}
use Rattle.ep_ast.specs.Expression.{Expr}
use Rattle.ep_ast.specs.Mark.{equal}
use Rattle.ep_elaboration.specs.Declarations.{Made, both_made, lined}
use Rattle.ep_elaboration.specs.Declarators.{Object}
use Rattle.ep_elaboration.specs.Given.{Given, both_given, cleared, count_listed, first_values, line_of_value}
use Rattle.ep_elaboration.specs.Given.{nothing_given, object_operand, one_given, part_at, with_list}
use Rattle.ep_elaboration.specs.DeclaratorRules.{MeansObject, MeansSpecs}
use Rattle.ep_elaboration.specs.WholeRules.{MeansRight}
use Rattle.ep_elaboration.specs.FieldStatements.{field_given}
use Rattle.ep_typing.specs.declared.types.FieldRow.{FieldRow}
use Rattle.ep_typing.specs.Env.{Env}
use Rattle.ep_typing.specs.Names.{mentioned}
use Rattle.ep_typing.specs.Rules.{MeansField}
use Rattle.ep_typing.specs.Typing.{Right, assigned_from}
use Rattle.ep_typing.specs.declared.types.CType.{CType}

-- an expression as a first value (C11 6.7.9p11)
pub data MeansGivenExpression : Env → Bool → Bool → ℕ → Option Object → Expr → Given → Type 0 where
  is_given_expression : {G : Env} {global c : Bool} {l : ℕ} {x : Object} {e : Expr} (y : Right) (w : core.What)
      (vs : List core.Init)
      → MeansRight G c e y → assigned_from G.types equal (object_operand x) (object_operand x) y ≡ Ok w
      → first_values global G.types x y ≡ Ok vs
      → MeansGivenExpression G global c l (Some x) e (record { statements = w ∷ []; values = vs })

mutual
  -- a first value: an expression, or a list in braces (C11 6.7.9)
  pub data MeansGiven : Env → Bool → Bool → ℕ → Option Object → Value → (Given × Env) → Type 0 where
    is_single : {G : Env} {global c : Bool} {l : ℕ} {o : Option Object} {e : Expr} (g : Given)
        → MeansGivenExpression (mentioned G e) global c l o e g
        → MeansGiven G global c l o (single e) (g, mentioned G e)
    is_listed : {G : Env} {global c : Bool} {l : ℕ} {o : Option Object} {m : ℕ} {vs : Values} (x : Object)
        (g : Given × Env)
        → with_list G o vs ≡ Ok x → MeansAllGiven G global x 0 vs g → MeansGiven G global c l o (listed m vs) g

  -- the values of a list, from this number on
  pub data MeansAllGiven : Env → Bool → Object → ℕ → Values → (Given × Env) → Type 0 where
    no_values_given : {G : Env} {global : Bool} {x : Object} {i : ℕ}
        → MeansAllGiven G global x i no_values (nothing_given, G)
    more_values_given : {G : Env} {global : Bool} {x : Object} {i : ℕ} {v : Value} {vs : Values} (a b : Given × Env)
        → MeansGiven G global false (line_of_value v) (part_at G.types x i) v a
        → MeansAllGiven a.1 global x (suc i) vs b
        → MeansAllGiven G global x i (more_values v vs) (both_given a.0 b.0, b.1)

-- the first value of an object, if it has one
pub data MeansFirstValue : Env → Bool → Bool → ℕ → Object → Option Value → (Given × Env) → Type 0 where
  no_first_value : {G : Env} {global c : Bool} {l : ℕ} {x : Object}
      → MeansFirstValue G global c l x None (nothing_given, G)
  is_first_bit_field : {G : Env} {global c : Bool} {l : ℕ} {x : Object} {e : Expr} (z : core.Place × FieldRow)
      (w : core.What)
      → MeansField (mentioned G e) e z → field_given global l z (object_operand x) ≡ Ok w
      → MeansFirstValue G global c l x (Some (single e)) (one_given w, mentioned G e)
  is_first_value : {G : Env} {global c : Bool} {l : ℕ} {x : Object} {v : Value} (g : Given × Env)
      → MeansGiven G global c l (Some x) v g
      → MeansFirstValue G global c l x (Some v) (cleared g.1.types x v g.0, g.1)

-- a variable, which its own initialiser sees (C11 6.2.1p7)
pub data MeansVariable : Env → Bool → Bool → CType → Init → (Made × Env) → Type 0 where
  is_variable : {G : Env} {global c : Bool} {t : CType} {i : Init} (o : Object × Env) (g : Given × Env)
      → MeansObject G global (count_listed i.value) t i.declarator o
      → MeansFirstValue o.1 global c i.declarator.line o.0 i.value g
      → MeansVariable G global c t i (lined i.declarator.line g.0, g.1)

-- variables, one after the other
pub data MeansVariables : Env → Bool → Bool → CType → List Init → (Made × Env) → Type 0 where
  no_variables : {G : Env} {global c : Bool} {t : CType}
      → MeansVariables G global c t [] (record { lines = []; values = [] }, G)
  more_variables : {G : Env} {global c : Bool} {t : CType} {i : Init} {vs : List Init} (a b : Made × Env)
      → MeansVariable G global c t i a → MeansVariables a.1 global c t vs b
      → MeansVariables G global c t (i ∷ vs) (both_made a.0 b.0, b.1)

-- a declaration of variables (C11 6.7)
pub data MeansDeclaration : Env → Bool → Bool → Declaration → (Made × Env) → Type 0 where
  is_declaration : {G : Env} {global c : Bool} {d : Declaration} (t : CType × Env) (m : Made × Env)
      → MeansSpecs G [] [] (to_specs d.specs) t → MeansVariables t.1 global c t.0 d.inits m
      → MeansDeclaration G global c d m
