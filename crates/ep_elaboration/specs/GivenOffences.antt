-- For what initialisers and declarations are refused: the first offence in each, where what stands before it means
-- something. C11 6.7.9.
use Rattle.std.specs.Prelude.{◌≡◌, [], ◌∷◌, ℕ, suc, Bool, false, List, Option, Some, None, Ok, Err}
use Rattle.ep_ast.specs.Kind as kinds
use Rattle.ep_core.specs.Program as core
use Rattle.ep_ast.specs.Declaration.{Declaration, Init, Value, Values, listed, more_values, single, to_specs}
use Rattle.ep_ast.specs.Expression.{Expr}
use Rattle.ep_ast.specs.Mark.{equal}
use Rattle.ep_ast.specs.declared.refusals.Refusal.{Refusal}
use Rattle.ep_elaboration.specs.Declarations.{Made}
use Rattle.ep_elaboration.specs.Declarators.{Object}
use Rattle.ep_elaboration.specs.Given.{Given, count_listed, first_values, line_of_value, object_operand, part_at}
use Rattle.ep_elaboration.specs.Given.{with_list}
use Rattle.ep_elaboration.specs.FieldStatements.{field_given}
use Rattle.ep_elaboration.specs.DeclaratorRules.{MeansObject, MeansSpecs}
use Rattle.ep_elaboration.specs.DeclaratorOffences.{ObjectOffends, SpecsOffend}
use Rattle.ep_elaboration.specs.WholeRules.{MeansRight}
use Rattle.ep_elaboration.specs.WholeOffences.{RightOffends}
use Rattle.ep_typing.specs.declared.types.FieldRow.{FieldRow}
use Rattle.ep_typing.specs.Env.{Env}
use Rattle.ep_typing.specs.Names.{mentioned}
use Rattle.ep_typing.specs.Operand.{Operand}
use Rattle.ep_typing.specs.Typing.{Right, assigned_from}
use Rattle.ep_typing.specs.declared.types.CType.{CType}
use Rattle.ep_typing.specs.Results.{at_statement}
use Rattle.ep_typing.specs.Rules.{Means, MeansField}
use Rattle.ep_typing.specs.Offences.{Offends, refusal}
use Rattle.ep_elaboration.specs.GivenRules.{MeansGiven, MeansVariable}

pub data GivenExpressionOffends : Env → Bool → Bool → ℕ → Option Object → Expr → Refusal → Type 0 where
  in_given_expression : {G : Env} {global c : Bool} {l : ℕ} {x : Object} {e : Expr} {r : Refusal}
      → RightOffends G c e r → GivenExpressionOffends G global c l (Some x) e r
  bad_given_expression : {G : Env} {global c : Bool} {l : ℕ} {x : Object} {e : Expr} {kind : ℕ} (y : Right)
      → MeansRight G c e y → assigned_from G.types equal (object_operand x) (object_operand x) y ≡ Err kind
      → GivenExpressionOffends G global c l (Some x) e (refusal kind l)
  no_constant : {G : Env} {global c : Bool} {l : ℕ} {x : Object} {e : Expr} {kind : ℕ} (y : Right) (w : core.What)
      → MeansRight G c e y → assigned_from G.types equal (object_operand x) (object_operand x) y ≡ Ok w
      → first_values global G.types x y ≡ Err kind → GivenExpressionOffends G global c l (Some x) e (refusal kind l)
  in_expression_too_many : {G : Env} {global c : Bool} {l : ℕ} {e : Expr} {r : Refusal} → Offends G e r
      → GivenExpressionOffends G global c l None e r
  one_expression_too_many : {G : Env} {global c : Bool} {l : ℕ} {e : Expr} (y : Operand) → Means G e y
      → GivenExpressionOffends G global c l None e (refusal kinds.type_mismatch l)

mutual
  pub data GivenOffends : Env → Bool → Bool → ℕ → Option Object → Value → Refusal → Type 0 where
    in_single : {G : Env} {global c : Bool} {l : ℕ} {o : Option Object} {e : Expr} {r : Refusal}
        → GivenExpressionOffends (mentioned G e) global c l o e r → GivenOffends G global c l o (single e) r
    bad_list : {G : Env} {global c : Bool} {l : ℕ} {o : Option Object} {m : ℕ} {vs : Values} {kind : ℕ}
        → with_list G o vs ≡ Err kind → GivenOffends G global c l o (listed m vs) (refusal kind l)
    in_listed : {G : Env} {global c : Bool} {l : ℕ} {o : Option Object} {m : ℕ} {vs : Values} {r : Refusal}
        (x : Object)
        → with_list G o vs ≡ Ok x → AllGivenOffend G global x 0 vs r → GivenOffends G global c l o (listed m vs) r

  pub data AllGivenOffend : Env → Bool → Object → ℕ → Values → Refusal → Type 0 where
    in_first_value : {G : Env} {global : Bool} {x : Object} {i : ℕ} {v : Value} {vs : Values} {r : Refusal}
        → GivenOffends G global false (line_of_value v) (part_at G.types x i) v r
        → AllGivenOffend G global x i (more_values v vs) r
    in_later_value : {G : Env} {global : Bool} {x : Object} {i : ℕ} {v : Value} {vs : Values} {r : Refusal}
        (a : Given × Env)
        → MeansGiven G global false (line_of_value v) (part_at G.types x i) v a
        → AllGivenOffend a.1 global x (suc i) vs r → AllGivenOffend G global x i (more_values v vs) r

-- a bit-field alone
pub data NamesFieldAlone : Env → Value → Type 0 where
  field_alone : {G : Env} {e : Expr} (z : core.Place × FieldRow) → MeansField (mentioned G e) e z
      → NamesFieldAlone G (single e)

pub data FirstValueOffends : Env → Bool → Bool → ℕ → Object → Option Value → Refusal → Type 0 where
  bad_bit_field : {G : Env} {global c : Bool} {l : ℕ} {x : Object} {e : Expr} {kind : ℕ} (z : core.Place × FieldRow)
      → MeansField (mentioned G e) e z → field_given global l z (object_operand x) ≡ Err kind
      → FirstValueOffends G global c l x (Some (single e)) (refusal kind l)
  in_first_values : {G : Env} {global c : Bool} {l : ℕ} {x : Object} {v : Value} {r : Refusal}
      → (NamesFieldAlone G v → ⊥) → GivenOffends G global c l (Some x) v r
      → FirstValueOffends G global c l x (Some v) (at_statement l r)

pub data VariableOffends : Env → Bool → Bool → CType → Init → Refusal → Type 0 where
  in_declarator : {G : Env} {global c : Bool} {t : CType} {i : Init} {r : Refusal}
      → ObjectOffends G global (count_listed i.value) t i.declarator r → VariableOffends G global c t i r
  in_initialiser : {G : Env} {global c : Bool} {t : CType} {i : Init} {r : Refusal} (o : Object × Env)
      → MeansObject G global (count_listed i.value) t i.declarator o
      → FirstValueOffends o.1 global c i.declarator.line o.0 i.value r → VariableOffends G global c t i r

pub data VariablesOffend : Env → Bool → Bool → CType → List Init → Refusal → Type 0 where
  in_first_variable : {G : Env} {global c : Bool} {t : CType} {i : Init} {vs : List Init} {r : Refusal}
      → VariableOffends G global c t i r → VariablesOffend G global c t (i ∷ vs) r
  in_later_variable : {G : Env} {global c : Bool} {t : CType} {i : Init} {vs : List Init} {r : Refusal}
      (a : Made × Env)
      → MeansVariable G global c t i a → VariablesOffend a.1 global c t vs r → VariablesOffend G global c t (i ∷ vs) r

pub data DeclarationOffends : Env → Bool → Bool → Declaration → Refusal → Type 0 where
  in_declared_type : {G : Env} {global c : Bool} {d : Declaration} {r : Refusal}
      → SpecsOffend G [] [] (to_specs d.specs) r → DeclarationOffends G global c d r
  in_variables : {G : Env} {global c : Bool} {d : Declaration} {r : Refusal} (t : CType × Env)
      → MeansSpecs G [] [] (to_specs d.specs) t → VariablesOffend t.1 global c t.0 d.inits r
      → DeclarationOffends G global c d r
