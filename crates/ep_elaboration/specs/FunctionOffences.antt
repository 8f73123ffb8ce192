-- For what heads and functions are refused: the first offence in each, where what stands before it means something.
-- C11 6.7.6.3 and 6.9.1.
use Rattle.std.specs.Prelude.{◌≡◌, [], ◌∷◌, ◌++◌, ◌+◌, ℕ, Bool, true, false, List, Option, Some, None, Ok, Err, length}
use Rattle.ep_ast.specs.Kind as kinds
use Rattle.ep_ast.specs.Declaration.{Head, Param, to_specs}
use Rattle.ep_ast.specs.Expression.{Expr}
use Rattle.ep_ast.specs.Statement.{Function, to_parts}
use Rattle.ep_ast.specs.declared.orders.NamedOrder.{NamedOrder}
use Rattle.ep_ast.specs.declared.refusals.Refusal.{Refusal}
use Rattle.ep_elaboration.specs.Declarators.{with_types}
use Rattle.ep_elaboration.specs.Functions.{Defined, Headed, Typed, behind_result, blocks_if, body_env, first_block}
use Rattle.ep_elaboration.specs.Functions.{function_declared, given_back, params_of, rest_of, results, signature_of}
use Rattle.ep_elaboration.specs.Functions.{with_param}
use Rattle.ep_elaboration.specs.Statements.{entered, innermost, left}
use Rattle.ep_elaboration.specs.DeclaratorRules.{MeansBound, MeansSpecs, MeansWords}
use Rattle.ep_elaboration.specs.DeclaratorOffences.{BoundOffends, BoundsOffend, SpecsOffend, WordsOffend}
use Rattle.ep_elaboration.specs.StatementOffences.{PartsOffend}
use Rattle.ep_typing.specs.Env.{Env}
use Rattle.ep_typing.specs.Types.{with_c_type, with_stars}
use Rattle.ep_typing.specs.declared.types.CType.{CType}
use Rattle.ep_typing.specs.Offences.{refusal}
use Rattle.ep_elaboration.specs.FunctionRules.{MeansParamBounds, MeansParam, MeansHead, MeansFunction, MeansDefinition}
use Rattle.ep_elaboration.specs.FunctionRules.{MeansDefinitions, ArmsAgree}

pub data ParamBoundsOffend : Env → ℕ → List (Option Expr) → Refusal → Type 0 where
  in_open_array : {G : Env} {l : ℕ} {bs : List (Option Expr)} {r : Refusal} → BoundsOffend G l bs r
      → ParamBoundsOffend G l (None ∷ bs) r
  in_array_bound : {G : Env} {l : ℕ} {e : Expr} {bs : List (Option Expr)} {r : Refusal} → BoundOffends G l (Some e) r
      → ParamBoundsOffend G l (Some e ∷ bs) r
  in_element_bounds : {G : Env} {l : ℕ} {e : Expr} {bs : List (Option Expr)} {r : Refusal} (n : ℕ × Env)
      → MeansBound G l (Some e) n → BoundsOffend n.1 l bs r → ParamBoundsOffend G l (Some e ∷ bs) r

pub data ParamOffends : Env → ℕ → Param → Refusal → Type 0 where
  in_param_words : {G : Env} {b : ℕ} {p : Param} {r : Refusal} → WordsOffend G p.words r → ParamOffends G b p r
  in_param_bounds : {G : Env} {b : ℕ} {p : Param} {r : Refusal} (c : CType × Env) → MeansWords G p.words c
      → ParamBoundsOffend c.1 p.line p.bounds r → ParamOffends G b p r
  bad_param : {G : Env} {b : ℕ} {p : Param} {kind : ℕ} (c : CType × Env) (ns : Option (List ℕ) × Env)
      → MeansWords G p.words c → MeansParamBounds c.1 p.line p.bounds ns
      → with_param ns.1 p.name b (with_stars c.0 (length p.stars)) ns.0 ≡ Err kind
      → ParamOffends G b p (refusal kind p.line)

pub data ParamsOffend : Env → ℕ → List Param → Refusal → Type 0 where
  in_first_param : {G : Env} {b : ℕ} {p : Param} {ps : List Param} {r : Refusal} → ParamOffends G b p r
      → ParamsOffend G b (p ∷ ps) r
  in_later_param : {G : Env} {b : ℕ} {p : Param} {ps : List Param} {r : Refusal} (c : CType × Env)
      → MeansParam G b p c → ParamsOffend c.1 (b + 1) ps r → ParamsOffend G b (p ∷ ps) r

pub data HeadOffends : Env → ℕ → Head → Refusal → Type 0 where
  in_result : {G : Env} {b : ℕ} {h : Head} {r : Refusal} → SpecsOffend G [] [] (to_specs h.specs) r
      → HeadOffends G b h r
  bad_result : {G : Env} {b : ℕ} {h : Head} {kind : ℕ} (c : CType × Env) → MeansSpecs G [] [] (to_specs h.specs) c
      → given_back (with_stars c.0 (length h.stars)) ≡ Err kind → HeadOffends G b h (refusal kind h.line)
  in_params : {G : Env} {b : ℕ} {h : Head} {r : Refusal} (c : CType × Env) (t : CType)
      → MeansSpecs G [] [] (to_specs h.specs) c → given_back (with_stars c.0 (length h.stars)) ≡ Ok t
      → ParamsOffend (entered (with_types c.1 (with_c_type c.1.types t))) (behind_result b t) (params_of h.params) r
      → HeadOffends G b h r

pub data PrototypeOffends : Env → List ℕ → Head → Refusal → Type 0 where
  in_prototype : {G : Env} {ds : List ℕ} {h : Head} {r : Refusal} → HeadOffends G (length G.blocks) h r
      → PrototypeOffends G ds h r
  bad_prototype : {G : Env} {ds : List ℕ} {h : Head} {kind : ℕ} (x : Headed × Env) → MeansHead G (length G.blocks) h x
      → function_declared (left x.1) ds false (signature_of h x.0) ≡ Err kind
      → PrototypeOffends G ds h (refusal kind h.line)

pub data FunctionOffends : Env → ℕ → Bool → List ℕ → Function → Refusal → Type 0 where
  in_head : {G : Env} {b : ℕ} {own : Bool} {ds : List ℕ} {f : Function} {r : Refusal} → HeadOffends G b f.head r
      → FunctionOffends G b own ds f r
  bad_function : {G : Env} {b : ℕ} {own : Bool} {ds : List ℕ} {f : Function} {kind : ℕ} (x : Headed × Env)
      → MeansHead G b f.head x → function_declared (left x.1) ds true (signature_of f.head x.0) ≡ Err kind
      → FunctionOffends G b own ds f (refusal kind f.head.line)
  in_body : {G : Env} {b : ℕ} {own : Bool} {ds : List ℕ} {f : Function} {r : Refusal} (x : Headed × Env) (n : ℕ × Env)
      → MeansHead G b f.head x → function_declared (left x.1) ds true (signature_of f.head x.0) ≡ Ok n
      → PartsOffend (body_env (blocks_if own n.1 (results x.0 ++ x.0.params)) (innermost x.1)) x.0.result false
      (to_parts f.body.parts) r
      → FunctionOffends G b own ds f r

pub data DefinitionOffends : Env → List ℕ → Function → Refusal → Type 0 where
  in_function : {G : Env} {ds : List ℕ} {f : Function} {r : Refusal} → FunctionOffends G (length G.blocks) true ds f r
      → DefinitionOffends G ds f r

pub data DefinitionsOffend : Env → List ℕ → List Function → Refusal → Type 0 where
  in_first_definition : {G : Env} {ds : List ℕ} {f : Function} {fs : List Function} {r : Refusal}
      → DefinitionOffends G ds f r → DefinitionsOffend G ds (f ∷ fs) r
  in_later_definition : {G : Env} {ds : List ℕ} {f : Function} {fs : List Function} {r : Refusal} (x : Defined × Env)
      → MeansDefinition G ds f x → DefinitionsOffend x.1 (x.0.number ∷ ds) fs r → DefinitionsOffend G ds (f ∷ fs) r

pub data OthersOffend : Env → List ℕ → List Defined → List Function → Refusal → Type 0 where
  in_first_other : {G : Env} {ds : List ℕ} {xs : List Defined} {f : Function} {fs : List Function} {r : Refusal}
      → FunctionOffends G (first_block xs) false ds f r → OthersOffend G ds xs (f ∷ fs) r
  in_later_other : {G : Env} {ds : List ℕ} {xs : List Defined} {f : Function} {fs : List Function} {r : Refusal}
      (x : Typed × Env)
      → MeansFunction G (first_block xs) false ds f x → OthersOffend x.1 (x.0.number ∷ ds) (rest_of xs) fs r
      → OthersOffend G ds xs (f ∷ fs) r

-- conditional_arms: arms that don't agree
pub data ArmsOffend : Env → List ℕ → ℕ → NamedOrder → List Function → List Function → Refusal → Type 0 where
  bad_arms : {G : Env} {ds : List ℕ} {l : ℕ} {o : NamedOrder} {fs gs : List Function}
      → (ArmsAgree G ds fs gs → ⊥) → ArmsOffend G ds l o fs gs (refusal kinds.conditional_arms l)
  in_arm_named : {G : Env} {ds : List ℕ} {l : ℕ} {o : NamedOrder} {fs gs : List Function} {r : Refusal}
      → ArmsAgree G ds fs gs → DefinitionsOffend G ds fs r → ArmsOffend G ds l o fs gs r
  in_other_arm : {G : Env} {ds : List ℕ} {l : ℕ} {o : NamedOrder} {fs gs : List Function} {r : Refusal}
      (a : List Defined × Env) → ArmsAgree G ds fs gs → MeansDefinitions G ds fs a
      → OthersOffend (record a.1 { scopes = G.scopes }) ds a.0 gs r → ArmsOffend G ds l o fs gs r
