-- The functions of the definition against the rules: heads and functions.
use Rattle.std.proofs.Common.{◌≡◌, [], ◌∷◌, ◌++◌, ℕ, Bool, true, false, List, Option, Some, None, Ok, Err, refl}
use Rattle.std.proofs.Common.{◌&&◌, ◌∙◌, Result, ap, subst, sym, inl, inr, true≢false}
use Rattle.std.proofs.lemmas.Bool.{and_parts}
use Rattle.std.specs.Prelude.{◌+◌, length}
use Rattle.ep_ast.specs.Declaration.{Head, Param, to_specs}
use Rattle.ep_ast.specs.Expression.{Expr}
use Rattle.ep_ast.specs.Statement.{Function, to_parts}
use Rattle.ep_ast.specs.declared.orders.NamedOrder.{NamedOrder}
use Rattle.ep_ast.specs.declared.refusals.Refusal.{Refusal}
use Rattle.ep_elaboration.specs.Aggregates.{specs_declared, words_declared}
use Rattle.ep_elaboration.specs.Declarators.{bound, bounds, with_types}
use Rattle.ep_elaboration.specs.Functions.{Body, Defined, Headed, Typed, are_named_alike}
use Rattle.ep_elaboration.specs.FunctionSteps.{agreeing, are_alike}
use Rattle.ep_elaboration.specs.Functions.{is_same_signature}
use Rattle.ep_elaboration.specs.FunctionSteps.{are_typed_alike, arms_agree, arms_defined, is_alike}
use Rattle.ep_elaboration.specs.FunctionSteps.{stands_alone}
use Rattle.ep_elaboration.specs.Functions.{behind_result, blocks_if, body_env, first_block, function_declared}
use Rattle.ep_elaboration.specs.Functions.{given_back, headed}
use Rattle.ep_elaboration.specs.FunctionSteps.{function_defined, function_typed, functions_defined}
use Rattle.ep_elaboration.specs.Functions.{param_bounds, param_declared, params_declared, params_of}
use Rattle.ep_elaboration.specs.FunctionSteps.{others_typed}
use Rattle.ep_elaboration.specs.Functions.{prototype, rest_of, results, signature_of, with_param}
use Rattle.ep_elaboration.specs.Statements.{entered, innermost, left, parts}
use Rattle.ep_elaboration.specs.FunctionRules.{ArmsAgree}
use Rattle.ep_elaboration.specs.FunctionOffences.{ArmsOffend, DefinitionOffends, DefinitionsOffend}
use Rattle.ep_elaboration.specs.FunctionRules.{StandsAlone, is_alone, more_arms, no_arms}
use Rattle.ep_elaboration.specs.FunctionOffences.{FunctionOffends}
use Rattle.ep_elaboration.specs.FunctionRules.{MeansArms, MeansDefinition, MeansDefinitions}
use Rattle.ep_elaboration.specs.FunctionOffences.{HeadOffends}
use Rattle.ep_elaboration.specs.FunctionRules.{MeansFunction, MeansHead, MeansOthers, MeansParam}
use Rattle.ep_elaboration.specs.FunctionRules.{MeansParamBounds, MeansParams, MeansPrototype}
use Rattle.ep_elaboration.specs.FunctionOffences.{OthersOffend}
use Rattle.ep_elaboration.specs.FunctionOffences.{ParamBoundsOffend, ParamOffends, ParamsOffend, PrototypeOffends}
use Rattle.ep_elaboration.specs.FunctionOffences.{bad_arms, bad_function, bad_param, bad_prototype, bad_result}
use Rattle.ep_elaboration.specs.FunctionRules.{bound_array}
use Rattle.ep_elaboration.specs.FunctionOffences.{in_arm_named, in_array_bound, in_body}
use Rattle.ep_elaboration.specs.FunctionOffences.{in_element_bounds, in_first_definition, in_first_other}
use Rattle.ep_elaboration.specs.FunctionOffences.{in_first_param, in_function, in_head, in_later_definition}
use Rattle.ep_elaboration.specs.FunctionOffences.{in_later_other, in_later_param, in_open_array, in_other_arm}
use Rattle.ep_elaboration.specs.FunctionOffences.{in_param_bounds, in_param_words, in_params, in_prototype}
use Rattle.ep_elaboration.specs.FunctionRules.{is_arms, is_definition, is_function, is_head, is_param}
use Rattle.ep_elaboration.specs.FunctionOffences.{in_result}
use Rattle.ep_elaboration.specs.FunctionRules.{is_prototype, more_definitions, more_others, more_params}
use Rattle.ep_elaboration.specs.FunctionRules.{no_array, no_definitions, no_others, no_params, open_array}
use Rattle.ep_typing.specs.Env.{Env}
use Rattle.ep_typing.specs.Results.{at}
use Rattle.ep_typing.specs.Offences.{refusal}
use Rattle.ep_typing.specs.Types.{with_c_type, with_stars}
use Rattle.ep_typing.specs.declared.types.CType.{CType}
use Rattle.ep_typing.proofs.Order.{bind_ok, bind_err, at_ok, at_err, ok_is}
use Rattle.ep_elaboration.proofs.DeclaratorOrder.{meant_bound, means_bound, offended_bound, refused_bound}
use Rattle.ep_elaboration.proofs.DeclaratorOrder.{meant_bounds, means_bounds, offended_bounds, refused_bounds}
use Rattle.ep_elaboration.proofs.DeclaratorOrder.{meant_words_declared, means_words_declared}
use Rattle.ep_elaboration.proofs.DeclaratorOrder.{offended_words_declared, refused_words_declared}
use Rattle.ep_elaboration.proofs.DeclaratorOrder.{meant_specs_declared, means_specs_declared}
use Rattle.ep_elaboration.proofs.DeclaratorOrder.{offended_specs_declared, refused_specs_declared}
use Rattle.ep_elaboration.proofs.StatementOrder.{meant_parts, means_parts, offended_parts, refused_parts}

pub meant_param_bounds : {G : Env} {l : ℕ} {bs : List (Option Expr)} {out : (Option (List ℕ) × Env)}
    → MeansParamBounds G l bs out → param_bounds G l bs ≡ Ok out
unfolding param_bounds
meant_param_bounds no_array = refl
meant_param_bounds (open_array ns p0) = rw (meant_bounds p0) refl
meant_param_bounds (bound_array n ns p0 p1) = rw (meant_bound p0, meant_bounds p1) refl

pub means_param_bounds : (G : Env) (l : ℕ) (bs : List (Option Expr)) (out : (Option (List ℕ) × Env))
    → param_bounds G l bs ≡ Ok out → MeansParamBounds G l bs out
unfolding param_bounds
means_param_bounds G l [] out hyp = subst (MeansParamBounds G l []) (ok_is _ out hyp) (no_array)
means_param_bounds G l (None ∷ bs) out hyp =
    let q0 = bind_ok (bounds G l bs) _ out hyp in
    subst (MeansParamBounds G l (None ∷ bs)) (ok_is _ out q0.2) (open_array q0.0 (means_bounds G l bs q0.0 q0.1))
means_param_bounds G l (Some e ∷ bs) out hyp =
    let q0 = bind_ok (bound G l (Some e)) _ out hyp in
    let q1 = bind_ok (bounds q0.0.1 l bs) _ out q0.2 in
    subst (MeansParamBounds G l (Some e ∷ bs)) (ok_is _ out q1.2) (bound_array q0.0 q1.0 (means_bound G l
    (Some e) q0.0 q0.1) (means_bounds q0.0.1 l bs q1.0 q1.1))

pub offended_param_bounds : {G : Env} {l : ℕ} {bs : List (Option Expr)} {r : Refusal} → ParamBoundsOffend G l bs r
    → param_bounds G l bs ≡ Err r
unfolding param_bounds
offended_param_bounds (in_open_array broken) = rw (offended_bounds broken) refl
offended_param_bounds (in_array_bound broken) = rw (offended_bound broken) refl
offended_param_bounds (in_element_bounds n p0 broken) = rw (meant_bound p0, offended_bounds broken) refl

pub refused_param_bounds : (G : Env) (l : ℕ) (bs : List (Option Expr)) (r : Refusal) → param_bounds G l bs ≡ Err r
    → ParamBoundsOffend G l bs r
unfolding param_bounds
refused_param_bounds G l [] r hyp = absurd (let bad = hyp in cc)
refused_param_bounds G l (None ∷ bs) r hyp = elim (bind_err (bounds G l bs) _ r hyp) [
  | inl h0 ↦ in_open_array (refused_bounds G l bs r h0)
  | inr w0 ↦ absurd (let bad = w0.2 in cc)
]
refused_param_bounds G l (Some e ∷ bs) r hyp = elim (bind_err (bound G l (Some e)) _ r hyp) [
  | inl h0 ↦ in_array_bound (refused_bound G l (Some e) r h0)
  | inr w0 ↦ elim (bind_err (bounds w0.0.1 l bs) _ r w0.2) [
    | inl h1 ↦ in_element_bounds w0.0 (means_bound G l (Some e) w0.0 w0.1) (refused_bounds w0.0.1 l bs r h1)
    | inr w1 ↦ absurd (let bad = w1.2 in cc)
  ]
]

pub meant_param_declared : {G : Env} {b : ℕ} {p : Param} {out : (CType × Env)} → MeansParam G b p out
    → param_declared G b p ≡ Ok out
unfolding param_declared
meant_param_declared (is_param c ns d p0 p1 p2) = rw (meant_words_declared p0, meant_param_bounds p1, p2) refl

pub means_param_declared : (G : Env) (b : ℕ) (p : Param) (out : (CType × Env)) → param_declared G b p ≡ Ok out
    → MeansParam G b p out
unfolding param_declared
means_param_declared G b p out hyp =
    let q0 = bind_ok (words_declared G p.words) _ out hyp in
    let q1 = bind_ok (param_bounds q0.0.1 p.line p.bounds) _ out q0.2 in
    is_param q0.0 q1.0 out (means_words_declared G p.words q0.0 q0.1) (means_param_bounds q0.0.1 p.line p.bounds q1.0
    q1.1) (at_ok p.line (with_param q1.0.1 p.name b (with_stars q0.0.0 (length p.stars)) q1.0.0) out q1.2)

pub offended_param_declared : {G : Env} {b : ℕ} {p : Param} {r : Refusal} → ParamOffends G b p r
    → param_declared G b p ≡ Err r
unfolding param_declared
offended_param_declared (in_param_words broken) = rw (offended_words_declared broken) refl
offended_param_declared (in_param_bounds c p0 broken) =
    rw (meant_words_declared p0, offended_param_bounds broken) refl
offended_param_declared (bad_param c ns p0 p1 broken) =
    rw (meant_words_declared p0, meant_param_bounds p1, broken) refl

pub refused_param_declared : (G : Env) (b : ℕ) (p : Param) (r : Refusal) → param_declared G b p ≡ Err r
    → ParamOffends G b p r
unfolding param_declared
refused_param_declared G b p r hyp = elim (bind_err (words_declared G p.words) _ r hyp) [
  | inl h0 ↦ in_param_words (refused_words_declared G p.words r h0)
  | inr w0 ↦ elim (bind_err (param_bounds w0.0.1 p.line p.bounds) _ r w0.2) [
    | inl h1 ↦ in_param_bounds w0.0 (means_words_declared G p.words w0.0 w0.1)
        (refused_param_bounds w0.0.1 p.line p.bounds r h1)
    | inr w1 ↦ let kind = at_err p.line (with_param w1.0.1 p.name b (with_stars w0.0.0
        (length p.stars)) w1.0.0) r w1.2 in subst (ParamOffends G b p) kind.2 (bad_param w0.0 w1.0
        (means_words_declared G p.words w0.0 w0.1) (means_param_bounds w0.0.1 p.line p.bounds w1.0 w1.1) kind.1)
  ]
]

pub meant_params_declared : {G : Env} {b : ℕ} {ps : List Param} {out : (List CType × Env)} → MeansParams G b ps out
    → params_declared G b ps ≡ Ok out
unfolding params_declared
meant_params_declared no_params = refl
meant_params_declared (more_params c cs p0 p1) = rw (meant_param_declared p0, meant_params_declared p1) refl

pub means_params_declared : (G : Env) (b : ℕ) (ps : List Param) (out : (List CType × Env))
    → params_declared G b ps ≡ Ok out → MeansParams G b ps out
unfolding params_declared
means_params_declared G b [] out hyp = subst (MeansParams G b []) (ok_is _ out hyp) (no_params)
means_params_declared G b (p ∷ ps) out hyp =
    let q0 = bind_ok (param_declared G b p) _ out hyp in
    let q1 = bind_ok (params_declared q0.0.1 (b + 1) ps) _ out q0.2 in
    subst (MeansParams G b (p ∷ ps)) (ok_is _ out q1.2) (more_params q0.0 q1.0 (means_param_declared G b p q0.0 q0.1)
    (means_params_declared q0.0.1 (b + 1) ps q1.0 q1.1))

pub offended_params_declared : {G : Env} {b : ℕ} {ps : List Param} {r : Refusal} → ParamsOffend G b ps r
    → params_declared G b ps ≡ Err r
unfolding params_declared
offended_params_declared (in_first_param broken) = rw (offended_param_declared broken) refl
offended_params_declared (in_later_param c p0 broken) =
    rw (meant_param_declared p0, offended_params_declared broken) refl

pub refused_params_declared : (G : Env) (b : ℕ) (ps : List Param) (r : Refusal) → params_declared G b ps ≡ Err r
    → ParamsOffend G b ps r
unfolding params_declared
refused_params_declared G b [] r hyp = absurd (let bad = hyp in cc)
refused_params_declared G b (p ∷ ps) r hyp = elim (bind_err (param_declared G b p) _ r hyp) [
  | inl h0 ↦ in_first_param (refused_param_declared G b p r h0)
  | inr w0 ↦ elim (bind_err (params_declared w0.0.1 (b + 1) ps) _ r w0.2) [
    | inl h1 ↦ in_later_param w0.0 (means_param_declared G b p w0.0 w0.1) (refused_params_declared w0.0.1
        (b + 1) ps r h1)
    | inr w1 ↦ absurd (let bad = w1.2 in cc)
  ]
]

pub meant_headed : {G : Env} {b : ℕ} {h : Head} {out : (Headed × Env)} → MeansHead G b h out → headed G b h ≡ Ok out
unfolding headed
meant_headed (is_head c t ps p0 p1 p2) = rw (meant_specs_declared p0, p1, meant_params_declared p2) refl

pub means_headed : (G : Env) (b : ℕ) (h : Head) (out : (Headed × Env)) → headed G b h ≡ Ok out → MeansHead G b h out
unfolding headed
means_headed G b h out hyp =
    let q0 = bind_ok (specs_declared G [] [] (to_specs h.specs)) _ out hyp in
    let q1 = bind_ok (at h.line (given_back (with_stars q0.0.0 (length h.stars)))) _ out q0.2 in
    let q2 = bind_ok (params_declared (entered (with_types q0.0.1 (with_c_type q0.0.1.types q1.0)))
    (behind_result b q1.0) (params_of h.params)) _ out q1.2 in
    subst (MeansHead G b h) (ok_is _ out q2.2) (is_head q0.0 q1.0 q2.0 (means_specs_declared G [] []
    (to_specs h.specs) q0.0 q0.1) (at_ok h.line (given_back (with_stars q0.0.0 (length h.stars))) q1.0 q1.1)
    (means_params_declared (entered (with_types q0.0.1 (with_c_type q0.0.1.types q1.0))) (behind_result b q1.0)
    (params_of h.params) q2.0 q2.1))

pub offended_headed : {G : Env} {b : ℕ} {h : Head} {r : Refusal} → HeadOffends G b h r → headed G b h ≡ Err r
unfolding headed
offended_headed (in_result broken) = rw (offended_specs_declared broken) refl
offended_headed (bad_result c p0 broken) = rw (meant_specs_declared p0, broken) refl
offended_headed (in_params c t p0 p1 broken) = rw (meant_specs_declared p0, p1, offended_params_declared broken) refl

pub refused_headed : (G : Env) (b : ℕ) (h : Head) (r : Refusal) → headed G b h ≡ Err r → HeadOffends G b h r
unfolding headed
refused_headed G b h r hyp = elim (bind_err (specs_declared G [] [] (to_specs h.specs)) _ r hyp) [
  | inl h0 ↦ in_result (refused_specs_declared G [] [] (to_specs h.specs) r h0)
  | inr w0 ↦ elim (bind_err (at h.line (given_back (with_stars w0.0.0 (length h.stars)))) _ r w0.2) [
    | inl h1 ↦ let kind = at_err h.line (given_back (with_stars w0.0.0 (length h.stars))) r h1 in subst
        (HeadOffends G b h) kind.2 (bad_result w0.0 (means_specs_declared G [] []
        (to_specs h.specs) w0.0 w0.1) kind.1)
    | inr w1 ↦ elim (bind_err (params_declared (entered (with_types w0.0.1 (with_c_type w0.0.1.types w1.0)))
        (behind_result b w1.0) (params_of h.params)) _ r w1.2) [
          | inl h2 ↦ in_params w0.0 w1.0 (means_specs_declared G [] [] (to_specs h.specs) w0.0 w0.1) (at_ok h.line
              (given_back (with_stars w0.0.0 (length h.stars))) w1.0 w1.1) (refused_params_declared (entered
              (with_types w0.0.1 (with_c_type w0.0.1.types w1.0))) (behind_result b w1.0) (params_of h.params) r h2)
          | inr w2 ↦ absurd (let bad = w2.2 in cc)
        ]
  ]
]

pub meant_prototype : {G : Env} {ds : List ℕ} {h : Head} {out : Env} → MeansPrototype G ds h out
    → prototype G ds h ≡ Ok out
unfolding prototype
meant_prototype (is_prototype x n p0 p1) = rw (meant_headed p0, p1) refl

pub means_prototype : (G : Env) (ds : List ℕ) (h : Head) (out : Env) → prototype G ds h ≡ Ok out
    → MeansPrototype G ds h out
unfolding prototype
means_prototype G ds h out hyp =
    let q0 = bind_ok (headed G (length G.blocks) h) _ out hyp in
    let q1 = bind_ok (at h.line (function_declared (left q0.0.1) ds false (signature_of h q0.0.0))) _ out q0.2 in
    subst (MeansPrototype G ds h) (ok_is _ out q1.2) (is_prototype q0.0 q1.0 (means_headed G
    (length G.blocks) h q0.0 q0.1) (at_ok h.line (function_declared (left q0.0.1) ds false
    (signature_of h q0.0.0)) q1.0 q1.1))

pub offended_prototype : {G : Env} {ds : List ℕ} {h : Head} {r : Refusal} → PrototypeOffends G ds h r
    → prototype G ds h ≡ Err r
unfolding prototype
offended_prototype (in_prototype broken) = rw (offended_headed broken) refl
offended_prototype (bad_prototype x p0 broken) = rw (meant_headed p0, broken) refl

pub refused_prototype : (G : Env) (ds : List ℕ) (h : Head) (r : Refusal) → prototype G ds h ≡ Err r
    → PrototypeOffends G ds h r
unfolding prototype
refused_prototype G ds h r hyp = elim (bind_err (headed G (length G.blocks) h) _ r hyp) [
  | inl h0 ↦ in_prototype (refused_headed G (length G.blocks) h r h0)
  | inr w0 ↦ elim (bind_err (at h.line (function_declared (left w0.0.1) ds false (signature_of h w0.0.0))) _ r w0.2) [
    | inl h1 ↦ let kind = at_err h.line (function_declared (left w0.0.1) ds false
        (signature_of h w0.0.0)) r h1 in subst (PrototypeOffends G ds h) kind.2 (bad_prototype w0.0 (means_headed G
        (length G.blocks) h w0.0 w0.1) kind.1)
    | inr w1 ↦ absurd (let bad = w1.2 in cc)
  ]
]

pub meant_function_typed : {G : Env} {b : ℕ} {own : Bool} {ds : List ℕ} {f : Function} {out : (Typed × Env)}
    → MeansFunction G b own ds f out → function_typed G b own ds f ≡ Ok out
unfolding function_typed
meant_function_typed (is_function x n a p0 p1 p2) = rw (meant_headed p0, p1, meant_parts p2) refl

pub means_function_typed : (G : Env) (b : ℕ) (own : Bool) (ds : List ℕ) (f : Function) (out : (Typed × Env))
    → function_typed G b own ds f ≡ Ok out → MeansFunction G b own ds f out
unfolding function_typed
means_function_typed G b own ds f out hyp =
    let q0 = bind_ok (headed G b f.head) _ out hyp in
    let q1 = bind_ok (at f.head.line (function_declared (left q0.0.1) ds true
    (signature_of f.head q0.0.0))) _ out q0.2 in
    let q2 = bind_ok (parts (body_env (blocks_if own q1.0.1 (results q0.0.0 ++ q0.0.0.params))
    (innermost q0.0.1)) q0.0.0.result false (to_parts f.body.parts)) _ out q1.2 in
    subst (MeansFunction G b own ds f) (ok_is _ out q2.2) (is_function q0.0 q1.0 q2.0
    (means_headed G b f.head q0.0 q0.1) (at_ok f.head.line (function_declared (left q0.0.1) ds true
    (signature_of f.head q0.0.0)) q1.0 q1.1) (means_parts (body_env (blocks_if own q1.0.1
    (results q0.0.0 ++ q0.0.0.params)) (innermost q0.0.1)) q0.0.0.result false (to_parts f.body.parts) q2.0 q2.1))

pub offended_function_typed : {G : Env} {b : ℕ} {own : Bool} {ds : List ℕ} {f : Function} {r : Refusal}
    → FunctionOffends G b own ds f r → function_typed G b own ds f ≡ Err r
unfolding function_typed
offended_function_typed (in_head broken) = rw (offended_headed broken) refl
offended_function_typed (bad_function x p0 broken) = rw (meant_headed p0, broken) refl
offended_function_typed (in_body x n p0 p1 broken) = rw (meant_headed p0, p1, offended_parts broken) refl

pub refused_function_typed : (G : Env) (b : ℕ) (own : Bool) (ds : List ℕ) (f : Function) (r : Refusal)
    → function_typed G b own ds f ≡ Err r → FunctionOffends G b own ds f r
unfolding function_typed
refused_function_typed G b own ds f r hyp = elim (bind_err (headed G b f.head) _ r hyp) [
  | inl h0 ↦ in_head (refused_headed G b f.head r h0)
  | inr w0 ↦ elim (bind_err (at f.head.line (function_declared (left w0.0.1) ds true
      (signature_of f.head w0.0.0))) _ r w0.2) [
        | inl h1 ↦ let kind = at_err f.head.line (function_declared (left w0.0.1) ds true
            (signature_of f.head w0.0.0)) r h1 in subst (FunctionOffends G b own ds f) kind.2 (bad_function w0.0
            (means_headed G b f.head w0.0 w0.1) kind.1)
        | inr w1 ↦ elim (bind_err (parts (body_env (blocks_if own w1.0.1 (results w0.0.0 ++ w0.0.0.params))
            (innermost w0.0.1)) w0.0.0.result false (to_parts f.body.parts)) _ r w1.2) [
              | inl h2 ↦ in_body w0.0 w1.0 (means_headed G b f.head w0.0 w0.1) (at_ok f.head.line (function_declared
                  (left w0.0.1) ds true (signature_of f.head w0.0.0)) w1.0 w1.1) (refused_parts (body_env
                  (blocks_if own w1.0.1 (results w0.0.0 ++ w0.0.0.params)) (innermost w0.0.1)) w0.0.0.result false
                  (to_parts f.body.parts) r h2)
              | inr w2 ↦ absurd (let bad = w2.2 in cc)
            ]
      ]
]

pub meant_function_defined : {G : Env} {ds : List ℕ} {f : Function} {out : (Defined × Env)}
    → MeansDefinition G ds f out → function_defined G ds f ≡ Ok out
unfolding function_defined
meant_function_defined (is_definition x p0) = rw (meant_function_typed p0) refl

pub means_function_defined : (G : Env) (ds : List ℕ) (f : Function) (out : (Defined × Env))
    → function_defined G ds f ≡ Ok out → MeansDefinition G ds f out
unfolding function_defined
means_function_defined G ds f out hyp =
    let q0 = bind_ok (function_typed G (length G.blocks) true ds f) _ out hyp in
    subst (MeansDefinition G ds f) (ok_is _ out q0.2) (is_definition q0.0 (means_function_typed G
    (length G.blocks) true ds f q0.0 q0.1))

pub offended_function_defined : {G : Env} {ds : List ℕ} {f : Function} {r : Refusal} → DefinitionOffends G ds f r
    → function_defined G ds f ≡ Err r
unfolding function_defined
offended_function_defined (in_function broken) = rw (offended_function_typed broken) refl

pub refused_function_defined : (G : Env) (ds : List ℕ) (f : Function) (r : Refusal) → function_defined G ds f ≡ Err r
    → DefinitionOffends G ds f r
unfolding function_defined
refused_function_defined G ds f r hyp = elim (bind_err (function_typed G (length G.blocks) true ds f) _ r hyp) [
  | inl h0 ↦ in_function (refused_function_typed G (length G.blocks) true ds f r h0)
  | inr w0 ↦ absurd (let bad = w0.2 in cc)
]

pub meant_functions_defined : {G : Env} {ds : List ℕ} {fs : List Function} {out : (List Defined × Env)}
    → MeansDefinitions G ds fs out → functions_defined G ds fs ≡ Ok out
unfolding functions_defined
meant_functions_defined no_definitions = refl
meant_functions_defined (more_definitions x y p0 p1) = rw (meant_function_defined p0, meant_functions_defined p1) refl

pub means_functions_defined : (G : Env) (ds : List ℕ) (fs : List Function) (out : (List Defined × Env))
    → functions_defined G ds fs ≡ Ok out → MeansDefinitions G ds fs out
unfolding functions_defined
means_functions_defined G ds [] out hyp = subst (MeansDefinitions G ds []) (ok_is _ out hyp) (no_definitions)
means_functions_defined G ds (f ∷ fs) out hyp =
    let q0 = bind_ok (function_defined G ds f) _ out hyp in
    let q1 = bind_ok (functions_defined q0.0.1 (q0.0.0.number ∷ ds) fs) _ out q0.2 in
    subst (MeansDefinitions G ds (f ∷ fs)) (ok_is _ out q1.2) (more_definitions q0.0 q1.0
    (means_function_defined G ds f q0.0 q0.1) (means_functions_defined q0.0.1 (q0.0.0.number ∷ ds) fs q1.0 q1.1))

pub offended_functions_defined : {G : Env} {ds : List ℕ} {fs : List Function} {r : Refusal}
    → DefinitionsOffend G ds fs r → functions_defined G ds fs ≡ Err r
unfolding functions_defined
offended_functions_defined (in_first_definition broken) = rw (offended_function_defined broken) refl
offended_functions_defined (in_later_definition x p0 broken) =
    rw (meant_function_defined p0, offended_functions_defined broken) refl

pub refused_functions_defined : (G : Env) (ds : List ℕ) (fs : List Function) (r : Refusal)
    → functions_defined G ds fs ≡ Err r → DefinitionsOffend G ds fs r
unfolding functions_defined
refused_functions_defined G ds [] r hyp = absurd (let bad = hyp in cc)
refused_functions_defined G ds (f ∷ fs) r hyp = elim (bind_err (function_defined G ds f) _ r hyp) [
  | inl h0 ↦ in_first_definition (refused_function_defined G ds f r h0)
  | inr w0 ↦ elim (bind_err (functions_defined w0.0.1 (w0.0.0.number ∷ ds) fs) _ r w0.2) [
    | inl h1 ↦ in_later_definition w0.0 (means_function_defined G ds f w0.0 w0.1) (refused_functions_defined w0.0.1
        (w0.0.0.number ∷ ds) fs r h1)
    | inr w1 ↦ absurd (let bad = w1.2 in cc)
  ]
]

pub meant_others_typed : {G : Env} {ds : List ℕ} {xs : List Defined} {gs : List Function} {out : (List Body × Env)}
    → MeansOthers G ds xs gs out → others_typed G ds xs gs ≡ Ok out
unfolding others_typed
meant_others_typed no_others = refl
meant_others_typed (more_others x y p0 p1) = rw (meant_function_typed p0, meant_others_typed p1) refl

pub means_others_typed : (G : Env) (ds : List ℕ) (xs : List Defined) (gs : List Function) (out : (List Body × Env))
    → others_typed G ds xs gs ≡ Ok out → MeansOthers G ds xs gs out
unfolding others_typed
means_others_typed G ds xs [] out hyp = subst (MeansOthers G ds xs []) (ok_is _ out hyp) (no_others)
means_others_typed G ds xs (f ∷ fs) out hyp =
    let q0 = bind_ok (function_typed G (first_block xs) false ds f) _ out hyp in
    let q1 = bind_ok (others_typed q0.0.1 (q0.0.0.number ∷ ds) (rest_of xs) fs) _ out q0.2 in
    subst (MeansOthers G ds xs (f ∷ fs)) (ok_is _ out q1.2) (more_others q0.0 q1.0 (means_function_typed G
    (first_block xs) false ds f q0.0 q0.1) (means_others_typed q0.0.1 (q0.0.0.number ∷ ds) (rest_of xs) fs q1.0 q1.1))

pub offended_others_typed : {G : Env} {ds : List ℕ} {xs : List Defined} {gs : List Function} {r : Refusal}
    → OthersOffend G ds xs gs r → others_typed G ds xs gs ≡ Err r
unfolding others_typed
offended_others_typed (in_first_other broken) = rw (offended_function_typed broken) refl
offended_others_typed (in_later_other x p0 broken) = rw (meant_function_typed p0, offended_others_typed broken) refl

pub refused_others_typed : (G : Env) (ds : List ℕ) (xs : List Defined) (gs : List Function) (r : Refusal)
    → others_typed G ds xs gs ≡ Err r → OthersOffend G ds xs gs r
unfolding others_typed
refused_others_typed G ds xs [] r hyp = absurd (let bad = hyp in cc)
refused_others_typed G ds xs (f ∷ fs) r hyp = elim (bind_err (function_typed G (first_block xs) false ds f) _ r hyp) [
  | inl h0 ↦ in_first_other (refused_function_typed G (first_block xs) false ds f r h0)
  | inr w0 ↦ elim (bind_err (others_typed w0.0.1 (w0.0.0.number ∷ ds) (rest_of xs) fs) _ r w0.2) [
    | inl h1 ↦ in_later_other w0.0 (means_function_typed G (first_block xs) false ds f w0.0 w0.1)
        (refused_others_typed w0.0.1 (w0.0.0.number ∷ ds) (rest_of xs) fs r h1)
    | inr w1 ↦ absurd (let bad = w1.2 in cc)
  ]
]

-- ---- two arms

alone_meant : {G : Env} {ds : List ℕ} {h : Head} {r : Headed × Env} → StandsAlone G ds h r → stands_alone G ds h ≡ Ok r
alone_meant (is_alone x n p d) = rw (meant_headed p, d) refl

means_alone : (G : Env) (ds : List ℕ) (h : Head) (r : Headed × Env) → stands_alone G ds h ≡ Ok r → StandsAlone G ds h r
means_alone G ds h r hyp =
    let x = bind_ok (headed G (length G.blocks) h) _ r hyp in
    let n = bind_ok (at h.line (function_declared (left x.0.1) ds true (signature_of h x.0.0))) _ r x.2 in
    subst (StandsAlone G ds h) (ok_is _ r n.2) (is_alone x.0 n.0 (means_headed G (length G.blocks) h x.0 x.1)
    (at_ok h.line (function_declared (left x.0.1) ds true (signature_of h x.0.0)) n.0 n.1))

-- two heads of one type, where both can stand here
abbrev AreOfOneType : Env → List ℕ → Head → Head → Type 0
AreOfOneType G ds h k = (r q : Headed × Env) → StandsAlone G ds h r → StandsAlone r.1 ds k q
    → is_same_signature (signature_of h r.0) (signature_of k q.0) ≡ true

alike_types : (G : Env) (ds : List ℕ) (h k : Head) → are_alike G ds h k ≡ true → AreOfOneType G ds h k
unfolding are_alike
alike_types G ds h k e r q a b =
    sym (ap (λ (y : Result (Headed × Env) Refusal). is_alike h r k y) (alone_meant b))
    ∙ sym (ap (λ (x : Result (Headed × Env) Refusal). are_typed_alike G ds h x k) (alone_meant a)) ∙ e

types_alike : (G : Env) (ds : List ℕ) (h k : Head) → AreOfOneType G ds h k → are_alike G ds h k ≡ true
unfolding are_alike
types_alike G ds h k f = by (stands_alone G ds h) refl
  where
    second : (r : Headed × Env) → StandsAlone G ds h r → (y : Result (Headed × Env) Refusal)
        → stands_alone r.1 ds k ≡ y → is_alike h r k y ≡ true
    second r a (Err s) e = refl
    second r a (Ok q) e = f r q a (means_alone r.1 ds k q e)

    by : (x : Result (Headed × Env) Refusal) → stands_alone G ds h ≡ x → are_typed_alike G ds h x k ≡ true
    by (Err s) e = refl
    by (Ok r) e = second r (means_alone G ds h r e) (stands_alone r.1 ds k) refl

agree_alike : {G : Env} {ds : List ℕ} {fs gs : List Function} → ArmsAgree G ds fs gs → arms_agree G ds fs gs ≡ true
unfolding arms_agree
agree_alike no_arms = refl
agree_alike {G = G} {ds = ds} (more_arms {f = f} {g = g} h m) =
    rw (h.names, types_alike G ds f.head g.head h.types, agree_alike m) refl

alike_agree : (G : Env) (ds : List ℕ) (fs gs : List Function) → arms_agree G ds fs gs ≡ true → ArmsAgree G ds fs gs
unfolding arms_agree
alike_agree G ds [] [] e = no_arms
alike_agree G ds [] (g ∷ gs) e = absurd (true≢false (sym e))
alike_agree G ds (f ∷ fs) [] e = absurd (true≢false (sym e))
alike_agree G ds (f ∷ fs) (g ∷ gs) e =
    let p = and_parts (are_named_alike f.head g.head && are_alike G ds f.head g.head) (arms_agree G ds fs gs) e in
    let q = and_parts (are_named_alike f.head g.head) (are_alike G ds f.head g.head) p.0 in
    more_arms (record { names = q.0; types = alike_types G ds f.head g.head q.1 }) (alike_agree G ds fs gs p.1)

agreed : {G : Env} {ds : List ℕ} {fs gs : List Function} → ArmsAgree G ds fs gs
    → agreeing (arms_agree G ds fs gs) ≡ Ok true
agreed m = rw (agree_alike m) refl

agrees : (b y : Bool) → agreeing b ≡ Ok y → b ≡ true
agrees true y e = refl
agrees false y e = absurd cc

arms_so : (G : Env) (ds : List ℕ) (l : ℕ) (fs gs : List Function) (y : Bool)
    → at l (agreeing (arms_agree G ds fs gs)) ≡ Ok y → ArmsAgree G ds fs gs
arms_so G ds l fs gs y e =
    alike_agree G ds fs gs (agrees (arms_agree G ds fs gs) y (at_ok l (agreeing (arms_agree G ds fs gs)) y e))

differing : {G : Env} {ds : List ℕ} {fs gs : List Function} → (ArmsAgree G ds fs gs → ⊥) → arms_agree G ds fs gs ≡ false
differing {G = G} {ds = ds} {fs = fs} {gs = gs} n = by (arms_agree G ds fs gs) refl
  where
    by : (b : Bool) → arms_agree G ds fs gs ≡ b → b ≡ false
    by true e = absurd (n (alike_agree G ds fs gs e))
    by false e = refl

never_agreed : (b : Bool) (k : ℕ) → agreeing b ≡ Err k → (b ≡ false) × (38 ≡ k)
never_agreed true k e = absurd cc
never_agreed false k e = (refl, cc)

refused_agreeing : (G : Env) (ds : List ℕ) (l : ℕ) (o : NamedOrder) (fs gs : List Function) (k : ℕ)
    → agreeing (arms_agree G ds fs gs) ≡ Err k → ArmsOffend G ds l o fs gs (refusal k l)
refused_agreeing G ds l o fs gs k e =
    let b = never_agreed (arms_agree G ds fs gs) k e in
    subst (λ (j : ℕ). ArmsOffend G ds l o fs gs (refusal j l)) b.1
    (bad_arms (λ m. true≢false (sym (agree_alike m) ∙ b.0)))

pub meant_arms_defined : {G : Env} {ds : List ℕ} {l : ℕ} {o : NamedOrder} {fs gs : List Function} {out :
    (List Defined × Env)} → MeansArms G ds l o fs gs out → arms_defined G ds l o fs gs ≡ Ok out
unfolding arms_defined
meant_arms_defined (is_arms a b m p1 p2) = rw (agreed m, meant_functions_defined p1, meant_others_typed p2) refl

pub means_arms_defined : (G : Env) (ds : List ℕ) (l : ℕ) (o : NamedOrder) (fs : List Function) (gs : List Function)
    (out : (List Defined × Env)) → arms_defined G ds l o fs gs ≡ Ok out → MeansArms G ds l o fs gs out
unfolding arms_defined
means_arms_defined G ds l o fs gs out hyp =
    let q0 = bind_ok (at l (agreeing (arms_agree G ds fs gs))) _ out hyp in
    let q1 = bind_ok (functions_defined G ds fs) _ out q0.2 in
    let q2 = bind_ok (others_typed (record q1.0.1 { scopes = G.scopes }) ds q1.0.0 gs) _ out q1.2 in
    subst (MeansArms G ds l o fs gs) (ok_is _ out q2.2) (is_arms q1.0 q2.0 (arms_so G ds l fs gs q0.0 q0.1)
    (means_functions_defined G ds fs q1.0 q1.1) (means_others_typed
    (record q1.0.1 { scopes = G.scopes }) ds q1.0.0 gs q2.0 q2.1))

pub offended_arms_defined : {G : Env} {ds : List ℕ} {l : ℕ} {o : NamedOrder} {fs gs : List Function} {r : Refusal}
    → ArmsOffend G ds l o fs gs r → arms_defined G ds l o fs gs ≡ Err r
unfolding arms_defined
offended_arms_defined (bad_arms n) = rw (differing n) refl
offended_arms_defined (in_arm_named m broken) = rw (agreed m, offended_functions_defined broken) refl
offended_arms_defined (in_other_arm a m p1 broken) =
    rw (agreed m, meant_functions_defined p1, offended_others_typed broken) refl

pub refused_arms_defined : (G : Env) (ds : List ℕ) (l : ℕ) (o : NamedOrder) (fs : List Function) (gs : List Function)
    (r : Refusal) → arms_defined G ds l o fs gs ≡ Err r → ArmsOffend G ds l o fs gs r
unfolding arms_defined
refused_arms_defined G ds l o fs gs r hyp = elim (bind_err (at l (agreeing (arms_agree G ds fs gs))) _ r hyp) [
  | inl h0 ↦ let kind = at_err l (agreeing (arms_agree G ds fs gs)) r h0 in subst (ArmsOffend G ds l o fs gs) kind.2
      (refused_agreeing G ds l o fs gs kind.0 kind.1)
  | inr w0 ↦ elim (bind_err (functions_defined G ds fs) _ r w0.2) [
    | inl h1 ↦ in_arm_named (arms_so G ds l fs gs w0.0 w0.1)
        (refused_functions_defined G ds fs r h1)
    | inr w1 ↦ elim (bind_err (others_typed (record w1.0.1 { scopes = G.scopes }) ds w1.0.0 gs) _ r w1.2) [
      | inl h2 ↦ in_other_arm w1.0 (arms_so G ds l fs gs w0.0 w0.1)
          (means_functions_defined G ds fs w1.0 w1.1) (refused_others_typed
          (record w1.0.1 { scopes = G.scopes }) ds w1.0.0 gs r h2)
      | inr w2 ↦ absurd (let bad = w2.2 in cc)
    ]
  ]
]
