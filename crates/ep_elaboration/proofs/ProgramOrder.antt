-- The functions of the definition against the rules: whole programs.
use Rattle.std.proofs.Common.{◌≡◌, [], ◌∷◌, true, List, Ok, Err, refl, subst, inl, inr}
use Rattle.std.specs.Prelude.{length}
use Rattle.ep_core.specs.Program as core
use Rattle.ep_ast.specs.Statement as tree
use Rattle.ep_ast.specs.Declaration.{to_specs}
use Rattle.ep_ast.specs.Statement.{Item, completes, declares_all, defines, functions_by_order, typedefs}
use Rattle.ep_ast.specs.declared.refusals.Refusal.{Refusal}
use Rattle.ep_elaboration.specs.Aggregates.{body_declared, specs_declared}
use Rattle.ep_elaboration.specs.Calls.{CallSite, calls_of, function_depth}
use Rattle.ep_elaboration.specs.Declarations.{declaration}
use Rattle.ep_elaboration.specs.ProgramSteps.{types_declared}
use Rattle.ep_elaboration.specs.Functions.{Defined, numbers_of, prototype}
use Rattle.ep_elaboration.specs.FunctionSteps.{arms_defined, function_defined}
use Rattle.ep_elaboration.specs.Programs.{Sofar, all_fit, all_have_bodies, begun, functions_in}
use Rattle.ep_elaboration.specs.ProgramSteps.{checked, elaborated}
use Rattle.ep_elaboration.specs.Programs.{main_of, none_recurs, not_too_deep, call_sites_of}
use Rattle.ep_elaboration.specs.ProgramSteps.{item, items}
use Rattle.ep_elaboration.specs.ProgramRules.{IsSound, MeansItem, MeansItems}
use Rattle.ep_elaboration.specs.ProgramOffences.{ItemOffends, ItemsOffend}
use Rattle.ep_elaboration.specs.ProgramRules.{MeansProgram}
use Rattle.ep_elaboration.specs.ProgramOffences.{ProgramOffends, UnsoundBy, in_aggregate, in_arms}
use Rattle.ep_elaboration.specs.ProgramOffences.{in_checks, in_definition, in_first_item, in_global_declaration}
use Rattle.ep_elaboration.specs.ProgramOffences.{in_item_prototype, in_later_item, in_text, in_typedef_specs}
use Rattle.ep_elaboration.specs.ProgramRules.{is_program, is_sound, item_arms, item_completes}
use Rattle.ep_elaboration.specs.ProgramOffences.{in_typedefs}
use Rattle.ep_elaboration.specs.ProgramRules.{item_declares, item_defines, item_prototype, item_typedefs}
use Rattle.ep_elaboration.specs.ProgramRules.{more_items, no_items}
use Rattle.ep_elaboration.specs.ProgramOffences.{no_body, no_main, recursion, too_deep}
use Rattle.ep_elaboration.specs.ProgramOffences.{too_large}
use Rattle.ep_int.specs.declared.types.Model.{Model}
use Rattle.ep_typing.specs.Results.{at, needed}
use Rattle.ep_typing.proofs.Order.{bind_ok, bind_err, at_ok, at_err, ok_is}
use Rattle.ep_elaboration.proofs.DeclaratorOrder.{meant_types_declared, means_types_declared}
use Rattle.ep_elaboration.proofs.DeclaratorOrder.{offended_types_declared, refused_types_declared}
use Rattle.ep_elaboration.proofs.DeclaratorOrder.{meant_specs_declared, meant_body_declared}
use Rattle.ep_elaboration.proofs.DeclaratorOrder.{means_specs_declared, means_body_declared}
use Rattle.ep_elaboration.proofs.DeclaratorOrder.{offended_specs_declared, offended_body_declared}
use Rattle.ep_elaboration.proofs.DeclaratorOrder.{refused_specs_declared, refused_body_declared}
use Rattle.ep_elaboration.proofs.GivenOrder.{meant_declaration, means_declaration, offended_declaration}
use Rattle.ep_elaboration.proofs.GivenOrder.{refused_declaration}
use Rattle.ep_elaboration.proofs.FunctionOrder.{meant_prototype, means_prototype, offended_prototype}
use Rattle.ep_elaboration.proofs.FunctionOrder.{refused_prototype, meant_function_defined}
use Rattle.ep_elaboration.proofs.FunctionOrder.{means_function_defined, offended_function_defined}
use Rattle.ep_elaboration.proofs.FunctionOrder.{refused_function_defined, meant_arms_defined, means_arms_defined}
use Rattle.ep_elaboration.proofs.FunctionOrder.{offended_arms_defined, refused_arms_defined}

pub meant_item : {s : Sofar} {i : Item} {out : Sofar} → MeansItem s i out → item s i ≡ Ok out
unfolding item
meant_item (item_typedefs c H p0 p1) = rw (meant_specs_declared p0, meant_types_declared p1) refl
meant_item (item_defines d p0) = rw (meant_function_defined p0) refl
meant_item (item_prototype H p0) = rw (meant_prototype p0) refl
meant_item (item_declares m p0) = rw (meant_declaration p0) refl
meant_item (item_completes c p0) = rw (meant_body_declared p0) refl
meant_item (item_arms d p0) = rw (meant_arms_defined p0) refl

pub means_item : (s : Sofar) (i : Item) (out : Sofar) → item s i ≡ Ok out → MeansItem s i out
unfolding item
means_item s (typedefs t) out hyp =
    let q0 = bind_ok (specs_declared s.env [] [] (to_specs t.specs)) _ out hyp in
    let q1 = bind_ok (types_declared q0.0.1 q0.0.0 t.declarators) _ out q0.2 in
    subst (MeansItem s (typedefs t)) (ok_is _ out q1.2) (item_typedefs q0.0 q1.0 (means_specs_declared s.env [] []
    (to_specs t.specs) q0.0 q0.1) (means_types_declared q0.0.1 q0.0.0 t.declarators q1.0 q1.1))
means_item s (defines f) out hyp =
    let q0 = bind_ok (function_defined s.env (numbers_of s.defined) f) _ out hyp in
    subst (MeansItem s (defines f)) (ok_is _ out q0.2) (item_defines q0.0 (means_function_defined s.env
    (numbers_of s.defined) f q0.0 q0.1))
means_item s (tree.prototype h) out hyp =
    let q0 = bind_ok (prototype s.env (numbers_of s.defined) h) _ out hyp in
    subst (MeansItem s (tree.prototype h)) (ok_is _ out q0.2) (item_prototype q0.0 (means_prototype s.env
    (numbers_of s.defined) h q0.0 q0.1))
means_item s (declares_all d) out hyp =
    let q0 = bind_ok (declaration s.env true true d) _ out hyp in
    subst (MeansItem s (declares_all d)) (ok_is _ out q0.2) (item_declares q0.0
    (means_declaration s.env true true d q0.0 q0.1))
means_item s (completes a) out hyp =
    let q0 = bind_ok (body_declared s.env [] a) _ out hyp in
    subst (MeansItem s (completes a)) (ok_is _ out q0.2) (item_completes q0.0 (means_body_declared s.env
    [] a q0.0 q0.1))
means_item s (functions_by_order l o fs gs) out hyp =
    let q0 = bind_ok (arms_defined s.env (numbers_of s.defined) l o fs (functions_in gs)) _ out hyp in
    subst (MeansItem s (functions_by_order l o fs gs)) (ok_is _ out q0.2) (item_arms q0.0 (means_arms_defined s.env
    (numbers_of s.defined) l o fs (functions_in gs) q0.0 q0.1))

pub offended_item : {s : Sofar} {i : Item} {r : Refusal} → ItemOffends s i r → item s i ≡ Err r
unfolding item
offended_item (in_typedef_specs broken) = rw (offended_specs_declared broken) refl
offended_item (in_typedefs c p0 broken) = rw (meant_specs_declared p0, offended_types_declared broken) refl
offended_item (in_definition broken) = rw (offended_function_defined broken) refl
offended_item (in_item_prototype broken) = rw (offended_prototype broken) refl
offended_item (in_global_declaration broken) = rw (offended_declaration broken) refl
offended_item (in_aggregate broken) = rw (offended_body_declared broken) refl
offended_item (in_arms broken) = rw (offended_arms_defined broken) refl

pub refused_item : (s : Sofar) (i : Item) (r : Refusal) → item s i ≡ Err r → ItemOffends s i r
unfolding item
refused_item s (typedefs t) r hyp = elim (bind_err (specs_declared s.env [] [] (to_specs t.specs)) _ r hyp) [
  | inl h0 ↦ in_typedef_specs (refused_specs_declared s.env [] [] (to_specs t.specs) r h0)
  | inr w0 ↦ elim (bind_err (types_declared w0.0.1 w0.0.0 t.declarators) _ r w0.2) [
    | inl h1 ↦ in_typedefs w0.0 (means_specs_declared s.env [] [] (to_specs t.specs) w0.0 w0.1)
        (refused_types_declared w0.0.1 w0.0.0 t.declarators r h1)
    | inr w1 ↦ absurd (let bad = w1.2 in cc)
  ]
]
refused_item s (defines f) r hyp = elim (bind_err (function_defined s.env (numbers_of s.defined) f) _ r hyp) [
  | inl h0 ↦ in_definition (refused_function_defined s.env (numbers_of s.defined) f r h0)
  | inr w0 ↦ absurd (let bad = w0.2 in cc)
]
refused_item s (tree.prototype h) r hyp = elim (bind_err (prototype s.env (numbers_of s.defined) h) _ r hyp) [
  | inl h0 ↦ in_item_prototype (refused_prototype s.env (numbers_of s.defined) h r h0)
  | inr w0 ↦ absurd (let bad = w0.2 in cc)
]
refused_item s (declares_all d) r hyp = elim (bind_err (declaration s.env true true d) _ r hyp) [
  | inl h0 ↦ in_global_declaration (refused_declaration s.env true true d r h0)
  | inr w0 ↦ absurd (let bad = w0.2 in cc)
]
refused_item s (completes a) r hyp = elim (bind_err (body_declared s.env [] a) _ r hyp) [
  | inl h0 ↦ in_aggregate (refused_body_declared s.env [] a r h0)
  | inr w0 ↦ absurd (let bad = w0.2 in cc)
]
refused_item s (functions_by_order l o fs gs) r hyp =
    elim (bind_err (arms_defined s.env (numbers_of s.defined) l o fs (functions_in gs)) _ r hyp) [
      | inl h0 ↦ in_arms (refused_arms_defined s.env (numbers_of s.defined) l o fs (functions_in gs) r h0)
      | inr w0 ↦ absurd (let bad = w0.2 in cc)
    ]

pub meant_items : {s : Sofar} {is : List Item} {out : Sofar} → MeansItems s is out → items s is ≡ Ok out
unfolding items
meant_items no_items = refl
meant_items (more_items u v p0 p1) = rw (meant_item p0, meant_items p1) refl

pub means_items : (s : Sofar) (is : List Item) (out : Sofar) → items s is ≡ Ok out → MeansItems s is out
unfolding items
means_items s [] out hyp = subst (MeansItems s []) (ok_is _ out hyp) (no_items)
means_items s (i ∷ is) out hyp =
    let q0 = bind_ok (item s i) _ out hyp in more_items q0.0 out (means_item s i q0.0 q0.1)
    (means_items q0.0 is out q0.2)

pub offended_items : {s : Sofar} {is : List Item} {r : Refusal} → ItemsOffend s is r → items s is ≡ Err r
unfolding items
offended_items (in_first_item broken) = rw (offended_item broken) refl
offended_items (in_later_item u p0 broken) = rw (meant_item p0, offended_items broken) refl

pub refused_items : (s : Sofar) (is : List Item) (r : Refusal) → items s is ≡ Err r → ItemsOffend s is r
unfolding items
refused_items s [] r hyp = absurd (let bad = hyp in cc)
refused_items s (i ∷ is) r hyp = elim (bind_err (item s i) _ r hyp) [
  | inl h0 ↦ in_first_item (refused_item s i r h0)
  | inr w0 ↦ in_later_item w0.0 (means_item s i w0.0 w0.1) (refused_items w0.0 is r w0.2)
]

pub meant_checked : {s : Sofar} {ps : List CallSite} {out : Defined} → IsSound s ps out → checked s ps ≡ Ok out
unfolding checked
meant_checked (is_sound m bodies acyclic shallow small p0 p1 p2 p3 p4) = rw (p0, p1, p2, p3, p4) refl

pub means_checked : (s : Sofar) (ps : List CallSite) (out : Defined) → checked s ps ≡ Ok out → IsSound s ps out
unfolding checked
means_checked s ps out hyp =
    let q0 = bind_ok (at 1 (needed 36 (main_of s.defined))) _ out hyp in
    let q1 = bind_ok (all_have_bodies s.defined (calls_of ps)) _ out q0.2 in
    let q2 = bind_ok (none_recurs s q0.0.number (calls_of ps)) _ out q1.2 in
    let q3 = bind_ok (at q0.0.function.line (not_too_deep (function_depth ps
    (length s.env.functions) q0.0.number))) _ out q2.2 in
    let q4 = bind_ok (at 1 (all_fit s.env.blocks)) _ out q3.2 in
    subst (IsSound s ps) (ok_is _ out q4.2) (is_sound q0.0 q1.0 q2.0 q3.0 q4.0 (at_ok 1 (needed 36
    (main_of s.defined)) q0.0 q0.1) q1.1 q2.1 (at_ok q0.0.function.line (not_too_deep (function_depth ps
    (length s.env.functions) q0.0.number)) q3.0 q3.1) (at_ok 1 (all_fit s.env.blocks) q4.0 q4.1))

pub offended_checked : {s : Sofar} {ps : List CallSite} {r : Refusal} → UnsoundBy s ps r → checked s ps ≡ Err r
unfolding checked
offended_checked (no_main broken) = rw broken refl
offended_checked (no_body m p0 broken) = rw (p0, broken) refl
offended_checked (recursion m bodies p0 p1 broken) = rw (p0, p1, broken) refl
offended_checked (too_deep m bodies acyclic p0 p1 p2 broken) = rw (p0, p1, p2, broken) refl
offended_checked (too_large m bodies acyclic shallow p0 p1 p2 p3 broken) = rw (p0, p1, p2, p3, broken) refl

pub refused_checked : (s : Sofar) (ps : List CallSite) (r : Refusal) → checked s ps ≡ Err r → UnsoundBy s ps r
unfolding checked
refused_checked s ps r hyp = elim (bind_err (at 1 (needed 36 (main_of s.defined))) _ r hyp) [
  | inl h0 ↦ let kind = at_err 1 (needed 36 (main_of s.defined)) r h0 in subst (UnsoundBy s ps) kind.2
      (no_main kind.1)
  | inr w0 ↦ elim (bind_err (all_have_bodies s.defined (calls_of ps)) _ r w0.2) [
    | inl h1 ↦ no_body w0.0 (at_ok 1 (needed 36 (main_of s.defined)) w0.0 w0.1) h1
    | inr w1 ↦ elim (bind_err (none_recurs s w0.0.number (calls_of ps)) _ r w1.2) [
      | inl h2 ↦ recursion w0.0 w1.0 (at_ok 1 (needed 36 (main_of s.defined)) w0.0 w0.1) w1.1 h2
      | inr w2 ↦ elim (bind_err (at w0.0.function.line (not_too_deep (function_depth ps
          (length s.env.functions) w0.0.number))) _ r w2.2) [
            | inl h3 ↦ let kind = at_err w0.0.function.line (not_too_deep (function_depth ps
                (length s.env.functions) w0.0.number)) r h3 in subst (UnsoundBy s ps) kind.2 (too_deep w0.0 w1.0 w2.0
                (at_ok 1 (needed 36 (main_of s.defined)) w0.0 w0.1) w1.1 w2.1 kind.1)
            | inr w3 ↦ elim (bind_err (at 1 (all_fit s.env.blocks)) _ r w3.2) [
              | inl h4 ↦ let kind = at_err 1 (all_fit s.env.blocks) r h4 in subst (UnsoundBy s ps) kind.2
                  (too_large w0.0 w1.0 w2.0 w3.0 (at_ok 1 (needed 36 (main_of s.defined)) w0.0 w0.1) w1.1 w2.1
                  (at_ok w0.0.function.line (not_too_deep (function_depth ps
                  (length s.env.functions) w0.0.number)) w3.0 w3.1) kind.1)
              | inr w4 ↦ absurd (let bad = w4.2 in cc)
            ]
          ]
    ]
  ]
]

pub meant_elaborated : {m : Model} {is : List Item} {out : core.Program} → MeansProgram m is out
    → elaborated m is ≡ Ok out
unfolding elaborated
meant_elaborated (is_program s d p0 p1) = rw (meant_items p0, meant_checked p1) refl

pub means_elaborated : (m : Model) (is : List Item) (out : core.Program) → elaborated m is ≡ Ok out
    → MeansProgram m is out
unfolding elaborated
means_elaborated m is out hyp =
    let q0 = bind_ok (items (begun m) is) _ out hyp in
    let q1 = bind_ok (checked q0.0 (call_sites_of q0.0 is)) _ out q0.2 in
    subst (MeansProgram m is) (ok_is _ out q1.2) (is_program q0.0 q1.0 (means_items (begun m) is q0.0 q0.1)
    (means_checked q0.0 (call_sites_of q0.0 is) q1.0 q1.1))

pub offended_elaborated : {m : Model} {is : List Item} {r : Refusal} → ProgramOffends m is r → elaborated m is ≡ Err r
unfolding elaborated
offended_elaborated (in_text broken) = rw (offended_items broken) refl
offended_elaborated (in_checks s p0 broken) = rw (meant_items p0, offended_checked broken) refl

pub refused_elaborated : (m : Model) (is : List Item) (r : Refusal) → elaborated m is ≡ Err r → ProgramOffends m is r
unfolding elaborated
refused_elaborated m is r hyp = elim (bind_err (items (begun m) is) _ r hyp) [
  | inl h0 ↦ in_text (refused_items (begun m) is r h0)
  | inr w0 ↦ elim (bind_err (checked w0.0 (call_sites_of w0.0 is)) _ r w0.2) [
    | inl h1 ↦ in_checks w0.0 (means_items (begun m) is w0.0 w0.1) (refused_checked w0.0 (call_sites_of w0.0 is) r h1)
    | inr w1 ↦ absurd (let bad = w1.2 in cc)
  ]
]
