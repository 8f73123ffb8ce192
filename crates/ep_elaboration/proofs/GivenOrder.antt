-- The functions of the definition against the rules: first values and declarations.
use Rattle.std.proofs.Common.{◌≡◌, [], ◌∷◌, ℕ, Bool, false, List, Option, Some, None, Result, Ok, Err, refl, sym, ◌∙◌}
use Rattle.std.proofs.Common.{subst, inl, inr}
use Rattle.std.specs.Prelude.{suc}
use Rattle.ep_ast.specs.Declaration.{Declaration, Init, Value, Values, listed, more_values, no_values, single, to_specs}
use Rattle.ep_ast.specs.Expression.{Expr}
use Rattle.ep_ast.specs.Mark.{equal}
use Rattle.ep_ast.specs.declared.refusals.Refusal.{Refusal}
use Rattle.ep_elaboration.specs.Aggregates.{specs_declared}
use Rattle.ep_elaboration.specs.Declarations.{Made, declaration, initialised, initialised_by_field, variable_declared}
use Rattle.ep_elaboration.specs.Declarations.{variables_declared}
use Rattle.ep_elaboration.specs.Declarators.{Object, object_declared}
use Rattle.ep_elaboration.specs.Given.{Given, all_given, cleared, count_listed, expression_given, first_values}
use Rattle.ep_elaboration.specs.Given.{line_of_value, object_operand, one_given, part_at, value_given, with_list}
use Rattle.ep_elaboration.specs.FieldStatements.{field_given}
use Rattle.ep_elaboration.specs.GivenOffences.{AllGivenOffend, DeclarationOffends, FirstValueOffends}
use Rattle.ep_elaboration.specs.GivenRules.{MeansAllGiven}
use Rattle.ep_elaboration.specs.GivenOffences.{GivenExpressionOffends, GivenOffends}
use Rattle.ep_elaboration.specs.GivenRules.{MeansDeclaration, MeansFirstValue, MeansGiven, MeansGivenExpression}
use Rattle.ep_elaboration.specs.GivenRules.{MeansVariable, MeansVariables}
use Rattle.ep_elaboration.specs.GivenOffences.{VariableOffends, VariablesOffend}
use Rattle.ep_elaboration.specs.GivenOffences.{NamesFieldAlone, bad_bit_field, bad_given_expression, bad_list}
use Rattle.ep_elaboration.specs.GivenOffences.{field_alone}
use Rattle.ep_elaboration.specs.GivenOffences.{in_declarator, in_declared_type}
use Rattle.ep_elaboration.specs.GivenOffences.{in_expression_too_many, in_first_value, in_first_values}
use Rattle.ep_elaboration.specs.GivenOffences.{in_first_variable, in_given_expression, in_initialiser}
use Rattle.ep_elaboration.specs.GivenOffences.{in_later_value, in_later_variable, in_listed, in_single}
use Rattle.ep_elaboration.specs.GivenRules.{is_declaration, is_first_bit_field, is_first_value, is_given_expression}
use Rattle.ep_elaboration.specs.GivenOffences.{in_variables}
use Rattle.ep_elaboration.specs.GivenRules.{is_listed, is_single, is_variable, more_values_given, more_variables}
use Rattle.ep_elaboration.specs.GivenRules.{no_first_value, no_values_given, no_variables}
use Rattle.ep_elaboration.specs.GivenOffences.{no_constant}
use Rattle.ep_elaboration.specs.GivenOffences.{one_expression_too_many}
use Rattle.ep_core.specs.Program as core
use Rattle.ep_typing.specs.declared.types.FieldRow.{FieldRow}
use Rattle.ep_typing.specs.Env.{Env}
use Rattle.ep_typing.specs.Names.{mentioned}
use Rattle.ep_typing.specs.Results.{at, ◌>>=◌, on_statement}
use Rattle.ep_typing.specs.Typing.{assigned_from, field_of, right_side, typed}
use Rattle.ep_typing.specs.declared.types.CType.{CType}
use Rattle.ep_typing.specs.Offences.{refusal}
use Rattle.ep_typing.proofs.Order.{bind_ok, bind_err, at_ok, at_err, on_ok, on_err, means, meant, refused, first}
use Rattle.ep_typing.proofs.Order.{ok_is}
use Rattle.ep_typing.proofs.FieldOrder.{field_means, field_meant, no_field, nothing, option_view, something}
use Rattle.ep_elaboration.proofs.FieldOrder.{right_alone}
use Rattle.ep_elaboration.proofs.WholeOrder.{meant_right_side, means_right_side, offended_right_side}
use Rattle.ep_elaboration.proofs.WholeOrder.{refused_right_side}
use Rattle.ep_elaboration.proofs.DeclaratorOrder.{meant_object_declared, means_object_declared}
use Rattle.ep_elaboration.proofs.DeclaratorOrder.{offended_object_declared, refused_object_declared}
use Rattle.ep_elaboration.proofs.DeclaratorOrder.{meant_specs_declared, means_specs_declared}
use Rattle.ep_elaboration.proofs.DeclaratorOrder.{offended_specs_declared, refused_specs_declared}

pub meant_expression_given : {G : Env} {global c : Bool} {l : ℕ} {o : Option Object} {e : Expr} {out : Given}
    → MeansGivenExpression G global c l o e out → expression_given G global c l o e ≡ Ok out
unfolding expression_given
meant_expression_given (is_given_expression y w vs p0 p1 p2) = rw (meant_right_side p0, p1, p2) refl

pub means_expression_given : (G : Env) (global : Bool) (c : Bool) (l : ℕ) (o : Option Object) (e : Expr) (out : Given)
    → expression_given G global c l o e ≡ Ok out → MeansGivenExpression G global c l o e out
unfolding expression_given
means_expression_given G global c l (Some x) e out hyp =
    let q0 = bind_ok (right_side G c e) _ out hyp in
    let q1 = bind_ok (at l (assigned_from G.types equal (object_operand x) (object_operand x) q0.0)) _ out q0.2 in
    let q2 = bind_ok (at l (first_values global G.types x q0.0)) _ out q1.2 in
    subst (MeansGivenExpression G global c l (Some x) e) (ok_is _ out q2.2) (is_given_expression q0.0 q1.0 q2.0
    (means_right_side G c e q0.0 q0.1) (at_ok l (assigned_from G.types equal (object_operand x)
    (object_operand x) q0.0) q1.0 q1.1) (at_ok l (first_values global G.types x q0.0) q2.0 q2.1))
means_expression_given G global c l None e out hyp =
    let q0 = bind_ok (typed G e) _ out hyp in
    absurd (let bad = q0.2 in cc)

pub offended_expression_given : {G : Env} {global c : Bool} {l : ℕ} {o : Option Object} {e : Expr} {r : Refusal}
    → GivenExpressionOffends G global c l o e r → expression_given G global c l o e ≡ Err r
unfolding expression_given
offended_expression_given (in_given_expression broken) = rw (offended_right_side broken) refl
offended_expression_given (bad_given_expression y p0 broken) = rw (meant_right_side p0, broken) refl
offended_expression_given (no_constant y w p0 p1 broken) = rw (meant_right_side p0, p1, broken) refl
offended_expression_given (in_expression_too_many {G = G} {e = e} {r = r} broken) = rw (first G e r broken) refl
offended_expression_given (one_expression_too_many {G = G} {e = e} y p0) = rw (meant G e y p0) refl

pub refused_expression_given : (G : Env) (global : Bool) (c : Bool) (l : ℕ) (o : Option Object) (e : Expr)
    (r : Refusal) → expression_given G global c l o e ≡ Err r → GivenExpressionOffends G global c l o e r
unfolding expression_given
refused_expression_given G global c l (Some x) e r hyp = elim (bind_err (right_side G c e) _ r hyp) [
  | inl h0 ↦ in_given_expression (refused_right_side G c e r h0)
  | inr w0 ↦ elim (bind_err (at l (assigned_from G.types equal (object_operand x) (object_operand x) w0.0)) _ r w0.2) [
    | inl h1 ↦ let kind = at_err l (assigned_from G.types equal (object_operand x)
        (object_operand x) w0.0) r h1 in subst (GivenExpressionOffends G global c l (Some x) e) kind.2
        (bad_given_expression w0.0 (means_right_side G c e w0.0 w0.1) kind.1)
    | inr w1 ↦ elim (bind_err (at l (first_values global G.types x w0.0)) _ r w1.2) [
      | inl h2 ↦ let kind = at_err l (first_values global G.types x w0.0) r h2 in subst
          (GivenExpressionOffends G global c l (Some x) e) kind.2 (no_constant w0.0 w1.0
          (means_right_side G c e w0.0 w0.1) (at_ok l (assigned_from G.types equal (object_operand x)
          (object_operand x) w0.0) w1.0 w1.1) kind.1)
      | inr w2 ↦ absurd (let bad = w2.2 in cc)
    ]
  ]
]
refused_expression_given G global c l None e r hyp = elim (bind_err (typed G e) _ r hyp) [
  | inl h0 ↦ in_expression_too_many (refused G e r h0)
  | inr w0 ↦ let same : refusal 32 l ≡ r = (let bad = w0.2 in cc) in subst
      (GivenExpressionOffends G global c l None e) same (one_expression_too_many w0.0 (means G e w0.0 w0.1))
]

mutual
  unfolding value_given all_given

  pub meant_value_given : {G : Env} {global c : Bool} {l : ℕ} {o : Option Object} {v : Value} {out : (Given × Env)}
      → MeansGiven G global c l o v out → value_given G global c l o v ≡ Ok out
  meant_value_given (is_single g p0) = rw (meant_expression_given p0) refl
  meant_value_given (is_listed x g p0 p1) = rw (p0, meant_all_given p1) refl

  pub meant_all_given : {G : Env} {global : Bool} {x : Object} {i : ℕ} {vs : Values} {out : (Given × Env)}
      → MeansAllGiven G global x i vs out → all_given G global x i vs ≡ Ok out
  meant_all_given no_values_given = refl
  meant_all_given (more_values_given a b p0 p1) = rw (meant_value_given p0, meant_all_given p1) refl

mutual
  unfolding value_given all_given

  pub means_value_given : (G : Env) (global : Bool) (c : Bool) (l : ℕ) (o : Option Object) (v : Value) (out :
      (Given × Env)) → value_given G global c l o v ≡ Ok out → MeansGiven G global c l o v out
  means_value_given G global c l o (single e) out hyp =
      let q0 = bind_ok (expression_given (mentioned G e) global c l o e) _ out hyp in
      subst (MeansGiven G global c l o (single e)) (ok_is _ out q0.2) (is_single q0.0 (means_expression_given
      (mentioned G e) global c l o e q0.0 q0.1))
  means_value_given G global c l o (listed m vs) out hyp =
      let q0 = bind_ok (at l (with_list G o vs)) _ out hyp in
      is_listed q0.0 out (at_ok l (with_list G o vs) q0.0 q0.1) (means_all_given G global q0.0 0 vs out q0.2)

  pub means_all_given : (G : Env) (global : Bool) (x : Object) (i : ℕ) (vs : Values) (out : (Given × Env))
      → all_given G global x i vs ≡ Ok out → MeansAllGiven G global x i vs out
  means_all_given G global x i no_values out hyp =
      subst (MeansAllGiven G global x i no_values) (ok_is _ out hyp) (no_values_given)
  means_all_given G global x i (more_values v vs) out hyp =
      let q0 = bind_ok (value_given G global false (line_of_value v) (part_at G.types x i) v) _ out hyp in
      let q1 = bind_ok (all_given q0.0.1 global x (suc i) vs) _ out q0.2 in
      subst (MeansAllGiven G global x i (more_values v vs)) (ok_is _ out q1.2) (more_values_given q0.0 q1.0
      (means_value_given G global false (line_of_value v) (part_at G.types x i) v q0.0 q0.1)
      (means_all_given q0.0.1 global x (suc i) vs q1.0 q1.1))

mutual
  unfolding value_given all_given

  pub offended_value_given : {G : Env} {global c : Bool} {l : ℕ} {o : Option Object} {v : Value} {r : Refusal}
      → GivenOffends G global c l o v r → value_given G global c l o v ≡ Err r
  offended_value_given (in_single broken) = rw (offended_expression_given broken) refl
  offended_value_given (bad_list broken) = rw broken refl
  offended_value_given (in_listed x p0 broken) = rw (p0, offended_all_given broken) refl

  pub offended_all_given : {G : Env} {global : Bool} {x : Object} {i : ℕ} {vs : Values} {r : Refusal}
      → AllGivenOffend G global x i vs r → all_given G global x i vs ≡ Err r
  offended_all_given (in_first_value broken) = rw (offended_value_given broken) refl
  offended_all_given (in_later_value a p0 broken) = rw (meant_value_given p0, offended_all_given broken) refl

mutual
  unfolding value_given all_given

  pub refused_value_given : (G : Env) (global : Bool) (c : Bool) (l : ℕ) (o : Option Object) (v : Value) (r : Refusal)
      → value_given G global c l o v ≡ Err r → GivenOffends G global c l o v r
  refused_value_given G global c l o (single e) r hyp =
      elim (bind_err (expression_given (mentioned G e) global c l o e) _ r hyp) [
        | inl h0 ↦ in_single (refused_expression_given (mentioned G e) global c l o e r h0)
        | inr w0 ↦ absurd (let bad = w0.2 in cc)
      ]
  refused_value_given G global c l o (listed m vs) r hyp = elim (bind_err (at l (with_list G o vs)) _ r hyp) [
    | inl h0 ↦ let kind = at_err l (with_list G o vs) r h0 in subst (GivenOffends G global c l o (listed m vs)) kind.2
        (bad_list kind.1)
    | inr w0 ↦ in_listed w0.0 (at_ok l (with_list G o vs) w0.0 w0.1) (refused_all_given G global w0.0 0 vs r w0.2)
  ]

  pub refused_all_given : (G : Env) (global : Bool) (x : Object) (i : ℕ) (vs : Values) (r : Refusal)
      → all_given G global x i vs ≡ Err r → AllGivenOffend G global x i vs r
  refused_all_given G global x i no_values r hyp = absurd (let bad = hyp in cc)
  refused_all_given G global x i (more_values v vs) r hyp =
      elim (bind_err (value_given G global false (line_of_value v) (part_at G.types x i) v) _ r hyp) [
        | inl h0 ↦ in_first_value (refused_value_given G global false (line_of_value v) (part_at G.types x i) v r h0)
        | inr w0 ↦ elim (bind_err (all_given w0.0.1 global x (suc i) vs) _ r w0.2) [
          | inl h1 ↦ in_later_value w0.0 (means_value_given G global false (line_of_value v)
              (part_at G.types x i) v w0.0 w0.1) (refused_all_given w0.0.1 global x (suc i) vs r h1)
          | inr w1 ↦ absurd (let bad = w1.2 in cc)
        ]
      ]

-- what a first value comes to, whichever way it goes
value_done : Object → Value → Given × Env → Result (Given × Env) Refusal
value_done x v r = Ok (cleared r.1.types x v r.0, r.1)

value_is : (x : Object) (v : Value) (r out : Given × Env) → value_done x v r ≡ Ok out
    → (cleared r.1.types x v r.0, r.1) ≡ out
unfolding value_done
value_is x v r out h = ok_is _ out h

no_value_err : (x : Object) (v : Value) (r : Given × Env) (d : Refusal) → value_done x v r ≡ Err d → ⊥
unfolding value_done
no_value_err x v r d h = cc

field_done : Env → Expr → core.What → Result (Given × Env) Refusal
field_done G e w = Ok (one_given w, mentioned G e)

field_is : (G : Env) (e : Expr) (w : core.What) (out : Given × Env) → field_done G e w ≡ Ok out
    → (one_given w, mentioned G e) ≡ out
unfolding field_done
field_is G e w out h = ok_is _ out h

no_field_err : (G : Env) (e : Expr) (w : core.What) (d : Refusal) → field_done G e w ≡ Err d → ⊥
unfolding field_done
no_field_err G e w d h = cc

-- a bit-field clears nothing
at_once : (G : Env) (x : Object) (e : Expr) (r : Result core.What Refusal)
    → ((r >>= (λ w. field_done G e w)) >>= (λ p. value_done x (single e) p)) ≡ (r >>= (λ w. field_done G e w))
unfolding field_done value_done
at_once G x e (Ok w) = refl
at_once G x e (Err d) = refl

by_field_is : (G : Env) (global c : Bool) (l : ℕ) (x : Object) (e : Expr) (z : core.Place × FieldRow)
    → field_of (mentioned G e) e ≡ Some z
    → initialised G global c l x (Some (single e))
    ≡ ((at l (field_given global l z (object_operand x)) >>= (λ w. field_done G e w)) >>= (λ p. value_done x
    (single e) p))
unfolding initialised initialised_by_field field_done value_done
by_field_is G global c l x e z h = rw h refl

not_by_field_is : (G : Env) (global c : Bool) (l : ℕ) (x : Object) (v : Value)
    → initialised_by_field G global l x v ≡ None
    → initialised G global c l x (Some v)
    ≡ (on_statement l (value_given G global c l (Some x) v) >>= (λ p. value_done x v p))
unfolding initialised value_done
not_by_field_is G global c l x v h = rw h refl

alone_is : {G : Env} (global : Bool) (l : ℕ) (x : Object) (v : Value) → (NamesFieldAlone G v → ⊥)
    → initialised_by_field G global l x v ≡ None
unfolding initialised_by_field
alone_is {G = G} global l x (single e) n = rw (no_field (mentioned G e) e (λ z f. n (field_alone z f))) refl
alone_is global l x (listed m vs) n = refl

given_alone : {G : Env} {global c : Bool} {l : ℕ} {x : Object} {v : Value} {g : Given × Env}
    → MeansGiven G global c l (Some x) v g → NamesFieldAlone G v → ⊥
given_alone (is_single g (is_given_expression y w vs p0 p1 p2)) (field_alone z f) = right_alone p0 f
given_alone (is_listed x g p0 p1) n = elim n [ ]

unnamed : {G : Env} {e : Expr} → field_of (mentioned G e) e ≡ None → NamesFieldAlone G (single e) → ⊥
unnamed {G = G} {e = e} h (field_alone z f) = let k = sym (field_meant (mentioned G e) e z f) ∙ h in cc

list_unnamed : {G : Env} {m : ℕ} {vs : Values} → NamesFieldAlone G (listed m vs) → ⊥
list_unnamed n = elim n [ ]

value_meant : {G : Env} {global c : Bool} {l : ℕ} {x : Object} {v : Value} {g : Given × Env}
    → MeansGiven G global c l (Some x) v g
    → (on_statement l (value_given G global c l (Some x) v) >>= (λ p. value_done x v p))
    ≡ Ok (cleared g.1.types x v g.0, g.1)
unfolding value_done
value_meant p = rw (meant_value_given p) refl

pub meant_initialised : {G : Env} {global c : Bool} {l : ℕ} {x : Object} {v : Option Value} {out : (Given × Env)}
    → MeansFirstValue G global c l x v out → initialised G global c l x v ≡ Ok out
unfolding initialised initialised_by_field
meant_initialised no_first_value = refl
meant_initialised (is_first_bit_field {G = G} {e = e} z w p0 p1) =
    rw (field_meant (mentioned G e) e z p0, p1) refl
meant_initialised (is_first_value {G = G} {global = global} {c = c} {l = l} {x = x} {v = v} g p0) =
    not_by_field_is G global c l x v (alone_is global l x v (λ n. given_alone p0 n)) ∙ value_meant p0

means_value : (G : Env) (global c : Bool) (l : ℕ) (x : Object) (v : Value) (out : Given × Env)
    → initialised_by_field G global l x v ≡ None → initialised G global c l x (Some v) ≡ Ok out
    → MeansFirstValue G global c l x (Some v) out
means_value G global c l x v out h hyp =
    let q0 = bind_ok (on_statement l (value_given G global c l (Some x) v)) (λ p. value_done x v p) out
    (sym (not_by_field_is G global c l x v h) ∙ hyp) in
    subst (MeansFirstValue G global c l x (Some v)) (value_is x v q0.0 out q0.2) (is_first_value q0.0
    (means_value_given G global c l (Some x) v q0.0 (on_ok l (value_given G global c l (Some x) v) q0.0 q0.1)))

pub means_initialised : (G : Env) (global : Bool) (c : Bool) (l : ℕ) (x : Object) (v : Option Value) (out :
    (Given × Env)) → initialised G global c l x v ≡ Ok out → MeansFirstValue G global c l x v out
unfolding initialised
means_initialised G global c l x None out hyp =
    subst (MeansFirstValue G global c l x None) (ok_is _ out hyp) (no_first_value)
means_initialised G global c l x (Some (single e)) out hyp = elim (option_view (field_of (mentioned G e) e)) [
  | nothing h ↦ means_value G global c l x (single e) out (alone_is global l x (single e) (λ n. unnamed h n)) hyp
  | something z h ↦ let q = bind_ok (at l (field_given global l z (object_operand x))) (λ w. field_done G e w) out
      (sym (at_once G x e (at l (field_given global l z (object_operand x)))) ∙ sym (by_field_is G global c l x e z h)
      ∙ hyp) in subst (MeansFirstValue G global c l x (Some (single e))) (field_is G e q.0 out q.2)
      (is_first_bit_field z q.0 (field_means (mentioned G e) e z h) (at_ok l
      (field_given global l z (object_operand x)) q.0 q.1))
]
means_initialised G global c l x (Some (listed m vs)) out hyp =
    means_value G global c l x (listed m vs) out (alone_is {G = G} global l x (listed m vs) (λ n. list_unnamed n)) hyp

pub offended_initialised : {G : Env} {global c : Bool} {l : ℕ} {x : Object} {v : Option Value} {r : Refusal}
    → FirstValueOffends G global c l x v r → initialised G global c l x v ≡ Err r
unfolding initialised initialised_by_field
offended_initialised (bad_bit_field {G = G} {e = e} z p0 broken) =
    rw (field_meant (mentioned G e) e z p0, broken) refl
offended_initialised (in_first_values {G = G} {global = global} {c = c} {l = l} {x = x} {v = v} n broken) =
    not_by_field_is G global c l x v (alone_is global l x v n) ∙ rw (offended_value_given broken) refl

refused_value : (G : Env) (global c : Bool) (l : ℕ) (x : Object) (v : Value) (r : Refusal)
    → (NamesFieldAlone G v → ⊥) → initialised G global c l x (Some v) ≡ Err r
    → FirstValueOffends G global c l x (Some v) r
refused_value G global c l x v r n hyp =
    elim (bind_err (on_statement l (value_given G global c l (Some x) v)) (λ p. value_done x v p) r
    (sym (not_by_field_is G global c l x v (alone_is global l x v n)) ∙ hyp)) [
      | inl h0 ↦ let d = on_err l (value_given G global c l (Some x) v) r h0 in subst
          (FirstValueOffends G global c l x (Some v)) d.2 (in_first_values n (refused_value_given G global c l
          (Some x) v d.0 d.1))
      | inr w0 ↦ absurd (no_value_err x v w0.0 r w0.2)
    ]

pub refused_initialised : (G : Env) (global : Bool) (c : Bool) (l : ℕ) (x : Object) (v : Option Value) (r : Refusal)
    → initialised G global c l x v ≡ Err r → FirstValueOffends G global c l x v r
unfolding initialised
refused_initialised G global c l x None r hyp = absurd (let bad = hyp in cc)
refused_initialised G global c l x (Some (single e)) r hyp = elim (option_view (field_of (mentioned G e) e)) [
  | nothing h ↦ refused_value G global c l x (single e) r (λ n. unnamed h n) hyp
  | something z h ↦ elim (bind_err (at l (field_given global l z (object_operand x))) (λ w. field_done G e w) r
      (sym (at_once G x e (at l (field_given global l z (object_operand x)))) ∙ sym (by_field_is G global c l x e z h)
      ∙ hyp)) [
        | inl h0 ↦ let kind = at_err l (field_given global l z (object_operand x)) r h0 in subst
            (FirstValueOffends G global c l x (Some (single e))) kind.2 (bad_bit_field z
            (field_means (mentioned G e) e z h) kind.1)
        | inr w0 ↦ absurd (no_field_err G e w0.0 r w0.2)
      ]
]
refused_initialised G global c l x (Some (listed m vs)) r hyp =
    refused_value G global c l x (listed m vs) r (λ n. list_unnamed n) hyp

pub meant_variable_declared : {G : Env} {global c : Bool} {t : CType} {i : Init} {out : (Made × Env)}
    → MeansVariable G global c t i out → variable_declared G global c t i ≡ Ok out
unfolding variable_declared
meant_variable_declared (is_variable o g p0 p1) = rw (meant_object_declared p0, meant_initialised p1) refl

pub means_variable_declared : (G : Env) (global : Bool) (c : Bool) (t : CType) (i : Init) (out : (Made × Env))
    → variable_declared G global c t i ≡ Ok out → MeansVariable G global c t i out
unfolding variable_declared
means_variable_declared G global c t i out hyp =
    let q0 = bind_ok (object_declared G global (count_listed i.value) t i.declarator) _ out hyp in
    let q1 = bind_ok (initialised q0.0.1 global c i.declarator.line q0.0.0 i.value) _ out q0.2 in
    subst (MeansVariable G global c t i) (ok_is _ out q1.2) (is_variable q0.0 q1.0 (means_object_declared G global
    (count_listed i.value) t i.declarator q0.0 q0.1) (means_initialised q0.0.1 global c i.declarator.line q0.0.0
    i.value q1.0 q1.1))

pub offended_variable_declared : {G : Env} {global c : Bool} {t : CType} {i : Init} {r : Refusal}
    → VariableOffends G global c t i r → variable_declared G global c t i ≡ Err r
unfolding variable_declared
offended_variable_declared (in_declarator broken) = rw (offended_object_declared broken) refl
offended_variable_declared (in_initialiser o p0 broken) =
    rw (meant_object_declared p0, offended_initialised broken) refl

pub refused_variable_declared : (G : Env) (global : Bool) (c : Bool) (t : CType) (i : Init) (r : Refusal)
    → variable_declared G global c t i ≡ Err r → VariableOffends G global c t i r
unfolding variable_declared
refused_variable_declared G global c t i r hyp =
    elim (bind_err (object_declared G global (count_listed i.value) t i.declarator) _ r hyp) [
      | inl h0 ↦ in_declarator (refused_object_declared G global (count_listed i.value) t i.declarator r h0)
      | inr w0 ↦ elim (bind_err (initialised w0.0.1 global c i.declarator.line w0.0.0 i.value) _ r w0.2) [
        | inl h1 ↦ in_initialiser w0.0 (means_object_declared G global (count_listed i.value) t i.declarator w0.0 w0.1)
            (refused_initialised w0.0.1 global c i.declarator.line w0.0.0 i.value r h1)
        | inr w1 ↦ absurd (let bad = w1.2 in cc)
      ]
    ]

pub meant_variables_declared : {G : Env} {global c : Bool} {t : CType} {vs : List Init} {out : (Made × Env)}
    → MeansVariables G global c t vs out → variables_declared G global c t vs ≡ Ok out
unfolding variables_declared
meant_variables_declared no_variables = refl
meant_variables_declared (more_variables a b p0 p1) =
    rw (meant_variable_declared p0, meant_variables_declared p1) refl

pub means_variables_declared : (G : Env) (global : Bool) (c : Bool) (t : CType) (vs : List Init) (out : (Made × Env))
    → variables_declared G global c t vs ≡ Ok out → MeansVariables G global c t vs out
unfolding variables_declared
means_variables_declared G global c t [] out hyp =
    subst (MeansVariables G global c t []) (ok_is _ out hyp) (no_variables)
means_variables_declared G global c t (i ∷ vs) out hyp =
    let q0 = bind_ok (variable_declared G global c t i) _ out hyp in
    let q1 = bind_ok (variables_declared q0.0.1 global c t vs) _ out q0.2 in
    subst (MeansVariables G global c t (i ∷ vs)) (ok_is _ out q1.2) (more_variables q0.0 q1.0
    (means_variable_declared G global c t i q0.0 q0.1) (means_variables_declared q0.0.1 global c t vs q1.0 q1.1))

pub offended_variables_declared : {G : Env} {global c : Bool} {t : CType} {vs : List Init} {r : Refusal}
    → VariablesOffend G global c t vs r → variables_declared G global c t vs ≡ Err r
unfolding variables_declared
offended_variables_declared (in_first_variable broken) = rw (offended_variable_declared broken) refl
offended_variables_declared (in_later_variable a p0 broken) =
    rw (meant_variable_declared p0, offended_variables_declared broken) refl

pub refused_variables_declared : (G : Env) (global : Bool) (c : Bool) (t : CType) (vs : List Init) (r : Refusal)
    → variables_declared G global c t vs ≡ Err r → VariablesOffend G global c t vs r
unfolding variables_declared
refused_variables_declared G global c t [] r hyp = absurd (let bad = hyp in cc)
refused_variables_declared G global c t (i ∷ vs) r hyp = elim (bind_err (variable_declared G global c t i) _ r hyp) [
  | inl h0 ↦ in_first_variable (refused_variable_declared G global c t i r h0)
  | inr w0 ↦ elim (bind_err (variables_declared w0.0.1 global c t vs) _ r w0.2) [
    | inl h1 ↦ in_later_variable w0.0 (means_variable_declared G global c t i w0.0 w0.1)
        (refused_variables_declared w0.0.1 global c t vs r h1)
    | inr w1 ↦ absurd (let bad = w1.2 in cc)
  ]
]

pub meant_declaration : {G : Env} {global c : Bool} {d : Declaration} {out : (Made × Env)}
    → MeansDeclaration G global c d out → declaration G global c d ≡ Ok out
unfolding declaration
meant_declaration (is_declaration t m p0 p1) = rw (meant_specs_declared p0, meant_variables_declared p1) refl

pub means_declaration : (G : Env) (global : Bool) (c : Bool) (d : Declaration) (out : (Made × Env))
    → declaration G global c d ≡ Ok out → MeansDeclaration G global c d out
unfolding declaration
means_declaration G global c d out hyp =
    let q0 = bind_ok (specs_declared G [] [] (to_specs d.specs)) _ out hyp in
    is_declaration q0.0 out (means_specs_declared G [] [] (to_specs d.specs) q0.0 q0.1)
    (means_variables_declared q0.0.1 global c q0.0.0 d.inits out q0.2)

pub offended_declaration : {G : Env} {global c : Bool} {d : Declaration} {r : Refusal}
    → DeclarationOffends G global c d r → declaration G global c d ≡ Err r
unfolding declaration
offended_declaration (in_declared_type broken) = rw (offended_specs_declared broken) refl
offended_declaration (in_variables t p0 broken) =
    rw (meant_specs_declared p0, offended_variables_declared broken) refl

pub refused_declaration : (G : Env) (global : Bool) (c : Bool) (d : Declaration) (r : Refusal)
    → declaration G global c d ≡ Err r → DeclarationOffends G global c d r
unfolding declaration
refused_declaration G global c d r hyp = elim (bind_err (specs_declared G [] [] (to_specs d.specs)) _ r hyp) [
  | inl h0 ↦ in_declared_type (refused_specs_declared G [] [] (to_specs d.specs) r h0)
  | inr w0 ↦ in_variables w0.0 (means_specs_declared G [] [] (to_specs d.specs) w0.0 w0.1)
      (refused_variables_declared w0.0.1 global c w0.0.0 d.inits r w0.2)
]
