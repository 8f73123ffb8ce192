-- The functions of the definition against the rules: statements.
use Rattle.std.proofs.Common.{◌≡◌, ℕ, Bool, true, false, List, Option, Some, None, Result, Ok, Err, refl, sym, ◌∙◌}
use Rattle.std.proofs.Common.{ap, subst, inl, inr}
use Rattle.ep_core.specs.Program as core
use Rattle.ep_ast.specs.Expression.{Expr, line_of}
use Rattle.ep_ast.specs.Statement.{First, Part, Parts, Stmt, Stmts, arm, block, break_loop, continue_loop, declares}
use Rattle.ep_ast.specs.Statement.{declares_in, do_loop, evaluate, evaluates, for_loop, if_else, if_then, more_parts}
use Rattle.ep_ast.specs.Statement.{more_stmts, no_parts, no_stmts, return_value, states, two_arms, while_loop}
use Rattle.ep_ast.specs.declared.refusals.Refusal.{Refusal}
use Rattle.ep_elaboration.specs.Declarations.{Line, declaration}
use Rattle.ep_elaboration.specs.Statements.{entered, evaluated_if, evaluated_in, first_part, jump, left}
use Rattle.ep_elaboration.specs.Statements.{nothing_returned, one_line, operand_returned, part, parts, statement}
use Rattle.ep_elaboration.specs.Statements.{statements}
use Rattle.ep_elaboration.specs.Statements.{tested_if, tested_in}
use Rattle.ep_elaboration.specs.StatementOffences.{EvaluationIfOffends, EvaluationOffends, FirstOffends}
use Rattle.ep_elaboration.specs.StatementRules.{MeansEvaluation, MeansEvaluationIf, MeansFirst, MeansPart}
use Rattle.ep_elaboration.specs.StatementRules.{MeansParts, MeansStatement, MeansStatements, MeansTestIf}
use Rattle.ep_elaboration.specs.StatementRules.{MeansTestIn}
use Rattle.ep_elaboration.specs.StatementOffences.{PartOffends, PartsOffend, StatementOffends}
use Rattle.ep_elaboration.specs.StatementOffences.{StatementsOffend, TestIfOffends, TestInOffends, bad_break}
use Rattle.ep_elaboration.specs.StatementRules.{first_declares}
use Rattle.ep_elaboration.specs.StatementOffences.{bad_continue, bad_return, bad_returned}
use Rattle.ep_elaboration.specs.StatementRules.{first_evaluates}
use Rattle.ep_elaboration.specs.StatementOffences.{in_arm, in_block, in_declaration, in_do}
use Rattle.ep_elaboration.specs.StatementOffences.{in_do_test, in_else, in_evaluated, in_evaluation, in_field_statement}
use Rattle.ep_elaboration.specs.StatementOffences.{in_first_arm}
use Rattle.ep_elaboration.specs.StatementOffences.{in_first_declaration, in_first_evaluation, in_first_part}
use Rattle.ep_elaboration.specs.StatementOffences.{in_first_statement, in_for, in_for_first, in_for_next}
use Rattle.ep_elaboration.specs.StatementOffences.{in_for_test, in_if, in_if_else_test, in_if_test, in_later_part}
use Rattle.ep_elaboration.specs.StatementOffences.{in_later_statement, in_returned, in_second_arm}
use Rattle.ep_elaboration.specs.StatementOffences.{in_some_evaluation, in_some_test, in_statement, in_test_in}
use Rattle.ep_elaboration.specs.StatementRules.{is_arm, is_block, is_break}
use Rattle.ep_elaboration.specs.StatementOffences.{in_then, in_while, in_while_test}
use Rattle.ep_elaboration.specs.StatementRules.{is_continue, is_do, is_evaluated, is_evaluation, is_field_statement}
use Rattle.ep_elaboration.specs.StatementRules.{is_for, is_if}
use Rattle.ep_elaboration.specs.StatementRules.{is_if_else, is_nothing, is_test_in, is_two_arms, is_while}
use Rattle.ep_elaboration.specs.StatementRules.{more_statements, no_evaluation, no_parts_left, no_statements}
use Rattle.ep_elaboration.specs.StatementRules.{no_test, one_part_more, part_declares, part_states}
use Rattle.ep_elaboration.specs.StatementRules.{returns_nothing, returns_value, some_evaluation, some_test}
use Rattle.ep_typing.specs.Env.{Env}
use Rattle.ep_typing.specs.Names.{mentioned}
use Rattle.ep_typing.specs.Results.{at, ◌>>=◌, on_statement}
use Rattle.ep_typing.specs.Typing.{test, typed, whole_statement}
use Rattle.ep_typing.specs.declared.types.CType.{CType}
use Rattle.ep_typing.proofs.Order.{bind_ok, bind_err, at_ok, at_err, on_ok, on_err, means, meant, refused, first}
use Rattle.ep_typing.proofs.Order.{ok_is}
use Rattle.ep_elaboration.specs.FieldStatements.{field_statement}
use Rattle.ep_elaboration.proofs.FieldOrder.{by_field, otherwise, statement_view, not_by_field, whole_alone}
use Rattle.ep_elaboration.proofs.FieldOrder.{meant_field_statement, means_field_statement}
use Rattle.ep_elaboration.proofs.FieldOrder.{offended_field_statement, refused_field_statement}
use Rattle.ep_elaboration.proofs.WholeOrder.{meant_test, means_test, offended_test, refused_test}
use Rattle.ep_elaboration.proofs.WholeOrder.{meant_whole_statement, means_whole_statement}
use Rattle.ep_elaboration.proofs.WholeOrder.{offended_whole_statement, refused_whole_statement}
use Rattle.ep_elaboration.proofs.GivenOrder.{meant_declaration, means_declaration, offended_declaration}
use Rattle.ep_elaboration.proofs.GivenOrder.{refused_declaration}

pub meant_tested_in : {G : Env} {e : Expr} {out : (core.Expr × Env)} → MeansTestIn G e out → tested_in G e ≡ Ok out
unfolding tested_in
meant_tested_in (is_test_in w p0) = rw (meant_test p0) refl

pub means_tested_in : (G : Env) (e : Expr) (out : (core.Expr × Env)) → tested_in G e ≡ Ok out → MeansTestIn G e out
unfolding tested_in
means_tested_in G e out hyp =
    let q0 = bind_ok (test (mentioned G e) e) _ out hyp in
    subst (MeansTestIn G e) (ok_is _ out q0.2) (is_test_in q0.0 (means_test (mentioned G e) e q0.0 q0.1))

pub offended_tested_in : {G : Env} {e : Expr} {r : Refusal} → TestInOffends G e r → tested_in G e ≡ Err r
unfolding tested_in
offended_tested_in (in_test_in broken) = rw (offended_test broken) refl

pub refused_tested_in : (G : Env) (e : Expr) (r : Refusal) → tested_in G e ≡ Err r → TestInOffends G e r
unfolding tested_in
refused_tested_in G e r hyp = elim (bind_err (test (mentioned G e) e) _ r hyp) [
  | inl h0 ↦ in_test_in (refused_test (mentioned G e) e r h0)
  | inr w0 ↦ absurd (let bad = w0.2 in cc)
]

pub meant_tested_if : {G : Env} {e : Option Expr} {out : (core.Expr × Env)} → MeansTestIf G e out
    → tested_if G e ≡ Ok out
unfolding tested_if
meant_tested_if no_test = refl
meant_tested_if (some_test t p0) = rw (meant_tested_in p0) refl

pub means_tested_if : (G : Env) (e : Option Expr) (out : (core.Expr × Env)) → tested_if G e ≡ Ok out
    → MeansTestIf G e out
unfolding tested_if
means_tested_if G None out hyp = subst (MeansTestIf G None) (ok_is _ out hyp) (no_test)
means_tested_if G (Some e) out hyp = some_test out (means_tested_in G e out hyp)

pub offended_tested_if : {G : Env} {e : Option Expr} {r : Refusal} → TestIfOffends G e r → tested_if G e ≡ Err r
unfolding tested_if
offended_tested_if (in_some_test broken) = rw (offended_tested_in broken) refl

pub refused_tested_if : (G : Env) (e : Option Expr) (r : Refusal) → tested_if G e ≡ Err r → TestIfOffends G e r
unfolding tested_if
refused_tested_if G None r hyp = absurd (let bad = hyp in cc)
refused_tested_if G (Some e) r hyp = in_some_test (refused_tested_in G e r hyp)

-- what a statement comes to, whichever way it goes
line_done : ℕ → Expr → Env → core.What → Result (List Line × Env) Refusal
line_done l e G w = Ok (one_line l w, mentioned G e)

by_field_is : (G : Env) (c : Bool) (l : ℕ) (e : Expr) (r : Result core.What Refusal)
    → field_statement (mentioned G e) l e ≡ Some r
    → evaluated_in G c l e ≡ (r >>= (λ w. line_done l e G w))
unfolding evaluated_in line_done
by_field_is G c l e r h = rw h refl

otherwise_is : (G : Env) (c : Bool) (l : ℕ) (e : Expr) → field_statement (mentioned G e) l e ≡ None
    → evaluated_in G c l e ≡ (whole_statement (mentioned G e) c e >>= (λ w. line_done l e G w))
unfolding evaluated_in line_done
otherwise_is G c l e h = rw h refl

line_is : (l : ℕ) (e : Expr) (G : Env) (w : core.What) (out : List Line × Env) → line_done l e G w ≡ Ok out
    → (one_line l w, mentioned G e) ≡ out
unfolding line_done
line_is l e G w out h = ok_is _ out h

no_line_err : (l : ℕ) (e : Expr) (G : Env) (w : core.What) (r : Refusal) → line_done l e G w ≡ Err r → ⊥
unfolding line_done
no_line_err l e G w r h = cc

pub meant_evaluated_in : {G : Env} {c : Bool} {l : ℕ} {e : Expr} {out : (List Line × Env)}
    → MeansEvaluation G c l e out → evaluated_in G c l e ≡ Ok out
unfolding evaluated_in
meant_evaluated_in (is_evaluation {G = G} {l = l} {e = e} w p0) =
    rw (not_by_field (mentioned G e) l e (λ n. whole_alone p0 n), meant_whole_statement p0) refl
meant_evaluated_in (is_field_statement w p0) = rw (meant_field_statement p0) refl

pub means_evaluated_in : (G : Env) (c : Bool) (l : ℕ) (e : Expr) (out : (List Line × Env))
    → evaluated_in G c l e ≡ Ok out → MeansEvaluation G c l e out
means_evaluated_in G c l e out hyp = elim (statement_view (mentioned G e) l e) [
  | by_field r h n ↦ let q = bind_ok r (λ w. line_done l e G w) out (sym (by_field_is G c l e r h) ∙ hyp) in subst
      (MeansEvaluation G c l e) (line_is l e G q.0 out q.2) (is_field_statement q.0 (means_field_statement
      (mentioned G e) l e q.0 (h ∙ ap (λ (x : Result core.What Refusal). Some x) q.1)))
  | otherwise h n ↦ let q = bind_ok (whole_statement (mentioned G e) c e) (λ w. line_done l e G w) out
      (sym (otherwise_is G c l e h) ∙ hyp) in subst (MeansEvaluation G c l e) (line_is l e G q.0 out q.2)
      (is_evaluation q.0 (means_whole_statement (mentioned G e) c e q.0 q.1))
]

pub offended_evaluated_in : {G : Env} {c : Bool} {l : ℕ} {e : Expr} {r : Refusal} → EvaluationOffends G c l e r
    → evaluated_in G c l e ≡ Err r
unfolding evaluated_in
offended_evaluated_in (in_evaluation {G = G} {l = l} {e = e} n broken) =
    rw (not_by_field (mentioned G e) l e n, offended_whole_statement broken) refl
offended_evaluated_in (in_field_statement broken) = rw (offended_field_statement broken) refl

pub refused_evaluated_in : (G : Env) (c : Bool) (l : ℕ) (e : Expr) (r : Refusal) → evaluated_in G c l e ≡ Err r
    → EvaluationOffends G c l e r
refused_evaluated_in G c l e r hyp = elim (statement_view (mentioned G e) l e) [
  | by_field d h n ↦ elim (bind_err d (λ w. line_done l e G w) r (sym (by_field_is G c l e d h) ∙ hyp)) [
    | inl h0 ↦ in_field_statement (refused_field_statement (mentioned G e) l e r
        (h ∙ ap (λ (x : Result core.What Refusal). Some x) h0))
    | inr w0 ↦ absurd (no_line_err l e G w0.0 r w0.2)
  ]
  | otherwise h n ↦ elim (bind_err (whole_statement (mentioned G e) c e) (λ w. line_done l e G w) r
      (sym (otherwise_is G c l e h) ∙ hyp)) [
        | inl h0 ↦ in_evaluation n (refused_whole_statement (mentioned G e) c e r h0)
        | inr w0 ↦ absurd (no_line_err l e G w0.0 r w0.2)
      ]
]

pub meant_evaluated_if : {G : Env} {e : Option Expr} {out : (List Line × Env)} → MeansEvaluationIf G e out
    → evaluated_if G e ≡ Ok out
unfolding evaluated_if
meant_evaluated_if no_evaluation = refl
meant_evaluated_if (some_evaluation w p0) = rw (meant_evaluated_in p0) refl

pub means_evaluated_if : (G : Env) (e : Option Expr) (out : (List Line × Env)) → evaluated_if G e ≡ Ok out
    → MeansEvaluationIf G e out
unfolding evaluated_if
means_evaluated_if G None out hyp = subst (MeansEvaluationIf G None) (ok_is _ out hyp) (no_evaluation)
means_evaluated_if G (Some e) out hyp = some_evaluation out (means_evaluated_in G false (line_of e) e out hyp)

pub offended_evaluated_if : {G : Env} {e : Option Expr} {r : Refusal} → EvaluationIfOffends G e r
    → evaluated_if G e ≡ Err r
unfolding evaluated_if
offended_evaluated_if (in_some_evaluation broken) = rw (offended_evaluated_in broken) refl

pub refused_evaluated_if : (G : Env) (e : Option Expr) (r : Refusal) → evaluated_if G e ≡ Err r
    → EvaluationIfOffends G e r
unfolding evaluated_if
refused_evaluated_if G None r hyp = absurd (let bad = hyp in cc)
refused_evaluated_if G (Some e) r hyp = in_some_evaluation (refused_evaluated_in G false (line_of e) e r hyp)

pub meant_first_part : {G : Env} (l : ℕ) {f : First} {out : (List Line × Env)} → MeansFirst G f out
    → first_part G l f ≡ Ok out
unfolding first_part
meant_first_part l (first_declares m p0) = rw (meant_declaration p0) refl
meant_first_part l (first_evaluates w p0) = rw (meant_evaluated_if p0) refl

pub means_first_part : (G : Env) (l : ℕ) (f : First) (out : (List Line × Env)) → first_part G l f ≡ Ok out
    → MeansFirst G f out
unfolding first_part
means_first_part G l (declares d) out hyp =
    let q0 = bind_ok (declaration G false false d) _ out hyp in
    subst (MeansFirst G (declares d)) (ok_is _ out q0.2) (first_declares q0.0
    (means_declaration G false false d q0.0 q0.1))
means_first_part G l (evaluates e) out hyp =
    first_evaluates out (means_evaluated_if G e out (on_ok l (evaluated_if G e) out hyp))

pub offended_first_part : {G : Env} {l : ℕ} {f : First} {r : Refusal} → FirstOffends G l f r
    → first_part G l f ≡ Err r
unfolding first_part
offended_first_part (in_first_declaration broken) = rw (offended_declaration broken) refl
offended_first_part (in_first_evaluation broken) = rw (offended_evaluated_if broken) refl

pub refused_first_part : (G : Env) (l : ℕ) (f : First) (r : Refusal) → first_part G l f ≡ Err r
    → FirstOffends G l f r
unfolding first_part
refused_first_part G l (declares d) r hyp = elim (bind_err (declaration G false false d) _ r hyp) [
  | inl h0 ↦ in_first_declaration (refused_declaration G false false d r h0)
  | inr w0 ↦ absurd (let bad = w0.2 in cc)
]
refused_first_part G l (evaluates e) r hyp =
    let d = on_err l (evaluated_if G e) r hyp in
    subst (FirstOffends G l (evaluates e)) d.2 (in_first_evaluation (refused_evaluated_if G e d.0 d.1))

mutual
  unfolding statement statements part parts

  pub meant_statement : {G : Env} {c : CType} {i : Bool} {s : Stmt} {out : (List Line × Env)}
      → MeansStatement G c i s out → statement G c i s ≡ Ok out
  meant_statement (is_block b p0) = rw (meant_parts p0) refl
  meant_statement is_nothing = refl
  meant_statement (is_evaluated w p0) = rw (meant_evaluated_in p0) refl
  meant_statement (is_if t a p0 p1) = rw (meant_tested_in p0, meant_statement p1) refl
  meant_statement (is_if_else t a b p0 p1 p2) = rw (meant_tested_in p0, meant_statement p1, meant_statement p2) refl
  meant_statement (is_while t a p0 p1) = rw (meant_tested_in p0, meant_statement p1) refl
  meant_statement (is_do a t p0 p1) = rw (meant_statement p0, meant_tested_in p1) refl
  meant_statement (is_for {l = l} p t q a p0 p1 p2 p3) =
      rw (meant_first_part l p0, meant_tested_if p1, meant_evaluated_if p2, meant_statement p3) refl
  meant_statement (is_break b p0) = rw (p0) refl
  meant_statement (is_continue b p0) = rw (p0) refl
  meant_statement (returns_nothing w p0) = rw (p0) refl
  meant_statement (returns_value {G = G} {e = e} x w p0 p1) = rw (meant (mentioned G e) e x p0, p1) refl

  pub meant_statements : {G : Env} {c : CType} {i : Bool} {ss : Stmts} {out : (List Line × Env)}
      → MeansStatements G c i ss out → statements G c i ss ≡ Ok out
  meant_statements no_statements = refl
  meant_statements (more_statements a b p0 p1) = rw (meant_statement p0, meant_statements p1) refl

  pub meant_part : {G : Env} {c : CType} {i : Bool} {p : Part} {out : (List Line × Env)} → MeansPart G c i p out
      → part G c i p ≡ Ok out
  meant_part (part_declares m p0) = rw (meant_declaration p0) refl
  meant_part (part_states a p0) = rw (meant_statement p0) refl
  meant_part (is_arm a p0) = rw (meant_statements p0) refl
  meant_part (is_two_arms a b p0 p1) = rw (meant_statements p0, meant_statements p1) refl

  pub meant_parts : {G : Env} {c : CType} {i : Bool} {ps : Parts} {out : (List Line × Env)} → MeansParts G c i ps out
      → parts G c i ps ≡ Ok out
  meant_parts no_parts_left = refl
  meant_parts (one_part_more a b p0 p1) = rw (meant_part p0, meant_parts p1) refl

mutual
  unfolding statement statements part parts

  pub means_statement : (G : Env) (c : CType) (i : Bool) (s : Stmt) (out : (List Line × Env))
      → statement G c i s ≡ Ok out → MeansStatement G c i s out
  means_statement G c i (block l ps) out hyp =
      let q0 = bind_ok (parts (entered G) c i ps) _ out hyp in
      subst (MeansStatement G c i (block l ps)) (ok_is _ out q0.2) (is_block q0.0 (means_parts
      (entered G) c i ps q0.0 q0.1))
  means_statement G c i (evaluate l None) out hyp =
      subst (MeansStatement G c i (evaluate l None)) (ok_is _ out hyp) (is_nothing)
  means_statement G c i (evaluate l (Some e)) out hyp =
      is_evaluated out (means_evaluated_in G true l e out (on_ok l (evaluated_in G true l e) out hyp))
  means_statement G c i (if_then l e s) out hyp =
      let q0 = bind_ok (on_statement l (tested_in (entered G) e)) _ out hyp in
      let q1 = bind_ok (statement (entered q0.0.1) c i s) _ out q0.2 in
      subst (MeansStatement G c i (if_then l e s)) (ok_is _ out q1.2) (is_if q0.0 q1.0 (means_tested_in
      (entered G) e q0.0 (on_ok l (tested_in (entered G) e) q0.0 q0.1)) (means_statement (entered q0.0.1) c i s q1.0
      q1.1))
  means_statement G c i (if_else l e s u) out hyp =
      let q0 = bind_ok (on_statement l (tested_in (entered G) e)) _ out hyp in
      let q1 = bind_ok (statement (entered q0.0.1) c i s) _ out q0.2 in
      let q2 = bind_ok (statement (entered (left q1.0.1)) c i u) _ out q1.2 in
      subst (MeansStatement G c i (if_else l e s u)) (ok_is _ out q2.2) (is_if_else q0.0 q1.0 q2.0 (means_tested_in
      (entered G) e q0.0 (on_ok l (tested_in (entered G) e) q0.0 q0.1)) (means_statement (entered q0.0.1) c i s q1.0
      q1.1) (means_statement (entered
      (left q1.0.1)) c i u q2.0 q2.1))
  means_statement G c i (while_loop l e s) out hyp =
      let q0 = bind_ok (on_statement l (tested_in (entered G) e)) _ out hyp in
      let q1 = bind_ok (statement (entered q0.0.1) c true s) _ out q0.2 in
      subst (MeansStatement G c i (while_loop l e s)) (ok_is _ out q1.2) (is_while q0.0 q1.0 (means_tested_in
      (entered G) e q0.0 (on_ok l (tested_in (entered G) e) q0.0 q0.1)) (means_statement (entered q0.0.1) c true s q1.0
      q1.1))
  means_statement G c i (do_loop l s e) out hyp =
      let q0 = bind_ok (statement (entered (entered G)) c true s) _ out hyp in
      let q1 = bind_ok (on_statement l (tested_in (left q0.0.1) e)) _ out q0.2 in
      subst (MeansStatement G c i (do_loop l s e)) (ok_is _ out q1.2) (is_do q0.0 q1.0 (means_statement (entered
      (entered G)) c true s q0.0 q0.1) (means_tested_in (left q0.0.1) e q1.0 (on_ok l
      (tested_in (left q0.0.1) e) q1.0 q1.1)))
  means_statement G c i (for_loop l f e n s) out hyp =
      let q0 = bind_ok (first_part (entered G) l f) _ out hyp in
      let q1 = bind_ok (on_statement l (tested_if q0.0.1 e)) _ out q0.2 in
      let q2 = bind_ok (on_statement l (evaluated_if q1.0.1 n)) _ out q1.2 in
      let q3 = bind_ok (statement (entered q2.0.1) c true s) _ out q2.2 in
      subst (MeansStatement G c i (for_loop l f e n s)) (ok_is _ out q3.2) (is_for q0.0 q1.0 q2.0 q3.0
      (means_first_part (entered G) l f q0.0 q0.1) (means_tested_if q0.0.1 e q1.0 (on_ok l
      (tested_if q0.0.1 e) q1.0 q1.1)) (means_evaluated_if q1.0.1 n q2.0 (on_ok l (evaluated_if q1.0.1 n) q2.0 q2.1))
      (means_statement (entered q2.0.1) c true s q3.0 q3.1))
  means_statement G c i (break_loop l) out hyp =
      let q0 = bind_ok (at l (jump i l core.break_loop)) _ out hyp in
      subst (MeansStatement G c i (break_loop l)) (ok_is _ out q0.2) (is_break q0.0 (at_ok l
      (jump i l core.break_loop) q0.0 q0.1))
  means_statement G c i (continue_loop l) out hyp =
      let q0 = bind_ok (at l (jump i l core.continue_loop)) _ out hyp in
      subst (MeansStatement G c i (continue_loop l)) (ok_is _ out q0.2) (is_continue q0.0 (at_ok l
      (jump i l core.continue_loop) q0.0 q0.1))
  means_statement G c i (return_value l None) out hyp =
      let q0 = bind_ok (at l (nothing_returned c)) _ out hyp in
      subst (MeansStatement G c i (return_value l None)) (ok_is _ out q0.2) (returns_nothing q0.0 (at_ok l
      (nothing_returned c) q0.0 q0.1))
  means_statement G c i (return_value l (Some e)) out hyp =
      let q0 = bind_ok (on_statement l (typed (mentioned G e) e)) _ out hyp in
      let q1 = bind_ok (at l (operand_returned (mentioned G e).types c q0.0)) _ out q0.2 in
      subst (MeansStatement G c i (return_value l (Some e))) (ok_is _ out q1.2) (returns_value q0.0 q1.0 (means
      (mentioned G e) e q0.0 (on_ok l (typed (mentioned G e) e) q0.0 q0.1)) (at_ok l (operand_returned (mentioned G
      e).types c q0.0) q1.0 q1.1))

  pub means_statements : (G : Env) (c : CType) (i : Bool) (ss : Stmts) (out : (List Line × Env))
      → statements G c i ss ≡ Ok out → MeansStatements G c i ss out
  means_statements G c i no_stmts out hyp = subst (MeansStatements G c i no_stmts) (ok_is _ out hyp) (no_statements)
  means_statements G c i (more_stmts s ss) out hyp =
      let q0 = bind_ok (statement G c i s) _ out hyp in
      let q1 = bind_ok (statements q0.0.1 c i ss) _ out q0.2 in
      subst (MeansStatements G c i (more_stmts s ss)) (ok_is _ out q1.2) (more_statements q0.0 q1.0
      (means_statement G c i s q0.0 q0.1) (means_statements q0.0.1 c i ss q1.0 q1.1))

  pub means_part : (G : Env) (c : CType) (i : Bool) (p : Part) (out : (List Line × Env)) → part G c i p ≡ Ok out
      → MeansPart G c i p out
  means_part G c i (declares_in d) out hyp =
      let q0 = bind_ok (declaration G false true d) _ out hyp in
      subst (MeansPart G c i (declares_in d)) (ok_is _ out q0.2) (part_declares q0.0
      (means_declaration G false true d q0.0 q0.1))
  means_part G c i (states s) out hyp = part_states out (means_statement G c i s out hyp)
  means_part G c i (arm l o ss) out hyp =
      let q0 = bind_ok (statements (entered G) c i ss) _ out hyp in
      subst (MeansPart G c i (arm l o ss)) (ok_is _ out q0.2) (is_arm q0.0 (means_statements
      (entered G) c i ss q0.0 q0.1))
  means_part G c i (two_arms l o ss us) out hyp =
      let q0 = bind_ok (statements (entered G) c i ss) _ out hyp in
      let q1 = bind_ok (statements (entered (left q0.0.1)) c i us) _ out q0.2 in
      subst (MeansPart G c i (two_arms l o ss us)) (ok_is _ out q1.2) (is_two_arms q0.0 q1.0 (means_statements
      (entered G) c i ss q0.0 q0.1) (means_statements (entered (left q0.0.1)) c i us q1.0 q1.1))

  pub means_parts : (G : Env) (c : CType) (i : Bool) (ps : Parts) (out : (List Line × Env)) → parts G c i ps ≡ Ok out
      → MeansParts G c i ps out
  means_parts G c i no_parts out hyp = subst (MeansParts G c i no_parts) (ok_is _ out hyp) (no_parts_left)
  means_parts G c i (more_parts p ps) out hyp =
      let q0 = bind_ok (part G c i p) _ out hyp in
      let q1 = bind_ok (parts q0.0.1 c i ps) _ out q0.2 in
      subst (MeansParts G c i (more_parts p ps)) (ok_is _ out q1.2) (one_part_more q0.0 q1.0
      (means_part G c i p q0.0 q0.1) (means_parts q0.0.1 c i ps q1.0 q1.1))

mutual
  unfolding statement statements part parts

  pub offended_statement : {G : Env} {c : CType} {i : Bool} {s : Stmt} {r : Refusal} → StatementOffends G c i s r
      → statement G c i s ≡ Err r
  offended_statement (in_block broken) = rw (offended_parts broken) refl
  offended_statement (in_evaluated broken) = rw (offended_evaluated_in broken) refl
  offended_statement (in_if_test broken) = rw (offended_tested_in broken) refl
  offended_statement (in_if t p0 broken) = rw (meant_tested_in p0, offended_statement broken) refl
  offended_statement (in_if_else_test broken) = rw (offended_tested_in broken) refl
  offended_statement (in_then t p0 broken) = rw (meant_tested_in p0, offended_statement broken) refl
  offended_statement (in_else t a p0 p1 broken) =
      rw (meant_tested_in p0, meant_statement p1, offended_statement broken) refl
  offended_statement (in_while_test broken) = rw (offended_tested_in broken) refl
  offended_statement (in_while t p0 broken) = rw (meant_tested_in p0, offended_statement broken) refl
  offended_statement (in_do broken) = rw (offended_statement broken) refl
  offended_statement (in_do_test a p0 broken) = rw (meant_statement p0, offended_tested_in broken) refl
  offended_statement (in_for_first broken) = rw (offended_first_part broken) refl
  offended_statement (in_for_test {l = l} p p0 broken) =
      rw (meant_first_part l p0, offended_tested_if broken) refl
  offended_statement (in_for_next {l = l} p t p0 p1 broken) =
      rw (meant_first_part l p0, meant_tested_if p1, offended_evaluated_if broken) refl
  offended_statement (in_for {l = l} p t q p0 p1 p2 broken) =
      rw (meant_first_part l p0, meant_tested_if p1, meant_evaluated_if p2, offended_statement broken) refl
  offended_statement (bad_break broken) = rw broken refl
  offended_statement (bad_continue broken) = rw broken refl
  offended_statement (bad_return broken) = rw broken refl
  offended_statement (in_returned {G = G} {e = e} {r = r} broken) = rw (first (mentioned G e) e r broken) refl
  offended_statement (bad_returned {G = G} {e = e} x p0 broken) = rw (meant (mentioned G e) e x p0, broken) refl

  pub offended_statements : {G : Env} {c : CType} {i : Bool} {ss : Stmts} {r : Refusal} → StatementsOffend G c i ss r
      → statements G c i ss ≡ Err r
  offended_statements (in_first_statement broken) = rw (offended_statement broken) refl
  offended_statements (in_later_statement a p0 broken) = rw (meant_statement p0, offended_statements broken) refl

  pub offended_part : {G : Env} {c : CType} {i : Bool} {p : Part} {r : Refusal} → PartOffends G c i p r
      → part G c i p ≡ Err r
  offended_part (in_declaration broken) = rw (offended_declaration broken) refl
  offended_part (in_statement broken) = rw (offended_statement broken) refl
  offended_part (in_arm broken) = rw (offended_statements broken) refl
  offended_part (in_first_arm broken) = rw (offended_statements broken) refl
  offended_part (in_second_arm a p0 broken) = rw (meant_statements p0, offended_statements broken) refl

  pub offended_parts : {G : Env} {c : CType} {i : Bool} {ps : Parts} {r : Refusal} → PartsOffend G c i ps r
      → parts G c i ps ≡ Err r
  offended_parts (in_first_part broken) = rw (offended_part broken) refl
  offended_parts (in_later_part a p0 broken) = rw (meant_part p0, offended_parts broken) refl

mutual
  unfolding statement statements part parts

  pub refused_statement : (G : Env) (c : CType) (i : Bool) (s : Stmt) (r : Refusal) → statement G c i s ≡ Err r
      → StatementOffends G c i s r
  refused_statement G c i (block l ps) r hyp = elim (bind_err (parts (entered G) c i ps) _ r hyp) [
    | inl h0 ↦ in_block (refused_parts (entered G) c i ps r h0)
    | inr w0 ↦ absurd (let bad = w0.2 in cc)
  ]
  refused_statement G c i (evaluate l None) r hyp = absurd (let bad = hyp in cc)
  refused_statement G c i (evaluate l (Some e)) r hyp =
      let d = on_err l (evaluated_in G true l e) r hyp in
      subst (StatementOffends G c i (evaluate l (Some e))) d.2 (in_evaluated
      (refused_evaluated_in G true l e d.0 d.1))
  refused_statement G c i (if_then l e s) r hyp = elim (bind_err (on_statement l (tested_in (entered G) e)) _ r hyp) [
    | inl h0 ↦ let d = on_err l (tested_in (entered G) e) r h0 in subst (StatementOffends G c i
        (if_then l e s)) d.2 (in_if_test (refused_tested_in (entered G) e d.0 d.1))
    | inr w0 ↦ elim (bind_err (statement (entered w0.0.1) c i s) _ r w0.2) [
      | inl h1 ↦ in_if w0.0 (means_tested_in (entered G) e w0.0 (on_ok l (tested_in (entered G) e) w0.0 w0.1))
          (refused_statement (entered w0.0.1) c i s r h1)
      | inr w1 ↦ absurd (let bad = w1.2 in cc)
    ]
  ]
  refused_statement G c i (if_else l e s u) r hyp = elim (bind_err (on_statement l (tested_in (entered G) e)) _ r hyp) [
    | inl h0 ↦ let d = on_err l (tested_in (entered G) e) r h0 in subst (StatementOffends G c i
        (if_else l e s u)) d.2 (in_if_else_test (refused_tested_in (entered G) e d.0 d.1))
    | inr w0 ↦ elim (bind_err (statement (entered w0.0.1) c i s) _ r w0.2) [
      | inl h1 ↦ in_then w0.0 (means_tested_in (entered G) e w0.0 (on_ok l (tested_in (entered G) e) w0.0 w0.1))
          (refused_statement (entered w0.0.1) c i s r h1)
      | inr w1 ↦ elim (bind_err (statement (entered (left w1.0.1)) c i u) _ r w1.2) [
        | inl h2 ↦ in_else w0.0 w1.0 (means_tested_in (entered G) e w0.0 (on_ok l (tested_in (entered G) e) w0.0 w0.1))
            (means_statement (entered w0.0.1) c i s w1.0 w1.1)
            (refused_statement (entered (left w1.0.1)) c i u r h2)
        | inr w2 ↦ absurd (let bad = w2.2 in cc)
      ]
    ]
  ]
  refused_statement G c i (while_loop l e s) r hyp =
      elim (bind_err (on_statement l (tested_in (entered G) e)) _ r hyp) [
        | inl h0 ↦ let d = on_err l (tested_in (entered G) e) r h0 in subst (StatementOffends G c i
            (while_loop l e s)) d.2 (in_while_test (refused_tested_in (entered G) e d.0 d.1))
        | inr w0 ↦ elim (bind_err (statement (entered w0.0.1) c true s) _ r w0.2) [
          | inl h1 ↦ in_while w0.0 (means_tested_in (entered G) e w0.0 (on_ok l (tested_in (entered G) e) w0.0 w0.1))
              (refused_statement (entered w0.0.1) c true s r h1)
          | inr w1 ↦ absurd (let bad = w1.2 in cc)
        ]
      ]
  refused_statement G c i (do_loop l s e) r hyp = elim (bind_err (statement (entered (entered G)) c true s) _ r hyp) [
    | inl h0 ↦ in_do (refused_statement (entered (entered G)) c true s r h0)
    | inr w0 ↦ elim (bind_err (on_statement l (tested_in (left w0.0.1) e)) _ r w0.2) [
      | inl h1 ↦ let d = on_err l (tested_in (left w0.0.1) e) r h1 in subst (StatementOffends G c i
          (do_loop l s e)) d.2 (in_do_test w0.0 (means_statement (entered (entered G)) c true s w0.0 w0.1)
          (refused_tested_in (left w0.0.1) e d.0 d.1))
      | inr w1 ↦ absurd (let bad = w1.2 in cc)
    ]
  ]
  refused_statement G c i (for_loop l f e n s) r hyp = elim (bind_err (first_part (entered G) l f) _ r hyp) [
    | inl h0 ↦ in_for_first (refused_first_part (entered G) l f r h0)
    | inr w0 ↦ elim (bind_err (on_statement l (tested_if w0.0.1 e)) _ r w0.2) [
      | inl h1 ↦ let d = on_err l (tested_if w0.0.1 e) r h1 in subst (StatementOffends G c i
          (for_loop l f e n s)) d.2 (in_for_test w0.0 (means_first_part (entered G) l f w0.0 w0.1)
          (refused_tested_if w0.0.1 e d.0 d.1))
      | inr w1 ↦ elim (bind_err (on_statement l (evaluated_if w1.0.1 n)) _ r w1.2) [
        | inl h2 ↦ let d = on_err l (evaluated_if w1.0.1 n) r h2 in subst (StatementOffends G c i
            (for_loop l f e n s)) d.2 (in_for_next w0.0 w1.0 (means_first_part (entered G) l f w0.0 w0.1)
            (means_tested_if w0.0.1 e w1.0 (on_ok l (tested_if w0.0.1 e) w1.0 w1.1))
            (refused_evaluated_if w1.0.1 n d.0 d.1))
        | inr w2 ↦ elim (bind_err (statement (entered w2.0.1) c true s) _ r w2.2) [
          | inl h3 ↦ in_for w0.0 w1.0 w2.0 (means_first_part (entered G) l f w0.0 w0.1)
              (means_tested_if w0.0.1 e w1.0 (on_ok l (tested_if w0.0.1 e) w1.0 w1.1))
              (means_evaluated_if w1.0.1 n w2.0 (on_ok l (evaluated_if w1.0.1 n) w2.0 w2.1)) (refused_statement
              (entered w2.0.1) c true s r h3)
          | inr w3 ↦ absurd (let bad = w3.2 in cc)
        ]
      ]
    ]
  ]
  refused_statement G c i (break_loop l) r hyp = elim (bind_err (at l (jump i l core.break_loop)) _ r hyp) [
    | inl h0 ↦ let kind = at_err l (jump i l core.break_loop) r h0 in subst (StatementOffends G c i
        (break_loop l)) kind.2 (bad_break kind.1)
    | inr w0 ↦ absurd (let bad = w0.2 in cc)
  ]
  refused_statement G c i (continue_loop l) r hyp = elim (bind_err (at l (jump i l core.continue_loop)) _ r hyp) [
    | inl h0 ↦ let kind = at_err l (jump i l core.continue_loop) r h0 in subst (StatementOffends G c i
        (continue_loop l)) kind.2 (bad_continue kind.1)
    | inr w0 ↦ absurd (let bad = w0.2 in cc)
  ]
  refused_statement G c i (return_value l None) r hyp = elim (bind_err (at l (nothing_returned c)) _ r hyp) [
    | inl h0 ↦ let kind = at_err l (nothing_returned c) r h0 in subst (StatementOffends G c i
        (return_value l None)) kind.2 (bad_return kind.1)
    | inr w0 ↦ absurd (let bad = w0.2 in cc)
  ]
  refused_statement G c i (return_value l (Some e)) r hyp =
      elim (bind_err (on_statement l (typed (mentioned G e) e)) _ r hyp) [
        | inl h0 ↦ let d = on_err l (typed (mentioned G e) e) r h0 in subst (StatementOffends G c i
            (return_value l (Some e))) d.2 (in_returned (refused (mentioned G e) e d.0 d.1))
        | inr w0 ↦ elim (bind_err (at l (operand_returned (mentioned G e).types c w0.0)) _ r w0.2) [
          | inl h1 ↦ let kind = at_err l (operand_returned (mentioned G e).types c w0.0) r h1 in subst
              (StatementOffends G c i (return_value l (Some e))) kind.2 (bad_returned w0.0 (means
              (mentioned G e) e w0.0 (on_ok l (typed (mentioned G e) e) w0.0 w0.1)) kind.1)
          | inr w1 ↦ absurd (let bad = w1.2 in cc)
        ]
      ]

  pub refused_statements : (G : Env) (c : CType) (i : Bool) (ss : Stmts) (r : Refusal) → statements G c i ss ≡ Err r
      → StatementsOffend G c i ss r
  refused_statements G c i no_stmts r hyp = absurd (let bad = hyp in cc)
  refused_statements G c i (more_stmts s ss) r hyp = elim (bind_err (statement G c i s) _ r hyp) [
    | inl h0 ↦ in_first_statement (refused_statement G c i s r h0)
    | inr w0 ↦ elim (bind_err (statements w0.0.1 c i ss) _ r w0.2) [
      | inl h1 ↦ in_later_statement w0.0 (means_statement G c i s w0.0 w0.1) (refused_statements w0.0.1 c i ss r h1)
      | inr w1 ↦ absurd (let bad = w1.2 in cc)
    ]
  ]

  pub refused_part : (G : Env) (c : CType) (i : Bool) (p : Part) (r : Refusal) → part G c i p ≡ Err r
      → PartOffends G c i p r
  refused_part G c i (declares_in d) r hyp = elim (bind_err (declaration G false true d) _ r hyp) [
    | inl h0 ↦ in_declaration (refused_declaration G false true d r h0)
    | inr w0 ↦ absurd (let bad = w0.2 in cc)
  ]
  refused_part G c i (states s) r hyp = in_statement (refused_statement G c i s r hyp)
  refused_part G c i (arm l o ss) r hyp = elim (bind_err (statements (entered G) c i ss) _ r hyp) [
    | inl h0 ↦ in_arm (refused_statements (entered G) c i ss r h0)
    | inr w0 ↦ absurd (let bad = w0.2 in cc)
  ]
  refused_part G c i (two_arms l o ss us) r hyp = elim (bind_err (statements (entered G) c i ss) _ r hyp) [
    | inl h0 ↦ in_first_arm (refused_statements (entered G) c i ss r h0)
    | inr w0 ↦ elim (bind_err (statements (entered (left w0.0.1)) c i us) _ r w0.2) [
      | inl h1 ↦ in_second_arm w0.0 (means_statements (entered G) c i ss w0.0 w0.1) (refused_statements (entered
          (left w0.0.1)) c i us r h1)
      | inr w1 ↦ absurd (let bad = w1.2 in cc)
    ]
  ]

  pub refused_parts : (G : Env) (c : CType) (i : Bool) (ps : Parts) (r : Refusal) → parts G c i ps ≡ Err r
      → PartsOffend G c i ps r
  refused_parts G c i no_parts r hyp = absurd (let bad = hyp in cc)
  refused_parts G c i (more_parts p ps) r hyp = elim (bind_err (part G c i p) _ r hyp) [
    | inl h0 ↦ in_first_part (refused_part G c i p r h0)
    | inr w0 ↦ elim (bind_err (parts w0.0.1 c i ps) _ r w0.2) [
      | inl h1 ↦ in_later_part w0.0 (means_part G c i p w0.0 w0.1) (refused_parts w0.0.1 c i ps r h1)
      | inr w1 ↦ absurd (let bad = w1.2 in cc)
    ]
  ]
