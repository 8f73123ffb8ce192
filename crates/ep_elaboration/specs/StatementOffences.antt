-- For what statements are refused: the first offence in each, where what stands before it means something. C11 6.8.
use Rattle.std.specs.Prelude.{◌≡◌, ℕ, Bool, true, false, List, Option, Some, None, Err}
use Rattle.ep_core.specs.Program as core
use Rattle.ep_ast.specs.Declaration.{Declaration}
use Rattle.ep_ast.specs.Expression.{Expr, line_of}
use Rattle.ep_ast.specs.Statement.{First, Part, Parts, Stmt, Stmts, arm, block, break_loop, continue_loop, declares}
use Rattle.ep_ast.specs.Statement.{declares_in, do_loop, evaluate, evaluates, for_loop, if_else, if_then, more_parts}
use Rattle.ep_ast.specs.Statement.{more_stmts, return_value, states, two_arms, while_loop}
use Rattle.ep_ast.specs.declared.orders.NamedOrder.{NamedOrder}
use Rattle.ep_ast.specs.declared.refusals.Refusal.{Refusal}
use Rattle.ep_elaboration.specs.Declarations.{Line}
use Rattle.ep_elaboration.specs.Statements.{entered, jump, left, nothing_returned, operand_returned}
use Rattle.ep_elaboration.specs.GivenOffences.{DeclarationOffends}
use Rattle.ep_elaboration.specs.WholeOffences.{TestOffends, WholeOffends}
use Rattle.ep_elaboration.specs.FieldRules.{FieldStatementOffends, NamesField}
use Rattle.ep_typing.specs.Env.{Env}
use Rattle.ep_typing.specs.Names.{mentioned}
use Rattle.ep_typing.specs.Operand.{Operand}
use Rattle.ep_typing.specs.declared.types.CType.{CType}
use Rattle.ep_typing.specs.Results.{at_statement}
use Rattle.ep_typing.specs.Rules.{Means}
use Rattle.ep_typing.specs.Offences.{Offends, refusal}
use Rattle.ep_elaboration.specs.StatementRules.{MeansTestIn, MeansTestIf, MeansEvaluationIf, MeansFirst, MeansStatement}
use Rattle.ep_elaboration.specs.StatementRules.{MeansStatements, MeansPart}

pub data TestInOffends : Env → Expr → Refusal → Type 0 where
  in_test_in : {G : Env} {e : Expr} {r : Refusal} → TestOffends (mentioned G e) e r → TestInOffends G e r

pub data TestIfOffends : Env → Option Expr → Refusal → Type 0 where
  in_some_test : {G : Env} {e : Expr} {r : Refusal} → TestInOffends G e r → TestIfOffends G (Some e) r

pub data EvaluationOffends : Env → Bool → ℕ → Expr → Refusal → Type 0 where
  in_evaluation : {G : Env} {c : Bool} {l : ℕ} {e : Expr} {r : Refusal} → (NamesField (mentioned G e) e → ⊥)
      → WholeOffends (mentioned G e) c e r → EvaluationOffends G c l e r
  in_field_statement : {G : Env} {c : Bool} {l : ℕ} {e : Expr} {r : Refusal}
      → FieldStatementOffends (mentioned G e) l e r → EvaluationOffends G c l e r

pub data EvaluationIfOffends : Env → Option Expr → Refusal → Type 0 where
  in_some_evaluation : {G : Env} {e : Expr} {r : Refusal} → EvaluationOffends G false (line_of e) e r
      → EvaluationIfOffends G (Some e) r

pub data FirstOffends : Env → (line : ℕ) → First → Refusal → Type 0 where
  in_first_declaration : {G : Env} {l : ℕ} {d : Declaration} {r : Refusal} → DeclarationOffends G false false d r
      → FirstOffends G l (declares d) r
  in_first_evaluation : {G : Env} {l : ℕ} {e : Option Expr} {r : Refusal} → EvaluationIfOffends G e r
      → FirstOffends G l (evaluates e) (at_statement l r)

mutual
  pub data StatementOffends : Env → CType → Bool → Stmt → Refusal → Type 0 where
    in_block : {G : Env} {c : CType} {i : Bool} {l : ℕ} {ps : Parts} {r : Refusal} → PartsOffend (entered G) c i ps r
        → StatementOffends G c i (block l ps) r
    in_evaluated : {G : Env} {c : CType} {i : Bool} {l : ℕ} {e : Expr} {r : Refusal} → EvaluationOffends G true l e r
        → StatementOffends G c i (evaluate l (Some e)) (at_statement l r)
    in_if_test : {G : Env} {c : CType} {i : Bool} {l : ℕ} {e : Expr} {s : Stmt} {r : Refusal}
        → TestInOffends (entered G) e r → StatementOffends G c i (if_then l e s) (at_statement l r)
    in_if : {G : Env} {c : CType} {i : Bool} {l : ℕ} {e : Expr} {s : Stmt} {r : Refusal} (t : core.Expr × Env)
        → MeansTestIn (entered G) e t → StatementOffends (entered t.1) c i s r
        → StatementOffends G c i (if_then l e s) r
    in_if_else_test : {G : Env} {c : CType} {i : Bool} {l : ℕ} {e : Expr} {s u : Stmt} {r : Refusal}
        → TestInOffends (entered G) e r → StatementOffends G c i (if_else l e s u) (at_statement l r)
    in_then : {G : Env} {c : CType} {i : Bool} {l : ℕ} {e : Expr} {s u : Stmt} {r : Refusal} (t : core.Expr × Env)
        → MeansTestIn (entered G) e t → StatementOffends (entered t.1) c i s r
        → StatementOffends G c i (if_else l e s u) r
    in_else : {G : Env} {c : CType} {i : Bool} {l : ℕ} {e : Expr} {s u : Stmt} {r : Refusal} (t : core.Expr × Env)
        (a : List Line × Env)
        → MeansTestIn (entered G) e t → MeansStatement (entered t.1) c i s a
        → StatementOffends (entered (left a.1)) c i u r → StatementOffends G c i (if_else l e s u) r
    in_while_test : {G : Env} {c : CType} {i : Bool} {l : ℕ} {e : Expr} {s : Stmt} {r : Refusal}
        → TestInOffends (entered G) e r → StatementOffends G c i (while_loop l e s) (at_statement l r)
    in_while : {G : Env} {c : CType} {i : Bool} {l : ℕ} {e : Expr} {s : Stmt} {r : Refusal} (t : core.Expr × Env)
        → MeansTestIn (entered G) e t → StatementOffends (entered t.1) c true s r
        → StatementOffends G c i (while_loop l e s) r
    in_do : {G : Env} {c : CType} {i : Bool} {l : ℕ} {s : Stmt} {e : Expr} {r : Refusal}
        → StatementOffends (entered (entered G)) c true s r → StatementOffends G c i (do_loop l s e) r
    in_do_test : {G : Env} {c : CType} {i : Bool} {l : ℕ} {s : Stmt} {e : Expr} {r : Refusal} (a : List Line × Env)
        → MeansStatement (entered (entered G)) c true s a → TestInOffends (left a.1) e r
        → StatementOffends G c i (do_loop l s e) (at_statement l r)
    in_for_first : {G : Env} {c : CType} {i : Bool} {l : ℕ} {f : First} {e n : Option Expr} {s : Stmt} {r : Refusal}
        → FirstOffends (entered G) l f r → StatementOffends G c i (for_loop l f e n s) r
    in_for_test : {G : Env} {c : CType} {i : Bool} {l : ℕ} {f : First} {e n : Option Expr} {s : Stmt} {r : Refusal}
        (p : List Line × Env)
        → MeansFirst (entered G) f p → TestIfOffends p.1 e r
        → StatementOffends G c i (for_loop l f e n s) (at_statement l r)
    in_for_next : {G : Env} {c : CType} {i : Bool} {l : ℕ} {f : First} {e n : Option Expr} {s : Stmt} {r : Refusal}
        (p : List Line × Env) (t : core.Expr × Env)
        → MeansFirst (entered G) f p → MeansTestIf p.1 e t → EvaluationIfOffends t.1 n r
        → StatementOffends G c i (for_loop l f e n s) (at_statement l r)
    in_for : {G : Env} {c : CType} {i : Bool} {l : ℕ} {f : First} {e n : Option Expr} {s : Stmt} {r : Refusal}
        (p : List Line × Env) (t : core.Expr × Env) (q : List Line × Env)
        → MeansFirst (entered G) f p → MeansTestIf p.1 e t → MeansEvaluationIf t.1 n q
        → StatementOffends (entered q.1) c true s r → StatementOffends G c i (for_loop l f e n s) r
    bad_break : {G : Env} {c : CType} {i : Bool} {l kind : ℕ} → jump i l core.break_loop ≡ Err kind
        → StatementOffends G c i (break_loop l) (refusal kind l)
    bad_continue : {G : Env} {c : CType} {i : Bool} {l kind : ℕ} → jump i l core.continue_loop ≡ Err kind
        → StatementOffends G c i (continue_loop l) (refusal kind l)
    bad_return : {G : Env} {c : CType} {i : Bool} {l kind : ℕ} → nothing_returned c ≡ Err kind
        → StatementOffends G c i (return_value l None) (refusal kind l)
    in_returned : {G : Env} {c : CType} {i : Bool} {l : ℕ} {e : Expr} {r : Refusal} → Offends (mentioned G e) e r
        → StatementOffends G c i (return_value l (Some e)) (at_statement l r)
    bad_returned : {G : Env} {c : CType} {i : Bool} {l : ℕ} {e : Expr} {kind : ℕ} (x : Operand)
        → Means (mentioned G e) e x → operand_returned (mentioned G e).types c x ≡ Err kind
        → StatementOffends G c i (return_value l (Some e)) (refusal kind l)

  pub data StatementsOffend : Env → CType → Bool → Stmts → Refusal → Type 0 where
    in_first_statement : {G : Env} {c : CType} {i : Bool} {s : Stmt} {ss : Stmts} {r : Refusal}
        → StatementOffends G c i s r → StatementsOffend G c i (more_stmts s ss) r
    in_later_statement : {G : Env} {c : CType} {i : Bool} {s : Stmt} {ss : Stmts} {r : Refusal} (a : List Line × Env)
        → MeansStatement G c i s a → StatementsOffend a.1 c i ss r → StatementsOffend G c i (more_stmts s ss) r

  pub data PartOffends : Env → CType → Bool → Part → Refusal → Type 0 where
    in_declaration : {G : Env} {c : CType} {i : Bool} {d : Declaration} {r : Refusal}
        → DeclarationOffends G false true d r → PartOffends G c i (declares_in d) r
    in_statement : {G : Env} {c : CType} {i : Bool} {s : Stmt} {r : Refusal} → StatementOffends G c i s r
        → PartOffends G c i (states s) r
    in_arm : {G : Env} {c : CType} {i : Bool} {l : ℕ} {o : NamedOrder} {ss : Stmts} {r : Refusal}
        → StatementsOffend (entered G) c i ss r → PartOffends G c i (arm l o ss) r
    in_first_arm : {G : Env} {c : CType} {i : Bool} {l : ℕ} {o : NamedOrder} {ss us : Stmts} {r : Refusal}
        → StatementsOffend (entered G) c i ss r → PartOffends G c i (two_arms l o ss us) r
    in_second_arm : {G : Env} {c : CType} {i : Bool} {l : ℕ} {o : NamedOrder} {ss us : Stmts} {r : Refusal}
        (a : List Line × Env)
        → MeansStatements (entered G) c i ss a → StatementsOffend (entered (left a.1)) c i us r
        → PartOffends G c i (two_arms l o ss us) r

  pub data PartsOffend : Env → CType → Bool → Parts → Refusal → Type 0 where
    in_first_part : {G : Env} {c : CType} {i : Bool} {p : Part} {ps : Parts} {r : Refusal} → PartOffends G c i p r
        → PartsOffend G c i (more_parts p ps) r
    in_later_part : {G : Env} {c : CType} {i : Bool} {p : Part} {ps : Parts} {r : Refusal} (a : List Line × Env)
        → MeansPart G c i p a → PartsOffend a.1 c i ps r → PartsOffend G c i (more_parts p ps) r
