-- Statements of a function: the blocks that come, and what is called.
use Rattle.std.proofs.Common.{◌≡◌, ℕ, suc, Bool, true, false, List, [], ◌∷◌, ◌++◌, length, Option, Some, None, Ok}
use Rattle.std.proofs.Common.{refl, ap, subst, inl, inr, arith}
use Rattle.ep_ast.specs.Expression as source
use Rattle.ep_ast.specs.Statement.{Part, Parts, Stmt, Stmts}
use Rattle.ep_core.specs.Program as core
use Rattle.ep_core.specs.WellFormed.{scoped, scoped_in}
use Rattle.ep_typing.specs.declared.types.CType.{CType}
use Rattle.ep_typing.specs.Env.{Env, Signature, no_names}
use Rattle.ep_typing.specs.Names.{mentioned}
use Rattle.ep_elaboration.specs.Calls.{Stand, calls_none, evaluation, initialisations, stands, stands_in_part}
use Rattle.ep_elaboration.specs.Calls.{stands_in_parts, stands_in_stmts}
use Rattle.ep_elaboration.specs.Declarations.{Line}
use Rattle.ep_elaboration.specs.Statements.{blocks_behind, entered, jump, left, nothing_returned, one_line}
use Rattle.ep_elaboration.specs.Statements.{operand_returned, order_of, returned, to_core, value_returned}
use Rattle.ep_elaboration.specs.StatementRules.{MeansEvaluation, MeansEvaluationIf, MeansPart, MeansParts}
use Rattle.ep_elaboration.specs.StatementRules.{MeansStatement, MeansStatements, MeansTestIf, MeansTestIn}
use Rattle.ep_elaboration.specs.StatementRules.{first_declares, first_evaluates, is_arm, is_block, is_break}
use Rattle.ep_elaboration.specs.StatementRules.{is_continue, is_do, is_evaluated, is_evaluation, is_field_statement}
use Rattle.ep_elaboration.specs.StatementRules.{is_for, is_if}
use Rattle.ep_elaboration.specs.StatementRules.{is_if_else, is_nothing, is_test_in, is_two_arms, is_while}
use Rattle.ep_elaboration.specs.StatementRules.{more_statements, no_evaluation, no_parts_left, no_statements}
use Rattle.ep_elaboration.specs.StatementRules.{no_test, one_part_more, part_declares, part_states}
use Rattle.ep_elaboration.specs.StatementRules.{returns_nothing, returns_value, some_evaluation, some_test}
use Rattle.ep_well_formed_laws.specs.Environments.{HasScope}
use Rattle.ep_well_formed_laws.proofs.Tests.{after, given, unless}
use Rattle.ep_typing.specs.Types.{is_void}
use Rattle.ep_typing.specs.Operand.{Operand, fitted, value_of}
use Rattle.ep_well_formed_laws.proofs.Counts.{below, count, count_both}
use Rattle.ep_well_formed_laws.proofs.CallNames.{CallsTo, EachCall, EachCallIn, ScopesFit, callee_number, each_call}
use Rattle.ep_well_formed_laws.proofs.FieldAccesses.{access_flat, statement_access}
use Rattle.ep_well_formed_laws.proofs.CallNames.{access_calls, each_call_in, no_whole, scopes_fit_same, whole_flat, whole_named}
use Rattle.ep_well_formed_laws.proofs.Keeps.{Keeps, expression_keeps, keeps_itself}
use Rattle.ep_well_formed_laws.proofs.Walks.{Still, Walk, calls_first, calls_second, closed, count_lines, count_one}
use Rattle.ep_well_formed_laws.proofs.Walks.{same_blocks, still_as, still_keeps, still_left, still_on, walk_of, walk_on}
use Rattle.ep_well_formed_laws.proofs.WalkedValues.{declaration_walks, scope_comes}

module _ (fs : List Signature) where
  abbrev To : List Stand → ℕ → Type 0
  To st k = CallsTo fs k st

  test_keeps : (G : Env) (e : source.Expr) (t : core.Expr × Env) → MeansTestIn G e t → Keeps G t.1
  test_keeps G e t (is_test_in w m) = expression_keeps e G

  test_if_keeps : (G : Env) (e : Option source.Expr) (t : core.Expr × Env) → MeansTestIf G e t → Keeps G t.1
  test_if_keeps G e t no_test = keeps_itself G
  test_if_keeps G e t (some_test {e = d} u m) = test_keeps G d t m

  -- one statement without scopes
  one_still : (G H : Env) (l : ℕ) (w : core.What) (st : List Stand) → Keeps G H → scoped_in w ≡ []
      → (ScopesFit fs G.scopes → EachCallIn (To st) w) → Still fs G H (one_line l w) st
  one_still G H l w st k f c = record {
    names = k.names;
    blocks = same_blocks G.blocks H.blocks k.blocks;
    functions = k.functions;
    lists = λ b.
        let e : length H.blocks ≡ length G.blocks = ap length k.blocks in
        let g : count b (scoped_in w) ≡ 0 = ap (count b) f in
        let j = count_one b l w in
        let n : below (length H.blocks) b
        ≡ below (length G.blocks) b = ap (λ (i : ℕ). below i b) e in omega (arith, g, j, n);
    calls = λ h. (c h, tt);
  }

  evaluation_still : (G : Env) (c : Bool) (l d : ℕ) (e : source.Expr) (w : List Line × Env) → MeansEvaluation G c l e w
      → Still fs G w.1 w.0 (evaluation d e ∷ [])
  evaluation_still G c l d e w (is_evaluation v m) =
      let H = mentioned G e in
      let k = expression_keeps e G in
      one_still G H l v (evaluation d e ∷ []) k (whole_flat H c e v m)
      (λ h. each_call_in (λ j. callee_number fs (evaluation d e).callee ≡ Some j) (To (evaluation d e ∷ []))
      (λ j p. inl p) v
      (whole_named fs H d c e v (scopes_fit_same fs G.scopes H.scopes k.names h) m))
  evaluation_still G c l d e w (is_field_statement v m) =
      let a = statement_access (mentioned G e) l e v m in
      one_still G (mentioned G e) l v (evaluation d e ∷ []) (expression_keeps e G) (access_flat v a)
      (λ h. access_calls (To (evaluation d e ∷ [])) v a)

  quiet_still : (G : Env) (l : ℕ) (e : source.Expr) (w : List Line × Env) → MeansEvaluation G false l e w
      → Still fs G w.1 w.0 []
  quiet_still G l e w (is_evaluation v m) =
      let H = mentioned G e in
      one_still G H l v [] (expression_keeps e G) (whole_flat H false e v m)
      (λ h. each_call_in (λ j. ⊥) (To []) (λ j p. p) v (no_whole H e v m))
  quiet_still G l e w (is_field_statement v m) =
      let a = statement_access (mentioned G e) l e v m in
      one_still G (mentioned G e) l v [] (expression_keeps e G) (access_flat v a) (λ h. access_calls (To []) v a)

  evaluation_if_still : (G : Env) (e : Option source.Expr) (w : List Line × Env) → MeansEvaluationIf G e w
      → Still fs G w.1 w.0 []
  evaluation_if_still G e w no_evaluation = still_keeps fs G G [] (keeps_itself G)
  evaluation_if_still G e w (some_evaluation {e = d} v m) = quiet_still G (source.line_of d) d w m

  -- ---- jumps and returns

  jump_still : (G : Env) (i : Bool) (l : ℕ) (w : core.What) (b : List Line) (st : List Stand) → scoped_in w ≡ []
      → EachCallIn (To st) w → jump i l w ≡ Ok b → Still fs G G b st
  jump_still G i l w b st f c e = by i e
    where
      by : (j : Bool) → jump j l w ≡ Ok b → Still fs G G b st
      by true p =
          let same : one_line l w ≡ b = cc in
          subst (λ (ls : List Line). Still fs G G ls st) same (one_still G G l w st (keeps_itself G) f (λ h. c))
      by false p = absurd cc

  nothing_still : (G : Env) (c : CType) (l : ℕ) (w : core.What) (st : List Stand) → nothing_returned c ≡ Ok w
      → Still fs G G (one_line l w) st
  unfolding nothing_returned
  nothing_still G c l w st e =
      let g = given (is_void c) (returned None) w 32 e in
      subst (λ (v : core.What). Still fs G G (one_line l v) st) g.1
      (one_still G G l (returned None) st (keeps_itself G) refl (λ h. tt))

  value_still : (G H : Env) (c : CType) (l : ℕ) (x : Operand) (w : core.What) (st : List Stand) → Keeps G H
      → operand_returned H.types c x ≡ Ok w → Still fs G H (one_line l w) st
  unfolding operand_returned
  value_still G H c l x w st k e =
      let a = unless (is_void c) 32 (value_returned H.types c x) w e in
      let v = after (value_of H.types x) _ w a.1 in
      let y = after (fitted c v.0) _ w v.2 in
      let same : returned (Some y.0) ≡ w = (let q = y.2 in cc) in
      subst (λ (u : core.What). Still fs G H (one_line l u) st) same
      (one_still G H l (returned (Some y.0)) st k refl (λ h. tt))

  -- ---- parts inside of one another

  -- a statement in a scope of its own behind a test
  behind_test : (G J H : Env) (ls : List Line) (st : List Stand) → Keeps (entered G) J → Still fs (entered J) H ls st
      → Still fs G (left (left H)) ls st
  behind_test G J H ls st k s =
      still_left fs G (left H) ls st
      (still_on fs (entered G) J (left H) [] ls [] st (still_keeps fs (entered G) J [] k) (still_left fs J H ls st s))

  -- one line round lines
  round_one : (G H : Env) (l : ℕ) (ls : List Line) (w : core.What) (s : Stand) (st : List Stand) → Still fs G H ls st
      → ((b : ℕ) → count b (scoped_in w) ≡ count b (scoped (to_core ls)))
      → (EachCall (To st) (to_core ls) → EachCallIn (To st) w) → Still fs G H (one_line l w) (s ∷ st)
  round_one G H l ls w s st k f c =
      still_as fs G H ls (one_line l w) st (s ∷ st) k
      (λ b. let e = count_one b l w in let g = f b in omega (arith, e, g))
      (λ h. (each_call_in (To st) (To (s ∷ st)) (λ j p. inr p) w (c h), tt))

  count_nothing : (b : ℕ) (xs : List ℕ) → count b (xs ++ []) ≡ count b xs
  count_nothing b xs = let e = count_both b xs [] in omega (arith, e)

  count_pair : (b : ℕ) (ls ms : List Line)
      → count b (scoped (to_core ls) ++ scoped (to_core ms)) ≡ count b (scoped (to_core (ls ++ ms)))
  count_pair b ls ms =
      let e = count_both b (scoped (to_core ls)) (scoped (to_core ms)) in let f = count_lines b ls ms in omega
      (arith, e, f)

  calls_no_more : (k : ℕ) (st : List Stand) → CallsTo fs k (st ++ []) → CallsTo fs k st
  calls_no_more k [] h = h
  calls_no_more k (s ∷ st) (inl e) = inl e
  calls_no_more k (s ∷ st) (inr h) = inr (calls_no_more k st h)

  -- a loop with a step, behind its first part
  loop_walks : (J K L B : Env) (l : ℕ) (t : core.Expr) (next body : List Line) (st : List Stand) → Keeps J K
      → Still fs K L next [] → Still fs (entered L) B body st
      → Still fs J (left B) (one_line l (core.loop true t (to_core body) (to_core next))) st
  loop_walks J K L B l t next body st k q b =
      let x = still_on fs K L (left B) next body [] st q (still_left fs L B body st b) in
      let y = still_on fs J K (left B) [] (next ++ body) [] st (still_keeps fs J K [] k) x in
      still_as fs J (left B) (next ++ body) (one_line l (core.loop true t (to_core body) (to_core next))) st st y
      (λ j.
      let e = count_one j l (core.loop true t (to_core body) (to_core next)) in
      let f = count_both j (scoped (to_core body)) (scoped (to_core next)) in
      let g = count_lines j next body in omega (arith, e, f, g))
      (λ h. ((calls_second (To st) next body h, calls_first (To st) next body h), tt))

  mutual
    statement_walks : (G : Env) (n : ℕ) (c : CType) (i : Bool) (s : Stmt) (a : List Line × Env)
        → MeansStatement G c i s a
        → Still fs G a.1 a.0 (stands n s)
    statement_walks G n c i s a (is_block {l = l} {ps = ps} b m) =
        let k = parts_walk (entered G) (suc n) c i ps b (no_names, G.scopes, refl) m in
        let w = closed fs G b.1 l b.0 (stands_in_parts (suc n) ps) k in
        still_as fs G (left b.1) (one_line l (core.scope (blocks_behind 0 b.1) (to_core b.0)))
        (one_line l (core.scope (blocks_behind 0 b.1) (to_core b.0))) (stands_in_parts (suc n) ps) (stands n s) w
        (λ j. refl)
        (λ h. each_call (To (stands_in_parts (suc n) ps)) (To (stands n s)) (λ j p. inr p)
        (to_core (one_line l (core.scope (blocks_behind 0 b.1) (to_core b.0)))) h)
    statement_walks G n c i s a (is_nothing {l = l}) =
        one_still G G l (core.simple core.nothing) (stands n s) (keeps_itself G) refl (λ h. tt)
    statement_walks G n c i s a (is_evaluated {l = l} {e = e} w m) = evaluation_still G true l (suc n) e a m
    statement_walks G n c i s a (is_if {l = l} {e = e} {s = body} t b m k) =
        let J = t.1 in
        let y = behind_test G J b.1 b.0 (stands (suc n) body) (test_keeps (entered G) e t m)
        (statement_walks (entered J) (suc n) c i body b k) in
        round_one G (left (left b.1)) l b.0 (core.if_else t.0 (to_core b.0) core.stop) (calls_none (suc n))
        (stands (suc n) body) y
        (λ j. count_nothing j (scoped (to_core b.0))) (λ h. (h, tt))
    statement_walks G n c i s a (is_if_else {l = l} {e = e} {s = first} {u = second} t b d m k o) =
        let J = t.1 in
        let K = left b.1 in
        let x = still_left fs J b.1 b.0 (stands (suc n) first) (statement_walks (entered J) (suc n) c i first b k) in
        let y = still_left fs K d.1 d.0 (stands (suc n) second) (statement_walks (entered K) (suc n) c i second d o) in
        let st = stands (suc n) first ++ stands (suc n) second in
        let z = still_on fs J K (left d.1) b.0 d.0 (stands (suc n) first) (stands (suc n) second) x y in
        let w = still_left fs G (left d.1) (b.0 ++ d.0) st
        (still_on fs (entered G) J (left d.1) [] (b.0 ++ d.0) [] st
        (still_keeps fs (entered G) J [] (test_keeps (entered G) e t m)) z) in
        round_one G (left (left d.1)) l (b.0 ++ d.0) (core.if_else t.0 (to_core b.0) (to_core d.0))
        (calls_none (suc n)) st w
        (λ j. count_pair j b.0 d.0) (λ h. (calls_first (To st) b.0 d.0 h, calls_second (To st) b.0 d.0 h))
    statement_walks G n c i s a (is_while {l = l} {e = e} {s = body} t b m k) =
        let J = t.1 in
        let y = behind_test G J b.1 b.0 (stands (suc n) body) (test_keeps (entered G) e t m)
        (statement_walks (entered J) (suc n) c true body b k) in
        round_one G (left (left b.1)) l b.0 (core.loop true t.0 (to_core b.0) core.stop) (calls_none (suc n))
        (stands (suc n) body) y
        (λ j. count_nothing j (scoped (to_core b.0))) (λ h. (h, tt))
    statement_walks G n c i s a (is_do {l = l} {s = body} {e = e} b t m k) =
        let E = entered G in
        let K = left b.1 in
        let st = stands (suc n) body in
        let x = still_left fs E b.1 b.0 st (statement_walks (entered E) (suc n) c true body b m) in
        let z = still_on fs E K t.1 b.0 [] st [] x (still_keeps fs K t.1 [] (test_keeps K e t k)) in
        let w = still_left fs G t.1 (b.0 ++ []) (st ++ []) z in
        let u = still_as fs G (left t.1) (b.0 ++ []) b.0 (st ++ []) st w
        (λ j. let f = count_lines j b.0 [] in omega (arith, f))
        (λ h. each_call (To (st ++ [])) (To st) (λ j p. calls_no_more j st p) (to_core b.0)
        (calls_first (To (st ++ [])) b.0 [] h)) in
        round_one G (left t.1) l b.0 (core.loop false t.0 (to_core b.0) core.stop) (calls_none (suc n)) st u
        (λ j. count_nothing j (scoped (to_core b.0))) (λ h. (h, tt))
    statement_walks G n c i s a (is_for {l = l} {f = f} {e = e} {n = next} {s = body} p t q b
        (first_declares {d = d} r g) k u v) =
        let E = entered G in
        let J = p.1 in
        let L = q.1 in
        let H = left b.1 in
        let sf = initialisations (suc (suc n)) d.inits in
        let sb = stands (suc n) body in
        let x = declaration_walks fs E false (suc (suc n)) d r (no_names, G.scopes, refl) g in
        let y = loop_walks J t.1 L b.1 l t.0 q.0 b.0 sb (test_if_keeps J e t k) (evaluation_if_still t.1 next q u)
        (statement_walks (entered L) (suc n) c true body b v) in
        let loop : core.What = core.loop true t.0 (to_core b.0) (to_core q.0) in
        let z = walk_on fs E J H p.0 (one_line l loop) sf sb x (walk_of fs J H (one_line l loop) sb y) in
        let w = closed fs G H l (p.0 ++ one_line l loop) (sf ++ sb) z in
        let whole = one_line l (core.scope (blocks_behind 0 H) (to_core (p.0 ++ one_line l loop))) in
        still_as fs G (left H) whole whole (sf ++ sb) (stands n s) w (λ j. refl)
        (λ h. each_call (To (sf ++ sb)) (To (stands n s)) (λ j o. inr o) (to_core whole) h)
    statement_walks G n c i s a (is_for {l = l} {f = f} {e = e} {n = next} {s = body} p t q b
        (first_evaluates {e = o} r g) k u v) =
        let E = entered G in
        let J = p.1 in
        let L = q.1 in
        let H = left b.1 in
        let sb = stands (suc n) body in
        let x = evaluation_if_still E o p g in
        let y = loop_walks J t.1 L b.1 l t.0 q.0 b.0 sb (test_if_keeps J e t k) (evaluation_if_still t.1 next q u)
        (statement_walks (entered L) (suc n) c true body b v) in
        let loop : core.What = core.loop true t.0 (to_core b.0) (to_core q.0) in
        let z = still_left fs G H (p.0 ++ one_line l loop) sb (still_on fs E J H p.0 (one_line l loop) [] sb x y) in
        still_as fs G (left H) (p.0 ++ one_line l loop) (p.0 ++ one_line l loop) sb (stands n s) z (λ j. refl)
        (λ h. each_call (To sb) (To (stands n s)) (λ j o. inr o) (to_core (p.0 ++ one_line l loop)) h)
    statement_walks G n c i s a (is_break {l = l} b e) = jump_still G i l core.break_loop b (stands n s) refl tt e
    statement_walks G n c i s a (is_continue {l = l} b e) = jump_still G i l core.continue_loop b (stands n s) refl tt e
    statement_walks G n c i s a (returns_nothing {l = l} w e) = nothing_still G c l w (stands n s) e
    statement_walks G n c i s a (returns_value {l = l} {e = e} x w m q) =
        value_still G (mentioned G e) c l x w (stands n s) (expression_keeps e G) q

    statements_walk : (G : Env) (n : ℕ) (c : CType) (i : Bool) (ss : Stmts) (a : List Line × Env)
        → MeansStatements G c i ss a
        → Still fs G a.1 a.0 (stands_in_stmts n ss)
    statements_walk G n c i ss a no_statements = still_keeps fs G G [] (keeps_itself G)
    statements_walk G n c i ss a (more_statements {s = s} {ss = us} x y m k) =
        still_on fs G x.1 y.1 x.0 y.0 (stands n s) (stands_in_stmts n us) (statement_walks G n c i s x m)
        (statements_walk x.1 n c i us y k)

    part_walks : (G : Env) (n : ℕ) (c : CType) (i : Bool) (p : Part) (a : List Line × Env) → HasScope G
        → MeansPart G c i p a
        → Walk fs G a.1 a.0 (stands_in_part n p)
    part_walks G n c i p a h (part_declares {d = d} m k) = declaration_walks fs G true (suc n) d m h k
    part_walks G n c i p a h (part_states {s = s} x m) = walk_of fs G a.1 a.0 (stands n s)
        (statement_walks G n c i s a m)
    part_walks G n c i p a h (is_arm {l = l} {o = o} {ss = ss} x m) =
        let st = stands_in_stmts (suc n) ss in
        let y = still_left fs G x.1 x.0 st (statements_walk (entered G) (suc n) c i ss x m) in
        walk_of fs G (left x.1) (one_line l (core.by_order (order_of o) (to_core x.0) core.stop))
        (calls_none (suc n) ∷ st)
        (round_one G (left x.1) l x.0 (core.by_order (order_of o) (to_core x.0) core.stop) (calls_none (suc n)) st y
        (λ j. count_nothing j (scoped (to_core x.0))) (λ h. (h, tt)))
    part_walks G n c i p a h (is_two_arms {l = l} {o = o} {ss = ss} {us = us} x y m k) =
        let K = left x.1 in
        let u = still_left fs G x.1 x.0 (stands_in_stmts (suc n) ss) (statements_walk (entered G) (suc n) c i ss x m) in
        let v = still_left fs K y.1 y.0 (stands_in_stmts (suc n) us) (statements_walk (entered K) (suc n) c i us y k) in
        let st = stands_in_stmts (suc n) ss ++ stands_in_stmts (suc n) us in
        let w = still_on fs G K (left y.1) x.0 y.0 (stands_in_stmts (suc n) ss) (stands_in_stmts (suc n) us) u v in
        walk_of fs G (left y.1) (one_line l (core.by_order (order_of o) (to_core x.0) (to_core y.0)))
        (calls_none (suc n) ∷ st)
        (round_one G (left y.1) l (x.0 ++ y.0) (core.by_order (order_of o) (to_core x.0) (to_core y.0))
        (calls_none (suc n)) st w
        (λ j. count_pair j x.0 y.0) (λ h. (calls_first (To st) x.0 y.0 h, calls_second (To st) x.0 y.0 h)))

    pub parts_walk : (G : Env) (n : ℕ) (c : CType) (i : Bool) (ps : Parts) (a : List Line × Env) → HasScope G
        → MeansParts G c i ps a
        → Walk fs G a.1 a.0 (stands_in_parts n ps)
    parts_walk G n c i ps a h no_parts_left = walk_of fs G G [] [] (still_keeps fs G G [] (keeps_itself G))
    parts_walk G n c i ps a h (one_part_more {p = p} {ps = qs} x y m k) =
        let w = part_walks G n c i p x h m in
        walk_on fs G x.1 y.1 x.0 y.0 (stands_in_part n p) (stands_in_parts n qs) w
        (parts_walk x.1 n c i qs y (scope_comes w.own G x.1 h w.names) k)
