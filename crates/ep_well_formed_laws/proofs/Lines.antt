-- Statements of a function come to lines that fit.
use Rattle.std.proofs.Common.{◌≡◌, ℕ, ◌<◌, Bool, true, false, true≢false, List, [], ◌∷◌, ◌++◌, length, Option, Some}
use Rattle.ep_core.proofs.Tables.{more_types}
use Rattle.std.proofs.lemmas.Bool.{and_from}
use Rattle.std.proofs.Common.{None, Ok, refl, sym, ◌∙◌, subst, arith, pos}
use Rattle.ep_int.specs.declared.types.IntType.TheVariants.{I32}
use Rattle.ep_ast.specs.Expression as source
use Rattle.ep_ast.specs.Statement.{First, Part, Parts, Stmt, Stmts, declares, evaluates}
use Rattle.ep_core.specs.Program as core
use Rattle.ep_core.specs.WellFormed.{are_plain, is_plain, is_tested, result_fits}
use Rattle.ep_typing.specs.declared.types.CType.{CType}
use Rattle.ep_typing.specs.Types.{is_void}
use Rattle.ep_typing.specs.Env.{Env, no_names}
use Rattle.ep_typing.specs.Names.{mentioned}
use Rattle.ep_typing.specs.Operand.{Operand, Value, fitted, value_of}
use Rattle.ep_well_formed_laws.specs.Operands.{OperandFits, ValueFits}
use Rattle.ep_typing.proofs.Order.{meant}
use Rattle.ep_elaboration.specs.Declarations.{Line}
use Rattle.ep_elaboration.specs.Statements.{blocks_behind, blocks_of, entered, for_lines, innermost, jump, left}
use Rattle.ep_elaboration.specs.Statements.{nothing_returned, one_line, operand_returned, returned, to_core}
use Rattle.ep_elaboration.specs.Statements.{value_returned}
use Rattle.ep_elaboration.specs.StatementRules.{MeansEvaluation, MeansEvaluationIf, MeansFirst, MeansPart}
use Rattle.ep_elaboration.specs.StatementRules.{MeansParts, MeansStatement, MeansStatements, MeansTestIf}
use Rattle.ep_elaboration.specs.StatementRules.{MeansTestIn, first_declares, first_evaluates, is_arm, is_block}
use Rattle.ep_elaboration.specs.StatementRules.{is_break, is_continue, is_do, is_evaluated, is_evaluation}
use Rattle.ep_elaboration.specs.StatementRules.{is_field_statement}
use Rattle.ep_elaboration.specs.StatementRules.{is_for, is_if, is_if_else, is_nothing, is_test_in, is_two_arms}
use Rattle.ep_elaboration.specs.StatementRules.{is_while, more_statements, no_evaluation, no_parts_left}
use Rattle.ep_elaboration.specs.StatementRules.{no_statements, no_test, one_part_more, part_declares}
use Rattle.ep_elaboration.specs.StatementRules.{part_states, returns_nothing, returns_value, some_evaluation}
use Rattle.ep_elaboration.specs.StatementRules.{some_test}
use Rattle.ep_elaboration.specs.WholeRules.{is_test}
use Rattle.ep_well_formed_laws.specs.Environments.{Covers, HasScope, IsEnv}
use Rattle.ep_well_formed_laws.specs.Statements.{IsResultOf, StmtsFit, WhatFits, a_result, no_result}
use Rattle.ep_well_formed_laws.proofs.Additions.{type_number_stays}
use Rattle.ep_well_formed_laws.proofs.FieldAccesses.{access_plain, statement_access}
use Rattle.ep_well_formed_laws.proofs.FieldUses.{field_statement_fits}
use Rattle.ep_well_formed_laws.proofs.Mentions.{expression_mentioned}
use Rattle.ep_well_formed_laws.proofs.Objects.{scope_stays}
use Rattle.ep_well_formed_laws.proofs.FirstValues.{LinesFit, declaration_fits, no_lines, stmts_both}
use Rattle.ep_well_formed_laws.proofs.Parts.{scalar_not_void, value_fits}
use Rattle.ep_well_formed_laws.proofs.Scopes.{HaveNames, names_on, same_names}
use Rattle.ep_well_formed_laws.proofs.StatementGrowth.{tested_stays}
use Rattle.ep_well_formed_laws.proofs.Steps.{Follows, NamesGrow, all_blocks, covers_all, covers_before, covers_empty}
use Rattle.ep_well_formed_laws.proofs.Steps.{covers_inside, env_entered, follows_entered, follows_itself}
use Rattle.ep_well_formed_laws.proofs.Steps.{follows_left, follows_mentions, follows_on, names_grow_on, names_left}
use Rattle.ep_well_formed_laws.proofs.Steps.{names_stay, same_left, stmts_later}
use Rattle.ep_well_formed_laws.proofs.Stores.{has_type_is}
use Rattle.ep_well_formed_laws.proofs.Tests.{after, given, unless}
use Rattle.ep_well_formed_laws.proofs.TypedExpressions.{typed_fits}
use Rattle.ep_well_formed_laws.proofs.Values.{fitted_fits, target_made, tested_is}
use Rattle.ep_well_formed_laws.proofs.WholeStatements.{whole_fits}

-- ---- the result of a function

result_later : (G H : Env) → Follows G H → (c : CType) (result : Option ℕ) → IsResultOf G.types c result
    → IsResultOf H.types c result
result_later G H f c result (no_result v e) = no_result v e
result_later G H f c result (a_result n s k e) =
    a_result n s (type_number_stays G.types H.types f.grows f.env.declared.table.built c n k) e

-- ---- parts of statements

-- what fits in a function with this result
pub record Inside (G : Env) (c : CType) (result : Option ℕ) : Type 0 where
  pub env : IsEnv G
  pub scope : HasScope G
  pub some : 0 < length G.types.types
  pub result_is : IsResultOf G.types c result

inside_later : (G H : Env) (c : CType) (result : Option ℕ) → Inside G c result → Follows G H → NamesGrow G.scopes H.scopes
    → Inside H c result
inside_later G H c result h f n = record {
  env = f.env;
  scope = scope_stays G H n h.scope;
  some = omega (arith, h.some, more_types G.types H.types f.grows);
  result_is = result_later G H f c result h.result_is;
}

inside_entered : (G : Env) (c : CType) (result : Option ℕ) → Inside G c result → Inside (entered G) c result
inside_entered G c result h = record {
  env = env_entered G h.env;
  scope = (no_names, G.scopes, refl);
  some = h.some;
  result_is = h.result_is;
}

record TestFits (G H : Env) (w : core.Expr) : Type 0 where
  follows : Follows G H
  names : HaveNames G.scopes H.scopes
  fits : (seen : List ℕ) → Covers seen H → is_tested H.types H.blocks seen w ≡ true

tested_fits : (G : Env) (e : source.Expr) (t : core.Expr × Env) → IsEnv G → 0 < length G.types.types → MeansTestIn G e t
    → TestFits G t.1 t.0
tested_fits G e t h l (is_test_in w (is_test x v u m q r)) =
    let H = mentioned G e in
    let p = expression_mentioned G e h.declared in
    let f = follows_mentions G H h p.mentions in
    let some : 0 < length H.types.types = omega (arith, l, more_types G.types H.types p.mentions.grows) in
    record {
      follows = f;
      names = p.mentions.names;
      fits = λ seen covers. tested_is H.types H.blocks seen some v w
          (value_fits H.types H.blocks H.functions seen f.env.declared.table some x v
          (typed_fits H seen f.env covers some e x p.there (meant H e x m)) q) r;
    }

one_is_tested : (G : Env) (seen : List ℕ) → is_tested G.types G.blocks seen (core.const I32 (pos 1)) ≡ true
one_is_tested G seen = refl

tested_if_fits : (G : Env) (e : Option source.Expr) (t : core.Expr × Env) → IsEnv G → 0 < length G.types.types
    → MeansTestIf G e t → TestFits G t.1 t.0
tested_if_fits G e t h l no_test = record {
  follows = follows_itself G h;
  names = same_names G.scopes;
  fits = λ seen covers. one_is_tested G seen;
}
tested_if_fits G e t h l (some_test {e = d} u m) = tested_fits G d t h l m

-- lines that leave all names as they are
record KeepsNames (G H : Env) (result : Option ℕ) (ls : List Line) : Type 0 where
  lines : LinesFit G H result ls
  names : HaveNames G.scopes H.scopes

record IsEvaluated (G H : Env) (result : Option ℕ) (ls : List Line) (no_call : Type 0) : Type 0 where
  keeps : KeepsNames G H result ls
  plain : no_call → are_plain (to_core ls) ≡ true

evaluation_fits : (G : Env) (result : Option ℕ) (c : Bool) (l : ℕ) (e : source.Expr) (w : List Line × Env) → IsEnv G
    → 0 < length G.types.types → MeansEvaluation G c l e w → IsEvaluated G w.1 result w.0 (c ≡ false)
evaluation_fits G result c l e w h s (is_evaluation v m) =
    let H = mentioned G e in
    let p = expression_mentioned G e h.declared in
    let f = follows_mentions G H h p.mentions in
    let some : 0 < length H.types.types = omega (arith, s, more_types G.types H.types p.mentions.grows) in
    record {
      keeps = record {
        lines = record {
          follows = f;
          names = names_stay G.scopes H.scopes p.mentions.names;
          fits = λ seen covers i. ((whole_fits H seen f.env covers some result c e v p.there m).fits i, tt);
        };
        names = p.mentions.names;
      };
      plain = λ q.
          let all = all_blocks H.scopes in
          let k = (whole_fits H all f.env (covers_all H.blocks H.scopes) some result c e v p.there m).plain q in
          and_from (is_plain v) true k refl;
    }
evaluation_fits G result c l e w h s (is_field_statement v m) =
    let H = mentioned G e in
    let p = expression_mentioned G e h.declared in
    let f = follows_mentions G H h p.mentions in
    let some : 0 < length H.types.types = omega (arith, s, more_types G.types H.types p.mentions.grows) in
    record {
      keeps = record {
        lines = record {
          follows = f;
          names = names_stay G.scopes H.scopes p.mentions.names;
          fits = λ seen covers i. (field_statement_fits H seen f.env covers some result l e v p.there m i, tt);
        };
        names = p.mentions.names;
      };
      plain = λ q. and_from (is_plain v) true (access_plain v (statement_access H l e v m)) refl;
    }

evaluation_if_fits : (G : Env) (result : Option ℕ) (e : Option source.Expr) (w : List Line × Env) → IsEnv G
    → 0 < length G.types.types → MeansEvaluationIf G e w → IsEvaluated G w.1 result w.0 (Unit {0})
evaluation_if_fits G result e w h s no_evaluation = record {
  keeps = record { lines = no_lines G result h; names = same_names G.scopes };
  plain = λ q. refl;
}
evaluation_if_fits G result e w h s (some_evaluation {e = d} v m) =
    let k = evaluation_fits G result false (source.line_of d) d v h s m in
    record { keeps = k.keeps; plain = λ q. k.plain refl }

-- ---- jumps and returns

jump_lines : (G : Env) (result : Option ℕ) (i : Bool) (l : ℕ) (w : core.What) (b : List Line)
    → ((seen : List ℕ) → i ≡ true → WhatFits G.types G.blocks G.functions result w seen i) → jump i l w ≡ Ok b
    → (seen : List ℕ) → StmtsFit G.types G.blocks G.functions result (to_core b) seen i
jump_lines G result i l w b f e seen = by i refl e
  where
    by : (j : Bool) → i ≡ j → jump j l w ≡ Ok b → StmtsFit G.types G.blocks G.functions result (to_core b) seen i
    by true q p =
        let same : one_line l w ≡ b = cc in
        subst (λ (ls : List Line). StmtsFit G.types G.blocks G.functions result (to_core ls) seen i) same (f seen q, tt)
    by false q p = absurd cc

-- lines of which that they stand in a loop may matter
record InLoopFit (G H : Env) (result : Option ℕ) (i : Bool) (ls : List Line) : Type 0 where
  follows : Follows G H
  names : HaveNames G.scopes H.scopes
  fits : (seen : List ℕ) → Covers seen H → StmtsFit H.types H.blocks H.functions result (to_core ls) seen i

pub record PartFits (G H : Env) (result : Option ℕ) (i : Bool) (ls : List Line) : Type 0 where
  pub follows : Follows G H
  pub names : NamesGrow G.scopes H.scopes
  pub fits : (seen : List ℕ) → Covers seen H → StmtsFit H.types H.blocks H.functions result (to_core ls) seen i

of_keeps : (G H : Env) (result : Option ℕ) (i : Bool) (ls : List Line) → KeepsNames G H result ls → InLoopFit G H result i ls
of_keeps G H result i ls k =
    record { follows = k.lines.follows; names = k.names; fits = λ seen covers. k.lines.fits seen covers i }

of_lines : (G H : Env) (result : Option ℕ) (i : Bool) (ls : List Line) → LinesFit G H result ls → PartFits G H result i ls
of_lines G H result i ls k =
    record { follows = k.follows; names = k.names; fits = λ seen covers. k.fits seen covers i }

here_fits : (G : Env) (result : Option ℕ) (i : Bool) (ls : List Line) → IsEnv G
    → ((seen : List ℕ) → Covers seen G → StmtsFit G.types G.blocks G.functions result (to_core ls) seen i)
    → InLoopFit G G result i ls
here_fits G result i ls h f = record { follows = follows_itself G h; names = same_names G.scopes; fits = f }

loop_on : (G H I : Env) (result : Option ℕ) (i : Bool) (ls ms : List Line) → InLoopFit G H result i ls
    → InLoopFit H I result i ms → InLoopFit G I result i (ls ++ ms)
loop_on G H I result i ls ms a b = record {
  follows = follows_on G H I a.follows b.follows;
  names = names_on G.scopes H.scopes I.scopes a.names b.names;
  fits = λ seen covers. stmts_both I result ls ms seen i
      (stmts_later H I b.follows result (to_core ls) seen i
      (a.fits seen (covers_before seen H I a.follows.env b.follows (names_stay H.scopes I.scopes b.names) covers)))
      (b.fits seen covers);
}

part_on : (G H I : Env) (result : Option ℕ) (i : Bool) (ls ms : List Line) → PartFits G H result i ls
    → PartFits H I result i ms → PartFits G I result i (ls ++ ms)
part_on G H I result i ls ms a b = record {
  follows = follows_on G H I a.follows b.follows;
  names = names_grow_on G.scopes H.scopes I.scopes a.names b.names;
  fits = λ seen covers. stmts_both I result ls ms seen i
      (stmts_later H I b.follows result (to_core ls) seen i
      (a.fits seen (covers_before seen H I a.follows.env b.follows b.names covers)))
      (b.fits seen covers);
}

part_of : (G H : Env) (result : Option ℕ) (i : Bool) (ls : List Line) → InLoopFit G H result i ls → PartFits G H result i ls
part_of G H result i ls k = record { follows = k.follows; names = names_stay G.scopes H.scopes k.names; fits = k.fits }

nothing_returned_fits : (G : Env) (c : CType) (result : Option ℕ) (w : core.What) (seen : List ℕ) (i : Bool)
    → IsResultOf G.types c result → nothing_returned c ≡ Ok w → WhatFits G.types G.blocks G.functions result w seen i
unfolding nothing_returned
nothing_returned_fits G c result w seen i r e =
    let g = given (is_void c) (returned None) w 32 e in
    subst (λ (v : core.What). WhatFits G.types G.blocks G.functions result v seen i) g.1 (by r g.0)
  where
    by : IsResultOf G.types c result → is_void c ≡ true → result_fits G.types G.blocks seen result None ≡ true
    by (no_result v q) p = rw q refl
    by (a_result n s k q) p = absurd (true≢false (sym p ∙ scalar_not_void c s))

value_returned_fits : (G : Env) (c : CType) (result : Option ℕ) (x : Operand) (w : core.What) (seen : List ℕ) (i : Bool)
    → (h : IsEnv G) → (some : 0 < length G.types.types) → OperandFits G.types G.blocks G.functions seen x
    → IsResultOf G.types c result → operand_returned G.types c x ≡ Ok w
    → WhatFits G.types G.blocks G.functions result w seen i
unfolding operand_returned
value_returned_fits G c result x w seen i h some k r e =
    let a = unless (is_void c) 32 (value_returned G.types c x) w e in
    let v = after (value_of G.types x) _ w a.1 in
    let y = after (fitted c v.0) _ w v.2 in
    let same : returned (Some y.0) ≡ w = (let q = y.2 in cc) in
    subst (λ (u : core.What). WhatFits G.types G.blocks G.functions result u seen i) same
    (by y.0 r a.0 v.0 (value_fits G.types G.blocks G.functions seen h.declared.table some x v.0 k v.1) y.1)
  where
    by : (y : core.Expr) → IsResultOf G.types c result → is_void c ≡ false → (v : Value) → ValueFits G.types G.blocks seen v
        → fitted c v ≡ Ok y → result_fits G.types G.blocks seen result (Some y) ≡ true
    by y (no_result p q) n v f z = absurd (true≢false (sym p ∙ n))
    by y (a_result m s p q) n v f z =
        let g = fitted_fits G.types G.blocks seen some c v y f (target_made G.types c (m, p)) z in
        rw q (has_type_is G.types G.blocks seen h.declared.table some c m y s p g.1)

-- ---- statements

-- a statement in a scope of its own inside of another, of which no names are left
record BodyFits (G H : Env) (result : Option ℕ) (i : Bool) (ls : List Line) : Type 0 where
  follows : Follows G H
  names : HaveNames G.scopes H.scopes
  fits : (seen : List ℕ) → Covers seen H → StmtsFit H.types H.blocks H.functions result (to_core ls) seen i

-- out of the scope
body_of : (G H : Env) (result : Option ℕ) (i : Bool) (ls : List Line) → IsEnv G → InLoopFit (entered G) H result i ls
    → BodyFits G (left H) result i ls
body_of G H result i ls h k = record {
  follows = follows_left G H (follows_entered G H h k.follows);
  names = same_left no_names G.scopes H.scopes k.names;
  fits = λ seen covers. k.fits seen (covers_empty seen H G.scopes k.names covers);
}

-- the tests and bodies of `if` and loops, in order
body_later : (G H I : Env) (result : Option ℕ) (i : Bool) (ls : List Line) → BodyFits G H result i ls → Follows H I
    → HaveNames H.scopes I.scopes → (seen : List ℕ) → Covers seen I
    → StmtsFit I.types I.blocks I.functions result (to_core ls) seen i
body_later G H I result i ls k f n seen covers =
    stmts_later H I f result (to_core ls) seen i
    (k.fits seen (covers_before seen H I k.follows.env f (names_stay H.scopes I.scopes n) covers))

test_later : (G H I : Env) (w : core.Expr) → TestFits G H w → Follows H I → HaveNames H.scopes I.scopes → (seen : List ℕ)
    → Covers seen I → is_tested I.types I.blocks seen w ≡ true
test_later G H I w k f n seen covers =
    subst (λ (bs : List core.Block). is_tested I.types bs seen w ≡ true) (sym f.blocks)
    (tested_stays H.types I.types f.grows f.env.declared.table.built H.blocks f.more seen w
    (k.fits seen (covers_before seen H I k.follows.env f (names_stay H.scopes I.scopes n) covers)))

-- what stands in a scope without names of its own
out_of : (G H : Env) (result : Option ℕ) (i : Bool) (l : ℕ) (w : core.What) → IsEnv G → Follows (entered G) H
    → HaveNames (no_names ∷ G.scopes) H.scopes
    → ((seen : List ℕ) → Covers seen H → WhatFits H.types H.blocks H.functions result w seen i)
    → InLoopFit G (left H) result i (one_line l w)
out_of G H result i l w h f n k = record {
  follows = follows_left G H (follows_entered G H h f);
  names = same_left no_names G.scopes H.scopes n;
  fits = λ seen covers. (k seen (covers_empty seen H G.scopes n covers), tt);
}

inside_test : (G H : Env) (c : CType) (result : Option ℕ) (w : core.Expr) → Inside G c result → TestFits G H w
    → Inside H c result
inside_test G H c result w h t = inside_later G H c result h t.follows (names_stay G.scopes H.scopes t.names)

inside_body : (G H : Env) (c : CType) (result : Option ℕ) (i : Bool) (ls : List Line) → Inside G c result
    → BodyFits G H result i ls → Inside H c result
inside_body G H c result i ls h b = inside_later G H c result h b.follows (names_stay G.scopes H.scopes b.names)

-- the first part of a `for`
first_fits : (G : Env) (result : Option ℕ) (f : First) (p : List Line × Env) → IsEnv G → HasScope G
    → 0 < length G.types.types → MeansFirst G f p → LinesFit G p.1 result p.0
first_fits G result f p h s l (first_declares {d = d} m q) = declaration_fits G result false d m h s l q
first_fits G result f p h s l (first_evaluates {e = e} w q) = (evaluation_if_fits G result e w h l q).keeps.lines

-- of one that evaluates the names stay
first_keeps : (G : Env) (result : Option ℕ) (e : Option source.Expr) (p : List Line × Env) → IsEnv G → 0 < length G.types.types
    → MeansFirst G (evaluates e) p → HaveNames G.scopes p.1.scopes
first_keeps G result e p h l (first_evaluates w q) = (evaluation_if_fits G result e w h l q).keeps.names

-- a `for`, with a scope of the core where it declares something
for_fits : (G J H : Env) (result : Option ℕ) (i : Bool) (f : First) (l : ℕ) (ls : List Line) (w : core.What) → IsEnv G
    → LinesFit (entered G) J result ls → Follows J H → HaveNames J.scopes H.scopes
    → ((seen : List ℕ) → Covers seen H → WhatFits H.types H.blocks H.functions result w seen i)
    → ((e : Option source.Expr) → f ≡ evaluates e → HaveNames (no_names ∷ G.scopes) J.scopes)
    → InLoopFit G (left H) result i (for_lines f l ls w (blocks_behind 0 H))
for_fits G J H result i (declares d) l ls w h x g n k keep = record {
  follows = follows_left G H (follows_entered G H h (follows_on (entered G) J H x.follows g));
  names = names_left no_names G.scopes H.scopes
      (names_grow_on (no_names ∷ G.scopes) J.scopes H.scopes x.names (names_stay J.scopes H.scopes n));
  fits = λ seen covers.
      let own : List ℕ = blocks_of (innermost H).names ++ seen in
      let inside = covers_inside seen H covers in
      let before = covers_before own J H x.follows.env g (names_stay J.scopes H.scopes n) inside in
      (stmts_both H result ls (one_line l w) own i (stmts_later J H g result (to_core ls) own i (x.fits own before i)) (k own inside, tt), tt);
}
for_fits G J H result i (evaluates e) l ls w h x g n k keep =
    let all = names_on (no_names ∷ G.scopes) J.scopes H.scopes (keep e refl) n in
    record {
      follows = follows_left G H (follows_entered G H h (follows_on (entered G) J H x.follows g));
      names = same_left no_names G.scopes H.scopes all;
      fits = λ seen covers.
          let inside = covers_empty seen H G.scopes all covers in
          let before = covers_before seen J H x.follows.env g (names_stay J.scopes H.scopes n) inside in
          stmts_both H result ls (one_line l w) seen i (stmts_later J H g result (to_core ls) seen i (x.fits seen before i)) (k seen inside, tt);
    }

mutual
  statement_fits : (G : Env) (c : CType) (result : Option ℕ) (i : Bool) (s : Stmt) (a : List Line × Env)
      → Inside G c result → MeansStatement G c i s a → InLoopFit G a.1 result i a.0
  statement_fits G c result i s a h (is_block {l = l} {ps = ps} b m) =
      let k = parts_fit (entered G) c result i ps b (inside_entered G c result h) m in
      let H = b.1 in
      record {
        follows = follows_left G H (follows_entered G H h.env k.follows);
        names = names_left no_names G.scopes H.scopes k.names;
        fits = λ seen covers. (k.fits (blocks_of (innermost H).names ++ seen) (covers_inside seen H covers), tt);
      }
  statement_fits G c result i s a h (is_nothing {l = l}) =
      here_fits G result i (one_line l (core.simple core.nothing)) h.env (λ seen covers. (refl, tt))
  statement_fits G c result i s a h (is_evaluated {l = l} {e = e} w m) =
      of_keeps G w.1 result i w.0 (evaluation_fits G result true l e w h.env h.some m).keeps
  statement_fits G c result i s a h (is_if {l = l} {e = e} {s = body} t b m n) =
      let E = entered G in
      let j = inside_entered G c result h in
      let x = tested_fits E e t j.env j.some m in
      let J = t.1 in
      let k = inside_test E J c result t.0 j x in
      let y = body_of J b.1 result i b.0 k.env (statement_fits (entered J) c result i body b (inside_entered J c result k) n) in
      let H = left b.1 in
      out_of G H result i l (core.if_else t.0 (to_core b.0) core.stop) h.env (follows_on E J H x.follows y.follows)
      (names_on E.scopes J.scopes H.scopes x.names y.names)
      (λ seen covers. (test_later E J H t.0 x y.follows y.names seen covers, y.fits seen covers, tt))
  statement_fits G c result i s a h (is_if_else {l = l} {e = e} {s = first} {u = second} t b d m n o) =
      let E = entered G in
      let j = inside_entered G c result h in
      let x = tested_fits E e t j.env j.some m in
      let J = t.1 in
      let k = inside_test E J c result t.0 j x in
      let y = body_of J b.1 result i b.0 k.env (statement_fits (entered J) c result i first b (inside_entered J c result k) n) in
      let K = left b.1 in
      let q = inside_body J K c result i b.0 k y in
      let z = body_of K d.1 result i d.0 q.env (statement_fits (entered K) c result i second d (inside_entered K c result q) o) in
      let H = left d.1 in
      out_of G H result i l (core.if_else t.0 (to_core b.0) (to_core d.0)) h.env
      (follows_on E J H x.follows (follows_on J K H y.follows z.follows))
      (names_on E.scopes J.scopes H.scopes x.names (names_on J.scopes K.scopes H.scopes y.names z.names))
      (λ seen covers. (
        test_later E J H t.0 x (follows_on J K H y.follows z.follows) (names_on J.scopes K.scopes H.scopes y.names z.names) seen covers,
        body_later J K H result i b.0 y z.follows z.names seen covers,
        z.fits seen covers,
      ))
  statement_fits G c result i s a h (is_while {l = l} {e = e} {s = body} t b m n) =
      let E = entered G in
      let j = inside_entered G c result h in
      let x = tested_fits E e t j.env j.some m in
      let J = t.1 in
      let k = inside_test E J c result t.0 j x in
      let y = body_of J b.1 result true b.0 k.env (statement_fits (entered J) c result true body b (inside_entered J c result k) n) in
      let H = left b.1 in
      out_of G H result i l (core.loop true t.0 (to_core b.0) core.stop) h.env (follows_on E J H x.follows y.follows)
      (names_on E.scopes J.scopes H.scopes x.names y.names)
      (λ seen covers. (test_later E J H t.0 x y.follows y.names seen covers, y.fits seen covers, refl, tt))
  statement_fits G c result i s a h (is_do {l = l} {s = body} {e = e} b t m n) =
      let E = entered G in
      let j = inside_entered G c result h in
      let y = body_of E b.1 result true b.0 j.env (statement_fits (entered E) c result true body b (inside_entered E c result j) m) in
      let K = left b.1 in
      let q = inside_body E K c result true b.0 j y in
      let x = tested_fits K e t q.env q.some n in
      let H = t.1 in
      out_of G H result i l (core.loop false t.0 (to_core b.0) core.stop) h.env (follows_on E K H y.follows x.follows)
      (names_on E.scopes K.scopes H.scopes y.names x.names)
      (λ seen covers. (x.fits seen covers, body_later E K H result true b.0 y x.follows x.names seen covers, refl, tt))
  statement_fits G c result i s a h (is_for {l = l} {f = f} {e = e} {n = n} {s = body} p t q b m k u v) =
      let E = entered G in
      let j = inside_entered G c result h in
      let x = first_fits E result f p j.env j.scope j.some m in
      let J = p.1 in
      let jj = inside_later E J c result j x.follows x.names in
      let y = tested_if_fits J e t jj.env jj.some k in
      let K = t.1 in
      let kk = inside_test J K c result t.0 jj y in
      let z = evaluation_if_fits K result n q kk.env kk.some u in
      let L = q.1 in
      let ll = inside_later K L c result kk z.keeps.lines.follows z.keeps.lines.names in
      let w = body_of L b.1 result true b.0 ll.env (statement_fits (entered L) c result true body b (inside_entered L c result ll) v) in
      let H = left b.1 in
      let loop : core.What = core.loop true t.0 (to_core b.0) (to_core q.0) in
      let next = follows_on K L H z.keeps.lines.follows w.follows in
      let next_names = names_on K.scopes L.scopes H.scopes z.keeps.names w.names in
      let loop_fits : (seen : List ℕ) → Covers seen H → WhatFits H.types H.blocks H.functions result loop seen i =
      λ seen covers. (
        test_later J K H t.0 y next next_names seen covers,
        w.fits seen covers,
        z.plain tt,
        stmts_later L H w.follows result (to_core q.0) seen i
            (z.keeps.lines.fits seen (covers_before seen L H ll.env w.follows (names_stay L.scopes H.scopes w.names) covers) i),
      ) in
      for_fits G J H result i f l p.0 loop h.env x (follows_on J K H y.follows next)
      (names_on J.scopes K.scopes H.scopes y.names next_names) loop_fits
      (λ d e. first_keeps E result d p j.env j.some (subst (λ (g : First). MeansFirst E g p) e m))
  statement_fits G c result i s a h (is_break {l = l} b e) =
      here_fits G result i b h.env (λ seen covers. jump_lines G result i l core.break_loop b (λ seen q. q) e seen)
  statement_fits G c result i s a h (is_continue {l = l} b e) =
      here_fits G result i b h.env (λ seen covers. jump_lines G result i l core.continue_loop b (λ seen q. q) e seen)
  statement_fits G c result i s a h (returns_nothing {l = l} w e) =
      here_fits G result i (one_line l w) h.env
      (λ seen covers. (nothing_returned_fits G c result w seen i h.result_is e, tt))
  statement_fits G c result i s a h (returns_value {l = l} {e = e} x w m q) =
      let H = mentioned G e in
      let p = expression_mentioned G e h.env.declared in
      let f = follows_mentions G H h.env p.mentions in
      let some : 0 < length H.types.types = omega (arith, h.some, more_types G.types H.types p.mentions.grows) in
      record {
        follows = f;
        names = p.mentions.names;
        fits = λ seen covers. (
          value_returned_fits H c result x w seen i f.env some
              (typed_fits H seen f.env covers some e x p.there (meant H e x m)) (result_later G H f c result h.result_is) q,
          tt,
        );
      }

  statements_fit : (G : Env) (c : CType) (result : Option ℕ) (i : Bool) (ss : Stmts) (a : List Line × Env)
      → Inside G c result → MeansStatements G c i ss a → InLoopFit G a.1 result i a.0
  statements_fit G c result i ss a h no_statements = here_fits G result i [] h.env (λ seen covers. tt)
  statements_fit G c result i ss a h (more_statements {s = s} {ss = us} x y m n) =
      let p = statement_fits G c result i s x h m in
      let H = x.1 in
      let q = statements_fit H c result i us y (inside_later G H c result h p.follows (names_stay G.scopes H.scopes p.names)) n in
      loop_on G H y.1 result i x.0 y.0 p q

  part_fits : (G : Env) (c : CType) (result : Option ℕ) (i : Bool) (p : Part) (a : List Line × Env) → Inside G c result
      → MeansPart G c i p a → PartFits G a.1 result i a.0
  part_fits G c result i p a h (part_declares {d = d} m n) =
      of_lines G m.1 result i m.0.lines (declaration_fits G result true d m h.env h.scope h.some n)
  part_fits G c result i p a h (part_states {s = s} x m) = part_of G a.1 result i a.0 (statement_fits G c result i s a h m)
  part_fits G c result i p a h (is_arm {l = l} {o = o} {ss = ss} x m) =
      let y = body_of G x.1 result i x.0 h.env (statements_fit (entered G) c result i ss x (inside_entered G c result h) m) in
      record {
        follows = y.follows;
        names = names_stay G.scopes (left x.1).scopes y.names;
        fits = λ seen covers. ((y.fits seen covers, tt), tt);
      }
  part_fits G c result i p a h (is_two_arms {l = l} {o = o} {ss = ss} {us = us} x y m n) =
      let u = body_of G x.1 result i x.0 h.env (statements_fit (entered G) c result i ss x (inside_entered G c result h) m) in
      let K = left x.1 in
      let q = inside_body G K c result i x.0 h u in
      let v = body_of K y.1 result i y.0 q.env (statements_fit (entered K) c result i us y (inside_entered K c result q) n) in
      let H = left y.1 in
      record {
        follows = follows_on G K H u.follows v.follows;
        names = names_stay G.scopes H.scopes (names_on G.scopes K.scopes H.scopes u.names v.names);
        fits = λ seen covers. ((body_later G K H result i x.0 u v.follows v.names seen covers, v.fits seen covers), tt);
      }

  pub parts_fit : (G : Env) (c : CType) (result : Option ℕ) (i : Bool) (ps : Parts) (a : List Line × Env) → Inside G c result
      → MeansParts G c i ps a → PartFits G a.1 result i a.0
  parts_fit G c result i ps a h no_parts_left = part_of G G result i [] (here_fits G result i [] h.env (λ seen covers. tt))
  parts_fit G c result i ps a h (one_part_more {p = p} {ps = qs} x y m n) =
      let k = part_fits G c result i p x h m in
      let H = x.1 in
      let q = parts_fit H c result i qs y (inside_later G H c result h k.follows k.names) n in
      part_on G H y.1 result i x.0 y.0 k q
