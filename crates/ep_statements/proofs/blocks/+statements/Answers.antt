use Rattle.std.proofs.Common.{◌≡◌, ◌<◌, length, ◌∷◌, ◌++◌, [], map, Some, None, arith, sym, ap, ◌∙◌, refl}
use Rattle.std.specs.Prelude.{reverse}
use Rattle.std.proofs.lemmas.Result.{err_from_is_err_and}
use Rattle.ep_ast.specs.Token.{mark, other}
use Rattle.ep_ast.specs.Statement as tree
use Rattle.ep_ast.specs.Statement.{to_stmts, to_parts, make_arms}
use Rattle.ep_ast.specs.DeclarationGrammar.{Declares, in_block}
use Rattle.ep_ast.specs.StatementGrammar.{States, Parts, OnePart, Statements, OtherArm}
use Rattle.ep_lexer.specs.Tokens.{view}
use Rattle.ep_reading.specs.Names.{is_type}
use Rattle.ep_reading.specs.Answer.{IsTaken}
use Rattle.ep_expression_trees.proofs.KeptLemmas.{reverse-last}
use Rattle.ep_reading.proofs.PassLemmas.{stops_stop}
use Rattle.ep_statement_parts.specs.View.{ShowsStmt}
use Rattle.ep_ast.specs.Cut.{order_token}
use Rattle.ep_simple_statements.specs.Piece.{HasNoHead}
use Rattle.ep_statement_heads.specs.Around.{Waits, Stands, Opened}
use Rattle.ep_reading.proofs.SequenceLemmas.{made, made_none, both_takes, both_first, both_second}
use Rattle.ep_statement_parts.proofs.DepthLemmas.{longer_stmts, longer_parts, empty_stmts, empty_parts}
use Rattle.ep_statement_heads.proofs.HeadLemmas.{block_rule, no_head_simple}
use Rattle.ep_statements.proofs.PartLemmas as parts
use Rattle.ep_statement_heads.proofs.StandLemmas as stands
use Rattle.ep_statements.proofs.blocks.+statements.Goals as goal

-- ---- statements

pub statement-heads-init : goal.statement-heads-init
statement-heads-init t c = rw c.new-frames.ensures.items
    (stands.waits_begin (is_type c.args.reader.now.names.now) (map view c.args.tokens.now), omega arith)

pub statement-returns-in_err-frame-clause-reads : goal.statement-returns-in_err-frame-clause-reads
statement-returns-in_err-frame-clause-reads t c =
    let p = err_from_is_err_and c.from_residual.result c.from_residual.ensures.1 in
    let N = is_type c.args.reader.now.names.now in
    rw (p.1, p.2) (stops_stop (States N) (States N) (map view c.heads.rest.now) (map view c.args.tokens.now)
    c.in_err-frame.field-0.0 (stands.waits_none N (map view c.args.tokens.now) (map view c.heads.rest.now)
    (reverse c.heads.frames.items) c.heads.invariant.0) c.in_err-frame.ensures.reads)

pub statement-heads-preserved-in-Some : goal.statement-heads-preserved-in-Some
statement-heads-preserved-in-Some t c =
    let e : reverse c.push.new.self.items ≡ c.in-Some.frame.value ∷ reverse c.heads.frames.items = ap reverse
    c.in_ok-push-in-Some.ensures.items ∙ reverse-last c.heads.frames.items c.in-Some.frame.value in
    let o : Opened (is_type c.args.reader.now.names.now) (map view c.heads.rest.now) c.in-Some.frame.value
    (map view c.in-Some.frame.rest.now) = rw c.in-Some.is at c.in_ok-frame.ensures.reads in
    let s : length c.in-Some.frame.rest.now < length c.heads.rest.now = rw c.in-Some.is at
    c.in_ok-frame.ensures.shorter in
    rw e (
      stands.waits_step (is_type c.args.reader.now.names.now) (map view c.args.tokens.now)
          (map view c.heads.rest.now) (map view c.in-Some.frame.rest.now) (reverse c.heads.frames.items)
          c.in-Some.frame.value c.heads.invariant.0 o,
      omega arith,
    )

pub statement-heads-smaller-in-Some : goal.statement-heads-smaller-in-Some
statement-heads-smaller-in-Some t c = rw c.in-Some.is at c.in_ok-frame.ensures.shorter

pub statement-returns-in_err-inner-in-None-clause-reads : goal.statement-returns-in_err-inner-in-None-clause-reads
statement-returns-in_err-inner-in-None-clause-reads t c =
    let p = err_from_is_err_and c.from_residual-in_err-inner-in-None.result
    c.from_residual-in_err-inner-in-None.ensures.1 in
    let N = is_type c.args.reader.now.names.now in
    let h : HasNoHead (map view c.heads.rest.now) = rw c.in-None.is at c.in_ok-frame.ensures.reads in
    rw (p.1, p.2) (stops_stop (States N) (States N) (map view c.heads.rest.now) (map view c.args.tokens.now)
    c.in_err-inner-in-None.field-0.0
    (stands.waits_none N (map view c.args.tokens.now) (map view c.heads.rest.now) (reverse c.heads.frames.items)
    c.heads.invariant.0) (c.in_err-inner-in-None.ensures.reads h))

pub statement-returns-in_err-completed-in-None-clause-reads :
    goal.statement-returns-in_err-completed-in-None-clause-reads
statement-returns-in_err-completed-in-None-clause-reads t c =
    let p = err_from_is_err_and c.from_residual-in_err-completed-in-None.result
    c.from_residual-in_err-completed-in-None.ensures.1 in
    let N = is_type c.args.reader.now.names.now in
    let h : HasNoHead (map view c.heads.rest.now) = rw c.in-None.is at c.in_ok-frame.ensures.reads in
    let q : IsTaken ShowsStmt (States N) (map view c.heads.rest.now) c.in_ok-inner-in-None.inner.value
    (map view c.in_ok-inner-in-None.inner.rest.now) = c.in_ok-inner-in-None.ensures.reads h in
    let d : Stands N (map view c.args.tokens.now) (reverse c.heads.frames.items) c.in_ok-inner-in-None.inner.value
    (map view c.in_ok-inner-in-None.inner.rest.now) = stands.stands_begin N (map view c.args.tokens.now)
    (map view c.heads.rest.now) (map view c.in_ok-inner-in-None.inner.rest.now) (reverse c.heads.frames.items)
    c.in_ok-inner-in-None.inner.value c.heads.invariant.0 q in
    rw (p.1, p.2) (c.in_err-completed-in-None.ensures.reads (map view c.args.tokens.now) d)

pub statement-returns-in-Whole-clause-reads : goal.statement-returns-in-Whole-clause-reads
statement-returns-in-Whole-clause-reads t c =
    let N = is_type c.args.reader.now.names.now in
    let h : HasNoHead (map view c.heads.rest.now) = rw c.in-None.is at c.in_ok-frame.ensures.reads in
    let q : IsTaken ShowsStmt (States N) (map view c.heads.rest.now) c.in_ok-inner-in-None.inner.value
    (map view c.in_ok-inner-in-None.inner.rest.now) = c.in_ok-inner-in-None.ensures.reads h in
    let d : Stands N (map view c.args.tokens.now) (reverse c.heads.frames.items) c.in_ok-inner-in-None.inner.value
    (map view c.in_ok-inner-in-None.inner.rest.now) = stands.stands_begin N (map view c.args.tokens.now)
    (map view c.heads.rest.now) (map view c.in_ok-inner-in-None.inner.rest.now) (reverse c.heads.frames.items)
    c.in_ok-inner-in-None.inner.value c.heads.invariant.0 q in
    rw c.in-Whole.is (rw c.in-Whole.is at (c.in_ok-completed-in-None.ensures.reads (map view c.args.tokens.now) d))

pub statement-heads-preserved : goal.statement-heads-preserved
statement-heads-preserved t c =
    let N = is_type c.args.reader.now.names.now in
    let h : HasNoHead (map view c.heads.rest.now) = rw c.in-None.is at c.in_ok-frame.ensures.reads in
    let q : IsTaken ShowsStmt (States N) (map view c.heads.rest.now) c.in_ok-inner-in-None.inner.value
    (map view c.in_ok-inner-in-None.inner.rest.now) = c.in_ok-inner-in-None.ensures.reads h in
    let d : Stands N (map view c.args.tokens.now) (reverse c.heads.frames.items) c.in_ok-inner-in-None.inner.value
    (map view c.in_ok-inner-in-None.inner.rest.now) = stands.stands_begin N (map view c.args.tokens.now)
    (map view c.heads.rest.now) (map view c.in_ok-inner-in-None.inner.rest.now) (reverse c.heads.frames.items)
    c.in_ok-inner-in-None.inner.value c.heads.invariant.0 q in
    let w : Waits N (map view c.args.tokens.now) (reverse c.in-Else.left.items)
    (map view c.in_ok-completed-in-None.completed.rest.now) = rw c.in-Else.is at
    (c.in_ok-completed-in-None.ensures.reads (map view c.args.tokens.now) d) in
    (rw c.in-Else.is w, omega (arith, c.in_ok-inner-in-None.ensures.shorter, c.in_ok-completed-in-None.ensures.shorter))

-- ---- the innermost

pub innermost-returns-in_default-clause-reads : goal.innermost-returns-in_default-clause-reads
innermost-returns-in_default-clause-reads t c = λ h. c.simple.ensures.reads
    (no_head_simple (map view c.args.tokens.now) h c.in_default.ensures.value)

pub innermost-returns-in_err-all-clause-reads : goal.innermost-returns-in_err-all-clause-reads
innermost-returns-in_err-all-clause-reads t c = λ h.
    let p = err_from_is_err_and c.from_residual.result c.from_residual.ensures.1 in
    let N = is_type c.args.reader.now.names.now in
    let k = c.in-Some.ensures.value in
    rw (p.1, p.2, k.2) (stops_stop (Parts N) (States N) (map view c.in-Some.inside.now)
    (mark c.in-Some.line k.0 ∷ map view c.in-Some.inside.now) c.in_err-all.field-0.0
    (λ n. made_none (block_rule N c.in-Some.line k.0 (map view c.in-Some.inside.now) k.1) n)
    c.in_err-all.ensures.reads)

pub innermost-returns-clause-reads : goal.innermost-returns-clause-reads
innermost-returns-clause-reads t c = λ h.
    let k = c.in-Some.ensures.value in
    let q = c.in_ok-all.ensures.reads in
    rw k.2 (record {
      value = tree.block c.in-Some.line (to_parts q.value);
      shows = c.block_of.ensures q.value q.shows;
      takes = made (block_rule (is_type c.args.reader.now.names.now) c.in-Some.line k.0
          (map view c.in-Some.inside.now) k.1) q.takes;
    })

-- ---- the parts of a block

pub parts-parts-init : goal.parts-parts-init
parts-parts-init t c = (
  (
    [],
    empty_parts c.new-found.result c.new-found.ensures,
    parts.parts_begin
        (is_type c.args.reader.now.names.now) (map view c.args.tokens.now),
  ),
  omega arith,
)

pub parts-returns-in-Some-clause-reads : goal.parts-returns-in-Some-clause-reads
parts-returns-in-Some-clause-reads t c = record {
  value = c.parts.invariant.0.0;
  shows = c.parts.invariant.0.1;
  takes = parts.parts_done (is_type c.args.reader.now.names.now) (map view c.args.tokens.now)
      (map view c.parts.rest.now) (map view c.in-Some.end.now) c.parts.invariant.0.0 c.in-Some.field-0-0
      c.parts.invariant.0.2 c.in-Some.ensures.value;
}

pub parts-returns-in_err-one-clause-reads : goal.parts-returns-in_err-one-clause-reads
parts-returns-in_err-one-clause-reads t c =
    let p = err_from_is_err_and c.from_residual.result c.from_residual.ensures.1 in
    let N = is_type c.args.reader.now.names.now in
    rw (p.1, p.2) (stops_stop (OnePart N) (Parts N) (map view c.parts.rest.now) (map view c.args.tokens.now)
    c.in_err-one.field-0.0 (parts.part_refused N (map view c.args.tokens.now) (map view c.parts.rest.now)
    c.parts.invariant.0.0 c.parts.invariant.0.2 c.in_default.ensures.value) c.in_err-one.ensures.reads)

pub parts-parts-preserved : goal.parts-parts-preserved
parts-parts-preserved t c =
    let q = c.in_ok-one.ensures.reads in (
      (
        c.parts.invariant.0.0 ++ q.value ∷ [],
        longer_parts c.parts.found c.in_ok-one.one.value c.in_ok-found.found c.parts.invariant.0.0 q.value
            c.in_ok-found.ensures c.parts.invariant.0.1 q.shows,
        parts.part_step (is_type c.args.reader.now.names.now) (map view c.args.tokens.now) (map view c.parts.rest.now)
            (map view c.in_ok-one.one.rest.now) c.parts.invariant.0.0 q.value c.parts.invariant.0.2 q.takes,
      ),
      omega (arith, c.in_ok-one.ensures.shorter),
    )

-- ---- one part

pub part-returns-in_err-read-clause-reads : goal.part-returns-in_err-read-clause-reads
part-returns-in_err-read-clause-reads t c =
    let p = err_from_is_err_and c.from_residual.result c.from_residual.ensures.1 in
    let N = is_type c.args.reader.now.names.now in
    rw (p.1, p.2) (stops_stop (Declares N in_block) (OnePart N) (map view c.args.tokens.now)
    (map view c.args.tokens.now) c.in_err-read.field-0.0
    (λ n. made_none (parts.declared_rule N (map view c.args.tokens.now)
    (sym c.begins_type.ensures ∙ c.if-begins_type.true)) n) c.in_err-read.ensures.reads)

pub part-returns-then-begins_type-clause-reads : goal.part-returns-then-begins_type-clause-reads
part-returns-then-begins_type-clause-reads t c =
    let q = c.in_ok-read.ensures.reads in
    record {
      value = tree.declares_in q.value;
      shows = c.declares.ensures q.value q.shows;
      takes = made
          (parts.declared_rule (is_type c.args.reader.now.names.now) (map view c.args.tokens.now)
          (sym c.begins_type.ensures ∙ c.if-begins_type.true)) q.takes;
    }

pub part-returns-in_err-one-clause-reads : goal.part-returns-in_err-one-clause-reads
part-returns-in_err-one-clause-reads t c =
    let p = err_from_is_err_and c.from_residual-in_err-one.result c.from_residual-in_err-one.ensures.1 in
    let N = is_type c.args.reader.now.names.now in
    rw (p.1, p.2) (stops_stop (States N) (OnePart N) (map view c.args.tokens.now) (map view c.args.tokens.now)
    c.in_err-one.field-0.0 (λ n. made_none
    (parts.stated_rule N (map view c.args.tokens.now) (sym c.begins_type.ensures ∙ c.if-begins_type.false)
    c.in_default.ensures.value) n) c.in_err-one.ensures.reads)

pub part-returns-in_default-clause-reads : goal.part-returns-in_default-clause-reads
part-returns-in_default-clause-reads t c =
    let q = c.in_ok-one.ensures.reads in
    record {
      value = tree.states q.value;
      shows = c.states.ensures q.value q.shows;
      takes = made
          (parts.stated_rule (is_type c.args.reader.now.names.now) (map view c.args.tokens.now)
          (sym c.begins_type.ensures ∙ c.if-begins_type.false) c.in_default.ensures.value) q.takes;
    }

pub part-returns-in_err-then-clause-reads : goal.part-returns-in_err-then-clause-reads
part-returns-in_err-then-clause-reads t c =
    let p = err_from_is_err_and c.from_residual-in_err-then.result c.from_residual-in_err-then.ensures.1 in
    let N = is_type c.args.reader.now.names.now in
    rw (p.1, p.2, c.in-Some.ensures.value)
    (stops_stop (Statements N) (OnePart N) (map view c.in-Some.inside.now)
    (order_token c.in-Some.order c.in-Some.line ∷ map view c.in-Some.inside.now) c.in_err-then.field-0.0
    (λ n. made_none (parts.arms_rule N c.in-Some.line c.in-Some.order (map view c.in-Some.inside.now))
    (both_first (OtherArm N) n)) c.in_err-then.ensures.reads)

pub part-returns-in_err-other-clause-reads : goal.part-returns-in_err-other-clause-reads
part-returns-in_err-other-clause-reads t c =
    let p = err_from_is_err_and c.from_residual-in_err-other.result c.from_residual-in_err-other.ensures.1 in
    let N = is_type c.args.reader.now.names.now in
    let q = c.in_ok-then.ensures.reads in
    rw (p.1, p.2, c.in-Some.ensures.value)
    (stops_stop (OtherArm N) (OnePart N) (map view c.in_ok-then.then.rest.now)
    (order_token c.in-Some.order c.in-Some.line ∷ map view c.in-Some.inside.now) c.in_err-other.field-0.0
    (λ n. made_none (parts.arms_rule N c.in-Some.line c.in-Some.order (map view c.in-Some.inside.now))
    (both_second q.takes n)) c.in_err-other.ensures.reads)

pub part-returns-in-Some-value-clause-reads : goal.part-returns-in-Some-value-clause-reads
part-returns-in-Some-value-clause-reads t c =
    let q = c.in_ok-then.ensures.reads in
    let r = c.in_ok-other.ensures.reads in
    let o = rw c.in-Some-value.is at r.shows in
    rw c.in-Some.ensures.value (record {
      value = make_arms c.in-Some.line c.in-Some.order (to_stmts q.value) r.value;
      shows = rw o.1 (c.two_arms.ensures q.value o.0 q.shows (rw c.in-Some-value.is o.2));
      takes = made (parts.arms_rule (is_type c.args.reader.now.names.now) c.in-Some.line c.in-Some.order
          (map view c.in-Some.inside.now)) (both_takes q.takes r.takes);
    })

pub part-returns-in-None-clause-reads : goal.part-returns-in-None-clause-reads
part-returns-in-None-clause-reads t c =
    let q = c.in_ok-then.ensures.reads in
    let r = c.in_ok-other.ensures.reads in
    let o = rw c.in-None.is at r.shows in
    rw c.in-Some.ensures.value (record {
      value = make_arms c.in-Some.line c.in-Some.order (to_stmts q.value) r.value;
      shows = rw o (c.one_arm.ensures q.value q.shows);
      takes = made (parts.arms_rule (is_type c.args.reader.now.names.now) c.in-Some.line c.in-Some.order
          (map view c.in-Some.inside.now)) (both_takes q.takes r.takes);
    })

-- ---- the arms of statements by byte order

pub arm-statements-init : goal.arm-statements-init
arm-statements-init t c = (
  (
    [],
    empty_stmts c.new-found.result c.new-found.ensures,
    parts.statements_begin
        (is_type c.args.reader.now.names.now) (map view c.args.tokens.now),
  ),
  omega arith,
)

pub arm-returns-then-ends_arm-clause-reads : goal.arm-returns-then-ends_arm-clause-reads
arm-returns-then-ends_arm-clause-reads t c = record {
  value = c.statements.invariant.0.0;
  shows = c.statements.invariant.0.1;
  takes = parts.statements_done (is_type c.args.reader.now.names.now) (map view c.args.tokens.now)
      (map view c.statements.rest.now) c.statements.invariant.0.0 c.statements.invariant.0.2
      (sym c.ends_arm.ensures ∙ c.if-ends_arm.true);
}

pub arm-returns-in_err-one-clause-reads : goal.arm-returns-in_err-one-clause-reads
arm-returns-in_err-one-clause-reads t c =
    let p = err_from_is_err_and c.from_residual.result c.from_residual.ensures.1 in
    let N = is_type c.args.reader.now.names.now in
    rw (p.1, p.2) (stops_stop (States N) (Statements N) (map view c.statements.rest.now) (map view c.args.tokens.now)
    c.in_err-one.field-0.0 (parts.statement_refused N (map view c.args.tokens.now) (map view c.statements.rest.now)
    c.statements.invariant.0.0 c.statements.invariant.0.2 (sym c.ends_arm.ensures ∙ c.if-ends_arm.false))
    c.in_err-one.ensures.reads)

pub arm-statements-preserved : goal.arm-statements-preserved
arm-statements-preserved t c =
    let q = c.in_ok-one.ensures.reads in (
      (
        c.statements.invariant.0.0 ++ q.value ∷ [],
        longer_stmts c.statements.found c.in_ok-one.one.value c.in_ok-found.found c.statements.invariant.0.0 q.value
            c.in_ok-found.ensures c.statements.invariant.0.1 q.shows,
        parts.statement_step (is_type c.args.reader.now.names.now) (map view c.args.tokens.now)
            (map view c.statements.rest.now) (map view c.in_ok-one.one.rest.now) c.statements.invariant.0.0 q.value
            c.statements.invariant.0.2 q.takes,
      ),
      omega (arith, c.in_ok-one.ensures.shorter),
    )

pub other_arm-returns-in-Some-clause-reads : goal.other_arm-returns-in-Some-clause-reads
other_arm-returns-in-Some-clause-reads t c = record {
  value = None;
  shows = refl;
  takes = parts.no_other_taken (is_type c.args.reader.now.names.now)
      c.in-Some.field-0-0 (map view c.args.tokens.now) (map view c.in-Some.rest.now) c.in-Some.ensures.value;
}

pub other_arm-returns-in_default-at_else-clause-reads : goal.other_arm-returns-in_default-at_else-clause-reads
other_arm-returns-in_default-at_else-clause-reads t c = (
  parts.other_arm_lacking (is_type c.args.reader.now.names.now) (map view c.args.tokens.now)
      c.in_default-at_else.ensures.value c.in_default.ensures.value,
  c.stopped.ensures,
)

pub other_arm-returns-in_err-otherwise-clause-reads : goal.other_arm-returns-in_err-otherwise-clause-reads
other_arm-returns-in_err-otherwise-clause-reads t c =
    let p = err_from_is_err_and c.from_residual.result c.from_residual.ensures.1 in
    let N = is_type c.args.reader.now.names.now in
    rw (p.1, p.2, c.in-Some-at_else.ensures.value)
    (stops_stop (Statements N) (OtherArm N) (map view c.in-Some-at_else.inside.now)
    (other c.in-Some-at_else.field-0-0 ∷ map view c.in-Some-at_else.inside.now) c.in_err-otherwise.field-0.0
    (λ n. made_none (parts.another_rule N c.in-Some-at_else.field-0-0 (map view c.in-Some-at_else.inside.now))
    (both_first (parts.IsEnd N) n)) c.in_err-otherwise.ensures.reads)

pub other_arm-returns-in_default-at_end_if-clause-reads : goal.other_arm-returns-in_default-at_end_if-clause-reads
other_arm-returns-in_default-at_end_if-clause-reads t c =
    let N = is_type c.args.reader.now.names.now in
    let q = c.in_ok-otherwise.ensures.reads in
    rw c.in-Some-at_else.ensures.value (
      made_none (parts.another_rule N c.in-Some-at_else.field-0-0 (map view c.in-Some-at_else.inside.now))
          (both_second q.takes (parts.end_lacking N (map view c.in_ok-otherwise.otherwise.rest.now)
          c.in_default-at_end_if.ensures.value)),
      c.stopped-in_default-at_end_if.ensures,
    )

pub other_arm-returns-clause-reads : goal.other_arm-returns-clause-reads
other_arm-returns-clause-reads t c =
    let N = is_type c.args.reader.now.names.now in
    let q = c.in_ok-otherwise.ensures.reads in
    rw c.in-Some-at_else.ensures.value (record {
      value = Some (to_stmts q.value);
      shows = (q.value, refl, q.shows);
      takes = made (parts.another_rule N c.in-Some-at_else.field-0-0 (map view c.in-Some-at_else.inside.now))
          (both_takes q.takes (parts.end_taken N c.in-Some-at_end_if.field-0-0
          (map view c.in_ok-otherwise.otherwise.rest.now) (map view c.in-Some-at_end_if.end.now)
          c.in-Some-at_end_if.ensures.value));
    })
