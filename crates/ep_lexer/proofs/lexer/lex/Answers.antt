use Rattle.std.proofs.Common.{map, arith}
use Rattle.std.proofs.lemmas.Result.{err_from_is_err_and}
use Rattle.ep_lexer.specs.Tokens.{view}
use Rattle.ep_lexer.specs.Step.{Went, position_view, token_view, constants}
use Rattle.ep_lexer.proofs.Steps.{further, done_at, done_faultless, fails_offend, fails_first, fails_spell_nothing}
use Rattle.ep_lexer.proofs.lexer.lex.Goals as goal

pub returns-in_err-step-clause-offends : goal.returns-in_err-step-clause-offends
returns-in_err-step-clause-offends c =
    let p = err_from_is_err_and c.from_residual.result c.from_residual.ensures.1 in
    rw (p.1, p.2) (fails_offend c.args.source.now (map view c.pieces.list.items)
    (position_view c.pieces.position (constants c.pieces.definitions)) c.pieces.rest.now c.in_err-step.field-0.0
    c.in_err-step.ensures.value c.pieces.invariant.read)

pub returns-in_err-step-clause-first : goal.returns-in_err-step-clause-first
returns-in_err-step-clause-first c =
    let p = err_from_is_err_and c.from_residual.result c.from_residual.ensures.1 in
    rw (p.1, p.2) (fails_first c.args.source.now (map view c.pieces.list.items)
    (position_view c.pieces.position (constants c.pieces.definitions)) c.pieces.rest.now c.in_err-step.field-0.0
    c.in_err-step.ensures.value c.pieces.invariant.read)

pub returns-in_err-step-clause-spells_nothing : goal.returns-in_err-step-clause-spells_nothing
returns-in_err-step-clause-spells_nothing c =
    let p = err_from_is_err_and c.from_residual.result c.from_residual.ensures.1 in
    rw (p.1, p.2) (fails_spell_nothing c.args.source.now (map view c.pieces.list.items)
    (position_view c.pieces.position (constants c.pieces.definitions)) c.pieces.rest.now c.in_err-step.field-0.0
    c.in_err-step.ensures.value c.pieces.invariant.read)

pub pieces-preserved : goal.pieces-preserved
pieces-preserved c =
    let e = rw c.in-Some.is at c.in_ok-step.ensures.value in
    let n = rw c.in-Some.is at c.in_ok-step.ensures.within in
    let w : Went = (
      token_view c.in-Some.step.token,
      position_view c.in-Some.step.position
          (constants c.read_piece.new.definitions),
      c.in-Some.step.rest.now,
    ) in
    let u = further c.args.source.now (map view c.pieces.list.items)
    (position_view c.pieces.position (constants c.pieces.definitions)) c.pieces.rest.now w e c.pieces.invariant.read in
    record {
      read = rw c.in_ok-keep.ensures u;
      within = omega (arith, n);
    }

pub returns-clause-spells : goal.returns-clause-spells
returns-clause-spells c =
    let e = rw c.in_default.is at c.in_ok-step.ensures.value in
    (done_at c.args.source.now (map view c.pieces.list.items)
    (position_view c.pieces.position (constants c.pieces.definitions)) c.pieces.rest.now e c.pieces.invariant.read).0

pub returns-clause-faultless : goal.returns-clause-faultless
returns-clause-faultless c =
    let e = rw c.in_default.is at c.in_ok-step.ensures.value in
    done_faultless c.args.source.now (map view c.pieces.list.items)
    (position_view c.pieces.position (constants c.pieces.definitions)) c.pieces.rest.now e c.pieces.invariant.read

pub returns-clause-only : goal.returns-clause-only
returns-clause-only c =
    let e = rw c.in_default.is at c.in_ok-step.ensures.value in
    (done_at c.args.source.now (map view c.pieces.list.items)
    (position_view c.pieces.position (constants c.pieces.definitions)) c.pieces.rest.now e c.pieces.invariant.read).1
