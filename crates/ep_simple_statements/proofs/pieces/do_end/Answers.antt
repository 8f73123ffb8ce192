use Rattle.std.proofs.Common.{map}
use Rattle.std.proofs.lemmas.Result.{err_from_is_err_and}
use Rattle.ep_ast.specs.Mark.{semicolon}
use Rattle.ep_ast.specs.StatementGrammar.{InParens}
use Rattle.ep_lexer.specs.Tokens.{view}
use Rattle.ep_reading.specs.Names.{is_type}
use Rattle.ep_reading.proofs.PassLemmas.{stops_stop}
use Rattle.ep_simple_statements.specs.Piece.{DoEnd}
use Rattle.ep_reading.proofs.SequenceLemmas.{IsMark, made, made_none, both_takes, both_first, both_second, mark_taken}
use Rattle.ep_reading.proofs.SequenceLemmas.{mark_lacking}
use Rattle.ep_simple_statements.proofs.PieceLemmas.{do_end_rule, do_end_lacking}
use Rattle.ep_simple_statements.proofs.pieces.do_end.Goals as goal

pub returns-in_default-clause-reads : goal.returns-in_default-clause-reads
returns-in_default-clause-reads c = (
  do_end_lacking (is_type c.args.reader.now.names.now) (map view c.args.tokens.now) c.in_default.ensures.value,
  c.stopped.ensures,
)

pub returns-in_err-test-clause-reads : goal.returns-in_err-test-clause-reads
returns-in_err-test-clause-reads c =
    let p = err_from_is_err_and c.from_residual.result c.from_residual.ensures.1 in
    let N = is_type c.args.reader.now.names.now in
    let k = c.in-Some.ensures.value in
    rw (p.1, p.2, k.2) (stops_stop (InParens N) (DoEnd N) (map view c.in-Some.inside.now) _ c.in_err-test.field-0.0
    (λ n. made_none (do_end_rule N c.in-Some.field-0-0 k.0 (map view c.in-Some.inside.now) k.1)
    (both_first (IsMark semicolon) n)) c.in_err-test.ensures.reads)

pub returns-in_default-at_mark-clause-reads : goal.returns-in_default-at_mark-clause-reads
returns-in_default-at_mark-clause-reads c =
    let N = is_type c.args.reader.now.names.now in
    let k = c.in-Some.ensures.value in
    let q = c.in_ok-test.ensures.reads in
    rw k.2 (
      made_none (do_end_rule N c.in-Some.field-0-0 k.0 (map view c.in-Some.inside.now) k.1)
          (both_second q.takes (mark_lacking semicolon (map view c.in_ok-test.test.rest.now)
          c.in_default-at_mark.ensures.value)),
      c.stopped-in_default-at_mark.ensures,
    )

pub returns-clause-reads : goal.returns-clause-reads
returns-clause-reads c =
    let k = c.in-Some.ensures.value in
    let q = c.in_ok-test.ensures.reads in
    rw k.2 (record {
      value = q.value;
      shows = q.shows;
      takes = made (do_end_rule (is_type c.args.reader.now.names.now) c.in-Some.field-0-0 k.0
          (map view c.in-Some.inside.now) k.1)
          (both_takes q.takes (mark_taken semicolon c.in-Some-at_mark.field-0-0 (map view c.in_ok-test.test.rest.now)
          (map view c.in-Some-at_mark.end.now) c.in-Some-at_mark.ensures.value));
    })
