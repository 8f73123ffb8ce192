use Rattle.std.proofs.Common.{map, refl, inl, inr}
use Rattle.std.proofs.lemmas.Result.{err_from_is_err_and}
use Rattle.ep_ast.specs.Mark.{semicolon, right_paren}
use Rattle.ep_ast.specs.StatementGrammar.{UpTo, Firsts}
use Rattle.ep_lexer.specs.Tokens.{view}
use Rattle.ep_reading.specs.Names.{is_type}
use Rattle.ep_reading.proofs.PassLemmas.{stops_stop}
use Rattle.ep_simple_statements.specs.Piece.{Headings}
use Rattle.ep_reading.proofs.SequenceLemmas.{Both, made, made_none, both_takes, both_first, both_second}
use Rattle.ep_simple_statements.proofs.PieceLemmas.{heading_rule, heading_lacking}
use Rattle.ep_simple_statements.proofs.pieces.for_heading.Goals as goal

pub returns-in_default-clause-reads : goal.returns-in_default-clause-reads
returns-in_default-clause-reads c = (
  heading_lacking (is_type c.args.reader.now.names.now) (map view c.args.tokens.now) c.in_default.ensures.value,
  c.stopped.ensures,
)

pub up_to-requires-clause-closes : goal.up_to-requires-clause-closes
up_to-requires-clause-closes c = inl refl

pub up_to-requires-2-clause-closes : goal.up_to-requires-2-clause-closes
up_to-requires-2-clause-closes c = inr refl

pub returns-in_err-first-clause-reads : goal.returns-in_err-first-clause-reads
returns-in_err-first-clause-reads c =
    let p = err_from_is_err_and c.from_residual.result c.from_residual.ensures.1 in
    let N = is_type c.args.reader.now.names.now in
    let k = c.in-Some.ensures.value in
    rw (p.1, p.2, k.2) (stops_stop (Firsts N) (Headings N) (map view c.in-Some.inside.now) _ c.in_err-first.field-0.0
    (λ n. made_none (heading_rule N c.in-Some.field-0-0 k.0 (map view c.in-Some.inside.now) k.1)
    (both_first (Both (UpTo N semicolon) (UpTo N right_paren)) n)) c.in_err-first.ensures.reads)

pub returns-in_err-test-clause-reads : goal.returns-in_err-test-clause-reads
returns-in_err-test-clause-reads c =
    let p = err_from_is_err_and c.from_residual-in_err-test.result c.from_residual-in_err-test.ensures.1 in
    let N = is_type c.args.reader.now.names.now in
    let k = c.in-Some.ensures.value in
    let q = c.in_ok-first.ensures.reads in
    rw (p.1, p.2, k.2) (stops_stop (UpTo N semicolon) (Headings N) (map view c.in_ok-first.first.rest.now) _
    c.in_err-test.field-0.0 (λ n. made_none
    (heading_rule N c.in-Some.field-0-0 k.0 (map view c.in-Some.inside.now) k.1)
    (both_second q.takes (both_first (UpTo N right_paren) n))) c.in_err-test.ensures.reads)

pub returns-in_err-next-clause-reads : goal.returns-in_err-next-clause-reads
returns-in_err-next-clause-reads c =
    let p = err_from_is_err_and c.from_residual-in_err-next.result c.from_residual-in_err-next.ensures.1 in
    let N = is_type c.args.reader.now.names.now in
    let k = c.in-Some.ensures.value in
    let q = c.in_ok-first.ensures.reads in
    let r = c.in_ok-test.ensures.reads in
    rw (p.1, p.2, k.2) (stops_stop (UpTo N right_paren) (Headings N) (map view c.in_ok-test.test.rest.now) _
    c.in_err-next.field-0.0 (λ n. made_none
    (heading_rule N c.in-Some.field-0-0 k.0 (map view c.in-Some.inside.now) k.1)
    (both_second q.takes (both_second r.takes n))) c.in_err-next.ensures.reads)

pub returns-clause-reads : goal.returns-clause-reads
returns-clause-reads c =
    let k = c.in-Some.ensures.value in
    let q = c.in_ok-first.ensures.reads in
    let r = c.in_ok-test.ensures.reads in
    let s = c.in_ok-next.ensures.reads in
    rw k.2 (record {
      value = (q.value, r.value, s.value);
      shows = c.heading_from.ensures c.args.line q.value r.value s.value q.shows r.shows s.shows;
      takes = made (heading_rule (is_type c.args.reader.now.names.now) c.in-Some.field-0-0 k.0
          (map view c.in-Some.inside.now) k.1) (both_takes q.takes (both_takes r.takes s.takes));
    })
