use Rattle.std.proofs.Common.{map}
use Rattle.std.proofs.lemmas.Result.{err_from_is_err_and}
use Rattle.ep_ast.specs.StatementGrammar.{States}
use Rattle.ep_lexer.specs.Tokens.{view}
use Rattle.ep_reading.specs.Names.{is_type}
use Rattle.ep_reading.proofs.PassLemmas.{stops_stop}
use Rattle.ep_simple_statements.specs.Piece.{DoEnd}
use Rattle.ep_statement_heads.proofs.StandLemmas as stands
use Rattle.ep_statement_heads.proofs.frames.close.Goals as goal
use Rattle.ep_statement_heads.proofs.frames.close.Goals.{in-Else+in_ok-whole-in-Else, in-While+in_ok-whole-in-While}
use Rattle.ep_statement_heads.proofs.frames.close.Goals.{in-For+in_ok-whole-in-For}
use Rattle.ep_statement_heads.proofs.frames.close.Goals.{in-Do+in_ok-test-in-Do+in_ok-whole-in-Do}

pub returns-in-If-clause-reads : goal.returns-in-If-clause-reads
returns-in-If-clause-reads c = λ xs ks s. c.in_ok-close_if-in-If.ensures.reads (is_type c.args.reader.now.names.now) xs
    ks (rw c.in-If.is at s)

pub returns-in_err-test-in-Do-clause-reads : goal.returns-in_err-test-in-Do-clause-reads
returns-in_err-test-in-Do-clause-reads c = λ xs ks s.
    let p = err_from_is_err_and c.from_residual-in_err-test-in-Do.result c.from_residual-in_err-test-in-Do.ensures.1 in
    let N = is_type c.args.reader.now.names.now in
    rw (p.1, p.2) (stops_stop (DoEnd N) (States N) (map view c.args.tokens.now) xs c.in_err-test-in-Do.field-0.0
    (λ n. stands.do_refused N xs (map view c.args.tokens.now) ks c.in-Do.line c.args.inner (rw c.in-Do.is at s) n)
    c.in_err-test-in-Do.ensures.reads)

pub returns-clause-reads : goal.returns-clause-reads
returns-clause-reads c = λ xs ks s.
    let N = is_type c.args.reader.now.names.now in
    elim c.match-frame.branch [
      | in-Else+in_ok-whole-in-Else w ↦ rw w.whole-is (stands.stands_else N xs (map view c.args.tokens.now) ks w.in-Else.line
          w.in-Else.test w.in-Else.then w.into_inner.result c.args.inner w.in_ok-whole-in-Else.whole w.into_inner.ensures
          w.in_ok-whole-in-Else.ensures (rw w.in-Else.is at s))
      | in-While+in_ok-whole-in-While w ↦ rw w.whole-is (stands.stands_while N xs (map view c.args.tokens.now) ks
          w.in-While.line w.in-While.test c.args.inner w.in_ok-whole-in-While.whole w.in_ok-whole-in-While.ensures
          (rw w.in-While.is at s))
      | in-For+in_ok-whole-in-For w ↦ rw w.whole-is (stands.stands_for N xs (map view c.args.tokens.now) ks w.in-For.line
          w.in-For.heading w.into_inner-in-For.result c.args.inner w.in_ok-whole-in-For.whole
          w.into_inner-in-For.ensures w.in_ok-whole-in-For.ensures (rw w.in-For.is at s))
      | in-Do+in_ok-test-in-Do+in_ok-whole-in-Do w ↦ rw w.whole-is (stands.stands_do N xs (map view c.args.tokens.now)
          (map view w.in_ok-test-in-Do.test.rest.now) ks w.in-Do.line w.in_ok-test-in-Do.test.value c.args.inner
          w.in_ok-whole-in-Do.whole w.in_ok-whole-in-Do.ensures w.in_ok-test-in-Do.ensures.reads (rw w.in-Do.is at s))
    ]
