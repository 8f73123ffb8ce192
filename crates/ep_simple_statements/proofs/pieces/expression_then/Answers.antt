use Rattle.std.proofs.Common.{map}
use Rattle.std.proofs.lemmas.Result.{err_from_is_err_and}
use Rattle.ep_ast.specs.Grammar.{expr}
use Rattle.ep_ast.specs.Mark.{mark_number}
use Rattle.ep_lexer.specs.Tokens.{view}
use Rattle.ep_reading.specs.Names.{is_type}
use Rattle.ep_reading.proofs.PassLemmas.{halts_stop}
use Rattle.ep_simple_statements.specs.Piece.{ExprThen}
use Rattle.ep_simple_statements.proofs.PieceLemmas.{then_refused, then_taken, then_lacking}
use Rattle.ep_simple_statements.proofs.pieces.expression_then.Goals as goal

pub returns-in_err-read-clause-reads : goal.returns-in_err-read-clause-reads
returns-in_err-read-clause-reads c =
    let p = err_from_is_err_and c.from_residual.result c.from_residual.ensures.1 in
    let N = is_type c.args.reader.now.names.now in
    rw (p.1, p.2) (halts_stop N expr (ExprThen N (mark_number c.args.mark)) (map view c.args.tokens.now)
    (map view c.args.tokens.now)
    c.in_err-read.field-0.0 (then_refused N (mark_number c.args.mark) (map view c.args.tokens.now) c.requires.closes)
    c.in_err-read.ensures.reads)

pub returns-in-Some-clause-reads : goal.returns-in-Some-clause-reads
returns-in-Some-clause-reads c =
    let q = c.in_ok-read.ensures.reads in
    record {
      value = q.tree;
      shows = q.shows;
      takes = then_taken (is_type c.args.reader.now.names.now) (mark_number c.args.mark)
          c.in-Some.field-0-0 (map view c.args.tokens.now) (map view c.in_ok-read.read.rest.now)
          (map view c.in-Some.after.now) q.tree c.requires.closes q.reads c.in-Some.ensures.value;
    }

pub returns-clause-reads : goal.returns-clause-reads
returns-clause-reads c =
    let q = c.in_ok-read.ensures.reads in (
      then_lacking (is_type c.args.reader.now.names.now) (mark_number c.args.mark) (map view c.args.tokens.now)
          (map view c.in_ok-read.read.rest.now) q.tree c.requires.closes q.reads c.in-None.ensures.value,
      c.stopped.ensures,
    )
