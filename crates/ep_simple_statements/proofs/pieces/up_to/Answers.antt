use Rattle.std.proofs.Common.{map, Some, None, refl}
use Rattle.std.proofs.lemmas.Result.{err_from_is_err_and}
use Rattle.ep_ast.specs.StatementGrammar.{UpTo}
use Rattle.ep_ast.specs.Mark.{mark_number}
use Rattle.ep_lexer.specs.Tokens.{view}
use Rattle.ep_reading.specs.Names.{is_type}
use Rattle.ep_reading.proofs.PassLemmas.{stops_stop}
use Rattle.ep_simple_statements.specs.Piece.{ExprThen}
use Rattle.ep_reading.proofs.SequenceLemmas.{made, made_none}
use Rattle.ep_simple_statements.proofs.PieceLemmas.{nothing_taken, something_rule}
use Rattle.ep_simple_statements.proofs.pieces.up_to.Goals as goal

pub returns-in-Some-clause-reads : goal.returns-in-Some-clause-reads
returns-in-Some-clause-reads c = record {
  value = None;
  shows = (refl, refl);
  takes = nothing_taken (is_type c.args.reader.now.names.now) (mark_number c.args.mark)
      c.in-Some.field-0-0 (map view c.args.tokens.now) (map view c.in-Some.after.now) c.requires.closes
      c.in-Some.ensures.value;
}

pub expression_then-requires-clause-closes : goal.expression_then-requires-clause-closes
expression_then-requires-clause-closes c = c.requires.closes

pub returns-in_err-read-clause-reads : goal.returns-in_err-read-clause-reads
returns-in_err-read-clause-reads c =
    let p = err_from_is_err_and c.from_residual.result c.from_residual.ensures.1 in
    let N = is_type c.args.reader.now.names.now in
    rw (p.1, p.2) (stops_stop (ExprThen N (mark_number c.args.mark)) (UpTo N (mark_number c.args.mark))
    (map view c.args.tokens.now)
    (map view c.args.tokens.now) c.in_err-read.field-0.0
    (λ n. made_none (something_rule N (mark_number c.args.mark)
    (map view c.args.tokens.now) c.in_default.ensures.value) n)
    c.in_err-read.ensures.reads)

pub returns-clause-reads : goal.returns-clause-reads
returns-clause-reads c =
    let q = c.in_ok-read.ensures.reads in
    record {
      value = Some q.value;
      shows = c.given_of.ensures q.value q.shows;
      takes = made
          (something_rule (is_type c.args.reader.now.names.now) (mark_number c.args.mark) (map view c.args.tokens.now)
          c.in_default.ensures.value) q.takes;
    }
