use Rattle.std.proofs.Common.{map, refl, inr}
use Rattle.std.proofs.lemmas.Result.{err_from_is_err_and}
use Rattle.ep_ast.specs.Mark.{right_paren}
use Rattle.ep_ast.specs.StatementGrammar.{InParens}
use Rattle.ep_lexer.specs.Tokens.{view}
use Rattle.ep_reading.specs.Names.{is_type}
use Rattle.ep_reading.proofs.PassLemmas.{stops_stop}
use Rattle.ep_simple_statements.specs.Piece.{ExprThen}
use Rattle.ep_reading.proofs.SequenceLemmas.{made, made_none}
use Rattle.ep_simple_statements.proofs.PieceLemmas.{parens_rule, parens_lacking}
use Rattle.ep_simple_statements.proofs.pieces.in_parens.Goals as goal

pub returns-in_default-clause-reads : goal.returns-in_default-clause-reads
returns-in_default-clause-reads c = (
  parens_lacking (is_type c.args.reader.now.names.now) (map view c.args.tokens.now) c.in_default.ensures.value,
  c.stopped.ensures,
)

pub expression_then-requires-clause-closes : goal.expression_then-requires-clause-closes
expression_then-requires-clause-closes c = inr refl

pub returns-in_err-read-clause-reads : goal.returns-in_err-read-clause-reads
returns-in_err-read-clause-reads c =
    let p = err_from_is_err_and c.from_residual.result c.from_residual.ensures.1 in
    let N = is_type c.args.reader.now.names.now in
    let k = c.in-Some.ensures.value in
    rw (p.1, p.2, k.2) (stops_stop (ExprThen N right_paren) (InParens N) (map view c.in-Some.inside.now) _
    c.in_err-read.field-0.0 (λ n. made_none
    (parens_rule N c.in-Some.field-0-0 k.0 (map view c.in-Some.inside.now) k.1) n) c.in_err-read.ensures.reads)

pub returns-clause-reads : goal.returns-clause-reads
returns-clause-reads c =
    let q = c.in_ok-read.ensures.reads in
    let k = c.in-Some.ensures.value in
    rw k.2 (record {
      value = q.value;
      shows = c.test_of.ensures q.value q.shows;
      takes = made
          (parens_rule (is_type c.args.reader.now.names.now) c.in-Some.field-0-0 k.0 (map view c.in-Some.inside.now)
          k.1)
          q.takes;
    })
