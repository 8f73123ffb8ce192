use Rattle.std.proofs.Common.{map, refl, inl}
use Rattle.std.proofs.lemmas.Result.{err_from_is_err_and}
use Rattle.ep_ast.specs.Statement as tree
use Rattle.ep_ast.specs.Mark.{semicolon}
use Rattle.ep_ast.specs.StatementGrammar.{UpTo, States}
use Rattle.ep_lexer.specs.Tokens.{view}
use Rattle.ep_reading.specs.Names.{is_type}
use Rattle.ep_reading.proofs.PassLemmas.{stops_stop}
use Rattle.ep_reading.proofs.SequenceLemmas.{made, made_none}
use Rattle.ep_simple_statements.proofs.SimpleLemmas.{evaluate_at}
use Rattle.ep_simple_statements.proofs.single.evaluation.Goals as goal

pub up_to-requires-clause-closes : goal.up_to-requires-clause-closes
up_to-requires-clause-closes c = inl refl

pub returns-in_err-given-clause-reads : goal.returns-in_err-given-clause-reads
returns-in_err-given-clause-reads c = λ t ts e l h.
    let p = err_from_is_err_and c.from_residual.result c.from_residual.ensures.1 in
    let N = is_type c.args.reader.now.names.now in
    rw (p.1, p.2) (stops_stop (UpTo N semicolon) (States N) (map view c.args.tokens.now) (map view c.args.tokens.now)
    c.in_err-given.field-0.0 (λ n. made_none (evaluate_at N c.args.line t (map view c.args.tokens.now) ts e l h) n)
    c.in_err-given.ensures.reads)

pub returns-clause-reads : goal.returns-clause-reads
returns-clause-reads c = λ t ts e l h.
    let q = c.in_ok-given.ensures.reads in
    record {
      value = tree.evaluate c.args.line q.value;
      shows = c.evaluate.ensures q.value q.shows;
      takes = made
          (evaluate_at (is_type c.args.reader.now.names.now) c.args.line t (map view c.args.tokens.now) ts e l h)
          q.takes;
    }
