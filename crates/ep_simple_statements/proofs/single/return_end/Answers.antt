use Rattle.std.proofs.Common.{map, refl, inl, ◌∷◌}
use Rattle.std.proofs.lemmas.Result.{err_from_is_err_and}
use Rattle.ep_ast.specs.Token.{word}
use Rattle.ep_ast.specs.Statement as tree
use Rattle.ep_ast.specs.Mark.{semicolon}
use Rattle.ep_ast.specs.StatementGrammar.{UpTo, States}
use Rattle.ep_lexer.specs.Tokens.{view}
use Rattle.ep_reading.specs.Names.{is_type}
use Rattle.ep_reading.proofs.PassLemmas.{stops_stop}
use Rattle.ep_reading.proofs.SequenceLemmas.{made, made_none}
use Rattle.ep_simple_statements.proofs.SimpleLemmas.{return_rule}
use Rattle.ep_simple_statements.proofs.single.return_end.Goals as goal

pub up_to-requires-clause-closes : goal.up_to-requires-clause-closes
up_to-requires-clause-closes c = inl refl

pub returns-in_err-given-clause-reads : goal.returns-in_err-given-clause-reads
returns-in_err-given-clause-reads c = λ k h.
    let p = err_from_is_err_and c.from_residual.result c.from_residual.ensures.1 in
    let N = is_type c.args.reader.now.names.now in
    rw (p.1, p.2) (stops_stop (UpTo N semicolon) (States N) (map view c.args.tokens.now)
    (word c.args.line k ∷ map view c.args.tokens.now) c.in_err-given.field-0.0
    (λ n. made_none (return_rule N c.args.line k (map view c.args.tokens.now) h) n) c.in_err-given.ensures.reads)

pub returns-clause-reads : goal.returns-clause-reads
returns-clause-reads c = λ k h.
    let q = c.in_ok-given.ensures.reads in
    record {
      value = tree.return_value c.args.line q.value;
      shows = c.return_value.ensures q.value q.shows;
      takes =
          made (return_rule (is_type c.args.reader.now.names.now) c.args.line k (map view c.args.tokens.now) h) q.takes;
    }
