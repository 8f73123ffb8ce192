use Rattle.std.proofs.Common.{map}
use Rattle.ep_ast.specs.Statement as tree
use Rattle.ep_ast.specs.Mark.{semicolon}
use Rattle.ep_lexer.specs.Tokens.{view}
use Rattle.ep_reading.proofs.SequenceLemmas.{made, made_none, mark_taken, mark_lacking}
use Rattle.ep_simple_statements.proofs.SimpleLemmas.{break_rule}
use Rattle.ep_simple_statements.proofs.single.break_end.Goals as goal

pub returns-in-Some-clause-reads : goal.returns-in-Some-clause-reads
returns-in-Some-clause-reads c = λ N k h. record {
  value = tree.break_loop c.args.line;
  shows = c.break_loop.ensures;
  takes = made (break_rule N c.args.line k (map view c.args.tokens.now) h)
      (mark_taken semicolon c.in-Some.field-0-0 (map view c.args.tokens.now) (map view c.in-Some.after.now)
      c.in-Some.ensures.value);
}

pub returns-in-None-clause-reads : goal.returns-in-None-clause-reads
returns-in-None-clause-reads c = λ N k h. (
  made_none (break_rule N c.args.line k (map view c.args.tokens.now) h)
      (mark_lacking semicolon (map view c.args.tokens.now) c.in-None.ensures.value),
  c.stopped.ensures,
)
