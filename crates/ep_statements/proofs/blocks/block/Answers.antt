use Rattle.std.proofs.Common.{map, ◌∷◌}
use Rattle.std.proofs.lemmas.Result.{err_from_is_err_and}
use Rattle.ep_ast.specs.Token.{mark}
use Rattle.ep_ast.specs.StatementGrammar.{Blocks, Parts}
use Rattle.ep_lexer.specs.Tokens.{view}
use Rattle.ep_reading.specs.Names.{is_type}
use Rattle.ep_reading.proofs.PassLemmas.{stops_stop}
use Rattle.ep_statement_parts.specs.View.{body}
use Rattle.ep_reading.proofs.SequenceLemmas.{made, made_none}
use Rattle.ep_statements.proofs.PartLemmas.{braces_rule, braces_lacking}
use Rattle.ep_statements.proofs.blocks.block.Goals as goal

pub returns-in_default-clause-reads : goal.returns-in_default-clause-reads
returns-in_default-clause-reads c = (
  braces_lacking (is_type c.args.reader.now.names.now) (map view c.args.tokens.now) c.in_default.ensures.value,
  c.stopped.ensures,
)

pub returns-in_err-all-clause-reads : goal.returns-in_err-all-clause-reads
returns-in_err-all-clause-reads c =
    let p = err_from_is_err_and c.from_residual.result c.from_residual.ensures.1 in
    let N = is_type c.args.reader.now.names.now in
    let k = c.in-Some.ensures.value in
    rw (p.1, p.2, k.2) (stops_stop (Parts N) (Blocks N) (map view c.in-Some.inside.now)
    (mark c.in-Some.line k.0 ∷ map view c.in-Some.inside.now) c.in_err-all.field-0.0
    (λ n. made_none (braces_rule N c.in-Some.line k.0 (map view c.in-Some.inside.now) k.1) n)
    c.in_err-all.ensures.reads)

pub returns-clause-reads : goal.returns-clause-reads
returns-clause-reads c =
    let k = c.in-Some.ensures.value in
    let q = c.in_ok-all.ensures.reads in
    rw k.2 (record {
      value = body c.in-Some.line q.value;
      shows = c.block_tree_of.ensures q.value q.shows;
      takes = made
          (braces_rule (is_type c.args.reader.now.names.now) c.in-Some.line k.0 (map view c.in-Some.inside.now) k.1)
          q.takes;
    })
