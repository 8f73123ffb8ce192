use Rattle.std.proofs.Common.{map, refl, inl, sym, ◌∙◌}
use Rattle.std.proofs.lemmas.Result.{err_from_is_err_and}
use Rattle.ep_ast.specs.Mark.{semicolon}
use Rattle.ep_ast.specs.Statement as tree
use Rattle.ep_ast.specs.DeclarationGrammar.{Declares, in_block}
use Rattle.ep_ast.specs.StatementGrammar.{UpTo, Firsts}
use Rattle.ep_lexer.specs.Tokens.{view}
use Rattle.ep_reading.specs.Names.{is_type}
use Rattle.ep_reading.proofs.PassLemmas.{stops_stop}
use Rattle.ep_reading.proofs.SequenceLemmas.{made, made_none}
use Rattle.ep_simple_statements.proofs.PieceLemmas.{declares_rule, evaluates_rule}
use Rattle.ep_simple_statements.proofs.pieces.first_part.Goals as goal

pub returns-in_err-read-clause-reads : goal.returns-in_err-read-clause-reads
returns-in_err-read-clause-reads c =
    let p = err_from_is_err_and c.from_residual.result c.from_residual.ensures.1 in
    let N = is_type c.args.reader.now.names.now in
    rw (p.1, p.2) (stops_stop (Declares N in_block) (Firsts N) (map view c.args.tokens.now)
    (map view c.args.tokens.now) c.in_err-read.field-0.0
    (λ n. made_none (declares_rule N (map view c.args.tokens.now)
    (sym c.begins_type.ensures ∙ c.if-begins_type.true)) n) c.in_err-read.ensures.reads)

pub up_to-requires-clause-closes : goal.up_to-requires-clause-closes
up_to-requires-clause-closes c = inl refl

pub returns-in_err-given-clause-reads : goal.returns-in_err-given-clause-reads
returns-in_err-given-clause-reads c =
    let p = err_from_is_err_and c.from_residual-in_err-given.result c.from_residual-in_err-given.ensures.1 in
    let N = is_type c.args.reader.now.names.now in
    rw (p.1, p.2) (stops_stop (UpTo N semicolon) (Firsts N) (map view c.args.tokens.now) (map view c.args.tokens.now)
    c.in_err-given.field-0.0 (λ n. made_none
    (evaluates_rule N (map view c.args.tokens.now) (sym c.begins_type.ensures ∙ c.if-begins_type.false)) n)
    c.in_err-given.ensures.reads)

pub returns-in_ok-read-clause-reads : goal.returns-in_ok-read-clause-reads
returns-in_ok-read-clause-reads c =
    let q = c.in_ok-read.ensures.reads in
    record {
      value = tree.declares q.value;
      shows = c.first_declares.ensures c.args.line q.value q.shows;
      takes = made
          (declares_rule (is_type c.args.reader.now.names.now) (map view c.args.tokens.now)
          (sym c.begins_type.ensures ∙ c.if-begins_type.true)) q.takes;
    }

pub returns-in_ok-given-clause-reads : goal.returns-in_ok-given-clause-reads
returns-in_ok-given-clause-reads c =
    let q = c.in_ok-given.ensures.reads in
    record {
      value = tree.evaluates q.value;
      shows = c.first_evaluates.ensures c.args.line q.value q.shows;
      takes =
          made (evaluates_rule (is_type c.args.reader.now.names.now) (map view c.args.tokens.now)
          (sym c.begins_type.ensures ∙ c.if-begins_type.false)) q.takes;
    }
