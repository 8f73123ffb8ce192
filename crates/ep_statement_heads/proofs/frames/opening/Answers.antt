use Rattle.std.proofs.Common.{map, refl, ap, ◌∷◌}
use Rattle.std.proofs.lemmas.Result.{err_from_is_err_and}
use Rattle.ep_ast.specs.declared.words.Word.TheVariants as words
use Rattle.ep_ast.specs.Mark.{word_number}
use Rattle.ep_ast.proofs.Numbers.{same_word}
use Rattle.ep_ast.specs.Token.{word}
use Rattle.ep_ast.specs.StatementGrammar.{InParens, States}
use Rattle.ep_lexer.specs.Tokens.{view}
use Rattle.ep_reading.specs.Names.{is_type}
use Rattle.ep_reading.proofs.PassLemmas.{stops_stop}
use Rattle.ep_simple_statements.specs.Piece.{Headings}
use Rattle.ep_statement_heads.specs.Around.{if_head, while_head, for_head, do_head}
use Rattle.ep_statement_heads.proofs.HeadLemmas.{opens, opens_none, if_rule, while_rule, for_rule, do_rule, same_taken}
use Rattle.ep_statement_heads.proofs.HeadLemmas.{word_no_head, no_token_no_head}
use Rattle.ep_statement_heads.proofs.frames.opening.Goals as goal

pub returns-in_err-test-in-If-clause-reads : goal.returns-in_err-test-in-If-clause-reads
returns-in_err-test-in-If-clause-reads c =
    let p = err_from_is_err_and c.from_residual.result c.from_residual.ensures.1 in
    let N = is_type c.args.reader.now.names.now in
    rw (p.1, p.2, c.in-Word.ensures)
    (stops_stop (InParens N) (States N) (map view c.in-Word.rest.now)
    (word c.in-Word.line (word_number c.in-Word.word) ∷ map view c.in-Word.rest.now) c.in_err-test-in-If.field-0.0
    (λ n. opens_none N (if_rule N c.in-Word.line (word_number c.in-Word.word) (map view c.in-Word.rest.now)
    (ap word_number c.in-If.is))
    n) c.in_err-test-in-If.ensures.reads)

pub returns-in_ok-test-in-If-clause-reads : goal.returns-in_ok-test-in-If-clause-reads
returns-in_ok-test-in-If-clause-reads c =
    let q = c.in_ok-test-in-If.ensures.reads in
    rw c.in-Word.ensures (record {
      head = if_head c.in-Word.line q.value;
      shows = (q.value, refl, q.shows);
      opens = opens
          (is_type c.args.reader.now.names.now)
          (if_rule (is_type c.args.reader.now.names.now) c.in-Word.line (word_number c.in-Word.word)
          (map view c.in-Word.rest.now)
          (ap word_number c.in-If.is)) q.takes;
    })

pub returns-in_err-test-in-While-clause-reads : goal.returns-in_err-test-in-While-clause-reads
returns-in_err-test-in-While-clause-reads c =
    let p = err_from_is_err_and c.from_residual-in_err-test-in-While.result
    c.from_residual-in_err-test-in-While.ensures.1 in
    let N = is_type c.args.reader.now.names.now in
    rw (p.1, p.2, c.in-Word.ensures)
    (stops_stop (InParens N) (States N) (map view c.in-Word.rest.now)
    (word c.in-Word.line (word_number c.in-Word.word) ∷ map view c.in-Word.rest.now) c.in_err-test-in-While.field-0.0
    (λ n. opens_none N (while_rule N c.in-Word.line (word_number c.in-Word.word) (map view c.in-Word.rest.now)
    (ap word_number c.in-While.is)) n) c.in_err-test-in-While.ensures.reads)

pub returns-in_ok-test-in-While-clause-reads : goal.returns-in_ok-test-in-While-clause-reads
returns-in_ok-test-in-While-clause-reads c =
    let q = c.in_ok-test-in-While.ensures.reads in
    rw c.in-Word.ensures (record {
      head = while_head c.in-Word.line q.value;
      shows = (q.value, refl, q.shows);
      opens = opens
          (is_type c.args.reader.now.names.now)
          (while_rule (is_type c.args.reader.now.names.now) c.in-Word.line (word_number c.in-Word.word)
          (map view c.in-Word.rest.now)
          (ap word_number c.in-While.is)) q.takes;
    })

pub returns-in_err-heading-in-For-clause-reads : goal.returns-in_err-heading-in-For-clause-reads
returns-in_err-heading-in-For-clause-reads c =
    let p = err_from_is_err_and c.from_residual-in_err-heading-in-For.result
    c.from_residual-in_err-heading-in-For.ensures.1 in
    let N = is_type c.args.reader.now.names.now in
    rw (p.1, p.2, c.in-Word.ensures)
    (stops_stop (Headings N) (States N) (map view c.in-Word.rest.now)
    (word c.in-Word.line (word_number c.in-Word.word) ∷ map view c.in-Word.rest.now) c.in_err-heading-in-For.field-0.0
    (λ n. opens_none N (for_rule N c.in-Word.line (word_number c.in-Word.word) (map view c.in-Word.rest.now)
    (ap word_number c.in-For.is)) n) c.in_err-heading-in-For.ensures.reads)

pub returns-in_ok-boxed-in-For-clause-reads : goal.returns-in_ok-boxed-in-For-clause-reads
returns-in_ok-boxed-in-For-clause-reads c =
    let q = c.in_ok-heading-in-For.ensures.reads in
    rw c.in-Word.ensures (record {
      head = for_head c.in-Word.line q.value;
      shows = (q.value, refl, rw c.in_ok-boxed-in-For.ensures.ok q.shows);
      opens = opens (is_type c.args.reader.now.names.now)
          (for_rule (is_type c.args.reader.now.names.now) c.in-Word.line (word_number c.in-Word.word)
          (map view c.in-Word.rest.now)
          (ap word_number c.in-For.is)) q.takes;
    })

pub returns-in-Do-clause-reads : goal.returns-in-Do-clause-reads
returns-in-Do-clause-reads c =
    rw c.in-Word.ensures (record {
      head = do_head c.in-Word.line;
      shows = refl;
      opens = opens (is_type c.args.reader.now.names.now)
          (do_rule (is_type c.args.reader.now.names.now) c.in-Word.line (word_number c.in-Word.word)
          (map view c.in-Word.rest.now)
          (ap word_number c.in-Do.is)) (same_taken (is_type c.args.reader.now.names.now) (map view c.in-Word.rest.now));
    })

pub returns-in_default-clause-reads : goal.returns-in_default-clause-reads
returns-in_default-clause-reads c = word_no_head (is_type c.args.reader.now.names.now) c.in-Word.line
    (word_number c.in-Word.word) (map view c.args.tokens.now) (map view c.in-Word.rest.now) c.in-Word.ensures
    (λ e. c.in_default.not-If (same_word c.in-Word.word words.If e))
    (λ e. c.in_default.not-While (same_word c.in-Word.word words.While e))
    (λ e. c.in_default.not-For (same_word c.in-Word.word words.For e))
    (λ e. c.in_default.not-Do (same_word c.in-Word.word words.Do e))

pub returns-in-Name-clause-reads : goal.returns-in-Name-clause-reads
returns-in-Name-clause-reads c = rw c.in-Name.ensures tt

pub returns-in-Number-clause-reads : goal.returns-in-Number-clause-reads
returns-in-Number-clause-reads c = rw c.in-Number.ensures tt

pub returns-in-Mark-clause-reads : goal.returns-in-Mark-clause-reads
returns-in-Mark-clause-reads c = rw c.in-Mark.ensures tt

pub returns-in-Other-clause-reads : goal.returns-in-Other-clause-reads
returns-in-Other-clause-reads c = no_token_no_head (map view c.args.tokens.now) c.in-Other.ensures
