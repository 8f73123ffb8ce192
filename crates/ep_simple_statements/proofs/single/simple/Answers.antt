use Rattle.std.proofs.Common.{map, refl, ap}
use Rattle.ep_ast.specs.declared.words.Word.TheVariants as words
use Rattle.ep_ast.specs.Mark.{mark_number, word_number}
use Rattle.ep_ast.proofs.Numbers.{same_word}
use Rattle.ep_ast.specs.Token.{word, name, number, mark}
use Rattle.ep_lexer.specs.Tokens.{view}
use Rattle.ep_reading.specs.Names.{is_type}
use Rattle.ep_simple_statements.proofs.SimpleLemmas.{word_other, mark_other, no_token_stated}
use Rattle.ep_simple_statements.proofs.single.simple.Goals as goal

pub returns-in-Break-clause-reads : goal.returns-in-Break-clause-reads
returns-in-Break-clause-reads c = λ h. rw c.in-Word.ensures
    (c.break_end.ensures.reads (is_type c.args.reader.now.names.now) (word_number c.in-Word.word)
    (ap word_number c.in-Break.is))

pub returns-in-Continue-clause-reads : goal.returns-in-Continue-clause-reads
returns-in-Continue-clause-reads c = λ h. rw c.in-Word.ensures
    (c.continue_end.ensures.reads (is_type c.args.reader.now.names.now) (word_number c.in-Word.word)
    (ap word_number c.in-Continue.is))

pub returns-in-Return-clause-reads : goal.returns-in-Return-clause-reads
returns-in-Return-clause-reads c = λ h. rw c.in-Word.ensures
    (c.return_end.ensures.reads (word_number c.in-Word.word) (ap word_number c.in-Return.is))

pub returns-in_default-clause-reads : goal.returns-in_default-clause-reads
returns-in_default-clause-reads c = λ h.
    c.evaluation.ensures.reads (word c.in-Word.line (word_number c.in-Word.word)) (map view c.in-Word.rest.now)
    c.in-Word.ensures refl
    (word_other (is_type c.args.reader.now.names.now) c.in-Word.line (word_number c.in-Word.word)
    (map view c.args.tokens.now) (map view c.in-Word.rest.now) c.in-Word.ensures h
    (λ e. c.in_default.not-Break (same_word c.in-Word.word words.Break e))
    (λ e. c.in_default.not-Continue (same_word c.in-Word.word words.Continue e))
    (λ e. c.in_default.not-Return (same_word c.in-Word.word words.Return e)))

pub returns-in-Name-clause-reads : goal.returns-in-Name-clause-reads
returns-in-Name-clause-reads c = λ h. c.evaluation-in-Name.ensures.reads (name c.in-Name.line c.in-Name.field-1.now)
    (map view c.in-Name.field-2.now) c.in-Name.ensures refl (rw c.in-Name.ensures tt)

pub returns-in-Number-clause-reads : goal.returns-in-Number-clause-reads
returns-in-Number-clause-reads c = λ h. c.evaluation-in-Number.ensures.reads
    (number c.in-Number.line c.in-Number.field-1) (map view c.in-Number.field-2.now) c.in-Number.ensures refl
    (rw c.in-Number.ensures tt)

pub returns-in-Mark-clause-reads : goal.returns-in-Mark-clause-reads
returns-in-Mark-clause-reads c = λ h.
    c.evaluation-in-Mark.ensures.reads (mark c.in-Mark.line (mark_number c.in-Mark.field-1))
    (map view c.in-Mark.field-2.now)
    c.in-Mark.ensures refl
    (mark_other (is_type c.args.reader.now.names.now) c.in-Mark.line (mark_number c.in-Mark.field-1)
    (map view c.args.tokens.now)
    (map view c.in-Mark.field-2.now) c.in-Mark.ensures h)

pub returns-in-Other-clause-reads : goal.returns-in-Other-clause-reads
returns-in-Other-clause-reads c = λ h. (
  no_token_stated (is_type c.args.reader.now.names.now) (map view c.args.tokens.now) c.in-Other.ensures,
  c.stopped.ensures,
)
