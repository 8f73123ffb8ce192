use Rattle.std.proofs.Common.{map, ◌∙◌, sym}
use Rattle.ep_ast.specs.Mark.{word_number}
use Rattle.ep_lexer.specs.Tokens.{view}
use Rattle.ep_reading.specs.Names.{is_type}
use Rattle.ep_type_names.proofs.TypeWordLemmas as words
use Rattle.ep_type_names.proofs.words.one_word.Goals as goal

pub returns-then-is_type_word-clause-reads : goal.returns-then-is_type_word-clause-reads
returns-then-is_type_word-clause-reads c = words.plain_taken (is_type c.args.reader.now.names.now)
    (map view c.args.tokens.now) (map view c.in-Word.rest.now) c.in-Word.line (word_number c.in-Word.word)
    c.in-Word.ensures (sym c.is_type_word.ensures ∙ c.if-is_type_word.true)

pub returns-in_ok-tag-in-Some-clause-reads : goal.returns-in_ok-tag-in-Some-clause-reads
returns-in_ok-tag-in-Some-clause-reads c =
    rw c.in_ok-tag-in-Some.ensures.items (words.tag_taken (is_type c.args.reader.now.names.now)
    (map view c.args.tokens.now) (map view c.in-Word.rest.now) (map view c.in-Some.more.now) c.in-Word.line
    (word_number c.in-Word.word) c.in-Some.field-0-0 c.in-Some.tag.now
    c.in-Word.ensures c.in-Some.ensures.value (sym c.is_tag_word.ensures ∙ c.if-is_tag_word.true))

pub returns-in-None-clause-reads : goal.returns-in-None-clause-reads
returns-in-None-clause-reads c =
    let q = words.bare_tag (is_type c.args.reader.now.names.now) (map view c.args.tokens.now)
    (map view c.in-Word.rest.now) c.in-Word.line (word_number c.in-Word.word)
    c.in-Word.ensures (sym c.is_tag_word.ensures ∙ c.if-is_tag_word.true) c.in-None.ensures.value in
    (q.0, q.1, c.stopped.ensures)

pub returns-in_ok-text-in-Name-clause-reads : goal.returns-in_ok-text-in-Name-clause-reads
returns-in_ok-text-in-Name-clause-reads c =
    rw c.in_ok-text-in-Name.ensures.items (words.name_taken (is_type c.args.reader.now.names.now)
    (map view c.args.tokens.now) (map view c.in-Name.rest.now) c.in-Name.line c.in-Name.text.now
    c.in-Name.ensures (sym c.has.ensures ∙ c.if-has.true))
