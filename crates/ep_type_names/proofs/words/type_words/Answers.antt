use Rattle.std.proofs.Common.{◌≡◌, ◌++◌, ◌∷◌, [], map, arith, sym, ◌∙◌}
use Rattle.std.proofs.lemmas.Result.{err_from_is_err_and}
use Rattle.std.proofs.lemmas.List.{map_push}
use Rattle.ep_ast.specs.Expression.{type_word}
use Rattle.std.specs.Prelude.{◌<◌, length}
use Rattle.ep_lexer.specs.Tokens.{view}
use Rattle.ep_reading.specs.Names.{is_type}
use Rattle.ep_type_names.specs.Words.{bag}
use Rattle.ep_type_names.proofs.TypeWordLemmas as words
use Rattle.ep_type_names.proofs.words.type_words.Goals as goal

pub returns-in_err-word-clause-reads : goal.returns-in_err-word-clause-reads
returns-in_err-word-clause-reads c =
    let p = err_from_is_err_and c.from_residual.result c.from_residual.ensures.1 in
    rw (p.1, p.2) (words.word_halts (is_type c.args.reader.now.names.now) (map view c.args.tokens.now)
    (map type_word c.words.words.items) (map view c.words.rest.now) c.in_err-word.field-0.0 c.words.invariant.0
    c.in_err-word.ensures.reads)

pub returns-then-is_empty-clause-reads : goal.returns-then-is_empty-clause-reads
returns-then-is_empty-clause-reads c = (
  words.none_taken (is_type c.args.reader.now.names.now) (map view c.args.tokens.now)
      (map type_word c.words.words.items) (map view c.words.rest.now) (bag c.words.bag) c.words.invariant.0
      (rw c.in_default.is at c.in_ok-word.ensures.reads) c.words.invariant.1
      (sym c.is_empty.ensures ∙ c.if-is_empty.true),
  c.stopped.ensures,
)

pub returns-in_default-clause-reads : goal.returns-in_default-clause-reads
returns-in_default-clause-reads c =
    words.words_taken (is_type c.args.reader.now.names.now) (map view c.args.tokens.now)
    (map type_word c.words.words.items) (map view c.words.rest.now) (bag c.words.bag) c.words.invariant.0
    (rw c.in_default.is at c.in_ok-word.ensures.reads) c.words.invariant.1
    c.words.invariant.2 (sym c.is_empty.ensures ∙ c.if-is_empty.false)

pub returns-in_default-with-clause-reads : goal.returns-in_default-with-clause-reads
returns-in_default-with-clause-reads c = (
  words.unfit_taken (is_type c.args.reader.now.names.now) (map view c.args.tokens.now)
      (map type_word c.words.words.items) (map view c.words.rest.now) (map view c.in-Some.word.rest.now)
      (type_word c.in-Some.word.value) (bag c.words.bag) c.words.invariant.0
      (rw c.in-Some.is at c.in_ok-word.ensures.reads) c.words.invariant.1 c.in_default-with.ensures,
  c.stopped-in_default-with.ensures,
)

pub words-preserved : goal.words-preserved
words-preserved c =
    let e : map type_word c.in_ok-words.words.items
    ≡ map type_word c.words.words.items ++ type_word c.in-Some.word.value ∷ [] =
    rw c.in_ok-words.ensures (map_push _ c.words.words.items _) in
    rw e (
      words.words_step (is_type c.args.reader.now.names.now) (map view c.args.tokens.now)
          (map type_word c.words.words.items) (map view c.words.rest.now) (map view c.in-Some.word.rest.now)
          (type_word c.in-Some.word.value) c.words.invariant.0
          (rw c.in-Some.is at c.in_ok-word.ensures.reads),
      c.in-Some-with.ensures.0 ∙ words.joined-last (bag c.words.bag) (map type_word c.words.words.items)
          (type_word c.in-Some.word.value) c.words.invariant.1,
      c.in-Some-with.ensures.1,
      (let s : length c.in-Some.word.rest.now < length c.words.rest.now =
          rw c.in-Some.is at c.in_ok-word.ensures.shorter in omega arith),
    )
