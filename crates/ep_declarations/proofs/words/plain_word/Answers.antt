use Rattle.std.proofs.Common.{map, Some, refl}
use Rattle.std.proofs.lemmas.Result.{err_from_is_err_and}
use Rattle.ep_ast.specs.Mark.{word_number}
use Rattle.ep_ast.specs.Expression as expressions
use Rattle.ep_ast.specs.Expression.{type_word}
use Rattle.ep_ast.specs.Declaration.{plain}
use Rattle.ep_lexer.specs.Tokens.{view}
use Rattle.ep_reading.specs.Names.{is_type}
use Rattle.ep_type_names.specs.Words.{bag}
use Rattle.ep_declarations.specs.Answer.{context}
use Rattle.ep_declarations.proofs.SpecLemmas.{fits_is}
use Rattle.ep_declarations.proofs.AggregateLemmas as ahead
use Rattle.ep_declarations.proofs.words.plain_word.Goals as goal

pub returns-in-Some-clause-reads : goal.returns-in-Some-clause-reads
returns-in-Some-clause-reads c =
    let k = c.in-Some.ensures.value in
    let g = ahead.storage_bag (word_number c.in-Some.word) (bag c.args.words.now) k.1 c.requires.fit in
    record {
      value = Some (plain (expressions.word c.in-Some.line (word_number c.in-Some.word)));
      shows = (
        plain (expressions.word c.in-Some.line (word_number c.in-Some.word)),
        refl,
        (refl, refl),
        refl,
        g.0,
        g.1,
      );
      takes =
          ahead.storage_taken (is_type c.args.reader.now.names.now) (context c.args.context) (bag c.args.words.now)
          c.in-Some.line (word_number c.in-Some.word) (map view c.in-Some.rest.now)
          (map view c.args.tokens.now) c.requires.plain
          k.0 k.1 k.2 c.requires.fit;
    }

pub returns-in_err-word-clause-reads : goal.returns-in_err-word-clause-reads
returns-in_err-word-clause-reads c =
    let p = err_from_is_err_and c.from_residual.result c.from_residual.ensures.1 in
    rw (p.1, p.2)
    (ahead.word_halts (is_type c.args.reader.now.names.now) (context c.args.context) (bag c.args.words.now)
    (map view c.args.tokens.now) c.in_err-word.field-0.0 c.requires.plain c.in_default.ensures.value
    c.in_err-word.ensures.reads)

pub returns-in_default-2-clause-reads : goal.returns-in_default-2-clause-reads
returns-in_default-2-clause-reads c =
    record {
      value = _;
      shows = refl;
      takes =
          ahead.no_word (is_type c.args.reader.now.names.now) (context c.args.context) (bag c.args.words.now)
          (map view c.args.tokens.now) (rw c.in_default-2.is at c.in_ok-word.ensures.reads) c.in_default.ensures.value;
    }

pub returns-in-Some-at_mark-clause-reads : goal.returns-in-Some-at_mark-clause-reads
returns-in-Some-at_mark-clause-reads c = (
  ahead.word_braced (is_type c.args.reader.now.names.now) (context c.args.context) (bag c.args.words.now)
      (map view c.args.tokens.now) (map view c.in-Some-2.word.rest.now) (map view c.in-Some-at_mark.field-0.1.now)
      (type_word c.in-Some-2.word.value) c.in-Some-at_mark.field-0.0
      c.requires.plain c.in_default.ensures.value (rw c.in-Some-2.is at c.in_ok-word.ensures.reads)
      c.in-Some-at_mark.ensures.value,
  c.stopped-in-Some-at_mark.ensures,
)

pub returns-in_default-with-clause-reads : goal.returns-in_default-with-clause-reads
returns-in_default-with-clause-reads c = (
  ahead.word_unfit (is_type c.args.reader.now.names.now) (context c.args.context) (bag c.args.words.now)
      (map view c.args.tokens.now) (map view c.in-Some-2.word.rest.now) (type_word c.in-Some-2.word.value)
      c.requires.plain c.in_default.ensures.value (rw c.in-Some-2.is at c.in_ok-word.ensures.reads)
      c.in_default-with.ensures,
  c.stopped.ensures,
)

pub returns-clause-reads : goal.returns-clause-reads
returns-clause-reads c =
    record {
      value = Some (plain (type_word c.in-Some-2.word.value));
      shows = (
        plain (type_word c.in-Some-2.word.value),
        refl,
        (refl, refl),
        refl,
        c.in-Some-with.ensures.0,
        (fits_is _ _ c.in-Some-with.ensures.0 c.in-Some-with.ensures.1),
      );
      takes =
          ahead.word_taken (is_type c.args.reader.now.names.now) (context c.args.context) (bag c.args.words.now)
          (map view c.args.tokens.now) (map view c.in-Some-2.word.rest.now) (type_word c.in-Some-2.word.value)
          c.requires.plain c.in_default.ensures.value (rw c.in-Some-2.is at c.in_ok-word.ensures.reads)
          c.in_default-at_mark.ensures.value (fits_is _ _ c.in-Some-with.ensures.0 c.in-Some-with.ensures.1);
    }
