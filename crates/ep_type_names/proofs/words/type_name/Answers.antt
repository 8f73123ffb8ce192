use Rattle.std.proofs.Common.{map}
use Rattle.ep_ast.specs.Expression.{type_word}
use Rattle.ep_lexer.specs.Tokens.{view}
use Rattle.ep_reading.specs.Names.{is_type}
use Rattle.ep_type_names.proofs.StarLemmas.{named_taken, named_open}
use Rattle.ep_type_names.proofs.words.type_name.Goals as goal

pub returns-in_default-clause-reads : goal.returns-in_default-clause-reads
returns-in_default-clause-reads c = (
  named_open (is_type c.args.reader.now.names.now) (map view c.args.tokens.now) (map view c.in_ok-specs.specs.rest.now)
      (map view c.in_ok-stars.stars.rest.now) (map type_word c.in_ok-specs.specs.value.items)
      c.in_ok-stars.stars.value.items c.in_ok-specs.ensures.reads c.in_ok-stars.ensures.reads
      c.in_default.ensures.value,
  c.stopped.ensures,
)

pub returns-clause-reads : goal.returns-clause-reads
returns-clause-reads c =
    rw (c.in_ok-value.ensures.ok, c.line_of-line.ensures, c.deref.ensures.value) (
    named_taken (is_type c.args.reader.now.names.now) (map view c.args.tokens.now)
    (map view c.in_ok-specs.specs.rest.now) (map view c.in_ok-stars.stars.rest.now) (map view c.in-Some.more.now)
    (map type_word c.in_ok-specs.specs.value.items) c.in_ok-stars.stars.value.items c.in-Some.field-0-0
    c.in_ok-specs.ensures.reads c.in_ok-stars.ensures.reads c.in-Some.ensures.value
    )
