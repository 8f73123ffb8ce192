use Rattle.std.proofs.Common.{Some, None, map}
use Rattle.ep_lexer.specs.Tokens.{view}
use Rattle.ep_reading.specs.Names.{is_type}
use Rattle.ep_declarations.proofs.InitLemmas as inits
use Rattle.ep_declarations.proofs.initialisers.initialised.Goals as goal

pub returns-in_default-clause-reads : goal.returns-in_default-clause-reads
returns-in_default-clause-reads c =
    let q = c.in_ok-named.ensures.reads in
    record {
      value = record { line = q.value.line; declarator = q.value; value = None };
      shows = c.without_value.ensures q.value q.shows.1;
      takes =
          inits.bare_read (is_type c.args.reader.now.names.now) (map view c.args.tokens.now)
          (map view c.in_ok-named.named.rest.now) q.value q.takes c.in_default.ensures.value;
    }

pub returns-clause-reads : goal.returns-clause-reads
returns-clause-reads c =
    let q = c.in_ok-named.ensures.reads in
    let g = c.in_ok-given.ensures.reads in
    record {
      value = record { line = q.value.line; declarator = q.value; value = Some g.value };
      shows = c.with_value.ensures q.value g.value q.shows.1 g.shows;
      takes =
          inits.given_read (is_type c.args.reader.now.names.now) (map view c.args.tokens.now)
          (map view c.in_ok-named.named.rest.now) (map view c.in-Some.more.now) (map view c.in_ok-given.given.rest.now)
          c.in-Some.field-0-0 q.value g.value q.takes c.in-Some.ensures.value g.takes;
    }
