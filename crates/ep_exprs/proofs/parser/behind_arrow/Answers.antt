use Rattle.std.proofs.Common.{ap, sym, refl, ◌∷◌, map}
use Rattle.ep_ast.specs.Token.{mark}
use Rattle.ep_ast.specs.Grammar.{through}
use Rattle.ep_lexer.specs.Tokens.{view}
use Rattle.ep_reading.specs.Names.{is_type}
use Rattle.ep_exprs.proofs.SuffixLemmas as suffixes
use Rattle.ep_exprs.proofs.parser.behind_arrow.Goals as goal

pub returns-in_default-clause-reads : goal.returns-in_default-clause-reads
returns-in_default-clause-reads c = λ l k h. (
    let xs = map view c.args.tokens.now in (
      suffixes.arrow_refused (is_type c.args.reader.now.names.now) l k (mark l k ∷ xs) xs refl h
          c.in_default.ensures.value,
      c.stopped.ensures,
    ))

pub returns-clause-reads : goal.returns-clause-reads
returns-clause-reads c = λ l k h. (
    let xs = map view c.args.tokens.now in
    record {
      value = through c.in-Some.text.now;
      shows = ap through (sym c.in_ok-from_slice.ensures.items);
      takes = suffixes.arrow_read (is_type c.args.reader.now.names.now) l k c.in-Some.field-0-0 c.in-Some.text.now
          (mark l k ∷ xs) xs (map view c.in-Some.more.now) refl h c.in-Some.ensures.value;
    })
