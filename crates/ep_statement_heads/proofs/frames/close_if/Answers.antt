use Rattle.std.proofs.Common.{map}
use Rattle.ep_lexer.specs.Tokens.{view}
use Rattle.ep_statement_heads.proofs.StandLemmas as stands
use Rattle.ep_statement_heads.proofs.frames.close_if.Goals as goal

pub returns-in_ok-then-in-Some-clause-reads : goal.returns-in_ok-then-in-Some-clause-reads
returns-in_ok-then-in-Some-clause-reads c = λ N xs ks s. stands.waits_else N xs (map view c.args.tokens.now)
    (map view c.in-Some.rest.now) ks c.args.line c.in-Some.field-0-0 c.args.test c.args.inner c.in_ok-then-in-Some.then
    c.in_ok-then-in-Some.ensures.ok c.in-Some.ensures.value s

pub returns-in_ok-whole-in-None-clause-reads : goal.returns-in_ok-whole-in-None-clause-reads
returns-in_ok-whole-in-None-clause-reads c = λ N xs ks s. stands.stands_if N xs (map view c.args.tokens.now) ks c.args.line
    c.args.test c.args.inner c.in_ok-whole-in-None.whole c.in_ok-whole-in-None.ensures c.in-None.ensures.value s
