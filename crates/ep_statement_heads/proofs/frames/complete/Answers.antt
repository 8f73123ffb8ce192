use Rattle.std.proofs.Common.{rules, ◌≡◌, ◌∷◌, [], map, ap, ◌∙◌, arith}
use Rattle.std.specs.Prelude.{reverse}
use Rattle.std.proofs.lemmas.Result.{err_from_is_err_and}
use Rattle.ep_lexer.specs.Tokens.{view}
use Rattle.ep_reading.specs.Names.{is_type}
use Rattle.ep_expression_trees.proofs.KeptLemmas.{reverse-last}
use Rattle.ep_statement_heads.specs.Around.{Stands}
use Rattle.ep_statement_heads.proofs.StandLemmas as stands
use Rattle.ep_statement_heads.proofs.frames.complete.Goals as goal

pub returns-in_err-closed-clause-reads : goal.returns-in_err-closed-clause-reads
returns-in_err-closed-clause-reads c = λ xs s.
    let p = err_from_is_err_and c.from_residual.result c.from_residual.ensures.1 in
    let e : reverse c.frames.left.items ≡ c.in-Some.frame ∷ reverse c.pop.new.self.items = ap reverse
    c.in-Some.ensures.items ∙ reverse-last c.pop.new.self.items c.in-Some.frame in
    let w : Stands (is_type c.args.reader.now.names.now) xs (c.in-Some.frame ∷ reverse c.pop.new.self.items)
    c.frames.found (map view c.frames.rest.now) = rw e at (c.frames.invariant.0 xs s) in
    rw (p.1, p.2) (c.in_err-closed.ensures.reads xs (reverse c.pop.new.self.items) w)

pub frames-preserved : goal.frames-preserved
frames-preserved c = (
  λ xs s. (
      let e : reverse c.frames.left.items ≡ c.in-Some.frame ∷ reverse c.pop.new.self.items = ap reverse
      c.in-Some.ensures.items ∙ reverse-last c.pop.new.self.items c.in-Some.frame in
      let w : Stands (is_type c.args.reader.now.names.now) xs (c.in-Some.frame ∷ reverse c.pop.new.self.items)
      c.frames.found (map view c.frames.rest.now) = rw e at (c.frames.invariant.0 xs s) in
      rw c.in-More.is (rw c.in-More.is at (c.in_ok-closed.ensures.reads xs (reverse c.pop.new.self.items) w))),
  omega (arith, c.in_ok-closed.ensures.shorter),
)

pub returns-in-Else-clause-reads : goal.returns-in-Else-clause-reads
returns-in-Else-clause-reads c = λ xs s. (
    let e : reverse c.frames.left.items ≡ c.in-Some.frame ∷ reverse c.pop.new.self.items = ap reverse
    c.in-Some.ensures.items ∙ reverse-last c.pop.new.self.items c.in-Some.frame in
    let w : Stands (is_type c.args.reader.now.names.now) xs (c.in-Some.frame ∷ reverse c.pop.new.self.items)
    c.frames.found (map view c.frames.rest.now) = rw e at (c.frames.invariant.0 xs s) in
    let f : reverse c.push.new.self.items ≡ c.in-Else.head ∷ reverse c.pop.new.self.items = ap reverse
    (rw c.in-Else.is at c.in_ok-push-in-Else.ensures.items) ∙ reverse-last c.pop.new.self.items c.in-Else.head in
    rw f (rw c.in-Else.is at (c.in_ok-closed.ensures.reads xs (reverse c.pop.new.self.items) w)))

pub returns-clause-reads : goal.returns-clause-reads
returns-clause-reads c = λ xs s. (
    let k : c.frames.left.items ≡ [] = search rules in
    let e : reverse c.frames.left.items ≡ [] = ap reverse k in
    let w : Stands (is_type c.args.reader.now.names.now) xs [] c.frames.found (map view c.frames.rest.now) = rw e at
    (c.frames.invariant.0 xs s) in
    stands.stands_end (is_type c.args.reader.now.names.now) xs (map view c.frames.rest.now) c.frames.found w)
