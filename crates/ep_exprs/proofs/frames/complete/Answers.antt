use Rattle.std.proofs.Common.{◌≡◌, ◌∷◌, ap, ◌∙◌}
use Rattle.std.specs.Prelude.{reverse}
use Rattle.ep_exprs.specs.Pending.{Value}
use Rattle.ep_expression_trees.proofs.KeptLemmas.{reverse-last}
use Rattle.ep_exprs.proofs.frames.complete.Goals as goal

pub returns-in-Asks : goal.returns-in-Asks
returns-in-Asks c = λ N xs zs v. (
    let e : reverse c.loop-frame.left.items ≡ c.in-Some.frame ∷ reverse c.pop.new.self.items =
    ap reverse c.in-Some.ensures.items ∙ reverse-last c.pop.new.self.items c.in-Some.frame in
    let w : Value N xs (c.in-Some.frame ∷ reverse c.pop.new.self.items) c.loop-frame.found zs =
    rw e at (c.loop-frame.invariant N xs zs v) in
    rw c.in-Asks.is at (c.in_ok-longer.ensures N xs zs (reverse c.pop.new.self.items) w))
