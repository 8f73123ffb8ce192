use Rattle.std.proofs.Common.{rules, ◌≡◌, sym, ◌∙◌}
use Rattle.ep_pointers.specs.Value.{is_within}
use Rattle.ep_pointers.proofs.Holding.{within_holds}
use Rattle.ep_pointers.proofs.value.PtrValue.within.Goals as goal

pub returns-then-o-clause-holds : goal.returns-then-o-clause-holds
returns-then-o-clause-holds g c =
    let e : c.are_within.result ≡ is_within g.N.Num.ops c.args.self.now c.args.o.now = search rules in
    λ h. within_holds g.N.Num.ops g.met.N.Num.laws c.args.self.now c.args.o.now (sym e ∙ h)
