use Rattle.std.proofs.Common.{sym, subst}
use Rattle.ep_core.specs.Typed.{IfHas, IsAddress}
use Rattle.ep_machine.specs.Settings.{program_in}
use Rattle.ep_simple_steps.proofs.statements.range.Goals as goal

pub returns-in-Ok-check-clause-there : goal.returns-in-Ok-check-clause-there
returns-in-Ok-check-clause-there c =
    let p = program_in c.args.on.now in
    c.in-Ok-pointed.ensures.there p (subst (λ f. IfHas f (IsAddress p)) (sym c.in-Ok.ensures) c.requires.typed.1)
