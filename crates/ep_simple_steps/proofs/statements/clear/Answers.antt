use Rattle.std.proofs.Common.{sym, subst}
use Rattle.ep_core.specs.Typed.{IfHas, IsAddress}
use Rattle.ep_machine.specs.Settings.{program_in}
use Rattle.ep_simple_steps.proofs.statements.clear.Goals as goal

pub clear_place-requires-clause-there : goal.clear_place-requires-clause-there
clear_place-requires-clause-there c =
    let p = program_in c.args.on.now in
    c.in-Ok-pointed.ensures.there p (subst (λ f. IfHas f (IsAddress p)) (sym c.in-Ok.ensures) c.requires.typed.1)

pub returns-in_ok-cleared-in-Ok-pointed-clause-fits : goal.returns-in_ok-cleared-in-Ok-pointed-clause-fits
returns-in_ok-cleared-in-Ok-pointed-clause-fits c = c.left_by.ensures.fits c.args.on.now
