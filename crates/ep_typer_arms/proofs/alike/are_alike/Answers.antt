use Rattle.ep_scopes.specs.View.{env}
use Rattle.ep_typer_arms.proofs.Grown.{came}
use Rattle.ep_typer_arms.proofs.alike.are_alike.Goals as goal

pub rewind-requires : goal.rewind-requires
rewind-requires c =
    let G = env c.args.env.now in (
      G,
      came c.mark-mark.result G (env c.compared.new.env) c.requires.file c.mark-mark.ensures.mark c.mark-mark.ensures.built
          c.in_ok-alike.ensures.comes,
    )

pub returns-clause-same : goal.returns-clause-same
returns-clause-same c =
    let G = env c.args.env.now in
    c.in_ok-rewind.ensures G
    (came c.mark-mark.result G (env c.compared.new.env) c.requires.file c.mark-mark.ensures.mark c.mark-mark.ensures.built
    c.in_ok-alike.ensures.comes)
