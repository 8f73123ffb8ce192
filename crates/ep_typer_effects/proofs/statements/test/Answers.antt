use Rattle.std.proofs.Common.{rules}
use Rattle.ep_typing.specs.Typing.{test}
use Rattle.ep_typer_effects.proofs.statements.test.Goals as goal

pub returns-in_err-x : goal.returns-in_err-x
unfolding test
returns-in_err-x c = search rules

pub returns-in_err-v : goal.returns-in_err-v
unfolding test
returns-in_err-v c = search rules

pub returns : goal.returns
unfolding test
returns c = search rules
