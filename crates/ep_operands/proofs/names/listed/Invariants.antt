use Rattle.std.proofs.Common.{◌≡◌, drop, map}
use Rattle.ep_typing.specs.Env.{entry}
use Rattle.ep_operands.specs.View as view
use Rattle.ep_operands.proofs.names.listed.Given as goal

abbrev pub invariant-loop-text : goal.invariant-loop-text
invariant-loop-text l =
    entry l.name (map (λ f. view.named f.0.now f.1) (drop l.text-index l.functions)) ≡ entry l.name (map (λ f. view.named f.0.now f.1) l.functions)
