use Rattle.std.proofs.Common.{◌≡◌, ◌+◌, drop}
use Rattle.ep_typer_checks.proofs.Sizes.{total}
use Rattle.ep_typer_checks.proofs.checks.all_fit.Given as goal

abbrev pub invariant-loop-block : goal.invariant-loop-block
invariant-loop-block l = total l.blocks + l.left ≡ 65536 + total (drop l.block-index l.blocks)
