use Rattle.std.proofs.Common.{◌≡◌, drop, pos}
use Rattle.ep_typing.specs.Types.{first_holding}
use Rattle.ep_operands.proofs.types.first_holding.Given as goal

abbrev pub invariant-loop-t : goal.invariant-loop-t
invariant-loop-t l = first_holding (pos l.n) (drop l.t-index l.types) ≡ first_holding (pos l.n) l.types
