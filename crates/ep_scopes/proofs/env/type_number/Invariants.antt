use Rattle.std.proofs.Common.{◌≡◌, ◌-◌}
use Rattle.ep_typing.specs.Types.{c_type_number, pointer_number}
use Rattle.ep_scopes.proofs.env.type_number.Given as goal

abbrev pub invariant-loop-i : goal.invariant-loop-i
invariant-loop-i l = pointer_number l.types l.number (l.i-end - l.i) ≡ c_type_number l.types l.fn.c
