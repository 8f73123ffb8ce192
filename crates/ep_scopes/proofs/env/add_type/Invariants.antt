use Rattle.std.proofs.Common.{◌≡◌, ◌-◌, ◌<◌, length}
use Rattle.ep_typing.specs.Types.{with_c_type, with_pointers}
use Rattle.ep_scopes.proofs.env.add_type.Given as goal

abbrev pub invariant-loop-i : goal.invariant-loop-i
invariant-loop-i l = record {
  inside : l.number < length l.types.types;
  means : with_pointers l.types l.number (l.i-end - l.i) ≡ with_c_type l.fn.types l.fn.c;
}
