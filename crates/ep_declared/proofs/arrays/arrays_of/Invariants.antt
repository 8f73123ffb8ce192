use Rattle.std.proofs.Common.{◌≡◌, ◌<◌, drop, length}
use Rattle.ep_layout.specs.Grown.{GrownFrom}
use Rattle.ep_layout.specs.Table.{Grows}
use Rattle.ep_typing.specs.Types.{c_type_number}
use Rattle.ep_elaboration.specs.Declarators.{arrays_of}
use Rattle.ep_scopes.specs.Known.{IsKnown}
use Rattle.ep_declared.specs.Open.{StaysOpen}
use Rattle.ep_declared.proofs.ArrayLemmas.{typed_in}
use Rattle.ep_declared.proofs.arrays.arrays_of.Given as goal

abbrev pub invariant-loop-i : goal.invariant-loop-i
invariant-loop-i l = record {
  means : arrays_of l.fn.types l.fn.c (drop l.i l.counts) ≡ typed_in l.array l.types;
  there : c_type_number l.types l.array < length l.types.types;
  inside : IsKnown l.types l.array;
  grown : Grows l.fn.types l.types;
  stay : StaysOpen l.fn.types l.types;
  comes : GrownFrom l.fn.types l.types;
}
