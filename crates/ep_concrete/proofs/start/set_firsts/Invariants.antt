use Rattle.std.proofs.Common.{◌≡◌, drop, fold}
use Rattle.ep_int.specs.declared.types.Scalar.TheVariants.{Int}
use Rattle.ep_int.specs.Memory.{Memory, int, stored}
use Rattle.ep_bytes.specs.StoreView.{memory_in}
use Rattle.ep_core.specs.Exec.{model}
use Rattle.ep_core.specs.Program.{Init}
use Rattle.ep_core.specs.Runs.{initial}
use Rattle.ep_machine.specs.Settings.{program_in, IsLaid}
use Rattle.ep_concrete.proofs.start.set_firsts.Given as goal

abbrev pub invariant-loop-first : goal.invariant-loop-first
invariant-loop-first l = record {
  laid : IsLaid l.on l.store;
  rest : fold
      (λ (m : Memory) (i : Init). stored l.on.order (model l.on.order (program_in l.on)) m (Int i.t) i.block i.offset (int i.value))
      (memory_in l.store) (drop l.first-index (program_in l.on).init) ≡ initial l.on.order (program_in l.on);
}
