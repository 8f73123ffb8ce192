use Rattle.std.proofs.Common.{◌≡◌}
use Rattle.ep_bytes.specs.StoreView.{memory_in}
use Rattle.ep_core.specs.Exec.{result_in}
use Rattle.ep_core.specs.Runs.{main_function}
use Rattle.ep_machine.specs.Settings.{program_in, IsLaid}
use Rattle.ep_concrete.proofs.Firsts.{zeros_to}
use Rattle.ep_concrete.proofs.start.zero_blocks.Given as goal

abbrev pub invariant-loop-b : goal.invariant-loop-b
invariant-loop-b l = record {
  laid : IsLaid l.on l.store;
  memory : memory_in l.store
      ≡ zeros_to (program_in l.on).blocks (result_in (main_function l.on.order (program_in l.on))) l.b;
}
