use Rattle.std.proofs.Common.{sym, rules}
use Rattle.ep_core.proofs.Tables.{no_size}
use Rattle.ep_machine.specs.Settings.{program_in}
use Rattle.ep_machine.proofs.machine.bytes_in.Goals as goal

pub returns-then-ty-type_count : goal.returns-then-ty-type_count
returns-then-ty-type_count c = sym (no_size (program_in c.args.on.now).types c.args.ty (search rules))
