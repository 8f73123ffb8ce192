use Rattle.std.proofs.Common.{sym}
use Rattle.ep_int.specs.Memory.{has}
use Rattle.ep_bytes.specs.View.{value_in}
use Rattle.ep_core.specs.View.{function_view}
use Rattle.ep_machine.specs.Faults.{kind_of}
use Rattle.ep_concrete.proofs.Ends.{ends_without, ends_faulty, ends_given}
use Rattle.ep_concrete.proofs.runs.end_main.Goals as goal

pub returns-in-None : goal.returns-in-None
returns-in-None c =
    ends_without c.args.on.now (function_view c.args.main.now) c.requires.main c.args.machine.now c.in-None.is

pub returns-in-Err : goal.returns-in-Err
returns-in-Err c =
    rw c.alarm.ensures
    (ends_faulty c.args.on.now (function_view c.args.main.now) c.requires.main c.args.machine.now c.in-Some.r
    c.in-Some.is (kind_of c.in-Err.k) (sym c.in-Err.ensures))

pub returns-in_ok-ending-in-Ok : goal.returns-in_ok-ending-in-Ok
returns-in_ok-ending-in-Ok c =
    ends_given c.args.on.now (function_view c.args.main.now) c.requires.main c.args.machine.now c.in-Some.r
    c.in-Some.is (has (value_in c.in-Ok.v)) (sym c.in-Ok.ensures) _ _ c.in_ok-ending-in-Ok.ensures
