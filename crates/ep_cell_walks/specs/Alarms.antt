-- Faults as alarms. This project's words.
use Rattle.std.specs.Prelude.{ℕ, List, map, fold}
use Rattle.ep_alarms.specs.declared.types.Alarm.{Alarm}
use Rattle.ep_alarms.specs.Report.{added}
use Rattle.ep_equalities.specs.declared.pair.Fault.{Fault}
use Rattle.ep_pass.specs.States.{Fault as Told}
use Rattle.ep_pass.specs.Pass.{alarms_at}

abbrev pub told : Fault → Told
told f = record { kind = f.kind; left = f.left; right = f.right }

-- the alarms, and the faults as alarms on this line
abbrev pub alarms_with : List Alarm → (line : ℕ) → List Fault → List Alarm
alarms_with alarms l fs = fold added alarms (alarms_at l (map told fs))
