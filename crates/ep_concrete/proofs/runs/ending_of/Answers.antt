use Rattle.std.proofs.Common.{refl}
use Rattle.ep_concrete.proofs.runs.ending_of.Goals as goal

pub returns-in-Running : goal.returns-in-Running
returns-in-Running c = rw c.in-Running.is (record { ending = refl; outputs = refl; tests = refl; used = refl })

pub returns-in_ok-ending-in-AtEnd : goal.returns-in_ok-ending-in-AtEnd
returns-in_ok-ending-in-AtEnd c = rw c.in-AtEnd.is c.in_ok-ending-in-AtEnd.ensures

pub returns-in-NoInput : goal.returns-in-NoInput
returns-in-NoInput c = rw c.in-NoInput.is (record { ending = refl; outputs = refl; tests = refl; used = refl })

pub returns-in-Faulty : goal.returns-in-Faulty
returns-in-Faulty c =
    rw (c.in-Faulty.is, c.alarm.ensures) (record { ending = refl; outputs = refl; tests = refl; used = refl })
