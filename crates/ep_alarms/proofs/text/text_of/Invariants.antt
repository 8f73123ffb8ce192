use Rattle.std.proofs.Common.{◌≡◌, take, flat_map}
use Rattle.ep_alarms.specs.Text.{line_text}
use Rattle.ep_alarms.proofs.text.text_of.Given as goal

abbrev pub invariant-loop-alarm : goal.invariant-loop-alarm
invariant-loop-alarm l = l.text.items ≡ flat_map line_text (take l.alarm-index l.alarms)
