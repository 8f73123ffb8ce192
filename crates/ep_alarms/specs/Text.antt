-- The text of a report. This project's rules.
use Rattle.std.specs.Prelude.{ℕ, ℤ, List, ◌++◌, length, codes, decimal, flat_map, ◌==◌, if◌then◌else◌}
use Rattle.std.specs.Fmt.{signed_decimal}
use Rattle.ep_alarms.specs.declared.types.Alarm.{Alarm}
use Rattle.ep_alarms.specs.Alarm.{name_of}

-- `[a,b]`
abbrev pub range_text : ℤ × ℤ → List ℕ
range_text r = codes "[" ++ signed_decimal r.0 ++ codes "," ++ signed_decimal r.1 ++ codes "]"

-- `LINE: KIND left [a,b] right [c,d]`, and a newline
abbrev pub line_text : Alarm → List ℕ
line_text a =
    decimal a.line ++ codes ": " ++ name_of a.kind ++ codes " left " ++ range_text a.left ++ codes " right "
    ++ range_text a.right ++ codes "\n"

-- the last line: `portable`, or how many alarms there are, `1 alarms` too
abbrev pub last_line : ℕ → List ℕ
last_line n = if n == 0 then codes "portable\n" else decimal n ++ codes " alarms\n"

-- a line for each alarm, and the last line
abbrev pub report_text_of : List Alarm → List ℕ
report_text_of alarms = flat_map line_text alarms ++ last_line (length alarms)
