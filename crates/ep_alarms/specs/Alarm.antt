-- Alarms one by one: the order of a report, and ranges. This project's rules.
use Rattle.std.specs.Prelude.{ℕ, ◌^◌, ◌<◌, ℤ, FitsSigned, Bool, ◌&&◌, ◌||◌, ◌==◌, nat_lt, List, codes}
use Rattle.std.specs.Int.{int_min, int_max, w128}
use Rattle.ep_alarms.specs.declared.types.Alarm.{Alarm}
use Rattle.ep_alarms.specs.declared.types.AlarmKind.{AlarmKind}
use Rattle.ep_alarms.specs.declared.types.AlarmKind.TheVariants.{U1, U2, U3, U4, U5, U6, U7, U8, U9, U10, E1, E2, E3}
use Rattle.ep_alarms.specs.declared.types.AlarmKind.TheVariants.{E4}

-- the place of a kind in the order of a report
abbrev pub place_of : AlarmKind → ℕ
place_of U1 = 0
place_of U2 = 1
place_of U3 = 2
place_of U4 = 3
place_of U5 = 4
place_of U6 = 5
place_of U7 = 6
place_of U8 = 7
place_of U9 = 8
place_of U10 = 9
place_of E1 = 10
place_of E2 = 11
place_of E3 = 12
place_of E4 = 13

-- the code and the name of a kind
abbrev pub name_of : AlarmKind → List ℕ
name_of U1 = codes "U1 overflow"
name_of U2 = codes "U2 division"
name_of U3 = codes "U3 shift"
name_of U4 = codes "U4 uninitialised"
name_of U5 = codes "U5 bounds"
name_of U6 = codes "U6 null"
name_of U7 = codes "U7 alignment"
name_of U8 = codes "U8 pointer-mix"
name_of U9 = codes "U9 overlap"
name_of U10 = codes "U10 pointer-bytes"
name_of E1 = codes "E1 output-differs"
name_of E2 = codes "E2 one-sided-io"
name_of E3 = codes "E3 one-sided-jump"
name_of E4 = codes "E4 one-sided-loop"

-- alarms stand in order of line, then kind
abbrev pub before : Alarm → Alarm → Bool
before a b = nat_lt a.line b.line || (a.line == b.line && nat_lt (place_of a.kind) (place_of b.kind))

-- two alarms of one line and one kind
abbrev pub stand_together : Alarm → Alarm → Bool
stand_together a b = a.line == b.line && place_of a.kind == place_of b.kind

-- the least range that holds two
abbrev pub least_range : ℤ × ℤ → ℤ × ℤ → ℤ × ℤ
least_range r s = (int_min r.0 s.0, int_max r.1 s.1)

-- an alarm with the least ranges that hold its own and those of another
abbrev pub joined : Alarm → Alarm → Alarm
joined a b = record a { left = least_range a.left b.left; right = least_range a.right b.right }

-- the numbers of an alarm are numbers of its fields' types
pub record FitsTypes (a : Alarm) : Type 0 where
  pub line : a.line < 2 ^ 32
  pub left_least : FitsSigned w128 a.left.0
  pub left_greatest : FitsSigned w128 a.left.1
  pub right_least : FitsSigned w128 a.right.0
  pub right_greatest : FitsSigned w128 a.right.1
