-- The text of a run. This project's rule.
use Rattle.std.specs.Prelude.{ℕ, List, ◌++◌, codes, decimal, flat_map}
use Rattle.std.specs.Fmt.{signed_decimal}
use Rattle.ep_int.specs.declared.types.IntType.{IntType}
use Rattle.ep_int.specs.declared.types.IntType.TheVariants.{I8, U8, I16, U16, I32, U32, I64, U64}
use Rattle.ep_alarms.specs.Alarm.{name_of}
use Rattle.ep_core.specs.Exec.{Output}
use Rattle.ep_core.specs.Runs.{Run}
use Rattle.ep_concrete.specs.declared.types.Ending.{Ending}
use Rattle.ep_concrete.specs.declared.types.Ending.TheVariants.{Running, Ended, NoInput, Undefined}
use Rattle.ep_concrete.specs.Results.{ending_of}

abbrev pub type_name : IntType → List ℕ
type_name I8 = codes "i8"
type_name U8 = codes "u8"
type_name I16 = codes "i16"
type_name U16 = codes "u16"
type_name I32 = codes "i32"
type_name U32 = codes "u32"
type_name I64 = codes "i64"
type_name U64 = codes "u64"

-- `TYPE VALUE`, and a newline
abbrev pub output_line : Output → List ℕ
output_line x = type_name x.t ++ codes " " ++ signed_decimal x.value ++ codes "\n"

-- `ended`, `running`, `no-input` or `undefined LINE KIND`, and a newline
abbrev pub last_line : Ending → List ℕ
last_line Running = codes "running\n"
last_line Ended = codes "ended\n"
last_line NoInput = codes "no-input\n"
last_line (Undefined l k) = codes "undefined " ++ decimal l ++ codes " " ++ name_of k ++ codes "\n"

-- a line for each output, and the last line
abbrev pub run_text_of : Run → List ℕ
run_text_of x = flat_map output_line x.outputs ++ last_line (ending_of x.ending)
