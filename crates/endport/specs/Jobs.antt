-- What a command comes to once the bytes of its file are read: a status and a text. This project's rules.
use Rattle.std.specs.Prelude.{◌≡◌, ℕ, List}
use Rattle.ep_int.specs.declared.types.Model.{Model}
use Rattle.ep_int.specs.declared.types.Order.{Order}
use Rattle.ep_ast.specs.declared.refusals.Refusal.{Refusal}
use Rattle.ep_ast.specs.Refusal.{refusal_line}
use Rattle.ep_layout.specs.Text.{layout_text_of}
use Rattle.ep_core.specs.Program.{Program}
use Rattle.ep_core.specs.Runs as runs
use Rattle.ep_core.specs.Runs.{run}
use Rattle.ep_concrete.specs.Text.{run_text_of}
use Rattle.ep_source.specs.Source.{Means, MeansNothingWithin, Offends}
use Rattle.endport.specs.declared.status.Status.{Status}
use Rattle.endport.specs.declared.status.Status.TheVariants.{Done, Alarms, Refused, Usage, ReadFault, WriteFault}
use Rattle.endport.specs.declared.status.Status.TheVariants.{Memory, TooLong, StepsUsedUp, Undefined, InputEnded}
use Rattle.endport.specs.declared.status.Status.TheVariants.{NotVerified, BadCertificate}

-- the exit code of a status
abbrev pub code_of : Status → ℕ
code_of Done = 0
code_of Alarms = 1
code_of Refused = 2
code_of Usage = 3
code_of ReadFault = 4
code_of WriteFault = 5
code_of Memory = 6
code_of TooLong = 7
code_of StepsUsedUp = 8
code_of Undefined = 9
code_of InputEnded = 10
code_of NotVerified = 11
code_of BadCertificate = 12

-- The one line that refuses a source, which means nothing within the limits.
pub record IsRefused (m : Model) (source text : List ℕ) : Type 0 where
  pub refusal : Refusal
  pub offends : Offends m source refusal
  pub nothing : MeansNothingWithin m source
  pub text_is : text ≡ refusal_line refusal

-- The source means this program and no other, and nothing of it offends.
pub record MeansOnly (m : Model) (source : List ℕ) (program : Program) : Type 0 where
  pub means : Means m source program
  pub only : (q : Program) → Means m source q → q ≡ program
  pub faultless : (r : Refusal) → Offends m source r → ⊥

-- ---- layouts

pub record Lays (m : Model) (source text : List ℕ) : Type 0 where
  pub program : Program
  pub means : MeansOnly m source program
  pub text_is : text ≡ layout_text_of program.types

-- what `layout` comes to
abbrev pub IsLayout : Model → (source : List ℕ) → Status → (text : List ℕ) → Type 0
IsLayout m source Done text = Lays m source text
IsLayout m source Refused text = IsRefused m source text
IsLayout m source Alarms text = ⊥
IsLayout m source Usage text = ⊥
IsLayout m source ReadFault text = ⊥
IsLayout m source WriteFault text = ⊥
IsLayout m source Memory text = ⊥
IsLayout m source TooLong text = ⊥
IsLayout m source StepsUsedUp text = ⊥
IsLayout m source Undefined text = ⊥
IsLayout m source InputEnded text = ⊥
IsLayout m source NotVerified text = ⊥
IsLayout m source BadCertificate text = ⊥

-- ---- runs

-- a run on a machine of this order, with so many steps at most and these inputs
pub record Asked : Type 0 where
  pub model : Model
  pub order : Order
  pub steps : ℕ
  pub inputs : List ℕ

abbrev pub status_of : runs.Ending → Status
status_of runs.still_running = StepsUsedUp
status_of runs.ended = Done
status_of runs.wants_input = InputEnded
status_of (runs.undefined_on l k) = Undefined

pub record Runs (a : Asked) (source : List ℕ) (status : Status) (text : List ℕ) : Type 0 where
  pub program : Program
  pub means : MeansOnly a.model source program
  pub text_is : text ≡ run_text_of (run program a.order a.inputs a.steps)
  pub status_is : status ≡ status_of (run program a.order a.inputs a.steps).ending

-- what `run` comes to
abbrev pub IsRun : Asked → (source : List ℕ) → Status → (text : List ℕ) → Type 0
IsRun a source Done text = Runs a source Done text
IsRun a source Refused text = IsRefused a.model source text
IsRun a source Alarms text = ⊥
IsRun a source Usage text = ⊥
IsRun a source ReadFault text = ⊥
IsRun a source WriteFault text = ⊥
IsRun a source Memory text = ⊥
IsRun a source TooLong text = ⊥
IsRun a source StepsUsedUp text = Runs a source StepsUsedUp text
IsRun a source Undefined text = Runs a source Undefined text
IsRun a source InputEnded text = Runs a source InputEnded text
IsRun a source NotVerified text = ⊥
IsRun a source BadCertificate text = ⊥
