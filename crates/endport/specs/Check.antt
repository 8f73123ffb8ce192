-- What `check` comes to once the bytes of its file are read: a status and a text. This project's rules.
use Rattle.std.specs.Prelude.{◌≡◌, ℕ, Bool, true, false, if◌then◌else◌, List, [], ◌∷◌, IsTrue}
use Rattle.ep_int.specs.declared.types.Model.{Model}
use Rattle.ep_int.specs.declared.types.Order.{Order}
use Rattle.ep_alarms.specs.declared.types.Alarm.{Alarm}
use Rattle.ep_alarms.specs.Text.{report_text_of}
use Rattle.ep_core.specs.Program.{Program}
use Rattle.ep_core.specs.Runs.{Agree}
use Rattle.ep_iterator.specs.Reports as reports
use Rattle.ep_iterator.specs.Reports.{AllMayStand}
use Rattle.endport.specs.Jobs.{IsRefused, MeansOnly}
use Rattle.endport.specs.declared.status.Status.{Status}
use Rattle.endport.specs.declared.status.Status.TheVariants.{Done, Alarms, Refused, Usage, ReadFault, WriteFault}
use Rattle.endport.specs.declared.status.Status.TheVariants.{Memory, TooLong, StepsUsedUp, Undefined, InputEnded}
use Rattle.endport.specs.declared.status.Status.TheVariants.{NotVerified, BadCertificate}
use Rattle.ep_movers.specs.Movers.{is_mover_text}
use Rattle.ep_pass.specs.Agreement.{AgreeInTheEnd}
use Rattle.ep_kinds.specs.Steady.{IsClosed, IsSteady}
use Rattle.ep_kinds.specs.Tame.{is_tame}
use Rattle.ep_straight_laws.specs.Laws.{has_little}
use Rattle.ep_straight_laws.specs.Straight.{is_straight}
use Rattle.ep_tame_laws.specs.Tamely.{IsUndefinedOnly}
use Rattle.endport.specs.Numbers.{numbers, bit_numbers}

-- a report for machines of these byte orders in this data model, where so many turns of a loop are gone through one by
-- one
pub record Asked : Type 0 where
  pub model : Model
  pub left : Order
  pub right : Order
  pub unroll : ℕ
  -- with known bits
  pub known_bits : Bool

-- the alarms of a program, in order of line and kind
abbrev pub alarms_of : Asked → Program → List Alarm
alarms_of a p =
    if a.known_bits then reports.alarms_of bit_numbers p a.left a.right a.unroll
    else reports.alarms_of numbers p a.left a.right a.unroll

-- a report is done where it has no alarms
abbrev pub report_status : List Alarm → Status
report_status [] = Done
report_status (a ∷ more) = Alarms

-- The text and the status of the report on the one program that the source means. Where it has no alarms, the two
-- machines agree on that program: at all numbers of steps, along every interleaving, and in the end. Each alarm is of a
-- kind that the text on its line may have. Without known bits none on a tame program is of the kinds E1 to E4, and
-- there is none at all on a steady program that is closed at this number of turns, nor where the machines, one of them
-- little-endian, agree on a program that only moves whole variables, nor where they agree on a byte mover.
pub record Reports (a : Asked) (source : List ℕ) (status : Status) (text : List ℕ) : Type 0 where
  pub program : Program
  pub means : MeansOnly a.model source program
  pub text_is : text ≡ report_text_of (alarms_of a program)
  pub status_is : status ≡ report_status (alarms_of a program)
  pub portable : status ≡ Done → AgreeInTheEnd program a.left a.right
  pub stand : AllMayStand true program (alarms_of a program)
  pub tame : a.known_bits ≡ false → IsTrue (is_tame program) → IsUndefinedOnly (alarms_of a program)
  pub closed : a.known_bits ≡ false → IsClosed program a.left a.right a.unroll → IsSteady program a.left a.right
      → status ≡ Done
  pub straight : a.known_bits ≡ false → IsTrue (is_straight program) → has_little a.left a.right ≡ true
      → Agree program a.left a.right → status ≡ Done
  pub mover : a.known_bits ≡ false → IsTrue (is_mover_text program a.left a.right)
      → Agree program a.left a.right → status ≡ Done

-- what `check` comes to
abbrev pub IsCheck : Asked → (source : List ℕ) → Status → (text : List ℕ) → Type 0
IsCheck a source Done text = Reports a source Done text
IsCheck a source Alarms text = Reports a source Alarms text
IsCheck a source Refused text = IsRefused a.model source text
IsCheck a source Usage text = ⊥
IsCheck a source ReadFault text = ⊥
IsCheck a source WriteFault text = ⊥
IsCheck a source Memory text = ⊥
IsCheck a source TooLong text = ⊥
IsCheck a source StepsUsedUp text = ⊥
IsCheck a source Undefined text = ⊥
IsCheck a source InputEnded text = ⊥
IsCheck a source NotVerified text = ⊥
IsCheck a source BadCertificate text = ⊥
