-- What `prove` and `verify` come to once the bytes of their file are read: a status and a text. This project's rules.
use Rattle.std.specs.Prelude.{◌≡◌, ℕ, ◌-◌, ◌≤◌, false, List, [], ◌++◌, codes, decimal}
use Rattle.ep_int.specs.declared.types.Model.{Model}
use Rattle.ep_int.specs.declared.types.Order.{Order}
use Rattle.ep_alarms.specs.Alarm.{name_of}
use Rattle.ep_alarms.specs.declared.types.AlarmKind.{AlarmKind}
use Rattle.ep_cert.specs.Certificate.{Certificate, CertSpells, certificate_of}
use Rattle.ep_certcheck.specs.Verdict.{IsVerdict}
use Rattle.ep_certcheck.specs.declared.verdict.Verdict.{Verdict}
use Rattle.ep_certcheck.specs.declared.verdict.Verdict.TheVariants.{Yes, Fault, Outside, Missing, Spare}
use Rattle.ep_core.specs.Program.{Program}
use Rattle.ep_iterator.specs.Reports.{heads_of}
use Rattle.ep_kinds.specs.Steady.{IsClosed, IsSteady}
use Rattle.ep_pass.specs.Agreement.{AgreeInTheEnd}
use Rattle.endport.specs.Check.{Asked, Reports}
use Rattle.endport.specs.Jobs.{IsRefused, MeansOnly}
use Rattle.endport.specs.Numbers.{numbers}
use Rattle.endport.specs.declared.status.Status.{Status}
use Rattle.endport.specs.declared.status.Status.TheVariants.{Done, Alarms, Refused, Usage, ReadFault, WriteFault}
use Rattle.endport.specs.declared.status.Status.TheVariants.{Memory, TooLong, StepsUsedUp, Undefined, InputEnded}
use Rattle.endport.specs.declared.status.Status.TheVariants.{NotVerified, BadCertificate}

-- ---- `prove`

-- a report for these orders in this model, with so many turns one by one, without known bits
abbrev pub plainly : (unroll : ℕ) → Order × Order → Model → Asked
plainly unroll os m = record { model = m; left = os.0; right = os.1; unroll = unroll; known_bits = false }

-- what was asked, what is known at the heads of the program's loops, and the source
abbrev pub certificate_on : Asked → Program → (source : List ℕ) → Certificate
certificate_on a p source =
    certificate_of (a.left, a.right) a.model a.unroll (heads_of numbers p a.left a.right a.unroll) source

-- The report on the one program that the source means is empty, and the text spells the certificate of it.
pub record Proves (a : Asked) (source text : List ℕ) : Type 0 where
  pub report : List ℕ
  pub reports : Reports a source Done report
  pub spells : CertSpells text (certificate_on a reports.program source)

-- what `prove` comes to
abbrev pub IsProof : Asked → (source : List ℕ) → Status → (text : List ℕ) → Type 0
IsProof a source Done text = Proves a source text
IsProof a source Alarms text = Reports a source Alarms text
IsProof a source Refused text = IsRefused a.model source text
IsProof a source Usage text = ⊥
IsProof a source ReadFault text = ⊥
IsProof a source WriteFault text = ⊥
IsProof a source Memory text = ⊥
IsProof a source TooLong text = ⊥
IsProof a source StepsUsedUp text = ⊥
IsProof a source Undefined text = ⊥
IsProof a source InputEnded text = ⊥
IsProof a source NotVerified text = ⊥
IsProof a source BadCertificate text = ⊥

-- ---- `verify`

-- no certificate is spelled so
abbrev pub IsMisspelled : List ℕ → Type 0
IsMisspelled bytes = (c : Certificate) → CertSpells bytes c → ⊥

-- this certificate is spelled so, and no other
pub record SpellsOnly (bytes : List ℕ) (c : Certificate) : Type 0 where
  pub spells : CertSpells bytes c
  pub only : (d : Certificate) → CertSpells bytes d → c ≡ d

abbrev pub verdict_status : Verdict → Status
verdict_status Yes = Done
verdict_status (Fault l k) = NotVerified
verdict_status (Outside h name) = NotVerified
verdict_status (Missing l) = NotVerified
verdict_status (Spare n) = NotVerified

-- the code and the name of a kind, at the end of a line
abbrev pub kind_text : AlarmKind → List ℕ
kind_text k = codes " " ++ name_of k ++ codes "\n"

abbrev pub verdict_text : Verdict → List ℕ
verdict_text Yes = codes "verified\n"
verdict_text (Fault l k) = codes "not verified: fault " ++ decimal l ++ kind_text k
verdict_text (Outside h name) = codes "not verified: outside " ++ decimal h ++ codes "\n"
verdict_text (Missing l) = codes "not verified: missing " ++ decimal l ++ codes "\n"
verdict_text (Spare n) = codes "not verified: spare\n"

-- the status and the text tell the checker's verdict on a program, by the heads of the certificate
pub record IsVerdictOn (c : Certificate) (p : Program) (status : Status) (text : List ℕ) : Type 0 where
  pub verdict : Verdict
  pub is_verdict : IsVerdict numbers p c.orders.0 c.orders.1 c.unroll c.heads verdict
  pub text_is : text ≡ verdict_text verdict
  pub status_is : status ≡ verdict_status verdict

-- The verdict on the one program that the certificate's source means. Where it is yes, the two machines agree on that
-- program in the end. It is yes where there are no heads, and one turn more is unrolled than the loops of a closed and
-- steady program take.
pub record Judges (c : Certificate) (status : Status) (text : List ℕ) : Type 0 where
  pub program : Program
  pub means : MeansOnly c.model c.source program
  pub verdict : IsVerdictOn c program status text
  pub portable : status ≡ Done → AgreeInTheEnd program c.orders.0 c.orders.1
  pub closed : c.heads ≡ [] → 1 ≤ c.unroll → IsClosed program c.orders.0 c.orders.1 (c.unroll - 1)
      → IsSteady program c.orders.0 c.orders.1 → status ≡ Done

-- what comes of the certificate: its source may be refused
abbrev pub IsJudged : Certificate → Status → (text : List ℕ) → Type 0
IsJudged c Done text = Judges c Done text
IsJudged c Alarms text = ⊥
IsJudged c Refused text = IsRefused c.model c.source text
IsJudged c Usage text = ⊥
IsJudged c ReadFault text = ⊥
IsJudged c WriteFault text = ⊥
IsJudged c Memory text = ⊥
IsJudged c TooLong text = ⊥
IsJudged c StepsUsedUp text = ⊥
IsJudged c Undefined text = ⊥
IsJudged c InputEnded text = ⊥
IsJudged c NotVerified text = Judges c NotVerified text
IsJudged c BadCertificate text = ⊥

-- of the one certificate that the bytes spell
pub record Verifies (bytes : List ℕ) (status : Status) (text : List ℕ) : Type 0 where
  pub certificate : Certificate
  pub spells : SpellsOnly bytes certificate
  pub is_judged : IsJudged certificate status text

-- what `verify` comes to
abbrev pub IsVerification : (bytes : List ℕ) → Status → (text : List ℕ) → Type 0
IsVerification bytes Done text = Verifies bytes Done text
IsVerification bytes Alarms text = ⊥
IsVerification bytes Refused text = Verifies bytes Refused text
IsVerification bytes Usage text = ⊥
IsVerification bytes ReadFault text = ⊥
IsVerification bytes WriteFault text = ⊥
IsVerification bytes Memory text = ⊥
IsVerification bytes TooLong text = ⊥
IsVerification bytes StepsUsedUp text = ⊥
IsVerification bytes Undefined text = ⊥
IsVerification bytes InputEnded text = ⊥
IsVerification bytes NotVerified text = Verifies bytes NotVerified text
IsVerification bytes BadCertificate text = IsMisspelled bytes × (text ≡ codes "bad certificate\n")
