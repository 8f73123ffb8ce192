-- What the program does, from its words to what it writes. This project's rules.
use Rattle.std.specs.Prelude.{◌≡◌, ℕ, ◌<◌, ◌≤◌, ◌⊎◌, List, ◌++◌, length, codes, Option, Some, None, IfSome, IsSome}
use Rattle.std.specs.Prelude.{option_and_then}
use Rattle.ep_ast.specs.declared.refusals.Refusal.{Refusal}
use Rattle.ep_core.specs.Program.{Program}
use Rattle.ep_int.specs.declared.types.Model.{Model}
use Rattle.ep_source.specs.Source.{Means, Offends}
use Rattle.ep_words.specs.Words.{Command, check, layout, run, sample, prove, verify}
use Rattle.ep_cert.specs.Certificate.{Certificate, CertSpells}
use Rattle.endport.specs.Certificates.{IsMisspelled, IsProof, IsVerification, plainly}
use Rattle.endport.specs.Check.{IsCheck}
use Rattle.endport.specs.Sample.{IsSample}
use Rattle.endport.specs.Jobs.{IsLayout, IsRun}
use Rattle.endport.specs.declared.status.Status.{Status}
use Rattle.endport.specs.declared.status.Status.TheVariants.{Done, Alarms, Refused, Usage, ReadFault, WriteFault}
use Rattle.endport.specs.declared.status.Status.TheVariants.{Memory, TooLong, StepsUsedUp, Undefined, InputEnded}
use Rattle.endport.specs.declared.status.Status.TheVariants.{NotVerified, BadCertificate}
use Rattle.ep_io.specs.Bytes.{Appended, FrontAppended}
use Rattle.ep_io.specs.Faults.{Rose}

-- ---- words

-- the file that a command names, if it names one
abbrev pub file_of : Command → Option (List ℕ)
file_of (check unroll orders model known_bits file) = Some file
file_of (layout model file) = Some file
file_of (run order steps model file inputs) = Some file
file_of (sample start fields) = None
file_of (prove unroll orders model file) = Some file
file_of (verify file) = Some file

abbrev pub file_asked : Option Command → Option (List ℕ)
file_asked None = None
file_asked (Some c) = file_of c

-- the bytes that stand under the file, where the words name one and the source tells them
abbrev pub under : Option Command → (List ℕ → Option (List ℕ)) → Option (List ℕ)
under c standing = option_and_then standing (file_asked c)

-- the most bytes that the file of a command may have; where no file is named, none are read
abbrev pub most_of : Command → ℕ
most_of (check unroll orders model known_bits file) = 1048576
most_of (layout model file) = 1048576
most_of (run order steps model file inputs) = 1048576
most_of (sample start fields) = 0
most_of (prove unroll orders model file) = 1048576
most_of (verify file) = 16777216

abbrev pub most_asked : Option Command → ℕ
most_asked None = 0
most_asked (Some c) = most_of c

-- ---- texts

abbrev pub usage_text : List ℕ
usage_text =
    codes "usage:\n"
    ++ codes "  endport check [--unroll N] [--orders A,B] [--model ilp32|lp64] [--domain bits] FILE\n"
    ++ codes "  endport run --order little|big|swapped-words --steps N [--model ilp32|lp64] FILE [INPUT..]\n"
    ++ codes "  endport layout [--model ilp32|lp64] FILE\n"
    ++ codes "  endport sample START FIELDS\n"
    ++ codes "  endport prove [--unroll N] [--orders A,B] [--model ilp32|lp64] FILE\n"
    ++ codes "  endport verify CERT\n"

-- ---- what is written

-- what a command comes to on the bytes of its file; of a sample none are read
abbrev pub IsJob : Command → List ℕ → Status → List ℕ → Type 0
IsJob (check unroll orders model known_bits file) bytes status text =
    IsCheck (record {
      model = model;
      left = orders.0;
      right = orders.1;
      unroll = unroll;
      known_bits = known_bits;
    }) bytes status text
IsJob (layout model file) bytes status text = IsLayout model bytes status text
IsJob (run order steps model file inputs) bytes status text =
    IsRun (record { model = model; order = order; steps = steps; inputs = inputs }) bytes status text
IsJob (sample start fields) bytes status text = IsSample start fields status text
IsJob (prove unroll orders model file) bytes status text = IsProof (plainly unroll orders model) bytes status text
IsJob (verify file) bytes status text = IsVerification bytes status text

-- the bytes are those that stand under the file, where these are told
pub record Comes (c : Command) (told : Option (List ℕ)) (status : Status) (text : List ℕ) : Type 0 where
  pub bytes : List ℕ
  pub are : IfSome told (λ standing. standing ≡ bytes)
  pub is_job : IsJob c bytes status text

-- the text that a status stands for, with these words and these bytes under the file
abbrev pub TextOf : Option Command → Option (List ℕ) → Status → List ℕ → Type 0
TextOf None told status text = (status ≡ Usage) × (text ≡ usage_text)
TextOf (Some c) told status text = Comes c told status text

-- what was written when the program ends so: the whole text; after a write fault a front of a text; else nothing
abbrev pub WholeText : Option Command → Option (List ℕ) → Status → (old new : Option (List ℕ)) → Type 0
WholeText c told status old new = (text : List ℕ) × TextOf c told status text × Appended old text new

abbrev pub Written : Option Command → Option (List ℕ) → Status → (old new : Option (List ℕ)) → Type 0
Written c told Done old new = WholeText c told Done old new
Written c told Alarms old new = WholeText c told Alarms old new
Written c told Refused old new = WholeText c told Refused old new
Written c told Usage old new = WholeText c told Usage old new
Written c told ReadFault old new = new ≡ old
Written c told WriteFault old new =
    (status : Status) × (text : List ℕ) × TextOf c told status text × FrontAppended old text new
Written c told Memory old new = new ≡ old
Written c told TooLong old new = new ≡ old
Written c told StepsUsedUp old new = WholeText c told StepsUsedUp old new
Written c told Undefined old new = WholeText c told Undefined old new
Written c told InputEnded old new = WholeText c told InputEnded old new
Written c told NotVerified old new = WholeText c told NotVerified old new
Written c told BadCertificate old new = WholeText c told BadCertificate old new

-- ---- when there is no text

abbrev pub IsTooLong : (most : ℕ) → List ℕ → Type 0
IsTooLong most bytes = most < length bytes

-- why there is no text: the source failed, it is too long, or memory wants
abbrev pub StopsSo : (most : ℕ) → Option (List ℕ) → (before after : ℕ) → Status → Type 0
StopsSo most told before after Done = ⊥
StopsSo most told before after Alarms = ⊥
StopsSo most told before after Refused = ⊥
StopsSo most told before after Usage = ⊥
StopsSo most told before after ReadFault = Rose before after
StopsSo most told before after WriteFault = ⊥
StopsSo most told before after Memory = Unit {0}
StopsSo most told before after TooLong = IfSome told (IsTooLong most)
StopsSo most told before after StepsUsedUp = ⊥
StopsSo most told before after Undefined = ⊥
StopsSo most told before after InputEnded = ⊥
StopsSo most told before after NotVerified = ⊥
StopsSo most told before after BadCertificate = ⊥

-- a file was begun and read to its end
abbrev pub WasRead : Status → Type 0
WasRead Done = Unit {0}
WasRead Alarms = Unit {0}
WasRead Refused = Unit {0}
WasRead Usage = Unit {0}
WasRead ReadFault = ⊥
WasRead WriteFault = Unit {0}
WasRead Memory = ⊥
WasRead TooLong = ⊥
WasRead StepsUsedUp = Unit {0}
WasRead Undefined = Unit {0}
WasRead InputEnded = Unit {0}
WasRead NotVerified = Unit {0}
WasRead BadCertificate = Unit {0}

-- nothing is written at all
abbrev pub IsSilent : Status → Type 0
IsSilent Done = ⊥
IsSilent Alarms = ⊥
IsSilent Refused = ⊥
IsSilent Usage = ⊥
IsSilent ReadFault = Unit {0}
IsSilent WriteFault = ⊥
IsSilent Memory = Unit {0}
IsSilent TooLong = Unit {0}
IsSilent StepsUsedUp = ⊥
IsSilent Undefined = ⊥
IsSilent InputEnded = ⊥
IsSilent NotVerified = ⊥
IsSilent BadCertificate = ⊥

-- ---- which statuses come

-- the statuses that come with the whole text of what a command asks
abbrev pub IsWhole : Command → Status → Type 0
IsWhole (check unroll orders model known_bits file) s = (s ≡ Done) ⊎ (s ≡ Alarms)
IsWhole (layout model file) s = s ≡ Done
IsWhole (run order steps model file inputs) s = (s ≡ Done) ⊎ (s ≡ StepsUsedUp) ⊎ (s ≡ Undefined) ⊎ (s ≡ InputEnded)
IsWhole (sample start fields) s = (s ≡ Done) ⊎ (s ≡ Alarms)
IsWhole (prove unroll orders model file) s = (s ≡ Done) ⊎ (s ≡ Alarms)
IsWhole (verify file) s = (s ≡ Done) ⊎ (s ≡ NotVerified) ⊎ (s ≡ BadCertificate)

-- the statuses that a command has, of which some are of a file alone; where the words aren't plain, there is none
abbrev pub EndsSo : Option Command → Status → Type 0
EndsSo None s = (s ≡ Usage) ⊎ (s ≡ WriteFault)
EndsSo (Some c) s =
    IsWhole c s ⊎ (s ≡ WriteFault) ⊎ (s ≡ Memory)
    ⊎ (IsSome (file_of c) × ((s ≡ Refused) ⊎ (s ≡ ReadFault) ⊎ (s ≡ TooLong)))

-- a source that is not too long and means a program, and of which nothing offends
pub record IsRight (m : Model) (bytes : List ℕ) : Type 0 where
  pub program : Program
  pub means : Means m bytes program
  pub faultless : (r : Refusal) → Offends m bytes r → ⊥
  pub fits : length bytes ≤ 1048576

-- a certificate of such a source
pub record IsRightCertificate (bytes : List ℕ) : Type 0 where
  pub certificate : Certificate
  pub spells : CertSpells bytes certificate
  pub right : IsRight certificate.model certificate.source
  pub fits : length bytes ≤ 16777216

pub record IsNoCertificate (bytes : List ℕ) : Type 0 where
  pub misspelled : IsMisspelled bytes
  pub fits : length bytes ≤ 16777216

-- A right source gets its whole text, or memory wants. A right certificate gets a verdict, and what is no certificate
-- gets told so.
abbrev pub IsAnswered : Command → (bytes : List ℕ) → Status → Type 0
IsAnswered (check unroll orders model known_bits file) bytes s =
    IsRight model bytes → IsWhole (check unroll orders model known_bits file) s ⊎ (s ≡ Memory)
IsAnswered (layout model file) bytes s = IsRight model bytes → IsWhole (layout model file) s ⊎ (s ≡ Memory)
IsAnswered (run order steps model file inputs) bytes s =
    IsRight model bytes → IsWhole (run order steps model file inputs) s ⊎ (s ≡ Memory)
IsAnswered (sample start fields) bytes s = Unit {0}
IsAnswered (prove unroll orders model file) bytes s =
    IsRight model bytes → IsWhole (prove unroll orders model file) s ⊎ (s ≡ Memory)
IsAnswered (verify file) bytes s =
    (IsRightCertificate bytes → (s ≡ Done) ⊎ (s ≡ NotVerified) ⊎ (s ≡ Memory))
    × (IsNoCertificate bytes → (s ≡ BadCertificate) ⊎ (s ≡ Memory))

-- so it is where neither the source nor the sink fails
abbrev pub Completes : Option Command → Option (List ℕ) → (source_fails sink_fails : Type 0) → Status → Type 0
Completes c told source_fails sink_fails s =
    IfSome c (λ c. IfSome told (λ bytes. (source_fails → ⊥) → (sink_fails → ⊥) → IsAnswered c bytes s))
