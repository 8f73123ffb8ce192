-- From what was reported to the text and the status.
use Rattle.std.proofs.Common.{◌≡◌, refl, ◌∙◌, ap, if◌then◌else◌, true, false, IsTrue, ℕ, ◌⊎◌, inl, inr, List, [], ◌∷◌, Result, Ok, Err, IfOk}
use Rattle.ep_alarms.specs.declared.types.Alarm.{Alarm}
use Rattle.ep_alarms.specs.Text.{report_text_of}
use Rattle.endport.specs.Check.{Asked, alarms_of, report_status, Reports, IsCheck}
use Rattle.ep_core.specs.Program.{Program}
use Rattle.ep_core.specs.Runs.{Agree}
use Rattle.ep_iterator.specs.Reports as reports
use Rattle.ep_iterator.specs.Reports.{AllMayStand}
use Rattle.endport.specs.Jobs.{MeansOnly}
use Rattle.endport.specs.Numbers.{numbers, bit_numbers}
use Rattle.endport.specs.declared.jobs.Job.{Job}
use Rattle.endport.specs.declared.status.Status.{Status}
use Rattle.endport.specs.declared.status.Status.TheVariants.{Done, Alarms, Refused, Usage, ReadFault, WriteFault}
use Rattle.endport.specs.declared.status.Status.TheVariants.{Memory, TooLong, StepsUsedUp, Undefined, InputEnded}
use Rattle.endport.specs.declared.status.Status.TheVariants.{NotVerified, BadCertificate}
use Rattle.ep_closed_laws.specs.Laws.{TypesHaveBytes}
use Rattle.ep_kinds.specs.Steady.{IsClosed, IsSteady}
use Rattle.ep_kinds.specs.Tame.{is_tame}
use Rattle.ep_movers.specs.Movers.{is_mover_text}
use Rattle.ep_pass.specs.Agreement.{AgreeInTheEnd}
use Rattle.ep_sample.specs.Sample.{source_of}
use Rattle.ep_sized_types.specs.Laws.{ProgramsHaveBytes}
use Rattle.ep_sample_laws.proofs.Whole.{means_within}
use Rattle.ep_straight_laws.specs.Laws.{has_little}
use Rattle.ep_straight_laws.specs.Straight.{is_straight}
use Rattle.ep_tame_laws.specs.Tamely.{IsUndefinedOnly}
use Rattle.endport.specs.Sample.{usual}

-- a report is done where it has no alarms
pub none_is_done : (alarms : List Alarm) → report_status alarms ≡ Done → alarms ≡ []
none_is_done [] e = refl
none_is_done (a ∷ more) e = absurd cc

-- what holds whatever the answer is
pub if_any : {A E P : Type 0} (r : Result A E) → P → IfOk r (λ _. P)
if_any (Ok x) p = p
if_any (Err e) p = tt

-- without known bits it is the report by intervals with their congruences
pub none_without : (a : Asked) (p : Program) → a.known_bits ≡ false
    → reports.alarms_of numbers p a.left a.right a.unroll ≡ [] → alarms_of a p ≡ []
none_without a p e h =
    ap (λ t. if t then reports.alarms_of bit_numbers p a.left a.right a.unroll
    else reports.alarms_of numbers p a.left a.right a.unroll) e ∙ h

checked : (a : Asked) (source : List ℕ) (alarms : List Alarm) (status : Status) (text : List ℕ)
    → status ≡ report_status alarms → Reports a source status text → IsCheck a source status text
checked a source [] status text e r = rw e (rw e at r)
checked a source (b ∷ more) status text e r = rw e (rw e at r)

pub reported : {E : Type 0} (a : Asked) (source : List ℕ) (p : Program) (r : Result Job E) → ProgramsHaveBytes
    → MeansOnly a.model source p
    → IfOk r (λ j. j.status ≡ report_status (alarms_of a p))
    → IfOk r (λ j. j.text.items ≡ report_text_of (alarms_of a p))
    → IfOk r (λ j. j.status ≡ Done → AgreeInTheEnd p a.left a.right)
    → IfOk r (λ j. AllMayStand true p (alarms_of a p))
    → IfOk r (λ j. a.known_bits ≡ false → IsTrue (is_tame p) → IsUndefinedOnly (alarms_of a p))
    → IfOk r (λ j. a.known_bits ≡ false → TypesHaveBytes p.types → IsClosed p a.left a.right a.unroll
    → IsSteady p a.left a.right → alarms_of a p ≡ [])
    → IfOk r (λ j. a.known_bits ≡ false → IsTrue (is_straight p) → has_little a.left a.right ≡ true
    → Agree p a.left a.right → alarms_of a p ≡ [])
    → IfOk r (λ j. a.known_bits ≡ false → IsTrue (is_mover_text p a.left a.right) → Agree p a.left a.right
    → alarms_of a p ≡ [])
    → IfOk r (λ j. IsCheck a source j.status j.text.items)
reported a source p (Ok j) sized means status text portable stand tame closed straight mover =
    checked a source (alarms_of a p) j.status j.text.items status (record {
      program = p;
      means = means;
      text_is = text;
      status_is = status;
      portable = portable;
      stand = stand;
      tame = tame;
      closed = λ k c s. status
          ∙ ap report_status (closed k (sized a.model means.means.tree p means.means.means) c s);
      straight = λ k m l g. status ∙ ap report_status (straight k m l g);
      mover = λ k m g. status ∙ ap report_status (mover k m g);
    })
reported a source p (Err e) sized means status text portable stand tame closed straight mover = tt

-- ---- samples

-- of a report there are two statuses
pub ended : (alarms : List Alarm) (status : Status) → status ≡ report_status alarms
    → (status ≡ Done) ⊎ (status ≡ Alarms)
ended [] status e = inl e
ended (a ∷ more) status e = inr e

-- a sample is never refused
pub sampled : (start fields : ℕ) (status : Status) (text : List ℕ) → IsCheck usual (source_of start fields) status text
    → Reports usual (source_of start fields) status text
sampled start fields Done text j = j
sampled start fields Alarms text j = j
sampled start fields Refused text j = let p = means_within start fields in absurd (j.nothing p.0 p.1)
sampled start fields Usage text j = absurd j
sampled start fields ReadFault text j = absurd j
sampled start fields WriteFault text j = absurd j
sampled start fields Memory text j = absurd j
sampled start fields TooLong text j = absurd j
sampled start fields StepsUsedUp text j = absurd j
sampled start fields Undefined text j = absurd j
sampled start fields InputEnded text j = absurd j
sampled start fields NotVerified text j = absurd j
sampled start fields BadCertificate text j = absurd j
