-- Which statuses come.
use Rattle.std.proofs.Common.{◌≡◌, refl, sym, subst, arith, ℕ, ◌<◌, ◌≤◌, ◌⊎◌, inl, inr, List, length, Option, Some}
use Rattle.std.proofs.Common.{None, IsSome}
use Rattle.ep_int.specs.declared.types.Model.{Model}
use Rattle.ep_words.specs.Words.{Command, check, layout, run, sample, prove, verify}
use Rattle.endport.specs.Certificates.{IsProof, IsVerification, plainly}
use Rattle.endport.specs.Check.{Asked, IsCheck, alarms_of}
use Rattle.endport.specs.Sample.{usual}
use Rattle.endport.proofs.Reporting.{ended}
use Rattle.endport.specs.Jobs.{IsRefused}
use Rattle.endport.specs.declared.status.Status.{Status}
use Rattle.endport.specs.declared.status.Status.TheVariants.{Done, Alarms, Refused, Usage, ReadFault, WriteFault}
use Rattle.endport.specs.declared.status.Status.TheVariants.{Memory, TooLong, StepsUsedUp, Undefined, InputEnded}
use Rattle.endport.specs.declared.status.Status.TheVariants.{NotVerified, BadCertificate}
use Rattle.ep_source.specs.Source.{Offends}
use Rattle.ep_io.specs.Bytes.{Appended, FrontAppended}
use Rattle.ep_io.specs.Faults.{Rose}
use Rattle.endport.specs.Top.{IsJob, TextOf, StopsSo, IsWhole, EndsSo, IsRight, IsRightCertificate, IsNoCertificate}
use Rattle.endport.specs.Top.{IsAnswered, Completes, file_of, most_of}

-- ---- what was made of a source

checked : (a : Asked) (bytes text : List ℕ) (s : Status) → IsCheck a bytes s text
    → ((s ≡ Done) ⊎ (s ≡ Alarms)) ⊎ (s ≡ Refused)
checked a bytes text Done j = inl (inl refl)
checked a bytes text Alarms j = inl (inr refl)
checked a bytes text Refused j = inr refl
checked a bytes text Usage j = absurd j
checked a bytes text ReadFault j = absurd j
checked a bytes text WriteFault j = absurd j
checked a bytes text Memory j = absurd j
checked a bytes text TooLong j = absurd j
checked a bytes text StepsUsedUp j = absurd j
checked a bytes text Undefined j = absurd j
checked a bytes text InputEnded j = absurd j
checked a bytes text NotVerified j = absurd j
checked a bytes text BadCertificate j = absurd j

proved : (a : Asked) (bytes text : List ℕ) (s : Status) → IsProof a bytes s text
    → ((s ≡ Done) ⊎ (s ≡ Alarms)) ⊎ (s ≡ Refused)
proved a bytes text Done j = inl (inl refl)
proved a bytes text Alarms j = inl (inr refl)
proved a bytes text Refused j = inr refl
proved a bytes text Usage j = absurd j
proved a bytes text ReadFault j = absurd j
proved a bytes text WriteFault j = absurd j
proved a bytes text Memory j = absurd j
proved a bytes text TooLong j = absurd j
proved a bytes text StepsUsedUp j = absurd j
proved a bytes text Undefined j = absurd j
proved a bytes text InputEnded j = absurd j
proved a bytes text NotVerified j = absurd j
proved a bytes text BadCertificate j = absurd j

verified : (bytes text : List ℕ) (s : Status) → IsVerification bytes s text
    → ((s ≡ Done) ⊎ (s ≡ NotVerified) ⊎ (s ≡ BadCertificate)) ⊎ (s ≡ Refused)
verified bytes text Done j = inl (inl refl)
verified bytes text Alarms j = absurd j
verified bytes text Refused j = inr refl
verified bytes text Usage j = absurd j
verified bytes text ReadFault j = absurd j
verified bytes text WriteFault j = absurd j
verified bytes text Memory j = absurd j
verified bytes text TooLong j = absurd j
verified bytes text StepsUsedUp j = absurd j
verified bytes text Undefined j = absurd j
verified bytes text InputEnded j = absurd j
verified bytes text NotVerified j = inl (inr (inl refl))
verified bytes text BadCertificate j = inl (inr (inr refl))

of_check : {A B : Type 0} (file : List ℕ) → A ⊎ B → A ⊎ (IsSome (Some file) × B)
of_check file (inl a) = inl a
of_check file (inr b) = inr (refl, b)

-- of a file, what is in it may be refused
made : (c : Command) (bytes text : List ℕ) (s : Status) → IsJob c bytes s text
    → IsWhole c s ⊎ (IsSome (file_of c) × (s ≡ Refused))
made (check unroll orders model known_bits file) bytes text s j =
    of_check file (checked (record {
      model = model;
      left = orders.0;
      right = orders.1;
      unroll = unroll;
      known_bits = known_bits;
    }) bytes text s j)
made (layout model file) bytes text Done j = inl refl
made (layout model file) bytes text Alarms j = absurd j
made (layout model file) bytes text Refused j = inr (refl, refl)
made (layout model file) bytes text Usage j = absurd j
made (layout model file) bytes text ReadFault j = absurd j
made (layout model file) bytes text WriteFault j = absurd j
made (layout model file) bytes text Memory j = absurd j
made (layout model file) bytes text TooLong j = absurd j
made (layout model file) bytes text StepsUsedUp j = absurd j
made (layout model file) bytes text Undefined j = absurd j
made (layout model file) bytes text InputEnded j = absurd j
made (layout model file) bytes text NotVerified j = absurd j
made (layout model file) bytes text BadCertificate j = absurd j
made (run order steps model file inputs) bytes text Done j = inl (inl refl)
made (run order steps model file inputs) bytes text Alarms j = absurd j
made (run order steps model file inputs) bytes text Refused j = inr (refl, refl)
made (run order steps model file inputs) bytes text Usage j = absurd j
made (run order steps model file inputs) bytes text ReadFault j = absurd j
made (run order steps model file inputs) bytes text WriteFault j = absurd j
made (run order steps model file inputs) bytes text Memory j = absurd j
made (run order steps model file inputs) bytes text TooLong j = absurd j
made (run order steps model file inputs) bytes text StepsUsedUp j = inl (inr (inl refl))
made (run order steps model file inputs) bytes text Undefined j = inl (inr (inr (inl refl)))
made (run order steps model file inputs) bytes text InputEnded j = inl (inr (inr (inr refl)))
made (run order steps model file inputs) bytes text NotVerified j = absurd j
made (run order steps model file inputs) bytes text BadCertificate j = absurd j
made (sample start fields) bytes text s j = inl (ended (alarms_of usual j.reports.program) s j.reports.status_is)
made (prove unroll orders model file) bytes text s j =
    of_check file (proved (plainly unroll orders model) bytes text s j)
made (verify file) bytes text s j = of_check file (verified bytes text s j)

-- ---- the statuses of a command

-- what is written of a status: the whole, or a front
abbrev Put : (status result : Status) (text : List ℕ) (before after : Option (List ℕ)) (was now : ℕ) → Type 0
Put status result text before after was now =
    ((result ≡ status) × Appended before text after)
    ⊎ ((result ≡ WriteFault) × FrontAppended before text after × Rose was now)

pub usage_ends : (result : Status) (text : List ℕ) (before after : Option (List ℕ)) (was now : ℕ)
    → Put Usage result text before after was now → EndsSo None result
usage_ends result text before after was now (inl p) = inl (p.0)
usage_ends result text before after was now (inr p) = inr (p.0)

whole_or_refused : (c : Command) (s : Status) → IsWhole c s ⊎ (IsSome (file_of c) × (s ≡ Refused)) → EndsSo (Some c) s
whole_or_refused c s (inl w) = inl w
whole_or_refused c s (inr e) = inr (inr (inr (e.0, inl e.1)))

-- `of` is the text that was made
pub put_ends : (c : Command) (told : Option (List ℕ)) (status result : Status) (of text : List ℕ)
    (before after : Option (List ℕ)) (was now : ℕ) → TextOf (Some c) told status of
    → Put status result text before after was now → EndsSo (Some c) result
put_ends c told status result of text before after was now t (inl p) =
    rw (p.0) (whole_or_refused c status (made c t.bytes of status t.is_job))
put_ends c told status result of text before after was now t (inr p) = inr (inl (p.0))

named : (o : Option (List ℕ)) → (o ≡ None → ⊥) → IsSome o
named None h = absurd (h refl)
named (Some x) h = refl

pub stop_ends : (c : Command) (most : ℕ) (told : Option (List ℕ)) (before after : ℕ) (s : Status) → StopsSo most told before after s
    → (file_of c ≡ None → s ≡ Memory) → EndsSo (Some c) s
stop_ends c most told before after Done h m = absurd h
stop_ends c most told before after Alarms h m = absurd h
stop_ends c most told before after Refused h m = absurd h
stop_ends c most told before after Usage h m = absurd h
stop_ends c most told before after ReadFault h m =
    inr (inr (inr (named (file_of c) (λ e. absurd (let f = m e in cc)), inr (inl refl))))
stop_ends c most told before after WriteFault h m = absurd h
stop_ends c most told before after Memory h m = inr (inr (inl refl))
stop_ends c most told before after TooLong h m =
    inr (inr (inr (named (file_of c) (λ e. absurd (let f = m e in cc)), inr (inr refl))))
stop_ends c most told before after StepsUsedUp h m = absurd h
stop_ends c most told before after Undefined h m = absurd h
stop_ends c most told before after InputEnded h m = absurd h
stop_ends c most told before after NotVerified h m = absurd h
stop_ends c most told before after BadCertificate h m = absurd h

-- ---- what is right gets its answer

not_refused : (m : Model) (bytes read text : List ℕ) → IsRight m bytes → bytes ≡ read → IsRefused m read text → ⊥
not_refused m bytes read text r e d =
    r.faultless d.refusal (subst (λ bs. Offends m bs d.refusal) (sym e) d.offends)

-- what a refusal of these bytes is of
module _ (c : Command) (m : Model) (bytes text : List ℕ) (status : Status) (j : IsJob c bytes status text) where
  whole : (IsJob c bytes Refused text → IsRefused m bytes text) → IsRight m bytes → IsWhole c status
  whole refuses right = one (made c bytes text status j)
    where
      one : IsWhole c status ⊎ (IsSome (file_of c) × (status ≡ Refused)) → IsWhole c status
      one (inl w) = w
      one (inr k) = absurd (not_refused m bytes bytes text right refl (refuses (subst (λ s. IsJob c bytes s text) k.1 j)))

verdict : (bytes text : List ℕ) (s : Status) → IsVerification bytes s text → IsRightCertificate bytes
    → (s ≡ Done) ⊎ (s ≡ NotVerified) ⊎ (s ≡ Memory)
verdict bytes text Done j r = inl refl
verdict bytes text Alarms j r = absurd j
verdict bytes text Refused j r =
    let e : j.certificate ≡ r.certificate = j.spells.only r.certificate r.spells in
    absurd (not_refused r.certificate.model r.certificate.source r.certificate.source text r.right refl
    (subst (λ c. IsRefused c.model c.source text) e j.is_judged))
verdict bytes text Usage j r = absurd j
verdict bytes text ReadFault j r = absurd j
verdict bytes text WriteFault j r = absurd j
verdict bytes text Memory j r = absurd j
verdict bytes text TooLong j r = absurd j
verdict bytes text StepsUsedUp j r = absurd j
verdict bytes text Undefined j r = absurd j
verdict bytes text InputEnded j r = absurd j
verdict bytes text NotVerified j r = inr (inl refl)
verdict bytes text BadCertificate j r = absurd (j.0 r.certificate r.spells)

no_verdict : (bytes text : List ℕ) (s : Status) → IsVerification bytes s text → IsNoCertificate bytes
    → (s ≡ BadCertificate) ⊎ (s ≡ Memory)
no_verdict bytes text Done j r = absurd (r.misspelled j.certificate j.spells.spells)
no_verdict bytes text Alarms j r = absurd j
no_verdict bytes text Refused j r = absurd (r.misspelled j.certificate j.spells.spells)
no_verdict bytes text Usage j r = absurd j
no_verdict bytes text ReadFault j r = absurd j
no_verdict bytes text WriteFault j r = absurd j
no_verdict bytes text Memory j r = absurd j
no_verdict bytes text TooLong j r = absurd j
no_verdict bytes text StepsUsedUp j r = absurd j
no_verdict bytes text Undefined j r = absurd j
no_verdict bytes text InputEnded j r = absurd j
no_verdict bytes text NotVerified j r = absurd (r.misspelled j.certificate j.spells.spells)
no_verdict bytes text BadCertificate j r = inl refl

answered : (c : Command) (bytes text : List ℕ) (s : Status) → IsJob c bytes s text → IsAnswered c bytes s
answered (check unroll orders model known_bits file) bytes text s j =
    λ right. inl (whole (check unroll orders model known_bits file) model bytes text s j (λ k. k) right)
answered (layout model file) bytes text s j =
    λ right. inl (whole (layout model file) model bytes text s j (λ k. k) right)
answered (run order steps model file inputs) bytes text s j =
    λ right. inl (whole (run order steps model file inputs) model bytes text s j (λ k. k) right)
answered (sample start fields) bytes text s j = tt
answered (prove unroll orders model file) bytes text s j =
    λ right. inl (whole (prove unroll orders model file) model bytes text s j (λ k. k) right)
answered (verify file) bytes text s j = (verdict bytes text s j, no_verdict bytes text s j)

pub put_completes : (c : Command) (told : Option (List ℕ)) (status result : Status) (of text : List ℕ)
    (before after : Option (List ℕ)) (was now : ℕ) (source_fails : Type 0) → TextOf (Some c) told status of
    → Put status result text before after was now → Completes (Some c) told source_fails (Rose was now) result
put_completes c None status result of text before after was now source_fails t p = tt
put_completes c (Some bytes) status result of text before after was now source_fails t (inl p) =
    λ source sink. subst (λ s. IsAnswered c bytes s) (sym p.0)
    (subst (λ bs. IsAnswered c bs status) (sym t.are) (answered c t.bytes of status t.is_job))
put_completes c (Some bytes) status result of text before after was now source_fails t (inr p) =
    λ source sink. absurd (sink (p.2))

-- for want of memory
wants : (c : Command) (bytes : List ℕ) → IsAnswered c bytes Memory
wants (check unroll orders model known_bits file) bytes = λ right. inr refl
wants (layout model file) bytes = λ right. inr refl
wants (run order steps model file inputs) bytes = λ right. inr refl
wants (sample start fields) bytes = tt
wants (prove unroll orders model file) bytes = λ right. inr refl
wants (verify file) bytes = (λ right. inr (inr refl), λ none. inr refl)

-- nothing that is right is too long
not_too_long : (most n : ℕ) → most < n → n ≤ most → ⊥
not_too_long most n l f = omega arith

right_fits : (c : Command) (bytes : List ℕ) → most_of c < length bytes → IsAnswered c bytes TooLong
right_fits (check unroll orders model known_bits file) bytes l =
    λ right. absurd (not_too_long 1048576 (length bytes) l right.fits)
right_fits (layout model file) bytes l = λ right. absurd (not_too_long 1048576 (length bytes) l right.fits)
right_fits (run order steps model file inputs) bytes l =
    λ right. absurd (not_too_long 1048576 (length bytes) l right.fits)
right_fits (sample start fields) bytes l = tt
right_fits (prove unroll orders model file) bytes l =
    λ right. absurd (not_too_long 1048576 (length bytes) l right.fits)
right_fits (verify file) bytes l = (
  λ right. absurd (not_too_long 16777216 (length bytes) l right.fits),
  λ none. absurd (not_too_long 16777216 (length bytes) l none.fits),
)

pub stop_completes : (c : Command) (told : Option (List ℕ)) (before after : ℕ) (sink_fails : Type 0) (s : Status)
    → StopsSo (most_of c) told before after s → Completes (Some c) told (Rose before after) sink_fails s
stop_completes c None before after sink_fails s h = tt
stop_completes c (Some bytes) before after sink_fails Done h = absurd h
stop_completes c (Some bytes) before after sink_fails Alarms h = absurd h
stop_completes c (Some bytes) before after sink_fails Refused h = absurd h
stop_completes c (Some bytes) before after sink_fails Usage h = absurd h
stop_completes c (Some bytes) before after sink_fails ReadFault h = λ source sink. absurd (source h)
stop_completes c (Some bytes) before after sink_fails WriteFault h = absurd h
stop_completes c (Some bytes) before after sink_fails Memory h = λ source sink. wants c bytes
stop_completes c (Some bytes) before after sink_fails TooLong h = λ source sink. right_fits c bytes h
stop_completes c (Some bytes) before after sink_fails StepsUsedUp h = absurd h
stop_completes c (Some bytes) before after sink_fails Undefined h = absurd h
stop_completes c (Some bytes) before after sink_fails InputEnded h = absurd h
stop_completes c (Some bytes) before after sink_fails NotVerified h = absurd h
stop_completes c (Some bytes) before after sink_fails BadCertificate h = absurd h
