-- From what was read and done to the text and the status.
use Rattle.std.proofs.Common.{◌≡◌, refl, sym, ◌∙◌, subst, false, ℕ, ◌⊎◌, inl, inr, List, Option, Some, None, IfSome}
use Rattle.ep_int.specs.declared.types.Order.{Order}
use Rattle.ep_int.specs.declared.types.Order.TheVariants.{Little, Big, SwappedWords}
use Rattle.ep_core.specs.Exec.{is_order}
use Rattle.endport.specs.Check.{alarms_of}
use Rattle.endport.specs.Sample.{usual}
use Rattle.endport.proofs.Reporting.{ended}
use Rattle.ep_words.specs.Words.{Command, check, layout, run, sample, prove, verify}
use Rattle.endport.specs.declared.status.Status.{Status}
use Rattle.endport.specs.declared.status.Status.TheVariants.{Done, Alarms, Refused, Usage, ReadFault, WriteFault}
use Rattle.endport.specs.declared.status.Status.TheVariants.{Memory, TooLong, StepsUsedUp, Undefined, InputEnded}
use Rattle.endport.specs.declared.status.Status.TheVariants.{NotVerified, BadCertificate}
use Rattle.ep_io.specs.Bytes.{Appended, FrontAppended}
use Rattle.ep_io.specs.Faults.{Rose}
use Rattle.endport.specs.Top.{IsJob, IsSilent, TextOf, Written, IsTooLong, StopsSo}

-- ---- no job comes to a status without a text

no_report : {A B : Type 0} → A ⊎ B → (A → ⊥) → (B → ⊥) → ⊥
no_report (inl a) f g = f a
no_report (inr b) f g = g b

never_read_fault : (c : Command) (bytes text : List ℕ) → IsJob c bytes ReadFault text → ⊥
never_read_fault (check unroll orders model known_bits file) bytes text j = j
never_read_fault (layout model file) bytes text j = j
never_read_fault (run order steps model file inputs) bytes text j = j
never_read_fault (prove unroll orders model file) bytes text j = j
never_read_fault (verify file) bytes text j = j
never_read_fault (sample start fields) bytes text j =
    no_report (ended (alarms_of usual j.reports.program) ReadFault j.reports.status_is) (λ e. cc) (λ e. cc)

never_write_fault : (c : Command) (bytes text : List ℕ) → IsJob c bytes WriteFault text → ⊥
never_write_fault (check unroll orders model known_bits file) bytes text j = j
never_write_fault (layout model file) bytes text j = j
never_write_fault (run order steps model file inputs) bytes text j = j
never_write_fault (prove unroll orders model file) bytes text j = j
never_write_fault (verify file) bytes text j = j
never_write_fault (sample start fields) bytes text j =
    no_report (ended (alarms_of usual j.reports.program) WriteFault j.reports.status_is) (λ e. cc) (λ e. cc)

never_memory : (c : Command) (bytes text : List ℕ) → IsJob c bytes Memory text → ⊥
never_memory (check unroll orders model known_bits file) bytes text j = j
never_memory (layout model file) bytes text j = j
never_memory (run order steps model file inputs) bytes text j = j
never_memory (prove unroll orders model file) bytes text j = j
never_memory (verify file) bytes text j = j
never_memory (sample start fields) bytes text j =
    no_report (ended (alarms_of usual j.reports.program) Memory j.reports.status_is) (λ e. cc) (λ e. cc)

never_too_long : (c : Command) (bytes text : List ℕ) → IsJob c bytes TooLong text → ⊥
never_too_long (check unroll orders model known_bits file) bytes text j = j
never_too_long (layout model file) bytes text j = j
never_too_long (run order steps model file inputs) bytes text j = j
never_too_long (prove unroll orders model file) bytes text j = j
never_too_long (verify file) bytes text j = j
never_too_long (sample start fields) bytes text j =
    no_report (ended (alarms_of usual j.reports.program) TooLong j.reports.status_is) (λ e. cc) (λ e. cc)

whole_of : (c : Command) (told : Option (List ℕ)) (status : Status) (text : List ℕ) (before after : Option (List ℕ))
    → TextOf (Some c) told status text → Appended before text after → Written (Some c) told status before after
whole_of c told Done text before after t a = (text, t, a)
whole_of c told Alarms text before after t a = (text, t, a)
whole_of c told Refused text before after t a = (text, t, a)
whole_of c told Usage text before after t a = (text, t, a)
whole_of c told ReadFault text before after t a = absurd (never_read_fault c t.bytes text t.is_job)
whole_of c told WriteFault text before after t a = absurd (never_write_fault c t.bytes text t.is_job)
whole_of c told Memory text before after t a = absurd (never_memory c t.bytes text t.is_job)
whole_of c told TooLong text before after t a = absurd (never_too_long c t.bytes text t.is_job)
whole_of c told StepsUsedUp text before after t a = (text, t, a)
whole_of c told Undefined text before after t a = (text, t, a)
whole_of c told InputEnded text before after t a = (text, t, a)
whole_of c told NotVerified text before after t a = (text, t, a)
whole_of c told BadCertificate text before after t a = (text, t, a)

whole : (c : Option Command) (told : Option (List ℕ)) (status : Status) (text : List ℕ)
    (before after : Option (List ℕ)) → TextOf c told status text → Appended before text after
    → Written c told status before after
whole (Some c) told status text before after t a = whole_of c told status text before after t a
whole None told status text before after t a =
    rw (t.0) (text, (refl, t.1), a)

pub written : (c : Option Command) (told : Option (List ℕ)) (status result : Status) (text : List ℕ)
    (before after : Option (List ℕ)) (was now : ℕ) → TextOf c told status text
    → ((result ≡ status) × Appended before text after)
    ⊎ ((result ≡ WriteFault) × FrontAppended before text after × Rose was now)
    → Written c told result before after
written c told status result text before after was now t (inl (e, a)) = rw e (whole c told status text before after t a)
written c told status result text before after was now t (inr (e, f, r)) = rw e (status, text, t, f)

-- ---- what says nothing

-- the status of a text is none of these
speaks : (c : Command) (bytes text : List ℕ) (s : Status) → IsJob c bytes s text → IsSilent s → ⊥
speaks c bytes text Done j k = k
speaks c bytes text Alarms j k = k
speaks c bytes text Refused j k = k
speaks c bytes text Usage j k = k
speaks c bytes text ReadFault j k = never_read_fault c bytes text j
speaks c bytes text WriteFault j k = k
speaks c bytes text Memory j k = never_memory c bytes text j
speaks c bytes text TooLong j k = never_too_long c bytes text j
speaks c bytes text StepsUsedUp j k = k
speaks c bytes text Undefined j k = k
speaks c bytes text InputEnded j k = k
speaks c bytes text NotVerified j k = k
speaks c bytes text BadCertificate j k = k

-- `of` is the text that was made
module _ (c : Command) (told : Option (List ℕ)) (status result : Status) (of text : List ℕ)
    (before after : Option (List ℕ)) (was now : ℕ) (t : TextOf (Some c) told status of) where
  pub never_silent : ((result ≡ status) × Appended before text after)
      ⊎ ((result ≡ WriteFault) × FrontAppended before text after × Rose was now) → IsSilent result → ⊥
  never_silent (inl p) k = speaks c t.bytes of status t.is_job (subst (λ s. IsSilent s) p.0 k)
  never_silent (inr p) k = subst (λ s. IsSilent s) p.0 k

  pub sink_failed : ((result ≡ status) × Appended before text after)
      ⊎ ((result ≡ WriteFault) × FrontAppended before text after × Rose was now) → result ≡ WriteFault → Rose was now
  sink_failed (inl p) e =
      absurd (never_write_fault c t.bytes of (subst (λ s. IsJob c t.bytes s of) (sym p.0 ∙ e) t.is_job))
  sink_failed (inr p) e = p.2

-- ---- why there is no text

pub too_long : (most : ℕ) (told : Option (List ℕ)) (before after : ℕ) (s : Status) → StopsSo most told before after s
    → IfSome told (λ bytes. IsTooLong most bytes → (s ≡ TooLong) ⊎ (s ≡ Memory) ⊎ Rose before after)
too_long most None before after s h = tt
too_long most (Some bytes) before after Done h = absurd h
too_long most (Some bytes) before after Alarms h = absurd h
too_long most (Some bytes) before after Refused h = absurd h
too_long most (Some bytes) before after Usage h = absurd h
too_long most (Some bytes) before after ReadFault h = λ l. inr (inr h)
too_long most (Some bytes) before after WriteFault h = absurd h
too_long most (Some bytes) before after Memory h = λ l. inr (inl refl)
too_long most (Some bytes) before after TooLong h = λ l. inl refl
too_long most (Some bytes) before after StepsUsedUp h = absurd h
too_long most (Some bytes) before after Undefined h = absurd h
too_long most (Some bytes) before after InputEnded h = absurd h
too_long most (Some bytes) before after NotVerified h = absurd h
too_long most (Some bytes) before after BadCertificate h = absurd h

-- ---- byte orders

pub other : (a b : Order) → ((a ≡ b) → ⊥) → is_order a b ≡ false
other Little Little h = absurd (h refl)
other Little Big h = refl
other Little SwappedWords h = refl
other Big Little h = refl
other Big Big h = absurd (h refl)
other Big SwappedWords h = refl
other SwappedWords Little h = refl
other SwappedWords Big h = refl
other SwappedWords SwappedWords h = absurd (h refl)
