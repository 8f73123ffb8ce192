-- From a certificate to the verdict on it.
use Rattle.std.proofs.Common.{◌≡◌, refl, sym, ap, ◌∙◌, subst, ℕ, ◌-◌, ◌*◌, ◌^◌, ◌<◌, ◌≤◌, false, List, [], ◌∷◌, length}
use Rattle.std.proofs.Common.{codes, Option, Some, None, option_map, ◌↔◌, Result, Ok, Err, IfOk, IfErr, arith}
use Rattle.ep_ast.specs.Refusal.{IfRefused, refusal_line}
use Rattle.ep_ast.specs.declared.refusals.Halt.{Halt}
use Rattle.ep_ast.specs.declared.refusals.Halt.TheVariants as halts
use Rattle.ep_ast.specs.declared.refusals.Refusal.{Refusal}
use Rattle.ep_cells.specs.States.{Known}
use Rattle.ep_cert.proofs.Sizes.{heads_within}
use Rattle.ep_cert.specs.Certificate.{Certificate, CertSpells, IsCertificate, IsHead, shown}
use Rattle.ep_cert.specs.declared.cert.Cert.{Cert}
use Rattle.ep_cert_cells.specs.Bytes.{Every}
use Rattle.ep_cert_cells.specs.Numbers.{Numbers}
use Rattle.ep_certcheck.specs.Verdict.{AreHeadsOf}
use Rattle.ep_closed_laws.specs.Laws.{TypesHaveBytes}
use Rattle.ep_core.specs.Exec.{is_order}
use Rattle.ep_core.specs.Program.{Program}
use Rattle.ep_int.specs.declared.types.Model.{Model}
use Rattle.ep_kinds.specs.Steady.{IsClosed, IsSteady}
use Rattle.ep_pass.specs.Agreement.{AgreeInTheEnd}
use Rattle.ep_singles.specs.Numbers.{KeepsSingles}
use Rattle.ep_sized_types.proofs.Models.{models_are}
use Rattle.ep_sized_types.specs.Laws.{ProgramsHaveBytes}
use Rattle.ep_source.specs.Source.{MeansNothingWithin, Offends}
use Rattle.endport.specs.Certificates.{IsJudged, IsMisspelled, IsVerdictOn, IsVerification, Judges, SpellsOnly}
use Rattle.endport.specs.Certificates.{verdict_status}
use Rattle.endport.specs.Jobs.{MeansOnly}
use Rattle.endport.specs.Numbers.{numbers}
use Rattle.endport.specs.declared.jobs.Job.{Job}
use Rattle.endport.specs.declared.status.Status.{Status}
use Rattle.endport.specs.declared.status.Status.TheVariants.{Done, Alarms, Refused, Usage, ReadFault, WriteFault}
use Rattle.endport.specs.declared.status.Status.TheVariants.{Memory, TooLong, StepsUsedUp, Undefined, InputEnded}
use Rattle.endport.specs.declared.status.Status.TheVariants.{NotVerified, BadCertificate}
use Rattle.ep_certcheck.specs.declared.verdict.Verdict.{Verdict}
use Rattle.ep_certcheck.specs.declared.verdict.Verdict.TheVariants.{Yes, Fault, Outside, Missing, Spare}
use Rattle.endport.proofs.Telling.{other}

-- ---- what the checker asks of a certificate

are_heads : (c : Certificate) (m : Model) (hs : List (Known Numbers)) → m ≡ c.model → Every (IsHead c) hs
    → AreHeadsOf c.orders m hs
are_heads c m [] e k = tt
are_heads c m (h ∷ hs) e k =
    (record { orders = k.0.orders; model = k.0.model ∙ sym e }, are_heads c m hs e k.1)

pub heads_of_it : (c : Certificate) (p : Program) → IsCertificate c → MeansOnly c.model c.source p
    → AreHeadsOf c.orders p.types.model c.heads
heads_of_it c p k m =
    are_heads c p.types.model c.heads (models_are c.model m.means.tree p m.means.means) k.heads

pub others : (c : Certificate) → IsCertificate c → is_order c.orders.0 c.orders.1 ≡ false
others c k = other c.orders.0 c.orders.1 k.orders

-- a head takes four bytes
few_of : (n bytes : ℕ) → 4 * n ≤ bytes → bytes ≤ 16777216 → n < 2 ^ 32
few_of n bytes h k = omega (arith, h, k)

pub few_heads : (bytes : List ℕ) (c : Certificate) → CertSpells bytes c → length bytes ≤ 16777216
    → length c.heads < 2 ^ 32
few_heads bytes c s k = few_of (length c.heads) (length bytes) (heads_within bytes c s) k

pub short : (n : ℕ) → n ≤ 1048576 → n < 2 ^ 24
short n h = omega (arith, h)

-- ---- the verdict

pub yes_of : (v : Verdict) → verdict_status v ≡ Done → v ≡ Yes
yes_of Yes e = refl
yes_of (Fault l k) e = absurd cc
yes_of (Outside h n) e = absurd cc
yes_of (Missing l) e = absurd cc
yes_of (Spare n) e = absurd cc

of_verdict : (c : Certificate) (v : Verdict) (status : Status) (text : List ℕ) → status ≡ verdict_status v
    → Judges c status text → IsJudged c status text
of_verdict c Yes status text e j = rw e (rw e at j)
of_verdict c (Fault l k) status text e j = rw e (rw e at j)
of_verdict c (Outside h n) status text e j = rw e (rw e at j)
of_verdict c (Missing l) status text e j = rw e (rw e at j)
of_verdict c (Spare n) status text e j = rw e (rw e at j)

pub judged : {E : Type 0} (c : Certificate) (p : Program) (r : Result Job E) → ProgramsHaveBytes → KeepsSingles numbers
    → MeansOnly c.model c.source p
    → IfOk r (λ j. IsVerdictOn c p j.status j.text.items)
    → IfOk r (λ j. j.status ≡ Done → AgreeInTheEnd p c.orders.0 c.orders.1)
    → IfOk r (λ j. KeepsSingles numbers → TypesHaveBytes p.types → c.heads ≡ [] → 1 ≤ c.unroll
    → IsClosed p c.orders.0 c.orders.1 (c.unroll - 1) → IsSteady p c.orders.0 c.orders.1 → j.status ≡ Done)
    → IfOk r (λ j. IsJudged c j.status j.text.items)
judged c p (Ok j) sized singles means verdict portable closed =
    of_verdict c verdict.verdict j.status j.text.items verdict.status_is (record {
      program = p;
      means = means;
      verdict = verdict;
      portable = portable;
      closed = closed singles (sized c.model means.means.tree p means.means.means);
    })
judged c p (Err e) sized singles means verdict portable closed = tt

-- ---- a refusal of the source

refused_by : {A : Type 0} (P : Refusal → Type 0) (r : Result A Halt) (h : Halt) (f : Refusal) → r ≡ Err h
    → h ≡ halts.Refused f → IfErr r (λ e. IfRefused e P) → P f
refused_by {A = A} P r h f is g p =
    subst (λ k. IfRefused k P) g (subst (λ (t : Result A Halt). IfErr t (λ e. IfRefused e P)) is p)

-- the source that was read is the certificate's
pub turned_down : {A E : Type 0} (c : Certificate) (source : List ℕ) (r : Result A Halt) (h : Halt) (f : Refusal)
    (j : Result Job E) → source ≡ c.source → r ≡ Err h → h ≡ halts.Refused f
    → IfErr r (λ e. IfRefused e (Offends c.model source))
    → IfErr r (λ e. IfRefused e (λ _. MeansNothingWithin c.model source))
    → IfOk j (λ x. x.status ≡ Refused) → IfOk j (λ x. x.text.items ≡ refusal_line f)
    → IfOk j (λ x. IsJudged c x.status x.text.items)
turned_down c source r h f (Ok x) at is g offends nothing status text =
    rw status (record {
      refusal = f;
      offends =
          subst (λ s. Offends c.model s f) at (refused_by (Offends c.model source) r h f is g offends);
      nothing =
          subst (λ s. MeansNothingWithin c.model s) at
          (refused_by (λ _. MeansNothingWithin c.model source) r h f is g nothing);
      text_is = text;
    })
turned_down c source r h f (Err x) at is g offends nothing status text = tt

-- ---- certificates that bytes spell

-- what is answered of the bytes
abbrev Decides : List ℕ → Option Certificate → Type 0
Decides bytes o = (c : Certificate) → CertSpells bytes c ↔ (o ≡ Some c)

pub spelled : (bytes : List ℕ) (o : Option Certificate) (c : Certificate) → o ≡ Some c → Decides bytes o
    → CertSpells bytes c
spelled bytes o c e d = (d c).1 e

spelled_only : (bytes : List ℕ) (o : Option Certificate) (c : Certificate) → o ≡ Some c → Decides bytes o
    → SpellsOnly bytes c
spelled_only bytes o c e d = record {
  spells = (d c).1 e;
  only = λ x s. let f : Some c ≡ Some x = sym e ∙ (d x).0 s in cc;
}

verified : (bytes : List ℕ) (c : Certificate) (status : Status) (text : List ℕ) → SpellsOnly bytes c
    → IsJudged c status text → IsVerification bytes status text
verified bytes c Done text s j = record { certificate = c; spells = s; is_judged = j }
verified bytes c Alarms text s j = absurd j
verified bytes c Refused text s j = record { certificate = c; spells = s; is_judged = j }
verified bytes c Usage text s j = absurd j
verified bytes c ReadFault text s j = absurd j
verified bytes c WriteFault text s j = absurd j
verified bytes c Memory text s j = absurd j
verified bytes c TooLong text s j = absurd j
verified bytes c StepsUsedUp text s j = absurd j
verified bytes c Undefined text s j = absurd j
verified bytes c InputEnded text s j = absurd j
verified bytes c NotVerified text s j = record { certificate = c; spells = s; is_judged = j }
verified bytes c BadCertificate text s j = absurd j

pub all_verified : {E : Type 0} (bytes : List ℕ) (o : Option Cert) (c : Cert) (r : Result Job E) → o ≡ Some c
    → Decides bytes (option_map shown o) → IfOk r (λ j. IsJudged (shown c) j.status j.text.items)
    → IfOk r (λ j. IsVerification bytes j.status j.text.items)
all_verified bytes o c (Ok j) e d k =
    verified bytes (shown c) j.status j.text.items (spelled_only bytes (option_map shown o) (shown c)
    (ap (option_map shown) e) d) k
all_verified bytes o c (Err x) e d k = tt

pub none_spelled : {E : Type 0} (bytes : List ℕ) (o : Option Cert) (r : Result Job E) → o ≡ None
    → Decides bytes (option_map shown o) → IfOk r (λ j. j.status ≡ BadCertificate)
    → IfOk r (λ j. j.text.items ≡ codes "bad certificate\n") → IfOk r (λ j. IsVerification bytes j.status j.text.items)
none_spelled bytes o (Ok j) e d s t =
    let none : IsMisspelled bytes = λ c k. let f : None ≡ Some (c) = sym (ap (option_map shown) e) ∙ (d c).0 k in cc in
    rw s (none, t)
none_spelled bytes o (Err x) e d s t = tt
