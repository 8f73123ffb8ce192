-- From what was found to the certificate or the report.
use Rattle.std.proofs.Common.{◌≡◌, refl, sym, ap, ◌∙◌, subst, true, IsTrue, ℕ, List, [], ◌∷◌, Result, Ok, Err, IfOk}
use Rattle.ep_alarms.specs.declared.types.Alarm.{Alarm}
use Rattle.ep_alarms.specs.Text.{report_text_of}
use Rattle.ep_cells.specs.States.{Known}
use Rattle.ep_cert.specs.Certificate.{Certificate, CertSpells, IsCertificate, cert_bytes, certificate_of}
use Rattle.ep_cert_cells.specs.Numbers.{Numbers}
use Rattle.ep_closed_laws.specs.Laws.{TypesHaveBytes}
use Rattle.ep_core.specs.Program.{Program}
use Rattle.ep_core.specs.Runs.{Agree}
use Rattle.ep_int.specs.declared.types.Model.{Model}
use Rattle.ep_int.specs.declared.types.Order.{Order}
use Rattle.ep_iterator.specs.Reports.{AllMayStand}
use Rattle.ep_kinds.specs.Steady.{IsClosed, IsSteady}
use Rattle.ep_kinds.specs.Tame.{is_tame}
use Rattle.ep_movers.specs.Movers.{is_mover_text}
use Rattle.ep_pass.specs.Agreement.{AgreeInTheEnd}
use Rattle.ep_sized_types.specs.Laws.{ProgramsHaveBytes}
use Rattle.ep_straight_laws.specs.Laws.{has_little}
use Rattle.ep_straight_laws.specs.Straight.{is_straight}
use Rattle.ep_tame_laws.specs.Tamely.{IsUndefinedOnly}
use Rattle.endport.specs.Certificates.{IsProof, Proves, certificate_on}
use Rattle.endport.specs.Check.{Asked, Reports, alarms_of, report_status}
use Rattle.endport.specs.Jobs.{MeansOnly}
use Rattle.endport.specs.declared.jobs.Job.{Job}
use Rattle.endport.specs.declared.status.Status.{Status}
use Rattle.endport.specs.declared.status.Status.TheVariants.{Done, Alarms}

-- ---- certificates

pub spelling : (c : Certificate) → IsCertificate c → (bytes : List ℕ) × CertSpells bytes c
spelling c k = (cert_bytes c, record { certificate = k; bytes_are = refl })

-- a certificate of the same parts
pub same_parts : (text : List ℕ) (c : Certificate) (os : Order × Order) (m : Model) (u : ℕ) (hs ks : List (Known Numbers))
    (s t : List ℕ) → CertSpells text c → c ≡ certificate_of os m u hs s → hs ≡ ks → s ≡ t
    → CertSpells text (certificate_of os m u ks t)
same_parts text c os m u hs ks s t k e f g =
    subst (λ x. CertSpells text x)
    (e ∙ ap (λ x. certificate_of os m u x s) f ∙ ap (λ x. certificate_of os m u ks x) g) k

-- ---- a text and a status

-- the two statuses of a report are different
pub not_both : {A : Type 0} (s : Status) → s ≡ Done → s ≡ Alarms → A
not_both s e f = absurd (let g : Done ≡ Alarms = sym e ∙ f in cc)

one_of : (a : Asked) (source : List ℕ) (alarms : List Alarm) (status : Status) (text : List ℕ)
    → status ≡ report_status alarms → (status ≡ Done → Proves a source text)
    → (status ≡ Alarms → Reports a source Alarms text) → IsProof a source status text
one_of a source [] status text e f g = let k = f e in rw e k
one_of a source (b ∷ more) status text e f g = let k = g e in rw e k

module _ (a : Asked) (source : List ℕ) (p : Program) (sized : ProgramsHaveBytes) (means : MeansOnly a.model source p)
    (tame : IsTrue (is_tame p) → IsUndefinedOnly (alarms_of a p))
    (closed : TypesHaveBytes p.types → IsClosed p a.left a.right a.unroll → IsSteady p a.left a.right
    → alarms_of a p ≡ [])
    (straight : IsTrue (is_straight p) → has_little a.left a.right ≡ true → Agree p a.left a.right → alarms_of a p ≡ [])
    (mover : IsTrue (is_mover_text p a.left a.right) → Agree p a.left a.right → alarms_of a p ≡ [])
  where
    told : (status : Status) (text : List ℕ) → text ≡ report_text_of (alarms_of a p)
        → status ≡ report_status (alarms_of a p) → (status ≡ Done → AgreeInTheEnd p a.left a.right)
        → AllMayStand true p (alarms_of a p) → Reports a source status text
    told status text t e agree stand = record {
      program = p;
      means = means;
      text_is = t;
      status_is = e;
      portable = agree;
      stand = stand;
      tame = λ k. tame;
      closed = λ k c s. e ∙ ap report_status (closed (sized a.model means.means.tree p means.means.means) c s);
      straight = λ k m l g. e ∙ ap report_status (straight m l g);
      mover = λ k m g. e ∙ ap report_status (mover m g);
    }

    pub proven : {E : Type 0} (r : Result Job E) → IfOk r (λ j. j.status ≡ report_status (alarms_of a p))
        → IfOk r (λ j. j.status ≡ Alarms → j.text.items ≡ report_text_of (alarms_of a p))
        → IfOk r (λ j. j.status ≡ Done → CertSpells j.text.items (certificate_on a p source))
        → IfOk r (λ j. j.status ≡ Done → AgreeInTheEnd p a.left a.right)
        → IfOk r (λ _. AllMayStand true p (alarms_of a p)) → IfOk r (λ j. IsProof a source j.status j.text.items)
    unfolding told
    proven (Ok j) status report spells agree stand =
        one_of a source (alarms_of a p) j.status j.text.items status
        (λ e. record {
          report = report_text_of (alarms_of a p);
          reports = told Done (report_text_of (alarms_of a p)) refl (sym e ∙ status) (λ _. agree e) stand;
          spells = spells e;
        })
        (λ e. told Alarms j.text.items (report e) (sym e ∙ status) (λ f. not_both Alarms f refl) stand)
    proven (Err e) status report spells agree stand = tt
