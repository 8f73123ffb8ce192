-- What an answer means.
use Rattle.std.proofs.Common.{◌≡◌, ℕ, ◌-◌, ◌≤◌, false, List, [], IsTrue, refl, sym, ap, ◌∙◌, subst}
use Rattle.ep_int.specs.declared.types.Order.{Order}
use Rattle.ep_domain.specs.Domain.{Ops}
use Rattle.ep_cells.specs.States.{Known}
use Rattle.ep_core.specs.Exec.{is_order}
use Rattle.ep_core.specs.Program.{Program}
use Rattle.ep_core.specs.WellFormed.{is_well_formed}
use Rattle.ep_flows.specs.View.{orders}
use Rattle.ep_kinds.specs.Steady.{IsClosed, IsSteady}
use Rattle.ep_pass.specs.Agreement.{AgreeInTheEnd}
use Rattle.ep_pass.specs.ReportLaws.{AreLawful}
use Rattle.ep_transfers.specs.Cells.{cell_ops}
use Rattle.ep_transfers.specs.Laws.{StandsFor}
use Rattle.ep_closed_laws.specs.Laws.{TypesHaveBytes}
use Rattle.ep_closed_numbers.specs.Laws.{CellsAreExact}
use Rattle.ep_single_states.specs.Laws.{ConcretisesOne}
use Rattle.ep_singles.specs.Numbers.{KeepsSingles}
use Rattle.ep_certcheck_laws.specs.Checked.{yes, fault, is_outside, is_missing, spare}
use Rattle.ep_certcheck_laws.proofs.Yes.{checked_agree}
use Rattle.ep_closed_checks.proofs.Passes.{closed_pass}
use Rattle.ep_certcheck.specs.declared.verdict.Verdict.{Verdict}
use Rattle.ep_certcheck.specs.declared.verdict.Verdict.TheVariants.{Yes, Fault, Outside, Missing, Spare}
use Rattle.ep_certcheck.specs.Verdict.{IsVerdict, answer, first_failed}

module _ {N : Type 0} (D : Ops N) (p : Program) (a b : Order) (u : ℕ) where
  yes_alone : (hs : List (Known N)) (v : Verdict) → IsVerdict D p a b u hs v → answer D p a b u hs ≡ yes → v ≡ Yes
  yes_alone hs Yes h e = refl
  yes_alone hs (Fault l k) h e = absurd (let q : yes ≡ fault l k = sym e ∙ h in cc)
  yes_alone hs (Outside n name) h e = absurd (let q : yes ≡ is_outside n h.cell = sym e ∙ h.answer_is in cc)
  yes_alone hs (Missing l) h e = absurd (let q : yes ≡ is_missing l = sym e ∙ h in cc)
  yes_alone hs (Spare n) h e = absurd (let q : yes ≡ spare n = sym e ∙ h in cc)

  module _ (formed : IsTrue (is_well_formed p)) (other : is_order a b ≡ false) (hs : List (Known N)) (v : Verdict)
      (told : IsVerdict D p a b u hs v) where
    pub agreed : AreLawful (Known N) (cell_ops D) (StandsFor D) → v ≡ Yes → AgreeInTheEnd p a b
    agreed laws e =
        checked_agree (cell_ops D) (StandsFor D) laws p (orders a b) formed other (first_failed D) u hs
        (subst (λ w. IsVerdict D p a b u hs w) e told)

    pub closed_yes : CellsAreExact D → KeepsSingles D → TypesHaveBytes p.types → hs ≡ [] → 1 ≤ u
        → IsClosed p a b (u - 1) → IsSteady p a b → v ≡ Yes
    closed_yes laws keeps bytes none some closed steady =
        yes_alone hs v told
        (ap (λ gs. answer D p a b u gs) none
        ∙ closed_pass (cell_ops D) (ConcretisesOne D) (laws keeps) p (orders a b) formed bytes other (first_failed D) u
        some closed steady)
