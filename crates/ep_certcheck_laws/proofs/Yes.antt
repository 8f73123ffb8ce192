-- A yes means that nothing was found, so the machines agree.
use Rattle.std.proofs.Common.{◌≡◌, ℕ, List, [], ◌∷◌, refl}
use Rattle.ep_pass.specs.Laws.{ConcretisesTyped}
use Rattle.ep_pass.specs.Pass.{Event, alarm, outside, missing, all_faults}
use Rattle.ep_pass.specs.ReportLaws.{Operations, AreLawful}
use Rattle.ep_int.specs.Memory.{Memory}
use Rattle.ep_int.specs.declared.types.Order.{Order}
use Rattle.ep_core.specs.Program.{Program}
use Rattle.ep_core.specs.Runs.{Side}
use Rattle.ep_pass.proofs.Keeping.{sure}
use Rattle.ep_pass.proofs.Sound.{nothing_found}
use Rattle.ep_certcheck_laws.specs.Checked.{yes, answer_of, with_least_faults, given}
use Rattle.ep_certcheck_laws.specs.Laws.{CheckedProgramsAgree}
use Rattle.ep_certcheck_laws.proofs.Least.{least_lawful}
use Rattle.ep_certcheck_laws.proofs.Given.{given_sound}

yes_finds_nothing : (es : List Event) (n k : ℕ) → answer_of es n k ≡ yes → es ≡ []
yes_finds_nothing [] n k e = refl
yes_finds_nothing (alarm a ∷ es) n k e = absurd cc
yes_finds_nothing (outside l h c ∷ es) n k e = absurd cc
yes_finds_nothing (missing l ∷ es) n k e = absurd cc

pub checked_agree : {S : Type 0} (ops : Operations S) (In : Program → (Side → Order) → S → Memory → Memory → Type 0)
    → AreLawful S ops In → CheckedProgramsAgree S ops
checked_agree ops In laws p ord formed other first_outside u hs e =
    let o = with_least_faults (ops p ord) in
    let law = least_lawful p ord (ops p ord) (In p ord) (laws p ord formed other) in
    let heads = given o first_outside hs in
    nothing_found p formed ord o (In p ord) law u heads
    (given_sound p ord o (ConcretisesTyped p (In p ord)) (sure p formed ord o (In p ord) law) first_outside hs)
    (yes_finds_nothing (all_faults o u heads ord p) _ _ e)
