-- Steps that are made where what is known is told for the program.
use Rattle.std.proofs.Common.{◌≡◌, ℕ, Bool, true, false, List, [], ◌∷◌, map, fold, Option, None, refl, sym, ap, ◌∙◌}
use Rattle.ep_alarms.specs.declared.types.Alarm.{Alarm}
use Rattle.ep_alarms.specs.Report.{added}
use Rattle.ep_cells.specs.States.{Known}
use Rattle.ep_domain.specs.Domain.{Ops}
use Rattle.ep_equalities.specs.declared.pair.Fault.{Fault}
use Rattle.ep_evaluation.specs.Evaluation as evaluation
use Rattle.ep_evaluation.specs.Given.{Given}
use Rattle.ep_equalities.specs.declared.pair.Mode.{Mode}
use Rattle.ep_pass.specs.Pass.{alarms_at}
use Rattle.ep_pass.specs.States.{Tested, Verdict, stuck}
use Rattle.ep_transfers.specs.Transfers.{Stepped}
use Rattle.ep_transfers.specs.Cells.{told_of, when_known, test_when_known}
use Rattle.ep_cell_walks.specs.Alarms.{told, alarms_with}

module _ {N : Type 0} (D : Ops N) where
  told_same : (fs : List Fault) → map told fs ≡ map (evaluation.told D) fs
  told_same [] = refl
  told_same (f ∷ fs) = ap (λ gs. told f ∷ gs) (told_same fs)

  with_faults : (l : ℕ) (old : List Alarm) (fs gs : List Fault) → fs ≡ gs
      → alarms_with old l fs ≡ fold added old (alarms_at l (map (evaluation.told D) gs))
  with_faults l old fs gs e =
      ap (λ hs. fold added old (alarms_at l hs)) (told_same fs)
      ∙ ap (λ hs. fold added old (alarms_at l (map (evaluation.told D) hs))) e

  -- ---- statements

  pub made_faults : (b : Bool) (s : Stepped N) (l : ℕ) (old new : List Alarm) (fs : List Fault) → b ≡ true
      → fs ≡ s.faults → new ≡ alarms_with old l fs
      → new ≡ fold added old (alarms_at l (told_of D (when_known b s)).faults)
  made_faults true s l old new fs e f h = h ∙ with_faults l old fs s.faults f
  made_faults false s l old new fs e f h = absurd cc

  pub unmade_faults : (b : Bool) (s : Stepped N) (l : ℕ) (old : List Alarm) → b ≡ false
      → old ≡ fold added old (alarms_at l (told_of D (when_known b s)).faults)
  unmade_faults true s l old e = absurd cc
  unmade_faults false s l old e = refl

  pub made_next : (b : Bool) (s : Stepped N) (r : Option (Known N)) → b ≡ true → r ≡ s.next
      → r ≡ (told_of D (when_known b s)).next
  made_next true s r e f = f
  made_next false s r e f = absurd cc

  pub unmade_next : (b : Bool) (s : Stepped N) → b ≡ false → None ≡ (told_of D (when_known b s)).next
  unmade_next true s e = absurd cc
  unmade_next false s e = refl

  -- ---- tests

  pub tested_faults : (b : Bool) (m : Mode) (x : Given N) (l : ℕ) (old new : List Alarm) (fs : List Fault) → b ≡ true
      → fs ≡ x.faults → new ≡ alarms_with old l fs
      → new ≡ fold added old (alarms_at l (test_when_known b (evaluation.tested D m x)).faults)
  tested_faults true m x l old new fs e f h = h ∙ with_faults l old fs x.faults f
  tested_faults false m x l old new fs e f h = absurd cc

  pub untested_faults : (b : Bool) (t : Tested) (l : ℕ) (old : List Alarm) → b ≡ false
      → old ≡ fold added old (alarms_at l (test_when_known b t).faults)
  untested_faults true t l old e = absurd cc
  untested_faults false t l old e = refl
