-- The report of a list of faults, in the order of their coming.
use Rattle.std.proofs.Common.{◌≡◌, Bool, true, false, List, [], ◌∷◌, fold, refl, if◌then◌else◌}
use Rattle.ep_alarms.specs.declared.types.Alarm.{Alarm}
use Rattle.ep_alarms.specs.Alarm.{before, joined}
use Rattle.ep_alarms.specs.Report.{added, gathered}

never_empty : (b c : Bool) (x y z : Alarm) (xs ys zs : List Alarm) → (if b then x ∷ xs else if c then y ∷ ys else z ∷ zs) ≡ [] → ⊥
never_empty true c x y z xs ys zs e = cc
never_empty false true x y z xs ys zs e = cc
never_empty false false x y z xs ys zs e = cc

added_some : (alarms : List Alarm) (a : Alarm) → added alarms a ≡ [] → ⊥
added_some [] a e = cc
added_some (b ∷ bs) a e = never_empty (before b a) (before a b) b a (joined b a) (added bs a) (b ∷ bs) bs e

fold_some : (alarms faults : List Alarm) → (alarms ≡ [] → ⊥) → fold added alarms faults ≡ [] → ⊥
fold_some alarms [] n e = n e
fold_some alarms (a ∷ more) n e = fold_some (added alarms a) more (added_some alarms a) e

-- an empty report is that of no fault
pub no_faults : (faults : List Alarm) → gathered faults ≡ [] → faults ≡ []
no_faults [] e = refl
no_faults (a ∷ more) e = absurd (fold_some (added [] a) more (added_some [] a) e)
