-- Loads, in two parts.
use Rattle.std.specs.Prelude.{ℕ, Bool, ◌&&◌, List, ◌++◌}
use Rattle.ep_alarms.specs.declared.types.AlarmKind.TheVariants.{U5, U6, U7}
use Rattle.ep_domain.specs.Domain.{Ops}
use Rattle.ep_equalities.specs.declared.pair.Mode.{Mode}
use Rattle.ep_equalities.specs.declared.pair.Mode.TheVariants.{Both, Left, Right}
use Rattle.ep_equalities.specs.declared.pair.Fault.{Fault}
use Rattle.ep_equalities.specs.declared.pair.PairValue.{PairValue}
use Rattle.ep_evaluation.specs.Given.{on, faults_on, shown_if}
use Rattle.ep_evaluation.specs.Accesses.{bounds_of, may_be_odd}
use Rattle.ep_evaluation.specs.Evaluation.{pointer, targets_of, is_null}

-- what may go wrong with an address of n bytes
abbrev pub address_faults : {N : Type 0} → Ops N → (sizes : List ℕ) → (n : ℕ) → Mode → PairValue N → List Fault
address_faults D sizes n m x =
    faults_on m U6 (λ s. shown_if (is_null D sizes (pointer D (on x s))))
    ++ (faults_on m U5 (λ s. bounds_of D sizes n (targets_of D sizes (pointer D (on x s))))
    ++ faults_on m U7 (λ s. shown_if (may_be_odd D n (targets_of D sizes (pointer D (on x s))))))

-- what holds of each running side
abbrev pub all_shared_by : Mode → (on_left on_right : Bool) → Bool
all_shared_by Both a b = a && b
all_shared_by Left a b = a
all_shared_by Right a b = b
