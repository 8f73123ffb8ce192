-- The places that an access may have on each side, and what may go wrong with it
-- (this project's rules, after Miné 2006).
use Rattle.std.specs.Prelude.{ℕ, ◌+◌, Bool, true, false, ◌&&◌, List, [], ◌∷◌, ◌++◌, map, is_some}
use Rattle.ep_alarms.specs.declared.types.AlarmKind.TheVariants.{U5, U6, U7}
use Rattle.ep_domain.specs.Domain.{Ops}
use Rattle.ep_core.specs.Runs.{Side, left, right}
use Rattle.ep_equalities.specs.declared.pair.Mode.{Mode}
use Rattle.ep_equalities.specs.declared.pair.Mode.TheVariants.{Both, Left, Right}
use Rattle.ep_equalities.specs.declared.pair.Fault.{Fault}
use Rattle.ep_equalities.specs.declared.pair.PairValue.{PairValue}
use Rattle.ep_evaluation.specs.Given.{on, shown_if, faults_on}
use Rattle.ep_evaluation.specs.Accesses.{spots, bounds_of, may_be_odd}
use Rattle.ep_cell_ranges.specs.Spots.{Spot}
use Rattle.ep_evaluation.specs.Evaluation.{pointer, targets_of, is_null}

-- the places of each side, in rising order
pub record Places : Type 0 where
  pub left : List Spot
  pub right : List Spot

abbrev pub at_side : Places → Side → List Spot
at_side p left = p.left
at_side p right = p.right

-- what holds on each running side
abbrev pub on_all : Mode → (Side → Bool) → Bool
on_all Both f = f left && f right
on_all Left f = f left
on_all Right f = f right

abbrev pub is_some_place : List Spot → Bool
is_some_place [] = false
is_some_place (q ∷ qs) = true

-- each running side has a place
abbrev pub has_places : Mode → Places → Bool
has_places m p = on_all m (λ s. is_some_place (at_side p s))

-- each running side has a value
abbrev pub has_values : {N : Type 0} → Mode → PairValue N → Bool
has_values m v = on_all m (λ s. is_some (on v s).value)

abbrev pub is_one : List Spot → Bool
is_one [] = false
is_one (q ∷ []) = true
is_one (q ∷ r ∷ qs) = false

-- ---- so many bytes further on

abbrev pub moved_spot : (bytes : ℕ) → Spot → Spot
moved_spot k q = (q.0, q.1 + k)

abbrev pub moved_spots : (bytes : ℕ) → List Spot → List Spot
moved_spots k qs = map (moved_spot k) qs

abbrev pub moved_places : (bytes : ℕ) → Places → Places
moved_places k p = record { left = moved_spots k p.left; right = moved_spots k p.right }

-- ---- an access of n bytes; an aligned one at multiples of n alone

module _ {N : Type 0} (D : Ops N) (sizes : List ℕ) where
  abbrev pub places_of : (n step : ℕ) → PairValue N → Places
  places_of n step a = record {
    left = spots D sizes n step (targets_of D sizes (pointer D a.left));
    right = spots D sizes n step (targets_of D sizes (pointer D a.right));
  }

  abbrev pub range_faults : Mode → (n : ℕ) → PairValue N → List Fault
  range_faults m n a =
      faults_on m U6 (λ s. shown_if (is_null D sizes (pointer D (on a s))))
      ++ faults_on m U5 (λ s. bounds_of D sizes n (targets_of D sizes (pointer D (on a s))))

  abbrev pub aligned_faults : Mode → (n : ℕ) → PairValue N → List Fault
  aligned_faults m n a =
      range_faults m n a ++ faults_on m U7 (λ s. shown_if (may_be_odd D n (targets_of D sizes (pointer D (on a s)))))
