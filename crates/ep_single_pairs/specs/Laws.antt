-- Pairs of values that can be one alone (this project's rules).
use Rattle.std.specs.Prelude.{◌≡◌, true, false, [], Some}
use Rattle.ep_int.specs.declared.types.Scalar.{Scalar}
use Rattle.ep_int.specs.Memory.{Value as Datum}
use Rattle.ep_domain.specs.Domain.{Ops}
use Rattle.ep_cells.specs.Meaning.{Allows}
use Rattle.ep_core.specs.Runs.{Side}
use Rattle.ep_equalities.specs.declared.pair.Mode.{Mode}
use Rattle.ep_equalities.specs.declared.pair.PairValue.{PairValue}
use Rattle.ep_equalities.specs.Same.{is_same}
use Rattle.ep_evaluation.specs.Given.{Given, runs, on}
use Rattle.ep_evaluation.specs.Evaluation.{tested}
use Rattle.ep_pass.specs.Laws.{GoesOn}
use Rattle.ep_singles.specs.Cells.{IsOneValue}

module _ {N : Type 0} (D : Ops N) where
  -- both can be one value alone, and it is the same
  abbrev pub SamesAreKnown : Type 0
  SamesAreKnown =
      (x : PairValue N) (w : Scalar) (v : Datum) → IsOneValue D x.left.value → IsOneValue D x.right.value
      → Allows D w x.left.value false (Some v) → Allows D w x.right.value false (Some v) → is_same D x ≡ true

  -- where each running side has a value, without a fault
  abbrev pub TestsGoOn : Type 0
  TestsGoOn =
      (mode : Mode) (x : Given N) → x.faults ≡ []
      → ((s : Side) → runs mode s ≡ true → IsOneValue D (on x.pair s).value)
      → ((tested D mode x).faults ≡ []) × GoesOn (tested D mode x).verdict
