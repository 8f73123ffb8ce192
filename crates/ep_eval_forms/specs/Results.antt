-- What calls have given of what expressions mean. Faults that they added (new) stand behind those that were there
-- (old).
use Rattle.std.specs.Prelude.{◌≡◌, Bool, true, false, List, ◌++◌, Option, IfSome}
use Rattle.ep_domain.specs.Domain.{Ops}
use Rattle.ep_cells.specs.States.{Known, IsOfSort}
use Rattle.ep_core.specs.Runs.{Side}
use Rattle.ep_equalities.specs.declared.pair.Fault.{Fault}
use Rattle.ep_equalities.specs.declared.pair.Mode.{Mode}
use Rattle.ep_equalities.specs.declared.pair.PairValue.{PairValue}
use Rattle.ep_evaluation.specs.Given.{Given, alone}
use Rattle.ep_evaluation.specs.Narrowed.{then_with}
use Rattle.ep_evaluation.specs.Evaluation.{Means, Reaches, later_faults}
use Rattle.ep_eval_parts.specs.After.{left_of}
use Rattle.ep_eval_parts.specs.declared.left.Assumed.{Assumed}
use Rattle.ep_eval_parts.specs.declared.left.Second.{Second}
use Rattle.ep_eval_parts.specs.declared.left.Wants.{Wants}
use Rattle.ep_eval_parts.specs.declared.modes.First.{First}
use Rattle.ep_eval_parts.specs.declared.operands.Operand.{Operand}
use Rattle.ep_eval_parts.specs.Steps.{LeadsOn, given_second, pair_if}

module _ {N : Type 0} where
  -- an expression or a place, in a mode
  pub record IsGiven (f : Reaches N) (m : Mode) (k : Known N) (old new : List Fault) (r : PairValue N) : Type 0 where
    pub value : r ≡ (f m k).pair
    pub faults : new ≡ old ++ (f m k).faults

  -- a test on one side, and what it leaves for each truth that is asked for
  pub record IsTested (a : Means N) (s : Side) (k : Known N) (w : Wants) (old new : List Fault)
      (r : Assumed N) : Type 0 where
    pub value : r.value ≡ (a.gives (alone s) k).pair
    pub faults : new ≡ old ++ (a.gives (alone s) k).faults
    pub yes : w.yes ≡ true → left_of k r.when_true ≡ a.assumes s true k
    pub no : w.no ≡ true → left_of k r.when_false ≡ a.assumes s false k

  -- an operand on one side, with its cell
  pub record IsOperand (a : Means N) (s : Side) (k : Known N) (old new : List Fault) (r : Operand N) : Type 0 where
    pub value : r.value ≡ (a.gives (alone s) k).pair
    pub faults : new ≡ old ++ (a.gives (alone s) k).faults
    pub cell : r.cell ≡ a.cell s k
    pub sort : IfSome r.cell (λ c. IsOfSort c.what c.value)

  module _ (D : Ops N) where
    -- a first operand, and where the next one is evaluated
    pub record IsFirst (a : Means N) (m : Mode) (k : Known N) (w : Wants) (old new : List Fault)
        (r : First N) : Type 0 where
      pub value : r.value ≡ (a.gives m k).pair
      pub faults : new ≡ old ++ (a.gives m k).faults
      pub yes : w.yes ≡ true → LeadsOn D a m true k r.mode_true (left_of k r.when_true)
      pub no : w.no ≡ true → LeadsOn D a m false k r.mode_false (left_of k r.when_false)

    -- an operand that is evaluated later, if at all
    pub record IsLater (g : Option (Given N)) (old new : List Fault) (r : Option (PairValue N)) : Type 0 where
      pub value : r ≡ pair_if g
      pub faults : new ≡ old ++ later_faults D g

    -- the second operand of `&&` or `||` on one side, in what the first one leaves (o)
    pub record IsSecond (b : Means N) (s : Side) (runs : Bool) (o : Option (Known N)) (k : Known N)
        (w : Wants) (old new : List Fault) (r : Second N) : Type 0 where
      pub value : r.value ≡ pair_if (given_second D b s runs o)
      pub faults : new ≡ old ++ later_faults D (given_second D b s runs o)
      pub yes : w.yes ≡ true → left_of k r.when_true ≡ then_with o (b.assumes s true)
      pub no : w.no ≡ true → left_of k r.when_false ≡ then_with o (b.assumes s false)
