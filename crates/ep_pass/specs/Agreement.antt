-- What it means that two machines agree also in the end.
use Rattle.std.specs.Prelude.{◌≡◌, ℕ, List}
use Rattle.ep_int.specs.declared.types.Order.{Order}
use Rattle.ep_core.specs.Program.{Program}
use Rattle.ep_core.specs.Runs.{Run, run, IsOver, Begins, AreInputs, Agree, AgreeAlong}

-- A run, and one of another machine that comes as far: it has put out as much, and where the first is over, it is over
-- too, with the same ending and outputs.
pub record ComesAsFar (x y : Run) : Type 0 where
  pub outputs : Begins x.outputs y.outputs
  pub over : IsOver x.ending → (x.ending ≡ y.ending) × (x.outputs ≡ y.outputs)

-- However far the first machine comes, the second comes as far.
abbrev pub Follows : Program → (a b : Order) → Type 0
Follows p a b =
    (inputs : List ℕ) → AreInputs inputs → (n : ℕ) → (m : ℕ) × ComesAsFar (run p a inputs n) (run p b inputs m)

-- The machines agree at all numbers of steps, at each moment of every interleaving, and in the end.
pub record AgreeInTheEnd (p : Program) (a b : Order) : Type 0 where
  pub so_far : Agree p a b
  pub along : AgreeAlong p a b
  pub left_first : Follows p a b
  pub right_first : Follows p b a
