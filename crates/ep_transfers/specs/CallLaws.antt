-- The laws of calls up to their bodies, and of the beginning of main.
use Rattle.std.specs.Prelude.{◌≡◌, ℕ, true, List, [], Some, slice_get}
use Rattle.ep_int.specs.declared.types.Order.{Order}
use Rattle.ep_domain.specs.Domain.{Ops}
use Rattle.ep_cells.specs.States.{Known}
use Rattle.ep_core.specs.Program.{Expr, Function, Program}
use Rattle.ep_core.specs.Exec.{State, on}
use Rattle.ep_core.specs.Runs.{Side, left, right, initial}
use Rattle.ep_core.specs.WellFormed.{arguments_fit}
use Rattle.ep_pass.specs.States.{Both, One}
use Rattle.ep_pass.specs.Laws.{ConcretisesTyped, ConcretisesTypedBeside, Meets, MeetsAlone, passes}
use Rattle.ep_transfers.specs.Cells.{cell_ops}
use Rattle.ep_transfers.specs.Laws.{StandsFor}

module _ {N : Type 0} (D : Ops N) (p : Program) (ord : Side → Order) where
  -- without a fault, the arguments of a typed call go to its parameters, on both machines or on one
  pub record ArgumentsHold : Type 0 where
    pub sound : (k : ℕ) (f : Function) → slice_get p.functions k ≡ Some f → (es : List Expr) (seen : List ℕ)
        → arguments_fit p.types p.blocks seen f.params es ≡ true → (l n m : ℕ) (s : Known N) (x y : State)
        → ConcretisesTyped p (StandsFor D p ord) s x y → ((cell_ops D p ord).arguments Both f es s).faults ≡ []
        → Meets p (StandsFor D p ord) on ((cell_ops D p ord).arguments Both f es s).next n m
        (passes (ord left) p f es l n x) (passes (ord right) p f es l m y)
    pub alone : (i : Side) (k : ℕ) (f : Function) → slice_get p.functions k ≡ Some f → (es : List Expr)
        (seen : List ℕ) → arguments_fit p.types p.blocks seen f.params es ≡ true → (l n : ℕ) (s : Known N) (x y : State)
        → ConcretisesTypedBeside p (StandsFor D p ord) i s x y → ((cell_ops D p ord).arguments (One i) f es s).faults
        ≡ []
        → MeetsAlone p (StandsFor D p ord) i on ((cell_ops D p ord).arguments (One i) f es s).next n y
        (passes (ord i) p f es l n x)

  -- both machines begin main as the entry says
  pub record EntryHolds : Type 0 where
    pub entry_in : StandsFor D p ord (cell_ops D p ord).entry (initial (ord left) p) (initial (ord right) p)
