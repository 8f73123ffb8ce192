-- In a good state each expression and each place of a tame program is the same on both machines.
use Rattle.std.specs.Prelude.{◌≡◌, ℕ, true, List}
use Rattle.ep_int.specs.declared.types.Order.{Order}
use Rattle.ep_domain.specs.Domain.{Ops}
use Rattle.ep_cells.specs.States.{Known}
use Rattle.ep_core.specs.Program.{Expr, Place, Program}
use Rattle.ep_core.specs.Runs.{Side}
use Rattle.ep_core.specs.WellFormed.{Sort, has_sort, place_has}
use Rattle.ep_kinds.specs.Tame.{is_tame_expr, is_tame_place}
use Rattle.ep_tame_laws.specs.Tamely.{AreAmong}
use Rattle.ep_tame_states.specs.States.{IsGood}
use Rattle.ep_tame_twins.specs.Twins.{ExprTwin, PlaceTwin}

pub record TwinLaws {N : Type 0} (D : Ops N) (p : Program) (ord : Side → Order) : Type 0 where
  pub expressions : (seen live res : List ℕ) → AreAmong seen live → (e : Expr) (x : Sort)
      → has_sort p.types p.blocks seen e x ≡ true → is_tame_expr p.types e ≡ true → (h k : Known N)
      → IsGood D p ord h live res k → ExprTwin D p seen live e k
  pub places : (seen live res : List ℕ) → AreAmong seen live → (a : Place) (ty : ℕ)
      → place_has p.types p.blocks seen a ty ≡ true → is_tame_place p.types a ≡ true → (h k : Known N)
      → IsGood D p ord h live res k → PlaceTwin D p seen live a k
